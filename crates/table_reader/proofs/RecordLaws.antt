-- How the records that a reader has left go on from one read to the next.
use Rattle.std.proofs.Common.{Bor, ◌≡◌, ℕ, suc, ◌+◌, ◌-◌, ◌<◌, arith, List, [], ◌∷◌, Option, Some, None, IsSome, Bool, true, false, refl, inl}
use Rattle.csv.specs.Machine.{Read, next_record}
use Rattle.csv.specs.Reading.{NextIs, ReadRecord, ReadsNext, default_config, pending_of, records_from, records_next, took_first}
use Rattle.csv.specs.declared.parser.State.{State}
use Rattle.csv.specs.declared.reader.Reader.{Reader}
use Rattle.table_reader.specs.Records.{Fields}
use Rattle.table_reader.specs.inside.Reading.{IsReading, records_after, records_left, records_with, unread}

-- what `next_record` gives decides the first of the records
next_decides : (n : ℕ) (next : Option Read) (found : Bool) (fields : Fields) (state : State) (rest : List ℕ) → NextIs next found fields state rest
    → records_next (records_from default_config n) next ≡ records_with found fields (records_from default_config n state rest)
next_decides n None found fields state rest is = rw is refl
next_decides n (Some read) found fields state rest is = rw (is.0, is.1, is.2, is.3) refl

after_read : (n : ℕ) (before after : State) (old new : Option (List ℕ)) (found : Bool) (fields : Fields) → IsSome old
    → ReadsNext default_config before old new found fields after
    → records_after (suc n) before old ≡ records_with found fields (records_after n after new)
unfolding records_from
after_read n before after None new found fields known read = cc known
after_read n before after (Some xs) None found fields known read = absurd read
after_read n before after (Some xs) (Some ys) found fields known read =
    next_decides n (next_record default_config before [] [] xs) found fields after ys read

still_known : (before after : State) (old new : Option (List ℕ)) (found : Bool) (fields : Fields) → IsSome old
    → ReadsNext default_config before old new found fields after → IsSome new
still_known before after None new found fields known read = cc known
still_known before after (Some xs) None found fields known read = absurd read
still_known before after (Some xs) (Some ys) found fields known read = refl

-- a reader that has looked for the byte order mark has its buffer and what follows it left
nothing_skipped : (reader : Reader (Bor (List ℕ))) → reader.bom_checked ≡ true
    → unread reader ≡ pending_of (Some reader.rdr.now) reader
nothing_skipped reader looked = rw looked refl

-- one read, found or not, tells the first of the records that were left
pub one_read : (n : ℕ) (old new : Reader (Bor (List ℕ))) (found : Bool) (fields : Fields) → IsReading old
    → ReadRecord (λ (s : Bor (List ℕ)). Some s.now) old new found fields
    → records_left (suc n) old ≡ records_with found fields (records_left n new)
one_read n old new found fields reading read =
    let step = rw reading.defaults at read.0 in
    rw (nothing_skipped new read.1)
    (after_read n old.state new.state (unread old) (pending_of (Some new.rdr.now) new) found fields reading.goes_on step)

-- a reader goes on after a read
pub goes_on : (old new : Reader (Bor (List ℕ))) (found : Bool) (fields : Fields) → IsReading old
    → ReadRecord (λ (s : Bor (List ℕ)). Some s.now) old new found fields → took_first new ≡ true → IsReading new
goes_on old new found fields reading read first =
    let step = rw reading.defaults at read.0 in
    let pending = still_known old.state new.state (unread old) (pending_of (Some new.rdr.now) new) found fields reading.goes_on step in
    record {
      defaults = rw read.2 reading.defaults;
      untrimmed = rw read.3 reading.untrimmed;
      ready = inl first;
      goes_on = rw (nothing_skipped new read.1) pending;
    }

pub ruleset record_by_record = (one_read, goes_on)

-- the records that are left where a read found none
pub none_left : (limit row : ℕ) (old new : Reader (Bor (List ℕ))) (found : Bool) (fields : Fields) → row < limit
    → ((n : ℕ) → records_left (suc n) old ≡ records_with found fields (records_left n new)) → found ≡ false
    → records_left (limit - row) old ≡ []
none_left limit row old new found fields below read none =
    let left : limit - row ≡ suc (limit - (row + 1)) = omega arith in
    rw (left, read (limit - (row + 1)), none) refl

-- the records that are left where a read found one
pub one_left : (limit row : ℕ) (old new : Reader (Bor (List ℕ))) (found : Bool) (fields : Fields) → row < limit
    → ((n : ℕ) → records_left (suc n) old ≡ records_with found fields (records_left n new)) → found ≡ true
    → records_left (limit - row) old ≡ fields ∷ records_left (limit - (row + 1)) new
one_left limit row old new found fields below read some =
    let left : limit - row ≡ suc (limit - (row + 1)) = omega arith in
    rw (left, read (limit - (row + 1)), some) refl
