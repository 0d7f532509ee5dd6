-- What is known of the files of a command once some of them were read, from one file to all of them.
use Rattle.std.proofs.Common.{◌≡◌, ℕ, suc, ◌<◌, ◌≤◌, true, false, nat_lt, List, [], ◌∷◌, ◌++◌, length, map, replicate, Option, Some, None, Result, Ok, Err, refl, sym, ap, ◌∙◌, subst, arith, append_assoc}
use Rattle.std.specs.Prelude.{unwrap_or}
use Rattle.std.proofs.lemmas.Bool.Decides.{nat_tests}
use Rattle.std.proofs.lemmas.List.{map-append, length-replicate}
use Rattle.mq_base.specs.declared.refusal.Refusal.{Refusal}
use Rattle.mq_base.specs.Refusal.{refusal}
use Rattle.outside_io.specs.Outside.{Files, ShelfState, IsHeld, IsAbsent, TakesWithin, Follows, content_of}
use Rattle.outside_io.proofs.Following.{Rose-longer}
use Rattle.command_input.specs.declared.fault.FileRole.{FileRole}
use Rattle.command_input.specs.declared.fault.InputFault.{InputFault}
use Rattle.command_input.specs.declared.load_no.LoadNo.{LoadNo}
use Rattle.command_input.specs.declared.load_no.LoadNo.TheVariants.{Refused, Failed, NoMemory}
use Rattle.command_input.specs.Files.{Lookup}
use Rattle.command_input.specs.Input.{Stop, absent, refused, most, fault_of, judged, within, opened, and_then}
use Rattle.command_input.specs.Loading.{Seen, Gives, AreHeld, Knows, Loads, StopsReading, Judges}

abbrev role_of : Seen → FileRole
role_of s = s.file

-- a lookup that gives what was read at first and later gives each
Gives-left : (lookup : Lookup) (xs ys : List Seen) → Gives lookup (xs ++ ys) → Gives lookup xs
Gives-left lookup [] ys gives = tt
Gives-left lookup (x ∷ xs) ys gives = (gives.0, Gives-left lookup xs ys gives.1)

Gives-right : (lookup : Lookup) (xs ys : List Seen) → Gives lookup (xs ++ ys) → Gives lookup ys
Gives-right lookup [] ys gives = gives
Gives-right lookup (x ∷ xs) ys gives = Gives-right lookup xs ys gives.1

AreHeld-append : (held : Option Files) (xs ys : List Seen) → AreHeld held xs → AreHeld held ys → AreHeld held (xs ++ ys)
AreHeld-append held [] ys first second = second
AreHeld-append held (x ∷ xs) ys first second = (first.0, AreHeld-append held xs ys first.1 second)

-- nothing was read yet
pub Knows-none : (held : Option Files) (P : Lookup → Type 0) → ((lookup : Lookup) → P lookup) → Knows held [] P
Knows-none held P fact = record { seen = []; roles = refl; are_held = tt; always = λ lookup gives. fact lookup }

-- one file was read
Knows-one : (held : Option Files) (file : FileRole) (name bytes : List ℕ) (P : Lookup → Type 0) → IsHeld held name bytes
    → ((lookup : Lookup) → lookup file name ≡ Some bytes → P lookup) → Knows held (file ∷ []) P
Knows-one held file name bytes P is_held fact = record {
  seen = record { file = file; name = name; bytes = bytes } ∷ [];
  roles = refl;
  are_held = (is_held, tt);
  always = λ lookup gives. fact lookup gives.0;
}

-- files were read, and then more
pub Knows-then : (held : Option Files) (files more : List FileRole) (P Q R : Lookup → Type 0)
    → ((lookup : Lookup) → P lookup → Q lookup → R lookup) → Knows held files P → Knows held more Q → Knows held (files ++ more) R
Knows-then held files more P Q R next first second = record {
  seen = first.seen ++ second.seen;
  roles = map-append role_of first.seen second.seen
      ∙ (ap (λ (xs : List FileRole). xs ++ map role_of second.seen) first.roles ∙ ap (λ (ys : List FileRole). files ++ ys) second.roles);
  are_held = AreHeld-append held first.seen second.seen first.are_held second.are_held;
  always = λ lookup gives. next lookup
      (first.always lookup (Gives-left lookup first.seen second.seen gives))
      (second.always lookup (Gives-right lookup first.seen second.seen gives));
}

-- what is known of a shelf is known of an earlier state of it
pub Knows-before : (before after : ShelfState) (files : List FileRole) (P : Lookup → Type 0) → Follows before after
    → Knows after.held files P → Knows before.held files P
Knows-before before after files P follows known = subst (λ (held : Option Files). Knows held files P) follows.held known

longer_test : (n : ℕ) → most < n → nat_lt most n ≡ true
longer_test n longer = grind (arith, nat_tests)

within_test : (n : ℕ) → n ≤ most → nat_lt most n ≡ false
within_test n within = grind (arith, nat_tests)

-- a file that is too long
opened_long : {X : Type 0} (file : FileRole) (name : List ℕ) (read : List ℕ → Result X Refusal) (content : Option (List ℕ)) (bytes : List ℕ)
    → most < length bytes → content ≡ Some bytes → opened file name read content ≡ Err (refused (fault_of file (refusal 0 0 0)))
opened_long file name read content bytes longer is = rw (is, longer_test (length bytes) longer) refl

-- a file within the limit: its reader decides
opened_short : {X : Type 0} (file : FileRole) (name : List ℕ) (read : List ℕ → Result X Refusal) (content : Option (List ℕ)) (bytes : List ℕ)
    → length bytes ≤ most → content ≡ Some bytes → opened file name read content ≡ judged file (read bytes)
opened_short file name read content bytes short is = rw (is, within_test (length bytes) short) refl

-- a list of more bytes than n
beyond : (n : ℕ) → (bytes : List ℕ) × (n < length bytes)
beyond n = (replicate (suc n) 0, omega (arith, length-replicate {A = ℕ} (suc n) 0))

-- more bytes than the limit were taken: so there are bytes that are too long, and they are held where the shelf tells them
long_held : (held : Option Files) (name : List ℕ) (taken : ℕ) → most < taken → TakesWithin held name taken
    → (bytes : List ℕ) × (most < length bytes) × IsHeld held name bytes
long_held None name taken longer takes = let (bytes, long) = beyond most in (bytes, long, tt)
long_held (Some files) name taken longer takes = of_content (content_of files name) refl takes
  where
    of_content : (content : Option (List ℕ)) → content_of files name ≡ content → taken ≤ length (unwrap_or content [])
        → (bytes : List ℕ) × (most < length bytes) × (content_of files name ≡ Some bytes)
    of_content None is takes = absurd (omega arith)
    of_content (Some bytes) is takes = (bytes, omega arith, is)

-- the bytes of a file came, and were judged
pub loads_judged : {X : Type 0} (before after : ShelfState) (file : FileRole) (name : List ℕ) (read : List ℕ → Result X Refusal)
    (bytes : List ℕ) (answer : Result X LoadNo) → IsHeld before.held name bytes → length bytes ≤ most → Judges file answer (read bytes)
    → Loads before after (file ∷ []) (λ lookup. opened file name read (lookup file name)) answer
loads_judged before after file name read bytes (Ok x) is_held short judges =
    Knows-one before.held file name bytes (λ lookup. opened file name read (lookup file name) ≡ Ok x) is_held
    (λ lookup here. opened_short file name read (lookup file name) bytes short here ∙ ap (judged file) judges)
loads_judged before after file name read bytes (Err (Refused fault)) is_held short judges = record {
  too_long = λ zero. let same : fault.code ≡ judges.0.code = ap (λ (f : InputFault). f.code) judges.2 in absurd (omega (arith, judges.1));
  read = file ∷ [];
  rest = [];
  split = refl;
  knows = Knows-one before.held file name bytes (λ lookup. opened file name read (lookup file name) ≡ Err (refused fault)) is_held
      (λ lookup here. opened_short file name read (lookup file name) bytes short here
      ∙ (ap (judged file) judges.3 ∙ ap (λ f. Err (refused f)) (sym judges.2)));
}
loads_judged before after file name read bytes (Err (Failed other)) is_held short judges = absurd judges
loads_judged before after file name read bytes (Err NoMemory) is_held short judges = tt

-- the bytes of a file did not come
pub loads_failed : {X : Type 0} (before after : ShelfState) (file : FileRole) (name : List ℕ) (read : List ℕ → Result X Refusal)
    (error : LoadNo) → StopsReading before after file name error
    → Loads before after (file ∷ []) (λ lookup. opened file name read (lookup file name)) (Err error)
loads_failed before after file name read (Refused fault) stops =
    let (bytes, long, is_held) = long_held before.held name after.taken stops.taken stops.held in
    record {
      too_long = λ zero. stops.taken;
      read = file ∷ [];
      rest = [];
      split = refl;
      knows = Knows-one before.held file name bytes (λ lookup. opened file name read (lookup file name) ≡ Err (refused fault)) is_held
          (λ lookup here. opened_long file name read (lookup file name) bytes long here ∙ ap (λ f. Err (refused f)) (sym stops.same));
    }
loads_failed before after file name read (Failed other) stops = record {
  rose = stops.rose;
  name = name;
  failed = stops.failed;
  absent_if_steady = stops.absent_if_steady;
  read = [];
  rest = [];
  split = ap (λ (f : FileRole). f ∷ []) (sym stops.same);
  knows = Knows-none before.held (λ lookup. lookup other name ≡ None → opened file name read (lookup file name) ≡ Err (absent other name))
      (λ lookup gone. ap (opened file name read) (ap (λ (f : FileRole). lookup f name) (sym stops.same) ∙ gone)
      ∙ ap (λ f. Err (absent f name)) (sym stops.same));
}
loads_failed before after file name read NoMemory stops = tt

-- files were read, and the reading of more of them stopped: so the reading of all stopped
pub loads_after : {X Y : Type 0} (before middle after : ShelfState) (files more : List FileRole) (P : Lookup → Type 0)
    (part : Lookup → Result X Stop) (whole : Lookup → Result Y Stop) (error : LoadNo)
    → ((lookup : Lookup) (stop : Stop) → P lookup → part lookup ≡ Err stop → whole lookup ≡ Err stop)
    → Follows before middle → Follows middle after → Knows before.held files P
    → Loads middle after more part (Err error) → Loads before after (files ++ more) whole (Err error)
loads_after before middle after files more P part whole (Refused fault) next follows then known loads = record {
  too_long = loads.too_long;
  read = files ++ loads.read;
  rest = loads.rest;
  split = ap (λ (xs : List FileRole). files ++ xs) loads.split ∙ sym (append_assoc files loads.read loads.rest);
  knows = Knows-then before.held files loads.read P (λ lookup. part lookup ≡ Err (refused fault)) (λ lookup. whole lookup ≡ Err (refused fault))
      (λ lookup p stops. next lookup (refused fault) p stops) known
      (Knows-before before middle loads.read (λ lookup. part lookup ≡ Err (refused fault)) follows loads.knows);
}
loads_after before middle after files more P part whole (Failed file) next follows then known loads = record {
  rose = Rose-longer before.faults middle.faults after.faults after.faults follows.rising then.rising (omega arith) loads.rose;
  name = loads.name;
  failed = loads.failed;
  absent_if_steady = λ steady. subst (λ (held : Option Files). IsAbsent held loads.name) follows.held (loads.absent_if_steady (follows.steady ∙ steady));
  read = files ++ loads.read;
  rest = loads.rest;
  split = ap (λ (xs : List FileRole). files ++ xs) loads.split ∙ sym (append_assoc files loads.read (file ∷ loads.rest));
  knows = Knows-then before.held files loads.read P (λ lookup. lookup file loads.name ≡ None → part lookup ≡ Err (absent file loads.name))
      (λ lookup. lookup file loads.name ≡ None → whole lookup ≡ Err (absent file loads.name))
      (λ lookup p stops gone. next lookup (absent file loads.name) p (stops gone)) known
      (Knows-before before middle loads.read (λ lookup. lookup file loads.name ≡ None → part lookup ≡ Err (absent file loads.name)) follows loads.knows);
}
loads_after before middle after files more P part whole NoMemory next follows then known loads = tt

-- what comes after a part that is accepted
abbrev pub chained : {X Y : Type 0} → (Lookup → Result X Stop) → (X → Lookup → Result Y Stop) → Lookup → Result Y Stop
chained part rest lookup = and_then (part lookup) (λ x. rest x lookup)

-- a part was accepted: what the rest comes to, or where it stops, is so of both together
pub loads_then : {X Y : Type 0} (before middle after : ShelfState) (files more : List FileRole) (part : Lookup → Result X Stop) (x : X)
    (rest : X → Lookup → Result Y Stop) (answer : Result Y LoadNo) → Follows before middle → Follows middle after
    → Knows before.held files (λ lookup. part lookup ≡ Ok x) → Loads middle after more (rest x) answer
    → Loads before after (files ++ more) (chained part rest) answer
loads_then before middle after files more part x rest (Ok y) follows then known loads =
    Knows-then before.held files more (λ lookup. part lookup ≡ Ok x) (λ lookup. rest x lookup ≡ Ok y) (λ lookup. chained part rest lookup ≡ Ok y)
    (λ lookup reads comes. ap (λ o. and_then o (λ x. rest x lookup)) reads ∙ comes) known
    (Knows-before before middle more (λ lookup. rest x lookup ≡ Ok y) follows loads)
loads_then before middle after files more part x rest (Err error) follows then known loads =
    loads_after before middle after files more (λ lookup. part lookup ≡ Ok x) (rest x) (chained part rest) error
    (λ lookup stop reads stops. ap (λ o. and_then o (λ x. rest x lookup)) reads ∙ stops) follows then known loads

same_state : (state : ShelfState) → Follows state state
same_state state = record { held = refl; steady = refl; rising = omega arith }

-- a part stopped: so it stops what comes after it
pub loads_stopped : {X Y : Type 0} (before after : ShelfState) (files : List FileRole) (part : Lookup → Result X Stop)
    (rest : X → Lookup → Result Y Stop) (error : LoadNo) → Follows before after → Loads before after files part (Err error)
    → Loads before after files (chained part rest) (Err error)
loads_stopped before after files part rest error follows loads =
    loads_after before before after [] files (λ lookup. Unit {0}) part (chained part rest) error
    (λ lookup stop none stops. ap (λ o. and_then o (λ x. rest x lookup)) stops) (same_state before) follows
    (Knows-none before.held (λ lookup. Unit {0}) (λ lookup. tt)) loads

-- the last part was accepted: so the whole is
pub loads_last : {X Y : Type 0} (held : Option Files) (files : List FileRole) (part : Lookup → Result X Stop) (x : X) (made : X → Y)
    → Knows held files (λ lookup. part lookup ≡ Ok x) → Knows held files (λ lookup. chained part (λ x lookup. Ok (made x)) lookup ≡ Ok (made x))
loads_last held files part x made known = record {
  seen = known.seen;
  roles = known.roles;
  are_held = known.are_held;
  always = λ lookup gives. ap (λ o. and_then o (λ x. Ok (made x))) (known.always lookup gives);
}

-- the reading stopped, and more files were to come
pub loads_cut : {X : Type 0} (before after : ShelfState) (files more : List FileRole) (expected : Lookup → Result X Stop) (error : LoadNo)
    → Loads before after files expected (Err error) → Loads before after (files ++ more) expected (Err error)
loads_cut before after files more expected (Refused fault) loads = record {
  too_long = loads.too_long;
  read = loads.read;
  rest = loads.rest ++ more;
  split = ap (λ (xs : List FileRole). xs ++ more) loads.split ∙ append_assoc loads.read loads.rest more;
  knows = loads.knows;
}
loads_cut before after files more expected (Failed file) loads = record {
  rose = loads.rose;
  name = loads.name;
  failed = loads.failed;
  absent_if_steady = loads.absent_if_steady;
  read = loads.read;
  rest = loads.rest ++ more;
  split = ap (λ (xs : List FileRole). xs ++ more) loads.split ∙ append_assoc loads.read (file ∷ loads.rest) more;
  knows = loads.knows;
}
loads_cut before after files more expected NoMemory loads = tt
