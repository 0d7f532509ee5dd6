-- What a reader answers for the content of a file, as an answer of loading.
use Rattle.std.proofs.Common.{◌≡◌, ℕ, ◌≤◌, Bool, true, false, cond, List, Option, Some, None, Result, Ok, Err, refl, ap, ◌∙◌, subst, arith}
use Rattle.std.specs.Prelude.{IfOk, IfSome}
use Rattle.std.specs.Result.{result_map_both}
use Rattle.std.specs.Str.{IsUtf8, is_utf8}
use Rattle.std.specs.Str.Lossy.{utf8_valid_len}
use Rattle.std.proofs.lemmas.Str.{is_utf8-from_IsUtf8, IsUtf8-from_is_utf8}
use Rattle.mq_base.specs.declared.query.Query.{Query}
use Rattle.mq_base.specs.declared.refusal.Refusal.{Refusal}
use Rattle.mq_base.specs.declared.schema.Schema.{Schema}
use Rattle.mq_base.specs.Refusal.{refusal, Refuses, Answers}
use Rattle.sql_lexer.specs.Codes.{bad_char}
use Rattle.command_input.specs.declared.fault.FileRole.{FileRole}
use Rattle.command_input.specs.declared.fault.FileRole.TheVariants as role
use Rattle.command_input.specs.declared.load_no.LoadNo.{LoadNo}
use Rattle.command_input.specs.declared.load_no.LoadNo.TheVariants.{Refused, Failed, NoMemory}
use Rattle.command_input.specs.Input.{fault_of, and_then, text_bound, query_read}
use Rattle.command_input.specs.Loading.{no_of, judged_as, Judges}

-- the refusals of a reader have numbers from 1 on: 0 is the number of a file that is too long
abbrev pub AreNumbered : {E : Type 0} → (E → Option Refusal) → Type 0
AreNumbered {E} told = (error : E) → IfSome (told error) (λ (r : Refusal). 1 ≤ r.code)

no_judges : {X : Type 0} (file : FileRole) (told : Option Refusal) (outcome : Result X Refusal) → IfSome told (λ (r : Refusal). 1 ≤ r.code)
    → Refuses told outcome → Judges file (Err (no_of file told)) outcome
no_judges file None outcome numbered refuses = tt
no_judges file (Some r) outcome numbered refuses = (r, numbered, refl, refuses)

-- the answer of a reader is what the content comes to
pub answer_judges : {X E : Type 0} (file : FileRole) (told : E → Option Refusal) → AreNumbered told
    → (answer : Result X E) (outcome : Result X Refusal) → Answers told answer outcome → Judges file (judged_as file told answer) outcome
answer_judges file told numbered (Ok x) outcome answers = answers
answer_judges file told numbered (Err error) outcome answers = no_judges file (told error) outcome (numbered error) answers

-- what holds of an accepted value still does
pub judged_if_ok : {X E : Type 0} (file : FileRole) (told : E → Option Refusal) (P : X → Type 0) (answer : Result X E)
    → IfOk answer P → IfOk (judged_as file told answer) P
judged_if_ok file told P (Ok x) holds = holds
judged_if_ok file told P (Err error) holds = tt

pub judged_ok : {X E : Type 0} (file : FileRole) (told : E → Option Refusal) (P : X → Type 0) (answer : Result X E) (x : X)
    → judged_as file told answer ≡ Ok x → IfOk answer P → P x
judged_ok file told P (Ok y) x is holds = let same : y ≡ x = cc in subst P same holds
judged_ok file told P (Err error) x is holds = cc

-- what stops a part stops the whole
pub judged_on : {X Y : Type 0} (file : FileRole) (error : LoadNo) (outcome : Result X Refusal) (next : X → Result Y Refusal)
    → Judges file (Err error) outcome → Judges file (Err error) (and_then outcome next)
judged_on file (Refused fault) outcome next judges = (judges.0, judges.1, judges.2, ap (λ o. and_then o next) judges.3)
judged_on file (Failed other) outcome next judges = judges
judged_on file NoMemory outcome next judges = tt

-- a part that is seen by a view: its reader stops it
pub part_stops : {X V Y E : Type 0} (view : X → V) (file : FileRole) (told : E → Option Refusal) → AreNumbered told
    → (answer : Result X E) (outcome : Result V Refusal) (next : V → Result Y Refusal) (error : LoadNo)
    → Answers told (result_map_both view (λ e. e) answer) outcome → judged_as file told answer ≡ Err error
    → Judges file (Err error) (and_then outcome next)
part_stops view file told numbered (Ok x) outcome next error answers is = cc
part_stops {Y = Y} view file told numbered (Err e) outcome next error answers is =
    let same : no_of file (told e) ≡ error = cc in
    subst (λ (no : LoadNo). Judges {X = Y} file (Err no) (and_then outcome next)) same
    (judged_on file (no_of file (told e)) outcome next (no_judges file (told e) outcome (numbered e) answers))

-- or its reader accepts it
pub part_reads : {X V E : Type 0} (view : X → V) (file : FileRole) (told : E → Option Refusal)
    (answer : Result X E) (outcome : Result V Refusal) (x : X)
    → Answers told (result_map_both view (λ e. e) answer) outcome → judged_as file told answer ≡ Ok x → outcome ≡ Ok (view x)
part_reads view file told (Ok y) outcome x answers is = let same : y ≡ x = cc in answers ∙ ap (λ z. Ok (view z)) same
part_reads view file told (Err e) outcome x answers is = cc

-- bytes that are no text are refused where their longest front of UTF-8 ends
no_text : (schema : Schema) (bytes : List ℕ) → (IsUtf8 bytes → ⊥) → query_read schema bytes ≡ Err (refusal bad_char (utf8_valid_len bytes) 0)
unfolding query_read
no_text schema bytes none = by_test (is_utf8 bytes) refl
  where
    by_test : (test : Bool) → is_utf8 bytes ≡ test
        → cond test (text_bound schema bytes) (Err (refusal bad_char (utf8_valid_len bytes) 0)) ≡ Err (refusal bad_char (utf8_valid_len bytes) 0)
    by_test true here = absurd (none (IsUtf8-from_is_utf8 bytes here))
    by_test false here = refl

pub no_text_stops : (schema : Schema) (bytes : List ℕ) → (IsUtf8 bytes → ⊥)
    → Judges role.Query (Err (Refused (fault_of role.Query (refusal bad_char (utf8_valid_len bytes) 0)))) (query_read schema bytes)
no_text_stops schema bytes none = (refusal bad_char (utf8_valid_len bytes) 0, omega arith, refl, no_text schema bytes none)

-- bytes that are a text are read as it
text_read : (schema : Schema) (bytes : List ℕ) → IsUtf8 bytes → query_read schema bytes ≡ text_bound schema bytes
unfolding query_read
text_read schema bytes utf8 = rw (is_utf8-from_IsUtf8 bytes utf8) refl

pub text_judges : (schema : Schema) (bytes text : List ℕ) (answer : Result Query LoadNo) → IsUtf8 bytes → text ≡ bytes
    → Judges role.Query answer (text_bound schema text) → Judges role.Query answer (query_read schema bytes)
text_judges schema bytes text answer utf8 same judges = rw (text_read schema bytes utf8) (rw same at judges)
