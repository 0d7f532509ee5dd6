-- The promises of the top call, from what the reading of files and the writing of a report say.
use Rattle.std.proofs.Common.{◌≡◌, ◌≢◌, inl, inr, ℕ, ◌==◌, true, false, cond, bytes_eq, List, [], ◌∷◌, ◌++◌, map, Option, Some, None, Ok, Err, refl, sym, ap, ◌∙◌, subst, arith}
use Rattle.std.specs.Prelude.{All}
use Rattle.std.proofs.lemmas.Bool.Decides.{nat_tests}
use Rattle.std.proofs.lemmas.List.{append-nil, map-append}
use Rattle.std.proofs.lemmas.List.Elements.{All-nil, All-cons, All-head, All-tail}
use Rattle.std.proofs.lemmas.Slice.Eq.{bytes_eq-Decides}
use Rattle.base_laws.proofs.ListLaws.{All-first, All-second}
use Rattle.command_input.specs.declared.fault.FileRole.{FileRole}
use Rattle.command_input.specs.declared.load_no.LoadNo.{LoadNo}
use Rattle.command_input.specs.declared.load_no.LoadNo.TheVariants.{Refused, Failed, NoMemory}
use Rattle.command_input.specs.declared.task.Task.{Task}
use Rattle.command_input.specs.declared.task.Task.TheVariants as task
use Rattle.command_input.specs.Files.{Lookup, role_number, Agrees, hidden}
use Rattle.command_input.specs.Input.{absent, refused, wrong_words, stopped, accepted, task_of, given, commanded, input_of}
use Rattle.command_input.specs.Loading.{Seen, Gives, AreHeld, AreApart, Knows, Loaded}
use Rattle.command_input.specs.Words.{Command, command_of}
use Rattle.extended_plan.specs.Setting.{Setting}
use Rattle.mq_base.specs.BoundQuery.{AreDistinct}
use Rattle.mq_base.specs.declared.query.Query.{Query}
use Rattle.mq_base.specs.declared.table.PlainTable.{PlainTable}
use Rattle.outside_io.specs.Outside.{Files, ShelfState, SinkState, IsAbsent, Rose, Appends, content_of}
use Rattle.planner_cli.specs.declared.status.Status.{Status}
use Rattle.planner_cli.specs.declared.status.Status.TheVariants as status
use Rattle.planner_cli.specs.Ends.{EndsUnder, planned, unplanned, crowded, dear, wide, Ends}
use Rattle.planner_cli.specs.inside.Unloaded.{status_of}
use Rattle.planner_cli.specs.Run.{ForTask, AppendsEnd, AppendsCut, IsDue, is_end, is_silent, IsUnread, Tells}

abbrev role_of : Seen → FileRole
role_of s = s.file

-- no file of this role was read: so a lookup that differs in it alone gives the same
Gives-beside : (n : ℕ) (one other : Lookup) → ((file : FileRole) (name : List ℕ) → n ≢ role_number file → other file name ≡ one file name)
    → (seen : List Seen) → All (λ y. n ≢ y) (map role_number (map role_of seen)) → Gives one seen → Gives other seen
Gives-beside n one other same [] apart gives = tt
Gives-beside n one other same (s ∷ rest) apart gives = (
  same s.file s.name (All-head (λ y. n ≢ y) (role_number s.file) (map role_number (map role_of rest)) apart) ∙ gives.0,
  Gives-beside n one other same rest (All-tail (λ y. n ≢ y) (role_number s.file) (map role_number (map role_of rest)) apart) gives.1,
)

one_number : (n : ℕ) → (n == n) ≡ true
one_number n = grind (arith, nat_tests)

two_numbers : (n m : ℕ) → n ≢ m → (n == m) ≡ false
two_numbers n m other = grind (arith, nat_tests)

-- the files that were read, by their roles
found : List Seen → Lookup
found [] file name = None
found (s ∷ rest) file name = cond (role_number s.file == role_number file) (Some s.bytes) (found rest file name)

found_gives : (seen : List Seen) → AreApart (map role_of seen) → Gives (found seen) seen
unfolding found
found_gives [] apart = tt
found_gives (s ∷ rest) apart = (
  rw (one_number (role_number s.file)) refl,
  Gives-beside (role_number s.file) (found rest) (found (s ∷ rest))
      (λ file name other. rw (two_numbers (role_number s.file) (role_number file) other) refl) rest apart.0 (found_gives rest apart.1),
)

told_gives : (files : Files) (seen : List Seen) → AreHeld (Some files) seen → Gives (λ file name. content_of files name) seen
told_gives files [] held = tt
told_gives files (s ∷ rest) held = (held.0, told_gives files rest held.1)

-- some files agree with what the shelf tells and are those that were read, where each role was read once
witness : (held : Option Files) (seen : List Seen) → AreHeld held seen → AreApart (map role_of seen)
    → (lookup : Lookup) × Agrees held lookup × Gives lookup seen
witness None seen are_held apart = (found seen, tt, found_gives seen apart)
witness (Some files) seen are_held apart = ((λ file name. content_of files name), (λ file name. refl), told_gives files seen are_held)

-- what is known is so of some files that agree with what the shelf tells
known_of : (held : Option Files) (files : List FileRole) (P : Lookup → Type 0) → AreApart files → Knows held files P
    → (lookup : Lookup) × Agrees held lookup × P lookup
known_of held files P apart known =
    let (lookup, agrees, gives) = witness held known.seen known.are_held (subst AreApart (sym known.roles) apart) in
    (lookup, agrees, known.always lookup gives)

apart_left : (xs ys : List ℕ) → AreDistinct (xs ++ ys) → AreDistinct xs
apart_left [] ys apart = tt
apart_left (x ∷ xs) ys apart = (All-first (λ y. x ≢ y) xs ys apart.0, apart_left xs ys apart.1)

apart_last : (xs : List ℕ) (y : ℕ) (ys : List ℕ) → AreDistinct (xs ++ y ∷ ys) → All (λ x. y ≢ x) xs
apart_last [] y ys apart = All-nil (λ x. y ≢ x)
apart_last (x ∷ xs) y ys apart =
    let other : x ≢ y = All-head (λ z. x ≢ z) y ys (All-second (λ z. x ≢ z) xs (y ∷ ys) apart.0) in
    All-cons (λ z. y ≢ z) x xs (λ same. other (sym same)) (apart_last xs y ys apart.1)

-- the roles that were read are apart, and the one that follows is another
read_apart : (files read rest : List FileRole) → files ≡ read ++ rest → AreApart files → AreApart read
read_apart files read rest split apart =
    apart_left (map role_number read) (map role_number rest)
    (subst AreDistinct (ap (map role_number) split ∙ map-append role_number read rest) apart)

next_apart : (files read : List FileRole) (file : FileRole) (rest : List FileRole) → files ≡ read ++ file ∷ rest → AreApart files
    → All (λ n. role_number file ≢ n) (map role_number read)
next_apart files read file rest split apart =
    apart_last (map role_number read) (role_number file) (map role_number rest)
    (subst AreDistinct (ap (map role_number) split ∙ map-append role_number read (file ∷ rest)) apart)

one_text : (name : List ℕ) → bytes_eq name name ≡ true
one_text name = (bytes_eq-Decides name name).1 refl

-- a hidden file is absent, and files of other roles are as they were
hidden_gone : (file : FileRole) (name : List ℕ) (lookup : Lookup) → hidden file name lookup file name ≡ None
hidden_gone file name lookup = rw (one_number (role_number file), one_text name) refl

hidden_beside : (file : FileRole) (name : List ℕ) (lookup : Lookup) (other : FileRole) (asked : List ℕ)
    → role_number file ≢ role_number other → hidden file name lookup other asked ≡ lookup other asked
hidden_beside file name lookup other asked apart = rw (two_numbers (role_number file) (role_number other) apart) refl

input_is : (words : List (List ℕ)) (command : Command) (lookup : Lookup) → command_of words ≡ Some command
    → input_of words lookup ≡ given (task_of command lookup)
input_is words command lookup is = ap (λ c. commanded c lookup) is

-- a status that is no end is none that is
not_end : {A : Type 0} (s other : Status) → is_end s ≡ true → is_end other ≡ false → s ≡ other → A
not_end s other end no_end same = absurd (let e : is_end s ≡ is_end other = ap is_end same in cc)

-- memory was wanting, and nothing was written
pub tells_wanting : (words : List (List ℕ)) (shelf after : ShelfState) (sink sink_after : SinkState)
    → sink_after.written ≡ sink.written → Tells words shelf after sink sink_after status.NoMemory
tells_wanting words shelf after sink sink_after kept =
    let (lookup, agrees, gives) = witness shelf.held [] tt tt in
    record {
      lookup = lookup;
      agrees = agrees;
      refused = λ fault is. absurd (cc);
      read_fault = λ file is. absurd (cc);
      steady_shelf = λ steady file is. absurd (cc);
      ended = λ end. absurd (cc);
      cut = λ is. absurd (cc);
      wanting = λ is. inl kept;
      decided = inr (inl refl);
    }

-- the words are of no command
pub tells_words : (words : List (List ℕ)) (shelf after : ShelfState) (sink : SinkState) → command_of words ≡ None
    → Tells words shelf after sink sink status.Words
tells_words words shelf after sink none =
    let (lookup, agrees, gives) = witness shelf.held [] tt tt in
    let input : input_of words lookup ≡ wrong_words = ap (λ c. commanded c lookup) none in
    record {
      lookup = lookup;
      agrees = agrees;
      refused = λ fault is. absurd (cc);
      read_fault = λ file is. absurd (cc);
      steady_shelf = λ steady file is. absurd (cc);
      ended = λ end. absurd (cc);
      cut = λ is. absurd (cc);
      wanting = λ is. inl refl;
      decided = inl (subst (λ i. IsDue i status.Words) (sym input) refl);
    }

-- the files of a command were not loaded
pub tells_stopped : (words : List (List ℕ)) (command : Command) (shelf after : ShelfState) (sink : SinkState) (error : LoadNo)
    → command_of words ≡ Some command → Loaded shelf after (task_of command) (Err error)
    → Tells words shelf after sink sink (status_of error)
tells_stopped words command shelf after sink (Refused fault) is loaded =
    let loads = loaded.loads in
    let (lookup, agrees, stops) = known_of shelf.held loads.read (λ lookup. task_of command lookup ≡ Err (refused fault))
    (read_apart loaded.files loads.read loads.rest loads.split loaded.apart) loads.knows in
    let input : input_of words lookup ≡ stopped (refused fault) = input_is words command lookup is ∙ ap given stops in
    record {
      lookup = lookup;
      agrees = agrees;
      refused = λ other same. let e : fault ≡ other = cc in input ∙ ap (λ f. stopped (refused f)) e;
      read_fault = λ file same. absurd (cc);
      steady_shelf = λ steady file same. absurd (cc);
      ended = λ end. absurd (cc);
      cut = λ same. absurd (cc);
      wanting = λ same. inl refl;
      decided = inl (subst (λ i. IsDue i (status.Input fault)) (sym input) refl);
    }
tells_stopped words command shelf after sink (Failed file) is loaded =
    let loads = loaded.loads in
    let seen = loads.knows.seen in
    let (lookup, agrees, gives) = witness shelf.held seen loads.knows.are_held
    (subst AreApart (sym loads.knows.roles) (read_apart loaded.files loads.read (file ∷ loads.rest) loads.split loaded.apart)) in
    let beside : All (λ n. role_number file ≢ n) (map role_number (map role_of seen)) =
    subst (λ (files : List FileRole). All (λ n. role_number file ≢ n) (map role_number files)) (sym loads.knows.roles)
    (next_apart loaded.files loads.read file loads.rest loads.split loaded.apart) in
    let gives_hidden : Gives (hidden file loads.name lookup) seen =
    Gives-beside (role_number file) lookup (hidden file loads.name lookup) (hidden_beside file loads.name lookup) seen beside gives in
    let stops : input_of words (hidden file loads.name lookup) ≡ stopped (absent file loads.name) =
    input_is words command (hidden file loads.name lookup) is
    ∙ ap given (loads.knows.always (hidden file loads.name lookup) gives_hidden (hidden_gone file loads.name lookup)) in
    let unread : IsUnread shelf after words lookup file = record { rose = loads.rose; name = loads.name; failed = loads.failed; stops = stops } in
    let absent_so : shelf.steady ≡ true → input_of words lookup ≡ stopped (absent file loads.name) =
    λ steady. input_is words command lookup is ∙ ap given (loads.knows.always lookup gives
    (absent_in shelf.held lookup file loads.name agrees (loads.absent_if_steady steady))) in
    record {
      lookup = lookup;
      agrees = agrees;
      refused = λ fault same. absurd (cc);
      read_fault = λ other same. let e : file ≡ other = cc in subst (λ (f : FileRole). IsUnread shelf after words lookup f) e unread;
      steady_shelf = λ steady other same. let e : file ≡ other = cc in
          (loads.name, absent_so steady ∙ ap (λ (f : FileRole). stopped (absent f loads.name)) e);
      ended = λ end. absurd (cc);
      cut = λ same. absurd (cc);
      wanting = λ same. inl refl;
      decided = inr (inr (inl loads.rose));
    }
  where
    absent_in : (held : Option Files) (lookup : Lookup) (file : FileRole) (name : List ℕ) → Agrees held lookup → IsAbsent held name
        → lookup file name ≡ None
    absent_in None lookup file name agrees gone = absurd gone
    absent_in (Some files) lookup file name agrees gone = agrees file name ∙ gone
tells_stopped words command shelf after sink NoMemory is loaded = tells_wanting words shelf after sink sink refl

run_ends_end : (s : Setting) (q : Query) (tables : List PlainTable) (end : Status) (text : List ℕ) → EndsUnder s q tables end text → is_end end ≡ true
run_ends_end s q tables end text (planned steps least found is same) = ap is_end is
run_ends_end s q tables end text (unplanned none is same) = ap is_end is
run_ends_end s q tables end text (crowded n many is same) = ap is_end is
run_ends_end s q tables end text (dear costs is same) = ap is_end is
run_ends_end s q tables end text (wide n full is same) = ap is_end is

ends_end : (t : Task) (s : Status) (text : List ℕ) → Ends t s text → is_end s ≡ true
ends_end (task.Run t) s text ends = run_ends_end ends.setting t.query t.tables s text ends.ends

-- an end with which nothing is written has no text
run_ends_silent : (s : Setting) (q : Query) (tables : List PlainTable) (end : Status) (text : List ℕ) → EndsUnder s q tables end text
    → is_silent end ≡ true → text ≡ []
run_ends_silent s q tables end text (planned steps least found is same) silent = absurd (let e : is_silent end ≡ false = ap is_silent is in cc)
run_ends_silent s q tables end text (unplanned none is same) silent = absurd (let e : is_silent end ≡ false = ap is_silent is in cc)
run_ends_silent s q tables end text (crowded n many is same) silent = same
run_ends_silent s q tables end text (dear costs is same) silent = same
run_ends_silent s q tables end text (wide n full is same) silent = same

pub ends_silent : (t : Task) (s : Status) (text : List ℕ) → Ends t s text → is_silent s ≡ true → text ≡ []
ends_silent (task.Run t) s text ends silent = run_ends_silent ends.setting t.query t.tables s text ends.ends silent

-- nothing is written of an empty text
pub appends_none : (written : Option (List ℕ)) → Appends written written []
appends_none None = tt
appends_none (Some bytes) = sym (append-nil bytes)

-- the whole of a report was written
pub tells_end : (words : List (List ℕ)) (command : Command) (shelf after : ShelfState) (sink sink_after : SinkState) (t : Task) (s : Status)
    → command_of words ≡ Some command → Loaded shelf after (task_of command) (Ok t)
    → AppendsEnd t s sink.written sink_after.written → Tells words shelf after sink sink_after s
tells_end words command shelf after sink sink_after t s is loaded appends =
    let (lookup, agrees, reads) = known_of shelf.held loaded.files (λ lookup. task_of command lookup ≡ Ok t) loaded.apart loaded.loads in
    let input : input_of words lookup ≡ accepted t = input_is words command lookup is ∙ ap given reads in
    let end : is_end s ≡ true = ends_end t s appends.0 appends.1 in
    record {
      lookup = lookup;
      agrees = agrees;
      refused = λ fault same. not_end s (status.Input fault) end refl same;
      read_fault = λ file same. not_end s (status.ReadFault file) end refl same;
      steady_shelf = λ steady file same. not_end s (status.ReadFault file) end refl same;
      ended = λ _. subst (λ i. ForTask i (λ task. AppendsEnd task s sink.written sink_after.written)) (sym input) appends;
      cut = λ same. not_end s status.WriteFault end refl same;
      wanting = λ same. not_end s status.NoMemory end refl same;
      decided = inl (subst (λ i. IsDue i s) (sym input) (appends.0, appends.1));
    }

-- a report was not written whole
pub tells_cut : (words : List (List ℕ)) (command : Command) (shelf after : ShelfState) (sink sink_after : SinkState) (t : Task)
    → command_of words ≡ Some command → Loaded shelf after (task_of command) (Ok t)
    → AppendsCut t sink.written sink_after.written → Rose sink.faults sink_after.faults
    → Tells words shelf after sink sink_after status.WriteFault
tells_cut words command shelf after sink sink_after t is loaded appends rose =
    let (lookup, agrees, reads) = known_of shelf.held loaded.files (λ lookup. task_of command lookup ≡ Ok t) loaded.apart loaded.loads in
    let input : input_of words lookup ≡ accepted t = input_is words command lookup is ∙ ap given reads in
    record {
      lookup = lookup;
      agrees = agrees;
      refused = λ fault same. absurd (cc);
      read_fault = λ file same. absurd (cc);
      steady_shelf = λ steady file same. absurd (cc);
      ended = λ end. absurd (cc);
      cut = λ same. subst (λ i. ForTask i (λ task. AppendsCut task sink.written sink_after.written)) (sym input) appends;
      wanting = λ same. absurd (cc);
      decided = inr (inr (inr rose));
    }
