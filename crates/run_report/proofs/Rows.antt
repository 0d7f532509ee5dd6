-- What the rows of an answer come to, as they are sorted and written one by one.
use Rattle.std.proofs.Common.{◌≡◌, ℕ, ◌+◌, ◌<◌, List, [], ◌∷◌, ◌++◌, length, map, take, get_or, sym, ap, ◌∙◌, append_assoc, Vec, Global, Result, Ok, Err, IfOk}
use Rattle.std.specs.Prelude.{flat_map}
use Rattle.std.specs.List.Sorted.{IsPermutation, IsSorted}
use Rattle.std.specs.Cmp.Lexicographic.{slice_cmp, lists_total}
use Rattle.std.proofs.lemmas.List.{append-nil, take_more, map-append}
use Rattle.std.proofs.lemmas.Grind.{flat_map-append}
use Rattle.csv.specs.Writing.{row_text, default_writer}
use Rattle.csv.specs.declared.writer.Writer.{Writer}
use Rattle.base_laws.proofs.SortLaws.{in_order_is, lists_tied}
use Rattle.mq_base.specs.declared.value.Value.{Value}
use Rattle.mq_base.specs.Value.{value_cmp}
use Rattle.mq_base.specs.ValueLaws.{value_total, value_ties}
use Rattle.run_report.specs.Answer.{csv_text, shown, sorted_rows}
use Rattle.run_report.specs.CsvWriting.{IsWriting}

-- a list that is sorted as rows are is that of the sorted rows
pub rows_sorted : (before after : List (List Value)) → IsPermutation before after → IsSorted (slice_cmp value_cmp) after → after ≡ sorted_rows before
rows_sorted before after moved up = in_order_is (lists_total value_total) (lists_tied value_cmp value_ties) before after moved up

csv_text_one : (front : List ℕ) (first : List (List ℕ)) (records : List (List (List ℕ))) (last : List (List ℕ))
    → front ++ csv_text (first ∷ (records ++ last ∷ [])) ≡ (front ++ csv_text (first ∷ records)) ++ row_text default_writer last
csv_text_one front first records last =
    ap (λ rest. front ++ (row_text default_writer first ++ rest))
    (flat_map-append (row_text default_writer) records (last ∷ [])
    ∙ ap (λ rest. flat_map (row_text default_writer) records ++ rest) (append-nil (row_text default_writer last)))
    ∙ ap (λ rest. front ++ rest)
    (sym (append_assoc (row_text default_writer first) (flat_map (row_text default_writer) records) (row_text default_writer last)))
    ∙ sym (append_assoc front (csv_text (first ∷ records)) (row_text default_writer last))

-- text of records, with one row more
pub csv_text_more : (front : List ℕ) (names : List (List ℕ)) (rows : List (List Value)) (i : ℕ) (row : List Value)
    → i < length rows → row ≡ get_or rows i row
    → front ++ csv_text (names ∷ map (map shown) (take (i + 1) rows))
    ≡ (front ++ csv_text (names ∷ map (map shown) (take i rows))) ++ row_text default_writer (map shown row)
csv_text_more front names rows i row below is =
    let all : map (map shown) (take (i + 1) rows) ≡ map (map shown) (take i rows) ++ map shown row ∷ [] =
    ap (map (map shown)) (take_more rows i row below ∙ ap (λ (y : List Value). take i rows ++ y ∷ []) (sym is))
    ∙ map-append (map shown) (take i rows) (row ∷ []) in
    ap (λ some. front ++ csv_text (names ∷ some)) all ∙ csv_text_one front names (map (map shown) (take i rows)) (map shown row)

-- what a writer has written is what it gives
pub written_is : {E : Type 0} (writer : Writer (Vec ℕ Global)) (bytes : List ℕ) (given : Result (Vec ℕ Global) E)
    → IsWriting writer bytes → IfOk given (λ text. (b : List ℕ) → IsWriting writer b → text.items ≡ b)
    → IfOk given (λ text. text.items ≡ bytes)
written_is writer bytes (Ok text) writing gives = gives bytes writing
written_is writer bytes (Err e) writing gives = tt
