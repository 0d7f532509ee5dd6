use Rattle.std.proofs.Common.{◌≡◌, IsUtf8, sym, ap, subst, ◌∙◌, rules}
use Rattle.std.proofs.lemmas.Str.{IsUtf8-string_bytes}
use Rattle.sql_reader.specs.Syntax.{query_of}
use Rattle.query_print.specs.Spelling.{query_text}
use Rattle.query_print.specs.Placeless.{ReadsBack}
use Rattle.query_print.proofs.SpellQuery.{reads_back}
use Rattle.query_print.proofs.print.print_query.Goals as goal

pub returns-clause-read_back : goal.returns-clause-read_back
returns-clause-read_back c =
    let written : c.of.result ≡ query_text (query_of c.args.q.now) = search rules in
    subst (ReadsBack (query_of c.args.q.now)) (sym written) (reads_back (query_of c.args.q.now) c.requires c.in_ok-put_query.ensures.range)

pub returns-clause-utf8 : goal.returns-clause-utf8
returns-clause-utf8 c =
    subst IsUtf8 (sym (c.of.ensures ∙ ap (λ v. v.items) c.into_bytes.ensures.value)) (IsUtf8-string_bytes c.put_query.new.out)
