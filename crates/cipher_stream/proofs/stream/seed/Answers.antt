use Rattle.std.proofs.Common.{List, ℕ, [], ◌∷◌, ◌++◌, ap, ◌∙◌}
use Rattle.std.proofs.lemmas.List.{append_assoc}
use Rattle.sha2.specs.Sha256.{sha256}
use Rattle.cipher_stream.specs.Stream.{seed_of}
use Rattle.cipher_stream.proofs.stream.seed.Goals as goal

pub returns : goal.returns
unfolding seed_of
returns c =
    c.finalize.ensures _ (c.update-3.ensures _ (c.update-2.ensures _ (c.update.ensures _ c.new-hasher.ensures)))
    ∙ ap sha256 (append_assoc c.args.key.now (82 ∷ []) c.to_be_bytes.result)
    ∙ ap (λ (bytes : List ℕ). sha256 (c.args.key.now ++ 82 ∷ bytes)) c.to_be_bytes.ensures
