-- A writer of comma-separated text in the midst of its work.
use Rattle.std.specs.Prelude.{◌≡◌, ℕ, false, List, Some}
use Rattle.std.proofs.Common.{Vec, Global}
use Rattle.csv.specs.Writing.{default_writer, fields_written, has_written, text_written, writer_setup}
use Rattle.csv.specs.declared.writer.Writer.{Writer}

-- the writer, between two records, has written these bytes
pub record IsWriting (writer : Writer (Vec ℕ Global)) (bytes : List ℕ) : Type 0 where
  pub set_up : writer_setup writer ≡ default_writer
  pub between : fields_written writer ≡ 0
  pub clean : has_written writer ≡ false
  pub text : text_written (λ (v : Vec ℕ Global). Some v.items) writer ≡ Some bytes
