-- A call that processes an input, from a reader to a writer.
use Rattle.std.specs.Prelude.{◌≡◌, ℕ, List, Option, Some, Result}
use Rattle.std.specs.Io.KnownBytes.{Appends}
use Rattle.esr_base.specs.Watch.{inner, failed}
use Rattle.esr_base.specs.declared.watched.Watched.{Watched}
use Rattle.esr_script.specs.Text.{RunFault}
use Rattle.esr_script.specs.Parts.{is_read_fault, is_write_fault}

-- The end of a call that reads and writes. Whatever the input was, the call ended by Ends, a relation of the input,
-- the unread rest, the result and the text written. The reader has failed exactly if the result is a failed read, and
-- the writer exactly if the result is a failed write.
pub record ReadsAndWrites {R W : Type 0} (remaining : R → Option (List ℕ)) (contents : W → Option (List ℕ))
    (reader_old reader_new : Watched R) (writer_old writer_new : Watched W)
    (Ends : List ℕ → Option (List ℕ) → Result (Unit {0}) RunFault → List ℕ → Type 0)
    (result : Result (Unit {0}) RunFault) : Type 0 where
  pub text : (input : List ℕ) → remaining (inner reader_old) ≡ Some input → (written : List ℕ)
      × Appends (contents (inner writer_old)) (contents (inner writer_new)) written
      × Ends input (remaining (inner reader_new)) result written
  pub reader : failed reader_new ≡ is_read_fault result
  pub writer : failed writer_new ≡ is_write_fault result
