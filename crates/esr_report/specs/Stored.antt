-- The texts of names, one after the other. An entry has the key of a name and the end of its text.
use Rattle.std.specs.Prelude.{ℕ, ◌-◌, ◌≤◌, List, slice_range}
use Rattle.std.specs.Str.{IsCharBoundary}
use Rattle.esr_report.specs.declared.key.Key.{Key}
use Rattle.esr_report.specs.Keyed.{IsKeyOf}

-- the text of an entry: as many bytes before its end as its key says
abbrev pub text_of : List ℕ → Key × ℕ → List ℕ
text_of texts entry = slice_range texts (entry.1 - entry.0.length) entry.1

-- the text of the entry has its key, and the texts may be cut where it starts and where it ends
pub record IsStored (texts : List ℕ) (entry : Key × ℕ) : Type 0 where
  pub keyed : IsKeyOf entry.0 (text_of texts entry)
  pub within : entry.0.length ≤ entry.1
  pub starts : IsCharBoundary texts (entry.1 - entry.0.length)
  pub ends : IsCharBoundary texts entry.1
