-- The meaning of the bytes of a bundle.
use Rattle.std.specs.Prelude.{◌≡◌, ℕ, List, Some, Result, Ok, Err, IsUtf8, ⊤}
use Rattle.serde_json.specs.Data.{Data}
use Rattle.serde_json.specs.Read.{read}
use Rattle.esr_cert.specs.Problem as spec
use Rattle.esr_cert.specs.Certificate as certificates
use Rattle.esr_cert.specs.Views.{certificate_of}
use Rattle.esr_cert.specs.declared.certificate.Certificate.{Certificate}
use Rattle.esr_cert.specs.declared.problem.BundleFault.{BundleFault}
use Rattle.esr_cert.specs.declared.problem.BundleFault.TheVariants.{Json, Shape, Range, NoMemory}
use Rattle.esr_bundle.specs.Bundle.{problem_in}

-- the bytes are JSON that reads as the tree
abbrev pub IsTree : List ℕ → Data → Type 0
IsTree bytes d = IsUtf8 bytes × (read bytes ≡ Some d)

-- the bytes are no JSON
abbrev pub HasNoTree : List ℕ → Type 0
HasNoTree bytes = (d : Data) → IsTree bytes d → ⊥

-- the problem and certificate that the bytes encode, or the fault
abbrev pub Encodes : List ℕ → Result (spec.Problem × certificates.Certificate) BundleFault → Type 0
Encodes bytes b = (d : Data) × IsTree bytes d × (problem_in d ≡ b)

-- the meaning of the bytes: that of their tree, or that they are not valid JSON
abbrev pub DecodesTo : List ℕ → Result (spec.Problem × certificates.Certificate) BundleFault → Type 0
DecodesTo bytes (Ok b) = Encodes bytes (Ok b)
DecodesTo bytes (Err Json) = HasNoTree bytes
DecodesTo bytes (Err Shape) = Encodes bytes (Err Shape)
DecodesTo bytes (Err Range) = Encodes bytes (Err Range)
DecodesTo bytes (Err NoMemory) = ⊥

-- `NoMemory` is always allowed, and every other result is the meaning of the bytes
abbrev pub IsReadingOf : List ℕ → Result (spec.Problem × Certificate) BundleFault → Type 0
IsReadingOf bytes (Ok b) = Encodes bytes (Ok (b.0, certificate_of b.1))
IsReadingOf bytes (Err Json) = HasNoTree bytes
IsReadingOf bytes (Err Shape) = Encodes bytes (Err Shape)
IsReadingOf bytes (Err Range) = Encodes bytes (Err Range)
IsReadingOf bytes (Err NoMemory) = ⊤
