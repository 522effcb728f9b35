-- The number of each fault, and the fault of a bundle whose closure problem is not valid.
use Rattle.std.specs.Prelude.{ℕ, not, if◌then◌else◌, Option, Some, None}
use Rattle.esr_cert.specs.Problem.{Problem, has_valid_shape, is_in_range}
pub use Rattle.esr_cert.specs.declared.certificate.Fault.{Fault}
pub use Rattle.esr_cert.specs.declared.certificate.Fault.TheVariants.{SetNotAscending, UnknownUpdate, SetNotClosed, OverCapacity, NotConserved, WorthNotCost, TooManyAugmentations}
use Rattle.esr_cert.specs.declared.problem.BundleFault.{BundleFault}
use Rattle.esr_cert.specs.declared.problem.BundleFault.TheVariants.{Json, Shape, Range, NoMemory}

-- shape precedes range
abbrev pub problem_fault : Problem → Option BundleFault
problem_fault p = if not (has_valid_shape p) then Some Shape else (if not (is_in_range p) then Some Range else None)

abbrev pub fault_number : Fault → ℕ
fault_number SetNotAscending = 1
fault_number UnknownUpdate = 2
fault_number SetNotClosed = 3
fault_number OverCapacity = 4
fault_number NotConserved = 5
fault_number WorthNotCost = 6
fault_number TooManyAugmentations = 7

abbrev pub bundle_fault_number : BundleFault → ℕ
bundle_fault_number Json = 1
bundle_fault_number Shape = 2
bundle_fault_number Range = 3
bundle_fault_number NoMemory = 4
