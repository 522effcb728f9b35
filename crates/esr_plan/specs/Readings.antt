-- A file that is being read, line by line.
use Rattle.std.specs.Prelude.{◌≡◌, ℕ, ◌<◌, ◌≤◌, List, ◌++◌, Option, Err, IfSome, length, drop}
use Rattle.esr_grammar.specs.declared.limits.TheConstants.{MAX_LINES, MAX_LINE_BYTES}
use Rattle.esr_grammar.specs.Lines.{lines}
use Rattle.esr_plan.specs.Plan.{line_limit_fault, plan_of, DriveFault}
use Rattle.esr_plan.specs.declared.reader.Mark.{Mark}
use Rattle.esr_plan.specs.declared.fault.DriveFault.TheVariants as fault

-- the bytes from the first line on that is not whole yet
abbrev pub rest_from : List ℕ → Mark → List ℕ
rest_from bytes m = drop m.start bytes

-- whatever bytes follow, the fault of the lines from the mark on is that of all lines
abbrev pub IsMark : List ℕ → Mark → Type 0
IsMark bytes m =
    (m.start ≤ length bytes)
    × (m.lines ≤ MAX_LINES)
    × ((rest : List ℕ) → line_limit_fault 0 (lines (bytes ++ rest)) ≡ line_limit_fault m.lines (lines (rest_from bytes m ++ rest)))

-- the fault of a line of `len` bytes, after `count` lines
abbrev pub IsLineFault : ℕ → ℕ → DriveFault → Type 0
IsLineFault count len fault.TooManyLines = count ≡ MAX_LINES
IsLineFault count len fault.LineTooLong = (count ≡ MAX_LINES → ⊥) × (MAX_LINE_BYTES < len)
IsLineFault count len _ = ⊥

-- the possible faults of reading, given all bytes
abbrev pub IsReadFault : Option (List ℕ) → DriveFault → Type 0
IsReadFault known fault.Read = Unit {0}
IsReadFault known fault.LineTooLong = IfSome known (λ input. plan_of input ≡ Err fault.LineTooLong)
IsReadFault known fault.NoMemory = Unit {0}
IsReadFault known fault.TooManyLines = IfSome known (λ input. plan_of input ≡ Err fault.TooManyLines)
IsReadFault known _ = ⊥
