-- The plan of a drive file, or the first line with a fault.
use Rattle.std.specs.Prelude.{ℕ, ◌+◌, ◌==◌, ℤ, List, [], ◌∷◌, ◌++◌, not, nat_lt, nat_eq, Option, Some, None, Result, Ok, Err, length, map, codes, unwrap_or, if◌then◌else◌, filter_map, flat_map, bytes_eq}
use Rattle.esr_base.specs.declared.limits.TheConstants.{MAX_ITEMS}
use Rattle.esr_items.specs.Values.{is_value}
use Rattle.esr_items.specs.Weights.{is_weight}
use Rattle.esr_report.specs.Names.{is_bound}
use Rattle.esr_grammar.specs.Lines.{lines}
use Rattle.esr_grammar.specs.Command.{Command, item, weighted_item, begin_update, begin_query, begin_strict_query, read, write, commit, abort, is_skipped, reading}
use Rattle.esr_grammar.specs.declared.limits.TheConstants.{MAX_LINES, MAX_LINE_BYTES}
use Rattle.esr_plan.specs.declared.draft.TheConstants.{MAX_BLOCKS}
pub use Rattle.esr_plan.specs.declared.fault.DriveFault.{DriveFault}
pub use Rattle.esr_plan.specs.declared.fault.DriveFault.TheVariants.{LineTooLong, TooManyLines, BadScript}

-- the names of the items, their opening values and the given weights, and the commands of each block
pub record Plan : Type 0 where
  pub names : List (List ℕ)
  pub values : List ℤ
  pub weights : List (Option ℕ)
  pub blocks : List (List Command)

abbrev pub nothing : Plan
nothing = record { names = []; values = []; weights = []; blocks = [] }

-- the weight of an item, 1 by default
abbrev pub weight_in : Option ℕ → ℕ
weight_in given = unwrap_or given 1

abbrev pub weights_of : List (Option ℕ) → List ℕ
weights_of given = map weight_in given

-- the name of the transaction that a command begins
abbrev pub new_name : Command → Option (List ℕ)
new_name (begin_update name limit) = Some name
new_name (begin_query name limit) = Some name
new_name (begin_strict_query name limit) = Some name
new_name _ = None

-- the names of the transactions that begin in the blocks
abbrev pub new_names : List (List Command) → List (List ℕ)
new_names blocks = filter_map new_name (flat_map (λ commands. commands) blocks)

-- one more command in the last block
abbrev pub onto_last : Command → List (List Command) → List (List Command)
onto_last c [] = []
onto_last c (b ∷ []) = (b ++ c ∷ []) ∷ []
onto_last c (b ∷ (next ∷ more)) = b ∷ onto_last c (next ∷ more)

-- The plan after a line, or the number of the line's error.

abbrev pub with_session : Plan → Result Plan ℕ
with_session p =
    if length p.blocks == MAX_BLOCKS then Err 7
    else Ok (record p { blocks = p.blocks ++ [] ∷ [] })

abbrev pub with_item : Plan → List ℕ → ℤ → Option ℕ → Result Plan ℕ
with_item p name value weight =
    if not (length p.blocks == 0) then Err 2
    else if is_bound p.names name then Err 3
    else if not (is_value value) then Err 4
    else if length p.names == MAX_ITEMS then Err 5
    else if not (is_weight (weight_in weight)) then Err 8
    else Ok (record p {
      names = p.names ++ name ∷ [];
      values = p.values ++ value ∷ [];
      weights = p.weights ++ weight ∷ [];
    })

abbrev pub with_operation : Plan → Command → Result Plan ℕ
with_operation p c =
    if length p.blocks == 0 then Err 1
    else Ok (record p { blocks = onto_last c p.blocks })

abbrev pub with_begin : Plan → List ℕ → Command → Result Plan ℕ
with_begin p name c =
    if length p.blocks == 0 then Err 1
    else if is_bound (new_names p.blocks) name then Err 3
    else Ok (record p { blocks = onto_last c p.blocks })

abbrev pub with_command : Plan → Command → Result Plan ℕ
with_command p (item name value) = with_item p name value None
with_command p (weighted_item name value weight) = with_item p name value (Some weight)
with_command p (begin_update name limit) = with_begin p name (begin_update name limit)
with_command p (begin_query name limit) = with_begin p name (begin_query name limit)
with_command p (begin_strict_query name limit) = with_begin p name (begin_strict_query name limit)
with_command p (read txn x) = with_operation p (read txn x)
with_command p (write txn x value) = with_operation p (write txn x value)
with_command p (commit txn) = with_operation p (commit txn)
with_command p (abort txn) = with_operation p (abort txn)
with_command p other = Err 1

abbrev pub with_line : Plan → List ℕ → Result Plan ℕ
with_line p line =
    if is_skipped line then Ok p
    else if bytes_eq line (codes "session") then with_session p
    else (elim (reading line) [
      | Some c ↦ with_command p c
      | None ↦ Err 1
    ])

-- the plan extended by the lines; lines are counted from 1
abbrev pub plan_from : ℕ → Plan → List (List ℕ) → Result Plan DriveFault
plan_from number p [] = Ok p
plan_from number p (line ∷ more) =
    elim (with_line p line) [
      | Ok next ↦ plan_from (number + 1) next more
      | Err error ↦ Err (BadScript number error)
    ]

-- the fault of the first line that is too long or one too many, after `count` lines
abbrev pub line_limit_fault : ℕ → List (List ℕ) → Option DriveFault
line_limit_fault count [] = None
line_limit_fault count (line ∷ more) =
    if nat_eq count MAX_LINES then Some TooManyLines
    else if nat_lt MAX_LINE_BYTES (length line) then Some LineTooLong
    else line_limit_fault (count + 1) more

-- the plan of a file
abbrev pub plan_of : List ℕ → Result Plan DriveFault
plan_of bytes =
    elim (line_limit_fault 0 (lines bytes)) [
      | Some fault ↦ Err fault
      | None ↦ plan_from 1 nothing (lines bytes)
    ]
