-- The lines of the blocks, in pieces.
use Rattle.std.specs.Prelude.{◌≡◌, ℕ, ◌<◌, List, [], Result, IfOk, Vec, length, slice_index_or}
use Rattle.std.specs.declared.alloc.AllocError.{AllocError}
use Rattle.std.specs.declared.alloc.Global.{Global}
use Rattle.esr_plan.specs.Blocks.{Answered}
use Rattle.esr_plan.specs.Text.{block_text}

-- one piece for each block: its lines, if their allocation succeeded
pub record ArePieces (names : List (List ℕ)) (blocks : List (List Answered))
    (pieces : List (Result (Vec ℕ Global) AllocError)) : Type 0 where
  pub every : length pieces ≡ length blocks
  pub each : (i : ℕ) (d : Result (Vec ℕ Global) AllocError) → i < length blocks
      → IfOk (slice_index_or pieces i d) (λ text. text.items ≡ block_text names i (slice_index_or blocks i []))
