use Rattle.std.proofs.Common.{◌≡◌, ℕ, ◌||◌, false, length, take, true}
use Rattle.std.specs.List.{list_any}
use Rattle.esr_order.specs.BackwardSearch.{marked, is_access}
use Rattle.esr_stream.proofs.closing.mark.Given as goal

abbrev pub invariant-loop-access : goal.invariant-loop-access
invariant-loop-access l = (length l.read ≡ length l.fn.read)
    × (length l.written ≡ length l.fn.written)
    × ((x : ℕ) → marked l.read x ≡ (marked l.fn.read x || list_any (is_access false x) (take l.access-index l.accesses)))
    × ((x : ℕ) → marked l.written x ≡ (marked l.fn.written x || list_any (is_access true x) (take l.access-index l.accesses)))
