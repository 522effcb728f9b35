use Rattle.std.proofs.Common.{◌≡◌, ℕ, zero, suc, false, refl, ◌∙◌, ap, replicate}
use Rattle.esr_order.specs.BackwardSearch.{marked}
use Rattle.esr_stream.proofs.closing.no_later.Goals as goal

nothing_marked : (n x : ℕ) → marked (replicate n false) x ≡ false
nothing_marked zero x = refl
nothing_marked (suc n) zero = refl
nothing_marked (suc n) (suc x) = nothing_marked n x

pub returns-clause-read : goal.returns-clause-read
returns-clause-read c x = ap (λ l. marked l x) (c.in_ok-read.ensures.items_if_clones_equal (λ y e. e)) ∙ nothing_marked _ x

pub returns-clause-written : goal.returns-clause-written
returns-clause-written c x = ap (λ l. marked l x) (c.in_ok-written.ensures.items_if_clones_equal (λ y e. e)) ∙ nothing_marked _ x
