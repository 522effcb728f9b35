use Rattle.std.proofs.Common.{◌≡◌, ◌≤◌, ◌∙◌, ℕ, false, List, length, sym, ap, inl, inr, arith}
use Rattle.std.proofs.lemmas.Bool.{cases_eq, cases_lt}
use Rattle.std.proofs.lemmas.List.{get_or_past}
use Rattle.esr_bound.specs.Amounts.{Amount}
use Rattle.esr_stream.specs.Passes.{ItemState, no_state, state_at, unowed_at}
use Rattle.esr_stream.proofs.items.have_same_amounts.Goals as goal

-- an amount with loans, none of a marked update
abbrev without_mark : ℕ → ℕ → Amount
without_mark amount loan = record { amount = amount; loan = loan; owed = false }

same_state : (a b : ItemState) → (a.amount ≡ b.amount) × (a.loan ≡ b.loan) → without_mark a.amount a.loan ≡ without_mark b.amount b.loan
same_state a b e = ap (λ m. without_mark m a.loan) e.0 ∙ ap (λ m. without_mark b.amount m) e.1

-- past the end all items have the empty state
past : (a : List ItemState) (x : ℕ) → length a ≤ x → unowed_at a x ≡ without_mark 0 0
past a x l = ap (λ (s : ItemState). without_mark s.amount s.loan) (get_or_past a x no_state l)

pub loop-x-init : goal.loop-x-init
loop-x-init c = λ y l. absurd (omega arith)

pub loop-x-preserved : goal.loop-x-preserved
loop-x-preserved c = λ y l. elim (cases_eq y c.loop-x.x) [
  | inl e ↦ ap (unowed_at c.args.a.now) e ∙ same_state (state_at c.args.a.now c.loop-x.x) (state_at c.args.b.now c.loop-x.x) (c.has_same_amount.ensures c.if-not-has_same_amount.false) ∙ ap (unowed_at c.args.b.now) (sym e)
  | inr ne ↦ c.loop-x.invariant y (omega (arith, l, ne))
]

pub returns : goal.returns
returns c = λ _ y. elim (cases_lt y (length c.args.a.now)) [
  | inl l ↦ c.loop-x.invariant y (omega (arith, l, c.loop-x-test.false))
  | inr l ↦ past c.args.a.now y l ∙ sym (past c.args.b.now y (omega (arith, l, c.if-a-b.false)))
]
