use Rattle.std.proofs.Common.{ℕ, ◌-◌, ◌≤◌, ◌∙◌, ap, arith, get_or, take, length}
use Rattle.esr_base.specs.declared.numbers.TxnId.{TxnId}
use Rattle.esr_ledgers.specs.Books.{charged_to_queries, lowered}
use Rattle.esr_ledgers.proofs.Books.{charged_last, imported_ascends, open_imported, raised_enough, lowered_raised}
use Rattle.esr_ledgers.proofs.ledgers.undo_imports.Goals as goal

pub lower-requires-clause-ascending : goal.lower-requires-clause-ascending
lower-requires-clause-ascending c =
    let added = c.requires.added in
    rw (c.loop-i.invariant added.0 added.3) (imported_ascends (take c.loop-i.i c.args.charges.now) added.0 added.1)

pub lower-requires-clause-open : goal.lower-requires-clause-open
lower-requires-clause-open c =
    let added = c.requires.added in
    let charge : TxnId × ℕ = get_or c.args.charges.now (c.loop-i.i - 1) (record { 0 = 0 }, 0) in
    rw (c.loop-i.invariant added.0 added.3) (open_imported charge.0.0 (take c.loop-i.i c.args.charges.now) added.0 (added.2 (c.loop-i.i - 1) (record { 0 = 0 }, 0) (omega (arith, c.loop-i-test.true, c.loop-i.auto.i, c.requires.count))))

pub lower-requires-clause-enough : goal.lower-requires-clause-enough
lower-requires-clause-enough c =
    let added = c.requires.added in
    let cs = c.args.charges.now in
    let i = c.loop-i.i in
    let charge : TxnId × ℕ = get_or cs (i - 1) (record { 0 = 0 }, 0) in
    let high : i ≤ length cs = omega (arith, c.loop-i-test.true, c.loop-i.auto.i, c.requires.count) in
    rw (c.loop-i.invariant added.0 added.3 ∙ charged_last added.0 cs i (record { 0 = 0 }, 0) c.loop-i-test.true high)
    (raised_enough charge.0.0 charge.1 (charged_to_queries added.0 (take (i - 1) cs)) (open_imported charge.0.0 (take (i - 1) cs) added.0 (added.2 (i - 1) (record { 0 = 0 }, 0) (omega (arith, c.loop-i-test.true, high)))))

pub loop-i-preserved : goal.loop-i-preserved
loop-i-preserved c = λ before is.
    let cs = c.args.charges.now in
    let i = c.loop-i.i in
    let charge : TxnId × ℕ = get_or cs (i - 1) (record { 0 = 0 }, 0) in
    let high : i ≤ length cs = omega (arith, c.loop-i-test.true, c.loop-i.auto.i, c.requires.count) in
    c.lower.ensures ∙ (ap (lowered charge.0.0 charge.1) (c.loop-i.invariant before is ∙ charged_last before cs i (record { 0 = 0 }, 0) c.loop-i-test.true high)
    ∙ lowered_raised charge.0.0 charge.1 (charged_to_queries before (take (i - 1) cs)))
