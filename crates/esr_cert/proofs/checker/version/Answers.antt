use Rattle.std.proofs.Common.{◌≡◌, ◌+◌, ◌-◌, ◌∙◌, ℕ, suc, sym, ap, length, take, arith}
use Rattle.esr_cert.specs.Problem.{in_set, version}
use Rattle.esr_cert.proofs.Steps.{version_last, version_less}
use Rattle.esr_cert.proofs.checker.version.Goals as goal

pub returns-then-contains : goal.returns-then-contains
returns-then-contains c =
    let k : ℕ = length c.args.writers.now - c.loop-i.i - 1 in
    let at : suc k ≡ length c.args.writers.now - c.loop-i.i = omega arith in
    sym at
    ∙ sym (version_last (in_set c.args.set.now) c.args.writers.now k (omega arith) (sym c.contains.ensures ∙ c.if-contains.true))
    ∙ ap (λ n. version (in_set c.args.set.now) (take n c.args.writers.now)) at
    ∙ c.loop-i.invariant

pub loop-i-preserved : goal.loop-i-preserved
loop-i-preserved c =
    let k : ℕ = length c.args.writers.now - c.loop-i.i - 1 in
    let at : suc k ≡ length c.args.writers.now - c.loop-i.i = omega arith in
    let next : length c.args.writers.now - (c.loop-i.i + 1) ≡ k = omega arith in
    ap (λ n. version (in_set c.args.set.now) (take n c.args.writers.now)) next
    ∙ sym (version_less (in_set c.args.set.now) c.args.writers.now k (omega arith) (sym c.contains.ensures ∙ c.if-contains.false))
    ∙ ap (λ n. version (in_set c.args.set.now) (take n c.args.writers.now)) at
    ∙ c.loop-i.invariant
