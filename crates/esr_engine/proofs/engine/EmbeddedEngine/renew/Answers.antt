use Rattle.std.proofs.Common.{◌≡◌, ◌∙◌, ap, sym, true, false, true≢false, refl}
use Rattle.esr_core.specs.Renewed.{has_active}
use Rattle.esr_engine.proofs.RenewalLaws.{has_some, has_none}
use Rattle.esr_engine.proofs.engine.EmbeddedEngine.renew.Goals as goal

pub returns-then-self-gt0-clause-active : goal.returns-then-self-gt0-clause-active
returns-then-self-gt0-clause-active c =
    let some : has_active c.args.self.now ≡ true = ap has_active (sym c.self.view_is) ∙ has_some c.self.inside.machine c.self.inside.active c.self.invariant.3 c.if-self-gt0.true in
    (λ _. some, λ _. refl)

pub returns-in_default-clause-active : goal.returns-in_default-clause-active
returns-in_default-clause-active c =
    let none : has_active c.args.self.now ≡ false = ap has_active (sym c.self.view_is) ∙ has_none c.self.inside.machine c.self.inside.active c.self.invariant.3 c.if-self-gt0.false in
    (λ e. absurd (cc), λ some. absurd (true≢false (sym some ∙ none)))
