use Rattle.std.proofs.Common.{◌≡◌, ◌∙◌, sym, subst, false}
use Rattle.esr_history.specs.declared.event.Event.TheVariants.{Read}
use Rattle.esr_items.specs.Weights.{weighted}
use Rattle.esr_history.specs.Machine.{Schedule, reply_to}
use Rattle.esr_engine.specs.Capacity.{is_full}
use Rattle.esr_engine.proofs.Stepped.{some_active, stepped}
use Rattle.esr_engine.proofs.engine.EmbeddedEngine.read.Goals as goal

pub active_after-self-inside-requires-clause-some : goal.active_after-self-inside-requires-clause-some
active_after-self-inside-requires-clause-some c =
    some_active c.self.inside.machine c.log-invariant.ensures.legal (Read c.args.t c.args.x) c.in-Ok.reply c.in-Ok.ensures.reply c.self.inside.active c.self.invariant.3

pub invariant_of-self : goal.invariant_of-self
invariant_of-self c =
    let free : is_full c.self.inside.machine (Read c.args.t c.args.x) ≡ false = subst (λ (g : Schedule). is_full g (Read c.args.t c.args.x) ≡ false) (sym c.self.view_is) (sym c.is_full.ensures ∙ c.if-is_full.false) in
    stepped c.self.inside.machine c.log-invariant.ensures.legal (Read c.args.t c.args.x) c.in-Ok.reply c.in-Ok.ensures.reply free _ c.self.inside.active c.self.inside.index c.self.invariant
    c.read.new.self c.in-Ok.ensures.added c.active_after-self-inside.result c.active_after-self-inside.ensures

pub returns-in-Ok-clause-reply : goal.returns-in-Ok-clause-reply
returns-in-Ok-clause-reply c =
    subst (λ (g : Schedule). c.in-Ok.reply ≡ reply_to weighted g (Read c.args.t c.args.x)) c.self.view_is c.in-Ok.ensures.reply
