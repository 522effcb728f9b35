use Rattle.std.proofs.Common.{◌≡◌, ◌∙◌, sym, subst, false, rules}
use Rattle.esr_items.specs.Weights.{weighted}
use Rattle.esr_history.specs.declared.event.Event.TheVariants.{Write}
use Rattle.esr_history.specs.Machine.{Schedule, extended, reply_to}
use Rattle.esr_engine.specs.Capacity.{is_full}
use Rattle.esr_engine.proofs.Stepped.{some_active, stepped}
use Rattle.esr_engine.proofs.engine.EmbeddedEngine.write.Goals as goal
use Rattle.esr_engine.proofs.engine.EmbeddedEngine.write.Goals.{In-Ok}

-- the machine's reply and the state after it, for the value of the call
replied : (c : In-Ok) → c.in-Ok.reply ≡ reply_to weighted c.self.inside.machine (Write c.args.t c.args.x c.args.v)
replied c = search rules

added : (c : In-Ok) → c.write.new.self ≡ extended c.self.inside.machine (Write c.args.t c.args.x c.args.v) c.in-Ok.reply
added c = search rules

pub active_after-self-inside-requires-clause-some : goal.active_after-self-inside-requires-clause-some
active_after-self-inside-requires-clause-some c =
    some_active c.self.inside.machine c.log-invariant.ensures.legal (Write c.args.t c.args.x c.args.v) c.in-Ok.reply (replied c) c.self.inside.active c.self.invariant.3

pub invariant_of-self : goal.invariant_of-self
invariant_of-self c =
    let free : is_full c.self.inside.machine (Write c.args.t c.args.x c.args.v) ≡ false = subst (λ (g : Schedule). is_full g (Write c.args.t c.args.x c.args.v) ≡ false) (sym c.self.view_is) (sym c.is_full.ensures ∙ c.if-is_full.false) in
    let ok = (goal.at.invariant_of-self c).In-Ok in
    stepped c.self.inside.machine c.log-invariant.ensures.legal (Write c.args.t c.args.x c.args.v) c.in-Ok.reply (replied ok) free _ c.self.inside.active c.self.inside.index c.self.invariant
    c.write.new.self (added ok) c.active_after-self-inside.result c.active_after-self-inside.ensures
