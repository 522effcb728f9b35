use Rattle.std.proofs.Common.{◌≡◌, ◌∙◌, ap, sym, is_some, None, Some}
use Rattle.std.proofs.lemmas.Bool.{true≢false}
use Rattle.esr_history.specs.BackLinks.{facts_of}
use Rattle.esr_history.specs.Machine.{Schedule}
use Rattle.esr_order.proofs.Commits.{facts_none}
use Rattle.esr_engine.proofs.ActivePlaces.{begun_so}
use Rattle.esr_engine.proofs.engine.EmbeddedEngine.begun.Goals as goal

pub unreachable-requires : goal.unreachable-requires
unreachable-requires c =
    let h = c.args.self.now in
    let t = c.args.t.0 in
    let none : None ≡ facts_of h.entries t = sym c.in_default.is ∙ (c.facts.ensures ∙ ap (λ (g : Schedule). facts_of g.entries t) (c.history.ensures.schedule ∙ c.self.view_is)) in
    absurd (true≢false (sym c.requires ∙ ap is_some (facts_none h.entries t none)))

pub returns : goal.returns
returns c =
    let h = c.args.self.now in
    let t = c.args.t.0 in
    let some : Some c.in-Some.facts ≡ facts_of h.entries t = sym c.in-Some.is ∙ (c.facts.ensures ∙ ap (λ (g : Schedule). facts_of g.entries t) (c.history.ensures.schedule ∙ c.self.view_is)) in
    begun_so h t c.in-Some.facts some
