use Rattle.std.proofs.Common.{◌≡◌, ◌∙◌, ap, sym, subst, List, [], ◌∷◌, ◌++◌, Option, ℕ}
use Rattle.esr_why.specs.Waits.{AreLastEntries}
use Rattle.esr_why.proofs.Waiting.{more_waits}
use Rattle.esr_why.proofs.waits.LastEntries.walk.Goals as goal

pub loop-preserved : goal.loop-preserved
loop-preserved c =
    let es = c.args.log.now.entries in
    let places : c.meets.new.self.places ≡ c.args.self.now.places = c.meets.ensures ∙ c.loop.invariant.places in
    let last_entries : AreLastEntries es c.meets.new.self.places.items = subst (λ ps. AreLastEntries es ps.items) (sym places) c.requires.last_entries in
    record {
      waiting = more_waits es c.loop.waits.items c.push-in-loop.new.self.items c.in-Some.wait c.in_ok-push-2.ensures.items c.loop.invariant.waiting (c.in-Some.ensures.wait last_entries);
      first = (c.loop.invariant.first.0 ++ c.in-Some.wait ∷ [], c.in_ok-push-2.ensures.items ∙ ap (λ ws. ws ++ c.in-Some.wait ∷ []) c.loop.invariant.first.1);
      places = places;
    }
