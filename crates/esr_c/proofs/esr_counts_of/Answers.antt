use Rattle.std.proofs.Common.{◌≡◌, ◌∙◌, ap, subst, sym, Option, IfSome}
use Rattle.esr_history.specs.Machine.{Schedule}
use Rattle.esr_engine.specs.Capacity.{counts_of}
use Rattle.esr_c.proofs.esr_counts_of.Goals as goal

pub returns-clause-counts : goal.returns-clause-counts
returns-clause-counts c _ =
    subst (λ (old : Option Schedule). IfSome old (λ h. c.counts.result ≡ counts_of h)) (sym c.in-Some.ensures.engine) (c.counts.ensures.counts ∙ ap counts_of c.deref.ensures)
