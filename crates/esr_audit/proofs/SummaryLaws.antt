-- The summaries of findings are those of their queries.
use Rattle.std.proofs.Common.{◌≡◌, ℕ, suc, List, [], ◌∷◌, map, refl, ap, ◌∙◌, arith, All}
use Rattle.esr_history.specs.Machine.{DistanceFunction, Schedule}
use Rattle.esr_order.specs.Placements.{is_among}
use Rattle.esr_order.proofs.Least.{law_of_listed_sets}
use Rattle.esr_audit.specs.Findings.{IsFinding, summary, summary_of, Finding}

pub summary_is : (d : DistanceFunction) (h : Schedule) (f : Finding) → IsFinding d h f → summary f ≡ summary_of d h f.query.0
summary_is d h f is =
    let a = is.answer in
    let law = law_of_listed_sets d h f.query.0 (is_among (map (λ t. t.0) f.before.items)) a.smallest in
    λ i. (f.query.0, (a.distance_is ∙ law.1) i, a.import_is i, (a.in_order ∙ law.0) i)

pub all_summaries : (d : DistanceFunction) (h : Schedule) (fs : List Finding) (queries : List ℕ) → All (IsFinding d h) fs → map (λ (f : Finding). f.query.0) fs ≡ queries → map summary fs ≡ map (summary_of d h) queries
all_summaries d h fs queries are is = each fs are ∙ ap (map (summary_of d h)) is
  where
    each : (fs : List Finding) → All (IsFinding d h) fs → map summary fs ≡ map (summary_of d h) (map (λ (f : Finding). f.query.0) fs)
    each [] are = refl
    each (f ∷ fs) are = λ i. summary_is d h f (are 0 f (omega arith)) i ∷ each fs (λ k e l. are (suc k) e (omega arith)) i
