use Rattle.std.proofs.Common.{◌≡◌, ℕ, List, ◌++◌, Result, OnOk, ap, sym, ◌∙◌, append-nil, subst, map, flat_map}
use Rattle.esr_items.specs.Weights.{weighted}
use Rattle.esr_audit.specs.Findings.{seen_summary, summary_of}
use Rattle.esr_plan.specs.Text.{finding_text}
use Rattle.esr_plan.specs.Tables.{names_in}
use Rattle.esr_drive.proofs.findings.push_findings.Goals as goal

same_end : {E : Type 0} (r : Result (Unit {0}) E) (all old a b : List ℕ) → a ≡ b → OnOk r (all ≡ old ++ a) → OnOk r (all ≡ old ++ b)
same_end r all old a b is h = subst (λ (t : List ℕ). OnOk r (all ≡ old ++ t)) is h

pub returns-in-Ok : goal.returns-in-Ok
returns-in-Ok g c =
    same_end _ _ _ _ _ (ap (flat_map (finding_text (names_in c.args.names.now))) (ap (map seen_summary) c.deref.ensures.value ∙ c.in-Ok.ensures.summaries.1.summaries)) c.push_summaries.ensures

pub returns-then-nothing : goal.returns-then-nothing
returns-then-nothing g c =
    let text = λ (qs : List ℕ). flat_map (finding_text (names_in c.args.names.now)) (map (summary_of weighted c.args.history.now.schedule) qs) in
    sym (append-nil c.args.out.now.items) ∙ ap (λ (qs : List ℕ). c.args.out.now.items ++ text qs) (sym (c.in_ok-nothing.ensures c.if-nothing.true))
