-- The finding of a query is sufficient for its explanation.
use Rattle.std.proofs.Common.{◌≡◌, ◌∙◌, ℕ, IfOk, List, Ok, Result, Some, Vec, ap, subst, sym}
use Rattle.std.specs.declared.alloc.Global.{Global}
use Rattle.esr_items.specs.Weights.{weighted}
use Rattle.esr_history.specs.Machine.{Schedule}
use Rattle.esr_audit.specs.declared.finding.Finding.{Finding}
use Rattle.esr_audit.specs.Findings.{IsFindingOf, summary, summary_of}
use Rattle.esr_audit.proofs.SummaryLaws.{summary_is}
use Rattle.esr_explain.specs.Explain.{explanation}
use Rattle.esr_engine.specs.Capacity.{transaction_count}
use Rattle.esr_dump.specs.Naming.{transaction_names}
use Rattle.esr_c.specs.HistoryTexts.{IsExplanationOf, parsed_item_names}

pub explained : {E : Type 0} (h k : Schedule) (items names : List (List ℕ)) (q : ℕ) (f : Finding) (r : Result (Vec ℕ Global) E) (text : Vec ℕ Global)
    → IsFindingOf weighted h q f → f.query.0 ≡ q → k ≡ h → r ≡ Ok text
    → (summary f ≡ summary_of weighted k f.query.0 → IfOk r (λ v. v.items ≡ explanation weighted k items names f.query.0))
    → text.items ≡ explanation weighted h items names q
explained h k items names q f r text found is same ok reported =
    let first : summary f ≡ summary_of weighted h f.query.0 = summary_is weighted h f (subst (λ (n : ℕ). IsFindingOf weighted h n f) (sym is) found) in
    let here : summary f ≡ summary_of weighted k f.query.0 = subst (λ (s : Schedule). summary f ≡ summary_of weighted s f.query.0) (sym same) first in
    let text_is : text.items ≡ explanation weighted k items names f.query.0 =
    subst (λ (x : Result (Vec ℕ Global) _). IfOk x (λ v. v.items ≡ explanation weighted k items names f.query.0)) ok (reported here) in
    text_is ∙ (ap (λ (s : Schedule). explanation weighted s items names f.query.0) same ∙ ap (explanation weighted h items names) is)

-- the explanation, from the history that the engine had before
module _ (h : Schedule) (q : ℕ) (names : List ℕ) (items transactions : List (List ℕ)) (text : List ℕ) where
  at_first : parsed_item_names h names ≡ Some items → transactions ≡ transaction_names (transaction_count h) → text ≡ explanation weighted h items transactions q → IsExplanationOf h q names text
  at_first named numbered reported = record {
    items = items;
    named = named;
    text_is = reported ∙ ap (λ ts. explanation weighted h items ts q) numbered;
  }

  pub explained_as : (g : Schedule) → g ≡ h → parsed_item_names g names ≡ Some items → transactions ≡ transaction_names (transaction_count g) → text ≡ explanation weighted g items transactions q → IsExplanationOf h q names text
  explained_as g same named numbered reported =
      at_first (subst (λ k. parsed_item_names k names ≡ Some items) same named) (subst (λ k. transactions ≡ transaction_names (transaction_count k)) same numbered) (subst (λ k. text ≡ explanation weighted k items transactions q) same reported)
