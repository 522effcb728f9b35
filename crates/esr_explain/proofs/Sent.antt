-- The explanation of an audited query.
use Rattle.std.proofs.Common.{◌≡◌, ◌++◌, ℕ, List, ◌∙◌, ap, arith}
use Rattle.esr_items.specs.Weights.{weighted}
use Rattle.esr_history.specs.Machine.{Schedule}
use Rattle.esr_audit.specs.Findings.{summary, summary_of}
use Rattle.esr_views.specs.declared.query.AuditedQuery.{AuditedQuery}
use Rattle.esr_views.specs.QueryAnswers.{IsAnswered}
use Rattle.esr_views.specs.State.{ScriptState, transaction_called}
use Rattle.esr_explain.specs.Explain.{explanation}
use Rattle.esr_explain.specs.Output.{explained}
use Rattle.std.proofs.lemmas.Grind.{common_steps}

-- the parts of an explanation, one after another
pub joined : (r c b a s after_r after_c after_b after_a after_s : List ℕ) → after_r ≡ r → after_c ≡ after_r ++ c → after_b ≡ after_c ++ b → after_a ≡ after_b ++ a → after_s ≡ after_a ++ s
    → after_s ≡ r ++ c ++ b ++ a ++ s
joined r c b a s after_r after_c after_b after_a after_s is_r is_c is_b is_a is_s = grind (arith, common_steps)

-- the audited query is the one requested
query_is : (s : ScriptState) (name : List ℕ) (a : AuditedQuery) → IsAnswered s name a → a.finding.query.0 ≡ (transaction_called s name).0
query_is s name a h = ap (λ (t : ℕ × ℕ × ℕ × List ℕ). t.0) h.finding.reported

pub audited_summary : (s : ScriptState) (name : List ℕ) (a : AuditedQuery) → IsAnswered s name a → summary a.finding ≡ summary_of weighted a.history.schedule a.finding.query.0
audited_summary s name a h = grind (arith, query_is s name a h)

-- the explanation of an audited query
pub explained_summary : (s : ScriptState) (name : List ℕ) (a : AuditedQuery) → IsAnswered s name a → (text : List ℕ)
    → text ≡ explanation weighted a.history.schedule a.items a.transactions a.finding.query.0 → text ≡ explained s name
explained_summary s name a h text is =
    is
    ∙ (ap (λ (k : Schedule). explanation weighted k a.items a.transactions a.finding.query.0) h.history
    ∙ (ap (λ names. explanation weighted s.history names a.transactions a.finding.query.0) h.items
    ∙ (ap (λ names. explanation weighted s.history s.items names a.finding.query.0) h.transactions
    ∙ ap (λ n. explanation weighted s.history s.items s.transactions n) (query_is s name a h))))
