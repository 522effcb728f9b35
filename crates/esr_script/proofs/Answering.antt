-- The reply of a run's last state about a query.
use Rattle.std.proofs.Common.{◌≡◌, ℕ, List, Bool, true, map, sym, ◌∙◌, ap, subst, arith}
use Rattle.esr_items.specs.Weights.{weighted}
use Rattle.esr_base.specs.declared.numbers.TxnId.{TxnId}
use Rattle.esr_history.specs.Machine.{Schedule, charges_in, import_in}
use Rattle.esr_history.specs.Queries.{is_committed_query}
use Rattle.esr_cert.specs.Views.{certificate_of}
use Rattle.esr_order.specs.Least.{nearest_placement, least_distance}
use Rattle.esr_order.specs.Relevant.{AreRelevant}
use Rattle.esr_audit.specs.Findings.{IsShown, summary, summary_of}
use Rattle.esr_least.specs.declared.query.QueryAudit.{QueryAudit}
use Rattle.esr_least.specs.Audits.{audit_fields, IsStableAudit}
use Rattle.esr_audit.specs.declared.finding.Finding.{Finding}
use Rattle.esr_views.specs.QueryAnswers.{IsFound, IsFoundOf}
use Rattle.esr_script.specs.QueryAnswers.{IsAuditOf}
use Rattle.esr_script.specs.Text.{ScriptState, transaction_called}
use Rattle.std.proofs.lemmas.Grind.{common_steps}

four : {a b c d e f : ℕ} {us vs : List ℕ} → a ≡ b → c ≡ d → e ≡ f → us ≡ vs → ◌≡◌ {A = ℕ × ℕ × ℕ × List ℕ} (a, c, e, us) (b, d, f, vs)
four {a} {b} {c} {d} {e} {f} {us} {vs} x y z w = grind (arith, common_steps)

module _ (s : ScriptState) (items names : List (List ℕ)) (was_closed : Bool) (first h : Schedule) (name : List ℕ) (q : TxnId)
    (seen : record { items = items; transactions = names; closed = was_closed; history = first } ≡ s) (same : h ≡ first) (called : q ≡ transaction_called s name) where
  history_is : h ≡ s.history
  history_is = same ∙ ap (λ (z : ScriptState). z.history) seen

  -- a property of the machine's history and of the number holds of the state's and of the name's
  both : (P : Schedule → ℕ → Type 0) → P h q.0 → P s.history (transaction_called s name).0
  both P p = subst (P s.history) (ap (λ (t : TxnId). t.0) called) (subst (λ k. P k q.0) history_is p)

  pub found_of : (f : Finding) → f.query ≡ q
      → is_committed_query h q.0 ≡ true → f.distance ≡ least_distance weighted h q.0 → f.import ≡ import_in (charges_in weighted h) q.0
      → map (λ (t : TxnId). t.0) f.before.items ≡ nearest_placement weighted h q.0
      → IsShown weighted h q.0 f.distance (map (λ (t : TxnId). t.0) f.before.items) f.problem (certificate_of f.certificate)
      → AreRelevant h q.0 f.problem.updates
      → IsFoundOf s name f
  found_of f query committed distance import before shown relevant = record {
    committed = both (λ k n. is_committed_query k n ≡ true) committed;
    reported = both (λ k n. summary f ≡ summary_of weighted k n) (four (ap (λ (t : TxnId). t.0) query) distance import before);
    found = both (λ k n. IsFound k n f.problem (certificate_of f.certificate))
        (record { is_problem = shown.is_problem; relevant = relevant; certified = shown.certified; set_is = sym shown.set_is ∙ before; smallest = shown.smallest; without_count = shown.without_count });
  }

  pub audit_of : (a : QueryAudit) → is_committed_query h q.0 ≡ true → audit_fields a ≡ summary_of weighted h q.0 → IsStableAudit weighted h a → IsAuditOf s name a
  audit_of a committed is stable = record {
    committed = both (λ k n. is_committed_query k n ≡ true) committed;
    summary = both (λ k n. audit_fields a ≡ summary_of weighted k n) is;
    stable = both (λ k n. IsStableAudit weighted k a) stable;
  }
