-- The kept audit after a step of the machine, and once it is taken.
use Rattle.std.proofs.Common.{◌≡◌, ℕ, true, Option, Some, Result, Ok, Err, IfOk, OnErr, IfSome, sym, subst}
use Rattle.esr_history.specs.Machine.{DistanceFunction, Schedule, IsLegal, extended}
use Rattle.esr_history.specs.Queries.{is_committed_query}
use Rattle.esr_history.specs.declared.event.Event.{Event}
use Rattle.esr_history.specs.declared.event.Reply.{Reply}
use Rattle.esr_least.specs.declared.query.QueryAudit.{QueryAudit}
use Rattle.esr_audit.specs.Findings.{summary_of}
use Rattle.esr_least.specs.Audits.{audit_fields, IsStableAudit}
use Rattle.esr_least.proofs.Stable.{kept_onward, at_present}

pub kept_after : {E : Type 0} (d : DistanceFunction) (h new : Schedule) (e : Event) (r : Result Reply E) (kept : Option QueryAudit)
    → IfOk r (λ reply. new ≡ extended h e reply) → OnErr r (new ≡ h) → IfSome kept (IsStableAudit d h) → IfSome kept (IsStableAudit d new)
kept_after d h new e (Ok reply) kept added err was = subst (λ s. IfSome kept (IsStableAudit d s)) (sym added) (kept_onward d h e reply kept was)
kept_after d h new e (Err x) kept added err was = subst (λ s. IfSome kept (IsStableAudit d s)) (sym err) was

pub taken : (d : DistanceFunction) (h now : Schedule) (q : ℕ) (kept : Option QueryAudit) (a : QueryAudit)
    → Some a ≡ kept → IfSome kept (IsStableAudit d h) → IsLegal d h → h ≡ now → a.query.0 ≡ q
    → (is_committed_query now q ≡ true) × (audit_fields a ≡ summary_of d now q)
taken d h now q kept a is was legal view same =
    let own : IsStableAudit d h a = subst (λ o. IfSome o (IsStableAudit d h)) (sym is) was in
    let both = at_present d h a legal own in
    subst (λ (g : Schedule). (is_committed_query g q ≡ true) × (audit_fields a ≡ summary_of d g q)) view
    (subst (λ (n : ℕ). (is_committed_query h n ≡ true) × (audit_fields a ≡ summary_of d h n)) same both)
