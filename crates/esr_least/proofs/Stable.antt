-- The audit of a committed query holds in longer histories.
use Rattle.std.proofs.Common.{◌≡◌, ℕ, Bool, true, not, ◌&&◌, ◌||◌, List, [], ◌∷◌, ◌++◌, append-nil, append_assoc, Option, Some, None, IfSome, refl, sym, ◌∙◌, ap, ap₂, subst, inl, inr, ⊎_elim, filter, nat_le}
use Rattle.std.specs.List.{list_all}
use Rattle.std.proofs.Math.Path.{fun_ext}
use Rattle.std.proofs.lemmas.Bool.{and_parts}
use Rattle.esr_history.specs.declared.event.Entry.{Entry}
use Rattle.esr_history.specs.declared.event.Event.{Event}
use Rattle.esr_history.specs.declared.event.Reply.{Reply}
use Rattle.esr_history.specs.Events.{is_query, is_committed}
use Rattle.esr_history.specs.Legal.{continued}
use Rattle.esr_history.specs.Machine.{DistanceFunction, Schedule, IsLegal, accepted_in, extended}
use Rattle.esr_history.specs.Queries.{HasSameAudit, cost, is_committed_query, must, updates_committed_before}
use Rattle.esr_history.specs.Serial.{is_before}
use Rattle.esr_history.proofs.Laws.{audit_stays}
use Rattle.esr_history.proofs.Membership.{In, In-Contains, In-append_cases, filter_agree_in}
use Rattle.esr_order.specs.Least.{parts, is_closed_part, closed_parts, least_parts, nearest_placement, least_distance}
use Rattle.esr_order.specs.Placements.{is_among}
use Rattle.esr_order.proofs.Least.{part_within}
use Rattle.esr_audit.specs.Findings.{summary_of}
use Rattle.esr_least.specs.Audits.{audit_fields, IsStableAudit}
use Rattle.esr_least.specs.declared.query.QueryAudit.{QueryAudit}

all_agree : (p r : ℕ → Bool) (xs : List ℕ) → ((x : ℕ) → In x xs → p x ≡ r x) → list_all p xs ≡ list_all r xs
all_agree p r [] f = refl
all_agree p r (x ∷ xs) f = ap₂ (λ a b. a && b) (f x (inl refl)) (all_agree p r xs (λ y i. f y (inr i)))

-- the parts of least cost, by the cost of a set
abbrev cheapest : ((ℕ → Bool) → ℕ) → List (List ℕ) → List (List ℕ)
cheapest c ps = filter (λ part. list_all (λ other. nat_le (c (is_among part)) (c (is_among other))) ps) ps

module _ (d : DistanceFunction) (h longer : Schedule) (q : ℕ) (alike : HasSameAudit d h longer q) where
  closed_same : (part : List ℕ) → In part (parts (updates_committed_before h q)) → is_closed_part longer q part ≡ is_closed_part h q part
  closed_same part i =
      ap₂ (λ (us ms : List ℕ). list_all (λ v. list_all (λ u. not (is_before longer u v) || is_among part u) us) part && list_all (is_among part) ms) alike.updates alike.musts
      ∙ ap (λ b. b && list_all (is_among part) (must h q))
      (all_agree (λ v. list_all (λ u. not (is_before longer u v) || is_among part u) (updates_committed_before h q)) (λ v. list_all (λ u. not (is_before h u v) || is_among part u) (updates_committed_before h q)) part (λ v iv.
      all_agree (λ u. not (is_before longer u v) || is_among part u) (λ u. not (is_before h u v) || is_among part u) (updates_committed_before h q) (λ u iu.
      ap (λ b. not b || is_among part u) (alike.order u v (In-Contains (updates_committed_before h q) u iu) (In-Contains (updates_committed_before h q) v (part_within (updates_committed_before h q) part v i iv))))))

  closed_parts_same : closed_parts longer q ≡ closed_parts h q
  closed_parts_same = ap (λ us. filter (is_closed_part longer q) (parts us)) alike.updates ∙ filter_agree_in (is_closed_part longer q) (is_closed_part h q) (parts (updates_committed_before h q)) closed_same

  least_parts_same : least_parts d longer q ≡ least_parts d h q
  least_parts_same = ap₂ cheapest (fun_ext alike.costs) closed_parts_same

  least_set_same : nearest_placement d longer q ≡ nearest_placement d h q
  least_set_same = ap₂ (λ (us : List ℕ) (ps : List (List ℕ)). filter (λ u. list_all (λ part. is_among part u) ps) us) alike.updates least_parts_same

  least_cost_same : least_distance d longer q ≡ least_distance d h q
  least_cost_same = alike.costs (is_among (nearest_placement d longer q)) ∙ ap (λ us. cost d h q (is_among us)) least_set_same

  summary_same : summary_of d longer q ≡ summary_of d h q
  summary_same = λ i. (q, least_cost_same i, alike.import i, least_set_same i)

-- the audit of a committed query
pub from_now : (d : DistanceFunction) (h : Schedule) (q : ℕ) (a : QueryAudit) → is_committed_query h q ≡ true → audit_fields a ≡ summary_of d h q → IsStableAudit d h a
from_now d h q a over is rest legal =
    let same : a.query.0 ≡ q = ap (λ (s : ℕ × ℕ × ℕ × List ℕ). s.0) is in
    let alike = audit_stays d h rest q legal (and_parts (is_query (accepted_in h) q) (is_committed (accepted_in h) q) over).1 in
    subst (λ n. (is_committed_query (continued h rest) n ≡ true) × (audit_fields a ≡ summary_of d (continued h rest) n)) (sym same)
    (alike.committed ∙ over, is ∙ sym (summary_same d h (continued h rest) q alike))

-- ---- an audit that holds from a history on

-- what an audit says of a history with these entries
abbrev IsAuditWith : DistanceFunction → Schedule → QueryAudit → List Entry → Type 0
IsAuditWith d h a es =
    let g : Schedule = record h { entries = es } in
    IsLegal d g → (is_committed_query g a.query.0 ≡ true) × (audit_fields a ≡ summary_of d g a.query.0)

-- it holds from the next entry on
pub onward : (d : DistanceFunction) (h : Schedule) (e : Event) (r : Reply) (a : QueryAudit) → IsStableAudit d h a → IsStableAudit d (extended h e r) a
onward d h e r a was rest =
    let x : Entry = record { event = e; reply = r } in
    subst (IsAuditWith d h a) (sym (append_assoc h.entries (x ∷ []) rest)) (was (x ∷ rest))

pub kept_onward : (d : DistanceFunction) (h : Schedule) (e : Event) (r : Reply) (kept : Option QueryAudit) → IfSome kept (IsStableAudit d h) → IfSome kept (IsStableAudit d (extended h e r))
kept_onward d h e r (Some a) was = onward d h e r a was
kept_onward d h e r None was = tt

-- it holds in the history itself
pub at_present : (d : DistanceFunction) (h : Schedule) (a : QueryAudit) → IsLegal d h → IsStableAudit d h a → (is_committed_query h a.query.0 ≡ true) × (audit_fields a ≡ summary_of d h a.query.0)
at_present d h a legal was = subst (IsAuditWith d h a) (append-nil h.entries) (was []) legal
