-- The values of the items in a history that carries another.
use Rattle.std.proofs.Common.{◌≡◌, ℕ, zero, suc, ℤ, pos, ◌≤◌, Bool, true, false, not, ◌&&◌, ◌==◌, List, [], ◌∷◌, length, refl, sym, ◌∙◌, ap, ⊎_elim, arith, None, Some, if◌then◌else◌}
use Rattle.std.specs.List.{filter_map, list_any, cons_option}
use Rattle.std.proofs.Math.Path.{fun_ext}
use Rattle.std.proofs.lemmas.Bool.{cases_lt, eq-eqb, and_from, or_left, or_right}
use Rattle.std.proofs.lemmas.List.FromFn.{get_or-map-range_with_len, length-map-range_with_len}
use Rattle.esr_items.specs.Values.{value_at}
use Rattle.esr_history.specs.Events.{is_committed, is_aborted, writes, written, last_value, committed_value, current_value}
use Rattle.esr_history.specs.Machine.{DistanceFunction, Schedule, accepted_in, IsLegal}
use Rattle.esr_history.specs.Operations.{operations}
use Rattle.esr_history.proofs.Actives.{none_pass}
use Rattle.esr_history.proofs.Membership.{In-any}
use Rattle.esr_history.proofs.TraceAgreement.{wrote_trace}
use Rattle.esr_history.proofs.Versions.{wrote_by, wrote_parts}
use Rattle.esr_history.proofs.WithinRanges.{legal_items}
use Rattle.esr_core.specs.Renewed.{committed_values}
use Rattle.esr_core.specs.Carried.{active_numbers, new_number}
use Rattle.esr_core.proofs.Running.{law_of_current_values}
use Rattle.esr_renewal.specs.Types.{Event, BeginUpdate, BeginQuery, Read, Write, Commit, Abort}
use Rattle.esr_renewal.proofs.Replayed.{and_false, runs, events_again, writes_again, none_committed, none_aborted}

-- tests that agree on all writers of an item find the same writes
pub written_agree : (x : ℕ) (p q : ℕ → Bool) (es : List Event) → ((u : ℕ) → list_any (writes u x) es ≡ true → p u ≡ q u) → filter_map (written p x) es ≡ filter_map (written q x) es
written_agree x p q [] same = refl
written_agree x p q (e ∷ es) same =
    ap (λ o. cons_option o (filter_map (written p x) es)) (here e (λ u own. same u (or_left (writes u x e) (list_any (writes u x) es) own)))
    ∙ ap (cons_option (written q x e)) (written_agree x p q es (λ u some. same u (or_right (writes u x e) (list_any (writes u x) es) some)))
  where
    here : (e : Event) → ((u : ℕ) → writes u x e ≡ true → p u ≡ q u) → written p x e ≡ written q x e
    here (Write u y z) own = at (y.0 == x) refl
      where
        at : (b : Bool) → (y.0 == x) ≡ b → (if b && p u.0 then Some z else None) ≡ (if b && q u.0 then Some z else None)
        at false is = refl
        at true is = ap (λ c. if c then Some z else None) (own u.0 (and_from (u.0 == u.0) (y.0 == x) (eq-eqb u.0 u.0 refl) is))
    here (BeginUpdate l) own = refl
    here (BeginQuery l s) own = refl
    here (Read u y) own = refl
    here (Commit u) own = refl
    here (Abort u) own = refl

past_end : (vs : List ℤ) (x : ℕ) → length vs ≤ x → value_at vs x ≡ pos 0
past_end [] x l = refl
past_end (v ∷ vs) zero l = absurd (omega arith)
past_end (v ∷ vs) (suc x) l = past_end vs x (omega arith)

module _ (d : DistanceFunction) (h : Schedule) where
  -- a history that carries another opens with its committed values
  pub opens : IsLegal d h → (x : ℕ) → value_at (committed_values h) x ≡ committed_value h.opening (accepted_in h) x
  opens legal x =
      ⊎_elim
      (λ within. get_or-map-range_with_len (committed_value h.opening (accepted_in h)) 0 (length h.opening) x x (pos 0) within (omega arith))
      (λ past.
      let long : length (committed_values h) ≡ length h.opening = length-map-range_with_len (committed_value h.opening (accepted_in h)) 0 (length h.opening) in
      past_end (committed_values h) x (omega (arith, long))
      ∙ (sym (past_end h.opening x past)
      ∙ ap (last_value (value_at h.opening x)) (sym (written_agree x (is_committed (accepted_in h)) (λ u. false) (accepted_in h) (λ u did. absurd (unwritten past u did)) ∙ none_pass x (λ u. false) (accepted_in h) (λ u. refl)))))
      (cases_lt x (length h.opening))
    where
      unwritten : length h.opening ≤ x → (u : ℕ) → list_any (writes u x) (accepted_in h) ≡ true → ⊥
      unwritten past u did =
          let o = In-any (wrote_by x u) (operations h) (sym (wrote_trace h u x) ∙ did) in
          let p = wrote_parts x u o.0 o.2 in
          let l = legal_items d h legal o.0 o.1 in
          let e = p.1 in
          omega (arith, l, e)

  module _ (opening : List ℤ) (us rs : List Event) (x : ℕ) where
    abbrev again : List Event
    again = events_again d h (active_numbers h) us rs

    pub committed_then : committed_value opening again x ≡ value_at opening x
    committed_then =
        ap (last_value (value_at opening x))
        (writes_again d h (is_committed again) x (active_numbers h) us rs
        ∙ none_pass x (λ s. runs d h s && is_committed again (new_number h s).0) us (λ s. ap (λ b. runs d h s && b) (none_committed d h (active_numbers h) us rs (new_number h s).0) ∙ and_false (runs d h s)))

    pub current_then : current_value opening again x ≡ last_value (value_at opening x) (filter_map (written (runs d h) x) us)
    current_then =
        ap (last_value (value_at opening x))
        (writes_again d h (λ u. not (is_aborted again u)) x (active_numbers h) us rs
        ∙ ap (λ p. filter_map (written p x) us) (fun_ext (λ s. ap (λ b. runs d h s && not b) (none_aborted d h (active_numbers h) us rs (new_number h s).0) ∙ and_true (runs d h s))))
      where
        and_true : (b : Bool) → (b && true) ≡ b
        and_true true = refl
        and_true false = refl

  module _ (legal : IsLegal d h) (rs : List Event) (x : ℕ) where
    pub committed_kept : committed_value (committed_values h) (events_again d h (active_numbers h) (accepted_in h) rs) x ≡ committed_value h.opening (accepted_in h) x
    committed_kept = committed_then (committed_values h) (accepted_in h) rs x ∙ opens legal x

    pub current_kept : current_value (committed_values h) (events_again d h (active_numbers h) (accepted_in h) rs) x ≡ current_value h.opening (accepted_in h) x
    current_kept =
        current_then (committed_values h) (accepted_in h) rs x
        ∙ (ap (λ v. last_value v (filter_map (written (runs d h) x) (accepted_in h))) (opens legal x) ∙ sym (law_of_current_values d h legal x))
