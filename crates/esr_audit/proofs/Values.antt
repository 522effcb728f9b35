-- The value of an item that a set of updates leaves is that of the set's last writer.
use Rattle.std.proofs.Common.{◌≡◌, ℕ, suc, ℤ, Bool, true, false, cond, ◌&&◌, ◌||◌, eqb, List, [], ◌∷◌, ◌++◌, take, filter, flat_map, refl, sym, ap, ◌∙◌, inl, inr, Some, None}
use Rattle.std.specs.List.{list_any, filter_map, cons_option, AllByRecursion}
use Rattle.std.proofs.lemmas.Bool.{cases_Bool, true≢false, false≢true, or_parts, or_cases}
use Rattle.esr_items.specs.Values.{value_at}
use Rattle.esr_history.specs.declared.event.Event.{Event}
use Rattle.esr_history.specs.declared.event.Event.TheVariants.{BeginUpdate, BeginQuery, Read, Write, Commit, Abort}
use Rattle.esr_history.specs.Events.{writes, written, last_value}
use Rattle.esr_history.specs.Machine.{Schedule, accepted_in}
use Rattle.esr_history.specs.Serial.{values_by, state}
use Rattle.esr_history.proofs.LastWriter.{last_value-append, last_value-some}
use Rattle.esr_cert.specs.Problem.{version}
use Rattle.esr_order.specs.Relevant.{has_written}

none_pass : {X : Type 0} (S : X → Bool) (xs : List X) → list_any S xs ≡ false → filter S xs ≡ []
none_pass S [] h = refl
none_pass S (x ∷ xs) h =
    let both : (S x ≡ false) × (list_any S xs ≡ false) = or_parts (S x) (list_any S xs) h in
    rw both.0 (none_pass S xs both.1)

some_value : (w : ℕ → List ℤ) (S : ℕ → Bool) (ws : List ℕ) → AllByRecursion (λ u. w u ≡ [] → ⊥) ws → list_any S ws ≡ true → flat_map w (filter S ws) ≡ [] → ⊥
some_value w S [] a h = absurd (false≢true h)
some_value w S (u ∷ ws) a h =
    let rest : list_any S ws ≡ true → flat_map w (filter S ws) ≡ [] → ⊥ = some_value w S ws a.1 in
    elim (cases_Bool (S u)) [
      | inl t ↦ λ e. a.0 (front (w u) (flat_map w (filter S ws)) (sym (ap (λ xs. flat_map w xs) (passing t)) ∙ e))
      | inr f ↦ λ e. rest (elim (or_cases (S u) (list_any S ws) h) [ inl t ↦ absurd (true≢false (sym t ∙ f)) | inr r ↦ r ]) (sym (ap (λ xs. flat_map w xs) (failing f)) ∙ e)
    ]
  where
    passing : S u ≡ true → filter S (u ∷ ws) ≡ u ∷ filter S ws
    passing t = rw t refl

    failing : S u ≡ false → filter S (u ∷ ws) ≡ filter S ws
    failing f = rw f refl

    front : (xs ys : List ℤ) → xs ++ ys ≡ [] → xs ≡ []
    front [] ys e = refl
    front (x ∷ xs) ys e = cc

-- the version that a set leaves is the value after its members
pub version_leaves : (w : ℕ → List ℤ) (S : ℕ → Bool) (ws : List ℕ) (v : ℤ) → AllByRecursion (λ u. w u ≡ [] → ⊥) ws → last_value v (flat_map w (take (version S ws) ws)) ≡ last_value v (flat_map w (filter S ws))
version_leaves w S [] v a = refl
version_leaves w S (u ∷ ws) v a =
    let rest : last_value (last_value v (w u)) (flat_map w (take (version S ws) ws)) ≡ last_value (last_value v (w u)) (flat_map w (filter S ws)) = version_leaves w S ws (last_value v (w u)) a.1 in
    elim (cases_Bool (list_any S (u ∷ ws))) [
      | inl some ↦
          ap (λ b. last_value v (flat_map w (take (cond b (suc (version S ws)) 0) (u ∷ ws)))) some
          ∙ last_value-append v (w u) (flat_map w (take (version S ws) ws))
          ∙ rest
          ∙ elim (cases_Bool (S u)) [
            | inl t ↦ sym (last_value-append v (w u) (flat_map w (filter S ws))) ∙ sym (ap (λ b. last_value v (flat_map w (cond b (u ∷ filter S ws) (filter S ws)))) t)
            | inr f ↦
                let later : list_any S ws ≡ true = elim (or_cases (S u) (list_any S ws) some) [ inl t ↦ absurd (true≢false (sym t ∙ f)) | inr r ↦ r ] in
                last_value-some (flat_map w (filter S ws)) (last_value v (w u)) v (some_value w S ws a.1 later)
                ∙ sym (ap (λ b. last_value v (flat_map w (cond b (u ∷ filter S ws) (filter S ws)))) f)
          ]
      | inr none ↦
          ap (λ b. last_value v (flat_map w (take (cond b (suc (version S ws)) 0) (u ∷ ws)))) none
          ∙ sym (ap (λ xs. last_value v (flat_map w xs)) (none_pass S (u ∷ ws) none))
    ]

-- an update leaves a value of the item if and only if it wrote the item
pub values_none : (x u : ℕ) (es : List Event) → list_any (writes u x) es ≡ false → filter_map (written (λ t. eqb t u) x) es ≡ []
values_none x u [] h = refl
values_none x u (BeginUpdate l ∷ es) h = values_none x u es h
values_none x u (BeginQuery l s ∷ es) h = values_none x u es h
values_none x u (Read t y ∷ es) h = values_none x u es h
values_none x u (Commit t ∷ es) h = values_none x u es h
values_none x u (Abort t ∷ es) h = values_none x u es h
values_none x u (Write t y v ∷ es) h =
    let both : ((eqb t.0 u && eqb y.0 x) ≡ false) × (list_any (writes u x) es ≡ false) = or_parts (eqb t.0 u && eqb y.0 x) (list_any (writes u x) es) h in
    ap (λ b. cons_option (cond b (Some v) None) (filter_map (written (λ t. eqb t u) x) es)) (swap (eqb t.0 u) (eqb y.0 x) both.0) ∙ values_none x u es both.1
  where
    swap : (a b : Bool) → (a && b) ≡ false → (b && a) ≡ false
    swap true true e = e
    swap true false e = refl
    swap false true e = refl
    swap false false e = refl

pub values_some : (x u : ℕ) (es : List Event) → list_any (writes u x) es ≡ true → filter_map (written (λ t. eqb t u) x) es ≡ [] → ⊥
values_some x u [] h = absurd (false≢true h)
values_some x u (BeginUpdate l ∷ es) h = values_some x u es h
values_some x u (BeginQuery l s ∷ es) h = values_some x u es h
values_some x u (Read t y ∷ es) h = values_some x u es h
values_some x u (Commit t ∷ es) h = values_some x u es h
values_some x u (Abort t ∷ es) h = values_some x u es h
values_some x u (Write t y v ∷ es) h = at (values_some x u es) (eqb t.0 u) (eqb y.0 x) h
  where
    at : (list_any (writes u x) es ≡ true → filter_map (written (λ t. eqb t u) x) es ≡ [] → ⊥) → (a b : Bool) → ((a && b) || list_any (writes u x) es) ≡ true → cons_option (cond (b && a) (Some v) None) (filter_map (written (λ t. eqb t u) x) es) ≡ [] → ⊥
    at rest true true h = λ e. cc
    at rest true false h = rest h
    at rest false true h = rest h
    at rest false false h = rest h

pub writers_leave : (h : Schedule) (x : ℕ) (us : List ℕ) → AllByRecursion (λ u. values_by h x u ≡ [] → ⊥) (filter (has_written h x) us)
writers_leave h x [] = tt
writers_leave h x (u ∷ us) = at (has_written h x u) refl (writers_leave h x us)
  where
    at : (b : Bool) → has_written h x u ≡ b → AllByRecursion (λ u. values_by h x u ≡ [] → ⊥) (filter (has_written h x) us) → AllByRecursion (λ u. values_by h x u ≡ [] → ⊥) (cond b (u ∷ filter (has_written h x) us) (filter (has_written h x) us))
    at true e rest = (values_some x u (accepted_in h) e, rest)
    at false e rest = rest

-- only the writers of an item decide its value
only_writers : (h : Schedule) (x : ℕ) (S : ℕ → Bool) (us : List ℕ) → flat_map (values_by h x) (filter S us) ≡ flat_map (values_by h x) (filter S (filter (has_written h x) us))
only_writers h x S [] = refl
only_writers h x S (u ∷ us) = at (has_written h x u) refl (S u) refl (only_writers h x S us)
  where
    at : (b : Bool) → has_written h x u ≡ b → (c : Bool) → S u ≡ c → flat_map (values_by h x) (filter S us) ≡ flat_map (values_by h x) (filter S (filter (has_written h x) us))
        → flat_map (values_by h x) (cond c (u ∷ filter S us) (filter S us)) ≡ flat_map (values_by h x) (filter S (cond b (u ∷ filter (has_written h x) us) (filter (has_written h x) us)))
    at true e true f rest = ap (λ vs. values_by h x u ++ vs) rest ∙ sym (ap (λ d. flat_map (values_by h x) (cond d (u ∷ filter S (filter (has_written h x) us)) (filter S (filter (has_written h x) us)))) f)
    at true e false f rest = rest ∙ sym (ap (λ d. flat_map (values_by h x) (cond d (u ∷ filter S (filter (has_written h x) us)) (filter S (filter (has_written h x) us)))) f)
    at false e true f rest = ap (λ vs. vs ++ flat_map (values_by h x) (filter S us)) (values_none x u (accepted_in h) e) ∙ rest
    at false e false f rest = rest

-- the value that a set of updates leaves, by the version that it leaves of the item's writers
pub state_by_version : (h : Schedule) (x : ℕ) (S : ℕ → Bool) (us : List ℕ) → state h (take (version S (filter (has_written h x) us)) (filter (has_written h x) us)) x ≡ state h (filter S us) x
state_by_version h x S us =
    version_leaves (values_by h x) S (filter (has_written h x) us) (value_at h.opening x) (writers_leave h x us)
    ∙ sym (ap (last_value (value_at h.opening x)) (only_writers h x S us))
