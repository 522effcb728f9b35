-- The current value of an item is its committed value overwritten by the writes of active updates.
use Rattle.std.proofs.Common.{◌≡◌, ℕ, ℤ, Bool, true, false, not, ◌&&◌, ◌==◌, List, [], ◌∷◌, refl, sym, ◌∙◌, ap, Option, None, Some, if◌then◌else◌}
use Rattle.std.specs.List.{filter_map, list_any, cons_option, last_or}
use Rattle.std.proofs.lemmas.Bool.{true≢false, and_parts, and_from, or_left, or_right, eq-eqb, false_from_ne_true}
use Rattle.esr_items.specs.Values.{value_at}
use Rattle.esr_history.specs.Events.{is_begun, is_update, is_active, is_committed, is_aborted, writes, written, last_value, committed_value, current_value, Event, BeginUpdate, BeginQuery, Read, Write, Commit, Abort}
use Rattle.esr_history.specs.WellFormed.{writer_of, last_writer, IsWellFormed}
use Rattle.esr_history.proofs.WellFormed.{update_begun, active_parts}

same_number : (a b : ℕ) → Some a ≡ Some b → a ≡ b
same_number a b e = cc

module _ (x : ℕ) where
  -- if the last writer passes the test, the writes of those that pass leave the same value as all writes
  last_passes : (p : ℕ → Bool) (es : List Event) (o : Option ℕ) (v w : ℤ) → ((s : ℕ) → o ≡ Some s → p s ≡ true → v ≡ w)
      → (t : ℕ) → last_or o (filter_map (writer_of x) es) ≡ Some t → p t ≡ true
      → last_value v (filter_map (written p x) es) ≡ last_value w (filter_map (written (λ _. true) x) es)
  last_passes p [] o v w so t is passes = so t is passes
  last_passes p (BeginUpdate l ∷ es) o v w so t is passes = last_passes p es o v w so t is passes
  last_passes p (BeginQuery l s ∷ es) o v w so t is passes = last_passes p es o v w so t is passes
  last_passes p (Read u y ∷ es) o v w so t is passes = last_passes p es o v w so t is passes
  last_passes p (Commit u ∷ es) o v w so t is passes = last_passes p es o v w so t is passes
  last_passes p (Abort u ∷ es) o v w so t is passes = last_passes p es o v w so t is passes
  last_passes p (Write u y z ∷ es) o v w so t is passes = at (λ o v w so is. last_passes p es o v w so t is passes) (y.0 == x) (p u.0) refl is
    where
      at : ((o : Option ℕ) (v w : ℤ) → ((s : ℕ) → o ≡ Some s → p s ≡ true → v ≡ w) → last_or o (filter_map (writer_of x) es) ≡ Some t
          → last_value v (filter_map (written p x) es) ≡ last_value w (filter_map (written (λ _. true) x) es))
          → (b c : Bool) → p u.0 ≡ c → last_or o (cons_option (if b then Some u.0 else None) (filter_map (writer_of x) es)) ≡ Some t
          → last_value v (cons_option (if b && c then Some z else None) (filter_map (written p x) es))
          ≡ last_value w (cons_option (if b && true then Some z else None) (filter_map (written (λ _. true) x) es))
      at later false c own is = later o v w so is
      at later true true own is = later (Some u.0) z z (λ s e q. refl) is
      at later true false own is = later (Some u.0) v z (λ s e q. absurd (true≢false (sym q ∙ (ap p (sym (same_number u.0 s e)) ∙ own)))) is

  -- tests that agree on all writers of the item find the same writes
  agree : (p q : ℕ → Bool) (es : List Event) → ((u : ℕ) → list_any (writes u x) es ≡ true → p u ≡ q u)
      → filter_map (written p x) es ≡ filter_map (written q x) es
  agree p q [] same = refl
  agree p q (e ∷ es) same =
      ap (λ o. cons_option o (filter_map (written p x) es)) (here e (λ u own. same u (or_left (writes u x e) (list_any (writes u x) es) own)))
      ∙ ap (cons_option (written q x e)) (agree p q es (λ u some. same u (or_right (writes u x e) (list_any (writes u x) es) some)))
    where
      here : (e : Event) → ((u : ℕ) → writes u x e ≡ true → p u ≡ q u) → written p x e ≡ written q x e
      here (BeginUpdate l) own = refl
      here (BeginQuery l s) own = refl
      here (Read u y) own = refl
      here (Commit u) own = refl
      here (Abort u) own = refl
      here (Write u y z) own = at (y.0 == x) refl
        where
          at : (b : Bool) → (y.0 == x) ≡ b → (if b && p u.0 then Some z else None) ≡ (if b && q u.0 then Some z else None)
          at false is = refl
          at true is = ap (λ c. if c then Some z else None) (own u.0 (and_from (u.0 == u.0) (y.0 == x) (eq-eqb u.0 u.0 refl) is))

  pub none_pass : (p : ℕ → Bool) (es : List Event) → ((u : ℕ) → p u ≡ false) → filter_map (written p x) es ≡ []
  none_pass p [] fails = refl
  none_pass p (e ∷ es) fails = ap (λ o. cons_option o (filter_map (written p x) es)) (here e) ∙ none_pass p es fails
    where
      here : (e : Event) → written p x e ≡ None
      here (BeginUpdate l) = refl
      here (BeginQuery l s) = refl
      here (Read u y) = refl
      here (Commit u) = refl
      here (Abort u) = refl
      here (Write u y z) = at (y.0 == x) (p u.0) (fails u.0)
        where
          at : (b c : Bool) → c ≡ false → (if b && c then Some z else None) ≡ None
          at false c no_pass = refl
          at true true no_pass = absurd (true≢false no_pass)
          at true false no_pass = refl

abbrev pub active_update : List Event → ℕ → Bool
active_update events u = is_update events u && is_active events u

module _ (opening : List ℤ) (es : List Event) (o : IsWellFormed es) (x : ℕ) where
  abbrev kept : ℕ → Bool
  kept u = not (is_aborted es u)

  -- a transaction that has begun and is not active has committed or aborted
  ended_kept : (u : ℕ) → is_begun es u ≡ true → is_active es u ≡ false → kept u ≡ is_committed es u
  ended_kept u begun over = at (is_committed es u) (is_aborted es u) refl refl (sym (ap (λ b. b && (not (is_committed es u) && not (is_aborted es u))) begun) ∙ over)
    where
      at : (c a : Bool) → is_committed es u ≡ c → is_aborted es u ≡ a → (true && (not (is_committed es u) && not (is_aborted es u))) ≡ false → not (is_aborted es u) ≡ is_committed es u
      at true true c a h = absurd (true≢false (sym a ∙ o.once u c))
      at true false c a h = ap not a ∙ sym c
      at false true c a h = ap not a ∙ sym c
      at false false c a h = absurd (true≢false (sym (ap (λ b. not b && not (is_aborted es u)) c ∙ ap not a) ∙ h))

  -- if no active update has written the item
  none_active : ((u : ℕ) → list_any (writes u x) es ≡ true → active_update es u ≡ false)
      → current_value opening es x ≡ last_value (committed_value opening es x) (filter_map (written (active_update es) x) es)
  none_active idle =
      ap (last_value (value_at opening x)) (agree x kept (is_committed es) es (λ u wrote.
      let up : is_update es u ≡ true = o.writers u x wrote in
      ended_kept u (update_begun es u up) (at (is_active es u) (sym (ap (λ b. b && is_active es u) up) ∙ idle u wrote))))
      ∙ ap (last_value (committed_value opening es x)) (sym (agree x (active_update es) (λ _. false) es idle ∙ none_pass x (λ _. false) es (λ u. refl)))
    where
      at : (b : Bool) → (true && b) ≡ false → b ≡ false
      at b h = h

  one_active : (t : ℕ) → last_writer es x ≡ Some t → active_update es t ≡ true
      → current_value opening es x ≡ last_value (committed_value opening es x) (filter_map (written (active_update es) x) es)
  one_active t last act =
      let p = active_parts es t (and_parts (is_update es t) (is_active es t) act).1 in
      last_passes x kept es None (value_at opening x) (value_at opening x) (λ s e q. refl) t last (ap not p.2)
      ∙ sym (last_passes x (active_update es) es None (committed_value opening es x) (value_at opening x) (λ s e q. absurd (cc)) t last act)

  pub current_by_active : current_value opening es x ≡ last_value (committed_value opening es x) (filter_map (written (active_update es) x) es)
  current_by_active = at (last_writer es x) refl
    where
      holds : (u : ℕ) → list_any (writes u x) es ≡ true → active_update es u ≡ true → last_writer es x ≡ Some u
      holds u wrote act = o.exclusive u x (and_from (is_active es u) (list_any (writes u x) es) (and_parts (is_update es u) (is_active es u) act).1 wrote)

      at : (l : Option ℕ) → last_writer es x ≡ l → current_value opening es x ≡ last_value (committed_value opening es x) (filter_map (written (active_update es) x) es)
      at None is = none_active (λ u wrote. false_from_ne_true (active_update es u) (λ act. absurd (nothing (sym is ∙ holds u wrote act))))
        where
          nothing : {u : ℕ} → None ≡ Some u → ⊥
          nothing e = cc
      at (Some t) is = given (active_update es t) refl
        where
          given : (b : Bool) → active_update es t ≡ b → current_value opening es x ≡ last_value (committed_value opening es x) (filter_map (written (active_update es) x) es)
          given true act = one_active t is act
          given false idle = none_active (λ u wrote. false_from_ne_true (active_update es u) (λ act.
              true≢false (sym act ∙ (ap (active_update es) (sym (same_number t u (sym is ∙ holds u wrote act))) ∙ idle))))
