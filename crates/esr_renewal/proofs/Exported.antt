-- The open charges of an active update are at most its export.
use Rattle.std.proofs.Common.{◌≡◌, ℕ, ℤ, ◌+◌, ◌*◌, ◌≤◌, Bool, true, false, not, ◌&&◌, ◌||◌, ◌==◌, List, [], ◌∷◌, ◌++◌, length, refl, sym, ◌∙◌, ap, subst, inl, inr, arith, sum_by, count_by, cond, if◌then◌else◌, Option, None, Some, is_some, unwrap_or, option_map}
use Rattle.std.specs.List.{filter_map, list_any, cons_option}
use Rattle.std.proofs.Math.Nat.{le_trans}
use Rattle.std.proofs.lemmas.Bool.{cases_Bool, cases_eq, eq-eqb, ne_eqb, true≢false, and_parts, and_from, or_right, false_from_ne_true}
use Rattle.std.proofs.lemmas.List.Sums.{sum_by-cons, sum_by_push}
use Rattle.esr_items.specs.Values.{value_at}
use Rattle.esr_history.specs.Events.{BeginRecord, begin_record, begin_records, txn_numbers, is_query, is_update, is_active, is_begun, is_committed, is_aborted, commits, aborts, reads, writes, read_count, holds_write, committed_value, current_value}
use Rattle.esr_history.specs.Machine.{DistanceFunction, Schedule, Charge, accepted_in, extended, reply_to, refusal, acceptance, answered, value_distance, due, charges, charges_in, charge_of_read, charge_of_write, export_in, writer, IsLegal}
use Rattle.esr_history.specs.Legal.{legal_induction, IsLegal-extended}
use Rattle.esr_history.specs.WellFormed.{IsWellFormed, names}
use Rattle.esr_history.proofs.Lists.{any_push, any_push_no, find_least}
use Rattle.esr_history.proofs.Steps.{last_written_agree}
use Rattle.esr_history.proofs.WellFormed.{MayFollow, begin_record-push, active_before, active_parts, update_begun}
use Rattle.esr_history.proofs.LegalWellFormed.{done-refused, done-accepted, acceptance_accepts, begun_in_range, follows, legal_orderly}
use Rattle.esr_history.proofs.Values.{current-unchanged, committed-unchanged, current-write, current-write_other, committed-write, committed-commit_other, current-abort_other}
use Rattle.esr_history.proofs.Charges.{export-push}
use Rattle.esr_history.proofs.Membership.{In, any-from_In}
use Rattle.esr_history.proofs.Sums.{sum_by_zero}
use Rattle.esr_history.proofs.Traces.{IsMetric}
use Rattle.esr_renewal.specs.Types.{TxnId, ItemId, Event, BeginUpdate, BeginQuery, Read, Write, Commit, Abort, Reply, Refusal, Refused}
use Rattle.esr_renewal.proofs.OpenCharges.{amount_if, is_open, uncommitted_distance, open_export}
use Rattle.esr_renewal.proofs.Amounts.{sum_within, by_reader}

same_number : (a b : ℕ) → Some a ≡ Some b → a ≡ b
same_number a b e = cc

-- how a transaction began stays
pub stays_begun : (es : List Event) (e : Event) (t : ℕ) → is_begun es t ≡ true → begin_record (es ++ e ∷ []) t ≡ begin_record es t
stays_begun es e t is = at (begin_record es t) refl is
  where
    at : (o : Option BeginRecord) → begin_record es t ≡ o → is_some o ≡ true → begin_record (es ++ e ∷ []) t ≡ o
    at None none some = absurd (true≢false (sym some))
    at (Some b) some is' = begin_record-push es e t b some

-- the holder of the write lock on an item is the one that a search finds
pub writer_is : (es : List Event) → IsWellFormed es → (u x : ℕ) → holds_write es u x ≡ true → writer es x ≡ Some u
writer_is es o u x held =
    let p = and_parts (is_active es u) (list_any (writes u x) es) held in
    find_least (λ w. is_update es w && holds_write es w x) (length (begin_records es)) (Some u) (
      and_from (is_update es u) (holds_write es u x) (o.writers u x p.1) held,
      λ w below. false_from_ne_true (is_update es w && holds_write es w x) (λ passes.
          let same : w ≡ u = same_number w u (sym (o.exclusive w x (and_parts (is_update es w) (holds_write es w x) passes).1) ∙ o.exclusive u x held) in
          absurd (omega arith)),
    )
    (λ w passes. begun_in_range es w (update_begun es w (and_parts (is_update es w) (holds_write es w x) passes).0))

-- without a holder of the write lock, the current value of an item is committed
pub no_writer_settled : (opening : List ℤ) (es : List Event) → IsWellFormed es → (x : ℕ) → ((u : ℕ) → holds_write es u x ≡ false) → current_value opening es x ≡ committed_value opening es x
no_writer_settled opening es o x none = last_written_agree (λ u. not (is_aborted es u)) (is_committed es) (value_at opening x) x es same
  where
    at : (b c a : Bool) → b ≡ true → (c ≡ true → a ≡ false) → (b && (not c && not a)) ≡ false → not a ≡ c
    at true true a begun once over = ap not (once refl)
    at true false true begun once over = refl
    at true false false begun once over = absurd (true≢false over)
    at false c a begun once over = absurd (true≢false (sym begun))

    same : (u : ℕ) → list_any (writes u x) es ≡ true → not (is_aborted es u) ≡ is_committed es u
    same u did =
        at (is_begun es u) (is_committed es u) (is_aborted es u) (update_begun es u (o.writers u x did)) (o.once u)
        (false_from_ne_true (is_active es u) (λ act. true≢false (sym (and_from (is_active es u) (list_any (writes u x) es) act did) ∙ none u)))

count_none : (p : Event → Bool) (es : List Event) → list_any p es ≡ false → count_by p es ≡ 0
count_none p [] none = refl
count_none p (e ∷ es) none = sum_by-cons (λ f. cond (p f) 1 0) e es ∙ at (p e) none (count_none p es)
  where
    at : (b : Bool) → (b || list_any p es) ≡ false → (list_any p es ≡ false → count_by p es ≡ 0) → cond b 1 0 + count_by p es ≡ 0
    at true none' rest = absurd (true≢false none')
    at false none' rest = let r : count_by p es ≡ 0 = rest none' in omega arith

read_names : (q : TxnId) (x : ItemId) (es : List Event) → In (Read q x) es → list_any (names q.0) es ≡ true
read_names q x es i = any-from_In (names q.0) es (Read q x) i (eq-eqb q.0 q.0 refl)

module _ (d : ℕ → ℤ → ℤ → ℕ) (metric : IsMetric d) (opening : List ℤ) (es : List Event) (o : IsWellFormed es) where
  -- one more event leaves the kind of a reader, and does not make it active again
  was_reader : (e : Event) (q : TxnId) (x : ItemId) → In (Read q x) es → (is_query (es ++ e ∷ []) q.0 && is_active (es ++ e ∷ []) q.0) ≡ true → (is_query es q.0 && is_active es q.0) ≡ true
  was_reader e q x i is =
      let p = and_parts (is_query (es ++ e ∷ []) q.0) (is_active (es ++ e ∷ []) q.0) is in
      let begun : is_begun es q.0 ≡ true = o.begun q.0 (read_names q x es i) in
      and_from (is_query es q.0) (is_active es q.0)
      (sym (ap (λ b. unwrap_or (option_map (λ c. c.query) b) false) (stays_begun es e q.0 begun)) ∙ p.0)
      (active_before es e q.0 p.1 begun)

  was_held : (e : Event) (u x : ℕ) → writes u x e ≡ false → holds_write (es ++ e ∷ []) u x ≡ true → holds_write es u x ≡ true
  was_held e u x fails held =
      let p = and_parts (is_active (es ++ e ∷ []) u) (list_any (writes u x) (es ++ e ∷ [])) held in
      let did : list_any (writes u x) es ≡ true = sym (any_push_no (writes u x) es e fails) ∙ p.1 in
      and_from (is_active es u) (list_any (writes u x) es) (active_before es e u p.0 (update_begun es u (o.writers u x did))) did

  distance_same : (e : Event) (x : ℕ) → current_value opening (es ++ e ∷ []) x ≡ current_value opening es x → committed_value opening (es ++ e ∷ []) x ≡ committed_value opening es x
      → uncommitted_distance d opening (es ++ e ∷ []) x ≡ uncommitted_distance d opening es x
  distance_same e x a b = ap (λ v. d x v (committed_value opening (es ++ e ∷ []) x)) a ∙ ap (d x (current_value opening es x)) b

  -- An event after which every open conflict was open before, with the same uncommitted distance, opens what its own read opens.
  unchanged : (e : Event) (u : ℕ)
      → ((q : TxnId) (x : ItemId) → holds_write (es ++ e ∷ []) u x.0 ≡ true → (writes u x.0 e ≡ false) × (uncommitted_distance d opening (es ++ e ∷ []) x.0 ≡ uncommitted_distance d opening es x.0))
      → open_export d opening (es ++ e ∷ []) u ≤ open_export d opening es u + amount_if (is_open (es ++ e ∷ []) u) (uncommitted_distance d opening (es ++ e ∷ [])) e
  unchanged e u same =
      let n : open_export d opening (es ++ e ∷ []) u ≡ sum_by (amount_if (is_open (es ++ e ∷ []) u) (uncommitted_distance d opening (es ++ e ∷ []))) es + amount_if (is_open (es ++ e ∷ []) u) (uncommitted_distance d opening (es ++ e ∷ [])) e =
      sum_by_push (amount_if (is_open (es ++ e ∷ []) u) (uncommitted_distance d opening (es ++ e ∷ []))) es e in
      let w : sum_by (amount_if (is_open (es ++ e ∷ []) u) (uncommitted_distance d opening (es ++ e ∷ []))) es ≤ open_export d opening es u + sum_by (λ (f : Event). 0) es =
      sum_within (amount_if (is_open (es ++ e ∷ []) u) (uncommitted_distance d opening (es ++ e ∷ []))) (amount_if (is_open es u) (uncommitted_distance d opening es)) (λ f. 0) es (λ f i. single f i) in
      let z : sum_by (λ (f : Event). 0) es ≡ 0 = sum_by_zero es in
      omega (arith, n, w, z)
    where
      single : (f : Event) → In f es → amount_if (is_open (es ++ e ∷ []) u) (uncommitted_distance d opening (es ++ e ∷ [])) f ≤ amount_if (is_open es u) (uncommitted_distance d opening es) f + 0
      single (Read q x) i =
          elim (cases_Bool (is_open (es ++ e ∷ []) u q.0 x.0)) [
            | inl is ↦
                let p = and_parts (is_query (es ++ e ∷ []) q.0 && is_active (es ++ e ∷ []) q.0) (holds_write (es ++ e ∷ []) u x.0) is in
                let s = same q x p.1 in
                let was : is_open es u q.0 x.0 ≡ true = and_from (is_query es q.0 && is_active es q.0) (holds_write es u x.0) (was_reader e q x i p.0) (was_held e u x.0 s.0 p.1) in
                let l : uncommitted_distance d opening (es ++ e ∷ []) x.0 ≡ uncommitted_distance d opening es x.0 = s.1 in
                rw (is, was) (omega (arith, l))
            | inr not_open ↦ rw not_open (omega arith)
          ]
      single (BeginUpdate l) i = omega arith
      single (BeginQuery l s) i = omega arith
      single (Write t x v) i = omega arith
      single (Commit t) i = omega arith
      single (Abort t) i = omega arith

  abbrev IsStep : Event → Type 0
  IsStep e = (u : ℕ) → open_export d opening (es ++ e ∷ []) u ≤ open_export d opening es u + export_in (due d opening es e) u

  begin_update_step : (l : ℕ) → IsStep (BeginUpdate l)
  begin_update_step l u =
      unchanged (BeginUpdate l) u (λ q x h. (refl, distance_same (BeginUpdate l) x.0 (current-unchanged opening es x.0 (BeginUpdate l) (λ k. refl) (λ w. refl)) (committed-unchanged opening es x.0 (BeginUpdate l) (λ k. refl) (λ w. refl))))

  begin_query_step : (l : ℕ) (s : Bool) → IsStep (BeginQuery l s)
  begin_query_step l s u =
      unchanged (BeginQuery l s) u (λ q x h. (refl, distance_same (BeginQuery l s) x.0 (current-unchanged opening es x.0 (BeginQuery l s) (λ k. refl) (λ w. refl)) (committed-unchanged opening es x.0 (BeginQuery l s) (λ k. refl) (λ w. refl))))

  read_distance : (t : TxnId) (y : ItemId) (x : ℕ) → uncommitted_distance d opening (es ++ Read t y ∷ []) x ≡ uncommitted_distance d opening es x
  read_distance t y x = distance_same (Read t y) x (current-unchanged opening es x (Read t y) (λ k. refl) (λ w. refl)) (committed-unchanged opening es x (Read t y) (λ k. refl) (λ w. refl))

  read_step : (t : TxnId) (y : ItemId) → is_begun es t.0 ≡ true → IsStep (Read t y)
  read_step t y begun u =
      let n : open_export d opening (es ++ Read t y ∷ []) u ≤ open_export d opening es u + amount_if (is_open (es ++ Read t y ∷ []) u) (uncommitted_distance d opening (es ++ Read t y ∷ [])) (Read t y) = unchanged (Read t y) u (λ q x h. (refl, read_distance t y x.0)) in
      let own = charged in
      omega (arith, n, own)
    where
      charged : amount_if (is_open (es ++ Read t y ∷ []) u) (uncommitted_distance d opening (es ++ Read t y ∷ [])) (Read t y) ≤ export_in (due d opening es (Read t y)) u
      charged =
          elim (cases_Bool (is_open (es ++ Read t y ∷ []) u t.0 y.0)) [
            | inl is ↦
                let p = and_parts (is_query (es ++ Read t y ∷ []) t.0 && is_active (es ++ Read t y ∷ []) t.0) (holds_write (es ++ Read t y ∷ []) u y.0) is in
                let query : is_query es t.0 ≡ true = sym (ap (λ b. unwrap_or (option_map (λ c. c.query) b) false) (stays_begun es (Read t y) t.0 begun)) ∙ (and_parts (is_query (es ++ Read t y ∷ []) t.0) (is_active (es ++ Read t y ∷ []) t.0) p.0).0 in
                let w : writer es y.0 ≡ Some u = writer_is es o u y.0 (was_held (Read t y) u y.0 refl p.1) in
                let c : Charge = record { query = t.0; update = u; amount = uncommitted_distance d opening es y.0 } in
                let own : due d opening es (Read t y) ≡ c ∷ [] = ap (λ b. if b then charge_of_read d opening es t.0 y.0 (writer es y.0) else []) query ∙ ap (charge_of_read d opening es t.0 y.0) w in
                let s : export_in (c ∷ []) u ≡ (if u == u then uncommitted_distance d opening es y.0 else 0) + 0 = sum_by-cons (λ (c : Charge). if c.update == u then c.amount else 0) c [] in
                let l : uncommitted_distance d opening (es ++ Read t y ∷ []) y.0 ≡ uncommitted_distance d opening es y.0 = read_distance t y y.0 in
                rw (is, own, s, eq-eqb u u refl) (omega (arith, l))
            | inr not_open ↦ rw not_open (omega arith)
          ]

  pub commit_step : (t : TxnId) → MayFollow es (Commit t) → IsStep (Commit t)
  commit_step t m u =
      unchanged (Commit t) u (λ q x h. (refl, distance_same (Commit t) x.0 (current-unchanged opening es x.0 (Commit t) (λ k. refl) (λ w. refl)) (committed-commit_other opening es x.0 t (other x.0 h))))
    where
      other : (x : ℕ) → holds_write (es ++ Commit t ∷ []) u x ≡ true → list_any (writes t.0 x) es ≡ false
      other x held =
          let act : is_active (es ++ Commit t ∷ []) u ≡ true = (and_parts (is_active (es ++ Commit t ∷ []) u) (list_any (writes u x) (es ++ Commit t ∷ [])) held).0 in
          let was : holds_write es u x ≡ true = was_held (Commit t) u x refl held in
          false_from_ne_true (list_any (writes t.0 x) es) (λ did.
          let same : t.0 ≡ u = same_number t.0 u (sym (o.exclusive t.0 x (and_from (is_active es t.0) (list_any (writes t.0 x) es) (m.active t.0 (eq-eqb t.0 t.0 refl)) did)) ∙ o.exclusive u x was) in
          true≢false (sym (any_push (commits u) es (Commit t) ∙ or_right (is_committed es u) (t.0 == u) (eq-eqb t.0 u same)) ∙ (active_parts (es ++ Commit t ∷ []) u act).1))

  abort_step : (t : TxnId) → MayFollow es (Abort t) → IsStep (Abort t)
  abort_step t m u =
      unchanged (Abort t) u (λ q x h. (refl, distance_same (Abort t) x.0 (current-abort_other opening es x.0 t (other x.0 h)) (committed-unchanged opening es x.0 (Abort t) (λ k. refl) (λ w. refl))))
    where
      other : (x : ℕ) → holds_write (es ++ Abort t ∷ []) u x ≡ true → list_any (writes t.0 x) es ≡ false
      other x held =
          let act : is_active (es ++ Abort t ∷ []) u ≡ true = (and_parts (is_active (es ++ Abort t ∷ []) u) (list_any (writes u x) (es ++ Abort t ∷ [])) held).0 in
          let was : holds_write es u x ≡ true = was_held (Abort t) u x refl held in
          false_from_ne_true (list_any (writes t.0 x) es) (λ did.
          let same : t.0 ≡ u = same_number t.0 u (sym (o.exclusive t.0 x (and_from (is_active es t.0) (list_any (writes t.0 x) es) (m.active t.0 (eq-eqb t.0 t.0 refl)) did)) ∙ o.exclusive u x was) in
          true≢false (sym (any_push (aborts u) es (Abort t) ∙ or_right (is_aborted es u) (t.0 == u) (eq-eqb t.0 u same)) ∙ (active_parts (es ++ Abort t ∷ []) u act).2))

  module _ (s : TxnId) (y : ItemId) (v : ℤ) (m : MayFollow es (Write s y v)) where
    abbrev e : Event
    e = Write s y v

    abbrev cost : ℕ
    cost = d y.0 v (current_value opening es y.0)

    own_write : writes s.0 y.0 (Write s y v) ≡ true
    own_write = and_from (s.0 == s.0) (y.0 == y.0) (eq-eqb s.0 s.0 refl) (eq-eqb y.0 y.0 refl)

    writer_active : is_active es s.0 ≡ true
    writer_active = m.active s.0 (eq-eqb s.0 s.0 refl)

    committed_same : (x : ℕ) → committed_value opening (es ++ e ∷ []) x ≡ committed_value opening es x
    committed_same x = committed-write opening es x s y v (active_parts es s.0 writer_active).1

    distance_elsewhere : (x : ℕ) → (y.0 ≡ x → ⊥) → uncommitted_distance d opening (es ++ e ∷ []) x ≡ uncommitted_distance d opening es x
    distance_elsewhere x away = distance_same e x (current-write_other opening es x s y v away) (committed_same x)

    write_by_other : (u : ℕ) → (u ≡ s.0 → ⊥) → open_export d opening (es ++ e ∷ []) u ≤ open_export d opening es u + 0
    write_by_other u other = unchanged e u (λ q x h.
        let not_written : writes u x.0 e ≡ false = ap (λ b. b && (y.0 == x.0)) (ne_eqb s.0 u (λ i. other (sym i))) in
        (not_written, distance_elsewhere x.0 (λ i. true≢false (sym (was_held e u x.0 not_written h) ∙ (ap (holds_write es u) (sym i) ∙ m.alone s.0 y.0 own_write u other)))))

    abbrev reader : ℕ → Bool
    reader q = is_query es q && is_active es q

    -- the uncommitted distance of the item that is written
    distance_here : uncommitted_distance d opening (es ++ e ∷ []) y.0 ≤ (if holds_write es s.0 y.0 then uncommitted_distance d opening es y.0 else 0) + cost
    distance_here =
        let cur : ℤ = current_value opening es y.0 in
        let kept : ℤ = committed_value opening es y.0 in
        let now : uncommitted_distance d opening (es ++ e ∷ []) y.0 ≡ d y.0 v kept =
        ap (λ w. d y.0 w (committed_value opening (es ++ e ∷ []) y.0)) (current-write opening es y.0 s y v refl (active_parts es s.0 writer_active).2) ∙ ap (d y.0 v) (committed_same y.0) in
        rw now
        (elim (cases_Bool (holds_write es s.0 y.0)) [
          | inl held ↦
              let tri : d y.0 v kept ≤ d y.0 v cur + d y.0 cur kept = metric.triangle y.0 v cur kept in
              rw held (omega (arith, tri))
          | inr free ↦
              let settled : cur ≡ kept = no_writer_settled opening es o y.0 (λ u. elim (cases_eq u s.0) [
                | inl i ↦ ap (λ w. holds_write es w y.0) i ∙ free
                | inr ne ↦ m.alone s.0 y.0 own_write u ne
              ]) in
              let same : d y.0 v kept ≡ cost = ap (d y.0 v) (sym settled) in
              rw free (omega (arith, same))
        ])

    grown : open_export d opening (es ++ e ∷ []) s.0 ≤ open_export d opening es s.0 + sum_by (amount_if (λ q x. reader q && (x == y.0)) (λ x. cost)) es
    grown =
        let n : open_export d opening (es ++ e ∷ []) s.0 ≡ sum_by (amount_if (is_open (es ++ e ∷ []) s.0) (uncommitted_distance d opening (es ++ e ∷ []))) es + 0 =
        sum_by_push (amount_if (is_open (es ++ e ∷ []) s.0) (uncommitted_distance d opening (es ++ e ∷ []))) es e in
        let w : sum_by (amount_if (is_open (es ++ e ∷ []) s.0) (uncommitted_distance d opening (es ++ e ∷ []))) es ≤ open_export d opening es s.0 + sum_by (amount_if (λ q x. reader q && (x == y.0)) (λ x. cost)) es =
        sum_within (amount_if (is_open (es ++ e ∷ []) s.0) (uncommitted_distance d opening (es ++ e ∷ []))) (amount_if (is_open es s.0) (uncommitted_distance d opening es)) (amount_if (λ q x. reader q && (x == y.0)) (λ x. cost)) es (λ f i. single f i) in
        omega (arith, n, w)
      where
        single : (f : Event) → In f es → amount_if (is_open (es ++ e ∷ []) s.0) (uncommitted_distance d opening (es ++ e ∷ [])) f ≤ amount_if (is_open es s.0) (uncommitted_distance d opening es) f + amount_if (λ q x. reader q && (x == y.0)) (λ x. cost) f
        single (Read q x) i =
            elim (cases_Bool (is_open (es ++ e ∷ []) s.0 q.0 x.0)) [
              | inl is ↦
                  let p = and_parts (is_query (es ++ e ∷ []) q.0 && is_active (es ++ e ∷ []) q.0) (holds_write (es ++ e ∷ []) s.0 x.0) is in
                  let r : reader q.0 ≡ true = was_reader e q x i p.0 in
                  elim (cases_eq x.0 y.0) [
                    | inl here ↦
                        let l : uncommitted_distance d opening (es ++ e ∷ []) y.0 ≤ (if holds_write es s.0 y.0 then uncommitted_distance d opening es y.0 else 0) + cost = distance_here in
                        rw (is, r, eq-eqb x.0 y.0 here, here) l
                    | inr away ↦
                        let not_written : writes s.0 x.0 e ≡ false = ap (λ b. (s.0 == s.0) && b) (ne_eqb y.0 x.0 (λ z. away (sym z))) ∙ and_no (s.0 == s.0) in
                        let l : uncommitted_distance d opening (es ++ e ∷ []) x.0 ≡ uncommitted_distance d opening es x.0 = distance_elsewhere x.0 (λ z. away (sym z)) in
                        rw (is, r, was_held e s.0 x.0 not_written p.1, ne_eqb x.0 y.0 away) (omega (arith, l))
                  ]
              | inr not_open ↦ rw not_open (omega arith)
            ]
          where
            and_no : (b : Bool) → (b && false) ≡ false
            and_no true = refl
            and_no false = refl
        single (BeginUpdate l) i = omega arith
        single (BeginQuery l s) i = omega arith
        single (Write t x v) i = omega arith
        single (Commit t) i = omega arith
        single (Abort t) i = omega arith

    exported : (qs : List ℕ) → sum_by (λ q. if reader q then count_by (reads q y.0) es * cost else 0) qs ≤ export_in (filter_map (charge_of_write d opening es s.0 y.0 v) qs) s.0
    exported [] = omega arith
    exported (q ∷ qs) = rw (sum_by-cons (λ q. if reader q then count_by (reads q y.0) es * cost else 0) q qs) (at (is_query es q) (is_active es q) (list_any (reads q y.0) es) refl (exported qs))
      where
        at : (k a b : Bool) → list_any (reads q y.0) es ≡ b
            → sum_by (λ q. if reader q then count_by (reads q y.0) es * cost else 0) qs ≤ export_in (filter_map (charge_of_write d opening es s.0 y.0 v) qs) s.0
            → (if k && a then count_by (reads q y.0) es * cost else 0) + sum_by (λ q. if reader q then count_by (reads q y.0) es * cost else 0) qs
            ≤ export_in (cons_option (if k && (a && b) then Some (record { query = q; update = s.0; amount = read_count es q y.0 * cost }) else None) (filter_map (charge_of_write d opening es s.0 y.0 v) qs)) s.0
        at false a b some rest = omega (arith, rest)
        at true false b some rest = omega (arith, rest)
        at true true true some rest =
            let k = sum_by-cons (λ (c : Charge). if c.update == s.0 then c.amount else 0) (record { query = q; update = s.0; amount = read_count es q y.0 * cost }) (filter_map (charge_of_write d opening es s.0 y.0 v) qs) in
            rw (k, eq-eqb s.0 s.0 refl) (omega (arith, rest))
        at true true false some rest = rw (count_none (reads q y.0) es some) (omega (arith, rest))

    own_export : is_update es s.0 ≡ true → sum_by (amount_if (λ q x. reader q && (x == y.0)) (λ x. cost)) es ≤ export_in (due d opening es e) s.0
    own_export update =
        let a = by_reader reader y.0 cost (length (begin_records es)) es (λ q x i. begun_in_range es q.0 (o.begun q.0 (read_names q x es i))) in
        let b = exported (txn_numbers es) in
        rw update (le_trans a b)

    write_step : IsStep e
    write_step u =
        elim (cases_eq u s.0) [
          | inl i ↦
              let g = grown in
              let c = own_export (m.updates s.0 y.0 own_write) in
              let both : open_export d opening (es ++ e ∷ []) s.0 ≤ open_export d opening es s.0 + export_in (due d opening es e) s.0 = omega (arith, g, c) in
              subst (λ w. open_export d opening (es ++ e ∷ []) w ≤ open_export d opening es w + export_in (due d opening es e) w) (sym i) both
          | inr ne ↦ let w = write_by_other u ne in omega (arith, w)
        ]

  step : (e : Event) → MayFollow es e → IsStep e
  step (BeginUpdate l) m = begin_update_step l
  step (BeginQuery l s) m = begin_query_step l s
  step (Read t y) m = read_step t y (active_parts es t.0 (m.active t.0 (eq-eqb t.0 t.0 refl))).0
  step (Write t y v) m = write_step t y v m
  step (Commit t) m = commit_step t m
  step (Abort t) m = abort_step t m

abbrev IsExported : DistanceFunction → Schedule → Type 0
IsExported d h = (u : ℕ) → open_export (value_distance d h) h.opening (accepted_in h) u ≤ export_in (charges_in d h) u

exported_step : (d : DistanceFunction) (metric : (w : List ℕ) → IsMetric (d w)) (h : Schedule) (e : Event) (r : Reply) → r ≡ reply_to d h e → IsLegal d h → IsExported d h → IsExported d (extended h e r)
exported_step d metric h e r is legal was = at (refusal d h e) refl
  where
    at : (why : Option Refusal) → refusal d h e ≡ why → IsExported d (extended h e r)
    at (Some why) some =
        let answer : r ≡ Refused why = is ∙ ap (λ w. answered w (acceptance h e)) some in
        subst (λ (w : Reply). IsExported d (extended h e w)) (sym answer)
        (subst (λ (es : List Event). (u : ℕ) → open_export (value_distance d h) h.opening es u ≤ export_in (charges (value_distance d h) h.opening es) u) (sym (done-refused h e why)) was)
    at None none =
        let answer : r ≡ acceptance h e = is ∙ ap (λ w. answered w (acceptance h e)) none in
        let o : IsWellFormed (accepted_in h) = legal_orderly d h legal in
        subst (λ (w : Reply). IsExported d (extended h e w)) (sym answer)
        (subst (λ (es : List Event). (u : ℕ) → open_export (value_distance d h) h.opening es u ≤ export_in (charges (value_distance d h) h.opening es) u) (sym (done-accepted h e (acceptance h e) (acceptance_accepts h e)))
        (λ u.
        let one = step (value_distance d h) (metric h.weights) h.opening (accepted_in h) o e (follows d h o e none) u in
        let before = was u in
        let more = export-push (value_distance d h) h.opening (accepted_in h) e u in
        omega (arith, one, before, more)))

pub open_exported : (d : DistanceFunction) (metric : (w : List ℕ) → IsMetric (d w)) (h : Schedule) → IsLegal d h → IsExported d h
open_exported d metric h legal =
    (legal_induction d (λ g. IsLegal d g × IsExported d g) (λ g e r is p. (IsLegal-extended d g e r p.0 is, exported_step d metric g e r is p.0 p.1)) h (tt, λ u. omega arith) legal).1
