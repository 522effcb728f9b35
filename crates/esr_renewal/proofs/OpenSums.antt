-- The open charges of an active transaction: their sum over the reads of all queries, and what limits it.
use Rattle.std.proofs.Common.{◌≡◌, ℕ, ℤ, ◌+◌, ◌<◌, ◌≤◌, Bool, true, false, not, cond, ◌&&◌, ◌==◌, List, [], ◌∷◌, refl, sym, ◌∙◌, ap, inl, inr, ⊎_elim, arith, Option, None, Some, if◌then◌else◌, map, filter, flat_map, sum_by}
use Rattle.std.specs.List.{filter_map, cons_option}
use Rattle.std.proofs.lemmas.Bool.{cases_eq, eq-eqb, ne_eqb, true≢false, and_parts, and_from}
use Rattle.std.proofs.lemmas.List.Sums.{sum_by-cons, sum_by-append}
use Rattle.esr_history.specs.Events.{accepted, txn_numbers, is_refusal, is_query, is_update, is_active, limit_of, holds_write}
use Rattle.esr_history.specs.Machine.{DistanceFunction, Schedule, Charge, accepted_in, value_distance, charge_of_read, charges_in, import_in, export_in, writer, IsLegal}
use Rattle.esr_history.specs.Operations.{Operation, operation_of, operations_in}
use Rattle.esr_history.specs.Queries.{reads_by}
use Rattle.esr_history.specs.ReportBounds.{is_active_query, open_import}
use Rattle.esr_history.proofs.Lists.{found_satisfies}
use Rattle.esr_history.proofs.Charges.{legal_within_limits}
use Rattle.esr_history.proofs.Membership.{In, Pairs, each_at, Pairs-filter, In-filter, In-of_filter}
use Rattle.esr_history.proofs.Sums.{sum_by_zero, sum_by_add}
use Rattle.esr_history.proofs.Traces.{IsMetric}
use Rattle.esr_history.proofs.ReportBoundsLaws.{open_is_imported}
use Rattle.esr_core.specs.Carried.{active_numbers, new_number, open_charges, open_charges_of, charged_in}
use Rattle.esr_renewal.specs.Types.{Event, BeginUpdate, BeginQuery, Read, Write, Commit, Abort, Entry}
use Rattle.esr_renewal.proofs.OpenCharges.{amount_if, is_open, uncommitted_distance, open_export}
use Rattle.esr_renewal.proofs.Amounts.{sum_within, sum_same}
use Rattle.esr_renewal.proofs.Exported.{open_exported}
use Rattle.esr_renewal.proofs.Renumbered.{active_ascending, active_in, in_active, new_number_injective}
use Rattle.esr_renewal.proofs.Again.{query_active}
use Rattle.esr_renewal.proofs.CarriedCharges.{charge_by, charges_of}

-- Sums in two orders, and of the parts of a list.

sum_flat : {X : Type 0} (f : Charge → ℕ) (g : X → List Charge) (xs : List X) → sum_by f (flat_map g xs) ≡ sum_by (λ x. sum_by f (g x)) xs
sum_flat f g [] = refl
sum_flat f g (x ∷ xs) =
    let a = sum_by-append f (g x) (flat_map g xs) in
    let b = sum_by-cons (λ x. sum_by f (g x)) x xs in
    let rest = sum_flat f g xs in
    omega (arith, a, b, rest)

swapped : {X Y : Type 0} (f : X → Y → ℕ) (xs : List X) (ys : List Y) → sum_by (λ x. sum_by (f x) ys) xs ≡ sum_by (λ y. sum_by (λ x. f x y) xs) ys
swapped {X} {Y} f [] ys = sym (sum_by_zero ys)
swapped {X} {Y} f (x ∷ xs) ys =
    sum_by-cons (λ x. sum_by (f x) ys) x xs
    ∙ (ap (λ n. sum_by (f x) ys + n) (swapped f xs ys)
    ∙ (sym (sum_by_add (f x) (λ y. sum_by (λ x. f x y) xs) ys)
    ∙ sum_same (λ y. f x y + sum_by (λ x. f x y) xs) (λ y. sum_by (λ x. f x y) (x ∷ xs)) ys (λ y i. sym (sum_by-cons (λ x. f x y) x xs))))

no_member : (s : ℕ) (f : ℕ → ℕ) (qs : List ℕ) → ((q : ℕ) → In q qs → s ≡ q → ⊥) → sum_by (λ q. if s == q then f q else 0) qs ≡ 0
no_member s f [] out = refl
no_member s f (q ∷ qs) out =
    let a = sum_by-cons (λ q. if s == q then f q else 0) q qs in
    let rest = no_member s f qs (λ r i. out r (inr i)) in
    a ∙ rw (ne_eqb s q (out q (inl refl))) (omega (arith, rest))

one_member : (s : ℕ) (f : ℕ → ℕ) (qs : List ℕ) → Pairs (λ u v. u < v) qs → In s qs → sum_by (λ q. if s == q then f q else 0) qs ≡ f s
one_member s f [] p i = absurd i
one_member s f (q ∷ qs) p i =
    ⊎_elim
    (λ e.
    let a = sum_by-cons (λ q. if s == q then f q else 0) q qs in
    let rest = no_member s f qs (λ r j same. let l : q < r = each_at (λ v. q < v) qs r p.0 j in let e' : q ≡ s = e in let s' : s ≡ r = same in absurd (omega arith)) in
    let here : f q ≡ f s = ap f e in
    a ∙ rw (eq-eqb s q (sym e)) (omega (arith, rest, here)))
    (λ j.
    let a = sum_by-cons (λ q. if s == q then f q else 0) q qs in
    let l : q < s = each_at (λ v. q < v) qs s p.0 j in
    let rest = one_member s f qs p.1 j in
    a ∙ rw (ne_eqb s q (λ (e : s ≡ q). omega arith)) (omega (arith, rest)))
    i

-- the reads of a transaction, as operations and as events
reads_sum : (q : ℕ) (f : ℕ → ℕ) (es : List Entry) → sum_by (λ (o : Operation). f o.item) (filter (λ o. not o.writes && (o.txn == q)) (operations_in es)) ≡ sum_by (amount_if (λ s x. s == q) f) (accepted es)
reads_sum q f [] = refl
reads_sum q f (e ∷ es) = at (is_refusal e.reply) (reads_sum q f es)
  where
    read_sum : (s x : ℕ) (v : ℤ) (b : Bool) (os : List Operation) → sum_by (λ (o : Operation). f o.item) (cond b (record { txn = s; item = x; writes = false; value = v } ∷ os) os) ≡ (if b then f x else 0) + sum_by (λ (o : Operation). f o.item) os
    read_sum s x v true os = sum_by-cons (λ (o : Operation). f o.item) (record { txn = s; item = x; writes = false; value = v }) os
    read_sum s x v false os = omega arith

    one : (v : Event) → sum_by (λ (o : Operation). f o.item) (filter (λ o. not o.writes && (o.txn == q)) (operations_in es)) ≡ sum_by (amount_if (λ s x. s == q) f) (accepted es)
        → sum_by (λ (o : Operation). f o.item) (filter (λ o. not o.writes && (o.txn == q)) (cons_option (operation_of (record e { event = v })) (operations_in es))) ≡ amount_if (λ s x. s == q) f v + sum_by (amount_if (λ s x. s == q) f) (accepted es)
    one (Read s x) rest = read_sum s.0 x.0 _ (s.0 == q) (filter (λ o. not o.writes && (o.txn == q)) (operations_in es)) ∙ ap (λ n. (if s.0 == q then f x.0 else 0) + n) rest
    one (Write s x v) rest = omega (arith, rest)
    one (BeginUpdate l) rest = omega (arith, rest)
    one (BeginQuery l s) rest = omega (arith, rest)
    one (Commit s) rest = omega (arith, rest)
    one (Abort s) rest = omega (arith, rest)

    at : (b : Bool) → sum_by (λ (o : Operation). f o.item) (filter (λ o. not o.writes && (o.txn == q)) (operations_in es)) ≡ sum_by (amount_if (λ s x. s == q) f) (accepted es)
        → sum_by (λ (o : Operation). f o.item) (filter (λ o. not o.writes && (o.txn == q)) (filter_map operation_of (cond (not b) (e ∷ filter (λ n. not (is_refusal n.reply)) es) (filter (λ n. not (is_refusal n.reply)) es))))
        ≡ sum_by (amount_if (λ s x. s == q) f) (map (λ n. n.event) (cond (not b) (e ∷ filter (λ n. not (is_refusal n.reply)) es) (filter (λ n. not (is_refusal n.reply)) es)))
    at true rest = rest
    at false rest = one e.event rest ∙ sym (sum_by-cons (amount_if (λ s x. s == q) f) e.event (accepted es))

module _ (d : DistanceFunction) (h : Schedule) where
  abbrev distance : ℕ → ℤ → ℤ → ℕ
  distance = value_distance d h

  -- what a read is charged if it is repeated now
  abbrev pub open_of : Event → List Charge
  open_of (Read q x) = if is_active_query h q.0 then charge_of_read distance h.opening (accepted_in h) q.0 x.0 (writer (accepted_in h) x.0) else []
  open_of _ = []

  -- sums over the open charges, by the reads in their order
  module _ (f : Charge → ℕ) where
    abbrev due_of : ℕ → ℕ → ℕ
    due_of q x = sum_by f (charge_of_read distance h.opening (accepted_in h) q x (writer (accepted_in h) x))

    inner : (e : Event) → sum_by (λ q. amount_if (λ s x. s == q) (due_of q) e) (filter (is_query (accepted_in h)) (active_numbers h)) ≡ sum_by f (open_of e)
    inner (Read s x) = at (is_active_query h s.0) refl
      where
        at : (b : Bool) → is_active_query h s.0 ≡ b
            → sum_by (λ q. if s.0 == q then due_of q x.0 else 0) (filter (is_query (accepted_in h)) (active_numbers h))
            ≡ sum_by f (if b then charge_of_read distance h.opening (accepted_in h) s.0 x.0 (writer (accepted_in h) x.0) else [])
        at true own =
            let p = and_parts (is_query (accepted_in h) s.0) (is_active (accepted_in h) s.0) own in
            one_member s.0 (λ q. due_of q x.0) (filter (is_query (accepted_in h)) (active_numbers h))
            (Pairs-filter (λ u v. u < v) (is_query (accepted_in h)) (active_numbers h) (active_ascending h))
            (In-filter (is_query (accepted_in h)) (active_numbers h) s.0 (active_in h s.0 p.1) p.0)
        at false own =
            no_member s.0 (λ q. due_of q x.0) (filter (is_query (accepted_in h)) (active_numbers h))
            (λ q i same.
            let r = In-of_filter (is_query (accepted_in h)) (active_numbers h) q i in
            true≢false (sym (and_from (is_query (accepted_in h) q) (is_active (accepted_in h) q) r.1 (in_active h q r.0)) ∙ (ap (is_active_query h) (sym same) ∙ own)))
    inner (BeginUpdate l) = sum_by_zero (filter (is_query (accepted_in h)) (active_numbers h))
    inner (BeginQuery l s) = sum_by_zero (filter (is_query (accepted_in h)) (active_numbers h))
    inner (Write s x v) = sum_by_zero (filter (is_query (accepted_in h)) (active_numbers h))
    inner (Commit s) = sum_by_zero (filter (is_query (accepted_in h)) (active_numbers h))
    inner (Abort s) = sum_by_zero (filter (is_query (accepted_in h)) (active_numbers h))

    pub open_sum : sum_by f (open_charges d h) ≡ sum_by (λ e. sum_by f (open_of e)) (accepted_in h)
    open_sum =
        let qs : List ℕ = filter (is_query (accepted_in h)) (active_numbers h) in
        sum_flat f (open_charges_of d h) qs
        ∙ (sum_same (λ q. sum_by f (open_charges_of d h q)) (λ q. sum_by (amount_if (λ s x. s == q) (due_of q)) (accepted_in h)) qs
        (λ q i. sum_flat f (λ (o : Operation). charge_of_read distance h.opening (accepted_in h) q o.item (writer (accepted_in h) o.item)) (reads_by h q) ∙ reads_sum q (due_of q) h.entries)
        ∙ (swapped (λ q e. amount_if (λ s x. s == q) (due_of q) e) qs (accepted_in h)
        ∙ sum_same (λ e. sum_by (λ q. amount_if (λ s x. s == q) (due_of q) e) qs) (λ e. sum_by f (open_of e)) (accepted_in h) (λ e i. inner e)))

  abbrev pub imports_to : ℕ → Charge → ℕ
  imports_to t c = if c.query == t then c.amount else 0

  abbrev pub exports_of : ℕ → Charge → ℕ
  exports_of t c = if c.update == t then c.amount else 0

  single : (f : Charge → ℕ) (c : Charge) → sum_by f (c ∷ []) ≡ f c
  single f c = let a = sum_by-cons f c [] in omega (arith, a)

  -- no more is open than was charged
  module _ (metric : (w : List ℕ) → IsMetric (d w)) (legal : IsLegal d h) where
    import_within : (q : ℕ) → is_active_query h q ≡ true → import_in (open_charges d h) q ≤ import_in (charges_in d h) q
    import_within q own =
        let a = open_sum (imports_to q) in
        let b : sum_by (λ e. sum_by (imports_to q) (open_of e)) (accepted_in h) ≤ sum_by (amount_if (λ s x. s == q) (uncommitted_distance distance h.opening (accepted_in h))) (accepted_in h) + sum_by (λ (e : Event). 0) (accepted_in h) =
        sum_within (λ e. sum_by (imports_to q) (open_of e)) (amount_if (λ s x. s == q) (uncommitted_distance distance h.opening (accepted_in h))) (λ e. 0) (accepted_in h) (λ e i. each e) in
        let z = sum_by_zero (accepted_in h) in
        let c = reads_sum q (uncommitted_distance distance h.opening (accepted_in h)) h.entries in
        let l : open_import d h q ≤ import_in (charges_in d h) q = open_is_imported d metric h legal q own in
        omega (arith, a, b, z, c, l)
      where
        each : (e : Event) → sum_by (imports_to q) (open_of e) ≤ amount_if (λ s x. s == q) (uncommitted_distance distance h.opening (accepted_in h)) e + 0
        each (Read s x) = at (is_active_query h s.0) (writer (accepted_in h) x.0)
          where
            at : (b : Bool) (w : Option ℕ) → sum_by (imports_to q) (if b then charge_of_read distance h.opening (accepted_in h) s.0 x.0 w else []) ≤ (if s.0 == q then uncommitted_distance distance h.opening (accepted_in h) x.0 else 0) + 0
            at false w = omega arith
            at true None = omega arith
            at true (Some u) =
                let o = single (imports_to q) (record { query = s.0; update = u; amount = uncommitted_distance distance h.opening (accepted_in h) x.0 }) in
                omega (arith, o)
        each (BeginUpdate l) = omega arith
        each (BeginQuery l s) = omega arith
        each (Write s x v) = omega arith
        each (Commit s) = omega arith
        each (Abort s) = omega arith

    pub export_within : (u : ℕ) → export_in (open_charges d h) u ≤ export_in (charges_in d h) u
    export_within u =
        let a = open_sum (exports_of u) in
        let b : sum_by (λ e. sum_by (exports_of u) (open_of e)) (accepted_in h) ≤ open_export distance h.opening (accepted_in h) u + sum_by (λ (e : Event). 0) (accepted_in h) =
        sum_within (λ e. sum_by (exports_of u) (open_of e)) (amount_if (is_open (accepted_in h) u) (uncommitted_distance distance h.opening (accepted_in h))) (λ e. 0) (accepted_in h) (λ e i. each e) in
        let z = sum_by_zero (accepted_in h) in
        let l = open_exported d metric h legal u in
        omega (arith, a, b, z, l)
      where
        each : (e : Event) → sum_by (exports_of u) (open_of e) ≤ amount_if (is_open (accepted_in h) u) (uncommitted_distance distance h.opening (accepted_in h)) e + 0
        each (Read s x) = at (is_active_query h s.0) (writer (accepted_in h) x.0) refl refl
          where
            at : (b : Bool) (w : Option ℕ) → is_active_query h s.0 ≡ b → writer (accepted_in h) x.0 ≡ w
                → sum_by (exports_of u) (if b then charge_of_read distance h.opening (accepted_in h) s.0 x.0 w else []) ≤ (if b && holds_write (accepted_in h) u x.0 then uncommitted_distance distance h.opening (accepted_in h) x.0 else 0) + 0
            at false w own is = omega arith
            at true None own is = omega arith
            at true (Some v) own is =
                let o = single (exports_of u) (record { query = s.0; update = v; amount = uncommitted_distance distance h.opening (accepted_in h) x.0 }) in
                elim (cases_eq v u) [
                  | inl e ↦
                      let held : holds_write (accepted_in h) u x.0 ≡ true =
                      ap (λ t. holds_write (accepted_in h) t x.0) (sym e) ∙ (and_parts (is_update (accepted_in h) v) (holds_write (accepted_in h) v x.0) (found_satisfies (λ u. is_update (accepted_in h) u && holds_write (accepted_in h) u x.0) (txn_numbers (accepted_in h)) v is)).1 in
                      rw (o, eq-eqb v u e, held) (omega arith)
                  | inr ne ↦ rw (o, ne_eqb v u ne) (omega arith)
                ]
        each (BeginUpdate l) = omega arith
        each (BeginQuery l s) = omega arith
        each (Write s x v) = omega arith
        each (Commit s) = omega arith
        each (Abort s) = omega arith

    -- an active transaction: what is open of it, what it was charged, and its limit
    pub record IsWithin (t : ℕ) : Type 0 where
      pub open_charged : charged_in h (open_charges d h) t ≤ charged_in h (charges_in d h) t
      pub charged_allowed : charged_in h (charges_in d h) t ≤ limit_of (accepted_in h) t

    pub within : (t : ℕ) → is_active (accepted_in h) t ≡ true → IsWithin t
    within t act = at (is_query (accepted_in h) t) refl
      where
        at : (b : Bool) → is_query (accepted_in h) t ≡ b → IsWithin t
        at true query = record {
          open_charged = rw query (import_within t (and_from (is_query (accepted_in h) t) (is_active (accepted_in h) t) query act));
          charged_allowed = rw query ((legal_within_limits d h legal).imports t);
        }
        at false not_query = record {
          open_charged = rw not_query (export_within t);
          charged_allowed = rw not_query ((legal_within_limits d h legal).exports t);
        }

  -- the charges that are carried, by the new numbers
  module _ (legal : IsLegal d h) where
    import_of : (q : ℕ) → is_active_query h q ≡ true → (e : Event) → sum_by (imports_to (new_number h q).0) (charges_of d h legal e) ≡ sum_by (imports_to q) (open_of e)
    import_of q own (Read s x) = at (is_active_query h s.0) (writer (accepted_in h) x.0) refl
      where
        at : (b : Bool) (w : Option ℕ) → is_active_query h s.0 ≡ b
            → sum_by (imports_to (new_number h q).0) (if b then charge_by d h legal s.0 x.0 w else []) ≡ sum_by (imports_to q) (if b then charge_of_read distance h.opening (accepted_in h) s.0 x.0 w else [])
        at false w is = refl
        at true None is = refl
        at true (Some u) is =
            single (imports_to (new_number h q).0) (record { query = (new_number h s.0).0; update = (new_number h u).0; amount = uncommitted_distance distance h.opening (accepted_in h) x.0 })
            ∙ (same ∙ sym (single (imports_to q) (record { query = s.0; update = u; amount = uncommitted_distance distance h.opening (accepted_in h) x.0 })))
          where
            same : (if (new_number h s.0).0 == (new_number h q).0 then uncommitted_distance distance h.opening (accepted_in h) x.0 else 0) ≡ (if s.0 == q then uncommitted_distance distance h.opening (accepted_in h) x.0 else 0)
            same =
                elim (cases_eq s.0 q) [
                  | inl e ↦ rw (e, eq-eqb q q refl, eq-eqb (new_number h q).0 (new_number h q).0 refl) refl
                  | inr ne ↦ rw (ne_eqb s.0 q ne, ne_eqb (new_number h s.0).0 (new_number h q).0 (λ i. ne (new_number_injective h s.0 q (query_active d h s.0 is) (query_active d h q own) i))) refl
                ]
    import_of q own (BeginUpdate l) = refl
    import_of q own (BeginQuery l s) = refl
    import_of q own (Write s x v) = refl
    import_of q own (Commit s) = refl
    import_of q own (Abort s) = refl

    export_of : (t : ℕ) → is_active (accepted_in h) t ≡ true → (e : Event) → sum_by (exports_of (new_number h t).0) (charges_of d h legal e) ≡ sum_by (exports_of t) (open_of e)
    export_of t act (Read s x) = at (is_active_query h s.0) (writer (accepted_in h) x.0) refl
      where
        at : (b : Bool) (w : Option ℕ) → writer (accepted_in h) x.0 ≡ w
            → sum_by (exports_of (new_number h t).0) (if b then charge_by d h legal s.0 x.0 w else []) ≡ sum_by (exports_of t) (if b then charge_of_read distance h.opening (accepted_in h) s.0 x.0 w else [])
        at false w is = refl
        at true None is = refl
        at true (Some u) is =
            single (exports_of (new_number h t).0) (record { query = (new_number h s.0).0; update = (new_number h u).0; amount = uncommitted_distance distance h.opening (accepted_in h) x.0 })
            ∙ (same ∙ sym (single (exports_of t) (record { query = s.0; update = u; amount = uncommitted_distance distance h.opening (accepted_in h) x.0 })))
          where
            writes : is_active (accepted_in h) u ≡ true
            writes =
                let p = and_parts (is_update (accepted_in h) u) (holds_write (accepted_in h) u x.0) (found_satisfies (λ u. is_update (accepted_in h) u && holds_write (accepted_in h) u x.0) (txn_numbers (accepted_in h)) u is) in
                (and_parts (is_active (accepted_in h) u) _ p.1).0

            same : (if (new_number h u).0 == (new_number h t).0 then uncommitted_distance distance h.opening (accepted_in h) x.0 else 0) ≡ (if u == t then uncommitted_distance distance h.opening (accepted_in h) x.0 else 0)
            same =
                elim (cases_eq u t) [
                  | inl e ↦ rw (e, eq-eqb t t refl, eq-eqb (new_number h t).0 (new_number h t).0 refl) refl
                  | inr ne ↦ rw (ne_eqb u t ne, ne_eqb (new_number h u).0 (new_number h t).0 (λ i. ne (new_number_injective h u t writes act i))) refl
                ]
    export_of t act (BeginUpdate l) = refl
    export_of t act (BeginQuery l s) = refl
    export_of t act (Write s x v) = refl
    export_of t act (Commit s) = refl
    export_of t act (Abort s) = refl

    pub carried_import : (q : ℕ) → is_active_query h q ≡ true → (rs : List Event) → import_in (flat_map (charges_of d h legal) rs) (new_number h q).0 ≡ sum_by (λ e. sum_by (imports_to q) (open_of e)) rs
    carried_import q own rs =
        sum_flat (imports_to (new_number h q).0) (charges_of d h legal) rs
        ∙ sum_same (λ e. sum_by (imports_to (new_number h q).0) (charges_of d h legal e)) (λ e. sum_by (imports_to q) (open_of e)) rs (λ e i. import_of q own e)

    pub carried_export : (t : ℕ) → is_active (accepted_in h) t ≡ true → (rs : List Event) → export_in (flat_map (charges_of d h legal) rs) (new_number h t).0 ≡ sum_by (λ e. sum_by (exports_of t) (open_of e)) rs
    carried_export t act rs =
        sum_flat (exports_of (new_number h t).0) (charges_of d h legal) rs
        ∙ sum_same (λ e. sum_by (exports_of (new_number h t).0) (charges_of d h legal e)) (λ e. sum_by (exports_of t) (open_of e)) rs (λ e i. export_of t act e)
