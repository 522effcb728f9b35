-- The entries of a transaction yield its accesses.
use Rattle.std.proofs.Common.{◌≡◌, ◌<◌, All, arith, ℕ, ◌+◌, Bool, true, false, not, ◌&&◌, List, [], ◌∷◌, ◌++◌, length, refl, sym, ◌∙◌, ap, Option, None, Some, reverse, cond, filter, map, eqb, append_assoc, if◌then◌else◌, option_map}
use Rattle.std.specs.List.{filter_map, slice_get, cons_option}
use Rattle.std.proofs.lemmas.List.{length-append, reverse-append}
use Rattle.std.proofs.lemmas.List.Elements.{All-from_recursion}
use Rattle.esr_history.specs.declared.event.Event.{Event}
use Rattle.esr_history.specs.declared.event.Event.TheVariants.{BeginUpdate, BeginQuery, Read, Write, Commit, Abort}
use Rattle.esr_history.specs.declared.event.Reply.{Reply}
use Rattle.esr_history.specs.declared.event.Entry.{Entry}
use Rattle.esr_history.specs.Events.{is_refusal}
use Rattle.esr_history.specs.BackLinks.{accepted_txn, txn_in, txn_of, is_some_eq, places_from, last_place, earlier, coded}
use Rattle.esr_history.specs.Machine.{DistanceFunction, Schedule, IsLegal}
use Rattle.esr_history.specs.Operations.{Operation, operation_of, operation_by, operations_in, answer}
use Rattle.esr_history.specs.Queries.{reads_by}
use Rattle.esr_history.proofs.Membership.{get_seam, In-of_filter, each_in}
use Rattle.esr_history.proofs.WithinRanges.{legal_items}
use Rattle.esr_order.specs.Scans.{access_of, access_in, access_by, access_at, accesses_in, Access}
use Rattle.esr_order.proofs.Entries.{accepts}
use Rattle.esr_order.proofs.Lists.{of_map}
use Rattle.esr_order.proofs.Linked.{IsWalk, walk_none, walk_next, walk_done, walk_smaller, accepted_owns}

-- the entries at the places of a key are those that have it
entries_from : (key : Entry → Option ℕ) (k : ℕ) (past es : List Entry) → filter_map (slice_get (past ++ es)) (places_from key k (length past) es) ≡ filter (λ e. is_some_eq (key e) k) es
entries_from key k past [] = refl
entries_from key k past (e ∷ es) =
    at (is_some_eq (key e) k)
    (ap (λ n. filter_map (slice_get (past ++ e ∷ es)) (places_from key k n es)) (sym (length-append past (e ∷ [])))
    ∙ (ap (λ l. filter_map (slice_get l) (places_from key k (length (past ++ e ∷ [])) es)) (sym (append_assoc past (e ∷ []) es))
    ∙ entries_from key k (past ++ e ∷ []) es))
  where
    at : (b : Bool) → filter_map (slice_get (past ++ e ∷ es)) (places_from key k (length past + 1) es) ≡ filter (λ e. is_some_eq (key e) k) es
        → filter_map (slice_get (past ++ e ∷ es)) (if b then length past ∷ places_from key k (length past + 1) es else places_from key k (length past + 1) es)
        ≡ cond b (e ∷ filter (λ e. is_some_eq (key e) k) es) (filter (λ e. is_some_eq (key e) k) es)
    at true rest = ap (λ o. cons_option o (filter_map (slice_get (past ++ e ∷ es)) (places_from key k (length past + 1) es))) (get_seam past e es) ∙ ap (λ l. e ∷ l) rest
    at false rest = rest

abbrev by : ℕ → Operation → Bool
by t o = eqb o.txn t

-- one entry more
module _ (t : ℕ) (e : Entry) (L : List Access) (R : List Operation) (rest : L ≡ map access_of (filter (by t) R)) where
  neither : (b : Bool) → cond b L L ≡ map access_of (filter (by t) R)
  neither true = rest
  neither false = rest

  own : (b : Bool) (o : Operation) → cond b (access_of o ∷ L) L ≡ map access_of (cond b (o ∷ filter (by t) R) (filter (by t) R))
  own true o = ap (λ l. access_of o ∷ l) rest
  own false o = rest

  given : (ev : Event) (r : Reply) → cond (is_some_eq (txn_of ev r) t) (cons_option (option_map access_of (operation_by ev r)) L) L ≡ map access_of (filter (by t) (cons_option (operation_by ev r) R))
  given (BeginUpdate l) r = neither (is_some_eq (txn_of (BeginUpdate l) r) t)
  given (BeginQuery l s) r = neither (is_some_eq (txn_of (BeginQuery l s) r) t)
  given (Read u x) r = own (eqb u.0 t) (record { txn = u.0; item = x.0; writes = false; value = answer r })
  given (Write u x v) r = own (eqb u.0 t) (record { txn = u.0; item = x.0; writes = true; value = v })
  given (Commit u) r = neither (eqb u.0 t)
  given (Abort u) r = neither (eqb u.0 t)

  -- whether or not it is refused
  access_more : (b : Bool) → cond (is_some_eq (if b then None else txn_of e.event e.reply) t) (cons_option (if b then None else option_map access_of (operation_of e)) L) L
      ≡ map access_of (filter (by t) (cond (not b) (cons_option (operation_of e) R) R))
  access_more true = rest
  access_more false = given e.event e.reply

spread : {X Y : Type 0} (f : X → Option Y) (b : Bool) (x : X) (xs : List X) → filter_map f (cond b (x ∷ xs) xs) ≡ cond b (cons_option (f x) (filter_map f xs)) (filter_map f xs)
spread f true x xs = refl
spread f false x xs = refl

accesses_kept : (t : ℕ) (es : List Entry) → filter_map access_in (filter (λ e. is_some_eq (accepted_txn e) t) es) ≡ map access_of (filter (by t) (filter_map operation_of (filter accepts es)))
accesses_kept t [] = refl
accesses_kept t (e ∷ es) =
    spread access_in (is_some_eq (accepted_txn e) t) e (filter (λ e. is_some_eq (accepted_txn e) t) es)
    ∙ (access_more t e (filter_map access_in (filter (λ e. is_some_eq (accepted_txn e) t) es)) (filter_map operation_of (filter accepts es)) (accesses_kept t es) (is_refusal e.reply)
    ∙ ap (λ l. map access_of (filter (by t) l)) (sym (spread operation_of (accepts e) e (filter accepts es))))

accesses_along : (t : ℕ) (es : List Entry) → filter_map access_in (filter_map (slice_get es) (places_from accepted_txn t 0 es)) ≡ accesses_in es t
accesses_along t es = ap (filter_map access_in) (entries_from accepted_txn t [] es) ∙ accesses_kept t es

-- on the way back along a transaction: the accesses of the entries visited so far, in reverse order
pub record IsBackTo (es : List Entry) (t : ℕ) (accesses : List Access) (next : Option ℕ) : Type 0 where
  pub places : List ℕ
  pub walk : IsWalk accepted_txn t es places next
  pub restored : reverse accesses ≡ filter_map access_in (filter_map (slice_get es) (reverse places))

pub back_none : (es : List Entry) (t : ℕ) (next : Option ℕ) → next ≡ last_place accepted_txn t es → IsBackTo es t [] next
back_none es t next is = record { places = []; walk = walk_none accepted_txn t es next is; restored = refl }

module _ (es : List Entry) (t : ℕ) (accesses : List Access) (next : Option ℕ) (b : IsBackTo es t accesses next) where
  -- one entry further back
  pub back_more : (i : ℕ) → next ≡ Some i → (o : Option Access) → o ≡ access_at es i → (more : List Access) → reverse more ≡ cons_option o (reverse accesses) → (after : Option ℕ) → after ≡ earlier accepted_txn txn_in es i → IsBackTo es t more after
  back_more i is o yields more grown after then_is = record {
    places = b.places ++ i ∷ [];
    walk = walk_next accepted_txn txn_in (accepted_owns txn_in) t es b.places next b.walk i is (b.places ++ i ∷ []) after refl then_is;
    restored =
        grown
        ∙ (ap (cons_option o) b.restored
        ∙ (at (slice_get es i) o yields
        ∙ ap (λ l. filter_map access_in (filter_map (slice_get es) l)) (sym (reverse-append b.places (i ∷ [])))));
  }
    where
      at : (e : Option Entry) (o : Option Access) → o ≡ access_by e → cons_option o (filter_map access_in (filter_map (slice_get es) (reverse b.places))) ≡ filter_map access_in (cons_option e (filter_map (slice_get es) (reverse b.places)))
      at None o is = ap (λ p. cons_option p (filter_map access_in (filter_map (slice_get es) (reverse b.places)))) is
      at (Some e) o is = ap (λ p. cons_option p (filter_map access_in (filter_map (slice_get es) (reverse b.places)))) is

  pub back_smaller : (i : ℕ) → next ≡ Some i → (after : Option ℕ) → after ≡ earlier accepted_txn txn_in es i → coded after < coded next
  back_smaller i is after then_is = walk_smaller accepted_txn txn_in (accepted_owns txn_in) t es b.places next b.walk i is after then_is

  pub back_done : next ≡ None → reverse accesses ≡ accesses_in es t
  back_done none = b.restored ∙ (ap (λ l. filter_map access_in (filter_map (slice_get es) l)) (walk_done accepted_txn t es b.places next none b.walk) ∙ accesses_along t es)

-- they are on items of the history
pub accesses_inside : (d : DistanceFunction) (h : Schedule) → IsLegal d h → (t n : ℕ) → n ≡ length h.opening → All (λ a. a.item.0 < n) (accesses_in h.entries t)
accesses_inside d h legal t n is = All-from_recursion (λ (a : Access). a.item.0 < n) (accesses_in h.entries t) (each_in (λ (a : Access). a.item.0 < n) (accesses_in h.entries t) (λ a i.
    let o = of_map access_of (filter (by t) (operations_in h.entries)) a i in
    let l : o.0.item < length h.opening = legal_items d h legal o.0 (In-of_filter (by t) (operations_in h.entries) o.0 o.1).0 in
    let e : o.0.item ≡ a.item.0 = ap (λ (a : Access). a.item.0) o.2 in
    omega (arith, l, e, is)))

-- the reads among the accesses of q are the reads of q
reads_among : (q : ℕ) (os : List Operation) → filter (λ (a : Access). not a.writes) (map access_of (filter (by q) os)) ≡ map access_of (filter (λ (o : Operation). not o.writes && (eqb o.txn q)) os)
reads_among q [] = refl
reads_among q (o ∷ os) = at (eqb o.txn q) o.writes refl (reads_among q os)
  where
    W : List Access
    W = filter (λ (a : Access). not a.writes) (map access_of (filter (by q) os))

    R : List Operation
    R = filter (λ (o : Operation). not o.writes && (eqb o.txn q)) os

    at : (own w : Bool) → o.writes ≡ w → W ≡ map access_of R → filter (λ (a : Access). not a.writes) (map access_of (cond own (o ∷ filter (by q) os) (filter (by q) os))) ≡ map access_of (cond (not w && own) (o ∷ R) R)
    at true true is rest = ap (λ b. cond (not b) (access_of o ∷ W) W) is ∙ rest
    at true false is rest = ap (λ b. cond (not b) (access_of o ∷ W) W) is ∙ ap (λ l. access_of o ∷ l) rest
    at false true is rest = rest
    at false false is rest = rest

pub reads_are : (h : Schedule) (q : ℕ) → filter (λ (a : Access). not a.writes) (accesses_in h.entries q) ≡ map access_of (reads_by h q)
reads_are h q = reads_among q (filter_map operation_of (filter accepts h.entries))
