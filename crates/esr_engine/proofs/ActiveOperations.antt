-- The operations of active transactions: what another entry does not yield, and how many active transactions come before
-- one.
use Rattle.std.proofs.Common.{◌≡◌, ℕ, zero, suc, ◌<◌, ◌≤◌, Bool, true, false, cond, ◌&&◌, List, [], ◌∷◌, length, map, filter, sum_by, count_by, get_or, refl, sym, ◌∙◌, ap, arith, Option, None, if◌then◌else◌}
use Rattle.std.specs.List.{AllByRecursion, filter_map, cons_option}
use Rattle.std.specs.List.Sorted.{IsNonDecreasingBy, IsPartitionPoint}
use Rattle.std.proofs.lemmas.List.Sums.{sum_by-cons}
use Rattle.esr_items.specs.Weights.{weighted}
use Rattle.esr_history.specs.declared.event.Event.{Event}
use Rattle.esr_history.specs.declared.event.Event.TheVariants.{BeginUpdate, BeginQuery, Read, Write, Commit, Abort}
use Rattle.esr_history.specs.declared.event.Entry.{Entry}
use Rattle.esr_history.specs.declared.event.BeginKind.{BeginKind}
use Rattle.esr_history.specs.declared.event.BeginKind.TheVariants.{Update, Query}
use Rattle.esr_history.specs.declared.event.Reply.{Reply}
use Rattle.esr_history.specs.Events.{is_active, is_query, is_refusal, is_update}
use Rattle.esr_history.specs.Machine.{Schedule, accepted_in}
use Rattle.esr_history.specs.ReportBounds.{is_active_query}
use Rattle.esr_history.proofs.Membership.{Pairs}
use Rattle.esr_core.specs.Carried.{active_numbers, carried_operation, carried_read}
use Rattle.esr_renewal.proofs.Renumbered.{active_ascending}
use Rattle.esr_engine.specs.declared.carrying.ActiveTxn.{ActiveTxn}
use Rattle.esr_engine.specs.Carrying.{active_as, active_in, amount_to, carried_entry, is_active_operation, is_of_active, open_amount, open_of}

-- ---- lists

pub filtered : {X Y : Type 0} (p : X → Bool) (f : X → Option Y) → ((x : X) → p x ≡ false → f x ≡ None) → (xs : List X) → filter_map f (filter p xs) ≡ filter_map f xs
filtered p f none [] = refl
filtered {X} {Y} p f none (x ∷ xs) = at (p x) refl (filtered p f none xs)
  where
    at : (b : Bool) → p x ≡ b → filter_map f (filter p xs) ≡ filter_map f xs → filter_map f (cond b (x ∷ filter p xs) (filter p xs)) ≡ cons_option (f x) (filter_map f xs)
    at true is rest = ap (cons_option (f x)) rest
    at false is rest = rest ∙ ap (λ o. cons_option o (filter_map f xs)) (sym (none x is))

pub filtered_sum : {X : Type 0} (p : X → Bool) (f : X → ℕ) → ((x : X) → p x ≡ false → f x ≡ 0) → (xs : List X) → sum_by f (filter p xs) ≡ sum_by f xs
filtered_sum p f none [] = refl
filtered_sum {X} p f none (x ∷ xs) = at (p x) refl (filtered_sum p f none xs)
  where
    at : (b : Bool) → p x ≡ b → sum_by f (filter p xs) ≡ sum_by f xs → sum_by f (cond b (x ∷ filter p xs) (filter p xs)) ≡ sum_by f (x ∷ xs)
    at true is rest = let a = sum_by-cons f x (filter p xs) in let b = sum_by-cons f x xs in omega (arith, a, b, rest)
    at false is rest = let a = sum_by-cons f x xs in let z = none x is in omega (arith, a, z, rest)

-- as many elements pass as there are before the partition point
pub count_to : {X : Type 0} (p : X → Bool) (xs : List X) (i : ℕ) → i ≤ length xs → IsPartitionPoint (λ y. p y ≡ true) (λ y. p y ≡ false) xs i → count_by p xs ≡ i
count_to p [] zero l at = refl
count_to p [] (suc i) l at = absurd (omega arith)
count_to p (x ∷ xs) zero l at =
    let a = sum_by-cons (λ y. cond (p y) 1 0) x xs in
    let no : p x ≡ false = at.1 0 x (omega arith) (omega arith) in
    let rest : count_by p xs ≡ 0 = count_to p xs 0 (omega arith) (λ k d low high. absurd (omega arith), λ k d low high. at.1 (suc k) d (omega arith) (omega arith)) in
    a ∙ rw no (omega (arith, rest))
count_to p (x ∷ xs) (suc i) l at =
    let a = sum_by-cons (λ y. cond (p y) 1 0) x xs in
    let yes : p x ≡ true = at.0 0 x (omega arith) (omega arith) in
    let rest : count_by p xs ≡ i = count_to p xs i (omega arith) (λ k d low high. at.0 (suc k) d (omega arith) (omega arith), λ k d low high. at.1 (suc k) d (omega arith) (omega arith)) in
    a ∙ rw yes (omega (arith, rest))

-- ---- the active transactions ascend

above : (h : Schedule) (t : ℕ) (ts : List ℕ) → AllByRecursion (λ v. t < v) ts → (j : ℕ) (d : ActiveTxn) → j < length (map (active_as h) ts) → t ≤ (get_or (map (active_as h) ts) j d).txn.0
above h t [] all j d lt = absurd (omega arith)
above h t (u ∷ ts) all zero d lt = let l : t < u = all.0 in omega arith
above h t (u ∷ ts) all (suc j) d lt = above h t ts all.1 j d (omega arith)

rise : (h : Schedule) (ts : List ℕ) → Pairs (λ u v. u < v) ts → IsNonDecreasingBy (λ (a : ActiveTxn). a.txn.0) (map (active_as h) ts)
rise h [] p i j d le lt = absurd (omega arith)
rise h (t ∷ ts) p zero zero d le lt = omega arith
rise h (t ∷ ts) p zero (suc j) d le lt = above h t ts p.0 j d (omega arith)
rise h (t ∷ ts) p (suc i) zero d le lt = absurd (omega arith)
rise h (t ∷ ts) p (suc i) (suc j) d le lt = rise h ts p.1 i j d (omega arith) (omega arith)

pub active_rise : (h : Schedule) → IsNonDecreasingBy (λ (a : ActiveTxn). a.txn.0) (active_in h)
active_rise h = rise h (active_numbers h) (active_ascending h)

-- ---- entries that are no operations of active transactions

and_false : (b : Bool) → (b && false) ≡ false
and_false true = refl
and_false false = refl

record IsIdle (h : Schedule) (e : Event) : Type 0 where
  operation : (r : Reply) → carried_operation h r e ≡ None
  read : carried_read h e ≡ None
  charges : open_of weighted h e ≡ []

idle : (h : Schedule) (e : Event) → is_active_operation h e ≡ false → IsIdle h e
idle h (Read t x) is =
    let update : (is_update (accepted_in h) t.0 && is_active (accepted_in h) t.0) ≡ false = ap (λ b. is_update (accepted_in h) t.0 && b) is ∙ and_false (is_update (accepted_in h) t.0) in
    let query : is_active_query h t.0 ≡ false = ap (λ b. is_query (accepted_in h) t.0 && b) is ∙ and_false (is_query (accepted_in h) t.0) in
    record { operation = λ r. rw update refl; read = rw query refl; charges = rw query refl }
idle h (Write t x v) is =
    let update : (is_update (accepted_in h) t.0 && is_active (accepted_in h) t.0) ≡ false = ap (λ b. is_update (accepted_in h) t.0 && b) is ∙ and_false (is_update (accepted_in h) t.0) in
    record { operation = λ r. rw update refl; read = refl; charges = refl }
idle h (BeginUpdate l) is = record { operation = λ r. refl; read = refl; charges = refl }
idle h (BeginQuery l s) is = record { operation = λ r. refl; read = refl; charges = refl }
idle h (Commit t) is = record { operation = λ r. refl; read = refl; charges = refl }
idle h (Abort t) is = record { operation = λ r. refl; read = refl; charges = refl }

pub no_entry : (h : Schedule) (kind : BeginKind) (e : Entry) → is_of_active h e ≡ false → carried_entry h kind e ≡ None
no_entry h Update e is = at (is_refusal e.reply) is
  where
    at : (b : Bool) → (if b then false else is_active_operation h e.event) ≡ false → (if b then None else carried_operation h e.reply e.event) ≡ None
    at true is = refl
    at false is = (idle h e.event is).operation e.reply
no_entry h Query e is = at (is_refusal e.reply) is
  where
    at : (b : Bool) → (if b then false else is_active_operation h e.event) ≡ false → (if b then None else carried_read h e.event) ≡ None
    at true is = refl
    at false is = (idle h e.event is).read

pub no_amount : (h : Schedule) (query : Bool) (t : ℕ) (e : Entry) → is_of_active h e ≡ false → open_amount weighted h query t e ≡ 0
no_amount h query t e is = at (is_refusal e.reply) is
  where
    none : (query : Bool) → amount_to query [] t ≡ 0
    none true = refl
    none false = refl

    at : (b : Bool) → (if b then false else is_active_operation h e.event) ≡ false → (if b then 0 else amount_to query (open_of weighted h e.event) t) ≡ 0
    at true is = refl
    at false is = ap (λ cs. amount_to query cs t) (idle h e.event is).charges ∙ none query
