-- The effect of one more entry on the tallies.
use Rattle.std.proofs.Common.{◌≡◌, ℕ, ◌+◌, ◌<◌, ◌&&◌, Bool, true, false, cond, if◌then◌else◌, List, [], ◌∷◌, ◌++◌, length, get_or, set, refl, sym, ◌∙◌, ap, ap₂, filter, length-append, arith, Some, count_by, get_or-set_same, get_or-set_other, length-set, ⊎_elim}
use Rattle.std.proofs.lemmas.List.Sums.{length-filter}
use Rattle.std.proofs.lemmas.Bool.{cases_eq, eq-eqb, ne_eqb}
use Rattle.std.proofs.lemmas.List.Elements.{filter-append}
use Rattle.esr_history.specs.declared.event.Reply.{Reply}
use Rattle.esr_history.specs.declared.event.Entry.{Entry}
use Rattle.esr_history.specs.declared.event.Reply.TheVariants.{Value, Wrote, Refused}
use Rattle.esr_history.specs.declared.event.Refusal.TheVariants.{BlockedByLock, BlockedByImport, BlockedByExport}
use Rattle.esr_history.specs.BackLinks.{txn_in, is_some_eq}
use Rattle.esr_tables.specs.declared.tallies.Tally.{Tally}
use Rattle.esr_tables.specs.Rows.{is_blocked_by_export, is_blocked_by_import, is_blocked_by_lock, count_of_replies, is_accepted_read, is_accepted_write, tally_of}
use Rattle.esr_tables.specs.Entries.{AreTallies, with_reply}

none_more : (n : ℕ) → n + 0 ≡ n
none_more n = omega arith

-- a count with one element more
count_more : {X : Type 0} (p : X → Bool) (xs : List X) (x : X) → count_by p (xs ++ x ∷ []) ≡ count_by p xs + cond (p x) 1 0
count_more p xs x =
    sym (length-filter p (xs ++ x ∷ []))
    ∙ (ap length (filter-append p xs (x ∷ []))
    ∙ (length-append (filter p xs) (filter p (x ∷ [])) ∙ ap₂ (λ a b. a + b) (length-filter p xs) (at (p x))))
  where
    at : (b : Bool) → length (cond b (x ∷ []) []) ≡ cond b 1 0
    at true = refl
    at false = refl

abbrev tally : (reads writes blocked_by_lock blocked_by_import blocked_by_export : ℕ) → Tally
tally r w l i e = record { reads = r; writes = w; blocked_by_lock = l; blocked_by_import = i; blocked_by_export = e }

one_more : (R W L I E : ℕ) (b : Bool) (r : Reply)
    → tally (R + cond (b && is_accepted_read r) 1 0) (W + cond (b && is_accepted_write r) 1 0) (L + cond (b && is_blocked_by_lock r) 1 0) (I + cond (b && is_blocked_by_import r) 1 0) (E + cond (b && is_blocked_by_export r) 1 0)
    ≡ (if b then with_reply (tally R W L I E) r else tally R W L I E)
one_more R W L I E false r = λ i. tally (none_more R i) (none_more W i) (none_more L i) (none_more I i) (none_more E i)
one_more R W L I E true (Value v) = λ i. tally (R + 1) (none_more W i) (none_more L i) (none_more I i) (none_more E i)
one_more R W L I E true Wrote = λ i. tally (none_more R i) (W + 1) (none_more L i) (none_more I i) (none_more E i)
one_more R W L I E true (Refused (BlockedByLock u)) = λ i. tally (none_more R i) (none_more W i) (L + 1) (none_more I i) (none_more E i)
one_more R W L I E true (Refused (BlockedByImport u)) = λ i. tally (none_more R i) (none_more W i) (none_more L i) (I + 1) (none_more E i)
one_more R W L I E true (Refused (BlockedByExport u)) = λ i. tally (none_more R i) (none_more W i) (none_more L i) (none_more I i) (E + 1)
one_more R W L I E true _ = λ i. tally (none_more R i) (none_more W i) (none_more L i) (none_more I i) (none_more E i)

counted_one : (p : Reply → Bool) (es : List Entry) (e : Entry) (t : ℕ) → count_of_replies p (es ++ e ∷ []) t ≡ count_of_replies p es t + cond (is_some_eq (txn_in e) t && p e.reply) 1 0
counted_one p es e t = count_more (λ (n : Entry). is_some_eq (txn_in n) t && p n.reply) es e

-- an entry more is counted for its transaction, and for no other
pub tally_more : (es : List Entry) (e : Entry) (t : ℕ) → tally_of (es ++ e ∷ []) t ≡ (if is_some_eq (txn_in e) t then with_reply (tally_of es t) e.reply else tally_of es t)
tally_more es e t =
    (λ i. tally (counted_one is_accepted_read es e t i) (counted_one is_accepted_write es e t i) (counted_one is_blocked_by_lock es e t i) (counted_one is_blocked_by_import es e t i) (counted_one is_blocked_by_export es e t i))
    ∙ one_more (count_of_replies is_accepted_read es t) (count_of_replies is_accepted_write es t) (count_of_replies is_blocked_by_lock es t) (count_of_replies is_blocked_by_import es t) (count_of_replies is_blocked_by_export es t) (is_some_eq (txn_in e) t) e.reply

-- the tallies after an entry of transaction n
pub is_counted : (es : List Entry) (e : Entry) (tallies : List Tally) (n : ℕ) (d : Tally) → n < length tallies → txn_in e ≡ Some n → AreTallies es tallies
    → AreTallies (es ++ e ∷ []) (set tallies n (with_reply (get_or tallies n d) e.reply))
is_counted es e tallies n d within is are t l f =
    let long : length (set tallies n (with_reply (get_or tallies n d) e.reply)) ≡ length tallies = length-set tallies n (with_reply (get_or tallies n d) e.reply) in
    let low : t < length tallies = omega (arith, long, l) in
    ⊎_elim
    (λ (same : t ≡ n).
    let key : is_some_eq (txn_in e) t ≡ true = ap (λ o. is_some_eq o t) is ∙ eq-eqb n t (sym same) in
    ap (λ k. get_or (set tallies n (with_reply (get_or tallies n d) e.reply)) k f) same
    ∙ (get_or-set_same tallies n (with_reply (get_or tallies n d) e.reply) f within
    ∙ (ap (λ (y : Tally). with_reply y e.reply) (are n within d)
    ∙ (ap (λ k. with_reply (tally_of es k) e.reply) (sym same)
    ∙ sym (tally_more es e t ∙ ap (λ (b : Bool). if b then with_reply (tally_of es t) e.reply else tally_of es t) key)))))
    (λ other.
    let key : is_some_eq (txn_in e) t ≡ false = ap (λ o. is_some_eq o t) is ∙ ne_eqb n t (λ same. other (sym same)) in
    get_or-set_other tallies n t (with_reply (get_or tallies n d) e.reply) f other
    ∙ (are t low f
    ∙ sym (tally_more es e t ∙ ap (λ (b : Bool). if b then with_reply (tally_of es t) e.reply else tally_of es t) key)))
    (cases_eq t n)
