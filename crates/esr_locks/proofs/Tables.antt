-- The effect of one more lock and of a release on the rows and the lists of a table.
use Rattle.std.proofs.Common.{◌≡◌, ℕ, ◌+◌, ◌<◌, ◌≤◌, List, [], ◌∷◌, ◌++◌, length, Bool, true, false, not, ◌||◌, ◌==◌, refl, sym, ◌∙◌, ap, subst, arith, inl, inr, ◌⊎◌, Option, None, Some, if◌then◌else◌, map, get_or, set, get_or-set_same, get_or-set_other, zero, suc, take, All, unwrap_or, filter, slice_index, option_map}
use Rattle.std.proofs.Math.ListN.{length-set}
use Rattle.std.specs.List.{list_any, range_with_len}
use Rattle.std.proofs.lemmas.Bool.{cases_Bool, cases_eq, eq-eqb, eqb-true, ne_eqb, false≢true, or_cases, or_left, or_right, or_parts}
use Rattle.std.proofs.lemmas.List.{map-set, map-append, get_or-map, ext_get_or, length-map, take_more, get_or_default}
use Rattle.std.proofs.lemmas.List.Elements.{All-nil, All-push}
use Rattle.std.proofs.lemmas.List.FromFn.{length-range_with_len, get_or-map-range_with_len, map-range_with_len_more}
use Rattle.esr_base.specs.declared.numbers.ItemId.{ItemId}
use Rattle.esr_base.specs.declared.numbers.TxnId.{TxnId}
use Rattle.esr_history.specs.declared.event.BeginKind.{BeginKind}
use Rattle.esr_history.specs.declared.event.BeginKind.TheVariants.{Query, Update}
use Rattle.esr_history.specs.ItemLocks.{ItemLocks}
use Rattle.esr_history.proofs.Ascending.{any_placed}
use Rattle.esr_history.proofs.Lists.{any_push, or_false}
use Rattle.esr_locks.specs.Modes.{Mode, Read, Write, QueryRead}
use Rattle.esr_locks.specs.LockEntries.{LockEntryModel, spare_of, LockedItemsModel, empty_list, empty_entry, entry_at, items_locked_by, IsLockTable, with_lock, has_lock_in_mode}
use Rattle.esr_locks.specs.Tables.{no_locks, locks_at, is_writer, is_reader, has_update_lock, has_query_lock, has_lock, released, released_update, released_query, has_other_lock, contains_item}

-- the locks at an item, by the rows
pub locks_at-entries : (entries : List LockEntryModel) (x : ℕ) → x < length entries → locks_at (map (λ r. r.locks) entries) x ≡ (entry_at entries x).locks
locks_at-entries entries x l = get_or-map (λ (r : LockEntryModel). r.locks) entries x empty_entry no_locks l

-- a row changed is one item's locks changed
pub set_entry : (entries : List LockEntryModel) (x : ℕ) (entry new : LockEntryModel) (f : ItemLocks → ItemLocks) → x < length entries → entry ≡ get_or entries x entry → new.locks ≡ f entry.locks
    → map (λ r. r.locks) (set entries x new) ≡ set (map (λ r. r.locks) entries) x (f (locks_at (map (λ r. r.locks) entries) x))
set_entry entries x entry new f l is new_is = grind (arith, map-set, set, map, get_or-map)

-- the holders after one more lock are the earlier holders and its taker
pub lock_more : (mode : Mode) (t u : ℕ) (l : ItemLocks) → has_lock (with_lock mode t l) u ≡ true → (has_lock l u ≡ true) ⊎ (t ≡ u)
lock_more Read t u l is = grind (arith, any_placed (λ v. v) t t (λ v. v) refl (λ v. refl) u l.readers, cases_Bool, or_left, or_right, or_cases, eqb-true)
lock_more Write t u l is = grind (arith, cases_Bool, or_left, or_right, or_cases, eqb-true)
lock_more QueryRead t u l is = grind (arith, any_placed (λ (r : ℕ × ℕ). r.0) t (t, 1) (λ (r : ℕ × ℕ). (r.0, r.1 + 1)) refl (λ r. refl) u l.queries, cases_Bool, or_left, or_right, or_cases, eqb-true)

-- a transaction that holds a lock in some mode on an item holds a lock on it
pub such_has : (mode : Mode) (t : ℕ) (l : ItemLocks) → has_lock_in_mode mode l t ≡ true → has_lock l t ≡ true
such_has Read t l is = grind (arith, or_cases, or_left, or_right)
such_has Write t l is = grind (arith, or_cases, or_left, or_right)
such_has QueryRead t l is = grind (arith, or_left, or_right)

-- whether the writer is t, by its number
pub wrote : (w : Option TxnId) (t : ℕ) → unwrap_or (option_map (λ u. u.0 == t) w) false ≡ unwrap_or (option_map (λ u. u == t) (option_map (λ u. u.0) w)) false
wrote None t = refl
wrote (Some u) t = refl

-- the row that was read is that at the place
pub read_entry : (entries : List LockEntryModel) (x : ℕ) (entry : LockEntryModel) → x < length entries → entry ≡ get_or entries x entry → entry ≡ entry_at entries x
read_entry entries x entry l is = is ∙ get_or_default entries x entry empty_entry l

pub read_list : (by_transaction : List LockedItemsModel) (t : ℕ) (list : LockedItemsModel) → t < length by_transaction → list ≡ get_or by_transaction t list → list ≡ items_locked_by by_transaction t
read_list by_transaction t list l is = is ∙ get_or_default by_transaction t list empty_list l

module _ (entries : List LockEntryModel) (by_transaction : List LockedItemsModel) (tab : IsLockTable entries by_transaction) (t x : ℕ) (inside : x < length entries) (entry new : LockEntryModel) (is : entry ≡ get_or entries x entry) where
  lock_there : (more : (u : ℕ) → has_lock new.locks u ≡ true → (has_lock entry.locks u ≡ true) ⊎ (t ≡ u)) → (u y : ℕ) → y < length (set entries x new) → has_lock (entry_at (set entries x new) y).locks u ≡ true → (contains_item (items_locked_by by_transaction u).items y ≡ true) ⊎ ((t ≡ u) × (x ≡ y))
  lock_there more u y l has =
      elim (cases_eq y x) [
        | inl e ↦
            let unchanged_if_present : has_lock new.locks u ≡ true = ap (λ (r : LockEntryModel). has_lock r.locks u) (sym (get_or-set_same entries x new empty_entry inside) ∙ ap (entry_at (set entries x new)) (sym e)) ∙ has in
            elim (more u unchanged_if_present) [
              | inl before ↦ inl (ap (contains_item (items_locked_by by_transaction u).items) e ∙ tab.listed u x inside (ap (λ (r : LockEntryModel). has_lock r.locks u) (sym (read_entry entries x entry inside is)) ∙ before))
              | inr same ↦ inr (same, sym e)
            ]
        | inr ne ↦ inl (tab.listed u y (rw length-set at l) (ap (λ (r : LockEntryModel). has_lock r.locks u) (sym (get_or-set_other entries x y new empty_entry ne)) ∙ has))
      ]

  -- the item is added to the list of the transaction that took the lock
  pub IsLockTable-push : (list : LockedItemsModel) → ((u : ℕ) → has_lock new.locks u ≡ true → (has_lock entry.locks u ≡ true) ⊎ (t ≡ u)) → t < length by_transaction → (id : ItemId) → id.0 ≡ x → list.items ≡ (items_locked_by by_transaction t).items ++ id ∷ []
      → IsLockTable (set entries x new) (set by_transaction t list)
  IsLockTable-push list more in_held id id_is list_is = record {
    within = λ u. elim (cases_eq u t) [
      | inl e ↦
          let inside_new : All (λ (i : ItemId). i.0 < length (set entries x new)) ((items_locked_by by_transaction t).items ++ id ∷ []) =
          All-push (λ (i : ItemId). i.0 < length (set entries x new)) (items_locked_by by_transaction t).items id (rw length-set (tab.within t)) (rw length-set (rw id_is inside)) in
          let at_t : (items_locked_by (set by_transaction t list) u).items ≡ (items_locked_by by_transaction t).items ++ id ∷ [] = ap (λ v. (items_locked_by (set by_transaction t list) v).items) e ∙ (ap (λ (h : LockedItemsModel). h.items) (get_or-set_same by_transaction t list empty_list in_held) ∙ list_is) in
          subst (λ (is' : List ItemId). All (λ (i : ItemId). i.0 < length (set entries x new)) is') (sym at_t) inside_new
      | inr ne ↦
          subst (λ (is' : List ItemId). All (λ (i : ItemId). i.0 < length (set entries x new)) is') (sym (ap (λ (h : LockedItemsModel). h.items) (get_or-set_other by_transaction t u list empty_list ne))) (rw length-set (tab.within u))
    ];
    listed = λ u y l has.
        elim (lock_there more u y l has) [
          | inl before ↦ keeps u y before
          | inr now ↦ ap (λ v. contains_item (items_locked_by (set by_transaction t list) v).items y) (sym now.0) ∙ (ap (λ (is' : List ItemId). contains_item is' y) (at_t) ∙ (any_push (λ (i : ItemId). i.0 == y) (items_locked_by by_transaction t).items id ∙ or_right (contains_item (items_locked_by by_transaction t).items y) (id.0 == y) (eq-eqb id.0 y (id_is ∙ now.1))))
        ];
  }
    where
      at_t : (items_locked_by (set by_transaction t list) t).items ≡ (items_locked_by by_transaction t).items ++ id ∷ []
      at_t = ap (λ (h : LockedItemsModel). h.items) (get_or-set_same by_transaction t list empty_list in_held) ∙ list_is

      keeps : (u y : ℕ) → contains_item (items_locked_by by_transaction u).items y ≡ true → contains_item (items_locked_by (set by_transaction t list) u).items y ≡ true
      keeps u y before = grind (arith, cases_eq u t, set by_transaction t list, at_t, any_push, or_left, get_or-set_other)

  -- the transaction that took the lock had one on the item
  pub IsLockTable-already_locked : ((u : ℕ) → has_lock new.locks u ≡ true → (has_lock entry.locks u ≡ true) ⊎ (t ≡ u)) → has_lock entry.locks t ≡ true → IsLockTable (set entries x new) by_transaction
  IsLockTable-already_locked more had = grind (arith, length-set, lock_there, read_entry entries x entry inside is)

-- a release changes nothing if the transaction has no lock
list_any_none : {X : Type 0} (p : X → Bool) (xs : List X) → list_any p xs ≡ false → filter (λ x. not (p x)) xs ≡ xs
list_any_none p [] none = refl
list_any_none p (x ∷ xs) none =
    let parts : (p x ≡ false) × (list_any p xs ≡ false) = or_parts (p x) (list_any p xs) none in
    rw parts.0 (ap (λ ys. x ∷ ys) (list_any_none p xs parts.1))

pub released_none : (t : ℕ) (l : ItemLocks) → has_lock l t ≡ false → released t l ≡ l
released_none t l none =
    let a : (is_writer l t ≡ false) × ((is_reader l t || has_query_lock l t) ≡ false) = or_parts (is_writer l t) (is_reader l t || has_query_lock l t) none in
    let b : (is_reader l t ≡ false) × (has_query_lock l t ≡ false) = or_parts (is_reader l t) (has_query_lock l t) a.1 in
    rw (a.0, list_any_none (λ u. u == t) l.readers b.0, list_any_none (λ (r : ℕ × ℕ). r.0 == t) l.queries b.1) refl

-- a transaction that has no lock of the other kind releases all its locks with those of its kind
pub released_as_update : (t : ℕ) (l : ItemLocks) → has_query_lock l t ≡ false → released_update t l ≡ released t l
released_as_update t l none = rw (list_any_none (λ (r : ℕ × ℕ). r.0 == t) l.queries none) refl

pub released_as_query : (t : ℕ) (l : ItemLocks) → has_update_lock l t ≡ false → released_query t l ≡ released t l
released_as_query t l none =
    let parts : (is_writer l t ≡ false) × (is_reader l t ≡ false) = or_parts (is_writer l t) (is_reader l t) none in
    rw (parts.0, list_any_none (λ u. u == t) l.readers parts.1) refl

any_filter : {X : Type 0} (p q : X → Bool) (xs : List X) → list_any p (filter q xs) ≡ true → list_any p xs ≡ true
any_filter p q [] is = absurd (false≢true is)
any_filter p q (x ∷ xs) is =
    elim (cases_Bool (q x)) [
      | inl passes ↦ elim (or_cases (p x) (list_any p (filter q xs)) (rw passes at is)) [
        | inl here ↦ or_left (p x) (list_any p xs) here
        | inr later ↦ or_right (p x) (list_any p xs) (any_filter p q xs later)
      ]
      | inr fails ↦ or_right (p x) (list_any p xs) (any_filter p q xs (rw fails at is))
    ]

none_left : {X : Type 0} (p : X → Bool) (xs : List X) → list_any p (filter (λ x. not (p x)) xs) ≡ false
none_left p [] = refl
none_left p (x ∷ xs) = grind (arith, cases_Bool (p x), none_left p xs)

-- after its release a transaction has no lock, and no other has more than before
pub released_gone : (t : ℕ) (l : ItemLocks) → has_lock (released t l) t ≡ false
released_gone t l = rw (writer_gone l.writer, none_left (λ u. u == t) l.readers, none_left (λ (r : ℕ × ℕ). r.0 == t) l.queries) refl
  where
    writer_gone : (w : Option ℕ) → unwrap_or (option_map (λ u. u == t) (if unwrap_or (option_map (λ u. u == t) w) false then None else w)) false ≡ false
    writer_gone None = refl
    writer_gone (Some u) = grind (arith, cases_Bool (u == t))

-- after its release a transaction still has no lock of the other kind
pub no_other_then : (kind : Option BeginKind) (t : ℕ) (l : ItemLocks) (b : Bool) → has_other_lock kind l t ≡ false → has_other_lock kind (if b then released t l else l) t ≡ false
no_other_then None t l b none = refl
no_other_then (Some kind) t l false none = none
no_other_then (Some Query) t l true none =
    let a = or_parts (is_writer (released t l) t) (is_reader (released t l) t || has_query_lock (released t l) t) (released_gone t l) in
    rw (a.0, (or_parts (is_reader (released t l) t) (has_query_lock (released t l) t) a.1).0) refl
no_other_then (Some Update) t l true none =
    let a = or_parts (is_writer (released t l) t) (is_reader (released t l) t || has_query_lock (released t l) t) (released_gone t l) in
    (or_parts (is_reader (released t l) t) (has_query_lock (released t l) t) a.1).1

pub released_less : (t u : ℕ) (l : ItemLocks) → has_lock (released t l) u ≡ true → has_lock l u ≡ true
released_less t u l is =
    elim (or_cases (is_writer (released t l) u) (is_reader (released t l) u || has_query_lock (released t l) u) is) [
      | inl w ↦ or_left (is_writer l u) (is_reader l u || has_query_lock l u) (writer_less l.writer w)
      | inr rest ↦ or_right (is_writer l u) (is_reader l u || has_query_lock l u) (elim (or_cases (is_reader (released t l) u) (has_query_lock (released t l) u) rest) [
        | inl r ↦ or_left (is_reader l u) (has_query_lock l u) (any_filter (λ v. v == u) (λ v. not (v == t)) l.readers r)
        | inr q ↦ or_right (is_reader l u) (has_query_lock l u) (any_filter (λ (v : ℕ × ℕ). v.0 == u) (λ (v : ℕ × ℕ). not (v.0 == t)) l.queries q)
      ])
    ]
  where
    writer_less : (w : Option ℕ) → unwrap_or (option_map (λ v. v == u) (if unwrap_or (option_map (λ v. v == t) w) false then None else w)) false ≡ true → unwrap_or (option_map (λ v. v == u) w) false ≡ true
    writer_less None h = absurd (false≢true h)
    writer_less (Some v) h = grind (arith, cases_Bool (v == t), false≢true)

module _ (entries : List LockEntryModel) (by_transaction : List LockedItemsModel) (tab : IsLockTable entries by_transaction) (t : ℕ) (rows_new : List LockEntryModel) (held_new : List LockedItemsModel)
    (len : length rows_new ≡ length entries)
    (locks : (x : ℕ) → x < length entries → (entry_at rows_new x).locks ≡ (if contains_item (items_locked_by by_transaction t).items x then released t (entry_at entries x).locks else (entry_at entries x).locks))
    (left : (u : ℕ) → (items_locked_by held_new u).items ≡ (if t == u then [] else (items_locked_by by_transaction u).items)) where
  every : (x : ℕ) → x < length entries → (entry_at rows_new x).locks ≡ released t (entry_at entries x).locks
  every x l =
      grind (arith, cases_Bool (contains_item (items_locked_by by_transaction t).items x), released_none, cases_Bool (has_lock (entry_at entries x).locks t), false≢true)

  pub released_all : map (λ r. r.locks) rows_new ≡ map (released t) (map (λ r. r.locks) entries)
  released_all =
      ext_get_or no_locks (map (λ r. r.locks) rows_new) (map (released t) (map (λ r. r.locks) entries))
      (length-map rows_new (λ (r : LockEntryModel). r.locks) ∙ (len ∙ sym (length-map (map (λ (r : LockEntryModel). r.locks) entries) (released t) ∙ length-map entries (λ (r : LockEntryModel). r.locks))))
      (λ x l.
      let l_new : x < length rows_new = simp length-map at l in
      let l_old : x < length entries = rw (← len) l_new in
      locks_at-entries rows_new x l_new ∙ (every x l_old ∙ (ap (released t) (sym (locks_at-entries entries x l_old)) ∙ sym (get_or-map (released t) (map (λ r. r.locks) entries) x no_locks no_locks (simp length-map l_old)))))

  pub IsLockTable-released : IsLockTable rows_new held_new
  IsLockTable-released = grind (arith, cases_Bool, All-nil, every, false≢true, released_gone, eqb-true, released_less)

-- a row with the same locks
pub set_same_entry : (entries : List LockEntryModel) (x : ℕ) (entry new : LockEntryModel) → entry ≡ get_or entries x entry → new.locks ≡ entry.locks → map (λ r. r.locks) (set entries x new) ≡ map (λ r. r.locks) entries
set_same_entry [] x entry new is same = refl
set_same_entry (r ∷ rs) zero entry new is same = ap (λ (l : ItemLocks). l ∷ map (λ (q : LockEntryModel). q.locks) rs) (same ∙ ap (λ (q : LockEntryModel). q.locks) is)
set_same_entry (r ∷ rs) (suc x) entry new is same = ap (λ ls. r.locks ∷ ls) (set_same_entry rs x entry new is same)

-- a transaction with capacity for one more item has a list
pub has_list : (by_transaction : List LockedItemsModel) (t : ℕ) → 0 < slice_index (map (λ h. h.spare_capacity) by_transaction) t → t < length by_transaction
has_list [] zero l = absurd (omega arith)
has_list [] (suc t) l = absurd (omega arith)
has_list (h ∷ by_transaction) zero l = omega arith
has_list (h ∷ by_transaction) (suc t) l = let m : t < length by_transaction = has_list by_transaction t l in omega arith

pub capacity_of_row : (entries : List LockEntryModel) (x : ℕ) (new : LockEntryModel) → x < length entries → slice_index (map (λ r. spare_of r) (set entries x new)) x ≡ spare_of new
capacity_of_row [] x new l = absurd (omega arith)
capacity_of_row (r ∷ rs) zero new l = refl
capacity_of_row (r ∷ rs) (suc x) new l = capacity_of_row rs x new (omega arith)

pub capacity_of_list : (by_transaction : List LockedItemsModel) (t : ℕ) (new : LockedItemsModel) → t < length by_transaction → slice_index (map (λ h. h.spare_capacity) (set by_transaction t new)) t ≡ new.spare_capacity
capacity_of_list [] t new l = absurd (omega arith)
capacity_of_list (h ∷ hs) zero new l = refl
capacity_of_list (h ∷ hs) (suc t) new l = capacity_of_list hs t new (omega arith)

-- the relation of the lists to the locks
pub table_within : (entries : List LockEntryModel) (by_transaction : List LockedItemsModel) → IsLockTable entries by_transaction → (t : ℕ) → All (λ (i : ItemId). i.0 < length (map (λ (r : LockEntryModel). r.locks) entries)) (items_locked_by by_transaction t).items
table_within entries by_transaction tab t = rw length-map (tab.within t)

pub table_listed : (entries : List LockEntryModel) (by_transaction : List LockedItemsModel) → IsLockTable entries by_transaction → (t x : ℕ) → x < length (map (λ (r : LockEntryModel). r.locks) entries)
    → has_lock (locks_at (map (λ (r : LockEntryModel). r.locks) entries) x) t ≡ true → contains_item (items_locked_by by_transaction t).items x ≡ true
table_listed entries by_transaction tab t x l has =
    let inside : x < length entries = rw length-map at l in
    tab.listed t x inside (ap (λ (g : ItemLocks). has_lock g t) (sym (locks_at-entries entries x inside)) ∙ has)

pub past_lists : (by_transaction : List LockedItemsModel) (t : ℕ) → length by_transaction ≤ t → (items_locked_by by_transaction t).items ≡ []
past_lists [] zero l = refl
past_lists [] (suc t) l = refl
past_lists (h ∷ by_transaction) zero l = absurd (omega arith)
past_lists (h ∷ by_transaction) (suc t) l = past_lists by_transaction t (omega arith)

-- rows with no locks
pub IsLockTable-empty : (entries : List LockEntryModel) (n : ℕ) → map (λ r. r.locks) entries ≡ map (λ x. no_locks) (range_with_len 0 n) → IsLockTable entries []
IsLockTable-empty entries n is = record {
  within = λ t. subst (λ (ids : List ItemId). All (λ (i : ItemId). i.0 < length entries) ids) {x = []} (sym (past_lists [] t (omega arith))) (All-nil (λ (i : ItemId). i.0 < length entries));
  listed = λ t x l has.
      let m : x < n = omega (arith, length-map entries (λ (r : LockEntryModel). r.locks), ap length is, length-map (range_with_len 0 n) (λ (y : ℕ). no_locks), length-range_with_len 0 n) in
      absurd (false≢true (ap (λ (g : ItemLocks). has_lock g t) (sym (sym (locks_at-entries entries x l) ∙ (ap (λ (ls : List ItemLocks). locks_at ls x) is ∙ get_or-map-range_with_len (λ y. no_locks) 0 n x x no_locks m (omega arith)))) ∙ has));
}

pub empty_more : (entries : List LockEntryModel) (new : LockEntryModel) (n : ℕ) → map (λ r. r.locks) entries ≡ map (λ x. no_locks) (range_with_len 0 n) → new.locks ≡ no_locks
    → map (λ r. r.locks) (entries ++ new ∷ []) ≡ map (λ x. no_locks) (range_with_len 0 (n + 1))
empty_more entries new n is none =
    map-append (λ (r : LockEntryModel). r.locks) entries (new ∷ [])
    ∙ (ap (λ (ls : List ItemLocks). ls ++ new.locks ∷ []) is
    ∙ (ap (λ (l : ItemLocks). map (λ (x : ℕ). no_locks) (range_with_len 0 n) ++ l ∷ []) none
    ∙ sym (map-range_with_len_more (λ (x : ℕ). no_locks) 0 n n (omega arith))))

-- one more item of a list released
pub release_more : (entries before : List LockEntryModel) (items : List ItemId) (k t : ℕ) (id : ItemId) (entry new : LockEntryModel)
    → k < length items → id ≡ get_or items k id → id.0 < length entries → entry ≡ get_or entries id.0 entry → new.locks ≡ released t entry.locks
    → length entries ≡ length before
    → ((y : ℕ) → y < length before → (entry_at entries y).locks ≡ (if contains_item (take k items) y then released t (entry_at before y).locks else (entry_at before y).locks))
    → (y : ℕ) → y < length before → (entry_at (set entries id.0 new) y).locks ≡ (if contains_item (take (k + 1) items) y then released t (entry_at before y).locks else (entry_at before y).locks)
release_more entries before items k t id entry new in_items id_is in_rows row_is new_is len so_far y l =
    elim (cases_eq y id.0) [
      | inl e ↦
          let here : (entry_at entries id.0).locks ≡ (if contains_item (take k items) id.0 then released t (entry_at before id.0).locks else (entry_at before id.0).locks) = so_far id.0 (rw (← e) l) in
          ap (λ z. (entry_at (set entries id.0 new) z).locks) e
          ∙ (ap (λ (r : LockEntryModel). r.locks) (get_or-set_same entries id.0 new empty_entry in_rows)
          ∙ (new_is
          ∙ (ap (λ (r : LockEntryModel). released t r.locks) (read_entry entries id.0 entry in_rows row_is)
          ∙ (ap (released t) here
          ∙ (once (contains_item (take k items) id.0) (entry_at before id.0).locks
          ∙ (ap (λ z. released t (entry_at before z).locks) (sym e)
          ∙ ap (λ b. if b then released t (entry_at before y).locks else (entry_at before y).locks) (sym (longer y ∙ or_right (contains_item (take k items) y) (id.0 == y) (eq-eqb id.0 y (sym e))))))))))
      | inr ne ↦
          ap (λ (r : LockEntryModel). r.locks) (get_or-set_other entries id.0 y new empty_entry ne)
          ∙ (so_far y l ∙ ap (λ b. if b then released t (entry_at before y).locks else (entry_at before y).locks) (sym (longer y ∙ (ap (λ b. contains_item (take k items) y || b) (ne_eqb id.0 y (λ (f : id.0 ≡ y). ne (sym f))) ∙ or_false (contains_item (take k items) y)))))
    ]
  where
    longer : (z : ℕ) → contains_item (take (k + 1) items) z ≡ (contains_item (take k items) z || (id.0 == z))
    longer z = ap (λ is. contains_item is z) (take_more items k id in_items ∙ ap (λ i. take k items ++ i ∷ []) (sym id_is)) ∙ any_push (λ (i : ItemId). i.0 == z) (take k items) id

    once : (b : Bool) (l : ItemLocks) → released t (if b then released t l else l) ≡ released t l
    once true l = released_none t (released t l) (released_gone t l)
    once false l = refl
