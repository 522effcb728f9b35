-- A transaction has only locks that its kind takes.
use Rattle.std.proofs.Common.{◌≡◌, ℕ, ◌<◌, List, [], ◌∷◌, length, Bool, true, false, ◌&&◌, ◌||◌, ◌==◌, sym, ◌∙◌, ap, subst, refl, None, Some, if◌then◌else◌}
use Rattle.std.specs.List.{list_any, filter_map, cons_option}
use Rattle.std.proofs.lemmas.Bool.{false≢true, false_from_ne_true, ne_eqb, and_parts}
use Rattle.esr_core.specs.Types.{Versions}
use Rattle.esr_history.specs.declared.event.BeginKind.{BeginKind}
use Rattle.esr_history.specs.declared.event.BeginKind.TheVariants.{Query, Update}
use Rattle.esr_history.specs.Events.{is_query_kind, txn_numbers, is_query, is_update, holds_read, holds_write, read_count}
use Rattle.esr_history.specs.Machine.{DistanceFunction, Schedule, accepted_in}
use Rattle.esr_history.specs.ItemLocks.{ItemLocks, item_locks, query_reads}
use Rattle.esr_ledgers.specs.declared.account.Account.{Account}
use Rattle.esr_locks.specs.Tables.{locks_at, is_writer, is_reader, has_update_lock, has_query_lock, has_lock_unlike}
use Rattle.esr_core.specs.Represented.{Represents, Transaction}
use Rattle.esr_core.proofs.Held.{update_or_query}
use Rattle.esr_core.proofs.Locks.{locks_len, locks_at_item, writer_is, reader_is}

module _ (d : DistanceFunction) (h : Schedule) (items : List Versions) (table : List Transaction) (locks : List ItemLocks) (accounts : List Account) (rep : Represents (d h.weights) h.opening (accepted_in h) items table locks accounts) (t : ℕ) where
  no_query_lock : is_query (accepted_in h) t ≡ false → (x : ℕ) → has_query_lock (item_locks (accepted_in h) x) t ≡ false
  no_query_lock update x = each (txn_numbers (accepted_in h))
    where
      each : (us : List ℕ) → list_any (λ (r : ℕ × ℕ). r.0 == t) (filter_map (query_reads (accepted_in h) x) us) ≡ false
      each [] = refl
      each (u ∷ us) = at (is_query (accepted_in h) u && holds_read (accepted_in h) u x) refl (each us)
        where
          other : (is_query (accepted_in h) u && holds_read (accepted_in h) u x) ≡ true → u ≡ t → ⊥
          other is e = false≢true (sym update ∙ (ap (is_query (accepted_in h)) (sym e) ∙ (and_parts (is_query (accepted_in h) u) (holds_read (accepted_in h) u x) is).0))

          at : (b : Bool) → (is_query (accepted_in h) u && holds_read (accepted_in h) u x) ≡ b → list_any (λ (r : ℕ × ℕ). r.0 == t) (filter_map (query_reads (accepted_in h) x) us) ≡ false
              → list_any (λ (r : ℕ × ℕ). r.0 == t) (cons_option (if b then Some (u, read_count (accepted_in h) u x) else None) (filter_map (query_reads (accepted_in h) x) us)) ≡ false
          at true is later = rw (ne_eqb u t (other is)) later
          at false is later = later

  no_update_lock : is_query (accepted_in h) t ≡ true → (x : ℕ) → has_update_lock (item_locks (accepted_in h) x) t ≡ false
  no_update_lock query x =
      let no : is_update (accepted_in h) t ≡ false = false_from_ne_true (is_update (accepted_in h) t) (λ u. false≢true (sym (update_or_query (accepted_in h) t u) ∙ query)) in
      let wrote : is_writer (item_locks (accepted_in h) x) t ≡ false = writer_is (accepted_in h) rep.orderly x t ∙ ap (λ b. b && holds_write (accepted_in h) t x) no in
      let read : is_reader (item_locks (accepted_in h) x) t ≡ false = reader_is (accepted_in h) rep.orderly x t ∙ ap (λ b. b && holds_read (accepted_in h) t x) no in
      ap (λ b. b || is_reader (item_locks (accepted_in h) x) t) wrote ∙ read

  pub no_lock_unlike : (kind : BeginKind) → is_query_kind kind ≡ is_query (accepted_in h) t → (x : ℕ) → x < length locks → has_lock_unlike kind (locks_at locks x) t ≡ false
  no_lock_unlike kind is x l =
      subst (λ (g : ItemLocks). has_lock_unlike kind g t ≡ false)
      (sym (ap (λ (ls : List ItemLocks). locks_at ls x) rep.locked ∙ locks_at_item (accepted_in h) (length h.opening) x (subst (λ n. x < n) (ap length rep.locked ∙ locks_len (accepted_in h) (length h.opening)) l)))
      (of_kind kind is)
    where
      of_kind : (k : BeginKind) → is_query_kind k ≡ is_query (accepted_in h) t → has_lock_unlike k (item_locks (accepted_in h) x) t ≡ false
      of_kind Query query = no_update_lock (sym query) x
      of_kind Update update = no_query_lock (sym update) x
