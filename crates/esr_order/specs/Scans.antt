-- The contents of accepted entries of a log.
use Rattle.std.specs.Prelude.{◌≡◌, ℕ, List, [], ◌∷◌, Bool, true, false, ◌==◌, Option, None, Some, Contains, is_some, filter, map, nat_lt, slice_get, if◌then◌else◌, option_map}
use Rattle.esr_base.specs.declared.numbers.TxnId.{TxnId}
use Rattle.esr_history.specs.declared.event.Event.{Event}
use Rattle.esr_history.specs.declared.event.Event.TheVariants.{Commit}
use Rattle.esr_history.specs.declared.event.Entry.{Entry}
use Rattle.esr_history.specs.Events.{is_refusal, is_begun}
use Rattle.esr_history.specs.declared.back_links.Facts.{Facts}
use Rattle.esr_history.specs.BackLinks.{ended_txn, last_place, facts_of}
use Rattle.esr_history.specs.Machine.{Schedule, accepted_in}
use Rattle.esr_history.specs.Operations.{Operation, operation_of, operations_in}
pub use Rattle.esr_order.specs.declared.accesses.Access.{Access}

abbrev pub if_accepted : {Y : Type 0} → (Entry → Option Y) → Entry → Option Y
if_accepted f e = if is_refusal e.reply then None else f e

-- the transaction that commits in an entry, if that is accepted
abbrev pub commit_by : Event → Option TxnId
commit_by (Commit t) = Some t
commit_by _ = None

abbrev pub commit_in : Entry → Option TxnId
commit_in e = if_accepted (λ n. commit_by n.event) e

-- whether the entry at a place, if there is one, is an accepted commit
abbrev pub commits_in : Option Entry → Bool
commits_in None = false
commits_in (Some e) = is_some (commit_in e)

abbrev pub is_commit_at : List Entry → Option ℕ → Bool
is_commit_at es None = false
is_commit_at es (Some i) = commits_in (slice_get es i)

-- the place of an end, if there is one
abbrev pub end_in : Option ℕ → List ℕ
end_in None = []
end_in (Some p) = p ∷ []

-- the places at which transactions ended
pub record AreEnds (h : Schedule) (ends : List ℕ) : Type 0 where
  pub all : (t p : ℕ) → is_begun (accepted_in h) t ≡ true → last_place ended_txn t h.entries ≡ Some p → Contains ends p
  pub only : (p : ℕ) → Contains ends p → (t : ℕ) × (last_place ended_txn t h.entries ≡ Some p)

-- whether transaction t ended before a place
abbrev pub is_end_before : Option ℕ → ℕ → Bool
is_end_before None place = false
is_end_before (Some p) place = nat_lt p place

abbrev pub is_ended_before : Option Facts → ℕ → Bool
is_ended_before None place = false
is_ended_before (Some f) place = is_end_before f.end place

abbrev pub has_ended_before : Schedule → ℕ → ℕ → Bool
has_ended_before h t place = is_ended_before (facts_of h.entries t) place

-- the access of an operation
abbrev pub access_of : Operation → Access
access_of o = record { item = record { 0 = o.item }; writes = o.writes; value = o.value }

abbrev pub access_in : Entry → Option Access
access_in e = if_accepted (λ n. option_map access_of (operation_of n)) e

-- the access of an entry, if there is one and it is an accepted read or write
abbrev pub access_by : Option Entry → Option Access
access_by None = None
access_by (Some e) = access_in e

abbrev pub access_at : List Entry → ℕ → Option Access
access_at es i = access_by (slice_get es i)

-- the reads and writes of t, in order
abbrev pub accesses_in : List Entry → ℕ → List Access
accesses_in entries t = map access_of (filter (λ o. o.txn == t) (operations_in entries))
