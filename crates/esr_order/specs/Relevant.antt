-- The updates of a query that can affect its reads.
use Rattle.std.specs.Prelude.{◌≡◌, ◌↔◌, ◌⊎◌, ℕ, Bool, IsTrue, List, [], ◌∷◌, Contains, filter}
use Rattle.std.specs.List.{list_any}
use Rattle.esr_history.specs.Events.{writes}
use Rattle.esr_history.specs.Machine.{Schedule, accepted_in}
use Rattle.esr_history.specs.Serial.{is_before}
use Rattle.esr_history.specs.Queries.{updates_committed_before, must, reads_by}
use Rattle.esr_order.specs.Placements.{is_among}

-- whether u wrote item x
abbrev pub has_written : Schedule → ℕ → ℕ → Bool
has_written h x u = list_any (writes u x) (accepted_in h)

-- whether u wrote an item that q read
abbrev pub has_written_read : Schedule → ℕ → ℕ → Bool
has_written_read h q u = list_any (λ o. has_written h o.item u) (reads_by h q)

-- a chain of conflicts among the updates of q leads from u by these to v
abbrev pub IsConflictPath : Schedule → ℕ → ℕ → List ℕ → ℕ → Type 0
IsConflictPath h q u [] v = IsTrue (is_before h u v)
IsConflictPath h q u (w ∷ row) v = Contains (updates_committed_before h q) w × IsTrue (is_before h u w) × IsConflictPath h q w row v

-- u wrote an item that q read, or a chain of conflicts leads from u to an update of q that did, or u is mandatory
abbrev pub IsRelevant : Schedule → ℕ → ℕ → Type 0
IsRelevant h q u =
    IsTrue (has_written_read h q u)
    ⊎ (((row : List ℕ) × (v : ℕ) × Contains (updates_committed_before h q) v × IsTrue (has_written_read h q v) × IsConflictPath h q u row v)
    ⊎ Contains (must h q) u)

-- the relevant updates of q, in commit order
pub record AreRelevant (h : Schedule) (q : ℕ) (us : List ℕ) : Type 0 where
  pub in_order : us ≡ filter (is_among us) (updates_committed_before h q)
  pub relevant : (u : ℕ) → Contains us u ↔ (Contains (updates_committed_before h q) u × IsRelevant h q u)
