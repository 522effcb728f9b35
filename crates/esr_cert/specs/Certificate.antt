-- A certificate of the least cost of a problem, and the first fault of one.
use Rattle.std.specs.Prelude.{◌≡◌, ℕ, ◌*◌, List, [], ◌∷◌, ◌++◌, length, Bool, true, false, not, ◌&&◌, ◌==◌, nat_lt, nat_le, if◌then◌else◌, Option, Some, None, Result, Ok, Err}
use Rattle.std.specs.List.{list_all, concat}
use Rattle.esr_cert.specs.Problem.{Chain, Problem, update_count, in_set, is_strictly_ascending, is_closed, cost}
use Rattle.esr_cert.specs.Network.{network}
use Rattle.esr_cert.specs.Flow.{are_within, is_conserved, worth}
use Rattle.esr_cert.specs.Faults.{Fault, SetNotAscending, UnknownUpdate, SetNotClosed, OverCapacity, NotConserved, WorthNotCost, TooManyAugmentations}

-- a closed set, a flow by groups of arcs, the worth of both, and optionally the number of augmentations
pub record Certificate : Type 0 where
  pub set : List ℕ
  pub chain_flow : List (List ℕ)
  pub back_flow : List ℕ
  pub must_flow : List ℕ
  pub worth : ℕ
  pub augmentations : Option ℕ

-- one amount for each arc, in the order of the arcs
abbrev pub amounts : Certificate → List ℕ
amounts c = concat c.chain_flow ++ c.back_flow ++ c.must_flow

-- ---- the tests, each the absence of one fault

abbrev pub is_set_in_range : Problem → List ℕ → Bool
is_set_in_range p set = list_all (λ u. nat_lt u (update_count p)) set

-- one row for each chain, of the same length as its costs
abbrev pub are_rows_matched : List Chain → List (List ℕ) → Bool
are_rows_matched [] [] = true
are_rows_matched [] (row ∷ rows) = false
are_rows_matched (chain ∷ chains) [] = false
are_rows_matched (chain ∷ chains) (row ∷ rows) = (length row == length chain.costs) && are_rows_matched chains rows

abbrev pub is_within : Problem → Certificate → Bool
is_within p c =
    are_rows_matched p.chains c.chain_flow && (length c.back_flow == length p.before)
    && (length c.must_flow == length p.must) && are_within (network p).arcs (amounts c)

-- the worth is the value of the flow and the cost of the set
abbrev pub worth_matches : Problem → Certificate → Bool
worth_matches p c = (c.worth == worth (network p) (amounts c)) && (c.worth == cost p (in_set c.set))

-- the number of augmentations, if present, is at most the number of nodes times the number of arcs
abbrev pub is_count_in_bound : Problem → Option ℕ → Bool
is_count_in_bound p None = true
is_count_in_bound p (Some count) = nat_le count ((network p).node_count * length (network p).arcs)

-- the first fault that applies
abbrev pub fault : Problem → Certificate → Option Fault
fault p c =
    if not (is_strictly_ascending c.set) then Some SetNotAscending else (
    if not (is_set_in_range p c.set) then Some UnknownUpdate else (
    if not (is_closed p (in_set c.set)) then Some SetNotClosed else (
    if not (is_within p c) then Some OverCapacity else (
    if not (is_conserved (network p) (amounts c)) then Some NotConserved else (
    if not (worth_matches p c) then Some WorthNotCost else (
    if not (is_count_in_bound p c.augmentations) then Some TooManyAugmentations else None))))))

abbrev pub Certifies : Problem → Certificate → Type 0
Certifies p c = fault p c ≡ None

abbrev pub or_fault : Option Fault → Result (Unit {0}) Fault
or_fault None = Ok tt
or_fault (Some f) = Err f
