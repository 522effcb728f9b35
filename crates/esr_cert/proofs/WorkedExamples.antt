-- Problems and certificates, worked by hand.
use Rattle.std.proofs.Common.{◌≡◌, [], ◌∷◌, length, true, false, Some, None, refl}
use Rattle.esr_cert.specs.Problem.{Problem, in_set, is_closed, cost, has_valid_shape, is_in_range, is_well_formed}
use Rattle.esr_cert.specs.Network.{network}
use Rattle.esr_cert.specs.Flow.{inflow, outflow, worth}
use Rattle.esr_cert.specs.Cut.{with_source, cut_capacity}
use Rattle.esr_cert.specs.Certificate.{Certificate, amounts, fault}
use Rattle.esr_cert.specs.Adjacency.{row_of}
use Rattle.esr_cert.specs.ChainStarts.{chain_starts_from}
use Rattle.esr_cert.specs.FlowConservation.{is_balanced}
use Rattle.esr_cert.specs.ResidualArcs.{Forward, Backward}
use Rattle.esr_cert.specs.Faults.{SetNotAscending, UnknownUpdate, SetNotClosed, OverCapacity, NotConserved, WorthNotCost, TooManyAugmentations}

-- two updates in a row, and two items that a query read: the second wrote both, the first one of them
abbrev report : Problem
report = record {
  updates = 2 ∷ 3 ∷ [];
  before = (0, 1) ∷ [];
  chains = record { item = 0; writers = 0 ∷ 1 ∷ []; costs = 0 ∷ 10 ∷ 1 ∷ [] } ∷ record { item = 1; writers = 1 ∷ []; costs = 8 ∷ 0 ∷ [] } ∷ [];
  must = [];
}

abbrev after_both : Certificate
after_both = record { set = 0 ∷ 1 ∷ []; chain_flow = (0 ∷ 0 ∷ 1 ∷ []) ∷ (1 ∷ 0 ∷ []) ∷ []; back_flow = 0 ∷ []; must_flow = []; worth = 1; augmentations = None }

report_is_sound : is_well_formed report ≡ true
report_is_sound = refl

cost_before_both : cost report (in_set []) ≡ 8
cost_before_both = refl

cost_between : cost report (in_set (0 ∷ [])) ≡ 18
cost_between = refl

cost_after_both : cost report (in_set (0 ∷ 1 ∷ [])) ≡ 1
cost_after_both = refl

second_alone_is_not_closed : is_closed report (in_set (1 ∷ [])) ≡ false
second_alone_is_not_closed = refl

-- the capacity of the cut of a closed set is its cost
capacity_between : cut_capacity (with_source 2 (in_set (0 ∷ []))) (network report).arcs ≡ 18
capacity_between = refl

six_arcs : length (network report).arcs ≡ 6
six_arcs = refl

three_arcs_and_two : chain_starts_from 0 report.chains ≡ 0 ∷ 3 ∷ 5 ∷ []
three_arcs_and_two = refl

worth_of_one : worth (network report) (amounts after_both) ≡ 1
worth_of_one = refl

in_at_the_second : inflow (network report).arcs (amounts after_both) 1 ≡ 1
in_at_the_second = refl

out_at_the_second : outflow (network report).arcs (amounts after_both) 1 ≡ 1
out_at_the_second = refl

-- the second update is a writer of each item, and the second of the pair
five_steps : row_of (network report).arcs 1 ≡ Backward 1 ∷ Forward 2 ∷ Backward 3 ∷ Forward 4 ∷ Forward 5 ∷ []
five_steps = refl

second_is_balanced : is_balanced (amounts after_both) (row_of (network report).arcs 1) ≡ true
second_is_balanced = refl

second_with_more_out : is_balanced (amounts (record after_both { back_flow = 1 ∷ [] })) (row_of (network report).arcs 1) ≡ false
second_with_more_out = refl

report_certified : fault report after_both ≡ None
report_certified = refl

set_descends : fault report (record after_both { set = 1 ∷ 0 ∷ [] }) ≡ Some SetNotAscending
set_descends = refl

no_third_update : fault report (record after_both { set = 0 ∷ 2 ∷ [] }) ≡ Some UnknownUpdate
no_third_update = refl

first_is_lacking : fault report (record after_both { set = 1 ∷ [] }) ≡ Some SetNotClosed
first_is_lacking = refl

above_its_cost : fault report (record after_both { chain_flow = (0 ∷ 0 ∷ 2 ∷ []) ∷ (1 ∷ 0 ∷ []) ∷ [] }) ≡ Some OverCapacity
above_its_cost = refl

no_amount_for_the_pair : fault report (record after_both { back_flow = [] }) ≡ Some OverCapacity
no_amount_for_the_pair = refl

-- as many amounts in all, and the wrong number for each chain
rows_of_wrong_lengths : fault report (record after_both { chain_flow = (0 ∷ 0 ∷ []) ∷ (1 ∷ 1 ∷ 0 ∷ []) ∷ [] }) ≡ Some OverCapacity
rows_of_wrong_lengths = refl

lost_at_the_second : fault report (record after_both { chain_flow = (0 ∷ 0 ∷ 0 ∷ []) ∷ (1 ∷ 0 ∷ []) ∷ [] }) ≡ Some NotConserved
lost_at_the_second = refl

made_by_the_pair : fault report (record after_both { back_flow = 1 ∷ [] }) ≡ Some NotConserved
made_by_the_pair = refl

worth_of_none : fault report (record after_both { worth = 0 }) ≡ Some WorthNotCost
worth_of_none = refl

other_set : fault report (record after_both { set = [] }) ≡ Some WorthNotCost
other_set = refl

pair_is_lacking : has_valid_shape (record report { before = [] }) ≡ false
pair_is_lacking = refl

number_is_zero : is_in_range (record report { updates = 2 ∷ 0 ∷ [] }) ≡ false
number_is_zero = refl

zero_has_shape : has_valid_shape (record report { updates = 2 ∷ 0 ∷ [] }) ≡ true
zero_has_shape = refl

cost_too_large : is_in_range (record report { chains = record { item = 0; writers = 0 ∷ 1 ∷ []; costs = 0 ∷ 10 ∷ 1 ∷ [] } ∷ record { item = 1; writers = 1 ∷ []; costs = 2000000000000000001 ∷ 0 ∷ [] } ∷ [] }) ≡ false
cost_too_large = refl

-- a flow from the second update over the pair back to the first
abbrev smaller_of_two : Problem
smaller_of_two = record {
  updates = 2 ∷ 3 ∷ [];
  before = (0, 1) ∷ [];
  chains = record { item = 0; writers = 0 ∷ []; costs = 0 ∷ 6 ∷ [] } ∷ record { item = 1; writers = 1 ∷ []; costs = 2 ∷ 0 ∷ [] } ∷ [];
  must = [];
}

abbrev before_all : Certificate
before_all = record { set = []; chain_flow = (0 ∷ 2 ∷ []) ∷ (2 ∷ 0 ∷ []) ∷ []; back_flow = 2 ∷ []; must_flow = []; worth = 2; augmentations = None }

smaller_certified : fault smaller_of_two before_all ≡ None
smaller_certified = refl

-- four nodes and five arcs
twenty_augmentations : fault smaller_of_two (record before_all { augmentations = Some 20 }) ≡ None
twenty_augmentations = refl

too_many_augmentations : fault smaller_of_two (record before_all { augmentations = Some 21 }) ≡ Some TooManyAugmentations
too_many_augmentations = refl

-- the count is checked last
worth_is_first : fault smaller_of_two (record before_all { worth = 3; augmentations = Some 21 }) ≡ Some WorthNotCost
worth_is_first = refl

abbrev nothing : Problem
nothing = record { updates = []; before = []; chains = []; must = [] }

abbrev of_nothing : Certificate
of_nothing = record { set = []; chain_flow = []; back_flow = []; must_flow = []; worth = 0; augmentations = None }

nothing_certified : fault nothing of_nothing ≡ None
nothing_certified = refl

nothing_takes_none : fault nothing (record of_nothing { augmentations = Some 0 }) ≡ None
nothing_takes_none = refl

nothing_takes_one : fault nothing (record of_nothing { augmentations = Some 1 }) ≡ Some TooManyAugmentations
nothing_takes_one = refl

-- an item that no update wrote
no_writer : fault (record nothing { chains = record { item = 0; writers = []; costs = 4 ∷ [] } ∷ [] }) (record of_nothing { chain_flow = (4 ∷ []) ∷ []; worth = 4 }) ≡ None
no_writer = refl

-- a query that must be after its update
abbrev strict : Problem
strict = record { updates = 1 ∷ []; before = []; chains = record { item = 0; writers = 0 ∷ []; costs = 0 ∷ 5 ∷ [] } ∷ []; must = 0 ∷ [] }

abbrev after_one : Certificate
after_one = record { set = 0 ∷ []; chain_flow = (0 ∷ 5 ∷ []) ∷ []; back_flow = []; must_flow = 5 ∷ []; worth = 5; augmentations = None }

strict_certified : fault strict after_one ≡ None
strict_certified = refl

must_is_lacking : fault strict (record after_one { set = [] }) ≡ Some SetNotClosed
must_is_lacking = refl

no_amount_for_must : fault strict (record after_one { must_flow = [] }) ≡ Some OverCapacity
no_amount_for_must = refl

less_for_must : fault strict (record after_one { must_flow = 4 ∷ [] }) ≡ Some NotConserved
less_for_must = refl

worth_of_four : fault strict (record after_one { worth = 4 }) ≡ Some WorthNotCost
worth_of_four = refl

no_second_update : is_in_range (record strict { must = 1 ∷ [] }) ≡ false
no_second_update = refl
