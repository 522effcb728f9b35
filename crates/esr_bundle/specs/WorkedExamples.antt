-- Examples of bundle trees and their meanings.
use Rattle.std.specs.Prelude.{◌≡◌, [], ◌∷◌, Some, None, Ok, Err, refl}
use Rattle.serde_json.specs.Data.{object, no_members, array, no_items}
use Rattle.esr_cert.specs.Problem.{Problem}
use Rattle.esr_cert.specs.Certificate.{Certificate}
use Rattle.esr_cert.specs.declared.problem.BundleFault.TheVariants.{Shape, Range}
use Rattle.esr_bundle.specs.Bundle.{bundle_data, problem_in}

abbrev two_updates : Problem
two_updates =
    record {
      updates = 2 ∷ 3 ∷ [];
      before = (0, 1) ∷ [];
      chains = record { item = 0; writers = 0 ∷ 1 ∷ []; costs = 0 ∷ 10 ∷ 1 ∷ [] }
          ∷ record { item = 1; writers = 1 ∷ []; costs = 8 ∷ 0 ∷ [] } ∷ [];
      must = [];
    }

abbrev after_both : Certificate
after_both =
    record {
      set = 0 ∷ 1 ∷ [];
      chain_flow = (0 ∷ 0 ∷ 1 ∷ []) ∷ (1 ∷ 0 ∷ []) ∷ [];
      back_flow = 0 ∷ [];
      must_flow = [];
      worth = 1;
      augmentations = None;
    }

abbrev strict : Problem
strict =
    record {
      updates = 1 ∷ [];
      before = [];
      chains = record { item = 0; writers = 0 ∷ []; costs = 0 ∷ 5 ∷ [] } ∷ [];
      must = 0 ∷ [];
    }

abbrev held : Certificate
held =
    record {
      set = 0 ∷ [];
      chain_flow = (0 ∷ 5 ∷ []) ∷ [];
      back_flow = [];
      must_flow = 5 ∷ [];
      worth = 5;
      augmentations = Some 12;
    }

a_bundle : problem_in (bundle_data two_updates after_both) ≡ Ok (two_updates, after_both)
a_bundle = refl

optional_keys : problem_in (bundle_data strict held) ≡ Ok (strict, held)
optional_keys = refl

no_keys : problem_in (object no_members) ≡ Err Shape
no_keys = refl

no_object : problem_in (array no_items) ≡ Err Shape
no_object = refl

-- neighbours of a chain that are not a pair
no_pair : problem_in (bundle_data (record two_updates { before = [] }) after_both) ≡ Err Shape
no_pair = refl

no_transaction : problem_in (bundle_data (record two_updates { updates = 2 ∷ 0 ∷ [] }) after_both) ≡ Err Range
no_transaction = refl

-- shape precedes range
both_broken : problem_in (bundle_data (record two_updates { before = []; updates = 2 ∷ 0 ∷ [] }) after_both) ≡ Err Shape
both_broken = refl

large_position : problem_in (bundle_data two_updates (record after_both { set = 4294967296 ∷ [] })) ≡ Err Range
large_position = refl
