-- Bundles: the JSON tree of a problem with its certificate, its text, and the meaning of a tree.
use Rattle.std.specs.Prelude.{ℕ, ◌+◌, List, [], ◌∷◌, map, Bool, ◌&&◌, nat_le, codes, if◌then◌else◌, Option, Some, None, option_and_then, Result, Ok, Err}
use Rattle.std.specs.List.{list_all}
use Rattle.serde_json.specs.Data.{Data, number, unsigned, array, object, Members, no_members, member}
use Rattle.serde_json.specs.View.{items_of}
use Rattle.serde_json.specs.Find.{get}
use Rattle.serde_json.specs.Written.{compact_text}
use Rattle.esr_cert.specs.Problem.{Chain, Problem}
use Rattle.esr_cert.specs.Certificate.{Certificate}
use Rattle.esr_cert.specs.Faults.{problem_fault}
use Rattle.esr_cert.specs.declared.problem.BundleFault.{BundleFault}
use Rattle.esr_cert.specs.declared.problem.BundleFault.TheVariants.{Shape, Range}
use Rattle.esr_bundle.specs.Fields.{as_natural, as_naturals, pairs_of, rows_of, list_of, has_n_keys, present_count, field, optional_numbers, optional_number}

-- ---- the tree that is written

abbrev pub number_data : ℕ → Data
number_data n = number (unsigned n)

abbrev pub numbers_data : List ℕ → Data
numbers_data ns = array (items_of (map number_data ns))

abbrev pub pair_data : ℕ × ℕ → Data
pair_data e = numbers_data (e.0 ∷ e.1 ∷ [])

abbrev pub pairs_data : List (ℕ × ℕ) → Data
pairs_data es = array (items_of (map pair_data es))

abbrev pub rows_data : List (List ℕ) → Data
rows_data rows = array (items_of (map numbers_data rows))

abbrev pub chain_data : Chain → Data
chain_data chain = object (
    member (codes "costs") (numbers_data chain.costs) (
    member (codes "item") (number_data chain.item) (
    member (codes "writers") (numbers_data chain.writers) no_members)))

abbrev pub chains_data : List Chain → Data
chains_data chains = array (items_of (map chain_data chains))

-- an empty list or a missing number is not written; the others are, by the function that adds a member to the rest
abbrev pub list_by : (List ℕ → Data → Members → Members) → List ℕ → List Data → Members → Members
list_by join key [] rest = rest
list_by join key (d ∷ ds) rest = join key (array (items_of (d ∷ ds))) rest

abbrev pub number_by : (List ℕ → Data → Members → Members) → List ℕ → Option ℕ → Members → Members
number_by join key None rest = rest
number_by join key (Some n) rest = join key (number_data n) rest

abbrev pub list_member : List ℕ → List ℕ → Members → Members
list_member key ns rest = list_by member key (map number_data ns) rest

abbrev pub number_member : List ℕ → Option ℕ → Members → Members
number_member key n rest = number_by member key n rest

abbrev pub problem_data : Problem → Data
problem_data p = object (
    member (codes "before") (pairs_data p.before) (
    member (codes "chains") (chains_data p.chains) (
    list_member (codes "must") p.must (
    member (codes "updates") (numbers_data p.updates) no_members))))

abbrev pub certificate_data : Certificate → Data
certificate_data c = object (
    number_member (codes "augmentations") c.augmentations (
    member (codes "back_flow") (numbers_data c.back_flow) (
    member (codes "chain_flow") (rows_data c.chain_flow) (
    list_member (codes "must_flow") c.must_flow (
    member (codes "set") (numbers_data c.set) (
    member (codes "worth") (number_data c.worth) no_members))))))

abbrev pub bundle_data : Problem → Certificate → Data
bundle_data p c = object (
    member (codes "certificate") (certificate_data c) (
    member (codes "problem") (problem_data p) no_members))

-- the compact text, with keys ascending
abbrev pub bundle : Problem → Certificate → List ℕ
bundle p c = compact_text (bundle_data p c)

-- ---- the meaning of a tree

infixl 10 ◌>>=◌
abbrev pub ◌>>=◌ : {A B : Type 0} → Option A → (A → Option B) → Option B
o >>= f = option_and_then f o

abbrev pub chain_of : Data → Option Chain
chain_of d = if has_n_keys 3 d then (do
  costs ← field as_naturals (codes "costs") d
  item ← field as_natural (codes "item") d
  writers ← field as_naturals (codes "writers") d
  Some (record { item = item; writers = writers; costs = costs })) else None

abbrev pub problem_of : Data → Option Problem
problem_of d = if has_n_keys (3 + present_count (get (codes "must") d)) d then (do
  before ← field pairs_of (codes "before") d
  chains ← field (list_of chain_of) (codes "chains") d
  must ← optional_numbers (get (codes "must") d)
  updates ← field as_naturals (codes "updates") d
  Some (record { updates = updates; before = before; chains = chains; must = must })) else None

abbrev pub certificate_of : Data → Option Certificate
certificate_of d =
    if has_n_keys (4 + present_count (get (codes "augmentations") d) + present_count (get (codes "must_flow") d)) d then (do
      augmentations ← optional_number (get (codes "augmentations") d)
      back_flow ← field as_naturals (codes "back_flow") d
      chain_flow ← field rows_of (codes "chain_flow") d
      must_flow ← optional_numbers (get (codes "must_flow") d)
      set ← field as_naturals (codes "set") d
      worth ← field as_natural (codes "worth") d
      Some (record {
        set = set;
        chain_flow = chain_flow;
        back_flow = back_flow;
        must_flow = must_flow;
        worth = worth;
        augmentations = augmentations;
      })) else None

-- the numbers of a bundle that has all its keys, no others, and values of the right kinds
abbrev pub parts_of : Data → Option (Problem × Certificate)
parts_of d = if has_n_keys 2 d then (do
  c ← field certificate_of (codes "certificate") d
  p ← field problem_of (codes "problem") d
  Some (p, c)) else None

abbrev pub is_position : ℕ → Bool
is_position n = nat_le n 4294967295

abbrev pub is_pair_of_positions : ℕ × ℕ → Bool
is_pair_of_positions e = is_position e.0 && is_position e.1

abbrev pub is_chain_of_positions : Chain → Bool
is_chain_of_positions chain = is_position chain.item && list_all is_position chain.writers

-- the meaning of numbers if the problem has this fault
abbrev pub judged_with : Option BundleFault → Problem × Certificate → Result (Problem × Certificate) BundleFault
judged_with (Some fault) b = Err fault
judged_with None b = if list_all is_position b.1.set then Ok b else Err Range

-- the meaning of numbers: shape precedes range, over the whole bundle, and a certificate has no rule of shape
abbrev pub judged : Problem × Certificate → Result (Problem × Certificate) BundleFault
judged b = judged_with (problem_fault b.0) b

abbrev pub judged_parts : Option (Problem × Certificate) → Result (Problem × Certificate) BundleFault
judged_parts None = Err Shape
judged_parts (Some b) = judged b

-- the meaning of a tree
abbrev pub problem_in : Data → Result (Problem × Certificate) BundleFault
problem_in d = judged_parts (parts_of d)
