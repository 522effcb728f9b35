-- The tree of a bundle: it has no float, its depth is small, and its meaning is its problem and certificate.
use Rattle.std.proofs.Common.{◌≡◌, ℕ, ◌≤◌, max, List, [], ◌∷◌, true, false, Option, Some, None, Ok, map, refl, ap, ◌∙◌, arith, codes}
use Rattle.std.specs.List.{list_all}
use Rattle.serde_json.specs.Data.{Data, Members, no_members, member, depth, items_depth, members_depth}
use Rattle.serde_json.specs.View.{items_of}
use Rattle.serde_json.specs.Written.{has_float, items_have_float, members_have_float}
use Rattle.esr_cert.specs.Problem.{Chain, Problem}
use Rattle.esr_cert.specs.Certificate.{Certificate}
use Rattle.esr_cert.specs.Faults.{problem_fault}
use Rattle.esr_bundle.specs.Fields.{as_natural, each, as_naturals, pair_of}
use Rattle.esr_bundle.specs.Bundle.{number_data, numbers_data, pair_data, rows_data, chain_data, list_member, number_member, problem_data, certificate_data, bundle_data, chain_of, problem_of, certificate_of, parts_of, problem_in, judged_parts, is_position}
use Rattle.esr_bundle.proofs.Judged.{judged_ok}

-- ---- its meaning is its problem and certificate

each_of : {A : Type 0} (f : Data → Option A) (g : A → Data) → ((a : A) → f (g a) ≡ Some a) → (xs : List A) → each f (items_of (map g xs)) ≡ Some xs
each_of f g h [] = refl
each_of f g h (x ∷ xs) = rw (h x, each_of f g h xs) refl

numbers_back : (ns : List ℕ) → as_naturals (numbers_data ns) ≡ Some ns
numbers_back ns = each_of as_natural number_data (λ n. refl) ns

chain_back : (chain : Chain) → chain_of (chain_data chain) ≡ Some chain
chain_back chain = rw (numbers_back chain.costs, numbers_back chain.writers) refl

problem_back : (p : Problem) → problem_of (problem_data p) ≡ Some p
problem_back p = go p.must
  where
    go : (must : List ℕ) → problem_of (problem_data (record p { must = must })) ≡ Some (record p { must = must })
    go [] = rw (each_of pair_of pair_data (λ e. refl) p.before, each_of chain_of chain_data chain_back p.chains, numbers_back p.updates) refl
    go (u ∷ us) = rw (each_of pair_of pair_data (λ e. refl) p.before, each_of chain_of chain_data chain_back p.chains, numbers_back (u ∷ us), numbers_back p.updates) refl

certificate_back : (c : Certificate) → certificate_of (certificate_data c) ≡ Some c
certificate_back c = go c.augmentations c.must_flow
  where
    rows : each as_naturals (items_of (map numbers_data c.chain_flow)) ≡ Some c.chain_flow
    rows = each_of as_naturals numbers_data numbers_back c.chain_flow

    go : (a : Option ℕ) (m : List ℕ) → certificate_of (certificate_data (record c { augmentations = a; must_flow = m })) ≡ Some (record c { augmentations = a; must_flow = m })
    go None [] = rw (numbers_back c.back_flow, rows, numbers_back c.set) refl
    go None (u ∷ us) = rw (numbers_back c.back_flow, rows, numbers_back (u ∷ us), numbers_back c.set) refl
    go (Some n) [] = rw (numbers_back c.back_flow, rows, numbers_back c.set) refl
    go (Some n) (u ∷ us) = rw (numbers_back c.back_flow, rows, numbers_back (u ∷ us), numbers_back c.set) refl

parts_back : (p : Problem) (c : Certificate) → parts_of (bundle_data p c) ≡ Some (p, c)
parts_back p c = rw (certificate_back c, problem_back p) refl

pub problem_round_trip : (p : Problem) (c : Certificate) → problem_fault p ≡ None → list_all is_position c.set ≡ true → problem_in (bundle_data p c) ≡ Ok (p, c)
problem_round_trip p c sound set = ap judged_parts (parts_back p c) ∙ judged_ok p c sound set

-- ---- it has no float

plain_items : {A : Type 0} (g : A → Data) → ((a : A) → has_float (g a) ≡ false) → (xs : List A) → items_have_float (items_of (map g xs)) ≡ false
plain_items g h [] = refl
plain_items g h (x ∷ xs) = rw (h x, plain_items g h xs) refl

plain_numbers : (ns : List ℕ) → has_float (numbers_data ns) ≡ false
plain_numbers ns = plain_items number_data (λ n. refl) ns

plain_chain : (chain : Chain) → has_float (chain_data chain) ≡ false
plain_chain chain = rw (plain_numbers chain.costs, plain_numbers chain.writers) refl

plain_list : (key ns : List ℕ) (rest : Members) → members_have_float (list_member key ns rest) ≡ members_have_float rest
plain_list key [] rest = refl
plain_list key (n ∷ ns) rest = rw (plain_numbers (n ∷ ns)) refl

plain_number : (key : List ℕ) (n : Option ℕ) (rest : Members) → members_have_float (number_member key n rest) ≡ members_have_float rest
plain_number key None rest = refl
plain_number key (Some n) rest = refl

plain_problem : (p : Problem) → has_float (problem_data p) ≡ false
plain_problem p = rw (plain_items pair_data (λ e. refl) p.before, plain_items chain_data plain_chain p.chains, plain_list _ p.must _, plain_numbers p.updates) refl

plain_certificate : (c : Certificate) → has_float (certificate_data c) ≡ false
plain_certificate c = rw (plain_number _ c.augmentations _, plain_numbers c.back_flow, plain_items numbers_data plain_numbers c.chain_flow, plain_list _ c.must_flow _, plain_numbers c.set) refl

pub plain_bundle : (p : Problem) (c : Certificate) → has_float (bundle_data p c) ≡ false
plain_bundle p c = rw (plain_certificate c, plain_problem p) refl

-- ---- it is not deep

shallow_items : {A : Type 0} (g : A → Data) (n : ℕ) → ((a : A) → depth (g a) ≤ n) → (xs : List A) → items_depth (items_of (map g xs)) ≤ n
shallow_items g n h [] = omega arith
shallow_items g n h (x ∷ xs) = omega (arith, h x, shallow_items g n h xs)

shallow_numbers : (ns : List ℕ) → depth (numbers_data ns) ≤ 1
shallow_numbers ns = omega (arith, shallow_items number_data 0 (λ n. omega arith) ns)

shallow_chain : (chain : Chain) → depth (chain_data chain) ≤ 2
shallow_chain chain = omega (arith, shallow_numbers chain.costs, shallow_numbers chain.writers)

shallow_list : (key ns : List ℕ) (rest : Members) → members_depth (list_member key ns rest) ≤ max 1 (members_depth rest)
shallow_list key [] rest = omega arith
shallow_list key (n ∷ ns) rest = omega (arith, shallow_numbers (n ∷ ns))

shallow_number : (key : List ℕ) (n : Option ℕ) (rest : Members) → members_depth (number_member key n rest) ≤ members_depth rest
shallow_number key None rest = omega arith
shallow_number key (Some n) rest = omega arith

shallow_problem : (p : Problem) → depth (problem_data p) ≤ 4
shallow_problem p =
    omega (arith, shallow_items pair_data 1 (λ e. omega arith) p.before, shallow_items chain_data 2 shallow_chain p.chains, shallow_list (codes "must") p.must (member (codes "updates") (numbers_data p.updates) no_members), shallow_numbers p.updates)

shallow_certificate : (c : Certificate) → depth (certificate_data c) ≤ 3
shallow_certificate c =
    let set : Members = member (codes "set") (numbers_data c.set) (member (codes "worth") (number_data c.worth) no_members) in
    let flow : Members = member (codes "back_flow") (numbers_data c.back_flow) (member (codes "chain_flow") (rows_data c.chain_flow) (list_member (codes "must_flow") c.must_flow set)) in
    omega (arith, shallow_number (codes "augmentations") c.augmentations flow, shallow_numbers c.back_flow, shallow_items numbers_data 1 shallow_numbers c.chain_flow, shallow_list (codes "must_flow") c.must_flow set, shallow_numbers c.set)

pub shallow_bundle : (p : Problem) (c : Certificate) → depth (bundle_data p c) ≤ 127
shallow_bundle p c = omega (arith, shallow_certificate c, shallow_problem p)
