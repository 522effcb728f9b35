use Rattle.std.proofs.Common.{arith, ◌≡◌, ℕ, ◌+◌, ◌-◌, true, List, length, take, drop, sum_by, sym, ◌∙◌, ap, length-take, length-drop}
use Rattle.std.specs.List.{concat}
use Rattle.std.proofs.lemmas.List.{length-map}
use Rattle.esr_cert.specs.declared.problem.Chain as code
use Rattle.esr_cert.specs.Problem.{Chain, update_count}
use Rattle.esr_cert.specs.Certificate.{are_rows_matched}
use Rattle.esr_cert.specs.Views.{rows_of, certificate_of}
use Rattle.esr_cert.proofs.Sound.{facts}
use Rattle.esr_flow.specs.Search.{is_marked}
use Rattle.esr_flow.specs.Members.{members_below}
use Rattle.esr_flow.proofs.CertificateLaws.{flow_length, costs_mapped, whole, Parts, least_set, certified}
use Rattle.esr_flow.proofs.solver.certify.Goals as goal
use Rattle.esr_flow.proofs.solver.certify.Goals.{After-drop-flow-2}

pub overflow_sub-pairs_end : goal.overflow_sub-pairs_end
overflow_sub-pairs_end c =
    let p = c.args.problem.now in
    omega (arith, flow_length p (facts p c.must-musts.ensures.well_formed) c.args.maximum.flow.items c.requires.flow, ap length c.must-musts.ensures.list)

pub overflow_sub-chains_end : goal.overflow_sub-chains_end
overflow_sub-chains_end c =
    let p = c.args.problem.now in
    omega (arith, flow_length p (facts p c.must-musts.ensures.well_formed) c.args.maximum.flow.items c.requires.flow, ap length c.must-musts.ensures.list, ap length c.before-backs.ensures.list)

pub members-requires-clause-spare_capacity : goal.members-requires-clause-spare_capacity
members-requires-clause-spare_capacity c = omega (arith, c.requires.marks, length-map c.updates.result.now (λ t. t.0), ap length c.updates.ensures.list, ap length c.deref.ensures.value)

pub members-requires-clause-count_within_max : goal.members-requires-clause-count_within_max
members-requires-clause-count_within_max c = omega (arith, c.updates.ensures.count_within_max, length-map c.updates.result.now (λ t. t.0), ap length c.updates.ensures.list)

pub chain_rows-requires : goal.chain_rows-requires
chain_rows-requires c =
    let p = c.args.problem.now in
    let flow : List ℕ = c.args.maximum.flow.items in
    let all : length flow ≡ sum_by (λ (chain : Chain). length chain.costs) p.chains + length p.before + length p.must = flow_length p (facts p c.chains.ensures.well_formed) flow c.requires.flow in
    let costs : sum_by (λ (chain : Chain). length chain.costs) p.chains ≡ sum_by (λ (chain : code.Chain). length chain.costs.items) c.chains.result.now = ap (sum_by (λ (chain : Chain). length chain.costs)) (sym c.chains.ensures.list) ∙ costs_mapped c.chains.result.now in
    let musts : length c.must-musts.result.now ≡ length p.must = ap length c.must-musts.ensures.list in
    let backs : length c.before-backs.result.now ≡ length p.before = ap length c.before-backs.ensures.list in
    let n : ℕ = c.len.result - length c.must-musts.result.now in
    let k : ℕ = n - length c.before-backs.result.now in
    let first : length c.cut_off.new.flow.items ≡ length (take n flow) = ap (λ (xs : List ℕ). length xs) c.in_ok-must_flow.ensures.kept in
    let second : length c.cut_off-2.new.flow.items ≡ length (take k c.cut_off.new.flow.items) = ap (λ (xs : List ℕ). length xs) c.in_ok-back_flow.ensures.kept in
    let same : length c.deref-2.result.now ≡ length c.cut_off-2.new.flow.items = ap (λ (xs : List ℕ). length xs) c.deref-2.ensures.value in
    omega (arith, length-take n flow, length-take k c.cut_off.new.flow.items, all, costs, musts, backs, first, second, same)

parts : (c : After-drop-flow-2) → Parts c.args.problem.now c.args.maximum.flow.items (concat (rows_of c.in_ok-chain_flow.chain_flow.items)) c.in_ok-back_flow.back_flow.items c.in_ok-must_flow.must_flow.items
parts c =
    let p = c.args.problem.now in
    let flow : List ℕ = c.args.maximum.flow.items in
    let all : length flow ≡ sum_by (λ (chain : Chain). length chain.costs) p.chains + length p.before + length p.must = flow_length p (facts p c.chains.ensures.well_formed) flow c.requires.flow in
    let musts : length c.must-musts.result.now ≡ length p.must = ap length c.must-musts.ensures.list in
    let backs : length c.before-backs.result.now ≡ length p.before = ap length c.before-backs.ensures.list in
    let n : ℕ = c.len.result - length c.must-musts.result.now in
    let k : ℕ = n - length c.before-backs.result.now in
    let first : c.cut_off.new.flow.items ≡ take n flow = c.in_ok-must_flow.ensures.kept in
    let ms : c.in_ok-must_flow.must_flow.items ≡ drop n flow = c.in_ok-must_flow.ensures.rest in
    let bs : c.in_ok-back_flow.back_flow.items ≡ drop k (take n flow) = c.in_ok-back_flow.ensures.rest ∙ ap (drop k) first in
    let xs : concat (rows_of c.in_ok-chain_flow.chain_flow.items) ≡ take k (take n flow) = c.in_ok-chain_flow.ensures.all ∙ c.deref-2.ensures.value ∙ c.in_ok-back_flow.ensures.kept ∙ ap (take k) first in
    record {
      backs = omega (arith, ap (λ (l : List ℕ). length l) bs, length-drop k (take n flow), length-take n flow, all, musts, backs);
      musts = omega (arith, ap (λ (l : List ℕ). length l) ms, length-drop n flow, all, musts, backs);
      whole = whole (concat (rows_of c.in_ok-chain_flow.chain_flow.items)) c.in_ok-back_flow.back_flow.items c.in_ok-must_flow.must_flow.items flow k n xs bs ms;
    }

members_are : (c : After-drop-flow-2) → c.in_ok-set.set.items ≡ members_below (is_marked c.args.maximum.marks.items) (update_count c.args.problem.now)
members_are c =
    let count : length c.updates.result.now ≡ update_count c.args.problem.now = sym (length-map c.updates.result.now (λ t. t.0)) ∙ ap length c.updates.ensures.list in
    c.in_ok-set.ensures ∙ ap (λ ms. members_below (is_marked ms) (length c.updates.result.now)) c.deref.ensures.value ∙ ap (members_below (is_marked c.args.maximum.marks.items)) count

pub returns-clause-certifies : goal.returns-clause-certifies
returns-clause-certifies c =
    let p = c.args.problem.now in
    let rows : are_rows_matched p.chains (rows_of c.in_ok-chain_flow.chain_flow.items) ≡ true = ap (λ cs. are_rows_matched cs (rows_of c.in_ok-chain_flow.chain_flow.items)) (sym c.chains.ensures.list) ∙ c.in_ok-chain_flow.ensures.matched in
    certified p (facts p c.chains.ensures.well_formed) c.args.maximum.flow.items c.requires.flow (is_marked c.args.maximum.marks.items) c.requires.reach c.requires.sink
    (certificate_of (record { set = c.in_ok-set.set; chain_flow = c.in_ok-chain_flow.chain_flow; back_flow = c.in_ok-back_flow.back_flow; must_flow = c.in_ok-must_flow.must_flow; worth = c.args.maximum.worth; augmentations = c.args.augmentations }))
    (members_are c) (parts c) rows c.requires.worth c.requires.short

pub returns-clause-least : goal.returns-clause-least
returns-clause-least c =
    let p = c.args.problem.now in
    least_set p (facts p c.chains.ensures.well_formed) c.args.maximum.flow.items c.requires.flow (is_marked c.args.maximum.marks.items) c.requires.reach c.requires.sink c.in_ok-set.set.items (members_are c)
