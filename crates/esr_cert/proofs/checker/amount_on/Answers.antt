use Rattle.std.proofs.Common.{arith, ◌≡◌, ◌∙◌, ◌-◌, ◌+◌, ◌<◌, ◌++◌, suc, [], length, get_or, ap, sym, List, ℕ}
use Rattle.std.proofs.lemmas.List.{length-map, get_or-map}
use Rattle.esr_cert.specs.declared.certificate.Certificate.{Certificate}
use Rattle.esr_cert.specs.Certificate.{amounts}
use Rattle.esr_cert.specs.Flow.{amount_at}
use Rattle.esr_cert.specs.ChainStarts.{joined}
use Rattle.esr_cert.specs.Views.{rows_of, certificate_of}
use Rattle.esr_cert.proofs.ChainStartsLaws.{starts_rise, joined_amounts, in_row, in_backs, in_musts}
use Rattle.esr_cert.proofs.checker.amount_on.Goals as goal

abbrev joined_amounts_of : Certificate → List ℕ
joined_amounts_of c = joined (rows_of c.chain_flow.items) ++ c.back_flow.items ++ c.must_flow.items

-- the amounts in the words of the starts
whole : (c : Certificate) (arc : ℕ) → amount_at (amounts (certificate_of c)) arc ≡ get_or (joined_amounts_of c) arc 0
whole c arc = ap (λ xs. get_or (xs ++ c.back_flow.items ++ c.must_flow.items) arc 0) (joined_amounts (rows_of c.chain_flow.items))

pub row_at-chain-requires-clause-rising : goal.row_at-chain-requires-clause-rising
row_at-chain-requires-clause-rising c = starts_rise c.args.chain_starts.now (rows_of c.args.certificate.now.chain_flow.items) c.requires.chain_starts

pub returns-then-chain-len : goal.returns-then-chain-len
returns-then-chain-len c =
    let flow = c.args.certificate.now.chain_flow.items in
    let rows : List (List ℕ) = rows_of flow in
    let count_within_max : length rows ≡ length flow = length-map flow (λ row. row.items) in
    let l : c.row_at-chain.result < length flow = omega (arith, c.if-chain-len.true, c.len.ensures, c.args.certificate.now.chain_flow.ok.0) in
    let next : c.row_at-chain.result + 1 ≡ suc c.row_at-chain.result = omega arith in
    let past = c.row_at-chain.ensures.last (omega (arith, c.requires.chain_starts.count, count_within_max, l)) in
    let row : get_or rows c.row_at-chain.result [] ≡ c.deref.result.now =
    get_or-map (λ v. v.items) flow c.row_at-chain.result c.index.result.now [] l ∙ ap (λ v. v.items) (sym c.index.ensures) ∙ sym c.deref.ensures.value in
    c.amount_or_zero.ensures ∙ ap (λ xs. get_or xs (c.args.arc - get_or c.args.chain_starts.now c.row_at-chain.result 0) 0) (sym row)
    ∙ sym (whole c.args.certificate.now c.args.arc ∙ in_row c.args.chain_starts.now rows c.requires.chain_starts 0 c.args.certificate.now.back_flow.items c.args.certificate.now.must_flow.items c.row_at-chain.result c.args.arc (omega (arith, count_within_max, l)) c.row_at-chain.ensures.begun (omega (arith, past, ap (λ i. get_or c.args.chain_starts.now i 0) next)))

pub returns-then-i-backs : goal.returns-then-i-backs
returns-then-i-backs c =
    let flow = c.args.certificate.now.chain_flow.items in
    let end : c.row_at-chain.result ≡ length (rows_of flow) = omega (arith, c.if-chain-len.false, c.len.ensures, c.args.certificate.now.chain_flow.ok.0, c.row_at-chain.ensures.bound, c.requires.chain_starts.count, length-map flow (λ row. row.items)) in
    let at : get_or c.args.chain_starts.now c.row_at-chain.result 0 ≡ get_or c.args.chain_starts.now (length (rows_of flow)) 0 = ap (λ i. get_or c.args.chain_starts.now i 0) end in
    c.amount_or_zero-then-i-backs.ensures
    ∙ ap (λ xs. get_or xs (c.args.arc - get_or c.args.chain_starts.now c.row_at-chain.result 0) 0) c.deref-then-i-backs.ensures.value
    ∙ ap (λ n. get_or c.args.certificate.now.back_flow.items (c.args.arc - n) 0) at
    ∙ sym (whole c.args.certificate.now c.args.arc ∙ in_backs c.args.chain_starts.now (rows_of flow) c.requires.chain_starts 0 c.args.certificate.now.back_flow.items c.args.certificate.now.must_flow.items c.args.arc (omega (arith, at, c.row_at-chain.ensures.begun)) (omega (arith, at, c.if-i-backs.true, c.len-backs.ensures, c.args.certificate.now.back_flow.ok.0)))

pub returns-else-i-backs : goal.returns-else-i-backs
returns-else-i-backs c =
    let flow = c.args.certificate.now.chain_flow.items in
    let end : c.row_at-chain.result ≡ length (rows_of flow) = omega (arith, c.if-chain-len.false, c.len.ensures, c.args.certificate.now.chain_flow.ok.0, c.row_at-chain.ensures.bound, c.requires.chain_starts.count, length-map flow (λ row. row.items)) in
    let at : get_or c.args.chain_starts.now c.row_at-chain.result 0 ≡ get_or c.args.chain_starts.now (length (rows_of flow)) 0 = ap (λ i. get_or c.args.chain_starts.now i 0) end in
    let backs : c.len-backs.result ≡ length c.args.certificate.now.back_flow.items = omega (arith, c.len-backs.ensures, c.args.certificate.now.back_flow.ok.0) in
    c.amount_or_zero-else-i-backs.ensures
    ∙ ap (λ xs. get_or xs (c.args.arc - get_or c.args.chain_starts.now c.row_at-chain.result 0 - c.len-backs.result) 0) c.deref-else-i-backs.ensures.value
    ∙ ap (λ n. get_or c.args.certificate.now.must_flow.items (c.args.arc - n - c.len-backs.result) 0) at
    ∙ ap (λ n. get_or c.args.certificate.now.must_flow.items (c.args.arc - get_or c.args.chain_starts.now (length (rows_of flow)) 0 - n) 0) backs
    ∙ sym (whole c.args.certificate.now c.args.arc ∙ in_musts c.args.chain_starts.now (rows_of flow) c.requires.chain_starts 0 c.args.certificate.now.back_flow.items c.args.certificate.now.must_flow.items c.args.arc (omega (arith, at, c.row_at-chain.ensures.begun)) (omega (arith, at, backs, c.if-i-backs.false)))
