use Rattle.std.proofs.Common.{◌≡◌, ℕ, List, ◌∷◌, ◌++◌, map, sym, ap, ◌∙◌, arith}
use Rattle.std.proofs.lemmas.Grind.{common_steps}
use Rattle.std.specs.List.{join_with_byte}
use Rattle.std.proofs.lemmas.Simd.{map-map}
use Rattle.esr_base.specs.declared.numbers.TxnId.{TxnId}
use Rattle.esr_report.specs.Names.{name_of_transaction}
use Rattle.esr_report.specs.Lines.{listed}
use Rattle.esr_report.proofs.Joins.{one_more, all_joined}
use Rattle.esr_report.proofs.lines.push_names.Goals as goal

all_listed : (names : List (List ℕ)) (out : List ℕ) (first : TxnId) (rest txns : List TxnId) (after : List ℕ) → txns ≡ first ∷ rest
    → after ≡ out ++ join_with_byte 44 (name_of_transaction names first.0 ∷ map (λ (t : TxnId). name_of_transaction names t.0) rest)
    → after ≡ out ++ listed names (map (λ (t : TxnId). t.0) txns)
all_listed names out first rest txns after split before_it =
    before_it ∙ ap (λ ns. out ++ join_with_byte 44 (name_of_transaction names first.0 ∷ ns)) (sym (map-map (name_of_transaction names) (λ (t : TxnId). t.0) rest))
    ∙ ap (λ ts. out ++ listed names (map (λ (t : TxnId). t.0) ts)) (sym split)

pub loop-txn-preserved : goal.loop-txn-preserved
loop-txn-preserved g c =
    let so_far = c.loop-txn.invariant in (
      so_far.0,
      so_far.1,
      one_more (λ (t : TxnId). name_of_transaction (g.N.NamesByPosition.names c.args.names.now) t.0) 44 _ _ _ _ _ _ _ _ c.loop-txn-test.true so_far.2
          c.name_of_transaction-in-loop-txn.ensures c.in_ok-push_separated.ensures.ok,
    )

pub returns-clause-ok : goal.returns-clause-ok
returns-clause-ok g c =
    let so_far = c.loop-txn.invariant in
    all_listed (g.N.NamesByPosition.names c.args.names.now) c.args.out.now.items so_far.0 _ _ _ so_far.1
    (all_joined (λ (t : TxnId). name_of_transaction (g.N.NamesByPosition.names c.args.names.now) t.0) 44 _ _ _ _ _ c.loop-txn-test.false so_far.2)

pub returns-in_err-push_separated-clause-kept : goal.returns-in_err-push_separated-clause-kept
returns-in_err-push_separated-clause-kept g c = grind (arith, common_steps)
