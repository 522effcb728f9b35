use Rattle.std.proofs.Common.{sym, ap, ◌++◌, ◌∷◌, ◌^◌}
use Rattle.esr_grammar.proofs.Laws.{number_found}
use Rattle.esr_grammar.proofs.quick.begin_query.Goals as goal

pub returns : goal.returns
returns c =
    let number = number_found (10 ^ 19) c.args.last.now c.in_ok-limit.limit (sym c.in_ok-limit.ensures) in
    ((c.requires, number.0), ap (λ l. 98 ∷ 101 ∷ 103 ∷ 105 ∷ 110 ∷ 32 ∷ (c.args.name.now ++ 32 ∷ 113 ∷ 117 ∷ 101 ∷ 114 ∷ 121 ∷ 32 ∷ l)) number.1)
