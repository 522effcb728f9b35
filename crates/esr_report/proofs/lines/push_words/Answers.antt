use Rattle.std.proofs.Common.{ℕ, List, Bor, refl}
use Rattle.esr_report.proofs.Joins.{one_more, all_joined}
use Rattle.esr_report.proofs.lines.push_words.Goals as goal

pub loop-word-preserved : goal.loop-word-preserved
loop-word-preserved c =
    one_more (λ (w : Bor (List ℕ)). w.now) 32 _ _ _ _ _ _ _ _ c.loop-word-test.true c.loop-word.invariant refl c.in_ok-push_separated.ensures.ok

pub returns-clause-ok : goal.returns-clause-ok
returns-clause-ok c = all_joined (λ (w : Bor (List ℕ)). w.now) 32 _ _ _ _ _ c.loop-word-test.false c.loop-word.invariant
