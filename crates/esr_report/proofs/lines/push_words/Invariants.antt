use Rattle.std.proofs.Common.{◌≡◌, ℕ, List, ◌++◌, ◌∷◌, map, take, Bor}
use Rattle.std.specs.List.{join_with_byte}
use Rattle.esr_report.proofs.lines.push_words.Given as goal

abbrev pub invariant-loop-word : goal.invariant-loop-word
invariant-loop-word l = l.out.items ≡ l.fn.out.items ++ join_with_byte 32 (l.first ∷ map (λ (w : Bor (List ℕ)). w.now) (take l.word-index l.rest))
