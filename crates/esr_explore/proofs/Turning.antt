-- One more turn.
use Rattle.std.proofs.Common.{◌≡◌, ℕ, ℤ, suc, ◌+◌, List, [], ◌∷◌, ◌++◌, ◌∙◌, ap, ap₂, subst, sym, arith, length, map}
use Rattle.std.specs.List.{range_with_len}
use Rattle.std.proofs.lemmas.List.FromFn.{map-range_with_len_more}
use Rattle.std.proofs.lemmas.List.Sums.{fold-append}
use Rattle.esr_history.specs.declared.event.Reply.{Reply}
use Rattle.esr_history.specs.Machine.{Schedule}
use Rattle.esr_plan.specs.declared.call.Call.{Call}
use Rattle.esr_plan.specs.Calls.{AreAnswered}
use Rattle.esr_explore.specs.Turns.{AreDone, IsRun, BlockProgressView, RunState, initial_run_state, no_progress, run_state, after_turn, after_turns}

-- one turn after others
pub then_turn : (blocks : List (List Call)) (s : RunState) (rest : List ℕ) (b : ℕ) → after_turns blocks s (rest ++ b ∷ []) ≡ after_turn blocks (after_turns blocks s rest) b
then_turn blocks s rest b = fold-append (after_turn blocks) s rest (b ∷ [])

-- turns after those of an order
pub then_turns : (blocks : List (List Call)) (s : RunState) (order rest : List ℕ) → after_turns blocks s (order ++ rest) ≡ after_turns blocks (after_turns blocks s order) rest
then_turns blocks s order rest = fold-append (after_turn blocks) s order rest

-- if blocks have no line left, all their calls have replies
pub done_answered : (blocks : List (List Call)) (rs : List BlockProgressView) → AreDone blocks rs → AreAnswered blocks (map (λ r. r.replies) rs)
done_answered [] [] (same, done) = tt
done_answered [] (r ∷ rs) (same, done) = absurd (omega (arith, same))
done_answered (b ∷ blocks) [] (same, done) = absurd (omega (arith, same))
done_answered (b ∷ blocks) (r ∷ rs) (same, done) =
    (done 0 (omega arith), done_answered blocks rs (omega (arith, same), λ k lt. done (suc k) (omega (arith, lt))))

-- turns over the slices of the blocks and of their replies
pub borrowed_result : (blocks seen : List (List Call)) (rs : List BlockProgressView) (replies : List (List Reply))
    → seen ≡ blocks → replies ≡ map (λ r. r.replies) rs → AreDone blocks rs → AreAnswered seen replies
borrowed_result blocks seen rs replies seen_is replies_is done =
    subst (λ (bs : List (List Call)). AreAnswered bs replies) (sym seen_is) (subst (AreAnswered blocks) (sym replies_is) (done_answered blocks rs done))

-- one more block before its first line
pub one_new_runner : (n : ℕ) (rs new : List BlockProgressView) (r : BlockProgressView)
    → rs ≡ map (λ _. no_progress) (range_with_len 0 n) → r ≡ no_progress → new ≡ rs ++ r ∷ [] → new ≡ map (λ _. no_progress) (range_with_len 0 (n + 1))
one_new_runner n rs new r rs_is r_is new_is =
    new_is ∙ (ap₂ (λ (l : List BlockProgressView) (one : BlockProgressView). l ++ one ∷ []) rs_is r_is ∙ sym (map-range_with_len_more (λ _. no_progress) 0 n n (omega arith)))

-- the start of a run
pub started : (opening : List ℤ) (weights : List ℕ) (blocks : List (List Call)) (h : Schedule) (rs : List BlockProgressView) (n : ℕ)
    → h ≡ (initial_run_state opening weights blocks).history → rs ≡ map (λ _. no_progress) (range_with_len 0 n) → n ≡ length blocks → run_state h rs ≡ initial_run_state opening weights blocks
started opening weights blocks h rs n h_is rs_is n_is = ap₂ run_state h_is (rs_is ∙ ap (λ (m : ℕ). map (λ _. no_progress) (range_with_len 0 m)) n_is)

-- the turns of an order and those after them are a run, if each block has then executed each of its lines
pub ran : (opening : List ℤ) (weights : List ℕ) (blocks seen : List (List Call)) (order : List ℕ) (start mid : RunState) (h closed : Schedule) (rs : List BlockProgressView)
    → seen ≡ blocks → start ≡ initial_run_state opening weights blocks → mid ≡ after_turns seen start order → ((rest : List ℕ) × (run_state h rs ≡ after_turns seen mid rest))
    → AreDone seen rs → closed ≡ h → IsRun opening weights blocks order (run_state closed rs)
ran opening weights blocks seen order start mid h closed rs seen_is start_is mid_is (rest, end_is) done closed_is =
    let occurred : run_state h rs ≡ after_turns seen start (order ++ rest) = end_is ∙ (ap (λ (s : RunState). after_turns seen s rest) mid_is ∙ sym (then_turns seen start order rest)) in
    record {
      extra_turns = rest;
      end_is = ap (λ (k : Schedule). run_state k rs) closed_is ∙ (occurred ∙ ap₂ (λ (bs : List (List Call)) (s : RunState). after_turns bs s (order ++ rest)) seen_is start_is);
      done = subst (λ (bs : List (List Call)). AreDone bs rs) seen_is done;
    }
