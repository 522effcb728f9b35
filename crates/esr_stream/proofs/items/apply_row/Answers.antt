use Rattle.std.proofs.Common.{◌≡◌, ◌≤◌, ◌<◌, ◌+◌, ℕ, zero, suc, ℤ, pos, Bool, List, ◌∷◌, [], ◌++◌, false, take, length, get_or, refl, ◌∙◌, sym, ap, subst, arith}
use Rattle.std.proofs.lemmas.List.{take_more}
use Rattle.esr_order.specs.declared.accesses.Access.{Access}
use Rattle.esr_stream.specs.Query.{cost_in}
use Rattle.esr_stream.specs.Passes.{IsUpdateApplied, ItemState, read_amount}
use Rattle.esr_stream.proofs.items.apply_row.Goals as goal
use Rattle.esr_stream.proofs.items.apply_row.Goals.{then-access, else-access}

-- equal parts
kept_as : (C : ℕ → ℤ → ℕ) (marked : Bool) (proposed : ℕ → ℕ) (row : List Access) (old states states' : List ItemState) (before before' after after' : ℕ) → states' ≡ states → before' ≡ before → after' ≡ after
    → IsUpdateApplied C marked proposed row old states before after → IsUpdateApplied C marked proposed row old states' before' after'
kept_as C marked proposed row old states states' before before' after after' a b c is =
    subst (λ h. IsUpdateApplied C marked proposed row old h before' after') (sym a) (subst (λ n. IsUpdateApplied C marked proposed row old states n after') (sym b) (subst (λ n. IsUpdateApplied C marked proposed row old states before n) (sym c) is))

abbrev no_access : Access
no_access = record { value = pos 0; item = record { 0 = 0 }; writes = false }

taken : (row : List Access) (j : ℕ) → j ≤ length row → length (take j row) ≡ j
taken [] zero l = refl
taken [] (suc j) l = absurd (omega arith)
taken (a ∷ row) zero l = refl
taken (a ∷ row) (suc j) l = let e = taken row j (omega arith) in omega (arith, e)

lt_le : (a b : ℕ) → a < b → a ≤ b
lt_le a b l = omega arith

pub loop-j-preserved : goal.loop-j-preserved
loop-j-preserved g c =
    let C = cost_in g.M.Metric.distance_by c.args.query.now in
    let marked = c.args.marked in
    let proposed : ℕ → ℕ = read_amount c.args.amounts.now in
    let old : List ItemState = c.args.states.now in
    let j : ℕ = c.loop-j.j in
    let row : List Access = c.args.row.now in
    let before : ℕ = c.loop-j.before in
    let after : ℕ = c.loop-j.after in
    let access : Access = get_or row j no_access in
    let more : take (j + 1) row ≡ take j row ++ access ∷ [] = take_more row j no_access c.loop-j-test.true in
    let prefix : length (take j row) ≡ j = taken row j (lt_le j (length row) c.loop-j-test.true) in
    let before_is = c.in_ok-before.ensures in
    let after_is = c.in_ok-after.ensures ∙ ap (λ n. after + n) c.in_ok-add.ensures in
    elim c.if-access.branch [
      | then-access w ↦
          let moved = w.apply_write-moved.ensures proposed (take j row) old before after c.loop-j.invariant in
          kept_as C marked proposed (take (j + 1) row) old w.apply_write-moved.new.states c.if-access.states (before + w.apply_write-moved.result.before) c.in_ok-before.before (after + (w.apply_write-moved.result.after + w.apply_write-moved.result.repaid)) c.in_ok-after.after
          w.states-is
          (before_is ∙ ap (λ m. before + m.before) w.moved-is)
          (after_is ∙ ap (λ m. after + (m.after + m.repaid)) w.moved-is)
          (subst (λ r. IsUpdateApplied C marked proposed r old w.apply_write-moved.new.states (before + w.apply_write-moved.result.before) (after + (w.apply_write-moved.result.after + w.apply_write-moved.result.repaid))) (sym more) moved)
      | else-access w ↦
          let moved = w.apply_read-moved.ensures C proposed (take j row) access old before after w.if-access.false refl (ap proposed prefix ∙ sym w.read_amount.ensures) c.loop-j.invariant in
          kept_as C marked proposed (take (j + 1) row) old w.apply_read-moved.new.states c.if-access.states (before + w.apply_read-moved.result.before) c.in_ok-before.before (after + (w.apply_read-moved.result.after + w.apply_read-moved.result.repaid)) c.in_ok-after.after
          w.states-is
          (before_is ∙ ap (λ m. before + m.before) w.moved-is)
          (after_is ∙ ap (λ m. after + (m.after + m.repaid)) w.moved-is)
          (subst (λ r. IsUpdateApplied C marked proposed r old w.apply_read-moved.new.states (before + w.apply_read-moved.result.before) (after + (w.apply_read-moved.result.after + w.apply_read-moved.result.repaid))) (sym more) moved)
    ]
