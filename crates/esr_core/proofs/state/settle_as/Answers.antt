use Rattle.std.proofs.Common.{◌≡◌, ℕ, ◌<◌, Bool, true, false, ◌||◌, ◌&&◌, not, if◌then◌else◌, length, refl, subst, arith}
use Rattle.esr_history.specs.declared.event.BeginKind.{BeginKind}
use Rattle.esr_history.specs.declared.event.BeginKind.TheVariants.{Query}
use Rattle.esr_items.specs.Values.{current_at, committed_at}
use Rattle.esr_locks.specs.Tables.{locks_at, is_writer, is_reader, has_lock_unlike}
use Rattle.esr_core.specs.States.{keeps}
use Rattle.esr_core.proofs.state.settle_as.Goals as goal
use Rattle.esr_core.proofs.state.settle_as.Goals.{In-Query}

first_false : (a b : Bool) → (a || b) ≡ false → a ≡ false
first_false false b none = refl
first_false true b none = none

unsettled : {X : Type 0} (b w : Bool) (p q : X) → w ≡ false → q ≡ (if b && w then p else q)
unsettled false w p q none = refl
unsettled true w p q none = rw none refl

-- a query has written no item
no_writer : (c : In-Query) → (x : ℕ) → x < length c.args.items.now → is_writer (locks_at c.args.locks.now.locks x) c.args.t.0 ≡ false
no_writer c x inside =
    let held = locks_at c.args.locks.now.locks x in
    let unlike : has_lock_unlike c.args.kind held c.args.t.0 ≡ false = c.requires.of_kind x (omega (arith, inside, c.requires.len)) in
    first_false (is_writer held c.args.t.0) (is_reader held c.args.t.0) (subst (λ (k : BeginKind). has_lock_unlike k held c.args.t.0 ≡ false) c.in-Query.is unlike)

pub returns-in-Query-clause-current : goal.returns-in-Query-clause-current
returns-in-Query-clause-current c = λ x inside.
    unsettled (not (keeps c.args.end)) (is_writer (locks_at c.args.locks.now.locks x) c.args.t.0) (committed_at c.args.items.now x) (current_at c.args.items.now x) (no_writer c x inside)

pub returns-in-Query-clause-committed : goal.returns-in-Query-clause-committed
returns-in-Query-clause-committed c = λ x inside.
    unsettled (keeps c.args.end) (is_writer (locks_at c.args.locks.now.locks x) c.args.t.0) (current_at c.args.items.now x) (committed_at c.args.items.now x) (no_writer c x inside)
