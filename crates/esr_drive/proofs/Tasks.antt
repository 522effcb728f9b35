-- Sessions with their blocks, and their results.
use Rattle.std.proofs.Common.{◌≡◌, ℕ, zero, suc, ◌+◌, ◌<◌, ◌≤◌, ◌*◌, true, sum_by, List, [], ◌∷◌, ◌++◌, All, length, map, take, get_or, Result, Ok, IfOk, Vec, Global, refl, ap, sym, subst, ◌∙◌, arith}
use Rattle.std.proofs.lemmas.List.{take_more, map-append}
use Rattle.std.proofs.lemmas.List.Elements.{All-push}
use Rattle.std.proofs.lemmas.List.Sums.{sum_by-cons}
use Rattle.esr_base.specs.declared.limits.TheConstants.{MAX_ENTRIES}
use Rattle.esr_history.specs.declared.event.Reply.{Reply}
use Rattle.esr_core.specs.declared.machine.StepError.{StepError}
use Rattle.esr_session.specs.declared.receipt.Receipt.{Receipt}
use Rattle.esr_session.specs.Receipts.{count_in}
use Rattle.esr_plan.specs.declared.call.Call.{Call}
use Rattle.esr_plan.specs.declared.fault.DriveFault.{DriveFault}
use Rattle.esr_plan.specs.declared.fault.DriveFault.TheVariants as fault
use Rattle.esr_drive.specs.Faults.{is_engine_fault, IsEngineFault}
use Rattle.esr_plan.specs.Calls.{command_of, answers_of, AreResolved, all_answers, AreAnswered}
use Rattle.esr_plan.specs.Blocks.{Answered, AreBlocks}
use Rattle.esr_drive.specs.Runs.{IsBlockRun}

left : {X : Type 0} (P : X → Type 0) (xs : List X) (x : X) → All P (xs ++ x ∷ []) → All P xs
left P [] x h k d lt = absurd (omega (arith, lt))
left P (y ∷ xs) x h zero d lt = h zero d (omega arith)
left P (y ∷ xs) x h (suc k) d lt = left P xs x (λ i e below. h (suc i) e (omega (arith, below))) k d (omega (arith, lt))

right : {X : Type 0} (P : X → Type 0) (xs : List X) (x : X) → All P (xs ++ x ∷ []) → P x
right P [] x h = h 0 x (omega arith)
right P (y ∷ xs) x h = right P xs x (λ i e below. h (suc i) e (omega (arith, below)))

-- all but the last one, and the last one
pub all_before : {X : Type 0} (P : X → Type 0) (all xs : List X) (x : X) → all ≡ xs ++ x ∷ [] → All P all → All P xs
all_before P all xs x is h = left P xs x (subst (λ (l : List _). All P l) is h)

pub last_of : {X : Type 0} (P : X → Type 0) (all xs : List X) (x : X) → all ≡ xs ++ x ∷ [] → All P all → P x
last_of P all xs x is h = right P xs x (subst (λ (l : List _). All P l) is h)

pub all_more : {X : Type 0} (P : X → Type 0) (xs all : List X) (x : X) → all ≡ xs ++ x ∷ [] → All P xs → P x → All P all
all_more P xs all x is h p = subst (λ (l : List _). All P l) (sym is) (All-push P xs x h p)

-- one more task
pub tasks_more : {J : Type 0} (f : J → List Call) (tasks all : List J) (j : J) (blocks : List (Vec Call Global)) (i : ℕ) (b : Vec Call Global)
    → all ≡ tasks ++ j ∷ [] → map f tasks ≡ map (λ (b : Vec Call Global). b.items) (take i blocks) → i < length blocks → b ≡ get_or blocks i b → f j ≡ b.items
    → map f all ≡ map (λ (b : Vec Call Global). b.items) (take (i + 1) blocks)
tasks_more f tasks all j blocks i b is so_far lt at calls =
    ap (map f) is ∙ (map-append f tasks (j ∷ []) ∙ (ap (λ l. l ++ f j ∷ []) so_far ∙ (ap (λ c. map (λ (b : Vec Call Global). b.items) (take i blocks) ++ c ∷ []) (calls ∙ ap (λ (b : Vec Call Global). b.items) at)
    ∙ (sym (map-append (λ (b : Vec Call Global). b.items) (take i blocks) (get_or blocks i b ∷ [])) ∙ ap (map (λ (b : Vec Call Global). b.items)) (sym (take_more blocks i b lt))))))

-- if the receipts of the blocks are as many as the capacity of a history, their lines can fill one
receipts_at_most : {J R : Type 0} (calls : J → List Call) (session : R → List Receipt) (tasks : List J) (rans : List R) → length rans ≡ length tasks
    → ((i : ℕ) (j : J) (r : R) → i < length tasks → length (session (get_or rans i r)) ≤ 100 * length (calls (get_or tasks i j)))
    → sum_by length (map session rans) ≤ 100 * sum_by length (map calls tasks)
receipts_at_most calls session [] [] len upper_bound = omega arith
receipts_at_most calls session [] (r ∷ rans) len upper_bound = absurd (omega (arith, len))
receipts_at_most calls session (j ∷ tasks) [] len upper_bound = absurd (omega (arith, len))
receipts_at_most calls session (j ∷ tasks) (r ∷ rans) len upper_bound =
    let here = upper_bound 0 j r (omega arith) in
    let rest = receipts_at_most calls session tasks rans (omega (arith, len)) (λ i x y lt. upper_bound (suc i) x y (omega (arith, lt))) in
    omega (arith, here, rest, sum_by-cons length (session r) (map session rans), sum_by-cons length (calls j) (map calls tasks))

pub fault_reported : {J R : Type 0} (calls : J → List Call) (session : R → List Receipt) (tasks : List J) (rans : List R) (e : DriveFault) → length rans ≡ length tasks
    → ((i : ℕ) (j : J) (r : R) → i < length tasks → length (session (get_or rans i r)) ≤ 100 * length (calls (get_or tasks i j)))
    → is_engine_fault e ≡ true → (e ≡ fault.HistoryFull → count_in (map session rans) ≡ MAX_ENTRIES) → IsEngineFault (map calls tasks) e
fault_reported calls session tasks rans fault.NoMemory len upper_bound is full = tt
fault_reported calls session tasks rans fault.HistoryFull len upper_bound is full =
    omega (arith, full refl, receipts_at_most calls session tasks rans len upper_bound)
fault_reported calls session tasks rans fault.Close len upper_bound is full = tt
fault_reported calls session tasks rans _ len upper_bound is full = cc

head_same : {X : Type 0} (x y : X) (xs ys : List X) → x ∷ xs ≡ y ∷ ys → x ≡ y
head_same x y xs ys e = cc

tail_same : {X : Type 0} (x y : X) (xs ys : List X) → x ∷ xs ≡ y ∷ ys → xs ≡ ys
tail_same x y xs ys e = cc

commands-answers : (calls : List Call) (replies : List Reply) → length replies ≡ length calls → map (λ a. a.command) (answers_of calls replies) ≡ map command_of calls
commands-answers [] replies e = refl
commands-answers (c ∷ calls) [] e = absurd (omega (arith, e))
commands-answers (c ∷ calls) (r ∷ replies) e = ap (λ l. command_of c ∷ l) (commands-answers calls replies (omega (arith, e)))

module _ {J R V : Type 0} (calls : J → List Call) (session : R → List Receipt) (outcome : R → Result V StepError) (items : V → List Reply) where
  abbrev pub BlockOutcome : List J → List R → Type 0
  BlockOutcome tasks rans = (i : ℕ) (j : J) (r : R) → i < length tasks → IfOk (outcome (get_or rans i r)) (λ v. IsBlockRun (calls (get_or tasks i j)) (items v) (session (get_or rans i r)))

  abbrev pub answers : List J → List V → List (List Answered)
  answers tasks replies = all_answers (map calls tasks) (map items replies)

  ran_at : (j : J) (r : R) (v : V) (tasks : List J) (rans : List R) → BlockOutcome (j ∷ tasks) (r ∷ rans) → outcome r ≡ Ok v → IsBlockRun (calls j) (items v) (session r)
  ran_at j r v tasks rans h is = subst (λ (o : Result V StepError). IfOk o (λ v. IsBlockRun (calls j) (items v) (session r))) is (h 0 j r (omega arith))

  -- each block has its runs
  pub blocks_ran : (tasks : List J) (rans : List R) (replies : List V) → length rans ≡ length tasks → BlockOutcome tasks rans → map outcome rans ≡ map (λ v. Ok v) replies
      → AreAnswered (map calls tasks) (map items replies)
      × ((names : List (List ℕ)) → All (AreResolved names) (map calls tasks) → AreBlocks names (answers tasks replies) (map session rans))
      × (map (λ b. map (λ a. a.command) b) (answers tasks replies) ≡ map (λ b. map command_of b) (map calls tasks))
  blocks_ran [] [] replies len h is = (none replies is, λ names resolved. tt, refl)
    where
      none : (replies : List V) → map outcome [] ≡ map (λ v. Ok v) replies → AreAnswered [] (map items replies)
      none [] is = tt
      none (v ∷ replies) is = cc
  blocks_ran [] (r ∷ rans) replies len h is = absurd (omega (arith, len))
  blocks_ran (j ∷ tasks) [] replies len h is = absurd (omega (arith, len))
  blocks_ran (j ∷ tasks) (r ∷ rans) [] len h is = cc
  blocks_ran (j ∷ tasks) (r ∷ rans) (v ∷ replies) len h is =
      let here : IsBlockRun (calls j) (items v) (session r) = ran_at j r v tasks rans h (head_same (outcome r) (Ok v) (map outcome rans) (map (λ v. Ok v) replies) is) in
      let rest = blocks_ran tasks rans replies (omega (arith, len)) (λ i x y lt. h (suc i) x y (omega (arith, lt))) (tail_same (outcome r) (Ok v) (map outcome rans) (map (λ v. Ok v) replies) is) in (
        (here.every, rest.0),
        (λ names resolved. (here.runs names (resolved 0 (calls j) (omega arith)), rest.1 names (λ i x lt. resolved (suc i) x (omega (arith, lt))))),
        ap (λ c. c ∷ map (λ b. map (λ a. a.command) b) (answers tasks replies)) (commands-answers (calls j) (items v) here.every) ∙ ap (λ l. map command_of (calls j) ∷ l) rest.2,
      )
