-- The calls of a block, one after another, some of them retried.
use Rattle.std.proofs.Common.{◌≡◌, ◌⊎◌, ℕ, zero, suc, ◌+◌, ◌-◌, ◌*◌, ◌<◌, ◌≤◌, true, List, [], ◌∷◌, ◌++◌, All, length, length-append, take, take_all, get_or, Option, Some, None, unwrap_or, refl, ap, ap₂, sym, subst, ◌∙◌, arith, inl, inr, one-add, append_assoc, append-nil, slice_get, option_and_then, option_map}
use Rattle.std.specs.List.{position, position_or_len}
use Rattle.std.proofs.lemmas.List.{take_more}
use Rattle.std.proofs.lemmas.Option.{slice_get_within, slice_get_past, slice_get_cases, get_or_from_slice_get, none-some, same_Some}
use Rattle.std.proofs.lemmas.List.Elements.{All-push}
use Rattle.std.proofs.lemmas.Bool.{cases_Bool}
use Rattle.esr_history.specs.declared.event.Event.{Event}
use Rattle.esr_history.specs.declared.event.Event.TheVariants as event
use Rattle.esr_history.specs.declared.event.Reply.{Reply}
use Rattle.esr_base.specs.declared.numbers.TxnId.{TxnId}
use Rattle.esr_session.specs.declared.receipt.Receipt.{Receipt}
use Rattle.esr_session.specs.Receipts.{is_blocked}
use Rattle.esr_history.specs.declared.event.TxnKind.TheVariants as kind
use Rattle.esr_plan.specs.declared.call.Call.{Call}
use Rattle.esr_plan.specs.declared.call.Call.TheVariants as call
use Rattle.esr_drive.specs.Runs.{IsBlockRun, IsUnderWay, next_event}
use Rattle.esr_plan.specs.Calls.{command_of, answers_of, number_by, event_by, place_of, IsResolved}
use Rattle.esr_plan.specs.Blocks.{Answered, IsRun, AreRuns, start, more, event_of, begins, number_in, number_got, transaction_called}

-- a call that was retried until it was not blocked, or for the 100th time, is a run
run_of : (e : Event) (r : Receipt) (blocked : List Receipt)
    → All (λ s. (s.event ≡ e) × (is_blocked s.reply ≡ true)) blocked → r.event ≡ e → length blocked < 100 → (is_blocked r.reply ≡ true → length blocked + 1 ≡ 100)
    → IsRun e r.reply (blocked ++ r ∷ [])
run_of e r blocked all same count_within_max patient =
    let len = length-append blocked (r ∷ []) in
    record {
      blocked = blocked;
      last = r;
      parts = refl;
      events = All-push (λ (s : Receipt). s.event ≡ e) blocked r (λ k x lt. (all k x lt).0) same;
      were_blocked = λ k x lt. (all k x lt).1;
      upper_bound = omega (arith, len, count_within_max);
      patient = λ b. let all_turns = patient b in omega (arith, len, all_turns);
      reply_is = refl;
    }

answers-snoc : (calls : List Call) (replies : List Reply) (c : Call) (r : Reply) → length replies ≡ length calls
    → answers_of (calls ++ c ∷ []) (replies ++ r ∷ []) ≡ answers_of calls replies ++ record { command = command_of c; reply = r } ∷ []
answers-snoc [] [] c r e = refl
answers-snoc [] (s ∷ replies) c r e = absurd (omega (arith, e))
answers-snoc (b ∷ calls) [] c r e = absurd (omega (arith, e))
answers-snoc (b ∷ calls) (s ∷ replies) c r e =
    ap (λ l. record { command = command_of b; reply = s } ∷ l) (answers-snoc calls replies c r (omega (arith, e)))

length_taken : (i : ℕ) (calls : List Call) → i < length calls → length (take i calls) ≡ i
length_taken zero calls lt = refl
length_taken (suc i) [] lt = absurd (omega (arith, lt))
length_taken (suc i) (c ∷ calls) lt = ap suc (length_taken i calls (omega (arith, lt)))

-- one more call with its reply
pub answers_more : (calls : List Call) (replies : List Reply) (i : ℕ) (c : Call) (r : Reply) → i < length calls → length replies ≡ i → c ≡ get_or calls i c
    → answers_of (take (i + 1) calls) (replies ++ r ∷ []) ≡ answers_of (take i calls) replies ++ record { command = command_of c; reply = r } ∷ []
answers_more calls replies i c r lt len is =
    ap (λ l. answers_of l (replies ++ r ∷ [])) (take_more calls i c lt ∙ ap (λ x. take i calls ++ x ∷ []) (sym is))
    ∙ answers-snoc (take i calls) replies c r (omega (arith, len, length_taken i calls lt))

-- ---- the meaning of a name

length-answers : (calls : List Call) (replies : List Reply) → length calls ≡ length replies → length (answers_of calls replies) ≡ length calls
length-answers [] replies e = refl
length-answers (c ∷ calls) [] e = absurd (omega (arith, e))
length-answers (c ∷ calls) (r ∷ replies) e = ap suc (length-answers calls replies (omega (arith, e)))

place-answers : (name : List ℕ) (calls : List Call) (replies : List Reply) → length calls ≡ length replies
    → position_or_len (λ a. begins name a.command) (answers_of calls replies) ≡ position_or_len (λ c. begins name (command_of c)) calls
place-answers name [] replies e = refl
place-answers name (c ∷ calls) [] e = absurd (omega (arith, e))
place-answers name (c ∷ calls) (r ∷ replies) e = elim (cases_Bool (begins name (command_of c))) [
  | inl t ↦ rw t refl
  | inr f ↦
      let left : position_or_len (λ a. begins name a.command) (answers_of (c ∷ calls) (r ∷ replies)) ≡ suc (position_or_len (λ a. begins name a.command) (answers_of calls replies)) = rw (f, one-add) refl in
      let right : position_or_len (λ c. begins name (command_of c)) (c ∷ calls) ≡ suc (position_or_len (λ c. begins name (command_of c)) calls) = rw (f, one-add) refl in
      left ∙ ap suc (place-answers name calls replies (omega (arith, e))) ∙ sym right
]

position-answers : (name : List ℕ) (calls : List Call) (replies : List Reply) → length calls ≡ length replies
    → position (λ a. begins name a.command) (answers_of calls replies) ≡ position (λ c. begins name (command_of c)) calls
position-answers name calls replies e = rw (place-answers name calls replies e, length-answers calls replies e) refl

reply_got : (calls : List Call) (replies : List Reply) (place : ℕ) → length calls ≡ length replies
    → option_and_then (λ a. number_in a.reply) (slice_get (answers_of calls replies) place) ≡ option_and_then number_in (slice_get replies place)
reply_got [] [] place e = refl
reply_got [] (r ∷ replies) place e = absurd (omega (arith, e))
reply_got (c ∷ calls) [] place e = absurd (omega (arith, e))
reply_got (c ∷ calls) (r ∷ replies) zero e = refl
reply_got (c ∷ calls) (r ∷ replies) (suc place) e = reply_got calls replies place (omega (arith, e))

abbrev transaction : ℕ → TxnId
transaction n = record { 0 = n }

abbrev number_at : List Answered → Option ℕ → Option ℕ
number_at answers found = option_and_then (λ place. option_and_then (λ a. number_in a.reply) (slice_get answers place)) found

-- the number by the place of the begin
number_same : (calls : List Call) (replies : List Reply) (name : List ℕ) (begin : Option ℕ) → length calls ≡ length replies → begin ≡ place_of calls name
    → transaction_called (answers_of calls replies) name ≡ number_by replies begin
number_same calls replies name begin e is =
    let found : number_got (answers_of calls replies) name ≡ number_at (answers_of calls replies) begin = ap (number_at (answers_of calls replies)) (position-answers name calls replies e ∙ sym is) in
    ap (λ n. transaction (unwrap_or n 0)) (found ∙ same begin)
  where
    same : (o : Option ℕ) → number_at (answers_of calls replies) o ≡ option_and_then (λ place. option_and_then number_in (slice_get replies place)) o
    same None = refl
    same (Some place) = reply_got calls replies place e

-- the event of a call is the one in the file
pub event_resolved : (names : List (List ℕ)) (calls : List Call) (replies : List Reply) (c : Call) → length calls ≡ length replies → IsResolved names calls c
    → event_of names (answers_of calls replies) (command_of c) ≡ Some (event_by replies c)
event_resolved names calls replies (call.Read txn x) e is =
    ap₂ (λ t i. Some (event.Read t i)) (number_same calls replies txn.name.now txn.begin e is.0) (sym is.1)
event_resolved names calls replies (call.Write txn x value) e is =
    ap₂ (λ t i. Some (event.Write t i value)) (number_same calls replies txn.name.now txn.begin e is.0) (sym is.1)
event_resolved names calls replies (call.Commit txn) e is = ap (λ t. Some (event.Commit t)) (number_same calls replies txn.name.now txn.begin e is)
event_resolved names calls replies (call.Abort txn) e is = ap (λ t. Some (event.Abort t)) (number_same calls replies txn.name.now txn.begin e is)
event_resolved names calls replies (call.Begin name kind.Update limit) e is = refl
event_resolved names calls replies (call.Begin name kind.Query limit) e is = refl
event_resolved names calls replies (call.Begin name kind.StrictQuery limit) e is = refl

-- ---- a block under way

-- a next event is that of a call
call_next : (replies : List Reply) (e : Event) (o : Option Call) → option_map (event_by replies) o ≡ Some e
    → (c : Call) × (o ≡ Some c) × (event_by replies c ≡ e)
call_next replies e None is = absurd (none-some _ is)
call_next replies e (Some c) is = (c, refl, same_Some _ _ is)

pub begun : (calls : List Call) → IsUnderWay calls [] 0 []
begun calls = record {
  count_within_max = omega arith;
  done = [];
  again = [];
  parts = refl;
  runs = λ names resolved. start;
  were_blocked = λ k x lt. absurd (omega (arith, lt));
  times = refl;
  upper_bound = omega arith;
}

-- the next call was blocked again
pub still_blocked : (calls : List Call) (replies : List Reply) (blocked : ℕ) (receipts : List Receipt) (r : Receipt)
    → IsUnderWay calls replies blocked receipts → next_event calls replies ≡ Some r.event → is_blocked r.reply ≡ true → IsUnderWay calls replies (blocked + 1) (receipts ++ r ∷ [])
still_blocked calls replies blocked receipts r way next is = record {
  count_within_max = way.count_within_max;
  done = way.done;
  again = way.again ++ r ∷ [];
  parts = ap (λ (rs : List Receipt). rs ++ r ∷ []) way.parts ∙ append_assoc way.done way.again (r ∷ []);
  runs = way.runs;
  were_blocked = All-push (λ (s : Receipt). (next_event calls replies ≡ Some s.event) × (is_blocked s.reply ≡ true)) way.again r way.were_blocked (next, is);
  times = omega (arith, length-append way.again (r ∷ []), way.times);
  upper_bound = way.upper_bound;
}

-- the next call got its last reply
pub answered : (calls : List Call) (replies : List Reply) (blocked : ℕ) (receipts : List Receipt) (r : Receipt)
    → IsUnderWay calls replies blocked receipts → next_event calls replies ≡ Some r.event → blocked < 100 → (is_blocked r.reply ≡ true → blocked + 1 ≡ 100)
    → IsUnderWay calls (replies ++ r.reply ∷ []) 0 (receipts ++ r ∷ [])
answered calls replies blocked receipts r way next count_within_max patient =
    let i = length replies in
    let found = call_next replies r.event (slice_get calls i) next in
    let c = found.0 in
    let lt : i < length calls = slice_get_within calls i c found.1 in
    let is : get_or calls i c ≡ c = get_or_from_slice_get calls i c c found.1 in
    let len : length (replies ++ r.reply ∷ []) ≡ i + 1 = length-append replies (r.reply ∷ []) in
    let run : IsRun r.event r.reply (way.again ++ r ∷ []) =
    run_of r.event r way.again (λ k s below. let b = way.were_blocked k s below in (same_Some _ _ (sym b.0 ∙ next), b.1)) refl (omega (arith, way.times, count_within_max)) (λ b. let p = patient b in omega (arith, way.times, p)) in
    record {
      count_within_max = omega (arith, len, lt);
      done = way.done ++ (way.again ++ r ∷ []);
      again = [];
      parts = ap (λ (rs : List Receipt). rs ++ r ∷ []) way.parts ∙ append_assoc way.done way.again (r ∷ []) ∙ sym (append-nil (way.done ++ (way.again ++ r ∷ [])));
      runs = λ names resolved.
          let earlier = answers_of (take i calls) replies in
          let resolved_it : IsResolved names (take i calls) c = subst (λ (x : Call). IsResolved names (take i calls) x) is (resolved i c lt) in
          let makes : event_of names earlier (command_of c) ≡ Some r.event =
          event_resolved names (take i calls) replies c (length_taken i calls lt) resolved_it ∙ ap Some found.2 in
          let on = more earlier way.done (command_of c) r.event r.reply (way.again ++ r ∷ []) (way.runs names resolved) makes run in
          let answers = answers_more calls replies i c r.reply lt refl (sym is) in
          subst (λ (n : ℕ). AreRuns names (answers_of (take n calls) (replies ++ r.reply ∷ [])) (way.done ++ (way.again ++ r ∷ []))) (sym len)
          (subst (λ (l : List Answered). AreRuns names l (way.done ++ (way.again ++ r ∷ []))) (sym answers) on);
      were_blocked = λ k x below. absurd (omega (arith, below));
      times = refl;
      upper_bound = omega (arith, len, way.upper_bound, way.times, count_within_max, length-append way.done (way.again ++ r ∷ []), length-append way.again (r ∷ []));
    }

-- if all calls have their replies, no call has been retried since
none_resumed : (calls : List Call) (replies : List Reply) (again : List Receipt) → length calls ≤ length replies
    → All (λ r. (next_event calls replies ≡ Some r.event) × (is_blocked r.reply ≡ true)) again → again ≡ []
none_resumed calls replies [] le all = refl
none_resumed calls replies (r ∷ again) le all =
    let none : next_event calls replies ≡ None = ap (option_map (event_by replies)) (slice_get_past calls (length replies) le) in
    absurd (none-some _ (sym none ∙ (all 0 r (omega arith)).0))

pub bounded_calls : (calls : List Call) (replies : List Reply) (blocked : ℕ) (receipts : List Receipt) → IsUnderWay calls replies blocked receipts → blocked < 100
    → length receipts ≤ 100 * length calls
bounded_calls calls replies blocked receipts way count_within_max =
    let len = ap length way.parts ∙ length-append way.done way.again in
    let split : (length calls ≤ length replies) ⊎ (length replies < length calls) = grind arith in
    elim split [
      | inl le ↦
          let none = ap length (none_resumed calls replies way.again le way.were_blocked) in
          omega (arith, len, none, way.upper_bound, way.count_within_max)
      | inr lt ↦ omega (arith, len, way.times, count_within_max, way.upper_bound, lt)
    ]

-- a block whose calls all have their replies is run
pub block_run : (calls : List Call) (replies : List Reply) (blocked : ℕ) (receipts : List Receipt) → IsUnderWay calls replies blocked receipts → length calls ≤ length replies
    → IsBlockRun calls replies receipts
block_run calls replies blocked receipts way le =
    let all : receipts ≡ way.done = way.parts ∙ ap (λ (rs : List Receipt). way.done ++ rs) (none_resumed calls replies way.again le way.were_blocked) ∙ append-nil way.done in
    record {
      every = omega (arith, le, way.count_within_max);
      runs = λ names resolved.
          subst (λ (rs : List Receipt). AreRuns names (answers_of calls replies) rs) (sym all)
          (subst (λ (l : List Call). AreRuns names (answers_of l replies) way.done) (take_all (length replies) calls le) (way.runs names resolved));
    }

-- ---- how far a block still has to go

has_next : (calls : List Call) (replies : List Reply) → length replies < length calls → next_event calls replies ≡ None → ⊥
has_next calls replies lt none = elim (slice_get_cases calls (length replies)).1 [
  | inl found ↦ none-some _ (sym none ∙ ap (option_map (event_by replies)) found.2)
  | inr past ↦ absurd (omega (arith, past.0, lt))
]

not_zero : (n : ℕ) → (n ≡ 0 → ⊥) → 1 ≤ n
not_zero zero not = absurd (not refl)
not_zero (suc n) not = omega arith

-- if there is a next event, a hold of the lock makes progress
pub nearer : (calls : List Call) (replies : List Reply) (m n : ℕ) (old made new : List Receipt) → length calls ≡ m → length replies < m
    → (n ≡ 0 → next_event calls replies ≡ None) → new ≡ old ++ made → n ≡ length made → length new ≤ 100 * m
    → 100 * m + 1 - length new < 100 * m + 1 - length old
nearer calls replies m n old made new len lt none grown count count_within_max =
    let some = not_zero n (λ zero. has_next calls replies (omega (arith, len, lt)) (none zero)) in
    omega (arith, some, count, count_within_max, ap length grown, length-append old made)
