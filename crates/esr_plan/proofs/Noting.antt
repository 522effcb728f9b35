-- The table of the names that transactions began by.
use Rattle.std.proofs.Common.{Bor, ◌≡◌, ◌≢◌, ℕ, zero, suc, ◌+◌, ◌-◌, ◌<◌, ◌≤◌, List, [], ◌∷◌, ◌++◌, Bool, true, false, not, cond, length, take, drop, map, get_or, Option, Some, None, unwrap_or, refl, ap, sym, ◌∙◌, arith, nat_eq, if◌then◌else◌, add-one, slice_set, slice_get, replicate, Vec}
use Rattle.std.specs.declared.alloc.Global.{Global}
use Rattle.std.specs.List.{flat_map, filter, filter_map, find, range_with_len}
use Rattle.std.specs.Option.{option_and_then, option_map, option_map_or}
use Rattle.std.proofs.lemmas.Bool.Decides.{nat_tests}
use Rattle.std.proofs.lemmas.List.{take_more, drop_more, drop_all, map-append, map-set, length-append, length-map}
use Rattle.esr_history.specs.declared.event.Reply.{Reply}
use Rattle.esr_plan.specs.Plan.{new_name}
use Rattle.esr_plan.specs.Blocks.{Answered, number_in}
use Rattle.esr_plan.specs.Calls.{answers_of, AreAnswered, all_answers, Call}
use Rattle.esr_plan.specs.Text.{has_begun, name_begun}
use Rattle.esr_plan.specs.Tables.{answered, with_number, with_begun, noted}

-- ---- the names that the lines bind

noted-append : (a b : List Answered) (names : List (List ℕ)) → noted (a ++ b) names ≡ noted a (noted b names)
noted-append [] b names = refl
noted-append (x ∷ a) b names = ap (with_begun x) (noted-append a b names)

-- functions that agree from a number on
map_from : (f g : ℕ → List ℕ) (n s : ℕ) → ((k : ℕ) → s ≤ k → f k ≡ g k) → map f (range_with_len s n) ≡ map g (range_with_len s n)
map_from f g zero s same = refl
map_from f g (suc n) s same =
    ap (λ x. x ∷ map f (range_with_len (s + 1) n)) (same s (omega arith)) ∙ ap (λ l. g s ∷ l) (map_from f g n (s + 1) (λ k le. same k (omega (arith, le))))

-- functions that agree but at one number
map_but : (f g : ℕ → List ℕ) (n s j : ℕ) → ((k : ℕ) → k ≢ s + j → f k ≡ g k)
    → slice_set (map f (range_with_len s n)) j (g (s + j)) ≡ map g (range_with_len s n)
map_but f g zero s j same = refl
map_but f g (suc n) s zero same =
    ap (λ k. g k ∷ map f (range_with_len (s + 1) n)) (omega arith)
    ∙ ap (λ l. g s ∷ l) (map_from f g n (s + 1) (λ k le. same k (λ e. absurd (omega (arith, le, e)))))
map_but f g (suc n) s (suc j) same =
    ap (λ x. x ∷ slice_set (map f (range_with_len (s + 1) n)) j (g (s + suc j))) (same s (λ e. absurd (omega (arith, e))))
    ∙ ap (λ l. g s ∷ l) (ap (λ k. slice_set (map f (range_with_len (s + 1) n)) j (g k)) (omega arith) ∙ map_but f g n (s + 1) j (λ k apart. same k (λ e. apart (omega (arith, e)))))

none_begun : (n s : ℕ) → replicate n [] ≡ map (name_begun []) (range_with_len s n)
none_begun zero s = refl
none_begun (suc n) s = ap (λ l. [] ∷ l) (none_begun n (s + 1))

abbrev name_of : Option Answered → List ℕ
name_of found = unwrap_or (option_and_then (λ a. new_name a.command) found) []

is_not : (a b : ℕ) → a ≢ b → nat_eq a b ≡ false
is_not a b h = grind (arith, nat_tests)

is_same : (a : ℕ) → nat_eq a a ≡ true
is_same a = grind (arith, nat_tests)

set_at : (m : ℕ) (name : List ℕ) (names : List (List ℕ)) → with_number (Some (suc m)) name names ≡ slice_set names m name
set_at m name names =
    ap (λ (b : Bool). if b then names else slice_set names (suc m - 1) name) (is_not (suc m) 0 (λ e. absurd (omega (arith, e))))
    ∙ ap (λ k. slice_set names k name) (less m)
  where
    less : (m : ℕ) → suc m - 1 ≡ m
    less m = omega arith

-- one more line, before the others
noted_more : (a : Answered) (answers : List Answered) (n : ℕ) (o : Option ℕ) → number_in a.reply ≡ o
    → with_number o (unwrap_or (new_name a.command) []) (map (name_begun answers) (range_with_len 1 n)) ≡ map (name_begun (a ∷ answers)) (range_with_len 1 n)
noted_more a answers n None is =
    map_from (name_begun answers) (name_begun (a ∷ answers)) n 1 (λ k le. sym (ap (λ b. name_of (cond b (Some a) (find (has_begun k) answers))) (ap (λ o. option_map_or (nat_eq k) o false) is)))
noted_more a answers n (Some zero) is =
    map_from (name_begun answers) (name_begun (a ∷ answers)) n 1 (λ k le.
    sym (ap (λ b. name_of (cond b (Some a) (find (has_begun k) answers))) (ap (λ o. option_map_or (nat_eq k) o false) is ∙ is_not k 0 (λ e. absurd (omega (arith, le, e))))))
noted_more a answers n (Some (suc m)) is =
    set_at m (unwrap_or (new_name a.command) []) (map (name_begun answers) (range_with_len 1 n))
    ∙ ap (slice_set (map (name_begun answers) (range_with_len 1 n)) m) (sym here)
    ∙ map_but (name_begun answers) (name_begun (a ∷ answers)) n 1 m (λ k apart.
    sym (ap (λ b. name_of (cond b (Some a) (find (has_begun k) answers))) (ap (λ o. option_map_or (nat_eq k) o false) is ∙ is_not k (suc m) (λ e. apart (omega (arith, e))))))
  where
    here : name_begun (a ∷ answers) (1 + m) ≡ unwrap_or (new_name a.command) []
    here = ap (λ b. name_of (cond b (Some a) (find (has_begun (1 + m)) answers))) (ap (λ o. option_map_or (nat_eq (1 + m)) o false) is ∙ ap (nat_eq (1 + m)) (omega arith) ∙ is_same (1 + m))

pub table_is : (answers : List Answered) (n : ℕ) → noted answers (replicate n []) ≡ map (name_begun answers) (range_with_len 1 n)
table_is [] n = none_begun n 1
table_is (a ∷ answers) n = ap (with_begun a) (table_is answers n) ∙ noted_more a answers n (number_in a.reply) refl

-- ---- the lines of a block, the last first

-- ---- the blocks, the last first

abbrev flat : List (List Answered) → List Answered
flat blocks = flat_map (λ b. b) blocks

pub answered_all : (blocks : List (List Call)) (replies : List (List Reply)) → AreAnswered blocks replies → length replies ≡ length blocks
answered_all [] [] are = refl
answered_all [] (y ∷ replies) are = absurd are
answered_all (x ∷ blocks) [] are = absurd are
answered_all (x ∷ blocks) (y ∷ replies) are = ap suc (answered_all blocks replies are.1)

pub all_at : (blocks : List (List Call)) (replies : List (List Reply)) (i : ℕ) (b : List Call) (r : List Reply) (a : List Answered) → AreAnswered blocks replies → i < length blocks
    → b ≡ get_or blocks i b → r ≡ get_or replies i r → answers_of b r ≡ get_or (all_answers blocks replies) i a
all_at [] replies i b r a are lt is_block is_reply = absurd (omega (arith, lt))
all_at (x ∷ blocks) [] i b r a are lt is_block is_reply = absurd are
all_at (x ∷ blocks) (y ∷ replies) zero b r a are lt is_block is_reply = ap (λ l. answers_of l r) is_block ∙ ap (answers_of x) is_reply
all_at (x ∷ blocks) (y ∷ replies) (suc i) b r a are lt is_block is_reply = all_at blocks replies i b r a are.1 (omega (arith, lt)) is_block is_reply

pub length-all : (blocks : List (List Call)) (replies : List (List Reply)) → AreAnswered blocks replies → length (all_answers blocks replies) ≡ length blocks
length-all [] [] are = refl
length-all [] (y ∷ replies) are = absurd are
length-all (x ∷ blocks) [] are = absurd are
length-all (x ∷ blocks) (y ∷ replies) are = ap suc (length-all blocks replies are.1)

-- the replies to the blocks from a place on
pub all_drop : (blocks : List (List Call)) (replies : List (List Reply)) (i : ℕ) (b : List Call) (r : List Reply) → AreAnswered blocks replies → i < length blocks
    → b ≡ get_or blocks i b → r ≡ get_or replies i r
    → flat (all_answers (drop i blocks) (drop i replies)) ≡ answers_of b r ++ flat (all_answers (drop (i + 1) blocks) (drop (i + 1) replies))
all_drop blocks replies i b r are lt is_block is_reply =
    ap (λ l. flat (all_answers l (drop i replies))) (drop_more blocks i b lt ∙ ap (λ x. x ∷ drop (i + 1) blocks) (sym is_block))
    ∙ ap (λ l. flat (all_answers (b ∷ drop (i + 1) blocks) l)) (drop_more replies i r (omega (arith, answered_all blocks replies are, lt)) ∙ ap (λ x. x ∷ drop (i + 1) replies) (sym is_reply))

pub blocks_noted : (blocks : List (List Call)) (replies : List (List Reply)) (i : ℕ) (b : List Call) (r : List Reply) (old before after : List (List ℕ)) → AreAnswered blocks replies → i < length blocks
    → b ≡ get_or blocks i b → r ≡ get_or replies i r → before ≡ noted (flat (all_answers (drop (i + 1) blocks) (drop (i + 1) replies))) old
    → after ≡ noted (answers_of b r) before → after ≡ noted (flat (all_answers (drop i blocks) (drop i replies))) old
blocks_noted blocks replies i b r old before after are lt is_block is_reply so_far is =
    is ∙ (ap (noted (answers_of b r)) so_far
    ∙ (sym (noted-append (answers_of b r) (flat (all_answers (drop (i + 1) blocks) (drop (i + 1) replies))) old)
    ∙ ap (λ l. noted l old) (sym (all_drop blocks replies i b r are lt is_block is_reply))))

-- ---- the lines of a block, in order

pub answer_at : (calls : List Call) (replies : List Reply) (i : ℕ) (c : Call) (r : Reply) → length replies ≡ length calls → i < length calls
    → c ≡ get_or calls i c → r ≡ get_or replies i r → answered c r ≡ get_or (answers_of calls replies) i (answered c r)
answer_at [] replies i c r e lt is_call is_reply = absurd (omega (arith, lt))
answer_at (x ∷ calls) [] i c r e lt is_call is_reply = absurd (omega (arith, e))
answer_at (x ∷ calls) (y ∷ replies) zero c r e lt is_call is_reply = ap (λ z. answered z r) is_call ∙ ap (answered x) is_reply
answer_at (x ∷ calls) (y ∷ replies) (suc i) c r e lt is_call is_reply = answer_at calls replies i c r (omega (arith, e)) (omega (arith, lt)) is_call is_reply

pub length_answers : (calls : List Call) (replies : List Reply) → length replies ≡ length calls → length (answers_of calls replies) ≡ length calls
length_answers [] replies e = refl
length_answers (c ∷ calls) [] e = absurd (omega (arith, e))
length_answers (c ∷ calls) (r ∷ replies) e = ap suc (length_answers calls replies (omega (arith, e)))

-- ---- what the table holds

pub note_is : (names : List (Bor (List ℕ))) (place number : ℕ) (x : Bor (List ℕ)) (o : Option ℕ) (name : List ℕ) → o ≡ Some number → number ≡ place + 1 → x.now ≡ name
    → map (λ (n : Bor (List ℕ)). n.now) (slice_set names place x) ≡ with_number o name (map (λ (n : Bor (List ℕ)). n.now) names)
note_is names place number x o name is on same =
    map-set (λ (n : Bor (List ℕ)). n.now) names place x
    ∙ (ap (slice_set (map (λ (n : Bor (List ℕ)). n.now) names) place) same
    ∙ (sym (set_at place name (map (λ (n : Bor (List ℕ)). n.now) names))
    ∙ ap (λ o. with_number o name (map (λ (n : Bor (List ℕ)). n.now) names)) (sym (is ∙ ap Some (on ∙ add-one place)))))

pub unwrap_now : (o : Option (Bor (List ℕ))) (d r : Bor (List ℕ)) (new : Option (List ℕ)) → option_map (λ (n : Bor (List ℕ)). n.now) o ≡ new → r ≡ unwrap_or o d → d.now ≡ []
    → r.now ≡ unwrap_or new []
unwrap_now None d r new is same none = ap (λ (b : Bor (List ℕ)). b.now) same ∙ (none ∙ ap (λ o. unwrap_or o []) is)
unwrap_now (Some x) d r new is same none = ap (λ (b : Bor (List ℕ)). b.now) same ∙ ap (λ o. unwrap_or o []) is

pub map_replicate : (n : ℕ) (x : Bor (List ℕ)) → x.now ≡ [] → map (λ (b : Bor (List ℕ)). b.now) (replicate n x) ≡ replicate n []
map_replicate zero x is = refl
map_replicate (suc n) x is = ap (λ l. l ∷ map (λ (b : Bor (List ℕ)). b.now) (replicate n x)) is ∙ ap (λ l. [] ∷ l) (map_replicate n x is)

-- ---- blocks as the code has them

pub block_answered : (bs : List (Vec Call Global)) (rs : List (Vec Reply Global)) (i : ℕ) (b : Vec Call Global) (r : Vec Reply Global) → AreAnswered (map (λ (v : Vec Call Global). v.items) bs) (map (λ (v : Vec Reply Global). v.items) rs)
    → i < length bs → b ≡ get_or bs i b → r ≡ get_or rs i r → length r.items ≡ length b.items
block_answered [] rs i b r are lt is_b is_r = absurd (omega (arith, lt))
block_answered (x ∷ bs) [] i b r are lt is_b is_r = absurd are
block_answered (x ∷ bs) (y ∷ rs) zero b r are lt is_b is_r = ap (λ (v : Vec Reply Global). length v.items) is_r ∙ (are.0 ∙ sym (ap (λ (v : Vec Call Global). length v.items) is_b))
block_answered (x ∷ bs) (y ∷ rs) (suc i) b r are lt is_b is_r = block_answered bs rs i b r are.1 (omega (arith, lt)) is_b is_r

pub as_many : (bs : List (Vec Call Global)) (rs : List (Vec Reply Global)) → AreAnswered (map (λ (v : Vec Call Global). v.items) bs) (map (λ (v : Vec Reply Global). v.items) rs) → length rs ≡ length bs
as_many bs rs are =
    sym (length-map rs (λ (v : Vec Reply Global). v.items)) ∙ (answered_all (map (λ (v : Vec Call Global). v.items) bs) (map (λ (v : Vec Reply Global). v.items) rs) are ∙ length-map bs (λ (v : Vec Call Global). v.items))

pub items_at : {X Y : Type 0} (f : X → Y) (vs : List X) (i : ℕ) (v : X) → i < length vs → v ≡ get_or vs i v → f v ≡ get_or (map f vs) i (f v)
items_at f [] i v lt is = absurd (omega (arith, lt))
items_at f (x ∷ vs) zero v lt is = ap f is
items_at f (x ∷ vs) (suc i) v lt is = items_at f vs i v (omega (arith, lt)) is

pub none_left : (bs : List (Vec Call Global)) (replies : List (List Reply)) (i : ℕ) → length bs ≤ i → flat (all_answers (drop i (map (λ (v : Vec Call Global). v.items) bs)) replies) ≡ []
none_left bs replies i le =
    ap (λ l. flat (all_answers l replies)) (drop_all i (map (λ (v : Vec Call Global). v.items) bs) (omega (arith, le, length-map bs (λ (v : Vec Call Global). v.items))))

pub names_noted : (blocks : List (List Answered)) (n : ℕ) (table : List (List ℕ)) → table ≡ noted (flat blocks) (replicate n []) → table ≡ map (name_begun (flat blocks)) (range_with_len 1 n)
names_noted blocks n table is = is ∙ table_is (flat blocks) n

pub length-blocks : (bs : List (Vec Call Global)) (rs : List (Vec Reply Global)) → AreAnswered (map (λ (v : Vec Call Global). v.items) bs) (map (λ (v : Vec Reply Global). v.items) rs)
    → length (all_answers (map (λ (v : Vec Call Global). v.items) bs) (map (λ (v : Vec Reply Global). v.items) rs)) ≡ length bs
length-blocks bs rs are =
    length-all (map (λ (v : Vec Call Global). v.items) bs) (map (λ (v : Vec Reply Global). v.items) rs) are ∙ length-map bs (λ (v : Vec Call Global). v.items)
