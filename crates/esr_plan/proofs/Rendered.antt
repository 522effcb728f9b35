-- The lines of items, of replies and of what an audit finds, one after another.
use Rattle.std.proofs.Common.{◌≡◌, ℕ, ℤ, zero, suc, ◌+◌, ◌<◌, List, [], ◌∷◌, ◌++◌, length, take, map, get_or, Option, refl, sym, ap, ◌∙◌, append_assoc, append-nil, length-take, arith, ◌≤◌, flat_map}
use Rattle.std.proofs.lemmas.Grind.{flat_map-append}
use Rattle.std.proofs.lemmas.List.{take_more, take_all, get_or_default}
use Rattle.esr_report.specs.Lines.{reply_line, session_line}
use Rattle.esr_history.specs.declared.event.Reply.{Reply}
use Rattle.esr_plan.specs.Calls.{command_of, answers_of, Call}
use Rattle.esr_plan.specs.Tables.{answered}
use Rattle.esr_plan.proofs.Noting.{answer_at, length_answers}
use Rattle.esr_plan.specs.Blocks.{Answered}
use Rattle.esr_plan.specs.Text.{item_text, items_text, subject_of, replies_text, block_text, blocks_text}

-- one line more
pub lines_more : {X : Type 0} (f : X → List ℕ) (xs : List X) (i : ℕ) (x : X) (old mid all : List ℕ)
    → mid ≡ old ++ flat_map f (take i xs) → i < length xs → x ≡ get_or xs i x → all ≡ mid ++ f x → all ≡ old ++ flat_map f (take (i + 1) xs)
lines_more f xs i x old mid all so_far lt is more =
    grind (arith, append_assoc old (flat_map f (take i xs)) (f x), take_more xs i x lt, flat_map-append f (take i xs) (x ∷ []), append-nil (f x))

pub whole_text : {X : Type 0} (f : X → List ℕ) (xs : List X) (i : ℕ) (old all : List ℕ) → length xs ≤ i → all ≡ old ++ flat_map f (take i xs) → all ≡ old ++ flat_map f xs
whole_text f xs i old all le is = is ∙ ap (λ l. old ++ flat_map f l) (take_all i xs le)

pub lines_of_map : {X Y : Type 0} (f : Y → List ℕ) (g : X → Y) (xs : List X) → flat_map (λ (x : X). f (g x)) xs ≡ flat_map f (map g xs)
lines_of_map f g [] = refl
lines_of_map f g (x ∷ xs) = ap (λ l. f (g x) ++ l) (lines_of_map f g xs)

items_more : (names : List (List ℕ)) (values : List ℤ) (weights : List (Option ℕ)) (i : ℕ) (v : ℤ) (w : Option ℕ) → length values ≡ length names → length weights ≡ length names → i < length values
    → items_text (take (suc i) names) (take (suc i) values) (take (suc i) weights)
    ≡ items_text (take i names) (take i values) (take i weights) ++ item_text (get_or names i []) (get_or values i v) (get_or weights i w)
items_more names [] weights i v w e f lt = absurd (omega (arith, lt))
items_more [] (x ∷ values) weights i v w e f lt = absurd (omega (arith, e))
items_more (n ∷ names) (x ∷ values) [] i v w e f lt = absurd (omega (arith, f))
items_more (n ∷ names) (x ∷ values) (g ∷ weights) zero v w e f lt = append-nil (item_text n x g)
items_more (n ∷ names) (x ∷ values) (g ∷ weights) (suc i) v w e f lt =
    ap (λ t. item_text n x g ++ t) (items_more names values weights i v w (omega (arith, e)) (omega (arith, f)) (omega (arith, lt)))
    ∙ sym (append_assoc (item_text n x g) (items_text (take i names) (take i values) (take i weights)) (item_text (get_or names i []) (get_or values i v) (get_or weights i w)))

-- the line of one more item
pub items_text_more : (names : List (List ℕ)) (values : List ℤ) (weights : List (Option ℕ)) (i : ℕ) (v : ℤ) (w : Option ℕ) (name old mid all : List ℕ)
    → length values ≡ length names → length weights ≡ length names → i < length values
    → mid ≡ old ++ items_text (take i names) (take i values) (take i weights) → name ≡ get_or names i [] → all ≡ mid ++ item_text name (get_or values i v) (get_or weights i w)
    → all ≡ old ++ items_text (take (i + 1) names) (take (i + 1) values) (take (i + 1) weights)
items_text_more names values weights i v w name old mid all e f lt so_far is more =
    let on : i + 1 ≡ suc i = omega arith in
    let part : List ℕ = items_text (take i names) (take i values) (take i weights) in
    more ∙ (ap (λ l. l ++ item_text name (get_or values i v) (get_or weights i w)) so_far ∙ (append_assoc old part (item_text name (get_or values i v) (get_or weights i w))
    ∙ ap (λ l. old ++ l) (ap (λ n. part ++ item_text n (get_or values i v) (get_or weights i w)) is
    ∙ sym (ap (λ n. items_text (take n names) (take n values) (take n weights)) on ∙ items_more names values weights i v w e f lt))))

pub items_text_all : (names : List (List ℕ)) (values : List ℤ) (weights : List (Option ℕ)) (i : ℕ) (old all : List ℕ)
    → length values ≡ length names → length weights ≡ length names → length values ≤ i
    → all ≡ old ++ items_text (take i names) (take i values) (take i weights) → all ≡ old ++ items_text names values weights
items_text_all names values weights i old all e f le is =
    is ∙ (ap (λ n. old ++ items_text n (take i values) (take i weights)) (take_all i names (omega (arith, e, le)))
    ∙ (ap (λ v. old ++ items_text names v (take i weights)) (take_all i values le)
    ∙ ap (λ w. old ++ items_text names values w) (take_all i weights (omega (arith, e, f, le)))))

blocks-snoc : (names : List (List ℕ)) (k : ℕ) (bs : List (List Answered)) (b : List Answered)
    → blocks_text names k (bs ++ b ∷ []) ≡ blocks_text names k bs ++ (session_line (k + length bs) ++ replies_text names b)
blocks-snoc names k [] b =
    append-nil (session_line k ++ replies_text names b) ∙ ap (λ n. session_line n ++ replies_text names b) (omega arith)
blocks-snoc names k (x ∷ bs) b =
    ap (λ l. session_line k ++ replies_text names x ++ l) (blocks-snoc names (k + 1) bs b)
    ∙ (sym (append_assoc (session_line k ++ replies_text names x) (blocks_text names (k + 1) bs) (session_line (k + 1 + length bs) ++ replies_text names b))
    ∙ ap (λ n. session_line k ++ replies_text names x ++ blocks_text names (k + 1) bs ++ (session_line n ++ replies_text names b)) (omega arith))

length_taken : {X : Type 0} (xs : List X) (i : ℕ) → i < length xs → length (take i xs) ≡ i
length_taken xs i lt = omega (arith, length-take i xs, lt)

-- the lines of one more block
pub blocks_text_more : (names : List (List ℕ)) (bs : List (List Answered)) (i : ℕ) (b : List Answered) (old mid all : List ℕ)
    → mid ≡ old ++ blocks_text names 0 (take i bs) → i < length bs → b ≡ get_or bs i b → all ≡ mid ++ block_text names i b
    → all ≡ old ++ blocks_text names 0 (take (i + 1) bs)
blocks_text_more names bs i b old mid all so_far lt is more =
    more ∙ (ap (λ l. l ++ block_text names i b) so_far
    ∙ (append_assoc old (blocks_text names 0 (take i bs)) (block_text names i b)
    ∙ ap (λ l. old ++ l) (sym (ap (blocks_text names 0) (take_more bs i b lt ∙ ap (λ x. take i bs ++ x ∷ []) (sym is))
    ∙ (blocks-snoc names 0 (take i bs) b ∙ ap (λ n. blocks_text names 0 (take i bs) ++ block_text names n b) (ap (λ n. 0 + n) (length_taken bs i lt) ∙ omega arith))))))

pub blocks_text_all : (names : List (List ℕ)) (bs : List (List Answered)) (i : ℕ) (old all : List ℕ) → length bs ≤ i
    → all ≡ old ++ blocks_text names 0 (take i bs) → all ≡ old ++ blocks_text names 0 bs
blocks_text_all names bs i old all le is = is ∙ ap (λ l. old ++ blocks_text names 0 l) (take_all i bs le)

-- the line of one more reply
pub replies_more : (names : List (List ℕ)) (calls : List Call) (replies : List Reply) (i : ℕ) (call : Call) (reply : Reply) (old mid all : List ℕ)
    → all ≡ mid ++ reply_line names (subject_of (command_of (get_or calls i call))) (get_or replies i reply) → length replies ≡ length calls → i < length calls
    → mid ≡ old ++ replies_text names (take i (answers_of calls replies))
    → all ≡ old ++ replies_text names (take (i + 1) (answers_of calls replies))
replies_more names calls replies i call reply old mid all is e lt so_far =
    let c = get_or calls i call in
    let r = get_or replies i reply in
    lines_more (λ a. reply_line names (subject_of a.command) a.reply) (answers_of calls replies) i (answered c r) old mid all so_far
    (omega (arith, lt, length_answers calls replies e)) (answer_at calls replies i c r e lt (get_or_default calls i call c lt) (get_or_default replies i reply r (omega (arith, e, lt)))) is
