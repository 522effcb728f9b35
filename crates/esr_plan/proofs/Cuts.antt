-- The lines of a file from its first line feed, and the reading of the file from its lines.
use Rattle.std.proofs.Common.{◌≡◌, ℕ, ◌+◌, ◌-◌, ◌<◌, ◌≤◌, List, [], ◌∷◌, ◌++◌, Bool, true, false, length, take, drop, refl, sym, ◌∙◌, ap, subst, arith, inl, inr, Result, Ok, Err, nat_eq, Some, None, ltb-true, length-drop, length-take, length-append, nat_lt, IfSome, Option, if◌then◌else◌}
use Rattle.std.proofs.Math.Seq.{take-length}
use Rattle.std.proofs.lemmas.List.{drop-append-le, drop-drop, append-nil, append_assoc}
use Rattle.std.proofs.lemmas.Bool.Decides.{nat_tests}
use Rattle.std.proofs.lemmas.Option.{cond_some}
use Rattle.std.proofs.lemmas.Bool.{cases_Bool}
use Rattle.std.specs.Io.KnownBytes.{Consumes}
use Rattle.esr_plan.specs.Plan.{line_limit_fault, plan_of, plan_from, nothing, DriveFault, TooManyLines, LineTooLong}
use Rattle.esr_plan.specs.Readings.{IsLineFault, IsReadFault}
use Rattle.esr_plan.specs.declared.fault.DriveFault.TheVariants as fault
use Rattle.std.specs.List.{position, position_or_len}
use Rattle.esr_history.proofs.Ascending.{le_ltb, lt_ltb}
use Rattle.esr_grammar.specs.Lines.{lines, line_len}
use Rattle.esr_grammar.proofs.Cutting.{Begins, begins, front, after_front, split-front, plain-front, lines-line, lines-last}
use Rattle.esr_grammar.proofs.Prefix.{none_is_length}

pub position_within : {X : Type 0} (p : X → Bool) (xs : List X) (place : ℕ) → position p xs ≡ Some place → place < length xs
position_within p xs place e =
    let found = cond_some _ _ _ e in
    let lt : position_or_len p xs < length xs = ltb-true _ _ found.0 in
    omega (arith, lt, found.1)

pub no_feed : (bytes : List ℕ) → position (λ b. nat_eq b 10) bytes ≡ None → 0 < length bytes → lines bytes ≡ bytes ∷ []
no_feed bytes e some = lines-last bytes (sym (none_is_length bytes e)) some

pub at_feed : (bytes : List ℕ) (place : ℕ) → position (λ b. nat_eq b 10) bytes ≡ Some place
    → (lines bytes ≡ take place bytes ∷ lines (take (length bytes - (place + 1)) (drop (place + 1) bytes)))
at_feed bytes place e =
    let found = cond_some _ _ _ e in
    let within : line_len bytes < length bytes = ltb-true _ _ found.0 in
    let all : take (length bytes - (place + 1)) (drop (place + 1) bytes) ≡ drop (place + 1) bytes =
    ap (λ n. take n (drop (place + 1) bytes)) (sym (length-drop (place + 1) bytes)) ∙ take-length (drop (place + 1) bytes) in
    let cut : lines bytes ≡ front bytes ∷ lines (after_front bytes) =
    ap lines (split-front bytes within) ∙ lines-line (front bytes) (after_front bytes) (plain-front bytes) in
    cut
    ∙ ap (λ n. take n bytes ∷ lines (drop (n + 1) bytes)) found.1
    ∙ ap (λ l. take place bytes ∷ lines l) (sym all)

is_not : (a b : ℕ) → (a ≡ b → ⊥) → nat_eq a b ≡ false
is_not a b h = grind (arith, nat_tests)

-- a line that may be read
pub cut_more : (count : ℕ) (ls more : List (List ℕ)) (line : List ℕ) → ls ≡ line ∷ more → (count ≡ 2000000 → ⊥) → length line ≤ 200
    → line_limit_fault count ls ≡ line_limit_fault (count + 1) more
cut_more count ls more line is count_within_max short =
    ap (line_limit_fault count) is ∙ rw (is_not count 2000000 count_within_max, le_ltb 200 (length line) short) refl

-- a line too many
pub cut_too_many : (count : ℕ) (ls more : List (List ℕ)) (line : List ℕ) → ls ≡ line ∷ more → count ≡ 2000000 → line_limit_fault count ls ≡ Some TooManyLines
cut_too_many count ls more line is all = ap (λ n. line_limit_fault n ls) all ∙ ap (line_limit_fault 2000000) is

-- a line that is too long
pub cut_long : (count : ℕ) (ls more : List (List ℕ)) (line : List ℕ) → ls ≡ line ∷ more → (count ≡ 2000000 → ⊥) → 200 < length line → line_limit_fault count ls ≡ Some LineTooLong
cut_long count ls more line is count_within_max long =
    ap (line_limit_fault count) is ∙ rw (is_not count 2000000 count_within_max, lt_ltb 200 (length line) long) refl

pub some : (n : ℕ) → nat_eq n 0 ≡ false → 0 < n
some n h = grind (arith, nat_tests)

pub shorter : (bytes : List ℕ) (place : ℕ) → position (λ b. nat_eq b 10) bytes ≡ Some place
    → length (take (length bytes - (place + 1)) (drop (place + 1) bytes)) < length bytes
shorter bytes place e =
    let within = position_within (λ b. nat_eq b 10) bytes place e in
    omega (arith, within, length-take (length bytes - (place + 1)) (drop (place + 1) bytes))

-- ---- a file that is being read

abbrev At : List ℕ → ℕ → ℕ → Type 0
At bytes start count = (rest : List ℕ) → line_limit_fault 0 (lines (bytes ++ rest)) ≡ line_limit_fault count (lines (drop start bytes ++ rest))

-- the bytes of a slice from a place on
pub from_place : (bytes : List ℕ) (start : ℕ) → take (length bytes - start) (drop start bytes) ≡ drop start bytes
from_place bytes start = ap (λ n. take n (drop start bytes)) (sym (length-drop start bytes)) ∙ take-length (drop start bytes)

-- more bytes
pub mark_more : (bytes more : List ℕ) (start count : ℕ) → start ≤ length bytes → At bytes start count → At (bytes ++ more) start count
mark_more bytes more start count le at rest =
    ap (λ l. line_limit_fault 0 (lines l)) (append_assoc bytes more rest)
    ∙ (at (more ++ rest) ∙ ap (λ l. line_limit_fault count (lines l)) (sym (append_assoc (drop start bytes) more rest) ∙ ap (λ l. l ++ rest) (sym (drop-append-le start bytes more le))))

-- one more line
pub mark_line : (bytes : List ℕ) (start count len : ℕ) → At bytes start count → position (λ b. nat_eq b 10) (drop start bytes) ≡ Some len
    → (count ≡ 2000000 → ⊥) → len ≤ 200 → At bytes (start + len + 1) (count + 1)
mark_line bytes start count len at found count_within_max short rest =
    let tail = drop start bytes in
    let is = cond_some _ _ _ found in
    let within : line_len tail < length tail = ltb-true _ _ is.0 in
    let size : length (front tail) ≤ 200 = omega (arith, length-take (line_len tail) tail, short, is.1) in
    let cut : lines (tail ++ rest) ≡ front tail ∷ lines (after_front tail ++ rest) =
    ap (λ l. lines (l ++ rest)) (split-front tail within)
    ∙ (ap lines (append_assoc (front tail) (10 ∷ after_front tail) rest) ∙ lines-line (front tail) (after_front tail ++ rest) (plain-front tail)) in
    let following : after_front tail ≡ drop (start + len + 1) bytes =
    ap (λ n. drop (n + 1) tail) is.1 ∙ (drop-drop (len + 1) start bytes ∙ ap (λ n. drop n bytes) (omega arith)) in
    at rest ∙ (cut_more count (lines (tail ++ rest)) (lines (after_front tail ++ rest)) (front tail) cut count_within_max size ∙ ap (λ l. line_limit_fault (count + 1) (lines (l ++ rest))) following)

-- a line with a fault, whatever follows
pub mark_fault : (bytes : List ℕ) (start count len : ℕ) (e : DriveFault) → At bytes start count → 0 < length (drop start bytes) → len ≡ line_len (drop start bytes)
    → IsLineFault count len e → (rest : List ℕ) → line_limit_fault 0 (lines (bytes ++ rest)) ≡ Some e
mark_fault bytes start count len e at some is bad rest = at rest ∙ by e bad
  where
    b : Begins (drop start bytes) rest
    b = begins (drop start bytes) rest some

    by : (e : DriveFault) → IsLineFault count len e → line_limit_fault count (lines (drop start bytes ++ rest)) ≡ Some e
    by fault.TooManyLines bad = cut_too_many count (lines (drop start bytes ++ rest)) b.more b.line b.is bad
    by fault.LineTooLong bad = cut_long count (lines (drop start bytes ++ rest)) b.more b.line b.is bad.0 (omega (arith, bad.1, is, b.long))
    by fault.Read bad = absurd bad
    by fault.Write bad = absurd bad
    by fault.NoMemory bad = absurd bad
    by fault.HistoryFull bad = absurd bad
    by (fault.BadScript line error) bad = absurd bad
    by fault.Close bad = absurd bad

-- a last line that is not whole
pub last_fine : (tail : List ℕ) (count : ℕ) → position (λ b. nat_eq b 10) tail ≡ None → (count ≡ 2000000 → ⊥) → length tail ≤ 200
    → line_limit_fault count (lines tail) ≡ None
last_fine [] count none count_within_max short = refl
last_fine (b ∷ bs) count none count_within_max short =
    cut_more count (lines (b ∷ bs)) [] (b ∷ bs) (no_feed (b ∷ bs) none (omega arith)) count_within_max short

-- the whole file
pub whole_fine : (bytes : List ℕ) (start count : ℕ) → At bytes start count → line_limit_fault count (lines (drop start bytes)) ≡ None → line_limit_fault 0 (lines bytes) ≡ None
whole_fine bytes start count at fine =
    ap (λ l. line_limit_fault 0 (lines l)) (sym (append-nil bytes)) ∙ (at [] ∙ (ap (λ l. line_limit_fault count (lines l)) (append-nil (drop start bytes)) ∙ fine))

-- no line too many
pub bounded_lines : (count : ℕ) (ls : List (List ℕ)) → count ≤ 2000000 → line_limit_fault count ls ≡ None → count + length ls ≤ 2000000
bounded_lines count [] le none = omega (arith, le)
bounded_lines count (l ∷ ls) le none = elim (cases_Bool (nat_eq count 2000000)) [
  | inl t ↦ let many : line_limit_fault count (l ∷ ls) ≡ Some TooManyLines = rw t refl in let both : Some TooManyLines ≡ None = sym many ∙ none in cc
  | inr f ↦ elim (cases_Bool (nat_lt 200 (length l))) [
    | inl t ↦ let long : line_limit_fault count (l ∷ ls) ≡ Some LineTooLong = rw (f, t) refl in let both : Some LineTooLong ≡ None = sym long ∙ none in cc
    | inr g ↦
        let on : line_limit_fault count (l ∷ ls) ≡ line_limit_fault (count + 1) ls = rw (f, g) refl in
        let apart : count ≡ 2000000 → ⊥ = λ is. not_equal count f is in
        let rest = bounded_lines (count + 1) ls (below count le apart) (sym on ∙ none) in
        omega (arith, rest)
  ]
]
  where
    not_equal : (n : ℕ) → nat_eq n 2000000 ≡ false → n ≡ 2000000 → ⊥
    not_equal n f is = let t : nat_eq n 2000000 ≡ true = ap (λ m. nat_eq m 2000000) is in let both : false ≡ true = sym f ∙ t in cc

    below : (n : ℕ) → n ≤ 2000000 → (n ≡ 2000000 → ⊥) → n + 1 ≤ 2000000
    below n le apart = omega (arith, le, apart)

-- the plan of a file with such a line
pub cut_plan : (bytes : List ℕ) (e : DriveFault) → line_limit_fault 0 (lines bytes) ≡ Some e → plan_of bytes ≡ Err e
cut_plan bytes e is = ap (λ (o : Option DriveFault). elim o [ Some f ↦ Err f | None ↦ plan_from 1 nothing (lines bytes) ]) is

-- ---- the steps of a look

abbrev sliced : List ℕ → ℕ → List ℕ
sliced bytes start = take (length bytes - start) (drop start bytes)

abbrev feed : List ℕ → Option ℕ
feed bytes = position (λ b. nat_eq b 10) bytes

found_in : (bytes : List ℕ) (start : ℕ) (o : Option ℕ) → o ≡ feed (sliced bytes start) → feed (drop start bytes) ≡ o
found_in bytes start o is = ap feed (sym (from_place bytes start)) ∙ sym is

pub line_fault : (bytes : List ℕ) (start count len : ℕ) (e : DriveFault) → At bytes start count → Some len ≡ feed (sliced bytes start) → IsLineFault count len e
    → (rest : List ℕ) → line_limit_fault 0 (lines (bytes ++ rest)) ≡ Some e
line_fault bytes start count len e at is bad =
    let found = found_in bytes start (Some len) is in
    let place = cond_some _ _ _ found in
    let within = position_within (λ b. nat_eq b 10) (drop start bytes) len found in
    mark_fault bytes start count len e at (omega (arith, within)) (sym place.1) bad

pub line_next : (bytes : List ℕ) (start count len : ℕ) → start ≤ length bytes → count ≤ 2000000 → At bytes start count → Some len ≡ feed (sliced bytes start)
    → (count ≡ 2000000 → ⊥) → len ≤ 200
    → (start + len + 1 ≤ length bytes) × (count + 1 ≤ 2000000) × At bytes (start + len + 1) (count + 1)
line_next bytes start count len low le at is count_within_max short =
    let found = found_in bytes start (Some len) is in
    let within = position_within (λ b. nat_eq b 10) (drop start bytes) len found in (
      omega (arith, within, low, length-drop start bytes),
      one_above count le count_within_max,
      mark_line bytes start count len at found count_within_max short,
    )
  where
    one_above : (n : ℕ) → n ≤ 2000000 → (n ≡ 2000000 → ⊥) → n + 1 ≤ 2000000
    one_above n le count_within_max = omega (arith, le, count_within_max)

pub begun_fault : (bytes : List ℕ) (start count : ℕ) (e : DriveFault) → At bytes start count → None ≡ feed (sliced bytes start) → 0 < length bytes - start
    → IsLineFault count (length bytes - start) e → (rest : List ℕ) → line_limit_fault 0 (lines (bytes ++ rest)) ≡ Some e
begun_fault bytes start count e at is some bad =
    let len = length-drop start bytes in
    let all = none_is_length (drop start bytes) (found_in bytes start None is) in
    mark_fault bytes start count (length bytes - start) e at (omega (arith, some, len)) (omega (arith, len, all)) bad

pub begun_fine : (bytes : List ℕ) (start count : ℕ) → None ≡ feed (sliced bytes start) → (count ≡ 2000000 → ⊥) → length bytes - start ≤ 200
    → line_limit_fault count (lines (drop start bytes)) ≡ None
begun_fine bytes start count is count_within_max short = last_fine (drop start bytes) count (found_in bytes start None is) count_within_max (omega (arith, short, length-drop start bytes))

-- ---- the faults of reading

abbrev pub IsCut : DriveFault → Type 0
IsCut fault.LineTooLong = Unit {0}
IsCut fault.TooManyLines = Unit {0}
IsCut _ = ⊥

abbrev pub IsNoneOrCut : Option DriveFault → Type 0
IsNoneOrCut None = Unit {0}
IsNoneOrCut (Some e) = IsCut e

chosen_cut : (b : Bool) (e : DriveFault) (o : Option DriveFault) → IsCut e → IsNoneOrCut o → IsNoneOrCut (if b then Some e else o)
chosen_cut true e o p q = p
chosen_cut false e o p q = q

pub all_cut : (count : ℕ) (ls : List (List ℕ)) → IsNoneOrCut (line_limit_fault count ls)
all_cut count [] = tt
all_cut count (l ∷ ls) =
    chosen_cut (nat_eq count 2000000) fault.TooManyLines _ tt (chosen_cut (nat_lt 200 (length l)) fault.LineTooLong _ tt (all_cut (count + 1) ls))

is_cut : (bytes : List ℕ) (e : DriveFault) → line_limit_fault 0 (lines bytes) ≡ Some e → IsCut e
is_cut bytes e is = subst (λ (o : Option DriveFault). IsNoneOrCut o) is (all_cut 0 (lines bytes))

by_fault : (known : Option (List ℕ)) (e : DriveFault) → IsCut e → IfSome known (λ input. plan_of input ≡ Err e) → IsReadFault known e
by_fault known fault.LineTooLong c p = p
by_fault known fault.TooManyLines c p = p
by_fault known _ c p = absurd c

planned : (known left : Option (List ℕ)) (bytes : List ℕ) (e : DriveFault) → Consumes known left bytes → ((rest : List ℕ) → line_limit_fault 0 (lines (bytes ++ rest)) ≡ Some e)
    → IfSome known (λ input. plan_of input ≡ Err e)
planned None left bytes e took cut = tt
planned (Some input) None bytes e took cut = absurd took
planned (Some input) (Some rest) bytes e took cut = cut_plan input e (ap (λ l. line_limit_fault 0 (lines l)) took ∙ cut rest)

pub read_fault : (known left : Option (List ℕ)) (bytes : List ℕ) (e : DriveFault) → Consumes known left bytes → ((rest : List ℕ) → line_limit_fault 0 (lines (bytes ++ rest)) ≡ Some e)
    → IsReadFault known e
read_fault known left bytes e took cut = by_fault known e (is_cut (bytes ++ []) e (cut [])) (planned known left bytes e took cut)

pub not_read : (bytes : List ℕ) (e : DriveFault) → ((rest : List ℕ) → line_limit_fault 0 (lines (bytes ++ rest)) ≡ Some e) → e ≡ fault.Read → ⊥
not_read bytes e cut is = subst (λ (f : DriveFault). IsCut f) is (is_cut (bytes ++ []) e (cut []))

pub mark_grown : (bytes grown more : List ℕ) (start count : ℕ) → grown ≡ bytes ++ more → start ≤ length bytes → count ≤ 2000000 → At bytes start count
    → (start ≤ length grown) × (count ≤ 2000000) × At grown start count
mark_grown bytes grown more start count is low le at = (
  omega (arith, low, ap length is, length-append bytes more),
  le,
  subst (λ (l : List ℕ). At l start count) (sym is) (mark_more bytes more start count low at),
)

pub taken : (b : Bool) (x y new : List ℕ) → new ≡ (if b then x else y) → b ≡ true → new ≡ x
taken true x y new is e = is
taken false x y new is e = cc

pub not_failed : (b : Bool) → b ≡ false → b ≡ true → ⊥
not_failed b off on = let e : false ≡ true = sym off ∙ on in cc

same_error : {T : Type 0} (r : Result T DriveFault) (e f : DriveFault) → r ≡ Err e → r ≡ Err f → e ≡ f
same_error (Ok x) e f a b = cc
same_error (Err g) e f a b = cc

pub not_read_error : {T : Type 0} (r : Result T DriveFault) (bytes : List ℕ) (e : DriveFault) → ((rest : List ℕ) → line_limit_fault 0 (lines (bytes ++ rest)) ≡ Some e) → r ≡ Err e → r ≡ Err fault.Read → ⊥
not_read_error r bytes e cut is other = not_read bytes e cut (same_error r e fault.Read is other)
