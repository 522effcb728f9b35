-- The text of the blocks, piece after piece.
use Rattle.std.proofs.Common.{◌≡◌, ℕ, ◌+◌, ◌<◌, suc, List, [], ◌∷◌, ◌++◌, All, length, get_or, flat_map, Result, Ok, Err, IfOk, Vec, Global, refl, ap, ap₂, sym, subst, ◌∙◌, arith, append_assoc, append-nil}
use Rattle.std.specs.declared.alloc.AllocError.{AllocError}
use Rattle.std.proofs.lemmas.Grind.{flat_map-append}
use Rattle.std.specs.Iterator.{Yields}
use Rattle.std.specs.Vec.Iter.{into_iter_items, into_iter_len, into_iter_steps}
use Rattle.std.specs.declared.vec.IntoIter.{IntoIter}
use Rattle.esr_plan.specs.Blocks.{Answered}
use Rattle.esr_plan.specs.Text.{block_text, blocks_text}
use Rattle.esr_drive.specs.Pieces.{ArePieces}

abbrev pub Piece : Type 0
Piece = Result (Vec ℕ Global) AllocError

-- the text of a piece, if its allocation succeeded
abbrev pub piece_text : Piece → List ℕ
piece_text (Ok text) = text.items
piece_text (Err e) = []

abbrev pub IsMade : Piece → Type 0
IsMade (Ok text) = Unit {0}
IsMade (Err e) = ⊥

-- the items of an iterator over a vector, once it has none left
none_left : {X : Type 0} (xs : List X) → length xs ≡ 0 → xs ≡ []
none_left [] len = refl
none_left (x ∷ xs) len = absurd (omega (arith, len))

yielded_front : {X A : Type 0} (it : IntoIter X A) (xs : List X) (now : IntoIter X A) → Yields into_iter_steps it xs now → into_iter_items it ≡ xs ++ into_iter_items now
yielded_front it [] now steps = ap into_iter_items steps
yielded_front it (x ∷ xs) now steps = steps.1.0 ∙ ap (λ ys. x ∷ ys) (yielded_front steps.0 xs now steps.2)

pub yielded_all : {X A : Type 0} (it : IntoIter X A) (xs : List X) (now : IntoIter X A) → Yields into_iter_steps it xs now → into_iter_len now ≡ 0 → xs ≡ into_iter_items it
yielded_all it xs now steps len =
    sym (append-nil xs) ∙ (ap (λ l. xs ++ l) (sym (none_left (into_iter_items now) (sym now.rest.ok.0 ∙ len))) ∙ sym (yielded_front it xs now steps))

-- one piece more
pub piece_more : (pieces : List Piece) (lines : Vec ℕ Global) (old mid all : List ℕ) → mid ≡ old ++ flat_map piece_text pieces → all ≡ mid ++ lines.items
    → all ≡ old ++ flat_map piece_text (pieces ++ Ok lines ∷ [])
piece_more pieces lines old mid all so_far more =
    more ∙ (ap (λ l. l ++ lines.items) so_far
    ∙ (append_assoc old (flat_map piece_text pieces) lines.items
    ∙ ap (λ l. old ++ l) (sym (flat_map-append piece_text pieces (Ok lines ∷ []) ∙ ap (λ l. flat_map piece_text pieces ++ l) (append-nil lines.items)))))

-- the pieces from number k on
pieces_from : (names : List (List ℕ)) (k : ℕ) (blocks : List (List Answered)) (pieces : List Piece) → length pieces ≡ length blocks
    → ((i : ℕ) (d : Piece) → i < length blocks → IfOk (get_or pieces i d) (λ text. text.items ≡ block_text names (k + i) (get_or blocks i [])))
    → All IsMade pieces → flat_map piece_text pieces ≡ blocks_text names k blocks
pieces_from names k [] [] len each made = refl
pieces_from names k [] (p ∷ pieces) len each made = absurd (omega (arith, len))
pieces_from names k (b ∷ blocks) [] len each made = absurd (omega (arith, len))
pieces_from names k (b ∷ blocks) (Err e ∷ pieces) len each made = absurd (made 0 (Err e) (omega arith))
pieces_from names k (b ∷ blocks) (Ok text ∷ pieces) len each made =
    let here : text.items ≡ block_text names k b = each 0 (Ok text) (omega arith) ∙ ap (λ n. block_text names n b) (omega arith) in
    let next : (i : ℕ) → k + suc i ≡ k + 1 + i = λ i. omega arith in
    ap₂ (λ x y. x ++ y) here
    (pieces_from names (k + 1) blocks pieces (omega (arith, len))
    (λ i d lt. subst (λ n. IfOk (get_or pieces i d) (λ t. t.items ≡ block_text names n (get_or blocks i []))) (next i) (each (suc i) d (omega (arith, lt))))
    (λ i x lt. made (suc i) x (omega (arith, lt))))

pub pieces_all : (names : List (List ℕ)) (blocks : List (List Answered)) (pieces : List Piece) → ArePieces names blocks pieces → All IsMade pieces
    → flat_map piece_text pieces ≡ blocks_text names 0 blocks
pieces_all names blocks pieces are made =
    pieces_from names 0 blocks pieces are.every (λ i d lt. subst (λ n. IfOk (get_or pieces i d) (λ text. text.items ≡ block_text names n (get_or blocks i []))) (omega arith) (are.each i d lt)) made
