-- The text of a command is one line, and is parsed as that command.
use Rattle.std.proofs.Common.{◌≡◌, ℕ, ◌+◌, ◌<◌, ◌^◌, ℤ, nat_abs, List, [], ◌∷◌, ◌++◌, Bool, true, not, ◌&&◌, nat_eq, Option, Some, None, option_and_then, refl, ◌∙◌, ap, arith, length, codes, decimal, append_assoc}
use Rattle.std.specs.List.{AllByRecursion, cons_option, filter_map, join_with_byte, list_all}
use Rattle.std.specs.Fmt.{signed_decimal}
use Rattle.std.proofs.lemmas.Bool.{and_parts, not-true}
use Rattle.std.proofs.lemmas.List.Folds.{list_all-append}
use Rattle.esr_grammar.specs.Command.{Command, item, weighted_item, begin_update, begin_query, begin_strict_query, read, write, commit, abort, audit, totals, words, spelling, is_name, IsName, IsCommand, reading}
use Rattle.esr_grammar.specs.Lines.{lines, line_len}
use Rattle.esr_grammar.proofs.Cutting.{lines-line}
use Rattle.esr_grammar.proofs.Bytes.{int_lacks, name_lacks, number_lacks}
use Rattle.esr_grammar.proofs.Spelling.{spelled}
use Rattle.esr_dump.specs.RoundTrip.{found_in}
use Rattle.esr_dump.specs.Lines.{line_of}

abbrev no_feed : ℕ → Bool
no_feed b = not (nat_eq b 10)

name_line : (name : List ℕ) → IsName name → list_all no_feed name ≡ true
name_line name h = name_lacks 10 refl name h

number_line : (n : ℕ) → n < 10 ^ 19 → list_all no_feed (decimal n) ≡ true
number_line n small = number_lacks 10 refl n small

int_line : (v : ℤ) → nat_abs v < 10 ^ 18 → list_all no_feed (signed_decimal v) ≡ true
int_line v small = int_lacks 10 refl refl v small

joined : (ws : List (List ℕ)) → AllByRecursion (λ w. list_all no_feed w ≡ true) ws → list_all no_feed (join_with_byte 32 ws) ≡ true
joined [] all = refl
joined (w ∷ []) all = all.0
joined (w ∷ v ∷ vs) all =
    list_all-append no_feed w (32 ∷ join_with_byte 32 (v ∷ vs)) ∙ rw (all.0, joined (v ∷ vs) all.1) refl

one_line : (c : Command) → IsCommand c → list_all no_feed (spelling c) ≡ true
one_line (item n v) h = joined (words (item n v)) (refl, (name_line n h.0, (int_line v h.1, tt)))
one_line (weighted_item n v w) h =
    joined (words (weighted_item n v w)) (refl, (name_line n h.0, (int_line v h.1, (refl, (number_line w h.2, tt)))))
one_line (begin_update n l) h = joined (words (begin_update n l)) (refl, (name_line n h.0, (refl, (number_line l h.1, tt))))
one_line (begin_query n l) h = joined (words (begin_query n l)) (refl, (name_line n h.0, (refl, (number_line l h.1, tt))))
one_line (begin_strict_query n l) h =
    joined (words (begin_strict_query n l)) (refl, (name_line n h.0, (refl, (number_line l h.1, (refl, tt)))))
one_line (read t x) h = joined (words (read t x)) (refl, (name_line t h.0, (name_line x h.1, tt)))
one_line (write t x v) h = joined (words (write t x v)) (refl, (name_line t h.0, (name_line x h.1, (int_line v h.2, tt))))
one_line (commit t) h = joined (words (commit t)) (refl, (name_line t h, tt))
one_line (abort t) h = joined (words (abort t)) (refl, (name_line t h, tt))
one_line (audit t) h = joined (words (audit t)) (refl, (name_line t h, tt))
one_line totals h = refl

all_before : (bs : List ℕ) → list_all no_feed bs ≡ true → line_len bs ≡ length bs
all_before [] h = refl
all_before (b ∷ bs) h =
    let parts = and_parts (no_feed b) (list_all no_feed bs) h in
    let here : line_len (b ∷ bs) ≡ 1 + line_len bs = rw (not-true (nat_eq b 10) parts.0) refl in
    omega (arith, here, all_before bs parts.1)

pub next_line : (c : Command) (rest : List ℕ) → IsCommand c → lines (line_of c ++ rest) ≡ spelling c ∷ lines rest
next_line c rest is =
    ap lines (append_assoc (spelling c) (10 ∷ []) rest) ∙ lines-line (spelling c) rest (all_before (spelling c) (one_line c is))

module _ {X : Type 0} (of : Command → Option X) (c : Command) (rest : List ℕ) (is : IsCommand c) where
  pub found_next : found_in of (line_of c ++ rest) ≡ cons_option (of c) (found_in of rest)
  found_next =
      ap (filter_map (λ line. option_and_then of (reading line))) (next_line c rest is)
      ∙ ap (λ (r : Option Command). cons_option (option_and_then of r) (found_in of rest)) (spelled (spelling c) c (is, refl))
