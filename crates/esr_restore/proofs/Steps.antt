-- One line of a script: the state after a spelled command is that after its execution.
use Rattle.std.proofs.Common.{◌≡◌, ℕ, ◌+◌, ◌≤◌, ◌<◌, ◌^◌, ℤ, pos, negsuc, nat_abs, List, [], ◌∷◌, ◌++◌, false, Result, Ok, Err, refl, ◌∙◌, ap, arith, length, codes, decimal, ne_eqb, append_assoc}
use Rattle.std.specs.List.{join_with_byte}
use Rattle.std.specs.Fmt.{signed_decimal}
use Rattle.std.proofs.lemmas.Bool.{and_parts, le-ltb, leb-true}
use Rattle.std.proofs.lemmas.List.{length-append}
use Rattle.std.proofs.lemmas.Int.{ints}
use Rattle.std.proofs.lemmas.Fmt.{length-decimal-le, length_signed_le}
use Rattle.esr_grammar.specs.declared.limits.TheConstants.{MAX_LINES, MAX_LINE_BYTES}
use Rattle.esr_grammar.specs.Lines.{lines}
use Rattle.esr_grammar.specs.Command.{Command, item, weighted_item, begin_update, begin_query, begin_strict_query, read, write, commit, abort, audit, totals, spelling, is_skipped, IsName, IsCommand}
use Rattle.esr_grammar.proofs.Spelling.{spelled}
use Rattle.esr_script.specs.declared.fault.RunFault.{RunFault}
use Rattle.esr_script.specs.Text.{Outcome, ScriptState, answer, execute, outcome_from, preceded_by, state_after, stopped}
use Rattle.esr_dump.specs.Lines.{line_of}
use Rattle.esr_dump.proofs.Feeds.{next_line}

not_skipped : (c : Command) → is_skipped (spelling c) ≡ false
not_skipped (item n v) = refl
not_skipped (weighted_item n v w) = refl
not_skipped (begin_update n l) = refl
not_skipped (begin_query n l) = refl
not_skipped (begin_strict_query n l) = refl
not_skipped (read t x) = refl
not_skipped (write t x v) = refl
not_skipped (commit t) = refl
not_skipped (abort t) = refl
not_skipped (audit t) = refl
not_skipped totals = refl

executed : (s : ScriptState) (c : Command) → IsCommand c → answer s (spelling c) ≡ execute s c
executed s c is = rw (not_skipped c, spelled (spelling c) c (is, refl)) refl

-- ---- a spelled command fits into a line

name_fits : (name : List ℕ) → IsName name → length name ≤ 16
name_fits [] is = omega arith
name_fits (b ∷ bs) is = omega (arith, leb-true (length bs) 15 (and_parts _ _ (and_parts _ _ is).1).0)

number_fits : (n : ℕ) → n < 10 ^ 19 → length (decimal n) ≤ 19
number_fits n small = length-decimal-le 19 n (omega arith) (omega arith) (omega arith)

int_fits : (v : ℤ) → nat_abs v < 10 ^ 18 → length (signed_decimal v) ≤ 20
int_fits (pos n) small = length_signed_le 19 (pos n) (omega (arith, ints, small)) (omega (arith, ints, small))
int_fits (negsuc n) small = length_signed_le 19 (negsuc n) (omega (arith, ints, small)) (omega (arith, ints, small))

-- the length of some words with a blank between two of them
two_words : (a b : List ℕ) → length (join_with_byte 32 (a ∷ b ∷ [])) ≡ length a + length b + 1
two_words a b = omega (arith, length-append a (32 ∷ b))

more_words : (a b : List ℕ) (ws : List (List ℕ)) → length (join_with_byte 32 (a ∷ b ∷ ws)) ≡ length a + 1 + length (join_with_byte 32 (b ∷ ws))
more_words a b ws = omega (arith, length-append a (32 ∷ join_with_byte 32 (b ∷ ws)))

line_fits : (c : Command) → IsCommand c → length (spelling c) ≤ 200
line_fits (item n v) is =
    omega (arith, more_words (codes "item") n (signed_decimal v ∷ []), two_words n (signed_decimal v), name_fits n is.0, int_fits v is.1)
line_fits (weighted_item n v w) is =
    omega (
      arith,
      more_words (codes "item") n (signed_decimal v ∷ codes "weight" ∷ decimal w ∷ []),
      more_words n (signed_decimal v) (codes "weight" ∷ decimal w ∷ []),
      more_words (signed_decimal v) (codes "weight") (decimal w ∷ []),
      two_words (codes "weight") (decimal w),
      name_fits n is.0,
      int_fits v is.1,
      number_fits w is.2,
    )
line_fits (begin_update n l) is =
    omega (arith, more_words (codes "begin") n (codes "update" ∷ decimal l ∷ []), more_words n (codes "update") (decimal l ∷ []), two_words (codes "update") (decimal l), name_fits n is.0, number_fits l is.1)
line_fits (begin_query n l) is =
    omega (arith, more_words (codes "begin") n (codes "query" ∷ decimal l ∷ []), more_words n (codes "query") (decimal l ∷ []), two_words (codes "query") (decimal l), name_fits n is.0, number_fits l is.1)
line_fits (begin_strict_query n l) is =
    omega (
      arith,
      more_words (codes "begin") n (codes "query" ∷ decimal l ∷ codes "strict" ∷ []),
      more_words n (codes "query") (decimal l ∷ codes "strict" ∷ []),
      more_words (codes "query") (decimal l) (codes "strict" ∷ []),
      two_words (decimal l) (codes "strict"),
      name_fits n is.0,
      number_fits l is.1,
    )
line_fits (read t x) is = omega (arith, more_words (codes "read") t (x ∷ []), two_words t x, name_fits t is.0, name_fits x is.1)
line_fits (write t x v) is =
    omega (arith, more_words (codes "write") t (x ∷ signed_decimal v ∷ []), more_words t x (signed_decimal v ∷ []), two_words x (signed_decimal v), name_fits t is.0, name_fits x is.1, int_fits v is.2)
line_fits (commit t) is = omega (arith, two_words (codes "commit") t, name_fits t is)
line_fits (abort t) is = omega (arith, two_words (codes "abort") t, name_fits t is)
line_fits (audit t) is = omega (arith, two_words (codes "audit") t, name_fits t is)
line_fits totals is = omega arith

-- ---- states one after another

-- A text of k lines leads from one state to another, without a fault.
abbrev pub Leads : ScriptState → List ℕ → ℕ → ScriptState → Type 0
Leads s text k next = (rest : List ℕ) (count : ℕ) → count + k ≤ MAX_LINES
    → (state_after s (lines (text ++ rest)) ≡ state_after next (lines rest))
    × ((outcome_from count s (lines (text ++ rest))).fault ≡ (outcome_from (count + k) next (lines rest)).fault)

pub leads_nowhere : (s : ScriptState) → Leads s [] 0 s
leads_nowhere s rest count fits = (refl, ap (λ (n : ℕ). (outcome_from n s (lines rest)).fault) (omega arith))

pub leads_on : (s middle next : ScriptState) (text more : List ℕ) (k j : ℕ) → Leads s text k middle → Leads middle more j next → Leads s (text ++ more) (k + j) next
leads_on s middle next text more k j first second rest count fits =
    let joined : (text ++ more) ++ rest ≡ text ++ (more ++ rest) = append_assoc text more rest in
    let one = first (more ++ rest) count (omega (arith, fits)) in
    let two = second rest (count + k) (omega (arith, fits)) in (
      ap (λ (t : List ℕ). state_after s (lines t)) joined ∙ (one.0 ∙ two.0),
      ap (λ (t : List ℕ). (outcome_from count s (lines t)).fault) joined ∙ (one.1 ∙ (two.1 ∙ ap (λ (n : ℕ). (outcome_from n next (lines rest)).fault) (omega arith))),
    )

-- the line of a command leads to the state that its execution leads to
pub leads_by_line : (s next : ScriptState) (c : Command) (text : List ℕ) → IsCommand c → execute s c ≡ Ok (next, text) → Leads s (line_of c) 1 next
leads_by_line s next c text is leads rest count fits =
    let answered : answer s (spelling c) ≡ Ok (next, text) = executed s c is ∙ leads in
    let state : Result (ScriptState × List ℕ) RunFault → ScriptState = λ r. state_after (elim r [ Ok n ↦ n.0 | Err f ↦ s ]) (lines rest) in
    let goes : Result (ScriptState × List ℕ) RunFault → Outcome = λ r. elim r [ Ok n ↦ preceded_by n.1 (outcome_from (count + 1) n.0 (lines rest)) | Err f ↦ stopped f ] in (
      ap (state_after s) (next_line c rest is) ∙ ap state answered,
      ap (λ (ls : List (List ℕ)). (outcome_from count s ls).fault) (next_line c rest is)
          ∙ (rw (ne_eqb count MAX_LINES (λ same. omega (arith, same, fits)), le-ltb MAX_LINE_BYTES (length (spelling c)) (line_fits c is)) refl ∙ ap (λ (r : Result (ScriptState × List ℕ) RunFault). (goes r).fault) answered),
    )
