-- The text of a command, and the command that is read from it.
use Rattle.std.proofs.Common.{◌≡◌, ◌↔◌, IsTrue, IfSome, ℕ, ◌<◌, ◌^◌, ℤ, nat_abs, List, [], ◌∷◌, inl, inr, ◌⊎◌, true, false, not, ◌&&◌, cond, refl, sym, ◌∙◌, ap, subst, arith, nat_eq, Some, None, Option, option_map, option_and_then, codes, decimal}
use Rattle.std.specs.List.{AllByRecursion, join_with_byte}
use Rattle.std.specs.Option.{option_or}
use Rattle.std.specs.Str.{bytes_eq}
use Rattle.std.specs.Fmt.{signed_decimal}
use Rattle.std.proofs.lemmas.List.Elements.{All-nil, All-cons}
use Rattle.std.proofs.lemmas.List.Splits.{join_with_byte-slice_split}
use Rattle.std.proofs.lemmas.Slice.Eq.{bytes_eq-Decides}
use Rattle.esr_grammar.specs.Command.{Command, item, weighted_item, begin_update, begin_query, begin_strict_query, read, write, commit, abort, audit, totals, words, is_name, IsName, IsLimit, IsCommand, IsSyntaxOf, IsPlainWord, words_of, name_of, limit_in, int_of, one_of, two_of, three_of, four_of, both, plain_item_command, weighted_item_command, item_command, plain_begin_command, strict_query_command, begin_command, read_command, write_command, one_name_of, totals_command, command_of, command_by, reading, is_skipped, spelling, command_in, view, IsReadingOf}
use Rattle.esr_grammar.specs.declared.parse.Line.{Line}
use Rattle.esr_grammar.specs.declared.parse.Parsed.{Parsed}
use Rattle.esr_grammar.specs.declared.parse.Parsed.TheVariants as parsed
use Rattle.std.proofs.lemmas.Bool.{cases_Bool, and_parts, not-true, true≢false}
use Rattle.esr_grammar.proofs.Bytes.{lacks, name_lacks, number_lacks, int_lacks}
use Rattle.esr_grammar.proofs.Laws.{and_then_some, map_some, split_join, number_round_trip, number_found, int_round_trip, int_found}
use Rattle.std.proofs.lemmas.Grind.{common_steps}

-- ---- words without blanks

plain : (bs : List ℕ) → lacks 32 bs ≡ true → IsPlainWord bs
plain [] h = All-nil (λ b. nat_eq b 32 ≡ false)
plain (b ∷ bs) h =
    let parts = and_parts (not (nat_eq b 32)) (lacks 32 bs) h in
    All-cons (λ b. nat_eq b 32 ≡ false) b bs (not-true (nat_eq b 32) parts.0) (plain bs parts.1)

plain_name : (name : List ℕ) → IsName name → IsPlainWord name
plain_name name h = plain name (name_lacks 32 refl name h)

plain_number : (n : ℕ) → n < 10 ^ 19 → IsPlainWord (decimal n)
plain_number n small = plain (decimal n) (number_lacks 32 refl n small)

plain_int : (v : ℤ) → nat_abs v < 10 ^ 18 → IsPlainWord (signed_decimal v)
plain_int v small = plain (signed_decimal v) (int_lacks 32 refl refl v small)

-- ---- the text of a command is read as it

named : (name : List ℕ) → IsName name → name_of name ≡ Some name
named name h = rw h refl

found : (line k : List ℕ) (ws : List (List ℕ)) (c : Command) → line ≡ join_with_byte 32 (k ∷ ws) → IsPlainWord k → AllByRecursion IsPlainWord ws
    → command_of k ws ≡ Some c → reading line ≡ Some c
found line k ws c is first rest e = ap reading is ∙ ap command_by (split_join k ws first rest) ∙ e

pub spelled : (line : List ℕ) (c : Command) → IsSyntaxOf line c → reading line ≡ Some c
spelled line (item n v) h =
    found line (codes "item") (n ∷ signed_decimal v ∷ []) (item n v) h.1 (plain (codes "item") refl) (plain_name n h.0.0, (plain_int v h.0.1, tt))
    (rw (named n h.0.0, int_round_trip v h.0.1) refl)
spelled line (weighted_item n v w) h =
    found line (codes "item") (n ∷ signed_decimal v ∷ codes "weight" ∷ decimal w ∷ []) (weighted_item n v w) h.1 (plain (codes "item") refl)
    (plain_name n h.0.0, (plain_int v h.0.1, (plain (codes "weight") refl, (plain_number w h.0.2, tt))))
    (rw (named n h.0.0, int_round_trip v h.0.1, number_round_trip (10 ^ 19) w (omega arith) h.0.2) refl)
spelled line (begin_update n l) h =
    found line (codes "begin") (n ∷ codes "update" ∷ decimal l ∷ []) (begin_update n l) h.1 (plain (codes "begin") refl)
    (plain_name n h.0.0, (plain (codes "update") refl, (plain_number l h.0.1, tt))) (rw (named n h.0.0, number_round_trip (10 ^ 19) l (omega arith) h.0.1) refl)
spelled line (begin_query n l) h =
    found line (codes "begin") (n ∷ codes "query" ∷ decimal l ∷ []) (begin_query n l) h.1 (plain (codes "begin") refl)
    (plain_name n h.0.0, (plain (codes "query") refl, (plain_number l h.0.1, tt))) (rw (named n h.0.0, number_round_trip (10 ^ 19) l (omega arith) h.0.1) refl)
spelled line (begin_strict_query n l) h =
    found line (codes "begin") (n ∷ codes "query" ∷ decimal l ∷ codes "strict" ∷ []) (begin_strict_query n l) h.1 (plain (codes "begin") refl)
    (plain_name n h.0.0, (plain (codes "query") refl, (plain_number l h.0.1, (plain (codes "strict") refl, tt))))
    (rw (named n h.0.0, number_round_trip (10 ^ 19) l (omega arith) h.0.1) refl)
spelled line (read t x) h =
    found line (codes "read") (t ∷ x ∷ []) (read t x) h.1 (plain (codes "read") refl) (plain_name t h.0.0, (plain_name x h.0.1, tt)) (rw (named t h.0.0, named x h.0.1) refl)
spelled line (write t x v) h =
    found line (codes "write") (t ∷ x ∷ signed_decimal v ∷ []) (write t x v) h.1 (plain (codes "write") refl)
    (plain_name t h.0.0, (plain_name x h.0.1, (plain_int v h.0.2, tt))) (rw (named t h.0.0, named x h.0.1, int_round_trip v h.0.2) refl)
spelled line (commit t) h = found line (codes "commit") (t ∷ []) (commit t) h.1 (plain (codes "commit") refl) (plain_name t h.0, tt) (rw (named t h.0) refl)
spelled line (abort t) h = found line (codes "abort") (t ∷ []) (abort t) h.1 (plain (codes "abort") refl) (plain_name t h.0, tt) (rw (named t h.0) refl)
spelled line (audit t) h = found line (codes "audit") (t ∷ []) (audit t) h.1 (plain (codes "audit") refl) (plain_name t h.0, tt) (rw (named t h.0) refl)
spelled line totals h = found line (codes "totals") [] totals h.1 (plain (codes "totals") refl) tt refl

-- ---- a command that is read has the line as its text

pub name_found : (text name : List ℕ) → name_of text ≡ Some name → IsName name × (text ≡ name)
name_found text name e = grind (arith, cases_Bool (is_name text))

both_found : {A B C : Type 0} (f : A → B → C) (a : Option A) (b : Option B) (c : C) → both f a b ≡ Some c → (x : A) × (y : B) × (a ≡ Some x) × (b ≡ Some y) × (f x y ≡ c)
both_found f a b c e = grind (arith, and_then_some, option_map, map_some)

one_found : (ws : List (List ℕ)) (w : List ℕ) → one_of ws ≡ Some w → ws ≡ w ∷ []
one_found (a ∷ []) w e = let same : a ≡ w = cc in rw same refl
one_found _ w e = cc

two_found : (ws : List (List ℕ)) (p : List ℕ × List ℕ) → two_of ws ≡ Some p → ws ≡ p.0 ∷ p.1 ∷ []
two_found (a ∷ b ∷ []) p e = let given : List ℕ × List ℕ = (a, b) in let same : given ≡ p = cc in ap (λ (q : List ℕ × List ℕ). q.0 ∷ q.1 ∷ []) same
two_found _ p e = cc

three_found : (ws : List (List ℕ)) (p : List ℕ × List ℕ × List ℕ) → three_of ws ≡ Some p → ws ≡ p.0 ∷ p.1 ∷ p.2 ∷ []
three_found (a ∷ b ∷ c ∷ []) p e = let given : List ℕ × List ℕ × List ℕ = (a, b, c) in let same : given ≡ p = cc in ap (λ (q : List ℕ × List ℕ × List ℕ). q.0 ∷ q.1 ∷ q.2 ∷ []) same
three_found _ p e = cc

four_found : (ws : List (List ℕ)) (p : List ℕ × List ℕ × List ℕ × List ℕ) → four_of ws ≡ Some p → ws ≡ p.0 ∷ p.1 ∷ p.2 ∷ p.3 ∷ []
four_found (a ∷ b ∷ c ∷ d ∷ []) p e = grind (arith, common_steps)
four_found _ p e = cc

or_found : {A : Type 0} (a b : Option A) (c : A) → option_or a b ≡ Some c → (a ≡ Some c) ⊎ (b ≡ Some c)
or_found None b c e = inr e
or_found (Some x) b c e = inl e

same_two : {a b x y : List ℕ} → a ≡ x → b ≡ y → a ∷ b ∷ [] ≡ x ∷ y ∷ []
same_two {a} {b} {x} {y} e f = rw (e, f) refl

same_three : {a b c x y z : List ℕ} → a ≡ x → b ≡ y → c ≡ z → a ∷ b ∷ c ∷ [] ≡ x ∷ y ∷ z ∷ []
same_three {a} {b} {c} {x} {y} {z} e f g = rw (e, f, g) refl

same_four : {a b c d w x y z : List ℕ} → a ≡ w → b ≡ x → c ≡ y → d ≡ z → a ∷ b ∷ c ∷ d ∷ [] ≡ w ∷ x ∷ y ∷ z ∷ []
same_four {a} {b} {c} {d} {w} {x} {y} {z} e f g h = rw (e, f, g, h) refl

-- the words after a first word spell the command
abbrev IsKeywordOf : List ℕ → List (List ℕ) → Command → Type 0
IsKeywordOf k ws c = IsCommand c × (k ∷ ws ≡ words c)

plain_item_found : (ws : List (List ℕ)) (c : Command) → plain_item_command ws ≡ Some c → IsKeywordOf (codes "item") ws c
plain_item_found ws c e =
    let p = and_then_some (λ (q : List ℕ × List ℕ). both item (name_of q.0) (int_of q.1)) (two_of ws) c e in
    let b = both_found item (name_of p.0.0) (int_of p.0.1) c p.2 in
    let n = name_found p.0.0 b.0 b.2 in
    let v = int_found p.0.1 b.1 b.3 in
    subst (IsKeywordOf (codes "item") ws) b.4 ((n.0, v.0), ap (λ l. codes "item" ∷ l) (two_found ws p.0 p.1 ∙ same_two n.1 v.1))

weighted_item_found : (ws : List (List ℕ)) (c : Command) → weighted_item_command ws ≡ Some c → IsKeywordOf (codes "item") ws c
weighted_item_found ws c e =
    let p = and_then_some (λ (q : List ℕ × List ℕ × List ℕ × List ℕ). cond (bytes_eq q.2 (codes "weight"))
    (option_and_then (λ n. both (weighted_item n) (int_of q.1) (limit_in q.3)) (name_of q.0)) None) (four_of ws) c e in
    elim (cases_Bool (bytes_eq p.0.2 (codes "weight"))) [
      | inl t ↦
          let rest : option_and_then (λ n. both (weighted_item n) (int_of p.0.1) (limit_in p.0.3)) (name_of p.0.0) ≡ Some c = rw t at p.2 in
          let a = and_then_some (λ n. both (weighted_item n) (int_of p.0.1) (limit_in p.0.3)) (name_of p.0.0) c rest in
          let b = both_found (weighted_item a.0) (int_of p.0.1) (limit_in p.0.3) c a.2 in
          let n = name_found p.0.0 a.0 a.1 in
          let v = int_found p.0.1 b.0 b.2 in
          let w = number_found (10 ^ 19) p.0.3 b.1 b.3 in
          subst (IsKeywordOf (codes "item") ws) b.4 (
            (n.0, v.0, w.0),
            ap (λ l. codes "item" ∷ l) (four_found ws p.0 p.1 ∙ same_four n.1 v.1 ((bytes_eq-Decides p.0.2 (codes "weight")).0 t) w.1),
          )
      | inr f ↦ let none : None ≡ Some c = rw f at p.2 in cc
    ]

item_found : (ws : List (List ℕ)) (c : Command) → item_command ws ≡ Some c → IsKeywordOf (codes "item") ws c
item_found ws c e = elim (or_found (plain_item_command ws) (weighted_item_command ws) c e) [
  | inl h ↦ plain_item_found ws c h
  | inr h ↦ weighted_item_found ws c h
]

read_found : (ws : List (List ℕ)) (c : Command) → read_command ws ≡ Some c → IsKeywordOf (codes "read") ws c
read_found ws c e = grind (arith, and_then_some, both_found, name_found, codes "read", two_found, same_two)

write_found : (ws : List (List ℕ)) (c : Command) → write_command ws ≡ Some c → IsKeywordOf (codes "write") ws c
write_found ws c e =
    let p = and_then_some (λ (q : List ℕ × List ℕ × List ℕ). option_and_then (λ t. both (write t) (name_of q.1) (int_of q.2)) (name_of q.0)) (three_of ws) c e in
    let a = and_then_some (λ t. both (write t) (name_of p.0.1) (int_of p.0.2)) (name_of p.0.0) c p.2 in
    let b = both_found (write a.0) (name_of p.0.1) (int_of p.0.2) c a.2 in
    let t = name_found p.0.0 a.0 a.1 in
    let x = name_found p.0.1 b.0 b.2 in
    let v = int_found p.0.2 b.1 b.3 in
    subst (IsKeywordOf (codes "write") ws) b.4 ((t.0, x.0, v.0), ap (λ l. codes "write" ∷ l) (three_found ws p.0 p.1 ∙ same_three t.1 x.1 v.1))

begin_by : (kind : List ℕ) (f : List ℕ → ℕ → Command) (ws : List (List ℕ)) (p : List ℕ × List ℕ × List ℕ) (c : Command) → ws ≡ p.0 ∷ p.1 ∷ p.2 ∷ [] → bytes_eq p.1 kind ≡ true
    → both f (name_of p.0) (limit_in p.2) ≡ Some c → ((n : List ℕ) (l : ℕ) → IsName n → IsLimit l → codes "begin" ∷ ws ≡ codes "begin" ∷ n ∷ kind ∷ decimal l ∷ [] → IsKeywordOf (codes "begin") ws (f n l))
    → IsKeywordOf (codes "begin") ws c
begin_by kind f ws p c three is_kind e spells =
    grind (arith, both_found f (name_of p.0) (limit_in p.2) c e, name_found, number_found, codes "begin", same_three, bytes_eq-Decides p.1 kind)

plain_begin_found : (ws : List (List ℕ)) (c : Command) → plain_begin_command ws ≡ Some c → IsKeywordOf (codes "begin") ws c
plain_begin_found ws c e =
    let p = and_then_some (λ (q : List ℕ × List ℕ × List ℕ). cond (bytes_eq q.1 (codes "update")) (both begin_update (name_of q.0) (limit_in q.2))
    (cond (bytes_eq q.1 (codes "query")) (both begin_query (name_of q.0) (limit_in q.2)) None)) (three_of ws) c e in
    let three = three_found ws p.0 p.1 in
    elim (cases_Bool (bytes_eq p.0.1 (codes "update"))) [
      | inl t ↦ begin_by (codes "update") begin_update ws p.0 c three t (rw t at p.2) (λ n l name limit is. ((name, limit), is))
      | inr f ↦
          let other : cond (bytes_eq p.0.1 (codes "query")) (both begin_query (name_of p.0.0) (limit_in p.0.2)) None ≡ Some c = rw f at p.2 in
          elim (cases_Bool (bytes_eq p.0.1 (codes "query"))) [
            | inl t ↦ begin_by (codes "query") begin_query ws p.0 c three t (rw t at other) (λ n l name limit is. ((name, limit), is))
            | inr g ↦ let none : None ≡ Some c = rw g at other in cc
          ]
    ]

strict_query_found : (ws : List (List ℕ)) (c : Command) → strict_query_command ws ≡ Some c → IsKeywordOf (codes "begin") ws c
strict_query_found ws c e =
    let p = and_then_some (λ (q : List ℕ × List ℕ × List ℕ × List ℕ). cond (bytes_eq q.1 (codes "query") && bytes_eq q.3 (codes "strict"))
    (both begin_strict_query (name_of q.0) (limit_in q.2)) None) (four_of ws) c e in
    elim (cases_Bool (bytes_eq p.0.1 (codes "query") && bytes_eq p.0.3 (codes "strict"))) [
      | inl t ↦
          let tests = and_parts (bytes_eq p.0.1 (codes "query")) (bytes_eq p.0.3 (codes "strict")) t in
          let rest : both begin_strict_query (name_of p.0.0) (limit_in p.0.2) ≡ Some c = rw t at p.2 in
          grind (
            arith,
            both_found begin_strict_query (name_of p.0.0) (limit_in p.0.2) c rest,
            name_found,
            number_found,
            codes "begin",
            four_found ws p.0 p.1,
            same_four,
            bytes_eq-Decides p.0.1 (codes "query"),
            bytes_eq-Decides p.0.3 (codes "strict"),
          )
      | inr f ↦ let none : None ≡ Some c = rw f at p.2 in cc
    ]

begin_found : (ws : List (List ℕ)) (c : Command) → begin_command ws ≡ Some c → IsKeywordOf (codes "begin") ws c
begin_found ws c e = elim (or_found (plain_begin_command ws) (strict_query_command ws) c e) [
  | inl h ↦ plain_begin_found ws c h
  | inr h ↦ strict_query_found ws c h
]

totals_found : (ws : List (List ℕ)) (c : Command) → totals_command ws ≡ Some c → IsKeywordOf (codes "totals") ws c
totals_found [] c e = let same : totals ≡ c = cc in subst (IsKeywordOf (codes "totals") []) same (tt, refl)
totals_found (w ∷ ws) c e = cc

one_name_found : (ws : List (List ℕ)) (t : List ℕ) → one_name_of ws ≡ Some t → IsName t × (ws ≡ t ∷ [])
one_name_found ws t e = grind (arith, and_then_some name_of (one_of ws) t e, name_found, one_found)

commit_found : (ws : List (List ℕ)) (c : Command) → option_map commit (one_name_of ws) ≡ Some c → IsKeywordOf (codes "commit") ws c
commit_found ws c e = grind (arith, map_some commit (one_name_of ws) c e, one_name_found, codes "commit")

abort_found : (ws : List (List ℕ)) (c : Command) → option_map abort (one_name_of ws) ≡ Some c → IsKeywordOf (codes "abort") ws c
abort_found ws c e = grind (arith, map_some abort (one_name_of ws) c e, one_name_found, codes "abort")

audit_found : (ws : List (List ℕ)) (c : Command) → option_map audit (one_name_of ws) ≡ Some c → IsKeywordOf (codes "audit") ws c
audit_found ws c e = grind (arith, map_some audit (one_name_of ws) c e, one_name_found, codes "audit")

-- one of two, by the first word
choose : (k word : List ℕ) (ws : List (List ℕ)) (a b : Option Command) (c : Command) → cond (bytes_eq k word) a b ≡ Some c
    → (a ≡ Some c → IsKeywordOf word ws c) → (b ≡ Some c → IsKeywordOf k ws c) → IsKeywordOf k ws c
choose k word ws a b c e here there = grind (arith, cases_Bool (bytes_eq k word), word, bytes_eq-Decides k word)

following : (k : List ℕ) (ws : List (List ℕ)) (c : Command) → command_of k ws ≡ Some c → IsKeywordOf k ws c
following k ws c e =
    choose k (codes "totals") ws _ _ c e (totals_found ws c) (λ e.
    choose k (codes "read") ws _ _ c e (read_found ws c) (λ e.
    choose k (codes "write") ws _ _ c e (write_found ws c) (λ e.
    choose k (codes "begin") ws _ _ c e (begin_found ws c) (λ e.
    choose k (codes "item") ws _ _ c e (item_found ws c) (λ e.
    choose k (codes "commit") ws _ _ c e (commit_found ws c) (λ e.
    choose k (codes "abort") ws _ _ c e (abort_found ws c) (λ e.
    choose k (codes "audit") ws _ _ c e (audit_found ws c) (λ e. cc))))))))

by_words : (ws : List (List ℕ)) (c : Command) → command_by ws ≡ Some c → IsCommand c × (ws ≡ words c)
by_words [] c e = cc
by_words (k ∷ ws) c e = following k ws c e

pub read_back : (line : List ℕ) (c : Command) → reading line ≡ Some c → IsSyntaxOf line c
read_back line c e = grind (arith, by_words (words_of line) c e, join_with_byte-slice_split 32 line)

-- ---- a skipped line is not a command

first_byte : (c : Command) → is_skipped (spelling c) ≡ false
first_byte (item n v) = refl
first_byte (weighted_item n v w) = refl
first_byte (begin_update n l) = refl
first_byte (begin_query n l) = refl
first_byte (begin_strict_query n l) = refl
first_byte (read t x) = refl
first_byte (write t x v) = refl
first_byte (commit t) = refl
first_byte (abort t) = refl
first_byte (audit t) = refl
first_byte totals = refl

pub not_skipped : (line : List ℕ) (c : Command) → IsSyntaxOf line c → is_skipped line ≡ false
not_skipped line c h = ap is_skipped h.1 ∙ first_byte c

pub is_skipped_as_read : (line : List ℕ) (p : Parsed) → IsReadingOf line p → (p ≡ parsed.Skipped) ↔ IsTrue (is_skipped line)
is_skipped_as_read line parsed.Skipped h = (λ e. h, λ t. refl)
is_skipped_as_read line parsed.NotACommand h = (λ e. cc, λ t. absurd (true≢false (sym t ∙ h.0)))
is_skipped_as_read line (parsed.Command l) h = (λ e. cc, λ t. absurd (true≢false (sym t ∙ h.0)))

pub is_command_as_read : (line : List ℕ) (p : Parsed) → IsReadingOf line p → (c : Command) → (command_in p ≡ Some c) ↔ IsSyntaxOf line c
is_command_as_read line parsed.Skipped h c = (λ e. cc, λ k. absurd (true≢false (sym h ∙ not_skipped line c k)))
is_command_as_read line parsed.NotACommand h c = (λ e. cc, λ k. sym h.1 ∙ spelled line c k)
is_command_as_read line (parsed.Command l) h c = (λ e. read_back line c (h.1 ∙ e), λ k. sym h.1 ∙ spelled line c k)

-- a line that is the text of a command is read as the command
pub reading_if_some : (line : List ℕ) (found : Option Line) → IfSome found (λ l. IsSyntaxOf line (view l))
    → IfSome found (λ l. IsReadingOf line (parsed.Command l))
reading_if_some line (Some l) h = (not_skipped line (view l) h, spelled line (view l) h)
reading_if_some line None h = tt
