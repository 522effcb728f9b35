-- How markup is composed: equations of its parts, as the code has them, lead to the definitions.
use Rattle.std.proofs.Common.{◌≡◌, ℕ, ◌==◌, List, [], ◌∷◌, ◌++◌, length, true, sym, ◌∙◌, ap, subst, arith}
use Rattle.std.proofs.lemmas.Bool.{eqb-true}
use Rattle.std.specs.Prelude.{codes}
use Rattle.esr_text.specs.Markup.{Attributes, none, one, Tag, opens, empty, closes, Closes, ends, next, IsMarkup, HasNo, IsName, IsPlain}

-- an attribute before others
pub attribute_before : (text attribute name quoted value remainder : List ℕ)
    → text ≡ 32 ∷ attribute → attribute ≡ name ++ (codes "='" ++ quoted) → quoted ≡ value ++ (39 ∷ remainder)
    → IsName name → IsPlain value → HasNo 39 value → Attributes remainder → Attributes text
attribute_before text attribute name quoted value remainder e1 e2 e3 named plain unquoted rest =
    subst Attributes
    (sym (e1 ∙ ap (λ (a : List ℕ). 32 ∷ a) (e2 ∙ ap (λ (q : List ℕ). name ++ (codes "='" ++ q)) e3)))
    (one name value remainder named plain unquoted rest)

-- a tag that closes the innermost element
pub closing : (path name outer remainder : List ℕ) → path ≡ outer ++ (47 ∷ name) → remainder ≡ outer → IsName name
    → Tag path (47 ∷ name) remainder
closing path name outer remainder e b named = rw (e, b) (closes outer name named)

-- a tag that is a whole element
pub single : (path tag element name attributes remainder : List ℕ) → tag ≡ element ++ (47 ∷ [])
    → element ≡ name ++ attributes → remainder ≡ path → IsName name → Attributes attributes → Tag path tag remainder
single path tag element name attributes remainder t e b named given = rw (t, e, b) (empty path name attributes named given)

-- a tag that opens an element
pub starting : (path tag name attributes remainder : List ℕ) → tag ≡ name ++ attributes → remainder ≡ path ++ (47 ∷ name)
    → IsName name → Attributes attributes → Tag path tag remainder
starting path tag name attributes remainder t b named given = rw (t, b) (opens path name attributes named given)

-- a text after a tag
pub continuing : (path text plain tag remainder rest : List ℕ) → text ≡ plain ++ (60 ∷ (tag ++ (62 ∷ rest)))
    → IsPlain plain → Tag path tag remainder → Closes remainder rest → Closes path text
continuing path text plain tag remainder rest e flat tagged closed = rw e (next path plain tag remainder rest flat tagged closed)

-- no attributes
pub none_of : (text : List ℕ) → (length text == 0) ≡ true → Attributes text
none_of [] e = none
none_of (c ∷ text) e = absurd (let z : length (c ∷ text) ≡ 0 = eqb-true (length (c ∷ text)) 0 e in omega arith)

-- the end of a text
pub ending : (path text : List ℕ) → (length path == 0) ≡ true → IsPlain text → Closes path text
ending [] text e plain = ends text plain
ending (c ∷ path) text e plain = absurd (let z : length (c ∷ path) ≡ 0 = eqb-true (length (c ∷ path)) 0 e in omega arith)

-- nothing at all
pub nothing : (text : List ℕ) → text ≡ [] → IsMarkup text
nothing text e = rw e (ends [] ((λ i within here. absurd (omega arith)), (λ i within here. absurd (omega arith))))
