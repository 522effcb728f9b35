-- Markup, as SVG and pages use it: each element is closed in its turn, and the values of attributes are in quotes. It
-- is a subset of XML: no comments, and no character that would have to be escaped.
use Rattle.std.specs.Prelude.{◌≡◌, ◌≢◌, ◌<◌, ◌≤◌, ◌⊎◌, ℕ, List, [], ◌∷◌, ◌++◌, codes, length, slice_index}

-- no byte of the text is that one
abbrev pub HasNo : ℕ → List ℕ → Type 0
HasNo byte text = (i : ℕ) → i < length text → slice_index text i ≢ byte

-- neither `<` nor `&`
abbrev pub IsPlain : List ℕ → Type 0
IsPlain text = HasNo 60 text × HasNo 38 text

-- a letter, a digit or a hyphen
abbrev pub IsNameByte : ℕ → Type 0
IsNameByte c = ((97 ≤ c) × (c ≤ 122)) ⊎ (((65 ≤ c) × (c ≤ 90)) ⊎ (((48 ≤ c) × (c ≤ 57)) ⊎ (c ≡ 45)))

abbrev pub IsName : List ℕ → Type 0
IsName name = (0 < length name) × ((i : ℕ) → i < length name → IsNameByte (slice_index name i))

-- attributes: before each a blank, then its name, `=`, and its value in quotes, which has no quote in it
pub data Attributes : List ℕ → Type 0 where
  none : Attributes []
  one : (name value rest : List ℕ) → IsName name → IsPlain value → HasNo 39 value → Attributes rest
      → Attributes (32 ∷ (name ++ (codes "='" ++ (value ++ (39 ∷ rest)))))

-- the elements open before a tag, the content of the tag, and the elements open after it: the names of the open
-- elements, the outermost first, each after a slash
pub data Tag : List ℕ → List ℕ → List ℕ → Type 0 where
  opens : (path name attributes : List ℕ) → IsName name → Attributes attributes
      → Tag path (name ++ attributes) (path ++ (47 ∷ name))
  empty : (path name attributes : List ℕ) → IsName name → Attributes attributes
      → Tag path ((name ++ attributes) ++ (47 ∷ [])) path
  closes : (path name : List ℕ) → IsName name → Tag (path ++ (47 ∷ name)) (47 ∷ name) path

-- a text that closes, one after another, all elements that are open before it and all that it opens
pub data Closes : List ℕ → List ℕ → Type 0 where
  ends : (plain : List ℕ) → IsPlain plain → Closes [] plain
  next : (path plain tag remainder rest : List ℕ) → IsPlain plain → Tag path tag remainder → Closes remainder rest
      → Closes path (plain ++ (60 ∷ (tag ++ (62 ∷ rest))))

-- the permitted content of an element: it closes what it opens
abbrev pub IsMarkup : List ℕ → Type 0
IsMarkup text = Closes [] text
