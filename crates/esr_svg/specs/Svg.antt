-- What an SVG element is.
use Rattle.std.specs.Prelude.{◌≡◌, ◌≢◌, ◌≤◌, ℕ, List, [], ◌∷◌, ◌++◌, codes, drop, length}
use Rattle.esr_text.specs.Markup.{Attributes, IsMarkup}

-- no place of the text begins with the word
abbrev pub Lacks : List ℕ → List ℕ → Type 0
Lacks word text = (i : ℕ) → i ≤ length text → (rest : List ℕ) → drop i text ≢ word ++ rest

-- what stands within the element: each element that is opened there is closed, and none has its name
abbrev pub IsWithin : List ℕ → Type 0
IsWithin body = IsMarkup body × Lacks (codes "<svg") body × Lacks (codes "</svg") body

-- one element of the name svg, with its attributes in quotes
abbrev pub IsSvg : List ℕ → Type 0
IsSvg text = (attributes : List ℕ) × (body : List ℕ)
    × (text ≡ codes "<svg" ++ (attributes ++ (codes ">" ++ (body ++ (codes "</svg>" ++ 10 ∷ [])))))
    × Attributes attributes × IsWithin body
