-- What a page is.
use Rattle.std.specs.Prelude.{◌≡◌, ℕ, List, [], ◌∷◌, ◌++◌, codes}
use Rattle.esr_text.specs.Markup.{IsMarkup}

-- one document of one element, in which each other element is closed
abbrev pub IsPage : List ℕ → Type 0
IsPage text = (body : List ℕ)
    × (text ≡ codes "<!DOCTYPE html><html lang='en'>" ++ (body ++ (codes "</html>" ++ 10 ∷ [])))
    × IsMarkup body
