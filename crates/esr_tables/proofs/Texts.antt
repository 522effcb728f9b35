-- The lines of rows, one after another.
use Rattle.std.proofs.Common.{◌≡◌, ◌∙◌, ℕ, ◌+◌, ◌<◌, List, [], ◌∷◌, ◌++◌, ap, ap₂, arith, sym, length, take, get_or, append-nil, append_assoc, map, Bor}
use Rattle.esr_tables.specs.Csv.{separated, csv_line}
use Rattle.std.specs.List.{flat_map, range_with_len}
use Rattle.std.proofs.lemmas.Grind.{flat_map-append}
use Rattle.std.proofs.lemmas.List.{take_more, map-append}
use Rattle.std.proofs.lemmas.List.FromFn.{map-range_with_len_more}

-- ---- fields after commas

abbrev comma : List ℕ → List ℕ
comma field = 44 ∷ field

-- the first field has no comma
pub first_field : (out x after : List ℕ) → after ≡ out ++ x → after ≡ out ++ (x ++ separated [])
first_field out x after is = is ∙ ap (λ l. out ++ l) (sym (append-nil x))

-- more fields
pub separated_more : (out x : List ℕ) (xs ys : List (List ℕ)) (before after : List ℕ) → before ≡ out ++ (x ++ separated xs) → after ≡ before ++ separated ys
    → after ≡ out ++ (x ++ separated (xs ++ ys))
separated_more out x xs ys before after before_it grew =
    grew
    ∙ (ap (λ l. l ++ separated ys) before_it
    ∙ (append_assoc out (x ++ separated xs) (separated ys)
    ∙ ap (λ l. out ++ l) (append_assoc x (separated xs) (separated ys) ∙ ap (λ l. x ++ l) (sym (flat_map-append comma xs ys)))))

-- the end of the line
pub line_ended : (out x : List ℕ) (xs : List (List ℕ)) (before after : List ℕ) → before ≡ out ++ (x ++ separated xs) → after ≡ before ++ 10 ∷ [] → after ≡ out ++ csv_line x xs
line_ended out x xs before after before_it grew =
    grew ∙ (ap (λ l. l ++ 10 ∷ []) before_it ∙ (append_assoc out (x ++ separated xs) (10 ∷ []) ∙ ap (λ l. out ++ l) (append_assoc x (separated xs) (10 ∷ []))))

-- a field of a list more
pub field_more : (out : List ℕ) (xs : List (Bor (List ℕ))) (i : ℕ) (d : Bor (List ℕ)) (before after : List ℕ) → i < length xs
    → before ≡ out ++ separated (map (λ (w : Bor (List ℕ)). w.now) (take i xs)) → after ≡ before ++ separated ((get_or xs i d).now ∷ [])
    → after ≡ out ++ separated (map (λ (w : Bor (List ℕ)). w.now) (take (i + 1) xs))
field_more out xs i d before after within before_it grew =
    let f : Bor (List ℕ) → List ℕ = λ (w : Bor (List ℕ)). w.now in
    grew
    ∙ (ap (λ l. l ++ separated (f (get_or xs i d) ∷ [])) before_it
    ∙ (append_assoc out (separated (map f (take i xs))) (separated (f (get_or xs i d) ∷ []))
    ∙ ap (λ l. out ++ l)
    (sym (flat_map-append comma (map f (take i xs)) (f (get_or xs i d) ∷ []))
    ∙ ap separated (sym (ap (map f) (take_more xs i d within) ∙ map-append f (take i xs) (get_or xs i d ∷ []))))))

-- a field that equals another text
pub field_is : (before after word same : List ℕ) → after ≡ before ++ separated (word ∷ []) → word ≡ same → after ≡ before ++ separated (same ∷ [])
field_is before after word same grew is = grew ∙ ap (λ w. before ++ separated (w ∷ [])) is

-- a line of parts, one after another
pub line_of_parts : (out x name kind end far : List ℕ) (amounts span : List (List ℕ)) (a b c d e f g h : List ℕ) → a ≡ out ++ x → b ≡ a ++ separated (name ∷ []) → c ≡ b ++ separated (kind ∷ [])
    → d ≡ c ++ separated amounts → e ≡ d ++ separated (end ∷ []) → f ≡ e ++ separated (far ∷ []) → g ≡ f ++ separated span → h ≡ g ++ 10 ∷ []
    → h ≡ out ++ csv_line x (name ∷ kind ∷ amounts ++ end ∷ far ∷ span)
line_of_parts out x name kind end far amounts span a b c d e f g h is_a is_b is_c is_d is_e is_f is_g is_h =
    let first : a ≡ out ++ (x ++ separated []) = first_field out x a is_a in
    let second : b ≡ out ++ (x ++ separated (name ∷ [])) = separated_more out x [] (name ∷ []) a b first is_b in
    let third : c ≡ out ++ (x ++ separated (name ∷ kind ∷ [])) = separated_more out x (name ∷ []) (kind ∷ []) b c second is_c in
    let fourth : d ≡ out ++ (x ++ separated (name ∷ kind ∷ amounts)) = separated_more out x (name ∷ kind ∷ []) amounts c d third is_d in
    let fifth : e ≡ out ++ (x ++ separated ((name ∷ kind ∷ amounts) ++ end ∷ [])) = separated_more out x (name ∷ kind ∷ amounts) (end ∷ []) d e fourth is_e in
    let sixth : f ≡ out ++ (x ++ separated (((name ∷ kind ∷ amounts) ++ end ∷ []) ++ far ∷ [])) = separated_more out x ((name ∷ kind ∷ amounts) ++ end ∷ []) (far ∷ []) e f fifth is_f in
    let seventh : g ≡ out ++ (x ++ separated ((((name ∷ kind ∷ amounts) ++ end ∷ []) ++ far ∷ []) ++ span)) = separated_more out x (((name ∷ kind ∷ amounts) ++ end ∷ []) ++ far ∷ []) span f g sixth is_g in
    line_ended out x ((((name ∷ kind ∷ amounts) ++ end ∷ []) ++ far ∷ []) ++ span) g h seventh is_h
    ∙ ap (λ l. out ++ csv_line x (name ∷ kind ∷ l)) (append_assoc (amounts ++ end ∷ []) (far ∷ []) span ∙ append_assoc amounts (end ∷ []) (far ∷ span))
