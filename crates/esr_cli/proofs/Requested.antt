-- What the name and the rows of a subcommand request.
use Rattle.std.proofs.Common.{◌≡◌, ap₂, List, Option, Some, None, option_map}
use Rattle.clap.specs.Walk.{Row, Text}

-- a subcommand of which the name and the rows are known
pub named_rows : {B : Type 0} (sub : Option B) (f : B → Text) (g : B → List Row) (name : Text) (rows : List Row)
    → Some name ≡ option_map f sub → Some rows ≡ option_map (λ (p : Text × List Row). p.1) (option_map (λ b. (f b, g b)) sub)
    → option_map {U = Text × List Row} (λ b. (f b, g b)) sub ≡ Some (name, rows)
named_rows None f g name rows is_name are_rows = absurd (cc)
named_rows (Some b) f g name rows is_name are_rows =
    let same_name : f b ≡ name = cc in
    let same_rows : g b ≡ rows = cc in
    ap₂ (λ (n : Text) (r : List Row). Some (n, r)) same_name same_rows
