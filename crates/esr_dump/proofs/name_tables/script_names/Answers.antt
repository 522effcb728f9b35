use Rattle.std.proofs.Common.{◌≡◌, ◌∙◌, List, ℕ, ap, arith, length, sym}
use Rattle.std.specs.Borrow.{Bor}
use Rattle.std.proofs.lemmas.List.{length-map}
use Rattle.esr_dump.proofs.Names.{first_long}
use Rattle.esr_dump.proofs.name_tables.script_names.Goals as goal

pub names_for_lines-requires : goal.names_for_lines-requires
names_for_lines-requires g c =
    let words = c.in_ok-words.words.items in
    let long : length words ≡ c.args.count =
    sym (length-map words (λ (w : Bor (List ℕ)). w.now)) ∙ (ap length c.in_ok-words.ensures ∙ first_long c.args.count (g.N.NamesByPosition.names c.args.names.now)) in
    record { fits = omega (arith, c.requires.fits, long, ap length c.deref.ensures.value) }
