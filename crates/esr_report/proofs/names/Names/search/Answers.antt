use Rattle.std.proofs.Common.{◌∙◌, ℕ, List, sym, ap, arith}
use Rattle.std.specs.String.{string_bytes}
use Rattle.esr_report.specs.Names.{position_of}
use Rattle.esr_report.specs.Keyed.{IsKeyOf}
use Rattle.esr_report.specs.Stored.{text_of}
use Rattle.esr_report.proofs.Keyed.{key_place, no_longer, are_keyed}
use Rattle.esr_report.proofs.names.Names.search.Goals as goal

pub returns-then-name-gt16 : goal.returns-then-name-gt16
returns-then-name-gt16 c =
    let texts : List ℕ = string_bytes c.self.inside.texts in
    let keyed = are_keyed texts c.self.inside.names.entries c.self.invariant.2 in
    sym (no_longer (text_of texts) c.self.inside.names.entries c.args.name.now keyed c.if-name-gt16.true)
    ∙ ap (λ names. position_of names c.args.name.now) c.self.view_is

pub returns-in-Some : goal.returns-in-Some
returns-in-Some c =
    let name = c.args.name.now in
    let texts : List ℕ = string_bytes c.self.inside.texts in
    let keyed = are_keyed texts c.self.inside.names.entries c.self.invariant.2 in
    let key : IsKeyOf c.key_of.result name = record { short = c.if-name-gt16.false; bytes = λ i. omega (arith, c.type_inv.name i); low = c.key_of.ensures.low; high = c.key_of.ensures.high; length = c.key_of.ensures.length } in
    c.in-Some.ensures.index
    ∙ key_place (text_of texts) c.key_of.result name key c.self.inside.names.entries keyed
    ∙ ap (λ names. position_of names name) c.self.view_is

pub returns-in-None : goal.returns-in-None
returns-in-None c =
    let name = c.args.name.now in
    let texts : List ℕ = string_bytes c.self.inside.texts in
    let keyed = are_keyed texts c.self.inside.names.entries c.self.invariant.2 in
    let key : IsKeyOf c.key_of.result name = record { short = c.if-name-gt16.false; bytes = λ i. omega (arith, c.type_inv.name i); low = c.key_of.ensures.low; high = c.key_of.ensures.high; length = c.key_of.ensures.length } in
    c.in-None.ensures.index
    ∙ key_place (text_of texts) c.key_of.result name key c.self.inside.names.entries keyed
    ∙ ap (λ names. position_of names name) c.self.view_is
