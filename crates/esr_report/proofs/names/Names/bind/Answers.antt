use Rattle.std.proofs.Common.{◌≡◌, ℕ, ◌+◌, ◌<◌, ◌^◌, List, length, ◌∙◌, map, ap, ◌++◌, ◌∷◌, [], arith, None}
use Rattle.std.specs.String.{string_bytes}
use Rattle.std.specs.Prelude.{IsOk}
use Rattle.std.proofs.lemmas.Str.{IsUtf8-string_bytes}
use Rattle.esr_report.specs.Names.{position_of}
use Rattle.esr_report.specs.Keyed.{IsKeyOf}
use Rattle.esr_report.specs.Stored.{text_of}
use Rattle.esr_report.proofs.Keyed.{Entry}
use Rattle.esr_report.proofs.Stored.{names_bound, still}
use Rattle.esr_report.proofs.names.Names.bind.Goals as goal

pub returns-clause-appended : goal.returns-clause-appended
returns-clause-appended c =
    let name : List ℕ = c.args.name.now in
    let texts : List ℕ = string_bytes c.self.inside.texts in
    let entries : List Entry = c.self.inside.names.entries in
    let is : IsKeyOf c.key_of-key.result name = record { short = c.if-name-gt16.false; bytes = λ i. omega (arith, c.type_inv.name i); low = c.key_of-key.ensures.low; high = c.key_of-key.ensures.high; length = c.key_of-key.ensures.length } in
    let at : c.in-Ok.end ≡ length texts + length name = omega (arith, c.self.inside.texts.bytes.ok.0) in
    let unbound : position_of (map (text_of texts) entries) name ≡ None = rw c.self.view_is c.requires.unbound in
    let reserved : IsOk c.push_str.result = c.push_str.ensures.succeeds c.in_ok-reserve.ensures.ok in
    let grown : string_bytes c.push_str.new.self ≡ texts ++ name = c.push_str.ensures.bytes ∙ rw reserved (ap (λ t. t ++ name) c.in_ok-reserve.ensures.bytes) in
    names_bound texts name (IsUtf8-string_bytes c.self.inside.texts) c.utf8.name entries c.key_of-key.result c.in-Ok.end c.self.invariant.2 is at unbound (string_bytes c.push_str.new.self) grown c.insert.new.self.entries c.in_ok-insert.ensures.entries
    ∙ ap (λ names. names ++ name ∷ []) c.self.view_is

pub invariant_of-self-2 : goal.invariant_of-self-2
invariant_of-self-2 c =
    let name : List ℕ = c.args.name.now in
    let texts : List ℕ = string_bytes c.self.inside.texts in
    let entries : List Entry = c.self.inside.names.entries in
    let is : IsKeyOf c.key_of-key.result name = record { short = c.if-name-gt16.false; bytes = λ i. omega (arith, c.type_inv.name i); low = c.key_of-key.ensures.low; high = c.key_of-key.ensures.high; length = c.key_of-key.ensures.length } in
    let at : c.in-Ok.end ≡ length texts + length name = omega (arith, c.self.inside.texts.bytes.ok.0) in
    let unbound : position_of (map (text_of texts) entries) name ≡ None = rw c.self.view_is c.requires.unbound in
    let reserved : IsOk c.push_str.result = c.push_str.ensures.succeeds c.in_ok-reserve.ensures.ok in
    let grown : string_bytes c.push_str.new.self ≡ texts ++ name = c.push_str.ensures.bytes ∙ rw reserved (ap (λ t. t ++ name) c.in_ok-reserve.ensures.bytes) in
    let fits : length (map (text_of texts) entries) < 2 ^ 32 = rw c.self.view_is c.requires.count_within_max in
    still texts name (IsUtf8-string_bytes c.self.inside.texts) c.utf8.name entries c.key_of-key.result c.in-Ok.end c.self.invariant.2 is at unbound (string_bytes c.push_str.new.self) grown c.insert.new.self.entries c.in_ok-insert.ensures.entries fits c.self.invariant.1
