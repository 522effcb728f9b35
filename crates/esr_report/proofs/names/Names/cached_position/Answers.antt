use Rattle.std.proofs.Common.{◌≡◌, ◌∙◌, ℕ, sym, ap, List, Some, true, slice_get}
use Rattle.std.specs.String.{string_bytes}
use Rattle.esr_report.specs.Names.{position_of}
use Rattle.esr_report.specs.Stored.{text_of}
use Rattle.esr_report.proofs.Keyed.{Entry, same_key, cached_is, cached_short, are_keyed}
use Rattle.esr_report.proofs.names.Names.cached_position.Goals as goal

pub returns-then-eq-clause-position : goal.returns-then-eq-clause-position
returns-then-eq-clause-position c name is =
    let entries : List Entry = c.self.inside.names.entries in
    let texts : List ℕ = string_bytes c.self.inside.texts in
    let keyed = are_keyed texts entries c.self.invariant.2 in
    let e : Entry = (c.in_ok-found_key.found_key.now, c.in_ok-found_key.field-0-1.now) in
    let at : slice_get entries c.in_ok-position.field-0.now ≡ Some e = sym c.in_ok-found_key.ensures.entry in
    let same : same_key e.0 c.args.key ≡ true = sym c.eq.ensures ∙ c.if-eq.true in
    ap (λ names. position_of names name) (sym c.self.view_is)
    ∙ cached_is (text_of texts) c.args.key name is entries keyed c.self.invariant.1 c.in_ok-position.field-0.now e at same

pub returns-then-eq-clause-short : goal.returns-then-eq-clause-short
returns-then-eq-clause-short c =
    let entries : List Entry = c.self.inside.names.entries in
    let texts : List ℕ = string_bytes c.self.inside.texts in
    let keyed = are_keyed texts entries c.self.invariant.2 in
    let e : Entry = (c.in_ok-found_key.found_key.now, c.in_ok-found_key.field-0-1.now) in
    let at : slice_get entries c.in_ok-position.field-0.now ≡ Some e = sym c.in_ok-found_key.ensures.entry in
    let same : same_key e.0 c.args.key ≡ true = sym c.eq.ensures ∙ c.if-eq.true in
    cached_short (text_of texts) c.args.key entries keyed c.in_ok-position.field-0.now e at same
