use Rattle.std.proofs.Common.{◌≡◌, ◌∙◌, ◌≤◌, ◌+◌, IfOk, ap, arith, map, subst}
use Rattle.std.specs.List.{range_with_len}
use Rattle.esr_items.specs.Weights.{weighted}
use Rattle.esr_history.specs.Machine.{charges_in, export_in}
use Rattle.esr_history.specs.BackLinks.{begun_count}
use Rattle.esr_history.proofs.WithinRanges.{legal_begins}
use Rattle.esr_tables.proofs.Exported.{none_exported}
use Rattle.esr_tables.proofs.exports.exports.Goals as goal

pub replayed_exports-requires : goal.replayed_exports-requires
replayed_exports-requires c =
    let upper_bound : begun_count c.args.history.now.schedule.entries ≤ 65535 = legal_begins weighted c.args.history.now.schedule c.log-invariant.ensures.legal in
    omega (arith, upper_bound, c.begun_count.ensures, c.saturating_add-count.ensures)

pub returns-then-imports_nothing : goal.returns-then-imports_nothing
returns-then-imports_nothing c =
    let h = c.args.history.now.schedule in
    let upper_bound : begun_count h.entries ≤ 65535 = legal_begins weighted h c.log-invariant.ensures.legal in
    let count : c.saturating_add-count.result ≡ begun_count h.entries + 1 = omega (arith, upper_bound, c.begun_count.ensures, c.saturating_add-count.ensures) in
    c.in_ok-exports.ensures
    ∙ (none_exported h c.saturating_add-count.result (c.imports_nothing.ensures c.if-imports_nothing.true)
    ∙ ap (λ n. map (export_in (charges_in weighted h)) (range_with_len 0 n)) count)

pub returns : goal.returns
returns c =
    let h = c.args.history.now.schedule in
    let upper_bound : begun_count h.entries ≤ 65535 = legal_begins weighted h c.log-invariant.ensures.legal in
    let count : c.saturating_add-count.result ≡ begun_count h.entries + 1 = omega (arith, upper_bound, c.begun_count.ensures, c.saturating_add-count.ensures) in
    subst (λ n. IfOk c.replayed_exports.result (λ v. v.items ≡ map (export_in (charges_in weighted h)) (range_with_len 0 n))) count c.replayed_exports.ensures
