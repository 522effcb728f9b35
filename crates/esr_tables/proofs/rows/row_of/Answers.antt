use Rattle.std.proofs.Common.{sym, subst}
use Rattle.esr_tables.specs.Entries.{AreTallies}
use Rattle.esr_tables.proofs.Rowed.{row_there}
use Rattle.esr_tables.proofs.rows.row_of.Goals as goal

pub returns : goal.returns
returns c =
    let h = c.args.history.now.schedule in
    row_there h c.args.t _ _ _ _ _ _ _ c.kind_of.ensures c.limit_of-limit.ensures c.import_or_export-charged.ensures
    c.saturating_sub.ensures (c.tally_at.ensures h.entries (subst (AreTallies h.entries) (sym c.deref-2.ensures.value) c.requires.columns.tallies)) c.outcome_of.ensures
    c.requires.distance
