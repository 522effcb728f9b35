use Rattle.std.proofs.Common.{◌∙◌, sym}
use Rattle.esr_items.specs.Weights.{weighted}
use Rattle.esr_history.specs.Machine.{charges_in, export_in}
use Rattle.esr_history.specs.BackLinks.{begun_count}
use Rattle.esr_tables.proofs.Places.{value_missing, value_there}
use Rattle.esr_tables.proofs.Rowed.{charged_there}
use Rattle.esr_tables.proofs.rows.import_or_export.Goals as goal

pub returns-in-Some : goal.returns-in-Some
returns-in-Some c =
    let h = c.args.history.now.schedule in let t = c.args.t.0 in
    charged_there h t _ (sym c.is_query.ensures ∙ c.if-is_query.false)
    (value_there (export_in (charges_in weighted h)) (begun_count h.entries) t c.args.exports.now _ c.requires.exports c.requires.begun c.in-Some.ensures.lookup.1)

pub returns-in-None : goal.returns-in-None
returns-in-None c =
    let h = c.args.history.now.schedule in let t = c.args.t.0 in
    absurd (value_missing (export_in (charges_in weighted h)) (begun_count h.entries) t c.args.exports.now c.requires.exports c.requires.begun c.in-None.ensures.lookup.3)
