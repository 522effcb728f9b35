use Rattle.std.proofs.Common.{◌∙◌, ◌++◌, ap}
use Rattle.std.specs.List.{filter_map}
use Rattle.esr_history.specs.declared.event.BeginKind.TheVariants.{Update, Query}
use Rattle.esr_engine.specs.Carrying.{carried_entry}
use Rattle.esr_engine.proofs.CarriedParts.{entries_are}
use Rattle.esr_engine.proofs.engine.EmbeddedEngine.carried_entries.Goals as goal

pub returns : goal.returns
returns c =
    let h = c.args.self.now in let operations = c.args.operations.now in
    c.in_ok-push_entries-2.ensures
    ∙ (ap (λ l. l ++ filter_map (carried_entry h Query) operations) (c.in_ok-push_entries.ensures ∙ ap (λ l. l ++ filter_map (carried_entry h Update) operations) c.in_ok-entries.ensures)
    ∙ entries_are h operations c.requires.operations)
