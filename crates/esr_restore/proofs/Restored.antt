-- The run over a history's script leads to the history.
use Rattle.std.proofs.Common.{◌≡◌, ℕ, ◌+◌, List, [], ◌++◌, refl, ◌∙◌, ap, subst, sym, arith, length, flat_map, append-nil}
use Rattle.std.proofs.Math.Seq.{take-length}
use Rattle.esr_items.specs.Weights.{weight_of}
use Rattle.esr_history.specs.Machine.{Schedule, empty_schedule}
use Rattle.esr_grammar.specs.Lines.{lines}
use Rattle.esr_script.specs.Text.{ScriptState, final, outcome_from, start, state_after}
use Rattle.esr_dump.specs.Lines.{entry_text, items_text, script}
use Rattle.esr_dump.specs.RoundTrip.{kept}
use Rattle.esr_restore.specs.Restores.{LawOfRestoring}
use Rattle.esr_restore.proofs.Steps.{Leads, leads_on}
use Rattle.esr_restore.proofs.Items.{with_items, items_run}
use Rattle.esr_restore.proofs.Entries as entries

pub law_of_restoring : LawOfRestoring
law_of_restoring items transactions h names distinct distinct_too fits =
    let n : ℕ = length h.opening in
    let begun : ScriptState = with_items items transactions h names distinct distinct_too fits n in
    let at : entries.IsAt items transactions h names distinct distinct_too fits begun (empty_schedule h) = record {
      items_are = refl;
      opening_is = take-length h.opening;
      weights_are = refl;
      events_are = refl;
      transactions_are = refl;
    } in
    let more : List ℕ = flat_map (entry_text items transactions) h.entries in
    let declared : Leads start (items_text items h) n begun =
    subst (λ (m : ℕ). Leads start (items_text items h) n (with_items items transactions h names distinct distinct_too fits m)) (omega arith) (items_run items transactions h names distinct distinct_too fits 0 n (omega arith)) in
    let ends : entries.Ends items transactions h names distinct distinct_too fits begun h.entries =
    entries.entries_run items transactions h names distinct distinct_too fits begun (empty_schedule h) h.entries at refl refl fits.legal (omega arith) (omega (arith, fits.entries)) in
    let whole : Leads start (script items transactions h) (n + ends.count) ends.next = leads_on start begun ends.next (items_text items h) more n ends.count declared ends.leads in
    let run = whole [] 0 (omega (arith, ends.count_within_max, fits.items, fits.entries)) in
    let nothing : script items transactions h ++ [] ≡ script items transactions h = append-nil (script items transactions h) in
    let history : (final (script items transactions h)).history ≡ record begun.history { entries = (kept h).entries } =
    ap (λ (t : List ℕ). (state_after start (lines t)).history) (sym nothing) ∙ (ap (λ (s : ScriptState). s.history) run.0 ∙ ends.history) in
    record {
      opening = ap (λ (g : Schedule). g.opening) history ∙ take-length h.opening;
      weights = λ x. ap (λ (g : Schedule). weight_of g.weights x) history ∙ entries.same_weight items transactions h names distinct distinct_too fits x;
      entries = ap (λ (g : Schedule). g.entries) history;
      fault = ap (λ (t : List ℕ). (outcome_from 0 start (lines t)).fault) (sym nothing) ∙ run.1;
    }
