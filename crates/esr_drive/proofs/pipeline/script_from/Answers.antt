use Rattle.std.proofs.Common.{◌≡◌, ℕ, List, ◌++◌, map, ap, ap₂, sym, ◌∙◌, subst}
use Rattle.esr_dump.specs.RoundTrip.{IsDump}
use Rattle.esr_plan.specs.Calls.{all_answers}
use Rattle.esr_plan.specs.Text.{names_of}
use Rattle.esr_plan.specs.Tables.{names_in}
use Rattle.esr_drive.proofs.pipeline.script_from.Goals as goal

pub returns : goal.returns
returns c =
    let h = c.args.driven.now.history.schedule in
    let items = c.args.drive_plan.now.names in
    let answers = all_answers (map (λ b. b.items) c.args.drive_plan.now.blocks.items) (map (λ r. r.items) c.args.driven.now.replies.items) in
    let slices : all_answers (map (λ b. b.items) c.as_slice-blocks.result.now) (map (λ r. r.items) c.as_slice-replies.result.now) ≡ answers =
    ap₂ (λ x y. all_answers (map (λ b. b.items) x) (map (λ r. r.items) y)) c.as_slice-blocks.ensures.value c.as_slice-replies.ensures.value in
    let names : names_in c.in_ok-names.names ≡ names_of h answers = c.in_ok-names.ensures ∙ ap (names_of h) slices in
    let script = c.in_ok-script.script.items in
    let text : c.push.new.self ≡ script = c.in_ok-push.ensures ∙ ap (λ l. l ++ script) c.new-text.ensures in
    subst (λ (l : List ℕ). IsDump items (names_of h answers) h l) (sym text) (subst (λ (ns : List (List ℕ)). IsDump items ns h script) names c.in_ok-script.ensures)
