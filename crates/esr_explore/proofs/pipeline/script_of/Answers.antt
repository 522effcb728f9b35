use Rattle.std.proofs.Common.{◌∙◌, ap, map}
use Rattle.esr_plan.specs.Tables.{names_in}
use Rattle.esr_explore.proofs.Turning.{borrowed_result}
use Rattle.esr_explore.proofs.pipeline.script_of.Goals as goal

pub begun_names-requires : goal.begun_names-requires
begun_names-requires c =
    borrowed_result (map (λ b. b.items) c.args.drive_plan.now.blocks.items) (map (λ b. b.items) c.as_slice.result.now) c.args.run.all_progress.items
    (map (λ r. r.items) c.as_slice-2.result.now) (ap (λ bs. map (λ b. b.items) bs) c.as_slice.ensures.value)
    (ap (λ rs. map (λ r. r.items) rs) c.as_slice-2.ensures.value ∙ c.in_ok-replies.ensures) c.requires.done

pub returns : goal.returns
returns c = (names_in c.in_ok-names.names, c.in_ok-text.ensures)
