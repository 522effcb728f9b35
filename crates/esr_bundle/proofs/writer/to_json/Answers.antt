use Rattle.std.proofs.Common.{◌≤◌, Some, sym, ap, ◌∙◌, subst}
use Rattle.std.specs.List.{list_all}
use Rattle.serde_json.specs.Data.{Data, depth}
use Rattle.serde_json.specs.Written.{has_float, compact_text}
use Rattle.esr_cert.specs.Views.{certificate_of}
use Rattle.esr_bundle.specs.Bundle.{bundle_data, is_position}
use Rattle.esr_bundle.proofs.Judged.{not_faulty}
use Rattle.esr_bundle.proofs.Trees.{plain_bundle, shallow_bundle, problem_round_trip}
use Rattle.esr_bundle.proofs.writer.to_json.Goals as goal

pub returns-clause-text : goal.returns-clause-text
returns-clause-text c =
    let p = c.args.problem.now in
    let by = certificate_of c.args.certificate.now in
    c.in_ok-to_vec.ensures.text (ap has_float c.in_ok-tree.ensures ∙ plain_bundle p by) ∙ ap compact_text c.in_ok-tree.ensures

pub returns-clause-encodes : goal.returns-clause-encodes
returns-clause-encodes c =
    let p = c.args.problem.now in
    let by = certificate_of c.args.certificate.now in
    let shallow = subst (λ (d : Data). depth d ≤ 127) (sym c.in_ok-tree.ensures) (shallow_bundle p by) in
    let read = c.in_ok-to_vec.ensures.reads_back shallow ∙ ap (λ (d : Data). Some d) c.in_ok-tree.ensures in
    (bundle_data p by, (c.in_ok-to_vec.ensures.utf8, read), problem_round_trip p by (not_faulty p c.updates-sound.ensures.well_formed) (ap (list_all is_position) (sym c.deref.ensures.value) ∙ c.as_positions-fits.ensures.fits))
