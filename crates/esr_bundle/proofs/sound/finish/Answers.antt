use Rattle.std.proofs.Common.{◌≡◌, ℕ, List, true, Ok, refl, sym, ap, ◌∙◌}
use Rattle.std.specs.List.{list_all}
use Rattle.esr_cert.specs.Problem.{Problem}
use Rattle.esr_cert.specs.Certificate.{Certificate}
use Rattle.esr_cert.specs.Views.{rows_of}
use Rattle.esr_bundle.specs.Bundle.{is_position}
use Rattle.esr_cert.specs.ProblemDrafts.{drafted_problem}
use Rattle.esr_bundle.specs.Drafts.{drafted_certificate}
use Rattle.esr_bundle.proofs.Judged.{judged_ok}
use Rattle.esr_bundle.proofs.sound.finish.Goals as goal

pub returns-clause-ok : goal.returns-clause-ok
returns-clause-ok c =
    let cert = c.args.certificate in
    let fits : list_all is_position cert.set.items ≡ true = ap (list_all is_position) (sym c.deref.ensures.value) ∙ c.in_ok-set.ensures.fits refl in
    let same : cert.set.items ≡ c.in_ok-set.set.items = sym c.deref.ensures.value ∙ sym c.in_ok-set.ensures.ok in
    let P : List ℕ → Certificate = λ s. record { set = s; chain_flow = rows_of cert.chain_flow.items; back_flow = cert.back_flow.items; must_flow = cert.must_flow.items; worth = cert.worth; augmentations = cert.augmentations } in
    judged_ok (drafted_problem c.args.draft) (drafted_certificate cert) (c.in_ok-problem.ensures.sound refl) fits
    ∙ ap (λ (p : Problem). Ok (p, drafted_certificate cert)) (sym c.in_ok-problem.ensures.ok)
    ∙ ap (λ (s : List ℕ). Ok (c.in_ok-problem.problem, P s)) same
