use Rattle.esr_script.proofs.bundles.certify_steps.Goals as goal

-- by what the call ensures, and by nothing else
pub returns : goal.returns
returns g c = search c.render_query.ensures depth 1
