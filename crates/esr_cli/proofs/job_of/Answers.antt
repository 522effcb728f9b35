use Rattle.std.proofs.Common.{◌∙◌, ap, sym}
use Rattle.esr_cli.specs.Job.{request_in}
use Rattle.esr_cli.proofs.Requested.{named_rows}
use Rattle.esr_cli.proofs.job_of.Goals as goal

pub returns : goal.returns
returns c =
    c.job_in.ensures
    ∙ ap request_in (sym (named_rows _ _ _ _ _ c.in_ok-name.ensures.name c.in_ok-name.ensures.rows))
