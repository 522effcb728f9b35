use Rattle.std.proofs.Common.{◌∙◌, ap, option_and_then, unwrap_or, false}
use Rattle.clap.specs.Words.{found_of}
use Rattle.clap.proofs.WalkLemmas.{one_text-rows}
use Rattle.esr_cli.specs.Job.{parsed_bool}
use Rattle.esr_cli.proofs.Readings.{bool_read}
use Rattle.esr_cli.proofs.flag.Goals as goal

pub returns : goal.returns
returns c =
    c.unwrap_or.ensures
    ∙ ap (λ o. unwrap_or o false)
    (bool_read _ _ c.get_one.result c.get_one.ensures.none c.get_one.ensures.value
    ∙ ap (option_and_then parsed_bool) (one_text-rows (found_of c.args.given.now) c.args.id.now))
