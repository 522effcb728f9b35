use Rattle.std.proofs.Common.{◌∙◌, ap, option_and_then}
use Rattle.std.specs.Str.Parse.{ExplainsUnsignedError, HasUnsignedDigitsIfOk, ParsesUnsigned}
use Rattle.clap.specs.Words.{found_of}
use Rattle.clap.proofs.WalkLemmas.{one_text-rows}
use Rattle.esr_cli.specs.Job.{parsed_number}
use Rattle.esr_cli.proofs.Readings.{number_read}
use Rattle.esr_cli.proofs.count.Goals as goal

pub returns : goal.returns
returns c = number_read _ (λ bs r. ParsesUnsigned 64 10 bs r × ExplainsUnsignedError 10 bs r × HasUnsignedDigitsIfOk bs r) (λ u x g. g.0) _ c.get_one.result c.get_one.ensures.none c.get_one.ensures.value
    ∙ ap (option_and_then parsed_number) (one_text-rows (found_of c.args.given.now) c.args.id.now)
