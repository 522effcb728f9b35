use Rattle.std.proofs.Common.{[], ◌≡◌, Some, None, Result, Ok}
use Rattle.clap.specs.Words.{HasKind}
use Rattle.clap.specs.Walk.{texts}
use Rattle.clap.proofs.FaultLemmas.{failed_up}
use Rattle.clap.specs.declared.error.Error.{Error}
use Rattle.esr_cli.specs.declared.Job.{Job}
use Rattle.esr_cli.proofs.Faultless.{found_by_program, job_found, of_program}
use Rattle.esr_cli.proofs.ParsedWords.{no_ok, parsed}
use Rattle.esr_cli.proofs.command.Goals as goal

pub returns-in_err-matches-clause-errors : goal.returns-in_err-matches-clause-errors
returns-in_err-matches-clause-errors c =
    let e = c.in_err-matches.field-0.0 in
    let has = of_program (λ kinds. HasKind kinds e) _ (texts c.args.words.now) c.in_ok-program.ensures c.in_err-matches.ensures.kinds in
    failed_up _ e _ _ c.from_residual-in_err-matches.ensures.1 has

pub returns-in_err-matches-clause-asked : goal.returns-in_err-matches-clause-asked
returns-in_err-matches-clause-asked c wanted syntax =
    let r : Result Job Error = c.from_residual-in_err-matches.result in
    parsed r _ wanted syntax (returns-in_err-matches-clause-errors c) (no_ok r _ _ c.from_residual-in_err-matches.ensures.1)

pub unreachable-requires : goal.unreachable-requires
unreachable-requires c =
    let words = texts c.args.words.now in
    let none = of_program (λ kinds. kinds ≡ []) _ words c.in_ok-program.ensures c.in_ok-matches.ensures.kinds in
    let found = found_by_program _ words c.in_ok-matches.matches c.in_ok-program.ensures c.in_ok-matches.ensures.matches in
    job_found None words c.in_ok-matches.matches c.in-None.ensures found none

pub returns : goal.returns
returns c =
    let words = texts c.args.words.now in
    let none = of_program (λ kinds. kinds ≡ []) _ words c.in_ok-program.ensures c.in_ok-matches.ensures.kinds in
    let found = found_by_program _ words c.in_ok-matches.matches c.in_ok-program.ensures c.in_ok-matches.ensures.matches in
    let known = job_found (Some c.in-Some.job) words c.in_ok-matches.matches c.in-Some.ensures found none in record {
      job = known.0;
      workers = known.1;
      errors = none;
      asked = λ wanted syntax. parsed (Ok c.in-Some.job) _ wanted syntax none known.0;
    }
