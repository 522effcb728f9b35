use Rattle.serde_json.specs.View.{view}
use Rattle.esr_cert.specs.ProblemDrafts.{drafted_problem}
use Rattle.esr_bundle.specs.Drafts.{drafted_certificate}
use Rattle.esr_bundle.proofs.Judged.{reading_from}
use Rattle.esr_bundle.proofs.reader.from_json.Goals as goal

pub returns : goal.returns
returns c =
    reading_from c.args.bytes.now (view c.in_ok-tree.tree) c.in_ok-tree.ensures.ok (drafted_problem c.in_ok-problem.problem, drafted_certificate c.in_ok-problem.certificate) c.in_ok-problem.ensures.ok c.finish.result c.finish.ensures.ok c.finish.ensures.err
