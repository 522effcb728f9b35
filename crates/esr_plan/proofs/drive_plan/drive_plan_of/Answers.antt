use Rattle.std.proofs.Common.{arith}
use Rattle.esr_grammar.specs.Lines.{lines}
use Rattle.esr_plan.proofs.Cuts.{bounded_lines}
use Rattle.esr_plan.proofs.drive_plan.drive_plan_of.Goals as goal

pub draft_of-requires : goal.draft_of-requires
draft_of-requires c = let count_within_max = bounded_lines 0 (lines c.args.bytes.now) (omega arith) c.requires in omega (arith, count_within_max)
