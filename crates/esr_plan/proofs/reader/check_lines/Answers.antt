use Rattle.std.proofs.Common.{rules}
use Rattle.esr_plan.proofs.Cuts.{line_fault, line_next, begun_fault, begun_fine}
use Rattle.esr_plan.proofs.reader.check_lines.Goals as goal

pub returns-in-Err-clause-err : goal.returns-in-Err-clause-err
returns-in-Err-clause-err c =
    let m = c.loop-len.mark in
    line_fault c.args.bytes.now m.start m.lines c.in-Some.len c.in-Err.fault c.loop-len.invariant.2 c.in-Some.ensures c.in-Err.ensures

pub loop-len-preserved : goal.loop-len-preserved
loop-len-preserved c =
    let m = c.loop-len.mark in
    let inv = c.loop-len.invariant in
    let fine = c.in_default-check_line.ensures in
    line_next c.args.bytes.now m.start m.lines c.in-Some.len inv.0 inv.1 inv.2 c.in-Some.ensures fine.0 fine.1

pub returns-in-Err-check_line-clause-err : goal.returns-in-Err-check_line-clause-err
returns-in-Err-check_line-clause-err c =
    let m = c.loop-len.mark in
    begun_fault c.args.bytes.now m.start m.lines c.in-Err-check_line.fault c.loop-len.invariant.2 (search rules) (search rules) c.in-Err-check_line.ensures

pub returns-in_default-check_line-2-clause-fine : goal.returns-in_default-check_line-2-clause-fine
returns-in_default-check_line-2-clause-fine c =
    let m = c.loop-len.mark in
    let fine = c.in_default-check_line-2.ensures in
    begun_fine c.args.bytes.now m.start m.lines (search rules) fine.0 fine.1
