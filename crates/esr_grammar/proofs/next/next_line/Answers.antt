use Rattle.std.proofs.Common.{arith}
use Rattle.esr_grammar.proofs.Prefix.{line_len-le}
use Rattle.esr_grammar.proofs.next.next_line.Goals as goal

pub returns-else-length-bytes : goal.returns-else-length-bytes
returns-else-length-bytes c = grind (arith, line_len-le c.args.bytes.now)
