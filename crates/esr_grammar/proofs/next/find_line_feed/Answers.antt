use Rattle.std.proofs.Common.{nat_eq, arith}
use Rattle.esr_grammar.proofs.Lanes.{first_passes}
use Rattle.esr_grammar.proofs.next.find_line_feed.Goals as goal

pub returns-then-feeds-ne0 : goal.returns-then-feeds-ne0
returns-then-feeds-ne0 c =
    first_passes (λ b. nat_eq b 10) 32 c.args.bytes.now c.line_feeds-feeds.result (omega arith) c.if-bytes-ge32.true c.line_feeds-feeds.ensures c.if-feeds-ne0.true
