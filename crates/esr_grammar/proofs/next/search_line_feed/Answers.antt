use Rattle.esr_grammar.proofs.Feeds.{first_feed}
use Rattle.esr_grammar.proofs.next.search_line_feed.Goals as goal

pub returns : goal.returns
returns c = first_feed c.args.bytes.now c.memchr.result c.memchr.ensures
