use Rattle.std.proofs.Common.{◌≡◌, ◌+◌, ◌∙◌, ap, arith}
use Rattle.esr_grammar.specs.Command.{is_name_byte}
use Rattle.esr_grammar.proofs.Classes.{described}
use Rattle.esr_grammar.proofs.words.is_name_byte.Goals as goal

pub returns : goal.returns
returns c =
    let same : c.args.byte + 0 ≡ c.args.byte = omega arith in
    described 0 c.name_bytes.result.now c.args.byte c.name_bytes.ensures (omega arith) ∙ ap is_name_byte same
