use Rattle.std.proofs.Common.{sym, ap, ◌∙◌, take, length, take-take}
use Rattle.esr_script.proofs.text_buffer.make_room.Goals as goal

pub returns-clause-text : goal.returns-clause-text
returns-clause-text c =
    sym (take-take c.args.len (length c.args.buffer.now.items) c.extend.new.buffer.items c.requires) ∙ ap (take c.args.len) c.extend.ensures.bytes
