use Rattle.std.proofs.Common.{◌∙◌, ◌≤◌, Some, ap, length, rules, subst}
use Rattle.esr_grammar.specs.declared.parse.Line.{Line}
use Rattle.esr_grammar.specs.Command as command
use Rattle.esr_grammar.specs.Command.{IsSyntaxOf, view}
use Rattle.esr_script.proofs.Echoes.{is_read_long, read_words}
use Rattle.esr_script.proofs.Unread.{answered}
use Rattle.esr_script.proofs.script.Script.answer.Goals as goal

pub slice_bounds-read-count : goal.slice_bounds-read-count
slice_bounds-read-count c =
    let read = c.in-Some-Read in
    is_read_long c.args.line.now read.txn.now read.item.now (subst (λ (l : Line). IsSyntaxOf c.args.line.now (view l)) read.field-0-is read.ensures.command)

pub slice_bounds-read-start : goal.slice_bounds-read-start
slice_bounds-read-start c =
    let read = c.in-Some-Read in
    let long : 5 ≤ length c.args.line.now = is_read_long c.args.line.now read.txn.now read.item.now (subst (λ (l : Line). IsSyntaxOf c.args.line.now (view l)) read.field-0-is read.ensures.command) in
    search rules

pub read-requires : goal.read-requires
read-requires c =
    let read = c.in-Some-Read in
    read_words c.args.line.now read.txn.now read.item.now (subst (λ (l : Line). IsSyntaxOf c.args.line.now (view l)) read.field-0-is read.ensures.command)

pub returns-in-Some-Read : goal.returns-in-Some-Read
returns-in-Some-Read c =
    let read = c.in-Some-Read in
    answered c.args.self.now c.read.new.self c.args.line.now read.ensures.read.0 (command.read read.txn.now read.item.now)
    (read.ensures.read.1 ∙ ap (λ (l : Line). Some (view l)) read.field-0-is) c.args.audience c.read.result c.args.out.now c.read.new.out c.read.ensures
