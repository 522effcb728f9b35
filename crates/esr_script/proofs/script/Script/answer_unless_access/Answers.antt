use Rattle.std.proofs.Common.{◌∙◌, Some, ap, rules, subst}
use Rattle.esr_grammar.specs.declared.parse.Line.{Line}
use Rattle.esr_grammar.specs.Command as command
use Rattle.esr_grammar.specs.Command.{IsSyntaxOf, view}
use Rattle.esr_script.proofs.Echoes.{is_begin_update_long, begin_words}
use Rattle.esr_script.proofs.Unread.{answered}
use Rattle.esr_script.proofs.script.Script.answer_unless_access.Goals as goal

pub slice_bounds-begin_update-end : goal.slice_bounds-begin_update-end
slice_bounds-begin_update-end c =
    let begin = c.in-Some-BeginUpdate in
    let long = is_begin_update_long c.args.line.now begin.name.now begin.limit (subst (λ (l : Line). IsSyntaxOf c.args.line.now (view l)) begin.field-0-is begin.ensures.command) in
    search rules

pub begin_update-requires : goal.begin_update-requires
begin_update-requires c =
    let begin = c.in-Some-BeginUpdate in
    begin_words c.args.line.now begin.name.now begin.limit (subst (λ (l : Line). IsSyntaxOf c.args.line.now (view l)) begin.field-0-is begin.ensures.command)

pub returns-in-Some-BeginUpdate : goal.returns-in-Some-BeginUpdate
returns-in-Some-BeginUpdate c =
    let begin = c.in-Some-BeginUpdate in
    answered c.args.self.now c.begin_update.new.self c.args.line.now begin.ensures.read.0 (command.begin_update begin.name.now begin.limit)
    (begin.ensures.read.1 ∙ ap (λ (l : Line). Some (view l)) begin.field-0-is) c.args.audience c.begin_update.result c.args.out.now c.begin_update.new.out c.begin_update.ensures

pub returns-in-Some-Commit : goal.returns-in-Some-Commit
returns-in-Some-Commit c =
    let commit = c.in-Some-Commit in
    answered c.args.self.now c.commit.new.self c.args.line.now commit.ensures.read.0 (command.commit commit.txn.now)
    (commit.ensures.read.1 ∙ ap (λ (l : Line). Some (view l)) commit.field-0-is) c.args.audience c.commit.result c.args.out.now c.commit.new.out c.commit.ensures
