use Rattle.std.proofs.Common.{◌≡◌, ◌∙◌, ◌∷◌, ◌++◌, [], ℤ, Some, ap, codes, rules, subst, sym, w64, to_z-of_z}
use mir.Val.{to_z, of_z}
use Rattle.std.specs.List.{join_with_byte}
use Rattle.std.specs.Fmt.{signed_decimal}
use Rattle.esr_grammar.specs.declared.parse.Line.{Line}
use Rattle.esr_grammar.specs.Command as command
use Rattle.esr_grammar.specs.Command.{IsSyntaxOf, view}
use Rattle.esr_script.specs.Text.{Executes, execute}
use Rattle.esr_script.proofs.Unread.{answered}
use Rattle.esr_script.proofs.script.Script.answer_unless_read.Goals as goal

pub write-requires : goal.write-requires
write-requires c =
    let write = c.in-Some-Write in
    let same : to_z w64 (of_z w64 write.value) ≡ write.value = search (rules, to_z-of_z) in
    let syntax : IsSyntaxOf c.args.line.now (command.write write.txn.now write.item.now write.value) =
    subst (λ (l : Line). IsSyntaxOf c.args.line.now (view l)) write.field-0-is write.ensures.command in
    subst (λ (v : ℤ). c.args.line.now ≡ codes "write " ++ join_with_byte 32 (write.txn.now ∷ write.item.now ∷ signed_decimal v ∷ [])) (sym same) syntax.1

pub returns-in-Some-Write : goal.returns-in-Some-Write
returns-in-Some-Write c =
    let write = c.in-Some-Write in
    let same : to_z w64 (of_z w64 write.value) ≡ write.value = search (rules, to_z-of_z) in
    answered c.args.self.now c.write.new.self c.args.line.now write.ensures.read.0 (command.write write.txn.now write.item.now write.value)
    (write.ensures.read.1 ∙ ap (λ (l : Line). Some (view l)) write.field-0-is) c.args.audience c.write.result c.args.out.now c.write.new.out
    (subst (λ (v : ℤ). Executes (execute c.args.self.now (command.write write.txn.now write.item.now v)) c.write.new.self c.args.out.now c.write.new.out c.write.result) same c.write.ensures)
