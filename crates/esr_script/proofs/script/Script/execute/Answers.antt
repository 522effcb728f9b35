use Rattle.std.proofs.Common.{◌≡◌, ℤ, subst, w64, to_z-of_z, rules}
use mir.Val.{to_z, of_z}
use Rattle.esr_grammar.specs.Command as command
use Rattle.esr_script.specs.Text.{Executes, execute}
use Rattle.esr_script.proofs.script.Script.execute.Goals as goal

pub returns-in-Read : goal.returns-in-Read
returns-in-Read c = rw c.in-Read.is c.read_in_text.ensures

pub returns-in-Write : goal.returns-in-Write
returns-in-Write c =
    let same : to_z w64 (of_z w64 c.in-Write.value) ≡ c.in-Write.value = search (rules, to_z-of_z) in
    rw c.in-Write.is (subst (λ (v : ℤ). Executes (execute c.args.self.now (command.write c.in-Write.txn.now c.in-Write.item.now v)) c.write_in_text.new.self c.args.out.now.items c.write_in_text.new.out.items c.write_in_text.result) same c.write_in_text.ensures)
