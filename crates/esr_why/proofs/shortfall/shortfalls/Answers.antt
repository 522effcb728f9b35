use Rattle.std.proofs.Common.{◌≡◌, ◌<◌, ◌∙◌, ◌++◌, List, ℕ, Option, IfSome, length, ap, ap₂, sym, subst, filter_map, sum_by}
use Rattle.esr_base.specs.declared.numbers.TxnId.{TxnId}
use Rattle.esr_items.specs.Weights.{weighted}
use Rattle.esr_history.specs.Machine.{due_in}
use Rattle.esr_core.specs.States.{charges_of, charges_by}
use Rattle.esr_why.specs.declared.shortfall.Shortfall.{Shortfall}
use Rattle.esr_why.specs.Shortfalls.{import_lack, export_lack, listed, shortfalls_of}
use Rattle.esr_why.proofs.Amounts.{shortfalls_by}
use Rattle.esr_why.proofs.shortfall.shortfalls.Goals as goal

pub returns : goal.returns
returns c =
    let h = c.args.machine.now in let cs = c.due.new.charges.items in let u = c.in-Some.update.0 in
    let f : TxnId × ℕ → Option Shortfall = λ g. import_lack weighted h g.0.0 g.1 in
    let due : due_in weighted h c.args.event ≡ charges_by u cs = c.in_ok-update.ensures.charges ∙ ap (λ o. charges_of o cs) c.in-Some.is in
    let some : 0 < length cs = subst (λ o. IfSome o (λ _. 0 < length cs)) c.in-Some.is c.in_ok-update.ensures.some in
    let imports : c.push_imports.new.found.items ≡ filter_map f cs =
    c.in_ok-push_imports.ensures ∙ (ap (λ (l : List Shortfall). l ++ filter_map f c.deref.result.now) c.new-found.ensures.items ∙ ap (filter_map f) c.deref.ensures.value) in
    let export : c.export_lack.result ≡ export_lack weighted h u (sum_by (λ (g : TxnId × ℕ). g.1) cs) =
    c.export_lack.ensures ∙ ap (export_lack weighted h u) (c.total.ensures.total ∙ ap (sum_by (λ (g : TxnId × ℕ). g.1)) c.deref-2.ensures.value) in
    c.in_ok-push_if.ensures
    ∙ (ap₂ (λ (l : List Shortfall) (s : Option Shortfall). l ++ listed s) imports export
    ∙ sym (ap (shortfalls_of weighted h) due ∙ shortfalls_by weighted h u cs some))
