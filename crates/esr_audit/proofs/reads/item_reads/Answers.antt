use Rattle.std.proofs.Common.{◌∙◌, ap, filter, map, not}
use Rattle.std.proofs.lemmas.Result.{IfOk-weaker}
use Rattle.esr_order.specs.declared.accesses.Access.{Access}
use Rattle.esr_audit.specs.Reads.{item_read_in}
use Rattle.esr_audit.proofs.ItemReads.{item_reads_are}
use Rattle.esr_audit.proofs.reads.item_reads.Goals as goal

pub returns : goal.returns
returns g c =
    IfOk-weaker c.item_reads_among.result _ _
    (λ v is. is ∙ (ap (λ l. map item_read_in (filter (λ (a : Access). not a.writes) l)) (c.deref.ensures.value ∙ c.in_ok-accesses.ensures) ∙ item_reads_are c.args.history.now.schedule c.args.q.0))
    c.item_reads_among.ensures
