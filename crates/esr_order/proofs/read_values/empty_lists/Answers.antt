use Rattle.std.proofs.Common.{◌+◌, ◌∙◌, ap, length}
use Rattle.std.proofs.lemmas.List.{length_push}
use Rattle.esr_order.specs.ReadValues.{list_at}
use Rattle.esr_order.proofs.ValueLists.{list_push}
use Rattle.esr_order.proofs.read_values.empty_lists.Goals as goal

pub loop-i-preserved : goal.loop-i-preserved
loop-i-preserved c = record {
  count = ap length c.in_ok-push.ensures.items ∙ length_push c.loop-i.lists.items c.new.result ∙ ap (λ n. n + 1) c.loop-i.invariant.count;
  none = λ x. ap (λ lists. list_at lists x) c.in_ok-push.ensures.items ∙ list_push c.loop-i.lists.items c.new.result c.new.ensures.items c.loop-i.invariant.none x;
}
