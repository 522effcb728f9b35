use Rattle.std.proofs.Common.{◌&&◌, ◌∙◌, sym, get_or, nat_lt, nat_le, arith}
use Rattle.std.proofs.lemmas.List.{get_or_default}
use Rattle.esr_base.specs.declared.limits.TheConstants.{MAX_TRANSACTIONS}
use Rattle.esr_cert.proofs.Steps.{list_all_map_yes, list_all_map_no}
use Rattle.esr_cert.proofs.range.are_updates_in_range.Goals as goal

pub returns-then-not-is_update_in_range : goal.returns-then-not-is_update_in_range
returns-then-not-is_update_in_range c = sym (sym c.loop-update.invariant ∙ list_all_map_no (λ t. nat_lt 0 t && nat_le t MAX_TRANSACTIONS) (λ t. t.0) c.args.updates.now c.loop-update.update-index (get_or c.args.updates.now c.loop-update.update-index (record { 0 = 0 })) (omega arith) (get_or_default c.args.updates.now c.loop-update.update-index _ _ (omega arith)) (sym c.is_update_in_range.ensures ∙ c.if-not-is_update_in_range.true))

pub loop-update-preserved : goal.loop-update-preserved
loop-update-preserved c = sym (list_all_map_yes (λ t. nat_lt 0 t && nat_le t MAX_TRANSACTIONS) (λ t. t.0) c.args.updates.now c.loop-update.update-index (get_or c.args.updates.now c.loop-update.update-index (record { 0 = 0 })) (omega arith) (get_or_default c.args.updates.now c.loop-update.update-index _ _ (omega arith)) (sym c.is_update_in_range.ensures ∙ c.if-not-is_update_in_range.false)) ∙ c.loop-update.invariant
