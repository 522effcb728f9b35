use Rattle.std.proofs.Common.{◌≡◌, ap, ◌∙◌}
use Rattle.serde_json.specs.Data.{object, no_members}
use Rattle.serde_json.specs.View.{view, members_view}
use Rattle.serde_json.proofs.Views.{view-Object}
use Rattle.esr_cert.specs.Views.{rows_of}
use Rattle.esr_bundle.specs.Bundle.{number_data, numbers_data, rows_data}
use Rattle.esr_bundle.proofs.Exits.{list_written}
use Rattle.esr_bundle.proofs.Puts.{certificate_put}
use Rattle.esr_bundle.proofs.writer.certificate.Goals as goal

pub returns : goal.returns
returns c =
    let q = c.args.certificate.now in
    let none : members_view c.new-members.result.entries ≡ no_members = ap members_view c.new-members.ensures.empty in
    let back : view c.in_ok-list_tree.field-0 ≡ numbers_data q.back_flow.items = c.in_ok-list_tree.ensures ∙ ap numbers_data c.deref.ensures.value in
    let rows : view c.in_ok-list_tree-2.field-0 ≡ rows_data (rows_of q.chain_flow.items) = list_written (λ row. row.items) numbers_data _ _ _ c.in_ok-list_tree-2.ensures (ap rows_of c.deref-2.ensures.value) in
    let set : view c.in_ok-list_tree-3.field-0 ≡ numbers_data q.set.items = c.in_ok-list_tree-3.ensures ∙ ap numbers_data c.deref-4.ensures.value in
    let worth : view c.from.result ≡ number_data q.worth = c.from.ensures in
    view-Object c.put-4.new.map
    ∙ ap object (certificate_put q.augmentations none c.in_ok-put_number.ensures c.in_ok-put.ensures.ok back c.in_ok-put-2.ensures.ok rows c.in_ok-put_list.ensures c.deref-3.ensures.value c.in_ok-put-3.ensures.ok set c.in_ok-put-4.ensures.ok worth)
