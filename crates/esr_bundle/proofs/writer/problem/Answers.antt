use Rattle.std.proofs.Common.{◌≡◌, ap, ◌∙◌}
use Rattle.serde_json.specs.Data.{object, no_members}
use Rattle.serde_json.specs.View.{view, members_view}
use Rattle.serde_json.proofs.Views.{view-Object}
use Rattle.esr_cert.specs.Views.{chain_view}
use Rattle.esr_bundle.specs.Bundle.{number_data, chain_data, numbers_data, chains_data, pairs_data}
use Rattle.esr_bundle.proofs.Exits.{list_written}
use Rattle.esr_bundle.proofs.Puts.{problem_put}
use Rattle.esr_bundle.proofs.writer.problem.Goals as goal

pub returns : goal.returns
returns c =
    let p = c.args.problem.now in
    let none : members_view c.new-members.result.entries ≡ no_members = ap members_view c.new-members.ensures.empty in
    let before : view c.in_ok-list_tree.field-0 ≡ pairs_data p.before = c.in_ok-list_tree.ensures ∙ ap pairs_data c.before-2.ensures.list in
    let chains : view c.in_ok-list_tree-2.field-0 ≡ chains_data p.chains = list_written chain_view chain_data _ _ _ c.in_ok-list_tree-2.ensures c.chains.ensures.list in
    let updates : view c.in_ok-list_tree-3.field-0 ≡ numbers_data p.updates = list_written (λ t. t.0) number_data _ _ _ c.in_ok-list_tree-3.ensures c.updates.ensures.list in
    view-Object c.put-3.new.map
    ∙ ap object (problem_put none c.in_ok-put.ensures.ok before c.in_ok-put-2.ensures.ok chains c.in_ok-put_list.ensures c.must.ensures.list c.in_ok-put-3.ensures.ok updates)
