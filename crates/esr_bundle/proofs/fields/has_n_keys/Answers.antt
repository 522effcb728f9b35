use Rattle.std.proofs.Common.{◌∙◌, ◌==◌, sym, ap}
use Rattle.serde_json.proofs.Views.{members_len-members_view}
use Rattle.esr_bundle.proofs.fields.has_n_keys.Goals as goal

pub returns-in-Some : goal.returns-in-Some
returns-in-Some c =
    rw (← c.in-Some.ensures) (ap (λ k. k == c.args.count) (c.len.ensures.len ∙ sym (members_len-members_view c.in-Some.members.now.entries)))
