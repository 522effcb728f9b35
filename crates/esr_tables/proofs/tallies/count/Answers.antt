use Rattle.std.proofs.Common.{◌≡◌, ◌∙◌, ◌<◌, ◌∷◌, [], ◌++◌, ap, arith, get_or, length, sym, subst, slice_set}
use Rattle.esr_tables.specs.declared.tallies.Tally.{Tally}
use Rattle.esr_tables.specs.Entries.{AreTallies, with_reply}
use Rattle.esr_tables.proofs.Tallied.{is_counted}
use Rattle.esr_tables.proofs.tallies.count.Goals as goal

pub returns-then-t-len-clause-tallies : goal.returns-then-t-len-clause-tallies
returns-then-t-len-clause-tallies c = λ es are.
    let e = c.args.entry in let tallies = c.args.tallies.now.items in let n = c.in-Some.txn.0 in
    let long : c.len.result ≡ length tallies = c.len.ensures ∙ c.args.tallies.now.ok.0 in
    let within : n < length tallies = omega (arith, long, c.if-t-len.true) in
    let is : c.with_reply.result ≡ with_reply (get_or tallies n c.index.result.now) e.reply = c.with_reply.ensures ∙ ap (λ (y : Tally). with_reply y e.reply) c.index.ensures in
    subst (λ (y : Tally). AreTallies (es ++ e ∷ []) (slice_set tallies n y)) (sym is) (is_counted es e tallies n c.index.result.now within (sym c.in-Some.ensures) are)
