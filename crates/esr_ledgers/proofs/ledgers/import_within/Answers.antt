use Rattle.std.proofs.Common.{rules, arith, ◌≡◌, ◌+◌, ◌≤◌, ◌∙◌, sym, ap, ℕ, get_or, take}
use Rattle.std.proofs.lemmas.Bool.{ltb-false}
use Rattle.std.proofs.lemmas.Grind.{common_steps}
use Rattle.esr_base.specs.declared.numbers.TxnId.{TxnId}
use Rattle.esr_ledgers.specs.Books.{account_of, account_amount, limit_at, raised, would_pass}
use Rattle.esr_ledgers.proofs.Books.{account_at_turn, charged_more, open_imported, raised_ascends, same_pass, within_raised}
use Rattle.esr_ledgers.proofs.Finds.{find_first, find_none_more}
use Rattle.esr_ledgers.proofs.ledgers.import_within.Goals as goal
use Rattle.esr_ledgers.proofs.ledgers.import_within.Goals.{After-passes_or_raises}

pub passes_or_raises-requires-clause-open : goal.passes_or_raises-requires-clause-open
passes_or_raises-requires-clause-open c =
    let charge : TxnId × ℕ = get_or c.args.charges.now c.loop-i.i (record { 0 = 0 }, 0) in
    rw c.loop-i.invariant.items (open_imported charge.0.0 (take c.loop-i.i c.args.charges.now) c.args.accounts.now.items (c.requires.queries c.loop-i.i (record { 0 = 0 }, 0) c.loop-i-test.true))

-- an account is tested as it was at first
tested : (c : After-passes_or_raises) → c.passes_or_raises.result ≡ would_pass c.args.accounts.now.items (get_or c.args.charges.now c.loop-i.i (record { 0 = 0 }, 0)).0.0 (get_or c.args.charges.now c.loop-i.i (record { 0 = 0 }, 0)).1
tested c =
    let charge : TxnId × ℕ = get_or c.args.charges.now c.loop-i.i (record { 0 = 0 }, 0) in
    let same : account_of c.loop-i.accounts.items charge.0.0 ≡ account_of c.args.accounts.now.items charge.0.0 =
    rw c.loop-i.invariant.items (account_at_turn c.args.accounts.now.items c.args.charges.now c.requires.listed c.loop-i.i (record { 0 = 0 }, 0) c.loop-i-test.true) in
    c.passes_or_raises.ensures.passes ∙ (ap (λ n. would_pass c.loop-i.accounts.items charge.0.0 n) c.from.ensures ∙ same_pass c.loop-i.accounts.items c.args.accounts.now.items charge.0.0 charge.1 same)

pub returns-then-passes_or_raises-clause-over : goal.returns-then-passes_or_raises-clause-over
returns-then-passes_or_raises-clause-over c =
    let w : After-passes_or_raises = (goal.at.returns-then-passes_or_raises-clause-over c).After-passes_or_raises in
    find_first (λ (b : TxnId × ℕ). would_pass c.args.accounts.now.items b.0.0 b.1) c.args.charges.now c.loop-i.i (record { 0 = 0 }, 0) c.loop-i-test.true c.loop-i.invariant.none_over (sym (tested w) ∙ c.if-passes_or_raises.true)

pub loop-i-preserved : goal.loop-i-preserved
loop-i-preserved c =
    let w : After-passes_or_raises = (goal.at.loop-i-preserved c).After-passes_or_raises in
    let charge : TxnId × ℕ = get_or c.args.charges.now c.loop-i.i (record { 0 = 0 }, 0) in
    let s = c.loop-i.accounts.items in
    let new_is : c.passes_or_raises.new.accounts.items ≡ raised charge.0.0 charge.1 s = c.if-passes_or_raises.ensures.items ∙ ap (λ n. raised charge.0.0 n s) c.from.ensures in
    let fits : account_amount s charge.0.0 + charge.1 ≤ limit_at s charge.0.0 =
    ltb-false (limit_at s charge.0.0) (account_amount s charge.0.0 + charge.1) (sym (c.if-passes_or_raises.ensures.passes ∙ ap (λ n. would_pass s charge.0.0 n) c.from.ensures)) in
    record {
      none_over = find_none_more (λ (b : TxnId × ℕ). would_pass c.args.accounts.now.items b.0.0 b.1) c.args.charges.now c.loop-i.i (record { 0 = 0 }, 0) c.loop-i-test.true c.loop-i.invariant.none_over (sym (tested w) ∙ c.if-passes_or_raises.false);
      items = new_is ∙ (ap (raised charge.0.0 charge.1) c.loop-i.invariant.items ∙ sym (charged_more c.args.accounts.now.items c.args.charges.now c.loop-i.i (record { 0 = 0 }, 0) c.loop-i-test.true));
      ascending = rw new_is (raised_ascends charge.0.0 charge.1 s c.loop-i.invariant.ascending);
      within = rw new_is (within_raised charge.0.0 charge.1 s c.loop-i.invariant.ascending c.loop-i.invariant.within fits);
      sum = grind (arith, common_steps);
      upper_bound = search rules;
    }
