use Rattle.std.proofs.Common.{◌≡◌, ◌+◌, ◌<◌, ◌^◌, arith, length, ◌∙◌, sym, ap, List, Bool, true, false, None, take}
use Rattle.std.proofs.Math.Nat.{mul-le-mul_right}
use Rattle.std.proofs.lemmas.Grind.{common_steps}
use Rattle.esr_ledgers.specs.Books.{AreCharges, AreBooks, quote_of, quoted, charged, charged_to_queries, raised, would_pass, total_of, Account, Fits}
use Rattle.esr_ledgers.proofs.Books.{account_stays, all_open, books_then, open_imported, quote_is, same_pass, total_bounded, update_open}
use Rattle.esr_ledgers.proofs.ledgers.Ledgers.try_charge.Goals as goal
use Rattle.esr_ledgers.proofs.ledgers.Ledgers.try_charge.Goals.{After-import_within, After-passes_or_raises, Then-passes_or_raises, Else-passes_or_raises}

pub import_within-requires-clause-queries : goal.import_within-requires-clause-queries
import_within-requires-clause-queries c =
    let are : AreCharges c.self.inside.accounts.items c.args.u c.args.charges.now = rw c.self.view_is c.requires in
    all_open c.self.inside.accounts.items c.self.inside.total c.self.invariant c.args.u c.args.charges.now are

pub passes_or_raises-requires-clause-ascending : goal.passes_or_raises-requires-clause-ascending
passes_or_raises-requires-clause-ascending c = c.in-Ok.ensures.ascending

pub passes_or_raises-requires-clause-within : goal.passes_or_raises-requires-clause-within
passes_or_raises-requires-clause-within c = c.in-Ok.ensures.within

pub passes_or_raises-requires-clause-open : goal.passes_or_raises-requires-clause-open
passes_or_raises-requires-clause-open c =
    let are : AreCharges c.self.inside.accounts.items c.args.u c.args.charges.now = rw c.self.view_is c.requires in
    rw c.in-Ok.ensures.items (open_imported c.args.u.0 c.args.charges.now c.self.inside.accounts.items (update_open c.args.u.0 c.self.inside.accounts.items are.update))

-- the update is tested as it was at first
tested : (c : After-passes_or_raises) → c.passes_or_raises.result ≡ would_pass c.self.inside.accounts.items c.args.u.0 (total_of c.args.charges.now)
tested c =
    let xs = c.self.inside.accounts.items in
    let cs = c.args.charges.now in
    let are : AreCharges xs c.args.u cs = rw c.self.view_is c.requires in
    c.passes_or_raises.ensures.passes
    ∙ (ap (λ (ys : List Account). would_pass ys c.args.u.0 c.in-Ok.total) c.in-Ok.ensures.items
    ∙ (ap (λ n. would_pass (charged_to_queries xs cs) c.args.u.0 n) c.in-Ok.ensures.sum
    ∙ same_pass (charged_to_queries xs cs) xs c.args.u.0 (total_of cs) (account_stays xs c.self.inside.total c.self.invariant c.args.u cs are)))

quoted_at : (c : After-passes_or_raises) (over : Bool) → c.passes_or_raises.result ≡ over → quote_of c.self.inside.accounts.items c.args.u c.args.charges.now ≡ quoted None over c.args.u
quoted_at c over is =
    let are : AreCharges c.self.inside.accounts.items c.args.u c.args.charges.now = rw c.self.view_is c.requires in
    quote_is c.self.inside.accounts.items c.self.inside.total c.self.invariant c.args.u c.args.charges.now are over c.in-Ok.ensures.none_over (sym (tested c) ∙ is)

added : (c : Then-passes_or_raises) → c.passes_or_raises.new.accounts.items ≡ charged_to_queries c.self.inside.accounts.items (take (length c.args.charges.now) c.args.charges.now)
added c = grind (arith, common_steps)

pub undo_imports-requires-clause-added : goal.undo_imports-requires-clause-added
undo_imports-requires-clause-added c =
    let w : Then-passes_or_raises = (goal.at.undo_imports-requires-clause-added c).Then-passes_or_raises in
    let are : AreCharges c.self.inside.accounts.items c.args.u c.args.charges.now = rw c.self.view_is c.requires in
    (c.self.inside.accounts.items, c.self.invariant.ascending, all_open c.self.inside.accounts.items c.self.inside.total c.self.invariant c.args.u c.args.charges.now are, added w)

pub invariant_of-self-then-passes_or_raises : goal.invariant_of-self-then-passes_or_raises
invariant_of-self-then-passes_or_raises c =
    let w : Then-passes_or_raises = (goal.at.invariant_of-self-then-passes_or_raises c).Then-passes_or_raises in
    rw (c.undo_imports.ensures c.self.inside.accounts.items (added w)) c.self.invariant

pub returns-then-passes_or_raises-clause-quote : goal.returns-then-passes_or_raises-clause-quote
returns-then-passes_or_raises-clause-quote c =
    let w : After-passes_or_raises = (goal.at.returns-then-passes_or_raises-clause-quote c).After-passes_or_raises in
    rw (← c.self.view_is) (sym (quoted_at w true c.if-passes_or_raises.true))

fits : (c : After-passes_or_raises) → c.passes_or_raises.result ≡ false → quote_of c.self.inside.accounts.items c.args.u c.args.charges.now ≡ Fits
fits c is = quoted_at c false is

new_is : (c : Else-passes_or_raises) → c.passes_or_raises.new.accounts.items ≡ charged c.self.inside.accounts.items c.args.u c.args.charges.now
new_is c =
    c.if-passes_or_raises.ensures.items ∙ (ap (λ (ys : List Account). raised c.args.u.0 c.in-Ok.total ys) c.in-Ok.ensures.items
    ∙ ap (λ n. raised c.args.u.0 n (charged_to_queries c.self.inside.accounts.items c.args.charges.now)) c.in-Ok.ensures.sum)

books : (c : Else-passes_or_raises) → quote_of c.self.inside.accounts.items c.args.u c.args.charges.now ≡ Fits → AreBooks c.passes_or_raises.new.accounts.items (c.self.inside.total + c.in-Ok.total)
books c fit =
    let are : AreCharges c.self.inside.accounts.items c.args.u c.args.charges.now = rw c.self.view_is c.requires in
    rw (new_is c, c.in-Ok.ensures.sum) (books_then c.self.inside.accounts.items c.self.inside.total c.self.invariant c.args.u c.args.charges.now are fit)

pub overflow_add-self : goal.overflow_add-self
overflow_add-self c =
    let w : Else-passes_or_raises = (goal.at.overflow_add-self c).Else-passes_or_raises in
    let fit = fits (goal.at.overflow_add-self c).After-passes_or_raises c.if-passes_or_raises.false in
    let bound = total_bounded c.passes_or_raises.new.accounts.items (c.self.inside.total + c.in-Ok.total) (books w fit) in
    let len : length c.passes_or_raises.new.accounts.items < 2 ^ 63 = omega (arith, c.passes_or_raises.new.accounts.ok.0, c.passes_or_raises.new.accounts.small) in
    let upper_bound = mul-le-mul_right (2 ^ 64) len in
    omega (arith, bound, upper_bound)

pub invariant_of-self-2 : goal.invariant_of-self-2
invariant_of-self-2 c =
    books (goal.at.invariant_of-self-2 c).Else-passes_or_raises (fits (goal.at.invariant_of-self-2 c).After-passes_or_raises c.if-passes_or_raises.false)

pub returns-clause-quote : goal.returns-clause-quote
returns-clause-quote c =
    let w : After-passes_or_raises = (goal.at.returns-clause-quote c).After-passes_or_raises in
    rw (← c.self.view_is) (sym (fits w c.if-passes_or_raises.false))
