use Rattle.std.proofs.Common.{◌≡◌, ◌∙◌, sym, ap, false, List, arith, refl, insert}
use Rattle.std.proofs.lemmas.Bool.{false≢true}
use Rattle.std.proofs.lemmas.Grind.{common_steps}
use Rattle.esr_history.specs.Ascending.{IsPlaceOf, IsGapFor}
use Rattle.esr_history.proofs.Ascending.{any_place, placed_gap}
use Rattle.esr_ledgers.specs.Books.{number, is_open, with_account, new_account, Account}
use Rattle.esr_ledgers.proofs.Books.{AreBooks-with_account}
use Rattle.esr_ledgers.proofs.ledgers.Ledgers.open.Goals as goal
use Rattle.esr_ledgers.proofs.ledgers.Ledgers.open.Goals.{Else-is_err}

pub unreachable-requires : goal.unreachable-requires
unreachable-requires c =
    let place : IsPlaceOf number c.self.inside.accounts.items c.args.number.0 c.in-Ok.field-0 = rw (← c.deref.ensures.value) c.in-Ok.ensures.found in
    let fresh : is_open c.self.inside.accounts.items c.args.number.0 ≡ false = rw c.self.view_is c.requires in
    false≢true (sym fresh ∙ any_place number c.args.number.0 c.in-Ok.field-0 c.self.inside.accounts.items (new_account c.args.kind c.args.number c.args.limit) place)

put : (c : Else-is_err) → c.put_account.new.accounts.items ≡ insert c.self.inside.accounts.items c.in-Err.at (new_account c.args.kind c.args.number c.args.limit)
put c = grind (arith, common_steps)

placed_is : (c : Else-is_err) → insert c.self.inside.accounts.items c.in-Err.at (new_account c.args.kind c.args.number c.args.limit) ≡ with_account c.self.inside.accounts.items (new_account c.args.kind c.args.number c.args.limit)
placed_is c =
    let gap : IsGapFor number c.self.inside.accounts.items c.args.number.0 c.in-Err.at = rw (← c.deref.ensures.value) c.in-Err.ensures.absent in
    placed_gap number c.args.number.0 (new_account c.args.kind c.args.number c.args.limit) (λ a. a) c.self.inside.accounts.items c.in-Err.at gap

pub invariant_of-self-2 : goal.invariant_of-self-2
invariant_of-self-2 c =
    rw (put c ∙ placed_is c) (AreBooks-with_account c.self.inside.accounts.items c.self.inside.total (new_account c.args.kind c.args.number c.args.limit) c.self.invariant refl (omega arith) c.in-Err.at (placed_is c))

pub returns-clause-ok : goal.returns-clause-ok
returns-clause-ok c = put c ∙ (placed_is c ∙ ap (λ (v : List Account). with_account v (new_account c.args.kind c.args.number c.args.limit)) c.self.view_is)
