use Rattle.std.proofs.Common.{◌≡◌, ◌+◌, ◌<◌, ◌^◌, arith, length, ◌∙◌, refl}
use Rattle.std.proofs.Math.Nat.{mul-le-mul_right}
use Rattle.esr_ledgers.specs.Books.{AreCharges, AreBooks, quote_of, charged, Fits}
use Rattle.esr_ledgers.proofs.Books.{all_open, imports_fit, export_fits, export_fits_then, still_open, books_then, total_bounded}
use Rattle.esr_ledgers.proofs.ledgers.Ledgers.charge.Goals as goal
use Rattle.esr_ledgers.proofs.ledgers.Ledgers.charge.Goals.{After-raise}

pub import_each-total-requires-clause-queries : goal.import_each-total-requires-clause-queries
import_each-total-requires-clause-queries c =
    let are : AreCharges c.self.inside.accounts.items c.args.u c.args.charges.now = rw c.self.view_is c.requires.charges in
    all_open c.self.inside.accounts.items c.self.inside.total c.self.invariant c.args.u c.args.charges.now are

pub import_each-total-requires-clause-fits : goal.import_each-total-requires-clause-fits
import_each-total-requires-clause-fits c =
    let are : AreCharges c.self.inside.accounts.items c.args.u c.args.charges.now = rw c.self.view_is c.requires.charges in
    let fits : quote_of c.self.inside.accounts.items c.args.u c.args.charges.now ≡ Fits = rw c.self.view_is c.requires.fits in
    imports_fit c.self.inside.accounts.items c.self.inside.total c.self.invariant c.args.u c.args.charges.now are fits

pub overflow_cast-total : goal.overflow_cast-total
overflow_cast-total c =
    let are : AreCharges c.self.inside.accounts.items c.args.u c.args.charges.now = rw c.self.view_is c.requires.charges in
    let fits : quote_of c.self.inside.accounts.items c.args.u c.args.charges.now ≡ Fits = rw c.self.view_is c.requires.fits in
    omega (arith, export_fits c.self.inside.accounts.items c.self.inside.total c.self.invariant c.args.u c.args.charges.now are fits, c.import_each-total.ensures.sum)

pub raise-requires-clause-open : goal.raise-requires-clause-open
raise-requires-clause-open c =
    let are : AreCharges c.self.inside.accounts.items c.args.u c.args.charges.now = rw c.self.view_is c.requires.charges in
    let fits : quote_of c.self.inside.accounts.items c.args.u c.args.charges.now ≡ Fits = rw c.self.view_is c.requires.fits in
    rw c.import_each-total.ensures.items (still_open c.self.inside.accounts.items c.self.inside.total c.self.invariant c.args.u c.args.charges.now are fits)

pub raise-requires-clause-fits : goal.raise-requires-clause-fits
raise-requires-clause-fits c =
    let are : AreCharges c.self.inside.accounts.items c.args.u c.args.charges.now = rw c.self.view_is c.requires.charges in
    let fits : quote_of c.self.inside.accounts.items c.args.u c.args.charges.now ≡ Fits = rw c.self.view_is c.requires.fits in
    rw (c.import_each-total.ensures.items, c.import_each-total.ensures.sum) (export_fits_then c.self.inside.accounts.items c.self.inside.total c.self.invariant c.args.u c.args.charges.now are fits)

books : (c : After-raise) → AreBooks c.raise.new.accounts.items (c.self.inside.total + c.import_each-total.result)
books c =
    let are : AreCharges c.self.inside.accounts.items c.args.u c.args.charges.now = rw c.self.view_is c.requires.charges in
    let fits : quote_of c.self.inside.accounts.items c.args.u c.args.charges.now ≡ Fits = rw c.self.view_is c.requires.fits in
    let new_is : c.raise.new.accounts.items ≡ charged c.self.inside.accounts.items c.args.u c.args.charges.now = c.raise.ensures ∙ rw (c.import_each-total.ensures.items, c.import_each-total.ensures.sum) refl in
    rw (new_is, c.import_each-total.ensures.sum) (books_then c.self.inside.accounts.items c.self.inside.total c.self.invariant c.args.u c.args.charges.now are fits)

pub overflow_add-self : goal.overflow_add-self
overflow_add-self c =
    let bound = total_bounded c.raise.new.accounts.items (c.self.inside.total + c.import_each-total.result) (books c) in
    let len : length c.raise.new.accounts.items < 2 ^ 63 = omega (arith, c.raise.new.accounts.ok.0, c.raise.new.accounts.small) in
    let upper_bound = mul-le-mul_right (2 ^ 64) len in
    omega (arith, bound, upper_bound)

pub invariant_of-self : goal.invariant_of-self
invariant_of-self c = books (goal.at.invariant_of-self c).After-raise
