use Rattle.std.proofs.Common.{◌≡◌, length, sym, subst, ap, ◌∙◌, arith}
use Rattle.esr_history.specs.Imports.{AreImports, with_number}
use Rattle.esr_history.specs.Machine.{extended}
use Rattle.esr_history.proofs.Importing.{imports_accepted}
use Rattle.esr_history.proofs.Lists.{whole_slice}
use Rattle.esr_history.proofs.imports.note.Goals as goal

pub returns-clause-imports : goal.returns-clause-imports
returns-clause-imports c = λ d h legal is due are.
    let opened = c.open.new.imports in
    let summed = c.add_charges.new.imports in
    let updated : c.deref_mut.result.now ≡ with_number c.args.imports.now.items c.args.entry.event = c.deref_mut.ensures.value ∙ c.open.ensures.places in
    let same : length summed ≡ length opened.items = c.add_charges.ensures.len ∙ ap length c.deref_mut.ensures.value in
    let made : AreImports d (extended h c.args.entry.event c.args.entry.reply) summed =
    imports_accepted d h legal c.args.entry.event c.args.entry.reply is (sym c.is_refused.ensures ∙ c.if-is_refused.false) c.args.imports.now.items summed c.args.charges.now due are
    (c.add_charges.ensures.len ∙ ap length updated) (rw (← updated) c.add_charges.ensures.sums) in
    subst (AreImports d (extended h c.args.entry.event c.args.entry.reply)) (sym (whole_slice opened.len summed opened.items same opened.ok.0)) made

pub returns-clause-spare_capacity : goal.returns-clause-spare_capacity
returns-clause-spare_capacity c = λ k fits.
    let opened = c.open.new.imports in
    let summed = c.add_charges.new.imports in
    let same : length summed ≡ length opened.items = c.add_charges.ensures.len ∙ ap length c.deref_mut.ensures.value in
    let whole = ap length (whole_slice opened.len summed opened.items same opened.ok.0) in
    omega (arith, whole, same, c.open.ensures.spare_capacity k fits)
