use Rattle.std.proofs.Common.{◌≡◌, ◌≤◌, ◌<◌, ◌+◌, ◌-◌, ◌++◌, ◌∷◌, [], length, set, sym, ap, subst, arith, refl}
use Rattle.esr_stream.specs.declared.reads.TheConstants.{OFFSET}
use Rattle.esr_stream.specs.Passes.{IsReadOf, IsUpdateApplied, ItemState, state_at}
use Rattle.esr_stream.proofs.RowLaws.{row_read}
use Rattle.esr_stream.proofs.items.apply_read.Goals as goal

pub returns : goal.returns
returns c = λ C proposed row access old before after reads is_item is_amount so_far.
    let x = access.item.0 in
    let states = c.args.states.now in
    let item = c.after_read-read.result in
    let here : state_at states c.args.x.0 ≡ state_at states x = ap (state_at states) (sym is_item) in
    let inside : x < length old = omega (arith, c.requires.item, so_far.len, is_item) in
    subst (λ y. IsUpdateApplied C c.args.marked proposed (row ++ access ∷ []) old (set states y item) (before + (item.loan - (state_at states y).loan)) (after + ((item.amount - (state_at states y).amount) + 0))) is_item
    (row_read C c.args.marked proposed row access old states before after so_far inside item (set states x item) refl reads
    (subst (λ s. IsReadOf c.args.marked s item) here c.after_read-read.ensures.read)
    (subst (λ (s : ItemState). s.amount ≤ s.cost → item.amount ≤ item.cost) here c.after_read-read.ensures.under)
    (λ offers slack. subst (λ (s : ItemState). s.amount < s.cost → s.amount < item.amount) here (c.after_read-read.ensures.raises (subst (λ n. OFFSET < n) is_amount offers)) slack))
