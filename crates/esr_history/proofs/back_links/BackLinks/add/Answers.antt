use Rattle.std.proofs.Common.{◌≡◌, ◌+◌, ◌++◌, ◌∷◌, [], length, sym, ◌∙◌, ap, arith, vec_capacity, length-append}
use Rattle.esr_history.specs.BackLinks.{accepted_item, item_in}
use Rattle.esr_history.proofs.Linking.{accepted_more, refused_more, links_length}
use Rattle.esr_history.proofs.back_links.BackLinks.add.Goals as goal

pub returns-then-is_refused-clause-links : goal.returns-then-is_refused-clause-links
returns-then-is_refused-clause-links c = λ n es are fit num.
    let l = c.args.self.now in
    refused_more n es l are fit c.args.entry c.link.new.self (sym c.is_refused.ensures ∙ c.if-is_refused.true)
    (c.link.ensures.on_item ∙ ap (λ k. l.on_item.items ++ k ∷ []) c.last-on_item.ensures.item)
    (c.link.ensures.of_txn ∙ ap (λ k. l.of_txn.items ++ k ∷ []) c.last-on_item.ensures.txn)
    c.link.ensures.items c.link.ensures.txns c.link.ensures.ends c.link.ensures.begins

pub returns-then-is_refused-clause-spare_capacity : goal.returns-then-is_refused-clause-spare_capacity
returns-then-is_refused-clause-spare_capacity c = λ k fits.
    let l = c.args.self.now in
    let linked = c.link.ensures in
    let on_item : length c.link.new.self.on_item.items ≡ length l.on_item.items + 1 =
    ap length linked.on_item ∙ length-append l.on_item.items (c.last-on_item.result.0 ∷ []) in
    let of_txn : length c.link.new.self.of_txn.items ≡ length l.of_txn.items + 1 =
    ap length linked.of_txn ∙ length-append l.of_txn.items (c.last-on_item.result.1 ∷ []) in
    let begins = fits.3 in (
      omega (arith, on_item, fits.0),
      omega (arith, on_item, linked.item_capacity, fits.1),
      omega (arith, of_txn, linked.txn_capacity, fits.2),
      (
        omega (arith, ap (λ v. length v.items) linked.txns, ap vec_capacity linked.txns, begins.0),
        omega (arith, ap (λ v. length v.items) linked.ends, ap vec_capacity linked.ends, begins.1),
        omega (arith, ap (λ v. length v.items) linked.begins, ap vec_capacity linked.begins, begins.2),
      ),
    )

pub returns-clause-links : goal.returns-clause-links
returns-clause-links c = λ n es are fit num.
    let l = c.args.self.now in
    let noted = c.note-on_item.ensures in
    let linked = c.link-2.ensures in
    let count : length l.on_item.items ≡ length es = ap length are.on_item ∙ links_length accepted_item item_in es in
    let m = l.on_item.ok.0 in
    let code : c.len.result + 1 ≡ length es + 1 = omega (arith, count, m, c.len.ensures) in
    accepted_more n es l are fit c.args.entry c.link-2.new.self (c.len.result + 1) (sym c.is_refused.ensures ∙ c.if-is_refused.false) num code
    (linked.on_item ∙ (ap (λ v. v.items ++ c.note-on_item.result.0 ∷ []) noted.on_item ∙ ap (λ k. l.on_item.items ++ k ∷ []) noted.item))
    (linked.of_txn ∙ (ap (λ v. v.items ++ c.note-on_item.result.1 ∷ []) noted.of_txn ∙ ap (λ k. l.of_txn.items ++ k ∷ []) noted.txn))
    (ap (λ v. v.items) linked.items ∙ noted.items) (ap (λ v. v.items) linked.txns ∙ noted.txns)
    (ap (λ v. v.items) linked.ends ∙ noted.ends) (ap (λ v. v.items) linked.begins ∙ noted.begins)

pub returns-clause-spare_capacity : goal.returns-clause-spare_capacity
returns-clause-spare_capacity c = λ k fits.
    let l = c.args.self.now in
    let noted = c.note-on_item.ensures in
    let linked = c.link-2.ensures in
    let on_item : length c.link-2.new.self.on_item.items ≡ length l.on_item.items + 1 =
    ap length linked.on_item ∙ (length-append c.note-on_item.new.self.on_item.items (c.note-on_item.result.0 ∷ []) ∙ ap (λ v. length v.items + 1) noted.on_item) in
    let of_txn : length c.link-2.new.self.of_txn.items ≡ length l.of_txn.items + 1 =
    ap length linked.of_txn ∙ (length-append c.note-on_item.new.self.of_txn.items (c.note-on_item.result.1 ∷ []) ∙ ap (λ v. length v.items + 1) noted.of_txn) in
    let on_items = linked.item_capacity ∙ ap vec_capacity noted.on_item in
    let of_txns = linked.txn_capacity ∙ ap vec_capacity noted.of_txn in
    let begins = noted.spare_capacity k fits.3 in (
      omega (arith, on_item, fits.0),
      omega (arith, on_item, on_items, fits.1),
      omega (arith, of_txn, of_txns, fits.2),
      (
        omega (arith, ap (λ v. length v.items) linked.txns, ap vec_capacity linked.txns, begins.0),
        omega (arith, ap (λ v. length v.items) linked.ends, ap vec_capacity linked.ends, begins.1),
        omega (arith, ap (λ v. length v.items) linked.begins, ap vec_capacity linked.begins, begins.2),
      ),
    )
