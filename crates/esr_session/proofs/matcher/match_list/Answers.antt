use Rattle.std.proofs.Common.{◌≡◌, ◌+◌, ◌≤◌, ◌++◌, ◌∷◌, [], true, false, List, get_or, length, map, take, drop, set, suc, sym, subst, ap, ◌∙◌, append_assoc, arith}
use Rattle.std.proofs.lemmas.List.{take_more}
use Rattle.esr_history.specs.declared.event.Event.TheVariants.{BeginUpdate}
use Rattle.esr_history.specs.declared.event.Reply.TheVariants.{Begun}
use Rattle.esr_session.specs.Receipts.{ValidFrom, next_place, receipt, receipts_in, Receipt}
use Rattle.esr_session.specs.Marks.{AreMarked}
use Rattle.esr_session.proofs.Good.{good_unmarked, unmarked_good, cut_at, good_from-snoc, next_place-snoc, marked-snoc, named_below}
use Rattle.esr_session.proofs.matcher.match_list.Goals as goal

abbrev none : Receipt
none = receipt 0 (BeginUpdate 0) (Begun (record { 0 = 0 }))

pub returns-then-not-is_good-clause-foreign : goal.returns-then-not-is_good-clause-foreign
returns-then-not-is_good-clause-foreign g c =
    let es = c.args.history.now.schedule.entries in
    let earlier = receipts_in (map g.L.HasReceipts.receipts c.args.done.now) in
    let list = c.args.list.now in
    let i = c.loop-r.r-index in
    let r = get_or list i none in
    let inv = c.loop-r.invariant in
    let len : length c.loop-r.marks.items ≡ length es = omega (arith, c.loop-r.marks.ok, inv.len) in
    let answer = c.is_good.ensures.1 in
    let items = c.as_slice.ensures.value in
    record {
      good = take i list;
      rest = drop (suc i) list;
      parts = cut_at list i none c.loop-r-test.true;
      before = inv.good;
      bad = λ good.
          let free = good_unmarked es earlier (take i list) c.loop-r.marks.items r inv.marked len inv.good good in
          let low : c.loop-r.low ≤ r.at = omega (arith, inv.low_is, good.1) in
          let yes = answer (good.0, low, ap (λ m. get_or m r.at false) items ∙ free) in
          let no : false ≡ true = sym c.if-not-is_good.true ∙ yes in
          cc;
    }

pub index_mut-requires : goal.index_mut-requires
index_mut-requires g c = grind (arith, named_below)

pub overflow_add-low : goal.overflow_add-low
overflow_add-low g c = grind (arith, named_below)

pub loop-r-preserved : goal.loop-r-preserved
loop-r-preserved g c =
    let es = c.args.history.now.schedule.entries in
    let earlier = receipts_in (map g.L.HasReceipts.receipts c.args.done.now) in
    let list = c.args.list.now in
    let i = c.loop-r.r-index in
    let r = get_or list i none in
    let marks = c.loop-r.marks.items in
    let inv = c.loop-r.invariant in
    let len : length marks ≡ length es = omega (arith, c.loop-r.marks.ok, inv.len) in
    let yes = c.is_good.ensures.0 c.if-not-is_good.false in
    let below = named_below es r yes.0 in
    let le : next_place 0 (take i list) ≤ r.at = omega (arith, inv.low_is, yes.1) in
    let free : get_or marks r.at false ≡ false = sym (ap (λ m. get_or m r.at false) c.as_slice.ensures.value) ∙ yes.2 in
    let good = unmarked_good es earlier (take i list) marks r inv.marked len yes.0 le free in
    let more : take (i + 1) list ≡ take i list ++ r ∷ [] = take_more list i none c.loop-r-test.true in
    record {
      len = inv.len;
      low_is = sym (ap (next_place 0) more ∙ next_place-snoc 0 (take i list) r);
      good = subst (λ (l : List Receipt). ValidFrom es earlier 0 l) (sym more) (good_from-snoc es earlier 0 (take i list) r inv.good good);
      marked = subst (λ (l : List Receipt). AreMarked l (set marks r.at true)) (append_assoc earlier (take i list) (r ∷ []) ∙ ap (λ l. earlier ++ l) (sym more)) (marked-snoc (earlier ++ take i list) marks r inv.marked (omega (arith, len, below)));
    }
