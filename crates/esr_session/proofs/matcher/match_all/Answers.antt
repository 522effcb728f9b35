use Rattle.std.proofs.Common.{◌≡◌, ◌+◌, ◌≤◌, ◌<◌, ◌++◌, ◌∷◌, [], List, length, map, take, drop, suc, sym, subst, ap, ◌∙◌, arith, rules}
use Rattle.std.proofs.lemmas.List.{take_more, take_all, take-map, length-map}
use Rattle.esr_session.specs.Receipts.{ValidFrom, AllValid, IsForeignIn, count_in, receipts_in, Receipt}
use Rattle.esr_session.specs.Marks.{AreMarked}
use Rattle.esr_session.proofs.Good.{good_matches, foreign_unmatched, matches_count, all_good-snoc, receipts_in-snoc, cut_at}
use Rattle.esr_session.proofs.MappedLists.{get_or-mapped_at}
use Rattle.esr_session.proofs.matcher.match_all.Goals as goal

pub match_list-requires-clause-marked : goal.match_list-requires-clause-marked
match_list-requires-clause-marked g c = grind (arith, take-map g.L.HasReceipts.receipts c.loop-i.i c.args.lists.now)

pub returns-in-Some-match_list-clause-verdict : goal.returns-in-Some-match_list-clause-verdict
returns-in-Some-match_list-clause-verdict g c =
    let es = c.args.history.now.schedule.entries in
    let lists = c.args.lists.now in
    let m = map g.L.HasReceipts.receipts lists in
    let i = c.loop-i.i in
    let v = c.index-lists-i.result in
    let r = c.in-Some-match_list.foreign in
    let within : i < length m = omega (arith, length-map lists g.L.HasReceipts.receipts, c.loop-i-test.true) in
    let foreign : IsForeignIn es (receipts_in (map g.L.HasReceipts.receipts (take i lists))) c.receipts.result.now r = search rules in
    let here : IsForeignIn es (receipts_in (take i m)) (g.L.HasReceipts.receipts v) r =
    subst (λ (l : List Receipt). IsForeignIn es (receipts_in (take i m)) l r) c.receipts.ensures (subst (λ (l : List (List Receipt)). IsForeignIn es (receipts_in l) c.receipts.result.now r) (sym (take-map g.L.HasReceipts.receipts i lists)) foreign) in (
      search rules,
      record {
        done = take i m;
        list = (g.L.HasReceipts.receipts v);
        later = drop (suc i) m;
        parts = cut_at m i (g.L.HasReceipts.receipts v) within ∙ ap (λ l. take i m ++ l ∷ drop (suc i) m) (get_or-mapped_at g.L.HasReceipts.receipts lists i v c.index-lists-i.is);
        before = c.loop-i.invariant.good;
        foreign = here;
      },
    )

pub returns-in-Some-match_list-clause-exact : goal.returns-in-Some-match_list-clause-exact
returns-in-Some-match_list-clause-exact g c =
    let es = c.args.history.now.schedule.entries in
    let m = map g.L.HasReceipts.receipts c.args.lists.now in
    let foreign = returns-in-Some-match_list-clause-verdict g c in
    λ matches. absurd (foreign_unmatched es m c.in-Some-match_list.foreign foreign.1 matches)

pub loop-i-preserved : goal.loop-i-preserved
loop-i-preserved g c =
    let es = c.args.history.now.schedule.entries in
    let lists = c.args.lists.now in
    let m = map g.L.HasReceipts.receipts lists in
    let i = c.loop-i.i in
    let v = c.index-lists-i.result in
    let inv = c.loop-i.invariant in
    let within : i < length m = omega (arith, length-map lists g.L.HasReceipts.receipts, c.loop-i-test.true) in
    let more : take (i + 1) m ≡ take i m ++ (g.L.HasReceipts.receipts v) ∷ [] =
    take_more m i (g.L.HasReceipts.receipts v) within ∙ ap (λ l. take i m ++ l ∷ []) (get_or-mapped_at g.L.HasReceipts.receipts lists i v c.index-lists-i.is) in
    let before : receipts_in (map g.L.HasReceipts.receipts (take i lists)) ≡ receipts_in (take i m) =
    ap receipts_in (sym (take-map g.L.HasReceipts.receipts i lists)) in
    let good : ValidFrom es (receipts_in (map g.L.HasReceipts.receipts (take i lists))) 0 c.receipts.result.now = search rules in
    let marked : AreMarked (receipts_in (map g.L.HasReceipts.receipts (take i lists)) ++ c.receipts.result.now) c.match_list.new.marks.items = search rules in
    let good' : ValidFrom es (receipts_in (take i m)) 0 (g.L.HasReceipts.receipts v) =
    subst (λ (l : List Receipt). ValidFrom es (receipts_in (take i m)) 0 l) c.receipts.ensures (subst (λ (l : List Receipt). ValidFrom es l 0 c.receipts.result.now) before good) in
    let receipts : receipts_in (map g.L.HasReceipts.receipts (take i lists)) ++ c.receipts.result.now ≡ receipts_in (take (i + 1) m) =
    ap (λ l. l ++ c.receipts.result.now) before ∙ (ap (λ l. receipts_in (take i m) ++ l) c.receipts.ensures ∙ (sym (receipts_in-snoc (take i m) (g.L.HasReceipts.receipts v)) ∙ ap receipts_in (sym more))) in
    record {
      len = c.match_list.ensures.len ∙ inv.len;
      good = subst (λ (l : List (List Receipt)). AllValid es [] l) (sym more) (all_good-snoc es [] (take i m) (g.L.HasReceipts.receipts v) inv.good good');
      marked = subst (λ (l : List Receipt). AreMarked l c.match_list.new.marks.items) receipts marked;
    }

pub returns-clause-verdict : goal.returns-clause-verdict
returns-clause-verdict g c =
    grind (arith, map g.L.HasReceipts.receipts c.args.lists.now, take_all, length-map c.args.lists.now g.L.HasReceipts.receipts, good_matches)

pub returns-clause-every_entry : goal.returns-clause-every_entry
returns-clause-every_entry g c =
    let es = c.args.history.now.schedule.entries in
    let m = map g.L.HasReceipts.receipts c.args.lists.now in
    let i = c.loop-i.i in
    let all : take i m ≡ m = take_all i m (omega (arith, length-map c.args.lists.now g.L.HasReceipts.receipts, c.loop-i-test.false)) in
    let enough : length es ≤ count_in m = search rules in
    matches_count es m (good_matches es m (subst (λ (l : List (List Receipt)). AllValid es [] l) all c.loop-i.invariant.good) enough)

pub returns-in-Some-clause-exact : goal.returns-in-Some-clause-exact
returns-in-Some-clause-exact g c =
    let es = c.args.history.now.schedule.entries in
    let m = map g.L.HasReceipts.receipts c.args.lists.now in
    λ matches. absurd (omega (arith, matches_count es m matches, c.in-Some.ensures, c.len-total.ensures, ap length c.log.ensures.entries))
