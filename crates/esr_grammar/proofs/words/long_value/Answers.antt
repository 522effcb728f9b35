use Rattle.std.proofs.Common.{◌≤◌, ◌-◌, length, arith}
use Rattle.esr_grammar.proofs.Laws.{below_thousand, parted, otherwise, long_found, long_none, no_front, no_middle}
use Rattle.esr_grammar.proofs.words.long_value.Goals as goal

pub returns-in_err-high-clause-none : goal.returns-in_err-high-clause-none
returns-in_err-high-clause-none c =
    let digits = c.args.digits.now in
    let one = c.split_at in
    let two = c.split_at-2 in
    let last = one.result.1.now in
    otherwise _ _ (no_front digits one.result.0.now last two.result.0.now two.result.1.now (parted (length digits - 16) digits one.result.0.now last one.ensures.front one.ensures.back)
    (parted 8 last two.result.0.now two.result.1.now two.ensures.front two.ensures.back) c.in_err-high.ensures.none)

pub returns-in_err-next-clause-none : goal.returns-in_err-next-clause-none
returns-in_err-next-clause-none c =
    let digits = c.args.digits.now in
    let one = c.split_at in
    let two = c.split_at-2 in
    let last = one.result.1.now in
    otherwise _ _ (no_middle digits one.result.0.now last two.result.0.now two.result.1.now (parted (length digits - 16) digits one.result.0.now last one.ensures.front one.ensures.back)
    (parted 8 last two.result.0.now two.result.1.now two.ensures.front two.ensures.back) c.in_err-next.ensures.none)

pub returns-clause-found : goal.returns-clause-found
returns-clause-found c =
    let digits = c.args.digits.now in
    let one = c.split_at in
    let two = c.split_at-2 in
    let last = one.result.1.now in
    let high = c.in_ok-high.ensures.found in
    let short : length one.result.0.now ≤ 3 = omega (arith, one.ensures.front_len, c.requires) in
    long_found digits one.result.0.now last two.result.0.now two.result.1.now c.in_ok-high.high c.in_ok-next.next c.with_eight-2.result
    (parted (length digits - 16) digits one.result.0.now last one.ensures.front one.ensures.back) (parted 8 last two.result.0.now two.result.1.now two.ensures.front two.ensures.back)
    (below_thousand one.result.0.now c.in_ok-high.high short high.1) (high.0, high.2) c.in_ok-next.ensures.found c.with_eight-2.ensures.found

pub returns-clause-none : goal.returns-clause-none
returns-clause-none c =
    let digits = c.args.digits.now in
    let one = c.split_at in
    let two = c.split_at-2 in
    let last = one.result.1.now in
    long_none digits one.result.0.now last two.result.0.now two.result.1.now c.with_eight-2.result (parted (length digits - 16) digits one.result.0.now last one.ensures.front one.ensures.back)
    (parted 8 last two.result.0.now two.result.1.now two.ensures.front two.ensures.back) c.with_eight-2.ensures.none
