use Rattle.std.proofs.Common.{◌≡◌, ◌∙◌, ℕ, ◌-◌, ◌/◌, ◌<◌, ap, arith, get_or, length}
use Rattle.std.proofs.lemmas.List.{get_or_read_under}
use Rattle.esr_explore.proofs.Ascending.{max_and_median_sorted}
use Rattle.esr_explore.proofs.summary.max_and_median.Goals as goal

pub returns-clause-maximum : goal.returns-clause-maximum
returns-clause-maximum c =
    let sorted = c.sort.new.self.items in
    let n = c.len-count.result in
    let many : n ≡ length sorted = omega (arith, c.len-count.ensures) in
    let has : 0 < length sorted = omega (arith, many) in
    get_or_read_under sorted (n - 1) n c.index.result.now 0 c.index.ensures (omega arith) many
    ∙ (ap (λ (k : ℕ). get_or sorted (k - 1) 0) many ∙ (max_and_median_sorted c.args.numbers.items sorted c.sort.ensures.permutation c.in_ok-sort.ensures.sorted has).0)

pub returns-clause-median : goal.returns-clause-median
returns-clause-median c =
    let sorted = c.sort.new.self.items in
    let n = c.len-count.result in
    let many : n ≡ length sorted = omega (arith, c.len-count.ensures) in
    let has : 0 < length sorted = omega (arith, many) in
    get_or_read_under sorted ((n - 1) / 2) n c.index-2.result.now 0 c.index-2.ensures (omega arith) many
    ∙ (ap (λ (k : ℕ). get_or sorted ((k - 1) / 2) 0) many ∙ (max_and_median_sorted c.args.numbers.items sorted c.sort.ensures.permutation c.in_ok-sort.ensures.sorted has).1)
