use Rattle.std.proofs.Common.{◌≡◌, ℕ, List, ◌++◌, ap, arith, codes, length}
use Rattle.esr_explore.specs.declared.summary.Column.TheVariants.{Import, Distance}
use Rattle.esr_explore.specs.Columns.{numbers_of}
use Rattle.esr_explore.specs.Report.{count_text, max_and_median_text}
use Rattle.esr_explore.proofs.Texts.{then, then_same}
use Rattle.esr_explore.proofs.report.push_query.Goals as goal

pub returns : goal.returns
returns c =
    let out = c.args.out.now.items in
    let imports = numbers_of (Import c.args.index) c.args.summaries.now in
    let distances = numbers_of (Distance c.args.index) c.args.summaries.now in
    let many : c.len.result ≡ length imports = omega (arith, c.len.ensures, ap length c.in_ok-imports.ensures) in
    let named = codes "query " ++ c.args.query.name.now in
    let counted = named ++ count_text (codes " committed ") (length imports) in
    let imported = counted ++ max_and_median_text (codes " import") imports in
    let all = imported ++ max_and_median_text (codes " distance") distances in
    then out all (codes "\n") c.push_max_and_median-2.new.out.items c.push_text-3.new.out.items
    (then_same out imported (max_and_median_text (codes " distance") distances) _ c.push_max_and_median.new.out.items c.push_max_and_median-2.new.out.items
    (then_same out counted (max_and_median_text (codes " import") imports) _ c.push_count.new.out.items c.push_max_and_median.new.out.items
    (then_same out named (count_text (codes " committed ") (length imports)) _ c.push_text-2.new.out.items c.push_count.new.out.items
    (then out (codes "query ") c.args.query.name.now c.push_text.new.out.items c.push_text-2.new.out.items c.in_ok-push_text.ensures c.in_ok-push_text-2.ensures)
    c.in_ok-push_count.ensures (ap (λ (k : ℕ). count_text (codes " committed ") k) many))
    c.in_ok-push_max_and_median.ensures (ap (λ (l : List ℕ). max_and_median_text (codes " import") l) c.in_ok-imports.ensures))
    c.in_ok-push_max_and_median-2.ensures (ap (λ (l : List ℕ). max_and_median_text (codes " distance") l) c.in_ok-distances.ensures))
    c.in_ok-push_text-3.ensures
