use Rattle.std.proofs.Common.{◌≡◌, ◌∙◌, List, ℕ, ap, map}
use Rattle.esr_items.specs.Weights.{weighted}
use Rattle.esr_base.specs.declared.numbers.TxnId.{TxnId}
use Rattle.esr_history.specs.Machine.{charges_in, import_in}
use Rattle.esr_order.specs.Least.{nearest_placement, least_distance}
use Rattle.esr_explain.specs.declared.charges.Charge.{Charge}
use Rattle.esr_explain.specs.declared.reads.ComparedRead.{ComparedRead}
use Rattle.esr_explain.specs.Explain.{charges, compared_reads, explanation_lines, updates_outside}
use Rattle.esr_explain.proofs.text.explanation.Goals as goal

pub returns : goal.returns
returns c = λ same.
    let h = c.args.history.now.schedule in let q = c.args.finding.now.query.0 in
    let items = c.args.items.now in let names = c.args.transactions.now in
    let e = c.in_ok-explained.explained in
    let us : List ℕ = map (λ (t : TxnId). t.0) c.args.finding.now.before.items in
    let least : List ℕ = nearest_placement weighted h q in
    let set : us ≡ least = ap (λ (t : ℕ × ℕ × ℕ × List ℕ). t.3) same in
    let lines : List ComparedRead → List Charge → (before after : List ℕ) → (distance import : ℕ) → List ℕ = explanation_lines items names in
    c.in_ok-text_of.ensures
    ∙ ap (λ rs. lines rs e.charges.items (map (λ (t : TxnId). t.0) e.before.now) (map (λ (t : TxnId). t.0) e.after.items) e.distance e.import) (c.in_ok-explained.ensures.reads ∙ ap (compared_reads weighted h q) set)
    ∙ ap (λ cs. lines (compared_reads weighted h q least) cs (map (λ (t : TxnId). t.0) e.before.now) (map (λ (t : TxnId). t.0) e.after.items) e.distance e.import) c.in_ok-explained.ensures.charges
    ∙ ap (λ ts. lines (compared_reads weighted h q least) (charges weighted h q) ts (map (λ (t : TxnId). t.0) e.after.items) e.distance e.import) (ap (map (λ (t : TxnId). t.0)) c.in_ok-explained.ensures.before ∙ set)
    ∙ ap (λ ts. lines (compared_reads weighted h q least) (charges weighted h q) least ts e.distance e.import) (c.in_ok-explained.ensures.after ∙ ap (updates_outside h q) set)
    ∙ ap (λ n. lines (compared_reads weighted h q least) (charges weighted h q) least (updates_outside h q least) n e.import) (c.in_ok-explained.ensures.sums.0 ∙ ap (λ (t : ℕ × ℕ × ℕ × List ℕ). t.1) same)
    ∙ ap (λ n. lines (compared_reads weighted h q least) (charges weighted h q) least (updates_outside h q least) (least_distance weighted h q) n) (c.in_ok-explained.ensures.sums.1 ∙ ap (λ (t : ℕ × ℕ × ℕ × List ℕ). t.2) same)
