-- The parts of a row, from the columns of all transactions.
use Rattle.std.proofs.Common.{◌≡◌, ℕ, ◌-◌, Bool, false, sym, ◌∙◌, ap, ap₂, Option, if◌then◌else◌}
use Rattle.esr_base.specs.declared.numbers.TxnId.{TxnId}
use Rattle.esr_history.specs.Events.{is_query, limit_of}
use Rattle.esr_history.specs.Machine.{Schedule, charges_in, accepted_in, export_in, import_in}
use Rattle.esr_items.specs.Weights.{weighted}
use Rattle.esr_history.specs.declared.event.TxnKind.{TxnKind}
use Rattle.esr_history.specs.declared.event.TxnOutcome.{TxnOutcome}
use Rattle.esr_history.specs.Outcomes.{outcome_of}
use Rattle.esr_outcomes.specs.Outcomes.{distance_of, kind_of_txn}
use Rattle.esr_tables.specs.declared.rows.Row.{Row}
use Rattle.esr_tables.specs.declared.tallies.Tally.{Tally}
use Rattle.esr_tables.specs.Rows.{import_or_export, row_of, tally_of}

-- the charges to an update
pub charged_there : (h : Schedule) (t x : ℕ) → is_query (accepted_in h) t ≡ false → x ≡ export_in (charges_in weighted h) t → x ≡ import_or_export weighted h t
charged_there h t x is same = same ∙ sym (ap (λ (b : Bool). if b then import_in (charges_in weighted h) t else export_in (charges_in weighted h) t) is)

-- the row, by its parts
pub row_there : (h : Schedule) (t : TxnId) (k : TxnKind) (l c f : ℕ) (y : Tally) (e : TxnOutcome) (g : Option ℕ) → k ≡ kind_of_txn h t.0 → l ≡ limit_of (accepted_in h) t.0 → c ≡ import_or_export weighted h t.0
    → f ≡ l - c → y ≡ tally_of h.entries t.0 → e ≡ outcome_of (accepted_in h) t.0 → g ≡ distance_of weighted h t.0
    → ◌≡◌ {A = Row} record { number = t; kind = k; limit = l; charged = c; left = f; tally = y; outcome = e; distance = g } (row_of weighted h t.0)
row_there h t k l c f y e g kind limit charged left counts end far =
    let rest : f ≡ limit_of (accepted_in h) t.0 - import_or_export weighted h t.0 = left ∙ ap₂ (λ a b. a - b) limit charged in
    λ i. record { number = t; kind = kind i; limit = limit i; charged = charged i; left = rest i; tally = counts i; outcome = end i; distance = far i }
