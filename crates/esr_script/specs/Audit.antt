-- The output of the audit of a whole script.
use Rattle.std.specs.Prelude.{◌≡◌, ℕ, List, ◌++◌, Option, Result, map, length, flat_map}
use Rattle.esr_history.specs.Serial.{committed_updates}
use Rattle.esr_history.specs.Totals.{all_imports, all_exports}
use Rattle.esr_audit.specs.Findings.{AreSummaries, summary_of, committed_queries}
use Rattle.esr_report.specs.Names.{name_of_transaction}
use Rattle.esr_report.specs.Lines.{audit_line, order_line, totals_line}
use Rattle.esr_items.specs.Weights.{weighted}
use Rattle.esr_script.specs.Text.{ScriptState, final, RunFault}
use Rattle.esr_script.specs.declared.audited_script.AuditedScript.{AuditedScript}
use Rattle.esr_script.specs.Ends.{IsWrittenBy}

-- the line of a query, by the names of the transactions: the query, its distance, its import, and the updates before
-- its position
abbrev pub finding_line : List (List ℕ) → ℕ × ℕ × ℕ × List ℕ → List ℕ
finding_line names t = audit_line names (name_of_transaction names t.0) t.1 t.2 t.3

-- The committed updates in the order of their commits, which is a serial order of them; a line for each committed
-- query, in the
-- order of their commits, with its least distance, its import and the smallest least set; and the totals.
abbrev pub audit_output : ScriptState → List ℕ
audit_output s =
    let h = s.history in
    order_line s.transactions (committed_updates h)
    ++ flat_map (finding_line s.transactions) (map (summary_of weighted h) (committed_queries h))
    ++ totals_line (all_imports weighted h) (all_exports weighted h) (length h.entries)

-- The relation between the input of a script's audit, the unread rest, the result, and the text written. It requests
-- no single query.
abbrev pub IsAuditedBy : List ℕ → Option (List ℕ) → Result (Unit {0}) RunFault → List ℕ → Type 0
IsAuditedBy input left r written = IsWrittenBy (λ text. text ≡ audit_output (final input)) ⊥ input left r written

-- The names of the transactions, the history, and the summaries of the audits of all its committed queries.
pub record IsAuditedScript (s : ScriptState) (a : AuditedScript) : Type 0 where
  pub transactions : a.transactions ≡ s.transactions
  pub history : a.history.schedule ≡ s.history
  pub found : AreSummaries weighted s.history a.found
