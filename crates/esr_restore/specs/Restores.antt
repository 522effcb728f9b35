-- A run of the script of a history leads to the same opening values, the same weights and the same entries.
use Rattle.std.specs.Prelude.{◌≡◌, ℕ, ◌≤◌, List, None, length, true}
use Rattle.std.specs.List.{All}
use Rattle.esr_base.specs.declared.limits.TheConstants.{MAX_ENTRIES, MAX_ITEMS}
use Rattle.esr_items.specs.Values.{IsValue}
use Rattle.esr_items.specs.Weights.{weight_of, weighted}
use Rattle.esr_history.specs.Machine.{Schedule, IsLegal}
use Rattle.esr_report.specs.Names.{all_distinct}
use Rattle.esr_script.specs.Text.{final, outcome}
use Rattle.esr_dump.specs.Lines.{script}
use Rattle.esr_dump.specs.RoundTrip.{AreNames, kept}

-- A history of the machine that fits into a script: a weight per item at most, and no more items and entries than a run
-- takes.
pub record IsRunnable (h : Schedule) : Type 0 where
  pub legal : IsLegal weighted h
  pub opening : All IsValue h.opening
  pub weights : length h.weights ≤ length h.opening
  pub items : length h.opening ≤ MAX_ITEMS
  pub entries : length h.entries ≤ MAX_ENTRIES

-- The run of the text ends without a fault and leads to the history: its opening values, the weight of each item, and in
-- order each entry that was accepted or blocked, with its reply.
pub record Restores (h : Schedule) (text : List ℕ) : Type 0 where
  pub opening : (final text).history.opening ≡ h.opening
  pub weights : (x : ℕ) → weight_of (final text).history.weights x ≡ weight_of h.weights x
  pub entries : (final text).history.entries ≡ (kept h).entries
  pub fault : (outcome text).fault ≡ None

abbrev pub LawOfRestoring : Type 0
LawOfRestoring = (items transactions : List (List ℕ)) (h : Schedule) → AreNames items transactions h
    → all_distinct items ≡ true → all_distinct transactions ≡ true → IsRunnable h
    → Restores h (script items transactions h)
