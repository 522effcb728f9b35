-- Texts made from the history of an engine (script, explanation, ledger), copied into a buffer of the caller's.
use Rattle.std.specs.Prelude.{◌≡◌, ◌⊎◌, ℕ, List, Option, Some, length, take}
use Rattle.esr_items.specs.Weights.{weighted}
use Rattle.esr_history.specs.Machine.{Schedule}
use Rattle.esr_engine.specs.Capacity.{transaction_count}
use Rattle.esr_dump.specs.Naming.{item_names, transaction_names}
use Rattle.esr_dump.specs.Lines.{script}
use Rattle.esr_explain.specs.Explain.{explanation}
use Rattle.esr_tables.specs.Written as tables

-- the item names read from `names`, or `None` if it does not have a name for each item
abbrev pub parsed_item_names : Schedule → List ℕ → Option (List (List ℕ))
parsed_item_names h names = item_names (length h.opening) names

-- `names` has a name for each item of a history
abbrev pub HasNameForEachItem : Schedule → List ℕ → Type 0
HasNameForEachItem h names = (items : List (List ℕ)) × (parsed_item_names h names ≡ Some items)

-- `IsTextInBuffer`: the first `count` bytes of the buffer are such a text. `IsTextLength`: `count` is the length of one
abbrev pub IsTextInBuffer : (List ℕ → Type 0) → ℕ → List ℕ → Type 0
IsTextInBuffer P count buffer = P (take count buffer) × (count ≡ length (take count buffer))

abbrev pub IsTextLength : (List ℕ → Type 0) → ℕ → Type 0
IsTextLength P count = (text : List ℕ) × P text × (count ≡ length text)

-- the script of a history, with the item names of `names`
abbrev pub IsScriptOf : Schedule → List ℕ → List ℕ → Type 0
IsScriptOf h names text =
    (items : List (List ℕ)) × (parsed_item_names h names ≡ Some items)
    × (text ≡ script items (transaction_names (transaction_count h)) h)

-- the explanation of a query of a history, with the item names of `names`
pub record IsExplanationOf (h : Schedule) (q : ℕ) (names text : List ℕ) : Type 0 where
  pub items : List (List ℕ)
  pub named : parsed_item_names h names ≡ Some items
  pub text_is : text ≡ explanation weighted h items (transaction_names (transaction_count h)) q

-- the ledger of a history
abbrev pub IsLedgerOf : Schedule → List ℕ → Type 0
IsLedgerOf h text = tables.IsLedgerOf h (transaction_names (transaction_count h)) text

-- the statuses of `esr_script` and `esr_ledger`: done (0), names that are not valid (5), a buffer too small (7), no
-- memory (13), an engine that is not open (14); of `esr_explain` and `esr_picture` also: not a committed query (6)
abbrev pub IsTextStatus : ℕ → Type 0
IsTextStatus n = (n ≡ 0) ⊎ ((n ≡ 5) ⊎ ((n ≡ 7) ⊎ ((n ≡ 13) ⊎ (n ≡ 14))))

abbrev pub IsQueryTextStatus : ℕ → Type 0
IsQueryTextStatus n = IsTextStatus n ⊎ (n ≡ 6)
