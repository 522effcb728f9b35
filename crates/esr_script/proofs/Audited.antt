-- Each end of the audit of a script.
use Rattle.std.proofs.Common.{◌≡◌, ℕ, ◌+◌, ◌<◌, List, [], ◌∷◌, ◌++◌, Bool, length, take, map, get_or, refl, ap, append_assoc, append-nil, arith, flat_map}
use Rattle.std.proofs.lemmas.List.{take_more}
use Rattle.std.proofs.lemmas.Grind.{flat_map-append, common_steps}
use Rattle.esr_history.specs.Machine.{Schedule}
use Rattle.esr_history.specs.Serial.{committed_updates}
use Rattle.esr_history.specs.Totals.{all_imports, all_exports}
use Rattle.esr_audit.specs.Findings.{summary_of, committed_queries}
use Rattle.esr_report.specs.Lines.{order_line, totals_line}
use Rattle.esr_items.specs.Weights.{weighted}
use Rattle.esr_script.specs.Text.{ScriptState}
use Rattle.esr_script.specs.Audit.{finding_line, audit_output}

-- ---- the lines

-- one line more
pub lines_more : {X : Type 0} (f : X → List ℕ) (xs : List X) (i : ℕ) (x : X) (old mid all : List ℕ)
    → mid ≡ old ++ flat_map f (take i xs) → i < length xs → x ≡ get_or xs i x → all ≡ mid ++ f x → all ≡ old ++ flat_map f (take (i + 1) xs)
lines_more f xs i x old mid all so_far lt is more =
    grind (arith, append_assoc old (flat_map f (take i xs)) (f x), take_more xs i x lt, flat_map-append f (take i xs) (x ∷ []), append-nil (f x))

pub lines_of_map : {X Y : Type 0} (f : Y → List ℕ) (g : X → Y) (xs : List X) → flat_map (λ (x : X). f (g x)) xs ≡ flat_map f (map g xs)
lines_of_map f g [] = refl
lines_of_map f g (x ∷ xs) = ap (λ l. f (g x) ++ l) (lines_of_map f g xs)

-- the lines of a book over a history are the output of a state with this history
pub book_lines : (items names : List (List ℕ)) (was_closed : Bool) (h0 h : Schedule) (s : ScriptState)
    (order : List ℕ) (summaries : List (ℕ × ℕ × ℕ × List ℕ)) (imports exports entries : ℕ)
    → record { items = items; transactions = names; closed = was_closed; history = h0 } ≡ s → h ≡ h0
    → order ≡ committed_updates h → summaries ≡ map (summary_of weighted h) (committed_queries h) → imports ≡ all_imports weighted h → exports ≡ all_exports weighted h → entries ≡ length h.entries
    → order_line names order ++ flat_map (finding_line names) summaries ++ totals_line imports exports entries ≡ audit_output s
book_lines items names was_closed h0 h s order summaries imports exports entries seen same o t i e n = grind (arith, common_steps)
