-- The facts of a transaction, and its export.
use Rattle.std.proofs.Common.{◌≡◌, ℕ, List, false, not, refl, sym, Option, None, Some, unwrap_or, option_map}
use Rattle.esr_core.specs.Types.{Entry}
use Rattle.esr_history.specs.declared.back_links.Facts.{Facts}
use Rattle.esr_history.specs.Events.{BeginRecord, accepted, begin_record, is_update}
use Rattle.esr_history.specs.BackLinks.{facts_by, facts_of}
use Rattle.esr_history.specs.Machine.{DistanceFunction, Schedule, accepted_in, charges_in, export_in}
use Rattle.esr_history.proofs.Sides.{charges_kinds, no_export}

kind_by : (b : Option BeginRecord) (begin : ℕ) (end : Option ℕ) (f : Option Facts) → f ≡ facts_by b begin end
    → unwrap_or (option_map (λ b. not b.query) b) false ≡ unwrap_or (option_map (λ (g : Facts). not g.query) f) false
kind_by None begin end f is = rw is refl
kind_by (Some b) begin end f is = rw is refl

-- whether a transaction is an update, by its facts
pub kind_of : (es : List Entry) (t : ℕ) (f : Option Facts) → f ≡ facts_of es t
    → is_update (accepted es) t ≡ unwrap_or (option_map (λ (g : Facts). not g.query) f) false
kind_of es t f is = kind_by (begin_record (accepted es) t) _ _ f is

-- a transaction that is not an update has exported nothing
pub exports_nothing : (d : DistanceFunction) (h : Schedule) (t : ℕ) → is_update (accepted_in h) t ≡ false → 0 ≡ export_in (charges_in d h) t
exports_nothing d h t isnt = sym (no_export (accepted_in h) (charges_in d h) (charges_kinds (d h.weights) h.opening (accepted_in h)) t isnt)
