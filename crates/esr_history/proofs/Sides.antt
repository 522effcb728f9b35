-- Which side a charge is on: queries import, updates export.
use Rattle.std.proofs.Common.{◌≡◌, ℕ, ℤ, ◌*◌, List, [], ◌∷◌, ◌++◌, Bool, true, false, ◌&&◌, ◌==◌, refl, sym, ◌∙◌, ap, subst, Option, None, Some, if◌then◌else◌, append_assoc, append-nil, arith, unwrap_or, option_map}
use Rattle.std.specs.List.{filter_map, AllByRecursion}
use Rattle.std.proofs.lemmas.Bool.{false≢true, ne_eqb, and_parts}
use Rattle.std.proofs.lemmas.List.Sums.{sum_by-cons}
use Rattle.std.proofs.lemmas.Option.{same_Some}
use Rattle.esr_history.specs.Events.{BeginRecord, begin_record, txn_numbers, is_query, is_update, read_count, holds_read, current_value, Event, Read, Write}
use Rattle.esr_history.specs.Machine.{Charge, due, charges, charges_after, charge_of_write, import_in, export_in}
use Rattle.esr_history.proofs.WellFormed.{begin_record-push, is_update-push}
use Rattle.esr_history.proofs.Lists.{found_satisfies, Each-filter_map}
use Rattle.esr_history.proofs.Membership.{Each-append}

-- a charge is of an update to a query
abbrev pub IsOfKinds : List Event → Charge → Type 0
IsOfKinds events c = (is_query events c.query ≡ true) × (is_update events c.update ≡ true)

pub is_query-push : (events : List Event) (e : Event) (t : ℕ) → is_query events t ≡ true → is_query (events ++ e ∷ []) t ≡ true
is_query-push events e t is = at (begin_record events t) refl is
  where
    at : (b : Option BeginRecord) → begin_record events t ≡ b → unwrap_or (option_map (λ c. c.query) b) false ≡ true → is_query (events ++ e ∷ []) t ≡ true
    at None none no_query = absurd (false≢true no_query)
    at (Some b) some query = ap (λ o. unwrap_or (option_map (λ c. c.query) o) false) (begin_record-push events e t b some) ∙ query

all_later : (before : List Event) (e : Event) (cs : List Charge) → AllByRecursion (IsOfKinds before) cs → AllByRecursion (IsOfKinds (before ++ e ∷ [])) cs
all_later before e [] all = tt
all_later before e (c ∷ cs) all = ((is_query-push before e c.query all.0.0, is_update-push before e c.update all.0.1), all_later before e cs all.1)

all_along : (before later : List Event) (cs : List Charge) → AllByRecursion (IsOfKinds before) cs → AllByRecursion (IsOfKinds (before ++ later)) cs
all_along before [] cs all = subst (λ (es : List Event). AllByRecursion (IsOfKinds es) cs) (sym (append-nil before)) all
all_along before (e ∷ later) cs all = subst (λ (es : List Event). AllByRecursion (IsOfKinds es) cs) (append_assoc before (e ∷ []) later) (all_along (before ++ e ∷ []) later cs (all_later before e cs all))

pub due_kinds : (d : ℕ → ℤ → ℤ → ℕ) (opening : List ℤ) (events : List Event) (e : Event) → AllByRecursion (IsOfKinds events) (due d opening events e)
due_kinds d opening events (Read q x) = grind (arith, found_satisfies, and_parts)
due_kinds d opening events (Write u x v) = write (is_update events u.0) refl
  where
    yields : is_update events u.0 ≡ true → (q : ℕ) (c : Charge) → charge_of_write d opening events u.0 x.0 v q ≡ Some c → IsOfKinds events c
    yields is q c got = at (is_query events q && holds_read events q x.0) refl got
      where
        at : (b : Bool) → (is_query events q && holds_read events q x.0) ≡ b → (if b then Some (record { query = q; update = u.0; amount = read_count events q x.0 * d x.0 v (current_value opening events x.0) }) else None) ≡ Some c → IsOfKinds events c
        at true both got' = grind (arith, same_Some, and_parts (is_query events q) (holds_read events q x.0) both)
        at false both got' = absurd (cc)

    write : (b : Bool) → is_update events u.0 ≡ b → AllByRecursion (IsOfKinds events) (if b then filter_map (charge_of_write d opening events u.0 x.0 v) (txn_numbers events) else [])
    write false is = tt
    write true is = Each-filter_map (IsOfKinds events) (charge_of_write d opening events u.0 x.0 v) (yields is) (txn_numbers events)
due_kinds d opening events _ = tt

charges_kinds_after : (d : ℕ → ℤ → ℤ → ℕ) (opening : List ℤ) (before later : List Event) → AllByRecursion (IsOfKinds (before ++ later)) (charges_after d opening before later)
charges_kinds_after d opening before [] = tt
charges_kinds_after d opening before (e ∷ later) =
    Each-append (IsOfKinds (before ++ e ∷ later)) (due d opening before e) (charges_after d opening (before ++ e ∷ []) later)
    (all_along before (e ∷ later) (due d opening before e) (due_kinds d opening before e))
    (subst (λ (es : List Event). AllByRecursion (IsOfKinds es) (charges_after d opening (before ++ e ∷ []) later)) (append_assoc before (e ∷ []) later) (charges_kinds_after d opening (before ++ e ∷ []) later))

pub charges_kinds : (d : ℕ → ℤ → ℤ → ℕ) (opening : List ℤ) (events : List Event) → AllByRecursion (IsOfKinds events) (charges d opening events)
charges_kinds d opening events = charges_kinds_after d opening [] events

-- only queries import, and only updates export
pub no_import : (events : List Event) (cs : List Charge) → AllByRecursion (IsOfKinds events) cs → (t : ℕ) → is_query events t ≡ false → import_in cs t ≡ 0
no_import events [] all t isnt = refl
no_import events (c ∷ cs) all t isnt =
    sum_by-cons (λ (g : Charge). if g.query == t then g.amount else 0) c cs
    ∙ rw (ne_eqb c.query t (λ (e : c.query ≡ t). false≢true (sym isnt ∙ (ap (is_query events) (sym e) ∙ all.0.0))), no_import events cs all.1 t isnt) refl

pub no_export : (events : List Event) (cs : List Charge) → AllByRecursion (IsOfKinds events) cs → (t : ℕ) → is_update events t ≡ false → export_in cs t ≡ 0
no_export events [] all t isnt = refl
no_export events (c ∷ cs) all t isnt =
    sum_by-cons (λ (g : Charge). if g.update == t then g.amount else 0) c cs
    ∙ rw (ne_eqb c.update t (λ (e : c.update ≡ t). false≢true (sym isnt ∙ (ap (is_update events) (sym e) ∙ all.0.1))), no_export events cs all.1 t isnt) refl
