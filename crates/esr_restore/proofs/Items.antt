-- The lines of the items: after those of the first k items the run has declared these k items.
use Rattle.std.proofs.Common.{◌≡◌, ℕ, zero, suc, ◌+◌, ◌<◌, ◌≤◌, ℤ, pos, List, [], ◌∷◌, ◌++◌, true, false, eqb, eqb-true, ne_eqb, unsigned_abs, Option, None, Result, Ok, inl, inr, refl, ◌∙◌, ap, sym, subst, arith, length, take, map, flat_map, slice_index_or}
use Rattle.std.specs.List.{range_with_len}
use Rattle.std.proofs.lemmas.Bool.{cases_Bool, le-leb}
use Rattle.std.proofs.lemmas.List.{take_more, map-append, length-take}
use Rattle.esr_base.specs.declared.limits.TheConstants.{MAX_ITEMS, MAX_VALUE}
use Rattle.esr_items.specs.Values.{is_value, value_at}
use Rattle.esr_items.specs.Weights.{weight_of, weight_or_one, is_weight, weight-least, weight-upper_bound}
use Rattle.esr_history.specs.Machine.{Schedule}
use Rattle.esr_history.proofs.Charges.{range-push}
use Rattle.esr_grammar.specs.Command.{IsCommand}
use Rattle.esr_report.specs.Names.{all_distinct}
use Rattle.esr_report.specs.Lines.{item_line, weighted_item_line}
use Rattle.esr_report.specs.declared.lines.LineError.{LineError}
use Rattle.esr_script.specs.declared.fault.RunFault.{RunFault}
use Rattle.esr_script.specs.Text.{ScriptState, execute, declare_or, item_error, with_item}
use Rattle.esr_dump.specs.Lines.{declaration, item_text, name_of_item}
use Rattle.esr_dump.specs.RoundTrip.{AreNames}
use Rattle.esr_dump.proofs.RoundTrip as dumped
use Rattle.esr_restore.specs.Restores.{IsRunnable}
use Rattle.esr_restore.proofs.Prefixes.{not_bound}
use Rattle.esr_restore.proofs.Steps.{Leads, leads_by_line, leads_nowhere, leads_on}

-- a declaration without an error adds the item
declared : (s : ScriptState) (name : List ℕ) (v : ℤ) (w : ℕ) → item_error s name v w ≡ None
    → (text : List ℕ) × (execute s (declaration name v w) ≡ Ok (with_item s name v w, text))
declared s name v w fine =
    let plain : Option LineError → Result (ScriptState × List ℕ) RunFault = λ o. Ok (declare_or o s name v 1 (item_line name v)) in
    let weighted : Option LineError → Result (ScriptState × List ℕ) RunFault = λ o. Ok (declare_or o s name v w (weighted_item_line name v w)) in
    elim (cases_Bool (eqb w 1)) [
      | inl one ↦
          let is : w ≡ 1 = eqb-true w 1 one in
          let none : item_error s name v 1 ≡ None = subst (λ (n : ℕ). item_error s name v n ≡ None) is fine in
          let same : plain (item_error s name v 1) ≡ Ok (with_item s name v w, item_line name v) =
          subst (λ (n : ℕ). plain (item_error s name v 1) ≡ Ok (with_item s name v n, item_line name v)) (sym is) (ap plain none) in
          (item_line name v, rw one same)
      | inr more ↦ (weighted_item_line name v w, rw more (ap weighted fine))
    ]

pub is_weight_one : (w : ℕ) → is_weight (weight_or_one w) ≡ true
is_weight_one w = rw (le-leb 1 (weight_or_one w) (weight-least w), le-leb (weight_or_one w) 1000 (weight-upper_bound w)) refl

module _ (items transactions : List (List ℕ)) (h : Schedule) (names : AreNames items transactions h) (distinct : all_distinct items ≡ true) (distinct_too : all_distinct transactions ≡ true) (fits : IsRunnable h) where
  -- the weights of the first k items, as declarations write them
  abbrev pub first_weights : ℕ → List ℕ
  first_weights k = map (weight_of h.weights) (range_with_len 0 k)

  -- the state after the declarations of the first k items
  abbrev pub with_items : ℕ → ScriptState
  with_items k = record {
    items = take k items;
    transactions = [];
    closed = false;
    history = record { opening = take k h.opening; weights = first_weights k; entries = [] };
  }

  no_error : (k : ℕ) → k < length h.opening → item_error (with_items k) (name_of_item items k) (value_at h.opening k) (weight_of h.weights k) ≡ None
  no_error k within =
      let inside : k < length items = omega (arith, within, names.all_items) in
      let valued : is_value (value_at h.opening k) ≡ true = le-leb (unsigned_abs (value_at h.opening k)) MAX_VALUE (fits.opening k (pos 0) within) in
      let room : eqb (length (take k items)) MAX_ITEMS ≡ false = ne_eqb (length (take k items)) MAX_ITEMS (λ is. omega (arith, is, length-take {A = List ℕ} k items, within, fits.items)) in
      rw (not_bound items distinct k inside, valued, room, is_weight_one (slice_index_or h.weights k 1)) refl

  one_more : (k : ℕ) → k < length h.opening → with_item (with_items k) (name_of_item items k) (value_at h.opening k) (weight_of h.weights k) ≡ with_items (k + 1)
  one_more k within =
      let inside : k < length items = omega (arith, within, names.all_items) in
      let named : take (k + 1) items ≡ take k items ++ name_of_item items k ∷ [] = take_more items k [] inside in
      let opened : take (k + 1) h.opening ≡ take k h.opening ++ value_at h.opening k ∷ [] = take_more h.opening k (pos 0) within in
      let weighed : first_weights (k + 1) ≡ first_weights k ++ weight_of h.weights k ∷ [] = ap (map (weight_of h.weights)) (range-push 0 k ∙ ap (λ (n : ℕ). range_with_len 0 k ++ n ∷ []) (omega arith)) ∙ map-append (weight_of h.weights) (range_with_len 0 k) (k ∷ []) in
      rw (named, opened, weighed) refl

  pub items_run : (a k : ℕ) → a + k ≤ length h.opening → Leads (with_items a) (flat_map (item_text items h) (range_with_len a k)) k (with_items (a + k))
  items_run a zero inside = subst (λ (n : ℕ). Leads (with_items a) [] 0 (with_items n)) (omega arith) (leads_nowhere (with_items a))
  items_run a (suc k) inside =
      let within : a < length h.opening = omega (arith, inside) in
      let name : List ℕ = name_of_item items a in
      let spelled : IsCommand (declaration name (value_at h.opening a) (weight_of h.weights a)) = dumped.item_reads_back items transactions h names distinct distinct_too a within (fits.opening a (pos 0) within) in
      let adds = declared (with_items a) name (value_at h.opening a) (weight_of h.weights a) (no_error a within) in
      let first : Leads (with_items a) (item_text items h a) 1 (with_items (a + 1)) =
      subst (Leads (with_items a) (item_text items h a) 1) (one_more a within) (leads_by_line (with_items a) (with_item (with_items a) name (value_at h.opening a) (weight_of h.weights a)) (declaration name (value_at h.opening a) (weight_of h.weights a)) adds.0 spelled adds.1) in
      let rest : Leads (with_items (a + 1)) (flat_map (item_text items h) (range_with_len (a + 1) k)) k (with_items (a + 1 + k)) = items_run (a + 1) k (omega (arith, inside)) in
      let both = leads_on (with_items a) (with_items (a + 1)) (with_items (a + 1 + k)) (item_text items h a) (flat_map (item_text items h) (range_with_len (a + 1) k)) 1 k first rest in
      subst (λ (n : ℕ). Leads (with_items a) (item_text items h a ++ flat_map (item_text items h) (range_with_len (a + 1) k)) n (with_items (a + suc k))) (omega arith)
      (subst (λ (n : ℕ). Leads (with_items a) (item_text items h a ++ flat_map (item_text items h) (range_with_len (a + 1) k)) (1 + k) (with_items n)) (omega arith) both)
