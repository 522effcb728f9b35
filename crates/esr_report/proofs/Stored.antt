-- The texts of names, after one more text.
use Rattle.std.proofs.Common.{◌≡◌, ℕ, ◌+◌, ◌-◌, ◌<◌, ◌≤◌, ◌^◌, List, [], ◌∷◌, ◌++◌, length, take, drop, map, All, None, true, refl, sym, ◌∙◌, ap, subst, arith, length-append, length-drop}
use Rattle.std.specs.Str.{IsCharBoundary, IsUtf8}
use Rattle.std.proofs.lemmas.List.{take-append-le, drop-append-le, take_all, drop_at, map-append}
use Rattle.std.proofs.lemmas.List.Elements.{All-push, All-weaker, All-head, All-tail}
use Rattle.std.proofs.lemmas.Str.{IsUtf8-append, IsUtf8-take, IsCharBoundary-from_take, IsCharBoundary-end}
use Rattle.esr_report.specs.declared.key.Key.{Key}
use Rattle.esr_report.specs.Keyed.{IsKeyOf}
use Rattle.esr_report.specs.Stored.{text_of, IsStored}
use Rattle.esr_report.specs.Names.{position_of, all_distinct}
use Rattle.esr_report.proofs.Positions.{nowhere, all_distinct-push, lengths}
use Rattle.esr_report.proofs.Keyed.{Entry, same_key, entered, are_keyed}
use Rattle.indexmap.specs.IndexMap.{insert_entry}

module _ (texts name : List ℕ) (spelled : IsUtf8 texts) (name_spelled : IsUtf8 name) where
  -- where the texts may be cut, they still may
  boundary : (i : ℕ) → IsCharBoundary texts i → IsCharBoundary (texts ++ name) i
  boundary i cut =
      IsCharBoundary-from_take (texts ++ name) i (IsUtf8-append texts name spelled name_spelled)
      (omega (arith, cut.0, length-append texts name))
      (rw (take-append-le i texts name cut.0) (IsUtf8-take texts i spelled cut))

  same_text : (e : Entry) → e.1 ≤ length texts → text_of (texts ++ name) e ≡ text_of texts e
  same_text e h =
      let start : ℕ = e.1 - e.0.length in
      let enough : e.1 - start ≤ length (drop start texts) = omega (arith, length-drop start texts) in
      ap (take (e.1 - start)) (drop-append-le start texts name (omega arith)) ∙ take-append-le (e.1 - start) (drop start texts) name enough

  stays : (e : Entry) → IsStored texts e → IsStored (texts ++ name) e
  stays e h = record {
    keyed = rw (same_text e h.ends.0) h.keyed;
    within = h.within;
    starts = boundary _ h.starts;
    ends = boundary _ h.ends;
  }

  same_texts : (entries : List Entry) → All (IsStored texts) entries → map (text_of (texts ++ name)) entries ≡ map (text_of texts) entries
  same_texts [] h = refl
  same_texts (e ∷ es) h =
      let here = same_text e (All-head (IsStored texts) e es h).ends.0 in
      let later = same_texts es (All-tail (IsStored texts) e es h) in cc

  -- the text that was added
  new_text : (k : Key) (end : ℕ) → k.length ≡ length name → end ≡ length texts + length name → text_of (texts ++ name) (k, end) ≡ name
  new_text k end long at =
      let start : length texts ≡ end - k.length = omega arith in
      ap (take (end - (end - k.length))) (drop_at texts name (end - k.length) start) ∙ take_all (end - (end - k.length)) name (omega arith)

  new_stored : (k : Key) (end : ℕ) → IsKeyOf k name → end ≡ length texts + length name → IsStored (texts ++ name) (k, end)
  new_stored k end is at =
      let start : length texts ≡ end - k.length = omega (arith, is.length) in
      let last : length (texts ++ name) ≡ end = length-append texts name ∙ sym at in
      record {
        keyed = rw (new_text k end is.length at) is;
        within = omega (arith, is.length);
        starts = subst (IsCharBoundary (texts ++ name)) start (boundary (length texts) (IsCharBoundary-end texts));
        ends = subst (IsCharBoundary (texts ++ name)) last (IsCharBoundary-end (texts ++ name));
      }

  module _ (entries : List Entry) (k : Key) (end : ℕ) (stored : All (IsStored texts) entries) (is : IsKeyOf k name) (at : end ≡ length texts + length name)
      (unbound : position_of (map (text_of texts) entries) name ≡ None) (grown : List ℕ) (more : grown ≡ texts ++ name)
      (after : List Entry) (inserted : after ≡ insert_entry same_key entries k end) where
    added : after ≡ entries ++ (k, end) ∷ []
    added = inserted ∙ entered (text_of texts) k name end is entries (are_keyed texts entries stored) (nowhere (map (text_of texts) entries) name unbound)

    one_text_more : map (text_of (texts ++ name)) (entries ++ (k, end) ∷ []) ≡ map (text_of texts) entries ++ name ∷ []
    one_text_more =
        map-append (text_of (texts ++ name)) entries ((k, end) ∷ [])
        ∙ ap (λ l. l ++ text_of (texts ++ name) (k, end) ∷ []) (same_texts entries stored)
        ∙ ap (λ t. map (text_of texts) entries ++ t ∷ []) (new_text k end is.length at)

    -- the names are those before, and the one that was added
    pub names_bound : map (text_of grown) after ≡ map (text_of texts) entries ++ name ∷ []
    names_bound = rw (more, added) one_text_more

    all_stored : All (IsStored (texts ++ name)) (entries ++ (k, end) ∷ [])
    all_stored =
        All-push (IsStored (texts ++ name)) entries (k, end)
        (All-weaker (IsStored texts) (IsStored (texts ++ name)) stays entries stored) (new_stored k end is at)

    -- no name is bound twice, and every text is stored
    pub still : length (map (text_of texts) entries) < 2 ^ 32 → all_distinct (map (text_of texts) entries) ≡ true
        → (length after ≤ 2 ^ 32) × (all_distinct (map (text_of grown) after) ≡ true) × All (IsStored grown) after
    still fits apart = (
      omega (arith, fits, lengths (text_of grown) after, ap length names_bound, length-append (map (text_of texts) entries) (name ∷ [])),
      rw names_bound (all_distinct-push (map (text_of texts) entries) name apart (nowhere (map (text_of texts) entries) name unbound)),
      rw (more, added) all_stored,
    )
