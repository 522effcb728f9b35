-- The updates that a strict query must have seen are the first in commit order.
use Rattle.std.proofs.Common.{◌≡◌, ℕ, ◌+◌, ◌≤◌, Bool, true, false, ◌||◌, List, [], ◌∷◌, ◌++◌, length, drop, refl, sym, ◌∙◌, ap, subst, arith, inl, inr, map, filter, eqb, cond, slice_index_or, append_assoc, append-nil, if◌then◌else◌}
use Rattle.std.specs.List.{list_any, before_first, position_or_len, range_with_len}
use Rattle.std.proofs.lemmas.Bool.{true≢false, cases_Bool, or_left, or_parts, false_from_ne_true}
use Rattle.std.proofs.lemmas.List.{take-append-drop, length-append, map-append}
use Rattle.std.proofs.lemmas.List.Elements.{filter-append, filter_map-append}
use Rattle.esr_history.specs.declared.event.Entry.{Entry}
use Rattle.esr_history.specs.Events.{accepted, is_update, is_committed, is_begun}
use Rattle.esr_history.specs.Machine.{DistanceFunction, Schedule, accepted_in, IsLegal}
use Rattle.esr_history.specs.Operations.{committer, commit_order}
use Rattle.esr_history.specs.Queries.{begins, before_begin, updates_committed_before, must, is_strict}
use Rattle.esr_history.proofs.Membership.{In, Pairs, Pairs-across, In-of_filter, filter_none_in, In-from_any, any-from_number}
use Rattle.esr_history.proofs.Bounded.{before_first-here, before_first-later, In-before_first}
use Rattle.esr_history.proofs.Locking.{known, commits_once}
use Rattle.esr_history.proofs.TraceAgreement.{committed_among, trace}
use Rattle.esr_history.proofs.TraceOfHistory.{legal_reached}
use Rattle.esr_history.proofs.Onward.{legal_front, has_begins}
use Rattle.esr_order.specs.Chains.{update_at}
use Rattle.esr_order.proofs.Entries.{accepts}

none_before : {X : Type 0} (p : X → Bool) (xs : List X) → list_any p (before_first p xs) ≡ false
none_before p [] = refl
none_before p (x ∷ xs) =
    elim (cases_Bool (p x)) [
      | inl here ↦ ap (list_any p) (before_first-here p x xs here)
      | inr away ↦ ap (list_any p) (before_first-later p x xs away) ∙ (ap (λ b. b || list_any p (before_first p xs)) away ∙ none_before p xs)
    ]

before_first-past : {X : Type 0} (p : X → Bool) (xs ys : List X) → list_any p xs ≡ false → before_first p (xs ++ ys) ≡ xs ++ before_first p ys
before_first-past p [] ys none = refl
before_first-past p (x ∷ xs) ys none =
    let parts = or_parts (p x) (list_any p xs) none in
    before_first-later p x (xs ++ ys) parts.0 ∙ ap (λ l. x ∷ l) (before_first-past p xs ys parts.1)

accepted-append : (xs ys : List Entry) → accepted (xs ++ ys) ≡ accepted xs ++ accepted ys
accepted-append xs ys = ap (map (λ (e : Entry). e.event)) (filter-append accepts xs ys) ∙ map-append (λ (e : Entry). e.event) (filter accepts xs) (filter accepts ys)

-- the elements of a part, by their places in the whole
part_at : (past es rest : List ℕ) → map (λ i. slice_index_or (past ++ (es ++ rest)) i 0) (range_with_len (length past) (length es)) ≡ es
part_at past [] rest = refl
part_at past (e ∷ es) rest =
    let more : length (past ++ e ∷ []) ≡ length past + 1 = length-append past (e ∷ []) in
    ap (λ u. u ∷ map (λ i. slice_index_or (past ++ (e ∷ (es ++ rest))) i 0) (range_with_len (length past + 1) (length es))) (at past e (es ++ rest))
    ∙ ap (λ l. e ∷ l)
    (ap (λ n. map (λ i. slice_index_or (past ++ (e ∷ (es ++ rest))) i 0) (range_with_len n (length es))) (sym more)
    ∙ (ap (λ l. map (λ i. slice_index_or l i 0) (range_with_len (length (past ++ e ∷ [])) (length es))) (sym (append_assoc past (e ∷ []) (es ++ rest)))
    ∙ part_at (past ++ e ∷ []) es rest))
  where
    at : (xs : List ℕ) (x : ℕ) (ys : List ℕ) → slice_index_or (xs ++ (x ∷ ys)) (length xs) 0 ≡ x
    at [] x ys = refl
    at (y ∷ xs) x ys = at xs x ys

module _ (d : DistanceFunction) (h : Schedule) (q : ℕ) (legal : IsLegal d h) where
  -- the entries before the begin of q, and the commits among them
  abbrev early : List ℕ
  early = commit_order (accepted (before_begin h q))

  abbrev later : List Entry
  later = drop (position_or_len (λ (e : Entry). begins q e.reply) h.entries) h.entries

  abbrev front : Schedule
  front = record h { entries = before_begin h q }

  whole : before_begin h q ++ later ≡ h.entries
  whole = take-append-drop (position_or_len (λ (e : Entry). begins q e.reply) h.entries) h.entries

  front_legal : IsLegal d front
  front_legal = legal_front d front later (subst (λ (es : List Entry). IsLegal d (record h { entries = es })) (sym whole) legal)

  all_commits : commit_order (accepted_in h) ≡ early ++ commit_order (accepted later)
  all_commits = ap (λ (es : List Entry). commit_order (accepted es)) (sym whole) ∙ (ap commit_order (accepted-append (before_begin h q) later) ∙ filter_map-append committer (accepted (before_begin h q)) (accepted later))

  -- q has not committed before it began
  not_early : list_any (λ t. eqb t q) early ≡ false
  not_early =
      false_from_ne_true (list_any (λ t. eqb t q) early) (λ is.
      let begun : is_begun (accepted_in front) q ≡ true = (known (legal_reached d front front_legal)).of_ends q (or_left (list_any (λ t. eqb t q) early) (list_any (λ t. eqb t q) (trace front).aborts) is) in
      true≢false (sym (has_begins d front front_legal q begun) ∙ none_before (λ (e : Entry). begins q e.reply) h.entries))

  abbrev first : List ℕ
  first = filter (is_update (accepted_in h)) early

  abbrev rest : List ℕ
  rest = filter (is_update (accepted_in h)) (before_first (λ t. eqb t q) (commit_order (accepted later)))

  updates_split : updates_committed_before h q ≡ first ++ rest
  updates_split =
      ap (λ l. filter (is_update (accepted_in h)) (before_first (λ t. eqb t q) l)) all_commits
      ∙ (ap (filter (is_update (accepted_in h))) (before_first-past (λ t. eqb t q) early (commit_order (accepted later)) not_early)
      ∙ filter-append (is_update (accepted_in h)) early (before_first (λ t. eqb t q) (commit_order (accepted later))))

  -- the first ones are exactly those that committed before q began
  must_first : filter (is_committed (accepted (before_begin h q))) (updates_committed_before h q) ≡ first
  must_first =
      ap (filter (is_committed (accepted (before_begin h q)))) updates_split
      ∙ (filter-append (is_committed (accepted (before_begin h q))) first rest
      ∙ (ap (λ l. l ++ filter (is_committed (accepted (before_begin h q))) rest) (all_pass first (λ u i. committed_among (accepted (before_begin h q)) u ∙ any-from_number early u (In-of_filter (is_update (accepted_in h)) early u i).0))
      ∙ (ap (λ l. first ++ l) (filter_none_in (is_committed (accepted (before_begin h q))) rest apart) ∙ append-nil first)))
    where
      all_pass : (us : List ℕ) → ((u : ℕ) → In u us → is_committed (accepted (before_begin h q)) u ≡ true) → filter (is_committed (accepted (before_begin h q))) us ≡ us
      all_pass [] pass = refl
      all_pass (u ∷ us) pass =
          ap (λ b. cond b (u ∷ filter (is_committed (accepted (before_begin h q))) us) (filter (is_committed (accepted (before_begin h q))) us)) (pass u (inl refl)) ∙ ap (λ l. u ∷ l) (all_pass us (λ v i. pass v (inr i)))

      once : Pairs (λ u v. u ≡ v → ⊥) (early ++ commit_order (accepted later))
      once = subst (Pairs (λ u v. u ≡ v → ⊥)) all_commits (commits_once (legal_reached d h legal))

      apart : (u : ℕ) → In u rest → is_committed (accepted (before_begin h q)) u ≡ false
      apart u i =
          let among_later : In u (commit_order (accepted later)) = In-before_first (λ t. eqb t q) (commit_order (accepted later)) u (In-of_filter (is_update (accepted_in h)) (before_first (λ t. eqb t q) (commit_order (accepted later))) u i).0 in
          false_from_ne_true (is_committed (accepted (before_begin h q)) u) (λ is.
          Pairs-across (λ u v. u ≡ v → ⊥) early (commit_order (accepted later)) u u once (In-from_any early u (sym (committed_among (accepted (before_begin h q)) u) ∙ is)) among_later refl)

  -- the positions that a strict query must have seen, and those of another
  pub must_positions : (n : ℕ) → n ≡ length (must h q) → map (update_at h q) (range_with_len 0 n) ≡ must h q
  must_positions n is = at (is_strict (accepted_in h) q) is
    where
      at : (b : Bool) → n ≡ length (if b then filter (is_committed (accepted (before_begin h q))) (updates_committed_before h q) else [])
          → map (update_at h q) (range_with_len 0 n) ≡ (if b then filter (is_committed (accepted (before_begin h q))) (updates_committed_before h q) else [])
      at true count =
          ap (λ m. map (update_at h q) (range_with_len 0 m)) (count ∙ ap length must_first)
          ∙ (ap (λ us. map (λ i. slice_index_or us i 0) (range_with_len 0 (length first))) updates_split ∙ (part_at [] first rest ∙ sym must_first))
      at false count = ap (λ m. map (update_at h q) (range_with_len 0 m)) count

  pub must_below : length (must h q) ≤ length (updates_committed_before h q)
  must_below = at (is_strict (accepted_in h) q)
    where
      at : (b : Bool) → length (if b then filter (is_committed (accepted (before_begin h q))) (updates_committed_before h q) else []) ≤ length (updates_committed_before h q)
      at true =
          let a : length (filter (is_committed (accepted (before_begin h q))) (updates_committed_before h q)) ≡ length first = ap length must_first in
          let c : length (updates_committed_before h q) ≡ length first + length rest = ap length updates_split ∙ length-append first rest in
          omega arith
      at false = omega arith
