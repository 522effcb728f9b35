-- The steps that start at a node, among those of the first arcs.
use Rattle.std.proofs.Common.{zero, suc, ◌≡◌, ℕ, ◌+◌, ◌-◌, ◌<◌, ◌≤◌, true, cond, ◌⊎◌, eqb, List, [], ◌∷◌, ◌++◌, length, get_or, Contains, refl, sym, ap, ◌∙◌, subst, inl, inr, arith, eq-eqb, ne_eqb, append_assoc, append-nil, add-one, length-append}
use Rattle.std.proofs.lemmas.Bool.{cases_eq, or_left, or_right}
use Rattle.std.specs.List.Sorted.{IsNonDecreasingBy}
use Rattle.std.proofs.lemmas.List.{get_or_append_left, get_or_push, get_or_default, length_push}
use Rattle.std.proofs.lemmas.List.Kept.{IsNonDecreasingBy-filter}
use Rattle.std.proofs.lemmas.List.Sorted.{IsNonDecreasingBy-short, IsNonDecreasingBy-push}
use Rattle.std.proofs.lemmas.List.Elements.{filter-append, Contains-append_left, Contains-push, Contains-push_cases}
use Rattle.esr_cert.specs.Network.{Arc}
use Rattle.esr_cert.specs.ResidualArcs.{arc_of, rank_of, start, HasSteps, AreOnce, step_at, same_step, has_step, ResidualArc, Forward, Backward}
use Rattle.esr_cert.specs.Adjacency.{residual_arcs_below, steps_from, row_of}

-- one more step, at the node where it starts and at another
pub steps_here : (arcs : List Arc) (v : ℕ) (done : List ResidualArc) (s : ResidualArc) → start arcs s ≡ v → steps_from arcs v (done ++ s ∷ []) ≡ steps_from arcs v done ++ s ∷ []
steps_here arcs v done s e =
    filter-append (λ step. eqb (start arcs step) v) done (s ∷ []) ∙ ap (λ b. steps_from arcs v done ++ cond b (s ∷ []) []) (eq-eqb (start arcs s) v e)

pub steps_other : (arcs : List Arc) (v : ℕ) (done : List ResidualArc) (s : ResidualArc) → (start arcs s ≡ v → ⊥) → steps_from arcs v (done ++ s ∷ []) ≡ steps_from arcs v done
steps_other arcs v done s ne =
    filter-append (λ step. eqb (start arcs step) v) done (s ∷ []) ∙ ap (λ b. steps_from arcs v done ++ cond b (s ∷ []) []) (ne_eqb (start arcs s) v ne) ∙ append-nil (steps_from arcs v done)

pub steps_parts : (arcs : List Arc) (v : ℕ) (done rest : List ResidualArc) (s : ResidualArc) → start arcs s ≡ v → steps_from arcs v (done ++ s ∷ rest) ≡ steps_from arcs v done ++ s ∷ steps_from arcs v rest
steps_parts arcs v done rest s e =
    filter-append (λ step. eqb (start arcs step) v) done (s ∷ rest) ∙ ap (λ b. steps_from arcs v done ++ cond b (s ∷ steps_from arcs v rest) (steps_from arcs v rest)) (eq-eqb (start arcs s) v e)

-- the row that is to contain a step has space for it
pub room_for : (arcs : List Arc) (v : ℕ) (done rest : List ResidualArc) (s : ResidualArc) → start arcs s ≡ v → length (steps_from arcs v done) < length (steps_from arcs v (done ++ s ∷ rest))
room_for arcs v done rest s e =
    omega (arith, ap length (steps_parts arcs v done rest s e), length-append (steps_from arcs v done) (s ∷ steps_from arcs v rest))

pub first_within : (arcs : List Arc) (v i n : ℕ) → i ≤ n → length (steps_from arcs v (residual_arcs_below i)) ≤ length (steps_from arcs v (residual_arcs_below n))
first_within arcs v i zero l = let e : i ≡ 0 = omega arith in omega (arith, ap (λ m. length (steps_from arcs v (residual_arcs_below m))) e)
first_within arcs v i (suc n) l =
    let split : (i ≡ suc n) ⊎ (i ≤ n) = grind arith in
    let rest : i ≤ n → length (steps_from arcs v (residual_arcs_below i)) ≤ length (steps_from arcs v (residual_arcs_below n)) = first_within arcs v i n in
    let more : steps_from arcs v (residual_arcs_below (suc n)) ≡ steps_from arcs v (residual_arcs_below n) ++ steps_from arcs v (Forward n ∷ Backward n ∷ []) = filter-append (λ step. eqb (start arcs step) v) (residual_arcs_below n) (Forward n ∷ Backward n ∷ []) in
    elim split [
      | inl e ↦ omega (arith, ap (λ m. length (steps_from arcs v (residual_arcs_below m))) e)
      | inr m ↦ omega (arith, rest m, ap length more, length-append (steps_from arcs v (residual_arcs_below n)) (steps_from arcs v (Forward n ∷ Backward n ∷ [])))
    ]

pub first_more : (n : ℕ) → (residual_arcs_below n ++ Forward n ∷ []) ++ Backward n ∷ [] ≡ residual_arcs_below (suc n)
first_more n = append_assoc (residual_arcs_below n) (Forward n ∷ []) (Backward n ∷ [])

pub first_next : (n : ℕ) → (residual_arcs_below n ++ Forward n ∷ []) ++ Backward n ∷ [] ≡ residual_arcs_below (n + 1)
first_next n = first_more n ∙ ap residual_arcs_below (sym (add-one n))

pub first_count : (n : ℕ) → length (residual_arcs_below n) ≡ n + n
first_count zero = refl
first_count (suc n) = omega (arith, first_count n, length-append (residual_arcs_below n) (Forward n ∷ Backward n ∷ []))

first_known : (n : ℕ) (s : ResidualArc) → Contains (residual_arcs_below n) s → arc_of s < n
first_known zero s c = absurd (omega (arith, c.1))
first_known (suc n) s c =
    elim (Contains-push_cases (residual_arcs_below n ++ Forward n ∷ []) (Backward n) s (subst (λ steps. Contains steps s) (sym (first_more n)) c)) [
      | inl before ↦ elim (Contains-push_cases (residual_arcs_below n) (Forward n) s before) [
        | inl old ↦ let l : arc_of s < n = first_known n s old in omega arith
        | inr here ↦ let e : n ≡ arc_of s = ap arc_of here in omega arith
      ]
      | inr here ↦ let e : n ≡ arc_of s = ap arc_of here in omega arith
    ]

pub first_all : (n : ℕ) (s : ResidualArc) → arc_of s < n → Contains (residual_arcs_below n) s
first_all zero s l = absurd (omega arith)
first_all (suc n) s l = subst (λ steps. Contains steps s) (first_more n) (at s l (first_all n s))
  where
    at : (s : ResidualArc) → arc_of s < suc n → (arc_of s < n → Contains (residual_arcs_below n) s) → Contains ((residual_arcs_below n ++ Forward n ∷ []) ++ Backward n ∷ []) s
    at (Forward i) l old =
        let split : (i < n) ⊎ (i ≡ n) = grind arith in
        Contains-append_left (residual_arcs_below n ++ Forward n ∷ []) (Backward n ∷ []) (Forward i) (elim split [
          | inl m ↦ Contains-append_left (residual_arcs_below n) (Forward n ∷ []) (Forward i) (old m)
          | inr e ↦ subst (λ j. Contains (residual_arcs_below n ++ Forward n ∷ []) (Forward j)) (sym e) (Contains-push (residual_arcs_below n) (Forward n))
        ])
    at (Backward i) l old =
        let split : (i < n) ⊎ (i ≡ n) = grind arith in
        elim split [
          | inl m ↦ Contains-append_left (residual_arcs_below n ++ Forward n ∷ []) (Backward n ∷ []) (Backward i) (Contains-append_left (residual_arcs_below n) (Forward n ∷ []) (Backward i) (old m))
          | inr e ↦ subst (λ j. Contains ((residual_arcs_below n ++ Forward n ∷ []) ++ Backward n ∷ []) (Backward j)) (sym e) (Contains-push (residual_arcs_below n ++ Forward n ∷ []) (Backward n))
        ]

-- a row has those of some steps that start at its node, each once, and no others
record Row (arcs : List Arc) (done : List ResidualArc) (v : ℕ) (row : List ResidualArc) : Type 0 where
  starts : (k : ℕ) → k < length row → start arcs (step_at row k) ≡ v
  known : (k : ℕ) → k < length row → Contains done (step_at row k)
  once : AreOnce row
  all : (step : ResidualArc) → Contains done step → start arcs step ≡ v → Contains row step

pub last_or_not : (row : List ResidualArc) (s : ResidualArc) (k : ℕ) → k < length (row ++ s ∷ []) → (k < length row) ⊎ (k ≡ length row)
last_or_not row s k l = let m : k < length row + 1 = omega (arith, length_push row s) in grind arith

pub not_last : (row : List ResidualArc) (s : ResidualArc) (k : ℕ) → k < length row → step_at (row ++ s ∷ []) k ≡ step_at row k
not_last row s k l = get_or_append_left row (s ∷ []) (Forward 0) k l

pub at_last : (row : List ResidualArc) (s : ResidualArc) (k : ℕ) → k ≡ length row → step_at (row ++ s ∷ []) k ≡ s
at_last row s k e = get_or_push row s (Forward 0) k (sym e)

-- a property of the steps of a row and of one more
each_push : (P : ResidualArc → Type 0) (row : List ResidualArc) (s : ResidualArc) → P s → ((k : ℕ) → k < length row → P (step_at row k)) → (k : ℕ) → k < length (row ++ s ∷ []) → P (step_at (row ++ s ∷ []) k)
each_push P row s p h k l =
    elim (last_or_not row s k l) [
      | inl m ↦ subst P (sym (not_last row s k m)) (h k m)
      | inr q ↦ subst P (sym (at_last row s k q)) p
    ]

once_push : (row : List ResidualArc) (s : ResidualArc) → ((k : ℕ) → k < length row → step_at row k ≡ s → ⊥) → AreOnce row → AreOnce (row ++ s ∷ [])
once_push row s other once j k jl kl e =
    elim (last_or_not row s j jl) [
      | inl a ↦ elim (last_or_not row s k kl) [
        | inl b ↦ once j k a b (sym (not_last row s j a) ∙ e ∙ not_last row s k b)
        | inr b ↦ absurd (other j a (sym (not_last row s j a) ∙ e ∙ at_last row s k b))
      ]
      | inr a ↦ elim (last_or_not row s k kl) [
        | inl b ↦ absurd (other k b (sym (not_last row s k b) ∙ sym e ∙ at_last row s j a))
        | inr b ↦ a ∙ sym b
      ]
    ]

row_more : (arcs : List Arc) (done : List ResidualArc) (v : ℕ) (s : ResidualArc) → (Contains done s → ⊥) → Row arcs done v (steps_from arcs v done) → Row arcs (done ++ s ∷ []) v (steps_from arcs v (done ++ s ∷ []))
row_more arcs done v s new old =
    elim (cases_eq (start arcs s) v) [
      | inl e ↦ subst (Row arcs (done ++ s ∷ []) v) (sym (steps_here arcs v done s e)) (record {
        starts = each_push (λ t. start arcs t ≡ v) (steps_from arcs v done) s e old.starts;
        known = each_push (Contains (done ++ s ∷ [])) (steps_from arcs v done) s (Contains-push done s) (λ k l. Contains-append_left done (s ∷ []) (step_at (steps_from arcs v done) k) (old.known k l));
        once = once_push (steps_from arcs v done) s (λ k l q. new (subst (Contains done) q (old.known k l))) old.once;
        all = λ step c at. elim (Contains-push_cases done s step c) [
          | inl before ↦ Contains-append_left (steps_from arcs v done) (s ∷ []) step (old.all step before at)
          | inr same ↦ subst (Contains (steps_from arcs v done ++ s ∷ [])) same (Contains-push (steps_from arcs v done) s)
        ];
      })
      | inr ne ↦ subst (Row arcs (done ++ s ∷ []) v) (sym (steps_other arcs v done s ne)) (record {
        starts = old.starts;
        known = λ k l. Contains-append_left done (s ∷ []) (step_at (steps_from arcs v done) k) (old.known k l);
        once = old.once;
        all = λ step c at. elim (Contains-push_cases done s step c) [
          | inl before ↦ old.all step before at
          | inr same ↦ absurd (ne (ap (start arcs) same ∙ at))
        ];
      })
    ]

first_row : (arcs : List Arc) (n v : ℕ) → Row arcs (residual_arcs_below n) v (steps_from arcs v (residual_arcs_below n))
first_row arcs zero v = record {
  starts = λ k l. absurd (omega arith);
  known = λ k l. absurd (omega arith);
  once = λ j k l m e. absurd (omega arith);
  all = λ step c e. absurd (omega (arith, c.1));
}
first_row arcs (suc n) v =
    subst (λ done. Row arcs done v (steps_from arcs v done)) (first_more n)
    (row_more arcs (residual_arcs_below n ++ Forward n ∷ []) v (Backward n) apart (row_more arcs (residual_arcs_below n) v (Forward n) (λ c. let l : n < n = first_known n (Forward n) c in omega arith) (first_row arcs n v)))
  where
    other : Forward n ≡ Backward n → ⊥
    other e = cc

    apart : Contains (residual_arcs_below n ++ Forward n ∷ []) (Backward n) → ⊥
    apart c =
        elim (Contains-push_cases (residual_arcs_below n) (Forward n) (Backward n) c) [
          | inl old ↦ let l : n < n = first_known n (Backward n) old in omega arith
          | inr same ↦ other same
        ]

-- each step of the first n arcs is of one of them
pub row_known : (arcs : List Arc) (n v k : ℕ) → k < length (steps_from arcs v (residual_arcs_below n)) → arc_of (step_at (steps_from arcs v (residual_arcs_below n)) k) < n
row_known arcs n v k l = first_known n (step_at (steps_from arcs v (residual_arcs_below n)) k) ((first_row arcs n v).known k l)

same_itself : (s : ResidualArc) → same_step s s ≡ true
same_itself (Forward i) = eq-eqb i i refl
same_itself (Backward i) = eq-eqb i i refl

has_from : (steps : List ResidualArc) (s : ResidualArc) → Contains steps s → has_step steps s ≡ true
has_from [] s c = absurd (omega (arith, c.1))
has_from (t ∷ steps) s c = at (has_from steps s) c.0 c.1 c.2
  where
    at : (Contains steps s → has_step steps s ≡ true) → (k : ℕ) → k < length (t ∷ steps) → get_or (t ∷ steps) k s ≡ s → has_step (t ∷ steps) s ≡ true
    at rest zero l e = or_left (same_step t s) (has_step steps s) (ap (λ u. same_step u s) e ∙ same_itself s)
    at rest (suc k) l e = or_right (same_step t s) (has_step steps s) (rest (k, omega arith, e))

pub has_steps : (arcs : List Arc) (v : ℕ) → HasSteps arcs v (row_of arcs v)
has_steps arcs v =
    let row : Row arcs (residual_arcs_below (length arcs)) v (row_of arcs v) = first_row arcs (length arcs) v in
    record {
      starts = λ k l. (row_known arcs (length arcs) v k l, row.starts k l);
      once = row.once;
      all = λ step a e. has_from (row_of arcs v) step (row.all step (first_all (length arcs) step a) e);
    }

below : (n : ℕ) (s : ResidualArc) → arc_of s < n → rank_of s ≤ rank_of (Forward n)
below n (Forward i) l = omega arith
below n (Backward i) l = omega arith

first_ascend : (n : ℕ) → IsNonDecreasingBy rank_of (residual_arcs_below n)
first_ascend zero = IsNonDecreasingBy-short rank_of [] (omega arith)
first_ascend (suc n) =
    subst (IsNonDecreasingBy rank_of) (first_more n)
    (IsNonDecreasingBy-push rank_of (residual_arcs_below n ++ Forward n ∷ []) (Backward n) (IsNonDecreasingBy-push rank_of (residual_arcs_below n) (Forward n) (first_ascend n) (λ d l. low d l)) (λ d l. last d l))
  where
    low : (d : ResidualArc) → 0 < length (residual_arcs_below n) → rank_of (get_or (residual_arcs_below n) (length (residual_arcs_below n) - 1) d) ≤ rank_of (Forward n)
    low d l =
        let s : ResidualArc = get_or (residual_arcs_below n) (length (residual_arcs_below n) - 1) d in
        below n s (first_known n s (length (residual_arcs_below n) - 1, omega arith, get_or_default (residual_arcs_below n) (length (residual_arcs_below n) - 1) s d (omega arith)))

    last : (d : ResidualArc) → 0 < length (residual_arcs_below n ++ Forward n ∷ []) → rank_of (get_or (residual_arcs_below n ++ Forward n ∷ []) (length (residual_arcs_below n ++ Forward n ∷ []) - 1) d) ≤ rank_of (Backward n)
    last d l = omega (arith, ap rank_of (get_or_push (residual_arcs_below n) (Forward n) d (length (residual_arcs_below n ++ Forward n ∷ []) - 1) (omega (arith, length_push (residual_arcs_below n) (Forward n)))))

-- the steps of a row ascend
pub row_ascends : (arcs : List Arc) (v : ℕ) → IsNonDecreasingBy rank_of (row_of arcs v)
row_ascends arcs v = IsNonDecreasingBy-filter rank_of (λ step. eqb (start arcs step) v) (residual_arcs_below (length arcs)) (first_ascend (length arcs))
