-- Consecutive rows, as they are counted and filled.
use Rattle.std.proofs.Common.{◌≡◌, ◌≢◌, ℕ, suc, ◌+◌, ◌-◌, ◌*◌, ◌<◌, ◌≤◌, List, [], ◌∷◌, ◌++◌, length, get_or, set, take, drop, replicate, sum, sym, ap, ◌∙◌, subst, inl, inr, arith, length-drop, length-take, length-set, get_or-set_same, get_or-set_other}
use Rattle.std.proofs.lemmas.Bool.{cases_eq, cases_lt}
use Rattle.std.proofs.lemmas.List.Folds.{sum_by-replicate}
use Rattle.std.proofs.lemmas.List.{length-replicate, get_or-replicate, get_or-take, get_or-drop, take-take, ext_get_or, length_push, get_or_read}
use Rattle.std.proofs.lemmas.List.Sums.{sum_by_more, sum_by-take-le, sum_by-cons, sum_by_more_le, sum_by-set, get_or-le-sum_by}
use Rattle.esr_cert.specs.Network.{arc_at, EndsAreNodes, Arc}
use Rattle.esr_cert.specs.ResidualArcs.{start, step_at, ResidualArc, Forward, Backward}
use Rattle.esr_cert.specs.Adjacency.{row_in, span_at, residual_arcs_below, steps_from, row_of, AreDegrees, AreRows, Counted, Filled, longer, Span}
use Rattle.esr_cert.proofs.ResidualArcsLaws.{steps_here, steps_other, room_for, first_within, first_more, first_next, first_count, last_or_not, not_last, at_last}

pub row_length : {X : Type 0} (list : List X) (span : Span) → span.end ≤ length list → length (row_in list span) ≡ span.end - span.begin
row_length list span l =
    omega (arith, length-take (span.end - span.begin) (drop span.begin list), length-drop span.begin list)

pub at_row : {X : Type 0} (list : List X) (span : Span) (k : ℕ) (d : X) → k < span.end - span.begin → get_or (row_in list span) k d ≡ get_or list (span.begin + k) d
at_row list span k d l =
    get_or-take (span.end - span.begin) (drop span.begin list) k d l ∙ get_or-drop span.begin list k d

pub counted_at : {arcs : List Arc} {node_count : ℕ} {done : List ResidualArc} {counts : List ℕ} {u x : ℕ} → u < node_count → x ≡ get_or counts u x → Counted arcs node_count done counts → x ≤ length done
counted_at {arcs} {node_count} {done} {counts} {u} {x} l read h = omega (arith, get_or-le-sum_by (λ n. n) counts u x (omega (arith, h.count)), h.both)

pub counted_more : {arcs : List Arc} {node_count : ℕ} {done : List ResidualArc} {counts : List ℕ} (s : ResidualArc) {u x : ℕ} → start arcs s ≡ u → u < node_count → x ≡ get_or counts u x → Counted arcs node_count done counts → Counted arcs node_count (done ++ s ∷ []) (set counts u (x + 1))
counted_more {arcs} {node_count} {done} {counts} s {u} {x} e l read h = record {
  count = length-set counts u (x + 1) ∙ h.count;
  each = λ v m. elim (cases_eq v u) [
    | inl q ↦ subst (λ w. get_or (set counts u (x + 1)) w 0 ≡ length (steps_from arcs w (done ++ s ∷ []))) (sym q) here
    | inr ne ↦ get_or-set_other counts u v (x + 1) 0 ne ∙ h.each v m ∙ ap length (sym (steps_other arcs v done s (λ q. ne (sym q ∙ e))))
  ];
  both = omega (arith, sum_by-set (λ n. n) counts u (x + 1) x (omega (arith, h.count)), h.both, length_push done s);
}
  where
    here : get_or (set counts u (x + 1)) u 0 ≡ length (steps_from arcs u (done ++ s ∷ []))
    here = omega (arith, get_or-set_same counts u (x + 1) 0 (omega (arith, h.count)), get_or_read counts u x (omega (arith, h.count)) read 0, h.each u l, ap length (steps_here arcs u done s e), length_push (steps_from arcs u done) s)

pub counted_none : {arcs : List Arc} {node_count : ℕ} (counts : List ℕ) → counts ≡ replicate node_count 0 → Counted arcs node_count [] counts
counted_none {arcs} {node_count} counts is = record {
  count = ap length is ∙ length-replicate node_count 0;
  each = λ v l. ap (λ list. get_or list v 0) is ∙ get_or-replicate node_count v 0 0 l;
  both = ap sum is ∙ omega (arith, sum_by-replicate (λ n. n) node_count 0);
}

-- the steps of an arc with these ends
module _ {arcs : List Arc} {node_count : ℕ} (i : ℕ) {counts : List ℕ} {u x : ℕ} (ends : EndsAreNodes arcs node_count) (l : i < length arcs) (from : u ≡ (arc_at arcs i).from) (read : x ≡ get_or counts u x) (h : Counted arcs node_count (residual_arcs_below i) counts) where
  pub along_small : x ≤ 2 * i
  along_small = omega (arith, first_count i, counted_at {u = u} (omega (arith, (ends i l).0, from)) read h)

  counted_along : Counted arcs node_count (residual_arcs_below i ++ Forward i ∷ []) (set counts u (x + 1))
  counted_along = counted_more (Forward i) (sym from) (omega (arith, (ends i l).0, from)) read h

  module _ {w y : ℕ} (to : w ≡ (arc_at arcs i).to) (again : y ≡ get_or (set counts u (x + 1)) w y) where
    pub against_small : y ≤ 2 * i + 1
    against_small = omega (arith, first_count i, length_push (residual_arcs_below i) (Forward i), counted_at {u = w} (omega (arith, (ends i l).1, to)) again counted_along)

    pub counted_arc : (k : ℕ) → k ≡ i + 1 → Counted arcs node_count (residual_arcs_below k) (set (set counts u (x + 1)) w (y + 1))
    counted_arc k next =
        subst (λ n. Counted arcs node_count (residual_arcs_below n) (set (set counts u (x + 1)) w (y + 1))) (sym next)
        (subst (λ done. Counted arcs node_count done (set (set counts u (x + 1)) w (y + 1))) (first_next i)
        (counted_more (Backward i) (sym to) (omega (arith, (ends i l).1, to)) again counted_along))

pub counted_all : {arcs : List Arc} {node_count : ℕ} (i : ℕ) {counts : List ℕ} → i ≡ length arcs → Counted arcs node_count (residual_arcs_below i) counts → AreDegrees arcs node_count counts
counted_all {arcs} {node_count} i {counts} e h =
    let all : Counted arcs node_count (residual_arcs_below (length arcs)) counts = subst (λ n. Counted arcs node_count (residual_arcs_below n) counts) e h in
    record { count = all.count; degree = all.each; both = omega (arith, all.both, first_count (length arcs)) }

-- a row ends before those after it begin
row_before : (lengths : List ℕ) (v u : ℕ) → v < u → u ≤ length lengths → sum (take v lengths) + get_or lengths v 0 ≤ sum (take u lengths)
row_before lengths v u l m =
    let more : sum (take (v + 1) lengths) ≡ sum (take v lengths) + get_or lengths v 0 = sum_by_more (λ x. x) lengths v 0 (omega arith) in
    let part : sum (take (v + 1) (take u lengths)) ≤ sum (take u lengths) = sum_by-take-le (λ x. x) (take u lengths) (v + 1) in
    omega (arith, more, part, ap sum (take-take (v + 1) u lengths (omega arith)))

-- the row that contains an index
pub row_with : (lengths : List ℕ) (k : ℕ) → k < sum lengths → (v : ℕ) × (v < length lengths) × (sum (take v lengths) ≤ k) × (k < sum (take v lengths) + get_or lengths v 0)
row_with [] k l = absurd (omega arith)
row_with (n ∷ lengths) k l =
    let whole : sum (n ∷ lengths) ≡ n + sum lengths = sum_by-cons (λ x. x) n lengths in
    let rest : k - n < sum lengths → (v : ℕ) × (v < length lengths) × (sum (take v lengths) ≤ k - n) × (k - n < sum (take v lengths) + get_or lengths v 0) = row_with lengths (k - n) in
    elim (cases_lt k n) [
      | inl here ↦ (0, omega arith, omega arith, omega arith)
      | inr after ↦
          let found : (v : ℕ) × (v < length lengths) × (sum (take v lengths) ≤ k - n) × (k - n < sum (take v lengths) + get_or lengths v 0) = rest (omega (arith, whole)) in
          let more : sum (n ∷ take found.0 lengths) ≡ n + sum (take found.0 lengths) = sum_by-cons (λ x. x) n (take found.0 lengths) in
          (suc found.0, omega (arith, found.1), omega (arith, more, found.2), omega (arith, more, found.3))
    ]

module _ (arcs : List Arc) (lengths : List ℕ) (done : List ResidualArc) (spans : List Span) (steps : List ResidualArc) (s : ResidualArc) (u : ℕ) (e : start arcs s ≡ u) (l : u < length lengths) (in_bounds : length (steps_from arcs u done) < get_or lengths u 0) (h : Filled arcs lengths done spans steps) where
  pub place_within : (span_at spans u).end < length steps
  place_within = omega (arith, h.end u l, h.total, sum_by_more_le (λ x. x) lengths u 0 l)

  span_here : span_at (set spans u (longer (span_at spans u))) u ≡ longer (span_at spans u)
  span_here = get_or-set_same spans u (longer (span_at spans u)) (record { begin = 0; end = 0 }) (omega (arith, h.count))

  span_other : (v : ℕ) → v ≢ u → span_at (set spans u (longer (span_at spans u))) v ≡ span_at spans v
  span_other v ne = get_or-set_other spans u v (longer (span_at spans u)) (record { begin = 0; end = 0 }) ne

  not_at : (v : ℕ) → v ≢ u → steps_from arcs v (done ++ s ∷ []) ≡ steps_from arcs v done
  not_at v ne = steps_other arcs v done s (λ q. ne (sym q ∙ e))

  one_more : length (steps_from arcs u (done ++ s ∷ [])) ≡ length (steps_from arcs u done) + 1
  one_more = ap length (steps_here arcs u done s e) ∙ length_push (steps_from arcs u done) s

  kept : (k : ℕ) → k ≢ (span_at spans u).end → step_at (set steps (span_at spans u).end s) k ≡ step_at steps k
  kept k ne = get_or-set_other steps (span_at spans u).end k s (Forward 0) ne

  step_here : (k : ℕ) → k < length (steps_from arcs u (done ++ s ∷ [])) → step_at (set steps (span_at spans u).end s) (sum (take u lengths) + k) ≡ step_at (steps_from arcs u (done ++ s ∷ [])) k
  step_here k m =
      let row : steps_from arcs u (done ++ s ∷ []) ≡ steps_from arcs u done ++ s ∷ [] = steps_here arcs u done s e in
      elim (last_or_not (steps_from arcs u done) s k (omega (arith, ap length row))) [
        | inl before ↦
            kept (sum (take u lengths) + k) (λ q. omega (arith, h.end u l)) ∙ h.step u k l before
            ∙ sym (not_last (steps_from arcs u done) s k before) ∙ ap (λ list. step_at list k) (sym row)
        | inr last ↦
            let place : sum (take u lengths) + k ≡ (span_at spans u).end = omega (arith, h.end u l) in
            ap (step_at (set steps (span_at spans u).end s)) place ∙ get_or-set_same steps (span_at spans u).end s (Forward 0) place_within
            ∙ sym (at_last (steps_from arcs u done) s k last) ∙ ap (λ list. step_at list k) (sym row)
      ]

  -- the places of another row
  apart : (v k : ℕ) → v ≢ u → v < length lengths → k < length (steps_from arcs v done) → sum (take v lengths) + k ≢ (span_at spans u).end
  apart v k ne m i q =
      elim (cases_lt v u) [
        | inl before ↦ omega (arith, h.end u l, h.fits v m, row_before lengths v u before (omega arith))
        | inr after ↦ let more : u < v = grind arith in omega (arith, h.end u l, row_before lengths u v more (omega arith))
      ]

  step_other : (v k : ℕ) → v ≢ u → v < length lengths → k < length (steps_from arcs v (done ++ s ∷ [])) → step_at (set steps (span_at spans u).end s) (sum (take v lengths) + k) ≡ step_at (steps_from arcs v (done ++ s ∷ [])) k
  step_other v k ne m i =
      let j : k < length (steps_from arcs v done) = omega (arith, ap length (not_at v ne)) in
      kept (sum (take v lengths) + k) (apart v k ne m j) ∙ h.step v k m j ∙ ap (λ list. step_at list k) (sym (not_at v ne))

  pub filled_more : Filled arcs lengths (done ++ s ∷ []) (set spans u (longer (span_at spans u))) (set steps (span_at spans u).end s)
  filled_more = record {
    count = length-set spans u (longer (span_at spans u)) ∙ h.count;
    total = length-set steps (span_at spans u).end s ∙ h.total;
    begin = λ v m. elim (cases_eq v u) [
      | inl q ↦ subst (λ w. (span_at (set spans u (longer (span_at spans u))) w).begin ≡ sum (take w lengths)) (sym q) (ap (λ (span : Span). span.begin) span_here ∙ h.begin u l)
      | inr ne ↦ ap (λ (span : Span). span.begin) (span_other v ne) ∙ h.begin v m
    ];
    end = λ v m. elim (cases_eq v u) [
      | inl q ↦
          subst (λ w. (span_at (set spans u (longer (span_at spans u))) w).end ≡ sum (take w lengths) + length (steps_from arcs w (done ++ s ∷ []))) (sym q)
          (omega (arith, ap (λ (span : Span). span.end) span_here, h.end u l, one_more))
      | inr ne ↦ omega (arith, ap (λ (span : Span). span.end) (span_other v ne), h.end v m, ap length (not_at v ne))
    ];
    fits = λ v m. elim (cases_eq v u) [
      | inl q ↦ subst (λ w. length (steps_from arcs w (done ++ s ∷ [])) ≤ get_or lengths w 0) (sym q) (omega (arith, one_more, in_bounds))
      | inr ne ↦ omega (arith, ap length (not_at v ne), h.fits v m)
    ];
    step = λ v k m i. elim (cases_eq v u) [
      | inl q ↦
          let j : k < length (steps_from arcs u (done ++ s ∷ [])) = subst (λ w. k < length (steps_from arcs w (done ++ s ∷ []))) q i in
          subst (λ w. step_at (set steps (span_at spans u).end s) (sum (take w lengths) + k) ≡ step_at (steps_from arcs w (done ++ s ∷ [])) k) (sym q) (step_here k j)
      | inr ne ↦ step_other v k ne m i
    ];
  }

-- a row has space for the steps of an arc that is not laid yet
pub capacity_along : (arcs : List Arc) (node_count : ℕ) (degrees : List ℕ) (i u : ℕ) → AreDegrees arcs node_count degrees → i < length arcs → u < node_count → start arcs (Forward i) ≡ u → length (steps_from arcs u (residual_arcs_below i)) < get_or degrees u 0
capacity_along arcs node_count degrees i u are l m e =
    let here : length (steps_from arcs u (residual_arcs_below i)) < length (steps_from arcs u (residual_arcs_below (suc i))) = room_for arcs u (residual_arcs_below i) (Backward i ∷ []) (Forward i) e in
    omega (arith, here, first_within arcs u (suc i) (length arcs) (omega arith), are.degree u m)

pub capacity_against : (arcs : List Arc) (node_count : ℕ) (degrees : List ℕ) (i u : ℕ) → AreDegrees arcs node_count degrees → i < length arcs → u < node_count → start arcs (Backward i) ≡ u → length (steps_from arcs u (residual_arcs_below i ++ Forward i ∷ [])) < get_or degrees u 0
capacity_against arcs node_count degrees i u are l m e =
    let here : length (steps_from arcs u (residual_arcs_below i ++ Forward i ∷ [])) < length (steps_from arcs u ((residual_arcs_below i ++ Forward i ∷ []) ++ Backward i ∷ [])) = room_for arcs u (residual_arcs_below i ++ Forward i ∷ []) [] (Backward i) e in
    omega (arith, here, ap (λ list. length (steps_from arcs u list)) (first_more i), first_within arcs u (suc i) (length arcs) (omega arith), are.degree u m)

pub filled_all : (arcs : List Arc) (node_count : ℕ) (degrees : List ℕ) (spans : List Span) (steps : List ResidualArc) → AreDegrees arcs node_count degrees → Filled arcs degrees (residual_arcs_below (length arcs)) spans steps → AreRows arcs node_count spans steps
filled_all arcs node_count degrees spans steps are h = record {
  count = h.count ∙ are.count;
  ordered = λ v l. omega (arith, h.begin v (known v l), h.end v (known v l));
  inside = inside;
  row = λ v l. ext_get_or (Forward 0) (row_in steps (span_at spans v)) (row_of arcs v) (long v l)
      (λ k m. at_row steps (span_at spans v) k (Forward 0) (omega (arith, long v l, h.begin v (known v l), h.end v (known v l)))
      ∙ ap (λ n. step_at steps (n + k)) (h.begin v (known v l)) ∙ h.step v k (known v l) (omega (arith, long v l)));
}
  where
    known : (v : ℕ) → v < node_count → v < length degrees
    known v l = omega (arith, are.count)

    inside : (v : ℕ) → v < node_count → (span_at spans v).end ≤ length steps
    inside v l = omega (arith, h.end v (known v l), h.fits v (known v l), h.total, sum_by_more_le (λ x. x) degrees v 0 (known v l))

    long : (v : ℕ) → v < node_count → length (row_in steps (span_at spans v)) ≡ length (row_of arcs v)
    long v l = omega (arith, row_length steps (span_at spans v) (inside v l), h.begin v (known v l), h.end v (known v l))

-- the row of a place of the filled list, and the step there
pub step_with : (arcs : List Arc) (node_count : ℕ) (degrees : List ℕ) (spans : List Span) (steps : List ResidualArc) → AreDegrees arcs node_count degrees → Filled arcs degrees (residual_arcs_below (length arcs)) spans steps → (k : ℕ) → k < length steps
    → (v : ℕ) × (j : ℕ) × (v < length degrees) × (j < length (row_of arcs v)) × (sum (take v degrees) + j ≡ k) × (step_at steps k ≡ step_at (row_of arcs v) j)
step_with arcs node_count degrees spans steps are h k l =
    let (v, a, b, c) = row_with degrees k (omega (arith, h.total)) in
    let j : k - sum (take v degrees) < length (row_of arcs v) = omega (arith, are.degree v (omega (arith, are.count))) in
    let place : sum (take v degrees) + (k - sum (take v degrees)) ≡ k = omega arith in
    (v, k - sum (take v degrees), a, j, place, ap (step_at steps) (sym place) ∙ h.step v (k - sum (take v degrees)) a j)
