-- Consecutive rows in one list.
use Rattle.std.proofs.Common.{◌≡◌, ◌⊎◌, ℕ, zero, suc, ◌+◌, ◌-◌, ◌<◌, ◌≤◌, List, [], ◌∷◌, ◌++◌, length, take, drop, slice_set, map, refl, sym, ap, ap₂, ◌∙◌, subst, inl, inr, All, arith, IsTrue}
use Rattle.std.proofs.Math.Seq.{drop-append_seam}
use Rattle.std.proofs.lemmas.Bool.{cases_eq}
use Rattle.std.proofs.lemmas.List.{take-append-le, take_all, drop-append-le, length-append, get_or-set_same, get_or-set_other, map-set}
use Rattle.esr_history.specs.declared.event.Entry.{Entry}
use Rattle.esr_history.specs.Events.{accepted, is_committed}
use Rattle.esr_history.specs.Machine.{DistanceFunction, Schedule, IsLegal}
use Rattle.esr_order.specs.Scans.{Access, accesses_in}
use Rattle.esr_order.specs.AccessRows.{IsWithin, row_in, row_at, AreRowsOf}
use Rattle.esr_order.specs.declared.rows.RowSpan.{RowSpan}
use Rattle.esr_order.proofs.Settled.{settled_next}

length-dropped : {X : Type 0} (n : ℕ) (xs : List X) → n ≤ length xs → n + length (drop n xs) ≡ length xs
length-dropped zero xs l = omega arith
length-dropped (suc n) [] l = absurd (omega arith)
length-dropped (suc n) (x ∷ xs) l = let rest = length-dropped n xs (omega arith) in omega (arith, rest)

-- a row is unchanged if the list grows at its end
row_stays : (list more : List Access) (s : RowSpan) → IsWithin (length list) s → row_in (list ++ more) s ≡ row_in list s
row_stays list more s in_list =
    let rest = length-dropped s.begin list (omega (arith, in_list.ordered, in_list.inside)) in
    ap (take (s.end - s.begin)) (drop-append-le s.begin list more (omega (arith, in_list.ordered, in_list.inside)))
    ∙ take-append-le (s.end - s.begin) (drop s.begin list) more (omega (arith, rest, in_list.ordered, in_list.inside))

rows_stay : (list more : List Access) (spans : List RowSpan) → All (IsWithin (length list)) spans → map (row_in (list ++ more)) spans ≡ map (row_in list) spans
rows_stay list more [] all = refl
rows_stay list more (s ∷ spans) all =
    ap (λ r. r ∷ map (row_in (list ++ more)) spans) (row_stays list more s (all 0 s (omega arith)))
    ∙ ap (λ rs. row_in list s ∷ rs) (rows_stay list more spans (λ i e m. all (suc i) e (omega arith)))

-- the last row
row_last : (list more : List Access) (n : ℕ) → n ≡ length (list ++ more) → row_in (list ++ more) (record { begin = length list; end = n }) ≡ more
row_last list more n is = ap (take (n - length list)) (drop-append_seam list more) ∙ take_all (n - length list) more (omega (arith, is, length-append list more))

-- a row more, of transaction t
abbrev pub put : List RowSpan → ℕ → ℕ → ℕ → List RowSpan
put spans t b n = slice_set spans t (record { begin = b; end = n })

-- a list that has grown at its end, with rows in its old part
module _ (list more grown : List Access) (grew : grown ≡ list ++ more) (spans : List RowSpan) (all : All (IsWithin (length list)) spans) (rows : List (List Access)) (seen : map (row_in list) spans ≡ rows) where
  rows_in : map (row_in grown) spans ≡ rows
  rows_in = ap (λ l. map (row_in l) spans) grew ∙ (rows_stay list more spans all ∙ seen)

  -- no new row
  pub row_unput : (u : ℕ) → row_at (map (row_in grown) spans) u ≡ row_at rows u
  row_unput u = ap (λ rs. row_at rs u) rows_in

  -- one new row
  module _ (t b n : ℕ) (starts : b ≡ length list) (ends : n ≡ length grown) (there : t < length rows) where
    last : row_in grown (record { begin = b; end = n }) ≡ more
    last = ap (λ l. take (n - b) (drop b l)) grew ∙ (ap (λ k. take (n - k) (drop k (list ++ more))) starts ∙ row_last list more n (ends ∙ ap length grew))

    rows_put : map (row_in grown) (put spans t b n) ≡ slice_set rows t more
    rows_put = map-set (row_in grown) spans t (record { begin = b; end = n }) ∙ ap₂ (λ rs r. slice_set rs t r) rows_in last

    pub row_put : row_at (map (row_in grown) (put spans t b n)) t ≡ more
    row_put = ap (λ rs. row_at rs t) rows_put ∙ get_or-set_same rows t more [] there

    pub row_others : (u : ℕ) → (row_at (map (row_in grown) (put spans t b n)) u ≡ row_at rows u) ⊎ ((u ≡ t) × (row_at (map (row_in grown) (put spans t b n)) u ≡ more))
    row_others u = elim (cases_eq u t) [
      | inl e ↦ inr (e, ap (row_at (map (row_in grown) (put spans t b n))) e ∙ row_put)
      | inr ne ↦ inl (ap (λ rs. row_at rs u) rows_put ∙ get_or-set_other rows t u more [] ne)
    ]

-- rows of the entries, with a row of t
pub rows_more : (entries : List Entry) (rows more : List (List Access)) (t : ℕ) (row : List Access) → AreRowsOf entries rows → IsTrue (is_committed (accepted entries) t) → row ≡ accesses_in entries t
    → ((u : ℕ) → (row_at more u ≡ row_at rows u) ⊎ ((u ≡ t) × (row_at more u ≡ row))) → AreRowsOf entries more
rows_more entries rows more t row are over is others u = elim (others u) [
  | inl same ↦ subst (λ r. (r ≡ []) ⊎ (IsTrue (is_committed (accepted entries) u) × (r ≡ accesses_in entries u))) (sym same) (are u)
  | inr new ↦ inr (subst (λ v. IsTrue (is_committed (accepted entries) v)) (sym new.0) over, new.1 ∙ (is ∙ ap (accesses_in entries) (sym new.0)))
]

-- rows of the first entries of a legal history are rows of more of them
pub rows_later : (d : DistanceFunction) (h : Schedule) → IsLegal d h → (n m : ℕ) → n ≤ m → (rows : List (List Access)) → AreRowsOf (take n h.entries) rows → AreRowsOf (take m h.entries) rows
rows_later d h legal n m le rows are t = elim (are t) [
  | inl none ↦ inl none
  | inr row ↦ let s = settled_next d h legal n m le t row.0 in inr (s.0, row.1 ∙ sym s.1)
]
