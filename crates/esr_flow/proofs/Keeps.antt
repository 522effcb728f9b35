-- Cuts that residual steps do not leave.
use Rattle.std.proofs.Common.{◌≡◌, ℕ, ◌+◌, ◌-◌, ◌<◌, ◌≤◌, Bool, true, false, not, ◌&&◌, ◌⊎◌, List, [], ◌∷◌, length, Option, Some, None, refl, sym, ◌∙◌, subst, inl, inr, arith, le-leb, leb-true, true≢false}
use Rattle.std.proofs.lemmas.Bool.{cases_Bool}
use Rattle.esr_cert.specs.Network.{arc_at, Network, IsNetwork}
use Rattle.esr_cert.specs.Flow.{within, amount_at, carried, IsFlow, worth}
use Rattle.esr_cert.specs.Cut.{leaves, enters, finite_capacity_or_zero, cut_capacity, IsFinite, HasFiniteCapacity}
use Rattle.esr_cert.proofs.Cut.{cut, carried_at_most, carried_full, full_from, nothing_back, nothing_from}
use Rattle.esr_flow.specs.Types.{ResidualArc, Forward, Backward}
use Rattle.esr_flow.specs.Residual.{left_of, finish, IsResidual, IsPath}
use Rattle.esr_cert.specs.ResidualArcs.{start}

-- a set that residual steps do not leave
abbrev pub Keeps : Network → List ℕ → (ℕ → Bool) → Type 0
Keeps net flow has = (s : ResidualArc) → IsResidual net.arcs flow s → has (start net.arcs s) ≡ true → has (finish net.arcs s) ≡ true

both_of : (b c : Bool) → (b && not c) ≡ true → (b ≡ true) × (c ≡ false)
both_of true false h = (refl, refl)
both_of true true h = cc
both_of false c h = cc

back_of : (b c : Bool) → (not b && c) ≡ true → (b ≡ false) × (c ≡ true)
back_of false true h = (refl, refl)
back_of false false h = cc
back_of true c h = cc

no_capacity_full : (o : Option ℕ) (x : ℕ) → within x o ≡ true → (within 1 (left_of o x) ≡ true → ⊥) → (IsFinite o) × (x ≡ finite_capacity_or_zero o)
no_capacity_full None x w h = absurd (h refl)
no_capacity_full (Some c) x w h =
    let small : (1 ≤ c - x) → ⊥ = λ l. h (le-leb 1 (c - x) l) in
    let le : x ≤ c = leb-true x c w in
    let split : (x ≡ c) ⊎ (1 ≤ c - x) = grind arith in
    elim split [ inl e ↦ (tt, e) | inr l ↦ absurd (small l) ]

module _ (net : Network) (ok : IsNetwork net) (flow : List ℕ) (f : IsFlow net flow) (has : ℕ → Bool) where
  -- an arc that leaves a set which residual steps do not leave is limited and full
  keeps_full : Keeps net flow has → (i : ℕ) → i < length net.arcs → leaves has (arc_at net.arcs i) ≡ true → (IsFinite (arc_at net.arcs i).capacity) × (amount_at flow i ≡ finite_capacity_or_zero (arc_at net.arcs i).capacity)
  keeps_full keeps i l c =
      let ends : (has (arc_at net.arcs i).from ≡ true) × (has (arc_at net.arcs i).to ≡ false) = both_of (has (arc_at net.arcs i).from) (has (arc_at net.arcs i).to) c in
      no_capacity_full (arc_at net.arcs i).capacity (amount_at flow i) (f.within_capacity i l)
      (λ r. true≢false (sym (keeps (Forward i) (l, r) ends.0) ∙ ends.1))

  keeps_empty : Keeps net flow has → (i : ℕ) → i < length net.arcs → enters has (arc_at net.arcs i) ≡ true → amount_at flow i ≡ 0
  keeps_empty keeps i l c =
      let ends : (has (arc_at net.arcs i).from ≡ false) × (has (arc_at net.arcs i).to ≡ true) = back_of (has (arc_at net.arcs i).from) (has (arc_at net.arcs i).to) c in
      let none : 1 ≤ amount_at flow i → ⊥ = λ m. true≢false (sym (keeps (Backward i) (l, le-leb 1 (amount_at flow i) m) ends.1) ∙ ends.0) in
      let split : (amount_at flow i ≡ 0) ⊎ (1 ≤ amount_at flow i) = grind arith in
      elim split [ inl e ↦ e | inr m ↦ absurd (none m) ]

  -- the worth is the capacity of such a cut
  pub strong : has net.source ≡ true → has net.sink ≡ false → Keeps net flow has → worth net flow ≡ cut_capacity has net.arcs
  strong at_source at_sink keeps =
      omega (
        arith,
        cut net ok flow f has at_source at_sink,
        carried_full has net.arcs flow f.same_length (λ i l c. (keeps_full keeps i l c).1),
        nothing_back has net.arcs flow (keeps_empty keeps),
      )

  full_no_capacity : (o : Option ℕ) (x : ℕ) → IsFinite o → x ≡ finite_capacity_or_zero o → within 1 (left_of o x) ≡ true → ⊥
  full_no_capacity None x l e w = absurd l
  full_no_capacity (Some c) x l e w = let k : 1 ≤ c - x = leb-true 1 (c - x) w in omega arith

  -- residual steps do not leave a cut of that capacity
  pub keeps_from : has net.source ≡ true → has net.sink ≡ false → HasFiniteCapacity has net.arcs → cut_capacity has net.arcs ≤ worth net flow → Keeps net flow has
  keeps_from at_source at_sink limited least s res h =
      let whole : worth net flow + carried (enters has) net.arcs flow ≡ carried (leaves has) net.arcs flow = cut net ok flow f has at_source at_sink in
      let upper_bound : carried (leaves has) net.arcs flow ≤ cut_capacity has net.arcs = carried_at_most has net.arcs flow f.within_capacity limited in
      let full : (i : ℕ) → i < length net.arcs → leaves has (arc_at net.arcs i) ≡ true → amount_at flow i ≡ finite_capacity_or_zero (arc_at net.arcs i).capacity = full_from has net.arcs flow f.same_length f.within_capacity limited (omega arith) in
      let none : (i : ℕ) → i < length net.arcs → enters has (arc_at net.arcs i) ≡ true → amount_at flow i ≡ 0 = nothing_from has net.arcs flow f.same_length (omega arith) in
      stays full none s res h
    where
      crossing : (b c : Bool) → b ≡ true → c ≡ false → (b && not c) ≡ true
      crossing true false e g = refl
      crossing true true e g = cc
      crossing false c e g = cc

      returning : (b c : Bool) → b ≡ false → c ≡ true → (not b && c) ≡ true
      returning false true e g = refl
      returning false false e g = cc
      returning true c e g = cc

      stays : ((i : ℕ) → i < length net.arcs → leaves has (arc_at net.arcs i) ≡ true → amount_at flow i ≡ finite_capacity_or_zero (arc_at net.arcs i).capacity) → ((i : ℕ) → i < length net.arcs → enters has (arc_at net.arcs i) ≡ true → amount_at flow i ≡ 0) → (s : ResidualArc) → IsResidual net.arcs flow s → has (start net.arcs s) ≡ true → has (finish net.arcs s) ≡ true
      stays full none (Forward i) res h =
          elim (cases_Bool (has (arc_at net.arcs i).to)) [
            | inl e ↦ e
            | inr e ↦
                let c : leaves has (arc_at net.arcs i) ≡ true = crossing (has (arc_at net.arcs i).from) (has (arc_at net.arcs i).to) h e in
                absurd (full_no_capacity (arc_at net.arcs i).capacity (amount_at flow i) (limited i res.0 c) (full i res.0 c) res.1)
          ]
      stays full none (Backward i) res h =
          elim (cases_Bool (has (arc_at net.arcs i).from)) [
            | inl e ↦ e
            | inr e ↦
                let c : enters has (arc_at net.arcs i) ≡ true = returning (has (arc_at net.arcs i).from) (has (arc_at net.arcs i).to) e h in
                let z : amount_at flow i ≡ 0 = none i res.0 c in
                let m : 1 ≤ amount_at flow i = leb-true 1 (amount_at flow i) res.1 in
                absurd (omega arith)
          ]

  -- a path from a member ends at a member
  pub keeps_path : Keeps net flow has → (path : List ResidualArc) (a b : ℕ) → IsPath net.arcs flow a path b → has a ≡ true → has b ≡ true
  keeps_path keeps [] a b h t = subst (λ n. has n ≡ true) h t
  keeps_path keeps (s ∷ path) a b h t =
      keeps_path keeps path (finish net.arcs s) b h.2 (keeps s h.1 (subst (λ n. has n ≡ true) (sym h.0) t))
