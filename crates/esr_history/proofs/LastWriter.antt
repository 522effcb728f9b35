-- Two lists of the same updates that both respect the conflict order leave the same value of an item.
use Rattle.std.proofs.Common.{◌≡◌, ℕ, ℤ, Bool, true, false, ◌⊎◌, List, [], ◌∷◌, ◌++◌, refl, sym, ◌∙◌, ap, subst, inl, inr, ⊎_elim, flat_map, arith}
use Rattle.std.proofs.lemmas.Bool.{true≢false, cases_eq}
use Rattle.esr_history.specs.Events.{last_value}
use Rattle.esr_history.proofs.Membership.{In, Pairs, each_at}

pub last_value-append : (v : ℤ) (xs ys : List ℤ) → last_value v (xs ++ ys) ≡ last_value (last_value v xs) ys
last_value-append v [] ys = refl
last_value-append v (x ∷ xs) ys = last_value-append x xs ys

-- the value after some writes does not depend on the value before
pub last_value-some : (xs : List ℤ) (v u : ℤ) → (xs ≡ [] → ⊥) → last_value v xs ≡ last_value u xs
last_value-some [] v u h = absurd (h refl)
last_value-some (x ∷ xs) v u h = refl

pub empty_or_not : {X : Type 0} (xs : List X) → (xs ≡ []) ⊎ (xs ≡ [] → ⊥)
empty_or_not [] = inl refl
empty_or_not (x ∷ xs) = inr (λ e. cc)

-- u is the last of the updates us that writes, so its last write is the value that they leave
pub record LastWriter (before : ℕ → ℕ → Bool) (w : ℕ → List ℤ) (us : List ℕ) (v : ℤ) (u : ℕ) : Type 0 where
  pub is_in : In u us
  pub writes : w u ≡ [] → ⊥
  pub leaves : last_value v (flat_map w us) ≡ last_value v (w u)
  pub last : (t : ℕ) → In t us → (w t ≡ [] → ⊥) → (t ≡ u) ⊎ (before u t ≡ false)

pub record NoWriter (w : ℕ → List ℤ) (us : List ℕ) (v : ℤ) : Type 0 where
  pub none : (t : ℕ) → In t us → w t ≡ []
  pub leaves : last_value v (flat_map w us) ≡ v

pub last_writer : (before : ℕ → ℕ → Bool) (w : ℕ → List ℤ) (us : List ℕ) (v : ℤ) → Pairs (λ a b. before b a ≡ false) us →
    NoWriter w us v ⊎ ((u : ℕ) × LastWriter before w us v u)
last_writer before w [] v p = inl (record { none = λ t h. absurd h; leaves = refl })
last_writer before w (a ∷ ps) v p =
    ⊎_elim
    (λ none. ⊎_elim
    (λ e. inl (record {
      none = λ t h. ⊎_elim (λ q. ap w (sym q) ∙ e) (λ i. none.none t i) h;
      leaves = split ∙ (none.leaves ∙ ap (last_value v) e);
    }))
    (λ ne. inr (
      a,
      record {
        is_in = inl refl;
        writes = ne;
        leaves = split ∙ none.leaves;
        last = λ t h nt. ⊎_elim (λ q. inl (sym q)) (λ i. absurd (nt (none.none t i))) h;
      },
    ))
    (empty_or_not (w a)))
    (λ r. inr (
      r.0,
      record {
        is_in = inr r.1.is_in;
        writes = r.1.writes;
        leaves = split ∙ (r.1.leaves ∙ last_value-some (w r.0) (last_value v (w a)) v r.1.writes);
        last = λ t h nt. ⊎_elim
            (λ q. inr (subst (λ z. before r.0 z ≡ false) q (each_at (λ b. before b a ≡ false) ps r.0 p.0 r.1.is_in)))
            (λ i. r.1.last t i nt) h;
      },
    ))
    (last_writer before w ps (last_value v (w a)) p.1)
  where
    split : last_value v (w a ++ flat_map w ps) ≡ last_value (last_value v (w a)) (flat_map w ps)
    split = last_value-append v (w a) (flat_map w ps)

-- two writers are in the conflict order, one way or the other
abbrev pub Orders : (ℕ → ℕ → Bool) → (ℕ → List ℤ) → Type 0
Orders before w = (u t : ℕ) → (w u ≡ [] → ⊥) → (w t ≡ [] → ⊥) → (u ≡ t → ⊥) → (before u t ≡ true) ⊎ (before t u ≡ true)

pub same_left : (before : ℕ → ℕ → Bool) (w : ℕ → List ℤ) (ps qs : List ℕ) (v : ℤ) →
    Orders before w → Pairs (λ a b. before b a ≡ false) ps → Pairs (λ a b. before b a ≡ false) qs →
    ((u : ℕ) → In u ps → In u qs) → ((u : ℕ) → In u qs → In u ps) →
    last_value v (flat_map w ps) ≡ last_value v (flat_map w qs)
same_left before w ps qs v orders pa pb to from =
    ⊎_elim
    (λ na. ⊎_elim
    (λ nb. na.leaves ∙ sym nb.leaves)
    (λ b. absurd (b.1.writes (na.none b.0 (from b.0 b.1.is_in))))
    (last_writer before w qs v pb))
    (λ a. ⊎_elim
    (λ nb. absurd (a.1.writes (nb.none a.0 (to a.0 a.1.is_in))))
    (λ b. a.1.leaves ∙ (ap (λ u. last_value v (w u)) (one a.0 b.0 a.1 b.1) ∙ sym b.1.leaves))
    (last_writer before w qs v pb))
    (last_writer before w ps v pa)
  where
    one : (x y : ℕ) → LastWriter before w ps v x → LastWriter before w qs v y → x ≡ y
    one x y a b = grind (arith, ⊎_elim, true≢false, cases_eq x y)
