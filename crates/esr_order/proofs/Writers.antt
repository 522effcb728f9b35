-- Two transactions that wrote an item are in the conflict order, one way or the other.
use Rattle.std.proofs.Common.{◌≡◌, ℕ, Bool, true, ◌&&◌, ◌⊎◌, List, [], ◌∷◌, sym, ◌∙◌, ap, inl, inr, ⊎_elim, eqb, map}
use Rattle.std.specs.List.{list_any}
use Rattle.std.proofs.lemmas.Bool.{and_from, or_left, or_right, eq-eqb}
use Rattle.esr_history.specs.Machine.{Schedule}
use Rattle.esr_history.specs.Operations.{operations}
use Rattle.esr_history.specs.Serial.{any_ordered_pair, conflict, is_before, values_by}
use Rattle.esr_history.proofs.Membership.{In, any-from_In, filter-some}
use Rattle.esr_history.proofs.LastWriter.{Orders}
use Rattle.esr_history.proofs.Versions.{wrote_by, wrote_parts, conflict_of}
use Rattle.esr_history.proofs.TraceAgreement.{values_trace}

-- of two elements one is ahead of the other
pub pair_total : {X : Type 0} (r s : X → X → Bool) (xs : List X) (a b : X) → In a xs → In b xs → (a ≡ b → ⊥) → r a b ≡ true → s b a ≡ true →
    (any_ordered_pair r xs ≡ true) ⊎ (any_ordered_pair s xs ≡ true)
pair_total r s [] a b ia ib ne rab sba = absurd ia
pair_total r s (z ∷ zs) a b ia ib ne rab sba =
    ⊎_elim
    (λ za. ⊎_elim
    (λ zb. absurd (ne (sym za ∙ zb)))
    (λ jb. inl (or_left (list_any (r z) zs) (any_ordered_pair r zs) (any-from_In (r z) zs b jb (ap (λ w. r w b) za ∙ rab))))
    ib)
    (λ ja. ⊎_elim
    (λ zb. inr (or_left (list_any (s z) zs) (any_ordered_pair s zs) (any-from_In (s z) zs a ja (ap (λ w. s w a) zb ∙ sba))))
    (λ jb. ⊎_elim
    (λ t. inl (or_right (list_any (r z) zs) (any_ordered_pair r zs) t))
    (λ t. inr (or_right (list_any (s z) zs) (any_ordered_pair s zs) t))
    (pair_total r s zs a b ja jb ne rab sba))
    ib)
    ia

pub writers_in_order : (h : Schedule) (x : ℕ) → Orders (is_before h) (values_by h x)
writers_in_order h x u t nu nt ne =
    let a = filter-some (wrote_by x u) (operations h) (λ e. nu (values_trace h x u ∙ ap (map (λ o. o.value)) e)) in
    let b = filter-some (wrote_by x t) (operations h) (λ e. nt (values_trace h x t ∙ ap (map (λ o. o.value)) e)) in
    let pa = wrote_parts x u a.0 a.2 in
    let pb = wrote_parts x t b.0 b.2 in
    let apart : a.0.txn ≡ b.0.txn → ⊥ = λ e. ne (sym pa.2 ∙ (e ∙ pb.2)) in
    pair_total (λ y z. eqb y.txn u && (eqb z.txn t && conflict y z)) (λ y z. eqb y.txn t && (eqb z.txn u && conflict y z)) (operations h) a.0 b.0 a.1 b.1 (λ e. apart (ap (λ o. o.txn) e))
    (and_from (eqb a.0.txn u) (eqb b.0.txn t && conflict a.0 b.0) (eq-eqb a.0.txn u pa.2)
    (and_from (eqb b.0.txn t) (conflict a.0 b.0) (eq-eqb b.0.txn t pb.2) (conflict_of a.0 b.0 apart (pa.1 ∙ sym pb.1) (or_left a.0.writes b.0.writes pa.0))))
    (and_from (eqb b.0.txn t) (eqb a.0.txn u && conflict b.0 a.0) (eq-eqb b.0.txn t pb.2)
    (and_from (eqb a.0.txn u) (conflict b.0 a.0) (eq-eqb a.0.txn u pa.2) (conflict_of b.0 a.0 (λ e. apart (sym e)) (pb.1 ∙ sym pa.1) (or_left b.0.writes a.0.writes pb.0))))
