-- The reads of a query, compared with the values that updates leave.
use Rattle.std.proofs.Common.{◌≡◌, ℕ, ℤ, ◌+◌, ◌<◌, not, ◌&&◌, eqb, cond, if◌then◌else◌, List, [], ◌∷◌, ◌++◌, length, get_or, take, map, filter, flat_map, refl, ◌∙◌, ap, arith, append-nil}
use Rattle.std.specs.List.{AllByRecursion}
use Rattle.std.proofs.lemmas.Grind.{flat_map-append}
use Rattle.std.proofs.lemmas.List.{take_more}
use Rattle.esr_base.specs.declared.numbers.ItemId.{ItemId}
use Rattle.esr_history.specs.Machine.{Schedule}
use Rattle.esr_history.specs.Operations.{Operation, operations}
use Rattle.esr_history.specs.Queries.{reads_by}
use Rattle.esr_order.specs.declared.accesses.Access.{Access}
use Rattle.esr_order.specs.Scans.{accesses_in}
use Rattle.esr_outcomes.proofs.Accessed.{IsInside, accesses_by, by}
use Rattle.esr_explain.specs.declared.reads.ComparedRead.{ComparedRead}
use Rattle.esr_explain.specs.Explain.{compared_access}

-- the reads among the accesses of q are its reads
reads_of : (q : ℕ) (f : ItemId → ℤ → ComparedRead) (os : List Operation)
    → flat_map (λ (a : Access). if a.writes then [] else f a.item a.value ∷ []) (accesses_by q os)
    ≡ map (λ (o : Operation). f (record { 0 = o.item }) o.value) (filter (λ (o : Operation). not o.writes && (eqb o.txn q)) os)
reads_of q f [] = refl
reads_of q f (o ∷ os) = grind (arith, eqb, reads_of q f os, filter, flat_map, map, cond, filter (by q) os)

pub reads_are_within : (h : Schedule) (q : ℕ) (f : ItemId → ℤ → ComparedRead)
    → flat_map (λ (a : Access). if a.writes then [] else f a.item a.value ∷ []) (accesses_in h.entries q)
    ≡ map (λ (o : Operation). f (record { 0 = o.item }) o.value) (reads_by h q)
reads_are_within h q f = reads_of q f (operations h)

-- the reads of one access more
pub reads_more : (f : Access → List ComparedRead) (xs : List Access) (k : ℕ) (d : Access) → k < length xs → flat_map f (take (k + 1) xs) ≡ flat_map f (take k xs) ++ f (get_or xs k d)
reads_more f xs k d l =
    ap (flat_map f) (take_more xs k d l) ∙ (flat_map-append f (take k xs) (get_or xs k d ∷ []) ∙ ap (λ l. flat_map f (take k xs) ++ l) (append-nil (f (get_or xs k d))))

-- the reads among accesses to some items, with values that agree there
pub reads_agree : (D : ℕ → ℤ → ℤ → ℕ) (v w : ℕ → ℤ) (n : ℕ) → ((x : ℕ) → x < n → v x ≡ w x)
    → (xs : List Access) → AllByRecursion (λ (a : Access). IsInside n a.item.0 a.value) xs → flat_map (compared_access D v) xs ≡ flat_map (compared_access D w) xs
reads_agree D v w n same [] all = refl
reads_agree D v w n same (a ∷ xs) all =
    grind (arith, flat_map (compared_access D v) xs, reads_agree D v w n same xs all.1)
