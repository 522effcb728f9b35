-- The law of certificates: the least cost of each problem has one (the max-flow min-cut theorem of Ford and Fulkerson,
-- 1956, for the networks of problems).
use Rattle.std.specs.Prelude.{◌≡◌, true, None}
use Rattle.esr_cert.specs.Problem.{Problem, in_set, IsSmallestLeastCostSet, is_well_formed}
use Rattle.esr_cert.specs.Certificate.{Certificate, Certifies}

-- For each well-formed problem there is a certificate without a fault and without a count of augmentations, whose set is
-- the smallest of the closed sets of least cost.
abbrev pub EachProblemHasACertificate : Type 0
EachProblemHasACertificate =
    (p : Problem) → is_well_formed p ≡ true
    → (c : Certificate) × Certifies p c × IsSmallestLeastCostSet p (in_set c.set) × (c.augmentations ≡ None)
