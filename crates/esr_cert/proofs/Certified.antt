-- The consequences of a certificate without a fault.
use Rattle.std.proofs.Common.{◌≡◌, ℕ, ◌≤◌, Bool, true, false, not, ◌&&◌, cond, eqb, length, Option, Some, None, refl, arith}
use Rattle.std.proofs.lemmas.Bool.{and_parts, eqb-true}
use Rattle.esr_cert.specs.Problem.{Problem, in_set, is_strictly_ascending, is_closed, cost, is_well_formed}
use Rattle.esr_cert.specs.Network.{network}
use Rattle.esr_cert.specs.Flow.{are_within, is_conserved, worth, IsFlow}
use Rattle.esr_cert.specs.Certificate.{Certificate, amounts, is_set_in_range, are_rows_matched, is_within, worth_matches, is_count_in_bound, Certifies}
use Rattle.esr_cert.specs.Faults.{Fault}
use Rattle.esr_cert.proofs.Flows.{flow_facts}
use Rattle.esr_cert.proofs.Sound.{facts}
use Rattle.esr_cert.proofs.Matched.{IsMatched}
use Rattle.esr_cert.proofs.Least.{worth_le_cost}

pub record IsWithin (p : Problem) (c : Certificate) : Type 0 where
  pub rows : are_rows_matched p.chains c.chain_flow ≡ true
  pub backs : length c.back_flow ≡ length p.before
  pub musts : length c.must_flow ≡ length p.must
  pub amounts : are_within (network p).arcs (amounts c) ≡ true

pub within_facts : (p : Problem) (c : Certificate) → is_within p c ≡ true → IsWithin p c
within_facts p c h =
    let a : ((are_rows_matched p.chains c.chain_flow && eqb (length c.back_flow) (length p.before) && eqb (length c.must_flow) (length p.must)) ≡ true) × (are_within (network p).arcs (amounts c) ≡ true) = and_parts _ _ h in
    let b : ((are_rows_matched p.chains c.chain_flow && eqb (length c.back_flow) (length p.before)) ≡ true) × (eqb (length c.must_flow) (length p.must) ≡ true) = and_parts _ _ a.0 in
    let d : (are_rows_matched p.chains c.chain_flow ≡ true) × (eqb (length c.back_flow) (length p.before) ≡ true) = and_parts _ _ b.0 in
    record { rows = d.0; backs = eqb-true _ _ d.1; musts = eqb-true _ _ b.1; amounts = a.1 }

pub matched : (p : Problem) (c : Certificate) → is_within p c ≡ true → IsMatched p c
matched p c h = let w : IsWithin p c = within_facts p c h in record { rows = w.rows; backs = w.backs; musts = w.musts }

pub record IsFaultless (p : Problem) (c : Certificate) : Type 0 where
  pub ascending : is_strictly_ascending c.set ≡ true
  pub in_range : is_set_in_range p c.set ≡ true
  pub closed : is_closed p (in_set c.set) ≡ true
  pub within : is_within p c ≡ true
  pub conserved : is_conserved (network p) (amounts c) ≡ true
  pub tight : worth_matches p c ≡ true
  pub short : is_count_in_bound p c.augmentations ≡ true

unless : (b : Bool) (f : Fault) (o : Option Fault) → cond (not b) (Some f) o ≡ None → (b ≡ true) × (o ≡ None)
unless true f o h = (refl, h)
unless false f o h = cc

pub faultless : (p : Problem) (c : Certificate) → Certifies p c → IsFaultless p c
faultless p c h =
    let a = unless (is_strictly_ascending c.set) _ _ h in
    let b = unless (is_set_in_range p c.set) _ _ a.1 in
    let d = unless (is_closed p (in_set c.set)) _ _ b.1 in
    let e = unless (is_within p c) _ _ d.1 in
    let f = unless (is_conserved (network p) (amounts c)) _ _ e.1 in
    let g = unless (worth_matches p c) _ _ f.1 in
    let i = unless (is_count_in_bound p c.augmentations) _ _ g.1 in
    record { ascending = a.0; in_range = b.0; closed = d.0; within = e.0; conserved = f.0; tight = g.0; short = i.0 }

pub certifies_from : (p : Problem) (c : Certificate) → IsFaultless p c → Certifies p c
certifies_from p c f = rw (f.ascending, f.in_range, f.closed, f.within, f.conserved, f.tight, f.short) refl

pub flow_of : (p : Problem) (c : Certificate) → IsFaultless p c → IsFlow (network p) (amounts c)
flow_of p c f = flow_facts (network p) (amounts c) (within_facts p c f.within).amounts f.conserved

pub worth_is : (p : Problem) (c : Certificate) → IsFaultless p c → c.worth ≡ worth (network p) (amounts c)
worth_is p c f = eqb-true _ _ (and_parts _ _ f.tight).0

-- the certificate's set costs its worth
pub cost_is : (p : Problem) (c : Certificate) → IsFaultless p c → c.worth ≡ cost p (in_set c.set)
cost_is p c f = eqb-true _ _ (and_parts _ _ f.tight).1

-- and no closed set costs less
pub worth_least : (p : Problem) (c : Certificate) → is_well_formed p ≡ true → Certifies p c → (has : ℕ → Bool) → is_closed p has ≡ true → c.worth ≤ cost p has
worth_least p c sound h has closed =
    let f : IsFaultless p c = faultless p c h in
    omega (arith, worth_is p c f, worth_le_cost p (facts p sound) has (amounts c) (flow_of p c f) closed)
