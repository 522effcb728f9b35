-- Each end of a run whose text is dropped, and the certificate made after it.
use Rattle.std.proofs.Common.{◌≡◌, ◌≢◌, ℕ, ◌+◌, ◌<◌, ◌≤◌, List, ◌++◌, inl, inr, Bool, true, false, length, take, drop, refl, sym, ◌∙◌, ap, arith, Option, Result, Ok, Err, filter_map, slice_get}
use Rattle.std.specs.Io.KnownBytes.{IsAtEnd}
use Rattle.esr_history.specs.Machine.{Schedule}
use Rattle.esr_bundle.specs.Bundle.{bundle}
use Rattle.esr_script.specs.declared.fault.RunFault.TheVariants as fault
use Rattle.esr_grammar.specs.declared.next.Next.TheVariants as next
use Rattle.esr_grammar.specs.declared.limits.TheConstants.{MAX_LINES, MAX_LINE_BYTES}
use Rattle.esr_script.specs.Text.{ScriptState, transaction_called, Outcome, answer, RunFault}
use Rattle.esr_cert.specs.Views.{certificate_of}
use Rattle.esr_audit.specs.declared.finding.Finding.{Finding}
use Rattle.esr_audit.proofs.SameSet.{same_set}
use Rattle.esr_views.specs.declared.query.AuditedQuery.{AuditedQuery}
use Rattle.esr_views.specs.QueryAnswers.{IsFound, IsAnswered}
use Rattle.esr_script.specs.Certify.{IsBundleLine}
use Rattle.esr_script.specs.Ends.{EndsBy}
use Rattle.esr_script.specs.Replays.{IsReplay, IsLineOf}
use Rattle.esr_grammar.specs.Lines.{line_len, IsNext}
use Rattle.esr_script.specs.Parts.{InputProgress, IsAnswer}
use Rattle.esr_script.proofs.Steps.{all_read, step_line, at_long, at_too_many, at_last, at_fault_line, at_fault_last, state_at_last}

abbrev fault_of : Outcome → Option RunFault
fault_of o = o.fault

module _ (input : List ℕ) (left : Option (List ℕ)) (bytes : List ℕ) (n : ℕ) (s : ScriptState) (w : List ℕ) (here : InputProgress input left bytes n s w) where
  pub replay_many : n ≡ MAX_LINES → 0 < length bytes → EndsBy input fault.TooManyLines
  replay_many many some = ap fault_of (at_too_many input left bytes n s w here many some)

  pub replay_long : n ≢ MAX_LINES → MAX_LINE_BYTES < line_len bytes → EndsBy input fault.LineTooLong
  replay_long count_within_max long = ap fault_of (at_long input left bytes n s w here count_within_max long)

  pub replay_full : (k : ℕ) → n ≢ MAX_LINES → IsNext (next.Line k) bytes → answer s (take k bytes) ≡ Err fault.HistoryFull → EndsBy input fault.HistoryFull
  replay_full k count_within_max is full =
      ap fault_of (at_fault_line input left bytes n s w here fault.HistoryFull count_within_max (omega (arith, is.0, is.1)) (omega (arith, is.0, is.2)) (ap (λ j. answer s (take j bytes)) (sym is.0) ∙ full))

  pub replay_more : (k : ℕ) (s' : ScriptState) (t : List ℕ) → n ≢ MAX_LINES → IsNext (next.Line k) bytes → answer s (take k bytes) ≡ Ok (s', t)
      → InputProgress input left (drop (k + 1) bytes) (n + 1) s' (w ++ t)
  replay_more k s' t count_within_max is ok = grind (arith, step_line)

  pub replay_ended : IsAtEnd left → line_len bytes ≡ length bytes → length bytes ≤ MAX_LINE_BYTES → 0 < length bytes → n ≢ MAX_LINES
      → (taken : Option (List ℕ)) (r : Result (Unit {0}) RunFault) (s' : ScriptState) (out grown : List ℕ) → IsAnswer taken (answer s bytes) s' out grown r → IsReplay input left r s'
  replay_ended end plain short some count_within_max taken (Ok done) s' out grown a =
      (all_read input left bytes n s w here end, ap fault_of (at_last input left bytes n s w here end plain some short count_within_max s' a.ok.0 a.ok.2), state_at_last input left bytes n s w here end plain some s' a.ok.0 a.ok.2)
  replay_ended end plain short some count_within_max taken (Err e) s' out grown a = elim a.faults [
    | inl m ↦ rw m tt
    | inr h ↦ rw h.0 (ap fault_of (at_fault_last input left bytes n s w here end plain some short count_within_max fault.HistoryFull h.1))
  ]

-- ---- the certificate

-- another certificate of the problem with its smallest closed set of least cost has the set of the finding
bundled : (steps : Bool) (h : Schedule) (q : ℕ) (f : Finding) → IsFound h q f.problem (certificate_of f.certificate) → (line : List ℕ) → IsLineOf steps f line → IsBundleLine steps h q line
bundled false h q f found line is =
    let c = certificate_of f.certificate in
    (bundle f.problem c, record { problem = f.problem; certificate = c; is_problem = found.is_problem; relevant = found.relevant; certified = found.certified; set_is = found.set_is; reported = found.without_count; text_is = refl }, is)
bundled true h q f found line (c, certified, smallest, counted, is) =
    let same : c.set ≡ (certificate_of f.certificate).set = same_set f.problem c (certificate_of f.certificate) certified found.certified smallest found.smallest in
    (bundle f.problem c, record { problem = f.problem; certificate = c; is_problem = found.is_problem; relevant = found.relevant; certified = certified; set_is = ap (filter_map (slice_get f.problem.updates)) same ∙ found.set_is; reported = counted; text_is = refl }, is)

-- the bundle of the audited query, with a line feed
pub bundle_rendered : (steps : Bool) (s : ScriptState) (name : List ℕ) (a : AuditedQuery) → IsAnswered s name a → (line : List ℕ)
    → IsLineOf steps a.finding line → IsBundleLine steps s.history (transaction_called s name).0 line
bundle_rendered steps s name a h line is = bundled steps s.history (transaction_called s name).0 a.finding h.finding.found line is
