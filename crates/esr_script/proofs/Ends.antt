-- Each end of going over a whole script.
use Rattle.std.proofs.Common.{◌≡◌, ℕ, List, [], ◌⊎◌, inl, inr, refl, sym, ap, subst, Option, Some, false, Result, Ok, Err, OnOk, IfOk, IfErr, arith, IsErrOf}
use Rattle.std.specs.Io.KnownBytes.{Appends, Consumes}
use Rattle.esr_history.specs.Queries.{is_committed_query}
use Rattle.esr_base.specs.Watch.{BeginsWith}
use Rattle.esr_script.specs.declared.fault.RunFault.TheVariants as fault
use Rattle.esr_script.specs.Text.{ScriptState, transaction_called, final, RunFault}
use Rattle.esr_views.specs.declared.query.AuditedQuery.{AuditedQuery}
use Rattle.esr_views.specs.QueryAnswers.{IsAnswered}
use Rattle.esr_script.specs.QueryAnswers.{IsAuditedQuery}
use Rattle.esr_script.specs.Ends.{IsWhole, IsReachedBy, IsWrittenBy}
use Rattle.std.proofs.lemmas.Grind.{common_steps}

module _ (input : List ℕ) (left : Option (List ℕ)) where
  -- a fault means the same for every result that was to be reached, and less if a refusal means less
  pub reached_fault : {T U : Type 0} (P : T → Type 0) (Q : U → Type 0) (M N : Type 0) → (M → N) → (f : RunFault)
      → IsReachedBy P M input left (Err f) → IsReachedBy Q N input left (Err f)
  reached_fault P Q M N less fault.Read h = tt
  reached_fault P Q M N less fault.Write h = absurd h
  reached_fault P Q M N less fault.NoMemory h = tt
  reached_fault P Q M N less fault.LineTooLong h = h
  reached_fault P Q M N less fault.HistoryFull h = h
  reached_fault P Q M N less fault.TooManyLines h = h
  reached_fault P Q M N less fault.NotACommittedQuery h = less h

  -- a value made after a replay
  pub reached_then : {T : Type 0} (P : T → Type 0) (N : Type 0) (r : Result T RunFault) → Consumes (Some input) left input → IsWhole input
      → IfOk r P → IfErr r (λ f. f ≡ fault.NoMemory) → IsReachedBy P N input left r
  reached_then P N (Ok value) read whole ok err = (read, whole, ok)
  reached_then P N (Err f) read whole ok err = rw err tt

  -- a value made from a result
  pub reached_made : {T E : Type 0} (P Q : T → Type 0) (N : Type 0) (made : Result T E) (r : Result T RunFault) → Consumes (Some input) left input → IsWhole input
      → IfOk made P → ((value : T) → P value → Q value) → IfOk r (λ value. made ≡ Ok value) → IfErr r (λ f. f ≡ fault.NoMemory) → IsReachedBy Q N input left r
  reached_made P Q N made (Ok value) read whole holds more ok err = (read, whole, more value (rw ok at holds))
  reached_made P Q N made (Err f) read whole holds more ok err = rw err tt

  -- like `reached`, if the query may also not be a committed one
  pub reached_or_none : {T : Type 0} (P : T → Type 0) (r : Result T RunFault) → Consumes (Some input) left input → IsWhole input
      → IfOk r P → IfErr r (λ f. (f ≡ fault.NoMemory) ⊎ (f ≡ fault.NotACommittedQuery)) → IsReachedBy P (IsWhole input) input left r
  reached_or_none P (Ok value) read whole ok err = (read, whole, ok)
  reached_or_none P (Err f) read whole ok err = elim err [
    | inl m ↦ rw m tt
    | inr q ↦ rw q whole
  ]

  -- nothing was written
  pub written_fault : {T : Type 0} (P : T → Type 0) (Q : List ℕ → Type 0) (N : Type 0) (f : RunFault)
      → IsReachedBy P N input left (Err f) → IsWrittenBy Q N input left (Err f) []
  written_fault P Q N fault.Read h = (tt, refl)
  written_fault P Q N fault.Write h = absurd h
  written_fault P Q N fault.NoMemory h = (tt, refl)
  written_fault P Q N fault.LineTooLong h = (h, refl)
  written_fault P Q N fault.HistoryFull h = (h, refl)
  written_fault P Q N fault.TooManyLines h = (h, refl)
  written_fault P Q N fault.NotACommittedQuery h = (h, refl)

  -- the whole was sent, or a prefix of it
  pub written_sent : (Q : List ℕ → Type 0) (N : Type 0) (text : List ℕ) → Consumes (Some input) left input → IsWhole input → Q text
      → (r : Result (Unit {0}) RunFault) (old new : Option (List ℕ)) (out : List ℕ) → OnOk r ((out ≡ []) × Appends old new text)
      → IfErr r (λ e. (e ≡ fault.Write) × ((sent : List ℕ) × BeginsWith text sent × Appends old new sent))
      → (written : List ℕ) × Appends old new written × IsWrittenBy Q N input left r written
  written_sent Q N text read whole is (Ok u) old new out ok err = (text, ok.1, (read, whole, is))
  written_sent Q N text read whole is (Err e) old new out ok err = grind (arith, common_steps)

-- the audit of a query after a replay
pub audited_after : (input name : List ℕ) (left : Option (List ℕ)) (s : ScriptState) (r : Result AuditedQuery RunFault) → Consumes (Some input) left input → IsWhole input → final input ≡ s
    → IfOk r (IsAnswered s name) → (IsErrOf r fault.NotACommittedQuery → is_committed_query s.history (transaction_called s name).0 ≡ false)
    → IfErr r (λ f. (f ≡ fault.NoMemory) ⊎ (f ≡ fault.NotACommittedQuery)) → IsAuditedQuery input name left r
audited_after input name left s (Ok a) read whole is answered none which = (read, whole, subst (λ (z : ScriptState). IsAnswered z name a) (sym is) answered)
audited_after input name left s (Err f) read whole is answered none which = elim which [
  | inl m ↦ rw m tt
  | inr q ↦ rw q (whole, subst (λ (z : ScriptState). is_committed_query z.history (transaction_called z name).0 ≡ false) (sym is) (none (ap (λ e. Err e) q)))
]
