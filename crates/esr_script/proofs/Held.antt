-- Each end of a run, with the output that is not yet sent.
use Rattle.std.proofs.Common.{◌≡◌, ◌≢◌, ℕ, ◌<◌, ◌≤◌, List, [], ◌∷◌, ◌++◌, Bool, true, false, length, take, inl, inr, refl, sym, ◌∙◌, ap, subst, arith, Option, Some, None, Result, Ok, Err, append_assoc, append-nil, ◌==◌, eq-eqb, IsErrOf, ◌||◌}
use Rattle.std.specs.Io.KnownBytes.{IsAtEnd, Consumes, Keeps}
use Rattle.esr_base.specs.Watch.{BeginsWith}
use Rattle.esr_script.specs.declared.fault.RunFault.TheVariants as fault
use Rattle.esr_grammar.specs.declared.next.Next.{Next}
use Rattle.esr_grammar.specs.declared.next.Next.TheVariants as next
use Rattle.esr_grammar.specs.declared.limits.TheConstants.{MAX_LINES, MAX_LINE_BYTES}
use Rattle.esr_script.specs.Text.{ScriptState, Executes, EndsIn, answer, outcome, RunFault}
use Rattle.esr_script.specs.Run.{IsRunBy}
use Rattle.esr_grammar.specs.Lines.{line_len, IsNext}
use Rattle.esr_script.specs.Parts.{InputProgress, IsAnswer, IsHeldRun, IsUnread, is_read_fault, is_write_fault, without_outcome}
use Rattle.esr_grammar.proofs.Prefix.{line_len-le}
use Rattle.esr_script.proofs.Steps.{advance, all_read, text_begins, at_memory, at_long, at_too_many, at_fault_line, at_last, at_fault_last, at_read}
use Rattle.std.proofs.lemmas.Grind.{common_steps}

-- there are buffered bytes if no more need be read
pub has_bytes : (found : Next) (bytes : List ℕ) → IsNext found bytes → (found ≡ next.More → ⊥) → 0 < length bytes
has_bytes (next.Line n) bytes h other = omega (arith, h.1)
has_bytes next.TooLong bytes h other = omega (arith, h, line_len-le bytes)
has_bytes next.More bytes h other = absurd (other refl)

-- if all output was sent
pub all_sent : {input : List ℕ} {left : Option (List ℕ)} {bytes : List ℕ} {n : ℕ} {s : ScriptState} (w : List ℕ) → InputProgress input left bytes n s w → InputProgress input left bytes n s (w ++ [])
all_sent w here = rw append-nil here

-- if the output has grown, and some of it is sent
pub all_grown : {input : List ℕ} {left : Option (List ℕ)} {bytes : List ℕ} {n : ℕ} {s : ScriptState} (sent out t gone grown : List ℕ) → out ++ t ≡ gone ++ grown
    → InputProgress input left bytes n s ((sent ++ out) ++ t) → InputProgress input left bytes n s ((sent ++ gone) ++ grown)
all_grown sent out t gone grown grew here = rw (append_assoc sent out t ∙ ap (λ w. sent ++ w) grew ∙ sym (append_assoc sent gone grown)) at here

-- if some of the output is sent
pub some_gone : {input : List ℕ} {left : Option (List ℕ)} {bytes : List ℕ} {n : ℕ} {s : ScriptState} (sent out gone rest : List ℕ) → out ≡ gone ++ rest
    → InputProgress input left bytes n s (sent ++ out) → InputProgress input left bytes n s ((sent ++ gone) ++ rest)
some_gone sent out gone rest is here = rw (ap (λ w. sent ++ w) is ∙ sym (append_assoc sent gone rest)) at here

-- ---- what counts as taken

pub nothing_gone : (taken : Option (List ℕ)) → IsUnread taken []
nothing_gone None = tt
nothing_gone (Some x) = sym (append-nil x)

any_gone : (taken : Option (List ℕ)) (gone : List ℕ) → taken ≡ None → IsUnread taken gone
any_gone None gone none = tt
any_gone (Some x) gone none = cc

pub held_same : (taken : Option (List ℕ)) (input : List ℕ) (left : Option (List ℕ)) (out : List ℕ) (r : Result (Unit {0}) RunFault) (sent : List ℕ) → IsHeldRun input left out r sent
    → (gone : List ℕ) × IsUnread taken gone × IsHeldRun input left out r (sent ++ gone)
held_same taken input left out r sent held = ([], nothing_gone taken, subst (λ w. IsHeldRun input left out r w) (sym (append-nil sent)) held)

-- a line whose reply is complete
pub answered_in_full : {T : Type 0} (taken : Option (List ℕ)) (due : Result (ScriptState × List ℕ) RunFault) (new : ScriptState) (out grown : List ℕ) (r : Result T RunFault)
    → Executes due new out grown r → IsAnswer taken due new out grown (without_outcome r)
answered_in_full taken due new out grown (Ok done) h = record { ok = (h.ok.0, [], h.ok.1, sym h.ok.2, nothing_gone taken); err = tt; faults = tt }
answered_in_full taken due new out grown (Err e) h = record { ok = tt; err = ([], sym h.err, nothing_gone taken); faults = h.faults }

-- one of which all text is gone
pub answered_unread : {T : Type 0} (taken : Option (List ℕ)) (due : Result (ScriptState × List ℕ) RunFault) (new : ScriptState) (out rest : List ℕ) (r : Result T RunFault)
    → taken ≡ None → EndsIn due new r → rest ≡ [] → IsAnswer taken due new out rest (without_outcome r)
answered_unread taken due new out rest (Ok done) none h empty = record {
  ok = (h.ok.0, out ++ h.ok.0, h.ok.1, rw empty (sym (append-nil (out ++ h.ok.0))), any_gone taken (out ++ h.ok.0) none);
  err = tt;
  faults = tt;
}
answered_unread taken due new out rest (Err e) none h empty = record { ok = tt; err = (out, rw empty (sym (append-nil out)), any_gone taken out none); faults = h.faults }

nothing_read : (before after : Option (List ℕ)) → Keeps before after → Consumes before after []
nothing_read None after h = tt
nothing_read (Some x) None h = absurd h
nothing_read (Some x) (Some y) h = sym h

-- if a read returned no bytes
pub unread : (input : List ℕ) (before after : Option (List ℕ)) (bytes same : List ℕ) (n : ℕ) (s : ScriptState) (w : List ℕ) → InputProgress input before bytes n s w → same ≡ bytes → Keeps before after
    → InputProgress input after same n s w
unread input before after bytes same n s w here is kept = advance input n s w before after bytes same [] here (is ∙ sym (append-nil bytes)) (nothing_read before after kept)

pub is_some : (bytes seen : List ℕ) (empty : Bool) → empty ≡ (length seen == 0) → empty ≡ false → seen ≡ bytes → 0 < length bytes
is_some [] seen empty is not_empty same = grind (arith, eq-eqb)
is_some (b ∷ bs) seen empty is not_empty same = omega arith

module _ (input : List ℕ) (left : Option (List ℕ)) (bytes : List ℕ) (n : ℕ) (s : ScriptState) (sent out : List ℕ) (here : InputProgress input left bytes n s (sent ++ out)) where
  text : BeginsWith (outcome input).text (sent ++ out)
  text = text_begins input left bytes n s (sent ++ out) here

  pub held_read : line_len bytes ≡ length bytes → IsHeldRun input left out (Err fault.Read) sent
  held_read plain = (text, at_read input left bytes n s (sent ++ out) here plain)

  pub held_memory : (other : Option (List ℕ)) → IsHeldRun input other out (Err fault.NoMemory) sent
  held_memory other = (text, at_memory input left bytes n s (sent ++ out) here)

  pub held_long : n ≢ MAX_LINES → MAX_LINE_BYTES < line_len bytes → IsHeldRun input left out (Err fault.LineTooLong) sent
  held_long count_within_max is = (text, at_long input left bytes n s (sent ++ out) here count_within_max is)

  pub held_many : n ≡ MAX_LINES → 0 < length bytes → IsHeldRun input left out (Err fault.TooManyLines) sent
  held_many many some = (text, at_too_many input left bytes n s (sent ++ out) here many some)

  pub held_full : (k : ℕ) → n ≢ MAX_LINES → IsNext (next.Line k) bytes → answer s (take k bytes) ≡ Err fault.HistoryFull → IsHeldRun input left out (Err fault.HistoryFull) sent
  held_full k count_within_max is full = (
    text,
    at_fault_line input left bytes n s (sent ++ out) here fault.HistoryFull count_within_max (omega (arith, is.0, is.1)) (omega (arith, is.0, is.2))
        (ap (λ j. answer s (take j bytes)) (sym is.0) ∙ full),
  )

  -- a part of the output was sent
  pub held_write : (part : List ℕ) → BeginsWith out part → (other : Option (List ℕ)) (lost : List ℕ) → IsHeldRun input other lost (Err fault.Write) (sent ++ part)
  held_write part begins other lost =
      (begins.0 ++ text.0, text.1 ∙ ap (λ o. (sent ++ o) ++ text.0) begins.1 ∙ simp append_assoc)

  -- at the end of the input
  module _ (end : IsAtEnd left) (plain : line_len bytes ≡ length bytes) (short : length bytes ≤ MAX_LINE_BYTES) where
    pub held_line_last : 0 < length bytes → n ≢ MAX_LINES → (s' : ScriptState) (t gone grown : List ℕ) → answer s bytes ≡ Ok (s', t) → out ++ t ≡ gone ++ grown
        → IsHeldRun input left grown (Ok tt) (sent ++ gone)
    held_line_last some count_within_max s' t gone grown is grew =
        let all = at_last input left bytes n s (sent ++ out) here end plain some short count_within_max s' t is in
        let same : (sent ++ out) ++ t ≡ (sent ++ gone) ++ grown = append_assoc sent out t ∙ ap (λ l. sent ++ l) grew ∙ sym (append_assoc sent gone grown) in
        let finished = rw same at all in
        (([], ap (λ o. o.text) finished ∙ sym (append-nil ((sent ++ gone) ++ grown))), (all_read input left bytes n s (sent ++ out) here end, finished))

    pub held_full_last : 0 < length bytes → n ≢ MAX_LINES → answer s bytes ≡ Err fault.HistoryFull → IsHeldRun input left out (Err fault.HistoryFull) sent
    held_full_last some count_within_max full = (text, at_fault_last input left bytes n s (sent ++ out) here end plain some short count_within_max fault.HistoryFull full)

-- the last line, by its result
pub held_last : (taken : Option (List ℕ)) (input : List ℕ) (left : Option (List ℕ)) (bytes : List ℕ) (n : ℕ) (s : ScriptState) (sent out : List ℕ)
    → InputProgress input left bytes n s (sent ++ out) → IsAtEnd left → line_len bytes ≡ length bytes → length bytes ≤ MAX_LINE_BYTES → 0 < length bytes → n ≢ MAX_LINES
    → (r : Result (Unit {0}) RunFault) (s' : ScriptState) (grown : List ℕ) → IsAnswer taken (answer s bytes) s' out grown r
    → (gone : List ℕ) × IsUnread taken gone × IsHeldRun input left grown r (sent ++ gone)
held_last taken input left bytes n s sent out here end plain short some count_within_max (Ok done) s' grown a =
    (a.ok.1, a.ok.4, held_line_last input left bytes n s sent out here end plain short some count_within_max s' a.ok.0 a.ok.1 grown a.ok.2 a.ok.3)
held_last taken input left bytes n s sent out here end plain short some count_within_max (Err e) s' grown a =
    let at = some_gone sent out a.err.0 grown a.err.1 here in (
      a.err.0,
      a.err.2,
      elim a.faults [
        | inl m ↦ rw m (held_memory input left bytes n s (sent ++ a.err.0) grown at left)
        | inr h ↦ rw h.0 (held_full_last input left bytes n s (sent ++ a.err.0) grown at end plain short some count_within_max h.1)
      ],
    )

-- a run that no write has ended
pub held_kept : (input : List ℕ) (left : Option (List ℕ)) (out : List ℕ) (r : Result (Unit {0}) RunFault) (sent : List ℕ) → is_write_fault r ≡ false
    → IsHeldRun input left out r sent → BeginsWith (outcome input).text (sent ++ out) × IsRunBy input left r (sent ++ out)
held_kept input left out (Err fault.Write) sent other h = cc
held_kept input left out _ sent other h = h

-- a run that a read or a write has ended
pub held_lost : (input : List ℕ) (left : Option (List ℕ)) (out : List ℕ) (r : Result (Unit {0}) RunFault) (sent : List ℕ) → (is_read_fault r || is_write_fault r) ≡ true
    → (IsErrOf r fault.Read → out ≡ []) → IsHeldRun input left out r sent → IsRunBy input left r sent
held_lost input left out (Err fault.Read) sent lost none h = rw (none refl, append-nil) at h.1
held_lost input left out (Err fault.Write) sent lost none h = h
held_lost input left out _ sent lost none h = cc

-- a prefix of a prefix is one
pub begins_part : (text sent out part : List ℕ) → BeginsWith text (sent ++ out) → BeginsWith out part → BeginsWith text (sent ++ part)
begins_part text sent out part whole front = (front.0 ++ whole.0, whole.1 ∙ ap (λ o. (sent ++ o) ++ whole.0) front.1 ∙ simp append_assoc)

pub not_written : (a b : Bool) → (a || b) ≡ false → b ≡ false
not_written true b e = cc
not_written false b e = e

pub is_not_read : (r : Result (Unit {0}) RunFault) → is_read_fault r ≡ false → r ≡ Err fault.Read → ⊥
is_not_read r other is = grind (arith, common_steps)
