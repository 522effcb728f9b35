-- A call that executes an event of any kind, from the result of its engine.
use Rattle.std.proofs.Common.{◌≡◌, ◌↔◌, ◌⊎◌, ◌∙◌, inl, inr, ap, refl, sym, subst, arith, true, Some, Result, Ok, Err, IfOk, IfErr, OnErr, IsErrOf}
use Rattle.esr_items.specs.Weights.{weighted}
use Rattle.esr_history.specs.declared.event.Event.{Event}
use Rattle.esr_history.specs.declared.event.Reply.{Reply}
use Rattle.esr_history.specs.Machine.{Schedule, extended, reply_to}
use Rattle.esr_engine.specs.Capacity.{is_full}
use Rattle.esr_engine.specs.declared.engine.EngineError.{EngineError}
use Rattle.esr_engine.specs.declared.engine.EngineError.TheVariants as unanswered
use Rattle.esr_c.specs.declared.engine.Status.{Status}
use Rattle.esr_c.specs.declared.engine.Status.TheVariants.{Done, HistoryFull, NoMemory}
use Rattle.esr_c.specs.declared.reply.EsrReply.{EsrReply}
use Rattle.esr_c.specs.Answers.{IsEventCall, reply_fields, status_number}

module _ (event : Event) (h g : Schedule) (before after : EsrReply) where
  call_done : (r : Reply) → r ≡ reply_to weighted h event → g ≡ extended h event r → after ≡ reply_fields r → ¬ (is_full h event ≡ true) → IsEventCall event (Some h) (Some g) before after 0
  call_done r is added reported has_capacity = record {
    statuses = inl refl;
    closed = (λ e. absurd (omega arith), λ e. absurd (cc));
    full = (λ e. absurd (omega arith), λ p. absurd (has_capacity p));
    reply = λ _. (ap (λ k. Some k) (added ∙ ap (extended h event) is), reported ∙ ap reply_fields is);
    err = λ ne. absurd (ne refl);
  }

  call_full : is_full h event ≡ true → g ≡ h → after ≡ before → IsEventCall event (Some h) (Some g) before after 12
  call_full full same kept = record {
    statuses = inr (inl refl);
    closed = (λ e. absurd (omega arith), λ e. absurd (cc));
    full = (λ _. full, λ _. refl);
    reply = λ e. absurd (omega arith);
    err = λ _. (ap (λ k. Some k) same, kept);
  }

  call_refused : ¬ (is_full h event ≡ true) → g ≡ h → after ≡ before → IsEventCall event (Some h) (Some g) before after 13
  call_refused has_capacity same kept = record {
    statuses = inr (inr (inl refl));
    closed = (λ e. absurd (omega arith), λ e. absurd (cc));
    full = (λ e. absurd (omega arith), λ p. absurd (has_capacity p));
    reply = λ e. absurd (omega arith);
    err = λ _. (ap (λ k. Some k) same, kept);
  }

  pub called : (answered : Result Reply EngineError) (s : Status) → IfOk answered (λ r. r ≡ reply_to weighted h event) → IfOk answered (λ r. g ≡ extended h event r)
      → (IsErrOf answered unanswered.Full ↔ (is_full h event ≡ true)) → OnErr answered (g ≡ h)
      → IfOk answered (λ r. (s ≡ Done) × (after ≡ reply_fields r)) → (s ≡ HistoryFull ↔ IsErrOf answered unanswered.Full)
      → IfErr answered (λ _. ((s ≡ HistoryFull) ⊎ (s ≡ NoMemory)) × (after ≡ before)) → IsEventCall event (Some h) (Some g) before after (status_number s)
  called (Ok r) s reply added full same ok reported err =
      subst (λ (k : Status). IsEventCall event (Some h) (Some g) before after (status_number k)) (sym ok.0) (call_done r reply added ok.1 (λ p. let bad_names : Ok r ≡ Err unanswered.Full = full.1 p in absurd (cc)))
  called (Err e) s reply added full same ok reported err = by_status err.0
    where
      by_status : (s ≡ HistoryFull) ⊎ (s ≡ NoMemory) → IsEventCall event (Some h) (Some g) before after (status_number s)
      by_status (inl is) = subst (λ (k : Status). IsEventCall event (Some h) (Some g) before after (status_number k)) (sym is) (call_full (full.0 (reported.0 is)) same err.1)
      by_status (inr is) =
          let has_capacity : ¬ (is_full h event ≡ true) = λ p. let bad_names : s ≡ HistoryFull = reported.1 (full.1 p) in absurd (cc) in
          subst (λ (k : Status). IsEventCall event (Some h) (Some g) before after (status_number k)) (sym is) (call_refused has_capacity same err.1)
