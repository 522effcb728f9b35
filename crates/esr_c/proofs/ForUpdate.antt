-- A call that reads for update, from the result of its engine.
use Rattle.std.proofs.Common.{◌≡◌, ◌≢◌, ◌↔◌, ◌⊎◌, inl, inr, ap, refl, arith, true, Some}
use Rattle.esr_base.specs.declared.numbers.ItemId.{ItemId}
use Rattle.esr_base.specs.declared.numbers.TxnId.{TxnId}
use Rattle.esr_history.specs.Machine.{Schedule}
use Rattle.esr_engine.specs.ForUpdate.{after_for_update, no_pair, reply_for_update, IsPartlyDone}
use Rattle.esr_c.specs.declared.engine.Status.{Status}
use Rattle.esr_c.specs.declared.engine.Status.TheVariants.{Done, HistoryFull, NoMemory}
use Rattle.esr_c.specs.declared.reply.EsrReply.{EsrReply}
use Rattle.esr_c.specs.Answers.{IsForUpdateCall, reply_fields, status_number}

module _ (t : TxnId) (x : ItemId) (h g : Schedule) (before after : EsrReply) where
  pub call_done : (Done ≡ HistoryFull ↔ no_pair h ≡ true) → (g ≡ after_for_update h t x) × (after ≡ reply_fields (reply_for_update h t x)) → IsForUpdateCall t x (Some h) (Some g) before after 0
  call_done full done = record {
    statuses = inl refl;
    closed = (λ e. absurd (omega arith), λ e. absurd (cc));
    full = (λ e. absurd (omega arith), λ p. let bad_names : Done ≡ HistoryFull = full.1 p in absurd (cc));
    reply = λ _. (ap (λ k. Some k) done.0, done.1);
    err = λ ne. absurd (ne refl);
    kept = λ e. absurd (omega arith);
  }

  pub call_full : (HistoryFull ≡ HistoryFull ↔ no_pair h ≡ true) → (after ≡ before) × IsPartlyDone h g t x → g ≡ h → IsForUpdateCall t x (Some h) (Some g) before after 12
  call_full full err same = record {
    statuses = inr (inl refl);
    closed = (λ e. absurd (omega arith), λ e. absurd (cc));
    full = (λ _. full.0 refl, λ _. refl);
    reply = λ e. absurd (omega arith);
    err = λ _. err;
    kept = λ _. ap (λ k. Some k) same;
  }

  pub call_refused : (NoMemory ≡ HistoryFull ↔ no_pair h ≡ true) → (after ≡ before) × IsPartlyDone h g t x → IsForUpdateCall t x (Some h) (Some g) before after 13
  call_refused full err = record {
    statuses = inr (inr (inl refl));
    closed = (λ e. absurd (omega arith), λ e. absurd (cc));
    full = (λ e. absurd (omega arith), λ p. let bad_names : NoMemory ≡ HistoryFull = full.1 p in absurd (cc));
    reply = λ e. absurd (omega arith);
    err = λ _. err;
    kept = λ e. absurd (omega arith);
  }

  pub call_of : (s : Status) → (s ≡ Done) ⊎ ((s ≡ HistoryFull) ⊎ (s ≡ NoMemory)) → (s ≡ HistoryFull ↔ no_pair h ≡ true)
      → (s ≡ Done → (g ≡ after_for_update h t x) × (after ≡ reply_fields (reply_for_update h t x)))
      → (s ≢ Done → (after ≡ before) × IsPartlyDone h g t x) → (s ≡ HistoryFull → g ≡ h) → IsForUpdateCall t x (Some h) (Some g) before after (status_number s)
  call_of Done statuses full done err same = call_done full (done refl)
  call_of HistoryFull statuses full done err same = call_full full (err (λ e. cc)) (same refl)
  call_of NoMemory statuses full done err same = call_refused full (err (λ e. cc))
  call_of _ (inl is) full done err same = absurd (cc)
  call_of _ (inr (inl is)) full done err same = absurd (cc)
  call_of _ (inr (inr is)) full done err same = absurd (cc)
