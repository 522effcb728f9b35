-- What the calls from C return: replies and refusals as numbers.
use Rattle.std.specs.Prelude.{◌≡◌, ◌≢◌, ◌↔◌, ◌*◌, ◌+◌, ◌^◌, ℕ, ℤ, Bool, true, false, List, [], length, Option, Some, None, IfSome, option_map, pos, take, map, ◌≤◌, ◌⊎◌}
use Rattle.std.proofs.Math.Nat.{one-mul}
use Rattle.esr_items.specs.Values.{gap}
use Rattle.esr_items.specs.Weights.{weighted}
use Rattle.esr_base.specs.declared.numbers.ItemId.{ItemId}
use Rattle.esr_base.specs.declared.numbers.TxnId.{TxnId}
use Rattle.esr_history.specs.declared.event.Entry.{Entry}
use Rattle.esr_history.specs.declared.event.Event.{Event}
use Rattle.esr_history.specs.declared.event.Reply.{Reply}
use Rattle.esr_history.specs.declared.event.Reply.TheVariants.{Begun, Value, Wrote, Committed, Aborted, Refused}
use Rattle.esr_history.specs.declared.event.Refusal.{Refusal}
use Rattle.esr_history.specs.declared.event.Refusal.TheVariants.{BlockedByLock, BlockedByImport, BlockedByExport}
use Rattle.esr_history.specs.Events.{is_query_kind}
use Rattle.esr_history.specs.Legal.{continued}
use Rattle.esr_history.specs.Machine.{Schedule, IsLegal, extended, reply_to}
use Rattle.esr_history.specs.Refusals.{refusal_number}
use Rattle.esr_history.specs.Totals.{all_imports}
use Rattle.esr_core.specs.Renewed.{committed_values, renewed, AreSerializableAsOne}
use Rattle.esr_core.specs.Carried.{carried, IsCarriedOver}
use Rattle.esr_engine.specs.Accounts.{account_of}
use Rattle.esr_engine.specs.ForUpdate.{after_for_update, no_pair, reply_for_update, IsPartlyDone}
use Rattle.esr_engine.specs.Capacity.{is_full, taken}
use Rattle.esr_engine.specs.Carrying.{carried_in}
use Rattle.esr_engine.specs.declared.account.Account.{Account}
use Rattle.esr_history.specs.declared.event.TxnOutcome.{TxnOutcome}
use Rattle.esr_history.specs.declared.event.TxnOutcome.TheVariants as outcome
use Rattle.esr_engine.specs.declared.carrying.CarriedTxn.{CarriedTxn}
use Rattle.esr_cert.specs.Certificate.{Certificate}
use Rattle.esr_cert.specs.Views.{certificate_of}
use Rattle.esr_audit.specs.Findings.{IsAnswer, IsFindingOf}
use Rattle.esr_audit.specs.declared.finding.Finding.{Finding}
use Rattle.esr_bundle.specs.Bundle.{bundle}
use Rattle.esr_bundle.specs.Judge.{IsVerdictOf}
use Rattle.esr_bundle.specs.declared.judgement.Verdict.{Verdict}
use Rattle.esr_bundle.specs.declared.judgement.Verdict.TheVariants.{Valid, Invalid, Bad}
use Rattle.esr_c.specs.declared.account.EsrAccount.{EsrAccount}
use Rattle.esr_c.specs.declared.audit.EsrFinding.{EsrFinding}
use Rattle.esr_c.specs.declared.audit.EsrTotals.{EsrTotals}
use Rattle.esr_c.specs.declared.carrying.EsrCarried.{EsrCarried}
use Rattle.esr_c.specs.declared.engine.Status.{Status}
use Rattle.esr_c.specs.declared.engine.Status.TheVariants.{Done, TooManyItems, ValueOutOfRange, NotBegun, WeightOutOfRange, BadNames, NotACommittedQuery, TooSmall, NoSuchEvent, HistoryFull, NoMemory, IsClosed, IsOpen, TransactionActive}
use Rattle.esr_c.specs.declared.reply.EsrReply.{EsrReply}
use Rattle.esr_c.specs.declared.verdict.EsrVerdict.{EsrVerdict}

-- a history of these opening values and weights, with no entry
abbrev pub opened : List ℤ → List ℕ → Schedule
opened opening weights = record { opening = opening; weights = weights; entries = [] }

-- without weights, the distance of two values is their difference
pub plain : (x : ℕ) (a b : ℤ) → weighted [] x a b ≡ gap a b
plain x a b = one-mul (gap a b)

-- the transaction that a refusal names
abbrev pub named : Refusal → ℕ
named (BlockedByLock t) = t.0
named (BlockedByImport t) = t.0
named (BlockedByExport t) = t.0
named _ = 0

-- the fields of a reply
abbrev pub reply_fields : Reply → EsrReply
reply_fields (Begun t) = record { kind = 1; refusal = 0; txn = t.0; value = pos 0 }
reply_fields (Value v) = record { kind = 2; refusal = 0; txn = 0; value = v }
reply_fields Wrote = record { kind = 3; refusal = 0; txn = 0; value = pos 0 }
reply_fields Committed = record { kind = 4; refusal = 0; txn = 0; value = pos 0 }
reply_fields Aborted = record { kind = 5; refusal = 0; txn = 0; value = pos 0 }
reply_fields (Refused why) = record { kind = 6; refusal = refusal_number why; txn = named why; value = pos 0 }

-- the effect of an executed event: the machine's reply is returned, and appended to the history with the event
abbrev pub IsReply : Event → Option Schedule → Option Schedule → EsrReply → Type 0
IsReply event old new reply =
    IfSome old (λ h. (new ≡ Some (extended h event (reply_to weighted h event)))
    × (reply ≡ reply_fields (reply_to weighted h event)))

-- all imports, by two words of 64 bits, and the count of entries
abbrev pub IsTotal : EsrTotals → Schedule → Type 0
IsTotal t h = (t.high * 2 ^ 64 + t.low ≡ all_imports weighted h) × (t.entries ≡ length h.entries)

-- the result of an audit, with the number of the updates before the position, which are listed
abbrev pub IsFinding : Schedule → ℕ → EsrFinding → List ℕ → Type 0
IsFinding h q f before = IsAnswer weighted h q f.distance f.import before × (f.count ≡ length before)

-- a finding whose updates are at the start of a buffer
abbrev pub IsFound : Schedule → ℕ → EsrFinding → List ℕ → Type 0
IsFound h q f buffer = IsFinding h q f (take f.count buffer)

-- a finding whose updates do not fit into the caller's buffer
abbrev pub IsFindingWithoutList : Schedule → ℕ → EsrFinding → Type 0
IsFindingWithoutList h q f = (before : List ℕ) × IsFinding h q f before

-- a certificate without the number of augmentations that lead to its flow
abbrev pub without_count : Certificate → Certificate
without_count c = record c { augmentations = None }

-- the bytes are the bundle of what the audit of a query finds
pub record IsBundleOf (h : Schedule) (q : ℕ) (bytes : List ℕ) : Type 0 where
  pub finding : Finding
  pub found : IsFindingOf weighted h q finding
  pub text : bytes ≡ bundle finding.problem (without_count (certificate_of finding.certificate))

-- such bytes at the start of a buffer
abbrev pub IsBundleIn : Schedule → ℕ → ℕ → List ℕ → Type 0
IsBundleIn h q count buffer = IsBundleOf h q (take count buffer) × (count ≡ length (take count buffer))

-- the length of such bytes
abbrev pub IsBundleLong : Schedule → ℕ → ℕ → Type 0
IsBundleLong h q count = (bytes : List ℕ) × IsBundleOf h q bytes × (count ≡ length bytes)

-- the committed values at the start of a buffer
abbrev pub AreValuesIn : Schedule → ℕ → List ℤ → Type 0
AreValuesIn h count buffer = (take count buffer ≡ committed_values h) × (count ≡ length h.opening)

-- the history before a renewal and every history after it are serializable as one
pub record IsRenewed (h : Schedule) : Type 0 where
  pub as_one : (later : List Entry) → IsLegal weighted (continued (renewed h h.weights) later)
      → AreSerializableAsOne h (continued (renewed h h.weights) later)

-- a carried transaction, and those of a renewal at the start of a buffer
abbrev pub carried_fields : CarriedTxn → EsrCarried
carried_fields c = record { old_txn = c.old.0; new_txn = c.new.0; settled = c.settled }

abbrev pub AreCarriedIn : Schedule → ℕ → List EsrCarried → Type 0
AreCarriedIn h count buffer = take count buffer ≡ map carried_fields (carried_in weighted h)

-- In the history after a carrying renewal the active transactions lose nothing. It takes up no more entries than the one
-- before, and that one and every history after it are serializable as one.
pub record IsCarriedRenewal (h : Schedule) : Type 0 where
  pub over : IsCarriedOver weighted h (carried weighted h)
  pub as_one : (later : List Entry) → IsLegal weighted (continued (carried weighted h) later)
      → AreSerializableAsOne h (continued (carried weighted h) later)
  pub room : taken (carried weighted h) ≤ taken h

-- the number of each status
abbrev pub status_number : Status → ℕ
status_number Done = 0
status_number TooManyItems = 1
status_number ValueOutOfRange = 2
status_number NotBegun = 3
status_number WeightOutOfRange = 4
status_number BadNames = 5
status_number NotACommittedQuery = 6
status_number TooSmall = 7
status_number NoSuchEvent = 8
status_number HistoryFull = 12
status_number NoMemory = 13
status_number IsClosed = 14
status_number IsOpen = 15
status_number TransactionActive = 16

-- the statuses of an event
abbrev pub IsEventStatus : ℕ → Type 0
IsEventStatus n = (n ≡ 0) ⊎ ((n ≡ 12) ⊎ ((n ≡ 13) ⊎ (n ≡ 14)))

-- The status of a call that executes an event: it is 0 exactly if the machine's reply is returned and is in the
-- history. Otherwise nothing has changed.
pub record IsEventCall (event : Event) (old new : Option Schedule) (before after : EsrReply) (status : ℕ) : Type 0 where
  pub statuses : IsEventStatus status
  pub closed : status ≡ 14 ↔ (old ≡ None)
  pub full : IfSome old (λ h. (status ≡ 12) ↔ (is_full h event ≡ true))
  pub reply : status ≡ 0 → IsReply event old new after
  pub err : status ≢ 0 → (new ≡ old) × (after ≡ before)

-- the effect of a read for update: its reply is returned, and its entries are in the history
abbrev pub IsForUpdateReply : TxnId → ItemId → Option Schedule → Option Schedule → EsrReply → Type 0
IsForUpdateReply t x old new reply =
    IfSome old (λ h. (new ≡ Some (after_for_update h t x)) × (reply ≡ reply_fields (reply_for_update h t x)))

-- nothing has changed, but that the lock may have been taken
abbrev pub IsPartly : Option Schedule → Option Schedule → TxnId → ItemId → Type 0
IsPartly None new t x = new ≡ None
IsPartly (Some h) None t x = ⊥
IsPartly (Some h) (Some g) t x = IsPartlyDone h g t x

-- A call that reads an item for an update returns this status. With 13 the lock may have been taken; with 12 nothing has changed.
pub record IsForUpdateCall (t : TxnId) (x : ItemId) (old new : Option Schedule) (before after : EsrReply) (status : ℕ) : Type 0 where
  pub statuses : IsEventStatus status
  pub closed : status ≡ 14 ↔ (old ≡ None)
  pub full : IfSome old (λ h. (status ≡ 12) ↔ (no_pair h ≡ true))
  pub reply : status ≡ 0 → IsForUpdateReply t x old new after
  pub err : status ≢ 0 → (after ≡ before) × IsPartly old new t x
  pub kept : status ≡ 12 → new ≡ old

-- the number of a transaction's outcome, and its account
abbrev pub outcome_number : TxnOutcome → ℕ
outcome_number outcome.Active = 0
outcome_number outcome.Committed = 4
outcome_number outcome.Aborted = 5

abbrev pub account_fields : Account → EsrAccount
account_fields a = record { query = is_query_kind a.kind; txn_status = outcome_number a.outcome; limit = a.limit; charged = a.charged }

abbrev pub IsAccount : Schedule → ℕ → EsrAccount → Type 0
IsAccount h t a = Some a ≡ option_map account_fields (account_of weighted h t)

-- a verdict by numbers, and the one on these bytes
abbrev pub verdict_fields : Verdict → EsrVerdict
verdict_fields (Valid worth) = record { kind = 1; number = worth }
verdict_fields (Invalid fault) = record { kind = 2; number = fault }
verdict_fields (Bad fault) = record { kind = 3; number = fault }

abbrev pub IsVerdictIn : List ℕ → EsrVerdict → Type 0
IsVerdictIn bytes v = (found : Verdict) × IsVerdictOf bytes found × (v ≡ verdict_fields found)

-- the statuses of an opening, of a renewal, of values, and of an audit or a bundle
abbrev pub IsOpenStatus : ℕ → Type 0
IsOpenStatus n = (n ≡ 0) ⊎ ((n ≡ 1) ⊎ ((n ≡ 2) ⊎ ((n ≡ 13) ⊎ (n ≡ 15))))

abbrev pub IsWeightedOpenStatus : ℕ → Type 0
IsWeightedOpenStatus n = IsOpenStatus n ⊎ (n ≡ 4)

abbrev pub IsRenewStatus : ℕ → Type 0
IsRenewStatus n = (n ≡ 0) ⊎ ((n ≡ 13) ⊎ ((n ≡ 14) ⊎ (n ≡ 16)))

abbrev pub IsBufferStatus : ℕ → Type 0
IsBufferStatus n = (n ≡ 0) ⊎ ((n ≡ 7) ⊎ ((n ≡ 13) ⊎ (n ≡ 14)))

abbrev pub IsAuditStatus : ℕ → Type 0
IsAuditStatus n = (n ≡ 0) ⊎ ((n ≡ 6) ⊎ ((n ≡ 7) ⊎ ((n ≡ 13) ⊎ (n ≡ 14))))
