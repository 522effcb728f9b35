-- The account of a transaction, by its facts.
use Rattle.std.proofs.Common.{◌≡◌, ℕ, refl, sym, ◌∙◌, ap, Option, None, Some, option_map}
use Rattle.esr_history.specs.declared.back_links.Facts.{Facts}
use Rattle.esr_history.specs.BackLinks.{begin_place, ended_txn, last_place, facts_by, facts_of}
use Rattle.esr_history.specs.Events.{BeginRecord, kind_of, begin_record}
use Rattle.esr_history.specs.Machine.{DistanceFunction, Schedule, accepted_in}
use Rattle.esr_history.specs.declared.event.TxnOutcome.{TxnOutcome}
use Rattle.esr_history.specs.Outcomes.{outcome_of}
use Rattle.esr_order.proofs.Commits.{facts_none}
use Rattle.esr_engine.specs.Accounts.{charged_to, account_from, account_of}

module _ (d : DistanceFunction) (h : Schedule) (t : ℕ) where
  pub account_from_facts : (f : Facts) → Some f ≡ facts_of h.entries t → (charged : ℕ) → charged ≡ charged_to d h f.query t → (o : TxnOutcome) → o ≡ outcome_of (accepted_in h) t
      → Some (record { kind = kind_of f.query; limit = f.limit; charged = charged; outcome = o }) ≡ account_of d h t
  account_from_facts f is charged amount o known = at (begin_record (accepted_in h) t) refl is
    where
      at : (b : Option BeginRecord) → begin_record (accepted_in h) t ≡ b → Some f ≡ facts_by b (begin_place t h.entries) (last_place ended_txn t h.entries)
          → Some (record { kind = kind_of f.query; limit = f.limit; charged = charged; outcome = o }) ≡ account_of d h t
      at None begun g = absurd (cc)
      at (Some b) begun g =
          let same : f ≡ record { query = b.query; strict = b.strict; limit = b.limit; begin = begin_place t h.entries; end = last_place ended_txn t h.entries } = cc in
          let paid : charged ≡ charged_to d h b.query t = amount ∙ ap (λ (x : Facts). charged_to d h x.query t) same in
          ap (λ (x : Facts). Some (record { kind = kind_of x.query; limit = x.limit; charged = charged; outcome = o })) same
          ∙ (ap (λ n. Some (record { kind = kind_of b.query; limit = b.limit; charged = n; outcome = o })) paid
          ∙ (ap (λ (w : TxnOutcome). Some (record { kind = kind_of b.query; limit = b.limit; charged = charged_to d h b.query t; outcome = w })) known
          ∙ sym (ap (option_map (account_from d h t)) begun)))

pub no_account : (d : DistanceFunction) (h : Schedule) (t : ℕ) → None ≡ facts_of h.entries t → None ≡ account_of d h t
no_account d h t is = sym (ap (option_map (account_from d h t)) (facts_none h.entries t is))
