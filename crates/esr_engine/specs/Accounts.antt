-- The account of one transaction in a history.
use Rattle.std.specs.Prelude.{ℕ, Bool, true, false, Option, option_map}
use Rattle.esr_history.specs.Events.{BeginRecord, kind_of, begin_record}
use Rattle.esr_history.specs.Outcomes.{outcome_of}
use Rattle.esr_history.specs.Machine.{DistanceFunction, Schedule, accepted_in, charges_in, import_in, export_in}
use Rattle.esr_engine.specs.declared.account.Account.{Account}

-- the amount that a query has imported, or an update exported
abbrev pub charged_to : DistanceFunction → Schedule → Bool → ℕ → ℕ
charged_to d h true t = import_in (charges_in d h) t
charged_to d h false t = export_in (charges_in d h) t

-- the account of a transaction that began so
abbrev pub account_from : DistanceFunction → Schedule → ℕ → BeginRecord → Account
account_from d h t b = record {
  kind = kind_of b.query;
  limit = b.limit;
  charged = charged_to d h b.query t;
  outcome = outcome_of (accepted_in h) t;
}

-- the account of a transaction, if it has begun
abbrev pub account_of : DistanceFunction → Schedule → ℕ → Option Account
account_of d h t = option_map (account_from d h t) (begin_record (accepted_in h) t)
