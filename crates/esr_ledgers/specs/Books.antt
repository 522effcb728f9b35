-- The accounts of transactions: the imports of queries and the exports of updates.
use Rattle.std.specs.Prelude.{◌≡◌, ℕ, ◌+◌, ◌<◌, ◌≤◌, ◌^◌, List, [], ◌∷◌, ◌-◌, Bool, true, false, not, ◌==◌, nat_lt, Option, None, Some, unwrap_or, find, map, sum_by, All, if◌then◌else◌, option_map}
use Rattle.std.specs.List.{list_any, AllByRecursion}
use Rattle.esr_base.specs.declared.numbers.TxnId.{TxnId}
use Rattle.esr_history.specs.Ascending.{IsAscendingBy, upserted}
use Rattle.esr_history.specs.declared.event.BeginKind.{BeginKind}
use Rattle.esr_history.specs.Events.{is_query_kind}
pub use Rattle.esr_ledgers.specs.declared.account.Account.{Account}
use Rattle.esr_ledgers.specs.declared.ledgers.Quote.{Quote}
pub use Rattle.esr_ledgers.specs.declared.ledgers.Quote.TheVariants.{Fits, Import, Export}

abbrev pub number : Account → ℕ
number a = a.number.0

-- the account of a transaction, by its number
abbrev pub account_of : List Account → ℕ → Option Account
account_of accounts t = find (λ a. number a == t) accounts

abbrev pub is_open : List Account → ℕ → Bool
is_open accounts t = list_any (λ a. number a == t) accounts

abbrev pub is_open_query : List Account → ℕ → Bool
is_open_query accounts t = unwrap_or (option_map (λ a. is_query_kind a.kind) (account_of accounts t)) false

abbrev pub is_open_update : List Account → ℕ → Bool
is_open_update accounts t = unwrap_or (option_map (λ a. not (is_query_kind a.kind)) (account_of accounts t)) false

abbrev pub limit_at : List Account → ℕ → ℕ
limit_at accounts t = unwrap_or (option_map (λ a. a.limit) (account_of accounts t)) 0

abbrev pub account_amount : List Account → ℕ → ℕ
account_amount accounts t = unwrap_or (option_map (λ a. a.amount) (account_of accounts t)) 0

-- the accounts with a new one, in the order of their numbers
abbrev pub new_account : BeginKind → TxnId → ℕ → Account
new_account kind t limit = record { number = t; kind = kind; limit = limit; amount = 0 }

abbrev pub with_account : List Account → Account → List Account
with_account accounts a = upserted number (number a) a (λ b. b) accounts

-- Charges of an update: to each query an amount, by ascending queries.

abbrev pub total_of : List (TxnId × ℕ) → ℕ
total_of charges = sum_by (λ c. c.1) charges

-- whether one more amount would pass the limit of a transaction
abbrev pub would_pass : List Account → ℕ → ℕ → Bool
would_pass accounts t amount = nat_lt (limit_at accounts t) (account_amount accounts t + amount)

abbrev pub quoted : Option (TxnId × ℕ) → Bool → TxnId → Quote
quoted (Some c) over u = Import c.0
quoted None true u = Export u
quoted None false u = Fits

-- the first query whose limit would be exceeded, else the update if the sum would exceed its limit
abbrev pub quote_of : List Account → TxnId → List (TxnId × ℕ) → Quote
quote_of accounts u charges =
    quoted (find (λ c. would_pass accounts c.0.0 c.1) charges) (would_pass accounts u.0 (total_of charges)) u

-- an amount added to the account of a transaction
abbrev pub raised : ℕ → ℕ → List Account → List Account
raised t amount accounts = map (λ a. if number a == t then record a { amount = a.amount + amount } else a) accounts

-- an amount subtracted from the account of a transaction
abbrev pub lowered : ℕ → ℕ → List Account → List Account
lowered t amount accounts = map (λ a. if number a == t then record a { amount = a.amount - amount } else a) accounts

-- each query's amount added to its account
abbrev pub charged_to_queries : List Account → List (TxnId × ℕ) → List Account
charged_to_queries accounts [] = accounts
charged_to_queries accounts (c ∷ charges) = charged_to_queries (raised c.0.0 c.1 accounts) charges

-- and the sum to that of the update
abbrev pub charged : List Account → TxnId → List (TxnId × ℕ) → List Account
charged accounts u charges = raised u.0 (total_of charges) (charged_to_queries accounts charges)

-- the accounts after charges with this quote: charged if they fit, and otherwise unchanged
abbrev pub booked : Quote → List Account → TxnId → List (TxnId × ℕ) → List Account
booked Fits accounts u charges = charged accounts u charges
booked (Import q) accounts u charges = accounts
booked (Export v) accounts u charges = accounts

-- the charges are of an update that was opened, to queries that were opened, each listed once
pub record AreCharges (accounts : List Account) (u : TxnId) (charges : List (TxnId × ℕ)) : Type 0 where
  pub update : is_open_update accounts u.0 ≡ true
  pub queries : All (λ c. is_open_query accounts c.0.0 ≡ true) charges
  pub ascending : IsAscendingBy (λ c. c.0.0) charges

-- the total imports of all queries, and the total exports of all updates
abbrev pub imports : List Account → ℕ
imports accounts = sum_by (λ a. if is_query_kind a.kind then a.amount else 0) accounts

abbrev pub exports : List Account → ℕ
exports accounts = sum_by (λ a. if is_query_kind a.kind then 0 else a.amount) accounts

abbrev pub IsWithinLimit : Account → Type 0
IsWithinLimit a = (a.amount ≤ a.limit) × (a.limit < 2 ^ 64)

-- accounts that agree: no number twice, none over its limit, and as much imported as exported
pub record AreBooks (accounts : List Account) (total : ℕ) : Type 0 where
  pub ascending : IsAscendingBy number accounts
  pub within : AllByRecursion IsWithinLimit accounts
  pub import_sum : imports accounts ≡ total
  pub export_sum : exports accounts ≡ total
