-- The findings of workers, the values that they make of these, and their order by jobs.
use Rattle.std.specs.Prelude.{◌≡◌, ℕ, ◌<◌, List, length, slice_index_or, map, All, Option, None, IsSome, IfSome, IsTrue, MatchResult, []}
use Rattle.std.specs.List.{AllZip}
use Rattle.esr_base.specs.declared.numbers.TxnId.{TxnId}
use Rattle.esr_history.specs.Machine.{DistanceFunction, Schedule}
use Rattle.esr_history.specs.Queries.{is_committed_query}
use Rattle.esr_audit.specs.declared.finding.Finding.{Finding}
use Rattle.esr_audit.specs.declared.finding.AuditError.TheVariants.{NoMemory}
use Rattle.esr_audit.specs.Findings.{IsFinding}
use Rattle.esr_board.specs.declared.worker.Share.{Share}
use Rattle.esr_board.specs.declared.worker.Worked.{Worked}
use Rattle.esr_board.specs.declared.board.Board.{Board}
use Rattle.esr_board.specs.Claims.{HasClaimed, count_past}
use Rattle.esr_board.specs.Boards.{IsSeatOf, claimed, jobs_of}

-- the query of a job
abbrev pub query_of : List TxnId → ℕ → TxnId
query_of queries job = slice_index_or queries job (record { 0 = 0 })

-- the finding of the query of a job
abbrev pub IsFindingFor : DistanceFunction → Schedule → List TxnId → ℕ → Finding → Type 0
IsFindingFor d h queries job f = (f.query ≡ query_of queries job) × IsFinding d h f

-- each of the transactions is a committed query
abbrev pub AreCommitted : Schedule → List TxnId → Type 0
AreCommitted h queries = All (λ t. IsTrue (is_committed_query h t.0)) queries

-- each job in the list is one of the board's, and its finding is that of its query
abbrev pub AreFound : DistanceFunction → Schedule → List TxnId → ℕ → List (ℕ × Finding) → Type 0
AreFound d h queries jobs found = All (λ p. (p.0 < jobs) × IsFindingFor d h queries p.0 p.1) found

-- The relation `keeps` relates a finding to the value that a worker makes of it.

-- a value that is made of the finding of query q
abbrev pub IsKeptOf : {T : Type 0} → (Finding → T → Type 0) → DistanceFunction → Schedule → TxnId → T → Type 0
IsKeptOf keeps d h q kept = (f : Finding) × (f.query ≡ q) × IsFinding d h f × keeps f kept

-- the values are made of the findings of the queries, in order
pub record KeepsFindings {T : Type 0} (keeps : Finding → T → Type 0) (d : DistanceFunction) (h : Schedule) (asked : List ℕ)
    (things : List T) : Type 0 where
  pub findings : List Finding
  pub queries : map (λ f. f.query.0) findings ≡ asked
  pub found : All (IsFinding d h) findings
  pub kept : AllZip keeps findings things

-- each job in the list is one of the board's, and its value is made of the finding of its query
abbrev pub AreKept : {T : Type 0} → (Finding → T → Type 0) → DistanceFunction → Schedule → List TxnId → ℕ → List (ℕ × T) → Type 0
AreKept keeps d h queries jobs found = All (λ p. (p.0 < jobs) × IsKeptOf keeps d h (query_of queries p.0) p.1) found

-- the jobs of a share are those that the seat claimed, with values made of their findings, and the seat has claimed to
-- the end
abbrev pub IsShareOf : {T : Type 0} → (Finding → T → Type 0) → DistanceFunction → Schedule → List TxnId → ℕ → List ℕ → Share T
    → Type 0
IsShareOf keeps d h queries jobs numbers s =
    HasClaimed jobs [] numbers (map (λ p. p.0) s.found.items) × AreKept keeps d h queries jobs s.found.items
    × (0 < count_past jobs numbers)

-- a worker returned its seat with its share, or is out of memory
abbrev pub IsWorked : {T : Type 0} → (Finding → T → Type 0) → DistanceFunction → Schedule → List TxnId → Board → Worked T → Type 0
IsWorked keeps d h queries board w =
    IsSeatOf board w.seat × MatchResult w.share (IsShareOf keeps d h queries (jobs_of board) (claimed w.seat))
    (λ e. e ≡ NoMemory)

-- there is something for a job
abbrev pub IsFilled : {T : Type 0} → List (Option T) → ℕ → Type 0
IsFilled slots k = IsSome (slice_index_or slots k None)

-- each value that is present is made of the finding of its job's query
abbrev pub AreCorrect : {T : Type 0} → (Finding → T → Type 0) → DistanceFunction → Schedule → List TxnId → List (Option T) → Type 0
AreCorrect keeps d h queries slots =
    (k : ℕ) → k < length slots → IfSome (slice_index_or slots k None) (IsKeptOf keeps d h (query_of queries k))
