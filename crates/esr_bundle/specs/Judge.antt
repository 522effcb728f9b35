-- The verdict on the bytes of a bundle, the line that is written for it, and the outcome of a call of `judge`.
use Rattle.std.specs.Prelude.{◌≡◌, ℕ, ◌<◌, ◌≤◌, List, [], ◌∷◌, ◌++◌, length, codes, decimal, Option, Some, None, Result, Ok, Err}
use Rattle.std.specs.Io.KnownBytes.{Consumes}
use Rattle.esr_base.specs.Watch.{BeginsWith}
use Rattle.esr_cert.specs.Problem.{Problem}
use Rattle.esr_cert.specs.Certificate.{Certificate, fault}
use Rattle.esr_cert.specs.Faults.{fault_number, bundle_fault_number}
use Rattle.esr_cert.specs.declared.certificate.Fault.{Fault}
use Rattle.esr_cert.specs.declared.problem.BundleFault.{BundleFault}
use Rattle.esr_bundle.specs.declared.judgement.Verdict.{Verdict}
use Rattle.esr_bundle.specs.declared.judgement.Verdict.TheVariants.{Valid, Invalid, Bad}
use Rattle.esr_bundle.specs.declared.judgement.JudgeFault.{JudgeFault}
use Rattle.esr_bundle.specs.declared.judgement.JudgeFault.TheVariants as judge_fault
use Rattle.esr_bundle.specs.declared.judgement.TheConstants.{MAX_BYTES}
use Rattle.esr_bundle.specs.Reading.{DecodesTo}

-- ---- the verdict

-- the verdict on a certificate of this worth, from its first fault
abbrev pub verdict_of_check : ℕ → Option Fault → Verdict
verdict_of_check worth None = Valid worth
verdict_of_check worth (Some f) = Invalid (fault_number f)

-- the verdict on a bundle that was decoded, or could not be
abbrev pub verdict_of_decoded : Result (Problem × Certificate) BundleFault → Verdict
verdict_of_decoded (Ok b) = verdict_of_check b.1.worth (fault b.0 b.1)
verdict_of_decoded (Err f) = Bad (bundle_fault_number f)

-- the verdict on the result of decoding the bytes
abbrev pub IsVerdictOf : List ℕ → Verdict → Type 0
IsVerdictOf bytes v = (b : Result (Problem × Certificate) BundleFault) × DecodesTo bytes b × (v ≡ verdict_of_decoded b)

abbrev pub verdict_line : Verdict → List ℕ
verdict_line (Valid worth) = codes "valid " ++ decimal worth ++ 10 ∷ []
verdict_line (Invalid number) = codes "invalid " ++ decimal number ++ 10 ∷ []
verdict_line (Bad number) = codes "bad " ++ decimal number ++ 10 ∷ []

-- ---- the outcome of a call of `judge`

-- Relates the input, the bytes that were not read (`None`: unknown) and the result of `judge` to the bytes that it wrote.
abbrev pub IsJudgeOutcome : List ℕ → Option (List ℕ) → Result Verdict JudgeFault → List ℕ → Type 0
-- the input was read to its end, and the line of the verdict was written
IsJudgeOutcome input unread (Ok v) written =
    Consumes (Some input) unread input × (length input ≤ MAX_BYTES) × IsVerdictOf input v × (written ≡ verdict_line v)
IsJudgeOutcome input unread (Err judge_fault.Read) written = written ≡ []
-- a prefix of the verdict's line was written
IsJudgeOutcome input unread (Err judge_fault.Write) written =
    (length input ≤ MAX_BYTES) × (v : Verdict) × IsVerdictOf input v × BeginsWith (verdict_line v) written
IsJudgeOutcome input unread (Err judge_fault.TooLong) written = (MAX_BYTES < length input) × (written ≡ [])
IsJudgeOutcome input unread (Err judge_fault.NoMemory) written = written ≡ []
