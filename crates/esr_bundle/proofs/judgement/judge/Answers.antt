use Rattle.std.proofs.Common.{◌≤◌, ℕ, List, Some, length, sym, ◌∙◌, subst}
use Rattle.std.specs.Io.KnownBytes.{Consumes}
use Rattle.esr_base.specs.Watch.{inner}
use Rattle.esr_bundle.specs.Judge.{IsVerdictOf}
use Rattle.esr_bundle.proofs.Verdicts.{all_of}
use Rattle.esr_bundle.proofs.judgement.judge.Goals as goal

pub returns-in-Ok-send_all-clause-text : goal.returns-in-Ok-send_all-clause-text
returns-in-Ok-send_all-clause-text g c input known =
    let read = c.in_ok-bytes.ensures.ok in
    let all = all_of input c.in_ok-bytes.bytes.items _ _ known read.0 read.1 in
    let left = g.R.Read.remaining (inner c.read_all.new.reader) in
    let verdict = subst (λ (l : List ℕ). IsVerdictOf l c.in-Ok.verdict) (c.deref.ensures.value ∙ all) c.in-Ok.ensures in
    let line = c.deref-2.ensures.value ∙ c.in-Ok-verdict_line.ensures in
    let took : Consumes (Some input) left input = subst (λ (l : List ℕ). Consumes (Some input) left l) all (subst (λ o. Consumes o left c.in_ok-bytes.bytes.items) known read.0) in
    (c.deref-2.result.now, c.in-Ok-send_all.ensures.ok, (took, subst (λ (l : List ℕ). length l ≤ 64000000) all read.2, verdict, line))

pub returns-clause-text : goal.returns-clause-text
returns-clause-text g c input known =
    let read = c.in_ok-bytes.ensures.ok in
    let all = all_of input c.in_ok-bytes.bytes.items _ _ known read.0 read.1 in
    let verdict = subst (λ (l : List ℕ). IsVerdictOf l c.in-Ok.verdict) (c.deref.ensures.value ∙ all) c.in-Ok.ensures in
    let line = c.deref-2.ensures.value ∙ c.in-Ok-verdict_line.ensures in
    let sent = c.in-Err.ensures.err in
    let short = subst (λ (l : List ℕ). length l ≤ 64000000) all read.2 in
    (sent.0, sent.2, (short, c.in-Ok.verdict, verdict, (sent.1.0, sym line ∙ sent.1.1)))
