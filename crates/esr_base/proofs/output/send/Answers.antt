use Rattle.std.proofs.Common.{◌≡◌, ℕ, List, ◌+◌, ◌-◌, ◌++◌, take, drop, length, sym, ap, ◌∙◌, rules, length-drop, take-append-drop, take_all}
use Rattle.std.proofs.Math.Seq.{take-add, take-length}
use Rattle.std.proofs.KnownBytes.{Appends-trans}
use Rattle.esr_base.specs.Watch.{BeginsWith}
use Rattle.esr_base.proofs.output.send.Goals as goal

pub loop-sent-preserved : goal.loop-sent-preserved
loop-sent-preserved g c =
    let bytes = c.args.bytes.now in
    let sent = c.loop-sent.sent in
    let count = c.in-Ok.count in
    let chunk : take (length bytes - sent) (drop sent bytes) ≡ drop sent bytes =
    ap (λ n. take n (drop sent bytes)) (sym (length-drop sent bytes)) ∙ take-length (drop sent bytes) in
    let joined : take sent bytes ++ take count (take (length bytes - sent) (drop sent bytes)) ≡ take (sent + count) bytes =
    ap (λ l. take sent bytes ++ take count l) chunk ∙ sym (take-add sent count bytes) in
    let all = Appends-trans _ _ _ _ _ c.loop-sent.invariant.taken c.in-Ok.ensures.bytes in
    record {
      bound = search rules;
      taken = rw joined at all;
      failed = search rules;
    }

pub returns-clause-ok : goal.returns-clause-ok
returns-clause-ok g c = rw (take_all c.loop-sent.sent c.args.bytes.now c.loop-sent-test.false) at c.loop-sent.invariant.taken

-- the bytes before a failure
front : (n : ℕ) (bytes : List ℕ) → BeginsWith bytes (take n bytes)
front n bytes = (drop n bytes, sym (take-append-drop n bytes))

pub returns-in-Ok-eq0-clause-err : goal.returns-in-Ok-eq0-clause-err
returns-in-Ok-eq0-clause-err g c = (take c.loop-sent.sent c.args.bytes.now, front _ _, search rules)

pub returns-in-Ok-eq0-2-clause-err : goal.returns-in-Ok-eq0-2-clause-err
returns-in-Ok-eq0-2-clause-err g c = (take c.loop-sent.sent c.args.bytes.now, front _ _, search rules)
