use Rattle.std.proofs.Common.{rules, ◌≡◌, [], length, drop, arith, ◌∙◌, ap}
use Rattle.std.proofs.KnownBytes.{Consumes-trans, Consumes-nil}
use Rattle.esr_bundle.proofs.Verdicts.{no_more, capacity_kept}
use Rattle.esr_bundle.proofs.judgement.read_all.Goals as goal

pub chunks-init : goal.chunks-init
chunks-init g c =
    let none : c.new-bytes.result.items ≡ [] = search rules in
    record { bound = rw none (omega arith); read = rw none (Consumes-nil _); chunk_buffer = c.in-Ok.ensures; failed = c.requires }

pub returns-then-count-eq0-clause-ok : goal.returns-then-count-eq0-clause-ok
returns-then-count-eq0-clause-ok g c =
    let received = c.in_ok-count.ensures.ok in
    let same = no_more _ _ received.0 received.2 (received.1 ∙ c.if-count-eq0.true) in
    (rw received.2 (Consumes-trans _ _ _ _ _ c.chunks.invariant.read received.3), received.4 c.if-count-eq0.true, rw same c.chunks.invariant.bound)

pub returns-then-len-gt-MAX_BYTES-clause-long : goal.returns-then-len-gt-MAX_BYTES-clause-long
returns-then-len-gt-MAX_BYTES-clause-long g c is =
    let received = c.in_ok-count.ensures.ok in
    (c.read_some.new.bytes.items, rw received.2 (Consumes-trans _ _ _ _ _ c.chunks.invariant.read received.3), omega arith)

pub chunks-preserved : goal.chunks-preserved
chunks-preserved g c =
    let received = c.in_ok-count.ensures.ok in
    record {
      bound = omega arith;
      read = rw received.2 (Consumes-trans _ _ _ _ _ c.chunks.invariant.read received.3);
      chunk_buffer = capacity_kept c.read_some.new.chunk (drop (length c.read_some.new.chunk) c.chunks.chunk.items) c.chunks.chunk.len (omega (arith, c.chunks.chunk.ok.0, c.chunks.invariant.chunk_buffer)) (omega (arith, c.read_some.ensures.chunk_buffer, ap length c.deref_mut.ensures.value, c.chunks.invariant.chunk_buffer));
      failed = search rules;
    }
