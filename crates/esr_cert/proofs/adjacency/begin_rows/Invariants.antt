use Rattle.std.proofs.Common.{◌≡◌, ℕ, ◌<◌, length, take, sum}
use Rattle.esr_cert.specs.Adjacency.{span_at}
use Rattle.esr_cert.proofs.adjacency.begin_rows.Given as goal

abbrev pub invariant-loop-length : goal.invariant-loop-length
invariant-loop-length l = record {
  begin : l.begin ≡ sum (take l.length-index l.lengths);
  count : length l.spans.items ≡ l.length-index;
  begun : (v : ℕ) → v < l.length-index → span_at l.spans.items v ≡ record { begin = sum (take v l.lengths); end = sum (take v l.lengths) };
}
