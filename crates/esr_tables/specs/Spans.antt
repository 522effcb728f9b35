-- The first and the last line of a transaction, as found.
use Rattle.std.specs.Prelude.{ℕ, slice_index_or}
use Rattle.esr_tables.specs.declared.spans.LineSpan.{LineSpan}
use Rattle.esr_tables.specs.declared.spans.Spans.{Spans}

abbrev pub span_of : Spans → ℕ → LineSpan
span_of s t = slice_index_or (s.0).items t (record { first = 0; last = 0 })

abbrev pub first_of : Spans → ℕ → ℕ
first_of s t = (span_of s t).first

abbrev pub last_of : Spans → ℕ → ℕ
last_of s t = (span_of s t).last
