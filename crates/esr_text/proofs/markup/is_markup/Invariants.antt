use Rattle.std.proofs.Common.{length, string_bytes}
use denote.Text.{Utf8}
use denote.Shadow.{shadow}
use Rattle.esr_text.specs.Markup.{Closes, IsMarkup}
use Rattle.esr_text.proofs.markup.is_markup.Given as goal

abbrev pub invariant-loop-tag : goal.invariant-loop-tag
invariant-loop-tag l = shadow (Utf8 l.rest) × (Closes (string_bytes l.path) l.rest → IsMarkup l.fn.text)

abbrev pub decreases-loop-tag : goal.decreases-loop-tag
decreases-loop-tag l = length l.rest
