use Rattle.std.proofs.Common.{◌≡◌, ◌+◌, ◌∙◌, ap, arith, length, refl}
use Rattle.std.proofs.lemmas.List.FromFn.{length-map-range_with_len, map-range_with_len_more}
use Rattle.esr_dump.specs.Naming.{numbered, all_numbered}
use Rattle.esr_dump.proofs.Numbers.{unbound}
use Rattle.esr_dump.proofs.name_tables.names_by_number.Goals as goal

pub bind-requires-clause-unbound : goal.bind-requires-clause-unbound
bind-requires-clause-unbound c =
    let word = c.args.word.now in let first = c.args.first in let i = c.loop-i.i in
    let is : c.deref.result.now ≡ numbered word (first + i) = cc (c.deref.ensures, c.in_ok-name.ensures) in
    let before : c.loop-i.names ≡ all_numbered word first i = c.loop-i.invariant in
    rw (is, before) (unbound word first i (omega arith))

pub bind-requires-clause-count_within_max : goal.bind-requires-clause-count_within_max
bind-requires-clause-count_within_max c =
    let before : c.loop-i.names ≡ all_numbered c.args.word.now c.args.first c.loop-i.i = c.loop-i.invariant in
    omega (arith, ap length before ∙ length-map-range_with_len (numbered c.args.word.now) c.args.first c.loop-i.i)

pub loop-i-preserved : goal.loop-i-preserved
loop-i-preserved c =
    let word = c.args.word.now in let first = c.args.first in let i = c.loop-i.i in
    let is : c.deref.result.now ≡ numbered word (first + i) = cc (c.deref.ensures, c.in_ok-name.ensures) in
    let more = map-range_with_len_more (numbered word) first i (first + i) refl in
    c.in_ok-bind.ensures.appended ∙ cc (is, more, c.loop-i.invariant)
