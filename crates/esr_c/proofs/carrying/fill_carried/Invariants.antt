use Rattle.std.proofs.Common.{◌≡◌, drop, length, map, take}
use Rattle.esr_c.specs.Answers.{carried_fields}
use Rattle.esr_c.proofs.carrying.fill_carried.Given as goal

abbrev pub invariant-loop-i : goal.invariant-loop-i
invariant-loop-i l = record {
  filled : take l.i l.buffer ≡ map carried_fields (take l.i l.list);
  rest : drop (length l.list) l.buffer ≡ drop (length l.list) l.initial.buffer;
}
