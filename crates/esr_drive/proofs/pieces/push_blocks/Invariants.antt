use Rattle.std.proofs.Common.{◌≡◌, ◌++◌, All, flat_map}
use Rattle.esr_drive.proofs.Pieced.{piece_text, IsMade}
use Rattle.esr_drive.proofs.pieces.push_blocks.Given as goal

-- the text has the pieces so far
abbrev pub invariant-loop-piece : goal.invariant-loop-piece
invariant-loop-piece g l = (l.text ≡ l.fn.text ++ flat_map piece_text l.yielded) × All IsMade l.yielded
