use Rattle.std.proofs.Common.{◌+◌, refl, arith}
use Rattle.esr_locks.proofs.Suffixes.{drop-remove, drop_one_more}
use Rattle.esr_locks.proofs.ascending_list.remove_lazily.Goals as goal

pub returns-then-len-gt-MAX_EAGER_REMOVAL-clause-items : goal.returns-then-len-gt-MAX_EAGER_REMOVAL-clause-items
returns-then-len-gt-MAX_EAGER_REMOVAL-clause-items g c =
    drop_one_more c.args.elements.now.items c.args.removed (c.args.removed + 1) c.args.at (omega (arith, c.requires)) refl c.if-at-eq0.true

pub returns-then-len-le-MAX_SHORT-clause-items : goal.returns-then-len-le-MAX_SHORT-clause-items
returns-then-len-le-MAX_SHORT-clause-items g c =
    rw c.remove_from_short.ensures
    (drop-remove c.args.elements.now.items c.args.removed c.args.at (c.args.removed + c.args.at) (omega (arith, c.requires)) refl)

pub returns-else-len-le-MAX_SHORT-clause-items : goal.returns-else-len-le-MAX_SHORT-clause-items
returns-else-len-le-MAX_SHORT-clause-items g c =
    rw c.remove.ensures.items
    (drop-remove c.args.elements.now.items c.args.removed c.args.at (c.args.removed + c.args.at) (omega (arith, c.requires)) refl)
