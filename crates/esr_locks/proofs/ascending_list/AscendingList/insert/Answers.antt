use Rattle.std.proofs.Common.{◌+◌, refl, arith}
use Rattle.esr_locks.proofs.Suffixes.{drop-insert}
use Rattle.esr_locks.proofs.ascending_list.AscendingList.insert.Goals as goal

pub returns : goal.returns
returns g c =
    let elements = c.self.inside.elements.items in
    let removed = c.self.inside.removed in
    rw (c.insert_reserved.ensures, ← c.self.view_is)
    (drop-insert elements removed c.args.at (removed + c.args.at) c.args.element (omega (arith, c.self.invariant)) refl)
