use Rattle.std.proofs.Common.{◌≡◌, ◌+◌, List, [], ◌∷◌, ◌++◌, length}
use Rattle.esr_session.specs.Receipts.{IsReceipt, AreBlocked, Receipt}
use Rattle.esr_session.proofs.session.Session.call_patient.Given as goal

-- the calls before the last one were all blocked
abbrev pub invariant-loop-turn : goal.invariant-loop-turn
invariant-loop-turn g l =
    (blocked : List Receipt)
    × (l.self ≡ l.fn.self ++ blocked ++ l.last ∷ [])
    × AreBlocked g.M.Metric.distance_by g.N.Naming.opening g.N.Naming.weights l.event blocked
    × (length blocked + 1 ≡ l._turn)
    × (l.last.event ≡ l.event)
    × IsReceipt g.M.Metric.distance_by g.N.Naming.opening g.N.Naming.weights l.last
