use Rattle.std.proofs.Common.{◌≡◌, ◌≤◌, ◌+◌, ◌⊎◌, ◌∙◌, ℕ, ℤ, Bool, List, Option, Some, IfSome, length, subst, sym, inl, inr, arith}
use Rattle.esr_history.specs.Machine.{Schedule}
use Rattle.esr_history.specs.Queries.{must}
use Rattle.esr_order.specs.Placements.{IsClosed}
use Rattle.esr_bound.specs.Amounts.{AreForced, among_marked}
use Rattle.esr_stream.specs.Passes.{AreStates, HasBound, HasStates, IsEnough, IsPrefixMarked, ItemState, NoneMarkedFrom, StayMarked, amounts_sum, loans_sum, unowed_at}
use Rattle.esr_stream.specs.Query.{cost_in, updates_of}
use Rattle.esr_stream.specs.declared.rounds.MarkedPrefix.{MarkedPrefix}
use Rattle.esr_stream.specs.declared.rounds.RoundEnd.{RoundEnd}
use Rattle.esr_stream.proofs.PassLaws.{enough_at_end}
use Rattle.esr_stream.proofs.rounds.mark_least.Goals as goal

-- a fact about what is found
of_some : (P : RoundEnd → Type 0) (o : Option RoundEnd) (x : RoundEnd) → o ≡ Some x → IfSome o P → P x
of_some P o x is fact = subst (λ o. IfSome o P) is fact

-- a property of both prefixes is one of the later one that is marked
of_both : (P : MarkedPrefix → Type 0) (Q : Type 0) (p a b : MarkedPrefix) → (p ≡ a) ⊎ ((p ≡ b) × Q) → P a → (Q → P b) → P p
of_both P Q p a b (inl e) pa pb = subst P (sym e) pa
of_both P Q p a b (inr e) pa pb = subst P (sym e.0) (pb e.1)

enough : (worth : ℕ) (summed states from : List ItemState) → worth + loans_sum summed ≤ amounts_sum summed → summed ≡ from → states ≡ from → worth + loans_sum states ≤ amounts_sum states
enough worth summed states from low a b = subst (λ (l : List ItemState). worth + loans_sum l ≤ amounts_sum l) (a ∙ sym b) low

-- a position from which a round can start
record IsUsable (C : ℕ → ℤ → ℕ) (h : Schedule) (q to : ℕ) (marks : List Bool) (p : MarkedPrefix) : Type 0 where
  low : length (must h q) ≤ p.len
  high : p.len ≤ to
  marked : IsPrefixMarked p.len marks
  states : HasStates C h q p

-- a stop is one if all updates before it are marked
stop_usable : (C : ℕ → ℤ → ℕ) (h : Schedule) (q from to marked : ℕ) (marks : List Bool) (p : MarkedPrefix) → length (must h q) ≤ from → IsPrefixMarked marked marks
    → (from ≤ p.len) × (p.len ≤ to) → HasStates C h q p → p.len ≤ marked → IsUsable C h q to marks p
stop_usable C h q from to marked marks p mandatory firsts around states l = record { low = omega (arith, mandatory, around.0); high = around.1; marked = λ i m. firsts i (omega (arith, m, l)); states = states }

-- so the next round can start at the last of its start and its stops before which all updates are marked
last_usable : (C : ℕ → ℤ → ℕ) (h : Schedule) (q count marked : ℕ) (old new : List Bool) (start later last : MarkedPrefix) (o : Option RoundEnd) (done : RoundEnd) → o ≡ Some done
    → length (must h q) ≤ start.len → IsPrefixMarked start.len old → HasStates C h q start → StayMarked old new → IsPrefixMarked marked new
    → IfSome o (λ e. (start.len ≤ e.stops.first.len) × (e.stops.first.len ≤ e.stops.end.len))
    → IfSome o (λ e. (start.len ≤ e.stops.second.len) × (e.stops.second.len ≤ e.stops.end.len))
    → IfSome o (λ e. (start.len ≤ e.stops.end.len) × (e.stops.end.len ≤ count))
    → IfSome o (λ e. HasStates C h q e.stops.first × HasStates C h q e.stops.second)
    → (later ≡ start) ⊎ ((later ≡ done.stops.first) × (done.stops.first.len ≤ marked))
    → (last ≡ later) ⊎ ((last ≡ done.stops.second) × (done.stops.second.len ≤ marked))
    → IsUsable C h q done.stops.end.len new last
last_usable C h q count marked old new start later last o done is mandatory firsts states stay marked_firsts first second end stops e f =
    let to = done.stops.end.len in
    let a = of_some (λ e. (start.len ≤ e.stops.first.len) × (e.stops.first.len ≤ e.stops.end.len)) o done is first in
    let b = of_some (λ e. (start.len ≤ e.stops.second.len) × (e.stops.second.len ≤ e.stops.end.len)) o done is second in
    let z = of_some (λ e. (start.len ≤ e.stops.end.len) × (e.stops.end.len ≤ count)) o done is end in
    let s = of_some (λ e. HasStates C h q e.stops.first × HasStates C h q e.stops.second) o done is stops in
    let usable : IsUsable C h q to new start = record { low = mandatory; high = z.0; marked = λ i l. stay i (firsts i l); states = states } in
    of_both (IsUsable C h q to new) (done.stops.second.len ≤ marked) last later done.stops.second f
    (of_both (IsUsable C h q to new) (done.stops.first.len ≤ marked) later start done.stops.first e usable (stop_usable C h q start.len to marked new done.stops.first mandatory marked_firsts a s.0))
    (stop_usable C h q start.len to marked new done.stops.second mandatory marked_firsts b s.1)

pub round-requires-clause-start_states : goal.round-requires-clause-start_states
round-requires-clause-start_states g c = λ ms firsts.
    let a = c.args.query.now in
    subst (λ (l : List ItemState). AreStates (cost_in g.M.Metric.distance_by a) a.schedule a.query c.loop-round.prefix.len ms l) (sym c.deref-in-loop-round.ensures.value) (c.loop-round.invariant.states ms firsts)

pub returns-then-is_final-clause-within : goal.returns-then-is_final-clause-within
returns-then-is_final-clause-within g c =
    let a = c.args.query.now in
    let C = cost_in g.M.Metric.distance_by a in
    let i = c.loop-round.invariant in
    let u = last_usable C a.schedule a.query (length (updates_of a)) c.marked_prefix_len-marked_len.result c.loop-round.marks c.round.new.marks c.loop-round.prefix c.later_prefix-prefix.result c.later_prefix-prefix-in-loop-round.result _ c.in-Some.done c.in-Some.is
    i.low i.prefix_marked i.states c.round.ensures.stay c.marked_prefix_len-marked_len.ensures.prefix_marked c.in_ok-found.ensures.first c.in_ok-found.ensures.second c.in_ok-found.ensures.end c.in_ok-found.ensures.stops c.later_prefix-prefix.ensures c.later_prefix-prefix-in-loop-round.ensures in
    omega (arith, u.high, c.is_final.ensures c.if-is_final.true, c.update_count-count.ensures)

pub returns-then-is_final-clause-prefix_marked : goal.returns-then-is_final-clause-prefix_marked
returns-then-is_final-clause-prefix_marked g c =
    let a = c.args.query.now in
    let C = cost_in g.M.Metric.distance_by a in
    let i = c.loop-round.invariant in
    (last_usable C a.schedule a.query (length (updates_of a)) c.marked_prefix_len-marked_len.result c.loop-round.marks c.round.new.marks c.loop-round.prefix c.later_prefix-prefix.result c.later_prefix-prefix-in-loop-round.result _ c.in-Some.done c.in-Some.is
    i.low i.prefix_marked i.states c.round.ensures.stay c.marked_prefix_len-marked_len.ensures.prefix_marked c.in_ok-found.ensures.first c.in_ok-found.ensures.second c.in_ok-found.ensures.end c.in_ok-found.ensures.stops c.later_prefix-prefix.ensures c.later_prefix-prefix-in-loop-round.ensures).marked

pub returns-then-is_final-clause-states : goal.returns-then-is_final-clause-states
returns-then-is_final-clause-states g c =
    let a = c.args.query.now in
    let C = cost_in g.M.Metric.distance_by a in
    let i = c.loop-round.invariant in
    (last_usable C a.schedule a.query (length (updates_of a)) c.marked_prefix_len-marked_len.result c.loop-round.marks c.round.new.marks c.loop-round.prefix c.later_prefix-prefix.result c.later_prefix-prefix-in-loop-round.result _ c.in-Some.done c.in-Some.is
    i.low i.prefix_marked i.states c.round.ensures.stay c.marked_prefix_len-marked_len.ensures.prefix_marked c.in_ok-found.ensures.first c.in_ok-found.ensures.second c.in_ok-found.ensures.end c.in_ok-found.ensures.stops c.later_prefix-prefix.ensures c.later_prefix-prefix-in-loop-round.ensures).states

pub returns-then-is_final-clause-forced_and_closed : goal.returns-then-is_final-clause-forced_and_closed
returns-then-is_final-clause-forced_and_closed g c =
    let a = c.args.query.now in
    let h = a.schedule in
    let q = a.query in
    let n = length h.opening in
    let C = cost_in g.M.Metric.distance_by a in
    let states : List ItemState = c.deref-in-loop-round.result.now in
    let end = c.in-Some.done.stops.end in
    let low : c.args.worth + loans_sum states ≤ amounts_sum states = enough c.args.worth c.deref.result.now states c.loop-round.prefix.states.items (c.is_worth.ensures c.if-not-is_worth.false) c.deref.ensures.value c.deref-in-loop-round.ensures.value in
    let at_end : IsEnough n C h q end = enough_at_end h q C end.len (unowed_at end.states.items) (c.is_final.ensures c.if-is_final.true ∙ c.update_count-count.ensures) in
    let shown = of_some (λ e. (w : ℕ) → w + loans_sum states ≤ amounts_sum states → (IsEnough n C h q c.loop-round.last_end → AreForced n C h q w c.loop-round.marks) → IsEnough n C h q e.stops.end → AreForced n C h q w c.round.new.marks × HasBound n C h q w) _ _ c.in-Some.is c.in_ok-found.ensures.forced c.args.worth low c.loop-round.invariant.forced at_end in
    record {
      bound = shown.1;
      forced = shown.0;
      closed = of_some (λ _. IsClosed h q (among_marked (updates_of a) c.round.new.marks)) _ _ c.in-Some.is c.in_ok-found.ensures.closed;
    }

pub loop-round-preserved : goal.loop-round-preserved
loop-round-preserved g c =
    let a = c.args.query.now in
    let h = a.schedule in
    let q = a.query in
    let n = length h.opening in
    let C = cost_in g.M.Metric.distance_by a in
    let i = c.loop-round.invariant in
    let u = last_usable C h q (length (updates_of a)) c.marked_prefix_len-marked_len.result c.loop-round.marks c.round.new.marks c.loop-round.prefix c.later_prefix-prefix.result c.later_prefix-prefix-in-loop-round.result _ c.in-Some.done c.in-Some.is
    i.low i.prefix_marked i.states c.round.ensures.stay c.marked_prefix_len-marked_len.ensures.prefix_marked c.in_ok-found.ensures.first c.in_ok-found.ensures.second c.in_ok-found.ensures.end c.in_ok-found.ensures.stops c.later_prefix-prefix.ensures c.later_prefix-prefix-in-loop-round.ensures in
    let states : List ItemState = c.deref-in-loop-round.result.now in
    let low : c.args.worth + loans_sum states ≤ amounts_sum states = enough c.args.worth c.deref.result.now states c.loop-round.prefix.states.items (c.is_worth.ensures c.if-not-is_worth.false) c.deref.ensures.value c.deref-in-loop-round.ensures.value in
    record {
      len = c.round.ensures.len ∙ i.len;
      low = u.low;
      within = u.high;
      high = (of_some (λ e. (c.loop-round.prefix.len ≤ e.stops.end.len) × (e.stops.end.len ≤ length (updates_of a))) _ _ c.in-Some.is c.in_ok-found.ensures.end).1;
      prefix_marked = u.marked;
      none_marked = of_some (λ e. NoneMarkedFrom e.stops.end.len c.round.new.marks) _ _ c.in-Some.is c.in_ok-found.ensures.none_marked;
      states = u.states;
      forced = λ at_end. (of_some (λ e. (w : ℕ) → w + loans_sum states ≤ amounts_sum states → (IsEnough n C h q c.loop-round.last_end → AreForced n C h q w c.loop-round.marks) → IsEnough n C h q e.stops.end → AreForced n C h q w c.round.new.marks × HasBound n C h q w) _ _ c.in-Some.is c.in_ok-found.ensures.forced c.args.worth low i.forced at_end).0;
    }
