use Rattle.std.proofs.Common.{◌≡◌, ℕ, Option, Some, IfSome, length, subst}
use Rattle.esr_stream.specs.Passes.{KeepsEnough, KeepsInvariant}
use Rattle.esr_stream.specs.Query.{cost_in}
use Rattle.esr_stream.proofs.StepLaws.{same_covered, states_covered}
use Rattle.esr_stream.proofs.rounds.pass_to.Goals as goal

-- a fact about what is found
of_some : (P : ℕ → Type 0) (o : Option ℕ) (x : ℕ) → o ≡ Some x → IfSome o P → P x
of_some P o x is fact = subst (λ o. IfSome o P) is fact

pub returns-clause-same_amounts : goal.returns-clause-same_amounts
returns-clause-same_amounts g c = same_covered c.pass.new.states c.in_ok-kept.kept.items c.in_ok-kept.ensures

pub returns-clause-pass_invariant : goal.returns-clause-pass_invariant
returns-clause-pass_invariant g c =
    let a = c.args.query.now in
    of_some (λ k. KeepsInvariant (length a.schedule.opening) (cost_in g.M.Metric.distance_by a) a.schedule a.query c.args.from k c.args.marks.now c.args.states.now c.pass.new.marks c.pass.new.states) _ _ c.in-Some.is c.in_ok-found.ensures.pass_invariant

pub returns-clause-enough : goal.returns-clause-enough
returns-clause-enough g c =
    let a = c.args.query.now in
    of_some (λ k. KeepsEnough (length a.schedule.opening) (cost_in g.M.Metric.distance_by a) a.schedule a.query c.args.from k c.args.marks.now c.args.states.now c.pass.new.states) _ _ c.in-Some.is c.in_ok-found.ensures.enough

pub returns-clause-stop : goal.returns-clause-stop
returns-clause-stop g c = λ worth seeds p ms firsts.
    let a = c.args.query.now in
    let passed = of_some (λ k. KeepsInvariant (length a.schedule.opening) (cost_in g.M.Metric.distance_by a) a.schedule a.query c.args.from k c.args.marks.now c.args.states.now c.pass.new.marks c.pass.new.states) _ _ c.in-Some.is c.in_ok-found.ensures.pass_invariant in
    states_covered a.schedule a.query (cost_in g.M.Metric.distance_by a) c.in-Some.len c.pass.new.marks ms c.pass.new.states c.in_ok-kept.kept.items c.in_ok-kept.ensures firsts
    (passed worth seeds p).states
