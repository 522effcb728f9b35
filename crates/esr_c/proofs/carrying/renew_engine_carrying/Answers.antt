use Rattle.std.proofs.Common.{ℕ, ◌≡◌, ◌∙◌, ◌≤◌, List, ap, subst, sym, arith, drop, length, map, take}
use Rattle.esr_items.specs.Weights.{weighted}
use Rattle.esr_history.specs.declared.event.Entry.{Entry}
use Rattle.esr_history.specs.Legal.{continued}
use Rattle.esr_history.specs.Machine.{Schedule, IsLegal}
use Rattle.esr_core.specs.Carried.{IsCarriedOver}
use Rattle.esr_core.specs.Renewed.{AreSerializableAsOne}
use Rattle.esr_engine.specs.Capacity.{counts_of, taken}
use Rattle.esr_engine.specs.Carrying.{carried_in}
use Rattle.esr_engine.specs.declared.engine.EngineCounts.{EngineCounts}
use Rattle.esr_c.specs.Answers.{carried_fields}
use Rattle.esr_c.proofs.Carried.{carried_count}
use Rattle.esr_c.proofs.carrying.renew_engine_carrying.Goals as goal

pub returns-in-Ok-clause-carried : goal.returns-in-Ok-clause-carried
returns-in-Ok-clause-carried g c =
    let h = g.args.engine.now in
    let law = λ (k : Schedule). (later : List Entry) → IsLegal weighted (continued k later) → AreSerializableAsOne h (continued k later) in
    record {
      over = subst (IsCarriedOver weighted h) g.in-Ok.ensures.ok g.in-Ok.ensures.over;
      as_one = subst law g.in-Ok.ensures.ok g.in-Ok.ensures.serializable_as_one;
      room = subst (λ (k : Schedule). taken k ≤ taken h) g.in-Ok.ensures.ok g.in-Ok.ensures.room;
    }

long : (h : Schedule) (k : EngineCounts) (n : ℕ) → k ≡ counts_of h → n ≡ length (carried_in weighted h) → n ≡ k.active
long h k n counts is = is ∙ (carried_count h ∙ sym (ap (λ (k : EngineCounts). k.active) counts))

pub fill_carried-requires : goal.fill_carried-requires
fill_carried-requires c =
    let n = long c.args.engine.now c.counts.result (length c.deref.result.now) c.counts.ensures.counts (ap length (c.deref.ensures.value ∙ c.in-Ok.ensures.listed)) in
    omega (arith, n, c.if-txns-count.false)

pub returns-in-Ok-clause-listed : goal.returns-in-Ok-clause-listed
returns-in-Ok-clause-listed c =
    let n = long c.args.engine.now c.counts.result (length c.deref.result.now) c.counts.ensures.counts (ap length (c.deref.ensures.value ∙ c.in-Ok.ensures.listed)) in
    λ _. ap (λ n. take n c.fill_carried.new.buffer) (sym n) ∙ (c.fill_carried.ensures.filled ∙ ap (map carried_fields) (c.deref.ensures.value ∙ c.in-Ok.ensures.listed))

pub returns-in-Ok-clause-rest : goal.returns-in-Ok-clause-rest
returns-in-Ok-clause-rest c =
    let n = long c.args.engine.now c.counts.result (length c.deref.result.now) c.counts.ensures.counts (ap length (c.deref.ensures.value ∙ c.in-Ok.ensures.listed)) in
    ap (λ n. drop n c.fill_carried.new.buffer) (sym n) ∙ (c.fill_carried.ensures.rest ∙ ap (λ n. drop n c.args.txns.now) n)
