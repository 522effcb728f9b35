use Rattle.std.proofs.Common.{rules, ◌≡◌, ◌+◌, ◌-◌, ◌<◌, [], length, map, drop, replicate, sym, ap, ◌∙◌, arith, flat_map}
use Rattle.esr_history.specs.BackLinks.{begun_count}
use Rattle.std.proofs.lemmas.List.{length-map}
use Rattle.esr_plan.specs.Calls.{answers_of, all_answers}
use Rattle.esr_plan.specs.Tables.{names_in, noted}
use Rattle.esr_plan.proofs.Noting.{as_many, block_answered, items_at, blocks_noted, none_left, map_replicate, names_noted}
use Rattle.esr_plan.proofs.table.begun_names.Goals as goal

pub loop-i-init : goal.loop-i-init
loop-i-init c = (
  omega arith,
  (let blank : c.in_ok-vec.field-0.items ≡ replicate c.begun_count.result _ = c.in_ok-vec.ensures.items_if_clones_equal (search rules) in
      ap (map (λ n. n.now)) blank ∙ (map_replicate c.begun_count.result _ (search rules) ∙ (ap (λ n. replicate n []) c.begun_count.ensures
      ∙ ap (λ l. noted l (replicate (begun_count c.args.history.now.schedule.entries) [])) (sym (none_left c.args.blocks.now (drop (length c.args.blocks.now) (map (λ r. r.items) c.args.replies.now)) (length c.args.blocks.now) (omega arith)))))),
)

pub bounds-replies-i : goal.bounds-replies-i
bounds-replies-i c = omega (arith, as_many c.args.blocks.now c.args.replies.now c.requires, c.loop-i.invariant.0, c.loop-i-test.true)

pub note_block-requires : goal.note_block-requires
note_block-requires c =
    let lt : c.loop-i.i - 1 < length c.args.blocks.now = omega (arith, c.loop-i.invariant.0, c.loop-i-test.true) in
    ap length c.as_slice-in-loop-i.ensures.value
    ∙ (block_answered c.args.blocks.now c.args.replies.now (c.loop-i.i - 1) c.index-blocks-i.result c.index-replies-i.result c.requires lt c.index-blocks-i.is c.index-replies-i.is
    ∙ ap length (sym c.as_slice.ensures.value))

pub loop-i-preserved : goal.loop-i-preserved
loop-i-preserved c =
    let bs = c.args.blocks.now in
    let rs = c.args.replies.now in
    let i = c.loop-i.i - 1 in
    let b = c.index-blocks-i.result in
    let r = c.index-replies-i.result in
    let more : c.loop-i.i ≡ i + 1 = omega (arith, c.loop-i-test.true) in
    let lt : i < length bs = omega (arith, c.loop-i.invariant.0, c.loop-i-test.true) in
    let calls = map (λ b. b.items) bs in
    let replies = map (λ r. r.items) rs in (
      omega (arith, lt),
      blocks_noted calls replies i b.items r.items (replicate (begun_count c.args.history.now.schedule.entries) []) (names_in c.loop-i.table) (names_in c.note_block.new.self) c.requires
          (omega (arith, lt, length-map bs (λ b. b.items)))
          (items_at (λ b. b.items) bs i b lt c.index-blocks-i.is) (items_at (λ r. r.items) rs i r (omega (arith, lt, as_many bs rs c.requires)) c.index-replies-i.is)
          (c.loop-i.invariant.1 ∙ ap (λ n. noted (flat_map (λ b. b) (all_answers (drop n calls) (drop n replies))) (replicate (begun_count c.args.history.now.schedule.entries) [])) more)
          (c.note_block.ensures ∙ ap (λ l. noted (answers_of l c.as_slice-in-loop-i.result.now) (names_in c.loop-i.table)) c.as_slice.ensures.value ∙ ap (λ l. noted (answers_of b.items l) (names_in c.loop-i.table)) c.as_slice-in-loop-i.ensures.value),
    )

pub returns : goal.returns
returns c =
    let calls = map (λ b. b.items) c.args.blocks.now in
    let replies = map (λ r. r.items) c.args.replies.now in
    let zero : c.loop-i.i ≡ 0 = omega (arith, c.loop-i-test.false) in
    names_noted (all_answers calls replies) (begun_count c.args.history.now.schedule.entries) (names_in c.loop-i.table)
    (c.loop-i.invariant.1 ∙ ap (λ n. noted (flat_map (λ b. b) (all_answers (drop n calls) (drop n replies))) (replicate (begun_count c.args.history.now.schedule.entries) [])) zero)
