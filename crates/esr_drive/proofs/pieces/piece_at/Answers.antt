use Rattle.std.proofs.Common.{◌≡◌, [], List, get_or, IfOk, length, map, arith, ap, ap₂, sym, subst, ◌∙◌}
use Rattle.std.proofs.lemmas.List.{length-map}
use Rattle.esr_plan.specs.Blocks.{Answered}
use Rattle.esr_plan.specs.Calls.{answers_of, all_answers}
use Rattle.esr_plan.specs.Tables.{names_in}
use Rattle.esr_plan.specs.Text.{block_text}
use Rattle.esr_plan.proofs.Noting.{as_many, block_answered, items_at, all_at}
use Rattle.esr_drive.proofs.pieces.piece_at.Goals as goal

pub bounds-replies-i : goal.bounds-replies-i
bounds-replies-i c = omega (arith, as_many c.args.blocks.now c.args.replies.now c.requires.answered, c.requires.within)

pub block_text-requires : goal.block_text-requires
block_text-requires c =
    ap length c.as_slice-2.ensures.value
    ∙ (block_answered c.args.blocks.now c.args.replies.now c.args.i c.index-blocks-i.result c.index-replies-i.result c.requires.answered c.requires.within c.index-blocks-i.is c.index-replies-i.is
    ∙ ap length (sym c.as_slice.ensures.value))

pub returns : goal.returns
returns c =
    let bs = c.args.blocks.now in
    let rs = c.args.replies.now in
    let b = c.index-blocks-i.result in
    let r = c.index-replies-i.result in
    let lt = c.requires.within in
    let are = c.requires.answered in
    let at : answers_of c.as_slice.result.now c.as_slice-2.result.now ≡ get_or (all_answers (map (λ b. b.items) bs) (map (λ r. r.items) rs)) c.args.i [] =
    ap₂ answers_of c.as_slice.ensures.value c.as_slice-2.ensures.value
    ∙ all_at (map (λ b. b.items) bs) (map (λ r. r.items) rs) c.args.i b.items r.items [] are (omega (arith, lt, length-map bs (λ b. b.items))) (items_at (λ b. b.items) bs c.args.i b lt c.index-blocks-i.is)
    (items_at (λ r. r.items) rs c.args.i r (omega (arith, lt, as_many bs rs are)) c.index-replies-i.is) in
    subst (λ (a : List Answered). IfOk c.block_text.result (λ text. text.items ≡ block_text (names_in c.args.names.now) c.args.i a)) at c.block_text.ensures
