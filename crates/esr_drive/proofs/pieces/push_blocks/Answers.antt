use Rattle.std.proofs.Common.{◌≡◌, ◌++◌, ◌∷◌, [], ◌∙◌, All, Ok, map, flat_map, ap, sym, subst}
use Rattle.std.proofs.lemmas.List.Elements.{All-push}
use Rattle.esr_plan.specs.Calls.{all_answers}
use Rattle.esr_plan.specs.Tables.{names_in}
use Rattle.esr_drive.specs.Pieces.{ArePieces}
use Rattle.esr_drive.proofs.Pieced.{Piece, piece_text, IsMade, piece_more, pieces_all, yielded_all}
use Rattle.esr_drive.proofs.pieces.push_blocks.Goals as goal

pub loop-piece-preserved : goal.loop-piece-preserved
loop-piece-preserved g c =
    let before = c.loop-piece.yielded in
    let old = c.args.text.now in
    let inv = c.loop-piece.invariant in
    subst (λ (piece : Piece). (c.push.new.self ≡ old ++ flat_map piece_text (before ++ piece ∷ [])) × All IsMade (before ++ piece ∷ [])) (sym c.in-Ok.is)
    (piece_more before c.in-Ok.lines old c.loop-piece.text c.push.new.self inv.0 c.in_ok-push-in-Ok.ensures, All-push IsMade before (Ok c.in-Ok.lines) inv.1 tt)

pub returns : goal.returns
returns g c =
    let bs = all_answers (map (λ b. b.items) c.args.blocks.now) (map (λ r. r.items) c.args.replies.now) in
    let names = names_in c.args.names.now in
    let inv = c.loop-piece.invariant in
    let it = c.into_iter-piece-iterator in
    let all : c.loop-piece.yielded ≡ c.in_ok-pieces.pieces.items =
    yielded_all it.result c.loop-piece.yielded c.loop-piece.piece-iterator c.loop-piece.yielded_by c.in-None.ensures.steps.0 ∙ it.ensures.into_iter_gives.0 in
    let are = subst (λ pieces. ArePieces names bs pieces) (sym all) c.in_ok-pieces.ensures in
    inv.0 ∙ ap (λ l. c.args.text.now ++ l) (pieces_all names bs c.loop-piece.yielded are inv.1)
