use Rattle.std.proofs.Common.{◌≡◌, ◌-◌, ◌≤◌, ◌∙◌, ap, [], ◌∷◌, length, set, get_or, arith}
use Rattle.std.specs.List.{insert}
use Rattle.std.proofs.Math.ListN.{length-append, length-set}
use Rattle.esr_locks.proofs.Shorts.{inserted_last, moved_one}
use Rattle.esr_locks.proofs.ascending_list.move_last.Goals as goal

pub loop-place-init : goal.loop-place-init
loop-place-init g c = record {
  in_range = omega (arith, c.requires);
  above = omega (arith, c.requires);
  items = λ xs is. is ∙ inserted_last xs (length c.args.stored.now - 1) c.args.element (omega (arith, ap length is, length-append xs (c.args.element ∷ [])));
}

pub loop-place-preserved : goal.loop-place-preserved
loop-place-preserved g c =
    let place = c.loop-place.place in
    let lower = c.index-stored-place.result in
    record {
      in_range = omega (arith, c.loop-place.invariant.in_range, length-set (set c.loop-place.stored place lower) (place - 1), length-set c.loop-place.stored place);
      above = omega (arith, c.loop-place-test.true);
      items = λ xs is.
          let here : c.loop-place.stored ≡ insert xs place c.args.element = c.loop-place.invariant.items xs is in
          let before : lower ≡ get_or (insert xs place c.args.element) (place - 1) lower = c.index-stored-place.is ∙ ap (λ l. get_or l (place - 1) lower) here in
          let inside : place ≤ length xs = omega (arith, c.loop-place.invariant.in_range, c.loop-place.auto.stored, ap length is, length-append xs (c.args.element ∷ [])) in
          ap (λ l. set (set l place lower) (place - 1) c.args.element) here
          ∙ moved_one xs place c.args.element lower (omega (arith, c.loop-place-test.true)) inside before;
    }
