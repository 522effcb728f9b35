use Rattle.std.proofs.Common.{Err, inl, inr, refl, ap, ◌++◌}
use Rattle.esr_script.proofs.Handed.{handed_on}
use Rattle.esr_script.proofs.Held.{has_bytes, held_memory, held_long, held_many, held_full, held_same, some_gone}
use Rattle.esr_script.proofs.Replays.{replay_many, replay_long, replay_full, replay_more}
use Rattle.esr_script.proofs.answers.answer_next.Goals as goal

pub returns-in_err-length-clause-held : goal.returns-in_err-length-clause-held
returns-in_err-length-clause-held g c = rw (handed_on _ _ c.from_residual.ensures.1) λ input sent left here. held_same _ input left c.args.out.now (Err c.in_err-length.field-0.0) sent (elim c.in_err-length.ensures.faults [
  | inl e ↦ rw e (held_many input left _ _ _ sent _ here (c.in_err-length.ensures.many (ap (λ f. Err f) e)) (has_bytes _ _ c.requires.next c.requires.is_complete))
  | inr e ↦ let is = c.in_err-length.ensures.long (ap (λ f. Err f) e) in rw e (held_long input left _ _ _ sent _ here is.1 (rw is.0 at c.requires.next))
])

pub returns-in_err-length-clause-replay : goal.returns-in_err-length-clause-replay
returns-in_err-length-clause-replay g c = rw (handed_on _ _ c.from_residual.ensures.1) λ input written left here. elim c.in_err-length.ensures.faults [
  | inl e ↦ rw e (replay_many input left _ _ _ written here (c.in_err-length.ensures.many (ap (λ f. Err f) e)) (has_bytes _ _ c.requires.next c.requires.is_complete))
  | inr e ↦ let is = c.in_err-length.ensures.long (ap (λ f. Err f) e) in rw e (replay_long input left _ _ _ written here is.1 (rw is.0 at c.requires.next))
]

pub returns-in_err-answer : goal.returns-in_err-answer
returns-in_err-answer g c =
    let found = rw c.in_ok-length.ensures.ok.0 at c.requires.next in
    let count_within_max = c.in_ok-length.ensures.ok.1 in
    let kept = c.in_err-answer.ensures.err in
    let faults = rw c.bytes.ensures at c.in_err-answer.ensures.faults in
    rw (handed_on _ _ c.from_residual-in_err-answer.ensures.1) record {
      count_within_max = tt;
      text = tt;
      held = λ input sent left here.
          let at = some_gone sent _ kept.0 _ kept.1 here in (
            kept.0,
            kept.2,
            elim faults [
              | inl e ↦ rw e (held_memory input left _ _ _ (sent ++ kept.0) _ at left)
              | inr e ↦ rw e.0 (held_full input left _ _ _ (sent ++ kept.0) _ at c.in_ok-length.length count_within_max found e.1)
            ],
          );
      replay = λ input written left here. elim faults [
        | inl e ↦ rw e tt
        | inr e ↦ rw e.0 (replay_full input left _ _ _ written here c.in_ok-length.length count_within_max found e.1)
      ];
      read = elim faults [ inl e ↦ rw e refl | inr e ↦ rw e.0 refl ];
      write = elim faults [ inl e ↦ rw e refl | inr e ↦ rw e.0 refl ];
    }

pub returns-clause-text : goal.returns-clause-text
returns-clause-text g c =
    let found = rw c.in_ok-length.ensures.ok.0 at c.requires.next in
    let answered = rw c.bytes.ensures at c.in_ok-answer.ensures.ok in (
      answered.0,
      answered.1,
      answered.3,
      answered.4,
      λ input written left here.
          rw (← c.skip.ensures) at (replay_more input left _ _ _ written here c.in_ok-length.length _ answered.0 c.in_ok-length.ensures.ok.1 found answered.2),
    )
