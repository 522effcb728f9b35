use Rattle.std.proofs.Common.{rules, ◌≡◌, [], ◌++◌, Err, inl, inr, length, arith, sym, ◌∙◌, ap, subst, refl}
use Rattle.std.proofs.KnownBytes.{Appends-nil, Appends-trans}
use Rattle.esr_base.specs.Watch.{inner}
use Rattle.esr_grammar.specs.Lines.{line_len}
use Rattle.esr_script.specs.Parts.{IsHeldRun}
use Rattle.esr_script.proofs.Buffers.{same_bytes}
use Rattle.esr_script.proofs.Steps.{at_start, advance}
use Rattle.esr_script.proofs.Handed.{handed_on}
use Rattle.esr_script.proofs.Held.{all_sent, all_grown, is_not_read, unread, held_read, held_write}
use Rattle.esr_script.proofs.lines.answer_lines.Goals as goal
use Rattle.esr_script.proofs.lines.answer_lines.Goals.{then-len-ge-OUTPUT_FULL+in_ok-hand_over, else-len-ge-OUTPUT_FULL}

pub lines-init : goal.lines-init
lines-init g c = record {
  bound = omega arith;
  reader = c.requires.reader;
  sink = c.requires.sink;
  text = λ input known. ([], Appends-nil _, rw c.requires.count (at_start input _ _ _ _ known c.requires.pending c.requires.script c.requires.out));
}

pub returns-in_err-received-clause-text : goal.returns-in_err-received-clause-text
returns-in_err-received-clause-text g c = rw (handed_on _ _ c.from_residual.ensures.1) λ input known.
    let inv = c.lines.invariant.text input known in
    let more = rw c.bytes.ensures at c.in-More.ensures in
    elim c.in_err-received.ensures.faults [
      | inl e ↦
          let none = c.in_err-received.ensures.read (ap (λ f. Err f) e) in
          let sent = c.in_err-received.ensures.sent (rw e refl) in
          let here = all_sent _ (unread input _ _ _ _ _ _ _ inv.2 none.0 none.1) in
          let plain : line_len c.read_on.new.pending ≡ length c.read_on.new.pending = rw none.0 more.0 in
          (inv.0 ++ c.lines.out, Appends-trans _ _ _ _ _ inv.1 sent.1, rw (e, sent.0) (held_read input _ _ _ _ (inv.0 ++ c.lines.out) [] here plain))
      | inr e ↦
          let part = c.in_err-received.ensures.write (ap (λ f. Err f) e) in
          let other = g.R.Read.remaining (inner c.read_on.new.reader) in (
            inv.0 ++ part.0,
            Appends-trans _ _ _ _ _ inv.1 part.2,
            subst (λ f. IsHeldRun input other c.read_on.new.out (Err f) (inv.0 ++ part.0)) (sym e) (held_write input _ _ _ _ inv.0 _ inv.2 part.0 part.1 other c.read_on.new.out),
          )
    ]

pub returns-then-received-eq0-clause-text : goal.returns-then-received-eq0-clause-text
returns-then-received-eq0-clause-text g c input known =
    let inv = c.lines.invariant.text input known in
    let more = rw c.bytes.ensures at c.in-More.ensures in
    let received = c.in_ok-received.ensures.ok in
    let sent = c.in_ok-received.ensures.sent refl in
    let here = all_sent _ (advance input _ _ _ _ _ _ _ received.0 inv.2 received.2 received.3) in
    let same : c.read_on.new.pending ≡ c.lines.pending = same_bytes _ _ received.0 _ received.1 c.if-received-eq0.true received.2 in
    let plain : line_len c.read_on.new.pending ≡ length c.read_on.new.pending = rw same more.0 in
    let held = c.answer_last.ensures.held input (inv.0 ++ c.lines.out) _ (rw sent.0 here) (received.4 c.if-received-eq0.true) plain in (
      (inv.0 ++ c.lines.out) ++ held.0,
      Appends-trans _ _ _ _ _ (Appends-trans _ _ _ _ _ inv.1 sent.1) held.1,
      held.2,
    )

pub returns-in_err-received-clause-replay : goal.returns-in_err-received-clause-replay
returns-in_err-received-clause-replay g c = rw (handed_on _ _ c.from_residual.ensures.1) λ kept input known. elim c.in_err-received.ensures.faults [
  | inl e ↦ rw e tt
  | inr e ↦ let lost = rw e at kept in absurd (cc)
]

pub returns-then-received-eq0-clause-replay : goal.returns-then-received-eq0-clause-replay
returns-then-received-eq0-clause-replay g c kept input known =
    let inv = c.lines.invariant.text input known in
    let more = rw c.bytes.ensures at c.in-More.ensures in
    let received = c.in_ok-received.ensures.ok in
    let here = advance input _ _ _ _ _ _ _ received.0 inv.2 received.2 received.3 in
    let same : c.read_on.new.pending ≡ c.lines.pending = same_bytes _ _ received.0 _ received.1 c.if-received-eq0.true received.2 in
    let plain : line_len c.read_on.new.pending ≡ length c.read_on.new.pending = rw same more.0 in
    c.answer_last.ensures.replay input _ _ here (received.4 c.if-received-eq0.true) plain

pub lines-preserved-in-More : goal.lines-preserved-in-More
lines-preserved-in-More g c =
    record {
      bound = c.lines.invariant.bound;
      reader = c.in_ok-received.ensures.reader;
      sink = c.in_ok-received.ensures.sink;
      text = λ input known.
          let inv = c.lines.invariant.text input known in
          let received = c.in_ok-received.ensures.ok in
          let sent = c.in_ok-received.ensures.sent refl in
          let here = all_sent _ (advance input _ _ _ _ _ _ _ received.0 inv.2 received.2 received.3) in
          (inv.0 ++ c.lines.out, Appends-trans _ _ _ _ _ inv.1 sent.1, rw sent.0 here);
    }

pub returns-in_err-answer_next : goal.returns-in_err-answer_next
returns-in_err-answer_next g c =
    rw (handed_on _ _ c.from_residual-in_err-answer_next.ensures.1) record {
      text = λ input known.
          let inv = c.lines.invariant.text input known in
          let held = c.in_err-answer_next.ensures.held input inv.0 _ inv.2 in
          (inv.0 ++ held.0, Appends-trans _ _ _ _ _ inv.1 held.1, held.2);
      replay = λ kept input known.
          let inv = c.lines.invariant.text input known in
          c.in_err-answer_next.ensures.replay input _ _ inv.2;
      read = λ h. absurd (is_not_read _ c.in_err-answer_next.ensures.read h);
      reader = c.lines.invariant.reader ∙ sym c.in_err-answer_next.ensures.read;
      sink = c.lines.invariant.sink ∙ sym c.in_err-answer_next.ensures.write;
    }

pub returns-in_err-hand_over : goal.returns-in_err-hand_over
returns-in_err-hand_over g c =
    rw (handed_on _ _ c.from_residual-in_err-hand_over.ensures.1) record {
      text = λ input known.
          let inv = c.lines.invariant.text input known in
          let answered = c.in_ok-answer_next.ensures.text in
          let after = all_grown inv.0 _ answered.0 answered.1 _ answered.2 (answered.4 input _ _ inv.2) in
          let front = inv.0 ++ answered.1 in
          let failed = c.in_err-hand_over.ensures.err in
          let part = failed.1 in
          (front ++ part.0, Appends-trans _ _ _ _ _ (Appends-trans _ _ _ _ _ inv.1 answered.3) part.2, rw failed.0 (held_write input _ _ _ _ front _ after part.0 part.1 (g.R.Read.remaining (inner c.lines.reader)) c.hand_over.new.out));
      replay = λ kept input known.
          let is = c.in_err-hand_over.ensures.err.0 in
          let lost = rw is at kept in
          absurd (cc);
      read = λ h. let is = c.in_err-hand_over.ensures.err.0 in cc;
      reader = let is = c.in_err-hand_over.ensures.err.0 in rw is c.lines.invariant.reader;
      sink = search rules;
    }

pub lines-preserved : goal.lines-preserved
lines-preserved g c =
    record {
      bound = omega (arith, c.lines.invariant.bound, c.in_ok-answer_next.ensures.count_within_max);
      reader = c.lines.invariant.reader;
      sink = elim c.if-len-ge-OUTPUT_FULL.branch [
        | then-len-ge-OUTPUT_FULL+in_ok-hand_over w ↦ rw w.sink-is (w.in_ok-hand_over.ensures.failed ∙ rw c.lines.invariant.sink refl)
        | else-len-ge-OUTPUT_FULL w ↦ rw w.sink-is c.lines.invariant.sink
      ];
      text = λ input known.
          let inv = c.lines.invariant.text input known in
          let answered = c.in_ok-answer_next.ensures.text in
          let after = all_grown inv.0 _ answered.0 answered.1 _ answered.2 (answered.4 input _ _ inv.2) in
          let front = inv.0 ++ answered.1 in
          let taken = Appends-trans _ _ _ _ _ inv.1 answered.3 in
          elim c.if-len-ge-OUTPUT_FULL.branch [
            | then-len-ge-OUTPUT_FULL+in_ok-hand_over w ↦
                let sent = w.in_ok-hand_over.ensures.ok in
                rw (w.sink-is, w.out-is) (front ++ c.answer_next.new.out, Appends-trans _ _ _ _ _ taken sent.1, rw sent.0 (all_sent _ after))
            | else-len-ge-OUTPUT_FULL w ↦ rw (w.sink-is, w.out-is) (front, taken, after)
          ];
    }
