use Rattle.std.proofs.Common.{◌++◌, ◌∙◌, sym}
use Rattle.std.proofs.KnownBytes.{Appends-trans}
use Rattle.esr_script.proofs.runs.run.Goals as goal

pub returns : goal.returns
returns g c = record {
  text = λ input known.
      let held = c.answer_lines-ended.ensures.text input known in
      let rest = c.send_rest-ended.ensures.text input held.0 _ (rw (← c.take_text-text.ensures.text) at held.2) in
      (held.0 ++ rest.0, Appends-trans _ _ _ _ _ held.1 rest.1, rest.2);
  reader = c.answer_lines-ended.ensures.reader ∙ sym c.send_rest-ended.ensures.read;
  writer = c.send_rest-ended.ensures.writer;
}
