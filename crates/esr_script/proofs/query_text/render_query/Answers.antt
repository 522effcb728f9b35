use Rattle.std.proofs.Common.{[], arith, rules}
use Rattle.std.proofs.KnownBytes.{Appends-nil}
use Rattle.esr_script.proofs.Handed.{handed_on}
use Rattle.esr_script.proofs.Ends.{written_fault, written_sent}
use Rattle.esr_script.proofs.query_text.render_query.Goals as goal

pub returns-in_err-text : goal.returns-in_err-text
returns-in_err-text g c = rw (handed_on _ _ c.from_residual.ensures.1) record {
  text = λ input known. ([], Appends-nil _, grind (arith, written_fault, c.in_err-text.ensures.text input known));
  reader = search rules;
  writer = search rules;
}

pub returns : goal.returns
returns g c = record {
  text = λ input known. grind (arith, written_sent);
  reader = search rules;
  writer = search rules;
}
