use Rattle.std.proofs.Common.{◌≡◌, true, take, map}
use Rattle.std.specs.List.{list_all}
use Rattle.esr_bundle.proofs.sound.fit_list.Given as goal

-- the drafts so far
abbrev pub invariant-loop-draft : goal.invariant-loop-draft
invariant-loop-draft g l = record {
  made : map g.T.Fitted.model_of l.found.items ≡ take l.draft-index (map g.T.Fitted.drafted l.drafts);
  fits : list_all g.T.Fitted.is_fit (take l.draft-index (map g.T.Fitted.drafted l.drafts)) ≡ true;
}
