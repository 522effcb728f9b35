use Rattle.std.proofs.Common.{rules, ◌≡◌, ◌≢◌, ◌+◌, refl, ◌∷◌, [], ◌++◌, false, map, take, sym, ap, ◌∙◌, arith}
use Rattle.std.specs.List.{list_all}
use Rattle.std.proofs.lemmas.List.{length-map, map_push, take_all}
use Rattle.esr_cert.specs.declared.problem.BundleFault.{BundleFault}
use Rattle.esr_cert.specs.declared.problem.BundleFault.TheVariants.{Range, NoMemory}
use Rattle.esr_bundle.proofs.Exits.{passes, no_at, take_map_more, all_push}
use Rattle.esr_bundle.proofs.sound.fit_list.Goals as goal

pub loop-draft-init : goal.loop-draft-init
loop-draft-init g c = record { made = ap (map g.T.Fitted.model_of) c.in_ok-found.ensures.items; fits = refl }

pub returns-clause-ok : goal.returns-clause-ok
returns-clause-ok g c = c.loop-draft.invariant.made ∙ take_all c.loop-draft.draft-index (map g.T.Fitted.drafted c.args.drafts.now) (rw length-map (omega arith))

pub returns-clause-fits : goal.returns-clause-fits
returns-clause-fits g c ok =
    ap (list_all g.T.Fitted.is_fit) (sym (take_all c.loop-draft.draft-index (map g.T.Fitted.drafted c.args.drafts.now) (rw length-map (omega arith))))
    ∙ c.loop-draft.invariant.fits

pub returns-in_err-one-clause-err : goal.returns-in_err-one-clause-err
returns-in_err-one-clause-err g c =
    passes (λ (e : BundleFault). e ≢ NoMemory → (e ≡ Range) × (list_all g.T.Fitted.is_fit (map g.T.Fitted.drafted c.args.drafts.now) ≡ false)) c.from_residual-in_err-one.result c.in_err-one.field-0.0 c.from_residual-in_err-one.ensures.1
    (λ n. ((c.in_err-one.ensures.err n).0, no_at g.T.Fitted.is_fit g.T.Fitted.drafted c.args.drafts.now c.loop-draft.draft-index c.draft-item.result (omega arith) c.draft-item.is (c.in_err-one.ensures.err n).1))

pub loop-draft-preserved : goal.loop-draft-preserved
loop-draft-preserved g c =
    let i = c.loop-draft.draft-index in
    let drafts = c.args.drafts.now in
    let f = g.T.Fitted.drafted in
    let more : c.push.new.self.items ≡ c.loop-draft.found.items ++ c.in_ok-one.one ∷ [] = search rules in
    let next : take (i + 1) (map f drafts) ≡ take i (map f drafts) ++ f c.draft-item.result ∷ [] = take_map_more f drafts i c.draft-item.result (omega arith) c.draft-item.is in
    record {
      made = rw more (
          map_push g.T.Fitted.model_of c.loop-draft.found.items c.in_ok-one.one
          ∙ ap (λ ks. ks ++ g.T.Fitted.model_of c.in_ok-one.one ∷ []) c.loop-draft.invariant.made
          ∙ ap (λ k. take i (map f drafts) ++ k ∷ []) c.in_ok-one.ensures.ok
          ∙ sym next);
      fits = ap (list_all g.T.Fitted.is_fit) next ∙ all_push g.T.Fitted.is_fit (take i (map f drafts)) (f c.draft-item.result) c.loop-draft.invariant.fits (c.in_ok-one.ensures.fits refl);
    }
