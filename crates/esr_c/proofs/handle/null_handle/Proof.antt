-- `null_handle` owns nothing.
use Rattle.std.proofs.Common.{◌≡◌, [], ◌∷◌, refl, lit<, None}
use mir.Val.{vint}
use base.Logic.{emp}
use types.Kit.{raw, ◌$◌, ◌∵◌, !, qed, by, keep, drop, use0}
use types.Run.{and_then, no_more, lit, returns, enter}
use types.ByLocal.{alloc_all, pass_all, free_all, look_at, sets}
use types.Part.{agg}
use contract.Monad.{fact, fact_i}
use contract.Running.{tables}
use denote.RawPtr.{null_ptr}
use denote.Steps.{nothing}
use denote.Triple.Walked.{Stays, walk_of}
use Rattle.std.proofs.raw_atomic.Walks.{proved_at, leaves}
use Rattle.esr_c.specs.Owned.{owned}
use Rattle.esr_c.proofs.Words.{alone, EngineHandle, held_in}
use Rattle.esr_c.specs.contracts.handle.null_handle.{ended, clauses}
use Rattle.esr_c.specs.contracts.handle.null_handle.Key.{name as #self}
use Rattle.esr_c.proofs.handle.null_handle.Statement.{statement}
use Rattle.esr_c.proofs.handle.null_handle.Code as code

pub null_handle_spec : {M : Type 1} → statement M
unfolding owned
null_handle_spec 𝓤 𝓛 𝓜 𝓡 wired =
    let H = 𝓛.H in let 𝓣 = tables 𝓤 H 𝓜 𝓡 𝓡.env in let c = clauses 𝓛 𝓜.mem 𝓡.returns in
    let hs : Stays ended.signature.params ended.kept = tt in
    proved_at 𝓛 ended hs c 𝓜 𝓡 tt #self code.function (code.unfolded 𝓤 H 𝓜 𝓡 wired) (λ z are.
    let W = walk_of 𝓛 ended hs c in let d : EngineHandle.Denot = record { at = null_ptr; history = None } in
    qed 𝓛 (raw (W.pre z) ∷ []) ∵
    enter ! 𝓣.C 𝓣.Λ code.function [] (W.post z) $ alloc_all ! (λ l. pass_all ! refl tt $
    sets ! (agg ! (and_then ! (lit ! tt) (no_more !))) refl (tt, (record { fits = lit< tt }, tt)) $
    returns ! (look_at ! 0 refl) $ free_all ! refl $ drop ! $
    use0 𝓛 (raw (fact 𝓤 (d.history ≡ None))) (fact_i 𝓤 (d.history ≡ None) (emp 𝓤) refl) $
    nothing ! $ held_in ! d $ nothing ! $ nothing ! $ keep ! (0 ∷ 1 ∷ 2 ∷ 3 ∷ []) $
    by ! (leaves 𝓛 ended hs c z (alone (vint mir.Syntax.w64 0)) d tt tt)))
