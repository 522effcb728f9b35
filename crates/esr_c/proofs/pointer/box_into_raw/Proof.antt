-- `box_into_raw` hands the block over.
use Rattle.std.proofs.Common.{◌≡◌, List, [], ◌∷◌, ◌++◌, refl, sym, ap, ◌∙◌, subst}
use mir.Syntax.{Dict, impl, tcons, tnil, a_type, dcons, dnil}
use mir.MapTy.{inst_fn}
use mir.Val.{Val, vptr}
use base.Fraction.{full_share}
use base.Logic.{SProp, ent, emp, never, id⊢, fst∗}
use base.Fml.{ftrue, flft}
use mir.Raw.{raw as bare}
use prog.Wp.{WpFn}
use types.Logic.{sem}
use types.Kit.{‵, raw, ◌⊛◌, some, later, ◌$◌, ◌∵◌, !, qed, by, move, keep, drop, split, join, fsplit, fjoin, pick, suffices, use0, use1, await, feq_l}
use types.Run.{of_opd, no_more, and_then, returns, enter}
use types.ByLocal.{alloc_all, pass_all, free_all, look_at, get, sets, lands_as}
use types.Part.{agg}
use types.Tokens.{lft_new}
use contract.BorrowLft.{◌⊑◌, ⊑_static}
use contract.Monad.{fact, fact_i}
use contract.Running.{tables}
use denote.Exit.{no}
use denote.RattleType.{owns}
use denote.RawPtr.{Ptr, block_ptr, null_ptr, ptr_val, in_a_block}
use denote.Signature.{types_at, plain}
use denote.Builtin.{RawPtr}
use denote.Steps.{nothing, only, heard}
use denote.Param.{param, bounded, layout}
use denote.Triple.Clauses.{Lasts, lasts}
use denote.Triple.Spec.{triple_of}
use denote.Triple.Call.{calls_at}
use denote.Triple.Walked.{Stays, stay_dropped, walk_of}
use Rattle.core.proofs.alloc.Calls.{Goes-blank, handle_tells}
use Rattle.core.proofs.atomic.Steps.{fm}
use Rattle.std_alloc.specs.Box.Ownership.{box_owns}
use Rattle.std_alloc.specs.contracts.boxed.Box.into_raw as callee
use Rattle.std_alloc.proofs.boxed.Box.into_raw.Met.{met}
use Rattle.std.proofs.raw_atomic.Walks.{proved_at, leaves}
use Rattle.std.specs.contracts.alloc.Global as heap
use Rattle.std.specs.contracts.impls.GlobalAllocator.TheImpl as Heap
use Rattle.std.proofs.impls.GlobalAllocator.TheImpl.Met.{passed}
use Rattle.esr_c.proofs.Words.{alone, Boxed, RawBoxes, Heaped, Heaped_laws, one_box, raw_in}
use Rattle.esr_c.specs.contracts.pointer.box_into_raw.{ended, clauses}
use Rattle.esr_c.specs.contracts.pointer.box_into_raw.Key.{name as #self}
use Rattle.esr_c.proofs.pointer.box_into_raw.Statement.{statement}
use Rattle.esr_c.proofs.pointer.box_into_raw.Code as code
use Rattle.esr_c.proofs.Destruct++none.drop.Code as none
use Rattle.esr_c.specs.contracts.Destruct++none.drop.Key.{symbol as none_symbol}

abbrev none_dict : Dict
none_dict = impl (none_symbol ∷ []) (tcons (layout Heaped) tnil) dnil

pub box_into_raw_spec : {M : Type 1} → statement M
box_into_raw_spec {M} 𝓤 𝓛 𝓜 𝓡 wired T L dx glue =
    let H = 𝓛.H in let 𝓣 = tables 𝓤 H 𝓜 𝓡 𝓡.env in let En = ended T dx in let c = clauses T dx 𝓛 𝓜.mem 𝓡.returns in
    let ins = bounded (a_type ∷ []) (T, tt) (dcons dx dnil) in let fn = inst_fn ins code.function in
    let hs : Stays En.signature.params En.kept = (stay_dropped (plain (λ _. Boxed T)) no, tt) in
    proved_at 𝓛 En hs c 𝓜 𝓡 (Goes-blank 𝓛 1 (plain (λ _. Boxed T)) no (λ κs x f. tt), tt) (#self ins) fn (code.unfolded 𝓤 H 𝓜 𝓡 wired (T, tt) dx) (λ z are.
    let κ = z.0.0.0 in let q = z.0.1.0 in let b = z.0.3.0 in let Post : Val → SProp 𝓤 = (walk_of 𝓛 En hs c).post z in
    let Run : List Val → SProp 𝓤 = λ ws. WpFn 𝓤 H 𝓣.C 𝓣.Λ fn ws Post in
    qed 𝓛 (((‵ (flft κ q) ⊛ ‵ ftrue) ⊛ ‵ (owns (types_at En.signature.params z.0.0) z.0.3 z.0.4)) ∷ (raw (fact 𝓤 (κ ⊑ T.lives)) ⊛ ‵ ftrue) ∷ []) ∵
    move ! (1 ∷ []) $ split ! $ heard ! (κ ⊑ T.lives) (λ lives. drop ! $ split ! $ split ! $ move ! (2 ∷ []) $ fsplit ! $
    handle_tells (one_box T L) ! b z.0.4.0 (λ w ws fits.
    let k = triple_of 𝓛 (callee.signature T Heaped Heap.ghosts Heap.dict none_dict dx) (callee.spec T Heaped Heap.ghosts Heap.dict none_dict dx 𝓛 𝓜.mem 𝓡.returns) in
    suffices ! (Run (w ∷ [])) (subst (λ (us : List Val). ent 𝓤 (Run (w ∷ [])) (Run us)) (sym (λ i. ws i ++ [])) (id⊢ 𝓤 (Run (w ∷ [])))) $
    keep ! (0 ∷ 2 ∷ []) $
    enter ! 𝓣.C 𝓣.Λ fn (w ∷ []) Post $ alloc_all ! (λ l. pass_all ! refl (fits, tt) $ sets ! (of_opd ! (get ! refl)) refl fits $
    lft_new ! tt (λ α.
    let y : k.Ghost = (((κ, (α ∷ [], tt)), (q, (full_share, tt)), tt, (b, tt), (w ∷ [], tt)), tt) in
    let toks = ‵ (flft κ q) ⊛ ‵ (flft (α ∷ []) full_share) ⊛ ‵ ftrue in
    nothing ! $ use0 𝓛 (raw (fact 𝓤 ((α ∷ []) ⊑ heap.the_row.lives))) (fact_i 𝓤 ((α ∷ []) ⊑ heap.the_row.lives) (emp 𝓤) (⊑_static (α ∷ []))) $ join ! $
    use0 𝓛 (raw (fact 𝓤 (κ ⊑ T.lives))) (fact_i 𝓤 (κ ⊑ T.lives) (emp 𝓤) lives) $ join ! $
    nothing ! $ move ! (2 ∷ 0 ∷ []) $ join ! $ move ! (3 ∷ 0 ∷ []) $ join ! $
    nothing ! $ move ! (3 ∷ 0 ∷ []) $ fjoin ! $ move ! (1 ∷ 0 ∷ []) $ join ! $ join ! $ use1 𝓛 (raw (k.pre y)) (id⊢ 𝓤 _) $
    calls_at ! (fm 𝓛 𝓜 𝓡) k (met 𝓤 𝓛 𝓜 𝓡 (code.calls-std_alloc::boxed::Box::into_raw 𝓡.env wired) T Heaped L Heaped_laws Heap.ghosts Heap.dict none_dict dx
    (passed 𝓡.env (code.calls-std_heap::GlobalAllocator::allocate 𝓡.env wired) (code.calls-std_heap::GlobalAllocator::deallocate 𝓡.env wired)
    (code.calls-std_heap::GlobalAllocator::grow 𝓡.env wired) (code.calls-std_heap::GlobalAllocator::shrink 𝓡.env wired) M 𝓤 𝓛 𝓜 𝓡)
    (none.glues 𝓡.env (code.calls-esr_c::Destruct++none::drop 𝓡.env wired) Heaped Heaped_laws M 𝓤 𝓛 𝓜 𝓡) glue) y (and_then ! (get ! refl) (no_more !)) (λ u.
    use1 𝓛 (later (some (λ (r : Ptr). (toks ⊛ ‵ (RawPtr.own_val r (u ∷ []))) ⊛ some (λ (ls : Lasts (callee.ended T Heaped Heap.ghosts Heap.dict none_dict dx) y.0.0 y.0.3).
    ‵ (lasts (callee.ended T Heaped Heap.ghosts Heap.dict none_dict dx) y.0.0 y.0.3 ls) ⊛ ‵ (box_owns (Heap.ghosts.dealloc_token _) (param 0 T) r b.value))))) (id⊢ 𝓤 (k.post y u)) $
    await ! tt $ pick ! (λ r. split ! $ split ! $ split ! $ move ! (2 ∷ []) $ feq_l ! (λ eu. move ! (2 ∷ []) $ pick ! (λ ls. split ! $ drop ! $
    in_a_block ! r (λ p. box_owns (Heap.ghosts.dealloc_token _) (param 0 T) p b.value) (fst∗ 𝓤 (never 𝓤) (sem 𝓛 (Heap.ghosts.dealloc_token _ (bare (layout T)) null_ptr))) (λ b' o' e.
    lands_as ! (ap only (eu ∙ (λ j. ptr_val (e j) ∷ []))) refl (tt, tt) $
    sets ! (agg ! (and_then ! (get ! refl) (no_more !))) refl (tt, (tt, tt)) $
    returns ! (look_at ! 0 refl) $ free_all ! refl $
    keep ! (0 ∷ 1 ∷ []) $ nothing ! $ move ! (2 ∷ 0 ∷ []) $ join ! $
    let d : (RawBoxes (param 0 T)).Denot = record { at = block_ptr b' o'; value = b.value } in
    use0 𝓛 (raw (fact 𝓤 (d.value ≡ b.value))) (fact_i 𝓤 (d.value ≡ b.value) (emp 𝓤) refl) $ move ! (2 ∷ []) $ raw_in (param 0 T) ! d $
    nothing ! $ nothing ! $ fjoin ! $ move ! (3 ∷ []) $
    by ! (leaves 𝓛 En hs c z (alone (vptr b' o')) d (tt, tt) (tt, tt))))))))))))
