-- `box_from_raw` takes the block back.
use Rattle.std.proofs.Common.{◌≡◌, List, [], ◌∷◌, ◌++◌, refl, sym, ap, subst}
use mir.Syntax.{Dict, impl, tcons, tnil, a_type, dnil}
use mir.MapTy.{inst_fn}
use mir.Val.{Val, vptr}
use base.Fraction.{full_share}
use base.Logic.{SProp, ent, emp, never, id⊢, fst∗}
use base.Fml.{ftrue, flft}
use mir.Raw.{raw as bare}
use prog.Wp.{WpFn}
use types.Logic.{sem}
use types.Kit.{‵, raw, ◌⊛◌, some, later, at_ret, ◌$◌, ◌∵◌, !, qed, by, move, keep, drop, split, split3, join, fsplit, fjoin, pick, suffices, use0, use1, await, rewrite, feq_i}
use types.Run.{stop, fld, of_opd, no_more, and_then, first, blocks, exec, returns, enter}
use types.ByLocal.{alloc_all, pass_all, free_all, look_at, get, get_in, sets, lands_last, env}
use types.Part.{sub, whole}
use types.Tokens.{lft_new}
use contract.BorrowLft.{◌⊑◌, ⊑_static}
use contract.Monad.{fact, fact_i}
use contract.Running.{tables}
use denote.Exit.{yes, no}
use denote.RattleType.{owns}
use denote.RawPtr.{Ptr, block_ptr, null_ptr, ptr_val, in_a_block}
use denote.Signature.{types_at, plain}
use denote.Steps.{nothing, only, heard}
use denote.Param.{param, bounded, layout}
use denote.Triple.Clauses.{Lasts, lasts}
use denote.Triple.Spec.{triple_of}
use denote.Triple.Call.{calls_at_last}
use denote.Triple.Walked.{Stays, stay_dropped, walk_of}
use Rattle.core.proofs.alloc.Calls.{Fits, Goes-blank, handle_tells}
use Rattle.core.proofs.alloc.Shapes.{after}
use Rattle.core.proofs.atomic.Steps.{fm}
use Rattle.std_alloc.specs.Box.Ownership.{box_owns}
use Rattle.std_alloc.specs.contracts.boxed.Box.from_raw as callee
use Rattle.std_alloc.proofs.boxed.Box.from_raw.Met.{met}
use Rattle.std.proofs.raw_atomic.Walks.{proved_at, leaves}
use Rattle.std.specs.contracts.alloc.Global as heap
use Rattle.std.specs.contracts.impls.GlobalAllocator.TheImpl as Heap
use Rattle.std.proofs.impls.GlobalAllocator.TheImpl.Met.{passed}
use Rattle.esr_c.proofs.Words.{alone, Boxed, RawBoxes, Heaped, Heaped_laws, one_box, one_handle, raw_out}
use Rattle.esr_c.specs.contracts.pointer.box_from_raw.{ended, clauses}
use Rattle.esr_c.specs.contracts.pointer.box_from_raw.Key.{name as #self}
use Rattle.esr_c.proofs.pointer.box_from_raw.Statement.{statement}
use Rattle.esr_c.proofs.pointer.box_from_raw.Code as code
use Rattle.esr_c.proofs.Destruct++none.drop.Code as none
use Rattle.esr_c.specs.contracts.Destruct++none.drop.Key.{symbol as none_symbol}

abbrev none_dict : Dict
none_dict = impl (none_symbol ∷ []) (tcons (layout Heaped) tnil) dnil

pub box_from_raw_spec : {M : Type 1} → statement M
box_from_raw_spec {M} 𝓤 𝓛 𝓜 𝓡 wired T L =
    let H = 𝓛.H in let 𝓣 = tables 𝓤 H 𝓜 𝓡 𝓡.env in let En = ended T in let c = clauses T 𝓛 𝓜.mem 𝓡.returns in
    let ins = bounded (a_type ∷ []) (T, tt) dnil in let fn = inst_fn ins code.function in
    let hs : Stays En.signature.params En.kept = (stay_dropped (plain (λ _. heap.the_row)) yes, (stay_dropped (plain (λ _. RawBoxes (param 0 T))) no, tt)) in
    proved_at 𝓛 En hs c 𝓜 𝓡 (Goes-blank 𝓛 1 (plain (λ _. heap.the_row)) yes (λ κs x f. tt), (Goes-blank 𝓛 1 (plain (λ _. RawBoxes (param 0 T))) no (λ κs x f. tt), tt)) (#self ins) fn (code.unfolded 𝓤 H 𝓜 𝓡 wired (T, tt)) (λ z are.
    let κ = z.0.0.0 in let q = z.0.1.0 in let a = z.0.3.0 in let d = z.0.3.1.0 in let Post : Val → SProp 𝓤 = (walk_of 𝓛 En hs c).post z in
    let Run : List Val → SProp 𝓤 = λ ws. WpFn 𝓤 H 𝓣.C 𝓣.Λ fn ws Post in
    qed 𝓛 (((‵ (flft κ q) ⊛ ‵ ftrue) ⊛ ‵ (owns (types_at En.signature.params z.0.0) z.0.3 z.0.4)) ∷ (raw (fact 𝓤 (κ ⊑ T.lives)) ⊛ ‵ ftrue) ∷ []) ∵
    move ! (1 ∷ []) $ split ! $ heard ! (κ ⊑ T.lives) (λ lives. drop ! $ split ! $ split ! $ move ! (2 ∷ []) $ fsplit ! $
    handle_tells one_handle ! a z.0.4.0 (λ h ea fits. move ! (1 ∷ []) $ fsplit ! $
    raw_out (param 0 T) ! d z.0.4.1.0 (λ ws.
    in_a_block ! d.at (λ p. box_owns (Heap.ghosts.dealloc_token _) (param 0 T) p d.value) (fst∗ 𝓤 (never 𝓤) (sem 𝓛 (Heap.ghosts.dealloc_token _ (bare (layout T)) null_ptr))) (λ b o e.
    let w : Val = alone (vptr b o) in let ws' : z.0.4.1.0 ≡ w ∷ [] = subst (λ (p : Ptr). z.0.4.1.0 ≡ alone (ptr_val p) ∷ []) e ws in
    let S = callee.signature T Heaped Heap.ghosts Heap.dict none_dict in let k = triple_of 𝓛 S (callee.spec T Heaped Heap.ghosts Heap.dict none_dict 𝓛 𝓜.mem 𝓡.returns) in
    suffices ! (Run (h ∷ w ∷ [])) (subst (λ (us : List Val). ent 𝓤 (Run (h ∷ w ∷ [])) (Run us)) (sym (λ i. ea i ++ (ws' i ++ []))) (id⊢ 𝓤 (Run (h ∷ w ∷ [])))) $
    keep ! (0 ∷ 2 ∷ 3 ∷ []) $
    enter ! 𝓣.C 𝓣.Λ fn (h ∷ w ∷ []) Post $ alloc_all ! (λ l. pass_all ! refl (fits, ((tt, (tt, tt)), tt)) $
    sets ! (of_opd ! (get_in ! (fld ! refl (stop !)) (sub ! 0 refl (whole !)))) refl (tt, tt) $ first ! $ blocks ! $
    lft_new ! tt (λ α.
    let y : k.Ghost = (((κ, (α ∷ [], tt)), (q, (full_share, tt)), tt, (a, (block_ptr b o, tt)), (h ∷ [], (vptr b o ∷ [], tt))), d.value) in
    let toks = ‵ (flft κ q) ⊛ ‵ (flft (α ∷ []) full_share) ⊛ ‵ ftrue in
    use0 𝓛 (raw (fact 𝓤 ((α ∷ []) ⊑ heap.the_row.lives))) (fact_i 𝓤 ((α ∷ []) ⊑ heap.the_row.lives) (emp 𝓤) (⊑_static (α ∷ []))) $ move ! (0 ∷ 2 ∷ []) $ join ! $
    use0 𝓛 (raw (fact 𝓤 (κ ⊑ T.lives))) (fact_i 𝓤 (κ ⊑ T.lives) (emp 𝓤) lives) $ join ! $
    nothing ! $ move ! (2 ∷ 0 ∷ []) $ join ! $ move ! (3 ∷ 0 ∷ []) $ join ! $
    nothing ! $ feq_i ! (List Val) (vptr b o ∷ []) (vptr b o ∷ []) refl $ fjoin ! $ move ! (3 ∷ 0 ∷ []) $ fjoin ! $ move ! (1 ∷ 0 ∷ []) $ join ! $ join ! $ use1 𝓛 (raw (k.pre y)) (id⊢ 𝓤 _) $
    calls_at_last ! (fm 𝓛 𝓜 𝓡) k (met 𝓤 𝓛 𝓜 𝓡 (code.calls-std_alloc::boxed::Box::from_raw 𝓡.env wired) T Heaped L Heaped_laws Heap.ghosts Heap.dict none_dict
    (passed 𝓡.env (code.calls-std_heap::GlobalAllocator::allocate 𝓡.env wired) (code.calls-std_heap::GlobalAllocator::deallocate 𝓡.env wired)
    (code.calls-std_heap::GlobalAllocator::grow 𝓡.env wired) (code.calls-std_heap::GlobalAllocator::shrink 𝓡.env wired) M 𝓤 𝓛 𝓜 𝓡)
    (none.glues 𝓡.env (code.calls-esr_c::Destruct++none::drop 𝓡.env wired) Heaped Heaped_laws M 𝓤 𝓛 𝓜 𝓡)) y (and_then ! (get ! refl) (and_then ! (get ! refl) (no_more !))) (λ u.
    let Lst = callee.ended T Heaped Heap.ghosts Heap.dict none_dict in
    use1 𝓛 (later (some (λ (r : (Boxed T).Denot). (toks ⊛ ‵ ((Boxed T).own_val r (u ∷ []))) ⊛ some (λ (ls : Lasts Lst y.0.0 y.0.3).
    ‵ (lasts Lst y.0.0 y.0.3 ls) ⊛ (raw (fact 𝓤 (r.value ≡ d.value)) ⊛ raw (fact 𝓤 (r.alloc ≡ a))))))) (id⊢ 𝓤 (k.post y u)) $
    await ! tt $ pick ! (λ r. split ! $ split ! $ split ! $ move ! (3 ∷ []) $ pick ! (λ ls. split3 ! $ drop ! $ move ! (4 ∷ []) $
    handle_tells (one_box T L) ! r (u ∷ []) (λ v us fits'. rewrite ! 0 (λ (xs : List Val). ‵ ((Boxed T).own_val r xs)) (sym us) refl $
    let good : Fits (one_box T L) u = subst (Fits (one_box T L)) (sym (ap only us)) fits' in
    lands_last ! refl good $ exec ! 𝓣.C 𝓣.Λ (env fn.locals l) (after 2 fn.body) (at_ret (env fn.locals l) Post) $
    sets ! (of_opd ! (get ! refl)) refl good $ returns ! (look_at ! 0 refl) $ free_all ! refl $
    keep ! (3 ∷ 0 ∷ 1 ∷ []) $ nothing ! $ move ! (1 ∷ 0 ∷ []) $ join ! $
    nothing ! $ nothing ! $ fjoin ! $ nothing ! $ fjoin ! $ move ! (1 ∷ 0 ∷ []) $
    by ! (leaves 𝓛 En hs c z u r (tt, (tt, tt)) (tt, (tt, tt))))))))))))))
