-- The machine values of a box, of a `RawBox` and of an `EngineHandle`: one word each. Assumes `Logic`.
use Rattle.std.proofs.Common.{◌≡◌, List, [], ◌∷◌, ◌++◌, refl, subst}
use mir.Syntax.{dnil, impl, tnil}
use mir.Raw.{raw as bare}
use mir.Val.{Val, vstruct, vcons, vnil, of_list}
use seplogic.Ra.Ura.{Ura}
use base.Fml.{ftrue}
use types.Logic.{Logic}
use types.Kit.{Item, Goal, Seq, Step, step, ‵, ◌$◌, drop, fsplit, fjoin, fpick, fpack, feq_i, feq_l}
use denote.Exit.{no}
use denote.RattleType.{RattleType, Valss}
use denote.Builtin.{RawPtr}
use denote.RawPtr.{ptr_val}
use denote.Steps.{nothing}
use denote.Param.{arg, layout, param}
use denote.Param.Laws.{Laws, arg_laws, param_laws}
use denote.Struct.Struct.{within}
use denote.Struct.Owning.{shape}
use Rattle.core.proofs.alloc.Calls.{Al}
use Rattle.std_alloc.specs.Box.Ownership.{box_owns}
use Rattle.std_alloc.specs.contracts.boxed.Box as box
use Rattle.std_alloc.proofs.boxed.Box.TheLaws as box_laws
use Rattle.std.specs.contracts.alloc.Global as heap
use Rattle.std.proofs.alloc.Global.TheLaws as heap_laws
use Rattle.std.specs.contracts.impls.GlobalAllocator.TheImpl as Heap
use Rattle.esr_c.specs.Owned.{owned}
use Rattle.esr_c.specs.contracts.handle.EngineHandle as handle
use Rattle.esr_c.specs.contracts.pointer.RawBox as raw_box

abbrev pub alone : Val → Val
alone v = vstruct (vcons v vnil)

-- the allocator, as the argument of a call
abbrev pub Heaped : RattleType
Heaped = arg (bare (layout heap.the_row)) no heap.the_row

pub Heaped_laws : Laws Heaped
Heaped_laws = arg_laws (bare (layout heap.the_row)) no heap.the_row heap_laws.the_row_laws refl

-- a value of one word: of any type with laws
abbrev pub one_word : (R : RattleType) → Laws R → Al
one_word R L = record { row = R; laws = L; g = record { dealloc_token = λ a σ p. ftrue }; d = impl [] tnil dnil; drops = impl [] tnil dnil }

abbrev pub one_handle : Al
one_handle = one_word heap.the_row heap_laws.the_row_laws

module _ (T : RattleType) where
  abbrev pub Boxed : RattleType
  Boxed = box.the_row (param 0 T) heap.the_row Heap.ghosts

  abbrev pub one_box : Laws T → Al
  one_box L = one_word Boxed (box_laws.the_row_laws (param 0 T) heap.the_row Heap.ghosts (param_laws 0 T L) heap_laws.the_row_laws)

module _ (R : RattleType) where
  abbrev pub RawBoxes : RattleType
  RawBoxes = raw_box.the_row R

  module _ {M : Type 1} {𝓤 : Ura M} {𝓛 : Logic 𝓤} {K : Type 0} {Γ : List (Item 𝓤)} {G : Goal 𝓤 𝓛.H} where
    pub raw_in : K → (l : RawBoxes.Denot)
        → Step K 𝓛 (‵ (RawBoxes.own_val l (alone (ptr_val l.at) ∷ [])) ∷ Γ) G (‵ (box_owns (Heap.ghosts.dealloc_token _) R l.at l.value) ∷ Γ) G
    raw_in t l = step (λ s. let v : Val = alone (ptr_val l.at) in
        nothing t $ feq_i t (List Val) (ptr_val l.at ∷ []) (ptr_val l.at ∷ []) refl $ fjoin t $ feq_i t (List Val) (v ∷ []) (v ∷ []) refl $ fjoin t $
        fpack t (Valss (RawPtr ∷ [])) (within (shape (raw_box.the_type R)) (l.at, tt) (v ∷ [])) (ptr_val l.at ∷ [], tt) $ fjoin t $ s)

    pub raw_out : K → (l : RawBoxes.Denot) (vs : List Val)
        → (vs ≡ alone (ptr_val l.at) ∷ [] → Seq K 𝓛 (‵ (box_owns (Heap.ghosts.dealloc_token _) R l.at l.value) ∷ Γ) G)
        → Seq K 𝓛 (‵ (RawBoxes.own_val l vs) ∷ Γ) G
    raw_out t l vs k =
        fsplit t $ fpick t (λ vss. fsplit t $ feq_l t (λ ev. fsplit t $ feq_l t (λ ep. drop t $
        k (subst (λ (ps : List Val). vs ≡ vstruct (of_list (ps ++ [])) ∷ []) ep ev))))

abbrev pub EngineHandle : RattleType
EngineHandle = handle.the_row

module _ {M : Type 1} {𝓤 : Ura M} {𝓛 : Logic 𝓤} {K : Type 0} {Γ : List (Item 𝓤)} {G : Goal 𝓤 𝓛.H} where
  pub held_in : K → (h : EngineHandle.Denot)
      → Step K 𝓛 (‵ (EngineHandle.own_val h (alone (ptr_val h.at) ∷ [])) ∷ Γ) G (‵ (owned h.at h.history) ∷ Γ) G
  held_in t h = step (λ s. let v : Val = alone (ptr_val h.at) in
      nothing t $ feq_i t (List Val) (ptr_val h.at ∷ []) (ptr_val h.at ∷ []) refl $ fjoin t $ feq_i t (List Val) (v ∷ []) (v ∷ []) refl $ fjoin t $
      fpack t (Valss (RawPtr ∷ [])) (within (shape handle.the_type) (h.at, tt) (v ∷ [])) (ptr_val h.at ∷ [], tt) $ fjoin t $ s)

  pub held_out : K → (h : EngineHandle.Denot) (vs : List Val)
      → (vs ≡ alone (ptr_val h.at) ∷ [] → Seq K 𝓛 (‵ (owned h.at h.history) ∷ Γ) G)
      → Seq K 𝓛 (‵ (EngineHandle.own_val h vs) ∷ Γ) G
  held_out t h vs k =
      fsplit t $ fpick t (λ vss. fsplit t $ feq_l t (λ ev. fsplit t $ feq_l t (λ ep. drop t $
      k (subst (λ (ps : List Val). vs ≡ vstruct (of_list (ps ++ [])) ∷ []) ep ev))))
