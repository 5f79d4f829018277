-- A box of the object and a pointer that C keeps, in the forms that the proofs by hand of their moves use.
--     E              the box: the object's row as a call passes it, and the allocator's
--     word, good     the machine value of a pointer that C keeps
--     held_in        such a pointer is made of the box's memory.        held_out     .. and is taken apart
use Rattle.std.proofs.Common.{◌≡◌, ℕ, List, [], ◌∷◌, ◌++◌, refl, ap, ◌∙◌}
use seplogic.Ra.Ura.{Ura}
use mir.Syntax.{tcons, tnil, dnil, impl}
use mir.Raw.{raw as bare}
use mir.Val.{Val, vptr, vstruct, vcons, vnil, of_list}
use types.Logic.{Logic}
use types.Kit.{Item, Goal, Seq, Step, step, ‵, ◌$◌, drop, fsplit, fjoin, fpick, fpack, feq_i, feq_l}
use denote.Exit.{no}
use denote.Builtin.{RawPtr}
use denote.RattleType.{RattleType, Valss}
use denote.Memory.{lone}
use denote.RawPtr.{Ptr, ptr_val}
use denote.Param.{arg, layout}
use denote.Param.Laws.{Laws, arg_laws}
use denote.Steps.{nothing}
use denote.Struct.Struct.{within}
use denote.Struct.Owning.{shape}
use Rattle.std.specs.Prelude.{Option}
use Rattle.std.specs.contracts.alloc.Global as global
use Rattle.std.proofs.alloc.Global.TheLaws as global_laws
use Rattle.std.specs.contracts.impls.GlobalAllocator.TheImpl.{ghosts, dict}
use Rattle.std.proofs.BoxSteps.Form.{Bx}
use Rattle.fn_callers.specs.contracts.caller.Caller as caller
use Rattle.fn_callers.proofs.caller.Caller.TheLaws as caller_laws
use Rattle.funnel_c.specs.contracts.held.Held as held
use Rattle.funnel_c.specs.Held.{owns_held}

-- the object, as a call passes it
abbrev pub X : RattleType
X = arg (bare (lone (caller.the_row).mir)) no caller.the_row

abbrev pub X-laws : Laws X
X-laws = arg_laws (bare (lone (caller.the_row).mir)) no caller.the_row caller_laws.the_row_laws refl

abbrev pub Z : RattleType
Z = arg (bare (lone (global.the_row).mir)) no global.the_row

abbrev pub Z-laws : Laws Z
Z-laws = arg_laws (bare (lone (global.the_row).mir)) no global.the_row global_laws.the_row_laws refl

abbrev pub E : Bx
E = record { row = X; laws = X-laws; al = record { row = Z; laws = Z-laws; g = ghosts; d = dict; drops = impl ("funnel_c::Destruct++none::drop" ∷ []) (tcons (layout Z) tnil) dnil } }

abbrev pub word : ℕ → ℕ → Val
word b o = vstruct (vcons (vptr b o) vnil)

module _ {M : Type 1} {𝓤 : Ura M} {𝓛 : Logic 𝓤} {K : Type 0} {Γ : List (Item 𝓤)} {G : Goal 𝓤 𝓛.H} where
  pub held_in : K → (p : Ptr) (o : Option (caller.the_row).Denot)
      → Step K 𝓛 (‵ ((held.the_row).own_val (record { at = p; value = o }) (vstruct (vcons (ptr_val p) vnil) ∷ [])) ∷ Γ) G (‵ (owns_held caller.the_row p o) ∷ Γ) G
  held_in t p o = step (λ s. let v : Val = vstruct (vcons (ptr_val p) vnil) in
      nothing t $ feq_i t (List Val) (ptr_val p ∷ []) (ptr_val p ∷ []) refl $ fjoin t $ feq_i t (List Val) (v ∷ []) (v ∷ []) refl $ fjoin t $
      fpack t (Valss (RawPtr ∷ [])) (within (shape held.the_type) (p, tt) (v ∷ [])) (ptr_val p ∷ [], tt) $ fjoin t $ s)

  pub held_out : K → (h : (held.the_row).Denot) (vs : List Val)
      → (vs ≡ vstruct (vcons (ptr_val h.at) vnil) ∷ [] → Seq K 𝓛 (‵ (owns_held caller.the_row h.at h.value) ∷ Γ) G)
      → Seq K 𝓛 (‵ ((held.the_row).own_val h vs) ∷ Γ) G
  held_out t h vs k =
      fsplit t $ fpick t (λ vss. fsplit t $ feq_l t (λ ev. fsplit t $ feq_l t (λ ep. drop t $
      k (ev ∙ ap (λ (ps : List Val). vstruct (of_list (ps ++ [])) ∷ []) ep))))
