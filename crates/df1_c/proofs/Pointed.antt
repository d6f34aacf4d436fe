-- A pointer by value is its pointer's word beside what it owns. Assumes `Logic`.
use Rattle.std.proofs.Common.{◌≡◌, List, [], ◌∷◌, ◌++◌, refl, sym, subst}
use lib.Dec.{T}
use seplogic.Ra.Ura.{Ura}
use mir.Val.{Val, vstruct, vcons, vnil, of_list}
use types.Logic.{Logic}
use types.Kit.{Item, Goal, Seq, Step, step, ‵, ◌$◌, drop, fsplit, fjoin, fpick, fpack, feq_i, feq_l}
use denote.RattleType.{Valss}
use denote.Builtin.{RawPtr}
use denote.RawPtr.{Ptr, ptr_val}
use denote.Steps.{nothing}
use denote.Struct.Struct.{within}
use denote.Struct.Owning.{shape}
use Rattle.std.specs.Prelude.{IsSome}
use Rattle.std.specs.declared.option.Option.{Option}
use Rattle.std.specs.declared.option.Option.TheVariants.{Some, None}
use Rattle.df1_c.specs.Rows.{Kept}
use Rattle.df1_c.specs.Owned.{pointer_owns}
use Rattle.df1_c.specs.declared.pointer.Pointer.{Pointer}
use Rattle.df1_c.specs.contracts.pointer.Pointer as pointer

abbrev pub word : Ptr → Val
word p = vstruct (vcons (ptr_val p) vnil)

module _ {M : Type 1} {𝓤 : Ura M} {𝓛 : Logic 𝓤} {K : Type 0} {Γ : List (Item 𝓤)} {G : Goal 𝓤 𝓛.H} where
  pub pointer_in : K → (p : Ptr) (h : Option Kept)
      → Step K 𝓛 (‵ (pointer.the_row.own_val (record { at = p; held = h }) (word p ∷ [])) ∷ Γ) G (‵ (pointer_owns p h) ∷ Γ) G
  pointer_in t p h = step (λ s. nothing t $ feq_i t (List Val) (ptr_val p ∷ []) (ptr_val p ∷ []) refl $ fjoin t $
      feq_i t (List Val) (word p ∷ []) (word p ∷ []) refl $ fjoin t $
      fpack t (Valss (RawPtr ∷ [])) (within (shape pointer.the_type) (p, tt) (word p ∷ [])) (ptr_val p ∷ [], tt) $ fjoin t $ s)

  pub pointer_out : K → (d : Pointer) (vs : List Val)
      → (vs ≡ word d.at ∷ [] → Seq K 𝓛 (‵ (pointer_owns d.at d.held) ∷ Γ) G)
      → Seq K 𝓛 (‵ (pointer.the_row.own_val d vs) ∷ Γ) G
  pointer_out t d vs k =
      fsplit t $ fpick t (λ vss. fsplit t $ feq_l t (λ ev. fsplit t $ feq_l t (λ ep. drop t $
      k (subst (λ (ps : List Val). vs ≡ vstruct (of_list (ps ++ [])) ∷ []) ep ev))))

pub some_of : (h : Option Kept) → IsSome h → (x : Kept) × (h ≡ Some x)
some_of None t = absurd (subst T (sym t) tt)
some_of (Some x) t = (x, refl)
