-- `empty` makes a seat that owns nothing, at the null pointer.
use Rattle.std.proofs.Common.{◌≡◌, [], ◌∷◌, refl, lit<}
use base.Logic.{emp}
use base.Fml.{ftrue}
use types.Kit.{‵, raw, ◌⊛◌, ◌$◌, ◌∵◌, !, qed, by, keep, split, use0}
use types.Run.{lit, no_more, and_then, returns, enter}
use types.ByLocal.{alloc_all, pass_all, free_all, look_at, sets}
use types.Part.{agg}
use contract.Monad.{fact, fact_i}
use denote.RawPtr.{null_ptr}
use denote.Steps.{nothing}
use Rattle.std.proofs.raw_atomic.Walks.{proved_at, leaves}
use Rattle.std.specs.declared.option.Option.TheVariants.{None}
use Rattle.df1_c.proofs.Pointed.{word, pointer_in}
use Rattle.df1_c.specs.declared.pointer.Pointer.{Pointer}
use Rattle.df1_c.specs.Owned.{pointer_owns}
use Rattle.df1_c.specs.contracts.pointer.Pointer.empty as f
use Rattle.df1_c.proofs.pointer.Pointer.empty.Statement.{statement}
use Rattle.df1_c.proofs.pointer.Pointer.empty.Code as code

pub empty_spec : {M : Type 1} → statement M
unfolding pointer_owns
empty_spec 𝓤 𝓛 𝓜 𝓡 wired =
    let c = f.clauses 𝓛 𝓜.mem 𝓡.returns in let made : Pointer = record { at = null_ptr; held = None } in
    proved_at 𝓛 f.ended tt c 𝓜 𝓡 tt f.Key.name code.function (code.unfolded 𝓤 𝓛.H 𝓜 𝓡 wired) (λ z are.
    qed 𝓛 ((‵ ftrue ⊛ ‵ ftrue) ∷ raw (emp 𝓤) ∷ []) ∵ keep ! (0 ∷ []) $ split ! $
    enter ! _ _ _ _ _ $ alloc_all ! (λ l. pass_all ! refl tt $
    sets ! (agg ! (and_then ! (lit ! tt) (no_more !))) refl (tt, (record { fits = lit< tt }, tt)) $
    nothing ! $ pointer_in ! null_ptr None $
    use0 𝓛 (raw (fact 𝓤 (made.held ≡ None))) (fact_i 𝓤 (made.held ≡ None) (emp 𝓤) refl) $
    returns ! (look_at ! 0 refl) $ free_all ! refl $ keep ! (2 ∷ 3 ∷ 1 ∷ 0 ∷ []) $
    by ! (leaves 𝓛 f.ended tt c z (word null_ptr) made tt tt)))
