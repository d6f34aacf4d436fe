-- `seal` takes the box apart.
use Rattle.std.proofs.Common.{◌≡◌, List, [], ◌∷◌, ◌++◌, refl, sym, ap, subst, ◌∙◌}
use mir.Val.{Val}
use base.Logic.{SProp, ent, id⊢, emp}
use base.Fraction.{full_share}
use base.Fml.{Lft, ftrue, fsep, flft}
use prog.Wp.{WpFn}
use types.Logic.{sem}
use types.Kit.{‵, raw, ◌⊛◌, some, later, ◌$◌, ◌∵◌, !, qed, by, move, keep, drop, split, join, fsplit, fjoin, pick, feq_l, suffices, use0, use1, await}
use types.Run.{of_opd, no_more, and_then, returns, enter}
use types.ByLocal.{alloc_all, pass_all, free_all, look_at, get, sets, lands_as}
use types.Part.{agg}
use types.Tokens.{lft_new}
use contract.Monad.{fact, fact_i}
use contract.BorrowLft.{◌⊑◌, ⊑_static}
use contract.Running.{tables}
use denote.Exit.{yes}
use denote.RattleType.{RattleType}
use Rattle.std_alloc.specs.contracts.boxed.Box as box_at
use Rattle.std_heap.specs.contracts.GlobalAllocator.TheImpl.{ghosts}
use denote.Signature.{plain}
use denote.RawPtr.{Ptr, block_ptr, ptr_val, RawPtr}
use mir.Syntax.{impl, tcons, tnil, dnil, Dict}
use Rattle.df1_c.specs.declared.pointer.Pointer.{Pointer}
use denote.Steps.{nothing, only}
use denote.Param.NoDrop as none_dropped
use denote.Triple.Clauses.{Lasts, lasts}
use denote.Triple.Spec.{triple_of}
use denote.Triple.Call.{calls_at}
use denote.Triple.Walked.{Stays, stay_dropped, Goes-dropped, walk_of}
use denote.Triple.Table.{framed}
use Rattle.std_alloc.proofs.BoxSteps.Form as box
use Rattle.std_alloc.proofs.BoxSteps.Steps.{box_out, box_in}
use Rattle.std.proofs.raw_atomic.Walks.{proved_at, leaves}
use Rattle.std_heap.proofs.GlobalAllocator.TheImpl.Met as heap_met
use Rattle.std_alloc.specs.contracts.boxed.Box.into_raw as callee
use Rattle.std_alloc.proofs.boxed.Box.into_raw.Met.{met}
use Rattle.std_heap.specs.contracts.Global as heap
use Rattle.df1_c.specs.Owned.{pointer_owns}
use Rattle.std.specs.declared.option.Option.TheVariants.{Some}
use Rattle.df1_c.specs.Owned.{freeable}
use Rattle.std_alloc.specs.Box.Ownership.{box_owns}
use mir.Raw.{raw as bare}
use base.Logic.{never, fst∗}
use denote.RawPtr.{null_ptr, in_a_block}
use denote.Param.{layout}
use Rattle.df1_c.specs.Rows.{kept_row}
use Rattle.df1_c.proofs.Pointed.{word, pointer_in}
use Rattle.df1_c.proofs.Heap.{E}
use Rattle.df1_c.specs.contracts.pointer.Pointer.seal as f
use Rattle.df1_c.proofs.pointer.Pointer.seal.Statement.{statement}
use Rattle.df1_c.proofs.pointer.Pointer.seal.Code as code
use Rattle.df1_c.proofs.Destruct++none.drop.Code as none_code

abbrev boxed : RattleType
boxed = box_at.the_row kept_row heap.the_row ghosts

pub seal_spec : {M : Type 1} → statement M
unfolding pointer_owns none_code.code
seal_spec 𝓤 𝓛 𝓜 𝓡 wired =
    let c = f.clauses 𝓛 𝓜.mem 𝓡.returns in let B = box.B E in let 𝓣 = tables 𝓤 𝓛.H 𝓜 𝓡 𝓡.env in
    let hs : Stays f.ended.signature.params f.ended.kept = (stay_dropped (plain (λ _. boxed)) yes, tt) in
    let dx : Dict = impl ("df1_c::Destruct++none::drop" ∷ []) (tcons (layout E.row) tnil) dnil in
    proved_at 𝓛 f.ended hs c 𝓜 𝓡 (Goes-dropped 𝓛 0 (plain (λ _. boxed)) yes (λ κs x g. refl), tt) f.Key.name code.function (code.unfolded 𝓤 𝓛.H 𝓜 𝓡 wired) (λ z are.
    let v = z.0.3.0 in let W = walk_of 𝓛 f.ended hs c in
    let Run : List Val → SProp 𝓤 = λ us. WpFn 𝓤 𝓛.H 𝓣.C 𝓣.Λ code.function us (W.post z) in
    qed 𝓛 ((‵ ftrue ⊛ ‵ (fsep (B.own_val v z.0.4.0) ftrue)) ∷ raw (emp 𝓤) ∷ []) ∵
    keep ! (0 ∷ []) $ split ! $ drop ! $ fsplit ! $ box_out E ! v z.0.4.0 (λ b o hv e ws fa. box_in E ! v b o v.value e refl $ keep ! (0 ∷ []) $
    let w : Val = box.word E hv b o in let typed = box.box_typed E hv b o fa in
    suffices ! (Run (w ∷ [])) (subst (λ (us : List Val). ent 𝓤 (Run (w ∷ [])) (Run us)) (sym (λ i. ws i ++ [])) (id⊢ 𝓤 (Run (w ∷ [])))) $
    enter ! 𝓣.C 𝓣.Λ code.function (w ∷ []) (W.post z) $ alloc_all ! (λ l. pass_all ! refl (typed, tt) $ sets ! (of_opd ! (get ! refl)) refl typed $
    lft_new ! tt (λ α. lft_new ! tt (λ β.
    let κs : Lft × (Lft × Unit {0}) = (α ∷ [], (β ∷ [], tt)) in
    let k = triple_of 𝓛 (callee.signature E.row E.al.row E.al.g E.al.d E.al.drops dx) (callee.spec E.row E.al.row E.al.g E.al.d E.al.drops dx 𝓛 𝓜.mem 𝓡.returns) in
    let y : k.Ghost = ((κs, (full_share, (full_share, tt)), tt, (v, tt), (w ∷ [], tt)), tt) in
    -- [β's token; α's; the box]
    nothing ! $ use0 𝓛 (raw (fact 𝓤 (κs.1.0 ⊑ []))) (fact_i 𝓤 (κs.1.0 ⊑ []) (emp 𝓤) (⊑_static κs.1.0)) $ join ! $ use0 𝓛 (raw (fact 𝓤 (κs.0 ⊑ []))) (fact_i 𝓤 (κs.0 ⊑ []) (emp 𝓤) (⊑_static κs.0)) $ join ! $
    nothing ! $ move ! (4 ∷ 0 ∷ []) $ fjoin ! $
    nothing ! $ move ! (3 ∷ 0 ∷ []) $ join ! $ move ! (3 ∷ 0 ∷ []) $ join ! $ join ! $ join ! $ use1 𝓛 (raw (k.pre y)) (id⊢ 𝓤 _) $
    calls_at ! (framed 𝓤 𝓛.H 𝓜 𝓣) k (met 𝓤 𝓛 𝓜 𝓡 (code.calls-std_alloc::boxed::Box::into_raw 𝓡.env wired) E.row E.al.row E.laws E.al.laws E.al.g E.al.d E.al.drops dx
    (heap_met.passed 𝓡.env (code.calls-std_heap::GlobalAllocator::allocate 𝓡.env wired) (code.calls-std_heap::GlobalAllocator::deallocate 𝓡.env wired) (code.calls-std_heap::GlobalAllocator::grow 𝓡.env wired) (code.calls-std_heap::GlobalAllocator::shrink 𝓡.env wired) _ 𝓤 𝓛 𝓜 𝓡)
    (none_dropped.glues "df1_c::Destruct++none::drop" 𝓡.env (code.calls-df1_c::Destruct++none::drop 𝓡.env wired) E.al.row E.al.laws _ 𝓤 𝓛 𝓜 𝓡)
    (none_dropped.glues "df1_c::Destruct++none::drop" 𝓡.env (code.calls-df1_c::Destruct++none::drop 𝓡.env wired) E.row E.laws _ 𝓤 𝓛 𝓜 𝓡)) y (and_then ! (get ! refl) (no_more !)) (λ u.
    let Ce = callee.ended E.row E.al.row E.al.g E.al.d E.al.drops dx in
    use1 𝓛 (later (some (λ (r : Ptr). ((‵ (flft κs.0 full_share) ⊛ ‵ (flft κs.1.0 full_share) ⊛ ‵ ftrue) ⊛ ‵ (RawPtr.own_val r (u ∷ []))) ⊛ some (λ (ls : Lasts Ce κs y.0.3).
    ‵ (lasts Ce κs y.0.3 ls) ⊛ ‵ (box_owns freeable (box.R E) r v.value))))) (id⊢ 𝓤 (k.post y u)) $
    await ! tt $ pick ! (λ r. split ! $ move ! (1 ∷ []) $ pick ! (λ _. split ! $ drop ! $
    in_a_block ! r (λ p. box_owns freeable (box.R E) p v.value) (fst∗ 𝓤 (never 𝓤) (sem 𝓛 (freeable (bare (layout kept_row)) null_ptr))) (λ b' o' at.
    move ! (1 ∷ []) $ split ! $ drop ! $ feq_l ! (λ eu. let made : Pointer = record { at = block_ptr b' o'; held = Some v.value } in
    lands_as ! (ap only eu ∙ ap ptr_val at) refl (tt, tt) $ sets ! (of_opd ! (get ! refl)) refl (tt, tt) $
    sets ! (agg ! (and_then ! (get ! refl) (no_more !))) refl (tt, (tt, tt)) $
    use1 𝓛 (‵ (pointer_owns (block_ptr b' o') (Some v.value))) (id⊢ 𝓤 _) $ pointer_in ! (block_ptr b' o') (Some v.value) $
    nothing ! $ nothing ! $ fjoin ! $ returns ! (look_at ! 0 refl) $ free_all ! refl $
    use0 𝓛 (raw (fact 𝓤 (made.held ≡ Some v.value))) (fact_i 𝓤 (made.held ≡ Some v.value) (emp 𝓤) refl) $ nothing ! $ keep ! (0 ∷ 2 ∷ 3 ∷ 1 ∷ []) $
    by ! (leaves 𝓛 f.ended hs c z (word (block_ptr b' o')) made (tt, tt) (tt, tt))))))))))))
