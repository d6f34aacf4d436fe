-- `unseal` makes the box of the pointer again.
use Rattle.std.proofs.Common.{◌≡◌, List, [], ◌∷◌, ◌++◌, refl, sym, ap, subst, ◌∙◌}
use mir.Val.{Val, vptr}
use base.Logic.{SProp, ent, id⊢, emp}
use base.Fraction.{full_share}
use base.Fml.{Lft, ftrue, fsep, flft}
use prog.Wp.{WpFn}
use types.Logic.{sem}
use types.Kit.{‵, raw, ◌⊛◌, some, later, at_ret, ◌$◌, ◌∵◌, !, qed, by, move, keep, drop, split, split3, join, fsplit, fjoin, pick, suffices, use0, use1, await, rewrite, feq_i}
use types.Run.{stop, fld, of_opd, no_more, and_then, first, blocks, exec, returns, enter}
use types.ByLocal.{alloc_all, pass_all, free_all, look_at, get, get_in, sets, lands_last, env}
use types.Part.{sub, whole}
use types.Tokens.{lft_new}
use contract.Monad.{fact, fact_i}
use contract.BorrowLft.{◌⊑◌, ⊑_static}
use contract.Running.{tables}
use denote.Exit.{yes}
use denote.Signature.{plain}
use denote.RawPtr.{Ptr, block_ptr}
use denote.Steps.{nothing, only, heard}
use denote.Param.NoDrop as none_dropped
use denote.Triple.Clauses.{Lasts, lasts}
use denote.Triple.Spec.{triple_of}
use denote.Triple.Call.{calls_at_last}
use denote.Triple.Walked.{Stays, stay_dropped, Goes-dropped, walk_of}
use Rattle.std.specs.Prelude.{IsSome}
use Rattle.std.proofs.alloc.Calls.{handle_tells}
use Rattle.std.proofs.cell.Inside as box_good
use denote.Triple.Table.{framed}
use Rattle.std_alloc.proofs.BoxSteps.Form as box
use Rattle.std_alloc.proofs.BoxSteps.Steps.{box_out, box_in}
use Rattle.std.proofs.raw_atomic.Walks.{proved_at, leaves}
use Rattle.std_heap.proofs.GlobalAllocator.TheImpl.Met as heap_met
use Rattle.std_alloc.specs.contracts.boxed.Box.from_raw as callee
use Rattle.std_alloc.proofs.boxed.Box.from_raw.Met.{met}
use Rattle.std_heap.specs.contracts.Global as heap
use Rattle.df1_c.specs.contracts.pointer.Pointer as pointer
use Rattle.df1_c.specs.Owned.{pointer_owns}
use Rattle.std.specs.declared.option.Option.{Option}
use Rattle.std.specs.declared.option.Option.TheVariants.{Some}
use Rattle.df1_c.specs.Owned.{freeable}
use Rattle.std_alloc.specs.Box.Ownership.{box_owns}
use mir.Raw.{raw as bare}
use base.Logic.{never, fst∗}
use denote.RawPtr.{null_ptr, in_a_block}
use denote.Param.{layout}
use Rattle.df1_c.specs.Rows.{Kept, kept_row}
use Rattle.df1_c.proofs.Pointed.{word, pointer_out, some_of}
use Rattle.df1_c.proofs.Heap.{E}
use Rattle.df1_c.specs.contracts.pointer.Pointer.unseal as f
use Rattle.df1_c.proofs.pointer.Pointer.unseal.Statement.{statement}
use Rattle.df1_c.proofs.pointer.Pointer.unseal.Code as code
use Rattle.df1_c.proofs.Destruct++none.drop.Code as none_code

pub unseal_spec : {M : Type 1} → statement M
unfolding pointer_owns none_code.code
unseal_spec 𝓤 𝓛 𝓜 𝓡 wired =
    let c = f.clauses 𝓛 𝓜.mem 𝓡.returns in
    let hs : Stays f.ended.signature.params f.ended.kept = (stay_dropped (plain (λ _. pointer.the_row)) yes, (stay_dropped (plain (λ _. heap.the_row)) yes, tt)) in
    proved_at 𝓛 f.ended hs c 𝓜 𝓡 (Goes-dropped 𝓛 0 (plain (λ _. pointer.the_row)) yes (λ κs x g. refl), (Goes-dropped 𝓛 0 (plain (λ _. heap.the_row)) yes (λ κs x g. refl), tt)) f.Key.name code.function (code.unfolded 𝓤 𝓛.H 𝓜 𝓡 wired) (λ z are.
    let a = z.0.3.1.0 in let v = z.0.3.0 in let W = walk_of 𝓛 f.ended hs c in let B = box.B E in let 𝓣 = tables 𝓤 𝓛.H 𝓜 𝓡 𝓡.env in
    let Run : List Val → List Val → SProp 𝓤 = λ us hv. WpFn 𝓤 𝓛.H 𝓣.C 𝓣.Λ code.function (us ++ (hv ++ [])) (W.post z) in
    qed 𝓛 ((‵ ftrue ⊛ ‵ (fsep (pointer.the_row.own_val v z.0.4.0) (fsep (heap.the_row.own_val a z.0.4.1.0) ftrue))) ∷ raw (fact 𝓤 (IsSome v.held)) ∷ []) ∵
    move ! (1 ∷ []) $ heard ! (IsSome v.held) (λ there. split ! $ drop ! $ fsplit ! $ pointer_out ! v z.0.4.0 (λ ws.
    let x = (some_of v.held there).0 in
    rewrite ! 0 (λ (h : Option Kept). ‵ (pointer_owns v.at h)) (some_of v.held there).1 refl $ use1 𝓛 (‵ (box_owns freeable kept_row v.at x)) (id⊢ 𝓤 _) $
    in_a_block ! v.at (λ p. box_owns freeable kept_row p x) (fst∗ 𝓤 (never 𝓤) (sem 𝓛 (freeable (bare (layout kept_row)) null_ptr))) (λ b o e.
    move ! (1 ∷ []) $ fsplit ! $ handle_tells E.al ! a z.0.4.1.0 (λ hv ha fits. move ! (1 ∷ []) $ drop ! $ move ! (1 ∷ []) $
    -- [the box's memory; the handle]
    suffices ! (Run (word (block_ptr b o) ∷ []) (hv ∷ [])) (subst (λ (us : List Val). ent 𝓤 (Run (word (block_ptr b o) ∷ []) (hv ∷ [])) (Run us z.0.4.1.0)) (sym (ws ∙ ap (λ (p : Ptr). word p ∷ []) e))
    (subst (λ (hs' : List Val). ent 𝓤 (Run (word (block_ptr b o) ∷ []) (hv ∷ [])) (Run (word (block_ptr b o) ∷ []) hs')) (sym ha) (id⊢ 𝓤 _))) $
    enter ! 𝓣.C 𝓣.Λ code.function (word (block_ptr b o) ∷ hv ∷ []) (W.post z) $ alloc_all ! (λ l. pass_all ! refl ((tt, (tt, tt)), (fits, tt)) $
    sets ! (of_opd ! (get_in ! (fld ! refl (stop !)) (sub ! 0 refl (whole !)))) refl (tt, tt) $ first ! $ blocks ! $ sets ! (of_opd ! (get ! refl)) refl (tt, tt) $
    lft_new ! tt (λ α. lft_new ! tt (λ β.
    let κs : Lft × (Lft × Unit {0}) = (α ∷ [], (β ∷ [], tt)) in
    let k = triple_of 𝓛 (callee.signature E.row E.al.row E.al.g E.al.d E.al.drops) (callee.spec E.row E.al.row E.al.g E.al.d E.al.drops 𝓛 𝓜.mem 𝓡.returns) in
    let y : k.Ghost = ((κs, (full_share, (full_share, tt)), tt, (a, (block_ptr b o, tt)), (hv ∷ [], (vptr b o ∷ [], tt))), x) in
    -- [β's token; α's; the box's memory; the handle]
    move ! (2 ∷ []) $ use0 𝓛 (raw (fact 𝓤 (κs.1.0 ⊑ []))) (fact_i 𝓤 (κs.1.0 ⊑ []) (emp 𝓤) (⊑_static κs.1.0)) $ join ! $ use0 𝓛 (raw (fact 𝓤 (κs.0 ⊑ []))) (fact_i 𝓤 (κs.0 ⊑ []) (emp 𝓤) (⊑_static κs.0)) $ join ! $
    nothing ! $ feq_i ! (List Val) (vptr b o ∷ []) (vptr b o ∷ []) refl $ fjoin ! $ move ! (4 ∷ 0 ∷ []) $ fjoin ! $
    nothing ! $ move ! (3 ∷ 0 ∷ []) $ join ! $ move ! (3 ∷ 0 ∷ []) $ join ! $ join ! $ join ! $ use1 𝓛 (raw (k.pre y)) (id⊢ 𝓤 _) $
    calls_at_last ! (framed 𝓤 𝓛.H 𝓜 𝓣) k (met 𝓤 𝓛 𝓜 𝓡 (code.calls-std_alloc::boxed::Box::from_raw 𝓡.env wired) E.row E.al.row E.laws E.al.laws E.al.g E.al.d E.al.drops
    (heap_met.passed 𝓡.env (code.calls-std_heap::GlobalAllocator::allocate 𝓡.env wired) (code.calls-std_heap::GlobalAllocator::deallocate 𝓡.env wired) (code.calls-std_heap::GlobalAllocator::grow 𝓡.env wired) (code.calls-std_heap::GlobalAllocator::shrink 𝓡.env wired) _ 𝓤 𝓛 𝓜 𝓡)
    (none_dropped.glues "df1_c::Destruct++none::drop" 𝓡.env (code.calls-df1_c::Destruct++none::drop 𝓡.env wired) E.al.row E.al.laws _ 𝓤 𝓛 𝓜 𝓡)) y (and_then ! (get ! refl) (and_then ! (get ! refl) (no_more !))) (λ u.
    let Ce = callee.ended E.row E.al.row E.al.g E.al.d E.al.drops in
    use1 𝓛 (later (some (λ (r : B.Denot). ((‵ (flft κs.0 full_share) ⊛ ‵ (flft κs.1.0 full_share) ⊛ ‵ ftrue) ⊛ ‵ (B.own_val r (u ∷ []))) ⊛ some (λ (ls : Lasts Ce κs y.0.3).
    ‵ (lasts Ce κs y.0.3 ls) ⊛ (raw (fact 𝓤 (r.value ≡ x)) ⊛ raw (fact 𝓤 (r.alloc ≡ a))))))) (id⊢ 𝓤 (k.post y u)) $
    await ! tt $ pick ! (λ r. split ! $ move ! (1 ∷ []) $ pick ! (λ _. split3 ! $ drop ! $ heard ! (r.value ≡ x) (λ same. drop ! $ split ! $ drop ! $
    box_out E ! r (u ∷ []) (λ b' o' h' e' us fits'. box_in E ! r b' o' r.value e' refl $ rewrite ! 0 (λ (xs : List Val). ‵ (B.own_val r xs)) (sym us) refl $
    let good : box_good.Good (layout B) u = subst (box_good.Good (layout B)) (sym (ap only us)) (box.box_typed E h' b' o' fits') in
    let is : Some r.value ≡ v.held = ap Some same ∙ sym (some_of v.held there).1 in
    lands_last ! refl good $ exec ! 𝓣.C 𝓣.Λ (env code.Mir.locals l) code.Mir.t-3 (at_ret _ (W.post z)) $ sets ! (of_opd ! (get ! refl)) refl good $
    nothing ! $ nothing ! $ fjoin ! $ nothing ! $ fjoin ! $ returns ! (look_at ! 0 refl) $ free_all ! refl $
    use0 𝓛 (raw (fact 𝓤 (Some r.value ≡ v.held))) (fact_i 𝓤 (Some r.value ≡ v.held) (emp 𝓤) is) $ nothing ! $ keep ! (0 ∷ 2 ∷ 3 ∷ 1 ∷ []) $
    by ! (leaves 𝓛 f.ended hs c z u r (tt, (tt, tt)) (tt, (tt, tt))))))))))))))))
