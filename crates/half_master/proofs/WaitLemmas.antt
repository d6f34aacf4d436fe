-- As long as a byte is left to be given, the wait that follows has all its ticks.
use Rattle.std.proofs.Common.{◌≡◌, ℕ, true, false, List, [], ◌∷◌, length, Option, Some, None, refl, sym, subst, arith}
use Rattle.std.specs.Prelude.{slice_get, slice_index, is_some, ◌==◌}
use Rattle.std.proofs.lemmas.Bool.{cond_both, both_ways, eqb-true, ne_eqb}
use Rattle.df1_base.specs.declared.host.Host.{Ghosts}
use Rattle.df1_base.specs.HostAnswers.{host_told}
use Rattle.half_frame.specs.declared.framer.Sent.{Sent}
use Rattle.half_mouth.specs.Giving.{Giving, is_done, taken, take}
use Rattle.half_master.specs.declared.stations.Station.{Station}
use Rattle.half_master.specs.declared.table.Effect.{Effect}
use Rattle.half_master.specs.declared.table.Effect.TheVariants as effect
use Rattle.half_master.specs.Stations.{is_listed}
use Rattle.half_master.specs.Master.{MasterState, with_host, with_byte, heard_at, body_of, effect_in, effect_of_tick, polled, performed, fate_of, host_accepted, host_ticked, message_next, begun_of, given_next, master_after_byte, master_after_tick}
use Rattle.half_master.specs.Waits.{HasAllTicks}
use Rattle.half_master.specs.Emission.{Letter, Byte, Tick, Take, master_after}
use Rattle.half_master.specs.Reached.{Reached, begins, goes_on, changes}
use Rattle.half_master.proofs.FateLemmas.{begins-when}

abbrev Whole : {H : Type 0} → MasterState H → Type 0
Whole e = is_done e.mouth ≡ false → HasAllTicks e.setup e.phase

done-whole : {H : Type 0} (e : MasterState H) → is_done e.mouth ≡ true → Whole e
done-whole e done gives = absurd (both_ways (is_done e.mouth) gives done)

-- ---- an effect

polled-whole : {H : Type 0} (e : MasterState H) (o : Option Station) → is_done e.mouth ≡ true → Whole (polled e o)
polled-whole e None done = done-whole e done
polled-whole e (Some station) done = λ gives. refl

performed-whole : {H : Type 0} (e : MasterState H) (what : Effect) → is_done e.mouth ≡ true → Whole (performed e what)
performed-whole e effect.Nothing done = done-whole e done
performed-whole e (effect.Waits left) done = λ gives. absurd (both_ways (is_done e.mouth) gives done)
performed-whole e effect.Delivered done = λ gives. tt
performed-whole e (effect.Again resent) done = λ gives. refl
performed-whole e effect.GivenUp done = λ gives. tt
performed-whole e effect.PollOver done = λ gives. tt
performed-whole e (effect.Accepted place) done = λ gives. tt
performed-whole e effect.Repeated done = λ gives. tt
performed-whole e effect.Refused done = done-whole e done
performed-whole e effect.Damaged done = done-whole e done
performed-whole e effect.Polls done = polled-whole e (slice_get e.stations e.next) done

byte-whole : {H : Type 0} (m : Ghosts H) (e : MasterState H) (b : ℕ) → Whole e → Whole (master_after_byte m e b)
byte-whole m e b whole =
    let heard = with_byte e b in
    cond_both (is_done e.mouth) (effect_in m heard (heard_at e b) e.phase) effect.Nothing
    (λ (what : Effect). Whole (performed (with_host heard (host_told m (fate_of what) (host_accepted m what e.host (body_of heard)))) what))
    (λ done. performed-whole (with_host heard _) (effect_in m heard (heard_at e b) e.phase) done) (λ gives. whole)

tick-whole : {H : Type 0} (m : Ghosts H) (e : MasterState H) → Whole e → Whole (master_after_tick m e)
tick-whole m e whole =
    let effect_is = effect_of_tick e.setup (is_some (m.next_body e.host)) e.phase in
    cond_both (is_done e.mouth) effect_is effect.Nothing
    (λ (what : Effect). Whole (performed (with_host e (host_told m (fate_of what) (host_ticked m what e.host))) what))
    (λ done. performed-whole (with_host e _) effect_is done) (λ gives. whole)

-- ---- a take

taken-done : (g : Giving) (left : List Sent) → g.left ≡ left → is_done g ≡ true → is_done (taken g left).0 ≡ true
taken-done g [] is done = done
taken-done g (sent ∷ left) is done =
    absurd (let none : length g.left ≡ 0 = eqb-true (length g.left) 0 done in let some : length (sent ∷ left) ≡ 0 = subst (λ (l : List Sent). length l ≡ 0) is none in omega (arith, some))

taken-gives : (g : Giving) (left : List Sent) → g.left ≡ left → is_done (taken g left).0 ≡ false → is_done g ≡ false
taken-gives g [] is gives = gives
taken-gives g (sent ∷ left) is gives = subst (λ (l : List Sent). (length l == 0) ≡ false) (sym is) (ne_eqb (length (sent ∷ left)) 0 (λ none. omega (arith, none)))

begun-whole : {H : Type 0} (m : Ghosts H) (e : MasterState H) (o : Option (List ℕ)) → message_next m e ≡ o → Whole e → Whole (given_next (begun_of m e o))
begun-whole m e None is whole = λ gives. whole (taken-gives e.mouth e.mouth.left refl gives)
begun-whole {H} m e (Some body) is whole =
    let begins = begins-when m e body is in
    cond_both (is_listed e.stations (slice_index body 0)) _ _ (λ (x : MasterState H). Whole (given_next x)) (λ at gives. refl)
    (λ at gives. absurd (both_ways (is_done (take e.mouth).0) gives (taken-done e.mouth e.mouth.left refl begins.done)))

signal-whole : {H : Type 0} (m : Ghosts H) (e : MasterState H) (signal : Letter) → Whole e → Whole (master_after m e signal)
signal-whole m e (Byte b) whole = byte-whole m e b whole
signal-whole m e Tick whole = tick-whole m e whole
signal-whole m e Take whole = begun-whole m e (message_next m e) refl whole

pub reached-whole : {H : Type 0} (m : Ghosts H) (e : MasterState H) → Reached m e → Whole e
reached-whole m e (begins setup numbers host list holds) = λ gives. tt
reached-whole m e (goes_on from signal reached) = signal-whole m from signal (reached-whole m from reached)
reached-whole m e (changes from host holds reached) = reached-whole m from reached
