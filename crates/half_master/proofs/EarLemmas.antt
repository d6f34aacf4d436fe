-- A master stands for the bytes that arrived at it, and hears at a byte what the grammar hears at the last of them.
use Rattle.std.proofs.Common.{◌≡◌, ℕ, true, List, [], ◌∷◌, ◌++◌, Option, Some, None, inl, inr, ap, sym, subst, ◌∙◌, refl, append-nil}
use Rattle.std.specs.Prelude.{◌↔◌, ◌⊎◌, slice_get, slice_index}
use Rattle.std.proofs.lemmas.Bool.{cond_both}
use Rattle.df1_base.specs.declared.host.Host.{Ghosts}
use Rattle.df1_base.specs.HostAnswers.{host_told}
use Rattle.df1_check.specs.declared.Check.{Check}
use Rattle.df1_frame.specs.Line.{ReadOff, last_heard}
use Rattle.df1_frame.proofs.LineLemmas.{stands-next, heard-next, same-split, stands-start as line-start}
use Rattle.half_frame.specs.declared.heard.MasterHeard.{MasterHeard}
use Rattle.half_frame.specs.declared.heard.MasterHeard.TheVariants as heard
use Rattle.half_frame.specs.MasterGrammar.{master_hears}
use Rattle.half_frame.specs.MasterStanding.{Listening, listening}
use Rattle.half_frame.specs.MasterStep.{next}
use Rattle.half_frame.proofs.MasterLemmas.{machine, works}
use Rattle.half_master.specs.declared.MasterSetup.{MasterSetup}
use Rattle.half_master.specs.declared.stations.Station.{Station}
use Rattle.half_master.specs.declared.table.Effect.{Effect}
use Rattle.half_master.specs.declared.table.Effect.TheVariants as effect
use Rattle.half_master.specs.Stations.{is_listed}
use Rattle.half_master.specs.Master.{MasterState, new_master, with_host, with_byte, heard_at, polled, performed, effect_of_byte, effect_at_tick, fate_of, host_accepted, host_ticked, body_of, is_good, master_after_byte, master_after_tick, master_after_take, step_at_byte, message_next, begun_of}
use Rattle.half_master.specs.Emission.{Letter, Byte, Tick, Take, master_after, bytes_among}
use Rattle.half_master.specs.Arrived.{StandsFor, Hears, HearsWhole, Arrival, bytes_arrived, HeardByGrammar}

-- ---- the ear after an effect and a take

polled-ear : {H : Type 0} (e : MasterState H) (station : Option Station) → (polled e station).ear ≡ e.ear
polled-ear e None = refl
polled-ear e (Some station) = refl

pub performed-ear : {H : Type 0} (e : MasterState H) (what : Effect) → (performed e what).ear ≡ e.ear
performed-ear e effect.Nothing = refl
performed-ear e (effect.Waits left) = refl
performed-ear e effect.Delivered = refl
performed-ear e (effect.Again resent) = refl
performed-ear e effect.GivenUp = refl
performed-ear e effect.PollOver = refl
performed-ear e (effect.Accepted place) = refl
performed-ear e effect.Repeated = refl
performed-ear e effect.Refused = refl
performed-ear e effect.Damaged = refl
performed-ear e effect.Polls = polled-ear e (slice_get e.stations e.next)

begun_of-ear : {H : Type 0} (m : Ghosts H) (e : MasterState H) (message : Option (List ℕ)) → (begun_of m e message).ear ≡ e.ear
begun_of-ear m e None = refl
begun_of-ear {H} m e (Some body) = cond_both (is_listed e.stations (slice_index body 0)) _ _ (λ (x : MasterState H). x.ear ≡ e.ear) (λ is. refl) (λ is. refl)

pub take-ear : {H : Type 0} (m : Ghosts H) (e : MasterState H) → (master_after_take m e).ear ≡ e.ear
take-ear m e = begun_of-ear m e (message_next m e)

-- ---- the bytes that a master stands for

-- a new master stands for no byte
pub stands-new : {H : Type 0} (setup : MasterSetup) (numbers : List ℕ) (host : H) → StandsFor setup.check [] (new_master setup numbers host)
stands-new setup numbers host = line-start (master_hears setup.check 250) (machine setup.check 250) (works setup.check 250)

-- for the same bytes with the same ear
pub stands-same : {H : Type 0} (e other : MasterState H) (check : Check) (bytes : List ℕ) → other.ear ≡ e.ear → StandsFor check bytes e → StandsFor check bytes other
stands-same e other check bytes is stands = subst (λ (ear : Listening). ReadOff (master_hears check 250) bytes (listening check 250) ear) (sym is) stands

-- for one byte more
pub ear-byte : (ear : Listening) (b : ℕ) (check : Check) (bytes : List ℕ) → ReadOff (master_hears check 250) bytes (listening check 250) ear
    → ReadOff (master_hears check 250) (bytes ++ b ∷ []) (listening check 250) (next 250 ear b).0
ear-byte ear b check bytes stands = stands-next (master_hears check 250) (machine check 250) (works check 250) b bytes ear stands

pub stands-byte : {H : Type 0} (m : Ghosts H) (e : MasterState H) (b : ℕ) (check : Check) (bytes : List ℕ) → StandsFor check bytes e → StandsFor check (bytes ++ b ∷ []) (master_after_byte m e b)
stands-byte m e b check bytes stands =
    let what = effect_of_byte m e b in
    let told = with_host (with_byte e b) (host_told m (fate_of what) (host_accepted m what e.host (body_of (with_byte e b)))) in
    stands-same told (performed told what) check (bytes ++ b ∷ []) (performed-ear told what) (ear-byte e.ear b check bytes stands)

pub stands-tick : {H : Type 0} (m : Ghosts H) (e : MasterState H) (check : Check) (bytes : List ℕ) → StandsFor check bytes e → StandsFor check bytes (master_after_tick m e)
stands-tick m e check bytes stands =
    let what = effect_at_tick m e in
    let told = with_host e (host_told m (fate_of what) (host_ticked m what e.host)) in
    stands-same told (performed told what) check bytes (performed-ear told what) stands

pub stands-take : {H : Type 0} (m : Ghosts H) (e : MasterState H) (check : Check) (bytes : List ℕ) → StandsFor check bytes e → StandsFor check bytes (master_after_take m e)
stands-take m e check bytes stands = stands-same e (master_after_take m e) check bytes (take-ear m e) stands

pub stands-signal : {H : Type 0} (m : Ghosts H) (check : Check) (bytes : List ℕ) (e : MasterState H) (signal : Letter) → StandsFor check bytes e
    → StandsFor check (bytes ++ bytes_among (signal ∷ [])) (master_after m e signal)
stands-signal m check bytes e (Byte b) stands = stands-byte m e b check bytes stands
stands-signal m check bytes e Tick stands = rw (append-nil bytes) (stands-tick m e check bytes stands)
stands-signal m check bytes e Take stands = rw (append-nil bytes) (stands-take m e check bytes stands)

-- ---- what is heard

-- at a byte it is what the grammar hears at the last of all
pub byte-hears : {H : Type 0} (e : MasterState H) (b : ℕ) (check : Check) (bytes : List ℕ) → StandsFor check bytes e → Hears check (bytes ++ b ∷ []) (heard_at e b)
byte-hears e b check bytes stands = heard-next (master_hears check 250) (machine check 250) (works check 250) b bytes e.ear stands

-- ---- whole messages

good-is : (what : Option MasterHeard) → is_good what ≡ true → what ≡ Some heard.Good
good-is None good = cc
good-is (Some heard.Good) good = refl
good-is (Some heard.Damaged) good = cc
good-is (Some heard.Ack) good = cc
good-is (Some heard.Nak) good = cc
good-is (Some heard.Eot) good = cc
good-is (Some (heard.Stray b)) good = cc
good-is (Some (heard.StrayPair c)) good = cc

-- what is heard is good exactly where the grammar hears a whole message
pub good-heard : (check : Check) (bytes : List ℕ) (what : Option MasterHeard) → Hears check bytes what → (is_good what ≡ true) ↔ HearsWhole check bytes
good-heard check bytes what told = (
  λ good. subst (λ (w : Option MasterHeard). Hears check bytes w) (good-is what good) told,
  λ whole.
      let same : Some heard.Good ≡ what =
      same-split (master_hears check 250) (machine check 250) (works check 250) bytes (last_heard (master_hears check 250)) (last_heard (master_hears check 250)) what (Some heard.Good) told whole
      ∙ sym told.is in
      ap is_good (sym same),
)

pub whole-byte : {H : Type 0} (m : Ghosts H) (e : MasterState H) (b : ℕ) (check : Check) (bytes : List ℕ) → StandsFor check bytes e
    → ((step_at_byte m e b).whole ≡ true) ↔ HearsWhole check (bytes ++ b ∷ [])
whole-byte m e b check bytes stands = good-heard check (bytes ++ b ∷ []) (heard_at e b) (byte-hears e b check bytes stands)

-- ---- what arrived

nothing-before : (before later : List Arrival) (at : Arrival) → [] ≡ before ++ at ∷ later → ⊥
nothing-before [] later at is = cc
nothing-before (first ∷ before) later at is = cc

-- nothing arrived
pub heard-none : (check : Check) → HeardByGrammar check []
heard-none check before later at is = absurd (nothing-before before later at is)

-- a cut of a list with one more at its end is at that one, or before it
last-cut : (arrivals before later : List Arrival) (last at : Arrival) → arrivals ++ last ∷ [] ≡ before ++ at ∷ later
    → ((rest : List Arrival) × (arrivals ≡ before ++ at ∷ rest)) ⊎ ((before ≡ arrivals) × (at ≡ last))
last-cut [] [] later last at is = inr (refl, cc)
last-cut [] (first ∷ before) later last at is = absurd (nothing-before before later at cc)
last-cut (first ∷ arrivals) [] later last at is = inl (arrivals, cc)
last-cut (first ∷ arrivals) (other ∷ before) later last at is =
    let same : first ≡ other = cc in
    elim (last-cut arrivals before later last at cc) as (λ _. ((rest : List Arrival) × (first ∷ arrivals ≡ (other ∷ before) ++ at ∷ rest)) ⊎ ((other ∷ before ≡ first ∷ arrivals) × (at ≡ last))) [
      | inl cut ↦ inl (cut.0, cc)
      | inr end ↦ inr (cc, end.1)
    ]

-- a byte more
pub heard-more : (check : Check) (arrivals : List Arrival) (last : Arrival) → HeardByGrammar check arrivals → ((last.whole ≡ true) ↔ HearsWhole check (bytes_arrived arrivals ++ last.byte ∷ []))
    → HeardByGrammar check (arrivals ++ last ∷ [])
heard-more check arrivals last so_far now before later at is =
    elim (last-cut arrivals before later last at is) as (λ _. (at.whole ≡ true) ↔ HearsWhole check (bytes_arrived before ++ at.byte ∷ [])) [
      | inl cut ↦ so_far before cut.0 at cut.1
      | inr end ↦
          let P : List Arrival → Arrival → Type 0 = λ l a. (a.whole ≡ true) ↔ HearsWhole check (bytes_arrived l ++ a.byte ∷ []) in
          subst (λ (a : Arrival). P before a) (sym end.1) (subst (λ (l : List Arrival). P l last) (sym end.0) now)
    ]
