-- A slave stands for the bytes that arrived at it, and hears at a byte what the grammar hears at the last of them.
use Rattle.std.proofs.Common.{◌≡◌, ℕ, true, List, [], ◌∷◌, ◌++◌, Option, Some, None, inl, inr, ap, sym, subst, ◌∙◌, refl, append-nil}
use Rattle.std.specs.Prelude.{◌⊎◌}
use Rattle.df1_base.specs.declared.host.Host.{Ghosts}
use Rattle.df1_check.specs.declared.Check.{Check}
use Rattle.df1_frame.specs.Line.{ReadOff, last_heard}
use Rattle.df1_frame.proofs.LineLemmas.{stands-next, heard-next, same-split, stands-start as line-start}
use Rattle.half_frame.specs.declared.heard.SlaveHeard.{SlaveHeard}
use Rattle.half_frame.specs.declared.heard.SlaveHeard.TheVariants as heard
use Rattle.half_frame.specs.SlaveGrammar.{slave_hears}
use Rattle.half_frame.specs.SlaveStanding.{Listening, listening}
use Rattle.half_frame.specs.SlaveStep.{next}
use Rattle.half_frame.proofs.SlaveLemmas.{machine, works}
use Rattle.half_slave.specs.declared.SlaveSetup.{SlaveSetup}
use Rattle.half_slave.specs.Slave.{SlaveState, new_slave, is_whole, station_of, heard_at, slave_after_byte, step_at_byte}
use Rattle.half_slave.specs.Emission.{Letter, Byte, Take, slave_after, bytes_among}
use Rattle.half_slave.specs.Arrived.{StandsFor, Hears, TellsMessage, Arrival, bytes_arrived, HeardByGrammar}
use Rattle.half_slave.proofs.Rows.{byte-ear}

-- a new slave stands for no byte
pub stands-new : {H : Type 0} (setup : SlaveSetup) (host : H) → StandsFor setup.check [] (new_slave setup host)
stands-new setup host = line-start (slave_hears setup.check 250) (machine setup.check 250) (works setup.check 250)

-- its ear stands for one byte more
pub ear-byte : {H : Type 0} (s : SlaveState H) (b : ℕ) (check : Check) (bytes : List ℕ) → StandsFor check bytes s → ReadOff (slave_hears check 250) (bytes ++ b ∷ []) (listening check 250) (next 250 s.ear b).0
ear-byte s b check bytes stands = stands-next (slave_hears check 250) (machine check 250) (works check 250) b bytes s.ear stands

-- and so does the slave
pub stands-byte : {H : Type 0} (m : Ghosts H) (s : SlaveState H) (b : ℕ) (check : Check) (bytes : List ℕ) → StandsFor check bytes s → StandsFor check (bytes ++ b ∷ []) (slave_after_byte m s b)
stands-byte m s b check bytes stands =
    subst (λ (e : Listening). ReadOff (slave_hears check 250) (bytes ++ b ∷ []) (listening check 250) e) (sym (byte-ear m s b))
    (ear-byte s b check bytes stands)

pub stands-signal : {H : Type 0} (m : Ghosts H) (check : Check) (bytes : List ℕ) (s : SlaveState H) (signal : Letter) → StandsFor check bytes s
    → StandsFor check (bytes ++ bytes_among (signal ∷ [])) (slave_after m s signal)
stands-signal m check bytes s (Byte b) stands = stands-byte m s b check bytes stands
stands-signal m check bytes s Take stands = rw (append-nil bytes) stands

-- ---- what is heard

-- at a byte it is what the grammar hears at the last of all
pub byte-hears : {H : Type 0} (s : SlaveState H) (b : ℕ) (check : Check) (bytes : List ℕ) → StandsFor check bytes s → Hears check (bytes ++ b ∷ []) (heard_at s b)
byte-hears s b check bytes stands = heard-next (slave_hears check 250) (machine check 250) (works check 250) b bytes s.ear stands

-- ---- whole messages

pub whole-is : (what : Option SlaveHeard) → is_whole what ≡ true → what ≡ Some (heard.Addressed (station_of what))
whole-is None whole = cc
whole-is (Some (heard.Addressed stn)) whole = refl
whole-is (Some (heard.Header stn)) whole = cc
whole-is (Some (heard.Poll stn)) whole = cc
whole-is (Some heard.BadPoll) whole = cc
whole-is (Some (heard.Damaged stn)) whole = cc
whole-is (Some heard.Ack) whole = cc
whole-is (Some heard.Reset) whole = cc
whole-is (Some (heard.Stray b)) whole = cc
whole-is (Some (heard.StrayPair code)) whole = cc

-- what is heard is told as whole, with its station, exactly where the grammar hears a whole message to that station
heard-tells : (check : Check) (bytes : List ℕ) (what : Option SlaveHeard) → Hears check bytes what
    → TellsMessage check bytes (is_whole what) (station_of what)
heard-tells check bytes what hears stn = (
  λ told.
      let named : what ≡ Some (heard.Addressed stn) = whole-is what told.0 ∙ ap (λ (n : ℕ). Some (heard.Addressed n)) told.1 in
      subst (λ (w : Option SlaveHeard). Hears check bytes w) named hears,
  λ whole.
      let same : Some (heard.Addressed stn) ≡ what =
      same-split (slave_hears check 250) (machine check 250) (works check 250) bytes (last_heard (slave_hears check 250)) (last_heard (slave_hears check 250)) what (Some (heard.Addressed stn)) hears whole
      ∙ sym hears.is in
      (ap is_whole (sym same), ap station_of (sym same)),
)

pub byte-tells : {H : Type 0} (m : Ghosts H) (s : SlaveState H) (b : ℕ) (check : Check) (bytes : List ℕ) → StandsFor check bytes s
    → TellsMessage check (bytes ++ b ∷ []) (step_at_byte m s b).whole (step_at_byte m s b).station
byte-tells m s b check bytes stands = heard-tells check (bytes ++ b ∷ []) (heard_at s b) (byte-hears s b check bytes stands)

-- ---- what arrived

nothing-before : (before later : List Arrival) (at : Arrival) → [] ≡ before ++ at ∷ later → ⊥
nothing-before [] later at is = cc
nothing-before (first ∷ before) later at is = cc

-- nothing arrived
pub heard-none : (check : Check) → HeardByGrammar check []
heard-none check before later at is = absurd (nothing-before before later at is)

-- a cut of a list with one more at its end is at that one, or before it
last-cut : (arrivals before later : List Arrival) (last at : Arrival) → arrivals ++ last ∷ [] ≡ before ++ at ∷ later
    → ((rest : List Arrival) × (arrivals ≡ before ++ at ∷ rest)) ⊎ ((before ≡ arrivals) × (at ≡ last))
last-cut [] [] later last at is = inr (refl, cc)
last-cut [] (first ∷ before) later last at is = absurd (nothing-before before later at cc)
last-cut (first ∷ arrivals) [] later last at is = inl (arrivals, cc)
last-cut (first ∷ arrivals) (other ∷ before) later last at is =
    let same : first ≡ other = cc in
    elim (last-cut arrivals before later last at cc) as (λ _. ((rest : List Arrival) × (first ∷ arrivals ≡ (other ∷ before) ++ at ∷ rest)) ⊎ ((other ∷ before ≡ first ∷ arrivals) × (at ≡ last))) [
      | inl cut ↦ inl (cut.0, cc)
      | inr end ↦ inr (cc, end.1)
    ]

-- a byte more
pub heard-more : (check : Check) (arrivals : List Arrival) (last : Arrival) → HeardByGrammar check arrivals → TellsMessage check (bytes_arrived arrivals ++ last.byte ∷ []) last.whole last.station
    → HeardByGrammar check (arrivals ++ last ∷ [])
heard-more check arrivals last so_far now before later at is =
    elim (last-cut arrivals before later last at is) as (λ _. TellsMessage check (bytes_arrived before ++ at.byte ∷ []) at.whole at.station) [
      | inl cut ↦ so_far before cut.0 at cut.1
      | inr end ↦
          let P : List Arrival → Arrival → Type 0 = λ l a. TellsMessage check (bytes_arrived l ++ a.byte ∷ []) a.whole a.station in
          subst (λ (a : Arrival). P before a) (sym end.1) (subst (λ (l : List Arrival). P l last) (sym end.0) now)
    ]
