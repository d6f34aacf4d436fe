-- The bytes that arrived at a slave, and what the grammar of the master's bytes hears in them.
use Rattle.std.specs.Prelude.{◌≡◌, ◌↔◌, ℕ, Bool, true, List, [], ◌∷◌, ◌++◌, map, Option, Some}
use Rattle.df1_check.specs.declared.Check.{Check}
use Rattle.df1_frame.specs.Line.{ReadOff, last_heard}
use Rattle.half_frame.specs.declared.heard.SlaveHeard.{SlaveHeard}
use Rattle.half_frame.specs.declared.heard.SlaveHeard.TheVariants as heard
use Rattle.half_frame.specs.SlaveGrammar.{slave_hears}
use Rattle.half_frame.specs.SlaveStanding.{listening}
use Rattle.half_slave.specs.Slave.{SlaveState}

-- the slave stands for these bytes: its ear is where the grammar says, over all of them
abbrev pub StandsFor : {H : Type 0} → Check → List ℕ → SlaveState H → Type 0
StandsFor check bytes s = ReadOff (slave_hears check 250) bytes (listening check 250) s.ear

-- the grammar hears this at the last of these bytes
abbrev pub Hears : Check → List ℕ → Option SlaveHeard → Type 0
Hears check bytes what = ReadOff (slave_hears check 250) bytes (last_heard (slave_hears check 250)) what

-- the grammar hears a whole message to this station at the last of these bytes
abbrev pub HearsMessage : Check → List ℕ → ℕ → Type 0
HearsMessage check bytes stn = Hears check bytes (Some (heard.Addressed stn))

-- a byte that arrived, whether a whole message was heard there, and the station that it names
pub record Arrival : Type 0 where
  pub byte : ℕ
  pub whole : Bool
  pub station : ℕ

-- the bytes alone
abbrev pub bytes_arrived : List Arrival → List ℕ
bytes_arrived arrivals = map {A = Arrival} (λ a. a.byte) arrivals

-- a whole message to a station is told exactly where the grammar hears one at the last of these bytes
abbrev pub TellsMessage : Check → List ℕ → Bool → ℕ → Type 0
TellsMessage check bytes whole station = (stn : ℕ) → ((whole ≡ true) × (station ≡ stn)) ↔ HearsMessage check bytes stn

-- at each byte that arrived, a whole message was told exactly where the grammar, over all bytes that had arrived by then, hears one at its last
abbrev pub HeardByGrammar : Check → List Arrival → Type 0
HeardByGrammar check arrivals =
    (before later : List Arrival) (at : Arrival) → arrivals ≡ before ++ at ∷ later → TellsMessage check (bytes_arrived before ++ at.byte ∷ []) at.whole at.station
