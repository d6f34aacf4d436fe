-- The bytes that arrived at a master, and what its grammar of the line hears in them.
use Rattle.std.specs.Prelude.{◌≡◌, ◌↔◌, ℕ, Bool, true, List, [], ◌∷◌, ◌++◌, map, Option, Some}
use Rattle.df1_check.specs.declared.Check.{Check}
use Rattle.df1_frame.specs.Line.{ReadOff, last_heard}
use Rattle.half_frame.specs.declared.heard.MasterHeard.{MasterHeard}
use Rattle.half_frame.specs.declared.heard.MasterHeard.TheVariants as heard
use Rattle.half_frame.specs.MasterGrammar.{master_hears}
use Rattle.half_frame.specs.MasterStanding.{listening}
use Rattle.half_master.specs.Master.{MasterState}

-- the master stands for these bytes: its ear is where the grammar says, over all of them
abbrev pub StandsFor : {H : Type 0} → Check → List ℕ → MasterState H → Type 0
StandsFor check bytes e = ReadOff (master_hears check 250) bytes (listening check 250) e.ear

-- the grammar hears this at the last of these bytes
abbrev pub Hears : Check → List ℕ → Option MasterHeard → Type 0
Hears check bytes what = ReadOff (master_hears check 250) bytes (last_heard (master_hears check 250)) what

-- the grammar hears a whole message at the last of these bytes
abbrev pub HearsWhole : Check → List ℕ → Type 0
HearsWhole check bytes = Hears check bytes (Some heard.Good)

-- a byte that arrived, and whether a whole message was heard there
pub record Arrival : Type 0 where
  pub byte : ℕ
  pub whole : Bool

abbrev pub bytes_arrived : List Arrival → List ℕ
bytes_arrived arrivals = map {A = Arrival} (λ a. a.byte) arrivals

-- at each byte that arrived, a whole message was heard exactly where the grammar, over all bytes that had arrived by then, hears one at its last
abbrev pub HeardByGrammar : Check → List Arrival → Type 0
HeardByGrammar check arrivals =
    (before later : List Arrival) (at : Arrival) → arrivals ≡ before ++ at ∷ later → (at.whole ≡ true) ↔ HearsWhole check (bytes_arrived before ++ at.byte ∷ [])
