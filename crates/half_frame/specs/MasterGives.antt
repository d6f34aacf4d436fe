-- What the master gives, by the grammar of what a slave hears. 6 is ACK.
use Rattle.std.specs.Prelude.{◌≡◌, ℕ, List, [], ◌∷◌, ◌++◌, slice_index}
use Rattle.df1_base.specs.Host.{IsBody}
use Rattle.df1_check.specs.declared.Check.{Check}
use Rattle.df1_check.specs.Checks.{bcc}
use Rattle.df1_frame.specs.Spelling.{check_of}
use Rattle.half_frame.specs.Spelling.{station_head}
use Rattle.half_frame.specs.SlaveGrammar.{Item, Stray, Pair, Poll, Message, NoText, Broken, CutOff, slave_hears}
use Rattle.half_frame.specs.Wire.{Rights, AreRightBytes}

-- a whole message, of a body of 6 to 250 bytes and with its own check, to the station that its first byte names; a poll with a right check; or an ACK
abbrev pub IsRight : Check → Item → Type 0
IsRight check (Stray b) = ⊥
IsRight check (Pair code) = code ≡ 6
IsRight check (Poll stn bytes) = bytes ≡ bcc (stn ∷ [])
IsRight check (Message stn body bytes) = IsBody body × (stn ≡ slice_index body 0) × (bytes ≡ check_of check (station_head check stn ++ body))
IsRight check (NoText stn b) = ⊥
IsRight check (Broken begun code) = ⊥
IsRight check (CutOff begun) = ⊥

-- the body of a message
abbrev pub bodies_at : Item → List (List ℕ)
bodies_at (Stray b) = []
bodies_at (Pair code) = []
bodies_at (Poll stn check) = []
bodies_at (Message stn body check) = body ∷ []
bodies_at (NoText stn b) = []
bodies_at (Broken begun code) = []
bodies_at (CutOff begun) = []

abbrev pub rights : (check : Check) → Rights (slave_hears check 250)
rights check = record { IsRight = IsRight check; bodies_at = bodies_at }

-- the bytes are whole messages, each to its station, polls and ACKs, with at the end perhaps the begin of one more, and never a
-- stray byte, a stray pair or a message or poll that is broken, cut off, short, long or with a wrong check; and the messages are these
abbrev pub IsGivenByMaster : Check → List (List ℕ) → List ℕ → Type 0
IsGivenByMaster check messages bytes = AreRightBytes (slave_hears check 250) (rights check) messages bytes
