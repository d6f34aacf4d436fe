-- What a slave gives, by the grammar of what the master hears. 6 is ACK, 21 NAK, 4 EOT.
use Rattle.std.specs.Prelude.{◌≡◌, ◌⊎◌, ℕ, List, [], ◌∷◌}
use Rattle.df1_base.specs.Host.{IsBody}
use Rattle.df1_check.specs.declared.Check.{Check}
use Rattle.df1_frame.specs.Spelling.{check_of}
use Rattle.half_frame.specs.MasterGrammar.{Item, Stray, Pair, Message, Broken, CutOff, master_hears}
use Rattle.half_frame.specs.Wire.{Rights, AreRightBytes}

-- a whole message, of a body of 6 to 250 bytes and with its own check; an ACK, a NAK or an EOT
abbrev pub IsRight : Check → Item → Type 0
IsRight check (Stray b) = ⊥
IsRight check (Pair code) = (code ≡ 6) ⊎ ((code ≡ 21) ⊎ (code ≡ 4))
IsRight check (Message body bytes) = IsBody body × (bytes ≡ check_of check body)
IsRight check (Broken body code) = ⊥
IsRight check (CutOff body) = ⊥

-- the body of a message
abbrev pub bodies_at : Item → List (List ℕ)
bodies_at (Stray b) = []
bodies_at (Pair code) = []
bodies_at (Message body check) = body ∷ []
bodies_at (Broken body code) = []
bodies_at (CutOff body) = []

abbrev pub rights : (check : Check) → Rights (master_hears check 250)
rights check = record { IsRight = IsRight check; bodies_at = bodies_at }

-- the bytes are whole messages, ACKs, NAKs and EOTs, with at the end perhaps the begin of one more, and never a stray byte, a
-- stray pair or a message that is broken, cut off, short, long or with a wrong check; and the messages are these
abbrev pub IsGivenBySlave : Check → List (List ℕ) → List ℕ → Type 0
IsGivenBySlave check messages bytes = AreRightBytes (master_hears check 250) (rights check) messages bytes
