-- One direction of a link, whatever comes back: messages are taken up and sent, perhaps more than once; their bytes go down
-- a lane, where they are lost, altered and joined by others; and a receiver keeps the key of the message that it accepted
-- last.
use Rattle.std.specs.Prelude.{◌≡◌, ℕ, Bool, List, [], ◌∷◌, ◌++◌, map, drop, slice_get, Option, Some, None}
use Rattle.std.specs.List.{fold}
use Rattle.std.specs.Option.{option_or}
use Rattle.std.specs.List.Sorted.{IsStrictlyIncreasing}
use Rattle.pccc_envelope.specs.declared.key.Key.{Key}
use Rattle.pccc_envelope.specs.Envelope.{key_of}
use Rattle.pccc_envelope.specs.Accepted.{Verdict, Repeated, Accepted, Refused, judged}

-- the messages that were taken up; of each byte on the way the message of the transmission that it ends, if it ends one; the
-- kept key; and the messages that were accepted
pub record Direction : Type 0 where
  pub taken_up : List (List ℕ)
  pub lane : List (Option (List ℕ))
  pub kept : Option Key
  pub accepted : List (List ℕ)

abbrev pub new_direction : Direction
new_direction = record { taken_up = []; lane = []; kept = None; accepted = [] }

-- what happens: the sender takes up a message, gives a byte that ends nothing, or the last byte of a transmission of the
-- message that it took up last; the head of the lane is lost, is altered and ends nothing any more, or arrives, where there
-- is room for a message or none; or a byte arrives that the sender didn't give
pub data Happening : Type 0 where
  TakeUp : (body : List ℕ) → Happening
  Give : Happening
  GiveLast : Happening
  Lose : Happening
  Alter : Happening
  Arrive : (has_room : Bool) → Happening
  Intrude : Happening

-- the message that was taken up last, if there is one
abbrev pub last_of : List (List ℕ) → Option (List ℕ)
last_of [] = None
last_of (message ∷ messages) = option_or (last_of messages) (Some message)

abbrev pub unmarked : List (Option (List ℕ)) → List (Option (List ℕ))
unmarked [] = []
unmarked (cell ∷ lane) = None ∷ lane

-- a message is heard: only where it is accepted its key is kept
abbrev pub with_verdict : Direction → List (Option (List ℕ)) → List ℕ → Verdict → Direction
with_verdict d lane body Repeated = record d { lane = lane }
with_verdict d lane body Accepted = record d { lane = lane; kept = Some (key_of body); accepted = d.accepted ++ body ∷ [] }
with_verdict d lane body Refused = record d { lane = lane }

-- the head of the lane arrives
abbrev pub after_arrival : Direction → List (Option (List ℕ)) → Bool → Direction
after_arrival d [] has_room = d
after_arrival d (None ∷ lane) has_room = record d { lane = lane }
after_arrival d (Some body ∷ lane) has_room = with_verdict d lane body (judged d.kept (record { body = body; has_room = has_room }))

abbrev pub after : Direction → Happening → Direction
after d (TakeUp body) = record d { taken_up = d.taken_up ++ body ∷ [] }
after d Give = record d { lane = d.lane ++ None ∷ [] }
after d GiveLast = record d { lane = d.lane ++ last_of d.taken_up ∷ [] }
after d Lose = record d { lane = drop 1 d.lane }
after d Alter = record d { lane = unmarked d.lane }
after d (Arrive has_room) = after_arrival d d.lane has_room
after d Intrude = d

-- the direction after these, one after another
abbrev pub direction_after : List Happening → Direction
direction_after happenings = fold after new_direction happenings

-- some elements of a list, at places that rise
abbrev pub AreSomeOf : List (List ℕ) → List (List ℕ) → Type 0
AreSomeOf some all = (places : List ℕ) × IsStrictlyIncreasing places × (map Some some ≡ map (slice_get all) places)
