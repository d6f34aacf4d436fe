-- The transmissions of a master: how many have begun, and the body of the one that was begun last.
use Rattle.std.specs.Prelude.{ℕ, List, [], ◌∷◌}
use Rattle.half_mouth.specs.Giving.{one_more}
use Rattle.half_master.specs.Fates.{Event, HandedOut, GivenAgain, Told, ForNoStation}

-- how many have begun after these events: each message that is given, for the first time or again, is one more
abbrev pub begun_after : ℕ → List Event → ℕ
begun_after begun [] = begun
begun_after begun (HandedOut body ∷ later) = begun_after (one_more begun) later
begun_after begun (GivenAgain ∷ later) = begun_after (one_more begun) later
begun_after begun (Told fate ∷ later) = begun_after begun later
begun_after begun (ForNoStation body ∷ later) = begun_after begun later

-- the body of the last, after these events: a message that is given again has the same
abbrev pub sending_after : List ℕ → List Event → List ℕ
sending_after sending [] = sending
sending_after sending (HandedOut body ∷ later) = sending_after body later
sending_after sending (GivenAgain ∷ later) = sending_after sending later
sending_after sending (Told fate ∷ later) = sending_after sending later
sending_after sending (ForNoStation body ∷ later) = sending_after sending later
