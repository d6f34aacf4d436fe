-- Where the master's ear stands, as it is read off a split list, and what it lends and holds there.
use Rattle.std.specs.Prelude.{ℕ, Bool, true, false, List, [], ◌∷◌, length, if◌then◌else◌}
use Rattle.df1_check.specs.declared.Check.{Check}
use Rattle.half_frame.specs.Text.{is_right}
use Rattle.half_frame.specs.TextStep.{Within, within, so_far_of}
use Rattle.half_frame.specs.MasterGrammar.{Item, Stray, Pair, Message, Broken, CutOff, Front, Nothing, Dle, InText}

-- outside, directly after a message whose body is lent, or at the front of an item
pub data Standing : Type 0 where
  Outside : Standing
  Ended : (body : List ℕ) → Standing
  AfterDle : Standing
  AtText : (at : Within) → Standing

-- an ear's value: the check of its line, and where it stands
pub record Listening : Type 0 where
  pub check : Check
  pub standing : Standing

-- a message that has just ended as it should leaves its body
abbrev pub ended_by : Check → ℕ → Item → Standing
ended_by check N (Stray b) = Outside
ended_by check N (Pair code) = Outside
ended_by check N (Message body bytes) = if is_right check N [] body bytes then Ended body else Outside
ended_by check N (Broken body code) = Outside
ended_by check N (CutOff body) = Outside

-- directly after whole items
abbrev pub ended : Check → ℕ → List Item → Standing
ended check N [] = Outside
ended check N (item ∷ []) = ended_by check N item
ended check N (item ∷ other ∷ items) = ended check N (other ∷ items)

-- where an ear stands after these items and this front
abbrev pub standing : Check → ℕ → List Item → Front → Standing
standing check N items Nothing = ended check N items
standing check N items Dle = AfterDle
standing check N items (InText text) = AtText (within check N [] text)

-- the value of an ear after these items and this front
abbrev pub listening : Check → ℕ → List Item → Front → Listening
listening check N items front = record { check = check; standing = standing check N items front }

-- the body of the message that has just ended
abbrev pub lent_at : Standing → List ℕ
lent_at Outside = []
lent_at (Ended body) = body
lent_at AfterDle = []
lent_at (AtText at) = []

-- how many bytes are held of a body that has begun, or that is lent
abbrev pub held_at : Standing → ℕ
held_at Outside = 0
held_at (Ended body) = length body
held_at AfterDle = 0
held_at (AtText at) = let so_far = so_far_of at in length so_far.bytes

-- a message is begun and not ended
abbrev pub is_inside : Standing → Bool
is_inside Outside = false
is_inside (Ended body) = false
is_inside AfterDle = false
is_inside (AtText at) = true

-- the body that is lent after these items and this front
abbrev pub lent : Check → ℕ → List Item → Front → List ℕ
lent check N items front = lent_at (standing check N items front)

-- how many bytes are held after these items and this front
abbrev pub held : Check → ℕ → List Item → Front → ℕ
held check N items front = held_at (standing check N items front)

-- the front is that of a message
abbrev pub has_begun : List Item → Front → Bool
has_begun items Nothing = false
has_begun items Dle = false
has_begun items (InText text) = true
