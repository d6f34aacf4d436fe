-- Where a full-duplex decoder stands, as it is read off a split list, and what it lends and holds there.
use Rattle.std.specs.Prelude.{ℕ, Bool, true, false, List, [], ◌∷◌, length, nat_lt, if◌then◌else◌}
use Rattle.df1_check.specs.declared.Check.{Check}
use Rattle.df1_frame.specs.Spelling.{body_of}
use Rattle.df1_frame.specs.Grammar.{Item, Stray, Pair, Frame, Broken, Restart, Front, Nothing, Dle, Opened, OpenedDle, Closed}
use Rattle.df1_frame.specs.Gathered.{Gathered, gathered, gathered_whole}

-- outside a frame, directly after one whose body is lent, or at the front of an item
pub data Standing : Type 0 where
  Outside : Standing
  Ended : (body : List ℕ) → Standing
  AfterDle : Standing
  Inside : (so_far : Gathered) → Standing
  InsideDle : (so_far : Gathered) → Standing
  AtCheck : (so_far : Gathered) (bytes : List ℕ) → Standing

-- a decoder's value: the check of its line, and where it stands
pub record Decoding : Type 0 where
  pub check : Check
  pub standing : Standing

-- a frame that has just ended leaves its body, if there was room for it
abbrev pub ended_by : ℕ → Item → Standing
ended_by N (Stray b) = Outside
ended_by N (Pair code) = Outside
ended_by N (Frame pieces check) = if nat_lt N (length (body_of pieces)) then Outside else Ended (body_of pieces)
ended_by N (Broken pieces code) = Outside
ended_by N (Restart pieces) = Outside

-- directly after whole items
abbrev pub ended : ℕ → List Item → Standing
ended N [] = Outside
ended N (item ∷ []) = ended_by N item
ended N (item ∷ other ∷ items) = ended N (other ∷ items)

-- where a decoder stands after these items and this front
abbrev pub standing : Check → ℕ → List Item → Front → Standing
standing check N items Nothing = ended N items
standing check N items Dle = AfterDle
standing check N items (Opened pieces) = Inside (gathered check N (body_of pieces))
standing check N items (OpenedDle pieces) = InsideDle (gathered check N (body_of pieces))
standing check N items (Closed pieces bytes) = AtCheck (gathered_whole check N (body_of pieces)) bytes

-- the value of a decoder after these items and this front
abbrev pub decoding : Check → ℕ → List Item → Front → Decoding
decoding check N items front = record { check = check; standing = standing check N items front }

-- the body of the frame that has just ended, if there was room for it
abbrev pub lent_at : Standing → List ℕ
lent_at Outside = []
lent_at (Ended body) = body
lent_at AfterDle = []
lent_at (Inside so_far) = []
lent_at (InsideDle so_far) = []
lent_at (AtCheck so_far bytes) = []

-- how many bytes are held of a body that has begun, or that is lent
abbrev pub held_at : Standing → ℕ
held_at Outside = 0
held_at (Ended body) = length body
held_at AfterDle = 0
held_at (Inside so_far) = length so_far.bytes
held_at (InsideDle so_far) = length so_far.bytes
held_at (AtCheck so_far bytes) = length so_far.bytes

-- a frame is begun and not ended
abbrev pub is_inside : Standing → Bool
is_inside Outside = false
is_inside (Ended body) = false
is_inside AfterDle = false
is_inside (Inside so_far) = true
is_inside (InsideDle so_far) = true
is_inside (AtCheck so_far bytes) = true

-- the body that is lent after these items and this front
abbrev pub lent : Check → ℕ → List Item → Front → List ℕ
lent check N items front = lent_at (standing check N items front)

-- how many bytes are held after these items and this front
abbrev pub held : Check → ℕ → List Item → Front → ℕ
held check N items front = held_at (standing check N items front)

-- the front is that of a frame
abbrev pub has_begun : List Item → Front → Bool
has_begun items Nothing = false
has_begun items Dle = false
has_begun items (Opened pieces) = true
has_begun items (OpenedDle pieces) = true
has_begun items (Closed pieces bytes) = true
