-- The transmissions of an end, counted from 1: which begin, which end in the cells on their way, and which was the last that ended at the other end.
use Rattle.std.specs.Prelude.{◌≡◌, ℕ, ◌-◌, ◌<◌, ◌≤◌, List, [], ◌∷◌, ◌++◌, length, slice_get, Option, Some, None, IfSome, if◌then◌else◌}
use Rattle.std.specs.Option.{option_map, option_map_or}
use Rattle.std.specs.List.{filter_map, AllByRecursion}
use Rattle.duplex_end.specs.End.{Place, OfMouth, FrameAgain, FrameOfNew, next_place}
use Rattle.script_statement.specs.declared.who.Who.{Who}
use Rattle.script_parts.specs.declared.script.Event.{Event}
use Rattle.lane_cells.specs.Cells.{LaneCell}
use Rattle.each_once.specs.NodeHost.{node_host}
use Rattle.each_once.specs.Tells.{is_who}
use Rattle.duplex_line.specs.Acts.{LineEndState, LineState, Deed, Issue, Take, Deliver, Lose, Alter, Foreign, Tick, near_after, arriving}
use Rattle.duplex_line.specs.Run.{who_of, deeds_of, seen_from, after_event}

-- ---- which begin

-- the transmission that begins where this is next: its body
abbrev pub begun_by : Option Place → List (List ℕ)
begun_by None = []
begun_by (Some (OfMouth choice)) = []
begun_by (Some (FrameAgain body)) = body ∷ []
begun_by (Some (FrameOfNew body)) = body ∷ []

abbrev pub begun_at : LineEndState → Deed → List (List ℕ)
begun_at s (Issue src dst payload) = []
begun_at s Take = begun_by (next_place node_host s.end)
begun_at s Deliver = []
begun_at s Lose = []
begun_at s (Alter mask) = []
begun_at s (Foreign byte) = []
begun_at s Tick = []

abbrev pub begun_over : LineEndState → List Deed → List (List ℕ)
begun_over s [] = []
begun_over s (deed ∷ deeds) = begun_at s deed ++ begun_over (near_after s deed) deeds

-- the bodies of the transmissions that an end begins over these events
abbrev pub begun_in : Who → LineState → List Event → List (List ℕ)
begun_in who s [] = []
begun_in who s (e ∷ events) =
    (if is_who who (who_of e) then begun_over (seen_from (who_of e) s).a (deeds_of e) else []) ++ begun_in who (after_event s e) events

-- ---- which end

-- the numbers of those that end in these cells
abbrev pub numbers_of : List LaneCell → List ℕ
numbers_of cells = filter_map (λ (c : LaneCell). option_map (λ e. e.number) c.ends) cells

-- the number of the last that ended at the other end, with what arrives there
abbrev pub ended_with : ℕ → Option LaneCell → ℕ
ended_with last None = last
ended_with last (Some cell) = option_map_or (λ e. e.number) cell.ends last

abbrev pub ended_over : ℕ → LineEndState → List Deed → ℕ
ended_over last s [] = last
ended_over last s (deed ∷ deeds) = ended_over (ended_with last (arriving s deed)) (near_after s deed) deeds

-- the last of an end's transmissions that ended at the other end over these events
abbrev pub ended_in : Who → ℕ → LineState → List Event → ℕ
ended_in who last s [] = last
ended_in who last s (e ∷ events) =
    ended_in who (if is_who who (who_of e) then ended_over last (seen_from (who_of e) s).a (deeds_of e) else last) (after_event s e) events

-- ---- what holds of them

-- numbers rise strictly, above the one, and at most to the other
abbrev pub Rise : ℕ → List ℕ → ℕ → Type 0
Rise above [] most = above ≤ most
Rise above (n ∷ numbers) most = (above < n) × Rise n numbers most

-- where a transmission ends in a cell, it is that of its number, with its body
abbrev pub IsOneOf : List (List ℕ) → LaneCell → Type 0
IsOneOf begun cell = IfSome cell.ends (λ e. slice_get begun (e.number - 1) ≡ Some e.body)

-- the transmissions that end in an end's lane, of those that it began: their numbers rise strictly, above the last that ended at
-- the other end, and at most to the last that was begun; and each has the body of the transmission of that number
pub record AreCounted (begun : List (List ℕ)) (last : ℕ) (side : LineEndState) : Type 0 where
  pub rise : Rise last (numbers_of side.lane) (length begun)
  pub bodies : AllByRecursion (IsOneOf begun) side.lane
