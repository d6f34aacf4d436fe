-- The unit steps on a full-duplex line between two nodes: what each does to the ends and to the bytes on their way.
use Rattle.std.specs.Prelude.{ℕ, ◌+◌, List, [], ◌∷◌, ◌++◌, drop, slice_get, unwrap_or, Option, Some, None}
use Rattle.std.specs.Option.{option_map, option_to_list}
use Rattle.df1_base.specs.declared.link.Step.{Step}
use Rattle.duplex_receiver.specs.Receiver.{body_at}
use Rattle.df1_node.specs.Node.{NodeState, after_node_issue}
use Rattle.duplex_end.specs.End.{EndState, with_host, end_after_byte, step_at_byte, end_after_tick, turn_at_tick, gone_at_tick, end_after_take, out_at_take}
use Rattle.script_statement.specs.declared.who.Who.{Who}
use Rattle.replay_report.specs.declared.record.Line.{Line}
use Rattle.lane_cells.specs.Cells.{LaneCell, altered, bare, cell_of}
use Rattle.each_once.specs.NodeHost.{node_host}
use Rattle.report_lines.specs.NodeLines.{step_lines, turn_lines, gone_lines}
use Rattle.lane_cells.specs.Deception.{deceptions}

-- an end with its node, and the bytes that it gave and that are on their way to the other end
pub record LineEndState : Type 0 where
  pub end : EndState NodeState
  pub lane : List LaneCell

-- two ends and their lanes, and how often an end was deceived
pub record LineState : Type 0 where
  pub a : LineEndState
  pub b : LineEndState
  pub deceived : ℕ

abbrev pub line_state : LineEndState → LineEndState → ℕ → LineState
line_state a b deceived = record { a = a; b = b; deceived = deceived }

-- the line, looked at from the other end
abbrev pub swapped : LineState → LineState
swapped s = record { a = s.b; b = s.a; deceived = s.deceived }

-- what happens at an end, or to the bytes from it
pub data Deed : Type 0 where
  Issue : (src : Option ℕ) (dst : ℕ) (payload : List ℕ) → Deed
  Take : Deed
  Deliver : Deed
  Lose : Deed
  Alter : (mask : ℕ) → Deed
  Foreign : (byte : ℕ) → Deed
  Tick : Deed

-- ---- at the end itself

-- a command is issued in the name of a source, or else in that of the node itself
abbrev pub after_issue : LineEndState → Option ℕ → ℕ → List ℕ → LineEndState
after_issue s src dst payload = record { end = with_host s.end (after_node_issue s.end.host (unwrap_or src s.end.host.initiator.node) dst payload); lane = s.lane }

-- the cells that a take puts into the lane: one, or none where the end has nothing to give
abbrev pub taken : LineEndState → List LaneCell
taken s = option_to_list (option_map (cell_of (end_after_take node_host s.end).sending) (out_at_take node_host s.end))

-- the byte that a take gives
abbrev pub byte_taken : LineEndState → Option ℕ
byte_taken s = option_map (λ out. out.byte) (out_at_take node_host s.end)

-- a byte is given into the lane
abbrev pub after_take : LineEndState → LineEndState
after_take s = record { end = end_after_take node_host s.end; lane = s.lane ++ taken s }

-- the head of the lane leaves it
abbrev pub after_leaving : LineEndState → LineEndState
after_leaving s = record { end = s.end; lane = drop 1 s.lane }

abbrev pub after_alter : LineEndState → ℕ → LineEndState
after_alter s mask = record { end = s.end; lane = altered mask s.lane }

abbrev pub after_tick : LineEndState → LineEndState
after_tick s = record { end = end_after_tick node_host s.end; lane = s.lane }

-- the end at which it happens
abbrev pub near_after : LineEndState → Deed → LineEndState
near_after s (Issue src dst payload) = after_issue s src dst payload
near_after s Take = after_take s
near_after s Deliver = after_leaving s
near_after s Lose = after_leaving s
near_after s (Alter mask) = after_alter s mask
near_after s (Foreign byte) = s
near_after s Tick = after_tick s

-- ---- at the other end

-- what arrives at the other end
abbrev pub arriving : LineEndState → Deed → Option LaneCell
arriving s (Issue src dst payload) = None
arriving s Take = None
arriving s Deliver = slice_get s.lane 0
arriving s Lose = None
arriving s (Alter mask) = None
arriving s (Foreign byte) = Some (bare byte)
arriving s Tick = None

-- a byte arrives
abbrev pub after_cell : LineEndState → LaneCell → LineEndState
after_cell s cell = record { end = end_after_byte node_host s.end cell.byte; lane = s.lane }

abbrev pub after_arrival : LineEndState → Option LaneCell → LineEndState
after_arrival s None = s
after_arrival s (Some cell) = after_cell s cell

-- what the end makes of a cell
abbrev pub step_of : LineEndState → LaneCell → Step
step_of s cell = step_at_byte node_host s.end cell.byte

-- the body of the frame that is heard at a cell
abbrev pub body_heard : LineEndState → LaneCell → List ℕ
body_heard s cell = body_at (end_after_byte node_host s.end cell.byte).receiver

-- how often the end is deceived at a cell
abbrev pub deceptions_at : LineEndState → LaneCell → ℕ
deceptions_at s cell = deceptions (step_of s cell).whole cell.ends (body_heard s cell)

-- how often an end was deceived, with what arrives
abbrev pub deceived_after : ℕ → LineEndState → Option LaneCell → ℕ
deceived_after count s None = count
deceived_after count s (Some cell) = count + deceptions_at s cell

-- ---- both

-- what happens at the end a, or to the bytes from it; for the other end the line is swapped
abbrev pub after_deed : LineState → Deed → LineState
after_deed s deed = record {
  a = near_after s.a deed;
  b = after_arrival s.b (arriving s.a deed);
  deceived = deceived_after s.deceived s.b (arriving s.a deed);
}

-- ---- the lines of the report

-- at a tick: first the sender's line, then the unanswered commands
abbrev pub tick_lines : Who → LineEndState → List Line
tick_lines who s = turn_lines who (turn_at_tick node_host s.end) ++ gone_lines who (gone_at_tick node_host s.end)

-- at a cell that arrives
abbrev pub cell_lines : Who → LineEndState → LaneCell → List Line
cell_lines who s cell = step_lines who (step_of s cell) (body_heard s cell)

abbrev pub arrival_lines : Who → LineEndState → Option LaneCell → List Line
arrival_lines who s None = []
arrival_lines who s (Some cell) = cell_lines who s cell

-- the lines that it makes at the end itself
abbrev pub near_lines : Who → LineEndState → Deed → List Line
near_lines who s (Issue src dst payload) = []
near_lines who s Take = []
near_lines who s Deliver = []
near_lines who s Lose = []
near_lines who s (Alter mask) = []
near_lines who s (Foreign byte) = []
near_lines who s Tick = tick_lines who s

-- the lines that something at the end a makes, by the names of that end and of the other
abbrev pub lines_at : Who → Who → LineState → Deed → List Line
lines_at near far s deed = near_lines near s.a deed ++ arrival_lines far s.b (arriving s.a deed)

-- the bytes that an end gives
abbrev pub given_at : LineEndState → Deed → List ℕ
given_at s (Issue src dst payload) = []
given_at s Take = option_to_list (byte_taken s)
given_at s Deliver = []
given_at s Lose = []
given_at s (Alter mask) = []
given_at s (Foreign byte) = []
given_at s Tick = []

-- ---- one deed after another

abbrev pub after_deeds : LineState → List Deed → LineState
after_deeds s [] = s
after_deeds s (deed ∷ deeds) = after_deeds (after_deed s deed) deeds

abbrev pub lines_over : Who → Who → LineState → List Deed → List Line
lines_over near far s [] = []
lines_over near far s (deed ∷ deeds) = lines_at near far s deed ++ lines_over near far (after_deed s deed) deeds

-- the bytes that an end gives, whatever the other does
abbrev pub given_over : LineEndState → List Deed → List ℕ
given_over s [] = []
given_over s (deed ∷ deeds) = given_at s deed ++ given_over (near_after s deed) deeds
