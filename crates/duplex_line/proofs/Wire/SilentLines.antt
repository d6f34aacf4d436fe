-- Which lines of a step tell of no byte that was sent, and of no command that an end executed.
use Rattle.std.proofs.Common.{◌≡◌, ◌∙◌, ℕ, Bool, true, false, List, [], ◌∷◌, ◌++◌, Option, Some, None, not, refl, sym, ap, append-nil}
use Rattle.std.specs.Prelude.{if◌then◌else◌}
use Rattle.std.specs.List.{filter}
use Rattle.df1_base.specs.declared.link.Act.{Act}
use Rattle.df1_base.specs.declared.link.Act.TheVariants as act
use Rattle.pccc_envelope.specs.Envelope.{is_reply}
use Rattle.duplex_end.specs.End.{turn_at_tick, gone_at_tick}
use Rattle.script_statement.specs.declared.who.Who.{Who}
use Rattle.each_once.specs.NodeHost.{node_host}
use Rattle.each_once.specs.Tells.{is_who}
use Rattle.each_once.proofs.HandedOut.{is_command}
use Rattle.each_once.proofs.SentAndExecuted.{SendNothing, both-nothing, step-nothing, tick-nothing, ExecuteNothing, tick-execute, step-other, command_at_act}
use Rattle.each_once.proofs.Sublists.{filter-keeps, filter-drops}
use Rattle.lane_cells.specs.Cells.{LaneCell}
use Rattle.duplex_line.specs.Acts.{LineEndState, LineState, Deed, Issue, Take, Deliver, Lose, Alter, Foreign, Tick, arriving, step_of, body_heard, after_deed, near_lines, arrival_lines, lines_at, lines_over}
use Rattle.duplex_line.proofs.Once.EndSteps.{heard_after}

-- ---- no byte was sent

near-nothing : (who by : Who) (side : LineEndState) (deed : Deed) → SendNothing who (near_lines by side deed)
near-nothing who by side (Issue src dst payload) = refl
near-nothing who by side Take = refl
near-nothing who by side Deliver = refl
near-nothing who by side Lose = refl
near-nothing who by side (Alter mask) = refl
near-nothing who by side (Foreign byte) = refl
near-nothing who by side Tick = tick-nothing who by (turn_at_tick node_host side.end) (gone_at_tick node_host side.end)

arrival-nothing : (who by : Who) (side : LineEndState) (cell : Option LaneCell) → SendNothing who (arrival_lines by side cell)
arrival-nothing who by side None = refl
arrival-nothing who by side (Some cell) = step-nothing who by (step_of side cell) (body_heard side cell)

-- the lines of unit steps tell of no byte
pub steps-send-nothing : (who near far : Who) (s : LineState) (deeds : List Deed) → SendNothing who (lines_over near far s deeds)
steps-send-nothing who near far s [] = refl
steps-send-nothing who near far s (deed ∷ deeds) =
    both-nothing who (lines_at near far s deed) (lines_over near far (after_deed s deed) deeds)
    (both-nothing who (near_lines near s.a deed) (arrival_lines far s.b (arriving s.a deed)) (near-nothing who near s.a deed) (arrival-nothing who far s.b (arriving s.a deed)))
    (steps-send-nothing who near far (after_deed s deed) deeds)

-- ---- no command was executed

-- by the lines of another end at which a cell arrives
pub arrival-other : (who by : Who) → is_who who by ≡ false → (side : LineEndState) (cell : Option LaneCell) → ExecuteNothing who (arrival_lines by side cell)
arrival-other who by apart side None = refl
arrival-other who by apart side (Some cell) = step-other who by apart (step_of side cell) (body_heard side cell)

-- an end executes nothing at its own steps
pub near-executes : (who by : Who) (side : LineEndState) (deed : Deed) → ExecuteNothing who (near_lines by side deed)
near-executes who by side (Issue src dst payload) = refl
near-executes who by side Take = refl
near-executes who by side Deliver = refl
near-executes who by side Lose = refl
near-executes who by side (Alter mask) = refl
near-executes who by side (Foreign byte) = refl
near-executes who by side Tick = tick-execute who by (turn_at_tick node_host side.end) (gone_at_tick node_host side.end)

-- ---- the commands that were accepted

heard-command : (heard : List (List ℕ)) (body : List ℕ) (reply : Bool) → is_reply body ≡ reply → filter is_command (heard ++ body ∷ []) ≡ filter is_command heard ++ (if reply then [] else body ∷ [])
heard-command heard body true is = filter-drops is_command heard body (ap not is) ∙ sym (append-nil (filter is_command heard))
heard-command heard body false is = filter-keeps is_command heard body (ap not is)

-- one more where the act accepts a command
pub commands-heard : (what : Act) (heard : List (List ℕ)) (body : List ℕ) → filter is_command heard ++ command_at_act what body ≡ filter is_command (heard_after what heard body)
commands-heard act.Accept heard body = sym (heard-command heard body (is_reply body) refl)
commands-heard act.Repeat heard body = append-nil (filter is_command heard)
commands-heard act.Refuse heard body = append-nil (filter is_command heard)
commands-heard act.Damaged heard body = append-nil (filter is_command heard)
commands-heard act.Forgot heard body = append-nil (filter is_command heard)
commands-heard act.PeerAck heard body = append-nil (filter is_command heard)
commands-heard act.PeerNak heard body = append-nil (filter is_command heard)
commands-heard act.PeerEnq heard body = append-nil (filter is_command heard)
commands-heard act.Nothing heard body = append-nil (filter is_command heard)
