-- A byte that means nothing: no line tells of it, and no end is deceived at it.
use Rattle.std.proofs.Common.{◌≡◌, ℕ, Bool, true, false, List, [], Option, Some, None, refl, ap}
use Rattle.std.specs.Prelude.{if◌then◌else◌}
use Rattle.df1_base.specs.declared.link.Act.{Act}
use Rattle.df1_base.specs.declared.link.Act.TheVariants as act
use Rattle.df1_frame.specs.declared.heard.Heard.{Heard}
use Rattle.df1_frame.specs.declared.heard.Heard.TheVariants as heard
use Rattle.pccc_envelope.specs.declared.key.Key.{Key}
use Rattle.pccc_envelope.specs.Envelope.{key_of}
use Rattle.pccc_envelope.specs.Accepted.{Repeated, Accepted, Refused, is_kept}
use Rattle.duplex_receiver.specs.Receiver.{verdict_act, act_of, is_good, hearing}
use Rattle.duplex_end.specs.End.{with_byte, answer_of}
use Rattle.script_statement.specs.declared.who.Who.{Who}
use Rattle.lane_cells.specs.Cells.{LaneCell}
use Rattle.lane_cells.specs.Deception.{deceptions}
use Rattle.each_once.specs.NodeHost.{node_host}
use Rattle.report_lines.specs.NodeLines.{step_lines}
use Rattle.duplex_line.specs.Acts.{LineEndState, step_of, body_heard, deceptions_at, cell_lines}

-- a whole frame always means something
verdict-means : (kept room : Bool) → verdict_act (if kept then Repeated else (if room then Accepted else Refused)) ≡ act.Nothing → ⊥
verdict-means true room is = cc
verdict-means false true is = cc
verdict-means false false is = cc

not-good : (kept : Option Key) (what : Option Heard) (body : List ℕ) (room : Bool) → act_of kept (record { heard = what; body = body; has_room = room }) ≡ act.Nothing → is_good what ≡ false
not-good kept None body room is = refl
not-good kept (Some heard.Good) body room is = absurd (verdict-means (is_kept kept (key_of body)) room is)
not-good kept (Some _) body room is = refl

pub no-lines : (who : Who) (s : LineEndState) (cell : LaneCell) → (step_of s cell).act ≡ act.Nothing → cell_lines who s cell ≡ []
no-lines who s cell nothing = ap (λ (what : Act). step_lines who (answer_of node_host (with_byte node_host s.end cell.byte) what) (body_heard s cell)) nothing

pub no-deception : (s : LineEndState) (cell : LaneCell) → (step_of s cell).act ≡ act.Nothing → deceptions_at s cell ≡ 0
no-deception s cell nothing =
    let h = hearing (node_host.room_for s.end.host) 250 s.end.receiver cell.byte in
    ap (λ (whole : Bool). deceptions whole cell.ends (body_heard s cell)) (not-good s.end.receiver.kept h.heard h.body h.has_room nothing)
