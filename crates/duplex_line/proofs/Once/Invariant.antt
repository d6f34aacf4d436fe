-- What holds at each point of a run that deceives no end: of each end, of both directions, and of what was told.
use Rattle.std.proofs.Common.{◌≡◌, ℕ, ◌≤◌, true, false, List, map, refl}
use Rattle.std.specs.Prelude.{IsTrue}
use Rattle.std.specs.Option.{option_map}
use Rattle.std.specs.List.{filter}
use Rattle.df1_node.specs.Answer.{StationState}
use Rattle.script_statement.specs.declared.who.Who.{Who}
use Rattle.script_statement.specs.declared.who.Who.TheVariants.{A, B, M, S}
use Rattle.script_parts.specs.Playable.{is_end, joins}
use Rattle.replay_report.specs.declared.record.Line.{Line}
use Rattle.lane_cells.specs.Cells.{LaneCell}
use Rattle.duplex_line.specs.Acts.{LineState, swapped}
use Rattle.duplex_line.specs.Plays.{issued_by}
use Rattle.each_once.specs.Tells.{is_who}
use Rattle.each_once.proofs.OneDirection.{Lane, Way}
use Rattle.duplex_line.proofs.Once.SentMessages.{Sends}
use Rattle.each_once.proofs.HandedOut.{is_command, Hosts}
use Rattle.each_once.proofs.ToldLines.{IsTold}
use Rattle.each_once.proofs.WaitingCommands.{OthersWait}

-- the lane of these cells: the bodies of the transmissions that end in them
abbrev pub lane_of : List LaneCell → Lane
lane_of cells = map (λ (c : LaneCell). option_map (λ e. e.body) c.ends) cells

-- the names of two ends
pub record AreTwo (near far : Who) : Type 0 where
  pub itself : is_who near near ≡ true
  pub far_itself : is_who far far ≡ true
  pub other : is_who near far ≡ false
  pub far_other : is_who far near ≡ false

pub two-swapped : (near far : Who) → AreTwo near far → AreTwo far near
two-swapped near far two = record { itself = two.far_itself; far_itself = two.itself; other = two.far_other; far_other = two.other }

pub a-and-b : AreTwo A B
a-and-b = record { itself = refl; far_itself = refl; other = refl; far_other = refl }

pub joins-end : (from to : Who) → IsTrue (joins from to) → IsTrue (is_end from)
joins-end A to h = refl
joins-end B to h = refl
joins-end M to h = absurd cc
joins-end (S station) to h = absurd cc

-- what each end handed out and accepted, and what follows for the ends, the lanes and the lines
pub record Holds (near far : Who) (first far_first : StationState) (s : LineState) (lines : List Line) : Type 0 where
  pub sent : List (List ℕ)
  pub heard : List (List ℕ)
  pub far_sent : List (List ℕ)
  pub far_heard : List (List ℕ)
  pub hosts : Hosts first s.a.end.host sent heard
  pub far_hosts : Hosts far_first s.b.end.host far_sent far_heard
  pub sends : Sends s.a.end sent
  pub far_sends : Sends s.b.end far_sent
  pub way : Way sent (lane_of s.a.lane) s.b.end.receiver.kept far_heard
  pub back : Way far_sent (lane_of s.b.lane) s.a.end.receiver.kept heard
  pub few : issued_by s.a ≤ 65535
  pub far_few : issued_by s.b ≤ 65535
  pub told : IsTold near far far_first s.a.end.host.initiator.issued (filter is_command far_heard) lines
  pub far_told : IsTold far near first s.b.end.host.initiator.issued (filter is_command heard) lines
  pub waits : OthersWait s.a.end.host.initiator (filter is_command sent)
  pub far_waits : OthersWait s.b.end.host.initiator (filter is_command far_sent)

-- the same, looked at from the other end
pub holds-swapped : (near far : Who) (first far_first : StationState) (s : LineState) (lines : List Line) → Holds near far first far_first s lines → Holds far near far_first first (swapped s) lines
holds-swapped near far first far_first s lines h = record {
  sent = h.far_sent;
  heard = h.far_heard;
  far_sent = h.sent;
  far_heard = h.heard;
  hosts = h.far_hosts;
  far_hosts = h.hosts;
  sends = h.far_sends;
  far_sends = h.sends;
  way = h.back;
  back = h.way;
  few = h.far_few;
  far_few = h.few;
  told = h.far_told;
  far_told = h.told;
  waits = h.far_waits;
  far_waits = h.waits;
}
