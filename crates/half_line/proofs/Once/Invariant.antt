-- What holds at each point of a run that deceives no end: of the master, of each station, of both ways between them, and of what was told.
use Rattle.std.proofs.Common.{◌≡◌, ◌∙◌, ℕ, Bool, true, false, List, ◌++◌, length, map, Option, Some, refl, ap, sym, subst}
use Rattle.std.specs.Prelude.{slice_get, slice_set, slice_index, nat_eq, ◌==◌}
use Rattle.std.specs.Option.{option_map}
use Rattle.std.specs.List.{filter, IsDistinct}
use Rattle.std.proofs.lemmas.Bool.{eqb-true, eqb-false}
use Rattle.std.proofs.lemmas.Option.{slice_get-map}
use Rattle.pccc_envelope.specs.declared.key.Key.{Key}
use Rattle.df1_node.specs.Answer.{StationState}
use Rattle.df1_node.specs.Initiator.{Issued}
use Rattle.df1_node.specs.Node.{NodeState}
use Rattle.half_master.specs.Keys.{kept_at}
use Rattle.half_master.specs.Master.{MasterState}
use Rattle.half_master.specs.Stations.{numbers_of}
use Rattle.half_master.proofs.LastMessage.{Sends}
use Rattle.script_statement.specs.declared.who.Who.TheVariants.{M, S}
use Rattle.replay_report.specs.declared.record.Line.{Line}
use Rattle.lane_cells.specs.Cells.{LaneCell}
use Rattle.each_once.specs.OfStation.{is_from, lines_of}
use Rattle.each_once.proofs.IssuingNode.{Issues}
use Rattle.each_once.proofs.OneDirection.{Lane, Way, way-more}
use Rattle.each_once.proofs.Sublists.{same-some}
use Rattle.each_once.proofs.ToldLines.{IsTold, Stays, told-stays}
use Rattle.half_line.specs.Acts.{LineStationState, HalfState, LinkState}
use Rattle.half_line.specs.Issues.{issued_of}
use Rattle.half_line.specs.Steps.{link_of, rejoined}
use Rattle.half_line.proofs.Once.MasterReplies.{MasterTold}
use Rattle.half_line.proofs.Once.Places.{set-same, set-other, set-map, one-place}
use Rattle.half_line.proofs.Once.QuietLines.{IsSilentOf, told-of-silent}
use Rattle.half_line.proofs.Once.StationSteps.{Keeps}

-- what the master handed out and accepted, how its commands stand, and what is told: what all stations share
pub record Shared : Type 0 where
  pub commands : List (List ℕ)
  pub heard : List (List ℕ)
  pub issued : List Issued
  pub lines : List Line

abbrev pub shared : List (List ℕ) → List (List ℕ) → List Issued → List Line → Shared
shared commands heard issued lines = record { commands = commands; heard = heard; issued = issued; lines = lines }

-- the lane of these cells: the bodies of the transmissions that end in them
abbrev pub marks : List LaneCell → Lane
marks cells = map (λ (c : LaneCell). option_map (λ e. e.body) c.ends) cells

-- a command names this station
abbrev pub AreTo : ℕ → List (List ℕ) → Type 0
AreTo number bodies = (k : ℕ) (body : List ℕ) → slice_get bodies k ≡ Some body → slice_index body 0 ≡ number

-- ---- a station

-- what it executed and handed out; the key is the one that the master keeps for it
pub record SideHolds (all : Shared) (first : StationState) (kept : Option Key) (side : LineStationState) : Type 0 where
  pub executed : List (List ℕ)
  pub sent : List (List ℕ)
  pub own : side.slave.setup.station ≡ side.number
  pub keeps : Keeps first side.slave executed sent
  pub to_it : AreTo side.number executed
  pub way : Way all.commands (marks side.to_it) side.slave.kept executed
  pub back : Way sent (marks side.from_it) kept (filter (is_from side.number) all.heard)
  pub told : IsTold M (S side.number) first all.issued executed (lines_of side.number all.lines)

-- the master's commands stand otherwise
pub side-issued : {commands heard : List (List ℕ)} {issued : List Issued} {lines : List Line} {first : StationState} {kept : Option Key} {side : LineStationState} (now : List Issued) → Stays issued now
    → SideHolds (shared commands heard issued lines) first kept side → SideHolds (shared commands heard now lines) first kept side
side-issued {issued = issued} {lines = lines} {first = first} {side = side} now stays h = record {
  executed = h.executed;
  sent = h.sent;
  own = h.own;
  keeps = h.keeps;
  to_it = h.to_it;
  way = h.way;
  back = h.back;
  told = told-stays M (S side.number) first issued now h.executed (lines_of side.number lines) stays h.told;
}

-- more is told, but nothing of the station
pub side-lines : {commands heard : List (List ℕ)} {issued : List Issued} {lines : List Line} {first : StationState} {kept : Option Key} {side : LineStationState} (more : List Line) → IsSilentOf side.number more
    → SideHolds (shared commands heard issued lines) first kept side → SideHolds (shared commands heard issued (lines ++ more)) first kept side
side-lines {issued = issued} {lines = lines} {first = first} {side = side} more silent h = record {
  executed = h.executed;
  sent = h.sent;
  own = h.own;
  keeps = h.keeps;
  to_it = h.to_it;
  way = h.way;
  back = h.back;
  told = told-of-silent side.number first issued h.executed lines more silent h.told;
}

-- the master handed out more commands
pub side-commands : {commands heard : List (List ℕ)} {issued : List Issued} {lines : List Line} {first : StationState} {kept : Option Key} {side : LineStationState} (more : List (List ℕ))
    → SideHolds (shared commands heard issued lines) first kept side → SideHolds (shared (commands ++ more) heard issued lines) first kept side
side-commands {commands = commands} {side = side} more h = record {
  executed = h.executed;
  sent = h.sent;
  own = h.own;
  keeps = h.keeps;
  to_it = h.to_it;
  way = way-more commands more (marks side.to_it) side.slave.kept h.executed h.way;
  back = h.back;
  told = h.told;
}

-- the master accepted a reply of another station
pub side-heard : {commands heard : List (List ℕ)} {issued : List Issued} {lines : List Line} {first : StationState} {kept : Option Key} {side : LineStationState} (now : List (List ℕ)) (key : Option Key)
    → filter (is_from side.number) now ≡ filter (is_from side.number) heard → key ≡ kept
    → SideHolds (shared commands heard issued lines) first kept side → SideHolds (shared commands now issued lines) first key side
side-heard {heard = heard} {side = side} now key same same_key h = record {
  executed = h.executed;
  sent = h.sent;
  own = h.own;
  keeps = h.keeps;
  to_it = h.to_it;
  way = h.way;
  back = subst (λ all. Way h.sent (marks side.from_it) key all) (sym same) (subst (λ k. Way h.sent (marks side.from_it) k (filter (is_from side.number) heard)) (sym same_key) h.back);
  told = h.told;
}

-- other cells are on their way, to the station or from it
pub side-lanes : {all : Shared} {first : StationState} {kept : Option Key} {side : LineStationState} (to_it from_it : List LaneCell) (h : SideHolds all first kept side)
    → Way all.commands (marks to_it) side.slave.kept h.executed → Way h.sent (marks from_it) kept (filter (is_from side.number) all.heard)
    → SideHolds all first kept (record { number = side.number; slave = side.slave; to_it = to_it; from_it = from_it })
side-lanes to_it from_it h way back = record {
  executed = h.executed;
  sent = h.sent;
  own = h.own;
  keeps = h.keeps;
  to_it = h.to_it;
  way = way;
  back = back;
  told = h.told;
}

-- ---- the master

-- it handed out these commands and accepted these replies; so many commands were issued
pub record MasterHolds (first : StationState) (count : ℕ) (numbers : List ℕ) (e : MasterState NodeState) (commands heard : List (List ℕ)) : Type 0 where
  pub issues : Issues first e.host commands heard
  pub sends : Sends e commands
  pub count_is : length e.host.initiator.issued ≡ count
  pub numbers_are : numbers_of e.stations ≡ numbers

-- ---- the line

-- the stations of the master and of the others before anything, and the numbers of the stations
pub record Setting : Type 0 where
  pub of_master : StationState
  pub first : ℕ → StationState
  pub numbers : List ℕ
  pub distinct : IsDistinct nat_eq numbers

-- the master and all stations, of which each stands at its place
pub record Holds (setting : Setting) (count : ℕ) (s : HalfState NodeState) (lines : List Line) : Type 0 where
  pub commands : List (List ℕ)
  pub heard : List (List ℕ)
  pub master : MasterHolds setting.of_master count setting.numbers s.master commands heard
  pub replies : MasterTold setting.numbers lines
  pub numbers_are : map (λ (side : LineStationState). side.number) s.stations ≡ setting.numbers
  pub sides : (p : ℕ) (side : LineStationState) → slice_get s.stations p ≡ Some side → SideHolds (shared commands heard (issued_of s.master) lines) (setting.first p) (kept_at s.master.stations p) side

-- the same, of the master and the station at one place as they are now, and the others as they were
pub record LinkHolds (setting : Setting) (count : ℕ) (stations : List LineStationState) (place : ℕ) (s : LinkState NodeState) (lines : List Line) : Type 0 where
  pub commands : List (List ℕ)
  pub heard : List (List ℕ)
  pub master : MasterHolds setting.of_master count setting.numbers s.master commands heard
  pub replies : MasterTold setting.numbers lines
  pub numbers_are : map (λ (side : LineStationState). side.number) stations ≡ setting.numbers
  pub is_at : slice_get setting.numbers place ≡ Some s.side.number
  pub this : SideHolds (shared commands heard (issued_of s.master) lines) (setting.first place) (kept_at s.master.stations place) s.side
  pub others : (p : ℕ) (side : LineStationState) → slice_get stations p ≡ Some side → (p ≡ place → ⊥) → SideHolds (shared commands heard (issued_of s.master) lines) (setting.first p) (kept_at s.master.stations p) side

pub number-at : (numbers : List ℕ) (stations : List LineStationState) (place : ℕ) (side : LineStationState) → map (λ (x : LineStationState). x.number) stations ≡ numbers → slice_get stations place ≡ Some side → slice_get numbers place ≡ Some side.number
number-at numbers stations place side are is =
    ap (λ ns. slice_get ns place) (sym are) ∙ slice_get-map (λ (x : LineStationState). x.number) stations place ∙ ap (option_map (λ (x : LineStationState). x.number)) is

-- the station at a place is looked at
pub entered : (setting : Setting) (count : ℕ) (s : HalfState NodeState) (lines : List Line) (place : ℕ) (side : LineStationState) → slice_get s.stations place ≡ Some side → Holds setting count s lines
    → LinkHolds setting count s.stations place (link_of s side) lines
entered setting count s lines place side is h = record {
  commands = h.commands;
  heard = h.heard;
  master = h.master;
  replies = h.replies;
  numbers_are = h.numbers_are;
  is_at = number-at setting.numbers s.stations place side h.numbers_are is;
  this = h.sides place side is;
  others = λ p other at differ. h.sides p other at;
}

-- the line with the master and that station as they are now
side-at : (setting : Setting) (count : ℕ) (stations : List LineStationState) (place : ℕ) (link : LinkState NodeState) (lines : List Line) (was : LineStationState) → slice_get stations place ≡ Some was
    → (h : LinkHolds setting count stations place link lines) (p : ℕ) (side : LineStationState) → slice_get (slice_set stations place link.side) p ≡ Some side → (same : Bool) → (p == place) ≡ same
    → SideHolds (shared h.commands h.heard (issued_of link.master) lines) (setting.first p) (kept_at link.master.stations p) side
side-at setting count stations place link lines was is h p side at true same =
    let here : p ≡ place = eqb-true p place same in
    let now : link.side ≡ side = same-some link.side side (sym (set-same stations place was link.side is) ∙ ap (slice_get (slice_set stations place link.side)) (sym here) ∙ at) in
    let all = shared h.commands h.heard (issued_of link.master) lines in
    subst (λ (x : LineStationState). SideHolds all (setting.first p) (kept_at link.master.stations p) x) now
    (subst (λ (n : ℕ). SideHolds all (setting.first n) (kept_at link.master.stations n) link.side) (sym here) h.this)
side-at setting count stations place link lines was is h p side at false same =
    let differ = eqb-false p place same in
    h.others p side (sym (set-other stations place p link.side differ) ∙ at) differ

pub left : (setting : Setting) (count : ℕ) (s : HalfState NodeState) (lines : List Line) (place : ℕ) (was : LineStationState) (link : LinkState NodeState) → slice_get s.stations place ≡ Some was → LinkHolds setting count s.stations place link lines
    → Holds setting count (rejoined s place link) lines
left setting count s lines place was link is h =
    let number : link.side.number ≡ was.number = same-some link.side.number was.number (sym h.is_at ∙ number-at setting.numbers s.stations place was h.numbers_are is) in
    record {
      commands = h.commands;
      heard = h.heard;
      master = h.master;
      replies = h.replies;
      numbers_are = set-map (λ (x : LineStationState). x.number) s.stations place was link.side is number ∙ h.numbers_are;
      sides = λ p side at. side-at setting count s.stations place link lines was is h p side at (p == place) refl;
    }

-- another station has another number
pub other-number : (setting : Setting) (stations : List LineStationState) (place p : ℕ) (number : ℕ) (side : LineStationState) → map (λ (x : LineStationState). x.number) stations ≡ setting.numbers → slice_get setting.numbers place ≡ Some number
    → slice_get stations p ≡ Some side → (p ≡ place → ⊥) → (side.number ≡ number → ⊥)
other-number setting stations place p number side are is at differ same =
    differ (one-place setting.numbers p place number setting.distinct (number-at setting.numbers stations p side are at ∙ ap Some same) is)
