-- Over a whole run: what each end gave is what the lines of the report tell that it sent.
use Rattle.std.proofs.Common.{◌≡◌, ◌∙◌, ℕ, zero, suc, ◌+◌, ◌<◌, ◌≤◌, Bool, true, false, List, [], ◌∷◌, ◌++◌, map, Option, Some, None, get_or, refl, sym, ap, subst, append-nil, append_assoc}
use Rattle.std.specs.Prelude.{IsTrue, All, ◌==◌, slice_get, slice_set, slice_index, replicate, count_by, nat_eq, if◌then◌else◌}
use Rattle.std.specs.List.{IsDistinct}
use Rattle.std.specs.Option.{option_map}
use Rattle.std.proofs.lemmas.Bool.{eqb-true, eqb-false, eq-eqb, ne_eqb}
use Rattle.std.proofs.lemmas.List.Elements.{All-head, All-tail}
use Rattle.std.proofs.lemmas.List.Quantifiers.{position-Some}
use Rattle.std.proofs.lemmas.Option.{slice_get-map, slice_get-get_or, get_or_from_slice_get}
use Rattle.df1_node.specs.Node.{NodeState}
use Rattle.df1_check.specs.declared.Check.{Check}
use Rattle.df1_node.specs.Answer.{StationState}
use Rattle.script_statement.specs.declared.who.Who.{Who}
use Rattle.script_statement.specs.declared.who.Who.TheVariants.{M, S}
use Rattle.script_statement.specs.Statements.{is_payload}
use Rattle.script_parts.specs.declared.script.Event.{Event}
use Rattle.script_parts.specs.declared.script.Event.TheVariants as event
use Rattle.script_parts.specs.HalfPlayable.{IsHalfPossible, is_issue}
use Rattle.replay_report.specs.declared.record.Line.{Line}
use Rattle.replay_report.specs.Report.{sent_lines}
use Rattle.report_lines.specs.SentBytes.{sent_by}
use Rattle.each_once.specs.Tells.{is_who}
use Rattle.each_once.specs.NodeHost.{node_host}
use Rattle.each_once.proofs.Sublists.{same-some}
use Rattle.each_once.proofs.SentAndExecuted.{SendNothing, sent-more, both-nothing, step-nothing, tick-nothing, own-sent, other-sent, ExecuteNothing, step-other, tick-execute, sent-execute}
use Rattle.half_master.specs.Master.{turn_at_tick, gone_at_tick}
use Rattle.lane_cells.specs.Cells.{LaneCell}
use Rattle.half_line.specs.Behind.{plain_node}
use Rattle.half_line.specs.declared.way.Way.{Way}
use Rattle.half_line.specs.declared.way.Way.TheVariants.{ToStation, ToMaster}
use Rattle.half_line.specs.Acts.{LineStationState, HalfState, LinkState, MasterDeed, Issue, Give, Tick, LinkDeed, StationGives, OnLane, LaneDeed, lane_of, arriving, moved, side_moved, joined, cells_given, master_bytes, master_lines, step_of, body_heard, after_arrival, arrival_lines, after_link_deed, link_lines, link_bytes}
use Rattle.half_line.specs.Steps.{UnitStep, AtMaster, AtStation, link_of, after_with, after_step, lines_with, lines_at, bytes_with, after_steps, lines_over, bytes_over}
use Rattle.half_line.specs.Run.{station_at, number_of, station_between, place_of, master_deeds, link_deeds, steps_with, steps_at, steps_of, after_event, giver, lines_of, state_after, lines_after}
use Rattle.half_line.specs.Plays.{issued_by, IsUnspent}
use Rattle.half_line.proofs.Steps.EventsToCome.{room-of-m, unspent}
use Rattle.half_line.proofs.Once.Places.{set-same, set-other, set-map, one-place}
use Rattle.each_once.proofs.Sublists.{from-map}
use Rattle.half_line.proofs.Wire.MasterEnd as at_master
use Rattle.half_line.proofs.Wire.MasterEnd.{MasterGave}
use Rattle.half_line.proofs.Wire.StationEnd as at_station
use Rattle.half_line.proofs.Wire.StationEnd.{StationGave}

-- the check, the stations before anything, and the numbers of the stations
pub record Setting : Type 0 where
  pub check : Check
  pub of_master : StationState
  pub first : ℕ → StationState
  pub numbers : List ℕ
  pub distinct : IsDistinct nat_eq numbers

-- what the master and each station gave, where so much was issued
pub record LineGave (setting : Setting) (s : HalfState NodeState) (lines : List Line) (of_m : List ℕ) (of_s : ℕ → List ℕ) : Type 0 where
  pub master : MasterGave setting.check setting.of_master s.master lines of_m
  pub numbers_are : map (λ (side : LineStationState). side.number) s.stations ≡ setting.numbers
  pub stations : (p : ℕ) (side : LineStationState) → slice_get s.stations p ≡ Some side → StationGave setting.check (setting.first p) side.number side.slave lines (of_s p)

-- ---- numbers

number-at : (setting : Setting) (s : HalfState NodeState) (p : ℕ) (side : LineStationState) → map (λ (x : LineStationState). x.number) s.stations ≡ setting.numbers → slice_get s.stations p ≡ Some side → slice_get setting.numbers p ≡ Some side.number
number-at setting s p side are at =
    ap (λ ns. slice_get ns p) (sym are) ∙ slice_get-map (λ (x : LineStationState). x.number) s.stations p ∙ ap (option_map (λ (x : LineStationState). x.number)) at

-- stations at different places have different numbers
other-who : (setting : Setting) (s : HalfState NodeState) (p q : ℕ) (side other : LineStationState) → map (λ (x : LineStationState). x.number) s.stations ≡ setting.numbers → slice_get s.stations p ≡ Some side → slice_get s.stations q ≡ Some other → (p ≡ q → ⊥)
    → is_who (S side.number) (S other.number) ≡ false
other-who setting s p q side other are at-p at-q differ =
    ne_eqb side.number other.number (λ same. differ (one-place setting.numbers p q side.number setting.distinct (number-at setting s p side are at-p) (number-at setting s q other are at-q ∙ ap Some (sym same))))

-- ---- the bytes of each end at a step

abbrev pub bytes_of_m : HalfState NodeState → UnitStep → List ℕ
bytes_of_m s (AtMaster deed) = master_bytes plain_node s.master deed
bytes_of_m s (AtStation place deed) = []

abbrev pub bytes_of_s : ℕ → HalfState NodeState → UnitStep → List ℕ
bytes_of_s p s (AtMaster deed) = []
bytes_of_s p s (AtStation place deed) = if place == p then bytes_with deed (slice_get s.stations place) else []

-- the same, over steps
abbrev pub over_m : HalfState NodeState → List UnitStep → List ℕ
over_m s [] = []
over_m s (step ∷ steps) = bytes_of_m s step ++ over_m (after_step plain_node s step) steps

abbrev pub over_s : ℕ → HalfState NodeState → List UnitStep → List ℕ
over_s p s [] = []
over_s p s (step ∷ steps) = bytes_of_s p s step ++ over_s p (after_step plain_node s step) steps

-- a step may be done: what is issued is a payload, and not the 65,536th
abbrev pub May : HalfState NodeState → UnitStep → Type 0
May s (AtMaster (Issue src dst payload)) = IsTrue (is_payload payload) × (issued_by plain_node s.master < 65535)
May s (AtMaster Give) = Unit {0}
May s (AtMaster Tick) = Unit {0}
May s (AtStation place deed) = Unit {0}

-- ---- at the master

-- a station with other lines, which tell nothing of it
quiet-station : (setting : Setting) (p : ℕ) (side : LineStationState) (lines more : List Line) (bytes : List ℕ) → ExecuteNothing (S side.number) more → StationGave setting.check (setting.first p) side.number side.slave lines bytes
    → StationGave setting.check (setting.first p) side.number side.slave (lines ++ more) (bytes ++ [])
quiet-station setting p side lines more bytes none g = rw (append-nil bytes) (at_station.gave-silent setting.check (setting.first p) side.number side.slave lines more bytes none g)

-- a byte of the master joins the lanes
joined-numbers : (cells : List LaneCell) (stations : List LineStationState) → map (λ (side : LineStationState). side.number) (map (joined cells) stations) ≡ map (λ (side : LineStationState). side.number) stations
joined-numbers cells [] = refl
joined-numbers cells (side ∷ stations) = ap (λ ns. side.number ∷ ns) (joined-numbers cells stations)

master-step : (setting : Setting) (s : HalfState NodeState) (deed : MasterDeed) (lines : List Line) (of_m : List ℕ) (of_s : ℕ → List ℕ) → May s (AtMaster deed) → LineGave setting s lines of_m of_s
    → LineGave setting (after_step plain_node s (AtMaster deed)) (lines ++ master_lines plain_node s.master deed) (of_m ++ master_bytes plain_node s.master deed) (λ p. of_s p ++ [])
master-step setting s (Issue src dst payload) lines of_m of_s may g = record {
  master = rw (append-nil lines, append-nil of_m) (at_master.gave-issue setting.check setting.of_master s.master src dst payload lines of_m may.0 may.1 g.master);
  numbers_are = g.numbers_are;
  stations = λ p side at. quiet-station setting p side lines [] (of_s p) refl (g.stations p side at);
}
master-step setting s Give lines of_m of_s may g = record {
  master = rw (append-nil lines) (at_master.gave-take setting.check setting.of_master s.master lines of_m g.master);
  numbers_are = joined-numbers (cells_given plain_node s.master) s.stations ∙ g.numbers_are;
  stations = λ p side at.
      let was = from-map (joined (cells_given plain_node s.master)) s.stations p side at in
      subst (λ (x : LineStationState). StationGave setting.check (setting.first p) x.number x.slave (lines ++ []) (of_s p ++ [])) was.2
      (quiet-station setting p was.0 lines [] (of_s p) refl (g.stations p was.0 was.1));
}
master-step setting s Tick lines of_m of_s may g = record {
  master = rw (append-nil of_m) (at_master.gave-tick setting.check setting.of_master s.master lines of_m g.master);
  numbers_are = g.numbers_are;
  stations = λ p side at. quiet-station setting p side lines (master_lines plain_node s.master Tick) (of_s p) (tick-execute (S side.number) M (turn_at_tick node_host s.master) (gone_at_tick node_host s.master)) (g.stations p side at);
}

-- ---- at a station

-- the master and the station at a place are others, and these lines and bytes came
record LinkGave (setting : Setting) (place : ℕ) (was : LineStationState) (link : LinkState NodeState) (lines more : List Line) (of_m bytes now : List ℕ) : Type 0 where
  pub master : MasterGave setting.check setting.of_master link.master (lines ++ more) of_m
  pub number : link.side.number ≡ was.number
  pub station : StationGave setting.check (setting.first place) link.side.number link.side.slave (lines ++ more) (bytes ++ now)
  pub silent : (number : ℕ) → is_who (S number) (S was.number) ≡ false → ExecuteNothing (S number) more

arrival-gave : (setting : Setting) (place : ℕ) (way : Way) (was : LineStationState) (s : LinkState NodeState) (cell : Option LaneCell) (lines : List Line) (of_m bytes : List ℕ) → s.side.number ≡ was.number
    → MasterGave setting.check setting.of_master s.master lines of_m → StationGave setting.check (setting.first place) s.side.number s.side.slave lines bytes
    → LinkGave setting place was (after_arrival plain_node way s cell) lines (arrival_lines plain_node way s cell) of_m bytes []
arrival-gave setting place way was s None lines of_m bytes same m g = record {
  master = rw (append-nil lines) m;
  number = same;
  station = rw (append-nil lines, append-nil bytes) g;
  silent = λ number apart. refl;
}
arrival-gave setting place ToStation was s (Some cell) lines of_m bytes same m g = record {
  master = at_master.gave-silent setting.check setting.of_master s.master lines (arrival_lines plain_node ToStation s (Some cell)) of_m (step-other M (S s.side.number) refl (step_of plain_node ToStation s cell) (body_heard plain_node ToStation s cell)) m;
  number = same;
  station = rw (append-nil bytes) (at_station.gave-byte setting.check (setting.first place) s.side.number s.side.slave cell.byte lines bytes g);
  silent = λ number apart. step-other (S number) (S s.side.number) (ap (λ (n : ℕ). is_who (S number) (S n)) same ∙ apart) (step_of plain_node ToStation s cell) (body_heard plain_node ToStation s cell);
}
arrival-gave setting place ToMaster was s (Some cell) lines of_m bytes same m g = record {
  master = at_master.gave-byte setting.check setting.of_master s.master cell.byte lines of_m m;
  number = same;
  station = rw (append-nil bytes) (at_station.gave-silent setting.check (setting.first place) s.side.number s.side.slave lines (arrival_lines plain_node ToMaster s (Some cell)) bytes (step-other (S s.side.number) M refl (step_of plain_node ToMaster s cell) (body_heard plain_node ToMaster s cell)) g);
  silent = λ number apart. step-other (S number) M refl (step_of plain_node ToMaster s cell) (body_heard plain_node ToMaster s cell);
}

-- the lane of a station is another
lane-gave : (setting : Setting) (place : ℕ) (way : Way) (deed : LaneDeed) (side : LineStationState) (lines : List Line) (bytes : List ℕ) → StationGave setting.check (setting.first place) side.number side.slave lines bytes
    → ((side_moved way side deed).number ≡ side.number) × StationGave setting.check (setting.first place) (side_moved way side deed).number (side_moved way side deed).slave lines bytes
lane-gave setting place ToStation deed side lines bytes g = (refl, g)
lane-gave setting place ToMaster deed side lines bytes g = (refl, g)

-- the lines are those of the station before its lane was moved
moved-lines : (way : Way) (s : LinkState NodeState) (deed : LaneDeed) (cell : Option LaneCell) → arrival_lines plain_node way (moved way s deed) cell ≡ arrival_lines plain_node way s cell
moved-lines way s deed None = refl
moved-lines ToStation s deed (Some cell) = refl
moved-lines ToMaster s deed (Some cell) = refl

link-gave : (setting : Setting) (place : ℕ) (s : LinkState NodeState) (deed : LinkDeed) (lines : List Line) (of_m bytes : List ℕ) → MasterGave setting.check setting.of_master s.master lines of_m
    → StationGave setting.check (setting.first place) s.side.number s.side.slave lines bytes → LinkGave setting place s.side (after_link_deed plain_node s deed) lines (link_lines plain_node s deed) of_m bytes (link_bytes s.side deed)
link-gave setting place s StationGives lines of_m bytes m g = record {
  master = rw (append-nil lines) m;
  number = refl;
  station = rw (append-nil lines) (at_station.gave-take setting.check (setting.first place) s.side.number s.side.slave lines bytes g);
  silent = λ number apart. refl;
}
link-gave setting place s (OnLane way deed) lines of_m bytes m g =
    let moved_side = lane-gave setting place way deed s.side lines bytes g in
    let cell = arriving (lane_of way s.side) deed in
    subst (λ (more : List Line). LinkGave setting place s.side (after_arrival plain_node way (moved way s deed) cell) lines more of_m bytes []) (moved-lines way s deed cell)
    (arrival-gave setting place way s.side (moved way s deed) cell lines of_m bytes moved_side.0 m moved_side.1)

itself : (n : ℕ) → (n == n) ≡ true
itself n = eq-eqb n n refl

-- the station at each place after it
side-gave : (setting : Setting) (s : HalfState NodeState) (place : ℕ) (was : LineStationState) (link : LinkState NodeState) (lines more : List Line) (of_m : List ℕ) (of_s : ℕ → List ℕ) (now : List ℕ) → slice_get s.stations place ≡ Some was → LineGave setting s lines of_m of_s
    → LinkGave setting place was link lines more of_m (of_s place) now → (p : ℕ) (side : LineStationState) → slice_get (slice_set s.stations place link.side) p ≡ Some side → (same : Bool) → (place == p) ≡ same
    → StationGave setting.check (setting.first p) side.number side.slave (lines ++ more) (of_s p ++ (if same then now else []))
side-gave setting s place was link lines more of_m of_s now is g l p side at true same =
    let here : place ≡ p = eqb-true place p same in
    let found : link.side ≡ side = same-some link.side side (sym (set-same s.stations place was link.side is) ∙ ap (slice_get (slice_set s.stations place link.side)) here ∙ at) in
    subst (λ (x : LineStationState). StationGave setting.check (setting.first p) x.number x.slave (lines ++ more) (of_s p ++ now)) found
    (subst (λ (n : ℕ). StationGave setting.check (setting.first n) link.side.number link.side.slave (lines ++ more) (of_s n ++ now)) here l.station)
side-gave setting s place was link lines more of_m of_s now is g l p side at false same =
    let differ : (p ≡ place → ⊥) = λ e. eqb-false place p same (sym e) in
    let there : slice_get s.stations p ≡ Some side = sym (set-other s.stations place p link.side differ) ∙ at in
    quiet-station setting p side lines more (of_s p) (l.silent side.number (other-who setting s p place side was g.numbers_are there is differ)) (g.stations p side there)

abbrev no_bytes : List ℕ
no_bytes = []

none-here : (same : Bool) → (if same then no_bytes else no_bytes) ≡ no_bytes
none-here true = refl
none-here false = refl

with-step : (setting : Setting) (s : HalfState NodeState) (place : ℕ) (deed : LinkDeed) (o : Option LineStationState) (lines : List Line) (of_m : List ℕ) (of_s : ℕ → List ℕ) → slice_get s.stations place ≡ o → LineGave setting s lines of_m of_s
    → LineGave setting (after_with plain_node s place deed o) (lines ++ lines_with plain_node s deed o) (of_m ++ []) (λ p. of_s p ++ (if place == p then bytes_with deed o else []))
with-step setting s place deed None lines of_m of_s is g = record {
  master = rw (append-nil lines, append-nil of_m) g.master;
  numbers_are = g.numbers_are;
  stations = λ p side at. rw (none-here (place == p)) (quiet-station setting p side lines [] (of_s p) refl (g.stations p side at));
}
with-step setting s place deed (Some side) lines of_m of_s is g =
    let l = link-gave setting place (link_of s side) deed lines of_m (of_s place) g.master (g.stations place side is) in
    let link = after_link_deed plain_node (link_of s side) deed in
    record {
      master = rw (append-nil of_m) l.master;
      numbers_are = set-map (λ (x : LineStationState). x.number) s.stations place side link.side is l.number ∙ g.numbers_are;
      stations = λ p other at. side-gave setting s place side link lines (link_lines plain_node (link_of s side) deed) of_m of_s (link_bytes side deed) is g l p other at (place == p) refl;
    }

-- ---- steps

line-step : (setting : Setting) (s : HalfState NodeState) (step : UnitStep) (lines : List Line) (of_m : List ℕ) (of_s : ℕ → List ℕ) → May s step → LineGave setting s lines of_m of_s
    → LineGave setting (after_step plain_node s step) (lines ++ lines_at plain_node s step) (of_m ++ bytes_of_m s step) (λ p. of_s p ++ bytes_of_s p s step)
line-step setting s (AtMaster deed) lines of_m of_s may g = master-step setting s deed lines of_m of_s may g
line-step setting s (AtStation place deed) lines of_m of_s may g = with-step setting s place deed (slice_get s.stations place) lines of_m of_s refl g

-- the same bytes, said otherwise
same-bytes : (setting : Setting) (s : HalfState NodeState) (lines more : List Line) (of_m now : List ℕ) (of_s after : ℕ → List ℕ) → lines ≡ more → of_m ≡ now → ((p : ℕ) (side : LineStationState) → slice_get s.stations p ≡ Some side → of_s p ≡ after p)
    → LineGave setting s lines of_m of_s → LineGave setting s more now after
same-bytes setting s lines more of_m now of_s after told of_master of_stations g = record {
  master = rw (← told, ← of_master) g.master;
  numbers_are = g.numbers_are;
  stations = λ p side at. rw (← told, ← of_stations p side at) (g.stations p side at);
}

abbrev pub MayAll : HalfState NodeState → List UnitStep → Type 0
MayAll s [] = Unit {0}
MayAll s (step ∷ steps) = May s step × MayAll (after_step plain_node s step) steps

line-steps : (setting : Setting) (steps : List UnitStep) (s : HalfState NodeState) (lines : List Line) (of_m : List ℕ) (of_s : ℕ → List ℕ) → MayAll s steps → LineGave setting s lines of_m of_s
    → LineGave setting (after_steps plain_node s steps) (lines ++ lines_over plain_node s steps) (of_m ++ over_m s steps) (λ p. of_s p ++ over_s p s steps)
line-steps setting [] s lines of_m of_s may g = same-bytes setting s lines (lines ++ []) of_m (of_m ++ []) of_s (λ p. of_s p ++ []) (sym (append-nil lines)) (sym (append-nil of_m)) (λ p side at. sym (append-nil (of_s p))) g
line-steps setting (step ∷ steps) s lines of_m of_s may g =
    let next = after_step plain_node s step in
    let one = line-step setting s step lines of_m of_s may.0 g in
    let rest = line-steps setting steps next (lines ++ lines_at plain_node s step) (of_m ++ bytes_of_m s step) (λ p. of_s p ++ bytes_of_s p s step) may.1 one in
    same-bytes setting (after_steps plain_node next steps) _ _ _ _ _ _ (append_assoc lines (lines_at plain_node s step) (lines_over plain_node next steps)) (append_assoc of_m (bytes_of_m s step) (over_m next steps)) (λ p side at. append_assoc (of_s p) (bytes_of_s p s step) (over_s p next steps)) rest

-- ---- the lines of steps tell of no byte

arrival-nothing : (who : Who) (way : Way) (s : LinkState NodeState) (cell : Option LaneCell) → SendNothing who (arrival_lines plain_node way s cell)
arrival-nothing who way s None = refl
arrival-nothing who ToStation s (Some cell) = step-nothing who (S s.side.number) (step_of plain_node ToStation s cell) (body_heard plain_node ToStation s cell)
arrival-nothing who ToMaster s (Some cell) = step-nothing who M (step_of plain_node ToMaster s cell) (body_heard plain_node ToMaster s cell)

with-nothing : (who : Who) (s : HalfState NodeState) (deed : LinkDeed) (o : Option LineStationState) → SendNothing who (lines_with plain_node s deed o)
with-nothing who s deed None = refl
with-nothing who s StationGives (Some side) = refl
with-nothing who s (OnLane way deed) (Some side) = arrival-nothing who way (link_of s side) (arriving (lane_of way side) deed)

step-sends-nothing : (who : Who) (s : HalfState NodeState) (step : UnitStep) → SendNothing who (lines_at plain_node s step)
step-sends-nothing who s (AtMaster (Issue src dst payload)) = refl
step-sends-nothing who s (AtMaster Give) = refl
step-sends-nothing who s (AtMaster Tick) = tick-nothing who M (turn_at_tick node_host s.master) (gone_at_tick node_host s.master)
step-sends-nothing who s (AtStation place deed) = with-nothing who s deed (slice_get s.stations place)

steps-send-nothing : (who : Who) (steps : List UnitStep) (s : HalfState NodeState) → SendNothing who (lines_over plain_node s steps)
steps-send-nothing who [] s = refl
steps-send-nothing who (step ∷ steps) s = both-nothing who (lines_at plain_node s step) (lines_over plain_node (after_step plain_node s step) steps) (step-sends-nothing who s step) (steps-send-nothing who steps (after_step plain_node s step))

-- ---- the bytes of an event are those of its giver

-- all at the master
m-over : (deeds : List MasterDeed) (s : HalfState NodeState) → bytes_over plain_node s (map AtMaster deeds) ≡ over_m s (map AtMaster deeds)
m-over [] s = refl
m-over (deed ∷ deeds) s = ap (λ (l : List ℕ). master_bytes plain_node s.master deed ++ l) (m-over deeds (after_step plain_node s (AtMaster deed)))

m-none : (p : ℕ) (deeds : List MasterDeed) (s : HalfState NodeState) → over_s p s (map AtMaster deeds) ≡ []
m-none p [] s = refl
m-none p (deed ∷ deeds) s = m-none p deeds (after_step plain_node s (AtMaster deed))

-- all at one station
s-over : (place p : ℕ) (same : Bool) → (place == p) ≡ same → (deeds : List LinkDeed) (s : HalfState NodeState) → (if same then bytes_over plain_node s (map (AtStation place) deeds) else []) ≡ over_s p s (map (AtStation place) deeds)
s-over place p same is [] s = none-here same
s-over place p true is (deed ∷ deeds) s =
    let rest = s-over place p true is deeds (after_step plain_node s (AtStation place deed)) in
    rw is (ap (λ (l : List ℕ). bytes_with deed (slice_get s.stations place) ++ l) rest)
s-over place p false is (deed ∷ deeds) s =
    let rest = s-over place p false is deeds (after_step plain_node s (AtStation place deed)) in
    rw is rest

s-none : (place : ℕ) (deeds : List LinkDeed) (s : HalfState NodeState) → over_m s (map (AtStation place) deeds) ≡ []
s-none place [] s = refl
s-none place (deed ∷ deeds) s = s-none place deeds (after_step plain_node s (AtStation place deed))

-- what the master and a station sent at an event, by the line of it
record Sends (s : HalfState NodeState) (steps : List UnitStep) (told : List Line) : Type 0 where
  pub of_m : sent_by M told ≡ over_m s steps
  pub of_s : (p : ℕ) (side : LineStationState) → slice_get s.stations p ≡ Some side → sent_by (S side.number) told ≡ over_s p s steps

-- the station at the place of a number has that number
place-is : (stations : List LineStationState) (number place : ℕ) (o : Option LineStationState) → slice_get stations place ≡ o → place_of stations number ≡ Some place → (side : LineStationState) → o ≡ Some side → side.number ≡ number
place-is stations number place o at is side some =
    let found = position-Some (λ (x : LineStationState). x.number == number) stations place side is in
    let here : get_or stations place side ≡ side = get_or_from_slice_get stations place side side (at ∙ some) in
    eqb-true side.number number (subst (λ (x : LineStationState). (x.number == number) ≡ true) here found.1)

of-station : (setting : Setting) (s : HalfState NodeState) (number place p : ℕ) (side : LineStationState) (deeds : List LinkDeed) → place_of s.stations number ≡ Some place → map (λ (x : LineStationState). x.number) s.stations ≡ setting.numbers → slice_get s.stations p ≡ Some side
    → (same : Bool) → (place == p) ≡ same → sent_by (S side.number) (sent_lines (S number) (bytes_over plain_node s (map (AtStation place) deeds))) ≡ over_s p s (map (AtStation place) deeds)
of-station setting s number place p side deeds is are at true same =
    let bytes = bytes_over plain_node s (map (AtStation place) deeds) in
    let here : place ≡ p = eqb-true place p same in
    let number_is : side.number ≡ number = place-is s.stations number place (slice_get s.stations place) refl is side (ap (slice_get s.stations) here ∙ at) in
    ap (λ (n : ℕ). sent_by (S n) (sent_lines (S number) bytes)) number_is ∙ own-sent (S number) (itself number) bytes ∙ s-over place p true same deeds s
of-station setting s number place p side deeds is are at false same =
    let bytes = bytes_over plain_node s (map (AtStation place) deeds) in
    other-sent (S side.number) (S number) (other-number setting s number place p side is are at (eqb-false place p same)) bytes ∙ s-over place p false same deeds s
  where
    other-number : (setting : Setting) (s : HalfState NodeState) (number place p : ℕ) (side : LineStationState) → place_of s.stations number ≡ Some place → map (λ (x : LineStationState). x.number) s.stations ≡ setting.numbers → slice_get s.stations p ≡ Some side
        → (place ≡ p → ⊥) → is_who (S side.number) (S number) ≡ false
    other-number setting s number place p side is are at differ =
        let found = position-Some (λ (x : LineStationState). x.number == number) s.stations place side is in
        let there : slice_get s.stations place ≡ Some (get_or s.stations place side) = slice_get-get_or s.stations place side found.0 in
        let number_is = place-is s.stations number place (slice_get s.stations place) refl is (get_or s.stations place side) there in
        ap (λ (n : ℕ). is_who (S side.number) (S n)) (sym number_is) ∙ other-who setting s p place side (get_or s.stations place side) are at there (λ e. differ (sym e))

sends-at : (setting : Setting) (s : HalfState NodeState) (number : ℕ) (deeds : List LinkDeed) (place : Option ℕ) → place_of s.stations number ≡ place → map (λ (x : LineStationState). x.number) s.stations ≡ setting.numbers
    → Sends s (steps_with place deeds) (sent_lines (S number) (bytes_over plain_node s (steps_with place deeds)))
sends-at setting s number deeds None is are = record { of_m = refl; of_s = λ p side at. refl }
sends-at setting s number deeds (Some place) is are =
    let steps = map (AtStation place) deeds in
    let bytes = bytes_over plain_node s steps in
    record {
      of_m = other-sent M (S number) refl bytes ∙ sym (s-none place deeds s);
      of_s = λ p side at. of-station setting s number place p side deeds is are at (place == p) refl;
    }

sends-master : (s : HalfState NodeState) (deeds : List MasterDeed) → Sends s (map AtMaster deeds) (sent_lines M (bytes_over plain_node s (map AtMaster deeds)))
sends-master s deeds = record {
  of_m = own-sent M refl (bytes_over plain_node s (map AtMaster deeds)) ∙ m-over deeds s;
  of_s = λ p side at. other-sent (S side.number) M refl (bytes_over plain_node s (map AtMaster deeds)) ∙ sym (m-none p deeds s);
}

sends-by : (setting : Setting) (s : HalfState NodeState) (e : Event) (number : Option ℕ) → map (λ (x : LineStationState). x.number) s.stations ≡ setting.numbers → Sends s (steps_at s.stations number e) (sent_lines (giver number) (bytes_over plain_node s (steps_at s.stations number e)))
sends-by setting s e None are = sends-master s (master_deeds e)
sends-by setting s e (Some number) are = sends-at setting s number (link_deeds e) (place_of s.stations number) refl are

-- ---- events

-- what the lines tell that each end sent
abbrev pub LinesGave : Setting → HalfState NodeState → List Line → Type 0
LinesGave setting s lines = LineGave setting s lines (sent_by M lines) (λ p. sent_by (S (slice_index setting.numbers p)) lines)

index-is : (numbers : List ℕ) (p n : ℕ) → slice_get numbers p ≡ Some n → slice_index numbers p ≡ n
index-is numbers p n is = get_or_from_slice_get numbers p n 0 is

-- the lines of steps and then the line of what was sent
told-more : (who : Who) (lines over sent : List Line) (now : List ℕ) → SendNothing who over → sent_by who sent ≡ now → sent_by who lines ++ now ≡ sent_by who (lines ++ (over ++ sent))
told-more who lines over sent now none is =
    sym (sent-more who lines (over ++ sent) ∙ ap (λ (l : List ℕ). sent_by who lines ++ l) (sent-more who over sent ∙ rw (none, is) refl))

-- the lines that tell what was sent are silent
with-sent : (setting : Setting) (s : HalfState NodeState) (lines : List Line) (who : Who) (bytes of_m : List ℕ) (of_s : ℕ → List ℕ) → LineGave setting s lines of_m of_s → LineGave setting s (lines ++ sent_lines who bytes) of_m of_s
with-sent setting s lines who bytes of_m of_s g = record {
  master = at_master.gave-silent setting.check setting.of_master s.master lines (sent_lines who bytes) of_m (sent-execute M who bytes) g.master;
  numbers_are = g.numbers_are;
  stations = λ p side at. at_station.gave-silent setting.check (setting.first p) side.number side.slave lines (sent_lines who bytes) (of_s p) (sent-execute (S side.number) who bytes) (g.stations p side at);
}

-- the place of a station after steps is its place before: its number stays
event-gave : (setting : Setting) (s : HalfState NodeState) (e : Event) (lines : List Line) → MayAll s (steps_of s e) → LinesGave setting s lines → LinesGave setting (after_event plain_node s e) (lines ++ lines_of plain_node s e)
event-gave setting s e lines may g =
    let steps = steps_of s e in
    let over = lines_over plain_node s steps in
    let sent = sent_lines (giver (station_at e)) (bytes_over plain_node s steps) in
    let all = with-sent setting (after_event plain_node s e) (lines ++ over) (giver (station_at e)) (bytes_over plain_node s steps) _ _ (line-steps setting steps s lines (sent_by M lines) (λ p. sent_by (S (slice_index setting.numbers p)) lines) may g) in
    let by = sends-by setting s e (station_at e) g.numbers_are in
    same-bytes setting (after_event plain_node s e) ((lines ++ over) ++ sent) (lines ++ (over ++ sent)) _ _ _ _ (append_assoc lines over sent)
    (told-more M lines over sent (over_m s steps) (steps-send-nothing M steps s) by.of_m)
    (λ p side at.
    let who = S (slice_index setting.numbers p) in
    let was = from-map (λ (x : LineStationState). x.number) s.stations p side.number
    (ap (λ (ns : List ℕ). slice_get ns p) g.numbers_are ∙ number-at setting (after_event plain_node s e) p side all.numbers_are at) in
    let same : was.0.number ≡ slice_index setting.numbers p = was.2 ∙ sym (index-is setting.numbers p side.number (number-at setting (after_event plain_node s e) p side all.numbers_are at)) in
    told-more who lines over sent (over_s p s steps) (steps-send-nothing who steps s) (subst (λ (n : ℕ). sent_by (S n) sent ≡ over_s p s steps) same (by.of_s p was.0 was.1)))
    all

-- ---- which steps may be done

may-stations : (place : ℕ) (deeds : List LinkDeed) (s : HalfState NodeState) → MayAll s (map (AtStation place) deeds)
may-stations place [] s = tt
may-stations place (deed ∷ deeds) s = (tt, may-stations place deeds (after_step plain_node s (AtStation place deed)))

may-with : (o : Option ℕ) (deeds : List LinkDeed) (s : HalfState NodeState) → MayAll s (steps_with o deeds)
may-with None deeds s = tt
may-with (Some place) deeds s = may-stations place deeds s

may-gives : (n : ℕ) (s : HalfState NodeState) → MayAll s (map AtMaster (replicate n Give))
may-gives zero s = tt
may-gives (suc n) s = (tt, may-gives n (after_step plain_node s (AtMaster Give)))

may-ticks : (n : ℕ) (s : HalfState NodeState) → MayAll s (map AtMaster (replicate n Tick))
may-ticks zero s = tt
may-ticks (suc n) s = (tt, may-ticks n (after_step plain_node s (AtMaster Tick)))

may-take : (stations : List LineStationState) (who : Who) (n : ℕ) (o : Option ℕ) (s : HalfState NodeState) → MayAll s (steps_at stations o (event.Take who n))
may-take stations who n None s = may-gives n s
may-take stations who n (Some number) s = may-with (place_of stations number) _ s

pub event-may : (numbers : List ℕ) (s : HalfState NodeState) (e : Event) → IsHalfPossible numbers e → IsUnspent plain_node s.master e → MayAll s (steps_of s e)
event-may numbers s (event.Issue who src dst payload) may few = ((may.2, few), tt)
event-may numbers s (event.Take who n) may few = may-take s.stations who n (number_of who) s
event-may numbers s (event.Deliver lane n) may few = may-with (place_of s.stations (station_between lane.from lane.to)) _ s
event-may numbers s (event.Lose lane n) may few = may-with (place_of s.stations (station_between lane.from lane.to)) _ s
event-may numbers s (event.Alter lane mask) may few = may-with (place_of s.stations (station_between lane.from lane.to)) _ s
event-may numbers s (event.Foreign lane bytes) may few = may-with (place_of s.stations (station_between lane.from lane.to)) _ s
event-may numbers s (event.Tick who n) may few = may-ticks n s

pub events-gave : (setting : Setting) (numbers : List ℕ) (events : List Event) (s : HalfState NodeState) (lines : List Line) → All (IsHalfPossible numbers) events → issued_by plain_node s.master + count_by is_issue events ≤ 65535 → LinesGave setting s lines
    → LinesGave setting (state_after plain_node s events) (lines ++ lines_after plain_node s events)
events-gave setting numbers [] s lines possible few g = rw (append-nil lines) g
events-gave setting numbers (e ∷ events) s lines possible few g =
    let one = event-gave setting s e lines (event-may numbers s e (All-head (IsHalfPossible numbers) e events possible) (unspent plain_node s e events few)) g in
    subst (λ (all : List Line). LinesGave setting (state_after plain_node (after_event plain_node s e) events) all) (append_assoc lines (lines_of plain_node s e) (lines_after plain_node (after_event plain_node s e) events))
    (events-gave setting numbers events (after_event plain_node s e) (lines ++ lines_of plain_node s e) (All-tail (IsHalfPossible numbers) e events possible) (room-of-m s e events few) one)
