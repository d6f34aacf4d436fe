-- A half-duplex run from a state on where a command is over on its way to a station: it stays over, and no line tells it as executed there.
use Rattle.std.proofs.Common.{◌≡◌, ◌≢◌, ◌∙◌, ℕ, ◌+◌, Bool, true, false, List, [], ◌∷◌, ◌++◌, map, Option, Some, None, slice_get, refl, sym, ap, subst, arith, append-nil, append_assoc}
use Rattle.std.specs.Prelude.{replicate, slice_set, unwrap_or, nat_eq, ◌==◌}
use Rattle.std.specs.List.{IsDistinct}
use Rattle.std.specs.Option.{option_map}
use Rattle.std.proofs.lemmas.Bool.{eqb-true, eqb-false, eq-eqb}
use Rattle.std.proofs.lemmas.Option.{same_Some, slice_get-map}
use Rattle.df1_base.specs.declared.link.Act.TheVariants as act
use Rattle.df1_node.specs.Initiator.{next_issued}
use Rattle.df1_node.specs.Node.{NodeState}
use Rattle.each_once.specs.NodeHost.{node_host}
use Rattle.each_once.specs.Tells.{is_who}
use Rattle.each_once.proofs.SentAndExecuted.{tick-execute, sent-execute, step-other, step-own}
use Rattle.half_line.specs.Acts.{LineStationState, HalfState, LinkState, LinkDeed, Issue, Give, Tick, LaneDeed, Deliver, Lose, Alter, Foreign, StationGives, OnLane, joined, cells_given, lane_of, lane_after, arriving, master_lines, arrival_lines, cell_lines, deceptions_at, step_of, body_heard, after_arrival, moved, after_link_deed, link_lines}
use Rattle.half_line.specs.Behind.{plain_node}
use Rattle.half_line.specs.declared.way.Way.{Way}
use Rattle.half_line.specs.declared.way.Way.TheVariants.{ToStation, ToMaster}
use Rattle.half_line.specs.Run.{station_at, number_of, station_between, way_from, place_of, steps_with, steps_of, after_event, giver, lines_of, state_after, lines_after}
use Rattle.half_line.specs.Steps.{UnitStep, AtMaster, AtStation, link_of, rejoined, after_with, after_step, lines_with, lines_at, bytes_over, after_steps, lines_over}
use Rattle.half_line.proofs.Once.Honest.{honest-station}
use Rattle.half_line.proofs.Once.Invariant.{number-at}
use Rattle.half_line.proofs.Once.LinkSteps.{earlier}
use Rattle.half_line.proofs.Once.MasterSteps.{joined-numbers}
use Rattle.half_line.proofs.Once.Places.{set-same, set-other, set-map, one-place, not-equal}
use Rattle.half_line.proofs.Once.StationSteps.{Hands, accepts, passes, at-byte, lent-after}
use Rattle.half_line.proofs.Once.WholeRun.{ArePlain, plain-with, plain-master, plain-take}
use Rattle.half_line.proofs.Steps.EventsToCome.{link-number}
use Rattle.half_master.specs.Master.{turn_at_tick, gone_at_tick}
use Rattle.half_slave.specs.Slave.{step_at_byte}
use Rattle.lane_cells.specs.Cells.{LaneCell}
use Rattle.replay_report.specs.declared.record.Line.{Line}
use Rattle.replay_report.specs.Report.{sent_lines}
use Rattle.script_parts.specs.declared.script.Event.{Event}
use Rattle.script_parts.specs.declared.script.Event.TheVariants as event
use Rattle.script_statement.specs.declared.who.Who.{Who}
use Rattle.script_statement.specs.declared.who.Who.TheVariants.{M, S}
use Rattle.run_laws.specs.Over.{IsOfOther}
use Rattle.run_laws.proofs.OverMaster.{MasterNot, master-byte, master-tick, master-take, master-issue, cells-other}
use Rattle.run_laws.proofs.OverNode.{NoneEnds, none-more}
use Rattle.run_laws.proofs.OverRun.{Untold, OtherComes, all-none, untold-none, untold-both, ends-other, act-untold, none-left, none-altered, first-other}

-- ---- lines

-- what a station hands out doesn't matter here
nothing-hands : (who : Who) → Hands who (λ (node : NodeState) (messages : List (List ℕ)) (lines : List Line). Unit {0})
nothing-hands who = record {
  told = λ node messages lines what h. tt;
  next = λ node messages lines body is h. tt;
  clear = λ node messages lines h. tt;
}

is-itself : (number : ℕ) → is_who (S number) (S number) ≡ true
is-itself number = eq-eqb number number refl

-- a station executes no command of this body at a byte that ends a transmission of another one
station-untold : (body : List ℕ) (s : LinkState NodeState) (cell : LaneCell) → deceptions_at plain_node ToStation s cell ≡ 0 → IsOfOther body cell.ends → Untold (S s.side.number) body (cell_lines plain_node ToStation s cell)
station-untold body s cell none other =
    let who = S s.side.number in
    let slave = s.side.slave in
    let step = step_at_byte node_host slave cell.byte in
    let heard = body_heard plain_node ToStation s cell in
    elim (at-byte who (λ (node : NodeState) (messages : List (List ℕ)) (lines : List Line). Unit {0}) (nothing-hands who) slave cell.byte) [
      | accepts a ↦
          let own = step-own who (is-itself s.side.number) step slave.host heard [] [] (λ (is : step.act ≡ act.Accept). a.did ∙ ap (λ (b : List ℕ). Some (node_host.did slave.host b)) (sym (lent-after slave cell.byte))) refl in
          rw own (act-untold step.act body heard (λ is. ends-other cell.ends heard body (honest-station step.whole step.station cell.ends heard none a.whole).0 other))
      | passes o ↦
          let own = step-own who (is-itself s.side.number) step slave.host heard [] [] (λ (is : step.act ≡ act.Accept). absurd (o.act is)) refl in
          rw own (act-untold step.act body heard (λ is. absurd (o.act is)))
    ]

-- the lines of other ends
elsewhere-untold : (number : ℕ) (body : List ℕ) (way : Way) (s : LinkState NodeState) (cell : LaneCell) → (way ≡ ToStation → number ≢ s.side.number) → Untold (S number) body (cell_lines plain_node way s cell)
elsewhere-untold number body ToStation s cell apart =
    let other : is_who (S number) (S s.side.number) ≡ false = not-equal (number == s.side.number) (λ same. apart refl (eqb-true number s.side.number same)) in
    untold-none (S number) body (cell_lines plain_node ToStation s cell) (step-other (S number) (S s.side.number) other (step_of plain_node ToStation s cell) (body_heard plain_node ToStation s cell))
elsewhere-untold number body ToMaster s cell apart = untold-none (S number) body (cell_lines plain_node ToMaster s cell) (step-other (S number) M refl (step_of plain_node ToMaster s cell) (body_heard plain_node ToMaster s cell))

-- ---- the master and one station

-- the lane to a station
comes-there : (body : List ℕ) (lane : List LaneCell) (deed : LaneDeed) → NoneEnds body lane → OtherComes body (arriving lane deed)
comes-there body lane Deliver none = first-other body lane none
comes-there body lane Lose none = tt
comes-there body lane (Alter mask) none = tt
comes-there body lane (Foreign byte) none = tt

left-there : (body : List ℕ) (lane : List LaneCell) (deed : LaneDeed) → NoneEnds body lane → NoneEnds body (lane_after lane deed)
left-there body lane Deliver none = none-left body lane none
left-there body lane Lose none = none-left body lane none
left-there body lane (Alter mask) none = none-altered body mask lane none
left-there body lane (Foreign byte) none = none

-- at this station
here-untold : (body : List ℕ) (way : Way) (s t : LinkState NodeState) (o : Option LaneCell) → t.side.slave ≡ s.side.slave → (after_arrival plain_node way t o).deceived ≡ 0 → (way ≡ ToStation → OtherComes body o) → Untold (S s.side.number) body (arrival_lines plain_node way s o)
here-untold body way s t None same none comes = all-none body
here-untold body ToStation s t (Some cell) same none comes =
    let honest : t.deceived + deceptions_at plain_node ToStation s cell ≡ 0 = rw (sym same) none in
    let zero_of : deceptions_at plain_node ToStation s cell ≡ 0 = omega (arith, honest) in
    station-untold body s cell zero_of (comes refl)
here-untold body ToMaster s t (Some cell) same none comes = elsewhere-untold s.side.number body ToMaster s cell (λ is. cc)

there-untold : (number : ℕ) (body : List ℕ) (way : Way) (s : LinkState NodeState) (o : Option LaneCell) → number ≢ s.side.number → Untold (S number) body (arrival_lines plain_node way s o)
there-untold number body way s None apart = all-none body
there-untold number body way s (Some cell) apart = elsewhere-untold number body way s cell (λ is. apart)

arrival-master : (body : List ℕ) (way : Way) (s : LinkState NodeState) (o : Option LaneCell) → MasterNot body s.master → MasterNot body (after_arrival plain_node way s o).master
arrival-master body way s None h = h
arrival-master body ToStation s (Some cell) h = h
arrival-master body ToMaster s (Some cell) h = master-byte body s.master cell.byte h

-- what arrives leaves what is on its way to the station
pub arrival-lane : (way : Way) (s : LinkState NodeState) (o : Option LaneCell) → (after_arrival plain_node way s o).side.to_it ≡ s.side.to_it
arrival-lane way s None = refl
arrival-lane ToStation s (Some cell) = refl
arrival-lane ToMaster s (Some cell) = refl

deed-master : (body : List ℕ) (s : LinkState NodeState) (deed : LinkDeed) → MasterNot body s.master → MasterNot body (after_link_deed plain_node s deed).master
deed-master body s StationGives h = h
deed-master body s (OnLane way deed) h = arrival-master body way (moved way s deed) (arriving (lane_of way s.side) deed) h

moved-none : (body : List ℕ) (way : Way) (s : LinkState NodeState) (deed : LaneDeed) → NoneEnds body s.side.to_it → NoneEnds body (moved way s deed).side.to_it
moved-none body ToStation s deed none = left-there body s.side.to_it deed none
moved-none body ToMaster s deed none = none

deed-none : (body : List ℕ) (s : LinkState NodeState) (deed : LinkDeed) → NoneEnds body s.side.to_it → NoneEnds body (after_link_deed plain_node s deed).side.to_it
deed-none body s StationGives none = none
deed-none body s (OnLane way deed) none = subst (NoneEnds body) (sym (arrival-lane way (moved way s deed) (arriving (lane_of way s.side) deed))) (moved-none body way s deed none)

way-comes : (body : List ℕ) (way : Way) (s : LinkState NodeState) (deed : LaneDeed) → NoneEnds body s.side.to_it → way ≡ ToStation → OtherComes body (arriving (lane_of way s.side) deed)
way-comes body ToStation s deed none is = comes-there body s.side.to_it deed none
way-comes body ToMaster s deed none is = absurd cc

moved-slave : (way : Way) (s : LinkState NodeState) (deed : LaneDeed) → (moved way s deed).side.slave ≡ s.side.slave
moved-slave ToStation s deed = refl
moved-slave ToMaster s deed = refl

deed-here : (body : List ℕ) (s : LinkState NodeState) (deed : LinkDeed) → (after_link_deed plain_node s deed).deceived ≡ 0 → NoneEnds body s.side.to_it → Untold (S s.side.number) body (link_lines plain_node s deed)
deed-here body s StationGives honest none = all-none body
deed-here body s (OnLane way deed) honest none = here-untold body way s (moved way s deed) (arriving (lane_of way s.side) deed) (moved-slave way s deed) honest (way-comes body way s deed none)

deed-there : (number : ℕ) (body : List ℕ) (s : LinkState NodeState) (deed : LinkDeed) → number ≢ s.side.number → Untold (S number) body (link_lines plain_node s deed)
deed-there number body s StationGives apart = all-none body
deed-there number body s (OnLane way deed) apart = there-untold number body way s (arriving (lane_of way s.side) deed) apart

-- ---- the line

-- the station at this place, its number, the numbers of all, and the body
pub record Watched : Type 0 where
  pub place : ℕ
  pub number : ℕ
  pub numbers : List ℕ
  pub distinct : IsDistinct nat_eq numbers
  pub body : List ℕ

-- the command stays over, as long as no end is deceived
pub record StaysOverThere (w : Watched) (s : HalfState NodeState) (lines : List Line) : Type 0 where
  pub master : MasterNot w.body s.master
  pub side : LineStationState
  pub is_at : slice_get s.stations w.place ≡ Some side
  pub number_is : side.number ≡ w.number
  pub none : NoneEnds w.body side.to_it
  pub numbers_are : map (λ (x : LineStationState). x.number) s.stations ≡ w.numbers
  pub untold : Untold (S w.number) w.body lines

abbrev pub KeptThere : Watched → HalfState NodeState → List Line → Type 0
KeptThere w s lines = s.deceived ≡ 0 → StaysOverThere w s lines

-- ---- unit steps

-- a command that is issued has another body
abbrev IsOther : List ℕ → HalfState NodeState → UnitStep → Type 0
IsOther body s (AtMaster (Issue src dst payload)) = next_issued s.master.host.initiator (unwrap_or src s.master.host.initiator.node) dst payload ≢ body
IsOther body s (AtMaster Give) = Unit {0}
IsOther body s (AtMaster Tick) = Unit {0}
IsOther body s (AtStation place deed) = Unit {0}

step-give : (w : Watched) (s : HalfState NodeState) (lines : List Line) → StaysOverThere w s lines → StaysOverThere w (after_step plain_node s (AtMaster Give)) (lines ++ [])
step-give w s lines h =
    let cells = cells_given plain_node s.master in
    record {
      master = master-take w.body s.master h.master;
      side = joined cells h.side;
      is_at = slice_get-map (joined cells) s.stations w.place ∙ ap (option_map (joined cells)) h.is_at;
      number_is = h.number_is;
      none = none-more w.body h.side.to_it cells h.none (cells-other w.body s.master h.master);
      numbers_are = joined-numbers cells s.stations ∙ h.numbers_are;
      untold = untold-both (S w.number) w.body lines [] h.untold (all-none w.body);
    }

step-tick : (w : Watched) (s : HalfState NodeState) (lines : List Line) → StaysOverThere w s lines → StaysOverThere w (after_step plain_node s (AtMaster Tick)) (lines ++ master_lines plain_node s.master Tick)
step-tick w s lines h = record {
  master = master-tick w.body s.master h.master;
  side = h.side;
  is_at = h.is_at;
  number_is = h.number_is;
  none = h.none;
  numbers_are = h.numbers_are;
  untold = untold-both (S w.number) w.body lines (master_lines plain_node s.master Tick) h.untold
      (untold-none (S w.number) w.body (master_lines plain_node s.master Tick) (tick-execute (S w.number) M (turn_at_tick node_host s.master) (gone_at_tick node_host s.master)));
}

step-issue : (w : Watched) (s : HalfState NodeState) (src : Option ℕ) (dst : ℕ) (payload : List ℕ) (lines : List Line) → IsOther w.body s (AtMaster (Issue src dst payload)) → StaysOverThere w s lines → StaysOverThere w (after_step plain_node s (AtMaster (Issue src dst payload))) (lines ++ [])
step-issue w s src dst payload lines apart h = record {
  master = master-issue w.body s.master src dst payload apart h.master;
  side = h.side;
  is_at = h.is_at;
  number_is = h.number_is;
  none = h.none;
  numbers_are = h.numbers_are;
  untold = untold-both (S w.number) w.body lines [] h.untold (all-none w.body);
}

-- with the station at this place
at-place : (w : Watched) (s : HalfState NodeState) (place : ℕ) (deed : LinkDeed) (side : LineStationState) (lines : List Line) → slice_get s.stations place ≡ Some side → (after_link_deed plain_node (link_of s side) deed).deceived ≡ 0 → (same : Bool) → (w.place == place) ≡ same
    → StaysOverThere w s lines → StaysOverThere w (rejoined s place (after_link_deed plain_node (link_of s side) deed)) (lines ++ link_lines plain_node (link_of s side) deed)
at-place w s place deed side lines at honest true same h =
    let link = link_of s side in
    let now = after_link_deed plain_node link deed in
    let here : w.place ≡ place = eqb-true w.place place same in
    let is : h.side ≡ side = same_Some h.side side (sym h.is_at ∙ ap (slice_get s.stations) here ∙ at) in
    let number : side.number ≡ w.number = ap (λ (x : LineStationState). x.number) (sym is) ∙ h.number_is in
    let none : NoneEnds w.body side.to_it = subst (λ (x : LineStationState). NoneEnds w.body x.to_it) is h.none in
    record {
      master = deed-master w.body link deed h.master;
      side = now.side;
      is_at = ap (slice_get (slice_set s.stations place now.side)) here ∙ set-same s.stations place side now.side at;
      number_is = link-number plain_node link deed ∙ number;
      none = deed-none w.body link deed none;
      numbers_are = set-map (λ (x : LineStationState). x.number) s.stations place side now.side at (link-number plain_node link deed) ∙ h.numbers_are;
      untold = untold-both (S w.number) w.body lines (link_lines plain_node link deed) h.untold (subst (λ (n : ℕ). Untold (S n) w.body (link_lines plain_node link deed)) number (deed-here w.body link deed honest none));
    }
at-place w s place deed side lines at honest false same h =
    let link = link_of s side in
    let now = after_link_deed plain_node link deed in
    let differ = eqb-false w.place place same in
    let apart : w.number ≢ side.number = λ (one : w.number ≡ side.number).
    differ (one-place w.numbers w.place place side.number w.distinct (number-at w.numbers s.stations w.place h.side h.numbers_are h.is_at ∙ ap Some (h.number_is ∙ one)) (number-at w.numbers s.stations place side h.numbers_are at)) in
    record {
      master = deed-master w.body link deed h.master;
      side = h.side;
      is_at = set-other s.stations place w.place now.side differ ∙ h.is_at;
      number_is = h.number_is;
      none = h.none;
      numbers_are = set-map (λ (x : LineStationState). x.number) s.stations place side now.side at (link-number plain_node link deed) ∙ h.numbers_are;
      untold = untold-both (S w.number) w.body lines (link_lines plain_node link deed) h.untold (deed-there w.number w.body link deed apart);
    }

kept-with : (w : Watched) (s : HalfState NodeState) (place : ℕ) (deed : LinkDeed) (o : Option LineStationState) (lines : List Line) → slice_get s.stations place ≡ o → KeptThere w s lines → KeptThere w (after_with plain_node s place deed o) (lines ++ lines_with plain_node s deed o)
kept-with w s place deed None lines at kept honest = rw (append-nil lines) (kept honest)
kept-with w s place deed (Some side) lines at kept honest = at-place w s place deed side lines at honest (w.place == place) refl (kept (earlier plain_node deed (link_of s side) honest))

kept-step : (w : Watched) (step : UnitStep) (s : HalfState NodeState) (lines : List Line) → IsOther w.body s step → KeptThere w s lines → KeptThere w (after_step plain_node s step) (lines ++ lines_at plain_node s step)
kept-step w (AtMaster (Issue src dst payload)) s lines apart kept honest = step-issue w s src dst payload lines apart (kept honest)
kept-step w (AtMaster Give) s lines apart kept honest = step-give w s lines (kept honest)
kept-step w (AtMaster Tick) s lines apart kept honest = step-tick w s lines (kept honest)
kept-step w (AtStation place deed) s lines apart kept honest = kept-with w s place deed (slice_get s.stations place) lines refl kept honest

-- ---- the steps of an event

abbrev AreOther : List ℕ → HalfState NodeState → List UnitStep → Type 0
AreOther body s [] = Unit {0}
AreOther body s (step ∷ steps) = IsOther body s step × AreOther body (after_step plain_node s step) steps

plain-other : (body : List ℕ) (steps : List UnitStep) (s : HalfState NodeState) → ArePlain steps → AreOther body s steps
plain-other body [] s plain = tt
plain-other body (AtMaster (Issue src dst payload) ∷ steps) s plain = absurd plain.0
plain-other body (AtMaster Give ∷ steps) s plain = (tt, plain-other body steps _ plain.1)
plain-other body (AtMaster Tick ∷ steps) s plain = (tt, plain-other body steps _ plain.1)
plain-other body (AtStation place deed ∷ steps) s plain = (tt, plain-other body steps _ plain.1)

kept-steps : (w : Watched) (steps : List UnitStep) (s : HalfState NodeState) (lines : List Line) → AreOther w.body s steps → KeptThere w s lines → KeptThere w (after_steps plain_node s steps) (lines ++ lines_over plain_node s steps)
kept-steps w [] s lines apart kept = rw (append-nil lines) kept
kept-steps w (step ∷ steps) s lines apart kept =
    let first = lines_at plain_node s step in
    let next = after_step plain_node s step in
    subst (λ (all : List Line). KeptThere w (after_steps plain_node next steps) all) (append_assoc lines first (lines_over plain_node next steps))
    (kept-steps w steps next (lines ++ first) apart.1 (kept-step w step s lines apart.0 kept))

with-sent : (w : Watched) (by : Who) (s : HalfState NodeState) (bytes : List ℕ) (lines over : List Line) → KeptThere w s (lines ++ over) → KeptThere w s (lines ++ (over ++ sent_lines by bytes))
with-sent w by s bytes lines over kept honest =
    let now = kept honest in
    record {
      master = now.master;
      side = now.side;
      is_at = now.is_at;
      number_is = now.number_is;
      none = now.none;
      numbers_are = now.numbers_are;
      untold = subst (Untold (S w.number) w.body) (append_assoc lines over (sent_lines by bytes)) (untold-both (S w.number) w.body (lines ++ over) (sent_lines by bytes) now.untold (untold-none (S w.number) w.body (sent_lines by bytes) (sent-execute (S w.number) by bytes)));
    }

-- ---- events

-- a command that an event issues has another body
abbrev pub IssuesOtherThere : List ℕ → HalfState NodeState → Event → Type 0
IssuesOtherThere body s (event.Issue who src dst payload) = next_issued s.master.host.initiator (unwrap_or src s.master.host.initiator.node) dst payload ≢ body
IssuesOtherThere body s (event.Take who n) = Unit {0}
IssuesOtherThere body s (event.Deliver lane n) = Unit {0}
IssuesOtherThere body s (event.Lose lane n) = Unit {0}
IssuesOtherThere body s (event.Alter lane mask) = Unit {0}
IssuesOtherThere body s (event.Foreign lane bytes) = Unit {0}
IssuesOtherThere body s (event.Tick who n) = Unit {0}

abbrev pub AllIssueOtherThere : List ℕ → HalfState NodeState → List Event → Type 0
AllIssueOtherThere body s [] = Unit {0}
AllIssueOtherThere body s (e ∷ events) = IssuesOtherThere body s e × AllIssueOtherThere body (after_event plain_node s e) events

link-other : (body : List ℕ) (s : HalfState NodeState) (number : ℕ) (deeds : List LinkDeed) → AreOther body s (steps_with (place_of s.stations number) deeds)
link-other body s number deeds = plain-other body (steps_with (place_of s.stations number) deeds) s (plain-with (place_of s.stations number) deeds)

steps-other : (body : List ℕ) (s : HalfState NodeState) (e : Event) → IssuesOtherThere body s e → AreOther body s (steps_of s e)
steps-other body s (event.Issue who src dst payload) apart = (apart, tt)
steps-other body s (event.Take who n) apart = plain-other body (steps_of s (event.Take who n)) s (plain-take s.stations who n (number_of who))
steps-other body s (event.Deliver lane n) apart = link-other body s (station_between lane.from lane.to) (replicate n (OnLane (way_from lane.from) Deliver))
steps-other body s (event.Lose lane n) apart = link-other body s (station_between lane.from lane.to) (replicate n (OnLane (way_from lane.from) Lose))
steps-other body s (event.Alter lane mask) apart = link-other body s (station_between lane.from lane.to) (OnLane (way_from lane.from) (Alter mask) ∷ [])
steps-other body s (event.Foreign lane bytes) apart = link-other body s (station_between lane.from lane.to) (map (λ byte. OnLane (way_from lane.from) (Foreign byte)) bytes)
steps-other body s (event.Tick who n) apart = plain-other body (steps_of s (event.Tick who n)) s (plain-master Tick tt n)

kept-event : (w : Watched) (s : HalfState NodeState) (e : Event) (lines : List Line) → IssuesOtherThere w.body s e → KeptThere w s lines → KeptThere w (after_event plain_node s e) (lines ++ lines_of plain_node s e)
kept-event w s e lines apart kept =
    with-sent w (giver (station_at e)) (after_event plain_node s e) (bytes_over plain_node s (steps_of s e)) lines (lines_over plain_node s (steps_of s e)) (kept-steps w (steps_of s e) s lines (steps-other w.body s e apart) kept)

pub kept-events : (w : Watched) (events : List Event) (s : HalfState NodeState) (lines : List Line) → AllIssueOtherThere w.body s events → KeptThere w s lines → KeptThere w (state_after plain_node s events) (lines ++ lines_after plain_node s events)
kept-events w [] s lines apart kept = rw (append-nil lines) kept
kept-events w (e ∷ events) s lines apart kept =
    let next = after_event plain_node s e in
    subst (λ (all : List Line). KeptThere w (state_after plain_node next events) all) (append_assoc lines (lines_of plain_node s e) (lines_after plain_node next events))
    (kept-events w events next (lines ++ lines_of plain_node s e) apart.1 (kept-event w s e lines apart.0 kept))
