-- Over a run on a line with one station: once a command is answered that was to come at a quiet state, and nothing was lost, altered or added since, the line is at rest where nothing is under way, the master waits for nothing and no reply is left.
use Rattle.std.proofs.Common.{◌≡◌, ◌∙◌, ℕ, suc, true, is_none, List, [], ◌∷◌, ◌++◌, length, Option, Some, None, refl, ap, sym, subst, append_assoc, arith}
use Rattle.std.specs.Prelude.{slice_get}
use Rattle.std.specs.List.{list_all}
use Rattle.std.proofs.lemmas.List.{length-map}
use Rattle.df1_check.specs.declared.Check.{Check}
use Rattle.df1_node.specs.Node.{NodeState}
use Rattle.half_frame.specs.MasterStanding.{Outside, Listening}
use Rattle.half_frame.specs.MasterStanding as answer
use Rattle.half_frame.specs.declared.framer.Sent.{Sent}
use Rattle.lane_cells.specs.Cells.{LaneCell}
use Rattle.half_master.specs.Master as master
use Rattle.script_parts.specs.declared.script.Event.{Event}
use Rattle.script_parts.specs.declared.script.Script.{Script}
use Rattle.script_parts.specs.HalfPlayable.{IsHalfPlayable, numbers_of}
use Rattle.each_once.specs.NodeHost.{node_host}
use Rattle.half_line.specs.Behind.{plain_node}
use Rattle.half_line.specs.declared.way.Way.TheVariants.{ToStation, ToMaster}
use Rattle.half_line.specs.Acts.{LineStationState, HalfState, LinkDeed, StationGives, OnLane}
use Rattle.half_line.specs.Certified.{ArrivesWith, AllArrives, AllArrivesOver, AllArrivesAfter, IsAnsweredAfter, AreGentleOver, AreGentleAfter, IsAnsweredAlone, IsCertified, GoesOnCalmly}
use Rattle.half_line.specs.Issues.{issued_of}
use Rattle.half_line.specs.Prompt.{is_idle, is_quiet, IsGentleWith, IsGentle}
use Rattle.half_line.specs.Rest.{is_between_answers, is_to_come, IsWellAfter}
use Rattle.half_line.specs.Run.{start, steps_of, after_event, state_after, lines_after, last_state, record_from}
use Rattle.half_line.specs.Steps.{UnitStep, AtMaster, AtStation, after_step}
use Rattle.half_line.proofs.Once.Hearing.{run-hears}
use Rattle.half_line.proofs.Wire.Told.{gave-run}
use Rattle.half_line.proofs.Complete.Fronts.{front-plays, state-both}
use Rattle.half_line.proofs.Complete.StagePlaces.{none-given}
use Rattle.half_line.proofs.Complete.Stages.{both, idle-is}
use Rattle.half_line.proofs.Complete.StationAnswers.{giving_of, still-by}
use Rattle.half_line.proofs.Certified.AnswersInStep.{alike-in-step}
use Rattle.half_line.proofs.Certified.CommandStands.{is_answered, Stands}
use Rattle.half_line.proofs.Certified.StationGives.{Leads}
use Rattle.half_line.proofs.Certified.AloneSteps.{FollowsOne, FollowsUnless, follows-events}
use Rattle.half_line.proofs.Certified.WholeRun.{certified, at-rest, well-at-rest, told-stands, to-come-unanswered}

-- ---- what loses, alters and adds no byte lets all arrive at the station

gentle-with : (deed : LinkDeed) (o : Option LineStationState) → IsGentleWith deed o → ArrivesWith deed o
gentle-with deed None gentle = tt
gentle-with StationGives (Some side) gentle = tt
gentle-with (OnLane ToStation deed) (Some side) gentle = gentle
gentle-with (OnLane ToMaster deed) (Some side) gentle = tt

gentle-step : (s : HalfState NodeState) (step : UnitStep) → IsGentle s step → AllArrives s step
gentle-step s (AtMaster deed) gentle = tt
gentle-step s (AtStation place deed) gentle = gentle-with deed (slice_get s.stations place) gentle

gentle-over : (steps : List UnitStep) (s : HalfState NodeState) → AreGentleOver s steps → AllArrivesOver s steps
gentle-over [] s gentle = tt
gentle-over (step ∷ steps) s gentle = (gentle-step s step gentle.0, gentle-over steps (after_step plain_node s step) gentle.1)

pub gentle-after : (events : List Event) (s : HalfState NodeState) → AreGentleAfter s events → AllArrivesAfter s events
gentle-after [] s gentle = tt
gentle-after (e ∷ events) s gentle = (gentle-over (steps_of s e) s gentle.0, gentle-after events (after_event plain_node s e) gentle.1)

answered-after : (script : Script) (front middle more rest : List Event) (n : ℕ) → IsAnsweredAlone script front middle more rest n → IsAnsweredAfter script front middle more rest n
answered-after script front middle more rest n h = record {
  parts = h.parts;
  to_come = h.to_come;
  arrives = gentle-after (middle ++ more) (state_after plain_node (start script) front) h.gentle;
  reply = h.reply;
  answered = h.answered;
}

-- ---- a quiet state

-- a station that has nothing to give, and of which nothing is on its way
record GaveAll (side : LineStationState) : Type 0 where
  none_coming : side.from_it ≡ []
  none_left : side.slave.mouth.left ≡ []

gave-all : (side : LineStationState) → is_idle side ≡ true → GaveAll side
gave-all side idle =
    let s = side.slave in
    let i = idle-is side idle in
    let g = giving_of s in
    record { none_coming = i.none_from_it; none_left = (still-by s.mouth.left s.mouth.number s.mouth.begun s.responds (none-given g.left g.number g.begun i.gives_none)).0 }

sides-idle : (s : HalfState NodeState) → is_quiet s ≡ true → list_all is_idle s.stations ≡ true
sides-idle s quiet = (both (is_none (master.out_at_take node_host s.master)) (list_all is_idle s.stations) quiet).1

one-idle : (side : LineStationState) (sides : List LineStationState) → sides ≡ side ∷ [] → list_all is_idle sides ≡ true → is_idle side ≡ true
one-idle side sides is idle = (both (is_idle side) true (subst (λ (all : List LineStationState). list_all is_idle all ≡ true) is idle)).0

one-of : (sides : List LineStationState) → length sides ≡ 1 → (side : LineStationState) × (sides ≡ side ∷ [])
one-of [] one = absurd (omega (arith, one))
one-of (side ∷ []) one = (side, refl)
one-of (side ∷ other ∷ sides) one = absurd (omega (arith, one))

-- from there on
follows-start : (script : Script) (front : List Event) (k : ℕ) → IsHalfPlayable (record script { events = front }) → length (numbers_of script.ends) ≡ 1 → is_quiet (state_after plain_node (start script) front) ≡ true → is_to_come (state_after plain_node (start script) front).master (suc k) ≡ true
    → FollowsOne script.check k (state_after plain_node (start script) front)
follows-start script front k playable alone quiet come =
    let run : Script = record script { events = front } in
    let s = state_after plain_node (start script) front in
    let gave = gave-run run playable in
    let hears = run-hears run in
    let count : length s.stations ≡ length (numbers_of script.ends) = sym (length-map s.stations (λ (x : LineStationState). x.number)) ∙ ap length gave.numbers_are in
    let one = one-of s.stations (count ∙ alone) in
    let all = gave-all one.0 (one-idle one.0 s.stations one.1 (sides-idle s quiet)) in
    let here : slice_get s.stations 0 ≡ Some one.0 = ap (λ (sides : List LineStationState). slice_get sides 0) one.1 in
    record {
      side = one.0;
      is = one.1;
      follows = record {
        line = (gave.stations 0 one.0 here).check_is;
        ear = ap (λ (ear : Listening). ear.check) hears.of_master.stands.is;
        imagined = Outside;
        leads = rw (all.none_coming, all.none_left) refl;
        alike = λ answered. absurd (to-come-unanswered s k come answered);
      };
    }

led : (check : Check) (at : answer.Standing) (side : LineStationState) → GaveAll side → Leads check at side.from_it side.slave.mouth.left → is_between_answers at ≡ true
led check at side all leads =
    subst (λ (cells : List LaneCell). Leads check at cells []) all.none_coming (subst (λ (left : List Sent). Leads check at side.from_it left) all.none_left leads)

-- there the master's ear is in step
follows-ends : (check : Check) (k : ℕ) (s : HalfState NodeState) → is_quiet s ≡ true → Stands is_answered (issued_of s.master) k → FollowsOne check k s → is_between_answers s.master.ear.standing ≡ true
follows-ends check k s quiet answered f =
    let all = gave-all f.side (one-idle f.side s.stations f.is (sides-idle s quiet)) in
    let here = led check f.follows.imagined f.side all f.follows.leads in
    alike-in-step f.follows.imagined s.master.ear.standing (f.follows.alike answered) here

-- ---- the run

pub certified-alone : (script : Script) (front middle more rest : List Event) (n : ℕ) → IsHalfPlayable script → IsAnsweredAlone script front middle more rest n → IsCertified (state_after plain_node (start script) (front ++ (middle ++ more)))
certified-alone script front middle more rest n playable h quiet idle fetched =
    let since = middle ++ more in
    let s = state_after plain_node (start script) front in
    let last = state_after plain_node (start script) (front ++ since) in
    let after = answered-after script front middle more rest n h in
    let before = front-plays script front (since ++ rest) playable h.parts in
    let stands = told-stands script front middle more rest n playable after in
    let come : is_to_come s.master (suc stands.0) ≡ true = subst (λ (m : ℕ). is_to_come s.master m ≡ true) stands.1 h.to_come in
    let both_is : last ≡ state_after plain_node s since = state-both (start script) front since in
    let follows = follows-events script.check stands.0 since s h.gentle (λ none. follows-start script front stands.0 before h.alone h.quiet come) in
    let f = subst (FollowsUnless script.check stands.0) (sym both_is) follows h.undeceived in
    at-rest last quiet idle (follows-ends script.check stands.0 last quiet stands.2 f) fetched (certified script front middle more rest n playable after)

pub well-alone : (script : Script) (front middle more rest : List Event) (n : ℕ) → IsHalfPlayable script → IsAnsweredAlone script front middle more rest n → GoesOnCalmly script (front ++ (middle ++ more)) rest
    → IsWellAfter script (front ++ (middle ++ more)) (record_from plain_node (last_state script) (lines_after plain_node (start script) script.events))
well-alone script front middle more rest n playable h on =
    let since = middle ++ more in
    well-at-rest script (front ++ since) rest playable (h.parts ∙ sym (append_assoc front since rest)) h.undeceived (certified-alone script front middle more rest n playable h on.still on.idle on.none_left) on
