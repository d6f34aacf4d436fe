-- A half-duplex line at rest, where no end was deceived so far: what holds from there on, whatever happened before.
use Rattle.std.proofs.Common.{◌≡◌, ◌∙◌, ℕ, zero, suc, ◌*◌, ◌<◌, ◌≤◌, true, false, is_none, List, [], ◌∷◌, ◌++◌, length, map, Option, Some, None, refl, ap, sym, subst, arith, append-nil, inl}
use Rattle.std.specs.Prelude.{◌&&◌, All, slice_get, slice_index_or, count_by}
use Rattle.std.specs.List.{list_all}
use Rattle.std.proofs.lemmas.List.{length-map}
use Rattle.std.proofs.lemmas.List.Elements.{All-head, All-tail}
use Rattle.std.proofs.lemmas.Option.{get_or_from_slice_get, slice_get_within}
use Rattle.df1_base.specs.Host.{IsBody}
use Rattle.end_settings.specs.declared.key.EndKey.TheVariants.{PerSource, Window}
use Rattle.half_frame.specs.SlaveStanding as call
use Rattle.half_frame.specs.MasterStanding as answer
use Rattle.half_mouth.specs.Giving.{is_done}
use Rattle.pccc_envelope.specs.declared.key.Key.{Key}
use Rattle.pccc_envelope.specs.Envelope.{key_of}
use Rattle.df1_node.specs.Answer.{StationState}
use Rattle.df1_node.specs.Initiator.{Issued}
use Rattle.df1_node.specs.Node.{NodeState}
use Rattle.half_master.specs.declared.stations.Station.{Station}
use Rattle.half_master.specs.declared.table.Phase.TheVariants as phase
use Rattle.half_master.specs.Keys.{kept_at}
use Rattle.half_master.specs.Master as master
use Rattle.half_master.specs.Master.{MasterState}
use Rattle.half_master.proofs.Giving.{came-reached}
use Rattle.half_master.proofs.Reaching.{reached-carries}
use Rattle.script_parts.specs.declared.script.EndPlan.{EndPlan}
use Rattle.script_parts.specs.declared.script.Event.{Event}
use Rattle.script_parts.specs.declared.script.Script.{Script}
use Rattle.script_parts.specs.HalfPlayable.{AreHalfEnds, IsStationPlan, IsHalfPossible, IsHalfPlayable, station_plans, numbers_of, is_issue}
use Rattle.script_parts.specs.Plans.{first_plan}
use Rattle.script_statement.specs.declared.who.Who.TheVariants.{M}
use Rattle.replay_report.specs.declared.record.Line.{Line}
use Rattle.each_once.specs.NodeHost.{node_host}
use Rattle.each_once.proofs.AnsweringStation.{sent-replies}
use Rattle.each_once.proofs.HandedOut.{AreHanded, handed-at}
use Rattle.each_once.proofs.MessageLengths.{AreBodies}
use Rattle.each_once.proofs.OneDirection.{IsKept, way-within}
use Rattle.each_once.proofs.StationReplies.{fits-tns}
use Rattle.each_once.proofs.Sublists.{from-map, none-is, same-some, within-has}
use Rattle.half_line.specs.Behind.{plain_node}
use Rattle.half_line.specs.Acts.{LineStationState, HalfState}
use Rattle.half_line.specs.Issues.{issued_of, bodies_of}
use Rattle.half_line.specs.Prompt.{is_idle, is_quiet, keeps_none, HasRooms, HasTurns, IsPromptAfter}
use Rattle.half_line.specs.Rest.{is_between_calls, is_between_answers, is_resting, is_at_rest}
use Rattle.half_line.specs.Run.{first_side, plan_of_m, start, state_after, lines_after}
use Rattle.half_line.proofs.Once.EachStation.{plan_at, setting_of}
use Rattle.half_line.proofs.Once.Hearing.{run-hears}
use Rattle.half_line.proofs.Once.Invariant.{marks, Shared, SideHolds, Holds}
use Rattle.half_line.proofs.Once.MasterOutcomes.{AreDeclared, recounts-run}
use Rattle.half_line.proofs.Once.WholeRun.{counted_over, counted-within}
use Rattle.half_line.proofs.Wire.MasterEnd.{node_keeps}
use Rattle.half_line.proofs.Wire.Told.{gave-run}
use Rattle.half_line.proofs.Complete.AnsweredCommands.{origin_at, none-first}
use Rattle.half_line.proofs.Complete.Dealings.{bodies_in, dealings-from}
use Rattle.half_line.proofs.Complete.EarHears.{hears-nothing}
use Rattle.half_line.proofs.Complete.EarlierCommands.{new-waits, still-itself}
use Rattle.half_line.proofs.Complete.EventsAlong.{Ends, events-along}
use Rattle.half_line.proofs.Complete.Fronts.{all-back, count-both, front-plays}
use Rattle.half_line.proofs.Complete.Invariant.{Flow}
use Rattle.half_line.proofs.Complete.LineFacts.{AreShort}
use Rattle.half_line.proofs.Complete.MasterHears.{IsOutside as IsAtNoAnswer}
use Rattle.half_line.proofs.Complete.MasterStep.{idle-phase}
use Rattle.half_line.proofs.Complete.NewKeys.{IsKeyOf}
use Rattle.half_line.proofs.Complete.QuietLine.{given-by}
use Rattle.half_line.proofs.Complete.Settings.{AreSetAs, settings-kept}
use Rattle.half_line.proofs.Complete.StationAnswers.{giving_of, still-by}
use Rattle.half_line.proofs.Complete.StationHears.{IsOutside as IsAtNoCall, station_ear}
use Rattle.half_line.proofs.Complete.StationRests.{IsStill, Rests, free}
use Rattle.half_line.proofs.Complete.StagePlaces.{none-given}
use Rattle.half_line.proofs.Complete.Stages.{SideRests, Idles, both, idle-is, all-at, no-tape}
use Rattle.half_line.proofs.Complete.Turns.{least_of}

-- ---- a state at rest, by its parts

record MasterIdles (m : MasterState NodeState) : Type 0 where
  idle : m.phase ≡ phase.Idle
  given : m.mouth.left ≡ []
  outside : IsAtNoAnswer m.ear.standing

record SideIdles (side : LineStationState) : Type 0 where
  none_to_it : side.to_it ≡ []
  none_back : side.from_it ≡ []
  still : IsStill side.slave
  none_held : side.slave.held ≡ None
  none_waits : side.slave.host.replies ≡ []
  outside : IsAtNoCall side.slave.ear.standing

no-answer : (at : answer.Standing) → is_between_answers at ≡ true → IsAtNoAnswer at
no-answer answer.Outside is = tt
no-answer (answer.Ended body) is = tt
no-answer answer.AfterDle is = absurd cc
no-answer (answer.AtText at) is = absurd cc

no-call : (at : call.Standing) → is_between_calls at ≡ true → IsAtNoCall at
no-call call.Outside is = tt
no-call (call.Ended body) is = tt
no-call call.AfterDle is = absurd cc
no-call call.AfterSoh is = absurd cc
no-call call.AfterEnq is = absurd cc
no-call (call.AtPollCheck stn) is = absurd cc
no-call (call.AfterStation stn) is = absurd cc
no-call (call.AfterStationDle stn) is = absurd cc
no-call (call.AtText stn at) is = absurd cc

side-idles : (side : LineStationState) → is_idle side ≡ true → is_resting side ≡ true → SideIdles side
side-idles side idle resting =
    let s = side.slave in
    let i = idle-is side idle in
    let parts = both (keeps_none side) (is_between_calls s.ear.standing) resting in
    let keeps = both (is_none (slice_get s.host.replies 0)) (is_none s.held) parts.0 in
    let g = giving_of s in
    let still = still-by s.mouth.left s.mouth.number s.mouth.begun s.responds (none-given g.left g.number g.begun i.gives_none) in
    record {
      none_to_it = i.none_to_it;
      none_back = i.none_from_it;
      still = record { gives_none = still.0; owes_none = still.1 };
      none_held = none-is s.held keeps.1;
      none_waits = none-first s.host.replies keeps.0;
      outside = no-call s.ear.standing parts.1;
    }

-- the master, and each station
record LineRests (s : HalfState NodeState) : Type 0 where
  master : MasterIdles s.master
  sides : (p : ℕ) (side : LineStationState) → slice_get s.stations p ≡ Some side → SideIdles side

line-rests : (s : HalfState NodeState) → is_at_rest s ≡ true → LineRests s
line-rests s rest =
    let m = s.master in
    let first = both (is_quiet s) (master.is_idle m.phase && (is_between_answers m.ear.standing && list_all is_resting s.stations)) rest in
    let second = both (master.is_idle m.phase) (is_between_answers m.ear.standing && list_all is_resting s.stations) first.1 in
    let third = both (is_between_answers m.ear.standing) (list_all is_resting s.stations) second.1 in
    let quiet = both (is_none (master.out_at_take node_host m)) (list_all is_idle s.stations) first.0 in
    record {
      master = record { idle = idle-phase m.phase second.0; given = given-by m (is_done m.mouth) refl quiet.0; outside = no-answer m.ear.standing third.0 };
      sides = λ p side at. side-idles side (all-at is_idle s.stations p side quiet.1 at) (all-at is_resting s.stations p side third.1 at);
    }

-- nothing is awaited of a station
side-rests : (m : MasterState NodeState) (side : LineStationState) → MasterIdles m → SideIdles side → side.slave.setup.station ≡ side.number → side.slave.ear.check ≡ m.ear.check → side.slave.setup.check ≡ m.ear.check → SideRests m side
side-rests m side idles i own check line = record {
  own = own;
  check = check;
  line = line;
  rests = subst (Rests side.slave) (sym (no-tape m side idles.given i.none_to_it)) (record { all = []; hears = hears-nothing station_ear side.slave.ear i.outside; still = i.still; rest = free i.none_held tt });
  none_back = i.none_back;
}

-- ---- the keys that are kept

-- by a station: that of a command that was handed out to it
held-key : (issued : List Issued) (commands : List (List ℕ)) → AreHanded issued commands → (last : Option ℕ) (kept : Option Key) → IsKept commands last kept → IsKeyOf issued [] kept
held-key issued commands handed last None is = tt
held-key issued commands handed None (Some key) is = absurd cc
held-key issued commands handed (Some m) (Some key) is =
    let c = handed-at issued commands m is.0 handed is.1 in
    (is.0, inl (c.0, record { command = c.1; is_at = c.2; has_body = c.3; handed = c.4 }), ap (λ (k : Key). k.tns) (same-some key (key_of is.0) is.2))

-- by the master, for a station: that of a reply to such a command
told-key : (all : Shared) (first : StationState) (kept : Option Key) (side : LineStationState) → (h : SideHolds all first kept side) → (last : Option ℕ) (key : Option Key) → AreHanded all.issued all.commands → IsKept h.sent last key → IsKeyOf all.issued [] key
told-key all first kept side h last None handed is = tt
told-key all first kept side h None (Some key) handed is = absurd cc
told-key all first kept side h (Some m) (Some key) handed is =
    let r = sent-replies is.0 h.keeps.serves (m, is.1) in
    let has = within-has h.executed all.commands r.body (way-within all.commands (marks side.to_it) side.slave.kept h.executed h.way) (r.place, r.is_executed) in
    let c = handed-at all.issued all.commands has.0 r.body handed has.1 in
    (r.body, inl (c.0, record { command = c.1; is_at = c.2; has_body = c.3; handed = c.4 }), ap (λ (k : Key). k.tns) (same-some key (key_of is.0) is.2) ∙ fits-tns r.body is.0 r.fits)

-- ---- what is so of the ends in every run

record EndsFacts (script : Script) (s : HalfState NodeState) : Type 0 where
  check : s.master.setup.check ≡ s.master.ear.check
  checks : (p : ℕ) (side : LineStationState) → slice_get s.stations p ≡ Some side → (side.slave.ear.check ≡ s.master.ear.check) × (side.slave.setup.check ≡ s.master.ear.check)
  turn : (p : ℕ) → p < length (numbers_of script.ends) → s.master.next < length (numbers_of script.ends)
  fits : AreBodies (bodies_in s.master.host.initiator)
  declared : AreDeclared (numbers_of script.ends) (bodies_of s.master)
  set : AreSetAs (start script) s

all-bodies : (cs : List Issued) → All (λ c. IsBody c.body) cs → AreBodies (map (λ c. c.body) cs)
all-bodies [] all = tt
all-bodies (c ∷ cs) all = (All-head (λ (c : Issued). IsBody c.body) c cs all, all-bodies cs (All-tail (λ (c : Issued). IsBody c.body) c cs all))

ends-facts : (script : Script) (events : List Event) → IsHalfPlayable (record script { events = events }) → EndsFacts script (state_after plain_node (start script) events)
ends-facts script events playable =
    let run : Script = record script { events = events } in
    let s = state_after plain_node (start script) events in
    let m = s.master in
    let hears = run-hears run in
    let gave = gave-run run playable in
    let recounts = recounts-run run playable in
    let carried = reached-carries node_host node_keeps m (came-reached node_host gave.master.past m gave.master.came) in
    let count : length (numbers_of script.ends) ≡ length m.stations = ap length (sym recounts.numbers_are) ∙ length-map m.stations (λ (x : Station). x.number) in
    let ear : m.ear.check ≡ script.check = ap (λ (l : answer.Listening). l.check) hears.of_master.stands.is in
    record {
      check = gave.master.check_is ∙ sym ear;
      checks = λ p side at. (ap (λ (l : call.Listening). l.check) (hears.stands p side at).is ∙ sym ear, (gave.stations p side at).check_is ∙ sym ear);
      turn = λ p here. let within = carried.fits.0.next_in (omega (arith, here, count)) in omega (arith, within, count);
      fits = all-bodies m.host.initiator.issued carried.holds.1;
      declared = recounts.declared;
      set = settings-kept (start script) events;
    }

-- ---- what a script says of its ends

-- the master may have a command out, and one of each source
master-sends : (ends : List EndPlan) → AreHalfEnds ends → (other : EndPlan) → (1 ≤ (slice_index_or ends 0 other).window) × (1 ≤ (slice_index_or ends 0 other).per_source)
master-sends [] are other = absurd are
master-sends (master ∷ stations) are other = ((are.0.settings Window).0, (are.0.settings PerSource).0)

-- of each station: its status reply fits a message
blocks-from : (plans : List EndPlan) → All IsStationPlan plans → (p : ℕ) (plan : EndPlan) → slice_get plans p ≡ Some plan → length plan.block ≤ 244
blocks-from [] all p plan at = absurd cc
blocks-from (first ∷ plans) all zero plan at = subst (λ (x : EndPlan). length x.block ≤ 244) (same-some first plan at) (All-head IsStationPlan first plans all).block
blocks-from (first ∷ plans) all (suc p) plan at = blocks-from plans (All-tail IsStationPlan first plans all) p plan at

blocks-of : (ends : List EndPlan) → AreHalfEnds ends → (p : ℕ) (plan : EndPlan) → slice_get (station_plans ends) p ≡ Some plan → length plan.block ≤ 244
blocks-of [] are p plan at = absurd are
blocks-of (master ∷ stations) are p plan at = blocks-from stations are.1 p plan at

pub are-short : (script : Script) (playable : IsHalfPlayable script) → AreShort (setting_of script playable)
are-short script playable p number at =
    let plans = station_plans script.ends in
    let plan = from-map (λ (x : EndPlan). x.node) plans p number at in
    let same : plan_at script p ≡ plan.0 = get_or_from_slice_get plans p plan.0 (first_plan M 0) plan.1 in
    subst (λ (x : EndPlan). length x.block ≤ 244) (sym same) (blocks-of script.ends playable.ends p plan.0 plan.1)

-- ---- the invariant holds there

-- a station has room for as many replies as the master may have commands out
room-of : (script : Script) (s : HalfState NodeState) (p : ℕ) (side : LineStationState) → HasRooms script → AreSetAs (start script) s → slice_get s.stations p ≡ Some side → s.master.host.initiator.window ≤ side.slave.host.room
room-of script s p side rooms set at =
    let plans = station_plans script.ends in
    let had = set.rooms p side at in
    let plan = from-map (first_side script.check) plans p had.0 had.1 in
    let room : (plan_of_m script).window ≤ plan.0.room = subst (λ (x : EndPlan). (plan_of_m script).window ≤ x.room) (get_or_from_slice_get plans p plan.0 plan.0 plan.1) (rooms p plan.0 (slice_get_within plans p plan.0 plan.1)) in
    let same : side.slave.host.room ≡ plan.0.room = had.2 ∙ ap (λ (x : LineStationState). x.slave.host.room) (sym plan.2) in
    let window : s.master.host.initiator.window ≡ (plan_of_m script).window = set.master.window in
    omega (arith, room, same, window)

flow-rest : (script : Script) (playable : IsHalfPlayable script) (count : ℕ) (s : HalfState NodeState) (lines : List Line) → HasRooms script → HasTurns script → EndsFacts script s → is_at_rest s ≡ true → s.deceived ≡ 0 → Holds (setting_of script playable) count s lines
    → Flow (origin_at script playable lines (issued_of s.master)) s 0 []
flow-rest script playable count s lines rooms turns facts rest honest h =
    let m = s.master in
    let i = m.host.initiator in
    let plan = plan_of_m script in
    let n = length (numbers_of script.ends) in
    let r = line-rests s rest in
    let set = facts.set.master in
    let sends = master-sends script.ends playable.ends (first_plan M 0) in
    let handed = h.master.issues.initiates.in_order in
    let enough : plan.window * n < plan.reply_ticks = subst (λ (k : ℕ). plan.window * k < plan.reply_ticks) (sym (length-map (station_plans script.ends) (λ (x : EndPlan). x.node))) turns in
    record {
      course = record {
        now = Idles;
        stage = record {
          idle = r.master.idle;
          outside = r.master.outside;
          rest = λ p side at. let checks = facts.checks p side at in side-rests m side r.master (r.sides p side at) (h.sides p side at).own checks.0 checks.1;
        };
        ledger = record {
          some = subst (λ (w : ℕ). 1 ≤ w) (sym set.window) sends.0;
          some_of = subst (λ (w : ℕ). 1 ≤ w) (sym set.per_source) sends.1;
          fits = facts.fits;
          declared = facts.declared;
          enough = subst (λ (w : ℕ). w * n < i.reply_ticks) (sym set.window) (subst (λ (t : ℕ). plan.window * n < t) (sym set.reply_ticks) enough);
          handed = still-itself i.issued;
          turn = facts.turn;
          sides = λ p side at.
              let this = h.sides p side at in
              dealings-from i.issued _ side.number i (kept_at m.stations p) side.slave (λ j. least_of n m.next false p j) (new-waits i.issued) (set.few (omega arith)) (r.sides p side at).none_waits (room-of script s p side rooms facts.set at)
              (held-key i.issued h.commands handed this.way.last side.slave.kept this.way.keeps) (told-key _ _ (kept_at m.stations p) side this this.back.last (kept_at m.stations p) handed this.back.keeps);
        };
      };
      check = facts.check;
      honest = honest;
    }

-- ---- and so it goes on

pub ends-after : (script : Script) (playable : IsHalfPlayable script) (front rest : List Event) → script.events ≡ front ++ rest → HasRooms script → HasTurns script → is_at_rest (state_after plain_node (start script) front) ≡ true
    → (state_after plain_node (start script) front).deceived ≡ 0 → Holds (setting_of script playable) (counted_over 0 front) (state_after plain_node (start script) front) (lines_after plain_node (start script) front) → IsPromptAfter 0 (state_after plain_node (start script) front) rest
    → Ends (origin_at script playable (lines_after plain_node (start script) front) (issued_of (state_after plain_node (start script) front).master)) (state_after plain_node (state_after plain_node (start script) front) rest) (lines_after plain_node (state_after plain_node (start script) front) rest)
ends-after script playable front rest is rooms turns resting honest h prompt =
    let s = state_after plain_node (start script) front in
    let lines = lines_after plain_node (start script) front in
    let count = counted_over 0 front in
    let facts = ends-facts script front (front-plays script front rest playable is) in
    let flow = flow-rest script playable count s lines rooms turns facts resting honest h in
    let possible = subst (λ (events : List Event). All (IsHalfPossible (numbers_of script.ends)) events) is playable.events in
    let few = subst (λ (events : List Event). count_by is_issue events ≤ 65535) is playable.commands in
    let all = count-both front rest in
    let past = counted-within 0 front in
    events-along (origin_at script playable lines (issued_of s.master)) count rest s 0 [] (all-back (numbers_of script.ends) front rest possible) (omega (arith, few, all, past)) (are-short script playable) prompt
    (record { kept = λ none. subst (λ (told : List Line). Holds (setting_of script playable) count s told) (sym (append-nil lines)) h; flow = flow })
