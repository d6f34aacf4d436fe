-- Two ends at rest, where no end was deceived so far: what holds from there on, whatever happened before.
use Rattle.std.proofs.Common.{◌≡◌, ◌∙◌, ℕ, ◌≤◌, true, false, not, List, [], ◌∷◌, ◌++◌, length, map, Option, Some, None, refl, ap, sym, subst, arith, append-nil}
use Rattle.std.specs.Prelude.{◌&&◌, All, slice_index_or}
use Rattle.std.specs.List.{filter}
use Rattle.std.proofs.lemmas.List.Elements.{All-head, All-tail}
use Rattle.df1_base.specs.Host.{IsBody}
use Rattle.df1_base.specs.declared.link.Resp.TheVariants as resp
use Rattle.df1_check.specs.declared.Check.{Check}
use Rattle.df1_frame.specs.Standing.{Standing, Outside, Ended, AfterDle, Inside, InsideDle, AtCheck, Decoding}
use Rattle.pccc_envelope.specs.declared.key.Key.{Key}
use Rattle.pccc_envelope.specs.Envelope.{is_reply, key_of}
use Rattle.df1_node.specs.Answer.{StationState}
use Rattle.df1_node.specs.Initiator.{Issued}
use Rattle.df1_node.specs.Node.{NodeState, holds_bodies}
use Rattle.duplex_sender.specs.declared.Phase.{Phase}
use Rattle.duplex_sender.specs.declared.Phase.TheVariants as phase
use Rattle.duplex_sender.specs.Sender.{phase_of}
use Rattle.embedded_response.specs.Giving.{chosen}
use Rattle.duplex_end.specs.End.{EndState, has_message, holds_message}
use Rattle.duplex_end.proofs.Reaching.{reached-carries}
use Rattle.end_settings.specs.declared.key.EndKey.TheVariants.{PerSource, Window}
use Rattle.script_statement.specs.declared.who.Who.{Who}
use Rattle.script_statement.specs.declared.who.Who.TheVariants.{A, B}
use Rattle.script_parts.specs.declared.script.EndPlan.{EndPlan}
use Rattle.script_parts.specs.declared.script.Event.{Event}
use Rattle.script_parts.specs.declared.script.Script.{Script}
use Rattle.script_parts.specs.Plans.{first_plan}
use Rattle.script_parts.specs.Playable.{IsPlanOf, IsPlayable, AreEnds}
use Rattle.replay_report.specs.declared.record.Line.{Line}
use Rattle.each_once.specs.NodeHost.{node_host}
use Rattle.each_once.specs.Tells.{executed_in}
use Rattle.duplex_line.specs.Acts.{LineEndState, LineState}
use Rattle.duplex_line.specs.Prompt.{none_late, is_quiet, HasRooms}
use Rattle.duplex_line.specs.Recoverable.{no_damages}
use Rattle.duplex_line.specs.Rest.{is_between, is_resting, is_at_rest}
use Rattle.duplex_line.specs.Run.{first_station, plan_of_a, plan_of_b, start, state_after, lines_after}
use Rattle.each_once.proofs.HandedOut.{is_command, Hosts}
use Rattle.each_once.proofs.MessageLengths.{AreBodies}
use Rattle.each_once.proofs.OneDirection.{IsKept, way-within}
use Rattle.each_once.proofs.CommandsUnderWay.{under-way-new}
use Rattle.each_once.proofs.Sublists.{get-more}
use Rattle.each_once.proofs.TwoNodes.{IsKeyOf, replied-count}
use Rattle.each_once.proofs.WaitingCommands.{is_one_of, OthersWait, other-is}
use Rattle.duplex_line.proofs.Once.Invariant.{lane_of, Holds}
use Rattle.duplex_line.proofs.Once.SentMessages.{Sends}
use Rattle.duplex_line.proofs.Once.Settings.{Allowance, IsAllowed, allowed-events}
use Rattle.duplex_line.proofs.Once.WholeRun.{holds-run}
use Rattle.duplex_line.proofs.Wire.AllHeard.{run-stands-a, run-stands-b}
use Rattle.duplex_line.proofs.Wire.Fronts.{front-plays}
use Rattle.duplex_line.proofs.Wire.OneEnd.{Gave, node_keeps}
use Rattle.duplex_line.proofs.Wire.WholeRun.{run-sent}
use Rattle.duplex_line.proofs.Complete.DamageDone.{damage-none}
use Rattle.duplex_line.proofs.Complete.DecoderPlace.{IsOutside, sync-rest, quiet-owes}
use Rattle.duplex_line.proofs.Complete.Invariant.{Origin, is_later, ArePast, HaveRoom, IsEnd, Flows}
use Rattle.duplex_line.proofs.Complete.MessageUnderWay.{Flow, May, awaits-idle, idle-activity, naks_of}
use Rattle.duplex_line.proofs.Complete.QuietEnd.{GivesNothing}
use Rattle.duplex_line.proofs.Complete.TickStep.{both, next-parts, quiet-still}

-- ---- one end

-- an end at rest on a line of this check, whose node may have so many replies and commands
record Rests (check : Check) (may : Allowance) (e : EndState NodeState) : Type 0 where
  speaks : e.mouth.check ≡ check
  hears : e.receiver.decoding.check ≡ check
  chooses : chosen e.mouth ≡ None
  idle : phase_of e.sender ≡ phase.Idle
  between : IsOutside e.receiver.decoding.standing
  none_waits : e.host.replies ≡ []
  holds : holds_bodies e.host
  allowed : IsAllowed may e.host

all-bodies : (cs : List Issued) → All (λ c. IsBody c.body) cs → AreBodies (map (λ c. c.body) cs)
all-bodies [] all = tt
all-bodies (c ∷ cs) all = (All-head (λ (c : Issued). IsBody c.body) c cs all, all-bodies cs (All-tail (λ (c : Issued). IsBody c.body) c cs all))

-- what it had handed out and accepted stays behind
abbrev pub left_behind : StationState → (sent heard : List (List ℕ)) → Origin
left_behind station sent heard = record { station = station; sent = sent; heard = heard }

rest-end : (first : StationState) (check : Check) (may : Allowance) (e : EndState NodeState) (sent heard : List (List ℕ)) → Rests check may e → Hosts first e.host sent heard → Sends e sent → OthersWait e.host.initiator (filter is_command sent) → length e.host.initiator.issued ≤ 65535
    → IsEnd (left_behind first sent heard) may e [] [] 0
rest-end first check may e sent heard r hosts sends waits few = record {
  hosts = rw (append-nil sent, append-nil heard) hosts;
  sends = record {
    joined = sends.joined;
    current = λ some. absurd (some r.idle);
    begun = λ is. absurd (let no : phase.Sending ≡ phase.Idle = sym (sends.joined.sends is) ∙ r.idle in cc);
  };
  ahead = record {
    done = 0;
    under_way = under-way-new (is_later (left_behind first sent heard)) e.host.initiator _ (λ p c at of. waits.wait p c at (other-is (is_one_of (filter is_command sent) c.body) of)) waits.few;
    answers = refl;
  };
  bodies = tt;
  commands = all-bodies e.host.initiator.issued r.holds.1;
  allowed = r.allowed;
  block = subst (λ (station : StationState). length station.block ≤ 244) hosts.station r.holds.2;
  few = few;
}

-- a reply to each command that it executed was handed out
rest-even : (first : StationState) (node : NodeState) (sent heard : List (List ℕ)) → Hosts first node sent heard → node.replies ≡ [] → length (filter is_reply sent) ≡ length (filter is_command heard)
rest-even first node sent heard hosts none =
    let count = replied-count first sent heard node.replies hosts.replies in
    let zero : length node.replies ≡ 0 = ap length none in
    omega (arith, count, zero)

-- ---- one direction

rest-flow : (check : Check) (may far_may : Allowance) (e b : EndState NodeState) → Rests check may e → Rests check far_may b → Flow e b [] [] [] [] 0 (record { hits = 0; last_hit = false })
rest-flow check may far_may e b r far =
    let idle = idle-activity e.sender.activity e.sender.limits r.idle in
    let none = awaits-idle e.sender.activity e.sender.limits r.idle in
    let ack = quiet-owes b.mouth far.chooses resp.Ack in
    let nak = quiet-owes b.mouth far.chooses resp.Nak in
    let naks : naks_of e.sender.activity ≡ 0 = ap naks_of idle in
    record {
      clear = sync-rest (May e.sender.activity 0) e.mouth e.sending b.receiver.decoding (far.hears ∙ sym r.speaks) r.chooses far.between;
      responses = omega (arith, none, ack, nak);
      bodies = tt;
      flight = rw idle refl;
      patient = rw idle tt;
      spent = omega (arith, naks, nak);
      struck = λ hit. cc;
      given = λ waits. absurd (omega (arith, waits, none));
    }

-- the key that is kept is that of a message that was handed out
rest-key : (messages : List (List ℕ)) (last : Option ℕ) (kept : Option Key) → IsKept messages last kept → IsKeyOf (messages ++ []) kept
rest-key messages None None is = tt
rest-key messages None (Some key) is = absurd cc
rest-key messages (Some m) None is = absurd (let no = is.2 in cc)
rest-key messages (Some m) (Some key) is = (is.0, (m, get-more messages [] m is.0 is.1), same-key key (key_of is.0) is.2)
  where
    same-key : (j k : Key) → Some j ≡ Some k → j ≡ k
    same-key j k e = cc

-- ---- both

rest-past : (near far : Who) (first far_first : StationState) (check : Check) (may far_may : Allowance) (s : LineState) (lines : List Line) → Rests check may s.a.end → Rests check far_may s.b.end → (h : Holds near far first far_first s lines)
    → ArePast (left_behind first h.sent h.heard) (left_behind far_first h.far_sent h.far_heard)
rest-past near far first far_first check may far_may s lines a b h = record {
  within = way-within h.far_sent (lane_of s.b.lane) s.a.end.receiver.kept h.heard h.back;
  far_within = way-within h.sent (lane_of s.a.lane) s.b.end.receiver.kept h.far_heard h.way;
  even = rest-even first s.a.end.host h.sent h.heard h.hosts a.none_waits;
  far_even = rest-even far_first s.b.end.host h.far_sent h.far_heard h.far_hosts b.none_waits;
}

flows-rest : (near far : Who) (first far_first : StationState) (check : Check) (may far_may : Allowance) (s : LineState) (lines : List Line) → HaveRoom may far_may → s.deceived ≡ 0 → s.a.lane ≡ [] → s.b.lane ≡ [] → Rests check may s.a.end → Rests check far_may s.b.end → (h : Holds near far first far_first s lines)
    → Flows near far (left_behind first h.sent h.heard) (left_behind far_first h.far_sent h.far_heard) s none_late no_damages lines
flows-rest near far first far_first check may far_may s lines rooms honest lane back a b h = record {
  sent = [];
  heard = [];
  far_sent = [];
  far_heard = [];
  allowed = may;
  far_allowed = far_may;
  rooms = rooms;
  past = rest-past near far first far_first check may far_may s lines a b h;
  end = rest-end first check may s.a.end h.sent h.heard a h.hosts h.sends h.waits h.few;
  far_end = rest-end far_first check far_may s.b.end h.far_sent h.far_heard b h.far_hosts h.far_sends h.far_waits h.far_few;
  marks = record { hits = 0; last_hit = false };
  far_marks = record { hits = 0; last_hit = false };
  flow = rw (lane, back) (rest-flow check may far_may s.a.end s.b.end a b);
  far_flow = rw (lane, back) (rest-flow check far_may may s.b.end s.a.end b a);
  kept = rest-key h.sent h.way.last s.b.end.receiver.kept h.way.keeps;
  far_kept = rest-key h.far_sent h.back.last s.a.end.receiver.kept h.back.keeps;
  damage = damage-none s.a.end.mouth.begun s.a.end.sender.limits.max_naks s.b.end.receiver.decoding s.a.lane;
  far_damage = damage-none s.b.end.mouth.begun s.b.end.sender.limits.max_naks s.a.end.receiver.decoding s.b.lane;
  tells = record { executes = h.far_told.executes ∙ ap (filter is_command) (sym (append-nil h.heard)) };
  far_tells = record { executes = h.told.executes ∙ ap (filter is_command) (sym (append-nil h.far_heard)) };
  honest = honest;
}

-- ---- a run up to there

-- how many replies an end may have waiting, and how many commands it may have out
abbrev pub allowance : EndPlan → Allowance
allowance plan = record { room = plan.room; window = plan.window }

-- at least one command may be out, of each source
record IsFit (plan : EndPlan) : Type 0 where
  window : 1 ≤ plan.window
  per_source : 1 ≤ plan.per_source

fit-plan : (who : Who) (plan : EndPlan) → IsPlanOf who plan → IsFit plan
fit-plan who plan p = record { window = (p.settings Window).0; per_source = (p.settings PerSource).0 }

fit-at-first : (ends : List EndPlan) → AreEnds ends → (a b : EndPlan) → IsFit (slice_index_or ends 0 a) × IsFit (slice_index_or ends 1 b)
fit-at-first [] ends a b = absurd ends
fit-at-first (x ∷ []) ends a b = absurd ends
fit-at-first (x ∷ y ∷ []) ends a b = (fit-plan A x ends.0, fit-plan B y ends.1)
fit-at-first (x ∷ y ∷ z ∷ more) ends a b = absurd ends

idle-phase : (p : Phase) → not (has_message p) ≡ true → p ≡ phase.Idle
idle-phase phase.Idle is = refl
idle-phase phase.Sending is = absurd cc
idle-phase phase.Waiting is = absurd cc

between-outside : (at : Standing) → is_between at ≡ true → IsOutside at
between-outside Outside is = tt
between-outside (Ended body) is = tt
between-outside AfterDle is = absurd cc
between-outside (Inside so_far) is = absurd cc
between-outside (InsideDle so_far) is = absurd cc
between-outside (AtCheck so_far bytes) is = absurd cc

rests : (who : Who) (check : Check) (first : StationState) (may : Allowance) (side : LineEndState) (lines : List Line) (bytes : List ℕ) → is_resting side ≡ true → GivesNothing node_host side.end → side.end.receiver.decoding.check ≡ check → IsAllowed may side.end.host → Gave who check first side lines bytes
    → Rests check may side.end
rests who check first may side lines bytes resting gives hears allowed g =
    let parts = both (not (holds_message side.end)) (is_between side.end.receiver.decoding.standing) resting in
    let idle = idle-phase (phase_of side.end.sender) parts.0 in
    let nothing = gives.idle (λ waits. let no : phase.Waiting ≡ phase.Idle = sym waits ∙ idle in cc) in
    record {
      speaks = g.on_wire.at.1;
      hears = hears;
      chooses = gives.chooses;
      idle = idle;
      between = between-outside side.end.receiver.decoding.standing parts.1;
      none_waits = (next-parts side.end.host nothing.1).0;
      holds = (reached-carries node_host node_keeps side.end g.reached).holds;
      allowed = allowed;
    }

-- what an end had handed out and accepted after the events of a run
pub record IsReached (script : Script) (s : LineState) (lines : List Line) : Type 0 where
  pub of_a : Origin
  pub of_b : Origin
  pub hosts : Hosts (first_station (plan_of_a script)) s.a.end.host of_a.sent of_a.heard
  pub far_hosts : Hosts (first_station (plan_of_b script)) s.b.end.host of_b.sent of_b.heard
  pub executed : executed_in A lines ≡ filter is_command of_a.heard
  pub far_executed : executed_in B lines ≡ filter is_command of_b.heard
  pub flows : Flows A B of_a of_b s none_late no_damages lines

-- from a state at rest on the line goes on as from the first
pub from-rest : (script : Script) (front rest : List Event) → IsPlayable script → script.events ≡ front ++ rest → HasRooms script → is_at_rest (state_after (start script) front) ≡ true → (state_after (start script) front).deceived ≡ 0
    → IsReached script (state_after (start script) front) (lines_after (start script) front)
from-rest script front rest playable is rooms at_rest honest =
    let a = first_station (plan_of_a script) in
    let b = first_station (plan_of_b script) in
    let s = state_after (start script) front in
    let lines = lines_after (start script) front in
    let may = allowance (plan_of_a script) in
    let far_may = allowance (plan_of_b script) in
    let played = front-plays script front rest playable is in
    let h = holds-run (record script { events = front }) played honest in
    let fit = fit-at-first script.ends playable.ends (first_plan A 0) (first_plan B 1) in
    let allowed = allowed-events may far_may front (start script) (record { a = record { room = refl; window = refl; per_source = fit.0.per_source }; b = record { room = refl; window = refl; per_source = fit.1.per_source } }) in
    let sent = run-sent (record script { events = front }) played in
    let hears_a = run-stands-a (record script { events = front }) played in
    let hears_b = run-stands-b (record script { events = front }) played in
    let parts = both (is_quiet s) (is_resting s.a && is_resting s.b) at_rest in
    let ends = both (is_resting s.a) (is_resting s.b) parts.1 in
    let still = quiet-still s parts.0 in
    let rests_a = rests A script.check a may s.a lines _ ends.0 still.gives (ap (λ (d : Decoding). d.check) hears_a.decodes.is) allowed.a sent.of_near in
    let rests_b = rests B script.check b far_may s.b lines _ ends.1 still.far_gives (ap (λ (d : Decoding). d.check) hears_b.decodes.is) allowed.b sent.of_far in
    record {
      of_a = left_behind a h.sent h.heard;
      of_b = left_behind b h.far_sent h.far_heard;
      hosts = h.hosts;
      far_hosts = h.far_hosts;
      executed = h.far_told.executes;
      far_executed = h.told.executes;
      flows = flows-rest A B a b script.check may far_may s lines (record { near_room = rooms.of_a; far_room = rooms.of_b; near_some = fit.0.window; far_some = fit.1.window }) honest still.lane still.back rests_a rests_b h;
    }
