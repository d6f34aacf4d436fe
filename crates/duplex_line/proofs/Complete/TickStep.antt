-- A unit of time passes, in a run that nothing disturbs; and what is so where nothing is under way.
use Rattle.std.proofs.Common.{◌≡◌, ◌∙◌, ℕ, ◌+◌, ◌-◌, ◌<◌, ◌≤◌, Bool, true, false, List, [], ◌∷◌, ◌++◌, length, Option, Some, None, is_none, min, refl, sym, subst, arith, append-nil}
use Rattle.std.specs.Prelude.{◌⊎◌, slice_get, ◌&&◌, if◌then◌else◌}
use Rattle.std.specs.List.{filter}
use Rattle.std.proofs.Common.{inl, inr}
use Rattle.df1_node.specs.Initiator.{InitiatorState, next_command}
use Rattle.df1_base.specs.declared.host.Fate.{Fate}
use Rattle.df1_base.specs.declared.host.Fate.TheVariants as fate
use Rattle.df1_base.specs.HostAnswers.{host_told}
use Rattle.df1_node.specs.declared.handed.Handed.{Handed}
use Rattle.df1_node.specs.declared.handed.Handed.TheVariants as handed
use Rattle.df1_node.specs.Node.{NodeState, next_body, initiator_after, after_tick as node_ticked}
use Rattle.duplex_sender.specs.declared.Limits.{Limits}
use Rattle.duplex_sender.specs.declared.Phase.TheVariants as phase
use Rattle.duplex_sender.specs.Sender.{Activity, Idle, Sending, Waiting as Awaiting, phase_of, tick_turn}
use Rattle.duplex_end.specs.End.{EndState, fate_of_tick, out_at_take, turn_at_tick, gone_at_tick}
use Rattle.script_statement.specs.declared.who.Who.{Who}
use Rattle.replay_report.specs.declared.record.Line.{Line}
use Rattle.lane_cells.specs.Cells.{LaneCell}
use Rattle.each_once.specs.NodeHost.{node_host}
use Rattle.report_lines.specs.NodeLines.{turn_lines, gone_lines}
use Rattle.duplex_line.specs.Acts.{LineState, Tick, after_deed, lines_at}
use Rattle.duplex_line.proofs.Once.IssueLimits.{tick-commands}
use Rattle.each_once.proofs.Sublists.{none-is}
use Rattle.duplex_line.proofs.Once.SentMessages.{Sends, sends-tick}
use Rattle.each_once.proofs.HandedOut.{is_command}
use Rattle.each_once.proofs.NodeSteps.{hosts-tick}
use Rattle.each_once.proofs.CommandBodies.{bodies-after_tick}
use Rattle.duplex_line.proofs.Once.LineSteps.{tick-silent}
use Rattle.duplex_line.specs.Prompt.{Late, none_late, is_idle, is_quiet, late_with, late_after, AreFew, patience}
use Rattle.duplex_line.specs.Recoverable.{Damages}
use Rattle.duplex_line.proofs.Complete.MessageUnderWay.{Flow, Marks, awaits, IsPatient, IsSteady, ticked, steadied, tick-steady, ticked-awaits, flow-ticks, far-ticks, flow-late}
use Rattle.duplex_line.proofs.Complete.QuietEnd.{GivesNothing, gives-nothing, awaits-none, never-waits, all-heard}
use Rattle.each_once.proofs.CommandsUnderWay.{AreUnderWay, under-way-tick, under-way-later, under-way-rests}
use Rattle.each_once.proofs.RepliesSince.{AreReplies}
use Rattle.each_once.proofs.TwoNodes.{all-answered}
use Rattle.each_once.proofs.MessageLengths.{AreBodies}
use Rattle.duplex_line.proofs.Complete.ToldMessages.{TellsOf, tells-silent}
use Rattle.duplex_line.proofs.Once.Settings.{Allowance}
use Rattle.duplex_line.proofs.Complete.Invariant.{Origin, station_from, is_later, IsAhead, IsEnd, Flows, replies-of}

-- ---- nothing is under way

pub both : (a b : Bool) → (a && b) ≡ true → (a ≡ true) × (b ≡ true)
both true true h = (refl, refl)
both true false h = absurd cc
both false b h = absurd cc

nothing-on : (cells : List LaneCell) → slice_get cells 0 ≡ None → cells ≡ []
nothing-on [] is = refl
nothing-on (cell ∷ cells) is = absurd cc

-- the parts of a state in which nothing is under way
pub record IsStill (s : LineState) : Type 0 where
  pub lane : s.a.lane ≡ []
  pub back : s.b.lane ≡ []
  pub gives : GivesNothing node_host s.a.end
  pub far_gives : GivesNothing node_host s.b.end

pub quiet-still : (s : LineState) → is_quiet s ≡ true → IsStill s
quiet-still s quiet =
    let ends = both (is_idle s.a) (is_idle s.b) quiet in
    let a = both (is_none (slice_get s.a.lane 0)) (is_none (out_at_take node_host s.a.end)) ends.0 in
    let b = both (is_none (slice_get s.b.lane 0)) (is_none (out_at_take node_host s.b.end)) ends.1 in
    record {
      lane = nothing-on s.a.lane (none-is (slice_get s.a.lane 0) a.0);
      back = nothing-on s.b.lane (none-is (slice_get s.b.lane 0) b.0);
      gives = gives-nothing node_host s.a.end (none-is (out_at_take node_host s.a.end) a.1);
      far_gives = gives-nothing node_host s.b.end (none-is (out_at_take node_host s.b.end) b.1);
    }

-- a node that has nothing to hand out
pub next-parts : (node : NodeState) → next_body node ≡ None → (node.replies ≡ []) × (next_command node.initiator ≡ None)
next-parts node none = by-replies node.replies refl
  where
    by-replies : (replies : List (List ℕ)) → node.replies ≡ replies → (node.replies ≡ []) × (next_command node.initiator ≡ None)
    by-replies [] is = (is, rw is at none)
    by-replies (r ∷ rs) is = absurd (let no : Some r ≡ None = rw is at none in cc)

replies-none : (node : NodeState) → next_body (node_ticked node) ≡ None → node.replies ≡ []
replies-none node none = (next-parts (node_ticked node) none).0

-- where all was heard and no reply waits, all commands that were handed out are answered
none-out : (first far_first : Origin) (station : NodeState) (s : InitiatorState) (sent heard commands told : List (List ℕ)) (late : ℕ) → AreReplies (station_from first) sent heard station.replies → commands ≡ heard → sent ≡ told → station.replies ≡ []
    → (a : IsAhead far_first s (filter is_command commands) told late) → a.done ≡ length (filter is_command commands)
none-out first far_first station s sent heard commands told late replied all_heard all_told none a = all-answered (station_from first) sent heard station.replies commands told replied all_heard all_told none a.done a.answers

-- ---- the two ends at rest

awaits-trivial : (a : Activity) (ticks late : ℕ) → awaits a ≡ 0 → IsPatient ticks late a
awaits-trivial Idle ticks late none = tt
awaits-trivial (Sending body naks enqs) ticks late none = tt
awaits-trivial (Awaiting body naks enqs left) ticks late none = absurd (omega (arith, none))

awaits-steady : (a : Activity) → awaits a ≡ 0 → IsSteady a
awaits-steady Idle none = tt
awaits-steady (Sending body naks enqs) none = tt
awaits-steady (Awaiting body naks enqs left) none = absurd (omega (arith, none))

-- neither end awaits a response or has a message to send, all messages were heard, and no command is out
pub record AreAtRest (near far : Who) (first far_first : Origin) (s : LineState) (late : Late) (dam : Damages) (lines : List Line) (h : Flows near far first far_first s late dam lines) : Type 0 where
  pub awaits_none : awaits s.a.end.sender.activity ≡ 0
  pub far_awaits_none : awaits s.b.end.sender.activity ≡ 0
  pub none_out : h.end.ahead.done ≡ length (filter is_command h.sent)
  pub far_none_out : h.far_end.ahead.done ≡ length (filter is_command h.far_sent)
  pub all_heard : h.sent ≡ h.far_heard
  pub far_all_heard : h.far_sent ≡ h.heard
  pub nothing_waits : (s.a.end.host.replies ≡ []) × (next_command s.a.end.host.initiator ≡ None)
  pub far_nothing_waits : (s.b.end.host.replies ≡ []) × (next_command s.b.end.host.initiator ≡ None)

-- two ends of which nothing is on its way and that choose nothing
lanes-empty : (a b : EndState NodeState) (lane back : List LaneCell) (sent heard : List (List ℕ)) (late : ℕ) (marks : Marks) → lane ≡ [] → back ≡ [] → Flow a b lane back sent heard late marks → Flow a b [] [] sent heard late marks
lanes-empty a b lane back sent heard late marks is is_back f = subst (λ (x : List LaneCell). Flow a b x [] sent heard late marks) is (subst (λ (x : List LaneCell). Flow a b lane x sent heard late marks) is_back f)

pub at-rest : (near far : Who) (first far_first : Origin) (s : LineState) (late : Late) (dam : Damages) (lines : List Line) (h : Flows near far first far_first s late dam lines) → IsStill s → AreAtRest near far first far_first s late dam lines h
at-rest near far first far_first s late dam lines h still =
    let a = s.a.end in
    let b = s.b.end in
    let f = lanes-empty a b s.a.lane s.b.lane h.sent h.far_heard late.a h.marks still.lane still.back h.flow in
    let g = lanes-empty b a s.b.lane s.a.lane h.far_sent h.heard late.b h.far_marks still.back still.lane h.far_flow in
    let none = awaits-none a b h.far_sent h.heard h.sent h.far_heard late.a late.b h.marks h.far_marks f g still.far_gives.chooses in
    let far_none = awaits-none b a h.sent h.far_heard h.far_sent h.heard late.b late.a h.far_marks h.marks g f still.gives.chooses in
    let idle = still.gives.idle (never-waits a.sender none) in
    let far_idle = still.far_gives.idle (never-waits b.sender far_none) in
    let all = all-heard a b [] [] h.sent h.far_heard late.a h.marks idle.0 f in
    let far_all = all-heard b a [] [] h.far_sent h.heard late.b h.far_marks far_idle.0 g in
    record {
      awaits_none = none;
      far_awaits_none = far_none;
      none_out = none-out far_first first b.host a.host.initiator h.far_sent h.far_heard h.sent h.heard late.a (replies-of far_first b.host h.far_sent h.far_heard h.past.far_even h.far_end.hosts) all far_all (next-parts b.host far_idle.1).0 h.end.ahead;
      far_none_out = none-out first far_first a.host b.host.initiator h.sent h.heard h.far_sent h.far_heard late.b (replies-of first a.host h.sent h.heard h.past.even h.end.hosts) far_all all (next-parts a.host idle.1).0 h.far_end.ahead;
      all_heard = all;
      far_all_heard = far_all;
      nothing_waits = next-parts a.host idle.1;
      far_nothing_waits = next-parts b.host far_idle.1;
    }

-- the ticks of an end are counted anew
later-end : (first : Origin) (allowed : Allowance) (e : EndState NodeState) (sent heard : List (List ℕ)) (late later : ℕ) (h : IsEnd first allowed e sent heard late) → h.ahead.done ≡ length (filter is_command sent) → IsEnd first allowed e sent heard later
later-end first allowed e sent heard late later h all = record {
  hosts = h.hosts;
  sends = h.sends;
  ahead = record { done = h.ahead.done; under_way = under-way-later (is_later first) e.host.initiator (filter is_command sent) h.ahead.done _ _ all h.ahead.under_way; answers = h.ahead.answers };
  bodies = h.bodies;
  commands = h.commands;
  allowed = h.allowed;
  block = h.block;
  few = h.few;
}

-- where nothing is under way, any number of late ticks will do
pub flows-late : (near far : Who) (first far_first : Origin) (s : LineState) (late later : Late) (dam : Damages) (lines : List Line) → IsStill s → Flows near far first far_first s late dam lines → Flows near far first far_first s later dam lines
flows-late near far first far_first s late later dam lines still h =
    let rest = at-rest near far first far_first s late dam lines h still in
    record {
      sent = h.sent;
      heard = h.heard;
      far_sent = h.far_sent;
      far_heard = h.far_heard;
      allowed = h.allowed;
      far_allowed = h.far_allowed;
      rooms = h.rooms;
      past = h.past;
      end = later-end first h.allowed s.a.end h.sent h.heard late.a later.a h.end rest.none_out;
      far_end = later-end far_first h.far_allowed s.b.end h.far_sent h.far_heard late.b later.b h.far_end rest.far_none_out;
      marks = h.marks;
      far_marks = h.far_marks;
      damage = h.damage;
      far_damage = h.far_damage;
      flow = flow-late s.a.end s.b.end s.a.lane s.b.lane h.sent h.far_heard late.a later.a h.marks (awaits-trivial s.a.end.sender.activity s.a.end.sender.limits.ack_ticks later.a rest.awaits_none) h.flow;
      far_flow = flow-late s.b.end s.a.end s.b.lane s.a.lane h.far_sent h.heard late.b later.b h.far_marks (awaits-trivial s.b.end.sender.activity s.b.end.sender.limits.ack_ticks later.b rest.far_awaits_none) h.far_flow;
      kept = h.kept;
      far_kept = h.far_kept;
      tells = h.tells;
      far_tells = h.far_tells;
      honest = h.honest;
    }

-- ---- a unit of time passes

-- no wait of the end is at its last tick: none of its commands is out, or enough ticks are left to each
pub record IsReady (activity : Activity) (commands done late ticks : ℕ) : Type 0 where
  pub steady : IsSteady activity
  pub out_steady : (done ≡ commands) ⊎ (late + 1 < ticks)

ticked-idle : (limits : Limits) (a : Activity) → phase_of (record { limits = limits; activity = ticked a }) ≡ phase.Idle → phase_of (record { limits = limits; activity = a }) ≡ phase.Idle
ticked-idle limits Idle is = refl
ticked-idle limits (Sending body naks enqs) is = absurd cc
ticked-idle limits (Awaiting body naks enqs left) is = absurd cc

-- where nothing is under way after it, nothing was before
ready-after : (near far : Who) (first far_first : Origin) (s : LineState) (late : Late) (dam : Damages) (lines : List Line) (h : Flows near far first far_first s late dam lines) → IsStill (after_deed s Tick) → IsReady s.a.end.sender.activity (length (filter is_command h.sent)) h.end.ahead.done late.a s.a.end.host.initiator.reply_ticks
ready-after near far first far_first s late dam lines h still =
    let a = s.a.end in
    let b = s.b.end in
    let f = lanes-empty a b s.a.lane s.b.lane h.sent h.far_heard late.a h.marks still.lane still.back h.flow in
    let g = lanes-empty b a s.b.lane s.a.lane h.far_sent h.heard late.b h.far_marks still.back still.lane h.far_flow in
    let none = awaits-none a b h.far_sent h.heard h.sent h.far_heard late.a late.b h.marks h.far_marks f g still.far_gives.chooses in
    let steady = awaits-steady a.sender.activity none in
    let gives = subst (λ (e : EndState NodeState). GivesNothing node_host e) (tick-steady node_host a steady) still.gives in
    let far_none = awaits-none b a h.sent h.far_heard h.far_sent h.heard late.b late.a h.far_marks h.marks g f gives.chooses in
    let idle = gives.idle (never-waits (steadied node_host a).sender (ticked-awaits a.sender.activity ∙ none)) in
    let far_idle = still.far_gives.idle (never-waits b.sender far_none) in
    let all = all-heard a b [] [] h.sent h.far_heard late.a h.marks (ticked-idle a.sender.limits a.sender.activity idle.0) f in
    let far_all = all-heard b a [] [] h.far_sent h.heard late.b h.far_marks far_idle.0 g in
    record {
      steady = steady;
      out_steady = inl (none-out far_first first b.host a.host.initiator h.far_sent h.far_heard h.sent h.heard late.a (replies-of far_first b.host h.far_sent h.far_heard h.past.far_even h.far_end.hosts) all far_all (next-parts b.host far_idle.1).0 h.end.ahead);
    }

patient-steady : (a : Activity) (ticks late : ℕ) → IsPatient ticks late a → late + 1 < ticks → IsSteady a
patient-steady Idle ticks late patient few = tt
patient-steady (Sending body naks enqs) ticks late patient few = tt
patient-steady (Awaiting body naks enqs left) ticks late patient few = omega (arith, patient, few)

-- how long a reply may take stays
told-ticks : (o : Option Fate) (node : NodeState) → (host_told node_host o node).initiator.reply_ticks ≡ node.initiator.reply_ticks
told-ticks None node = refl
told-ticks (Some fate.Delivered) node = refl
told-ticks (Some fate.Undelivered) node = last-ticks node.last
  where
    last-ticks : (last : Handed) → (initiator_after node.initiator last).reply_ticks ≡ node.initiator.reply_ticks
    last-ticks handed.Nothing = refl
    last-ticks handed.Reply = refl
    last-ticks (handed.Command place) = refl

ready-few : (near far : Who) (first far_first : Origin) (s : LineState) (late : Late) (dam : Damages) (lines : List Line) (h : Flows near far first far_first s late dam lines) → late.a + 1 < patience (after_deed s Tick).a
    → IsReady s.a.end.sender.activity (length (filter is_command h.sent)) h.end.ahead.done late.a s.a.end.host.initiator.reply_ticks
ready-few near far first far_first s late dam lines h few =
    let same = told-ticks (fate_of_tick (tick_turn s.a.end.sender)) s.a.end.host in
    let fewer : late.a + 1 < min s.a.end.sender.limits.ack_ticks s.a.end.host.initiator.reply_ticks = subst (λ (n : ℕ). late.a + 1 < min s.a.end.sender.limits.ack_ticks n) same few in
    record {
      steady = patient-steady s.a.end.sender.activity s.a.end.sender.limits.ack_ticks late.a h.flow.patient (omega (arith, fewer));
      out_steady = inr (omega (arith, fewer));
    }

tick-ready : (near far : Who) (first far_first : Origin) (s : LineState) (late : Late) (dam : Damages) (lines : List Line) (h : Flows near far first far_first s late dam lines) → (quiet after : Bool) → is_quiet s ≡ quiet → is_quiet (after_deed s Tick) ≡ after
    → AreFew (if after then none_late else late_with late quiet Tick) (after_deed s Tick) → IsReady s.a.end.sender.activity (length (filter is_command h.sent)) h.end.ahead.done late.a s.a.end.host.initiator.reply_ticks
tick-ready near far first far_first s late dam lines h true after is is_after few =
    let rest = at-rest near far first far_first s late dam lines h (quiet-still s is) in
    record { steady = awaits-steady s.a.end.sender.activity rest.awaits_none; out_steady = inl rest.none_out }
tick-ready near far first far_first s late dam lines h false true is is_after few = ready-after near far first far_first s late dam lines h (quiet-still (after_deed s Tick) is_after)
tick-ready near far first far_first s late dam lines h false false is is_after few = ready-few near far first far_first s late dam lines h few.0

-- the waits are shorter by it
ticked-patient : (a : Activity) (ticks late : ℕ) → IsPatient ticks late a → IsSteady a → IsPatient ticks (late + 1) (ticked a)
ticked-patient Idle ticks late patient steady = tt
ticked-patient (Sending body naks enqs) ticks late patient steady = tt
ticked-patient (Awaiting body naks enqs left) ticks late patient steady = omega (arith, patient, steady)

ticked-trivial : (a : Activity) (ticks late : ℕ) → awaits a ≡ 0 → IsPatient ticks late (ticked a)
ticked-trivial a ticks late none = awaits-trivial (ticked a) ticks late (ticked-awaits a ∙ none)

later-patient : (near far : Who) (first far_first : Origin) (s : LineState) (late : Late) (dam : Damages) (lines : List Line) (h : Flows near far first far_first s late dam lines) → (quiet : Bool) → is_quiet s ≡ quiet → IsSteady s.a.end.sender.activity
    → IsPatient s.a.end.sender.limits.ack_ticks (late_with late quiet Tick).a (ticked s.a.end.sender.activity)
later-patient near far first far_first s late dam lines h true is steady = ticked-trivial s.a.end.sender.activity s.a.end.sender.limits.ack_ticks late.a (at-rest near far first far_first s late dam lines h (quiet-still s is)).awaits_none
later-patient near far first far_first s late dam lines h false is steady = ticked-patient s.a.end.sender.activity s.a.end.sender.limits.ack_ticks late.a h.flow.patient steady

ticked-ahead : (first : Origin) (node : NodeState) (commands heard : List (List ℕ)) (late later : ℕ) (a : IsAhead first node.initiator commands heard late) → (a.done ≡ length commands) ⊎ ((late + 1 < node.initiator.reply_ticks) × (later ≡ late + 1)) → IsAhead first (node_ticked node).initiator commands heard later
ticked-ahead first node commands heard late later a (inl all) = record { done = a.done; under_way = under-way-rests (is_later first) node.initiator commands a.done _ _ all a.under_way; answers = a.answers }
ticked-ahead first node commands heard late later a (inr more) = record {
  done = a.done;
  under_way = subst (λ (n : ℕ). AreUnderWay (is_later first) (node_ticked node).initiator commands a.done (λ j. node.initiator.reply_ticks - n)) (sym more.1)
      (under-way-tick (is_later first) node.initiator commands a.done _ _ (λ j. let few = more.0 in (omega (arith, few), omega (arith, few))) a.under_way);
  answers = a.answers;
}

later-ready : (near far : Who) (first far_first : Origin) (s : LineState) (late : Late) (dam : Damages) (lines : List Line) (h : Flows near far first far_first s late dam lines) → (quiet : Bool) → is_quiet s ≡ quiet
    → (h.end.ahead.done ≡ length (filter is_command h.sent)) ⊎ (late.a + 1 < s.a.end.host.initiator.reply_ticks)
    → (h.end.ahead.done ≡ length (filter is_command h.sent)) ⊎ ((late.a + 1 < s.a.end.host.initiator.reply_ticks) × ((late_with late quiet Tick).a ≡ late.a + 1))
later-ready near far first far_first s late dam lines h quiet is (inl all) = inl all
later-ready near far first far_first s late dam lines h true is (inr more) = inl (at-rest near far first far_first s late dam lines h (quiet-still s is)).none_out
later-ready near far first far_first s late dam lines h false is (inr more) = inr (more, refl)

tells-tick : (who near : Who) (e : EndState NodeState) (heard : List (List ℕ)) (lines : List Line) → TellsOf who heard lines → TellsOf who heard (lines ++ ((turn_lines near (turn_at_tick node_host e) ++ gone_lines near (gone_at_tick node_host e)) ++ []))
tells-tick who near e heard lines t =
    let more = turn_lines near (turn_at_tick node_host e) ++ gone_lines near (gone_at_tick node_host e) in
    let silent = tick-silent who who near e in
    rw (append-nil more) (tells-silent who heard lines more silent.executes t)

pub flows-tick : (near far : Who) (first far_first : Origin) (s : LineState) (late : Late) (dam : Damages) (lines : List Line) → AreFew (late_after late s Tick) (after_deed s Tick) → Flows near far first far_first s late dam lines
    → Flows near far first far_first (after_deed s Tick) (late_with late (is_quiet s) Tick) dam (lines ++ lines_at near far s Tick)
flows-tick near far first far_first s late dam lines few h =
    let a = s.a.end in
    let later = late_with late (is_quiet s) Tick in
    let ready = tick-ready near far first far_first s late dam lines h (is_quiet s) (is_quiet (after_deed s Tick)) refl refl few in
    let same = tick-steady node_host a ready.steady in
    subst (λ (e : EndState NodeState). Flows near far first far_first (record { a = record { end = e; lane = s.a.lane }; b = s.b; deceived = s.deceived }) later dam (lines ++ lines_at near far s Tick)) (sym same) (record {
      sent = h.sent;
      heard = h.heard;
      far_sent = h.far_sent;
      far_heard = h.far_heard;
      allowed = h.allowed;
      far_allowed = h.far_allowed;
      rooms = h.rooms;
      past = h.past;
      end = record {
        hosts = hosts-tick h.end.hosts;
        sends = subst (λ (e : EndState NodeState). Sends e h.sent) same (sends-tick node_host a h.end.sends);
        ahead = ticked-ahead first a.host (filter is_command h.sent) h.heard late.a later.a h.end.ahead (later-ready near far first far_first s late dam lines h (is_quiet s) refl ready.out_steady);
        bodies = h.end.bodies;
        commands = subst AreBodies (sym (bodies-after_tick a.host)) h.end.commands;
        allowed = record { room = h.end.allowed.room; window = h.end.allowed.window; per_source = h.end.allowed.per_source };
        block = h.end.block;
        few = let count = tick-commands a in subst (λ (e : EndState NodeState). length e.host.initiator.issued ≤ 65535) same (omega (arith, count, h.end.few));
      };
      far_end = h.far_end;
      marks = h.marks;
      far_marks = h.far_marks;
      damage = h.damage;
      far_damage = h.far_damage;
      flow = flow-ticks node_host a s.b.end s.a.lane s.b.lane h.sent h.far_heard late.a later.a h.marks (later-patient near far first far_first s late dam lines h (is_quiet s) refl ready.steady) h.flow;
      far_flow = far-ticks node_host a s.b.end s.b.lane s.a.lane h.far_sent h.heard late.b h.far_marks h.far_flow;
      kept = h.kept;
      far_kept = h.far_kept;
      tells = tells-tick near near a (first.heard ++ h.heard) lines h.tells;
      far_tells = tells-tick far near a (far_first.heard ++ h.far_heard) lines h.far_tells;
      honest = h.honest;
    })
