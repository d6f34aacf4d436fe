-- A half-duplex run: what the master has to wait for, over the lines of the report; and in the end, where enough drained ticks came, nothing.
use Rattle.std.proofs.Common.{◌≡◌, ◌∙◌, inr, ℕ, zero, suc, ◌+◌, ◌*◌, List, [], ◌∷◌, ◌++◌, length, map, Option, Some, None, refl, sym, ap, subst, arith, add-zero, append-nil, append_assoc}
use Rattle.std.specs.Prelude.{All, replicate, slice_get, slice_index_or, unwrap_or}
use Rattle.std.proofs.Math.Nat.{mul-suc, suc-mul}
use Rattle.std.proofs.lemmas.List.{length-append, length-map, map-append}
use Rattle.std.proofs.lemmas.List.Elements.{All-head, All-tail, filter_map-append}
use Rattle.df1_check.specs.declared.Check.{Check}
use Rattle.df1_node.specs.Initiator.{Issued}
use Rattle.pccc_envelope.specs.Envelope.{is_reply}
use Rattle.df1_node.specs.Node.{NodeState}
use Rattle.each_once.specs.Commands.{AreOutcomesTold}
use Rattle.each_once.specs.NodeHost.{node_host}
use Rattle.each_once.specs.Tells.{executed_at, executed_in}
use Rattle.each_once.proofs.SentAndExecuted.{ExecuteNothing, tick-execute, sent-execute, step-other, step-own, command_at_act}
use Rattle.each_once.proofs.IssuedCommands.{SameCommands, same-itself, same-both, same-accept, same-told, same-tick, same-next}
use Rattle.end_settings.specs.declared.key.EndKey.TheVariants.{AckTicks, PerSource, PollTicks, ReplyTicks, Window}
use Rattle.half_frame.specs.declared.heard.MasterHeard.{MasterHeard}
use Rattle.half_frame.specs.declared.heard.MasterHeard.TheVariants as heard
use Rattle.half_line.specs.Acts.{LineStationState, HalfState, LinkState, LinkDeed, Issue, Give, Tick, StationGives, OnLane, Deliver, Lose, Alter, Foreign, moved, lane_of, arriving, master_after, master_lines, after_arrival, arrival_lines, after_link_deed, link_lines, step_of, body_heard}
use Rattle.half_line.specs.Behind.{plain_node}
use Rattle.half_line.specs.declared.way.Way.{Way}
use Rattle.half_line.specs.declared.way.Way.TheVariants.{ToStation, ToMaster}
use Rattle.half_line.specs.Issues.{bodies_of, commands_of_m}
use Rattle.half_line.specs.Run.{master_setup, plan_of_m, station_at, number_of, station_between, way_from, place_of, steps_of, after_event, giver, lines_of, state_after, lines_after, start, last_state, record_of}
use Rattle.half_line.specs.Steps.{UnitStep, AtMaster, AtStation, link_of, after_with, after_step, lines_with, lines_at, bytes_over, after_steps, lines_over}
use Rattle.half_line.proofs.Once.MasterCommands.{issued-run}
use Rattle.half_line.proofs.Once.MasterOutcomes.{outcomes-run}
use Rattle.half_line.proofs.Once.WholeRun.{IsPlain, ArePlain, plain-with, plain-master, plain-take}
use Rattle.half_master.specs.Master.{MasterState, with_byte, heard_at, body_of, act_of, act_heard, effect_of_byte, step_at_byte, master_after_byte, master_after_tick, master_after_take, turn_at_tick, gone_at_tick}
use Rattle.half_master.specs.declared.table.Effect.{Effect}
use Rattle.half_master.specs.declared.table.Effect.TheVariants as effect
use Rattle.half_line.proofs.Wire.MasterEnd.{did-as-node}
use Rattle.half_master.proofs.Seen.{at-byte, lent-after}
use Rattle.half_master.proofs.HostSteps.{Keeps, byte-keeps, tick-keeps, take-keeps}
use Rattle.lane_cells.specs.Cells.{LaneCell}
use Rattle.replay_report.specs.declared.record.Line.{Line}
use Rattle.replay_report.specs.Report.{sent_lines}
use Rattle.report_lines.specs.NodeLines.{step_lines}
use Rattle.script_parts.specs.declared.script.EndPlan.{EndPlan}
use Rattle.script_parts.specs.declared.script.Event.{Event}
use Rattle.script_parts.specs.declared.script.Event.TheVariants as event
use Rattle.script_parts.specs.declared.script.Script.{Script}
use Rattle.script_parts.specs.HalfPlayable.{AreHalfEnds, IsHalfPlayable, IsHalfPossible, numbers_of}
use Rattle.script_parts.specs.Plans.{first_plan}
use Rattle.script_parts.specs.Playable.{IsPlanOf}
use Rattle.script_statement.specs.declared.who.Who.TheVariants.{M, S}
use Rattle.run_laws.specs.Bounds.{polled_message_ticks, polled_command_ticks, AreToldIn, AtMaster as IsToldAtMaster}
use Rattle.run_laws.specs.Drained.{drained_at_master, drained_at_step, drained_over_steps, master_drained_with, master_drained_after, drained_ticks_of_master}
use Rattle.run_laws.proofs.NodeAccount.{add-times, known-at, reply-count}
use Rattle.run_laws.proofs.MasterAccount.{Figures, AreFigures, Account, Due, account-issue, account-take, account-byte, account-tick, executes, all-over}

-- ---- the commands that the master executes at a byte

-- what is heard alone is no command
heard-count : (what : Option MasterHeard) (body : List ℕ) → length (command_at_act (act_heard what) body) ≡ 0
heard-count None body = refl
heard-count (Some heard.Good) body = refl
heard-count (Some heard.Damaged) body = refl
heard-count (Some heard.Ack) body = refl
heard-count (Some heard.Nak) body = refl
heard-count (Some heard.Eot) body = refl
heard-count (Some (heard.Stray b)) body = refl
heard-count (Some (heard.StrayPair c)) body = refl

effect-count : (what : Effect) (heard : Option MasterHeard) (body : List ℕ) → length (command_at_act (act_of what heard) body) ≡ executes what body
effect-count (effect.Accepted place) heard body = reply-count (is_reply body) body
effect-count effect.Nothing heard body = heard-count heard body
effect-count (effect.Waits left) heard body = heard-count heard body
effect-count effect.Delivered heard body = heard-count heard body
effect-count (effect.Again resent) heard body = heard-count heard body
effect-count effect.GivenUp heard body = heard-count heard body
effect-count effect.PollOver heard body = heard-count heard body
effect-count effect.Repeated heard body = refl
effect-count effect.Refused heard body = refl
effect-count effect.Damaged heard body = refl
effect-count effect.Polls heard body = heard-count heard body

byte-count : (m : MasterState NodeState) (b : ℕ) → length (executed_in M (step_lines M (step_at_byte node_host m b) (body_of (master_after_byte node_host m b)))) ≡ executes (effect_of_byte node_host m b) (body_of (with_byte m b))
byte-count m b =
    let step = step_at_byte node_host m b in
    let body = body_of (with_byte m b) in
    ap length (ap (λ (told : List ℕ). executed_in M (step_lines M step told)) (lent-after node_host m b) ∙ step-own M refl step m.host body [] [] (did-as-node m b (at-byte node_host m b)) refl)
    ∙ effect-count (effect_of_byte node_host m b) (heard_at m b) body

-- ---- the master

-- what all commands that were issued so far, and all that were executed, may take
abbrev whole : Figures → ℕ → ℕ → ℕ
whole f issued executed = issued * f.command + executed * f.message

-- the master, with what it has to wait for, by its commands, the lines so far, and the drained ticks since its last command
record Stands (f : Figures) (m : MasterState NodeState) (drained : ℕ) (lines : List Line) : Type 0 where
  account : Account f m (whole f (length (bodies_of m)) (length (executed_in M lines))) drained

stands-silent : (f : Figures) (m : MasterState NodeState) (drained : ℕ) (lines more : List Line) → ExecuteNothing M more → Stands f m drained lines → Stands f m drained (lines ++ more)
stands-silent f m drained lines more none s = record {
  account = subst (λ (xs : List (List ℕ)). Account f m (whole f (length (bodies_of m)) (length xs)) drained)
      (sym (filter_map-append (executed_at M) lines more ∙ ap (λ (xs : List (List ℕ)). executed_in M lines ++ xs) none ∙ append-nil (executed_in M lines))) s.account;
}

-- a master whose commands have the same bodies
stands-same : (f : Figures) (m now : MasterState NodeState) (drained total : ℕ) (lines : List Line) → SameCommands m.host.initiator now.host.initiator → total ≡ whole f (length (bodies_of m)) (length (executed_in M lines)) → Account f now total drained → Stands f now drained lines
stands-same f m now drained total lines same is a = record {
  account = subst (λ (n : ℕ). Account f now n drained) (is ∙ ap (λ (bodies : List (List ℕ)). whole f (length bodies) (length (executed_in M lines))) (sym same.bodies)) a;
}

plain-calls : Keeps node_host (λ (host later : NodeState). SameCommands host.initiator later.initiator)
plain-calls = record {
  same = λ host. same-itself host.initiator;
  both = λ host later last. same-both host.initiator later.initiator last.initiator;
  accept = same-accept;
  told = λ host what. same-told what host;
  next = same-next;
  tick = same-tick;
}

stands-byte : (f : Figures) → AreFigures f → (m : MasterState NodeState) (b drained : ℕ) (lines : List Line) → Stands f m drained lines → Stands f (master_after_byte node_host m b) drained (lines ++ step_lines M (step_at_byte node_host m b) (body_of (master_after_byte node_host m b)))
stands-byte f are m b drained lines s =
    let after = master_after_byte node_host m b in
    let more = step_lines M (step_at_byte node_host m b) (body_of after) in
    let n = executes (effect_of_byte node_host m b) (body_of (with_byte m b)) in
    let executed = length (executed_in M lines) in
    let count : length (executed_in M (lines ++ more)) ≡ executed + n = ap length (filter_map-append (executed_at M) lines more) ∙ length-append (executed_in M lines) (executed_in M more) ∙ ap (λ (k : ℕ). executed + k) (byte-count m b) in
    let sum : whole f (length (bodies_of m)) executed + n * f.message ≡ whole f (length (bodies_of m)) (length (executed_in M (lines ++ more))) =
    (let parts = add-times executed n f.message in omega (arith, parts)) ∙ ap (λ (k : ℕ). whole f (length (bodies_of m)) k) (sym count) in
    stands-same f m after drained (whole f (length (bodies_of m)) executed + n * f.message) (lines ++ more) (byte-keeps node_host _ plain-calls m b) sum
    (account-byte f are m b (whole f (length (bodies_of m)) executed) drained s.account)

stands-arrival : (f : Figures) → AreFigures f → (way : Way) (s t : LinkState NodeState) (o : Option LaneCell) (drained : ℕ) (lines : List Line) → t.master ≡ s.master → Stands f s.master drained lines → Stands f (after_arrival plain_node way t o).master drained (lines ++ arrival_lines plain_node way s o)
stands-arrival f are way s t None drained lines same st = rw (append-nil lines) (subst (λ (m : MasterState NodeState). Stands f m drained lines) (sym same) st)
stands-arrival f are ToStation s t (Some cell) drained lines same st =
    subst (λ (m : MasterState NodeState). Stands f m drained (lines ++ arrival_lines plain_node ToStation s (Some cell))) (sym same)
    (stands-silent f s.master drained lines (arrival_lines plain_node ToStation s (Some cell)) (step-other M (S s.side.number) refl (step_of plain_node ToStation s cell) (body_heard plain_node ToStation s cell)) st)
stands-arrival f are ToMaster s t (Some cell) drained lines same st =
    subst (λ (m : MasterState NodeState). Stands f (master_after_byte node_host m cell.byte) drained (lines ++ arrival_lines plain_node ToMaster s (Some cell))) (sym same) (stands-byte f are s.master cell.byte drained lines st)

stands-link : (f : Figures) → AreFigures f → (s : LinkState NodeState) (deed : LinkDeed) (drained : ℕ) (lines : List Line) → Stands f s.master drained lines → Stands f (after_link_deed plain_node s deed).master drained (lines ++ link_lines plain_node s deed)
stands-link f are s StationGives drained lines st = rw (append-nil lines) st
stands-link f are s (OnLane way deed) drained lines st = stands-arrival f are way s (moved way s deed) (arriving (lane_of way s.side) deed) drained lines refl st

stands-with : (f : Figures) → AreFigures f → (s : HalfState NodeState) (place : ℕ) (deed : LinkDeed) (o : Option LineStationState) (drained : ℕ) (lines : List Line) → Stands f s.master drained lines → Stands f (after_with plain_node s place deed o).master drained (lines ++ lines_with plain_node s deed o)
stands-with f are s place deed None drained lines st = rw (append-nil lines) st
stands-with f are s place deed (Some side) drained lines st = stands-link f are (link_of s side) deed drained lines st

stands-step : (f : Figures) → AreFigures f → (step : UnitStep) → IsPlain step → (s : HalfState NodeState) (drained : ℕ) (lines : List Line) → Stands f s.master drained lines
    → Stands f (after_step plain_node s step).master (drained + drained_at_step s step) (lines ++ lines_at plain_node s step)
stands-step f are (AtMaster (Issue src dst payload)) plain s drained lines st = absurd plain
stands-step f are (AtMaster Give) plain s drained lines st =
    rw (append-nil lines, add-zero drained) (stands-same f s.master (master_after_take node_host s.master) drained _ lines (take-keeps node_host _ plain-calls s.master) refl (account-take f are s.master _ drained st.account))
stands-step f are (AtMaster Tick) plain s drained lines st =
    stands-silent f (master_after_tick node_host s.master) (drained + drained_at_master s.master Tick) lines (master_lines plain_node s.master Tick) (tick-execute M M (turn_at_tick node_host s.master) (gone_at_tick node_host s.master))
    (stands-same f s.master (master_after_tick node_host s.master) (drained + drained_at_master s.master Tick) _ lines (tick-keeps node_host _ plain-calls s.master) refl (account-tick f are s.master _ drained st.account))
stands-step f are (AtStation place deed) plain s drained lines st = rw (add-zero drained) (stands-with f are s place deed (slice_get s.stations place) drained lines st)

stands-steps : (f : Figures) → AreFigures f → (steps : List UnitStep) → ArePlain steps → (s : HalfState NodeState) (drained : ℕ) (lines : List Line) → Stands f s.master drained lines
    → Stands f (after_steps plain_node s steps).master (drained + drained_over_steps s steps) (lines ++ lines_over plain_node s steps)
stands-steps f are [] plain s drained lines st = rw (append-nil lines, add-zero drained) st
stands-steps f are (step ∷ steps) plain s drained lines st =
    let sum : drained + drained_at_step s step + drained_over_steps (after_step plain_node s step) steps ≡ drained + drained_over_steps s (step ∷ steps) = omega arith in
    subst (λ (all : List Line). Stands f (after_steps plain_node s (step ∷ steps)).master (drained + drained_over_steps s (step ∷ steps)) all) (append_assoc lines (lines_at plain_node s step) (lines_over plain_node (after_step plain_node s step) steps))
    (subst (λ (n : ℕ). Stands f (after_steps plain_node s (step ∷ steps)).master n ((lines ++ lines_at plain_node s step) ++ lines_over plain_node (after_step plain_node s step) steps)) sum
    (stands-steps f are steps plain.1 (after_step plain_node s step) (drained + drained_at_step s step) (lines ++ lines_at plain_node s step) (stands-step f are step plain.0 s drained lines st)))

-- ---- events

plain-event : (f : Figures) → AreFigures f → (s : HalfState NodeState) (e : Event) (drained : ℕ) (lines : List Line) → ArePlain (steps_of s e) → Stands f s.master drained lines → Stands f (after_event plain_node s e).master (drained + drained_over_steps s (steps_of s e)) (lines ++ lines_of plain_node s e)
plain-event f are s e drained lines plain st =
    let over = lines_over plain_node s (steps_of s e) in
    let sent = sent_lines (giver (station_at e)) (bytes_over plain_node s (steps_of s e)) in
    let count = drained + drained_over_steps s (steps_of s e) in
    subst (λ (all : List Line). Stands f (after_event plain_node s e).master count all) (append_assoc lines over sent)
    (stands-silent f (after_event plain_node s e).master count (lines ++ over) sent (sent-execute M (giver (station_at e)) (bytes_over plain_node s (steps_of s e))) (stands-steps f are (steps_of s e) plain s drained lines st))

stands-issue : (f : Figures) (m : MasterState NodeState) (src : Option ℕ) (dst : ℕ) (payload : List ℕ) (drained : ℕ) (lines : List Line) → Stands f m drained lines → Stands f (master_after plain_node m (Issue src dst payload)) 0 lines
stands-issue f m src dst payload drained lines st =
    let now = master_after plain_node m (Issue src dst payload) in
    let n = length (bodies_of m) in
    let count : length (bodies_of now) ≡ suc n = ap length (map-append (λ (c : Issued). c.body) m.host.initiator.issued _) ∙ length-append (bodies_of m) _ ∙ (let e : n + 1 ≡ suc n = omega arith in e) in
    record {
      account = subst (λ (total : ℕ). Account f now total 0)
          ((let more = suc-mul n f.command in omega (arith, more)) ∙ ap (λ (k : ℕ). whole f k (length (executed_in M lines))) (sym count))
          (account-issue f m (unwrap_or src m.host.initiator.node) dst payload _ drained st.account);
    }

stands-event : (f : Figures) → AreFigures f → (numbers : List ℕ) (e : Event) (s : HalfState NodeState) (drained : ℕ) (lines : List Line) → IsHalfPossible numbers e → Stands f s.master drained lines → Stands f (after_event plain_node s e).master (master_drained_with drained s e) (lines ++ lines_of plain_node s e)
stands-event f are numbers (event.Issue who src dst payload) s drained lines may st = rw (append-nil lines) (stands-issue f s.master src dst payload drained lines st)
stands-event f are numbers (event.Take who n) s drained lines may st = plain-event f are s (event.Take who n) drained lines (plain-take s.stations who n (number_of who)) st
stands-event f are numbers (event.Deliver lane n) s drained lines may st =
    plain-event f are s (event.Deliver lane n) drained lines (plain-with (place_of s.stations (station_between lane.from lane.to)) (replicate n (OnLane (way_from lane.from) Deliver))) st
stands-event f are numbers (event.Lose lane n) s drained lines may st =
    plain-event f are s (event.Lose lane n) drained lines (plain-with (place_of s.stations (station_between lane.from lane.to)) (replicate n (OnLane (way_from lane.from) Lose))) st
stands-event f are numbers (event.Alter lane mask) s drained lines may st =
    plain-event f are s (event.Alter lane mask) drained lines (plain-with (place_of s.stations (station_between lane.from lane.to)) (OnLane (way_from lane.from) (Alter mask) ∷ [])) st
stands-event f are numbers (event.Foreign lane bytes) s drained lines may st =
    plain-event f are s (event.Foreign lane bytes) drained lines (plain-with (place_of s.stations (station_between lane.from lane.to)) (map (λ byte. OnLane (way_from lane.from) (Foreign byte)) bytes)) st
stands-event f are numbers (event.Tick who n) s drained lines may st = plain-event f are s (event.Tick who n) drained lines (plain-master Tick tt n) st

stands-events : (f : Figures) → AreFigures f → (numbers : List ℕ) (events : List Event) (s : HalfState NodeState) (drained : ℕ) (lines : List Line) → All (IsHalfPossible numbers) events → Stands f s.master drained lines
    → Stands f (state_after plain_node s events).master (master_drained_after drained s events) (lines ++ lines_after plain_node s events)
stands-events f are numbers [] s drained lines possible st = rw (append-nil lines) st
stands-events f are numbers (e ∷ events) s drained lines possible st =
    subst (λ (all : List Line). Stands f (state_after plain_node (after_event plain_node s e) events).master (master_drained_after drained s (e ∷ events)) all) (append_assoc lines (lines_of plain_node s e) (lines_after plain_node (after_event plain_node s e) events))
    (stands-events f are numbers events (after_event plain_node s e) (master_drained_with drained s e) (lines ++ lines_of plain_node s e) (All-tail (IsHalfPossible numbers) e events possible)
    (stands-event f are numbers e s drained lines (All-head (IsHalfPossible numbers) e events possible) st))

-- ---- a run

abbrev figures_of : Check → EndPlan → Figures
figures_of check plan = record { setup = master_setup check plan; reply_ticks = plan.reply_ticks; message = polled_message_ticks plan; command = polled_command_ticks plan }

are-figures : (check : Check) (plan : EndPlan) → IsPlanOf M plan → AreFigures (figures_of check plan)
are-figures check plan p =
    let some_ack = (p.settings AckTicks).0 in
    let some_poll = (p.settings PollTicks).0 in
    let some_reply = (p.settings ReplyTicks).0 in
    record {
      some_ack = some_ack;
      some_poll = some_poll;
      some_reply = (omega (arith, some_reply));
      waits = (let one = mul-suc plan.ack_ticks plan.max_resends in let e : plan.max_resends + 1 ≡ suc plan.max_resends = omega arith in let same = ap (λ (n : ℕ). plan.ack_ticks * n) e in omega (arith, one, same));
      of_command = omega arith;
    }

stands-first : (script : Script) → IsPlanOf M (plan_of_m script) → Stands (figures_of script.check (plan_of_m script)) (start script).master 0 []
stands-first script p =
    let f = figures_of script.check (plan_of_m script) in
    let m = (start script).master in
    let none = whole f 0 0 in
    let due : Due f m.phase m.host none = record { most = 0; left = tt; out = tt; all = omega arith } in
    record {
      account = record {
        has = record { setup_is = refl; reply_ticks = refl; window = (p.settings Window).0; per_source = (p.settings PerSource).0 };
        whole = due;
        spent = inr (none, due, omega arith);
      };
    }

told-all : (f : Figures) → AreFigures f → (issued : List (List ℕ)) (m : MasterState NodeState) (drained : ℕ) (lines : List Line) → bodies_of m ≡ issued → AreOutcomesTold M m.host.initiator.issued lines → Stands f m drained lines → AreToldIn M f.command f.message issued drained lines
told-all f are issued m drained lines same outcomes s enough zero some within = absurd (omega (arith, some))
told-all f are issued m drained lines same outcomes s enough (suc k) some within =
    let count = ap length same in
    let times = ap (λ (n : ℕ). n * f.command) count in
    let over = all-over f are m (whole f (length (bodies_of m)) (length (executed_in M lines))) drained (omega (arith, enough, times)) s.account in
    let length_is = length-map m.host.initiator.issued (λ (c : Issued). c.body) in
    λ none. known-at m.host.initiator.issued k over (omega (arith, within, count, length_is)) (sym (outcomes (suc k)) ∙ none)

master-plan : (ends : List EndPlan) → AreHalfEnds ends → (other : EndPlan) → IsPlanOf M (slice_index_or ends 0 other)
master-plan [] are other = absurd are
master-plan (master ∷ stations) are other = are.0

pub told-at-master : (script : Script) → IsHalfPlayable script → IsToldAtMaster script (record_of script)
unfolding record_of
told-at-master script playable =
    let plan = master-plan script.ends playable.ends (first_plan M 0) in
    let f = figures_of script.check (plan_of_m script) in
    let are = are-figures script.check (plan_of_m script) plan in
    let last = stands-events f are (numbers_of script.ends) script.events (start script) 0 [] playable.events (stands-first script plan) in
    told-all f are (commands_of_m script) (last_state script).master (drained_ticks_of_master script) (lines_after plain_node (start script) script.events) (issued-run script).bodies (outcomes-run script playable) last
