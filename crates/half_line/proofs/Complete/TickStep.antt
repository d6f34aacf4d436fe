-- A unit of time passes in an undisturbed run: a wait goes on, and an idle master polls, or has a message to give.
use Rattle.std.proofs.Common.{◌≡◌, ◌∙◌, ℕ, ◌+◌, ◌<◌, Bool, true, false, List, [], ◌++◌, length, get_or, map, min, Option, Some, None, refl, ap, ap₂, sym, subst, arith}
use Rattle.std.specs.Prelude.{slice_get, if◌then◌else◌}
use Rattle.std.specs.Option.{option_map}
use Rattle.std.proofs.Math.Nat.{min-le_left, min-le_right}
use Rattle.std.proofs.lemmas.List.{length-map}
use Rattle.std.proofs.lemmas.Option.{slice_get-map, slice_get_within, slice_get-get_or}
use Rattle.std.specs.List.{list_all}
use Rattle.std.specs.Prelude.{is_none, ◌&&◌}
use Rattle.df1_node.specs.Initiator.{InitiatorState}
use Rattle.df1_node.specs.Node.{NodeState, next_body, after_tick}
use Rattle.half_frame.specs.Spelling.{poll_bytes, unmarked}
use Rattle.half_mouth.specs.Giving.{give, is_done}
use Rattle.half_master.specs.declared.MasterSetup.{MasterSetup}
use Rattle.half_master.specs.declared.stations.Station.{Station}
use Rattle.half_master.specs.Emission.{Tick as TickLetter}
use Rattle.half_master.specs.Stations.{numbers_of}
use Rattle.half_master.specs.Master as master
use Rattle.half_master.specs.Master.{MasterState, with_host, polled, master_after_tick, turn_at_tick, gone_at_tick}
use Rattle.half_master.proofs.Changes.{TickLeaves, tick-giving, tick-ready, tick-polls}
use Rattle.half_master.proofs.Runs.{signal-setup}
use Rattle.script_statement.specs.declared.who.Who.TheVariants.{M}
use Rattle.replay_report.specs.declared.record.Line.{Line}
use Rattle.each_once.specs.NodeHost.{node_host}
use Rattle.each_once.proofs.Sublists.{from-map}
use Rattle.half_line.specs.Behind.{plain_node}
use Rattle.half_line.specs.Acts.{LineStationState, HalfState, Tick, master_lines, after_master_deed}
use Rattle.half_line.specs.Steps.{AtMaster}
use Rattle.half_line.specs.Prompt.{is_idle, is_quiet, late_after, patience}
use Rattle.half_line.proofs.Once.Invariant.{number-at, other-number}
use Rattle.half_line.proofs.Once.QuietLines.{tick-silent}
use Rattle.half_line.proofs.Complete.Stages.{Awaited, Polling, Now, Idles, Awaits, Stage, Idling, Awaiting, expects-busy, both}
use Rattle.half_line.proofs.Complete.StageBegins.{poll-begins}
use Rattle.half_line.proofs.Complete.StageTicks.{stage-alike, expects-same, tick-waited}
use Rattle.half_line.proofs.Complete.StagePlaces.{awaits-busy}
use Rattle.half_line.proofs.Complete.QuietLine.{done-left}
use Rattle.half_line.proofs.Complete.Origin.{Origin}
use Rattle.half_line.proofs.Complete.Dealings.{ticked_all}
use Rattle.half_line.proofs.Complete.Ledger.{Ledger, ledger-alone, ledger-lines, ledger-polls}
use Rattle.half_line.proofs.Complete.Turns.{after_turn}
use Rattle.half_line.proofs.Complete.Invariant.{Course}
use Rattle.half_line.proofs.Complete.LineFacts.{Known}

-- the course after a tick that leaves this master: of the commands that are executed and answered nothing is told
left-course : (origin : Origin) (m after : MasterState NodeState) (stations : List LineStationState) (late : ℕ) (lines : List Line) (lost : List ℕ) → TickLeaves node_host m after lost → Course origin after stations late lines → Course origin (master_after_tick node_host m) stations late (lines ++ master_lines plain_node m Tick)
left-course origin m after stations late lines lost t c =
    subst (λ (e : MasterState NodeState). Course origin e stations late (lines ++ master_lines plain_node m Tick)) (sym t.master)
    (record { now = c.now; stage = c.stage; ledger = ledger-lines (master_lines plain_node m Tick) (λ number. tick-silent number M (turn_at_tick node_host m) (gone_at_tick node_host m)) c.ledger })

-- ---- while something is awaited

-- the line isn't quiet after the tick either
still-by : (s : HalfState NodeState) (late place : ℕ) (awaited : Awaited) (done : Bool) → is_done s.master.mouth ≡ done → Awaiting late s.master s.stations place awaited → is_quiet (after_master_deed plain_node s Tick) ≡ true → ⊥
still-by s late place awaited false gives a quiet =
    awaits-busy late s place awaited a (ap (λ (m : MasterState NodeState). is_none (master.out_at_take node_host m) && list_all is_idle s.stations) (sym (tick-giving node_host s.master gives).master) ∙ quiet)
still-by s late place awaited true done a quiet =
    expects-busy s.master s.stations place awaited (done-left s.master.mouth.left done) a.expects
    (both (is_none (master.out_at_take node_host (master_after_tick node_host s.master))) (list_all is_idle s.stations) quiet).1

not-true : (b : Bool) → (b ≡ true → ⊥) → b ≡ false
not-true true not = absurd (not refl)
not-true false not = refl

-- so it was late
late-one : (s : HalfState NodeState) (late place : ℕ) (awaited : Awaited) → Awaiting late s.master s.stations place awaited → late_after late s (AtMaster Tick) ≡ late + 1
late-one s late place awaited a =
    let before = not-true (is_quiet s) (λ quiet. awaits-busy late s place awaited a quiet) in
    let after = not-true (is_quiet (after_master_deed plain_node s Tick)) (λ quiet. still-by s late place awaited (is_done s.master.mouth) refl a quiet) in
    ap₂ (λ (x y : Bool). if x then 0 else (if y then late else late + 1)) after before

few-left : (n a b : ℕ) → n < min a b → (n < a) × (n < b)
few-left n a b few = let left = min-le_left a b in let right = min-le_right a b in (omega (arith, few, left), omega (arith, few, right))

waiting-tick : (origin : Origin) (s : HalfState NodeState) (late : ℕ) (lines : List Line) (place : ℕ) (awaited : Awaited) → late_after late s (AtMaster Tick) < patience (after_master_deed plain_node s Tick) → Awaiting late s.master s.stations place awaited
    → Ledger origin s.master.host.initiator s.master.stations s.stations lines (Awaits place awaited) s.master.next → Course origin (master_after_tick node_host s.master) s.stations (late_after late s (AtMaster Tick)) (lines ++ master_lines plain_node s.master Tick)
waiting-tick origin s late lines place awaited few a l =
    let m = s.master in
    let now = Awaits place awaited in
    let one = late-one s late place awaited a in
    let setup = signal-setup node_host m TickLetter in
    let few_now : late + 1 < min m.setup.ack_ticks m.setup.poll_ticks = subst (λ (n : ℕ). n < min m.setup.ack_ticks m.setup.poll_ticks) one (subst (λ (x : MasterSetup). late_after late s (AtMaster Tick) < min x.ack_ticks x.poll_ticks) setup few) in
    let each = few-left (late + 1) m.setup.ack_ticks m.setup.poll_ticks few_now in
    let w = tick-waited late m place awaited each.0 each.1 a.waits in
    let stage : Stage (late + 1) w.after s.stations now = record { waits = w.waits; expects = expects-same m w.after s.stations place awaited w.alike a.expects } in
    let course : Course origin w.after s.stations (late + 1) lines = record {
      now = now;
      stage = stage;
      ledger = subst (λ (listed : List Station). Ledger origin w.after.host.initiator listed s.stations lines now w.after.next) (sym w.stations_are)
          (subst (λ (node : NodeState). Ledger origin node.initiator m.stations s.stations lines now w.after.next) (sym w.host)
          (subst (λ (next : ℕ). Ledger origin m.host.initiator m.stations s.stations lines now next) (sym w.next_is) l));
    } in
    subst (λ (n : ℕ). Course origin (master_after_tick node_host m) s.stations n (lines ++ master_lines plain_node m Tick)) (sym one) (left-course origin m w.after s.stations (late + 1) lines [] w.leaves course)

-- ---- where nothing is awaited

-- the tick doesn't reach the host
same-tick : (origin : Origin) (m : MasterState NodeState) (stations : List LineStationState) (other : ℕ) (lines : List Line) → TickLeaves node_host m m [] → Idling m stations
    → Ledger origin m.host.initiator m.stations stations lines Idles m.next → Course origin (master_after_tick node_host m) stations other (lines ++ master_lines plain_node m Tick)
same-tick origin m stations other lines t idling l =
    let course : Course origin m stations other lines = record { now = Idles; stage = idling; ledger = l } in
    left-course origin m m stations other lines [] t course

-- it does, and a station is polled, if there is one
polls-course : (origin : Origin) (e : MasterState NodeState) (i : InitiatorState) (stations : List LineStationState) (other : ℕ) (lines : List Line) (o : Option Station) → slice_get e.stations e.next ≡ o → numbers_of e.stations ≡ origin.setting.numbers → map (λ (x : LineStationState). x.number) stations ≡ origin.setting.numbers → e.mouth.left ≡ [] → Idling e stations
    → e.host.initiator ≡ ticked_all i → Ledger origin i e.stations stations lines Idles e.next → Course origin (polled e o) stations other lines
polls-course origin e i stations other lines None is list_is numbers_are given idling ticked l = record {
  now = Idles;
  stage = idling;
  ledger = subst (λ (x : InitiatorState). Ledger origin x e.stations stations lines Idles e.next) (sym ticked) (ledger-alone (λ p side at. none-listed (l.turn p (within p side at))) l);
}
  where
    within : (p : ℕ) (side : LineStationState) → slice_get stations p ≡ Some side → p < length origin.setting.numbers
    within p side at = slice_get_within origin.setting.numbers p side.number (number-at origin.setting.numbers stations p side numbers_are at)

    none-listed : e.next < length origin.setting.numbers → ⊥
    none-listed inside =
        let some = slice_get-get_or origin.setting.numbers e.next 0 inside in
        let none : slice_get origin.setting.numbers e.next ≡ None = ap (λ (ns : List ℕ). slice_get ns e.next) (sym list_is) ∙ slice_get-map (λ (x : Station). x.number) e.stations e.next ∙ ap (option_map (λ (x : Station). x.number)) is in
        let clash : None ≡ Some (get_or origin.setting.numbers e.next 0) = sym none ∙ some in cc
polls-course origin e i stations other lines (Some station) is list_is numbers_are given idling ticked l =
    let number : slice_get origin.setting.numbers e.next ≡ Some station.number = ap (λ (ns : List ℕ). slice_get ns e.next) (sym list_is) ∙ slice_get-map (λ (x : Station). x.number) e.stations e.next ∙ ap (option_map (λ (x : Station). x.number)) is in
    let side = from-map (λ (x : LineStationState). x.number) stations e.next station.number (ap (λ (ns : List ℕ). slice_get ns e.next) numbers_are ∙ number) in
    let after = polled e (Some station) in
    let expects = poll-begins e after stations e.next side.0 given idling.outside idling.rest side.1
    (λ p far there differ same. other-number origin.setting stations e.next p side.0.number far numbers_are (number-at origin.setting.numbers stations e.next side.0 numbers_are side.1) there differ (sym same))
    refl (ap (λ (n : ℕ). give e.mouth (unmarked (poll_bytes n))) (sym side.2)) in
    let count : length origin.setting.numbers ≡ length e.stations = ap length (sym list_is) ∙ length-map e.stations (λ (x : Station). x.number) in
    record {
      now = Awaits e.next Polling;
      stage = record { waits = record { left = e.setup.poll_ticks; phase = refl; patient = omega arith }; expects = expects };
      ledger = subst (λ (x : InitiatorState). Ledger origin x e.stations stations lines (Awaits e.next Polling) after.next) (sym ticked)
          (subst (λ (n : ℕ). Ledger origin (ticked_all i) e.stations stations lines (Awaits e.next Polling) (after_turn n e.next)) count
          (ledger-polls (λ p far at. slice_get_within origin.setting.numbers p far.number (number-at origin.setting.numbers stations p far numbers_are at)) l));
    }

polls-tick : (origin : Origin) (m : MasterState NodeState) (stations : List LineStationState) (other : ℕ) (lines : List Line) → Known origin m stations lines → is_done m.mouth ≡ true → next_body m.host ≡ None → Idling m stations
    → Ledger origin m.host.initiator m.stations stations lines Idles m.next → Course origin (master_after_tick node_host m) stations other (lines ++ master_lines plain_node m Tick)
polls-tick origin m stations other lines k gives next idling l =
    let e : MasterState NodeState = with_host m (after_tick m.host) in
    let after = polled e (slice_get m.stations m.next) in
    let still = stage-alike 0 m e stations Idles (record { ear = refl; mouth = refl; sending = refl }) refl refl idling in
    left-course origin m after stations other lines _ (tick-polls node_host m gives idling.idle next)
    (polls-course origin e m.host.initiator stations other lines (slice_get m.stations m.next) refl k.list_is k.numbers_are (done-left m.mouth.left gives) still refl l)

idle-tick : (origin : Origin) (m : MasterState NodeState) (stations : List LineStationState) (other : ℕ) (lines : List Line) (given : Bool) (next : Option (List ℕ)) → is_done m.mouth ≡ given → next_body m.host ≡ next → Known origin m stations lines
    → Idling m stations → Ledger origin m.host.initiator m.stations stations lines Idles m.next → Course origin (master_after_tick node_host m) stations other (lines ++ master_lines plain_node m Tick)
idle-tick origin m stations other lines false next gives is k idling l = same-tick origin m stations other lines (tick-giving node_host m gives) idling l
idle-tick origin m stations other lines true (Some body) gives is k idling l = same-tick origin m stations other lines (tick-ready node_host m body gives idling.idle is) idling l
idle-tick origin m stations other lines true None gives is k idling l = polls-tick origin m stations other lines k gives is idling l

-- ---- whatever is awaited

pub course-tick : (origin : Origin) (s : HalfState NodeState) (late : ℕ) (lines : List Line) → Known origin s.master s.stations lines → late_after late s (AtMaster Tick) < patience (after_master_deed plain_node s Tick) → Course origin s.master s.stations late lines
    → Course origin (master_after_tick node_host s.master) s.stations (late_after late s (AtMaster Tick)) (lines ++ master_lines plain_node s.master Tick)
course-tick origin s late lines k patient c = by-now c.now c.stage c.ledger
  where
    by-now : (now : Now) → Stage late s.master s.stations now → Ledger origin s.master.host.initiator s.master.stations s.stations lines now s.master.next
        → Course origin (master_after_tick node_host s.master) s.stations (late_after late s (AtMaster Tick)) (lines ++ master_lines plain_node s.master Tick)
    by-now Idles stage l = idle-tick origin s.master s.stations (late_after late s (AtMaster Tick)) lines (is_done s.master.mouth) (next_body s.master.host) refl refl k stage l
    by-now (Awaits place awaited) stage l = waiting-tick origin s late lines place awaited patient stage l
