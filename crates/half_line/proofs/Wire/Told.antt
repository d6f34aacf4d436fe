-- What each end sent in a run is DF1, as the report tells it.
use Rattle.std.proofs.Common.{◌≡◌, ◌∙◌, ℕ, suc, ◌≤◌, Bool, true, false, cond, List, [], ◌∷◌, length, map, not, Some, refl, sym, ap, subst, arith}
use Rattle.std.specs.Prelude.{All, slice_get, slice_index, slice_index_or}
use Rattle.std.specs.List.{filter}
use Rattle.std.specs.Option.{option_map}
use Rattle.std.proofs.lemmas.List.Elements.{All-nil}
use Rattle.std.proofs.lemmas.Option.{slice_get-map, slice_get-get_or, get_or_from_slice_get, slice_get_within}
use Rattle.df1_check.specs.declared.Check.{Check}
use Rattle.end_settings.specs.declared.key.EndKey.TheVariants.{AckTicks, PollTicks}
use Rattle.pccc_envelope.specs.Envelope.{is_reply, tns_of}
use Rattle.df1_node.specs.Answer.{StationState}
use Rattle.df1_node.specs.Node.{NodeState, holds_bodies}
use Rattle.half_frame.specs.MasterGives.{IsGivenByMaster}
use Rattle.half_frame.specs.SlaveGives.{IsGivenBySlave}
use Rattle.half_slave.specs.Past as slave_past
use Rattle.half_slave.proofs.Giving as slave_giving
use Rattle.half_slave.proofs.Reaching.{KeepsBodies as SlaveKeeps}
use Rattle.half_master.specs.Past as master_past
use Rattle.half_master.specs.Master.{MasterState}
use Rattle.half_master.proofs.Giving as master_giving
use Rattle.df1_node.specs.HostLaws.{next_is_body, bodies_at_accept, bodies_at_next, bodies_at_told, bodies_at_clear}
use Rattle.script_statement.specs.declared.who.Who.TheVariants.{M, S}
use Rattle.script_parts.specs.declared.script.EndPlan.{EndPlan}
use Rattle.script_parts.specs.declared.script.Script.{Script}
use Rattle.script_parts.specs.Plans.{first_plan}
use Rattle.script_parts.specs.Playable.{IsPlanOf}
use Rattle.script_parts.specs.HalfPlayable.{AreHalfEnds, IsHalfPlayable, IsStationPlan, station_plans, numbers_of}
use Rattle.replay_report.specs.declared.record.Record.{Record}
use Rattle.outset.specs.Outset.{first_station, first_node}
use Rattle.report_lines.specs.SentBytes.{sent_by}
use Rattle.each_once.specs.BySource.{AreOnceOf}
use Rattle.each_once.specs.Commands.{is_command}
use Rattle.each_once.specs.Direction.{AreSomeOf}
use Rattle.each_once.specs.Exchanges.{replies_to}
use Rattle.each_once.specs.NodeHost.{node_host}
use Rattle.each_once.specs.Tells.{executed_in}
use Rattle.each_once.proofs.AcceptedReplies.{handed-differ}
use Rattle.each_once.proofs.AnsweringStation.{serves-start, sent-within, sent-replies, within-through}
use Rattle.each_once.proofs.HandedOrder.{none-in-turn}
use Rattle.each_once.proofs.HandedOut.{waits_of}
use Rattle.each_once.proofs.NodeSteps.{hosts-start}
use Rattle.each_once.proofs.OwnKeys.{own-keys}
use Rattle.each_once.proofs.RisingPlaces.{some-of, some-in-turn}
use Rattle.each_once.proofs.StationReplies.{exchanges-tns}
use Rattle.each_once.proofs.Sublists.{Has, IsWithin, nothing, skips, keeps, within-all, within-front, within-filter, from-map, Differ, differ-within}
use Rattle.half_line.specs.Behind.{plain_node}
use Rattle.half_line.specs.Acts.{LineStationState}
use Rattle.half_line.specs.Issues.{commands_of_m, issued_of}
use Rattle.half_line.specs.Run.{master_setup, slave_setup, first_side, plan_of_m, start, last_state, lines_after, record_from}
use Rattle.half_line.specs.Wire.{IsDf1Wire, IsStationWire, AreDf1Wires}
use Rattle.half_line.proofs.Once.EachStation.{side-numbers}
use Rattle.half_line.proofs.Steps.FirstState.{half-listed, half-stations}
use Rattle.half_line.proofs.Wire.MasterEnd.{MasterGave, node_keeps}
use Rattle.half_line.proofs.Wire.OwnKeys.{run-numbered}
use Rattle.half_line.proofs.Wire.StationEnd.{StationGave}
use Rattle.half_line.proofs.Wire.WholeRun.{Setting, LinesGave, events-gave}

pub slave_keeps : SlaveKeeps node_host
slave_keeps = record { next_is = next_is_body; at_accept = bodies_at_accept; at_next = bodies_at_next; at_told = bodies_at_told; at_clear = bodies_at_clear }

-- ---- parts of lists

filter-within : (t : List ℕ → Bool) (xs : List (List ℕ)) → IsWithin (filter t xs) xs
filter-within t [] = nothing
filter-within t (x ∷ xs) = by-test (t x) x (filter t xs) xs (filter-within t xs)
  where
    by-test : (b : Bool) (x : List ℕ) (xs ys : List (List ℕ)) → IsWithin xs ys → IsWithin (cond b (x ∷ xs) xs) (x ∷ ys)
    by-test true x xs ys h = keeps x xs ys h
    by-test false x xs ys h = skips x xs ys h

-- where all are replies, none is a command
no-commands : (xs : List (List ℕ)) → ((x : List ℕ) → Has xs x → is_reply x ≡ true) → filter is_command xs ≡ []
no-commands [] all = refl
no-commands (x ∷ xs) all =
    let reply : is_reply x ≡ true = all x (0, refl) in
    let rest = no-commands xs (λ y has. all y (suc has.0, has.1)) in
    rw (ap not reply) rest

-- ---- the ends

-- replies to nothing are none; and those to commands with different numbers have different numbers
no-replies : (first : StationState) (replies executed : List (List ℕ)) → IsWithin replies (replies_to first executed) → executed ≡ [] → Differ (map tns_of replies)
no-replies first replies executed within none =
    differ-within tns_of replies [] (subst (λ (l : List (List ℕ)). IsWithin replies (replies_to first l)) none within) tt

replies-differ : (first : StationState) (replies executed : List (List ℕ)) → IsWithin replies (replies_to first executed) → Differ (map tns_of executed) → Differ (map tns_of replies)
replies-differ first replies executed within differ =
    differ-within tns_of replies (replies_to first executed) within (subst Differ (sym (exchanges-tns first executed)) differ)

master-wire : (check : Check) (first : StationState) (e : MasterState NodeState) (r : Record) → (r.deceived ≡ 0 → (length (issued_of e) ≤ 65535) × (executed_in M r.lines ≡ [])) → MasterGave check first e r.lines (sent_by M r.lines)
    → IsDf1Wire (IsGivenByMaster check) M (map (λ c. c.body) (issued_of e)) first r
master-wire check first e r undeceived g =
    let past = g.past in
    let handed = master_past.handed_out past.events in
    let executed = filter is_command g.heard in
    let wire = master_giving.came-wire node_host node_keeps past e g.came in
    let commands = within-filter is_command handed g.messages g.within in
    let made : IsWithin (filter is_reply g.messages) (replies_to first executed) =
    subst (λ (l : List (List ℕ)). IsWithin (filter is_reply g.messages) l) (sym g.hosts.replies) (within-front (filter is_reply g.messages) (filter is_reply g.messages) e.host.replies (within-all (filter is_reply g.messages))) in
    let replies = within-through (filter is_reply handed) (filter is_reply g.messages) (replies_to first executed) (within-filter is_reply handed g.messages g.within) made in
    record {
      messages = handed;
      df1 = rw (g.check_is, g.gave) at wire;
      commands_once = some-in-turn (filter is_command handed) (filter is_command g.messages) (map (λ c. c.body) (issued_of e)) (waits_of (issued_of e)) commands g.hosts.initiates.in_order;
      replies_in_order = subst (λ (l : List (List ℕ)). AreSomeOf (filter is_reply handed) (replies_to first l)) (sym g.executed) (some-of (filter is_reply handed) (replies_to first executed) replies);
      own_keys = λ zero. own-keys handed
          (differ-within tns_of (filter is_command handed) (filter is_command g.messages) commands (handed-differ e.host.initiator (filter is_command g.messages) g.heard g.hosts.initiates (undeceived zero).0))
          (no-replies first (filter is_reply handed) executed replies (sym g.executed ∙ (undeceived zero).1));
    }

station-wire : (check : Check) (first : StationState) (side : LineStationState) (r : Record) → (r.deceived ≡ 0 → Differ (map tns_of (executed_in (S side.number) r.lines)))
    → StationGave check first side.number side.slave r.lines (sent_by (S side.number) r.lines) → IsDf1Wire (IsGivenBySlave check) (S side.number) [] first r
station-wire check first side r undeceived g =
    let past = g.past in
    let handed = slave_past.handed_out past.events in
    let executed = executed_in (S side.number) r.lines in
    let wire = slave_giving.came-wire node_host slave_keeps past side.slave g.came in
    let none = no-commands handed (λ x has. (sent-replies x g.serves has).is_a_reply) in
    let replies = within-through (filter is_reply handed) handed (replies_to first executed) (filter-within is_reply handed) (sent-within g.serves) in
    record {
      messages = handed;
      df1 = rw (g.check_is, g.gave) at wire;
      commands_once = subst (λ (l : List (List ℕ)). AreOnceOf l []) (sym none) (some-in-turn [] [] [] [] nothing none-in-turn);
      replies_in_order = some-of (filter is_reply handed) (replies_to first executed) replies;
      own_keys = λ zero. own-keys handed (subst (λ (l : List (List ℕ)). Differ (map tns_of l)) (sym none) tt) (replies-differ first (filter is_reply handed) executed replies (undeceived zero));
    }

-- ---- the beginning

-- the station that was declared at a place
abbrev pub plan_at : Script → ℕ → EndPlan
plan_at script p = slice_index_or (station_plans script.ends) p (first_plan M 0)

abbrev pub setting_of : (script : Script) → IsHalfPlayable script → Setting
setting_of script playable = record {
  check = script.check;
  of_master = first_station (plan_of_m script);
  first = λ p. first_station (plan_at script p);
  numbers = numbers_of script.ends;
  distinct = (half-listed script.ends playable.ends).distinct;
}

-- a node that has done nothing holds bodies
first-holds : (plan : EndPlan) → length plan.block ≤ 244 → holds_bodies (first_node plan)
first-holds plan few = (All-nil _, All-nil _, few)

plan-of-master : (ends : List EndPlan) (d : EndPlan) → AreHalfEnds ends → IsPlanOf M (slice_index_or ends 0 d)
plan-of-master [] d h = absurd h
plan-of-master (master ∷ stations) d h = h.0

pub start-came : (script : Script) → IsHalfPlayable script → master_past.Came node_host master_past.no_past (start script).master
start-came script playable =
    let plan = plan_of_m script in
    let of_m = plan-of-master script.ends (first_plan M 0) playable.ends in
    master_past.begins (master_setup script.check plan) (numbers_of script.ends) (first_node plan) (record { ack_ticks = (of_m.settings AckTicks).0; poll_ticks = (of_m.settings PollTicks).0 }) (half-listed script.ends playable.ends) (first-holds plan of_m.block)

start-master : (script : Script) (playable : IsHalfPlayable script) → MasterGave script.check (first_station (plan_of_m script)) (start script).master [] []
start-master script playable =
    let plan = plan_of_m script in
    record {
      past = master_past.no_past;
      messages = [];
      heard = [];
      came = start-came script playable;
      check_is = refl;
      gave = refl;
      hosts = hosts-start (first_station plan) (first_node plan) refl refl refl;
      within = nothing;
      executed = refl;
    }

start-station : (check : Check) (plan : EndPlan) → length plan.block ≤ 244 → StationGave check (first_station plan) plan.node (first_side check plan).slave [] []
start-station check plan few = record {
  past = slave_past.no_past;
  came = slave_past.begins (slave_setup check plan) (first_node plan) (first-holds plan few);
  check_is = refl;
  gave = refl;
  serves = serves-start (first_station plan) (first_node plan) refl refl refl;
}

all-get : (plans : List EndPlan) (p : ℕ) (plan : EndPlan) → All IsStationPlan plans → slice_get plans p ≡ Some plan → IsStationPlan plan
all-get plans p plan all at =
    let inside = slice_get_within plans p plan at in
    subst IsStationPlan (get_or_from_slice_get plans p plan plan at) (all p plan inside)

-- the station of a plan has done nothing at first
pub station-came : (script : Script) (playable : IsHalfPlayable script) (p : ℕ) (plan : EndPlan) → slice_get (station_plans script.ends) p ≡ Some plan → slave_past.Came node_host slave_past.no_past (first_side script.check plan).slave
station-came script playable p plan at =
    slave_past.begins (slave_setup script.check plan) (first_node plan) (first-holds plan (all-get (station_plans script.ends) p plan (half-stations script.ends playable.ends) at).block)

start-gave : (script : Script) (playable : IsHalfPlayable script) → LinesGave (setting_of script playable) (start script) []
start-gave script playable = record {
  master = start-master script playable;
  numbers_are = side-numbers script.check (station_plans script.ends);
  stations = λ p side at.
      let plans = station_plans script.ends in
      let plan = from-map (first_side script.check) plans p side at in
      let is : plan_at script p ≡ plan.0 = get_or_from_slice_get plans p plan.0 (first_plan M 0) plan.1 in
      let fits : length plan.0.block ≤ 244 = (all-get plans p plan.0 (half-stations script.ends playable.ends) plan.1).block in
      subst (λ (x : LineStationState). StationGave script.check (first_station (plan_at script p)) x.number x.slave [] []) plan.2
      (subst (λ (x : EndPlan). StationGave script.check (first_station x) plan.0.node (first_side script.check plan.0).slave [] []) (sym is) (start-station script.check plan.0 fits));
}

-- ---- the whole

-- what the ends gave in a run
pub gave-run : (script : Script) (playable : IsHalfPlayable script) → LinesGave (setting_of script playable) (last_state script) (lines_after plain_node (start script) script.events)
gave-run script playable = events-gave (setting_of script playable) (numbers_of script.ends) script.events (start script) [] playable.events (omega (arith, playable.commands)) (start-gave script playable)

-- the station of a plan
at-plan : (script : Script) (playable : IsHalfPlayable script) (stations : List LineStationState) (r : Record) (p : ℕ) (plan : EndPlan) → map (λ (side : LineStationState). side.number) stations ≡ numbers_of script.ends → slice_get (station_plans script.ends) p ≡ Some plan
    → (r.deceived ≡ 0 → (p : ℕ) (side : LineStationState) → slice_get stations p ≡ Some side → Differ (map tns_of (executed_in (S side.number) r.lines)))
    → ((p : ℕ) (side : LineStationState) → slice_get stations p ≡ Some side → StationGave script.check (first_station (plan_at script p)) side.number side.slave r.lines (sent_by (S (slice_index (numbers_of script.ends) p)) r.lines))
    → IsStationWire script r plan
at-plan script playable stations r p plan are at undeceived all =
    let plans = station_plans script.ends in
    let number : slice_get (numbers_of script.ends) p ≡ Some plan.node = slice_get-map (λ (x : EndPlan). x.node) plans p ∙ ap (option_map (λ (x : EndPlan). x.node)) at in
    let side = from-map (λ (x : LineStationState). x.number) stations p plan.node (ap (λ ns. slice_get ns p) are ∙ number) in
    let index : slice_index (numbers_of script.ends) p ≡ side.0.number = get_or_from_slice_get (numbers_of script.ends) p plan.node 0 number ∙ sym side.2 in
    let first : plan_at script p ≡ plan = get_or_from_slice_get plans p plan (first_plan M 0) at in
    let gave = subst (λ (n : ℕ). StationGave script.check (first_station (plan_at script p)) side.0.number side.0.slave r.lines (sent_by (S n) r.lines)) index (all p side.0 side.1) in
    let wire = station-wire script.check (first_station (plan_at script p)) side.0 r (λ zero. undeceived zero p side.0 side.1) gave in
    subst (λ (n : ℕ). IsDf1Wire (IsGivenBySlave script.check) (S n) [] (first_station plan) r) side.2
    (subst (λ (x : EndPlan). IsDf1Wire (IsGivenBySlave script.check) (S side.0.number) [] (first_station x) r) first wire)

pub all-df1 : (script : Script) → IsHalfPlayable script → map (λ c. c.body) (issued_of (last_state script).master) ≡ commands_of_m script → AreDf1Wires script (record_from plain_node (last_state script) (lines_after plain_node (start script) script.events))
all-df1 script playable bodies =
    let s = last_state script in
    let lines = lines_after plain_node (start script) script.events in
    let r = record_from plain_node s lines in
    let plans = station_plans script.ends in
    let first = first_station (plan_of_m script) in
    let g = gave-run script playable in
    record {
      of_master = subst (λ (all : List (List ℕ)). IsDf1Wire (IsGivenByMaster script.check) M all first r) bodies
          (master-wire script.check first s.master r (λ zero. ((run-numbered script playable zero).few, (run-numbered script playable zero).none)) g.master);
      of_stations = λ k d inside. at-plan script playable s.stations r k (slice_index_or plans k d) g.numbers_are (slice_get-get_or plans k d inside) (λ zero. (run-numbered script playable zero).differ) g.stations;
    }
