-- What the statements so far say can be played.
use Rattle.std.proofs.Common.{◌≡◌, ◌⊎◌, ℕ, ◌+◌, ◌-◌, ◌<◌, ◌≤◌, Bool, true, false, not, cond, List, [], ◌∷◌, ◌++◌, length, map, set, Option, Some, None, Result, Ok, Err, is_none, refl, sym, ap, ◌∙◌, subst, inl, inr, arith, nat_eq, nat_le, nat_lt, eqb, append-nil, length-append}
use Rattle.std.specs.Prelude.{IfOk, IsTrue, ◌&&◌, ◌||◌, sum_by, count_by, option_map, unwrap_or}
use Rattle.std.specs.List.{All, AllByRecursion, IsDistinct}
use Rattle.std.specs.Option.{option_map_or, option_to_list}
use Rattle.std.proofs.lemmas.Bool.{cond_both, eqb-true}
use Rattle.std.proofs.lemmas.Bool.Decides.{nat_tests}
use Rattle.std.proofs.lemmas.List.{length-map, map_push}
use Rattle.std.proofs.lemmas.List.Elements.{All-cons, All-head, All-map, All-nil, All-push, All-tail, All-weaker}
use Rattle.std.proofs.lemmas.List.Sums.{sum_by-append}
use Rattle.end_drafts.specs.declared.flaw.Flaw.{Flaw}
use Rattle.end_drafts.specs.declared.flaw.Flaw.TheVariants as flaw
use Rattle.end_settings.specs.declared.key.EndKey.{EndKey}
use Rattle.end_settings.specs.declared.key.EndKey.TheVariants.{Node}
use Rattle.end_settings.specs.declared.row.Role.TheVariants as role
use Rattle.end_settings.specs.Given.{chosen, value_of}
use Rattle.end_settings.specs.Table.{has_key, row_of}
use Rattle.end_settings.proofs.Fitting.{Fits-chosen, fitting-same, value_of-with}
use Rattle.end_drafts.specs.declared.end_draft.EndDraft.{EndDraft}
use Rattle.end_drafts.specs.declared.stage.Stage.{Stage}
use Rattle.end_drafts.specs.declared.stage.Stage.TheVariants.{Fresh, Settings, Events, Ended}
use Rattle.end_drafts.specs.Drafts.{lacks, exceeds, node_of, repeats, with_line}
use Rattle.end_drafts.specs.Flaws.{first_of, unless_wrong}
use Rattle.end_drafts.specs.Stages.{is_fresh, is_set_up}
use Rattle.end_drafts.proofs.EndStanding.{IsRight, right_at_first, right_with_commands, right_with_line, same_commands, same_node, plan_is_right}
use Rattle.end_drafts.proofs.Ranges.{IsSound, IfSound, IfSoundEvent, IsSoundLine, IfSound-statement_of, IfSound-station_issue}
use Rattle.script_statement.specs.declared.who.Who.{Who}
use Rattle.script_statement.specs.declared.who.Who.TheVariants.{M, S}
use Rattle.script_statement.specs.declared.setup_statement.SetupStatement.{SetupStatement}
use Rattle.script_statement.specs.declared.setup_statement.SetupStatement.TheVariants.{Set, Compat, Block, File, Word}
use Rattle.script_statement.specs.declared.half_event.Way.TheVariants.{ToStation, ToMaster}
use Rattle.script_statement.specs.declared.half_event.HalfEvent.{HalfEvent}
use Rattle.script_statement.specs.declared.half_event.HalfEvent.TheVariants as half
use Rattle.script_statement.specs.declared.statement.EndName.{EndName}
use Rattle.script_statement.specs.declared.statement.EndName.TheVariants.{Known, Master, Station}
use Rattle.script_statement.specs.declared.statement.Statement.{Statement}
use Rattle.script_statement.specs.declared.statement.Statement.TheVariants as statement
use Rattle.script_statement.specs.declared.statement.Statement.TheVariants.{Mode, Check, Setup, Issue, IssueFrom, Times, Alter, Foreign, Half, End}
use Rattle.script_statement.specs.Statements.{end_in, from_station, half_line, is_payload, issue_by, issue_to, letter_in, station_issue, statement_of}
use Rattle.script_statement.specs.Words.{hex_of, number_of}
use Rattle.script_parts.specs.declared.script.EndPlan.{EndPlan}
use Rattle.script_parts.specs.declared.script.Event.{Event}
use Rattle.script_parts.specs.declared.script.Event.TheVariants as event
use Rattle.script_parts.specs.Playable.{IsPlanOf}
use Rattle.script_parts.specs.HalfPlayable.{AreHalfEnds, AreStationNumbers, IsHalfPlayable, IsHalfPossible, IsStationNumber, IsStationPlan, half_count_of, is_declared, is_issue, numbers_of}
use Rattle.script_parts.specs.RoutePlayable.{IsRoutePlayable, IsRoutePossible, is_issue_of, is_reached}
use Rattle.half_script.specs.declared.reader.HalfReader.{HalfReader}
use Rattle.half_script.specs.declared.stations.StationDraft.{StationDraft}
use Rattle.half_script.specs.Drafts.{after_statement, counted, ends_of, exceeds_at, flaw_of, fresh_reader, is_masters, is_misplaced, is_missing, is_out_of_range, is_spent, is_stations, is_too_many, is_twice, leads_nowhere, master_node, names_none, names_station, numbers, role_of, script_with, settled, with_statement}
use Rattle.half_script.specs.Forms.{is_kept_out, kept, routed, said_by}
use Rattle.half_script.specs.Read.{IsLeft, IsSaid, after_statements, and_then}
use Rattle.half_script.specs.Stations.{command_taken, commands_left_at, fresh_station, line_taken, numbers_in, plans_of, station_at, station_plan, with_station, with_station_command, with_station_line}
use Rattle.half_script.proofs.Changes.{all_changed, left_after_command, left_changed, left_push, numbers_changed, spends}
use Rattle.half_script.proofs.Places.{is_found}

-- ---- stations

pub record IsRightStation (s : StationDraft) : Type 0 where
  pub end : IsRight s.end
  pub node : value_of s.end.settings Node ≡ None
  pub number : IsStationNumber s.number

-- a station has no address but its number
no_address : (routes : Bool) (n : ℕ) → has_key (role_of routes (Station n)) Node ≡ false
no_address true n = refl
no_address false n = refl

right_after_line : (routes : Bool) (n : ℕ) (s : StationDraft) (line : SetupStatement) → IsRightStation s → IsSoundLine line → lacks (role_of routes (Station n)) s.end line ≡ false → exceeds s.end line ≡ false → repeats s.end line ≡ false
    → IsRightStation (line_taken s line)
right_after_line routes n s line h sound there inside new = record {
  end = right_with_line (S s.number) (role_of routes (Station n)) s.end line h.end sound there inside new;
  node = same_node (role_of routes (Station n)) (S s.number) s.end line (no_address routes n) there ∙ h.node;
  number = h.number;
}

-- ---- what stands

-- an event may happen on a line whose master carries messages, or carries none
abbrev pub IsPossibleFor : Bool → List ℕ → ℕ → Event → Type 0
IsPossibleFor true numbers node event = IsRoutePossible numbers node event
IsPossibleFor false numbers node event = IsHalfPossible numbers event

-- the commands of each station and what is left of them
abbrev IsCounted : HalfReader → List Event → ℕ → Type 0
IsCounted d events number = count_by (is_issue_of (S number)) events + commands_left_at d.stations number ≡ 65535

pub record Stands (routes : Bool) (d : HalfReader) (events : List Event) : Type 0 where
  pub kind : d.routes ≡ routes
  pub master : IsRight d.master
  pub stations : All IsRightStation d.stations
  pub at_most : length d.stations ≤ 32
  pub distinct : IsDistinct nat_eq (numbers d)
  pub apart : routes ≡ true → is_declared (numbers d) (master_node d) ≡ false
  pub possible : All (IsPossibleFor routes (numbers d) (master_node d)) events
  pub commands : count_by (is_issue_of M) events + d.master.commands_left ≡ 65535
  pub commands_of_stations : (number : ℕ) → IsCounted d events number
  pub sum : sum_by (half_count_of (numbers d)) events + d.events_left ≡ 4000000
  pub begun : (events ≡ []) ⊎ (is_set_up d.stage ≡ true)

none_distinct : IsDistinct nat_eq []
unfolding IsDistinct
none_distinct = tt

pub stands_at_first : (routes : Bool) → Stands routes (fresh_reader routes) []
stands_at_first routes = record {
  kind = refl;
  master = right_at_first;
  stations = All-nil _;
  at_most = omega arith;
  distinct = none_distinct;
  apart = λ _. refl;
  possible = All-nil _;
  commands = refl;
  commands_of_stations = λ _. refl;
  sum = refl;
  begun = inl refl;
}

-- ---- what no flaw says

record IsFree (d : HalfReader) (s : Statement) : Type 0 where
  placed : is_misplaced d.stage s ≡ false
  missing : is_missing d s ≡ false
  in_range : is_out_of_range d s ≡ false
  new : is_twice d s ≡ false
  unspent : is_spent d s ≡ false
  few : is_too_many d s ≡ false

no_flaw : (a b c d e f : Bool) → first_of ((a, flaw.Place) ∷ (b, flaw.Missing) ∷ (c, flaw.Value) ∷ (d, flaw.Twice) ∷ (e, flaw.Spent) ∷ (f, flaw.Events) ∷ []) ≡ None → (a ≡ false) × (b ≡ false) × (c ≡ false) × (d ≡ false) × (e ≡ false) × (f ≡ false)
no_flaw true b c d e f h = cc
no_flaw false true c d e f h = cc
no_flaw false false true d e f h = cc
no_flaw false false false true e f h = cc
no_flaw false false false false true f h = cc
no_flaw false false false false false true h = cc
no_flaw false false false false false false h = (refl, refl, refl, refl, refl, refl)

free : (d : HalfReader) (s : Statement) → flaw_of d s ≡ None → IsFree d s
free d s none =
    let tests = no_flaw (is_misplaced d.stage s) (is_missing d s) (is_out_of_range d s) (is_twice d s) (is_spent d s) (is_too_many d s) none in
    record { placed = tests.0; missing = tests.1; in_range = tests.2; new = tests.3; unspent = tests.4; few = tests.5 }

no_other : (b : Bool) → not b ≡ false → b ≡ true
no_other true h = refl
no_other false h = cc

-- ---- statements that are no events

-- before the first event there is none
no_events : (b : Bool) (events : List Event) → (events ≡ []) ⊎ (b ≡ true) → b ≡ false → events ≡ []
no_events b events (inl none) not_yet = none
no_events b events (inr begun) not_yet = cc

-- what is left of an end's commands, where none is a command of a station
abbrev LeavesCommands : HalfReader → HalfReader → Type 0
LeavesCommands d e = (e.master.commands_left ≡ d.master.commands_left) × ((number : ℕ) → commands_left_at e.stations number ≡ commands_left_at d.stations number)

quiet : (routes : Bool) (d e : HalfReader) (events : List Event) → Stands routes d events → e.routes ≡ d.routes → IsRight e.master → All IsRightStation e.stations → numbers_in e.stations ≡ numbers_in d.stations
    → (routes ≡ true → is_declared (numbers e) (master_node e) ≡ false) → All (IsPossibleFor routes (numbers e) (master_node e)) events
    → LeavesCommands d e → e.events_left ≡ d.events_left - 0 → (events ≡ []) ⊎ (is_set_up e.stage ≡ true) → Stands routes e (events ++ [])
quiet routes d e events h kind master stations same apart possible commands left begun =
    let size : length e.stations ≡ length d.stations =
    sym (length-map e.stations (λ (s : StationDraft). s.number)) ∙ ap length same ∙ length-map d.stations (λ (s : StationDraft). s.number) in
    rw (append-nil events) (record {
      kind = kind ∙ h.kind;
      master = master;
      stations = stations;
      at_most = let few = h.at_most in omega (arith, size, few);
      distinct = subst (IsDistinct nat_eq) (sym same) h.distinct;
      apart = apart;
      possible = possible;
      commands = rw commands.0 h.commands;
      commands_of_stations = λ number. rw (commands.1 number) (h.commands_of_stations number);
      sum = subst (λ (ns : List ℕ). sum_by (half_count_of ns) events + e.events_left ≡ 4000000) (sym same) (let sum = h.sum in omega arith);
      begun = begun;
    })

-- nothing but the stage is changed
same_setup : (routes : Bool) (d e : HalfReader) (events : List Event) → Stands routes d events → e.routes ≡ d.routes → e.master ≡ d.master → e.stations ≡ d.stations → e.events_left ≡ d.events_left - 0 → (events ≡ []) ⊎ (is_set_up e.stage ≡ true) → Stands routes e (events ++ [])
same_setup routes d e events h kind master stations left begun =
    quiet routes d e events h kind (subst IsRight (sym master) h.master) (subst (All IsRightStation) (sym stations) h.stations) (ap numbers_in stations)
    (λ is. rw (stations, master) (h.apart is))
    (rw (stations, master) h.possible)
    (ap (λ (end : EndDraft). end.commands_left) master, λ number. ap (λ (ss : List StationDraft). commands_left_at ss number) stations) left begun

no_possible : (P : Event → Type 0) (events : List Event) → events ≡ [] → All P events
no_possible P events none = subst (All P) (sym none) (All-nil P)

-- ---- one station more

by_recursion_push : (P : ℕ → Type 0) (xs : List ℕ) (x : ℕ) → AllByRecursion P xs → P x → AllByRecursion P (xs ++ x ∷ [])
by_recursion_push P [] x h ok = (ok, tt)
by_recursion_push P (y ∷ xs) x h ok = (h.0, by_recursion_push P xs x h.1 ok)

neither : (a b : Bool) → (a || b) ≡ false → (a ≡ false) × (b ≡ false)
neither true b h = cc
neither false b h = (refl, h)

distinct_push : (xs : List ℕ) (x : ℕ) → IsDistinct nat_eq xs → is_declared xs x ≡ false → IsDistinct nat_eq (xs ++ x ∷ [])
unfolding IsDistinct
distinct_push [] x h new = (tt, tt)
distinct_push (y ∷ xs) x h new =
    let parts = neither (eqb y x) (is_declared xs x) new in
    (by_recursion_push (λ z. nat_eq y z ≡ false) xs x h.0 parts.0, distinct_push xs x h.1 parts.1)

undeclared_push : (xs : List ℕ) (x n : ℕ) → is_declared xs n ≡ false → eqb x n ≡ false → is_declared (xs ++ x ∷ []) n ≡ false
undeclared_push [] x n none other = rw other refl
undeclared_push (y ∷ xs) x n none other = let parts = neither (eqb y n) (is_declared xs n) none in rw parts.0 (undeclared_push xs x n parts.1 other)

few_stations : (n : ℕ) → nat_le 32 n ≡ false → n < 32
few_stations n h = grind (arith, nat_tests)

not_both : (a b : Bool) → (a && b) ≡ false → a ≡ true → b ≡ false
not_both true b both is = both
not_both false b both is = cc

station_more : (routes : Bool) (d : HalfReader) (events : List Event) (n : ℕ) → Stands routes d events → IsStationNumber n → is_set_up d.stage ≡ false → nat_le 32 (length d.stations) ≡ false → is_masters d (Some n) ≡ false → is_declared (numbers d) n ≡ false
    → Stands routes (record d { stage = Settings; events_left = d.events_left - 0; stations = with_station d.stations n }) (events ++ [])
station_more routes d events n h number not_yet room other new =
    let none : events ≡ [] = no_events (is_set_up d.stage) events h.begun not_yet in
    let size = length-append d.stations (fresh_station n ∷ []) in
    let all : numbers_in (d.stations ++ fresh_station n ∷ []) ≡ numbers d ++ n ∷ [] = map_push (λ (s : StationDraft). s.number) d.stations (fresh_station n) in
    let e : HalfReader = record d { stage = Settings; events_left = d.events_left - 0; stations = d.stations ++ fresh_station n ∷ [] } in
    rw (append-nil events, room) (record {
      kind = h.kind;
      master = h.master;
      stations = All-push IsRightStation d.stations (fresh_station n) h.stations (record { end = right_at_first; node = refl; number = number });
      at_most = let few = few_stations (length d.stations) room in omega (arith, size, few);
      distinct = subst (IsDistinct nat_eq) (sym all) (distinct_push (numbers d) n h.distinct new);
      apart = λ is. rw all (undeclared_push (numbers d) n (master_node d) (h.apart is) (not_both d.routes (eqb n (master_node d)) other (h.kind ∙ is)));
      possible = no_possible (IsPossibleFor routes (numbers e) (master_node e)) events none;
      commands = h.commands;
      commands_of_stations = λ m. rw (left_push d.stations n m) (h.commands_of_stations m);
      sum = let sum = (rw none at h.sum) in rw none (omega (arith, sum));
      begun = inl none;
    })

-- ---- a line of the master

-- the address that a line gives it is that of no station
unmet : (d : HalfReader) (value : Option ℕ) → is_none value ≡ false → is_stations d Node value ≡ false → d.routes ≡ true → is_declared (numbers d) (unwrap_or value 0) ≡ false
unmet d None some test routes = cc
unmet d (Some n) some test routes = not_both d.routes (is_declared (numbers d) n) test routes

apart_with_line : (d : HalfReader) (line : SetupStatement) → IsSoundLine line → exceeds d.master line ≡ false → names_station d Master line ≡ false → d.routes ≡ true → is_declared (numbers d) (master_node d) ≡ false
    → is_declared (numbers d) (node_of (with_line M d.master line) 0) ≡ false
apart_with_line d (Set x) sound inside named routes old =
    value_of-with d.master.settings x Node (λ o. is_declared (numbers d) (unwrap_or o 0) ≡ false)
    (λ same. rw (fitting-same (row_of x.key).values x.value sound) (unmet d x.value inside (subst (λ (k : EndKey). is_stations d k x.value ≡ false) same named) routes))
    old
apart_with_line d (Compat None) sound inside named routes old = old
apart_with_line d (Compat (Some None)) sound inside named routes old = old
apart_with_line d (Compat (Some (Some file))) sound inside named routes old = old
apart_with_line d (Block None) sound inside named routes old = old
apart_with_line d (Block (Some bytes)) sound inside named routes old = old
apart_with_line d (File None) sound inside named routes old = old
apart_with_line d (File (Some spec)) sound inside named routes old = old
apart_with_line d (Word None index value) sound inside named routes old = old
apart_with_line d (Word (Some file) index value) sound inside named routes old = old

master_line : (routes : Bool) (d : HalfReader) (events : List Event) (line : SetupStatement) → Stands routes d events → IsSoundLine line → IsFree d (Setup Master line)
    → Stands routes (record d { stage = Settings; events_left = d.events_left - 0; master = with_line M d.master line }) (events ++ [])
master_line routes d events line h sound none =
    let e : HalfReader = record d { stage = Settings; events_left = d.events_left - 0; master = with_line M d.master line } in
    let none_yet : events ≡ [] = no_events (is_set_up d.stage) events h.begun none.placed in
    let ranges = neither (exceeds d.master line) (names_station d Master line) none.in_range in
    quiet routes d e events h refl (right_with_line M role.Master d.master line h.master sound none.missing ranges.0 none.new) h.stations refl
    (λ is. apart_with_line d line sound ranges.0 ranges.1 (h.kind ∙ is) (h.apart is))
    (no_possible (IsPossibleFor routes (numbers e) (master_node e)) events none_yet)
    (same_commands M d.master line, λ _. refl) refl (inl none_yet)

-- ---- a line of a station

-- a test of the station of a number is one of the station that is found
of_found : (test : EndDraft → Bool) (other : Bool) (stations : List StationDraft) (n : ℕ) (s : StationDraft) → station_at stations n ≡ Some s
    → option_map_or test (option_map (λ (x : StationDraft). x.end) (station_at stations n)) other ≡ false → test s.end ≡ false
of_found test other stations n s is fails = subst (λ (o : Option StationDraft). option_map_or test (option_map (λ (x : StationDraft). x.end) o) other ≡ false) is fails

station_line : (routes : Bool) (d : HalfReader) (events : List Event) (n : ℕ) (line : SetupStatement) → Stands routes d events → IsSoundLine line → IsFree d (Setup (Station n) line)
    → Stands routes (record d { stage = Settings; events_left = d.events_left - 0; stations = with_station_line d.stations n line }) (events ++ [])
station_line routes d events n line h sound none =
    let f : StationDraft → StationDraft = λ s. line_taken s line in
    let e : HalfReader = record d { stage = Settings; events_left = d.events_left - 0; stations = with_station_line d.stations n line } in
    let none_yet : events ≡ [] = no_events (is_set_up d.stage) events h.begun none.placed in
    let inside = (neither (exceeds_at d (Station n) line) (names_station d (Station n) line) none.in_range).0 in
    let same : numbers_in e.stations ≡ numbers d = numbers_changed f (λ s. refl) d.stations n (station_at d.stations n) refl in
    quiet routes d e events h refl h.master
    (all_changed IsRightStation f d.stations n (station_at d.stations n) refl
    (λ s is right. right_after_line d.routes n s line right sound
    (of_found (λ draft. lacks (role_of d.routes (Station n)) draft line) true d.stations n s is none.missing)
    (of_found (λ draft. exceeds draft line) false d.stations n s is inside)
    (of_found (λ draft. repeats draft line) false d.stations n s is none.new))
    h.stations)
    same
    (λ is. rw same (h.apart is))
    (no_possible (IsPossibleFor routes (numbers e) (master_node e)) events none_yet)
    (refl, left_changed f (λ s. refl) (λ s. same_commands (S s.number) s.end line) d.stations n) refl (inl none_yet)

-- ---- events

counts : (f : Event → ℕ) (events : List Event) (e : Event) → sum_by f (events ++ e ∷ []) ≡ sum_by f events + f e
counts f events e = let more = sum_by-append f events (e ∷ []) in omega arith

-- an event that is no command may happen on either kind of line
alike : (routes : Bool) (ns : List ℕ) (node : ℕ) (x : Event) → is_issue x ≡ false → IsHalfPossible ns x → IsPossibleFor routes ns node x
alike false ns node x no_command possible = possible
alike true ns node (event.Issue who src dst payload) no_command possible = cc
alike true ns node (event.Take who n) no_command possible = possible
alike true ns node (event.Deliver lane n) no_command possible = possible
alike true ns node (event.Lose lane n) no_command possible = possible
alike true ns node (event.Alter lane mask) no_command possible = possible
alike true ns node (event.Foreign lane bytes) no_command possible = possible
alike true ns node (event.Tick who n) no_command possible = possible

of_none : (who : Who) (x : Event) → is_issue x ≡ false → is_issue_of who x ≡ false
of_none who (event.Issue by src dst payload) no_command = cc
of_none who (event.Take by n) no_command = refl
of_none who (event.Deliver lane n) no_command = refl
of_none who (event.Lose lane n) no_command = refl
of_none who (event.Alter lane mask) no_command = refl
of_none who (event.Foreign lane bytes) no_command = refl
of_none who (event.Tick by n) no_command = refl

-- the commands of an end with an event more
counted_with : (who : Who) (events : List Event) (x : Event) (b : Bool) → is_issue_of who x ≡ b → count_by (is_issue_of who) (events ++ x ∷ []) ≡ count_by (is_issue_of who) events + cond b 1 0
counted_with who events x b is = rw (counts (λ y. cond (is_issue_of who y) 1 0) events x, is) refl

eventful : (routes : Bool) (d : HalfReader) (events : List Event) (x : Event) → Stands routes d events → IsHalfPossible (numbers d) x → is_issue x ≡ false → nat_lt d.events_left (half_count_of (numbers d) x) ≡ false
    → Stands routes (record d { stage = Events; events_left = d.events_left - half_count_of (numbers d) x }) (events ++ x ∷ [])
eventful routes d events x h possible no_command few = record {
  kind = h.kind;
  master = h.master;
  stations = h.stations;
  at_most = h.at_most;
  distinct = h.distinct;
  apart = h.apart;
  possible = All-push (IsPossibleFor routes (numbers d) (master_node d)) events x h.possible (alike routes (numbers d) (master_node d) x no_command possible);
  commands = let more = counted_with M events x false (of_none M x no_command) in let sum = h.commands in omega (arith, more, sum);
  commands_of_stations = λ number. let more = counted_with (S number) events x false (of_none (S number) x no_command) in let sum = h.commands_of_stations number in omega (arith, more, sum);
  sum = rw (counts (half_count_of (numbers d)) events x) (let sum = h.sum in let fits : half_count_of (numbers d) x ≤ d.events_left = grind (arith, nat_tests) in omega arith);
  begun = inr refl;
}

issued_to : (routes : Bool) (d : HalfReader) (events : List Event) (src : Option ℕ) (station : ℕ) (payload : List ℕ) → Stands routes d events
    → IsPossibleFor routes (numbers d) (master_node d) (event.Issue M src station payload) → eqb d.master.commands_left 0 ≡ false → nat_lt d.events_left 1 ≡ false
    → Stands routes (record d { stage = Events; events_left = d.events_left - 1; master = record d.master { commands_left = d.master.commands_left - 1 } }) (events ++ event.Issue M src station payload ∷ [])
issued_to routes d events src station payload h possible some few =
    let x : Event = event.Issue M src station payload in
    record {
      kind = h.kind;
      master = right_with_commands d.master (d.master.commands_left - 1) h.master;
      stations = h.stations;
      at_most = h.at_most;
      distinct = h.distinct;
      apart = h.apart;
      possible = All-push (IsPossibleFor routes (numbers d) (master_node d)) events x h.possible possible;
      commands = rw (counted_with M events x true refl) (spends d.master.commands_left _ h.commands some);
      commands_of_stations = λ number. let more = counted_with (S number) events x false refl in let sum = h.commands_of_stations number in omega (arith, more, sum);
      sum = rw (counts (half_count_of (numbers d)) events x) (let sum = h.sum in let fits : 1 ≤ d.events_left = grind (arith, nat_tests) in omega arith);
      begun = inr refl;
    }

-- a command of the master in its own name may be issued on either kind of line
own_command : (routes : Bool) (ns : List ℕ) (node station : ℕ) (payload : List ℕ) → IsTrue (is_declared ns station) → IsTrue (is_payload payload) → IsPossibleFor routes ns node (event.Issue M None station payload)
own_command true ns node station payload there sound = (there, sound)
own_command false ns node station payload there sound = (refl, there, sound)

-- one in the name of a source only where the master carries nothing
named_command : (routes : Bool) (ns : List ℕ) (node src station : ℕ) (payload : List ℕ) → (routes ≡ true → true ≡ false) → IsTrue (is_declared ns station) → IsTrue (is_payload payload)
    → IsPossibleFor routes ns node (event.Issue M (Some src) station payload)
named_command true ns node src station payload form there sound = absurd (let no = form refl in cc)
named_command false ns node src station payload form there sound = (refl, there, sound)

-- ---- a command of a station

issued_from_station : (routes : Bool) (d : HalfReader) (events : List Event) (station to : ℕ) (payload : List ℕ) → Stands routes d events
    → IsPossibleFor routes (numbers d) (master_node d) (event.Issue (S station) None to payload) → is_declared (numbers d) station ≡ true
    → option_map_or (λ (s : StationDraft). eqb s.end.commands_left 0) (station_at d.stations station) false ≡ false → nat_lt d.events_left 1 ≡ false
    → Stands routes (record d { stage = Events; events_left = d.events_left - 1; stations = with_station_command d.stations station }) (events ++ event.Issue (S station) None to payload ∷ [])
issued_from_station routes d events station to payload h possible there some few =
    let x : Event = event.Issue (S station) None to payload in
    let e : List StationDraft = with_station_command d.stations station in
    let same : numbers_in e ≡ numbers d = numbers_changed command_taken (λ s. refl) d.stations station (station_at d.stations station) refl in
    let size : length e ≡ length d.stations = sym (length-map e (λ (s : StationDraft). s.number)) ∙ ap length same ∙ length-map d.stations (λ (s : StationDraft). s.number) in
    record {
      kind = h.kind;
      master = h.master;
      stations = all_changed IsRightStation command_taken d.stations station (station_at d.stations station) refl
          (λ s is right. record { end = right_with_commands s.end (s.end.commands_left - 1) right.end; node = right.node; number = right.number }) h.stations;
      at_most = let most = h.at_most in omega (arith, size, most);
      distinct = rw same h.distinct;
      apart = λ is. rw same (h.apart is);
      possible = rw same (All-push (IsPossibleFor routes (numbers d) (master_node d)) events x h.possible possible);
      commands = let more = counted_with M events x false refl in let sum = h.commands in omega (arith, more, sum);
      commands_of_stations = λ number. rw (counted_with (S number) events x (eqb number station) refl)
          (left_after_command d.stations station number (count_by (is_issue_of (S number)) events) (station_at d.stations station) refl (is_found station d.stations ∙ there) some (h.commands_of_stations number));
      sum = rw (same, counts (half_count_of (numbers d)) events x) (let sum = h.sum in let fits : 1 ≤ d.events_left = grind (arith, nat_tests) in omega arith);
      begun = inr refl;
    }

both_true : (a b : Bool) → not (a && b) ≡ false → (a ≡ true) × (b ≡ true)
both_true true true h = (refl, refl)
both_true true false h = cc
both_true false b h = cc

-- it may be issued where it leads somewhere
sent_command : (routes : Bool) (ns : List ℕ) (node station to : ℕ) (payload : List ℕ) → routes ≡ true → is_declared ns station ≡ true → is_reached ns node station to ≡ true → IsTrue (is_payload payload)
    → IsPossibleFor routes ns node (event.Issue (S station) None to payload)
sent_command true ns node station to payload is there reached sound = (rw there reached, sound)
sent_command false ns node station to payload is there reached sound = cc

-- a number that is reached can be an address
few_numbers : (stations : List StationDraft) (n : ℕ) → All IsRightStation stations → is_declared (numbers_in stations) n ≡ true → n ≤ 254
few_numbers [] n right there = cc
few_numbers (s ∷ stations) n right there =
    elim (eqb s.number n) as (λ b. eqb s.number n ≡ b → (b || is_declared (numbers_in stations) n) ≡ true → n ≤ 254) [
      | true ↦ λ is _. subst (λ (m : ℕ). m ≤ 254) (eqb-true s.number n is) (All-head IsRightStation s stations right).number.1
      | false ↦ λ is behind. few_numbers stations n (All-tail IsRightStation s stations right) behind
    ] refl there

one_of : (a b c : Bool) → ((a && b) || c) ≡ true → (a ≡ true) ⊎ (c ≡ true)
one_of true true c h = inl refl
one_of true false c h = inr h
one_of false b c h = inr h

is_address : (routes : Bool) (d : HalfReader) (events : List Event) (station to : ℕ) → Stands routes d events → is_reached (numbers d) (master_node d) station to ≡ true → nat_le to 255 ≡ true
is_address routes d events station to h reached = elim (one_of (is_declared (numbers d) to) (not (eqb to station)) (eqb to (master_node d)) reached) [
  | inl there ↦ let few = few_numbers d.stations to h.stations there in grind (arith, nat_tests, few)
  | inr same ↦
      let is : to ≡ master_node d = eqb-true to (master_node d) same in
      let most : master_node d ≤ 255 = (Fits-chosen d.master.settings 0 h.master.settings (omega arith) Node).1 in
      grind (arith, nat_tests, is, most)
]

abbrev Next : Bool → HalfReader → List Event → Statement → Type 0
Next routes d events s = Stands routes (with_statement d s).0 (events ++ option_to_list (with_statement d s).1)

happens : (routes : Bool) (d : HalfReader) (events : List Event) (x : HalfEvent) → Stands routes d events → IsSound (Half x) → (routes ≡ true → is_kept_out (Half x) ≡ false) → IsFree d (Half x) → Next routes d events (Half x)
happens routes d events (half.Issue station None) h sound form none = let no : true ≡ false = none.in_range in cc
happens routes d events (half.Issue station (Some payload)) h sound form none =
    let there : is_declared (numbers d) station ≡ true = no_other (is_declared (numbers d) station) none.missing in
    rw there (issued_to routes d events None station payload h (own_command routes (numbers d) (master_node d) station payload there sound) none.unspent none.few)
happens routes d events (half.IssueFrom station None payload) h sound form none = let no : true ≡ false = none.in_range in cc
happens routes d events (half.IssueFrom station (Some src) None) h sound form none = let no : true ≡ false = none.in_range in cc
happens routes d events (half.IssueFrom station (Some src) (Some payload)) h sound form none =
    let there : is_declared (numbers d) station ≡ true = no_other (is_declared (numbers d) station) none.missing in
    rw there (issued_to routes d events (Some src) station payload h (named_command routes (numbers d) (master_node d) src station payload form there sound) none.unspent none.few)
happens routes d events (half.StationIssue station to None) h sound form none = let no : true ≡ false = none.in_range in cc
happens routes d events (half.StationIssue station to (Some payload)) h sound form none =
    let parts = neither (leads_nowhere d (half.StationIssue station to (Some payload))) (names_none d (half.StationIssue station to (Some payload))) none.missing in
    let there : is_declared (numbers d) station ≡ true = no_other (is_declared (numbers d) station) parts.1 in
    let leads = both_true d.routes (is_reached (numbers d) (master_node d) station to) parts.0 in
    let address : nat_le to 255 ≡ true = is_address routes d events station to h leads.1 in
    let same : numbers_in (with_station_command d.stations station) ≡ numbers d = numbers_changed command_taken (λ s. refl) d.stations station (station_at d.stations station) refl in
    rw (same, there, address)
    (issued_from_station routes d events station to payload h (sent_command routes (numbers d) (master_node d) station to payload (sym h.kind ∙ leads.0) there leads.1 sound) there none.unspent none.few)
happens routes d events (half.MasterTake None) h sound form none = let no : true ≡ false = none.in_range in cc
happens routes d events (half.MasterTake (Some n)) h sound form none = eventful routes d events (event.Take M n) h (refl, sound) refl none.few
happens routes d events (half.MasterTick None) h sound form none = let no : true ≡ false = none.in_range in cc
happens routes d events (half.MasterTick (Some n)) h sound form none = eventful routes d events (event.Tick M n) h (refl, sound) refl none.few
happens routes d events (half.StationTake station None) h sound form none = let no : true ≡ false = none.in_range in cc
happens routes d events (half.StationTake station (Some n)) h sound form none =
    let there : is_declared (numbers d) station ≡ true = no_other (is_declared (numbers d) station) none.missing in
    rw there (eventful routes d events (event.Take (S station) n) h (there, sound) refl none.few)
happens routes d events (half.Deliver way None) h sound form none = let no : true ≡ false = none.in_range in cc
happens routes d events (half.Deliver (ToStation station) (Some n)) h sound form none =
    let there : is_declared (numbers d) station ≡ true = no_other (is_declared (numbers d) station) none.missing in
    rw there (eventful routes d events (event.Deliver (record { from = M; to = S station }) n) h (there, sound) refl none.few)
happens routes d events (half.Deliver (ToMaster station) (Some n)) h sound form none =
    let there : is_declared (numbers d) station ≡ true = no_other (is_declared (numbers d) station) none.missing in
    rw there (eventful routes d events (event.Deliver (record { from = S station; to = M }) n) h (there, sound) refl none.few)
happens routes d events (half.Lose way None) h sound form none = let no : true ≡ false = none.in_range in cc
happens routes d events (half.Lose (ToStation station) (Some n)) h sound form none =
    let there : is_declared (numbers d) station ≡ true = no_other (is_declared (numbers d) station) none.missing in
    rw there (eventful routes d events (event.Lose (record { from = M; to = S station }) n) h (there, sound) refl none.few)
happens routes d events (half.Lose (ToMaster station) (Some n)) h sound form none =
    let there : is_declared (numbers d) station ≡ true = no_other (is_declared (numbers d) station) none.missing in
    rw there (eventful routes d events (event.Lose (record { from = S station; to = M }) n) h (there, sound) refl none.few)
happens routes d events (half.Alter way None) h sound form none = let no : true ≡ false = none.in_range in cc
happens routes d events (half.Alter (ToStation station) (Some mask)) h sound form none =
    let there : is_declared (numbers d) station ≡ true = no_other (is_declared (numbers d) station) none.missing in
    rw there (eventful routes d events (event.Alter (record { from = M; to = S station }) mask) h (there, sound) refl none.few)
happens routes d events (half.Alter (ToMaster station) (Some mask)) h sound form none =
    let there : is_declared (numbers d) station ≡ true = no_other (is_declared (numbers d) station) none.missing in
    rw there (eventful routes d events (event.Alter (record { from = S station; to = M }) mask) h (there, sound) refl none.few)
happens routes d events (half.Foreign way None) h sound form none = let no : true ≡ false = none.in_range in cc
happens routes d events (half.Foreign (ToStation station) (Some bytes)) h sound form none =
    let there : is_declared (numbers d) station ≡ true = no_other (is_declared (numbers d) station) none.missing in
    rw there (eventful routes d events (event.Foreign (record { from = M; to = S station }) bytes) h (there, sound) refl none.few)
happens routes d events (half.Foreign (ToMaster station) (Some bytes)) h sound form none =
    let there : is_declared (numbers d) station ≡ true = no_other (is_declared (numbers d) station) none.missing in
    rw there (eventful routes d events (event.Foreign (record { from = S station; to = M }) bytes) h (there, sound) refl none.few)

-- ---- any statement

neither_of : (a b : Bool) → (a || b) ≡ false → b ≡ false
neither_of true b h = cc
neither_of false b h = h

not_set_up : (stage : Stage) → not (is_fresh stage) ≡ false → is_set_up stage ≡ false
not_set_up Fresh is = refl
not_set_up Settings is = refl
not_set_up Events is = cc
not_set_up Ended is = cc

next : (routes : Bool) (d : HalfReader) (events : List Event) (s : Statement) → Stands routes d events → IsSound s → (routes ≡ true → is_kept_out s ≡ false) → IsFree d s → Next routes d events s
next routes d events (Mode half) h sound form none =
    same_setup routes d (counted d (Mode half)) events h refl refl refl refl (inl (no_events (is_set_up d.stage) events h.begun (not_set_up d.stage none.placed)))
next routes d events (Check None) h sound form none = let no : true ≡ false = none.in_range in cc
next routes d events (Check (Some check)) h sound form none =
    same_setup routes d (settled (counted d (Check (Some check))) (Check (Some check))) events h refl refl refl refl (inl (no_events (is_set_up d.stage) events h.begun none.placed))
next routes d events (statement.Station None) h sound form none = let no : true ≡ false = none.in_range in cc
next routes d events (statement.Station (Some n)) h sound form none =
    let ranges = neither (false || nat_le 32 (length d.stations)) (is_masters d (Some n)) none.in_range in
    station_more routes d events n h sound none.placed ranges.0 ranges.1 none.new
next routes d events (Setup (Known side) line) h sound form none = let no : true ≡ false = none.missing in cc
next routes d events (Setup Master line) h sound form none = master_line routes d events line h sound none
next routes d events (Setup (Station n) line) h sound form none = station_line routes d events n line h sound none
next routes d events (Issue side payload) h sound form none = let no : true ≡ false = none.missing in cc
next routes d events (IssueFrom side src payload) h sound form none = let no : true ≡ false = none.missing in cc
next routes d events (Times side verb n) h sound form none = let no : true ≡ false = none.missing in cc
next routes d events (Alter side mask) h sound form none = let no : true ≡ false = none.missing in cc
next routes d events (Foreign side bytes) h sound form none = let no : true ≡ false = none.missing in cc
next routes d events (Half x) h sound form none = happens routes d events x h sound form none
next routes d events End h sound form none = same_setup routes d (counted d End) events h refl refl refl refl (inr refl)

abbrev pub IfNext : Bool → List Event → Result (HalfReader × Option Event) Flaw → Type 0
IfNext routes events (Err flaw) = Unit {0}
IfNext routes events (Ok step) = Stands routes step.0 (events ++ option_to_list step.1)

unless : (routes : Bool) (d : HalfReader) (events : List Event) (s : Statement) (o : Option Flaw) → flaw_of d s ≡ o → Stands routes d events → IsSound s → (routes ≡ true → is_kept_out s ≡ false) → IfNext routes events (unless_wrong o (with_statement d s))
unless routes d events s (Some flaw) is h sound form = tt
unless routes d events s None is h sound form = next routes d events s h sound form (free d s is)

pub next_of : (routes : Bool) (d : HalfReader) (events : List Event) (s : Statement) → Stands routes d events → IsSound s → (routes ≡ true → is_kept_out s ≡ false) → IfNext routes events (after_statement d s)
next_of routes d events s h sound form = unless routes d events s (flaw_of d s) refl h sound form

-- ---- all statements

sound-unless : (out : Bool) (s : Statement) → IsSound s → IfSound (cond out None (Some s))
sound-unless true s sound = tt
sound-unless false s sound = sound

sound-kept : (o : Option Statement) → IfSound o → IfSound (kept o)
sound-kept None sound = tt
sound-kept (Some s) sound = sound-unless (is_kept_out s) s sound

sound-routed : (e : Option HalfEvent) (o : Option Statement) → IfSoundEvent e → IfSound o → IfSound (routed e o)
sound-routed None o event sound = sound-kept o sound
sound-routed (Some x) o event sound = event

-- what is said is sound
pub IfSound-said_by : (routes : Bool) (words : List (List ℕ)) → IfSound (said_by routes words)
IfSound-said_by false words = IfSound-statement_of words
IfSound-said_by true words = sound-routed (station_issue words) (statement_of words) (IfSound-station_issue words) (IfSound-statement_of words)

abbrev pub IfForm : Bool → Option Statement → Type 0
IfForm routes None = Unit {0}
IfForm routes (Some s) = routes ≡ true → is_kept_out s ≡ false

any-form : (o : Option Statement) → IfForm false o
any-form None = tt
any-form (Some s) = λ is. cc

form-unless : (out : Bool) (s : Statement) → is_kept_out s ≡ out → IfForm true (cond out None (Some s))
form-unless true s is = tt
form-unless false s is = λ _. is

form-kept : (o : Option Statement) → IfForm true (kept o)
form-kept None = tt
form-kept (Some s) = form-unless (is_kept_out s) s refl

form-issue_to : (station : ℕ) (to : Option ℕ) (bytes : Option (List ℕ)) → IfForm true (half_line (issue_to station to bytes))
form-issue_to station None bytes = tt
form-issue_to station (Some to) None = tt
form-issue_to station (Some to) (Some bytes) = λ _. refl

form-from_station : (end : Option EndName) (letter : ℕ) (to : Option ℕ) (operand : List ℕ) → IfForm true (half_line (from_station end letter to operand))
form-from_station None letter to operand = tt
form-from_station (Some (Known side)) letter to operand = tt
form-from_station (Some Master) letter to operand = tt
form-from_station (Some (Station station)) letter to operand =
    cond_both (eqb letter 105) (issue_to station to (hex_of operand)) None (λ o. IfForm true (half_line o)) (λ _. form-issue_to station to (hex_of operand)) (λ _. tt)

form-issue_by : (word to operand : List ℕ) → IfForm true (half_line (issue_by word to operand))
form-issue_by [] to operand = tt
form-issue_by (byte ∷ rest) to operand = form-from_station (end_in (byte ∷ rest)) (letter_in (byte ∷ rest)) (number_of to) operand

form-station_issue : (words : List (List ℕ)) → IfForm true (half_line (station_issue words))
unfolding station_issue
form-station_issue [] = tt
form-station_issue (a ∷ []) = tt
form-station_issue (a ∷ b ∷ []) = tt
form-station_issue (a ∷ b ∷ c ∷ []) = form-issue_by a b c
form-station_issue (a ∷ b ∷ c ∷ d ∷ more) = tt

form-routed : (e : Option HalfEvent) (o : Option Statement) → IfForm true (half_line e) → IfForm true (routed e o)
form-routed None o event = form-kept o
form-routed (Some x) o event = event

-- and none of those that are kept out
pub IfForm-said_by : (routes : Bool) (words : List (List ℕ)) → IfForm routes (said_by routes words)
IfForm-said_by false words = any-form (statement_of words)
IfForm-said_by true words = form-routed (station_issue words) (statement_of words) (form-station_issue words)

stands_after : (routes : Bool) (statements : List Statement) (d : HalfReader) (events : List Event) → All (IsSaid routes) statements → Stands routes d events → IfOk (after_statements d events statements) (λ read. Stands routes read.0 read.1)
stands_after routes [] d events said h = h
stands_after routes (s ∷ statements) d events said h =
    let one : IsSaid routes s = All-head (IsSaid routes) s statements said in
    elim (after_statement d s) as (λ r. IfNext routes events r → IfOk (and_then r (λ step. after_statements step.0 (events ++ option_to_list step.1) statements)) (λ read. Stands routes read.0 read.1)) [
      | Err flaw ↦ λ no. tt
      | Ok step ↦ λ on. stands_after routes statements step.0 (events ++ option_to_list step.1) (All-tail (IsSaid routes) s statements said) on
    ] (next_of routes d events s h (subst IfSound one.says (IfSound-said_by routes one.words)) (subst (IfForm routes) one.says (IfForm-said_by routes one.words)))

if_ok : (r : Result (HalfReader × List Event) Flaw) (P Q : HalfReader × List Event → Type 0) → ((x : HalfReader × List Event) → P x → Q x) → IfOk r P → IfOk r Q
if_ok (Err flaw) P Q weaker h = tt
if_ok (Ok read) P Q weaker h = weaker read h

-- ---- the script

plan_of_station : (s : StationDraft) → IsRightStation s → IsStationPlan (station_plan s)
plan_of_station s h =
    let node : chosen s.end.settings s.number Node ≡ s.number = ap (λ o. unwrap_or o s.number) h.node in
    subst (λ n. IsPlanOf (S n) (station_plan s)) (sym node) (plan_is_right (S s.number) s.number s.end (let few = h.number.1 in omega (arith, few)) h.end)

same_nodes : (stations : List StationDraft) → All IsRightStation stations → map (λ (plan : EndPlan). plan.node) (plans_of stations) ≡ numbers_in stations
same_nodes [] h = refl
same_nodes (s ∷ stations) h =
    let node : chosen s.end.settings s.number Node ≡ s.number = ap (λ o. unwrap_or o s.number) (All-head IsRightStation s stations h).node in
    ap (λ n. n ∷ map (λ (plan : EndPlan). plan.node) (plans_of stations)) node ∙ ap (λ ns. s.number ∷ ns) (same_nodes stations (All-tail IsRightStation s stations h))

ends_are : (routes : Bool) (d : HalfReader) (events : List Event) → Stands routes d events → AreHalfEnds (ends_of d)
ends_are routes d events h =
    let same : numbers_of (ends_of d) ≡ numbers d = same_nodes d.stations h.stations in
    let size : length (numbers d) ≡ length d.stations = length-map d.stations (λ (s : StationDraft). s.number) in (
      plan_is_right M 0 d.master (omega arith) h.master,
      All-map IsStationPlan station_plan d.stations (All-weaker IsRightStation (λ s. IsStationPlan (station_plan s)) plan_of_station d.stations h.stations),
      subst AreStationNumbers (sym same) (record {
        at_most = let few = h.at_most in omega (arith, size, few);
        distinct = h.distinct;
        each = All-map IsStationNumber (λ (s : StationDraft). s.number) d.stations (All-weaker IsRightStation (λ s. IsStationNumber s.number) (λ s right. right.number) d.stations h.stations);
      }),
    )

-- where the master carries nothing, it alone issues
by_master : (ns : List ℕ) (x : Event) → IsHalfPossible ns x → is_issue x ≡ is_issue_of M x
by_master ns (event.Issue M src dst payload) possible = refl
by_master ns (event.Issue other src dst payload) possible = let no : false ≡ true = possible.0 in cc
by_master ns (event.Take who n) possible = refl
by_master ns (event.Deliver lane n) possible = refl
by_master ns (event.Lose lane n) possible = refl
by_master ns (event.Alter lane mask) possible = refl
by_master ns (event.Foreign lane bytes) possible = refl
by_master ns (event.Tick who n) possible = refl

all_by_master : (ns : List ℕ) (events : List Event) → All (IsHalfPossible ns) events → count_by is_issue events ≡ count_by (is_issue_of M) events
all_by_master ns [] possible = refl
all_by_master ns (x ∷ events) possible =
    let one : count_by is_issue (x ∷ []) ≡ count_by (is_issue_of M) (x ∷ []) = rw (by_master ns x (All-head (IsHalfPossible ns) x events possible)) refl in
    let rest = all_by_master ns events (All-tail (IsHalfPossible ns) x events possible) in
    let all = sum_by-append (λ (y : Event). cond (is_issue y) 1 0) (x ∷ []) events in
    let of_master = sum_by-append (λ (y : Event). cond (is_issue_of M y) 1 0) (x ∷ []) events in
    omega (arith, one, rest, all, of_master)

pub closes : (d : HalfReader) (events : List Event) → Stands false d events → IsHalfPlayable (script_with d events)
closes d events h =
    let same : numbers_of (ends_of d) ≡ numbers d = same_nodes d.stations h.stations in
    record {
      mode = refl;
      ends = ends_are false d events h;
      events = subst (λ (ns : List ℕ). All (IsHalfPossible ns) events) (sym same) h.possible;
      commands = let sum = h.commands in let by = all_by_master (numbers d) events h.possible in omega (arith, by, sum);
      sum = subst (λ (ns : List ℕ). sum_by (half_count_of ns) events ≤ 5000000) (sym same) (let sum = h.sum in omega arith);
    }

counted_within : (P : ℕ → Type 0) → ((n : ℕ) → P n) → (ns : List ℕ) → All P ns
counted_within P each [] = All-nil P
counted_within P each (n ∷ ns) = All-cons P n ns (each n) (counted_within P each ns)

pub closes_route : (d : HalfReader) (events : List Event) → Stands true d events → IsRoutePlayable (script_with d events)
closes_route d events h =
    let same : numbers_of (ends_of d) ≡ numbers d = same_nodes d.stations h.stations in
    record {
      mode = refl;
      ends = ends_are true d events h;
      apart = rw same (h.apart refl);
      events = rw same h.possible;
      commands = let sum = h.commands in omega (arith, sum);
      commands_of_stations = counted_within (λ n. count_by (is_issue_of (S n)) events ≤ 65535) (λ n. let sum = h.commands_of_stations n in omega (arith, sum)) (numbers_of (ends_of d));
      sum = subst (λ (ns : List ℕ). sum_by (half_count_of ns) events ≤ 5000000) (sym same) (let sum = h.sum in omega arith);
    }

pub read_is_playable : (statements : List Statement) → All (IsSaid false) statements → IfOk (after_statements (fresh_reader false) [] statements) (λ read. IsHalfPlayable (script_with read.0 read.1))
read_is_playable statements said =
    if_ok (after_statements (fresh_reader false) [] statements) (λ read. Stands false read.0 read.1) (λ read. IsHalfPlayable (script_with read.0 read.1)) (λ read h. closes read.0 read.1 h)
    (stands_after false statements (fresh_reader false) [] said (stands_at_first false))

pub routed_is_playable : (statements : List Statement) → All (IsSaid true) statements → IfOk (after_statements (fresh_reader true) [] statements) (λ read. IsRoutePlayable (script_with read.0 read.1))
routed_is_playable statements said =
    if_ok (after_statements (fresh_reader true) [] statements) (λ read. Stands true read.0 read.1) (λ read. IsRoutePlayable (script_with read.0 read.1)) (λ read h. closes_route read.0 read.1 h)
    (stands_after true statements (fresh_reader true) [] said (stands_at_first true))

-- ---- what is left

pub left_of : (routes : Bool) (d : HalfReader) (events : List Event) → Stands routes d events → IsLeft d events
left_of routes d events h =
    let commands = h.commands in
    let sum = h.sum in
    record {
      commands = omega (arith, commands);
      commands_of_stations = λ number. let of_station = h.commands_of_stations number in omega (arith, of_station);
      events_are = omega (arith, sum);
    }

pub left_after : (routes : Bool) (statements : List Statement) → All (IsSaid routes) statements → IfOk (after_statements (fresh_reader routes) [] statements) (λ read. IsLeft read.0 read.1)
left_after routes statements said =
    if_ok (after_statements (fresh_reader routes) [] statements) (λ read. Stands routes read.0 read.1) (λ read. IsLeft read.0 read.1) (λ read h. left_of routes read.0 read.1 h)
    (stands_after routes statements (fresh_reader routes) [] said (stands_at_first routes))
