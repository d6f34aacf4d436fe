-- What held at the end of a run shows each command once, for each station.
use Rattle.std.proofs.Common.{◌≡◌, ◌∙◌, ℕ, zero, suc, ◌≤◌, List, [], ◌∷◌, ◌++◌, map, Some, None, refl, ap, ap₂, sym, subst, arith}
use Rattle.std.specs.Prelude.{All, slice_get, slice_index, slice_index_or, nat_eq}
use Rattle.std.specs.Option.{option_map}
use Rattle.std.specs.List.{flat_map, IsDistinct}
use Rattle.std.proofs.lemmas.Option.{slice_get-map, slice_get-get_or, get_or_from_slice_get}
use Rattle.df1_node.specs.Node.{NodeState}
use Rattle.df1_check.specs.declared.Check.{Check}
use Rattle.data_files.specs.Tables.{DataTables}
use Rattle.df1_node.specs.Answer.{StationState}
use Rattle.df1_node.specs.Initiator.{Issued}
use Rattle.half_master.specs.Keys.{kept_at}
use Rattle.half_master.specs.Stations.{listed, numbers_of as station_numbers}
use Rattle.half_master.proofs.LastMessage.{sends-start}
use Rattle.script_statement.specs.declared.who.Who.TheVariants.{M, S}
use Rattle.script_parts.specs.declared.script.EndPlan.{EndPlan}
use Rattle.script_parts.specs.declared.script.Script.{Script}
use Rattle.script_parts.specs.declared.script.WordOf.{WordOf}
use Rattle.script_parts.specs.HalfPlayable.{AreHalfEnds, IsHalfPlayable, station_plans, numbers_of}
use Rattle.script_parts.specs.Plans.{first_plan}
use Rattle.replay_report.specs.declared.record.Line.{Line}
use Rattle.outset.specs.Outset.{first_station, first_node}
use Rattle.report_lines.specs.Words.{words_of}
use Rattle.each_once.specs.Commands.{AreOutcomesTold}
use Rattle.each_once.specs.Exchanges.{exchanges, station_after}
use Rattle.each_once.specs.OfStation.{lines_of}
use Rattle.each_once.specs.Once.{Once, IsReplyTo, IsAstray}
use Rattle.each_once.specs.Tells.{executed_in, answers_in, strays_in, given_up_in}
use Rattle.each_once.proofs.HandedOut.{waits_of}
use Rattle.each_once.proofs.IssuingNode.{issues-start}
use Rattle.each_once.proofs.KeptCommands.{IsReplyOf, IsOfLost}
use Rattle.each_once.proofs.OneDirection.{way-start, way-within}
use Rattle.each_once.proofs.RisingPlaces.{some-in-turn, are-apart}
use Rattle.each_once.proofs.Sublists.{from-map, same-some, all-as}
use Rattle.each_once.proofs.ToldLines.{told-start}
use Rattle.each_once.proofs.ToldReplies.{reply-to, one-outcome, astray-told}
use Rattle.half_line.specs.Behind.{plain_node}
use Rattle.half_line.specs.Acts.{LineStationState, HalfState}
use Rattle.half_line.specs.Once.{OnceAtStation, EachOnce, tables_made, words_made}
use Rattle.half_line.specs.Run.{master_setup, slave_setup, first_side, plan_of_m, start, last_state, lines_after, tables_of, record_from}
use Rattle.half_line.specs.Issues.{commands_of_m, issued_of}
use Rattle.half_line.proofs.Once.Invariant.{shared, marks, AreTo, SideHolds, Setting, Holds}
use Rattle.half_line.proofs.Once.LinesOfStation.{given-up-same, executed-same, outcomes-fewer}
use Rattle.half_line.proofs.Once.MasterReplies.{master-start}
use Rattle.half_line.proofs.Once.StationSteps.{keeps-start}
use Rattle.half_line.proofs.Once.WholeRun.{counted_over, counted-within, kept-events}

-- ---- the start

-- the plan of the station at a place
abbrev pub plan_at : Script → ℕ → EndPlan
plan_at script p = slice_index_or (station_plans script.ends) p (first_plan M 0)

pub are-distinct : (ends : List EndPlan) → AreHalfEnds ends → IsDistinct nat_eq (numbers_of ends)
are-distinct [] are = absurd are
are-distinct (master ∷ stations) are = are.2.distinct

abbrev pub setting_of : (script : Script) → IsHalfPlayable script → Setting
setting_of script playable = record {
  of_master = first_station (plan_of_m script);
  first = λ p. first_station (plan_at script p);
  numbers = numbers_of script.ends;
  distinct = are-distinct script.ends playable.ends;
}

pub listed-numbers : (numbers : List ℕ) → station_numbers (listed numbers) ≡ numbers
listed-numbers [] = refl
listed-numbers (n ∷ numbers) = ap (λ ns. n ∷ ns) (listed-numbers numbers)

pub listed-kept : (numbers : List ℕ) (p : ℕ) → kept_at (listed numbers) p ≡ None
listed-kept [] p = refl
listed-kept (n ∷ numbers) zero = refl
listed-kept (n ∷ numbers) (suc p) = listed-kept numbers p

pub side-numbers : (check : Check) (plans : List EndPlan) → map (λ (side : LineStationState). side.number) (map (first_side check) plans) ≡ map (λ (plan : EndPlan). plan.node) plans
side-numbers check [] = refl
side-numbers check (plan ∷ plans) = ap (λ ns. plan.node ∷ ns) (side-numbers check plans)

first-holds : (check : Check) (plan : EndPlan) → SideHolds (shared [] [] [] []) (first_station plan) None (first_side check plan)
first-holds check plan = record {
  executed = [];
  sent = [];
  own = refl;
  keeps = keeps-start (first_station plan) (slave_setup check plan) (first_node plan) refl refl refl;
  to_it = λ k body at. absurd cc;
  way = way-start;
  back = way-start;
  told = told-start M (S plan.node) (first_station plan) [];
}

pub holds-start : (script : Script) (playable : IsHalfPlayable script) → Holds (setting_of script playable) 0 (start script) []
holds-start script playable =
    let m = plan_of_m script in
    let plans = station_plans script.ends in
    record {
      commands = [];
      heard = [];
      master = record {
        issues = issues-start (first_station m) (first_node m) refl refl refl;
        sends = sends-start (master_setup script.check m) (numbers_of script.ends) (first_node m);
        count_is = refl;
        numbers_are = listed-numbers (numbers_of script.ends);
      };
      replies = master-start (numbers_of script.ends);
      numbers_are = side-numbers script.check plans;
      sides = λ p side at.
          let was = from-map (first_side script.check) plans p side at in
          let plan : plan_at script p ≡ was.0 = get_or_from_slice_get plans p was.0 (first_plan M 0) was.1 in
          subst (λ (x : LineStationState). SideHolds (shared [] [] [] []) (first_station (plan_at script p)) (kept_at (listed (numbers_of script.ends)) p) x) was.2
          (subst (λ k. SideHolds (shared [] [] [] []) (first_station (plan_at script p)) k (first_side script.check was.0)) (sym (listed-kept (numbers_of script.ends) p))
          (subst (λ (x : EndPlan). SideHolds (shared [] [] [] []) (first_station x) None (first_side script.check was.0)) (sym plan) (first-holds script.check was.0)));
    }

-- ---- the end, for one station

once-of : (setting : Setting) (count : ℕ) (s : HalfState NodeState) (lines : List Line) (p : ℕ) (side : LineStationState) → count ≤ 65535 → AreOutcomesTold M (issued_of s.master) lines → (h : Holds setting count s lines) → slice_get s.stations p ≡ Some side
    → Once M (S side.number) (map (λ c. c.body) (issued_of s.master)) (setting.first p) (lines_of side.number lines)
once-of setting count s lines p side few told h at =
    let issued = issued_of s.master in
    let bodies = map (λ (c : Issued). c.body) issued in
    let this = h.sides p side at in
    let executed = this.executed in
    let own = lines_of side.number lines in
    let answered = exchanges (setting.first p) executed in
    let within = way-within h.commands (marks side.to_it) side.slave.kept executed this.way in
    let same : executed_in (S side.number) own ≡ executed = this.told.executes in
    record {
      apart = are-apart s.master.host.initiator.tns issued (subst (λ n. n ≤ 65535) (sym h.master.count_is) few) h.master.issues.initiates.numbered;
      in_order = rw same (some-in-turn executed h.commands bodies (waits_of issued) within h.master.issues.initiates.in_order);
      answers = rw same (all-as (λ a. IsReplyOf issued answered a.0 a.1) (λ a. IsReplyTo bodies answered a.0 a.1) (answers_in M own) (λ a. reply-to issued answered a.0 a.1) this.told.answered);
      outcomes = λ n. outcomes-fewer side.number n lines (one-outcome M issued lines told n);
      strays = rw (same, given-up-same side.number lines) (all-as (IsOfLost issued answered) (IsAstray bodies answered (given_up_in M lines)) (strays_in M own) (λ reply. astray-told M issued lines answered reply told) this.told.astray);
    }

to-all : (number : ℕ) (bodies : List (List ℕ)) → AreTo number bodies → All (λ body. slice_index body 0 ≡ number) bodies
to-all number bodies to k d inside = to k _ (slice_get-get_or bodies k d inside)

-- the station at the place of a plan
pub side-of : (setting : Setting) (count : ℕ) (s : HalfState NodeState) (lines : List Line) (plans : List EndPlan) (p : ℕ) (plan : EndPlan) → setting.numbers ≡ map (λ (x : EndPlan). x.node) plans → Holds setting count s lines → slice_get plans p ≡ Some plan
    → (side : LineStationState) × (slice_get s.stations p ≡ Some side) × (side.number ≡ plan.node)
side-of setting count s lines plans p plan are h at =
    from-map (λ (x : LineStationState). x.number) s.stations p plan.node
    (ap (λ ns. slice_get ns p) (h.numbers_are ∙ are) ∙ slice_get-map (λ (x : EndPlan). x.node) plans p ∙ ap (option_map (λ (x : EndPlan). x.node)) at)

at-station : (script : Script) (playable : IsHalfPlayable script) (count : ℕ) (s : HalfState NodeState) (lines : List Line) (p : ℕ) (plan : EndPlan) → count ≤ 65535 → map (λ c. c.body) (issued_of s.master) ≡ commands_of_m script → AreOutcomesTold M (issued_of s.master) lines
    → Holds (setting_of script playable) count s lines → slice_get (station_plans script.ends) p ≡ Some plan → OnceAtStation script (record_from plain_node s lines) plan
at-station script playable count s lines p plan few bodies told h at =
    let plans = station_plans script.ends in
    let setting = setting_of script playable in
    let side = side-of setting count s lines plans p plan refl h at in
    let first : plan_at script p ≡ plan = get_or_from_slice_get plans p plan (first_plan M 0) at in
    let once = once-of setting count s lines p side.0 few told h side.1 in
    let this = h.sides p side.0 side.1 in
    record {
      once = subst (λ (x : EndPlan). Once M (S plan.node) (commands_of_m script) (first_station x) (lines_of plan.node lines)) first
          (subst (λ (all : List (List ℕ)). Once M (S plan.node) all (first_station (plan_at script p)) (lines_of plan.node lines)) bodies
          (subst (λ (n : ℕ). Once M (S n) (map (λ c. c.body) (issued_of s.master)) (first_station (plan_at script p)) (lines_of n lines)) side.2 once));
      issued_to_it = subst (λ (n : ℕ). All (λ body. slice_index body 0 ≡ n) (executed_in (S n) lines)) side.2
          (subst (λ (all : List (List ℕ)). All (λ body. slice_index body 0 ≡ side.0.number) all) (sym this.told.executes ∙ executed-same side.0.number (S side.0.number) lines) (to-all side.0.number this.executed this.to_it));
    }

-- ---- the words

pub words-same : (f : LineStationState → List WordOf) (g : EndPlan → List WordOf) (stations : List LineStationState) (plans : List EndPlan) → map (λ (x : LineStationState). x.number) stations ≡ map (λ (x : EndPlan). x.node) plans
    → ((p : ℕ) (side : LineStationState) (plan : EndPlan) → slice_get stations p ≡ Some side → slice_get plans p ≡ Some plan → f side ≡ g plan) → flat_map f stations ≡ flat_map g plans
words-same f g [] [] are each = refl
words-same f g [] (plan ∷ plans) are each = absurd cc
words-same f g (side ∷ stations) [] are each = absurd cc
words-same f g (side ∷ stations) (plan ∷ plans) are each =
    ap₂ (λ x y. x ++ y) (each zero side plan refl refl) (words-same f g stations plans (let same : map (λ (x : LineStationState). x.number) stations ≡ map (λ (x : EndPlan). x.node) plans = cc in same) (λ p s q at at-plan. each (suc p) s q at at-plan))

tables-are : (script : Script) (playable : IsHalfPlayable script) (count : ℕ) (s : HalfState NodeState) (lines : List Line) → Holds (setting_of script playable) count s lines → (p : ℕ) (side : LineStationState) (plan : EndPlan)
    → slice_get s.stations p ≡ Some side → slice_get (station_plans script.ends) p ≡ Some plan → side.number ≡ plan.node → words_of (S side.number) (tables_of side) ≡ words_made (record_from plain_node s lines) plan
tables-are script playable count s lines h p side plan at at-plan number =
    let this = h.sides p side at in
    let plans = station_plans script.ends in
    let first : plan_at script p ≡ plan = get_or_from_slice_get plans p plan (first_plan M 0) at-plan in
    let executed : this.executed ≡ executed_in (S plan.node) lines = sym this.told.executes ∙ executed-same side.number (S side.number) lines ∙ ap (λ (n : ℕ). executed_in (S n) lines) number in
    let tables : tables_of side ≡ tables_made (record_from plain_node s lines) plan =
    ap (λ (station : StationState). station.tables) (this.keeps.serves.station ∙ ap₂ (λ (x : EndPlan) (bodies : List (List ℕ)). station_after (first_station x) bodies) first executed) in
    ap₂ (λ (n : ℕ) (t : DataTables). words_of (S n) t) number tables

number-of : (setting : Setting) (count : ℕ) (s : HalfState NodeState) (lines : List Line) (plans : List EndPlan) (p : ℕ) (side : LineStationState) (plan : EndPlan) → setting.numbers ≡ map (λ (x : EndPlan). x.node) plans → Holds setting count s lines
    → slice_get s.stations p ≡ Some side → slice_get plans p ≡ Some plan → side.number ≡ plan.node
number-of setting count s lines plans p side plan are h at at-plan =
    let found = side-of setting count s lines plans p plan are h at-plan in
    let same : found.0 ≡ side = same-some found.0 side (sym found.1 ∙ at) in
    sym (ap (λ (x : LineStationState). x.number) same) ∙ found.2

-- ---- the whole

-- by the commands that the master has issued, and what is told of each
pub each-once : (script : Script) → IsHalfPlayable script → map (λ c. c.body) (issued_of (last_state script).master) ≡ commands_of_m script → AreOutcomesTold M (issued_of (last_state script).master) (lines_after plain_node (start script) script.events)
    → (last_state script).deceived ≡ 0 → EachOnce script (record_from plain_node (last_state script) (lines_after plain_node (start script) script.events))
each-once script playable bodies told none =
    let s = last_state script in
    let lines = lines_after plain_node (start script) script.events in
    let plans = station_plans script.ends in
    let setting = setting_of script playable in
    let count = counted_over 0 script.events in
    let h = kept-events setting (numbers_of script.ends) 0 script.events (start script) [] playable.events (omega (arith, playable.commands)) (λ zero. holds-start script playable) none in
    let few : count ≤ 65535 = omega (arith, counted-within 0 script.events, playable.commands) in
    record {
      stations = λ k d inside. at-station script playable count s lines k _ few bodies told h (slice_get-get_or plans k d inside);
      outcomes = one-outcome M (issued_of s.master) lines told;
      answers_from = h.replies.answers_from;
      strays_from = h.replies.strays_from;
      executes_none = h.replies.executes_none;
      words = ap₂ (λ (x : DataTables) (y : List WordOf). words_of M x ++ y) (ap (λ (station : StationState). station.tables) h.master.issues.station)
          (words-same (λ (side : LineStationState). words_of (S side.number) (tables_of side)) (words_made (record_from plain_node s lines)) s.stations plans h.numbers_are
          (λ p side plan at at-plan. tables-are script playable count s lines h p side plan at at-plan (number-of setting count s lines plans p side plan refl h at at-plan)));
    }
