-- What held at the end of a route's run shows each command once between its ends, in the record of the run.
use Rattle.std.proofs.Common.{◌≡◌, ◌∙◌, ℕ, zero, suc, ◌≤◌, length, Bool, true, false, ◌||◌, List, [], ◌∷◌, ◌++◌, Some, refl, ap, ap₂, sym, subst}
use Rattle.std.specs.Prelude.{slice_get, slice_index, slice_index_or, All, Contains, IsTrue, ◌==◌}
use Rattle.std.specs.Option.{option_map}
use Rattle.std.specs.List.{filter, flat_map, list_any}
use Rattle.std.proofs.lemmas.Bool.{eq-eqb}
use Rattle.std.proofs.lemmas.Option.{get_or_from_slice_get, slice_get-get_or, slice_get-map}
use Rattle.data_files.specs.Tables.{DataTables}
use Rattle.df1_node.specs.Answer.{StationState}
use Rattle.df1_node.specs.Node.{NodeState}
use Rattle.outset.specs.Outset.{first_station}
use Rattle.replay_report.specs.declared.record.Line.{Line}
use Rattle.report_lines.specs.Words.{words_of}
use Rattle.script_statement.specs.declared.who.Who.{Who}
use Rattle.script_statement.specs.declared.who.Who.TheVariants.{M, S}
use Rattle.script_parts.specs.declared.script.EndPlan.{EndPlan}
use Rattle.script_parts.specs.declared.script.Script.{Script}
use Rattle.script_parts.specs.declared.script.WordOf.{WordOf}
use Rattle.script_parts.specs.Plans.{first_plan}
use Rattle.script_parts.specs.HalfPlayable.{AreHalfEnds, IsStationPlan, numbers_of, station_plans}
use Rattle.script_parts.specs.RoutePlayable.{IsRoutePlayable}
use Rattle.station_router.specs.Router.{RouterState}
use Rattle.each_once.specs.Commands.{command_at}
use Rattle.each_once.specs.Direction.{AreSomeOf}
use Rattle.each_once.specs.Exchanges.{exchanges, station_after}
use Rattle.each_once.specs.OfStation.{is_from}
use Rattle.each_once.specs.Once.{AreApart}
use Rattle.each_once.specs.Tells.{executed_in, answers_in, strays_in, outcomes_in, given_up_in}
use Rattle.each_once.proofs.HandedOut.{bodies_of}
use Rattle.each_once.proofs.Sublists.{all-at, contains-at, from-map, all-as}
use Rattle.half_line.specs.Acts.{LineStationState, HalfState}
use Rattle.half_line.specs.Behind.{routed_node}
use Rattle.half_line.specs.Run.{plan_of_m, record_from, tables_of}
use Rattle.half_line.proofs.Once.EachStation.{plan_at, words-same}
use Rattle.half_route.specs.Once.{IsInOrder, IsReplyTo, IsAstray, RoutedOnce, commands_of, is_address, is_for, tables_made, words_made}
use Rattle.half_route.proofs.Once.EachParty.{commands_by, executed_by, commands-apart, in-order, executed-from, station-made, IsReplyBy, answers, one-told, IsStrayBy, strays}
use Rattle.half_route.proofs.Once.FirstState.{setting_of}
use Rattle.half_route.proofs.Once.Invariant.{Setting, Holds}
use Rattle.half_route.proofs.Once.Parties.{Party, of_master, of_side, end_of, node_of, side-number}

-- ---- the plans

-- the commands that are issued at each end are those of the script
pub record AreAsIssued (script : Script) (s : HalfState (RouterState NodeState)) : Type 0 where
  pub master : bodies_of s.master.host.inner.initiator.issued ≡ commands_of script (plan_of_m script)
  pub sides : (p : ℕ) (side : LineStationState) (plan : EndPlan) → slice_get s.stations p ≡ Some side → slice_get (station_plans script.ends) p ≡ Some plan → bodies_of side.slave.host.initiator.issued ≡ commands_of script plan

pub first-who : (ends : List EndPlan) (plan : EndPlan) → AreHalfEnds ends → slice_get ends 0 ≡ Some plan → plan.who ≡ M
first-who [] plan are at = absurd are
first-who (master ∷ stations) plan are at = let same : master ≡ plan = cc in ap (λ (p : EndPlan). p.who) (sym same) ∙ are.0.end

later-plan : (ends : List EndPlan) (p : ℕ) → slice_get ends (suc p) ≡ slice_get (station_plans ends) p
later-plan [] p = refl
later-plan (master ∷ stations) p = refl

pub station-who : (ends : List EndPlan) (p : ℕ) (plan : EndPlan) → AreHalfEnds ends → slice_get (station_plans ends) p ≡ Some plan → plan.who ≡ S plan.node
station-who [] p plan are at = absurd are
station-who (master ∷ stations) p plan are at = (all-at IsStationPlan stations p plan are.1 at).end

pub master-first : (ends : List EndPlan) (other : EndPlan) → AreHalfEnds ends → slice_get ends 0 ≡ Some (slice_index_or ends 0 other)
master-first [] other are = absurd are
master-first (master ∷ stations) other are = refl

-- ---- the end of a plan, and the plan of an end

pub record IsOf (script : Script) {setting : Setting} {s : HalfState (RouterState NodeState)} (plan : EndPlan) (x : Party setting s) : Type 0 where
  pub who : (end_of x).who ≡ plan.who
  pub address : (end_of x).address ≡ plan.node
  pub first : (end_of x).first ≡ first_station plan
  pub commands : commands_by x ≡ commands_of script plan

module _ (script : Script) (playable : IsRoutePlayable script) (s : HalfState (RouterState NodeState)) (lines : List Line) (h : Holds (setting_of script playable) s lines) (issued : AreAsIssued script s) where
  master-is : (plan : EndPlan) → slice_get script.ends 0 ≡ Some plan → IsOf script {setting = setting_of script playable} {s = s} plan of_master
  master-is plan at =
      let same : plan_of_m script ≡ plan = get_or_from_slice_get script.ends 0 plan (first_plan M 0) at in
      record {
        who = sym (first-who script.ends plan playable.ends at);
        address = ap (λ (p : EndPlan). p.node) same;
        first = ap first_station same;
        commands = issued.master ∙ ap (commands_of script) same;
      }

  side-is : (p : ℕ) (side : LineStationState) (at : slice_get s.stations p ≡ Some side) (plan : EndPlan) → slice_get (station_plans script.ends) p ≡ Some plan → IsOf script {setting = setting_of script playable} {s = s} plan (of_side p side at)
  side-is p side at plan at_plan =
      let same : plan_at script p ≡ plan = get_or_from_slice_get (station_plans script.ends) p plan (first_plan M 0) at_plan in
      let node = ap (λ (q : EndPlan). q.node) same in
      record {
        who = ap S node ∙ sym (station-who script.ends p plan playable.ends at_plan);
        address = node;
        first = ap first_station same;
        commands = issued.sides p side plan at at_plan;
      }

  party-at : (k : ℕ) (plan : EndPlan) → slice_get script.ends k ≡ Some plan → (x : Party (setting_of script playable) s) × IsOf script plan x
  party-at zero plan at = (of_master, master-is plan at)
  party-at (suc p) plan at =
      let at_plan = sym (later-plan script.ends p) ∙ at in
      let number : slice_get (numbers_of script.ends) p ≡ Some plan.node = slice_get-map (λ (q : EndPlan). q.node) (station_plans script.ends) p ∙ ap (option_map (λ (q : EndPlan). q.node)) at_plan in
      let side = from-map (λ (x : LineStationState). x.number) s.stations p plan.node (ap (λ ns. slice_get ns p) h.sides_are ∙ number) in
      (of_side p side.0 side.1, side-is p side.0 side.1 plan at_plan)

  plan-of : (x : Party (setting_of script playable) s) → (plan : EndPlan) × (k : ℕ) × (slice_get script.ends k ≡ Some plan) × IsOf script plan x
  plan-of of_master =
      let at = master-first script.ends (first_plan M 0) playable.ends in
      (plan_of_m script, 0, at, master-is (plan_of_m script) at)
  plan-of (of_side p side at) =
      let was = from-map (λ (plan : EndPlan). plan.node) (station_plans script.ends) p side.number (side-number h p side at).0 in
      (was.0, suc p, later-plan script.ends p ∙ was.1, side-is p side at was.0 was.1)

  -- ---- what is executed

  apart-at : (k : ℕ) (plan : EndPlan) → slice_get script.ends k ≡ Some plan → AreApart (commands_of script plan)
  apart-at k plan at = let x = party-at k plan at in subst AreApart x.1.commands (commands-apart h x.0)

  order-at : (k l : ℕ) (to from : EndPlan) → slice_get script.ends k ≡ Some to → slice_get script.ends l ≡ Some from → IsInOrder script (record_from routed_node s lines) to from
  order-at k l to from at-to at-from =
      let t = party-at k to at-to in
      let x = party-at l from at-from in
      subst (λ (who : Who). AreSomeOf (filter (is_from from.node) (executed_in who lines)) (filter (is_for to.node) (commands_of script from))) t.1.who
      (subst (λ (n : ℕ). AreSomeOf (filter (is_from from.node) (executed_by lines t.0)) (filter (is_for n) (commands_of script from))) t.1.address
      (subst (λ (n : ℕ). AreSomeOf (filter (is_from n) (executed_by lines t.0)) (filter (is_for (end_of t.0).address) (commands_of script from))) x.1.address
      (subst (λ (l : List (List ℕ)). AreSomeOf (filter (is_from (end_of x.0).address) (executed_by lines t.0)) (filter (is_for (end_of t.0).address) l)) x.1.commands (in-order h t.0 x.0))))

  any-more : (here : Bool) (ends : List EndPlan) (node : ℕ) → IsTrue (list_any (λ (end : EndPlan). end.node == node) ends) → IsTrue (here || list_any (λ (end : EndPlan). end.node == node) ends)
  any-more true ends node any = refl
  any-more false ends node any = any

  any-at : (ends : List EndPlan) (k node : ℕ) (plan : EndPlan) → slice_get ends k ≡ Some plan → plan.node ≡ node → IsTrue (list_any (λ (end : EndPlan). end.node == node) ends)
  any-at [] k node plan at is = absurd cc
  any-at (first ∷ ends) zero node plan at is = let here : (first.node == node) ≡ true = eq-eqb _ _ (let same : first ≡ plan = cc in ap (λ (p : EndPlan). p.node) same ∙ is) in rw here refl
  any-at (first ∷ ends) (suc k) node plan at is = any-more (first.node == node) ends node (any-at ends k node plan at is)

  source-at : (k : ℕ) (to : EndPlan) → slice_get script.ends k ≡ Some to → All (λ body. IsTrue (is_address script (slice_index body 1))) (executed_in to.who lines)
  source-at k to at =
      let t = party-at k to at in
      subst (λ (who : Who). All (λ body. IsTrue (is_address script (slice_index body 1))) (executed_in who lines)) t.1.who (λ n d inside.
      let source = executed-from h t.0 _ (n, slice_get-get_or (executed_by lines t.0) n d inside) in
      let plan = plan-of source.party in
      any-at script.ends plan.1 _ plan.0 plan.2 (sym plan.3.address ∙ sym source.from))

  -- ---- replies

  reply-to : (from : EndPlan) (x : Party (setting_of script playable) s) (number : ℕ) (reply : List ℕ) → IsOf script from x → IsReplyBy lines x number reply → IsReplyTo script (record_from routed_node s lines) from number reply
  reply-to from x number reply is r =
      let to = plan-of r.by in
      record {
        to = to.0;
        is_end = contains-at script.ends to.1 to.0 to.2;
        body = r.body;
        is_command = subst (λ (l : List (List ℕ)). command_at l number ≡ Some r.body) is.commands r.is_command;
        is_for_it = eq-eqb _ _ (r.is_for_it ∙ to.3.address);
        is_answer = subst (λ (who : Who). Contains (exchanges (first_station to.0) (executed_in who lines)) (r.body, reply)) to.3.who
            (subst (λ (first : StationState). Contains (exchanges first (executed_by lines r.by)) (r.body, reply)) to.3.first r.is_answer);
      }

  answers-at : (k : ℕ) (from : EndPlan) → slice_get script.ends k ≡ Some from → All (λ a. IsReplyTo script (record_from routed_node s lines) from a.0 a.1) (answers_in from.who lines)
  answers-at k from at =
      let x = party-at k from at in
      subst (λ (who : Who). All (λ a. IsReplyTo script (record_from routed_node s lines) from a.0 a.1) (answers_in who lines)) x.1.who
      (all-as (λ a. IsReplyBy lines x.0 a.0 a.1) (λ a. IsReplyTo script (record_from routed_node s lines) from a.0 a.1) (answers_in (end_of x.0).who lines) (λ a is. reply-to from x.0 a.0 a.1 x.1 is) (answers h x.0))

  strays-at : (k : ℕ) (from : EndPlan) → slice_get script.ends k ≡ Some from → All (IsAstray script (record_from routed_node s lines) from) (strays_in from.who lines)
  strays-at k from at =
      let x = party-at k from at in
      subst (λ (who : Who). All (IsAstray script (record_from routed_node s lines) from) (strays_in who lines)) x.1.who
      (all-as (IsStrayBy lines x.0) (IsAstray script (record_from routed_node s lines) from) (strays_in (end_of x.0).who lines)
      (λ reply is. record { number = is.number; replies = reply-to from x.0 is.number reply x.1 is.replies; is_given_up = subst (λ (who : Who). Contains (given_up_in who lines) is.number) x.1.who is.is_given_up }) (strays h x.0))

  outcomes-at : (k : ℕ) (from : EndPlan) → slice_get script.ends k ≡ Some from → (n : ℕ) → length (outcomes_in from.who n lines) ≤ 1
  outcomes-at k from at n =
      let x = party-at k from at in
      subst (λ (who : Who). length (outcomes_in who n lines) ≤ 1) x.1.who (one-told h x.0 n)

  -- ---- the words

  made : (plan : EndPlan) (x : Party (setting_of script playable) s) → IsOf script plan x → (node_of x).station.tables ≡ tables_made (record_from routed_node s lines) plan
  made plan x is = ap (λ (station : StationState). station.tables) (station-made h x ∙ ap₂ (λ (first : StationState) (who : Who). station_after first (executed_in who lines)) is.first is.who)

  side-words : (p : ℕ) (side : LineStationState) (plan : EndPlan) → slice_get s.stations p ≡ Some side → slice_get (station_plans script.ends) p ≡ Some plan → words_of (S side.number) (tables_of side) ≡ words_made (record_from routed_node s lines) plan
  side-words p side plan at at_plan =
      let is = side-is p side at plan at_plan in
      let number : side.number ≡ plan.node = sym (side-number h p side at).1 ∙ is.address in
      ap₂ (λ (who : Who) (t : DataTables). words_of who t) (ap S number ∙ sym (station-who script.ends p plan playable.ends at_plan)) (made plan (of_side p side at) is)

  master-words : words_of M s.master.host.inner.station.tables ≡ words_made (record_from routed_node s lines) (plan_of_m script)
  master-words =
      let at = master-first script.ends (first_plan M 0) playable.ends in
      ap₂ (λ (who : Who) (t : DataTables). words_of who t) (sym (first-who script.ends (plan_of_m script) playable.ends at)) (made (plan_of_m script) of_master (master-is (plan_of_m script) at))

  all-words : (ends : List EndPlan) (other : EndPlan) (f : EndPlan → List WordOf) → AreHalfEnds ends → flat_map f ends ≡ f (slice_index_or ends 0 other) ++ flat_map f (station_plans ends)
  all-words [] other f are = absurd are
  all-words (master ∷ stations) other f are = refl

  -- ---- the whole

  pub routed-once : RoutedOnce script (record_from routed_node s lines)
  routed-once =
      let ends = script.ends in
      let r = record_from routed_node s lines in
      record {
        apart = λ k d inside. apart-at k _ (slice_get-get_or ends k d inside);
        in_order = λ k d inside. (λ l e within. order-at k l _ _ (slice_get-get_or ends k d inside) (slice_get-get_or ends l e within));
        sources = λ k d inside. source-at k _ (slice_get-get_or ends k d inside);
        words = ap₂ (λ (x y : List WordOf). x ++ y) master-words
            (words-same (λ side. words_of (S side.number) (tables_of side)) (words_made r) s.stations (station_plans ends) h.sides_are side-words)
            ∙ sym (all-words ends (first_plan M 0) (words_made r) playable.ends);
        answers = λ k d inside. answers-at k _ (slice_get-get_or ends k d inside);
        outcomes = λ k d inside. outcomes-at k _ (slice_get-get_or ends k d inside);
        strays = λ k d inside. strays-at k _ (slice_get-get_or ends k d inside);
      }
