-- Over a whole run that nothing disturbs, and that ends with nothing under way and no reply left at a station: each command executed and answered.
use Rattle.std.proofs.Common.{◌≡◌, ◌∙◌, ℕ, zero, suc, ◌*◌, ◌<◌, ◌≤◌, Bool, true, false, List, [], ◌∷◌, ◌++◌, length, map, get_or, Option, Some, None, refl, ap, sym, subst, append-nil, arith}
use Rattle.std.specs.Prelude.{slice_get, slice_index, slice_index_or, ◌&&◌}
use Rattle.std.specs.List.{filter, list_all}
use Rattle.std.specs.Option.{option_or}
use Rattle.std.proofs.lemmas.Bool.{eq-eqb}
use Rattle.std.proofs.lemmas.List.{length-map}
use Rattle.std.proofs.lemmas.Option.{slice_get-get_or, get_or_from_slice_get}
use Rattle.df1_check.specs.declared.Check.{Check}
use Rattle.end_settings.specs.declared.key.EndKey.TheVariants.{ReplyTicks}
use Rattle.df1_node.specs.Answer.{StationState}
use Rattle.df1_node.specs.Initiator.{Issued, Waiting, next_command}
use Rattle.df1_node.specs.Node.{NodeState, next_body}
use Rattle.half_master.specs.Stations.{is_listed}
use Rattle.half_master.proofs.Seen.{listed-number}
use Rattle.script_statement.specs.declared.who.Who.TheVariants.{M, S}
use Rattle.script_parts.specs.declared.script.EndPlan.{EndPlan}
use Rattle.script_parts.specs.declared.script.Script.{Script}
use Rattle.script_parts.specs.HalfPlayable.{AreHalfEnds, IsHalfPlayable, is_declared, station_plans}
use Rattle.script_parts.specs.Plans.{first_plan}
use Rattle.replay_report.specs.declared.record.Line.{Line}
use Rattle.outset.specs.Outset.{first_station}
use Rattle.each_once.specs.BySource.{AreOnceOf, AreAllOf}
use Rattle.each_once.specs.Exchanges.{replies_to}
use Rattle.each_once.specs.Tells.{executed_in}
use Rattle.each_once.proofs.CommandsUnderWay.{IsDone, all-done, under-way-full, body-of}
use Rattle.each_once.proofs.HandedOut.{waits_of}
use Rattle.each_once.proofs.OneDirection.{way-within}
use Rattle.each_once.proofs.RisingPlaces.{passing-in-turn}
use Rattle.half_line.specs.Behind.{plain_node}
use Rattle.half_line.specs.Acts.{LineStationState, HalfState}
use Rattle.half_line.specs.Complete.{is_to, AllDoneAt, IsAnsweredByOne, IsComplete}
use Rattle.half_line.specs.Issues.{commands_of_m, issued_of, bodies_of}
use Rattle.half_line.specs.Prompt.{HasTurns, is_quiet, is_fetched, IsUndisturbed}
use Rattle.half_line.specs.Rest.{is_resting, is_at_rest}
use Rattle.half_line.specs.Run.{first_side, plan_of_m, start, lines_after, last_state, record_from}
use Rattle.half_line.proofs.Once.EachStation.{plan_at, setting_of, holds-start, side-of, each-once}
use Rattle.half_line.proofs.Once.Invariant.{marks, Setting, Holds}
use Rattle.half_line.proofs.Once.LinesOfStation.{executed-same}
use Rattle.half_line.proofs.Once.MasterCommands.{issued-run}
use Rattle.half_line.proofs.Once.MasterOutcomes.{next-has, outcomes-run}
use Rattle.half_line.proofs.Wire.FirstState.{first-quiet}
use Rattle.half_line.proofs.Complete.AnsweredCommands.{AreSettled, are-settled, done-or-waits, one-answered}
use Rattle.half_line.proofs.Complete.Invariant.{Flow}
use Rattle.half_line.proofs.Complete.Ledger.{told_in, Ledger}
use Rattle.half_line.proofs.Complete.LineFacts.{Known, known}
use Rattle.half_line.proofs.Complete.Origin.{Origin}
use Rattle.half_line.proofs.Complete.QuietLine.{nothing-ready}
use Rattle.half_line.proofs.Complete.RestingLine.{are-short, ends-after}
use Rattle.half_line.proofs.Complete.Stages.{Idles}

-- ---- the first state

-- before the first event the line is at rest
sides-rest : (check : Check) (plans : List EndPlan) → list_all is_resting (map (first_side check) plans) ≡ true
sides-rest check [] = refl
sides-rest check (plan ∷ plans) = sides-rest check plans

pub first-rests : (script : Script) → is_at_rest (start script) ≡ true
first-rests script = by-tests (is_quiet (start script)) (list_all is_resting (start script).stations) (first-quiet script) (sides-rest script.check (station_plans script.ends))
  where
    by-tests : (quiet rest : Bool) → quiet ≡ true → rest ≡ true → (quiet && rest) ≡ true
    by-tests true true quiet rest = refl
    by-tests true false quiet rest = absurd cc
    by-tests false rest quiet more = absurd cc

-- it is looked at from there
abbrev from_first : Setting → Origin
from_first setting = record { setting = setting; lines = []; issued = [] }

-- ---- where nothing is under way and no reply is left, each command is answered

-- the master has none to hand out
none-waits : (origin : Origin) (s : HalfState NodeState) (lines : List Line) (o : Option (List ℕ)) → next_command s.master.host.initiator ≡ o → Known origin s.master s.stations lines → ((body : List ℕ) → next_body s.master.host ≡ Some body → is_listed s.master.stations (slice_index body 0) ≡ true → ⊥)
    → Ledger origin s.master.host.initiator s.master.stations s.stations lines Idles s.master.next → next_command s.master.host.initiator ≡ None
none-waits origin s lines None is k n l = is
none-waits origin s lines (Some body) is k n l =
    let m = s.master in
    let at = next-has m.host.initiator body is in
    let listed : is_listed m.stations (slice_index body 0) ≡ true = listed-number m.stations (slice_index body 0) ∙ ap (λ (ns : List ℕ). is_declared ns (slice_index body 0)) k.list_is ∙ l.declared at.0 body at.1 in
    absurd (n body (ap (λ (replies : List (List ℕ)). option_or (slice_get replies 0) (next_command m.host.initiator)) k.replies_none ∙ is) listed)

-- so all are answered
record AllAnswered (setting : Setting) (s : HalfState NodeState) (lines : List Line) : Type 0 where
  settled : AreSettled (from_first setting) s lines
  each : (k : ℕ) (c : Issued) → slice_get (issued_of s.master) k ≡ Some c → IsDone c.standing

all-answered : (setting : Setting) (s : HalfState NodeState) (late : ℕ) (lines : List Line) → Known (from_first setting) s.master s.stations lines → is_quiet s ≡ true → is_fetched s ≡ true → Flow (from_first setting) s late lines → AllAnswered setting s lines
all-answered setting s late lines k quiet fetched f =
    let c = f.course in
    let a = are-settled (from_first setting) s late lines quiet fetched f in
    let l = a.ledger in
    let i = s.master.host.initiator in
    let none = none-waits (from_first setting) s lines (next_command i) refl k (λ body. nothing-ready late s c.now body c.stage quiet) l in
    record { settled = a; each = all-done i l.some l.some_of none (λ n c at. done-or-waits (from_first setting) s lines k a n c at refl) }

-- ---- what the record tells of one station

-- a station and the commands
record DoneAt (first : StationState) (number : ℕ) (bodies : List (List ℕ)) (lines : List Line) : Type 0 where
  executed : AreAllOf (executed_in (S number) lines) (filter (is_to number) bodies)
  replied : told_in number lines ≡ replies_to first (executed_in (S number) lines)

done-at : (setting : Setting) (count : ℕ) (s : HalfState NodeState) (lines : List Line) (p : ℕ) (side : LineStationState) → slice_get s.stations p ≡ Some side → Holds setting count s lines → AllAnswered setting s lines → DoneAt (setting.first p) side.number (bodies_of s.master) lines
done-at setting count s lines p side at h a =
    let n = side.number in
    let i = s.master.host.initiator in
    let this = h.sides p side at in
    let settles = a.settled.settles p side at in
    let same : this.executed ≡ executed_in (S n) lines = sym this.told.executes ∙ executed-same n (S n) lines in
    let within = way-within h.commands (marks side.to_it) side.slave.kept this.executed this.way in
    let once : AreOnceOf this.executed (filter (is_to n) (bodies_of s.master)) = passing-in-turn (is_to n) this.executed h.commands (bodies_of s.master) (waits_of i.issued) within h.master.issues.initiates.in_order (λ k body is. eq-eqb (slice_index body 0) n (this.to_it k body is)) in
    let full = under-way-full (is_to n) i (executed_in (S n) lines ++ []) (length (told_in n lines)) _ settles.under_way a.each in
    record {
      executed = (subst (λ (xs : List (List ℕ)). AreOnceOf xs (filter (is_to n) (bodies_of s.master))) same once, ap length (sym (append-nil (executed_in (S n) lines))) ∙ full);
      replied = settles.replied;
    }

-- ---- a run

at-plan : (script : Script) (playable : IsHalfPlayable script) (count : ℕ) (s : HalfState NodeState) (lines : List Line) (p : ℕ) (plan : EndPlan) → bodies_of s.master ≡ commands_of_m script → Holds (setting_of script playable) count s lines → AllAnswered (setting_of script playable) s lines
    → slice_get (station_plans script.ends) p ≡ Some plan → AllDoneAt script (record_from plain_node s lines) plan
at-plan script playable count s lines p plan bodies h a at =
    let plans = station_plans script.ends in
    let side = side-of (setting_of script playable) count s lines plans p plan refl h at in
    let first : plan_at script p ≡ plan = get_or_from_slice_get plans p plan (first_plan M 0) at in
    let all : DoneAt (first_station plan) plan.node (commands_of_m script) lines =
    subst (λ (x : EndPlan). DoneAt (first_station x) plan.node (commands_of_m script) lines) first
    (subst (λ (bs : List (List ℕ)). DoneAt (first_station (plan_at script p)) plan.node bs lines) bodies
    (subst (λ (n : ℕ). DoneAt (first_station (plan_at script p)) n (bodies_of s.master) lines) side.2 (done-at (setting_of script playable) count s lines p side.0 side.1 h a))) in
    record { executed = all.executed; replied = all.replied }

by-number : (script : Script) (s : HalfState NodeState) (lines : List Line) → length (issued_of s.master) ≡ length (commands_of_m script) → ((k : ℕ) (c : Issued) → slice_get (issued_of s.master) k ≡ Some c → IsAnsweredByOne script (record_from plain_node s lines) (suc k))
    → (n : ℕ) → 1 ≤ n → n ≤ length (commands_of_m script) → IsAnsweredByOne script (record_from plain_node s lines) n
by-number script s lines count each zero least most = absurd (omega (arith, least))
by-number script s lines count each (suc k) least most =
    let none : Issued = record { body = []; standing = Waiting } in
    each k (get_or (issued_of s.master) k none) (slice_get-get_or (issued_of s.master) k none (omega (arith, count, most)))

pub is-complete : (script : Script) → IsHalfPlayable script → IsUndisturbed script → IsComplete script (record_from plain_node (last_state script) (lines_after plain_node (start script) script.events))
is-complete script playable undisturbed =
    let s = last_state script in
    let lines = lines_after plain_node (start script) script.events in
    let setting = setting_of script playable in
    let plans = station_plans script.ends in
    let short = are-short script playable in
    let e = ends-after script playable [] script.events refl undisturbed.rooms undisturbed.turns (first-rests script) refl (holds-start script playable) undisturbed.prompt in
    let f = e.along.flow in
    let h = e.along.kept f.honest in
    let k = known (from_first setting) e.count s lines e.few short h in
    let a = all-answered setting s e.late lines k undisturbed.quiet undisturbed.fetched f in
    let bodies : bodies_of s.master ≡ commands_of_m script = (issued-run script).bodies in
    let told = outcomes-run script playable in
    let once = each-once script playable bodies told f.honest in
    record {
      honest = f.honest;
      stations = λ n d inside. at-plan script playable e.count s lines n _ bodies h a (slice_get-get_or plans n d inside);
      answered = by-number script s lines (sym (length-map (issued_of s.master) (λ (c : Issued). c.body)) ∙ ap length bodies)
          (λ n c at. one-answered script playable e.count s [] [] lines n c told once k h (a.settled.ledger.declared n c.body (body-of (issued_of s.master) n c at)) (a.each n c at) at);
    }

-- ---- one command out

one-turn-of : (ends : List EndPlan) → AreHalfEnds ends → (other : EndPlan) → (slice_index_or ends 0 other).window ≡ 1 → (slice_index_or ends 0 other).window * length (station_plans ends) < (slice_index_or ends 0 other).reply_ticks
one-turn-of [] are other one = absurd are
one-turn-of (master ∷ stations) are other one =
    let few = are.2.at_most in
    let count = length-map stations (λ (plan : EndPlan). plan.node) in
    let long = (are.0.settings ReplyTicks).0 in
    let times : master.window * length stations ≡ 1 * length stations = ap (λ (n : ℕ). n * length stations) one in
    let once : 1 * length stations ≡ length stations = omega arith in
    omega (arith, few, count, long, times, once)

pub one-turn : (script : Script) → IsHalfPlayable script → (plan_of_m script).window ≡ 1 → HasTurns script
one-turn script playable one = one-turn-of script.ends playable.ends (first_plan M 0) one
