-- What is so where nothing is under way and no reply is left at a station: each command that was handed out, from where on the run is looked at, is answered, by what its station answered to it.
use Rattle.std.proofs.Common.{◌≡◌, ◌∙◌, ℕ, suc, true, false, is_none, List, [], ◌∷◌, ◌++◌, length, Option, Some, refl, ap, sym, subst, append-nil}
use Rattle.std.specs.Prelude.{slice_get, slice_index}
use Rattle.std.specs.List.{list_all}
use Rattle.std.proofs.lemmas.Bool.{eq-eqb}
use Rattle.pccc_envelope.specs.declared.key.Key.{Key}
use Rattle.df1_node.specs.Answer.{StationState}
use Rattle.df1_node.specs.Initiator.{Issued, Standing, Answered, InitiatorState}
use Rattle.df1_node.specs.Node.{NodeState}
use Rattle.half_slave.specs.Slave.{SlaveState}
use Rattle.script_statement.specs.declared.who.Who.TheVariants.{M, S}
use Rattle.script_parts.specs.declared.script.EndPlan.{EndPlan}
use Rattle.script_parts.specs.declared.script.Script.{Script}
use Rattle.script_parts.specs.HalfPlayable.{IsHalfPlayable, is_declared, numbers_of, station_plans}
use Rattle.replay_report.specs.declared.record.Line.{Line}
use Rattle.outset.specs.Outset.{first_station}
use Rattle.each_once.specs.Commands.{AreOutcomesTold}
use Rattle.each_once.specs.Exchanges.{exchanges}
use Rattle.each_once.specs.Once.{IsReplyTo}
use Rattle.each_once.specs.Tells.{executed_in, answers_in}
use Rattle.each_once.specs.OfStation.{lines_of as own_lines}
use Rattle.each_once.proofs.AnsweredCommands.{IsAmong, answered-at}
use Rattle.each_once.proofs.AnsweringStation.{replies_to}
use Rattle.each_once.proofs.CommandsUnderWay.{AreUnderWay, IsDone, IsDoneOrWaits, body-of, under-way-rested}
use Rattle.each_once.proofs.HandedOut.{IsSettledBy, settled-at}
use Rattle.each_once.proofs.Sublists.{all-at, from-map, contains-at}
use Rattle.half_line.specs.Behind.{plain_node}
use Rattle.half_line.specs.Acts.{LineStationState, HalfState}
use Rattle.half_line.specs.Complete.{is_to, exchanges_at, IsAnsweredByOne}
use Rattle.half_line.specs.Issues.{commands_of_m, issued_of}
use Rattle.half_line.specs.Once.{OnceAtStation, EachOnce}
use Rattle.half_line.specs.Prompt.{is_quiet, keeps_none, is_fetched}
use Rattle.half_line.specs.Run.{record_from}
use Rattle.half_line.proofs.Once.EachStation.{setting_of}
use Rattle.half_line.proofs.Once.Invariant.{Holds}
use Rattle.half_line.proofs.Once.LinesOfStation.{executed-same, own-answer}
use Rattle.half_line.proofs.Complete.Dealings.{Dealings, none-left}
use Rattle.half_line.proofs.Complete.EarlierCommands.{is_new}
use Rattle.half_line.proofs.Complete.Invariant.{Flow}
use Rattle.half_line.proofs.Complete.Ledger.{told_in, Ledger}
use Rattle.half_line.proofs.Complete.LineFacts.{Known, from-here}
use Rattle.half_line.proofs.Complete.MasterStep.{found}
use Rattle.half_line.proofs.Complete.Origin.{Origin, station_from, is_mine, mine-is}
use Rattle.half_line.proofs.Complete.StagePlaces.{awaits-busy}
use Rattle.half_line.proofs.Complete.Stages.{Now, Idles, Awaits, Stage, both, all-at as test-at}
use Rattle.half_line.proofs.Complete.Turns.{least_of}

-- ---- the dealings there

-- nothing is on its way to a station or from one
quiet-now : {origin : Origin} {lines : List Line} (s : HalfState NodeState) (late : ℕ) (now : Now) → Stage late s.master s.stations now → is_quiet s ≡ true → Ledger origin s.master.host.initiator s.master.stations s.stations lines now s.master.next
    → Ledger origin s.master.host.initiator s.master.stations s.stations lines Idles s.master.next
quiet-now s late Idles stage quiet l = l
quiet-now s late (Awaits place awaited) stage quiet l = absurd (awaits-busy late s place awaited stage quiet)

pub none-first : (replies : List (List ℕ)) → is_none (slice_get replies 0) ≡ true → replies ≡ []
none-first [] none = refl
none-first (reply ∷ replies) none = absurd cc

no-replies : (stations : List LineStationState) → list_all keeps_none stations ≡ true → (p : ℕ) (side : LineStationState) → slice_get stations p ≡ Some side → side.slave.host.replies ≡ []
no-replies stations all p side at =
    let replies = side.slave.host.replies in
    none-first replies (both (is_none (slice_get replies 0)) (is_none side.slave.held) (test-at keeps_none stations p side all at)).0

-- so each station's replies were all accepted, and the commands for it that were handed out are answered
pub record Settled (before : List Issued) (first : StationState) (number : ℕ) (i : InitiatorState) (lines : List Line) (least : ℕ → ℕ) : Type 0 where
  pub replied : told_in number lines ≡ replies_to first (executed_in (S number) lines)
  pub count : length (told_in number lines) ≡ length (executed_in (S number) lines ++ [])
  pub under_way : AreUnderWay (is_mine before number) i (executed_in (S number) lines ++ []) (length (told_in number lines)) least

settled : {before : List Issued} {first : StationState} {number : ℕ} {i : InitiatorState} {kept : Option Key} {s : SlaveState NodeState} {least : ℕ → ℕ} (lines : List Line) → s.host.replies ≡ [] → Dealings before first number i (executed_in (S number) lines) (told_in number lines) [] [] kept s least
    → Settled before first number i lines least
settled {number = number} lines none d =
    let told = told_in number lines in
    record {
      replied = sym (append-nil told) ∙ ap (λ (rs : List (List ℕ)). told ++ rs) (sym none) ∙ sym d.replies;
      count = none-left none d;
      under_way = d.under_way;
    }

-- of all stations
pub record AreSettled (origin : Origin) (s : HalfState NodeState) (lines : List Line) : Type 0 where
  pub ledger : Ledger origin s.master.host.initiator s.master.stations s.stations lines Idles s.master.next
  pub settles : (p : ℕ) (side : LineStationState) → slice_get s.stations p ≡ Some side
      → Settled origin.issued (station_from origin p side.number) side.number s.master.host.initiator lines (λ j. least_of (length origin.setting.numbers) s.master.next false p j)

pub are-settled : (origin : Origin) (s : HalfState NodeState) (late : ℕ) (lines : List Line) → is_quiet s ≡ true → is_fetched s ≡ true → Flow origin s late lines → AreSettled origin s lines
are-settled origin s late lines quiet fetched f =
    let c = f.course in
    let l = quiet-now s late c.now c.stage quiet c.ledger in
    record { ledger = l; settles = λ p side at. settled lines (no-replies s.stations fetched p side at) (l.sides p side at) }

-- ---- a command that wasn't handed out before is answered, or waits

pub done-or-waits : (origin : Origin) (s : HalfState NodeState) (lines : List Line) → Known origin s.master s.stations lines → AreSettled origin s lines → (n : ℕ) (c : Issued) → slice_get (issued_of s.master) n ≡ Some c → is_new origin.issued c.body ≡ true → IsDoneOrWaits c.standing
done-or-waits origin s lines k a n c at new =
    let i = s.master.host.initiator in
    let found = found origin s.master s.stations lines (slice_index c.body 0) k (a.ledger.declared n c.body (body-of i.issued n c at)) in
    let number = found.side.number in
    let this = a.settles found.place found.side found.is_at in
    under-way-rested (is_mine origin.issued number) i (executed_in (S number) lines ++ []) (length (told_in number lines)) _ this.count this.under_way n c at
    (mine-is origin.issued number c.body new (eq-eqb (slice_index c.body 0) number (sym found.number)))

-- ---- what is told of one that is answered

-- in a run of a script, looked at from where this was told and the master's commands stood so
abbrev pub origin_at : (script : Script) → IsHalfPlayable script → List Line → List Issued → Origin
origin_at script playable lines issued = record { setting = setting_of script playable; lines = lines; issued = issued }

-- its answer is the reply of the station that it was issued to
reply-of : (script : Script) (playable : IsHalfPlayable script) (count : ℕ) (s : HalfState NodeState) (lines : List Line) (k : ℕ) (c : Issued) (plan : EndPlan) (reply : List ℕ) → Holds (setting_of script playable) count s lines → OnceAtStation script (record_from plain_node s lines) plan → slice_get (issued_of s.master) k ≡ Some c
    → is_to plan.node c.body ≡ true → c.standing ≡ Answered reply → IsAmong (suc k) reply (answers_in M lines) → IsReplyTo (commands_of_m script) (exchanges_at (record_from plain_node s lines) plan) (suc k) reply
reply-of script playable count s lines k c plan reply h o at to stands among =
    let n = plan.node in
    let settles : IsSettledBy h.heard c.body (Answered reply) = subst (λ (x : Standing). IsSettledBy h.heard c.body x) stands (settled-at h.heard (issued_of s.master) k c h.master.issues.initiates.settled at) in
    let own = own-answer n (suc k) reply lines among.0 (from-here n c.body reply settles.1 to) among.1 in
    let same : executed_in (S n) (own_lines n lines) ≡ executed_in (S n) lines = executed-same n (S n) lines in
    subst (λ (xs : List (List ℕ)). IsReplyTo (commands_of_m script) (exchanges (first_station plan) xs) (suc k) reply) same
    (all-at (λ a. IsReplyTo (commands_of_m script) (exchanges (first_station plan) (executed_in (S n) (own_lines n lines))) a.0 a.1) (answers_in M (own_lines n lines)) own.0 (suc k, reply) o.once.answers own.1)

pub one-answered : (script : Script) (playable : IsHalfPlayable script) (count : ℕ) (s : HalfState NodeState) (before : List Line) (issued : List Issued) (lines : List Line) (k : ℕ) (c : Issued) → AreOutcomesTold M (issued_of s.master) (before ++ lines) → EachOnce script (record_from plain_node s (before ++ lines))
    → Known (origin_at script playable before issued) s.master s.stations lines → Holds (setting_of script playable) count s (before ++ lines) → is_declared (numbers_of script.ends) (slice_index c.body 0) ≡ true → IsDone c.standing → slice_get (issued_of s.master) k ≡ Some c → IsAnsweredByOne script (record_from plain_node s (before ++ lines)) (suc k)
one-answered script playable count s before issued lines k c told once known h declared done at =
    let all = before ++ lines in
    let plans = station_plans script.ends in
    let f = found (origin_at script playable before issued) s.master s.stations lines (slice_index c.body 0) known declared in
    let plan = from-map (λ (x : EndPlan). x.node) plans f.place (slice_index c.body 0) f.number_at in
    let o = all-at (OnceAtStation script (record_from plain_node s all)) plans f.place plan.0 once.stations plan.1 in
    record {
      plan = plan.0;
      is_station = contains-at plans f.place plan.0 plan.1;
      answered = answered-at M (commands_of_m script) (exchanges_at (record_from plain_node s all) plan.0) (issued_of s.master) all told k c at done
          (λ reply stands among. reply-of script playable count s all k c plan.0 reply h o at (eq-eqb (slice_index c.body 0) plan.0.node (sym plan.2)) stands among);
    }
