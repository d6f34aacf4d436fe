-- What the master does in an undisturbed run: a command is issued, a byte is given to every station.
use Rattle.std.proofs.Common.{◌≡◌, ◌∙◌, ℕ, zero, suc, Bool, true, false, List, [], ◌∷◌, map, Option, Some, None, is_some, refl, ap, sym, subst, arith}
use Rattle.std.specs.Prelude.{IsTrue, slice_get, slice_index, unwrap_or, ◌==◌, ◌||◌, ◌&&◌, if◌then◌else◌}
use Rattle.std.specs.Option.{option_or}
use Rattle.std.proofs.lemmas.Bool.{and_parts, eqb-true, eq-eqb}
use Rattle.std.proofs.lemmas.Option.{slice_get_within}
use Rattle.df1_node.specs.Initiator.{InitiatorState, next_command, after_hand_out}
use Rattle.df1_node.specs.Node.{NodeState, next_body, after_next}
use Rattle.half_mouth.specs.Giving.{is_done}
use Rattle.half_master.specs.declared.table.Phase.{Phase}
use Rattle.half_master.specs.declared.table.Phase.TheVariants as phase
use Rattle.half_master.specs.Stations.{is_listed}
use Rattle.half_master.specs.Master as master
use Rattle.half_master.specs.Master.{MasterState, with_host, transmitted, message_next, begun_of, begun, given_next, master_after_take}
use Rattle.half_master.proofs.Changes.{take-begins}
use Rattle.half_master.proofs.LastMessage.{next-of}
use Rattle.half_master.proofs.Seen.{listed-number}
use Rattle.script_statement.specs.Statements.{is_payload}
use Rattle.script_parts.specs.HalfPlayable.{is_declared}
use Rattle.replay_report.specs.declared.record.Line.{Line}
use Rattle.each_once.proofs.MessageLengths.{body-at}
use Rattle.each_once.specs.NodeHost.{node_host}
use Rattle.each_once.proofs.Sublists.{Has, from-map}
use Rattle.half_line.specs.Behind.{plain_node}
use Rattle.half_line.specs.Acts.{LineStationState, after_issue}
use Rattle.half_line.specs.Complete.{is_to}
use Rattle.half_line.proofs.Once.MasterOutcomes.{next-has}
use Rattle.half_line.proofs.Complete.Stages.{Receipt, waits-busy, Now, Idles, Awaits, Stage, Idling}
use Rattle.half_line.proofs.Complete.StageBegins.{message-begins}
use Rattle.half_line.proofs.Complete.StageSteps.{with_given}
use Rattle.half_line.proofs.Complete.StageTicks.{stage-alike}
use Rattle.half_line.proofs.Complete.StagePlaces.{stage-given, at-given}
use Rattle.half_line.proofs.Complete.QuietLine.{done-left}
use Rattle.half_line.proofs.Complete.EarlierCommands.{next-new}
use Rattle.half_line.proofs.Complete.Origin.{Origin, mine-is}
use Rattle.half_line.proofs.Complete.Dealings.{bodies_in}
use Rattle.half_line.proofs.Complete.Ledger.{SideDealings, Ledger, ledger-issue, ledger-hands}
use Rattle.half_line.proofs.Complete.Invariant.{Course}
use Rattle.half_line.proofs.Complete.LineFacts.{Known, elsewhere, not-theirs}

-- ---- a command is issued

pub course-issue : (origin : Origin) (m : MasterState NodeState) (stations : List LineStationState) (late : ℕ) (lines : List Line) (src : Option ℕ) (dst : ℕ) (payload : List ℕ) → IsTrue (is_payload payload) → is_declared origin.setting.numbers dst ≡ true → Course origin m stations late lines
    → Course origin (after_issue plain_node m src dst payload) stations late lines
course-issue origin m stations late lines src dst payload may is c = record {
  now = c.now;
  stage = stage-alike late m (after_issue plain_node m src dst payload) stations c.now (record { ear = refl; mouth = refl; sending = refl }) refl refl c.stage;
  ledger = ledger-issue (unwrap_or src m.host.initiator.node) dst payload may is c.ledger;
}

-- ---- the next command is handed out

-- a number that is declared stands somewhere
declared-first : (m n : ℕ) (numbers : List ℕ) (same : Bool) → (m == n) ≡ same → (is_declared numbers n ≡ true → Has numbers n) → (same || is_declared numbers n) ≡ true → Has (m ∷ numbers) n
declared-first m n numbers true same later is = (zero, ap Some (eqb-true m n same))
declared-first m n numbers false same later is = let has = later is in (suc has.0, has.1)

declared-somewhere : (numbers : List ℕ) (n : ℕ) → is_declared numbers n ≡ true → Has numbers n
declared-somewhere [] n is = absurd cc
declared-somewhere (m ∷ numbers) n is = declared-first m n numbers (m == n) refl (declared-somewhere numbers n) is

-- a station of the line by its number
pub record Found (origin : Origin) (stations : List LineStationState) (n : ℕ) : Type 0 where
  pub place : ℕ
  pub side : LineStationState
  pub is_at : slice_get stations place ≡ Some side
  pub number_at : slice_get origin.setting.numbers place ≡ Some n
  pub number : side.number ≡ n

pub found : (origin : Origin) (m : MasterState NodeState) (stations : List LineStationState) (lines : List Line) (n : ℕ) → Known origin m stations lines → is_declared origin.setting.numbers n ≡ true → Found origin stations n
found origin m stations lines n k is =
    let at = declared-somewhere origin.setting.numbers n is in
    let side = from-map (λ (x : LineStationState). x.number) stations at.0 n (ap (λ (ns : List ℕ). slice_get ns at.0) k.numbers_are ∙ at.1) in
    record { place = at.0; side = side.0; is_at = side.1; number_at = at.1; number = side.2 }

-- of a master that keeps no reply
next-command : (node : NodeState) (body : List ℕ) → node.replies ≡ [] → next_body node ≡ Some body → next_command node.initiator ≡ Some body
next-command node body none next = sym (ap (λ (replies : List (List ℕ)). option_or (slice_get replies 0) (next_command node.initiator)) none) ∙ next

handed-initiator : (node : NodeState) → node.replies ≡ [] → (after_next node).initiator ≡ after_hand_out node.initiator
handed-initiator node none = ap (λ (replies : List (List ℕ)). if is_some (slice_get replies 0) then node.initiator else after_hand_out node.initiator) none

-- in which phase a message is begun
pub idle-phase : (p : Phase) → master.is_idle p ≡ true → p ≡ phase.Idle
idle-phase phase.Idle is = refl
idle-phase (phase.WaitsForAck left resent) is = absurd cc
idle-phase (phase.WaitsAfterPoll left place) is = absurd cc

may-begin : (m : MasterState NodeState) (body : List ℕ) → message_next node_host m ≡ Some body → (is_done m.mouth ≡ true) × (m.phase ≡ phase.Idle)
may-begin m body next = by-test (is_done m.mouth && master.is_idle m.phase) refl next
  where
    by-test : (may : Bool) → (is_done m.mouth && master.is_idle m.phase) ≡ may → (if may then next_body m.host else None) ≡ Some body → (is_done m.mouth ≡ true) × (m.phase ≡ phase.Idle)
    by-test true is next = let parts = and_parts (is_done m.mouth) (master.is_idle m.phase) is in (parts.0, idle-phase m.phase parts.1)
    by-test false is next = absurd cc

begins-course : (origin : Origin) (m : MasterState NodeState) (stations : List LineStationState) (late : ℕ) (lines : List Line) (body : List ℕ) → Known origin m stations lines → m.setup.check ≡ m.ear.check → is_done m.mouth ≡ true → m.phase ≡ phase.Idle → next_body m.host ≡ Some body → Idling m stations
    → Ledger origin m.host.initiator m.stations stations lines Idles m.next → Course origin (begun node_host m) stations late lines
begins-course origin m stations late lines body k check given idle nexts stage l =
    let i = m.host.initiator in
    let next = next-command m.host body k.replies_none nexts in
    let at = next-has i body next in
    let declared : is_declared origin.setting.numbers (slice_index body 0) ≡ true = l.declared at.0 body at.1 in
    let listed : is_listed m.stations (slice_index body 0) ≡ true = listed-number m.stations (slice_index body 0) ∙ ap (λ (ns : List ℕ). is_declared ns (slice_index body 0)) k.list_is ∙ declared in
    let f = found origin m stations lines (slice_index body 0) k declared in
    let fits = body-at (bodies_in i) at.0 body l.fits at.1 in
    let apart = elsewhere origin m stations lines f.place f.side k f.is_at in
    let to : is_to f.side.number body ≡ true = eq-eqb (slice_index body 0) f.side.number (sym f.number) in
    let mine = mine-is origin.issued f.side.number body (next-new origin.issued i body k.few k.numbered l.handed next) to in
    let after : MasterState NodeState = transmitted (let now : MasterState NodeState = with_host m (after_next m.host) in record now { sending = body }) 0 in
    let expects = message-begins m after stations f.place f.side body (done-left m.mouth.left given) stage.outside stage.rest f.is_at
    (λ p other there differ same. apart p other there differ (sym same))
    check fits.0 fits.1 (sym f.number) refl refl refl in
    let same : after.host.initiator ≡ after_hand_out i = handed-initiator m.host k.replies_none in
    let course : Course origin after stations late lines = record {
      now = Awaits f.place (Receipt body);
      stage = record { waits = record { left = m.setup.ack_ticks; resent = 0; phase = refl; patient = omega arith }; expects = expects };
      ledger = subst (λ (x : InitiatorState). Ledger origin x m.stations stations lines (Awaits f.place (Receipt body)) m.next) (sym same)
          (ledger-hands body f.place f.side next f.is_at (slice_get_within origin.setting.numbers f.place (slice_index body 0) f.number_at) mine (λ p other there differ. not-theirs f.side other body to (apart p other there differ)) l);
    } in
    subst (λ (e : MasterState NodeState). Course origin e stations late lines) (sym (take-begins node_host m body given idle nexts listed)) course

-- then nothing is awaited
begins-now : (origin : Origin) (m : MasterState NodeState) (stations : List LineStationState) (late : ℕ) (lines : List Line) (body : List ℕ) (now : Now) → Known origin m stations lines → m.setup.check ≡ m.ear.check → message_next node_host m ≡ Some body → Stage late m stations now
    → Ledger origin m.host.initiator m.stations stations lines now m.next → Course origin (begun node_host m) stations late lines
begins-now origin m stations late lines body Idles k check next stage l =
    let may = may-begin m body next in
    begins-course origin m stations late lines body k check may.0 may.1 (next-of node_host m body next) stage l
begins-now origin m stations late lines body (Awaits place awaited) k check next stage l =
    absurd (let no : true ≡ false = sym (ap master.is_idle (may-begin m body next).1) ∙ waits-busy late m place awaited stage.waits in cc)

begun-course : (origin : Origin) (m : MasterState NodeState) (stations : List LineStationState) (late : ℕ) (lines : List Line) (o : Option (List ℕ)) → Known origin m stations lines → m.setup.check ≡ m.ear.check → message_next node_host m ≡ o → Course origin m stations late lines
    → Course origin (begun_of node_host m o) stations late lines
begun-course origin m stations late lines None k check next c = c
begun-course origin m stations late lines (Some body) k check next c =
    subst (λ (o : Option (List ℕ)). Course origin (begun_of node_host m o) stations late lines) next (begins-now origin m stations late lines body c.now k check next c.stage c.ledger)

-- ---- a byte is given

ledger-given : {origin : Origin} {stations : List LineStationState} {lines : List Line} {now : Now} (e : MasterState NodeState) → Ledger origin e.host.initiator e.stations stations lines now e.next → Ledger origin e.host.initiator e.stations (map (with_given e) stations) lines now e.next
ledger-given {origin = origin} {stations = stations} {lines = lines} {now = now} e l = record {
  some = l.some;
  some_of = l.some_of;
  fits = l.fits;
  declared = l.declared;
  enough = l.enough;
  handed = l.handed;
  turn = l.turn;
  sides = λ p side at.
      let was = at-given e stations p side at in
      subst (λ (x : LineStationState). SideDealings origin e.host.initiator e.stations lines now e.next p x) was.2 (l.sides p was.0 was.1);
}

given-course : (origin : Origin) (e : MasterState NodeState) (stations : List LineStationState) (late : ℕ) (lines : List Line) → Course origin e stations late lines → Course origin (given_next e) (map (with_given e) stations) late lines
given-course origin e stations late lines c = record { now = c.now; stage = stage-given late e stations c.now c.stage; ledger = ledger-given e c.ledger }

pub course-give : (origin : Origin) (m : MasterState NodeState) (stations : List LineStationState) (late : ℕ) (lines : List Line) → Known origin m stations lines → m.setup.check ≡ m.ear.check → Course origin m stations late lines
    → Course origin (master_after_take node_host m) (map (with_given (begun node_host m)) stations) late lines
course-give origin m stations late lines k check c =
    given-course origin (begun node_host m) stations late lines (begun-course origin m stations late lines (message_next node_host m) k check refl c)
