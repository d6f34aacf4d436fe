-- The dealings of the master with all stations in an undisturbed run, by what is awaited; and what the master and time change of them.
use Rattle.std.proofs.Common.{◌≡◌, ◌∙◌, ℕ, ◌+◌, ◌*◌, ◌<◌, ◌≤◌, Bool, true, false, List, [], ◌∷◌, ◌++◌, length, map, Option, Some, refl, ap, sym, subst, append-nil}
use Rattle.std.specs.Prelude.{IsTrue, slice_get, ◌==◌, if◌then◌else◌}
use Rattle.std.proofs.lemmas.Bool.{eq-eqb, eqb-true, ne_eqb}
use Rattle.std.proofs.lemmas.List.{map-append}
use Rattle.std.proofs.lemmas.List.Elements.{filter_map-append}
use Rattle.df1_node.specs.Initiator.{Issued, InitiatorState, Waiting, next_command, next_issued, after_issue, after_hand_out}
use Rattle.half_slave.specs.Slave.{SlaveState}
use Rattle.pccc_envelope.specs.declared.key.Key.{Key}
use Rattle.df1_node.specs.Answer.{StationState}
use Rattle.df1_node.specs.Node.{NodeState}
use Rattle.each_once.proofs.CommandsUnderWay.{IsTickFewer}
use Rattle.half_master.specs.declared.stations.Station.{Station}
use Rattle.half_master.specs.Keys.{kept_at}
use Rattle.script_statement.specs.Statements.{is_payload}
use Rattle.script_statement.specs.declared.who.Who.TheVariants.{M, S}
use Rattle.script_parts.specs.HalfPlayable.{is_declared}
use Rattle.replay_report.specs.declared.record.Line.{Line}
use Rattle.each_once.specs.OfStation.{lines_of}
use Rattle.each_once.specs.Tells.{answer_at, executed_at, answers_in, executed_in}
use Rattle.each_once.proofs.CommandBodies.{bodies-hand_out, bodies-tick}
use Rattle.each_once.proofs.MessageLengths.{AreBodies, issued-fits}
use Rattle.half_line.specs.Acts.{LineStationState}
use Rattle.half_line.specs.Complete.{is_to}
use Rattle.half_line.proofs.Once.LinesOfStation.{executed-same}
use Rattle.half_line.proofs.Once.MasterOutcomes.{AreDeclared, declared-push}
use Rattle.half_line.proofs.Once.QuietLines.{IsSilentOf, lines-both}
use Rattle.half_line.proofs.Complete.EarlierCommands.{AreStillHanded, still-issue, still-hand_out, still-tick}
use Rattle.half_line.proofs.Complete.Origin.{Origin, station_from, is_mine}
use Rattle.half_line.proofs.Complete.Dealings.{Dealings, bodies_in, alike, ticked_all, dealings-issue, dealings-hands, dealings-hands-other, dealings-tick, dealings-rests}
use Rattle.half_line.proofs.Complete.StagePlaces.{each-place}
use Rattle.half_line.proofs.Complete.Turns.{after_turn, is_polled, least_of, least-polled, least-other, least-fits, turn-within}
use Rattle.half_line.proofs.Complete.Stages.{Receipt, Polling, Ack, Eot, Message, Now, Idles, Awaits}

-- ---- what is on its way to a station, and from it, by what is awaited

abbrev pub at_place : ℕ → ℕ → List ℕ → List (List ℕ)
at_place place p body = if place == p then body ∷ [] else []

-- the command
abbrev pub going : Now → ℕ → List (List ℕ)
going Idles p = []
going (Awaits place (Receipt body)) p = at_place place p body
going (Awaits place Polling) p = []
going (Awaits place Ack) p = []
going (Awaits place Eot) p = []
going (Awaits place (Message reply)) p = []

-- the reply
abbrev pub back : Now → ℕ → List (List ℕ)
back Idles p = []
back (Awaits place (Receipt body)) p = []
back (Awaits place Polling) p = []
back (Awaits place Ack) p = []
back (Awaits place Eot) p = []
back (Awaits place (Message reply)) p = at_place place p reply

pub at-here : (place : ℕ) (body : List ℕ) → at_place place place body ≡ body ∷ []
at-here place body = rw (eq-eqb place place refl) refl

pub at-other : (place p : ℕ) (body : List ℕ) → (p ≡ place → ⊥) → at_place place p body ≡ []
at-other place p body differ = rw (ne_eqb place p (λ same. differ (sym same))) refl

-- ---- the line

-- the replies that the master accepted of a station
abbrev pub told_in : ℕ → List Line → List (List ℕ)
told_in number lines = map (λ a. a.1) (answers_in M (lines_of number lines))

abbrev pub SideDealings : Origin → InitiatorState → List Station → List Line → Now → ℕ → ℕ → LineStationState → Type 0
SideDealings origin i listed lines now next p side = Dealings origin.issued (station_from origin p side.number) side.number i (executed_in (S side.number) lines) (told_in side.number lines) (going now p) (back now p) (kept_at listed p) side.slave (λ j. least_of (length origin.setting.numbers) next (is_polled now p) p j)

-- of a master with this initiator and this list, which polls the station at this place next; it waits long enough for its commands' turns; what
-- it had handed out before stays so; the lines are those from there on
pub record Ledger (origin : Origin) (i : InitiatorState) (listed : List Station) (stations : List LineStationState) (lines : List Line) (now : Now) (next : ℕ) : Type 0 where
  pub some : 1 ≤ i.window
  pub some_of : 1 ≤ i.per_source
  pub fits : AreBodies (bodies_in i)
  pub declared : AreDeclared origin.setting.numbers (bodies_in i)
  pub enough : i.window * length origin.setting.numbers < i.reply_ticks
  pub handed : AreStillHanded origin.issued i.issued
  pub turn : (p : ℕ) → p < length origin.setting.numbers → next < length origin.setting.numbers
  pub sides : (p : ℕ) (side : LineStationState) → slice_get stations p ≡ Some side → SideDealings origin i listed lines now next p side

-- otherwise written, and of the same station known that it is polled
pub alike-now : {before : List Issued} {first : StationState} {number : ℕ} {i : InitiatorState} {executed told going_then back_then : List (List ℕ)} {kept : Option Key} {s : SlaveState NodeState} (n next p : ℕ) (polled polled_now : Bool) (going_now back_now : List (List ℕ)) → going_then ≡ going_now → back_then ≡ back_now → polled ≡ polled_now
    → Dealings before first number i executed told going_then back_then kept s (λ j. least_of n next polled p j) → Dealings before first number i executed told going_now back_now kept s (λ j. least_of n next polled_now p j)
alike-now {before = before} {first = first} {number = number} {i = i} {executed = executed} {told = told} {going_then = going_then} {back_then = back_then} {kept = kept} {s = s} n next p polled polled_now going_now back_now same_going same_back same d =
    alike executed executed told told going_then going_now back_then back_now refl refl same_going same_back
    (subst (λ (b : Bool). Dealings before first number i executed told going_then back_then kept s (λ j. least_of n next b p j)) same d)

-- the same is on its way, whatever else is awaited, and the same station is polled
pub ledger-now : {origin : Origin} {i : InitiatorState} {listed : List Station} {stations : List LineStationState} {lines : List Line} {now : Now} {next : ℕ} (after : Now) → ((p : ℕ) → going now p ≡ going after p) → ((p : ℕ) → back now p ≡ back after p) → ((p : ℕ) → is_polled now p ≡ is_polled after p)
    → Ledger origin i listed stations lines now next → Ledger origin i listed stations lines after next
ledger-now {origin = origin} {now = now} {next = next} after same_going same_back same l = record {
  some = l.some;
  some_of = l.some_of;
  fits = l.fits;
  declared = l.declared;
  enough = l.enough;
  handed = l.handed;
  turn = l.turn;
  sides = λ p side at. alike-now (length origin.setting.numbers) next p (is_polled now p) (is_polled after p) (going after p) (back after p) (same_going p) (same_back p) (same p) (l.sides p side at);
}

-- the station that was polled has no reply, so that it has executed no command that isn't answered
pub ledger-ends : {origin : Origin} {i : InitiatorState} {listed : List Station} {stations : List LineStationState} {lines : List Line} {next : ℕ} (place : ℕ) (side : LineStationState) → slice_get stations place ≡ Some side → side.slave.host.replies ≡ []
    → Ledger origin i listed stations lines (Awaits place Polling) next → Ledger origin i listed stations lines (Awaits place Eot) next
ledger-ends {origin = origin} {i = i} {listed = listed} {stations = stations} {lines = lines} {next = next} place side at none l = record {
  some = l.some;
  some_of = l.some_of;
  fits = l.fits;
  declared = l.declared;
  enough = l.enough;
  handed = l.handed;
  turn = l.turn;
  sides = each-place (λ p x. SideDealings origin i listed lines (Awaits place Eot) next p x) stations place side at
      (dealings-rests (λ j. least_of (length origin.setting.numbers) next false place j) none (l.sides place side at))
      (λ p other there differ. alike-now (length origin.setting.numbers) next p (place == p) false [] [] refl refl (ne_eqb place p (λ same. differ (sym same))) (l.sides p other there));
}

-- ---- more is told, but of no command and no answer

pub more-executed : (number : ℕ) (lines more : List Line) (told : List (List ℕ)) → executed_in (S number) more ≡ told → executed_in (S number) lines ++ told ≡ executed_in (S number) (lines ++ more)
more-executed number lines more told is = ap (λ (xs : List (List ℕ)). executed_in (S number) lines ++ xs) (sym is) ∙ sym (filter_map-append (executed_at (S number)) lines more)

pub more-told : (number : ℕ) (lines more : List Line) (told : List (ℕ × List ℕ)) → answers_in M (lines_of number more) ≡ told → told_in number lines ++ map (λ a. a.1) told ≡ told_in number (lines ++ more)
more-told number lines more told is =
    ap (λ (xs : List (ℕ × List ℕ)). told_in number lines ++ map (λ a. a.1) xs) (sym is)
    ∙ sym (map-append (λ (a : ℕ × List ℕ). a.1) (answers_in M (lines_of number lines)) (answers_in M (lines_of number more)))
    ∙ ap (map (λ (a : ℕ × List ℕ). a.1)) (sym (filter_map-append (answer_at M) (lines_of number lines) (lines_of number more)) ∙ ap (λ (all : List Line). answers_in M all) (sym (lines-both number lines more)))

pub same-executed : (number : ℕ) (lines more : List Line) → executed_in (S number) more ≡ [] → executed_in (S number) lines ≡ executed_in (S number) (lines ++ more)
same-executed number lines more none = sym (append-nil (executed_in (S number) lines)) ∙ more-executed number lines more [] none

pub same-told : (number : ℕ) (lines more : List Line) → answers_in M (lines_of number more) ≡ [] → told_in number lines ≡ told_in number (lines ++ more)
same-told number lines more none = sym (append-nil (told_in number lines)) ∙ more-told number lines more [] none

pub ledger-lines : {origin : Origin} {i : InitiatorState} {listed : List Station} {stations : List LineStationState} {lines : List Line} {now : Now} {next : ℕ} (more : List Line) → ((number : ℕ) → IsSilentOf number more) → Ledger origin i listed stations lines now next → Ledger origin i listed stations (lines ++ more) now next
ledger-lines {lines = lines} {now = now} more silent l = record {
  some = l.some;
  some_of = l.some_of;
  fits = l.fits;
  declared = l.declared;
  enough = l.enough;
  handed = l.handed;
  turn = l.turn;
  sides = λ p side at.
      let n = side.number in
      alike (executed_in (S n) lines) (executed_in (S n) (lines ++ more)) (told_in n lines) (told_in n (lines ++ more)) (going now p) (going now p) (back now p) (back now p)
      (same-executed n lines more (sym (executed-same n (S n) more) ∙ (silent n).executes)) (same-told n lines more (silent n).answers) refl refl (l.sides p side at);
}

-- ---- a command is issued

pub ledger-issue : {origin : Origin} {i : InitiatorState} {listed : List Station} {stations : List LineStationState} {lines : List Line} {now : Now} {next : ℕ} (src dst : ℕ) (payload : List ℕ) → IsTrue (is_payload payload) → is_declared origin.setting.numbers dst ≡ true
    → Ledger origin i listed stations lines now next → Ledger origin (after_issue i src dst payload) listed stations lines now next
ledger-issue {origin = origin} {i = i} src dst payload may is l =
    let new : Issued = record { body = next_issued i src dst payload; standing = Waiting } in
    record {
      some = l.some;
      some_of = l.some_of;
      fits = issued-fits i src dst payload l.fits may;
      declared = subst (λ (all : List (List ℕ)). AreDeclared origin.setting.numbers all) (sym (map-append (λ (c : Issued). c.body) i.issued (new ∷ []))) (declared-push origin.setting.numbers (bodies_in i) new.body l.declared is);
      enough = l.enough;
      handed = still-issue origin.issued i src dst payload l.handed;
      turn = l.turn;
      sides = λ p side at. dealings-issue src dst payload (l.sides p side at);
    }

-- ---- time passes, and the next station is polled

polled-side : {before : List Issued} {first : StationState} {number : ℕ} {i : InitiatorState} {executed told : List (List ℕ)} {kept : Option Key} {s : SlaveState NodeState} (n next p : ℕ) (same : Bool) → (next == p) ≡ same → next < n → p < n
    → Dealings before first number i executed told [] [] kept s (λ j. least_of n next false p j) → Dealings before first number (ticked_all i) executed told [] [] kept s (λ j. least_of n (after_turn n next) same p j)
polled-side n next p true is within here d =
    dealings-tick (λ j. 1 + j * n) (λ j. subst (λ (q : ℕ). IsTickFewer (least_of n next false q j) (1 + j * n)) (eqb-true next p is) (least-polled n next j within)) d
polled-side n next p false is within here d =
    dealings-tick (λ j. least_of n (after_turn n next) false p j) (λ j. least-other n next p j within here (λ same. let clash : true ≡ false = sym (eq-eqb next p (sym same)) ∙ is in cc)) d

pub ledger-polls : {origin : Origin} {i : InitiatorState} {listed : List Station} {stations : List LineStationState} {lines : List Line} {next : ℕ} → ((p : ℕ) (side : LineStationState) → slice_get stations p ≡ Some side → p < length origin.setting.numbers)
    → Ledger origin i listed stations lines Idles next → Ledger origin (ticked_all i) listed stations lines (Awaits next Polling) (after_turn (length origin.setting.numbers) next)
ledger-polls {origin = origin} {i = i} {next = next} within l =
    let n = length origin.setting.numbers in
    record {
      some = l.some;
      some_of = l.some_of;
      fits = subst AreBodies (sym (bodies-tick i)) l.fits;
      declared = subst (λ (all : List (List ℕ)). AreDeclared origin.setting.numbers all) (sym (bodies-tick i)) l.declared;
      enough = l.enough;
      handed = still-tick origin.issued i.issued l.handed;
      turn = λ p here. turn-within n next (l.turn p here);
      sides = λ p side at. polled-side n next p (next == p) refl (l.turn p (within p side at)) (within p side at) (l.sides p side at);
    }

-- where there is no station, nobody's time passes
pub ledger-alone : {origin : Origin} {i : InitiatorState} {listed : List Station} {stations : List LineStationState} {lines : List Line} {next : ℕ} → ((p : ℕ) (side : LineStationState) → slice_get stations p ≡ Some side → ⊥)
    → Ledger origin i listed stations lines Idles next → Ledger origin (ticked_all i) listed stations lines Idles next
ledger-alone {origin = origin} {i = i} none l = record {
  some = l.some;
  some_of = l.some_of;
  fits = subst AreBodies (sym (bodies-tick i)) l.fits;
  declared = subst (λ (all : List (List ℕ)). AreDeclared origin.setting.numbers all) (sym (bodies-tick i)) l.declared;
  enough = l.enough;
  handed = still-tick origin.issued i.issued l.handed;
  turn = l.turn;
  sides = λ p side at. absurd (none p side at);
}

-- ---- the next command is handed out, for the station at this place

pub ledger-hands : {origin : Origin} {i : InitiatorState} {listed : List Station} {stations : List LineStationState} {lines : List Line} {next : ℕ} (body : List ℕ) (place : ℕ) (side : LineStationState) → next_command i ≡ Some body → slice_get stations place ≡ Some side → place < length origin.setting.numbers → is_mine origin.issued side.number body ≡ true
    → ((p : ℕ) (other : LineStationState) → slice_get stations p ≡ Some other → (p ≡ place → ⊥) → is_to other.number body ≡ false)
    → Ledger origin i listed stations lines Idles next → Ledger origin (after_hand_out i) listed stations lines (Awaits place (Receipt body)) next
ledger-hands {origin = origin} {i = i} {listed = listed} {stations = stations} {lines = lines} {next = next} body place side command at here mine apart l =
    let now = Awaits place (Receipt body) in
    record {
      some = l.some;
      some_of = l.some_of;
      fits = subst AreBodies (sym (bodies-hand_out i)) l.fits;
      declared = subst (λ (all : List (List ℕ)). AreDeclared origin.setting.numbers all) (sym (bodies-hand_out i)) l.declared;
      enough = l.enough;
      handed = still-hand_out origin.issued i l.handed;
      turn = l.turn;
      sides = each-place (λ p x. SideDealings origin (after_hand_out i) listed lines now next p x) stations place side at
          (alike (executed_in (S side.number) lines) (executed_in (S side.number) lines) (told_in side.number lines) (told_in side.number lines) (body ∷ []) (going now place) [] (back now place) refl refl (sym (at-here place body)) refl (dealings-hands body mine command (λ j fewer. least-fits (length origin.setting.numbers) next place j i.window i.reply_ticks (l.turn place here) here l.enough fewer) (l.sides place side at)))
          (λ p other there differ.
          alike (executed_in (S other.number) lines) (executed_in (S other.number) lines) (told_in other.number lines) (told_in other.number lines) [] (going now p) [] (back now p) refl refl (sym (at-other place p body differ)) refl
          (dealings-hands-other body (apart p other there differ) command (l.sides p other there)));
    }
