-- What a station changes of the dealings with it in an undisturbed run: it hears what passes it over, executes a command, gives a reply, and the master accepts that.
use Rattle.std.proofs.Common.{◌≡◌, ◌∙◌, ℕ, ◌<◌, ◌≤◌, true, false, List, [], ◌∷◌, ◌++◌, length, Option, Some, refl, ap, sym, subst}
use Rattle.std.specs.Prelude.{slice_get, slice_set, ◌==◌}
use Rattle.std.specs.Option.{option_and_then}
use Rattle.std.proofs.lemmas.Bool.{eq-eqb, ne_eqb}
use Rattle.pccc_envelope.specs.declared.key.Key.{Key}
use Rattle.pccc_envelope.specs.Envelope.{is_reply, key_of}
use Rattle.df1_node.specs.Initiator.{InitiatorState, after_reply}
use Rattle.df1_node.specs.Node.{after_accept, after_next}
use Rattle.half_master.specs.declared.stations.Station.{Station}
use Rattle.half_master.specs.Keys.{kept_at}
use Rattle.half_master.specs.Stations.{with_key}
use Rattle.half_master.proofs.Keeping.{keyed}
use Rattle.script_statement.specs.declared.who.Who.TheVariants.{M, S}
use Rattle.replay_report.specs.declared.record.Line.{Line}
use Rattle.replay_report.specs.declared.record.Line.TheVariants as line
use Rattle.each_once.specs.Exchanges.{station_after}
use Rattle.each_once.specs.OfStation.{is_from, lines_of}
use Rattle.each_once.specs.Tells.{answers_in, executed_in}
use Rattle.each_once.proofs.CommandBodies.{bodies-reply}
use Rattle.each_once.proofs.HandedOut.{AreNumbered}
use Rattle.each_once.proofs.MessageLengths.{AreBodies}
use Rattle.half_line.specs.Acts.{LineStationState}
use Rattle.half_line.specs.Complete.{is_to}
use Rattle.half_line.proofs.Once.MasterOutcomes.{AreDeclared}
use Rattle.half_line.proofs.Once.Places.{set-same, set-other}
use Rattle.half_line.proofs.Complete.EarlierCommands.{still-reply}
use Rattle.half_line.proofs.Complete.Origin.{Origin, station_from}
use Rattle.half_line.proofs.Complete.Dealings.{Dealings, IsSameNode, Accepts, alike, dealings-same, dealings-executes, dealings-fetches, dealings-fewer, dealings-accepts, dealings-accepts-other}
use Rattle.half_line.proofs.Complete.Ledger.{going, back, at-here, at-other, told_in, SideDealings, Ledger, alike-now, more-executed, more-told, same-executed, same-told}
use Rattle.half_line.proofs.Complete.StagePlaces.{at-place}
use Rattle.half_line.proofs.Complete.Turns.{is_polled, least_of, least-answered}
use Rattle.half_line.proofs.Complete.Stages.{Receipt, Polling, Ack, Message, Now, Idles, Awaits}

-- the other stations
abbrev pub EachOther : List LineStationState → ℕ → (ℕ → LineStationState → Type 0) → Type 0
EachOther stations place P = (p : ℕ) (other : LineStationState) → slice_get stations p ≡ Some other → (p ≡ place → ⊥) → P p other

-- ---- a station is otherwise than it was, with the same replies and key

pub ledger-side : {origin : Origin} {i : InitiatorState} {listed : List Station} {stations : List LineStationState} {lines : List Line} {now : Now} {next : ℕ} (place : ℕ) (side after : LineStationState) → slice_get stations place ≡ Some side → after.number ≡ side.number
    → IsSameNode side.slave.host after.slave.host → after.slave.kept ≡ side.slave.kept → Ledger origin i listed stations lines now next → Ledger origin i listed (slice_set stations place after) lines now next
ledger-side {origin = origin} {i = i} {listed = listed} {stations = stations} {lines = lines} {now = now} {next = next} place side after at number node kept l = record {
  some = l.some;
  some_of = l.some_of;
  fits = l.fits;
  declared = l.declared;
  enough = l.enough;
  handed = l.handed;
  turn = l.turn;
  sides = at-place (λ p x. SideDealings origin i listed lines now next p x) stations place side after at
      (subst (λ (n : ℕ). Dealings origin.issued (station_from origin place n) n i (executed_in (S n) lines) (told_in n lines) (going now place) (back now place) (kept_at listed place) after.slave (λ j. least_of (length origin.setting.numbers) next (is_polled now place) place j)) (sym number) (dealings-same after.slave node kept (l.sides place side at)))
      (λ p other is differ. l.sides p other is);
}

-- ---- what is awaited of the station at a place, and nothing of the others

-- the command goes to it
pub goes-here : {origin : Origin} {i : InitiatorState} {listed : List Station} {stations : List LineStationState} {lines : List Line} {next : ℕ} (place : ℕ) (side : LineStationState) (body : List ℕ) → slice_get stations place ≡ Some side → Ledger origin i listed stations lines (Awaits place (Receipt body)) next
    → Dealings origin.issued (station_from origin place side.number) side.number i (executed_in (S side.number) lines) (told_in side.number lines) (body ∷ []) [] (kept_at listed place) side.slave (λ j. least_of (length origin.setting.numbers) next false place j)
goes-here {lines = lines} place side body at l =
    let n = side.number in
    alike (executed_in (S n) lines) (executed_in (S n) lines) (told_in n lines) (told_in n lines) (going (Awaits place (Receipt body)) place) (body ∷ []) [] [] refl refl (at-here place body) refl (l.sides place side at)

-- the reply comes from it
pub comes-here : {origin : Origin} {i : InitiatorState} {listed : List Station} {stations : List LineStationState} {lines : List Line} {next : ℕ} (place : ℕ) (side : LineStationState) (reply : List ℕ) → slice_get stations place ≡ Some side → Ledger origin i listed stations lines (Awaits place (Message reply)) next
    → Dealings origin.issued (station_from origin place side.number) side.number i (executed_in (S side.number) lines) (told_in side.number lines) [] (reply ∷ []) (kept_at listed place) side.slave (λ j. least_of (length origin.setting.numbers) next true place j)
comes-here {origin = origin} {next = next} place side reply at l = alike-now (length origin.setting.numbers) next place (place == place) true [] (reply ∷ []) refl (at-here place reply) (eq-eqb place place refl) (l.sides place side at)

-- ---- it executes the command that goes to it

-- nothing is told of the answers of a station, and nothing of what other stations executed
exec-silent : (number other : ℕ) (body : List ℕ) → (other ≡ number → ⊥) → executed_in (S other) (line.Exec (S number) body ∷ []) ≡ []
exec-silent number other body differ = rw (ne_eqb other number differ) refl

exec-told : (number : ℕ) (body : List ℕ) → executed_in (S number) (line.Exec (S number) body ∷ []) ≡ body ∷ []
exec-told number body = rw (eq-eqb number number refl) refl

pub ledger-executes : {origin : Origin} {i : InitiatorState} {listed : List Station} {stations : List LineStationState} {lines : List Line} {next : ℕ} (place : ℕ) (side after : LineStationState) (body : List ℕ) → slice_get stations place ≡ Some side → after.number ≡ side.number
    → side.slave.host.station ≡ station_after (station_from origin place side.number) (executed_in (S side.number) lines) → is_reply body ≡ false → EachOther stations place (λ p other. other.number ≡ side.number → ⊥)
    → after.slave.host ≡ after_accept side.slave.host body → after.slave.kept ≡ Some (key_of body)
    → Ledger origin i listed stations lines (Awaits place (Receipt body)) next → Ledger origin i listed (slice_set stations place after) (lines ++ line.Exec (S side.number) body ∷ []) (Awaits place Ack) next
ledger-executes {origin = origin} {i = i} {listed = listed} {stations = stations} {lines = lines} {next = next} place side after body at number station command apart host kept l =
    let more = line.Exec (S side.number) body ∷ [] in
    let n = side.number in
    record {
      some = l.some;
      some_of = l.some_of;
      fits = l.fits;
      declared = l.declared;
      enough = l.enough;
      handed = l.handed;
      turn = l.turn;
      sides = at-place (λ p x. SideDealings origin i listed (lines ++ more) (Awaits place Ack) next p x) stations place side after at
          (subst (λ (m : ℕ). Dealings origin.issued (station_from origin place m) m i (executed_in (S m) (lines ++ more)) (told_in m (lines ++ more)) [] [] (kept_at listed place) after.slave (λ j. least_of (length origin.setting.numbers) next false place j)) (sym number)
          (alike (executed_in (S n) lines ++ body ∷ []) (executed_in (S n) (lines ++ more)) (told_in n lines) (told_in n (lines ++ more)) [] [] [] []
          (more-executed n lines more (body ∷ []) (exec-told n body)) (same-told n lines more refl) refl refl
          (dealings-executes after.slave body station command host kept (goes-here place side body at l))))
          (λ p other found differ.
          let m = other.number in
          alike (executed_in (S m) lines) (executed_in (S m) (lines ++ more)) (told_in m lines) (told_in m (lines ++ more)) (going (Awaits place (Receipt body)) p) [] [] []
          (same-executed m lines more (exec-silent n m body (apart p other found differ))) (same-told m lines more refl) (at-other place p body differ) refl (l.sides p other found));
    }

-- ---- it gives the first reply that waits

pub ledger-fetches : {origin : Origin} {i : InitiatorState} {listed : List Station} {stations : List LineStationState} {lines : List Line} {next : ℕ} (place : ℕ) (side after : LineStationState) (reply : List ℕ) (rest : List (List ℕ)) → slice_get stations place ≡ Some side → after.number ≡ side.number
    → side.slave.host.replies ≡ reply ∷ rest → after.slave.host ≡ after_next side.slave.host → after.slave.kept ≡ side.slave.kept
    → Ledger origin i listed stations lines (Awaits place Polling) next → Ledger origin i listed (slice_set stations place after) lines (Awaits place (Message reply)) next
ledger-fetches {origin = origin} {i = i} {listed = listed} {stations = stations} {lines = lines} {next = next} place side after reply rest at number waits host kept l =
    let now = Awaits place (Message reply) in
    let n = side.number in
    record {
      some = l.some;
      some_of = l.some_of;
      fits = l.fits;
      declared = l.declared;
      enough = l.enough;
      handed = l.handed;
      turn = l.turn;
      sides = at-place (λ p x. SideDealings origin i listed lines now next p x) stations place side after at
          (subst (λ (m : ℕ). Dealings origin.issued (station_from origin place m) m i (executed_in (S m) lines) (told_in m lines) [] (back now place) (kept_at listed place) after.slave (λ j. least_of (length origin.setting.numbers) next (place == place) place j)) (sym number)
          (alike (executed_in (S n) lines) (executed_in (S n) lines) (told_in n lines) (told_in n lines) [] [] (reply ∷ []) (back now place) refl refl refl (sym (at-here place reply))
          (dealings-fetches after.slave reply rest waits host kept (l.sides place side at))))
          (λ p other found differ.
          let m = other.number in
          alike (executed_in (S m) lines) (executed_in (S m) lines) (told_in m lines) (told_in m lines) [] [] [] (back now p) refl refl refl (sym (at-other place p reply differ)) (l.sides p other found));
    }

-- ---- the master accepts it

-- the key that is kept for a station
abbrev pub kept_in : Option Station → Option Key
kept_in o = option_and_then {T = Station} (λ station. station.kept) o

key-here : (listed : List Station) (place : ℕ) (key : Key) (station : Station) → slice_get listed place ≡ Some station → kept_at (with_key listed place key) place ≡ Some key
key-here listed place key station at =
    let now : Station = record { number = station.number; kept = Some key } in
    ap (λ (o : Option Station). kept_at (keyed listed place key o) place) at ∙ ap (λ (o : Option Station). kept_in o) (set-same listed place station now at)

key-there : (listed : List Station) (place p : ℕ) (key : Key) (station : Station) → slice_get listed place ≡ Some station → (p ≡ place → ⊥) → kept_at (with_key listed place key) p ≡ kept_at listed p
key-there listed place p key station at differ =
    let now : Station = record { number = station.number; kept = Some key } in
    ap (λ (o : Option Station). kept_at (keyed listed place key o) p) at ∙ ap (λ (o : Option Station). kept_in o) (set-other listed place p now differ)

-- the line of an answer, and what it tells of this station and of others
abbrev pub answer_lines : ℕ → List ℕ → List Line
answer_lines number reply = line.Answered M number reply ∷ []

answer-told : (station number : ℕ) (reply : List ℕ) → is_from station reply ≡ true → answers_in M (lines_of station (answer_lines number reply)) ≡ (number, reply) ∷ []
answer-told station number reply from = rw from refl

answer-silent : (station number : ℕ) (reply : List ℕ) → is_from station reply ≡ false → answers_in M (lines_of station (answer_lines number reply)) ≡ []
answer-silent station number reply from = rw from refl

-- what the master accepts then
pub accepts-here : {origin : Origin} {i : InitiatorState} {listed : List Station} {stations : List LineStationState} {lines : List Line} {next : ℕ} (place : ℕ) (side : LineStationState) (station : Station) (reply : List ℕ) → slice_get stations place ≡ Some side → slice_get listed place ≡ Some station
    → length i.issued ≤ 65535 → AreNumbered i.tns 0 i.issued → Ledger origin i listed stations lines (Awaits place (Message reply)) next
    → Accepts origin.issued (station_from origin place side.number) side.number i (executed_in (S side.number) lines) (told_in side.number lines) side.slave (λ j. least_of (length origin.setting.numbers) next true place j) reply (kept_at (with_key listed place (key_of reply)) place)
accepts-here {listed = listed} place side station reply at found few numbered l =
    dealings-accepts reply (kept_at (with_key listed place (key_of reply)) place) few numbered (key-here listed place (key_of reply) station found) (comes-here place side reply at l)

pub ledger-answers : {origin : Origin} {i : InitiatorState} {listed : List Station} {stations : List LineStationState} {lines : List Line} {next : ℕ} (place : ℕ) (side after : LineStationState) (station : Station) (reply : List ℕ) (number : ℕ) → slice_get stations place ≡ Some side → after.number ≡ side.number
    → after.slave ≡ side.slave → slice_get listed place ≡ Some station → place < length origin.setting.numbers → is_from side.number reply ≡ true
    → (a : Accepts origin.issued (station_from origin place side.number) side.number i (executed_in (S side.number) lines) (told_in side.number lines) side.slave (λ j. least_of (length origin.setting.numbers) next true place j) reply (kept_at (with_key listed place (key_of reply)) place))
    → EachOther stations place (λ p other. (is_to other.number a.body ≡ false) × (is_from other.number reply ≡ false)) → Ledger origin i listed stations lines (Awaits place (Message reply)) next
    → Ledger origin (after_reply i reply) (with_key listed place (key_of reply)) (slice_set stations place after) (lines ++ answer_lines number reply) Idles next
ledger-answers {origin = origin} {i = i} {listed = listed} {stations = stations} {lines = lines} {next = next} place side after station reply number at same_number slave found here from a apart l =
    let key = key_of reply in
    let now = with_key listed place key in
    let more = answer_lines number reply in
    let n = side.number in
    record {
      some = l.some;
      some_of = l.some_of;
      fits = subst AreBodies (sym (bodies-reply i reply)) l.fits;
      declared = subst (λ (all : List (List ℕ)). AreDeclared origin.setting.numbers all) (sym (bodies-reply i reply)) l.declared;
      enough = l.enough;
      handed = still-reply origin.issued i reply l.handed;
      turn = l.turn;
      sides = at-place (λ p x. SideDealings origin (after_reply i reply) now (lines ++ more) Idles next p x) stations place side after at
          (subst (λ (m : ℕ). Dealings origin.issued (station_from origin place m) m (after_reply i reply) (executed_in (S m) (lines ++ more)) (told_in m (lines ++ more)) [] [] (kept_at now place) after.slave (λ j. least_of (length origin.setting.numbers) next false place j)) (sym same_number)
          (rw slave (alike (executed_in (S n) lines) (executed_in (S n) (lines ++ more)) (told_in n lines ++ reply ∷ []) (told_in n (lines ++ more)) [] [] [] []
          (same-executed n lines more refl) (more-told n lines more ((number, reply) ∷ []) (answer-told n number reply from)) refl refl
          (dealings-fewer (λ j. least_of (length origin.setting.numbers) next false place j) (λ j. least-answered (length origin.setting.numbers) next place j (l.turn place here) here) a.after))))
          (λ p other there differ.
          let m = other.number in
          let far = apart p other there differ in
          alike (executed_in (S m) lines) (executed_in (S m) (lines ++ more)) (told_in m lines) (told_in m (lines ++ more)) [] [] (back (Awaits place (Message reply)) p) []
          (same-executed m lines more refl) (same-told m lines more (answer-silent m number reply far.1)) refl (at-other place p reply differ)
          (dealings-accepts-other a.body reply (kept_at now p) far.0 a.answers (key-there listed place p key station found differ)
          (alike-now (length origin.setting.numbers) next p (place == p) false [] (back (Awaits place (Message reply)) p) refl refl (ne_eqb place p (λ same. differ (sym same))) (l.sides p other there))));
    }
