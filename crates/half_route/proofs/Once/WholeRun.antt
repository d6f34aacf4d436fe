-- Over a whole run of a route: what holds at its start holds at its end, where no end was deceived.
use Rattle.std.proofs.Common.{◌≡◌, ◌∙◌, ℕ, ◌<◌, Bool, true, false, ◌&&◌, List, [], ◌∷◌, ◌++◌, map, length, Option, Some, None, refl, ap, sym, subst, arith, append-nil, append_assoc}
use Rattle.std.specs.Prelude.{All, IfSome, IsTrue, slice_get, replicate, nat_le, nat_lt, slice_index, ◌==◌, if◌then◌else◌}
use Rattle.std.specs.Int.{bit_at}
use Rattle.std.specs.Option.{option_map}
use Rattle.std.proofs.lemmas.Bool.{eqb-true}
use Rattle.std.proofs.lemmas.Bool.Decides.{nat_tests}
use Rattle.std.proofs.lemmas.List.Elements.{All-head, All-tail}
use Rattle.std.proofs.lemmas.List.Quantifiers.{position-Some}
use Rattle.std.proofs.lemmas.Option.{get_or_from_slice_get}
use Rattle.df1_node.specs.declared.outcome.IssueFault.{IssueFault}
use Rattle.df1_node.specs.declared.outcome.IssueFault.TheVariants.{Empty, TooLong, NotCommand, Spent}
use Rattle.df1_node.specs.Initiator.{InitiatorState, issue_fault}
use Rattle.df1_node.specs.Node.{NodeState}
use Rattle.station_router.specs.Router.{RouterState}
use Rattle.script_statement.specs.declared.who.Who.{Who}
use Rattle.script_statement.specs.declared.who.Who.TheVariants.{A, B, M, S}
use Rattle.script_statement.specs.Statements.{is_payload}
use Rattle.script_parts.specs.declared.script.Event.{Event}
use Rattle.script_parts.specs.declared.script.Event.TheVariants as event
use Rattle.script_parts.specs.HalfPlayable.{is_declared}
use Rattle.script_parts.specs.RoutePlayable.{IsRoutePossible, is_reached}
use Rattle.replay_report.specs.declared.record.Line.{Line}
use Rattle.replay_report.specs.Report.{sent_lines}
use Rattle.half_line.specs.Behind.{routed_node}
use Rattle.half_line.specs.Acts.{LineStationState, HalfState, LinkDeed, Issue, Give, Tick, OnLane, Deliver, Lose, Alter, Foreign, after_link_deed, link_lines}
use Rattle.half_line.specs.Plays as line
use Rattle.half_line.specs.Plays.{initiator_at, issued_with}
use Rattle.half_line.specs.Steps.{UnitStep, AtMaster, AtStation, link_of, after_with, after_step, lines_with, lines_at, bytes_over, after_steps, lines_over}
use Rattle.half_line.specs.Run.{station_at, number_of, station_between, way_from, place_of, steps_of, giver, lines_of}
use Rattle.half_line.specs.Run as run
use Rattle.half_line.proofs.Once.Invariant.{number-at}
use Rattle.half_line.proofs.Once.LinkSteps.{earlier}
use Rattle.half_line.proofs.Once.MasterSteps.{payload-command}
use Rattle.half_line.proofs.Once.WholeRun.{IsPlain, ArePlain, plain-with, plain-master, plain-take}
use Rattle.half_route.specs.Run.{IsNext, Routed, after_event, after_events}
use Rattle.half_route.proofs.EventsToCome.{AreNext}
use Rattle.half_route.proofs.Once.Invariant.{Setting, Holds, side-quiet, entered, left}
use Rattle.half_route.proofs.Once.LinkDeeds.{link-issues, link-deed}
use Rattle.half_route.proofs.Once.MasterDeeds.{holds-issue, holds-give, holds-tick}
use Rattle.half_route.proofs.Once.QuietEnds.{IsQuiet, sent-quiet}
use Rattle.half_route.proofs.Once.RouterSteps.{routes-quiet}

-- it holds as long as no end was deceived
abbrev pub Kept : Setting → HalfState (RouterState NodeState) → List Line → Type 0
Kept setting s lines = s.deceived ≡ 0 → Holds setting s lines

-- more lines that tell nothing of any end
holds-lines : (setting : Setting) (s : HalfState (RouterState NodeState)) (lines more : List Line) → ((who : Who) → IsQuiet who more) → Holds setting s lines → Holds setting s (lines ++ more)
holds-lines setting s lines more quiet h = record {
  sent = h.sent;
  heard = h.heard;
  master = record { routes = routes-quiet more (quiet setting.master.who) h.master.routes; sends = h.master.sends; numbers_are = h.master.numbers_are };
  sides_are = h.sides_are;
  sides = λ p side at. side-quiet more (quiet (setting.side p).who) (h.sides p side at);
}

-- ---- unit steps

kept-with : (setting : Setting) (place : ℕ) (deed : LinkDeed) (s : HalfState (RouterState NodeState)) (o : Option LineStationState) (lines : List Line) → slice_get s.stations place ≡ o → Kept setting s lines
    → Kept setting (after_with routed_node s place deed o) (lines ++ lines_with routed_node s deed o)
kept-with setting place deed s None lines at k none = rw (append-nil lines) (k none)
kept-with setting place deed s (Some side) lines at k none =
    left setting s (lines ++ link_lines routed_node (link_of s side) deed) place side (after_link_deed routed_node (link_of s side) deed) at
    (link-deed setting s.stations place deed (link_of s side) lines none (entered setting s lines place side at (k (earlier routed_node deed (link_of s side) none))))

kept-plain : (setting : Setting) (step : UnitStep) → IsPlain step → (s : HalfState (RouterState NodeState)) (lines : List Line) → Kept setting s lines → Kept setting (after_step routed_node s step) (lines ++ lines_at routed_node s step)
kept-plain setting (AtMaster (Issue src dst payload)) plain s lines k none = absurd plain
kept-plain setting (AtMaster Give) plain s lines k none = rw (append-nil lines) (holds-give setting s lines (k none))
kept-plain setting (AtMaster Tick) plain s lines k none = holds-tick setting s lines (k none)
kept-plain setting (AtStation place deed) plain s lines k none = kept-with setting place deed s (slice_get s.stations place) lines refl k none

kept-steps : (setting : Setting) (steps : List UnitStep) → ArePlain steps → (s : HalfState (RouterState NodeState)) (lines : List Line) → Kept setting s lines → Kept setting (after_steps routed_node s steps) (lines ++ lines_over routed_node s steps)
kept-steps setting [] plain s lines k none = rw (append-nil lines) (k none)
kept-steps setting (step ∷ steps) plain s lines k none =
    subst (λ (all : List Line). Holds setting (after_steps routed_node (after_step routed_node s step) steps) all) (append_assoc lines (lines_at routed_node s step) (lines_over routed_node (after_step routed_node s step) steps))
    (kept-steps setting steps plain.1 (after_step routed_node s step) (lines ++ lines_at routed_node s step) (kept-plain setting step plain.0 s lines k) none)

-- ---- an event of every half-duplex line

-- its steps, with its bytes
plain-event : (setting : Setting) (s : HalfState (RouterState NodeState)) (e : Event) (lines : List Line) → ArePlain (steps_of s e) → Kept setting s lines → Kept setting (run.after_event routed_node s e) (lines ++ lines_of routed_node s e)
plain-event setting s e lines plain k none =
    let over = lines_over routed_node s (steps_of s e) in
    let sent = sent_lines (giver (station_at e)) (bytes_over routed_node s (steps_of s e)) in
    subst (λ (all : List Line). Holds setting (run.after_event routed_node s e) all) (append_assoc lines over sent)
    (holds-lines setting (run.after_event routed_node s e) (lines ++ over) sent (λ who. sent-quiet who (giver (station_at e)) (bytes_over routed_node s (steps_of s e))) (kept-steps setting (steps_of s e) plain s lines k none))

-- ---- a station issues a command

-- an initiator that may issue has a command left
fault-spent : (a b c d : Bool) (x y z w : IssueFault) → (if a then Some x else if b then Some y else if c then Some z else if d then Some w else None) ≡ None → d ≡ false
fault-spent true b c d x y z w none = absurd cc
fault-spent false true c d x y z w none = absurd cc
fault-spent false false true d x y z w none = absurd cc
fault-spent false false false true x y z w none = absurd cc
fault-spent false false false false x y z w none = refl

below : (n : ℕ) → nat_le 65535 n ≡ false → n < 65535
below n h = grind (arith, nat_tests)

has-left : (s : InitiatorState) (payload : List ℕ) → issue_fault s payload ≡ None → length s.issued < 65535
has-left s payload none = below (length s.issued) (fault-spent (length payload == 0) (nat_lt 245 (length payload)) (bit_at (slice_index payload 0) 6 == 1) (nat_le 65535 (length s.issued)) Empty TooLong NotCommand Spent none)

side-numbered : (stations : List LineStationState) (number place : ℕ) (side : LineStationState) → place_of stations number ≡ Some place → slice_get stations place ≡ Some side → side.number ≡ number
side-numbered stations number place side is at =
    let found = position-Some (λ (x : LineStationState). x.number == number) stations place side is in
    eqb-true _ _ (ap (λ (x : LineStationState). x.number == number) (sym (get_or_from_slice_get stations place side side at)) ∙ found.1)

-- the station at a place, if there is one
issued-side : (setting : Setting) (s : HalfState (RouterState NodeState)) (lines : List Line) (number place dst : ℕ) (payload : List ℕ) (o : Option LineStationState) → place_of s.stations number ≡ Some place → slice_get s.stations place ≡ o → IsTrue (is_payload payload)
    → IfSome (option_map (λ (side : LineStationState). side.slave.host.initiator) o) (λ initiator. issue_fault initiator payload ≡ None) → is_reached setting.numbers setting.master.address number dst ≡ true → Holds setting s lines
    → Holds setting (record s { stations = issued_with s.stations place dst payload o }) lines
issued-side setting s lines number place dst payload None is at fits left_one may h = record { sent = h.sent; heard = h.heard; master = h.master; sides_are = h.sides_are; sides = h.sides }
issued-side setting s lines number place dst payload (Some side) is at fits left_one may h =
    let named = side-numbered s.stations number place side is at in
    let here : slice_get setting.numbers place ≡ Some number = number-at setting.numbers s.stations place side h.sides_are at ∙ ap Some named in
    left setting s lines place side _ at
    (link-issues setting s.stations place (link_of s side) lines dst payload (payload-command payload fits) (has-left side.slave.host.initiator payload left_one) (setting.may_reach place number dst here may) (entered setting s lines place side at h))

issued-place : (setting : Setting) (s : HalfState (RouterState NodeState)) (lines : List Line) (number dst : ℕ) (payload : List ℕ) (o : Option ℕ) → place_of s.stations number ≡ o → IsTrue (is_payload payload)
    → IfSome (initiator_at s.stations o) (λ initiator. issue_fault initiator payload ≡ None) → is_reached setting.numbers setting.master.address number dst ≡ true → Holds setting s lines
    → Holds setting (record s { stations = line.stations_issued s.stations o dst payload }) lines
issued-place setting s lines number dst payload None is fits left_one may h = record { sent = h.sent; heard = h.heard; master = h.master; sides_are = h.sides_are; sides = h.sides }
issued-place setting s lines number dst payload (Some place) is fits left_one may h = issued-side setting s lines number place dst payload (slice_get s.stations place) is refl fits left_one may h

-- ---- events

and-both : (a b : Bool) → (a && b) ≡ true → b ≡ true
and-both true b h = h
and-both false b h = absurd cc

-- so far
abbrev pub KeptSo : Setting → Routed → Type 0
KeptSo setting p = Kept setting p.state p.lines

kept-event : (setting : Setting) (e : Event) (p : Routed) → IsRoutePossible setting.numbers setting.master.address e → IsNext p e → KeptSo setting p → KeptSo setting (after_event p e)
kept-event setting (event.Issue A src dst payload) p may next k = absurd (let none = may.0 in cc)
kept-event setting (event.Issue B src dst payload) p may next k = absurd (let none = may.0 in cc)
kept-event setting (event.Issue M None dst payload) p may next k =
    λ none. rw (append-nil p.lines) (holds-issue setting p.state dst payload p.lines (payload-command payload may.1) next.unspent (setting.master_may dst may.0) (k none))
kept-event setting (event.Issue M (Some src) dst payload) p may next k = absurd (let none = may.0 in cc)
kept-event setting (event.Issue (S number) None dst payload) p may next k =
    λ none. issued-place setting p.state p.lines number dst payload (place_of p.state.stations number) refl may.1 next.unspent (and-both (is_declared setting.numbers number) (is_reached setting.numbers setting.master.address number dst) may.0) (k none)
kept-event setting (event.Issue (S number) (Some src) dst payload) p may next k = absurd (let none = may.0 in cc)
kept-event setting (event.Take who n) p may next k = plain-event setting p.state (event.Take who n) p.lines (plain-take p.state.stations who n (number_of who)) k
kept-event setting (event.Deliver lane n) p may next k =
    plain-event setting p.state (event.Deliver lane n) p.lines (plain-with (place_of p.state.stations (station_between lane.from lane.to)) (replicate n (OnLane (way_from lane.from) Deliver))) k
kept-event setting (event.Lose lane n) p may next k =
    plain-event setting p.state (event.Lose lane n) p.lines (plain-with (place_of p.state.stations (station_between lane.from lane.to)) (replicate n (OnLane (way_from lane.from) Lose))) k
kept-event setting (event.Alter lane mask) p may next k =
    plain-event setting p.state (event.Alter lane mask) p.lines (plain-with (place_of p.state.stations (station_between lane.from lane.to)) (OnLane (way_from lane.from) (Alter mask) ∷ [])) k
kept-event setting (event.Foreign lane bytes) p may next k =
    plain-event setting p.state (event.Foreign lane bytes) p.lines (plain-with (place_of p.state.stations (station_between lane.from lane.to)) (map (λ byte. OnLane (way_from lane.from) (Foreign byte)) bytes)) k
kept-event setting (event.Tick who n) p may next k = plain-event setting p.state (event.Tick who n) p.lines (plain-master Tick tt n) k

pub kept-events : (setting : Setting) (events : List Event) (p : Routed) → All (IsRoutePossible setting.numbers setting.master.address) events → AreNext p events → KeptSo setting p → KeptSo setting (after_events p events)
kept-events setting [] p possible may k = k
kept-events setting (e ∷ events) p possible may k =
    let is : Event → Type 0 = IsRoutePossible setting.numbers setting.master.address in
    kept-events setting events (after_event p e) (All-tail is e events possible) may.1 (kept-event setting e p (All-head is e events possible) may.0 k)
