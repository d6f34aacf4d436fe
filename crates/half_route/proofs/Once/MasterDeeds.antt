-- What the master of a route does leaves what holds: it issues a command, gives a byte to every station, and a unit of time passes.
use Rattle.std.proofs.Common.{◌≡◌, ◌∙◌, ℕ, ◌<◌, Bool, true, false, eqb, not, List, [], ◌∷◌, ◌++◌, length, Option, Some, None, refl, ap, sym, subst, append-nil}
use Rattle.std.specs.Prelude.{slice_get, slice_index, option_to_list, if◌then◌else◌}
use Rattle.std.specs.Int.{bit_at}
use Rattle.std.specs.List.{filter}
use Rattle.std.proofs.lemmas.Bool.{cond_both}
use Rattle.df1_base.specs.declared.host.Fate.{Fate}
use Rattle.df1_base.specs.HostAnswers.{host_told}
use Rattle.pccc_envelope.specs.Envelope.{is_reply}
use Rattle.df1_node.specs.Node.{NodeState}
use Rattle.half_master.specs.Emission.{Tick as TickLetter, Take as TakeLetter}
use Rattle.half_master.specs.Keys.{kept_at}
use Rattle.half_master.specs.Master.{MasterState, begun_of, message_next, master_after_take, master_after_tick, gone_at_tick, out_at_take}
use Rattle.half_master.specs.Stations.{is_listed}
use Rattle.half_master.proofs.KeyLemmas.{signal-numbers}
use Rattle.half_master.proofs.LastMessage.{sends-host, sends-take, sends-tick, sent-ends, next-of}
use Rattle.half_master.proofs.Seen.{at-tick, turn_of, listed-number}
use Rattle.station_router.specs.Router.{RouterState, is_carried}
use Rattle.script_parts.specs.HalfPlayable.{is_declared}
use Rattle.script_statement.specs.declared.who.Who.{Who}
use Rattle.script_statement.specs.declared.who.Who.TheVariants.{M}
use Rattle.replay_report.specs.declared.record.Line.{Line}
use Rattle.report_lines.specs.NodeLines.{turn_lines, gone_lines}
use Rattle.each_once.specs.OfStation.{is_from}
use Rattle.each_once.proofs.Sublists.{Has, within-has, get-last, has-filter, from-map}
use Rattle.half_line.specs.Behind.{routed_node}
use Rattle.half_line.specs.Acts.{LineStationState, HalfState, Issue, Give, Tick, after_master_deed, master_lines, cells_given, joined}
use Rattle.half_line.proofs.Once.GivenCell.{way-given}
use Rattle.half_line.proofs.Once.Invariant.{number-at}
use Rattle.half_line.proofs.Once.MasterSteps.{joined-numbers}
use Rattle.half_route.proofs.Once.Chains.{sent-own, sent-reply}
use Rattle.half_route.proofs.Once.FoundCommands.{filter-has}
use Rattle.half_route.proofs.Once.Invariant.{Setting, SideHolds, Holds, side-quiet, side-sent, side-heard, side-lanes}
use Rattle.half_route.proofs.Once.QuietEnds.{IsQuiet, quiet-both, turn-other, gone-other}
use Rattle.half_route.proofs.Once.RouterSteps.{Routes, is_own, is_passed, carried-within, routes-next, routes-told, routes-tick, routes-issue}

-- ---- a command is issued, in the master's own name

pub holds-issue : (setting : Setting) (s : HalfState (RouterState NodeState)) (dst : ℕ) (payload : List ℕ) (lines : List Line) → eqb (bit_at (slice_index payload 0) 6) 1 ≡ false → length s.master.host.inner.initiator.issued < 65535 → setting.master.may dst ≡ true
    → Holds setting s lines → Holds setting (after_master_deed routed_node s (Issue None dst payload)) lines
holds-issue setting s dst payload lines no-reply few may h = record {
  sent = h.sent;
  heard = h.heard;
  master = record {
    routes = routes-issue s.master.host s.master.host.inner.initiator.node dst payload no-reply few h.master.routes.inner.node_is may h.master.routes;
    sends = sends-host s.master _ h.master.sends;
    numbers_are = h.master.numbers_are;
  };
  sides_are = h.sides_are;
  sides = h.sides;
}

-- ---- a unit of time passes

tick-routes : (setting : Setting) (r : RouterState NodeState) (sent heard : List (List ℕ)) (lines : List Line) (ticked : Bool) (what : Option Fate) → (ticked ≡ true → what ≡ None) → Routes setting.master setting.numbers r sent heard lines
    → Routes setting.master setting.numbers (host_told routed_node.host what (if ticked then routed_node.host.after_tick r else r)) sent heard
    (lines ++ (turn_lines setting.master.who (turn_of routed_node.host what (if ticked then routed_node.host.after_tick r else r)) ++ gone_lines setting.master.who (if ticked then routed_node.host.unanswered r else [])))
tick-routes setting r sent heard lines true what one h =
    let none = one refl in
    rw none (routes-tick r h)
tick-routes setting r sent heard lines false None one h = rw (append-nil lines) h
tick-routes setting r sent heard lines false (Some what) one h = rw (append-nil (turn_lines setting.master.who (turn_of routed_node.host (Some what) r))) (routes-told r what h)

pub holds-tick : (setting : Setting) (s : HalfState (RouterState NodeState)) (lines : List Line) → Holds setting s lines → Holds setting (after_master_deed routed_node s Tick) (lines ++ master_lines routed_node s.master Tick)
holds-tick setting s lines h =
    let m = s.master in
    let after = master_after_tick routed_node.host m in
    let t = at-tick routed_node.host m in
    let told : List Line = master_lines routed_node m Tick in
    let host : RouterState NodeState = if t.ticked then routed_node.host.after_tick m.host else m.host in
    let gone : List ℕ = if t.ticked then routed_node.host.unanswered m.host else [] in
    let routes = subst (λ (who : Who). Routes setting.master setting.numbers (host_told routed_node.host t.fate host) h.sent h.heard (lines ++ (turn_lines who (turn_of routed_node.host t.fate host) ++ gone_lines who gone))) setting.is_master
    (tick-routes setting m.host h.sent h.heard lines t.ticked t.fate t.one h.master.routes) in
    record {
      sent = h.sent;
      heard = h.heard;
      master = record {
        routes = subst (λ turn. Routes setting.master setting.numbers after.host h.sent h.heard (lines ++ (turn_lines M turn ++ gone_lines M (gone_at_tick routed_node.host m)))) (sym t.turn)
            (subst (λ numbers. Routes setting.master setting.numbers after.host h.sent h.heard (lines ++ (turn_lines M (turn_of routed_node.host t.fate host) ++ gone_lines M numbers))) (sym t.gone)
            (subst (λ (r : RouterState NodeState). Routes setting.master setting.numbers r h.sent h.heard (lines ++ (turn_lines M (turn_of routed_node.host t.fate host) ++ gone_lines M gone))) (sym t.host) routes));
        sends = sends-tick routed_node.host m h.master.sends;
        numbers_are = signal-numbers routed_node.host m TickLetter ∙ h.master.numbers_are;
      };
      sides_are = h.sides_are;
      sides = λ p side at.
          let named = setting.named p side.number (number-at setting.numbers s.stations p side h.sides_are at) in
          let quiet : IsQuiet (setting.side p).who told = quiet-both (setting.side p).who (turn_lines M _) (gone_lines M _) (turn-other (setting.side p).who M (rw named.0 refl) _) (gone-other (setting.side p).who M (rw named.0 refl) _) in
          side-quiet told quiet (side-heard h.heard (kept_at after.stations p) refl (ap (λ l. kept_at l p) t.stations) (h.sides p side at));
    }

-- ---- a byte is given

-- whatever the master handed out is for a station
sent-declared : (setting : Setting) (r : RouterState NodeState) (sent heard : List (List ℕ)) (lines : List Line) (body : List ℕ) → Routes setting.master setting.numbers r sent heard lines → Has sent body → is_declared setting.numbers (slice_index body 0) ≡ true
sent-declared setting r sent heard lines body h has = by (is_from address body) refl
  where
    address : ℕ
    address = setting.master.address

    own : List (List ℕ)
    own = filter (is_from address) sent

    of : (reply : Bool) → is_reply body ≡ reply → Has own body → is_declared setting.numbers (slice_index body 0) ≡ true
    of true is in_own =
        let r = sent-reply r.inner own body h.inner in_own is in
        let was = filter-has (is_own setting.numbers) heard r.body r.was_accepted in
        ap (is_declared setting.numbers) r.fits ∙ h.from_one was.0.0 r.body was.0.1
    of false is in_own = setting.master_reaches (slice_index body 0) (sent-own r.inner own body h.inner in_own is).1

    by : (from : Bool) → is_from address body ≡ from → is_declared setting.numbers (slice_index body 0) ≡ true
    by true is = of (is_reply body) refl (has-filter (is_from address) sent has.0 body is has.1)
    by false is =
        let passed = has-filter (is_passed address) sent has.0 body (ap not is) has.1 in
        (filter-has (is_carried setting.numbers) heard body (within-has (filter (is_passed address) sent) (filter (is_carried setting.numbers) heard) body (carried-within h) passed)).1

-- what beginning a message leaves
abbrev Begun : Setting → MasterState (RouterState NodeState) → List (List ℕ) → List (List ℕ) → List Line → MasterState (RouterState NodeState) → Type 0
Begun setting m sent heard lines after = Routes setting.master setting.numbers after.host sent heard lines × (after.stations ≡ m.stations)

begins : (setting : Setting) (m : MasterState (RouterState NodeState)) (sent heard : List (List ℕ)) (lines : List Line) (o : Option (List ℕ)) → message_next routed_node.host m ≡ o
    → ((number : ℕ) → is_listed m.stations number ≡ is_declared setting.numbers number) → Routes setting.master setting.numbers m.host sent heard lines
    → Begun setting m (sent ++ option_to_list o) heard lines (begun_of routed_node.host m o)
begins setting m sent heard lines None is listed h = (subst (λ all. Routes setting.master setting.numbers m.host all heard lines) (sym (append-nil sent)) h, refl)
begins setting m sent heard lines (Some body) is listed h =
    let next = routes-next m.host body (next-of routed_node.host m body is) setting.apart h in
    let for_one = sent-declared setting (routed_node.host.after_next m.host) (sent ++ body ∷ []) heard lines body next (get-last sent body) in
    cond_both (is_listed m.stations (slice_index body 0)) _ _ (Begun setting m (sent ++ body ∷ []) heard lines)
    (λ in_list. (next, refl))
    (λ not. absurd (let no : true ≡ false = sym for_one ∙ sym (listed (slice_index body 0)) ∙ not in cc))

pub holds-give : (setting : Setting) (s : HalfState (RouterState NodeState)) (lines : List Line) → Holds setting s lines → Holds setting (after_master_deed routed_node s Give) lines
holds-give setting s lines h =
    let m = s.master in
    let after = master_after_take routed_node.host m in
    let next = message_next routed_node.host m in
    let more = option_to_list next in
    let listed : (number : ℕ) → is_listed m.stations number ≡ is_declared setting.numbers number = λ number. listed-number m.stations number ∙ ap (λ ns. is_declared ns number) h.master.numbers_are in
    let b = begins setting m h.sent h.heard lines next refl listed h.master.routes in
    let cells = cells_given routed_node m in
    let given : (p : ℕ) (side : LineStationState) → slice_get s.stations p ≡ Some side → SideHolds (setting.side p) (h.sent ++ more) h.heard (kept_at after.stations p) (joined cells side) lines = λ p side at.
    let old = side-heard h.heard (kept_at after.stations p) refl (ap (λ l. kept_at l p) b.1) (side-sent more (h.sides p side at)) in
    side-lanes (side.to_it ++ cells) side.from_it old
    (way-given (h.sent ++ more) after.sending side.to_it (out_at_take routed_node.host m) side.slave.kept old.accepted (λ out number is last. sent-ends routed_node.host m out number h.master.sends is last) old.way)
    old.back in
    record {
      sent = h.sent ++ more;
      heard = h.heard;
      master = record {
        routes = b.0;
        sends = sends-take routed_node.host m h.master.sends;
        numbers_are = signal-numbers routed_node.host m TakeLetter ∙ h.master.numbers_are;
      };
      sides_are = joined-numbers cells s.stations ∙ h.sides_are;
      sides = λ p side at.
          let was = from-map (joined cells) s.stations p side at in
          subst (λ (x : LineStationState). SideHolds (setting.side p) (h.sent ++ more) h.heard (kept_at after.stations p) x lines) was.2 (given p was.0 was.1);
    }
