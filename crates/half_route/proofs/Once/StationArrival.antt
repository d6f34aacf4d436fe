-- A cell arrives at a station of a route, which isn't deceived by it: what held still holds, with the lines that it makes.
use Rattle.std.proofs.Common.{◌≡◌, ◌∙◌, ℕ, Bool, true, false, List, [], ◌∷◌, ◌++◌, Option, Some, None, refl, ap, sym, subst, append-nil, append_assoc}
use Rattle.std.specs.Prelude.{slice_get, slice_index, ◌==◌}
use Rattle.std.specs.Option.{option_map}
use Rattle.std.specs.List.{filter}
use Rattle.std.proofs.lemmas.Bool.{eqb-true, eqb-false}
use Rattle.df1_base.specs.declared.host.Did.{Did}
use Rattle.df1_base.specs.declared.host.News.TheVariants as news
use Rattle.df1_base.specs.declared.link.Act.TheVariants as act
use Rattle.df1_base.specs.declared.link.Step.{Step}
use Rattle.pccc_envelope.specs.declared.key.Key.{Key}
use Rattle.pccc_envelope.specs.Envelope.{is_reply, key_of}
use Rattle.df1_node.specs.Initiator.{answered_place}
use Rattle.df1_node.specs.Node.{NodeState, did_accept}
use Rattle.half_master.specs.Keys.{kept_at}
use Rattle.half_master.specs.Master.{MasterState}
use Rattle.half_slave.specs.Slave.{body_of, listened, slave_after_byte, step_at_byte}
use Rattle.station_router.specs.Router.{RouterState}
use Rattle.script_statement.specs.declared.who.Who.{Who}
use Rattle.script_statement.specs.declared.who.Who.TheVariants.{S}
use Rattle.replay_report.specs.declared.record.Line.{Line}
use Rattle.lane_cells.specs.Cells.{LaneCell, Ending}
use Rattle.report_lines.specs.NodeLines.{did_lines, act_lines, news_lines, step_lines}
use Rattle.each_once.specs.Commands.{is_command}
use Rattle.each_once.specs.NodeHost.{node_host}
use Rattle.each_once.specs.OfStation.{is_from}
use Rattle.each_once.specs.Tells.{is_who}
use Rattle.each_once.proofs.OneDirection.{Way, way-more, way-leaves, way-accepts, way-within}
use Rattle.each_once.proofs.Sublists.{IsWithin, within-has, within-filter, get-last, from-map}
use Rattle.half_line.specs.declared.way.Way.TheVariants.{ToStation}
use Rattle.half_line.specs.Acts.{LineStationState, link_state, after_cell, cell_lines, deceptions_at, carries_at, step_lines_at}
use Rattle.half_line.specs.Behind.{routed_node}
use Rattle.half_line.proofs.Once.Honest.{honest-station}
use Rattle.half_line.proofs.Once.Invariant.{marks, number-at}
use Rattle.half_line.proofs.Once.MasterReplies.{declared-at}
use Rattle.half_line.proofs.Once.Places.{not-equal}
use Rattle.half_line.proofs.Once.StationArrival.{coming}
use Rattle.half_line.proofs.Once.StationSteps.{Accepts, PassesOver, accepts, passes, at-byte, setup-stays, lent-after}
use Rattle.half_route.proofs.Once.Chains.{IsSentBy, master, station, is-sent-by, own-chain, station-chain, declared-place}
use Rattle.half_route.proofs.Once.EndSteps.{EndHolds, IsFrom, IsTo, all-push, end-quiet, end-accept, end-hands}
use Rattle.half_route.proofs.Once.FoundCommands.{lost}
use Rattle.half_route.proofs.Once.Invariant.{Setting, SideHolds, LinkHolds, side-quiet, other-number}
use Rattle.half_route.proofs.Once.QuietEnds.{IsQuiet, quiet-both, act-quiet, act-other, did-other, news-other}
use Rattle.half_route.proofs.Once.RouterSteps.{routes-quiet, is_own}
use Rattle.half_route.proofs.Once.Telling.{IsLost}

-- ---- the lines

-- nothing is carried at a station
station-lines : (carried : Bool) (who : Who) (step : Step) (body : List ℕ) → step_lines_at (carries_at carried ToStation) who step body ≡ step_lines who step body
station-lines true who step body = refl
station-lines false who step body = refl

-- what an accept tells
accept-lines : (who : Who) (step : Step) (heard body : List ℕ) (what : Did) → step.act ≡ act.Accept → step.did ≡ Some what → step.news ≡ news.Nothing → heard ≡ body → step_lines who step heard ≡ did_lines who (Some what) body
accept-lines who step heard body what is-act is-did is-news same = rw (is-act, is-did, is-news, same) (append-nil (did_lines who (Some what) body))

-- stations of other numbers are other ends
other-who : (number other : ℕ) → (number ≡ other → ⊥) → is_who (S number) (S other) ≡ false
other-who number other differ = not-equal (number == other) (λ same. differ (eqb-true number other same))

-- ---- a reply that is accepted and answers no command that is out

-- it is from a station
lost-of-side : (setting : Setting) (stations : List LineStationState) (place q : ℕ) (m : MasterState (RouterState NodeState)) (side other : LineStationState) (key : Option Key) (d : ℕ) (lines : List Line) (body : List ℕ) (h : LinkHolds setting stations place (link_state m side d) lines)
    → SideHolds (setting.side q) h.sent h.heard key other lines → slice_get setting.numbers q ≡ Some other.number → slice_index body 1 ≡ other.number → IsTo side.number body → IsWithin (h.this.accepted ++ body ∷ []) h.sent
    → is_reply body ≡ true → answered_place side.slave.host.initiator.issued body ≡ None → IsLost (filter is_command h.this.handed) side.slave.host.initiator.issued body
lost-of-side setting stations place q m side other key d lines body h o at from to within reply none =
    let x = setting.side place in
    let t = setting.side q in
    let x_named = (setting.named place side.number h.is_at).1 in
    let t_named = (setting.named q other.number at).1 in
    let chain : IsWithin (filter (is_from x.address) o.accepted) h.this.handed = subst (λ n. IsWithin (filter (is_from n) o.accepted) h.this.handed) (sym x_named)
    (station-chain side.number o.accepted h.this.handed setting.apart (declared-at setting.numbers place side.number h.is_at) h.master.routes (way-within h.sent (marks other.to_it) other.slave.kept o.accepted o.way)
    (way-within h.this.handed (marks side.from_it) (kept_at m.stations place) (filter (is_from side.number) h.heard) h.this.back)) in
    let back : IsWithin (filter (is_from t.address) (h.this.accepted ++ body ∷ [])) o.handed = subst (λ n. IsWithin (filter (is_from n) (h.this.accepted ++ body ∷ [])) o.handed) (sym t_named)
    (station-chain other.number (h.this.accepted ++ body ∷ []) o.handed setting.apart (declared-at setting.numbers q other.number at) h.master.routes within
    (way-within o.handed (marks other.from_it) key (filter (is_from other.number) h.heard) o.back)) in
    lost side.slave.host other.slave.host h.this.accepted h.this.handed o.accepted o.handed body h.this.holds o.holds chain back (from ∙ sym t_named) (to ∙ sym x_named) reply none

-- it is from the master
lost-of-master : (setting : Setting) (stations : List LineStationState) (place : ℕ) (m : MasterState (RouterState NodeState)) (side : LineStationState) (d : ℕ) (lines : List Line) (body : List ℕ) (h : LinkHolds setting stations place (link_state m side d) lines)
    → IsFrom setting.master.address body → IsTo side.number body → IsWithin (h.this.accepted ++ body ∷ []) h.sent
    → is_reply body ≡ true → answered_place side.slave.host.initiator.issued body ≡ None → IsLost (filter is_command h.this.handed) side.slave.host.initiator.issued body
lost-of-master setting stations place m side d lines body h from to within reply none =
    let x = setting.side place in
    let t = setting.master in
    let own = filter (is_own setting.numbers) h.heard in
    let named = (setting.named place side.number h.is_at).1 in
    let chain : IsWithin (filter (is_from x.address) own) h.this.handed = subst (λ n. IsWithin (filter (is_from n) own) h.this.handed) (sym named)
    (own-chain setting.numbers side.number h.heard h.this.handed (way-within h.this.handed (marks side.from_it) (kept_at m.stations place) (filter (is_from side.number) h.heard) h.this.back)) in
    let back : IsWithin (filter (is_from t.address) (h.this.accepted ++ body ∷ [])) (filter (is_from t.address) h.sent) = within-filter (is_from t.address) (h.this.accepted ++ body ∷ []) h.sent within in
    lost side.slave.host m.host.inner h.this.accepted h.this.handed own (filter (is_from t.address) h.sent) body h.this.holds h.master.routes.inner chain back from (to ∙ sym named) reply none

-- whatever it is from
side-lost : (setting : Setting) (stations : List LineStationState) (place : ℕ) (m : MasterState (RouterState NodeState)) (side : LineStationState) (d : ℕ) (lines : List Line) (body : List ℕ) (h : LinkHolds setting stations place (link_state m side d) lines)
    → IsTo side.number body → IsWithin (h.this.accepted ++ body ∷ []) h.sent
    → is_reply body ≡ true → answered_place side.slave.host.initiator.issued body ≡ None → IsLost (filter is_command h.this.handed) side.slave.host.initiator.issued body
side-lost setting stations place m side d lines body h to within reply none = by (is-sent-by body h.master.routes (within-has (h.this.accepted ++ body ∷ []) h.sent body within (get-last h.this.accepted body)))
  where
    at-place : (q : ℕ) (other : LineStationState) → slice_get stations q ≡ Some other → slice_get setting.numbers q ≡ Some other.number → slice_index body 1 ≡ other.number → (same : Bool) → (q == place) ≡ same
        → IsLost (filter is_command h.this.handed) side.slave.host.initiator.issued body
    at-place q other found at from true same =
        let here : q ≡ place = eqb-true q place same in
        let number : Some side.number ≡ Some other.number = sym h.is_at ∙ ap (slice_get setting.numbers) (sym here) ∙ at in
        lost-of-side setting stations place place m side side (kept_at m.stations place) d lines body h h.this h.is_at (from ∙ (let is : other.number ≡ side.number = cc in is)) to within reply none
    at-place q other found at from false same = lost-of-side setting stations place q m side other (kept_at m.stations q) d lines body h (h.others q other found (eqb-false q place same)) at from to within reply none

    by : IsSentBy setting.master.address setting.numbers body → IsLost (filter is_command h.this.handed) side.slave.host.initiator.issued body
    by (master from) = lost-of-master setting stations place m side d lines body h from to within reply none
    by (station declared) =
        let q = declared-place setting.numbers (slice_index body 1) declared in
        let other = from-map (λ (x : LineStationState). x.number) stations q.0 (slice_index body 1) (ap (λ ns. slice_get ns q.0) h.sides_are ∙ q.1) in
        at-place q.0 other.0 other.1 (q.1 ∙ ap Some (sym other.2)) (sym other.2) (q.0 == place) refl

-- ---- the cell

arrives-accepted : (setting : Setting) (stations : List LineStationState) (place : ℕ) (m : MasterState (RouterState NodeState)) (side : LineStationState) (cell : LaneCell) (cells : List LaneCell) (d : ℕ) (lines : List Line)
    → deceptions_at routed_node ToStation (link_state m (coming side cells) d) cell ≡ 0 → Accepts side.slave cell.byte → LinkHolds setting stations place (link_state m (coming side (cell ∷ cells)) d) lines
    → LinkHolds setting stations place (after_cell routed_node ToStation (link_state m (coming side cells) d) cell) (lines ++ cell_lines routed_node ToStation (link_state m (coming side cells) d) cell)
arrives-accepted setting stations place m side cell cells d lines none a h =
    let this = h.this in
    let end = setting.side place in
    let number = side.number in
    let named = setting.named place number h.is_at in
    let s = side.slave in
    let after = slave_after_byte node_host s cell.byte in
    let step = step_at_byte node_host s cell.byte in
    let body = body_of (listened s cell.byte) in
    let same : body_of after ≡ body = lent-after s cell.byte in
    let ends = honest-station step.whole step.station cell.ends (body_of after) none a.whole in
    let mark : option_map (λ (e : Ending). e.body) cell.ends ≡ Some body = ends.0 ∙ ap Some same in
    let to : slice_index body 0 ≡ number = ap (λ (b : List ℕ). slice_index b 0) (sym same) ∙ ends.1 ∙ a.station ∙ this.own in
    let accepted = this.accepted ++ body ∷ [] in
    let way = way-accepts h.sent body (marks cells) s.kept this.accepted a.new (subst (λ (o : Option (List ℕ)). Way h.sent (o ∷ marks cells) s.kept this.accepted) mark this.way) in
    let within = way-within h.sent (marks cells) (Some (key_of body)) accepted way in
    let what = did_accept s.host body in
    let told : List Line = did_lines (S number) (Some what) body in
    let more : cell_lines routed_node ToStation (link_state m (coming side cells) d) cell ≡ told =
    station-lines _ (S number) step (body_of after) ∙ accept-lines (S number) step (body_of after) body what a.act a.did a.news same in
    let now = end-accept s.host body (λ plain. to ∙ sym named.1) (side-lost setting stations place m (coming side (cell ∷ cells)) d lines body h to within) this.holds in
    let quiet : (who : Who) → is_who who (S number) ≡ false → IsQuiet who (cell_lines routed_node ToStation (link_state m (coming side cells) d) cell) = λ who apart.
    subst (λ (all : List Line). IsQuiet who all) (sym more) (did-other who (S number) apart (Some what) body) in
    record {
      sent = h.sent;
      heard = h.heard;
      master = record {
        routes = routes-quiet (cell_lines routed_node ToStation (link_state m (coming side cells) d) cell) (quiet setting.master.who (rw setting.is_master refl)) h.master.routes;
        sends = h.master.sends;
        numbers_are = h.master.numbers_are;
      };
      sides_are = h.sides_are;
      is_at = h.is_at;
      this = record {
        handed = this.handed;
        accepted = accepted;
        own = ap (λ setup. setup.station) (setup-stays s cell.byte) ∙ this.own;
        holds = subst (λ (all : List Line). EndHolds end accepted after.host this.handed (lines ++ all)) (sym more)
            (subst (λ (who : Who). EndHolds end accepted after.host this.handed (lines ++ did_lines who (Some what) body)) named.0
            (subst (λ (node : NodeState). EndHolds end accepted node this.handed (lines ++ did_lines end.who (Some what) body)) (sym a.host) now));
        sends = a.sends this.sends;
        to_it = all-push (IsTo number) this.accepted body this.to_it to;
        way = subst (λ (k : Option Key). Way h.sent (marks cells) k accepted) (sym a.kept) way;
        back = this.back;
      };
      others = λ p other at differ.
          let apart = other-number setting stations place p number other h.sides_are h.is_at at differ in
          let other_named = setting.named p other.number (number-at setting.numbers stations p other h.sides_are at) in
          side-quiet (cell_lines routed_node ToStation (link_state m (coming side cells) d) cell) (quiet (setting.side p).who (rw other_named.0 (other-who other.number number apart))) (h.others p other at differ);
    }

arrives-passed : (setting : Setting) (stations : List LineStationState) (place : ℕ) (m : MasterState (RouterState NodeState)) (side : LineStationState) (cell : LaneCell) (cells : List LaneCell) (d : ℕ) (lines : List Line)
    → (h : LinkHolds setting stations place (link_state m (coming side (cell ∷ cells)) d) lines) → PassesOver (setting.side place).who (EndHolds (setting.side place) h.this.accepted) side.slave cell.byte
    → LinkHolds setting stations place (after_cell routed_node ToStation (link_state m (coming side cells) d) cell) (lines ++ cell_lines routed_node ToStation (link_state m (coming side cells) d) cell)
arrives-passed setting stations place m side cell cells d lines h o =
    let this = h.this in
    let end = setting.side place in
    let number = side.number in
    let named = setting.named place number h.is_at in
    let s = side.slave in
    let after = slave_after_byte node_host s cell.byte in
    let step = step_at_byte node_host s cell.byte in
    let acts : List Line = act_lines (S number) step.act step.did (body_of after) in
    let news : List Line = news_lines (S number) step.news in
    let told : List Line = cell_lines routed_node ToStation (link_state m (coming side cells) d) cell in
    let more : told ≡ acts ++ news = station-lines _ (S number) step (body_of after) in
    let quiet : (who : Who) → is_who who (S number) ≡ false → IsQuiet who told = λ who apart.
    subst (λ (all : List Line). IsQuiet who all) (sym more) (quiet-both who acts news (act-other who (S number) apart step.act step.did (body_of after)) (news-other who (S number) apart step.news)) in
    let kept = o.keeps this.handed (lines ++ acts) (end-quiet acts (act-quiet end.who (S number) step.act step.did (body_of after) o.act) this.holds) this.sends in
    record {
      sent = h.sent;
      heard = h.heard;
      master = record {
        routes = routes-quiet told (quiet setting.master.who (rw setting.is_master refl)) h.master.routes;
        sends = h.master.sends;
        numbers_are = h.master.numbers_are;
      };
      sides_are = h.sides_are;
      is_at = h.is_at;
      this = record {
        handed = this.handed ++ kept.more;
        accepted = this.accepted;
        own = ap (λ setup. setup.station) (setup-stays s cell.byte) ∙ this.own;
        holds = subst (λ (all : List Line). EndHolds end this.accepted after.host (this.handed ++ kept.more) (lines ++ all)) (sym more)
            (subst (λ (all : List Line). EndHolds end this.accepted after.host (this.handed ++ kept.more) all) (append_assoc lines acts news)
            (subst (λ (who : Who). EndHolds end this.accepted after.host (this.handed ++ kept.more) ((lines ++ acts) ++ news_lines who step.news)) named.0 kept.holds));
        sends = kept.sends;
        to_it = this.to_it;
        way = subst (λ (k : Option Key). Way h.sent (marks cells) k this.accepted) (sym o.kept) (way-leaves h.sent (option_map (λ (e : Ending). e.body) cell.ends) (marks cells) s.kept this.accepted this.way);
        back = way-more this.handed kept.more (marks side.from_it) (kept_at m.stations place) (filter (is_from number) h.heard) this.back;
      };
      others = λ p other at differ.
          let apart = other-number setting stations place p number other h.sides_are h.is_at at differ in
          let other_named = setting.named p other.number (number-at setting.numbers stations p other h.sides_are at) in
          side-quiet told (quiet (setting.side p).who (rw other_named.0 (other-who other.number number apart))) (h.others p other at differ);
    }

pub station-arrival : (setting : Setting) (stations : List LineStationState) (place : ℕ) (m : MasterState (RouterState NodeState)) (side : LineStationState) (cell : LaneCell) (cells : List LaneCell) (d : ℕ) (lines : List Line)
    → deceptions_at routed_node ToStation (link_state m (coming side cells) d) cell ≡ 0 → LinkHolds setting stations place (link_state m (coming side (cell ∷ cells)) d) lines
    → LinkHolds setting stations place (after_cell routed_node ToStation (link_state m (coming side cells) d) cell) (lines ++ cell_lines routed_node ToStation (link_state m (coming side cells) d) cell)
station-arrival setting stations place m side cell cells d lines none h = elim (at-byte (setting.side place).who (EndHolds (setting.side place) h.this.accepted) (end-hands (setting.side place) h.this.accepted) side.slave cell.byte) [
  | accepts a ↦ arrives-accepted setting stations place m side cell cells d lines none a h
  | passes o ↦ arrives-passed setting stations place m side cell cells d lines h o
]
