-- A cell arrives at the master of a route, which isn't deceived by it: what held still holds, with the lines that it makes.
use Rattle.std.proofs.Common.{◌≡◌, ◌∙◌, ℕ, Bool, true, false, not, List, [], ◌∷◌, ◌++◌, Option, Some, None, refl, ap, sym, subst, append-nil, append_assoc}
use Rattle.std.specs.Prelude.{slice_get, slice_index}
use Rattle.std.specs.Option.{option_map}
use Rattle.std.specs.List.{filter}
use Rattle.std.proofs.lemmas.Bool.{eq-eqb, eqb-true}
use Rattle.df1_base.specs.declared.host.Did.{Did}
use Rattle.df1_base.specs.declared.host.Fate.{Fate}
use Rattle.df1_base.specs.declared.host.News.TheVariants as news
use Rattle.df1_base.specs.declared.link.Act.TheVariants as act
use Rattle.df1_base.specs.declared.link.Step.{Step}
use Rattle.df1_base.specs.HostAnswers.{host_told, news_of}
use Rattle.pccc_envelope.specs.declared.key.Key.{Key}
use Rattle.pccc_envelope.specs.Envelope.{is_reply, key_of}
use Rattle.pccc_envelope.specs.Accepted.{is_kept}
use Rattle.df1_node.specs.Initiator.{answered_place}
use Rattle.df1_node.specs.Node.{NodeState}
use Rattle.half_master.specs.Emission.{Byte}
use Rattle.half_master.specs.Keys.{kept_at}
use Rattle.half_master.specs.Master.{MasterState, with_byte, body_of, master_after_byte, step_at_byte}
use Rattle.half_master.proofs.KeyLemmas.{signal-numbers}
use Rattle.half_master.proofs.LastMessage.{sends-byte}
use Rattle.half_master.proofs.Seen.{Accepts, PassesOver, accepts, passes, at-byte, lent-after, key-before, key-after, other-keys, number-at as number-of-accepted}
use Rattle.station_router.specs.Router.{RouterState, is_carried}
use Rattle.script_parts.specs.HalfPlayable.{is_declared}
use Rattle.script_statement.specs.declared.who.Who.{Who}
use Rattle.script_statement.specs.declared.who.Who.TheVariants.{M}
use Rattle.replay_report.specs.declared.record.Line.{Line}
use Rattle.lane_cells.specs.Cells.{LaneCell, Ending}
use Rattle.report_lines.specs.NodeLines.{news_lines}
use Rattle.each_once.specs.Commands.{is_command}
use Rattle.each_once.specs.OfStation.{is_from}
use Rattle.each_once.specs.Tells.{is_who}
use Rattle.each_once.proofs.OneDirection.{Way, way-leaves, way-accepts, way-within}
use Rattle.each_once.proofs.Sublists.{Has, IsWithin, within-has, within-filter, filter-keeps, filter-drops}
use Rattle.half_line.specs.declared.way.Way.TheVariants.{ToMaster}
use Rattle.half_line.specs.Acts.{LineStationState, link_state, after_cell, act_lines_at, carries_at, cell_lines, deceptions_at, step_lines_at}
use Rattle.half_line.specs.Behind.{routed_node}
use Rattle.half_line.proofs.Once.Honest.{honest}
use Rattle.half_line.proofs.Once.Invariant.{marks, number-at}
use Rattle.half_line.proofs.Once.MasterArrival.{leaving}
use Rattle.half_line.proofs.Once.MasterReplies.{declared-at}
use Rattle.half_line.proofs.Once.Places.{not-equal, one-place}
use Rattle.half_route.proofs.Once.Chains.{master, station, is-sent-by, own-chain, sent-own, sent-reply}
use Rattle.half_route.proofs.Once.EndSteps.{IsFrom, IsTo}
use Rattle.half_route.proofs.Once.FoundCommands.{lost}
use Rattle.half_route.proofs.Once.Invariant.{Setting, LinkHolds, side-quiet, side-heard, side-lanes, other-number}
use Rattle.half_route.proofs.Once.QuietEnds.{IsQuiet, quiet-both, act-at-quiet, accept-at-other, news-other}
use Rattle.half_route.proofs.Once.RouterSteps.{Routes, is_own, routes-quiet, routes-accept, routes-told}
use Rattle.half_route.proofs.Once.Telling.{IsLost}

-- ---- the lines

at-master : (carried : Bool) → carries_at carried ToMaster ≡ carried
at-master true = refl
at-master false = refl

accept-lines : (carried now : Bool) (step : Step) (heard body : List ℕ) (what : Did) → now ≡ carried → step.act ≡ act.Accept → step.did ≡ Some what → step.news ≡ news.Nothing → heard ≡ body
    → step_lines_at (carries_at now ToMaster) M step heard ≡ act_lines_at carried M act.Accept (Some what) body
accept-lines carried now step heard body what same is-act is-did is-news is = rw (same, at-master carried, is-act, is-did, is-news, is) (append-nil (act_lines_at carried M act.Accept (Some what) body))

-- ---- what the master's node accepts of a station

-- a message that isn't carried is for the node
own-to : (setting : Setting) (stations : List LineStationState) (place : ℕ) (m : MasterState (RouterState NodeState)) (side : LineStationState) (d : ℕ) (lines : List Line) (body : List ℕ) (h : LinkHolds setting stations place (link_state m side d) lines)
    → Has h.this.handed body → is_carried setting.numbers body ≡ false → is_reply body ≡ false → IsTo setting.master.address body
own-to setting stations place m side d lines body h has own plain =
    setting.reaches place (slice_index body 0) (sent-own side.slave.host h.this.handed body h.this.holds has plain).1 own

reply-to : (setting : Setting) (stations : List LineStationState) (place : ℕ) (m : MasterState (RouterState NodeState)) (side : LineStationState) (d : ℕ) (lines : List Line) (body : List ℕ) (h : LinkHolds setting stations place (link_state m side d) lines)
    → Has h.this.handed body → is_carried setting.numbers body ≡ false → is_reply body ≡ true → IsTo setting.master.address body
reply-to setting stations place m side d lines body h has own reply =
    let this = h.this in
    let r = sent-reply side.slave.host this.handed body this.holds has reply in
    let was_sent = within-has this.accepted h.sent r.body (way-within h.sent (marks side.to_it) side.slave.kept this.accepted this.way) r.was_accepted in
    elim (is-sent-by r.body h.master.routes was_sent) [
      | master from ↦ r.fits ∙ from
      | station declared ↦ absurd (let no : true ≡ false = sym declared ∙ ap (is_declared setting.numbers) (sym r.fits) ∙ own in cc)
    ]

-- a reply that answers no command that is out
own-lost : (setting : Setting) (stations : List LineStationState) (place : ℕ) (m : MasterState (RouterState NodeState)) (side : LineStationState) (d : ℕ) (lines : List Line) (body : List ℕ) (h : LinkHolds setting stations place (link_state m side d) lines)
    → Has h.this.handed body → IsFrom side.number body → IsWithin (filter (is_from side.number) h.heard ++ body ∷ []) h.this.handed → is_carried setting.numbers body ≡ false → is_reply body ≡ true
    → answered_place m.host.inner.initiator.issued body ≡ None → IsLost (filter is_command (filter (is_from setting.master.address) h.sent)) m.host.inner.initiator.issued body
own-lost setting stations place m side d lines body h has from within own reply none =
    let this = h.this in
    let x = setting.master in
    let t = setting.side place in
    let named = (setting.named place side.number h.is_at).1 in
    let before = filter (is_own setting.numbers) h.heard in
    let chain = within-filter (is_from x.address) this.accepted h.sent (way-within h.sent (marks side.to_it) side.slave.kept this.accepted this.way) in
    let all : IsWithin (filter (is_from side.number) (filter (is_own setting.numbers) (h.heard ++ body ∷ []))) this.handed = own-chain setting.numbers side.number (h.heard ++ body ∷ []) this.handed
    (subst (λ l. IsWithin l this.handed) (sym (filter-keeps (is_from side.number) h.heard body (eq-eqb _ _ from))) within) in
    let back : IsWithin (filter (is_from t.address) (before ++ body ∷ [])) this.handed = subst (λ n. IsWithin (filter (is_from n) (before ++ body ∷ [])) this.handed) (sym named)
    (subst (λ l. IsWithin (filter (is_from side.number) l) this.handed) (filter-keeps (is_own setting.numbers) h.heard body (ap not own)) all) in
    lost m.host.inner side.slave.host before (filter (is_from x.address) h.sent) this.accepted this.handed body h.master.routes.inner this.holds chain back (from ∙ sym named) (reply-to setting stations place m side d lines body h has own reply) reply none

-- ---- the cell

arrives-accepted : (setting : Setting) (stations : List LineStationState) (place : ℕ) (m : MasterState (RouterState NodeState)) (side : LineStationState) (cell : LaneCell) (cells : List LaneCell) (d : ℕ) (lines : List Line)
    → deceptions_at routed_node ToMaster (link_state m (leaving side cells) d) cell ≡ 0 → Accepts routed_node.host m cell.byte → LinkHolds setting stations place (link_state m (leaving side (cell ∷ cells)) d) lines
    → LinkHolds setting stations place (after_cell routed_node ToMaster (link_state m (leaving side cells) d) cell) (lines ++ cell_lines routed_node ToMaster (link_state m (leaving side cells) d) cell)
arrives-accepted setting stations place m side cell cells d lines none a h =
    let this = h.this in
    let number = side.number in
    let numbers = setting.numbers in
    let named = setting.named place number h.is_at in
    let after = master_after_byte routed_node.host m cell.byte in
    let step = step_at_byte routed_node.host m cell.byte in
    let body = body_of (with_byte m cell.byte) in
    let same : body_of after ≡ body = lent-after routed_node.host m cell.byte in
    let mark : option_map (λ (e : Ending). e.body) cell.ends ≡ Some body = honest step.whole cell.ends (body_of after) none a.whole ∙ ap Some same in
    let before = filter (is_from number) h.heard in
    let back : Way this.handed (Some body ∷ marks cells) (kept_at m.stations place) before = subst (λ (o : Option (List ℕ)). Way this.handed (o ∷ marks cells) (kept_at m.stations place) before) mark this.back in
    let has : Has this.handed body = (back.carried.0, back.carried.2) in
    let from : IsFrom number body = this.holds.from_it has.0 body has.1 ∙ named.1 in
    let at : slice_get numbers a.place ≡ Some number = ap (λ ns. slice_get ns a.place) (sym h.master.numbers_are) ∙ number-of-accepted routed_node.host m cell.byte a ∙ ap Some from in
    let same_place : a.place ≡ place = one-place numbers a.place place number setting.distinct at h.is_at in
    let new : is_kept (kept_at m.stations place) (key_of body) ≡ false = subst (λ p. is_kept (kept_at m.stations p) (key_of body) ≡ false) same_place (key-before routed_node.host m cell.byte a) in
    let way = way-accepts this.handed body (marks cells) (kept_at m.stations place) before new back in
    let within = way-within this.handed (marks cells) (Some (key_of body)) (before ++ body ∷ []) way in
    let heard = h.heard ++ body ∷ [] in
    let is_from_it : is_from number body ≡ true = eq-eqb _ _ from in
    let heard_now : filter (is_from number) heard ≡ before ++ body ∷ [] = filter-keeps (is_from number) h.heard body is_from_it in
    let key_now : kept_at after.stations place ≡ Some (key_of body) = ap (kept_at after.stations) (sym same_place) ∙ key-after routed_node.host m cell.byte a in
    let accepted = routes-accept m.host body (ap (is_declared numbers) from ∙ declared-at numbers place number h.is_at)
    (own-to setting stations place m (leaving side (cell ∷ cells)) d lines body h has) (own-lost setting stations place m (leaving side (cell ∷ cells)) d lines body h has from within) h.master.routes in
    let carried = is_carried numbers body in
    let what = routed_node.host.did m.host body in
    let told : List Line = cell_lines routed_node ToMaster (link_state m (leaving side cells) d) cell in
    let here : routed_node.carries after.host (body_of after) ≡ carried = ap (λ (b : List ℕ). is_carried after.host.stations b) same ∙ ap (λ (r : RouterState NodeState). is_carried r.stations body) a.host ∙ ap (λ (ns : List ℕ). is_carried ns body) accepted.stations in
    let more : told ≡ act_lines_at carried M act.Accept (Some what) body = accept-lines carried _ step (body_of after) body what here a.act a.did a.news same in
    let quiet : (who : Who) → is_who who M ≡ false → IsQuiet who told = λ who apart. subst (λ (all : List Line). IsQuiet who all) (sym more) (accept-at-other who M apart carried what body) in
    record {
      sent = h.sent;
      heard = heard;
      master = record {
        routes = subst (λ (all : List Line). Routes setting.master numbers after.host h.sent heard (lines ++ all)) (sym more)
            (subst (λ (who : Who). Routes setting.master numbers after.host h.sent heard (lines ++ act_lines_at carried who act.Accept (Some what) body)) setting.is_master
            (subst (λ (r : RouterState NodeState). Routes setting.master numbers r h.sent heard (lines ++ act_lines_at carried setting.master.who act.Accept (Some what) body)) (sym a.host) accepted));
        sends = sends-byte routed_node.host m cell.byte h.master.sends;
        numbers_are = signal-numbers routed_node.host m (Byte cell.byte) ∙ h.master.numbers_are;
      };
      sides_are = h.sides_are;
      is_at = h.is_at;
      this = side-quiet told (quiet (setting.side place).who (rw named.0 refl)) (record {
        handed = this.handed;
        accepted = this.accepted;
        own = this.own;
        holds = this.holds;
        sends = this.sends;
        to_it = this.to_it;
        way = this.way;
        back = subst (λ (all : List (List ℕ)). Way this.handed (marks cells) (kept_at after.stations place) all) (sym heard_now)
            (subst (λ (k : Option Key). Way this.handed (marks cells) k (before ++ body ∷ [])) (sym key_now) way);
      });
      others = λ p other at_other differ.
          let apart = other-number setting stations place p number other h.sides_are h.is_at at_other differ in
          let other_named = setting.named p other.number (number-at numbers stations p other h.sides_are at_other) in
          let not_from : is_from other.number body ≡ false = not-equal (is_from other.number body) (λ is. apart (sym (eqb-true _ _ is) ∙ from)) in
          side-quiet told (quiet (setting.side p).who (rw other_named.0 refl))
          (side-heard heard (kept_at after.stations p) (filter-drops (is_from other.number) h.heard body not_from) (other-keys routed_node.host m cell.byte a p (λ is. differ (is ∙ same_place))) (h.others p other at_other differ));
    }

-- ---- no message is accepted

told-routes : (setting : Setting) (r : RouterState NodeState) (sent heard : List (List ℕ)) (lines : List Line) (what : Option Fate) → Routes setting.master setting.numbers r sent heard lines
    → Routes setting.master setting.numbers (host_told routed_node.host what r) sent heard (lines ++ news_lines M (news_of routed_node.host what r))
told-routes setting r sent heard lines None h = rw (append-nil lines) h
told-routes setting r sent heard lines (Some what) h =
    subst (λ (who : Who). Routes setting.master setting.numbers (routed_node.host.after_told r what) sent heard (lines ++ news_lines who (routed_node.host.news r what))) setting.is_master (routes-told r what h)

arrives-passed : (setting : Setting) (stations : List LineStationState) (place : ℕ) (m : MasterState (RouterState NodeState)) (side : LineStationState) (cell : LaneCell) (cells : List LaneCell) (d : ℕ) (lines : List Line)
    → PassesOver routed_node.host m cell.byte → LinkHolds setting stations place (link_state m (leaving side (cell ∷ cells)) d) lines
    → LinkHolds setting stations place (after_cell routed_node ToMaster (link_state m (leaving side cells) d) cell) (lines ++ cell_lines routed_node ToMaster (link_state m (leaving side cells) d) cell)
arrives-passed setting stations place m side cell cells d lines o h =
    let this = h.this in
    let number = side.number in
    let numbers = setting.numbers in
    let named = setting.named place number h.is_at in
    let after = master_after_byte routed_node.host m cell.byte in
    let step = step_at_byte routed_node.host m cell.byte in
    let carried = carries_at (routed_node.carries after.host (body_of after)) ToMaster in
    let acts : List Line = act_lines_at carried M step.act step.did (body_of after) in
    let told : List Line = cell_lines routed_node ToMaster (link_state m (leaving side cells) d) cell in
    let quiet : (who : Who) → is_who who M ≡ false → IsQuiet who told = λ who apart. quiet-both who acts (news_lines M step.news) (act-at-quiet who M carried step.act step.did (body_of after) o.act) (news-other who M apart step.news) in
    let key : (p : ℕ) → kept_at after.stations p ≡ kept_at m.stations p = λ p. ap (λ l. kept_at l p) o.stations in
    let routes = told-routes setting m.host h.sent h.heard (lines ++ acts) o.fate (routes-quiet acts (act-at-quiet setting.master.who M carried step.act step.did (body_of after) o.act) h.master.routes) in
    record {
      sent = h.sent;
      heard = h.heard;
      master = record {
        routes = subst (λ (all : List Line). Routes setting.master numbers after.host h.sent h.heard all) (append_assoc lines acts (news_lines M step.news))
            (subst (λ n. Routes setting.master numbers after.host h.sent h.heard ((lines ++ acts) ++ news_lines M n)) (sym o.news)
            (subst (λ (r : RouterState NodeState). Routes setting.master numbers r h.sent h.heard ((lines ++ acts) ++ news_lines M (news_of routed_node.host o.fate m.host))) (sym o.host) routes));
        sends = sends-byte routed_node.host m cell.byte h.master.sends;
        numbers_are = signal-numbers routed_node.host m (Byte cell.byte) ∙ h.master.numbers_are;
      };
      sides_are = h.sides_are;
      is_at = h.is_at;
      this = side-quiet told (quiet (setting.side place).who (rw named.0 refl)) (side-heard h.heard (kept_at after.stations place) refl (key place)
          (side-lanes side.to_it cells this this.way (way-leaves this.handed (option_map (λ (e : Ending). e.body) cell.ends) (marks cells) (kept_at m.stations place) (filter (is_from number) h.heard) this.back)));
      others = λ p other at_other differ.
          let other_named = setting.named p other.number (number-at numbers stations p other h.sides_are at_other) in
          side-quiet told (quiet (setting.side p).who (rw other_named.0 refl)) (side-heard h.heard (kept_at after.stations p) refl (key p) (h.others p other at_other differ));
    }

pub master-arrival : (setting : Setting) (stations : List LineStationState) (place : ℕ) (m : MasterState (RouterState NodeState)) (side : LineStationState) (cell : LaneCell) (cells : List LaneCell) (d : ℕ) (lines : List Line)
    → deceptions_at routed_node ToMaster (link_state m (leaving side cells) d) cell ≡ 0 → LinkHolds setting stations place (link_state m (leaving side (cell ∷ cells)) d) lines
    → LinkHolds setting stations place (after_cell routed_node ToMaster (link_state m (leaving side cells) d) cell) (lines ++ cell_lines routed_node ToMaster (link_state m (leaving side cells) d) cell)
master-arrival setting stations place m side cell cells d lines none h = elim (at-byte routed_node.host m cell.byte) [
  | accepts a ↦ arrives-accepted setting stations place m side cell cells d lines none a h
  | passes o ↦ arrives-passed setting stations place m side cell cells d lines o h
]
