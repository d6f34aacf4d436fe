-- A cell arrives at a station, which isn't deceived by it: what held still holds, with the lines that it makes.
use Rattle.std.proofs.Common.{◌≡◌, ◌∙◌, ℕ, zero, suc, true, false, List, [], ◌∷◌, ◌++◌, Option, Some, refl, ap, sym, subst}
use Rattle.std.specs.Prelude.{slice_index, ◌==◌}
use Rattle.std.specs.Option.{option_map}
use Rattle.std.specs.List.{filter}
use Rattle.std.proofs.lemmas.Bool.{eq-eqb, eqb-true}
use Rattle.df1_base.specs.declared.host.Did.TheVariants as did
use Rattle.df1_base.specs.declared.host.News.TheVariants as news
use Rattle.df1_base.specs.declared.link.Act.TheVariants as act
use Rattle.df1_base.specs.declared.link.Step.{Step}
use Rattle.pccc_envelope.specs.declared.key.Key.{Key}
use Rattle.pccc_envelope.specs.Envelope.{is_reply, key_of}
use Rattle.df1_node.specs.Answer.{StationState}
use Rattle.df1_node.specs.Initiator.{Issued}
use Rattle.df1_node.specs.Node.{NodeState, did_accept}
use Rattle.half_master.specs.Keys.{kept_at}
use Rattle.half_master.specs.Master.{MasterState}
use Rattle.half_slave.specs.Slave.{body_of, listened, slave_after_byte, step_at_byte}
use Rattle.script_statement.specs.declared.who.Who.{Who}
use Rattle.script_statement.specs.declared.who.Who.TheVariants.{M, S}
use Rattle.replay_report.specs.declared.record.Line.{Line}
use Rattle.replay_report.specs.declared.record.Line.TheVariants as line
use Rattle.lane_cells.specs.Cells.{LaneCell, Ending}
use Rattle.report_lines.specs.NodeLines.{step_lines}
use Rattle.each_once.specs.NodeHost.{node_host}
use Rattle.each_once.specs.OfStation.{is_from, lines_of}
use Rattle.each_once.proofs.AnsweringStation.{Serves, serves-accept}
use Rattle.each_once.proofs.IssuingNode.{commands-plain}
use Rattle.each_once.proofs.OneDirection.{Way, way-more, way-leaves, way-accepts, way-within}
use Rattle.each_once.proofs.Sublists.{Has, within-has, get-last, same-some}
use Rattle.each_once.proofs.ToldLines.{IsTold, told-executes}
use Rattle.half_line.specs.Behind.{plain_node}
use Rattle.half_line.specs.declared.way.Way.TheVariants.{ToStation}
use Rattle.half_line.specs.Acts.{LineStationState, link_state, after_cell, cell_lines, deceptions_at}
use Rattle.half_line.proofs.Once.Honest.{honest-station}
use Rattle.half_line.specs.Issues.{issued_of}
use Rattle.half_line.proofs.Once.Invariant.{marks, AreTo, side-lines, Setting, LinkHolds, other-number}
use Rattle.half_line.proofs.Once.MasterReplies.{MasterTold, master-mute}
use Rattle.half_line.proofs.Once.Places.{not-equal}
use Rattle.half_line.proofs.Once.QuietLines.{step-mute, exec-mute, IsSilentOf, lines-both, step-silent, told-of-silent}
use Rattle.half_line.proofs.Once.StationSteps.{serving, serving-hands, Accepts, PassesOver, accepts, passes, at-byte, setup-stays, lent-after}

-- ---- what an accept tells

step-executes : (who : Who) (step : Step) (heard body : List ℕ) → step.act ≡ act.Accept → step.did ≡ Some did.Executed → step.news ≡ news.Nothing → heard ≡ body → step_lines who step heard ≡ line.Exec who body ∷ []
step-executes who step heard body is-act is-did is-news same = rw (is-act, is-did, is-news, same) refl

executed-did : (node : NodeState) (body : List ℕ) → is_reply body ≡ false → did_accept node body ≡ did.Executed
executed-did node body plain = rw plain refl

own-exec : (station : ℕ) (first : StationState) (issued : List Issued) (executed : List (List ℕ)) (lines : List Line) (body : List ℕ) → IsTold M (S station) first issued executed (lines_of station lines)
    → IsTold M (S station) first issued (executed ++ body ∷ []) (lines_of station (lines ++ line.Exec (S station) body ∷ []))
own-exec station first issued executed lines body t =
    let itself : (station == station) ≡ true = eq-eqb station station refl in
    subst (λ all. IsTold M (S station) first issued (executed ++ body ∷ []) all) (sym (lines-both station lines (line.Exec (S station) body ∷ [])))
    (told-executes M (S station) first issued executed (lines_of station lines) (line.Exec (S station) body ∷ []) body (rw itself refl) refl refl t)

other-exec : (station other : ℕ) (body : List ℕ) → (station ≡ other → ⊥) → IsSilentOf station (line.Exec (S other) body ∷ [])
other-exec station other body differ =
    let not : (station == other) ≡ false = not-equal (station == other) (λ same. differ (eqb-true station other same)) in
    record { executes = rw not refl; answers = refl; strays = refl }

to-push : (number : ℕ) (bodies : List (List ℕ)) (body : List ℕ) → AreTo number bodies → slice_index body 0 ≡ number → AreTo number (bodies ++ body ∷ [])
to-push number [] body all is zero other at = ap (λ (b : List ℕ). slice_index b 0) (sym (same-some body other at)) ∙ is
to-push number [] body all is (suc k) other at = cc
to-push number (b ∷ bodies) body all is zero other at = all zero other at
to-push number (b ∷ bodies) body all is (suc k) other at = to-push number bodies body (λ k other at. all (suc k) other at) is k other at

-- ---- the cell

-- the station with a cell that arrives next, and with those behind it
abbrev pub coming : LineStationState → List LaneCell → LineStationState
coming side cells = record { number = side.number; slave = side.slave; to_it = cells; from_it = side.from_it }

arrives-accepted : (setting : Setting) (count : ℕ) (stations : List LineStationState) (place : ℕ) (m : MasterState NodeState) (side : LineStationState) (cell : LaneCell) (cells : List LaneCell) (d : ℕ) (lines : List Line)
    → deceptions_at plain_node ToStation (link_state m (coming side cells) d) cell ≡ 0 → Accepts side.slave cell.byte → LinkHolds setting count stations place (link_state m (coming side (cell ∷ cells)) d) lines
    → LinkHolds setting count stations place (after_cell plain_node ToStation (link_state m (coming side cells) d) cell) (lines ++ cell_lines plain_node ToStation (link_state m (coming side cells) d) cell)
arrives-accepted setting count stations place m side cell cells d lines none a h =
    let this = h.this in
    let first = setting.first place in
    let s = side.slave in
    let after = slave_after_byte node_host s cell.byte in
    let step = step_at_byte node_host s cell.byte in
    let body = body_of (listened s cell.byte) in
    let same : body_of after ≡ body = lent-after s cell.byte in
    let ends = honest-station step.whole step.station cell.ends (body_of after) none a.whole in
    let mark : option_map (λ (e : Ending). e.body) cell.ends ≡ Some body = ends.0 ∙ ap Some same in
    let to : slice_index body 0 ≡ side.number = ap (λ (b : List ℕ). slice_index b 0) (sym same) ∙ ends.1 ∙ a.station ∙ this.own in
    let way = way-accepts h.commands body (marks cells) s.kept this.executed a.new (subst (λ (o : Option (List ℕ)). Way h.commands (o ∷ marks cells) s.kept this.executed) mark this.way) in
    let has : Has h.commands body = within-has (this.executed ++ body ∷ []) h.commands body (way-within h.commands (marks cells) (Some (key_of body)) (this.executed ++ body ∷ []) way) (get-last this.executed body) in
    let plain = commands-plain body h.master.issues has in
    let more : cell_lines plain_node ToStation (link_state m (coming side cells) d) cell ≡ line.Exec (S side.number) body ∷ [] =
    step-executes (S side.number) step (body_of after) body a.act (a.did ∙ ap Some (executed-did s.host body plain)) a.news same in
    let issued = issued_of m in
    record {
      commands = h.commands;
      heard = h.heard;
      master = h.master;
      replies = subst (λ (all : List Line). MasterTold setting.numbers (lines ++ all)) (sym more) (master-mute setting.numbers lines (line.Exec (S side.number) body ∷ []) (exec-mute side.number body) h.replies);
      numbers_are = h.numbers_are;
      is_at = h.is_at;
      this = record {
        executed = this.executed ++ body ∷ [];
        sent = this.sent;
        own = ap (λ setup. setup.station) (setup-stays s cell.byte) ∙ this.own;
        keeps = record {
          serves = subst (λ (node : NodeState). Serves first node (this.executed ++ body ∷ []) this.sent) (sym a.host) (serves-accept body plain this.keeps.serves);
          sends = a.sends this.keeps.sends;
        };
        to_it = to-push side.number this.executed body this.to_it to;
        way = subst (λ (k : Option Key). Way h.commands (marks cells) k (this.executed ++ body ∷ [])) (sym a.kept) way;
        back = this.back;
        told = subst (λ (all : List Line). IsTold M (S side.number) first issued (this.executed ++ body ∷ []) (lines_of side.number (lines ++ all))) (sym more)
            (own-exec side.number first issued this.executed lines body this.told);
      };
      others = λ p other at differ. side-lines (cell_lines plain_node ToStation (link_state m (coming side cells) d) cell)
          (subst (λ (all : List Line). IsSilentOf other.number all) (sym more) (other-exec other.number side.number body (other-number setting stations place p side.number other h.numbers_are h.is_at at differ)))
          (h.others p other at differ);
    }

arrives-passed : (setting : Setting) (count : ℕ) (stations : List LineStationState) (place : ℕ) (m : MasterState NodeState) (side : LineStationState) (cell : LaneCell) (cells : List LaneCell) (d : ℕ) (lines : List Line)
    → (h : LinkHolds setting count stations place (link_state m (coming side (cell ∷ cells)) d) lines) → PassesOver (S side.number) (serving (setting.first place) h.this.executed) side.slave cell.byte
    → LinkHolds setting count stations place (after_cell plain_node ToStation (link_state m (coming side cells) d) cell) (lines ++ cell_lines plain_node ToStation (link_state m (coming side cells) d) cell)
arrives-passed setting count stations place m side cell cells d lines h o =
    let this = h.this in
    let first = setting.first place in
    let s = side.slave in
    let after = slave_after_byte node_host s cell.byte in
    let step = step_at_byte node_host s cell.byte in
    let more = cell_lines plain_node ToStation (link_state m (coming side cells) d) cell in
    let silent : (station : ℕ) → IsSilentOf station more = λ station. step-silent station (S side.number) step (body_of after) o.act in
    let more_sent = o.keeps this.sent lines this.keeps.serves this.keeps.sends in
    let told = filter (is_from side.number) h.heard in
    record {
      commands = h.commands;
      heard = h.heard;
      master = h.master;
      replies = master-mute setting.numbers lines more (step-mute (S side.number) step (body_of after) o.act) h.replies;
      numbers_are = h.numbers_are;
      is_at = h.is_at;
      this = record {
        executed = this.executed;
        sent = this.sent ++ more_sent.more;
        own = ap (λ setup. setup.station) (setup-stays s cell.byte) ∙ this.own;
        keeps = record { serves = more_sent.holds; sends = more_sent.sends };
        to_it = this.to_it;
        way = subst (λ (k : Option Key). Way h.commands (marks cells) k this.executed) (sym o.kept) (way-leaves h.commands (option_map (λ (e : Ending). e.body) cell.ends) (marks cells) s.kept this.executed this.way);
        back = way-more this.sent more_sent.more (marks side.from_it) (kept_at m.stations place) told this.back;
        told = told-of-silent side.number first (issued_of m) this.executed lines more (silent side.number) this.told;
      };
      others = λ p other at differ. side-lines more (silent other.number) (h.others p other at differ);
    }

pub station-arrival : (setting : Setting) (count : ℕ) (stations : List LineStationState) (place : ℕ) (m : MasterState NodeState) (side : LineStationState) (cell : LaneCell) (cells : List LaneCell) (d : ℕ) (lines : List Line)
    → deceptions_at plain_node ToStation (link_state m (coming side cells) d) cell ≡ 0 → LinkHolds setting count stations place (link_state m (coming side (cell ∷ cells)) d) lines
    → LinkHolds setting count stations place (after_cell plain_node ToStation (link_state m (coming side cells) d) cell) (lines ++ cell_lines plain_node ToStation (link_state m (coming side cells) d) cell)
station-arrival setting count stations place m side cell cells d lines none h = elim (at-byte (S side.number) (serving (setting.first place) h.this.executed) (serving-hands (S side.number) (setting.first place) h.this.executed) side.slave cell.byte) [
  | accepts a ↦ arrives-accepted setting count stations place m side cell cells d lines none a h
  | passes o ↦ arrives-passed setting count stations place m side cell cells d lines h o
]
