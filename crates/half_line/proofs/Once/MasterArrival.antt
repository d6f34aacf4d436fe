-- A cell arrives at the master, which isn't deceived by it: what held still holds, with the lines that it makes.
use Rattle.std.proofs.Common.{◌≡◌, ◌∙◌, ℕ, ◌+◌, ◌≤◌, true, false, List, [], ◌∷◌, ◌++◌, Option, Some, None, refl, ap, sym, subst}
use Rattle.std.specs.Prelude.{slice_get, slice_index}
use Rattle.std.specs.Option.{option_map, option_map_or}
use Rattle.std.specs.List.{filter}
use Rattle.std.proofs.lemmas.Bool.{eq-eqb, eqb-true}
use Rattle.df1_base.specs.declared.host.Did.{Did}
use Rattle.df1_base.specs.declared.host.Did.TheVariants as did
use Rattle.df1_base.specs.declared.host.Fate.{Fate}
use Rattle.df1_base.specs.declared.host.News.TheVariants as news
use Rattle.df1_base.specs.declared.link.Act.TheVariants as act
use Rattle.df1_base.specs.declared.link.Step.{Step}
use Rattle.df1_base.specs.HostAnswers.{host_told}
use Rattle.pccc_envelope.specs.declared.key.Key.{Key}
use Rattle.pccc_envelope.specs.Envelope.{is_reply, key_of}
use Rattle.pccc_envelope.specs.Accepted.{is_kept}
use Rattle.df1_node.specs.Answer.{StationState}
use Rattle.df1_node.specs.Initiator.{Issued, answered_place}
use Rattle.df1_node.specs.Node.{NodeState, did_accept}
use Rattle.half_master.specs.Emission.{Byte}
use Rattle.half_master.specs.Keys.{kept_at}
use Rattle.half_master.specs.Master.{MasterState, with_byte, body_of, master_after_byte, step_at_byte}
use Rattle.half_master.proofs.KeyLemmas.{signal-numbers}
use Rattle.half_master.proofs.LastMessage.{sends-byte}
use Rattle.half_master.proofs.Seen.{Accepts, PassesOver, accepts, passes, at-byte, lent-after, key-before, key-after, other-keys, number-at}
use Rattle.script_parts.specs.HalfPlayable.{is_declared}
use Rattle.script_statement.specs.declared.who.Who.TheVariants.{M, S}
use Rattle.replay_report.specs.declared.record.Line.{Line}
use Rattle.replay_report.specs.declared.record.Line.TheVariants as line
use Rattle.lane_cells.specs.Cells.{LaneCell, Ending}
use Rattle.report_lines.specs.NodeLines.{did_lines, step_lines}
use Rattle.each_once.specs.Exchanges.{exchanges}
use Rattle.each_once.specs.NodeHost.{node_host}
use Rattle.each_once.specs.OfStation.{is_from, lines_of}
use Rattle.each_once.proofs.AnsweringStation.{Replies, replies_to, within-through, sent-within, sent-replies}
use Rattle.each_once.proofs.ContinuedCommands.{Continues, continues-same, continues-accept, continues-told}
use Rattle.each_once.proofs.IssuingNode.{Issues, issues-accept, issues-told}
use Rattle.each_once.proofs.OneDirection.{Way, way-leaves, way-accepts, way-within}
use Rattle.each_once.proofs.StationAnswers.{IsToldReply, reply-told}
use Rattle.each_once.proofs.StationReplies.{fits-fields}
use Rattle.each_once.proofs.Sublists.{Has, has-filter, filter-keeps, filter-drops}
use Rattle.each_once.proofs.ToldLines.{IsTold, told-stays, silent-none, told-answers, told-strays}
use Rattle.half_line.specs.Behind.{plain_node}
use Rattle.half_line.specs.declared.way.Way.TheVariants.{ToMaster}
use Rattle.half_line.specs.Acts.{LineStationState, link_state, after_cell, cell_lines, deceptions_at}
use Rattle.half_line.proofs.Once.Honest.{honest}
use Rattle.half_line.specs.Issues.{issued_of}
use Rattle.half_line.proofs.Once.Invariant.{Shared, shared, marks, SideHolds, side-issued, side-lines, side-heard, side-lanes, Setting, LinkHolds, other-number}
use Rattle.half_line.proofs.Once.MasterReplies.{IsFromListed, MasterTold, master-mute, master-answers, master-strays, declared-at}
use Rattle.half_line.proofs.Once.Places.{not-equal, one-place}
use Rattle.half_line.proofs.Once.QuietLines.{step-mute, IsSilentOf, lines-both, step-silent}

-- ---- what an accept tells

-- what was done with a reply
abbrev did_reply : Option ℕ → Did
did_reply place = option_map_or (λ (p : ℕ). did.Answered (p + 1)) place did.Stray

-- the line of it
abbrev reply_line : List ℕ → Option ℕ → Line
reply_line body None = line.Stray M body
reply_line body (Some place) = line.Answered M (place + 1) body

reply-line : (body : List ℕ) (place : Option ℕ) → did_lines M (Some (did_reply place)) body ++ [] ≡ reply_line body place ∷ []
reply-line body None = refl
reply-line body (Some place) = refl

step-accepts : (step : Step) (heard body : List ℕ) (what : Did) → step.act ≡ act.Accept → step.did ≡ Some what → step.news ≡ news.Nothing → heard ≡ body → step_lines M step heard ≡ did_lines M (Some what) body ++ []
step-accepts step heard body what is-act is-did is-news same = rw (is-act, is-did, is-news, same) refl

reply-did : (node : NodeState) (body : List ℕ) → is_reply body ≡ true → did_accept node body ≡ did_reply (answered_place node.initiator.issued body)
reply-did node body is = rw is refl

-- a station's own reply, and that of another
own-reply : (station : ℕ) (first : StationState) (issued : List Issued) (executed : List (List ℕ)) (lines : List Line) (body : List ℕ) (place : Option ℕ) → is_from station body ≡ true → IsToldReply issued (exchanges first executed) body place
    → IsTold M (S station) first issued executed (lines_of station lines) → IsTold M (S station) first issued executed (lines_of station (lines ++ reply_line body place ∷ []))
own-reply station first issued executed lines body None from is t =
    subst (λ all. IsTold M (S station) first issued executed all) (sym (lines-both station lines (line.Stray M body ∷ [])))
    (rw from (told-strays M (S station) first issued executed (lines_of station lines) (line.Stray M body ∷ []) body refl refl refl is t))
own-reply station first issued executed lines body (Some place) from is t =
    subst (λ all. IsTold M (S station) first issued executed all) (sym (lines-both station lines (line.Answered M (place + 1) body ∷ [])))
    (rw from (told-answers M (S station) first issued executed (lines_of station lines) (line.Answered M (place + 1) body ∷ []) (place + 1) body refl refl refl is t))

other-reply : (station : ℕ) (body : List ℕ) (place : Option ℕ) → is_from station body ≡ false → IsSilentOf station (reply_line body place ∷ [])
other-reply station body None from = rw from (silent-none M (S station))
other-reply station body (Some place) from = rw from (silent-none M (S station))

-- what is told of the master
master-reply : (numbers : List ℕ) (lines : List Line) (body : List ℕ) (place : Option ℕ) → IsFromListed numbers body → MasterTold numbers lines → MasterTold numbers (lines ++ reply_line body place ∷ [])
master-reply numbers lines body None from t = master-strays numbers lines body from t
master-reply numbers lines body (Some place) from t = master-answers numbers lines (place + 1) body from t

-- ---- the cell

-- the station with a cell that arrives next at the master, and with those behind it
abbrev pub leaving : LineStationState → List LaneCell → LineStationState
leaving side cells = record { number = side.number; slave = side.slave; to_it = side.to_it; from_it = cells }

-- what the master's accepting a reply of the station at this place shows
record IsOwn (place : ℕ) (number : ℕ) (kept : Option Key) (first : StationState) (executed : List (List ℕ)) (m : MasterState NodeState) (b : ℕ) (a : Accepts node_host m b) : Type 0 where
  same_place : a.place ≡ place
  from : slice_index (body_of (with_byte m b)) 1 ≡ number
  new : is_kept kept (key_of (body_of (with_byte m b))) ≡ false
  replies : Replies first executed (body_of (with_byte m b))

is-own : (setting : Setting) (count : ℕ) (stations : List LineStationState) (place : ℕ) (m : MasterState NodeState) (side : LineStationState) (d : ℕ) (lines : List Line) (b : ℕ) (a : Accepts node_host m b)
    → (h : LinkHolds setting count stations place (link_state m side d) lines) → Has h.this.sent (body_of (with_byte m b))
    → IsOwn place side.number (kept_at m.stations place) (setting.first place) h.this.executed m b a
is-own setting count stations place m side d lines b a h has =
    let body = body_of (with_byte m b) in
    let r = sent-replies body h.this.keeps.serves has in
    let from : slice_index body 1 ≡ side.number = (fits-fields r.body body r.fits).2 ∙ h.this.to_it r.place r.body r.is_executed in
    let at : slice_get setting.numbers a.place ≡ Some side.number = ap (λ ns. slice_get ns a.place) (sym h.master.numbers_are) ∙ number-at node_host m b a ∙ ap Some from in
    let same = one-place setting.numbers a.place place side.number setting.distinct at h.is_at in
    record {
      same_place = same;
      from = from;
      new = subst (λ p. is_kept (kept_at m.stations p) (key_of body) ≡ false) same (key-before node_host m b a);
      replies = r;
    }

arrives-accepted : (setting : Setting) (count : ℕ) (stations : List LineStationState) (place : ℕ) (m : MasterState NodeState) (side : LineStationState) (cell : LaneCell) (cells : List LaneCell) (d : ℕ) (lines : List Line) → count ≤ 65535
    → deceptions_at plain_node ToMaster (link_state m (leaving side cells) d) cell ≡ 0 → Accepts node_host m cell.byte → LinkHolds setting count stations place (link_state m (leaving side (cell ∷ cells)) d) lines
    → LinkHolds setting count stations place (after_cell plain_node ToMaster (link_state m (leaving side cells) d) cell) (lines ++ cell_lines plain_node ToMaster (link_state m (leaving side cells) d) cell)
arrives-accepted setting count stations place m side cell cells d lines few none a h =
    let this = h.this in
    let number = side.number in
    let first = setting.first place in
    let after = master_after_byte node_host m cell.byte in
    let step = step_at_byte node_host m cell.byte in
    let body = body_of (with_byte m cell.byte) in
    let same : body_of after ≡ body = lent-after node_host m cell.byte in
    let mark : option_map (λ (e : Ending). e.body) cell.ends ≡ Some body = honest step.whole cell.ends (body_of after) none a.whole ∙ ap Some same in
    let before = filter (is_from number) h.heard in
    let back : Way this.sent (Some body ∷ marks cells) (kept_at m.stations place) before = subst (λ (o : Option (List ℕ)). Way this.sent (o ∷ marks cells) (kept_at m.stations place) before) mark this.back in
    let own = is-own setting count stations place m (leaving side (cell ∷ cells)) d lines cell.byte a h (back.carried.0, back.carried.2) in
    let way = way-accepts this.sent body (marks cells) (kept_at m.stations place) before own.new back in
    let heard = h.heard ++ body ∷ [] in
    let from : is_from number body ≡ true = eq-eqb _ _ own.from in
    let heard_now : filter (is_from number) heard ≡ before ++ body ∷ [] = filter-keeps (is_from number) h.heard body from in
    let key_now : kept_at after.stations place ≡ Some (key_of body) = ap (kept_at after.stations) (sym own.same_place) ∙ key-after node_host m cell.byte a in
    let answered = answered_place m.host.initiator.issued body in
    let more : cell_lines plain_node ToMaster (link_state m (leaving side cells) d) cell ≡ reply_line body answered ∷ [] =
    step-accepts step (body_of after) body (did_reply answered) a.act (a.did ∙ ap Some (reply-did m.host body own.replies.is_a_reply)) a.news same ∙ reply-line body answered in
    let continues : Continues (issued_of m) (issued_of after) = subst (λ (node : NodeState). Continues (issued_of m) node.initiator.issued) (sym a.host) (continues-accept m.host body) in
    let executes = way-within h.commands (marks side.to_it) side.slave.kept this.executed this.way in
    let told = reply-told first this.executed before m.host.initiator h.commands h.heard body h.master.issues.initiates (subst (λ n. n ≤ 65535) (sym h.master.count_is) few) executes own.replies
    (within-through (before ++ body ∷ []) this.sent (replies_to first this.executed) (way-within this.sent (marks cells) (Some (key_of body)) (before ++ body ∷ []) way) (sent-within this.keeps.serves))
    (λ command earlier fits fitted has. has-filter (is_from number) h.heard has.0 earlier
    (eq-eqb _ _ ((fits-fields command earlier fitted).2 ∙ sym (fits-fields command body fits).2 ∙ own.from)) has.1) answered refl in
    record {
      commands = h.commands;
      heard = heard;
      master = record {
        issues = subst (λ (node : NodeState). Issues setting.of_master node h.commands heard) (sym a.host) (issues-accept body own.replies.is_a_reply h.master.issues);
        sends = sends-byte node_host m cell.byte h.master.sends;
        count_is = continues.count ∙ h.master.count_is;
        numbers_are = signal-numbers node_host m (Byte cell.byte) ∙ h.master.numbers_are;
      };
      replies = subst (λ (all : List Line). MasterTold setting.numbers (lines ++ all)) (sym more)
          (master-reply setting.numbers lines body answered (ap (is_declared setting.numbers) own.from ∙ declared-at setting.numbers place number h.is_at) h.replies);
      numbers_are = h.numbers_are;
      is_at = h.is_at;
      this = record {
        executed = this.executed;
        sent = this.sent;
        own = this.own;
        keeps = this.keeps;
        to_it = this.to_it;
        way = this.way;
        back = subst (λ (all : List (List ℕ)). Way this.sent (marks cells) (kept_at after.stations place) all) (sym heard_now)
            (subst (λ (k : Option Key). Way this.sent (marks cells) k (before ++ body ∷ [])) (sym key_now) way);
        told = told-stays M (S number) first (issued_of m) (issued_of after) this.executed _ continues.stays
            (subst (λ (all : List Line). IsTold M (S number) first (issued_of m) this.executed (lines_of number (lines ++ all))) (sym more)
            (own-reply number first (issued_of m) this.executed lines body answered from told this.told));
      };
      others = λ p other at differ.
          let apart = other-number setting stations place p number other h.numbers_are h.is_at at differ in
          let not_from : is_from other.number body ≡ false = not-equal (is_from other.number body) (λ is. apart (sym (eqb-true _ _ is) ∙ own.from)) in
          side-lines (cell_lines plain_node ToMaster (link_state m (leaving side cells) d) cell)
          (subst (λ (all : List Line). IsSilentOf other.number all) (sym more) (other-reply other.number body answered not_from))
          (side-issued (issued_of after) continues.stays
          (side-heard heard (kept_at after.stations p) (filter-drops (is_from other.number) h.heard body not_from) (other-keys node_host m cell.byte a p (λ is. differ (is ∙ own.same_place)))
          (h.others p other at differ)));
    }

-- ---- no message is accepted

pub told-issues : (first : StationState) (node : NodeState) (commands heard : List (List ℕ)) (what : Option Fate) → Issues first node commands heard → Issues first (host_told node_host what node) commands heard
told-issues first node commands heard None h = h
told-issues first node commands heard (Some what) h = issues-told what h

pub told-continues : (node : NodeState) (what : Option Fate) → Continues node.initiator.issued (host_told node_host what node).initiator.issued
told-continues node None = continues-same node.initiator.issued
told-continues node (Some what) = continues-told node what

-- the cell has left the lane
side-left : (side : LineStationState) (cell : LaneCell) (cells : List LaneCell) (all : Shared) (first : StationState) (kept : Option Key) → SideHolds all first kept (leaving side (cell ∷ cells)) → SideHolds all first kept (leaving side cells)
side-left side cell cells all first kept h =
    side-lanes side.to_it cells h h.way (way-leaves h.sent (option_map (λ (e : Ending). e.body) cell.ends) (marks cells) kept (filter (is_from side.number) all.heard) h.back)

arrives-passed : (setting : Setting) (count : ℕ) (stations : List LineStationState) (place : ℕ) (m : MasterState NodeState) (side : LineStationState) (cell : LaneCell) (cells : List LaneCell) (d : ℕ) (lines : List Line)
    → PassesOver node_host m cell.byte → LinkHolds setting count stations place (link_state m (leaving side (cell ∷ cells)) d) lines
    → LinkHolds setting count stations place (after_cell plain_node ToMaster (link_state m (leaving side cells) d) cell) (lines ++ cell_lines plain_node ToMaster (link_state m (leaving side cells) d) cell)
arrives-passed setting count stations place m side cell cells d lines o h =
    let this = h.this in
    let number = side.number in
    let after = master_after_byte node_host m cell.byte in
    let step = step_at_byte node_host m cell.byte in
    let more = cell_lines plain_node ToMaster (link_state m (leaving side cells) d) cell in
    let silent : (station : ℕ) → IsSilentOf station more = λ station. step-silent station M step (body_of after) o.act in
    let continues : Continues (issued_of m) (issued_of after) = subst (λ (node : NodeState). Continues (issued_of m) node.initiator.issued) (sym o.host) (told-continues m.host o.fate) in
    let key : (p : ℕ) → kept_at after.stations p ≡ kept_at m.stations p = λ p. ap (λ l. kept_at l p) o.stations in
    record {
      commands = h.commands;
      heard = h.heard;
      master = record {
        issues = subst (λ (node : NodeState). Issues setting.of_master node h.commands h.heard) (sym o.host) (told-issues setting.of_master m.host h.commands h.heard o.fate h.master.issues);
        sends = sends-byte node_host m cell.byte h.master.sends;
        count_is = continues.count ∙ h.master.count_is;
        numbers_are = signal-numbers node_host m (Byte cell.byte) ∙ h.master.numbers_are;
      };
      replies = master-mute setting.numbers lines more (step-mute M step (body_of after) o.act) h.replies;
      numbers_are = h.numbers_are;
      is_at = h.is_at;
      this = side-lines more (silent number) (side-issued (issued_of after) continues.stays (side-heard h.heard (kept_at after.stations place) refl (key place) (side-left side cell cells (shared h.commands h.heard (issued_of m) lines) (setting.first place) (kept_at m.stations place) this)));
      others = λ p other at differ. side-lines more (silent other.number) (side-issued (issued_of after) continues.stays (side-heard h.heard (kept_at after.stations p) refl (key p) (h.others p other at differ)));
    }

pub master-arrival : (setting : Setting) (count : ℕ) (stations : List LineStationState) (place : ℕ) (m : MasterState NodeState) (side : LineStationState) (cell : LaneCell) (cells : List LaneCell) (d : ℕ) (lines : List Line) → count ≤ 65535
    → deceptions_at plain_node ToMaster (link_state m (leaving side cells) d) cell ≡ 0 → LinkHolds setting count stations place (link_state m (leaving side (cell ∷ cells)) d) lines
    → LinkHolds setting count stations place (after_cell plain_node ToMaster (link_state m (leaving side cells) d) cell) (lines ++ cell_lines plain_node ToMaster (link_state m (leaving side cells) d) cell)
master-arrival setting count stations place m side cell cells d lines few none h = elim (at-byte node_host m cell.byte) [
  | accepts a ↦ arrives-accepted setting count stations place m side cell cells d lines few none a h
  | passes o ↦ arrives-passed setting count stations place m side cell cells d lines o h
]
