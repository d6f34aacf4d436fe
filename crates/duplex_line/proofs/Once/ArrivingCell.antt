-- A cell arrives at an end, which isn't deceived by it: what was told still holds, with the lines that it makes.
use Rattle.std.proofs.Common.{◌≡◌, ℕ, ◌+◌, ◌≤◌, Bool, true, false, List, [], ◌∷◌, ◌++◌, length, map, not, Option, Some, None, refl, ap, subst, arith, append-nil}
use Rattle.std.specs.Prelude.{if◌then◌else◌}
use Rattle.std.specs.Option.{option_map, option_map_or}
use Rattle.std.specs.List.{filter}
use Rattle.std.specs.Str.{bytes_eq}
use Rattle.std.proofs.lemmas.Slice.Eq.{bytes_eq-Decides}
use Rattle.df1_base.specs.declared.host.Did.{Did}
use Rattle.df1_base.specs.declared.host.Did.TheVariants as did
use Rattle.df1_base.specs.declared.host.News.{News}
use Rattle.df1_base.specs.declared.host.News.TheVariants as news
use Rattle.df1_base.specs.declared.link.Act.{Act}
use Rattle.df1_base.specs.declared.link.Act.TheVariants as act
use Rattle.df1_base.specs.HostAnswers.{did_at, news_of}
use Rattle.pccc_envelope.specs.declared.key.Key.{Key}
use Rattle.pccc_envelope.specs.Envelope.{is_reply, tns_of, key_of}
use Rattle.pccc_envelope.specs.Accepted.{is_kept}
use Rattle.df1_node.specs.Answer.{StationState}
use Rattle.df1_node.specs.Initiator.{Issued, answered_place}
use Rattle.df1_node.specs.Node.{NodeState}
use Rattle.duplex_sender.specs.Sender.{SenderState}
use Rattle.duplex_receiver.specs.Receiver.{hearing, kept_at}
use Rattle.duplex_end.specs.End.{EndState, act_of_byte, fate_at, host_after, host_at_byte}
use Rattle.script_statement.specs.declared.who.Who.{Who}
use Rattle.replay_report.specs.declared.record.Line.{Line}
use Rattle.replay_report.specs.declared.record.Line.TheVariants as line
use Rattle.lane_cells.specs.Cells.{LaneCell, Ending}
use Rattle.each_once.specs.NodeHost.{node_host}
use Rattle.lane_cells.specs.Deception.{deceptions}
use Rattle.report_lines.specs.NodeLines.{act_lines, did_lines, news_lines}
use Rattle.duplex_line.specs.Acts.{LineEndState, LineState, after_cell, body_heard, deceptions_at, cell_lines}
use Rattle.duplex_line.proofs.Once.IssueLimits.{byte-commands}
use Rattle.each_once.specs.Exchanges.{exchanges}
use Rattle.each_once.proofs.KeptCommands.{IsReplyOf, IsOfLost}
use Rattle.each_once.proofs.Sublists.{IsWithin, within-has, within-filter, Differ, differ-within, get-last, filter-keeps, filter-drops}
use Rattle.each_once.proofs.OneDirection.{Lane, Way, way-leaves, way-accepts, way-within}
use Rattle.duplex_line.proofs.Once.SentMessages.{accept-heard, sends-byte}
use Rattle.each_once.proofs.HandedOut.{is_command, Hosts}
use Rattle.each_once.proofs.ToldLines.{IsTold, stays-both, told-stays, AreSilent, silent-none, told-silent, told-executes, told-answers, told-strays}
use Rattle.each_once.proofs.AcceptedReplies.{found, is-answer, is-astray, handed-differ}
use Rattle.duplex_line.proofs.Once.EndSteps.{stays-act, stays-fate, heard_after, hosts-act, hosts-fate, others-act, others-told}
use Rattle.duplex_line.proofs.Once.Invariant.{lane_of, AreTwo, Holds}

-- ---- where there is no deception

abbrev one_unless : Bool → ℕ
one_unless sent = if not sent then 1 else 0

sent-same : (sent : Bool) → one_unless sent ≡ 0 → sent ≡ true
sent-same true none = refl
sent-same false none = absurd (omega (arith, none))

-- a whole frame is that of the transmission that ends there
honest : (whole : Bool) (ends : Option Ending) (body : List ℕ) → deceptions whole ends body ≡ 0 → whole ≡ true → option_map (λ (e : Ending). e.body) ends ≡ Some body
honest true None body none is = absurd (omega (arith, none))
honest true (Some ending) body none is = ap Some ((bytes_eq-Decides ending.body body).0 (sent-same (bytes_eq ending.body body) none))
honest false ends body none is = absurd cc

-- what an accept shows: the message ended there, and its key wasn't kept
abbrev IsNew : Option (List ℕ) → Option Key → List ℕ → Type 0
IsNew end kept body = (end ≡ Some body) × (is_kept kept (key_of body) ≡ false)

pub accept-new : (b : LineEndState) (cell : LaneCell) → deceptions_at b cell ≡ 0 → act_of_byte node_host b.end cell.byte ≡ act.Accept → IsNew (option_map (λ (e : Ending). e.body) cell.ends) b.end.receiver.kept (body_heard b cell)
accept-new b cell none is =
    let h = hearing (node_host.room_for b.end.host) 250 b.end.receiver cell.byte in
    let heard = accept-heard b.end.receiver.kept h is in
    (honest _ cell.ends (body_heard b cell) none heard.0, heard.1)

-- the lane and the receiver
way-act : (what : Act) (sent : List (List ℕ)) (end : Option (List ℕ)) (lane : Lane) (kept : Option Key) (heard : List (List ℕ)) (body : List ℕ) → (what ≡ act.Accept → IsNew end kept body)
    → Way sent (end ∷ lane) kept heard → Way sent lane (kept_at kept body what) (heard_after what heard body)
way-act act.Accept sent end lane kept heard body new w = way-accepts sent body lane kept heard (new refl).1 (subst (λ (e : Option (List ℕ)). Way sent (e ∷ lane) kept heard) (new refl).0 w)
way-act act.Repeat sent end lane kept heard body new w = way-leaves sent end lane kept heard w
way-act act.Refuse sent end lane kept heard body new w = way-leaves sent end lane kept heard w
way-act act.Damaged sent end lane kept heard body new w = way-leaves sent end lane kept heard w
way-act act.Forgot sent end lane kept heard body new w = way-leaves sent end lane kept heard w
way-act act.PeerAck sent end lane kept heard body new w = way-leaves sent end lane kept heard w
way-act act.PeerNak sent end lane kept heard body new w = way-leaves sent end lane kept heard w
way-act act.PeerEnq sent end lane kept heard body new w = way-leaves sent end lane kept heard w
way-act act.Nothing sent end lane kept heard body new w = way-leaves sent end lane kept heard w

-- ---- the lines

pub news-silent : (from to who : Who) (n : News) → AreSilent from to (news_lines who n)
news-silent from to who news.Nothing = silent-none from to
news-silent from to who (news.Undelivered n) = record { executes = refl; answers = refl; strays = refl }
news-silent from to who news.Dropped = record { executes = refl; answers = refl; strays = refl }

-- the lines of an act, and of the fate that it decides
abbrev pub told_at : Who → Act → SenderState → NodeState → List ℕ → List Line
told_at who what sender host body = act_lines who what (did_at node_host what host body) body ++ news_lines who (news_of node_host (fate_at what sender) (host_after node_host what host body))

-- what was done with a reply
abbrev pub did_reply : Option ℕ → Did
did_reply place = option_map_or (λ (p : ℕ). did.Answered (p + 1)) place did.Stray

-- the commands of the near end: the far one executes one more at the accept of a command
executes-reply : (near far : Who) → AreTwo near far → (first : StationState) (issued : List Issued) (executed : List (List ℕ)) (lines : List Line) (body : List ℕ) (place : Option ℕ) → IsTold near far first issued executed lines
    → IsTold near far first issued executed (lines ++ did_lines far (Some (did_reply place)) body)
executes-reply near far two first issued executed lines body None t = told-silent near far first issued executed lines (line.Stray far body ∷ []) (record { executes = refl; answers = refl; strays = rw two.other refl }) t
executes-reply near far two first issued executed lines body (Some place) t =
    told-silent near far first issued executed lines (line.Answered far (place + 1) body ∷ []) (record { executes = refl; answers = rw two.other refl; strays = refl }) t

executes-accept : (near far : Who) → AreTwo near far → (first : StationState) (issued : List Issued) (heard : List (List ℕ)) (lines : List Line) (body : List ℕ) (place : Option ℕ) (reply : Bool) → is_reply body ≡ reply → IsTold near far first issued (filter is_command heard) lines
    → IsTold near far first issued (filter is_command (heard ++ body ∷ [])) (lines ++ did_lines far (Some (if reply then did_reply place else did.Executed)) body)
executes-accept near far two first issued heard lines body place true is t =
    let command : is_command body ≡ false = ap not is in
    rw (filter-drops is_command heard body command) (executes-reply near far two first issued (filter is_command heard) lines body place t)
executes-accept near far two first issued heard lines body place false is t =
    let command : is_command body ≡ true = ap not is in
    rw (filter-keeps is_command heard body command) (told-executes near far first issued (filter is_command heard) lines (line.Exec far body ∷ []) body (rw two.far_itself refl) refl refl t)

pub append-none : (who : Who) (what : Option Did) (body : List ℕ) → did_lines who what body ++ [] ≡ did_lines who what body
append-none who what body = append-nil (did_lines who what body)

executes-act : (near far : Who) → AreTwo near far → (first : StationState) (issued : List Issued) (heard : List (List ℕ)) (lines : List Line) (what : Act) (sender : SenderState) (host : NodeState) (body : List ℕ) → IsTold near far first issued (filter is_command heard) lines
    → IsTold near far first issued (filter is_command (heard_after what heard body)) (lines ++ told_at far what sender host body)
executes-act near far two first issued heard lines act.Accept sender host body t = rw (append-none far (Some (node_host.did host body)) body) (executes-accept near far two first issued heard lines body (answered_place host.initiator.issued body) (is_reply body) refl t)
executes-act near far two first issued heard lines act.Repeat sender host body t = told-silent near far first issued (filter is_command heard) lines (line.Repeat far ∷ []) (record { executes = refl; answers = refl; strays = refl }) t
executes-act near far two first issued heard lines act.Refuse sender host body t = told-silent near far first issued (filter is_command heard) lines (line.Full far ∷ []) (record { executes = refl; answers = refl; strays = refl }) t
executes-act near far two first issued heard lines act.Damaged sender host body t = told-silent near far first issued (filter is_command heard) lines (line.Damaged far ∷ []) (record { executes = refl; answers = refl; strays = refl }) t
executes-act near far two first issued heard lines act.Forgot sender host body t = told-silent near far first issued (filter is_command heard) lines [] (silent-none near far) t
executes-act near far two first issued heard lines act.PeerAck sender host body t = told-silent near far first issued (filter is_command heard) lines _ (news-silent near far far _) t
executes-act near far two first issued heard lines act.PeerNak sender host body t = told-silent near far first issued (filter is_command heard) lines _ (news-silent near far far _) t
executes-act near far two first issued heard lines act.PeerEnq sender host body t = told-silent near far first issued (filter is_command heard) lines [] (silent-none near far) t
executes-act near far two first issued heard lines act.Nothing sender host body t = told-silent near far first issued (filter is_command heard) lines [] (silent-none near far) t

-- the replies to the far end's commands: it accepts one more at the accept of a reply
abbrev IsToldReply : List Issued → List (List ℕ × List ℕ) → List ℕ → Option ℕ → Type 0
IsToldReply issued answered body (Some place) = IsReplyOf issued answered (place + 1) body
IsToldReply issued answered body None = IsOfLost issued answered body

replies-reply : (near far : Who) → AreTwo near far → (first : StationState) (issued : List Issued) (executed : List (List ℕ)) (lines : List Line) (body : List ℕ) (place : Option ℕ) → IsToldReply issued (exchanges first executed) body place → IsTold far near first issued executed lines
    → IsTold far near first issued executed (lines ++ did_lines far (Some (did_reply place)) body)
replies-reply near far two first issued executed lines body None is t = told-strays far near first issued executed lines (line.Stray far body ∷ []) body refl refl (rw two.far_itself refl) is t
replies-reply near far two first issued executed lines body (Some place) is t = told-answers far near first issued executed lines (line.Answered far (place + 1) body ∷ []) (place + 1) body refl (rw two.far_itself refl) refl is t

replies-accept : (near far : Who) → AreTwo near far → (first : StationState) (issued : List Issued) (executed : List (List ℕ)) (lines : List Line) (body : List ℕ) (place : Option ℕ) (reply : Bool) → (reply ≡ true → IsToldReply issued (exchanges first executed) body place)
    → IsTold far near first issued executed lines → IsTold far near first issued executed (lines ++ did_lines far (Some (if reply then did_reply place else did.Executed)) body)
replies-accept near far two first issued executed lines body place true is t = replies-reply near far two first issued executed lines body place (is refl) t
replies-accept near far two first issued executed lines body place false is t = told-silent far near first issued executed lines (line.Exec far body ∷ []) (record { executes = rw two.other refl; answers = refl; strays = refl }) t

replies-act : (near far : Who) → AreTwo near far → (first : StationState) (executed : List (List ℕ)) (lines : List Line) (what : Act) (sender : SenderState) (host : NodeState) (body : List ℕ)
    → (what ≡ act.Accept → is_reply body ≡ true → IsToldReply host.initiator.issued (exchanges first executed) body (answered_place host.initiator.issued body))
    → IsTold far near first host.initiator.issued executed lines → IsTold far near first host.initiator.issued executed (lines ++ told_at far what sender host body)
replies-act near far two first executed lines act.Accept sender host body is t =
    rw (append-none far (Some (node_host.did host body)) body) (replies-accept near far two first host.initiator.issued executed lines body (answered_place host.initiator.issued body) (is_reply body) (is refl) t)
replies-act near far two first executed lines act.Repeat sender host body is t = told-silent far near first host.initiator.issued executed lines (line.Repeat far ∷ []) (record { executes = refl; answers = refl; strays = refl }) t
replies-act near far two first executed lines act.Refuse sender host body is t = told-silent far near first host.initiator.issued executed lines (line.Full far ∷ []) (record { executes = refl; answers = refl; strays = refl }) t
replies-act near far two first executed lines act.Damaged sender host body is t = told-silent far near first host.initiator.issued executed lines (line.Damaged far ∷ []) (record { executes = refl; answers = refl; strays = refl }) t
replies-act near far two first executed lines act.Forgot sender host body is t = told-silent far near first host.initiator.issued executed lines [] (silent-none far near) t
replies-act near far two first executed lines act.PeerAck sender host body is t = told-silent far near first host.initiator.issued executed lines _ (news-silent far near far _) t
replies-act near far two first executed lines act.PeerNak sender host body is t = told-silent far near first host.initiator.issued executed lines _ (news-silent far near far _) t
replies-act near far two first executed lines act.PeerEnq sender host body is t = told-silent far near first host.initiator.issued executed lines [] (silent-none far near) t
replies-act near far two first executed lines act.Nothing sender host body is t = told-silent far near first host.initiator.issued executed lines [] (silent-none far near) t

-- ---- an accepted reply is the one to the command that is out, or to one that was given up

-- the executed commands have different numbers
executed-differ : (first far_first : StationState) (host far_host : NodeState) (sent heard far_sent far_heard : List (List ℕ)) → Hosts far_first far_host far_sent far_heard → IsWithin heard far_sent → length far_host.initiator.issued ≤ 65535
    → Differ (map tns_of (filter is_command heard))
executed-differ first far_first host far_host sent heard far_sent far_heard far within few =
    differ-within tns_of (filter is_command heard) (filter is_command far_sent) (within-filter is_command heard far_sent within) (handed-differ far_host.initiator (filter is_command far_sent) far_heard far.initiates few)

reply-told : (first far_first : StationState) (host far_host : NodeState) (sent heard far_sent far_heard : List (List ℕ)) (body : List ℕ) → Hosts first host sent heard → Hosts far_first far_host far_sent far_heard → IsWithin heard far_sent → length far_host.initiator.issued ≤ 65535
    → IsWithin (far_heard ++ body ∷ []) sent → is_reply body ≡ true → (place : Option ℕ) → answered_place far_host.initiator.issued body ≡ place
    → IsToldReply far_host.initiator.issued (exchanges first (filter is_command heard)) body place
reply-told first far_first host far_host sent heard far_sent far_heard body near far within few accepted replies (Some place) is =
    is-answer first (filter is_command heard) far_host.initiator.tns far_host.initiator.issued body place far.initiates.numbered few
    (found first far_first host far_host sent heard far_sent body near far_heard far within (within-has (far_heard ++ body ∷ []) sent body accepted (get-last far_heard body)) replies) is
reply-told first far_first host far_host sent heard far_sent far_heard body near far within few accepted replies None is =
    is-astray first (filter is_command heard) far_host.initiator.issued far_heard sent host.replies body
    (executed-differ first far_first host far_host sent heard far_sent far_heard far within few)
    near.replies accepted replies far.initiates.settled
    (found first far_first host far_host sent heard far_sent body near far_heard far within (within-has (far_heard ++ body ∷ []) sent body accepted (get-last far_heard body)) replies) is

-- ---- a cell arrives

-- the line with a cell that arrives next, and after it has arrived
abbrev pub coming : EndState NodeState → LaneCell → List LaneCell → LineEndState → ℕ → LineState
coming end cell cells b count = record { a = record { end = end; lane = cell ∷ cells }; b = b; deceived = count }

abbrev pub arrived : EndState NodeState → LaneCell → List LaneCell → LineEndState → ℕ → LineState
arrived end cell cells b count = record { a = record { end = end; lane = cells }; b = after_cell b cell; deceived = count }

pub holds-arrival : (near far : Who) → AreTwo near far → (first far_first : StationState) (end : EndState NodeState) (cell : LaneCell) (cells : List LaneCell) (b : LineEndState) (count after : ℕ) (lines : List Line) → deceptions_at b cell ≡ 0
    → Holds near far first far_first (coming end cell cells b count) lines → Holds near far first far_first (arrived end cell cells b after) (lines ++ cell_lines far b cell)
holds-arrival near far two first far_first end cell cells b count after lines none h =
    let e = b.end in
    let what = act_of_byte node_host e cell.byte in
    let body = body_heard b cell in
    let fate = fate_at what e.sender in
    let now = host_at_byte node_host e cell.byte in
    let within = way-within h.far_sent (lane_of b.lane) end.receiver.kept h.heard h.back in
    let stays = stays-both e.host.initiator.issued now.initiator.issued _ (stays-act what e.host body) (stays-fate fate now) in
    let replies = λ (accepts : what ≡ act.Accept) (reply : is_reply body ≡ true).
    let new = accept-new b cell none accepts in
    let w = way-accepts h.sent body (lane_of cells) e.receiver.kept h.far_heard new.1 (subst (λ (o : Option (List ℕ)). Way h.sent (o ∷ lane_of cells) e.receiver.kept h.far_heard) new.0 h.way) in
    reply-told first far_first end.host e.host h.sent h.heard h.far_sent h.far_heard body h.hosts h.far_hosts within h.far_few
    (way-within h.sent (lane_of cells) (Some (key_of body)) (h.far_heard ++ body ∷ []) w) reply (answered_place e.host.initiator.issued body) refl in
    record {
      sent = h.sent;
      heard = h.heard;
      far_sent = h.far_sent;
      far_heard = heard_after what h.far_heard body;
      hosts = h.hosts;
      far_hosts = hosts-fate fate far_first now h.far_sent (heard_after what h.far_heard body) (hosts-act what far_first e.host h.far_sent h.far_heard body h.far_hosts);
      sends = h.sends;
      far_sends = sends-byte node_host e cell.byte h.far_sends;
      way = way-act what h.sent (option_map (λ (x : Ending). x.body) cell.ends) (lane_of cells) e.receiver.kept h.far_heard body (accept-new b cell none) h.way;
      back = h.back;
      few = h.few;
      far_few = let same = byte-commands e cell.byte in omega (arith, same, h.far_few);
      told = executes-act near far two far_first end.host.initiator.issued h.far_heard lines what e.sender e.host body h.told;
      far_told = told-stays far near first e.host.initiator.issued _ (filter is_command h.heard) (lines ++ cell_lines far b cell) stays
          (replies-act near far two first (filter is_command h.heard) lines what e.sender e.host body replies h.far_told);
      waits = h.waits;
      far_waits = others-told fate now (filter is_command h.far_sent) (others-act what e.host body (filter is_command h.far_sent) h.far_waits);
    }
