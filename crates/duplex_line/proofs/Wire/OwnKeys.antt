-- Where no end is deceived, no two messages of an end have the same key.
use Rattle.std.proofs.Common.{◌≡◌, ℕ, ◌≤◌, List, ◌++◌, length, map, sym, subst}
use Rattle.std.specs.List.{filter}
use Rattle.pccc_envelope.specs.Envelope.{is_reply, tns_of}
use Rattle.df1_node.specs.Answer.{StationState}
use Rattle.script_statement.specs.declared.who.Who.{Who}
use Rattle.replay_report.specs.declared.record.Line.{Line}
use Rattle.each_once.specs.Tells.{executed_in}
use Rattle.each_once.specs.Exchanges.{replies_to}
use Rattle.each_once.specs.OwnKeys.{HaveOwnKeys}
use Rattle.each_once.proofs.AcceptedReplies.{handed-differ}
use Rattle.each_once.proofs.HandedOut.{is_command, Hosts}
use Rattle.each_once.proofs.OneDirection.{way-within}
use Rattle.each_once.proofs.OwnKeys as each_once
use Rattle.each_once.proofs.StationReplies.{exchanges-tns}
use Rattle.each_once.proofs.Sublists.{Differ, differ-front, differ-within, within-filter}
use Rattle.df1_node.specs.Node.{NodeState}
use Rattle.duplex_line.specs.Acts.{LineState}
use Rattle.duplex_line.proofs.Once.Invariant.{lane_of, Holds}

-- ---- the messages of an end

-- its replies have the numbers of the commands that its station executed
replies-differ : (first : StationState) (executed messages waiting : List (List ℕ)) → replies_to first executed ≡ filter is_reply messages ++ waiting → Differ (map tns_of executed) → Differ (map tns_of (filter is_reply messages))
replies-differ first executed messages waiting is differ =
    let sent = filter is_reply messages in
    let all : Differ (map tns_of (sent ++ waiting)) = subst (λ (l : List (List ℕ)). Differ (map tns_of l)) is (subst Differ (sym (exchanges-tns first executed)) differ) in
    differ-front tns_of sent waiting all

pub own-keys : (first : StationState) (node : NodeState) (messages heard : List (List ℕ)) → Hosts first node messages heard → length node.initiator.issued ≤ 65535 → Differ (map tns_of (filter is_command heard)) → HaveOwnKeys messages
own-keys first node messages heard hosts few differ =
    let commands = handed-differ node.initiator (filter is_command messages) heard hosts.initiates few in
    let replies = replies-differ first (filter is_command heard) messages node.replies hosts.replies differ in
    each_once.own-keys messages commands replies

-- the commands that an end's station executed have different numbers, since the other end handed them out
pub executed-differ : (near far : Who) (first far_first : StationState) (s : LineState) (lines : List Line) → Holds near far first far_first s lines → Differ (map tns_of (executed_in far lines))
executed-differ near far first far_first s lines h =
    let within = within-filter is_command h.far_heard h.sent (way-within h.sent (lane_of s.a.lane) s.b.end.receiver.kept h.far_heard h.way) in
    rw h.told.executes (differ-within tns_of (filter is_command h.far_heard) (filter is_command h.sent) within (handed-differ s.a.end.host.initiator (filter is_command h.sent) h.heard h.hosts.initiates h.few))
