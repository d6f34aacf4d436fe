-- Two nodes, each of which handed out what the other accepted, but for the messages in flight: however many commands may be out.
use Rattle.std.proofs.Common.{◌≡◌, ◌∙◌, ℕ, ◌+◌, ◌<◌, ◌≤◌, Bool, true, false, not, List, [], ◌∷◌, ◌++◌, length, map, Option, Some, None, refl, sym, ap, subst, arith, length-append}
use Rattle.std.specs.Prelude.{slice_get, ◌==◌}
use Rattle.std.specs.Int.{bit_at}
use Rattle.std.specs.List.{filter}
use Rattle.std.proofs.lemmas.Bool.{and_parts, eqb-true, false_from_ne_true}
use Rattle.std.proofs.lemmas.List.Elements.{filter-append}
use Rattle.pccc_envelope.specs.declared.key.Key.{Key}
use Rattle.pccc_envelope.specs.Envelope.{is_reply, tns_of, key_of}
use Rattle.pccc_envelope.specs.Accepted.{is_kept}
use Rattle.df1_node.specs.Answer.{StationState}
use Rattle.df1_node.specs.Initiator.{InitiatorState, is_reply_to}
use Rattle.df1_node.specs.Node.{NodeState}
use Rattle.each_once.specs.Exchanges.{exchanges}
use Rattle.each_once.proofs.Sublists.{Has, Differ, differ-front, differ-last, get-more, has-filter, filter-keeps, get-seam}
use Rattle.each_once.proofs.AnsweringStation.{reply-at}
use Rattle.each_once.proofs.RepliesSince.{AreReplies}
use Rattle.each_once.proofs.StationReplies.{exchanges-length, exchanges-tns}
use Rattle.each_once.proofs.AcceptedReplies.{handed-differ}
use Rattle.each_once.proofs.HandedOut.{is_command, Hosts}
use Rattle.each_once.proofs.CommandsUnderWay.{AreUnderWay, under-way-few}

-- ---- the replies of a station, by their places

-- a station replied as often as it executed commands
pub replied-count : (first : StationState) (messages heard waiting : List (List ℕ)) → AreReplies first messages heard waiting → length (filter is_command heard) ≡ length (filter is_reply messages) + length waiting
replied-count first messages heard waiting replies = sym (exchanges-length first (filter is_command heard)) ∙ ap length replies ∙ length-append (filter is_reply messages) waiting

-- its n-th reply is to the n-th command
replied-at : (first : StationState) (executed replies rest : List (List ℕ)) (n : ℕ) (reply : List ℕ) → map (λ e. e.1) (exchanges first executed) ≡ replies ++ rest → slice_get replies n ≡ Some reply →
    (body : List ℕ) × (slice_get executed n ≡ Some body) × (is_reply_to body reply ≡ true)
replied-at first executed replies rest n reply all at =
    let r = reply-at first executed n reply (ap (λ rs. slice_get rs n) all ∙ get-more replies rest n reply at) in
    (r.body, r.is_executed, r.fits)

-- ---- the reply that is in flight is to the first command that isn't answered

pub answer-fits : (first : StationState) (sent heard waiting commands told : List (List ℕ)) → AreReplies first sent heard waiting →
    (reply : List ℕ) → sent ≡ told ++ reply ∷ [] → (flight : List (List ℕ)) → commands ≡ heard ++ flight → is_reply reply ≡ true → (n : ℕ) → length (filter is_reply told) ≡ n →
    (body : List ℕ) × (slice_get (filter is_command commands) n ≡ Some body) × (is_reply_to body reply ≡ true)
answer-fits first sent heard waiting commands told replied reply sends flight flies replies n count =
    let sent_replies : filter is_reply sent ≡ filter is_reply told ++ reply ∷ [] = ap (filter is_reply) sends ∙ filter-keeps is_reply told reply replies in
    let at : slice_get (filter is_reply sent) n ≡ Some reply = ap (λ rs. slice_get rs n) sent_replies ∙ ap (slice_get (filter is_reply told ++ reply ∷ [])) (sym count) ∙ get-seam (filter is_reply told) reply [] in
    let executed = replied-at first (filter is_command heard) (filter is_reply sent) waiting n reply replied at in
    let handed : filter is_command commands ≡ filter is_command heard ++ filter is_command flight = ap (filter is_command) flies ∙ filter-append is_command heard flight in
    (executed.0, ap (λ xs. slice_get xs n) handed ∙ get-more (filter is_command heard) (filter is_command flight) n executed.0 executed.1, executed.2)

-- ---- while a command is in flight, fewer replies wait than commands may be out

pub few-replies : (first : StationState) (sent heard waiting commands told : List (List ℕ)) → AreReplies first sent heard waiting → (mine : List ℕ → Bool) (s : InitiatorState) →
    (command : List ℕ) → commands ≡ heard ++ command ∷ [] → is_reply command ≡ false → (flight : List (List ℕ)) → sent ≡ told ++ flight →
    (n : ℕ) (least : ℕ → ℕ) → length (filter is_reply told) ≡ n → AreUnderWay mine s (filter is_command commands) n least → length waiting < s.window
few-replies first sent heard waiting commands told replied mine s command sends plain flight flies n least count u =
    let handed = under-way-few mine s (filter is_command commands) n least u in
    let one_more = ap length (ap (filter is_command) sends ∙ filter-keeps is_command heard command (ap not plain)) ∙ length-append (filter is_command heard) (command ∷ []) in
    let all = replied-count first sent heard waiting replied in
    let told_some = ap length (ap (filter is_reply) flies ∙ filter-append is_reply told flight) ∙ length-append (filter is_reply told) (filter is_reply flight) in
    omega (arith, handed, one_more, all, told_some, count)

-- ---- keys

-- the TNS of a node's commands differ, and those of its replies, which are those of the other's commands
pub commands-differ : {first : StationState} {node : NodeState} {messages heard : List (List ℕ)} → Hosts first node messages heard → length node.initiator.issued ≤ 65535 →
    Differ (map tns_of (filter is_command messages))
commands-differ {first} {node} {messages} {heard} h few =
    handed-differ node.initiator (filter is_command messages) heard h.initiates few

replies-differ : {first : StationState} {node : NodeState} {messages heard : List (List ℕ)} → Hosts first node messages heard → Differ (map tns_of (filter is_command heard)) →
    Differ (map tns_of (filter is_reply messages))
replies-differ {first} {node} {messages} {heard} h differ =
    differ-front tns_of (filter is_reply messages) node.replies (subst (λ rs. Differ (map tns_of rs)) h.replies (subst Differ (sym (exchanges-tns first (filter is_command heard))) differ))

-- a message before the last, of the same kind, has another TNS
other-tns : (p : List ℕ → Bool) (heard : List (List ℕ)) (m : List ℕ) (k : ℕ) (h : List ℕ) → Differ (map tns_of (filter p (heard ++ m ∷ []))) → slice_get heard k ≡ Some h → p h ≡ true → p m ≡ true →
    tns_of h ≡ tns_of m → ⊥
other-tns p heard m k h differ at ph pm =
    let has = has-filter p heard k h ph at in
    differ-last tns_of (filter p heard) has.0 h m (subst (λ xs. Differ (map tns_of xs)) (filter-keeps p heard m pm) differ) has.1

-- so it has another key: by its CMD it is a reply or a command, as the last is
other-key : (heard : List (List ℕ)) (m : List ℕ) (k : ℕ) (h : List ℕ) (reply : Bool) → Differ (map tns_of (filter is_command (heard ++ m ∷ []))) → Differ (map tns_of (filter is_reply (heard ++ m ∷ []))) →
    slice_get heard k ≡ Some h → is_reply h ≡ is_reply m → tns_of h ≡ tns_of m → is_reply m ≡ reply → ⊥
other-key heard m k h true commands replies at kind tns is = other-tns is_reply heard m k h replies at (kind ∙ is) is tns
other-key heard m k h false commands replies at kind tns is = other-tns is_command heard m k h commands at (ap not (kind ∙ is)) (ap not is) tns

-- a key that is kept is that of one of these messages
abbrev pub IsKeyOf : List (List ℕ) → Option Key → Type 0
IsKeyOf messages None = Unit {0}
IsKeyOf messages (Some key) = (body : List ℕ) × Has messages body × (key ≡ key_of body)

same-kind : (h m : List ℕ) → is_kept (Some (key_of h)) (key_of m) ≡ true → (is_reply h ≡ is_reply m) × (tns_of h ≡ tns_of m)
same-kind h m e =
    let tns = and_parts _ _ e in
    let cmd = and_parts _ _ tns.0 in
    (ap (λ (n : ℕ). bit_at n 6 == 1) (eqb-true _ _ cmd.1), eqb-true _ _ tns.1)

-- a node's next message has a key that none of the messages before it has
pub key-is-new : {other : StationState} {initiator : NodeState} {messages told : List (List ℕ)} → Hosts other initiator messages told → length initiator.initiator.issued ≤ 65535 → Differ (map tns_of (filter is_command told)) →
    (before : List (List ℕ)) (m : List ℕ) → messages ≡ before ++ m ∷ [] → (kept : Option Key) → IsKeyOf before kept → is_kept kept (key_of m) ≡ false
key-is-new {other} {initiator} {messages} {told} i few executed before m sends None of = refl
key-is-new {other} {initiator} {messages} {told} i few executed before m sends (Some key) (h, has, is) =
    let of_commands = subst (λ xs. Differ (map tns_of (filter is_command xs))) sends (commands-differ i few) in
    let of_replies = subst (λ xs. Differ (map tns_of (filter is_reply xs))) sends (replies-differ i executed) in
    false_from_ne_true _ (λ kept.
    let same = same-kind h m (sym (ap (λ (k : Key). is_kept (Some k) (key_of m)) is) ∙ kept) in
    other-key before m has.0 h (is_reply m) of_commands of_replies has.1 same.0 same.1 refl)

-- ---- once nothing is in flight and no reply waits, each command that was handed out is answered

pub all-answered : (first : StationState) (sent heard waiting commands told : List (List ℕ)) → AreReplies first sent heard waiting →
    commands ≡ heard → sent ≡ told → waiting ≡ [] → (n : ℕ) → length (filter is_reply told) ≡ n → n ≡ length (filter is_command commands)
all-answered first sent heard waiting commands told all took accepted none n count =
    let executed = ap (λ xs. length (filter is_command xs)) took in
    let replied = replied-count first sent heard waiting all in
    let told_all = ap (λ xs. length (filter is_reply xs)) accepted in
    let no_more = ap length none in
    omega (arith, executed, replied, told_all, no_more, count)
