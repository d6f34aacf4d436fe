-- How many commands an end has issued.
use Rattle.std.proofs.Common.{◌≡◌, ◌∙◌, ℕ, zero, suc, ◌+◌, Bool, true, false, List, [], ◌∷◌, length, map, Option, Some, None, is_some, is_none, length-append, refl, ap, arith}
use Rattle.std.specs.Prelude.{replicate, slice_get, if◌then◌else◌}
use Rattle.std.specs.Option.{option_map_or}
use Rattle.df1_base.specs.declared.host.Fate.{Fate}
use Rattle.df1_base.specs.declared.host.Fate.TheVariants as fate
use Rattle.df1_base.specs.declared.link.Act.{Act}
use Rattle.df1_base.specs.declared.link.Act.TheVariants as act
use Rattle.df1_base.specs.HostAnswers.{host_told}
use Rattle.pccc_envelope.specs.Envelope.{is_reply}
use Rattle.df1_node.specs.declared.handed.Handed.{Handed}
use Rattle.df1_node.specs.declared.handed.Handed.TheVariants as handed
use Rattle.df1_node.specs.Initiator.{Issued, Standing, Answered, Out, Undelivered, InitiatorState, restated, after_reply, answered_place, is_out_at, after_hand_out, next_place, all_ticked}
use Rattle.df1_node.specs.Node.{NodeState, after_next, after_told, initiator_after, next_body}
use Rattle.duplex_sender.specs.declared.Phase.{Phase}
use Rattle.duplex_sender.specs.declared.Phase.TheVariants as phase
use Rattle.duplex_sender.specs.Sender.{phase_of, tick_turn}
use Rattle.embedded_response.specs.Giving.{chosen}
use Rattle.duplex_end.specs.End.{EndState, end_after_byte, end_after_tick, end_after_take, host_after, host_at_byte, act_of_byte, fate_at, fate_of_tick, begun_next, begun_at}
use Rattle.duplex_end.proofs.Order.{end-is}
use Rattle.script_statement.specs.declared.who.Who.{Who}
use Rattle.script_statement.specs.declared.who.Who.TheVariants.{A, B, M, S}
use Rattle.script_parts.specs.declared.script.Event.{Event}
use Rattle.script_parts.specs.declared.script.Event.TheVariants as event
use Rattle.script_parts.specs.Playable.{IsPossible, issues}
use Rattle.lane_cells.specs.Cells.{LaneCell}
use Rattle.each_once.specs.NodeHost.{node_host}
use Rattle.duplex_line.specs.Acts.{LineEndState, LineState, swapped, Deed, Issue, Take, Deliver, Lose, Alter, Foreign, Tick, near_after, arriving, after_arrival, after_deed, after_deeds}
use Rattle.duplex_line.specs.Run.{seen_from, after_event}
use Rattle.duplex_line.specs.Plays.{issued_by}

-- ---- the commands of a node

-- how many commands a node has issued
abbrev pub commands : NodeState → ℕ
commands node = length node.initiator.issued

restated-length : (issued : List Issued) (place : ℕ) (standing : Standing) → length (restated issued place standing) ≡ length issued
restated-length [] place standing = refl
restated-length (c ∷ cs) zero standing = refl
restated-length (c ∷ cs) (suc place) standing = ap suc (restated-length cs place standing)

restated-at : (issued : List Issued) (place : Option ℕ) (standing : Standing) → length (option_map_or (λ p. restated issued p standing) place issued) ≡ length issued
restated-at issued None standing = refl
restated-at issued (Some place) standing = restated-length issued place standing

accepted : (reply : Bool) (s : InitiatorState) (body : List ℕ) → length (if reply then after_reply s body else s).issued ≡ length s.issued
accepted true s body = restated-at s.issued (answered_place s.issued body) (Answered body)
accepted false s body = refl

given-up : (out : Bool) (s : InitiatorState) (place : ℕ) → length (if out then restated s.issued place Undelivered else s.issued) ≡ length s.issued
given-up true s place = restated-length s.issued place Undelivered
given-up false s place = refl

told-of : (s : InitiatorState) (last : Handed) → length (initiator_after s last).issued ≡ length s.issued
told-of s handed.Nothing = refl
told-of s handed.Reply = refl
told-of s (handed.Command place) = given-up (is_out_at s.issued place) s place

told-commands : (node : NodeState) (what : Fate) → commands (after_told node what) ≡ commands node
told-commands node fate.Delivered = refl
told-commands node fate.Undelivered = told-of node.initiator node.last

handed-out : (reply : Bool) (s : InitiatorState) → length (if reply then s else after_hand_out s).issued ≡ length s.issued
handed-out true s = refl
handed-out false s = restated-at s.issued (next_place s) (Out s.reply_ticks)

next-commands : (node : NodeState) → commands (after_next node) ≡ commands node
next-commands node = handed-out (is_some (slice_get node.replies 0)) node.initiator

ticked-length : (issued : List Issued) → length (all_ticked issued) ≡ length issued
ticked-length [] = refl
ticked-length (c ∷ cs) = ap suc (ticked-length cs)

-- ---- the commands of an end's node

host-accepts : (what : Act) (node : NodeState) (body : List ℕ) → commands (host_after node_host what node body) ≡ commands node
host-accepts act.Accept node body = accepted (is_reply body) node.initiator body
host-accepts act.Repeat node body = refl
host-accepts act.Refuse node body = refl
host-accepts act.Damaged node body = refl
host-accepts act.Forgot node body = refl
host-accepts act.PeerAck node body = refl
host-accepts act.PeerNak node body = refl
host-accepts act.PeerEnq node body = refl
host-accepts act.Nothing node body = refl

host-told : (what : Option Fate) (node : NodeState) → commands (host_told node_host what node) ≡ commands node
host-told None node = refl
host-told (Some what) node = told-commands node what

pub byte-commands : (e : EndState NodeState) (b : ℕ) → commands (end_after_byte node_host e b).host ≡ commands e.host
byte-commands e b =
    let what = act_of_byte node_host e b in
    host-told (fate_at what e.sender) (host_at_byte node_host e b) ∙ host-accepts what e.host _

pub tick-commands : (e : EndState NodeState) → commands (end_after_tick node_host e).host ≡ commands e.host
tick-commands e = ticked-length _ ∙ host-told (fate_of_tick (tick_turn e.sender)) e.host

begun-commands : (p : Phase) (next : Option (List ℕ)) (e : EndState NodeState) → commands (begun_at node_host e p next).host ≡ commands e.host
begun-commands phase.Idle None e = refl
begun-commands phase.Idle (Some body) e = next-commands e.host
begun-commands phase.Sending next e = refl
begun-commands phase.Waiting next e = refl

prepared-commands : (idle : Bool) (e : EndState NodeState) → commands (if idle then begun_next node_host e else e).host ≡ commands e.host
prepared-commands true e = begun-commands (phase_of e.sender) (next_body e.host) e
prepared-commands false e = refl

pub take-commands : (e : EndState NodeState) → commands (end_after_take node_host e).host ≡ commands e.host
take-commands e = ap (λ (x : EndState NodeState). commands x.host) (end-is node_host e) ∙ prepared-commands (is_none (chosen e.mouth)) e

-- ---- the commands of an end of the line

-- how many commands there are after a unit step, and after some
abbrev pub counted : Deed → ℕ → ℕ
counted (Issue src dst payload) n = n + 1
counted Take n = n
counted Deliver n = n
counted Lose n = n
counted (Alter mask) n = n
counted (Foreign byte) n = n
counted Tick n = n

abbrev pub counted_over : List Deed → ℕ → ℕ
counted_over [] n = n
counted_over (deed ∷ deeds) n = counted_over deeds (counted deed n)

near-commands : (s : LineEndState) (deed : Deed) → issued_by (near_after s deed) ≡ counted deed (issued_by s)
near-commands s (Issue src dst payload) = length-append s.end.host.initiator.issued _
near-commands s Take = take-commands s.end
near-commands s Deliver = refl
near-commands s Lose = refl
near-commands s (Alter mask) = refl
near-commands s (Foreign byte) = refl
near-commands s Tick = tick-commands s.end

far-commands : (s : LineEndState) (cell : Option LaneCell) → issued_by (after_arrival s cell) ≡ issued_by s
far-commands s None = refl
far-commands s (Some cell) = byte-commands s.end cell.byte

pub commands-near : (deeds : List Deed) (s : LineState) → issued_by (after_deeds s deeds).a ≡ counted_over deeds (issued_by s.a)
commands-near [] s = refl
commands-near (deed ∷ deeds) s = commands-near deeds (after_deed s deed) ∙ ap (counted_over deeds) (near-commands s.a deed)

pub commands-far : (deeds : List Deed) (s : LineState) → issued_by (after_deeds s deeds).b ≡ issued_by s.b
commands-far [] s = refl
commands-far (deed ∷ deeds) s = commands-far deeds (after_deed s deed) ∙ far-commands s.b (arriving s.a deed)

counted-same : (deed : Deed) → ((n : ℕ) → counted deed n ≡ n) → (k n : ℕ) → counted_over (replicate k deed) n ≡ n
counted-same deed same zero n = refl
counted-same deed same (suc k) n = counted-same deed same k (counted deed n) ∙ same n

counted-foreign : (bytes : List ℕ) (n : ℕ) → counted_over (map Foreign bytes) n ≡ n
counted-foreign [] n = refl
counted-foreign (byte ∷ bytes) n = counted-foreign bytes n

-- ---- the commands of an event

-- one where an end issues one
abbrev pub new_commands : Who → Event → ℕ
new_commands who e = if issues who e then 1 else 0

-- at an event that issues nothing, neither end has more commands
quiet-a : (who : Who) (deeds : List Deed) (s : LineState) → ((n : ℕ) → counted_over deeds n ≡ n) → issued_by (seen_from who (after_deeds (seen_from who s) deeds)).a ≡ issued_by s.a
quiet-a A deeds s same = commands-near deeds s ∙ same (issued_by s.a)
quiet-a B deeds s same = commands-far deeds (swapped s)
quiet-a M deeds s same = commands-near deeds s ∙ same (issued_by s.a)
quiet-a (S station) deeds s same = commands-near deeds s ∙ same (issued_by s.a)

quiet-b : (who : Who) (deeds : List Deed) (s : LineState) → ((n : ℕ) → counted_over deeds n ≡ n) → issued_by (seen_from who (after_deeds (seen_from who s) deeds)).b ≡ issued_by s.b
quiet-b A deeds s same = commands-far deeds s
quiet-b B deeds s same = commands-near deeds (swapped s) ∙ same (issued_by s.b)
quiet-b M deeds s same = commands-far deeds s
quiet-b (S station) deeds s same = commands-far deeds s

same : (n : ℕ) → n ≡ n
same n = refl

plus-none : (m n : ℕ) → m ≡ n → m ≡ n + 0
plus-none m n e = omega arith

pub commands-of-a : (e : Event) (s : LineState) → IsPossible e → issued_by (after_event s e).a ≡ issued_by s.a + new_commands A e
commands-of-a (event.Issue A src dst payload) s h = commands-near (Issue src dst payload ∷ []) s
commands-of-a (event.Issue B src dst payload) s h = plus-none _ _ (commands-far (Issue src dst payload ∷ []) (swapped s))
commands-of-a (event.Issue M src dst payload) s h = let no = h.0 in absurd cc
commands-of-a (event.Issue (S station) src dst payload) s h = let no = h.0 in absurd cc
commands-of-a (event.Take who n) s h = plus-none _ _ (quiet-a who (replicate n Take) s (counted-same Take same n))
commands-of-a (event.Deliver lane n) s h = plus-none _ _ (quiet-a lane.from (replicate n Deliver) s (counted-same Deliver same n))
commands-of-a (event.Lose lane n) s h = plus-none _ _ (quiet-a lane.from (replicate n Lose) s (counted-same Lose same n))
commands-of-a (event.Alter lane mask) s h = plus-none _ _ (quiet-a lane.from (Alter mask ∷ []) s same)
commands-of-a (event.Foreign lane bytes) s h = plus-none _ _ (quiet-a lane.from (map Foreign bytes) s (counted-foreign bytes))
commands-of-a (event.Tick who n) s h = plus-none _ _ (quiet-a who (replicate n Tick) s (counted-same Tick same n))

pub commands-of-b : (e : Event) (s : LineState) → IsPossible e → issued_by (after_event s e).b ≡ issued_by s.b + new_commands B e
commands-of-b (event.Issue A src dst payload) s h = plus-none _ _ (commands-far (Issue src dst payload ∷ []) s)
commands-of-b (event.Issue B src dst payload) s h = commands-near (Issue src dst payload ∷ []) (swapped s)
commands-of-b (event.Issue M src dst payload) s h = let no = h.0 in absurd cc
commands-of-b (event.Issue (S station) src dst payload) s h = let no = h.0 in absurd cc
commands-of-b (event.Take who n) s h = plus-none _ _ (quiet-b who (replicate n Take) s (counted-same Take same n))
commands-of-b (event.Deliver lane n) s h = plus-none _ _ (quiet-b lane.from (replicate n Deliver) s (counted-same Deliver same n))
commands-of-b (event.Lose lane n) s h = plus-none _ _ (quiet-b lane.from (replicate n Lose) s (counted-same Lose same n))
commands-of-b (event.Alter lane mask) s h = plus-none _ _ (quiet-b lane.from (Alter mask ∷ []) s same)
commands-of-b (event.Foreign lane bytes) s h = plus-none _ _ (quiet-b lane.from (map Foreign bytes) s (counted-foreign bytes))
commands-of-b (event.Tick who n) s h = plus-none _ _ (quiet-b who (replicate n Tick) s (counted-same Tick same n))
