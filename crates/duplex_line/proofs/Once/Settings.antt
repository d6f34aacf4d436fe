-- In every run: how many replies may wait at a node, and how many commands it may have out, stays as it was set.
use Rattle.std.proofs.Common.{◌≡◌, ◌∙◌, ℕ, ◌≤◌, Bool, true, false, List, [], ◌∷◌, ◌++◌, drop, Option, Some, None, is_some, refl, sym, subst}
use Rattle.std.specs.Prelude.{slice_get, if◌then◌else◌}
use Rattle.std.specs.Option.{option_map_or}
use Rattle.df1_base.specs.declared.host.Fate.{Fate}
use Rattle.df1_base.specs.declared.host.Fate.TheVariants as fate
use Rattle.df1_base.specs.declared.link.Act.{Act}
use Rattle.df1_base.specs.declared.link.Act.TheVariants as act
use Rattle.df1_base.specs.HostAnswers.{host_told}
use Rattle.pccc_envelope.specs.Envelope.{is_reply}
use Rattle.df1_node.specs.Answer.{after_answer, reply_to}
use Rattle.df1_node.specs.declared.handed.Handed.{Handed}
use Rattle.df1_node.specs.declared.handed.Handed.TheVariants as handed
use Rattle.df1_node.specs.Initiator.{InitiatorState, after_hand_out, after_reply}
use Rattle.df1_node.specs.Node.{NodeState, next_handed, after_next, after_accept, after_told, after_tick as node_ticked, initiator_after}
use Rattle.duplex_sender.specs.Sender.{tick_turn}
use Rattle.duplex_end.specs.End.{act_of_byte, fate_at, fate_of_tick, host_after, host_at_byte, host_at_tick}
use Rattle.script_statement.specs.declared.who.Who.{Who}
use Rattle.script_statement.specs.declared.who.Who.TheVariants.{A, B, M, S}
use Rattle.script_parts.specs.declared.script.Event.{Event}
use Rattle.lane_cells.specs.Cells.{LaneCell}
use Rattle.each_once.specs.NodeHost.{node_host}
use Rattle.duplex_line.specs.Acts.{LineEndState, LineState, swapped, Deed, Issue, Take, Deliver, Lose, Alter, Foreign, Tick, near_after, arriving, after_arrival, after_deed, after_deeds}
use Rattle.duplex_line.specs.Run.{who_of, deeds_of, seen_from, after_event, state_after}
use Rattle.duplex_line.proofs.Once.SentMessages.{handed_at, take-host}

-- how many replies may wait, and how many commands may be out
pub record Allowance : Type 0 where
  pub room : ℕ
  pub window : ℕ

-- a node that may have so many
pub record IsAllowed (allowed : Allowance) (node : NodeState) : Type 0 where
  pub room : node.room ≡ allowed.room
  pub window : node.initiator.window ≡ allowed.window
  pub per_source : 1 ≤ node.initiator.per_source

-- ---- each step of a node

allowed-if : (reply : Bool) (allowed : Allowance) (node : NodeState) (s : InitiatorState) (last : Handed) (replies : List (List ℕ)) → s.window ≡ node.initiator.window → s.per_source ≡ node.initiator.per_source → IsAllowed allowed node
    → IsAllowed allowed (record node { replies = replies; initiator = if reply then node.initiator else s; last = last })
allowed-if true allowed node s last replies window per_source a = record { room = a.room; window = a.window; per_source = a.per_source }
allowed-if false allowed node s last replies window per_source a = record { room = a.room; window = window ∙ a.window; per_source = rw per_source a.per_source }

allowed-next : (allowed : Allowance) (node : NodeState) → IsAllowed allowed node → IsAllowed allowed (after_next node)
allowed-next allowed node a = allowed-if (is_some (slice_get node.replies 0)) allowed node (after_hand_out node.initiator) (next_handed node) (drop 1 node.replies) refl refl a

pub allowed-handed : (o : Option (List ℕ)) (allowed : Allowance) (node : NodeState) → IsAllowed allowed node → IsAllowed allowed (option_map_or (λ (body : List ℕ). after_next node) o node)
allowed-handed None allowed node a = a
allowed-handed (Some body) allowed node a = allowed-next allowed node a

pub allowed-accept : (allowed : Allowance) (node : NodeState) (body : List ℕ) → IsAllowed allowed node → IsAllowed allowed (after_accept node body)
allowed-accept allowed node body a = by-kind (is_reply body)
  where
    by-kind : (reply : Bool) → IsAllowed allowed (record node {
      station = if reply then node.station else after_answer node.station body;
      replies = if reply then node.replies else node.replies ++ reply_to node.station body ∷ [];
      initiator = if reply then after_reply node.initiator body else node.initiator;
    })
    by-kind true = record { room = a.room; window = a.window; per_source = a.per_source }
    by-kind false = record { room = a.room; window = a.window; per_source = a.per_source }

allowed-act : (what : Act) (allowed : Allowance) (node : NodeState) (body : List ℕ) → IsAllowed allowed node → IsAllowed allowed (host_after node_host what node body)
allowed-act act.Accept allowed node body a = allowed-accept allowed node body a
allowed-act act.Repeat allowed node body a = a
allowed-act act.Refuse allowed node body a = a
allowed-act act.Damaged allowed node body a = a
allowed-act act.Forgot allowed node body a = a
allowed-act act.PeerAck allowed node body a = a
allowed-act act.PeerNak allowed node body a = a
allowed-act act.PeerEnq allowed node body a = a
allowed-act act.Nothing allowed node body a = a

allowed-told : (allowed : Allowance) (node : NodeState) (what : Fate) → IsAllowed allowed node → IsAllowed allowed (after_told node what)
allowed-told allowed node fate.Delivered a = record { room = a.room; window = a.window; per_source = a.per_source }
allowed-told allowed node fate.Undelivered a = by-last node.last
  where
    by-last : (last : Handed) → IsAllowed allowed (record node { initiator = initiator_after node.initiator last; last = handed.Nothing })
    by-last handed.Nothing = record { room = a.room; window = a.window; per_source = a.per_source }
    by-last handed.Reply = record { room = a.room; window = a.window; per_source = a.per_source }
    by-last (handed.Command place) = record { room = a.room; window = a.window; per_source = a.per_source }

allowed-fate : (what : Option Fate) (allowed : Allowance) (node : NodeState) → IsAllowed allowed node → IsAllowed allowed (host_told node_host what node)
allowed-fate None allowed node a = a
allowed-fate (Some what) allowed node a = allowed-told allowed node what a

allowed-tick : (allowed : Allowance) (node : NodeState) → IsAllowed allowed node → IsAllowed allowed (node_ticked node)
allowed-tick allowed node a = record { room = a.room; window = a.window; per_source = a.per_source }

-- ---- each unit step

near-allowed : (allowed : Allowance) (s : LineEndState) (deed : Deed) → IsAllowed allowed s.end.host → IsAllowed allowed (near_after s deed).end.host
near-allowed allowed s (Issue src dst payload) a = record { room = a.room; window = a.window; per_source = a.per_source }
near-allowed allowed s Take a = subst (IsAllowed allowed) (sym (take-host node_host s.end)) (allowed-handed (handed_at node_host s.end) allowed s.end.host a)
near-allowed allowed s Deliver a = a
near-allowed allowed s Lose a = a
near-allowed allowed s (Alter mask) a = a
near-allowed allowed s (Foreign byte) a = a
near-allowed allowed s Tick a = allowed-tick allowed (host_at_tick node_host s.end) (allowed-fate (fate_of_tick (tick_turn s.end.sender)) allowed s.end.host a)

far-allowed : (allowed : Allowance) (s : LineEndState) (o : Option LaneCell) → IsAllowed allowed s.end.host → IsAllowed allowed (after_arrival s o).end.host
far-allowed allowed s None a = a
far-allowed allowed s (Some cell) a =
    let what = act_of_byte node_host s.end cell.byte in
    allowed-fate (fate_at what s.end.sender) allowed (host_at_byte node_host s.end cell.byte) (allowed-act what allowed s.end.host _ a)

-- both ends
pub record AreAllowed (of_a of_b : Allowance) (s : LineState) : Type 0 where
  pub a : IsAllowed of_a s.a.end.host
  pub b : IsAllowed of_b s.b.end.host

allowed-deeds : (of_a of_b : Allowance) (s : LineState) (deeds : List Deed) → AreAllowed of_a of_b s → AreAllowed of_a of_b (after_deeds s deeds)
allowed-deeds of_a of_b s [] h = h
allowed-deeds of_a of_b s (deed ∷ deeds) h = allowed-deeds of_a of_b (after_deed s deed) deeds (record { a = near-allowed of_a s.a deed h.a; b = far-allowed of_b s.b (arriving s.a deed) h.b })

allowed-seen : (who : Who) (of_a of_b : Allowance) (s : LineState) (deeds : List Deed) → AreAllowed of_a of_b s → AreAllowed of_a of_b (seen_from who (after_deeds (seen_from who s) deeds))
allowed-seen A of_a of_b s deeds h = allowed-deeds of_a of_b s deeds h
allowed-seen B of_a of_b s deeds h = let now = allowed-deeds of_b of_a (swapped s) deeds (record { a = h.b; b = h.a }) in record { a = now.b; b = now.a }
allowed-seen M of_a of_b s deeds h = allowed-deeds of_a of_b s deeds h
allowed-seen (S station) of_a of_b s deeds h = allowed-deeds of_a of_b s deeds h

-- ---- a run

pub allowed-events : (of_a of_b : Allowance) (events : List Event) (s : LineState) → AreAllowed of_a of_b s → AreAllowed of_a of_b (state_after s events)
allowed-events of_a of_b [] s h = h
allowed-events of_a of_b (e ∷ events) s h = allowed-events of_a of_b events (after_event s e) (allowed-seen (who_of e) of_a of_b s (deeds_of e) h)
