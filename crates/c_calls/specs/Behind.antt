-- The node behind an end that a handle holds.
use Rattle.std.specs.declared.option.Option.{Option}
use Rattle.std.specs.declared.option.Option.TheVariants.{Some, None}
use Rattle.std.specs.Option.{option_and_then, option_map_or, unwrap_or}
use Rattle.df1_base.specs.declared.host.Host.{Ghosts}
use Rattle.df1_node.specs.Node.{NodeState}
use Rattle.df1_node.specs.contracts.node.NodeHost.TheImpl.{ghosts as node_host}
use Rattle.station_router.specs.Router as router
use Rattle.station_router.specs.Router.{RouterState, with_inner}
use Rattle.duplex_end.specs.End as duplex
use Rattle.half_master.specs.Master as master
use Rattle.half_slave.specs.Slave as slave
use Rattle.c_ends.specs.declared.code.Code.{Code}
use Rattle.c_ends.specs.declared.code.Code.TheVariants as code
use Rattle.c_ends.specs.declared.held.Held.{Held}
use Rattle.c_ends.specs.declared.held.Held.TheVariants as held

-- what a router before a node does as a host
abbrev pub routed_host : Ghosts (RouterState NodeState)
routed_host = record {
  room_for = router.has_room node_host.room_for;
  did = router.did_accept node_host.did;
  after_accept = router.after_accept node_host.after_accept;
  next_body = router.next_body node_host.next_body;
  after_next = router.after_next node_host.next_body node_host.after_next;
  is_out = router.is_out node_host.is_out;
  news = router.news_told node_host.news;
  after_told = router.after_told node_host.after_told;
  unanswered = router.gone_unanswered node_host.unanswered;
  after_tick = router.after_tick node_host.after_tick;
  after_clear = router.after_clear node_host.after_clear;
  holds_bodies = router.holds_bodies node_host.holds_bodies;
}

-- a decoder has none; a master's is behind its router
abbrev pub node_in : Held → Option NodeState
node_in (held.Decoder decoder) = None
node_in (held.Duplex end) = Some end.host
node_in (held.Master end) = Some end.host.inner
node_in (held.Slave end) = Some end.host

-- an end after a change of its node
abbrev pub with_change : (NodeState → NodeState) → Held → Held
with_change change (held.Decoder decoder) = held.Decoder decoder
with_change change (held.Duplex end) = held.Duplex (duplex.with_host end (change end.host))
with_change change (held.Master end) = held.Master (master.with_host end (with_inner end.host (change end.host.inner)))
with_change change (held.Slave end) = held.Slave (slave.with_host end (change end.host))

-- the code of a call on the node of what is held
abbrev pub code_at : Option Held → (NodeState → Code) → Code
code_at held ask = option_map_or ask (option_and_then node_in held) code.NoHandle

-- what a call tells of that node; where it tells nothing, what was there
abbrev pub told_at : {T : Type 0} → Option Held → (NodeState → Option T) → T → T
told_at held tell old = unwrap_or (option_and_then tell (option_and_then node_in held)) old
