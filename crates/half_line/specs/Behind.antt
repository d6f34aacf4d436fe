-- What stands behind the master of a line, as the run of the line sees it: a host with a node within, which may carry messages from station to station.
use Rattle.std.specs.Prelude.{ℕ, Bool, List}
use Rattle.df1_base.specs.declared.host.Host.{Ghosts}
use Rattle.df1_node.specs.Node.{NodeState}
use Rattle.station_router.specs.Router.{RouterState, is_carried, with_inner}
use Rattle.station_router.specs.Router as router
use Rattle.each_once.specs.NodeHost.{node_host}
use Rattle.station_router.specs.declared.master_host.MasterHost as master_host
use Rattle.station_router.specs.contracts.master_host.NodeMasterHost.TheImpl as plain

-- what it means as a host; the node within, and the host with another node; and whether the host carries a body to a station
pub record Behind (H : Type 0) : Type 1 where
  pub host : Ghosts H
  pub node : H → NodeState
  pub with_node : H → NodeState → H
  pub carries : H → List ℕ → Bool

-- of the members of both traits
abbrev pub behind : {H : Type 0} → Ghosts H → master_host.Ghosts H → Behind H
behind host own = record { host = host; node = own.node; with_node = own.with_node; carries = own.carries }

-- a plain node is its own node, and carries nothing
abbrev pub plain_node : Behind NodeState
plain_node = behind node_host plain.ghosts

-- a router before a node: the node is its inner host, and it carries what is for one of its stations
abbrev pub routed_node : Behind (RouterState NodeState)
routed_node = record {
  host = record {
    room_for = router.has_room node_host.room_for;
    did = router.did_accept node_host.did;
    after_accept = router.after_accept node_host.after_accept;
    next_body = router.next_body node_host.next_body;
    after_next = router.after_next node_host.next_body node_host.after_next;
    is_out = router.is_out node_host.is_out;
    news = router.news_told node_host.news;
    after_told = router.after_told node_host.after_told;
    unanswered = router.gone_unanswered node_host.unanswered;
    after_tick = router.after_tick node_host.after_tick;
    after_clear = router.after_clear node_host.after_clear;
    holds_bodies = router.holds_bodies node_host.holds_bodies;
  };
  node = λ r. r.inner;
  with_node = λ r n. with_inner r n;
  carries = λ r body. is_carried r.stations body;
}
