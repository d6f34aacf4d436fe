-- What a node means as the host of an end.
use Rattle.df1_base.specs.declared.host.Host.{Ghosts}
use Rattle.df1_node.specs.Node.{NodeState}
use Rattle.df1_node.specs.contracts.node.NodeHost.TheImpl.{ghosts}

abbrev pub node_host : Ghosts NodeState
node_host = ghosts
