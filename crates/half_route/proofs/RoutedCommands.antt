-- Each call of a router leaves the commands of the node within as they are.
use Rattle.std.proofs.Common.{ℕ, Bool, true, false, List, [], is_some, refl}
use Rattle.std.specs.Prelude.{if◌then◌else◌}
use Rattle.df1_base.specs.declared.host.Fate.{Fate}
use Rattle.df1_node.specs.Node.{NodeState}
use Rattle.station_router.specs.declared.handed.Handed.{Handed}
use Rattle.station_router.specs.declared.handed.Handed.TheVariants as handed
use Rattle.station_router.specs.Router.{RouterState, after_fate, is_carried, last_after, waiting_body}
use Rattle.each_once.specs.NodeHost.{node_host}
use Rattle.each_once.proofs.IssuedCommands.{SameCommands, same-itself, same-both, same-accept, same-told, same-tick, same-next}
use Rattle.half_line.specs.Behind.{routed_node}
use Rattle.half_line.proofs.Once.MasterCommands.{KeepsCommands}

-- a body is carried, or it is the node's
same-accepted : (carried : Bool) (r : RouterState NodeState) (body : List ℕ) → SameCommands r.inner.initiator (if carried then record r { waiting = body } else record r { inner = node_host.after_accept r.inner body }).inner.initiator
same-accepted true r body = same-itself r.inner.initiator
same-accepted false r body = same-accept r.inner body

same-fate : (last : Handed) (r : RouterState NodeState) (what : Fate) → SameCommands r.inner.initiator (after_fate last r (node_host.after_told r.inner what)).inner.initiator
same-fate handed.Carried r what = same-itself r.inner.initiator
same-fate handed.Told r what = same-itself r.inner.initiator
same-fate handed.Inner r what = same-told what r.inner

-- what waits is handed out, or what the node gives
same-handed : (waits : Bool) (r : RouterState NodeState) → SameCommands r.inner.initiator
    (if waits then record r { waiting = []; last = handed.Carried } else record r { last = last_after r.last (node_host.next_body r.inner); inner = node_host.after_next r.inner }).inner.initiator
same-handed true r = same-itself r.inner.initiator
same-handed false r = same-next r.inner

pub routed-keeps : KeepsCommands routed_node
routed-keeps = record {
  calls = record {
    same = λ r. same-itself r.inner.initiator;
    both = λ r later last. same-both r.inner.initiator later.inner.initiator last.inner.initiator;
    accept = λ r body. same-accepted (is_carried r.stations body) r body;
    told = λ r what. same-fate r.last r what;
    next = λ r. same-handed (is_some (waiting_body r.waiting)) r;
    tick = λ r. same-tick r.inner;
  };
  put = λ r node. refl;
}
