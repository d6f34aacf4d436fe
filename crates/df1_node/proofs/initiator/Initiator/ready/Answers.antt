use Rattle.std.proofs.Common.{ap, ◌∙◌, is_some}
use Rattle.df1_node.specs.HostLaws.{place-command}
use Rattle.df1_node.proofs.initiator.Initiator.ready.Goals as goal

pub returns-clause-ready : goal.returns-clause-ready
returns-clause-ready c = c.is_some.ensures ∙ ap is_some c.next.ensures.place ∙ place-command c.args.self.now
