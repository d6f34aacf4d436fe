use Rattle.slc_commands.specs.Order.{seen}
use Rattle.slc_commands.proofs.Replies.{reply-fits}
use Rattle.df1_node.specs.HostLaws.{code-done}
use Rattle.df1_node.proofs.commands.execute_logical.Goals as goal

pub returns-clause-fits : goal.returns-clause-fits
returns-clause-fits c =
    let short = (reply-fits c.args.tables.now (seen c.args.order.now)).short in
    code-done c.do_slc.result c.do_slc.new.out.items (rw c.do_slc.ensures.reply short) (λ refuses. (c.do_slc.ensures.refused refuses).1)
