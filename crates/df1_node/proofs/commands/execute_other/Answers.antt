use Rattle.std.proofs.Common.{subst, sym}
use Rattle.std.specs.Result.{result_map_both}
use Rattle.plc_commands.specs.Order.{seen}
use Rattle.plc_commands.proofs.Replies.{IsShortEcho, IfShortEcho, echo-fits, reply-fits}
use Rattle.df1_node.specs.HostLaws.{code-done}
use Rattle.df1_node.proofs.commands.execute_other.Goals as goal

pub returns-in-Ok-2-clause-fits : goal.returns-in-Ok-2-clause-fits
returns-in-Ok-2-clause-fits c =
    let read = subst IfShortEcho (sym c.read_plc.ensures.reads) (echo-fits c.args.cmd c.args.payload.now c.requires.payload) in
    let echo : IsShortEcho (seen c.in-Ok.order) = subst (λ r. IfShortEcho (result_map_both seen (λ code. code) r)) c.in-Ok.is read in
    let short = (reply-fits c.args.tables.now c.args.compat c.args.block.now (seen c.in-Ok.order) c.requires.block echo).short in
    code-done c.do_plc.result c.do_plc.new.out.items (rw c.do_plc.ensures.reply short) (λ refuses. (c.do_plc.ensures.refused refuses).1)
