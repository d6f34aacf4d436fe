-- A byte arrives at a station, whose node carries nothing.
use Rattle.std.proofs.Common.{◌≡◌, ◌++◌, List, arith, subst}
use Rattle.std.specs.Prelude.{OnOk}
use Rattle.std.proofs.lemmas.Grind.{common_steps}
use Rattle.half_slave.specs.Slave as slave
use Rattle.half_slave.specs.Slave.{slave_after_byte}
use Rattle.each_once.specs.NodeHost.{node_host}
use Rattle.replay_report.specs.declared.record.Line.{Line}
use Rattle.script_statement.specs.declared.who.Who.TheVariants.{S}
use Rattle.report_lines.specs.NodeLines.{step_lines}
use Rattle.half_line.specs.Behind.{behind}
use Rattle.half_line.specs.Acts.{link_state}
use Rattle.half_line.proofs.Steps.RoutedLines.{told-at-station}
use Rattle.half_line.proofs.link.arrive_at_station.Goals as goal

pub returns-clause-lines : goal.returns-clause-lines
returns-clause-lines g c master =
    let told : OnOk c.tell_news.result (c.tell_news.new.lines ≡ c.args.reported.now.lines ++ step_lines (S c.args.side.now.number) (slave.step_at_byte node_host c.args.side.now.slave c.args.cell.now.byte) (slave.body_of (slave_after_byte node_host c.args.side.now.slave c.args.cell.now.byte))) = grind (arith, common_steps) in
    subst (λ (lines : List Line). OnOk c.tell_news.result (c.tell_news.new.lines ≡ c.args.reported.now.lines ++ lines)) (told-at-station (behind g.H.Host g.H.MasterHost) (link_state master c.args.side.now c.args.reported.now.deceived) c.args.cell.now) told
