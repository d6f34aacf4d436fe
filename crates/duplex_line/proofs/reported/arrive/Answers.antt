use Rattle.std.proofs.Common.{◌≡◌, ◌∙◌, ◌++◌, List, ap, sym, append-nil, arith}
use Rattle.df1_base.specs.declared.link.Act.TheVariants as act
use Rattle.df1_base.specs.declared.link.Step.{Step}
use Rattle.replay_report.specs.declared.record.Line.{Line}
use Rattle.duplex_line.specs.Acts.{step_of, deceptions_at}
use Rattle.duplex_line.proofs.Steps.NothingMeant.{no-lines, no-deception}
use Rattle.duplex_line.proofs.reported.arrive.Goals as goal

pub returns-in-Nothing-clause-lines : goal.returns-in-Nothing-clause-lines
returns-in-Nothing-clause-lines c =
    let nothing : (step_of c.args.side.now c.args.cell.now).act ≡ act.Nothing = sym (ap (λ (step : Step). step.act) c.hear-step.ensures.step) ∙ c.in-Nothing.is in
    sym (append-nil c.args.reported.now.lines) ∙ ap (λ (lines : List Line). c.args.reported.now.lines ++ lines) (sym (no-lines c.args.who c.args.side.now c.args.cell.now nothing))

pub returns-in-Nothing-clause-deceived : goal.returns-in-Nothing-clause-deceived
returns-in-Nothing-clause-deceived c =
    let nothing : (step_of c.args.side.now c.args.cell.now).act ≡ act.Nothing = sym (ap (λ (step : Step). step.act) c.hear-step.ensures.step) ∙ c.in-Nothing.is in
    let none : deceptions_at c.args.side.now c.args.cell.now ≡ 0 = no-deception c.args.side.now c.args.cell.now nothing in
    omega arith
