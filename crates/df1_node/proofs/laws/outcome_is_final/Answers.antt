use Rattle.df1_node.proofs.Final.{final_step, final_run}
use Rattle.df1_node.proofs.laws.outcome_is_final.Goals as goal

pub returns : goal.returns
returns c = record { step = final_step; run = final_run }
