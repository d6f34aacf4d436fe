-- The run shows how writing the line of the cases ended.
use Rattle.df1_tool.proofs.VectorRuns.{vectors-refused}
use Rattle.df1_tool.proofs.vectors.run.Goals as goal

pub returns-in-Err : goal.returns-in-Err
returns-in-Err g c = vectors-refused _ _ c.refuse.result c.in-Err.fault c.refuse.ensures.status c.refuse.ensures.note c.in-Err.ensures
