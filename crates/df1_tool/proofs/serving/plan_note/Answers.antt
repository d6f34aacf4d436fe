use Rattle.df1_tool.proofs.serving.plan_note.Goals as goal

pub returns-in-UnknownKey : goal.returns-in-UnknownKey
returns-in-UnknownKey c = rw c.in-UnknownKey.is c.noted-in-UnknownKey.ensures
