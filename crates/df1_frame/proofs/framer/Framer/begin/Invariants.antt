use Rattle.std.proofs.Common.{◌≡◌, take}
use Rattle.df1_check.specs.Checks.{taken}
use Rattle.df1_frame.specs.declared.framer.Part.TheVariants as part
use Rattle.df1_frame.proofs.framer.Framer.begin.Given as goal

abbrev pub invariant-loop-b : goal.invariant-loop-b
invariant-loop-b l = record {
  part : l.self-inside.part ≡ part.Opening;
  kept : l.self-inside.body.items ≡ take l.b-index l.body;
  taken : l.running ≡ taken l.check (take l.b-index l.body);
}
