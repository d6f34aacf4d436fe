use Rattle.std.proofs.Common.{[], ◌∷◌, refl, inl, inr}
use Rattle.df1_check.specs.Checks.{eight_shifts}
use Rattle.df1_frame.specs.Spelling.{check_bytes}
use Rattle.half_frame.specs.SlaveGrammar.{Body, Poll, CutOff, Nothing}
use Rattle.half_frame.proofs.slave_laws.worked_messages.Goals as goal

pub returns-clause-block : goal.returns-clause-block
unfolding check_bytes
returns-clause-block c = refl

pub returns-clause-cyclic : goal.returns-clause-cyclic
unfolding check_bytes eight_shifts
returns-clause-cyclic c = refl

pub returns-clause-cut_off : goal.returns-clause-cut_off
returns-clause-cut_off c = record {
  items = CutOff (Body 3 (0x41 ∷ [])) ∷ Poll 5 0xFB ∷ [];
  front = Nothing;
  splits = record { whole = refl; each = (inr (inl (0x05 ∷ 0xFB ∷ [], refl)), (tt, tt)) };
  is = refl;
}
