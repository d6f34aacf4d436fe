use Rattle.std.proofs.Common.{[], ◌∷◌, refl, inl, arith}
use Rattle.df1_frame.specs.Spelling.{check_bytes}
use Rattle.half_frame.specs.Text.{Opened}
use Rattle.half_frame.specs.MasterGrammar.{Pair, CutOff, InText}
use Rattle.half_frame.proofs.master_laws.worked_replies.Goals as goal

pub returns-clause-block : goal.returns-clause-block
unfolding check_bytes
returns-clause-block c = refl

pub returns-clause-cut_off : goal.returns-clause-cut_off
returns-clause-cut_off c = record {
  items = Pair 4 ∷ CutOff (0x00 ∷ []) ∷ [];
  front = InText (Opened []);
  splits = record { whole = refl; each = (omega arith, (inl ([], refl), tt)) };
  is = refl;
}
