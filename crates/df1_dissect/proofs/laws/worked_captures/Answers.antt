-- The two captures, item by item.
use Rattle.std.proofs.Common.{[], ◌∷◌, refl, arith}
use Rattle.std.specs.Fmt.{digits}
use Rattle.hex.specs.Hex.{encode_with}
use Rattle.df1_frame.specs.Spelling.{Plain, check_bytes}
use Rattle.df1_frame.specs.Grammar as full
use Rattle.half_frame.specs.Text.{Opened}
use Rattle.half_frame.specs.SlaveGrammar as master
use Rattle.df1_dissect.specs.Lines.{fields_text, kind_text}
use Rattle.df1_dissect.proofs.laws.worked_captures.Goals as goal

pub returns-clause-full : goal.returns-clause-full
unfolding encode_with fields_text kind_text check_bytes digits
returns-clause-full c = record {
  items = full.Stray 0x55 ∷ full.Pair 6 ∷ full.Frame (Plain 8 ∷ Plain 9 ∷ Plain 6 ∷ Plain 0 ∷ Plain 2 ∷ Plain 4 ∷ Plain 3 ∷ []) (0xE0 ∷ []) ∷ [];
  front = full.Opened (Plain 1 ∷ []);
  splits = record { whole = refl; each = (omega arith, (omega arith, (((omega arith, (omega arith, (omega arith, (omega arith, (omega arith, (omega arith, (omega arith, tt))))))), refl), (omega arith, tt)))) };
  is = refl;
}

pub returns-clause-master : goal.returns-clause-master
unfolding encode_with fields_text kind_text check_bytes digits
returns-clause-master c = record {
  items = master.Poll 3 0xFD ∷ [];
  front = master.InText 3 (Opened (0x41 ∷ []));
  splits = record { whole = refl; each = (tt, tt) };
  is = refl;
}
