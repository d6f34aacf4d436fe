-- What a reader of a side keeps of the bytes so far, and what it has told, as they are read off the one split of the bytes.
use Rattle.std.specs.Prelude.{ℕ, ◌+◌, List, [], ◌∷◌, length, if◌then◌else◌}
use Rattle.df1_check.specs.declared.Check.{Check}
use Rattle.df1_frame.specs.Line.{Grammar, ReadOff, spelling}
use Rattle.df1_frame.specs.Grammar.{full_duplex}
use Rattle.df1_frame.specs.Standing.{decoding}
use Rattle.half_frame.specs.SlaveGrammar.{slave_hears}
use Rattle.half_frame.specs.MasterGrammar.{master_hears}
use Rattle.half_frame.specs.SlaveStanding as slave_ear
use Rattle.half_frame.specs.MasterStanding as master_ear
use Rattle.df1_dissect.specs.declared.ear.Ear.{Ear}
use Rattle.df1_dissect.specs.declared.ear.Ear.TheVariants as ear
use Rattle.half_frame.specs.declared.side.Side.{Side}
use Rattle.half_frame.specs.declared.side.Side.TheVariants as side
use Rattle.df1_dissect.specs.Kinds.{is_bad}
use Rattle.df1_dissect.specs.Telling.{Told, Telling, told_from, bytes_of}
use Rattle.df1_dissect.specs.FullItems.{full_telling}
use Rattle.df1_dissect.specs.MasterItems.{master_telling}
use Rattle.df1_dissect.specs.SlaveItems.{slave_telling}

-- ---- the sides

-- the grammar of a side's bytes, with room for a body of 250 bytes
abbrev pub grammar_of : Side → Check → Grammar
grammar_of side.Full check = full_duplex check 250
grammar_of side.Master check = slave_hears check 250
grammar_of side.Slave check = master_hears check 250

-- what its items tell
abbrev pub telling_of : (of : Side) (check : Check) → Telling (grammar_of of check)
telling_of side.Full check = full_telling check 250
telling_of side.Master check = master_telling check 250
telling_of side.Slave check = slave_telling check 250

-- its ear after items and a front
abbrev pub ear_of : (of : Side) (check : Check) → List (grammar_of of check).Item → (grammar_of of check).Front → Ear
ear_of side.Full check items front = ear.Full (decoding check 250 items front)
ear_of side.Master check items front = ear.Master (slave_ear.listening check 250 items front)
ear_of side.Slave check items front = ear.Slave (master_ear.listening check 250 items front)

-- ---- what is told and kept

-- what has a line, in the order of the bytes
abbrev pub told : (of : Side) (check : Check) → List (grammar_of of check).Item → (grammar_of of check).Front → List Told
told of check items front = told_from (grammar_of of check) (telling_of of check) 0 items front

-- how many of these are faults of the line
abbrev pub bad_among : List Told → ℕ
bad_among [] = 0
bad_among (one ∷ more) = if is_bad one.kind then 1 + bad_among more else bad_among more

-- a reader's value: its ear, the offset of the first byte of the item that is under way, how many bytes were fed, how many
-- things have a line, and how many of these are faults
pub record Reading : Type 0 where
  pub ear : Ear
  pub start : ℕ
  pub fed : ℕ
  pub heard : ℕ
  pub bad : ℕ

-- after items and a front
abbrev pub reading : (of : Side) (check : Check) → List (grammar_of of check).Item → (grammar_of of check).Front → Reading
reading of check items front = record {
  ear = ear_of of check items front;
  start = bytes_of (grammar_of of check) items;
  fed = length (spelling (grammar_of of check) items front);
  heard = length (told of check items front);
  bad = bad_among (told of check items front);
}

-- a reader's value stands for these bytes
abbrev pub StandsFor : Side → Check → List ℕ → Reading → Type 0
StandsFor of check bytes value = ReadOff (grammar_of of check) bytes (reading of check) value

-- these are the things that have a line
abbrev pub Tells : Side → Check → List ℕ → List Told → Type 0
Tells of check bytes things = ReadOff (grammar_of of check) bytes (told of check) things

-- how many bytes the unfinished item has
abbrev pub unfinished : (of : Side) (check : Check) → List (grammar_of of check).Item → (grammar_of of check).Front → ℕ
unfinished of check items front = let G = grammar_of of check in length (G.front_bytes front)
