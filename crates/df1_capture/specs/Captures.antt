-- How a capture is taken from the input.
use Rattle.std.specs.Prelude.{◌≡◌, ◌≤◌, ℕ, List, ◌++◌, length, Option}
use Rattle.std.specs.Io.KnownBytes.{IsAtEnd}
use Rattle.df1_base.specs.Outside.{Took}
use Rattle.df1_base.specs.Signals.{input_limit}

-- it was read to its end: these are its bytes, and they are within the limit
pub record IsWhole (left left' : Option (List ℕ)) (bytes : List ℕ) : Type 0 where
  pub took : Took left left' bytes
  pub end : IsAtEnd left'
  pub few : length bytes ≤ input_limit

-- these bytes were taken, and they are within the limit
pub record IsTaken (left left' : Option (List ℕ)) (bytes : List ℕ) : Type 0 where
  pub took : Took left left' bytes
  pub few : length bytes ≤ input_limit

-- these bytes were taken, as many as the limit allows, and others after them are there
pub record IsOver (left left' : Option (List ℕ)) (bytes : List ℕ) : Type 0 where
  pub over : List ℕ
  pub took : Took left left' (bytes ++ over)
  pub all : length bytes ≡ input_limit
  pub some : 1 ≤ length over
  pub few : length over ≤ 4096

-- a piece has more bytes than the limit allows after those before it: it begins with these, as many as it allows
pub record IsOverlong (before piece front : List ℕ) : Type 0 where
  pub over : List ℕ
  pub whole : piece ≡ front ++ over
  pub all : length (before ++ front) ≡ input_limit
  pub some : 1 ≤ length over
