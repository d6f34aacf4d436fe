-- Items that are copied to the front of others.
use Rattle.std.specs.Prelude.{ℕ, List, ◌++◌, length, drop, nat_lt, if◌then◌else◌}
use Rattle.c_ends.specs.declared.code.Code.{Code}
use Rattle.c_ends.specs.declared.code.Code.TheVariants as code

-- where they fit
abbrev pub copied : List ℕ → List ℕ → List ℕ
copied old items = if nat_lt (length old) (length items) then old else items ++ drop (length items) old

-- whether so many fit
abbrev pub room_code : ℕ → ℕ → Code
room_code count room = if nat_lt room count then code.NoRoom else code.Done
