-- What is spelled for C: messages of a half-duplex line, and the texts of codes.
use Rattle.std.specs.Prelude.{ℕ, Option, None, Some, List, [], ◌∷◌, ◌++◌, codes, length, nat_lt, if◌then◌else◌}
use Rattle.std.specs.Option.{option_map_or, option_or}
use Rattle.c_ends.specs.declared.code.Code.{Code}
use Rattle.c_ends.specs.declared.code.Code.TheVariants as code
use Rattle.c_ends.specs.Code.{code_of, code_text}
use Rattle.c_ends.specs.Links.{number_fault}

abbrev pub body_fault : List ℕ → Option Code
body_fault body = if nat_lt 250 (length body) then Some code.LongBody else None

-- what stands against a master's message to a station: the first of these
abbrev pub message_fault : ℕ → List ℕ → Option Code
message_fault station body = option_or (number_fault station) (body_fault body)

-- the text of a number, with the zero byte that ends it
abbrev pub number_text : ℕ → List ℕ
number_text number = option_map_or code_text (code_of number) (codes "no code of df1") ++ 0 ∷ []
