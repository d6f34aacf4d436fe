-- The answers of a call on an end, and what it tells.
use Rattle.std.specs.declared.option.Option.{Option}
use Rattle.std.specs.declared.option.Option.TheVariants.{Some, None}
use Rattle.std.specs.Option.{option_and_then, unwrap_or}
use Rattle.std.specs.Prelude.{if◌then◌else◌}
use Rattle.c_ends.specs.declared.code.Code.{Code}
use Rattle.c_ends.specs.declared.code.Code.TheVariants as code
use Rattle.c_ends.specs.declared.held.Held.{Held}
use Rattle.c_ends.specs.Held.{is_end}

-- the code of a call on an end
abbrev pub end_code : Option Held → Code
end_code None = code.NoHandle
end_code (Some held) = if is_end held then code.Done else code.NoHandle

-- what a call tells of what is held; where it tells nothing, what was there
abbrev pub told_of : {T : Type 0} → Option Held → (Held → Option T) → T → T
told_of held tell old = unwrap_or (option_and_then tell held) old
