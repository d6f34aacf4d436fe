-- What a text shows of which more may follow.
use Rattle.std.specs.Prelude.{◌≡◌, ◌⊎◌, ℕ, ◌+◌, ◌-◌, ◌<◌, List, [], ◌∷◌, length, take, Result, Ok, Err, nat_lt, ◌==◌, if◌then◌else◌}
use Rattle.line_script.specs.declared.fault.Cause.{Cause}
use Rattle.line_script.specs.declared.fault.Cause.TheVariants as cause
use Rattle.script_parts.specs.declared.script.Script.{Script}
use Rattle.line_script.specs.declared.profile.Profile.{Profile}
use Rattle.line_script.specs.ScriptText.{script_for, script_of}

-- how many bytes stand behind the last line feed, where so many stood before the text
abbrev pub unfinished_after : ℕ → List ℕ → ℕ
unfinished_after before [] = before
unfinished_after before (byte ∷ rest) = unfinished_after (if byte == 10 then 0 else before + 1) rest

-- how many bytes of a text stand behind its last line feed
abbrev pub unfinished : List ℕ → ℕ
unfinished text = unfinished_after 0 text

-- all lines of a text end in a line feed, or the last one is over 1,024 bytes already
abbrev pub IsSettled : List ℕ → Type 0
IsSettled text = (unfinished text ≡ 0) ⊎ (1024 < unfinished text)

-- the lines of a text that a line feed ends, and the last one with them where it is over 1,024 bytes already
abbrev pub settled : List ℕ → List ℕ
settled text = if nat_lt 1024 (unfinished text) then text else take (length text - unfinished text) text

-- no line is refused
abbrev pub IsAccepted : Result Script (ℕ × Cause) → Type 0
IsAccepted (Ok script) = Unit {0}
IsAccepted (Err fault) = fault.1 ≡ cause.NoEnd

-- no line of a text is refused yet, whatever may follow
abbrev pub IsOpenFor : Profile → List ℕ → Type 0
IsOpenFor profile text = IsAccepted (script_for profile (settled text))

abbrev pub IsOpen : List ℕ → Type 0
IsOpen text = IsAccepted (script_of (settled text))
