-- What the run of a script comes to that is read whole from an input.
use Rattle.std.specs.Prelude.{◌≡◌, ◌≢◌, ◌≤◌, ℕ, List, [], ◌++◌, length, Option, Ok, Err}
use Rattle.std.specs.Io.KnownBytes.{IsAtEnd}
use Rattle.df1_base.specs.Outside.{Put, Rose, Took, WroteLess}
use Rattle.line_script.specs.declared.fault.Cause.{Cause}
use Rattle.line_script.specs.declared.fault.Cause.TheVariants as cause
use Rattle.line_script.specs.declared.fault.ScriptFault.{ScriptFault}
use Rattle.line_script.specs.declared.fault.ScriptFault.TheVariants as script
use Rattle.line_script.specs.declared.profile.Profile.{Profile}
use Rattle.line_script.specs.ScriptText.{script_for}
use Rattle.line_script.specs.Unfinished.{IsOpenFor, settled}
use Rattle.script_parts.specs.declared.script.Script.{Script}
use Rattle.whole_scripts.specs.declared.fault.RunFault.{RunFault}
use Rattle.whole_scripts.specs.declared.fault.RunFault.TheVariants.{Refusal, Input, Output, NoMemory}

-- ---- the input

-- the input was read to its end, and it says this script
pub record IsRead (profile : Profile) (script : Script) (left left' : Option (List ℕ)) : Type 0 where
  pub input : List ℕ
  pub took : Took left left' input
  pub end : IsAtEnd left'
  pub reads : script_for profile input ≡ Ok script

-- The bytes that were taken show that this line of the script is refused for this cause, whatever may follow them; at the end of the input
-- nothing does.
pub record Refused (profile : Profile) (left left' : Option (List ℕ)) (line : ℕ) (fault : Cause) : Type 0 where
  pub bytes : List ℕ
  pub took : Took left left' bytes
  pub refused : (more : List ℕ) → (IsAtEnd left' → more ≡ []) → script_for profile (bytes ++ more) ≡ Err (line, fault)

-- a read has failed; no line of the bytes that were taken is refused yet, nor are they more than a script may have
pub record BrokenOff (profile : Profile) (left left' : Option (List ℕ)) (faults faults' : ℕ) : Type 0 where
  pub bytes : List ℕ
  pub took : Took left left' bytes
  pub few : length bytes ≤ 16777216
  pub still : IsOpenFor profile bytes
  pub rose : Rose faults faults'

-- at most as many bytes were taken as the longest script has, and 4,096 more
pub record TookFew (left left' : Option (List ℕ)) : Type 0 where
  pub bytes : List ℕ
  pub took : Took left left' bytes
  pub few : length bytes ≤ 16781312

-- where the fault is a refusal, its line and its cause are such
abbrev pub TellsRefusal : (ℕ → Cause → Type 0) → RunFault → Type 0
TellsRefusal P (Refusal line fault) = P line fault
TellsRefusal P Input = Unit {0}
TellsRefusal P Output = Unit {0}
TellsRefusal P NoMemory = Unit {0}

-- ---- the output

-- the input was read to its end, and the text that answers its script is written; and this holds of the script
pub record IsAnswered (profile : Profile) (answer : Script → List ℕ) (Holds : Script → Type 0) (left left' held held' : Option (List ℕ)) : Type 0 where
  pub script : Script
  pub read : IsRead profile script left left'
  pub put : Put held held' (answer script)
  pub holds : Holds script

-- the input was read to its end, and a first part of the text that answers its script is written, and not all
pub record IsCut (profile : Profile) (answer : Script → List ℕ) (left left' held held' : Option (List ℕ)) : Type 0 where
  pub script : Script
  pub read : IsRead profile script left left'
  pub less : WroteLess held held' (answer script)

-- ---- faults

abbrev pub fault_of : ScriptFault → RunFault
fault_of (script.At line fault) = Refusal line fault
fault_of script.NoMemory = NoMemory

-- what a whole text comes to that is no script
abbrev pub Judges : Profile → List ℕ → RunFault → Type 0
Judges profile text (Refusal line fault) = script_for profile text ≡ Err (line, fault)
Judges profile text Input = ⊥
Judges profile text Output = ⊥
Judges profile text NoMemory = Unit {0}

-- what a text comes to whose rest can't be read
abbrev pub BreaksOff : Profile → List ℕ → RunFault → Type 0
BreaksOff profile text (Refusal line fault) = (script_for profile (settled text) ≡ Err (line, fault)) × (fault ≢ cause.NoEnd)
BreaksOff profile text Input = IsOpenFor profile text
BreaksOff profile text Output = ⊥
BreaksOff profile text NoMemory = Unit {0}
