-- Why a line or a text is refused.
use Rattle.std.specs.Prelude.{◌≡◌, ℕ, Result, Err}
use Rattle.line_script.specs.declared.fault.Cause.{Cause}
use Rattle.line_script.specs.declared.fault.LineFault.{LineFault}
use Rattle.line_script.specs.declared.fault.LineFault.TheVariants as line
use Rattle.line_script.specs.declared.fault.ScriptFault.{ScriptFault}
use Rattle.line_script.specs.declared.fault.ScriptFault.TheVariants as script

-- the fault tells the cause; want of memory says nothing
abbrev pub IsFaulty : {T : Type 0} → LineFault → Result T Cause → Type 0
IsFaulty (line.Faulty cause) read = read ≡ Err cause
IsFaulty line.NoMemory read = Unit {0}

-- the fault of a line, with the line's number
abbrev pub fault_at : ℕ → LineFault → ScriptFault
fault_at number (line.Faulty cause) = script.At number cause
fault_at number line.NoMemory = script.NoMemory

-- the fault tells the line and the cause; want of memory says nothing
abbrev pub IsRefused : {T : Type 0} → ScriptFault → Result T (ℕ × Cause) → Type 0
IsRefused (script.At number cause) read = read ≡ Err (number, cause)
IsRefused script.NoMemory read = Unit {0}
