-- The line of a drill or a storm, and how writing it ends.
use Rattle.std.specs.Prelude.{◌≡◌, ℕ, List, Option, Result, Ok, Err}
use Rattle.df1_base.specs.Outside.{Rose, Put, WroteLess}
use Rattle.script_parts.specs.declared.script.Script.{Script}
use Rattle.df1_drill.specs.Storm.{storm_script}
use Rattle.df1_drill.specs.Drill.{drill_script}
use Rattle.df1_drill.specs.Tally.{line_of, run_tally}
use Rattle.df1_drill.specs.declared.telling.DrillFault.{DrillFault}
use Rattle.df1_drill.specs.declared.telling.DrillFault.TheVariants as fault

-- the line for the run of a script
abbrev pub run_line : Script → List ℕ
run_line script = line_of (run_tally script)

-- of the drill's script, and of the storm's
abbrev pub drill_line : ℕ → ℕ → List ℕ
drill_line seed count = run_line (drill_script seed count)

abbrev pub storm_line : ℕ → ℕ → List ℕ
storm_line seed count = run_line (storm_script seed count)

-- the line is written; or the output failed, and a first part of it is written, not all; or there was no memory, and nothing is
abbrev pub LineWritten : (line : List ℕ) (held held' : Option (List ℕ)) (faults faults' : ℕ) → Result (Unit {0}) DrillFault → Type 0
LineWritten line held held' faults faults' (Ok done) = Put held held' line × (faults' ≡ faults)
LineWritten line held held' faults faults' (Err fault.Output) = WroteLess held held' line × Rose faults faults'
LineWritten line held held' faults faults' (Err fault.NoMemory) = (held' ≡ held) × (faults' ≡ faults)
