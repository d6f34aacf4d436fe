-- Unit steps at one end, whatever the other does.
use Rattle.std.specs.Prelude.{List, [], ◌∷◌, ◌++◌}
use Rattle.script_statement.specs.declared.who.Who.{Who}
use Rattle.replay_report.specs.declared.record.Line.{Line}
use Rattle.duplex_line.specs.Acts.{LineEndState, Deed, near_after, near_lines}

-- the end after these steps
abbrev pub near_over : LineEndState → List Deed → LineEndState
near_over s [] = s
near_over s (deed ∷ deeds) = near_over (near_after s deed) deeds

-- the lines that they make at the end itself
abbrev pub near_lines_over : Who → LineEndState → List Deed → List Line
near_lines_over who s [] = []
near_lines_over who s (deed ∷ deeds) = near_lines who s deed ++ near_lines_over who (near_after s deed) deeds
