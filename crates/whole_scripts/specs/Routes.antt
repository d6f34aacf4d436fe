-- What the run of a route has to tell, and what holds of it.
use Rattle.std.specs.Prelude.{◌≡◌, ℕ, List}
use Rattle.half_route.specs.Once.{RoutedOnce}
use Rattle.half_route.specs.Run.{route_of}
use Rattle.replay_report.specs.Report.{report}
use Rattle.script_parts.specs.declared.script.Script.{Script}

-- the report of the run
abbrev pub route_text : Script → List ℕ
route_text script = report (route_of script)

-- where no end was deceived, each command once, and replies are what was answered
abbrev pub HasRouted : Script → Type 0
HasRouted script = (route_of script).deceived ≡ 0 → RoutedOnce script (route_of script)
