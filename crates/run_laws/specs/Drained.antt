-- Drained ticks: those that come at an end where a take would give nothing; counted from the last command on that the end issued.
use Rattle.std.specs.Prelude.{ℕ, ◌+◌, List, [], ◌∷◌, is_none, if◌then◌else◌}
use Rattle.df1_node.specs.Node.{NodeState}
use Rattle.duplex_end.specs.End.{out_at_take}
use Rattle.duplex_line.specs.Acts.{LineEndState, LineState, Deed, Issue, Take, Deliver, Lose, Alter, Foreign, Tick, near_after}
use Rattle.duplex_line.specs.Run as duplex
use Rattle.each_once.specs.NodeHost.{node_host}
use Rattle.half_line.specs.Acts.{HalfState, MasterDeed}
use Rattle.half_line.specs.Acts as half
use Rattle.half_line.specs.Behind.{plain_node}
use Rattle.half_line.specs.Run as polled
use Rattle.half_line.specs.Steps.{UnitStep, AtMaster, AtStation, after_step}
use Rattle.half_master.specs.Master.{MasterState, is_quiet}
use Rattle.script_parts.specs.declared.script.Event.{Event}
use Rattle.script_parts.specs.declared.script.Script.{Script}
use Rattle.script_parts.specs.HalfPlayable.{is_issue}
use Rattle.script_parts.specs.Playable.{is_same_end, issues}
use Rattle.script_statement.specs.declared.who.Who.{Who}

-- ---- of an end of a full-duplex line

-- at a step of the end
abbrev pub drained_at : LineEndState → Deed → ℕ
drained_at side (Issue src dst payload) = 0
drained_at side Take = 0
drained_at side Deliver = 0
drained_at side Lose = 0
drained_at side (Alter mask) = 0
drained_at side (Foreign byte) = 0
drained_at side Tick = if is_none (out_at_take node_host side.end) then 1 else 0

abbrev pub drained_over : LineEndState → List Deed → ℕ
drained_over side [] = 0
drained_over side (deed ∷ deeds) = drained_at side deed + drained_over (near_after side deed) deeds

-- at an event, where it is of this end
abbrev pub drained_in : Who → LineState → Event → ℕ
drained_in who s e = if is_same_end who (duplex.who_of e) then drained_over (duplex.seen_from (duplex.who_of e) s).a (duplex.deeds_of e) else 0

-- since the last command of this end, with one event more
abbrev pub drained_with : Who → ℕ → LineState → Event → ℕ
drained_with who count s e = if issues who e then 0 else count + drained_in who s e

abbrev pub drained_after : Who → ℕ → LineState → List Event → ℕ
drained_after who count s [] = count
drained_after who count s (e ∷ events) = drained_after who (drained_with who count s e) (duplex.after_event s e) events

-- those of a script that came at this end since its last command
abbrev pub drained_ticks : Who → Script → ℕ
drained_ticks who script = drained_after who 0 (duplex.start script) script.events

-- ---- of the master of a half-duplex line

abbrev pub drained_at_master : MasterState NodeState → MasterDeed → ℕ
drained_at_master m (half.Issue src dst payload) = 0
drained_at_master m half.Give = 0
drained_at_master m half.Tick = if is_quiet node_host m then 1 else 0

abbrev pub drained_at_step : HalfState NodeState → UnitStep → ℕ
drained_at_step s (AtMaster deed) = drained_at_master s.master deed
drained_at_step s (AtStation place deed) = 0

abbrev pub drained_over_steps : HalfState NodeState → List UnitStep → ℕ
drained_over_steps s [] = 0
drained_over_steps s (step ∷ steps) = drained_at_step s step + drained_over_steps (after_step plain_node s step) steps

-- since the last command, with one event more
abbrev pub master_drained_with : ℕ → HalfState NodeState → Event → ℕ
master_drained_with count s e = if is_issue e then 0 else count + drained_over_steps s (polled.steps_of s e)

abbrev pub master_drained_after : ℕ → HalfState NodeState → List Event → ℕ
master_drained_after count s [] = count
master_drained_after count s (e ∷ events) = master_drained_after (master_drained_with count s e) (polled.after_event plain_node s e) events

-- those of a script that came at the master since its last command
abbrev pub drained_ticks_of_master : Script → ℕ
drained_ticks_of_master script = master_drained_after 0 (polled.start script) script.events
