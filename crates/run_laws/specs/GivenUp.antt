-- A command that the report tells as ended, while nothing of it is on its way: no later line of the report tells it as executed.
use Rattle.std.specs.Prelude.{◌≡◌, ◌≤◌, ℕ, Bool, true, false, List, ◌∷◌, ◌++◌, length, All, Contains}
use Rattle.df1_node.specs.Initiator.{Standing, Undelivered, Unanswered}
use Rattle.duplex_line.specs.Issues.{commands_of_a, commands_of_b}
use Rattle.duplex_line.specs.Run.{plan_of_a, plan_of_b, start}
use Rattle.each_once.specs.Tells.{outcomes_in}
use Rattle.half_line.specs.Issues.{commands_of_m}
use Rattle.line_world.specs.Runs.{record_of}
use Rattle.run_laws.specs.Bounds.{message_ticks}
use Rattle.run_laws.specs.Overtaking.{IsExecuted, with_events}
use Rattle.replay_report.specs.declared.record.Line.{Line}
use Rattle.replay_report.specs.declared.record.Record.{Record}
use Rattle.report_lines.specs.SentBytes.{sent_by}
use Rattle.script_parts.specs.declared.script.EndPlan.{EndPlan}
use Rattle.script_parts.specs.declared.script.Event.{Event}
use Rattle.script_parts.specs.declared.script.Event.TheVariants.{Issue, Take, Deliver, Lose, Alter, Foreign, Tick}
use Rattle.script_parts.specs.declared.script.Lane.{Lane}
use Rattle.script_parts.specs.declared.script.Script.{Script}
use Rattle.script_parts.specs.HalfPlayable.{station_plans}
use Rattle.script_statement.specs.declared.who.Who.{Who}
use Rattle.script_statement.specs.declared.who.Who.TheVariants.{A, B, M, S}
use Rattle.run_laws.specs.NotHeld.{AtTicksIn, IsDrained}

-- ---- nothing is on its way

-- the lines of the report of a script's first events
abbrev pub lines_so_far : Script → List Event → List Line
lines_so_far script front = (record_of (with_events script front)).lines

-- an event delivers or loses so many bytes of a lane, or all that are there
abbrev pub Empties : Lane → ℕ → Event → Type 0
Empties on count (Issue who src dst payload) = ⊥
Empties on count (Take who n) = ⊥
Empties on count (Deliver lane n) = (lane ≡ on) × (count ≤ n)
Empties on count (Lose lane n) = (lane ≡ on) × (count ≤ n)
Empties on count (Alter lane mask) = ⊥
Empties on count (Foreign lane bytes) = ⊥
Empties on count (Tick who n) = ⊥

-- One of these events delivers or loses as many bytes of this lane as its end had sent, by the lines up to there; and it sent none since.
pub record IsCleared (on : Lane) (script : Script) (events : List Event) : Type 0 where
  pub first : List Event
  pub clears : Event
  pub rest : List Event
  pub are : events ≡ first ++ clears ∷ rest
  pub empties : Empties on (length (sent_by on.from (lines_so_far script first))) clears
  pub none_since : sent_by on.from (lines_so_far script events) ≡ sent_by on.from (lines_so_far script first)

-- ---- what isn't executed any more

-- no command of this end that the lines before tell as ended so is told as executed by the lines after
abbrev pub NeverLater : Who → Who → (Standing → Type 0) → List (List ℕ) → List Line → List Line → Type 0
NeverLater from to EndedSo issued before after = (n : ℕ) (outcome : Standing) → Contains (outcomes_in from n before) outcome → EndedSo outcome → IsExecuted to issued after n → ⊥

-- no undelivered one; and no unanswered one, where replies may take as long as all waits of a message and each tick so far was drained
pub record OfEnd (from to : Who) (plan : EndPlan) (script : Script) (front : List Event) (issued : List (List ℕ)) (before after : List Line) : Type 0 where
  pub undelivered : NeverLater from to (λ outcome. outcome ≡ Undelivered) issued before after
  pub unanswered : message_ticks plan ≤ plan.reply_ticks → AtTicksIn IsDrained from (start script) front → NeverLater from to (λ outcome. outcome ≡ Unanswered) issued before after

-- of both ends of a full-duplex line, each where its lane is cleared
pub record OfBothEnds (script : Script) (front : List Event) (before after : List Line) : Type 0 where
  pub of_a : IsCleared (record { from = A; to = B }) script front → OfEnd A B (plan_of_a script) script front (commands_of_a script) before after
  pub of_b : IsCleared (record { from = B; to = A }) script front → OfEnd B A (plan_of_b script) script front (commands_of_b script) before after

-- at each station of a half-duplex line to which the lane is cleared, no command that ended, however it did
abbrev pub AtStations : Script → List Event → List Line → List Line → Type 0
AtStations script front before after = All (λ (plan : EndPlan). IsCleared (record { from = M; to = S plan.node }) script front → NeverLater M (S plan.node) (λ outcome. Unit {0}) (commands_of_m script) before after) (station_plans script.ends)

abbrev pub IsOverIn : Bool → Script → List Event → List Line → List Line → Type 0
IsOverIn true script front before after = AtStations script front before after
IsOverIn false script front before after = OfBothEnds script front before after

-- After whichever event a script is cut, the lines of a record are those of what stands before, and then those behind; and what ended before isn't executed behind.
pub record IsOverAfter (script : Script) (r : Record) (front : List Event) : Type 0 where
  pub after : List Line
  pub lines : r.lines ≡ lines_so_far script front ++ after
  pub over : IsOverIn script.half script front (lines_so_far script front) after

abbrev pub NothingComesLate : Script → Record → Type 0
NothingComesLate script r = (front back : List Event) → script.events ≡ front ++ back → IsOverAfter script r front
