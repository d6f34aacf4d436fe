-- What a plan's end gives over the signals of an input.
use Rattle.std.specs.Prelude.{◌≡◌, ◌≤◌, ◌+◌, ℕ, Bool, false, List, [], ◌∷◌, ◌++◌, length, nat_lt, ◌&&◌, Option, if◌then◌else◌}
use Rattle.std.specs.Io.KnownBytes.{IsAtEnd}
use Rattle.df1_base.specs.Outside.{Took}
use Rattle.df1_base.specs.Feed.{due}
use Rattle.df1_base.specs.Signals.{input_limit, input_signals}
use Rattle.df1_base.specs.declared.signal.Signal.{Signal}
use Rattle.df1_base.specs.declared.signal.Signal.TheVariants.{End, Bad}
use Rattle.df1_shelf.specs.Shelves.{Filed}
use Rattle.df1_node.specs.Node.{NodeState}
use Rattle.duplex_end.specs.End.{EndState, new_end}
use Rattle.duplex_end.specs.Serving.{Serves, BreaksOff}
use Rattle.df1_plan.specs.declared.plan.Plan.{Plan}
use Rattle.each_once.specs.NodeHost.{node_host}
use Rattle.outset.specs.Outset.{first_node, setup_of}
use Rattle.df1_service.specs.Plans.{SaysPlan}
use Rattle.df1_service.specs.Service.{Commands, after_commands}
use Rattle.df1_service.specs.declared.fault.ServiceFault.{ServiceFault}
use Rattle.df1_service.specs.declared.fault.ServiceFault.TheVariants as fault

-- the node of a plan before the first signal
abbrev pub outset_node : Commands → Plan → NodeState
outset_node issues plan = after_commands issues plan (first_node plan.end)

-- the end of a plan before the first signal
abbrev pub outset_end : Commands → Plan → EndState NodeState
outset_end issues plan = new_end (setup_of plan.check plan.end) (outset_node issues plan)

-- this is so of the end of a plan that the file says
abbrev pub OfPlan : Option Filed → Commands → (EndState NodeState → Type 0) → Type 0
OfPlan file issues P = (plan : Plan) × SaysPlan file plan × P (outset_end issues plan)

-- of these bytes the first are gone: whatever follows, the input's signals are these, and then those of the rest
pub record Gives (timed : Bool) (bytes : List ℕ) (signals : List Signal) (drains : Bool) (rest : List ℕ) : Type 0 where
  pub gone : List ℕ
  pub bytes_are : bytes ≡ gone ++ rest
  pub gives : (later : List ℕ) → input_signals timed 0 (bytes ++ later) ≡ signals ++ due drains ++ input_signals timed (length gone) (rest ++ later)

-- The signals before this last one were served: all that the end gave over them is put. The bytes that were taken show that it is
-- the last, whatever may follow them; at the end of the input nothing does.
pub record Reached (timed : Bool) (before : EndState NodeState) (last : Signal) (left left' held held' : Option (List ℕ)) : Type 0 where
  pub bytes : List ℕ
  pub took : Took left left' bytes
  pub signals : List Signal
  pub shown : (later : List ℕ) → (IsAtEnd left' → later ≡ []) → input_signals timed 0 (bytes ++ later) ≡ signals ++ last ∷ []
  pub after : EndState NodeState
  pub served : Serves node_host before signals after held held'

-- the input was read to its end, and the end is as the whole service leaves it
abbrev pub IsServed : Bool → EndState NodeState → EndState NodeState → Option (List ℕ) → Option (List ℕ) → Option (List ℕ) → Option (List ℕ) → Type 0
IsServed timed before after left left' held held' = (reached : Reached timed before End left left' held held') × (after ≡ reached.after) × IsAtEnd left'

-- the record at this offset has two bytes and none of the forms
abbrev pub HasNoForm : Bool → EndState NodeState → ℕ → Option (List ℕ) → Option (List ℕ) → Option (List ℕ) → Option (List ℕ) → Type 0
HasNoForm timed before at left left' held held' = (reached : Reached timed before (Bad at) left left' held held') × (at + 2 ≤ length reached.bytes)

-- the record at this offset is a single last byte
abbrev pub IsCut : Bool → EndState NodeState → ℕ → Option (List ℕ) → Option (List ℕ) → Option (List ℕ) → Option (List ℕ) → Type 0
IsCut timed before at left left' held held' = (reached : Reached timed before (Bad at) left left' held held') × (length reached.bytes ≡ at + 1) × IsAtEnd left'

-- A read has failed: all signals of the bytes that were taken were served, and the last of these bytes make none. It is one at
-- most, the first of a record that is still within the limit.
pub record StoppedByInput (timed : Bool) (before : EndState NodeState) (left left' held held' : Option (List ℕ)) : Type 0 where
  pub bytes : List ℕ
  pub took : Took left left' bytes
  pub signals : List Signal
  pub rest : List ℕ
  pub gives : Gives timed bytes signals false rest
  pub few : length rest ≤ (if timed && nat_lt (length gives.gone) input_limit then 1 else 0)
  pub after : EndState NodeState
  pub served : Serves node_host before signals after held held'

-- The output has failed: at most 4,096 bytes were taken beyond those whose signals were served, and of what the end gave at the
-- last of these a part is put, and not all.
pub record StoppedByOutput (timed : Bool) (before : EndState NodeState) (left left' held held' : Option (List ℕ)) : Type 0 where
  pub bytes : List ℕ
  pub took : Took left left' bytes
  pub signals : List Signal
  pub last : Signal
  pub drains : Bool
  pub rest : List ℕ
  pub gives : Gives timed bytes (signals ++ last ∷ []) drains rest
  pub few : length rest ≤ 4096
  pub after : EndState NodeState
  pub broke : BreaksOff node_host before signals last after held held'

-- where a record is refused: which, and whether it has two bytes or is a single last one
abbrev pub TellsRecord : (ℕ → Type 0) → (ℕ → Type 0) → ServiceFault → Type 0
TellsRecord Formless Cut fault.PlanFailed = Unit {0}
TellsRecord Formless Cut fault.PlanTooLong = Unit {0}
TellsRecord Formless Cut (fault.Plan cause) = Unit {0}
TellsRecord Formless Cut (fault.Form at) = Formless at
TellsRecord Formless Cut (fault.Cut at) = Cut at
TellsRecord Formless Cut fault.Input = Unit {0}
TellsRecord Formless Cut fault.Output = Unit {0}
TellsRecord Formless Cut fault.TooLong = Unit {0}
TellsRecord Formless Cut fault.NoMemory = Unit {0}
