-- Each step of an undisturbed run leaves it such, whether something is under way after it or not.
use Rattle.std.proofs.Common.{◌≡◌, ◌∙◌, ℕ, ◌+◌, ◌<◌, ◌≤◌, Bool, true, false, List, [], ◌∷◌, ◌++◌, Option, Some, None, refl, ap, sym, subst, append-nil, append_assoc, arith}
use Rattle.df1_base.specs.HostAnswers.{host_told}
use Rattle.std.specs.Prelude.{IsTrue, slice_get, if◌then◌else◌}
use Rattle.df1_node.specs.Node.{NodeState}
use Rattle.half_master.specs.declared.MasterSetup.{MasterSetup}
use Rattle.half_frame.specs.MasterStanding.{Listening}
use Rattle.half_master.specs.Emission.{Tick as TickLetter, Take as TakeLetter}
use Rattle.half_master.specs.Master.{MasterState, with_host, effect_at_tick, fate_of, host_ticked, master_after_tick}
use Rattle.half_master.proofs.EarLemmas.{take-ear, performed-ear}
use Rattle.half_master.proofs.Runs.{signal-setup}
use Rattle.script_statement.specs.Statements.{is_payload}
use Rattle.script_parts.specs.HalfPlayable.{is_declared}
use Rattle.replay_report.specs.declared.record.Line.{Line}
use Rattle.each_once.specs.NodeHost.{node_host}
use Rattle.half_line.specs.Behind.{plain_node}
use Rattle.half_line.specs.Acts.{LineStationState, HalfState, LinkDeed, Issue, Give, Tick, after_master_deed}
use Rattle.half_line.specs.Prompt.{is_quiet, ticks_of, late_after, patience, IsGentleWith, IsGentle, late_over, IsPromptOver}
use Rattle.half_line.specs.Steps.{UnitStep, AtMaster, AtStation, after_with, after_step, lines_with, lines_at, after_steps, lines_over}
use Rattle.half_line.proofs.Once.MasterSteps.{holds-issue}
use Rattle.half_line.proofs.Once.WholeRun.{Kept, IsPlain, ArePlain, kept-plain}
use Rattle.half_line.proofs.Complete.StagePlaces.{stage-quiet}
use Rattle.half_line.proofs.Complete.Invariant.{Flow}
use Rattle.half_line.proofs.Complete.Origin.{Origin}
use Rattle.half_line.proofs.Complete.LineFacts.{AreShort, Known, known}
use Rattle.half_line.proofs.Complete.LinkStep.{flow-link}
use Rattle.half_line.proofs.Complete.MasterStep.{course-issue, course-give}
use Rattle.half_line.proofs.Complete.TickStep.{course-tick}

-- ---- how many ticks were late

-- where the line is quiet none counts
flow-quiet : (origin : Origin) (s : HalfState NodeState) (late other : ℕ) (lines : List Line) → is_quiet s ≡ true → Flow origin s late lines → Flow origin s other lines
flow-quiet origin s late other lines quiet f =
    let c = f.course in
    record {
      course = record { now = c.now; stage = stage-quiet late other s c.now quiet c.stage; ledger = c.ledger };
      check = f.check;
      honest = f.honest;
    }

counted : (origin : Origin) (s : HalfState NodeState) (late : ℕ) (lines : List Line) (quiet : Bool) → is_quiet s ≡ quiet → Flow origin s late lines → Flow origin s (if quiet then 0 else late) lines
counted origin s late lines true is f = flow-quiet origin s late 0 lines is f
counted origin s late lines false is f = f

still-late : (late n : ℕ) (quiet : Bool) → n ≡ 0 → (if quiet then late else late + n) ≡ late
still-late late n true none = refl
still-late late n false none = omega (arith, none)

-- a step that is no tick leaves the late ones as they are
stepped : (origin : Origin) (s : HalfState NodeState) (late : ℕ) (lines : List Line) (step : UnitStep) → ticks_of step ≡ 0 → Flow origin (after_step plain_node s step) late lines → Flow origin (after_step plain_node s step) (late_after late s step) lines
stepped origin s late lines step none f =
    counted origin (after_step plain_node s step) (if is_quiet s then late else late + ticks_of step) lines (is_quiet (after_step plain_node s step)) refl
    (subst (λ (n : ℕ). Flow origin (after_step plain_node s step) n lines) (sym (still-late late (ticks_of step) (is_quiet s) none)) f)

-- ---- at the master

tick-ear : (m : MasterState NodeState) → (master_after_tick node_host m).ear ≡ m.ear
tick-ear m = let what = effect_at_tick node_host m in performed-ear (with_host m (host_told node_host (fate_of what) (host_ticked node_host what m.host))) what

flow-issue : (origin : Origin) (s : HalfState NodeState) (late : ℕ) (lines : List Line) (src : Option ℕ) (dst : ℕ) (payload : List ℕ) → IsTrue (is_payload payload) → is_declared origin.setting.numbers dst ≡ true → Flow origin s late lines → Flow origin (after_master_deed plain_node s (Issue src dst payload)) late lines
flow-issue origin s late lines src dst payload may is f = record {
  course = course-issue origin s.master s.stations late lines src dst payload may is f.course;
  check = f.check;
  honest = f.honest;
}

flow-give : (origin : Origin) (s : HalfState NodeState) (late : ℕ) (lines : List Line) → Known origin s.master s.stations lines → Flow origin s late lines → Flow origin (after_master_deed plain_node s Give) late lines
flow-give origin s late lines k f =
    let m = s.master in
    record {
      course = course-give origin m s.stations late lines k f.check f.course;
      check = ap (λ (setup : MasterSetup). setup.check) (signal-setup node_host m TakeLetter) ∙ f.check ∙ sym (ap (λ (ear : Listening). ear.check) (take-ear node_host m));
      honest = f.honest;
    }

flow-tick : (origin : Origin) (s : HalfState NodeState) (late : ℕ) (lines : List Line) → Known origin s.master s.stations lines → late_after late s (AtMaster Tick) < patience (after_master_deed plain_node s Tick) → Flow origin s late lines
    → Flow origin (after_master_deed plain_node s Tick) (late_after late s (AtMaster Tick)) (lines ++ lines_at plain_node s (AtMaster Tick))
flow-tick origin s late lines k patient f =
    let m = s.master in
    record {
      course = course-tick origin s late lines k patient f.course;
      check = ap (λ (setup : MasterSetup). setup.check) (signal-setup node_host m TickLetter) ∙ f.check ∙ sym (ap (λ (ear : Listening). ear.check) (tick-ear m));
      honest = f.honest;
    }

-- ---- anywhere

flow-with : (origin : Origin) (s : HalfState NodeState) (late : ℕ) (lines : List Line) (place : ℕ) (deed : LinkDeed) (o : Option LineStationState) → slice_get s.stations place ≡ o → IsGentleWith deed o → Known origin s.master s.stations lines → Flow origin s late lines
    → Flow origin (after_with plain_node s place deed o) late (lines ++ lines_with plain_node s deed o)
flow-with origin s late lines place deed None at gentle k f = subst (λ (all : List Line). Flow origin s late all) (sym (append-nil lines)) f
flow-with origin s late lines place deed (Some side) at gentle k f = flow-link origin s late lines place side deed gentle (record { known = k; is_at = at }) f

flow-step : (origin : Origin) (s : HalfState NodeState) (late : ℕ) (lines : List Line) (step : UnitStep) → IsPlain step → Known origin s.master s.stations lines → IsGentle s step → late_after late s step < patience (after_step plain_node s step) → Flow origin s late lines
    → Flow origin (after_step plain_node s step) (late_after late s step) (lines ++ lines_at plain_node s step)
flow-step origin s late lines (AtMaster (Issue src dst payload)) plain k gentle patient f = absurd plain
flow-step origin s late lines (AtMaster Give) plain k gentle patient f =
    stepped origin s late (lines ++ []) (AtMaster Give) refl (subst (λ (all : List Line). Flow origin (after_master_deed plain_node s Give) late all) (sym (append-nil lines)) (flow-give origin s late lines k f))
flow-step origin s late lines (AtMaster Tick) plain k gentle patient f = flow-tick origin s late lines k patient f
flow-step origin s late lines (AtStation place deed) plain k gentle patient f =
    stepped origin s late (lines ++ lines_at plain_node s (AtStation place deed)) (AtStation place deed) refl (flow-with origin s late lines place deed (slice_get s.stations place) refl gentle k f)

-- ---- one step after another, with what holds in every run that deceives no end

-- of what is told from there on
pub record Along (origin : Origin) (count : ℕ) (s : HalfState NodeState) (late : ℕ) (lines : List Line) : Type 0 where
  pub kept : Kept origin.setting count s (origin.lines ++ lines)
  pub flow : Flow origin s late lines

known-along : (origin : Origin) (count : ℕ) (s : HalfState NodeState) (late : ℕ) (lines : List Line) → count ≤ 65535 → AreShort origin.setting → Along origin count s late lines → Known origin s.master s.stations lines
known-along origin count s late lines few short a = known origin count s lines few short (a.kept a.flow.honest)

-- more is told
pub kept-more : (origin : Origin) (count : ℕ) (s : HalfState NodeState) (lines more : List Line) → Kept origin.setting count s ((origin.lines ++ lines) ++ more) → Kept origin.setting count s (origin.lines ++ (lines ++ more))
kept-more origin count s lines more = subst (λ (all : List Line). Kept origin.setting count s all) (append_assoc origin.lines lines more)

pub along-steps : (origin : Origin) (count : ℕ) (steps : List UnitStep) → ArePlain steps → count ≤ 65535 → AreShort origin.setting → (s : HalfState NodeState) (late : ℕ) (lines : List Line) → IsPromptOver late s steps → Along origin count s late lines
    → Along origin count (after_steps plain_node s steps) (late_over late s steps) (lines ++ lines_over plain_node s steps)
along-steps origin count [] plain few short s late lines prompt a = subst (λ (all : List Line). Along origin count s late all) (sym (append-nil lines)) a
along-steps origin count (step ∷ steps) plain few short s late lines prompt a =
    let k = known-along origin count s late lines few short a in
    let now = after_step plain_node s step in
    let one : Along origin count now (late_after late s step) (lines ++ lines_at plain_node s step) = record {
      kept = kept-more origin count now lines (lines_at plain_node s step) (kept-plain origin.setting count step plain.0 s (origin.lines ++ lines) few a.kept);
      flow = flow-step origin s late lines step plain.0 k prompt.0 prompt.1 a.flow;
    } in
    subst (λ (all : List Line). Along origin count (after_steps plain_node now steps) (late_over (late_after late s step) now steps) all) (append_assoc lines (lines_at plain_node s step) (lines_over plain_node now steps))
    (along-steps origin count steps plain.1 few short now (late_after late s step) (lines ++ lines_at plain_node s step) prompt.2 one)

-- a command is issued
pub along-issue : (origin : Origin) (count : ℕ) (s : HalfState NodeState) (late : ℕ) (lines : List Line) (src : Option ℕ) (dst : ℕ) (payload : List ℕ) → IsTrue (is_payload payload) → is_declared origin.setting.numbers dst ≡ true → count < 65535 → Along origin count s late lines
    → Along origin (count + 1) (after_master_deed plain_node s (Issue src dst payload)) (late_after late s (AtMaster (Issue src dst payload))) lines
along-issue origin count s late lines src dst payload may is few a = record {
  kept = λ none. holds-issue origin.setting count s src dst payload (origin.lines ++ lines) may few (a.kept a.flow.honest);
  flow = stepped origin s late lines (AtMaster (Issue src dst payload)) refl (flow-issue origin s late lines src dst payload may is a.flow);
}
