-- The status of a replay in which nothing fails.
use Rattle.std.proofs.Common.{◌≡◌, ◌⊎◌, ℕ, List, [], ◌++◌, Option, None, Some, Result, Ok, Err, refl, sym, ap, ◌∙◌, inl, inr, append-nil}
use Rattle.std.specs.Prelude.{IfErr, OnOk, IsErrOf}
use Rattle.std.specs.Io.KnownBytes.{IsAtEnd}
use Rattle.df1_base.specs.Outside.{Rose, Took}
use Rattle.line_script.specs.declared.fault.Cause.{Cause}
use Rattle.line_script.specs.ScriptText.{script_of}
use Rattle.df1_replay.specs.declared.fault.ReplayFault.{ReplayFault}
use Rattle.df1_replay.specs.declared.fault.ReplayFault.TheVariants.{Refusal, Input, Output, NoMemory}
use Rattle.df1_replay.specs.Outcome.{Answered, BrokenOff, CutOff, Refused, TellsRefusal, replayed, report_of}
use Rattle.df1_tool.specs.Replays.{status_for, status_of_replay}

-- a source that tells what is left tells what was taken
pub whole : (bytes all : List ℕ) (left left' : Option (List ℕ)) → left ≡ Some all → Took left left' bytes → (rest : List ℕ) × (left' ≡ Some rest) × (all ≡ bytes ++ rest)
whole bytes all None left' known_left took = let no : None ≡ Some all = known_left in absurd cc
whole bytes all (Some some) None known_left took = absurd took
whole bytes all (Some some) (Some rest) known_left took = let same : Some some ≡ Some all = known_left in let is : some ≡ all = cc in (rest, refl, sym is ∙ took)

pub at_end : (left' : Option (List ℕ)) (rest : List ℕ) → left' ≡ Some rest → IsAtEnd left' → rest ≡ []
at_end left' rest is end = rw is at end

answered_by : (all text : List ℕ) → replayed all ≡ Some text → status_for all ≡ 0
answered_by all text some = rw some refl

refused_by : (all : List ℕ) → replayed all ≡ None → status_for all ≡ 3
refused_by all none = rw none refl

answered_status : (all : List ℕ) (left left' held held' : Option (List ℕ)) → left ≡ Some all → Answered replayed left left' held held' → status_for all ≡ 0
answered_status all left left' held held' known_left a =
    let w = whole a.input all left left' known_left a.took in
    let nothing : w.0 ≡ [] = at_end left' w.0 w.1 a.end in
    let same : all ≡ a.input = w.2 ∙ rw nothing (append-nil a.input) in
    answered_by all a.text (ap replayed same ∙ a.answered)

refused_status : (all : List ℕ) (left left' held held' : Option (List ℕ)) (faults faults' line : ℕ) (fault : Cause) → left ≡ Some all → Refused left left' held held' faults faults' line fault → status_for all ≡ 3
refused_status all left left' held held' faults faults' line fault known_left r =
    let w = whole r.bytes all left left' known_left r.took in
    refused_by all (ap report_of (ap script_of w.2 ∙ r.refused w.0 (at_end left' w.0 w.1)))

-- the status of a replay that ended so
abbrev pub status_of : Result (Unit {0}) ReplayFault → ℕ
status_of (Ok done) = 0
status_of (Err fault) = status_of_replay fault

-- what is known of how a replay ended
pub record Ended (left left' held held' : Option (List ℕ)) (input input' output output' : ℕ) (ended : Result (Unit {0}) ReplayFault) : Type 0 where
  pub done : OnOk ended (Answered replayed left left' held held')
  pub refusal : IfErr ended (TellsRefusal (Refused left left' held held' input input'))
  pub failed_input : IsErrOf ended Input → BrokenOff left left' held held' input input'
  pub failed_output : IsErrOf ended Output → Rose output output' × (input' ≡ input) × CutOff left left' held held'

pub exact_status : (all : List ℕ) (left left' held held' : Option (List ℕ)) (input input' output output' : ℕ) (ended : Result (Unit {0}) ReplayFault) → Ended left left' held held' input input' output output' ended
    → (Rose input input' → ⊥) → (Rose output output' → ⊥) → left ≡ Some all → (status_of ended ≡ status_for all) ⊎ (status_of ended ≡ 7)
exact_status all left left' held held' input input' output output' (Ok done) e no_input no_output known_left = inl (sym (answered_status all left left' held held' known_left e.done))
exact_status all left left' held held' input input' output output' (Err (Refusal line fault)) e no_input no_output known_left =
    inl (sym (refused_status all left left' held held' input input' line fault known_left e.refusal))
exact_status all left left' held held' input input' output output' (Err Input) e no_input no_output known_left = absurd (no_input (e.failed_input refl).rose)
exact_status all left left' held held' input input' output output' (Err Output) e no_input no_output known_left = absurd (no_output (e.failed_output refl).0)
exact_status all left left' held held' input input' output output' (Err NoMemory) e no_input no_output known_left = inr refl
