-- What a run shows that reads a script whole, by how it ended.
use Rattle.std.proofs.Common.{◌≡◌, ◌∙◌, ℕ, List, ◌++◌, Option, Some, Result, Ok, Err, refl, sym, ap, inl, inr, arith, append-nil}
use Rattle.std.specs.Prelude.{◌≢◌, IfErr, IsErrOf, OnOk}
use Rattle.df1_base.specs.Outside.{Rose}
use Rattle.line_script.specs.declared.fault.Cause.{Cause}
use Rattle.line_script.specs.declared.profile.Profile.{Profile}
use Rattle.line_script.specs.ScriptText.{script_for}
use Rattle.script_parts.specs.declared.script.Script.{Script}
use Rattle.whole_scripts.specs.Whole.{BrokenOff, IsAnswered, IsCut, IsRead, Refused, TellsRefusal, TookFew}
use Rattle.whole_scripts.specs.declared.fault.RunFault.{RunFault}
use Rattle.whole_scripts.specs.declared.fault.RunFault.TheVariants.{Refusal, Input, Output, NoMemory}
use Rattle.df1_tool.specs.Captures.{IsWithoutNote, Streams}
use Rattle.df1_tool.specs.Scripts.{Notes, ScriptRun, note_of_run, status_of_run, status_of_script}
use Rattle.df1_tool.proofs.Statuses.{at_end, whole}

abbrev Ending : Type 0
Ending = Result (Unit {0}) RunFault

-- the status of a run that ended so, and its note
abbrev pub Told : Streams → Streams → ℕ → Ending → Type 0
Told before after status (Ok done) = (status ≡ 0) × IsWithoutNote before after
Told before after status (Err why) = (status ≡ status_of_run why) × Notes before after (note_of_run why)

-- what is known of a run that ended so
pub record Ended (profile : Profile) (answer : Script → List ℕ) (Holds : Script → Type 0) (before after : Streams) (ending : Ending) : Type 0 where
  pub done : OnOk ending (IsAnswered profile answer Holds before.left after.left before.held after.held)
  pub calm : OnOk ending (after.input_faults ≡ before.input_faults)
  pub refusal : IfErr ending (TellsRefusal (Refused profile before.left after.left))
  pub input : IsErrOf ending Input → BrokenOff profile before.left after.left before.input_faults after.input_faults
  pub output : IsErrOf ending Output → Rose before.out_faults after.out_faults × (after.input_faults ≡ before.input_faults) × IsCut profile answer before.left after.left before.held after.held
  pub taken : TookFew before.left after.left
  pub unwritten : IfErr ending (λ why. why ≢ Output → after.out_faults ≡ before.out_faults)
  pub steady : OnOk ending (after.out_faults ≡ before.out_faults)

-- ---- the status of what an input says

read-status : (profile : Profile) (script : Script) (left left' : Option (List ℕ)) (all : List ℕ) → left ≡ Some all → IsRead profile script left left' → status_of_script (script_for profile all) ≡ 0
read-status profile script left left' all known r =
    let w = whole r.input all left left' known r.took in
    ap (λ bytes. status_of_script (script_for profile bytes)) (w.2 ∙ ap (λ rest. r.input ++ rest) (at_end left' w.0 w.1 r.end))
    ∙ ap (λ bytes. status_of_script (script_for profile bytes)) (append-nil r.input)
    ∙ ap status_of_script r.reads

refused-status : (profile : Profile) (left left' : Option (List ℕ)) (line : ℕ) (cause : Cause) (all : List ℕ) → left ≡ Some all → Refused profile left left' line cause → status_of_script (script_for profile all) ≡ 3
refused-status profile left left' line cause all known r =
    let w = whole r.bytes all left left' known r.took in
    ap (λ bytes. status_of_script (script_for profile bytes)) w.2 ∙ ap status_of_script (r.refused w.0 (at_end left' w.0 w.1))

-- ---- by how it ended

pub run-ended : (profile : Profile) (answer : Script → List ℕ) (Holds : Script → Type 0) (before after : Streams) (status : ℕ) (ending : Ending) → Told before after status ending
    → Ended profile answer Holds before after ending → ScriptRun profile answer Holds before after status
run-ended profile answer Holds before after status (Ok done) (is, silent) e = record {
  statuses = inl is;
  done = λ at. (e.done, e.calm, silent);
  refused = λ at. absurd (omega (arith, is, at));
  broken = λ at. absurd (omega (arith, is, at));
  cut = λ at. absurd (omega (arith, is, at));
  wanting = λ at. absurd (omega (arith, is, at));
  steady = λ at. e.steady;
  taken = e.taken;
  exact = λ all known no_input no_output. inl (is ∙ sym (read-status profile e.done.script before.left after.left all known e.done.read));
}
run-ended profile answer Holds before after status (Err (Refusal line cause)) (is, told) e = record {
  statuses = inr (inl is);
  done = λ at. absurd (omega (arith, is, at));
  refused = λ at. (line, cause, e.refusal, told);
  broken = λ at. absurd (omega (arith, is, at));
  cut = λ at. absurd (omega (arith, is, at));
  wanting = λ at. absurd (omega (arith, is, at));
  steady = λ at. e.unwritten (λ same. cc);
  taken = e.taken;
  exact = λ all known no_input no_output. inl (is ∙ sym (refused-status profile before.left after.left line cause all known e.refusal));
}
run-ended profile answer Holds before after status (Err Input) (is, told) e = record {
  statuses = inr (inr (inl is));
  done = λ at. absurd (omega (arith, is, at));
  refused = λ at. absurd (omega (arith, is, at));
  broken = λ at. (e.input refl, told);
  cut = λ at. absurd (omega (arith, is, at));
  wanting = λ at. absurd (omega (arith, is, at));
  steady = λ at. e.unwritten (λ same. cc);
  taken = e.taken;
  exact = λ all known no_input no_output. absurd (no_input (e.input refl).rose);
}
run-ended profile answer Holds before after status (Err Output) (is, told) e = record {
  statuses = inr (inr (inr (inl is)));
  done = λ at. absurd (omega (arith, is, at));
  refused = λ at. absurd (omega (arith, is, at));
  broken = λ at. absurd (omega (arith, is, at));
  cut = λ at. ((e.output refl).0, (e.output refl).1, (e.output refl).2, told);
  wanting = λ at. absurd (omega (arith, is, at));
  steady = λ at. absurd (at is);
  taken = e.taken;
  exact = λ all known no_input no_output. absurd (no_output (e.output refl).0);
}
run-ended profile answer Holds before after status (Err NoMemory) (is, told) e = record {
  statuses = inr (inr (inr (inr is)));
  done = λ at. absurd (omega (arith, is, at));
  refused = λ at. absurd (omega (arith, is, at));
  broken = λ at. absurd (omega (arith, is, at));
  cut = λ at. absurd (omega (arith, is, at));
  wanting = λ at. told;
  steady = λ at. e.unwritten (λ same. cc);
  taken = e.taken;
  exact = λ all known no_input no_output. inr is;
}

-- what isn't the output's fault left it
pub not-output : (why : RunFault) (status : ℕ) → status ≡ status_of_run why → status ≢ 5 → why ≢ Output
not-output why status is other same = other (is ∙ ap status_of_run same)
