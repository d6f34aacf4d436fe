-- What a run of `serve`, `issue`, `pull` or `push` shows, by how the service ended.
use Rattle.std.proofs.Common.{◌≡◌, ◌⊎◌, ◌∙◌, ◌≤◌, ℕ, Bool, true, false, List, [], ◌∷◌, ◌++◌, length, Option, None, Some, Result, Ok, Err, inl, inr, refl, sym, ap, subst, arith}
use Rattle.std.specs.Prelude.{IfOk, IfErr, IsErrOf}
use Rattle.std.specs.Str.{IsUtf8}
use Rattle.df1_base.specs.Outside.{Rose}
use Rattle.df1_base.specs.Signals.{input_signals}
use Rattle.df1_base.specs.declared.signal.Signal.{Signal}
use Rattle.df1_base.specs.declared.signal.Signal.TheVariants.{End, Bad, Long}
use Rattle.df1_shelf.specs.Shelves.{Filed, IsLonger, is_sound}
use Rattle.df1_node.specs.Node.{NodeState}
use Rattle.duplex_end.specs.End.{EndState}
use Rattle.toml.specs.Data.{Members}
use Rattle.toml.specs.Parse.{parse_document}
use Rattle.df1_plan.specs.declared.plan.Plan.{Plan}
use Rattle.df1_plan.specs.declared.fault.PlanFault.{PlanFault}
use Rattle.df1_plan.specs.Plans.{IsPlanOfText, cause_of, first_cause}
use Rattle.df1_service.specs.Plans.{IsOfPlan, SaysNone, TellsNone, plan_limit}
use Rattle.df1_service.specs.Wire.{HasNoForm, IsCut, IsServed, OfPlan, Reached, StoppedByInput, StoppedByOutput, TellsRecord}
use Rattle.df1_service.specs.Service.{Serving}
use Rattle.df1_service.specs.declared.fault.ServiceFault.{ServiceFault}
use Rattle.df1_service.specs.declared.fault.ServiceFault.TheVariants as fault
use Rattle.df1_tool.specs.Served.{IsFinished, Outside, ServiceRun, IsUntouched, Notes, note_of_fault, told_of, status_of_fault}
use Rattle.df1_tool.specs.Notes.{IsNoted}
use Rattle.df1_tool.proofs.Statuses.{whole, at_end}

-- what a service that didn't end well tells
pub record Faulted (service : Serving) (name : List ℕ) (before after : Outside) (why : ServiceFault) : Type 0 where
  pub none : TellsNone (SaysNone (before.files name)) why
  pub too_long : why ≡ fault.PlanTooLong → IsLonger (before.files name) plan_limit
  pub failed : why ≡ fault.PlanFailed → Rose before.shelf_faults after.shelf_faults
  pub sound : is_sound (before.files name) ≡ true → why ≡ fault.PlanFailed → ⊥
  pub untouched : IsOfPlan why → IsUntouched before after
  pub record_is : TellsRecord
      (λ at. OfPlan (before.files name) service.issues (λ begun. HasNoForm service.timed begun at before.left after.left before.held after.held))
      (λ at. OfPlan (before.files name) service.issues (λ begun. IsCut service.timed begun at before.left after.left before.held after.held)) why
  pub long : why ≡ fault.TooLong → OfPlan (before.files name) service.issues (λ begun. Reached service.timed begun Long before.left after.left before.held after.held)
  pub broken : why ≡ fault.Input → Rose before.input_faults after.input_faults × OfPlan (before.files name) service.issues (λ begun. StoppedByInput service.timed begun before.left after.left before.held after.held)
  pub cut : why ≡ fault.Output → Rose before.out_faults after.out_faults × OfPlan (before.files name) service.issues (λ begun. StoppedByOutput service.timed begun before.left after.left before.held after.held)
  pub calm : (why ≡ fault.Input → ⊥) → after.input_faults ≡ before.input_faults
  pub steady : (why ≡ fault.Output → ⊥) → after.out_faults ≡ before.out_faults
  pub shelf_calm : (why ≡ fault.PlanFailed → ⊥) → after.shelf_faults ≡ before.shelf_faults
  pub same_files : (other : List ℕ) → after.files other ≡ before.files other
  pub noted : Notes before after why

-- the same, where it ended well
pub record Finished (service : Serving) (name : List ℕ) (before after : Outside) (ended : EndState NodeState) (status : ℕ) : Type 0 where
  pub served : OfPlan (before.files name) service.issues (λ begun. IsServed service.timed begun ended before.left after.left before.held after.held)
  pub finish : IsFinished before.noted after.noted before.note_faults after.note_faults (told_of service.issues ended) status
  pub calm : after.input_faults ≡ before.input_faults
  pub steady : after.out_faults ≡ before.out_faults
  pub shelf_calm : after.shelf_faults ≡ before.shelf_faults
  pub same_files : (other : List ℕ) → after.files other ≡ before.files other

-- ---- which fault has which status

not-0 : (why : ServiceFault) → status_of_fault why ≡ 0 → ⊥
not-0 fault.PlanFailed is = omega (arith, is)
not-0 fault.PlanTooLong is = omega (arith, is)
not-0 (fault.Plan reason) is = omega (arith, is)
not-0 (fault.Form at) is = omega (arith, is)
not-0 (fault.Cut at) is = omega (arith, is)
not-0 fault.Input is = omega (arith, is)
not-0 fault.Output is = omega (arith, is)
not-0 fault.TooLong is = omega (arith, is)
not-0 fault.NoMemory is = omega (arith, is)

only-4 : (why : ServiceFault) → status_of_fault why ≡ 4 → why ≡ fault.Input
only-4 fault.PlanFailed is = absurd (omega (arith, is))
only-4 fault.PlanTooLong is = absurd (omega (arith, is))
only-4 (fault.Plan reason) is = absurd (omega (arith, is))
only-4 (fault.Form at) is = absurd (omega (arith, is))
only-4 (fault.Cut at) is = absurd (omega (arith, is))
only-4 fault.Input is = refl
only-4 fault.Output is = absurd (omega (arith, is))
only-4 fault.TooLong is = absurd (omega (arith, is))
only-4 fault.NoMemory is = absurd (omega (arith, is))

only-5 : (why : ServiceFault) → status_of_fault why ≡ 5 → why ≡ fault.Output
only-5 fault.PlanFailed is = absurd (omega (arith, is))
only-5 fault.PlanTooLong is = absurd (omega (arith, is))
only-5 (fault.Plan reason) is = absurd (omega (arith, is))
only-5 (fault.Form at) is = absurd (omega (arith, is))
only-5 (fault.Cut at) is = absurd (omega (arith, is))
only-5 fault.Input is = absurd (omega (arith, is))
only-5 fault.Output is = refl
only-5 fault.TooLong is = absurd (omega (arith, is))
only-5 fault.NoMemory is = absurd (omega (arith, is))

only-7 : (why : ServiceFault) → status_of_fault why ≡ 7 → why ≡ fault.NoMemory
only-7 fault.PlanFailed is = absurd (omega (arith, is))
only-7 fault.PlanTooLong is = absurd (omega (arith, is))
only-7 (fault.Plan reason) is = absurd (omega (arith, is))
only-7 (fault.Form at) is = absurd (omega (arith, is))
only-7 (fault.Cut at) is = absurd (omega (arith, is))
only-7 fault.Input is = absurd (omega (arith, is))
only-7 fault.Output is = absurd (omega (arith, is))
only-7 fault.TooLong is = absurd (omega (arith, is))
only-7 fault.NoMemory is = refl

only-8 : (why : ServiceFault) → status_of_fault why ≡ 8 → why ≡ fault.TooLong
only-8 fault.PlanFailed is = absurd (omega (arith, is))
only-8 fault.PlanTooLong is = absurd (omega (arith, is))
only-8 (fault.Plan reason) is = absurd (omega (arith, is))
only-8 (fault.Form at) is = absurd (omega (arith, is))
only-8 (fault.Cut at) is = absurd (omega (arith, is))
only-8 fault.Input is = absurd (omega (arith, is))
only-8 fault.Output is = absurd (omega (arith, is))
only-8 fault.TooLong is = refl
only-8 fault.NoMemory is = absurd (omega (arith, is))

statuses-of : (why : ServiceFault) → (status_of_fault why ≡ 0) ⊎ (status_of_fault why ≡ 3) ⊎ (status_of_fault why ≡ 4) ⊎ (status_of_fault why ≡ 5) ⊎ (status_of_fault why ≡ 6) ⊎ (status_of_fault why ≡ 7) ⊎ (status_of_fault why ≡ 8)
statuses-of fault.PlanFailed = inr (inr (inr (inr (inl refl))))
statuses-of fault.PlanTooLong = inr (inr (inr (inr (inl refl))))
statuses-of (fault.Plan reason) = inr (inl refl)
statuses-of (fault.Form at) = inr (inl refl)
statuses-of (fault.Cut at) = inr (inl refl)
statuses-of fault.Input = inr (inr (inl refl))
statuses-of fault.Output = inr (inr (inr (inl refl)))
statuses-of fault.TooLong = inr (inr (inr (inr (inr (inr refl)))))
statuses-of fault.NoMemory = inr (inr (inr (inr (inr (inl refl)))))

refused-of : (service : Serving) (name : List ℕ) (before after : Outside) (why : ServiceFault) → Faulted service name before after why → status_of_fault why ≡ 3 →
    ((reason : PlanFault) × SaysNone (before.files name) reason × IsUntouched before after × Notes before after (fault.Plan reason))
    ⊎ ((at : ℕ) × OfPlan (before.files name) service.issues (λ begun. HasNoForm service.timed begun at before.left after.left before.held after.held) × Notes before after (fault.Form at))
    ⊎ ((at : ℕ) × OfPlan (before.files name) service.issues (λ begun. IsCut service.timed begun at before.left after.left before.held after.held) × Notes before after (fault.Cut at))
refused-of service name before after fault.PlanFailed f is = absurd (omega (arith, is))
refused-of service name before after fault.PlanTooLong f is = absurd (omega (arith, is))
refused-of service name before after (fault.Plan reason) f is = inl (reason, f.none, f.untouched tt, f.noted)
refused-of service name before after (fault.Form at) f is = inr (inl (at, f.record_is, f.noted))
refused-of service name before after (fault.Cut at) f is = inr (inr (at, f.record_is, f.noted))
refused-of service name before after fault.Input f is = absurd (omega (arith, is))
refused-of service name before after fault.Output f is = absurd (omega (arith, is))
refused-of service name before after fault.TooLong f is = absurd (omega (arith, is))
refused-of service name before after fault.NoMemory f is = absurd (omega (arith, is))

planless-of : (service : Serving) (name : List ℕ) (before after : Outside) (why : ServiceFault) → Faulted service name before after why → status_of_fault why ≡ 6 →
    (Rose before.shelf_faults after.shelf_faults × (is_sound (before.files name) ≡ true → ⊥) × Notes before after fault.PlanFailed)
    ⊎ (IsLonger (before.files name) plan_limit × Notes before after fault.PlanTooLong)
planless-of service name before after fault.PlanFailed f is = inl (f.failed refl, λ sound. f.sound sound refl, f.noted)
planless-of service name before after fault.PlanTooLong f is = inr (f.too_long refl, f.noted)
planless-of service name before after (fault.Plan reason) f is = absurd (omega (arith, is))
planless-of service name before after (fault.Form at) f is = absurd (omega (arith, is))
planless-of service name before after (fault.Cut at) f is = absurd (omega (arith, is))
planless-of service name before after fault.Input f is = absurd (omega (arith, is))
planless-of service name before after fault.Output f is = absurd (omega (arith, is))
planless-of service name before after fault.TooLong f is = absurd (omega (arith, is))
planless-of service name before after fault.NoMemory f is = absurd (omega (arith, is))

-- ---- nothing is wrong

-- a plan's text is refused for no cause
no-cause : (text : List ℕ) (plan : Plan) (reason : PlanFault) (read : Option Members) (is_plan : IsPlanOfText text plan) → parse_document text ≡ read → cause_of read ≡ Some reason → ⊥
no-cause text plan reason None is_plan is caused = let no : Some is_plan.members ≡ None = sym is_plan.document ∙ is in absurd cc
no-cause text plan reason (Some members) is_plan is caused =
    let same : Some is_plan.members ≡ Some members = sym is_plan.document ∙ is in
    let those : is_plan.members ≡ members = cc in
    let no : None ≡ Some reason = sym is_plan.none ∙ ap first_cause those ∙ caused in
    absurd cc

not-refused : (file : Option Filed) (held : Filed) (plan : Plan) (reason : PlanFault) → file ≡ Some held → IsPlanOfText held.bytes plan → SaysNone file reason → ⊥
not-refused None held plan reason is is_plan none = let no : None ≡ Some held = is in absurd cc
not-refused (Some other) held plan reason is is_plan none =
    let both : Some other ≡ Some held = is in
    let same : other ≡ held = cc in
    let text : none.text ≡ held.bytes = none.content ∙ ap (λ (f : Filed). f.bytes) same in
    let refused = none.refused in
    let utf8 = subst (λ (t : List ℕ). IsUtf8 t) (sym text) is_plan.utf8 in
    no-cause held.bytes plan reason (parse_document held.bytes) is_plan refl (ap (λ (t : List ℕ). cause_of (parse_document t)) (sym text) ∙ refused.document utf8)

not-longer : (file : Option Filed) (held : Filed) → file ≡ Some held → length held.bytes ≤ plan_limit → IsLonger file plan_limit → ⊥
not-longer None held is few longer = let no : None ≡ Some held = is in absurd cc
not-longer (Some other) held is few longer =
    let both : Some other ≡ Some held = is in
    let same : other ≡ held = cc in
    let size : length other.bytes ≡ length held.bytes = ap (λ (f : Filed). length f.bytes) same in
    omega (arith, few, longer, size)

sound-of : (file : Option Filed) (held : Filed) → file ≡ Some held → held.fails ≡ false → is_sound file ≡ true
sound-of None held is sound = let no : None ≡ Some held = is in absurd cc
sound-of (Some other) held is sound =
    let both : Some other ≡ Some held = is in
    let same : other ≡ held = cc in
    let fails : other.fails ≡ false = ap (λ (f : Filed). f.fails) same ∙ sound in
    rw fails refl

last-same : (xs ys : List Signal) (a b : Signal) → xs ++ a ∷ [] ≡ ys ++ b ∷ [] → a ≡ b
last-same [] [] a b is = cc
last-same [] (y ∷ []) a b is = absurd cc
last-same [] (y ∷ z ∷ ys) a b is = absurd cc
last-same (x ∷ []) [] a b is = absurd cc
last-same (x ∷ z ∷ xs) [] a b is = absurd cc
last-same (x ∷ xs) (y ∷ ys) a b is = let rest : xs ++ a ∷ [] ≡ ys ++ b ∷ [] = cc in last-same xs ys a b rest

-- the signals of the whole input end as they were shown to end
ends-so : (timed : Bool) (begun : EndState NodeState) (last : Signal) (left left' held held' : Option (List ℕ)) (bytes : List ℕ) (signals : List Signal)
    → left ≡ Some bytes → input_signals timed 0 bytes ≡ signals ++ End ∷ [] → Reached timed begun last left left' held held' → last ≡ End
ends-so timed begun last left left' held held' bytes signals known_left are r =
    let w = whole r.bytes bytes left left' known_left r.took in
    last-same r.signals signals last End (sym (r.shown w.0 (at_end left' w.0 w.1)) ∙ ap (λ (all : List ℕ). input_signals timed 0 all) (sym w.2) ∙ are)

complete-of : (service : Serving) (name : List ℕ) (before after : Outside) (why : ServiceFault) → Faulted service name before after why → (file : Filed) (plan : Plan) (bytes : List ℕ) (signals : List Signal)
    → before.files name ≡ Some file → file.fails ≡ false → length file.bytes ≤ plan_limit → IsPlanOfText file.bytes plan
    → before.left ≡ Some bytes → input_signals service.timed 0 bytes ≡ signals ++ End ∷ []
    → (Rose before.input_faults after.input_faults → ⊥) → (Rose before.out_faults after.out_faults → ⊥)
    → (status_of_fault why ≡ 0) ⊎ (status_of_fault why ≡ 7)
complete-of service name before after fault.PlanFailed f file plan bytes signals filed sound few is_plan known_left are no_input no_output = absurd (f.sound (sound-of (before.files name) file filed sound) refl)
complete-of service name before after fault.PlanTooLong f file plan bytes signals filed sound few is_plan known_left are no_input no_output = absurd (not-longer (before.files name) file filed few (f.too_long refl))
complete-of service name before after (fault.Plan reason) f file plan bytes signals filed sound few is_plan known_left are no_input no_output = absurd (not-refused (before.files name) file plan reason filed is_plan f.none)
complete-of service name before after (fault.Form at) f file plan bytes signals filed sound few is_plan known_left are no_input no_output =
    let no : Bad at ≡ End = ends-so service.timed _ (Bad at) before.left after.left before.held after.held bytes signals known_left are f.record_is.2.0 in
    absurd cc
complete-of service name before after (fault.Cut at) f file plan bytes signals filed sound few is_plan known_left are no_input no_output =
    let no : Bad at ≡ End = ends-so service.timed _ (Bad at) before.left after.left before.held after.held bytes signals known_left are f.record_is.2.0 in
    absurd cc
complete-of service name before after fault.Input f file plan bytes signals filed sound few is_plan known_left are no_input no_output = absurd (no_input (f.broken refl).0)
complete-of service name before after fault.Output f file plan bytes signals filed sound few is_plan known_left are no_input no_output = absurd (no_output (f.cut refl).0)
complete-of service name before after fault.TooLong f file plan bytes signals filed sound few is_plan known_left are no_input no_output =
    let no : Long ≡ End = ends-so service.timed _ Long before.left after.left before.held after.held bytes signals known_left are (f.long refl).2 in
    absurd cc
complete-of service name before after fault.NoMemory f file plan bytes signals filed sound few is_plan known_left are no_input no_output = inr refl

-- ---- a run

pub faulted : (service : Serving) (name : List ℕ) (before after : Outside) (why : ServiceFault) → Faulted service name before after why → ServiceRun service name before after (status_of_fault why)
faulted service name before after why f =
    let noted : (what : ServiceFault) → why ≡ what → Notes before after what = λ what same. subst (λ (w : ServiceFault). Notes before after w) same f.noted in
    record {
      statuses = statuses-of why;
      done = λ is. absurd (not-0 why is);
      refused = refused-of service name before after why f;
      broken = λ is. let same = only-4 why is in ((f.broken same).0, (f.broken same).1, noted fault.Input same);
      cut = λ is. let same = only-5 why is in inl ((f.cut same).0, (f.cut same).1, noted fault.Output same);
      planless = planless-of service name before after why f;
      wanting = λ is. noted fault.NoMemory (only-7 why is);
      long = λ is. let same = only-8 why is in (f.long same, noted fault.TooLong same);
      calm = λ other. f.calm (λ same. other (ap status_of_fault same));
      steady = λ other. f.steady (λ same. other (ap status_of_fault same));
      shelf_calm = λ other. f.shelf_calm (λ same. other (ap status_of_fault same));
      same_files = f.same_files;
      complete = λ file plan bytes signals filed sound few is_plan known_left are no_input no_output no_note.
          complete-of service name before after why f file plan bytes signals filed sound few is_plan known_left are no_input no_output;
    }

finished-by : (service : Serving) (name : List ℕ) (before after : Outside) (ended : EndState NodeState) (status : ℕ) → Finished service name before after ended status → (status ≡ 0) ⊎ (status ≡ 5) → ServiceRun service name before after status
finished-by service name before after ended status f (inl is) = record {
  statuses = inl is;
  done = λ zero. (f.served.0, f.served.1, (ended, f.served.2, (f.finish.done is).0, (f.finish.done is).1));
  refused = λ other. absurd (omega (arith, is, other));
  broken = λ other. absurd (omega (arith, is, other));
  cut = λ other. absurd (omega (arith, is, other));
  planless = λ other. absurd (omega (arith, is, other));
  wanting = λ other. absurd (omega (arith, is, other));
  long = λ other. absurd (omega (arith, is, other));
  calm = λ other. f.calm;
  steady = λ other. f.steady;
  shelf_calm = λ other. f.shelf_calm;
  same_files = f.same_files;
  complete = λ file plan bytes signals filed sound few is_plan known_left are no_input no_output no_note. inl is;
}
finished-by service name before after ended status f (inr is) = record {
  statuses = inr (inr (inr (inl is)));
  done = λ other. absurd (omega (arith, is, other));
  refused = λ other. absurd (omega (arith, is, other));
  broken = λ other. absurd (omega (arith, is, other));
  cut = λ five. inr ((f.finish.failed is).0, (f.served.0, f.served.1, (ended, f.served.2, (f.finish.failed is).1)));
  planless = λ other. absurd (omega (arith, is, other));
  wanting = λ other. absurd (omega (arith, is, other));
  long = λ other. absurd (omega (arith, is, other));
  calm = λ other. f.calm;
  steady = λ other. f.steady;
  shelf_calm = λ other. f.shelf_calm;
  same_files = f.same_files;
  complete = λ file plan bytes signals filed sound few is_plan known_left are no_input no_output no_note. absurd (no_note (f.finish.failed is).0);
}

pub finished : (service : Serving) (name : List ℕ) (before after : Outside) (ended : EndState NodeState) (status : ℕ) → Finished service name before after ended status → ServiceRun service name before after status
finished service name before after ended status f = finished-by service name before after ended status f f.finish.statuses

-- what the service of a plan's end tells, and its note
pub record Serviced (service : Serving) (name : List ℕ) (before after : Outside) (ended : Result (EndState NodeState) ServiceFault) (status : ℕ) : Type 0 where
  pub done : IfOk ended (λ end. OfPlan (before.files name) service.issues (λ begun. IsServed service.timed begun end before.left after.left before.held after.held))
  pub none : IfErr ended (TellsNone (SaysNone (before.files name)))
  pub too_long : IsErrOf ended fault.PlanTooLong → IsLonger (before.files name) plan_limit
  pub failed : IsErrOf ended fault.PlanFailed → Rose before.shelf_faults after.shelf_faults
  pub sound : is_sound (before.files name) ≡ true → IsErrOf ended fault.PlanFailed → ⊥
  pub untouched : IfErr ended (λ why. IsOfPlan why → IsUntouched before after)
  pub record_is : IfErr ended (TellsRecord
      (λ at. OfPlan (before.files name) service.issues (λ begun. HasNoForm service.timed begun at before.left after.left before.held after.held))
      (λ at. OfPlan (before.files name) service.issues (λ begun. IsCut service.timed begun at before.left after.left before.held after.held)))
  pub long : IsErrOf ended fault.TooLong → OfPlan (before.files name) service.issues (λ begun. Reached service.timed begun Long before.left after.left before.held after.held)
  pub broken : IsErrOf ended fault.Input → Rose before.input_faults after.input_faults × OfPlan (before.files name) service.issues (λ begun. StoppedByInput service.timed begun before.left after.left before.held after.held)
  pub cut : IsErrOf ended fault.Output → Rose before.out_faults after.out_faults × OfPlan (before.files name) service.issues (λ begun. StoppedByOutput service.timed begun before.left after.left before.held after.held)
  pub calm : (IsErrOf ended fault.Input → ⊥) → after.input_faults ≡ before.input_faults
  pub steady : (IsErrOf ended fault.Output → ⊥) → after.out_faults ≡ before.out_faults
  pub shelf_calm : (IsErrOf ended fault.PlanFailed → ⊥) → after.shelf_faults ≡ before.shelf_faults
  pub same_files : (other : List ℕ) → after.files other ≡ before.files other
  pub finish : IfOk ended (λ end. IsFinished before.noted after.noted before.note_faults after.note_faults (told_of service.issues end) status)
  pub refuse : IfErr ended (λ why. (status ≡ status_of_fault why) × IsNoted before.noted after.noted before.note_faults after.note_faults (note_of_fault why))

is-ok : {T E : Type 0} (value : T) (e : E) → IsErrOf {T = T} (Ok value) e → ⊥
is-ok value e is = absurd cc

same-err : {T E : Type 0} (a b : E) → IsErrOf {T = T} (Err a) b → a ≡ b
same-err a b is = cc

pub run-of : (service : Serving) (name : List ℕ) (before after : Outside) (ended : Result (EndState NodeState) ServiceFault) (status : ℕ) → Serviced service name before after ended status → ServiceRun service name before after status
run-of service name before after (Ok end) status s = finished service name before after end status (record {
  served = s.done;
  finish = s.finish;
  calm = s.calm (is-ok end fault.Input);
  steady = s.steady (is-ok end fault.Output);
  shelf_calm = s.shelf_calm (is-ok end fault.PlanFailed);
  same_files = s.same_files;
})
run-of service name before after (Err why) status s =
    let shown : ServiceRun service name before after (status_of_fault why) = faulted service name before after why (record {
      none = s.none;
      too_long = λ same. s.too_long (ap Err same);
      failed = λ same. s.failed (ap Err same);
      sound = λ is_so same. s.sound is_so (ap Err same);
      untouched = s.untouched;
      record_is = s.record_is;
      long = λ same. s.long (ap Err same);
      broken = λ same. s.broken (ap Err same);
      cut = λ same. s.cut (ap Err same);
      calm = λ other. s.calm (λ is. other (same-err why fault.Input is));
      steady = λ other. s.steady (λ is. other (same-err why fault.Output is));
      shelf_calm = λ other. s.shelf_calm (λ is. other (same-err why fault.PlanFailed is));
      same_files = s.same_files;
      noted = s.refuse.1;
    }) in
    subst (λ (n : ℕ). ServiceRun service name before after n) (sym s.refuse.0) shown

pub err-so : {T E : Type 0} (P Q : E → Type 0) (result : Result T E) → ((e : E) → P e → Q e) → IfErr result P → IfErr result Q
err-so P Q (Ok value) go p = tt
err-so P Q (Err e) go p = go e p
