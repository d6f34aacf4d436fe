-- What a run of `dissect` or `check` shows, by how it ended.
use Rattle.std.proofs.Common.{◌≡◌, ◌⊎◌, ◌∙◌, ◌≤◌, ◌<◌, ℕ, ◌+◌, Bool, true, false, List, ◌++◌, Option, Some, length, Result, Ok, Err, inl, inr, sym, ap, subst, arith, append-nil, length-append}
use Rattle.std.proofs.lemmas.Bool.{le-ltb, lt-ltb}
use Rattle.df1_base.specs.Signals.{input_limit}
use Rattle.df1_check.specs.declared.Check.{Check}
use Rattle.half_frame.specs.declared.side.Side.{Side}
use Rattle.df1_capture.specs.declared.capture.CaptureFault.{CaptureFault}
use Rattle.df1_capture.specs.declared.capture.CaptureFault.TheVariants as fault
use Rattle.df1_capture.specs.Captures.{IsOver, IsWhole}
use Rattle.df1_capture.specs.Counted.{CheckEnd, Counts}
use Rattle.df1_capture.specs.Dissected.{DissectEnd}
use Rattle.df1_tool.specs.Captures.{CheckRun, DissectRun, IsWithoutNote, Notes, Streams, status_of_capture, status_of_counts}
use Rattle.df1_tool.proofs.Statuses.{whole, at_end}

-- ---- the size of the input

-- a whole input has no more bytes than the limit allows
whole-bytes : (left left' : Option (List ℕ)) (bytes all : List ℕ) → left ≡ Some all → IsWhole left left' bytes → all ≡ bytes
whole-bytes left left' bytes all known_left w =
    let t = whole bytes all left left' known_left w.took in t.2 ∙ ap (λ (l : List ℕ). bytes ++ l) (at_end left' t.0 t.1 w.end) ∙ append-nil bytes

within : (left left' : Option (List ℕ)) (bytes all : List ℕ) → left ≡ Some all → IsWhole left left' bytes → length all ≤ input_limit
within left left' bytes all known_left w = subst (λ (l : List ℕ). length l ≤ input_limit) (sym (whole-bytes left left' bytes all known_left w)) w.few

-- and one of which more is there has
beyond : (left left' : Option (List ℕ)) (bytes all : List ℕ) → left ≡ Some all → IsOver left left' bytes → input_limit < length all
beyond left left' bytes all known_left o =
    let t = whole (bytes ++ o.over) all left left' known_left o.took in
    let size : length all ≡ (length (bytes ++ o.over)) + length t.0 = ap length t.2 ∙ length-append (bytes ++ o.over) t.0 in
    let full = o.all in
    let some = o.some in
    omega (arith, size, length-append bytes o.over, full, some)

-- ---- `dissect`

-- all that a run over a capture comes to
abbrev pub Told : {T : Type 0} → Streams → Streams → (T → ℕ) → ℕ → Result T CaptureFault → Type 0
Told before after status_at status (Ok done) = (status ≡ status_at done) × IsWithoutNote before after
Told before after status_at status (Err why) = (status ≡ status_of_capture why) × Notes before after why

pub dissected : (of : Side) (check : Check) (before after : Streams) (status : ℕ) (ended : Result (Unit {0}) CaptureFault) → Told before after (λ done. 0) status ended
    → DissectEnd of check before.left after.left before.input_faults after.input_faults before.held after.held before.out_faults after.out_faults ended → DissectRun of check before after status
dissected of check before after status (Ok done) (is, silent) (shown, calm, steady) = record {
  statuses = inl is;
  done = λ at. (shown, silent);
  broken = λ at. absurd (omega (arith, is, at));
  cut = λ at. absurd (omega (arith, is, at));
  long = λ at. absurd (omega (arith, is, at));
  calm = λ at. calm;
  steady = λ at. steady;
  exact = λ all known_left no_input no_output. rw (le-ltb input_limit (length all) (within before.left after.left shown.bytes all known_left shown.input)) is;
}
dissected of check before after status (Err fault.Input) (is, noted) (shown, rose, steady) = record {
  statuses = inr (inl is);
  done = λ at. absurd (omega (arith, is, at));
  broken = λ at. (rose, shown, noted);
  cut = λ at. absurd (omega (arith, is, at));
  long = λ at. absurd (omega (arith, is, at));
  calm = λ at. absurd (at is);
  steady = λ at. steady;
  exact = λ all known_left no_input no_output. absurd (no_input rose);
}
dissected of check before after status (Err fault.Output) (is, noted) (shown, rose, calm) = record {
  statuses = inr (inr (inl is));
  done = λ at. absurd (omega (arith, is, at));
  broken = λ at. absurd (omega (arith, is, at));
  cut = λ at. (rose, shown, noted);
  long = λ at. absurd (omega (arith, is, at));
  calm = λ at. calm;
  steady = λ at. absurd (at is);
  exact = λ all known_left no_input no_output. absurd (no_output rose);
}
dissected of check before after status (Err fault.TooLong) (is, noted) (shown, calm, steady) = record {
  statuses = inr (inr (inr is));
  done = λ at. absurd (omega (arith, is, at));
  broken = λ at. absurd (omega (arith, is, at));
  cut = λ at. absurd (omega (arith, is, at));
  long = λ at. (shown, noted);
  calm = λ at. calm;
  steady = λ at. steady;
  exact = λ all known_left no_input no_output. rw (lt-ltb input_limit (length all) (beyond before.left after.left shown.0 all known_left shown.1)) is;
}

-- ---- `check`

-- a count has one of two statuses
of-two : (faulty : Bool) (status : ℕ) → status ≡ status_of_counts faulty → (status ≡ 0) ⊎ (status ≡ 1)
of-two true status is = inr is
of-two false status is = inl is

neither : {P : Type 0} (status other : ℕ) → status ≡ other → 2 ≤ other → (status ≡ 0) ⊎ (status ≡ 1) → P
neither status other is more (inl at) = absurd (omega (arith, is, more, at))
neither status other is more (inr at) = absurd (omega (arith, is, more, at))

first-two : (status : ℕ) → (status ≡ 0) ⊎ (status ≡ 1) → (status ≡ 0) ⊎ (status ≡ 1) ⊎ (status ≡ 4) ⊎ (status ≡ 5) ⊎ (status ≡ 8)
first-two status (inl at) = inl at
first-two status (inr at) = inr (inl at)

no-more : (status other : ℕ) → (status ≡ 0) ⊎ (status ≡ 1) → status ≡ other → 2 ≤ other → ⊥
no-more status other two is more = neither status other is more two

pub checked : (of : Side) (check : Check) (before after : Streams) (status : ℕ) (ended : Result Bool CaptureFault) → Told before after status_of_counts status ended
    → CheckEnd of check before.left after.left before.input_faults after.input_faults before.held after.held before.out_faults after.out_faults ended → CheckRun of check before after status
checked of check before after status (Ok faulty) (is, silent) (shown, calm, steady) =
    let two = of-two faulty status is in
    record {
      statuses = first-two status two;
      done = λ at. ((faulty, shown, is), silent);
      broken = λ at. absurd (no-more status 4 two at (omega arith));
      cut = λ at. absurd (no-more status 5 two at (omega arith));
      long = λ at. absurd (no-more status 8 two at (omega arith));
      calm = λ at. calm;
      steady = λ at. steady;
      exact = λ all known_left no_input no_output.
          let same = whole-bytes before.left after.left shown.bytes all known_left shown.input in
          inr (
            shown.heard,
            shown.bad,
            shown.begun,
            subst (λ (l : List ℕ). Counts of check l shown.heard shown.bad shown.begun) (sym same) shown.counts,
            is ∙ ap status_of_counts shown.faulty_is,
            within before.left after.left shown.bytes all known_left shown.input,
          );
    }
checked of check before after status (Err fault.Input) (is, noted) (shown, rose, same, steady) = record {
  statuses = inr (inr (inl is));
  done = λ at. neither status 4 is (omega arith) at;
  broken = λ at. (rose, shown, same, noted);
  cut = λ at. absurd (omega (arith, is, at));
  long = λ at. absurd (omega (arith, is, at));
  calm = λ at. absurd (at is);
  steady = λ at. steady;
  exact = λ all known_left no_input no_output. absurd (no_input rose);
}
checked of check before after status (Err fault.Output) (is, noted) (shown, rose, calm) = record {
  statuses = inr (inr (inr (inl is)));
  done = λ at. neither status 5 is (omega arith) at;
  broken = λ at. absurd (omega (arith, is, at));
  cut = λ at. (rose, shown, noted);
  long = λ at. absurd (omega (arith, is, at));
  calm = λ at. calm;
  steady = λ at. absurd (at is);
  exact = λ all known_left no_input no_output. absurd (no_output rose);
}
checked of check before after status (Err fault.TooLong) (is, noted) (shown, calm, same, steady) = record {
  statuses = inr (inr (inr (inr is)));
  done = λ at. neither status 8 is (omega arith) at;
  broken = λ at. absurd (omega (arith, is, at));
  cut = λ at. absurd (omega (arith, is, at));
  long = λ at. (shown, same, noted);
  calm = λ at. calm;
  steady = λ at. steady;
  exact = λ all known_left no_input no_output. inl (is, beyond before.left after.left shown.0 all known_left shown.1);
}
