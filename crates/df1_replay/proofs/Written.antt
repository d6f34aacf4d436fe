-- What is written of a script, piece by piece: a buffer takes the lines and hands them on.
use Rattle.std.proofs.Common.{◌≡◌, ◌∙◌, ◌≤◌, ◌⊎◌, inl, inr, ℕ, List, [], ◌++◌, Option, None, Some, Result, Ok, Err, refl, sym, ap, subst, append_assoc, append-nil, arith}
use Rattle.std.specs.Prelude.{◌≢◌, OnOk, OnErr, IfErr, IsErrOf}
use Rattle.std.specs.Io.KnownBytes.{Keeps, append_known}
use Rattle.df1_base.specs.Outside.{Rose}
use Rattle.df1_buffer.specs.Buffered.{told_length}
use Rattle.df1_buffer.proofs.Handed.{less_through, part_through, put_through}
use Rattle.line_script.specs.declared.fault.Cause.{Cause}
use Rattle.line_script.specs.ScriptText.{script_of}
use Rattle.line_replay.specs.declared.replayer.StreamFault.{StreamFault}
use Rattle.line_replay.specs.declared.replayer.StreamFault.TheVariants as stream
use Rattle.line_replay.specs.Fed.{Replaying, IsReplayOf, IsRefusedWith, IsRefusedAs, ShowsFront, ShowsLess, ShowsMore, shown, told}
use Rattle.line_replay.proofs.Fed.{front-as-shown}
use Rattle.replay_report.proofs.Writing.{no_back, no_front}
use Rattle.df1_replay.specs.declared.fault.ReplayFault.{ReplayFault}
use Rattle.df1_replay.specs.declared.fault.ReplayFault.TheVariants.{Refusal, Input, Output, NoMemory}
use Rattle.df1_replay.specs.Outcome.{TellsRefusal}
use Rattle.df1_replay.specs.Outcome.{result_of, fault_of}

-- what a buffer took in which nothing waited, and handed on
pub written-more : (before after waited waits : List ℕ) (held held' told : Option (List ℕ)) → waited ≡ [] → waits ≡ [] → ShowsMore before after (append_known held waited) told → Keeps told (append_known held' waits) → ShowsMore before after held held'
written-more before after waited waits held held' told none none' shows kept = record {
  more = shows.more;
  shows = shows.shows;
  put = put_through held held' told waited waits shows.more none none' shows.put kept;
}

-- and not all of it
pub written-front : (before all waited waits : List ℕ) (held held' told : Option (List ℕ)) → waited ≡ [] → told_length held ≤ told_length held' → ShowsFront before all (append_known held waited) told → Keeps told (append_known held' waits) → ShowsFront before all held held'
written-front before all waited waits held held' told none grown shows kept =
    let (rest, w) = part_through held held' told waited waits shows.more none grown shows.put kept in
    record {
      more = w.part;
      rest = rest ++ shows.rest;
      shows =
          shows.shows ∙ ap (λ m. (before ++ m) ++ shows.rest) w.text_is ∙ ap (λ t. t ++ shows.rest) (sym (append_assoc before w.part rest)) ∙ append_assoc (before ++ w.part) rest shows.rest;
      put = w.put;
    }

-- where something was missing of what the buffer took, it still is
pub written-less : (before all waited waits : List ℕ) (held held' told : Option (List ℕ)) → waited ≡ [] → told_length held ≤ told_length held' → ShowsLess before all (append_known held waited) told → Keeps told (append_known held' waits) → ShowsLess before all held held'
written-less before all waited waits held held' told none grown (shows, some) kept =
    let (rest, w) = part_through held held' told waited waits shows.more none grown shows.put kept in (
      record {
        more = w.part;
        rest = rest ++ shows.rest;
        shows =
            shows.shows ∙ ap (λ m. (before ++ m) ++ shows.rest) w.text_is ∙ ap (λ t. t ++ shows.rest) (sym (append_assoc before w.part rest)) ∙ append_assoc (before ++ w.part) rest shows.rest;
        put = w.put;
      },
      λ nothing. some (no_back rest shows.rest nothing),
    )

-- Something is missing where bytes wait and there was something to be told. Where the sink tells what it holds, that are the bytes
-- that wait; where it doesn't, nothing says what it took.
pub waiting-less : (before all waited waits : List ℕ) (held held' told : Option (List ℕ)) → waited ≡ [] → waits ≢ [] → all ≢ before → told_length held ≤ told_length held' → ShowsFront before all (append_known held waited) told
    → Keeps told (append_known held' waits) → ShowsLess before all held held'
waiting-less before all waited waits None held' told none some other grown shows kept =
    let nothing_taken : all ≡ before ++ (shows.more ++ shows.rest) = shows.shows ∙ append_assoc before shows.more shows.rest in (
      record {
        more = [];
        rest = shows.more ++ shows.rest;
        shows = nothing_taken ∙ ap (λ t. t ++ (shows.more ++ shows.rest)) (sym (append-nil before));
        put = tt;
      },
      λ nothing. other (nothing_taken ∙ ap (λ t. before ++ t) nothing ∙ append-nil before),
    )
waiting-less before all waited waits (Some x) held' told none some other grown shows kept =
    let (rest, left, w) = less_through x held' told waited waits shows.more none some grown shows.put kept in (
      record {
        more = w.part;
        rest = rest ++ shows.rest;
        shows =
            shows.shows ∙ ap (λ m. (before ++ m) ++ shows.rest) w.text_is ∙ ap (λ t. t ++ shows.rest) (sym (append_assoc before w.part rest)) ∙ append_assoc (before ++ w.part) rest shows.rest;
        put = w.put;
      },
      λ nothing. left (no_front rest shows.rest nothing),
    )

-- ---- what a piece comes to, by what the replay came to and by the output

-- the output failed, or what the replay came to is told
abbrev pub Ends : Result (Unit {0}) StreamFault → Result (Unit {0}) ReplayFault → Type 0 → Type 0 → Type 0
Ends fed result Failed Told = (IsErrOf result Output × Failed) ⊎ ((result ≡ result_of fed) × Told)

pub ok-on : {P Q F X : Type 0} (fed : Result (Unit {0}) StreamFault) (result : Result (Unit {0}) ReplayFault) → Ends fed result F X → OnOk fed P → (X → P → Q) → OnOk result Q
ok-on fed result (inl failed) p go = rw failed.0 tt
ok-on (Ok done) result (inr told) p go = rw told.0 (go told.1 p)
ok-on (Err fault) result (inr told) p go = rw told.0 tt

refuses : (P : ℕ → Cause → Type 0) (text : List ℕ) (written : List ℕ) (a b : Option (List ℕ)) (fault : StreamFault) → IsRefusedWith text written a b fault
    → ((line : ℕ) (cause : Cause) → ((more : List ℕ) → (script_of (text ++ more) ≡ Err (line, cause)) × ShowsMore written (told (text ++ more)) a b) → P line cause) → TellsRefusal P (fault_of fault)
refuses P text written a b (stream.At line cause) refused go = go line cause refused
refuses P text written a b stream.SinkFailed refused go = tt
refuses P text written a b stream.NoMemory refused go = tt

pub refused-on : {F X : Type 0} (P : ℕ → Cause → Type 0) (text : List ℕ) (written : List ℕ) (a b : Option (List ℕ)) (fed : Result (Unit {0}) StreamFault) (result : Result (Unit {0}) ReplayFault) → Ends fed result F X → IfErr fed (IsRefusedWith text written a b)
    → (X → (line : ℕ) (cause : Cause) → ((more : List ℕ) → (script_of (text ++ more) ≡ Err (line, cause)) × ShowsMore written (told (text ++ more)) a b) → P line cause) → IfErr result (TellsRefusal P)
refused-on P text written a b fed result (inl failed) refused go = rw failed.0 tt
refused-on P text written a b (Ok done) result (inr told) refused go = rw told.0 tt
refused-on P text written a b (Err fault) result (inr told) refused go = rw told.0 (refuses P text written a b fault refused (go told.1))

pub refused-as-on : {F X Q : Type 0} (P : ℕ → Cause → Type 0) (text : List ℕ) (fed : Result (Unit {0}) StreamFault) (result : Result (Unit {0}) ReplayFault) → Ends fed result F X → IfErr fed (IsRefusedAs text Q)
    → (X → (line : ℕ) (cause : Cause) → (script_of text ≡ Err (line, cause)) × Q → P line cause) → IfErr result (TellsRefusal P)
refused-as-on P text fed result (inl failed) refused go = rw failed.0 tt
refused-as-on P text (Ok done) result (inr told) refused go = rw told.0 tt
refused-as-on P text (Err (stream.At line cause)) result (inr told) refused go = rw told.0 (go told.1 line cause refused)
refused-as-on P text (Err stream.SinkFailed) result (inr told) refused go = rw told.0 tt
refused-as-on P text (Err stream.NoMemory) result (inr told) refused go = rw told.0 tt

at-err : {P : Type 0} (result : Result (Unit {0}) ReplayFault) → P → OnErr result P
at-err (Ok done) p = tt
at-err (Err fault) p = p

pub front-on : {P : Type 0} (fed : Result (Unit {0}) StreamFault) (result : Result (Unit {0}) ReplayFault) (before all waited waits : List ℕ) (held held' told : Option (List ℕ)) → waited ≡ [] → told_length held ≤ told_length held' → Keeps told (append_known held' waits)
    → OnOk fed P → (P → ShowsFront before all (append_known held waited) told) → OnErr fed (ShowsFront before all (append_known held waited) told) → OnErr result (ShowsFront before all held held')
front-on (Ok done) result before all waited waits held held' told none grown kept ok go err = at-err result (written-front before all waited waits held held' told none grown (go ok) kept)
front-on (Err fault) result before all waited waits held held' told none grown kept ok go err = at-err result (written-front before all waited waits held held' told none grown err kept)

-- ---- the faults of the output

-- the output failed while the lines were made, or when they were handed on
abbrev pub Failing : Result (Unit {0}) StreamFault → List ℕ → List ℕ → ℕ → ℕ → Type 0
Failing fed waited waits between after = IsErrOf fed stream.SinkFailed ⊎ ((waited ≢ []) × (waits ≢ []) × Rose between after)

pub le_then : (a b c : ℕ) → a ≤ b → b ≤ c → a ≤ c
le_then a b c le le' = omega (arith, le, le')

rose-then : (before between after : ℕ) → Rose before between → between ≤ after → Rose before after
rose-then before between after rose le = omega (arith, rose, le)

then-rose : (before between after : ℕ) → before ≤ between → Rose between after → Rose before after
then-rose before between after le rose = omega (arith, rose, le)

-- any trouble but one of the output
abbrev IsElse : ReplayFault → Type 0
IsElse (Refusal line cause) = Unit {0}
IsElse Input = Unit {0}
IsElse Output = ⊥
IsElse NoMemory = Unit {0}

sink-failed : (fed : Result (Unit {0}) StreamFault) → IsErrOf (result_of fed) Output → IsErrOf fed stream.SinkFailed
sink-failed (Ok done) is = absurd (subst (λ (r : Result (Unit {0}) ReplayFault). OnOk r ⊥) (sym is) tt)
sink-failed (Err (stream.At line cause)) is = absurd (subst (λ (r : Result (Unit {0}) ReplayFault). IfErr r IsElse) is tt)
sink-failed (Err stream.SinkFailed) is = refl
sink-failed (Err stream.NoMemory) is = absurd (subst (λ (r : Result (Unit {0}) ReplayFault). IfErr r IsElse) is tt)

pub output-rose : {X : Type 0} (fed : Result (Unit {0}) StreamFault) (result : Result (Unit {0}) ReplayFault) (waited waits : List ℕ) (before between after : ℕ) → Ends fed result (Failing fed waited waits between after) X → (IsErrOf fed stream.SinkFailed → Rose before between) → before ≤ between
    → between ≤ after → IsErrOf result Output → Rose before after
output-rose fed result waited waits before between after (inl (_, inl failed)) cause le le' is = rose-then before between after (cause failed) le'
output-rose fed result waited waits before between after (inl (_, inr failing)) cause le le' is = then-rose before between after le failing.2
output-rose fed result waited waits before between after (inr came) cause le le' is = rose-then before between after (cause (sink-failed fed (sym came.0 ∙ is))) le'

-- and then something is missing
pub less-on : {P Q X Less : Type 0} (fed : Result (Unit {0}) StreamFault) (result : Result (Unit {0}) ReplayFault) (waited waits : List ℕ) (between after : ℕ) → Ends fed result (Failing fed waited waits between after) X → OnOk fed P → (P → Q) → OnErr fed Q
    → (IsErrOf fed stream.SinkFailed → Less) → (waited ≢ [] → waits ≢ [] → Q → Less) → IsErrOf result Output → Less
less-on fed result waited waits between after (inl (_, inl failed)) ok go err sink waiting is = sink failed
less-on (Ok done) result waited waits between after (inl (_, inr failing)) ok go err sink waiting is = waiting failing.0 failing.1 (go ok)
less-on (Err fault) result waited waits between after (inl (_, inr failing)) ok go err sink waiting is = waiting failing.0 failing.1 err
less-on fed result waited waits between after (inr came) ok go err sink waiting is = sink (sink-failed fed (sym came.0 ∙ is))

-- any other trouble leaves the count as it was
pub steady-on : {F W : Type 0} (fed : Result (Unit {0}) StreamFault) (result : Result (Unit {0}) ReplayFault) (before between after : ℕ) → Ends fed result F (W × (after ≡ between)) → IfErr fed (λ fault. fault ≢ stream.SinkFailed → between ≡ before)
    → IfErr result (λ trouble. trouble ≢ Output → after ≡ before)
steady-on fed result before between after (inl failed) steady = rw failed.0 (λ other. absurd (other refl))
steady-on (Ok done) result before between after (inr came) steady = rw came.0 tt
steady-on (Err fault) result before between after (inr came) steady = rw came.0 (λ other. came.1.1 ∙ steady (λ same. other (ap fault_of same)))

-- what is shown of a replayed text is a front of what is told of it
pub told-more : (text : List ℕ) (r : Replaying) → IsReplayOf text r → (rest : List ℕ) × (told text ≡ shown text ++ rest)
told-more text r h =
    let front = front-as-shown text r None h in
    (front.more ++ front.rest, front.shows ∙ append_assoc (shown text) front.more front.rest)

pub more-is-front : (after : List ℕ) (r : Replaying) (before : List ℕ) (a b : Option (List ℕ)) → IsReplayOf after r → ShowsMore before (shown after) a b → ShowsFront before (told after) a b
more-is-front after r before a b h shows =
    let rest = told-more after r h in
    record { more = shows.more; rest = rest.0; shows = rest.1 ∙ ap (λ t. t ++ rest.0) shows.shows; put = shows.put }

pub all-is-front : (before all : List ℕ) (a b : Option (List ℕ)) → ShowsMore before all a b → ShowsFront before all a b
all-is-front before all a b shows = record { more = shows.more; rest = []; shows = shows.shows ∙ sym (append-nil (before ++ shows.more)); put = shows.put }
