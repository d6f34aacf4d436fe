-- What a port over an input gave, as a service tells it.
use Rattle.std.proofs.Common.{◌≡◌, ◌≢◌, ℕ, zero, suc, ◌+◌, ◌≤◌, Bool, true, false, List, [], ◌∷◌, ◌++◌, length, Option, Some, None, Result, Ok, Err, inl, inr, refl, ap, sym, subst, ◌∙◌, append_assoc, length-append, arith}
use Rattle.std.proofs.lemmas.Bool.Decides.{nat_tests}
use Rattle.std.specs.Prelude.{IfSome, IfOk, IfErr, IsErrOf, ◌==◌, nat_lt, ◌&&◌, ◌||◌, if◌then◌else◌}
use Rattle.std.specs.Io.KnownBytes.{IsAtEnd}
use Rattle.df1_base.specs.Outside.{Rose}
use Rattle.df1_base.specs.Feed.{Feed, Came, EndsWith, due, holds_signal}
use Rattle.df1_base.specs.Signals.{goes_on, input_limit, input_signals, raw_signals, timed_signals, record_signals, signal_of}
use Rattle.df1_base.specs.declared.signal.Signal.{Signal}
use Rattle.df1_base.specs.declared.signal.Signal.TheVariants.{Byte, Drain, End, Bad, Long}
use Rattle.df1_base.proofs.Feeding.{follows}
use Rattle.df1_shelf.specs.Shelves.{Filed}
use Rattle.df1_node.specs.Node.{NodeState}
use Rattle.duplex_end.specs.End.{EndState}
use Rattle.duplex_end.specs.Serving.{Serves, BreaksOff, last_signal}
use Rattle.duplex_end.specs.declared.serving.Served.{Served}
use Rattle.duplex_end.specs.declared.serving.Served.TheVariants as ended
use Rattle.each_once.specs.NodeHost.{node_host}
use Rattle.df1_service.specs.Service.{Commands}
use Rattle.df1_service.specs.Wire.{Reached, IsServed, HasNoForm, IsCut, StoppedByInput, StoppedByOutput, OfPlan, TellsRecord}
use Rattle.df1_service.specs.Ending.{ended_of}
use Rattle.df1_service.specs.declared.fault.ServiceFault.{ServiceFault}
use Rattle.df1_service.specs.declared.fault.ServiceFault.TheVariants as fault

-- a new port
abbrev pub fresh : {S K : Type 0} → S → K → Bool → Feed S K
fresh input out timed = record { source = input; sink = out; timed = timed; used = 0; waiting = []; drains = false }

-- ---- the last signal

-- no Drain is due before a last signal
no-due : (is_due : Bool) (others : List Signal) (last : Signal) → due is_due ++ others ≡ last ∷ [] → goes_on last ≡ false → (is_due ≡ false) × (others ≡ last ∷ [])
no-due false others last is stops = (refl, is)
no-due true others last is stops =
    let same : last ≡ Drain = cc in
    let no : true ≡ false = subst (λ (s : Signal). goes_on s ≡ false) same stops in
    absurd cc

raw-end : (within : Bool) (x : ℕ) (others : List Signal) → (if within then Byte x ∷ others else Long ∷ []) ≡ End ∷ [] → ⊥
raw-end true x others is = absurd cc
raw-end false x others is = absurd cc

one-end : (within : Bool) (at : ℕ) → (if within then Bad at else Long) ∷ [] ≡ End ∷ [] → ⊥
one-end true at is = absurd cc
one-end false at is = absurd cc

two-end : (within : Bool) (at : ℕ) (given : Option Signal) (others : List Signal) → ((signal : Signal) → given ≡ Some signal → goes_on signal ≡ true) → (if within then record_signals at given others else Long ∷ []) ≡ End ∷ [] → ⊥
two-end true at None others on is = absurd cc
two-end true at (Some signal) others on is =
    let same : signal ≡ End = cc in
    let no : false ≡ true = subst (λ (s : Signal). goes_on s ≡ true) same (on signal refl) in
    absurd cc
two-end false at given others on is = absurd cc

-- End comes where no bytes are left
only-end : (timed : Bool) (at : ℕ) (bytes : List ℕ) → input_signals timed at bytes ≡ End ∷ [] → bytes ≡ []
only-end timed at [] is = refl
only-end false at (x ∷ bytes) is = absurd (raw-end (nat_lt at input_limit) x (Drain ∷ raw_signals (at + 1) bytes) is)
only-end true at (x ∷ []) is = absurd (one-end (nat_lt at input_limit) at is)
only-end true at (x ∷ y ∷ bytes) is = absurd (two-end (nat_lt at input_limit) at (signal_of x y) (timed_signals (at + 2) bytes) (follows x y) is)

-- where a record is bad
record BadAt (timed : Bool) (at p : ℕ) (bytes : List ℕ) : Type 0 where
  pub here : p ≡ at
  pub timed_is : timed ≡ true
  pub within : nat_lt at input_limit ≡ true
  pub some : 1 ≤ length bytes

raw-bad : (within : Bool) (x p : ℕ) (others : List Signal) → (if within then Byte x ∷ others else Long ∷ []) ≡ Bad p ∷ [] → ⊥
raw-bad true x p others is = absurd cc
raw-bad false x p others is = absurd cc

one-bad : (within : Bool) (at p : ℕ) → (if within then Bad at else Long) ∷ [] ≡ Bad p ∷ [] → (p ≡ at) × (within ≡ true)
one-bad true at p is = (cc, refl)
one-bad false at p is = absurd cc

two-bad : (within : Bool) (at p : ℕ) (given : Option Signal) (others : List Signal) → ((signal : Signal) → given ≡ Some signal → goes_on signal ≡ true) → (if within then record_signals at given others else Long ∷ []) ≡ Bad p ∷ [] → (p ≡ at) × (within ≡ true)
two-bad true at p None others on is = (cc, refl)
two-bad true at p (Some signal) others on is =
    let same : signal ≡ Bad p = cc in
    let no : false ≡ true = subst (λ (s : Signal). goes_on s ≡ true) same (on signal refl) in
    absurd cc
two-bad false at p given others on is = absurd cc

only-bad : (timed : Bool) (at p : ℕ) (bytes : List ℕ) → input_signals timed at bytes ≡ Bad p ∷ [] → BadAt timed at p bytes
only-bad true at p [] is = absurd cc
only-bad false at p [] is = absurd cc
only-bad false at p (x ∷ bytes) is = absurd (raw-bad (nat_lt at input_limit) x p (Drain ∷ raw_signals (at + 1) bytes) is)
only-bad true at p (x ∷ []) is =
    let found = one-bad (nat_lt at input_limit) at p is in
    record { here = found.0; timed_is = refl; within = found.1; some = omega arith }
only-bad true at p (x ∷ y ∷ bytes) is =
    let found = two-bad (nat_lt at input_limit) at p (signal_of x y) (timed_signals (at + 2) bytes) (follows x y) is in
    record { here = found.0; timed_is = refl; within = found.1; some = omega arith }

-- the last signal, where nothing more is read
alone : {S K : Type 0} (left : S → Option (List ℕ)) (f : Feed S K) (last : Signal) → EndsWith left f last → due f.drains ++ input_signals f.timed f.used (f.waiting ++ []) ≡ last ∷ []
alone left f last (inl held) = held.1 []
alone left f last (inr over) = over.1

-- the end of the input was reached
pub at-end : {S K : Type 0} (left : S → Option (List ℕ)) (f : Feed S K) → EndsWith left f End → IsAtEnd (left f.source)
at-end left f (inr over) = over.0
at-end left f (inl held) =
    let some = no-due f.drains (input_signals f.timed f.used (f.waiting ++ 0 ∷ [])) End (held.1 (0 ∷ [])) refl in
    let none : f.waiting ++ 0 ∷ [] ≡ [] = only-end f.timed f.used (f.waiting ++ 0 ∷ []) some.1 in
    absurd (omega (arith, length-append f.waiting (0 ∷ []), ap length none))

bad-at : {S K : Type 0} (left : S → Option (List ℕ)) (f : Feed S K) (p : ℕ) → EndsWith left f (Bad p) → (f.drains ≡ false) × BadAt f.timed f.used p (f.waiting ++ [])
bad-at left f p ends =
    let is = no-due f.drains (input_signals f.timed f.used (f.waiting ++ [])) (Bad p) (alone left f (Bad p) ends) refl in
    (is.0, only-bad f.timed f.used p (f.waiting ++ []) is.1)

held-none : (is_due timed within : Bool) (n : ℕ) → is_due ≡ false → timed ≡ true → within ≡ true → n ≡ 1 → (is_due || nat_lt (if timed && within then 1 else 0) n) ≡ false
held-none is_due timed within n none is in_limit one = rw (none, is, in_limit, one) refl

-- a bad record of which one byte is held is the last byte of the input
pub cut-end : {S K : Type 0} (left : S → Option (List ℕ)) (f : Feed S K) (p : ℕ) → EndsWith left f (Bad p) → length f.waiting ≡ 1 → IsAtEnd (left f.source)
cut-end left f p (inr over) one = over.0
cut-end left f p (inl held) one =
    let bad = bad-at left f p (inl held) in
    let no : false ≡ true = sym (held-none f.drains f.timed (nat_lt f.used input_limit) (length f.waiting) bad.0 bad.1.timed_is bad.1.within one) ∙ held.0 in
    absurd cc

-- ---- what was served

abbrev pub ends-by : {S K : Type 0} (left : S → Option (List ℕ)) (f : Feed S K) (last : Signal) (later : List ℕ) → EndsWith left f last → (IsAtEnd (left f.source) → later ≡ []) → due f.drains ++ input_signals f.timed f.used (f.waiting ++ later) ≡ last ∷ []
ends-by left f last later (inl held) only = held.1 later
ends-by left f last later (inr over) only = rw (only over.0) over.1

abbrev pub reached : {S K : Type 0} (left : S → Option (List ℕ)) (input : S) (out : K) (timed : Bool) (f : Feed S K) (signals : List Signal) (last : Signal) (before after : EndState NodeState) (held held' : Option (List ℕ))
    → Came left (fresh input out timed) signals f → EndsWith left f last → Serves node_host before signals after held held' → Reached timed before last (left input) (left f.source) held held'
reached left input out timed f signals last before after held held' came ends served = record {
  bytes = came.more;
  took = came.took;
  signals = signals;
  shown = λ later only. came.gives later ∙ ap (λ (s : List Signal). signals ++ s) (ends-by left f last later ends only);
  after = after;
  served = served;
}

pub is-served : {S K : Type 0} (left : S → Option (List ℕ)) (input : S) (out : K) (timed : Bool) (f : Feed S K) (signals : List Signal) (before after : EndState NodeState) (held held' : Option (List ℕ))
    → Came left (fresh input out timed) signals f → EndsWith left f End → Serves node_host before signals after held held' → IsServed timed before after (left input) (left f.source) held held'
is-served left input out timed f signals before after held held' came ends served = (reached left input out timed f signals End before after held held' came ends served, refl, at-end left f ends)

-- how many bytes were taken
count : {S K : Type 0} (left : S → Option (List ℕ)) (input : S) (out : K) (timed : Bool) (f : Feed S K) (signals : List Signal) → (came : Came left (fresh input out timed) signals f) → length came.more ≡ f.used + length f.waiting
count left input out timed f signals came = omega (arith, ap length came.goes, length-append came.gone f.waiting, came.count)

not-one : (n : ℕ) → 1 ≤ n → (n ≡ 1 → ⊥) → 2 ≤ n
not-one zero some many = absurd (omega (arith, some))
not-one (suc zero) some many = absurd (many refl)
not-one (suc (suc n)) some many = omega arith

two-at-least : (at used n size : ℕ) → at ≡ used → size ≡ used + n → 1 ≤ n → (n ≡ 1 → ⊥) → at + 2 ≤ size
two-at-least at used n size here is some many = omega (arith, here, is, not-one n some many)

pub has-no-form : {S K : Type 0} (left : S → Option (List ℕ)) (input : S) (out : K) (timed : Bool) (f : Feed S K) (signals : List Signal) (at : ℕ) (before after : EndState NodeState) (held held' : Option (List ℕ))
    → Came left (fresh input out timed) signals f → EndsWith left f (Bad at) → Serves node_host before signals after held held' → (length f.waiting ≡ 1 → ⊥) → HasNoForm timed before at (left input) (left f.source) held held'
has-no-form left input out timed f signals at before after held held' came ends served many =
    let bad = bad-at left f at ends in
    let size = count left input out timed f signals came in
    let some : 1 ≤ length f.waiting = omega (arith, bad.1.some, length-append f.waiting []) in (
      reached left input out timed f signals (Bad at) before after held held' came ends served,
      two-at-least at f.used (length f.waiting) (length came.more) bad.1.here size some many,
    )

pub is-cut : {S K : Type 0} (left : S → Option (List ℕ)) (input : S) (out : K) (timed : Bool) (f : Feed S K) (signals : List Signal) (at : ℕ) (before after : EndState NodeState) (held held' : Option (List ℕ))
    → Came left (fresh input out timed) signals f → EndsWith left f (Bad at) → Serves node_host before signals after held held' → length f.waiting ≡ 1 → IsCut timed before at (left input) (left f.source) held held'
is-cut left input out timed f signals at before after held held' came ends served one =
    let bad = bad-at left f at ends in
    let size = count left input out timed f signals came in (
      reached left input out timed f signals (Bad at) before after held held' came ends served,
      omega (arith, bad.1.here, size, one),
      cut-end left f at ends one,
    )

came-is : (signals : List Signal) (timed timed' : Bool) (used n : ℕ) (is_due due' : Bool) (rest later : List ℕ) → timed' ≡ timed → used ≡ n → is_due ≡ due'
    → signals ++ (due is_due ++ input_signals timed' used (rest ++ later)) ≡ (signals ++ due due') ++ input_signals timed n (rest ++ later)
came-is signals timed timed' used n is_due due' rest later same_mode same_count same_due =
    ap (λ (d : Bool). signals ++ (due d ++ input_signals timed' used (rest ++ later))) same_due
    ∙ ap (λ (t : Bool). signals ++ (due due' ++ input_signals t used (rest ++ later))) same_mode
    ∙ ap (λ (k : ℕ). signals ++ (due due' ++ input_signals timed k (rest ++ later))) same_count
    ∙ sym (append_assoc signals (due due') (input_signals timed n (rest ++ later)))

or-none : (a b : Bool) → (a || b) ≡ false → (a ≡ false) × (b ≡ false)
or-none false b none = (refl, none)
or-none true b none = absurd cc

few-by : (timed within : Bool) (n : ℕ) → nat_lt (if timed && within then 1 else 0) n ≡ false → n ≤ (if timed && within then 1 else 0)
few-by true true n none = grind (arith, nat_tests)
few-by true false n none = grind (arith, nat_tests)
few-by false within n none = grind (arith, nat_tests)

pub broken-off : {S K : Type 0} (left : S → Option (List ℕ)) (input : S) (out : K) (timed : Bool) (f : Feed S K) (signals : List Signal) (before after : EndState NodeState) (held held' : Option (List ℕ))
    → Came left (fresh input out timed) signals f → holds_signal f ≡ false → Serves node_host before signals after held held' → StoppedByInput timed before (left input) (left f.source) held held'
broken-off left input out timed f signals before after held held' came dry served =
    let none = or-none f.drains (nat_lt (if f.timed && nat_lt f.used input_limit then 1 else 0) (length f.waiting)) dry in
    record {
      bytes = came.more;
      took = came.took;
      signals = signals;
      rest = f.waiting;
      gives = record {
        gone = came.gone;
        bytes_are = came.goes;
        gives = λ later. came.gives later ∙ came-is signals timed f.timed f.used (length came.gone) f.drains false f.waiting later came.timed_is (omega (arith, came.count)) none.0;
      };
      few = subst (λ (t : Bool). length f.waiting ≤ (if t && nat_lt (length came.gone) input_limit then 1 else 0)) came.timed_is
          (subst (λ (n : ℕ). length f.waiting ≤ (if f.timed && nat_lt n input_limit then 1 else 0)) (omega (arith, came.count)) (few-by f.timed (nat_lt f.used input_limit) (length f.waiting) none.1));
      after = after;
      served = served;
    }

pub cut-off : {S K : Type 0} (left : S → Option (List ℕ)) (input : S) (out : K) (timed : Bool) (f : Feed S K) (signals : List Signal) (last : Signal) (before after : EndState NodeState) (held held' : Option (List ℕ))
    → Came left (fresh input out timed) (signals ++ last ∷ []) f → length f.waiting ≤ 4096 → BreaksOff node_host before signals last after held held' → StoppedByOutput timed before (left input) (left f.source) held held'
cut-off left input out timed f signals last before after held held' came few broke = record {
  bytes = came.more;
  took = came.took;
  signals = signals;
  last = last;
  drains = f.drains;
  rest = f.waiting;
  gives = record {
    gone = came.gone;
    bytes_are = came.goes;
    gives = λ later. came.gives later ∙ came-is (signals ++ last ∷ []) timed f.timed f.used (length came.gone) f.drains f.drains f.waiting later came.timed_is (omega (arith, came.count)) refl;
  };
  few = few;
  after = after;
  broke = broke;
}

-- ---- how a serving ended

-- what a serving tells of a port over an input
pub record Facts {S K : Type 0} (left : S → Option (List ℕ)) (hold : K → Option (List ℕ)) (old new : Feed S K) (before after : EndState NodeState) (ending : Served) : Type 0 where
  pub served : ending ≢ ended.OutFailed → (signals : List Signal) × Came left old signals new × Serves node_host before signals after (hold old.sink) (hold new.sink)
  pub stopped : IfSome (last_signal ending) (λ last. EndsWith left new last)
  pub breaks_off : ending ≡ ended.OutFailed → (signals : List Signal) × (last : Signal) × Came left old (signals ++ last ∷ []) new × BreaksOff node_host before signals last after (hold old.sink) (hold new.sink)
  pub dry : ending ≡ ended.InFailed → holds_signal new ≡ false

of-fresh : {S K : Type 0} (left : S → Option (List ℕ)) (hold : K → Option (List ℕ)) (input : S) (out : K) (timed : Bool) (old new : Feed S K) (before after : EndState NodeState) (ending : Served)
    → old ≡ fresh input out timed → Facts left hold old new before after ending → Facts left hold (fresh input out timed) new before after ending
of-fresh {S} {K} left hold input out timed old new before after ending is facts = subst (λ (p : Feed S K). Facts left hold p new before after ending) is facts

-- this ending is another than a failed output
not-output : (ending other : Served) → ending ≡ other → (other ≡ ended.OutFailed → ⊥) → ending ≡ ended.OutFailed → ⊥
not-output ending other is unlike out = unlike (sym is ∙ out)

stops-with : {S K : Type 0} (left : S → Option (List ℕ)) (new : Feed S K) (ending other : Served) → ending ≡ other → IfSome (last_signal ending) (λ last. EndsWith left new last) → IfSome (last_signal other) (λ last. EndsWith left new last)
stops-with left new ending other is stopped = subst (λ (e : Served). IfSome (last_signal e) (λ last. EndsWith left new last)) is stopped

pub served-to-end : {S K : Type 0} (left : S → Option (List ℕ)) (hold : K → Option (List ℕ)) (input : S) (out : K) (timed : Bool) (old new : Feed S K) (before after : EndState NodeState) (ending : Served)
    → old ≡ fresh input out timed → Facts left hold old new before after ending → ending ≡ ended.Ended → IsServed timed before after (left input) (left new.source) (hold out) (hold new.sink)
served-to-end left hold input out timed old new before after ending is facts at =
    let f = of-fresh left hold input out timed old new before after ending is facts in
    let s = f.served (not-output ending ended.Ended at (λ same. cc)) in
    is-served left input out timed new s.0 before after (hold out) (hold new.sink) s.1 (stops-with left new ending ended.Ended at f.stopped) s.2

pub served-to-long : {S K : Type 0} (left : S → Option (List ℕ)) (hold : K → Option (List ℕ)) (input : S) (out : K) (timed : Bool) (old new : Feed S K) (before after : EndState NodeState) (ending : Served)
    → old ≡ fresh input out timed → Facts left hold old new before after ending → ending ≡ ended.Long → Reached timed before Long (left input) (left new.source) (hold out) (hold new.sink)
served-to-long left hold input out timed old new before after ending is facts at =
    let f = of-fresh left hold input out timed old new before after ending is facts in
    let s = f.served (not-output ending ended.Long at (λ same. cc)) in
    reached left input out timed new s.0 Long before after (hold out) (hold new.sink) s.1 (stops-with left new ending ended.Long at f.stopped) s.2

pub served-to-form : {S K : Type 0} (left : S → Option (List ℕ)) (hold : K → Option (List ℕ)) (input : S) (out : K) (timed : Bool) (old new : Feed S K) (before after : EndState NodeState) (ending : Served) (place held : ℕ)
    → old ≡ fresh input out timed → Facts left hold old new before after ending → ending ≡ ended.Bad place → held ≡ length new.waiting → (held ≡ 1 → ⊥) → HasNoForm timed before place (left input) (left new.source) (hold out) (hold new.sink)
served-to-form left hold input out timed old new before after ending place held is facts at count many =
    let f = of-fresh left hold input out timed old new before after ending is facts in
    let s = f.served (not-output ending (ended.Bad place) at (λ same. cc)) in
    has-no-form left input out timed new s.0 place before after (hold out) (hold new.sink) s.1 (stops-with left new ending (ended.Bad place) at f.stopped) s.2 (λ one. many (count ∙ one))

pub served-to-cut : {S K : Type 0} (left : S → Option (List ℕ)) (hold : K → Option (List ℕ)) (input : S) (out : K) (timed : Bool) (old new : Feed S K) (before after : EndState NodeState) (ending : Served) (place held : ℕ)
    → old ≡ fresh input out timed → Facts left hold old new before after ending → ending ≡ ended.Bad place → held ≡ length new.waiting → held ≡ 1 → IsCut timed before place (left input) (left new.source) (hold out) (hold new.sink)
served-to-cut left hold input out timed old new before after ending place held is facts at count one =
    let f = of-fresh left hold input out timed old new before after ending is facts in
    let s = f.served (not-output ending (ended.Bad place) at (λ same. cc)) in
    is-cut left input out timed new s.0 place before after (hold out) (hold new.sink) s.1 (stops-with left new ending (ended.Bad place) at f.stopped) s.2 (sym count ∙ one)

pub served-to-failure : {S K : Type 0} (left : S → Option (List ℕ)) (hold : K → Option (List ℕ)) (input : S) (out : K) (timed : Bool) (old new : Feed S K) (before after : EndState NodeState) (ending : Served)
    → old ≡ fresh input out timed → Facts left hold old new before after ending → ending ≡ ended.InFailed → StoppedByInput timed before (left input) (left new.source) (hold out) (hold new.sink)
served-to-failure left hold input out timed old new before after ending is facts at =
    let f = of-fresh left hold input out timed old new before after ending is facts in
    let s = f.served (not-output ending ended.InFailed at (λ same. cc)) in
    broken-off left input out timed new s.0 before after (hold out) (hold new.sink) s.1 (f.dry at) s.2

pub served-in-part : {S K : Type 0} (left : S → Option (List ℕ)) (hold : K → Option (List ℕ)) (input : S) (out : K) (timed : Bool) (old new : Feed S K) (before after : EndState NodeState) (ending : Served)
    → old ≡ fresh input out timed → Facts left hold old new before after ending → ending ≡ ended.OutFailed → length new.waiting ≤ 4096 → StoppedByOutput timed before (left input) (left new.source) (hold out) (hold new.sink)
served-in-part left hold input out timed old new before after ending is facts at few =
    let f = of-fresh left hold input out timed old new before after ending is facts in
    let b = f.breaks_off at in
    cut-off left input out timed new b.0 b.1 before after (hold out) (hold new.sink) b.2 few b.3

-- ---- the clauses of a service

pub done-of : {S K : Type 0} (left : S → Option (List ℕ)) (hold : K → Option (List ℕ)) (input : S) (out : K) (timed : Bool) (old new : Feed S K) (before after : EndState NodeState) (ending : Served) (held : ℕ) → old ≡ fresh input out timed → Facts left hold old new before after ending
    → IfOk (ended_of ending after held) (λ e. IsServed timed before e (left input) (left new.source) (hold out) (hold new.sink))
done-of left hold input out timed old new before after ended.Ended held is facts = served-to-end left hold input out timed old new before after ended.Ended is facts refl
done-of left hold input out timed old new before after ended.InFailed held is facts = tt
done-of left hold input out timed old new before after ended.OutFailed held is facts = tt
done-of left hold input out timed old new before after (ended.Bad at) held is facts = tt
done-of left hold input out timed old new before after ended.Long held is facts = tt

bad-of : {S K : Type 0} (left : S → Option (List ℕ)) (hold : K → Option (List ℕ)) (input : S) (out : K) (timed : Bool) (old new : Feed S K) (before after : EndState NodeState) (at held : ℕ) (one : Bool)
    → old ≡ fresh input out timed → Facts left hold old new before after (ended.Bad at) → held ≡ length new.waiting → (held == 1) ≡ one
    → TellsRecord (λ place. HasNoForm timed before place (left input) (left new.source) (hold out) (hold new.sink)) (λ place. IsCut timed before place (left input) (left new.source) (hold out) (hold new.sink)) (if one then fault.Cut at else fault.Form at)
bad-of left hold input out timed old new before after at held true is facts count single = served-to-cut left hold input out timed old new before after (ended.Bad at) at held is facts refl count (grind (arith, nat_tests))
bad-of left hold input out timed old new before after at held false is facts count many =
    served-to-form left hold input out timed old new before after (ended.Bad at) at held is facts refl count
    (λ single. let both : true ≡ false = subst (λ (n : ℕ). (n == 1) ≡ false) single many in absurd cc)

pub record-of : {S K : Type 0} (left : S → Option (List ℕ)) (hold : K → Option (List ℕ)) (input : S) (out : K) (timed : Bool) (old new : Feed S K) (before after : EndState NodeState) (ending : Served) (held : ℕ) → old ≡ fresh input out timed → Facts left hold old new before after ending → held ≡ length new.waiting
    → IfErr (ended_of ending after held) (TellsRecord (λ place. HasNoForm timed before place (left input) (left new.source) (hold out) (hold new.sink)) (λ place. IsCut timed before place (left input) (left new.source) (hold out) (hold new.sink)))
record-of left hold input out timed old new before after ended.Ended held is facts count = tt
record-of left hold input out timed old new before after ended.InFailed held is facts count = tt
record-of left hold input out timed old new before after ended.OutFailed held is facts count = tt
record-of left hold input out timed old new before after (ended.Bad at) held is facts count = bad-of left hold input out timed old new before after at held (held == 1) is facts count refl
record-of left hold input out timed old new before after ended.Long held is facts count = tt

not-bad : (at : ℕ) (one : Bool) (other : ServiceFault) → (other ≡ fault.Cut at → ⊥) → (other ≡ fault.Form at → ⊥) → IsErrOf {T = EndState NodeState} (Err (if one then fault.Cut at else fault.Form at)) other → ⊥
not-bad at true other no_cut no_form told = no_cut (let same : other ≡ fault.Cut at = cc in same)
not-bad at false other no_cut no_form told = no_form (let same : other ≡ fault.Form at = cc in same)

pub long-of : {S K : Type 0} (left : S → Option (List ℕ)) (hold : K → Option (List ℕ)) (input : S) (out : K) (timed : Bool) (old new : Feed S K) (before after : EndState NodeState) (ending : Served) (held : ℕ) → old ≡ fresh input out timed → Facts left hold old new before after ending → IsErrOf (ended_of ending after held) fault.TooLong
    → Reached timed before Long (left input) (left new.source) (hold out) (hold new.sink)
long-of left hold input out timed old new before after ended.Ended held is facts told = absurd cc
long-of left hold input out timed old new before after ended.InFailed held is facts told = absurd cc
long-of left hold input out timed old new before after ended.OutFailed held is facts told = absurd cc
long-of left hold input out timed old new before after (ended.Bad at) held is facts told = absurd (not-bad at (held == 1) fault.TooLong (λ same. cc) (λ same. cc) told)
long-of left hold input out timed old new before after ended.Long held is facts told = served-to-long left hold input out timed old new before after ended.Long is facts refl

pub broken-of : {S K : Type 0} (left : S → Option (List ℕ)) (hold : K → Option (List ℕ)) (input : S) (out : K) (timed : Bool) (old new : Feed S K) (before after : EndState NodeState) (ending : Served) (held : ℕ) → old ≡ fresh input out timed → Facts left hold old new before after ending → IsErrOf (ended_of ending after held) fault.Input
    → StoppedByInput timed before (left input) (left new.source) (hold out) (hold new.sink)
broken-of left hold input out timed old new before after ended.Ended held is facts told = absurd cc
broken-of left hold input out timed old new before after ended.InFailed held is facts told = served-to-failure left hold input out timed old new before after ended.InFailed is facts refl
broken-of left hold input out timed old new before after ended.OutFailed held is facts told = absurd cc
broken-of left hold input out timed old new before after (ended.Bad at) held is facts told = absurd (not-bad at (held == 1) fault.Input (λ same. cc) (λ same. cc) told)
broken-of left hold input out timed old new before after ended.Long held is facts told = absurd cc

pub cut-of : {S K : Type 0} (left : S → Option (List ℕ)) (hold : K → Option (List ℕ)) (input : S) (out : K) (timed : Bool) (old new : Feed S K) (before after : EndState NodeState) (ending : Served) (held : ℕ) → old ≡ fresh input out timed → Facts left hold old new before after ending → length new.waiting ≤ 4096 → IsErrOf (ended_of ending after held) fault.Output
    → StoppedByOutput timed before (left input) (left new.source) (hold out) (hold new.sink)
cut-of left hold input out timed old new before after ended.Ended held is facts few told = absurd cc
cut-of left hold input out timed old new before after ended.InFailed held is facts few told = absurd cc
cut-of left hold input out timed old new before after ended.OutFailed held is facts few told = served-in-part left hold input out timed old new before after ended.OutFailed is facts refl few
cut-of left hold input out timed old new before after (ended.Bad at) held is facts few told = absurd (not-bad at (held == 1) fault.Output (λ same. cc) (λ same. cc) told)
cut-of left hold input out timed old new before after ended.Long held is facts few told = absurd cc

pub failed-input : (ending : Served) (after : EndState NodeState) (held : ℕ) → IsErrOf (ended_of ending after held) fault.Input → ending ≡ ended.InFailed
failed-input ended.Ended after held told = absurd cc
failed-input ended.InFailed after held told = refl
failed-input ended.OutFailed after held told = absurd cc
failed-input (ended.Bad at) after held told = absurd (not-bad at (held == 1) fault.Input (λ same. cc) (λ same. cc) told)
failed-input ended.Long after held told = absurd cc

pub failed-output : (ending : Served) (after : EndState NodeState) (held : ℕ) → IsErrOf (ended_of ending after held) fault.Output → ending ≡ ended.OutFailed
failed-output ended.Ended after held told = absurd cc
failed-output ended.InFailed after held told = absurd cc
failed-output ended.OutFailed after held told = refl
failed-output (ended.Bad at) after held told = absurd (not-bad at (held == 1) fault.Output (λ same. cc) (λ same. cc) told)
failed-output ended.Long after held told = absurd cc

-- what rose since a new port, rose since its source and its sink were given
pub input-rose : {S K : Type 0} (faults : S → ℕ) (input : S) (out : K) (timed : Bool) (old : Feed S K) (n : ℕ) → old ≡ fresh input out timed → Rose (faults old.source) n → Rose (faults input) n
input-rose {S} {K} faults input out timed old n is rose = subst (λ (p : Feed S K). Rose (faults p.source) n) is rose

pub output-rose : {S K : Type 0} (faults : K → ℕ) (input : S) (out : K) (timed : Bool) (old : Feed S K) (n : ℕ) → old ≡ fresh input out timed → Rose (faults old.sink) n → Rose (faults out) n
output-rose {S} {K} faults input out timed old n is rose = subst (λ (p : Feed S K). Rose (faults p.sink) n) is rose

-- ---- the end of a plan

-- what is so of an end is so of that of the plan
pub of-plan : (P : EndState NodeState → Type 0) (file : Option Filed) (issues : Commands) (end : EndState NodeState) → OfPlan file issues (λ before. end ≡ before) → P end → OfPlan file issues P
of-plan P file issues end (plan, says, is) p = (plan, says, subst P is p)

tells-so : (Formless Formless' Cut Cut' : ℕ → Type 0) (why : ServiceFault) → ((at : ℕ) → Formless at → Formless' at) → ((at : ℕ) → Cut at → Cut' at) → TellsRecord Formless Cut why → TellsRecord Formless' Cut' why
tells-so Formless Formless' Cut Cut' fault.PlanFailed form cut told = tt
tells-so Formless Formless' Cut Cut' fault.PlanTooLong form cut told = tt
tells-so Formless Formless' Cut Cut' (fault.Plan cause) form cut told = tt
tells-so Formless Formless' Cut Cut' (fault.Form at) form cut told = form at told
tells-so Formless Formless' Cut Cut' (fault.Cut at) form cut told = cut at told
tells-so Formless Formless' Cut Cut' fault.Input form cut told = tt
tells-so Formless Formless' Cut Cut' fault.Output form cut told = tt
tells-so Formless Formless' Cut Cut' fault.TooLong form cut told = tt
tells-so Formless Formless' Cut Cut' fault.NoMemory form cut told = tt

pub err-tells-so : {T : Type 0} (Formless Formless' Cut Cut' : ℕ → Type 0) (result : Result T ServiceFault) → ((at : ℕ) → Formless at → Formless' at) → ((at : ℕ) → Cut at → Cut' at) → IfErr result (TellsRecord Formless Cut) → IfErr result (TellsRecord Formless' Cut')
err-tells-so Formless Formless' Cut Cut' (Ok value) form cut told = tt
err-tells-so Formless Formless' Cut Cut' (Err why) form cut told = tells-so Formless Formless' Cut Cut' why form cut told
