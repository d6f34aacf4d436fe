-- What a port over a source and a sink gives at a call.
use Rattle.std.proofs.Common.{◌≡◌, ℕ, ◌+◌, ◌<◌, ◌≤◌, Bool, true, false, List, [], ◌∷◌, ◌++◌, length, drop, Option, Some, None, Result, Ok, Err, inl, inr, refl, ap, sym, ◌∙◌, append_assoc, append-nil, arith}
use Rattle.std.specs.Prelude.{OnErr, slice_get, nat_lt, ◌==◌, ◌&&◌, if◌then◌else◌}
use Rattle.std.proofs.lemmas.Bool.{lt-ltb, le-ltb}
use Rattle.std.specs.Io.KnownBytes.{IsAtEnd, Keeps}
use Rattle.std.proofs.KnownBytes.{Consumes-nil, Consumes-kept}
use Rattle.df1_base.specs.declared.signal.Signal.{Signal}
use Rattle.df1_base.specs.declared.signal.Signal.TheVariants.{Byte, Tick, Take, Drain, End, Bad, Long}
use Rattle.df1_base.specs.Outside.{Took}
use Rattle.df1_base.specs.Signals.{GaveOne, Gave, goes_on, input_limit, input_signals, raw_signals, timed_signals, record_signals, signal_of}
use Rattle.df1_base.specs.Feed.{Feed, Came, EndsWith, due}
use Rattle.df1_base.specs.PortLaws.{came-more}

-- bytes were taken from the source
pub came-taken : {S K : Type 0} (left : S → Option (List ℕ)) (f old : Feed S K) (source : S) (waiting : List ℕ) → f ≡ old
    → (more : List ℕ) × Took (left f.source) (left source) more × (waiting ≡ f.waiting ++ more) × (length more ≤ 4096)
    → Came left old [] (record f { source = source; waiting = waiting })
came-taken {S} {K} left f old source waiting is (more, took, waits, few) = rw (← is, waits) (record {
  more = more;
  took = took;
  gone = [];
  goes = refl;
  count = omega arith;
  timed_is = refl;
  gives = λ later. ap (λ bytes. due f.drains ++ input_signals f.timed f.used bytes) (sym (append_assoc f.waiting more later));
})

-- a read failed
pub came-kept : {S K : Type 0} (left : S → Option (List ℕ)) (f old : Feed S K) (source : S) (waiting : List ℕ) → f ≡ old → Keeps (left f.source) (left source) × (waiting ≡ f.waiting)
    → Came left old [] (record f { source = source; waiting = waiting })
came-kept left f old source waiting is (keeps, waits) = rw (← is, waits) (record {
  more = [];
  took = Consumes-kept (left f.source) (left f.source) (left source) [] (Consumes-nil (left f.source)) keeps;
  gone = [];
  goes = append-nil f.waiting;
  count = omega arith;
  timed_is = refl;
  gives = λ later. refl;
})

pub on-err : {T E P : Type 0} (r : Result T E) → P → OnErr r P
on-err (Ok value) p = tt
on-err (Err e) p = p

-- bytes went to the sink
pub came-put : {S K : Type 0} (left : S → Option (List ℕ)) (f old : Feed S K) (sink : K) → f ≡ old → Came left old [] (record f { sink = sink })
came-put left f old sink is = rw (← is) (record {
  more = [];
  took = Consumes-nil (left f.source);
  gone = [];
  goes = append-nil f.waiting;
  count = omega arith;
  timed_is = refl;
  gives = λ later. refl;
})

-- the Drain that was due came
pub came-drain : {S K : Type 0} (left : S → Option (List ℕ)) (f old : Feed S K) → f ≡ old → f.drains ≡ true → Came left old (Drain ∷ []) (record f { drains = false })
came-drain left f old is is_due = rw (← is) (record {
  more = [];
  took = Consumes-nil (left f.source);
  gone = [];
  goes = append-nil f.waiting;
  count = omega arith;
  timed_is = refl;
  gives = λ later. rw is_due refl;
})

-- a signal that came later
gave-after-by : {S K : Type 0} (left : S → Option (List ℕ)) (f g h : Feed S K) (signal : Signal) (follows : Bool) → Came left f [] g → GaveOne (Came left) (EndsWith left) follows g h signal → GaveOne (Came left) (EndsWith left) follows f h signal
gave-after-by left f g h signal true came gave = came-more left f g h [] (signal ∷ []) came gave
gave-after-by left f g h signal false came gave = (came-more left f g h [] [] came gave.0, gave.1)

pub gave-after : {S K : Type 0} (left : S → Option (List ℕ)) (f g h : Feed S K) (signal : Signal) → Came left f [] g → Gave (Came left) (EndsWith left) g h signal → Gave (Came left) (EndsWith left) f h signal
gave-after left f g h signal came gave = gave-after-by left f g h signal (goes_on signal) came gave

-- ---- a raw input

first-byte : (bytes later : List ℕ) (at b : ℕ) → slice_get bytes 0 ≡ Some b → at < input_limit
    → raw_signals at (bytes ++ later) ≡ Byte b ∷ Drain ∷ raw_signals (at + 1) (drop 1 bytes ++ later)
first-byte [] later at b is room = cc
first-byte (x ∷ bytes) later at b is room = let same : x ≡ b = cc in rw (lt-ltb at input_limit room, same) refl

first-goes : (bytes : List ℕ) (b : ℕ) → slice_get bytes 0 ≡ Some b → bytes ++ [] ≡ b ∷ drop 1 bytes
first-goes [] b is = cc
first-goes (x ∷ bytes) b is = let same : x ≡ b = cc in rw same (ap (λ rest. b ∷ rest) (append-nil bytes))

byte-came : {S K : Type 0} (left : S → Option (List ℕ)) (f : Feed S K) (b : ℕ) → slice_get f.waiting 0 ≡ Some b → f.used < input_limit → f.timed ≡ false → f.drains ≡ false
    → Came left f (Byte b ∷ []) (record f { used = f.used + 1; waiting = drop 1 f.waiting; drains = true })
byte-came left f b first room raw none_due = record {
  more = [];
  took = Consumes-nil (left f.source);
  gone = b ∷ [];
  goes = first-goes f.waiting b first;
  count = refl;
  timed_is = refl;
  gives = λ later. rw (raw, none_due) (first-byte f.waiting later f.used b first room);
}

pub came-byte : {S K : Type 0} (left : S → Option (List ℕ)) (f old : Feed S K) (b : ℕ) (waiting : List ℕ) → f ≡ old → waiting ≡ drop 1 f.waiting
    → slice_get old.waiting 0 ≡ Some b → old.used < input_limit → old.timed ≡ false → old.drains ≡ false
    → Came left old (Byte b ∷ []) (record f { used = f.used + 1; waiting = waiting; drains = true })
came-byte left f old b waiting is skipped first room raw none_due =
    rw (skipped, is) (byte-came left old b first room raw none_due)

-- ---- a timed input

first-record : (bytes later : List ℕ) (at form b : ℕ) → slice_get bytes 0 ≡ Some form → slice_get bytes 1 ≡ Some b → at < input_limit
    → timed_signals at (bytes ++ later) ≡ record_signals at (signal_of form b) (timed_signals (at + 2) (drop 2 bytes ++ later))
first-record [] later at form b is next room = cc
first-record (x ∷ []) later at form b is next room = cc
first-record (x ∷ y ∷ bytes) later at form b is next room =
    let same : x ≡ form = cc in
    let same_next : y ≡ b = cc in
    rw (lt-ltb at input_limit room, same, same_next) refl

two-go : (bytes : List ℕ) (form b : ℕ) → slice_get bytes 0 ≡ Some form → slice_get bytes 1 ≡ Some b → bytes ++ [] ≡ form ∷ b ∷ drop 2 bytes
two-go [] form b is next = cc
two-go (x ∷ []) form b is next = cc
two-go (x ∷ y ∷ bytes) form b is next =
    let same : x ≡ form = cc in
    let same_next : y ≡ b = cc in
    rw (same, same_next) (ap (λ rest. form ∷ b ∷ rest) (append-nil bytes))

record-came : {S K : Type 0} (left : S → Option (List ℕ)) (f : Feed S K) (form b : ℕ) (signal : Signal)
    → slice_get f.waiting 0 ≡ Some form → slice_get f.waiting 1 ≡ Some b → signal_of form b ≡ Some signal → f.used < input_limit → f.timed ≡ true → f.drains ≡ false
    → Came left f (signal ∷ []) (record f { used = f.used + 2; waiting = drop 2 f.waiting })
record-came left f form b signal first next is room timed none_due = record {
  more = [];
  took = Consumes-nil (left f.source);
  gone = form ∷ b ∷ [];
  goes = two-go f.waiting form b first next;
  count = refl;
  timed_is = refl;
  gives = λ later. rw (timed, none_due) (first-record f.waiting later f.used form b first next room ∙ ap (λ s. record_signals f.used s (timed_signals (f.used + 2) (drop 2 f.waiting ++ later))) is);
}

-- others may follow each signal of a record
follows-by : (form b : ℕ) (plain tick take drain : Bool) (signal : Signal)
    → (if plain then Some (Byte b) else if tick then Some Tick else if take then Some Take else if drain then Some Drain else None) ≡ Some signal
    → goes_on signal ≡ true
follows-by form b true tick take drain signal is = cc
follows-by form b false true take drain signal is = cc
follows-by form b false false true drain signal is = cc
follows-by form b false false false true signal is = cc
follows-by form b false false false false signal is = cc

pub follows : (form b : ℕ) (signal : Signal) → signal_of form b ≡ Some signal → goes_on signal ≡ true
follows form b signal is = follows-by form b (form == 0) ((form == 1) && (b == 0)) ((form == 2) && (b == 0)) ((form == 3) && (b == 0)) signal is

get-front : (bytes more : List ℕ) (x : ℕ) → slice_get bytes 0 ≡ Some x → slice_get (bytes ++ more) 0 ≡ Some x
get-front [] more x is = cc
get-front (y ∷ bytes) more x is = is

-- ---- the last signal

end-of : (timed : Bool) (at : ℕ) → input_signals timed at [] ≡ End ∷ []
end-of true at = refl
end-of false at = refl

nothing : (bytes : List ℕ) → length bytes ≡ 0 → bytes ≡ []
nothing [] none = refl
nothing (x ∷ bytes) none = absurd (omega (arith, none))

-- the end of the input, where nothing waits
pub gave-end : {S K : Type 0} (left : S → Option (List ℕ)) (f old : Feed S K) (source : S) (waiting : List ℕ) → f ≡ old
    → (more : List ℕ) × Took (left f.source) (left source) more × (waiting ≡ f.waiting ++ more) × (length more ≤ 4096)
    → length waiting ≡ 0 → IsAtEnd (left source) → old.drains ≡ false
    → Gave (Came left) (EndsWith left) old (record f { source = source; waiting = waiting }) End
gave-end left f old source waiting is taken none ended none_due = (
  came-taken left f old source waiting is taken,
  inr (ended, rw (is, none_due, nothing waiting none) (end-of old.timed old.used)),
)

long-of : (timed : Bool) (at x : ℕ) (rest : List ℕ) → input_limit ≤ at → input_signals timed at (x ∷ rest) ≡ Long ∷ []
long-of false at x rest over = rw (le-ltb at input_limit over) refl
long-of true at x [] over = rw (le-ltb at input_limit over) refl
long-of true at x (y ∷ rest) over = rw (le-ltb at input_limit over) refl

long-first : (timed : Bool) (at b : ℕ) (bytes later : List ℕ) → slice_get bytes 0 ≡ Some b → input_limit ≤ at → input_signals timed at (bytes ++ later) ≡ Long ∷ []
long-first timed at b [] later is over = cc
long-first timed at b (x ∷ bytes) later is over = long-of timed at x (bytes ++ later) over

long-held : (timed : Bool) (at b : ℕ) (bytes : List ℕ) → slice_get bytes 0 ≡ Some b → input_limit ≤ at → nat_lt (if timed && nat_lt at input_limit then 1 else 0) (length bytes) ≡ true
long-held timed at b [] is over = cc
long-held true at b (x ∷ bytes) is over = rw (le-ltb at input_limit over) (lt-ltb 0 (length (x ∷ bytes)) (omega arith))
long-held false at b (x ∷ bytes) is over = lt-ltb 0 (length (x ∷ bytes)) (omega arith)

-- a byte past the limit
pub gave-long : {S K : Type 0} (left : S → Option (List ℕ)) (f old : Feed S K) (source : S) (waiting : List ℕ) (b : ℕ) → f ≡ old
    → (more : List ℕ) × Took (left f.source) (left source) more × (waiting ≡ f.waiting ++ more) × (length more ≤ 4096)
    → slice_get waiting 0 ≡ Some b → input_limit ≤ f.used → old.drains ≡ false
    → Gave (Came left) (EndsWith left) old (record f { source = source; waiting = waiting }) Long
gave-long left f old source waiting b is taken first over none_due = (
  came-taken left f old source waiting is taken,
  inl (
    rw (is, none_due) (long-held old.timed old.used b waiting first (rw is at over)),
    λ later. rw (is, none_due) (long-first old.timed old.used b waiting later first (rw is at over)),
  ),
)

two-held : (at b : ℕ) (bytes : List ℕ) → slice_get bytes 1 ≡ Some b → at < input_limit → nat_lt (if nat_lt at input_limit then 1 else 0) (length bytes) ≡ true
two-held at b [] is room = cc
two-held at b (x ∷ []) is room = cc
two-held at b (x ∷ y ∷ bytes) is room = rw (lt-ltb at input_limit room) (lt-ltb 1 (length (x ∷ y ∷ bytes)) (omega arith))

-- a record of none of the forms
pub gave-bad : {S K : Type 0} (left : S → Option (List ℕ)) (f old : Feed S K) (source : S) (waiting : List ℕ) (form b : ℕ) → f ≡ old
    → (more : List ℕ) × Took (left f.source) (left source) more × (waiting ≡ f.waiting ++ more) × (length more ≤ 4096)
    → slice_get old.waiting 0 ≡ Some form → slice_get waiting 1 ≡ Some b → signal_of form b ≡ None → old.used < input_limit → old.timed ≡ true → old.drains ≡ false
    → Gave (Came left) (EndsWith left) old (record f { source = source; waiting = waiting }) (Bad f.used)
gave-bad left f old source waiting form b is (more, took, waits, few) first next bad room timed none_due =
    let front : slice_get waiting 0 ≡ Some form = rw (waits, is) (get-front old.waiting more form first) in (
      came-taken left f old source waiting is (more, took, waits, few),
      inl (
        rw (is, timed, none_due) (two-held old.used b waiting next room),
        λ later. rw (is, timed, none_due)
            (first-record waiting later old.used form b front next room ∙ ap (λ s. record_signals old.used s (timed_signals (old.used + 2) (drop 2 waiting ++ later))) bad),
      ),
    )

cut-of : (bytes : List ℕ) (at : ℕ) → length bytes ≡ 1 → at < input_limit → timed_signals at (bytes ++ []) ≡ Bad at ∷ []
cut-of [] at one room = absurd (omega (arith, one))
cut-of (x ∷ []) at one room = rw (lt-ltb at input_limit room) refl
cut-of (x ∷ y ∷ bytes) at one room = absurd (omega (arith, one))

-- a single last byte
pub gave-cut : {S K : Type 0} (left : S → Option (List ℕ)) (f old : Feed S K) (source : S) (waiting : List ℕ) → f ≡ old
    → (more : List ℕ) × Took (left f.source) (left source) more × (waiting ≡ f.waiting ++ more) × (length more ≤ 4096)
    → length waiting ≡ 1 → IsAtEnd (left source) → old.used < input_limit → old.timed ≡ true → old.drains ≡ false
    → Gave (Came left) (EndsWith left) old (record f { source = source; waiting = waiting }) (Bad f.used)
gave-cut left f old source waiting is taken one ended room timed none_due = (
  came-taken left f old source waiting is taken,
  inr (ended, rw (is, timed, none_due) (cut-of waiting old.used one room)),
)

-- ---- a record

gave-one-on : {S K : Type 0} (left : S → Option (List ℕ)) (f h : Feed S K) (signal : Signal) → goes_on signal ≡ true → Came left f (signal ∷ []) h → Gave (Came left) (EndsWith left) f h signal
gave-one-on left f h signal on came = rw on came

pub gave-record : {S K : Type 0} (left : S → Option (List ℕ)) (f old : Feed S K) (source : S) (waiting later : List ℕ) (form b : ℕ) (signal : Signal) → f ≡ old
    → (more : List ℕ) × Took (left f.source) (left source) more × (waiting ≡ f.waiting ++ more) × (length more ≤ 4096) → later ≡ drop 2 waiting
    → slice_get old.waiting 0 ≡ Some form → slice_get waiting 1 ≡ Some b → signal_of form b ≡ Some signal → old.used < input_limit → old.timed ≡ true → old.drains ≡ false
    → Gave (Came left) (EndsWith left) old (record f { source = source; used = f.used + 2; waiting = later }) signal
gave-record left f old source waiting later form b signal is (more, took, waits, few) skipped first next given room timed none_due =
    let mid = record f { source = source; waiting = waiting } in
    let front : slice_get waiting 0 ≡ Some form = rw (waits, is) (get-front old.waiting more form first) in
    let came : Came left old [] mid = came-taken left f old source waiting is (more, took, waits, few) in
    let last : Came left mid (signal ∷ []) (record mid { used = mid.used + 2; waiting = drop 2 mid.waiting }) =
    record-came left mid form b signal front next given (rw is room) (rw is timed) (rw is none_due) in
    rw skipped (gave-one-on left old (record mid { used = mid.used + 2; waiting = drop 2 mid.waiting }) signal (follows form b signal given)
    (came-more left old mid (record mid { used = mid.used + 2; waiting = drop 2 mid.waiting }) [] (signal ∷ []) came last))
