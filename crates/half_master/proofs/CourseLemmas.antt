-- The course of a master's message goes with its phase, and its fates are told exactly where the course says.
use Rattle.std.proofs.Common.{◌≡◌, ◌<◌, ◌≤◌, ℕ, suc, ◌+◌, ◌-◌, Bool, true, false, List, [], ◌∷◌, ◌++◌, Option, Some, None, is_some, refl, ap, sym, subst, ◌∙◌, arith}
use Rattle.std.specs.Prelude.{◌↔◌, option_to_list, nat_lt, slice_get, slice_index, ◌==◌, if◌then◌else◌}
use Rattle.std.specs.Option.{option_map}
use Rattle.std.proofs.lemmas.Bool.{cond_both, both_ways}
use Rattle.std.proofs.lemmas.Bool.Decides.{nat_tests}
use Rattle.df1_base.specs.declared.host.Host.{Ghosts}
use Rattle.df1_base.specs.declared.host.Fate.{Fate}
use Rattle.df1_base.specs.declared.host.Fate.TheVariants as fate
use Rattle.df1_base.specs.HostAnswers.{host_told}
use Rattle.half_frame.specs.declared.framer.Sent.{Sent}
use Rattle.half_frame.specs.declared.heard.MasterHeard.{MasterHeard}
use Rattle.half_frame.specs.declared.heard.MasterHeard.TheVariants as heard
use Rattle.df1_frame.specs.Spelling.{check_of}
use Rattle.half_frame.specs.Spelling.{station_head, text_sent}
use Rattle.half_mouth.specs.Giving.{Giving, is_done, taken, take}
use Rattle.half_mouth.specs.Transmissions.{ends_here}
use Rattle.half_mouth.proofs.Wires.{some-left}
use Rattle.pccc_envelope.specs.Accepted.{Verdict, Repeated, Accepted, Refused}
use Rattle.half_master.specs.declared.MasterSetup.{MasterSetup}
use Rattle.half_master.specs.declared.stations.Station.{Station}
use Rattle.half_master.specs.declared.table.Phase.{Phase}
use Rattle.half_master.specs.declared.table.Phase.TheVariants as phase
use Rattle.half_master.specs.declared.table.Effect.{Effect}
use Rattle.half_master.specs.declared.table.Effect.TheVariants as effect
use Rattle.half_master.specs.Stations.{is_listed}
use Rattle.half_master.specs.Master.{MasterState, with_host, with_byte, heard_at, body_of, unacknowledged, effect_of_verdict, answered, effect_on_message, effect_on_poll, effect_in, effect_of_tick, effect_of_byte, effect_at_tick, with_left, polled, performed, fate_of, host_accepted, host_ticked, transmitted, message_next, begun_of, given_next}
use Rattle.half_master.specs.Emission.{Letter, Byte, Tick, Take, master_after}
use Rattle.half_master.specs.Fates.{HandedOut, ForNoStation, events_of, handed_out, events_at}
use Rattle.half_master.specs.Course.{Course, fates_in, fate_of_next, fate_at, course_heard, course_given, course_told, course_at, is_waiting, IsLastTick, IsSpent, IsDelivered, IsForNoStation, IsGivenUp}
use Rattle.half_master.specs.Past.{Past, Came, begins, goes_on, changes}
use Rattle.half_master.proofs.FateLemmas.{begins-when}
use Rattle.half_master.proofs.Runs.{signal-setup}

-- ---- the course goes with the phase

-- no message waits, and none was given
abbrev IsFresh : MasterSetup → Course → Type 0
IsFresh setup c = (is_waiting setup c ≡ false) × (c.given ≡ 0)

-- a message waits since so many ticks
record Awaits (setup : MasterSetup) (c : Course) (left resent : ℕ) : Type 0 where
  pub since : ℕ
  pub ticks : c.ticks ≡ Some since
  pub all : since + left ≡ setup.ack_ticks
  pub some : 1 ≤ left
  pub given : c.given ≡ resent + 1
  pub within : resent ≤ setup.max_resends

-- a message is being given
record BeingGiven (setup : MasterSetup) (c : Course) (left resent : ℕ) : Type 0 where
  pub waits_not : is_waiting setup c ≡ false
  pub given : c.given ≡ resent
  pub all : left ≡ setup.ack_ticks
  pub within : resent ≤ setup.max_resends

-- by the phase, and whether nothing is left to be given
abbrev GoesWith : MasterSetup → Course → Bool → Phase → Type 0
GoesWith setup c done phase.Idle = IsFresh setup c
GoesWith setup c true (phase.WaitsForAck left resent) = Awaits setup c left resent
GoesWith setup c false (phase.WaitsForAck left resent) = BeingGiven setup c left resent
GoesWith setup c done (phase.WaitsAfterPoll left place) = IsFresh setup c

-- what is given before a wait for ACK is a transmission, and before another phase none
abbrev Numbered : Giving → Phase → Type 0
Numbered g phase.Idle = is_done g ≡ false → g.number ≡ None
Numbered g (phase.WaitsForAck left resent) = is_some g.number ≡ true
Numbered g (phase.WaitsAfterPoll left place) = is_done g ≡ false → g.number ≡ None

record Follows (setup : MasterSetup) (c : Course) (g : Giving) (at : Phase) : Type 0 where
  pub tick : 1 ≤ setup.ack_ticks
  pub goes : GoesWith setup c (is_done g) at
  pub number : Numbered g at

-- ---- what the waiting is

waits-since : (setup : MasterSetup) (c : Course) (n : ℕ) → c.ticks ≡ Some n → n < setup.ack_ticks → is_waiting setup c ≡ true
waits-since setup c n is few = rw is (grind (arith, nat_tests))

over-since : (setup : MasterSetup) (c : Course) (n : ℕ) → c.ticks ≡ Some n → setup.ack_ticks ≤ n → is_waiting setup c ≡ false
over-since setup c n is many = rw is (grind (arith, nat_tests))

waits-not : (setup : MasterSetup) (given : ℕ) → is_waiting setup (record { given = given; ticks = None }) ≡ false
waits-not setup given = refl

-- where none waits, a tick more changes nothing
one-tick : (setup : MasterSetup) (given : ℕ) (ticks : Option ℕ) → is_waiting setup (record { given = given; ticks = ticks }) ≡ false → is_waiting setup (record { given = given; ticks = option_map suc ticks }) ≡ false
one-tick setup given None not = refl
one-tick setup given (Some n) not = grind (arith, nat_tests)

heard-not : (setup : MasterSetup) (c : Course) (what : Option MasterHeard) → is_waiting setup c ≡ false → (is_waiting setup (course_heard what c) ≡ false) × ((course_heard what c).given ≡ c.given)
heard-not setup c None not = (not, refl)
heard-not setup c (Some heard.Good) not = (not, refl)
heard-not setup c (Some heard.Damaged) not = (not, refl)
heard-not setup c (Some heard.Ack) not = (refl, refl)
heard-not setup c (Some heard.Nak) not = (refl, refl)
heard-not setup c (Some heard.Eot) not = (not, refl)
heard-not setup c (Some (heard.Stray b)) not = (not, refl)
heard-not setup c (Some (heard.StrayPair code)) not = (not, refl)

-- it isn't the last tick then
not-last : (setup : MasterSetup) (c : Course) → 1 ≤ setup.ack_ticks → is_waiting setup c ≡ false → IsLastTick setup c → ⊥
not-last setup c some not last = both_ways (is_waiting setup c) not (waits-since setup c (setup.ack_ticks - 1) last (omega arith))

fresh-heard : (setup : MasterSetup) (c : Course) (what : Option MasterHeard) → IsFresh setup c → IsFresh setup (course_heard what c)
fresh-heard setup c what fresh = let now = heard-not setup c what fresh.0 in (now.0, now.1 ∙ fresh.1)

fresh-tick : (setup : MasterSetup) (c : Course) → IsFresh setup c → IsFresh setup (record { given = c.given; ticks = option_map suc c.ticks })
fresh-tick setup c fresh = (one-tick setup c.given c.ticks fresh.0, fresh.1)

-- ---- what an effect leaves

idle-follows : (setup : MasterSetup) (c : Course) (g : Giving) → 1 ≤ setup.ack_ticks → IsFresh setup c → is_done g ≡ true → Follows setup c g phase.Idle
idle-follows setup c g some fresh done = record { tick = some; goes = fresh; number = λ gives. absurd (both_ways (is_done g) gives done) }

-- a message is given again
again-follows : {H : Type 0} (e : MasterState H) (c : Course) (resent : ℕ) → 1 ≤ e.setup.ack_ticks → is_waiting e.setup c ≡ false → c.given ≡ resent → resent ≤ e.setup.max_resends → Follows e.setup c (transmitted e resent).mouth (transmitted e resent).phase
again-follows e c resent some not given within =
    let head = slice_index e.sending 0 in
    let gives : is_done (transmitted e resent).mouth ≡ false =
    some-left (record { byte = 16; of_body = false }) (record { byte = 1; of_body = false } ∷ record { byte = head; of_body = false } ∷ text_sent e.sending (check_of e.setup.check (station_head e.setup.check head ++ e.sending))) in
    record {
      tick = some;
      goes = subst (λ (done : Bool). GoesWith e.setup c done (phase.WaitsForAck e.setup.ack_ticks resent)) (sym gives) (record { waits_not = not; given = given; all = refl; within = within });
      number = refl;
    }

-- a message that wasn't acknowledged: the course has counted it
unacknowledged-follows : {H : Type 0} (e : MasterState H) (given : ℕ) (ticks : Option ℕ) (resent : ℕ) → 1 ≤ e.setup.ack_ticks → is_waiting e.setup (record { given = given; ticks = ticks }) ≡ false → given ≡ resent + 1 → is_done e.mouth ≡ true
    → let what = unacknowledged e.setup resent in let after = performed e what in
    Follows e.setup (course_told (fate_of what) (record { given = given; ticks = ticks })) after.mouth after.phase
unacknowledged-follows {H} e given ticks resent some not is done =
    cond_both (nat_lt resent e.setup.max_resends) (effect.Again (resent + 1)) effect.GivenUp
    (λ (what : Effect). Follows e.setup (course_told (fate_of what) (record { given = given; ticks = ticks })) (performed e what).mouth (performed e what).phase)
    (λ few. again-follows e (record { given = given; ticks = ticks }) (resent + 1) some not is (grind (arith, nat_tests)))
    (λ many. idle-follows e.setup (record { given = 0; ticks = ticks }) e.mouth some (not, refl) done)

polled-follows : {H : Type 0} (e : MasterState H) (c : Course) (o : Option Station) → 1 ≤ e.setup.ack_ticks → IsFresh e.setup c → Follows e.setup c e.mouth e.phase → Follows e.setup c (polled e o).mouth (polled e o).phase
polled-follows e c None some fresh f = f
polled-follows e c (Some station) some fresh f = record { tick = some; goes = fresh; number = λ gives. refl }

-- ---- what is heard after a poll

-- no fate is told there, and no message is begun
abbrev OfPoll : Effect → Type 0
OfPoll effect.Nothing = Unit {0}
OfPoll (effect.Waits left) = ⊥
OfPoll effect.Delivered = ⊥
OfPoll (effect.Again resent) = ⊥
OfPoll effect.GivenUp = ⊥
OfPoll effect.PollOver = Unit {0}
OfPoll (effect.Accepted place) = Unit {0}
OfPoll effect.Repeated = Unit {0}
OfPoll effect.Refused = Unit {0}
OfPoll effect.Damaged = Unit {0}
OfPoll effect.Polls = ⊥

verdict-of : (place : ℕ) (v : Verdict) → OfPoll (effect_of_verdict place v)
verdict-of place Repeated = tt
verdict-of place Accepted = tt
verdict-of place Refused = tt

answered-of : (room : List ℕ → Bool) (place : ℕ) (o : Option Station) (body : List ℕ) → OfPoll (answered room place o body)
answered-of room place None body = tt
answered-of room place (Some station) body = cond_both (slice_index body 1 == station.number) _ _ OfPoll (λ is. verdict-of place _) (λ is. tt)

poll-of : (good : Effect) (what : Option MasterHeard) → OfPoll good → OfPoll (effect_on_poll good what)
poll-of good None of_it = tt
poll-of good (Some heard.Good) of_it = of_it
poll-of good (Some heard.Damaged) of_it = tt
poll-of good (Some heard.Ack) of_it = tt
poll-of good (Some heard.Nak) of_it = tt
poll-of good (Some heard.Eot) of_it = tt
poll-of good (Some (heard.Stray b)) of_it = tt
poll-of good (Some (heard.StrayPair code)) of_it = tt

of_poll-fate : (what : Effect) → OfPoll what → fate_of what ≡ None
of_poll-fate effect.Nothing of_it = refl
of_poll-fate (effect.Waits left) of_it = absurd of_it
of_poll-fate effect.Delivered of_it = absurd of_it
of_poll-fate (effect.Again resent) of_it = absurd of_it
of_poll-fate effect.GivenUp of_it = absurd of_it
of_poll-fate effect.PollOver of_it = refl
of_poll-fate (effect.Accepted place) of_it = refl
of_poll-fate effect.Repeated of_it = refl
of_poll-fate effect.Refused of_it = refl
of_poll-fate effect.Damaged of_it = refl
of_poll-fate effect.Polls of_it = absurd of_it

of_poll-follows : {H : Type 0} (e : MasterState H) (c : Course) (what : Effect) → OfPoll what → 1 ≤ e.setup.ack_ticks → IsFresh e.setup c → is_done e.mouth ≡ true → Follows e.setup c e.mouth e.phase
    → Follows e.setup c (performed e what).mouth (performed e what).phase
of_poll-follows e c effect.Nothing of_it some fresh done f = f
of_poll-follows e c (effect.Waits left) of_it some fresh done f = absurd of_it
of_poll-follows e c effect.Delivered of_it some fresh done f = absurd of_it
of_poll-follows e c (effect.Again resent) of_it some fresh done f = absurd of_it
of_poll-follows e c effect.GivenUp of_it some fresh done f = absurd of_it
of_poll-follows e c effect.PollOver of_it some fresh done f = idle-follows e.setup c e.mouth some fresh done
of_poll-follows e c (effect.Accepted place) of_it some fresh done f = record { tick = some; goes = fresh; number = λ gives. refl }
of_poll-follows e c effect.Repeated of_it some fresh done f = record { tick = some; goes = fresh; number = λ gives. refl }
of_poll-follows e c effect.Refused of_it some fresh done f = f
of_poll-follows e c effect.Damaged of_it some fresh done f = f
of_poll-follows e c effect.Polls of_it some fresh done f = absurd of_it

-- ---- a byte, by the phase

-- nothing is done, and none waits
nothing-heard : (setup : MasterSetup) (c : Course) (g : Giving) (at : Phase) (what : Option MasterHeard) (done : Bool) → is_done g ≡ done → is_waiting setup c ≡ false → Follows setup c g at → Follows setup (course_heard what c) g at
nothing-heard setup c g phase.Idle what done is not f = record { tick = f.tick; goes = fresh-heard setup c what f.goes; number = f.number }
nothing-heard setup c g (phase.WaitsForAck left resent) what true is not f =
    let a : Awaits setup c left resent = subst (λ (d : Bool). GoesWith setup c d (phase.WaitsForAck left resent)) is f.goes in
    absurd (both_ways (is_waiting setup c) not (waits-since setup c a.since a.ticks (let all = a.all in let some = a.some in omega (arith, all, some))))
nothing-heard setup c g (phase.WaitsForAck left resent) what false is not f =
    let b : BeingGiven setup c left resent = subst (λ (d : Bool). GoesWith setup c d (phase.WaitsForAck left resent)) is f.goes in
    let now = heard-not setup c what not in
    record {
      tick = f.tick;
      goes = subst (λ (d : Bool). GoesWith setup (course_heard what c) d (phase.WaitsForAck left resent)) (sym is) (record { waits_not = now.0; given = now.1 ∙ b.given; all = b.all; within = b.within });
      number = f.number;
    }
nothing-heard setup c g (phase.WaitsAfterPoll left place) what done is not f = record { tick = f.tick; goes = fresh-heard setup c what f.goes; number = f.number }

-- while bytes are given none waits
giving-waits_not : (setup : MasterSetup) (c : Course) (at : Phase) → GoesWith setup c false at → is_waiting setup c ≡ false
giving-waits_not setup c phase.Idle goes = goes.0
giving-waits_not setup c (phase.WaitsForAck left resent) goes = goes.waits_not
giving-waits_not setup c (phase.WaitsAfterPoll left place) goes = goes.0

-- in a wait for ACK
message-heard : {H : Type 0} (e : MasterState H) (c : Course) (left resent : ℕ) (what : Option MasterHeard) → 1 ≤ e.setup.ack_ticks → is_done e.mouth ≡ true → e.phase ≡ phase.WaitsForAck left resent → Awaits e.setup c left resent → Follows e.setup c e.mouth e.phase
    → let done = effect_on_message e.setup resent what in let after = performed e done in Follows e.setup (course_told (fate_of done) (course_heard what c)) after.mouth after.phase
message-heard e c left resent None some done at a f = f
message-heard e c left resent (Some heard.Good) some done at a f = f
message-heard e c left resent (Some heard.Damaged) some done at a f = f
message-heard e c left resent (Some heard.Ack) some done at a f = idle-follows e.setup (record { given = 0; ticks = None }) e.mouth some (refl, refl) done
message-heard e c left resent (Some heard.Nak) some done at a f = unacknowledged-follows e c.given None resent some refl a.given done
message-heard e c left resent (Some heard.Eot) some done at a f = f
message-heard e c left resent (Some (heard.Stray b)) some done at a f = f
message-heard e c left resent (Some (heard.StrayPair code)) some done at a f = f

done-heard : {H : Type 0} (m : Ghosts H) (e told : MasterState H) (c : Course) (what : Option MasterHeard) (at : Phase) → told.setup ≡ e.setup → told.mouth ≡ e.mouth → told.phase ≡ e.phase → e.phase ≡ at → is_done e.mouth ≡ true → Follows e.setup c e.mouth e.phase
    → let done = effect_in m e what at in Follows told.setup (course_told (fate_of done) (course_heard what c)) (performed told done).mouth (performed told done).phase
done-heard m e told c what phase.Idle setup mouth same is done f =
    let t : Follows told.setup c told.mouth told.phase = rw (setup, mouth, same) f in
    let fresh : IsFresh told.setup c = subst (λ (p : Phase). GoesWith told.setup c (is_done told.mouth) p) (same ∙ is) t.goes in
    nothing-heard told.setup c told.mouth told.phase what (is_done told.mouth) refl fresh.0 t
done-heard m e told c what (phase.WaitsForAck left resent) setup mouth same is done f =
    let t : Follows told.setup c told.mouth told.phase = rw (setup, mouth, same) f in
    let tdone : is_done told.mouth ≡ true = ap is_done mouth ∙ done in
    let a : Awaits told.setup c left resent = subst (λ (d : Bool). GoesWith told.setup c d (phase.WaitsForAck left resent)) tdone (subst (λ (p : Phase). GoesWith told.setup c (is_done told.mouth) p) (same ∙ is) t.goes) in
    subst (λ (s : MasterSetup). let done = effect_on_message s resent what in Follows told.setup (course_told (fate_of done) (course_heard what c)) (performed told done).mouth (performed told done).phase) setup
    (message-heard told c left resent what t.tick tdone (same ∙ is) a t)
done-heard m e told c what (phase.WaitsAfterPoll left place) setup mouth same is done f =
    let t : Follows told.setup c told.mouth told.phase = rw (setup, mouth, same) f in
    let tdone : is_done told.mouth ≡ true = ap is_done mouth ∙ done in
    let fresh : IsFresh told.setup c = subst (λ (p : Phase). GoesWith told.setup c (is_done told.mouth) p) (same ∙ is) t.goes in
    let of_it = poll-of (answered (m.room_for e.host) place (slice_get e.stations place) (body_of e)) what (answered-of (m.room_for e.host) place (slice_get e.stations place) (body_of e)) in
    let what_is = effect_on_poll (answered (m.room_for e.host) place (slice_get e.stations place) (body_of e)) what in
    let later = course_heard what c in
    let later_fresh = fresh-heard told.setup c what fresh in
    subst (λ (o : Option Fate). Follows told.setup (course_told o later) (performed told what_is).mouth (performed told what_is).phase) (sym (of_poll-fate what_is of_it))
    (of_poll-follows told later what_is of_it t.tick later_fresh tdone (nothing-heard told.setup c told.mouth told.phase what (is_done told.mouth) refl fresh.0 t))

byte-follows : {H : Type 0} (m : Ghosts H) (e : MasterState H) (b : ℕ) (c : Course) → Follows e.setup c e.mouth e.phase
    → Follows e.setup (course_at m e (Byte b) c) (master_after m e (Byte b)).mouth (master_after m e (Byte b)).phase
byte-follows {H} m e b c f =
    let what = heard_at e b in
    let taken_in = with_byte e b in
    let told : Effect → MasterState H = λ (x : Effect). with_host taken_in (host_told m (fate_of x) (host_accepted m x e.host (body_of taken_in))) in
    cond_both (is_done e.mouth) (effect_in m taken_in what e.phase) effect.Nothing
    (λ (x : Effect). Follows e.setup (course_told (fate_of x) (course_heard what c)) (performed (told x) x).mouth (performed (told x) x).phase)
    (λ done. done-heard m taken_in (told (effect_in m taken_in what e.phase)) c what e.phase refl refl refl refl done f)
    (λ gives. nothing-heard e.setup c e.mouth e.phase what false gives (giving-waits_not e.setup c e.phase (subst (λ (d : Bool). GoesWith e.setup c d e.phase) gives f.goes)) f)

-- ---- a tick

abbrev ticked : Course → Course
ticked c = record { given = c.given; ticks = option_map suc c.ticks }

-- nothing is done, and none waits
nothing-ticked : (setup : MasterSetup) (c : Course) (g : Giving) (at : Phase) (done : Bool) → is_done g ≡ done → is_waiting setup c ≡ false → Follows setup c g at → Follows setup (ticked c) g at
nothing-ticked setup c g phase.Idle done is not f = record { tick = f.tick; goes = fresh-tick setup c f.goes; number = f.number }
nothing-ticked setup c g (phase.WaitsForAck left resent) true is not f =
    let a : Awaits setup c left resent = subst (λ (d : Bool). GoesWith setup c d (phase.WaitsForAck left resent)) is f.goes in
    absurd (both_ways (is_waiting setup c) not (waits-since setup c a.since a.ticks (let all = a.all in let some = a.some in omega (arith, all, some))))
nothing-ticked setup c g (phase.WaitsForAck left resent) false is not f =
    let b : BeingGiven setup c left resent = subst (λ (d : Bool). GoesWith setup c d (phase.WaitsForAck left resent)) is f.goes in
    record {
      tick = f.tick;
      goes = subst (λ (d : Bool). GoesWith setup (ticked c) d (phase.WaitsForAck left resent)) (sym is) (record { waits_not = one-tick setup c.given c.ticks not; given = b.given; all = b.all; within = b.within });
      number = f.number;
    }
nothing-ticked setup c g (phase.WaitsAfterPoll left place) done is not f = record { tick = f.tick; goes = fresh-tick setup c f.goes; number = f.number }

-- a tick of a wait for ACK
message-ticked : {H : Type 0} (e : MasterState H) (c : Course) (left resent : ℕ) → is_done e.mouth ≡ true → e.phase ≡ phase.WaitsForAck left resent → Awaits e.setup c left resent → Follows e.setup c e.mouth e.phase
    → let done = (if nat_lt 1 left then effect.Waits (left - 1) else unacknowledged e.setup resent) in Follows e.setup (course_told (fate_of done) (ticked c)) (performed e done).mouth (performed e done).phase
message-ticked {H} e c left resent done at a f =
    let now : (ticked c).ticks ≡ Some (suc a.since) = ap (option_map suc) a.ticks in
    cond_both (nat_lt 1 left) (effect.Waits (left - 1)) (unacknowledged e.setup resent)
    (λ (x : Effect). Follows e.setup (course_told (fate_of x) (ticked c)) (performed e x).mouth (performed e x).phase)
    (λ more.
    let many : 1 < left = grind (arith, nat_tests) in
    let all = a.all in
    let stays : Awaits e.setup (ticked c) (left - 1) resent = record { since = suc a.since; ticks = now; all = omega (arith, all, many); some = omega (arith, many); given = a.given; within = a.within } in
    subst (λ (p : Phase). Follows e.setup (ticked c) e.mouth (with_left (left - 1) p)) (sym at) (record {
      tick = f.tick;
      goes = subst (λ (d : Bool). GoesWith e.setup (ticked c) d (phase.WaitsForAck (left - 1) resent)) (sym done) stays;
      number = subst (λ (p : Phase). Numbered e.mouth p) at f.number;
    }))
    (λ last.
    let one : left ≤ 1 = grind (arith, nat_tests) in
    let all = a.all in let some = a.some in
    unacknowledged-follows e c.given (option_map suc c.ticks) resent f.tick (over-since e.setup (ticked c) (suc a.since) now (omega (arith, all, some, one))) a.given done)

done-ticked : {H : Type 0} (e told : MasterState H) (c : Course) (ready : Bool) (at : Phase) → told.setup ≡ e.setup → told.mouth ≡ e.mouth → told.phase ≡ e.phase → e.phase ≡ at → is_done e.mouth ≡ true → Follows e.setup c e.mouth e.phase
    → let done = effect_of_tick e.setup ready at in Follows told.setup (course_told (fate_of done) (ticked c)) (performed told done).mouth (performed told done).phase
done-ticked e told c ready phase.Idle setup mouth same is done f =
    let t : Follows told.setup c told.mouth told.phase = rw (setup, mouth, same) f in
    let fresh : IsFresh told.setup c = subst (λ (p : Phase). GoesWith told.setup c (is_done told.mouth) p) (same ∙ is) t.goes in
    let now = nothing-ticked told.setup c told.mouth told.phase (is_done told.mouth) refl fresh.0 t in
    cond_both ready effect.Nothing effect.Polls (λ (x : Effect). Follows told.setup (course_told (fate_of x) (ticked c)) (performed told x).mouth (performed told x).phase) (λ is. now)
    (λ is. polled-follows told (ticked c) (slice_get told.stations told.next) t.tick (fresh-tick told.setup c fresh) now)
done-ticked e told c ready (phase.WaitsForAck left resent) setup mouth same is done f =
    let t : Follows told.setup c told.mouth told.phase = rw (setup, mouth, same) f in
    let tdone : is_done told.mouth ≡ true = ap is_done mouth ∙ done in
    let a : Awaits told.setup c left resent = subst (λ (d : Bool). GoesWith told.setup c d (phase.WaitsForAck left resent)) tdone (subst (λ (p : Phase). GoesWith told.setup c (is_done told.mouth) p) (same ∙ is) t.goes) in
    subst (λ (s : MasterSetup). let done = (if nat_lt 1 left then effect.Waits (left - 1) else unacknowledged s resent) in Follows told.setup (course_told (fate_of done) (ticked c)) (performed told done).mouth (performed told done).phase) setup
    (message-ticked told c left resent tdone (same ∙ is) a t)
done-ticked e told c ready (phase.WaitsAfterPoll left place) setup mouth same is done f =
    let t : Follows told.setup c told.mouth told.phase = rw (setup, mouth, same) f in
    let tdone : is_done told.mouth ≡ true = ap is_done mouth ∙ done in
    let fresh : IsFresh told.setup c = subst (λ (p : Phase). GoesWith told.setup c (is_done told.mouth) p) (same ∙ is) t.goes in
    let later = fresh-tick told.setup c fresh in
    cond_both (nat_lt 1 left) (effect.Waits (left - 1)) effect.PollOver (λ (x : Effect). Follows told.setup (course_told (fate_of x) (ticked c)) (performed told x).mouth (performed told x).phase)
    (λ more. subst (λ (p : Phase). Follows told.setup (ticked c) told.mouth (with_left (left - 1) p)) (sym (same ∙ is)) (record { tick = t.tick; goes = later; number = λ gives. absurd (both_ways (is_done told.mouth) gives tdone) }))
    (λ over. idle-follows told.setup (ticked c) told.mouth t.tick later tdone)

tick-follows : {H : Type 0} (m : Ghosts H) (e : MasterState H) (c : Course) → Follows e.setup c e.mouth e.phase → Follows e.setup (course_at m e Tick c) (master_after m e Tick).mouth (master_after m e Tick).phase
tick-follows {H} m e c f =
    let ready = is_some (m.next_body e.host) in
    let told : Effect → MasterState H = λ (x : Effect). with_host e (host_told m (fate_of x) (host_ticked m x e.host)) in
    cond_both (is_done e.mouth) (effect_of_tick e.setup ready e.phase) effect.Nothing
    (λ (x : Effect). Follows e.setup (course_told (fate_of x) (ticked c)) (performed (told x) x).mouth (performed (told x) x).phase)
    (λ done. done-ticked e (told (effect_of_tick e.setup ready e.phase)) c ready e.phase refl refl refl refl done f)
    (λ gives. nothing-ticked e.setup c e.mouth e.phase false gives (giving-waits_not e.setup c e.phase (subst (λ (d : Bool). GoesWith e.setup c d e.phase) gives f.goes)) f)

-- ---- a take

abbrev giving : List Sent → Option ℕ → ℕ → Giving
giving left number begun = record { left = left; number = number; begun = begun }

-- the last byte that is left is given
last-given : (setup : MasterSetup) (c : Course) (x : Sent) (number : Option ℕ) (begun : ℕ) (at : Phase) → Follows setup c (giving (x ∷ []) number begun) at
    → Follows setup (course_given (is_some number) c) (giving [] number begun) at
last-given setup c x number begun phase.Idle f =
    let none : number ≡ None = f.number (some-left x []) in
    rw none (record { tick = f.tick; goes = f.goes; number = λ gives. refl })
last-given setup c x number begun (phase.WaitsForAck left resent) f =
    let b : BeingGiven setup c left resent = subst (λ (d : Bool). GoesWith setup c d (phase.WaitsForAck left resent)) (some-left x []) f.goes in
    let all = b.all in let some = f.tick in
    rw f.number (record {
      tick = f.tick;
      goes = record { since = 0; ticks = refl; all = omega (arith, all); some = omega (arith, all, some); given = ap (λ (n : ℕ). n + 1) b.given; within = b.within };
      number = f.number;
    })
last-given setup c x number begun (phase.WaitsAfterPoll left place) f =
    let none : number ≡ None = f.number (some-left x []) in
    rw none (record { tick = f.tick; goes = f.goes; number = λ gives. refl })

-- another byte is given
one-given : (setup : MasterSetup) (c : Course) (x y : Sent) (more : List Sent) (number : Option ℕ) (begun : ℕ) (at : Phase) → Follows setup c (giving (x ∷ y ∷ more) number begun) at → Follows setup c (giving (y ∷ more) number begun) at
one-given setup c x y more number begun phase.Idle f = record { tick = f.tick; goes = f.goes; number = λ gives. f.number (some-left x (y ∷ more)) }
one-given setup c x y more number begun (phase.WaitsForAck left resent) f = record {
  tick = f.tick;
  goes = subst (λ (d : Bool). GoesWith setup c d (phase.WaitsForAck left resent)) (some-left x (y ∷ more) ∙ sym (some-left y more)) f.goes;
  number = f.number;
}
one-given setup c x y more number begun (phase.WaitsAfterPoll left place) f = record { tick = f.tick; goes = f.goes; number = λ gives. f.number (some-left x (y ∷ more)) }

taken-follows : (setup : MasterSetup) (c : Course) (left : List Sent) (number : Option ℕ) (begun : ℕ) (at : Phase) → Follows setup c (giving left number begun) at
    → let took = taken (giving left number begun) left in Follows setup (course_given (ends_here took.1) c) took.0 at
taken-follows setup c [] number begun at f = f
taken-follows setup c (x ∷ []) number begun at f = last-given setup c x number begun at f
taken-follows setup c (x ∷ y ∷ more) number begun at f = rw (some-left y more) (one-given setup c x y more number begun at f)

take-follows : (setup : MasterSetup) (c : Course) (g : Giving) (at : Phase) → Follows setup c g at → Follows setup (course_given (ends_here (take g).1) c) (take g).0 at
take-follows setup c g at f = taken-follows setup c g.left g.number g.begun at f

-- a fate that is told where none waits
told-follows : (setup : MasterSetup) (c : Course) (g : Giving) → is_done g ≡ true → Follows setup c g phase.Idle → Follows setup (course_told (Some fate.Undelivered) (course_given (ends_here (take g).1) c)) (take g).0 phase.Idle
told-follows setup c g done f =
    let now = take-follows setup c g phase.Idle f in
    record { tick = f.tick; goes = (now.goes.0, refl); number = now.number }

pub by-test : (b : Bool) (P : Bool → Type 0) → P true → P false → P b
by-test b P first other = elim b as (λ v. P v) [ true ↦ first | false ↦ other ]

begun-follows : {H : Type 0} (m : Ghosts H) (e : MasterState H) (c : Course) (o : Option (List ℕ)) → message_next m e ≡ o → Follows e.setup c e.mouth e.phase
    → Follows e.setup (course_told (fate_of_next e o) (course_given (ends_here (take (begun_of m e o).mouth).1) c)) (given_next (begun_of m e o)).mouth (given_next (begun_of m e o)).phase
begun-follows m e c None is f = take-follows e.setup c e.mouth e.phase f
begun-follows {H} m e c (Some body) is f =
    let begins = begins-when m e body is in
    let idle : Follows e.setup c e.mouth phase.Idle = subst (λ (p : Phase). Follows e.setup c e.mouth p) begins.idle f in
    let fresh : IsFresh e.setup c = idle.goes in
    let listed : MasterState H = transmitted (record e { sending = body; host = m.after_next e.host }) 0 in
    let other : MasterState H = with_host e (m.after_told (m.after_next e.host) fate.Undelivered) in
    let P : Bool → Type 0 = λ (b : Bool). let x : MasterState H = (if b then listed else other) in
    Follows e.setup (course_told (if b then None else Some fate.Undelivered) (course_given (ends_here (take x.mouth).1) c)) (given_next x).mouth (given_next x).phase in
    by-test (is_listed e.stations (slice_index body 0)) P
    (take-follows e.setup c listed.mouth listed.phase (again-follows (record e { sending = body; host = m.after_next e.host }) c 0 f.tick fresh.0 fresh.1 (omega arith)))
    (subst (λ (p : Phase). Follows e.setup (course_told (Some fate.Undelivered) (course_given (ends_here (take e.mouth).1) c)) (take e.mouth).0 p) (sym begins.idle) (told-follows e.setup c e.mouth begins.done idle))

signal-follows : {H : Type 0} (m : Ghosts H) (e : MasterState H) (signal : Letter) (c : Course) → Follows e.setup c e.mouth e.phase → Follows (master_after m e signal).setup (course_at m e signal c) (master_after m e signal).mouth (master_after m e signal).phase
signal-follows m e (Byte b) c f = subst (λ (s : MasterSetup). Follows s (course_at m e (Byte b) c) (master_after m e (Byte b)).mouth (master_after m e (Byte b)).phase) (sym (signal-setup m e (Byte b))) (byte-follows m e b c f)
signal-follows m e Tick c f = subst (λ (s : MasterSetup). Follows s (course_at m e Tick c) (master_after m e Tick).mouth (master_after m e Tick).phase) (sym (signal-setup m e Tick)) (tick-follows m e c f)
signal-follows m e Take c f = subst (λ (s : MasterSetup). Follows s (course_at m e Take c) (master_after m e Take).mouth (master_after m e Take).phase) (sym (signal-setup m e Take)) (begun-follows m e c (message_next m e) refl f)

came-follows : {H : Type 0} (m : Ghosts H) (past : Past) (e : MasterState H) → Came m past e → Follows e.setup past.course e.mouth e.phase
came-follows m past e (begins setup numbers host ticks list holds) = record { tick = ticks.ack_ticks; goes = (refl, refl); number = λ gives. refl }
came-follows m past e (goes_on before from signal came) = signal-follows m from signal before.course (came-follows m before from came)
came-follows m past e (changes before from host holds came) = came-follows m before from came

-- ---- the fates

-- what is told of a message that wasn't acknowledged
unacknowledged-fate : (setup : MasterSetup) (resent given : ℕ) → resent ≤ setup.max_resends → given ≡ resent + 1
    → (fate_of (unacknowledged setup resent) ≡ Some fate.Undelivered) ↔ (given ≡ setup.max_resends + 1)
unacknowledged-fate setup resent given within is =
    cond_both (nat_lt resent setup.max_resends) (effect.Again (resent + 1)) effect.GivenUp (λ (x : Effect). (fate_of x ≡ Some fate.Undelivered) ↔ (given ≡ setup.max_resends + 1))
    (λ few. (λ told. cc, λ spent. absurd (let fewer : resent < setup.max_resends = grind (arith, nat_tests) in omega (arith, fewer, spent, is))))
    (λ many. (λ told. let more : setup.max_resends ≤ resent = grind (arith, nat_tests) in omega (arith, more, within, is), λ spent. refl))

unacknowledged-never : (setup : MasterSetup) (resent : ℕ) → fate_of (unacknowledged setup resent) ≡ Some fate.Delivered → ⊥
unacknowledged-never setup resent =
    cond_both (nat_lt resent setup.max_resends) (effect.Again (resent + 1)) effect.GivenUp (λ (x : Effect). fate_of x ≡ Some fate.Delivered → ⊥) (λ few told. cc) (λ many told. cc)

-- where none waits nothing is told
abbrev TellsNone : Option Fate → Type 0
TellsNone o = o ≡ None

none-told : (o : Option Fate) (what : Fate) (P : Type 0) → TellsNone o → (P → ⊥) → (o ≡ Some what) ↔ P
none-told o what P none never = (λ told. absurd (let is = sym none ∙ told in cc), λ p. absurd (never p))

-- in a wait for ACK
message-delivers : (setup : MasterSetup) (resent : ℕ) (what : Option MasterHeard) → (fate_of (effect_on_message setup resent what) ≡ Some fate.Delivered) ↔ (what ≡ Some heard.Ack)
message-delivers setup resent None = (λ told. cc, λ is. cc)
message-delivers setup resent (Some heard.Good) = (λ told. cc, λ is. cc)
message-delivers setup resent (Some heard.Damaged) = (λ told. cc, λ is. cc)
message-delivers setup resent (Some heard.Ack) = (λ told. refl, λ is. refl)
message-delivers setup resent (Some heard.Nak) = (λ told. absurd (unacknowledged-never setup resent told), λ is. cc)
message-delivers setup resent (Some heard.Eot) = (λ told. cc, λ is. cc)
message-delivers setup resent (Some (heard.Stray b)) = (λ told. cc, λ is. cc)
message-delivers setup resent (Some (heard.StrayPair code)) = (λ told. cc, λ is. cc)

message-gives-up : (setup : MasterSetup) (resent given : ℕ) (what : Option MasterHeard) → resent ≤ setup.max_resends → given ≡ resent + 1
    → (fate_of (effect_on_message setup resent what) ≡ Some fate.Undelivered) ↔ ((what ≡ Some heard.Nak) × (given ≡ setup.max_resends + 1))
message-gives-up setup resent given None within is = (λ told. cc, λ both. absurd (let no = both.0 in cc))
message-gives-up setup resent given (Some heard.Good) within is = (λ told. cc, λ both. absurd (let no = both.0 in cc))
message-gives-up setup resent given (Some heard.Damaged) within is = (λ told. cc, λ both. absurd (let no = both.0 in cc))
message-gives-up setup resent given (Some heard.Ack) within is = (λ told. cc, λ both. absurd (let no = both.0 in cc))
message-gives-up setup resent given (Some heard.Nak) within is = let fate_is = unacknowledged-fate setup resent given within is in (λ told. (refl, fate_is.0 told), λ both. fate_is.1 both.1)
message-gives-up setup resent given (Some heard.Eot) within is = (λ told. cc, λ both. absurd (let no = both.0 in cc))
message-gives-up setup resent given (Some (heard.Stray b)) within is = (λ told. cc, λ both. absurd (let no = both.0 in cc))
message-gives-up setup resent given (Some (heard.StrayPair code)) within is = (λ told. cc, λ both. absurd (let no = both.0 in cc))

-- ---- at a byte

-- both fates, of an effect at a byte
record ByteTells (setup : MasterSetup) (c : Course) (what : Option MasterHeard) (done : Effect) : Type 0 where
  pub delivers : (fate_of done ≡ Some fate.Delivered) ↔ ((what ≡ Some heard.Ack) × (is_waiting setup c ≡ true))
  pub gives_up : (fate_of done ≡ Some fate.Undelivered) ↔ ((what ≡ Some heard.Nak) × (is_waiting setup c ≡ true) × IsSpent setup c)

silent-byte : (setup : MasterSetup) (c : Course) (what : Option MasterHeard) (done : Effect) → TellsNone (fate_of done) → is_waiting setup c ≡ false → ByteTells setup c what done
silent-byte setup c what done none not = record {
  delivers = none-told (fate_of done) fate.Delivered _ none (λ both. both_ways (is_waiting setup c) not both.1);
  gives_up = none-told (fate_of done) fate.Undelivered _ none (λ all. both_ways (is_waiting setup c) not all.1);
}

done-byte : {H : Type 0} (m : Ghosts H) (e : MasterState H) (c : Course) (what : Option MasterHeard) (at : Phase) → GoesWith e.setup c true at → ByteTells e.setup c what (effect_in m e what at)
done-byte m e c what phase.Idle goes = silent-byte e.setup c what effect.Nothing refl goes.0
done-byte m e c what (phase.WaitsForAck left resent) a =
    let all = a.all in let some = a.some in
    let waits : is_waiting e.setup c ≡ true = waits-since e.setup c a.since a.ticks (omega (arith, all, some)) in
    let delivers = message-delivers e.setup resent what in
    let gives_up = message-gives-up e.setup resent c.given what a.within a.given in
    record {
      delivers = (λ told. (delivers.0 told, waits), λ both. delivers.1 both.0);
      gives_up = (λ told. let both = gives_up.0 told in (both.0, waits, both.1), λ all. gives_up.1 (all.0, all.2));
    }
done-byte m e c what (phase.WaitsAfterPoll left place) goes =
    let good = answered (m.room_for e.host) place (slice_get e.stations place) (body_of e) in
    silent-byte e.setup c what (effect_on_poll good what) (of_poll-fate (effect_on_poll good what) (poll-of good what (answered-of (m.room_for e.host) place (slice_get e.stations place) (body_of e)))) goes.0

byte-tells : {H : Type 0} (m : Ghosts H) (e : MasterState H) (c : Course) (b : ℕ) → Follows e.setup c e.mouth e.phase → ByteTells e.setup c (heard_at e b) (effect_of_byte m e b)
byte-tells m e c b f =
    cond_both (is_done e.mouth) (effect_in m (with_byte e b) (heard_at e b) e.phase) effect.Nothing (ByteTells e.setup c (heard_at e b))
    (λ done. done-byte m (with_byte e b) c (heard_at e b) e.phase (subst (λ (d : Bool). GoesWith e.setup c d e.phase) done f.goes))
    (λ gives. silent-byte e.setup c (heard_at e b) effect.Nothing refl (giving-waits_not e.setup c e.phase (subst (λ (d : Bool). GoesWith e.setup c d e.phase) gives f.goes)))

-- ---- at a tick

record TickTells (setup : MasterSetup) (c : Course) (done : Effect) : Type 0 where
  pub delivers : fate_of done ≡ Some fate.Delivered → ⊥
  pub gives_up : (fate_of done ≡ Some fate.Undelivered) ↔ (IsLastTick setup c × IsSpent setup c)

silent-tick : (setup : MasterSetup) (c : Course) (done : Effect) → TellsNone (fate_of done) → (IsLastTick setup c → ⊥) → TickTells setup c done
silent-tick setup c done none not = record {
  delivers = λ told. let is = sym none ∙ told in cc;
  gives_up = none-told (fate_of done) fate.Undelivered _ none (λ both. not both.0);
}

same-since : (a b : ℕ) (o : Option ℕ) → o ≡ Some a → o ≡ Some b → a ≡ b
same-since a b o is too = let same : Some a ≡ Some b = sym is ∙ too in cc

message-tick : (setup : MasterSetup) (c : Course) (left resent : ℕ) → Awaits setup c left resent → TickTells setup c (if nat_lt 1 left then effect.Waits (left - 1) else unacknowledged setup resent)
message-tick setup c left resent a =
    let all = a.all in let some = a.some in
    cond_both (nat_lt 1 left) (effect.Waits (left - 1)) (unacknowledged setup resent) (TickTells setup c)
    (λ more. let many : 1 < left = grind (arith, nat_tests) in
    silent-tick setup c (effect.Waits (left - 1)) refl (λ last. let same = same-since a.since (setup.ack_ticks - 1) c.ticks a.ticks last in omega (arith, all, many, same)))
    (λ few. let one : left ≤ 1 = grind (arith, nat_tests) in
    let fate_is = unacknowledged-fate setup resent c.given a.within a.given in
    let last : IsLastTick setup c = a.ticks ∙ ap Some (let same : a.since ≡ setup.ack_ticks - 1 = omega (arith, all, some, one) in same) in
    record { delivers = unacknowledged-never setup resent; gives_up = (λ told. (last, fate_is.0 told), λ both. fate_is.1 both.1) })

done-tick : (setup : MasterSetup) (c : Course) (ready : Bool) (at : Phase) → 1 ≤ setup.ack_ticks → GoesWith setup c true at → TickTells setup c (effect_of_tick setup ready at)
done-tick setup c ready phase.Idle some goes =
    cond_both ready effect.Nothing effect.Polls (TickTells setup c) (λ is. silent-tick setup c effect.Nothing refl (not-last setup c some goes.0)) (λ is. silent-tick setup c effect.Polls refl (not-last setup c some goes.0))
done-tick setup c ready (phase.WaitsForAck left resent) some a = message-tick setup c left resent a
done-tick setup c ready (phase.WaitsAfterPoll left place) some goes =
    cond_both (nat_lt 1 left) (effect.Waits (left - 1)) effect.PollOver (TickTells setup c) (λ is. silent-tick setup c (effect.Waits (left - 1)) refl (not-last setup c some goes.0)) (λ is. silent-tick setup c effect.PollOver refl (not-last setup c some goes.0))

tick-tells : {H : Type 0} (m : Ghosts H) (e : MasterState H) (c : Course) → Follows e.setup c e.mouth e.phase → TickTells e.setup c (effect_at_tick m e)
tick-tells m e c f =
    cond_both (is_done e.mouth) (effect_of_tick e.setup (is_some (m.next_body e.host)) e.phase) effect.Nothing (TickTells e.setup c)
    (λ done. done-tick e.setup c (is_some (m.next_body e.host)) e.phase f.tick (subst (λ (d : Bool). GoesWith e.setup c d e.phase) done f.goes))
    (λ gives. silent-tick e.setup c effect.Nothing refl (not-last e.setup c f.tick (giving-waits_not e.setup c e.phase (subst (λ (d : Bool). GoesWith e.setup c d e.phase) gives f.goes))))

-- ---- at a take

listed-fate : (listed : Bool) → ((if listed then None else Some fate.Undelivered) ≡ Some fate.Undelivered) ↔ (listed ≡ false)
listed-fate true = (λ told. cc, λ is. cc)
listed-fate false = (λ told. refl, λ is. refl)

listed-never : (listed : Bool) → (if listed then None else Some fate.Undelivered) ≡ Some fate.Delivered → ⊥
listed-never true told = cc
listed-never false told = cc

next-fate : {H : Type 0} (e : MasterState H) (o : Option (List ℕ)) → (fate_of_next e o ≡ Some fate.Undelivered) ↔ IsForNoStation e o
next-fate e None = (λ told. cc, λ none. absurd none)
next-fate e (Some body) = listed-fate (is_listed e.stations (slice_index body 0))

next-never : {H : Type 0} (e : MasterState H) (o : Option (List ℕ)) → fate_of_next e o ≡ Some fate.Delivered → ⊥
next-never e None told = cc
next-never e (Some body) told = listed-never (is_listed e.stations (slice_index body 0)) told

-- ---- what the law says

pub came-delivers : {H : Type 0} (m : Ghosts H) (past : Past) (e : MasterState H) (signal : Letter) → Came m past e → (fate_at m e signal ≡ Some fate.Delivered) ↔ IsDelivered e past.course signal
came-delivers m past e (Byte b) came = (byte-tells m e past.course b (came-follows m past e came)).delivers
came-delivers m past e Tick came = ((tick-tells m e past.course (came-follows m past e came)).delivers, λ never. absurd never)
came-delivers m past e Take came = (next-never e (message_next m e), λ never. absurd never)

pub came-gives-up : {H : Type 0} (m : Ghosts H) (past : Past) (e : MasterState H) (signal : Letter) → Came m past e → (fate_at m e signal ≡ Some fate.Undelivered) ↔ IsGivenUp m e past.course signal
came-gives-up m past e (Byte b) came = (byte-tells m e past.course b (came-follows m past e came)).gives_up
came-gives-up m past e Tick came = (tick-tells m e past.course (came-follows m past e came)).gives_up
came-gives-up m past e Take came = next-fate e (message_next m e)

-- ---- the fates among what happens

effect-fates : (what : Effect) → fates_in (events_of what) ≡ option_to_list (fate_of what)
effect-fates effect.Nothing = refl
effect-fates (effect.Waits left) = refl
effect-fates effect.Delivered = refl
effect-fates (effect.Again resent) = refl
effect-fates effect.GivenUp = refl
effect-fates effect.PollOver = refl
effect-fates (effect.Accepted place) = refl
effect-fates effect.Repeated = refl
effect-fates effect.Refused = refl
effect-fates effect.Damaged = refl
effect-fates effect.Polls = refl

listed-fates : (body : List ℕ) (listed : Bool) → fates_in (if listed then HandedOut body ∷ [] else ForNoStation body ∷ []) ≡ option_to_list (if listed then None else Some fate.Undelivered)
listed-fates body true = refl
listed-fates body false = refl

next-fates : {H : Type 0} (e : MasterState H) (o : Option (List ℕ)) → fates_in (handed_out e o) ≡ option_to_list (fate_of_next e o)
next-fates e None = refl
next-fates e (Some body) = listed-fates body (is_listed e.stations (slice_index body 0))

pub signal-fates : {H : Type 0} (m : Ghosts H) (e : MasterState H) (signal : Letter) → fates_in (events_at m e signal) ≡ option_to_list (fate_at m e signal)
signal-fates m e (Byte b) = effect-fates (effect_of_byte m e b)
signal-fates m e Tick = effect-fates (effect_at_tick m e)
signal-fates m e Take = next-fates e (message_next m e)
