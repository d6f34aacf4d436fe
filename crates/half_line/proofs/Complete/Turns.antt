-- Whose turn it is to be polled: how many polls come before that of a station, and how many ticks its commands that are out have left at least.
use Rattle.std.proofs.Common.{◌≡◌, ℕ, suc, ◌+◌, ◌-◌, ◌*◌, ◌<◌, ◌≤◌, Bool, true, false, cond, nat_le, nat_lt, List, Option, Some, None, refl, arith}
use Rattle.std.specs.Prelude.{slice_get, slice_index, ◌==◌}
use Rattle.std.proofs.Math.Nat.{suc-mul, mul-le-mul_right}
use Rattle.std.proofs.lemmas.Bool.{cond_both}
use Rattle.std.proofs.lemmas.Bool.Decides.{nat_tests}
use Rattle.df1_base.specs.HostAnswers.{host_told}
use Rattle.df1_node.specs.Node.{NodeState}
use Rattle.each_once.specs.NodeHost.{node_host}
use Rattle.each_once.proofs.CommandsUnderWay.{IsTickFewer}
use Rattle.half_frame.specs.declared.heard.MasterHeard.{MasterHeard}
use Rattle.half_frame.specs.declared.heard.MasterHeard.TheVariants as heard
use Rattle.half_master.specs.declared.MasterSetup.{MasterSetup}
use Rattle.half_master.specs.declared.stations.Station.{Station}
use Rattle.half_master.specs.declared.table.Effect.{Effect}
use Rattle.half_master.specs.declared.table.Effect.TheVariants as effect
use Rattle.half_master.specs.declared.table.Phase.{Phase}
use Rattle.half_master.specs.declared.table.Phase.TheVariants as phase
use Rattle.half_master.specs.Master.{MasterState, with_byte, with_host, heard_at, body_of, effect_of_verdict, answered, effect_on_message, effect_on_poll, effect_in, effect_of_byte, fate_of, host_accepted, performed, master_after_byte}
use Rattle.half_mouth.specs.Giving.{is_done}
use Rattle.pccc_envelope.specs.Accepted.{Verdict, Repeated, Accepted, Refused}
use Rattle.half_line.proofs.Complete.Stages.{Receipt, Polling, Ack, Eot, Message, Now, Idles, Awaits}

-- ---- turns

-- of so many stations this one is polled next: how many polls come before that of the station at a place
abbrev pub turns : ℕ → ℕ → ℕ → ℕ
turns n next p = cond (nat_le next p) (p - next) (p + n - next)

-- the place of the station that is polled after it
abbrev pub after_turn : ℕ → ℕ → ℕ
after_turn n next = cond (nat_lt (next + 1) n) (next + 1) 0

pub turns-few : (n next p : ℕ) → next < n → p < n → turns n next p + 1 ≤ n
turns-few n next p within here = by-test (nat_le next p) refl
  where
    by-test : (b : Bool) → nat_le next p ≡ b → cond b (p - next) (p + n - next) + 1 ≤ n
    by-test true is = omega (arith, here)
    by-test false is = let before : p < next = grind (arith, nat_tests, is) in omega (arith, before, within)

pub turn-within : (n next : ℕ) → next < n → after_turn n next < n
turn-within n next within = by-test (nat_lt (next + 1) n) refl
  where
    by-test : (b : Bool) → nat_lt (next + 1) n ≡ b → cond b (next + 1) 0 < n
    by-test true is = grind (arith, nat_tests, is)
    by-test false is = omega (arith, within)

-- a poll takes one from the turns of each other station
pub turns-less : (n next p : ℕ) → next < n → p < n → (p ≡ next → ⊥) → turns n (after_turn n next) p + 1 ≡ turns n next p
turns-less n next p within here apart = by-tests (nat_lt (next + 1) n) (nat_le next p) refl refl
  where
    by-tests : (more before : Bool) → nat_lt (next + 1) n ≡ more → nat_le next p ≡ before → turns n (cond more (next + 1) 0) p + 1 ≡ cond before (p - next) (p + n - next)
    by-tests true true is so = at (nat_le (next + 1) p) refl
      where
        at : (b : Bool) → nat_le (next + 1) p ≡ b → cond b (p - (next + 1)) (p + n - (next + 1)) + 1 ≡ p - next
        at true later = let after : next + 1 ≤ p = grind (arith, nat_tests, later) in omega (arith, after)
        at false later = absurd (let not_after : p < next + 1 = grind (arith, nat_tests, later) in let at_least : next ≤ p = grind (arith, nat_tests, so) in apart (omega (arith, not_after, at_least)))
    by-tests true false is so = at (nat_le (next + 1) p) refl
      where
        at : (b : Bool) → nat_le (next + 1) p ≡ b → cond b (p - (next + 1)) (p + n - (next + 1)) + 1 ≡ p + n - next
        at true later = absurd (let after : next + 1 ≤ p = grind (arith, nat_tests, later) in let before : p < next = grind (arith, nat_tests, so) in omega (arith, after, before))
        at false later = omega (arith, within)
    by-tests false true is so = let last : n ≤ next + 1 = grind (arith, nat_tests, is) in let at_least : next ≤ p = grind (arith, nat_tests, so) in absurd (apart (omega (arith, last, at_least, here)))
    by-tests false false is so = at (nat_le 0 p) refl
      where
        at : (b : Bool) → nat_le 0 p ≡ b → cond b (p - 0) (p + n - 0) + 1 ≡ p + n - next
        at true first = let last : n ≤ next + 1 = grind (arith, nat_tests, is) in omega (arith, last, within)
        at false first = absurd (let no : p < 0 = grind (arith, nat_tests, first) in omega (arith, no))

-- ---- how many ticks are left at least

-- the station at this place is polled, and its answer isn't heard yet, nor that it has none
abbrev pub is_polled : Now → ℕ → Bool
is_polled Idles p = false
is_polled (Awaits place (Receipt body)) p = false
is_polled (Awaits place Polling) p = place == p
is_polled (Awaits place Ack) p = false
is_polled (Awaits place Eot) p = false
is_polled (Awaits place (Message reply)) p = place == p

-- of the commands of a station that are out: its turn comes for each in order, so the first of them has a tick for each poll before that, one for
-- that poll and one more, and each further one a tick for each station more; a poll that is under way has taken its tick
abbrev pub least_of : ℕ → ℕ → Bool → ℕ → ℕ → ℕ
least_of n next polled p j = cond polled (1 + j * n) (turns n next p + 2 + j * n)

-- of a station that is polled a command is answered: the next has its turn after a poll of each
pub least-answered : (n next p j : ℕ) → next < n → p < n → least_of n next false p j ≤ 1 + suc j * n
least-answered n next p j within here = let few = turns-few n next p within here in let more = suc-mul j n in omega (arith, few, more)

-- at the tick with which a station is polled
pub least-polled : (n next j : ℕ) → next < n → IsTickFewer (least_of n next false next j) (1 + j * n)
least-polled n next j within = by-test (nat_le next next) refl
  where
    by-test : (b : Bool) → nat_le next next ≡ b → IsTickFewer (cond b (next - next) (next + n - next) + 2 + j * n) (1 + j * n)
    by-test true is = (omega arith, omega arith)
    by-test false is = absurd (let no : next < next = grind (arith, nat_tests, is) in omega (arith, no))

pub least-other : (n next p j : ℕ) → next < n → p < n → (p ≡ next → ⊥) → IsTickFewer (least_of n next false p j) (least_of n (after_turn n next) false p j)
least-other n next p j within here apart = let less = turns-less n next p within here apart in (omega arith, omega (arith, less))

-- a command that is handed out has them, where fewer are out than may be
pub least-fits : (n next p j window reply_ticks : ℕ) → next < n → p < n → window * n < reply_ticks → j < window → least_of n next false p j ≤ reply_ticks
least-fits n next p j window reply_ticks within here enough fewer =
    let few = turns-few n next p within here in
    let more = suc-mul j n in
    let times : suc j * n ≤ window * n = mul-le-mul_right n (let e : suc j ≤ window = omega (arith, fewer) in e) in
    omega (arith, few, more, times, enough)

-- ---- a byte leaves whose turn it is

abbrev IsNoPoll : Effect → Type 0
IsNoPoll effect.Polls = ⊥
IsNoPoll _ = Unit {0}

message-polls : (setup : MasterSetup) (resent : ℕ) (what : Option MasterHeard) → IsNoPoll (effect_on_message setup resent what)
message-polls setup resent None = tt
message-polls setup resent (Some heard.Good) = tt
message-polls setup resent (Some heard.Damaged) = tt
message-polls setup resent (Some heard.Ack) = tt
message-polls setup resent (Some heard.Nak) = cond_both (nat_lt resent setup.max_resends) _ _ IsNoPoll (λ is. tt) (λ is. tt)
message-polls setup resent (Some heard.Eot) = tt
message-polls setup resent (Some (heard.Stray b)) = tt
message-polls setup resent (Some (heard.StrayPair c)) = tt

verdict-polls : (place : ℕ) (verdict : Verdict) → IsNoPoll (effect_of_verdict place verdict)
verdict-polls place Repeated = tt
verdict-polls place Accepted = tt
verdict-polls place Refused = tt

answered-polls : (room : List ℕ → Bool) (place : ℕ) (o : Option Station) (body : List ℕ) → IsNoPoll (answered room place o body)
answered-polls room place None body = tt
answered-polls room place (Some station) body = cond_both (slice_index body 1 == station.number) _ _ IsNoPoll (λ is. verdict-polls place _) (λ is. tt)

poll-polls : (good : Effect) (what : Option MasterHeard) → IsNoPoll good → IsNoPoll (effect_on_poll good what)
poll-polls good None is = tt
poll-polls good (Some heard.Good) is = is
poll-polls good (Some heard.Damaged) is = tt
poll-polls good (Some heard.Ack) is = tt
poll-polls good (Some heard.Nak) is = tt
poll-polls good (Some heard.Eot) is = tt
poll-polls good (Some (heard.Stray b)) is = tt
poll-polls good (Some (heard.StrayPair c)) is = tt

in-polls : (e : MasterState NodeState) (what : Option MasterHeard) (p : Phase) → IsNoPoll (effect_in node_host e what p)
in-polls e what phase.Idle = tt
in-polls e what (phase.WaitsForAck left resent) = message-polls e.setup resent what
in-polls e what (phase.WaitsAfterPoll left place) = poll-polls _ what (answered-polls (node_host.room_for e.host) place (slice_get e.stations place) (body_of e))

performed-next : (e : MasterState NodeState) (what : Effect) → IsNoPoll what → (performed e what).next ≡ e.next
performed-next e effect.Nothing is = refl
performed-next e (effect.Waits left) is = refl
performed-next e effect.Delivered is = refl
performed-next e (effect.Again resent) is = refl
performed-next e effect.GivenUp is = refl
performed-next e effect.PollOver is = refl
performed-next e (effect.Accepted place) is = refl
performed-next e effect.Repeated is = refl
performed-next e effect.Refused is = refl
performed-next e effect.Damaged is = refl
performed-next e effect.Polls is = absurd is

pub byte-next : (e : MasterState NodeState) (b : ℕ) → (master_after_byte node_host e b).next ≡ e.next
byte-next e b =
    let what = effect_of_byte node_host e b in
    performed-next (with_host (with_byte e b) (host_told node_host (fate_of what) (host_accepted node_host what e.host (body_of (with_byte e b))))) what
    (cond_both (is_done e.mouth) _ _ IsNoPoll (λ is. in-polls (with_byte e b) (heard_at e b) e.phase) (λ is. tt))
