-- What holds of every end that signals and changes of its host reach.
use Rattle.std.proofs.Common.{◌≡◌, ℕ, ◌≤◌, Bool, true, false, List, [], ◌∷◌, ◌++◌, length, nat_lt, Option, Some, None, IfSome, is_none, sym, subst, refl, arith}
use Rattle.std.specs.Prelude.{IsTrue, not, ◌&&◌, if◌then◌else◌}
use Rattle.df1_base.specs.declared.host.Host.{Ghosts}
use Rattle.df1_base.specs.declared.host.Fate.{Fate}
use Rattle.df1_base.specs.declared.link.Act.{Act}
use Rattle.df1_base.specs.declared.link.Act.TheVariants as act
use Rattle.df1_base.specs.Host.{IsBody}
use Rattle.df1_base.specs.HostAnswers.{host_told}
use Rattle.df1_check.specs.declared.Check.{Check}
use Rattle.duplex_sender.specs.declared.Limits.{Limits}
use Rattle.duplex_sender.specs.declared.Phase.{Phase}
use Rattle.duplex_sender.specs.declared.Phase.TheVariants as phase
use Rattle.duplex_sender.specs.declared.SendTurn.{SendTurn}
use Rattle.duplex_sender.specs.declared.SendTurn.TheVariants as sends
use Rattle.duplex_sender.specs.Sender.{Activity, Idle, Sending, Waiting, phase_of, body_of, on_tick, tick_turn}
use Rattle.duplex_receiver.specs.Receiver.{Response, Offers, Forgets, Again, Silent, response_for, body_at}
use Rattle.duplex_receiver.proofs.Accepting.{accepts-body, lent-fits}
use Rattle.embedded_response.specs.Giving.{Giving, offer, forget, answer_enq, unask, chosen}
use Rattle.duplex_end.specs.declared.Setup.{Setup}
use Rattle.duplex_end.specs.End.{EndState, Place, OfMouth, FrameAgain, FrameOfNew, next_place, taken, new_end, with_host, sender_after, responded, asked, is_waiting, act_of_byte, receiver_after, host_after, host_at_byte, host_at_tick, fate_at, fate_of_tick, end_after_byte, end_after_tick, end_after_take, begun_at, begun_next, prepared}
use Rattle.duplex_end.specs.Joined.{Joined, IsShort}
use Rattle.duplex_end.specs.Emission.{Letter, Byte, Tick, Take, end_after}
use Rattle.duplex_end.specs.Reached.{Reached, begins, goes_on, changes, BodiesFit}
use Rattle.duplex_end.specs.Arrived.{StandsFor}
use Rattle.duplex_end.proofs.Joining.{begin-short, take-short}
use Rattle.duplex_end.proofs.Order.{end-is}
use Rattle.duplex_end.proofs.Runs.{signal-joined, new-joined, next-fits}
use Rattle.duplex_end.proofs.Draining.{take-fits}
use Rattle.duplex_end.proofs.Arriving.{stands-new, stands-byte, stands-take}

-- the laws of a host's bodies
pub record KeepsBodies {H : Type 0} (m : Ghosts H) : Type 0 where
  pub next_is : (h : H) → m.holds_bodies h → IfSome (m.next_body h) IsBody
  pub at_accept : (h : H) (body : List ℕ) → m.holds_bodies h → IsBody body → IsTrue (m.room_for h body) → m.holds_bodies (m.after_accept h body)
  pub at_next : (h : H) → m.holds_bodies h → m.holds_bodies (m.after_next h)
  pub at_told : (h : H) (fate : Fate) → m.holds_bodies h → m.holds_bodies (m.after_told h fate)
  pub at_tick : (h : H) → m.holds_bodies h → m.holds_bodies (m.after_tick h)

-- what is carried: the parts are joined, what is left of a frame is short, bodies fit, and the end stands for some bytes
pub record Carried {H : Type 0} (m : Ghosts H) (e : EndState H) : Type 0 where
  pub joined : Joined e.mouth e.sender
  pub short : IsShort e.mouth
  pub sender_fits : length (body_of e.sender) ≤ 250
  pub holds : m.holds_bodies e.host
  pub check : Check
  pub bytes : List ℕ
  pub stands : StandsFor check bytes e

body-short : (o : Option (List ℕ)) → IfSome o IsBody → IfSome o (λ (b : List ℕ). length b ≤ 250)
body-short None is = tt
body-short (Some body) is = is.1

pub carried-fits : {H : Type 0} (m : Ghosts H) (laws : KeepsBodies m) (e : EndState H) → Carried m e → BodiesFit m e
carried-fits m laws e c = record { sender_fits = c.sender_fits; next_fits = λ idle. body-short (m.next_body e.host) (laws.next_is e.host c.holds) }

-- ---- a byte and a tick

dropped-short : (leaves : Bool) (g : Giving) → IsShort g → IsShort (if leaves then unask g else g)
dropped-short true g short = short
dropped-short false g short = short

responded-short : (r : Response) (g : Giving) → IsShort g → IsShort (elim r [ Offers resp ↦ offer g resp | Forgets ↦ forget g | Again ↦ answer_enq g | Silent ↦ g ])
responded-short (Offers resp) g short = short
responded-short Forgets g short = short
responded-short Again g short = short
responded-short Silent g short = short

asked-short : (turn : SendTurn) (g : Giving) → IsShort g → IsShort (asked turn g)
asked-short sends.Still g short = short
asked-short sends.Ask g short = short
asked-short sends.Failed g short = short

either-fits : (b : Bool) (limits : Limits) (x y : Activity) → length (body_of (record { limits = limits; activity = x })) ≤ 250 → length (body_of (record { limits = limits; activity = y })) ≤ 250
    → length (body_of (record { limits = limits; activity = if b then x else y })) ≤ 250
either-fits true limits x y first other = first
either-fits false limits x y first other = other

heard-fits : (a : Act) (limits : Limits) (at : Activity) → length (body_of (record { limits = limits; activity = at })) ≤ 250 → length (body_of (sender_after a (record { limits = limits; activity = at }))) ≤ 250
heard-fits act.PeerAck limits Idle fits = fits
heard-fits act.PeerAck limits (Sending body naks enqs) fits = fits
heard-fits act.PeerAck limits (Waiting body naks enqs left) fits = omega arith
heard-fits act.PeerNak limits Idle fits = fits
heard-fits act.PeerNak limits (Sending body naks enqs) fits = fits
heard-fits act.PeerNak limits (Waiting body naks enqs left) fits = either-fits (nat_lt naks limits.max_naks) limits _ _ fits (omega arith)
heard-fits act.Accept limits at fits = fits
heard-fits act.Repeat limits at fits = fits
heard-fits act.Refuse limits at fits = fits
heard-fits act.Damaged limits at fits = fits
heard-fits act.Forgot limits at fits = fits
heard-fits act.PeerEnq limits at fits = fits
heard-fits act.Nothing limits at fits = fits

tick-fits : (limits : Limits) (at : Activity) → length (body_of (record { limits = limits; activity = at })) ≤ 250 → length (body_of (on_tick (record { limits = limits; activity = at }))) ≤ 250
tick-fits limits Idle fits = fits
tick-fits limits (Sending body naks enqs) fits = fits
tick-fits limits (Waiting body naks enqs left) fits = either-fits (nat_lt 1 left) limits _ _ fits (either-fits (nat_lt enqs limits.max_enqs) limits _ _ fits (omega arith))

told-holds : {H : Type 0} (m : Ghosts H) (laws : KeepsBodies m) (what : Option Fate) (h : H) → m.holds_bodies h → m.holds_bodies (host_told m what h)
told-holds m laws None h holds = holds
told-holds m laws (Some what) h holds = laws.at_told h what holds

accept-holds : {H : Type 0} (m : Ghosts H) (laws : KeepsBodies m) (a : Act) (h : H) (body : List ℕ) → m.holds_bodies h → (a ≡ act.Accept → IsBody body × IsTrue (m.room_for h body)) → m.holds_bodies (host_after m a h body)
accept-holds m laws act.Accept h body holds means = laws.at_accept h body holds (means refl).0 (means refl).1
accept-holds m laws act.Repeat h body holds means = holds
accept-holds m laws act.Refuse h body holds means = holds
accept-holds m laws act.Damaged h body holds means = holds
accept-holds m laws act.Forgot h body holds means = holds
accept-holds m laws act.PeerAck h body holds means = holds
accept-holds m laws act.PeerNak h body holds means = holds
accept-holds m laws act.PeerEnq h body holds means = holds
accept-holds m laws act.Nothing h body holds means = holds

carried-byte : {H : Type 0} (m : Ghosts H) (laws : KeepsBodies m) (e : EndState H) (b : ℕ) → Carried m e → Carried m (end_after_byte m e b)
carried-byte m laws e b c =
    let a = act_of_byte m e b in
    let stands : StandsFor c.check (c.bytes ++ b ∷ []) (end_after_byte m e b) = stands-byte m e b c.check c.bytes c.stands in
    let most : length (body_at (receiver_after m e b)) ≤ 250 = lent-fits c.check 250 (c.bytes ++ b ∷ []) (receiver_after m e b) stands in
    record {
      joined = signal-joined m e (Byte b) c.joined;
      short = dropped-short (is_waiting (phase_of e.sender) && not (is_waiting (phase_of (sender_after a e.sender)))) (responded a e.mouth) (responded-short (response_for a) e.mouth c.short);
      sender_fits = heard-fits a e.sender.limits e.sender.activity c.sender_fits;
      holds = told-holds m laws (fate_at a e.sender) (host_at_byte m e b) (accept-holds m laws a e.host (body_at (receiver_after m e b)) c.holds (λ is.
          let accepts = accepts-body (m.room_for e.host) 250 e.receiver b is in
          ((accepts.0, most), accepts.1)));
      check = c.check;
      bytes = c.bytes ++ b ∷ [];
      stands = stands;
    }

carried-tick : {H : Type 0} (m : Ghosts H) (laws : KeepsBodies m) (e : EndState H) → Carried m e → Carried m (end_after_tick m e)
carried-tick m laws e c = record {
  joined = signal-joined m e Tick c.joined;
  short = dropped-short (is_waiting (phase_of e.sender) && not (is_waiting (phase_of (on_tick e.sender)))) (asked (tick_turn e.sender) e.mouth) (asked-short (tick_turn e.sender) e.mouth c.short);
  sender_fits = tick-fits e.sender.limits e.sender.activity c.sender_fits;
  holds = laws.at_tick (host_at_tick m e) (told-holds m laws (fate_of_tick (tick_turn e.sender)) e.host c.holds);
  check = c.check;
  bytes = c.bytes;
  stands = c.stands;
}

-- ---- a take

begun-short : {H : Type 0} (m : Ghosts H) (e : EndState H) (at : Phase) (next : Option (List ℕ)) → phase_of e.sender ≡ at → m.next_body e.host ≡ next → BodiesFit m e → IsShort e.mouth → IsShort (begun_at m e at next).mouth
begun-short m e phase.Idle None is next fits short = short
begun-short m e phase.Idle (Some body) is next fits short = begin-short e.mouth body (next-fits m e body fits is next)
begun-short m e phase.Sending next is same fits short = begin-short e.mouth (body_of e.sender) fits.sender_fits
begun-short m e phase.Waiting next is same fits short = short

prepared-short : {H : Type 0} (m : Ghosts H) (e : EndState H) (idle : Bool) → BodiesFit m e → IsShort e.mouth → IsShort (if idle then begun_next m e else e).mouth
prepared-short m e true fits short = begun-short m e (phase_of e.sender) (m.next_body e.host) refl refl fits short
prepared-short m e false fits short = short

taken-holds : {H : Type 0} (m : Ghosts H) (laws : KeepsBodies m) (e : EndState H) (p : Option Place) → m.holds_bodies e.host → m.holds_bodies (taken m e p).0.host
taken-holds m laws e None holds = holds
taken-holds m laws e (Some (OfMouth choice)) holds = holds
taken-holds m laws e (Some (FrameAgain body)) holds = holds
taken-holds m laws e (Some (FrameOfNew body)) holds = laws.at_next e.host holds

carried-take : {H : Type 0} (m : Ghosts H) (laws : KeepsBodies m) (e : EndState H) → Carried m e → Carried m (end_after_take m e)
carried-take {H} m laws e c =
    let fits = carried-fits m laws e c in
    record {
      joined = signal-joined m e Take c.joined;
      short = subst (λ (x : EndState H). IsShort x.mouth) (sym (end-is m e)) (take-short (prepared m e).mouth (prepared-short m e (is_none (chosen e.mouth)) fits c.short));
      sender_fits = (take-fits m e fits).sender_fits;
      holds = taken-holds m laws e (next_place m e) c.holds;
      check = c.check;
      bytes = c.bytes;
      stands = stands-take m e c.check c.bytes c.stands;
    }

-- ---- every end that is reached

carried-new : {H : Type 0} (m : Ghosts H) (setup : Setup) (host : H) → m.holds_bodies host → Carried m (new_end setup host)
carried-new m setup host holds = record {
  joined = new-joined setup host;
  short = omega arith;
  sender_fits = omega arith;
  holds = holds;
  check = setup.check;
  bytes = [];
  stands = stands-new setup host;
}

carried-signal : {H : Type 0} (m : Ghosts H) (laws : KeepsBodies m) (e : EndState H) (signal : Letter) → Carried m e → Carried m (end_after m e signal)
carried-signal m laws e (Byte b) c = carried-byte m laws e b c
carried-signal m laws e Tick c = carried-tick m laws e c
carried-signal m laws e Take c = carried-take m laws e c

carried-host : {H : Type 0} (m : Ghosts H) (e : EndState H) (host : H) → m.holds_bodies host → Carried m e → Carried m (with_host e host)
carried-host m e host holds c = record { joined = c.joined; short = c.short; sender_fits = c.sender_fits; holds = holds; check = c.check; bytes = c.bytes; stands = c.stands }

pub reached-carries : {H : Type 0} (m : Ghosts H) (laws : KeepsBodies m) (e : EndState H) → Reached m e → Carried m e
reached-carries m laws e (begins setup host holds) = carried-new m setup host holds
reached-carries m laws e (goes_on from signal reached) = carried-signal m laws from signal (reached-carries m laws from reached)
reached-carries m laws e (changes from host holds reached) = carried-host m from host holds (reached-carries m laws from reached)
