-- What holds of every slave that signals and changes of its host reach.
use Rattle.std.proofs.Common.{◌≡◌, ℕ, ◌≤◌, Bool, true, false, List, [], ◌∷◌, ◌++◌, length, Option, Some, None, IfSome, subst, refl, arith}
use Rattle.std.specs.Prelude.{IsTrue, is_some, if◌then◌else◌}
use Rattle.std.specs.Option.{option_map}
use Rattle.df1_base.specs.Host.{IsBody}
use Rattle.df1_base.specs.declared.host.Host.{Ghosts}
use Rattle.df1_base.specs.declared.host.Fate.{Fate}
use Rattle.df1_base.specs.declared.link.Resp.{Resp}
use Rattle.df1_check.specs.declared.Check.{Check}
use Rattle.half_frame.specs.declared.framer.Sent.{Sent}
use Rattle.half_frame.specs.declared.heard.SlaveHeard.{SlaveHeard}
use Rattle.half_frame.specs.declared.heard.SlaveHeard.TheVariants as heard
use Rattle.half_frame.specs.SlaveStep.{next}
use Rattle.half_mouth.specs.Giving.{Giving, bytes_left, take}
use Rattle.pccc_envelope.specs.Envelope.{key_of}
use Rattle.pccc_envelope.specs.Accepted.{Verdict, Repeated, Accepted, Refused, is_kept}
use Rattle.half_slave.specs.declared.SlaveSetup.{SlaveSetup}
use Rattle.half_slave.specs.declared.held.Held.{Held}
use Rattle.half_slave.specs.Slave.{SlaveState, new_slave, with_host, body_of, is_own, is_answered, verdict, told, received, offered, answered, polled, reset, after_heard, after_sending, ends_here, fate_at_ack, fate_at_reset, heard_at, listened, slave_after_heard, slave_after_byte, mouth_at_take, out_at_take, slave_after_take, left_to_give}
use Rattle.half_slave.specs.Emission.{Letter, Byte, Take, slave_after}
use Rattle.half_slave.specs.Arrived.{StandsFor}
use Rattle.half_slave.specs.Reached.{Reached, begins, goes_on, changes, HoldsBody, Fits}
use Rattle.half_slave.proofs.Lent.{lent-6}
use Rattle.half_slave.proofs.Sizes.{some-left, reply-most, lent-most}
use Rattle.half_slave.proofs.Arriving.{stands-new, ear-byte, stands-byte}

-- the laws of a host's bodies
pub record KeepsBodies {H : Type 0} (m : Ghosts H) : Type 0 where
  pub next_is : (h : H) → m.holds_bodies h → IfSome (m.next_body h) IsBody
  pub at_accept : (h : H) (body : List ℕ) → m.holds_bodies h → IsBody body → IsTrue (m.room_for h body) → m.holds_bodies (m.after_accept h body)
  pub at_next : (h : H) → m.holds_bodies h → m.holds_bodies (m.after_next h)
  pub at_told : (h : H) (fate : Fate) → m.holds_bodies h → m.holds_bodies (m.after_told h fate)
  pub at_clear : (h : H) → m.holds_bodies h → m.holds_bodies (m.after_clear h)

-- ---- the rows

pub told-fits : {H : Type 0} (m : Ghosts H) (laws : KeepsBodies m) (s : SlaveState H) (what : Option Fate) → Fits m s → Fits m (told m s what)
told-fits m laws s None fits = fits
told-fits m laws s (Some what) fits = record { is_short = fits.is_short; held_fits = tt; host_holds = laws.at_told s.host what fits.host_holds }

accepted-room : (repeats room : Bool) (v : Verdict) → (if repeats then Repeated else (if room then Accepted else Refused)) ≡ v → v ≡ Accepted → room ≡ true
accepted-room true room v is accepts = cc
accepted-room false true v is accepts = refl
accepted-room false false v is accepts = cc

received-fits : {H : Type 0} (m : Ghosts H) (laws : KeepsBodies m) (s : SlaveState H) (v : Verdict) → verdict m s ≡ v → IsBody (body_of s) → Fits m s → Fits m (received m s v)
received-fits m laws s Repeated is body fits = record { is_short = fits.is_short; held_fits = fits.held_fits; host_holds = fits.host_holds }
received-fits m laws s Accepted is body fits = record {
  is_short = fits.is_short;
  held_fits = fits.held_fits;
  host_holds = laws.at_accept s.host (body_of s) fits.host_holds body (accepted-room (is_kept s.kept (key_of (body_of s))) (m.room_for s.host (body_of s)) Accepted is refl);
}
received-fits m laws s Refused is body fits = record { is_short = fits.is_short; held_fits = fits.held_fits; host_holds = fits.host_holds }

message-fits : {H : Type 0} (m : Ghosts H) (laws : KeepsBodies m) (s : SlaveState H) (own : Bool) → IsBody (body_of s) → Fits m s → Fits m (if own then received m s (verdict m s) else s)
message-fits m laws s true body fits = received-fits m laws s (verdict m s) refl body fits
message-fits m laws s false body fits = fits

offered-fits : {H : Type 0} (m : Ghosts H) (laws : KeepsBodies m) (s : SlaveState H) (next : Option (List ℕ)) → m.next_body s.host ≡ next → Fits m s → Fits m (offered m s next)
offered-fits m laws s None is fits = record { is_short = omega arith; held_fits = fits.held_fits; host_holds = fits.host_holds }
offered-fits m laws s (Some body) is fits =
    let fit : IsBody body = subst (λ (o : Option (List ℕ)). IfSome o IsBody) is (laws.next_is s.host fits.host_holds) in
    record { is_short = reply-most s.setup.check body fit.1; held_fits = fit; host_holds = laws.at_next s.host fits.host_holds }

answered-fits : {H : Type 0} (m : Ghosts H) (laws : KeepsBodies m) (s : SlaveState H) (held : Option Held) → s.held ≡ held → Fits m s → Fits m (answered m s held)
answered-fits m laws s (Some message) is fits =
    let fit : IsBody s.sending = subst (λ (h : Option Held). HoldsBody h s.sending) is fits.held_fits in
    record { is_short = reply-most s.setup.check s.sending fit.1; held_fits = fits.held_fits; host_holds = fits.host_holds }
answered-fits m laws s None is fits = offered-fits m laws s (m.next_body s.host) refl fits

polled-fits : {H : Type 0} (m : Ghosts H) (laws : KeepsBodies m) (s : SlaveState H) (answers : Bool) → Fits m s → Fits m (if answers then polled m s else s)
polled-fits m laws s true fits = answered-fits m laws (told m s _) _ refl (told-fits m laws s _ fits)
polled-fits m laws s false fits = fits

reset-fits : {H : Type 0} (m : Ghosts H) (laws : KeepsBodies m) (s : SlaveState H) → Fits m s → Fits m (reset m s)
reset-fits m laws s fits =
    let after = told-fits m laws s (fate_at_reset s.held) fits in
    record { is_short = after.is_short; held_fits = after.held_fits; host_holds = laws.at_clear (told m s (fate_at_reset s.held)).host after.host_holds }

heard-fits : {H : Type 0} (m : Ghosts H) (laws : KeepsBodies m) (s : SlaveState H) (what : Option SlaveHeard) → ((stn : ℕ) → what ≡ Some (heard.Addressed stn) → IsBody (body_of s)) → Fits m s → Fits m (slave_after_heard m s what)
heard-fits m laws s None means fits = fits
heard-fits m laws s (Some (heard.Addressed stn)) means fits = message-fits m laws s (is_own s stn) (means stn refl) fits
heard-fits m laws s (Some (heard.Header stn)) means fits = fits
heard-fits m laws s (Some (heard.Poll stn)) means fits = polled-fits m laws s (is_answered s stn) fits
heard-fits m laws s (Some heard.BadPoll) means fits = fits
heard-fits m laws s (Some (heard.Damaged stn)) means fits = fits
heard-fits m laws s (Some heard.Ack) means fits = told-fits m laws s (fate_at_ack s.held) fits
heard-fits m laws s (Some heard.Reset) means fits = reset-fits m laws s fits
heard-fits m laws s (Some (heard.Stray b)) means fits = fits
heard-fits m laws s (Some (heard.StrayPair code)) means fits = fits

pub listened-body : (what : Option SlaveHeard) (held : Option Held) (body : List ℕ) → HoldsBody held body → HoldsBody (option_map (after_heard what) held) body
listened-body what None body fits = tt
listened-body what (Some message) body fits = fits

-- ---- a take

sent-body : (last : Bool) (held : Option Held) (body : List ℕ) → HoldsBody held body → HoldsBody (if last then option_map after_sending held else held) body
sent-body true None body fits = tt
sent-body true (Some message) body fits = fits
sent-body false held body fits = fits

take-short : (left : List Sent) (number : Option ℕ) (begun : ℕ) (responds : Option Resp)
    → let g : Giving = record { left = left; number = number; begun = begun } in
    bytes_left g ≤ 509 → bytes_left (take (mouth_at_take g responds)).0 ≤ 509
take-short [] number begun None short = omega arith
take-short [] number begun (Some r) short = omega arith
take-short (x ∷ more) number begun responds short = rw (some-left x more) (omega arith)

take-fits : {H : Type 0} (m : Ghosts H) (s : SlaveState H) → Fits m s → Fits m (slave_after_take s)
take-fits m s fits = record {
  is_short = take-short s.mouth.left s.mouth.number s.mouth.begun s.responds fits.is_short;
  held_fits = sent-body (ends_here (out_at_take s)) s.held s.sending fits.held_fits;
  host_holds = fits.host_holds;
}

-- ---- every slave that is reached

-- what is carried: what it holds fits, and it stands for some bytes
pub record Carried {H : Type 0} (m : Ghosts H) (s : SlaveState H) : Type 0 where
  pub fits : Fits m s
  pub check : Check
  pub bytes : List ℕ
  pub stands : StandsFor check bytes s

carried-new : {H : Type 0} (m : Ghosts H) (setup : SlaveSetup) (host : H) → m.holds_bodies host → Carried m (new_slave setup host)
carried-new m setup host holds = record {
  fits = record { is_short = omega arith; held_fits = tt; host_holds = holds };
  check = setup.check;
  bytes = [];
  stands = stands-new setup host;
}

carried-byte : {H : Type 0} (m : Ghosts H) (laws : KeepsBodies m) (s : SlaveState H) (b : ℕ) → Carried m s → Carried m (slave_after_byte m s b)
carried-byte m laws s b c =
    let heard_now = listened s b in
    let stands : StandsFor c.check (c.bytes ++ b ∷ []) (slave_after_byte m s b) = stands-byte m s b c.check c.bytes c.stands in
    let most : length (body_of heard_now) ≤ 250 = lent-most c.check (c.bytes ++ b ∷ []) (next 250 s.ear b).0 (ear-byte s b c.check c.bytes c.stands) in
    let fits : Fits m heard_now = record { is_short = c.fits.is_short; held_fits = listened-body (heard_at s b) s.held s.sending c.fits.held_fits; host_holds = c.fits.host_holds } in
    record {
      fits = heard-fits m laws heard_now (heard_at s b) (λ stn is. (lent-6 s.ear b stn is, most)) fits;
      check = c.check;
      bytes = c.bytes ++ b ∷ [];
      stands = stands;
    }

carried-signal : {H : Type 0} (m : Ghosts H) (laws : KeepsBodies m) (s : SlaveState H) (signal : Letter) → Carried m s → Carried m (slave_after m s signal)
carried-signal m laws s (Byte b) c = carried-byte m laws s b c
carried-signal m laws s Take c = record { fits = take-fits m s c.fits; check = c.check; bytes = c.bytes; stands = c.stands }

carried-host : {H : Type 0} (m : Ghosts H) (s : SlaveState H) (host : H) → m.holds_bodies host → Carried m s → Carried m (with_host s host)
carried-host m s host holds c = record {
  fits = record { is_short = c.fits.is_short; held_fits = c.fits.held_fits; host_holds = holds };
  check = c.check;
  bytes = c.bytes;
  stands = c.stands;
}

reached-carries : {H : Type 0} (m : Ghosts H) (laws : KeepsBodies m) (s : SlaveState H) → Reached m s → Carried m s
reached-carries m laws s (begins setup host holds) = carried-new m setup host holds
reached-carries m laws s (goes_on from signal reached) = carried-signal m laws from signal (reached-carries m laws from reached)
reached-carries m laws s (changes from host holds reached) = carried-host m from host holds (reached-carries m laws from reached)

pub reached-fits : {H : Type 0} (m : Ghosts H) (laws : KeepsBodies m) (s : SlaveState H) → Reached m s → Fits m s
reached-fits m laws s reached = (reached-carries m laws s reached).fits

response-most : (some : Bool) → (if some then 2 else 0) ≤ 2
response-most true = omega arith
response-most false = omega arith

pub reached-most : {H : Type 0} (m : Ghosts H) (laws : KeepsBodies m) (s : SlaveState H) → Reached m s → left_to_give s ≤ 511
reached-most m laws s reached =
    let short = (reached-fits m laws s reached).is_short in
    let two = response-most (is_some s.responds) in
    omega (arith, short, two)
