-- The host and the slave agree on whether a message is out.
use Rattle.std.proofs.Common.{◌≡◌, ℕ, Bool, true, false, List, [], ◌∷◌, Option, Some, None, IsSome, sym, subst, ◌∙◌, refl}
use Rattle.std.specs.Prelude.{is_some, if◌then◌else◌}
use Rattle.std.specs.Option.{option_map}
use Rattle.df1_base.specs.declared.host.Host.{Ghosts}
use Rattle.df1_base.specs.declared.host.Fate.{Fate}
use Rattle.half_frame.specs.declared.heard.SlaveHeard.{SlaveHeard}
use Rattle.half_frame.specs.declared.heard.SlaveHeard.TheVariants as heard
use Rattle.pccc_envelope.specs.Accepted.{Verdict, Repeated, Accepted, Refused}
use Rattle.half_slave.specs.declared.held.Held.{Held}
use Rattle.half_slave.specs.Slave.{SlaveState, is_own, is_answered, verdict, told, received, offered, answered, polled, after_heard, after_sending, ends_here, fate_at_ack, fate_at_reset, heard_at, listened, out_at_take, slave_after_heard}
use Rattle.half_slave.specs.Emission.{Letter, Byte, Take, slave_after, slave_after_all}

-- the laws of a host's fates
pub record TellsFates {H : Type 0} (m : Ghosts H) : Type 0 where
  pub at_next : (h : H) → IsSome (m.next_body h) → m.is_out (m.after_next h) ≡ true
  pub at_told : (h : H) (fate : Fate) → m.is_out (m.after_told h fate) ≡ false
  pub at_accept : (h : H) (body : List ℕ) → m.is_out (m.after_accept h body) ≡ m.is_out h
  pub at_clear : (h : H) → m.is_out (m.after_clear h) ≡ m.is_out h

abbrev pub Agrees : {H : Type 0} → Ghosts H → SlaveState H → Type 0
Agrees m s = m.is_out s.host ≡ is_some s.held

told-agrees : {H : Type 0} (m : Ghosts H) (laws : TellsFates m) (s : SlaveState H) (what : Option Fate) → Agrees m s → Agrees m (told m s what)
told-agrees m laws s None agrees = agrees
told-agrees m laws s (Some what) agrees = laws.at_told s.host what

received-agrees : {H : Type 0} (m : Ghosts H) (laws : TellsFates m) (s : SlaveState H) (own : Bool) (v : Verdict) → Agrees m s → Agrees m (if own then received m s v else s)
received-agrees m laws s true Repeated agrees = agrees
received-agrees m laws s true Accepted agrees = laws.at_accept s.host _ ∙ agrees
received-agrees m laws s true Refused agrees = agrees
received-agrees m laws s false v agrees = agrees

offered-agrees : {H : Type 0} (m : Ghosts H) (laws : TellsFates m) (s : SlaveState H) (next : Option (List ℕ)) → m.next_body s.host ≡ next → Agrees m s → Agrees m (offered m s next)
offered-agrees m laws s None is agrees = agrees
offered-agrees m laws s (Some body) is agrees = laws.at_next s.host (subst (λ (o : Option (List ℕ)). IsSome o) (sym is) refl)

answered-agrees : {H : Type 0} (m : Ghosts H) (laws : TellsFates m) (s : SlaveState H) (held : Option Held) → Agrees m s → Agrees m (answered m s held)
answered-agrees m laws s (Some message) agrees = agrees
answered-agrees m laws s None agrees = offered-agrees m laws s (m.next_body s.host) refl agrees

polled-agrees : {H : Type 0} (m : Ghosts H) (laws : TellsFates m) (s : SlaveState H) (answers : Bool) → Agrees m s → Agrees m (if answers then polled m s else s)
polled-agrees m laws s true agrees = answered-agrees m laws (told m s _) _ (told-agrees m laws s _ agrees)
polled-agrees m laws s false agrees = agrees

heard-agrees : {H : Type 0} (m : Ghosts H) (laws : TellsFates m) (s : SlaveState H) (what : Option SlaveHeard) → Agrees m s → Agrees m (slave_after_heard m s what)
heard-agrees m laws s None agrees = agrees
heard-agrees m laws s (Some (heard.Addressed stn)) agrees = received-agrees m laws s (is_own s stn) (verdict m s) agrees
heard-agrees m laws s (Some (heard.Header stn)) agrees = agrees
heard-agrees m laws s (Some (heard.Poll stn)) agrees = polled-agrees m laws s (is_answered s stn) agrees
heard-agrees m laws s (Some heard.BadPoll) agrees = agrees
heard-agrees m laws s (Some (heard.Damaged stn)) agrees = agrees
heard-agrees m laws s (Some heard.Ack) agrees = told-agrees m laws s (fate_at_ack s.held) agrees
heard-agrees m laws s (Some heard.Reset) agrees =
    laws.at_clear (told m s (fate_at_reset s.held)).host ∙ told-agrees m laws s (fate_at_reset s.held) agrees
heard-agrees m laws s (Some (heard.Stray b)) agrees = agrees
heard-agrees m laws s (Some (heard.StrayPair code)) agrees = agrees

still-held : (what : Option SlaveHeard) (held : Option Held) → is_some (option_map (after_heard what) held) ≡ is_some held
still-held what None = refl
still-held what (Some message) = refl

sent-held : (last : Bool) (held : Option Held) → is_some (if last then option_map after_sending held else held) ≡ is_some held
sent-held true None = refl
sent-held true (Some message) = refl
sent-held false held = refl

signal-agrees : {H : Type 0} (m : Ghosts H) (laws : TellsFates m) (s : SlaveState H) (signal : Letter) → Agrees m s → Agrees m (slave_after m s signal)
signal-agrees m laws s (Byte b) agrees = heard-agrees m laws (listened s b) (heard_at s b) (agrees ∙ sym (still-held (heard_at s b) s.held))
signal-agrees m laws s Take agrees = agrees ∙ sym (sent-held (ends_here (out_at_take s)) s.held)

pub signals-agree : {H : Type 0} (m : Ghosts H) (laws : TellsFates m) (s : SlaveState H) (signals : List Letter) → Agrees m s → Agrees m (slave_after_all m s signals)
signals-agree m laws s [] agrees = agrees
signals-agree m laws s (signal ∷ signals) agrees = signals-agree m laws (slave_after m s signal) signals (signal-agrees m laws s signal agrees)
