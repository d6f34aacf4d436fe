-- What the rows of a slave's table leave as it was.
use Rattle.std.proofs.Common.{◌≡◌, ℕ, Bool, true, false, List, Option, Some, None, ◌∙◌, refl}
use Rattle.std.specs.Prelude.{◌&&◌, if◌then◌else◌}
use Rattle.df1_base.specs.declared.host.Host.{Ghosts}
use Rattle.df1_base.specs.declared.host.Fate.{Fate}
use Rattle.half_frame.specs.declared.heard.SlaveHeard.{SlaveHeard}
use Rattle.half_frame.specs.declared.heard.SlaveHeard.TheVariants as heard
use Rattle.half_frame.specs.SlaveStep.{next}
use Rattle.pccc_envelope.specs.Accepted.{Verdict, Repeated, Accepted, Refused}
use Rattle.half_slave.specs.declared.held.Held.{Held}
use Rattle.half_slave.specs.Slave.{SlaveState, is_own, is_quiet, is_answered, verdict, told, received, offered, answered, polled, reset, fate_at_poll, fate_at_ack, fate_at_reset, heard_at, listened, slave_after_heard, slave_after_byte}

-- how the slave is set up, and its ear
pub record Stays {H : Type 0} (s after : SlaveState H) : Type 0 where
  pub setup_stays : after.setup ≡ s.setup
  pub ear_stays : after.ear ≡ s.ear

same : {H : Type 0} (s : SlaveState H) → Stays s s
same s = record { setup_stays = refl; ear_stays = refl }

either : {H : Type 0} (s x y : SlaveState H) (b : Bool) → Stays s x → Stays s y → Stays s (if b then x else y)
either s x y true first other = first
either s x y false first other = other

told-stays : {H : Type 0} (m : Ghosts H) (s : SlaveState H) (what : Option Fate) → Stays s (told m s what)
told-stays m s None = record { setup_stays = refl; ear_stays = refl }
told-stays m s (Some what) = record { setup_stays = refl; ear_stays = refl }

received-stays : {H : Type 0} (m : Ghosts H) (s : SlaveState H) (v : Verdict) → Stays s (received m s v)
received-stays m s Repeated = record { setup_stays = refl; ear_stays = refl }
received-stays m s Accepted = record { setup_stays = refl; ear_stays = refl }
received-stays m s Refused = record { setup_stays = refl; ear_stays = refl }

offered-stays : {H : Type 0} (m : Ghosts H) (s : SlaveState H) (next : Option (List ℕ)) → Stays s (offered m s next)
offered-stays m s None = record { setup_stays = refl; ear_stays = refl }
offered-stays m s (Some body) = record { setup_stays = refl; ear_stays = refl }

answered-stays : {H : Type 0} (m : Ghosts H) (s : SlaveState H) (held : Option Held) → Stays s (answered m s held)
answered-stays m s (Some message) = record { setup_stays = refl; ear_stays = refl }
answered-stays m s None = offered-stays m s (m.next_body s.host)

both : {H : Type 0} (s middle after : SlaveState H) → Stays s middle → Stays middle after → Stays s after
both s middle after first next = record { setup_stays = next.setup_stays ∙ first.setup_stays; ear_stays = next.ear_stays ∙ first.ear_stays }

polled-stays : {H : Type 0} (m : Ghosts H) (s : SlaveState H) → Stays s (polled m s)
polled-stays m s =
    let middle = told m s (fate_at_poll s.setup.max_sends s.held) in
    both s middle (polled m s) (told-stays m s (fate_at_poll s.setup.max_sends s.held)) (answered-stays m middle middle.held)

reset-stays : {H : Type 0} (m : Ghosts H) (s : SlaveState H) → Stays s (reset m s)
reset-stays m s =
    let first = told-stays m s (fate_at_reset s.held) in
    record { setup_stays = first.setup_stays; ear_stays = first.ear_stays }

heard-stays : {H : Type 0} (m : Ghosts H) (s : SlaveState H) (what : Option SlaveHeard) → Stays s (slave_after_heard m s what)
heard-stays m s None = same s
heard-stays m s (Some (heard.Addressed stn)) = either s (received m s (verdict m s)) s (is_own s stn) (received-stays m s (verdict m s)) (same s)
heard-stays m s (Some (heard.Header stn)) = same s
heard-stays m s (Some (heard.Poll stn)) = either s (polled m s) s (is_answered s stn) (polled-stays m s) (same s)
heard-stays m s (Some heard.BadPoll) = same s
heard-stays m s (Some (heard.Damaged stn)) = same s
heard-stays m s (Some heard.Ack) = told-stays m s (fate_at_ack s.held)
heard-stays m s (Some heard.Reset) = reset-stays m s
heard-stays m s (Some (heard.Stray b)) = same s
heard-stays m s (Some (heard.StrayPair code)) = same s

pub byte-setup : {H : Type 0} (m : Ghosts H) (s : SlaveState H) (b : ℕ) → (slave_after_byte m s b).setup ≡ s.setup
byte-setup m s b = (heard-stays m (listened s b) (heard_at s b)).setup_stays

pub byte-ear : {H : Type 0} (m : Ghosts H) (s : SlaveState H) (b : ℕ) → (slave_after_byte m s b).ear ≡ (next 250 s.ear b).0
byte-ear m s b = (heard-stays m (listened s b) (heard_at s b)).ear_stays

-- ---- what is being given

told-mouth : {H : Type 0} (m : Ghosts H) (s : SlaveState H) (what : Option Fate) → (told m s what).mouth ≡ s.mouth
told-mouth m s None = refl
told-mouth m s (Some what) = refl

received-mouth : {H : Type 0} (m : Ghosts H) (s : SlaveState H) (own : Bool) (v : Verdict) → (if own then received m s v else s).mouth ≡ s.mouth
received-mouth m s true Repeated = refl
received-mouth m s true Accepted = refl
received-mouth m s true Refused = refl
received-mouth m s false v = refl

busy-mouth : {H : Type 0} (m : Ghosts H) (s : SlaveState H) (own quiet : Bool) → quiet ≡ false → (if own && quiet then polled m s else s).mouth ≡ s.mouth
busy-mouth m s true true busy = absurd cc
busy-mouth m s true false busy = refl
busy-mouth m s false quiet busy = refl

-- while something is to be given, what is being given stays
pub heard-mouth : {H : Type 0} (m : Ghosts H) (s : SlaveState H) (what : Option SlaveHeard) → is_quiet s ≡ false → (slave_after_heard m s what).mouth ≡ s.mouth
heard-mouth m s None busy = refl
heard-mouth m s (Some (heard.Addressed stn)) busy = received-mouth m s (is_own s stn) (verdict m s)
heard-mouth m s (Some (heard.Header stn)) busy = refl
heard-mouth m s (Some (heard.Poll stn)) busy = busy-mouth m s (is_own s stn) (is_quiet s) busy
heard-mouth m s (Some heard.BadPoll) busy = refl
heard-mouth m s (Some (heard.Damaged stn)) busy = refl
heard-mouth m s (Some heard.Ack) busy = told-mouth m s (fate_at_ack s.held)
heard-mouth m s (Some heard.Reset) busy = told-mouth m s (fate_at_reset s.held)
heard-mouth m s (Some (heard.Stray b)) busy = refl
heard-mouth m s (Some (heard.StrayPair code)) busy = refl
