-- What a station does where it hears what the master gives on a line that nothing disturbs: each as one change of the station.
use Rattle.std.proofs.Common.{◌≡◌, ◌≢◌, ◌∙◌, ℕ, Bool, true, false, List, [], ◌++◌, append-nil, Option, Some, None, refl, ap, sym, option_map}
use Rattle.std.specs.Prelude.{if◌then◌else◌}
use Rattle.std.proofs.lemmas.Bool.{eq-eqb, ne_eqb}
use Rattle.df1_base.specs.declared.host.Host.{Ghosts}
use Rattle.df1_base.specs.declared.host.Fate.{Fate}
use Rattle.df1_base.specs.declared.host.Fate.TheVariants as fate
use Rattle.df1_base.specs.declared.host.News.TheVariants as news
use Rattle.df1_base.specs.declared.link.Act.{Act}
use Rattle.df1_base.specs.declared.link.Act.TheVariants as act
use Rattle.df1_base.specs.declared.link.Resp.TheVariants as resp
use Rattle.df1_base.specs.HostAnswers.{did_at, news_of}
use Rattle.half_frame.specs.declared.heard.SlaveHeard.{SlaveHeard}
use Rattle.half_frame.specs.declared.heard.SlaveHeard.TheVariants as heard
use Rattle.half_frame.specs.SlaveStep.{next}
use Rattle.half_frame.specs.SlaveStanding.{Listening, lent_at}
use Rattle.half_frame.specs.Spelling.{pair_bytes, unmarked}
use Rattle.half_mouth.specs.Giving.{give}
use Rattle.pccc_envelope.specs.Envelope.{key_of}
use Rattle.pccc_envelope.specs.Accepted.{Accepted, is_kept}
use Rattle.script_statement.specs.declared.who.Who.{Who}
use Rattle.report_lines.specs.NodeLines.{did_lines, act_lines, news_lines, step_lines}
use Rattle.half_slave.specs.declared.held.Held.{Held}
use Rattle.half_slave.specs.Slave.{SlaveState, loaded, after_heard, sent, received, verdict, heard_at, listened, slave_after_heard, slave_after_byte, fate_at_ack, told, polled, answered, is_quiet, is_own, is_answered, verdict_act, act_at, fate_at_poll, step_at_heard, step_at_byte}

-- ---- the ear alone

-- with its ear here
abbrev pub with_ear : {H : Type 0} → SlaveState H → Listening → SlaveState H
with_ear s ear = record s { ear = ear }

-- the ear after a byte
abbrev pub ear_at : {H : Type 0} → SlaveState H → ℕ → Listening
ear_at s b = (next 250 s.ear b).0

-- a message that is held stays as it is, where nothing is heard and where an ACK is
same-held : (what : Option SlaveHeard) (held : Option Held) → ((message : Held) → after_heard what message ≡ message) → option_map (after_heard what) held ≡ held
same-held what None same = refl
same-held what (Some message) same = ap Some (same message)

-- what was heard, with the message that is held
listened-is : {H : Type 0} (s : SlaveState H) (b : ℕ) (held : Option Held) → option_map (after_heard (heard_at s b)) s.held ≡ held → listened s b ≡ record s { ear = ear_at s b; held = held }
listened-is s b held is = ap (λ (h : Option Held). let after : SlaveState _ = record s { ear = ear_at s b; held = h } in after) is

-- nothing is heard
pub turn-silent : {H : Type 0} (m : Ghosts H) (s : SlaveState H) (b : ℕ) → heard_at s b ≡ None → slave_after_byte m s b ≡ with_ear s (ear_at s b)
turn-silent m s b is =
    let held : option_map (after_heard (heard_at s b)) s.held ≡ s.held = rw is (same-held None s.held (λ message. refl)) in
    ap (λ (what : Option SlaveHeard). slave_after_heard m (listened s b) what) is ∙ listened-is s b s.held held

-- ---- things that are for others, and an ACK for which the station doesn't wait

-- a station with this number passes it over
abbrev pub PassesOver : ℕ → SlaveHeard → Type 0
PassesOver number (heard.Header stn) = Unit {0}
PassesOver number (heard.Addressed stn) = stn ≢ number
PassesOver number (heard.Poll stn) = stn ≢ number
PassesOver number heard.Ack = Unit {0}
PassesOver number other = ⊥

passes : {H : Type 0} (m : Ghosts H) (s : SlaveState H) (what : SlaveHeard) → PassesOver s.setup.station what → s.held ≡ None → slave_after_heard m s (Some what) ≡ s
passes m s (heard.Header stn) over none = refl
passes m s (heard.Addressed stn) over none = rw (ne_eqb stn s.setup.station over) refl
passes m s (heard.Poll stn) over none = rw (ne_eqb stn s.setup.station over) refl
passes m s heard.Ack over none = rw none refl
passes m s other over none = absurd over

pub turn-passes : {H : Type 0} (m : Ghosts H) (s : SlaveState H) (b : ℕ) (what : SlaveHeard) → heard_at s b ≡ Some what → PassesOver s.setup.station what → s.held ≡ None → slave_after_byte m s b ≡ with_ear s (ear_at s b)
turn-passes m s b what is over none =
    let held : option_map (after_heard (heard_at s b)) s.held ≡ s.held = ap (option_map (after_heard (heard_at s b))) none ∙ sym none in
    let same = listened-is s b s.held held in
    ap (λ (w : Option SlaveHeard). slave_after_heard m (listened s b) w) is ∙ ap (λ (t : SlaveState _). slave_after_heard m t (Some what)) same ∙ passes m (with_ear s (ear_at s b)) what over none

-- ---- the ACK for which it waits

pub turn-acked : {H : Type 0} (m : Ghosts H) (s : SlaveState H) (b : ℕ) (message : Held) → heard_at s b ≡ Some heard.Ack → s.held ≡ Some message → message.wait_open ≡ true
    → slave_after_byte m s b ≡ record s { ear = ear_at s b; held = None; host = m.after_told s.host fate.Delivered }
turn-acked m s b message is holds waits =
    let held : option_map (after_heard (heard_at s b)) s.held ≡ s.held = rw is (same-held (Some heard.Ack) s.held (λ message. refl)) in
    let fate_is : fate_at_ack s.held ≡ Some fate.Delivered = rw (holds, waits) refl in
    ap (λ (w : Option SlaveHeard). slave_after_heard m (listened s b) w) is
    ∙ ap (λ (t : SlaveState _). told m t (fate_at_ack t.held)) (listened-is s b s.held held)
    ∙ ap (told m (with_ear s (ear_at s b))) fate_is

-- ---- a message to it

pub turn-accepts : {H : Type 0} (m : Ghosts H) (s : SlaveState H) (b : ℕ) → let body = lent_at (ear_at s b).standing in heard_at s b ≡ Some (heard.Addressed s.setup.station) → s.held ≡ None → is_kept s.kept (key_of body) ≡ false → m.room_for s.host body ≡ true
    → slave_after_byte m s b ≡ record s { ear = ear_at s b; kept = Some (key_of body); responds = Some resp.Ack; host = m.after_accept s.host body }
turn-accepts m s b is none new room =
    let body = lent_at (ear_at s b).standing in
    let now = with_ear s (ear_at s b) in
    let held : option_map (after_heard (heard_at s b)) s.held ≡ s.held = ap (option_map (after_heard (heard_at s b))) none ∙ sym none in
    let own : is_own now s.setup.station ≡ true = eq-eqb s.setup.station s.setup.station refl in
    let fits : verdict m now ≡ Accepted = rw (new, room) refl in
    ap (λ (w : Option SlaveHeard). slave_after_heard m (listened s b) w) is
    ∙ ap (λ (t : SlaveState _). slave_after_heard m t (Some (heard.Addressed s.setup.station))) (listened-is s b s.held held)
    ∙ ap (λ (mine : Bool). if mine then received m now (verdict m now) else now) own
    ∙ ap (received m now) fits

-- ---- a poll of it

polled-free : {H : Type 0} (m : Ghosts H) (s : SlaveState H) (b : ℕ) → heard_at s b ≡ Some (heard.Poll s.setup.station) → s.held ≡ None → is_quiet s ≡ true
    → slave_after_byte m s b ≡ answered m (with_ear s (ear_at s b)) None
polled-free m s b is none quiet =
    let now = with_ear s (ear_at s b) in
    let held : option_map (after_heard (heard_at s b)) s.held ≡ s.held = ap (option_map (after_heard (heard_at s b))) none ∙ sym none in
    let own : is_answered now s.setup.station ≡ true = rw (eq-eqb s.setup.station s.setup.station refl, quiet) refl in
    ap (λ (w : Option SlaveHeard). slave_after_heard m (listened s b) w) is
    ∙ ap (λ (t : SlaveState _). slave_after_heard m t (Some (heard.Poll s.setup.station))) (listened-is s b s.held held)
    ∙ ap (λ (mine : Bool). if mine then polled m now else now) own
    ∙ rw none refl

-- it has no message
pub turn-ends : {H : Type 0} (m : Ghosts H) (s : SlaveState H) (b : ℕ) → heard_at s b ≡ Some (heard.Poll s.setup.station) → s.held ≡ None → is_quiet s ≡ true → m.next_body s.host ≡ None
    → slave_after_byte m s b ≡ record s { ear = ear_at s b; mouth = give s.mouth (unmarked (pair_bytes 4)) }
turn-ends m s b is none quiet next = polled-free m s b is none quiet ∙ rw next refl

-- it has one
pub turn-sends : {H : Type 0} (m : Ghosts H) (s : SlaveState H) (b : ℕ) (body : List ℕ) → heard_at s b ≡ Some (heard.Poll s.setup.station) → s.held ≡ None → is_quiet s ≡ true → m.next_body s.host ≡ Some body
    → slave_after_byte m s b ≡ sent (record s { ear = ear_at s b; held = Some loaded; sending = body; host = m.after_next s.host })
turn-sends m s b body is none quiet next = polled-free m s b is none quiet ∙ rw next refl

-- ---- the lines that tell of it

-- no line tells of the byte
abbrev pub IsMute : {H : Type 0} → Ghosts H → SlaveState H → ℕ → Type 0
IsMute m s b = (who : Who) (body : List ℕ) → step_lines who (step_at_byte m s b) body ≡ []

pub mute-silent : {H : Type 0} (m : Ghosts H) (s : SlaveState H) (b : ℕ) → heard_at s b ≡ None → IsMute m s b
mute-silent m s b is who body = ap (λ (w : Option SlaveHeard). step_lines who (step_at_heard m (listened s b) w) body) is

mute-what : {H : Type 0} (m : Ghosts H) (s : SlaveState H) (what : SlaveHeard) → PassesOver s.setup.station what → s.held ≡ None → (who : Who) (body : List ℕ) → step_lines who (step_at_heard m s (Some what)) body ≡ []
mute-what m s (heard.Header stn) over none who body = refl
mute-what m s (heard.Addressed stn) over none who body = rw (ne_eqb stn s.setup.station over) refl
mute-what m s (heard.Poll stn) over none who body = rw (ne_eqb stn s.setup.station over) refl
mute-what m s heard.Ack over none who body = rw none refl
mute-what m s other over none who body = absurd over

pub mute-passes : {H : Type 0} (m : Ghosts H) (s : SlaveState H) (b : ℕ) (what : SlaveHeard) → heard_at s b ≡ Some what → PassesOver s.setup.station what → s.held ≡ None → IsMute m s b
mute-passes m s b what is over none who body =
    let held : option_map (after_heard (heard_at s b)) s.held ≡ s.held = ap (option_map (after_heard (heard_at s b))) none ∙ sym none in
    ap (λ (w : Option SlaveHeard). step_lines who (step_at_heard m (listened s b) w) body) is
    ∙ ap (λ (t : SlaveState _). step_lines who (step_at_heard m t (Some what)) body) (listened-is s b s.held held)
    ∙ mute-what m (with_ear s (ear_at s b)) what over none who body

-- a host has no news at a message that was delivered
abbrev pub IsDiscreet : {H : Type 0} → Ghosts H → Type 0
IsDiscreet {H} m = (host : H) → m.news host fate.Delivered ≡ news.Nothing

pub mute-acked : {H : Type 0} (m : Ghosts H) → IsDiscreet m → (s : SlaveState H) (b : ℕ) (message : Held) → heard_at s b ≡ Some heard.Ack → s.held ≡ Some message → message.wait_open ≡ true → IsMute m s b
mute-acked m discreet s b message is holds waits who body =
    let held : option_map (after_heard (heard_at s b)) s.held ≡ s.held = rw is (same-held (Some heard.Ack) s.held (λ message. refl)) in
    let fate_is : fate_at_ack s.held ≡ Some fate.Delivered = rw (holds, waits) refl in
    ap (λ (w : Option SlaveHeard). step_lines who (step_at_heard m (listened s b) w) body) is
    ∙ ap (λ (t : SlaveState _). news_lines who (news_of m (fate_at_ack t.held) t.host)) (listened-is s b s.held held)
    ∙ ap (λ (f : Option Fate). news_lines who (news_of m f s.host)) fate_is
    ∙ ap (news_lines who) (discreet s.host)

no-fate : (answers : Bool) (most : ℕ) (held : Option Held) → held ≡ None → (if answers then fate_at_poll most held else None) ≡ None
no-fate true most held none = rw none refl
no-fate false most held none = refl

pub mute-polled : {H : Type 0} (m : Ghosts H) (s : SlaveState H) (b stn : ℕ) → heard_at s b ≡ Some (heard.Poll stn) → s.held ≡ None → IsMute m s b
mute-polled m s b stn is none who body =
    let held : option_map (after_heard (heard_at s b)) s.held ≡ s.held = ap (option_map (after_heard (heard_at s b))) none ∙ sym none in
    let now = with_ear s (ear_at s b) in
    ap (λ (w : Option SlaveHeard). step_lines who (step_at_heard m (listened s b) w) body) is
    ∙ ap (λ (t : SlaveState _). step_lines who (step_at_heard m t (Some (heard.Poll stn))) body) (listened-is s b s.held held)
    ∙ ap (λ (f : Option Fate). news_lines who (news_of m f s.host)) (no-fate (is_answered now stn) s.setup.max_sends s.held none)

-- what the host did with an accepted message is told
pub tells-accepts : {H : Type 0} (m : Ghosts H) (s : SlaveState H) (b : ℕ) → let body = lent_at (ear_at s b).standing in heard_at s b ≡ Some (heard.Addressed s.setup.station) → s.held ≡ None → is_kept s.kept (key_of body) ≡ false → m.room_for s.host body ≡ true
    → (who : Who) (named : List ℕ) → step_lines who (step_at_byte m s b) named ≡ did_lines who (Some (m.did s.host body)) named
tells-accepts m s b is none new room who named =
    let body = lent_at (ear_at s b).standing in
    let now = with_ear s (ear_at s b) in
    let held : option_map (after_heard (heard_at s b)) s.held ≡ s.held = ap (option_map (after_heard (heard_at s b))) none ∙ sym none in
    let own : is_own now s.setup.station ≡ true = eq-eqb s.setup.station s.setup.station refl in
    let fits : verdict m now ≡ Accepted = rw (new, room) refl in
    let accepts : act_at m now (Some (heard.Addressed s.setup.station)) ≡ act.Accept = ap (λ (mine : Bool). if mine then verdict_act (verdict m now) else act.Nothing) own ∙ ap verdict_act fits in
    ap (λ (w : Option SlaveHeard). step_lines who (step_at_heard m (listened s b) w) named) is
    ∙ ap (λ (t : SlaveState _). step_lines who (step_at_heard m t (Some (heard.Addressed s.setup.station))) named) (listened-is s b s.held held)
    ∙ ap (λ (a : Act). act_lines who a (did_at m a s.host body) named ++ []) accepts
    ∙ append-nil (did_lines who (Some (m.did s.host body)) named)
