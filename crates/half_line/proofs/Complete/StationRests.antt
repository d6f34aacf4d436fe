-- A station of which nothing is awaited, and one that is called, on a line that nothing disturbs: what each hears leaves it so, until the call is heard.
use Rattle.std.proofs.Common.{◌≡◌, ◌∙◌, ℕ, true, List, [], ◌∷◌, ◌++◌, Option, Some, None, refl, ap, sym, subst, inl, inr}
use Rattle.std.specs.Prelude.{◌⊎◌}
use Rattle.df1_base.specs.declared.host.Host.{Ghosts}
use Rattle.df1_base.specs.declared.host.Fate.TheVariants as fate
use Rattle.half_frame.specs.declared.heard.SlaveHeard.{SlaveHeard}
use Rattle.half_frame.specs.declared.heard.SlaveHeard.TheVariants as heard
use Rattle.half_frame.specs.SlaveStanding.{lent_at}
use Rattle.half_slave.specs.declared.held.Held.{Held}
use Rattle.half_slave.specs.Slave.{SlaveState, heard_at, slave_after_byte}
use Rattle.lane_cells.specs.Cells.{LaneCell}
use Rattle.half_line.proofs.Complete.EarHears.{Telling, told, Hears, First, silent, says, first-heard, deceived_at}
use Rattle.half_line.proofs.Complete.StationHears.{station_ear}
use Rattle.half_line.proofs.Complete.StationTurns.{PassesOver, IsMute, IsDiscreet, ear_at, turn-silent, turn-passes, turn-acked, mute-silent, mute-passes, mute-acked}

-- ---- what a station still hears while nothing of it is awaited

-- all of it passes the station over
abbrev pub AllPass : ℕ → List (Telling station_ear) → Type 0
AllPass number [] = Unit {0}
AllPass number (t ∷ ts) = PassesOver number t.what × AllPass number ts

pub pass-join : (number : ℕ) (ts us : List (Telling station_ear)) → AllPass number ts → AllPass number us → AllPass number (ts ++ us)
pass-join number [] us all more = more
pass-join number (t ∷ ts) us all more = (all.0, pass-join number ts us all.1 more)

abbrev pub the_ack : Telling station_ear
the_ack = told station_ear heard.Ack []

-- it holds no message; or it holds one whose ACK is the first that it will hear
pub data Rest (number : ℕ) (held : Option Held) (all : List (Telling station_ear)) : Type 0 where
  free : held ≡ None → AllPass number all → Rest number held all
  holds : (message : Held) (rest : List (Telling station_ear)) → held ≡ Some message → message.wait_open ≡ true → all ≡ the_ack ∷ rest → AllPass number rest → Rest number held all

-- more that passes it over
pub rest-more : {number : ℕ} {held : Option Held} {all : List (Telling station_ear)} (more : List (Telling station_ear)) → AllPass number more → Rest number held all → Rest number held (all ++ more)
rest-more {number = number} {all = all} more pass (free none over) = free none (pass-join number all more over pass)
rest-more {number = number} more pass (holds message rest is waits first over) = holds message (rest ++ more) is waits (ap (λ (ts : List (Telling station_ear)). ts ++ more) first) (pass-join number rest more over pass)

-- a station that gives nothing
pub record IsStill {H : Type 0} (s : SlaveState H) : Type 0 where
  pub gives_none : s.mouth.left ≡ []
  pub owes_none : s.responds ≡ None

-- of which nothing is awaited, with these cells to come
pub record Rests {H : Type 0} (s : SlaveState H) (cells : List LaneCell) : Type 0 where
  pub all : List (Telling station_ear)
  pub hears : Hears station_ear s.ear cells all
  pub still : IsStill s
  pub rest : Rest s.setup.station s.held all

-- ---- a thing that is heard at rest

-- the host stays as it was, or is told that its message was delivered
abbrev pub KeepsHost : {H : Type 0} → Ghosts H → H → H → Type 0
KeepsHost m was now = (now ≡ was) ⊎ (now ≡ m.after_told was fate.Delivered)

-- the station after a byte at which it stays at rest, and no line tells of it
pub record Stays {H : Type 0} (m : Ghosts H) (s : SlaveState H) (b : ℕ) (left : List (Telling station_ear)) : Type 0 where
  pub ear : (slave_after_byte m s b).ear ≡ ear_at s b
  pub setup : (slave_after_byte m s b).setup ≡ s.setup
  pub kept : (slave_after_byte m s b).kept ≡ s.kept
  pub host : KeepsHost m s.host (slave_after_byte m s b).host
  pub still : IsStill s → IsStill (slave_after_byte m s b)
  pub rest : Rest s.setup.station (slave_after_byte m s b).held left
  pub mute : IsMute m s b

-- with this state after the byte
stays-as : {H : Type 0} (m : Ghosts H) (s after : SlaveState H) (b : ℕ) (left : List (Telling station_ear)) → slave_after_byte m s b ≡ after → after.ear ≡ ear_at s b → after.setup ≡ s.setup → after.kept ≡ s.kept → KeepsHost m s.host after.host → (IsStill s → IsStill after) → Rest s.setup.station after.held left → IsMute m s b
    → Stays m s b left
stays-as {H} m s after b left is ear setup kept host still rest mute = record {
  ear = ap (λ (t : SlaveState _). t.ear) is ∙ ear;
  setup = ap (λ (t : SlaveState _). t.setup) is ∙ setup;
  kept = ap (λ (t : SlaveState _). t.kept) is ∙ kept;
  host = subst (λ (t : SlaveState H). KeepsHost m s.host t.host) (sym is) host;
  still = λ now. subst IsStill (sym is) (still now);
  rest = subst (λ (t : SlaveState _). Rest s.setup.station t.held left) (sym is) rest;
  mute = mute;
}

first-same : (t u : Telling station_ear) (ts us : List (Telling station_ear)) → t ∷ ts ≡ u ∷ us → (t ≡ u) × (ts ≡ us)
first-same t u ts us e = (cc, cc)

-- a thing that is heard, where it and what follows leave the station at rest
stays-told : {H : Type 0} (m : Ghosts H) → IsDiscreet m → (s : SlaveState H) (b : ℕ) (what : SlaveHeard) (left : List (Telling station_ear)) → heard_at s b ≡ Some what → Rest s.setup.station s.held (told station_ear what (lent_at (ear_at s b).standing) ∷ left) → Stays m s b left
stays-told m discreet s b what left is (free none over) =
    stays-as m s _ b left (turn-passes m s b what is over.0 none) refl refl refl (inl refl) (λ now. record { gives_none = now.gives_none; owes_none = now.owes_none }) (free none over.1) (mute-passes m s b what is over.0 none)
stays-told m discreet s b what left is (holds message rest held waits first over) =
    let same = first-same (told station_ear what (lent_at (ear_at s b).standing)) the_ack left rest first in
    let ack : heard_at s b ≡ Some heard.Ack = is ∙ ap (λ (t : Telling station_ear). Some t.what) same.0 in
    stays-as m s _ b left (turn-acked m s b message ack held waits) refl refl refl (inr refl) (λ now. record { gives_none = now.gives_none; owes_none = now.owes_none }) (free refl (subst (AllPass s.setup.station) (sym same.1) over)) (mute-acked m discreet s b message ack held waits)

-- nothing is heard
stays-silent : {H : Type 0} (m : Ghosts H) (s : SlaveState H) (b : ℕ) (all : List (Telling station_ear)) → heard_at s b ≡ None → Rest s.setup.station s.held all → Stays m s b all
stays-silent m s b all is rest = stays-as m s _ b all (turn-silent m s b is) refl refl refl (inl refl) (λ now. record { gives_none = now.gives_none; owes_none = now.owes_none }) rest (mute-silent m s b is)

-- what it is after that
rests-stays : {H : Type 0} (m : Ghosts H) (s : SlaveState H) (b : ℕ) (cells : List LaneCell) (left : List (Telling station_ear)) → IsStill s → Hears station_ear (ear_at s b) cells left → Stays m s b left → Rests (slave_after_byte m s b) cells
rests-stays m s b cells left still hears stays = record {
  all = left;
  hears = subst (λ ear. Hears station_ear ear cells left) (sym stays.ear) hears;
  still = stays.still still;
  rest = subst (λ setup. Rest setup.station (slave_after_byte m s b).held left) (sym stays.setup) stays.rest;
}

-- ---- a cell arrives at a station at rest

-- it stays at rest; it isn't deceived, keeps its key, and no line tells of it
pub record Rested {H : Type 0} (m : Ghosts H) (s : SlaveState H) (cell : LaneCell) (cells : List LaneCell) : Type 0 where
  pub rests : Rests (slave_after_byte m s cell.byte) cells
  pub setup : (slave_after_byte m s cell.byte).setup ≡ s.setup
  pub kept : (slave_after_byte m s cell.byte).kept ≡ s.kept
  pub host : KeepsHost m s.host (slave_after_byte m s cell.byte).host
  pub mute : IsMute m s cell.byte
  pub honest : deceived_at station_ear s.ear cell ≡ 0

rested : {H : Type 0} (m : Ghosts H) (s : SlaveState H) (cell : LaneCell) (cells : List LaneCell) (left : List (Telling station_ear)) → IsStill s → Hears station_ear (ear_at s cell.byte) cells left → deceived_at station_ear s.ear cell ≡ 0 → Stays m s cell.byte left → Rested m s cell cells
rested m s cell cells left still hears honest stays = record { rests = rests-stays m s cell.byte cells left still hears stays; setup = stays.setup; kept = stays.kept; host = stays.host; mute = stays.mute; honest = honest }

rests-first : {H : Type 0} (m : Ghosts H) → IsDiscreet m → (s : SlaveState H) (cell : LaneCell) (cells : List LaneCell) (r : Rests s (cell ∷ cells)) → First station_ear s.ear cell cells r.all → Rested m s cell cells
rests-first m discreet s cell cells r (silent is hears) = rested m s cell cells r.all r.still hears r.hears.honest.0 (stays-silent m s cell.byte r.all is r.rest)
rests-first m discreet s cell cells r (says what rest is first hears) =
    rested m s cell cells rest r.still hears r.hears.honest.0 (stays-told m discreet s cell.byte what rest is (subst (Rest s.setup.station s.held) first r.rest))

pub rests-cell : {H : Type 0} (m : Ghosts H) → IsDiscreet m → (s : SlaveState H) (cell : LaneCell) (cells : List LaneCell) → Rests s (cell ∷ cells) → Rested m s cell cells
rests-cell m discreet s cell cells r = rests-first m discreet s cell cells r (first-heard station_ear s.ear cell cells r.all r.hears)

-- ---- a station that is called

-- the call is the last thing that it will hear of these cells; until then nothing of it is awaited
pub record Called {H : Type 0} (s : SlaveState H) (cells : List LaneCell) (call : Telling station_ear) : Type 0 where
  pub before : List (Telling station_ear)
  pub hears : Hears station_ear s.ear cells (before ++ call ∷ [])
  pub still : IsStill s
  pub rest : Rest s.setup.station s.held before

-- it hears the call at this cell, and no more is to come
pub record HearsCall {H : Type 0} (s : SlaveState H) (cell : LaneCell) (cells : List LaneCell) (call : Telling station_ear) : Type 0 where
  pub what : heard_at s cell.byte ≡ Some call.what
  pub body : lent_at (ear_at s cell.byte).standing ≡ call.body
  pub hears : Hears station_ear (ear_at s cell.byte) cells []
  pub none_held : s.held ≡ None
  pub still : IsStill s
  pub honest : deceived_at station_ear s.ear cell ≡ 0

-- it is still called, keeps its key, and no line tells of the cell
pub record StillCalled {H : Type 0} (m : Ghosts H) (s : SlaveState H) (cell : LaneCell) (cells : List LaneCell) (call : Telling station_ear) : Type 0 where
  pub called : Called (slave_after_byte m s cell.byte) cells call
  pub setup : (slave_after_byte m s cell.byte).setup ≡ s.setup
  pub kept : (slave_after_byte m s cell.byte).kept ≡ s.kept
  pub host : KeepsHost m s.host (slave_after_byte m s cell.byte).host
  pub mute : IsMute m s cell.byte
  pub honest : deceived_at station_ear s.ear cell ≡ 0

still-called : {H : Type 0} (m : Ghosts H) (s : SlaveState H) (cell : LaneCell) (cells : List LaneCell) (call : Telling station_ear) (before : List (Telling station_ear)) → IsStill s → Hears station_ear (ear_at s cell.byte) cells (before ++ call ∷ [])
    → deceived_at station_ear s.ear cell ≡ 0 → Stays m s cell.byte before → StillCalled m s cell cells call
still-called m s cell cells call before still hears honest stays = record {
  called = record {
    before = before;
    hears = subst (λ ear. Hears station_ear ear cells (before ++ call ∷ [])) (sym stays.ear) hears;
    still = stays.still still;
    rest = subst (λ setup. Rest setup.station (slave_after_byte m s cell.byte).held before) (sym stays.setup) stays.rest;
  };
  setup = stays.setup;
  kept = stays.kept;
  host = stays.host;
  mute = stays.mute;
  honest = honest;
}

-- a message that is held waits for something that is still to be heard
none-held : (number : ℕ) (held : Option Held) → Rest number held [] → held ≡ None
none-held number held (free none over) = none
none-held number held (holds message rest is waits first over) = absurd cc

called-told : {H : Type 0} (m : Ghosts H) → IsDiscreet m → (s : SlaveState H) (cell : LaneCell) (cells : List LaneCell) (call : Telling station_ear) (before : List (Telling station_ear)) (what : SlaveHeard) (rest : List (Telling station_ear))
    → IsStill s → deceived_at station_ear s.ear cell ≡ 0 → Rest s.setup.station s.held before → heard_at s cell.byte ≡ Some what → before ++ call ∷ [] ≡ told station_ear what (lent_at (ear_at s cell.byte).standing) ∷ rest → Hears station_ear (ear_at s cell.byte) cells rest
    → StillCalled m s cell cells call ⊎ HearsCall s cell cells call
called-told m discreet s cell cells call [] what rest still honest at is first hears =
    let same = first-same call (told station_ear what (lent_at (ear_at s cell.byte).standing)) [] rest first in
    inr (record {
      what = is ∙ ap (λ (t : Telling station_ear). Some t.what) (sym same.0);
      body = ap (λ (t : Telling station_ear). t.body) (sym same.0);
      hears = subst (Hears station_ear (ear_at s cell.byte) cells) (sym same.1) hears;
      none_held = none-held s.setup.station s.held at;
      still = still;
      honest = honest;
    })
called-told m discreet s cell cells call (t ∷ before) what rest still honest at is first hears =
    let now = told station_ear what (lent_at (ear_at s cell.byte).standing) in
    let same = first-same t now (before ++ call ∷ []) rest first in
    let at_now : Rest s.setup.station s.held (now ∷ before) = subst (λ (u : Telling station_ear). Rest s.setup.station s.held (u ∷ before)) same.0 at in
    inl (still-called m s cell cells call before still (subst (Hears station_ear (ear_at s cell.byte) cells) (sym same.1) hears) honest (stays-told m discreet s cell.byte what before is at_now))

called-first : {H : Type 0} (m : Ghosts H) → IsDiscreet m → (s : SlaveState H) (cell : LaneCell) (cells : List LaneCell) (call : Telling station_ear) (c : Called s (cell ∷ cells) call) → First station_ear s.ear cell cells (c.before ++ call ∷ [])
    → StillCalled m s cell cells call ⊎ HearsCall s cell cells call
called-first m discreet s cell cells call c (silent is hears) = inl (still-called m s cell cells call c.before c.still hears c.hears.honest.0 (stays-silent m s cell.byte c.before is c.rest))
called-first m discreet s cell cells call c (says what rest is first hears) = called-told m discreet s cell cells call c.before what rest c.still c.hears.honest.0 c.rest is first hears

-- a cell arrives at a station that is called
pub called-cell : {H : Type 0} (m : Ghosts H) → IsDiscreet m → (s : SlaveState H) (cell : LaneCell) (cells : List LaneCell) (call : Telling station_ear) → Called s (cell ∷ cells) call → StillCalled m s cell cells call ⊎ HearsCall s cell cells call
called-cell m discreet s cell cells call c = called-first m discreet s cell cells call c (first-heard station_ear s.ear cell cells (c.before ++ call ∷ []) c.hears)
