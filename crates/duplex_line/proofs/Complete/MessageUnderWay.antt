-- One direction that nothing disturbs: the message under way, and the one response that is awaited for it.
use Rattle.std.proofs.Common.{◌≡◌, ◌∙◌, ℕ, zero, suc, ◌+◌, ◌-◌, ◌<◌, ◌≤◌, Bool, true, false, List, [], ◌∷◌, ◌++◌, length, Option, Some, None, refl, ap, sym, subst, arith, append-nil, inl, inr}
use Rattle.std.specs.Prelude.{IsTrue, not, ◌&&◌, ◌⊎◌, ◌==◌, if◌then◌else◌}
use Rattle.std.proofs.lemmas.Bool.{lt-ltb}
use Rattle.df1_base.specs.declared.host.Host.{Ghosts}
use Rattle.df1_base.specs.declared.link.Act.{Act}
use Rattle.df1_base.specs.declared.link.Act.TheVariants as act
use Rattle.df1_base.specs.declared.link.Out.{Out}
use Rattle.df1_base.specs.declared.link.Resp.{Resp}
use Rattle.df1_base.specs.declared.link.Resp.TheVariants as resp
use Rattle.df1_base.specs.HostAnswers.{host_told}
use Rattle.df1_frame.specs.declared.heard.Heard.{Heard}
use Rattle.df1_frame.specs.declared.heard.Heard.TheVariants as hears
use Rattle.df1_frame.specs.Standing.{Decoding, lent_at}
use Rattle.df1_frame.specs.Step.{next}
use Rattle.duplex_sender.specs.declared.Limits.{Limits}
use Rattle.duplex_sender.specs.declared.Phase.{Phase}
use Rattle.duplex_sender.specs.declared.Phase.TheVariants as phase
use Rattle.duplex_sender.specs.declared.SendTurn.{SendTurn}
use Rattle.duplex_sender.specs.declared.SendTurn.TheVariants as turn
use Rattle.duplex_sender.specs.Sender.{SenderState, Activity, Idle, Sending, Waiting, phase_of, body_of, load, sent_last, on_ack, on_nak, nak_fate, on_tick, tick_turn}
use Rattle.embedded_response.specs.Giving.{Giving, Choice, Second, Respond, Give, Enquire, take, given, begin, chosen, offer, unask}
use Rattle.duplex_receiver.specs.Receiver.{kept_at}
use Rattle.duplex_end.specs.End.{EndState, after_out, ends_here, sender_after, fate_at, responded, is_waiting, dropped, host_after, act_of_byte, end_after_byte, end_after_tick, asked, fate_of_tick, with_host}
use Rattle.lane_cells.specs.Cells.{LaneCell, bare, cell_of}
use Rattle.duplex_line.proofs.Complete.DecoderPlace.{InSync, resps_heard, owed, is_resp, quiet-left, take-left, sync-plain, sync-begin, sync-offer, sync-unask}
use Rattle.duplex_line.proofs.Complete.AlteredBytes.{head-altered, IsWithin}
use Rattle.duplex_line.proofs.Complete.ClearLane.{end_of, IsTrueEnd, IsClear, resps, ends_one, goods, clear-other, clear-last, clear-anew, clear-give, goods-give}

-- how many responses a sender awaits
abbrev pub awaits : Activity → ℕ
awaits Idle = 0
awaits (Sending body naks enqs) = 0
awaits (Waiting body naks enqs left) = 1

-- the message that wasn't heard yet, where so many of its frames end in the lane
abbrev pub unheard : List ℕ → ℕ → List (List ℕ)
unheard body zero = []
unheard body (suc n) = body ∷ []

abbrev pub in_flight : Activity → ℕ → List (List ℕ)
in_flight Idle n = []
in_flight (Sending body naks enqs) n = body ∷ []
in_flight (Waiting body naks enqs left) n = unheard body n

-- the ticks of a wait that were not late are left of it
abbrev pub IsPatient : ℕ → ℕ → Activity → Type 0
IsPatient ticks late Idle = Unit {0}
IsPatient ticks late (Sending body naks enqs) = Unit {0}
IsPatient ticks late (Waiting body naks enqs left) = ticks ≤ left + late

-- the frames that end in a lane are of this body
abbrev pub IsBodyOf : List ℕ → Option (List ℕ) → Type 0
IsBodyOf body None = Unit {0}
IsBodyOf body (Some other) = other ≡ body

abbrev pub EndWith : List ℕ → List LaneCell → Type 0
EndWith body [] = Unit {0}
EndWith body (cell ∷ cells) = IsBodyOf body (end_of cell) × EndWith body cells

-- how often the message under way was refused by a NAK
abbrev pub naks_of : Activity → ℕ
naks_of Idle = 0
naks_of (Sending body naks enqs) = naks
naks_of (Waiting body naks enqs left) = naks

-- of so many of its transmissions that a byte was altered of, one is still to be refused
abbrev pub May : Activity → ℕ → Type 0
May a hits = suc (naks_of a) ≤ hits

-- how many such responses are on the way to a giver
abbrev pub due : {H : Type 0} → Resp → EndState H → EndState H → List LaneCell → ℕ
due r taker giver back = owed r taker.mouth + resps r giver.receiver.decoding back

-- Of the transmissions of the message under way a byte was altered in so many, and whether in the last that was begun: each is refused once
-- at most, and where the last may be, it isn't heard yet.
pub record Marks : Type 0 where
  pub hits : ℕ
  pub last_hit : Bool

-- what a giver handed out and a taker accepted, over a lane, with the lane back
pub record Flow {H : Type 0} (giver taker : EndState H) (lane back : List LaneCell) (sent heard : List (List ℕ)) (late : ℕ) (marks : Marks) : Type 0 where
  pub clear : IsClear (May giver.sender.activity marks.hits) taker.receiver.decoding lane giver.mouth giver.sending
  pub responses : awaits giver.sender.activity ≡ goods lane + (due resp.Ack taker giver back + due resp.Nak taker giver back)
  pub bodies : EndWith (body_of giver.sender) lane
  pub flight : sent ≡ heard ++ in_flight giver.sender.activity (goods lane + due resp.Nak taker giver back)
  pub patient : IsPatient giver.sender.limits.ack_ticks late giver.sender.activity
  pub spent : naks_of giver.sender.activity + due resp.Nak taker giver back ≤ marks.hits
  pub struck : marks.last_hit ≡ true → May giver.sender.activity marks.hits ⊎ ((goods lane ≡ 0) × (giver.mouth.left ≡ []))
  pub given : awaits giver.sender.activity ≡ 1 → giver.mouth.left ≡ []

-- where no frame ends, those that end are of any body
no-ends : (body : List ℕ) (cells : List LaneCell) → goods cells ≡ 0 → EndWith body cells
no-ends body [] none = tt
no-ends body (cell ∷ cells) none = no-ends-at body (end_of cell) cells none (no-ends body cells (omega (arith, none)))
  where
    no-ends-at : (body : List ℕ) (end : Option (List ℕ)) (cells : List LaneCell) → ends_one end + goods cells ≡ 0 → EndWith body cells → IsBodyOf body end × EndWith body cells
    no-ends-at body None cells none h = (tt, h)
    no-ends-at body (Some other) cells none h = absurd (omega (arith, none))

ends-give : (body : List ℕ) (cells : List LaneCell) (cell : LaneCell) → EndWith body cells → IsBodyOf body (end_of cell) → EndWith body (cells ++ cell ∷ [])
ends-give body [] cell h is = (is, tt)
ends-give body (first ∷ cells) cell h is = (h.0, ends-give body cells cell h.1 is)

-- ---- a message is handed out, and its frame begun

pub idle-activity : (a : Activity) (limits : Limits) → phase_of (record { limits = limits; activity = a }) ≡ phase.Idle → a ≡ Idle
idle-activity Idle limits is = refl
idle-activity (Sending body naks enqs) limits is = absurd cc
idle-activity (Waiting body naks enqs left) limits is = absurd cc

pub awaits-idle : (a : Activity) (limits : Limits) → phase_of (record { limits = limits; activity = a }) ≡ phase.Idle → awaits a ≡ 0
awaits-idle Idle limits is = refl
awaits-idle (Sending body naks enqs) limits is = absurd cc
awaits-idle (Waiting body naks enqs left) limits is = absurd cc

pub awaits-sending : (a : Activity) (limits : Limits) → phase_of (record { limits = limits; activity = a }) ≡ phase.Sending → awaits a ≡ 0
awaits-sending Idle limits is = refl
awaits-sending (Sending body naks enqs) limits is = refl
awaits-sending (Waiting body naks enqs left) limits is = absurd cc

-- the frame of the sender's message is begun: nothing of it was altered
pub flow-transmits : {H : Type 0} (e taker : EndState H) (lane back : List LaneCell) (sent heard : List (List ℕ)) (late : ℕ) (marks : Marks) (body : List ℕ) → chosen e.mouth ≡ None → phase_of e.sender ≡ phase.Sending → 6 ≤ length body → length body ≤ 250 → Flow e taker lane back sent heard late marks
    → Flow (record { receiver = e.receiver; sender = e.sender; mouth = begin e.mouth body; sending = body; host = e.host }) taker lane back sent heard late (record { hits = marks.hits; last_hit = false })
flow-transmits e taker lane back sent heard late marks body none sends low high f =
    let awaited = awaits-sending e.sender.activity e.sender.limits sends in
    let may = May e.sender.activity marks.hits in
    record {
      clear = clear-anew may may taker.receiver.decoding lane e.mouth (begin e.mouth body) e.sending body (omega (arith, f.responses, awaited)) (quiet-left e.mouth none) (λ d s. sync-begin none s body low high) f.clear;
      responses = f.responses;
      bodies = f.bodies;
      flight = f.flight;
      patient = f.patient;
      spent = f.spent;
      struck = λ hit. cc;
      given = λ waits. absurd (omega (arith, waits, awaited));
    }

-- an idle sender is given the next message, of which nothing was altered
pub flow-loads : {H : Type 0} (e taker : EndState H) (lane back : List LaneCell) (sent heard : List (List ℕ)) (late : ℕ) (marks : Marks) (hits : ℕ) (body : List ℕ) (host : H) → chosen e.mouth ≡ None → phase_of e.sender ≡ phase.Idle → Flow e taker lane back sent heard late marks
    → Flow (record { receiver = e.receiver; sender = load e.sender body; mouth = e.mouth; sending = e.sending; host = host }) taker lane back (sent ++ body ∷ []) heard late (record { hits = hits; last_hit = marks.last_hit })
flow-loads e taker lane back sent heard late marks hits body host none idle f =
    let is = idle-activity e.sender.activity e.sender.limits idle in
    let responses : 0 ≡ goods lane + (due resp.Ack taker e back + due resp.Nak taker e back) = rw is at f.responses in
    let flight : sent ≡ heard ++ [] = rw is at f.flight in
    let no_goods : goods lane ≡ 0 = omega (arith, responses) in
    record {
      clear = clear-anew (May e.sender.activity marks.hits) (1 ≤ hits) taker.receiver.decoding lane e.mouth e.mouth e.sending e.sending no_goods (quiet-left e.mouth none) (λ d s. s) f.clear;
      responses = responses;
      bodies = no-ends body lane no_goods;
      flight = ap (λ (m : List (List ℕ)). m ++ body ∷ []) (flight ∙ append-nil heard);
      patient = tt;
      spent = omega (arith, responses);
      struck = λ hit. inr (no_goods, quiet-left e.mouth none);
      given = λ waits. absurd (omega (arith, waits));
    }

-- ---- a byte is given

sending-activity : (a : Activity) (limits : Limits) → phase_of (record { limits = limits; activity = a }) ≡ phase.Sending → (body : List ℕ) × (naks : ℕ) × (enqs : ℕ) × (a ≡ Sending body naks enqs)
sending-activity Idle limits is = absurd cc
sending-activity (Sending body naks enqs) limits is = (body, naks, enqs, refl)
sending-activity (Waiting body naks enqs left) limits is = absurd cc

-- a byte that ends no transmission leaves the sender as it is
out-plain : (out : Out) (s : SenderState) → out.last_of ≡ None → after_out (Some out) s ≡ s
out-plain out s plain = rw plain refl

-- the giver after a byte, with the mouth that is left
abbrev pub gave : {H : Type 0} → EndState H → Out → EndState H
gave p out = record { receiver = p.receiver; sender = after_out (Some out) p.sender; mouth = (take p.mouth).0; sending = p.sending; host = p.host }

pub take-begun : (g : Giving) → (take g).0.begun ≡ g.begun
take-begun g = by-choice g (chosen g)
  where
    by-choice : (g : Giving) (c : Option Choice) → (given g c).0.begun ≡ g.begun
    by-choice g None = refl
    by-choice g (Some (Second out)) = refl
    by-choice g (Some (Respond r)) = refl
    by-choice g (Some (Give unit)) = refl
    by-choice g (Some Enquire) = refl

gave-plain : {H : Type 0} (p taker : EndState H) (lane back : List LaneCell) (sent heard : List (List ℕ)) (late : ℕ) (marks : Marks) (out : Out) → (take p.mouth).1 ≡ Some out → out.last_of ≡ None → Flow p taker lane back sent heard late marks
    → Flow (gave p out) taker (lane ++ cell_of p.sending out ∷ []) back sent heard late marks
gave-plain p taker lane back sent heard late marks out is plain f =
    let cell = cell_of p.sending out in
    let given = clear-give (May p.sender.activity marks.hits) taker.receiver.decoding lane p.mouth p.sending out is (take-begun p.mouth) f.clear in
    let none : end_of cell ≡ None = rw plain refl in
    let count : goods (lane ++ cell ∷ []) ≡ goods lane = goods-give lane cell ∙ rw none (plus-zero (goods lane)) in
    rw (out-plain out p.sender plain) (record {
      clear = given.0;
      responses = f.responses ∙ ap (λ (n : ℕ). n + (due resp.Ack taker p back + due resp.Nak taker p back)) (sym count);
      bodies = ends-give (body_of p.sender) lane cell f.bodies (subst (IsBodyOf (body_of p.sender)) (sym none) tt);
      flight = f.flight ∙ ap (λ (n : ℕ). heard ++ in_flight p.sender.activity (n + due resp.Nak taker p back)) (sym count);
      patient = f.patient;
      spent = f.spent;
      struck = λ hit. still count (f.struck hit);
      given = λ waits. take-left p.mouth (f.given waits);
    })
  where
    plus-zero : (n : ℕ) → n + 0 ≡ n
    plus-zero n = omega arith

    still : {m n : ℕ} → m ≡ n → May p.sender.activity marks.hits ⊎ ((n ≡ 0) × (p.mouth.left ≡ [])) → May p.sender.activity marks.hits ⊎ ((m ≡ 0) × ((take p.mouth).0.left ≡ []))
    still count (inl may) = inl may
    still count (inr none) = inr (count ∙ none.0, take-left p.mouth none.1)

-- with the last byte of a frame the sender waits
waits-now : (a : Activity) (limits : Limits) (body : List ℕ) (naks enqs : ℕ) → a ≡ Sending body naks enqs → (sent_last (record { limits = limits; activity = a })).activity ≡ Waiting body naks enqs limits.ack_ticks
waits-now a limits body naks enqs is = rw is refl

out-last : (out : Out) (s : SenderState) (number : ℕ) → out.last_of ≡ Some number → after_out (Some out) s ≡ sent_last s
out-last out s number last = rw last refl

naks-waiting : (a : Activity) (limits : Limits) → naks_of (sent_last (record { limits = limits; activity = a })).activity ≡ naks_of a
naks-waiting Idle limits = refl
naks-waiting (Sending body naks enqs) limits = refl
naks-waiting (Waiting body naks enqs left) limits = refl

gave-last : {H : Type 0} (p taker : EndState H) (lane back : List LaneCell) (sent heard : List (List ℕ)) (late : ℕ) (marks : Marks) (out : Out) (number : ℕ) → (take p.mouth).1 ≡ Some out → out.last_of ≡ Some number → phase_of p.sender ≡ phase.Sending → p.sending ≡ body_of p.sender → Flow p taker lane back sent heard late marks
    → Flow (gave p out) taker (lane ++ cell_of p.sending out ∷ []) back sent heard late marks
gave-last p taker lane back sent heard late marks out number is last sends same f =
    let a = sending-activity p.sender.activity p.sender.limits sends in
    let cell = cell_of p.sending out in
    let may = May p.sender.activity marks.hits in
    let given = clear-give may taker.receiver.decoding lane p.mouth p.sending out is (take-begun p.mouth) f.clear in
    let end : end_of cell ≡ Some p.sending = rw last refl in
    let count : goods (lane ++ cell ∷ []) ≡ goods lane + 1 = goods-give lane cell ∙ ap (λ (o : Option (List ℕ)). goods lane + ends_one o) end in
    let before : 0 ≡ goods lane + (due resp.Ack taker p back + due resp.Nak taker p back) = rw a.3 at f.responses in
    let none : goods lane ≡ 0 = omega (arith, before) in
    let one : goods (lane ++ cell ∷ []) ≡ 1 = count ∙ ap (λ (n : ℕ). n + 1) none in
    let waiting = waits-now p.sender.activity p.sender.limits a.0 a.1 a.2 a.3 in
    let naks = naks-waiting p.sender.activity p.sender.limits in
    let nothing_due : due resp.Nak taker p back ≡ 0 = omega (arith, before) in
    let sent_body : p.sending ≡ a.0 = same ∙ ap (λ (x : Activity). body_of (record { limits = p.sender.limits; activity = x })) a.3 in
    let flight : sent ≡ heard ++ a.0 ∷ [] = rw a.3 at f.flight in
    let left = all-given given.1 in
    rw (out-last out p.sender number last) (record {
      clear = rw naks given.0;
      responses = rw (waiting, one) (omega (arith, before));
      bodies = no-ends-but (body_of (sent_last p.sender)) lane cell none (subst (IsBodyOf (body_of (sent_last p.sender))) (sym end) (sent_body ∙ sym (ap (λ (x : Activity). body_of (record { limits = p.sender.limits; activity = x })) waiting)));
      flight = rw (waiting, one, nothing_due) flight;
      patient = rw waiting (omega arith);
      spent = rw naks f.spent;
      struck = λ hit. rw naks (inl (may-be given.1 (f.struck hit)));
      given = λ waits. left;
    })
  where
    no-ends-but : (body : List ℕ) (cells : List LaneCell) (cell : LaneCell) → goods cells ≡ 0 → IsBodyOf body (end_of cell) → EndWith body (cells ++ cell ∷ [])
    no-ends-but body cells cell none is = ends-give body cells cell (no-ends body cells none) is

    all-given : (out.last_of ≡ None) ⊎ ((take p.mouth).0.left ≡ []) → (take p.mouth).0.left ≡ []
    all-given (inl plain) = absurd (let no : None ≡ Some number = sym plain ∙ last in cc)
    all-given (inr left) = left

    may-be : (out.last_of ≡ None) ⊎ ((take p.mouth).0.left ≡ []) → May p.sender.activity marks.hits ⊎ ((goods lane ≡ 0) × (p.mouth.left ≡ [])) → May p.sender.activity marks.hits
    may-be ends (inl may) = may
    may-be ends (inr nothing) = absurd (let plain = clear-last (May p.sender.activity marks.hits) taker.receiver.decoding lane p.mouth p.sending (λ d s. sync-plain (May p.sender.activity marks.hits) p.mouth p.sending d out s nothing.1 is) f.clear in let no : None ≡ Some number = sym plain ∙ last in cc)

-- a byte is given by the end to which the other direction goes: a response that is owed is on its way now
pub flow-back : {H : Type 0} (P : Type 0) (p other : EndState H) (lane back : List LaneCell) (sent heard : List (List ℕ)) (late : ℕ) (marks : Marks) (out : Out) → (take p.mouth).1 ≡ Some out → IsClear P other.receiver.decoding back p.mouth p.sending → Flow other p lane back sent heard late marks
    → Flow other (gave p out) lane (back ++ cell_of p.sending out ∷ []) sent heard late marks
flow-back P p other lane back sent heard late marks out is clear f =
    let given = clear-give P other.receiver.decoding back p.mouth p.sending out is (take-begun p.mouth) clear in
    let ack = given.2 resp.Ack in
    let nak = given.2 resp.Nak in
    let same : due resp.Nak (gave p out) other (back ++ cell_of p.sending out ∷ []) ≡ due resp.Nak p other back = omega (arith, nak) in
    record {
      clear = f.clear;
      responses = omega (arith, f.responses, ack, nak);
      bodies = f.bodies;
      flight = f.flight ∙ ap (λ (n : ℕ). heard ++ in_flight other.sender.activity (goods lane + n)) (sym same);
      patient = f.patient;
      spent = omega (arith, f.spent, same);
      struck = f.struck;
      given = f.given;
    }

-- a byte is given
pub flow-gives : {H : Type 0} (p taker : EndState H) (lane back : List LaneCell) (sent heard : List (List ℕ)) (late : ℕ) (marks : Marks) (out : Out) → (take p.mouth).1 ≡ Some out → (IsTrue (ends_here (Some out)) → phase_of p.sender ≡ phase.Sending) → (IsTrue (ends_here (Some out)) → p.sending ≡ body_of p.sender)
    → Flow p taker lane back sent heard late marks → Flow (gave p out) taker (lane ++ cell_of p.sending out ∷ []) back sent heard late marks
flow-gives p taker lane back sent heard late marks out is sends same f = by-end out.last_of refl
  where
    by-end : (last : Option ℕ) → out.last_of ≡ last → Flow (gave p out) taker (lane ++ cell_of p.sending out ∷ []) back sent heard late marks
    by-end None plain = gave-plain p taker lane back sent heard late marks out is plain f
    by-end (Some number) last = gave-last p taker lane back sent heard late marks out number is last (sends (rw last refl)) (same (rw last refl)) f

-- ---- a byte arrives

-- the taker after an act
abbrev pub heard_by : {H : Type 0} → Ghosts H → EndState H → ℕ → Act → EndState H
heard_by m b byte what = record {
  receiver = record { decoding = (next 250 b.receiver.decoding byte).0; kept = kept_at b.receiver.kept (lent_at (next 250 b.receiver.decoding byte).0.standing) what };
  sender = sender_after what b.sender;
  mouth = dropped (phase_of b.sender) (phase_of (sender_after what b.sender)) (responded what b.mouth);
  sending = b.sending;
  host = host_told m (fate_at what b.sender) (host_after m what b.host (lent_at (next 250 b.receiver.decoding byte).0.standing));
}

-- a byte's effect is that of its act
pub byte-acts : {H : Type 0} (m : Ghosts H) (b : EndState H) (byte : ℕ) (what : Act) → act_of_byte m b byte ≡ what → end_after_byte m b byte ≡ heard_by m b byte what
byte-acts m b byte what is = ap (heard_by m b byte) is

dropped-same : (at : Phase) (g : Giving) → dropped at at g ≡ g
dropped-same phase.Idle g = refl
dropped-same phase.Sending g = refl
dropped-same phase.Waiting g = refl

none-of : (r : Resp) → resps_heard r None ≡ 0
none-of resp.Ack = refl
none-of resp.Nak = refl

good-of : (r : Resp) → resps_heard r (Some hears.Good) ≡ 0
good-of resp.Ack = refl
good-of resp.Nak = refl

bad-of : (r : Resp) → resps_heard r (Some hears.BadCheck) ≡ 0
bad-of resp.Ack = refl
bad-of resp.Nak = refl

-- where no end of a frame is heard, none ends
silent-end : (P : Type 0) (end : Option (List ℕ)) (h : Option Heard) (lent : List ℕ) → (h ≡ Some hears.Good → ⊥) → (h ≡ Some hears.BadCheck → ⊥) → IsTrueEnd P end h lent → end ≡ None
silent-end P None h lent good bad t = refl
silent-end P (Some body) None lent good bad t = absurd t
silent-end P (Some body) (Some hears.Good) lent good bad t = absurd (good refl)
silent-end P (Some body) (Some hears.BadCheck) lent good bad t = absurd (bad refl)
silent-end P (Some body) (Some other) lent good bad t = absurd t

-- no frame's end and no response that the other direction awaits is heard
abbrev NoEnd : Option Heard → Type 0
NoEnd h = (h ≡ Some hears.Good → ⊥) × (h ≡ Some hears.BadCheck → ⊥)

-- what was given of a frame arrives, while what the taker owes stays
arrives-plain : {H : Type 0} (a b b' : EndState H) (cell : LaneCell) (cells back : List LaneCell) (sent heard : List (List ℕ)) (late : ℕ) (marks : Marks) → NoEnd (next 250 b.receiver.decoding cell.byte).1 → b'.receiver.decoding ≡ (next 250 b.receiver.decoding cell.byte).0
    → ((r : Resp) → owed r b'.mouth ≡ owed r b.mouth) → Flow a b (cell ∷ cells) back sent heard late marks → Flow a b' cells back sent heard late marks
arrives-plain a b b' cell cells back sent heard late marks none decoding owes f =
    let may = May a.sender.activity marks.hits in
    let no_end = silent-end may (end_of cell) (next 250 b.receiver.decoding cell.byte).1 _ none.0 none.1 f.clear.0.0 in
    let count : goods (cell ∷ cells) ≡ goods cells = rw no_end (omega arith) in
    let ack = owes resp.Ack in
    let nak = owes resp.Nak in
    let same : goods cells + due resp.Nak b' a back ≡ goods (cell ∷ cells) + due resp.Nak b a back = omega (arith, count, nak) in
    record {
      clear = rw decoding f.clear.1;
      responses = omega (arith, f.responses, count, ack, nak);
      bodies = f.bodies.1;
      flight = f.flight ∙ ap (λ (n : ℕ). heard ++ in_flight a.sender.activity n) (sym same);
      patient = f.patient;
      spent = omega (arith, f.spent, nak);
      struck = λ hit. fewer count (f.struck hit);
      given = f.given;
    }
  where
    fewer : {m n : ℕ} → m ≡ n → May a.sender.activity marks.hits ⊎ ((m ≡ 0) × (a.mouth.left ≡ [])) → May a.sender.activity marks.hits ⊎ ((n ≡ 0) × (a.mouth.left ≡ []))
    fewer count (inl may) = inl may
    fewer count (inr nothing) = inr (sym count ∙ nothing.0, nothing.1)

-- the other direction, where a byte arrives that is no response to it, and no new response is owed
far-plain : {H : Type 0} (a b b' : EndState H) (cell : LaneCell) (cells lane : List LaneCell) (sent heard : List (List ℕ)) (late : ℕ) (marks : Marks) → ((r : Resp) → resps_heard r (next 250 b.receiver.decoding cell.byte).1 ≡ 0) → b'.receiver.decoding ≡ (next 250 b.receiver.decoding cell.byte).0
    → b'.sender ≡ b.sender → b'.sending ≡ b.sending → b'.mouth.begun ≡ b.mouth.begun → b'.mouth.left ≡ b.mouth.left → ((d : Decoding) → InSync (May b.sender.activity marks.hits) b.mouth b.sending d → InSync (May b.sender.activity marks.hits) b'.mouth b.sending d)
    → Flow b a lane (cell ∷ cells) sent heard late marks → Flow b' a lane cells sent heard late marks
far-plain a b b' cell cells lane sent heard late marks none decoding sender sending begun left goes f =
    let ack = none resp.Ack in
    let nak = none resp.Nak in
    let same : due resp.Nak a b' cells ≡ due resp.Nak a b (cell ∷ cells) = rw decoding (omega (arith, nak)) in
    let also : due resp.Ack a b' cells ≡ due resp.Ack a b (cell ∷ cells) = rw decoding (omega (arith, ack)) in
    record {
      clear = rw (sender, sending) (clear-other (May b.sender.activity marks.hits) a.receiver.decoding lane b.mouth b'.mouth b.sending b.sending begun goes f.clear);
      responses = rw sender (omega (arith, f.responses, same, also));
      bodies = rw sender f.bodies;
      flight = rw sender (f.flight ∙ ap (λ (n : ℕ). heard ++ in_flight b.sender.activity (goods lane + n)) (sym same));
      patient = rw sender f.patient;
      spent = rw sender (omega (arith, f.spent, same));
      struck = rw (sender, left) f.struck;
      given = rw (sender, left) f.given;
    }

-- nothing is heard
pub flow-silent : {H : Type 0} (m : Ghosts H) (a b : EndState H) (cell : LaneCell) (cells back : List LaneCell) (sent heard : List (List ℕ)) (late : ℕ) (marks : Marks) → (next 250 b.receiver.decoding cell.byte).1 ≡ None → Flow a b (cell ∷ cells) back sent heard late marks
    → Flow a (heard_by m b cell.byte act.Nothing) cells back sent heard late marks
flow-silent m a b cell cells back sent heard late marks is f =
    arrives-plain a b (heard_by m b cell.byte act.Nothing) cell cells back sent heard late marks (λ good. let no = sym is ∙ good in cc, λ bad. let no = sym is ∙ bad in cc) refl (λ r. ap (owed r) (dropped-same (phase_of b.sender) b.mouth)) f

pub far-silent : {H : Type 0} (m : Ghosts H) (a b : EndState H) (cell : LaneCell) (cells lane : List LaneCell) (sent heard : List (List ℕ)) (late : ℕ) (marks : Marks) → (next 250 b.receiver.decoding cell.byte).1 ≡ None → Flow b a lane (cell ∷ cells) sent heard late marks
    → Flow (heard_by m b cell.byte act.Nothing) a lane cells sent heard late marks
far-silent m a b cell cells lane sent heard late marks is f =
    let same = dropped-same (phase_of b.sender) b.mouth in
    far-plain a b (heard_by m b cell.byte act.Nothing) cell cells lane sent heard late marks (λ r. rw is (none-of r)) refl refl refl (ap (λ (g : Giving). g.begun) same) (ap (λ (g : Giving). g.left) same) (λ d s. rw same s) f

-- ---- a response is heard

sync-dropped : (P : Type 0) (leaves : Bool) (g : Giving) (body : List ℕ) (d : Decoding) → InSync P g body d → InSync P (if leaves then unask g else g) body d
sync-dropped P true g body d s = sync-unask s
sync-dropped P false g body d s = s

pub begun-same : (leaves : Bool) (g : Giving) → (if leaves then unask g else g).begun ≡ g.begun
begun-same true g = refl
begun-same false g = refl

left-dropped : (leaves : Bool) (g : Giving) → (if leaves then unask g else g).left ≡ g.left
left-dropped true g = refl
left-dropped false g = refl

owed-dropped : (leaves : Bool) (g : Giving) (r : Resp) → owed r (if leaves then unask g else g) ≡ owed r g
owed-dropped true g r = refl
owed-dropped false g r = refl

acked : (a : Activity) (limits : Limits) → awaits a ≡ 1 → (on_ack (record { limits = limits; activity = a })).activity ≡ Idle
acked Idle limits one = absurd (omega (arith, one))
acked (Sending body naks enqs) limits one = absurd (omega (arith, one))
acked (Waiting body naks enqs left) limits one = refl

-- a NAK that isn't one too many
naked : (a : Activity) (limits : Limits) → awaits a ≡ 1 → naks_of a < limits.max_naks → (body : List ℕ) × (enqs : ℕ) × ((on_nak (record { limits = limits; activity = a })).activity ≡ Sending body (naks_of a + 1) enqs) × (body ≡ body_of (record { limits = limits; activity = a })) × (nak_fate (record { limits = limits; activity = a }) ≡ None)
naked Idle limits one few = absurd (omega (arith, one))
naked (Sending body naks enqs) limits one few = absurd (omega (arith, one))
naked (Waiting body naks enqs left) limits one few = (body, enqs, rw (lt-ltb naks limits.max_naks few) refl, refl, rw (lt-ltb naks limits.max_naks few) refl)

awaits-most : (a : Activity) → awaits a ≤ 1
awaits-most Idle = omega arith
awaits-most (Sending body naks enqs) = omega arith
awaits-most (Waiting body naks enqs left) = omega arith

flight-none : (a : Activity) → awaits a ≡ 1 → in_flight a 0 ≡ []
flight-none Idle one = absurd (omega (arith, one))
flight-none (Sending body naks enqs) one = absurd (omega (arith, one))
flight-none (Waiting body naks enqs left) one = refl

waiting-flight : (a : Activity) (limits : Limits) (n : ℕ) → awaits a ≡ 1 → in_flight a (suc n) ≡ body_of (record { limits = limits; activity = a }) ∷ []
waiting-flight Idle limits n one = absurd (omega (arith, one))
waiting-flight (Sending body naks enqs) limits n one = absurd (omega (arith, one))
waiting-flight (Waiting body naks enqs left) limits n one = refl

clear-dropped : (P : Type 0) (d : Decoding) (cells : List LaneCell) (leaves : Bool) (g : Giving) (sending : List ℕ) → IsClear P d cells g sending → IsClear P d cells (if leaves then unask g else g) sending
clear-dropped P d cells leaves g sending c = clear-other P d cells g (if leaves then unask g else g) sending sending (begun-same leaves g) (λ d s. sync-dropped P leaves g sending d s) c

-- an ACK: the far sender's message is delivered
pub far-acked : {H : Type 0} (m : Ghosts H) (a b : EndState H) (cell : LaneCell) (cells lane : List LaneCell) (sent heard : List (List ℕ)) (late : ℕ) (marks : Marks) → (next 250 b.receiver.decoding cell.byte).1 ≡ Some hears.Ack → Flow b a lane (cell ∷ cells) sent heard late marks
    → Flow (heard_by m b cell.byte act.PeerAck) a lane cells sent heard late marks × (awaits b.sender.activity ≡ 1)
far-acked m a b cell cells lane sent heard late marks is f =
    let one : resps_heard resp.Ack (next 250 b.receiver.decoding cell.byte).1 ≡ 1 = rw is refl in
    let waits : awaits b.sender.activity ≡ 1 = omega (arith, f.responses, one, awaits-most b.sender.activity) in
    let none : goods lane ≡ 0 = omega (arith, f.responses, one, waits) in
    let idle = acked b.sender.activity b.sender.limits waits in
    let rest = (next 250 b.receiver.decoding cell.byte).0 in
    let over : owed resp.Ack a.mouth + resps resp.Ack rest cells ≡ 0 = omega (arith, f.responses, one, waits) in
    let also : owed resp.Nak a.mouth + resps resp.Nak rest cells ≡ 0 = omega (arith, f.responses, one, waits) in
    let before : due resp.Nak a b (cell ∷ cells) ≡ 0 = omega (arith, f.responses, one, waits) in
    let flight : sent ≡ heard ++ [] = f.flight ∙ rw (none, before) (ap (λ (m : List (List ℕ)). heard ++ m) (flight-none b.sender.activity waits)) in
    let leaves = is_waiting (phase_of b.sender) && not (is_waiting (phase_of (on_ack b.sender))) in
    let left = left-dropped leaves b.mouth ∙ f.given waits in
    let anew = clear-anew (May b.sender.activity marks.hits) (May (on_ack b.sender).activity marks.hits) a.receiver.decoding lane b.mouth b.mouth b.sending b.sending none (f.given waits) (λ d s. s) f.clear in (
      record {
        clear = clear-dropped (May (on_ack b.sender).activity marks.hits) a.receiver.decoding lane leaves b.mouth b.sending anew;
        responses = rw (idle, none) (omega (arith, over, also));
        bodies = no-ends (body_of (on_ack b.sender)) lane none;
        flight = rw idle flight;
        patient = rw idle tt;
        spent = rw idle (omega (arith, also));
        struck = λ hit. inr (none, left);
        given = λ waits. left;
      },
      waits,
    )

-- a NAK: it is sent again
pub far-naked : {H : Type 0} (m : Ghosts H) (a b : EndState H) (cell : LaneCell) (cells lane : List LaneCell) (sent heard : List (List ℕ)) (late : ℕ) (marks : Marks) → (next 250 b.receiver.decoding cell.byte).1 ≡ Some hears.Nak → marks.hits ≤ b.sender.limits.max_naks → Flow b a lane (cell ∷ cells) sent heard late marks
    → Flow (heard_by m b cell.byte act.PeerNak) a lane cells sent heard late marks × (nak_fate b.sender ≡ None)
far-naked m a b cell cells lane sent heard late marks is few f =
    let one : resps_heard resp.Nak (next 250 b.receiver.decoding cell.byte).1 ≡ 1 = rw is refl in
    let waits : awaits b.sender.activity ≡ 1 = omega (arith, f.responses, one, awaits-most b.sender.activity) in
    let none : goods lane ≡ 0 = omega (arith, f.responses, one, waits) in
    let allowed : naks_of b.sender.activity < b.sender.limits.max_naks = omega (arith, f.spent, one, few) in
    let again = naked b.sender.activity b.sender.limits waits allowed in
    let rest = (next 250 b.receiver.decoding cell.byte).0 in
    let over : owed resp.Ack a.mouth + resps resp.Ack rest cells ≡ 0 = omega (arith, f.responses, one, waits) in
    let also : owed resp.Nak a.mouth + resps resp.Nak rest cells ≡ 0 = omega (arith, f.responses, one, waits) in
    let before : due resp.Nak a b (cell ∷ cells) ≡ 1 = omega (arith, f.responses, one, waits) in
    let flight : sent ≡ heard ++ again.0 ∷ [] = f.flight ∙ rw (none, before) (ap (λ (m : List (List ℕ)). heard ++ m) (waiting-flight b.sender.activity b.sender.limits 0 waits)) ∙ ap (λ (x : List ℕ). heard ++ x ∷ []) (sym again.3) in
    let leaves = is_waiting (phase_of b.sender) && not (is_waiting (phase_of (on_nak b.sender))) in
    let left = left-dropped leaves b.mouth ∙ f.given waits in
    let anew = clear-anew (May b.sender.activity marks.hits) (May (on_nak b.sender).activity marks.hits) a.receiver.decoding lane b.mouth b.mouth b.sending b.sending none (f.given waits) (λ d s. s) f.clear in (
      record {
        clear = clear-dropped (May (on_nak b.sender).activity marks.hits) a.receiver.decoding lane leaves b.mouth b.sending anew;
        responses = rw (again.2, none) (omega (arith, over, also));
        bodies = no-ends (body_of (on_nak b.sender)) lane none;
        flight = rw again.2 flight;
        patient = rw again.2 tt;
        spent = rw again.2 (omega (arith, also, f.spent, before));
        struck = λ hit. inr (none, left);
        given = λ waits. left;
      },
      again.4,
    )

-- where the ACK or the NAK is heard the near direction goes on
pub flow-acked : {H : Type 0} (m : Ghosts H) (a b : EndState H) (cell : LaneCell) (cells back : List LaneCell) (sent heard : List (List ℕ)) (late : ℕ) (marks : Marks) → (next 250 b.receiver.decoding cell.byte).1 ≡ Some hears.Ack → Flow a b (cell ∷ cells) back sent heard late marks
    → Flow a (heard_by m b cell.byte act.PeerAck) cells back sent heard late marks
flow-acked m a b cell cells back sent heard late marks is f =
    arrives-plain a b (heard_by m b cell.byte act.PeerAck) cell cells back sent heard late marks (λ good. let no = sym is ∙ good in cc, λ bad. let no = sym is ∙ bad in cc) refl (λ r. owed-dropped (is_waiting (phase_of b.sender) && not (is_waiting (phase_of (on_ack b.sender)))) b.mouth r) f

pub flow-naked : {H : Type 0} (m : Ghosts H) (a b : EndState H) (cell : LaneCell) (cells back : List LaneCell) (sent heard : List (List ℕ)) (late : ℕ) (marks : Marks) → (next 250 b.receiver.decoding cell.byte).1 ≡ Some hears.Nak → Flow a b (cell ∷ cells) back sent heard late marks
    → Flow a (heard_by m b cell.byte act.PeerNak) cells back sent heard late marks
flow-naked m a b cell cells back sent heard late marks is f =
    arrives-plain a b (heard_by m b cell.byte act.PeerNak) cell cells back sent heard late marks (λ good. let no = sym is ∙ good in cc, λ bad. let no = sym is ∙ bad in cc) refl (λ r. owed-dropped (is_waiting (phase_of b.sender) && not (is_waiting (phase_of (on_nak b.sender)))) b.mouth r) f

-- ---- a message is heard whole, and accepted

-- what is so where a frame's end is heard: the frame is the only one on its way, and no response to it is
pub record AtEnd {H : Type 0} (a b : EndState H) (cells back : List LaneCell) : Type 0 where
  pub waits : awaits a.sender.activity ≡ 1
  pub none : goods cells ≡ 0
  pub no_ack : due resp.Ack b a back ≡ 0
  pub no_nak : due resp.Nak b a back ≡ 0

pub at-end : {H : Type 0} (a b : EndState H) (cell : LaneCell) (cells back : List LaneCell) (sent heard : List (List ℕ)) (late : ℕ) (marks : Marks) (body : List ℕ) → end_of cell ≡ Some body → Flow a b (cell ∷ cells) back sent heard late marks → AtEnd a b cells back
at-end a b cell cells back sent heard late marks body end f =
    let count : goods (cell ∷ cells) ≡ suc (goods cells) = rw end (omega arith) in
    let waits : awaits a.sender.activity ≡ 1 = omega (arith, f.responses, count, awaits-most a.sender.activity) in
    record {
      waits = waits;
      none = omega (arith, f.responses, count, waits);
      no_ack = omega (arith, f.responses, count, waits);
      no_nak = omega (arith, f.responses, count, waits);
    }

-- a frame that is heard whole ends there
pub good-end : (P : Type 0) (end : Option (List ℕ)) (h : Option Heard) (lent : List ℕ) → h ≡ Some hears.Good → IsTrueEnd P end h lent → (body : List ℕ) × (end ≡ Some body) × ((lent ≡ body) ⊎ P)
good-end P (Some body) (Some hears.Good) lent is t = (body, refl, t.2)
good-end P None None lent is t = absurd cc
good-end P None (Some hears.Ack) lent is t = absurd cc
good-end P None (Some hears.Nak) lent is t = absurd cc
good-end P (Some body) (Some hears.BadCheck) lent is t = absurd cc
good-end P (Some body) None lent is t = absurd t
good-end P None (Some other) lent is t = absurd t
good-end P (Some body) (Some other) lent is t = absurd t

pub bad-end : (P : Type 0) (end : Option (List ℕ)) (h : Option Heard) (lent : List ℕ) → h ≡ Some hears.BadCheck → IsTrueEnd P end h lent → (body : List ℕ) × (end ≡ Some body) × P
bad-end P (Some body) (Some hears.BadCheck) lent is t = (body, refl, t.2)
bad-end P None None lent is t = absurd cc
bad-end P None (Some hears.Ack) lent is t = absurd cc
bad-end P None (Some hears.Nak) lent is t = absurd cc
bad-end P (Some body) (Some hears.Good) lent is t = absurd cc
bad-end P (Some body) None lent is t = absurd t
bad-end P None (Some other) lent is t = absurd t
bad-end P (Some body) (Some other) lent is t = absurd t

-- what is heard is the message under way
pub good-arrives : {H : Type 0} (a b : EndState H) (cell : LaneCell) (cells back : List LaneCell) (sent heard : List (List ℕ)) (late : ℕ) (marks : Marks) → end_of cell ≡ Some (lent_at (next 250 b.receiver.decoding cell.byte).0.standing) → Flow a b (cell ∷ cells) back sent heard late marks
    → sent ≡ heard ++ lent_at (next 250 b.receiver.decoding cell.byte).0.standing ∷ []
good-arrives a b cell cells back sent heard late marks end f =
    let lent = lent_at (next 250 b.receiver.decoding cell.byte).0.standing in
    let count : goods (cell ∷ cells) ≡ suc (goods cells) = rw end (omega arith) in
    let at = at-end a b cell cells back sent heard late marks lent end f in
    let same : lent ≡ body_of a.sender = rw end at f.bodies.0 in
    let one : goods (cell ∷ cells) + due resp.Nak b a back ≡ suc 0 = omega (arith, count, at.none, at.no_nak) in
    f.flight ∙ ap (λ (n : ℕ). heard ++ in_flight a.sender.activity n) one ∙ ap (λ (m : List (List ℕ)). heard ++ m) (waiting-flight a.sender.activity a.sender.limits 0 at.waits) ∙ ap (λ (x : List ℕ). heard ++ x ∷ []) (sym same)

owed-offer : (g : Giving) (r : Resp) → owed resp.Ack g ≡ 0 → owed resp.Nak g ≡ 0 → (owed resp.Ack (offer g r) ≡ is_resp resp.Ack r) × (owed resp.Nak (offer g r) ≡ is_resp resp.Nak r)
owed-offer g r ack nak = (omega (arith, ack), omega (arith, nak))

-- the taker owes an ACK for it
pub flow-accepted : {H : Type 0} (m : Ghosts H) (a b : EndState H) (cell : LaneCell) (cells back : List LaneCell) (sent heard : List (List ℕ)) (late : ℕ) (marks : Marks) → end_of cell ≡ Some (lent_at (next 250 b.receiver.decoding cell.byte).0.standing) → Flow a b (cell ∷ cells) back sent heard late marks
    → Flow a (heard_by m b cell.byte act.Accept) cells back sent (heard ++ lent_at (next 250 b.receiver.decoding cell.byte).0.standing ∷ []) late marks
flow-accepted m a b cell cells back sent heard late marks end f =
    let lent = lent_at (next 250 b.receiver.decoding cell.byte).0.standing in
    let at = at-end a b cell cells back sent heard late marks lent end f in
    let offered = owed-offer b.mouth resp.Ack (omega (arith, at.no_ack)) (omega (arith, at.no_nak)) in
    let nothing : goods cells + (owed resp.Nak (offer b.mouth resp.Ack) + resps resp.Nak a.receiver.decoding back) ≡ 0 = omega (arith, at.none, at.no_nak, offered.1) in
    let arrived = good-arrives a b cell cells back sent heard late marks end f in
    let flight : in_flight a.sender.activity (goods cells + (owed resp.Nak (offer b.mouth resp.Ack) + resps resp.Nak a.receiver.decoding back)) ≡ [] = ap (in_flight a.sender.activity) nothing ∙ flight-none a.sender.activity at.waits in
    rw (dropped-same (phase_of b.sender) (offer b.mouth resp.Ack)) (record {
      clear = f.clear.1;
      responses = omega (arith, at.waits, at.none, at.no_ack, at.no_nak, offered.0, offered.1);
      bodies = f.bodies.1;
      flight = arrived ∙ sym (append-nil (heard ++ lent ∷ [])) ∙ ap (λ (m : List (List ℕ)). (heard ++ lent ∷ []) ++ m) (sym flight);
      patient = f.patient;
      spent = omega (arith, f.spent, at.no_nak, offered.1);
      struck = λ hit. inr (at.none, f.given at.waits);
      given = f.given;
    })

-- or a NAK, for one that was altered
pub flow-refused : {H : Type 0} (m : Ghosts H) (a b : EndState H) (cell : LaneCell) (cells back : List LaneCell) (sent heard : List (List ℕ)) (late : ℕ) (marks : Marks) (body : List ℕ) → end_of cell ≡ Some body → May a.sender.activity marks.hits → Flow a b (cell ∷ cells) back sent heard late marks
    → Flow a (heard_by m b cell.byte act.Damaged) cells back sent heard late marks
flow-refused m a b cell cells back sent heard late marks body end may f =
    let at = at-end a b cell cells back sent heard late marks body end f in
    let count : goods (cell ∷ cells) ≡ suc (goods cells) = rw end (omega arith) in
    let offered = owed-offer b.mouth resp.Nak (omega (arith, at.no_ack)) (omega (arith, at.no_nak)) in
    let same : goods cells + (owed resp.Nak (offer b.mouth resp.Nak) + resps resp.Nak a.receiver.decoding back) ≡ goods (cell ∷ cells) + due resp.Nak b a back = omega (arith, at.none, at.no_nak, offered.1, count) in
    rw (dropped-same (phase_of b.sender) (offer b.mouth resp.Nak)) (record {
      clear = f.clear.1;
      responses = omega (arith, at.waits, at.none, at.no_ack, at.no_nak, offered.0, offered.1);
      bodies = f.bodies.1;
      flight = f.flight ∙ ap (λ (n : ℕ). heard ++ in_flight a.sender.activity n) (sym same);
      patient = f.patient;
      spent = omega (arith, may, at.no_nak, offered.1);
      struck = λ hit. inl may;
      given = f.given;
    })

far-offers : {H : Type 0} (m : Ghosts H) (a b : EndState H) (cell : LaneCell) (cells lane : List LaneCell) (sent heard : List (List ℕ)) (late : ℕ) (marks : Marks) (b' : EndState H) (r : Resp) → ((other : Resp) → resps_heard other (next 250 b.receiver.decoding cell.byte).1 ≡ 0) → b'.receiver.decoding ≡ (next 250 b.receiver.decoding cell.byte).0
    → b'.sender ≡ b.sender → b'.sending ≡ b.sending → b'.mouth ≡ dropped (phase_of b.sender) (phase_of b.sender) (offer b.mouth r) → Flow b a lane (cell ∷ cells) sent heard late marks → Flow b' a lane cells sent heard late marks
far-offers m a b cell cells lane sent heard late marks b' r none decoding sender sending mouth f =
    let same : b'.mouth ≡ offer b.mouth r = mouth ∙ dropped-same (phase_of b.sender) (offer b.mouth r) in
    far-plain a b b' cell cells lane sent heard late marks none decoding sender sending (ap (λ (g : Giving). g.begun) same) (ap (λ (g : Giving). g.left) same) (λ d s. rw same (sync-offer r s)) f

pub far-accepted : {H : Type 0} (m : Ghosts H) (a b : EndState H) (cell : LaneCell) (cells lane : List LaneCell) (sent heard : List (List ℕ)) (late : ℕ) (marks : Marks) → (next 250 b.receiver.decoding cell.byte).1 ≡ Some hears.Good → Flow b a lane (cell ∷ cells) sent heard late marks
    → Flow (heard_by m b cell.byte act.Accept) a lane cells sent heard late marks
far-accepted m a b cell cells lane sent heard late marks is f = far-offers m a b cell cells lane sent heard late marks (heard_by m b cell.byte act.Accept) resp.Ack (λ r. rw is (good-of r)) refl refl refl refl f

pub far-refused : {H : Type 0} (m : Ghosts H) (a b : EndState H) (cell : LaneCell) (cells lane : List LaneCell) (sent heard : List (List ℕ)) (late : ℕ) (marks : Marks) → (next 250 b.receiver.decoding cell.byte).1 ≡ Some hears.BadCheck → Flow b a lane (cell ∷ cells) sent heard late marks
    → Flow (heard_by m b cell.byte act.Damaged) a lane cells sent heard late marks
far-refused m a b cell cells lane sent heard late marks is f = far-offers m a b cell cells lane sent heard late marks (heard_by m b cell.byte act.Damaged) resp.Nak (λ r. rw is (bad-of r)) refl refl refl refl f

-- ---- a unit of time passes

-- a wait that isn't at its last tick
abbrev pub IsSteady : Activity → Type 0
IsSteady Idle = Unit {0}
IsSteady (Sending body naks enqs) = Unit {0}
IsSteady (Waiting body naks enqs left) = 1 < left

abbrev pub ticked : Activity → Activity
ticked Idle = Idle
ticked (Sending body naks enqs) = Sending body naks enqs
ticked (Waiting body naks enqs left) = Waiting body naks enqs (left - 1)

pub steady-sender : (limits : Limits) (a : Activity) → IsSteady a → (on_tick (record { limits = limits; activity = a }) ≡ record { limits = limits; activity = ticked a }) × (tick_turn (record { limits = limits; activity = a }) ≡ turn.Still)
steady-sender limits Idle steady = (refl, refl)
steady-sender limits (Sending body naks enqs) steady = (refl, refl)
steady-sender limits (Waiting body naks enqs left) steady = rw (lt-ltb 1 left steady) (refl, refl)

steady-mouth : (limits : Limits) (a : Activity) (g : Giving) → IsSteady a → dropped (phase_of (record { limits = limits; activity = a })) (phase_of (record { limits = limits; activity = ticked a })) g ≡ g
steady-mouth limits Idle g steady = refl
steady-mouth limits (Sending body naks enqs) g steady = refl
steady-mouth limits (Waiting body naks enqs left) g steady = refl

-- an end after such a tick: its wait is shorter, and its host has ticked
abbrev pub steadied : {H : Type 0} → Ghosts H → EndState H → EndState H
steadied m e = record { receiver = e.receiver; sender = record { limits = e.sender.limits; activity = ticked e.sender.activity }; mouth = e.mouth; sending = e.sending; host = m.after_tick e.host }

pub tick-steady : {H : Type 0} (m : Ghosts H) (e : EndState H) → IsSteady e.sender.activity → end_after_tick m e ≡ steadied m e
tick-steady {H} m e steady =
    let s = steady-sender e.sender.limits e.sender.activity steady in
    let by : SenderState → SendTurn → EndState H = λ sender t. record { receiver = e.receiver; sender = sender; mouth = dropped (phase_of e.sender) (phase_of sender) (asked t e.mouth); sending = e.sending; host = m.after_tick (host_told m (fate_of_tick t) e.host) } in
    let after : Giving → EndState H = λ g. record { receiver = e.receiver; sender = record { limits = e.sender.limits; activity = ticked e.sender.activity }; mouth = g; sending = e.sending; host = m.after_tick e.host } in
    ap (λ (sender : SenderState). by sender (tick_turn e.sender)) s.0 ∙ ap (by (record { limits = e.sender.limits; activity = ticked e.sender.activity })) s.1 ∙ ap after (steady-mouth e.sender.limits e.sender.activity e.mouth steady)

pub ticked-awaits : (a : Activity) → awaits (ticked a) ≡ awaits a
ticked-awaits Idle = refl
ticked-awaits (Sending body naks enqs) = refl
ticked-awaits (Waiting body naks enqs left) = refl

ticked-body : (limits : Limits) (a : Activity) → body_of (record { limits = limits; activity = ticked a }) ≡ body_of (record { limits = limits; activity = a })
ticked-body limits Idle = refl
ticked-body limits (Sending body naks enqs) = refl
ticked-body limits (Waiting body naks enqs left) = refl

ticked-flight : (a : Activity) (n : ℕ) → in_flight (ticked a) n ≡ in_flight a n
ticked-flight Idle n = refl
ticked-flight (Sending body naks enqs) n = refl
ticked-flight (Waiting body naks enqs left) n = refl

ticked-naks : (a : Activity) → naks_of (ticked a) ≡ naks_of a
ticked-naks Idle = refl
ticked-naks (Sending body naks enqs) = refl
ticked-naks (Waiting body naks enqs left) = refl

pub flow-ticks : {H : Type 0} (m : Ghosts H) (a b : EndState H) (lane back : List LaneCell) (sent heard : List (List ℕ)) (late later : ℕ) (marks : Marks) → IsPatient a.sender.limits.ack_ticks later (ticked a.sender.activity) → Flow a b lane back sent heard late marks → Flow (steadied m a) b lane back sent heard later marks
flow-ticks m a b lane back sent heard late later marks patient f =
    let naks = ticked-naks a.sender.activity in
    record {
      clear = rw naks f.clear;
      responses = ticked-awaits a.sender.activity ∙ f.responses;
      bodies = subst (λ (body : List ℕ). EndWith body lane) (sym (ticked-body a.sender.limits a.sender.activity)) f.bodies;
      flight = f.flight ∙ ap (λ (m : List (List ℕ)). heard ++ m) (sym (ticked-flight a.sender.activity (goods lane + due resp.Nak b a back)));
      patient = patient;
      spent = rw naks f.spent;
      struck = rw naks f.struck;
      given = λ waits. f.given (sym (ticked-awaits a.sender.activity) ∙ waits);
    }

pub far-ticks : {H : Type 0} (m : Ghosts H) (a b : EndState H) (lane back : List LaneCell) (sent heard : List (List ℕ)) (late : ℕ) (marks : Marks) → Flow b a lane back sent heard late marks → Flow b (steadied m a) lane back sent heard late marks
far-ticks m a b lane back sent heard late marks f = record { clear = f.clear; responses = f.responses; bodies = f.bodies; flight = f.flight; patient = f.patient; spent = f.spent; struck = f.struck; given = f.given }

-- the ticks are counted anew
pub flow-late : {H : Type 0} (a b : EndState H) (lane back : List LaneCell) (sent heard : List (List ℕ)) (late later : ℕ) (marks : Marks) → IsPatient a.sender.limits.ack_ticks later a.sender.activity → Flow a b lane back sent heard late marks → Flow a b lane back sent heard later marks
flow-late a b lane back sent heard late later marks patient f = record { clear = f.clear; responses = f.responses; bodies = f.bodies; flight = f.flight; patient = patient; spent = f.spent; struck = f.struck; given = f.given }

-- another host changes nothing of it
pub flow-host : {H : Type 0} (a b : EndState H) (host : H) (lane back : List LaneCell) (sent heard : List (List ℕ)) (late : ℕ) (marks : Marks) → Flow a b lane back sent heard late marks → Flow (with_host a host) b lane back sent heard late marks
flow-host a b host lane back sent heard late marks f = record { clear = f.clear; responses = f.responses; bodies = f.bodies; flight = f.flight; patient = f.patient; spent = f.spent; struck = f.struck; given = f.given }

pub far-host : {H : Type 0} (a b : EndState H) (host : H) (lane back : List LaneCell) (sent heard : List (List ℕ)) (late : ℕ) (marks : Marks) → Flow b a lane back sent heard late marks → Flow b (with_host a host) lane back sent heard late marks
far-host a b host lane back sent heard late marks f = record { clear = f.clear; responses = f.responses; bodies = f.bodies; flight = f.flight; patient = f.patient; spent = f.spent; struck = f.struck; given = f.given }

-- ---- a byte is altered

-- a byte of the transmission that was begun last is altered: it may be refused
pub flow-altered : {H : Type 0} (a b : EndState H) (cell : LaneCell) (byte : ℕ) (cells back : List LaneCell) (sent heard : List (List ℕ)) (late : ℕ) (marks after : Marks) → marks.hits ≤ after.hits → May a.sender.activity after.hits → IsWithin b.receiver.decoding cell.byte → cell.ends ≡ None → (byte == 16) ≡ false
    → Flow a b (cell ∷ cells) back sent heard late marks → Flow a b (bare byte ∷ cells) back sent heard late after
flow-altered a b cell byte cells back sent heard late marks after more may within ends plain f =
    let altered = head-altered (May a.sender.activity marks.hits) (May a.sender.activity after.hits) b.receiver.decoding cell byte cells a.mouth a.sending may within plain f.clear in
    let same : goods (bare byte ∷ cells) ≡ goods (cell ∷ cells) = rw ends refl in
    record {
      clear = altered.0;
      responses = omega (arith, f.responses, same);
      bodies = (tt, f.bodies.1);
      flight = f.flight ∙ ap (λ (n : ℕ). heard ++ in_flight a.sender.activity (n + due resp.Nak b a back)) (sym same);
      patient = f.patient;
      spent = omega (arith, f.spent, more);
      struck = λ hit. inl may;
      given = f.given;
    }

-- the other direction hears the same responses
pub far-altered : {H : Type 0} (P : Type 0) (a b : EndState H) (cell : LaneCell) (byte : ℕ) (cells lane : List LaneCell) (sent heard : List (List ℕ)) (late : ℕ) (marks : Marks) → ((r : Resp) → resps r b.receiver.decoding (bare byte ∷ cells) ≡ resps r b.receiver.decoding (cell ∷ cells))
    → Flow b a lane (cell ∷ cells) sent heard late marks → Flow b a lane (bare byte ∷ cells) sent heard late marks
far-altered P a b cell byte cells lane sent heard late marks same f =
    let ack = same resp.Ack in
    let nak = same resp.Nak in
    let due_same : due resp.Nak a b (bare byte ∷ cells) ≡ due resp.Nak a b (cell ∷ cells) = omega (arith, nak) in
    record {
      clear = f.clear;
      responses = omega (arith, f.responses, ack, nak);
      bodies = f.bodies;
      flight = f.flight ∙ ap (λ (n : ℕ). heard ++ in_flight b.sender.activity (goods lane + n)) (sym due_same);
      patient = f.patient;
      spent = omega (arith, f.spent, due_same);
      struck = f.struck;
      given = f.given;
    }
