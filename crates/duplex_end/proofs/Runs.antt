-- An end over lists of signals.
use Rattle.std.proofs.Common.{◌≡◌, ℕ, ◌≤◌, Bool, true, false, List, [], ◌∷◌, ◌++◌, length, Option, Some, None, is_none, ap, subst, sym, ◌∙◌, refl, append_assoc, append-nil}
use Rattle.std.specs.Prelude.{IfSome, not, ◌&&◌, if◌then◌else◌}
use Rattle.df1_base.specs.declared.host.Host.{Ghosts}
use Rattle.df1_base.specs.declared.link.Act.{Act}
use Rattle.df1_base.specs.declared.link.Act.TheVariants as act
use Rattle.df1_base.specs.declared.link.Out.{Out}
use Rattle.df1_check.specs.declared.Check.{Check}
use Rattle.df1_frame.specs.Grammar.{full_duplex}
use Rattle.df1_frame.proofs.LineLemmas.{stands-next, heard-next, stands-start as line-start}
use Rattle.df1_frame.proofs.GrammarLemmas.{machine, works}
use Rattle.duplex_sender.specs.declared.Phase.{Phase}
use Rattle.duplex_sender.specs.declared.Phase.TheVariants as phase
use Rattle.duplex_sender.specs.Sender.{SenderState, Activity, Idle, Sending, Waiting, phase_of, body_of, load, on_ack, on_nak, on_tick, tick_turn}
use Rattle.duplex_sender.specs.declared.Limits.{Limits}
use Rattle.duplex_sender.specs.declared.SendTurn.{SendTurn}
use Rattle.duplex_sender.specs.declared.SendTurn.TheVariants as sends
use Rattle.duplex_receiver.specs.Receiver.{Hearing, ReceiverState, hearing, after_byte, Response, Offers, Forgets, Again, Silent, response_for}
use Rattle.duplex_receiver.specs.Hearing.{Stands}
use Rattle.duplex_receiver.proofs.Keeping.{stands-more, stands-start as receiver-start}
use Rattle.df1_frame.specs.Standing.{Outside}
use Rattle.embedded_response.specs.Giving.{Giving, chosen, offer, forget, answer_enq, unask}
use Rattle.duplex_end.specs.End.{EndState, end_after_take, begun_at, begun_next, prepared, new_end, with_host, sender_after, responded, asked, is_waiting, act_of_byte}
use Rattle.duplex_end.specs.Joined.{Joined}
use Rattle.duplex_end.specs.Emission.{Letter, Byte, Tick, Take, end_after, given_at, end_after_all, emission, bytes_among, hearings}
use Rattle.duplex_end.specs.Moves.{Move, Signal, Change, end_after_moves, bytes_come, hearings_over}
use Rattle.duplex_end.specs.Reached.{BodiesFit}
use Rattle.duplex_end.specs.declared.Setup.{Setup}
use Rattle.duplex_end.proofs.Joining.{begin-joined, take-joined}
use Rattle.duplex_end.proofs.Order.{end-is}

-- ---- one signal more

pub end-more : {H : Type 0} (m : Ghosts H) (e : EndState H) (before : List Letter) (signal : Letter) → end_after_all m e (before ++ signal ∷ []) ≡ end_after m (end_after_all m e before) signal
end-more m e [] signal = refl
end-more m e (first ∷ before) signal = end-more m (end_after m e first) before signal

pub emission-more : {H : Type 0} (m : Ghosts H) (e : EndState H) (before : List Letter) (signal : Letter) → emission m e (before ++ signal ∷ []) ≡ emission m e before ++ given_at m (end_after_all m e before) signal
emission-more m e [] signal = append-nil (given_at m e signal)
emission-more m e (first ∷ before) signal =
    ap (λ (more : List Out). given_at m e first ++ more) (emission-more m (end_after m e first) before signal)
    ∙ sym (append_assoc (given_at m e first) (emission m (end_after m e first) before) (given_at m (end_after_all m (end_after m e first) before) signal))

-- ---- what is heard

-- a receiver stands for one byte more
receiver-stands : (room : List ℕ → Bool) (check : Check) (N : ℕ) (bytes : List ℕ) (before : List Hearing) (s : ReceiverState) (b : ℕ)
    → Stands check N bytes before s → Stands check N (bytes ++ b ∷ []) (before ++ hearing room N s b ∷ []) (after_byte room N s b)
receiver-stands room check N bytes before s b stands =
    stands-more room check N bytes before s b stands
    (stands-next (full_duplex check N) (machine check N) (works check N) b bytes s.decoding stands.decodes)
    (heard-next (full_duplex check N) (machine check N) (works check N) b bytes s.decoding stands.decodes)

begun-receiver : {H : Type 0} (m : Ghosts H) (e : EndState H) (at : Phase) (next : Option (List ℕ)) → (begun_at m e at next).receiver ≡ e.receiver
begun-receiver m e phase.Idle None = refl
begun-receiver m e phase.Idle (Some body) = refl
begun-receiver m e phase.Sending next = refl
begun-receiver m e phase.Waiting next = refl

prepared-receiver : {H : Type 0} (m : Ghosts H) (e : EndState H) (idle : Bool) → (if idle then begun_next m e else e).receiver ≡ e.receiver
prepared-receiver m e true = begun-receiver m e (phase_of e.sender) (m.next_body e.host)
prepared-receiver m e false = refl

-- a take leaves the receiver as it was
pub take-receiver : {H : Type 0} (m : Ghosts H) (e : EndState H) → (end_after_take m e).receiver ≡ e.receiver
take-receiver {H} m e = ap (λ (x : EndState H). x.receiver) (end-is m e) ∙ prepared-receiver m e (is_none (chosen e.mouth))

pub signals-stand : {H : Type 0} (m : Ghosts H) (check : Check) (e : EndState H) (bytes : List ℕ) (before : List Hearing) (signals : List Letter)
    → Stands check 250 bytes before e.receiver → Stands check 250 (bytes ++ bytes_among signals) (before ++ hearings m e signals) (end_after_all m e signals).receiver
signals-stand m check e bytes before [] stands = rw (append-nil bytes, append-nil before) stands
signals-stand m check e bytes before (Byte b ∷ signals) stands =
    let h = hearing (m.room_for e.host) 250 e.receiver b in
    let now = receiver-stands (m.room_for e.host) check 250 bytes before e.receiver b stands in
    rw (← append_assoc bytes (b ∷ []) (bytes_among signals), ← append_assoc before (h ∷ []) (hearings m (end_after m e (Byte b)) signals))
    (signals-stand m check (end_after m e (Byte b)) (bytes ++ b ∷ []) (before ++ h ∷ []) signals now)
signals-stand m check e bytes before (Tick ∷ signals) stands = signals-stand m check (end_after m e Tick) bytes before signals stands
signals-stand m check e bytes before (Take ∷ signals) stands =
    signals-stand m check (end_after m e Take) bytes before signals (subst (λ (s : ReceiverState). Stands check 250 bytes before s) (sym (take-receiver m e)) stands)

-- ---- the parts stay joined

dropped-joined : (leaves : Bool) (g : Giving) (s : SenderState) → Joined g s → Joined (if leaves then unask g else g) s
dropped-joined true g s j = record { second_is_plain = j.second_is_plain; last_ends = j.last_ends; sends = j.sends }
dropped-joined false g s j = j

responded-joined : (r : Response) (g : Giving) (s : SenderState) → Joined g s → Joined (elim r [ Offers resp ↦ offer g resp | Forgets ↦ forget g | Again ↦ answer_enq g | Silent ↦ g ]) s
responded-joined (Offers resp) g s j = record { second_is_plain = j.second_is_plain; last_ends = j.last_ends; sends = j.sends }
responded-joined Forgets g s j = record { second_is_plain = j.second_is_plain; last_ends = j.last_ends; sends = j.sends }
responded-joined Again g s j = record { second_is_plain = j.second_is_plain; last_ends = j.last_ends; sends = j.sends }
responded-joined Silent g s j = j

asked-joined : (turn : SendTurn) (g : Giving) (s : SenderState) → Joined g s → Joined (asked turn g) s
asked-joined sends.Still g s j = j
asked-joined sends.Ask g s j = record { second_is_plain = j.second_is_plain; last_ends = j.last_ends; sends = j.sends }
asked-joined sends.Failed g s j = j

-- a sender that is in Sending stays there at what is heard and at a tick
ack-sends : (limits : Limits) (a : Activity) → phase_of (record { limits = limits; activity = a }) ≡ phase.Sending → phase_of (on_ack (record { limits = limits; activity = a })) ≡ phase.Sending
ack-sends limits Idle e = e
ack-sends limits (Sending body naks enqs) e = e
ack-sends limits (Waiting body naks enqs left) e = absurd cc

nak-sends : (limits : Limits) (a : Activity) → phase_of (record { limits = limits; activity = a }) ≡ phase.Sending → phase_of (on_nak (record { limits = limits; activity = a })) ≡ phase.Sending
nak-sends limits Idle e = e
nak-sends limits (Sending body naks enqs) e = e
nak-sends limits (Waiting body naks enqs left) e = absurd cc

tick-sends : (limits : Limits) (a : Activity) → phase_of (record { limits = limits; activity = a }) ≡ phase.Sending → phase_of (on_tick (record { limits = limits; activity = a })) ≡ phase.Sending
tick-sends limits Idle e = e
tick-sends limits (Sending body naks enqs) e = e
tick-sends limits (Waiting body naks enqs left) e = absurd cc

sender-joined : (g : Giving) (s after : SenderState) → Joined g s → (phase_of s ≡ phase.Sending → phase_of after ≡ phase.Sending) → Joined g after
sender-joined g s after j stays = record { second_is_plain = j.second_is_plain; last_ends = j.last_ends; sends = λ begun. stays (j.sends begun) }

heard-joined : (a : Act) (g : Giving) (s : SenderState) → Joined g s → Joined g (sender_after a s)
heard-joined act.PeerAck g s j = sender-joined g s (on_ack s) j (ack-sends s.limits s.activity)
heard-joined act.PeerNak g s j = sender-joined g s (on_nak s) j (nak-sends s.limits s.activity)
heard-joined act.Accept g s j = j
heard-joined act.Repeat g s j = j
heard-joined act.Refuse g s j = j
heard-joined act.Damaged g s j = j
heard-joined act.Forgot g s j = j
heard-joined act.PeerEnq g s j = j
heard-joined act.Nothing g s j = j

byte-joined : (a : Act) (leaves : Bool) (g : Giving) (s : SenderState) → Joined g s → Joined (if leaves then unask (responded a g) else responded a g) (sender_after a s)
byte-joined a leaves g s j = dropped-joined leaves (responded a g) (sender_after a s) (responded-joined (response_for a) g (sender_after a s) (heard-joined a g s j))

tick-joined : (turn : SendTurn) (leaves : Bool) (g : Giving) (s : SenderState) → Joined g s → Joined (if leaves then unask (asked turn g) else asked turn g) (on_tick s)
tick-joined turn leaves g s j = dropped-joined leaves (asked turn g) (on_tick s) (asked-joined turn g (on_tick s) (sender-joined g s (on_tick s) j (tick-sends s.limits s.activity)))

-- ---- a frame that is begun

pub next-fits : {H : Type 0} (m : Ghosts H) (e : EndState H) (body : List ℕ) → BodiesFit m e → phase_of e.sender ≡ phase.Idle → m.next_body e.host ≡ Some body → length body ≤ 250
next-fits m e body fits idle next = subst (λ (o : Option (List ℕ)). IfSome o (λ (b : List ℕ). length b ≤ 250)) next (fits.next_fits idle)

begun-joined : {H : Type 0} (m : Ghosts H) (e : EndState H) (at : Phase) (next : Option (List ℕ)) → phase_of e.sender ≡ at → m.next_body e.host ≡ next → Joined e.mouth e.sender
    → Joined (begun_at m e at next).mouth (begun_at m e at next).sender
begun-joined m e phase.Idle None is next j = j
begun-joined m e phase.Idle (Some body) is next j = begin-joined e.mouth e.sender (load e.sender body) body j refl
begun-joined m e phase.Sending next is same j = begin-joined e.mouth e.sender e.sender (body_of e.sender) j is
begun-joined m e phase.Waiting next is same j = j

pub prepared-joined : {H : Type 0} (m : Ghosts H) (e : EndState H) (idle : Bool) → Joined e.mouth e.sender → Joined (if idle then begun_next m e else e).mouth (if idle then begun_next m e else e).sender
prepared-joined m e true j = begun-joined m e (phase_of e.sender) (m.next_body e.host) refl refl j
prepared-joined m e false j = j

pub signal-joined : {H : Type 0} (m : Ghosts H) (e : EndState H) (signal : Letter) → Joined e.mouth e.sender → Joined (end_after m e signal).mouth (end_after m e signal).sender
signal-joined m e (Byte b) j = byte-joined (act_of_byte m e b) (is_waiting (phase_of e.sender) && not (is_waiting (phase_of (sender_after (act_of_byte m e b) e.sender)))) e.mouth e.sender j
signal-joined m e Tick j = tick-joined (tick_turn e.sender) (is_waiting (phase_of e.sender) && not (is_waiting (phase_of (on_tick e.sender)))) e.mouth e.sender j
signal-joined {H} m e Take j =
    subst (λ (x : EndState H). Joined x.mouth x.sender) (sym (end-is m e)) (take-joined (prepared m e).mouth (prepared m e).sender (prepared-joined m e (is_none (chosen e.mouth)) j))

pub new-joined : {H : Type 0} (setup : Setup) (host : H) → Joined (new_end setup host).mouth (new_end setup host).sender
new-joined setup host = record { second_is_plain = λ out is. absurd cc; last_ends = tt; sends = λ begun. absurd cc }

-- a new end stands for no byte
start-stands : (check : Check) (N : ℕ) → Stands check N [] [] (record { decoding = record { check = check; standing = Outside }; kept = None })
start-stands check N = receiver-start check N (record { check = check; standing = Outside }) (line-start (full_duplex check N) (machine check N) (works check N))

pub new-stands : {H : Type 0} (m : Ghosts H) (setup : Setup) (host : H) (signals : List Letter)
    → Stands setup.check 250 (bytes_among signals) (hearings m (new_end setup host) signals) (end_after_all m (new_end setup host) signals).receiver
new-stands m setup host signals = signals-stand m setup.check (new_end setup host) [] [] signals (start-stands setup.check 250)

-- however the host is changed
moves-stand : {H : Type 0} (m : Ghosts H) (check : Check) (e : EndState H) (bytes : List ℕ) (before : List Hearing) (moves : List (Move H))
    → Stands check 250 bytes before e.receiver → Stands check 250 (bytes ++ bytes_come moves) (before ++ hearings_over m e moves) (end_after_moves m e moves).receiver
moves-stand m check e bytes before [] stands = rw (append-nil bytes, append-nil before) stands
moves-stand m check e bytes before (Signal signal ∷ moves) stands =
    let one = signal ∷ [] in
    rw (← append_assoc bytes (bytes_among one) (bytes_come moves), ← append_assoc before (hearings m e one) (hearings_over m (end_after m e signal) moves))
    (moves-stand m check (end_after m e signal) (bytes ++ bytes_among one) (before ++ hearings m e one) moves (signals-stand m check e bytes before one stands))
moves-stand m check e bytes before (Change host ∷ moves) stands = moves-stand m check (with_host e host) bytes before moves stands

pub moved-stands : {H : Type 0} (m : Ghosts H) (setup : Setup) (host : H) (moves : List (Move H))
    → Stands setup.check 250 (bytes_come moves) (hearings_over m (new_end setup host) moves) (end_after_moves m (new_end setup host) moves).receiver
moved-stands m setup host moves = moves-stand m setup.check (new_end setup host) [] [] moves (start-stands setup.check 250)
