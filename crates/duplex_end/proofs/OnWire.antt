-- What an end has given consists of whole frames, responses and ENQs, and of one that is begun.
use Rattle.std.proofs.Common.{◌≡◌, ℕ, Bool, true, false, List, [], ◌∷◌, ◌++◌, map, Option, Some, None, IfSome, is_some, refl, sym, ap, subst, ◌∙◌, append_assoc, option_to_list}
use Rattle.std.specs.Prelude.{not, ◌&&◌, nat_lt, if◌then◌else◌}
use Rattle.std.proofs.lemmas.List.{append-nil}
use Rattle.std.proofs.lemmas.List.Concat.{flat_map-append}
use Rattle.df1_base.specs.Host.{IsBody}
use Rattle.df1_base.specs.declared.host.Host.{Ghosts}
use Rattle.df1_base.specs.declared.host.Fate.{Fate}
use Rattle.df1_base.specs.declared.link.Act.{Act}
use Rattle.df1_base.specs.declared.link.Act.TheVariants as act
use Rattle.df1_base.specs.declared.link.Out.{Out}
use Rattle.df1_check.specs.declared.Check.{Check}
use Rattle.df1_frame.specs.Line.{Splits}
use Rattle.df1_frame.specs.Grammar.{Item, Front, Nothing, full_duplex}
use Rattle.df1_frame.specs.Wire.{AreRight, bodies_in, IsLast, IsDf1}
use Rattle.df1_frame.proofs.Sendings.{Sends, nothing, takes_up, sends, are-sendings}
use Rattle.df1_frame.proofs.LineLemmas.{Splits-more}
use Rattle.df1_frame.proofs.GrammarLemmas.{machine, works, advance}
use Rattle.duplex_sender.specs.declared.Limits.{Limits}
use Rattle.duplex_sender.specs.declared.SendTurn.{SendTurn}
use Rattle.duplex_sender.specs.declared.SendTurn.TheVariants as turns
use Rattle.duplex_sender.specs.Sender.{SenderState, Activity, Idle, Sending, Waiting, phase_of, sent_last, on_tick, tick_turn}
use Rattle.duplex_receiver.specs.Receiver.{ReceiverState, Response, Offers, Forgets, Again, Silent, response_for}
use Rattle.embedded_response.specs.Giving.{Giving, Choice, Second, Respond, Give, Enquire, offer, forget, answer_enq, unask, begin, chosen, given, take}
use Rattle.embedded_response.proofs.GivenOnWire.{IsAt, Ended, Gives, takes-on, begins-on, at-nothing, begun-at}
use Rattle.duplex_end.specs.declared.Setup.{Setup}
use Rattle.duplex_end.specs.End.{EndState, Place, new_end, with_host, sender_after, fate_at, fate_of_tick, responded, asked, is_waiting, act_of_byte, next_place, taken, gives, after_out, transmitted, loaded}
use Rattle.duplex_end.specs.Emission.{Letter, Byte, Tick, Take, end_after}
use Rattle.duplex_end.specs.Fates.{handed_out, events_at, told}
use Rattle.duplex_end.specs.Moves.{Move, Signal, Change, end_after_moves, HoldBodies, bytes_at, bytes_given, messages_of, messages_over}
use Rattle.duplex_end.specs.Reached.{Reached, begins, goes_on, changes}
use Rattle.duplex_end.proofs.Choices.{Chosen, is-chosen}
use Rattle.duplex_end.proofs.Order.{place_after, frame_at, next-is}
use Rattle.duplex_end.proofs.Reaching.{KeepsBodies, reached-carries}

-- a body is that of the last of the messages
abbrev pub IsOf : List (List ℕ) → List ℕ → Type 0
IsOf messages body = IsLast messages body × IsBody body

-- what a sender has of the last message, by whether that was sent whole
abbrev pub Has : List (List ℕ) → Bool → Activity → Type 0
Has messages sent Idle = sent ≡ true
Has messages sent (Sending body naks enqs) = IsOf messages body
Has messages sent (Waiting body naks enqs left) = IsOf messages body × (sent ≡ true)

abbrev pub MouthAt : Check → List (List ℕ) → List ℕ → Giving → Front → Type 0
MouthAt check messages body g front = IsAt (IsOf messages body) check body g.second g.gap g.left front × (g.check ≡ check)

-- the end has given these bytes, and was handed these messages
pub record OnWire {H : Type 0} (check : Check) (messages : List (List ℕ)) (bytes : List ℕ) (e : EndState H) : Type 0 where
  pub items : List Item
  pub front : Front
  pub splits : Splits (full_duplex check 250) bytes items front
  pub right : AreRight check items
  pub sent : Bool
  pub are_sent : Sends (bodies_in items) messages sent
  pub has : Has messages sent e.sender.activity
  pub at : MouthAt check messages e.sending e.mouth front

-- ---- a byte and a tick

dropped-at : (check : Check) (messages : List (List ℕ)) (body : List ℕ) (front : Front) (leaves : Bool) (g : Giving) → MouthAt check messages body g front → MouthAt check messages body (if leaves then unask g else g) front
dropped-at check messages body front true g at = at
dropped-at check messages body front false g at = at

responded-at : (check : Check) (messages : List (List ℕ)) (body : List ℕ) (front : Front) (r : Response) (g : Giving) → MouthAt check messages body g front
    → MouthAt check messages body (elim r [ Offers resp ↦ offer g resp | Forgets ↦ forget g | Again ↦ answer_enq g | Silent ↦ g ]) front
responded-at check messages body front (Offers resp) g at = at
responded-at check messages body front Forgets g at = at
responded-at check messages body front Again g at = at
responded-at check messages body front Silent g at = at

asked-at : (check : Check) (messages : List (List ℕ)) (body : List ℕ) (front : Front) (turn : SendTurn) (g : Giving) → MouthAt check messages body g front → MouthAt check messages body (asked turn g) front
asked-at check messages body front turns.Still g at = at
asked-at check messages body front turns.Ask g at = at
asked-at check messages body front turns.Failed g at = at

either-has : (b : Bool) (messages : List (List ℕ)) (sent : Bool) (x y : Activity) → Has messages sent x → Has messages sent y → Has messages sent (if b then x else y)
either-has true messages sent x y first other = first
either-has false messages sent x y first other = other

heard-has : (messages : List (List ℕ)) (sent : Bool) (a : Act) (limits : Limits) (at : Activity) → Has messages sent at → Has messages sent (sender_after a (record { limits = limits; activity = at })).activity
heard-has messages sent act.PeerAck limits Idle has = has
heard-has messages sent act.PeerAck limits (Sending body naks enqs) has = has
heard-has messages sent act.PeerAck limits (Waiting body naks enqs left) has = has.1
heard-has messages sent act.PeerNak limits Idle has = has
heard-has messages sent act.PeerNak limits (Sending body naks enqs) has = has
heard-has messages sent act.PeerNak limits (Waiting body naks enqs left) has = either-has (nat_lt naks limits.max_naks) messages sent _ _ has.0 has.1
heard-has messages sent act.Accept limits at has = has
heard-has messages sent act.Repeat limits at has = has
heard-has messages sent act.Refuse limits at has = has
heard-has messages sent act.Damaged limits at has = has
heard-has messages sent act.Forgot limits at has = has
heard-has messages sent act.PeerEnq limits at has = has
heard-has messages sent act.Nothing limits at has = has

tick-has : (messages : List (List ℕ)) (sent : Bool) (limits : Limits) (at : Activity) → Has messages sent at → Has messages sent (on_tick (record { limits = limits; activity = at })).activity
tick-has messages sent limits Idle has = has
tick-has messages sent limits (Sending body naks enqs) has = has
tick-has messages sent limits (Waiting body naks enqs left) has =
    either-has (nat_lt 1 left) messages sent _ _ has (either-has (nat_lt enqs limits.max_enqs) messages sent _ _ has has.1)

byte-on-wire : {H : Type 0} (m : Ghosts H) (check : Check) (messages : List (List ℕ)) (bytes : List ℕ) (e : EndState H) (b : ℕ) → OnWire check messages bytes e → OnWire check messages bytes (end_after m e (Byte b))
byte-on-wire m check messages bytes e b w =
    let a = act_of_byte m e b in
    record {
      items = w.items;
      front = w.front;
      splits = w.splits;
      right = w.right;
      sent = w.sent;
      are_sent = w.are_sent;
      has = heard-has messages w.sent a e.sender.limits e.sender.activity w.has;
      at = dropped-at check messages e.sending w.front (is_waiting (phase_of e.sender) && not (is_waiting (phase_of (sender_after a e.sender)))) (responded a e.mouth) (responded-at check messages e.sending w.front (response_for a) e.mouth w.at);
    }

tick-on-wire : {H : Type 0} (m : Ghosts H) (check : Check) (messages : List (List ℕ)) (bytes : List ℕ) (e : EndState H) → OnWire check messages bytes e → OnWire check messages bytes (end_after m e Tick)
tick-on-wire m check messages bytes e w = record {
  items = w.items;
  front = w.front;
  splits = w.splits;
  right = w.right;
  sent = w.sent;
  are_sent = w.are_sent;
  has = tick-has messages w.sent e.sender.limits e.sender.activity w.has;
  at = dropped-at check messages e.sending w.front (is_waiting (phase_of e.sender) && not (is_waiting (phase_of (on_tick e.sender)))) (asked (tick_turn e.sender) e.mouth) (asked-at check messages e.sending w.front (tick_turn e.sender) e.mouth w.at);
}

-- ---- the next byte of a mouth

record Went (messages bodies : List (List ℕ)) (activity : Activity) : Type 0 where
  sent : Bool
  are_sent : Sends bodies messages sent
  has : Has messages sent activity

last-has : (messages : List (List ℕ)) (sent : Bool) (limits : Limits) (at : Activity) → Has messages sent at → Has messages true (sent_last (record { limits = limits; activity = at })).activity
last-has messages sent limits Idle has = refl
last-has messages sent limits (Sending body naks enqs) has = (has, refl)
last-has messages sent limits (Waiting body naks enqs left) has = (has.0, refl)

went : (b : Bool) (messages bodies more : List (List ℕ)) (sending : List ℕ) (s : SenderState) (sent : Bool) → Sends bodies messages sent → Has messages sent s.activity → Ended (IsOf messages sending) b sending more
    → Went messages (bodies ++ more) (if b then sent_last s else s).activity
went true messages bodies more sending s sent are has ended =
    let is = ended.0.0.1 in
    let now = sends bodies ended.0.0.0 sending sent (subst (λ (l : List (List ℕ)). Sends bodies l sent) is are) in
    record {
      sent = true;
      are_sent = rw (ended.1, is) now;
      has = last-has messages sent s.limits s.activity has;
    }
went false messages bodies more sending s sent are has ended = record { sent = sent; are_sent = rw (ended, append-nil bodies) are; has = has }

right-more : (check : Check) (items more : List Item) → AreRight check items → AreRight check more → AreRight check (items ++ more)
right-more check [] more right others = others
right-more check (item ∷ items) more right others = (right.0, right-more check items more right.1 others)

abbrev byte_given : Option Out → List ℕ
byte_given o = map {A = Out} (λ out. out.byte) (option_to_list o)

given-on-wire : {H : Type 0} (check : Check) (messages : List (List ℕ)) (bytes : List ℕ) (e : EndState H) (w : OnWire check messages bytes e) (g : Giving) (o : Option Out)
    → Gives (IsOf messages e.sending) check e.sending w.front g o → g.check ≡ check
    → OnWire check messages (bytes ++ byte_given o) (record { receiver = e.receiver; sender = after_out o e.sender; mouth = g; sending = e.sending; host = e.host })
given-on-wire check messages bytes e w g None at is = record {
  items = w.items;
  front = w.front;
  splits = rw (append-nil bytes) w.splits;
  right = w.right;
  sent = w.sent;
  are_sent = w.are_sent;
  has = w.has;
  at = (at, is);
}
given-on-wire check messages bytes e w g (Some out) goes is =
    let to = advance check w.front out.byte in
    let on = went (is_some out.last_of) messages (bodies_in w.items) (bodies_in to.0) e.sending e.sender w.sent w.are_sent w.has goes.ended in
    record {
      items = w.items ++ to.0;
      front = to.1;
      splits = Splits-more (full_duplex check 250) (machine check 250) (works check 250) out.byte bytes w.items w.front w.splits;
      right = right-more check w.items to.0 w.right goes.right;
      sent = on.sent;
      are_sent = rw flat_map-append on.are_sent;
      has = on.has;
      at = (goes.at, is);
    }

given-check : (g : Giving) (c : Option Choice) → (given g c).0.check ≡ g.check
given-check g None = refl
given-check g (Some (Second out)) = refl
given-check g (Some (Respond r)) = refl
given-check g (Some (Give unit)) = refl
given-check g (Some Enquire) = refl

-- ---- a take

abbrev Taken : {H : Type 0} → Check → List (List ℕ) → List ℕ → Option Place → EndState H × Option Out → Type 0
Taken check messages bytes place to = OnWire check (messages ++ messages_of (handed_out place)) (bytes ++ byte_given to.1) to.0

same-messages : {H : Type 0} (check : Check) (messages : List (List ℕ)) (bytes : List ℕ) (e : EndState H) → OnWire check messages bytes e → OnWire check (messages ++ []) bytes e
same-messages check messages bytes e w = rw (append-nil messages) w

nothing-taken : {H : Type 0} (check : Check) (messages : List (List ℕ)) (bytes : List ℕ) (e : EndState H) → OnWire check messages bytes e → OnWire check (messages ++ []) (bytes ++ []) e
nothing-taken check messages bytes e w = rw (append-nil messages, append-nil bytes) w

-- where nothing is chosen, nothing is begun
front-nothing : {H : Type 0} (check : Check) (messages : List (List ℕ)) (bytes : List ℕ) (e : EndState H) (w : OnWire check messages bytes e) → chosen e.mouth ≡ None → (e.mouth.second ≡ None) × (w.front ≡ Nothing)
front-nothing check messages bytes e w none =
    let c = subst (Chosen e.mouth.second e.mouth.waiting e.mouth.left e.mouth.asking) none (is-chosen e.mouth) in
    (c.0, at-nothing (IsOf messages e.sending) check e.sending e.mouth.second e.mouth.gap e.mouth.left w.front c.0 c.2 w.at.0)

-- a frame is begun, and its first byte is given
begun-on-wire : {H : Type 0} (check : Check) (messages : List (List ℕ)) (bytes : List ℕ) (e after : EndState H) (w : OnWire check messages bytes e) (all : List (List ℕ)) (body : List ℕ) (sent : Bool) → chosen e.mouth ≡ None
    → Sends (bodies_in w.items) all sent → Has all sent after.sender.activity → IsOf all body → after.mouth ≡ begin e.mouth body → after.sending ≡ body
    → OnWire check all (bytes ++ byte_given (take after.mouth).1) (gives after (take after.mouth)).0
begun-on-wire {H} check messages bytes e after w all body sent none are has of is sends_it =
    let front = front-nothing check messages bytes e w none in
    let first = begins-on (IsOf all body) check body e.mouth w.at.1 of front.0 in
    let mid : EndState H = record after { mouth = e.mouth } in
    let before : OnWire check all bytes mid = record {
      items = w.items;
      front = Nothing;
      splits = rw (← front.1) w.splits;
      right = w.right;
      sent = sent;
      are_sent = are;
      has = has;
      at = ((front.0, (subst (Chosen e.mouth.second e.mouth.waiting e.mouth.left e.mouth.asking) none (is-chosen e.mouth)).2), w.at.1);
    } in
    let g : Gives (IsOf all after.sending) check after.sending Nothing (take after.mouth).0 (take after.mouth).1 = rw (is, sends_it) first in
    given-on-wire check all bytes mid before (take after.mouth).0 (take after.mouth).1 g (given-check after.mouth (chosen after.mouth) ∙ ap (λ (g : Giving). g.check) is ∙ w.at.1)

abbrev end_of : {H : Type 0} → ReceiverState → Limits → Activity → Giving → List ℕ → H → EndState H
end_of receiver limits activity mouth sending host = record { receiver = receiver; sender = record { limits = limits; activity = activity }; mouth = mouth; sending = sending; host = host }

frame-on-wire : {H : Type 0} (m : Ghosts H) (check : Check) (messages : List (List ℕ)) (bytes : List ℕ) (receiver : ReceiverState) (limits : Limits) (activity : Activity) (mouth : Giving) (sending : List ℕ) (host : H) (next : Option (List ℕ))
    → let e : EndState H = end_of receiver limits activity mouth sending host in
    chosen mouth ≡ None → IfSome next IsBody → OnWire check messages bytes e
    → Taken check messages bytes (frame_at e.sender (phase_of e.sender) next) (taken m e (frame_at e.sender (phase_of e.sender) next))
frame-on-wire m check messages bytes receiver limits Idle mouth sending host None none fits w = nothing-taken check messages bytes (end_of receiver limits Idle mouth sending host) w
frame-on-wire m check messages bytes receiver limits Idle mouth sending host (Some body) none fits w =
    let e = end_of receiver limits Idle mouth sending host in
    begun-on-wire check messages bytes e (transmitted (loaded m e body) body) w (messages ++ body ∷ []) body false none
    (takes_up (bodies_in w.items) messages body (subst (Sends (bodies_in w.items) messages) w.has w.are_sent)) ((messages, refl), fits) ((messages, refl), fits) refl refl
frame-on-wire m check messages bytes receiver limits (Sending body naks enqs) mouth sending host next none fits w =
    let e = end_of receiver limits (Sending body naks enqs) mouth sending host in
    let to = transmitted e body in
    same-messages check messages (bytes ++ byte_given (take to.mouth).1) (gives to (take to.mouth)).0
    (begun-on-wire check messages bytes e to w messages body w.sent none w.are_sent w.has w.has refl refl)
frame-on-wire m check messages bytes receiver limits (Waiting body naks enqs left) mouth sending host next none fits w =
    nothing-taken check messages bytes (end_of receiver limits (Waiting body naks enqs left) mouth sending host) w

place-on-wire : {H : Type 0} (m : Ghosts H) (check : Check) (messages : List (List ℕ)) (bytes : List ℕ) (e : EndState H) (c : Option Choice) (next : Option (List ℕ))
    → chosen e.mouth ≡ c → IfSome next IsBody → OnWire check messages bytes e
    → let p = place_after c (frame_at e.sender (phase_of e.sender) next) in Taken check messages bytes p (taken m e p)
place-on-wire m check messages bytes e None next is fits w = frame-on-wire m check messages bytes e.receiver e.sender.limits e.sender.activity e.mouth e.sending e.host next is fits w
place-on-wire m check messages bytes e (Some choice) next is fits w =
    let on = given-on-wire check messages bytes e w (take e.mouth).0 (take e.mouth).1
    (takes-on (IsOf messages e.sending) check e.sending (λ of. of.1) e.mouth w.front w.at.0) (given-check e.mouth (chosen e.mouth) ∙ w.at.1) in
    same-messages check messages (bytes ++ byte_given (given e.mouth (Some choice)).1) (gives e (given e.mouth (Some choice))).0
    (subst (λ (c : Option Choice). OnWire check messages (bytes ++ byte_given (given e.mouth c).1) (gives e (given e.mouth c)).0) is on)

take-on-wire : {H : Type 0} (m : Ghosts H) (check : Check) (messages : List (List ℕ)) (bytes : List ℕ) (e : EndState H) → IfSome (m.next_body e.host) IsBody → OnWire check messages bytes e
    → Taken check messages bytes (next_place m e) (taken m e (next_place m e))
take-on-wire m check messages bytes e fits w =
    subst (λ (p : Option Place). Taken check messages bytes p (taken m e p)) (sym (next-is m e)) (place-on-wire m check messages bytes e (chosen e.mouth) (m.next_body e.host) refl fits w)

-- ---- a signal, a change of the host, and many of them

-- where a fate is told, no message is handed out
told-messages : {H : Type 0} (check : Check) (messages : List (List ℕ)) (bytes : List ℕ) (e : EndState H) (fate : Option Fate) → OnWire check messages bytes e → OnWire check (messages ++ messages_of (told fate)) (bytes ++ []) e
told-messages check messages bytes e None w = nothing-taken check messages bytes e w
told-messages check messages bytes e (Some fate) w = nothing-taken check messages bytes e w

pub signal-on-wire : {H : Type 0} (m : Ghosts H) (laws : KeepsBodies m) (check : Check) (messages : List (List ℕ)) (bytes : List ℕ) (e : EndState H) (signal : Letter) → m.holds_bodies e.host → OnWire check messages bytes e
    → OnWire check (messages ++ messages_of (events_at m e signal)) (bytes ++ bytes_at m e signal) (end_after m e signal)
signal-on-wire m laws check messages bytes e (Byte b) holds w =
    told-messages check messages bytes (end_after m e (Byte b)) (fate_at (act_of_byte m e b) e.sender) (byte-on-wire m check messages bytes e b w)
signal-on-wire m laws check messages bytes e Tick holds w =
    told-messages check messages bytes (end_after m e Tick) (fate_of_tick (tick_turn e.sender)) (tick-on-wire m check messages bytes e w)
signal-on-wire m laws check messages bytes e Take holds w = take-on-wire m check messages bytes e (laws.next_is e.host holds) w

pub host-on-wire : {H : Type 0} (check : Check) (messages : List (List ℕ)) (bytes : List ℕ) (e : EndState H) (host : H) → OnWire check messages bytes e → OnWire check messages bytes (with_host e host)
host-on-wire check messages bytes e host w =
    record { items = w.items; front = w.front; splits = w.splits; right = w.right; sent = w.sent; are_sent = w.are_sent; has = w.has; at = w.at }

pub new-on-wire : {H : Type 0} (setup : Setup) (host : H) → OnWire setup.check [] [] (new_end setup host)
new-on-wire setup host = record {
  items = [];
  front = Nothing;
  splits = record { whole = refl; each = tt };
  right = tt;
  sent = true;
  are_sent = nothing;
  has = refl;
  at = ((refl, refl), refl);
}

moves-on-wire : {H : Type 0} (m : Ghosts H) (laws : KeepsBodies m) (check : Check) (messages : List (List ℕ)) (bytes : List ℕ) (e : EndState H) (moves : List (Move H)) → Reached m e → HoldBodies m moves → OnWire check messages bytes e
    → OnWire check (messages ++ messages_over m e moves) (bytes ++ bytes_given m e moves) (end_after_moves m e moves)
moves-on-wire m laws check messages bytes e [] reached hold w = rw (append-nil messages, append-nil bytes) w
moves-on-wire m laws check messages bytes e (Signal signal ∷ moves) reached hold w =
    let now = signal-on-wire m laws check messages bytes e signal (reached-carries m laws e reached).holds w in
    rw (← append_assoc messages (messages_of (events_at m e signal)) (messages_over m (end_after m e signal) moves), ← append_assoc bytes (bytes_at m e signal) (bytes_given m (end_after m e signal) moves))
    (moves-on-wire m laws check (messages ++ messages_of (events_at m e signal)) (bytes ++ bytes_at m e signal) (end_after m e signal) moves (goes_on e signal reached) hold now)
moves-on-wire m laws check messages bytes e (Change host ∷ moves) reached hold w =
    moves-on-wire m laws check messages bytes (with_host e host) moves (changes e host hold.0 reached) hold.1 (host-on-wire check messages bytes e host w)

pub on-wire-df1 : {H : Type 0} (check : Check) (messages : List (List ℕ)) (bytes : List ℕ) (e : EndState H) → OnWire check messages bytes e → IsDf1 check messages bytes
on-wire-df1 check messages bytes e w = record {
  items = w.items;
  front = w.front;
  splits = w.splits;
  right = w.right;
  carries = are-sendings (bodies_in w.items) messages w.sent w.are_sent;
  begun = begun-at (IsOf messages e.sending) check messages e.sending (λ of. of.0) e.mouth.second e.mouth.gap e.mouth.left w.front w.at.0;
}

pub new-df1 : {H : Type 0} (m : Ghosts H) (laws : KeepsBodies m) (setup : Setup) (host : H) (moves : List (Move H)) → m.holds_bodies host → HoldBodies m moves
    → IsDf1 setup.check (messages_over m (new_end setup host) moves) (bytes_given m (new_end setup host) moves)
new-df1 m laws setup host moves holds hold =
    on-wire-df1 setup.check _ _ _ (moves-on-wire m laws setup.check [] [] (new_end setup host) moves (begins setup host holds) hold (new-on-wire setup host))
