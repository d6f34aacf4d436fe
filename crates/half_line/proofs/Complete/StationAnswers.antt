-- A station that has heard its call answers it: with DLE ACK, with DLE EOT, or with a message; until the master has heard that, each byte that it gives, and each that arrives, leaves it so.
use Rattle.std.proofs.Common.{◌≡◌, ◌∙◌, ℕ, ◌≤◌, Bool, true, false, List, [], ◌∷◌, ◌++◌, length, Option, Some, None, option_map, refl, ap, sym, subst, inl, inr}
use Rattle.std.specs.Prelude.{◌⊎◌, if◌then◌else◌, ◌==◌}
use Rattle.std.specs.Option.{option_to_list}
use Rattle.std.specs.List.{flat_map}
use Rattle.df1_base.specs.declared.link.Out.{Out}
use Rattle.df1_base.specs.declared.link.Resp.{Resp}
use Rattle.df1_base.specs.declared.link.Resp.TheVariants as resp
use Rattle.df1_frame.specs.Spelling.{check_of, pieces_of}
use Rattle.half_frame.specs.declared.framer.Sent.{Sent}
use Rattle.half_frame.specs.declared.heard.MasterHeard.TheVariants as heard
use Rattle.half_frame.specs.MasterStanding.{Listening}
use Rattle.half_frame.specs.Spelling.{pair_bytes, piece_sent, reply_sent, unmarked}
use Rattle.half_mouth.specs.Giving.{Giving, out_of, give, transmit, is_done, one_more, take}
use Rattle.half_slave.specs.declared.held.Held.{Held}
use Rattle.half_slave.specs.Slave.{SlaveState, loaded, after_out, after_sending, ends_here, with_response, mouth_at_take, responds_at_take, out_at_take, slave_after_take}
use Rattle.half_slave.proofs.Sizes.{some-left}
use Rattle.lane_cells.specs.Cells.{LaneCell, cell_of}
use Rattle.half_line.proofs.Complete.ComingCells.{cells_of, coming, coming-take}
use Rattle.half_line.proofs.Complete.EarHears.{Telling, told, Hears, First, silent, says, first-heard, deceived_at, hears-none}
use Rattle.half_line.proofs.Complete.MasterHears.{IsOutside, master_ear, hears-ack, hears-eot, hears-reply}
use Rattle.half_line.proofs.Complete.StationRests.{IsStill}

-- what a station has to give: what it has begun, or the response that it owes
abbrev pub giving_of : {H : Type 0} → SlaveState H → Giving
giving_of s = mouth_at_take s.mouth s.responds

-- the cells on their way from it, and those that it is still to give
abbrev pub back : {H : Type 0} → SlaveState H → List LaneCell → List LaneCell
back s lane = lane ++ coming (giving_of s) s.sending

abbrev pub giving : List Sent → Option ℕ → ℕ → Giving
giving left number begun = record { left = left; number = number; begun = begun }

-- what is heard of it, and the message that it holds then: only a message that it sends, whose wait is open once all of it is given
pub data Reply {H : Type 0} (s : SlaveState H) (reply : Telling master_ear) : Type 0 where
  acks : reply ≡ told master_ear heard.Ack [] → s.held ≡ None → Reply s reply
  ends : reply ≡ told master_ear heard.Eot [] → s.held ≡ None → Reply s reply
  sends : (message : Held) (number : ℕ) → reply ≡ told master_ear heard.Good s.sending → s.held ≡ Some message → message.wait_open ≡ is_done s.mouth → s.mouth.number ≡ Some number → s.responds ≡ None → Reply s reply

-- a master with this ear will hear this reply of it, and no more; a response is owed only where nothing else is to be given
pub record Answers {H : Type 0} (s : SlaveState H) (lane : List LaneCell) (ear : Listening) (reply : Telling master_ear) : Type 0 where
  pub hears : Hears master_ear ear (back s lane) (reply ∷ [])
  pub one : is_done s.mouth ≡ false → s.responds ≡ None
  pub reply_is : Reply s reply

-- ---- what it has to give

same-either : {A : Type 0} (b : Bool) (x : A) → (if b then x else x) ≡ x
same-either true x = refl
same-either false x = refl

-- without a response it is what it has begun
none-owed : (g : Giving) → mouth_at_take g None ≡ g
none-owed g = same-either (is_done g) g

done-is : (g : Giving) → g.left ≡ [] → is_done g ≡ true
done-is g none = ap (λ (left : List Sent). length left == 0) none

-- a response is begun where nothing else is left
owed-is : (g : Giving) (r : Resp) → g.left ≡ [] → mouth_at_take g (Some r) ≡ with_response g (Some r)
owed-is g r none = ap (λ (done : Bool). if done then with_response g (Some r) else g) (done-is g none)

-- ---- its answer begins

pub answers-acks : {H : Type 0} (s : SlaveState H) (ear : Listening) → IsOutside ear.standing → s.mouth.left ≡ [] → s.responds ≡ Some resp.Ack → s.held ≡ None → Answers s [] ear (told master_ear heard.Ack [])
answers-acks s ear outside none owes free = record {
  hears = subst (λ (g : Giving). Hears master_ear ear (coming g s.sending) (told master_ear heard.Ack [] ∷ [])) (sym (ap (mouth_at_take s.mouth) owes ∙ owed-is s.mouth resp.Ack none)) (hears-ack ear s.sending outside);
  one = λ left. absurd (let done = done-is s.mouth none in let no : true ≡ false = sym done ∙ left in cc);
  reply_is = acks refl free;
}

pub answers-ends : {H : Type 0} (s : SlaveState H) (before : Giving) (ear : Listening) → IsOutside ear.standing → s.mouth ≡ give before (unmarked (pair_bytes 4)) → s.responds ≡ None → s.held ≡ None → Answers s [] ear (told master_ear heard.Eot [])
answers-ends s before ear outside is owes free = record {
  hears = subst (λ (g : Giving). Hears master_ear ear (coming g s.sending) (told master_ear heard.Eot [] ∷ [])) (sym (ap (mouth_at_take s.mouth) owes ∙ none-owed s.mouth ∙ is)) (hears-eot ear s.sending outside);
  one = λ left. owes;
  reply_is = ends refl free;
}

pub answers-sends : {H : Type 0} (s : SlaveState H) (before : Giving) (ear : Listening) → IsOutside ear.standing → 6 ≤ length s.sending → length s.sending ≤ 250 → s.mouth ≡ transmit before (reply_sent ear.check s.sending) → s.responds ≡ None → s.held ≡ Some loaded
    → Answers s [] ear (told master_ear heard.Good s.sending)
answers-sends s before ear outside least most is owes holds =
    let begun = transmit before (reply_sent ear.check s.sending) in
    let some : is_done begun ≡ false = some-left (record { byte = 16; of_body = false }) (record { byte = 2; of_body = false } ∷ (flat_map piece_sent (pieces_of s.sending) ++ unmarked (16 ∷ 3 ∷ check_of ear.check s.sending))) in
    record {
      hears = subst (λ (g : Giving). Hears master_ear ear (coming g s.sending) (told master_ear heard.Good s.sending ∷ [])) (sym (ap (mouth_at_take s.mouth) owes ∙ none-owed s.mouth ∙ is)) (hears-reply ear (one_more before.begun) s.sending outside least most);
      one = λ left. owes;
      reply_is = sends loaded (one_more before.begun) refl holds (sym (ap is_done is ∙ some)) (ap (λ (g : Giving). g.number) is) owes;
    }

-- ---- it gives a byte

-- what is left then is what it has begun
giving-by : (left : List Sent) (number : Option ℕ) (begun : ℕ) (responds : Option Resp) → let g = giving left number begun in (is_done g ≡ false → responds ≡ None)
    → mouth_at_take (take (mouth_at_take g responds)).0 (responds_at_take g responds) ≡ (take (mouth_at_take g responds)).0
giving-by [] number begun None one = refl
giving-by [] number begun (Some r) one = refl
giving-by (x ∷ more) number begun responds one = rw (one (some-left x more), some-left x more) (same-either (length more == 0) (giving more number begun))

giving-take : {H : Type 0} (s : SlaveState H) → (is_done s.mouth ≡ false → s.responds ≡ None) → giving_of (slave_after_take s) ≡ (take (giving_of s)).0
giving-take s one = giving-by s.mouth.left s.mouth.number s.mouth.begun s.responds one

-- so all that it gives and has given is the same
back-take : {H : Type 0} (s : SlaveState H) (lane : List LaneCell) → (is_done s.mouth ≡ false → s.responds ≡ None) → back (slave_after_take s) (lane ++ option_to_list (option_map (cell_of s.sending) (out_at_take s))) ≡ back s lane
back-take s lane one =
    ap (λ (g : Giving). (lane ++ option_to_list (option_map (cell_of s.sending) (out_at_take s))) ++ coming g s.sending) (giving-take s one) ∙ coming-take lane (giving_of s) s.sending

none-after : (done : Bool) (responds : Option Resp) → (done ≡ false → responds ≡ None) → (if done then None else responds) ≡ None
none-after true responds one = refl
none-after false responds one = one refl

-- where none is held, none is
free-take : (out : Option Out) (held : Option Held) → held ≡ None → after_out out held ≡ None
free-take out held free = ap (after_out out) free ∙ same-either (ends_here out) None

-- the wait of the message opens with its last byte
pub record Waits (g : Giving) (message : Held) (number : ℕ) : Type 0 where
  pub now : Held
  pub holds : after_out (take g).1 (Some message) ≡ Some now
  pub open_at_end : now.wait_open ≡ is_done (take g).0
  pub same_number : (take g).0.number ≡ Some number

waits-byte : (x : Sent) (more : List Sent) (begun : ℕ) (message : Held) (number : ℕ) (last : Bool) → (length more == 0) ≡ last → message.wait_open ≡ false → Waits (giving (x ∷ more) (Some number) begun) message number
waits-byte x more begun message number true is shut =
    record { now = after_sending message; holds = ap (λ (l : Bool). after_out (Some (out_of (Some number) x l)) (Some message)) is; open_at_end = sym is; same_number = refl }
waits-byte x more begun message number false is shut =
    record { now = message; holds = ap (λ (l : Bool). after_out (Some (out_of (Some number) x l)) (Some message)) is; open_at_end = shut ∙ sym is; same_number = refl }

waits-by : (left : List Sent) (number : Option ℕ) (begun : ℕ) (message : Held) (n : ℕ) → message.wait_open ≡ is_done (giving left number begun) → number ≡ Some n → Waits (giving left number begun) message n
waits-by [] number begun message n waits is = record { now = message; holds = refl; open_at_end = waits; same_number = is }
waits-by (x ∷ more) number begun message n waits is = subst (λ (o : Option ℕ). Waits (giving (x ∷ more) o begun) message n) (sym is) (waits-byte x more begun message n (length more == 0) refl (waits ∙ some-left x more))

reply-take : {H : Type 0} (s : SlaveState H) (reply : Telling master_ear) → (is_done s.mouth ≡ false → s.responds ≡ None) → Reply s reply → Reply (slave_after_take s) reply
reply-take s reply one (acks is free) = acks is (free-take (out_at_take s) s.held free)
reply-take s reply one (ends is free) = ends is (free-take (out_at_take s) s.held free)
reply-take s reply one (sends message number is holds waits numbered owes) =
    let same : giving_of s ≡ s.mouth = ap (mouth_at_take s.mouth) owes ∙ none-owed s.mouth in
    let w = waits-by s.mouth.left s.mouth.number s.mouth.begun message number waits numbered in
    sends w.now number is
    (ap (after_out (out_at_take s)) holds ∙ ap (λ (g : Giving). after_out (take g).1 (Some message)) same ∙ w.holds)
    (w.open_at_end ∙ ap (λ (g : Giving). is_done (take g).0) (sym same))
    (ap (λ (g : Giving). (take g).0.number) same ∙ w.same_number)
    (none-after (is_done s.mouth) s.responds one)

pub answers-take : {H : Type 0} (s : SlaveState H) (lane : List LaneCell) (ear : Listening) (reply : Telling master_ear) → Answers s lane ear reply → Answers (slave_after_take s) (lane ++ option_to_list (option_map (cell_of s.sending) (out_at_take s))) ear reply
answers-take s lane ear reply a = record {
  hears = subst (λ (cells : List LaneCell). Hears master_ear ear cells (reply ∷ [])) (sym (back-take s lane a.one)) a.hears;
  one = λ left. none-after (is_done s.mouth) s.responds a.one;
  reply_is = reply-take s reply a.one a.reply_is;
}

-- ---- a byte of it arrives at the master

-- the ear of the master after a byte
abbrev pub master_ear_at : Listening → ℕ → Listening
master_ear_at ear b = (master_ear.step ear b).0

-- the reply is heard at this cell, and nothing of the station is left: a message that it holds waits for its ACK
pub record HearsReply {H : Type 0} (s : SlaveState H) (cell : LaneCell) (cells : List LaneCell) (ear : Listening) (reply : Telling master_ear) : Type 0 where
  pub what : (master_ear.step ear cell.byte).1 ≡ Some reply.what
  pub body : master_ear.lent (master_ear_at ear cell.byte) ≡ reply.body
  pub empty : cells ≡ []
  pub still : IsStill s
  pub outside : IsOutside (master_ear_at ear cell.byte).standing
  pub reply_is : Reply s reply
  pub honest : deceived_at master_ear ear cell ≡ 0

-- nothing is heard yet
pub record StillAnswers {H : Type 0} (s : SlaveState H) (cell : LaneCell) (cells : List LaneCell) (ear : Listening) (reply : Telling master_ear) : Type 0 where
  pub none_heard : (master_ear.step ear cell.byte).1 ≡ None
  pub answers : Answers s cells (master_ear_at ear cell.byte) reply
  pub honest : deceived_at master_ear ear cell ≡ 0

pub no-cells : (xs ys : List LaneCell) → xs ++ ys ≡ [] → (xs ≡ []) × (ys ≡ [])
no-cells [] ys none = (refl, none)
no-cells (x ∷ xs) ys none = absurd cc

pub none-left : (left : List Sent) (number : Option ℕ) (sending : List ℕ) → cells_of number sending left ≡ [] → left ≡ []
none-left [] number sending none = refl
none-left (x ∷ left) number sending none = absurd cc

pub still-by : (left : List Sent) (number : Option ℕ) (begun : ℕ) (responds : Option Resp) → (mouth_at_take (giving left number begun) responds).left ≡ [] → (left ≡ []) × (responds ≡ None)
still-by [] number begun None none = (refl, refl)
still-by [] number begun (Some r) none = absurd cc
still-by (x ∷ more) number begun responds none = absurd (let no = rw (some-left x more) at none in cc)

reply-first : {H : Type 0} (s : SlaveState H) (cell : LaneCell) (cells : List LaneCell) (ear : Listening) (reply : Telling master_ear) → (a : Answers s (cell ∷ cells) ear reply) → First master_ear ear cell (back s cells) (reply ∷ [])
    → StillAnswers s cell cells ear reply ⊎ HearsReply s cell cells ear reply
reply-first s cell cells ear reply a (silent is hears) = inl (record { none_heard = is; answers = record { hears = hears; one = a.one; reply_is = a.reply_is }; honest = a.hears.honest.0 })
reply-first s cell cells ear reply a (says what rest is first hears) =
    let same : reply ≡ told master_ear what (master_ear.lent (master_ear_at ear cell.byte)) = cc in
    let no_more : [] ≡ rest = cc in
    let over : Hears master_ear (master_ear_at ear cell.byte) (back s cells) [] = subst (Hears master_ear (master_ear_at ear cell.byte) (back s cells)) (sym no_more) hears in
    let parts = no-cells cells (coming (giving_of s) s.sending) (hears-none over) in
    let left = none-left (giving_of s).left (giving_of s).number s.sending parts.1 in
    let still = still-by s.mouth.left s.mouth.number s.mouth.begun s.responds left in
    inr (record {
      what = is ∙ ap (λ (t : Telling master_ear). Some t.what) (sym same);
      body = ap (λ (t : Telling master_ear). t.body) (sym same);
      empty = parts.0;
      still = record { gives_none = still.0; owes_none = still.1 };
      outside = (subst (λ (l : List LaneCell). Hears master_ear (master_ear_at ear cell.byte) l []) (hears-none over) over).outside;
      reply_is = a.reply_is;
      honest = a.hears.honest.0;
    })

pub reply-cell : {H : Type 0} (s : SlaveState H) (cell : LaneCell) (cells : List LaneCell) (ear : Listening) (reply : Telling master_ear) → Answers s (cell ∷ cells) ear reply → StillAnswers s cell cells ear reply ⊎ HearsReply s cell cells ear reply
reply-cell s cell cells ear reply a = reply-first s cell cells ear reply a (first-heard master_ear ear cell (back s cells) (reply ∷ []) a.hears)
