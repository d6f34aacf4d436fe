-- An end that gives nothing, on a line on which nothing is on its way.
use Rattle.std.proofs.Common.{◌≡◌, ◌∙◌, ℕ, ◌+◌, Bool, true, false, List, [], ◌++◌, Option, Some, None, is_none, refl, ap, sym, arith, append-nil}
use Rattle.std.specs.Prelude.{if◌then◌else◌}
use Rattle.df1_base.specs.declared.host.Host.{Ghosts}
use Rattle.df1_base.specs.declared.link.Resp.TheVariants as resp
use Rattle.duplex_sender.specs.declared.Limits.{Limits}
use Rattle.duplex_sender.specs.declared.Phase.{Phase}
use Rattle.duplex_sender.specs.declared.Phase.TheVariants as phase
use Rattle.duplex_sender.specs.Sender.{SenderState, Activity, Idle, Sending, Waiting, phase_of, body_of}
use Rattle.embedded_response.specs.Giving.{Giving, Choice, Second, Respond, Give, Enquire, begin, chosen, given}
use Rattle.duplex_end.specs.End.{EndState, begun_next, prepared, begun_at, out_at_take}
use Rattle.duplex_end.proofs.Joining.{none-left}
use Rattle.duplex_end.proofs.Order.{out-is}
use Rattle.lane_cells.specs.Cells.{LaneCell}
use Rattle.duplex_line.proofs.Complete.DecoderPlace.{quiet-owes}
use Rattle.duplex_line.proofs.Complete.ClearLane.{goods}
use Rattle.duplex_line.proofs.Complete.MessageUnderWay.{Flow, Marks, awaits, due, in_flight}
use Rattle.each_once.proofs.Sublists.{none-is}

-- what is so of an end that gives nothing
pub record GivesNothing {H : Type 0} (m : Ghosts H) (e : EndState H) : Type 0 where
  pub chooses : chosen e.mouth ≡ None
  pub idle : (phase_of e.sender ≡ phase.Waiting → ⊥) → (phase_of e.sender ≡ phase.Idle) × (m.next_body e.host ≡ None)

none-chosen : (g : Giving) (c : Option Choice) → (given g c).1 ≡ None → c ≡ None
none-chosen g None e = refl
none-chosen g (Some (Second out)) e = cc
none-chosen g (Some (Respond r)) e = cc
none-chosen g (Some (Give unit)) e = cc
none-chosen g (Some Enquire) e = cc

frame-chosen : (g : Giving) (body : List ℕ) → chosen (begin g body) ≡ None → ⊥
frame-chosen g body e = let none = none-left (begin g body) e in cc

begun-nothing : {H : Type 0} (m : Ghosts H) (e : EndState H) (p : Phase) (next : Option (List ℕ)) → chosen (begun_at m e p next).mouth ≡ None → (p ≡ phase.Waiting → ⊥) → (p ≡ phase.Idle) × (next ≡ None)
begun-nothing m e phase.Idle None none other = (refl, refl)
begun-nothing m e phase.Idle (Some body) none other = absurd (frame-chosen e.mouth body none)
begun-nothing m e phase.Sending next none other = absurd (frame-chosen e.mouth (body_of e.sender) none)
begun-nothing m e phase.Waiting next none other = absurd (other refl)

prepared-nothing : {H : Type 0} (m : Ghosts H) (e : EndState H) (idle : Bool) → is_none (chosen e.mouth) ≡ idle → chosen (if idle then begun_next m e else e).mouth ≡ None → GivesNothing m e
prepared-nothing m e true is none = record { chooses = none-is (chosen e.mouth) is; idle = λ other. begun-nothing m e (phase_of e.sender) (m.next_body e.host) none other }
prepared-nothing m e false is none = absurd (let yes : is_none (chosen e.mouth) ≡ true = ap is_none none in cc)

pub gives-nothing : {H : Type 0} (m : Ghosts H) (e : EndState H) → out_at_take m e ≡ None → GivesNothing m e
gives-nothing m e none = prepared-nothing m e (is_none (chosen e.mouth)) refl (none-chosen (prepared m e).mouth (chosen (prepared m e).mouth) (sym (out-is m e) ∙ none))

-- a sender of which no frame and no response is on its way awaits none
pub awaits-none : {H : Type 0} (a b : EndState H) (back_sent back_heard sent heard : List (List ℕ)) (late far_late : ℕ) (marks far_marks : Marks) → Flow a b [] [] sent heard late marks → Flow b a [] [] back_sent back_heard far_late far_marks → chosen b.mouth ≡ None → awaits a.sender.activity ≡ 0
awaits-none a b back_sent back_heard sent heard late far_late marks far_marks f far none =
    let ack = quiet-owes b.mouth none resp.Ack in
    let nak = quiet-owes b.mouth none resp.Nak in
    omega (arith, f.responses, ack, nak)

not-waiting : (limits : Limits) (a : Activity) → awaits a ≡ 0 → phase_of (record { limits = limits; activity = a }) ≡ phase.Waiting → ⊥
not-waiting limits Idle none is = cc
not-waiting limits (Sending body naks enqs) none is = cc
not-waiting limits (Waiting body naks enqs left) none is = omega (arith, none)

pub never-waits : (s : SenderState) → awaits s.activity ≡ 0 → phase_of s ≡ phase.Waiting → ⊥
never-waits s none is = not-waiting s.limits s.activity none is

idle-flight : (limits : Limits) (a : Activity) (n : ℕ) → phase_of (record { limits = limits; activity = a }) ≡ phase.Idle → in_flight a n ≡ []
idle-flight limits Idle n is = refl
idle-flight limits (Sending body naks enqs) n is = absurd cc
idle-flight limits (Waiting body naks enqs left) n is = absurd cc

-- of an idle sender all messages were heard
pub all-heard : {H : Type 0} (a b : EndState H) (lane back : List LaneCell) (sent heard : List (List ℕ)) (late : ℕ) (marks : Marks) → phase_of a.sender ≡ phase.Idle → Flow a b lane back sent heard late marks → sent ≡ heard
all-heard a b lane back sent heard late marks idle f = f.flight ∙ ap (λ (m : List (List ℕ)). heard ++ m) (idle-flight a.sender.limits a.sender.activity (goods lane + due resp.Nak b a back) idle) ∙ append-nil heard
