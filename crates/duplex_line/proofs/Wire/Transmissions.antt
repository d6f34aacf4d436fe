-- In every run: the transmissions that end in a lane are those that its end began, and their numbers rise.
use Rattle.std.proofs.Common.{◌≡◌, ◌∙◌, ℕ, zero, suc, ◌+◌, ◌-◌, ◌<◌, ◌≤◌, Bool, true, false, List, [], ◌∷◌, ◌++◌, length, map, drop, Option, Some, None, is_none, refl, sym, ap, subst, append-nil, append_assoc, arith, length-append, option_map}
use Rattle.std.specs.Prelude.{IsTrue, All, IfSome, not, ◌&&◌, min, ◌^◌, ◌==◌, replicate, slice_get, option_to_list, sum_by, if◌then◌else◌}
use Rattle.std.specs.Option.{option_map_or}
use Rattle.std.specs.List.{cons_option, filter_map, AllByRecursion}
use Rattle.std.proofs.lemmas.List.Elements.{All-head, All-tail, filter_map-append}
use Rattle.std.proofs.lemmas.List.Sums.{sum_by-cons}
use Rattle.df1_base.specs.declared.link.Out.{Out}
use Rattle.df1_frame.specs.declared.framer.Unit.{Unit as Given}
use Rattle.df1_node.specs.Node.{NodeState}
use Rattle.duplex_sender.specs.declared.Phase.{Phase}
use Rattle.duplex_sender.specs.declared.Phase.TheVariants as phase
use Rattle.duplex_sender.specs.declared.SendTurn.{SendTurn}
use Rattle.duplex_sender.specs.declared.SendTurn.TheVariants as turn
use Rattle.duplex_sender.specs.Sender.{SenderState, phase_of, body_of, load, on_tick, tick_turn}
use Rattle.duplex_receiver.specs.Receiver.{Response, Offers, Forgets, Again, Silent, response_for}
use Rattle.embedded_response.specs.Giving.{Giving, Choice, Second, Respond, Give, Enquire, offer, forget, answer_enq, unask, is_begun, chosen, given, take, unit_out}
use Rattle.duplex_end.specs.End.{EndState, Place, OfMouth, FrameAgain, FrameOfNew, new_end, next_place, end_after_take, out_at_take, begun_at as begin_at, begun_next, prepared, given_next, after_out, sender_after, responded, asked, is_waiting, act_of_byte}
use Rattle.duplex_end.specs.declared.Setup.{Setup}
use Rattle.duplex_end.specs.Emission.{Byte, Tick, end_after}
use Rattle.duplex_end.specs.Joined.{Joined, LastEnds}
use Rattle.duplex_end.proofs.Choices.{Chosen, is-chosen}
use Rattle.duplex_end.proofs.Joining.{begin-joined, take-joined}
use Rattle.duplex_end.proofs.Order.{place_after, frame_at, next-is, end-is, out-is}
use Rattle.duplex_end.proofs.Runs.{new-joined, signal-joined}
use Rattle.each_once.specs.NodeHost.{node_host}
use Rattle.each_once.specs.Tells.{is_who}
use Rattle.each_once.proofs.Sublists.{get-more, get-seam}
use Rattle.lane_cells.specs.Cells.{LaneCell, Ending, ending_of, cell_of, altered}
use Rattle.script_statement.specs.declared.who.Who.{Who}
use Rattle.script_statement.specs.declared.who.Who.TheVariants.{A, B, M, S}
use Rattle.script_parts.specs.declared.script.Event.{Event}
use Rattle.script_parts.specs.declared.script.Event.TheVariants as event
use Rattle.script_parts.specs.declared.script.Script.{Script}
use Rattle.script_parts.specs.Playable.{IsPossible, IsPlayable, is_end, count_of}
use Rattle.duplex_line.specs.Acts.{LineEndState, LineState, swapped, Deed, Issue as Issues, Take as Takes, Deliver, Lose, Alter, Foreign, Tick as Ticks, near_after, arriving, after_arrival, after_deed, after_deeds}
use Rattle.duplex_line.specs.Run.{setup_of, first_node, plan_of_a, plan_of_b, start, who_of, deeds_of, seen_from, after_event, state_after, last_state}
use Rattle.duplex_line.specs.Transmissions.{begun_by, begun_at, begun_over, begun_in, numbers_of, ended_with, ended_over, ended_in, Rise, IsOneOf, AreCounted}
use Rattle.duplex_line.proofs.Once.Arrivals.{end-of}
use Rattle.duplex_line.proofs.Once.SentMessages.{IsLast, ends-begun, given-begun, dropped-begun, responded-begun, asked-begun}

-- ---- numbers that rise

rise-most : (above : ℕ) (numbers : List ℕ) (most more : ℕ) → most ≤ more → Rise above numbers most → Rise above numbers more
rise-most above [] most more le r = omega arith
rise-most above (n ∷ numbers) most more le r = (r.0, rise-most n numbers most more le r.1)

rise-above : (below above : ℕ) (numbers : List ℕ) (most : ℕ) → below ≤ above → Rise above numbers most → Rise below numbers most
rise-above below above [] most le r = omega arith
rise-above below above (n ∷ numbers) most le r = (omega (arith, r.0), r.1)

rise-end : (above : ℕ) (numbers : List ℕ) (most last : ℕ) → most < last → Rise above numbers most → Rise above (numbers ++ last ∷ []) last
rise-end above [] most last lt r = (omega arith, omega arith)
rise-end above (n ∷ numbers) most last lt r = (r.0, rise-end n numbers most last lt r.1)

-- ---- an end, and the numbers in its lane

record Open {H : Type 0} (e : EndState H) (begun : List (List ℕ)) (heard : ℕ) (numbers : List ℕ) : Type 0 where
  joined : Joined e.mouth e.sender
  count : e.mouth.begun ≡ length begun
  last : is_begun e.mouth ≡ true → IsLast begun e.sending
  rise : Rise heard numbers (length begun)
  before : is_begun e.mouth ≡ true → (k : ℕ) × (length begun ≡ k + 1) × Rise heard numbers k

-- the mouth goes on with the same transmissions, and begins none
open-same : {H : Type 0} (e after : EndState H) (begun : List (List ℕ)) (heard : ℕ) (numbers : List ℕ) → Joined after.mouth after.sender → after.mouth.begun ≡ e.mouth.begun → after.sending ≡ e.sending → (is_begun after.mouth ≡ true → is_begun e.mouth ≡ true)
    → Open e begun heard numbers → Open after begun heard numbers
open-same e after begun heard numbers joined count sending begins o = record {
  joined = joined;
  count = count ∙ o.count;
  last = λ is. subst (IsLast begun) (sym sending) (o.last (begins is));
  rise = o.rise;
  before = λ is. o.before (begins is);
}

dropped-count : (leaves : Bool) (g : Giving) → (if leaves then unask g else g).begun ≡ g.begun
dropped-count true g = refl
dropped-count false g = refl

responded-count : (r : Response) (g : Giving) → (elim r as (λ _. Giving) [ Offers resp ↦ offer g resp | Forgets ↦ forget g | Again ↦ answer_enq g | Silent ↦ g ]).begun ≡ g.begun
responded-count (Offers resp) g = refl
responded-count Forgets g = refl
responded-count Again g = refl
responded-count Silent g = refl

asked-count : (what : SendTurn) (g : Giving) → (asked what g).begun ≡ g.begun
asked-count turn.Still g = refl
asked-count turn.Ask g = refl
asked-count turn.Failed g = refl

open-byte : (e : EndState NodeState) (b : ℕ) (begun : List (List ℕ)) (heard : ℕ) (numbers : List ℕ) → Open e begun heard numbers → Open (end_after node_host e (Byte b)) begun heard numbers
open-byte e b begun heard numbers o =
    let what = act_of_byte node_host e b in
    let leaves = is_waiting (phase_of e.sender) && not (is_waiting (phase_of (sender_after what e.sender))) in
    open-same e (end_after node_host e (Byte b)) begun heard numbers (signal-joined node_host e (Byte b) o.joined)
    (dropped-count leaves (responded what e.mouth) ∙ responded-count (response_for what) e.mouth) refl
    (λ is. responded-begun (response_for what) e.mouth (dropped-begun leaves (responded what e.mouth) is)) o

open-tick : (e : EndState NodeState) (begun : List (List ℕ)) (heard : ℕ) (numbers : List ℕ) → Open e begun heard numbers → Open (end_after node_host e Tick) begun heard numbers
open-tick e begun heard numbers o =
    let leaves = is_waiting (phase_of e.sender) && not (is_waiting (phase_of (on_tick e.sender))) in
    open-same e (end_after node_host e Tick) begun heard numbers (signal-joined node_host e Tick o.joined)
    (dropped-count leaves (asked (tick_turn e.sender) e.mouth) ∙ asked-count (tick_turn e.sender) e.mouth) refl
    (λ is. asked-begun (tick_turn e.sender) e.mouth (dropped-begun leaves (asked (tick_turn e.sender) e.mouth) is)) o

-- ---- a transmission begins

open-begin : {H : Type 0} (e after : EndState H) (begun : List (List ℕ)) (heard : ℕ) (numbers : List ℕ) (body : List ℕ) → length begun < 2 ^ 64 - 1 → Joined after.mouth after.sender → after.mouth.begun ≡ min (e.mouth.begun + 1) (2 ^ 64 - 1) → after.sending ≡ body
    → Open e begun heard numbers → Open after (begun ++ body ∷ []) heard numbers
open-begin e after begun heard numbers body few joined count sending o =
    let more : length (begun ++ body ∷ []) ≡ length begun + 1 = length-append begun (body ∷ []) in
    record {
      joined = joined;
      count = omega (arith, count, o.count, more, few);
      last = λ is. (begun, ap (λ (l : List ℕ). begun ++ l ∷ []) (sym sending));
      rise = rise-most heard numbers (length begun) (length (begun ++ body ∷ [])) (omega (arith, more)) o.rise;
      before = λ is. (length begun, more, o.rise);
    }

open-begun : (e : EndState NodeState) (at : Phase) (next : Option (List ℕ)) (begun : List (List ℕ)) (heard : ℕ) (numbers : List ℕ) → phase_of e.sender ≡ at → length begun < 2 ^ 64 - 1 → Open e begun heard numbers
    → Open (begin_at node_host e at next) (begun ++ begun_by (frame_at e.sender at next)) heard numbers
open-begun e phase.Idle None begun heard numbers is few o = rw (append-nil begun) o
open-begun e phase.Idle (Some body) begun heard numbers is few o =
    open-begin e (begin_at node_host e phase.Idle (Some body)) begun heard numbers body few (begin-joined e.mouth e.sender (load e.sender body) body o.joined refl) refl refl o
open-begun e phase.Sending next begun heard numbers is few o =
    open-begin e (begin_at node_host e phase.Sending next) begun heard numbers (body_of e.sender) few (begin-joined e.mouth e.sender e.sender (body_of e.sender) o.joined is) refl refl o
open-begun e phase.Waiting next begun heard numbers is few o = rw (append-nil begun) o

open-place : (e : EndState NodeState) (c : Option Choice) (begun : List (List ℕ)) (heard : ℕ) (numbers : List ℕ) → length begun < 2 ^ 64 - 1 → Open e begun heard numbers
    → Open (if is_none c then begun_next node_host e else e) (begun ++ begun_by (place_after c (frame_at e.sender (phase_of e.sender) (node_host.next_body e.host)))) heard numbers
open-place e None begun heard numbers few o = open-begun e (phase_of e.sender) (node_host.next_body e.host) begun heard numbers refl few o
open-place e (Some choice) begun heard numbers few o = rw (append-nil begun) o

open-prepared : (e : EndState NodeState) (begun : List (List ℕ)) (heard : ℕ) (numbers : List ℕ) → length begun < 2 ^ 64 - 1 → Open e begun heard numbers
    → Open (prepared node_host e) (begun ++ begun_by (next_place node_host e)) heard numbers
open-prepared e begun heard numbers few o =
    subst (λ (p : Option Place). Open (prepared node_host e) (begun ++ begun_by p) heard numbers) (sym (next-is node_host e)) (open-place e (chosen e.mouth) begun heard numbers few o)

-- ---- a byte is given

given-count : (g : Giving) (c : Option Choice) → (given g c).0.begun ≡ g.begun
given-count g None = refl
given-count g (Some (Second out)) = refl
given-count g (Some (Respond r)) = refl
given-count g (Some (Give unit)) = refl
given-count g (Some Enquire) = refl

-- a unit that ends a transmission has its number, and is the last
unit-ends : (unit : Given) (rest : List Given) (second : Option ℕ) (number n : ℕ) → LastEnds (unit ∷ rest) → (unit_out unit second number).0.last_of ≡ Some n → (n ≡ number) × (rest ≡ [])
unit-ends unit [] None number n ends is = let same : Some number ≡ Some n = rw ends.0 at is in (cc, refl)
unit-ends unit [] (Some code) number n ends is = absurd cc
unit-ends unit (next ∷ more) None number n ends is = absurd (let no : None ≡ Some n = rw ends.0 at is in cc)
unit-ends unit (next ∷ more) (Some code) number n ends is = absurd cc

given-ends : (g : Giving) (s : SenderState) (c : Option Choice) (out : Out) (n : ℕ) → Joined g s → Chosen g.second g.waiting g.left g.asking c → (given g c).1 ≡ Some out → out.last_of ≡ Some n → (n ≡ g.begun) × ((given g c).0.left ≡ [])
given-ends g s None out n j h is last = absurd cc
given-ends g s (Some (Second second)) out n j h is last =
    let plain : second.last_of ≡ None = j.second_is_plain second h in
    let same : second ≡ out = cc in
    absurd (let no : None ≡ Some n = sym plain ∙ ap (λ (o : Out). o.last_of) same ∙ last in cc)
given-ends g s (Some (Respond r)) out n j h is last = absurd (let no : None ≡ Some n = ap (λ (o : Option Out). elim o as (λ _. Option ℕ) [ None ↦ None | Some x ↦ x.last_of ]) is ∙ last in cc)
given-ends g s (Some (Give unit)) out n j h is last =
    let all = subst LastEnds h.1.1 j.last_ends in
    let given_last : (unit_out unit unit.second g.begun).0.last_of ≡ Some n = ap (λ (o : Option Out). elim o as (λ _. Option ℕ) [ None ↦ None | Some x ↦ x.last_of ]) is ∙ last in
    let end = unit-ends unit h.1.0 unit.second g.begun n all given_last in
    (end.0, ap (drop 1) h.1.1 ∙ end.1)
given-ends g s (Some Enquire) out n j h is last = absurd (let no : None ≡ Some n = ap (λ (o : Option Out). elim o as (λ _. Option ℕ) [ None ↦ None | Some x ↦ x.last_of ]) is ∙ last in cc)

not-begun : (left : List Given) → left ≡ [] → not (length left == 0) ≡ true → ⊥
not-begun left none begun = let no : false ≡ true = rw none at begun in cc

-- the numbers in a lane, with that of a byte
abbrev with_number : List ℕ → Option ℕ → List ℕ
with_number numbers last = numbers ++ option_to_list last

open-out : {H : Type 0} (e : EndState H) (begun : List (List ℕ)) (heard : ℕ) (numbers : List ℕ) (last : Option ℕ) (g : Giving) (s : SenderState) → Joined g s → g.begun ≡ e.mouth.begun → (is_begun g ≡ true → is_begun e.mouth ≡ true)
    → ((n : ℕ) → last ≡ Some n → (n ≡ e.mouth.begun) × (g.left ≡ []) × (is_begun e.mouth ≡ true)) → Open e begun heard numbers
    → Open (record { receiver = e.receiver; sender = s; mouth = g; sending = e.sending; host = e.host }) begun heard (with_number numbers last)
open-out e begun heard numbers None g s joined count begins ends o = rw (append-nil numbers) (record {
  joined = joined;
  count = count ∙ o.count;
  last = λ is. o.last (begins is);
  rise = o.rise;
  before = λ is. o.before (begins is);
})
open-out e begun heard numbers (Some n) g s joined count begins ends o =
    let end = ends n refl in
    let k = o.before end.2 in
    let number : n ≡ length begun = end.0 ∙ o.count in
    record {
      joined = joined;
      count = count ∙ o.count;
      last = λ is. absurd (not-begun g.left end.1 is);
      rise = subst (λ (m : ℕ). Rise heard (numbers ++ n ∷ []) m) number (rise-end heard numbers k.0 n (omega (arith, number, k.1)) k.2);
      before = λ is. absurd (not-begun g.left end.1 is);
    }

-- a byte that ends a transmission ends the one that was begun last
out-ends : (g : Giving) (s : SenderState) (c : Option Choice) (o : Option Out) (n : ℕ) → Joined g s → Chosen g.second g.waiting g.left g.asking c → (given g c).1 ≡ o → (elim o as (λ _. Option ℕ) [ None ↦ None | Some x ↦ x.last_of ]) ≡ Some n
    → (n ≡ g.begun) × ((given g c).0.left ≡ []) × (is_begun g ≡ true)
out-ends g s c None n j h is last = absurd cc
out-ends g s c (Some out) n j h is last =
    let end = given-ends g s c out n j h is last in
    (end.0, end.1, ends-begun g s c j h (rw (is, last) refl))

abbrev last_of_out : Option Out → Option ℕ
last_of_out o = elim o as (λ _. Option ℕ) [ None ↦ None | Some x ↦ x.last_of ]

open-given : (e : EndState NodeState) (begun : List (List ℕ)) (heard : ℕ) (numbers : List ℕ) → Open e begun heard numbers → Open (given_next e) begun heard (with_number numbers (last_of_out (take e.mouth).1))
open-given e begun heard numbers o =
    open-out e begun heard numbers (last_of_out (take e.mouth).1) (take e.mouth).0 (after_out (take e.mouth).1 e.sender) (take-joined e.mouth e.sender o.joined) (given-count e.mouth (chosen e.mouth)) (λ is. given-begun e.mouth (chosen e.mouth) is)
    (λ n last. out-ends e.mouth e.sender (chosen e.mouth) (take e.mouth).1 n o.joined (is-chosen e.mouth) refl last) o

open-take : (e : EndState NodeState) (begun : List (List ℕ)) (heard : ℕ) (numbers : List ℕ) → length begun < 2 ^ 64 - 1 → Open e begun heard numbers
    → Open (end_after_take node_host e) (begun ++ begun_by (next_place node_host e)) heard (with_number numbers (last_of_out (out_at_take node_host e)))
open-take e begun heard numbers few o =
    let p = prepared node_host e in
    let after = begun ++ begun_by (next_place node_host e) in
    subst (λ (x : EndState NodeState). Open x after heard (with_number numbers (last_of_out (out_at_take node_host e)))) (sym (end-is node_host e))
    (subst (λ (out : Option Out). Open (given_next p) after heard (with_number numbers (last_of_out out))) (sym (out-is node_host e)) (open-given p after heard numbers (open-prepared e begun heard numbers few o)))

-- ---- the cells of a lane

abbrev AreOf : List (List ℕ) → List LaneCell → Type 0
AreOf begun = AllByRecursion (IsOneOf begun)

one-more : (begun more : List (List ℕ)) (ends : Option Ending) → IfSome ends (λ e. slice_get begun (e.number - 1) ≡ Some e.body) → IfSome ends (λ e. slice_get (begun ++ more) (e.number - 1) ≡ Some e.body)
one-more begun more None is = tt
one-more begun more (Some ending) is = get-more begun more (ending.number - 1) ending.body is

are-more : (begun more : List (List ℕ)) (cells : List LaneCell) → AreOf begun cells → AreOf (begun ++ more) cells
are-more begun more [] are = tt
are-more begun more (cell ∷ cells) are = (one-more begun more cell.ends are.0, are-more begun more cells are.1)

are-end : (begun : List (List ℕ)) (cells : List LaneCell) (cell : LaneCell) → AreOf begun cells → IsOneOf begun cell → AreOf begun (cells ++ cell ∷ [])
are-end begun [] cell are is = (is, tt)
are-end begun (first ∷ cells) cell are is = (are.0, are-end begun cells cell are.1 is)

-- ---- one direction

-- an end, its lane, and the last of its transmissions that ended at the other end
record Counts (begun : List (List ℕ)) (heard : ℕ) (side : LineEndState) : Type 0 where
  open_end : Open side.end begun heard (numbers_of side.lane)
  bodies : AreOf begun side.lane

one-number : (o : Option ℕ) → filter_map (λ (x : Option ℕ). x) (o ∷ []) ≡ option_to_list o
one-number None = refl
one-number (Some n) = refl

numbers-more : (cells : List LaneCell) (cell : LaneCell) → numbers_of (cells ++ cell ∷ []) ≡ numbers_of cells ++ option_to_list (option_map (λ (e : Ending). e.number) cell.ends)
numbers-more cells cell = filter_map-append (λ (c : LaneCell). option_map (λ (e : Ending). e.number) c.ends) cells (cell ∷ []) ∙ ap (λ (l : List ℕ). numbers_of cells ++ l) (one-number (option_map (λ (e : Ending). e.number) cell.ends))

-- the last of the transmissions is the one of this number
last-at : (begun : List (List ℕ)) (sending : List ℕ) (n : ℕ) → IsLast begun sending → n ≡ length begun → slice_get begun (n - 1) ≡ Some sending
last-at begun sending n last is =
    let front = last.0 in
    let at : n - 1 ≡ length front = omega (arith, is, ap length last.1, length-append front (sending ∷ [])) in
    rw (at, last.1) (get-seam front sending [])

out-number : (sending : List ℕ) (last : Option ℕ) → option_to_list (option_map (λ (e : Ending). e.number) (option_map (ending_of sending) last)) ≡ option_to_list last
out-number sending None = refl
out-number sending (Some n) = refl

cell-is : (begun : List (List ℕ)) (sending : List ℕ) (last : Option ℕ) → ((n : ℕ) → last ≡ Some n → slice_get begun (n - 1) ≡ Some sending)
    → IfSome (option_map (ending_of sending) last) (λ e. slice_get begun (e.number - 1) ≡ Some e.body)
cell-is begun sending None ends = tt
cell-is begun sending (Some n) ends = ends n refl

lane-numbers : (begun : List (List ℕ)) (sending : List ℕ) (cells : List LaneCell) (o : Option Out)
    → numbers_of (cells ++ option_to_list (option_map (cell_of sending) o)) ≡ with_number (numbers_of cells) (last_of_out o)
lane-numbers begun sending cells None = ap numbers_of (append-nil cells) ∙ sym (append-nil (numbers_of cells))
lane-numbers begun sending cells (Some out) = numbers-more cells (cell_of sending out) ∙ ap (λ (l : List ℕ). numbers_of cells ++ l) (out-number sending out.last_of)

lane-are : (begun : List (List ℕ)) (sending : List ℕ) (cells : List LaneCell) (o : Option Out) → ((n : ℕ) → last_of_out o ≡ Some n → slice_get begun (n - 1) ≡ Some sending) → AreOf begun cells
    → AreOf begun (cells ++ option_to_list (option_map (cell_of sending) o))
lane-are begun sending cells None ends are = rw (append-nil cells) are
lane-are begun sending cells (Some out) ends are = are-end begun cells (cell_of sending out) are (cell-is begun sending out.last_of ends)

-- the transmission that a take ends is the last that was begun
take-ends : (e : EndState NodeState) (begun : List (List ℕ)) (heard : ℕ) (numbers : List ℕ) → length begun < 2 ^ 64 - 1 → Open e begun heard numbers → (n : ℕ) → last_of_out (out_at_take node_host e) ≡ Some n
    → slice_get (begun ++ begun_by (next_place node_host e)) (n - 1) ≡ Some (end_after_take node_host e).sending
take-ends e begun heard numbers few o n last =
    let p = prepared node_host e in
    let after = begun ++ begun_by (next_place node_host e) in
    let q = open-prepared e begun heard numbers few o in
    let given : last_of_out (take p.mouth).1 ≡ Some n = ap last_of_out (sym (out-is node_host e)) ∙ last in
    let end = out-ends p.mouth p.sender (chosen p.mouth) (take p.mouth).1 n q.joined (is-chosen p.mouth) refl given in
    subst (λ (x : EndState NodeState). slice_get after (n - 1) ≡ Some x.sending) (sym (end-is node_host e)) (last-at after p.sending n (q.last end.2) (end.0 ∙ q.count))

counts-take : (side : LineEndState) (begun : List (List ℕ)) (heard : ℕ) → length begun < 2 ^ 64 - 1 → Counts begun heard side → Counts (begun ++ begun_at side Takes) heard (near_after side Takes)
counts-take side begun heard few c =
    let e = side.end in
    let o = out_at_take node_host e in
    let after = begun ++ begun_by (next_place node_host e) in
    let sending = (end_after_take node_host e).sending in
    record {
      open_end = subst (Open (end_after_take node_host e) after heard) (sym (lane-numbers begun sending side.lane o)) (open-take e begun heard (numbers_of side.lane) few c.open_end);
      bodies = lane-are after sending side.lane o (take-ends e begun heard (numbers_of side.lane) few c.open_end) (are-more begun (begun_by (next_place node_host e)) side.lane c.bodies);
    }

-- the head of the lane is gone
head-number : (o : Option ℕ) (numbers : List ℕ) → cons_option o numbers ≡ option_to_list o ++ numbers
head-number None numbers = refl
head-number (Some n) numbers = refl

numbers-head : (cell : LaneCell) (cells : List LaneCell) → numbers_of (cell ∷ cells) ≡ option_to_list (option_map (λ (e : Ending). e.number) cell.ends) ++ numbers_of cells
numbers-head cell cells = head-number (option_map (λ (e : Ending). e.number) cell.ends) (numbers_of cells)

-- another lane, whose numbers rise too
counts-lane : (side : LineEndState) (lane : List LaneCell) (begun : List (List ℕ)) (heard last : ℕ) → ((most : ℕ) → Rise heard (numbers_of side.lane) most → Rise last (numbers_of lane) most) → AreOf begun lane → Counts begun heard side
    → Counts begun last (record { end = side.end; lane = lane })
counts-lane side lane begun heard last rises are c =
    let o = c.open_end in
    record {
      open_end = record { joined = o.joined; count = o.count; last = o.last; rise = rises (length begun) o.rise; before = λ is. let k = o.before is in (k.0, k.1, rises k.0 k.2) };
      bodies = are;
    }

rise-lost : (heard most : ℕ) (o : Option ℕ) (numbers : List ℕ) → Rise heard (option_to_list o ++ numbers) most → Rise heard numbers most
rise-lost heard most None numbers r = r
rise-lost heard most (Some n) numbers r = rise-above heard n numbers most (omega (arith, r.0)) r.1

rise-heard : (heard most : ℕ) (ends : Option Ending) (numbers : List ℕ) → Rise heard (option_to_list (option_map (λ (e : Ending). e.number) ends) ++ numbers) most → Rise (option_map_or (λ (e : Ending). e.number) ends heard) numbers most
rise-heard heard most None numbers r = r
rise-heard heard most (Some ending) numbers r = r.1

are-tail : (begun : List (List ℕ)) (cells : List LaneCell) → AreOf begun cells → AreOf begun (drop 1 cells)
are-tail begun [] are = tt
are-tail begun (cell ∷ cells) are = are.1

rise-drop : (heard most : ℕ) (cells : List LaneCell) → Rise heard (numbers_of cells) most → Rise heard (numbers_of (drop 1 cells)) most
rise-drop heard most [] r = r
rise-drop heard most (cell ∷ cells) r = rise-lost heard most (option_map (λ (e : Ending). e.number) cell.ends) (numbers_of cells) (subst (λ (l : List ℕ). Rise heard l most) (numbers-head cell cells) r)

rise-delivered : (heard most : ℕ) (cells : List LaneCell) → Rise heard (numbers_of cells) most → Rise (ended_with heard (slice_get cells 0)) (numbers_of (drop 1 cells)) most
rise-delivered heard most [] r = r
rise-delivered heard most (cell ∷ cells) r = rise-heard heard most cell.ends (numbers_of cells) (subst (λ (l : List ℕ). Rise heard l most) (numbers-head cell cells) r)

rise-altered : (mask heard most : ℕ) (cells : List LaneCell) → Rise heard (numbers_of cells) most → Rise heard (numbers_of (altered mask cells)) most
rise-altered mask heard most [] r = r
rise-altered mask heard most (cell ∷ cells) r = rise-lost heard most (option_map (λ (e : Ending). e.number) cell.ends) (numbers_of cells) (subst (λ (l : List ℕ). Rise heard l most) (numbers-head cell cells) r)

are-altered : (begun : List (List ℕ)) (mask : ℕ) (cells : List LaneCell) → AreOf begun cells → AreOf begun (altered mask cells)
are-altered begun mask [] are = tt
are-altered begun mask (cell ∷ cells) are = (tt, are.1)

counts-same : (side : LineEndState) (end : EndState NodeState) (begun : List (List ℕ)) (heard : ℕ) → Open end begun heard (numbers_of side.lane) → Counts begun heard side → Counts begun heard (record { end = end; lane = side.lane })
counts-same side end begun heard o c = record { open_end = o; bodies = c.bodies }

counts-near : (side : LineEndState) (deed : Deed) (begun : List (List ℕ)) (heard : ℕ) → length begun < 2 ^ 64 - 1 → Counts begun heard side
    → Counts (begun ++ begun_at side deed) (ended_with heard (arriving side deed)) (near_after side deed)
counts-near side (Issues src dst payload) begun heard few c =
    let o = c.open_end in
    rw (append-nil begun) (counts-same side _ begun heard (record { joined = o.joined; count = o.count; last = o.last; rise = o.rise; before = o.before }) c)
counts-near side Takes begun heard few c = counts-take side begun heard few c
counts-near side Deliver begun heard few c =
    rw (append-nil begun) (counts-lane side (drop 1 side.lane) begun heard (ended_with heard (slice_get side.lane 0)) (λ most r. rise-delivered heard most side.lane r) (are-tail begun side.lane c.bodies) c)
counts-near side Lose begun heard few c =
    rw (append-nil begun) (counts-lane side (drop 1 side.lane) begun heard heard (λ most r. rise-drop heard most side.lane r) (are-tail begun side.lane c.bodies) c)
counts-near side (Alter mask) begun heard few c =
    rw (append-nil begun) (counts-lane side (altered mask side.lane) begun heard heard (λ most r. rise-altered mask heard most side.lane r) (are-altered begun mask side.lane c.bodies) c)
counts-near side (Foreign byte) begun heard few c = rw (append-nil begun) c
counts-near side Ticks begun heard few c = rw (append-nil begun) (counts-same side _ begun heard (open-tick side.end begun heard (numbers_of side.lane) c.open_end) c)

counts-arrival : (side : LineEndState) (cell : Option LaneCell) (begun : List (List ℕ)) (heard : ℕ) → Counts begun heard side → Counts begun heard (after_arrival side cell)
counts-arrival side None begun heard c = c
counts-arrival side (Some cell) begun heard c = counts-same side _ begun heard (open-byte side.end cell.byte begun heard (numbers_of side.lane) c.open_end) c

-- ---- both directions

record BothCount (begun far_begun : List (List ℕ)) (heard far_heard : ℕ) (s : LineState) : Type 0 where
  of_near : Counts begun heard s.a
  of_far : Counts far_begun far_heard s.b

both-swapped : (begun far_begun : List (List ℕ)) (heard far_heard : ℕ) (s : LineState) → BothCount begun far_begun heard far_heard s → BothCount far_begun begun far_heard heard (swapped s)
both-swapped begun far_begun heard far_heard s b = record { of_near = b.of_far; of_far = b.of_near }

-- at most one transmission begins at a step
place-few : (p : Option Place) → length (begun_by p) ≤ 1
place-few None = omega arith
place-few (Some (OfMouth choice)) = omega arith
place-few (Some (FrameAgain body)) = omega arith
place-few (Some (FrameOfNew body)) = omega arith

begun-few : (side : LineEndState) (deed : Deed) → length (begun_at side deed) ≤ 1
begun-few side (Issues src dst payload) = omega arith
begun-few side Takes = place-few (next_place node_host side.end)
begun-few side Deliver = omega arith
begun-few side Lose = omega arith
begun-few side (Alter mask) = omega arith
begun-few side (Foreign byte) = omega arith
begun-few side Ticks = omega arith

begun-over-few : (side : LineEndState) (deeds : List Deed) → length (begun_over side deeds) ≤ length deeds
begun-over-few side [] = omega arith
begun-over-few side (deed ∷ deeds) =
    omega (arith, length-append (begun_at side deed) (begun_over (near_after side deed) deeds), begun-few side deed, begun-over-few (near_after side deed) deeds)

-- so many transmissions and steps come in a run
abbrev AreFew : List (List ℕ) → ℕ → Type 0
AreFew begun more = length begun + more ≤ 5000000

counts-deeds : (begun far_begun : List (List ℕ)) (heard far_heard : ℕ) (s : LineState) (deeds : List Deed) → AreFew begun (length deeds) → BothCount begun far_begun heard far_heard s
    → BothCount (begun ++ begun_over s.a deeds) far_begun (ended_over heard s.a deeds) far_heard (after_deeds s deeds)
counts-deeds begun far_begun heard far_heard s [] few b = rw (append-nil begun) b
counts-deeds begun far_begun heard far_heard s (deed ∷ deeds) few b =
    let new = begun_at s.a deed in
    let one = begun-few s.a deed in
    let more = length-append begun new in
    rw (sym (append_assoc begun new (begun_over (near_after s.a deed) deeds)))
    (counts-deeds (begun ++ new) far_begun (ended_with heard (arriving s.a deed)) far_heard (after_deed s deed) deeds (omega (arith, few, one, more)) (record {
      of_near = counts-near s.a deed begun heard (omega (arith, few)) b.of_near;
      of_far = counts-arrival s.b (arriving s.a deed) far_begun far_heard b.of_far;
    }))

-- ---- events

length-again : (n : ℕ) (deed : Deed) → length (replicate n deed) ≡ n
length-again zero deed = refl
length-again (suc n) deed = ap suc (length-again n deed)

length-foreign : (bytes : List ℕ) → length (map Foreign bytes) ≡ length bytes
length-foreign [] = refl
length-foreign (byte ∷ bytes) = ap suc (length-foreign bytes)

deeds-count : (e : Event) → length (deeds_of e) ≡ count_of e
deeds-count (event.Issue who src dst payload) = refl
deeds-count (event.Take who n) = length-again n Takes
deeds-count (event.Deliver lane n) = length-again n Deliver
deeds-count (event.Lose lane n) = length-again n Lose
deeds-count (event.Alter lane mask) = refl
deeds-count (event.Foreign lane bytes) = length-foreign bytes
deeds-count (event.Tick who n) = length-again n Ticks

-- what begins and ends at an event, at this end
abbrev begun_event : Who → LineState → Event → List (List ℕ)
begun_event who s e = if is_who who (who_of e) then begun_over (seen_from (who_of e) s).a (deeds_of e) else []

abbrev ended_event : Who → ℕ → LineState → Event → ℕ
ended_event who last s e = if is_who who (who_of e) then ended_over last (seen_from (who_of e) s).a (deeds_of e) else last

counts-seen : (who : Who) → IsTrue (is_end who) → (begun_a begun_b : List (List ℕ)) (by_a by_b : ℕ) (s : LineState) (e : Event) → who_of e ≡ who → AreFew begun_a (count_of e) → AreFew begun_b (count_of e) → BothCount begun_a begun_b by_a by_b s
    → BothCount (begun_a ++ begun_event A s e) (begun_b ++ begun_event B s e) (ended_event A by_a s e) (ended_event B by_b s e) (after_event s e)
counts-seen A end begun_a begun_b by_a by_b s e is few_a few_b b =
    rw is (rw (append-nil begun_b) (counts-deeds begun_a begun_b by_a by_b s (deeds_of e) (omega (arith, few_a, deeds-count e)) b))
counts-seen B end begun_a begun_b by_a by_b s e is few_a few_b b =
    let now = counts-deeds begun_b begun_a by_b by_a (swapped s) (deeds_of e) (omega (arith, few_b, deeds-count e)) (both-swapped begun_a begun_b by_a by_b s b) in
    rw is (rw (append-nil begun_a) (record { of_near = now.of_far; of_far = now.of_near }))
counts-seen M end begun_a begun_b by_a by_b s e is few_a few_b b = absurd cc
counts-seen (S station) end begun_a begun_b by_a by_b s e is few_a few_b b = absurd cc

either-few : (test : Bool) (xs : List (List ℕ)) (most : ℕ) → length xs ≤ most → length (if test then xs else []) ≤ most
either-few true xs most few = few
either-few false xs most few = omega arith

event-few : (who : Who) (s : LineState) (e : Event) → length (begun_event who s e) ≤ count_of e
event-few who s e = either-few (is_who who (who_of e)) (begun_over (seen_from (who_of e) s).a (deeds_of e)) (count_of e) (omega (arith, begun-over-few (seen_from (who_of e) s).a (deeds_of e), deeds-count e))

counts-events : (events : List Event) (begun_a begun_b : List (List ℕ)) (by_a by_b : ℕ) (s : LineState) → All IsPossible events → AreFew begun_a (sum_by count_of events) → AreFew begun_b (sum_by count_of events) → BothCount begun_a begun_b by_a by_b s
    → BothCount (begun_a ++ begun_in A s events) (begun_b ++ begun_in B s events) (ended_in A by_a s events) (ended_in B by_b s events) (state_after s events)
counts-events [] begun_a begun_b by_a by_b s possible few_a few_b b = rw (append-nil begun_a, append-nil begun_b) b
counts-events (e ∷ events) begun_a begun_b by_a by_b s possible few_a few_b b =
    let sum = sum_by-cons count_of e events in
    let new_a = begun_event A s e in
    let new_b = begun_event B s e in
    let now = counts-seen (who_of e) (end-of e (All-head IsPossible e events possible)) begun_a begun_b by_a by_b s e refl (omega (arith, few_a, sum)) (omega (arith, few_b, sum)) b in
    let more_a : AreFew (begun_a ++ new_a) (sum_by count_of events) = omega (arith, few_a, sum, length-append begun_a new_a, event-few A s e) in
    let more_b : AreFew (begun_b ++ new_b) (sum_by count_of events) = omega (arith, few_b, sum, length-append begun_b new_b, event-few B s e) in
    rw (sym (append_assoc begun_a new_a (begun_in A (after_event s e) events)), sym (append_assoc begun_b new_b (begun_in B (after_event s e) events)))
    (counts-events events (begun_a ++ new_a) (begun_b ++ new_b) (ended_event A by_a s e) (ended_event B by_b s e) (after_event s e) (All-tail IsPossible e events possible) more_a more_b now)

-- ---- a run

counts-start : (setup : Setup) (node : NodeState) → Counts [] 0 (record { end = new_end setup node; lane = [] })
counts-start setup node = record {
  open_end = record { joined = new-joined setup node; count = refl; last = λ is. absurd cc; rise = omega arith; before = λ is. absurd cc };
  bodies = tt;
}

run-counts : (script : Script) → IsPlayable script
    → BothCount (begun_in A (start script) script.events) (begun_in B (start script) script.events) (ended_in A 0 (start script) script.events) (ended_in B 0 (start script) script.events) (last_state script)
run-counts script playable =
    counts-events script.events [] [] 0 0 (start script) playable.events (omega (arith, playable.sum)) (omega (arith, playable.sum)) (record {
      of_near = counts-start (setup_of script.check (plan_of_a script)) (first_node (plan_of_a script));
      of_far = counts-start (setup_of script.check (plan_of_b script)) (first_node (plan_of_b script));
    })

counted : (begun : List (List ℕ)) (heard : ℕ) (side : LineEndState) → Counts begun heard side → AreCounted begun heard side
counted begun heard side c = record { rise = c.open_end.rise; bodies = c.bodies }

pub counted-a : (script : Script) → IsPlayable script → AreCounted (begun_in A (start script) script.events) (ended_in A 0 (start script) script.events) (last_state script).a
counted-a script playable = counted _ _ _ (run-counts script playable).of_near

pub counted-b : (script : Script) → IsPlayable script → AreCounted (begun_in B (start script) script.events) (ended_in B 0 (start script) script.events) (last_state script).b
counted-b script playable = counted _ _ _ (run-counts script playable).of_far
