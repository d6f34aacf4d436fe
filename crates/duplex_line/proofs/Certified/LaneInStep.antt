-- A lane of which each transmission ends where a decoder is between items, and a decoder that is as another one from the end of a transmission on.
use Rattle.std.proofs.Common.{◌≡◌, ℕ, ◌+◌, Bool, true, false, List, [], ◌∷◌, ◌++◌, length, is_none, Option, Some, None, refl, ap, ap₂, sym, subst, ◌∙◌, append-nil, inl, inr}
use Rattle.std.specs.Prelude.{◌⊎◌, ◌==◌, ◌||◌, if◌then◌else◌, nat_lt, option_to_list}
use Rattle.std.specs.Option.{option_map}
use Rattle.df1_base.specs.declared.link.Out.{Out}
use Rattle.df1_check.specs.declared.Check.{Check}
use Rattle.df1_frame.specs.declared.heard.Heard.{Heard}
use Rattle.df1_frame.specs.declared.heard.Heard.TheVariants as heard
use Rattle.df1_frame.specs.Gathered.{Gathered, nothing_gathered, gather, close, verdict}
use Rattle.df1_frame.specs.Spelling.{check_len, response}
use Rattle.df1_frame.specs.Standing.{Standing, Outside, Ended, AfterDle, Inside, InsideDle, AtCheck, Decoding}
use Rattle.df1_frame.specs.Step.{left_by, outside_next, response_next, step, next}
use Rattle.duplex_sender.specs.declared.Phase.{Phase}
use Rattle.duplex_sender.specs.declared.Phase.TheVariants as phase
use Rattle.duplex_sender.specs.declared.SendTurn.{SendTurn}
use Rattle.duplex_sender.specs.declared.SendTurn.TheVariants as turn
use Rattle.duplex_sender.specs.Sender.{phase_of, body_of}
use Rattle.duplex_receiver.specs.Receiver.{Response, Offers, Forgets, Again, Silent, is_good}
use Rattle.embedded_response.specs.Giving.{Giving, Choice, Second, Respond, Give, Enquire, offer, forget, answer_enq, unask, begin, chosen, given, take}
use Rattle.duplex_end.specs.End.{EndState, asked, begun_at, begun_next, prepared, end_after_take, out_at_take}
use Rattle.duplex_end.proofs.Order.{end-is, out-is}
use Rattle.df1_node.specs.Node.{NodeState, next_body}
use Rattle.lane_cells.specs.Cells.{LaneCell, cell_of, ending_of}
use Rattle.each_once.specs.NodeHost.{node_host}
use Rattle.each_once.proofs.Sublists.{none-is}
use Rattle.duplex_line.specs.Rest.{is_between}
use Rattle.duplex_line.proofs.Certified.GivenBytes.{InStep, EndsBetween, left-between, step-take, step-begin}

-- ---- a lane

-- a decoder that hears these cells is between items where a transmission ends, and after them it is in step with their giver
abbrev pub Leads : Decoding → List LaneCell → Giving → Type 0
Leads d [] g = InStep g d
Leads d (cell ∷ cells) g = EndsBetween cell.ends (next 250 d cell.byte).0.standing × Leads (next 250 d cell.byte).0 cells g

-- what the giver has to give changes, and no byte is given
pub leads-other : (d : Decoding) (cells : List LaneCell) (g h : Giving) → ((d : Decoding) → InStep g d → InStep h d) → Leads d cells g → Leads d cells h
leads-other d [] g h goes l = goes d l
leads-other d (cell ∷ cells) g h goes l = (l.0, leads-other (next 250 d cell.byte).0 cells g h goes l.1)

cell-ends : (sending : List ℕ) (last : Option ℕ) (at : Standing) → EndsBetween last at → EndsBetween (option_map (ending_of sending) last) at
cell-ends sending None at ends = tt
cell-ends sending (Some number) at ends = ends

-- a byte is given
leads-give : (d : Decoding) (cells : List LaneCell) (g : Giving) (sending : List ℕ) (out : Out) → (take g).1 ≡ Some out → Leads d cells g → Leads d (cells ++ cell_of sending out ∷ []) (take g).0
leads-give d [] g sending out is l = let s = step-take g d out l is in (cell-ends sending out.last_of (next 250 d out.byte).0.standing s.1, s.0)
leads-give d (cell ∷ cells) g sending out is l = (l.0, leads-give (next 250 d cell.byte).0 cells g sending out is l.1)

none-given : (g : Giving) (c : Option Choice) → (given g c).1 ≡ None → (given g c).0 ≡ g
none-given g None none = refl
none-given g (Some (Second out)) none = absurd cc
none-given g (Some (Respond r)) none = absurd cc
none-given g (Some (Give unit)) none = absurd cc
none-given g (Some Enquire) none = absurd cc

-- a byte is given, if any is
leads-given : (d : Decoding) (cells : List LaneCell) (g : Giving) (sending : List ℕ) (o : Option Out) → (take g).1 ≡ o → Leads d cells g → Leads d (cells ++ option_to_list (option_map (cell_of sending) o)) (take g).0
leads-given d cells g sending None is l = rw (append-nil cells) (subst (Leads d cells) (sym (none-given g (chosen g) is)) l)
leads-given d cells g sending (Some out) is l = leads-give d cells g sending out is l

leads-begun : (e : EndState NodeState) (d : Decoding) (cells : List LaneCell) (p : Phase) (next : Option (List ℕ)) → chosen e.mouth ≡ None → Leads d cells e.mouth → Leads d cells (begun_at node_host e p next).mouth
leads-begun e d cells phase.Idle None none l = l
leads-begun e d cells phase.Idle (Some body) none l = leads-other d cells e.mouth (begin e.mouth body) (λ d s. step-begin e.mouth d body none s) l
leads-begun e d cells phase.Sending next none l = leads-other d cells e.mouth (begin e.mouth (body_of e.sender)) (λ d s. step-begin e.mouth d (body_of e.sender) none s) l
leads-begun e d cells phase.Waiting next none l = l

leads-prepared : (e : EndState NodeState) (d : Decoding) (cells : List LaneCell) (idle : Bool) → is_none (chosen e.mouth) ≡ idle → Leads d cells e.mouth → Leads d cells (if idle then begun_next node_host e else e).mouth
leads-prepared e d cells true is l = leads-begun e d cells (phase_of e.sender) (next_body e.host) (none-is (chosen e.mouth) is) l
leads-prepared e d cells false is l = l

-- a take of the giver
pub leads-take : (e : EndState NodeState) (d : Decoding) (cells : List LaneCell) → Leads d cells e.mouth
    → Leads d (cells ++ option_to_list (option_map (cell_of (end_after_take node_host e).sending) (out_at_take node_host e))) (end_after_take node_host e).mouth
leads-take e d cells l =
    let p = prepared node_host e in
    let sending = (end_after_take node_host e).sending in
    let out = out_at_take node_host e in
    subst (Leads d (cells ++ option_to_list (option_map (cell_of sending) out))) (sym (ap (λ (x : EndState NodeState). x.mouth) (end-is node_host e)))
    (leads-given d cells p.mouth sending out (sym (out-is node_host e)) (leads-prepared e d cells (is_none (chosen e.mouth)) refl l))

-- what is put in begins no frame
pub response-in-step : (r : Response) (g : Giving) (d : Decoding) → InStep g d → InStep (elim r [ Offers resp ↦ offer g resp | Forgets ↦ forget g | Again ↦ answer_enq g | Silent ↦ g ]) d
response-in-step (Offers resp) g d s = s
response-in-step Forgets g d s = s
response-in-step Again g d s = s
response-in-step Silent g d s = s

pub dropped-in-step : (leaves : Bool) (g : Giving) (d : Decoding) → InStep g d → InStep (if leaves then unask g else g) d
dropped-in-step true g d s = s
dropped-in-step false g d s = s

pub asked-in-step : (t : SendTurn) (g : Giving) (d : Decoding) → InStep g d → InStep (asked t g) d
asked-in-step turn.Still g d s = s
asked-in-step turn.Ask g d s = s
asked-in-step turn.Failed g d s = s

-- ---- two decoders

-- they stand at the same place, or both are between items
abbrev pub AreAlike : Standing → Standing → Type 0
AreAlike at other = (at ≡ other) ⊎ ((is_between at ≡ true) × (is_between other ≡ true))

between-step : (check : Check) (at : Standing) (byte : ℕ) → is_between at ≡ true → step check 250 at byte ≡ outside_next byte
between-step check Outside byte is = refl
between-step check (Ended body) byte is = refl
between-step check AfterDle byte is = absurd cc
between-step check (Inside so_far) byte is = absurd cc
between-step check (InsideDle so_far) byte is = absurd cc
between-step check (AtCheck so_far bytes) byte is = absurd cc

-- so they do after one byte more
pub alike-next : (d e : Decoding) (byte : ℕ) → d.check ≡ e.check → AreAlike d.standing e.standing → AreAlike (next 250 d byte).0.standing (next 250 e byte).0.standing
alike-next d e byte check (inl same) = inl (ap₂ (λ (c : Check) (at : Standing). (step c 250 at byte).0) check same)
alike-next d e byte check (inr both) = inl (ap (λ (to : Standing × Option Heard). to.0) (between-step d.check d.standing byte both.0 ∙ sym (between-step e.check e.standing byte both.1)))

pub alike-between : (at other : Standing) → AreAlike at other → is_between at ≡ true → is_between other ≡ true
alike-between at other (inl same) between = sym (ap is_between same) ∙ between
alike-between at other (inr both) between = both.1

-- ---- where a whole frame is heard

-- a decoder that hears a whole frame is between items
abbrev GoodBetween : Standing × Option Heard → Type 0
GoodBetween to = is_good to.1 ≡ true → is_between to.0 ≡ true

response-good : (so_far : Gathered) (byte : ℕ) → GoodBetween (response_next so_far byte (response byte))
response-good so_far byte = by-code (byte == 6) ((byte == 21) || (byte == 15))
  where
    by-code : (ack nak : Bool) → GoodBetween (response_next so_far byte (if ack then Some heard.Ack else (if nak then Some heard.Nak else None)))
    by-code true nak good = absurd cc
    by-code false true good = absurd cc
    by-code false false good = absurd cc

pub good-between : (check : Check) (at : Standing) (byte : ℕ) → GoodBetween (step check 250 at byte)
good-between check Outside byte = outside (byte == 16)
  where
    outside : (dle : Bool) → GoodBetween (if dle then (AfterDle, None) else (Outside, Some (heard.Stray byte)))
    outside true good = absurd cc
    outside false good = refl
good-between check (Ended body) byte = outside (byte == 16)
  where
    outside : (dle : Bool) → GoodBetween (if dle then (AfterDle, None) else (Outside, Some (heard.Stray byte)))
    outside true good = absurd cc
    outside false good = refl
good-between check AfterDle byte = after-dle (byte == 2) _
  where
    after-dle : (opens : Bool) (what : Option Heard) → GoodBetween (if opens then (Inside (nothing_gathered check), None) else (Outside, what))
    after-dle true what good = absurd cc
    after-dle false what good = refl
good-between check (Inside so_far) byte = inside (byte == 16)
  where
    inside : (dle : Bool) → GoodBetween (if dle then (InsideDle so_far, None) else (Inside (gather 250 so_far byte), None))
    inside true good = absurd cc
    inside false good = absurd cc
good-between check (InsideDle so_far) byte = inside-dle (byte == 2) (byte == 3) (byte == 16)
  where
    inside-dle : (restarts ends doubled : Bool) → GoodBetween (if restarts then (Inside (nothing_gathered check), Some heard.Restart) else (if ends then (AtCheck (close check so_far) [], None) else (if doubled then (Inside (gather 250 so_far 16), None) else response_next so_far byte (response byte))))
    inside-dle true ends doubled good = absurd cc
    inside-dle false true doubled good = absurd cc
    inside-dle false false true good = absurd cc
    inside-dle false false false good = response-good so_far byte good
good-between check (AtCheck so_far bytes) byte = at-check (nat_lt (length bytes + 1) (check_len check))
  where
    at-check : (goes : Bool) → GoodBetween (if goes then (AtCheck so_far (bytes ++ byte ∷ []), None) else (left_by so_far, Some (verdict check so_far (bytes ++ byte ∷ []))))
    at-check true good = absurd cc
    at-check false good = left-between so_far
