-- An end that has nothing to give, and an empty lane: nothing comes of more steps.
use Rattle.std.proofs.Common.{◌≡◌, ◌∙◌, ℕ, ◌+◌, zero, suc, List, [], ◌∷◌, ◌++◌, drop, Option, Some, None, refl, sym, ap, append-nil}
use Rattle.std.specs.Prelude.{replicate, slice_get}
use Rattle.std.specs.Option.{option_map, option_to_list}
use Rattle.df1_base.specs.declared.link.Out.{Out}
use Rattle.df1_node.specs.Node.{NodeState}
use Rattle.duplex_end.specs.End.{EndState, out_at_take}
use Rattle.script_statement.specs.declared.who.Who.{Who}
use Rattle.lane_cells.specs.Cells.{LaneCell}
use Rattle.each_once.specs.NodeHost.{node_host}
use Rattle.lane_cells.specs.Cells.{cell_of}
use Rattle.duplex_line.specs.Acts.{LineEndState, LineState, Deed, Take, Deliver, Lose, byte_taken, after_take, after_leaving, after_cell, after_arrival, cell_lines, arrival_lines, deceptions_at, deceived_after, after_deed, after_deeds, lines_over, given_over}
use Rattle.duplex_line.specs.Steps.{near_over}
use Rattle.duplex_line.proofs.Steps.IdleTake.{take-nothing}
use Rattle.duplex_line.proofs.Steps.UnitSteps.{still}

none-out : (out : Option Out) → option_map (λ (o : Out). o.byte) out ≡ None → out ≡ None
none-out None e = refl
none-out (Some out) e = cc

pub take-none : (s : LineEndState) → byte_taken s ≡ None → after_take s ≡ s
take-none s e =
    let nothing = none-out (out_at_take node_host s.end) e in
    let same = take-nothing node_host s.end nothing in
    let side : EndState NodeState → Option Out → LineEndState = λ end out. record { end = end; lane = s.lane ++ option_to_list (option_map (cell_of end.sending) out) } in
    ap (λ (end : EndState NodeState). side end (out_at_take node_host s.end)) same
    ∙ ap (side s.end) nothing
    ∙ ap (λ (lane : List LaneCell). let after : LineEndState = record { end = s.end; lane = lane } in after) (append-nil s.lane)

-- an end that has nothing to give stays as it is
pub takes-none : (s : LineEndState) → byte_taken s ≡ None → (n : ℕ) → near_over s (replicate n Take) ≡ s
takes-none s e n = still Take s (take-none s e) n

pub gives-nothing : (s : LineEndState) → byte_taken s ≡ None → (n : ℕ) → given_over s (replicate n Take) ≡ []
gives-nothing s e zero = refl
gives-nothing s e (suc n) =
    ap (λ (byte : Option ℕ). option_to_list byte ++ given_over (after_take s) (replicate n Take)) e
    ∙ ap (λ (t : LineEndState). given_over t (replicate n Take)) (take-none s e)
    ∙ gives-nothing s e n

-- nothing is lost of an empty lane
leaving-none : (s : LineEndState) (lane : List LaneCell) → s.lane ≡ lane → slice_get lane 0 ≡ None → after_leaving s ≡ s
leaving-none s [] e none = ap (λ (cells : List LaneCell). let after : LineEndState = record { end = s.end; lane = cells } in after) (ap (λ (cells : List LaneCell). drop 1 cells) e ∙ sym e)
leaving-none s (cell ∷ cells) e none = absurd cc

pub leave-none : (s : LineEndState) → slice_get s.lane 0 ≡ None → after_leaving s ≡ s
leave-none s none = leaving-none s s.lane refl none

pub loses-none : (s : LineEndState) → slice_get s.lane 0 ≡ None → (n : ℕ) → near_over s (replicate n Lose) ≡ s
loses-none s e n = still Lose s (leave-none s e) n

-- nothing arrives of an empty lane
deliver-none : (s : LineState) → slice_get s.a.lane 0 ≡ None → after_deed s Deliver ≡ s
deliver-none s e =
    ap (λ (cell : Option LaneCell). let after : LineState = record { a = after_leaving s.a; b = after_arrival s.b cell; deceived = deceived_after s.deceived s.b cell } in after) e
    ∙ ap (λ (a : LineEndState). let after : LineState = record { a = a; b = s.b; deceived = s.deceived } in after) (leave-none s.a e)

pub delivers-none : (s : LineState) → slice_get s.a.lane 0 ≡ None → (n : ℕ) → after_deeds s (replicate n Deliver) ≡ s
delivers-none s e zero = refl
delivers-none s e (suc n) = ap (λ (t : LineState). after_deeds t (replicate n Deliver)) (deliver-none s e) ∙ delivers-none s e n

pub delivers-no-lines : (near far : Who) (s : LineState) → slice_get s.a.lane 0 ≡ None → (n : ℕ) → lines_over near far s (replicate n Deliver) ≡ []
delivers-no-lines near far s e zero = refl
delivers-no-lines near far s e (suc n) =
    ap (λ (cell : Option LaneCell). arrival_lines far s.b cell ++ lines_over near far (after_deed s Deliver) (replicate n Deliver)) e
    ∙ ap (λ (t : LineState). lines_over near far t (replicate n Deliver)) (deliver-none s e)
    ∙ delivers-no-lines near far s e n

-- ---- the head of a lane arrives

-- the line after a cell has arrived
abbrev pub delivered : LineState → LaneCell → LineState
delivered s cell = record { a = after_leaving s.a; b = after_cell s.b cell; deceived = s.deceived + deceptions_at s.b cell }

pub deliver-one : (s : LineState) (cell : LaneCell) → slice_get s.a.lane 0 ≡ Some cell → after_deed s Deliver ≡ delivered s cell
deliver-one s cell e = ap (λ (head : Option LaneCell). let after : LineState = record { a = after_leaving s.a; b = after_arrival s.b head; deceived = deceived_after s.deceived s.b head } in after) e

pub deliver-lines : (from to : Who) (s : LineState) (cell : LaneCell) (more : List Deed) → slice_get s.a.lane 0 ≡ Some cell →
    lines_over from to s (Deliver ∷ more) ≡ cell_lines to s.b cell ++ lines_over from to (delivered s cell) more
deliver-lines from to s cell more e =
    ap (λ (head : Option LaneCell). arrival_lines to s.b head ++ lines_over from to (after_deed s Deliver) more) e
    ∙ ap (λ (t : LineState). cell_lines to s.b cell ++ lines_over from to t more) (deliver-one s cell e)

-- ---- a byte is given

pub gives-byte : (s : LineEndState) (byte : ℕ) (more : List Deed) → byte_taken s ≡ Some byte → given_over s (Take ∷ more) ≡ byte ∷ given_over (after_take s) more
gives-byte s byte more e = ap (λ (given : Option ℕ). option_to_list given ++ given_over (after_take s) more) e
