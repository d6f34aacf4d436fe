-- From a quiet state on, over steps that lose, alter and add no byte: once an end has accepted a message, its decoder is in step with the other end.
use Rattle.std.proofs.Common.{◌≡◌, ℕ, ◌+◌, true, List, [], ◌∷◌, ◌++◌, drop, Option, Some, None, refl, sym, subst, append-nil, append_assoc, arith, inl, inr}
use Rattle.std.specs.Prelude.{◌⊎◌, ◌&&◌, not, slice_get}
use Rattle.std.specs.Option.{option_map}
use Rattle.df1_base.specs.declared.link.Act.TheVariants as act
use Rattle.df1_frame.specs.Standing.{Standing, Decoding}
use Rattle.df1_frame.specs.Step.{next}
use Rattle.df1_node.specs.Node.{NodeState}
use Rattle.duplex_sender.specs.Sender.{phase_of, on_tick, tick_turn}
use Rattle.duplex_receiver.specs.Receiver.{ReceiverState, hearing, response_for}
use Rattle.embedded_response.specs.Giving.{Giving}
use Rattle.duplex_end.specs.End.{EndState, sender_after, responded, asked, is_waiting, act_of_byte, end_after_byte, end_after_tick, turn_at_tick, gone_at_tick}
use Rattle.duplex_end.proofs.Runs.{take-receiver}
use Rattle.script_statement.specs.declared.who.Who.{Who}
use Rattle.replay_report.specs.declared.record.Line.{Line}
use Rattle.report_lines.specs.NodeLines.{turn_lines, gone_lines}
use Rattle.lane_cells.specs.Cells.{LaneCell, Ending, altered}
use Rattle.each_once.specs.NodeHost.{node_host}
use Rattle.each_once.proofs.ToldLines.{silent-both}
use Rattle.duplex_line.specs.Acts.{LineEndState, LineState, swapped, Deed, Issue, Take, Deliver, Lose, Alter, Foreign, Tick, after_cell, cell_lines, body_heard, deceptions_at, arriving, after_deed, after_deeds, lines_at, lines_over}
use Rattle.duplex_line.specs.Certified.{AreGentle}
use Rattle.duplex_line.specs.Prompt.{IsGentle}
use Rattle.duplex_line.specs.Rest.{is_between}
use Rattle.duplex_line.proofs.Once.ArrivingCell.{accept-new}
use Rattle.duplex_line.proofs.Once.Invariant.{AreTwo}
use Rattle.duplex_line.proofs.Once.LineSteps.{tick-silent}
use Rattle.duplex_line.proofs.Once.SentMessages.{accept-heard}
use Rattle.duplex_line.proofs.Once.WholeRun.{earlier}
use Rattle.duplex_line.proofs.Certified.GivenBytes.{InStep, EndsBetween}
use Rattle.duplex_line.proofs.Certified.LaneInStep.{Leads, leads-other, leads-take, response-in-step, dropped-in-step, asked-in-step, AreAlike, alike-next, good-between}
use Rattle.duplex_line.proofs.Certified.SilentLines.{TellNothing, accepts-or-nothing, other-nothing}

-- ---- one direction

-- A decoder is imagined that was between items at the quiet state, and that has heard since what the end has: the giver and the lane
-- lead it. The end's own decoder is as that one, or the lines since then tell of no message that the end accepted.
pub record Direction (who : Who) (lines : List Line) (cells : List LaneCell) (g : Giving) (d : Decoding) : Type 0 where
  pub imagined : Decoding
  pub same_check : imagined.check ≡ d.check
  pub leads : Leads imagined cells g
  pub alike : TellNothing who lines ⊎ AreAlike imagined.standing d.standing

-- more lines that tell nothing
tells-more : {P : Type 0} (who : Who) (lines more : List Line) → TellNothing who more → TellNothing who lines ⊎ P → TellNothing who (lines ++ more) ⊎ P
tells-more who lines more nothing (inl none) = inl (silent-both who who lines more none nothing)
tells-more who lines more nothing (inr p) = inr p

more-lines : (who : Who) (lines more : List Line) (cells : List LaneCell) (g : Giving) (d : Decoding) → TellNothing who more → Direction who lines cells g d → Direction who (lines ++ more) cells g d
more-lines who lines more cells g d nothing h = record { imagined = h.imagined; same_check = h.same_check; leads = h.leads; alike = tells-more who lines more nothing h.alike }

-- the giver has something else to give
other-mouth : (who : Who) (lines : List Line) (cells : List LaneCell) (g after : Giving) (d : Decoding) → ((d : Decoding) → InStep g d → InStep after d) → Direction who lines cells g d → Direction who lines cells after d
other-mouth who lines cells g after d goes h = record { imagined = h.imagined; same_check = h.same_check; leads = leads-other h.imagined cells g after goes h.leads; alike = h.alike }

-- ---- a cell arrives

some-ends : (o : Option Ending) (body : List ℕ) (at : Standing) → option_map (λ (e : Ending). e.body) o ≡ Some body → EndsBetween o at → is_between at ≡ true
some-ends None body at is ends = absurd cc
some-ends (Some e) body at is ends = ends

-- where the end accepts, a transmission ends, and both decoders are between items
accepts-alike : (b : LineEndState) (cell : LaneCell) (d : Decoding) → deceptions_at b cell ≡ 0 → EndsBetween cell.ends (next 250 d cell.byte).0.standing → act_of_byte node_host b.end cell.byte ≡ act.Accept
    → AreAlike (next 250 d cell.byte).0.standing (next 250 b.end.receiver.decoding cell.byte).0.standing
accepts-alike b cell d none ends accepts =
    let own = b.end.receiver.decoding in
    let heard = accept-heard b.end.receiver.kept (hearing (node_host.room_for b.end.host) 250 b.end.receiver cell.byte) accepts in
    inr (some-ends cell.ends (body_heard b cell) (next 250 d cell.byte).0.standing (accept-new b cell none accepts).0 ends, good-between own.check own.standing cell.byte heard.0)

arrives-alike : (who : Who) (lines : List Line) (b : LineEndState) (cell : LaneCell) (d : Decoding) → deceptions_at b cell ≡ 0 → d.check ≡ b.end.receiver.decoding.check → EndsBetween cell.ends (next 250 d cell.byte).0.standing
    → TellNothing who (cell_lines who b cell) ⊎ (act_of_byte node_host b.end cell.byte ≡ act.Accept) → TellNothing who lines ⊎ AreAlike d.standing b.end.receiver.decoding.standing
    → TellNothing who (lines ++ cell_lines who b cell) ⊎ AreAlike (next 250 d cell.byte).0.standing (next 250 b.end.receiver.decoding cell.byte).0.standing
arrives-alike who lines b cell d none check ends what (inr alike) = inr (alike-next d b.end.receiver.decoding cell.byte check alike)
arrives-alike who lines b cell d none check ends (inl nothing) (inl before) = inl (silent-both who who lines (cell_lines who b cell) before nothing)
arrives-alike who lines b cell d none check ends (inr accepts) (inl before) = inr (accepts-alike b cell d none ends accepts)

arrives : (who : Who) (lines : List Line) (cell : LaneCell) (cells : List LaneCell) (g : Giving) (b : LineEndState) → deceptions_at b cell ≡ 0 → Direction who lines (cell ∷ cells) g b.end.receiver.decoding
    → Direction who (lines ++ cell_lines who b cell) cells g (after_cell b cell).end.receiver.decoding
arrives who lines cell cells g b none h = record {
  imagined = (next 250 h.imagined cell.byte).0;
  same_check = h.same_check;
  leads = h.leads.1;
  alike = arrives-alike who lines b cell h.imagined none h.same_check h.leads.0 (accepts-or-nothing who (act_of_byte node_host b.end cell.byte) b.end.sender b.end.host (body_heard b cell)) h.alike;
}

-- what the end itself has to give then
byte-in-step : (e : EndState NodeState) (byte : ℕ) (d : Decoding) → InStep e.mouth d → InStep (end_after_byte node_host e byte).mouth d
byte-in-step e byte d s =
    let what = act_of_byte node_host e byte in
    dropped-in-step (is_waiting (phase_of e.sender) && not (is_waiting (phase_of (sender_after what e.sender)))) (responded what e.mouth) d (response-in-step (response_for what) e.mouth d s)

-- ---- both directions

pub record BothWays (near far : Who) (s : LineState) (lines : List Line) : Type 0 where
  pub way : Direction far lines s.a.lane s.a.end.mouth s.b.end.receiver.decoding
  pub back : Direction near lines s.b.lane s.b.end.mouth s.a.end.receiver.decoding

pub ways-swapped : (near far : Who) (s : LineState) (lines : List Line) → BothWays near far s lines → BothWays far near (swapped s) lines
ways-swapped near far s lines h = record { way = h.back; back = h.way }

-- lines of a deed that tell nothing
pub ways-silent : (near far : Who) (s : LineState) (lines more : List Line) → TellNothing near more → TellNothing far more → BothWays near far s lines → BothWays near far s (lines ++ more)
ways-silent near far s lines more near_nothing far_nothing h = record {
  way = more-lines far lines more s.a.lane s.a.end.mouth s.b.end.receiver.decoding far_nothing h.way;
  back = more-lines near lines more s.b.lane s.b.end.mouth s.a.end.receiver.decoding near_nothing h.back;
}

ways-take : (near far : Who) (s : LineState) (lines : List Line) → BothWays near far s lines → BothWays near far (after_deed s Take) lines
ways-take near far s lines h = record {
  way = record { imagined = h.way.imagined; same_check = h.way.same_check; leads = leads-take s.a.end h.way.imagined s.a.lane h.way.leads; alike = h.way.alike };
  back = subst (λ (r : ReceiverState). Direction near lines s.b.lane s.b.end.mouth r.decoding) (sym (take-receiver node_host s.a.end)) h.back;
}

ways-tick : (near far : Who) (s : LineState) (lines : List Line) → BothWays near far s lines → BothWays near far (after_deed s Tick) (lines ++ lines_at near far s Tick)
ways-tick near far s lines h =
    let e = s.a.end in
    let more = turn_lines near (turn_at_tick node_host e) ++ gone_lines near (gone_at_tick node_host e) in
    let same : more ++ [] ≡ more = append-nil more in
    let goes : (d : Decoding) → InStep e.mouth d → InStep (end_after_tick node_host e).mouth d =
    λ d s. dropped-in-step (is_waiting (phase_of e.sender) && not (is_waiting (phase_of (on_tick e.sender)))) (asked (tick_turn e.sender) e.mouth) d (asked-in-step (tick_turn e.sender) e.mouth d s) in
    let ticked : BothWays near far (after_deed s Tick) lines = record { way = other-mouth far lines s.a.lane e.mouth (end_after_tick node_host e).mouth s.b.end.receiver.decoding goes h.way; back = h.back } in
    rw same (ways-silent near far (after_deed s Tick) lines more (tick-silent near near near e) (tick-silent far far near e) ticked)

-- the head of a lane arrives
abbrev with_cells : LineState → List LaneCell → LineState
with_cells s cells = record { a = record { end = s.a.end; lane = cells }; b = s.b; deceived = s.deceived }

plus-none : (n m : ℕ) → n + m ≡ 0 → m ≡ 0
plus-none n m is = omega (arith, is)

deliver-cells : (near far : Who) → AreTwo near far → (s : LineState) (cells : List LaneCell) (lines : List Line) → (after_deed (with_cells s cells) Deliver).deceived ≡ 0 → BothWays near far (with_cells s cells) lines
    → BothWays near far (after_deed (with_cells s cells) Deliver) (lines ++ lines_at near far (with_cells s cells) Deliver)
deliver-cells near far two s [] lines none h = rw (append-nil lines) h
deliver-cells near far two s (cell ∷ cells) lines none h =
    let b = s.b in
    let told = cell_lines far b cell in
    let nothing = other-nothing near far two.other (act_of_byte node_host b.end cell.byte) b.end.sender b.end.host (body_heard b cell) in
    record {
      way = arrives far lines cell cells s.a.end.mouth b (plus-none s.deceived (deceptions_at b cell) none) h.way;
      back = more-lines near lines told b.lane (after_cell b cell).end.mouth s.a.end.receiver.decoding nothing
          (other-mouth near lines b.lane b.end.mouth (after_cell b cell).end.mouth s.a.end.receiver.decoding (byte-in-step b.end cell.byte) h.back);
    }

-- nothing is lost or altered of an empty lane
none-lost : (cells : List LaneCell) → slice_get cells 0 ≡ None → drop 1 cells ≡ cells
none-lost [] none = refl
none-lost (cell ∷ cells) none = absurd cc

none-altered : (mask : ℕ) (cells : List LaneCell) → slice_get cells 0 ≡ None → altered mask cells ≡ cells
none-altered mask [] none = refl
none-altered mask (cell ∷ cells) none = absurd cc

-- ---- a step

pub ways-deed : (near far : Who) → AreTwo near far → (s : LineState) (deed : Deed) (lines : List Line) → IsGentle s.a deed → (after_deed s deed).deceived ≡ 0 → BothWays near far s lines → BothWays near far (after_deed s deed) (lines ++ lines_at near far s deed)
ways-deed near far two s (Issue src dst payload) lines gentle none h = rw (append-nil lines) (record { way = h.way; back = h.back })
ways-deed near far two s Take lines gentle none h = rw (append-nil lines) (ways-take near far s lines h)
ways-deed near far two s Deliver lines gentle none h = deliver-cells near far two s s.a.lane lines none h
ways-deed near far two s Lose lines gentle none h = rw (append-nil lines) (subst (λ (cells : List LaneCell). BothWays near far (with_cells s cells) lines) (sym (none-lost s.a.lane gentle)) h)
ways-deed near far two s (Alter mask) lines gentle none h = rw (append-nil lines) (subst (λ (cells : List LaneCell). BothWays near far (with_cells s cells) lines) (sym (none-altered mask s.a.lane gentle)) h)
ways-deed near far two s (Foreign byte) lines gentle none h = absurd gentle
ways-deed near far two s Tick lines gentle none h = ways-tick near far s lines h

-- as long as no end was deceived
abbrev pub WaysUnless : Who → Who → LineState → List Line → Type 0
WaysUnless near far s lines = s.deceived ≡ 0 → BothWays near far s lines

pub ways-deeds : (near far : Who) → AreTwo near far → (s : LineState) (deeds : List Deed) (lines : List Line) → AreGentle s deeds → WaysUnless near far s lines → WaysUnless near far (after_deeds s deeds) (lines ++ lines_over near far s deeds)
ways-deeds near far two s [] lines gentle h = rw (append-nil lines) h
ways-deeds near far two s (deed ∷ deeds) lines gentle h =
    let one : WaysUnless near far (after_deed s deed) (lines ++ lines_at near far s deed) = λ none. ways-deed near far two s deed lines gentle.0 none (h (earlier s.deceived s.b (arriving s.a deed) none)) in
    let more = ways-deeds near far two (after_deed s deed) deeds (lines ++ lines_at near far s deed) gentle.1 one in
    subst (λ (all : List Line). WaysUnless near far (after_deeds (after_deed s deed) deeds) all) (append_assoc lines (lines_at near far s deed) (lines_over near far (after_deed s deed) deeds)) more
