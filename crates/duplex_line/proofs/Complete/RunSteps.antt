-- Over the events of a run that nothing disturbs from some point on: what holds there stays.
use Rattle.std.proofs.Common.{◌≡◌, ◌∙◌, ℕ, ◌+◌, ◌-◌, ◌^◌, ◌<◌, ◌≤◌, Bool, true, false, not, List, [], ◌∷◌, ◌++◌, map, Option, Some, None, refl, ap, sym, subst, arith, append-nil, append_assoc, length, is_none, is_some, inl, inr}
use Rattle.std.specs.Prelude.{IsTrue, All, ◌⊎◌, ◌&&◌, bit_xor, replicate, count_by, sum_by, slice_get, if◌then◌else◌}
use Rattle.std.proofs.lemmas.List.{length-map, length-replicate}
use Rattle.std.proofs.lemmas.List.Sums.{sum_by-append}
use Rattle.std.proofs.lemmas.List.Elements.{All-head, All-tail}
use Rattle.df1_node.specs.Node.{NodeState, next_body}
use Rattle.duplex_sender.specs.declared.Phase.{Phase}
use Rattle.duplex_sender.specs.declared.Phase.TheVariants as phase
use Rattle.duplex_sender.specs.declared.SendTurn.{SendTurn}
use Rattle.duplex_sender.specs.declared.SendTurn.TheVariants as turn
use Rattle.duplex_sender.specs.Sender.{phase_of, on_tick, tick_turn}
use Rattle.duplex_receiver.specs.Receiver.{Response, Offers, Forgets, Again, Silent, response_for}
use Rattle.embedded_response.specs.Giving.{Giving, chosen, offer, forget, answer_enq}
use Rattle.duplex_end.specs.End.{EndState, sender_after, responded, is_waiting, asked, act_of_byte, end_after_byte, end_after_tick, begun_at, begun_next}
use Rattle.each_once.specs.NodeHost.{node_host}
use Rattle.script_statement.specs.declared.who.Who.{Who}
use Rattle.script_statement.specs.declared.who.Who.TheVariants.{A, B, M, S}
use Rattle.script_parts.specs.declared.script.Event.{Event}
use Rattle.script_parts.specs.declared.script.Event.TheVariants as event
use Rattle.script_statement.specs.Statements.{is_payload}
use Rattle.script_parts.specs.Playable.{IsPossible, issues, is_end, count_of}
use Rattle.replay_report.specs.declared.record.Line.{Line}
use Rattle.replay_report.specs.Report.{sent_lines}
use Rattle.lane_cells.specs.Cells.{LaneCell}
use Rattle.lane_cells.specs.Cells.{altered}
use Rattle.duplex_line.specs.Acts.{LineEndState, LineState, swapped, Deed, Issue, Take, Deliver, Lose, Alter, Foreign, Tick, after_leaving, near_after, after_arrival, arriving, after_deed, after_deeds, lines_at, lines_over, given_over}
use Rattle.duplex_line.specs.Run.{who_of, deeds_of, seen_from, after_event, deed_lines, lines_of, state_after, lines_after}
use Rattle.duplex_line.specs.Plays.{issued_by, IsUnspent}
use Rattle.each_once.specs.Tells.{executed_in}
use Rattle.duplex_line.proofs.Steps.EventsToCome.{room-of-a, room-of-b, unspent}
use Rattle.duplex_line.proofs.Steps.NothingToGive.{leave-none}
use Rattle.duplex_line.proofs.Once.Invariant.{AreTwo, two-swapped, joins-end, a-and-b}
use Rattle.duplex_line.proofs.Once.LineSteps.{payload-command}
use Rattle.duplex_line.proofs.Once.WholeRun.{IsPlain, ArePlain, earlier, plain-again, plain-foreign}
use Rattle.duplex_line.specs.Prompt.{Late, none_late, late_seen, ticks_of, late_with, late_after, is_quiet, AreFew, late_over, late_event}
use Rattle.duplex_line.specs.Recoverable.{Damage, Damages, hits_of, hands_out, transmissions, with_take, hit_by, with_alter, damage_with, IsBodyHit, IsMild, AreFewHits, damage_seen, damage_after, damage_over, IsMildOver, AreFewOver, damage_event, IsMildAfter, HasFewTicksAfter}
use Rattle.duplex_line.proofs.Complete.ClearLane.{IsClear, goods, inside-left}
use Rattle.duplex_line.proofs.Complete.AlteredBytes.{IsWithin, head-altered}
use Rattle.duplex_line.proofs.Complete.DamageDone.{IsDamage, IsHit, is_among, damage-leaves, hit-touched, hit-new}
use Rattle.duplex_line.proofs.Complete.MessageUnderWay.{Marks, May, begun-same, flow-altered, far-altered}
use Rattle.duplex_line.proofs.Complete.ToldMessages.{tells-silent}
use Rattle.duplex_line.proofs.Complete.GivingStep.{flows-issue, flows-take, take-transmissions}
use Rattle.duplex_line.proofs.Complete.ArrivalStep.{leaves, flows-arrival}
use Rattle.duplex_line.proofs.Complete.TickStep.{quiet-still, flows-late, flows-tick}
use Rattle.duplex_line.proofs.Complete.Invariant.{Origin, Flows, damages_swapped, flows-swapped}

-- ---- what is sure

-- no end was deceived, or nothing was altered
abbrev pub IsSureOf : LineState → Damages → Type 0
IsSureOf s dam = (s.deceived ≡ 0) ⊎ ((dam.a.hits ≡ []) × (dam.b.hits ≡ []))

-- it holds where that is sure
abbrev pub Kept : Who → Who → Origin → Origin → LineState → Late → Damages → List Line → Type 0
Kept near far first far_first s late dam lines = IsSureOf s dam → Flows near far first far_first s late dam lines

not-empty : (xs : List ℕ) (x : ℕ) → xs ++ x ∷ [] ≡ [] → ⊥
not-empty [] x is = cc
not-empty (y ∷ xs) x is = cc

hits-before-hit : (hits : List ℕ) (o : Option ℕ) → hit_by hits o ≡ [] → hits ≡ []
hits-before-hit hits None none = none
hits-before-hit hits (Some number) none = by-test (is_among hits number) none
  where
    by-test : (among : Bool) → (if among then hits else hits ++ number ∷ []) ≡ [] → hits ≡ []
    by-test true none = none
    by-test false none = absurd (not-empty hits number none)

hits-before-alter : (d : Damage) (o : Option LaneCell) → (with_alter d o).hits ≡ [] → d.hits ≡ []
hits-before-alter d None none = none
hits-before-alter d (Some cell) none = by-test d.touched none
  where
    by-test : (touched : Bool) → (if touched then d.hits else hit_by d.hits cell.body_of) ≡ [] → d.hits ≡ []
    by-test true none = none
    by-test false none = hits-before-hit d.hits cell.body_of none

pub hits-taken : (side after : LineEndState) (d : Damage) → (with_take side after d).hits ≡ d.hits
hits-taken side after d = by-test (hands_out side)
  where
    by-test : (new : Bool) → (if new then record d { firsts = d.firsts ++ transmissions after ∷ [] } else d).hits ≡ d.hits
    by-test true = refl
    by-test false = refl

hits-before : (side after : LineEndState) (d : Damage) (deed : Deed) → (damage_with side after d deed).hits ≡ [] → d.hits ≡ []
hits-before side after d (Issue src dst payload) none = none
hits-before side after d Take none = sym (hits-taken side after d) ∙ none
hits-before side after d Deliver none = none
hits-before side after d Lose none = none
hits-before side after d (Alter mask) none = hits-before-alter d (slice_get side.lane 0) none
hits-before side after d (Foreign byte) none = none
hits-before side after d Tick none = none

-- what is sure after a step was so before it
sure-before : (s : LineState) (dam : Damages) (deed : Deed) → IsSureOf (after_deed s deed) (damage_after dam s deed) → IsSureOf s dam
sure-before s dam deed (inl none) = inl (earlier s.deceived s.b (arriving s.a deed) none)
sure-before s dam deed (inr none) = inr (hits-before s.a (after_deed s deed).a dam.a deed none.0, none.1)

-- ---- unit steps

-- a step that is no tick leaves the late ticks as they are
still-late : (late : Late) (quiet : Bool) (deed : Deed) → ticks_of deed ≡ 0 → late_with late quiet deed ≡ late
still-late late true deed none = refl
still-late late false deed none = ap (λ (n : ℕ). let l : Late = record { a = n; b = late.b } in l) (plus-none late.a (ticks_of deed) none)
  where
    plus-none : (n m : ℕ) → m ≡ 0 → n + m ≡ n
    plus-none n m none = omega (arith, none)

-- the late ticks are none where nothing is under way
counted : (near far : Who) (first far_first : Origin) (s : LineState) (late : Late) (dam : Damages) (lines : List Line) (quiet : Bool) → is_quiet s ≡ quiet → Flows near far first far_first s late dam lines → Flows near far first far_first s (if quiet then none_late else late) dam lines
counted near far first far_first s late dam lines true is h = flows-late near far first far_first s late none_late dam lines (quiet-still s is) h
counted near far first far_first s late dam lines false is h = h

stepped : (near far : Who) (first far_first : Origin) (s : LineState) (late : Late) (dam : Damages) (lines more : List Line) (deed : Deed) → ticks_of deed ≡ 0 → Flows near far first far_first (after_deed s deed) late dam (lines ++ more)
    → Flows near far first far_first (after_deed s deed) (late_after late s deed) dam (lines ++ more)
stepped near far first far_first s late dam lines more deed none h =
    counted near far first far_first (after_deed s deed) (late_with late (is_quiet s) deed) dam (lines ++ more) (is_quiet (after_deed s deed)) refl
    (subst (λ (l : Late). Flows near far first far_first (after_deed s deed) l dam (lines ++ more)) (sym (still-late late (is_quiet s) deed none)) h)

-- no byte of an empty lane was altered
untouched : (near far : Who) (first far_first : Origin) (s : LineState) (late : Late) (dam : Damages) (lines : List Line) → Flows near far first far_first s late dam lines → Flows near far first far_first s late (leaves dam) lines
untouched near far first far_first s late dam lines h = record {
  sent = h.sent;
  heard = h.heard;
  far_sent = h.far_sent;
  far_heard = h.far_heard;
  allowed = h.allowed;
  far_allowed = h.far_allowed;
  rooms = h.rooms;
  past = h.past;
  end = h.end;
  far_end = h.far_end;
  marks = h.marks;
  far_marks = h.far_marks;
  flow = h.flow;
  far_flow = h.far_flow;
  kept = h.kept;
  far_kept = h.far_kept;
  damage = damage-leaves dam.a h.marks s.a.end.mouth.begun s.a.end.sender.limits.max_naks s.b.end.receiver.decoding s.b.end.receiver.decoding s.a.lane s.a.lane h.damage;
  far_damage = h.far_damage;
  tells = h.tells;
  far_tells = h.far_tells;
  honest = h.honest;
}

-- the head of a lane arrives
deliver-cells : (near far : Who) → AreTwo near far → (first far_first : Origin) (s : LineState) (cells : List LaneCell) (late : Late) (dam : Damages) (lines : List Line) → IsSureOf (after_deed (record { a = record { end = s.a.end; lane = cells }; b = s.b; deceived = s.deceived }) Deliver) (leaves dam)
    → Flows near far first far_first (record { a = record { end = s.a.end; lane = cells }; b = s.b; deceived = s.deceived }) late dam lines
    → Flows near far first far_first (after_deed (record { a = record { end = s.a.end; lane = cells }; b = s.b; deceived = s.deceived }) Deliver) late (leaves dam) (lines ++ lines_at near far (record { a = record { end = s.a.end; lane = cells }; b = s.b; deceived = s.deceived }) Deliver)
deliver-cells near far two first far_first s [] late dam lines sure h = rw (append-nil lines) (untouched near far first far_first _ late dam lines h)
deliver-cells near far two first far_first s (cell ∷ cells) late dam lines sure h = flows-arrival near far two first far_first s.a.end cell cells s.b s.deceived late dam lines (of-a sure) h
  where
    of-a : {P Q R : Type 0} → P ⊎ (Q × R) → P ⊎ Q
    of-a (inl p) = inl p
    of-a (inr q) = inr q.0

-- the head of a lane is altered
abbrev with_cells : LineState → List LaneCell → LineState
with_cells s cells = record { a = record { end = s.a.end; lane = cells }; b = s.b; deceived = s.deceived }

hit-head : (s : LineState) (cell : LaneCell) (cells : List LaneCell) (mask most : ℕ) (d : Damage) (marks : Marks) (P : Type 0) (touched : Bool) → d.touched ≡ touched → IsBodyHit d.touched (Some cell) mask → hits_of (with_alter d (Some cell)) (length d.firsts) ≤ most
    → IsClear P s.b.end.receiver.decoding (cell ∷ cells) s.a.end.mouth s.a.end.sending → IsDamage d marks s.a.end.mouth.begun most s.b.end.receiver.decoding (cell ∷ cells) → IsHit d marks s.a.end.mouth.begun most s.b.end.receiver.decoding cell (bit_xor cell.byte mask) cells
hit-head s cell cells mask most d marks P true is hit few c h = hit-touched d marks s.a.end.mouth.begun most s.b.end.receiver.decoding cell (bit_xor cell.byte mask) cells is hit.1 h
hit-head s cell cells mask most d marks P false is hit few c h =
    let of = of-body cell.body_of hit.0 in
    hit-new P d marks s.a.end.mouth.begun most s.b.end.receiver.decoding cell (bit_xor cell.byte mask) cells s.a.end.mouth s.a.end.sending of.0 is of.1 hit.1 refl few c h
  where
    of-body : (o : Option ℕ) → IsTrue d.touched ⊎ IsTrue (is_some o) → (number : ℕ) × (o ≡ Some number)
    of-body (Some number) either = (number, refl)
    of-body None (inl was) = absurd (let no : true ≡ false = sym was ∙ is in cc)
    of-body None (inr held) = absurd cc

alter-cells : (near far : Who) (first far_first : Origin) (s : LineState) (cells : List LaneCell) (mask : ℕ) (late : Late) (dam : Damages) (lines : List Line) → IsBodyHit dam.a.touched (slice_get cells 0) mask → AreFewHits s.a (with_alter dam.a (slice_get cells 0))
    → Flows near far first far_first (with_cells s cells) late dam lines → Flows near far first far_first (with_cells s (altered mask cells)) late (record { a = with_alter dam.a (slice_get cells 0); b = dam.b }) lines
alter-cells near far first far_first s [] mask late dam lines hit few h = h
alter-cells near far first far_first s (cell ∷ cells) mask late dam lines hit few h =
    let may = May s.a.end.sender.activity h.marks.hits in
    let byte = bit_xor cell.byte mask in
    let is = hit-head s cell cells mask s.a.end.sender.limits.max_naks dam.a h.marks may dam.a.touched refl hit (few (length dam.a.firsts)) h.flow.clear h.damage in
    let allowed = allowed-now is.after is.within is.more is.cause in
    let alike = head-altered may (May s.a.end.sender.activity is.after.hits) s.b.end.receiver.decoding cell byte cells s.a.end.mouth s.a.end.sending allowed is.within is.plain h.flow.clear in
    record {
      sent = h.sent;
      heard = h.heard;
      far_sent = h.far_sent;
      far_heard = h.far_heard;
      allowed = h.allowed;
      far_allowed = h.far_allowed;
      rooms = h.rooms;
      past = h.past;
      end = h.end;
      far_end = h.far_end;
      marks = is.after;
      far_marks = h.far_marks;
      flow = flow-altered s.a.end s.b.end cell byte cells s.b.lane h.sent h.far_heard late.a h.marks is.after is.more allowed is.within is.ends is.plain h.flow;
      far_flow = far-altered may s.a.end s.b.end cell byte cells s.b.lane h.far_sent h.heard late.b h.far_marks alike.1 h.far_flow;
      kept = h.kept;
      far_kept = h.far_kept;
      damage = is.damage;
      far_damage = h.far_damage;
      tells = h.tells;
      far_tells = h.far_tells;
      honest = h.honest;
    }
  where
    allowed-now : (after : Marks) → IsWithin s.b.end.receiver.decoding cell.byte → h.marks.hits ≤ after.hits → (h.marks.last_hit ≡ true) ⊎ (after.hits ≡ h.marks.hits + 1) → May s.a.end.sender.activity after.hits
    allowed-now after within more (inr one) = omega (arith, h.flow.spent, one)
    allowed-now after within more (inl last) = by-mark (h.flow.struck last)
      where
        by-mark : May s.a.end.sender.activity h.marks.hits ⊎ ((goods (cell ∷ cells) ≡ 0) × (s.a.end.mouth.left ≡ [])) → May s.a.end.sender.activity after.hits
        by-mark (inl may) = omega (arith, may, more)
        by-mark (inr none) = absurd (inside-left (May s.a.end.sender.activity h.marks.hits) s.b.end.receiver.decoding (cell ∷ cells) s.a.end.mouth s.a.end.sending (let at = within.inside in rw at refl) none.0 none.1 h.flow.clear)

flows-plain : (deed : Deed) → IsPlain deed → (s : LineState) (late : Late) (dam : Damages) → s.a.end.mouth.begun < 2 ^ 64 - 1 → IsMild s.a dam.a deed → AreFewHits (after_deed s deed).a (damage_after dam s deed).a → AreFew (late_after late s deed) (after_deed s deed) → (near far : Who) → AreTwo near far → (first far_first : Origin) (lines : List Line)
    → IsSureOf (after_deed s deed) (damage_after dam s deed) → Flows near far first far_first s late dam lines → Flows near far first far_first (after_deed s deed) (late_after late s deed) (damage_after dam s deed) (lines ++ lines_at near far s deed)
flows-plain (Issue src dst payload) plain s late dam small mild hits few near far two first far_first lines sure h = absurd plain
flows-plain Take plain s late dam small mild hits few near far two first far_first lines sure h = stepped near far first far_first s late (damage_after dam s Take) lines [] Take refl (rw (append-nil lines) (flows-take near far first far_first s late dam lines small hits h))
flows-plain Deliver plain s late dam small mild hits few near far two first far_first lines sure h = stepped near far first far_first s late (damage_after dam s Deliver) lines (lines_at near far s Deliver) Deliver refl (deliver-cells near far two first far_first s s.a.lane late dam lines sure h)
flows-plain Lose plain s late dam small mild hits few near far two first far_first lines sure h =
    let same : after_leaving s.a ≡ s.a = leave-none s.a mild in
    stepped near far first far_first s late (damage_after dam s Lose) lines [] Lose refl (rw (append-nil lines) (subst (λ (a : LineEndState). Flows near far first far_first (record { a = a; b = s.b; deceived = s.deceived }) late (leaves dam) lines) (sym same) (untouched near far first far_first s late dam lines h)))
flows-plain (Alter mask) plain s late dam small mild hits few near far two first far_first lines sure h =
    stepped near far first far_first s late (damage_after dam s (Alter mask)) lines [] (Alter mask) refl (rw (append-nil lines) (alter-cells near far first far_first s s.a.lane mask late dam lines mild hits h))
flows-plain (Foreign byte) plain s late dam small mild hits few near far two first far_first lines sure h = absurd mild
flows-plain Tick plain s late dam small mild hits few near far two first far_first lines sure h =
    counted near far first far_first (after_deed s Tick) (late_with late (is_quiet s) Tick) dam (lines ++ lines_at near far s Tick) (is_quiet (after_deed s Tick)) refl (flows-tick near far first far_first s late dam lines few h)

-- ---- how many transmissions have begun

begun-more : (e : EndState NodeState) (p : Phase) (next : Option (List ℕ)) → (begun_at node_host e p next).mouth.begun ≤ e.mouth.begun + 1
begun-more e phase.Idle None = omega arith
begun-more e phase.Idle (Some body) = omega arith
begun-more e phase.Sending next = omega arith
begun-more e phase.Waiting next = omega arith

prepared-more : (e : EndState NodeState) (idle : Bool) → (if idle then begun_next node_host e else e).mouth.begun ≤ e.mouth.begun + 1
prepared-more e true = begun-more e (phase_of e.sender) (next_body e.host)
prepared-more e false = omega arith

abbrev with_response : Response → Giving → Giving
with_response r g = elim r [ Offers resp ↦ offer g resp | Forgets ↦ forget g | Again ↦ answer_enq g | Silent ↦ g ]

responded-same : (r : Response) (g : Giving) → (with_response r g).begun ≡ g.begun
responded-same (Offers resp) g = refl
responded-same Forgets g = refl
responded-same Again g = refl
responded-same Silent g = refl

asked-same : (t : SendTurn) (g : Giving) → (asked t g).begun ≡ g.begun
asked-same turn.Still g = refl
asked-same turn.Ask g = refl
asked-same turn.Failed g = refl

byte-same : (e : EndState NodeState) (byte : ℕ) → (end_after_byte node_host e byte).mouth.begun ≡ e.mouth.begun
byte-same e byte =
    let what = act_of_byte node_host e byte in
    begun-same (is_waiting (phase_of e.sender) && not (is_waiting (phase_of (sender_after what e.sender)))) (responded what e.mouth) ∙ responded-same (response_for what) e.mouth

tick-same : (e : EndState NodeState) → (end_after_tick node_host e).mouth.begun ≡ e.mouth.begun
tick-same e = begun-same (is_waiting (phase_of e.sender) && not (is_waiting (phase_of (on_tick e.sender)))) (asked (tick_turn e.sender) e.mouth) ∙ asked-same (tick_turn e.sender) e.mouth

near-begun : (s : LineEndState) (deed : Deed) → (near_after s deed).end.mouth.begun ≤ s.end.mouth.begun + 1
near-begun s (Issue src dst payload) = omega arith
near-begun s Take = let same = take-transmissions s.end in let more = prepared-more s.end (is_none (chosen s.end.mouth)) in omega (arith, same, more)
near-begun s Deliver = omega arith
near-begun s Lose = omega arith
near-begun s (Alter mask) = omega arith
near-begun s (Foreign byte) = omega arith
near-begun s Tick = let same = tick-same s.end in omega (arith, same)

far-begun : (s : LineEndState) (o : Option LaneCell) → (after_arrival s o).end.mouth.begun ≡ s.end.mouth.begun
far-begun s None = refl
far-begun s (Some cell) = byte-same s.end cell.byte

-- room for so many more
pub record HasSpare (s : LineState) (n : ℕ) : Type 0 where
  pub of_a : s.a.end.mouth.begun + n < 2 ^ 64 - 1
  pub of_b : s.b.end.mouth.begun + n < 2 ^ 64 - 1

spare-swapped : (s : LineState) (n : ℕ) → HasSpare s n → HasSpare (swapped s) n
spare-swapped s n h = record { of_a = h.of_b; of_b = h.of_a }

spare-deed : (s : LineState) (deed : Deed) (n : ℕ) → HasSpare s (n + 1) → HasSpare (after_deed s deed) n
spare-deed s deed n h =
    let near = near-begun s.a deed in
    let far = far-begun s.b (arriving s.a deed) in
    let a = h.of_a in
    let b = h.of_b in
    record { of_a = omega (arith, near, a); of_b = omega (arith, far, b) }

spare-deeds : (s : LineState) (deeds : List Deed) (n : ℕ) → HasSpare s (length deeds + n) → HasSpare (after_deeds s deeds) n
spare-deeds s [] n h = record { of_a = let a = h.of_a in omega (arith, a); of_b = let b = h.of_b in omega (arith, b) }
spare-deeds s (deed ∷ deeds) n h = spare-deeds (after_deed s deed) deeds n (spare-deed s deed (length deeds + n) (record { of_a = let a = h.of_a in omega (arith, a); of_b = let b = h.of_b in omega (arith, b) }))

-- ---- one step after another

abbrev Moves : LineState → Late → Damages → List Deed → Type 0
Moves s late dam deeds = (near far : Who) → AreTwo near far → (first far_first : Origin) (lines : List Line) → Kept near far first far_first s late dam lines → Kept near far first far_first (after_deeds s deeds) (late_over late s deeds) (damage_over dam s deeds) (lines ++ lines_over near far s deeds)

moves-plain : (deeds : List Deed) → ArePlain deeds → (s : LineState) (late : Late) (dam : Damages) → HasSpare s (length deeds) → IsMildOver dam s deeds → AreFewOver late s deeds → Moves s late dam deeds
moves-plain [] plain s late dam spare mild few near far two first far_first lines h = rw (append-nil lines) h
moves-plain (deed ∷ deeds) plain s late dam spare mild few near far two first far_first lines h =
    let a = spare.of_a in
    let b = spare.of_b in
    let small : s.a.end.mouth.begun < 2 ^ 64 - 1 = omega (arith, a) in
    let one : Kept near far first far_first (after_deed s deed) (late_after late s deed) (damage_after dam s deed) (lines ++ lines_at near far s deed) =
    λ sure. flows-plain deed plain.0 s late dam small mild.0 mild.1 few.0 near far two first far_first lines sure (h (sure-before s dam deed sure)) in
    let more = moves-plain deeds plain.1 (after_deed s deed) (late_after late s deed) (damage_after dam s deed) (spare-deed s deed (length deeds) (record { of_a = omega (arith, a); of_b = omega (arith, b) })) mild.2 few.1 near far two first far_first (lines ++ lines_at near far s deed) one in
    subst (λ (all : List Line). Kept near far first far_first (after_deeds (after_deed s deed) deeds) (late_over (late_after late s deed) (after_deed s deed) deeds) (damage_over (damage_after dam s deed) (after_deed s deed) deeds) all) (append_assoc lines (lines_at near far s deed) (lines_over near far (after_deed s deed) deeds)) more

moves-issue : (s : LineState) (late : Late) (dam : Damages) (src : Option ℕ) (dst : ℕ) (payload : List ℕ) → IsTrue (is_payload payload) → issued_by s.a < 65535 → Moves s late dam (Issue src dst payload ∷ [])
moves-issue s late dam src dst payload may few near far two first far_first lines h sure =
    stepped near far first far_first s late dam lines [] (Issue src dst payload) refl (rw (append-nil lines) (flows-issue near far first far_first s late dam lines src dst payload may (payload-command payload may) few (h sure)))

-- ---- events

-- more lines that tell of no command as executed
flows-silent : (near far : Who) (first far_first : Origin) (s : LineState) (late : Late) (dam : Damages) (lines more : List Line) → executed_in near more ≡ [] → executed_in far more ≡ [] → Flows near far first far_first s late dam lines → Flows near far first far_first s late dam (lines ++ more)
flows-silent near far first far_first s late dam lines more none far_none h = record {
  sent = h.sent;
  heard = h.heard;
  far_sent = h.far_sent;
  far_heard = h.far_heard;
  allowed = h.allowed;
  far_allowed = h.far_allowed;
  rooms = h.rooms;
  past = h.past;
  end = h.end;
  far_end = h.far_end;
  marks = h.marks;
  far_marks = h.far_marks;
  flow = h.flow;
  far_flow = h.far_flow;
  kept = h.kept;
  far_kept = h.far_kept;
  damage = h.damage;
  far_damage = h.far_damage;
  tells = tells-silent near (first.heard ++ h.heard) lines more none h.tells;
  far_tells = tells-silent far (far_first.heard ++ h.far_heard) lines more far_none h.far_tells;
  honest = h.honest;
}

none-sent : (who by : Who) (bytes : List ℕ) → executed_in who (sent_lines by bytes) ≡ []
none-sent who by [] = refl
none-sent who by (byte ∷ bytes) = refl

moves-deeds : (near far : Who) → AreTwo near far → (first far_first : Origin) (s : LineState) (late : Late) (dam : Damages) (deeds : List Deed) (bytes : List ℕ) (lines : List Line) → Moves s late dam deeds → Kept near far first far_first s late dam lines
    → Kept near far first far_first (after_deeds s deeds) (late_over late s deeds) (damage_over dam s deeds) (lines ++ (lines_over near far s deeds ++ sent_lines near bytes))
moves-deeds near far two first far_first s late dam deeds bytes lines moves h sure =
    let over = lines_over near far s deeds in
    let sent = sent_lines near bytes in
    subst (λ (all : List Line). Flows near far first far_first (after_deeds s deeds) (late_over late s deeds) (damage_over dam s deeds) all) (append_assoc lines over sent)
    (flows-silent near far first far_first (after_deeds s deeds) (late_over late s deeds) (damage_over dam s deeds) (lines ++ over) sent (none-sent near near bytes) (none-sent far near bytes) (moves near far two first far_first lines h sure))

sure-swapped : (s : LineState) (dam : Damages) → IsSureOf s dam → IsSureOf (swapped s) (damages_swapped dam)
sure-swapped s dam (inl none) = inl none
sure-swapped s dam (inr none) = inr (none.1, none.0)

moves-seen : (who : Who) → IsTrue (is_end who) → (first_a first_b : Origin) (s : LineState) (late : Late) (dam : Damages) (deeds : List Deed) (lines : List Line) → Moves (seen_from who s) (late_seen who late) (damage_seen who dam) deeds → Kept A B first_a first_b s late dam lines
    → Kept A B first_a first_b (seen_from who (after_deeds (seen_from who s) deeds)) (late_seen who (late_over (late_seen who late) (seen_from who s) deeds)) (damage_seen who (damage_over (damage_seen who dam) (seen_from who s) deeds)) (lines ++ deed_lines who (seen_from who s) deeds)
moves-seen A end first_a first_b s late dam deeds lines moves h sure = moves-deeds A B a-and-b first_a first_b s late dam deeds (given_over s.a deeds) lines moves h sure
moves-seen B end first_a first_b s late dam deeds lines moves h sure =
    flows-swapped B A first_b first_a (after_deeds (swapped s) deeds) _ _ _
    (moves-deeds B A (two-swapped A B a-and-b) first_b first_a (swapped s) (late_seen B late) (damage_seen B dam) deeds (given_over s.b deeds) lines moves (λ far_sure. flows-swapped A B first_a first_b s late dam lines (h (sure-swapped (swapped s) (damages_swapped dam) far_sure)))
    (sure-swapped (swapped (after_deeds (swapped s) deeds)) (damages_swapped (damage_over (damages_swapped dam) (swapped s) deeds)) sure))
moves-seen M end first_a first_b s late dam deeds lines moves h sure = absurd cc
moves-seen (S station) end first_a first_b s late dam deeds lines moves h sure = absurd cc

spare-seen : (who : Who) (s : LineState) (n : ℕ) → HasSpare s n → HasSpare (seen_from who s) n
spare-seen A s n h = h
spare-seen B s n h = spare-swapped s n h
spare-seen M s n h = h
spare-seen (S station) s n h = h

flows-event : (first_a first_b : Origin) (e : Event) (s : LineState) (late : Late) (dam : Damages) (lines : List Line) → IsPossible e → IsUnspent (seen_from (who_of e) s).a e → HasSpare (seen_from (who_of e) s) (length (deeds_of e)) → IsMildOver (damage_seen (who_of e) dam) (seen_from (who_of e) s) (deeds_of e) → AreFewOver (late_seen (who_of e) late) (seen_from (who_of e) s) (deeds_of e)
    → Kept A B first_a first_b s late dam lines → Kept A B first_a first_b (after_event s e) (late_event late s e) (damage_event dam s e) (lines ++ lines_of s e)
flows-event first_a first_b (event.Issue who src dst payload) s late dam lines possible few spare mild ticks h = moves-seen who possible.0 first_a first_b s late dam (Issue src dst payload ∷ []) lines (moves-issue (seen_from who s) (late_seen who late) (damage_seen who dam) src dst payload possible.1 few) h
flows-event first_a first_b (event.Take who n) s late dam lines possible few spare mild ticks h = moves-seen who possible.0 first_a first_b s late dam (replicate n Take) lines (moves-plain (replicate n Take) (plain-again Take tt n) (seen_from who s) (late_seen who late) (damage_seen who dam) spare mild ticks) h
flows-event first_a first_b (event.Deliver lane n) s late dam lines possible few spare mild ticks h =
    moves-seen lane.from (joins-end lane.from lane.to possible.0) first_a first_b s late dam (replicate n Deliver) lines (moves-plain (replicate n Deliver) (plain-again Deliver tt n) (seen_from lane.from s) (late_seen lane.from late) (damage_seen lane.from dam) spare mild ticks) h
flows-event first_a first_b (event.Lose lane n) s late dam lines possible few spare mild ticks h =
    moves-seen lane.from (joins-end lane.from lane.to possible.0) first_a first_b s late dam (replicate n Lose) lines (moves-plain (replicate n Lose) (plain-again Lose tt n) (seen_from lane.from s) (late_seen lane.from late) (damage_seen lane.from dam) spare mild ticks) h
flows-event first_a first_b (event.Alter lane mask) s late dam lines possible few spare mild ticks h =
    moves-seen lane.from (joins-end lane.from lane.to possible.0) first_a first_b s late dam (Alter mask ∷ []) lines (moves-plain (Alter mask ∷ []) (tt, tt) (seen_from lane.from s) (late_seen lane.from late) (damage_seen lane.from dam) spare mild ticks) h
flows-event first_a first_b (event.Foreign lane bytes) s late dam lines possible few spare mild ticks h =
    moves-seen lane.from (joins-end lane.from lane.to possible.0) first_a first_b s late dam (map Foreign bytes) lines (moves-plain (map Foreign bytes) (plain-foreign bytes) (seen_from lane.from s) (late_seen lane.from late) (damage_seen lane.from dam) spare mild ticks) h
flows-event first_a first_b (event.Tick who n) s late dam lines possible few spare mild ticks h = moves-seen who possible.0 first_a first_b s late dam (replicate n Tick) lines (moves-plain (replicate n Tick) (plain-again Tick tt n) (seen_from who s) (late_seen who late) (damage_seen who dam) spare mild ticks) h

-- the late ticks, and the damage, after events
abbrev pub late_events : Late → LineState → List Event → Late
late_events late s [] = late
late_events late s (e ∷ events) = late_events (late_event late s e) (after_event s e) events

abbrev pub damage_events : Damages → LineState → List Event → Damages
damage_events d s [] = d
damage_events d s (e ∷ events) = damage_events (damage_event d s e) (after_event s e) events

-- how many unit steps events are
abbrev pub steps_of : List Event → ℕ
steps_of [] = 0
steps_of (e ∷ events) = length (deeds_of e) + steps_of events

event-steps : (e : Event) → length (deeds_of e) ≡ count_of e
event-steps (event.Issue who src dst payload) = refl
event-steps (event.Take who n) = length-replicate n Take
event-steps (event.Deliver lane n) = length-replicate n Deliver
event-steps (event.Lose lane n) = length-replicate n Lose
event-steps (event.Alter lane mask) = refl
event-steps (event.Foreign lane bytes) = length-map bytes Foreign
event-steps (event.Tick who n) = length-replicate n Tick

pub all-steps : (events : List Event) → steps_of events ≡ sum_by count_of events
all-steps [] = refl
all-steps (e ∷ events) =
    let one = event-steps e in
    let more = all-steps events in
    let split = sum_by-append count_of (e ∷ []) events in
    let alone : sum_by count_of (e ∷ []) ≡ 0 + count_of e = refl in
    omega (arith, one, more, split, alone)

pub spare-event : (e : Event) (s : LineState) (n : ℕ) → HasSpare s (length (deeds_of e) + n) → HasSpare (after_event s e) n
spare-event e s n h = spare-seen (who_of e) (after_deeds (seen_from (who_of e) s) (deeds_of e)) n (spare-deeds (seen_from (who_of e) s) (deeds_of e) n (spare-seen (who_of e) s (length (deeds_of e) + n) h))

pub flows-events : (first_a first_b : Origin) (events : List Event) (s : LineState) (late : Late) (dam : Damages) (lines : List Line) → All IsPossible events → issued_by s.a + count_by (issues A) events ≤ 65535 → issued_by s.b + count_by (issues B) events ≤ 65535 → HasSpare s (steps_of events)
    → IsMildAfter dam s events → HasFewTicksAfter late s events → Kept A B first_a first_b s late dam lines → Kept A B first_a first_b (state_after s events) (late_events late s events) (damage_events dam s events) (lines ++ lines_after s events)
flows-events first_a first_b [] s late dam lines possible few_a few_b spare mild ticks h = rw (append-nil lines) h
flows-events first_a first_b (e ∷ events) s late dam lines possible few_a few_b spare mild ticks h =
    let may = All-head IsPossible e events possible in
    let a = spare.of_a in
    let b = spare.of_b in
    let now : HasSpare s (length (deeds_of e)) = record { of_a = omega (arith, a); of_b = omega (arith, b) } in
    let one = flows-event first_a first_b e s late dam lines may (unspent s e events may few_a few_b) (spare-seen (who_of e) s (length (deeds_of e)) now) mild.0 ticks.0 h in
    let more = flows-events first_a first_b events (after_event s e) (late_event late s e) (damage_event dam s e) (lines ++ lines_of s e) (All-tail IsPossible e events possible) (room-of-a s e events may few_a) (room-of-b s e events may few_b) (spare-event e s (steps_of events) spare) mild.1 ticks.1 one in
    subst (λ (all : List Line). Kept A B first_a first_b (state_after (after_event s e) events) (late_events (late_event late s e) (after_event s e) events) (damage_events (damage_event dam s e) (after_event s e) events) all) (append_assoc lines (lines_of s e) (lines_after (after_event s e) events)) more
