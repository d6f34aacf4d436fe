-- A full-duplex run: what each end has to wait for, over the lines of the report; and in the end, where enough drained ticks came, nothing.
use Rattle.std.proofs.Common.{◌≡◌, ◌∙◌, inr, ℕ, zero, suc, ◌+◌, ◌-◌, ◌*◌, true, cond, List, [], ◌∷◌, ◌++◌, length, map, Option, Some, None, refl, sym, ap, subst, arith, add-zero, append-nil, append_assoc}
use Rattle.std.specs.Prelude.{All, IsTrue, replicate, slice_index_or, unwrap_or}
use Rattle.std.proofs.Math.Nat.{mul-suc, suc-mul, le-max_left, le-max_right}
use Rattle.std.proofs.lemmas.List.{length-append, length-map, map-append}
use Rattle.std.proofs.lemmas.List.Elements.{All-head, All-tail, filter_map-append}
use Rattle.df1_base.specs.declared.link.Act.{Act}
use Rattle.df1_base.specs.declared.link.Act.TheVariants as act
use Rattle.df1_base.specs.HostAnswers.{did_at, host_told}
use Rattle.df1_check.specs.declared.Check.{Check}
use Rattle.df1_node.specs.Initiator.{Issued}
use Rattle.df1_node.specs.Node.{NodeState, after_tick as node_ticked}
use Rattle.duplex_sender.specs.Sender.{tick_turn}
use Rattle.duplex_end.specs.End.{act_of_byte, fate_at, host_at_byte, fate_of_tick, host_at_tick}
use Rattle.duplex_line.specs.Acts.{LineEndState, LineState, swapped, Deed, after_issue, Issue, Take, Deliver, Lose, Alter, Foreign, Tick, near_after, arriving, after_cell, after_arrival, step_of, body_heard, after_deed, after_deeds, near_lines, cell_lines, arrival_lines, lines_at, lines_over, given_over}
use Rattle.duplex_line.specs.Issues.{bodies_of, commands_of_a, commands_of_b}
use Rattle.duplex_line.specs.Run.{first_side, plan_of_a, plan_of_b, start, seen_from, after_event, deed_lines, lines_of, state_after, lines_after, last_state, record_of}
use Rattle.duplex_line.proofs.Once.Invariant.{AreTwo, two-swapped, a-and-b, joins-end}
use Rattle.duplex_line.proofs.Once.SentMessages.{handed_at, take-host}
use Rattle.duplex_line.proofs.Once.ToldCommands.{recounts-run, same-act, same-fate, same-handed}
use Rattle.duplex_line.proofs.Wire.SilentLines.{arrival-other, near-executes}
use Rattle.duplex_line.proofs.Once.WholeRun.{IsPlain, ArePlain, plain-again, plain-foreign}
use Rattle.each_once.proofs.IssuedCommands.{same-both, same-tick}
use Rattle.each_once.proofs.SentAndExecuted.{ExecuteNothing, sent-execute, step-own, command_at_act}
use Rattle.each_once.specs.Commands.{AreOutcomesTold}
use Rattle.each_once.specs.NodeHost.{node_host}
use Rattle.each_once.specs.Tells.{executed_at, executed_in, is_who}
use Rattle.lane_cells.specs.Cells.{LaneCell}
use Rattle.outset.specs.Outset.{limits_of}
use Rattle.pccc_envelope.specs.Envelope.{is_reply}
use Rattle.replay_report.specs.declared.record.Line.{Line}
use Rattle.replay_report.specs.Report.{sent_lines}
use Rattle.script_parts.specs.declared.script.EndPlan.{EndPlan}
use Rattle.script_parts.specs.declared.script.Event.{Event}
use Rattle.script_parts.specs.declared.script.Event.TheVariants as event
use Rattle.script_parts.specs.declared.script.Script.{Script}
use Rattle.script_parts.specs.Plans.{first_plan}
use Rattle.script_parts.specs.Playable.{AreEnds, IsPlanOf, IsPossible, IsPlayable, is_end, is_same_end}
use Rattle.script_statement.specs.declared.who.Who.{Who}
use Rattle.script_statement.specs.declared.who.Who.TheVariants.{A, B, M, S}
use Rattle.end_settings.specs.declared.key.EndKey.TheVariants.{AckTicks, PerSource, ReplyTicks, Window}
use Rattle.run_laws.specs.Bounds.{message_ticks, command_ticks, AreToldIn, AtBothEnds}
use Rattle.run_laws.specs.Drained.{drained_at, drained_over, drained_with, drained_after, drained_ticks}
use Rattle.run_laws.proofs.NodeAccount.{known-at, add-times, reply-count}
use Rattle.run_laws.proofs.EndAccount.{Figures, AreFigures, Due, Account, account-take, account-issue, account-tick, account-act, executes, all-over}

-- ---- the commands that an end executes at a cell

act-count : (what : Act) (body : List ℕ) → length (command_at_act what body) ≡ executes what body
act-count act.Accept body = reply-count (is_reply body) body
act-count act.Repeat body = refl
act-count act.Refuse body = refl
act-count act.Damaged body = refl
act-count act.Forgot body = refl
act-count act.PeerAck body = refl
act-count act.PeerNak body = refl
act-count act.PeerEnq body = refl
act-count act.Nothing body = refl

pub cell-count : (who : Who) → is_who who who ≡ true → (side : LineEndState) (cell : LaneCell) → length (executed_in who (cell_lines who side cell)) ≡ executes (act_of_byte node_host side.end cell.byte) (body_heard side cell)
cell-count who itself side cell =
    let what = act_of_byte node_host side.end cell.byte in
    let body = body_heard side cell in
    ap length (step-own who itself (step_of side cell) side.end.host body [] [] (λ is. ap (λ (a : Act). did_at node_host a side.end.host body) is) refl) ∙ act-count what body

-- ---- one end

-- what all commands that were issued so far, and all that were executed, may take
abbrev pub whole : Figures → ℕ → ℕ → ℕ
whole f issued executed = issued * f.command + executed * f.message

-- an end, with what it has to wait for, by its commands, the lines so far, and the drained ticks since its last command
pub record Stands (who : Who) (f : Figures) (side : LineEndState) (drained : ℕ) (lines : List Line) : Type 0 where
  pub account : Account f side.end (whole f (length (bodies_of side)) (length (executed_in who lines))) drained

stands-silent : (who : Who) (f : Figures) (side : LineEndState) (drained : ℕ) (lines more : List Line) → ExecuteNothing who more → Stands who f side drained lines → Stands who f side drained (lines ++ more)
stands-silent who f side drained lines more none s = record {
  account = subst (λ (xs : List (List ℕ)). Account f side.end (whole f (length (bodies_of side)) (length xs)) drained)
      (sym (filter_map-append (executed_at who) lines more ∙ ap (λ (xs : List (List ℕ)). executed_in who lines ++ xs) none ∙ append-nil (executed_in who lines))) s.account;
}

-- an end whose commands have the same bodies
stands-same : (who : Who) (f : Figures) (side now : LineEndState) (drained : ℕ) (lines : List Line) (total : ℕ) → bodies_of now ≡ bodies_of side → total ≡ whole f (length (bodies_of side)) (length (executed_in who lines)) → Account f now.end total drained → Stands who f now drained lines
stands-same who f side now drained lines total same is a = record {
  account = subst (λ (n : ℕ). Account f now.end n drained) (is ∙ ap (λ (bodies : List (List ℕ)). whole f (length bodies) (length (executed_in who lines))) (sym same)) a;
}

stands-cell : (who : Who) → is_who who who ≡ true → (f : Figures) → AreFigures f → (side : LineEndState) (cell : LaneCell) (drained : ℕ) (lines : List Line) → Stands who f side drained lines → Stands who f (after_cell side cell) drained (lines ++ cell_lines who side cell)
stands-cell who itself f are side cell drained lines s =
    let e = side.end in
    let what = act_of_byte node_host e cell.byte in
    let fate = fate_at what e.sender in
    let body = body_heard side cell in
    let now = host_at_byte node_host e cell.byte in
    let same = (same-both e.host.initiator now.initiator (host_told node_host fate now).initiator (same-act what e.host body) (same-fate fate now)).bodies in
    let more = cell_lines who side cell in
    let executed = length (executed_in who lines) in
    let count : length (executed_in who (lines ++ more)) ≡ executed + executes what body =
    ap length (filter_map-append (executed_at who) lines more) ∙ length-append (executed_in who lines) (executed_in who more) ∙ ap (λ (n : ℕ). executed + n) (cell-count who itself side cell) in
    let sum : whole f (length (bodies_of side)) executed + executes what body * f.message ≡ whole f (length (bodies_of side)) (length (executed_in who (lines ++ more))) =
    (let parts = add-times executed (executes what body) f.message in omega (arith, parts)) ∙ ap (λ (n : ℕ). whole f (length (bodies_of side)) n) (sym count) in
    stands-same who f side (after_cell side cell) drained (lines ++ more) (whole f (length (bodies_of side)) executed + executes what body * f.message) same sum
    (account-act f are e (after_cell side cell).end what fate body (whole f (length (bodies_of side)) executed) drained refl refl s.account)

stands-arrival : (who : Who) → is_who who who ≡ true → (f : Figures) → AreFigures f → (side : LineEndState) (cell : Option LaneCell) (drained : ℕ) (lines : List Line) → Stands who f side drained lines → Stands who f (after_arrival side cell) drained (lines ++ arrival_lines who side cell)
stands-arrival who itself f are side None drained lines s = stands-silent who f side drained lines [] refl s
stands-arrival who itself f are side (Some cell) drained lines s = stands-cell who itself f are side cell drained lines s

stands-after : (who : Who) (f : Figures) → AreFigures f → (side : LineEndState) (deed : Deed) (drained : ℕ) (lines : List Line) → IsPlain deed → Stands who f side drained lines → Stands who f (near_after side deed) (drained + drained_at side deed) lines
stands-after who f are side (Issue src dst payload) drained lines plain s = absurd plain
stands-after who f are side Take drained lines plain s =
    let same : bodies_of (near_after side Take) ≡ bodies_of side = ap (λ (h : NodeState). map {A = Issued} (λ c. c.body) h.initiator.issued) (take-host node_host side.end) ∙ (same-handed (handed_at node_host side.end) side.end.host).bodies in
    rw (add-zero drained) (stands-same who f side (near_after side Take) drained lines (whole f (length (bodies_of side)) (length (executed_in who lines))) same refl (account-take f are side.end _ drained s.account))
stands-after who f are side Deliver drained lines plain s = rw (add-zero drained) (record { account = s.account })
stands-after who f are side Lose drained lines plain s = rw (add-zero drained) (record { account = s.account })
stands-after who f are side (Alter mask) drained lines plain s = rw (add-zero drained) (record { account = s.account })
stands-after who f are side (Foreign byte) drained lines plain s = rw (add-zero drained) s
stands-after who f are side Tick drained lines plain s =
    let e = side.end in
    let turns = tick_turn e.sender in
    let now = host_at_tick node_host e in
    let same = (same-both e.host.initiator now.initiator (node_ticked now).initiator (same-fate (fate_of_tick turns) e.host) (same-tick now)).bodies in
    stands-same who f side (near_after side Tick) (drained + drained_at side Tick) lines (whole f (length (bodies_of side)) (length (executed_in who lines))) same refl (account-tick f are e _ drained s.account)

stands-issue : (who : Who) (f : Figures) (side : LineEndState) (src : Option ℕ) (dst : ℕ) (payload : List ℕ) (drained : ℕ) (lines : List Line) → Stands who f side drained lines → Stands who f (after_issue side src dst payload) 0 lines
stands-issue who f side src dst payload drained lines s =
    let now = after_issue side src dst payload in
    let n = length (bodies_of side) in
    let count : length (bodies_of now) ≡ suc n = ap length (map-append (λ (c : Issued). c.body) side.end.host.initiator.issued _) ∙ length-append (bodies_of side) _ ∙ (let e : n + 1 ≡ suc n = omega arith in e) in
    record {
      account = subst (λ (total : ℕ). Account f now.end total 0)
          ((let more = suc-mul n f.command in omega (arith, more)) ∙ ap (λ (m : ℕ). whole f m (length (executed_in who lines))) (sym count))
          (account-issue f side.end (unwrap_or src side.end.host.initiator.node) dst payload _ drained s.account);
    }

-- ---- both ends

pub record BothStand (near far : Who) (f far_f : Figures) (s : LineState) (drained far_drained : ℕ) (lines : List Line) : Type 0 where
  pub stands : Stands near f s.a drained lines
  pub far_stands : Stands far far_f s.b far_drained lines

both-swapped : (near far : Who) (f far_f : Figures) (s : LineState) (drained far_drained : ℕ) (lines : List Line) → BothStand near far f far_f s drained far_drained lines → BothStand far near far_f f (swapped s) far_drained drained lines
both-swapped near far f far_f s drained far_drained lines b = record { stands = b.far_stands; far_stands = b.stands }

-- what happens beside the end itself
both-beside : (near far : Who) → AreTwo near far → (f far_f : Figures) → AreFigures far_f → (s : LineState) (deed : Deed) (now : ℕ) (far_drained : ℕ) (lines : List Line) → Stands near f (near_after s.a deed) now lines → Stands far far_f s.b far_drained lines
    → BothStand near far f far_f (after_deed s deed) now far_drained (lines ++ lines_at near far s deed)
both-beside near far two f far_f far_are s deed now far_drained lines stands far_stands =
    let first = near_lines near s.a deed in
    let second = arrival_lines far s.b (arriving s.a deed) in
    subst (λ (all : List Line). BothStand near far f far_f (after_deed s deed) now far_drained all) (append_assoc lines first second)
    (record {
      stands = stands-silent near f (near_after s.a deed) now (lines ++ first) second (arrival-other near far two.other s.b (arriving s.a deed)) (stands-silent near f (near_after s.a deed) now lines first (near-executes near near s.a deed) stands);
      far_stands = stands-arrival far two.far_itself far_f far_are s.b (arriving s.a deed) far_drained (lines ++ first) (stands-silent far far_f s.b far_drained lines first (near-executes far near s.a deed) far_stands);
    })

both-deeds : (near far : Who) → AreTwo near far → (f far_f : Figures) → AreFigures f → AreFigures far_f → (s : LineState) (deeds : List Deed) (drained far_drained : ℕ) (lines : List Line) → ArePlain deeds → BothStand near far f far_f s drained far_drained lines
    → BothStand near far f far_f (after_deeds s deeds) (drained + drained_over s.a deeds) far_drained (lines ++ lines_over near far s deeds)
both-deeds near far two f far_f are far_are s [] drained far_drained lines plain b = rw (append-nil lines, add-zero drained) b
both-deeds near far two f far_f are far_are s (deed ∷ deeds) drained far_drained lines plain b =
    let first = lines_at near far s deed in
    let rest = lines_over near far (after_deed s deed) deeds in
    let sum : drained + drained_at s.a deed + drained_over (near_after s.a deed) deeds ≡ drained + drained_over s.a (deed ∷ deeds) = omega arith in
    subst (λ (all : List Line). BothStand near far f far_f (after_deeds s (deed ∷ deeds)) (drained + drained_over s.a (deed ∷ deeds)) far_drained all) (append_assoc lines first rest)
    (subst (λ (n : ℕ). BothStand near far f far_f (after_deeds s (deed ∷ deeds)) n far_drained ((lines ++ first) ++ rest)) sum
    (both-deeds near far two f far_f are far_are (after_deed s deed) deeds (drained + drained_at s.a deed) far_drained (lines ++ first) plain.1
    (both-beside near far two f far_f far_are s deed (drained + drained_at s.a deed) far_drained lines (stands-after near f are s.a deed drained lines plain.0 b.stands) b.far_stands)))

-- the steps of an event at one of two ends, with its bytes
both-sent : (near far : Who) (f far_f : Figures) (s : LineState) (drained far_drained : ℕ) (lines over : List Line) (bytes : List ℕ) → BothStand near far f far_f s drained far_drained (lines ++ over) → BothStand near far f far_f s drained far_drained (lines ++ (over ++ sent_lines near bytes))
both-sent near far f far_f s drained far_drained lines over bytes b =
    let sent = sent_lines near bytes in
    subst (λ (all : List Line). BothStand near far f far_f s drained far_drained all) (append_assoc lines over sent)
    (record {
      stands = stands-silent near f s.a drained (lines ++ over) sent (sent-execute near near bytes) b.stands;
      far_stands = stands-silent far far_f s.b far_drained (lines ++ over) sent (sent-execute far near bytes) b.far_stands;
    })

both-event : (near far : Who) → AreTwo near far → (f far_f : Figures) → AreFigures f → AreFigures far_f → (s : LineState) (deeds : List Deed) (drained far_drained : ℕ) (lines : List Line) (bytes : List ℕ) → ArePlain deeds → BothStand near far f far_f s drained far_drained lines
    → BothStand near far f far_f (after_deeds s deeds) (drained + drained_over s.a deeds) far_drained (lines ++ (lines_over near far s deeds ++ sent_lines near bytes))
both-event near far two f far_f are far_are s deeds drained far_drained lines bytes plain b =
    both-sent near far f far_f (after_deeds s deeds) (drained + drained_over s.a deeds) far_drained lines (lines_over near far s deeds) bytes (both-deeds near far two f far_f are far_are s deeds drained far_drained lines plain b)

both-issue : (near far : Who) → AreTwo near far → (f far_f : Figures) → AreFigures far_f → (s : LineState) (src : Option ℕ) (dst : ℕ) (payload : List ℕ) (drained far_drained : ℕ) (lines : List Line) → BothStand near far f far_f s drained far_drained lines
    → BothStand near far f far_f (after_deeds s (Issue src dst payload ∷ [])) 0 far_drained (lines ++ (lines_over near far s (Issue src dst payload ∷ []) ++ sent_lines near []))
both-issue near far two f far_f far_are s src dst payload drained far_drained lines b =
    let deed = Issue src dst payload in
    both-sent near far f far_f (after_deeds s (deed ∷ [])) 0 far_drained lines (lines_over near far s (deed ∷ [])) []
    (subst (λ (all : List Line). BothStand near far f far_f (after_deed s deed) 0 far_drained (lines ++ all)) (sym (append-nil (lines_at near far s deed)))
    (both-beside near far two f far_f far_are s deed 0 far_drained lines (stands-issue near f s.a src dst payload drained lines b.stands) b.far_stands))

-- ---- events

-- the drained ticks of steps at an end, where it is this one
abbrev pub own : Who → Who → ℕ → ℕ
own who by n = cond (is_same_end who by) n 0

seen-plain : (who : Who) → IsTrue (is_end who) → (f far_f : Figures) → AreFigures f → AreFigures far_f → (s : LineState) (deeds : List Deed) (drained far_drained : ℕ) (lines : List Line) → ArePlain deeds → BothStand A B f far_f s drained far_drained lines
    → BothStand A B f far_f (seen_from who (after_deeds (seen_from who s) deeds)) (drained + own A who (drained_over (seen_from who s).a deeds)) (far_drained + own B who (drained_over (seen_from who s).a deeds)) (lines ++ deed_lines who (seen_from who s) deeds)
seen-plain A end f far_f are far_are s deeds drained far_drained lines plain b = rw (add-zero far_drained) (both-event A B a-and-b f far_f are far_are s deeds drained far_drained lines (given_over s.a deeds) plain b)
seen-plain B end f far_f are far_are s deeds drained far_drained lines plain b =
    rw (add-zero drained)
    (both-swapped B A far_f f (after_deeds (swapped s) deeds) (far_drained + drained_over s.b deeds) drained _
    (both-event B A (two-swapped A B a-and-b) far_f f far_are are (swapped s) deeds far_drained drained lines (given_over s.b deeds) plain (both-swapped A B f far_f s drained far_drained lines b)))
seen-plain M end f far_f are far_are s deeds drained far_drained lines plain b = absurd cc
seen-plain (S station) end f far_f are far_are s deeds drained far_drained lines plain b = absurd cc

seen-issue : (who : Who) → IsTrue (is_end who) → (f far_f : Figures) → AreFigures f → AreFigures far_f → (s : LineState) (src : Option ℕ) (dst : ℕ) (payload : List ℕ) (drained far_drained : ℕ) (lines : List Line) → BothStand A B f far_f s drained far_drained lines
    → let e = event.Issue who src dst payload in BothStand A B f far_f (after_event s e) (drained_with A drained s e) (drained_with B far_drained s e) (lines ++ lines_of s e)
seen-issue A end f far_f are far_are s src dst payload drained far_drained lines b = rw (add-zero far_drained) (both-issue A B a-and-b f far_f far_are s src dst payload drained far_drained lines b)
seen-issue B end f far_f are far_are s src dst payload drained far_drained lines b =
    rw (add-zero drained)
    (both-swapped B A far_f f (after_deeds (swapped s) (Issue src dst payload ∷ [])) 0 drained _
    (both-issue B A (two-swapped A B a-and-b) far_f f are (swapped s) src dst payload far_drained drained lines (both-swapped A B f far_f s drained far_drained lines b)))
seen-issue M end f far_f are far_are s src dst payload drained far_drained lines b = absurd cc
seen-issue (S station) end f far_f are far_are s src dst payload drained far_drained lines b = absurd cc

pub stand-event : (f far_f : Figures) → AreFigures f → AreFigures far_f → (e : Event) (s : LineState) (drained far_drained : ℕ) (lines : List Line) → IsPossible e → BothStand A B f far_f s drained far_drained lines
    → BothStand A B f far_f (after_event s e) (drained_with A drained s e) (drained_with B far_drained s e) (lines ++ lines_of s e)
stand-event f far_f are far_are (event.Issue who src dst payload) s drained far_drained lines possible b = seen-issue who possible.0 f far_f are far_are s src dst payload drained far_drained lines b
stand-event f far_f are far_are (event.Take who n) s drained far_drained lines possible b = seen-plain who possible.0 f far_f are far_are s (replicate n Take) drained far_drained lines (plain-again Take tt n) b
stand-event f far_f are far_are (event.Deliver lane n) s drained far_drained lines possible b = seen-plain lane.from (joins-end lane.from lane.to possible.0) f far_f are far_are s (replicate n Deliver) drained far_drained lines (plain-again Deliver tt n) b
stand-event f far_f are far_are (event.Lose lane n) s drained far_drained lines possible b = seen-plain lane.from (joins-end lane.from lane.to possible.0) f far_f are far_are s (replicate n Lose) drained far_drained lines (plain-again Lose tt n) b
stand-event f far_f are far_are (event.Alter lane mask) s drained far_drained lines possible b = seen-plain lane.from (joins-end lane.from lane.to possible.0) f far_f are far_are s (Alter mask ∷ []) drained far_drained lines (tt, tt) b
stand-event f far_f are far_are (event.Foreign lane bytes) s drained far_drained lines possible b = seen-plain lane.from (joins-end lane.from lane.to possible.0) f far_f are far_are s (map Foreign bytes) drained far_drained lines (plain-foreign bytes) b
stand-event f far_f are far_are (event.Tick who n) s drained far_drained lines possible b = seen-plain who possible.0 f far_f are far_are s (replicate n Tick) drained far_drained lines (plain-again Tick tt n) b

stand-events : (f far_f : Figures) → AreFigures f → AreFigures far_f → (events : List Event) (s : LineState) (drained far_drained : ℕ) (lines : List Line) → All IsPossible events → BothStand A B f far_f s drained far_drained lines
    → BothStand A B f far_f (state_after s events) (drained_after A drained s events) (drained_after B far_drained s events) (lines ++ lines_after s events)
stand-events f far_f are far_are [] s drained far_drained lines possible b = rw (append-nil lines) b
stand-events f far_f are far_are (e ∷ events) s drained far_drained lines possible b =
    subst (λ (all : List Line). BothStand A B f far_f (state_after s (e ∷ events)) (drained_after A drained s (e ∷ events)) (drained_after B far_drained s (e ∷ events)) all) (append_assoc lines (lines_of s e) (lines_after (after_event s e) events))
    (stand-events f far_f are far_are events (after_event s e) (drained_with A drained s e) (drained_with B far_drained s e) (lines ++ lines_of s e) (All-tail IsPossible e events possible)
    (stand-event f far_f are far_are e s drained far_drained lines (All-head IsPossible e events possible) b))

-- ---- a run

abbrev pub figures_of : EndPlan → Figures
figures_of plan = record { limits = limits_of plan; reply_ticks = plan.reply_ticks; message = message_ticks plan; command = command_ticks plan }

pub are-figures : (who : Who) (plan : EndPlan) → IsPlanOf who plan → AreFigures (figures_of plan)
are-figures who plan p =
    let some_ack = (p.settings AckTicks).0 in
    let some_reply = (p.settings ReplyTicks).0 in
    record {
      some_ack = some_ack;
      some_reply = (omega (arith, some_reply));
      waits = (let one = mul-suc plan.ack_ticks plan.max_enqs in let e : plan.max_enqs + 1 ≡ suc plan.max_enqs = omega arith in let same = ap (λ (n : ℕ). plan.ack_ticks * n) e in
          let enqs = ap (λ (n : ℕ). plan.ack_ticks * n) (let e : plan.max_enqs - 0 ≡ plan.max_enqs = omega arith in e) in
          let naks = ap (λ (n : ℕ). (plan.ack_ticks - 1) * n) (let e : plan.max_naks - 0 ≡ plan.max_naks = omega arith in e) in
          omega (arith, one, same, enqs, naks));
      of_message = le-max_left (message_ticks plan) plan.reply_ticks;
      of_reply = le-max_right (message_ticks plan) plan.reply_ticks;
    }

pub stands-first : (who by : Who) (check : Check) (plan : EndPlan) → IsPlanOf by plan → Stands who (figures_of plan) (first_side check plan) 0 []
stands-first who by check plan p =
    let none = whole (figures_of plan) 0 0 in
    let due : Due (figures_of plan) (first_side check plan).end.sender (first_side check plan).end.host none = record { most = 0; sender = omega arith; left = tt; out = tt; all = omega arith } in
    record {
      account = record {
        has = record { limits = refl; reply_ticks = refl; window = (p.settings Window).0; per_source = (p.settings PerSource).0 };
        whole = due;
        spent = inr (none, due, omega arith);
      };
    }

-- of an end in the end: where enough ticks came, all its commands are told of
told-all : (who : Who) (plan : EndPlan) → AreFigures (figures_of plan) → (issued : List (List ℕ)) (side : LineEndState) (drained : ℕ) (lines : List Line) → bodies_of side ≡ issued → AreOutcomesTold who side.end.host.initiator.issued lines
    → Stands who (figures_of plan) side drained lines → AreToldIn who (command_ticks plan) (message_ticks plan) issued drained lines
told-all who plan are issued side drained lines same outcomes s enough zero some within = absurd (omega (arith, some))
told-all who plan are issued side drained lines same outcomes s enough (suc k) some within =
    let f = figures_of plan in
    let count = ap length same in
    let times = ap (λ (n : ℕ). n * f.command) count in
    let over = all-over f are side.end (whole f (length (bodies_of side)) (length (executed_in who lines))) drained (omega (arith, enough, times)) s.account in
    let length_is = length-map side.end.host.initiator.issued (λ (c : Issued). c.body) in
    λ none. known-at side.end.host.initiator.issued k over (omega (arith, within, count, length_is)) (sym (outcomes (suc k)) ∙ none)

pub told-at-both : (script : Script) → IsPlayable script → AtBothEnds script (record_of script)
unfolding record_of
told-at-both script playable = at script.ends refl playable.ends
  where
    at : (ends : List EndPlan) → script.ends ≡ ends → AreEnds ends → AtBothEnds script (record_of script)
    at [] is none = absurd none
    at (a ∷ []) is none = absurd none
    at (a ∷ b ∷ c ∷ more) is none = absurd none
    at (a ∷ b ∷ []) is ends =
        let of_a : plan_of_a script ≡ a = ap (λ (plans : List EndPlan). slice_index_or plans 0 (first_plan A 0)) is in
        let of_b : plan_of_b script ≡ b = ap (λ (plans : List EndPlan). slice_index_or plans 1 (first_plan B 1)) is in
        let plan_a : IsPlanOf A (plan_of_a script) = subst (IsPlanOf A) (sym of_a) ends.0 in
        let plan_b : IsPlanOf B (plan_of_b script) = subst (IsPlanOf B) (sym of_b) ends.1 in
        let are = are-figures A (plan_of_a script) plan_a in
        let far_are = are-figures B (plan_of_b script) plan_b in
        let first : BothStand A B (figures_of (plan_of_a script)) (figures_of (plan_of_b script)) (start script) 0 0 [] =
        record { stands = stands-first A A script.check (plan_of_a script) plan_a; far_stands = stands-first B B script.check (plan_of_b script) plan_b } in
        let last = stand-events (figures_of (plan_of_a script)) (figures_of (plan_of_b script)) are far_are script.events (start script) 0 0 [] playable.events first in
        let told = recounts-run script playable in
        record {
          at_a = told-all A (plan_of_a script) are (commands_of_a script) (last_state script).a (drained_ticks A script) (lines_after (start script) script.events) told.recounts.issued.bodies told.recounts.outcomes last.stands;
          at_b = told-all B (plan_of_b script) far_are (commands_of_b script) (last_state script).b (drained_ticks B script) (lines_after (start script) script.events) told.far_recounts.issued.bodies told.far_recounts.outcomes last.far_stands;
        }
