-- A full-duplex run: how many drained ticks are left at each end; and in the end, where enough came since its last command and the last that it executed, none.
use Rattle.std.proofs.Common.{◌≡◌, ◌∙◌, ℕ, zero, suc, ◌+◌, ◌-◌, ◌*◌, Bool, true, false, ◌||◌, cond, List, [], ◌∷◌, ◌++◌, length, map, Option, Some, None, refl, sym, ap, subst, arith, append-nil, append_assoc}
use Rattle.std.specs.Prelude.{All, IsTrue, replicate, slice_index_or, not, ◌&&◌}
use Rattle.std.proofs.lemmas.List.{length-map}
use Rattle.std.proofs.lemmas.List.Elements.{All-head, All-tail, filter_map-append}
use Rattle.df1_node.specs.Initiator.{Issued}
use Rattle.df1_node.specs.Node.{NodeState, after_tick as node_ticked}
use Rattle.df1_base.specs.HostAnswers.{host_told}
use Rattle.duplex_sender.specs.Sender.{tick_turn}
use Rattle.duplex_end.specs.End.{holds_message, act_of_byte, fate_at, host_at_byte, fate_of_tick, host_at_tick}
use Rattle.duplex_line.specs.Acts.{LineEndState, LineState, swapped, Deed, Issue, Take, Deliver, Lose, Alter, Foreign, Tick, near_after, arriving, after_arrival, after_cell, body_heard, after_deed, after_deeds, near_lines, arrival_lines, lines_at, lines_over, given_over}
use Rattle.duplex_line.specs.Issues.{bodies_of, commands_of_a, commands_of_b}
use Rattle.duplex_line.specs.Rest.{is_between, is_at_rest}
use Rattle.duplex_line.specs.Prompt.{is_quiet}
use Rattle.duplex_line.specs.Run.{plan_of_a, plan_of_b, start, who_of, deeds_of, seen_from, other, after_event, deed_lines, lines_of, state_after, lines_after, last_state}
use Rattle.duplex_line.specs.Run as duplex
use Rattle.duplex_line.proofs.Once.Invariant.{AreTwo, two-swapped, a-and-b, joins-end}
use Rattle.duplex_line.proofs.Once.SentMessages.{handed_at, take-host}
use Rattle.duplex_line.proofs.Once.ToldCommands.{recounts-run, same-act, same-fate, same-handed}
use Rattle.duplex_line.proofs.Once.WholeRun.{IsPlain, ArePlain, plain-again, plain-foreign}
use Rattle.each_once.proofs.IssuedCommands.{same-both, same-tick}
use Rattle.each_once.specs.Commands.{AreOutcomesTold}
use Rattle.each_once.specs.NodeHost.{node_host}
use Rattle.each_once.specs.Tells.{executed_at, executed_in, is_who}
use Rattle.lane_cells.specs.Cells.{LaneCell}
use Rattle.line_world.specs.Runs.{record_of}
use Rattle.line_world.proofs.EitherMode.{duplex-record}
use Rattle.replay_report.specs.declared.record.Line.{Line}
use Rattle.replay_report.specs.declared.record.Record.{Record}
use Rattle.replay_report.specs.Report.{sent_lines}
use Rattle.script_parts.specs.declared.script.EndPlan.{EndPlan}
use Rattle.script_parts.specs.declared.script.Event.{Event}
use Rattle.script_parts.specs.declared.script.Event.TheVariants as event
use Rattle.script_parts.specs.declared.script.Script.{Script}
use Rattle.script_parts.specs.HalfPlayable.{CanBePlayed}
use Rattle.script_parts.specs.Plans.{first_plan}
use Rattle.script_parts.specs.Playable.{AreEnds, IsPlanOf, IsPossible, IsPlayable, is_end, is_same_end, issues}
use Rattle.script_statement.specs.declared.who.Who.{Who}
use Rattle.script_statement.specs.declared.who.Who.TheVariants.{A, B, M, S}
use Rattle.run_laws.specs.Bounds.{message_ticks, command_ticks, AreAllTold}
use Rattle.run_laws.specs.Drained.{drained_at, drained_over, drained_in, drained_with}
use Rattle.run_laws.specs.Idle.{are_some, left_alone_with, left_alone_after, left_alone_ticks, IsIdleAt, AreEnough, AreIdleThen, EndsComeToIdle, IsLeftAlone}
use Rattle.run_laws.proofs.NodeAccount.{known-at}
use Rattle.run_laws.proofs.EndAccount.{Figures, AreFigures}
use Rattle.run_laws.proofs.IdleAccount.{Left, left-more, of-account, left-take, left-act, left-tick, IsDone, none-left}
use Rattle.run_laws.proofs.DuplexRun.{cell-count, whole, Stands, BothStand, own, stand-event, stands-first, figures_of, are-figures}

-- ---- one step

-- an end goes on, with the same commands, and so many drained ticks are left to it
record Goes (f : Figures) (side now : LineEndState) (rest : ℕ) : Type 0 where
  left : Left f now.end rest
  same : bodies_of now ≡ bodies_of side

-- a step that takes nothing
goes-still : (f : Figures) (side now : LineEndState) (ticks : ℕ) → bodies_of now ≡ bodies_of side → Left f now.end ticks → Goes f side now (ticks - 0)
goes-still f side now ticks same l = record { left = left-more f now.end ticks (ticks - 0) (omega arith) l; same = same }

-- at the end itself
goes-near : (f : Figures) → AreFigures f → (side : LineEndState) (deed : Deed) (ticks : ℕ) → IsPlain deed → Left f side.end ticks → Goes f side (near_after side deed) (ticks - drained_at side deed)
goes-near f are side (Issue src dst payload) ticks plain l = absurd plain
goes-near f are side Take ticks plain l =
    let same : bodies_of (near_after side Take) ≡ bodies_of side = ap (λ (h : NodeState). map {A = Issued} (λ c. c.body) h.initiator.issued) (take-host node_host side.end) ∙ (same-handed (handed_at node_host side.end) side.end.host).bodies in
    goes-still f side (near_after side Take) ticks same (left-take f are side.end ticks l)
goes-near f are side Deliver ticks plain l = goes-still f side (near_after side Deliver) ticks refl l
goes-near f are side Lose ticks plain l = goes-still f side (near_after side Lose) ticks refl l
goes-near f are side (Alter mask) ticks plain l = goes-still f side (near_after side (Alter mask)) ticks refl l
goes-near f are side (Foreign byte) ticks plain l = goes-still f side side ticks refl l
goes-near f are side Tick ticks plain l =
    let e = side.end in
    let now = host_at_tick node_host e in
    record { left = left-tick f are e ticks l; same = (same-both e.host.initiator now.initiator (node_ticked now).initiator (same-fate (fate_of_tick (tick_turn e.sender)) e.host) (same-tick now)).bodies }

-- at the other end, where it executes nothing
goes-arrival : (who : Who) → is_who who who ≡ true → (f : Figures) → AreFigures f → (side : LineEndState) (cell : Option LaneCell) (ticks : ℕ) → executed_in who (arrival_lines who side cell) ≡ [] → Left f side.end ticks → Goes f side (after_arrival side cell) ticks
goes-arrival who itself f are side None ticks none l = record { left = l; same = refl }
goes-arrival who itself f are side (Some cell) ticks none l =
    let e = side.end in
    let what = act_of_byte node_host e cell.byte in
    let fate = fate_at what e.sender in
    let body = body_heard side cell in
    let now = host_at_byte node_host e cell.byte in
    record {
      left = left-act f are e (after_cell side cell).end what fate body ticks refl refl (sym (cell-count who itself side cell) ∙ ap (λ (bodies : List (List ℕ)). length bodies) none) l;
      same = (same-both e.host.initiator now.initiator (host_told node_host fate now).initiator (same-act what e.host body) (same-fate fate now)).bodies;
    }

-- ---- steps

goes-deeds : (f : Figures) → AreFigures f → (s : LineState) (deeds : List Deed) (ticks : ℕ) → ArePlain deeds → Left f s.a.end ticks → Goes f s.a (after_deeds s deeds).a (ticks - drained_over s.a deeds)
goes-deeds f are s [] ticks plain l = goes-still f s.a s.a ticks refl l
goes-deeds f are s (deed ∷ deeds) ticks plain l =
    let first = goes-near f are s.a deed ticks plain.0 l in
    let then = goes-deeds f are (after_deed s deed) deeds (ticks - drained_at s.a deed) plain.1 first.left in
    let now = after_deeds (after_deed s deed) deeds in
    record {
      left = left-more f now.a.end (ticks - drained_at s.a deed - drained_over (near_after s.a deed) deeds) (ticks - drained_over s.a (deed ∷ deeds)) (omega arith) then.left;
      same = then.same ∙ first.same;
    }

both-none : {X : Type 0} (xs ys : List X) → xs ++ ys ≡ [] → (xs ≡ []) × (ys ≡ [])
both-none [] ys none = (refl, none)
both-none (x ∷ xs) ys none = absurd cc

executed-none : (who : Who) (first second : List Line) → executed_in who (first ++ second) ≡ [] → (executed_in who first ≡ []) × (executed_in who second ≡ [])
executed-none who first second none = both-none (executed_in who first) (executed_in who second) (sym (filter_map-append (executed_at who) first second) ∙ none)

goes-far : (near far : Who) → AreTwo near far → (f : Figures) → AreFigures f → (s : LineState) (deeds : List Deed) (ticks : ℕ) → executed_in far (lines_over near far s deeds) ≡ [] → Left f s.b.end ticks → Goes f s.b (after_deeds s deeds).b ticks
goes-far near far two f are s [] ticks none l = record { left = l; same = refl }
goes-far near far two f are s (deed ∷ deeds) ticks none l =
    let parts = executed-none far (lines_at near far s deed) (lines_over near far (after_deed s deed) deeds) none in
    let here = executed-none far (near_lines near s.a deed) (arrival_lines far s.b (arriving s.a deed)) parts.0 in
    let first = goes-arrival far two.far_itself f are s.b (arriving s.a deed) ticks here.1 l in
    let then = goes-far near far two f are (after_deed s deed) deeds ticks parts.1 first.left in
    record { left = then.left; same = then.same ∙ first.same }

-- ---- an event

-- the end of this name
abbrev side_of : Who → LineState → LineEndState
side_of who s = (seen_from who s).a

goes-seen : (who by : Who) → IsTrue (is_end who) → IsTrue (is_end by) → (f : Figures) → AreFigures f → (s : LineState) (deeds : List Deed) (ticks : ℕ) → (is_same_end who by ≡ true → ArePlain deeds) → executed_in who (deed_lines by (seen_from by s) deeds) ≡ []
    → Left f (side_of who s).end ticks → Goes f (side_of who s) (side_of who (seen_from by (after_deeds (seen_from by s) deeds))) (ticks - own who by (drained_over (seen_from by s).a deeds))
goes-seen A A end by_end f are s deeds ticks plain none l = goes-deeds f are s deeds ticks (plain refl) l
goes-seen A B end by_end f are s deeds ticks plain none l =
    let g = goes-far B A (two-swapped A B a-and-b) f are (swapped s) deeds ticks (executed-none A (lines_over B A (swapped s) deeds) (sent_lines B (given_over s.b deeds)) none).0 l in
    goes-still f s.a (after_deeds (swapped s) deeds).b ticks g.same g.left
goes-seen B A end by_end f are s deeds ticks plain none l =
    let g = goes-far A B a-and-b f are s deeds ticks (executed-none B (lines_over A B s deeds) (sent_lines A (given_over s.a deeds)) none).0 l in
    goes-still f s.b (after_deeds s deeds).b ticks g.same g.left
goes-seen B B end by_end f are s deeds ticks plain none l = goes-deeds f are (swapped s) deeds ticks (plain refl) l
goes-seen A M end by_end f are s deeds ticks plain none l = absurd cc
goes-seen A (S station) end by_end f are s deeds ticks plain none l = absurd cc
goes-seen B M end by_end f are s deeds ticks plain none l = absurd cc
goes-seen B (S station) end by_end f are s deeds ticks plain none l = absurd cc
goes-seen M by end by_end f are s deeds ticks plain none l = absurd cc
goes-seen (S station) by end by_end f are s deeds ticks plain none l = absurd cc

-- an event at which the end issues no command and executes none
goes-event : (who : Who) → IsTrue (is_end who) → (f : Figures) → AreFigures f → (e : Event) (s : LineState) (ticks : ℕ) → IsPossible e → issues who e ≡ false → executed_in who (lines_of s e) ≡ [] → Left f (side_of who s).end ticks
    → Goes f (side_of who s) (side_of who (after_event s e)) (ticks - drained_in who s e)
goes-event who end f are (event.Issue by src dst payload) s ticks possible not none l = goes-seen who by end possible.0 f are s (Issue src dst payload ∷ []) ticks (λ is. absurd (let no : true ≡ false = sym is ∙ not in cc)) none l
goes-event who end f are (event.Take by n) s ticks possible not none l = goes-seen who by end possible.0 f are s (replicate n Take) ticks (λ is. plain-again Take tt n) none l
goes-event who end f are (event.Deliver lane n) s ticks possible not none l = goes-seen who lane.from end (joins-end lane.from lane.to possible.0) f are s (replicate n Deliver) ticks (λ is. plain-again Deliver tt n) none l
goes-event who end f are (event.Lose lane n) s ticks possible not none l = goes-seen who lane.from end (joins-end lane.from lane.to possible.0) f are s (replicate n Lose) ticks (λ is. plain-again Lose tt n) none l
goes-event who end f are (event.Alter lane mask) s ticks possible not none l = goes-seen who lane.from end (joins-end lane.from lane.to possible.0) f are s (Alter mask ∷ []) ticks (λ is. (tt, tt)) none l
goes-event who end f are (event.Foreign lane bytes) s ticks possible not none l = goes-seen who lane.from end (joins-end lane.from lane.to possible.0) f are s (map Foreign bytes) ticks (λ is. plain-foreign bytes) none l
goes-event who end f are (event.Tick by n) s ticks possible not none l = goes-seen who by end possible.0 f are s (replicate n Tick) ticks (λ is. plain-again Tick tt n) none l

-- ---- what is left, counted anew

-- what all commands of the end may take, by its commands and the lines so far
abbrev total_of : Who → Figures → LineEndState → List Line → ℕ
total_of who f side lines = whole f (length (bodies_of side)) (length (executed_in who lines))

-- the drained ticks that came since are off what is left of all
record Leaves (who : Who) (f : Figures) (side : LineEndState) (count : ℕ) (lines : List Line) : Type 0 where
  left : Left f side.end (total_of who f side lines - count)

leaves-anew : (who : Who) (f : Figures) (side : LineEndState) (drained : ℕ) (lines : List Line) → Stands who f side drained lines → Leaves who f side 0 lines
leaves-anew who f side drained lines s = record { left = left-more f side.end (total_of who f side lines) (total_of who f side lines - 0) (omega arith) (of-account f side.end (total_of who f side lines) drained s.account) }

leaves-event : (who : Who) → IsTrue (is_end who) → (f : Figures) → AreFigures f → (e : Event) (s : LineState) (count drained : ℕ) (lines : List Line) → IsPossible e → Stands who f (side_of who (after_event s e)) drained (lines ++ lines_of s e) → Leaves who f (side_of who s) count lines
    → Leaves who f (side_of who (after_event s e)) (left_alone_with who count s e) (lines ++ lines_of s e)
leaves-event who end f are e s count drained lines possible stands l = at (issues who e) (executed_in who (lines_of s e)) refl refl
  where
    at : (issued : Bool) (bodies : List (List ℕ)) → issues who e ≡ issued → executed_in who (lines_of s e) ≡ bodies → Leaves who f (side_of who (after_event s e)) (cond (issued || are_some bodies) 0 (count + drained_in who s e)) (lines ++ lines_of s e)
    at true bodies is some = leaves-anew who f (side_of who (after_event s e)) drained (lines ++ lines_of s e) stands
    at false (body ∷ bodies) is some = leaves-anew who f (side_of who (after_event s e)) drained (lines ++ lines_of s e) stands
    at false [] is none =
        let side = side_of who s in
        let now = side_of who (after_event s e) in
        let g = goes-event who end f are e s (total_of who f side lines - count) possible is none l.left in
        let executed : executed_in who (lines ++ lines_of s e) ≡ executed_in who lines = filter_map-append (executed_at who) lines (lines_of s e) ∙ ap (λ (xs : List (List ℕ)). executed_in who lines ++ xs) none ∙ append-nil (executed_in who lines) in
        let same : total_of who f now (lines ++ lines_of s e) ≡ total_of who f side lines = ap (λ (xs : List (List ℕ)). whole f (length xs) (length (executed_in who (lines ++ lines_of s e)))) g.same ∙ ap (λ (xs : List (List ℕ)). whole f (length (bodies_of side)) (length xs)) executed in
        record { left = left-more f now.end (total_of who f side lines - count - drained_in who s e) (total_of who f now (lines ++ lines_of s e) - (count + drained_in who s e)) (omega (arith, same)) g.left }

-- ---- a run

record BothLeave (f far_f : Figures) (s : LineState) (count far_count : ℕ) (lines : List Line) : Type 0 where
  leaves : Leaves A f s.a count lines
  far_leaves : Leaves B far_f s.b far_count lines

leave-events : (f far_f : Figures) → AreFigures f → AreFigures far_f → (events : List Event) (s : LineState) (drained far_drained count far_count : ℕ) (lines : List Line) → All IsPossible events → BothStand A B f far_f s drained far_drained lines → BothLeave f far_f s count far_count lines
    → BothLeave f far_f (state_after s events) (left_alone_after A count s events) (left_alone_after B far_count s events) (lines ++ lines_after s events)
leave-events f far_f are far_are [] s drained far_drained count far_count lines possible b l = rw (append-nil lines) l
leave-events f far_f are far_are (e ∷ events) s drained far_drained count far_count lines possible b l =
    let first = All-head IsPossible e events possible in
    let stand = stand-event f far_f are far_are e s drained far_drained lines first b in
    subst (λ (all : List Line). BothLeave f far_f (state_after s (e ∷ events)) (left_alone_after A count s (e ∷ events)) (left_alone_after B far_count s (e ∷ events)) all) (append_assoc lines (lines_of s e) (lines_after (after_event s e) events))
    (leave-events f far_f are far_are events (after_event s e) (drained_with A drained s e) (drained_with B far_drained s e) (left_alone_with A count s e) (left_alone_with B far_count s e) (lines ++ lines_of s e) (All-tail IsPossible e events possible) stand
    (record {
      leaves = leaves-event A refl f are e s count (drained_with A drained s e) lines first stand.stands l.leaves;
      far_leaves = leaves-event B refl far_f far_are e s far_count (drained_with B far_drained s e) lines first stand.far_stands l.far_leaves;
    }))

-- of an end in the end: where all is over, all its commands are told of
told-then : (who : Who) (issued : List (List ℕ)) (side : LineEndState) (lines : List Line) → bodies_of side ≡ issued → AreOutcomesTold who side.end.host.initiator.issued lines → IsDone side.end → AreAllTold who issued lines
told-then who issued side lines same outcomes done zero some within = absurd (omega (arith, some))
told-then who issued side lines same outcomes done (suc k) some within =
    let count = ap (λ (bodies : List (List ℕ)). length bodies) same in
    let length_is = length-map side.end.host.initiator.issued (λ (c : Issued). c.body) in
    λ none. known-at side.end.host.initiator.issued k done.over (omega (arith, within, count, length_is)) (sym (outcomes (suc k)) ∙ none)

-- and where enough ticks came, it is idle
idle-then : (who : Who) (plan : EndPlan) → AreFigures (figures_of plan) → (issued : List (List ℕ)) (side : LineEndState) (count : ℕ) (lines : List Line) → bodies_of side ≡ issued → AreOutcomesTold who side.end.host.initiator.issued lines
    → Leaves who (figures_of plan) side count lines → AreEnough who (command_ticks plan) (message_ticks plan) issued count lines → IsIdleAt who issued side lines
idle-then who plan are issued side count lines same outcomes l enough =
    let f = figures_of plan in
    let times = ap (λ (bodies : List (List ℕ)). length bodies * f.command) same in
    let done = none-left f are side.end (left-more f side.end (total_of who f side lines - count) 0 (omega (arith, enough, times)) l.left) in
    record { all_told = told-then who issued side lines same outcomes done; holds_none = done.holds_none; no_reply = done.no_reply }

idle-at-both : (script : Script) → IsPlayable script → AreIdleThen script (duplex.record_of script)
unfolding duplex.record_of
idle-at-both script playable = at script.ends refl playable.ends
  where
    at : (ends : List EndPlan) → script.ends ≡ ends → AreEnds ends → AreIdleThen script (duplex.record_of script)
    at [] is none = absurd none
    at (a ∷ []) is none = absurd none
    at (a ∷ b ∷ c ∷ more) is none = absurd none
    at (a ∷ b ∷ []) is ends =
        let of_a : plan_of_a script ≡ a = ap (λ (plans : List EndPlan). slice_index_or plans 0 (first_plan A 0)) is in
        let of_b : plan_of_b script ≡ b = ap (λ (plans : List EndPlan). slice_index_or plans 1 (first_plan B 1)) is in
        let plan_a : IsPlanOf A (plan_of_a script) = subst (IsPlanOf A) (sym of_a) ends.0 in
        let plan_b : IsPlanOf B (plan_of_b script) = subst (IsPlanOf B) (sym of_b) ends.1 in
        let f = figures_of (plan_of_a script) in
        let far_f = figures_of (plan_of_b script) in
        let are = are-figures A (plan_of_a script) plan_a in
        let far_are = are-figures B (plan_of_b script) plan_b in
        let first = stands-first A A script.check (plan_of_a script) plan_a in
        let far_first = stands-first B B script.check (plan_of_b script) plan_b in
        let last = leave-events f far_f are far_are script.events (start script) 0 0 0 0 [] playable.events (record { stands = first; far_stands = far_first })
        (record { leaves = leaves-anew A f (start script).a 0 [] first; far_leaves = leaves-anew B far_f (start script).b 0 [] far_first }) in
        let told = recounts-run script playable in
        record {
          at_a = idle-then A (plan_of_a script) are (commands_of_a script) (last_state script).a (left_alone_ticks A script) (lines_after (start script) script.events) told.recounts.issued.bodies told.recounts.outcomes last.leaves;
          at_b = idle-then B (plan_of_b script) far_are (commands_of_b script) (last_state script).b (left_alone_ticks B script) (lines_after (start script) script.events) told.far_recounts.issued.bodies told.far_recounts.outcomes last.far_leaves;
        }

pub ends-come-to-idle : (script : Script) → CanBePlayed script → EndsComeToIdle script (record_of script)
ends-come-to-idle script h mode = subst (λ (r : Record). AreIdleThen script r) (sym (duplex-record script mode)) (idle-at-both script (h.full mode))

-- ---- a line at rest

resting : (held between : Bool) → held ≡ false → between ≡ true → (not held && between) ≡ true
resting false true none is = refl
resting false false none is = is
resting true between none is = absurd cc

all-three : (x y z : Bool) → x ≡ true → y ≡ true → z ≡ true → (x && (y && z)) ≡ true
all-three true true true a b c = refl
all-three true true false a b c = c
all-three true false z a b c = b
all-three false y z a b c = a

pub comes-to-rest : (script : Script) → CanBePlayed script → IsLeftAlone script (record_of script) → is_at_rest (last_state script) ≡ true
comes-to-rest script h alone =
    let idle = ends-come-to-idle script h alone.mode in
    let s = last_state script in
    all-three (is_quiet s) _ _ alone.quiet
    (resting (holds_message s.a.end) (is_between s.a.end.receiver.decoding.standing) (idle.at_a alone.at_a).holds_none alone.between_a)
    (resting (holds_message s.b.end) (is_between s.b.end.receiver.decoding.standing) (idle.at_b alone.at_b).holds_none alone.between_b)
