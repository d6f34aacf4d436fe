-- A full-duplex script cut where the report tells a command as ended and nothing is on its way: no later line tells it as executed.
use Rattle.std.proofs.Common.{◌≡◌, ◌∙◌, ℕ, zero, suc, true, false, List, [], ◌∷◌, ◌++◌, map, Option, Some, None, slice_get, refl, sym, ap, subst, arith}
use Rattle.std.specs.Prelude.{IsTrue, All, Contains}
use Rattle.std.specs.Option.{option_map}
use Rattle.std.proofs.lemmas.List.Elements.{All-nil}
use Rattle.std.proofs.lemmas.Option.{same_Some, slice_get-map}
use Rattle.df1_node.specs.Initiator.{Issued, Standing, Waiting, Out, Answered, Undelivered, Unanswered, is_settled, is_waiting}
use Rattle.duplex_line.specs.Issues.{commands_of_a, commands_of_b}
use Rattle.duplex_line.specs.Run.{plan_of_a, plan_of_b, start, other, state_after, lines_after, last_state, record_of as duplex_record}
use Rattle.duplex_line.proofs.Once.ToldCommands.{recounts-run}
use Rattle.each_once.specs.Commands.{AreOutcomesTold, told_of, told_of_command, command_at}
use Rattle.each_once.specs.Tells.{outcomes_in}
use Rattle.each_once.proofs.Sublists.{get-more}
use Rattle.lane_cells.specs.Cells.{LaneCell}
use Rattle.line_world.specs.Runs.{record_of}
use Rattle.line_world.proofs.EitherMode.{duplex-record}
use Rattle.run_laws.specs.Overtaking.{with_events}
use Rattle.run_laws.proofs.Cut.{duplex-front, all-front}
use Rattle.replay_report.specs.declared.record.Line.{Line}
use Rattle.replay_report.specs.declared.record.Record.{Record}
use Rattle.script_parts.specs.declared.script.Event.{Event}
use Rattle.script_parts.specs.declared.script.Script.{Script}
use Rattle.script_parts.specs.Playable.{IsPlayable, IsPossible, is_end}
use Rattle.script_statement.specs.declared.who.Who.{Who}
use Rattle.script_statement.specs.declared.who.Who.TheVariants.{A, B, M, S}
use Rattle.run_laws.specs.GivenUp.{IsCleared, NeverLater, OfEnd, OfBothEnds, lines_so_far}
use Rattle.run_laws.specs.Over.{HoldsNot, IsOfOther, IsOverAt}
use Rattle.run_laws.proofs.ClearedLane.{is-empty, lane_from, lines-both, so-far}
use Rattle.run_laws.proofs.NoneUnanswered.{no-unanswered-held}
use Rattle.run_laws.proofs.NoneUndelivered.{no-undelivered-held}
use Rattle.run_laws.proofs.OverAtCut.{bodies-front, commands_at, late-at, state_at}

-- ---- a command whose outcome is told

-- a command that stands so, and waits no more
pub record StandsSo (issued : List Issued) (p : ℕ) (outcome : Standing) : Type 0 where
  pub command : Issued
  pub is_at : slice_get issued p ≡ Some command
  pub stands : command.standing ≡ outcome
  pub handed_out : is_waiting command.standing ≡ false
  pub settled : is_settled command.standing ≡ true

one-of : {X : Type 0} (x y : X) → Contains (x ∷ []) y → x ≡ y
one-of x y (zero, inside, is) = is
one-of x y (suc k, inside, is) = absurd (omega (arith, inside))

none-of : (y : Standing) → Contains [] y → ⊥
none-of y (k, inside, is) = omega (arith, inside)

told-standing : (standing outcome : Standing) → Contains (told_of standing) outcome → (standing ≡ outcome) × (is_waiting standing ≡ false) × (is_settled standing ≡ true)
told-standing Waiting outcome told = absurd (none-of outcome told)
told-standing (Out left) outcome told = absurd (none-of outcome told)
told-standing (Answered reply) outcome told = (one-of (Answered reply) outcome told, refl, refl)
told-standing Undelivered outcome told = (one-of Undelivered outcome told, refl, refl)
told-standing Unanswered outcome told = (one-of Unanswered outcome told, refl, refl)

told-command : (issued : List Issued) (p : ℕ) (outcome : Standing) (o : Option Issued) → slice_get issued p ≡ o → Contains (told_of_command o) outcome → StandsSo issued p outcome
told-command issued p outcome None at told = absurd (none-of outcome told)
told-command issued p outcome (Some c) at told = let is = told-standing c.standing outcome told in record { command = c; is_at = at; stands = is.0; handed_out = is.1; settled = is.2 }

-- the number of a command whose outcome is told is that of its place, counted from 1
pub told-place : (who : Who) (issued : List Issued) (lines : List Line) → AreOutcomesTold who issued lines → (n : ℕ) (outcome : Standing) → Contains (outcomes_in who n lines) outcome → (p : ℕ) × (n ≡ suc p) × StandsSo issued p outcome
told-place who issued lines are zero outcome told = absurd (none-of outcome (subst (λ (l : List Standing). Contains l outcome) (are 0) told))
told-place who issued lines are (suc p) outcome told = (p, refl, told-command issued p outcome (slice_get issued p) refl (subst (λ (l : List Standing). Contains l outcome) (are (suc p)) told))

abbrev pub bodies : List Issued → List (List ℕ)
bodies issued = map (λ (c : Issued). c.body) issued

-- a command of the first of all is that of the same place of all
pub same-body : (issued : List Issued) (p : ℕ) (c : Issued) (all more : List (List ℕ)) (body : List ℕ) → slice_get issued p ≡ Some c → all ≡ bodies issued ++ more → slice_get all p ≡ Some body → c.body ≡ body
same-body issued p c all more body at are is =
    let here : slice_get (bodies issued) p ≡ Some c.body = slice_get-map (λ (x : Issued). x.body) issued p ∙ ap (option_map (λ (x : Issued). x.body)) at in
    same_Some c.body body (sym (get-more (bodies issued) more p c.body here) ∙ sym (ap (λ (l : List (List ℕ)). slice_get l p) are) ∙ is)

-- ---- at a cut

-- a script, cut after these events
record Cut (script : Script) (front back : List Event) : Type 0 where
  playable : IsPlayable script
  none : (last_state script).deceived ≡ 0
  is : script.events ≡ front ++ back

outcomes-at : (near : Who) → IsTrue (is_end near) → (script : Script) (front back : List Event) → Cut script front back → AreOutcomesTold near (state_at near script front).a.end.host.initiator.issued (lines_after (start script) front)
outcomes-at A end script front back cut = (recounts-run (with_events script front) (duplex-front script front back cut.playable cut.is)).recounts.outcomes
outcomes-at B end script front back cut = (recounts-run (with_events script front) (duplex-front script front back cut.playable cut.is)).far_recounts.outcomes
outcomes-at M end script front back cut = absurd cc
outcomes-at (S station) end script front back cut = absurd cc

-- a command that ended so, of which its end holds none, and nothing is on its way
late-none : (near : Who) → IsTrue (is_end near) → (script : Script) (front back : List Event) → Cut script front back → lane_from near (state_after (start script) front) ≡ []
    → (EndedSo : Standing → Type 0) → ((p : ℕ) (c : Issued) → slice_get (state_at near script front).a.end.host.initiator.issued p ≡ Some c → EndedSo c.standing → HoldsNot (state_at near script front).a.end.sender c.body)
    → NeverLater near (other near) EndedSo (commands_at near script) (lines_so_far script front) (lines_after (state_after (start script) front) back)
late-none near end script front back cut empty EndedSo holds_not n outcome told ended executed =
    let s = state_at near script front in
    let issued = s.a.end.host.initiator.issued in
    let place = told-place near issued (lines_so_far script front) (subst (AreOutcomesTold near issued) (sym (so-far script front cut.playable.mode)) (outcomes-at near end script front back cut)) n outcome told in
    let stands = place.2 in
    let front_of = bodies-front near end script cut.playable front back cut.is in
    let at_place : slice_get (commands_at near script) place.0 ≡ Some executed.body = sym (ap (command_at (commands_at near script)) place.1) ∙ executed.is_command in
    let same = same-body issued place.0 stands.command (commands_at near script) front_of.0 executed.body stands.is_at front_of.1 at_place in
    let over : IsOverAt s.a (suc place.0) executed.body = record {
      standing = stands.command;
      is_command = stands.is_at;
      has_body = same;
      handed_out = stands.handed_out;
      holds_not = subst (HoldsNot s.a.end.sender) same (holds_not place.0 stands.command stands.is_at (subst EndedSo (sym stands.stands) ended));
      none_comes = subst (All (λ (cell : LaneCell). IsOfOther executed.body cell.ends)) (sym empty) (All-nil (λ (cell : LaneCell). IsOfOther executed.body cell.ends));
    } in
    late-at near end script cut.playable cut.none front back cut.is (suc place.0) executed.body over executed.is_executed

of-end-a : (script : Script) (front back : List Event) → Cut script front back → IsCleared (record { from = A; to = B }) script front → OfEnd A B (plan_of_a script) script front (commands_of_a script) (lines_so_far script front) (lines_after (state_after (start script) front) back)
of-end-a script front back cut cleared =
    let empty = is-empty (record { from = A; to = B }) refl script cut.playable.mode front (all-front IsPossible front back (subst (All IsPossible) cut.is cut.playable.events)) cleared in
    record {
      undelivered = late-none A refl script front back cut empty (λ outcome. outcome ≡ Undelivered) (λ p c at ended. (no-undelivered-held script cut.playable cut.none front back cut.is).at_a (suc p) c at ended);
      unanswered = λ enough ticks. late-none A refl script front back cut empty (λ outcome. outcome ≡ Unanswered) (λ p c at ended. (no-unanswered-held script cut.playable cut.none front back cut.is).at_a enough ticks (suc p) c at ended);
    }

of-end-b : (script : Script) (front back : List Event) → Cut script front back → IsCleared (record { from = B; to = A }) script front → OfEnd B A (plan_of_b script) script front (commands_of_b script) (lines_so_far script front) (lines_after (state_after (start script) front) back)
of-end-b script front back cut cleared =
    let empty = is-empty (record { from = B; to = A }) refl script cut.playable.mode front (all-front IsPossible front back (subst (All IsPossible) cut.is cut.playable.events)) cleared in
    record {
      undelivered = late-none B refl script front back cut empty (λ outcome. outcome ≡ Undelivered) (λ p c at ended. (no-undelivered-held script cut.playable cut.none front back cut.is).at_b (suc p) c at ended);
      unanswered = λ enough ticks. late-none B refl script front back cut empty (λ outcome. outcome ≡ Unanswered) (λ p c at ended. (no-unanswered-held script cut.playable cut.none front back cut.is).at_b enough ticks (suc p) c at ended);
    }

-- the lines of the report, where it is cut
pub cut-report : (script : Script) (front back : List Event) → script.half ≡ false → script.events ≡ front ++ back → (record_of script).lines ≡ lines_so_far script front ++ lines_after (state_after (start script) front) back
unfolding duplex_record
cut-report script front back mode is =
    ap (λ (r : Record). r.lines) (duplex-record script mode) ∙ ap (lines_after (start script)) is ∙ lines-both front back (start script)
    ∙ ap (λ (l : List Line). l ++ lines_after (state_after (start script) front) back) (sym (so-far script front mode))

pub of-both-ends : (script : Script) → IsPlayable script → (last_state script).deceived ≡ 0 → (front back : List Event) → script.events ≡ front ++ back → OfBothEnds script front (lines_so_far script front) (lines_after (state_after (start script) front) back)
of-both-ends script playable none front back is =
    let cut : Cut script front back = record { playable = playable; none = none; is = is } in
    record { of_a = of-end-a script front back cut; of_b = of-end-b script front back cut }
