-- A front of the events of a half-duplex script that can be played is played in a run of its own; and a run in two parts.
use Rattle.std.proofs.Common.{◌≡◌, ◌∙◌, ℕ, ◌+◌, ◌≤◌, List, [], ◌∷◌, ◌++◌, cond, refl, ap, sym, subst, arith, append_assoc}
use Rattle.std.specs.Prelude.{All, count_by, sum_by}
use Rattle.std.proofs.lemmas.List.Elements.{All-nil, All-cons, All-head, All-tail}
use Rattle.std.proofs.lemmas.List.Sums.{sum_by-append}
use Rattle.df1_node.specs.Node.{NodeState}
use Rattle.script_parts.specs.declared.script.Event.{Event}
use Rattle.script_parts.specs.declared.script.Script.{Script}
use Rattle.script_parts.specs.HalfPlayable.{IsHalfPossible, IsHalfPlayable, is_issue, half_count_of, numbers_of}
use Rattle.replay_report.specs.declared.record.Line.{Line}
use Rattle.half_line.specs.Behind.{plain_node}
use Rattle.half_line.specs.Acts.{HalfState}
use Rattle.half_line.specs.Run.{after_event, lines_of, state_after, lines_after}

-- ---- events

pub all-front : (numbers : List ℕ) (front rest : List Event) → All (IsHalfPossible numbers) (front ++ rest) → All (IsHalfPossible numbers) front
all-front numbers [] rest h = All-nil (IsHalfPossible numbers)
all-front numbers (e ∷ front) rest h =
    All-cons (IsHalfPossible numbers) e front (All-head (IsHalfPossible numbers) e (front ++ rest) h) (all-front numbers front rest (All-tail (IsHalfPossible numbers) e (front ++ rest) h))

pub all-back : (numbers : List ℕ) (front rest : List Event) → All (IsHalfPossible numbers) (front ++ rest) → All (IsHalfPossible numbers) rest
all-back numbers [] rest h = h
all-back numbers (e ∷ front) rest h = all-back numbers front rest (All-tail (IsHalfPossible numbers) e (front ++ rest) h)

pub count-both : (front rest : List Event) → count_by is_issue (front ++ rest) ≡ count_by is_issue front + count_by is_issue rest
count-both front rest = sum_by-append (λ (e : Event). cond (is_issue e) 1 0) front rest

pub front-plays : (script : Script) (front rest : List Event) → IsHalfPlayable script → script.events ≡ front ++ rest → IsHalfPlayable (record script { events = front })
front-plays script front rest playable is = record {
  mode = playable.mode;
  ends = playable.ends;
  events = all-front (numbers_of script.ends) front rest (subst (λ (l : List Event). All (IsHalfPossible (numbers_of script.ends)) l) is playable.events);
  commands = let few : count_by is_issue (front ++ rest) ≤ 65535 = subst (λ (l : List Event). count_by is_issue l ≤ 65535) is playable.commands in omega (arith, few, count-both front rest);
  sum = let all : sum_by (half_count_of (numbers_of script.ends)) (front ++ rest) ≤ 5000000 = subst (λ (l : List Event). sum_by (half_count_of (numbers_of script.ends)) l ≤ 5000000) is playable.sum in
      omega (arith, all, sum_by-append (half_count_of (numbers_of script.ends)) front rest);
}

-- ---- a run in two parts

pub state-both : (s : HalfState NodeState) (front rest : List Event) → state_after plain_node s (front ++ rest) ≡ state_after plain_node (state_after plain_node s front) rest
state-both s [] rest = refl
state-both s (e ∷ front) rest = state-both (after_event plain_node s e) front rest

pub lines-both : (s : HalfState NodeState) (front rest : List Event) → lines_after plain_node s (front ++ rest) ≡ lines_after plain_node s front ++ lines_after plain_node (state_after plain_node s front) rest
lines-both s [] rest = refl
lines-both s (e ∷ front) rest =
    ap (λ (lines : List Line). lines_of plain_node s e ++ lines) (lines-both (after_event plain_node s e) front rest)
    ∙ sym (append_assoc (lines_of plain_node s e) (lines_after plain_node (after_event plain_node s e) front) (lines_after plain_node (state_after plain_node (after_event plain_node s e) front) rest))
