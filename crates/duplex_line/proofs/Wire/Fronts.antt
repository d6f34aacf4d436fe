-- A front of the events of a script that can be played is played in a run of its own.
use Rattle.std.proofs.Common.{◌≡◌, ℕ, ◌≤◌, Bool, List, [], ◌∷◌, ◌++◌, cond, subst, arith}
use Rattle.std.specs.Prelude.{All, count_by, sum_by}
use Rattle.std.proofs.lemmas.List.Elements.{All-nil, All-cons, All-head, All-tail}
use Rattle.std.proofs.lemmas.List.Sums.{sum_by-append}
use Rattle.script_statement.specs.declared.who.Who.TheVariants.{A, B}
use Rattle.script_parts.specs.declared.script.Event.{Event}
use Rattle.script_parts.specs.declared.script.Script.{Script}
use Rattle.script_parts.specs.Playable.{IsPossible, IsPlayable, issues, count_of}

all-front : (front rest : List Event) → All IsPossible (front ++ rest) → All IsPossible front
all-front [] rest h = All-nil IsPossible
all-front (e ∷ front) rest h = All-cons IsPossible e front (All-head IsPossible e (front ++ rest) h) (all-front front rest (All-tail IsPossible e (front ++ rest) h))

count-front : (p : Event → Bool) (front rest : List Event) (most : ℕ) → count_by p (front ++ rest) ≤ most → count_by p front ≤ most
count-front p front rest most few = omega (arith, few, sum_by-append (λ (e : Event). cond (p e) 1 0) front rest)

pub front-plays : (script : Script) (front rest : List Event) → IsPlayable script → script.events ≡ front ++ rest → IsPlayable (record script { events = front })
front-plays script front rest playable is = record {
  mode = playable.mode;
  ends = playable.ends;
  events = all-front front rest (subst (λ (l : List Event). All IsPossible l) is playable.events);
  commands_of_a = count-front (issues A) front rest 65535 (subst (λ (l : List Event). count_by (issues A) l ≤ 65535) is playable.commands_of_a);
  commands_of_b = count-front (issues B) front rest 65535 (subst (λ (l : List Event). count_by (issues B) l ≤ 65535) is playable.commands_of_b);
  sum = let all : sum_by count_of (front ++ rest) ≤ 5000000 = subst (λ (l : List Event). sum_by count_of l ≤ 5000000) is playable.sum in omega (arith, all, sum_by-append count_of front rest);
}
