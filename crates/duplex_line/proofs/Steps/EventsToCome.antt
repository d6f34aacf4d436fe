-- Playing one event after another: that there is room for the events that are still to come.
use Rattle.std.proofs.Common.{ℕ, ◌+◌, ◌≤◌, List, ◌∷◌, cond, arith}
use Rattle.std.specs.Prelude.{count_by, sum_by}
use Rattle.std.proofs.lemmas.List.Sums.{sum_by-cons}
use Rattle.script_statement.specs.declared.who.Who.TheVariants.{A, B, M, S}
use Rattle.script_parts.specs.declared.script.Event.{Event}
use Rattle.script_parts.specs.declared.script.Event.TheVariants as event
use Rattle.script_parts.specs.Playable.{IsPossible, issues, count_of}
use Rattle.duplex_line.specs.Acts.{LineState}
use Rattle.duplex_line.specs.Run.{after_event, seen_from, who_of}
use Rattle.duplex_line.specs.Plays.{issued_by, most_events, IsUnspent}
use Rattle.duplex_line.proofs.Once.IssueLimits.{commands-of-a, commands-of-b}

-- there is room for the commands that are still to come
pub room-of-a : (s : LineState) (e : Event) (rest : List Event) → IsPossible e → issued_by s.a + count_by (issues A) (e ∷ rest) ≤ 65535 → issued_by (after_event s e).a + count_by (issues A) rest ≤ 65535
room-of-a s e rest possible few =
    let more = sum_by-cons (λ (x : Event). cond (issues A x) 1 0) e rest in
    let new = commands-of-a e s possible in
    omega (arith, more, new, few)

pub room-of-b : (s : LineState) (e : Event) (rest : List Event) → IsPossible e → issued_by s.b + count_by (issues B) (e ∷ rest) ≤ 65535 → issued_by (after_event s e).b + count_by (issues B) rest ≤ 65535
room-of-b s e rest possible few =
    let more = sum_by-cons (λ (x : Event). cond (issues B x) 1 0) e rest in
    let new = commands-of-b e s possible in
    omega (arith, more, new, few)

-- the next command is not the 65,536th of its end
pub unspent : (s : LineState) (e : Event) (rest : List Event) → IsPossible e → issued_by s.a + count_by (issues A) (e ∷ rest) ≤ 65535 → issued_by s.b + count_by (issues B) (e ∷ rest) ≤ 65535
    → IsUnspent (seen_from (who_of e) s).a e
unspent s (event.Issue A src dst payload) rest possible few-a few-b = let more = sum_by-cons (λ (x : Event). cond (issues A x) 1 0) (event.Issue A src dst payload) rest in omega (arith, more, few-a)
unspent s (event.Issue B src dst payload) rest possible few-a few-b = let more = sum_by-cons (λ (x : Event). cond (issues B x) 1 0) (event.Issue B src dst payload) rest in omega (arith, more, few-b)
unspent s (event.Issue M src dst payload) rest possible few-a few-b = let no = possible.0 in absurd cc
unspent s (event.Issue (S station) src dst payload) rest possible few-a few-b = let no = possible.0 in absurd cc
unspent s (event.Take who n) rest possible few-a few-b = tt
unspent s (event.Deliver lane n) rest possible few-a few-b = tt
unspent s (event.Lose lane n) rest possible few-a few-b = tt
unspent s (event.Alter lane mask) rest possible few-a few-b = tt
unspent s (event.Foreign lane bytes) rest possible few-a few-b = tt
unspent s (event.Tick who n) rest possible few-a few-b = tt

-- an event more is within the sum
pub sum-of-next : (sum : ℕ) (e : Event) (rest : List Event) → sum + sum_by count_of (e ∷ rest) ≤ most_events → sum + count_of e + sum_by count_of rest ≤ most_events
sum-of-next sum e rest few = let more = sum_by-cons count_of e rest in omega (arith, more, few)
