-- One direction of a link, whatever comes back: messages are handed out and sent, perhaps more than once, their bytes go down a lane, where they are lost and altered, and a receiver that keeps the key of the last message it accepted hears what is left of them.
use Rattle.std.proofs.Common.{◌≡◌, ◌∙◌, ℕ, suc, ◌≤◌, Bool, true, false, List, [], ◌∷◌, ◌++◌, length, Option, Some, None, refl, ap, sym, subst, arith, take, drop, length-append}
use Rattle.std.specs.Prelude.{slice_get, ◌==◌, if◌then◌else◌}
use Rattle.std.specs.Option.{option_or}
use Rattle.std.specs.List.{fold}
use Rattle.std.proofs.lemmas.List.{take-append-le}
use Rattle.std.proofs.lemmas.Option.{slice_get_within}
use Rattle.std.proofs.lemmas.Bool.Decides.{nat_tests}
use Rattle.pccc_envelope.specs.declared.key.Key.{Key}
use Rattle.pccc_envelope.specs.Envelope.{key_of}
use Rattle.pccc_envelope.specs.Accepted.{is_kept, same_key, Repeated, Accepted, Refused}
use Rattle.each_once.specs.Direction.{Direction, Happening, TakeUp, Give, GiveLast, Lose, Alter, Arrive, Intrude, last_of, unmarked, with_verdict, after_arrival, after}
use Rattle.each_once.proofs.Sublists.{IsWithin, nothing, within-push, within-take, get-more, same-some, get-seam}

-- a lane: of each byte, the message of the transmission that it ends, if it ends one
abbrev pub Lane : Type 0
Lane = List (Option (List ℕ))

-- the transmissions in a lane are of messages from one place on, and none is of a message before the one ahead of it
abbrev pub AreCarried : List (List ℕ) → ℕ → Lane → Type 0
AreCarried messages low [] = Unit {0}
AreCarried messages low (None ∷ lane) = AreCarried messages low lane
AreCarried messages low (Some body ∷ lane) = (m : ℕ) × (low ≤ m) × (slice_get messages m ≡ Some body) × AreCarried messages m lane

-- the place from which on a message may come, and the one after the last accepted
abbrev pub from : Option ℕ → ℕ
from None = 0
from (Some m) = m

abbrev pub past : Option ℕ → ℕ
past None = 0
past (Some m) = suc m

-- the key of the last accepted message is kept
abbrev pub IsKept : List (List ℕ) → Option ℕ → Option Key → Type 0
IsKept messages None kept = kept ≡ None
IsKept messages (Some m) kept = (body : List ℕ) × (slice_get messages m ≡ Some body) × (kept ≡ Some (key_of body))

-- messages were handed out; what is on the way is of the last accepted one or of later ones, and the accepted ones stand among those before
pub record Way (messages : List (List ℕ)) (lane : Lane) (kept : Option Key) (accepted : List (List ℕ)) : Type 0 where
  pub last : Option ℕ
  pub in_order : IsWithin accepted (take (past last) messages)
  pub keeps : IsKept messages last kept
  pub carried : AreCarried messages (from last) lane

pub way-start : Way [] [] None []
way-start = record { last = None; in_order = nothing; keeps = refl; carried = tt }

-- the accepted messages are some of those handed out, in their order
pub way-within : (messages : List (List ℕ)) (lane : Lane) (kept : Option Key) (accepted : List (List ℕ)) → Way messages lane kept accepted → IsWithin accepted messages
way-within messages lane kept accepted w = within-take (past w.last) accepted messages w.in_order

-- ---- the sender's side

carried-more : (messages more : List (List ℕ)) (low : ℕ) (lane : Lane) → AreCarried messages low lane → AreCarried (messages ++ more) low lane
carried-more messages more low [] h = tt
carried-more messages more low (None ∷ lane) h = carried-more messages more low lane h
carried-more messages more low (Some body ∷ lane) h = (h.0, h.1, get-more messages more h.0 body h.2, carried-more messages more h.0 lane h.3)

kept-more : (messages more : List (List ℕ)) (last : Option ℕ) (kept : Option Key) → IsKept messages last kept → IsKept (messages ++ more) last kept
kept-more messages more None kept h = h
kept-more messages more (Some m) kept h = (h.0, get-more messages more m h.0 h.1, h.2)

kept-inside : (messages : List (List ℕ)) (last : Option ℕ) (kept : Option Key) → IsKept messages last kept → past last ≤ length messages
kept-inside messages None kept h = omega arith
kept-inside messages (Some m) kept h = let inside = slice_get_within messages m h.0 h.1 in omega arith

-- more messages are handed out
pub way-more : (messages more : List (List ℕ)) (lane : Lane) (kept : Option Key) (accepted : List (List ℕ)) → Way messages lane kept accepted → Way (messages ++ more) lane kept accepted
way-more messages more lane kept accepted w = record {
  last = w.last;
  in_order = subst (λ front. IsWithin accepted front) (sym (take-append-le (past w.last) messages more (kept-inside messages w.last kept w.keeps))) w.in_order;
  keeps = kept-more messages more w.last kept w.keeps;
  carried = carried-more messages more (from w.last) lane w.carried;
}

carried-put : (messages : List (List ℕ)) (low : ℕ) (lane : Lane) → AreCarried messages low lane → AreCarried messages low (lane ++ None ∷ [])
carried-put messages low [] h = tt
carried-put messages low (None ∷ lane) h = carried-put messages low lane h
carried-put messages low (Some body ∷ lane) h = (h.0, h.1, h.2, carried-put messages h.0 lane h.3)

-- a byte joins that ends no transmission
pub way-put : (messages : List (List ℕ)) (lane : Lane) (kept : Option Key) (accepted : List (List ℕ)) → Way messages lane kept accepted → Way messages (lane ++ None ∷ []) kept accepted
way-put messages lane kept accepted w = record { last = w.last; in_order = w.in_order; keeps = w.keeps; carried = carried-put messages (from w.last) lane w.carried }

last-inside : (before : List (List ℕ)) (body : List ℕ) (m : ℕ) (other : List ℕ) → slice_get (before ++ body ∷ []) m ≡ Some other → m ≤ length before
last-inside before body m other is = let inside = slice_get_within (before ++ body ∷ []) m other is in omega (arith, length-append before (body ∷ []))

carried-end : (before : List (List ℕ)) (body : List ℕ) (low : ℕ) (lane : Lane) → low ≤ length before → AreCarried (before ++ body ∷ []) low lane → AreCarried (before ++ body ∷ []) low (lane ++ Some body ∷ [])
carried-end before body low [] inside h = (length before, inside, get-seam before body [], tt)
carried-end before body low (None ∷ lane) inside h = carried-end before body low lane inside h
carried-end before body low (Some other ∷ lane) inside h = (h.0, h.1, h.2, carried-end before body h.0 lane (last-inside before body h.0 other h.2) h.3)

from-inside : (before : List (List ℕ)) (body : List ℕ) (last : Option ℕ) (kept : Option Key) → IsKept (before ++ body ∷ []) last kept → from last ≤ length before
from-inside before body None kept h = omega arith
from-inside before body (Some m) kept h = last-inside before body m h.0 h.1

-- a byte joins that ends a transmission of the last message
pub way-end : (before : List (List ℕ)) (body : List ℕ) (lane : Lane) (kept : Option Key) (accepted : List (List ℕ)) → Way (before ++ body ∷ []) lane kept accepted → Way (before ++ body ∷ []) (lane ++ Some body ∷ []) kept accepted
way-end before body lane kept accepted w = record {
  last = w.last;
  in_order = w.in_order;
  keeps = w.keeps;
  carried = carried-end before body (from w.last) lane (from-inside before body w.last kept w.keeps) w.carried;
}

-- ---- the lane

carried-lower : (messages : List (List ℕ)) (low high : ℕ) (lane : Lane) → low ≤ high → AreCarried messages high lane → AreCarried messages low lane
carried-lower messages low high [] below h = tt
carried-lower messages low high (None ∷ lane) below h = carried-lower messages low high lane below h
carried-lower messages low high (Some body ∷ lane) below h = (h.0, omega (arith, h.1), h.2, h.3)

carried-leaves : (messages : List (List ℕ)) (low : ℕ) (cell : Option (List ℕ)) (lane : Lane) → AreCarried messages low (cell ∷ lane) → AreCarried messages low lane
carried-leaves messages low None lane h = h
carried-leaves messages low (Some body) lane h = carried-lower messages low h.0 lane h.1 h.3

-- the head of the lane leaves it, and no message is accepted at it
pub way-leaves : (messages : List (List ℕ)) (cell : Option (List ℕ)) (lane : Lane) (kept : Option Key) (accepted : List (List ℕ)) → Way messages (cell ∷ lane) kept accepted → Way messages lane kept accepted
way-leaves messages cell lane kept accepted w = record { last = w.last; in_order = w.in_order; keeps = w.keeps; carried = carried-leaves messages (from w.last) cell lane w.carried }

-- the head of the lane ends nothing any more; or a byte comes first that ends nothing
pub way-bare : (messages : List (List ℕ)) (lane : Lane) (kept : Option Key) (accepted : List (List ℕ)) → Way messages lane kept accepted → Way messages (None ∷ lane) kept accepted
way-bare messages lane kept accepted w = record { last = w.last; in_order = w.in_order; keeps = w.keeps; carried = w.carried }

-- ---- the receiver's side

is-itself : (n : ℕ) → (n == n) ≡ true
is-itself n = grind (arith, nat_tests)

same-itself : (key : Key) → same_key key key ≡ true
same-itself key = rw (is-itself key.src, is-itself key.cmd, is-itself key.tns) refl

-- a message whose key isn't kept isn't the last accepted one
later-message : (messages : List (List ℕ)) (last : Option ℕ) (kept : Option Key) (m : ℕ) (body : List ℕ) → IsKept messages last kept → is_kept kept (key_of body) ≡ false → slice_get messages m ≡ Some body → from last ≤ m → past last ≤ m
later-message messages None kept m body keeps new is low = low
later-message messages (Some l) kept m body keeps new is low = omega (arith, low, other)
  where
    same : l ≡ m → keeps.0 ≡ body
    same e = same-some keeps.0 body (sym keeps.1 ∙ ap (slice_get messages) e ∙ is)

    other : l ≡ m → ⊥
    other e = let yes : is_kept kept (key_of body) ≡ true = rw keeps.2 (subst (λ b. same_key (key_of keeps.0) (key_of b) ≡ true) (same e) (same-itself (key_of keeps.0))) in let no : true ≡ false = sym yes ∙ new in cc

-- the head of the lane ends a transmission of this message, and it is accepted: its key wasn't kept, and is kept now
pub way-accepts : (messages : List (List ℕ)) (body : List ℕ) (lane : Lane) (kept : Option Key) (accepted : List (List ℕ)) → is_kept kept (key_of body) ≡ false → Way messages (Some body ∷ lane) kept accepted → Way messages lane (Some (key_of body)) (accepted ++ body ∷ [])
way-accepts messages body lane kept accepted new w =
    let m = w.carried.0 in
    let later = later-message messages w.last kept m body w.keeps new w.carried.2 w.carried.1 in
    record {
      last = Some m;
      in_order = within-push (past w.last) m accepted messages body w.in_order later w.carried.2;
      keeps = (body, w.carried.2, refl);
      carried = w.carried.3;
    }

-- ---- a direction, whatever happens

abbrev IsWay : Direction → Type 0
IsWay d = Way d.taken_up d.lane d.kept d.accepted

split-at-last : (message : List ℕ) (messages : List (List ℕ)) → (last : List ℕ) × (before : List (List ℕ)) × (last_of (message ∷ messages) ≡ Some last) × (message ∷ messages ≡ before ++ last ∷ [])
split-at-last message [] = (message, [], refl, refl)
split-at-last message (other ∷ messages) =
    let later = split-at-last other messages in
    (later.0, message ∷ later.1, ap (λ (o : Option (List ℕ)). option_or o (Some message)) later.2, ap (λ (ms : List (List ℕ)). message ∷ ms) later.3)

last-split : (messages : List (List ℕ)) (body : List ℕ) → last_of messages ≡ Some body → (before : List (List ℕ)) × (messages ≡ before ++ body ∷ [])
last-split [] body is = absurd cc
last-split (message ∷ messages) body is =
    let split = split-at-last message messages in
    let same = same-some split.0 body (sym split.2 ∙ is) in
    (split.1, split.3 ∙ ap (λ (b : List ℕ). split.1 ++ b ∷ []) same)

way-last : (last : Option (List ℕ)) (d : Direction) → last_of d.taken_up ≡ last → IsWay d → Way d.taken_up (d.lane ++ last ∷ []) d.kept d.accepted
way-last None d is w = way-put d.taken_up d.lane d.kept d.accepted w
way-last (Some body) d is w =
    let split = last-split d.taken_up body is in
    subst (λ (messages : List (List ℕ)). Way messages (d.lane ++ Some body ∷ []) d.kept d.accepted) (sym split.1)
    (way-end split.0 body d.lane d.kept d.accepted (subst (λ (messages : List (List ℕ)). Way messages d.lane d.kept d.accepted) split.1 w))

way-lost : (messages : List (List ℕ)) (lane : Lane) (kept : Option Key) (accepted : List (List ℕ)) → Way messages lane kept accepted → Way messages (drop 1 lane) kept accepted
way-lost messages [] kept accepted w = w
way-lost messages (cell ∷ lane) kept accepted w = way-leaves messages cell lane kept accepted w

way-altered : (messages : List (List ℕ)) (lane : Lane) (kept : Option Key) (accepted : List (List ℕ)) → Way messages lane kept accepted → Way messages (unmarked lane) kept accepted
way-altered messages [] kept accepted w = w
way-altered messages (cell ∷ lane) kept accepted w = way-bare messages lane kept accepted (way-leaves messages cell lane kept accepted w)

way-heard : (known has_room : Bool) (d : Direction) (body : List ℕ) (lane : Lane) → is_kept d.kept (key_of body) ≡ known → Way d.taken_up (Some body ∷ lane) d.kept d.accepted → IsWay (with_verdict d lane body (if known then Repeated else (if has_room then Accepted else Refused)))
way-heard true has_room d body lane is w = way-leaves d.taken_up (Some body) lane d.kept d.accepted w
way-heard false true d body lane is w = way-accepts d.taken_up body lane d.kept d.accepted is w
way-heard false false d body lane is w = way-leaves d.taken_up (Some body) lane d.kept d.accepted w

way-arrived : (d : Direction) (lane : Lane) (has_room : Bool) → Way d.taken_up lane d.kept d.accepted → IsWay d → IsWay (after_arrival d lane has_room)
way-arrived d [] has_room w old = old
way-arrived d (None ∷ lane) has_room w old = way-leaves d.taken_up None lane d.kept d.accepted w
way-arrived d (Some body ∷ lane) has_room w old = way-heard (is_kept d.kept (key_of body)) has_room d body lane refl w

way-after : (d : Direction) (h : Happening) → IsWay d → IsWay (after d h)
way-after d (TakeUp body) w = way-more d.taken_up (body ∷ []) d.lane d.kept d.accepted w
way-after d Give w = way-put d.taken_up d.lane d.kept d.accepted w
way-after d GiveLast w = way-last (last_of d.taken_up) d refl w
way-after d Lose w = way-lost d.taken_up d.lane d.kept d.accepted w
way-after d Alter w = way-altered d.taken_up d.lane d.kept d.accepted w
way-after d (Arrive has_room) w = way-arrived d d.lane has_room w w
way-after d Intrude w = w

pub way-always : (d : Direction) (happenings : List Happening) → IsWay d → IsWay (fold after d happenings)
way-always d [] w = w
way-always d (h ∷ happenings) w = way-always (after d h) happenings (way-after d h w)
