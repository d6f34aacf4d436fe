-- The parts of an end stay joined, and takes lower how much is left.
use Rattle.std.proofs.Common.{◌≡◌, ℕ, ◌+◌, ◌≤◌, Bool, true, false, List, [], ◌∷◌, ◌++◌, length, map, Option, Some, None, IsSome, is_none, subst, refl, arith, length-append}
use Rattle.std.proofs.lemmas.Bool.Decides.{nat_tests}
use Rattle.std.specs.Prelude.{IsTrue, not, ◌==◌, if◌then◌else◌}
use Rattle.std.specs.Option.{ForSome, option_map}
use Rattle.df1_base.specs.declared.link.Resp.{Resp}
use Rattle.df1_base.specs.declared.link.Out.{Out}
use Rattle.df1_frame.specs.declared.framer.Unit.{Unit as Given}
use Rattle.df1_check.specs.declared.Check.{Check}
use Rattle.df1_frame.specs.Units.{bytes_of, unit_bytes, units, pair_unit, body_unit, closing_units}
use Rattle.df1_frame.specs.Spelling.{check_of}
use Rattle.duplex_sender.specs.declared.Phase.{Phase}
use Rattle.duplex_sender.specs.declared.Phase.TheVariants as phase
use Rattle.duplex_sender.specs.declared.Limits.{Limits}
use Rattle.duplex_sender.specs.Sender.{SenderState, Activity, Idle, Sending, Waiting, phase_of, sent_last}
use Rattle.embedded_response.specs.Giving.{Giving, Choice, Second, Respond, Give, Enquire, begin, is_begun, chosen, first_there, may_embed, given, take, unit_out, plain, code_of, one_if, bytes_left}
use Rattle.duplex_end.specs.End.{after_out, ends_here}
use Rattle.duplex_end.specs.Joined.{LastEnds, Joined, IsShort}
use Rattle.duplex_end.proofs.FrameUnits.{units-last, units-length}
use Rattle.duplex_end.proofs.Choices.{Chosen, is-chosen}

-- nothing is left of a frame where nothing is chosen
pub none-left : (g : Giving) → chosen g ≡ None → g.left ≡ []
none-left g e = (subst (Chosen g.second g.waiting g.left g.asking) e (is-chosen g)).2

-- a frame that is begun joins the sender that sends it
pub begin-joined : (g : Giving) (before s : SenderState) (body : List ℕ) → Joined g before → phase_of s ≡ phase.Sending → Joined (begin g body) s
begin-joined g before s body j sends = record {
  second_is_plain = j.second_is_plain;
  last_ends = units-last g.check body;
  sends = λ _. sends;
}

-- a frame of which a unit is left is begun
cons-begun : (unit : Given) (rest : List Given) → not (length (unit ∷ rest) == 0) ≡ true
cons-begun unit rest = grind (arith, nat_tests)

-- ---- one byte

-- a second byte ends no transmission
second-plain : (g : Giving) (s : SenderState) (out : Out) → Joined g s → g.second ≡ Some out → out.last_of ≡ None
second-plain g s out j e = subst (λ (second : Option Out). ForSome second (λ o. o.last_of ≡ None)) e j.second_is_plain out refl

not-last : (out : Out) (s : SenderState) → out.last_of ≡ None → after_out (Some out) s ≡ s
not-last out s e = rw e refl

-- the last byte of a transmission is one of the sender's
given-sends : (g : Giving) (s : SenderState) (c : Option Choice) → Joined g s → Chosen g.second g.waiting g.left g.asking c → IsTrue (ends_here (given g c).1) → phase_of s ≡ phase.Sending
given-sends g s None j h ends = absurd cc
given-sends g s (Some (Second out)) j h ends = let plain = second-plain g s out j h in let no : false ≡ true = rw plain at ends in absurd cc
given-sends g s (Some (Respond r)) j h ends = absurd cc
given-sends g s (Some (Give unit)) j h ends = j.sends (rw h.1.1 (cons-begun unit h.1.0))
given-sends g s (Some Enquire) j h ends = absurd cc

pub take-sends : (g : Giving) (s : SenderState) → Joined g s → IsTrue (ends_here (take g).1) → phase_of s ≡ phase.Sending
take-sends g s j ends = given-sends g s (chosen g) j (is-chosen g) ends

-- where a unit is given, the rest of its frame stays the sender's
unit-joined : (g : Giving) (s : SenderState) (unit : Given) (rest : List Given) (second : Option ℕ) → unit.second ≡ second → LastEnds (unit ∷ rest) → phase_of s ≡ phase.Sending
    → Joined (record g { left = rest; gap = unit.gap; second = (unit_out unit second g.begun).1 }) (after_out (Some (unit_out unit second g.begun).0) s)
unit-joined g s unit [] None e ends sends = record { second_is_plain = λ out is. absurd cc; last_ends = tt; sends = λ begun. absurd cc }
unit-joined g s unit [] (Some code) e ends sends = absurd (let none = ends.1 in cc)
unit-joined g s unit (next ∷ more) None e ends sends = record {
  second_is_plain = λ out is. absurd cc;
  last_ends = ends.1;
  sends = λ begun. rw ends.0 sends;
}
unit-joined g s unit (next ∷ more) (Some code) e ends sends = record {
  second_is_plain = λ out is. let same : plain code ≡ out = cc in subst (λ (o : Out). o.last_of ≡ None) same refl;
  last_ends = ends.1;
  sends = λ begun. sends;
}

given-joined : (g : Giving) (s : SenderState) (c : Option Choice) → Joined g s → Chosen g.second g.waiting g.left g.asking c → Joined (given g c).0 (after_out (given g c).1 s)
given-joined g s None j h = j
given-joined g s (Some (Second out)) j h = rw (not-last out s (second-plain g s out j h)) (record { second_is_plain = λ o is. absurd cc; last_ends = j.last_ends; sends = j.sends })
given-joined g s (Some (Respond r)) j h = record { second_is_plain = λ out is. let same : plain (code_of r) ≡ out = cc in subst (λ (o : Out). o.last_of ≡ None) same refl; last_ends = j.last_ends; sends = j.sends }
given-joined g s (Some (Give unit)) j h =
    let rest = h.1.0 in
    let is = h.1.1 in
    rw is (unit-joined g s unit rest unit.second refl (subst LastEnds is j.last_ends) (j.sends (rw is (cons-begun unit h.1.0))))
given-joined g s (Some Enquire) j h = record { second_is_plain = λ out is. let same : plain 5 ≡ out = cc in subst (λ (o : Out). o.last_of ≡ None) same refl; last_ends = j.last_ends; sends = j.sends }

-- a take leaves the parts joined
pub take-joined : (g : Giving) (s : SenderState) → Joined g s → Joined (take g).0 (after_out (take g).1 s)
take-joined g s j = given-joined g s (chosen g) j (is-chosen g)

-- a frame that is begun is short
pub begin-short : (g : Giving) (body : List ℕ) → length body ≤ 250 → IsShort (begin g body)
begin-short g body fits = units-length g.check body fits

given-short : (g : Giving) (c : Option Choice) → Chosen g.second g.waiting g.left g.asking c → IsShort g → IsShort (given g c).0
given-short g None h short = short
given-short g (Some (Second out)) h short = short
given-short g (Some (Respond r)) h short = short
given-short g (Some (Give unit)) h short =
    let all = subst (λ (l : List Given). length (bytes_of l) ≤ 506) h.1.1 short in
    rw h.1.1 (omega (arith, length-append (unit_bytes unit) (bytes_of h.1.0), all))
given-short g (Some Enquire) h short = short

pub take-short : (g : Giving) → IsShort g → IsShort (take g).0
take-short g short = given-short g (chosen g) (is-chosen g) short

-- ---- how much is left

-- the bytes of a frame that isn't begun
abbrev to_come : Bool → Phase → Bool → ℕ
to_come begun at ready = if begun then 0 else elim at [ phase.Idle ↦ if ready then 506 else 0 | phase.Sending ↦ 506 | phase.Waiting ↦ 0 ]

to_come-most : (at : Phase) (ready : Bool) → to_come false at ready ≤ 506
to_come-most phase.Idle true = omega arith
to_come-most phase.Idle false = omega arith
to_come-most phase.Sending ready = omega arith
to_come-most phase.Waiting ready = omega arith

one_if-most : (b : Bool) → one_if b ≤ 1
one_if-most true = omega arith
one_if-most false = omega arith

most-parts : (second waiting asking : Bool) (left : List Given) (at : Phase) (ready : Bool) → length (bytes_of left) ≤ 506
    → one_if second + length (bytes_of left) + (one_if waiting + one_if waiting) + (one_if asking + one_if asking) + to_come (not (length left == 0)) at ready ≤ 511
most-parts second waiting asking [] at ready fits = omega (arith, one_if-most second, one_if-most waiting, one_if-most asking, to_come-most at ready)
most-parts second waiting asking (unit ∷ rest) at ready fits = rw (cons-begun unit rest) (omega (arith, one_if-most second, one_if-most waiting, one_if-most asking, fits))

-- an end has at most 511 bytes to give
pub most : (g : Giving) (s : SenderState) (ready : Bool) → IsShort g → bytes_left g + to_come (is_begun g) (phase_of s) ready ≤ 511
most g s ready short = most-parts (not (is_none g.second)) (not (is_none g.waiting)) g.asking g.left (phase_of s) ready short

unit-length : (unit : Given) (rest : List Given) (second : Option ℕ) (number : ℕ) → unit.second ≡ second → length (bytes_of (unit ∷ rest)) ≡ one_if (not (is_none (unit_out unit second number).1)) + length (bytes_of rest) + 1
unit-length unit rest None number e = rw e (omega (arith, length-append (unit.first ∷ []) (bytes_of rest)))
unit-length unit rest (Some code) number e = rw e (omega (arith, length-append (unit.first ∷ code ∷ []) (bytes_of rest)))

given-bytes : (g : Giving) (c : Option Choice) → Chosen g.second g.waiting g.left g.asking c → IsSome (given g c).1 → bytes_left g ≡ bytes_left (given g c).0 + 1
given-bytes g None h some = absurd cc
given-bytes g (Some (Second out)) h some = rw h (omega arith)
given-bytes g (Some (Respond r)) h some = rw (h.0, h.1) (omega arith)
given-bytes g (Some (Give unit)) h some = rw (h.0, h.1.1) (omega (arith, unit-length unit h.1.0 unit.second g.begun refl))
given-bytes g (Some Enquire) h some = rw (h.0, h.3) (omega arith)

activity-waits : (limits : Limits) (activity : Activity) → phase_of (record { limits = limits; activity = activity }) ≡ phase.Sending → phase_of (sent_last (record { limits = limits; activity = activity })) ≡ phase.Waiting
activity-waits limits Idle e = absurd cc
activity-waits limits (Sending body naks enqs) e = refl
activity-waits limits (Waiting body naks enqs left) e = refl

sent-waits : (s : SenderState) → phase_of s ≡ phase.Sending → phase_of (sent_last s) ≡ phase.Waiting
sent-waits s e = activity-waits s.limits s.activity e

unit-come : (s : SenderState) (unit : Given) (rest : List Given) (number : ℕ) (ready : Bool) (second : Option ℕ) → unit.second ≡ second → LastEnds (unit ∷ rest) → phase_of s ≡ phase.Sending
    → to_come (not (length rest == 0)) (phase_of (after_out (Some (unit_out unit second number).0) s)) ready ≤ 0
unit-come s unit [] number ready None e ends sends = rw (ends.0, sent-waits s sends) (omega arith)
unit-come s unit [] number ready (Some code) e ends sends = absurd (let none = ends.1 in cc)
unit-come s unit (next ∷ more) number ready second e ends sends = rw (cons-begun next more) (omega arith)

given-come : (g : Giving) (s : SenderState) (ready : Bool) (c : Option Choice) → Joined g s → Chosen g.second g.waiting g.left g.asking c
    → to_come (is_begun (given g c).0) (phase_of (after_out (given g c).1 s)) ready ≤ to_come (is_begun g) (phase_of s) ready
given-come g s ready None j h = omega arith
given-come g s ready (Some (Second out)) j h = rw (not-last out s (second-plain g s out j h)) (omega arith)
given-come g s ready (Some (Respond r)) j h = omega arith
given-come g s ready (Some (Give unit)) j h =
    let is = h.1.1 in
    rw (is, cons-begun unit h.1.0) (unit-come s unit h.1.0 g.begun ready unit.second refl (subst LastEnds is j.last_ends) (j.sends (rw is (cons-begun unit h.1.0))))
given-come g s ready (Some Enquire) j h = omega arith

-- a byte that is given leaves fewer
pub take-fewer : (g : Giving) (s : SenderState) (ready : Bool) → Joined g s → IsSome (take g).1
    → bytes_left (take g).0 + to_come (is_begun (take g).0) (phase_of (after_out (take g).1 s)) ready + 1 ≤ bytes_left g + to_come (is_begun g) (phase_of s) ready
take-fewer g s ready j some = omega (arith, given-bytes g (chosen g) (is-chosen g) some, given-come g s ready (chosen g) j (is-chosen g))

units-begun : (check : Check) (body : List ℕ) → not (length (units check body) == 0) ≡ true
units-begun check body = cons-begun (pair_unit 2 true) (map body_unit body ++ closing_units (check_of check body))

-- a frame that is begun was to come
pub begin-fewer : (g : Giving) (body : List ℕ) (at after : Phase) (ready next_ready : Bool) → chosen g ≡ None → length body ≤ 250 → to_come false at ready ≡ 506
    → bytes_left (begin g body) + to_come (is_begun (begin g body)) after next_ready ≤ bytes_left g + to_come (is_begun g) at ready
begin-fewer g body at after ready next_ready e fits come =
    let none = subst (Chosen g.second g.waiting g.left g.asking) e (is-chosen g) in
    rw (none.0, none.1, none.2, none.3, units-begun g.check body) (omega (arith, units-length g.check body fits, come))

unit-given : (g : Giving) (may : Bool) (waiting : Option Resp) (unit : Given) (others : List (Option Choice)) → waiting ≡ None → IsSome (given g (first_there (None ∷ option_map Respond (if may then waiting else None) ∷ Some (Give unit) ∷ others))).1
unit-given g true None unit others none = refl
unit-given g false None unit others none = refl
unit-given g may (Some r) unit others none = absurd cc

-- a frame that is begun gives its first byte
pub begin-gives : (g : Giving) (body : List ℕ) → chosen g ≡ None → IsSome (take (begin g body)).1
begin-gives g body e =
    let none = subst (Chosen g.second g.waiting g.left g.asking) e (is-chosen g) in
    let start : Giving = begin g body in
    rw none.0 (unit-given (record start { second = None }) (may_embed start) g.waiting (pair_unit 2 true) (option_map Respond g.waiting ∷ (if g.asking then Some Enquire else None) ∷ []) none.1)
