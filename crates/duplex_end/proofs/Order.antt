-- What is next in the order of transmission, and a take in two steps.
use Rattle.std.proofs.Common.{◌≡◌, ℕ, true, false, List, [], ◌∷◌, ◌++◌, map, Option, Some, None, IsNone, IsSome, is_none, ap, sym, subst, ◌∙◌, refl}
use Rattle.std.specs.Prelude.{if◌then◌else◌}
use Rattle.std.specs.Option.{option_map}
use Rattle.df1_base.specs.declared.host.Host.{Ghosts}
use Rattle.df1_base.specs.declared.link.Out.{Out}
use Rattle.duplex_sender.specs.declared.Phase.{Phase}
use Rattle.duplex_sender.specs.declared.Phase.TheVariants as phase
use Rattle.duplex_sender.specs.Sender.{SenderState, phase_of, body_of}
use Rattle.embedded_response.specs.Giving.{Giving, Choice, Second, Respond, Give, Enquire, begin, order, first_there, chosen, given, take}
use Rattle.duplex_end.specs.End.{EndState, Place, OfMouth, FrameAgain, FrameOfNew, sent_again, sent_new, next_place, taken, gives, begun_at, begun_next, prepared, given_next, end_after_take, out_at_take}
use Rattle.duplex_end.proofs.Joining.{begin-gives}

-- ---- the first that is there

-- a choice of the mouth comes before a frame that isn't begun
abbrev pub place_after : Option Choice → Option Place → Option Place
place_after None frame = frame
place_after (Some choice) frame = Some (OfMouth choice)

-- the frame that is next, by the sender's phase and the host's next message
abbrev pub frame_at : SenderState → Phase → Option (List ℕ) → Option Place
frame_at s at next =
    first_there (
    option_map FrameAgain (elim at as (λ _. Option (List ℕ)) [ phase.Idle ↦ None | phase.Sending ↦ Some (body_of s) | phase.Waiting ↦ None ])
    ∷ option_map FrameOfNew (elim at as (λ _. Option (List ℕ)) [ phase.Idle ↦ next | phase.Sending ↦ None | phase.Waiting ↦ None ])
    ∷ []
    )

abbrev pub frame_next : {H : Type 0} → Ghosts H → EndState H → Option Place
frame_next m e = frame_at e.sender (phase_of e.sender) (m.next_body e.host)

first-both : (choices : List (Option Choice)) (frames : List (Option Place)) → first_there (map (option_map OfMouth) choices ++ frames) ≡ place_after (first_there choices) (first_there frames)
first-both [] frames = refl
first-both (None ∷ choices) frames = first-both choices frames
first-both (Some choice ∷ choices) frames = refl

pub next-is : {H : Type 0} (m : Ghosts H) (e : EndState H) → next_place m e ≡ place_after (chosen e.mouth) (frame_next m e)
next-is m e = first-both (order e.mouth) (option_map FrameAgain (sent_again e.sender) ∷ option_map FrameOfNew (sent_new m e) ∷ [])

-- ---- a take in two steps

frame-taken : {H : Type 0} (m : Ghosts H) (e : EndState H) (at : Phase) (next : Option (List ℕ)) → chosen e.mouth ≡ None
    → taken m e (frame_at e.sender at next) ≡ gives (begun_at m e at next) (take (begun_at m e at next).mouth)
frame-taken m e phase.Idle None none = ap (λ (c : Option Choice). gives e (given e.mouth c)) (sym none)
frame-taken m e phase.Idle (Some body) none = refl
frame-taken m e phase.Sending next none = refl
frame-taken m e phase.Waiting next none = ap (λ (c : Option Choice). gives e (given e.mouth c)) (sym none)

place-taken : {H : Type 0} (m : Ghosts H) (e : EndState H) (c : Option Choice) → chosen e.mouth ≡ c
    → taken m e (place_after c (frame_next m e)) ≡ gives (if is_none c then begun_next m e else e) (take (if is_none c then begun_next m e else e).mouth)
place-taken m e None is = frame-taken m e (phase_of e.sender) (m.next_body e.host) is
place-taken m e (Some choice) is = ap (λ (c : Option Choice). gives e (given e.mouth c)) (sym is)

pub taken-is : {H : Type 0} (m : Ghosts H) (e : EndState H) → taken m e (next_place m e) ≡ gives (prepared m e) (take (prepared m e).mouth)
taken-is m e = ap (taken m e) (next-is m e) ∙ place-taken m e (chosen e.mouth) refl

-- a frame that is next is begun, and then the next byte is given
pub end-is : {H : Type 0} (m : Ghosts H) (e : EndState H) → end_after_take m e ≡ given_next (prepared m e)
end-is {H} m e = ap (λ (to : EndState H × Option Out). to.0) (taken-is m e)

pub out-is : {H : Type 0} (m : Ghosts H) (e : EndState H) → out_at_take m e ≡ (take (prepared m e).mouth).1
out-is {H} m e = ap (λ (to : EndState H × Option Out). to.1) (taken-is m e)

-- ---- a take that first looks what the mouth gives

none-chosen : (g : Giving) (c : Option Choice) → (given g c).1 ≡ None → c ≡ None
none-chosen g None none = refl
none-chosen g (Some (Second out)) none = absurd cc
none-chosen g (Some (Respond r)) none = absurd cc
none-chosen g (Some (Give unit)) none = absurd cc
none-chosen g (Some Enquire) none = absurd cc

-- where the mouth gives nothing, nothing is chosen, and the end stays as it is
pub nothing-given : {H : Type 0} (e after : EndState H) (out : Option Out) → after ≡ given_next e → out ≡ (take e.mouth).1 → out ≡ None → (after ≡ e) × (chosen e.mouth ≡ None)
nothing-given {H} e after out state is none =
    let nothing = none-chosen e.mouth (chosen e.mouth) (sym is ∙ none) in
    (state ∙ ap (λ (c : Option Choice). (gives e (given e.mouth c)).0) nothing, nothing)

some-prepared : {H : Type 0} (m : Ghosts H) (e : EndState H) (out : Out) (c : Option Choice) → (given e.mouth c).1 ≡ Some out → (if is_none c then begun_next m e else e) ≡ e
some-prepared m e out None some = absurd cc
some-prepared m e out (Some choice) some = refl

-- where it gives a byte, that is all
pub end-given : {H : Type 0} (m : Ghosts H) (e : EndState H) (out : Out) → (take e.mouth).1 ≡ Some out → end_after_take m e ≡ given_next e
end-given {H} m e out some = end-is m e ∙ ap (λ (x : EndState H). given_next x) (some-prepared m e out (chosen e.mouth) some)

none-prepared : {H : Type 0} (m : Ghosts H) (e : EndState H) → chosen e.mouth ≡ None → prepared m e ≡ begun_next m e
none-prepared {H} m e none = ap (λ (c : Option Choice). if is_none c then begun_next m e else e) none

-- where it has nothing chosen, a frame that is next is begun, and then the next byte is given
pub end-begun : {H : Type 0} (m : Ghosts H) (e : EndState H) → chosen e.mouth ≡ None → end_after_take m e ≡ given_next (begun_next m e)
end-begun {H} m e none = end-is m e ∙ ap (λ (x : EndState H). given_next x) (none-prepared m e none)

pub out-begun : {H : Type 0} (m : Ghosts H) (e : EndState H) → chosen e.mouth ≡ None → out_at_take m e ≡ (take (begun_next m e).mouth).1
out-begun {H} m e none = out-is m e ∙ ap (λ (x : EndState H). (take x.mouth).1) (none-prepared m e none)

-- ---- a byte is given exactly where something is there

some-given : (g : Giving) (choice : Choice) → is_none (given g (Some choice)).1 ≡ false
some-given g (Second out) = refl
some-given g (Respond r) = refl
some-given g (Give unit) = refl
some-given g Enquire = refl

some-is : {A : Type 0} (o : Option A) → IsSome o → is_none o ≡ false
some-is None some = cc
some-is (Some x) some = refl

frame-none : {H : Type 0} (m : Ghosts H) (e : EndState H) (frame : Option Place) → chosen e.mouth ≡ None → is_none frame ≡ is_none (taken m e frame).1
frame-none m e None none = refl
frame-none m e (Some (OfMouth choice)) none = sym (some-given e.mouth choice)
frame-none m e (Some (FrameAgain body)) none = sym (some-is (take (begin e.mouth body)).1 (begin-gives e.mouth body none))
frame-none m e (Some (FrameOfNew body)) none = sym (some-is (take (begin e.mouth body)).1 (begin-gives e.mouth body none))

place-none : {H : Type 0} (m : Ghosts H) (e : EndState H) (c : Option Choice) → chosen e.mouth ≡ c → is_none (place_after c (frame_next m e)) ≡ is_none (taken m e (place_after c (frame_next m e))).1
place-none m e None is = frame-none m e (frame_next m e) is
place-none m e (Some choice) is = sym (some-given e.mouth choice)

pub none-there : {H : Type 0} (m : Ghosts H) (e : EndState H) → is_none (next_place m e) ≡ is_none (out_at_take m e)
none-there m e =
    subst (λ (p : Option Place). is_none p ≡ is_none (taken m e p).1) (sym (next-is m e)) (place-none m e (chosen e.mouth) refl)

pub none-is : {A : Type 0} (o : Option A) → is_none o ≡ true → o ≡ None
none-is None e = refl
none-is (Some x) e = cc

none-test : {A : Type 0} (o : Option A) → IsNone o → is_none o ≡ true
none-test None none = refl
none-test (Some x) none = cc

-- where a take gives nothing, nothing is there
pub nothing-there : {H : Type 0} (m : Ghosts H) (e : EndState H) → IsNone (out_at_take m e) → next_place m e ≡ None
nothing-there m e none = none-is (next_place m e) (none-there m e ∙ none-test (out_at_take m e) none)

-- ---- a new message

frame-new : (s : SenderState) (at : Phase) (next : Option (List ℕ)) (body : List ℕ) → frame_at s at next ≡ Some (FrameOfNew body) → (at ≡ phase.Idle) × (next ≡ Some body)
frame-new s phase.Idle None body is = cc
frame-new s phase.Idle (Some new) body is = (refl, cc)
frame-new s phase.Sending next body is = cc
frame-new s phase.Waiting next body is = cc

place-new : {H : Type 0} (m : Ghosts H) (e : EndState H) (c : Option Choice) (body : List ℕ) → place_after c (frame_next m e) ≡ Some (FrameOfNew body) → (phase_of e.sender ≡ phase.Idle) × (m.next_body e.host ≡ Some body)
place-new m e None body is = frame-new e.sender (phase_of e.sender) (m.next_body e.host) body is
place-new m e (Some choice) body is = cc

-- the frame of a new message is next where the sender is idle, and the host hands it out next
pub new-next : {H : Type 0} (m : Ghosts H) (e : EndState H) (body : List ℕ) → next_place m e ≡ Some (FrameOfNew body) → (phase_of e.sender ≡ phase.Idle) × (m.next_body e.host ≡ Some body)
new-next m e body is = place-new m e (chosen e.mouth) body (sym (next-is m e) ∙ is)
