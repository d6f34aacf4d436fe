-- An end over one signal of a port after another.
use Rattle.std.proofs.Common.{◌≡◌, ℕ, zero, suc, Bool, true, false, List, [], ◌∷◌, ◌++◌, map, Option, Some, None, IsNone, is_none, refl, ap, sym, subst, ◌∙◌, append_assoc, append-nil}
use Rattle.std.specs.Prelude.{option_to_list}
use Rattle.std.proofs.lemmas.List.{map-append}
use Rattle.std.specs.Io.KnownBytes.{Keeps}
use Rattle.std.proofs.KnownBytes.{Appends-nil, Appends-kept, Appends-trans}
use Rattle.df1_base.specs.Outside.{Put, WroteLess}
use Rattle.df1_base.specs.Signals.{Gave, GaveOne, goes_on}
use Rattle.df1_base.specs.declared.host.Host.{Ghosts}
use Rattle.df1_base.specs.declared.link.Out.{Out}
use Rattle.df1_base.specs.declared.signal.Signal.{Signal}
use Rattle.df1_base.specs.declared.signal.Signal.TheVariants as signal
use Rattle.duplex_end.specs.End.{EndState, end_after_byte, end_after_tick, end_after_take, out_at_take}
use Rattle.duplex_end.specs.Emission.{Letter, Byte, Tick, Take, end_after, end_after_all, emission, given_at, takes}
use Rattle.duplex_end.specs.Serving.{AreLetters, are_none, are_byte, are_tick, are_take, are_drain, Hears, Serves, BreaksOff, bytes_given}
use Rattle.duplex_end.proofs.Draining.{quiet-same}
use Rattle.duplex_end.proofs.Order.{none-is}
use Rattle.duplex_end.proofs.Runs.{end-more}

end-append : {H : Type 0} (m : Ghosts H) (e : EndState H) (first second : List Letter) → end_after_all m e (first ++ second) ≡ end_after_all m (end_after_all m e first) second
end-append m e [] second = refl
end-append m e (letter ∷ first) second = end-append m (end_after m e letter) first second

emission-append : {H : Type 0} (m : Ghosts H) (e : EndState H) (first second : List Letter) → emission m e (first ++ second) ≡ emission m e first ++ emission m (end_after_all m e first) second
emission-append m e [] second = refl
emission-append m e (letter ∷ first) second =
    ap (λ (outs : List Out). given_at m e letter ++ outs) (emission-append m (end_after m e letter) first second)
    ∙ sym (append_assoc (given_at m e letter) (emission m (end_after m e letter) first) (emission m (end_after_all m (end_after m e letter) first) second))

-- the bytes given over some letters and then over others
bytes-append : {H : Type 0} (m : Ghosts H) (e : EndState H) (first second : List Letter) → bytes_given m e (first ++ second) ≡ bytes_given m e first ++ bytes_given m (end_after_all m e first) second
bytes-append m e first second =
    ap (λ (outs : List Out). map (λ out. out.byte) outs) (emission-append m e first second)
    ∙ map-append (λ (out : Out). out.byte) (emission m e first) (emission m (end_after_all m e first) second)

letters-more : {H : Type 0} (m : Ghosts H) (e : EndState H) (xs ys : List Signal) (first second : List Letter) → AreLetters m e xs first → AreLetters m (end_after_all m e first) ys second → AreLetters m e (xs ++ ys) (first ++ second)
letters-more m e xs ys first second (are_none e1) then = then
letters-more m e xs ys first second (are_byte e1 b signals letters are) then = are_byte e b (signals ++ ys) (letters ++ second) (letters-more m (end_after m e (Byte b)) signals ys letters second are then)
letters-more m e xs ys first second (are_tick e1 signals letters are) then = are_tick e (signals ++ ys) (letters ++ second) (letters-more m (end_after m e Tick) signals ys letters second are then)
letters-more m e xs ys first second (are_take e1 signals letters are) then = are_take e (signals ++ ys) (letters ++ second) (letters-more m (end_after m e Take) signals ys letters second are then)
letters-more {H} m e xs ys first second (are_drain e1 n signals letters none are) then =
    let after = end_after_all m e (takes n) in
    let later : AreLetters m (end_after_all m after letters) ys second = subst (λ (x : EndState H). AreLetters m x ys second) (end-append m e (takes n) letters) then in
    subst (λ (all : List Letter). AreLetters m e (signal.Drain ∷ signals ++ ys) all) (sym (append_assoc (takes n) letters second))
    (are_drain e n (signals ++ ys) (letters ++ second) none (letters-more m after signals ys letters second are later))

-- nothing is heard where there is no signal
hears-none : {H : Type 0} (m : Ghosts H) (e : EndState H) → Hears m e [] e
hears-none m e = record { letters = []; are_letters = are_none e; end_is = refl }

hears-more : {H : Type 0} (m : Ghosts H) (a b c : EndState H) (xs ys : List Signal) → Hears m a xs b → Hears m b ys c → Hears m a (xs ++ ys) c
hears-more {H} m a b c xs ys first second = record {
  letters = first.letters ++ second.letters;
  are_letters = letters-more m a xs ys first.letters second.letters first.are_letters (subst (λ (e : EndState H). AreLetters m e ys second.letters) first.end_is second.are_letters);
  end_is = second.end_is ∙ ap (λ (e : EndState H). end_after_all m e second.letters) first.end_is ∙ sym (end-append m a first.letters second.letters);
}

serves-none : {H : Type 0} (m : Ghosts H) (e : EndState H) (sent : Option (List ℕ)) → Serves m e [] e sent sent
unfolding hears-none
serves-none m e sent = record { heard = hears-none m e; put = Appends-nil sent }

-- what is given over more signals is put after what was given before
serves-more : {H : Type 0} (m : Ghosts H) (a b c : EndState H) (xs ys : List Signal) (old mid new : Option (List ℕ)) → Serves m a xs b old mid → (heard : Hears m b ys c) → Put mid new (bytes_given m b heard.letters) → Serves m a (xs ++ ys) c old new
unfolding hears-more
serves-more {H} m a b c xs ys old mid new first heard put =
    let at = first.heard.letters in
    let same : bytes_given m a at ++ bytes_given m b heard.letters ≡ bytes_given m a (at ++ heard.letters) =
    ap (λ (e : EndState H). bytes_given m a at ++ bytes_given m e heard.letters) first.heard.end_is ∙ sym (bytes-append m a at heard.letters) in
    record {
      heard = hears-more m a b c xs ys first.heard heard;
      put = subst (λ (bytes : List ℕ). Put old new bytes) same (Appends-trans old mid new (bytes_given m a at) (bytes_given m b heard.letters) first.put put);
    }

-- of what is given at the last signal a part is put, and not all
breaks-off : {H : Type 0} (m : Ghosts H) (a b c : EndState H) (xs : List Signal) (last : Signal) (old mid new : Option (List ℕ)) → Serves m a xs b old mid → (heard : Hears m b (last ∷ []) c) → WroteLess mid new (bytes_given m b heard.letters) → BreaksOff m a xs last c old new
breaks-off m a b c xs last old mid new first heard (rest, some, wrote) = record {
  middle = b;
  heard = first.heard;
  then = heard;
  part = wrote.part;
  rest = rest;
  some = some;
  given_last = wrote.text_is;
  put = Appends-trans old mid new (bytes_given m a first.heard.letters) wrote.part first.put wrote.put;
}

-- ---- one signal

-- an end went over these signals, and gave these bytes
abbrev pub Gives : {H : Type 0} → Ghosts H → EndState H → List Signal → EndState H → List ℕ → Type 0
Gives m before signals after bytes = (heard : Hears m before signals after) × (bytes ≡ bytes_given m before heard.letters)

pub gives-byte : {H : Type 0} (m : Ghosts H) (e after : EndState H) (b : ℕ) (bytes : List ℕ) → after ≡ end_after_byte m e b → bytes ≡ [] → Gives m e (signal.Byte b ∷ []) after bytes
gives-byte m e after b bytes is none = (record { letters = Byte b ∷ []; are_letters = are_byte e b [] [] (are_none (end_after m e (Byte b))); end_is = is }, none)

pub gives-tick : {H : Type 0} (m : Ghosts H) (e after : EndState H) (bytes : List ℕ) → after ≡ end_after_tick m e → bytes ≡ [] → Gives m e (signal.Tick ∷ []) after bytes
gives-tick m e after bytes is none = (record { letters = Tick ∷ []; are_letters = are_tick e [] [] (are_none (end_after m e Tick)); end_is = is }, none)

pub gives-take : {H : Type 0} (m : Ghosts H) (e after : EndState H) (out : Option Out) (bytes : List ℕ) → after ≡ end_after_take m e → out ≡ out_at_take m e → bytes ≡ map (λ out. out.byte) (option_to_list out) → Gives m e (signal.Take ∷ []) after bytes
gives-take m e after out bytes is out_is given = (
  record { letters = Take ∷ []; are_letters = are_take e [] [] (are_none (end_after m e Take)); end_is = is },
  given ∙ ap (λ (o : Option Out). map (λ out. out.byte) (option_to_list o)) out_is ∙ ap (λ (outs : List Out). map (λ out. out.byte) outs) (sym (append-nil (option_to_list (out_at_take m e)))),
)

-- takes until one gives nothing
pub gives-drain : {H : Type 0} (m : Ghosts H) (e last after : EndState H) (n : ℕ) (bytes : List ℕ)
    → last ≡ end_after_all m e (takes n) → bytes ≡ bytes_given m e (takes n) → out_at_take m last ≡ None → after ≡ end_after_take m last → Gives m e (signal.Drain ∷ []) after bytes
gives-drain {H} m e last after n bytes last_is given none is =
    let none_there : out_at_take m (end_after_all m e (takes n)) ≡ None = subst (λ (x : EndState H). out_at_take m x ≡ None) last_is none in
    let nothing : IsNone (out_at_take m last) = rw none refl in (
      record {
        letters = takes n ++ [];
        are_letters = are_drain e n [] [] none_there (are_none (end_after_all m e (takes n)));
        end_is = is ∙ quiet-same m last nothing ∙ last_is ∙ ap (λ (letters : List Letter). end_after_all m e letters) (sym (append-nil (takes n)));
      },
      given ∙ ap (λ (letters : List Letter). bytes_given m e letters) (sym (append-nil (takes n))),
    )

-- nothing is there before any take
pub gives-none : {H : Type 0} (m : Ghosts H) (e : EndState H) (bytes : List ℕ) → bytes ≡ [] → is_none (out_at_take m e) ≡ true → Gives m e (signal.Drain ∷ []) e bytes
gives-none m e bytes given is =
    let none = none-is (out_at_take m e) is in
    let nothing : IsNone (out_at_take m e) = rw none refl in
    gives-drain m e e e zero bytes refl given none (sym (quiet-same m e nothing))

-- ---- one take more

takes-more : (n : ℕ) → takes n ++ Take ∷ [] ≡ takes (suc n)
takes-more zero = refl
takes-more (suc n) = ap (λ (letters : List Letter). Take ∷ letters) (takes-more n)

-- the end after it
pub end-take : {H : Type 0} (m : Ghosts H) (e last after : EndState H) (n : ℕ) → last ≡ end_after_all m e (takes n) → after ≡ end_after_take m last → after ≡ end_after_all m e (takes (suc n))
end-take {H} m e last after n last_is is =
    is ∙ ap (λ (x : EndState H). end_after_take m x) last_is ∙ sym (end-more m e (takes n) Take) ∙ ap (λ (letters : List Letter). end_after_all m e letters) (takes-more n)

-- and the bytes
pub bytes-take : {H : Type 0} (m : Ghosts H) (e last : EndState H) (n : ℕ) (out : Out) (bytes : List ℕ)
    → last ≡ end_after_all m e (takes n) → bytes ≡ bytes_given m e (takes n) → out_at_take m last ≡ Some out → bytes ++ out.byte ∷ [] ≡ bytes_given m e (takes (suc n))
bytes-take {H} m e last n out bytes last_is given some =
    let there : out_at_take m (end_after_all m e (takes n)) ≡ Some out = subst (λ (x : EndState H). out_at_take m x ≡ Some out) last_is some in
    ap (λ (before : List ℕ). before ++ out.byte ∷ []) given
    ∙ ap (λ (o : Option Out). bytes_given m e (takes n) ++ map (λ out. out.byte) (option_to_list o ++ [])) (sym there)
    ∙ sym (bytes-append m e (takes n) (Take ∷ []))
    ∙ ap (λ (letters : List Letter). bytes_given m e letters) (takes-more n)

-- ---- a port and an end

-- the port gave some signals, and what the end gave over them was put
abbrev pub ServedSoFar : {P H : Type 0} → (P → List Signal → P → Type 0) → (P → Option (List ℕ)) → Ghosts H → P → EndState H → P → EndState H → Type 0
ServedSoFar came sent m p a q b = (signals : List Signal) × came p signals q × Serves m a signals b (sent p) (sent q)

-- signals that come one after another come together
abbrev pub Joins : {P : Type 0} → (P → List Signal → P → Type 0) → Type 0
Joins {P} came = (p q r : P) (first second : List Signal) → came p first q → came q second r → came p (first ++ second) r

came-still : {P : Type 0} (came : P → List Signal → P → Type 0) → Joins came → (p q r : P) (signals : List Signal) → came p signals q → came q [] r → came p signals r
came-still came joins p q r signals first none = subst (λ (all : List Signal). came p all r) (append-nil signals) (joins p q r signals [] first none)

serves-kept : {H : Type 0} (m : Ghosts H) (a b : EndState H) (xs : List Signal) (old mid new : Option (List ℕ)) → Serves m a xs b old mid → Keeps mid new → Serves m a xs b old new
serves-kept m a b xs old mid new serves keeps = record { heard = serves.heard; put = Appends-kept old mid new (bytes_given m a serves.heard.letters) serves.put keeps }

-- at first nothing came
pub served-none : {P H : Type 0} (came : P → List Signal → P → Type 0) (sent : P → Option (List ℕ)) (m : Ghosts H) (p : P) (a : EndState H) → came p [] p → ServedSoFar came sent m p a p a
served-none came sent m p a none = ([], none, serves-none m a (sent p))

-- nothing more came, and nothing more was put
pub served-still : {P H : Type 0} (came : P → List Signal → P → Type 0) (sent : P → Option (List ℕ)) (m : Ghosts H) (joins : Joins came) (p q r : P) (a b : EndState H)
    → ServedSoFar came sent m p a q b → came q [] r → Keeps (sent q) (sent r) → ServedSoFar came sent m p a r b
served-still came sent m joins p q r a b served none keeps =
    (served.0, came-still came joins p q r served.0 served.1 none, serves-kept m a b served.0 (sent p) (sent q) (sent r) served.2 keeps)

-- one signal more came, and what the end gave at it was put
pub served-more : {P H : Type 0} (came : P → List Signal → P → Type 0) (sent : P → Option (List ℕ)) (m : Ghosts H) (joins : Joins came) (p q r s : P) (a b c : EndState H) (signal : Signal) (bytes : List ℕ)
    → ServedSoFar came sent m p a q b → came q (signal ∷ []) r → Keeps (sent q) (sent r) → Gives m b (signal ∷ []) c bytes → came r [] s → Put (sent r) (sent s) bytes → ServedSoFar came sent m p a s c
served-more came sent m joins p q r s a b c signal bytes served one keeps gives none put = (
  served.0 ++ signal ∷ [],
  came-still came joins p r s (served.0 ++ signal ∷ []) (joins p q r served.0 (signal ∷ []) served.1 one) none,
  serves-more m a b c served.0 (signal ∷ []) (sent p) (sent r) (sent s) (serves-kept m a b served.0 (sent p) (sent q) (sent r) served.2 keeps) gives.0
      (subst (λ (given : List ℕ). Put (sent r) (sent s) given) gives.1 put),
)

-- one signal more came, and a part of what the end gave at it was put, and not all
pub served-part : {P H : Type 0} (came : P → List Signal → P → Type 0) (sent : P → Option (List ℕ)) (m : Ghosts H) (joins : Joins came) (p q r s : P) (a b c : EndState H) (signal : Signal) (bytes : List ℕ)
    → ServedSoFar came sent m p a q b → came q (signal ∷ []) r → Keeps (sent q) (sent r) → Gives m b (signal ∷ []) c bytes → came r [] s → WroteLess (sent r) (sent s) bytes
    → (signals : List Signal) × (last : Signal) × came p (signals ++ last ∷ []) s × BreaksOff m a signals last c (sent p) (sent s)
served-part came sent m joins p q r s a b c signal bytes served one keeps gives none wrote = (
  served.0,
  signal,
  came-still came joins p r s (served.0 ++ signal ∷ []) (joins p q r served.0 (signal ∷ []) served.1 one) none,
  breaks-off m a b c served.0 signal (sent p) (sent r) (sent s) (serves-kept m a b served.0 (sent p) (sent q) (sent r) served.2 keeps) gives.0
      (subst (λ (given : List ℕ). WroteLess (sent r) (sent s) given) gives.1 wrote),
)

-- a signal that others may follow came
pub gave-one : {P : Type 0} (came : P → List Signal → P → Type 0) (ends_with : P → Signal → Type 0) (p q : P) (signal : Signal) → Gave came ends_with p q signal → goes_on signal ≡ true → came p (signal ∷ []) q
gave-one came ends_with p q signal gave goes = subst (λ (on : Bool). GaveOne came ends_with on p q signal) goes gave

-- the last signal came
pub gave-last : {P : Type 0} (came : P → List Signal → P → Type 0) (ends_with : P → Signal → Type 0) (p q : P) (signal : Signal) → Gave came ends_with p q signal → goes_on signal ≡ false → came p [] q
gave-last came ends_with p q signal gave goes =
    let last : GaveOne came ends_with false p q signal = subst (λ (on : Bool). GaveOne came ends_with on p q signal) goes gave in
    last.0
