-- What is read as an address is spelled so.
use Rattle.std.proofs.Common.{◌≡◌, ℕ, true, ◌&&◌, eqb, List, [], ◌∷◌, ◌++◌, Option, Some, None, Result, Ok, Err, refl, sym, ap, subst, ◌∙◌, append-nil}
use Rattle.std.specs.Prelude.{codes}
use Rattle.std.specs.Option.{option_map, option_or, ok_or}
use Rattle.std.proofs.lemmas.Bool.{and_parts, cond_both, eqb-true}
use Rattle.df1_base.specs.declared.file_type.FileType.{FileType}
use Rattle.df1_base.specs.declared.file_type.FileType.TheVariants.{Status, Bit, Timer, Counter, Control, Integer, Float}
use Rattle.data_files.specs.Place.{is_status}
use Rattle.logical_address.proofs.Fronts.{some_is, ok_is, ok_or_ok}
use Rattle.data_addresses.specs.declared.address.Address.{Address}
use Rattle.data_addresses.specs.declared.address.AddressFault.{AddressFault}
use Rattle.data_addresses.specs.declared.address.AddressFault.TheVariants.{NoType, NoFile, NoColon, NoElement, NoSub, NoBit}
use Rattle.data_addresses.specs.Numbers.{number_front}
use Rattle.data_addresses.specs.Text.{letter, has_bits, IsName, timer_control, timer_preset, timer_accumulator, counter_control, counter_preset, counter_accumulator, control_control, control_length, control_position, SpellsFile, file_number, status_file, SpellsSub, no_sub, sub_name, sub_number, SpellsBit, no_bit, bit_number, SpellsAddress}
use Rattle.data_addresses.specs.Reading.{◌>>=◌, type_of, type_front, type_part, begins_with_colon, file_part, colon_part, element_part, most_sub, are_letters, word_of_timer, word_of_control, word_named, name_front, word_front, sub_part, with_bit, bit_front, bit_part, end_part, address_of}
use Rattle.data_addresses.proofs.Digits.{Takes, number_takes}
use Rattle.data_addresses.proofs.Known.{address_parts}

bind_ok : {A B : Type 0} (r : Result A AddressFault) (f : A → Result B AddressFault) (y : B) → (r >>= f) ≡ Ok y → (x : A) × (r ≡ Ok x) × (f x ≡ Ok y)
bind_ok (Err fault) f y e = absurd cc
bind_ok (Ok x) f y e = (x, refl, e)

-- what a part that was mapped was
mapped : {A B : Type 0} (f : A → B) (o : Option A) (y : B) → option_map f o ≡ Some y → (x : A) × (o ≡ Some x) × (f x ≡ y)
mapped f None y e = absurd cc
mapped f (Some x) y e = (x, refl, some_is (f x) y e)

one_or_other : {A : Type 0} (o p : Option A) (x : A) (P : Type 0) → option_or o p ≡ Some x → (o ≡ Some x → P) → (p ≡ Some x → P) → P
one_or_other None p x P e one other = other e
one_or_other (Some y) p x P e one other = one e

-- ---- the type

letter_is : (b : ℕ) (kind : FileType) → type_of b ≡ Some kind → b ≡ letter kind
letter_is b kind e =
    let Goal : Option FileType → Type 0 = λ o. o ≡ Some kind → b ≡ letter kind in
    cond_both (eqb b 83) (Some Status) _ Goal (λ is h. eqb-true b 83 is ∙ ap letter (some_is Status kind h)) (λ _.
    cond_both (eqb b 66) (Some Bit) _ Goal (λ is h. eqb-true b 66 is ∙ ap letter (some_is Bit kind h)) (λ _.
    cond_both (eqb b 84) (Some Timer) _ Goal (λ is h. eqb-true b 84 is ∙ ap letter (some_is Timer kind h)) (λ _.
    cond_both (eqb b 67) (Some Counter) _ Goal (λ is h. eqb-true b 67 is ∙ ap letter (some_is Counter kind h)) (λ _.
    cond_both (eqb b 82) (Some Control) _ Goal (λ is h. eqb-true b 82 is ∙ ap letter (some_is Control kind h)) (λ _.
    cond_both (eqb b 78) (Some Integer) _ Goal (λ is h. eqb-true b 78 is ∙ ap letter (some_is Integer kind h)) (λ _.
    cond_both (eqb b 70) (Some Float) None Goal (λ is h. eqb-true b 70 is ∙ ap letter (some_is Float kind h)) (λ _ h. absurd cc))))))) e

type_takes : (text : List ℕ) (found : FileType × List ℕ) → type_part text ≡ Ok found → text ≡ letter found.0 ∷ found.1
type_takes [] found e = absurd cc
type_takes (b ∷ rest) found e =
    let with_rest : FileType → FileType × List ℕ = λ kind. (kind, rest) in
    let m = mapped with_rest (type_of b) found (ok_or_ok (type_front (b ∷ rest)) NoType found e) in
    let P : FileType × List ℕ → Type 0 = λ p. b ∷ rest ≡ letter p.0 ∷ p.1 in
    subst P m.2 (ap (λ (x : ℕ). x ∷ rest) (letter_is b m.0 m.1))

-- ---- the file and the colon

no_number : (kind : FileType) → is_status kind ≡ true → SpellsFile kind 2 []
no_number Status is = status_file
no_number Bit is = absurd cc
no_number Timer is = absurd cc
no_number Counter is = absurd cc
no_number Control is = absurd cc
no_number Integer is = absurd cc
no_number Float is = absurd cc

file_takes : (kind : FileType) (text : List ℕ) (found : ℕ × List ℕ) → file_part kind text ≡ Ok found → Takes (SpellsFile kind found.0) text found.1
file_takes kind text found e =
    let two : ℕ × List ℕ = (2, text) in
    let P : ℕ × List ℕ → Type 0 = λ p. Takes (SpellsFile kind p.0) text p.1 in
    let Goal : Result (ℕ × List ℕ) AddressFault → Type 0 = λ r. r ≡ Ok found → P found in
    cond_both (is_status kind && begins_with_colon text) (Ok two) (ok_or (number_front 999 text) NoFile) Goal
    (λ is h. subst P (ok_is {E = AddressFault} two found h) (record { front = []; spelled = no_number kind (and_parts (is_status kind) (begins_with_colon text) is).0; parts = refl }))
    (λ _ h. let t = number_takes 999 text found (ok_or_ok (number_front 999 text) NoFile found h) in record { front = t.front; spelled = file_number t.spelled; parts = t.parts })
    e

colon_takes : (text rest : List ℕ) → colon_part text ≡ Ok rest → text ≡ 58 ∷ rest
colon_takes [] rest e = absurd cc
colon_takes (b ∷ bs) rest e =
    cond_both (eqb b 58) (Ok bs) (Err NoColon) (λ (r : Result (List ℕ) AddressFault). r ≡ Ok rest → b ∷ bs ≡ 58 ∷ rest)
    (λ is h. ap (λ (x : ℕ). x ∷ bs) (eqb-true b 58 is) ∙ ap (λ (xs : List ℕ). 58 ∷ xs) (ok_is {E = AddressFault} bs rest h))
    (λ _ h. absurd cc)
    e

-- ---- the sub-element

abbrev some : ℕ → Option ℕ
some n = Some n

at_letters : (a b c x y z n sub : ℕ) → are_letters a b c x y z ≡ true → some n ≡ some sub → (P : ℕ → List ℕ → Type 0) → P n (x ∷ y ∷ z ∷ []) → P sub (a ∷ b ∷ c ∷ [])
at_letters a b c x y z n sub are is P p =
    let last = and_parts (eqb a x && eqb b y) (eqb c z) are in
    let first = and_parts (eqb a x) (eqb b y) last.0 in
    let text : a ∷ b ∷ c ∷ [] ≡ x ∷ y ∷ z ∷ [] =
    ap (λ (t : ℕ). t ∷ b ∷ c ∷ []) (eqb-true a x first.0) ∙ ap (λ (t : ℕ). x ∷ t ∷ c ∷ []) (eqb-true b y first.1) ∙ ap (λ (t : ℕ). x ∷ y ∷ t ∷ []) (eqb-true c z last.1) in
    let Q : List ℕ → Type 0 = λ t. P n t in
    let R : ℕ → Type 0 = λ m. P m (a ∷ b ∷ c ∷ []) in
    subst R (some_is n sub is) (subst Q (sym text) p)

timer_name : (a b c sub : ℕ) → word_of_timer a b c ≡ Some sub → (P : ℕ → List ℕ → Type 0) → P 0 (codes "CTL") → P 1 (codes "PRE") → P 2 (codes "ACC") → P sub (a ∷ b ∷ c ∷ [])
timer_name a b c sub e P p q r =
    let Goal : Option ℕ → Type 0 = λ o. o ≡ Some sub → P sub (a ∷ b ∷ c ∷ []) in
    cond_both (are_letters a b c 67 84 76) (Some 0) _ Goal (λ is h. at_letters a b c 67 84 76 0 sub is h P p) (λ _.
    cond_both (are_letters a b c 80 82 69) (Some 1) _ Goal (λ is h. at_letters a b c 80 82 69 1 sub is h P q) (λ _.
    cond_both (are_letters a b c 65 67 67) (Some 2) None Goal (λ is h. at_letters a b c 65 67 67 2 sub is h P r) (λ _ h. absurd cc))) e

control_name : (a b c sub : ℕ) → word_of_control a b c ≡ Some sub → (P : ℕ → List ℕ → Type 0) → P 0 (codes "CTL") → P 1 (codes "LEN") → P 2 (codes "POS") → P sub (a ∷ b ∷ c ∷ [])
control_name a b c sub e P p q r =
    let Goal : Option ℕ → Type 0 = λ o. o ≡ Some sub → P sub (a ∷ b ∷ c ∷ []) in
    cond_both (are_letters a b c 67 84 76) (Some 0) _ Goal (λ is h. at_letters a b c 67 84 76 0 sub is h P p) (λ _.
    cond_both (are_letters a b c 76 69 78) (Some 1) _ Goal (λ is h. at_letters a b c 76 69 78 1 sub is h P q) (λ _.
    cond_both (are_letters a b c 80 79 83) (Some 2) None Goal (λ is h. at_letters a b c 80 79 83 2 sub is h P r) (λ _ h. absurd cc))) e

name_is : (kind : FileType) (a b c sub : ℕ) → word_named kind a b c ≡ Some sub → IsName kind sub (a ∷ b ∷ c ∷ [])
name_is Status a b c sub e = absurd cc
name_is Bit a b c sub e = absurd cc
name_is Timer a b c sub e = timer_name a b c sub e (IsName Timer) timer_control timer_preset timer_accumulator
name_is Counter a b c sub e = timer_name a b c sub e (IsName Counter) counter_control counter_preset counter_accumulator
name_is Control a b c sub e = control_name a b c sub e (IsName Control) control_control control_length control_position
name_is Integer a b c sub e = absurd cc
name_is Float a b c sub e = absurd cc

name_takes : (kind : FileType) (text : List ℕ) (found : ℕ × List ℕ) → name_front kind text ≡ Some found → Takes (IsName kind found.0) text found.1
name_takes kind [] found e = absurd cc
name_takes kind (a ∷ []) found e = absurd cc
name_takes kind (a ∷ b ∷ []) found e = absurd cc
name_takes kind (a ∷ b ∷ c ∷ rest) found e =
    let with_rest : ℕ → ℕ × List ℕ = λ sub. (sub, rest) in
    let m = mapped with_rest (word_named kind a b c) found e in
    let P : ℕ × List ℕ → Type 0 = λ p. Takes (IsName kind p.0) (a ∷ b ∷ c ∷ rest) p.1 in
    subst P m.2 (record { front = a ∷ b ∷ c ∷ []; spelled = name_is kind a b c m.0 m.1; parts = refl })

-- what stands behind the point
abbrev IsAfterPoint : FileType → ℕ → List ℕ → Type 0
IsAfterPoint kind sub text = SpellsSub kind sub (46 ∷ text)

word_takes : (kind : FileType) (text : List ℕ) (found : ℕ × List ℕ) → word_front kind text ≡ Some found → Takes (IsAfterPoint kind found.0) text found.1
word_takes kind text found e =
    one_or_other (name_front kind text) (number_front (most_sub kind) text) found (Takes (IsAfterPoint kind found.0) text found.1) e
    (λ h. let t = name_takes kind text found h in record { front = t.front; spelled = sub_name t.spelled; parts = t.parts })
    (λ h. let t = number_takes (most_sub kind) text found h in record { front = t.front; spelled = sub_number t.spelled; parts = t.parts })

sub_takes : (kind : FileType) (text : List ℕ) (found : ℕ × List ℕ) → sub_part kind text ≡ Ok found → Takes (SpellsSub kind found.0) text found.1
sub_takes kind [] found e =
    let none : ℕ × List ℕ = (0, []) in
    let P : ℕ × List ℕ → Type 0 = λ p. Takes (SpellsSub kind p.0) [] p.1 in
    subst P (ok_is {E = AddressFault} none found e) (record { front = []; spelled = no_sub; parts = refl })
sub_takes kind (b ∷ rest) found e =
    let none : ℕ × List ℕ = (0, b ∷ rest) in
    let P : ℕ × List ℕ → Type 0 = λ p. Takes (SpellsSub kind p.0) (b ∷ rest) p.1 in
    let Goal : Result (ℕ × List ℕ) AddressFault → Type 0 = λ r. r ≡ Ok found → P found in
    cond_both (eqb b 46) (ok_or (word_front kind rest) NoSub) (Ok none) Goal
    (λ is h.
    let t = word_takes kind rest found (ok_or_ok (word_front kind rest) NoSub found h) in
    record { front = 46 ∷ t.front; spelled = t.spelled; parts = ap (λ (x : ℕ). x ∷ rest) (eqb-true b 46 is) ∙ ap (λ (xs : List ℕ). 46 ∷ xs) t.parts })
    (λ _ h. subst P (ok_is {E = AddressFault} none found h) (record { front = []; spelled = no_sub; parts = refl }))
    e

-- ---- the bit and the end

-- what stands behind the slash
abbrev IsAfterSlash : FileType → Option ℕ → List ℕ → Type 0
IsAfterSlash kind bit text = SpellsBit kind bit (47 ∷ text)

number_of_bit_takes : (kind : FileType) (text : List ℕ) (found : Option ℕ × List ℕ) → bit_front kind text ≡ Some found → Takes (IsAfterSlash kind found.0) text found.1
number_of_bit_takes kind text found e =
    let P : Option ℕ × List ℕ → Type 0 = λ p. Takes (IsAfterSlash kind p.0) text p.1 in
    cond_both (has_bits kind) (option_map with_bit (number_front 15 text)) None (λ (o : Option (Option ℕ × List ℕ)). o ≡ Some found → P found)
    (λ has h.
    let m = mapped with_bit (number_front 15 text) found h in
    let t = number_takes 15 text m.0 m.1 in
    subst P m.2 (record { front = t.front; spelled = bit_number has t.spelled; parts = t.parts }))
    (λ _ h. absurd cc)
    e

bit_takes : (kind : FileType) (text : List ℕ) (found : Option ℕ × List ℕ) → bit_part kind text ≡ Ok found → Takes (SpellsBit kind found.0) text found.1
bit_takes kind [] found e =
    let none : Option ℕ × List ℕ = (None, []) in
    let P : Option ℕ × List ℕ → Type 0 = λ p. Takes (SpellsBit kind p.0) [] p.1 in
    subst P (ok_is {E = AddressFault} none found e) (record { front = []; spelled = no_bit; parts = refl })
bit_takes kind (b ∷ rest) found e =
    let none : Option ℕ × List ℕ = (None, b ∷ rest) in
    let P : Option ℕ × List ℕ → Type 0 = λ p. Takes (SpellsBit kind p.0) (b ∷ rest) p.1 in
    let Goal : Result (Option ℕ × List ℕ) AddressFault → Type 0 = λ r. r ≡ Ok found → P found in
    cond_both (eqb b 47) (ok_or (bit_front kind rest) NoBit) (Ok none) Goal
    (λ is h.
    let t = number_of_bit_takes kind rest found (ok_or_ok (bit_front kind rest) NoBit found h) in
    record { front = 47 ∷ t.front; spelled = t.spelled; parts = ap (λ (x : ℕ). x ∷ rest) (eqb-true b 47 is) ∙ ap (λ (xs : List ℕ). 47 ∷ xs) t.parts })
    (λ _ h. subst P (ok_is {E = AddressFault} none found h) (record { front = []; spelled = no_bit; parts = refl }))
    e

end_takes : (text : List ℕ) (u : Unit {0}) → end_part text ≡ Ok u → text ≡ []
end_takes [] u e = refl
end_takes (b ∷ text) u e = absurd cc

-- ---- the address

pub address_takes : (text : List ℕ) (at : Address) → address_of text ≡ Ok at → SpellsAddress at text
unfolding address_of
address_takes text at e =
    let k = bind_ok (type_part text) _ at e in
    let f = bind_ok (file_part k.0.0 k.0.1) _ at k.2 in
    let c = bind_ok (colon_part f.0.1) _ at f.2 in
    let m = bind_ok (element_part c.0) _ at c.2 in
    let s = bind_ok (sub_part k.0.0 m.0.1) _ at m.2 in
    let b = bind_ok (bit_part k.0.0 s.0.1) _ at s.2 in
    let n = bind_ok (end_part b.0.1) _ at b.2 in
    let file = file_takes k.0.0 k.0.1 f.0 f.1 in
    let element = number_takes 999 c.0 m.0 (ok_or_ok (number_front 999 c.0) NoElement m.0 m.1) in
    let sub = sub_takes k.0.0 m.0.1 s.0 s.1 in
    let bit = bit_takes k.0.0 s.0.1 b.0 b.1 in
    let all_bit : s.0.1 ≡ bit.front = bit.parts ∙ ap (λ (xs : List ℕ). bit.front ++ xs) (end_takes b.0.1 n.0 n.1) ∙ append-nil bit.front in
    let all_sub : m.0.1 ≡ sub.front ++ bit.front = sub.parts ∙ ap (λ (xs : List ℕ). sub.front ++ xs) all_bit in
    let all_element : c.0 ≡ element.front ++ (sub.front ++ bit.front) = element.parts ∙ ap (λ (xs : List ℕ). element.front ++ xs) all_sub in
    let all_file : k.0.1 ≡ file.front ++ 58 ∷ (element.front ++ (sub.front ++ bit.front)) =
    file.parts ∙ ap (λ (xs : List ℕ). file.front ++ xs) (colon_takes f.0.1 c.0 c.1 ∙ ap (λ (xs : List ℕ). 58 ∷ xs) all_element) in
    let made : Address = record { kind = k.0.0; file = f.0.0; element = m.0.0; sub = s.0.0; bit = b.0.0 } in
    let P : Address → Type 0 = λ a. SpellsAddress a text in
    subst P (ok_is {E = AddressFault} made at n.2) (record {
      file = file.front;
      element = element.front;
      sub = sub.front;
      bit = bit.front;
      of_file = file.spelled;
      of_element = element.spelled;
      of_sub = sub.spelled;
      of_bit = bit.spelled;
      whole = type_takes text k.0 k.1 ∙ ap (λ (xs : List ℕ). letter k.0.0 ∷ xs) all_file ∙ sym (address_parts (letter k.0.0) file.front element.front sub.front bit.front);
    })
