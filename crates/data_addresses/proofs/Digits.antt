-- Digits at the front of a text, and the number that they are.
use Rattle.std.proofs.Common.{◌≡◌, ◌≢◌, ℕ, suc, ◌+◌, ◌-◌, ◌*◌, ◌<◌, ◌≤◌, Bool, true, false, cond, eqb, leb, List, [], ◌∷◌, ◌++◌, length, take, drop, get_or, Option, Some, None, refl, sym, ap, subst, ◌∙◌, arith, length-drop}
use Rattle.std.proofs.Math.Seq.{drop-cons}
use Rattle.std.proofs.lemmas.Bool.{cond_both, eqb-false, ne_eqb, leb-true, le-leb, lt-leb}
use Rattle.std.proofs.lemmas.List.{drop_at, length-take, take_all}
use Rattle.std.specs.Option.{option_map}
use Rattle.logical_address.proofs.Fronts.{some_is}
use Rattle.data_addresses.specs.Numbers.{is_digit, number_from, number_of, AreDigits, SpellsNumber, digits, number_front}

-- ---- the digits at the front

pub digits_are : (text : List ℕ) → AreDigits (digits text)
digits_are [] = tt
digits_are (b ∷ rest) = cond_both (is_digit b) (b ∷ digits rest) [] AreDigits (λ is. (is, digits_are rest)) (λ _. tt)

pub digits_within : (text : List ℕ) → length (digits text) ≤ length text
digits_within [] = omega arith
digits_within (b ∷ rest) =
    let more = digits_within rest in
    cond_both (is_digit b) (b ∷ digits rest) [] (λ ds. length ds ≤ length (b ∷ rest)) (λ _. omega arith) (λ _. omega arith)

pub digits_taken : (text : List ℕ) → take (length (digits text)) text ≡ digits text
digits_taken [] = refl
digits_taken (b ∷ rest) =
    cond_both (is_digit b) (b ∷ digits rest) [] (λ ds. take (length ds) (b ∷ rest) ≡ ds) (λ _. ap (λ (xs : List ℕ). b ∷ xs) (digits_taken rest)) (λ _. refl)

pub digits_parts : (text : List ℕ) → text ≡ digits text ++ drop (length (digits text)) text
digits_parts [] = refl
digits_parts (b ∷ rest) =
    cond_both (is_digit b) (b ∷ digits rest) [] (λ ds. b ∷ rest ≡ ds ++ drop (length ds) (b ∷ rest)) (λ _. ap (λ (xs : List ℕ). b ∷ xs) (digits_parts rest)) (λ _. refl)

-- digits in front of what begins with none
pub digits_again : (front rest : List ℕ) → AreDigits front → digits rest ≡ [] → digits (front ++ rest) ≡ front
digits_again [] rest are none = none
digits_again (b ∷ front) rest are none =
    ap (λ (is : Bool). cond is (b ∷ digits (front ++ rest)) []) are.0 ∙ ap (λ (xs : List ℕ). b ∷ xs) (digits_again front rest are.1 none)

-- ---- the number

pub number_grows : (ds : List ℕ) (n : ℕ) → n ≤ number_from n ds
number_grows [] n = omega arith
number_grows (d ∷ ds) n = let more = number_grows ds (10 * n + (d - 48)) in omega arith

-- with the next digit a number is over what may stand there
pub past_most : (ds : List ℕ) (i n most : ℕ) → number_from n (drop i ds) ≡ number_of ds → i < length ds → most < 10 * n + (get_or ds i 0 - 48) → None ≡ cond (leb (number_of ds) most) (Some (number_of ds)) None
past_most ds i n most so_far within over =
    let next : drop i ds ≡ get_or ds i 0 ∷ drop (suc i) ds = drop-cons ds i 0 within in
    let whole : number_from (10 * n + (get_or ds i 0 - 48)) (drop (suc i) ds) ≡ number_of ds = ap (number_from n) (sym next) ∙ so_far in
    let grows = number_grows (drop (suc i) ds) (10 * n + (get_or ds i 0 - 48)) in
    let no : leb (number_of ds) most ≡ false = lt-leb (number_of ds) most (omega arith) in
    let found : Bool → Option ℕ = λ fits. cond fits (Some (number_of ds)) None in
    sym (ap found no)

abbrev numbered : ℕ → List ℕ → Option (ℕ × List ℕ)
numbered n rest = Some (n, rest)

one_test : (fits : Bool) (n : ℕ) (rest : List ℕ) (o : Option ℕ) → o ≡ cond fits (Some n) None → option_map (λ (m : ℕ). let found : ℕ × List ℕ = (m, rest) in found) o ≡ cond fits (numbered n rest) None
one_test true n rest o e = ap (option_map (λ (m : ℕ). let found : ℕ × List ℕ = (m, rest) in found)) e
one_test false n rest o e = ap (option_map (λ (m : ℕ). let found : ℕ × List ℕ = (m, rest) in found)) e

-- the number of the digits at the front, if it may stand there, is the number there
pub number_is : (text : List ℕ) (most count : ℕ) (o : Option ℕ) → count ≡ length (digits text) → (count ≡ 0 → ⊥) → o ≡ cond (leb (number_of (take count text)) most) (Some (number_of (take count text))) None
    → option_map (λ (m : ℕ). let found : ℕ × List ℕ = (m, drop count text) in found) o ≡ number_front most text
number_is text most count o is some e =
    let ds = digits text in
    let front : take count text ≡ ds = ap (λ (n : ℕ). take n text) is ∙ digits_taken text in
    let read : List ℕ → Option ℕ = λ xs. cond (leb (number_of xs) most) (Some (number_of xs)) None in
    let some_digits : eqb (length ds) 0 ≡ false = ne_eqb (length ds) 0 (λ none. some (is ∙ none)) in
    let test : Bool → Option (ℕ × List ℕ) = λ none. cond none None (cond (leb (number_of ds) most) (numbered (number_of ds) (drop (length ds) text)) None) in
    ap (λ (n : ℕ). option_map (λ (m : ℕ). let found : ℕ × List ℕ = (m, drop n text) in found) o) is
    ∙ one_test (leb (number_of ds) most) (number_of ds) (drop (length ds) text) o (e ∙ ap read front)
    ∙ sym (ap test some_digits)

pub rest_after : (count : ℕ) (text : List ℕ) → take (length text - count) (drop count text) ≡ drop count text
rest_after count text = let left = length-drop count text in take_all (length text - count) (drop count text) (omega arith)

pub count_within : (count : ℕ) (text : List ℕ) → count ≡ length (digits text) → count ≡ length (take count text)
count_within count text is = let within = digits_within text in let taken = length-take count text in omega arith

not_empty : (text : List ℕ) → (length text ≡ 0 → ⊥) → text ≢ []
not_empty text some e = some (ap length e)

-- a text is what is spelled so, and the rest after it
pub record Takes (Spelled : List ℕ → Type 0) (text rest : List ℕ) : Type 0 where
  pub front : List ℕ
  pub spelled : Spelled front
  pub parts : text ≡ front ++ rest

pub number_takes : (most : ℕ) (text : List ℕ) (found : ℕ × List ℕ) → number_front most text ≡ Some found → Takes (SpellsNumber most found.0) text found.1
number_takes most text found e =
    let ds = digits text in
    let Goal : Option (ℕ × List ℕ) → Type 0 = λ o. o ≡ Some found → Takes (SpellsNumber most found.0) text found.1 in
    let P : ℕ × List ℕ → Type 0 = λ p. Takes (SpellsNumber most p.0) text p.1 in
    cond_both (eqb (length ds) 0) None _ Goal (λ _ h. absurd cc) (λ some.
    cond_both (leb (number_of ds) most) (Some (number_of ds, drop (length ds) text)) None Goal
    (λ fits h. subst P (some_is (number_of ds, drop (length ds) text) found h) (record {
      front = ds;
      spelled = record { some = not_empty ds (eqb-false (length ds) 0 some); each = digits_are text; value = refl; within = leb-true (number_of ds) most fits };
      parts = digits_parts text;
    }))
    (λ _ h. absurd cc))
    e

some_digit : (text : List ℕ) → text ≢ [] → eqb (length text) 0 ≡ false
some_digit [] some = absurd (some refl)
some_digit (b ∷ text) some = ne_eqb (length (b ∷ text)) 0 (λ e. omega arith)

pub number_again : {most n : ℕ} {front : List ℕ} → SpellsNumber most n front → (rest : List ℕ) → digits rest ≡ [] → number_front most (front ++ rest) ≡ Some (n, rest)
number_again {most} {n} {front} s rest none =
    let same = digits_again front rest s.each none in
    let read : List ℕ → Option (ℕ × List ℕ) = λ ds. cond (eqb (length ds) 0) None (cond (leb (number_of ds) most) (Some (number_of ds, drop (length ds) (front ++ rest))) None) in
    let within : leb (number_of front) most ≡ true = le-leb (number_of front) most (subst (λ (m : ℕ). m ≤ most) s.value s.within) in
    let found : ℕ → List ℕ → Option (ℕ × List ℕ) = λ m left. Some (m, left) in
    ap read same
    ∙ rw (some_digit front s.some, within) (ap (found (number_of front)) (drop_at front rest (length front) refl))
    ∙ ap (λ m. found m rest) (sym s.value)
