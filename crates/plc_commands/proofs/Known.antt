-- What is spelled as an order is read as it.
use Rattle.std.proofs.Common.{◌≡◌, ◌≢◌, ℕ, ◌+◌, ◌%◌, Bool, true, false, not, ◌&&◌, eqb, List, [], ◌∷◌, ◌++◌, length, Result, Ok, refl, sym, ap, ◌∙◌, append_assoc, arith, length-append}
use Rattle.std.proofs.lemmas.Bool.{eqb-true, eq-eqb}
use Rattle.std.proofs.lemmas.List.{drop_at}
use Rattle.df1_base.specs.declared.code.Code.{Code}
use Rattle.logical_address.specs.declared.levels.Levels.{Levels}
use Rattle.logical_address.specs.declared.param.Param.{Param}
use Rattle.logical_address.specs.Spelling.{SpellsLevels, SpellsParam}
use Rattle.logical_address.proofs.Fronts.{ok_is}
use Rattle.logical_address.proofs.Addresses.{levels_at_known}
use Rattle.logical_address.proofs.Parameters.{param_at_known}
use Rattle.plc_commands.specs.declared.order.Set.{Set}
use Rattle.plc_commands.specs.declared.order.Window.{Window}
use Rattle.plc_commands.specs.Order.{Order, Peek, Poke, RangeWrite, RangeRead, Change, TypedWrite, TypedRead, IsWords}
use Rattle.plc_commands.specs.Fields.{◌>>=◌, only_if, word, after_levels, levels, after_param, param, element_or_array, parameter, set, sets_within, sets, words}
use Rattle.plc_commands.specs.Reading as reading
use Rattle.plc_commands.specs.Spelling.{SpellsWord, low_first, SpellsWindow, SpellsSet, SpellsSets, no_set, one_set, SpellsElement, alone, in_array, SpellsFields, cmd_byte, fnc_bytes, SpellsOrder}
use Rattle.plc_commands.specs.Spelling as spells
use Rattle.plc_commands.proofs.SetLists.{set_shorter, enough}

three_fronts : (a b c rest : List ℕ) → ((a ++ b) ++ c) ++ rest ≡ a ++ (b ++ (c ++ rest))
three_fronts a b c rest = simp append_assoc

not_true : (t : Bool) → (t ≡ true → ⊥) → t ≡ false
not_true true never = absurd (never refl)
not_true false never = refl

is_false : (a b : ℕ) → a ≢ b → eqb a b ≡ false
is_false a b ne = not_true (eqb a b) (λ same. ne (eqb-true a b same))

-- ---- fields

word_again : {n : ℕ} {front : List ℕ} → SpellsWord n front → (rest : List ℕ) → word (front ++ rest) ≡ Ok (n, rest)
word_again (low_first is) rest = let found : ℕ → Result (ℕ × List ℕ) Code = λ m. Ok (m, rest) in ap found (sym is)

levels_again : (at : Levels) (front rest : List ℕ) → SpellsLevels at front → levels (front ++ rest) ≡ Ok (at, rest)
levels_again at front rest s =
    let found : List ℕ → Result (Levels × List ℕ) Code = λ xs. Ok (at, xs) in
    ap (after_levels (front ++ rest)) (levels_at_known at (front ++ rest) front rest s refl) ∙ ap found (drop_at front rest (length front) refl)

param_again : (p : Param) (front rest : List ℕ) → SpellsParam p front → param (front ++ rest) ≡ Ok (p, rest)
param_again p front rest s =
    let found : List ℕ → Result (Param × List ℕ) Code = λ xs. Ok (p, xs) in
    ap (after_param (front ++ rest)) (param_at_known p (front ++ rest) front rest s refl) ∙ ap found (drop_at front rest (length front) refl)

parameter_again : {element : Param} {array : Bool} {size : ℕ} {front : List ℕ} → SpellsElement element array size front → (bytes : List ℕ) → size ≡ length bytes → parameter (front ++ bytes) ≡ Ok ((element, array), bytes)
parameter_again (alone {element} {size} {bytes = front} s other) bytes is =
    ap (λ (r : Result (Param × List ℕ) Code). r >>= element_or_array) (param_again element front bytes s) ∙ rw (is_false element.kind 9 other) refl
parameter_again (in_array {element} {array} {size} {outer} {inner} s nine t total) bytes is =
    let kind : eqb array.kind 9 ≡ true = eq-eqb array.kind 9 nine in
    let all : eqb array.size (length (inner ++ bytes)) ≡ true = eq-eqb array.size (length (inner ++ bytes)) (total ∙ ap (λ (n : ℕ). length inner + n) is ∙ sym (length-append inner bytes)) in
    ap parameter (append_assoc outer inner bytes)
    ∙ ap (λ (r : Result (Param × List ℕ) Code). r >>= element_or_array) (param_again array outer (inner ++ bytes) s)
    ∙ rw (kind, param_again element inner bytes t, all) refl

-- ---- sets

set_again : (change : Set) (front rest : List ℕ) → SpellsSet change front → set (front ++ rest) ≡ Ok (change, rest)
unfolding set
set_again change front rest s =
    let regrouped : front ++ rest ≡ s.at ++ (s.and ++ (s.or ++ rest)) = ap (λ (xs : List ℕ). xs ++ rest) s.whole ∙ three_fronts s.at s.and s.or rest in
    ap set regrouped ∙ rw (levels_again change.at s.at (s.and ++ (s.or ++ rest)) s.of_at, word_again s.of_and (s.or ++ rest), word_again s.of_or rest) refl

first_set : (bytes : List ℕ) (change : Set) (rest : List ℕ) → set bytes ≡ Ok (change, rest) → sets_within (length bytes) bytes ≡ (sets_within (length rest) rest >>= (λ more. Ok (change ∷ more)))
unfolding sets_within
first_set [] change rest is = let shorter = set_shorter [] (change, rest) is in absurd (omega arith)
first_set (b ∷ bytes) change rest is =
    let shorter = set_shorter (b ∷ bytes) (change, rest) is in
    let same : sets_within (length bytes) rest ≡ sets_within (length rest) rest = enough (length bytes) (length rest) rest (omega arith) (omega arith) in
    let here : sets_within (length (b ∷ bytes)) (b ∷ bytes) ≡ (sets_within (length bytes) rest >>= (λ more. Ok (change ∷ more))) = rw is refl in
    here ∙ ap (λ (r : Result (List Set) Code). r >>= (λ more. Ok (change ∷ more))) same

sets_again : {changes : List Set} {bytes : List ℕ} → SpellsSets changes bytes → sets_within (length bytes) bytes ≡ Ok changes
unfolding sets_within
sets_again no_set = refl
sets_again (one_set {set = change} {sets = changes} {front} {rest} s more) =
    first_set (front ++ rest) change rest (set_again change front rest s) ∙ ap (λ (r : Result (List Set) Code). r >>= (λ xs. Ok (change ∷ xs))) (sets_again more)

at_least_one : (changes : List Set) (bytes : List ℕ) → changes ≢ [] → sets_within (length bytes) bytes ≡ Ok changes → sets bytes ≡ Ok changes
unfolding sets_within
at_least_one changes [] some e = let none : List Set = [] in absurd (some (sym (ok_is {E = Code} none changes e)))
at_least_one changes (b ∷ bytes) some e = e

all_sets_again : {changes : List Set} {bytes : List ℕ} → SpellsSets changes bytes → changes ≢ [] → sets bytes ≡ Ok changes
all_sets_again {changes} {bytes} s some = at_least_one changes bytes some (sets_again s)

-- ---- last fields

words_again : (bytes : List ℕ) → IsWords bytes → words bytes ≡ Ok bytes
words_again [] i = absurd (i.some refl)
words_again (b ∷ bytes) i =
    let some : eqb (length (b ∷ bytes)) 0 ≡ false = is_false (length (b ∷ bytes)) 0 (λ e. omega arith) in
    let even : eqb (length (b ∷ bytes) % 2) 0 ≡ true = eq-eqb (length (b ∷ bytes) % 2) 0 (let whole = i.whole in omega arith) in
    ap (λ (t : Bool). only_if (not t && eqb (length (b ∷ bytes) % 2) 0) (b ∷ bytes)) some ∙ ap (λ (t : Bool). only_if t (b ∷ bytes)) even

-- ---- what follows CMD and FNC

window_parts : (part : Window) (front rest : List ℕ) (s : SpellsWindow part front) → front ++ rest ≡ s.offset ++ (s.total ++ (s.at ++ rest))
window_parts part front rest s = ap (λ (xs : List ℕ). xs ++ rest) s.whole ∙ three_fronts s.offset s.total s.at rest

range_write_again : (part : Window) (front bytes : List ℕ) → SpellsWindow part front → IsWords bytes → reading.range_write (front ++ bytes) ≡ Ok (RangeWrite part bytes)
unfolding reading.range_write
range_write_again part front bytes s i =
    ap reading.range_write (window_parts part front bytes s)
    ∙ rw (word_again s.of_offset (s.total ++ (s.at ++ bytes)), word_again s.of_total (s.at ++ bytes), levels_again part.at s.at bytes s.of_at, words_again bytes i) refl

range_read_again : (part : Window) (front : List ℕ) (size : ℕ) → SpellsWindow part front → reading.range_read (front ++ size ∷ []) ≡ Ok (RangeRead part size)
unfolding reading.range_read
range_read_again part front size s =
    ap reading.range_read (window_parts part front (size ∷ []) s)
    ∙ rw (word_again s.of_offset (s.total ++ (s.at ++ size ∷ [])), word_again s.of_total (s.at ++ size ∷ []), levels_again part.at s.at (size ∷ []) s.of_at) refl

typed_write_again : (part : Window) (element : Param) (array : Bool) (front param bytes : List ℕ) → SpellsWindow part front → SpellsElement element array (length bytes) param
    → reading.typed_write (front ++ (param ++ bytes)) ≡ Ok (TypedWrite part element array bytes)
unfolding reading.typed_write
typed_write_again part element array front param bytes s p =
    ap reading.typed_write (window_parts part front (param ++ bytes) s)
    ∙ rw (word_again s.of_offset (s.total ++ (s.at ++ (param ++ bytes))), word_again s.of_total (s.at ++ (param ++ bytes)), levels_again part.at s.at (param ++ bytes) s.of_at, parameter_again p bytes refl) refl

typed_read_again : (part : Window) (count : ℕ) (front last : List ℕ) → SpellsWindow part front → SpellsWord count last → reading.typed_read (front ++ last) ≡ Ok (TypedRead part count)
unfolding reading.typed_read
typed_read_again part count front last s (low_first {n} {low} {high} is) =
    let found : ℕ → Result Order Code = λ n. Ok (TypedRead part n) in
    ap reading.typed_read (window_parts part front (low ∷ high ∷ []) s)
    ∙ rw (word_again s.of_offset (s.total ++ (s.at ++ low ∷ high ∷ [])), word_again s.of_total (s.at ++ low ∷ high ∷ []), levels_again part.at s.at (low ∷ high ∷ []) s.of_at) (ap found (sym is))

peek_again : {address : ℕ} {at : List ℕ} (size : ℕ) → SpellsWord address at → reading.unprotected_read (at ++ size ∷ []) ≡ Ok (Peek address size)
unfolding reading.unprotected_read
peek_again size s = rw (word_again s (size ∷ [])) refl

poke_again : {address : ℕ} {at : List ℕ} (bytes : List ℕ) → SpellsWord address at → IsWords bytes → reading.unprotected_write (at ++ bytes) ≡ Ok (Poke address bytes)
unfolding reading.unprotected_write
poke_again bytes s i = rw (word_again s bytes, words_again bytes i) refl

change_again : {changes : List Set} {bytes : List ℕ} → SpellsSets changes bytes → changes ≢ [] → reading.change bytes ≡ Ok (Change changes)
unfolding reading.change
change_again s some = rw (all_sets_again s some) refl

fields_again : {order : Order} {fields : List ℕ} → SpellsFields order fields → reading.order_of (cmd_byte order) (fnc_bytes order ++ fields) ≡ Ok order
fields_again spells.echo = refl
fields_again spells.status = refl
fields_again (spells.peek {address} {size} s) = peek_again size s
fields_again (spells.poke {address} {at} {bytes} s i) = poke_again bytes s i
fields_again (spells.range_write {window = part} {front} {bytes} s i) = range_write_again part front bytes s i
fields_again (spells.range_read {window = part} {size} {front} s) = range_read_again part front size s
fields_again (spells.change s some) = change_again s some
fields_again (spells.typed_write {window = part} {element} {array} {front} {param} {bytes} s p) = typed_write_again part element array front param bytes s p
fields_again (spells.typed_read {window = part} {count} {front} {last} s l) = typed_read_again part count front last s l

pub order_known : (order : Order) (cmd : ℕ) (payload : List ℕ) → SpellsOrder order cmd payload → reading.order_of cmd payload ≡ Ok order
order_known order cmd payload s =
    ap (λ (c : ℕ). reading.order_of c payload) s.of_cmd ∙ ap (reading.order_of (cmd_byte order)) s.whole ∙ fields_again s.of_fields

-- a command spells one order at most
pub one_order : (order other : Order) (cmd : ℕ) (payload : List ℕ) → SpellsOrder order cmd payload → SpellsOrder other cmd payload → order ≡ other
one_order order other cmd payload p q = ok_is {E = Code} order other (sym (order_known order cmd payload p) ∙ order_known other cmd payload q)
