-- What is read as an order is spelled so.
use Rattle.std.proofs.Common.{◌≡◌, ℕ, zero, suc, ◌+◌, ◌-◌, ◌%◌, ◌≤◌, Bool, true, false, cond, not, ◌&&◌, eqb, List, [], ◌∷◌, ◌++◌, length, drop, Result, Ok, Err, refl, sym, ap, subst, ◌∙◌, append_assoc, append-nil, arith, length-append}
use Rattle.std.proofs.lemmas.Bool.{cond_both, eqb-true, eqb-false}
use Rattle.std.proofs.lemmas.List.{drop_at}
use Rattle.df1_base.specs.declared.code.Code.{Code}
use Rattle.df1_base.specs.declared.code.Code.TheVariants.{Sts}
use Rattle.logical_address.specs.declared.levels.Levels.{Levels}
use Rattle.logical_address.specs.declared.levels.LevelFault.{LevelFault}
use Rattle.logical_address.specs.declared.param.Param.{Param}
use Rattle.logical_address.specs.declared.param.ParamFault.{ParamFault}
use Rattle.logical_address.specs.Spelling.{SpellsLevels, SpellsParam}
use Rattle.logical_address.specs.Reading.{word_front, levels_front, param_front, used_or_fault}
use Rattle.logical_address.proofs.Fronts.{IsBytes, IsBytes-rest, Takes, ok_is, ok_or_ok}
use Rattle.logical_address.proofs.Values.{word_takes}
use Rattle.logical_address.proofs.Addresses.{levels_takes}
use Rattle.logical_address.proofs.Parameters.{param_takes}
use Rattle.plc_commands.specs.declared.order.Set.{Set}
use Rattle.plc_commands.specs.declared.order.Window.{Window}
use Rattle.plc_commands.specs.Order.{Order, Echo, Status, Peek, Poke, RangeWrite, RangeRead, Change, TypedWrite, TypedRead, window}
use Rattle.plc_commands.specs.Fields.{illegal, only_if, word, after_levels, levels, after_param, param, array_element, parameter, set, sets_within, sets, last_byte, last_word, words}
use Rattle.plc_commands.specs.Reading as reading
use Rattle.plc_commands.specs.Spelling.{SpellsWord, low_first, SpellsWindow, SpellsSet, SpellsSets, no_set, one_set, SpellsElement, alone, in_array, SpellsFields, cmd_byte, fnc_bytes, SpellsOrder}
use Rattle.plc_commands.specs.Spelling as spells
use Rattle.plc_commands.proofs.SetLists.{bind_ok, set_shorter}
use Rattle.plc_commands.proofs.Orders.{words_are, only_if_ok, some_set}

-- ---- fields at the front

take_word : (bytes : List ℕ) (found : ℕ × List ℕ) → IsBytes bytes → word bytes ≡ Ok found → Takes (SpellsWord found.0) bytes found.1
take_word bytes found fits e =
    let w = word_takes bytes found.0 found.1 fits (ok_or_ok (word_front bytes) (Sts 0x10) found e) in
    record { front = w.low ∷ w.high ∷ []; spelled = low_first w.is; parts = w.parts; rest_fits = w.rest_fits }

-- what is left after so many bytes as a front has is the rest
left_after : (bytes front rest : List ℕ) → bytes ≡ front ++ rest → drop (length bytes - length rest) bytes ≡ rest
left_after bytes front rest parts =
    let total : length bytes ≡ length front + length rest = ap length parts ∙ length-append front rest in
    let count : length bytes - length rest ≡ length front = omega arith in
    ap (λ (n : ℕ). drop n bytes) count ∙ ap (drop (length front)) parts ∙ drop_at front rest (length front) refl

take_levels : (bytes : List ℕ) (found : Levels × List ℕ) → IsBytes bytes → levels bytes ≡ Ok found → Takes (SpellsLevels found.0) bytes found.1
take_levels bytes found fits e = by (levels_front bytes) (λ at rest h. levels_takes bytes at rest fits h) e
  where
    by : (r : Result (Levels × List ℕ) LevelFault) → ((at : Levels) (rest : List ℕ) → r ≡ Ok (at, rest) → Takes (SpellsLevels at) bytes rest) → after_levels bytes (used_or_fault bytes r) ≡ Ok found → Takes (SpellsLevels found.0) bytes found.1
    by (Err fault) takes e = absurd cc
    by (Ok (at, rest)) takes e =
        let t = takes at rest refl in
        let pair : Levels × List ℕ = (at, rest) in
        let left = left_after bytes t.front rest t.parts in
        let is : pair ≡ found = ap (λ (xs : List ℕ). let p : Levels × List ℕ = (at, xs) in p) (sym left) ∙ ok_is {E = Code} (at, drop (length bytes - length rest) bytes) found e in
        let P : Levels × List ℕ → Type 0 = λ p. Takes (SpellsLevels p.0) bytes p.1 in
        subst P is t

take_param : (bytes : List ℕ) (found : Param × List ℕ) → IsBytes bytes → param bytes ≡ Ok found → Takes (SpellsParam found.0) bytes found.1
take_param bytes found fits e = by (param_front bytes) (λ p rest h. param_takes bytes p rest fits h) e
  where
    by : (r : Result (Param × List ℕ) ParamFault) → ((p : Param) (rest : List ℕ) → r ≡ Ok (p, rest) → Takes (SpellsParam p) bytes rest) → after_param bytes (used_or_fault bytes r) ≡ Ok found → Takes (SpellsParam found.0) bytes found.1
    by (Err fault) takes e = absurd cc
    by (Ok (q, rest)) takes e =
        let t = takes q rest refl in
        let pair : Param × List ℕ = (q, rest) in
        let left = left_after bytes t.front rest t.parts in
        let is : pair ≡ found = ap (λ (xs : List ℕ). let p : Param × List ℕ = (q, xs) in p) (sym left) ∙ ok_is {E = Code} (q, drop (length bytes - length rest) bytes) found e in
        let P : Param × List ℕ → Type 0 = λ p. Takes (SpellsParam p.0) bytes p.1 in
        subst P is t

only_if_true : {A : Type 0} (test : Bool) (answer other : A) → only_if test answer ≡ Ok other → test ≡ true
only_if_true true answer other e = refl
only_if_true false answer other e = absurd cc

three_fronts : (a b c rest : List ℕ) → ((a ++ b) ++ c) ++ rest ≡ a ++ (b ++ (c ++ rest))
three_fronts a b c rest = simp append_assoc

-- offset, total and address, as they are read one after the other
record TakesWindow (bytes : List ℕ) (found : Window) (rest : List ℕ) : Type 0 where
  front : List ℕ
  spelled : SpellsWindow found front
  parts : bytes ≡ front ++ rest
  rest_fits : IsBytes rest

take_window : (bytes : List ℕ) (offset total : ℕ × List ℕ) (at : Levels × List ℕ) → IsBytes bytes → word bytes ≡ Ok offset → word offset.1 ≡ Ok total → levels total.1 ≡ Ok at
    → TakesWindow bytes (window offset.0 total.0 at.0) at.1
take_window bytes offset total at fits is_offset is_total is_at =
    let o = take_word bytes offset fits is_offset in
    let t = take_word offset.1 total o.rest_fits is_total in
    let a = take_levels total.1 at t.rest_fits is_at in
    record {
      front = o.front ++ t.front ++ a.front;
      spelled = record { offset = o.front; total = t.front; at = a.front; of_offset = o.spelled; of_total = t.spelled; of_at = a.spelled; whole = refl };
      parts = o.parts ∙ ap (λ (xs : List ℕ). o.front ++ xs) (t.parts ∙ ap (λ (xs : List ℕ). t.front ++ xs) a.parts) ∙ sym (three_fronts o.front t.front a.front at.1);
      rest_fits = a.rest_fits;
    }

-- ---- the parameter

take_array : (array : Param) (outer bytes : List ℕ) (found : (Param × Bool) × List ℕ) → IsBytes bytes → SpellsParam array outer → array.kind ≡ 9 → array_element array bytes ≡ Ok found
    → Takes (SpellsElement found.0.0 found.0.1 (length found.1)) (outer ++ bytes) found.1
take_array array outer bytes found fits of_array nine e =
    let element = bind_ok (param bytes) _ found e in
    let t = take_param bytes element.0 fits element.1 in
    let made : (Param × Bool) × List ℕ = ((element.0.0, true), element.0.1) in
    let is : made ≡ found = only_if_ok (eqb array.size (length bytes)) made found element.2 in
    let size = eqb-true array.size (length bytes) (only_if_true (eqb array.size (length bytes)) made found element.2) in
    let total : length bytes ≡ length t.front + length element.0.1 = ap length t.parts ∙ length-append t.front element.0.1 in
    let P : (Param × Bool) × List ℕ → Type 0 = λ q. Takes (SpellsElement q.0.0 q.0.1 (length q.1)) (outer ++ bytes) q.1 in
    subst P is (record {
      front = outer ++ t.front;
      spelled = in_array of_array nine t.spelled (size ∙ total);
      parts = ap (λ (xs : List ℕ). outer ++ xs) t.parts ∙ sym (append_assoc outer t.front element.0.1);
      rest_fits = t.rest_fits;
    })

take_parameter : (bytes : List ℕ) (found : (Param × Bool) × List ℕ) → IsBytes bytes → parameter bytes ≡ Ok found → Takes (SpellsElement found.0.0 found.0.1 (length found.1)) bytes found.1
take_parameter bytes found fits e =
    let first = bind_ok (param bytes) _ found e in
    let t = take_param bytes first.0 fits first.1 in
    let made : (Param × Bool) × List ℕ = ((first.0.0, false), first.0.1) in
    let P : (Param × Bool) × List ℕ → Type 0 = λ q. Takes (SpellsElement q.0.0 q.0.1 (length q.1)) bytes q.1 in
    let Q : List ℕ → Type 0 = λ xs. Takes (SpellsElement found.0.0 found.0.1 (length found.1)) xs found.1 in
    cond_both (eqb first.0.0.kind 9) (array_element first.0.0 first.0.1) (Ok made) (λ r. r ≡ Ok found → Q bytes)
    (λ nine h. subst Q (sym t.parts) (take_array first.0.0 t.front first.0.1 found t.rest_fits t.spelled (eqb-true first.0.0.kind 9 nine) h))
    (λ other h. subst P (ok_is {E = Code} made found h) (record { front = t.front; spelled = alone t.spelled (eqb-false first.0.0.kind 9 other); parts = t.parts; rest_fits = t.rest_fits }))
    first.2

-- ---- sets

take_set : (bytes : List ℕ) (found : Set × List ℕ) → IsBytes bytes → set bytes ≡ Ok found → Takes (SpellsSet found.0) bytes found.1
unfolding set
take_set bytes found fits e =
    let at = bind_ok (levels bytes) _ found e in
    let and = bind_ok (word at.0.1) _ found at.2 in
    let or = bind_ok (word and.0.1) _ found and.2 in
    let a = take_levels bytes at.0 fits at.1 in
    let n = take_word at.0.1 and.0 a.rest_fits and.1 in
    let o = take_word and.0.1 or.0 n.rest_fits or.1 in
    let made : Set × List ℕ = (record { at = at.0.0; and = and.0.0; or = or.0.0 }, or.0.1) in
    let P : Set × List ℕ → Type 0 = λ p. Takes (SpellsSet p.0) bytes p.1 in
    subst P (ok_is {E = Code} made found or.2) (record {
      front = a.front ++ n.front ++ o.front;
      spelled = record { at = a.front; and = n.front; or = o.front; of_at = a.spelled; of_and = n.spelled; of_or = o.spelled; whole = refl };
      parts = a.parts ∙ ap (λ (xs : List ℕ). a.front ++ xs) (n.parts ∙ ap (λ (xs : List ℕ). n.front ++ xs) o.parts) ∙ sym (three_fronts a.front n.front o.front or.0.1);
      rest_fits = o.rest_fits;
    })

sets_spelled : (most : ℕ) (bytes : List ℕ) (found : List Set) → IsBytes bytes → length bytes ≤ most → sets_within most bytes ≡ Ok found → SpellsSets found bytes
unfolding sets_within
sets_spelled most [] found fits le e = let P : List Set → Type 0 = λ xs. SpellsSets xs [] in subst P (ok_is {E = Code} [] found e) no_set
sets_spelled zero (b ∷ bytes) found fits le e = absurd (omega arith)
sets_spelled (suc most) (b ∷ bytes) found fits le e =
    let first = bind_ok (set (b ∷ bytes)) _ found e in
    let more = bind_ok (sets_within most first.0.1) _ found first.2 in
    let shorter = set_shorter (b ∷ bytes) first.0 first.1 in
    let t = take_set (b ∷ bytes) first.0 fits first.1 in
    let rest = sets_spelled most first.0.1 more.0 t.rest_fits (omega arith) more.1 in
    let P : List Set → Type 0 = λ xs. SpellsSets xs (b ∷ bytes) in
    let Q : List ℕ → Type 0 = λ xs. SpellsSets (first.0.0 ∷ more.0) xs in
    subst P (ok_is {E = Code} (first.0.0 ∷ more.0) found more.2) (subst Q (sym t.parts) (one_set t.spelled rest))

all_sets_spelled : (bytes : List ℕ) (found : List Set) → IsBytes bytes → sets bytes ≡ Ok found → SpellsSets found bytes
all_sets_spelled [] found fits e = absurd cc
all_sets_spelled (b ∷ bytes) found fits e = sets_spelled (length (b ∷ bytes)) (b ∷ bytes) found fits (omega arith) e

-- ---- last fields

last_byte_is : (bytes : List ℕ) (b : ℕ) → last_byte bytes ≡ Ok b → bytes ≡ b ∷ []
last_byte_is [] b e = absurd cc
last_byte_is (a ∷ []) b e = ap (λ (x : ℕ). x ∷ []) (ok_is {E = Code} a b e)
last_byte_is (a ∷ c ∷ bytes) b e = absurd cc

empty_is : (bytes : List ℕ) → length bytes ≡ 0 → bytes ≡ []
empty_is [] e = refl
empty_is (b ∷ bytes) e = absurd (omega arith)

last_word_is : (bytes : List ℕ) (n : ℕ) → IsBytes bytes → last_word bytes ≡ Ok n → SpellsWord n bytes
last_word_is bytes n fits e =
    let found = bind_ok (word bytes) _ n e in
    let t = take_word bytes found.0 fits found.1 in
    let none : found.0.1 ≡ [] = empty_is found.0.1 (eqb-true (length found.0.1) 0 (only_if_true (eqb (length found.0.1) 0) found.0.0 n found.2)) in
    let whole : t.front ≡ bytes = sym (append-nil t.front) ∙ ap (λ (xs : List ℕ). t.front ++ xs) (sym none) ∙ sym t.parts in
    let P : ℕ → Type 0 = λ m. SpellsWord m bytes in
    let Q : List ℕ → Type 0 = λ xs. SpellsWord found.0.0 xs in
    subst P (only_if_ok (eqb (length found.0.1) 0) found.0.0 n found.2) (subst Q whole t.spelled)

words_same : (bytes found : List ℕ) → words bytes ≡ Ok found → bytes ≡ found
words_same bytes found e =
    only_if_ok (not (eqb (length bytes) 0) && eqb (length bytes % 2) 0) bytes found e

-- ---- what follows CMD and FNC

-- an order of a command, and how its fields are spelled
record Follows (cmd : ℕ) (begins : List ℕ) (order : Order) (bytes : List ℕ) : Type 0 where
  of_cmd : cmd ≡ cmd_byte order
  of_fnc : begins ≡ fnc_bytes order
  fields : SpellsFields order bytes

abbrev okay : Order → Result Order Code
okay order = Ok order

-- an order that was made is the one that was read
made_is : (cmd : ℕ) (begins bytes : List ℕ) (first order : Order) → okay first ≡ Ok order → Follows cmd begins first bytes → Follows cmd begins order bytes
made_is cmd begins bytes first order e s = let P : Order → Type 0 = λ o. Follows cmd begins o bytes in subst P (ok_is {E = Code} first order e) s

status_spelled : (bytes : List ℕ) (order : Order) → reading.status bytes ≡ Ok order → Follows 0x06 (0x03 ∷ []) order bytes
status_spelled [] order e = made_is 0x06 (0x03 ∷ []) [] Status order e (record { of_cmd = refl; of_fnc = refl; fields = spells.status })
status_spelled (b ∷ bytes) order e = absurd cc

peek_spelled : (bytes : List ℕ) (order : Order) → IsBytes bytes → reading.unprotected_read bytes ≡ Ok order → Follows 0x01 [] order bytes
unfolding reading.unprotected_read
peek_spelled bytes order fits e =
    let a = bind_ok (word bytes) _ order e in
    let s = bind_ok (last_byte a.0.1) _ order a.2 in
    let t = take_word bytes a.0 fits a.1 in
    let first : Order = Peek a.0.0 s.0 in
    let whole : t.front ++ s.0 ∷ [] ≡ bytes = ap (λ (xs : List ℕ). t.front ++ xs) (sym (last_byte_is a.0.1 s.0 s.1)) ∙ sym t.parts in
    let P : List ℕ → Type 0 = λ xs. SpellsFields first xs in
    made_is 0x01 [] bytes first order s.2 (record { of_cmd = refl; of_fnc = refl; fields = subst P whole (spells.peek t.spelled) })

poke_spelled : (bytes : List ℕ) (order : Order) → IsBytes bytes → reading.unprotected_write bytes ≡ Ok order → Follows 0x08 [] order bytes
unfolding reading.unprotected_write
poke_spelled bytes order fits e =
    let a = bind_ok (word bytes) _ order e in
    let s = bind_ok (words a.0.1) _ order a.2 in
    let t = take_word bytes a.0 fits a.1 in
    let first : Order = Poke a.0.0 s.0 in
    let whole : t.front ++ s.0 ≡ bytes = ap (λ (xs : List ℕ). t.front ++ xs) (sym (words_same a.0.1 s.0 s.1)) ∙ sym t.parts in
    let P : List ℕ → Type 0 = λ xs. SpellsFields first xs in
    made_is 0x08 [] bytes first order s.2 (record { of_cmd = refl; of_fnc = refl; fields = subst P whole (spells.poke t.spelled (words_are a.0.1 s.0 s.1).1) })

range_write_spelled : (bytes : List ℕ) (order : Order) → IsBytes bytes → reading.range_write bytes ≡ Ok order → Follows 0x0F (0x00 ∷ []) order bytes
unfolding reading.range_write
range_write_spelled bytes order fits e =
    let o = bind_ok (word bytes) _ order e in
    let l = bind_ok (word o.0.1) _ order o.2 in
    let a = bind_ok (levels l.0.1) _ order l.2 in
    let s = bind_ok (words a.0.1) _ order a.2 in
    let t = take_window bytes o.0 l.0 a.0 fits o.1 l.1 a.1 in
    let first : Order = RangeWrite (window o.0.0 l.0.0 a.0.0) s.0 in
    let whole : t.front ++ s.0 ≡ bytes = ap (λ (xs : List ℕ). t.front ++ xs) (sym (words_same a.0.1 s.0 s.1)) ∙ sym t.parts in
    let P : List ℕ → Type 0 = λ xs. SpellsFields first xs in
    made_is 0x0F (0x00 ∷ []) bytes first order s.2 (record { of_cmd = refl; of_fnc = refl; fields = subst P whole (spells.range_write t.spelled (words_are a.0.1 s.0 s.1).1) })

range_read_spelled : (bytes : List ℕ) (order : Order) → IsBytes bytes → reading.range_read bytes ≡ Ok order → Follows 0x0F (0x01 ∷ []) order bytes
unfolding reading.range_read
range_read_spelled bytes order fits e =
    let o = bind_ok (word bytes) _ order e in
    let l = bind_ok (word o.0.1) _ order o.2 in
    let a = bind_ok (levels l.0.1) _ order l.2 in
    let s = bind_ok (last_byte a.0.1) _ order a.2 in
    let t = take_window bytes o.0 l.0 a.0 fits o.1 l.1 a.1 in
    let first : Order = RangeRead (window o.0.0 l.0.0 a.0.0) s.0 in
    let whole : t.front ++ s.0 ∷ [] ≡ bytes = ap (λ (xs : List ℕ). t.front ++ xs) (sym (last_byte_is a.0.1 s.0 s.1)) ∙ sym t.parts in
    let P : List ℕ → Type 0 = λ xs. SpellsFields first xs in
    made_is 0x0F (0x01 ∷ []) bytes first order s.2 (record { of_cmd = refl; of_fnc = refl; fields = subst P whole (spells.range_read t.spelled) })

change_spelled : (bytes : List ℕ) (order : Order) → IsBytes bytes → reading.change bytes ≡ Ok order → Follows 0x0F (0x26 ∷ []) order bytes
unfolding reading.change
change_spelled bytes order fits e =
    let s = bind_ok (sets bytes) _ order e in
    made_is 0x0F (0x26 ∷ []) bytes (Change s.0) order s.2 (record { of_cmd = refl; of_fnc = refl; fields = spells.change (all_sets_spelled bytes s.0 fits s.1) (some_set bytes s.0 s.1) })

typed_write_spelled : (bytes : List ℕ) (order : Order) → IsBytes bytes → reading.typed_write bytes ≡ Ok order → Follows 0x0F (0x67 ∷ []) order bytes
unfolding reading.typed_write
typed_write_spelled bytes order fits e =
    let o = bind_ok (word bytes) _ order e in
    let l = bind_ok (word o.0.1) _ order o.2 in
    let a = bind_ok (levels l.0.1) _ order l.2 in
    let p = bind_ok (parameter a.0.1) _ order a.2 in
    let t = take_window bytes o.0 l.0 a.0 fits o.1 l.1 a.1 in
    let u = take_parameter a.0.1 p.0 t.rest_fits p.1 in
    let first : Order = TypedWrite (window o.0.0 l.0.0 a.0.0) p.0.0.0 p.0.0.1 p.0.1 in
    let whole : t.front ++ (u.front ++ p.0.1) ≡ bytes = ap (λ (xs : List ℕ). t.front ++ xs) (sym u.parts) ∙ sym t.parts in
    let P : List ℕ → Type 0 = λ xs. SpellsFields first xs in
    made_is 0x0F (0x67 ∷ []) bytes first order p.2 (record { of_cmd = refl; of_fnc = refl; fields = subst P whole (spells.typed_write t.spelled u.spelled) })

typed_read_spelled : (bytes : List ℕ) (order : Order) → IsBytes bytes → reading.typed_read bytes ≡ Ok order → Follows 0x0F (0x68 ∷ []) order bytes
unfolding reading.typed_read
typed_read_spelled bytes order fits e =
    let o = bind_ok (word bytes) _ order e in
    let l = bind_ok (word o.0.1) _ order o.2 in
    let a = bind_ok (levels l.0.1) _ order l.2 in
    let s = bind_ok (last_word a.0.1) _ order a.2 in
    let t = take_window bytes o.0 l.0 a.0 fits o.1 l.1 a.1 in
    let first : Order = TypedRead (window o.0.0 l.0.0 a.0.0) s.0 in
    let P : List ℕ → Type 0 = λ xs. SpellsFields first xs in
    made_is 0x0F (0x68 ∷ []) bytes first order s.2
    (record { of_cmd = refl; of_fnc = refl; fields = subst P (sym t.parts) (spells.typed_read t.spelled (last_word_is a.0.1 s.0 t.rest_fits s.1)) })

-- ---- commands

no_fnc : (cmd : ℕ) (order : Order) (payload : List ℕ) → Follows cmd [] order payload → SpellsOrder order cmd payload
no_fnc cmd order payload f = record { fields = payload; of_cmd = f.of_cmd; of_fields = f.fields; whole = ap (λ (xs : List ℕ). xs ++ payload) f.of_fnc }

at_fnc : (cmd fnc n : ℕ) (order : Order) (bytes : List ℕ) → eqb fnc n ≡ true → Follows cmd (n ∷ []) order bytes → SpellsOrder order cmd (fnc ∷ bytes)
at_fnc cmd fnc n order bytes is f =
    record { fields = bytes; of_cmd = f.of_cmd; of_fields = f.fields; whole = ap (λ (x : ℕ). x ∷ bytes) (eqb-true fnc n is) ∙ ap (λ (xs : List ℕ). xs ++ bytes) f.of_fnc }

at_cmd : (cmd n : ℕ) (order : Order) (payload : List ℕ) → eqb cmd n ≡ true → SpellsOrder order n payload → SpellsOrder order cmd payload
at_cmd cmd n order payload is s = let P : ℕ → Type 0 = λ c. SpellsOrder order c payload in subst P (sym (eqb-true cmd n is)) s

basic_spelled : (payload : List ℕ) (order : Order) → reading.basic payload ≡ Ok order → SpellsOrder order 0x06 payload
basic_spelled [] order e = absurd cc
basic_spelled (fnc ∷ bytes) order e =
    let Goal : Result Order Code → Type 0 = λ r. r ≡ Ok order → SpellsOrder order 0x06 (fnc ∷ bytes) in
    cond_both (eqb fnc 0x00) (reading.echo bytes) (cond (eqb fnc 0x03) (reading.status bytes) illegal) Goal
    (λ is h. at_fnc 0x06 fnc 0x00 order bytes is (made_is 0x06 (0x00 ∷ []) bytes (Echo bytes) order h (record { of_cmd = refl; of_fnc = refl; fields = spells.echo })))
    (λ _. cond_both (eqb fnc 0x03) (reading.status bytes) illegal Goal (λ is h. at_fnc 0x06 fnc 0x03 order bytes is (status_spelled bytes order h)) (λ _ h. absurd cc))
    e

extended_spelled : (payload : List ℕ) (order : Order) → IsBytes payload → reading.extended payload ≡ Ok order → SpellsOrder order 0x0F payload
extended_spelled [] order fits e = absurd cc
extended_spelled (fnc ∷ bytes) order fits e =
    let Goal : Result Order Code → Type 0 = λ r. r ≡ Ok order → SpellsOrder order 0x0F (fnc ∷ bytes) in
    let rest = IsBytes-rest fnc bytes fits in
    cond_both (eqb fnc 0x00) (reading.range_write bytes) _ Goal (λ is h. at_fnc 0x0F fnc 0x00 order bytes is (range_write_spelled bytes order rest h)) (λ _.
    cond_both (eqb fnc 0x01) (reading.range_read bytes) _ Goal (λ is h. at_fnc 0x0F fnc 0x01 order bytes is (range_read_spelled bytes order rest h)) (λ _.
    cond_both (eqb fnc 0x26) (reading.change bytes) _ Goal (λ is h. at_fnc 0x0F fnc 0x26 order bytes is (change_spelled bytes order rest h)) (λ _.
    cond_both (eqb fnc 0x67) (reading.typed_write bytes) _ Goal (λ is h. at_fnc 0x0F fnc 0x67 order bytes is (typed_write_spelled bytes order rest h)) (λ _.
    cond_both (eqb fnc 0x68) (reading.typed_read bytes) illegal Goal (λ is h. at_fnc 0x0F fnc 0x68 order bytes is (typed_read_spelled bytes order rest h)) (λ _ h. absurd cc)))))
    e

pub order_spelled : (cmd : ℕ) (payload : List ℕ) (order : Order) → IsBytes payload → reading.order_of cmd payload ≡ Ok order → SpellsOrder order cmd payload
order_spelled cmd payload order fits e =
    let Goal : Result Order Code → Type 0 = λ r. r ≡ Ok order → SpellsOrder order cmd payload in
    cond_both (eqb cmd 0x06) (reading.basic payload) _ Goal (λ is h. at_cmd cmd 0x06 order payload is (basic_spelled payload order h)) (λ _.
    cond_both (eqb cmd 0x01) (reading.unprotected_read payload) _ Goal (λ is h. at_cmd cmd 0x01 order payload is (no_fnc 0x01 order payload (peek_spelled payload order fits h))) (λ _.
    cond_both (eqb cmd 0x08) (reading.unprotected_write payload) _ Goal (λ is h. at_cmd cmd 0x08 order payload is (no_fnc 0x08 order payload (poke_spelled payload order fits h))) (λ _.
    cond_both (eqb cmd 0x0F) (reading.extended payload) illegal Goal (λ is h. at_cmd cmd 0x0F order payload is (extended_spelled payload order fits h)) (λ _ h. absurd cc))))
    e
