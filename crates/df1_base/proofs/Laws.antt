-- Calls one after another.
use Rattle.std.proofs.Common.{◌≡◌, List, [], ◌++◌, ℕ, Bool, false, Option, refl, subst, ap, sym, ◌∙◌, arith, append_assoc, append-nil, take, drop, length, ◌-◌, ◌+◌, ◌≤◌, take-append-drop}
use Rattle.std.proofs.lemmas.List.{take_rest, take_at, drop-drop, length-take-le}
use Rattle.std.specs.Prelude.{◌==◌}
use Rattle.std.specs.List.{list_any}
use Rattle.std.proofs.KnownBytes.{Appends-nil, Appends-trans}
use Rattle.df1_base.specs.Outside.{Put, Wrote, WrotePart, Mark, Later}

-- one call after another
pub later_then : (m n o : Mark) (f g h : ℕ) → Later m n f g → Later n o g h → Later m o f h
later_then m n o f g h (name, settled, faults) (name', settled', faults') = (name' ∙ name, grind arith, grind arith)

-- no call
pub later_same : (m : Mark) (f : ℕ) → Later m m f f
later_same m f = (refl, grind arith, grind arith)

-- nothing is written yet
pub wrote_none : (a : Option (List ℕ)) (text : List ℕ) → Wrote a a text text
wrote_none a text = record { part = []; text_is = refl; put = Appends-nil a }

-- all is written
pub wrote_all : (a b : Option (List ℕ)) (text : List ℕ) → Wrote a b text [] → Put a b text
wrote_all a b text w = subst (λ (part : List ℕ). Put a b part) (sym (w.text_is ∙ append-nil w.part)) w.put

-- one write after another
pub wrote_more : (a b c : Option (List ℕ)) (text rest : List ℕ) (n : ℕ) → Wrote a b text rest → Put b c (take n rest) → Wrote a c text (drop n rest)
wrote_more a b c text rest n w put = record {
  part = w.part ++ take n rest;
  text_is = grind (arith, append_assoc, take-append-drop n rest);
  put = Appends-trans a b c w.part (take n rest) w.put put;
}

-- the same, as a loop over `&rest[n..]` says it
pub wrote_rest : (a b c : Option (List ℕ)) (text rest : List ℕ) (n : ℕ) → Wrote a b text rest → Put b c (take n rest) → Wrote a c text (take (length rest - n) (drop n rest))
wrote_rest a b c text rest n w put = rw (take_rest rest n) (wrote_more a b c text rest n w put)

-- all of one text, and then what there is of the next
pub put_wrote : (a b c : Option (List ℕ)) (text more rest : List ℕ) → Put a b text → Wrote b c more rest → Wrote a c (text ++ more) rest
put_wrote a b c text more rest put w = record {
  part = text ++ w.part;
  text_is = ap (λ k. text ++ k) w.text_is ∙ sym (append_assoc text w.part rest);
  put = Appends-trans a b c text w.part put w.put;
}

-- what is put is written
pub wrote_put : (a b : Option (List ℕ)) (text : List ℕ) → Put a b text → Wrote a b text []
wrote_put a b text put = record { part = text; text_is = sym (append-nil text); put = put }

-- a part of a text is one of each longer text
pub part_of_more : (a b : Option (List ℕ)) (text more : List ℕ) → WrotePart a b text → WrotePart a b (text ++ more)
part_of_more a b text more (rest, w) = (
  rest ++ more,
  record {
    part = w.part;
    text_is = ap (λ k. k ++ more) w.text_is ∙ append_assoc w.part rest more;
    put = w.put;
  },
)

-- a read from the middle of a list
pub took_from : (items into given : List ℕ) (at n : ℕ) → n ≤ length (drop at items) → given ≡ take n (drop at items) → drop at items ≡ take n (given ++ drop n into) ++ drop (at + n) items
took_from items into given at n le is =
    let size : length given ≡ n = grind (arith, length-take-le) in
    let front : take n (given ++ drop n into) ≡ given = take_at given (drop n into) n size in
    let back : drop n (drop at items) ≡ drop (at + n) items = drop-drop n at items in
    rw (front, is, ← back, take-append-drop) refl

pub part_rest : (a b c : Option (List ℕ)) (text rest : List ℕ) → Wrote a b text rest → WrotePart b c rest → WrotePart a c text
part_rest a b c text rest w (left, v) = (
  left,
  record {
    part = w.part ++ v.part;
    text_is = w.text_is ∙ ap (λ k. w.part ++ k) v.text_is ∙ sym (append_assoc w.part v.part left);
    put = Appends-trans a b c w.part v.part w.put v.put;
  },
)

-- a test of a list of calls, for a call known by another name
pub none_among : (fail told : List ℕ) (call next : ℕ) (found : Bool) → told ≡ fail → call ≡ next → found ≡ list_any (λ (n : ℕ). n == call) told → found ≡ false → list_any (λ (n : ℕ). n == next) fail ≡ false
none_among fail told call next found same_list same_call is otherwise =
    let P : List ℕ → Type 0 = λ xs. list_any (λ (n : ℕ). n == call) xs ≡ false in
    let Q : ℕ → Type 0 = λ c. list_any (λ (n : ℕ). n == c) fail ≡ false in
    subst Q same_call (subst P same_list (sym is ∙ otherwise))
