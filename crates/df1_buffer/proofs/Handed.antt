-- What a sink holds and what waits before it, while bytes are handed on.
use Rattle.std.proofs.Common.{◌≡◌, ◌≢◌, ◌∙◌, ◌≤◌, ◌+◌, ◌-◌, List, [], ◌∷◌, ℕ, Option, None, Some, ◌++◌, length, take, drop, take-append-drop, append-nil, length-drop, slice_index_or, ap, refl, sym, arith}
use Rattle.std.proofs.lemmas.List.{length-append}
use Rattle.std.specs.Io.KnownBytes.{Keeps, append_known}
use Rattle.std.proofs.KnownBytes.{Keeps-trans, append_known-moved}
use Rattle.std.proofs.Math.Seq.{take-append_seam, take-append-add}
use Rattle.df1_base.specs.Outside.{Put, WroteLess, WrotePart}
use Rattle.df1_buffer.specs.Buffered.{told_length}

-- what is told to be held becomes no less by what is put
pub put_told : (a b : Option (List ℕ)) (bytes : List ℕ) → Put a b bytes → told_length a ≤ told_length b
put_told None b bytes p = grind arith
put_told (Some x) None bytes p = absurd p
put_told (Some x) (Some y) bytes p = rw (p, length-append) (grind arith)

empty : (bytes : List ℕ) → length bytes ≡ 0 → bytes ≡ []
empty [] none = refl
empty (byte ∷ bytes) none = absurd (omega (arith, none))

-- the sink took the first bytes of those that wait
pub kept_moved : (a b c : Option (List ℕ)) (waiting : List ℕ) (n : ℕ) → Keeps a (append_known b waiting) → Put b c (take n waiting) → Keeps a (append_known c (drop n waiting))
kept_moved a b c waiting n kept put = Keeps-trans a (append_known b waiting) (append_known c (drop n waiting)) kept
    (append_known-moved b c (take n waiting) (drop n waiting) waiting put (sym (take-append-drop n waiting)))

-- ---- what a buffer took in which nothing waited, as the sink behind it holds it

-- nothing waits: the sink holds it all
pub put_through : (held held' told : Option (List ℕ)) (waited waits more : List ℕ) → waited ≡ [] → waits ≡ []
    → Put (append_known held waited) told more → Keeps told (append_known held' waits) → Put held held' more
put_through None held' told waited waits more none none' put kept = tt
put_through (Some x) held' None waited waits more none none' put kept = absurd put
put_through (Some x) None (Some z) waited waits more none none' put kept = absurd kept
put_through (Some x) (Some y) (Some z) waited waits more none none' put kept =
    let before : x ++ waited ≡ x = ap (λ l. x ++ l) none ∙ append-nil x in
    let after : y ++ waits ≡ y = ap (λ l. y ++ l) none' ∙ append-nil y in
    sym after ∙ kept ∙ put ∙ ap (λ l. l ++ more) before

-- something may wait: the sink holds a first part
pub part_through : (held held' told : Option (List ℕ)) (waited waits more : List ℕ) → waited ≡ [] → told_length held ≤ told_length held'
    → Put (append_known held waited) told more → Keeps told (append_known held' waits) → WrotePart held held' more
part_through None held' told waited waits more none grown put kept = ([], record { part = more; text_is = sym (append-nil more); put = tt })
part_through (Some x) held' None waited waits more none grown put kept = absurd put
part_through (Some x) None (Some z) waited waits more none grown put kept = absurd kept
part_through (Some x) (Some y) (Some z) waited waits more none grown put kept =
    let n = length y - length x in
    let before : x ++ waited ≡ x = ap (λ l. x ++ l) none ∙ append-nil x in
    let all : y ++ waits ≡ x ++ more = kept ∙ put ∙ ap (λ l. l ++ more) before in
    let size : length y ≡ length x + n = omega (arith, grown) in
    let front : y ≡ x ++ take n more = sym (take-append_seam y waits) ∙ ap (λ l. take (length y) l) all ∙ ap (λ k. take k (x ++ more)) size ∙ take-append-add x more n in
    (drop n more, record { part = take n more; text_is = sym (take-append-drop n more); put = front })

-- bytes wait, where the sink tells what it holds: it doesn't hold all
pub less_through : (x : List ℕ) (held' told : Option (List ℕ)) (waited waits more : List ℕ) → waited ≡ [] → waits ≢ [] → told_length (Some x) ≤ told_length held'
    → Put (append_known (Some x) waited) told more → Keeps told (append_known held' waits) → WroteLess (Some x) held' more
less_through x held' None waited waits more none some grown put kept = absurd put
less_through x None (Some z) waited waits more none some grown put kept = absurd kept
less_through x (Some y) (Some z) waited waits more none some grown put kept =
    let n = length y - length x in
    let before : x ++ waited ≡ x = ap (λ l. x ++ l) none ∙ append-nil x in
    let all : y ++ waits ≡ x ++ more = kept ∙ put ∙ ap (λ l. l ++ more) before in
    let size : length y ≡ length x + n = omega (arith, grown) in
    let front : y ≡ x ++ take n more = sym (take-append_seam y waits) ∙ ap (λ l. take (length y) l) all ∙ ap (λ k. take k (x ++ more)) size ∙ take-append-add x more n in
    let both : length y + length waits ≡ length x + length more = sym (length-append y waits) ∙ ap length all ∙ length-append x more in (
      drop n more,
      λ nothing. some (empty waits (let left : length more - n ≡ 0 = sym (length-drop n more) ∙ ap length nothing in omega (arith, size, both, left))),
      record { part = take n more; text_is = sym (take-append-drop n more); put = front },
    )

-- two marks of one name are of buffers over one borrow
pub same_borrow : (n m : ℕ) (names names' : List ℕ) → n ∷ names ≡ m ∷ names' → n ≡ m
same_borrow n m names names' same = ap (λ l. slice_index_or l 0 0) same
