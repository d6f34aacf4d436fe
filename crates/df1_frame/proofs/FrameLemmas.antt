-- Frames without responses: their bytes, and what is heard in them.
use Rattle.std.proofs.Common.{◌≡◌, ℕ, ◌*◌, ◌≤◌, Bool, true, false, eqb, List, [], ◌∷◌, ◌++◌, length, Option, Some, None, refl, sym, ap, ◌∙◌, map, drop, append_assoc, arith, length-append, length-drop}
use Rattle.std.specs.Prelude.{if◌then◌else◌}
use Rattle.std.specs.List.{flat_map, AllByRecursion}
use Rattle.std.proofs.lemmas.List.{append-nil, append_cancel_left, drop_all, length_push, nil_from_length}
use Rattle.std.proofs.lemmas.List.Concat.{flat_map-append}
use Rattle.std.proofs.lemmas.Bool.{cond_both, eqb-true, eqb-false}
use Rattle.df1_check.specs.declared.Check.{Check}
use Rattle.df1_check.specs.declared.Check.TheVariants as kinds
use Rattle.df1_frame.specs.declared.heard.Heard.{Heard}
use Rattle.df1_frame.specs.declared.heard.Heard.TheVariants as heard
use Rattle.df1_check.specs.Checks.{check_value}
use Rattle.df1_frame.specs.declared.framer.Part.{Part}
use Rattle.df1_frame.specs.declared.framer.Part.TheVariants as part
use Rattle.df1_frame.specs.declared.framer.Unit.{Unit as Given}
use Rattle.df1_frame.specs.Line.{Grammar, Splits, ReadOff, answers, last_of, last_heard}
use Rattle.df1_frame.specs.Spelling.{Plain, Doubled, piece_bytes, ArePieces, IsPiece, piece_body, body_of, pieces_of, covered, check_of, check_bytes, Spells}
use Rattle.df1_frame.specs.Units.{unit_bytes, bytes_of, pair_unit, byte_unit, body_unit, check_units, closing_units, units}
use Rattle.df1_frame.specs.Framing.{units_left}
use Rattle.df1_frame.specs.Grammar.{Item, Nothing, full_duplex, piece_heard, check_heard, good_answers}
use Rattle.df1_frame.proofs.LineLemmas.{answered-on, one-answered, last_of-append, last_of-push}
use Rattle.df1_frame.proofs.GrammarLemmas.{machine, works, good-heard}

-- ---- the bytes of a frame's units

pieces-body : (body : List ℕ) → body_of (pieces_of body) ≡ body
pieces-body [] = refl
pieces-body (b ∷ body) = cond_both (eqb b 16) Doubled (Plain b) (λ p. piece_body p ++ body_of (pieces_of body) ≡ b ∷ body)
    (λ e. rw (pieces-body body, eqb-true b 16 e) refl)
    (λ e. rw (pieces-body body) refl)

pieces-are : (body : List ℕ) → ArePieces (pieces_of body)
pieces-are [] = tt
pieces-are (b ∷ body) = (cond_both (eqb b 16) Doubled (Plain b) IsPiece (λ e. tt) (λ e. eqb-false b 16 e), pieces-are body)

byte-bytes : (b : ℕ) (dle : Bool) → unit_bytes (if dle then pair_unit 16 true else byte_unit b true false) ≡ piece_bytes (if dle then Doubled else Plain b)
byte-bytes b true = refl
byte-bytes b false = refl

body-bytes : (body : List ℕ) → bytes_of (map body_unit body) ≡ flat_map piece_bytes (pieces_of body)
body-bytes [] = refl
body-bytes (b ∷ body) =
    ap (λ (l : List ℕ). l ++ bytes_of (map body_unit body)) (byte-bytes b (eqb b 16))
    ∙ ap (λ (l : List ℕ). piece_bytes (if eqb b 16 then Doubled else Plain b) ++ l) (body-bytes body)

check-bytes : (check : List ℕ) → bytes_of (check_units check) ≡ check
check-bytes [] = refl
check-bytes (b ∷ []) = refl
check-bytes (b ∷ c ∷ more) = ap (λ (l : List ℕ). b ∷ l) (check-bytes (c ∷ more))

pub units-spell : (kind : Check) (body : List ℕ) → Spells kind (pieces_of body) body (bytes_of (units kind body))
units-spell kind body = record {
  each = pieces-are body;
  carries = pieces-body body;
  spelled = ap (λ (l : List ℕ). 16 ∷ 2 ∷ l)
      (flat_map-append unit_bytes (map body_unit body) (closing_units (check_of kind body))
      ∙ ap (λ (l : List ℕ). l ++ 16 ∷ 3 ∷ bytes_of (check_units (check_of kind body))) (body-bytes body)
      ∙ ap (λ (l : List ℕ). flat_map piece_bytes (pieces_of body) ++ 16 ∷ 3 ∷ l) (check-bytes (check_of kind body)));
}

-- ---- the units that are left of the check

pub check_units-nil : (check : List ℕ) → check_units check ≡ [] → check ≡ []
check_units-nil [] e = refl
check_units-nil (b ∷ []) e = absurd cc
check_units-nil (b ∷ c ∷ more) e = absurd cc

pub check_units-spent : (check : List ℕ) (at : ℕ) → length check ≤ at → check_units (drop at check) ≡ []
check_units-spent check at le = rw (drop_all at check le) refl

pub check_units-left : (check : List ℕ) (at : ℕ) → check_units (drop at check) ≡ [] → length check ≤ at
check_units-left check at e = let none = check_units-nil (drop at check) e in omega (arith, length-drop at check, ap length none)

pub closing-some : (front : List Given) (check : List ℕ) → front ++ closing_units check ≡ [] → ⊥
closing-some [] check e = cc
closing-some (unit ∷ front) check e = cc

-- ---- how many bytes are left

byte-length : (b : ℕ) (dle : Bool) → length (unit_bytes (if dle then pair_unit 16 true else byte_unit b true false)) ≤ 2
byte-length b true = omega arith
byte-length b false = omega arith

body-length : (body : List ℕ) → length (bytes_of (map body_unit body)) ≤ 2 * length body
body-length [] = omega arith
body-length (b ∷ body) =
    let one = byte-length b (eqb b 16) in
    let all = length-append (unit_bytes (body_unit b)) (bytes_of (map body_unit body)) in
    omega (arith, one, all, body-length body)

-- of the body from a place on, and the end
closing-length : (body check : List ℕ) (at : ℕ) → length body ≤ 250 → length check ≤ 2 → length (bytes_of (map body_unit (drop at body) ++ closing_units check)) ≤ 504
closing-length body check at fits end =
    let all = flat_map-append unit_bytes (map body_unit (drop at body)) (closing_units check) in
    rw all (omega (arith, length-append (bytes_of (map body_unit (drop at body))) (bytes_of (closing_units check)), body-length (drop at body), length-drop at body, ap length (check-bytes check)))

pub left-length : (part : Part) (body check : List ℕ) → length body ≤ 250 → length check ≤ 2 → length (bytes_of (units_left part body check)) ≤ 506
left-length part.Opening body check fits end = omega (arith, closing-length body check 0 fits end)
left-length (part.Body at) body check fits end = omega (arith, closing-length body check at fits end)
left-length (part.Check at) body check fits end = omega (arith, ap length (check-bytes (drop at check)), length-drop at check)

-- ---- nothing is heard before the last byte

-- nothing is heard
abbrev AreSilent : List (Option Heard) → Type 0
AreSilent = AllByRecursion (λ h. h ≡ None)

AreSilent-append : (hs ks : List (Option Heard)) → AreSilent hs → AreSilent ks → AreSilent (hs ++ ks)
AreSilent-append [] ks h k = k
AreSilent-append (x ∷ hs) ks h k = (h.0, AreSilent-append hs ks h.1 k)

pieces-silent : (body : List ℕ) → AreSilent (flat_map piece_heard (pieces_of body))
pieces-silent [] = tt
pieces-silent (b ∷ body) = AreSilent-append (piece_heard (if eqb b 16 then Doubled else Plain b)) (flat_map piece_heard (pieces_of body))
    (cond_both (eqb b 16) Doubled (Plain b) (λ p. AreSilent (piece_heard p)) (λ e. (refl, (refl, tt))) (λ e. (refl, tt)))
    (pieces-silent body)

-- the answers are silent, and then this one
abbrev SilentThen : List (Option Heard) → Heard → Type 0
SilentThen hs h = (quiet : List (Option Heard)) × AreSilent quiet × (hs ≡ quiet ++ Some h ∷ [])

check-silent : (kind : Check) (value : ℕ) → SilentThen (check_heard heard.Good (check_bytes kind value)) heard.Good
unfolding check_bytes
check-silent kinds.Bcc value = ([], tt, refl)
check-silent kinds.Crc value = (None ∷ [], (refl, tt), refl)

good-silent : (kind : Check) (body : List ℕ) → SilentThen (good_answers kind (pieces_of body)) heard.Good
good-silent kind body =
    let end = check-silent kind (check_value kind (covered kind (body_of (pieces_of body)))) in
    let inner = flat_map piece_heard (pieces_of body) in (
      None ∷ None ∷ (inner ++ None ∷ None ∷ end.0),
      (refl, (refl, AreSilent-append inner (None ∷ None ∷ end.0) (pieces-silent body) (refl, (refl, end.1)))),
      rw end.2 (ap (λ (l : List (Option Heard)). None ∷ None ∷ l) (sym (append_assoc inner (None ∷ None ∷ end.0) (Some heard.Good ∷ [])))),
    )

silent-front : (h : Option Heard) (quiet front rest : List (Option Heard)) → AreSilent quiet → quiet ++ h ∷ [] ≡ front ++ rest → (rest ≡ [] → ⊥) → last_of front ≡ None
silent-front h quiet [] rest s e some = refl
silent-front h [] (x ∷ front) rest s e some = absurd (let none : length (x ∷ (front ++ rest)) ≡ 1 = ap length (sym e) in some (nil_from_length rest (omega (arith, length-append front rest, none))))
silent-front h (q ∷ quiet) (x ∷ []) rest s e some = let same : q ≡ x = cc in sym same ∙ s.0
silent-front h (q ∷ quiet) (x ∷ y ∷ front) rest s e some = let same : quiet ++ h ∷ [] ≡ (y ∷ front) ++ rest = cc in silent-front h quiet (y ∷ front) rest s.1 same some

-- the answers to a part of a frame without responses after whole items, and the answers that are left
record Within (kind : Check) (N : ℕ) (body front rest before : List ℕ) (items : List Item) : Type 0 where
  so_far : List (Option Heard)
  left : List (Option Heard)
  so_far_length : length so_far ≡ length front
  left_length : length left ≡ length rest
  read : ReadOff (full_duplex kind N) (before ++ front) (answers (full_duplex kind N)) (answers (full_duplex kind N) items Nothing ++ so_far)
  together : so_far ++ left ≡ good_answers kind (pieces_of body)

within : (kind : Check) (N : ℕ) (body front rest before : List ℕ) (items : List Item) → Splits (full_duplex kind N) before items Nothing
    → 6 ≤ length body → length body ≤ N → front ++ rest ≡ bytes_of (units kind body) → Within kind N body front rest before items
within kind N body front rest before items s least most whole =
    let G = full_duplex kind N in
    let M = machine kind N in
    let w = works kind N in
    let done = answers G items Nothing in
    let start : ReadOff G before (answers G) done = record { items = items; front = Nothing; splits = s; is = refl } in
    let one = answered-on G M w front before done start in
    let two = answered-on G M w rest (before ++ front) (done ++ one.0) one.2 in
    let good = good-heard kind N before body (bytes_of (units kind body)) items (pieces_of body) s (units-spell kind body) least most in
    let bytes : (before ++ front) ++ rest ≡ before ++ bytes_of (units kind body) = append_assoc before front rest ∙ ap (λ (l : List ℕ). before ++ l) whole in
    let all = rw bytes at two.2 in
    let same = one-answered G M w (before ++ bytes_of (units kind body)) ((done ++ one.0) ++ two.0) (done ++ good_answers kind (pieces_of body)) all good in
    record {
      so_far = one.0;
      left = two.0;
      so_far_length = one.1;
      left_length = two.1;
      read = one.2;
      together = append_cancel_left done (one.0 ++ two.0) (good_answers kind (pieces_of body)) (sym (append_assoc done one.0 two.0) ∙ same);
    }

-- what is read off at the last byte
last-read : (G : Grammar) (l : List ℕ) (done so_far : List (Option G.Heard)) → (so_far ≡ [] → ⊥) → ReadOff G l (answers G) (done ++ so_far) → ReadOff G l (last_heard G) (last_of so_far)
last-read G l done so_far some r = record { items = r.items; front = r.front; splits = r.splits; is = sym (last_of-append done so_far some) ∙ ap last_of r.is }

not_nil : {A B : Type 0} (xs : List A) (front : List B) (b : B) → length xs ≡ length (front ++ b ∷ []) → xs ≡ [] → ⊥
not_nil xs front b e none = absurd (omega (arith, length_push front b, ap length none))

pub silent-within : (kind : Check) (N : ℕ) (before body front rest : List ℕ) (b : ℕ) (items : List Item) → Splits (full_duplex kind N) before items Nothing
    → 6 ≤ length body → length body ≤ N → front ++ b ∷ rest ≡ bytes_of (units kind body) → (rest ≡ [] → ⊥)
    → ReadOff (full_duplex kind N) (before ++ front ++ b ∷ []) (last_heard (full_duplex kind N)) None
silent-within kind N before body front rest b items s least most whole some =
    let w = within kind N body (front ++ b ∷ []) rest before items s least most (append_assoc front (b ∷ []) rest ∙ whole) in
    let quiet = good-silent kind body in
    let left_some = λ (none : w.left ≡ []). some (nil_from_length rest (sym w.left_length ∙ ap length none)) in
    let none = silent-front (Some heard.Good) quiet.0 w.so_far w.left quiet.1 (sym quiet.2 ∙ sym w.together) left_some in
    let at_last = last-read (full_duplex kind N) (before ++ (front ++ b ∷ [])) (answers (full_duplex kind N) items Nothing) w.so_far (not_nil w.so_far front b w.so_far_length) w.read in
    rw (append_assoc before front (b ∷ [])) (rw none at at_last)

pub good-within : (kind : Check) (N : ℕ) (before body front : List ℕ) (b : ℕ) (items : List Item) → Splits (full_duplex kind N) before items Nothing
    → 6 ≤ length body → length body ≤ N → front ++ b ∷ [] ≡ bytes_of (units kind body)
    → ReadOff (full_duplex kind N) (before ++ front ++ b ∷ []) (last_heard (full_duplex kind N)) (Some heard.Good)
good-within kind N before body front b items s least most whole =
    let w = within kind N body (front ++ b ∷ []) [] before items s least most (append_assoc front (b ∷ []) [] ∙ whole) in
    let quiet = good-silent kind body in
    let left_none = nil_from_length w.left w.left_length in
    let all : w.so_far ≡ quiet.0 ++ Some heard.Good ∷ [] = sym (append-nil w.so_far) ∙ ap (λ (l : List (Option Heard)). w.so_far ++ l) (sym left_none) ∙ w.together ∙ quiet.2 in
    let good : last_of w.so_far ≡ Some heard.Good = ap last_of all ∙ last_of-push quiet.0 (Some heard.Good) in
    let at_last = last-read (full_duplex kind N) (before ++ (front ++ b ∷ [])) (answers (full_duplex kind N) items Nothing) w.so_far (not_nil w.so_far front b w.so_far_length) w.read in
    rw (append_assoc before front (b ∷ [])) (rw good at at_last)
