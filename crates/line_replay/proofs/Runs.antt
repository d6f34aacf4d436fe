-- A run of bytes without a line feed: a replay that holds it stands for the text with it, and no more is shown.
use Rattle.std.proofs.Common.{◌≡◌, ◌∙◌, ℕ, zero, suc, ◌+◌, ◌-◌, ◌<◌, Bool, eqb, List, [], ◌∷◌, ◌++◌, Some, None, inl, inr, length, take, drop, get_or, ap, arith, refl, sym, subst, append_assoc, drop-cons}
use Rattle.std.specs.List.{position, position_or_len}
use Rattle.std.proofs.Math.Numerals.{suc-eq-add-one}
use Rattle.std.proofs.lemmas.Bool.{cases_lt, eqb-true, lt-ltb}
use Rattle.std.proofs.lemmas.List.{get_or-take, length-take, take-append-drop, take_rest}
use Rattle.std.proofs.lemmas.List.Folds.{list_any_none}
use Rattle.std.proofs.lemmas.List.Quantifiers.{position-Some}
use Rattle.std.proofs.lemmas.List.Sums.{fails_before_first, position_or_len_is}
use Rattle.line_script.specs.declared.reader.Reader.{Reader}
use Rattle.line_script.specs.Fed.{Fed, HasNoFeed, StandsFor}
use Rattle.line_script.specs.Lines.{script_with}
use Rattle.line_script.proofs.Runs.{holding, stands-holding}
use Rattle.line_replay.specs.Fed.{IsReplayOf, IsWorldOf, Replaying, shown}
use Rattle.line_replay.proofs.Fed.{shown-is}

-- a replay with more bytes of the line that is begun
abbrev pub replay_holding : Replaying → List ℕ → Replaying
replay_holding r run = record { text = holding r.text run; world = r.world }

abbrev pub stands-with : (text run : List ℕ) (r : Replaying) → HasNoFeed run → IsReplayOf text r → IsReplayOf (text ++ run) (replay_holding r run)
stands-with text run r none h = record { events = h.events; reads = stands-holding text run h.events r.text none h.reads; plays = h.plays }

pub shows-no-more : (text run : List ℕ) (r : Replaying) → HasNoFeed run → IsReplayOf text r → shown (text ++ run) ≡ shown text
shows-no-more text run r none h =
    shown-is (text ++ run) h.events (holding r.text run) (stands-holding text run h.events r.text none h.reads) ∙ sym (shown-is text h.events r.text h.reads)

-- what a reader's holding a run makes of a replay
pub run-held : (text run : List ℕ) (r : Replaying) (new : Fed) → HasNoFeed run → (h : IsReplayOf text r) → StandsFor (text ++ run) h.events new → new.reader ≡ r.text.reader
    → IsReplayOf (text ++ run) (record { text = new; world = r.world }) × (shown (text ++ run) ≡ shown text)
run-held text run r new none h reads same = (
  record { events = h.events; reads = reads; plays = subst (λ (d : Reader). IsWorldOf (script_with d h.events) r.world) (sym same) h.plays },
  shows-no-more text run r none h,
)

-- ---- a list of bytes, cut behind a line feed

pub cut-here : (front line more rest bytes : List ℕ) → bytes ≡ front ++ rest → rest ≡ line ++ 10 ∷ more → bytes ≡ ((front ++ line) ++ 10 ∷ []) ++ more
cut-here front line more rest bytes is cut =
    is ∙ ap (λ r. front ++ r) cut ∙ sym (append_assoc front line (10 ∷ more)) ∙ sym (append_assoc (front ++ line) (10 ∷ []) more)

pub text-here : (text front line : List ℕ) → text ++ ((front ++ line) ++ 10 ∷ []) ≡ ((text ++ front) ++ line) ++ 10 ∷ []
text-here text front line =
    sym (append_assoc text (front ++ line) (10 ∷ [])) ∙ ap (λ t. t ++ 10 ∷ []) (sym (append_assoc text front line))

pub all-here : (text front line more rest bytes : List ℕ) → bytes ≡ front ++ rest → rest ≡ line ++ 10 ∷ more → text ++ bytes ≡ (((text ++ front) ++ line) ++ 10 ∷ []) ++ more
all-here text front line more rest bytes is cut =
    ap (λ b. text ++ b) (cut-here front line more rest bytes is cut) ∙ sym (append_assoc text ((front ++ line) ++ 10 ∷ []) more)
    ∙ ap (λ t. t ++ more) (text-here text front line)

pub all-behind : (text front rest bytes : List ℕ) → bytes ≡ front ++ rest → text ++ bytes ≡ (text ++ front) ++ rest
all-behind text front rest bytes is = ap (λ b. text ++ b) is ∙ sym (append_assoc text front rest)

-- ---- the first line feed

abbrev is_feed : ℕ → Bool
is_feed b = eqb b 10

pub first-feed : (bytes : List ℕ) (i : ℕ) → position is_feed bytes ≡ Some i → (i < length bytes) × (bytes ≡ take i bytes ++ 10 ∷ take (length bytes - (i + 1)) (drop (i + 1) bytes)) × HasNoFeed (take i bytes)
first-feed bytes i found =
    let at = position-Some is_feed bytes i 0 found in
    let lt : i < length bytes = at.0 in
    let feed : get_or bytes i 0 ≡ 10 = eqb-true (get_or bytes i 0) 10 at.1 in
    let first : position_or_len is_feed bytes ≡ i = position_or_len_is is_feed bytes i 0 (omega arith) at.2 (λ _. at.1) in (
      lt,
      sym (take-append-drop i bytes) ∙ ap (λ t. take i bytes ++ t) (drop-cons bytes i 0 lt ∙ ap (λ b. b ∷ drop (suc i) bytes) feed ∙ ap (λ j. 10 ∷ drop j bytes) (suc-eq-add-one i) ∙ ap (λ t. 10 ∷ t) (sym (take_rest bytes (i + 1)))),
      list_any_none is_feed (take i bytes) (λ k d lt'.
          let within : k < i = omega (arith, lt', length-take i bytes) in
          ap is_feed (get_or-take i bytes k d within) ∙ fails_before_first is_feed bytes k d (omega (arith, first))),
    )

pub no-feed : (bytes : List ℕ) → position is_feed bytes ≡ None → HasNoFeed bytes
no-feed bytes none = elim (cases_lt (position_or_len is_feed bytes) (length bytes)) [
  | inl lt ↦ let some : position is_feed bytes ≡ Some (position_or_len is_feed bytes) = rw (lt-ltb (position_or_len is_feed bytes) (length bytes) lt) refl in let no : Some (position_or_len is_feed bytes) ≡ None = sym some ∙ none in cc
  | inr le ↦ list_any_none is_feed bytes (λ k d lt. fails_before_first is_feed bytes k d (omega arith))
]

-- ---- the first line of some bytes

take-one-more : (i : ℕ) (bytes : List ℕ) → i < length bytes → take (suc i) bytes ≡ take i bytes ++ get_or bytes i 0 ∷ []
take-one-more i [] lt = absurd (omega (arith, lt))
take-one-more zero (b ∷ bytes) lt = refl
take-one-more (suc i) (b ∷ bytes) lt = ap (λ t. b ∷ t) (take-one-more i bytes (omega (arith, lt)))

-- the first line with its line feed, behind a text
pub line-behind : (text bytes : List ℕ) (i : ℕ) → position is_feed bytes ≡ Some i → text ++ take (i + 1) bytes ≡ (text ++ take i bytes) ++ 10 ∷ []
line-behind text bytes i found =
    let at = position-Some is_feed bytes i 0 found in
    let feed : get_or bytes i 0 ≡ 10 = eqb-true (get_or bytes i 0) 10 at.1 in
    let whole : take (i + 1) bytes ≡ take i bytes ++ 10 ∷ [] = ap (λ n. take n bytes) (sym (suc-eq-add-one i)) ∙ take-one-more i bytes at.0 ∙ ap (λ b. take i bytes ++ b ∷ []) feed in
    ap (λ t. text ++ t) whole ∙ sym (append_assoc text (take i bytes) (10 ∷ []))

-- a first line of the bytes, and what stands behind its line feed
pub line-and-rest : (text bytes line : List ℕ) (n : ℕ) → take n bytes ≡ line ++ 10 ∷ [] → text ++ bytes ≡ (text ++ line) ++ 10 ∷ drop n bytes
line-and-rest text bytes line n cut =
    ap (λ b. text ++ b) (sym (take-append-drop n bytes) ∙ ap (λ t. t ++ drop n bytes) cut ∙ append_assoc line (10 ∷ []) (drop n bytes)) ∙ sym (append_assoc text line (10 ∷ drop n bytes))

pub line-whole : (text bytes line : List ℕ) (n : ℕ) → take n bytes ≡ line ++ 10 ∷ [] → text ++ take n bytes ≡ (text ++ line) ++ 10 ∷ []
line-whole text bytes line n cut = ap (λ t. text ++ t) cut ∙ sym (append_assoc text line (10 ∷ []))

-- ---- what is taken of the rest

pub taken-here : (front rest bytes : List ℕ) (n : ℕ) → bytes ≡ front ++ rest → bytes ≡ (front ++ take n rest) ++ drop n rest
taken-here front rest bytes n is = is ∙ ap (λ r. front ++ r) (sym (take-append-drop n rest)) ∙ sym (append_assoc front (take n rest) (drop n rest))

pub taken-first : (bytes : List ℕ) (i : ℕ) → position is_feed bytes ≡ Some i → take (i + 1) bytes ≡ take i bytes ++ 10 ∷ []
taken-first bytes i found = line-behind [] bytes i found
