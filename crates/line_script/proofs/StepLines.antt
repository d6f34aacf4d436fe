-- The line of a step: no line feed is in it, and the next one stands where that of a step may.
use Rattle.std.proofs.Common.{◌≡◌, ◌≤◌, ◌∙◌, ◌+◌, ◌-◌, ◌++◌, ◌&&◌, ◌||◌, ℕ, zero, suc, true, false, cond, eqb, leb, List, [], ◌∷◌, Option, Some, None, refl, sym, ap, subst, arith, inl, inr, drop, length, take, slice_index_or, unwrap_or}
use Rattle.std.specs.Prelude.{not, slice_index}
use Rattle.std.specs.Char.{is_ascii_digit}
use Rattle.std.specs.List.{list_all, list_any}
use Rattle.std.proofs.Math.Seq.{take-append_seam}
use Rattle.std.proofs.lemmas.Bool.{cases_lt, eqb-true}
use Rattle.std.proofs.lemmas.Bool.Decides.{nat_tests}
use Rattle.std.proofs.lemmas.Grind.{common_steps}
use Rattle.std.proofs.lemmas.List.{length-take}
use Rattle.script_statement.specs.Statements.{end_of, verb_of}
use Rattle.script_statement.specs.Words.{number_of}
use Rattle.script_statement.specs.declared.statement.EndLetter.{EndLetter}
use Rattle.script_statement.specs.declared.statement.Verb.{Verb}
use Rattle.line_script.specs.Fed.{HasNoFeed}
use Rattle.line_script.specs.Lines.{content, text_line}
use Rattle.line_script.specs.Steps.{count_in, side_in, step_before, step_in, step_with}
use Rattle.line_script.specs.declared.step.TimesEvent.{TimesEvent}
use Rattle.line_script.proofs.Steps.{number_is_digits}

-- ---- the bytes of a step

with_all : (s : Option EndLetter) (v : Option Verb) (c : Option ℕ) (step : TimesEvent) → step_with s v c ≡ Some step → (s ≡ Some step.side) × (v ≡ Some step.verb) × (c ≡ Some step.n)
with_all (Some s) (Some v) (Some n) step is =
    let same = ap (λ (o : Option TimesEvent). unwrap_or o step) is in
    (ap (λ (t : TimesEvent). Some t.side) same, ap (λ (t : TimesEvent). Some t.verb) same, ap (λ (t : TimesEvent). Some t.n) same)
with_all (Some s) (Some v) None step is = cc
with_all (Some s) None c step is = cc
with_all None v c step is = cc

not_at_end : (e : ℕ) (side : EndLetter) → side_in (end_of (e ∷ [])) ≡ Some side → eqb e 10 ≡ false
unfolding number_of
not_at_end e side is = elim (eqb e 10) as (λ b. eqb e 10 ≡ b → b ≡ false) [
  | true ↦ λ feed. let at : side_in (end_of (10 ∷ [])) ≡ Some side = subst (λ x. side_in (end_of (x ∷ [])) ≡ Some side) (eqb-true e 10 feed) is in cc
  | false ↦ λ other. refl
] refl

counted : (digits : List ℕ) (n : ℕ) → count_in digits ≡ Some n → (leb (length digits) 2 ≡ true) × (number_of digits ≡ Some n)
counted digits n is = elim (leb (length digits) 2) as (λ b. leb (length digits) 2 ≡ b → cond (b && not (eqb (slice_index digits 0) 48)) (number_of digits) None ≡ Some n → (b ≡ true) × (number_of digits ≡ Some n)) [
  | false ↦ λ few h. cc
  | true ↦ λ few. elim (eqb (slice_index digits 0) 48) as (λ z. cond (not z) (number_of digits) None ≡ Some n → (true ≡ true) × (number_of digits ≡ Some n)) [
    | true ↦ λ h. cc
    | false ↦ λ h. (refl, h)
  ]
] refl is

record IsStep (e v b : ℕ) (digits : List ℕ) : Type 0 where
  end : eqb e 10 ≡ false
  letter : eqb v 10 ≡ false
  blank : eqb b 10 ≡ false
  few : length digits ≤ 2
  some : 1 ≤ length digits
  all : list_all is_ascii_digit digits ≡ true

parts : (e v b : ℕ) (digits : List ℕ) (step : TimesEvent) → step_in (e ∷ v ∷ b ∷ digits) ≡ Some step → IsStep e v b digits
parts e v b digits step is = elim (eqb b 32) as (λ x. eqb b 32 ≡ x → cond x (step_with (side_in (end_of (e ∷ []))) (verb_of v) (count_in digits)) None ≡ Some step → IsStep e v b digits) [
  | false ↦ λ other h. cc
  | true ↦ λ blank h.
      let all = with_all (side_in (end_of (e ∷ []))) (verb_of v) (count_in digits) step h in
      let verb = all.1 in
      let count = counted digits step.n all.2 in
      let number = number_is_digits digits step.n count.1 in record {
        end = not_at_end e step.side all.0;
        letter = grind (arith, common_steps);
        blank = subst (λ x. eqb x 10 ≡ false) (sym (eqb-true b 32 blank)) refl;
        few = let le = count.0 in grind (arith, nat_tests);
        some = grind (arith, common_steps);
        all = grind (arith, common_steps);
      }
] refl is

sizes : (line : List ℕ) (step : TimesEvent) → step_in line ≡ Some step → (4 ≤ length line) × (length line ≤ 5)
sizes [] step is = cc
sizes (_ ∷ []) step is = cc
sizes (_ ∷ _ ∷ []) step is = cc
sizes (e ∷ v ∷ b ∷ digits) step is = let h = parts e v b digits step is in let few = h.few in let some = h.some in (omega (arith, few, some), omega (arith, few, some))

-- ---- with the carriage return that may stand behind it

content_size : (line : List ℕ) → (length (content (text_line 0 line true)) ≤ length line) × (length line ≤ length (content (text_line 0 line true)) + 1)
content_size line = elim (eqb (slice_index line (length line - 1)) 13) as (λ b. (length (cond b (take (length line - 1) line) line) ≤ length line) × (length line ≤ length (cond b (take (length line - 1) line) line) + 1)) [
  | true ↦ (omega (arith, length-take (length line - 1) line), omega (arith, length-take (length line - 1) line))
  | false ↦ (omega arith, omega arith)
]

no_feed : (d : ℕ) → is_ascii_digit d ≡ true → eqb d 10 ≡ false
no_feed d digit = grind (arith, common_steps)

one : (d : ℕ) → list_all is_ascii_digit (d ∷ []) ≡ true → eqb d 10 ≡ false
one d all = let digit : is_ascii_digit d ≡ true = grind (arith, common_steps) in no_feed d digit

two : (d f : ℕ) → list_all is_ascii_digit (d ∷ f ∷ []) ≡ true → (eqb d 10 ≡ false) × (eqb f 10 ≡ false)
two d f all =
    let first : is_ascii_digit d ≡ true = grind (arith, common_steps) in
    let second : is_ascii_digit f ≡ true = grind (arith, common_steps) in
    (no_feed d first, no_feed f second)

return_is_none : (x : ℕ) → eqb x 13 ≡ true → eqb x 10 ≡ false
return_is_none x is = subst (λ y. eqb y 10 ≡ false) (sym (eqb-true x 13 is)) refl

four : (e v b d : ℕ) (step : TimesEvent) → step_before (e ∷ v ∷ b ∷ d ∷ []) ≡ Some step → HasNoFeed (e ∷ v ∷ b ∷ d ∷ [])
four e v b d step is = elim (eqb d 13) as (λ x. step_in (cond x (e ∷ v ∷ b ∷ []) (e ∷ v ∷ b ∷ d ∷ [])) ≡ Some step → HasNoFeed (e ∷ v ∷ b ∷ d ∷ [])) [
  | true ↦ λ h. let some = (parts e v b [] step h).some in absurd (omega (arith, some))
  | false ↦ λ h. let s = parts e v b (d ∷ []) step h in rw (s.end, s.letter, s.blank, one d s.all) refl
] is

five : (e v b d f : ℕ) (step : TimesEvent) → step_before (e ∷ v ∷ b ∷ d ∷ f ∷ []) ≡ Some step → HasNoFeed (e ∷ v ∷ b ∷ d ∷ f ∷ [])
five e v b d f step is = elim (eqb f 13) as (λ x. eqb f 13 ≡ x → step_in (cond x (e ∷ v ∷ b ∷ d ∷ []) (e ∷ v ∷ b ∷ d ∷ f ∷ [])) ≡ Some step → HasNoFeed (e ∷ v ∷ b ∷ d ∷ f ∷ [])) [
  | true ↦ λ back h.
      let s = parts e v b (d ∷ []) step h in
      rw (s.end, s.letter, s.blank, one d s.all, return_is_none f back) refl
  | false ↦ λ other h.
      let s = parts e v b (d ∷ f ∷ []) step h in
      let both = two d f s.all in
      rw (s.end, s.letter, s.blank, both.0, both.1) refl
] refl is

six : (e v b d f g : ℕ) (step : TimesEvent) → step_before (e ∷ v ∷ b ∷ d ∷ f ∷ g ∷ []) ≡ Some step → HasNoFeed (e ∷ v ∷ b ∷ d ∷ f ∷ g ∷ [])
six e v b d f g step is = elim (eqb g 13) as (λ x. eqb g 13 ≡ x → step_in (cond x (e ∷ v ∷ b ∷ d ∷ f ∷ []) (e ∷ v ∷ b ∷ d ∷ f ∷ g ∷ [])) ≡ Some step → HasNoFeed (e ∷ v ∷ b ∷ d ∷ f ∷ g ∷ [])) [
  | true ↦ λ back h.
      let s = parts e v b (d ∷ f ∷ []) step h in
      let both = two d f s.all in
      rw (s.end, s.letter, s.blank, both.0, both.1, return_is_none g back) refl
  | false ↦ λ other h. let few = (parts e v b (d ∷ f ∷ g ∷ []) step h).few in absurd (omega (arith, few))
] refl is

pub before_size : (line : List ℕ) (step : TimesEvent) → step_before line ≡ Some step → (4 ≤ length line) × (length line ≤ 6)
before_size line step is =
    let size = sizes (content (text_line 0 line true)) step is in
    let near = content_size line in
    let least = size.0 in
    let most = size.1 in
    let fewer = near.0 in
    let more = near.1 in
    (omega (arith, least, fewer), omega (arith, most, more))

pub step_line : (line : List ℕ) (step : TimesEvent) → step_before line ≡ Some step → HasNoFeed line
step_line (e ∷ v ∷ b ∷ d ∷ []) step is = four e v b d step is
step_line (e ∷ v ∷ b ∷ d ∷ f ∷ []) step is = five e v b d f step is
step_line (e ∷ v ∷ b ∷ d ∷ f ∷ g ∷ []) step is = six e v b d f g step is
step_line [] step is = let size = (before_size [] step is).0 in absurd (omega (arith, size))
step_line (a ∷ []) step is = let size = (before_size (a ∷ []) step is).0 in absurd (omega (arith, size))
step_line (a ∷ b ∷ []) step is = let size = (before_size (a ∷ b ∷ []) step is).0 in absurd (omega (arith, size))
step_line (a ∷ b ∷ c ∷ []) step is = let size = (before_size (a ∷ b ∷ c ∷ []) step is).0 in absurd (omega (arith, size))
step_line (a ∷ b ∷ c ∷ d ∷ e ∷ f ∷ g ∷ rest) step is = let size = (before_size (a ∷ b ∷ c ∷ d ∷ e ∷ f ∷ g ∷ rest) step is).1 in absurd (omega (arith, size))

-- ---- the first line feed from a place on

feed_behind : (line more : List ℕ) → slice_index_or (line ++ 10 ∷ more) (length line) 0 ≡ 10
feed_behind [] more = refl
feed_behind (b ∷ line) more = feed_behind line more

rest_has_none : (b : ℕ) (line : List ℕ) → HasNoFeed (b ∷ line) → HasNoFeed line
rest_has_none b line none = elim (eqb b 10) as (λ x. (x || list_any (λ byte. eqb byte 10) line) ≡ false → HasNoFeed line) [
  | true ↦ λ h. cc
  | false ↦ λ h. h
] none

pub none_behind : (k : ℕ) (line : List ℕ) → HasNoFeed line → HasNoFeed (drop k line)
none_behind zero line none = none
none_behind (suc k) [] none = none
none_behind (suc k) (b ∷ line) none = none_behind k line (rest_has_none b line none)

first_feed : (line more : List ℕ) (i : ℕ) → HasNoFeed line → i ≤ length line → slice_index_or (line ++ 10 ∷ more) i 0 ≡ 10 → i ≡ length line
first_feed [] more i none within feed = omega (arith, within)
first_feed (b ∷ line) more zero none within feed = let no : HasNoFeed (10 ∷ line) = subst (λ x. HasNoFeed (x ∷ line)) feed none in cc
first_feed (b ∷ line) more (suc i) none within feed = ap suc (first_feed line more i (rest_has_none b line none) (omega (arith, within)) feed)

first_feed_from : (k : ℕ) (line more : List ℕ) (i : ℕ) → HasNoFeed (drop k line) → k ≤ i → i ≤ length line → slice_index_or (line ++ 10 ∷ more) i 0 ≡ 10 → i ≡ length line
first_feed_from zero line more i none from within feed = first_feed line more i none within feed
first_feed_from (suc k) [] more i none from within feed = omega (arith, within)
first_feed_from (suc k) (b ∷ line) more zero none from within feed = absurd (omega (arith, from))
first_feed_from (suc k) (b ∷ line) more (suc i) none from within feed = ap suc (first_feed_from k line more i none (omega (arith, from)) (omega (arith, within)) feed)

-- where a line feed stands behind so many bytes of a line, at least four, these are all of it
pub whole_line : (i : ℕ) (bytes line more : List ℕ) → HasNoFeed (drop 4 line) → 4 ≤ i → i ≤ length line → bytes ≡ line ++ 10 ∷ more → slice_index_or bytes i 0 ≡ 10 → take i bytes ≡ line
whole_line i bytes line more none from within all feed =
    let at : i ≡ length line = first_feed_from 4 line more i none from within (subst (λ (b : List ℕ). slice_index_or b i 0 ≡ 10) all feed) in
    ap (take i) all ∙ ap (λ n. take n (line ++ 10 ∷ more)) at ∙ take-append_seam line (10 ∷ more)

-- where another byte stands there, the line has more
pub longer_line : (i : ℕ) (bytes line more : List ℕ) → i ≤ length line → bytes ≡ line ++ 10 ∷ more → eqb (slice_index_or bytes i 0) 10 ≡ false → i + 1 ≤ length line
longer_line i bytes line more within all other = elim (cases_lt i (length line)) [
  | inl lt ↦ omega (arith, lt)
  | inr le ↦
      let at : length line ≡ i = omega (arith, within, le) in
      let feed : slice_index_or bytes i 0 ≡ 10 = ap (λ (b : List ℕ). slice_index_or b i 0) all ∙ subst (λ n. slice_index_or (line ++ 10 ∷ more) n 0 ≡ 10) at (feed_behind line more) in
      let no : true ≡ false = sym (ap (λ x. eqb x 10) feed) ∙ other in cc
]
