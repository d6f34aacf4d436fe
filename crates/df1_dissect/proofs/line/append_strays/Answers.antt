-- The line of one byte more.
use Rattle.std.proofs.Common.{◌≡◌, ◌∙◌, ℕ, ◌+◌, ◌-◌, ◌/◌, ◌%◌, ◌<◌, ◌≤◌, ◌^◌, List, [], ◌∷◌, ◌++◌, length, take, drop, get_or, replicate, sym, ap, refl, arith, append_assoc, append-nil, length-append}
use Rattle.std.specs.Prelude.{decimal, slice_index}
use Rattle.std.proofs.Math.ListN.{set, get_or-append}
use Rattle.std.proofs.lemmas.List.{take_more, take_all, length-take-le, length-drop, get_or-replicate}
use Rattle.std.proofs.lemmas.Fmt.{decimal_step, length-decimal-le}
use Rattle.hex.specs.Hex.{upper_digits}
use Rattle.df1_dissect.specs.Dissection.{stray_line, stray_lines}
use Rattle.df1_dissect.proofs.Offsets.{spaced}
use Rattle.df1_dissect.proofs.RunLemmas.{strays-more}
use Rattle.df1_dissect.proofs.StrayLine.{stray_with, changed, first-line, stray-line-is}
use Rattle.df1_dissect.proofs.line.append_strays.Goals as goal

short : (n : ℕ) → n ≤ 268435456 → length (decimal n) ≤ 9
short n few = length-decimal-le 9 n (omega arith) (omega arith) (omega arith)

pub write_digits-second-requires : goal.write_digits-second-requires
write_digits-second-requires g c = (omega (arith, short c.args.at (omega (arith, c.requires.few))), omega arith)

pub overflow_sub-second : goal.overflow_sub-second
overflow_sub-second g c = omega (arith, short c.args.at (omega (arith, c.requires.few)), c.write_digits-second.ensures.start)

pub write_digits-start-requires : goal.write_digits-start-requires
write_digits-start-requires g c =
    let few = short c.args.at (omega (arith, c.requires.few)) in
    (omega (arith, few, c.write_digits-second.ensures.start), omega (arith, few, c.write_digits-second.ensures.start, c.write_digits-second.auto.buf))

-- the digits of an offset in the same ten
ten : (at i : ℕ) (tens : List ℕ) (one : ℕ) → 10 ≤ at → at % 10 + i < 10 → at + i < 2 ^ 64 → tens ≡ decimal (at / 10) → one ≡ 48 + at % 10 + i → decimal (at + i) ≡ tens ++ one ∷ []
ten at i tens one two fits few is digit =
    let same : (at + i) / 10 ≡ at / 10 = omega arith in
    let last : 48 + (at + i) % 10 ≡ one = omega (arith, digit) in
    decimal_step (at + i) (omega arith) few ∙ ap (λ n. decimal n ++ (48 + (at + i) % 10) ∷ []) same ∙ ap (λ (l : List ℕ). l ++ (48 + (at + i) % 10) ∷ []) (sym is) ∙ ap (λ n. tens ++ n ∷ []) last

-- the digits before the last one, and the last one
split : (at : ℕ) → 10 ≤ at → at < 2 ^ 64 → decimal at ≡ decimal (at / 10) ++ (48 + at % 10) ∷ []
split at two few = decimal_step at two few

sized : (at : ℕ) → 10 ≤ at → at < 2 ^ 64 → length (decimal at) ≡ length (decimal (at / 10)) + 1
sized at two few = ap length (split at two few) ∙ length-append (decimal (at / 10)) ((48 + at % 10) ∷ [])

-- the line at first, and its spaces before the word
abbrev stray : List ℕ
stray = replicate 19 32 ++ 32 ∷ 115 ∷ 116 ∷ 114 ∷ 97 ∷ 121 ∷ 32 ∷ 48 ∷ 48 ∷ 10 ∷ []

blank : (i : ℕ) → i < 19 → get_or stray i 0 ≡ 32
blank i lt =
    let spaces : List ℕ = replicate 19 32 in
    let word : List ℕ = 32 ∷ 115 ∷ 116 ∷ 114 ∷ 97 ∷ 121 ∷ 32 ∷ 48 ∷ 48 ∷ 10 ∷ [] in
    get_or-append spaces word 0 i lt ∙ get_or-replicate 19 i 32 0 lt

pub loop-byte-init : goal.loop-byte-init
loop-byte-init g c =
    let s = c.write_digits-second in
    let t = c.write_digits-start in
    let at = c.args.at in
    let tens = decimal (at / 10) in
    let one = 48 + at % 10 in
    let few : at < 2 ^ 64 = omega (arith, c.requires.few) in
    let size = short at (omega (arith, c.requires.few)) in
    let more = sized at c.requires.two few in
    let space : get_or stray (s.result - 1) 0 ≡ 32 = blank (s.result - 1) (omega (arith, s.ensures.start, more)) in
    let second : drop (s.result - 1) s.new.buf ≡ 32 ∷ (decimal at ++ drop 19 stray) =
    spaced stray s.new.buf s.result s.ensures.before (omega (arith, s.ensures.start, size)) (omega (arith, s.ensures.start, s.auto.buf)) space ∙ ap (λ (l : List ℕ). 32 ∷ l) s.ensures.written in
    let whole : drop t.result t.new.buf ≡ stray_with tens one one 48 48 =
    t.ensures.written ∙ ap (λ (l : List ℕ). decimal at ++ l) second ∙ ap (λ (d : List ℕ). d ++ 32 ∷ (d ++ drop 19 stray)) (split at c.requires.two few) ∙ first-line tens one in
    record { text = sym (append-nil c.args.text.now.items); one = omega arith; line = record { x = one; y = one; high = 48; low = 48; is = whole }; size = omega arith }

pub set_stray-requires : goal.set_stray-requires
set_stray-requires g c = omega (arith, c.write_digits-second.ensures.start, sized c.args.at c.requires.two (omega (arith, c.requires.few)))

pub loop-byte-preserved : goal.loop-byte-preserved
loop-byte-preserved g c =
    let l = c.loop-byte in
    let s = c.write_digits-second in
    let t = c.write_digits-start in
    let all = c.args.bytes.now in
    let i = l.byte-index in
    let b = get_or all i 0 in
    let at = c.args.at in
    let lt = c.loop-byte-test.true in
    let size : length (take i all) ≡ i = length-take-le i all (omega arith) in
    let tens = decimal (at / 10) in
    let more = sized at c.requires.two (omega (arith, c.requires.few)) in
    let is : decimal (at + i) ≡ tens ++ l.one ∷ [] = ten at i tens l.one c.requires.two (omega (arith, lt, c.requires.ten)) (omega (arith, lt, c.requires.few)) refl l.invariant.one in
    let high = slice_index upper_digits (b / 16) in
    let low = slice_index upper_digits (b % 16) in
    let line = c.set_stray.new.line in
    let is-set : line ≡ set (set (set (set l.line (s.result - 2) l.one) 18 l.one) 26 high) 27 low = c.set_stray.ensures in
    let told : drop t.result line ≡ stray_with tens l.one l.one high low =
    ap (drop t.result) is-set ∙ changed l.line t.result (s.result - 2) tens l.one high low l.invariant.line (omega (arith, more, s.ensures.start, t.ensures.start)) (omega (arith, more, s.ensures.start, t.ensures.start)) in
    let wide : length (drop t.result line) ≤ 29 - t.result = omega (arith, length-drop t.result line, c.set_stray.auto.line) in
    let tail = take_all (29 - t.result) (drop t.result line) wide in
    let added : take (29 - t.result) (drop t.result line) ≡ stray_line (at + i) b = tail ∙ told ∙ stray-line-is (at + i) b l.one tens is in
    record {
      text =
          c.append.ensures
          ∙ ap (λ (t : List ℕ). l.text.items ++ t) added
          ∙ ap (λ (t : List ℕ). t ++ stray_line (at + i) b) l.invariant.text
          ∙ append_assoc c.args.text.now.items (stray_lines at (take i all)) (stray_line (at + i) b)
          ∙ ap (λ (t : List ℕ). c.args.text.now.items ++ t) (ap (λ n. stray_lines at (take i all) ++ stray_line (at + n) b) (sym size) ∙ sym (strays-more (take i all) b at) ∙ ap (stray_lines at) (sym (take_more all i 0 lt)));
      one = omega (arith, l.invariant.one);
      line = record { x = l.one; y = l.one; high = high; low = low; is = told };
      size = omega (arith, ap length c.append.ensures, length-append l.text.items (take (29 - t.result) (drop t.result line)), ap length tail, wide, l.invariant.size);
    }
