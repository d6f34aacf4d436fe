-- The last offset is written at the end, and the first one before it; the spaces were there.
use Rattle.std.proofs.Common.{◌≡◌, ◌∙◌, ℕ, ◌-◌, ◌<◌, ◌≤◌, ◌^◌, List, [], ◌∷◌, ◌++◌, length, drop, get_or, replicate, ap, arith, append_assoc}
use Rattle.std.specs.Prelude.{decimal}
use Rattle.std.proofs.lemmas.Fmt.{length-decimal-le}
use Rattle.std.proofs.lemmas.List.{get_or-replicate, length-drop, take_all}
use Rattle.df1_dissect.specs.Lines.{offsets_text}
use Rattle.df1_dissect.proofs.Offsets.{spaced}
use Rattle.df1_dissect.proofs.line.append_offsets.Goals as goal

short : (n : ℕ) → n < 2 ^ 64 → length (decimal n) ≤ 20
short n fits = length-decimal-le 20 n (omega arith) (omega arith) fits

pub write_digits-second-requires : goal.write_digits-second-requires
write_digits-second-requires g c = (omega (arith, short c.args.last c.ranges.last.fits), omega arith)

pub overflow_sub-second : goal.overflow_sub-second
overflow_sub-second g c = omega (arith, short c.args.last c.ranges.last.fits, c.write_digits-second.ensures.start)

pub write_digits-start-requires : goal.write_digits-start-requires
write_digits-start-requires g c =
    let last = short c.args.last c.ranges.last.fits in
    let first = short c.args.first c.ranges.first.fits in
    (omega (arith, first, last, c.write_digits-second.ensures.start), omega (arith, last, c.write_digits-second.ensures.start, c.write_digits-second.auto.buf))

pub returns-clause-text : goal.returns-clause-text
returns-clause-text g c =
    let s = c.write_digits-second in
    let t = c.write_digits-start in
    let last = short c.args.last c.ranges.last.fits in
    let start = s.ensures.start in
    let second = s.result in
    let some : 1 ≤ second = omega (arith, last, start) in
    let within : second ≤ length s.new.buf = omega (arith, start, s.auto.buf) in
    let space : get_or (replicate 42 32) (second - 1) 0 ≡ 32 = get_or-replicate 42 (second - 1) 32 0 (omega (arith, start)) in
    let regroup : decimal c.args.first ++ (32 ∷ (decimal c.args.last ++ 32 ∷ [])) ≡ offsets_text c.args.first c.args.last = simp append_assoc in
    let whole : drop t.result t.new.buf ≡ offsets_text c.args.first c.args.last =
    t.ensures.written ∙ ap (λ (l : List ℕ). decimal c.args.first ++ l) (spaced (replicate 42 32) s.new.buf second s.ensures.before some within space ∙ ap (λ (l : List ℕ). 32 ∷ l) s.ensures.written) ∙ regroup in
    let tail = take_all (42 - t.result) (drop t.result t.new.buf) (omega (arith, length-drop t.result t.new.buf, t.auto.buf, s.auto.buf)) in
    c.append.ensures ∙ ap (λ (l : List ℕ). c.args.text.now.items ++ l) (tail ∙ whole)
