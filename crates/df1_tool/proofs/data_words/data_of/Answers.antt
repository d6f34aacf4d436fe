-- The digits are decoded into as many bytes as they are for.
use Rattle.std.proofs.Common.{◌≡◌, ◌≤◌, ◌/◌, ◌%◌, ◌∙◌, ℕ, List, ◌++◌, length, take, drop, true, Some, Result, Ok, Err, ap, refl, sym, arith}
use Rattle.std.specs.Prelude.{MatchResult, nat_lt, nat_le, ◌==◌, ◌&&◌}
use Rattle.std.specs.Result.{result_ok}
use Rattle.std.proofs.Math.Seq.{take-append_seam}
use Rattle.std.proofs.lemmas.Bool.Decides.{nat_tests}
use Rattle.hex.specs.Hex.{decode_of, decode_sized}
use Rattle.hex.specs.declared.error.FromHexError.{FromHexError}
use Rattle.script_statement.specs.Words.{hex_of}
use Rattle.df1_tool.specs.Forms.{data_of}
use Rattle.df1_tool.proofs.data_words.data_of.Goals as goal

sized : (word : List ℕ) (n : ℕ) → length word / 2 ≡ n → decode_sized word n ≡ decode_of word
sized word n is = let test : (length word / 2 == n) ≡ true = grind (arith, nat_tests) in rw test refl

decoded : (answer : Result (List ℕ) FromHexError) (result : Result (Unit {0}) FromHexError) (out : List ℕ) → result ≡ Ok tt → MatchResult answer (λ bytes. (result ≡ Ok tt) × (out ≡ bytes)) (λ why. result ≡ Err why) → result_ok answer ≡ Some out
decoded (Ok bytes) result out is told = ap Some (sym told.1)
decoded (Err why) result out is told = let no : Ok tt ≡ Err why = sym is ∙ told in absurd cc

all-words : (word bytes : List ℕ) → 1 ≤ length word → length word ≤ 12000 → length word % 4 ≡ 0 → hex_of word ≡ Some bytes → data_of word ≡ Some bytes
all-words word bytes some few whole is =
    let test : (nat_lt 0 (length word) && nat_le (length word) 12000 && (length word % 4 == 0)) ≡ true = grind (arith, nat_tests) in
    rw test is

pub returns-in-Ok-clause-value : goal.returns-in-Ok-clause-value
returns-in-Ok-clause-value c =
    let word = c.args.word.now in
    let out = c.decode_to_slice.new.out in
    let room = c.truncate.new.self.items in
    let lent : length c.deref_mut.result.now ≡ length room = ap length c.deref_mut.ensures.value in
    let size : length word / 2 ≡ length c.deref_mut.result.now = omega arith in
    let same : length out ≡ length room = omega arith in
    let some : 1 ≤ length word = grind (arith, nat_tests) in
    let few : length word ≤ 12000 = omega arith in
    let whole : length word % 4 ≡ 0 = omega arith in
    let known : hex_of word ≡ Some out = ap result_ok (sym (sized word (length c.deref_mut.result.now) size)) ∙ decoded (decode_sized word (length c.deref_mut.result.now)) c.decode_to_slice.result out c.in-Ok.is c.decode_to_slice.ensures.value in
    let front : take (length room) (out ++ drop (length out) room) ≡ out = ap (λ (n : ℕ). take n (out ++ drop (length out) room)) (sym same) ∙ take-append_seam out (drop (length out) room) in
    all-words word out some few whole known ∙ ap Some (sym front)
