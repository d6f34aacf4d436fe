use Rattle.std.proofs.Common.{ℕ, List, ◌≡◌, ◌++◌, ◌∷◌, [], get_or, drop, ◌*◌, ◌+◌, ap, ◌∙◌, arith}
use Rattle.data_files.specs.WordBytes.{words_of}
use Rattle.slc_commands.specs.Words.{masked, masked_word}
use Rattle.slc_commands.proofs.WordLists.{masked_step}
use Rattle.slc_commands.proofs.words.masked_words.Goals as goal

pub loop-place-preserved : goal.loop-place-preserved
loop-place-preserved c =
    let mask = c.args.mask in
    let old = c.args.old.now in
    let bytes = c.args.bytes.now in
    let i = c.loop-place.place in
    let new : c.from_le_bytes-new.result ≡ get_or bytes (2 * i) 0 + 256 * get_or bytes (2 * i + 1) 0 = omega (arith, c.from_le_bytes-new.ensures) in
    let word = c.masked_word.ensures ∙ ap (masked_word mask _) new in
    let items = c.push.ensures.items ∙ ap (λ (w : ℕ). c.loop-place.words.items ++ w ∷ []) word in
    let rest = masked mask (drop (i + 1) old) (words_of (drop (2 * (i + 1)) bytes)) in
    record {
      so_far = ap (λ (front : List ℕ). front ++ rest) items ∙ masked_step mask old bytes i c.loop-place.words.items (masked mask old (words_of bytes)) (omega arith) c.requires.data c.loop-place.invariant.so_far;
      count = omega (arith, c.push.ensures.len);
    }
