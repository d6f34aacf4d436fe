use Rattle.std.proofs.Common.{◌≡◌, ◌+◌, ◌*◌, ◌++◌, length, drop}
use Rattle.data_files.specs.WordBytes.{bytes_of}
use Rattle.data_files.proofs.word_bytes.push_words.Given as goal

abbrev pub invariant-loop-word : goal.invariant-loop-word
invariant-loop-word l = record {
  so_far : l.out.items ++ bytes_of (drop l.word-index l.words) ≡ l.initial.out.items ++ bytes_of l.words;
  count : length l.out.items ≡ length l.initial.out.items + 2 * l.word-index;
}
