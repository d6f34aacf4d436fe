use Rattle.std.proofs.Common.{◌≡◌, ◌*◌, ◌++◌, length, drop}
use Rattle.data_files.specs.WordBytes.{words_of}
use Rattle.slc_commands.specs.Words.{masked}
use Rattle.slc_commands.proofs.words.masked_words.Given as goal

abbrev pub invariant-loop-place : goal.invariant-loop-place
invariant-loop-place l = record {
  so_far : l.words.items ++ masked l.mask (drop l.place l.old) (words_of (drop (2 * l.place) l.bytes)) ≡ masked l.mask l.old (words_of l.bytes);
  count : length l.words.items ≡ l.place;
}
