use Rattle.std.proofs.Common.{◌≡◌, ◌+◌, ◌*◌, ◌++◌, length, drop}
use Rattle.data_files.specs.WordBytes.{bytes_of}
use Rattle.command_payloads.proofs.pieces.push_words.Given as goal

abbrev pub invariant-loop-word : goal.invariant-loop-word
invariant-loop-word l = record {
  so_far : l.into.items ++ bytes_of (drop l.word-index l.words) ≡ l.initial.into.items ++ bytes_of l.words;
  count : length l.into.items ≡ length l.initial.into.items + 2 * l.word-index;
}
