use Rattle.std.proofs.Common.{◌≡◌, ◌∙◌, ap, sym, length, ℕ, List}
use Rattle.std.proofs.lemmas.List.FromFn.{length-map-range_with_len}
use Rattle.c_calls.proofs.words.tell_words.Goals as goal

-- as many words as there are places
pub copy_from_slice-requires : goal.copy_from_slice-requires
copy_from_slice-requires c =
    sym (ap (λ (words : List ℕ). length words) c.in-Some-range.ensures.words ∙ length-map-range_with_len _ c.args.first (length c.args.values.now))
