use Rattle.std.proofs.Common.{◌≡◌, ◌∙◌, ap, length, ℕ, List}
use Rattle.std.proofs.lemmas.List.FromFn.{length-map-range_with_len}
use Rattle.c_calls.proofs.words.tell_change.Goals as goal

-- as many words as were seen
pub see_change-requires : goal.see_change-requires
see_change-requires c = ap (λ (words : List ℕ). length words) c.in-Some-range.ensures.words ∙ length-map-range_with_len _ c.args.first (length c.args.seen.now)
