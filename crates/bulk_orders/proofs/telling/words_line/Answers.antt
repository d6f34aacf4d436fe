use Rattle.std.proofs.Common.{◌∙◌, ◌++◌, ◌∷◌, [], ℕ, List, ap, codes, sym}
use Rattle.std.specs.List.{flat_map}
use Rattle.std.proofs.lemmas.List.{take_all}
use Rattle.replay_report.proofs.Pairs.{by_bytes, pair_of}
use Rattle.bulk_orders.proofs.telling.words_line.Goals as goal

pub returns : goal.returns
returns c =
    let all = ap (flat_map pair_of) (take_all c.loop-byte.byte-index c.args.words.now c.loop-byte-test.false) ∙ sym (by_bytes c.args.words.now) in
    c.push.ensures.items ∙ ap (λ (line : List ℕ). line ++ 10 ∷ []) (c.loop-byte.invariant.text ∙ ap (λ (digits : List ℕ). codes "pulled " ++ digits) all)
