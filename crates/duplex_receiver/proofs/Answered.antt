-- The things heard at each byte are the grammar's answers over the whole list.
use Rattle.std.proofs.Common.{◌≡◌, ℕ, List, [], ◌∷◌, ◌++◌, Option, map, refl, sym, ap, subst, ◌∙◌}
use Rattle.std.proofs.lemmas.List.{map-append}
use Rattle.df1_check.specs.declared.Check.{Check}
use Rattle.df1_frame.specs.declared.heard.Heard.{Heard}
use Rattle.df1_frame.specs.Line.{ReadOff, answers, last_heard}
use Rattle.df1_frame.specs.Grammar.{full_duplex}
use Rattle.df1_frame.proofs.LineLemmas.{answers-start, answers-next, heard-next, same-split}
use Rattle.df1_frame.proofs.GrammarLemmas.{machine, works}
use Rattle.df1_frame.specs.Standing.{Decoding, decoding}
use Rattle.df1_frame.specs.Step.{next}
use Rattle.duplex_receiver.specs.Receiver.{Hearing}
use Rattle.duplex_receiver.specs.Hearing.{Hears, nothing_yet, one_more}

abbrev heard_of : Hearing → Option Heard
heard_of h = h.heard

-- one byte more
answered-more : (check : Check) (N : ℕ) (bytes : List ℕ) (before : List Hearing) (b : ℕ) (h : Hearing)
    → ReadOff (full_duplex check N) bytes (answers (full_duplex check N)) (map heard_of before)
    → ReadOff (full_duplex check N) (bytes ++ b ∷ []) (last_heard (full_duplex check N)) h.heard
    → ReadOff (full_duplex check N) (bytes ++ b ∷ []) (answers (full_duplex check N)) (map heard_of (before ++ h ∷ []))
answered-more check N bytes before b h so_far heard =
    let d : Decoding = decoding check N so_far.items so_far.front in
    let r : ReadOff (full_duplex check N) bytes (decoding check N) d =
    record { items = so_far.items; front = so_far.front; splits = so_far.splits; is = refl } in
    let more : ReadOff (full_duplex check N) (bytes ++ b ∷ []) (answers (full_duplex check N)) (map heard_of before ++ (next N d b).1 ∷ []) =
    answers-next (full_duplex check N) (machine check N) (works check N) b bytes d (map heard_of before) r so_far in
    let told : ReadOff (full_duplex check N) (bytes ++ b ∷ []) (last_heard (full_duplex check N)) (next N d b).1 =
    heard-next (full_duplex check N) (machine check N) (works check N) b bytes d r in
    let same : h.heard ≡ (next N d b).1 =
    same-split (full_duplex check N) (machine check N) (works check N) (bytes ++ b ∷ []) (last_heard (full_duplex check N)) (last_heard (full_duplex check N)) (next N d b).1 h.heard told heard
    ∙ sym told.is in
    let equal : map heard_of before ++ (next N d b).1 ∷ [] ≡ map heard_of (before ++ h ∷ []) =
    ap (λ what. map heard_of before ++ what ∷ []) (sym same) ∙ sym (map-append heard_of before (h ∷ [])) in
    subst (λ hs. ReadOff (full_duplex check N) (bytes ++ b ∷ []) (answers (full_duplex check N)) hs) equal more

pub Hears-answers : (check : Check) (N : ℕ) (bytes : List ℕ) (hearings : List Hearing) → Hears check N bytes hearings
    → ReadOff (full_duplex check N) bytes (answers (full_duplex check N)) (map heard_of hearings)
Hears-answers check N bytes hearings nothing_yet = answers-start (full_duplex check N) (machine check N) (works check N)
Hears-answers check N bytes hearings (one_more l before b h hears heard lent) =
    answered-more check N l before b h (Hears-answers check N l before hears) heard
