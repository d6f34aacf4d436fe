-- The replies that a station made since it had replied to all that it executed before.
use Rattle.std.proofs.Common.{◌≡◌, ◌∙◌, ℕ, List, [], ◌∷◌, ◌++◌, length, map, refl, sym, ap, arith, append_assoc}
use Rattle.std.specs.List.{filter, fold}
use Rattle.std.proofs.lemmas.List.{map-append}
use Rattle.std.proofs.lemmas.List.Elements.{filter-append}
use Rattle.pccc_envelope.specs.Envelope.{is_reply}
use Rattle.df1_node.specs.Answer.{StationState, after_answer, reply_to}
use Rattle.each_once.specs.Exchanges.{exchanges}
use Rattle.each_once.proofs.HandedOut.{is_command}
use Rattle.each_once.proofs.StationReplies.{exchanges-length}

-- a station that executed the commands among the messages that it heard: the first of its replies are those among the messages that it handed out, and the others wait
abbrev pub AreReplies : StationState → (messages heard waiting : List (List ℕ)) → Type 0
AreReplies first messages heard waiting = map (λ e. e.1) (exchanges first (filter is_command heard)) ≡ filter is_reply messages ++ waiting

-- the station after the commands among these messages
abbrev pub station_past : StationState → List (List ℕ) → StationState
station_past first heard = fold after_answer first (filter is_command heard)

exchanges-append : (first : StationState) (xs ys : List (List ℕ)) → exchanges first (xs ++ ys) ≡ exchanges first xs ++ exchanges (fold after_answer first xs) ys
exchanges-append first [] ys = refl
exchanges-append first (x ∷ xs) ys = ap (λ (es : List (List ℕ × List ℕ)). (x, reply_to first x) ∷ es) (exchanges-append (after_answer first x) xs ys)

same-tail : {A : Type 0} (x y : A) (xs ys : List A) → x ∷ xs ≡ y ∷ ys → xs ≡ ys
same-tail x y xs ys e = cc

-- equal lists whose fronts are equally long have the same back
same-back : {A : Type 0} (xs ys zs ws : List A) → length xs ≡ length zs → xs ++ ys ≡ zs ++ ws → ys ≡ ws
same-back [] ys [] ws same e = e
same-back [] ys (z ∷ zs) ws same e = absurd (omega (arith, same))
same-back (x ∷ xs) ys [] ws same e = absurd (omega (arith, same))
same-back (x ∷ xs) ys (z ∷ zs) ws same e = same-back xs ys zs ws (omega (arith, same)) (same-tail x z (xs ++ ys) (zs ++ ws) e)

-- where all that was executed before was replied to, the later replies are to the later commands
pub replies-since : (first : StationState) (old_messages messages old_heard heard waiting : List (List ℕ)) → AreReplies first (old_messages ++ messages) (old_heard ++ heard) waiting → length (filter is_reply old_messages) ≡ length (filter is_command old_heard)
    → AreReplies (station_past first old_heard) messages heard waiting
replies-since first old_messages messages old_heard heard waiting all even =
    let commands = filter is_command old_heard in
    let later = filter is_command heard in
    let old_replies = filter is_reply old_messages in
    let front = map (λ (e : List ℕ × List ℕ). e.1) (exchanges first commands) in
    let back = map (λ (e : List ℕ × List ℕ). e.1) (exchanges (station_past first old_heard) later) in
    let left : map (λ (e : List ℕ × List ℕ). e.1) (exchanges first (filter is_command (old_heard ++ heard))) ≡ front ++ back =
    ap (λ (xs : List (List ℕ)). map (λ (e : List ℕ × List ℕ). e.1) (exchanges first xs)) (filter-append is_command old_heard heard)
    ∙ ap (map (λ (e : List ℕ × List ℕ). e.1)) (exchanges-append first commands later)
    ∙ map-append (λ (e : List ℕ × List ℕ). e.1) (exchanges first commands) (exchanges (station_past first old_heard) later) in
    let right : filter is_reply (old_messages ++ messages) ++ waiting ≡ old_replies ++ (filter is_reply messages ++ waiting) =
    ap (λ (xs : List (List ℕ)). xs ++ waiting) (filter-append is_reply old_messages messages) ∙ append_assoc old_replies (filter is_reply messages) waiting in
    same-back front back old_replies (filter is_reply messages ++ waiting) (exchanges-length first commands ∙ sym even) (sym left ∙ all ∙ right)
