-- The commands after those that wait were given up.
use Rattle.std.proofs.Common.{◌≡◌, ◌<◌, ◌≤◌, ℕ, suc, zero, ◌+◌, ◌*◌, ◌∙◌, Bool, Option, true, false, ◌&&◌, not, cond, List, [], ◌∷◌, ◌++◌, map, length, take, drop, get_or, set, position, unwrap_or, count_by, Some, None, refl, sym, ap, subst, arith, nat_lt, ◌==◌}
use Rattle.std.specs.Option.{option_map}
use Rattle.std.specs.List.{All}
use Rattle.std.proofs.lemmas.List.Sums.{sum_by-cons, count_by-le-length}
use Rattle.std.proofs.lemmas.List.Elements.{All-nil, All-cons, All-head, All-tail}
use Rattle.std.proofs.lemmas.Bool.Decides.{nat_tests}
use Rattle.df1_node.specs.declared.issued.Command.{Command}
use Rattle.df1_node.specs.declared.issued.State.{State}
use Rattle.df1_node.specs.declared.issued.State.TheVariants as stands
use Rattle.df1_node.specs.declared.queue.Queue.{Queue}
use Rattle.df1_node.specs.Initiator.{Standing, Waiting, Out, Answered, Undelivered, Unanswered, Issued, is_waiting, is_out, source_of, count_out_of, cleared, all_cleared}
use Rattle.df1_node.specs.Commands.{AreCommands, IsKept, IsStateKept, all_issued, issued_of, part_of, standing_of, cleared_state, cleared_from}
use Rattle.df1_node.specs.Queue.{out_now, is_unsettled, waiting_at, out_at, lowest_due, IsQueue}
use Rattle.df1_node.specs.HostLaws.{position-cons}
use Rattle.df1_node.proofs.Places.{position-alike, count-places}
use Rattle.df1_node.proofs.Ordered.{queue-cleared, out_not_settled}
use Rattle.df1_node.proofs.Next.{due_among, lowest_due-is}

-- the command given up, if it waits
abbrev pub given_up : Command → Command
given_up c = record c { state = cleared_state c.state }

standing_cleared : (bytes : List ℕ) (s : State) → standing_of bytes (cleared_state s) ≡ cleared (standing_of bytes s)
standing_cleared bytes stands.Waiting = refl
standing_cleared bytes (stands.Out left) = refl
standing_cleared bytes (stands.Answered reply) = refl
standing_cleared bytes stands.Undelivered = refl
standing_cleared bytes stands.Unanswered = refl

cleared_kept : (bytes : List ℕ) (s : State) → IsStateKept bytes s → IsStateKept bytes (cleared_state s)
cleared_kept bytes stands.Waiting is = tt
cleared_kept bytes (stands.Out left) is = tt
cleared_kept bytes (stands.Answered reply) is = is
cleared_kept bytes stands.Undelivered is = tt
cleared_kept bytes stands.Unanswered is = tt

cleared_other : (s : Standing) → is_waiting s ≡ false → cleared s ≡ s
cleared_other Waiting w = cc
cleared_other (Out k) w = refl
cleared_other (Answered r) w = refl
cleared_other Undelivered w = refl
cleared_other Unanswered w = refl

issued-given_up : (bytes : List ℕ) (xs : List Command) → all_issued bytes (map given_up xs) ≡ all_cleared (all_issued bytes xs)
issued-given_up bytes [] = refl
issued-given_up bytes (x ∷ xs) =
    ap (λ (s : Standing). let k : Issued = record { body = part_of bytes x.body; standing = s } in k ∷ all_issued bytes (map given_up xs)) (standing_cleared bytes x.state)
    ∙ ap (λ cs. record (issued_of bytes x) { standing = cleared (standing_of bytes x.state) } ∷ cs) (issued-given_up bytes xs)

-- the place of the first command that waits, and the number of commands where none does
abbrev pub first_place : List Issued → ℕ
first_place cs = unwrap_or (position (λ c. is_waiting c.standing) cs) (length cs)

unwrap-suc : (o : Option ℕ) (n : ℕ) → unwrap_or (option_map suc o) (suc n) ≡ suc (unwrap_or o n)
unwrap-suc None n = refl
unwrap-suc (Some p) n = refl

first-either : (b : Bool) (o : Option ℕ) (n : ℕ) → unwrap_or (cond b (Some 0) (option_map suc o)) (suc n) ≡ cond b 0 (suc (unwrap_or o n))
first-either true o n = refl
first-either false o n = unwrap-suc o n

first-cons : (c : Issued) (cs : List Issued) → first_place (c ∷ cs) ≡ cond (is_waiting c.standing) 0 (suc (first_place cs))
first-cons c cs = ap (λ o. unwrap_or o (suc (length cs))) (position-cons (λ x. is_waiting x.standing) c cs) ∙ first-either (is_waiting c.standing) (position (λ x. is_waiting x.standing) cs) (length cs)

within-either : (b : Bool) (n m : ℕ) → n ≤ m → cond b 0 (suc n) ≤ suc m
within-either true n m h = omega arith
within-either false n m h = omega arith

pub first-within : (cs : List Issued) → first_place cs ≤ length cs
first-within [] = omega arith
first-within (c ∷ cs) = subst (λ n. n ≤ suc (length cs)) (sym (first-cons c cs)) (within-either (is_waiting c.standing) (first_place cs) (length cs) (first-within cs))

issued-either : (b : Bool) (bytes : List ℕ) (x : Command) (xs : List Command) (n : ℕ) → is_waiting (standing_of bytes x.state) ≡ b → all_issued bytes (cleared_from n xs) ≡ all_cleared (all_issued bytes xs) →
    all_issued bytes (cleared_from (cond b 0 (suc n)) (x ∷ xs)) ≡ all_cleared (all_issued bytes (x ∷ xs))
issued-either true bytes x xs n e rest = issued-given_up bytes (x ∷ xs)
issued-either false bytes x xs n e rest =
    ap (λ cs. issued_of bytes x ∷ cs) rest
    ∙ ap (λ (s : Standing). let k : Issued = record { body = part_of bytes x.body; standing = s } in k ∷ all_cleared (all_issued bytes xs)) (sym (cleared_other (standing_of bytes x.state) e))

-- those from the first that waits on given up is each that waits given up
pub issued-cleared : (bytes : List ℕ) (xs : List Command) → all_issued bytes (cleared_from (first_place (all_issued bytes xs)) xs) ≡ all_cleared (all_issued bytes xs)
issued-cleared bytes [] = refl
issued-cleared bytes (x ∷ xs) =
    ap (λ n. all_issued bytes (cleared_from n (x ∷ xs))) (first-cons (issued_of bytes x) (all_issued bytes xs))
    ∙ issued-either (is_waiting (standing_of bytes x.state)) bytes x xs (first_place (all_issued bytes xs)) refl (issued-cleared bytes xs)

given_up-kept : (bytes : List ℕ) (xs : List Command) → All (IsKept bytes) xs → All (IsKept bytes) (map given_up xs)
given_up-kept bytes [] kept = All-nil (IsKept bytes)
given_up-kept bytes (x ∷ xs) kept =
    let k : IsKept bytes x = All-head (IsKept bytes) x xs kept in
    All-cons (IsKept bytes) (given_up x) (map given_up xs) (record { body = k.body; state = cleared_kept bytes x.state k.state }) (given_up-kept bytes xs (All-tail (IsKept bytes) x xs kept))

cleared-kept : (bytes : List ℕ) (n : ℕ) (xs : List Command) → All (IsKept bytes) xs → All (IsKept bytes) (cleared_from n xs)
cleared-kept bytes zero xs kept = given_up-kept bytes xs kept
cleared-kept bytes (suc n) [] kept = All-nil (IsKept bytes)
cleared-kept bytes (suc n) (x ∷ xs) kept = All-cons (IsKept bytes) x (cleared_from n xs) (All-head (IsKept bytes) x xs kept) (cleared-kept bytes n xs (All-tail (IsKept bytes) x xs kept))

length-given_up : (xs : List Command) → length (map given_up xs) ≡ length xs
length-given_up [] = refl
length-given_up (x ∷ xs) = ap suc (length-given_up xs)

pub length-cleared : (n : ℕ) (xs : List Command) → length (cleared_from n xs) ≡ length xs
length-cleared zero xs = length-given_up xs
length-cleared (suc n) [] = refl
length-cleared (suc n) (x ∷ xs) = ap suc (length-cleared n xs)

one-unless : (b d : Bool) → (b ≡ true → d ≡ true) → cond b 1 0 ≤ cond d 1 0
one-unless true true h = omega arith
one-unless true false h = let f : false ≡ true = h refl in let g : ⊥ = cc in absurd g
one-unless false true h = omega arith
one-unless false false h = omega arith

out-unsettled : (cs : List Issued) → count_by out_now cs ≤ count_by is_unsettled cs
out-unsettled [] = omega arith
out-unsettled (c ∷ cs) =
    let one : cond (out_now c) 1 0 ≤ cond (is_unsettled c) 1 0 = one-unless (out_now c) (is_unsettled c) (λ e. ap not (out_not_settled c.standing e)) in
    let rest : count_by out_now cs ≤ count_by is_unsettled cs = out-unsettled cs in
    let left : count_by out_now (c ∷ cs) ≡ cond (out_now c) 1 0 + count_by out_now cs = sum_by-cons (λ x. cond (out_now x) 1 0) c cs in
    let right : count_by is_unsettled (c ∷ cs) ≡ cond (is_unsettled c) 1 0 + count_by is_unsettled cs = sum_by-cons (λ x. cond (is_unsettled x) 1 0) c cs in
    omega arith

pub are-cleared : (bytes : List ℕ) (room : ℕ) (xs : List Command) (q q' : Queue) (window : ℕ) → AreCommands bytes room xs q window →
    q'.out.items ≡ q.out.items → q'.unsettled ≡ length q.out.items → ((b : ℕ) → waiting_at q'.sources.items b ≡ []) → ((b : ℕ) → out_at q'.sources.items b ≡ out_at q.sources.items b) →
    AreCommands bytes room (cleared_from (first_place (all_issued bytes xs)) xs) q' window
are-cleared bytes room xs q q' window are out unsettled waits outs =
    let same : length (cleared_from (first_place (all_issued bytes xs)) xs) ≡ length xs = length-cleared (first_place (all_issued bytes xs)) xs in
    let few : length xs ≤ 65535 = are.few in
    let less : count_by out_now (all_issued bytes xs) ≤ count_by is_unsettled (all_issued bytes xs) = out-unsettled (all_issued bytes xs) in
    let now : length q.out.items ≡ count_by out_now (all_issued bytes xs) = ap length are.ordered.out ∙ sym (count-places out_now (all_issued bytes xs)) in
    let before : q.unsettled ≡ count_by is_unsettled (all_issued bytes xs) = are.ordered.unsettled in
    let fits : length bytes + 250 * q.unsettled ≤ room = are.fits in
    let short : length bytes + 250 * q.unsettled ≤ 500 * length xs = are.short in
    record {
      ordered = subst (λ cs. IsQueue cs q') (sym (issued-cleared bytes xs)) (queue-cleared (all_issued bytes xs) q q' are.ordered out unsettled waits outs);
      kept = cleared-kept bytes (first_place (all_issued bytes xs)) xs are.kept;
      few = omega arith;
      fits = omega arith;
      short = omega arith;
      narrow = are.narrow;
    }

-- ---- the first that waits, as the sources tell it

below : (m n : ℕ) → m < n → nat_lt m n ≡ true
below m n h = grind (arith, nat_tests)

and-true : (b : Bool) → (b && true) ≡ b
and-true true = refl
and-true false = refl

pub first-lowest : (cs : List Issued) (q : Queue) (most : ℕ) → IsQueue cs q → length cs < most → lowest_due most q.sources.items q.used.items ≡ position (λ c. is_waiting c.standing) cs
first-lowest cs q most is few =
    lowest_due-is cs q most is
    ∙ position-alike (due_among most cs) (λ c. is_waiting c.standing) cs
    (λ k c _.
    let least : count_out_of (source_of c) cs ≤ length cs = count_by-le-length (λ x. is_out x.standing && (source_of x == source_of c)) cs in
    ap (λ b. is_waiting c.standing && b) (below (count_out_of (source_of c) cs) most (omega arith)) ∙ and-true (is_waiting c.standing))

-- ---- one command after another given up

front-next : (xs : List Command) (i : ℕ) (d : Command) → i < length xs →
    set (map given_up (take i xs) ++ drop i xs) i (given_up (get_or (map given_up (take i xs) ++ drop i xs) i d)) ≡ map given_up (take (suc i) xs) ++ drop (suc i) xs
front-next [] i d within = absurd (omega arith)
front-next (x ∷ xs) zero d within = refl
front-next (x ∷ xs) (suc i) d within = ap (λ ys. given_up x ∷ ys) (front-next xs i d (omega arith))

pub front-more : (xs : List Command) (i : ℕ) (d : Command) → i < length xs →
    set (map given_up (take i xs) ++ drop i xs) i (given_up (get_or (map given_up (take i xs) ++ drop i xs) i d)) ≡ map given_up (take (i + 1) xs) ++ drop (i + 1) xs
front-more xs i d within = front-next xs i d within ∙ (let more : suc i ≡ i + 1 = omega arith in ap (λ n. map given_up (take n xs) ++ drop n xs) more)

pub front-length : (xs : List Command) (i : ℕ) → length (map given_up (take i xs) ++ drop i xs) ≡ length xs
front-length xs zero = refl
front-length [] (suc i) = refl
front-length (x ∷ xs) (suc i) = ap suc (front-length xs i)

-- ---- what is written back to a row that keeps its length

drop-all : {A : Type 0} (xs : List A) (n : ℕ) → length xs ≤ n → drop n xs ≡ []
drop-all [] zero past = refl
drop-all [] (suc n) past = refl
drop-all (x ∷ xs) zero past = absurd (omega arith)
drop-all (x ∷ xs) (suc n) past = drop-all xs n (omega arith)

take-whole : {A : Type 0} (xs : List A) → take (length xs) (xs ++ []) ≡ xs
take-whole [] = refl
take-whole (x ∷ xs) = ap (λ ys. x ∷ ys) (take-whole xs)

pub written-back : {A : Type 0} (new xs : List A) (n : ℕ) → length new ≡ length xs → n ≡ length xs → take n (new ++ drop (length new) xs) ≡ new
written-back new xs n same all =
    ap (λ ys. take n (new ++ ys)) (drop-all xs (length new) (omega arith)) ∙ ap (λ m. take m (new ++ [])) (all ∙ sym same) ∙ take-whole new
