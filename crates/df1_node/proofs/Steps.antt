-- The commands as an initiator keeps them, step by step.
use Rattle.std.proofs.Common.{◌≡◌, ◌<◌, ◌≤◌, ℕ, suc, zero, ◌+◌, ◌-◌, ◌*◌, ◌∙◌, Bool, Option, true, false, ◌||◌, ◌==◌, cond, List, [], ◌∷◌, ◌++◌, map, length, get_or, set, position, remove, Some, None, is_some, refl, sym, ap, subst, arith, slice_get, length-append, length-set}
use Rattle.std.specs.Option.{option_map, option_map_or}
use Rattle.std.specs.List.{All, list_any}
use Rattle.std.proofs.lemmas.List.{map_push, length_push}
use Rattle.std.proofs.lemmas.List.Elements.{All-push, All-set}
use Rattle.std.proofs.lemmas.Bool.{eqb-true}
use Rattle.std.proofs.lemmas.Bool.Decides.{nat_tests}
use Rattle.df1_base.specs.Host.{IsBody}
use Rattle.df1_node.specs.declared.issued.Command.{Command}
use Rattle.df1_node.specs.declared.issued.State.{State}
use Rattle.df1_node.specs.declared.issued.State.TheVariants as stands
use Rattle.df1_node.specs.declared.queue.Queue.{Queue}
use Rattle.df1_node.specs.Initiator.{InitiatorState, Standing, Waiting, Answered, Undelivered, Issued, is_settled, restated, source_of, is_out_at, answered_place, after_reply, after_give_up}
use Rattle.df1_node.specs.Commands.{AreCommands, IsKept, IsStateKept, all_issued, issued_of, part_of, standing_of}
use Rattle.df1_node.specs.Queue.{places, out_now, waiting_at, out_at, IsQueue}
use Rattle.df1_node.specs.HostLaws.{position-cons}
use Rattle.df1_node.proofs.Kept.{part_behind, part_new, IsPart-new, all_issued-more, all_kept-more}
use Rattle.df1_node.proofs.Places.{places-within}
use Rattle.df1_node.proofs.Ordered.{may-settle, queue-settled}

-- ---- a command at its place

pub length-issued : (bytes : List ℕ) (xs : List Command) → length (all_issued bytes xs) ≡ length xs
length-issued bytes [] = refl
length-issued bytes (x ∷ xs) = ap suc (length-issued bytes xs)

pub at-issued : (bytes : List ℕ) (xs : List Command) (p : ℕ) (r : Command) → r ≡ get_or xs p r → p < length xs → slice_get (all_issued bytes xs) p ≡ Some (issued_of bytes r)
at-issued bytes [] p r e within = absurd (omega arith)
at-issued bytes (x ∷ xs) zero r e within = ap (λ c. Some (issued_of bytes c)) (sym e)
at-issued bytes (x ∷ xs) (suc p) r e within = at-issued bytes xs p r e (omega arith)

pub get-at : (ps : List ℕ) (k : ℕ) → k < length ps → slice_get ps k ≡ Some (get_or ps k 0)
get-at [] k within = absurd (omega arith)
get-at (p ∷ ps) zero within = refl
get-at (p ∷ ps) (suc k) within = get-at ps k (omega arith)

pub get-within : (ps : List ℕ) (k p : ℕ) → slice_get ps k ≡ Some p → k < length ps
get-within [] k p e = absurd (let f : ⊥ = cc in f)
get-within (q ∷ ps) zero p e = omega arith
get-within (q ∷ ps) (suc k) p e = let h : k < length ps = get-within ps k p e in omega arith

-- the place of a command that is out is that of a command
pub out-within : (bytes : List ℕ) (room : ℕ) (xs : List Command) (q : Queue) (window p k : ℕ) → AreCommands bytes room xs q window → slice_get q.out.items k ≡ Some p → p < length xs
out-within bytes room xs q window p k are there =
    subst (λ l. p < l) (length-issued bytes xs) (places-within out_now (all_issued bytes xs) p k (sym (ap (λ ps. slice_get ps k) are.ordered.out) ∙ there))

pub kept_here : (bytes : List ℕ) (xs : List Command) (p : ℕ) (r : Command) → All (IsKept bytes) xs → r ≡ get_or xs p r → p < length xs → IsKept bytes r
kept_here bytes xs p r kept e within = subst (IsKept bytes) (sym e) (kept p r within)

pub restated-set : (bytes : List ℕ) (xs : List Command) (p : ℕ) (r k : Command) (s : Standing) → r ≡ get_or xs p r → issued_of bytes k ≡ record (issued_of bytes r) { standing = s } → all_issued bytes (set xs p k) ≡ restated (all_issued bytes xs) p s
restated-set bytes [] p r k s e is = refl
restated-set bytes (x ∷ xs) zero r k s e is = ap (λ c. c ∷ all_issued bytes xs) (is ∙ ap (λ y. record (issued_of bytes y) { standing = s }) e)
restated-set bytes (x ∷ xs) (suc p) r k s e is = ap (λ cs. issued_of bytes x ∷ cs) (restated-set bytes xs p r k s e is)

-- ---- a command in another state, and the order that fits it

pub are-set : (bytes : List ℕ) (room : ℕ) (xs : List Command) (q q' : Queue) (window p : ℕ) (r : Command) (s : State) → AreCommands bytes room xs q window → r ≡ get_or xs p r → p < length xs → IsStateKept bytes s →
    IsQueue (restated (all_issued bytes xs) p (standing_of bytes s)) q' → q'.unsettled ≤ q.unsettled → AreCommands bytes room (set xs p (record r { state = s })) q' window
are-set bytes room xs q q' window p r s are e within is ordered fewer =
    let k : Command = record r { state = s } in
    let same : length (set xs p k) ≡ length xs = length-set xs p k in
    let few : length xs ≤ 65535 = are.few in
    let fits : length bytes + 250 * q.unsettled ≤ room = are.fits in
    let short : length bytes + 250 * q.unsettled ≤ 500 * length xs = are.short in
    record {
      ordered = subst (λ cs. IsQueue cs q') (sym (restated-set bytes xs p r k (standing_of bytes s) e refl)) ordered;
      kept = All-set (IsKept bytes) xs p k (record { body = (kept_here bytes xs p r are.kept e within).body; state = is }) are.kept;
      few = omega arith;
      fits = omega arith;
      short = omega arith;
      narrow = are.narrow;
    }

-- one that was out is settled
pub are-settled : (bytes : List ℕ) (room : ℕ) (xs : List Command) (q q' : Queue) (window p k source : ℕ) (r : Command) (s : State) → AreCommands bytes room xs q window → r ≡ get_or xs p r → slice_get q.out.items k ≡ Some p →
    IsStateKept bytes s → is_settled (standing_of bytes s) ≡ true → source ≡ source_of (issued_of bytes r) →
    q'.out.items ≡ remove q.out.items k → q'.unsettled + 1 ≡ q.unsettled → ((b : ℕ) → waiting_at q'.sources.items b ≡ waiting_at q.sources.items b) →
    ((b : ℕ) → out_at q'.sources.items b ≡ cond (source == b) (out_at q.sources.items b - 1) (out_at q.sources.items b)) → q'.used.items ≡ q.used.items →
    AreCommands bytes room (set xs p (record r { state = s })) q' window
are-settled bytes room xs q q' window p k source r s are e there is settled known out unsettled waits outs used =
    let within : p < length xs = out-within bytes room xs q window p k are there in
    are-set bytes room xs q q' window p r s are e within is
    (queue-settled (all_issued bytes xs) q q' p k (issued_of bytes r) (standing_of bytes s) are.ordered (at-issued bytes xs p r e within) there settled out unsettled waits
    (λ b. outs b ∙ ap (λ (x : ℕ). cond (x == b) (out_at q.sources.items b - 1) (out_at q.sources.items b)) known) used)
    (omega arith)

pub settles : (bytes : List ℕ) (room : ℕ) (xs : List Command) (q : Queue) (window p k source : ℕ) (r : Command) → AreCommands bytes room xs q window → r ≡ get_or xs p r → slice_get q.out.items k ≡ Some p → source ≡ source_of (issued_of bytes r) →
    (0 < out_at q.sources.items source) × (0 < q.unsettled)
settles bytes room xs q window p k source r are e there known =
    let within : p < length xs = out-within bytes room xs q window p k are there in
    let may : (0 < out_at q.sources.items (source_of (issued_of bytes r))) × (0 < q.unsettled) = may-settle (all_issued bytes xs) q p k (issued_of bytes r) are.ordered (at-issued bytes xs p r e within) there in
    (subst (λ b. 0 < out_at q.sources.items b) (sym known) may.0, may.1)

-- one that was out is answered, and the reply is added to the bytes
pub issued_answered : (bytes more : List ℕ) (xs : List Command) (p : ℕ) (r : Command) → All (IsKept bytes) xs → r ≡ get_or xs p r →
    all_issued (bytes ++ more) (set xs p (record r { state = stands.Answered (part_behind bytes more) })) ≡ restated (all_issued bytes xs) p (Answered more)
issued_answered bytes more xs p r is e =
    let answer : List ℕ → Issued = λ reply. record { body = part_of (bytes ++ more) r.body; standing = Answered reply } in
    restated-set (bytes ++ more) xs p r (record r { state = stands.Answered (part_behind bytes more) }) (Answered more) e (ap answer (part_new bytes more))
    ∙ ap (λ cs. restated cs p (Answered more)) (all_issued-more bytes more xs is)

pub are-answered : (bytes more : List ℕ) (room room' : ℕ) (xs : List Command) (q q' : Queue) (window p k source : ℕ) (r : Command) → AreCommands bytes room xs q window → IsBody more → r ≡ get_or xs p r → slice_get q.out.items k ≡ Some p → room ≤ room' → source ≡ source_of (issued_of bytes r) →
    q'.out.items ≡ remove q.out.items k → q'.unsettled + 1 ≡ q.unsettled → ((b : ℕ) → waiting_at q'.sources.items b ≡ waiting_at q.sources.items b) →
    ((b : ℕ) → out_at q'.sources.items b ≡ cond (source == b) (out_at q.sources.items b - 1) (out_at q.sources.items b)) → q'.used.items ≡ q.used.items →
    AreCommands (bytes ++ more) room' (set xs p (record r { state = stands.Answered (part_behind bytes more) })) q' window
are-answered bytes more room room' xs q q' window p n source r are body e there wider known out unsettled waits outs used =
    let k : Command = record r { state = stands.Answered (part_behind bytes more) } in
    let within : p < length xs = out-within bytes room xs q window p n are there in
    let is_more : length (bytes ++ more) ≡ length bytes + length more = length-append bytes more in
    let same : length (set xs p k) ≡ length xs = length-set xs p k in
    let few : length xs ≤ 65535 = are.few in
    let size : length more ≤ 250 = body.1 in
    let fits : length bytes + 250 * q.unsettled ≤ room = are.fits in
    let short : length bytes + 250 * q.unsettled ≤ 500 * length xs = are.short in
    record {
      ordered =
          subst (λ cs. IsQueue cs q') (sym (issued_answered bytes more xs p r are.kept e))
          (queue-settled (all_issued bytes xs) q q' p n (issued_of bytes r) (Answered more) are.ordered (at-issued bytes xs p r e within) there refl out unsettled waits
          (λ b. outs b ∙ ap (λ (x : ℕ). cond (x == b) (out_at q.sources.items b - 1) (out_at q.sources.items b)) known) used);
      kept = All-set (IsKept (bytes ++ more)) xs p k (record { body = (kept_here (bytes ++ more) xs p r (all_kept-more bytes more xs are.kept) e within).body; state = IsPart-new bytes more body }) (all_kept-more bytes more xs are.kept);
      few = omega arith;
      fits = omega arith;
      short = omega arith;
      narrow = are.narrow;
    }

-- ---- a command more

pub issued_push : (bytes more : List ℕ) (xs : List Command) → All (IsKept bytes) xs →
    all_issued (bytes ++ more) (xs ++ record { body = part_behind bytes more; state = stands.Waiting } ∷ []) ≡ all_issued bytes xs ++ record { body = more; standing = Waiting } ∷ []
issued_push bytes more xs is =
    let pushed : List ℕ → Issued = λ b. record { body = b; standing = Waiting } in
    map_push (issued_of (bytes ++ more)) xs (record { body = part_behind bytes more; state = stands.Waiting })
    ∙ ap (λ cs. cs ++ issued_of (bytes ++ more) (record { body = part_behind bytes more; state = stands.Waiting }) ∷ []) (all_issued-more bytes more xs is)
    ∙ ap (λ b. all_issued bytes xs ++ pushed b ∷ []) (part_new bytes more)

pub are-push : (bytes more : List ℕ) (room room' : ℕ) (xs : List Command) (q q' : Queue) (window : ℕ) → AreCommands bytes room xs q window → IsBody more → length xs < 65535 →
    IsQueue (all_issued bytes xs ++ record { body = more; standing = Waiting } ∷ []) q' → q'.unsettled ≡ q.unsettled + 1 →
    length bytes + 250 * (q.unsettled + 2) ≤ room' → AreCommands (bytes ++ more) room' (xs ++ record { body = part_behind bytes more; state = stands.Waiting } ∷ []) q' window
are-push bytes more room room' xs q q' window are body few ordered unsettled fits =
    let k : Command = record { body = part_behind bytes more; state = stands.Waiting } in
    let is_more : length (bytes ++ more) ≡ length bytes + length more = length-append bytes more in
    let is_suc : length (xs ++ k ∷ []) ≡ length xs + 1 = length_push xs k in
    let size : length more ≤ 250 = body.1 in
    let short : length bytes + 250 * q.unsettled ≤ 500 * length xs = are.short in
    record {
      ordered = subst (λ cs. IsQueue cs q') (sym (issued_push bytes more xs are.kept)) ordered;
      kept = All-push (IsKept (bytes ++ more)) xs k (all_kept-more bytes more xs are.kept) (record { body = IsPart-new bytes more body; state = tt });
      few = omega arith;
      fits = omega arith;
      short = omega arith;
      narrow = are.narrow;
    }

-- ---- a place is one of those that are out

some-suc : (o : Option ℕ) → is_some (option_map suc o) ≡ is_some o
some-suc None = refl
some-suc (Some n) = refl

some-either : (b : Bool) (o : Option ℕ) (any : Bool) → is_some o ≡ any → is_some (cond b (Some 0) (option_map suc o)) ≡ (b || any)
some-either true o any e = refl
some-either false o any e = some-suc o ∙ e

pub some-position : (t : ℕ → Bool) (ps : List ℕ) → is_some (position t ps) ≡ list_any t ps
some-position t [] = refl
some-position t (p ∷ ps) = ap is_some (position-cons t p ps) ∙ some-either (t p) (position t ps) (list_any t ps) (some-position t ps)

suc-not-zero : (p : ℕ) → (suc p == 0) ≡ false
suc-not-zero p = grind (arith, nat_tests)

zero-not-suc : (p : ℕ) → (0 == suc p) ≡ false
zero-not-suc p = grind (arith, nat_tests)

same-suc : (p q : ℕ) → (suc p == suc q) ≡ (p == q)
same-suc p q = grind (arith, nat_tests)

none-zero : (ps : List ℕ) → list_any (λ x. x == 0) (map suc ps) ≡ false
none-zero [] = refl
none-zero (p ∷ ps) = ap (λ b. b || list_any (λ x. x == 0) (map suc ps)) (suc-not-zero p) ∙ none-zero ps

any-sucs : (q : ℕ) (ps : List ℕ) → list_any (λ x. x == suc q) (map suc ps) ≡ list_any (λ x. x == q) ps
any-sucs q [] = refl
any-sucs q (p ∷ ps) = ap (λ b. b || list_any (λ x. x == suc q) (map suc ps)) (same-suc p q) ∙ ap (λ b. (p == q) || b) (any-sucs q ps)

any-first : (b : Bool) (ps : List ℕ) → list_any (λ x. x == 0) (cond b (0 ∷ map suc ps) (map suc ps)) ≡ b
any-first true ps = refl
any-first false ps = none-zero ps

any-after : (b : Bool) (q : ℕ) (ps : List ℕ) → list_any (λ x. x == suc q) (cond b (0 ∷ map suc ps) (map suc ps)) ≡ list_any (λ x. x == q) ps
any-after true q ps = ap (λ b. b || list_any (λ x. x == suc q) (map suc ps)) (zero-not-suc q) ∙ any-sucs q ps
any-after false q ps = any-sucs q ps

pub any-place : (t : Issued → Bool) (cs : List Issued) (p : ℕ) → list_any (λ x. x == p) (places t cs) ≡ option_map_or t (slice_get cs p) false
any-place t [] p = refl
any-place t (c ∷ cs) zero = any-first (t c) (places t cs)
any-place t (c ∷ cs) (suc p) = any-after (t c) p (places t cs) ∙ any-place t cs p

-- whether a command is out is told by what is kept
pub out_at_place : (cs : List Issued) (q : Queue) (p : ℕ) → IsQueue cs q → is_some (position (λ x. x == p) q.out.items) ≡ is_out_at cs p
out_at_place cs q p is = some-position (λ x. x == p) q.out.items ∙ ap (list_any (λ x. x == p)) is.out ∙ any-place out_now cs p

suc-of : (o : Option ℕ) (k : ℕ) → option_map suc o ≡ Some (suc k) → o ≡ Some k
suc-of None k e = absurd (let f : ⊥ = cc in f)
suc-of (Some p) k e = ap Some (let f : suc p ≡ suc k = cc in let g : p ≡ k = omega arith in g)

suc-zero : {P : Type 0} (o : Option ℕ) → option_map suc o ≡ Some 0 → P
suc-zero None e = absurd (let f : ⊥ = cc in f)
suc-zero (Some p) e = absurd (let f : suc p ≡ 0 = cc in let g : ⊥ = omega arith in g)

found-here : (b : Bool) (o : Option ℕ) (x p : ℕ) (ps : List ℕ) (k : ℕ) → (x == p) ≡ b → cond b (Some 0) (option_map suc o) ≡ Some k → ((j : ℕ) → o ≡ Some j → slice_get ps j ≡ Some p) → slice_get (x ∷ ps) k ≡ Some p
found-here true o x p ps zero e found rest = ap Some (eqb-true x p e)
found-here true o x p ps (suc k) e found rest = absurd (let f : 0 ≡ suc k = cc in let g : ⊥ = omega arith in g)
found-here false o x p ps zero e found rest = suc-zero o found
found-here false o x p ps (suc k) e found rest = rest k (suc-of o k found)

pub found-at : (p : ℕ) (ps : List ℕ) (k : ℕ) → position (λ x. x == p) ps ≡ Some k → slice_get ps k ≡ Some p
found-at p [] k e = absurd (let f : ⊥ = cc in f)
found-at p (x ∷ ps) k e = found-here (x == p) (position (λ y. y == p) ps) x p ps k refl (sym (position-cons (λ y. y == p) x ps) ∙ e) (λ j there. found-at p ps j there)

-- ---- the initiator after a reply and after a command was given up

pub replies_nothing : (s : InitiatorState) (reply : List ℕ) → answered_place s.issued reply ≡ None → s ≡ after_reply s reply
replies_nothing s reply e = ap (λ o. record s { issued = option_map_or (λ place. restated s.issued place (Answered reply)) o s.issued }) (sym e)

pub replies_at : (s : InitiatorState) (reply : List ℕ) (p : ℕ) → answered_place s.issued reply ≡ Some p → record s { issued = restated s.issued p (Answered reply) } ≡ after_reply s reply
replies_at s reply p e = ap (λ o. record s { issued = option_map_or (λ place. restated s.issued place (Answered reply)) o s.issued }) (sym e)

pub gives_up : (s : InitiatorState) (p : ℕ) (b : Bool) → is_out_at s.issued p ≡ b → record s { issued = cond b (restated s.issued p Undelivered) s.issued } ≡ after_give_up s p
gives_up s p b e = ap (λ x. record s { issued = cond x (restated s.issued p Undelivered) s.issued }) (sym e)
