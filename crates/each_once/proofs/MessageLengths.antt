-- That messages have the length that a message may have: 6 to 250 bytes.
use Rattle.std.proofs.Common.{◌≡◌, ◌∙◌, ℕ, zero, suc, ◌≤◌, Bool, true, false, IsTrue, ◌&&◌, ◌==◌, List, [], ◌∷◌, ◌++◌, length, map, Some, option_map, refl, ap, sym, subst, arith}
use Rattle.std.specs.Prelude.{slice_get, bit_and, nat_le}
use Rattle.std.proofs.lemmas.List.Elements.{All-push}
use Rattle.std.specs.List.{filter}
use Rattle.std.specs.Option.{option_or}
use Rattle.std.proofs.lemmas.Bool.{cond_both, leb-true}
use Rattle.std.proofs.lemmas.List.{map-append}
use Rattle.std.proofs.lemmas.Option.{same_Some, slice_get-map}
use Rattle.df1_base.specs.Host.{IsBody}
use Rattle.df1_node.specs.Answer.{StationState, after_answer}
use Rattle.df1_node.specs.HostLaws.{reply-body}
use Rattle.df1_node.specs.Initiator.{Issued, Waiting, InitiatorState, next_issued, next_command, after_issue}
use Rattle.df1_node.specs.Node.{NodeState, next_body, after_node_issue, holds_bodies}
use Rattle.pccc_envelope.specs.Envelope.{is_reply}
use Rattle.script_statement.specs.Statements.{is_payload}
use Rattle.each_once.specs.Exchanges.{exchanges}
use Rattle.each_once.proofs.CommandBodies.{next-first}
use Rattle.each_once.proofs.HandedOrder.{AreAt}
use Rattle.each_once.proofs.HandedOut.{is_command}
use Rattle.each_once.proofs.RepliesSince.{AreReplies}

abbrev pub AreBodies : List (List ℕ) → Type 0
AreBodies [] = Unit {0}
AreBodies (body ∷ bodies) = IsBody body × AreBodies bodies

-- ---- parts of lists of bodies

pub bodies-push : (xs : List (List ℕ)) (x : List ℕ) → AreBodies xs → 6 ≤ length x → length x ≤ 250 → AreBodies (xs ++ x ∷ [])
bodies-push [] x h long short = ((long, short), tt)
bodies-push (y ∷ xs) x h long short = (h.0, bodies-push xs x h.1 long short)

pub bodies-front : (xs ys : List (List ℕ)) → AreBodies (xs ++ ys) → AreBodies xs
bodies-front [] ys h = tt
bodies-front (x ∷ xs) ys h = (h.0, bodies-front xs ys h.1)

bodies-back : (xs ys : List (List ℕ)) → AreBodies (xs ++ ys) → AreBodies ys
bodies-back [] ys h = h
bodies-back (x ∷ xs) ys h = bodies-back xs ys h.1

pub bodies-last : (xs : List (List ℕ)) (x : List ℕ) → AreBodies (xs ++ x ∷ []) → (6 ≤ length x) × (length x ≤ 250)
bodies-last xs x h = (bodies-back xs (x ∷ []) h).0

bodies-filter : (p : List ℕ → Bool) (xs : List (List ℕ)) → AreBodies xs → AreBodies (filter p xs)
bodies-filter p [] h = tt
bodies-filter p (x ∷ xs) h = cond_both (p x) (x ∷ filter p xs) (filter p xs) AreBodies (λ _. (h.0, bodies-filter p xs h.1)) (λ _. bodies-filter p xs h.1)

-- each of them has it
pub body-at : (bodies : List (List ℕ)) (n : ℕ) (body : List ℕ) → AreBodies bodies → slice_get bodies n ≡ Some body → IsBody body
body-at [] n body fits at = absurd cc
body-at (b ∷ bodies) zero body fits at = subst IsBody (same_Some b body at) fits.0
body-at (b ∷ bodies) (suc n) body fits at = body-at bodies n body fits.1 at

-- so have those at some places
pub bodies-at : (bodies : List (List ℕ)) (ps : List ℕ) (xs : List (List ℕ)) → AreBodies bodies → AreAt bodies ps xs → AreBodies xs
bodies-at bodies [] [] fits at = tt
bodies-at bodies [] (x ∷ xs) fits at = absurd at
bodies-at bodies (p ∷ ps) [] fits at = absurd at
bodies-at bodies (p ∷ ps) (x ∷ xs) fits at = (body-at bodies p x fits at.0, bodies-at bodies ps xs fits at.1)

-- ---- what is handed out next: a reply, or a command that was issued

pub replies-fit : (first : StationState) (xs : List (List ℕ)) → length first.block ≤ 244 → AreBodies xs → AreBodies (map (λ e. e.1) (exchanges first xs))
replies-fit first [] few h = tt
replies-fit first (x ∷ xs) few h = (reply-body first x few h.0, replies-fit (after_answer first x) xs few h.1)

command-fits : (s : InitiatorState) (body : List ℕ) → AreBodies (map (λ c. c.body) s.issued) → next_command s ≡ Some body → IsBody body
command-fits s body h next = let first = (next-first s body next).0 in
    subst IsBody first.has_body (body-at (map (λ c. c.body) s.issued) first.place first.command.body h (slice_get-map (λ (c : Issued). c.body) s.issued first.place ∙ ap (option_map (λ (c : Issued). c.body)) first.is_at))

next-of : (replies : List (List ℕ)) (s : InitiatorState) (body : List ℕ) → AreBodies replies → AreBodies (map (λ c. c.body) s.issued) → option_or (slice_get replies 0) (next_command s) ≡ Some body → IsBody body
next-of [] s body replies commands next = command-fits s body commands next
next-of (r ∷ rs) s body replies commands next = subst IsBody (same_Some r body next) replies.0

pub next-fits : (first : StationState) (node : NodeState) (messages heard : List (List ℕ)) → AreReplies first messages heard node.replies → length first.block ≤ 244 → AreBodies heard → AreBodies (map (λ c. c.body) node.initiator.issued) →
    (body : List ℕ) → next_body node ≡ Some body → (6 ≤ length body) × (length body ≤ 250)
next-fits first node messages heard are few hears commands body next =
    let replies = subst AreBodies are (replies-fit first (filter is_command heard) few (bodies-filter is_command heard hears)) in
    next-of node.replies node.initiator body (bodies-back (filter is_reply messages) node.replies replies) commands next

-- ---- a command that is issued

and-left : (a b : Bool) → IsTrue (a && b) → a ≡ true
and-left true b h = refl
and-left false b h = absurd cc

pub payload-fits : (s : InitiatorState) (src dst : ℕ) (payload : List ℕ) → IsTrue (is_payload payload) → IsBody (next_issued s src dst payload)
payload-fits s src dst [] h = absurd cc
payload-fits s src dst (cmd ∷ rest) h =
    let few = leb-true (length (cmd ∷ rest)) 245 (and-left (nat_le (length (cmd ∷ rest)) 245) (bit_and cmd 0x40 == 0) h) in
    (omega arith, omega arith)

pub issued-fits : (s : InitiatorState) (src dst : ℕ) (payload : List ℕ) → AreBodies (map (λ c. c.body) s.issued) → IsTrue (is_payload payload) → AreBodies (map (λ c. c.body) (after_issue s src dst payload).issued)
issued-fits s src dst payload h may =
    let fits = payload-fits s src dst payload may in
    let more = map-append (λ (c : Issued). c.body) s.issued _ in
    subst AreBodies (sym more) (bodies-push (map (λ c. c.body) s.issued) (next_issued s src dst payload) h fits.0 fits.1)

-- a command that is issued fits
pub issue-holds : (node : NodeState) (src dst : ℕ) (payload : List ℕ) → IsTrue (is_payload payload) → holds_bodies node → holds_bodies (after_node_issue node src dst payload)
issue-holds node src dst payload may holds =
    let new : Issued = record { body = next_issued node.initiator src dst payload; standing = Waiting } in
    (holds.0, All-push (λ (c : Issued). IsBody c.body) node.initiator.issued new holds.1 (payload-fits node.initiator src dst payload may), holds.2)
