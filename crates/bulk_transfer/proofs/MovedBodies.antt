-- The commands of end a in a rehearsal are the orders of the transfer, and what a station executed of them.
use Rattle.std.proofs.Common.{◌≡◌, ◌∙◌, ℕ, zero, suc, ◌+◌, ◌<◌, Bool, true, false, cond, List, [], ◌∷◌, ◌++◌, length, map, Option, Some, None, refl, sym, ap, ap₂, arith, add-zero, append-nil}
use Rattle.std.specs.Prelude.{All, Contains, count_by, slice_get, slice_index}
use Rattle.std.specs.List.{cons_option, range_with_len}
use Rattle.std.specs.Option.{option_map}
use Rattle.std.proofs.lemmas.List.Elements.{filter_map-append}
use Rattle.std.proofs.lemmas.List.Sums.{sum_by-cons}
use Rattle.std.proofs.lemmas.Option.{same_Some, slice_get-get_or, slice_get-map, some_pair_parts}
use Rattle.script_statement.specs.declared.who.Who.TheVariants.{A, B, M, S}
use Rattle.script_parts.specs.declared.script.Event.{Event}
use Rattle.script_parts.specs.declared.script.Event.TheVariants as event
use Rattle.script_parts.specs.declared.script.Script.{Script}
use Rattle.script_parts.specs.Playable.{issues}
use Rattle.df1_node.specs.Answer.{StationState, after_answer, reply_to}
use Rattle.each_once.specs.Commands.{Request, command_body, command_bodies}
use Rattle.each_once.specs.Exchanges.{exchanges}
use Rattle.each_once.proofs.StationReplies.{exchanges-bodies}
use Rattle.each_once.proofs.Sublists.{from-map}
use Rattle.duplex_line.specs.Issues.{commands_of_a, request_at, requests_in}
use Rattle.duplex_line.specs.Run.{plan_of_a, plan_of_b}
use Rattle.bulk_orders.specs.Orders.{orders_of}
use Rattle.bulk_transfer.specs.Rehearsal.{all_orders, issued_at, with_orders}

-- ---- what end a issues

silent-event : (node : ℕ) (e : Event) → issues A e ≡ false → request_at A node e ≡ None
silent-event node (event.Issue A src dst payload) none = absurd cc
silent-event node (event.Issue B src dst payload) none = refl
silent-event node (event.Issue M src dst payload) none = refl
silent-event node (event.Issue (S station) src dst payload) none = refl
silent-event node (event.Take who n) none = refl
silent-event node (event.Deliver lane n) none = refl
silent-event node (event.Lose lane n) none = refl
silent-event node (event.Alter lane mask) none = refl
silent-event node (event.Foreign lane bytes) none = refl
silent-event node (event.Tick who n) none = refl

none-here : (here : Bool) (later : ℕ) → cond here 1 0 + later ≡ 0 → (here ≡ false) × (later ≡ 0)
none-here true later none = absurd (omega (arith, none))
none-here false later none = (refl, omega (arith, none))

none-issued : (node : ℕ) (events : List Event) → count_by (issues A) events ≡ 0 → requests_in A node events ≡ []
none-issued node [] none = refl
none-issued node (e ∷ events) none =
    let both = none-here (issues A e) (count_by (issues A) events) (sym (sum_by-cons (λ (x : Event). cond (issues A x) 1 0) e events) ∙ none) in
    ap₂ (λ (o : Option Request) (rs : List Request). cons_option o rs) (silent-event node e both.0) (none-issued node events both.1)

abbrev pub request_of : ℕ → ℕ → List ℕ → Request
request_of src dst payload = record { src = src; dst = dst; payload = payload }

orders-requested : (node dst : ℕ) (payloads : List (List ℕ)) → requests_in A node (issued_at dst payloads) ≡ map (request_of node dst) payloads
orders-requested node dst [] = refl
orders-requested node dst (payload ∷ payloads) = ap (λ (rs : List Request). request_of node dst payload ∷ rs) (orders-requested node dst payloads)

all-requested : (node dst : ℕ) (payloads : List (List ℕ)) (events : List Event) → count_by (issues A) events ≡ 0 → requests_in A node (issued_at dst payloads ++ events) ≡ map (request_of node dst) payloads
all-requested node dst payloads events none =
    filter_map-append (request_at A node) (issued_at dst payloads) events
    ∙ ap₂ (λ (xs ys : List Request). xs ++ ys) (orders-requested node dst payloads) (none-issued node events none)
    ∙ append-nil (map (request_of node dst) payloads)

-- the bodies of so many orders, from order j on, as commands from a number on
abbrev pub order_bodies : (ℕ → List ℕ) → ℕ → ℕ → ℕ → ℕ → ℕ → List (List ℕ)
order_bodies order src dst number j count = command_bodies number (map (request_of src dst) (map order (range_with_len j count)))

pub commands-are : (script : Script) (order : ℕ → List ℕ) (words : ℕ) → count_by (issues A) script.events ≡ 0 →
    commands_of_a (with_orders script (all_orders order words)) ≡ order_bodies order (plan_of_a script).node (plan_of_b script).node (plan_of_a script).tns 1 (orders_of words)
commands-are script order words none =
    ap (command_bodies (plan_of_a script).tns) (all-requested (plan_of_a script).node (plan_of_b script).node (all_orders order words) script.events none)

-- ---- the body of each order

pub body-at : (order : ℕ → List ℕ) (src dst number j count k : ℕ) (body : List ℕ) → slice_get (order_bodies order src dst number j count) k ≡ Some body → (k < count) × (body ≡ command_body (number + k) (request_of src dst (order (j + k))))
body-at order src dst number j zero k body is = absurd cc
body-at order src dst number j (suc count) zero body is =
    (omega arith, sym (same_Some _ _ is) ∙ ap₂ (λ (n i : ℕ). command_body n (request_of src dst (order i))) (sym (add-zero number)) (sym (add-zero j)))
body-at order src dst number j (suc count) (suc k) body is =
    let later = body-at order src dst (number + 1) (j + 1) count k body is in
    let at : number + 1 + k ≡ number + suc k = omega arith in
    let order_at : j + 1 + k ≡ j + suc k = omega arith in
    (omega (arith, later.0), later.1 ∙ ap₂ (λ (n i : ℕ). command_body n (request_of src dst (order i))) at order_at)

pub length-bodies : (order : ℕ → List ℕ) (src dst number j count : ℕ) → length (order_bodies order src dst number j count) ≡ count
length-bodies order src dst number j zero = refl
length-bodies order src dst number j (suc count) = ap suc (length-bodies order src dst (number + 1) (j + 1) count)

-- all are of one source
pub one-source : (order : ℕ → List ℕ) (src dst number j count : ℕ) → All (λ body. slice_index body 1 ≡ src) (order_bodies order src dst number j count)
one-source order src dst number j count k d inside =
    let bodies = order_bodies order src dst number j count in
    ap (λ (body : List ℕ). slice_index body 1) (body-at order src dst number j count k _ (slice_get-get_or bodies k d inside)).1

-- ---- what is executed

-- what is executed stands among the commands, at one of the places
pub executed-at : (executed bodies : List (List ℕ)) (places : List ℕ) → map Some executed ≡ map (slice_get bodies) places → (m : ℕ) (body : List ℕ) → slice_get executed m ≡ Some body
    → (p : ℕ) × (slice_get places m ≡ Some p) × (slice_get bodies p ≡ Some body)
executed-at executed bodies places are m body is =
    from-map (slice_get bodies) places m (Some body) (ap (λ (os : List (Option (List ℕ))). slice_get os m) (sym are) ∙ slice_get-map Some executed m ∙ ap (option_map Some) is)

-- an exchange is of a command that is executed
pub exchange-body : (station : StationState) (executed : List (List ℕ)) (m : ℕ) (body reply : List ℕ) → slice_get (exchanges station executed) m ≡ Some (body, reply) → slice_get executed m ≡ Some body
exchange-body station executed m body reply is =
    ap (λ (bodies : List (List ℕ)). slice_get bodies m) (sym (exchanges-bodies station executed)) ∙ slice_get-map (λ (e : List ℕ × List ℕ). e.0) (exchanges station executed) m ∙ ap (option_map (λ (e : List ℕ × List ℕ). e.0)) is

pub exchange-at : (station : StationState) (executed : List (List ℕ)) (body reply : List ℕ) → Contains (exchanges station executed) (body, reply)
    → (m : ℕ) × (slice_get executed m ≡ Some body) × (slice_get (exchanges station executed) m ≡ Some (body, reply))
exchange-at station executed body reply among =
    let is : slice_get (exchanges station executed) among.0 ≡ Some (body, reply) = slice_get-get_or (exchanges station executed) among.0 (body, reply) among.1 ∙ ap Some among.2 in
    (among.0, exchange-body station executed among.0 body reply is, is)

-- where no command changes the station, each reply is what it answers as it is
pub still-replies : (station : StationState) (executed : List (List ℕ)) → ((m : ℕ) (body : List ℕ) → slice_get executed m ≡ Some body → after_answer station body ≡ station)
    → (m : ℕ) (body reply : List ℕ) → slice_get (exchanges station executed) m ≡ Some (body, reply) → reply ≡ reply_to station body
still-replies station [] still m body reply is = absurd cc
still-replies station (x ∷ xs) still zero body reply is =
    let parts = some_pair_parts x body (reply_to station x) reply is in
    sym parts.1 ∙ ap (reply_to station) parts.0
still-replies station (x ∷ xs) still (suc m) body reply is =
    still-replies station xs (λ k later at. still (suc k) later at) m body reply (ap (λ (s : StationState). slice_get (exchanges s xs) m) (sym (still 0 x refl)) ∙ is)
