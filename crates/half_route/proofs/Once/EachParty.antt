-- What held at the end of a run shows of each end: what it executed of each other one, and what became of its commands and replies.
use Rattle.std.proofs.Common.{◌≡◌, ◌∙◌, ℕ, zero, suc, ◌≤◌, true, List, length, Some, ap, sym, subst}
use Rattle.std.specs.Prelude.{slice_get, slice_index, All, Contains}
use Rattle.std.specs.List.{filter}
use Rattle.std.proofs.lemmas.Bool.{eq-eqb}
use Rattle.std.proofs.lemmas.Option.{slice_get-get_or}
use Rattle.pccc_envelope.specs.Envelope.{is_reply, tns_of}
use Rattle.df1_node.specs.Initiator.{Issued, is_reply_to}
use Rattle.df1_node.specs.Node.{NodeState}
use Rattle.station_router.specs.Router.{RouterState}
use Rattle.replay_report.specs.declared.record.Line.{Line}
use Rattle.each_once.specs.Commands.{is_command, command_at}
use Rattle.each_once.specs.Direction.{AreSomeOf}
use Rattle.each_once.specs.Exchanges.{exchanges, station_after}
use Rattle.each_once.specs.OfStation.{is_from}
use Rattle.each_once.specs.Once.{AreApart}
use Rattle.each_once.specs.Tells.{executed_in, answers_in, strays_in, outcomes_in, given_up_in}
use Rattle.each_once.proofs.AcceptedReplies.{tns-place}
use Rattle.each_once.proofs.HandedOut.{bodies_of, waits_of}
use Rattle.each_once.proofs.RisingPlaces.{are-apart, passing-in-turn, some-of-one-source}
use Rattle.each_once.proofs.StationReplies.{fits-fields, fits-tns}
use Rattle.each_once.proofs.Sublists.{Has, IsWithin, within-has, within-filter, has-filter, from-map, contains-at, same-some, all-as}
use Rattle.each_once.proofs.ToldReplies.{body-at, one-outcome, number-told}
use Rattle.half_line.specs.Acts.{HalfState}
use Rattle.half_route.specs.Once.{is_for}
use Rattle.half_route.proofs.Once.EndSteps.{IsTo}
use Rattle.half_route.proofs.Once.FoundCommands.{filter-has, filter-swap, found}
use Rattle.half_route.proofs.Once.Invariant.{Setting, Holds}
use Rattle.half_route.proofs.Once.Parties.{Party, end_of, node_of, accepted_of, sent_of, party-holds, chain, IsFromParty, from-party}
use Rattle.half_route.proofs.Once.Shown.{shown-bodies}
use Rattle.half_route.proofs.Once.Telling.{IsAnswer, IsLate}

-- the bodies of the commands that an end issued
abbrev pub commands_by : {setting : Setting} {s : HalfState (RouterState NodeState)} → Party setting s → List (List ℕ)
commands_by x = bodies_of (node_of x).initiator.issued

-- the commands that an end is told to have executed
abbrev pub executed_by : {setting : Setting} {s : HalfState (RouterState NodeState)} → List Line → Party setting s → List (List ℕ)
executed_by lines x = executed_in (end_of x).who lines

-- ---- what is executed

pub executes : {setting : Setting} {s : HalfState (RouterState NodeState)} {lines : List Line} (h : Holds setting s lines) (t : Party setting s) → executed_by lines t ≡ filter is_command (accepted_of h t)
executes h t = (party-holds h t).tells.executes

pub commands-apart : {setting : Setting} {s : HalfState (RouterState NodeState)} {lines : List Line} (h : Holds setting s lines) (x : Party setting s) → AreApart (commands_by x)
commands-apart h x = let e = party-holds h x in are-apart (node_of x).initiator.tns (node_of x).initiator.issued e.few e.partakes.initiates.numbered

-- in the name of another, in the order in which that one issued it for this one
pub in-order : {setting : Setting} {s : HalfState (RouterState NodeState)} {lines : List Line} (h : Holds setting s lines) (t x : Party setting s)
    → AreSomeOf (filter (is_from (end_of x).address) (executed_by lines t)) (filter (is_for (end_of t).address) (commands_by x))
in-order {setting} {s} {lines} h t x =
    let by = party-holds h t in
    let e = party-holds h x in
    let from = is_from (end_of x).address in
    let for = is_for (end_of t).address in
    let executed = filter is_command (accepted_of h t) in
    let some = filter from executed in
    let within : IsWithin some (filter is_command (sent_of h x)) =
    subst (λ l. IsWithin l (filter is_command (sent_of h x))) (filter-swap is_command from (accepted_of h t)) (within-filter is_command (filter from (accepted_of h t)) (sent_of h x) (chain h t x)) in
    let each : (k : ℕ) (body : List ℕ) → slice_get some k ≡ Some body → for body ≡ true = λ k body at.
    let was = filter-has from executed body (k, at) in
    eq-eqb _ _ (by.to_it was.0.0 body was.0.1) in
    let once = passing-in-turn for some (filter is_command (sent_of h x)) (commands_by x) (waits_of (node_of x).initiator.issued) within e.partakes.initiates.in_order each in
    let one : All (λ body. slice_index body 1 ≡ (end_of x).address) (filter for (commands_by x)) = λ k d inside.
    let was = filter-has for (commands_by x) _ (k, slice_get-get_or (filter for (commands_by x)) k d inside) in
    (e.own was.0.0 _ was.0.1).0 in
    subst (λ l. AreSomeOf (filter from l) (filter for (commands_by x))) (sym (executes h t)) (some-of-one-source some (filter for (commands_by x)) (end_of x).address one once)

-- each was issued by one of the ends
pub executed-from : {setting : Setting} {s : HalfState (RouterState NodeState)} {lines : List Line} (h : Holds setting s lines) (t : Party setting s) (body : List ℕ) → Has (executed_by lines t) body → IsFromParty setting s body
executed-from h t body has =
    let was = filter-has is_command (accepted_of h t) body (subst (λ l. Has l body) (executes h t) has) in
    from-party h t body was.0

-- and they make its tables of the first ones
pub station-made : {setting : Setting} {s : HalfState (RouterState NodeState)} {lines : List Line} (h : Holds setting s lines) (t : Party setting s) → (node_of t).station ≡ station_after (end_of t).first (executed_by lines t)
station-made h t = (party-holds h t).partakes.station ∙ ap (station_after (end_of t).first) (sym (executes h t))

-- ---- replies

-- a reply is what an end answered to command n of this one when it executed that command
pub record IsReplyBy {setting : Setting} {s : HalfState (RouterState NodeState)} (lines : List Line) (x : Party setting s) (number : ℕ) (reply : List ℕ) : Type 0 where
  pub by : Party setting s
  pub body : List ℕ
  pub is_command : command_at (commands_by x) number ≡ Some body
  pub is_for_it : IsTo (end_of by).address body
  pub is_answer : Contains (exchanges (end_of by).first (executed_by lines by)) (body, reply)

reply-at : {setting : Setting} {s : HalfState (RouterState NodeState)} {lines : List Line} (h : Holds setting s lines) (x : Party setting s) (place : ℕ) (body reply : List ℕ) → slice_get (commands_by x) place ≡ Some body → is_reply_to body reply ≡ true → is_reply reply ≡ true
    → Has (accepted_of h x) reply → IsReplyBy lines x (suc place) reply
reply-at {setting} {s} {lines} h x place body reply at fits replies has =
    let e = party-holds h x in
    let source = from-party h x reply has in
    let t = source.party in
    let by = party-holds h t in
    let issued = (node_of x).initiator.issued in
    let to : IsTo (end_of x).address reply = (fits-fields body reply fits).3 ∙ (e.own place body at).0 in
    let theirs = has-filter (is_from (end_of t).address) (accepted_of h x) has.0 reply (eq-eqb _ _ source.from) has.1 in
    let sent = within-has (filter (is_from (end_of t).address) (accepted_of h x)) (sent_of h t) reply (chain h x t) theirs in
    let f = found (node_of x) (node_of t) (accepted_of h x) (sent_of h x) (accepted_of h t) (sent_of h t) reply e by (chain h t x) sent replies to in
    let c = from-map (λ (y : Issued). y.body) issued place body at in
    let tns : tns_of c.0.body ≡ tns_of f.command.body = ap tns_of c.2 ∙ sym (fits-tns body reply fits) ∙ fits-tns f.command.body reply f.fits in
    let same = tns-place (node_of x).initiator.tns issued place f.place c.0 f.command e.partakes.initiates.numbered e.few c.1 f.is_at tns in
    let one : c.0 ≡ f.command = same-some c.0 f.command (sym c.1 ∙ ap (slice_get issued) same ∙ f.is_at) in
    let is : f.command.body ≡ body = ap (λ (y : Issued). y.body) (sym one) ∙ c.2 in
    record {
      by = t;
      body = body;
      is_command = at;
      is_for_it = subst (IsTo (end_of t).address) is f.to_it;
      is_answer = subst (λ (l : List (List ℕ)). Contains (exchanges (end_of t).first l) (body, reply)) (sym (executes h t))
          (subst (λ (b : List ℕ). Contains (exchanges (end_of t).first (filter is_command (accepted_of h t))) (b, reply)) is
          (contains-at (exchanges (end_of t).first (filter is_command (accepted_of h t))) f.at (f.command.body, reply) f.exchanged));
    }

reply-by : {setting : Setting} {s : HalfState (RouterState NodeState)} {lines : List Line} (h : Holds setting s lines) (x : Party setting s) (number : ℕ) (body reply : List ℕ) → command_at (commands_by x) number ≡ Some body → is_reply_to body reply ≡ true → is_reply reply ≡ true
    → Has (accepted_of h x) reply → IsReplyBy lines x number reply
reply-by h x zero body reply at fits replies has = absurd cc
reply-by h x (suc place) body reply at fits replies has = reply-at h x place body reply at fits replies has

pub answers : {setting : Setting} {s : HalfState (RouterState NodeState)} {lines : List Line} (h : Holds setting s lines) (x : Party setting s) → All (λ a. IsReplyBy lines x a.0 a.1) (answers_in (end_of x).who lines)
answers {setting} {s} {lines} h x =
    let e = party-holds h x in
    all-as (λ a. IsAnswer (commands_by x) (accepted_of h x) a.0 a.1) (λ a. IsReplyBy lines x a.0 a.1) (answers_in (end_of x).who lines)
    (λ a is. reply-by h x a.0 is.body a.1 is.is_command is.fits is.is_a_reply is.is_accepted) e.tells.answered

-- of each command one outcome is told at most
pub one-told : {setting : Setting} {s : HalfState (RouterState NodeState)} {lines : List Line} (h : Holds setting s lines) (x : Party setting s) (n : ℕ) → length (outcomes_in (end_of x).who n lines) ≤ 1
one-told {setting} {s} {lines} h x n = let e = party-holds h x in one-outcome (end_of x).who e.tells.shown lines e.tells.outcomes n

-- a stray reply is to a command that is told as given up
pub record IsStrayBy {setting : Setting} {s : HalfState (RouterState NodeState)} (lines : List Line) (x : Party setting s) (reply : List ℕ) : Type 0 where
  pub number : ℕ
  pub replies : IsReplyBy lines x number reply
  pub is_given_up : Contains (given_up_in (end_of x).who lines) number

stray-by : {setting : Setting} {s : HalfState (RouterState NodeState)} {lines : List Line} (h : Holds setting s lines) (x : Party setting s) (reply : List ℕ) → IsLate (party-holds h x).tells.shown (accepted_of h x) reply → IsStrayBy lines x reply
stray-by {setting} {s} {lines} h x reply late =
    let e = party-holds h x in
    let issued = (node_of x).initiator.issued in
    let at : command_at (commands_by x) late.number ≡ Some late.command.body =
    ap (λ bodies. command_at bodies late.number) (sym (shown-bodies (filter is_command (sent_of h x)) issued e.tells.shown e.tells.are_shown)) ∙ body-at e.tells.shown late.number late.command late.is_command in
    record {
      number = late.number;
      replies = reply-by h x late.number late.command.body reply at late.fits late.is_a_reply late.is_accepted;
      is_given_up = number-told (end_of x).who e.tells.shown lines late.number late.command e.tells.outcomes late.is_command late.given_up;
    }

pub strays : {setting : Setting} {s : HalfState (RouterState NodeState)} {lines : List Line} (h : Holds setting s lines) (x : Party setting s) → All (IsStrayBy lines x) (strays_in (end_of x).who lines)
strays {setting} {s} {lines} h x =
    let e = party-holds h x in
    all-as (IsLate e.tells.shown (accepted_of h x)) (IsStrayBy lines x) (strays_in (end_of x).who lines) (λ reply late. stray-by h x reply late) e.tells.astray
