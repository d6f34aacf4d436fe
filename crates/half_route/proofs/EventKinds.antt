-- The events of a route, by what they do: a station issues a command, or what happens on every half-duplex line.
use Rattle.std.proofs.Common.{◌≡◌, ℕ, ◌+◌, ◌≤◌, Bool, true, false, List, [], ◌∷◌, Option, Some, None, cond, refl, arith}
use Rattle.std.specs.Prelude.{IsTrue, ◌&&◌}
use Rattle.df1_node.specs.Node.{NodeState}
use Rattle.station_router.specs.Router.{RouterState}
use Rattle.half_master.specs.Master.{MasterState}
use Rattle.script_statement.specs.declared.who.Who.TheVariants.{A, B, M, S}
use Rattle.script_statement.specs.Statements.{is_payload}
use Rattle.script_parts.specs.declared.script.Event.{Event}
use Rattle.script_parts.specs.declared.script.Event.TheVariants as event
use Rattle.script_parts.specs.HalfPlayable.{IsHalfPossible, is_declared}
use Rattle.script_parts.specs.RoutePlayable.{IsRoutePossible, is_issue_of, is_reached}
use Rattle.each_once.specs.Commands.{Request}
use Rattle.half_line.specs.Behind.{routed_node}
use Rattle.half_line.specs.Issues as line_issues
use Rattle.half_line.specs.Plays as line
use Rattle.half_route.specs.Once.{request_at}
use Rattle.half_route.specs.Run.{IsNext, Routed, after_event}
use Rattle.std.specs.List.{filter_map}
use Rattle.script_statement.specs.declared.who.Who.{Who}

-- what an end of this address issues at these events, in its own name
abbrev pub requests_in : Who → ℕ → List Event → List Request
requests_in who node events = filter_map (request_at who node) events

-- an event of every half-duplex line: no station issues at it, and the master only in its own name
pub record IsOfLine (numbers : List ℕ) (e : Event) : Type 0 where
  pub after : (p : Routed) → after_event p e ≡ line.played routed_node p e
  pub next : (p : Routed) → line.IsNext routed_node p e → IsNext p e
  pub possible : IsHalfPossible numbers e
  pub none : (number node : ℕ) → requests_in (S number) node (e ∷ []) ≡ []
  pub own : (node : ℕ) → line_issues.requests_in node (e ∷ []) ≡ requests_in M node (e ∷ [])
  pub unspent : (m : MasterState (RouterState NodeState)) → line.issued_by routed_node m + cond (is_issue_of M e) 1 0 ≤ 65535 → line.IsUnspent routed_node m e

pub data Kind (numbers : List ℕ) : Event → Type 0 where
  OfLine : {e : Event} → IsOfLine numbers e → Kind numbers e
  OfStation : (number : ℕ) (src : Option ℕ) (dst : ℕ) (payload : List ℕ) → IsTrue (is_declared numbers number) → IsTrue (is_payload payload) → Kind numbers (event.Issue (S number) src dst payload)

left : (a b : Bool) → IsTrue (a && b) → IsTrue a
left true b h = refl
left false b h = absurd cc

-- each event that may happen is of one of them
pub kind-of : (numbers : List ℕ) (node : ℕ) (e : Event) → IsRoutePossible numbers node e → Kind numbers e
kind-of numbers node (event.Issue A src dst payload) h = absurd (let none = h.0 in cc)
kind-of numbers node (event.Issue B src dst payload) h = absurd (let none = h.0 in cc)
kind-of numbers node (event.Issue M None dst payload) h = OfLine (record { after = λ p. refl; next = λ p is. is; possible = (refl, h.0, h.1); none = λ number own. refl; own = λ own. refl; unspent = λ m few. omega (arith, few) })
kind-of numbers node (event.Issue M (Some src) dst payload) h = absurd (let none = h.0 in cc)
kind-of numbers node (event.Issue (S number) None dst payload) h = OfStation number None dst payload (left (is_declared numbers number) (is_reached numbers node number dst) h.0) h.1
kind-of numbers node (event.Issue (S number) (Some src) dst payload) h = absurd (let none = h.0 in cc)
kind-of numbers node (event.Take who n) h = OfLine (record { after = λ p. refl; next = λ p is. is; possible = h; none = λ number own. refl; own = λ own. refl; unspent = λ m few. tt })
kind-of numbers node (event.Deliver lane n) h = OfLine (record { after = λ p. refl; next = λ p is. is; possible = h; none = λ number own. refl; own = λ own. refl; unspent = λ m few. tt })
kind-of numbers node (event.Lose lane n) h = OfLine (record { after = λ p. refl; next = λ p is. is; possible = h; none = λ number own. refl; own = λ own. refl; unspent = λ m few. tt })
kind-of numbers node (event.Alter lane mask) h = OfLine (record { after = λ p. refl; next = λ p is. is; possible = h; none = λ number own. refl; own = λ own. refl; unspent = λ m few. tt })
kind-of numbers node (event.Foreign lane bytes) h = OfLine (record { after = λ p. refl; next = λ p is. is; possible = h; none = λ number own. refl; own = λ own. refl; unspent = λ m few. tt })
kind-of numbers node (event.Tick who n) h = OfLine (record { after = λ p. refl; next = λ p is. is; possible = h; none = λ number own. refl; own = λ own. refl; unspent = λ m few. tt })
