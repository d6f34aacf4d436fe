use Rattle.std.proofs.Common.{◌≡◌, ℕ, List, Option, false, not, [], ◌∷◌, map, length, slice_get, is_some, nat_eq, subst, sym, ap, ◌∙◌, arith}
use Rattle.std.proofs.lemmas.Bool.Decides.{nat_tests}
use Rattle.std.specs.Option.{option_or}
use Rattle.std.proofs.lemmas.List.Elements.{All-map}
use Rattle.df1_base.specs.Host.{IsBody}
use Rattle.df1_node.specs.Initiator.{next_command}
use Rattle.df1_node.specs.Node.{next_body, holds_bodies}
use Rattle.df1_node.specs.HostLaws.{next_is_body}
use Rattle.df1_node.proofs.node.NodeHost.ready.Goals as goal

-- a reply waits, or no command does
waits : {A : Type 0} (f : A → List ℕ) (replies : List A) (command : Option (List ℕ)) → is_some command ≡ false
    → not (nat_eq (length replies) 0) ≡ is_some (option_or (slice_get (map f replies) 0) command)
waits f [] command none = sym none
waits f (reply ∷ replies) command none = grind (arith, nat_tests)

pub returns-then-ready-clause-holds : goal.returns-then-ready-clause-holds
returns-then-ready-clause-holds c = subst holds_bodies c.self.view_is (All-map IsBody (λ r. r.items) c.self.inside.replies.items c.self.invariant.0, c.ready.ensures.bodies, c.self.invariant.1)

pub returns-else-ready-clause-holds : goal.returns-else-ready-clause-holds
returns-else-ready-clause-holds c = subst holds_bodies c.self.view_is (All-map IsBody (λ r. r.items) c.self.inside.replies.items c.self.invariant.0, c.ready.ensures.bodies, c.self.invariant.1)

pub returns-then-ready-clause-fits : goal.returns-then-ready-clause-fits
returns-then-ready-clause-fits c =
    next_is_body c.args.self.now (subst holds_bodies c.self.view_is (All-map IsBody (λ r. r.items) c.self.inside.replies.items c.self.invariant.0, c.ready.ensures.bodies, c.self.invariant.1))

pub returns-else-ready-clause-fits : goal.returns-else-ready-clause-fits
returns-else-ready-clause-fits c =
    next_is_body c.args.self.now (subst holds_bodies c.self.view_is (All-map IsBody (λ r. r.items) c.self.inside.replies.items c.self.invariant.0, c.ready.ensures.bodies, c.self.invariant.1))

pub returns-else-ready-clause-ready : goal.returns-else-ready-clause-ready
returns-else-ready-clause-ready c =
    ap not c.is_empty.ensures
    ∙ waits (λ r. r.items) c.self.inside.replies.items (next_command c.self.inside.initiator) (sym c.ready.ensures.ready ∙ c.if-ready.false)
    ∙ ap (λ n. is_some (next_body n)) c.self.view_is
