-- That a node's commands have the bodies of what was issued, and that each of its steps keeps them.
use Rattle.std.proofs.Common.{◌≡◌, ◌∙◌, ℕ, ◌+◌, Bool, true, false, cond, List, [], ◌∷◌, ◌++◌, length, map, is_some, slice_get, refl, ap, ap₂, sym, arith, add-zero}
use Rattle.std.proofs.lemmas.List.{map-append, length-map}
use Rattle.df1_base.specs.declared.host.Fate.{Fate}
use Rattle.df1_base.specs.declared.host.Fate.TheVariants as fate
use Rattle.pccc_envelope.specs.Envelope.{is_reply}
use Rattle.df1_node.specs.declared.handed.Handed.{Handed}
use Rattle.df1_node.specs.declared.handed.Handed.TheVariants as handed
use Rattle.df1_node.specs.Initiator.{Issued, Waiting, InitiatorState, after_reply, after_hand_out, after_issue, next_issued}
use Rattle.df1_node.specs.Node.{NodeState, after_accept, after_next, after_told, after_tick, initiator_after}
use Rattle.each_once.specs.Commands.{Request, command_body, command_bodies}
use Rattle.each_once.proofs.CommandBodies.{bodies-accept, bodies-after_told, bodies-after_tick, bodies-next}

-- ---- the same commands

-- the same node, the same numbers, and commands of the same bodies
pub record SameCommands (s t : InitiatorState) : Type 0 where
  pub node : t.node ≡ s.node
  pub tns : t.tns ≡ s.tns
  pub bodies : map (λ c. c.body) t.issued ≡ map (λ c. c.body) s.issued

pub same-itself : (s : InitiatorState) → SameCommands s s
same-itself s = record { node = refl; tns = refl; bodies = refl }

pub same-both : (s t u : InitiatorState) → SameCommands s t → SameCommands t u → SameCommands s u
same-both s t u first second = record { node = second.node ∙ first.node; tns = second.tns ∙ first.tns; bodies = second.bodies ∙ first.bodies }

accepted-node : (reply : Bool) (s : InitiatorState) (body : List ℕ) → ((cond reply (after_reply s body) s).node ≡ s.node) × ((cond reply (after_reply s body) s).tns ≡ s.tns)
accepted-node true s body = (refl, refl)
accepted-node false s body = (refl, refl)

pub same-accept : (node : NodeState) (body : List ℕ) → SameCommands node.initiator (after_accept node body).initiator
same-accept node body = let at = accepted-node (is_reply body) node.initiator body in record { node = at.0; tns = at.1; bodies = bodies-accept node body }

told-node : (s : InitiatorState) (last : Handed) → ((initiator_after s last).node ≡ s.node) × ((initiator_after s last).tns ≡ s.tns)
told-node s handed.Nothing = (refl, refl)
told-node s handed.Reply = (refl, refl)
told-node s (handed.Command place) = (refl, refl)

pub same-told : (what : Fate) (node : NodeState) → SameCommands node.initiator (after_told node what).initiator
same-told fate.Delivered node = same-itself node.initiator
same-told fate.Undelivered node = let at = told-node node.initiator node.last in record { node = at.0; tns = at.1; bodies = bodies-after_told node fate.Undelivered }

pub same-tick : (node : NodeState) → SameCommands node.initiator (after_tick node).initiator
same-tick node = record { node = refl; tns = refl; bodies = bodies-after_tick node }

handed-node : (reply : Bool) (s : InitiatorState) → ((cond reply s (after_hand_out s)).node ≡ s.node) × ((cond reply s (after_hand_out s)).tns ≡ s.tns)
handed-node true s = (refl, refl)
handed-node false s = (refl, refl)

pub same-next : (node : NodeState) → SameCommands node.initiator (after_next node).initiator
same-next node = let at = handed-node (is_some (slice_get node.replies 0)) node.initiator in record { node = at.0; tns = at.1; bodies = bodies-next node }

-- ---- the commands that were issued

-- the node, its first number, and the bodies of these requests
pub record AreIssued (node tns : ℕ) (requests : List Request) (s : InitiatorState) : Type 0 where
  pub node_is : s.node ≡ node
  pub tns_is : s.tns ≡ tns
  pub bodies : map (λ c. c.body) s.issued ≡ command_bodies tns requests

pub issued-same : (node tns : ℕ) (requests : List Request) (s t : InitiatorState) → SameCommands s t → AreIssued node tns requests s → AreIssued node tns requests t
issued-same node tns requests s t same i = record { node_is = same.node ∙ i.node_is; tns_is = same.tns ∙ i.tns_is; bodies = same.bodies ∙ i.bodies }

bodies-push : (number : ℕ) (requests : List Request) (request : Request) → command_bodies number (requests ++ request ∷ []) ≡ command_bodies number requests ++ command_body (number + length requests) request ∷ []
bodies-push number [] request = ap (λ (n : ℕ). command_body n request ∷ []) (sym (add-zero number))
bodies-push number (first ∷ requests) request =
    let shift : number + 1 + length requests ≡ number + length (first ∷ requests) = omega arith in
    ap (λ (bodies : List (List ℕ)). command_body number first ∷ bodies)
    (bodies-push (number + 1) requests request ∙ ap (λ (n : ℕ). command_bodies (number + 1) requests ++ command_body n request ∷ []) shift)

length-bodies : (number : ℕ) (requests : List Request) → length (command_bodies number requests) ≡ length requests
length-bodies number [] = refl
length-bodies number (first ∷ requests) = let more = length-bodies (number + 1) requests in omega (arith, more)

next-is : (s : InitiatorState) (number count src dst : ℕ) (payload : List ℕ) → s.tns ≡ number → length s.issued ≡ count → next_issued s src dst payload ≡ command_body (number + count) (record { src = src; dst = dst; payload = payload })
next-is s number count src dst payload tns_is count_is = ap₂ (λ (n k : ℕ). command_body (n + k) (record { src = src; dst = dst; payload = payload })) tns_is count_is

pub issued-more : (node tns : ℕ) (requests : List Request) (s : InitiatorState) (src dst : ℕ) (payload : List ℕ) → AreIssued node tns requests s
    → AreIssued node tns (requests ++ record { src = src; dst = dst; payload = payload } ∷ []) (after_issue s src dst payload)
issued-more node tns requests s src dst payload i =
    let new : Issued = record { body = next_issued s src dst payload; standing = Waiting } in
    let count : length s.issued ≡ length requests = sym (length-map s.issued (λ (c : Issued). c.body)) ∙ ap length i.bodies ∙ length-bodies tns requests in
    record {
      node_is = i.node_is;
      tns_is = i.tns_is;
      bodies = map-append (λ (c : Issued). c.body) s.issued (new ∷ [])
          ∙ ap₂ (λ (xs : List (List ℕ)) (x : List ℕ). xs ++ x ∷ []) i.bodies (next-is s tns (length requests) src dst payload i.tns_is count)
          ∙ sym (bodies-push tns requests (record { src = src; dst = dst; payload = payload }));
    }
