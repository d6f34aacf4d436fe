-- What an act, a fate, a tick and a take leave of an end's node: its commands stay, and what it handed out and accepted goes on.
use Rattle.std.proofs.Common.{◌≡◌, ◌∙◌, ℕ, suc, Bool, true, false, List, [], ◌∷◌, ◌++◌, map, Option, Some, None, refl, ap, append-nil}
use Rattle.std.specs.Prelude.{slice_get, option_to_list}
use Rattle.std.specs.List.{filter}
use Rattle.std.specs.Option.{option_map, option_map_or}
use Rattle.std.proofs.lemmas.Option.{slice_get-map}
use Rattle.df1_base.specs.declared.host.Fate.{Fate}
use Rattle.df1_base.specs.declared.link.Act.{Act}
use Rattle.df1_base.specs.declared.link.Act.TheVariants as act
use Rattle.df1_base.specs.HostAnswers.{host_told}
use Rattle.df1_node.specs.Answer.{StationState}
use Rattle.df1_node.specs.Initiator.{Issued, Standing, Waiting, Out, Answered, Undelivered, Unanswered, is_settled}
use Rattle.df1_node.specs.Node.{NodeState, Step, Accept, Next, Told, Tick, after, after_next, after_tick, next_body}
use Rattle.df1_node.proofs.Final.{final_step}
use Rattle.duplex_end.specs.End.{host_after}
use Rattle.each_once.specs.NodeHost.{node_host}
use Rattle.each_once.proofs.KeptCommands.{is_given_up}
use Rattle.each_once.proofs.Sublists.{from-map}
use Rattle.each_once.proofs.CommandBodies.{bodies-accept, bodies-after_told, bodies-after_tick, bodies-next}
use Rattle.each_once.proofs.HandedOut.{is_command, Hosts}
use Rattle.each_once.proofs.NodeSteps.{hosts-accept, hosts-told, hosts-next}
use Rattle.each_once.proofs.ToldLines.{Stays, stays-same}
use Rattle.each_once.proofs.WaitingCommands.{OthersWait, others-accept, others-fate, others-next}

-- ---- commands stay

up-is-settled : (s : Standing) → is_given_up s ≡ true → is_settled s ≡ true
up-is-settled Waiting up = absurd cc
up-is-settled (Out left) up = absurd cc
up-is-settled (Answered reply) up = refl
up-is-settled Undelivered up = refl
up-is-settled Unanswered up = refl

stays-by : (node : NodeState) (step : Step) → map (λ c. c.body) (after node step).initiator.issued ≡ map (λ c. c.body) node.initiator.issued
    → (k : ℕ) (c : Issued) → slice_get node.initiator.issued k ≡ Some c → (settled : Bool) → is_settled c.standing ≡ settled
    → (d : Issued) × (slice_get (after node step).initiator.issued k ≡ Some d) × (d.body ≡ c.body) × (is_given_up c.standing ≡ true → d.standing ≡ c.standing)
stays-by node step same k c is true settled = (c, final_step node step (suc k) c is settled, refl, λ up. refl)
stays-by node step same k c is false settled =
    let at : slice_get (map (λ x. x.body) (after node step).initiator.issued) k ≡ Some c.body =
    ap (λ bodies. slice_get bodies k) same ∙ slice_get-map (λ (x : Issued). x.body) node.initiator.issued k ∙ ap (option_map (λ (x : Issued). x.body)) is in
    let d = from-map (λ (x : Issued). x.body) (after node step).initiator.issued k c.body at in
    (d.0, d.1, d.2, λ up. absurd (let yes = up-is-settled c.standing up in cc))

stays-step : (node : NodeState) (step : Step) → map (λ c. c.body) (after node step).initiator.issued ≡ map (λ c. c.body) node.initiator.issued → Stays node.initiator.issued (after node step).initiator.issued
stays-step node step same k c is = stays-by node step same k c is (is_settled c.standing) refl

pub stays-act : (what : Act) (node : NodeState) (body : List ℕ) → Stays node.initiator.issued (host_after node_host what node body).initiator.issued
stays-act act.Accept node body = stays-step node (Accept body) (bodies-accept node body)
stays-act act.Repeat node body = stays-same node.initiator.issued
stays-act act.Refuse node body = stays-same node.initiator.issued
stays-act act.Damaged node body = stays-same node.initiator.issued
stays-act act.Forgot node body = stays-same node.initiator.issued
stays-act act.PeerAck node body = stays-same node.initiator.issued
stays-act act.PeerNak node body = stays-same node.initiator.issued
stays-act act.PeerEnq node body = stays-same node.initiator.issued
stays-act act.Nothing node body = stays-same node.initiator.issued

pub stays-fate : (what : Option Fate) (node : NodeState) → Stays node.initiator.issued (host_told node_host what node).initiator.issued
stays-fate None node = stays-same node.initiator.issued
stays-fate (Some what) node = stays-step node (Told what) (bodies-after_told node what)

pub stays-tick : (node : NodeState) → Stays node.initiator.issued (after_tick node).initiator.issued
stays-tick node = stays-step node Tick (bodies-after_tick node)

pub stays-handed : (o : Option (List ℕ)) (node : NodeState) → Stays node.initiator.issued (option_map_or (λ (body : List ℕ). after_next node) o node).initiator.issued
stays-handed None node = stays-same node.initiator.issued
stays-handed (Some body) node = stays-step node Next (bodies-next node)

-- ---- what was handed out and accepted

-- the accepted messages, with one more at an accept
abbrev pub heard_after : Act → List (List ℕ) → List ℕ → List (List ℕ)
heard_after act.Accept heard body = heard ++ body ∷ []
heard_after _ heard body = heard

pub hosts-act : (what : Act) (first : StationState) (node : NodeState) (messages heard : List (List ℕ)) (body : List ℕ) → Hosts first node messages heard → Hosts first (host_after node_host what node body) messages (heard_after what heard body)
hosts-act act.Accept first node messages heard body h = hosts-accept h body
hosts-act act.Repeat first node messages heard body h = h
hosts-act act.Refuse first node messages heard body h = h
hosts-act act.Damaged first node messages heard body h = h
hosts-act act.Forgot first node messages heard body h = h
hosts-act act.PeerAck first node messages heard body h = h
hosts-act act.PeerNak first node messages heard body h = h
hosts-act act.PeerEnq first node messages heard body h = h
hosts-act act.Nothing first node messages heard body h = h

pub hosts-fate : (what : Option Fate) (first : StationState) (node : NodeState) (messages heard : List (List ℕ)) → Hosts first node messages heard → Hosts first (host_told node_host what node) messages heard
hosts-fate None first node messages heard h = h
hosts-fate (Some what) first node messages heard h = hosts-told h what

pub hosts-handed : (o : Option (List ℕ)) (first : StationState) (node : NodeState) (messages heard : List (List ℕ)) → ((body : List ℕ) → o ≡ Some body → next_body node ≡ Some body) → Hosts first node messages heard
    → Hosts first (option_map_or (λ (body : List ℕ). after_next node) o node) (messages ++ option_to_list o) heard
hosts-handed None first node messages heard next h = rw (append-nil messages) h
hosts-handed (Some body) first node messages heard next h = hosts-next body (next body refl) h

-- ---- the commands that weren't handed out wait

pub others-act : (what : Act) (node : NodeState) (body : List ℕ) (handed : List (List ℕ)) → OthersWait node.initiator handed → OthersWait (host_after node_host what node body).initiator handed
others-act act.Accept node body handed o = others-accept node body handed o
others-act act.Repeat node body handed o = o
others-act act.Refuse node body handed o = o
others-act act.Damaged node body handed o = o
others-act act.Forgot node body handed o = o
others-act act.PeerAck node body handed o = o
others-act act.PeerNak node body handed o = o
others-act act.PeerEnq node body handed o = o
others-act act.Nothing node body handed o = o

pub others-told : (what : Option Fate) (node : NodeState) (handed : List (List ℕ)) → OthersWait node.initiator handed → OthersWait (host_told node_host what node).initiator handed
others-told None node handed o = o
others-told (Some what) node handed o = others-fate node what handed o

pub others-handed : (o : Option (List ℕ)) (first : StationState) (node : NodeState) (messages heard : List (List ℕ)) → ((body : List ℕ) → o ≡ Some body → next_body node ≡ Some body) → Hosts first node messages heard → OthersWait node.initiator (filter is_command messages)
    → OthersWait (option_map_or (λ (body : List ℕ). after_next node) o node).initiator (filter is_command (messages ++ option_to_list o))
others-handed None first node messages heard next h w = rw (append-nil messages) w
others-handed (Some body) first node messages heard next h w = others-next h body (next body refl) w
