-- A node: the station, the replies that wait, the commands that it issued, and what it handed out last.
use Rattle.std.specs.Prelude.{ℕ, ◌+◌, ◌≤◌, Bool, true, false, All, List, [], ◌∷◌, ◌++◌, length, drop, is_some, nat_lt, slice_get, if◌then◌else◌, Option, refl}
use Rattle.std.specs.Coded.{Coded, code_by, coded×, coded_list, coded_ℕ}
use Rattle.std.specs.Option.{option_map_or, option_or}
use Rattle.df1_base.specs.declared.host.Fate.{Fate}
use Rattle.df1_base.specs.declared.host.Fate.TheVariants as fate
use Rattle.df1_base.specs.declared.host.Did.{Did}
use Rattle.df1_base.specs.declared.host.Did.TheVariants as did
use Rattle.df1_base.specs.declared.host.News.{News}
use Rattle.df1_base.specs.declared.host.News.TheVariants as news
use Rattle.df1_base.specs.Host.{IsBody}
use Rattle.pccc_envelope.specs.Envelope.{is_reply}
use Rattle.df1_node.specs.declared.handed.Handed.{Handed}
use Rattle.df1_node.specs.declared.handed.Handed.TheVariants as handed
use Rattle.df1_node.specs.Answer.{StationState, after_answer, reply_to, with_locks, with_station_word}
use Rattle.df1_node.specs.Initiator.{InitiatorState, next_place, next_command, after_hand_out, answered_place, after_reply, is_out_at, after_give_up, unanswered_from, all_ticked, all_cleared, after_issue}

-- how many replies may wait, the station, the replies that wait, oldest first, the commands, and what was handed out last and
-- not told yet: nothing, a reply, or the command at a place
pub record NodeState : Type 0 where
  pub room : ℕ
  pub station : StationState
  pub replies : List (List ℕ)
  pub initiator : InitiatorState
  pub last : Handed

-- nodes are told apart by these
abbrev pub node_code : Coded StationState → Coded InitiatorState → Coded Handed → Coded NodeState
node_code station initiator handed =
    code_by (ℕ × (StationState × (List (List ℕ) × (InitiatorState × Handed)))) (coded× coded_ℕ (coded× station (coded× (coded_list (coded_list coded_ℕ)) (coded× initiator handed))))
    (λ n. (n.room, (n.station, (n.replies, (n.initiator, n.last)))))
    (λ p. record { room = p.0; station = p.1.0; replies = p.1.1.0; initiator = p.1.1.1.0; last = p.1.1.1.1 }) (λ _. refl)

-- there is always room for a reply, and for a command while fewer replies wait than may
abbrev pub has_room : NodeState → List ℕ → Bool
has_room node body = if is_reply body then true else nat_lt (length node.replies) node.room

-- a reply answers the command that is out and that it fits, or is astray; a command is executed
abbrev pub did_accept : NodeState → List ℕ → Did
did_accept node body =
    if is_reply body then option_map_or (λ place. did.Answered (place + 1)) (answered_place node.initiator.issued body) did.Stray else did.Executed

-- the node after a body: a command is executed at once, and its reply waits
abbrev pub after_accept : NodeState → List ℕ → NodeState
after_accept node body = record node {
  station = if is_reply body then node.station else after_answer node.station body;
  replies = if is_reply body then node.replies else node.replies ++ reply_to node.station body ∷ [];
  initiator = if is_reply body then after_reply node.initiator body else node.initiator;
}

-- what is handed out next: the oldest reply; where none waits, the next command
abbrev pub next_body : NodeState → Option (List ℕ)
next_body node = option_or (slice_get node.replies 0) (next_command node.initiator)

-- what that is: a reply, or the command at a place; where nothing is handed out, what was handed out before
abbrev pub next_handed : NodeState → Handed
next_handed node = if is_some (slice_get node.replies 0) then handed.Reply else option_map_or handed.Command (next_place node.initiator) node.last

-- the node after the next body was handed out
abbrev pub after_next : NodeState → NodeState
after_next node = record node {
  replies = drop 1 node.replies;
  initiator = if is_some (slice_get node.replies 0) then node.initiator else after_hand_out node.initiator;
  last = next_handed node;
}

-- a message was handed out whose fate wasn't told
abbrev pub is_handed : Handed → Bool
is_handed handed.Nothing = false
is_handed handed.Reply = true
is_handed (handed.Command place) = true

abbrev pub is_out : NodeState → Bool
is_out node = is_handed node.last

-- each reply that waits, and each command, has 6 to 250 bytes, and the data of the status reply at most 244
abbrev pub holds_bodies : NodeState → Type 0
holds_bodies node = All IsBody node.replies × All (λ c. IsBody c.body) node.initiator.issued × (length node.station.block ≤ 244)

-- what is told of a body that was given up: of a command only while it is out
abbrev pub news_of : InitiatorState → Handed → News
news_of initiator handed.Nothing = news.Nothing
news_of initiator handed.Reply = news.Dropped
news_of initiator (handed.Command place) = if is_out_at initiator.issued place then news.Undelivered (place + 1) else news.Nothing

-- the initiator after a body was given up
abbrev pub initiator_after : InitiatorState → Handed → InitiatorState
initiator_after initiator handed.Nothing = initiator
initiator_after initiator handed.Reply = initiator
initiator_after initiator (handed.Command place) = after_give_up initiator place

-- the answer to a fate
abbrev pub news_told : NodeState → Fate → News
news_told node fate.Delivered = news.Nothing
news_told node fate.Undelivered = news_of node.initiator node.last

-- the node after a fate, which is told once
abbrev pub after_told : NodeState → Fate → NodeState
after_told node fate.Delivered = record node { last = handed.Nothing }
after_told node fate.Undelivered = record node { initiator = initiator_after node.initiator node.last; last = handed.Nothing }

-- the commands that are unanswered from this tick on
abbrev pub gone_unanswered : NodeState → List ℕ
gone_unanswered node = unanswered_from 1 node.initiator.issued

-- the node after a tick
abbrev pub after_tick : NodeState → NodeState
after_tick node = record node { initiator = record node.initiator { issued = all_ticked node.initiator.issued } }

-- the node after what waits was dropped
abbrev pub after_clear : NodeState → NodeState
after_clear node = record node { replies = []; initiator = record node.initiator { issued = all_cleared node.initiator.issued } }

-- the node after a command was issued in the name of a source
abbrev pub after_node_issue : NodeState → ℕ → ℕ → List ℕ → NodeState
after_node_issue node src dst payload = record node { initiator = after_issue node.initiator src dst payload }

-- the node with another word at a place
abbrev pub with_node_word : NodeState → ℕ → ℕ → ℕ → NodeState
with_node_word node number index value = record node { station = with_station_word node.station number index value }

-- the node with other files that no command may write
abbrev pub with_node_locks : NodeState → List ℕ → NodeState
with_node_locks node files = record node { station = with_locks node.station files }

-- what may happen to a node
pub data Step : Type 0 where
  Issue : ℕ → ℕ → List ℕ → Step
  Accept : List ℕ → Step
  Next : Step
  Told : Fate → Step
  Tick : Step
  Clear : Step

-- the node after it
abbrev pub after : NodeState → Step → NodeState
after node (Issue src dst payload) = after_node_issue node src dst payload
after node (Accept body) = after_accept node body
after node Next = after_next node
after node (Told told) = after_told node told
after node Tick = after_tick node
after node Clear = after_clear node
