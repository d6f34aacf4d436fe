-- At each point of a run: what the master gave, and that its messages are its own.
use Rattle.std.proofs.Common.{◌≡◌, ◌∙◌, ℕ, ◌<◌, Bool, true, false, List, [], ◌∷◌, ◌++◌, not, Option, Some, None, refl, sym, ap, subst, append-nil, option_map}
use Rattle.std.specs.Prelude.{IsTrue, option_to_list, slice_index, unwrap_or, if◌then◌else◌}
use Rattle.std.specs.List.{filter, flat_map}
use Rattle.std.proofs.lemmas.List.{map-append}
use Rattle.std.proofs.lemmas.List.Concat.{flat_map-append}
use Rattle.df1_base.specs.declared.host.Fate.{Fate}
use Rattle.df1_base.specs.declared.host.Fate.TheVariants as fate
use Rattle.df1_base.specs.declared.link.Act.{Act}
use Rattle.df1_base.specs.declared.link.Act.TheVariants as act
use Rattle.df1_base.specs.declared.link.Out.{Out}
use Rattle.df1_base.specs.HostAnswers.{host_told}
use Rattle.df1_check.specs.declared.Check.{Check}
use Rattle.pccc_envelope.specs.Envelope.{is_reply}
use Rattle.df1_node.specs.Answer.{StationState}
use Rattle.df1_node.specs.HostLaws.{next_is_body, bodies_at_accept, bodies_at_next, bodies_at_told, bodies_at_tick}
use Rattle.df1_node.specs.Node.{NodeState, after_node_issue, after_next, after_told}
use Rattle.half_mouth.specs.Transmissions.{bytes_given}
use Rattle.half_master.specs.declared.table.Effect.{Effect}
use Rattle.half_master.specs.declared.table.Effect.TheVariants as effect
use Rattle.half_master.specs.Stations.{is_listed}
use Rattle.half_master.specs.Master.{MasterState, with_host, transmitted, with_byte, body_of, effect_of_byte, effect_at_tick, message_next, begun_of, out_at_take, step_at_byte, master_after_byte, master_after_tick, master_after_take, turn_at_tick, gone_at_tick}
use Rattle.half_master.specs.Emission.{Byte, Tick as TickLetter, Take}
use Rattle.half_master.specs.Fates.{HandedOut, ForNoStation, events_of, handed_out as handed_event, events_at}
use Rattle.half_master.specs.Past.{Past, Came, goes_on, changes, handed_at, handed_out}
use Rattle.half_master.proofs.CourseLemmas.{by-test}
use Rattle.half_master.proofs.Giving.{came-reached}
use Rattle.half_master.proofs.LastMessage.{next-of}
use Rattle.half_master.proofs.Reaching.{KeepsBodies, reached-carries}
use Rattle.half_master.proofs.Runs.{signal-setup}
use Rattle.half_master.proofs.Seen.{AtByte, accepts, passes, at-byte, at-tick, lent-after}
use Rattle.script_statement.specs.declared.who.Who.TheVariants.{M}
use Rattle.script_statement.specs.Statements.{is_payload}
use Rattle.replay_report.specs.declared.record.Line.{Line}
use Rattle.report_lines.specs.NodeLines.{step_lines}
use Rattle.each_once.specs.Commands.{is_command}
use Rattle.each_once.specs.NodeHost.{node_host}
use Rattle.each_once.specs.Tells.{executed_at, executed_in}
use Rattle.each_once.proofs.AnsweringStation.{within-both}
use Rattle.each_once.proofs.HandedOut.{Hosts}
use Rattle.each_once.proofs.MessageLengths.{issue-holds}
use Rattle.each_once.proofs.NodeSteps.{hosts-issue, hosts-told, hosts-tick, hosts-accept, hosts-next}
use Rattle.each_once.proofs.SentAndExecuted.{ExecuteNothing, tick-execute, command_at_act, DidAsNode, step-own}
use Rattle.each_once.proofs.Sublists.{IsWithin, within-front, filter-keeps, filter-drops}
use Rattle.each_once.proofs.ToldLines.{adds-none}
use Rattle.half_line.specs.Behind.{plain_node}
use Rattle.half_line.specs.Acts.{Give, Tick, after_issue, master_bytes, master_lines}
use Rattle.half_line.specs.Plays.{issued_by}
use Rattle.half_line.proofs.Once.MasterSteps.{payload-command}

pub node_keeps : KeepsBodies node_host
node_keeps = record { next_is = next_is_body; at_accept = bodies_at_accept; at_next = bodies_at_next; at_told = bodies_at_told; at_tick = bodies_at_tick }

-- a master that gave these bytes, of which the lines tell what it executed; its messages to stations are some of those that its host handed out
pub record MasterGave (check : Check) (first : StationState) (e : MasterState NodeState) (lines : List Line) (bytes : List ℕ) : Type 0 where
  pub past : Past
  pub messages : List (List ℕ)
  pub heard : List (List ℕ)
  pub came : Came node_host past e
  pub check_is : e.setup.check ≡ check
  pub gave : bytes_given past.gave ≡ bytes
  pub hosts : Hosts first e.host messages heard
  pub within : IsWithin (handed_out past.events) messages
  pub executed : executed_in M lines ≡ filter is_command heard

-- lines that tell of no command that it executed
pub gave-silent : (check : Check) (first : StationState) (e : MasterState NodeState) (lines more : List Line) (bytes : List ℕ) → ExecuteNothing M more → MasterGave check first e lines bytes → MasterGave check first e (lines ++ more) bytes
gave-silent check first e lines more bytes none g = record {
  past = g.past;
  messages = g.messages;
  heard = g.heard;
  came = g.came;
  check_is = g.check_is;
  gave = g.gave;
  hosts = g.hosts;
  within = g.within;
  executed = adds-none (executed_at M) lines more none ∙ g.executed;
}

-- ---- a command is issued

pub gave-issue : (check : Check) (first : StationState) (e : MasterState NodeState) (src : Option ℕ) (dst : ℕ) (payload : List ℕ) (lines : List Line) (bytes : List ℕ) → IsTrue (is_payload payload) → issued_by plain_node e < 65535 → MasterGave check first e lines bytes
    → MasterGave check first (after_issue plain_node e src dst payload) lines bytes
gave-issue check first e src dst payload lines bytes may few g =
    let source = unwrap_or src e.host.initiator.node in
    let host = after_node_issue e.host source dst payload in
    record {
      past = g.past;
      messages = g.messages;
      heard = g.heard;
      came = changes g.past e host (issue-holds e.host source dst payload may (reached-carries node_host node_keeps e (came-reached node_host g.past e g.came)).holds) g.came;
      check_is = g.check_is;
      gave = g.gave;
      hosts = hosts-issue g.hosts source dst payload (payload-command payload may) few;
      within = g.within;
      executed = g.executed;
    }

-- ---- a byte is given

given-byte : (o : Option Out) → bytes_given (option_to_list o) ≡ option_to_list (option_map (λ (out : Out). out.byte) o)
given-byte None = refl
given-byte (Some out) = refl

-- what a take hands out
record Handed (first : StationState) (host : NodeState) (handed messages heard more : List (List ℕ)) : Type 0 where
  pub hosts : Hosts first host messages heard
  pub within : IsWithin (handed ++ more) messages

begun-hands : (first : StationState) (e : MasterState NodeState) (messages heard handed : List (List ℕ)) (o : Option (List ℕ)) → message_next node_host e ≡ o → Hosts first e.host messages heard → IsWithin handed messages
    → Handed first (begun_of node_host e o).host handed (messages ++ option_to_list o) heard (flat_map handed_at (handed_event e o))
begun-hands first e messages heard handed None is hosts within = record { hosts = rw (append-nil messages) hosts; within = rw (append-nil handed, append-nil messages) within }
begun-hands first e messages heard handed (Some body) is hosts within =
    let next = hosts-next body (next-of node_host e body is) hosts in
    let listed : MasterState NodeState = transmitted (record e { sending = body; host = after_next e.host }) 0 in
    let other : MasterState NodeState = with_host e (after_told (after_next e.host) fate.Undelivered) in
    by-test (is_listed e.stations (slice_index body 0))
    (λ (b : Bool). Handed first (if b then listed else other).host handed (messages ++ body ∷ []) heard (flat_map handed_at (if b then HandedOut body ∷ [] else ForNoStation body ∷ [])))
    (record { hosts = next; within = within-both body handed messages within })
    (record { hosts = hosts-told next fate.Undelivered; within = rw (append-nil handed) (within-front handed messages (body ∷ []) within) })

pub gave-take : (check : Check) (first : StationState) (e : MasterState NodeState) (lines : List Line) (bytes : List ℕ) → MasterGave check first e lines bytes → MasterGave check first (master_after_take node_host e) lines (bytes ++ master_bytes plain_node e Give)
gave-take check first e lines bytes g =
    let next = message_next node_host e in
    let handed = begun-hands first e g.messages g.heard (handed_out g.past.events) next refl g.hosts g.within in
    record {
      past = record { events = g.past.events ++ events_at node_host e Take; gave = g.past.gave ++ option_to_list (out_at_take node_host e); course = _ };
      messages = g.messages ++ option_to_list next;
      heard = g.heard;
      came = goes_on g.past e Take g.came;
      check_is = ap (λ s. s.check) (signal-setup node_host e Take) ∙ g.check_is;
      gave = map-append (λ (out : Out). out.byte) g.past.gave (option_to_list (out_at_take node_host e)) ∙ rw (g.gave, given-byte (out_at_take node_host e)) refl;
      hosts = handed.hosts;
      within = subst (λ (l : List (List ℕ)). IsWithin l (g.messages ++ option_to_list next)) (sym (flat_map-append handed_at g.past.events (events_at node_host e Take))) handed.within;
      executed = g.executed;
    }

-- ---- a tick, and a byte that arrives

-- no message is handed out there
effect-hands : (what : Effect) → flat_map handed_at (events_of what) ≡ []
effect-hands effect.Nothing = refl
effect-hands (effect.Waits left) = refl
effect-hands effect.Delivered = refl
effect-hands (effect.Again resent) = refl
effect-hands effect.GivenUp = refl
effect-hands effect.PollOver = refl
effect-hands (effect.Accepted place) = refl
effect-hands effect.Repeated = refl
effect-hands effect.Refused = refl
effect-hands effect.Damaged = refl
effect-hands effect.Polls = refl

hosts-fate : (what : Option Fate) (first : StationState) (node : NodeState) (messages heard : List (List ℕ)) → Hosts first node messages heard → Hosts first (host_told node_host what node) messages heard
hosts-fate None first node messages heard h = h
hosts-fate (Some what) first node messages heard h = hosts-told h what

hosts-ticked : (ticked : Bool) (first : StationState) (node : NodeState) (messages heard : List (List ℕ)) → Hosts first node messages heard → Hosts first (if ticked then node_host.after_tick node else node) messages heard
hosts-ticked true first node messages heard h = hosts-tick h
hosts-ticked false first node messages heard h = h

pub gave-tick : (check : Check) (first : StationState) (e : MasterState NodeState) (lines : List Line) (bytes : List ℕ) → MasterGave check first e lines bytes → MasterGave check first (master_after_tick node_host e) (lines ++ master_lines plain_node e Tick) bytes
gave-tick check first e lines bytes g =
    let t = at-tick node_host e in
    let hosts = hosts-fate t.fate first (if t.ticked then node_host.after_tick e.host else e.host) g.messages g.heard (hosts-ticked t.ticked first e.host g.messages g.heard g.hosts) in
    gave-silent check first (master_after_tick node_host e) lines (master_lines plain_node e Tick) bytes (tick-execute M M (turn_at_tick node_host e) (gone_at_tick node_host e)) (record {
      past = record { events = g.past.events ++ events_at node_host e TickLetter; gave = g.past.gave ++ []; course = _ };
      messages = g.messages;
      heard = g.heard;
      came = goes_on g.past e TickLetter g.came;
      check_is = ap (λ s. s.check) (signal-setup node_host e TickLetter) ∙ g.check_is;
      gave = ap bytes_given (append-nil g.past.gave) ∙ g.gave;
      hosts = subst (λ (node : NodeState). Hosts first node g.messages g.heard) (sym t.host) hosts;
      within = subst (λ (l : List (List ℕ)). IsWithin l g.messages) (sym (flat_map-append handed_at g.past.events (events_at node_host e TickLetter) ∙ ap (λ (l : List (List ℕ)). handed_out g.past.events ++ l) (effect-hands (effect_at_tick node_host e)) ∙ append-nil (handed_out g.past.events))) g.within;
      executed = g.executed;
    })

-- a message that is accepted is heard
heard-more : (heard : List (List ℕ)) (body : List ℕ) (reply : Bool) → is_reply body ≡ reply → filter is_command (heard ++ body ∷ []) ≡ filter is_command heard ++ (if reply then [] else body ∷ [])
heard-more heard body true is = filter-drops is_command heard body (ap not is) ∙ sym (append-nil (filter is_command heard))
heard-more heard body false is = filter-keeps is_command heard body (ap not is)

-- what a byte leaves of the host, and what the lines tell of it
record Hears (first : StationState) (after : NodeState) (messages now heard : List (List ℕ)) : Type 0 where
  pub all : List (List ℕ)
  pub hosts : Hosts first after messages all
  pub commands : filter is_command all ≡ filter is_command heard ++ now

none-now : (what : Act) (body : List ℕ) → (what ≡ act.Accept → ⊥) → command_at_act what body ≡ []
none-now act.Accept body not = absurd (not refl)
none-now act.Repeat body not = refl
none-now act.Refuse body not = refl
none-now act.Damaged body not = refl
none-now act.Forgot body not = refl
none-now act.PeerAck body not = refl
none-now act.PeerNak body not = refl
none-now act.PeerEnq body not = refl
none-now act.Nothing body not = refl

byte-hears : (first : StationState) (e : MasterState NodeState) (b : ℕ) (messages heard : List (List ℕ)) → AtByte node_host e b → Hosts first e.host messages heard
    → Hears first (master_after_byte node_host e b).host messages (command_at_act (step_at_byte node_host e b).act (body_of (with_byte e b))) heard
byte-hears first e b messages heard (accepts a) h =
    let body = body_of (with_byte e b) in
    record {
      all = heard ++ body ∷ [];
      hosts = subst (λ (node : NodeState). Hosts first node messages (heard ++ body ∷ [])) (sym a.host) (hosts-accept h body);
      commands = heard-more heard body (is_reply body) refl ∙ ap (λ (x : Act). filter is_command heard ++ command_at_act x body) (sym a.act);
    }
byte-hears first e b messages heard (passes p) h = record {
  all = heard;
  hosts = subst (λ (node : NodeState). Hosts first node messages heard) (sym p.host) (hosts-fate p.fate first e.host messages heard h);
  commands = sym (append-nil (filter is_command heard)) ∙ ap (λ (l : List (List ℕ)). filter is_command heard ++ l) (sym (none-now (step_at_byte node_host e b).act (body_of (with_byte e b)) p.act));
}

pub did-as-node : (e : MasterState NodeState) (b : ℕ) → AtByte node_host e b → DidAsNode (step_at_byte node_host e b).act (step_at_byte node_host e b).did e.host (body_of (with_byte e b))
did-as-node e b (accepts a) is = a.did
did-as-node e b (passes p) is = absurd (p.act is)

pub gave-byte : (check : Check) (first : StationState) (e : MasterState NodeState) (b : ℕ) (lines : List Line) (bytes : List ℕ) → MasterGave check first e lines bytes
    → MasterGave check first (master_after_byte node_host e b) (lines ++ step_lines M (step_at_byte node_host e b) (body_of (master_after_byte node_host e b))) bytes
gave-byte check first e b lines bytes g =
    let step = step_at_byte node_host e b in
    let body = body_of (with_byte e b) in
    let at = at-byte node_host e b in
    let hears = byte-hears first e b g.messages g.heard at g.hosts in
    let told = step-own M refl step e.host body lines (filter is_command g.heard) (did-as-node e b at) g.executed in
    record {
      past = record { events = g.past.events ++ events_at node_host e (Byte b); gave = g.past.gave ++ []; course = _ };
      messages = g.messages;
      heard = hears.all;
      came = goes_on g.past e (Byte b) g.came;
      check_is = ap (λ s. s.check) (signal-setup node_host e (Byte b)) ∙ g.check_is;
      gave = ap bytes_given (append-nil g.past.gave) ∙ g.gave;
      hosts = hears.hosts;
      within = subst (λ (l : List (List ℕ)). IsWithin l g.messages) (sym (flat_map-append handed_at g.past.events (events_at node_host e (Byte b)) ∙ ap (λ (l : List (List ℕ)). handed_out g.past.events ++ l) (effect-hands (effect_of_byte node_host e b)) ∙ append-nil (handed_out g.past.events))) g.within;
      executed = ap (λ (x : List ℕ). executed_in M (lines ++ step_lines M step x)) (lent-after node_host e b) ∙ told ∙ sym hears.commands;
    }
