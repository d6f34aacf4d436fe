-- At each point of a run: what a station gave, and that its messages are its own.
use Rattle.std.proofs.Common.{◌≡◌, ◌∙◌, ℕ, Bool, true, false, List, [], ◌∷◌, ◌++◌, Option, Some, None, refl, sym, ap, subst, append-nil, option_map}
use Rattle.std.specs.Prelude.{option_to_list, if◌then◌else◌}
use Rattle.std.specs.List.{flat_map}
use Rattle.std.proofs.lemmas.List.{map-append}
use Rattle.std.proofs.lemmas.List.Concat.{flat_map-append}
use Rattle.std.proofs.lemmas.Bool.{eq-eqb}
use Rattle.df1_base.specs.declared.host.Fate.{Fate}
use Rattle.df1_base.specs.declared.link.Act.{Act}
use Rattle.df1_base.specs.declared.link.Act.TheVariants as act
use Rattle.df1_base.specs.declared.link.Out.{Out}
use Rattle.df1_base.specs.HostAnswers.{did_at}
use Rattle.df1_check.specs.declared.Check.{Check}
use Rattle.pccc_envelope.specs.Envelope.{is_reply}
use Rattle.pccc_envelope.specs.Accepted.{Verdict, Repeated, Accepted, Refused}
use Rattle.df1_node.specs.Answer.{StationState}
use Rattle.df1_node.specs.Node.{NodeState, after_accept}
use Rattle.half_frame.specs.declared.heard.SlaveHeard.{SlaveHeard}
use Rattle.half_frame.specs.declared.heard.SlaveHeard.TheVariants as heard
use Rattle.half_mouth.specs.Transmissions.{bytes_given}
use Rattle.half_slave.specs.declared.held.Held.{Held}
use Rattle.half_slave.specs.Slave.{SlaveState, body_of, is_own, is_answered, verdict, verdict_act, told, received, offered, answered, polled, fate_at_poll, fate_at_ack, fate_at_reset, heard_at, listened, act_at, slave_after_heard, slave_after_byte, step_at_byte, out_at_take, slave_after_take}
use Rattle.half_slave.specs.Emission.{Byte, Take}
use Rattle.half_slave.specs.Fates.{telling, sending_begun, events_of_poll, events_at_heard, events_at}
use Rattle.half_slave.specs.Past.{Past, Came, goes_on, handed_at, handed_out}
use Rattle.half_slave.proofs.Rows.{byte-setup}
use Rattle.script_statement.specs.declared.who.Who.TheVariants.{S}
use Rattle.replay_report.specs.declared.record.Line.{Line}
use Rattle.report_lines.specs.NodeLines.{step_lines}
use Rattle.each_once.specs.NodeHost.{node_host}
use Rattle.each_once.specs.Tells.{executed_at, executed_in}
use Rattle.each_once.proofs.AnsweringStation.{Serves, serves-accept, serves-reply, serves-next, serves-told, serves-clear}
use Rattle.each_once.proofs.SentAndExecuted.{ExecuteNothing, command_at_act, DidAsNode, step-own}
use Rattle.each_once.proofs.ToldLines.{adds-none}
use Rattle.half_line.proofs.Once.StationSteps.{lent-after}

-- a station that gave these bytes, of which the lines tell what it executed
pub record StationGave (check : Check) (first : StationState) (number : ℕ) (s : SlaveState NodeState) (lines : List Line) (bytes : List ℕ) : Type 0 where
  pub past : Past
  pub came : Came node_host past s
  pub check_is : s.setup.check ≡ check
  pub gave : bytes_given past.gave ≡ bytes
  pub serves : Serves first s.host (executed_in (S number) lines) (handed_out past.events)

-- lines that tell of no command that it executed
pub gave-silent : (check : Check) (first : StationState) (number : ℕ) (s : SlaveState NodeState) (lines more : List Line) (bytes : List ℕ) → ExecuteNothing (S number) more → StationGave check first number s lines bytes
    → StationGave check first number s (lines ++ more) bytes
gave-silent check first number s lines more bytes none g = record {
  past = g.past;
  came = g.came;
  check_is = g.check_is;
  gave = g.gave;
  serves = subst (λ (l : List (List ℕ)). Serves first s.host l (handed_out g.past.events)) (sym (adds-none (executed_at (S number)) lines more none)) g.serves;
}

-- ---- what a byte leaves of the host

-- with what was executed and handed out there
abbrev Later : StationState → NodeState → List (List ℕ) → List (List ℕ) → List (List ℕ) → List (List ℕ) → Type 0
Later first host executed messages now more = Serves first host (executed ++ now) (messages ++ more)

same-later : (first : StationState) (host : NodeState) (executed messages : List (List ℕ)) → Serves first host executed messages → Later first host executed messages [] []
same-later first host executed messages h = rw (append-nil executed, append-nil messages) h

fate-serves : (first : StationState) (s : SlaveState NodeState) (executed messages : List (List ℕ)) (what : Option Fate) → Serves first s.host executed messages → Serves first (told node_host s what).host executed messages
fate-serves first s executed messages None h = h
fate-serves first s executed messages (Some what) h = serves-told what h

fate-later : (first : StationState) (s : SlaveState NodeState) (executed messages : List (List ℕ)) (what : Option Fate) → Serves first s.host executed messages
    → Later first (told node_host s what).host executed messages [] (flat_map handed_at (telling what))
fate-later first s executed messages None h = same-later first s.host executed messages h
fate-later first s executed messages (Some what) h = same-later first (told node_host s (Some what)).host executed messages (serves-told what h)

answered-later : (first : StationState) (s : SlaveState NodeState) (executed messages : List (List ℕ)) (held : Option Held) (next : Option (List ℕ)) → node_host.next_body s.host ≡ next → Serves first s.host executed messages
    → Later first (answered node_host s held).host executed messages [] (flat_map handed_at (sending_begun held next))
answered-later first s executed messages (Some message) next is h = same-later first s.host executed messages h
answered-later first s executed messages None None is h =
    subst (λ (o : Option (List ℕ)). Later first (offered node_host s o).host executed messages [] []) (sym is) (same-later first s.host executed messages h)
answered-later first s executed messages None (Some body) is h =
    subst (λ (o : Option (List ℕ)). Later first (offered node_host s o).host executed messages [] (body ∷ [])) (sym is) (rw (append-nil executed) (serves-next body is h))

telling-more : (what : Option Fate) (more : List (List ℕ)) → more ≡ flat_map handed_at (telling what) ++ more
telling-more None more = refl
telling-more (Some what) more = refl

polled-later : (first : StationState) (s : SlaveState NodeState) (executed messages : List (List ℕ)) → Serves first s.host executed messages → Later first (polled node_host s).host executed messages [] (flat_map handed_at (events_of_poll node_host s))
polled-later first s executed messages h =
    let what = fate_at_poll s.setup.max_sends s.held in
    let after = told node_host s what in
    let begun = sending_begun after.held (node_host.next_body after.host) in
    subst (λ (l : List (List ℕ)). Later first (polled node_host s).host executed messages [] l) (telling-more what (flat_map handed_at begun) ∙ sym (flat_map-append handed_at (telling what) begun))
    (answered-later first after executed messages after.held (node_host.next_body after.host) refl (fate-serves first s executed messages what h))

poll-later : (first : StationState) (s : SlaveState NodeState) (executed messages : List (List ℕ)) (answers : Bool) → Serves first s.host executed messages
    → Later first (if answers then polled node_host s else s).host executed messages [] (flat_map handed_at (if answers then events_of_poll node_host s else []))
poll-later first s executed messages true h = polled-later first s executed messages h
poll-later first s executed messages false h = same-later first s.host executed messages h

accept-later : (first : StationState) (node : NodeState) (executed messages : List (List ℕ)) (body : List ℕ) (reply : Bool) → is_reply body ≡ reply → Serves first node executed messages
    → Later first (after_accept node body) executed messages (if reply then [] else body ∷ []) []
accept-later first node executed messages body true is h = same-later first (after_accept node body) executed messages (serves-reply body is h)
accept-later first node executed messages body false is h = rw (append-nil messages) (serves-accept body is h)

received-later : (first : StationState) (s : SlaveState NodeState) (executed messages : List (List ℕ)) (own : Bool) (v : Verdict) → Serves first s.host executed messages
    → Later first (if own then received node_host s v else s).host executed messages (command_at_act (if own then verdict_act v else act.Nothing) (body_of s)) []
received-later first s executed messages true Repeated h = same-later first s.host executed messages h
received-later first s executed messages true Accepted h = accept-later first s.host executed messages (body_of s) (is_reply (body_of s)) refl h
received-later first s executed messages true Refused h = same-later first s.host executed messages h
received-later first s executed messages false v h = same-later first s.host executed messages h

damaged-none : (own : Bool) (body : List ℕ) → command_at_act (if own then act.Damaged else act.Nothing) body ≡ []
damaged-none true body = refl
damaged-none false body = refl

heard-later : (first : StationState) (s : SlaveState NodeState) (what : Option SlaveHeard) (executed messages : List (List ℕ)) → Serves first s.host executed messages
    → Later first (slave_after_heard node_host s what).host executed messages (command_at_act (act_at node_host s what) (body_of s)) (flat_map handed_at (events_at_heard node_host s what))
heard-later first s None executed messages h = same-later first s.host executed messages h
heard-later first s (Some (heard.Addressed stn)) executed messages h = received-later first s executed messages (is_own s stn) (verdict node_host s) h
heard-later first s (Some (heard.Header stn)) executed messages h = same-later first s.host executed messages h
heard-later first s (Some (heard.Poll stn)) executed messages h = poll-later first s executed messages (is_answered s stn) h
heard-later first s (Some heard.BadPoll) executed messages h = same-later first s.host executed messages h
heard-later first s (Some (heard.Damaged stn)) executed messages h = rw (damaged-none (is_own s stn) (body_of s)) (same-later first s.host executed messages h)
heard-later first s (Some heard.Ack) executed messages h = fate-later first s executed messages (fate_at_ack s.held) h
heard-later first s (Some heard.Reset) executed messages h =
    let after = fate-later first s executed messages (fate_at_reset s.held) h in
    serves-clear after
heard-later first s (Some (heard.Stray b)) executed messages h = same-later first s.host executed messages h
heard-later first s (Some (heard.StrayPair code)) executed messages h = same-later first s.host executed messages h

-- ---- the steps

did-as-node : (s : SlaveState NodeState) (b : ℕ) → DidAsNode (step_at_byte node_host s b).act (step_at_byte node_host s b).did s.host (body_of (listened s b))
did-as-node s b is = ap (λ (a : Act). did_at node_host a s.host (body_of (listened s b))) is

pub gave-byte : (check : Check) (first : StationState) (number : ℕ) (s : SlaveState NodeState) (b : ℕ) (lines : List Line) (bytes : List ℕ) → StationGave check first number s lines bytes
    → StationGave check first number (slave_after_byte node_host s b) (lines ++ step_lines (S number) (step_at_byte node_host s b) (body_of (slave_after_byte node_host s b))) bytes
gave-byte check first number s b lines bytes g =
    let step = step_at_byte node_host s b in
    let body = body_of (listened s b) in
    let itself = eq-eqb number number refl in
    let executed = ap (λ (x : List ℕ). executed_in (S number) (lines ++ step_lines (S number) step x)) (lent-after s b) ∙ step-own (S number) itself step s.host body lines (executed_in (S number) lines) (did-as-node s b) refl in
    let later = heard-later first (listened s b) (heard_at s b) (executed_in (S number) lines) (handed_out g.past.events) g.serves in
    record {
      past = record { events = g.past.events ++ events_at node_host s (Byte b); gave = g.past.gave ++ [] };
      came = goes_on g.past s (Byte b) g.came;
      check_is = ap (λ x. x.check) (byte-setup node_host s b) ∙ g.check_is;
      gave = ap bytes_given (append-nil g.past.gave) ∙ g.gave;
      serves = rw (executed, flat_map-append handed_at g.past.events (events_at node_host s (Byte b))) later;
    }

given-byte : (o : Option Out) → bytes_given (option_to_list o) ≡ option_to_list (option_map (λ (out : Out). out.byte) o)
given-byte None = refl
given-byte (Some out) = refl

pub gave-take : (check : Check) (first : StationState) (number : ℕ) (s : SlaveState NodeState) (lines : List Line) (bytes : List ℕ) → StationGave check first number s lines bytes
    → StationGave check first number (slave_after_take s) lines (bytes ++ option_to_list (option_map (λ (out : Out). out.byte) (out_at_take s)))
gave-take check first number s lines bytes g = record {
  past = record { events = g.past.events ++ []; gave = g.past.gave ++ option_to_list (out_at_take s) };
  came = goes_on g.past s Take g.came;
  check_is = g.check_is;
  gave = map-append (λ (out : Out). out.byte) g.past.gave (option_to_list (out_at_take s)) ∙ rw (g.gave, given-byte (out_at_take s)) refl;
  serves = rw (append-nil g.past.events) g.serves;
}
