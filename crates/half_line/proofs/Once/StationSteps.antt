-- What a byte and a take do to a station: what its node keeps to, and that what it transmits is the message that it handed out last.
use Rattle.std.proofs.Common.{◌≡◌, ◌∙◌, ℕ, Bool, true, false, List, [], ◌∷◌, ◌++◌, Option, Some, None, is_some, option_map, refl, sym, ap, subst, append-nil}
use Rattle.std.specs.Prelude.{if◌then◌else◌}
use Rattle.std.proofs.lemmas.Bool.{eqb-true}
use Rattle.df1_base.specs.declared.host.Fate.{Fate}
use Rattle.df1_base.specs.declared.host.News.TheVariants as news
use Rattle.df1_base.specs.declared.link.Act.{Act}
use Rattle.df1_base.specs.declared.link.Act.TheVariants as act
use Rattle.df1_base.specs.declared.link.Out.{Out}
use Rattle.df1_base.specs.declared.link.Resp.{Resp}
use Rattle.df1_base.specs.HostAnswers.{news_of, did_at}
use Rattle.half_frame.specs.declared.heard.SlaveHeard.{SlaveHeard}
use Rattle.half_frame.specs.declared.heard.SlaveHeard.TheVariants as heard
use Rattle.half_frame.specs.SlaveStanding.{lent_at}
use Rattle.half_mouth.specs.Giving.{Giving, is_done}
use Rattle.pccc_envelope.specs.Envelope.{key_of}
use Rattle.pccc_envelope.specs.Accepted.{Verdict, Repeated, Accepted, Refused, is_kept}
use Rattle.df1_node.specs.Answer.{StationState}
use Rattle.df1_node.specs.Node.{NodeState, next_body, news_told, after_next, after_told, after_clear}
use Rattle.half_slave.specs.declared.SlaveSetup.{SlaveSetup}
use Rattle.half_slave.specs.declared.held.Held.{Held}
use Rattle.half_slave.specs.Slave.{is_whole, station_of, SlaveState, new_slave, body_of, ends_here, after_sending, fate_at_poll, fate_at_ack, fate_at_reset, told, verdict, verdict_act, received, sent, offered, answered, polled, reset, heard_at, listened, is_own, is_answered, slave_after_heard, act_at, fate_at, slave_after_byte, step_at_byte, with_response, mouth_at_take, out_at_take, slave_after_take}
use Rattle.half_master.proofs.LastMessage.{IsLast, Gives, take-gives, take-ends}
use Rattle.script_statement.specs.declared.who.Who.{Who}
use Rattle.replay_report.specs.declared.record.Line.{Line}
use Rattle.report_lines.specs.NodeLines.{news_lines}
use Rattle.each_once.specs.NodeHost.{node_host}
use Rattle.each_once.proofs.AnsweringStation.{Serves, serves-start, serves-next, serves-told, serves-clear}

-- ---- a station that handed out these messages

-- while it holds one, or one is being given, it is the last of them
pub record Sends (s : SlaveState NodeState) (messages : List (List ℕ)) : Type 0 where
  pub current : is_some s.held ≡ true → IsLast messages s.sending
  pub begun : Gives s.mouth → IsLast messages s.sending

pub sends-start : (setup : SlaveSetup) (node : NodeState) → Sends (new_slave setup node) []
sends-start setup node = record { current = λ holds. absurd cc; begun = λ gives. absurd (let none = gives.1 in cc) }

-- a station that executed these commands and hands out replies alone
pub record Keeps (first : StationState) (s : SlaveState NodeState) (executed messages : List (List ℕ)) : Type 0 where
  pub serves : Serves first s.host executed messages
  pub sends : Sends s messages

pub keeps-start : (first : StationState) (setup : SlaveSetup) (node : NodeState) → node.station ≡ first → node.replies ≡ [] → node.initiator.issued ≡ [] → Keeps first (new_slave setup node) [] []
keeps-start first setup node station replies issued = record {
  serves = serves-start first node station replies issued;
  sends = sends-start setup node;
}

-- ---- what a node keeps to, of what was handed out and of the lines so far: over fates, hand-outs and what is dropped

pub record Hands (who : Who) (P : NodeState → List (List ℕ) → List Line → Type 0) : Type 0 where
  pub told : (node : NodeState) (messages : List (List ℕ)) (lines : List Line) (what : Fate) → P node messages lines → P (after_told node what) messages (lines ++ news_lines who (news_told node what))
  pub next : (node : NodeState) (messages : List (List ℕ)) (lines : List Line) (body : List ℕ) → next_body node ≡ Some body → P node messages lines → P (after_next node) (messages ++ body ∷ []) lines
  pub clear : (node : NodeState) (messages : List (List ℕ)) (lines : List Line) → P node messages lines → P (after_clear node) messages lines

-- as a station does that executed these commands and issues none
abbrev pub serving : StationState → List (List ℕ) → NodeState → List (List ℕ) → List Line → Type 0
serving first executed node messages lines = Serves first node executed messages

pub serving-hands : (who : Who) (first : StationState) (executed : List (List ℕ)) → Hands who (serving first executed)
serving-hands who first executed = record {
  told = λ node messages lines what h. serves-told what h;
  next = λ node messages lines body is h. serves-next body is h;
  clear = λ node messages lines h. serves-clear h;
}

-- it may have handed out more
pub record KeepsMore (P : NodeState → List (List ℕ) → List Line → Type 0) (s : SlaveState NodeState) (messages : List (List ℕ)) (lines : List Line) : Type 0 where
  pub more : List (List ℕ)
  pub holds : P s.host (messages ++ more) lines
  pub sends : Sends s (messages ++ more)

no-more : (P : NodeState → List (List ℕ) → List Line → Type 0) (s : SlaveState NodeState) (messages : List (List ℕ)) (lines : List Line) → P s.host messages lines → Sends s messages → KeepsMore P s messages lines
no-more P s messages lines p sends = record {
  more = [];
  holds = subst (λ all. P s.host all lines) (sym (append-nil messages)) p;
  sends = subst (λ all. Sends s all) (sym (append-nil messages)) sends;
}

-- ---- a fate, a poll and a reset

-- the lines of a fate
abbrev fate_lines : Who → Option Fate → NodeState → List Line
fate_lines who what host = news_lines who (news_of node_host what host)

told-keeps : (who : Who) (P : NodeState → List (List ℕ) → List Line → Type 0) → Hands who P → (s : SlaveState NodeState) (messages : List (List ℕ)) (lines : List Line) (what : Option Fate) → P s.host messages lines
    → P (told node_host s what).host messages (lines ++ fate_lines who what s.host)
told-keeps who P hands s messages lines None p = rw (append-nil lines) p
told-keeps who P hands s messages lines (Some what) p = hands.told s.host messages lines what p

told-sends : (s : SlaveState NodeState) (messages : List (List ℕ)) (what : Option Fate) → Sends s messages → Sends (told node_host s what) messages
told-sends s messages None sends = sends
told-sends s messages (Some what) sends = record { current = λ holds. absurd cc; begun = sends.begun }

offered-keeps : (who : Who) (P : NodeState → List (List ℕ) → List Line → Type 0) → Hands who P → (s : SlaveState NodeState) (messages : List (List ℕ)) (lines : List Line) (next : Option (List ℕ)) → node_host.next_body s.host ≡ next
    → P s.host messages lines → Sends s messages → KeepsMore P (offered node_host s next) messages lines
offered-keeps who P hands s messages lines None is p sends =
    no-more P (offered node_host s None) messages lines p (record { current = sends.current; begun = λ gives. absurd (let number = gives.1 in cc) })
offered-keeps who P hands s messages lines (Some body) is p sends = record {
  more = body ∷ [];
  holds = hands.next s.host messages lines body is p;
  sends = record { current = λ holds. (messages, refl); begun = λ gives. (messages, refl) };
}

-- whether a message is held decides
answered-keeps : (who : Who) (P : NodeState → List (List ℕ) → List Line → Type 0) → Hands who P → (s : SlaveState NodeState) (messages : List (List ℕ)) (lines : List Line) → P s.host messages lines → Sends s messages
    → KeepsMore P (answered node_host s s.held) messages lines
answered-keeps who P hands s messages lines p sends = elim s.held as (λ h. is_some h ≡ is_some s.held → KeepsMore P (answered node_host s h) messages lines) [
  | None ↦ λ none. offered-keeps who P hands s messages lines (node_host.next_body s.host) refl p sends
  | Some message ↦ λ some. no-more P (sent s) messages lines p (record { current = sends.current; begun = λ gives. sends.current (sym some) })
] refl

polled-keeps : (who : Who) (P : NodeState → List (List ℕ) → List Line → Type 0) → Hands who P → (s : SlaveState NodeState) (messages : List (List ℕ)) (lines : List Line) → P s.host messages lines → Sends s messages
    → KeepsMore P (polled node_host s) messages (lines ++ fate_lines who (fate_at_poll s.setup.max_sends s.held) s.host)
polled-keeps who P hands s messages lines p sends =
    let what = fate_at_poll s.setup.max_sends s.held in
    let after = told node_host s what in
    answered-keeps who P hands after messages (lines ++ fate_lines who what s.host) (told-keeps who P hands s messages lines what p) (told-sends s messages what sends)

reset-keeps : (who : Who) (P : NodeState → List (List ℕ) → List Line → Type 0) → Hands who P → (s : SlaveState NodeState) (messages : List (List ℕ)) (lines : List Line) → P s.host messages lines → Sends s messages
    → KeepsMore P (reset node_host s) messages (lines ++ fate_lines who (fate_at_reset s.held) s.host)
reset-keeps who P hands s messages lines p sends =
    let what = fate_at_reset s.held in
    let after = told node_host s what in
    let told_sends = told-sends s messages what sends in
    no-more P (reset node_host s) messages (lines ++ fate_lines who what s.host) (hands.clear after.host messages (lines ++ fate_lines who what s.host) (told-keeps who P hands s messages lines what p))
    (record { current = told_sends.current; begun = told_sends.begun })

-- ---- what is heard

-- what it was set up with, and what it lends, stay
told-stays : (s : SlaveState NodeState) (what : Option Fate) → ((told node_host s what).setup ≡ s.setup) × ((told node_host s what).ear ≡ s.ear) × ((told node_host s what).kept ≡ s.kept)
told-stays s None = (refl, refl, refl)
told-stays s (Some what) = (refl, refl, refl)

answered-stays : (s : SlaveState NodeState) (next : Option (List ℕ)) → ((offered node_host s next).setup ≡ s.setup) × ((offered node_host s next).ear ≡ s.ear) × ((offered node_host s next).kept ≡ s.kept)
answered-stays s None = (refl, refl, refl)
answered-stays s (Some body) = (refl, refl, refl)

-- the same setup, the same ear and the same key
abbrev Alike : SlaveState NodeState → SlaveState NodeState → Type 0
Alike s t = (t.setup ≡ s.setup) × (t.ear ≡ s.ear) × (t.kept ≡ s.kept)

polled-alike : (s : SlaveState NodeState) → Alike s (polled node_host s)
polled-alike s =
    let after = told node_host s (fate_at_poll s.setup.max_sends s.held) in
    let first = told-stays s (fate_at_poll s.setup.max_sends s.held) in
    elim after.held as (λ h. Alike s (answered node_host after h)) [
      | None ↦ let next = answered-stays after (node_host.next_body after.host) in (next.0 ∙ first.0, next.1 ∙ first.1, next.2 ∙ first.2)
      | Some message ↦ (first.0, first.1, first.2)
    ]

-- a message was accepted: it names this station, and its key wasn't the kept one
pub record Accepts (s : SlaveState NodeState) (b : ℕ) : Type 0 where
  pub whole : (step_at_byte node_host s b).whole ≡ true
  pub station : (step_at_byte node_host s b).station ≡ s.setup.station
  pub new : is_kept s.kept (key_of (body_of (listened s b))) ≡ false
  pub host : (slave_after_byte node_host s b).host ≡ node_host.after_accept s.host (body_of (listened s b))
  pub kept : (slave_after_byte node_host s b).kept ≡ Some (key_of (body_of (listened s b)))
  pub act : (step_at_byte node_host s b).act ≡ act.Accept
  pub did : (step_at_byte node_host s b).did ≡ Some (node_host.did s.host (body_of (listened s b)))
  pub news : (step_at_byte node_host s b).news ≡ news.Nothing
  pub sends : {messages : List (List ℕ)} → Sends s messages → Sends (slave_after_byte node_host s b) messages

-- none was
pub record PassesOver (who : Who) (P : NodeState → List (List ℕ) → List Line → Type 0) (s : SlaveState NodeState) (b : ℕ) : Type 0 where
  pub act : (step_at_byte node_host s b).act ≡ act.Accept → ⊥
  pub kept : (slave_after_byte node_host s b).kept ≡ s.kept
  pub keeps : (messages : List (List ℕ)) (lines : List Line) → P s.host messages lines → Sends s messages → KeepsMore P (slave_after_byte node_host s b) messages (lines ++ news_lines who (step_at_byte node_host s b).news)

pub data AtByte (who : Who) (P : NodeState → List (List ℕ) → List Line → Type 0) (s : SlaveState NodeState) (b : ℕ) : Type 0 where
  accepts : Accepts s b → AtByte who P s b
  passes : PassesOver who P s b → AtByte who P s b

-- the same, of a slave whose ear took the byte, by what it heard
record Took (s after : SlaveState NodeState) (what : Option SlaveHeard) (a : Act) : Type 0 where
  is_whole_one : is_whole what ≡ true
  is_own_one : station_of what ≡ s.setup.station
  is_told_none : fate_at s what ≡ None
  is_new : is_kept s.kept (key_of (body_of s)) ≡ false
  is_host : after.host ≡ node_host.after_accept s.host (body_of s)
  is_kept_now : after.kept ≡ Some (key_of (body_of s))
  is_act : a ≡ act.Accept
  is_sends : {messages : List (List ℕ)} → Sends s messages → Sends after messages

-- over the lines of what is told of it
record Passed (who : Who) (P : NodeState → List (List ℕ) → List Line → Type 0) (s after : SlaveState NodeState) (what : Option SlaveHeard) (a : Act) : Type 0 where
  is_act : a ≡ act.Accept → ⊥
  is_kept_now : after.kept ≡ s.kept
  is_keeps : (messages : List (List ℕ)) (lines : List Line) → P s.host messages lines → Sends s messages → KeepsMore P after messages (lines ++ fate_lines who (fate_at s what) s.host)

data AtHeard (who : Who) (P : NodeState → List (List ℕ) → List Line → Type 0) (s after : SlaveState NodeState) (what : Option SlaveHeard) (a : Act) : Type 0 where
  took : Took s after what a → AtHeard who P s after what a
  passed : Passed who P s after what a → AtHeard who P s after what a

-- no fate is told, and the host and what is sent are the same
untold : (who : Who) (P : NodeState → List (List ℕ) → List Line → Type 0) (s after : SlaveState NodeState) (messages : List (List ℕ)) (lines : List Line) → P after.host messages lines → Sends after messages
    → KeepsMore P after messages (lines ++ [])
untold who P s after messages lines p sends = rw (append-nil lines) (no-more P after messages lines p sends)

still : (who : Who) (P : NodeState → List (List ℕ) → List Line → Type 0) (s : SlaveState NodeState) (what : Option SlaveHeard) (a : Act) → fate_at s what ≡ None → (a ≡ act.Accept → ⊥) → AtHeard who P s s what a
still who P s what a none not = passed (record { is_act = not; is_kept_now = refl; is_keeps = λ messages lines p sends. rw none (untold who P s s messages lines p sends) })

responds-keeps : (who : Who) (P : NodeState → List (List ℕ) → List Line → Type 0) (s : SlaveState NodeState) (r : Option Resp) (messages : List (List ℕ)) (lines : List Line) → P s.host messages lines → Sends s messages
    → KeepsMore P (record s { responds = r }) messages (lines ++ [])
responds-keeps who P s r messages lines p sends = untold who P s (record s { responds = r }) messages lines p (record { current = sends.current; begun = sends.begun })

judged-heard : (who : Who) (P : NodeState → List (List ℕ) → List Line → Type 0) (s : SlaveState NodeState) (stn : ℕ) (kept room : Bool) → stn ≡ s.setup.station → is_kept s.kept (key_of (body_of s)) ≡ kept
    → let v : Verdict = if kept then Repeated else (if room then Accepted else Refused) in AtHeard who P s (received node_host s v) (Some (heard.Addressed stn)) (verdict_act v)
judged-heard who P s stn true room own is = passed (record { is_act = λ no. cc; is_kept_now = refl; is_keeps = λ messages lines p sends. responds-keeps who P s _ messages lines p sends })
judged-heard who P s stn false true own is = took (record {
  is_whole_one = refl;
  is_own_one = own;
  is_told_none = refl;
  is_new = is;
  is_host = refl;
  is_kept_now = refl;
  is_act = refl;
  is_sends = λ sends. record { current = sends.current; begun = sends.begun };
})
judged-heard who P s stn false false own is = passed (record { is_act = λ no. cc; is_kept_now = refl; is_keeps = λ messages lines p sends. responds-keeps who P s _ messages lines p sends })

addressed-heard : (who : Who) (P : NodeState → List (List ℕ) → List Line → Type 0) (s : SlaveState NodeState) (stn : ℕ) (own : Bool) → is_own s stn ≡ own
    → AtHeard who P s (if own then received node_host s (verdict node_host s) else s) (Some (heard.Addressed stn)) (if own then verdict_act (verdict node_host s) else act.Nothing)
addressed-heard who P s stn true is = judged-heard who P s stn (is_kept s.kept (key_of (body_of s))) (node_host.room_for s.host (body_of s)) (eqb-true _ _ is) refl
addressed-heard who P s stn false is = still who P s (Some (heard.Addressed stn)) act.Nothing refl (λ no. cc)

polled-heard : (who : Who) (P : NodeState → List (List ℕ) → List Line → Type 0) → Hands who P → (s : SlaveState NodeState) (stn : ℕ) (answers : Bool) → is_answered s stn ≡ answers
    → AtHeard who P s (if answers then polled node_host s else s) (Some (heard.Poll stn)) act.Nothing
polled-heard who P hands s stn true is = passed (record {
  is_act = λ no. cc;
  is_kept_now = (polled-alike s).2;
  is_keeps = λ messages lines p sends. rw is (polled-keeps who P hands s messages lines p sends);
})
polled-heard who P hands s stn false is = still who P s (Some (heard.Poll stn)) act.Nothing (rw is refl) (λ no. cc)

damaged-act : (own : Bool) → (if own then act.Damaged else act.Nothing) ≡ act.Accept → ⊥
damaged-act true is = cc
damaged-act false is = cc

at-heard : (who : Who) (P : NodeState → List (List ℕ) → List Line → Type 0) → Hands who P → (s : SlaveState NodeState) (what : Option SlaveHeard) → AtHeard who P s (slave_after_heard node_host s what) what (act_at node_host s what)
at-heard who P hands s None = still who P s None act.Nothing refl (λ no. cc)
at-heard who P hands s (Some (heard.Addressed stn)) = addressed-heard who P s stn (is_own s stn) refl
at-heard who P hands s (Some (heard.Header stn)) = still who P s _ act.Nothing refl (λ no. cc)
at-heard who P hands s (Some (heard.Poll stn)) = polled-heard who P hands s stn (is_answered s stn) refl
at-heard who P hands s (Some heard.BadPoll) = still who P s _ act.Nothing refl (λ no. cc)
at-heard who P hands s (Some (heard.Damaged stn)) = still who P s _ _ refl (damaged-act (is_own s stn))
at-heard who P hands s (Some heard.Ack) = passed (record {
  is_act = λ no. cc;
  is_kept_now = (told-stays s (fate_at_ack s.held)).2;
  is_keeps = λ messages lines p sends. no-more P (told node_host s (fate_at_ack s.held)) messages _ (told-keeps who P hands s messages lines (fate_at_ack s.held) p) (told-sends s messages (fate_at_ack s.held) sends);
})
at-heard who P hands s (Some heard.Reset) = passed (record {
  is_act = λ no. cc;
  is_kept_now = (told-stays s (fate_at_reset s.held)).2;
  is_keeps = λ messages lines p sends. reset-keeps who P hands s messages lines p sends;
})
at-heard who P hands s (Some (heard.Stray b)) = still who P s _ act.Nothing refl (λ no. cc)
at-heard who P hands s (Some (heard.StrayPair code)) = still who P s _ act.Nothing refl (λ no. cc)

-- the ear, and what the slave was set up with
alike-if : (s t u : SlaveState NodeState) (test : Bool) → (t.setup ≡ s.setup) × (t.ear ≡ s.ear) → (u.setup ≡ s.setup) × (u.ear ≡ s.ear) → ((if test then t else u).setup ≡ s.setup) × ((if test then t else u).ear ≡ s.ear)
alike-if s t u true first second = first
alike-if s t u false first second = second

received-alike : (s : SlaveState NodeState) (v : Verdict) → ((received node_host s v).setup ≡ s.setup) × ((received node_host s v).ear ≡ s.ear)
received-alike s Repeated = (refl, refl)
received-alike s Accepted = (refl, refl)
received-alike s Refused = (refl, refl)

heard-alike : (s : SlaveState NodeState) (what : Option SlaveHeard) → ((slave_after_heard node_host s what).setup ≡ s.setup) × ((slave_after_heard node_host s what).ear ≡ s.ear)
heard-alike s None = (refl, refl)
heard-alike s (Some (heard.Addressed stn)) = alike-if s (received node_host s (verdict node_host s)) s (is_own s stn) (received-alike s (verdict node_host s)) (refl, refl)
heard-alike s (Some (heard.Header stn)) = (refl, refl)
heard-alike s (Some (heard.Poll stn)) = let p = polled-alike s in alike-if s (polled node_host s) s (is_answered s stn) (p.0, p.1) (refl, refl)
heard-alike s (Some heard.BadPoll) = (refl, refl)
heard-alike s (Some (heard.Damaged stn)) = (refl, refl)
heard-alike s (Some heard.Ack) = let t = told-stays s (fate_at_ack s.held) in (t.0, t.1)
heard-alike s (Some heard.Reset) = let t = told-stays s (fate_at_reset s.held) in (t.0, t.1)
heard-alike s (Some (heard.Stray b)) = (refl, refl)
heard-alike s (Some (heard.StrayPair code)) = (refl, refl)

-- ---- a byte

pub setup-stays : (s : SlaveState NodeState) (b : ℕ) → (slave_after_byte node_host s b).setup ≡ s.setup
setup-stays s b = (heard-alike (listened s b) (heard_at s b)).0

-- the body that is lent after it
pub lent-after : (s : SlaveState NodeState) (b : ℕ) → body_of (slave_after_byte node_host s b) ≡ body_of (listened s b)
lent-after s b = ap (λ ear. lent_at ear.standing) (heard-alike (listened s b) (heard_at s b)).1

still-held : (h : Option Held) (change : Held → Held) → is_some (option_map change h) ≡ is_some h
still-held None change = refl
still-held (Some message) change = refl

listened-sends : (s : SlaveState NodeState) (b : ℕ) (messages : List (List ℕ)) → Sends s messages → Sends (listened s b) messages
listened-sends s b messages sends = record { current = λ holds. sends.current (sym (still-held s.held _) ∙ holds); begun = sends.begun }

of-heard : (who : Who) (P : NodeState → List (List ℕ) → List Line → Type 0) (s : SlaveState NodeState) (b : ℕ) → AtHeard who P (listened s b) (slave_after_byte node_host s b) (heard_at s b) (act_at node_host (listened s b) (heard_at s b)) → AtByte who P s b
of-heard who P s b (took t) = accepts (record {
  whole = t.is_whole_one;
  station = t.is_own_one;
  new = t.is_new;
  host = t.is_host;
  kept = t.is_kept_now;
  act = t.is_act;
  did = ap (λ a. did_at node_host a s.host (body_of (listened s b))) t.is_act;
  news = ap (λ what. news_of node_host what s.host) t.is_told_none;
  sends = λ {messages} sends. t.is_sends (listened-sends s b messages sends);
})
of-heard who P s b (passed p) = passes (record {
  act = p.is_act;
  kept = p.is_kept_now;
  keeps = λ messages lines holds sends. p.is_keeps messages lines holds (listened-sends s b messages sends);
})

pub at-byte : (who : Who) (P : NodeState → List (List ℕ) → List Line → Type 0) → Hands who P → (s : SlaveState NodeState) (b : ℕ) → AtByte who P s b
at-byte who P hands s b = of-heard who P s b (at-heard who P hands (listened s b) (heard_at s b))

-- ---- a take

out-held : (ends : Bool) (h : Option Held) → is_some (if ends then option_map after_sending h else h) ≡ is_some h
out-held true h = still-held h after_sending
out-held false h = refl

-- a response that is begun is no transmission
response-gives : (g : Giving) (responds : Option Resp) (done : Bool) → Gives (if done then with_response g responds else g) → Gives g
response-gives g responds false gives = gives
response-gives g None true gives = gives
response-gives g (Some r) true gives = absurd (let none = gives.1 in cc)

pub take-sends : (s : SlaveState NodeState) (messages : List (List ℕ)) → Sends s messages → Sends (slave_after_take s) messages
take-sends s messages sends = record {
  current = λ holds. sends.current (sym (out-held (ends_here (out_at_take s)) s.held) ∙ holds);
  begun = λ gives. sends.begun (response-gives s.mouth s.responds (is_done s.mouth) (take-gives (mouth_at_take s.mouth s.responds) gives));
}

pub take-keeps : (first : StationState) (s : SlaveState NodeState) (executed messages : List (List ℕ)) → Keeps first s executed messages → Keeps first (slave_after_take s) executed messages
take-keeps first s executed messages k = record { serves = k.serves; sends = take-sends s messages k.sends }

-- a byte that ends a transmission ends one of the last message
pub sent-ends : (s : SlaveState NodeState) (messages : List (List ℕ)) (out : Out) (number : ℕ) → Sends s messages → out_at_take s ≡ Some out → out.last_of ≡ Some number → IsLast messages (slave_after_take s).sending
sent-ends s messages out number sends is last = sends.begun (response-gives s.mouth s.responds (is_done s.mouth) (take-ends (mouth_at_take s.mouth s.responds) out number is last))
