-- What the lines of an end and its host tell of the bytes that an end sent, and of the commands that one executed.
use Rattle.std.proofs.Common.{◌≡◌, ◌∙◌, ℕ, ◌+◌, Bool, true, false, List, [], ◌∷◌, ◌++◌, Option, Some, None, refl, ap, append-nil}
use Rattle.std.specs.Prelude.{if◌then◌else◌}
use Rattle.std.specs.Option.{option_map_or}
use Rattle.std.proofs.lemmas.List.Concat.{flat_map-append}
use Rattle.df1_base.specs.declared.host.Did.{Did}
use Rattle.df1_base.specs.declared.host.Did.TheVariants as did
use Rattle.df1_base.specs.declared.host.News.{News}
use Rattle.df1_base.specs.declared.host.News.TheVariants as news
use Rattle.df1_base.specs.declared.link.Act.{Act}
use Rattle.df1_base.specs.declared.link.Act.TheVariants as act
use Rattle.df1_base.specs.declared.link.Step.{Step}
use Rattle.df1_base.specs.declared.link.Turn.{Turn}
use Rattle.df1_base.specs.declared.link.Turn.TheVariants as turn
use Rattle.pccc_envelope.specs.Envelope.{is_reply}
use Rattle.df1_node.specs.Initiator.{answered_place}
use Rattle.df1_node.specs.Node.{NodeState}
use Rattle.script_statement.specs.declared.who.Who.{Who}
use Rattle.replay_report.specs.declared.record.Line.{Line}
use Rattle.replay_report.specs.Report.{sent_lines}
use Rattle.report_lines.specs.NodeLines.{did_lines, act_lines, news_lines, step_lines, turn_lines, gone_lines}
use Rattle.report_lines.specs.SentBytes.{sent_at, sent_by}
use Rattle.report_lines.specs.Whose.{is_who}
use Rattle.each_once.specs.NodeHost.{node_host}
use Rattle.each_once.specs.Tells.{executed_at, executed_in}
use Rattle.each_once.proofs.ToldLines.{adds, adds-none}

-- ---- no byte was sent

abbrev pub SendNothing : Who → List Line → Type 0
SendNothing who more = sent_by who more ≡ []

pub sent-more : (who : Who) (lines more : List Line) → sent_by who (lines ++ more) ≡ sent_by who lines ++ sent_by who more
sent-more who lines more = flat_map-append (sent_at who) lines more

pub both-nothing : (who : Who) (xs ys : List Line) → SendNothing who xs → SendNothing who ys → SendNothing who (xs ++ ys)
both-nothing who xs ys x y = sent-more who xs ys ∙ rw (x, y) refl

did-nothing : (who by : Who) (what : Option Did) (body : List ℕ) → SendNothing who (did_lines by what body)
did-nothing who by None body = refl
did-nothing who by (Some did.Executed) body = refl
did-nothing who by (Some (did.Answered n)) body = refl
did-nothing who by (Some did.Stray) body = refl

act-nothing : (who by : Who) (what : Act) (did : Option Did) (body : List ℕ) → SendNothing who (act_lines by what did body)
act-nothing who by act.Accept did body = did-nothing who by did body
act-nothing who by act.Repeat did body = refl
act-nothing who by act.Refuse did body = refl
act-nothing who by act.Damaged did body = refl
act-nothing who by act.Forgot did body = refl
act-nothing who by act.PeerAck did body = refl
act-nothing who by act.PeerNak did body = refl
act-nothing who by act.PeerEnq did body = refl
act-nothing who by act.Nothing did body = refl

news-nothing : (who by : Who) (n : News) → SendNothing who (news_lines by n)
news-nothing who by news.Nothing = refl
news-nothing who by (news.Undelivered n) = refl
news-nothing who by news.Dropped = refl

pub step-nothing : (who by : Who) (step : Step) (body : List ℕ) → SendNothing who (step_lines by step body)
step-nothing who by step body = both-nothing who (act_lines by step.act step.did body) (news_lines by step.news) (act-nothing who by step.act step.did body) (news-nothing who by step.news)

turn-nothing : (who by : Who) (t : Turn) → SendNothing who (turn_lines by t)
turn-nothing who by turn.Still = refl
turn-nothing who by turn.Ask = refl
turn-nothing who by (turn.Failed n) = news-nothing who by n

gone-nothing : (who by : Who) (numbers : List ℕ) → SendNothing who (gone_lines by numbers)
gone-nothing who by [] = refl
gone-nothing who by (n ∷ numbers) = gone-nothing who by numbers

pub tick-nothing : (who by : Who) (t : Turn) (numbers : List ℕ) → SendNothing who (turn_lines by t ++ gone_lines by numbers)
tick-nothing who by t numbers = both-nothing who (turn_lines by t) (gone_lines by numbers) (turn-nothing who by t) (gone-nothing who by numbers)

-- the line of what an end sent tells these bytes, of this end and of no other
pub own-sent : (who : Who) → is_who who who ≡ true → (bytes : List ℕ) → sent_by who (sent_lines who bytes) ≡ bytes
own-sent who itself [] = refl
own-sent who itself (byte ∷ bytes) = rw itself (append-nil (byte ∷ bytes))

pub other-sent : (who by : Who) → is_who who by ≡ false → (bytes : List ℕ) → SendNothing who (sent_lines by bytes)
other-sent who by apart [] = refl
other-sent who by apart (byte ∷ bytes) = rw apart refl

-- ---- no command was executed

abbrev pub ExecuteNothing : Who → List Line → Type 0
ExecuteNothing who more = executed_in who more ≡ []

pub both-execute : (who : Who) (xs ys : List Line) → ExecuteNothing who xs → ExecuteNothing who ys → ExecuteNothing who (xs ++ ys)
both-execute who xs ys x y = adds-none (executed_at who) xs ys y ∙ x

news-execute : (who by : Who) (n : News) → ExecuteNothing who (news_lines by n)
news-execute who by news.Nothing = refl
news-execute who by (news.Undelivered n) = refl
news-execute who by news.Dropped = refl

turn-execute : (who by : Who) (t : Turn) → ExecuteNothing who (turn_lines by t)
turn-execute who by turn.Still = refl
turn-execute who by turn.Ask = refl
turn-execute who by (turn.Failed n) = news-execute who by n

gone-execute : (who by : Who) (numbers : List ℕ) → ExecuteNothing who (gone_lines by numbers)
gone-execute who by [] = refl
gone-execute who by (n ∷ numbers) = gone-execute who by numbers

pub tick-execute : (who by : Who) (t : Turn) (numbers : List ℕ) → ExecuteNothing who (turn_lines by t ++ gone_lines by numbers)
tick-execute who by t numbers = both-execute who (turn_lines by t) (gone_lines by numbers) (turn-execute who by t) (gone-execute who by numbers)

pub sent-execute : (who by : Who) (bytes : List ℕ) → ExecuteNothing who (sent_lines by bytes)
sent-execute who by [] = refl
sent-execute who by (byte ∷ bytes) = refl

did-other : (who by : Who) → is_who who by ≡ false → (what : Option Did) (body : List ℕ) → ExecuteNothing who (did_lines by what body)
did-other who by apart None body = refl
did-other who by apart (Some did.Executed) body = rw apart refl
did-other who by apart (Some (did.Answered n)) body = refl
did-other who by apart (Some did.Stray) body = refl

act-other : (who by : Who) → is_who who by ≡ false → (what : Act) (did : Option Did) (body : List ℕ) → ExecuteNothing who (act_lines by what did body)
act-other who by apart act.Accept did body = did-other who by apart did body
act-other who by apart act.Repeat did body = refl
act-other who by apart act.Refuse did body = refl
act-other who by apart act.Damaged did body = refl
act-other who by apart act.Forgot did body = refl
act-other who by apart act.PeerAck did body = refl
act-other who by apart act.PeerNak did body = refl
act-other who by apart act.PeerEnq did body = refl
act-other who by apart act.Nothing did body = refl

-- the lines of another end at a byte
pub step-other : (who by : Who) → is_who who by ≡ false → (step : Step) (body : List ℕ) → ExecuteNothing who (step_lines by step body)
step-other who by apart step body = both-execute who (act_lines by step.act step.did body) (news_lines by step.news) (act-other who by apart step.act step.did body) (news-execute who by step.news)

-- ---- a command is executed where one is accepted

-- the command that is executed at an act
abbrev pub command_at_act : Act → List ℕ → List (List ℕ)
command_at_act act.Accept body = if is_reply body then [] else body ∷ []
command_at_act act.Repeat body = []
command_at_act act.Refuse body = []
command_at_act act.Damaged body = []
command_at_act act.Forgot body = []
command_at_act act.PeerAck body = []
command_at_act act.PeerNak body = []
command_at_act act.PeerEnq body = []
command_at_act act.Nothing body = []

did-own : (who : Who) → is_who who who ≡ true → (body : List ℕ) (reply : Bool) (place : Option ℕ)
    → executed_in who (did_lines who (Some (if reply then option_map_or (λ place. did.Answered (place + 1)) place did.Stray else did.Executed)) body) ≡ (if reply then [] else body ∷ [])
did-own who itself body true None = refl
did-own who itself body true (Some place) = refl
did-own who itself body false place = rw itself refl

-- a node did with an accepted body what it does
abbrev pub DidAsNode : Act → Option Did → NodeState → List ℕ → Type 0
DidAsNode what done host body = what ≡ act.Accept → done ≡ Some (node_host.did host body)

act-own : (who : Who) → is_who who who ≡ true → (what : Act) (done : Option Did) (host : NodeState) (body : List ℕ) → DidAsNode what done host body → executed_in who (act_lines who what done body) ≡ command_at_act what body
act-own who itself act.Accept done host body did = rw (did refl) (did-own who itself body (is_reply body) (answered_place host.initiator.issued body))
act-own who itself act.Repeat done host body did = refl
act-own who itself act.Refuse done host body did = refl
act-own who itself act.Damaged done host body did = refl
act-own who itself act.Forgot done host body did = refl
act-own who itself act.PeerAck done host body did = refl
act-own who itself act.PeerNak done host body did = refl
act-own who itself act.PeerEnq done host body did = refl
act-own who itself act.Nothing done host body did = refl

-- the lines of an end at a byte tell the command that was executed there
pub step-own : (who : Who) → is_who who who ≡ true → (step : Step) (host : NodeState) (body : List ℕ) (lines : List Line) (executed : List (List ℕ)) → DidAsNode step.act step.did host body → executed_in who lines ≡ executed
    → executed_in who (lines ++ step_lines who step body) ≡ executed ++ command_at_act step.act body
step-own who itself step host body lines executed did is =
    adds (executed_at who) lines (step_lines who step body) (command_at_act step.act body)
    (adds-none (executed_at who) (act_lines who step.act step.did body) (news_lines who step.news) (news-execute who who step.news) ∙ act-own who itself step.act step.did host body did)
    ∙ ap (λ (l : List (List ℕ)). l ++ command_at_act step.act body) is
