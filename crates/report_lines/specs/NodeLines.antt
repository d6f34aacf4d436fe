-- The lines of a report that tell what an end and its host made of a byte, of a fate and of a tick.
use Rattle.std.specs.Prelude.{ℕ, List, [], ◌∷◌, ◌++◌, Option, Some, None}
use Rattle.df1_base.specs.declared.host.Did.{Did}
use Rattle.df1_base.specs.declared.host.Did.TheVariants as did
use Rattle.df1_base.specs.declared.host.News.{News}
use Rattle.df1_base.specs.declared.host.News.TheVariants as news
use Rattle.df1_base.specs.declared.link.Act.{Act}
use Rattle.df1_base.specs.declared.link.Act.TheVariants as act
use Rattle.df1_base.specs.declared.link.Step.{Step}
use Rattle.df1_base.specs.declared.link.Turn.{Turn}
use Rattle.df1_base.specs.declared.link.Turn.TheVariants as turn
use Rattle.script_statement.specs.declared.who.Who.{Who}
use Rattle.replay_report.specs.declared.record.Line.{Line}
use Rattle.replay_report.specs.declared.record.Line.TheVariants as line

-- what the host of an end did with a message
abbrev pub did_lines : Who → Option Did → List ℕ → List Line
did_lines who None body = []
did_lines who (Some did.Executed) body = line.Exec who body ∷ []
did_lines who (Some (did.Answered n)) body = line.Answered who n body ∷ []
did_lines who (Some did.Stray) body = line.Stray who body ∷ []

-- the line of an act
abbrev pub act_lines : Who → Act → Option Did → List ℕ → List Line
act_lines who act.Accept what body = did_lines who what body
act_lines who act.Repeat what body = line.Repeat who ∷ []
act_lines who act.Refuse what body = line.Full who ∷ []
act_lines who act.Damaged what body = line.Damaged who ∷ []
act_lines who act.Forgot what body = []
act_lines who act.PeerAck what body = []
act_lines who act.PeerNak what body = []
act_lines who act.PeerEnq what body = []
act_lines who act.Nothing what body = []

abbrev pub news_lines : Who → News → List Line
news_lines who news.Nothing = []
news_lines who (news.Undelivered n) = line.Undelivered who n ∷ []
news_lines who news.Dropped = line.Dropped who ∷ []

-- at a byte: first the line of the act, then the news
abbrev pub step_lines : Who → Step → List ℕ → List Line
step_lines who step body = act_lines who step.act step.did body ++ news_lines who step.news

abbrev pub turn_lines : Who → Turn → List Line
turn_lines who turn.Still = []
turn_lines who turn.Ask = line.Enquiry who ∷ []
turn_lines who (turn.Failed news) = news_lines who news

-- the commands that are unanswered from a tick on
abbrev pub gone_lines : Who → List ℕ → List Line
gone_lines who [] = []
gone_lines who (n ∷ numbers) = line.Unanswered who n ∷ gone_lines who numbers
