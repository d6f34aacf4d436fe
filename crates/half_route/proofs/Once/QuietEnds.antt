-- Lines that tell nothing of an end: neither what it executed, nor a reply to it, nor an outcome of its commands.
use Rattle.std.proofs.Common.{◌≡◌, ℕ, Bool, true, false, List, [], ◌∷◌, ◌++◌, Option, Some, None, refl}
use Rattle.df1_base.specs.declared.host.Did.{Did}
use Rattle.df1_base.specs.declared.host.Did.TheVariants as did
use Rattle.df1_base.specs.declared.host.News.{News}
use Rattle.df1_base.specs.declared.host.News.TheVariants as news
use Rattle.df1_base.specs.declared.link.Act.{Act}
use Rattle.df1_base.specs.declared.link.Act.TheVariants as act
use Rattle.df1_base.specs.declared.link.Turn.{Turn}
use Rattle.df1_base.specs.declared.link.Turn.TheVariants as turn
use Rattle.script_statement.specs.declared.who.Who.{Who}
use Rattle.replay_report.specs.declared.record.Line.{Line}
use Rattle.replay_report.specs.declared.record.Line.TheVariants as line
use Rattle.replay_report.specs.Report.{sent_lines}
use Rattle.report_lines.specs.NodeLines.{did_lines, act_lines, news_lines, turn_lines, gone_lines}
use Rattle.each_once.specs.Tells.{is_who}
use Rattle.each_once.proofs.ToldLines.{AreSilent, silent-none, silent-both}
use Rattle.each_once.proofs.ToldOutcomes.{TellNone, none-both}
use Rattle.half_line.specs.Acts.{act_lines_at}

abbrev pub IsQuiet : Who → List Line → Type 0
IsQuiet who more = AreSilent who who more × TellNone who more

pub quiet-none : (who : Who) → IsQuiet who []
quiet-none who = (silent-none who who, λ n. refl)

pub quiet-both : (who : Who) (xs ys : List Line) → IsQuiet who xs → IsQuiet who ys → IsQuiet who (xs ++ ys)
quiet-both who xs ys x y = (silent-both who who xs ys x.0 y.0, none-both who xs ys x.1 y.1)

-- ---- lines that tell of no end what it executed or accepted

pub news-silent : (who by : Who) (n : News) → AreSilent who who (news_lines by n)
news-silent who by news.Nothing = silent-none who who
news-silent who by (news.Undelivered n) = record { executes = refl; answers = refl; strays = refl }
news-silent who by news.Dropped = record { executes = refl; answers = refl; strays = refl }

pub gone-silent : (who by : Who) (numbers : List ℕ) → AreSilent who who (gone_lines by numbers)
gone-silent who by [] = silent-none who who
gone-silent who by (n ∷ numbers) = silent-both who who (line.Unanswered by n ∷ []) (gone_lines by numbers) (record { executes = refl; answers = refl; strays = refl }) (gone-silent who by numbers)

-- an act that accepts nothing
pub act-quiet : (who by : Who) (what : Act) (made : Option Did) (body : List ℕ) → (what ≡ act.Accept → ⊥) → IsQuiet who (act_lines by what made body)
act-quiet who by act.Accept made body not = absurd (not refl)
act-quiet who by act.Repeat made body not = (record { executes = refl; answers = refl; strays = refl }, λ n. refl)
act-quiet who by act.Refuse made body not = (record { executes = refl; answers = refl; strays = refl }, λ n. refl)
act-quiet who by act.Damaged made body not = (record { executes = refl; answers = refl; strays = refl }, λ n. refl)
act-quiet who by act.Forgot made body not = quiet-none who
act-quiet who by act.PeerAck made body not = quiet-none who
act-quiet who by act.PeerNak made body not = quiet-none who
act-quiet who by act.PeerEnq made body not = quiet-none who
act-quiet who by act.Nothing made body not = quiet-none who

-- what is sent, and what is carried
pub sent-quiet : (who by : Who) (bytes : List ℕ) → IsQuiet who (sent_lines by bytes)
sent-quiet who by [] = quiet-none who
sent-quiet who by (byte ∷ bytes) = (record { executes = refl; answers = refl; strays = refl }, λ n. refl)

pub routed-quiet : (who by : Who) (body : List ℕ) → IsQuiet who (line.Routed by body ∷ [])
routed-quiet who by body = (record { executes = refl; answers = refl; strays = refl }, λ n. refl)

-- ---- lines of another end

pub did-other : (who by : Who) → is_who who by ≡ false → (what : Option Did) (body : List ℕ) → IsQuiet who (did_lines by what body)
did-other who by apart None body = quiet-none who
did-other who by apart (Some did.Executed) body = (record { executes = rw apart refl; answers = refl; strays = refl }, λ n. refl)
did-other who by apart (Some (did.Answered m)) body = (record { executes = refl; answers = rw apart refl; strays = refl }, λ n. rw apart refl)
did-other who by apart (Some did.Stray) body = (record { executes = refl; answers = refl; strays = rw apart refl }, λ n. refl)

pub act-other : (who by : Who) → is_who who by ≡ false → (what : Act) (made : Option Did) (body : List ℕ) → IsQuiet who (act_lines by what made body)
act-other who by apart act.Accept made body = did-other who by apart made body
act-other who by apart act.Repeat made body = act-quiet who by act.Repeat made body (λ no. cc)
act-other who by apart act.Refuse made body = act-quiet who by act.Refuse made body (λ no. cc)
act-other who by apart act.Damaged made body = act-quiet who by act.Damaged made body (λ no. cc)
act-other who by apart act.Forgot made body = quiet-none who
act-other who by apart act.PeerAck made body = quiet-none who
act-other who by apart act.PeerNak made body = quiet-none who
act-other who by apart act.PeerEnq made body = quiet-none who
act-other who by apart act.Nothing made body = quiet-none who

pub news-other : (who by : Who) → is_who who by ≡ false → (n : News) → IsQuiet who (news_lines by n)
news-other who by apart news.Nothing = quiet-none who
news-other who by apart (news.Undelivered m) = (news-silent who by (news.Undelivered m), λ n. rw apart refl)
news-other who by apart news.Dropped = (news-silent who by news.Dropped, λ n. refl)

pub turn-other : (who by : Who) → is_who who by ≡ false → (t : Turn) → IsQuiet who (turn_lines by t)
turn-other who by apart turn.Still = quiet-none who
turn-other who by apart turn.Ask = (record { executes = refl; answers = refl; strays = refl }, λ n. refl)
turn-other who by apart (turn.Failed n) = news-other who by apart n

pub gone-other : (who by : Who) → is_who who by ≡ false → (numbers : List ℕ) → IsQuiet who (gone_lines by numbers)
gone-other who by apart [] = quiet-none who
gone-other who by apart (n ∷ numbers) =
    quiet-both who (line.Unanswered by n ∷ []) (gone_lines by numbers) (record { executes = refl; answers = refl; strays = refl }, λ m. rw apart refl) (gone-other who by apart numbers)

-- ---- where a message may be carried

-- an act that accepts nothing
pub act-at-quiet : (who by : Who) (carried : Bool) (what : Act) (made : Option Did) (body : List ℕ) → (what ≡ act.Accept → ⊥) → IsQuiet who (act_lines_at carried by what made body)
act-at-quiet who by false what made body not = act-quiet who by what made body not
act-at-quiet who by true act.Accept made body not = absurd (not refl)
act-at-quiet who by true act.Repeat made body not = act-quiet who by act.Repeat made body not
act-at-quiet who by true act.Refuse made body not = act-quiet who by act.Refuse made body not
act-at-quiet who by true act.Damaged made body not = act-quiet who by act.Damaged made body not
act-at-quiet who by true act.Forgot made body not = quiet-none who
act-at-quiet who by true act.PeerAck made body not = quiet-none who
act-at-quiet who by true act.PeerNak made body not = quiet-none who
act-at-quiet who by true act.PeerEnq made body not = quiet-none who
act-at-quiet who by true act.Nothing made body not = quiet-none who

-- an accept of another end
pub accept-at-other : (who by : Who) → is_who who by ≡ false → (carried : Bool) (made : Did) (body : List ℕ) → IsQuiet who (act_lines_at carried by act.Accept (Some made) body)
accept-at-other who by apart false made body = did-other who by apart (Some made) body
accept-at-other who by apart true did.Executed body = did-other who by apart (Some did.Executed) body
accept-at-other who by apart true (did.Answered m) body = did-other who by apart (Some (did.Answered m)) body
accept-at-other who by apart true did.Stray body = routed-quiet who by body
