-- Lines that tell nothing of what any station executed, nor of a reply.
use Rattle.std.proofs.Common.{◌≡◌, ℕ, List, [], ◌∷◌, ◌++◌, Option, refl, sym, subst}
use Rattle.std.proofs.lemmas.List.Elements.{filter-append}
use Rattle.df1_base.specs.declared.host.Did.{Did}
use Rattle.df1_base.specs.declared.host.News.{News}
use Rattle.df1_base.specs.declared.host.News.TheVariants as news
use Rattle.df1_base.specs.declared.link.Act.{Act}
use Rattle.df1_base.specs.declared.link.Act.TheVariants as act
use Rattle.df1_base.specs.declared.link.Step.{Step}
use Rattle.df1_base.specs.declared.link.Turn.{Turn}
use Rattle.df1_base.specs.declared.link.Turn.TheVariants as turn
use Rattle.df1_node.specs.Answer.{StationState}
use Rattle.df1_node.specs.Initiator.{Issued}
use Rattle.script_statement.specs.declared.who.Who.{Who}
use Rattle.script_statement.specs.declared.who.Who.TheVariants.{M, S}
use Rattle.replay_report.specs.declared.record.Line.{Line}
use Rattle.replay_report.specs.declared.record.Line.TheVariants as line
use Rattle.replay_report.specs.Report.{sent_lines}
use Rattle.report_lines.specs.NodeLines.{act_lines, news_lines, step_lines, turn_lines, gone_lines}
use Rattle.each_once.specs.OfStation.{is_line_of, lines_of}
use Rattle.each_once.proofs.ToldLines.{IsTold, AreSilent, silent-none, silent-both, told-silent}

-- the lines of a station, with more
pub lines-both : (station : ℕ) (lines more : List Line) → lines_of station (lines ++ more) ≡ lines_of station lines ++ lines_of station more
lines-both station lines more = filter-append (is_line_of station) lines more

-- nothing is told of this station
abbrev pub IsSilentOf : ℕ → List Line → Type 0
IsSilentOf station more = AreSilent M (S station) (lines_of station more)

pub silent-of-both : (station : ℕ) (xs ys : List Line) → IsSilentOf station xs → IsSilentOf station ys → IsSilentOf station (xs ++ ys)
silent-of-both station xs ys x y = subst (λ lines. AreSilent M (S station) lines) (sym (lines-both station xs ys)) (silent-both M (S station) (lines_of station xs) (lines_of station ys) x y)

-- what was told of a station still holds
pub told-of-silent : (station : ℕ) (first : StationState) (issued : List Issued) (executed : List (List ℕ)) (lines more : List Line) → IsSilentOf station more
    → IsTold M (S station) first issued executed (lines_of station lines) → IsTold M (S station) first issued executed (lines_of station (lines ++ more))
told-of-silent station first issued executed lines more silent t =
    subst (λ all. IsTold M (S station) first issued executed all) (sym (lines-both station lines more)) (told-silent M (S station) first issued executed (lines_of station lines) (lines_of station more) silent t)

-- ---- an act that accepts nothing, and news

act-silent : (station : ℕ) (who : Who) (what : Act) (did : Option Did) (body : List ℕ) → (what ≡ act.Accept → ⊥) → IsSilentOf station (act_lines who what did body)
act-silent station who act.Accept did body not = absurd (not refl)
act-silent station who act.Repeat did body not = record { executes = refl; answers = refl; strays = refl }
act-silent station who act.Refuse did body not = record { executes = refl; answers = refl; strays = refl }
act-silent station who act.Damaged did body not = record { executes = refl; answers = refl; strays = refl }
act-silent station who act.Forgot did body not = silent-none M (S station)
act-silent station who act.PeerAck did body not = silent-none M (S station)
act-silent station who act.PeerNak did body not = silent-none M (S station)
act-silent station who act.PeerEnq did body not = silent-none M (S station)
act-silent station who act.Nothing did body not = silent-none M (S station)

news-silent : (station : ℕ) (who : Who) (n : News) → IsSilentOf station (news_lines who n)
news-silent station who news.Nothing = silent-none M (S station)
news-silent station who (news.Undelivered n) = record { executes = refl; answers = refl; strays = refl }
news-silent station who news.Dropped = record { executes = refl; answers = refl; strays = refl }

pub step-silent : (station : ℕ) (who : Who) (step : Step) (body : List ℕ) → (step.act ≡ act.Accept → ⊥) → IsSilentOf station (step_lines who step body)
step-silent station who step body not =
    silent-of-both station (act_lines who step.act step.did body) (news_lines who step.news) (act-silent station who step.act step.did body not) (news-silent station who step.news)

-- ---- a tick, and the bytes that are given

turn-silent : (station : ℕ) (who : Who) (t : Turn) → IsSilentOf station (turn_lines who t)
turn-silent station who turn.Still = silent-none M (S station)
turn-silent station who turn.Ask = record { executes = refl; answers = refl; strays = refl }
turn-silent station who (turn.Failed n) = news-silent station who n

gone-silent : (station : ℕ) (who : Who) (numbers : List ℕ) → IsSilentOf station (gone_lines who numbers)
gone-silent station who [] = silent-none M (S station)
gone-silent station who (n ∷ numbers) = silent-of-both station (line.Unanswered who n ∷ []) (gone_lines who numbers) (record { executes = refl; answers = refl; strays = refl }) (gone-silent station who numbers)

pub tick-silent : (station : ℕ) (who : Who) (t : Turn) (numbers : List ℕ) → IsSilentOf station (turn_lines who t ++ gone_lines who numbers)
tick-silent station who t numbers = silent-of-both station (turn_lines who t) (gone_lines who numbers) (turn-silent station who t) (gone-silent station who numbers)

pub sent-silent : (station : ℕ) (who : Who) (bytes : List ℕ) → IsSilentOf station (sent_lines who bytes)
sent-silent station who [] = silent-none M (S station)
sent-silent station who (byte ∷ bytes) = record { executes = refl; answers = refl; strays = refl }

-- ---- lines that tell nothing of what the master executed, nor of its replies

-- nothing is told of it
abbrev pub IsMute : List Line → Type 0
IsMute more = AreSilent M M more

act-mute : (who : Who) (what : Act) (did : Option Did) (body : List ℕ) → (what ≡ act.Accept → ⊥) → IsMute (act_lines who what did body)
act-mute who act.Accept did body not = absurd (not refl)
act-mute who act.Repeat did body not = record { executes = refl; answers = refl; strays = refl }
act-mute who act.Refuse did body not = record { executes = refl; answers = refl; strays = refl }
act-mute who act.Damaged did body not = record { executes = refl; answers = refl; strays = refl }
act-mute who act.Forgot did body not = silent-none M M
act-mute who act.PeerAck did body not = silent-none M M
act-mute who act.PeerNak did body not = silent-none M M
act-mute who act.PeerEnq did body not = silent-none M M
act-mute who act.Nothing did body not = silent-none M M

news-mute : (who : Who) (n : News) → IsMute (news_lines who n)
news-mute who news.Nothing = silent-none M M
news-mute who (news.Undelivered n) = record { executes = refl; answers = refl; strays = refl }
news-mute who news.Dropped = record { executes = refl; answers = refl; strays = refl }

pub step-mute : (who : Who) (step : Step) (body : List ℕ) → (step.act ≡ act.Accept → ⊥) → IsMute (step_lines who step body)
step-mute who step body not = silent-both M M (act_lines who step.act step.did body) (news_lines who step.news) (act-mute who step.act step.did body not) (news-mute who step.news)

turn-mute : (who : Who) (t : Turn) → IsMute (turn_lines who t)
turn-mute who turn.Still = silent-none M M
turn-mute who turn.Ask = record { executes = refl; answers = refl; strays = refl }
turn-mute who (turn.Failed n) = news-mute who n

gone-mute : (who : Who) (numbers : List ℕ) → IsMute (gone_lines who numbers)
gone-mute who [] = silent-none M M
gone-mute who (n ∷ numbers) = silent-both M M (line.Unanswered who n ∷ []) (gone_lines who numbers) (record { executes = refl; answers = refl; strays = refl }) (gone-mute who numbers)

pub tick-mute : (who : Who) (t : Turn) (numbers : List ℕ) → IsMute (turn_lines who t ++ gone_lines who numbers)
tick-mute who t numbers = silent-both M M (turn_lines who t) (gone_lines who numbers) (turn-mute who t) (gone-mute who numbers)

pub sent-mute : (who : Who) (bytes : List ℕ) → IsMute (sent_lines who bytes)
sent-mute who [] = silent-none M M
sent-mute who (byte ∷ bytes) = record { executes = refl; answers = refl; strays = refl }

pub exec-mute : (station : ℕ) (body : List ℕ) → IsMute (line.Exec (S station) body ∷ [])
exec-mute station body = record { executes = refl; answers = refl; strays = refl }
