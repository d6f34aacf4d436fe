-- The numbers by which C is told what an end made of a call.
use Rattle.std.specs.Prelude.{ℕ, Bool, true, false, is_some, ◌&&◌, ◌==◌, if◌then◌else◌}
use Rattle.std.specs.declared.option.Option.{Option}
use Rattle.std.specs.declared.option.Option.TheVariants.{Some, None}
use Rattle.df1_base.specs.declared.link.Act.{Act}
use Rattle.df1_base.specs.declared.link.Act.TheVariants as act
use Rattle.df1_base.specs.declared.host.Did.{Did}
use Rattle.df1_base.specs.declared.host.Did.TheVariants as did
use Rattle.df1_base.specs.declared.host.News.{News}
use Rattle.df1_base.specs.declared.host.News.TheVariants as news
use Rattle.df1_base.specs.declared.link.Step.{Step}
use Rattle.df1_base.specs.declared.link.Turn.{Turn}
use Rattle.df1_base.specs.declared.link.Turn.TheVariants as turn
use Rattle.df1_base.specs.declared.link.Out.{Out}
use Rattle.c_ends.specs.declared.told.StepTold.{StepTold}
use Rattle.c_ends.specs.declared.told.TurnTold.{TurnTold}
use Rattle.c_ends.specs.declared.told.OutTold.{OutTold}

abbrev pub act_told : Act → ℕ
act_told act.Nothing = 0
act_told act.Accept = 1
act_told act.Repeat = 2
act_told act.Refuse = 3
act_told act.Damaged = 4
act_told act.Forgot = 5
act_told act.PeerAck = 6
act_told act.PeerNak = 7
act_told act.PeerEnq = 8

-- with the command that it names, or 0
abbrev pub did_told : Option Did → ℕ × ℕ
did_told None = (0, 0)
did_told (Some did.Executed) = (1, 0)
did_told (Some (did.Answered n)) = (2, n)
did_told (Some did.Stray) = (3, 0)

abbrev pub news_told : News → ℕ × ℕ
news_told news.Nothing = (0, 0)
news_told (news.Undelivered n) = (1, n)
news_told news.Dropped = (2, 0)

abbrev pub step_told : Step → StepTold
step_told s = record { act = act_told s.act; did = (did_told s.did).0; did_command = (did_told s.did).1; news = (news_told s.news).0; news_command = (news_told s.news).1; whole = s.whole; station = s.station }

-- an accepted message that is carried to a station is told as routed, and not as astray
abbrev pub routed_told : Bool → StepTold → StepTold
routed_told carried told = record told { did = if carried && (told.did == 3) then 4 else told.did }

-- with the number of commands that are gone
abbrev pub turn_told : Turn → ℕ → TurnTold
turn_told turn.Still gone = record { turn = 0; news = 0; news_command = 0; gone_count = gone }
turn_told turn.Ask gone = record { turn = 1; news = 0; news_command = 0; gone_count = gone }
turn_told (turn.Failed n) gone = record { turn = 2; news = (news_told n).0; news_command = (news_told n).1; gone_count = gone }

-- whether it is the last of a message: one of which a transmission is numbered
abbrev pub out_told : Option Out → OutTold
out_told None = record { there = false; byte = 0; last = false }
out_told (Some out) = record { there = true; byte = out.byte; last = is_some out.last_of }
