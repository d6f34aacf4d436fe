-- What a host answers to an accepted body and to a fate, and what a fate makes of it. A host's meaning is the record of its ghost members.
use Rattle.std.specs.Prelude.{ℕ, List, Option, Some, None}
use Rattle.df1_base.specs.declared.host.Host.{Ghosts}
use Rattle.df1_base.specs.declared.host.Did.{Did}
use Rattle.df1_base.specs.declared.host.Fate.{Fate}
use Rattle.df1_base.specs.declared.host.News.{News}
use Rattle.df1_base.specs.declared.host.News.TheVariants as news
use Rattle.df1_base.specs.declared.link.Act.{Act}
use Rattle.df1_base.specs.declared.link.Act.TheVariants as act

-- what the host did with an accepted body
abbrev pub did_at : {H : Type 0} → Ghosts H → Act → H → List ℕ → Option Did
did_at m act.Accept host body = Some (m.did host body)
did_at m _ host body = None

-- the host after a fate is told to it
abbrev pub host_told : {H : Type 0} → Ghosts H → Option Fate → H → H
host_told m None host = host
host_told m (Some what) host = m.after_told host what

-- what the host answers to that
abbrev pub news_of : {H : Type 0} → Ghosts H → Option Fate → H → News
news_of m None host = news.Nothing
news_of m (Some what) host = m.news host what
