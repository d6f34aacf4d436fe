-- A router before a host, which carries messages from station to station. What the inner host does at a call is given by those of its ghost members that the call needs.
use Rattle.std.specs.Prelude.{ℕ, Bool, true, false, List, [], ◌∷◌, ◌==◌, slice_index, is_some, is_none, if◌then◌else◌, Option, Some, None, IfSome}
use Rattle.std.specs.Option.{option_or}
use Rattle.std.specs.List.{list_any}
use Rattle.df1_base.specs.declared.host.Fate.{Fate}
use Rattle.df1_base.specs.declared.host.Fate.TheVariants as fate
use Rattle.df1_base.specs.declared.host.Did.{Did}
use Rattle.df1_base.specs.declared.host.Did.TheVariants as did
use Rattle.df1_base.specs.declared.host.News.{News}
use Rattle.df1_base.specs.declared.host.News.TheVariants as news
use Rattle.df1_base.specs.Host.{IsBody}
use Rattle.station_router.specs.declared.handed.Handed.{Handed}
use Rattle.station_router.specs.declared.handed.Handed.TheVariants as handed

-- a router: its stations; the body that waits to be carried, empty where none waits; what was handed out last; and the inner host
pub record RouterState (H : Type 0) : Type 0 where
  pub stations : List ℕ
  pub waiting : List ℕ
  pub last : Handed
  pub inner : H

-- a router at which no body waits, and which handed out none
abbrev pub new_router : {H : Type 0} → List ℕ → H → RouterState H
new_router stations inner = record { stations = stations; waiting = []; last = handed.Inner; inner = inner }

-- the router with another inner host
abbrev pub with_inner : {H : Type 0} → RouterState H → H → RouterState H
with_inner r inner = record r { inner = inner }

-- a body is carried where DST, its first byte, is the number of a station
abbrev pub is_carried : List ℕ → List ℕ → Bool
is_carried stations body = list_any (λ station. station == slice_index body 0) stations

-- the body that waits, where one does
abbrev pub waiting_body : List ℕ → Option (List ℕ)
waiting_body [] = None
waiting_body (b ∷ bs) = Some (b ∷ bs)

-- there is room for a carried body where none waits
abbrev pub has_room : {H : Type 0} → (H → List ℕ → Bool) → RouterState H → List ℕ → Bool
has_room inner_room r body = if is_carried r.stations body then is_none (waiting_body r.waiting) else inner_room r.inner body

-- a carried body is astray
abbrev pub did_accept : {H : Type 0} → (H → List ℕ → Did) → RouterState H → List ℕ → Did
did_accept inner_did r body = if is_carried r.stations body then did.Stray else inner_did r.inner body

-- a carried body waits
abbrev pub after_accept : {H : Type 0} → (H → List ℕ → H) → RouterState H → List ℕ → RouterState H
after_accept inner_after r body = if is_carried r.stations body then record r { waiting = body } else record r { inner = inner_after r.inner body }

-- what is handed out next: the body that waits; where none does, the inner host's
abbrev pub next_body : {H : Type 0} → (H → Option (List ℕ)) → RouterState H → Option (List ℕ)
next_body inner_next r = option_or (waiting_body r.waiting) (inner_next r.inner)

-- what was handed out last, after the inner host's next body was, if there was one
abbrev pub last_after : Handed → Option (List ℕ) → Handed
last_after last None = last
last_after last (Some body) = handed.Inner

-- the router after the next body was handed out
abbrev pub after_next : {H : Type 0} → (H → Option (List ℕ)) → (H → H) → RouterState H → RouterState H
after_next inner_next inner_after r =
    if is_some (waiting_body r.waiting) then record r { waiting = []; last = handed.Carried }
    else record r { last = last_after r.last (inner_next r.inner); inner = inner_after r.inner }

-- a message was handed out whose fate wasn't told, by what was handed out last and whether the inner host has one out
abbrev pub is_last_out : Handed → Bool → Bool
is_last_out handed.Carried inner = true
is_last_out handed.Told inner = false
is_last_out handed.Inner inner = inner

abbrev pub is_out : {H : Type 0} → (H → Bool) → RouterState H → Bool
is_out inner_out r = is_last_out r.last (inner_out r.inner)

-- the answer to the first fate of a carried body
abbrev pub news_of : Fate → News
news_of fate.Delivered = news.Nothing
news_of fate.Undelivered = news.Dropped

-- the answer to a fate, by what was handed out last and what the inner host would answer
abbrev pub news_of_last : Handed → Fate → News → News
news_of_last handed.Carried told inner = news_of told
news_of_last handed.Told told inner = news.Nothing
news_of_last handed.Inner told inner = inner

abbrev pub news_told : {H : Type 0} → (H → Fate → News) → RouterState H → Fate → News
news_told inner_news r told = news_of_last r.last told (inner_news r.inner told)

-- the router after a fate, by what was handed out last and what the inner host would be after it
abbrev pub after_fate : {H : Type 0} → Handed → RouterState H → H → RouterState H
after_fate handed.Carried r inner = record r { last = handed.Told }
after_fate handed.Told r inner = r
after_fate handed.Inner r inner = record r { inner = inner }

abbrev pub after_told : {H : Type 0} → (H → Fate → H) → RouterState H → Fate → RouterState H
after_told inner_after r told = after_fate r.last r (inner_after r.inner told)

-- the commands that are unanswered from this tick on, which are the inner host's
abbrev pub gone_unanswered : {H : Type 0} → (H → List ℕ) → RouterState H → List ℕ
gone_unanswered inner_gone r = inner_gone r.inner

-- the router after a tick
abbrev pub after_tick : {H : Type 0} → (H → H) → RouterState H → RouterState H
after_tick inner_after r = record r { inner = inner_after r.inner }

-- the router after what waits was dropped
abbrev pub after_clear : {H : Type 0} → (H → H) → RouterState H → RouterState H
after_clear inner_after r = record r { waiting = []; inner = inner_after r.inner }

-- the body that waits, where one does, has 6 to 250 bytes, and so has each that the inner host may hand out
abbrev pub holds_bodies : {H : Type 0} → (H → Type 0) → RouterState H → Type 0
holds_bodies inner_holds r = IfSome (waiting_body r.waiting) IsBody × inner_holds r.inner
