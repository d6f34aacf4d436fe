-- What an initiator keeps of the order of its commands: the places of those that are out, how many may still be answered, and for each
-- source the places of its commands that wait and how many of them are out.
use Rattle.std.specs.Prelude.{◌≡◌, ℕ, suc, ◌+◌, ◌≤◌, Bool, false, ◌&&◌, ◌==◌, not, nat_lt, if◌then◌else◌, List, [], ◌∷◌, map, fold, count_by, Option, None, Some, MatchOption, slice_get}
use Rattle.std.specs.Option.{option_map_or}
use Rattle.std.specs.List.{list_any}
use Rattle.std.specs.VecDeque.{deque_len, deque_capacity}
use Rattle.df1_node.specs.declared.queue.Source.{Source}
use Rattle.df1_node.specs.declared.queue.Queue.{Queue}
use Rattle.df1_node.specs.Initiator.{Issued, is_waiting, is_out, is_settled, source_of, count_out_of}

-- the places of the commands that pass a test, in rising order
abbrev pub places : (Issued → Bool) → List Issued → List ℕ
places test [] = []
places test (c ∷ cs) = if test c then 0 ∷ map suc (places test cs) else map suc (places test cs)

-- the command is out
abbrev pub out_now : Issued → Bool
out_now c = is_out c.standing

-- the command waits, and is one of a source
abbrev pub waits_of : ℕ → Issued → Bool
waits_of source c = is_waiting c.standing && (source_of c == source)

-- the command may still be answered: it waits or is out
abbrev pub is_unsettled : Issued → Bool
is_unsettled c = not (is_settled c.standing)

-- the places at which commands of a source wait, as they are kept
abbrev pub waiting_at : List Source → ℕ → List ℕ
waiting_at sources source = option_map_or (λ s. s.waiting.items) (slice_get sources source) []

-- how many commands of a source are out, as it is kept
abbrev pub out_at : List Source → ℕ → ℕ
out_at sources source = option_map_or (λ s. s.out) (slice_get sources source) 0

-- the source is one of these
abbrev pub is_listed : List ℕ → ℕ → Bool
is_listed used source = list_any (λ other. other == source) used

-- there is room for so many commands more of the source that wait
abbrev pub HasRoom : ℕ → List Source → ℕ → Type 0
HasRoom count sources source = MatchOption (slice_get sources source) ⊥ (λ s. deque_len s.waiting + count ≤ deque_capacity s.waiting)

-- a place put among rising places
abbrev pub inserted : ℕ → List ℕ → List ℕ
inserted place [] = place ∷ []
inserted place (p ∷ ps) = if nat_lt place p then place ∷ p ∷ ps else p ∷ inserted place ps

-- the lower of two places, where each may be none
abbrev pub lower : Option ℕ → Option ℕ → Option ℕ
lower None q = q
lower (Some p) None = Some p
lower (Some p) (Some q) = if nat_lt q p then Some q else Some p

-- the first place at which a command of a source waits, where fewer than `per_source` of it are out
abbrev pub first_due : ℕ → List Source → ℕ → Option ℕ
first_due per_source sources source = if nat_lt (out_at sources source) per_source then slice_get (waiting_at sources source) 0 else None

-- the lowest such place of some sources
abbrev pub lowest_due : ℕ → List Source → List ℕ → Option ℕ
lowest_due per_source sources used = fold (λ lowest source. lower lowest (first_due per_source sources source)) None used

-- what is kept fits the commands: the places that are out, how many may still be answered, and of each source the places that wait
-- and how many are out; and each source of which a command waits is listed
pub record IsQueue (cs : List Issued) (q : Queue) : Type 0 where
  pub out : q.out.items ≡ places out_now cs
  pub unsettled : q.unsettled ≡ count_by is_unsettled cs
  pub waits : (source : ℕ) → waiting_at q.sources.items source ≡ places (waits_of source) cs
  pub outs : (source : ℕ) → out_at q.sources.items source ≡ count_out_of source cs
  pub listed : (source : ℕ) → is_listed q.used.items source ≡ false → waiting_at q.sources.items source ≡ []
