-- What an ear keeps of a text, and what a byte of it leads to.
use Rattle.std.specs.Prelude.{ℕ, ◌+◌, Bool, true, false, List, [], ◌∷◌, ◌++◌, length, nat_lt, ◌==◌, if◌then◌else◌}
use Rattle.df1_check.specs.declared.Check.{Check}
use Rattle.df1_check.specs.Checks.{taken}
use Rattle.df1_frame.specs.declared.heard.Heard.{Heard}
use Rattle.df1_frame.specs.declared.heard.Heard.TheVariants as heard
use Rattle.df1_frame.specs.Spelling.{check_len}
use Rattle.df1_frame.specs.Gathered.{Gathered, gathered_after, gathered_whole_after, gather, close, verdict}
use Rattle.half_frame.specs.Text.{Text, Opened, OpenedDle, Closed}

-- where in a text the bytes so far end
pub data Within : Type 0 where
  Inside : (so_far : Gathered) → Within
  InsideDle : (so_far : Gathered) → Within
  AtCheck : (so_far : Gathered) (bytes : List ℕ) → Within

-- what an ear with room for N bytes keeps of a text
abbrev pub within : Check → ℕ → List ℕ → Text → Within
within check N head (Opened body) = Inside (gathered_after check N head body)
within check N head (OpenedDle body) = InsideDle (gathered_after check N head body)
within check N head (Closed body bytes) = AtCheck (gathered_whole_after check N head body) bytes

-- a text of which DLE STX has come, where the check covers a head before its body
abbrev pub begun : Check → List ℕ → Within
begun check head = Inside (record { bytes = []; long = false; running = taken check head })

-- what is gathered of the body
abbrev pub so_far_of : Within → Gathered
so_far_of (Inside so_far) = so_far
so_far_of (InsideDle so_far) = so_far
so_far_of (AtCheck so_far bytes) = so_far

-- what a byte of a text leads to: the text goes on, ends with its check, or is broken off by a pair
pub data Onward : Type 0 where
  Goes : (to : Within) → Onward
  Ends : (right : Bool) (so_far : Gathered) → Onward
  Breaks : (code : ℕ) → Onward

-- what a frame of the text alone would be heard as is Good
abbrev pub is_good : Heard → Bool
is_good heard.Good = true
is_good heard.Short = false
is_good heard.BadCheck = false
is_good heard.Long = false
is_good (heard.Broken code) = false
is_good heard.Restart = false
is_good heard.Ack = false
is_good heard.Nak = false
is_good heard.Enq = false
is_good (heard.Stray b) = false
is_good (heard.StrayPair code) = false

-- one byte more
abbrev pub text_step : Check → ℕ → Within → ℕ → Onward
text_step check N (Inside so_far) b = if b == 16 then Goes (InsideDle so_far) else Goes (Inside (gather N so_far b))
text_step check N (InsideDle so_far) b =
    if b == 3 then Goes (AtCheck (close check so_far) [])
    else (if b == 16 then Goes (Inside (gather N so_far 16)) else Breaks b)
text_step check N (AtCheck so_far bytes) b =
    if nat_lt (length bytes + 1) (check_len check)
    then Goes (AtCheck so_far (bytes ++ b ∷ []))
    else Ends (is_good (verdict check so_far (bytes ++ b ∷ []))) so_far
