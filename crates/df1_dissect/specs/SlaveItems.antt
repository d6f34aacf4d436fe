-- What the items of the slaves' bytes tell. An unfinished item tells nothing.
use Rattle.std.specs.Prelude.{ℕ, ◌+◌, ◌-◌, List, [], length, Some}
use Rattle.df1_check.specs.declared.Check.{Check}
use Rattle.half_frame.specs.Text.{opened}
use Rattle.half_frame.specs.MasterGrammar.{Item, Stray, Pair, Message, Broken, CutOff, item_bytes, pair_heard, message_heard, master_hears}
use Rattle.half_frame.specs.MasterStanding.{ended_by, lent_at}
use Rattle.df1_dissect.specs.declared.kind.Kind.TheVariants as kind
use Rattle.df1_dissect.specs.Kinds.{slave_kind}
use Rattle.df1_dissect.specs.Telling.{Told, plain, heard_told, Telling}

-- a message that is cut off ends at the second byte of the next
abbrev pub item_told : Check → ℕ → ℕ → Item → List Told
item_told check N at (Stray b) = plain at at (kind.Stray b)
item_told check N at (Pair code) = heard_told at (at + 1) (slave_kind (Some (pair_heard code))) []
item_told check N at (Message body bytes) =
    heard_told at (at + (length (item_bytes (Message body bytes)) - 1)) (slave_kind (Some (message_heard check N body bytes))) (lent_at (ended_by check N (Message body bytes)))
item_told check N at (Broken body code) = plain at (at + (length (opened body) + 1)) kind.Damaged
item_told check N at (CutOff body) = plain at (at + (length (opened body) + 1)) kind.Damaged

-- what the items of the slaves' bytes tell, where there is room for a body of N bytes
abbrev pub slave_telling : (check : Check) (N : ℕ) → Telling (master_hears check N)
slave_telling check N = record { item_told = item_told check N; front_told = λ at front. [] }
