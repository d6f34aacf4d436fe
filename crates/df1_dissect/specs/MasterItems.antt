-- What the items of the master's bytes tell. An unfinished item tells nothing.
use Rattle.std.specs.Prelude.{ℕ, ◌+◌, ◌-◌, List, [], length, Some}
use Rattle.df1_check.specs.declared.Check.{Check}
use Rattle.half_frame.specs.SlaveGrammar.{Item, Stray, Pair, Poll, Message, NoText, Broken, CutOff, begun_bytes, item_bytes, pair_heard, poll_heard, message_heard, damaged, slave_hears}
use Rattle.half_frame.specs.SlaveStanding.{ended_by, lent_at}
use Rattle.df1_dissect.specs.declared.kind.Kind.TheVariants as kind
use Rattle.df1_dissect.specs.Kinds.{master_kind}
use Rattle.df1_dissect.specs.Telling.{Told, plain, heard_told, Telling}

-- a message that is cut off ends at the second byte of the next item
abbrev pub item_told : Check → ℕ → ℕ → Item → List Told
item_told check N at (Stray b) = plain at at (kind.Stray b)
item_told check N at (Pair code) = heard_told at (at + 1) (master_kind (Some (pair_heard code))) []
item_told check N at (Poll stn bcc) = heard_told at (at + 3) (master_kind (Some (poll_heard stn bcc))) []
item_told check N at (Message stn body bytes) =
    heard_told at (at + (length (item_bytes (Message stn body bytes)) - 1)) (master_kind (Some (message_heard check N stn body bytes))) (lent_at (ended_by check N (Message stn body bytes)))
item_told check N at (NoText stn b) = plain at (at + 3) (kind.DamagedFor stn)
item_told check N at (Broken begun code) = heard_told at (at + (length (begun_bytes begun) + 1)) (master_kind (Some (damaged begun))) []
item_told check N at (CutOff begun) = heard_told at (at + (length (begun_bytes begun) + 1)) (master_kind (Some (damaged begun))) []

-- what the items of the master's bytes tell, where there is room for a body of N bytes
abbrev pub master_telling : (check : Check) (N : ℕ) → Telling (slave_hears check N)
master_telling check N = record { item_told = item_told check N; front_told = λ at front. [] }
