-- What comes of a byte of a side.
use Rattle.std.specs.Prelude.{ℕ, Bool, List, Option, Some, None, if◌then◌else◌}
use Rattle.df1_check.specs.declared.Check.{Check}
use Rattle.df1_frame.specs.Standing.{Outside, lent_at, is_inside}
use Rattle.df1_frame.specs.Step.{next}
use Rattle.half_frame.specs.SlaveStanding as slave_ear
use Rattle.half_frame.specs.SlaveStep as slave_step
use Rattle.half_frame.specs.MasterStanding as master_ear
use Rattle.half_frame.specs.MasterStep as master_step
use Rattle.df1_dissect.specs.declared.kind.Kind.{Kind}
use Rattle.df1_dissect.specs.declared.ear.Ear.{Ear}
use Rattle.df1_dissect.specs.declared.ear.Ear.TheVariants as ear
use Rattle.half_frame.specs.declared.side.Side.{Side}
use Rattle.half_frame.specs.declared.side.Side.TheVariants as side
use Rattle.df1_dissect.specs.declared.ear.Turn.{Turn}
use Rattle.df1_dissect.specs.declared.ear.Turn.TheVariants as turn
use Rattle.df1_dissect.specs.Kinds.{full_kind, master_kind, slave_kind, is_response}

-- of what is heard at a byte, where afterwards an item is under way or none is
abbrev pub turn_of : Option Kind → Bool → Turn
turn_of None inside = turn.Goes
turn_of (Some kind) inside = if inside then (if is_response kind then turn.Within kind else turn.CutsOff kind) else turn.Ends kind

-- an ear that has taken no byte
abbrev pub ear_of_none : Side → Check → Ear
ear_of_none side.Full check = ear.Full (record { check = check; standing = Outside })
ear_of_none side.Master check = ear.Master (record { check = check; standing = slave_ear.Outside })
ear_of_none side.Slave check = ear.Slave (record { check = check; standing = master_ear.Outside })

-- an ear after one byte more, and what comes of it
abbrev pub ear_next : Ear → ℕ → Ear × Turn
ear_next (ear.Full d) b = let to = next 250 d b in (ear.Full to.0, turn_of (full_kind to.1) (is_inside to.0.standing))
ear_next (ear.Master d) b = let to = slave_step.next 250 d b in (ear.Master to.0, turn_of (master_kind to.1) (slave_ear.is_inside to.0.standing))
ear_next (ear.Slave d) b = let to = master_step.next 250 d b in (ear.Slave to.0, turn_of (slave_kind to.1) (master_ear.is_inside to.0.standing))

-- the body that an ear lends
abbrev pub lent_by : Ear → List ℕ
lent_by (ear.Full d) = lent_at d.standing
lent_by (ear.Master d) = slave_ear.lent_at d.standing
lent_by (ear.Slave d) = master_ear.lent_at d.standing
