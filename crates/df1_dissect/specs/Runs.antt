-- A reader after many bytes, and what comes of a run of them before a DLE.
use Rattle.std.specs.Prelude.{ℕ, Bool, List, if◌then◌else◌, map}
use Rattle.std.specs.List.{fold}
use Rattle.df1_frame.specs.Standing.{is_inside}
use Rattle.half_frame.specs.SlaveStanding as slave_ear
use Rattle.half_frame.specs.MasterStanding as master_ear
use Rattle.df1_dissect.specs.declared.kind.Kind.TheVariants as kind
use Rattle.df1_dissect.specs.declared.ear.Ear.{Ear}
use Rattle.df1_dissect.specs.declared.ear.Ear.TheVariants as ear
use Rattle.df1_dissect.specs.declared.ear.Turn.{Turn}
use Rattle.df1_dissect.specs.declared.ear.Turn.TheVariants as turn
use Rattle.df1_dissect.specs.Reading.{Reading}
use Rattle.df1_dissect.specs.Step.{next}

-- a reader after these bytes
abbrev pub after : Reading → List ℕ → Reading
after r bytes = fold (λ r b. (next r b).0) r bytes

-- an item is under way
abbrev pub ear_inside : Ear → Bool
ear_inside (ear.Full d) = is_inside d.standing
ear_inside (ear.Master d) = slave_ear.is_inside d.standing
ear_inside (ear.Slave d) = master_ear.is_inside d.standing

-- what comes of each byte of a run: the item under way goes on, or the byte is one
abbrev pub turns_in_run : Bool → List ℕ → List Turn
turns_in_run inside bytes = map (λ b. if inside then turn.Goes else turn.Ends (kind.Stray b)) bytes
