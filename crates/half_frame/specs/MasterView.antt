-- The master's ear's fields, seen as its value.
use Rattle.df1_frame.specs.Gathered.{Gathered}
use Rattle.half_frame.specs.declared.master_ear.MasterPlace.{MasterPlace}
use Rattle.half_frame.specs.declared.master_ear.MasterPlace.TheVariants as place
use Rattle.half_frame.specs.TextView.{within_of}
use Rattle.half_frame.specs.MasterStanding.{Standing, Outside, Ended, AfterDle, AtText}

abbrev pub standing_of : MasterPlace → Gathered → Standing
standing_of place.Outside so_far = Outside
standing_of place.Ended so_far = Ended so_far.bytes
standing_of place.AfterDle so_far = AfterDle
standing_of (place.InText at) so_far = AtText (within_of at so_far)
