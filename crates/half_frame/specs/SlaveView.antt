-- A slave's ear's fields, seen as its value.
use Rattle.df1_frame.specs.Gathered.{Gathered}
use Rattle.half_frame.specs.declared.slave_ear.SlavePlace.{SlavePlace}
use Rattle.half_frame.specs.declared.slave_ear.SlavePlace.TheVariants as place
use Rattle.half_frame.specs.TextView.{within_of}
use Rattle.half_frame.specs.SlaveStanding.{Standing, Outside, Ended, AfterDle, AfterSoh, AfterEnq, AtPollCheck, AfterStation, AfterStationDle, AtText}

abbrev pub standing_of : SlavePlace → Gathered → Standing
standing_of place.Outside so_far = Outside
standing_of place.Ended so_far = Ended so_far.bytes
standing_of place.AfterDle so_far = AfterDle
standing_of place.AfterSoh so_far = AfterSoh
standing_of place.AfterEnq so_far = AfterEnq
standing_of (place.AtPollCheck stn) so_far = AtPollCheck stn
standing_of (place.AfterStation stn) so_far = AfterStation stn
standing_of (place.AfterStationDle stn) so_far = AfterStationDle stn
standing_of (place.InText stn at) so_far = AtText stn (within_of at so_far)
