-- A decoder's fields, seen as its value.
use Rattle.std.specs.Prelude.{[], ◌∷◌}
use Rattle.df1_frame.specs.declared.decoder.DecoderPlace.{DecoderPlace}
use Rattle.df1_frame.specs.declared.decoder.DecoderPlace.TheVariants as place
use Rattle.df1_frame.specs.Gathered.{Gathered}
use Rattle.df1_frame.specs.Standing.{Standing, Outside, Ended, AfterDle, Inside, InsideDle, AtCheck}

abbrev pub standing_of : DecoderPlace → Gathered → Standing
standing_of place.Outside so_far = Outside
standing_of place.Ended so_far = Ended so_far.bytes
standing_of place.AfterDle so_far = AfterDle
standing_of place.Inside so_far = Inside so_far
standing_of place.InsideDle so_far = InsideDle so_far
standing_of place.AtCheck so_far = AtCheck so_far []
standing_of (place.AtSecondCheck first) so_far = AtCheck so_far (first ∷ [])
