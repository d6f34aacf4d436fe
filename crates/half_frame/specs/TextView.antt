-- Where in a text an ear is, by its fields, and what a byte led it to.
use Rattle.std.specs.Prelude.{[], ◌∷◌}
use Rattle.df1_frame.specs.Gathered.{Gathered}
use Rattle.half_frame.specs.declared.text.TextPlace.{TextPlace}
use Rattle.half_frame.specs.declared.text.TextPlace.TheVariants as place
use Rattle.half_frame.specs.declared.text.Progress.{Progress}
use Rattle.half_frame.specs.declared.text.Progress.TheVariants as progress
use Rattle.half_frame.specs.TextStep.{Within, Inside, InsideDle, AtCheck, Onward, Goes, Ends, Breaks}

abbrev pub within_of : TextPlace → Gathered → Within
within_of place.Inside so_far = Inside so_far
within_of place.InsideDle so_far = InsideDle so_far
within_of place.AtCheck so_far = AtCheck so_far []
within_of (place.AtSecondCheck first) so_far = AtCheck so_far (first ∷ [])

abbrev pub onward_of : Progress → Gathered → Onward
onward_of (progress.Goes place) so_far = Goes (within_of place so_far)
onward_of (progress.Ends right) so_far = Ends right so_far
onward_of (progress.Breaks code) so_far = Breaks code
