-- A framer's fields, seen as the units that are still to be given.
use Rattle.std.specs.Prelude.{ℕ, true, List, ◌∷◌, ◌++◌, drop, map}
use Rattle.df1_frame.specs.declared.framer.Part.{Part}
use Rattle.df1_frame.specs.declared.framer.Part.TheVariants as part
use Rattle.df1_frame.specs.declared.framer.Unit.{Unit as Given}
use Rattle.df1_frame.specs.Units.{pair_unit, body_unit, check_units, closing_units}

abbrev pub units_left : Part → List ℕ → List ℕ → List Given
units_left part.Opening body check = pair_unit 2 true ∷ (map body_unit body ++ closing_units check)
units_left (part.Body at) body check = map body_unit (drop at body) ++ closing_units check
units_left (part.Check at) body check = check_units (drop at check)
