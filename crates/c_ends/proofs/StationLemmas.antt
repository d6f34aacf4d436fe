-- Stations of which none is bad or listed twice are a master's. Assumes nothing.
use Rattle.std.proofs.Common.{◌≡◌, ℕ, false, List, [], ◌∷◌, ◌++◌, length, refl, subst, sym, append_assoc, arith}
use Rattle.std.specs.Prelude.{Option, Some, None, nat_eq, nat_lt, ◌==◌, ◌||◌}
use Rattle.std.specs.Option.{option_or}
use Rattle.std.specs.List.{All, IsDistinct, list_any}
use Rattle.std.proofs.lemmas.Cmp.{nat_eq_equiv}
use Rattle.std.proofs.lemmas.List.{append-nil}
use Rattle.std.proofs.lemmas.List.Elements.{All-nil, All-push}
use Rattle.std.proofs.lemmas.Map.Keys.{IsDistinct-push}
use Rattle.half_master.specs.Stations.{AreStations, IsNumber}
use Rattle.c_ends.specs.declared.code.Code.{Code}
use Rattle.c_ends.specs.declared.code.Code.TheVariants as code
use Rattle.c_ends.specs.Links.{many_fault, number_fault, station_fault, twice_fault}
use Rattle.c_ends.proofs.InRange.{at_most, test-none}

or-none : (a b : Option Code) → option_or a b ≡ None → (a ≡ None) × (b ≡ None)
or-none None b e = (refl, e)
or-none (Some answer) b e = cc

neither : (number : ℕ) → (number == 16 || number == 255) ≡ false → IsNumber number
neither number e = grind arith

pub is_number : (number : ℕ) → number_fault number ≡ None → IsNumber number
is_number number e = neither number (test-none (number == 16 || number == 255) code.BadStation e)

pub record Apart (numbers : List ℕ) : Type 0 where
  pub distinct : IsDistinct nat_eq numbers
  pub each : All IsNumber numbers

apart : (before numbers : List ℕ) → Apart before → station_fault before numbers ≡ None → Apart (before ++ numbers)
apart before [] a e = subst (λ (l : List ℕ). Apart l) (sym (append-nil before)) a
apart before (number ∷ numbers) a e =
    let later = or-none (option_or (number_fault number) (twice_fault before number)) (station_fault (before ++ number ∷ []) numbers) e in
    let own = or-none (number_fault number) (twice_fault before number) later.0 in
    subst (λ (l : List ℕ). Apart l) (append_assoc before (number ∷ []) numbers) (apart (before ++ number ∷ []) numbers (record {
      distinct = IsDistinct-push nat_eq_equiv before number a.distinct (test-none (list_any (λ other. number == other) before) code.StationTwice own.1);
      each = All-push IsNumber before number a.each (is_number number own.0);
    }) later.1)

none_apart : Apart []
unfolding IsDistinct
none_apart = record { distinct = tt; each = All-nil IsNumber }

pub are_stations : (numbers : List ℕ) → many_fault numbers ≡ None → station_fault [] numbers ≡ None → AreStations numbers
are_stations numbers many each =
    let a = apart [] numbers none_apart each in
    record { at_most = at_most (length numbers) 32 (test-none (nat_lt 32 (length numbers)) code.TooManyStations many); distinct = a.distinct; each = a.each }
