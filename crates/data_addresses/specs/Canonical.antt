-- A text of each address: no zeros in front of a number, sub-elements by their numbers, and what may be left out is.
use Rattle.std.specs.Prelude.{◌≡◌, ℕ, ◌≤◌, true, ◌==◌, List, [], ◌∷◌, ◌++◌, decimal, if◌then◌else◌, Option, Some, None}
use Rattle.df1_base.specs.declared.file_type.FileType.{FileType}
use Rattle.data_addresses.specs.declared.address.Address.{Address}
use Rattle.data_addresses.specs.Text.{has_bits, letter, most_sub}

abbrev pub sub_text : ℕ → List ℕ
sub_text sub = if sub == 0 then [] else 46 ∷ decimal sub

abbrev pub bit_text : Option ℕ → List ℕ
bit_text None = []
bit_text (Some bit) = 47 ∷ decimal bit

abbrev pub address_text : Address → List ℕ
address_text at = letter at.kind ∷ decimal at.file ++ 58 ∷ decimal at.element ++ sub_text at.sub ++ bit_text at.bit

abbrev pub IsBit : FileType → Option ℕ → Type 0
IsBit kind None = Unit {0}
IsBit kind (Some bit) = (has_bits kind ≡ true) × (bit ≤ 15)

-- the addresses that have texts
pub record IsAddress (at : Address) : Type 0 where
  pub file : at.file ≤ 999
  pub element : at.element ≤ 999
  pub sub : at.sub ≤ most_sub at.kind
  pub bit : IsBit at.kind at.bit
