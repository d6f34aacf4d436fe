-- An address that is told is the one that C gives again.
use Rattle.std.proofs.Common.{◌≡◌, ◌∙◌, ap, refl, ℕ, Option, Some, None}
use Rattle.std.specs.Prelude.{if◌then◌else◌}
use Rattle.std.specs.Option.{is_some, option_map, unwrap_or}
use Rattle.df1_base.specs.declared.file_type.FileType.{FileType}
use Rattle.df1_base.specs.declared.file_type.FileType.TheVariants.{Status, Bit, Timer, Counter, Control, Integer, Float}
use Rattle.data_files.specs.Place.{type_byte}
use Rattle.data_addresses.specs.declared.address.Address.{Address}
use Rattle.c_ends.specs.Parts.{kind_of}
use Rattle.c_payloads.specs.Parts.{address_in, address_with, parts_told}

-- a type by its byte
kind-again : (kind : FileType) → kind_of (type_byte kind) ≡ Some kind
unfolding kind_of
kind-again Status = refl
kind-again Bit = refl
kind-again Timer = refl
kind-again Counter = refl
kind-again Control = refl
kind-again Integer = refl
kind-again Float = refl

-- a bit by what is told of it
bit-again : (bit : Option ℕ) → (if is_some bit then Some (unwrap_or bit 0) else None) ≡ bit
bit-again None = refl
bit-again (Some bit) = refl

pub again : (at : Address) → address_in (parts_told at) ≡ Some at
again at =
    let with_bit : Option ℕ → Option Address = λ bit. Some (record { kind = at.kind; file = at.file; element = at.element; sub = at.sub; bit = bit }) in
    ap (option_map (address_with (parts_told at))) (kind-again at.kind) ∙ ap with_bit (bit-again at.bit)
