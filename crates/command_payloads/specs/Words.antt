-- Where the words of an address are in data tables.
use Rattle.std.specs.Prelude.{ℕ, ◌+◌, ◌*◌, List}
use Rattle.std.specs.Option.{option_map_or}
use Rattle.data_files.specs.declared.file_spec.FileSpec.{FileSpec}
use Rattle.data_files.specs.Tables.{file_of}
use Rattle.data_files.specs.Words.{words_per_element}
use Rattle.data_addresses.specs.declared.address.Address.{Address}

-- the index in its file of the word of an address, and 0 where there is no such file
abbrev pub index_of : List FileSpec → Address → ℕ
index_of specs at = option_map_or (λ f. at.element * words_per_element f.kind + at.sub) (file_of specs at.file) 0
