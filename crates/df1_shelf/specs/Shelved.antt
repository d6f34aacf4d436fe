-- A shelf in memory.
use Rattle.std.specs.Prelude.{ℕ, List, Option, option_map}
use Rattle.std.specs.BTreeMap.{get_by_text}
use Rattle.df1_shelf.specs.declared.shelf_mem.ShelfMem.{ShelfMem}
use Rattle.df1_shelf.specs.Shelves.{Filed}

-- the file of a name
abbrev pub file_of : ShelfMem → List ℕ → Option Filed
file_of s name = option_map (λ file. record { bytes = file.bytes.items; fails = file.fails }) (get_by_text s.files name)
