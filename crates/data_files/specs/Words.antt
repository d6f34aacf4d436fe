-- How many words the elements of a file have, and which files hold words alone.
use Rattle.std.specs.Prelude.{ℕ, Bool, true, false}
use Rattle.df1_base.specs.declared.file_type.FileType.{FileType}
use Rattle.df1_base.specs.declared.file_type.FileType.TheVariants.{Status, Bit, Timer, Counter, Control, Integer, Float}

-- the words of an element of this type
abbrev pub words_per_element : FileType → ℕ
words_per_element Status = 1
words_per_element Bit = 1
words_per_element Timer = 3
words_per_element Counter = 3
words_per_element Control = 3
words_per_element Integer = 1
words_per_element Float = 2

-- a file of this type holds bits or integers
abbrev pub holds_words : FileType → Bool
holds_words Status = false
holds_words Bit = true
holds_words Timer = false
holds_words Counter = false
holds_words Control = false
holds_words Integer = true
holds_words Float = false
