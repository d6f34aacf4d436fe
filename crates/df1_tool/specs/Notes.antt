-- The notes that more than one command has, the note where the words are none of the forms, and what the sink of a note shows.
use Rattle.std.specs.Prelude.{◌≡◌, ◌⊎◌, ℕ, List, Option, codes}
use Rattle.df1_base.specs.Outside.{Rose, Put, WroteLess}

abbrev pub input_failed : List ℕ
input_failed = codes "df1: input cannot be read\n"

abbrev pub output_failed : List ℕ
output_failed = codes "df1: output cannot be written\n"

abbrev pub input_too_long : List ℕ
input_too_long = codes "df1: input is over 268435456 bytes\n"

abbrev pub no_memory : List ℕ
no_memory = codes "df1: no memory\n"

-- the words are none of the forms
abbrev pub usage : List ℕ
usage = codes "df1: usage: df1 replay | serve PLAN raw|timed | issue PLAN | dissect SIDE CHECK | check SIDE CHECK | drill SEED COUNT | vectors | storm SEED COUNT | route | pull PLAN FILE WORDS | push PLAN FILE HEX | rehearse pull FILE WORDS | rehearse push FILE HEX\n"

-- A note is written and its count of faults stands still, or it failed, and a first part is written and not all.
abbrev pub IsNoted : Option (List ℕ) → Option (List ℕ) → ℕ → ℕ → List ℕ → Type 0
IsNoted held held' faults faults' note = (Put held held' note × (faults' ≡ faults)) ⊎ (WroteLess held held' note × Rose faults faults')
