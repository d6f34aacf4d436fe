-- A script over a line that loses nothing, on which one order is executed and answered: end b's file 7 has two words.
use Rattle.std.specs.Prelude.{ℕ, false, List, [], ◌∷◌}
use Rattle.df1_base.specs.declared.file_type.FileType.TheVariants.{Integer}
use Rattle.df1_check.specs.declared.Check.TheVariants.{Bcc}
use Rattle.script_statement.specs.declared.who.Who.TheVariants.{A, B}
use Rattle.script_parts.specs.declared.script.Event.TheVariants.{Take, Deliver}
use Rattle.script_parts.specs.declared.script.Script.{Script}
use Rattle.script_parts.specs.Plans.{first_plan}

abbrev pub two_words : Script
two_words = record {
  half = false;
  check = Bcc;
  ends =
      first_plan A 0
      ∷ record (first_plan B 1) {
        files = record { number = 7; kind = Integer; count = 2 } ∷ [];
        words = record { who = B; file = 7; index = 0; value = 0x1234 } ∷ record { who = B; file = 7; index = 1; value = 0x5678 } ∷ [];
      }
      ∷ [];
  events =
      Take A 99 ∷ Deliver (record { from = A; to = B }) 99
      ∷ Take B 99 ∷ Deliver (record { from = B; to = A }) 99
      ∷ Take A 99 ∷ Deliver (record { from = A; to = B }) 99
      ∷ [];
}

-- what is written in their place
abbrev pub other_words : List ℕ
other_words = 0x21 ∷ 0x43 ∷ 0x65 ∷ 0x87 ∷ []
