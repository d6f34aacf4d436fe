-- Scripts whose runs deceive no end: one command is issued, crosses the line, is executed and answered; the same where a byte of it is altered; three of two sources; one after another was given up, over a line that loses nothing more, and over one that damages a byte; and three echoes after a lone DLE.
use Rattle.std.specs.Prelude.{ℕ, Bool, true, false, List, [], ◌∷◌, ◌++◌, Some, None}
use Rattle.df1_base.specs.declared.file_type.FileType.TheVariants.{Integer}
use Rattle.df1_check.specs.declared.Check.TheVariants.{Bcc}
use Rattle.script_statement.specs.declared.who.Who.TheVariants.{A, B}
use Rattle.script_parts.specs.declared.script.Event.{Event}
use Rattle.script_parts.specs.declared.script.Event.TheVariants.{Issue, Take, Deliver, Lose, Alter, Foreign, Tick}
use Rattle.script_parts.specs.declared.script.Script.{Script}
use Rattle.script_parts.specs.Plans.{first_plan}
use Rattle.replay_report.specs.declared.record.Line.{Line}
use Rattle.replay_report.specs.declared.record.Line.TheVariants.{Damaged}

-- a write of 1234 to word 0 of integer file 7, over a line that loses nothing
abbrev pub one_write : Script
one_write = record {
  half = false;
  check = Bcc;
  ends = first_plan A 0 ∷ record (first_plan B 1) { files = record { number = 7; kind = Integer; count = 16 } ∷ [] } ∷ [];
  events =
      Issue A None 1 (0x0F ∷ 0xAA ∷ 0x02 ∷ 0x07 ∷ 0x89 ∷ 0x00 ∷ 0x00 ∷ 0x34 ∷ 0x12 ∷ [])
      ∷ Take A 19 ∷ Deliver (record { from = A; to = B }) 19
      ∷ Take B 15 ∷ Deliver (record { from = B; to = A }) 15
      ∷ Take A 2 ∷ Deliver (record { from = A; to = B }) 2
      ∷ [];
}

-- the bodies of the command and of its reply
abbrev pub the_command : List ℕ
the_command = 0x01 ∷ 0x00 ∷ 0x0F ∷ 0x00 ∷ 0x01 ∷ 0x00 ∷ 0xAA ∷ 0x02 ∷ 0x07 ∷ 0x89 ∷ 0x00 ∷ 0x00 ∷ 0x34 ∷ 0x12 ∷ []

abbrev pub the_reply : List ℕ
the_reply = 0x00 ∷ 0x01 ∷ 0x4F ∷ 0x00 ∷ 0x01 ∷ 0x00 ∷ []

-- the same write over a line that alters its DST once
abbrev pub hit_write : Script
hit_write = record {
  half = false;
  check = Bcc;
  ends = first_plan A 0 ∷ record (first_plan B 1) { files = record { number = 7; kind = Integer; count = 16 } ∷ [] } ∷ [];
  events =
      Issue A None 1 (0x0F ∷ 0xAA ∷ 0x02 ∷ 0x07 ∷ 0x89 ∷ 0x00 ∷ 0x00 ∷ 0x34 ∷ 0x12 ∷ [])
      ∷ Take A 19 ∷ Deliver (record { from = A; to = B }) 2 ∷ Alter (record { from = A; to = B }) 0x01 ∷ Deliver (record { from = A; to = B }) 17
      ∷ Take B 2 ∷ Deliver (record { from = B; to = A }) 2
      ∷ Take A 19 ∷ Deliver (record { from = A; to = B }) 19
      ∷ Take B 15 ∷ Deliver (record { from = B; to = A }) 15
      ∷ Take A 2 ∷ Deliver (record { from = A; to = B }) 2
      ∷ [];
}

-- the line of a message that came damaged
abbrev pub is_damage : Line → Bool
is_damage (Damaged who) = true
is_damage other = false

-- two may be out, one of each source: node 0 writes 1234 and 5678 to words 0 and 1, and source 9 asks for an echo of 55
abbrev pub two_sources : Script
two_sources = record {
  half = false;
  check = Bcc;
  ends = record (first_plan A 0) { window = 2; per_source = 1 } ∷ record (first_plan B 1) { files = record { number = 7; kind = Integer; count = 16 } ∷ [] } ∷ [];
  events =
      Issue A None 1 (0x0F ∷ 0xAA ∷ 0x02 ∷ 0x07 ∷ 0x89 ∷ 0x00 ∷ 0x00 ∷ 0x34 ∷ 0x12 ∷ [])
      ∷ Issue A None 1 (0x0F ∷ 0xAA ∷ 0x02 ∷ 0x07 ∷ 0x89 ∷ 0x01 ∷ 0x00 ∷ 0x78 ∷ 0x56 ∷ [])
      ∷ Issue A (Some 9) 1 (0x06 ∷ 0x00 ∷ 0x55 ∷ [])
      ∷ Take A 19 ∷ Deliver (record { from = A; to = B }) 19
      ∷ Take B 2 ∷ Deliver (record { from = B; to = A }) 2
      ∷ Take A 13 ∷ Deliver (record { from = A; to = B }) 13
      ∷ Take B 13 ∷ Deliver (record { from = B; to = A }) 13
      ∷ Take A 21 ∷ Deliver (record { from = A; to = B }) 21
      ∷ Take B 14 ∷ Deliver (record { from = B; to = A }) 14
      ∷ Take A 2 ∷ Deliver (record { from = A; to = B }) 2
      ∷ Take B 11 ∷ Deliver (record { from = B; to = A }) 11
      ∷ Take A 2 ∷ Deliver (record { from = A; to = B }) 2
      ∷ [];
}

-- the bodies of its second and third command, and of their replies
abbrev pub second_command : List ℕ
second_command = 0x01 ∷ 0x00 ∷ 0x0F ∷ 0x00 ∷ 0x02 ∷ 0x00 ∷ 0xAA ∷ 0x02 ∷ 0x07 ∷ 0x89 ∷ 0x01 ∷ 0x00 ∷ 0x78 ∷ 0x56 ∷ []

abbrev pub second_reply : List ℕ
second_reply = 0x00 ∷ 0x01 ∷ 0x4F ∷ 0x00 ∷ 0x02 ∷ 0x00 ∷ []

abbrev pub third_command : List ℕ
third_command = 0x01 ∷ 0x09 ∷ 0x06 ∷ 0x00 ∷ 0x03 ∷ 0x00 ∷ 0x00 ∷ 0x55 ∷ []

abbrev pub third_reply : List ℕ
third_reply = 0x09 ∷ 0x01 ∷ 0x46 ∷ 0x00 ∷ 0x03 ∷ 0x00 ∷ 0x55 ∷ []

-- end a takes no NAK: a byte of its first write is lost, and the NAK gives the write up; then nothing is under way, and a second write crosses the line
abbrev pub lost_write : List Event
lost_write =
    Issue A None 1 (0x0F ∷ 0xAA ∷ 0x02 ∷ 0x07 ∷ 0x89 ∷ 0x00 ∷ 0x00 ∷ 0x34 ∷ 0x12 ∷ [])
    ∷ Take A 19 ∷ Deliver (record { from = A; to = B }) 4 ∷ Lose (record { from = A; to = B }) 1 ∷ Deliver (record { from = A; to = B }) 14
    ∷ Take B 2 ∷ Deliver (record { from = B; to = A }) 2
    ∷ []

abbrev pub second_write : List Event
second_write =
    Issue A None 1 (0x0F ∷ 0xAA ∷ 0x02 ∷ 0x07 ∷ 0x89 ∷ 0x01 ∷ 0x00 ∷ 0x78 ∷ 0x56 ∷ [])
    ∷ Take A 19 ∷ Deliver (record { from = A; to = B }) 19
    ∷ Take B 15 ∷ Deliver (record { from = B; to = A }) 15
    ∷ Take A 2 ∷ Deliver (record { from = A; to = B }) 2
    ∷ []

abbrev pub after_a_lost_write : Script
after_a_lost_write = record {
  half = false;
  check = Bcc;
  ends = record (first_plan A 0) { max_naks = 0 } ∷ record (first_plan B 1) { files = record { number = 7; kind = Integer; count = 16 } ∷ [] } ∷ [];
  events = lost_write ++ second_write;
}

-- A lone DLE comes to end b. Then end a, which gives a command up at the first tick, asks for an echo, which b's decoder takes apart,
-- and for another, which is answered; and then for a third.
abbrev pub lone_dle : List Event
lone_dle = Foreign (record { from = A; to = B }) (0x10 ∷ []) ∷ []

abbrev pub two_echoes : List Event
two_echoes =
    Issue A None 1 (0x06 ∷ 0x00 ∷ [])
    ∷ Take A 12 ∷ Deliver (record { from = A; to = B }) 12
    ∷ Tick A 1
    ∷ Issue A None 1 (0x06 ∷ 0x00 ∷ [])
    ∷ Take A 12 ∷ Deliver (record { from = A; to = B }) 12
    ∷ Take B 13 ∷ Deliver (record { from = B; to = A }) 13
    ∷ []

abbrev pub last_ack : List Event
last_ack = Take A 2 ∷ Deliver (record { from = A; to = B }) 2 ∷ []

abbrev pub third_echo : List Event
third_echo =
    Issue A None 1 (0x06 ∷ 0x00 ∷ [])
    ∷ Take A 12 ∷ Deliver (record { from = A; to = B }) 12
    ∷ Take B 13 ∷ Deliver (record { from = B; to = A }) 13
    ∷ Take A 2 ∷ Deliver (record { from = A; to = B }) 2
    ∷ []

abbrev pub after_noise : Script
after_noise = record {
  half = false;
  check = Bcc;
  ends = record (first_plan A 0) { ack_ticks = 1; max_enqs = 0 } ∷ first_plan B 1 ∷ [];
  events = lone_dle ++ ((two_echoes ++ last_ack) ++ third_echo);
}

-- the bodies of the replies to the second and the third echo
abbrev pub second_echoed : List ℕ
second_echoed = 0x00 ∷ 0x01 ∷ 0x46 ∷ 0x00 ∷ 0x02 ∷ 0x00 ∷ []

abbrev pub third_echoed : List ℕ
third_echoed = 0x00 ∷ 0x01 ∷ 0x46 ∷ 0x00 ∷ 0x03 ∷ 0x00 ∷ []

-- end a takes one NAK: the write loses a byte again when it is sent again, and is given up; then a byte of the second write is altered once
abbrev pub lost_again : List Event
lost_again =
    Take A 19 ∷ Deliver (record { from = A; to = B }) 4 ∷ Lose (record { from = A; to = B }) 1 ∷ Deliver (record { from = A; to = B }) 14
    ∷ Take B 2 ∷ Deliver (record { from = B; to = A }) 2
    ∷ []

abbrev pub second_hit_write : List Event
second_hit_write =
    Issue A None 1 (0x0F ∷ 0xAA ∷ 0x02 ∷ 0x07 ∷ 0x89 ∷ 0x01 ∷ 0x00 ∷ 0x78 ∷ 0x56 ∷ [])
    ∷ Take A 19 ∷ Deliver (record { from = A; to = B }) 2 ∷ Alter (record { from = A; to = B }) 0x01 ∷ Deliver (record { from = A; to = B }) 17
    ∷ Take B 2 ∷ Deliver (record { from = B; to = A }) 2
    ∷ Take A 19 ∷ Deliver (record { from = A; to = B }) 19
    ∷ Take B 15 ∷ Deliver (record { from = B; to = A }) 15
    ∷ Take A 2 ∷ Deliver (record { from = A; to = B }) 2
    ∷ []

abbrev pub hit_after_a_lost_write : Script
hit_after_a_lost_write = record {
  half = false;
  check = Bcc;
  ends = record (first_plan A 0) { max_naks = 1 } ∷ record (first_plan B 1) { files = record { number = 7; kind = Integer; count = 16 } ∷ [] } ∷ [];
  events = (lost_write ++ lost_again) ++ second_hit_write;
}
