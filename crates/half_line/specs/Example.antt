-- Half-duplex scripts whose runs nothing disturbs: a command is issued, executed, and answered at a poll; and two are out at two stations, whose replies come in the other order. And two that nothing disturbs once a write has lost a byte and is given up, or the reply to one is lost. Two in which a write after noise is answered, with one station and with two, and one in which an answer leaves the master inside a pair.
use Rattle.std.specs.Prelude.{ℕ, true, List, [], ◌∷◌, ◌++◌, None}
use Rattle.df1_base.specs.declared.file_type.FileType.TheVariants.{Integer}
use Rattle.df1_check.specs.declared.Check.TheVariants.{Bcc}
use Rattle.script_statement.specs.declared.who.Who.TheVariants.{M, S}
use Rattle.script_parts.specs.declared.script.Event.{Event}
use Rattle.script_parts.specs.declared.script.Event.TheVariants.{Issue, Take, Deliver, Lose, Foreign, Tick}
use Rattle.script_parts.specs.declared.script.Script.{Script}
use Rattle.script_parts.specs.Plans.{first_plan}

-- so many bytes of the master arrive at a station, and so many of a station at the master
abbrev pub reach : ℕ → ℕ → Event
reach station n = Deliver (record { from = M; to = S station }) n

abbrev pub come_from : ℕ → ℕ → Event
come_from station n = Deliver (record { from = S station; to = M }) n

-- a write of 1234 to word 0 of integer file 7 of station 3; a poll of station 3, which gives its reply; and a poll of station 5,
-- which has none
abbrev pub polled_write : Script
polled_write = record {
  half = true;
  check = Bcc;
  ends = first_plan M 0 ∷ record (first_plan (S 3) 3) { files = record { number = 7; kind = Integer; count = 16 } ∷ [] } ∷ first_plan (S 5) 5 ∷ [];
  events =
      Issue M None 3 (0x0F ∷ 0xAA ∷ 0x02 ∷ 0x07 ∷ 0x89 ∷ 0x00 ∷ 0x00 ∷ 0x34 ∷ 0x12 ∷ [])
      ∷ Take M 22 ∷ reach 3 22 ∷ reach 5 22 ∷ Take (S 3) 2 ∷ come_from 3 2
      ∷ Tick M 1 ∷ Take M 4 ∷ reach 3 4 ∷ reach 5 4 ∷ Take (S 3) 11 ∷ come_from 3 11
      ∷ Take M 2 ∷ reach 3 2 ∷ reach 5 2
      ∷ Tick M 1 ∷ Take M 4 ∷ reach 3 4 ∷ reach 5 4 ∷ Take (S 5) 2 ∷ come_from 5 2
      ∷ [];
}

-- the bodies of the command and of its reply
abbrev pub the_command : List ℕ
the_command = 0x03 ∷ 0x00 ∷ 0x0F ∷ 0x00 ∷ 0x01 ∷ 0x00 ∷ 0xAA ∷ 0x02 ∷ 0x07 ∷ 0x89 ∷ 0x00 ∷ 0x00 ∷ 0x34 ∷ 0x12 ∷ []

abbrev pub the_reply : List ℕ
the_reply = 0x00 ∷ 0x03 ∷ 0x4F ∷ 0x00 ∷ 0x01 ∷ 0x00 ∷ []

-- two commands may be out: an echo of 52 goes to station 5, and one of 51 to station 3; the polls come to station 3 first
abbrev pub two_stations : Script
two_stations = record {
  half = true;
  check = Bcc;
  ends = record (first_plan M 0) { window = 2 } ∷ first_plan (S 3) 3 ∷ first_plan (S 5) 5 ∷ [];
  events =
      Issue M None 5 (0x06 ∷ 0x00 ∷ 0x52 ∷ [])
      ∷ Issue M None 3 (0x06 ∷ 0x00 ∷ 0x51 ∷ [])
      ∷ Take M 16 ∷ reach 3 16 ∷ reach 5 16 ∷ Take (S 5) 2 ∷ come_from 5 2
      ∷ Take M 16 ∷ reach 3 16 ∷ reach 5 16 ∷ Take (S 3) 2 ∷ come_from 3 2
      ∷ Tick M 1 ∷ Take M 4 ∷ reach 3 4 ∷ reach 5 4 ∷ Take (S 3) 12 ∷ come_from 3 12
      ∷ Take M 2 ∷ reach 3 2 ∷ reach 5 2
      ∷ Tick M 1 ∷ Take M 4 ∷ reach 3 4 ∷ reach 5 4 ∷ Take (S 5) 12 ∷ come_from 5 12
      ∷ Take M 2 ∷ reach 3 2 ∷ reach 5 2
      ∷ [];
}

-- the bodies of its commands and of their replies
abbrev pub first_echo : List ℕ
first_echo = 0x05 ∷ 0x00 ∷ 0x06 ∷ 0x00 ∷ 0x01 ∷ 0x00 ∷ 0x00 ∷ 0x52 ∷ []

abbrev pub first_echoed : List ℕ
first_echoed = 0x00 ∷ 0x05 ∷ 0x46 ∷ 0x00 ∷ 0x01 ∷ 0x00 ∷ 0x52 ∷ []

abbrev pub second_echo : List ℕ
second_echo = 0x03 ∷ 0x00 ∷ 0x06 ∷ 0x00 ∷ 0x02 ∷ 0x00 ∷ 0x00 ∷ 0x51 ∷ []

abbrev pub second_echoed : List ℕ
second_echoed = 0x00 ∷ 0x03 ∷ 0x46 ∷ 0x00 ∷ 0x02 ∷ 0x00 ∷ 0x51 ∷ []

-- a master that gives a message up at the first tick: a byte of its first write is lost, and the tick gives the write up; then nothing is under
-- way, and a second write is executed by station 3 and answered at a poll
abbrev pub lost_write : List Event
lost_write =
    Issue M None 3 (0x0F ∷ 0xAA ∷ 0x02 ∷ 0x07 ∷ 0x89 ∷ 0x00 ∷ 0x00 ∷ 0x34 ∷ 0x12 ∷ [])
    ∷ Take M 22 ∷ reach 3 7 ∷ Lose (record { from = M; to = S 3 }) 1 ∷ reach 3 14
    ∷ Tick M 1
    ∷ []

abbrev pub second_write : List Event
second_write =
    Issue M None 3 (0x0F ∷ 0xAA ∷ 0x02 ∷ 0x07 ∷ 0x89 ∷ 0x01 ∷ 0x00 ∷ 0x78 ∷ 0x56 ∷ [])
    ∷ Take M 22 ∷ reach 3 22 ∷ Take (S 3) 2 ∷ come_from 3 2
    ∷ Tick M 1 ∷ Take M 4 ∷ reach 3 4 ∷ Take (S 3) 11 ∷ come_from 3 11
    ∷ Take M 2 ∷ reach 3 2
    ∷ []

abbrev pub after_a_lost_write : Script
after_a_lost_write = record {
  half = true;
  check = Bcc;
  ends = record (first_plan M 0) { ack_ticks = 1; max_resends = 0 } ∷ record (first_plan (S 3) 3) { files = record { number = 7; kind = Integer; count = 16 } ∷ [] } ∷ [];
  events = lost_write ++ second_write;
}

-- the bodies of the second command and of its reply
abbrev pub second_command : List ℕ
second_command = 0x03 ∷ 0x00 ∷ 0x0F ∷ 0x00 ∷ 0x02 ∷ 0x00 ∷ 0xAA ∷ 0x02 ∷ 0x07 ∷ 0x89 ∷ 0x01 ∷ 0x00 ∷ 0x78 ∷ 0x56 ∷ []

abbrev pub second_reply : List ℕ
second_reply = 0x00 ∷ 0x03 ∷ 0x4F ∷ 0x00 ∷ 0x02 ∷ 0x00 ∷ []

-- a master that waits one tick after a poll, and a station that sends a reply once: the first write is executed, its reply is lost, and is
-- dropped at the next poll, so that nothing answers the write any more; then a second write is executed and answered beside it
abbrev pub lost_reply : List Event
lost_reply =
    Issue M None 3 (0x0F ∷ 0xAA ∷ 0x02 ∷ 0x07 ∷ 0x89 ∷ 0x00 ∷ 0x00 ∷ 0x34 ∷ 0x12 ∷ [])
    ∷ Take M 22 ∷ reach 3 22 ∷ Take (S 3) 2 ∷ come_from 3 2
    ∷ Tick M 1 ∷ Take M 4 ∷ reach 3 4 ∷ Take (S 3) 11 ∷ Lose (record { from = S 3; to = M }) 11
    ∷ Tick M 1
    ∷ Tick M 1 ∷ Take M 4 ∷ reach 3 4 ∷ Take (S 3) 2 ∷ come_from 3 2
    ∷ []

abbrev pub after_a_lost_reply : Script
after_a_lost_reply = record {
  half = true;
  check = Bcc;
  ends = record (first_plan M 0) { poll_ticks = 1; window = 2 } ∷ record (first_plan (S 3) 3) { max_sends = 1; files = record { number = 7; kind = Integer; count = 16 } ∷ [] } ∷ [];
  events = lost_reply ++ second_write;
}

-- a foreign DLE comes to station 3, where nothing is under way: a first write is lost to it and given up, and a second one is executed and
-- answered; then a third one is
abbrev pub stray_dle : List Event
stray_dle = Foreign (record { from = M; to = S 3 }) (0x10 ∷ []) ∷ []

abbrev pub two_writes : List Event
two_writes =
    (Issue M None 3 (0x0F ∷ 0xAA ∷ 0x02 ∷ 0x07 ∷ 0x89 ∷ 0x00 ∷ 0x00 ∷ 0x34 ∷ 0x12 ∷ []) ∷ Take M 22 ∷ reach 3 22 ∷ Tick M 1 ∷ [])
    ++ second_write

abbrev pub third_write : List Event
third_write =
    Issue M None 3 (0x0F ∷ 0xAA ∷ 0x02 ∷ 0x07 ∷ 0x89 ∷ 0x02 ∷ 0x00 ∷ 0xBC ∷ 0x9A ∷ [])
    ∷ Take M 22 ∷ reach 3 22 ∷ Take (S 3) 2 ∷ come_from 3 2
    ∷ Tick M 1 ∷ Take M 4 ∷ reach 3 4 ∷ Take (S 3) 11 ∷ come_from 3 11
    ∷ Take M 2 ∷ reach 3 2
    ∷ []

abbrev pub after_a_stray_dle : Script
after_a_stray_dle = record {
  half = true;
  check = Bcc;
  ends = record (first_plan M 0) { ack_ticks = 1; max_resends = 0 } ∷ record (first_plan (S 3) 3) { files = record { number = 7; kind = Integer; count = 16 } ∷ [] } ∷ [];
  events = stray_dle ++ ((two_writes ++ []) ++ third_write);
}

-- the body of the reply to the third write
abbrev pub third_reply : List ℕ
third_reply = 0x00 ∷ 0x03 ∷ 0x4F ∷ 0x00 ∷ 0x03 ∷ 0x00 ∷ []

-- the same noise on a line with a second station, 5: a first write to station 3 is lost to it and given up, and a second one is executed and
-- answered
abbrev pub writes_beside_another : List Event
writes_beside_another =
    Issue M None 3 (0x0F ∷ 0xAA ∷ 0x02 ∷ 0x07 ∷ 0x89 ∷ 0x00 ∷ 0x00 ∷ 0x34 ∷ 0x12 ∷ [])
    ∷ Take M 22 ∷ reach 3 22 ∷ reach 5 22 ∷ Tick M 1
    ∷ Issue M None 3 (0x0F ∷ 0xAA ∷ 0x02 ∷ 0x07 ∷ 0x89 ∷ 0x01 ∷ 0x00 ∷ 0x78 ∷ 0x56 ∷ [])
    ∷ Take M 22 ∷ reach 3 22 ∷ reach 5 22 ∷ Take (S 3) 2 ∷ come_from 3 2
    ∷ Tick M 1 ∷ Take M 4 ∷ reach 3 4 ∷ reach 5 4 ∷ Take (S 3) 11 ∷ come_from 3 11
    ∷ Take M 2 ∷ reach 3 2 ∷ reach 5 2
    ∷ []

-- then station 5 is polled, and has nothing
abbrev pub poll_of_another : List Event
poll_of_another = Tick M 1 ∷ Take M 4 ∷ reach 3 4 ∷ reach 5 4 ∷ Take (S 5) 2 ∷ come_from 5 2 ∷ []

-- then station 5 executes an echo, station 3 is polled, and station 5 answers at the next poll
abbrev pub echo_of_another : List Event
echo_of_another =
    Issue M None 5 (0x06 ∷ 0x00 ∷ 0x51 ∷ [])
    ∷ Take M 16 ∷ reach 3 16 ∷ reach 5 16 ∷ Take (S 5) 2 ∷ come_from 5 2
    ∷ Tick M 1 ∷ Take M 4 ∷ reach 3 4 ∷ reach 5 4 ∷ Take (S 3) 2 ∷ come_from 3 2
    ∷ Tick M 1 ∷ Take M 4 ∷ reach 3 4 ∷ reach 5 4 ∷ Take (S 5) 12 ∷ come_from 5 12
    ∷ Take M 2 ∷ reach 3 2 ∷ reach 5 2
    ∷ []

abbrev pub noise_beside_another : Script
noise_beside_another = record {
  half = true;
  check = Bcc;
  ends = record (first_plan M 0) { ack_ticks = 1; max_resends = 0 } ∷ record (first_plan (S 3) 3) { files = record { number = 7; kind = Integer; count = 16 } ∷ [] } ∷ first_plan (S 5) 5 ∷ [];
  events = stray_dle ++ ((writes_beside_another ++ poll_of_another) ++ echo_of_another);
}

-- the body of the reply to that echo
abbrev pub echo_reply : List ℕ
echo_reply = 0x00 ∷ 0x05 ∷ 0x46 ∷ 0x00 ∷ 0x03 ∷ 0x00 ∷ 0x51 ∷ []

-- an echo for station 240 is executed; the poll that is to fetch its reply loses its last byte there, and the wait for it ends
abbrev pub cut_off_poll : List Event
cut_off_poll =
    Issue M None 240 (0x06 ∷ 0x00 ∷ [])
    ∷ Take M 15 ∷ reach 240 15 ∷ reach 3 15 ∷ Take (S 240) 2 ∷ come_from 240 2
    ∷ Tick M 1 ∷ Take M 4 ∷ reach 240 3 ∷ Lose (record { from = M; to = S 240 }) 1 ∷ reach 3 4
    ∷ Tick M 2
    ∷ []

-- then the first byte of an echo for station 3 ends that poll, and station 240 sends its reply beside that of station 3: the master takes
-- the latter for the answer, and station 240 the master's ACK for its own; the last byte that comes to the master is the check of the
-- former, a DLE
abbrev pub mixed_replies : List Event
mixed_replies =
    Issue M None 3 (0x06 ∷ 0x00 ∷ [])
    ∷ Take M 15 ∷ reach 240 15 ∷ reach 3 15 ∷ Take (S 3) 2 ∷ come_from 3 2
    ∷ Take (S 240) 3
    ∷ Tick M 1 ∷ Take M 4 ∷ reach 3 4
    ∷ Take (S 3) 3 ∷ come_from 3 3 ∷ come_from 240 3 ∷ Take (S 3) 8 ∷ come_from 3 8
    ∷ reach 240 4 ∷ Take (S 240) 8
    ∷ Take M 2 ∷ reach 240 2 ∷ reach 3 2
    ∷ come_from 240 8
    ∷ []

-- a further echo for station 3 is executed, and its ACK isn't heard; its reply is fetched, and answers no command any more
abbrev pub missed_ack : List Event
missed_ack =
    Issue M None 3 (0x06 ∷ 0x00 ∷ [])
    ∷ Take M 15 ∷ reach 240 15 ∷ reach 3 15 ∷ Take (S 3) 2 ∷ come_from 3 2
    ∷ Tick M 2
    ∷ Tick M 1 ∷ Take M 4 ∷ reach 240 4 ∷ reach 3 4 ∷ Take (S 240) 2 ∷ come_from 240 2
    ∷ Tick M 1 ∷ Take M 4 ∷ reach 240 4 ∷ reach 3 4 ∷ Take (S 3) 11 ∷ come_from 3 11
    ∷ Take M 2 ∷ reach 240 2 ∷ reach 3 2
    ∷ []

abbrev pub left_inside : Script
left_inside = record {
  half = true;
  check = Bcc;
  ends = record (first_plan M 0) { tns = 186; window = 2; ack_ticks = 2; poll_ticks = 2; max_resends = 0 } ∷ first_plan (S 240) 240 ∷ first_plan (S 3) 3 ∷ [];
  events = cut_off_poll ++ ((mixed_replies ++ []) ++ missed_ack);
}
