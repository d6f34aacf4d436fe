-- The text of a report.
use Rattle.std.specs.Prelude.{ℕ, ◌/◌, ◌%◌, List, [], ◌∷◌, ◌++◌, codes, decimal}
use Rattle.std.specs.List.{flat_map}
use Rattle.hex.specs.Hex.{encode_upper}
use Rattle.script_statement.specs.declared.who.Who.{Who}
use Rattle.script_statement.specs.declared.who.Who.TheVariants.{A, B, M, S}
use Rattle.script_parts.specs.declared.script.WordOf.{WordOf}
use Rattle.replay_report.specs.declared.record.Line.{Line}
use Rattle.replay_report.specs.declared.record.Line.TheVariants.{Sent, Exec, Answered, Undelivered, Unanswered, Stray, Routed, Repeat, Full, Damaged, Enquiry, Dropped}
use Rattle.replay_report.specs.declared.record.Record.{Record}

-- the line of the bytes that an end gave at one event, if it gave any
abbrev pub sent_lines : Who → List ℕ → List Line
sent_lines who [] = []
sent_lines who (byte ∷ bytes) = Sent who (byte ∷ bytes) ∷ []

-- the name of an end
abbrev pub who_text : Who → List ℕ
who_text A = codes "a"
who_text B = codes "b"
who_text M = codes "m"
who_text (S station) = decimal station

-- the line of what an event made
abbrev pub line_text : Line → List ℕ
line_text (Sent who bytes) = who_text who ++ codes " sent " ++ encode_upper bytes ++ codes "\n"
line_text (Exec who body) = who_text who ++ codes " exec " ++ encode_upper body ++ codes "\n"
line_text (Answered who n body) = who_text who ++ codes " answered " ++ decimal n ++ codes " " ++ encode_upper body ++ codes "\n"
line_text (Undelivered who n) = who_text who ++ codes " undelivered " ++ decimal n ++ codes "\n"
line_text (Unanswered who n) = who_text who ++ codes " unanswered " ++ decimal n ++ codes "\n"
line_text (Stray who body) = who_text who ++ codes " stray " ++ encode_upper body ++ codes "\n"
line_text (Routed who body) = who_text who ++ codes " routed " ++ encode_upper body ++ codes "\n"
line_text (Repeat who) = who_text who ++ codes " repeat\n"
line_text (Full who) = who_text who ++ codes " full\n"
line_text (Damaged who) = who_text who ++ codes " damaged\n"
line_text (Enquiry who) = who_text who ++ codes " enquiry\n"
line_text (Dropped who) = who_text who ++ codes " dropped\n"

-- the four digits of a word
abbrev pub word_digits : ℕ → List ℕ
word_digits value = encode_upper (value / 256 ∷ value % 256 ∷ [])

-- the line of a word of a data file
abbrev pub word_text : WordOf → List ℕ
word_text w =
    who_text w.who ++ codes " word " ++ decimal w.file ++ codes " " ++ decimal w.index ++ codes " " ++ word_digits w.value ++ codes "\n"

-- the last line
abbrev pub deceived_text : ℕ → List ℕ
deceived_text count = codes "deceived " ++ decimal count ++ codes "\n"

-- the lines in the order of the events, then the words that aren't 0, then the count of deceptions
unfoldable pub report : Record → List ℕ
report r = flat_map line_text r.lines ++ flat_map word_text r.words ++ deceived_text r.deceived
