-- A statement has its values within their ranges.
use Rattle.std.proofs.Common.{◌≡◌, ℕ, ◌+◌, ◌<◌, Bool, true, false, List, [], ◌∷◌, length, position, take, drop, Option, Some, None, option_map, arith, nat_le, nat_lt, eqb}
use Rattle.std.specs.Prelude.{IsTrue, ◌&&◌, ◌||◌, codes, if◌then◌else◌}
use Rattle.std.specs.Str.{bytes_eq}
use Rattle.std.proofs.lemmas.Bool.{cond_both}
use Rattle.std.proofs.lemmas.Bool.Decides.{nat_tests}
use Rattle.df1_base.specs.declared.file_type.FileType.{FileType}
use Rattle.end_settings.specs.declared.key.EndKey.{EndKey}
use Rattle.end_settings.specs.Rows.{IfFits}
use Rattle.end_settings.specs.Table.{key_named, row_of}
use Rattle.end_settings.proofs.Fitting.{IfFits-fitting}
use Rattle.script_statement.specs.declared.setup_statement.SetupStatement.{SetupStatement}
use Rattle.script_statement.specs.declared.setup_statement.SetupStatement.TheVariants.{Set, Block, File}
use Rattle.script_statement.specs.declared.half_event.Way.{Way}
use Rattle.script_statement.specs.declared.half_event.Way.TheVariants.{ToStation, ToMaster}
use Rattle.script_statement.specs.declared.half_event.HalfEvent.{HalfEvent}
use Rattle.script_statement.specs.declared.half_event.HalfEvent.TheVariants as half
use Rattle.script_statement.specs.declared.statement.EndLetter.{EndLetter}
use Rattle.script_statement.specs.declared.statement.EndName.{EndName}
use Rattle.script_statement.specs.declared.statement.EndName.TheVariants.{Known, Master, Station}
use Rattle.script_statement.specs.declared.statement.Verb.{Verb}
use Rattle.script_statement.specs.declared.statement.Statement.{Statement}
use Rattle.script_statement.specs.declared.statement.Statement.TheVariants as statement
use Rattle.script_parts.specs.Playable.{IsBetween}
use Rattle.script_parts.specs.HalfPlayable.{IsStationNumber}
use Rattle.script_statement.specs.Words.{number_of, within, hex_of, byte_of, register_of}
use Rattle.script_statement.specs.Statements.{statement_of, station_issue, issue_to, from_station, issue_by, end_of, check_of, number_as, setting_with, setting_of, set_statement, file_number, compat_line, is_block, block_of, block_line, setting_at, end_setting, set_line, file_type, file_spec, file_line, word_line, station_number, station_line, times_of, source_of, is_payload, payload_of, mask_of, foreign_of, verb_of, times_line, issue_line, issue_from, side_from, alter_line, foreign_line, half_issue, half_issue_from, master_take, master_tick, station_take, half_deliver, half_lose, half_alter, half_foreign, way_event, way_once, master_times, once_to_station, master_event, to_station, to_station_from, station_once, station_event, half_line, end_in, letter_in, event_alone, event_with, event_to, event_to_from, bare_event, operand_event, number_operand_event, source_operand_event, one_word, two_words, three_words, five_words}

-- a number within bounds, if there is one
abbrev pub IfBetween : ℕ → ℕ → Option ℕ → Type 0
IfBetween least most None = Unit {0}
IfBetween least most (Some n) = IsBetween least most n

abbrev pub IsSoundLine : SetupStatement → Type 0
IsSoundLine (Set x) = IfFits (row_of x.key).values x.value
IsSoundLine (Block (Some bytes)) = IsBetween 1 244 (length bytes)
IsSoundLine (File (Some spec)) = IsBetween 1 1000 spec.count
IsSoundLine other = Unit {0}

abbrev pub IsSoundEvent : HalfEvent → Type 0
IsSoundEvent (half.Issue station (Some payload)) = IsTrue (is_payload payload)
IsSoundEvent (half.IssueFrom station src (Some payload)) = IsTrue (is_payload payload)
IsSoundEvent (half.StationIssue station to (Some payload)) = IsTrue (is_payload payload)
IsSoundEvent (half.MasterTake n) = IfBetween 1 4000000 n
IsSoundEvent (half.MasterTick n) = IfBetween 1 4000000 n
IsSoundEvent (half.StationTake station n) = IfBetween 1 4000000 n
IsSoundEvent (half.Deliver way n) = IfBetween 1 4000000 n
IsSoundEvent (half.Lose way n) = IfBetween 1 4000000 n
IsSoundEvent (half.Alter way (Some mask)) = 0 < mask
IsSoundEvent (half.Foreign way (Some bytes)) = IsBetween 1 250 (length bytes)
IsSoundEvent other = Unit {0}

-- a number that a station may have, if there is one
abbrev pub IfStation : Option ℕ → Type 0
IfStation None = Unit {0}
IfStation (Some number) = IsStationNumber number

-- the values of a statement, where they are there, are within their ranges
abbrev pub IsSound : Statement → Type 0
IsSound (statement.Station number) = IfStation number
IsSound (statement.Setup end line) = IsSoundLine line
IsSound (statement.Issue side (Some payload)) = IsTrue (is_payload payload)
IsSound (statement.IssueFrom side src (Some payload)) = IsTrue (is_payload payload)
IsSound (statement.Times side verb n) = IfBetween 1 4000000 n
IsSound (statement.Alter side (Some mask)) = 0 < mask
IsSound (statement.Foreign side (Some bytes)) = IsBetween 1 250 (length bytes)
IsSound (statement.Half event) = IsSoundEvent event
IsSound other = Unit {0}

abbrev pub IfSound : Option Statement → Type 0
IfSound None = Unit {0}
IfSound (Some s) = IsSound s

abbrev pub IfSoundEvent : Option HalfEvent → Type 0
IfSoundEvent None = Unit {0}
IfSoundEvent (Some event) = IsSoundEvent event

bounds : (least most n : ℕ) → (nat_le least n && nat_le n most) ≡ true → IsBetween least most n
bounds least most n e = (grind (arith, nat_tests), grind (arith, nat_tests))

pub IfBetween-within : (least most : ℕ) (o : Option ℕ) → IfBetween least most (within least most o)
IfBetween-within least most None = tt
IfBetween-within least most (Some n) = cond_both (nat_le least n && nat_le n most) (Some n) None (IfBetween least most) (bounds least most n) (λ _. tt)

sound_setting : (end : Option EndName) (word : List ℕ) (key : Option EndKey) → IfSound (set_statement end (option_map (setting_with word) key))
sound_setting None word key = tt
sound_setting (Some end) word None = tt
sound_setting (Some end) word (Some key) = IfFits-fitting (row_of key).values (number_as (row_of key).values word)

sound_compat_line : (end : Option EndName) (file : Option (Option ℕ)) → IfSound (compat_line end file)
sound_compat_line None file = tt
sound_compat_line (Some end) file = tt

sound_block : (end : EndName) (bytes : Option (List ℕ)) → IsSoundLine (Block (block_of bytes))
sound_block end None = tt
sound_block end (Some bytes) = cond_both (is_block bytes) (Some bytes) None (λ o. IsSoundLine (Block o)) (bounds 1 244 (length bytes)) (λ _. tt)

sound_block_line : (end : Option EndName) (bytes : Option (List ℕ)) → IfSound (block_line end bytes)
sound_block_line None bytes = tt
sound_block_line (Some end) bytes = sound_block end bytes

named : (compat block : Bool) (end : Option EndName) (name value : List ℕ) → IfSound (
    if compat then compat_line end (file_number value)
    else if block then block_line end (hex_of value)
    else set_statement end (setting_of name value))
named true block end name value = sound_compat_line end (file_number value)
named false true end name value = sound_block_line end (hex_of value)
named false false end name value = sound_setting end value (key_named name)

sound_setting_at : (key value : List ℕ) (o : Option ℕ) → IfSound (setting_at key value o)
sound_setting_at key value None = tt
sound_setting_at key value (Some stop) =
    named (bytes_eq (drop (stop + 1) key) (codes "compat")) (bytes_eq (drop (stop + 1) key) (codes "block")) (end_of (take stop key)) (drop (stop + 1) key) value

set_lines : (mode full half check : Bool) (key value : List ℕ) → IfSound (
    if mode then (if full then Some (statement.Mode false) else if half then Some (statement.Mode true) else None)
    else if check then Some (statement.Check (check_of value))
    else end_setting key value)
set_lines true true half check key value = tt
set_lines true false true check key value = tt
set_lines true false false check key value = tt
set_lines false full half true key value = tt
set_lines false full half false key value = sound_setting_at key value (position (λ byte. eqb byte 46) key)

sound_set_line : (key value : List ℕ) → IfSound (set_line key value)
sound_set_line key value = set_lines (bytes_eq key (codes "mode")) (bytes_eq value (codes "full")) (bytes_eq value (codes "half")) (bytes_eq key (codes "check")) key value

sound_file : (end : EndName) (number : Option ℕ) (kind : Option FileType) (count : Option ℕ) → IfBetween 1 1000 count → IsSoundLine (File (file_spec number kind count))
sound_file end None kind count h = tt
sound_file end (Some number) None count h = tt
sound_file end (Some number) (Some kind) None h = tt
sound_file end (Some number) (Some kind) (Some count) h = h

sound_file_line : (end : Option EndName) (number : Option ℕ) (kind : Option FileType) (count : Option ℕ) → IfSound (file_line end number kind count)
sound_file_line None number kind count = tt
sound_file_line (Some end) None kind count = tt
sound_file_line (Some end) (Some number) kind None = tt
sound_file_line (Some end) (Some number) kind (Some count) =
    sound_file end (within 0 999 (Some number)) kind (within 1 1000 (Some count)) (IfBetween-within 1 1000 (Some count))

sound_word_line : (end : Option EndName) (number index value : Option ℕ) → IfSound (word_line end number index value)
sound_word_line None number index value = tt
sound_word_line (Some end) None index value = tt
sound_word_line (Some end) (Some number) None value = tt
sound_word_line (Some end) (Some number) (Some index) None = tt
sound_word_line (Some end) (Some number) (Some index) (Some value) = tt

-- ---- the values of events

sound_payload : (F : Option (List ℕ) → Type 0) (bytes : List ℕ) → (is_payload bytes ≡ true → F (Some bytes)) → F None → F (payload_of bytes)
sound_payload F bytes some none = cond_both (is_payload bytes) (Some bytes) None F some (λ _. none)

positive : (mask : ℕ) → eqb mask 0 ≡ false → 0 < mask
positive mask e = grind (arith, nat_tests)

sound_mask : (F : Option ℕ → Type 0) (mask : ℕ) → (0 < mask → F (Some mask)) → F None → F (mask_of mask)
sound_mask F mask some none = cond_both (eqb mask 0) None (Some mask) F (λ _. none) (λ e. some (positive mask e))

sound_bytes : (F : Option (List ℕ) → Type 0) (bytes : List ℕ) → (IsBetween 1 250 (length bytes) → F (Some bytes)) → F None → F (foreign_of bytes)
sound_bytes F bytes some none = cond_both (nat_le 1 (length bytes) && nat_le (length bytes) 250) (Some bytes) None F (λ e. some (bounds 1 250 (length bytes) e)) (λ _. none)

-- ---- events of a full-duplex link

sound_times_line : (side : EndLetter) (verb : Option Verb) (n : Option ℕ) → IfSound (times_line side verb n)
sound_times_line side None n = tt
sound_times_line side (Some verb) None = tt
sound_times_line side (Some verb) (Some n) = IfBetween-within 1 4000000 (Some n)

sound_issue_line : (side : EndLetter) (bytes : Option (List ℕ)) → IfSound (issue_line side bytes)
sound_issue_line side None = tt
sound_issue_line side (Some bytes) = sound_payload (λ o. IsSound (statement.Issue side o)) bytes (λ e. e) tt

sound_issue_from : (side : EndLetter) (src : Option ℕ) (bytes : Option (List ℕ)) → IfSound (issue_from side src bytes)
sound_issue_from side None bytes = tt
sound_issue_from side (Some src) None = tt
sound_issue_from side (Some src) (Some bytes) = sound_payload (λ o. IsSound (statement.IssueFrom side (source_of src) o)) bytes (λ e. e) tt

sound_side_from : (side : EndLetter) (letter : ℕ) (src : Option ℕ) (operand : List ℕ) → IfSound (side_from side letter src operand)
sound_side_from side letter src operand =
    cond_both (eqb letter 105) (issue_from side src (hex_of operand)) None IfSound (λ _. sound_issue_from side src (hex_of operand)) (λ _. tt)

sound_alter_line : (side : EndLetter) (mask : Option ℕ) → IfSound (alter_line side mask)
sound_alter_line side None = tt
sound_alter_line side (Some mask) = sound_mask (λ o. IsSound (statement.Alter side o)) mask (λ e. e) tt

sound_foreign_line : (side : EndLetter) (bytes : Option (List ℕ)) → IfSound (foreign_line side bytes)
sound_foreign_line side None = tt
sound_foreign_line side (Some bytes) = sound_bytes (λ o. IsSound (statement.Foreign side o)) bytes (λ e. e) tt

events : (issue alter foreign : Bool) (side : EndLetter) (letter : ℕ) (operand : List ℕ) → IfSound (
    if issue then issue_line side (hex_of operand)
    else if alter then alter_line side (byte_of operand)
    else if foreign then foreign_line side (hex_of operand)
    else times_line side (verb_of letter) (number_of operand))
events true alter foreign side letter operand = sound_issue_line side (hex_of operand)
events false true foreign side letter operand = sound_alter_line side (byte_of operand)
events false false true side letter operand = sound_foreign_line side (hex_of operand)
events false false false side letter operand = sound_times_line side (verb_of letter) (number_of operand)

-- ---- events of a half-duplex line

sound_times : (F : Option ℕ → HalfEvent) (n : Option ℕ) → ((o : Option ℕ) → IfBetween 1 4000000 o → IsSoundEvent (F o)) → IfSoundEvent (option_map F (times_of n))
sound_times F None ok = tt
sound_times F (Some n) ok = ok (within 1 4000000 (Some n)) (IfBetween-within 1 4000000 (Some n))

sound_half_issue : (station : ℕ) (bytes : Option (List ℕ)) → IfSoundEvent (half_issue station bytes)
sound_half_issue station None = tt
sound_half_issue station (Some bytes) = sound_payload (λ o. IsSoundEvent (half.Issue station o)) bytes (λ e. e) tt

sound_half_issue_from : (station src : Option ℕ) (bytes : Option (List ℕ)) → IfSoundEvent (half_issue_from station src bytes)
sound_half_issue_from None src bytes = tt
sound_half_issue_from (Some station) None bytes = tt
sound_half_issue_from (Some station) (Some src) None = tt
sound_half_issue_from (Some station) (Some src) (Some bytes) = sound_payload (λ o. IsSoundEvent (half.IssueFrom station (source_of src) o)) bytes (λ e. e) tt

sound_half_alter : (way : Way) (mask : Option ℕ) → IfSoundEvent (half_alter way mask)
sound_half_alter way None = tt
sound_half_alter way (Some mask) = sound_mask (λ o. IsSoundEvent (half.Alter way o)) mask (λ e. e) tt

sound_half_foreign : (way : Way) (bytes : Option (List ℕ)) → IfSoundEvent (half_foreign way bytes)
sound_half_foreign way None = tt
sound_half_foreign way (Some bytes) = sound_bytes (λ o. IsSoundEvent (half.Foreign way o)) bytes (λ e. e) tt

ways : (deliver lose alter foreign : Bool) (way : Way) (operand : List ℕ) → IfSoundEvent (
    if deliver then half_deliver way (number_of operand)
    else if lose then half_lose way (number_of operand)
    else if alter then half_alter way (byte_of operand)
    else if foreign then half_foreign way (hex_of operand)
    else None)
ways true lose alter foreign way operand = sound_times (half.Deliver way) (number_of operand) (λ _ ok. ok)
ways false true alter foreign way operand = sound_times (half.Lose way) (number_of operand) (λ _ ok. ok)
ways false false true foreign way operand = sound_half_alter way (byte_of operand)
ways false false false true way operand = sound_half_foreign way (hex_of operand)
ways false false false false way operand = tt

sound_way : (way : Way) (letter : ℕ) (operand : List ℕ) → IfSoundEvent (way_event way letter operand)
sound_way way letter operand = ways (eqb letter 100) (eqb letter 120) (eqb letter 99) (eqb letter 110) way operand

one : IsBetween 1 4000000 1
one = (omega arith, omega arith)

once : (deliver lose : Bool) (way : Way) → IfSoundEvent (
    if deliver then Some (half.Deliver way (Some 1))
    else if lose then Some (half.Lose way (Some 1))
    else None)
once true lose way = one
once false true way = one
once false false way = tt

sound_once : (way : Way) (letter : ℕ) → IfSoundEvent (way_once way letter)
sound_once way letter = once (eqb letter 100) (eqb letter 120) way

master : (take tick : Bool) (n : Option ℕ) → IfSoundEvent (if take then master_take n else if tick then master_tick n else None)
master true tick n = sound_times half.MasterTake n (λ _ ok. ok)
master false true n = sound_times half.MasterTick n (λ _ ok. ok)
master false false n = tt

sound_master_times : (letter : ℕ) (n : Option ℕ) → IfSoundEvent (master_times letter n)
sound_master_times letter n = master (eqb letter 107) (eqb letter 116) n

sound_once_to : (station : Option ℕ) (letter : ℕ) → IfSoundEvent (once_to_station station letter)
sound_once_to None letter = tt
sound_once_to (Some station) letter = sound_once (ToStation station) letter

sound_master_event : (letter : ℕ) (operand : List ℕ) → IfSoundEvent (master_event letter operand)
sound_master_event letter operand =
    cond_both ((eqb letter 107) || (eqb letter 116)) (master_times letter (number_of operand)) (once_to_station (number_of operand) letter) IfSoundEvent
    (λ _. sound_master_times letter (number_of operand)) (λ _. sound_once_to (number_of operand) letter)

sound_to_station : (station : Option ℕ) (letter : ℕ) (operand : List ℕ) → IfSoundEvent (to_station station letter operand)
sound_to_station None letter operand = tt
sound_to_station (Some station) letter operand =
    cond_both (eqb letter 105) (half_issue station (hex_of operand)) (way_event (ToStation station) letter operand) IfSoundEvent
    (λ _. sound_half_issue station (hex_of operand)) (λ _. sound_way (ToStation station) letter operand)

sound_to_station_from : (station src : Option ℕ) (letter : ℕ) (operand : List ℕ) → IfSoundEvent (to_station_from station src letter operand)
sound_to_station_from station src letter operand =
    cond_both (eqb letter 105) (half_issue_from station src (hex_of operand)) None IfSoundEvent (λ _. sound_half_issue_from station src (hex_of operand)) (λ _. tt)

sound_station_once : (station letter : ℕ) → IfSoundEvent (station_once station letter)
sound_station_once station letter =
    cond_both (eqb letter 107) (Some (half.StationTake station (Some 1))) (way_once (ToMaster station) letter) IfSoundEvent
    (λ _. one) (λ _. sound_once (ToMaster station) letter)

sound_station_event : (station letter : ℕ) (operand : List ℕ) → IfSoundEvent (station_event station letter operand)
sound_station_event station letter operand =
    cond_both (eqb letter 107) (station_take station (number_of operand)) (way_event (ToMaster station) letter operand) IfSoundEvent
    (λ _. sound_times (half.StationTake station) (number_of operand) (λ _ ok. ok)) (λ _. sound_way (ToMaster station) letter operand)

sound_issue_to : (station : ℕ) (to : Option ℕ) (bytes : Option (List ℕ)) → IfSoundEvent (issue_to station to bytes)
sound_issue_to station None bytes = tt
sound_issue_to station (Some to) None = tt
sound_issue_to station (Some to) (Some bytes) = sound_payload (λ o. IsSoundEvent (half.StationIssue station to o)) bytes (λ e. e) tt

sound_from_station : (end : Option EndName) (letter : ℕ) (to : Option ℕ) (operand : List ℕ) → IfSoundEvent (from_station end letter to operand)
sound_from_station None letter to operand = tt
sound_from_station (Some (Known side)) letter to operand = tt
sound_from_station (Some Master) letter to operand = tt
sound_from_station (Some (Station station)) letter to operand =
    cond_both (eqb letter 105) (issue_to station to (hex_of operand)) None IfSoundEvent (λ _. sound_issue_to station to (hex_of operand)) (λ _. tt)

sound_issue_by : (word to operand : List ℕ) → IfSoundEvent (issue_by word to operand)
sound_issue_by [] to operand = tt
sound_issue_by (byte ∷ rest) to operand = sound_from_station (end_in (byte ∷ rest)) (letter_in (byte ∷ rest)) (number_of to) operand

sound_half : (event : Option HalfEvent) → IfSoundEvent event → IfSound (half_line event)
sound_half None h = tt
sound_half (Some event) h = h

-- ---- events of either mode

sound_alone : (end : Option EndName) (letter : ℕ) → IfSound (event_alone end letter)
sound_alone None letter = tt
sound_alone (Some (Known side)) letter = sound_times_line side (verb_of letter) (Some 1)
sound_alone (Some Master) letter = sound_half (master_times letter (Some 1)) (sound_master_times letter (Some 1))
sound_alone (Some (Station station)) letter = sound_half (station_once station letter) (sound_station_once station letter)

sound_with : (end : Option EndName) (letter : ℕ) (operand : List ℕ) → IfSound (event_with end letter operand)
sound_with None letter operand = tt
sound_with (Some (Known side)) letter operand = events (eqb letter 105) (eqb letter 99) (eqb letter 110) side letter operand
sound_with (Some Master) letter operand = sound_half (master_event letter operand) (sound_master_event letter operand)
sound_with (Some (Station station)) letter operand = sound_half (station_event station letter operand) (sound_station_event station letter operand)

sound_to : (end : Option EndName) (letter : ℕ) (number : Option ℕ) (operand : List ℕ) → IfSound (event_to end letter number operand)
sound_to None letter number operand = tt
sound_to (Some (Known side)) letter number operand = sound_side_from side letter number operand
sound_to (Some Master) letter number operand = sound_half (to_station number letter operand) (sound_to_station number letter operand)
sound_to (Some (Station station)) letter number operand = tt

sound_to_from : (end : Option EndName) (letter : ℕ) (station src : Option ℕ) (operand : List ℕ) → IfSound (event_to_from end letter station src operand)
sound_to_from None letter station src operand = tt
sound_to_from (Some (Known side)) letter station src operand = tt
sound_to_from (Some Master) letter station src operand = sound_half (to_station_from station src letter operand) (sound_to_station_from station src letter operand)
sound_to_from (Some (Station number)) letter station src operand = tt

sound_bare : (word : List ℕ) → IfSound (bare_event word)
sound_bare [] = tt
sound_bare (byte ∷ rest) = sound_alone (end_in (byte ∷ rest)) (letter_in (byte ∷ rest))

sound_operand : (word operand : List ℕ) → IfSound (operand_event word operand)
sound_operand [] operand = tt
sound_operand (byte ∷ rest) operand = sound_with (end_in (byte ∷ rest)) (letter_in (byte ∷ rest)) operand

sound_number_operand : (word number operand : List ℕ) → IfSound (number_operand_event word number operand)
sound_number_operand [] number operand = tt
sound_number_operand (byte ∷ rest) number operand = sound_to (end_in (byte ∷ rest)) (letter_in (byte ∷ rest)) (number_of number) operand

sound_source_operand : (word station src operand : List ℕ) → IfSound (source_operand_event word station src operand)
sound_source_operand [] station src operand = tt
sound_source_operand (byte ∷ rest) station src operand = sound_to_from (end_in (byte ∷ rest)) (letter_in (byte ∷ rest)) (number_of station) (number_of src) operand

-- ---- stations

station_is : (number : ℕ) → ((eqb number 16) || nat_lt 254 number) ≡ false → IsStationNumber number
station_is number e = grind (arith, nat_tests)

sound_station : (number : ℕ) → IfStation (station_number number)
sound_station number = cond_both ((eqb number 16) || nat_lt 254 number) None (Some number) IfStation (λ _. tt) (station_is number)

sound_station_line : (number : Option ℕ) → IfSound (station_line number)
sound_station_line None = tt
sound_station_line (Some number) = sound_station number

-- ---- all forms

sound_one : (word : List ℕ) → IfSound (one_word word)
sound_one word = cond_both (bytes_eq word (codes "end")) (Some statement.End) (bare_event word) IfSound (λ _. tt) (λ _. sound_bare word)

sound_two : (word operand : List ℕ) → IfSound (two_words word operand)
sound_two word operand =
    cond_both (bytes_eq word (codes "station")) (station_line (number_of operand)) (operand_event word operand) IfSound
    (λ _. sound_station_line (number_of operand)) (λ _. sound_operand word operand)

sound_three : (verb key value : List ℕ) → IfSound (three_words verb key value)
sound_three verb key value = cond_both (bytes_eq verb (codes "set")) (set_line key value) (number_operand_event verb key value) IfSound (λ _. sound_set_line key value) (λ _. sound_number_operand verb key value)

five : (file word : Bool) (end : Option EndName) (number count index value : Option ℕ) (kind : Option FileType) → IfSound (
    if file then file_line end number kind count
    else if word then word_line end number index value
    else None)
five true word end number count index value kind = sound_file_line end number kind count
five false true end number count index value kind = sound_word_line end number index value
five false false end number count index value kind = tt

sound_five : (verb end first second third : List ℕ) → IfSound (five_words verb end first second third)
sound_five verb end first second third =
    five (bytes_eq verb (codes "file")) (bytes_eq verb (codes "word")) (end_of end) (number_of first) (number_of third) (number_of second) (register_of third) (file_type second)

-- what the words of a line say is sound
pub IfSound-statement_of : (words : List (List ℕ)) → IfSound (statement_of words)
unfolding statement_of
IfSound-statement_of [] = tt
IfSound-statement_of (a ∷ []) = sound_one a
IfSound-statement_of (a ∷ b ∷ []) = sound_two a b
IfSound-statement_of (a ∷ b ∷ c ∷ []) = sound_three a b c
IfSound-statement_of (a ∷ b ∷ c ∷ d ∷ []) = sound_source_operand a b c d
IfSound-statement_of (a ∷ b ∷ c ∷ d ∷ e ∷ []) = sound_five a b c d e
IfSound-statement_of (a ∷ b ∷ c ∷ d ∷ e ∷ f ∷ more) = tt

-- and so is a command of a station
pub IfSound-station_issue : (words : List (List ℕ)) → IfSoundEvent (station_issue words)
unfolding station_issue
IfSound-station_issue [] = tt
IfSound-station_issue (a ∷ []) = tt
IfSound-station_issue (a ∷ b ∷ []) = tt
IfSound-station_issue (a ∷ b ∷ c ∷ []) = sound_issue_by a b c
IfSound-station_issue (a ∷ b ∷ c ∷ d ∷ more) = tt
