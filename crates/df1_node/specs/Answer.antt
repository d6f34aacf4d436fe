-- What a station answers to a command: the tables after it, and the body of the reply.
use Rattle.std.specs.Prelude.{ℕ, Bool, false, ◌&&◌, List, [], ◌∷◌, ◌++◌, drop, ◌==◌, slice_index, if◌then◌else◌, Option, Some, None, Result, Ok, Err, refl}
use Rattle.std.specs.List.{list_any}
use Rattle.std.specs.Option.{option_map_or}
use Rattle.std.specs.Coded.{Coded, code_by, coded×, coded_list, coded_option, coded_ℕ}
use Rattle.df1_base.specs.declared.code.Code.{Code}
use Rattle.df1_base.specs.declared.code.Code.TheVariants.{Done, Sts, Ext}
use Rattle.pccc_envelope.specs.Envelope.{spelling, envelope_of, reply_form}
use Rattle.data_files.specs.Effect.{Effect, refused}
use Rattle.data_files.specs.Tables.{DataTables, with_word}
use Rattle.slc_commands.specs.Meaning.{meaning as slc_meaning}
use Rattle.slc_commands.specs.Order as slc
use Rattle.plc_commands.specs.Meaning.{meaning as plc_meaning}
use Rattle.plc_commands.specs.Order as plc
use Rattle.plc_commands.specs.Reading.{order_of as plc_order_of}

-- a station: its tables, its compatibility file, the block that its status reply holds, and the numbers of the files that no command may write
pub record StationState : Type 0 where
  pub tables : DataTables
  pub compat : Option ℕ
  pub block : List ℕ
  pub locked : List ℕ

abbrev pub station_with : DataTables → Option ℕ → List ℕ → List ℕ → StationState
station_with tables compat block locked = record { tables = tables; compat = compat; block = block; locked = locked }

-- a station of whose files commands may write each
abbrev pub station_of : DataTables → Option ℕ → List ℕ → StationState
station_of tables compat block = station_with tables compat block []

-- stations are told apart by these
abbrev pub station_code : Coded DataTables → Coded StationState
station_code tables =
    code_by (DataTables × (Option ℕ × (List ℕ × List ℕ))) (coded× tables (coded× (coded_option coded_ℕ) (coded× (coded_list coded_ℕ) (coded_list coded_ℕ))))
    (λ s. (s.tables, (s.compat, (s.block, s.locked)))) (λ p. record { tables = p.0; compat = p.1.0; block = p.1.1.0; locked = p.1.1.1 }) (λ _. refl)

-- the station with another word at a place
abbrev pub with_station_word : StationState → ℕ → ℕ → ℕ → StationState
with_station_word station number index value = record station { tables = with_word station.tables number index value }

-- the station with other files that no command may write
abbrev pub with_locks : StationState → List ℕ → StationState
with_locks station files = record station { locked = files }

-- what a command asks for: an order of the logical commands, or of the others
pub data Asked : Type 0 where
  Logical : (order : slc.Order) → Asked
  Other : (order : plc.Order) → Asked

abbrev pub if_read : Result slc.Order Code → Option slc.Order
if_read (Ok order) = Some order
if_read (Err code) = None

-- an order of the logical commands, whose CMD is 0F
abbrev pub logical_order : ℕ → List ℕ → Option slc.Order
logical_order cmd payload = if cmd == 0x0F then if_read (slc.order_of payload) else None

abbrev pub asked_by : Option slc.Order → Result plc.Order Code → Result Asked Code
asked_by (Some order) other = Ok (Logical order)
asked_by None (Ok order) = Ok (Other order)
asked_by None (Err code) = Err code

-- what a command asks for, by CMD and what follows TNS, or the code that refuses it
abbrev pub asked_of : ℕ → List ℕ → Result Asked Code
asked_of cmd payload = asked_by (logical_order cmd payload) (plc_order_of cmd payload)

-- an order writes a file whose number passes a test
abbrev pub slc_writes : (ℕ → Bool) → slc.Order → Bool
slc_writes test order = slc.writes order.fnc && test order.at.file

abbrev pub plc_writes : (ℕ → Bool) → Option ℕ → plc.Order → Bool
plc_writes test compat (plc.Echo bytes) = false
plc_writes test compat plc.Status = false
plc_writes test compat (plc.Peek address size) = false
plc_writes test compat (plc.Poke address bytes) = option_map_or test compat false
plc_writes test compat (plc.RangeWrite window bytes) = test window.at.file
plc_writes test compat (plc.RangeRead window size) = false
plc_writes test compat (plc.Change sets) = list_any (λ set. test set.at.file) sets
plc_writes test compat (plc.TypedWrite window element array bytes) = test window.at.file
plc_writes test compat (plc.TypedRead window count) = false

-- no command may write this file
abbrev pub is_locked : List ℕ → ℕ → Bool
is_locked locked file = list_any (λ other. other == file) locked

-- the code that refuses a write of such a file: memory is protected (STS 50) for an unprotected write, and else access is denied
-- (EXT STS 0B)
abbrev pub plc_denial : plc.Order → Code
plc_denial (plc.Poke address bytes) = Sts 0x50
plc_denial other = Ext 0x0B

-- what an order does: it is refused where it writes a file that no command may write, and else it does what it means
abbrev pub slc_effect : DataTables → List ℕ → slc.Order → Effect
slc_effect tables locked order = if slc_writes (is_locked locked) order then refused tables (Ext 0x0B) else slc_meaning tables order

abbrev pub plc_effect : StationState → plc.Order → Effect
plc_effect station order =
    if plc_writes (is_locked station.locked) station.compat order then refused station.tables (plc_denial order)
    else plc_meaning station.tables station.compat station.block order

-- what a command does: it is read, and what is read is done
abbrev pub effect_of : StationState → Result Asked Code → Effect
effect_of station (Ok (Logical order)) = slc_effect station.tables station.locked order
effect_of station (Ok (Other order)) = plc_effect station order
effect_of station (Err code) = refused station.tables code

-- STS of a code
abbrev pub status_of : Code → ℕ
status_of Done = 0x00
status_of (Sts status) = status
status_of (Ext extension) = 0xF0

-- EXT STS of a code
abbrev pub extension_of : Code → List ℕ
extension_of Done = []
extension_of (Sts status) = []
extension_of (Ext extension) = extension ∷ []

-- what the body of a command does
abbrev pub done : StationState → List ℕ → Effect
done station body = effect_of station (asked_of (slice_index body 2) (drop 6 body))

-- the body of the reply: the envelope's reply form with STS, then EXT STS where there is one, then the data
abbrev pub reply_body : List ℕ → Effect → List ℕ
reply_body body effect = spelling (reply_form (envelope_of body) (status_of effect.code)) ++ extension_of effect.code ++ effect.reply

-- the station after a command
abbrev pub after_answer : StationState → List ℕ → StationState
after_answer station body = record station { tables = (done station body).tables }

-- what a station replies to a command
abbrev pub reply_to : StationState → List ℕ → List ℕ
reply_to station body = reply_body body (done station body)
