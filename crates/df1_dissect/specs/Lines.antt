-- The lines of a dissection.
use Rattle.std.specs.Prelude.{ℕ, ◌/◌, ◌%◌, List, [], ◌∷◌, ◌++◌, length, drop, codes, decimal, nat_lt, if◌then◌else◌}
use Rattle.hex.specs.Hex.{encode_upper}
use Rattle.pccc_envelope.specs.declared.envelope.Envelope.{Envelope}
use Rattle.pccc_envelope.specs.Envelope.{envelope_of}
use Rattle.df1_dissect.specs.declared.kind.Kind.{Kind}
use Rattle.df1_dissect.specs.declared.kind.Kind.TheVariants as kind
use Rattle.df1_dissect.specs.Commands.{message_name}
use Rattle.df1_dissect.specs.Telling.{Told}

-- the two digits of a byte
abbrev pub byte_digits : ℕ → List ℕ
byte_digits b = encode_upper (b ∷ [])

-- bytes in hexadecimal, or a dash where there are none
abbrev pub bytes_text : List ℕ → List ℕ
bytes_text [] = codes "-"
bytes_text (b ∷ bytes) = encode_upper (b ∷ bytes)

-- the envelope, TNS as a number with its high byte first
abbrev pub envelope_text : Envelope → List ℕ
envelope_text e =
    codes "dst=" ++ byte_digits e.dst ++ codes " src=" ++ byte_digits e.src ++ codes " cmd=" ++ byte_digits e.cmd ++ codes " sts=" ++ byte_digits e.sts ++ codes " tns="
    ++ byte_digits (e.tns / 256) ++ byte_digits (e.tns % 256) ++ codes " "

-- the fields of a message: its envelope, its name, and what follows TNS
abbrev pub message_text : Envelope → List ℕ → List ℕ
message_text e rest = envelope_text e ++ message_name e.cmd rest ++ codes " " ++ bytes_text rest

-- of a body, which has 6 bytes or more in every message that is told by its fields
unfoldable pub fields_text : List ℕ → List ℕ
fields_text body = if nat_lt (length body) 6 then bytes_text body else message_text (envelope_of body) (drop 6 body)

-- what is told of a thing of a kind, with its body
unfoldable pub kind_text : Kind → List ℕ → List ℕ
kind_text kind.Good body = codes "good " ++ fields_text body
kind_text (kind.Message stn) body = codes "message " ++ byte_digits stn ++ codes " " ++ fields_text body
kind_text kind.Short body = codes "short " ++ bytes_text body
kind_text kind.BadCheck body = codes "bad-check " ++ bytes_text body
kind_text kind.Long body = codes "long"
kind_text (kind.Broken code) body = codes "broken " ++ byte_digits code
kind_text kind.Restart body = codes "restart"
kind_text kind.Damaged body = codes "damaged"
kind_text (kind.DamagedFor stn) body = codes "damaged " ++ byte_digits stn
kind_text (kind.Poll stn) body = codes "poll " ++ byte_digits stn
kind_text kind.BadPoll body = codes "bad-poll"
kind_text kind.Ack body = codes "ack"
kind_text kind.Nak body = codes "nak"
kind_text kind.Reset body = codes "reset"
kind_text kind.Enq body = codes "enq"
kind_text kind.Eot body = codes "eot"
kind_text (kind.Stray b) body = codes "stray " ++ byte_digits b
kind_text (kind.StrayPair code) body = codes "stray-pair " ++ byte_digits code

-- the offsets of the first and of the last byte
abbrev pub offsets_text : ℕ → ℕ → List ℕ
offsets_text first last = decimal first ++ codes " " ++ decimal last ++ codes " "

-- the line of a thing
abbrev pub line_text : Told → List ℕ
line_text one = offsets_text one.first one.last ++ kind_text one.kind one.body ++ codes "\n"

-- the last line, of an item that is unfinished
abbrev pub open_line : ℕ → ℕ → List ℕ
open_line first last = offsets_text first last ++ codes "open\n"
