-- The envelope at the front of each message body. Bytes are numbers below 256, and a TNS is below 65536.
use Rattle.std.specs.Prelude.{ℕ, ◌+◌, ◌*◌, ◌/◌, ◌%◌, Bool, List, [], ◌∷◌, ◌==◌, slice_index, bit_or}
use Rattle.std.specs.Int.{bit_at}
use Rattle.pccc_envelope.specs.declared.envelope.Envelope.{Envelope}
use Rattle.pccc_envelope.specs.declared.key.Key.{Key}

-- the six bytes of an envelope: DST SRC CMD STS TNSlow TNShigh
abbrev pub spelling : Envelope → List ℕ
spelling e = e.dst ∷ e.src ∷ e.cmd ∷ e.sts ∷ e.tns % 256 ∷ e.tns / 256 ∷ []

-- the transaction number of a body, low byte first
abbrev pub tns_of : List ℕ → ℕ
tns_of body = slice_index body 4 + 256 * slice_index body 5

-- the envelope of a body, by the places of its fields
abbrev pub envelope_of : List ℕ → Envelope
envelope_of body = record { dst = slice_index body 0; src = slice_index body 1; cmd = slice_index body 2; sts = slice_index body 3; tns = tns_of body }

-- what tells two messages apart: who sent it, its command and its transaction number
abbrev pub key_of : List ℕ → Key
key_of body = record { src = slice_index body 1; cmd = slice_index body 2; tns = tns_of body }

-- the envelope of the reply: DST and SRC change places, bit 6 of CMD is set, STS is given, TNS stays
abbrev pub reply_form : Envelope → ℕ → Envelope
reply_form e sts = record { dst = e.src; src = e.dst; cmd = bit_or e.cmd 64; sts = sts; tns = e.tns }

-- a body is a reply where bit 6 of its CMD is set, and else a command
abbrev pub is_reply : List ℕ → Bool
is_reply body = bit_at (slice_index body 2) 6 == 1
