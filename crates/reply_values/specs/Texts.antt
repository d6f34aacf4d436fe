-- The texts of status codes.
use Rattle.std.specs.Prelude.{ℕ, ◌/◌, ◌==◌, nat_lt, List, [], ◌∷◌, codes, if◌then◌else◌}

-- the text of a code that isn't listed
abbrev pub unknown_text : List ℕ
unknown_text = codes "see the manual of the controller"

-- the text of the first row of this code
abbrev pub text_in : List (ℕ × List ℕ) → ℕ → List ℕ
text_in [] code = unknown_text
text_in (row ∷ rows) code = if code == row.0 then row.1 else text_in rows code

-- STS of faults at the own node
abbrev pub local_texts : List (ℕ × List ℕ)
local_texts =
    (0x01, codes "the destination node is out of buffer space")
    ∷ (0x02, codes "delivery can't be guaranteed: the remote node doesn't acknowledge the command")
    ∷ (0x03, codes "a duplicate token holder was detected")
    ∷ (0x04, codes "the local port is disconnected")
    ∷ (0x05, codes "the application layer timed out waiting for a response")
    ∷ (0x06, codes "a duplicate node was detected")
    ∷ (0x07, codes "the station is offline")
    ∷ (0x08, codes "there is a hardware fault")
    ∷ []

-- the high four bits of STS of faults at the other node
abbrev pub remote_texts : List (ℕ × List ℕ)
remote_texts =
    (0x1, codes "the command or its format is unknown there")
    ∷ (0x2, codes "the host has a problem and will not communicate")
    ∷ (0x3, codes "the remote host is missing, disconnected or shut down")
    ∷ (0x4, codes "the host couldn't complete the function because of a hardware fault")
    ∷ (0x5, codes "the address is wrong, or the memory is protected")
    ∷ (0x6, codes "command protection is set so that the function isn't allowed")
    ∷ (0x7, codes "the controller is in program mode")
    ∷ (0x8, codes "there is no compatibility file, or the communication zone has a problem")
    ∷ (0x9, codes "the remote node can't buffer the command")
    ∷ (0xA, codes "wait for an ACK: a buffer is full")
    ∷ (0xB, codes "the remote node has a problem because of a download")
    ∷ (0xC, codes "wait for an ACK: a buffer is full")
    ∷ []

-- EXT STS
abbrev pub extended_texts : List (ℕ × List ℕ)
extended_texts =
    (0x01, codes "a field has a value that isn't allowed")
    ∷ (0x02, codes "the address has too few levels")
    ∷ (0x03, codes "the address has too many levels")
    ∷ (0x04, codes "the symbol isn't found")
    ∷ (0x05, codes "the symbol has an improper format")
    ∷ (0x06, codes "there is no such file, element or sub-element")
    ∷ (0x07, codes "the file has the wrong size")
    ∷ (0x08, codes "the request can't be completed: the situation has changed since it began")
    ∷ (0x09, codes "data or file is too large")
    ∷ (0x0A, codes "the address or the range is past the end of the file")
    ∷ (0x0B, codes "the access is denied")
    ∷ (0x0C, codes "the condition can't be generated: the resource isn't available")
    ∷ (0x0D, codes "the condition exists already: the resource is available")
    ∷ (0x0E, codes "the command can't be executed")
    ∷ (0x0F, codes "the histogram overflowed")
    ∷ (0x10, codes "there is no access")
    ∷ (0x11, codes "the data type isn't allowed")
    ∷ (0x12, codes "a parameter or the data is invalid")
    ∷ (0x13, codes "the address refers to a deleted area")
    ∷ (0x14, codes "the command failed for an unknown reason, perhaps a PLC-3 histogram overflow")
    ∷ (0x15, codes "the data can't be converted")
    ∷ (0x16, codes "the scanner can't communicate with the rack adapter")
    ∷ (0x17, codes "the type doesn't match")
    ∷ (0x18, codes "the response of the module wasn't valid")
    ∷ (0x19, codes "a label is there twice")
    ∷ (0x1A, codes "the file is open: another node owns it")
    ∷ (0x1B, codes "another node owns the program")
    ∷ (0x1E, codes "the element of the data table is protected")
    ∷ (0x1F, codes "there is a temporary internal problem")
    ∷ (0x22, codes "the remote rack has a fault")
    ∷ (0x23, codes "it timed out")
    ∷ (0x24, codes "the error is unknown")
    ∷ []

abbrev pub local_text : ℕ → List ℕ
local_text sts = text_in local_texts sts

abbrev pub remote_text : ℕ → List ℕ
remote_text high = text_in remote_texts high

abbrev pub extended_text : ℕ → List ℕ
extended_text ext = text_in extended_texts ext

abbrev pub status_text : (sts ext : ℕ) → List ℕ
status_text sts ext =
    if sts == 0 then codes "the command was executed"
    else if sts == 0xF0 then extended_text ext
    else if nat_lt sts 16 then local_text sts
    else remote_text (sts / 16)
