-- The answers of the calls: their numbers and their texts.
use Rattle.std.specs.Prelude.{ℕ, ◌==◌, Option, List, [], ◌∷◌, find, codes}
use Rattle.c_ends.specs.declared.code.Code.{Code}
use Rattle.c_ends.specs.declared.code.Code.TheVariants as code

abbrev pub code_number : Code → ℕ
code_number code.Done = 0
code_number code.NoHandle = 1
code_number code.NoMemory = 2
code_number code.NoRoom = 3
code_number code.BadAckTicks = 4
code_number code.BadPollTicks = 5
code_number code.BadMaxSends = 6
code_number code.BadStation = 7
code_number code.TooManyStations = 8
code_number code.StationTwice = 9
code_number code.BadReplyTicks = 10
code_number code.BadRoom = 11
code_number code.TooManyFiles = 12
code_number code.BadType = 13
code_number code.EmptyFile = 14
code_number code.LargeFile = 15
code_number code.FileTwice = 16
code_number code.NoWord = 17
code_number code.BadCompat = 18
code_number code.LongBlock = 19
code_number code.LongBody = 20
code_number code.NoPayload = 21
code_number code.LongPayload = 22
code_number code.NotCommand = 23
code_number code.Spent = 24
code_number code.NoCommand = 25
code_number code.NotAnswered = 26
code_number code.NoFile = 27
code_number code.BadMaxNaks = 28
code_number code.BadMaxEnqs = 29
code_number code.BadMaxResends = 30
code_number code.BadWindow = 31
code_number code.BadPerSource = 32
code_number code.NotReserved = 33
code_number code.BadFile = 34
code_number code.BadWords = 35
code_number code.BadRoutes = 36
code_number code.NoStation = 37
code_number code.BadSide = 38
code_number code.BadCommand = 39
code_number code.NoAddressType = 40
code_number code.NoAddressFile = 41
code_number code.NoAddressColon = 42
code_number code.NoAddressElement = 43
code_number code.NoAddressSub = 44
code_number code.NoAddressBit = 45
code_number code.NoAddressEnd = 46
code_number code.NoData = 47
code_number code.TooMuchData = 48
code_number code.NoElementType = 49
code_number code.NoSub = 50
code_number code.HalfElement = 51
code_number code.NoBit = 52
code_number code.NoReply = 53
code_number code.NoTypedData = 54

-- all codes, by their numbers
abbrev pub all_codes : List Code
all_codes =
    code.Done ∷ code.NoHandle ∷ code.NoMemory ∷ code.NoRoom ∷ code.BadAckTicks ∷ code.BadPollTicks ∷ code.BadMaxSends ∷ code.BadStation ∷ code.TooManyStations ∷ code.StationTwice ∷ code.BadReplyTicks ∷ code.BadRoom ∷ code.TooManyFiles ∷ code.BadType ∷ code.EmptyFile ∷ code.LargeFile ∷ code.FileTwice ∷ code.NoWord ∷ code.BadCompat ∷ code.LongBlock ∷ code.LongBody ∷ code.NoPayload ∷ code.LongPayload ∷ code.NotCommand ∷ code.Spent ∷ code.NoCommand ∷ code.NotAnswered ∷ code.NoFile ∷ code.BadMaxNaks ∷ code.BadMaxEnqs ∷ code.BadMaxResends ∷ code.BadWindow ∷ code.BadPerSource ∷ code.NotReserved ∷ code.BadFile ∷ code.BadWords ∷ code.BadRoutes ∷ code.NoStation ∷ code.BadSide ∷ code.BadCommand ∷ code.NoAddressType ∷ code.NoAddressFile ∷ code.NoAddressColon ∷ code.NoAddressElement ∷ code.NoAddressSub ∷ code.NoAddressBit ∷ code.NoAddressEnd ∷ code.NoData ∷ code.TooMuchData ∷ code.NoElementType ∷ code.NoSub ∷ code.HalfElement ∷ code.NoBit ∷ code.NoReply ∷ code.NoTypedData ∷ []

-- the code of a number, if it is one's
abbrev pub code_of : ℕ → Option Code
code_of number = find (λ code. code_number code == number) all_codes

abbrev pub code_text : Code → List ℕ
code_text code.Done = codes "the call did what it is for"
code_text code.NoHandle = codes "the handle holds nothing that the call is for"
code_text code.NoMemory = codes "malloc gave no memory"
code_text code.NoRoom = codes "the buffer is too small"
code_text code.BadAckTicks = codes "ack_ticks is out of its range"
code_text code.BadPollTicks = codes "poll_ticks is out of its range"
code_text code.BadMaxSends = codes "max_sends is out of its range"
code_text code.BadStation = codes "a station's number is 16 or 255"
code_text code.TooManyStations = codes "over 32 stations"
code_text code.StationTwice = codes "a station is listed twice"
code_text code.BadReplyTicks = codes "reply_ticks is out of its range"
code_text code.BadRoom = codes "room is out of its range"
code_text code.TooManyFiles = codes "over 256 data files"
code_text code.BadType = codes "a file's type is none of df1_file_type"
code_text code.EmptyFile = codes "a file has no elements"
code_text code.LargeFile = codes "a file has over 1,000 elements"
code_text code.FileTwice = codes "two files have one number"
code_text code.NoWord = codes "there is no such file or word"
code_text code.BadCompat = codes "compat names no Bit or Integer file of the end"
code_text code.LongBlock = codes "a block of over 244 bytes"
code_text code.LongBody = codes "a body of over 250 bytes"
code_text code.NoPayload = codes "a payload of no bytes"
code_text code.LongPayload = codes "a payload of over 245 bytes"
code_text code.NotCommand = codes "bit 6 of CMD is set, so the payload is that of a reply"
code_text code.Spent = codes "65,535 commands were issued already"
code_text code.NoCommand = codes "no command of this number was issued"
code_text code.NotAnswered = codes "no reply to it was accepted"
code_text code.NoFile = codes "there is no file at this place"
code_text code.BadMaxNaks = codes "max_naks is out of its range"
code_text code.BadMaxEnqs = codes "max_enqs is out of its range"
code_text code.BadMaxResends = codes "max_resends is out of its range"
code_text code.BadWindow = codes "window is out of its range"
code_text code.BadPerSource = codes "per_source is out of its range"
code_text code.NotReserved = codes "a reserved member isn't 0"
code_text code.BadFile = codes "a transfer's file is over 999"
code_text code.BadWords = codes "a transfer's words are none, over 3,000, or not whole"
code_text code.BadRoutes = codes "routes is neither 0 nor 1"
code_text code.NoStation = codes "the master has no such station"
code_text code.BadSide = codes "a side is none of df1_side"
code_text code.BadCommand = codes "the command is none of df1_command"
code_text code.NoAddressType = codes "the address doesn't begin with the letter of a file's type"
code_text code.NoAddressFile = codes "the address's file isn't a number 0 to 999"
code_text code.NoAddressColon = codes "no colon follows the address's file"
code_text code.NoAddressElement = codes "the address's element isn't a number 0 to 999"
code_text code.NoAddressSub = codes "the address's sub-element is no word of the element"
code_text code.NoAddressBit = codes "the address's bit isn't a number 0 to 15, or it is a float's"
code_text code.NoAddressEnd = codes "something else follows the address"
code_text code.NoData = codes "no word is read or written"
code_text code.TooMuchData = codes "the data is more than a message has room for"
code_text code.NoElementType = codes "elements of the file have no type for a typed command"
code_text code.NoSub = codes "the command has no room for a sub-element"
code_text code.HalfElement = codes "the words are no whole elements"
code_text code.NoBit = codes "the address has no bit 0 to 15"
code_text code.NoReply = codes "a reply is cut off"
code_text code.NoTypedData = codes "the data is no typed data"
