-- What the items of a full-duplex line tell.
use Rattle.std.specs.Prelude.{ℕ, ◌+◌, ◌-◌, List, [], ◌∷◌, ◌++◌, length, Some}
use Rattle.df1_check.specs.declared.Check.{Check}
use Rattle.df1_frame.specs.Spelling.{Piece, Plain, Doubled, Response, response, body_of, opening, framed}
use Rattle.df1_frame.specs.Grammar.{Item, Stray, Pair, Frame, Broken, Restart, Front, Nothing, Dle, Opened, OpenedDle, Closed, stray_pair_heard, frame_heard, full_duplex}
use Rattle.df1_frame.specs.Standing.{ended_by, lent_at}
use Rattle.df1_dissect.specs.declared.kind.Kind.TheVariants as kind
use Rattle.df1_dissect.specs.Kinds.{full_kind}
use Rattle.df1_dissect.specs.Telling.{Told, plain, heard_told, Telling}

-- the responses between a frame's ends, where the first piece is at the offset
abbrev pub responses_told : ℕ → List Piece → List Told
responses_told at [] = []
responses_told at (Plain b ∷ pieces) = responses_told (at + 1) pieces
responses_told at (Doubled ∷ pieces) = responses_told (at + 2) pieces
responses_told at (Response code ∷ pieces) = heard_told at (at + 1) (full_kind (response code)) [] ++ responses_told (at + 2) pieces

-- the responses of a frame that begins at the offset
abbrev pub inner_told : ℕ → List Piece → List Told
inner_told at pieces = responses_told (at + 2) pieces

-- a frame that is cut off ends at the second byte of the next item
abbrev pub item_told : Check → ℕ → ℕ → Item → List Told
item_told check N at (Stray b) = plain at at (kind.Stray b)
item_told check N at (Pair code) = heard_told at (at + 1) (full_kind (Some (stray_pair_heard (response code) code))) []
item_told check N at (Frame pieces bytes) =
    inner_told at pieces ++ heard_told at (at + (length (framed pieces bytes) - 1)) (full_kind (Some (frame_heard check N (body_of pieces) bytes))) (lent_at (ended_by N (Frame pieces bytes)))
item_told check N at (Broken pieces code) = inner_told at pieces ++ plain at (at + (length (opening pieces) + 1)) (kind.Broken code)
item_told check N at (Restart pieces) = inner_told at pieces ++ plain at (at + (length (opening pieces) + 1)) kind.Restart

abbrev pub front_told : ℕ → Front → List Told
front_told at Nothing = []
front_told at Dle = []
front_told at (Opened pieces) = inner_told at pieces
front_told at (OpenedDle pieces) = inner_told at pieces
front_told at (Closed pieces bytes) = inner_told at pieces

-- what the items of a full-duplex line tell, where there is room for a body of N bytes
abbrev pub full_telling : (check : Check) (N : ℕ) → Telling (full_duplex check N)
full_telling check N = record { item_told = item_told check N; front_told = front_told }
