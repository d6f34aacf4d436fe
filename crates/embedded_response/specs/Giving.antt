-- Which byte an end gives next: the bytes of a frame, with responses between them, and an ENQ. 16 is DLE, 5 ENQ, 6 ACK and 21 NAK.
use Rattle.std.specs.Prelude.{ℕ, ◌+◌, ◌-◌, ◌^◌, Bool, true, false, List, [], ◌∷◌, length, Option, Some, None, min, drop, slice_get, is_none, ◌&&◌, not, ◌==◌, if◌then◌else◌}
use Rattle.std.specs.Option.{option_map}
use Rattle.df1_base.specs.declared.link.Resp.{Resp}
use Rattle.df1_base.specs.declared.link.Resp.TheVariants as resp
use Rattle.df1_base.specs.declared.link.Out.{Out}
use Rattle.df1_check.specs.declared.Check.{Check}
use Rattle.df1_frame.specs.declared.framer.Unit.{Unit as Given}
use Rattle.df1_frame.specs.Units.{bytes_of, units}

-- what there is to give: settings; the last response; the one that waits; whether an ENQ is wished; the units left of the frame that is given; the second byte of a begun pair; whether the last unit had a gap; how many transmissions have begun
pub record Giving : Type 0 where
  pub check : Check
  pub embed : Bool
  pub last : Resp
  pub waiting : Option Resp
  pub asking : Bool
  pub left : List Given
  pub second : Option Out
  pub gap : Bool
  pub begun : ℕ

-- before anything: the last response is NAK
abbrev pub nothing : Check → Bool → Giving
nothing check embed = record {
  check = check;
  embed = embed;
  last = resp.Nak;
  waiting = None;
  asking = false;
  left = [];
  second = None;
  gap = false;
  begun = 0;
}

-- ---- what is put in

-- a response is the last, and waits in the place of an older one
abbrev pub offer : Giving → Resp → Giving
offer g r = record g { last = r; waiting = Some r }

-- NAK is the last response, and what waits stays
abbrev pub forget : Giving → Giving
forget g = record g { last = resp.Nak }

-- the last response waits again
abbrev pub answer_enq : Giving → Giving
answer_enq g = record g { waiting = Some g.last }

-- an ENQ is wished
abbrev pub ask : Giving → Giving
ask g = record g { asking = true }

-- no ENQ is wished
abbrev pub unask : Giving → Giving
unask g = record g { asking = false }

-- a frame is begun, and its transmission has the next number
abbrev pub begin : Giving → List ℕ → Giving
begin g body = record g { left = units g.check body; gap = false; begun = min (g.begun + 1) (2 ^ 64 - 1) }

-- a frame is begun and not ended
abbrev pub is_begun : Giving → Bool
is_begun g = not (length g.left == 0)

-- ---- what is given

pub data Choice : Type 0 where
  Second : (out : Out) → Choice
  Respond : (r : Resp) → Choice
  Give : (unit : Given) → Choice
  Enquire : Choice

-- a response may stand here in the frame
abbrev pub may_embed : Giving → Bool
may_embed g = g.embed && (g.gap && is_begun g)

-- in this order: the second byte of a begun pair; in a frame a response where it may stand; the frame's next unit; a response; an ENQ
abbrev pub order : Giving → List (Option Choice)
order g =
    option_map Second g.second
    ∷ option_map Respond (if may_embed g then g.waiting else None)
    ∷ option_map Give (slice_get g.left 0)
    ∷ option_map Respond g.waiting
    ∷ (if g.asking then Some Enquire else None)
    ∷ []

-- the first that is there
abbrev pub first_there : {A : Type 0} → List (Option A) → Option A
first_there [] = None
first_there (Some a ∷ others) = Some a
first_there (None ∷ others) = first_there others

-- a byte without marks
abbrev pub plain : ℕ → Out
plain b = record { byte = b; last_of = None; body_of = None }

-- the number, where it holds
abbrev pub mark : Bool → ℕ → Option ℕ
mark holds number = if holds then Some number else None

-- a unit of one byte: the frame's last has the transmission's number, and so has one of the body
abbrev pub marked : Given → ℕ → Out
marked unit number = record { byte = unit.first; last_of = mark unit.last number; body_of = mark unit.gap number }

-- the first byte of a unit, and the second if it is a pair
abbrev pub unit_out : Given → Option ℕ → ℕ → Out × Option Out
unit_out unit None number = (marked unit number, None)
unit_out unit (Some code) number = (plain unit.first, Some (plain code))

-- the code of a response
abbrev pub code_of : Resp → ℕ
code_of resp.Ack = 6
code_of resp.Nak = 21

-- what is left, and the byte that is given
abbrev pub given : Giving → Option Choice → Giving × Option Out
given g None = (g, None)
given g (Some (Second out)) = (record g { second = None }, Some out)
given g (Some (Respond r)) = (record g { waiting = None; second = Some (plain (code_of r)) }, Some (plain 16))
given g (Some (Give unit)) =
    let bytes = unit_out unit unit.second g.begun in
    (record g { left = drop 1 g.left; gap = unit.gap; second = bytes.1 }, Some bytes.0)
given g (Some Enquire) = (record g { asking = false; second = Some (plain 5) }, Some (plain 16))

-- what is given next, if anything is
abbrev pub chosen : Giving → Option Choice
chosen g = first_there (order g)

-- what is left after the next byte, and that byte
abbrev pub take : Giving → Giving × Option Out
take g = given g (chosen g)

-- ---- how many bytes there are to give

abbrev pub one_if : Bool → ℕ
one_if true = 1
one_if false = 0

-- the second byte of a pair, the frame's bytes, and two each for a response and an ENQ
abbrev pub bytes_left : Giving → ℕ
bytes_left g = one_if (not (is_none g.second)) + length (bytes_of g.left) + (one_if (not (is_none g.waiting)) + one_if (not (is_none g.waiting))) + (one_if g.asking + one_if g.asking)
