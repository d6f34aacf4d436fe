-- A lane whose bytes are heard as what they were given as: nothing, responses, and whole frames at the bytes that end them.
use Rattle.std.proofs.Common.{◌≡◌, ℕ, ◌+◌, Bool, true, false, List, [], ◌∷◌, ◌++◌, length, Option, Some, None, refl, sym, subst, arith, inl, inr}
use Rattle.std.specs.Prelude.{◌⊎◌, ◌==◌, if◌then◌else◌, nat_lt}
use Rattle.std.specs.Option.{option_map}
use Rattle.df1_base.specs.declared.link.Out.{Out}
use Rattle.df1_base.specs.declared.link.Resp.{Resp}
use Rattle.df1_check.specs.declared.Check.{Check}
use Rattle.df1_frame.specs.declared.heard.Heard.{Heard}
use Rattle.df1_frame.specs.declared.heard.Heard.TheVariants as heard
use Rattle.df1_frame.specs.Spelling.{response, check_len, same, check_bytes}
use Rattle.df1_frame.specs.Gathered.{Gathered, nothing_gathered, gather, close, verdict}
use Rattle.df1_frame.specs.Standing.{Standing, Outside, Ended, AfterDle, Inside, InsideDle, AtCheck, Decoding, lent_at, is_inside}
use Rattle.df1_frame.specs.Step.{step, next, left_by, response_next}
use Rattle.embedded_response.specs.Giving.{Giving, take}
use Rattle.lane_cells.specs.Cells.{LaneCell, Ending, cell_of, ending_of}
use Rattle.duplex_line.proofs.Complete.DecoderPlace.{InSync, IsTrue, IsFrame, IsBodyUnit, resps_heard, owed, sync-take, sync-outside, sync-anew}

-- the body of the transmission that ends in a cell
abbrev pub end_of : LaneCell → Option (List ℕ)
end_of cell = option_map (λ (e : Ending). e.body) cell.ends

-- what is heard at a byte is what it was given as: a body of its length, its own, unless P; and a check that differs only where P holds
abbrev pub IsTrueEnd : Type 0 → Option (List ℕ) → Option Heard → List ℕ → Type 0
IsTrueEnd P None None lent = Unit {0}
IsTrueEnd P None (Some heard.Ack) lent = Unit {0}
IsTrueEnd P None (Some heard.Nak) lent = Unit {0}
IsTrueEnd P (Some body) (Some heard.Good) lent = IsFrame body × (length lent ≡ length body) × ((lent ≡ body) ⊎ P)
IsTrueEnd P (Some body) (Some heard.BadCheck) lent = IsFrame body × (length lent ≡ length body) × P
IsTrueEnd P end other lent = ⊥

-- at a cell: what is heard is true, and a one-byte unit of a body is one of the transmission of this number, inside a frame
abbrev pub IsTrueCell : Type 0 → ℕ → Decoding → LaneCell → Type 0
IsTrueCell P number d cell = IsTrueEnd P (end_of cell) (next 250 d cell.byte).1 (lent_at (next 250 d cell.byte).0.standing) × IsBodyUnit d.check number d.standing cell.byte cell.body_of

-- what a decoder hears in a lane is true, and after it the decoder stands where the giver's bytes lead it
abbrev pub IsClear : Type 0 → Decoding → List LaneCell → Giving → List ℕ → Type 0
IsClear P d [] g sending = InSync P g sending d
IsClear P d (cell ∷ cells) g sending = IsTrueCell P g.begun d cell × IsClear P (next 250 d cell.byte).0 cells g sending

-- how many such responses are heard in a lane
abbrev pub resps : Resp → Decoding → List LaneCell → ℕ
resps r d [] = 0
resps r d (cell ∷ cells) = resps_heard r (next 250 d cell.byte).1 + resps r (next 250 d cell.byte).0 cells

-- how many frames end in a lane
abbrev pub ends_one : Option (List ℕ) → ℕ
ends_one None = 0
ends_one (Some body) = 1

abbrev pub goods : List LaneCell → ℕ
goods [] = 0
goods (cell ∷ cells) = ends_one (end_of cell) + goods cells

-- what the giver has to give changes, and no byte is given
pub clear-other : (P : Type 0) (d : Decoding) (cells : List LaneCell) (g h : Giving) (sending other : List ℕ) → h.begun ≡ g.begun → ((d : Decoding) → InSync P g sending d → InSync P h other d) → IsClear P d cells g sending → IsClear P d cells h other
clear-other P d [] g h sending other number goes c = goes d c
clear-other P d (cell ∷ cells) g h sending other number goes c = (rw number c.0, clear-other P (next 250 d cell.byte).0 cells g h sending other number goes c.1)

-- what holds of the giver at the end of the lane
pub clear-last : {R : Type 0} (P : Type 0) (d : Decoding) (cells : List LaneCell) (g : Giving) (sending : List ℕ) → ((d : Decoding) → InSync P g sending d → R) → IsClear P d cells g sending → R
clear-last P d [] g sending goes c = goes d c
clear-last P d (cell ∷ cells) g sending goes c = clear-last P (next 250 d cell.byte).0 cells g sending goes c.1

true-cell : (P : Type 0) (sending : List ℕ) (ends : Option ℕ) (h : Option Heard) (lent : List ℕ) → IsTrue P sending ends h lent → IsTrueEnd P (option_map (λ (e : Ending). e.body) (option_map (ending_of sending) ends)) h lent
true-cell P sending None None lent is = tt
true-cell P sending None (Some heard.Ack) lent is = tt
true-cell P sending None (Some heard.Nak) lent is = tt
true-cell P sending (Some number) (Some heard.Good) lent is = is
true-cell P sending (Some number) (Some heard.BadCheck) lent is = is
true-cell P sending (Some number) None lent is = absurd is
true-cell P sending None (Some _) lent is = absurd is
true-cell P sending (Some number) (Some _) lent is = absurd is

-- a byte is given
pub clear-give : (P : Type 0) (d : Decoding) (cells : List LaneCell) (g : Giving) (sending : List ℕ) (out : Out) → (take g).1 ≡ Some out → (take g).0.begun ≡ g.begun → IsClear P d cells g sending
    → IsClear P d (cells ++ cell_of sending out ∷ []) (take g).0 sending × ((out.last_of ≡ None) ⊎ ((take g).0.left ≡ [])) × ((r : Resp) → resps r d cells + owed r g ≡ resps r d (cells ++ cell_of sending out ∷ []) + owed r (take g).0)
clear-give P d [] g sending out is number c =
    let s = sync-take P g sending d out c is in
    (((true-cell P sending out.last_of (next 250 d out.byte).1 (lent_at (next 250 d out.byte).0.standing) s.1, rw number s.2), s.0), s.3, λ r. let more = s.4 r in omega (arith, more))
clear-give P d (cell ∷ cells) g sending out is number c =
    let more = clear-give P (next 250 d cell.byte).0 cells g sending out is number c.1 in
    ((rw number c.0, more.0), more.1, λ r. let other = more.2 r in omega (arith, other))

pub goods-give : (cells : List LaneCell) (cell : LaneCell) → goods (cells ++ cell ∷ []) ≡ goods cells + ends_one (end_of cell)
goods-give [] cell = omega arith
goods-give (first ∷ cells) cell = let more = goods-give cells cell in omega (arith, more)

-- ---- where no frame ends, and none is being given

-- only a frame's last byte leads out of it
pub verdict-ends : (P : Type 0) (check : Check) (so_far : Gathered) (bytes lent : List ℕ) → IsTrueEnd P None (Some (verdict check so_far bytes)) lent → ⊥
verdict-ends P check so_far bytes lent t = by-tests so_far.long (same bytes (check_bytes check so_far.running.value)) (nat_lt (length so_far.bytes) 6) t
  where
    by-tests : (long equal short : Bool) → IsTrueEnd P None (Some (if long then heard.Long else (if equal then (if short then heard.Short else heard.Good) else heard.BadCheck))) lent → ⊥
    by-tests true equal short t = t
    by-tests false true true t = t
    by-tests false true false t = t
    by-tests false false short t = t

-- where what is heard is true and no frame ends, a decoder that has taken a byte is in a frame
abbrev Stays : Type 0 → Standing × Option Heard → List ℕ → Type 0
Stays P to lent = IsTrueEnd P None to.1 lent → is_inside to.0 ≡ true

stays-inside : (P : Type 0) (check : Check) (at : Standing) (byte : ℕ) (lent : List ℕ) → is_inside at ≡ true → Stays P (step check 250 at byte) lent
stays-inside P check Outside byte lent inside = absurd cc
stays-inside P check (Ended body) byte lent inside = absurd cc
stays-inside P check AfterDle byte lent inside = absurd cc
stays-inside P check (Inside so_far) byte lent inside = by-dle (byte == 16) (gather 250 so_far byte)
  where
    by-dle : (dle : Bool) (more : Gathered) → Stays P (if dle then (InsideDle so_far, None) else (Inside more, None)) lent
    by-dle true more t = refl
    by-dle false more t = refl
stays-inside P check (InsideDle so_far) byte lent inside = by-code (byte == 2) (byte == 3) (byte == 16) (response byte)
  where
    by-code : (restart ends doubled : Bool) (r : Option Heard) → Stays P (if restart then (Inside (nothing_gathered check), Some heard.Restart) else (if ends then (AtCheck (close check so_far) [], None) else (if doubled then (Inside (gather 250 so_far 16), None) else response_next so_far byte r))) lent
    by-code true ends doubled r t = refl
    by-code false true doubled r t = refl
    by-code false false true r t = refl
    by-code false false false (Some h) t = refl
    by-code false false false None t = absurd t
stays-inside P check (AtCheck so_far bytes) byte lent inside = by-count (nat_lt (length bytes + 1) (check_len check))
  where
    by-count : (goes : Bool) → Stays P (if goes then (AtCheck so_far (bytes ++ byte ∷ []), None) else (left_by so_far, Some (verdict check so_far (bytes ++ byte ∷ [])))) lent
    by-count true t = refl
    by-count false t = absurd (verdict-ends P check so_far (bytes ++ byte ∷ []) lent t)

-- a cell at which no frame ends
none-ends : (end : Option (List ℕ)) (n : ℕ) → ends_one end + n ≡ 0 → (end ≡ None) × (n ≡ 0)
none-ends None n none = (refl, omega (arith, none))
none-ends (Some body) n none = absurd (omega (arith, none))

-- a decoder inside a frame is so at the end of the lane, so the frame isn't given whole
pub inside-left : (P : Type 0) (d : Decoding) (cells : List LaneCell) (g : Giving) (sending : List ℕ) → is_inside d.standing ≡ true → goods cells ≡ 0 → g.left ≡ [] → IsClear P d cells g sending → ⊥
inside-left P d [] g sending inside none left c = let out = sync-outside left c in cc
inside-left P d (cell ∷ cells) g sending inside none left c =
    let here = none-ends (end_of cell) (goods cells) none in
    let lent = lent_at (next 250 d cell.byte).0.standing in
    let truth : IsTrueEnd P None (next 250 d cell.byte).1 lent = subst (λ (end : Option (List ℕ)). IsTrueEnd P end (next 250 d cell.byte).1 lent) here.0 c.0.0 in
    inside-left P (next 250 d cell.byte).0 cells g sending (stays-inside P d.check d.standing cell.byte lent inside truth) here.1 left c.1

true-anew : (P Q : Type 0) (h : Option Heard) (lent : List ℕ) → IsTrueEnd P None h lent → IsTrueEnd Q None h lent
true-anew P Q None lent t = tt
true-anew P Q (Some heard.Ack) lent t = tt
true-anew P Q (Some heard.Nak) lent t = tt
true-anew P Q (Some other) lent t = absurd t

-- no unit of a body is among such cells
unit-anew : (P : Type 0) (number other : ℕ) (d : Decoding) (byte : ℕ) (o : Option ℕ) → (is_inside d.standing ≡ true → ⊥) → IsBodyUnit d.check number d.standing byte o → IsBodyUnit d.check other d.standing byte o
unit-anew P number other d byte None outside is = tt
unit-anew P number other d byte (Some n) outside is = absurd (outside (let at = is.2.1 in rw at refl))

-- So where no frame ends in a lane and none is being given, it is clear whatever P says, and whichever transmission is the next.
pub clear-anew : (P Q : Type 0) (d : Decoding) (cells : List LaneCell) (g h : Giving) (sending other : List ℕ) → goods cells ≡ 0 → g.left ≡ [] → ((d : Decoding) → InSync Q g sending d → InSync Q h other d) → IsClear P d cells g sending → IsClear Q d cells h other
clear-anew P Q d [] g h sending other none left goes c = goes d (sync-anew Q left c)
clear-anew P Q d (cell ∷ cells) g h sending other none left goes c =
    let here = none-ends (end_of cell) (goods cells) none in
    let to = next 250 d cell.byte in
    let lent = lent_at to.0.standing in
    let truth : IsTrueEnd P None to.1 lent = subst (λ (end : Option (List ℕ)). IsTrueEnd P end to.1 lent) here.0 c.0.0 in
    let anew : IsTrueEnd Q (end_of cell) to.1 lent = subst (λ (end : Option (List ℕ)). IsTrueEnd Q end to.1 lent) (sym here.0) (true-anew P Q to.1 lent truth) in
    let outside : is_inside d.standing ≡ true → ⊥ = λ inside. inside-left P d (cell ∷ cells) g sending inside none left c in
    ((anew, unit-anew P g.begun h.begun d cell.byte cell.body_of outside c.0.1), clear-anew P Q to.0 cells g h sending other here.1 left goes c.1)

-- ---- more may be damaged

true-weaker : (P Q : Type 0) (end : Option (List ℕ)) (h : Option Heard) (lent : List ℕ) → (P → Q) → IsTrueEnd P end h lent → IsTrueEnd Q end h lent
true-weaker P Q None None lent goes t = tt
true-weaker P Q None (Some heard.Ack) lent goes t = tt
true-weaker P Q None (Some heard.Nak) lent goes t = tt
true-weaker P Q (Some body) (Some heard.Good) lent goes t = (t.0, t.1, weaker t.2)
  where
    weaker : (lent ≡ body) ⊎ P → (lent ≡ body) ⊎ Q
    weaker (inl same) = inl same
    weaker (inr p) = inr (goes p)
true-weaker P Q (Some body) (Some heard.BadCheck) lent goes t = (t.0, t.1, goes t.2)
true-weaker P Q (Some body) None lent goes t = absurd t
true-weaker P Q None (Some other) lent goes t = absurd t
true-weaker P Q (Some body) (Some other) lent goes t = absurd t
