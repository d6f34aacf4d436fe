-- How many bytes are left to be given, how many a slave's message has, and how many a body that its ear lends.
use Rattle.std.proofs.Common.{◌≡◌, ℕ, suc, ap, ◌*◌, ◌≤◌, Bool, true, false, List, [], ◌∷◌, ◌++◌, length, nat_le, sym, subst, refl, arith, length-append}
use Rattle.std.proofs.lemmas.Bool.Decides.{nat_tests}
use Rattle.std.specs.List.{flat_map}
use Rattle.std.specs.Prelude.{◌&&◌, ◌==◌, if◌then◌else◌}
use Rattle.df1_check.specs.declared.Check.{Check}
use Rattle.df1_check.specs.declared.Check.TheVariants as kind
use Rattle.df1_frame.specs.Line.{ReadOff}
use Rattle.df1_frame.specs.Spelling.{Doubled, Plain, pieces_of, check_of, check_len, same}
use Rattle.df1_frame.proofs.SpellingLemmas.{length-check}
use Rattle.half_frame.specs.declared.framer.Sent.{Sent}
use Rattle.half_frame.specs.Spelling.{piece_sent, reply_sent, unmarked, station_head}
use Rattle.half_frame.specs.SlaveGrammar.{Item, Stray, Pair, Poll, Message, NoText, Broken, CutOff, Front, Nothing, Dle, Soh, Enq, Polled, Headed, HeadedDle, InText, slave_hears}
use Rattle.half_frame.specs.SlaveStanding.{Outside, Ended, Listening, listening, standing, ended, ended_by, lent_at}

-- a list with a byte has some
pub some-left : (x : Sent) (more : List Sent) → (length (x ∷ more) == 0) ≡ false
some-left x more = grind (arith, nat_tests)

piece-most : (b : ℕ) (dle : Bool) → length (piece_sent (if dle then Doubled else Plain b)) ≤ 2
piece-most b true = omega arith
piece-most b false = omega arith

body-most : (body : List ℕ) → length (flat_map piece_sent (pieces_of body)) ≤ 2 * length body
body-most [] = omega arith
body-most (b ∷ body) =
    let first = piece-most b (b == 16) in
    let rest = body-most body in
    let all = length-append (piece_sent (if b == 16 then Doubled else Plain b)) (flat_map piece_sent (pieces_of body)) in
    omega (arith, first, rest, all)

check-most : (check : Check) → check_len check ≤ 2
check-most kind.Bcc = omega arith
check-most kind.Crc = omega arith

-- a message has at most 509 bytes
pub reply-most : (check : Check) (body : List ℕ) → length body ≤ 250 → length (reply_sent check body) ≤ 509
reply-most check body fits =
    let bytes = flat_map piece_sent (pieces_of body) in
    let end = unmarked (16 ∷ 3 ∷ check_of check body) in
    let checks : length (check_of check body) ≡ check_len check = length-check check _ in
    omega (arith, body-most body, length-append bytes end, length-unmarked (16 ∷ 3 ∷ check_of check body), checks, check-most check)
  where
    length-unmarked : (bytes : List ℕ) → length (unmarked bytes) ≡ length bytes
    length-unmarked [] = refl
    length-unmarked (b ∷ bytes) = ap suc (length-unmarked bytes)

-- ---- the body that is lent

right-most : (N : ℕ) (body : List ℕ) (least most checks : Bool) → nat_le (length body) N ≡ most → length (lent_at (if least && (most && checks) then Ended body else Outside)) ≤ N
right-most N body true true true is = grind (arith, nat_tests)
right-most N body true true false is = omega arith
right-most N body true false checks is = omega arith
right-most N body false most checks is = omega arith

item-most : (check : Check) (N : ℕ) (item : Item) → length (lent_at (ended_by check N item)) ≤ N
item-most check N (Stray b) = omega arith
item-most check N (Pair code) = omega arith
item-most check N (Poll stn bytes) = omega arith
item-most check N (Message stn body bytes) = right-most N body (nat_le 6 (length body)) (nat_le (length body) N) (same bytes (check_of check (station_head check stn ++ body))) refl
item-most check N (NoText stn b) = omega arith
item-most check N (Broken begun code) = omega arith
item-most check N (CutOff begun) = omega arith

items-most : (check : Check) (N : ℕ) (items : List Item) → length (lent_at (ended check N items)) ≤ N
items-most check N [] = omega arith
items-most check N (item ∷ []) = item-most check N item
items-most check N (item ∷ other ∷ items) = items-most check N (other ∷ items)

standing-most : (check : Check) (N : ℕ) (items : List Item) (front : Front) → length (lent_at (standing check N items front)) ≤ N
standing-most check N items Nothing = items-most check N items
standing-most check N items Dle = omega arith
standing-most check N items Soh = omega arith
standing-most check N items Enq = omega arith
standing-most check N items (Polled stn) = omega arith
standing-most check N items (Headed stn) = omega arith
standing-most check N items (HeadedDle stn) = omega arith
standing-most check N items (InText stn text) = omega arith

pub lent-most : (check : Check) (bytes : List ℕ) (ear : Listening) → ReadOff (slave_hears check 250) bytes (listening check 250) ear → length (lent_at ear.standing) ≤ 250
lent-most check bytes ear stands = subst (λ (e : Listening). length (lent_at e.standing) ≤ 250) (sym stands.is) (standing-most check 250 stands.items stands.front)
