-- What was done to the transmissions of an end, beside what its sender counts of them.
use Rattle.std.proofs.Common.{◌≡◌, ◌∙◌, ℕ, ◌+◌, ◌<◌, ◌≤◌, Bool, true, false, List, [], ◌∷◌, ◌++◌, length, Option, Some, None, cond, refl, ap, sym, subst, arith, inl, inr}
use Rattle.std.specs.Prelude.{◌⊎◌, ◌≢◌, ◌==◌, nat_le, count_by}
use Rattle.std.specs.Option.{option_map}
use Rattle.std.specs.List.{list_any}
use Rattle.std.proofs.lemmas.Bool.{eqb-true, eq-eqb, le-leb}
use Rattle.std.proofs.lemmas.List.Sums.{sum_by-append}
use Rattle.df1_frame.specs.Standing.{Decoding, lent_at}
use Rattle.df1_frame.specs.declared.heard.Heard.{Heard}
use Rattle.embedded_response.specs.Giving.{Giving}
use Rattle.lane_cells.specs.Cells.{LaneCell, Ending, bare}
use Rattle.duplex_line.specs.Recoverable.{Damage, no_damage, message_of, hits_of, with_alter}
use Rattle.duplex_line.proofs.Complete.AlteredBytes.{IsWithin, byte-inside}
use Rattle.duplex_line.proofs.Complete.DecoderPlace.{IsBodyUnit}
use Rattle.duplex_line.proofs.Complete.ClearLane.{end_of, IsTrueEnd, IsClear, goods, inside-left}
use Rattle.duplex_line.proofs.Complete.MessageUnderWay.{Marks}

-- numbers up to this one
abbrev pub AreUpTo : ℕ → List ℕ → Type 0
AreUpTo n [] = Unit {0}
AreUpTo n (x ∷ xs) = (x ≤ n) × AreUpTo n xs

abbrev pub is_among : List ℕ → ℕ → Bool
is_among xs n = list_any (λ x. x == n) xs

-- the head of the lane is a byte of the transmission that was begun last, which was altered
abbrev pub IsTouched : Decoding → List LaneCell → Bool → Type 0
IsTouched d [] hit = ⊥
IsTouched d (cell ∷ cells) hit = IsWithin d cell.byte × (cell.ends ≡ None) × (hit ≡ true)

-- the marks of the message under way are those of the damage, where so many transmissions have begun, and they are few
pub record IsDamage (d : Damage) (marks : Marks) (begun most : ℕ) (decoding : Decoding) (lane : List LaneCell) : Type 0 where
  pub hits_are : marks.hits ≡ hits_of d (length d.firsts)
  pub last_is : marks.last_hit ≡ is_among d.hits begun
  pub firsts : AreUpTo begun d.firsts
  pub hits : AreUpTo begun d.hits
  pub few : marks.hits ≤ most
  pub touched : d.touched ≡ true → IsTouched decoding lane marks.last_hit

-- none was done so far
pub damage-none : (begun most : ℕ) (decoding : Decoding) (lane : List LaneCell) → IsDamage no_damage (record { hits = 0; last_hit = false }) begun most decoding lane
damage-none begun most decoding lane = record { hits_are = refl; last_is = refl; firsts = tt; hits = tt; few = omega arith; touched = λ is. cc }

-- the head of the lane is gone
pub damage-leaves : (d : Damage) (marks : Marks) (begun most : ℕ) (decoding after : Decoding) (lane rest : List LaneCell) → IsDamage d marks begun most decoding lane → IsDamage (record d { touched = false }) marks begun most after rest
damage-leaves d marks begun most decoding after lane rest h = record { hits_are = h.hits_are; last_is = h.last_is; firsts = h.firsts; hits = h.hits; few = h.few; touched = λ is. cc }

-- a cell joins the back of the lane
pub damage-gives : (d : Damage) (marks : Marks) (begun most : ℕ) (decoding : Decoding) (lane : List LaneCell) (cell : LaneCell) → IsDamage d marks begun most decoding lane → IsDamage d marks begun most decoding (lane ++ cell ∷ [])
damage-gives d marks begun most decoding lane cell h = record { hits_are = h.hits_are; last_is = h.last_is; firsts = h.firsts; hits = h.hits; few = h.few; touched = λ is. longer lane (h.touched is) }
  where
    longer : (lane : List LaneCell) → IsTouched decoding lane marks.last_hit → IsTouched decoding (lane ++ cell ∷ []) marks.last_hit
    longer [] t = absurd t
    longer (first ∷ cells) t = t

-- ---- a transmission is begun

up-more : (n : ℕ) (xs : List ℕ) → AreUpTo n xs → AreUpTo (n + 1) xs
up-more n [] h = tt
up-more n (x ∷ xs) h = (omega (arith, h.0), up-more n xs h.1)

up-push : (n x : ℕ) (xs : List ℕ) → x ≤ n → AreUpTo n xs → AreUpTo n (xs ++ x ∷ [])
up-push n x [] le h = (le, tt)
up-push n x (y ∷ xs) le h = (h.0, up-push n x xs le h.1)

not-same : (x n : ℕ) → x < n → (x == n) ≡ false
not-same x n less = by-test (x == n) refl
  where
    by-test : (same : Bool) → (x == n) ≡ same → (x == n) ≡ false
    by-test true is = absurd (let e = eqb-true x n is in omega (arith, e, less))
    by-test false is = is

none-among : (n : ℕ) (xs : List ℕ) → AreUpTo n xs → is_among xs (n + 1) ≡ false
none-among n [] h = refl
none-among n (x ∷ xs) h = rw (not-same x (n + 1) (omega (arith, h.0))) (none-among n xs h.1)

-- no touched cell stands where none of a frame is left
pub damage-rests : (P : Type 0) (d : Damage) (marks : Marks) (begun most : ℕ) (decoding : Decoding) (lane : List LaneCell) (g : Giving) (sending : List ℕ) → goods lane ≡ 0 → g.left ≡ [] → IsClear P decoding lane g sending → IsDamage d marks begun most decoding lane → d.touched ≡ true → ⊥
damage-rests P d marks begun most decoding lane g sending none left c h is = by-lane lane none c (h.touched is)
  where
    by-lane : (lane : List LaneCell) → goods lane ≡ 0 → IsClear P decoding lane g sending → IsTouched decoding lane marks.last_hit → ⊥
    by-lane [] none c t = t
    by-lane (cell ∷ cells) none c t = inside-left P decoding (cell ∷ cells) g sending (let w = t.0 in let at = w.inside in rw at refl) none left c

-- the message under way is sent again
pub damage-again : (d : Damage) (marks : Marks) (begun most : ℕ) (decoding : Decoding) (lane : List LaneCell) → (d.touched ≡ true → ⊥) → IsDamage d marks begun most decoding lane → IsDamage d (record { hits = marks.hits; last_hit = false }) (begun + 1) most decoding lane
damage-again d marks begun most decoding lane rests h = record { hits_are = h.hits_are; last_is = sym (none-among begun d.hits h.hits); firsts = up-more begun d.firsts h.firsts; hits = up-more begun d.hits h.hits; few = h.few; touched = λ is. absurd (rests is) }

-- another message is handed out
pub damage-new : (d : Damage) (marks : Marks) (begun most : ℕ) (decoding : Decoding) (lane : List LaneCell) → (d.touched ≡ true → ⊥) → hits_of (record d { firsts = d.firsts ++ (begun + 1) ∷ [] }) (length (d.firsts ++ (begun + 1) ∷ [])) ≤ most → IsDamage d marks begun most decoding lane
    → IsDamage (record d { firsts = d.firsts ++ (begun + 1) ∷ [] }) (record { hits = hits_of (record d { firsts = d.firsts ++ (begun + 1) ∷ [] }) (length (d.firsts ++ (begun + 1) ∷ [])); last_hit = false }) (begun + 1) most decoding lane
damage-new d marks begun most decoding lane rests few h = record { hits_are = refl; last_is = sym (none-among begun d.hits h.hits); firsts = up-push (begun + 1) (begun + 1) d.firsts (omega arith) (up-more begun d.firsts h.firsts); hits = up-more begun d.hits h.hits; few = few; touched = λ is. absurd (rests is) }

-- ---- a byte is altered

all-counted : (n : ℕ) (firsts : List ℕ) → AreUpTo n firsts → count_by (λ first. nat_le first n) firsts ≡ length firsts
all-counted n [] h = refl
all-counted n (x ∷ xs) h =
    let more = all-counted n xs h.1 in
    let split = sum_by-append (λ first. cond (nat_le first n) 1 0) (x ∷ []) xs in
    let one : count_by (λ first. nat_le first n) (x ∷ []) ≡ 1 = rw (le-leb x n h.0) refl in
    omega (arith, more, split, one)

itself : (n : ℕ) → (n == n) ≡ true
itself n = eq-eqb n n refl

among-test : (x n : ℕ) (xs : List ℕ) (same : Bool) → (x == n) ≡ same → is_among (xs ++ n ∷ []) n ≡ true → is_among ((x ∷ xs) ++ n ∷ []) n ≡ true
among-test x n xs true is more = rw is refl
among-test x n xs false is more = rw is more

among-push : (xs : List ℕ) (n : ℕ) → is_among (xs ++ n ∷ []) n ≡ true
among-push [] n = rw (itself n) refl
among-push (x ∷ xs) n = among-test x n xs (x == n) refl (among-push xs n)

-- a hit more of the transmission that was begun last is one of the message under way
hit-more : (d : Damage) (begun : ℕ) → AreUpTo begun d.firsts → hits_of (record d { hits = d.hits ++ begun ∷ [] }) (length d.firsts) ≡ hits_of d (length d.firsts) + 1
hit-more d begun h =
    let all = all-counted begun d.firsts h in
    let is : (message_of d begun == length d.firsts) ≡ true = rw all (itself (length d.firsts)) in
    sum_by-append (λ number. cond (message_of d number == length d.firsts) 1 0) d.hits (begun ∷ []) ∙ rw is refl

-- What a hit comes to: a byte inside a frame is altered, which isn't its last, and the message under way was hit so often; and either the transmission was hit before, or it is now.
pub record IsHit (d : Damage) (marks : Marks) (begun most : ℕ) (decoding : Decoding) (cell : LaneCell) (byte : ℕ) (cells : List LaneCell) : Type 0 where
  pub after : Marks
  pub within : IsWithin decoding cell.byte
  pub ends : cell.ends ≡ None
  pub plain : (byte == 16) ≡ false
  pub more : marks.hits ≤ after.hits
  pub cause : (marks.last_hit ≡ true) ⊎ (after.hits ≡ marks.hits + 1)
  pub damage : IsDamage (with_alter d (Some cell)) after begun most decoding (bare byte ∷ cells)

no-ending : (ends : Option Ending) → option_map (λ (e : Ending). e.body) ends ≡ None → ends ≡ None
no-ending None is = refl
no-ending (Some e) is = absurd cc

silent-none : (P : Type 0) (end : Option (List ℕ)) (lent : List ℕ) → IsTrueEnd P end None lent → end ≡ None
silent-none P None lent t = refl
silent-none P (Some body) lent t = absurd t

not-dle : (byte : ℕ) → byte ≢ 16 → (byte == 16) ≡ false
not-dle byte other = by-test (byte == 16) refl
  where
    by-test : (same : Bool) → (byte == 16) ≡ same → (byte == 16) ≡ false
    by-test true is = absurd (other (eqb-true byte 16 is))
    by-test false is = is

pub hit-touched : (d : Damage) (marks : Marks) (begun most : ℕ) (decoding : Decoding) (cell : LaneCell) (byte : ℕ) (cells : List LaneCell) → d.touched ≡ true → byte ≢ 16 → IsDamage d marks begun most decoding (cell ∷ cells) → IsHit d marks begun most decoding cell byte cells
hit-touched d marks begun most decoding cell byte cells is other h =
    let t = h.touched is in
    let plain = not-dle byte other in
    let w = t.0 in
    record {
      after = marks;
      within = t.0;
      ends = t.1;
      plain = plain;
      more = omega arith;
      cause = inl t.2;
      damage = rw is (record { hits_are = h.hits_are; last_is = h.last_is; firsts = h.firsts; hits = h.hits; few = h.few; touched = λ yes. (record { seen = w.seen; inside = w.inside; plain = plain }, refl, t.2) });
    }

pub hit-new : (P : Type 0) (d : Damage) (marks : Marks) (begun most : ℕ) (decoding : Decoding) (cell : LaneCell) (byte : ℕ) (cells : List LaneCell) (g : Giving) (sending : List ℕ) (number : ℕ) → d.touched ≡ false → cell.body_of ≡ Some number → byte ≢ 16 → g.begun ≡ begun → hits_of (with_alter d (Some cell)) (length d.firsts) ≤ most
    → IsClear P decoding (cell ∷ cells) g sending → IsDamage d marks begun most decoding (cell ∷ cells) → IsHit d marks begun most decoding cell byte cells
hit-new P d marks begun most decoding cell byte cells g sending number untouched unit other is_begun few c h =
    let at = subst (λ (o : Option ℕ). IsBodyUnit decoding.check g.begun decoding.standing cell.byte o) unit c.0.1 in
    let w : IsWithin decoding cell.byte = record { seen = at.2.0; inside = at.2.1; plain = at.1 } in
    let is : number ≡ begun = at.0 ∙ is_begun in
    let silent = byte-inside decoding cell.byte w in
    let truth : IsTrueEnd P (end_of cell) None [] = subst (λ (to : Decoding × Option Heard). IsTrueEnd P (end_of cell) to.1 (lent_at to.0.standing)) silent c.0.0 in
    let ends = no-ending cell.ends (silent-none P (end_of cell) [] truth) in
    let plain = not-dle byte other in
    let within : IsWithin decoding (bare byte).byte = record { seen = w.seen; inside = w.inside; plain = plain } in
    by-hit w ends plain within (subst (λ (n : ℕ). cell.body_of ≡ Some n) is unit) (is_among d.hits begun) refl
  where
    by-hit : IsWithin decoding cell.byte → cell.ends ≡ None → (byte == 16) ≡ false → IsWithin decoding byte → cell.body_of ≡ Some begun → (among : Bool) → is_among d.hits begun ≡ among → IsHit d marks begun most decoding cell byte cells
    by-hit w ends plain within of true is =
        let last = h.last_is ∙ is in
        let hits : with_alter d (Some cell) ≡ (let e : Damage = record { firsts = d.firsts; hits = d.hits; touched = true } in e) = rw (untouched, of, is) refl in
        record {
          after = marks;
          within = w;
          ends = ends;
          plain = plain;
          more = omega arith;
          cause = inl last;
          damage = rw hits (record { hits_are = h.hits_are; last_is = h.last_is; firsts = h.firsts; hits = h.hits; few = h.few; touched = λ yes. (within, refl, last) });
        }
    by-hit w ends plain within of false is =
        let hits : with_alter d (Some cell) ≡ (let e : Damage = record { firsts = d.firsts; hits = d.hits ++ begun ∷ []; touched = true } in e) = rw (untouched, of, is) refl in
        let more = hit-more d begun h.firsts in
        let count : hits_of (let e : Damage = record { firsts = d.firsts; hits = d.hits ++ begun ∷ []; touched = true } in e) (length d.firsts) ≡ marks.hits + 1 = more ∙ ap (λ (n : ℕ). n + 1) (sym h.hits_are) in
        let fewer : marks.hits + 1 ≤ most = let most_is = subst (λ (e : Damage). hits_of e (length d.firsts) ≤ most) hits few in omega (arith, most_is, count) in
        record {
          after = record { hits = marks.hits + 1; last_hit = true };
          within = w;
          ends = ends;
          plain = plain;
          more = omega arith;
          cause = inr refl;
          damage = rw hits (record { hits_are = sym count; last_is = sym (among-push d.hits begun); firsts = h.firsts; hits = up-push begun begun d.hits (omega arith) h.hits; few = fewer; touched = λ yes. (within, refl, refl) });
        }
