-- A text that is given as it should be is read as one: each byte but the last goes on with it, and the last ends it rightly.
use Rattle.std.proofs.Common.{◌≡◌, ℕ, ◌+◌, ◌≤◌, Bool, true, false, List, [], ◌∷◌, ◌++◌, length, None, ap, sym, subst, ◌∙◌, refl, append_assoc, append-nil, arith, length-append}
use Rattle.std.specs.Prelude.{if◌then◌else◌, ◌==◌}
use Rattle.std.specs.List.{flat_map}
use Rattle.std.proofs.lemmas.Bool.{eqb-true, lt-ltb, le-ltb}
use Rattle.std.proofs.lemmas.List.{take_all}
use Rattle.df1_check.specs.declared.Check.{Check}
use Rattle.df1_check.specs.declared.Check.TheVariants as kind
use Rattle.df1_check.specs.Checks.{check_value}
use Rattle.df1_frame.specs.Spelling.{Plain, Doubled, pieces_of, check_of, check_len, covered}
use Rattle.df1_frame.specs.Gathered.{Gathered, gather, gathered_after, gathered_whole_after}
use Rattle.df1_frame.proofs.GatheredLemmas.{gather-after, close-after}
use Rattle.df1_frame.proofs.SpellingLemmas.{length-check}
use Rattle.half_frame.specs.declared.framer.Sent.{Sent}
use Rattle.half_frame.specs.Spelling.{piece_sent, unmarked}
use Rattle.half_frame.specs.Text.{Closed}
use Rattle.half_frame.specs.TextStep.{Within, Inside, InsideDle, AtCheck, Goes, Ends, begun, text_step}
use Rattle.half_slave.proofs.Sizes.{some-left}
use Rattle.half_frame.proofs.TextLemmas.{continues, own-right, within-begun}

-- an ear in a text reads these bytes as its rest, with this body
abbrev pub Reads : Check → Within → List Sent → List ℕ → Type 0
Reads check at [] body = ⊥
Reads check at (sent ∷ []) body = (so_far : Gathered) × (text_step check 250 at sent.byte ≡ Ends true so_far) × (so_far.bytes ≡ body)
Reads check at (sent ∷ next ∷ rest) body = (to : Within) × (text_step check 250 at sent.byte ≡ Goes to) × Reads check to (next ∷ rest) body

-- a byte that goes on with the text
reads-on : (check : Check) (at to : Within) (sent : Sent) (left : List Sent) (body : List ℕ) → text_step check 250 at sent.byte ≡ Goes to → Reads check to left body → Reads check at (sent ∷ left) body
reads-on check at to sent [] body goes reads = absurd reads
reads-on check at to sent (next ∷ rest) body goes reads = (to, goes, reads)

-- ---- the check bytes

check-length : (check : Check) (head body : List ℕ) → length (check_of check (head ++ body)) ≡ check_len check
check-length check head body = length-check check (check_value check (covered check (head ++ body)))

check-goes : (check : Check) (head body done more : List ℕ) (b c : ℕ) → check_of check (head ++ body) ≡ done ++ b ∷ c ∷ more
    → text_step check 250 (AtCheck (gathered_whole_after check 250 head body) done) b ≡ Goes (AtCheck (gathered_whole_after check 250 head body) (done ++ b ∷ []))
check-goes check head body done more b c is =
    let all : length (done ++ b ∷ c ∷ more) ≡ check_len check = ap length (sym is) ∙ check-length check head body in
    rw (lt-ltb (length done + 1) (check_len check) (omega (arith, all, length-append done (b ∷ c ∷ more)))) refl

check-ends : (check : Check) (head body done : List ℕ) (b : ℕ) → 6 ≤ length body → length body ≤ 250 → check_of check (head ++ body) ≡ done ++ b ∷ []
    → text_step check 250 (AtCheck (gathered_whole_after check 250 head body) done) b ≡ Ends true (gathered_whole_after check 250 head body)
check-ends check head body done b least most is =
    let all : length (done ++ b ∷ []) ≡ check_len check = ap length (sym is) ∙ check-length check head body in
    let count = length-append done (b ∷ []) in
    let c = continues Bool None check 250 head (Closed body done) b (omega (arith, all, count)) in
    let right = own-right check 250 head body least most in
    let enough = le-ltb (length done + 1) (check_len check) (omega (arith, all, count)) in
    c.value ∙ rw (enough, ← is, right) refl

reads-check : (check : Check) (head body done rest : List ℕ) → 6 ≤ length body → length body ≤ 250 → check_of check (head ++ body) ≡ done ++ rest → (rest ≡ [] → ⊥)
    → Reads check (AtCheck (gathered_whole_after check 250 head body) done) (unmarked rest) body
reads-check check head body done [] least most is some = absurd (some refl)
reads-check check head body done (b ∷ []) least most is some = (gathered_whole_after check 250 head body, check-ends check head body done b least most is, take_all 250 body most)
reads-check check head body done (b ∷ c ∷ more) least most is some = (
  AtCheck (gathered_whole_after check 250 head body) (done ++ b ∷ []),
  check-goes check head body done more b c is,
  reads-check check head body (done ++ b ∷ []) (c ∷ more) least most (is ∙ sym (append_assoc done (b ∷ []) (c ∷ more))) (λ e. cc),
)

len-some : (check : Check) → check_len check ≡ 0 → ⊥
len-some kind.Bcc e = absurd (omega arith)
len-some kind.Crc e = absurd (omega arith)

check-some : (check : Check) (head body : List ℕ) → check_of check (head ++ body) ≡ [] → ⊥
check-some check head body e = len-some check (sym (check-length check head body) ∙ ap length e)

-- ---- the body

-- the bytes that are left after those of a body
abbrev closing : Check → List ℕ → List ℕ → List Sent
closing check head body = unmarked (16 ∷ 3 ∷ check_of check (head ++ body))

reads-closing : (check : Check) (head body : List ℕ) → 6 ≤ length body → length body ≤ 250 → Reads check (Inside (gathered_after check 250 head body)) (closing check head body) body
reads-closing check head body least most =
    let so_far = gathered_after check 250 head body in
    let end = AtCheck (gathered_whole_after check 250 head body) [] in
    let closes : text_step check 250 (InsideDle so_far) 3 ≡ Goes end = rw (close-after check 250 head body) refl in (
      InsideDle so_far,
      refl,
      reads-on check (InsideDle so_far) end (record { byte = 3; of_body = false }) (unmarked (check_of check (head ++ body))) body closes
          (reads-check check head body [] (check_of check (head ++ body)) least most refl (check-some check head body)),
    )

-- a byte of the body, be it a DLE, which is doubled, or another
abbrev body-left : Check → List ℕ → List ℕ → List ℕ → List Sent
body-left check head body rest = flat_map piece_sent (pieces_of rest) ++ closing check head body

reads-byte : (check : Check) (head body done rest : List ℕ) (b : ℕ) (dle : Bool) → (b == 16) ≡ dle → Reads check (Inside (gathered_after check 250 head (done ++ b ∷ []))) (body-left check head body rest) body
    → Reads check (Inside (gathered_after check 250 head done)) ((piece_sent (if dle then Doubled else Plain b) ++ flat_map piece_sent (pieces_of rest)) ++ closing check head body) body
reads-byte check head body done rest b true e more =
    let so_far = gathered_after check 250 head done in
    let to = Inside (gathered_after check 250 head (done ++ b ∷ [])) in
    let goes : text_step check 250 (InsideDle so_far) 16 ≡ Goes to = ap (λ (c : ℕ). Goes (Inside (gather 250 so_far c))) (sym (eqb-true b 16 e)) ∙ rw (gather-after check 250 head done b) refl in
    (InsideDle so_far, refl, reads-on check (InsideDle so_far) to (record { byte = 16; of_body = false }) (body-left check head body rest) body goes more)
reads-byte check head body done rest b false e more =
    let so_far = gathered_after check 250 head done in
    let to = Inside (gathered_after check 250 head (done ++ b ∷ [])) in
    let goes : text_step check 250 (Inside so_far) b ≡ Goes to = rw (e, gather-after check 250 head done b) refl in
    reads-on check (Inside so_far) to (record { byte = b; of_body = true }) (body-left check head body rest) body goes more

reads-body : (check : Check) (head body done rest : List ℕ) → 6 ≤ length body → length body ≤ 250 → body ≡ done ++ rest
    → Reads check (Inside (gathered_after check 250 head done)) (body-left check head body rest) body
reads-body check head body done [] least most is =
    subst (λ (d : List ℕ). Reads check (Inside (gathered_after check 250 head d)) (closing check head body) body) (is ∙ append-nil done) (reads-closing check head body least most)
reads-body check head body done (b ∷ rest) least most is =
    reads-byte check head body done rest b (b == 16) refl (reads-body check head body (done ++ b ∷ []) rest least most (is ∙ sym (append_assoc done (b ∷ []) rest)))

-- a text after its DLE STX
pub text-reads : (check : Check) (head body : List ℕ) → 6 ≤ length body → length body ≤ 250 → Reads check (begun check head) (flat_map piece_sent (pieces_of body) ++ unmarked (16 ∷ 3 ∷ check_of check (head ++ body))) body
text-reads check head body least most =
    subst (λ (at : Within). Reads check at (flat_map piece_sent (pieces_of body) ++ closing check head body) body) (within-begun check 250 head) (reads-body check head body [] body least most refl)

-- there are bytes to be read
pub reads-some : (check : Check) (at : Within) (left : List Sent) (body : List ℕ) → Reads check at left body → (length left == 0) ≡ false
reads-some check at [] body reads = absurd reads
reads-some check at (sent ∷ left) body reads = some-left sent left
