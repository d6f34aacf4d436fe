-- Where a mouth stands in the grammar of the line, and what the next byte of it becomes there.
use Rattle.std.proofs.Common.{◌≡◌, ℕ, ◌+◌, ◌<◌, ◌≤◌, Bool, true, false, eqb, List, [], ◌∷◌, ◌++◌, length, map, Option, Some, None, is_some, inl, inr, refl, sym, ap, subst, ◌∙◌, append_assoc, arith, length-append}
use Rattle.std.specs.Prelude.{◌⊎◌, slice_get, not, ◌&&◌, ◌==◌, if◌then◌else◌}
use Rattle.std.specs.Option.{option_map}
use Rattle.std.proofs.lemmas.List.{append-nil}
use Rattle.std.proofs.lemmas.List.Concat.{flat_map-append}
use Rattle.std.proofs.lemmas.Bool.{eqb-true, lt-ltb, le-ltb}
use Rattle.df1_base.specs.Host.{IsBody}
use Rattle.df1_base.specs.declared.link.Resp.{Resp}
use Rattle.df1_base.specs.declared.link.Resp.TheVariants as resp
use Rattle.df1_base.specs.declared.link.Out.{Out}
use Rattle.df1_check.specs.declared.Check.{Check}
use Rattle.df1_check.specs.declared.Check.TheVariants as kinds
use Rattle.df1_check.specs.Checks.{check_value}
use Rattle.df1_frame.specs.declared.framer.Unit.{Unit as Given}
use Rattle.df1_frame.specs.Spelling.{Piece, Plain, Doubled, Response, body_of, check_of, check_bytes, check_len, covered}
use Rattle.df1_frame.specs.Units.{pair_unit, byte_unit, body_unit, check_units, closing_units}
use Rattle.df1_frame.specs.Grammar.{Item, Front, Nothing, Dle, Opened, OpenedDle, Closed}
use Rattle.df1_frame.specs.Wire.{IsResponse, AreRightPieces, IsRightPiece, AreRight, bodies_in, IsLast, IsBegun}
use Rattle.df1_frame.proofs.SpellingLemmas.{length-check}
use Rattle.df1_frame.proofs.GrammarLemmas.{advance}
use Rattle.embedded_response.specs.Giving.{Giving, Choice, Second, Respond, Give, Enquire, first_there, begin, chosen, given, take, unit_out, plain, code_of}

-- ---- where a mouth stands

-- what is left of the frame of a body, of which this rest is to be given
abbrev pub frame_left : Check → List ℕ → List ℕ → List Given
frame_left check body rest = map body_unit rest ++ closing_units (check_of check body)

-- a pair is begun in the frame of a body
pub data InPair (check : Check) (body : List ℕ) (second : Option Out) (gap : Bool) (left : List Given) (pieces : List Piece) : Type 0 where
  doubles : (rest : List ℕ) → body_of pieces ++ 16 ∷ rest ≡ body → second ≡ Some (plain 16) → gap ≡ true → left ≡ frame_left check body rest → InPair check body second gap left pieces
  responds : (code : ℕ) (rest : List ℕ) → IsResponse code → body_of pieces ++ rest ≡ body → second ≡ Some (plain code) → gap ≡ true → left ≡ frame_left check body rest → InPair check body second gap left pieces
  closes : body_of pieces ≡ body → second ≡ Some (plain 3) → gap ≡ false → left ≡ check_units (check_of check body) → InPair check body second gap left pieces

-- what a mouth has of a begun pair and of a frame, at each front; of the frame's body P holds
abbrev pub IsAt : Type 0 → Check → List ℕ → Option Out → Bool → List Given → Front → Type 0
IsAt P check body second gap left Nothing = (second ≡ None) × (left ≡ [])
IsAt P check body second gap left Dle =
    ((code : ℕ) × (second ≡ Some (plain code)) × (left ≡ []) × (IsResponse code ⊎ (code ≡ 5)))
    ⊎ (P × (second ≡ Some (plain 2)) × (gap ≡ true) × (left ≡ frame_left check body body))
IsAt P check body second gap left (Opened pieces) =
    P × AreRightPieces pieces × (second ≡ None) × (gap ≡ true) × ((rest : List ℕ) × (body_of pieces ++ rest ≡ body) × (left ≡ frame_left check body rest))
IsAt P check body second gap left (OpenedDle pieces) = P × AreRightPieces pieces × InPair check body second gap left pieces
IsAt P check body second gap left (Closed pieces bytes) =
    P × AreRightPieces pieces × (second ≡ None) × (gap ≡ false) × (body_of pieces ≡ body)
    × ((b : ℕ) × (more : List ℕ) × (bytes ++ b ∷ more ≡ check_of check body) × (left ≡ check_units (b ∷ more)))

-- the bodies of the items that a byte ends: that of a frame, where the byte ends a transmission
abbrev pub Ended : Type 0 → Bool → List ℕ → List (List ℕ) → Type 0
Ended P true body bodies = P × (bodies ≡ body ∷ [])
Ended P false body bodies = bodies ≡ []

-- what a byte leads to: items that are whole now, and a front
pub record Goes (P : Type 0) (check : Check) (body : List ℕ) (g : Giving) (out : Out) (to : List Item × Front) : Type 0 where
  pub right : AreRight check to.0
  pub ended : Ended P (is_some out.last_of) body (bodies_in to.0)
  pub at : IsAt P check body g.second g.gap g.left to.1

abbrev pub Gives : Type 0 → Check → List ℕ → Front → Giving → Option Out → Type 0
Gives P check body front g None = IsAt P check body g.second g.gap g.left front
Gives P check body front g (Some out) = Goes P check body g out (advance check front out.byte)

-- ---- what is chosen

abbrev choices : Option Out → Bool → Option Resp → List Given → Bool → List (Option Choice)
choices second may waiting left asking =
    option_map Second second ∷ option_map Respond (if may then waiting else None) ∷ option_map Give (slice_get left 0) ∷ option_map Respond waiting ∷ (if asking then Some Enquire else None) ∷ []

-- a begun pair is ended
second-taken : (g : Giving) (out : Out) → g.second ≡ Some out → take g ≡ (record g { second = None }, Some out)
second-taken g out e = rw e refl

no-gap : (embed begun : Bool) (waiting : Option Resp) (unit : Given) (rest : List Given) (asking : Bool) → first_there (choices None (embed && (false && begun)) waiting (unit ∷ rest) asking) ≡ Some (Give unit)
no-gap true begun waiting unit rest asking = refl
no-gap false begun waiting unit rest asking = refl

-- without a gap a frame's next unit is chosen
unit-chosen : (g : Giving) (unit : Given) (rest : List Given) → g.second ≡ None → g.gap ≡ false → g.left ≡ unit ∷ rest → chosen g ≡ Some (Give unit)
unit-chosen g unit rest none closed left = rw (none, closed, left) (no-gap g.embed (not (length (unit ∷ rest) == 0)) g.waiting unit rest g.asking)

abbrev InFrame : Option Choice → Given → Type 0
InFrame c unit = (c ≡ Some (Give unit)) ⊎ ((r : Resp) × (c ≡ Some (Respond r)))

in-frame : (may : Bool) (waiting : Option Resp) (unit : Given) (rest : List Given) (asking : Bool) → InFrame (first_there (choices None may waiting (unit ∷ rest) asking)) unit
in-frame true None unit rest asking = inl refl
in-frame true (Some r) unit rest asking = inr (r, refl)
in-frame false waiting unit rest asking = inl refl

-- in a frame its next unit is chosen, or a response
frame-chosen : (g : Giving) (unit : Given) (rest : List Given) → g.second ≡ None → g.left ≡ unit ∷ rest → InFrame (chosen g) unit
frame-chosen g unit rest none left = rw (none, left) (in-frame (g.embed && (g.gap && not (length (unit ∷ rest) == 0))) g.waiting unit rest g.asking)

abbrev Outside : Option Choice → Type 0
Outside c = (c ≡ None) ⊎ (((r : Resp) × (c ≡ Some (Respond r))) ⊎ (c ≡ Some Enquire))

outside : (may : Bool) (waiting : Option Resp) (asking : Bool) → Outside (first_there (choices None may waiting [] asking))
outside true (Some r) asking = inr (inl (r, refl))
outside false (Some r) asking = inr (inl (r, refl))
outside true None true = inr (inr refl)
outside false None true = inr (inr refl)
outside true None false = inl refl
outside false None false = inl refl

-- outside a frame a response or an ENQ is chosen, if anything is
outside-chosen : (g : Giving) → g.second ≡ None → g.left ≡ [] → Outside (chosen g)
outside-chosen g none left = rw (none, left) (outside (g.embed && (g.gap && not (length {A = Given} [] == 0))) g.waiting g.asking)

unit-taken : (g : Giving) (unit : Given) (rest : List Given) → g.left ≡ unit ∷ rest → chosen g ≡ Some (Give unit)
    → take g ≡ (record g { left = rest; gap = unit.gap; second = (unit_out unit unit.second g.begun).1 }, Some (unit_out unit unit.second g.begun).0)
unit-taken g unit rest left e = ap (given g) e ∙ rw left refl

-- ---- the next byte

code-response : (r : Resp) → IsResponse (code_of r)
code-response resp.Ack = inl refl
code-response resp.Nak = inr refl

pair-code : (code : ℕ) → IsResponse code ⊎ (code ≡ 5) → eqb code 2 ≡ false
pair-code code (inl (inl e)) = rw e refl
pair-code code (inl (inr e)) = rw e refl
pair-code code (inr e) = rw e refl

response-goes : (check : Check) (pieces : List Piece) (code : ℕ) → IsResponse code → advance check (OpenedDle pieces) code ≡ ([], Opened (pieces ++ Response code ∷ []))
response-goes check pieces code (inl e) = rw e refl
response-goes check pieces code (inr e) = rw e refl

push-right : (pieces : List Piece) (piece : Piece) → AreRightPieces pieces → IsRightPiece piece → AreRightPieces (pieces ++ piece ∷ [])
push-right [] piece right is = (is, tt)
push-right (p ∷ pieces) piece right is = (right.0, push-right pieces piece right.1 is)

some-check : (kind : Check) (value : ℕ) → (b : ℕ) × (more : List ℕ) × (check_bytes kind value ≡ b ∷ more)
unfolding check_bytes
some-check kinds.Bcc value = (_, _, refl)
some-check kinds.Crc value = (_, _, refl)

abbrev Result : Type 0 → Check → List ℕ → Front → Giving × Option Out → Type 0
Result P check body front to = Gives P check body front to.0 to.1

gives-nothing : (P : Type 0) (check : Check) (body : List ℕ) (g : Giving) → g.second ≡ None → g.left ≡ [] → Outside (chosen g) → Result P check body Nothing (take g)
gives-nothing P check body g none left (inl e) = subst (λ (c : Option Choice). Result P check body Nothing (given g c)) (sym e) (none, left)
gives-nothing P check body g none left (inr (inl r)) =
    subst (λ (c : Option Choice). Result P check body Nothing (given g c)) (sym r.1) (record { right = tt; ended = refl; at = inl (code_of r.0, refl, left, inl (code-response r.0)) })
gives-nothing P check body g none left (inr (inr e)) =
    subst (λ (c : Option Choice). Result P check body Nothing (given g c)) (sym e) (record { right = tt; ended = refl; at = inl (5, refl, left, inr refl) })

gives-dle : (P : Type 0) (check : Check) (body : List ℕ) (g : Giving) → IsAt P check body g.second g.gap g.left Dle → Result P check body Dle (take g)
gives-dle P check body g (inl h) =
    subst (Result P check body Dle) (sym (second-taken g (plain h.0) h.1))
    (rw (pair-code h.0 h.3) (record { right = (h.3, tt); ended = refl; at = (refl, h.2) }))
gives-dle P check body g (inr h) =
    subst (Result P check body Dle) (sym (second-taken g (plain 2) h.1))
    (record { right = tt; ended = refl; at = (h.0, tt, refl, h.2, (body, refl, h.3)) })

body-push : (pieces : List Piece) (piece : Piece) (rest more body : List ℕ) → body_of (piece ∷ []) ++ rest ≡ more → body_of pieces ++ more ≡ body → body_of (pieces ++ piece ∷ []) ++ rest ≡ body
body-push pieces piece rest more body e is = rw (flat_map-append, append_assoc (body_of pieces) (body_of (piece ∷ [])) rest, e) is

-- in a frame's body, a byte of it
gives-byte : (P : Type 0) (check : Check) (body : List ℕ) (g : Giving) (pieces : List Piece) (b : ℕ) (rest : List ℕ) (dle : Bool) → eqb b 16 ≡ dle
    → P → AreRightPieces pieces → body_of pieces ++ b ∷ rest ≡ body → g.left ≡ (if dle then pair_unit 16 true else byte_unit b true false) ∷ frame_left check body rest
    → chosen g ≡ Some (Give (if dle then pair_unit 16 true else byte_unit b true false)) → Result P check body (Opened pieces) (take g)
gives-byte P check body g pieces b rest true is p right whole left e =
    subst (Result P check body (Opened pieces)) (sym (unit-taken g (pair_unit 16 true) (frame_left check body rest) left e))
    (record { right = tt; ended = refl; at = (p, right, doubles rest (rw (← eqb-true b 16 is) whole) refl refl refl) })
gives-byte P check body g pieces b rest false is p right whole left e =
    subst (Result P check body (Opened pieces)) (sym (unit-taken g (byte_unit b true false) (frame_left check body rest) left e))
    (rw is (record { right = tt; ended = refl; at = (p, push-right pieces (Plain b) right tt, refl, refl, (rest, body-push pieces (Plain b) rest (b ∷ rest) body refl whole, refl)) }))

gives-opened : (P : Type 0) (check : Check) (body : List ℕ) (g : Giving) (pieces : List Piece) (rest : List ℕ) → P → AreRightPieces pieces → g.second ≡ None → g.gap ≡ true
    → body_of pieces ++ rest ≡ body → g.left ≡ frame_left check body rest → (unit : Given) (more : List Given) → frame_left check body rest ≡ unit ∷ more → InFrame (chosen g) unit → Result P check body (Opened pieces) (take g)
gives-opened P check body g pieces rest p right none gap whole left unit more is (inr r) =
    subst (λ (c : Option Choice). Result P check body (Opened pieces) (given g c)) (sym r.1)
    (record { right = tt; ended = refl; at = (p, right, responds (code_of r.0) rest (code-response r.0) whole refl gap left) })
gives-opened P check body g pieces [] p right none gap whole left unit more is (inl e) =
    let same : pair_unit 3 false ≡ unit = cc in
    let end = check_units (check_of check body) in
    subst (Result P check body (Opened pieces)) (sym (unit-taken g (pair_unit 3 false) end left (e ∙ ap (λ (u : Given). Some (Give u)) (sym same))))
    (record { right = tt; ended = refl; at = (p, right, closes (sym (append-nil (body_of pieces)) ∙ whole) refl refl refl) })
gives-opened P check body g pieces (b ∷ rest) p right none gap whole left unit more is (inl e) =
    let same : body_unit b ≡ unit = cc in
    gives-byte P check body g pieces b rest (eqb b 16) refl p right whole left (e ∙ ap (λ (u : Given). Some (Give u)) (sym same))

cons-left : (check : Check) (body rest : List ℕ) → (unit : Given) × (more : List Given) × (frame_left check body rest ≡ unit ∷ more)
cons-left check body [] = (_, _, refl)
cons-left check body (b ∷ rest) = (_, _, refl)

gives-pair : (P : Type 0) (check : Check) (body : List ℕ) (g : Giving) (pieces : List Piece) → P → AreRightPieces pieces → InPair check body g.second g.gap g.left pieces → Result P check body (OpenedDle pieces) (take g)
gives-pair P check body g pieces p right (doubles rest whole second gap left) =
    subst (Result P check body (OpenedDle pieces)) (sym (second-taken g (plain 16) second))
    (record { right = tt; ended = refl; at = (p, push-right pieces Doubled right tt, refl, gap, (rest, body-push pieces Doubled rest (16 ∷ rest) body refl whole, left)) })
gives-pair P check body g pieces p right (responds code rest is whole second gap left) =
    subst (Result P check body (OpenedDle pieces)) (sym (second-taken g (plain code) second))
    (subst (λ (to : List Item × Front). Goes P check body (record g { second = None }) (plain code) to) (sym (response-goes check pieces code is))
    (record { right = tt; ended = refl; at = (p, push-right pieces (Response code) right is, refl, gap, (rest, body-push pieces (Response code) rest rest body refl whole, left)) }))
gives-pair P check body g pieces p right (closes whole second gap left) =
    let first = some-check check (check_value check (covered check body)) in
    subst (Result P check body (OpenedDle pieces)) (sym (second-taken g (plain 3) second))
    (record { right = tt; ended = refl; at = (p, right, refl, gap, whole, (first.0, first.1, sym first.2, left ∙ ap check_units first.2)) })

check-len : (check : Check) (body bytes more : List ℕ) (b : ℕ) → bytes ++ b ∷ more ≡ check_of check body → length bytes + 1 + length more ≡ check_len check
check-len check body bytes more b is =
    omega (arith, length-check check (check_value check (covered check body)), ap length is, length-append bytes (b ∷ more))

gives-check : (P : Type 0) (check : Check) (body : List ℕ) → (P → IsBody body) → (g : Giving) (pieces : List Piece) (bytes : List ℕ) (b : ℕ) (more : List ℕ) → P → AreRightPieces pieces → g.second ≡ None → g.gap ≡ false
    → body_of pieces ≡ body → bytes ++ b ∷ more ≡ check_of check body → g.left ≡ check_units (b ∷ more) → Result P check body (Closed pieces bytes) (take g)
gives-check P check body fits g pieces bytes b [] p right none gap whole is left =
    let many = check-len check body bytes [] b is in
    let last : check_len check ≤ length bytes + 1 = omega arith in
    let own : check_of check body ≡ check_of check (body_of pieces) = ap (check_of check) (sym whole) in
    subst (Result P check body (Closed pieces bytes)) (sym (unit-taken g (byte_unit b false true) [] left (unit-chosen g (byte_unit b false true) [] none gap left)))
    (rw (le-ltb (length bytes + 1) (check_len check) last)
    (record { right = ((right, subst IsBody (sym whole) (fits p), is ∙ own), tt); ended = (p, ap (λ (l : List ℕ). l ∷ []) whole); at = (refl, refl) }))
gives-check P check body fits g pieces bytes b (c ∷ more) p right none gap whole is left =
    let many = check-len check body bytes (c ∷ more) b is in
    let part : length bytes + 1 < check_len check = omega arith in
    subst (Result P check body (Closed pieces bytes)) (sym (unit-taken g (byte_unit b false false) (check_units (c ∷ more)) left (unit-chosen g (byte_unit b false false) (check_units (c ∷ more)) none gap left)))
    (rw (lt-ltb (length bytes + 1) (check_len check) part)
    (record { right = tt; ended = refl; at = (p, right, refl, refl, whole, (c, more, append_assoc bytes (b ∷ []) (c ∷ more) ∙ is, refl)) }))

-- the next byte of a mouth keeps to the grammar
pub takes-on : (P : Type 0) (check : Check) (body : List ℕ) → (P → IsBody body) → (g : Giving) (front : Front) → IsAt P check body g.second g.gap g.left front → Gives P check body front (take g).0 (take g).1
takes-on P check body fits g Nothing h = gives-nothing P check body g h.0 h.1 (outside-chosen g h.0 h.1)
takes-on P check body fits g Dle h = gives-dle P check body g h
takes-on P check body fits g (Opened pieces) h =
    let next = cons-left check body h.4.0 in
    gives-opened P check body g pieces h.4.0 h.0 h.1 h.2 h.3 h.4.1 h.4.2 next.0 next.1 next.2 (frame-chosen g next.0 next.1 h.2 (h.4.2 ∙ next.2))
takes-on P check body fits g (OpenedDle pieces) h = gives-pair P check body g pieces h.0 h.1 h.2
takes-on P check body fits g (Closed pieces bytes) h = gives-check P check body fits g pieces bytes h.5.0 h.5.1 h.0 h.1 h.2 h.3 h.4 h.5.2 h.5.3

-- ---- where nothing is chosen

cons-nil : (unit : Given) (rest left : List Given) → left ≡ [] → left ≡ unit ∷ rest → ⊥
cons-nil unit rest left none some = cc

in-pair-some : (check : Check) (body : List ℕ) (second : Option Out) (gap : Bool) (left : List Given) (pieces : List Piece) → second ≡ None → InPair check body second gap left pieces → ⊥
in-pair-some check body second gap left pieces none (doubles rest whole s g l) = absurd cc
in-pair-some check body second gap left pieces none (responds code rest k whole s g l) = absurd cc
in-pair-some check body second gap left pieces none (closes whole s g l) = absurd cc

check-some : (b : ℕ) (more : List ℕ) (left : List Given) → left ≡ [] → left ≡ check_units (b ∷ more) → ⊥
check-some b [] left none some = absurd cc
check-some b (c ∷ more) left none some = absurd cc

-- a mouth that gives nothing has nothing begun
pub at-nothing : (P : Type 0) (check : Check) (body : List ℕ) (second : Option Out) (gap : Bool) (left : List Given) (front : Front) → second ≡ None → left ≡ [] → IsAt P check body second gap left front → front ≡ Nothing
at-nothing P check body second gap left Nothing none end h = refl
at-nothing P check body second gap left Dle none end (inl h) = absurd (let some = h.1 in cc)
at-nothing P check body second gap left Dle none end (inr h) = absurd (let some = h.1 in cc)
at-nothing P check body second gap left (Opened pieces) none end h =
    let next = cons-left check body h.4.0 in
    absurd (cons-nil next.0 next.1 left end (h.4.2 ∙ next.2))
at-nothing P check body second gap left (OpenedDle pieces) none end (h) = absurd (in-pair-some check body second gap left pieces none h.2)
at-nothing P check body second gap left (Closed pieces bytes) none end h = absurd (check-some h.5.0 h.5.1 left end h.5.3)

-- the first byte of a frame that is begun where nothing is
pub begins-on : (P : Type 0) (check : Check) (body : List ℕ) (g : Giving) → g.check ≡ check → P → g.second ≡ None → Gives P check body Nothing (take (begin g body)).0 (take (begin g body)).1
begins-on P check body g is p none =
    let start : Giving = begin g body in
    let left : start.left ≡ pair_unit 2 true ∷ frame_left check body body = rw is refl in
    subst (Result P check body Nothing) (sym (unit-taken start (pair_unit 2 true) (frame_left check body body) left (unit-chosen start (pair_unit 2 true) (frame_left check body body) none refl left)))
    (record { right = tt; ended = refl; at = inr (p, refl, refl, refl) })

-- ---- what is begun

last-whole : (messages : List (List ℕ)) (body other : List ℕ) → other ≡ body → IsLast messages body → IsLast messages other
last-whole messages body other e is = subst (IsLast messages) (sym e) is

begun-pair : (check : Check) (messages : List (List ℕ)) (body : List ℕ) (second : Option Out) (gap : Bool) (left : List Given) (pieces : List Piece) → IsLast messages body → InPair check body second gap left pieces
    → (rest : List ℕ) × IsLast messages (body_of pieces ++ rest)
begun-pair check messages body second gap left pieces is (doubles rest whole s g l) = (16 ∷ rest, last-whole messages body (body_of pieces ++ 16 ∷ rest) whole is)
begun-pair check messages body second gap left pieces is (responds code rest k whole s g l) = (rest, last-whole messages body (body_of pieces ++ rest) whole is)
begun-pair check messages body second gap left pieces is (closes whole s g l) = ([], last-whole messages body (body_of pieces ++ []) (append-nil (body_of pieces) ∙ whole) is)

-- what a mouth has begun is the frame of the last message
pub begun-at : (P : Type 0) (check : Check) (messages : List (List ℕ)) (body : List ℕ) → (P → IsLast messages body) → (second : Option Out) (gap : Bool) (left : List Given) (front : Front) → IsAt P check body second gap left front → IsBegun check messages front
begun-at P check messages body is second gap left Nothing h = tt
begun-at P check messages body is second gap left Dle h = tt
begun-at P check messages body is second gap left (Opened pieces) h = (h.1, (h.4.0, last-whole messages body (body_of pieces ++ h.4.0) h.4.1 (is h.0)))
begun-at P check messages body is second gap left (OpenedDle pieces) h = (h.1, begun-pair check messages body second gap left pieces (is h.0) h.2)
begun-at P check messages body is second gap left (Closed pieces bytes) h =
    (h.1, last-whole messages body (body_of pieces) h.4 (is h.0), (h.5.0 ∷ h.5.1, h.5.2 ∙ ap (check_of check) (sym h.4)))
