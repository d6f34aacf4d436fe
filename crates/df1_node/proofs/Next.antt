-- What is handed out next, as the sources tell it.
use Rattle.std.proofs.Common.{◌≡◌, ◌<◌, ◌≤◌, ℕ, suc, zero, ◌+◌, ◌∙◌, Bool, Option, true, false, ◌&&◌, ◌||◌, ◌==◌, cond, List, [], ◌∷◌, length, map, fold, position, find, count_by, MatchOption, Some, None, is_some, refl, sym, ap, subst, arith, slice_get, nat_lt}
use Rattle.std.specs.Option.{option_map, option_map_or}
use Rattle.std.specs.List.{list_any}
use Rattle.std.proofs.lemmas.List.Sums.{count_by-le-length}
use Rattle.std.proofs.lemmas.Bool.{eqb-true}
use Rattle.std.proofs.lemmas.Bool.Decides.{nat_tests}
use Rattle.df1_node.specs.declared.queue.Queue.{Queue}
use Rattle.df1_node.specs.Initiator.{InitiatorState, Issued, is_waiting, is_out, source_of, count_out, count_out_of, is_due, next_place, next_command, after_hand_out, restated, Out}
use Rattle.df1_node.specs.Queue.{places, out_now, waits_of, waiting_at, out_at, is_listed, lower, first_due, lowest_due, IsQueue}
use Rattle.df1_node.specs.HostLaws.{position-cons, command-found, place-command, is_some-none}
use Rattle.df1_node.proofs.Places.{some-suc, no-zero, position-first, At-known, within-at, position-alike, position-narrower, count-places, count-gains, length-restated, sucs-length}
use Rattle.df1_node.proofs.Ordered.{waiting_not_out}

-- ---- the lower of two first places

below-sucs : (p q : ℕ) → nat_lt (suc p) (suc q) ≡ nat_lt p q
below-sucs p q = grind (arith, nat_tests)

suc-either : (b : Bool) (q p : ℕ) → cond b (Some (suc q)) (Some (suc p)) ≡ option_map suc (cond b (Some q) (Some p))
suc-either true q p = refl
suc-either false q p = refl

lower-sucs : (p q : Option ℕ) → lower (option_map suc p) (option_map suc q) ≡ option_map suc (lower p q)
lower-sucs None q = refl
lower-sucs (Some p) None = refl
lower-sucs (Some p) (Some q) = ap (λ (b : Bool). cond b (Some (suc q)) (Some (suc p))) (below-sucs q p) ∙ suc-either (nat_lt q p) q p

not-below : (q : ℕ) → nat_lt (suc q) 0 ≡ false
not-below q = grind (arith, nat_tests)

lower-zero : (q : Option ℕ) → lower (Some 0) (option_map suc q) ≡ Some 0
lower-zero None = refl
lower-zero (Some q) = ap (λ (b : Bool). cond b (Some (suc q)) (Some 0)) (not-below q)

zero-below : (p : ℕ) → nat_lt 0 (suc p) ≡ true
zero-below p = grind (arith, nat_tests)

zero-lower : (p : Option ℕ) → lower (option_map suc p) (Some 0) ≡ Some 0
zero-lower None = refl
zero-lower (Some p) = ap (λ (b : Bool). cond b (Some 0) (Some (suc p))) (zero-below p)

lower-either : (a b : Bool) (p q : Option ℕ) → lower (cond a (Some 0) (option_map suc p)) (cond b (Some 0) (option_map suc q)) ≡ cond (a || b) (Some 0) (option_map suc (lower p q))
lower-either true true p q = refl
lower-either true false p q = lower-zero q
lower-either false true p q = zero-lower p
lower-either false false p q = lower-sucs p q

-- the lower of the first places that pass two tests is the first that passes either
pub position-either : (t u : Issued → Bool) (cs : List Issued) → lower (position t cs) (position u cs) ≡ position (λ c. t c || u c) cs
position-either t u [] = refl
position-either t u (c ∷ cs) =
    ap (λ o. lower o (position u (c ∷ cs))) (position-cons t c cs)
    ∙ ap (lower (cond (t c) (Some 0) (option_map suc (position t cs)))) (position-cons u c cs)
    ∙ lower-either (t c) (u c) (position t cs) (position u cs)
    ∙ ap (λ o. cond (t c || u c) (Some 0) (option_map suc o)) (position-either t u cs)
    ∙ sym (position-cons (λ x. t x || u x) c cs)

-- ---- the lowest of some sources

-- the command waits, is of the source, and fewer of that one are out than may be
abbrev pub due_of : ℕ → List Issued → ℕ → Issued → Bool
due_of per_source cs source c = waits_of source c && nat_lt (count_out_of source cs) per_source

-- the command waits, and fewer of its source are out than may be
abbrev pub due_among : ℕ → List Issued → Issued → Bool
due_among per_source cs c = is_waiting c.standing && nat_lt (count_out_of (source_of c) cs) per_source

no-position : (cs : List Issued) → None ≡ position (λ c. false) cs
no-position [] = refl
no-position (c ∷ cs) = sym (position-cons (λ c. false) c cs ∙ ap (option_map suc) (sym (no-position cs)))

and-false : (b : Bool) → (b && false) ≡ false
and-false true = refl
and-false false = refl

and-true : (b : Bool) → (b && true) ≡ b
and-true true = refl
and-true false = refl

or-false : (b : Bool) → (b || false) ≡ b
or-false true = refl
or-false false = refl

or-assoc : (a b d : Bool) → ((a || b) || d) ≡ (a || (b || d))
or-assoc true b d = refl
or-assoc false b d = refl

due-either : (b : Bool) (source : ℕ) (cs : List Issued) → cond b (position (waits_of source) cs) None ≡ position (λ c. waits_of source c && b) cs
due-either true source cs = position-alike (waits_of source) (λ c. waits_of source c && true) cs (λ k c _. sym (and-true (waits_of source c)))
due-either false source cs = no-position cs ∙ position-alike (λ c. false) (λ c. waits_of source c && false) cs (λ k c _. sym (and-false (waits_of source c)))

first_due-is : (cs : List Issued) (q : Queue) (per_source source : ℕ) → IsQueue cs q → first_due per_source q.sources.items source ≡ position (due_of per_source cs source) cs
first_due-is cs q per_source source is =
    ap (λ n. cond (nat_lt n per_source) (slice_get (waiting_at q.sources.items source) 0) None) (is.outs source)
    ∙ ap (λ o. cond (nat_lt (count_out_of source cs) per_source) o None) (ap (λ ps. slice_get ps 0) (is.waits source) ∙ sym (position-first (waits_of source) cs))
    ∙ due-either (nat_lt (count_out_of source cs) per_source) source cs

lowest_among : (cs : List Issued) (q : Queue) (per_source : ℕ) (t : Issued → Bool) (used : List ℕ) → IsQueue cs q →
    fold (λ lowest source. lower lowest (first_due per_source q.sources.items source)) (position t cs) used ≡ position (λ c. t c || list_any (λ source. due_of per_source cs source c) used) cs
lowest_among cs q per_source t [] is = position-alike t (λ c. t c || false) cs (λ k c _. sym (or-false (t c)))
lowest_among cs q per_source t (source ∷ used) is =
    ap (λ o. fold (λ lowest b. lower lowest (first_due per_source q.sources.items b)) o used)
    (ap (lower (position t cs)) (first_due-is cs q per_source source is) ∙ position-either t (due_of per_source cs source) cs)
    ∙ lowest_among cs q per_source (λ c. t c || due_of per_source cs source c) used is
    ∙ position-alike (λ c. (t c || due_of per_source cs source c) || list_any (λ b. due_of per_source cs b c) used) (λ c. t c || (due_of per_source cs source c || list_any (λ b. due_of per_source cs b c) used)) cs
    (λ k c _. or-assoc (t c) (due_of per_source cs source c) (list_any (λ b. due_of per_source cs b c) used))

-- ---- each source of which a command waits is among them

more-either : (b : Bool) (ps : List ℕ) → 0 < length ps → 0 < length (cond b (0 ∷ map suc ps) (map suc ps))
more-either true ps some = omega arith
more-either false ps some = subst (λ n. 0 < n) (sym (sucs-length ps)) some

passes-here : (t : Issued → Bool) (cs : List Issued) (k : ℕ) (c : Issued) → slice_get cs k ≡ Some c → t c ≡ true → 0 < length (places t cs)
passes-here t [] k c at passes = absurd (let f : ⊥ = cc in f)
passes-here t (x ∷ cs) zero c at passes =
    let f : x ≡ c = cc in
    subst (λ (b : Bool). 0 < length (cond b (0 ∷ map suc (places t cs)) (map suc (places t cs)))) (sym (ap t f ∙ passes)) (let g : 0 < suc (length (map suc (places t cs))) = omega arith in g)
passes-here t (x ∷ cs) (suc k) c at passes = more-either (t x) (places t cs) (passes-here t cs k c at passes)

or-true : (b : Bool) → (b || true) ≡ true
or-true true = refl
or-true false = refl

none-of : (used : List ℕ) (f : ℕ → Bool) (source : ℕ) → list_any (λ b. (false && (source == b)) && f b) used ≡ false
none-of [] f source = refl
none-of (b ∷ used) f source = none-of used f source

one-of-either : (same listed f g : Bool) → (same ≡ true → f ≡ g) → ((true && same) && f || (listed && g)) ≡ ((same || listed) && g)
one-of-either true true f true e = or-true f
one-of-either true true f false e = or-false f ∙ e refl
one-of-either true false f g e = or-false f ∙ e refl
one-of-either false listed f g e = refl

same-sides : (x y : ℕ) → (x == y) ≡ (y == x)
same-sides x y = grind (arith, nat_tests)

one-of : (used : List ℕ) (f : ℕ → Bool) (source : ℕ) → list_any (λ b. (true && (source == b)) && f b) used ≡ (is_listed used source && f source)
one-of [] f source = refl
one-of (b ∷ used) f source =
    ap (λ x. ((true && (source == b)) && f b) || x) (one-of used f source)
    ∙ one-of-either (source == b) (is_listed used source) (f b) (f source) (λ e. sym (ap f (eqb-true source b e)))
    ∙ ap (λ x. (x || is_listed used source) && f source) (same-sides source b)

due-either-way : (waits : Bool) (used : List ℕ) (f : ℕ → Bool) (source : ℕ) → (waits ≡ true → is_listed used source ≡ true) → list_any (λ b. (waits && (source == b)) && f b) used ≡ (waits && f source)
due-either-way true used f source listed = one-of used f source ∙ ap (λ x. x && f source) (listed refl)
due-either-way false used f source listed = none-of used f source

true-unless : (b : Bool) → (b ≡ false → ⊥) → b ≡ true
true-unless b never = elim b as (λ x. (x ≡ false → ⊥) → x ≡ true) [ true ↦ λ h. refl | false ↦ λ h. absurd (h refl) ] never

same-byte : (b : ℕ) → (b == b) ≡ true
same-byte b = grind (arith, nat_tests)

listed-source : (cs : List Issued) (q : Queue) (k : ℕ) (c : Issued) → IsQueue cs q → slice_get cs k ≡ Some c → is_waiting c.standing ≡ true → is_listed q.used.items (source_of c) ≡ true
listed-source cs q k c is at waiting =
    let some : 0 < length (places (waits_of (source_of c)) cs) = passes-here (waits_of (source_of c)) cs k c at (ap (λ x. x && (source_of c == source_of c)) waiting ∙ same-byte (source_of c)) in
    true-unless (is_listed q.used.items (source_of c))
    (λ unlisted.
    let none : length (places (waits_of (source_of c)) cs) ≡ 0 = ap length (sym (is.waits (source_of c)) ∙ is.listed (source_of c) unlisted) in
    omega arith)

-- the lowest place that waits and of whose source fewer are out than may be
pub lowest_due-is : (cs : List Issued) (q : Queue) (per_source : ℕ) → IsQueue cs q → lowest_due per_source q.sources.items q.used.items ≡ position (due_among per_source cs) cs
lowest_due-is cs q per_source is =
    ap (λ o. fold (λ lowest b. lower lowest (first_due per_source q.sources.items b)) o q.used.items) (no-position cs)
    ∙ lowest_among cs q per_source (λ c. false) q.used.items is
    ∙ position-alike (λ c. list_any (λ b. due_of per_source cs b c) q.used.items) (due_among per_source cs) cs
    (λ k c at. due-either-way (is_waiting c.standing) q.used.items (λ b. nat_lt (count_out_of b cs) per_source) (source_of c) (listed-source cs q k c is at))

-- ---- the command that is handed out next

past : (m n : ℕ) → n ≤ m → nat_lt m n ≡ false
past m n h = grind (arith, nat_tests)

below : (m n : ℕ) → m < n → nat_lt m n ≡ true
below m n h = grind (arith, nat_tests)

is-below : (m n : ℕ) → nat_lt m n ≡ true → m < n
is-below m n e = grind (arith, nat_tests)

pub out-count : (cs : List Issued) (q : Queue) → IsQueue cs q → length q.out.items ≡ count_out cs
out-count cs q is = ap length is.out ∙ sym (count-places out_now cs)

pub next-full : (s : InitiatorState) (q : Queue) → IsQueue s.issued q → s.window ≤ length q.out.items → None ≡ next_place s
next-full s q is full = sym (ap (λ (b : Bool). cond b (position (is_due s) s.issued) None) (ap (λ n. nat_lt n s.window) (sym (out-count s.issued q is)) ∙ past (length q.out.items) s.window full))

pub next-lowest : (s : InitiatorState) (q : Queue) → IsQueue s.issued q → length q.out.items < s.window → lowest_due s.per_source q.sources.items q.used.items ≡ next_place s
next-lowest s q is room =
    lowest_due-is s.issued q s.per_source is
    ∙ sym (ap (λ (b : Bool). cond b (position (is_due s) s.issued) None) (ap (λ n. nat_lt n s.window) (sym (out-count s.issued q is)) ∙ below (length q.out.items) s.window room))

given : (b : Bool) (o : Option ℕ) (p : ℕ) → cond b o None ≡ Some p → (b ≡ true) × (o ≡ Some p)
given true o p e = (refl, e)
given false o p e = absurd (let f : ⊥ = cc in f)

place-either : (b : Bool) (t : Issued → Bool) (c : Issued) (cs : List Issued) (p : ℕ) → t c ≡ b → cond b (Some 0) (option_map suc (position t cs)) ≡ Some p →
    ((k : ℕ) → position t cs ≡ Some k → (r : Issued) × (slice_get cs k ≡ Some r) × (t r ≡ true) × (find t cs ≡ Some r)) → (r : Issued) × (slice_get (c ∷ cs) p ≡ Some r) × (t r ≡ true) × (find t (c ∷ cs) ≡ Some r)
place-either true t c cs zero e found rest = (c, refl, e, ap (λ b. cond b (Some c) (find t cs)) e)
place-either true t c cs (suc p) e found rest = absurd (let f : 0 ≡ suc p = cc in let g : ⊥ = omega arith in g)
place-either false t c cs zero e found rest = no-zero (position t cs) found
place-either false t c cs (suc p) e found rest =
    let more : (r : Issued) × (slice_get cs p ≡ Some r) × (t r ≡ true) × (find t cs ≡ Some r) = rest p (some-suc (position t cs) p found) in
    (more.0, more.1, more.2, ap (λ b. cond b (Some c) (find t cs)) e ∙ more.3)

place-get : (t : Issued → Bool) (cs : List Issued) (p : ℕ) → position t cs ≡ Some p → (r : Issued) × (slice_get cs p ≡ Some r) × (t r ≡ true) × (find t cs ≡ Some r)
place-get t [] p e = absurd (let f : ⊥ = cc in f)
place-get t (c ∷ cs) p e = place-either (t c) t c cs p refl (sym (position-cons t c cs) ∙ e) (λ k there. place-get t cs k there)

and-parts : (a b : Bool) → (a && b) ≡ true → (a ≡ true) × (b ≡ true)
and-parts true b e = (refl, e)
and-parts false b e = let f : false ≡ true = e in let g : ⊥ = cc in absurd g

-- what is known of the command at the next place
pub record IsNext (s : InitiatorState) (q : Queue) (p : ℕ) (r : Issued) : Type 0 where
  pub waiting : is_waiting r.standing ≡ true
  pub first : position (waits_of (source_of r)) s.issued ≡ Some p
  pub room : length q.out.items < s.window
  pub waits : 0 < length (waiting_at q.sources.items (source_of r))
  pub few : out_at q.sources.items (source_of r) < length s.issued
  pub command : next_command s ≡ Some r.body

pub no-command : (s : InitiatorState) → next_place s ≡ None → next_command s ≡ None
no-command s none = is_some-none (next_command s) (sym (place-command s) ∙ ap is_some none)

pub at_None : (P : Type 0) (Q : List ℕ → Type 0) (o : Option (List ℕ)) → o ≡ None → P → MatchOption o P Q
at_None P Q o e p = subst (λ x. MatchOption x P Q) (sym e) p

pub at_Some : (P : Type 0) (Q : List ℕ → Type 0) (o : Option (List ℕ)) (x : List ℕ) → o ≡ Some x → Q x → MatchOption o P Q
at_Some P Q o x e q = subst (λ y. MatchOption y P Q) (sym e) q

some-length : (ps : List ℕ) (p : ℕ) → slice_get ps 0 ≡ Some p → 0 < length ps
some-length [] p e = absurd (let f : ⊥ = cc in f)
some-length (x ∷ ps) p e = omega arith

pub next-is : (s : InitiatorState) (q : Queue) (p : ℕ) (r : Issued) → IsQueue s.issued q → next_place s ≡ Some p → slice_get s.issued p ≡ Some r → IsNext s q p r
next-is s q p r is e at =
    let parts : (nat_lt (count_out s.issued) s.window ≡ true) × (position (is_due s) s.issued ≡ Some p) = given (nat_lt (count_out s.issued) s.window) (position (is_due s) s.issued) p e in
    let got : (x : Issued) × (slice_get s.issued p ≡ Some x) × (is_due s x ≡ true) × (find (is_due s) s.issued ≡ Some x) = place-get (is_due s) s.issued p parts.1 in
    let same : got.0 ≡ r = let g : slice_get s.issued p ≡ Some got.0 = got.1 in cc in
    let due : is_due s r ≡ true = subst (λ x. is_due s x ≡ true) same got.2 in
    let free : (is_waiting r.standing ≡ true) × (nat_lt (count_out_of (source_of r) s.issued) s.per_source ≡ true) = and-parts (is_waiting r.standing) (nat_lt (count_out_of (source_of r) s.issued) s.per_source) due in
    let here : waits_of (source_of r) r ≡ true = ap (λ x. x && (source_of r == source_of r)) free.0 ∙ same-byte (source_of r) in
    let first : position (waits_of (source_of r)) s.issued ≡ Some p =
    position-narrower (is_due s) (waits_of (source_of r)) s.issued p parts.1
    (λ c u.
    let both : (is_waiting c.standing ≡ true) × ((source_of c == source_of r) ≡ true) = and-parts (is_waiting c.standing) (source_of c == source_of r) u in
    ap (λ x. x && nat_lt (count_out_of (source_of c) s.issued) s.per_source) both.0 ∙ ap (λ x. nat_lt (count_out_of x s.issued) s.per_source) (eqb-true (source_of c) (source_of r) both.1) ∙ free.1)
    (At-known s.issued p r (λ c. waits_of (source_of r) c ≡ true) at here) in
    let waiting : 0 < length (waiting_at q.sources.items (source_of r)) =
    some-length (waiting_at q.sources.items (source_of r)) p (ap (λ ps. slice_get ps 0) (is.waits (source_of r)) ∙ sym (position-first (waits_of (source_of r)) s.issued) ∙ first) in
    let t : Issued → Bool = λ c. is_out c.standing && (source_of c == source_of r) in
    let gains : count_by t (restated s.issued p (Out 0)) ≡ count_by t s.issued + 1 =
    count-gains t s.issued p (Out 0) (within-at s.issued p r at) (At-known s.issued p r (λ c. t c ≡ false) at (ap (λ x. x && (source_of r == source_of r)) (waiting_not_out r.standing free.0)))
    (At-known s.issued p r (λ c. (source_of c == source_of r) ≡ true) at (same-byte (source_of r))) in
    let most : count_by t (restated s.issued p (Out 0)) ≤ length (restated s.issued p (Out 0)) = count_by-le-length t (restated s.issued p (Out 0)) in
    let alike : length (restated s.issued p (Out 0)) ≡ length s.issued = length-restated s.issued p (Out 0) in
    let outs : out_at q.sources.items (source_of r) ≡ count_by t s.issued = is.outs (source_of r) in
    let out : length q.out.items ≡ count_out s.issued = out-count s.issued q is in
    let under : count_out s.issued < s.window = is-below (count_out s.issued) s.window parts.0 in
    record {
      waiting = free.0;
      first = first;
      room = omega arith;
      waits = waiting;
      few = omega arith;
      command =
          command-found s
          ∙ ap (λ (b : Bool). cond b (option_map (λ (c : Issued). c.body) (find (is_due s) s.issued)) None) parts.0
          ∙ ap (option_map (λ (c : Issued). c.body)) got.3
          ∙ ap (λ (c : Issued). Some c.body) same;
    }

pub next-within : (s : InitiatorState) (p : ℕ) → next_place s ≡ Some p → p < length s.issued
next-within s p e =
    let parts : (nat_lt (count_out s.issued) s.window ≡ true) × (position (is_due s) s.issued ≡ Some p) = given (nat_lt (count_out s.issued) s.window) (position (is_due s) s.issued) p e in
    let got : (x : Issued) × (slice_get s.issued p ≡ Some x) × (is_due s x ≡ true) × (find (is_due s) s.issued ≡ Some x) = place-get (is_due s) s.issued p parts.1 in
    within-at s.issued p got.0 got.1

pub hands_at : (s : InitiatorState) (p : ℕ) → next_place s ≡ Some p → record s { issued = restated s.issued p (Out s.reply_ticks) } ≡ after_hand_out s
hands_at s p e = ap (λ o. record s { issued = option_map_or (λ place. restated s.issued place (Out s.reply_ticks)) o s.issued }) (sym e)
