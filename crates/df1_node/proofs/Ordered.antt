-- What is kept of the order of the commands, as commands are added and stand otherwise.
use Rattle.std.proofs.Common.{◌≡◌, ◌<◌, ◌≤◌, ℕ, suc, zero, ◌+◌, ◌-◌, ◌∙◌, Bool, true, false, ◌&&◌, ◌==◌, not, cond, List, [], ◌∷◌, ◌++◌, length, drop, count_by, position, remove, Some, refl, sym, ap, subst, arith, slice_get}
use Rattle.std.proofs.lemmas.List.Sums.{sum_by_push}
use Rattle.std.proofs.lemmas.Bool.{eqb-true}
use Rattle.std.proofs.lemmas.Bool.Decides.{nat_tests}
use Rattle.df1_node.specs.declared.queue.Source.{Source}
use Rattle.df1_node.specs.declared.queue.Queue.{Queue}
use Rattle.df1_node.specs.Initiator.{Standing, Waiting, Out, Answered, Undelivered, Unanswered, Issued, is_waiting, is_out, is_settled, restated, source_of, count_out_of, cleared, all_cleared}
use Rattle.df1_node.specs.Queue.{places, out_now, waits_of, is_unsettled, waiting_at, out_at, is_listed, inserted, IsQueue}
use Rattle.df1_node.proofs.Places.{At, At-known, At-is, within-at, places-push, places-same, places-inserted, places-removed, places-pass, places-map, places-none, count-places, count-same, count-gains, count-loses, count-map, position-first}

-- ---- how a command stands

pub waiting_not_out : (s : Standing) → is_waiting s ≡ true → is_out s ≡ false
waiting_not_out Waiting w = refl
waiting_not_out (Out k) w = cc
waiting_not_out (Answered r) w = refl
waiting_not_out Undelivered w = refl
waiting_not_out Unanswered w = refl

pub out_not_waiting : (s : Standing) → is_out s ≡ true → is_waiting s ≡ false
out_not_waiting Waiting o = cc
out_not_waiting (Out k) o = refl
out_not_waiting (Answered r) o = refl
out_not_waiting Undelivered o = refl
out_not_waiting Unanswered o = refl

waiting_not_settled : (s : Standing) → is_waiting s ≡ true → is_settled s ≡ false
waiting_not_settled Waiting w = refl
waiting_not_settled (Out k) w = refl
waiting_not_settled (Answered r) w = cc
waiting_not_settled Undelivered w = cc
waiting_not_settled Unanswered w = cc

pub out_not_settled : (s : Standing) → is_out s ≡ true → is_settled s ≡ false
out_not_settled Waiting o = cc
out_not_settled (Out k) o = refl
out_not_settled (Answered r) o = cc
out_not_settled Undelivered o = cc
out_not_settled Unanswered o = cc

settled_not_out : (s : Standing) → is_settled s ≡ true → is_out s ≡ false
settled_not_out Waiting o = cc
settled_not_out (Out k) o = cc
settled_not_out (Answered r) o = refl
settled_not_out Undelivered o = refl
settled_not_out Unanswered o = refl

settled_not_waiting : (s : Standing) → is_settled s ≡ true → is_waiting s ≡ false
settled_not_waiting Waiting o = cc
settled_not_waiting (Out k) o = cc
settled_not_waiting (Answered r) o = refl
settled_not_waiting Undelivered o = refl
settled_not_waiting Unanswered o = refl

cleared_out : (s : Standing) → is_out (cleared s) ≡ is_out s
cleared_out Waiting = refl
cleared_out (Out k) = refl
cleared_out (Answered r) = refl
cleared_out Undelivered = refl
cleared_out Unanswered = refl

cleared_not_waiting : (s : Standing) → is_waiting (cleared s) ≡ false
cleared_not_waiting Waiting = refl
cleared_not_waiting (Out k) = refl
cleared_not_waiting (Answered r) = refl
cleared_not_waiting Undelivered = refl
cleared_not_waiting Unanswered = refl

cleared_unsettled : (s : Standing) → not (is_settled (cleared s)) ≡ is_out s
cleared_unsettled Waiting = refl
cleared_unsettled (Out k) = refl
cleared_unsettled (Answered r) = refl
cleared_unsettled Undelivered = refl
cleared_unsettled Unanswered = refl

and-both : (a b : Bool) → (a && b) ≡ true → (a ≡ true) × (b ≡ true)
and-both true b e = (refl, e)
and-both false b e = let f : false ≡ true = e in let g : ⊥ = cc in absurd g

and-first : (a b : Bool) → a ≡ false → (a && b) ≡ false
and-first a b e = ap (λ x. x && b) e

same-byte : (b : ℕ) → (b == b) ≡ true
same-byte b = grind (arith, nat_tests)

-- ---- the sources

pub waits-grown : (sources : List Source) (s : Source) (b : ℕ) → s.waiting.items ≡ [] → waiting_at (sources ++ s ∷ []) b ≡ waiting_at sources b
waits-grown [] s zero e = e
waits-grown [] s (suc b) e = refl
waits-grown (x ∷ sources) s zero e = refl
waits-grown (x ∷ sources) s (suc b) e = waits-grown sources s b e

pub outs-grown : (sources : List Source) (s : Source) (b : ℕ) → s.out ≡ 0 → out_at (sources ++ s ∷ []) b ≡ out_at sources b
outs-grown [] s zero e = e
outs-grown [] s (suc b) e = refl
outs-grown (x ∷ sources) s zero e = refl
outs-grown (x ∷ sources) s (suc b) e = outs-grown sources s b e

pub waits-past : (sources : List Source) (b : ℕ) → length sources ≤ b → waiting_at sources b ≡ []
waits-past [] b past = refl
waits-past (x ∷ sources) zero past = absurd (omega arith)
waits-past (x ∷ sources) (suc b) past = waits-past sources b (omega arith)

pub queue-none : (q : Queue) → q.out.items ≡ [] → q.unsettled ≡ 0 → q.sources.items ≡ [] → IsQueue [] q
queue-none q out unsettled sources =
    record {
      out = out;
      unsettled = unsettled;
      waits = λ b. ap (λ s. waiting_at s b) sources;
      outs = λ b. ap (λ s. out_at s b) sources;
      listed = λ b _. ap (λ s. waiting_at s b) sources;
    }

-- ---- a command that is settled

pub out-here : (cs : List Issued) (q : Queue) (p k : ℕ) (r : Issued) → IsQueue cs q → slice_get cs p ≡ Some r → slice_get q.out.items k ≡ Some p → is_out r.standing ≡ true
out-here cs q p k r is at there = At-is cs p r (λ c. out_now c ≡ true) at (places-pass out_now cs p k (sym (ap (λ ps. slice_get ps k) is.out) ∙ there))

lost : (cs : List Issued) (t : Issued → Bool) (p : ℕ) (r : Issued) → slice_get cs p ≡ Some r → t r ≡ true → ((c : Issued) → t (record c { standing = Undelivered }) ≡ false) → 0 < count_by t cs
lost cs t p r at passes fails =
    let e : count_by t (restated cs p Undelivered) + 1 ≡ count_by t cs = count-loses t cs p Undelivered (within-at cs p r at) (At-known cs p r (λ c. t c ≡ true) at passes) (λ c _. fails c) in
    omega arith

-- one that is out may be settled
pub may-settle : (cs : List Issued) (q : Queue) (p k : ℕ) (r : Issued) → IsQueue cs q → slice_get cs p ≡ Some r → slice_get q.out.items k ≡ Some p → (0 < out_at q.sources.items (source_of r)) × (0 < q.unsettled)
may-settle cs q p k r is at there =
    let out : is_out r.standing ≡ true = out-here cs q p k r is at there in
    let outs : 0 < count_out_of (source_of r) cs = lost cs (λ c. is_out c.standing && (source_of c == source_of r)) p r at (ap (λ b. b && (source_of r == source_of r)) out ∙ same-byte (source_of r)) (λ c. refl) in
    let unsettled : 0 < count_by is_unsettled cs = lost cs is_unsettled p r at (ap not (out_not_settled r.standing out)) (λ c. refl) in
    (subst (λ n. 0 < n) (sym (is.outs (source_of r))) outs, subst (λ n. 0 < n) (sym is.unsettled) unsettled)

count-settled : (cs : List Issued) (p : ℕ) (r : Issued) (s : Standing) (b : ℕ) (same : Bool) → slice_get cs p ≡ Some r → is_out r.standing ≡ true → is_settled s ≡ true → (source_of r == b) ≡ same →
    cond same (count_out_of b cs - 1) (count_out_of b cs) ≡ count_out_of b (restated cs p s)
count-settled cs p r s b true at out settled e =
    let fewer : count_out_of b (restated cs p s) + 1 ≡ count_out_of b cs =
    count-loses (λ c. is_out c.standing && (source_of c == b)) cs p s (within-at cs p r at) (At-known cs p r (λ c. (is_out c.standing && (source_of c == b)) ≡ true) at (ap (λ x. x && (source_of r == b)) out ∙ e))
    (λ c _. and-first (is_out s) (source_of c == b) (settled_not_out s settled)) in
    omega arith
count-settled cs p r s b false at out settled e =
    sym
    (count-same (λ c. is_out c.standing && (source_of c == b)) cs p s
    (At-known cs p r (λ c. (is_out s && (source_of c == b)) ≡ (is_out c.standing && (source_of c == b))) at
    (and-first (is_out s) (source_of r == b) (settled_not_out s settled) ∙ sym (ap (λ x. x && (source_of r == b)) out ∙ e))))

-- what is kept after one that was out was settled
pub queue-settled : (cs : List Issued) (q q' : Queue) (p k : ℕ) (r : Issued) (s : Standing) → IsQueue cs q → slice_get cs p ≡ Some r → slice_get q.out.items k ≡ Some p → is_settled s ≡ true →
    q'.out.items ≡ remove q.out.items k → q'.unsettled + 1 ≡ q.unsettled → ((b : ℕ) → waiting_at q'.sources.items b ≡ waiting_at q.sources.items b) →
    ((b : ℕ) → out_at q'.sources.items b ≡ cond (source_of r == b) (out_at q.sources.items b - 1) (out_at q.sources.items b)) → q'.used.items ≡ q.used.items → IsQueue (restated cs p s) q'
queue-settled cs q q' p k r s is at there settled out unsettled waits outs used =
    let was : is_out r.standing ≡ true = out-here cs q p k r is at there in
    let fewer : count_by is_unsettled (restated cs p s) + 1 ≡ count_by is_unsettled cs =
    count-loses is_unsettled cs p s (within-at cs p r at) (At-known cs p r (λ c. is_unsettled c ≡ true) at (ap not (out_not_settled r.standing was))) (λ c _. ap not settled) in
    let before : q.unsettled ≡ count_by is_unsettled cs = is.unsettled in
    record {
      out =
          out
          ∙ ap (λ ps. remove ps k) is.out
          ∙ sym (places-removed out_now cs p k s (sym (ap (λ ps. slice_get ps k) is.out) ∙ there) (λ c _. settled_not_out s settled));
      unsettled = omega arith;
      waits = λ b.
          waits b
          ∙ is.waits b
          ∙ sym
          (places-same (waits_of b) cs p s
          (At-known cs p r (λ c. (is_waiting s && (source_of c == b)) ≡ (is_waiting c.standing && (source_of c == b))) at
          (and-first (is_waiting s) (source_of r == b) (settled_not_waiting s settled) ∙ sym (and-first (is_waiting r.standing) (source_of r == b) (out_not_waiting r.standing was)))));
      outs = λ b. outs b ∙ ap (λ n. cond (source_of r == b) (n - 1) n) (is.outs b) ∙ count-settled cs p r s b (source_of r == b) at was settled refl;
      listed = λ b unlisted. waits b ∙ is.listed b (sym (ap (λ us. is_listed us b) used) ∙ unlisted);
    }

-- ---- a command that goes on standing alike

pub queue-alike : (cs : List Issued) (q : Queue) (p : ℕ) (s : Standing) → IsQueue cs q → At cs p (λ c. is_out s ≡ is_out c.standing) → At cs p (λ c. is_waiting s ≡ is_waiting c.standing) → At cs p (λ c. is_settled s ≡ is_settled c.standing) → IsQueue (restated cs p s) q
queue-alike cs q p s is out waiting settled =
    record {
      out = is.out ∙ sym (places-same out_now cs p s out);
      unsettled = is.unsettled ∙ sym (count-same is_unsettled cs p s (λ c e. ap not (settled c e)));
      waits = λ b. is.waits b ∙ sym (places-same (waits_of b) cs p s (λ c e. ap (λ x. x && (source_of c == b)) (waiting c e)));
      outs = λ b. is.outs b ∙ sym (count-same (λ c. is_out c.standing && (source_of c == b)) cs p s (λ c e. ap (λ x. x && (source_of c == b)) (out c e)));
      listed = is.listed;
    }

-- ---- a command more

push-one : (cs : List Issued) (r : Issued) (t : Issued → Bool) (n : ℕ) → n ≡ count_by t cs → t r ≡ true → n + 1 ≡ count_by t (cs ++ r ∷ [])
push-one cs r t n e passes = ap (λ m. m + 1) e ∙ ap (λ (b : Bool). count_by t cs + cond b 1 0) (sym passes) ∙ sym (sum_by_push (λ c. cond (t c) 1 0) cs r)

push-none : (cs : List Issued) (r : Issued) (t : Issued → Bool) → t r ≡ false → count_by t cs ≡ count_by t (cs ++ r ∷ [])
push-none cs r t fails =
    (let f : count_by t cs ≡ count_by t cs + 0 = omega arith in f) ∙ ap (λ (b : Bool). count_by t cs + cond b 1 0) (sym fails) ∙ sym (sum_by_push (λ c. cond (t c) 1 0) cs r)

listed-either : (same : Bool) (source b : ℕ) (used : List ℕ) (xs ys : List ℕ) → (source == b) ≡ same → is_listed used source ≡ true → is_listed used b ≡ false → ys ≡ [] → cond same xs ys ≡ []
listed-either true source b used xs ys e known unlisted none =
    let f : true ≡ false = sym known ∙ ap (is_listed used) (eqb-true source b e) ∙ unlisted in let g : ⊥ = cc in absurd g
listed-either false source b used xs ys e known unlisted none = none

pub queue-pushed : (cs : List Issued) (q q' : Queue) (r : Issued) → IsQueue cs q → is_waiting r.standing ≡ true → is_listed q'.used.items (source_of r) ≡ true →
    q'.out.items ≡ q.out.items → q'.unsettled ≡ q.unsettled + 1 →
    ((b : ℕ) → waiting_at q'.sources.items b ≡ cond (source_of r == b) (waiting_at q.sources.items b ++ length cs ∷ []) (waiting_at q.sources.items b)) →
    ((b : ℕ) → out_at q'.sources.items b ≡ out_at q.sources.items b) → ((b : ℕ) → is_listed q'.used.items b ≡ false → is_listed q.used.items b ≡ false) → IsQueue (cs ++ r ∷ []) q'
queue-pushed cs q q' r is waiting known out unsettled waits outs listed =
    let not_out : is_out r.standing ≡ false = waiting_not_out r.standing waiting in
    record {
      out = out ∙ is.out ∙ sym (places-push out_now cs r ∙ ap (λ (b : Bool). cond b (places out_now cs ++ length cs ∷ []) (places out_now cs)) not_out);
      unsettled = unsettled ∙ push-one cs r is_unsettled q.unsettled is.unsettled (ap not (waiting_not_settled r.standing waiting));
      waits = λ b.
          waits b
          ∙ ap (λ ps. cond (source_of r == b) (ps ++ length cs ∷ []) ps) (is.waits b)
          ∙ sym
          (places-push (waits_of b) cs r
          ∙ ap (λ (w : Bool). cond (w && (source_of r == b)) (places (waits_of b) cs ++ length cs ∷ []) (places (waits_of b) cs)) waiting);
      outs = λ b. outs b ∙ is.outs b ∙ push-none cs r (λ c. is_out c.standing && (source_of c == b)) (and-first (is_out r.standing) (source_of r == b) not_out);
      listed = λ b unlisted. waits b ∙ listed-either (source_of r == b) (source_of r) b q'.used.items (waiting_at q.sources.items b ++ length cs ∷ []) (waiting_at q.sources.items b) refl known unlisted (is.listed b (listed b unlisted));
    }

-- ---- a command that is handed out

count-handed : (cs : List Issued) (p : ℕ) (r : Issued) (left b : ℕ) (same : Bool) → slice_get cs p ≡ Some r → is_waiting r.standing ≡ true → (source_of r == b) ≡ same →
    cond same (count_out_of b cs + 1) (count_out_of b cs) ≡ count_out_of b (restated cs p (Out left))
count-handed cs p r left b true at waiting e =
    sym
    (count-gains (λ c. is_out c.standing && (source_of c == b)) cs p (Out left) (within-at cs p r at)
    (At-known cs p r (λ c. (is_out c.standing && (source_of c == b)) ≡ false) at (and-first (is_out r.standing) (source_of r == b) (waiting_not_out r.standing waiting)))
    (At-known cs p r (λ c. (source_of c == b) ≡ true) at e))
count-handed cs p r left b false at waiting e =
    sym
    (count-same (λ c. is_out c.standing && (source_of c == b)) cs p (Out left)
    (At-known cs p r (λ c. (source_of c == b) ≡ (is_out c.standing && (source_of c == b))) at (e ∙ sym (and-first (is_out r.standing) (source_of r == b) (waiting_not_out r.standing waiting)))))

waits-handed : (cs : List Issued) (p : ℕ) (r : Issued) (left b : ℕ) (same : Bool) → slice_get cs p ≡ Some r → is_waiting r.standing ≡ true → position (waits_of (source_of r)) cs ≡ Some p → (source_of r == b) ≡ same →
    cond same (drop 1 (places (waits_of b) cs)) (places (waits_of b) cs) ≡ places (waits_of b) (restated cs p (Out left))
waits-handed cs p r left b true at waiting first e =
    let is_b : source_of r ≡ b = eqb-true (source_of r) b e in
    sym (places-removed (waits_of b) cs p 0 (Out left) (sym (position-first (waits_of b) cs) ∙ ap (λ x. position (waits_of x) cs) (sym is_b) ∙ first) (λ c _. refl))
waits-handed cs p r left b false at waiting first e =
    sym
    (places-same (waits_of b) cs p (Out left)
    (At-known cs p r (λ c. false ≡ (is_waiting c.standing && (source_of c == b))) at (sym (ap (λ x. x && (source_of r == b)) waiting ∙ e))))

none-either : (same : Bool) (xs : List ℕ) → xs ≡ [] → cond same (drop 1 xs) xs ≡ []
none-either true xs e = ap (drop 1) e
none-either false xs e = e

pub queue-handed : (cs : List Issued) (q q' : Queue) (p left : ℕ) (r : Issued) → IsQueue cs q → slice_get cs p ≡ Some r → is_waiting r.standing ≡ true → position (waits_of (source_of r)) cs ≡ Some p →
    q'.out.items ≡ inserted p q.out.items → q'.unsettled ≡ q.unsettled →
    ((b : ℕ) → waiting_at q'.sources.items b ≡ cond (source_of r == b) (drop 1 (waiting_at q.sources.items b)) (waiting_at q.sources.items b)) →
    ((b : ℕ) → out_at q'.sources.items b ≡ cond (source_of r == b) (out_at q.sources.items b + 1) (out_at q.sources.items b)) → q'.used.items ≡ q.used.items → IsQueue (restated cs p (Out left)) q'
queue-handed cs q q' p left r is at waiting first out unsettled waits outs used =
    record {
      out =
          out
          ∙ ap (inserted p) is.out
          ∙ sym (places-inserted out_now cs p (Out left) (within-at cs p r at) (At-known cs p r (λ c. out_now c ≡ false) at (waiting_not_out r.standing waiting)) (λ c _. refl));
      unsettled =
          unsettled ∙ is.unsettled ∙ sym (count-same is_unsettled cs p (Out left) (At-known cs p r (λ c. true ≡ is_unsettled c) at (sym (ap not (waiting_not_settled r.standing waiting)))));
      waits = λ b. waits b ∙ ap (λ ps. cond (source_of r == b) (drop 1 ps) ps) (is.waits b) ∙ waits-handed cs p r left b (source_of r == b) at waiting first refl;
      outs = λ b. outs b ∙ ap (λ n. cond (source_of r == b) (n + 1) n) (is.outs b) ∙ count-handed cs p r left b (source_of r == b) at waiting refl;
      listed = λ b unlisted. waits b ∙ none-either (source_of r == b) (waiting_at q.sources.items b) (is.listed b (sym (ap (λ us. is_listed us b) used) ∙ unlisted));
    }

-- ---- what waits is given up

pub queue-cleared : (cs : List Issued) (q q' : Queue) → IsQueue cs q → q'.out.items ≡ q.out.items → q'.unsettled ≡ length q.out.items → ((b : ℕ) → waiting_at q'.sources.items b ≡ []) →
    ((b : ℕ) → out_at q'.sources.items b ≡ out_at q.sources.items b) → IsQueue (all_cleared cs) q'
queue-cleared cs q q' is out unsettled waits outs =
    let clear : Issued → Issued = λ c. record c { standing = cleared c.standing } in
    record {
      out = out ∙ is.out ∙ sym (places-map clear out_now out_now cs (λ c. cleared_out c.standing));
      unsettled = unsettled ∙ ap length is.out ∙ sym (count-places out_now cs) ∙ sym (count-map clear is_unsettled out_now cs (λ c. cleared_unsettled c.standing));
      waits = λ b. waits b ∙ sym (places-none cs) ∙ sym (places-map clear (waits_of b) (λ c. false) cs (λ c. and-first (is_waiting (cleared c.standing)) (source_of c == b) (cleared_not_waiting c.standing)));
      outs = λ b.
          outs b
          ∙ is.outs b
          ∙ sym (count-map clear (λ c. is_out c.standing && (source_of c == b)) (λ c. is_out c.standing && (source_of c == b)) cs (λ c. ap (λ x. x && (source_of c == b)) (cleared_out c.standing)));
      listed = λ b _. waits b;
    }
