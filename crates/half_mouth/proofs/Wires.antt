-- What an end gave, with what is left of it, is right items; each transmission has its number and its body.
use Rattle.std.proofs.Common.{◌≡◌, ◌≢◌, ℕ, zero, suc, ◌+◌, ◌-◌, ◌^◌, ◌<◌, ◌≤◌, Bool, true, false, List, [], ◌∷◌, ◌++◌, length, min, map, Option, Some, None, refl, sym, ap, subst, ◌∙◌, append_assoc, arith, length-append, inl, inr}
use Rattle.std.specs.Prelude.{option_to_list, slice_get, ◌⊎◌, ◌==◌, if◌then◌else◌}
use Rattle.std.specs.List.{last_or}
use Rattle.std.proofs.lemmas.List.{append-nil, map-append}
use Rattle.std.proofs.lemmas.List.Elements.{filter_map-append}
use Rattle.std.proofs.lemmas.Bool.Decides.{nat_tests}
use Rattle.df1_base.specs.declared.link.Out.{Out}
use Rattle.df1_frame.specs.Line.{Grammar}
use Rattle.df1_frame.specs.Wire.{IsLast}
use Rattle.df1_frame.proofs.LineLemmas.{Machine, Works}
use Rattle.df1_frame.proofs.Sendings.{Sends, nothing as sends-nothing, takes_up, sends}
use Rattle.half_frame.specs.declared.framer.Sent.{Sent}
use Rattle.half_frame.specs.Spelling.{bytes_of}
use Rattle.half_frame.specs.Wire.{Rights, AreRightBytes}
use Rattle.half_frame.proofs.WireLemmas.{Gives, MayEnd, gives-none, gives-begun, gives-byte, gives-right, AreSingle}
use Rattle.half_mouth.specs.Giving.{Giving, nothing, one_more, transmit, give, is_done, out_of, taken, take}
use Rattle.half_mouth.specs.Transmissions.{bytes_given, numbers_ended, counted_to, last_body, with_again, count_of, transmission_at}

-- ---- the last of a list

last-push : (o : Option (List ℕ)) (xs : List (List ℕ)) (x : List ℕ) → last_or o (xs ++ x ∷ []) ≡ Some x
last-push o [] x = refl
last-push o (y ∷ xs) x = last-push (Some y) xs x

last-is : (xs : List (List ℕ)) (x : List ℕ) → IsLast xs x → last_or None xs ≡ Some x
last-is xs x last = ap (last_or None) last.1 ∙ last-push None last.0 x

last_body-push : (xs : List (List ℕ)) (x : List ℕ) → last_body (xs ++ x ∷ []) ≡ x
last_body-push xs x = rw (last-push None xs x) refl

again-is : (xs : List (List ℕ)) (x : List ℕ) → IsLast xs x → with_again xs ≡ xs ++ x ∷ []
again-is xs x last = rw (last-is xs x last) refl

same-last : (xs ys : List (List ℕ)) (x y : List ℕ) → xs ++ x ∷ [] ≡ ys ++ y ∷ [] → x ≡ y
same-last xs ys x y same =
    let is : Some x ≡ Some y = sym (last-push None xs x) ∙ ap (last_or None) same ∙ last-push None ys y in cc

-- the last one is sent again
sent-again : (sent messages : List (List ℕ)) (x : List ℕ) (all : Bool) → Sends sent messages all → all ≡ true → IsLast sent x → Sends (sent ++ x ∷ []) messages true
sent-again sent messages x all sends-nothing now last = absurd (let long = ap length last.1 ∙ length-append last.0 (x ∷ []) in omega (arith, long))
sent-again sent messages x all (takes_up some before message h) now last = absurd cc
sent-again sent messages x all (sends some before message was h) now last =
    let same : message ≡ x = same-last some last.0 message x last.1 in
    subst (λ (y : List ℕ). Sends ((some ++ message ∷ []) ++ y ∷ []) (before ++ message ∷ []) true) same
    (sends (some ++ message ∷ []) before message true (sends some before message was h))

get-push : (xs : List (List ℕ)) (x : List ℕ) → slice_get (xs ++ x ∷ []) (length xs) ≡ Some x
get-push [] x = refl
get-push (y ∷ xs) x = get-push xs x

-- transmission n is the last one, where the count didn't stop
last-transmission : (xs : List (List ℕ)) (x : List ℕ) (n : ℕ) → IsLast xs x → n ≡ count_of xs → length xs < 2 ^ 64 → transmission_at xs n ≡ Some x
last-transmission xs x zero last is few =
    absurd (let long = ap length last.1 ∙ length-append last.0 (x ∷ []) in omega (arith, long, is, few))
last-transmission xs x (suc n) last is few =
    let long = ap length last.1 ∙ length-append last.0 (x ∷ []) in
    let place : n ≡ length last.0 = omega (arith, long, is, few) in
    ap (λ (l : List (List ℕ)). slice_get l n) last.1 ∙ ap (slice_get (last.0 ++ x ∷ [])) place ∙ get-push last.0 x

count-more : (xs : List (List ℕ)) (x : List ℕ) (begun : ℕ) → begun ≡ count_of xs → one_more begun ≡ count_of (xs ++ x ∷ [])
count-more xs x begun is = let long = length-append xs (x ∷ []) in omega (arith, is, long)

-- ---- what is given

pub done-left : (left : List Sent) → (length left == 0) ≡ true → bytes_of left ≡ []
done-left [] done = refl
done-left (x ∷ left) done = absurd (grind (arith, nat_tests))

pub some-left : (x : Sent) (more : List Sent) → (length (x ∷ more) == 0) ≡ false
some-left x more = grind (arith, nat_tests)

-- so many transmissions have come to their end: all but one that is being given
abbrev pub ended_in : Option ℕ → List Sent → ℕ → ℕ
ended_in None left begun = begun
ended_in (Some n) [] begun = begun
ended_in (Some n) (x ∷ left) begun = begun - 1

abbrev pub ended_of : Giving → ℕ
ended_of g = ended_in g.number g.left g.begun

-- the messages that were taken up and their transmissions so far, what was given, and what is left: of a message that is held, and of a transmission that was begun, the last one is it
pub record Wires (G : Grammar) (M : Machine G) (rights : Rights G) (messages sent : List (List ℕ)) (outs : List Out) (g : Giving) (holds : Bool) (sending : List ℕ) : Type 0 where
  pub gives : Gives G M rights sent (bytes_given outs) (bytes_of g.left)
  pub sendings : Sends sent messages true
  pub begun : g.begun ≡ count_of sent
  pub number : (n : ℕ) → g.number ≡ Some n → (n ≡ g.begun) × IsLast sent sending
  pub sending_is : sending ≡ last_body sent
  pub held : holds ≡ true → IsLast sent sending
  pub ended : length sent < 2 ^ 64 → numbers_ended outs ≡ counted_to (ended_of g)

pub wires-none : (G : Grammar) (M : Machine G) (w : Works G M) (rights : Rights G) → Wires G M rights [] [] [] nothing false []
wires-none G M w rights = record {
  gives = gives-none G M w rights;
  sendings = sends-nothing;
  begun = omega arith;
  number = λ n is. absurd cc;
  sending_is = refl;
  held = λ holds. absurd cc;
  ended = λ few. refl;
}

-- nothing is left
abbrev pub IsOver : Giving → Type 0
IsOver g = bytes_of g.left ≡ []

over-gives : (G : Grammar) (M : Machine G) (rights : Rights G) (messages sent : List (List ℕ)) (outs : List Out) (g : Giving) (holds : Bool) (sending : List ℕ) → IsOver g → Wires G M rights messages sent outs g holds sending → Gives G M rights sent (bytes_given outs) []
over-gives G M rights messages sent outs g holds sending over w = subst (λ (l : List ℕ). Gives G M rights sent (bytes_given outs) l) over w.gives

over-left : (left : List Sent) (number : Option ℕ) (begun : ℕ) → bytes_of left ≡ [] → ended_in number left begun ≡ begun
over-left [] None begun over = refl
over-left [] (Some n) begun over = refl
over-left (x ∷ left) number begun over = absurd cc

over-ended : (g : Giving) → IsOver g → ended_of g ≡ g.begun
over-ended g over = over-left g.left g.number g.begun over

one-less : (begun : ℕ) (sent : List (List ℕ)) (body : List ℕ) → begun ≡ count_of sent → length (sent ++ body ∷ []) < 2 ^ 64 → one_more begun - 1 ≡ begun
one-less begun sent body is few = let more = length-append sent (body ∷ []) in omega (arith, is, more, few)

-- a transmission that is begun hasn't ended
ended-begun : (outs : List Out) (sent : List (List ℕ)) (body : List ℕ) (g : Giving) (bits : List Sent) → g.begun ≡ count_of sent → IsOver g → bytes_of bits ≢ [] → length (sent ++ body ∷ []) < 2 ^ 64 → numbers_ended outs ≡ counted_to (ended_of g)
    → numbers_ended outs ≡ counted_to (ended_of (transmit g bits))
ended-begun outs sent body g [] is over some few ended = absurd (some refl)
ended-begun outs sent body g (x ∷ bits) is over some few ended = ended ∙ ap counted_to (over-ended g over ∙ sym (one-less g.begun sent body is few))

-- a message is begun
pub wires-message : (G : Grammar) (M : Machine G) (rights : Rights G) (messages sent : List (List ℕ)) (outs : List Out) (g : Giving) (holds now : Bool) (sending : List ℕ) (item : G.Item) (body : List ℕ) (bits : List Sent)
    → rights.IsRight item → rights.bodies_at item ≡ body ∷ [] → G.item_bytes item ≡ bytes_of bits → bytes_of bits ≢ [] → IsOver g
    → Wires G M rights messages sent outs g holds sending → Wires G M rights (messages ++ body ∷ []) (sent ++ body ∷ []) outs (transmit g bits) now body
wires-message G M rights messages sent outs g holds now sending item body bits good of_it whole some over w = record {
  gives = subst (λ (l : List (List ℕ)). Gives G M rights (sent ++ l) (bytes_given outs) (bytes_of bits)) of_it
      (gives-begun G M rights sent (bytes_given outs) (bytes_of bits) item good some whole (over-gives G M rights messages sent outs g holds sending over w));
  sendings = sends sent messages body false (takes_up sent messages body w.sendings);
  begun = count-more sent body g.begun w.begun;
  number = λ n is. (let same : Some (one_more g.begun) ≡ Some n = is in cc, (sent, refl));
  sending_is = sym (last_body-push sent body);
  held = λ h. (sent, refl);
  ended = λ few. ended-begun outs sent body g bits w.begun over some few (w.ended (let more = length-append sent (body ∷ []) in omega (arith, more, few)));
}

-- the last one is begun again
pub wires-again : (G : Grammar) (M : Machine G) (rights : Rights G) (messages sent : List (List ℕ)) (outs : List Out) (g : Giving) (holds now : Bool) (sending : List ℕ) (item : G.Item) (bits : List Sent)
    → rights.IsRight item → rights.bodies_at item ≡ sending ∷ [] → G.item_bytes item ≡ bytes_of bits → bytes_of bits ≢ [] → IsOver g → IsLast sent sending
    → Wires G M rights messages sent outs g holds sending → Wires G M rights messages (with_again sent) outs (transmit g bits) now sending
wires-again G M rights messages sent outs g holds now sending item bits good of_it whole some over last w =
    subst (λ (l : List (List ℕ)). Wires G M rights messages l outs (transmit g bits) now sending) (sym (again-is sent sending last)) (record {
      gives = subst (λ (l : List (List ℕ)). Gives G M rights (sent ++ l) (bytes_given outs) (bytes_of bits)) of_it
          (gives-begun G M rights sent (bytes_given outs) (bytes_of bits) item good some whole (over-gives G M rights messages sent outs g holds sending over w));
      sendings = sent-again sent messages sending true w.sendings refl last;
      begun = count-more sent sending g.begun w.begun;
      number = λ n is. (let same : Some (one_more g.begun) ≡ Some n = is in cc, (sent, refl));
      sending_is = sym (last_body-push sent sending);
      held = λ h. (sent, refl);
      ended = λ few. ended-begun outs sent sending g bits w.begun over some few (w.ended (let more = length-append sent (sending ∷ []) in omega (arith, more, few)));
    })

-- another item is begun
pub wires-other : (G : Grammar) (M : Machine G) (rights : Rights G) (messages sent : List (List ℕ)) (outs : List Out) (g : Giving) (holds : Bool) (sending : List ℕ) (item : G.Item) (bits : List Sent)
    → rights.IsRight item → rights.bodies_at item ≡ [] → G.item_bytes item ≡ bytes_of bits → bytes_of bits ≢ [] → IsOver g
    → Wires G M rights messages sent outs g holds sending → Wires G M rights messages sent outs (give g bits) holds sending
wires-other G M rights messages sent outs g holds sending item bits good of_it whole some over w = record {
  gives = subst (λ (l : List (List ℕ)). Gives G M rights l (bytes_given outs) (bytes_of bits)) (ap (λ (l : List (List ℕ)). sent ++ l) of_it ∙ append-nil sent)
      (gives-begun G M rights sent (bytes_given outs) (bytes_of bits) item good some whole (over-gives G M rights messages sent outs g holds sending over w));
  sendings = w.sendings;
  begun = w.begun;
  number = λ n is. absurd cc;
  sending_is = w.sending_is;
  held = w.held;
  ended = λ few. w.ended few ∙ ap counted_to (over-ended g over);
}

-- a message is held no more
pub wires-held : (G : Grammar) (M : Machine G) (rights : Rights G) (messages sent : List (List ℕ)) (outs : List Out) (g : Giving) (holds now : Bool) (sending : List ℕ) → (now ≡ true → holds ≡ true)
    → Wires G M rights messages sent outs g holds sending → Wires G M rights messages sent outs g now sending
wires-held G M rights messages sent outs g holds now sending only w =
    record { gives = w.gives; sendings = w.sendings; begun = w.begun; number = w.number; sending_is = w.sending_is; held = λ h. w.held (only h); ended = w.ended }

-- no transmission ends at a byte that isn't the last
none-ends : (outs : List Out) (out : Out) → out.last_of ≡ None → numbers_ended (outs ++ out ∷ []) ≡ numbers_ended outs
none-ends outs out none = filter_map-append (λ (o : Out). o.last_of) outs (out ∷ []) ∙ rw none (append-nil (numbers_ended outs))

one-ends : (outs : List Out) (out : Out) (n : ℕ) → out.last_of ≡ Some n → numbers_ended (outs ++ out ∷ []) ≡ numbers_ended outs ++ n ∷ []
one-ends outs out n is = filter_map-append (λ (o : Out). o.last_of) outs (out ∷ []) ∙ rw is refl

counted-last : (n : ℕ) → 1 ≤ n → counted_to n ≡ counted_to (n - 1) ++ n ∷ []
counted-last zero some = absurd (omega arith)
counted-last (suc n) some = let before : suc n - 1 ≡ n = omega arith in rw before refl

-- the numbers that have ended, with a byte more
ended-more : (outs : List Out) (x : Sent) (left : List Sent) (number : Option ℕ) (begun : ℕ) → ((n : ℕ) → number ≡ Some n → (n ≡ begun) × (1 ≤ begun)) → numbers_ended outs ≡ counted_to (ended_in number (x ∷ left) begun)
    → numbers_ended (outs ++ out_of number x (length left == 0) ∷ []) ≡ counted_to (ended_in number left begun)
ended-more outs x [] None begun own is = none-ends outs (out_of None x true) refl ∙ is
ended-more outs x [] (Some n) begun own is =
    let now = own n refl in
    one-ends outs (out_of (Some n) x true) n refl ∙ ap (λ (l : List ℕ). l ++ n ∷ []) is ∙ ap (λ (m : ℕ). counted_to (begun - 1) ++ m ∷ []) now.0 ∙ sym (counted-last begun now.1)
ended-more outs x (y ∷ more) None begun own is =
    rw (some-left y more) (none-ends outs (out_of None x false) refl ∙ is)
ended-more outs x (y ∷ more) (Some n) begun own is =
    rw (some-left y more) (none-ends outs (out_of (Some n) x false) refl ∙ is)

last-some : (xs : List (List ℕ)) (x : List ℕ) (begun : ℕ) → IsLast xs x → begun ≡ count_of xs → 1 ≤ begun
last-some xs x begun last is = let long = ap length last.1 ∙ length-append last.0 (x ∷ []) in omega (arith, long, is)

-- a byte is given, if one is left
taken-wires : (G : Grammar) (M : Machine G) (w : Works G M) (rights : Rights G) (may : MayEnd G rights) (messages sent : List (List ℕ)) (outs : List Out) (left : List Sent) (number : Option ℕ) (begun : ℕ) (holds : Bool) (sending : List ℕ)
    → let g : Giving = record { left = left; number = number; begun = begun } in
    Wires G M rights messages sent outs g holds sending → Wires G M rights messages sent (outs ++ option_to_list (taken g left).1) (taken g left).0 holds sending
taken-wires G M w rights may messages sent outs [] number begun holds sending s = rw (append-nil outs) s
taken-wires G M w rights may messages sent outs (x ∷ left) number begun holds sending s =
    let out = out_of number x (length left == 0) in
    record {
      gives = subst (λ (l : List ℕ). Gives G M rights sent l (bytes_of left)) (sym (map-append (λ (o : Out). o.byte) outs (out ∷ []))) (gives-byte G M w rights may sent (bytes_given outs) x.byte (bytes_of left) s.gives);
      sendings = s.sendings;
      begun = s.begun;
      number = s.number;
      sending_is = s.sending_is;
      held = s.held;
      ended = λ few. ended-more outs x left number begun (λ n is. let own = s.number n is in (own.0, last-some sent sending begun own.1 s.begun)) (s.ended few);
    }

pub wires-take : (G : Grammar) (M : Machine G) (w : Works G M) (rights : Rights G) (may : MayEnd G rights) (messages sent : List (List ℕ)) (outs : List Out) (g : Giving) (holds : Bool) (sending : List ℕ)
    → Wires G M rights messages sent outs g holds sending → Wires G M rights messages sent (outs ++ option_to_list (take g).1) (take g).0 holds sending
wires-take G M w rights may messages sent outs g holds sending s = taken-wires G M w rights may messages sent outs g.left g.number g.begun holds sending s

pub wires-right : (G : Grammar) (M : Machine G) (w : Works G M) (rights : Rights G) (may : MayEnd G rights) (single : AreSingle G rights) (messages sent : List (List ℕ)) (outs : List Out) (g : Giving) (holds : Bool) (sending : List ℕ)
    → Wires G M rights messages sent outs g holds sending → AreRightBytes G rights messages (bytes_given outs)
wires-right G M w rights may single messages sent outs g holds sending s = gives-right G M w rights may single sent messages (bytes_given outs) (bytes_of g.left) s.gives s.sendings

-- ---- the number of a byte

-- the last byte of a transmission, or one that is by itself a byte of a body
abbrev pub IsOfNumber : Out → ℕ → Type 0
IsOfNumber out n = (out.last_of ≡ Some n) ⊎ (out.body_of ≡ Some n)

marked : (marks : Bool) (o : Option ℕ) (n : ℕ) → (if marks then o else None) ≡ Some n → o ≡ Some n
marked true o n is = is
marked false o n is = absurd cc

taken-number : (g : Giving) (left : List Sent) (out : Out) (n : ℕ) → (taken g left).1 ≡ Some out → IsOfNumber out n → g.number ≡ Some n
taken-number g [] out n is of_it = absurd cc
taken-number g (x ∷ left) out n is (inl last) = marked (length left == 0) g.number n (let same : out_of g.number x (length left == 0) ≡ out = cc in ap (λ (o : Out). o.last_of) same ∙ last)
taken-number g (x ∷ left) out n is (inr body) = marked x.of_body g.number n (let same : out_of g.number x (length left == 0) ≡ out = cc in ap (λ (o : Out). o.body_of) same ∙ body)

pub wires-number : (G : Grammar) (M : Machine G) (rights : Rights G) (messages sent : List (List ℕ)) (outs : List Out) (g : Giving) (holds : Bool) (sending : List ℕ) (out : Out) (n : ℕ) → (take g).1 ≡ Some out → IsOfNumber out n → length sent < 2 ^ 64
    → Wires G M rights messages sent outs g holds sending → transmission_at sent n ≡ Some sending
wires-number G M rights messages sent outs g holds sending out n is of_it few w =
    let both = w.number n (taken-number g g.left out n is of_it) in
    last-transmission sent sending n both.1 (both.0 ∙ w.begun) few

-- ---- the numbers of the last bytes

ended-either : (number : Option ℕ) (left : List Sent) (begun n : ℕ) → begun ≡ n → (ended_in number left begun ≡ n) ⊎ (ended_in number left begun ≡ n - 1)
ended-either None left begun n is = inl is
ended-either (Some m) [] begun n is = inl is
ended-either (Some m) (x ∷ left) begun n is = inr (ap (λ (k : ℕ). k - 1) is)

count-few : (sent : List (List ℕ)) (begun : ℕ) → begun ≡ count_of sent → length sent < 2 ^ 64 → begun ≡ length sent
count-few sent begun is few = omega (arith, is, few)

-- they are 1, 2, 3 and so on, up to the last transmission or the one before
pub wires-ended : (G : Grammar) (M : Machine G) (rights : Rights G) (messages sent : List (List ℕ)) (outs : List Out) (g : Giving) (holds : Bool) (sending : List ℕ) → length sent < 2 ^ 64 → Wires G M rights messages sent outs g holds sending
    → (numbers_ended outs ≡ counted_to (length sent)) ⊎ (numbers_ended outs ≡ counted_to (length sent - 1))
wires-ended G M rights messages sent outs g holds sending few w =
    elim (ended-either g.number g.left g.begun (length sent) (count-few sent g.begun w.begun few)) as (λ _. (numbers_ended outs ≡ counted_to (length sent)) ⊎ (numbers_ended outs ≡ counted_to (length sent - 1))) [
      | inl all ↦ inl (w.ended few ∙ ap counted_to all)
      | inr but ↦ inr (w.ended few ∙ ap counted_to but)
    ]
