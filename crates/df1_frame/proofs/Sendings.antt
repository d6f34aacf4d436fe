-- Messages that are taken up one after another and sent whole, one at a time.
use Rattle.std.proofs.Common.{◌≡◌, ℕ, zero, suc, ◌+◌, ◌≤◌, Bool, true, false, List, [], ◌∷◌, ◌++◌, length, refl, sym, ap, ◌∙◌, append_assoc, arith, length-append}
use Rattle.std.specs.Prelude.{replicate}
use Rattle.std.proofs.lemmas.List.{append-nil}
use Rattle.df1_frame.specs.Wire.{repeated, AllButLastSent, AreSendingsOf}

-- the bodies that were sent of the messages that were taken up, and whether the last of these was sent
pub data Sends : List (List ℕ) → List (List ℕ) → Bool → Type 0 where
  nothing : Sends [] [] true
  takes_up : (bodies messages : List (List ℕ)) (message : List ℕ) → Sends bodies messages true → Sends bodies (messages ++ message ∷ []) false
  sends : (bodies messages : List (List ℕ)) (message : List ℕ) (sent : Bool) → Sends bodies (messages ++ message ∷ []) sent → Sends (bodies ++ message ∷ []) (messages ++ message ∷ []) true

abbrev AllSent : List ℕ → Type 0
AllSent [] = Unit {0}
AllSent (n ∷ times) = (1 ≤ n) × AllSent times

record Timed (bodies messages : List (List ℕ)) (sent : Bool) : Type 0 where
  times : List ℕ
  as_many : length times ≡ length messages
  but_last : AllButLastSent times
  once : sent ≡ true → AllSent times
  are : bodies ≡ repeated times messages

-- ---- the last of the times

record Cut (times : List ℕ) : Type 0 where
  front : List ℕ
  last : ℕ
  is : times ≡ front ++ last ∷ []

cut : (k : ℕ) (times : List ℕ) → length times ≡ k + 1 → Cut times
cut k [] e = absurd (omega arith)
cut k (n ∷ []) e = record { front = []; last = n; is = refl }
cut k (n ∷ next ∷ times) e =
    let rest = cut (length times) (next ∷ times) (omega arith) in
    record { front = n ∷ rest.front; last = rest.last; is = ap (λ (l : List ℕ). n ∷ l) rest.is }

sent-front : (front : List ℕ) (last : ℕ) → AllButLastSent (front ++ last ∷ []) → AllSent front
sent-front [] last h = tt
sent-front (n ∷ []) last h = (h.0, tt)
sent-front (n ∷ next ∷ front) last h = (h.0, sent-front (next ∷ front) last h.1)

sent-more : (front : List ℕ) (last : ℕ) → AllSent front → 1 ≤ last → AllSent (front ++ last ∷ [])
sent-more [] last h some = (some, tt)
sent-more (n ∷ front) last h some = (h.0, sent-more front last h.1 some)

but-more : (front : List ℕ) (last : ℕ) → AllSent front → AllButLastSent (front ++ last ∷ [])
but-more [] last h = tt
but-more (n ∷ []) last h = (h.0, tt)
but-more (n ∷ next ∷ front) last h = (h.0, but-more (next ∷ front) last h.1)

repeated-more : (front : List ℕ) (last : ℕ) (messages : List (List ℕ)) (message : List ℕ) → length front ≡ length messages
    → repeated (front ++ last ∷ []) (messages ++ message ∷ []) ≡ repeated front messages ++ replicate last message
repeated-more [] last [] message e = append-nil (replicate last message)
repeated-more [] last (m ∷ messages) message e = absurd (omega arith)
repeated-more (n ∷ front) last [] message e = absurd (omega arith)
repeated-more (n ∷ front) last (m ∷ messages) message e =
    ap (λ (l : List (List ℕ)). replicate n m ++ l) (repeated-more front last messages message (omega arith)) ∙ sym (append_assoc (replicate n m) (repeated front messages) (replicate last message))

replicate-more : (n : ℕ) (message : List ℕ) → replicate (suc n) message ≡ replicate n message ++ message ∷ []
replicate-more zero message = refl
replicate-more (suc n) message = ap (λ (l : List (List ℕ)). message ∷ l) (replicate-more n message)

-- ---- one step

timed-up : (bodies messages : List (List ℕ)) (message : List ℕ) → Timed bodies messages true → Timed bodies (messages ++ message ∷ []) false
timed-up bodies messages message t = record {
  times = t.times ++ 0 ∷ [];
  as_many = omega (arith, t.as_many, length-append t.times (0 ∷ []), length-append messages (message ∷ []));
  but_last = but-more t.times 0 (t.once refl);
  once = λ no. absurd cc;
  are = t.are ∙ sym (repeated-more t.times 0 messages message t.as_many ∙ append-nil (repeated t.times messages));
}

timed-sent : (bodies messages : List (List ℕ)) (message : List ℕ) (sent : Bool) → Timed bodies (messages ++ message ∷ []) sent → Timed (bodies ++ message ∷ []) (messages ++ message ∷ []) true
timed-sent bodies messages message sent t =
    let c = cut (length messages) t.times (t.as_many ∙ length-append messages (message ∷ [])) in
    let many : length c.front ≡ length messages = omega (arith, t.as_many, length-append messages (message ∷ []), ap length c.is, length-append c.front (c.last ∷ [])) in
    let all : AllSent c.front = sent-front c.front c.last (rw c.is at t.but_last) in
    record {
      times = c.front ++ suc c.last ∷ [];
      as_many = omega (arith, many, length-append c.front (suc c.last ∷ []), length-append messages (message ∷ []));
      but_last = but-more c.front (suc c.last) all;
      once = λ _. sent-more c.front (suc c.last) all (omega arith);
      are =
          ap (λ (l : List (List ℕ)). l ++ message ∷ []) (t.are ∙ ap (λ (l : List ℕ). repeated l (messages ++ message ∷ [])) c.is ∙ repeated-more c.front c.last messages message many)
          ∙ append_assoc (repeated c.front messages) (replicate c.last message) (message ∷ [])
          ∙ ap (λ (l : List (List ℕ)). repeated c.front messages ++ l) (sym (replicate-more c.last message))
          ∙ sym (repeated-more c.front (suc c.last) messages message many);
    }

timed : (bodies messages : List (List ℕ)) (sent : Bool) → Sends bodies messages sent → Timed bodies messages sent
timed bodies messages sent nothing = record { times = []; as_many = refl; but_last = tt; once = λ _. tt; are = refl }
timed bodies messages sent (takes_up some before message h) = timed-up some before message (timed some before true h)
timed bodies messages sent (sends some before message was h) = timed-sent some before message was (timed some (before ++ message ∷ []) was h)

-- the bodies are those of the messages, each several times running
pub are-sendings : (bodies messages : List (List ℕ)) (sent : Bool) → Sends bodies messages sent → AreSendingsOf bodies messages
are-sendings bodies messages sent h = let t = timed bodies messages sent h in record { times = t.times; as_many = t.as_many; sent = t.but_last; are = t.are }
