-- An end stands for the bytes that arrived at it, and a whole frame is heard exactly where the grammar hears one.
use Rattle.std.proofs.Common.{◌≡◌, ℕ, Bool, true, List, [], ◌∷◌, ◌++◌, Option, Some, None, inl, inr, ap, sym, subst, ◌∙◌, refl, append-nil}
use Rattle.std.specs.Prelude.{◌↔◌, ◌⊎◌}
use Rattle.df1_base.specs.declared.host.Host.{Ghosts}
use Rattle.df1_check.specs.declared.Check.{Check}
use Rattle.df1_frame.specs.declared.heard.Heard.{Heard}
use Rattle.df1_frame.specs.declared.heard.Heard.TheVariants as heard
use Rattle.df1_frame.specs.Line.{ReadOff, last_heard}
use Rattle.df1_frame.specs.Grammar.{full_duplex}
use Rattle.df1_frame.specs.Standing.{Decoding, decoding, lent, lent_at}
use Rattle.df1_frame.specs.Step.{next}
use Rattle.df1_frame.proofs.LineLemmas.{stands-next, heard-next, same-split, stands-start as line-start}
use Rattle.df1_frame.proofs.GrammarLemmas.{machine, works}
use Rattle.duplex_receiver.specs.Receiver.{ReceiverState, is_good, hearing, after_byte}
use Rattle.duplex_end.specs.declared.Setup.{Setup}
use Rattle.duplex_end.specs.End.{EndState, new_end, end_after_byte, step_at_byte, end_after_take}
use Rattle.duplex_end.specs.Emission.{Letter, Byte, Tick, Take, end_after, bytes_among}
use Rattle.duplex_end.specs.Arrived.{StandsFor, HearsWhole, Arrival, bytes_arrived, HeardByGrammar}
use Rattle.duplex_end.proofs.Runs.{take-receiver}

-- a new end stands for no byte
pub stands-new : {H : Type 0} (setup : Setup) (host : H) → StandsFor setup.check [] (new_end setup host)
stands-new setup host = line-start (full_duplex setup.check 250) (machine setup.check 250) (works setup.check 250)

-- for one byte more
pub receiver-byte : (room : List ℕ → Bool) (s : ReceiverState) (b : ℕ) (check : Check) (bytes : List ℕ) → ReadOff (full_duplex check 250) bytes (decoding check 250) s.decoding
    → ReadOff (full_duplex check 250) (bytes ++ b ∷ []) (decoding check 250) (after_byte room 250 s b).decoding
receiver-byte room s b check bytes stands = stands-next (full_duplex check 250) (machine check 250) (works check 250) b bytes s.decoding stands

pub stands-byte : {H : Type 0} (m : Ghosts H) (e : EndState H) (b : ℕ) (check : Check) (bytes : List ℕ) → StandsFor check bytes e → StandsFor check (bytes ++ b ∷ []) (end_after_byte m e b)
stands-byte m e b check bytes stands = receiver-byte (m.room_for e.host) e.receiver b check bytes stands

-- for the same bytes after a take
pub stands-take : {H : Type 0} (m : Ghosts H) (e : EndState H) (check : Check) (bytes : List ℕ) → StandsFor check bytes e → StandsFor check bytes (end_after_take m e)
stands-take m e check bytes stands = subst (λ (s : ReceiverState). ReadOff (full_duplex check 250) bytes (decoding check 250) s.decoding) (sym (take-receiver m e)) stands

pub stands-signal : {H : Type 0} (m : Ghosts H) (check : Check) (bytes : List ℕ) (e : EndState H) (signal : Letter) → StandsFor check bytes e
    → StandsFor check (bytes ++ bytes_among (signal ∷ [])) (end_after m e signal)
stands-signal m check bytes e (Byte b) stands = stands-byte m e b check bytes stands
stands-signal m check bytes e Tick stands = rw (append-nil bytes) stands
stands-signal m check bytes e Take stands = rw (append-nil bytes) (stands-take m e check bytes stands)

-- ---- whole frames

good-is : (what : Option Heard) → is_good what ≡ true → what ≡ Some heard.Good
good-is None good = cc
good-is (Some heard.Good) good = refl
good-is (Some heard.BadCheck) good = cc
good-is (Some heard.Short) good = cc
good-is (Some heard.Long) good = cc
good-is (Some (heard.Broken c)) good = cc
good-is (Some heard.Restart) good = cc
good-is (Some heard.Ack) good = cc
good-is (Some heard.Nak) good = cc
good-is (Some heard.Enq) good = cc
good-is (Some (heard.Stray b)) good = cc
good-is (Some (heard.StrayPair c)) good = cc

-- what is heard is good exactly where the grammar hears a whole frame
good-heard : (check : Check) (bytes : List ℕ) (what : Option Heard) → ReadOff (full_duplex check 250) bytes (last_heard (full_duplex check 250)) what
    → (is_good what ≡ true) ↔ HearsWhole check bytes
good-heard check bytes what told = (
  λ good. subst (λ w. ReadOff (full_duplex check 250) bytes (last_heard (full_duplex check 250)) w) (good-is what good) told,
  λ whole.
      let same : Some heard.Good ≡ what =
      same-split (full_duplex check 250) (machine check 250) (works check 250) bytes (last_heard (full_duplex check 250)) (last_heard (full_duplex check 250)) what (Some heard.Good) told whole
      ∙ sym told.is in
      ap is_good (sym same),
)

pub receiver-whole : (room : List ℕ → Bool) (s : ReceiverState) (b : ℕ) (check : Check) (bytes : List ℕ) (whole : Bool) → whole ≡ is_good (hearing room 250 s b).heard
    → ReadOff (full_duplex check 250) bytes (decoding check 250) s.decoding → (whole ≡ true) ↔ HearsWhole check (bytes ++ b ∷ [])
receiver-whole room s b check bytes whole is stands =
    subst (λ (w : Bool). (w ≡ true) ↔ HearsWhole check (bytes ++ b ∷ [])) (sym is)
    (good-heard check (bytes ++ b ∷ []) (next 250 s.decoding b).1 (heard-next (full_duplex check 250) (machine check 250) (works check 250) b bytes s.decoding stands))

pub whole-byte : {H : Type 0} (m : Ghosts H) (e : EndState H) (b : ℕ) (check : Check) (bytes : List ℕ) → StandsFor check bytes e
    → ((step_at_byte m e b).whole ≡ true) ↔ HearsWhole check (bytes ++ b ∷ [])
whole-byte m e b check bytes stands =
    receiver-whole (m.room_for e.host) e.receiver b check bytes (step_at_byte m e b).whole refl stands

-- the body that is lent is the one that the grammar says
pub lent-body : {H : Type 0} (e : EndState H) (check : Check) (bytes : List ℕ) → StandsFor check bytes e → ReadOff (full_duplex check 250) bytes (lent check 250) (lent_at e.receiver.decoding.standing)
lent-body e check bytes stands = record {
  items = stands.items;
  front = stands.front;
  splits = stands.splits;
  is = ap (λ (d : Decoding). lent_at d.standing) stands.is;
}

-- ---- what arrived

nothing-before : (before later : List Arrival) (at : Arrival) → [] ≡ before ++ at ∷ later → ⊥
nothing-before [] later at is = cc
nothing-before (first ∷ before) later at is = cc

-- nothing arrived
pub heard-none : (check : Check) → HeardByGrammar check []
heard-none check before later at is = absurd (nothing-before before later at is)

-- a cut of a list with one more at its end is at that one, or before it
last-cut : (arrivals before later : List Arrival) (last at : Arrival) → arrivals ++ last ∷ [] ≡ before ++ at ∷ later
    → ((rest : List Arrival) × (arrivals ≡ before ++ at ∷ rest)) ⊎ ((before ≡ arrivals) × (at ≡ last))
last-cut [] [] later last at is = inr (refl, cc)
last-cut [] (first ∷ before) later last at is = absurd (nothing-before before later at cc)
last-cut (first ∷ arrivals) [] later last at is = inl (arrivals, cc)
last-cut (first ∷ arrivals) (other ∷ before) later last at is =
    let same : first ≡ other = cc in
    elim (last-cut arrivals before later last at cc) as (λ _. ((rest : List Arrival) × (first ∷ arrivals ≡ (other ∷ before) ++ at ∷ rest)) ⊎ ((other ∷ before ≡ first ∷ arrivals) × (at ≡ last))) [
      | inl cut ↦ inl (cut.0, cc)
      | inr end ↦ inr (cc, end.1)
    ]

-- a byte more
pub heard-more : (check : Check) (arrivals : List Arrival) (last : Arrival) → HeardByGrammar check arrivals → ((last.whole ≡ true) ↔ HearsWhole check (bytes_arrived arrivals ++ last.byte ∷ []))
    → HeardByGrammar check (arrivals ++ last ∷ [])
heard-more check arrivals last so_far now before later at is =
    elim (last-cut arrivals before later last at is) as (λ _. (at.whole ≡ true) ↔ HearsWhole check (bytes_arrived before ++ at.byte ∷ [])) [
      | inl cut ↦ so_far before cut.0 at cut.1
      | inr end ↦
          let P : List Arrival → Arrival → Type 0 = λ l a. (a.whole ≡ true) ↔ HearsWhole check (bytes_arrived l ++ a.byte ∷ []) in
          subst (λ (a : Arrival). P before a) (sym end.1) (subst (λ (l : List Arrival). P l last) (sym end.0) now)
    ]
