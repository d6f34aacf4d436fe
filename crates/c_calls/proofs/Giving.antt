-- Where a run of bytes that are given ends. Assumes nothing.
use Rattle.std.proofs.Common.{◌≡◌, ◌∙◌, ◌⊎◌, inl, inr, ℕ, zero, suc, Bool, true, false, not, List, [], ◌∷◌, ◌++◌, length, refl, sym, ap, subst, arith, append-nil, append_assoc}
use Rattle.std.specs.Prelude.{if◌then◌else◌}
use Rattle.c_ends.specs.declared.held.Held.{Held}
use Rattle.c_ends.specs.declared.told.OutTold.{OutTold}
use Rattle.c_calls.specs.Ends.{after_take}
use Rattle.c_calls.specs.Runs.{Given, GivenFull, GivenMessage, GivenShort, given_behind, given_of, out_at}

abbrev given : List ℕ → Bool → Held → Given
given bytes last after = record { bytes = bytes; last = last; after = after }

abbrev out : Bool → ℕ → Bool → OutTold
out there byte last = record { there = there; byte = byte; last = last }

-- a run with other bytes in front
abbrev behind : List ℕ → Given → Given
behind bytes run = given (bytes ++ run.bytes) run.last run.after

given-behind : (bytes : List ℕ) (room : ℕ) (held : Held) → given_behind bytes room held ≡ behind bytes (given_of room held)
given-behind bytes zero held = ap (λ (xs : List ℕ). given xs false held) (sym (append-nil bytes))
given-behind bytes (suc room) held =
    at (not (out_at held).there) (out_at held).last (given-behind (bytes ++ (out_at held).byte ∷ []) room (after_take held)) (given-behind ((out_at held).byte ∷ []) room (after_take held))
  where
    at : (none last : Bool) → given_behind (bytes ++ (out_at held).byte ∷ []) room (after_take held) ≡ behind (bytes ++ (out_at held).byte ∷ []) (given_of room (after_take held))
        → given_behind ((out_at held).byte ∷ []) room (after_take held) ≡ behind ((out_at held).byte ∷ []) (given_of room (after_take held))
        → (if none then given bytes false (after_take held) else if last then given (bytes ++ (out_at held).byte ∷ []) true (after_take held) else given_behind (bytes ++ (out_at held).byte ∷ []) room (after_take held))
        ≡ behind bytes (if none then given [] false (after_take held) else if last then given ((out_at held).byte ∷ []) true (after_take held) else given_behind ((out_at held).byte ∷ []) room (after_take held))
    at true last whole one = ap (λ (xs : List ℕ). given xs false (after_take held)) (sym (append-nil bytes))
    at false true whole one = refl
    at false false whole one =
        let rest = given_of room (after_take held) in
        whole ∙ ap (λ (xs : List ℕ). given xs rest.last rest.after) (append_assoc bytes ((out_at held).byte ∷ []) rest.bytes) ∙ sym (ap (behind bytes) one)

abbrev Ends : ℕ → Held → Given → Type 0
Ends room held run = GivenFull room held run ⊎ (GivenShort room held run ⊎ GivenMessage room held run)

-- a byte more in front, which ends no message
longer : (room : ℕ) (held : Held) (byte : ℕ) (run : Given) → out_at held ≡ out true byte false → Ends room (after_take held) run → Ends (suc room) held (behind (byte ∷ []) run)
longer room held byte run is (inl full) = inl (record { count = ap suc full.count; are = (is, full.are); last = full.last; after = full.after })
longer room held byte run is (inr (inl short)) = inr (inl (record {
  count = (let few = short.count in omega (arith, few));
  are = (is, short.are);
  none = short.none;
  last = short.last;
  after = short.after;
}))
longer room held byte run is (inr (inr message)) = inr (inr (record {
  front = byte ∷ message.front;
  end = message.end;
  bytes = ap (λ (xs : List ℕ). byte ∷ xs) message.bytes;
  count = (let few = message.count in omega (arith, few));
  are = (is, message.are);
  ends = message.ends;
  last = message.last;
  after = message.after;
}))

-- what is given, by its parts
whole : (given : OutTold) (there last : Bool) → given.there ≡ there → given.last ≡ last → given ≡ out there given.byte last
whole given there last is ends = ap (λ (b : Bool). out b given.byte given.last) is ∙ ap (λ (b : Bool). out there given.byte b) ends

pub run-ends : (room : ℕ) (held : Held) → Ends room held (given_of room held)
run-ends zero held = inl (record { count = refl; are = tt; last = refl; after = refl })
run-ends (suc room) held = at (out_at held).there (out_at held).last refl refl (run-ends room (after_take held))
  where
    at : (there last : Bool) → (out_at held).there ≡ there → (out_at held).last ≡ last → Ends room (after_take held) (given_of room (after_take held))
        → Ends (suc room) held
        (if not there then given [] false (after_take held) else if last then given ((out_at held).byte ∷ []) true (after_take held) else given_behind ((out_at held).byte ∷ []) room (after_take held))
    at false last is ends rest = inr (inl (record { count = omega arith; are = tt; none = is; last = refl; after = refl }))
    at true true is ends rest = inr (inr (record {
      front = [];
      end = (out_at held).byte;
      bytes = refl;
      count = omega arith;
      are = tt;
      ends = whole (out_at held) true true is ends;
      last = refl;
      after = refl;
    }))
    at true false is ends rest = subst (Ends (suc room) held) (sym (given-behind ((out_at held).byte ∷ []) room (after_take held)))
        (longer room held (out_at held).byte (given_of room (after_take held)) (whole (out_at held) true false is ends) rest)
