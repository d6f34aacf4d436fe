use Rattle.std.proofs.Common.{◌≡◌, ◌∙◌, ◌-◌, ◌+◌, ◌<◌, ℕ, suc, sym, ap, subst, refl, Bool, true, false, not, List, [], ◌∷◌, ◌++◌, rules, arith}
use lib.Dec.{T}
use Rattle.std.specs.Prelude.{if◌then◌else◌}
use Rattle.c_ends.specs.declared.held.Held.{Held}
use Rattle.c_calls.specs.Ends.{after_take}
use Rattle.c_calls.specs.Runs.{Given, given_behind, out_at}
use Rattle.c_calls.proofs.runs.given_run.Goals as goal

ends : (none last : Bool) (ended final rest : Given) → none ≡ true → (if none then ended else if last then final else rest) ≡ ended
ends true last ended final rest e = refl
ends false last ended final rest e = absurd (subst T (sym e) tt)

goes-on : (none last : Bool) (ended final rest : Given) → none ≡ false → last ≡ false → (if none then ended else if last then final else rest) ≡ rest
goes-on true last ended final rest e f = absurd (subst T e tt)
goes-on false true ended final rest e f = absurd (subst T f tt)
goes-on false false ended final rest e f = refl

-- a take that gives nothing ends the run
none : (bytes : List ℕ) (room left : ℕ) (held : Held) → not (out_at held).there ≡ true → room ≡ suc left
    → given_behind bytes room held ≡ record { bytes = bytes; last = false; after = after_take held }
none bytes room left held there is = ap (λ (n : ℕ). given_behind bytes n held) is
    ∙ ends (not (out_at held).there) (out_at held).last (record { bytes = bytes; last = false; after = after_take held })
    (record { bytes = bytes ++ (out_at held).byte ∷ []; last = true; after = after_take held })
    (given_behind (bytes ++ (out_at held).byte ∷ []) left (after_take held)) there

-- a byte that ends no message goes behind the others
more : (bytes : List ℕ) (room left : ℕ) (held : Held) → not (out_at held).there ≡ false → (out_at held).last ≡ false → room ≡ suc left
    → given_behind bytes room held ≡ given_behind (bytes ++ (out_at held).byte ∷ []) left (after_take held)
more bytes room left held there last is = ap (λ (n : ℕ). given_behind bytes n held) is
    ∙ goes-on (not (out_at held).there) (out_at held).last (record { bytes = bytes; last = false; after = after_take held })
    (record { bytes = bytes ++ (out_at held).byte ∷ []; last = true; after = after_take held })
    (given_behind (bytes ++ (out_at held).byte ∷ []) left (after_take held)) there last

one-less : (room counter : ℕ) → counter < room → room - counter ≡ suc (room - (counter + 1))
one-less room counter under = omega arith

pub returns-then-not-out-clause-after : goal.returns-then-not-out-clause-after
returns-then-not-out-clause-after c =
    let there : not (out_at c.loop.held).there ≡ true = search rules in
    let left = one-less c.args.room c.loop.counter (search rules) in
    c.out_at-out.ensures.after
    ∙ sym (ap (λ (run : Given). run.after) (none c.loop.bytes.items (c.args.room - c.loop.counter) (c.args.room - (c.loop.counter + 1)) c.loop.held there left))
    ∙ ap (λ (run : Given). run.after) c.loop.invariant.given

pub loop-preserved : goal.loop-preserved
loop-preserved c =
    let there : not (out_at c.loop.held).there ≡ false = search rules in
    let last : (out_at c.loop.held).last ≡ false = search rules in
    let left = one-less c.args.room c.loop.counter (search rules) in
    let items : c.push.new.self.items ≡ c.loop.bytes.items ++ (out_at c.loop.held).byte ∷ [] = search rules in
    let rest = c.args.room - (c.loop.counter + 1) in
    record {
      given = ap (λ (bytes : List ℕ). given_behind bytes rest c.out_at-out.new.held) items
          ∙ ap (λ (held : Held). given_behind (c.loop.bytes.items ++ (out_at c.loop.held).byte ∷ []) rest held) c.out_at-out.ensures.after
          ∙ sym (more c.loop.bytes.items (c.args.room - c.loop.counter) rest c.loop.held there last left)
          ∙ c.loop.invariant.given;
      few = search rules;
    }
