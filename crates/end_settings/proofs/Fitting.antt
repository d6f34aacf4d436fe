-- Settings have values that their keys may have.
use Rattle.std.proofs.Common.{◌≡◌, ℕ, zero, suc, ◌≤◌, Bool, true, false, List, [], ◌∷◌, Option, Some, None, refl, ap, subst, arith, nat_le, get_or, set}
use Rattle.std.specs.Prelude.{◌&&◌, unwrap_or}
use Rattle.std.proofs.lemmas.Bool.{cond_both}
use Rattle.std.proofs.lemmas.Bool.Decides.{nat_tests}
use denote.Enum.Bare.{tag_one}
use Rattle.end_settings.specs.contracts.key.EndKey.{the_type}
use Rattle.end_settings.specs.declared.key.EndKey.{EndKey}
use Rattle.end_settings.specs.declared.key.EndKey.TheVariants.{Node}
use Rattle.end_settings.specs.declared.row.Values.{Values}
use Rattle.end_settings.specs.declared.settings.Setting.{Setting}
use Rattle.end_settings.specs.Rows.{Fits, IfFits, fitting, least_of, most_of}
use Rattle.end_settings.specs.Table.{first_of, row_of}
use Rattle.end_settings.specs.Given.{AreFitting, chosen, no_settings, place, value_of, with_setting}

-- ---- keys and their places

pub place-same : (a b : EndKey) → place a ≡ place b → a ≡ b
place-same a b same = tag_one the_type tt a b same

-- the value at a place is the new one or the one before
after-set : (given : List (Option ℕ)) (i j : ℕ) (value : Option ℕ) (P : Option ℕ → Type 0) → (i ≡ j → P value) → P (get_or given j None) → P (get_or (set given i value) j None)
after-set [] i j value P new old = old
after-set (x ∷ given) zero zero value P new old = new refl
after-set (x ∷ given) zero (suc j) value P new old = old
after-set (x ∷ given) (suc i) zero value P new old = old
after-set (x ∷ given) (suc i) (suc j) value P new old = after-set given i j value P (λ same. new (ap suc same)) old

pub value_of-with : (given : List (Option ℕ)) (x : Setting) (key : EndKey) (P : Option ℕ → Type 0) → (x.key ≡ key → P (fitting (row_of x.key).values x.value)) → P (value_of given key) → P (value_of (with_setting given x) key)
value_of-with given x key P new old = after-set given (place x.key) (place key) (fitting (row_of x.key).values x.value) P (λ same. new (place-same x.key key same)) old

-- ---- values

bounds : (least most n : ℕ) → (nat_le least n && nat_le n most) ≡ true → (least ≤ n) × (n ≤ most)
bounds least most n e = (grind (arith, nat_tests), grind (arith, nat_tests))

pub IfFits-fitting : (values : Values) (o : Option ℕ) → IfFits values (fitting values o)
IfFits-fitting values None = tt
IfFits-fitting values (Some n) = cond_both (nat_le (least_of values) n && nat_le n (most_of values)) (Some n) None (IfFits values) (bounds (least_of values) (most_of values) n) (λ _. tt)

-- a value that fits is itself what fits
both-tests : (b c : Bool) → b ≡ true → c ≡ true → (b && c) ≡ true
both-tests true true b c = refl
both-tests true false b c = c
both-tests false c' b c = b

pub fitting-same : (values : Values) (o : Option ℕ) → IfFits values o → fitting values o ≡ o
fitting-same values None h = refl
fitting-same values (Some n) h = rw (both-tests (nat_le (least_of values) n) (nat_le n (most_of values)) (grind (arith, nat_tests, h)) (grind (arith, nat_tests, h))) refl

none-at : (key : EndKey) → IfFits (row_of key).values (value_of no_settings key)
none-at Node = tt
none-at other = tt

pub none-fitting : AreFitting no_settings
none-fitting = record { each = none-at }

pub fitting-with : (given : List (Option ℕ)) (x : Setting) → AreFitting given → AreFitting (with_setting given x)
fitting-with given x h = record {
  each = λ key.
      value_of-with given x key (IfFits (row_of key).values)
      (λ same. subst (λ (k : EndKey). IfFits (row_of k).values (fitting (row_of x.key).values x.value)) same (IfFits-fitting (row_of x.key).values x.value))
      (h.each key);
}

-- ---- values at first

-- the value of each key at first is one that it may have
pub Fits-first : (address : ℕ) → address ≤ 255 → (key : EndKey) → Fits (row_of key).values (first_of address key)
Fits-first address few Node = (omega arith, few)
Fits-first address few other = (omega arith, omega arith)

pub Fits-unwrap_or : (values : Values) (o : Option ℕ) (first : ℕ) → IfFits values o → Fits values first → Fits values (unwrap_or o first)
Fits-unwrap_or values None first told at_first = at_first
Fits-unwrap_or values (Some n) first told at_first = told

pub Fits-chosen : (given : List (Option ℕ)) (address : ℕ) → AreFitting given → address ≤ 255 → (key : EndKey) → Fits (row_of key).values (chosen given address key)
Fits-chosen given address h few key = Fits-unwrap_or (row_of key).values (value_of given key) (first_of address key) (h.each key) (Fits-first address few key)
