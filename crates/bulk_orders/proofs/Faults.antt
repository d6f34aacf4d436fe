-- The lowest fault of several commands.
use Rattle.std.proofs.Common.{◌≡◌, ℕ, zero, suc, ◌+◌, ◌-◌, ◌<◌, ◌≤◌, Bool, true, false, List, ◌++◌, length, Option, Some, None, refl, sym, ap, ◌∙◌, inl, inr, arith, add-zero, add-one, add-suc}
use Rattle.std.specs.Prelude.{◌⊎◌, ◌==◌, if◌then◌else◌}
use Rattle.std.specs.Option.{option_or, unwrap_or}
use Rattle.df1_node.specs.declared.outcome.Outcome.{Outcome}
use Rattle.df1_node.specs.declared.outcome.Outcome.TheVariants as outcome
use Rattle.df1_node.specs.Initiator.{InitiatorState, outcome_of, reply_of}
use Rattle.bulk_orders.specs.declared.outcome.Bulk.{Bulk}
use Rattle.bulk_orders.specs.declared.outcome.Bulk.TheVariants.{Whole, Missing, Refused, Odd}
use Rattle.bulk_orders.specs.Outcomes.{data_of, data_pulled_from, extension_of, fault_at, fault_of, first_fault, is_whole, number_of, result_of, status_of}

none-both : (first later : Option Bulk) → option_or first later ≡ None → (first ≡ None) × (later ≡ None)
none-both None later none = (refl, none)
none-both (Some came) later none = absurd cc

one-up : (n m : ℕ) → (m ≤ n) ⊎ (m ≡ suc n) → (suc m ≤ suc n) ⊎ (suc m ≡ suc (suc n))
one-up n m (inl below) = inl (omega (arith, below))
one-up n m (inr same) = inr (ap suc same)

up-to : (n m : ℕ) → m ≤ suc n → (m ≤ n) ⊎ (m ≡ suc n)
up-to n zero within = inl (omega arith)
up-to zero (suc zero) within = inr refl
up-to zero (suc (suc m)) within = absurd (omega (arith, within))
up-to (suc n) (suc m) within = one-up n m (up-to n m (omega (arith, within)))

pub none-each : (fault : ℕ → Option Bulk) (count : ℕ) → first_fault fault count ≡ None → (n : ℕ) → 1 ≤ n → n ≤ count → fault n ≡ None
none-each fault zero none n some within = absurd (omega (arith, some, within))
none-each fault (suc count) none n some within =
    let both = none-both (first_fault fault count) (fault (suc count)) none in
    elim (up-to count n within) [ inl below ↦ none-each fault count both.0 n some below | inr same ↦ ap fault same ∙ both.1 ]

pub each-none : (fault : ℕ → Option Bulk) (count : ℕ) → ((n : ℕ) → 1 ≤ n → n ≤ count → fault n ≡ None) → first_fault fault count ≡ None
each-none fault zero each = refl
each-none fault (suc count) each = ap (λ (first : Option Bulk). option_or first (fault (suc count))) (each-none fault count (λ n some within. each n some (omega (arith, within)))) ∙ each (suc count) (omega arith) (omega arith)

-- the lowest command that has a fault
abbrev pub IsLowest : (ℕ → Option Bulk) → ℕ → Bulk → Type 0
IsLowest fault count came = (n : ℕ) × (1 ≤ n) × (n ≤ count) × (fault n ≡ Some came) × ((k : ℕ) → 1 ≤ k → k < n → fault k ≡ None)

pub lowest : (fault : ℕ → Option Bulk) (count : ℕ) (came : Bulk) → first_fault fault count ≡ Some came → IsLowest fault count came
lowest fault zero came told = absurd cc
lowest fault (suc count) came told = by (first_fault fault count) refl told (lowest fault count came)
  where
    by : (first : Option Bulk) → first_fault fault count ≡ first → option_or first (fault (suc count)) ≡ Some came → (first_fault fault count ≡ Some came → IsLowest fault count came) → IsLowest fault (suc count) came
    by None none later before = (suc count, omega arith, omega arith, later, λ k some below. none-each fault count none k some (omega (arith, below)))
    by (Some other) is same before = let found = before (is ∙ same) in (found.0, found.1, omega (arith, found.2), found.3, found.4)

-- one command more has none
pub none-more : (fault : ℕ → Option Bulk) (n : ℕ) → first_fault fault n ≡ None → fault (n + 1) ≡ None → first_fault fault (n + 1) ≡ None
none-more fault n none here =
    ap (first_fault fault) (add-one n) ∙ ap (λ (first : Option Bulk). option_or first (fault (suc n))) none ∙ sym (ap fault (add-one n)) ∙ here

-- one command more has the first
pub first-here : (fault : ℕ → Option Bulk) (n : ℕ) (came : Bulk) → first_fault fault n ≡ None → fault (n + 1) ≡ Some came → first_fault fault (n + 1) ≡ Some came
first-here fault n came none here =
    ap (first_fault fault) (add-one n) ∙ ap (λ (first : Option Bulk). option_or first (fault (suc n))) none ∙ sym (ap fault (add-one n)) ∙ here

-- it stays the first
pub first-stays : (fault : ℕ → Option Bulk) (n more : ℕ) (came : Bulk) → first_fault fault n ≡ Some came → first_fault fault (n + more) ≡ Some came
first-stays fault n zero came told = ap (first_fault fault) (add-zero n) ∙ told
first-stays fault n (suc more) came told =
    ap (first_fault fault) (add-suc n more) ∙ ap (λ (first : Option Bulk). option_or first (fault (suc (n + more)))) (first-stays fault n more came told)

-- what a transfer comes to, by its first fault
pub told-first : (fault : ℕ → Option Bulk) (n count : ℕ) (came : Bulk) → first_fault fault n ≡ None → fault (n + 1) ≡ Some came → n + 1 ≤ count → result_of fault count ≡ came
told-first fault n count came none here within =
    let all : (n + 1) + (count - (n + 1)) ≡ count = omega (arith, within) in
    ap (λ (first : Option Bulk). unwrap_or first Whole) (ap (first_fault fault) (sym all) ∙ first-stays fault (n + 1) (count - (n + 1)) came (first-here fault n came none here))

pub told-whole : (fault : ℕ → Option Bulk) (count : ℕ) → first_fault fault count ≡ None → result_of fault count ≡ Whole
told-whole fault count none = ap (λ (first : Option Bulk). unwrap_or first Whole) none

-- ---- a fault is never that all is whole

is-fault : {A : Type 0} (a b : A) → Some a ≡ Some b → a ≡ b
is-fault a b same = cc

reply-fault : (done fits : Bool) (n sts ext : ℕ) (came : Bulk) → (if done then (if fits then None else Some (Odd n)) else Some (Refused n sts ext)) ≡ Some came → is_whole came ≡ false
reply-fault true true n sts ext came told = absurd cc
reply-fault true false n sts ext came told = ap is_whole (sym (is-fault (Odd n) came told))
reply-fault false fits n sts ext came told = ap is_whole (sym (is-fault (Refused n sts ext) came told))

missing-fault : (n : ℕ) (came : Bulk) → Some (Missing n) ≡ Some came → is_whole came ≡ false
missing-fault n came told = ap is_whole (sym (is-fault (Missing n) came told))

outcome-fault : (n size : ℕ) (reply : List ℕ) (o : Option Outcome) (came : Bulk) → fault_at n size reply o ≡ Some came → is_whole came ≡ false
outcome-fault n size reply None came told = missing-fault n came told
outcome-fault n size reply (Some outcome.Waiting) came told = missing-fault n came told
outcome-fault n size reply (Some outcome.Out) came told = missing-fault n came told
outcome-fault n size reply (Some outcome.Answered) came told = reply-fault (status_of reply == 0) (length (data_of reply) == size) n (status_of reply) (extension_of reply) came told
outcome-fault n size reply (Some outcome.Undelivered) came told = missing-fault n came told
outcome-fault n size reply (Some outcome.Unanswered) came told = missing-fault n came told

pub fault-not-whole : (s : InitiatorState) (size n : ℕ) (came : Bulk) → fault_of s size n ≡ Some came → is_whole came ≡ false
fault-not-whole s size n came told = outcome-fault n size (reply_of s n) (outcome_of s n) came told

-- ---- the numbers of a transfer's commands

number-after : (before n : ℕ) → number_of (suc before) (n + 1) ≡ suc before + n
number-after zero n = omega arith
number-after (suc before) n = let one_less : number_of (suc before) (n + 1) ≡ suc before + n = number-after before n in omega arith

-- order n + 1 has the number of the first and n
pub number-at : (first n : ℕ) → (1 ≤ n → 1 ≤ first) → number_of first (n + 1) ≡ first + n
number-at zero zero some = refl
number-at zero (suc n) some = absurd (let one : 1 ≤ 0 = some (omega arith) in omega (arith, one))
number-at (suc before) n some = number-after before n

pub numbered : (first j : ℕ) → 1 ≤ first → 1 ≤ j → number_of first j + 1 ≡ first + j
numbered first zero some one = absurd (omega (arith, one))
numbered first (suc n) some one =
    let at : number_of first (n + 1) ≡ first + n = number-at first n (λ _. some) in
    ap (λ (k : ℕ). number_of first k + 1) (sym (add-one n)) ∙ omega (arith, at)

-- an order is at fault where the command of its number is
pub fault-at-number : (s : InitiatorState) (size first n number : ℕ) (came : Option Bulk) → (1 ≤ n → 1 ≤ first) → number ≡ first + n → fault_of s size number ≡ came → fault_of s size (number_of first (n + 1)) ≡ came
fault-at-number s size first n number came some is told = ap (fault_of s size) (number-at first n some ∙ sym is) ∙ told

-- a command more that has a number
pub next-numbers : (first n number : ℕ) → (1 ≤ n → (1 ≤ first) × (first + n ≤ 65536)) → number ≡ first + n → 1 ≤ number → number ≤ 65535 → (1 ≤ first) × (first + (n + 1) ≤ 65536)
next-numbers first zero number before is some few = (omega arith, omega arith)
next-numbers first (suc n) number before is some few = ((before (omega arith)).0, omega arith)

-- and whose reply has these data
pub pulled-more : (s : InitiatorState) (first n number : ℕ) (data_is into : List ℕ) → (1 ≤ n → 1 ≤ first) → number ≡ first + n → data_is ≡ data_of (reply_of s number) → into ≡ data_pulled_from s first n → into ++ data_is ≡ data_pulled_from s first (n + 1)
pulled-more s first n number data_is into some is from before =
    ap (λ (xs : List ℕ). xs ++ data_is) before
    ∙ ap (λ (d : List ℕ). data_pulled_from s first n ++ d) (from ∙ ap (λ (k : ℕ). data_of (reply_of s k)) (is ∙ sym (number-at first n some) ∙ ap (number_of first) (add-one n)))
    ∙ sym (ap (data_pulled_from s first) (add-one n))
