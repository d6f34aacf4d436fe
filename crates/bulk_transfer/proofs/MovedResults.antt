-- What a transfer comes to, by the replies that are told.
use Rattle.std.proofs.Common.{◌≡◌, ◌∙◌, ◌⊎◌, ℕ, ◌≤◌, Bool, true, false, List, [], length, Option, Some, None, refl, sym, ap, inl, inr}
use Rattle.std.specs.Prelude.{◌==◌, if◌then◌else◌}
use Rattle.std.specs.Option.{option_map, option_map_or, unwrap_or}
use Rattle.std.proofs.lemmas.Bool.{eq-eqb}
use Rattle.df1_node.specs.Initiator.{Issued, Standing, Waiting, Out, Answered, Undelivered, Unanswered, InitiatorState, command, told_outcome, told_reply, reply_of}
use Rattle.bulk_orders.specs.declared.outcome.Bulk.{Bulk}
use Rattle.bulk_orders.specs.declared.outcome.Bulk.TheVariants.{Whole, Missing, Refused, Odd}
use Rattle.bulk_orders.specs.Outcomes.{data_of, extension_of, fault_at, fault_of, fault_of_reply, first_fault, is_whole, result_of, status_of}
use Rattle.bulk_orders.proofs.Faults.{each-none, fault-not-whole, lowest, none-each, told-whole}

-- command n is answered by this reply
pub record IsAnsweredBy (i : InitiatorState) (n : ℕ) (reply : List ℕ) : Type 0 where
  pub issued : Issued
  pub is_command : command i n ≡ Some issued
  pub stands : issued.standing ≡ Answered reply

pub reply-is : (i : InitiatorState) (n : ℕ) (reply : List ℕ) → IsAnsweredBy i n reply → reply_of i n ≡ reply
reply-is i n reply by = ap (λ (o : Option Issued). option_map_or (λ (c : Issued). told_reply c.standing) o []) by.is_command ∙ ap told_reply by.stands

-- ---- the fault of a command

-- the fault of a command, if it is issued
abbrev fault_by : ℕ → ℕ → Option Issued → Option Bulk
fault_by n size o = fault_at n size (option_map_or (λ (c : Issued). told_reply c.standing) o []) (option_map (λ (c : Issued). told_outcome c.standing) o)

-- and by how it stands
abbrev fault_so : ℕ → ℕ → Standing → Option Bulk
fault_so n size standing = fault_at n size (told_reply standing) (Some (told_outcome standing))

-- it is missing, or is answered by a reply and has the fault of that
abbrev IsMissing : InitiatorState → ℕ → ℕ → Type 0
IsMissing i size n = fault_of i size n ≡ Some (Missing n)

pub record HasReply (i : InitiatorState) (size n : ℕ) : Type 0 where
  pub reply : List ℕ
  pub answered : IsAnsweredBy i n reply
  pub fault : fault_of i size n ≡ fault_of_reply n size reply

standing-of : (i : InitiatorState) (size n : ℕ) (c : Issued) → command i n ≡ Some c → (standing : Standing) → c.standing ≡ standing → IsMissing i size n ⊎ HasReply i size n
standing-of i size n c is Waiting stands = inl (ap (fault_by n size) is ∙ ap (fault_so n size) stands)
standing-of i size n c is (Out left) stands = inl (ap (fault_by n size) is ∙ ap (fault_so n size) stands)
standing-of i size n c is (Answered reply) stands = inr (record { reply = reply; answered = record { issued = c; is_command = is; stands = stands }; fault = ap (fault_by n size) is ∙ ap (fault_so n size) stands })
standing-of i size n c is Undelivered stands = inl (ap (fault_by n size) is ∙ ap (fault_so n size) stands)
standing-of i size n c is Unanswered stands = inl (ap (fault_by n size) is ∙ ap (fault_so n size) stands)

missing-or-reply : (i : InitiatorState) (size n : ℕ) → IsMissing i size n ⊎ HasReply i size n
missing-or-reply i size n = by (command i n) refl
  where
    by : (o : Option Issued) → command i n ≡ o → IsMissing i size n ⊎ HasReply i size n
    by None is = inl (ap (fault_by n size) is)
    by (Some c) is = standing-of i size n c is c.standing refl

-- ---- the fault of a reply

-- it refuses, or its data are so many bytes
abbrev pub Fits : ℕ → List ℕ → Type 0
Fits size reply = (status_of reply ≡ 0xF0) ⊎ ((status_of reply ≡ 0) × (length (data_of reply) ≡ size))

refused-fault : (n size : ℕ) (reply : List ℕ) → status_of reply ≡ 0xF0 → fault_of_reply n size reply ≡ Some (Refused n (status_of reply) (extension_of reply))
refused-fault n size reply is =
    ap (λ (status : ℕ). if status == 0 then (if length (data_of reply) == size then None else Some (Odd n)) else Some (Refused n (status_of reply) (extension_of reply))) is

no-fault : (n size : ℕ) (reply : List ℕ) → status_of reply ≡ 0 → length (data_of reply) ≡ size → fault_of_reply n size reply ≡ None
no-fault n size reply is fits =
    ap (λ (status : ℕ). if status == 0 then (if length (data_of reply) == size then None else Some (Odd n)) else Some (Refused n (status_of reply) (extension_of reply))) is
    ∙ ap (λ (same : Bool). if same then None else Some (Odd n)) (eq-eqb (length (data_of reply)) size fits)

-- what a reply without a fault is, where it fits
fits-whole : (n size : ℕ) (reply : List ℕ) → Fits size reply → fault_of_reply n size reply ≡ None → (status_of reply ≡ 0) × (length (data_of reply) ≡ size)
fits-whole n size reply (inl refused) none = absurd (let told = sym (refused-fault n size reply refused) ∙ none in cc)
fits-whole n size reply (inr fits) none = fits

never-odd-reply : (n size m : ℕ) (reply : List ℕ) → Fits size reply → fault_of_reply n size reply ≡ Some (Odd m) → ⊥
never-odd-reply n size m reply (inl refused) odd = let told = sym (refused-fault n size reply refused) ∙ odd in cc
never-odd-reply n size m reply (inr fits) odd = let told = sym (no-fault n size reply fits.0 fits.1) ∙ odd in cc

never-odd-at : (i : InitiatorState) (size n m : ℕ) → ((reply : List ℕ) → IsAnsweredBy i n reply → Fits size reply) → fault_of i size n ≡ Some (Odd m) → ⊥
never-odd-at i size n m fits odd = by (missing-or-reply i size n)
  where
    by : IsMissing i size n ⊎ HasReply i size n → ⊥
    by (inl missing) = let told = sym missing ∙ odd in cc
    by (inr has) = never-odd-reply n size m has.reply (fits has.reply has.answered) (sym has.fault ∙ odd)

-- ---- the whole transfer

abbrev pub faults_of : InitiatorState → (ℕ → ℕ) → ℕ → Option Bulk
faults_of i size n = fault_of i (size n) n

-- where each reply that is told refuses or has as much data as is asked for, none has other data
pub never-odd : (i : InitiatorState) (size : ℕ → ℕ) (count : ℕ) → ((n : ℕ) → 1 ≤ n → n ≤ count → (reply : List ℕ) → IsAnsweredBy i n reply → Fits (size n) reply) → (m : ℕ) → result_of (faults_of i size) count ≡ Odd m → ⊥
never-odd i size count fits m odd = by (first_fault (faults_of i size) count) refl
  where
    by : (o : Option Bulk) → first_fault (faults_of i size) count ≡ o → ⊥
    by None none = let whole = sym (told-whole (faults_of i size) count none) ∙ odd in cc
    by (Some came) is =
        let found = lowest (faults_of i size) count came is in
        let same : came ≡ Odd m = sym (ap (λ (o : Option Bulk). unwrap_or o Whole) is) ∙ odd in
        never-odd-at i (size found.0) found.0 m (fits found.0 found.1 found.2) (found.3 ∙ ap Some same)

-- command n is answered, isn't refused, and its reply has so many bytes
pub record IsGood (i : InitiatorState) (size n : ℕ) : Type 0 where
  pub reply : List ℕ
  pub answered : IsAnsweredBy i n reply
  pub status : status_of reply ≡ 0
  pub size_is : length (data_of reply) ≡ size

none-at : (i : InitiatorState) (size : ℕ → ℕ) (count : ℕ) → result_of (faults_of i size) count ≡ Whole → first_fault (faults_of i size) count ≡ None
none-at i size count whole = by (first_fault (faults_of i size) count) refl
  where
    by : (o : Option Bulk) → first_fault (faults_of i size) count ≡ o → o ≡ None
    by None none = refl
    by (Some came) is =
        let found = lowest (faults_of i size) count came is in
        let same : came ≡ Whole = sym (ap (λ (o : Option Bulk). unwrap_or o Whole) is) ∙ whole in
        let no : is_whole came ≡ false = fault-not-whole i (size found.0) found.0 came found.3 in
        let both : true ≡ false = sym (ap is_whole same) ∙ no in
        absurd cc

good-at : (i : InitiatorState) (size n : ℕ) → ((reply : List ℕ) → IsAnsweredBy i n reply → Fits size reply) → fault_of i size n ≡ None → IsGood i size n
good-at i size n fits none = by (missing-or-reply i size n)
  where
    by : IsMissing i size n ⊎ HasReply i size n → IsGood i size n
    by (inl missing) = absurd (let told = sym missing ∙ none in cc)
    by (inr has) =
        let is = fits-whole n size has.reply (fits has.reply has.answered) (sym has.fault ∙ none) in
        record { reply = has.reply; answered = has.answered; status = is.0; size_is = is.1 }

-- where a transfer is whole, each of its commands is good
pub all-good : (i : InitiatorState) (size : ℕ → ℕ) (count : ℕ) → ((n : ℕ) → 1 ≤ n → n ≤ count → (reply : List ℕ) → IsAnsweredBy i n reply → Fits (size n) reply) → result_of (faults_of i size) count ≡ Whole → (n : ℕ) → 1 ≤ n → n ≤ count → IsGood i (size n) n
all-good i size count fits whole n some within = good-at i (size n) n (fits n some within) (none-each (faults_of i size) count (none-at i size count whole) n some within)

good-fault : (i : InitiatorState) (size n : ℕ) → IsGood i size n → fault_of i size n ≡ None
good-fault i size n good =
    ap (fault_by n size) good.answered.is_command ∙ ap (fault_so n size) good.answered.stands ∙ no-fault n size good.reply good.status good.size_is

-- and where each is good, it is whole
pub whole-where-good : (i : InitiatorState) (size : ℕ → ℕ) (count : ℕ) → ((n : ℕ) → 1 ≤ n → n ≤ count → IsGood i (size n) n) → result_of (faults_of i size) count ≡ Whole
whole-where-good i size count good = told-whole (faults_of i size) count (each-none (faults_of i size) count (λ n some within. good-fault i (size n) n (good n some within)))
