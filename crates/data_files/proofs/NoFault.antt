-- Files with no fault: each has a few words, and their numbers differ.
use Rattle.std.proofs.Common.{◌≡◌, ◌<◌, ◌≤◌, ℕ, suc, zero, ◌+◌, ◌*◌, ◌∙◌, Bool, Option, true, false, cond, List, [], ◌∷◌, ◌++◌, length, Some, None, refl, sym, ap, arith, get_or, take, drop, drop-cons, nat_lt, ◌==◌, add-one, append-nil, append_assoc, lit≤}
use Rattle.std.specs.Option.{option_or}
use Rattle.std.specs.List.{list_any}
use Rattle.std.proofs.lemmas.List.{take_more}
use Rattle.std.proofs.lemmas.Bool.Decides.{nat_tests}
use Rattle.std.proofs.Math.Nat.{mul-le-mul_right}
use Rattle.std.proofs.lemmas.List.Sums.{sum_by-cons}
use Rattle.df1_base.specs.declared.file_type.FileType.{FileType}
use Rattle.df1_base.specs.declared.file_type.FileType.TheVariants.{Status, Bit, Timer, Counter, Control, Integer, Float}
use Rattle.data_files.specs.declared.file_spec.FileSpec.{FileSpec}
use Rattle.data_files.specs.declared.make_fault.MakeFault.{MakeFault}
use Rattle.data_files.specs.declared.make_fault.MakeFault.TheVariants.{TooMany}
use Rattle.data_files.specs.Tables.{first_fault, fault_of, faults, word_count, total_words}
use Rattle.data_files.specs.Words.{words_per_element}
use Rattle.data_files.proofs.Placed.{both-None}

-- the list of files has no fault of its own
within_limit : (m : ℕ) (o : Option MakeFault) → cond (nat_lt 256 m) (Some TooMany) o ≡ None → (m ≤ 256) × (o ≡ None)
within_limit m o e = elim (nat_lt 256 m) as (λ b. nat_lt 256 m ≡ b → cond b (Some TooMany) o ≡ None → (m ≤ 256) × (o ≡ None)) [ true ↦ λ t h. cc | false ↦ λ t h. (grind (arith, nat_tests), h) ] refl e

pub few_files : (specs : List FileSpec) → faults specs ≡ None → length specs ≤ 256
few_files specs valid = (within_limit (length specs) _ valid).0

pub no_first_fault : (specs : List FileSpec) → faults specs ≡ None → first_fault [] specs ≡ None
no_first_fault specs valid = (within_limit (length specs) _ valid).1

fault_None : {A : Type 0} (a b c : Bool) (x y z : A) → cond a (Some x) (cond b (Some y) (cond c (Some z) None)) ≡ None → (b ≡ false) × (c ≡ false)
fault_None true b c x y z e = cc
fault_None false true c x y z e = cc
fault_None false false true x y z e = cc
fault_None false false false x y z e = (refl, refl)

-- where the first of the files has no fault, its number is new, it has at most 1,000 elements, and those after it have no fault
pub record IsNext (before : List FileSpec) (spec : FileSpec) (specs : List FileSpec) : Type 0 where
  pub new : list_any (λ o. o.number == spec.number) before ≡ false
  pub few : spec.count ≤ 1000
  pub rest : first_fault (before ++ spec ∷ []) specs ≡ None

pub is_next : (before : List FileSpec) (spec : FileSpec) (specs : List FileSpec) → first_fault before (spec ∷ specs) ≡ None → IsNext before spec specs
is_next before spec specs valid =
    let parts : (fault_of before spec ≡ None) × (first_fault (before ++ spec ∷ []) specs ≡ None) = both-None _ _ valid in
    let tests : (nat_lt 1000 spec.count ≡ false) × (list_any (λ o. o.number == spec.number) before ≡ false) = fault_None (spec.count == 0) _ _ _ _ _ parts.0 in
    record { new = tests.1; few = grind (arith, nat_tests, tests.0); rest = parts.1 }

few_words : (kind : FileType) → words_per_element kind ≤ 3
few_words Status = lit≤ tt
few_words Bit = lit≤ tt
few_words Timer = lit≤ tt
few_words Counter = lit≤ tt
few_words Control = lit≤ tt
few_words Integer = lit≤ tt
few_words Float = lit≤ tt

product_within : (count words : ℕ) → count ≤ 1000 → words ≤ 3 → count * words ≤ 3000
product_within count words few small =
    let times : count * words ≤ 1000 * words = mul-le-mul_right words few in
    omega arith

pub words_within : (before specs : List FileSpec) → first_fault before specs ≡ None → total_words specs ≤ 3000 * length specs
words_within before [] valid = lit≤ tt
words_within before (spec ∷ specs) valid =
    let next : IsNext before spec specs = is_next before spec specs valid in
    let here : word_count spec ≤ 3000 = product_within spec.count (words_per_element spec.kind) next.few (few_words spec.kind) in
    let more : total_words specs ≤ 3000 * length specs = words_within (before ++ spec ∷ []) specs next.rest in
    let total : total_words (spec ∷ specs) ≡ word_count spec + total_words specs = sum_by-cons word_count spec specs in
    omega arith

-- a file with no fault: the first fault is one of the files after it
pub first_fault-next : (specs : List FileSpec) (k : ℕ) (d : FileSpec) → k < length specs → fault_of (take k specs) (get_or specs k d) ≡ None →
    first_fault (take (k + 1) specs) (drop (k + 1) specs) ≡ first_fault (take k specs) (drop k specs)
first_fault-next specs k d within none =
    let more : take (k + 1) specs ≡ take k specs ++ get_or specs k d ∷ [] = take_more specs k d within in
    let rest : drop k specs ≡ get_or specs k d ∷ drop (k + 1) specs = rw add-one (drop-cons specs k d within) in
    ap (λ before. first_fault before (drop (k + 1) specs)) more
    ∙ sym (ap (λ o. option_or o (first_fault (take k specs ++ get_or specs k d ∷ []) (drop (k + 1) specs))) none)
    ∙ sym (ap (first_fault (take k specs)) rest)

-- the file at a place is new among those before it
pub is_next_at : (before specs : List FileSpec) (k : ℕ) (d : FileSpec) → first_fault before specs ≡ None → k < length specs → list_any (λ o. o.number == (get_or specs k d).number) (before ++ take k specs) ≡ false
is_next_at before [] k d valid within = absurd (omega arith)
is_next_at before (spec ∷ specs) zero d valid within = rw append-nil (is_next before spec specs valid).new
is_next_at before (spec ∷ specs) (suc k) d valid within =
    let next : IsNext before spec specs = is_next before spec specs valid in
    rw (← append_assoc before (spec ∷ []) (take k specs)) (is_next_at (before ++ spec ∷ []) specs k d next.rest (omega arith))
