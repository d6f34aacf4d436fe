-- What holds where nothing stands against a payload.
use Rattle.std.proofs.Common.{◌≡◌, ℕ, ◌%◌, ◌≤◌, eqb, ltb, List, Option, Some, None, Result, refl, sym, subst, arith}
use Rattle.std.specs.Prelude.{OnOk}
use Rattle.std.specs.Option.{option_or}
use Rattle.std.proofs.lemmas.Bool.{cond_both, eqb-false, eqb-true, ltb-false}
use Rattle.df1_base.specs.declared.file_type.FileType.{FileType}
use Rattle.data_files.specs.Words.{words_per_element}
use Rattle.data_addresses.specs.declared.address.Address.{Address}
use Rattle.command_payloads.specs.declared.fault.PayloadFault.{PayloadFault}
use Rattle.command_payloads.specs.declared.fault.PayloadFault.TheVariants.{NoData, TooMuchData, NoSub, HalfElement}
use Rattle.command_payloads.specs.Faults.{answer_of, count_fault, half_fault, sub_fault, unless}

pub neither : (a b : Option PayloadFault) → option_or a b ≡ None → (a ≡ None) × (b ≡ None)
neither None b e = (refl, e)
neither (Some fault) b e = absurd cc

pub count_fits : (count : ℕ) → count_fault count ≡ None → (1 ≤ count) × (count ≤ 122)
count_fits count e =
    let Goal : Option PayloadFault → Type 0 = λ o. o ≡ None → (1 ≤ count) × (count ≤ 122) in
    cond_both (eqb count 0) (Some NoData) _ Goal (λ _ h. absurd cc) (λ some.
    cond_both (ltb 122 count) (Some TooMuchData) None Goal (λ _ h. absurd cc)
    (λ few _. let is : count ≡ 0 → ⊥ = eqb-false count 0 some in let most = ltb-false 122 count few in (omega arith, omega arith))) e

pub no_sub : (at : Address) → sub_fault at ≡ None → at.sub ≡ 0
no_sub at e =
    cond_both (eqb at.sub 0) None (Some NoSub) (λ (o : Option PayloadFault). o ≡ None → at.sub ≡ 0) (λ is _. eqb-true at.sub 0 is) (λ _ h. absurd cc) e

pub whole_elements : (kind : FileType) (words : ℕ) → half_fault kind words ≡ None → words % words_per_element kind ≡ 0
whole_elements kind words e =
    let left = words % words_per_element kind in
    cond_both (eqb left 0) None (Some HalfElement) (λ (o : Option PayloadFault). o ≡ None → left ≡ 0) (λ is _. eqb-true left 0 is) (λ _ h. absurd cc) e

-- what is true of the payload is true of what was written, where the answer is a good one
pub where_written : (fault : Option PayloadFault) (P : List ℕ → Type 0) (payload items : List ℕ) (r : Result (Unit {0}) PayloadFault) → r ≡ answer_of fault → items ≡ unless fault payload → (fault ≡ None → P payload) → OnOk r (P items)
where_written None P payload items r answer bytes holds =
    let Q : Result (Unit {0}) PayloadFault → Type 0 = λ s. OnOk s (P items) in
    subst Q (sym answer) (subst P (sym bytes) (holds refl))
where_written (Some fault) P payload items r answer bytes holds =
    let Q : Result (Unit {0}) PayloadFault → Type 0 = λ s. OnOk s (P items) in
    subst Q (sym answer) tt
