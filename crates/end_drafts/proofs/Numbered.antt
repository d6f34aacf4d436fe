-- A table of the first files of their numbers, with one file more.
use Rattle.std.proofs.Common.{◌≡◌, ℕ, Bool, true, false, cond, List, [], ◌∷◌, ◌++◌, find, Option, Some, None, is_some, ◌==◌, ◌||◌, refl, ◌∙◌, sym, ap}
use Rattle.std.specs.List.{list_any}
use Rattle.std.specs.Option.{option_or, unwrap_or}
use Rattle.std.specs.Prelude.{slice_index_or}
use Rattle.std.proofs.lemmas.Bool.{eqb-true}
use Rattle.std.proofs.lemmas.List.Folds.{find-append}
use Rattle.data_files.specs.declared.file_spec.FileSpec.{FileSpec}
use Rattle.end_drafts.specs.Places.{AreNumbers}

or-None : {A : Type 0} (a : Option A) → option_or a None ≡ a
or-None None = refl
or-None (Some x) = refl

first_or : {A : Type 0} (o : Option A) (s : A) → Some (unwrap_or o s) ≡ option_or o (Some s)
first_or None s = refl
first_or (Some x) s = refl

one_more : (b : Bool) (s first : FileSpec) (o : Option FileSpec) → (b ≡ true → first ≡ unwrap_or o s) → cond b (Some first) o ≡ option_or o (cond b (Some s) None)
one_more true s first o is = ap Some (is refl) ∙ first_or o s
one_more false s first o is = sym (or-None o)

pub numbers_with : (m n : List (Option FileSpec)) (files : List FileSpec) (s first : FileSpec) → AreNumbers m files → ((i : ℕ) → slice_index_or n i None ≡ cond (s.number == i) (Some first) (slice_index_or m i None))
    → first ≡ unwrap_or (find (λ x. x.number == s.number) files) s → AreNumbers n (files ++ s ∷ [])
numbers_with m n files s first are more is = record {
  same = λ number.
      more number
      ∙ ap (cond (s.number == number) (Some first)) (are.same number)
      ∙ one_more (s.number == number) s first (find (λ x. x.number == number) files) (λ same. is ∙ ap (λ k. unwrap_or (find (λ x. x.number == k) files) s) (eqb-true s.number number same))
      ∙ sym (find-append (λ x. x.number == number) files (s ∷ []));
}

-- a file is found where one has the number
found_any : (b : Bool) (f : FileSpec) (o : Option FileSpec) → is_some (cond b (Some f) o) ≡ (b || is_some o)
found_any true f o = refl
found_any false f o = refl

pub is_found : (n : ℕ) (files : List FileSpec) → is_some (find (λ x. x.number == n) files) ≡ list_any (λ x. x.number == n) files
is_found n [] = refl
is_found n (f ∷ files) = found_any (f.number == n) f (find (λ x. x.number == n) files) ∙ ap (λ b. (f.number == n) || b) (is_found n files)
