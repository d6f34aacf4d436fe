-- How tables are made: the directory with a file more, and the words of all files, which are 0.
use Rattle.std.proofs.Common.{◌≡◌, ◌<◌, ◌≤◌, ℕ, ◌+◌, ◌-◌, ◌*◌, ◌∙◌, Bool, Option, ◌||◌, true, false, cond, List, [], ◌∷◌, ◌++◌, length, Some, None, refl, sym, ap, arith, get_or, take, drop, replicate, ◌==◌, add-zero, add_assoc}
use Rattle.std.specs.Option.{option_or}
use Rattle.std.specs.List.{list_any}
use Rattle.std.specs.Ordering.{nat_cmp}
use Rattle.std.specs.Cmp.{unsigned_tied}
use Rattle.std.specs.BTreeMap.{is_at}
use Rattle.std.specs.FinMap as map_of
use Rattle.std.proofs.lemmas.List.{take_more, take-replicate, drop-replicate}
use Rattle.std.proofs.lemmas.List.Sums.{sum_by_push, sum_by-cons, sum_by-take-le}
use Rattle.std.proofs.lemmas.Bool.{eqb-true}
use Rattle.data_files.specs.declared.tables.File.{File}
use Rattle.data_files.specs.declared.file_spec.FileSpec.{FileSpec}
use Rattle.data_files.specs.Tables.{faults, fresh, placed, total_words, word_count, zero_entries}
use Rattle.data_files.specs.Directory.{entries_of, found, tables_of}
use Rattle.data_files.proofs.NoFault.{few_files, is_next_at, no_first_fault, words_within}
use Rattle.data_files.proofs.Placed.{cond-or, or-None}
use Rattle.data_files.proofs.Files.{Lacks, found-lacks}

-- the words of the files up to a place
pub total-more : (specs : List FileSpec) (i : ℕ) (d : FileSpec) → i < length specs → total_words (take (i + 1) specs) ≡ total_words (take i specs) + word_count (get_or specs i d)
total-more specs i d within = ap total_words (take_more specs i d within) ∙ sum_by_push word_count (take i specs) (get_or specs i d)

pub total-within : (specs : List FileSpec) (i : ℕ) → faults specs ≡ None → total_words (take i specs) ≤ 768000
total-within specs i valid =
    let all : total_words specs ≤ 3000 * length specs = words_within [] specs (no_first_fault specs valid) in
    let few : length specs ≤ 256 = few_files specs valid in
    let part : total_words (take i specs) ≤ total_words specs = sum_by-take-le word_count specs i in
    omega arith

-- the directory with a file more
abbrev file_from : FileSpec → ℕ → File
file_from s p = record { spec = s; start = p }

with_start : (s : FileSpec) (p q n : ℕ) → p ≡ q → cond (s.number == n) (Some (file_from s p)) None ≡ cond (s.number == n) (Some (file_from s q)) None
with_start s p q n same = ap (λ m. cond (s.number == n) (Some (file_from s m)) None) same

found-push : (p : ℕ) (specs : List FileSpec) (s : FileSpec) (n : ℕ) →
    found p (specs ++ s ∷ []) n ≡ option_or (found p specs n) (cond (s.number == n) (Some (file_from s (p + total_words specs))) None)
found-push p [] s n = with_start s p (p + 0) n (sym (add-zero p))
found-push p (x ∷ specs) s n =
    let here : File = record { spec = x; start = p } in
    let total : p + word_count x + total_words specs ≡ p + total_words (x ∷ specs) = add_assoc p (word_count x) (total_words specs) ∙ sym (ap (λ m. p + m) (sum_by-cons word_count x specs)) in
    ap (cond (x.number == n) (Some here)) (found-push (p + word_count x) specs s n ∙ ap (option_or (found (p + word_count x) specs n)) (with_start s (p + word_count x + total_words specs) (p + total_words (x ∷ specs)) n total))
    ∙ cond-or (x.number == n) here (found (p + word_count x) specs n) (cond (s.number == n) (Some (file_from s (p + total_words (x ∷ specs)))) None)

neither : (a b : Bool) → (a || b) ≡ false → (a ≡ false) × (b ≡ false)
neither true b e = cc
neither false b e = (refl, e)

lacks_any : (n : ℕ) (specs : List FileSpec) → list_any (λ o. o.number == n) specs ≡ false → Lacks n specs
lacks_any n [] e = tt
lacks_any n (o ∷ specs) e =
    let parts : ((o.number == n) ≡ false) × (list_any (λ p. p.number == n) specs ≡ false) = neither (o.number == n) _ e in
    (parts.0, lacks_any n specs parts.1)

one_more : {A : Type 0} (b : Bool) (x : A) (o : Option A) → (b ≡ true → o ≡ None) → cond b (Some x) o ≡ option_or o (cond b (Some x) None)
one_more true x o none = sym (ap (λ q. option_or q (Some x)) (none refl))
one_more false x o none = sym (or-None o)

pub found-more : (specs : List FileSpec) (i : ℕ) (d : FileSpec) (start n : ℕ) (old : Option File) → faults specs ≡ None → i < length specs → start ≡ total_words (take i specs) → old ≡ found 0 (take i specs) n →
    cond (is_at (nat_cmp (get_or specs i d).number) n) (Some (record { spec = get_or specs i d; start = start })) old ≡ found 0 (take (i + 1) specs) n
found-more specs i d start n old valid within begins finds =
    let new : list_any (λ o. o.number == (get_or specs i d).number) (take i specs) ≡ false = is_next_at [] specs i d (no_first_fault specs valid) within in
    let begins_at : start ≡ 0 + total_words (take i specs) = omega arith in
    let here : File = record { spec = get_or specs i d; start = start } in
    ap (cond (is_at (nat_cmp (get_or specs i d).number) n) (Some here)) finds
    ∙ ap (λ b. cond b (Some here) (found 0 (take i specs) n)) (unsigned_tied (get_or specs i d).number n)
    ∙ one_more ((get_or specs i d).number == n) here (found 0 (take i specs) n) (λ same.
    found-lacks 0 (take i specs) n (lacks_any n (take i specs) (sym (ap (λ m. list_any (λ o. o.number == m) (take i specs)) (eqb-true (get_or specs i d).number n same)) ∙ new)))
    ∙ ap (option_or (found 0 (take i specs) n)) (with_start (get_or specs i d) start (0 + total_words (take i specs)) n begins_at)
    ∙ sym (found-push 0 (take i specs) (get_or specs i d) n)
    ∙ sym (ap (λ ss. found 0 ss n) (take_more specs i d within))

-- words that are all 0, in two parts
drop_zeros : (m n : ℕ) → drop {A = ℕ} m (replicate (m + n) 0) ≡ replicate n 0
drop_zeros m n = let left : m + n - m ≡ n = omega arith in drop-replicate {X = ℕ} m (m + n) 0 ∙ ap (λ k. replicate {A = ℕ} k 0) left

entries-fresh : (specs : List FileSpec) → entries_of specs (replicate (total_words specs) 0) ≡ zero_entries specs
entries-fresh [] = refl
entries-fresh (s ∷ ss) =
    let total : total_words (s ∷ ss) ≡ word_count s + total_words ss = sum_by-cons word_count s ss in
    ap (λ n. entries_of (s ∷ ss) (replicate n 0)) total
    ∙ ap (λ ws. placed s.number 0 ws ++ entries_of ss (drop (word_count s) (replicate (word_count s + total_words ss) 0))) (take-replicate (word_count s) (word_count s + total_words ss) 0 (omega arith))
    ∙ ap (λ ws. placed s.number 0 (replicate (word_count s) 0) ++ entries_of ss ws) (drop_zeros (word_count s) (total_words ss))
    ∙ ap (λ es. placed s.number 0 (replicate (word_count s) 0) ++ es) (entries-fresh ss)

pub tables-fresh : (specs : List FileSpec) → tables_of specs (replicate (total_words specs) 0) ≡ fresh specs
tables-fresh specs = ap (λ es. record { specs = specs; words = map_of.from_entries es }) (entries-fresh specs)
