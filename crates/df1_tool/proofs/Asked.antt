-- What the words of a form may ask for.
use Rattle.std.proofs.Common.{◌≡◌, ◌≤◌, ◌<◌, ℕ, zero, suc, Bool, true, false, List, [], ◌∷◌, length, get_or, map, Option, None, Some, refl, sym, ap, subst, arith, lit≤}
use Rattle.std.specs.Prelude.{IfSome, IsSome, MatchOption, if◌then◌else◌, codes, option_map, slice_index_or}
use Rattle.std.specs.Str.{bytes_eq}
use Rattle.script_statement.specs.Words.{within, number_of as short_number}
use Rattle.df1_tool.specs.declared.form.Form.{Form}
use Rattle.df1_tool.specs.declared.form.Form.TheVariants.{Replay, Serve, Issue, Dissect, Check as Count, Drill, Storm, Vectors, Pull, Push, Route, RehearsePull, RehearsePush}
use Rattle.df1_tool.specs.declared.form.Rounds.{Rounds}
use Rattle.df1_capture.specs.declared.capture.Capture.{Capture}
use Rattle.df1_tool.specs.Forms.{capture_of, data_of, file_of, form_of, form_of_four, form_of_three, number_of, pull_by, pull_of, push_by, push_of, rehearsed, rounds_by, rounds_of}

-- a drill and a storm have at most 20,000 rounds, and a transfer has a file of 0 to 999, and 1 to 3,000 words
abbrev Asked : List (List ℕ) → Form → Type 0
Asked words Replay = Unit {0}
Asked words (Serve timed) = Unit {0}
Asked words Issue = Unit {0}
Asked words (Dissect capture) = Unit {0}
Asked words (Count capture) = Unit {0}
Asked words (Drill rounds) = rounds.count ≤ 20000
Asked words (Storm rounds) = rounds.count ≤ 20000
Asked words Vectors = Unit {0}
Asked words (Pull file count) = (file ≤ 999) × (1 ≤ count) × (count ≤ 3000)
Asked words (Push file) = (file ≤ 999) × IsSome (data_of (slice_index_or words 3 [])) × (4 ≤ length words)
Asked words Route = Unit {0}
Asked words (RehearsePull file count) = (file ≤ 999) × (1 ≤ count) × (count ≤ 3000)
Asked words (RehearsePush file) = (file ≤ 999) × IsSome (data_of (slice_index_or words 3 [])) × (4 ≤ length words)

of-either : (P : Form → Type 0) (test : Bool) (a b : Option Form) → IfSome a P → IfSome b P → IfSome (if test then a else b) P
of-either P true a b of-a of-b = of-a
of-either P false a b of-a of-b = of-b

is-within : (least most n : ℕ) (known : Option ℕ) → within least most known ≡ Some n → (least ≤ n) × (n ≤ most)
is-within least most n None is = absurd cc
is-within least most n (Some m) is = (grind arith, grind arith)

-- ---- rounds

of-rounds-by : (seed count : Option ℕ) → ((n : ℕ) → count ≡ Some n → n ≤ 20000) → IfSome (rounds_by seed count) (λ rounds. rounds.count ≤ 20000)
of-rounds-by None count few = tt
of-rounds-by (Some seed) None few = tt
of-rounds-by (Some seed) (Some n) few = few n refl

of-rounds : (P : Form → Type 0) (rounds : Option Rounds) (make : Rounds → Form) → ((r : Rounds) → r.count ≤ 20000 → P (make r)) → IfSome rounds (λ r. r.count ≤ 20000) → IfSome (option_map make rounds) P
of-rounds P None make makes few = tt
of-rounds P (Some rounds) make makes few = makes rounds few

of-capture : (P : Form → Type 0) (capture : Option Capture) (make : Capture → Form) → ((c : Capture) → P (make c)) → IfSome (option_map make capture) P
of-capture P None make makes = tt
of-capture P (Some capture) make makes = makes capture

of-three : (words : List (List ℕ)) (word second third : List ℕ) → IfSome (form_of_three word second third) (Asked words)
of-three words word second third =
    let P = Asked words in
    let rounds = rounds_of second third in
    let few = of-rounds-by (within 0 4294967295 (number_of second)) (within 1 20000 (number_of third)) (λ n is. (is-within 1 20000 n (number_of third) is).1) in
    of-either P (bytes_eq word (codes "serve")) _ _ (of-either P (bytes_eq third (codes "raw")) _ _ tt (of-either P (bytes_eq third (codes "timed")) _ _ tt tt))
    (of-either P (bytes_eq word (codes "dissect")) _ _ (of-capture P (capture_of second third) Dissect (λ c. tt))
    (of-either P (bytes_eq word (codes "check")) _ _ (of-capture P (capture_of second third) Count (λ c. tt))
    (of-either P (bytes_eq word (codes "drill")) _ _ (of-rounds P rounds Drill (λ r few. few) few)
    (of-either P (bytes_eq word (codes "storm")) _ _ (of-rounds P rounds Storm (λ r few. few) few) tt))))

-- ---- transfers

of-pull : (words : List (List ℕ)) (file count : Option ℕ) → ((n : ℕ) → file ≡ Some n → n ≤ 999) → ((n : ℕ) → count ≡ Some n → (1 ≤ n) × (n ≤ 3000)) → IfSome (pull_by file count) (Asked words)
of-pull words None count of-file of-count = tt
of-pull words (Some file) None of-file of-count = tt
of-pull words (Some file) (Some count) of-file of-count = (of-file file refl, (of-count count refl).0, (of-count count refl).1)

of-push : (words : List (List ℕ)) (file : Option ℕ) (bytes : Option (List ℕ)) → ((n : ℕ) → file ≡ Some n → n ≤ 999) → (IsSome bytes → IsSome (data_of (slice_index_or words 3 []))) → 4 ≤ length words → IfSome (push_by file bytes) (Asked words)
of-push words None bytes of-file of-bytes many = tt
of-push words (Some file) None of-file of-bytes many = tt
of-push words (Some file) (Some bytes) of-file of-bytes many = (of-file file refl, of-bytes refl, many)

-- what a rehearsed transfer asks for is what the transfer does
of-rehearsed : (words : List (List ℕ)) (transfer : Option Form) → IfSome transfer (Asked words) → IfSome (rehearsed transfer) (Asked words)
of-rehearsed words None asked = tt
of-rehearsed words (Some Replay) asked = tt
of-rehearsed words (Some (Serve timed)) asked = tt
of-rehearsed words (Some Issue) asked = tt
of-rehearsed words (Some (Dissect capture)) asked = tt
of-rehearsed words (Some (Count capture)) asked = tt
of-rehearsed words (Some (Drill rounds)) asked = tt
of-rehearsed words (Some (Storm rounds)) asked = tt
of-rehearsed words (Some Vectors) asked = tt
of-rehearsed words (Some (Pull file count)) asked = asked
of-rehearsed words (Some (Push file)) asked = asked
of-rehearsed words (Some Route) asked = tt
of-rehearsed words (Some (RehearsePull file count)) asked = tt
of-rehearsed words (Some (RehearsePush file)) asked = tt

of-four : (word second third fourth : List ℕ) → IfSome (form_of_four word second third fourth) (Asked (word ∷ second ∷ third ∷ fourth ∷ []))
of-four word second third fourth =
    let words = word ∷ second ∷ third ∷ fourth ∷ [] in
    let P = Asked words in
    let file : (n : ℕ) → file_of third ≡ Some n → n ≤ 999 = λ n is. (is-within 0 999 n (short_number third) is).1 in
    let count : (n : ℕ) → within 1 3000 (short_number fourth) ≡ Some n → (1 ≤ n) × (n ≤ 3000) = λ n is. is-within 1 3000 n (short_number fourth) is in
    let pulls : IfSome (pull_of third fourth) P = of-pull words (file_of third) (within 1 3000 (short_number fourth)) file count in
    let pushes : IfSome (push_of third fourth) P = of-push words (file_of third) (data_of fourth) file (λ some. some) (lit≤ tt) in
    of-either P (bytes_eq word (codes "pull")) _ _ pulls
    (of-either P (bytes_eq word (codes "push")) _ _ pushes
    (of-either P (bytes_eq word (codes "rehearse")) _ _
    (of-either P (bytes_eq second (codes "pull")) _ _ (of-rehearsed words (pull_of third fourth) pulls)
    (of-either P (bytes_eq second (codes "push")) _ _ (of-rehearsed words (push_of third fourth) pushes) tt)) tt))

-- ---- all forms

of-form : (words : List (List ℕ)) → IfSome (form_of words) (Asked words)
unfolding form_of
of-form [] = tt
of-form (word ∷ []) =
    let P = Asked (word ∷ []) in
    of-either P (bytes_eq word (codes "replay")) _ _ tt (of-either P (bytes_eq word (codes "route")) _ _ tt (of-either P (bytes_eq word (codes "vectors")) _ _ tt tt))
of-form (word ∷ plan ∷ []) = of-either (Asked (word ∷ plan ∷ [])) (bytes_eq word (codes "issue")) _ _ tt tt
of-form (word ∷ second ∷ third ∷ []) = of-three (word ∷ second ∷ third ∷ []) word second third
of-form (word ∷ plan ∷ third ∷ fourth ∷ []) = of-four word plan third fourth
of-form (a ∷ b ∷ c ∷ d ∷ e ∷ more) = tt

pub few-drill : (words : List (List ℕ)) (rounds : Rounds) → form_of words ≡ Some (Drill rounds) → rounds.count ≤ 20000
few-drill words rounds is = let few = of-form words in rw is at few

pub few-storm : (words : List (List ℕ)) (rounds : Rounds) → form_of words ≡ Some (Storm rounds) → rounds.count ≤ 20000
few-storm words rounds is = let few = of-form words in rw is at few

pub pulls-within : (words : List (List ℕ)) (file count : ℕ) → form_of words ≡ Some (Pull file count) → (file ≤ 999) × (1 ≤ count) × (count ≤ 3000)
pulls-within words file count is = let asked = of-form words in rw is at asked

pub pushes-within : (words : List (List ℕ)) (file : ℕ) → form_of words ≡ Some (Push file) → (file ≤ 999) × IsSome (data_of (slice_index_or words 3 [])) × (4 ≤ length words)
pushes-within words file is = let asked = of-form words in rw is at asked

pub rehearses-pull-within : (words : List (List ℕ)) (file count : ℕ) → form_of words ≡ Some (RehearsePull file count) → (file ≤ 999) × (1 ≤ count) × (count ≤ 3000)
rehearses-pull-within words file count is = let asked = of-form words in rw is at asked

pub rehearses-push-within : (words : List (List ℕ)) (file : ℕ) → form_of words ≡ Some (RehearsePush file) → (file ≤ 999) × IsSome (data_of (slice_index_or words 3 [])) × (4 ≤ length words)
rehearses-push-within words file is = let asked = of-form words in rw is at asked

-- ---- the words themselves

-- a word of the call, by its place
pub nth-word : {X : Type 0} (bytes : X → List ℕ) (words : List X) (n : ℕ) (x : X) → n < length words → x ≡ get_or words n x → slice_index_or (map bytes words) n [] ≡ bytes x
nth-word bytes [] n x within is = absurd (omega (arith, within))
nth-word bytes (a ∷ more) zero x within is = ap bytes (sym is)
nth-word bytes (a ∷ more) (suc n) x within is = nth-word bytes more n x (omega (arith, within)) is

-- data that a word spells are there
pub is-spelled : {X : Type 0} (items : X → List ℕ) (spelled : Option (List ℕ)) (answer : Option X) → IsSome spelled → MatchOption answer (spelled ≡ None) (λ x. spelled ≡ Some (items x)) → IsSome answer
is-spelled items spelled (Some x) some told = refl
is-spelled items spelled None some told = let none : IsSome {T = List ℕ} None = subst (λ (s : Option (List ℕ)). IsSome s) told some in absurd cc

pub spells : {X : Type 0} (items : X → List ℕ) (spelled : Option (List ℕ)) (answer : Option X) (x : X) → answer ≡ Some x → MatchOption answer (spelled ≡ None) (λ x. spelled ≡ Some (items x)) → spelled ≡ Some (items x)
spells items spelled answer x is told = let same = told in rw is at same
