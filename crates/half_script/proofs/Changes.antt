-- Stations of which the first of a number is changed, and what is left of the commands of each.
use Rattle.std.proofs.Common.{◌≡◌, ℕ, suc, ◌+◌, ◌-◌, ◌<◌, Bool, true, false, not, cond, eqb, List, [], ◌∷◌, ◌++◌, set, Option, Some, None, is_some, refl, sym, ap, ◌∙◌, subst, arith}
use Rattle.std.specs.Prelude.{option_map}
use Rattle.std.specs.List.{All, position_or_len}
use Rattle.std.specs.Option.{option_map_or}
use Rattle.std.proofs.Math.Seq.{map-set_same}
use Rattle.std.proofs.lemmas.Bool.{eq-eqb, eqb-true, ne_eqb}
use Rattle.std.proofs.lemmas.Bool.Decides.{nat_tests}
use Rattle.std.proofs.lemmas.List.Elements.{All-get_or, All-set}
use Rattle.half_script.specs.declared.stations.StationDraft.{StationDraft}
use Rattle.half_script.specs.Stations.{command_taken, commands_left_at, fresh_station, has_number, numbers_in, plans_of, station_at, station_plan, with_station_command}
use Rattle.half_script.proofs.Places.{found_in, same_numbers, with_change}

abbrev pub KeepsNumbers : (StationDraft → StationDraft) → Type 0
KeepsNumbers f = (s : StationDraft) → (f s).number ≡ s.number

-- what a change keeps holds of all stations still
pub all_changed : (P : StationDraft → Type 0) (f : StationDraft → StationDraft) (stations : List StationDraft) (n : ℕ) (o : Option StationDraft) → station_at stations n ≡ o
    → ((s : StationDraft) → o ≡ Some s → P s → P (f s)) → All P stations → All P (with_change f stations n o)
all_changed P f stations n None is keeps all = all
all_changed P f stations n (Some s) is keeps all =
    let at = found_in n stations s is in
    let place = position_or_len (has_number n) stations in
    All-set P stations place (f s) (keeps s refl (subst P at.1 (All-get_or P stations place s at.0 all))) all

pub numbers_changed : (f : StationDraft → StationDraft) → KeepsNumbers f → (stations : List StationDraft) (n : ℕ) (o : Option StationDraft) → station_at stations n ≡ o
    → numbers_in (with_change f stations n o) ≡ numbers_in stations
numbers_changed f same stations n None is = refl
numbers_changed f same stations n (Some s) is =
    let at = found_in n stations s is in
    same_numbers stations (position_or_len (has_number n) stations) (f s) s (same s ∙ sym (ap (λ (x : StationDraft). x.number) at.1))

-- ---- which station a number finds then

-- behind a station of another number
behind : (f : StationDraft → StationDraft) (s : StationDraft) (stations : List StationDraft) (n : ℕ) (o : Option StationDraft)
    → option_map_or (λ (x : StationDraft). set (s ∷ stations) (1 + position_or_len (has_number n) stations) (f x)) o (s ∷ stations) ≡ s ∷ with_change f stations n o
behind f s stations n None = refl
behind f s stations n (Some x) =
    let next : 1 + position_or_len (has_number n) stations ≡ suc (position_or_len (has_number n) stations) = omega arith in
    ap (λ place. set (s ∷ stations) place (f x)) next

-- the station that was found, changed where it is the one of that number
abbrev changed_if : (StationDraft → StationDraft) → Bool → Option StationDraft → Option StationDraft
changed_if f here o = option_map (λ (s : StationDraft). cond here (f s) s) o

unchanged : (f : StationDraft → StationDraft) (o : Option StationDraft) → o ≡ changed_if f false o
unchanged f None = refl
unchanged f (Some s) = refl

apart : (s k n : ℕ) → eqb s k ≡ true → eqb s n ≡ false → eqb k n ≡ false
apart s k n is other = subst (λ x. eqb x n ≡ false) (eqb-true s k is) other

met : (s k n : ℕ) → eqb s k ≡ true → eqb s n ≡ true → eqb k n ≡ true
met s k n is other = subst (λ x. eqb x n ≡ true) (eqb-true s k is) other

missed : (s k n : ℕ) → eqb s k ≡ false → eqb s n ≡ true → eqb k n ≡ false
missed s k n is other = elim (eqb k n) as (λ b. eqb k n ≡ b → b ≡ false) [
  | true ↦ λ same. let no : eqb s k ≡ true = subst (λ x. eqb s x ≡ true) (sym (eqb-true k n same)) other in cc
  | false ↦ λ _. refl
] refl

pub found_changed : (f : StationDraft → StationDraft) → KeepsNumbers f → (stations : List StationDraft) (k n : ℕ)
    → station_at (with_change f stations k (station_at stations k)) n ≡ changed_if f (eqb k n) (station_at stations n)
found_changed f same [] k n = refl
found_changed f same (s ∷ stations) k n =
    elim (eqb s.number k) as (λ b. eqb s.number k ≡ b
    → station_at (option_map_or (λ (x : StationDraft). set (s ∷ stations) (cond (not b) (1 + position_or_len (has_number k) stations) 0) (f x)) (cond b (Some s) (station_at stations k)) (s ∷ stations)) n
    ≡ changed_if f (eqb k n) (cond (eqb s.number n) (Some s) (station_at stations n))) [
      | true ↦ λ is. ap (λ m. cond (eqb m n) (Some (f s)) (station_at stations n)) (same s) ∙ (elim (eqb s.number n) as (λ c. eqb s.number n ≡ c → cond c (Some (f s)) (station_at stations n) ≡ changed_if f (eqb k n) (cond c (Some s) (station_at stations n))) [
        | true ↦ λ at. rw (met s.number k n is at) refl
        | false ↦ λ at. rw (apart s.number k n is at) (unchanged f (station_at stations n))
      ] refl)
      | false ↦ λ is. rw (behind f s stations k (station_at stations k)) (elim (eqb s.number n) as (λ c. eqb s.number n ≡ c
          → cond c (Some s) (station_at (with_change f stations k (station_at stations k)) n) ≡ changed_if f (eqb k n) (cond c (Some s) (station_at stations n))) [
            | true ↦ λ at. rw (missed s.number k n is at) refl
            | false ↦ λ at. found_changed f same stations k n
          ] refl)
    ] refl

-- ---- what is left of the commands of each number

abbrev left_of : Option StationDraft → ℕ
left_of o = option_map_or (λ (s : StationDraft). s.end.commands_left) o 65535

-- a new station has issued none
pub left_push : (stations : List StationDraft) (m n : ℕ) → commands_left_at (stations ++ fresh_station m ∷ []) n ≡ commands_left_at stations n
left_push [] m n = elim (eqb m n) as (λ b. left_of (cond b (Some (fresh_station m)) None) ≡ 65535) [
  | true ↦ refl
  | false ↦ refl
]
left_push (s ∷ stations) m n =
    elim (eqb s.number n) as (λ b. left_of (cond b (Some s) (station_at (stations ++ fresh_station m ∷ []) n)) ≡ left_of (cond b (Some s) (station_at stations n))) [
      | true ↦ refl
      | false ↦ left_push stations m n
    ]

left-kept : (f : StationDraft → StationDraft) → ((s : StationDraft) → (f s).end.commands_left ≡ s.end.commands_left) → (here : Bool) (o : Option StationDraft) → left_of (changed_if f here o) ≡ left_of o
left-kept f same here None = refl
left-kept f same true (Some s) = same s
left-kept f same false (Some s) = refl

-- a change that is no command leaves it
pub left_changed : (f : StationDraft → StationDraft) → KeepsNumbers f → ((s : StationDraft) → (f s).end.commands_left ≡ s.end.commands_left) → (stations : List StationDraft) (k n : ℕ)
    → commands_left_at (with_change f stations k (station_at stations k)) n ≡ commands_left_at stations n
left_changed f numbers same stations k n = ap left_of (found_changed f numbers stations k n) ∙ left-kept f same (eqb k n) (station_at stations n)

-- ---- a command of a station

pub spends : (left count : ℕ) → count + left ≡ 65535 → eqb left 0 ≡ false → count + 1 + (left - 1) ≡ 65535
spends left count sum some = let more : 0 < left = grind (arith, nat_tests) in omega arith

left-same : (o : Option StationDraft) → left_of (changed_if command_taken false o) ≡ left_of o
left-same None = refl
left-same (Some s) = refl

-- after a command of a number's station, by how many each number had issued
pub left_after_command : (stations : List StationDraft) (k n count : ℕ) (o : Option StationDraft) → station_at stations k ≡ o → is_some o ≡ true
    → option_map_or (λ (s : StationDraft). eqb s.end.commands_left 0) o false ≡ false → count + commands_left_at stations n ≡ 65535
    → count + cond (eqb n k) 1 0 + commands_left_at (with_station_command stations k) n ≡ 65535
left_after_command stations k n count None is some unspent sum = cc
left_after_command stations k n count (Some s) is some unspent sum =
    let found = found_changed command_taken (λ x. refl) stations k n in
    elim (eqb n k) as (λ b. eqb n k ≡ b → count + cond b 1 0 + commands_left_at (with_station_command stations k) n ≡ 65535) [
      | true ↦ λ same.
          let here : k ≡ n = sym (eqb-true n k same) in
          let at : station_at stations n ≡ Some s = subst (λ (m : ℕ). station_at stations m ≡ Some s) here is in
          let yes : eqb k n ≡ true = eq-eqb k n here in
          let before : count + s.end.commands_left ≡ 65535 = (rw at at sum) in
          rw (found, yes, at) (spends s.end.commands_left count before unspent)
      | false ↦ λ other.
          let no : eqb k n ≡ false = ne_eqb k n (λ e. let yes : eqb n k ≡ true = eq-eqb n k (sym e) in cc) in
          let kept : commands_left_at (with_station_command stations k) n ≡ commands_left_at stations n = rw (found, no) (left-same (station_at stations n)) in
          omega (arith, kept, sum)
    ] refl

-- its plan is the same
pub plans_after_command : (stations : List StationDraft) (k : ℕ) (o : Option StationDraft) → station_at stations k ≡ o → plans_of (with_change command_taken stations k o) ≡ plans_of stations
plans_after_command stations k None is = refl
plans_after_command stations k (Some s) is =
    let at = found_in k stations s is in
    map-set_same station_plan stations (position_or_len (has_number k) stations) (command_taken s) s (sym (ap station_plan at.1))
