-- Executed commands of one source stand in the order in which they were issued, so a later one has a higher number.
use Rattle.std.proofs.Common.{◌≡◌, ◌∙◌, ℕ, zero, suc, ◌+◌, ◌<◌, ◌≤◌, Bool, true, false, cond, List, [], ◌∷◌, ◌++◌, length, map, Some, inl, inr, refl, sym, ap, subst, arith}
use Rattle.std.specs.Prelude.{slice_get, slice_index, Contains}
use Rattle.std.specs.Option.{option_map}
use Rattle.std.specs.List.{filter}
use Rattle.std.proofs.lemmas.Bool.{eq-eqb}
use Rattle.std.proofs.lemmas.List.Elements.{All-contains, filter_map-append}
use Rattle.std.proofs.lemmas.Option.{slice_get-get_or, slice_get_within, get_or_from_slice_get}
use Rattle.df1_node.specs.Answer.{StationState, after_answer}
use Rattle.each_once.specs.BySource.{AreOnceOf, is_of_source}
use Rattle.each_once.specs.Commands.{command_at}
use Rattle.each_once.specs.Exchanges.{exchanges}
use Rattle.each_once.specs.Once.{Once, AreApart, IsReplyTo}
use Rattle.each_once.specs.Tells.{answers_in, executed_at, executed_in}
use Rattle.each_once.proofs.RisingPlaces.{RiseFrom, rise-of}
use Rattle.run_laws.specs.Overtaking.{IsExecuted, IsExecutedOrAnswered, NothingOvertakes, source_of}
use Rattle.replay_report.specs.declared.record.Line.{Line}
use Rattle.script_statement.specs.declared.who.Who.{Who}

-- ---- places in lists

pub front-get : {X : Type 0} (xs more : List X) (p : ℕ) (x : X) → slice_get xs p ≡ Some x → slice_get (xs ++ more) p ≡ Some x
front-get [] more p x is = absurd cc
front-get (y ∷ xs) more zero x is = is
front-get (y ∷ xs) more (suc p) x is = front-get xs more p x is

behind-get : {X : Type 0} (xs more : List X) (p k : ℕ) (x : X) → k ≡ length xs + p → slice_get more p ≡ Some x → slice_get (xs ++ more) k ≡ Some x
behind-get [] more p k x place is = let same : k ≡ p = omega (arith, place) in subst (λ n. slice_get more n ≡ Some x) (sym same) is
behind-get (y ∷ xs) more p zero x place is = absurd (omega (arith, place))
behind-get (y ∷ xs) more p (suc k) x place is = behind-get xs more p k x (omega (arith, place)) is

place-of : {X : Type 0} (xs : List X) (x : X) → Contains xs x → (i : ℕ) × (slice_get xs i ≡ Some x)
place-of xs x h = (h.0, slice_get-get_or xs h.0 x h.1 ∙ ap Some h.2)

is-at : {X : Type 0} (xs : List X) (i : ℕ) (x : X) → slice_get xs i ≡ Some x → Contains xs x
is-at xs i x is = (i, slice_get_within xs i x is, get_or_from_slice_get xs i x x is)

-- where each element stands
placed : {X : Type 0} (some all : List X) (places : List ℕ) (k : ℕ) (x : X) → map Some some ≡ map (slice_get all) places → slice_get some k ≡ Some x → (q : ℕ) × (slice_get places k ≡ Some q) × (slice_get all q ≡ Some x)
placed [] all places k x same is = absurd cc
placed (y ∷ some) all [] k x same is = absurd cc
placed (y ∷ some) all (p ∷ places) zero x same is = let head : Some y ≡ slice_get all p = cc in (p, refl, sym head ∙ is)
placed (y ∷ some) all (p ∷ places) (suc k) x same is = let tail : map Some some ≡ map (slice_get all) places = cc in placed some all places k x tail is

-- ---- numbers that rise where they pass a test

rise-member : (p : ℕ → Bool) (low : ℕ) (xs : List ℕ) (k x : ℕ) → RiseFrom low (filter p xs) → slice_get xs k ≡ Some x → p x ≡ true → low ≤ x
rise-member p low [] k x rise is passes = absurd cc
rise-member p low (y ∷ xs) zero x rise is passes =
    let same : y ≡ x = cc in
    let yes : p y ≡ true = ap p same ∙ passes in
    let first = rw yes at rise in
    omega (arith, first.0, same)
rise-member p low (y ∷ xs) (suc k) x rise is passes =
    elim (p y) as (λ b. RiseFrom low (cond b (y ∷ filter p xs) (filter p xs)) → low ≤ x) [
      | true ↦ λ h. let more = rise-member p (suc y) xs k x h.1 is passes in let least = h.0 in omega (arith, more, least)
      | false ↦ λ h. rise-member p low xs k x h is passes
    ] rise

rise-pair : (p : ℕ → Bool) (low : ℕ) (xs : List ℕ) (i k x y : ℕ) → RiseFrom low (filter p xs) → i < k → slice_get xs i ≡ Some x → slice_get xs k ≡ Some y → p x ≡ true → p y ≡ true → x < y
rise-pair p low [] i k x y rise less is-x is-y of-x of-y = absurd cc
rise-pair p low (z ∷ xs) zero zero x y rise less is-x is-y of-x of-y = absurd (omega (arith, less))
rise-pair p low (z ∷ xs) zero (suc k) x y rise less is-x is-y of-x of-y =
    let same : z ≡ x = cc in
    let yes : p z ≡ true = ap p same ∙ of-x in
    let first = rw yes at rise in
    let above = rise-member p (suc z) xs k y first.1 is-y of-y in
    omega (arith, above, same)
rise-pair p low (z ∷ xs) (suc i) zero x y rise less is-x is-y of-x of-y = absurd (omega (arith, less))
rise-pair p low (z ∷ xs) (suc i) (suc k) x y rise less is-x is-y of-x of-y =
    elim (p z) as (λ b. RiseFrom low (cond b (z ∷ filter p xs) (filter p xs)) → x < y) [
      | true ↦ λ h. rise-pair p (suc z) xs i k x y h.1 (omega (arith, less)) is-x is-y of-x of-y
      | false ↦ λ h. rise-pair p low xs i k x y h (omega (arith, less)) is-x is-y of-x of-y
    ] rise

-- ---- the commands that are executed

-- what a station answered it executed
exchanged : (station : StationState) (bodies : List (List ℕ)) (i : ℕ) (body reply : List ℕ) → slice_get (exchanges station bodies) i ≡ Some (body, reply) → slice_get bodies i ≡ Some body
exchanged station [] i body reply is = absurd cc
exchanged station (b ∷ bodies) zero body reply is = ap (option_map (λ (e : List ℕ × List ℕ). e.0)) is
exchanged station (b ∷ bodies) (suc i) body reply is = exchanged (after_answer station b) bodies i body reply is

front-command : (issued first more : List (List ℕ)) (n : ℕ) (body : List ℕ) → issued ≡ first ++ more → command_at first n ≡ Some body → command_at issued n ≡ Some body
front-command issued first more zero body is known = absurd cc
front-command issued first more (suc p) body is known = rw is (front-get first more p body known)

-- an answered command was executed before
answered-executed : (from to : Who) (issued first more : List (List ℕ)) (station : StationState) (before : List Line) (n : ℕ) → issued ≡ first ++ more → Once from to first station before → IsExecutedOrAnswered from to issued before n → IsExecuted to issued before n
answered-executed from to issued first more station before n is once (inl executed) = executed
answered-executed from to issued first more station before n is once (inr answered) =
    let executed = executed_in to before in
    let told = All-contains (λ a. IsReplyTo first (exchanges station executed) a.0 a.1) (answers_in from before) (n, answered.reply) once.answers answered.is_answer in
    let at = place-of (exchanges station executed) (told.body, answered.reply) told.is_answer in
    record {
      body = told.body;
      is_command = front-command issued first more n told.body is told.is_command;
      is_executed = is-at executed at.0 told.body (exchanged station executed at.0 told.body answered.reply at.1);
    }

-- the place of a command's body among those that are issued is its number
numbered : (issued : List (List ℕ)) (apart : AreApart issued) (n q : ℕ) (body : List ℕ) → command_at issued n ≡ Some body → slice_get issued q ≡ Some body → n ≡ suc q
numbered issued apart zero q body known at = absurd cc
numbered issued apart (suc p) q body known at = ap suc (apart p q body known at)

of-source : (issued : List (List ℕ)) (q : ℕ) (body : List ℕ) (source : ℕ) → slice_get issued q ≡ Some body → slice_index body 1 ≡ source → is_of_source issued source q ≡ true
of-source issued q body source at is = eq-eqb _ source (ap (λ b. slice_index b 1) (get_or_from_slice_get issued q body [] at) ∙ is)

same-source : (issued : List (List ℕ)) (m n : ℕ) (one other : List ℕ) → command_at issued m ≡ Some one → command_at issued n ≡ Some other → source_of issued m ≡ source_of issued n → slice_index other 1 ≡ slice_index one 1
same-source issued m n one other is-one is-other same =
    let first : source_of issued m ≡ Some (slice_index one 1) = ap (option_map (λ (body : List ℕ). slice_index body 1)) is-one in
    let second : source_of issued n ≡ Some (slice_index other 1) = ap (option_map (λ (body : List ℕ). slice_index body 1)) is-other in
    let both : Some (slice_index one 1) ≡ Some (slice_index other 1) = sym first ∙ same ∙ second in
    cc

-- of two that were executed one after the other in the name of one source the later one has the higher number
later-higher : (issued executed rest : List (List ℕ)) (i k m n : ℕ) (one other : List ℕ) → AreApart issued → AreOnceOf (executed ++ rest) issued → slice_get executed i ≡ Some one → slice_get rest k ≡ Some other
    → command_at issued m ≡ Some one → command_at issued n ≡ Some other → source_of issued m ≡ source_of issued n → m < n
later-higher issued executed rest i k m n one other apart (places, distinct, rise, same) at-one at-other is-one is-other source =
    let first = placed (executed ++ rest) issued places i one same (front-get executed rest i one at-one) in
    let second = placed (executed ++ rest) issued places (length executed + k) other same (behind-get executed rest k (length executed + k) other refl at-other) in
    let number-one = numbered issued apart m first.0 one is-one first.2 in
    let number-other = numbered issued apart n second.0 other is-other second.2 in
    let inside = slice_get_within executed i one at-one in
    let of = slice_index one 1 in
    let rising = rise-of 0 (filter (is_of_source issued of) places) (λ some. omega arith) (rise of) in
    let less = rise-pair (is_of_source issued of) 0 places i (length executed + k) first.0 second.0 rising (omega (arith, inside)) first.1 second.1
    (of-source issued first.0 one of first.2 refl) (of-source issued second.0 other of second.2 (same-source issued m n one other is-one is-other source)) in
    omega (arith, less, number-one, number-other)

-- ---- what was executed or answered isn't overtaken

pub none-overtakes : (from to : Who) (issued first more : List (List ℕ)) (station : StationState) (before after : List Line) → issued ≡ first ++ more → Once from to first station before → Once from to issued station (before ++ after)
    → NothingOvertakes from to issued before after
none-overtakes from to issued first more station before after is once whole m n ended executed source =
    let one = answered-executed from to issued first more station before m is once ended in
    let at-one = place-of (executed_in to before) one.body one.is_executed in
    let at-other = place-of (executed_in to after) executed.body executed.is_executed in
    let order = subst (λ (bodies : List (List ℕ)). AreOnceOf bodies issued) (filter_map-append (executed_at to) before after) whole.in_order in
    later-higher issued (executed_in to before) (executed_in to after) at-one.0 at-other.0 m n one.body executed.body whole.apart order at-one.1 at-other.1 one.is_command executed.is_command source
