-- What an end gave: the ends of its transmissions, each with its number and its body.
use Rattle.std.proofs.Common.{◌≡◌, ◌∙◌, ◌⊎◌, ◌<◌, ◌≤◌, ◌^◌, ℕ, zero, suc, ◌+◌, Bool, true, false, List, [], ◌∷◌, ◌++◌, length, map, Option, Some, None, inl, inr, refl, sym, ap, subst, append-nil, append_assoc, arith, length-append}
use Rattle.std.specs.Prelude.{slice_index, if◌then◌else◌}
use Rattle.std.specs.Option.{option_map, option_to_list}
use Rattle.std.specs.List.{fold, last_or}
use Rattle.std.proofs.lemmas.List.{map-append}
use Rattle.std.proofs.lemmas.List.Elements.{filter_map-append}
use Rattle.std.proofs.lemmas.Grind.{fold-append}
use Rattle.df1_base.specs.declared.host.Fate.{Fate}
use Rattle.df1_base.specs.declared.link.Out.{Out}
use Rattle.df1_node.specs.Node.{NodeState}
use Rattle.half_frame.specs.declared.heard.SlaveHeard.{SlaveHeard}
use Rattle.half_frame.specs.declared.heard.SlaveHeard.TheVariants as heard
use Rattle.half_mouth.specs.Transmissions.{numbers_ended, transmission_at}
use Rattle.half_slave.specs.declared.held.Held.{Held}
use Rattle.half_slave.specs.Slave.{SlaveState, is_answered, told, fate_at_poll, fate_at, heard_at, listened, out_at_take, slave_after_take}
use Rattle.half_slave.specs.Emission as slave
use Rattle.half_slave.specs.Fates as slave_fates
use Rattle.half_slave.specs.Past as slave_past
use Rattle.half_slave.proofs.Giving as slave_giving
use Rattle.half_master.specs.declared.table.Effect.{Effect}
use Rattle.half_master.specs.declared.table.Effect.TheVariants as effect
use Rattle.half_master.specs.Stations.{is_listed}
use Rattle.half_master.specs.Master.{MasterState, effect_of_byte, effect_at_tick, message_next, out_at_take as master_out, master_after_take}
use Rattle.half_master.specs.Emission as master
use Rattle.half_master.specs.Fates as master_fates
use Rattle.half_master.specs.Past as master_past
use Rattle.half_master.proofs.CourseLemmas.{by-test}
use Rattle.half_master.proofs.Giving as master_giving
use Rattle.lane_cells.specs.Cells.{Ending, cell_of, ending_of}
use Rattle.each_once.specs.NodeHost.{node_host}
use Rattle.each_once.proofs.Sublists.{Has, get-more}
use Rattle.half_line.specs.Transmissions.{ends_in}
use Rattle.half_line.proofs.Wire.MasterEnd.{node_keeps}
use Rattle.half_line.proofs.Wire.Told.{slave_keeps}

-- ---- lists

pub has-either : {A : Type 0} (xs ys : List A) (x : A) → Has (xs ++ ys) x → Has xs x ⊎ Has ys x
has-either [] ys x has = inr has
has-either (y ∷ xs) ys x (zero, is) = inl (zero, is)
has-either (y ∷ xs) ys x (suc k, is) = elim (has-either xs ys x (k, is)) as (λ _. Has (y ∷ xs) x ⊎ Has ys x) [ inl front ↦ inl (suc front.0, front.1) | inr back ↦ inr back ]

-- ---- the cell of a byte that is given

-- of the ends in it
abbrev pub given_ends : List ℕ → Option Out → List Ending
given_ends sending out = ends_in (option_to_list (option_map (cell_of sending) out))

given-number : (sending : List ℕ) (byte : ℕ) (last body_of : Option ℕ) → map (λ (e : Ending). e.number) (given_ends sending (Some (record { byte = byte; last_of = last; body_of = body_of }))) ≡ numbers_ended (record { byte = byte; last_of = last; body_of = body_of } ∷ [])
given-number sending byte None body_of = refl
given-number sending byte (Some n) body_of = refl

given-numbers : (sending : List ℕ) (out : Option Out) → map (λ (e : Ending). e.number) (given_ends sending out) ≡ numbers_ended (option_to_list out)
given-numbers sending None = refl
given-numbers sending (Some out) = given-number sending out.byte out.last_of out.body_of

-- what an end that was given shows
record IsGiven (sending : List ℕ) (out : Option Out) (e : Ending) : Type 0 where
  pub by : Out
  pub is : out ≡ Some by
  pub number : by.last_of ≡ Some e.number
  pub body : e.body ≡ sending

given-one : (sending : List ℕ) (byte : ℕ) (last body_of : Option ℕ) (e : Ending) → let o : Out = record { byte = byte; last_of = last; body_of = body_of } in Has (given_ends sending (Some o)) e → IsGiven sending (Some o) e
given-one sending byte None body_of e has = absurd (let no = has.1 in cc)
given-one sending byte (Some n) body_of e (zero, is) =
    let same : ending_of sending n ≡ e = cc in
    record { by = record { byte = byte; last_of = Some n; body_of = body_of }; is = refl; number = ap (λ (x : Ending). Some x.number) same; body = sym (ap (λ (x : Ending). x.body) same) }
given-one sending byte (Some n) body_of e (suc k, is) = absurd cc

given-has : (sending : List ℕ) (out : Option Out) (e : Ending) → Has (given_ends sending out) e → IsGiven sending out e
given-has sending None e has = absurd (let no = has.1 in cc)
given-has sending (Some out) e has = given-one sending out.byte out.last_of out.body_of e has

-- ---- transmissions that are carried

-- each of these ends carries its body
abbrev pub Carry : List (List ℕ) → List Ending → Type 0
Carry bodies given = (e : Ending) → Has given e → transmission_at bodies e.number ≡ Some e.body

more-transmissions : (bodies more : List (List ℕ)) (n : ℕ) (body : List ℕ) → transmission_at bodies n ≡ Some body → transmission_at (bodies ++ more) n ≡ Some body
more-transmissions bodies more zero body is = absurd cc
more-transmissions bodies more (suc place) body is = get-more bodies more place body is

-- with what was given now, while this body was sent
carry-more : (bodies more : List (List ℕ)) (given : List Ending) (sending : List ℕ) (out : Option Out) → ((by : Out) (n : ℕ) → out ≡ Some by → by.last_of ≡ Some n → transmission_at (bodies ++ more) n ≡ Some sending) → Carry bodies given
    → Carry (bodies ++ more) (given ++ given_ends sending out)
carry-more bodies more given sending out now carry e has =
    elim (has-either given (given_ends sending out) e has) as (λ _. transmission_at (bodies ++ more) e.number ≡ Some e.body) [
      | inl before ↦ more-transmissions bodies more e.number e.body (carry e before)
      | inr new ↦ let g = given-has sending out e new in now g.by e.number g.is g.number ∙ ap Some (sym g.body)
    ]

again-adds : (bodies : List (List ℕ)) (o : Option (List ℕ)) → length (bodies ++ option_to_list o) ≤ length bodies + 1
again-adds bodies None = let all = length-append bodies [] in omega (arith, all)
again-adds bodies (Some body) = let all = length-append bodies (body ∷ []) in omega (arith, all)

-- ---- the master

master-extends : (events : List master_fates.Event) (bodies : List (List ℕ)) → (more : List (List ℕ)) × (fold master_past.with_event bodies events ≡ bodies ++ more)
master-extends [] bodies = ([], sym (append-nil bodies))
master-extends (master_fates.HandedOut body ∷ events) bodies =
    let rest = master-extends events (bodies ++ body ∷ []) in
    (body ∷ rest.0, rest.1 ∙ append_assoc bodies (body ∷ []) rest.0)
master-extends (master_fates.GivenAgain ∷ events) bodies =
    let again = option_to_list (last_or None bodies) in
    let rest = master-extends events (bodies ++ again) in
    (again ++ rest.0, rest.1 ∙ append_assoc bodies again rest.0)
master-extends (master_fates.Told what ∷ events) bodies = master-extends events bodies
master-extends (master_fates.ForNoStation body ∷ events) bodies = master-extends events bodies

-- a signal begins one at most
effect-adds : (bodies : List (List ℕ)) (what : Effect) → length (fold master_past.with_event bodies (master_fates.events_of what)) ≤ length bodies + 1
effect-adds bodies effect.Nothing = omega arith
effect-adds bodies (effect.Waits left) = omega arith
effect-adds bodies effect.Delivered = omega arith
effect-adds bodies (effect.Again resent) = again-adds bodies (last_or None bodies)
effect-adds bodies effect.GivenUp = omega arith
effect-adds bodies effect.PollOver = omega arith
effect-adds bodies (effect.Accepted place) = omega arith
effect-adds bodies effect.Repeated = omega arith
effect-adds bodies effect.Refused = omega arith
effect-adds bodies effect.Damaged = omega arith
effect-adds bodies effect.Polls = omega arith

next-adds : (bodies : List (List ℕ)) (e : MasterState NodeState) (o : Option (List ℕ)) → length (fold master_past.with_event bodies (master_fates.handed_out e o)) ≤ length bodies + 1
next-adds bodies e None = omega arith
next-adds bodies e (Some body) =
    by-test (is_listed e.stations (slice_index body 0)) (λ b. length (fold master_past.with_event bodies (if b then master_fates.HandedOut body ∷ [] else master_fates.ForNoStation body ∷ [])) ≤ length bodies + 1)
    (again-adds bodies (Some body)) (omega arith)

master-adds : (bodies : List (List ℕ)) (e : MasterState NodeState) (signal : master.Letter) → length (fold master_past.with_event bodies (master_fates.events_at node_host e signal)) ≤ length bodies + 1
master-adds bodies e (master.Byte b) = effect-adds bodies (effect_of_byte node_host e b)
master-adds bodies e master.Tick = effect-adds bodies (effect_at_tick node_host e)
master-adds bodies e master.Take = next-adds bodies e (message_next node_host e)

-- the ends that the master gave after these events, of at most so many transmissions
pub record MasterEnds (e : MasterState NodeState) (events : List master_fates.Event) (most : ℕ) (given : List Ending) : Type 0 where
  pub past : master_past.Past
  pub came : master_past.Came node_host past e
  pub events_are : past.events ≡ events
  pub numbers : map (λ (x : Ending). x.number) given ≡ numbers_ended past.gave
  pub carry : Carry (master_past.transmissions events) given
  pub few : length (master_past.transmissions events) ≤ most

-- the ends at a signal
abbrev pub master_given : MasterState NodeState → master.Letter → List Ending
master_given e (master.Byte b) = []
master_given e master.Tick = []
master_given e master.Take = given_ends (master_after_take node_host e).sending (master_out node_host e)

-- nothing is given at a byte and at a tick
master-still : (e after : MasterState NodeState) (before : List master_fates.Event) (most : ℕ) (given : List Ending) (signal : master.Letter) → master.given_at node_host e signal ≡ [] → after ≡ master.master_after node_host e signal → MasterEnds e before most given
    → MasterEnds after (before ++ master_fates.events_at node_host e signal) (most + 1) (given ++ [])
master-still e after before most given signal none is m =
    let now = master_fates.events_at node_host e signal in
    let bodies = master_past.transmissions before in
    let same = fold-append master_past.with_event [] before now in
    let more = master-extends now bodies in
    record {
      past = master_past.with_signal node_host m.past e signal;
      came = subst (λ (x : MasterState NodeState). master_past.Came node_host (master_past.with_signal node_host m.past e signal) x) (sym is) (master_past.goes_on m.past e signal m.came);
      events_are = ap (λ (l : List master_fates.Event). l ++ now) m.events_are;
      numbers = ap (map (λ (x : Ending). x.number)) (append-nil given) ∙ m.numbers ∙ sym (ap numbers_ended (ap (λ (l : List Out). m.past.gave ++ l) none ∙ append-nil m.past.gave));
      carry = λ x has. rw (same, more.1) (more-transmissions bodies more.0 x.number x.body (m.carry x (subst (λ (l : List Ending). Has l x) (append-nil given) has)));
      few = let adds = master-adds bodies e signal in let was = m.few in subst (λ (l : List (List ℕ)). length l ≤ most + 1) (sym same) (omega (arith, adds, was));
    }

master-takes : (e : MasterState NodeState) (before : List master_fates.Event) (most : ℕ) (given : List Ending) → most + 1 < 2 ^ 64 → MasterEnds e before most given
    → MasterEnds (master_after_take node_host e) (before ++ master_fates.events_at node_host e master.Take) (most + 1) (given ++ master_given e master.Take)
master-takes e before most given small m =
    let now = master_fates.events_at node_host e master.Take in
    let bodies = master_past.transmissions before in
    let same = fold-append master_past.with_event [] before now in
    let more = master-extends now bodies in
    let few : length (master_past.transmissions (before ++ now)) ≤ most + 1 = (let adds = master-adds bodies e master.Take in let was = m.few in subst (λ (l : List (List ℕ)). length l ≤ most + 1) (sym same) (omega (arith, adds, was))) in
    let sending = (master_after_take node_host e).sending in
    let out = master_out node_host e in
    let all : master_past.transmissions (before ++ now) ≡ bodies ++ more.0 = same ∙ more.1 in
    record {
      past = master_past.with_signal node_host m.past e master.Take;
      came = master_past.goes_on m.past e master.Take m.came;
      events_are = ap (λ (l : List master_fates.Event). l ++ now) m.events_are;
      numbers = map-append (λ (x : Ending). x.number) given (given_ends sending out) ∙ rw (m.numbers, given-numbers sending out) (sym (filter_map-append (λ (o : Out). o.last_of) m.past.gave (option_to_list out)));
      carry = subst (λ (l : List (List ℕ)). Carry l (given ++ given_ends sending out)) (sym all)
          (carry-more bodies more.0 given sending out
          (λ by n is last. ap (λ (l : List (List ℕ)). transmission_at l n) (sym all)
          ∙ subst (λ (l : List master_fates.Event). length (master_past.transmissions (l ++ now)) < 2 ^ 64 → transmission_at (master_past.transmissions (l ++ now)) n ≡ Some sending) m.events_are
          (master_giving.came-number node_host node_keeps m.past e by n m.came is (inl last)) (omega (arith, few, small)))
          m.carry);
      few = few;
    }

pub master-signal : (e : MasterState NodeState) (before : List master_fates.Event) (most : ℕ) (given : List Ending) (signal : master.Letter) → most + 1 < 2 ^ 64 → MasterEnds e before most given
    → MasterEnds (master.master_after node_host e signal) (before ++ master_fates.events_at node_host e signal) (most + 1) (given ++ master_given e signal)
master-signal e before most given (master.Byte b) small m = master-still e (master.master_after node_host e (master.Byte b)) before most given (master.Byte b) refl refl m
master-signal e before most given master.Tick small m = master-still e (master.master_after node_host e master.Tick) before most given master.Tick refl refl m
master-signal e before most given master.Take small m = master-takes e before most given small m

-- ---- a station

slave-extends : (events : List slave_fates.Event) (bodies : List (List ℕ)) → (more : List (List ℕ)) × (fold slave_past.with_event bodies events ≡ bodies ++ more)
slave-extends [] bodies = ([], sym (append-nil bodies))
slave-extends (slave_fates.HandedOut body ∷ events) bodies =
    let rest = slave-extends events (bodies ++ body ∷ []) in
    (body ∷ rest.0, rest.1 ∙ append_assoc bodies (body ∷ []) rest.0)
slave-extends (slave_fates.SentAgain ∷ events) bodies =
    let again = option_to_list (last_or None bodies) in
    let rest = slave-extends events (bodies ++ again) in
    (again ++ rest.0, rest.1 ∙ append_assoc bodies again rest.0)
slave-extends (slave_fates.Told what ∷ events) bodies = slave-extends events bodies

telling-adds : (bodies : List (List ℕ)) (what : Option Fate) → length (fold slave_past.with_event bodies (slave_fates.telling what)) ≤ length bodies + 1
telling-adds bodies None = omega arith
telling-adds bodies (Some what) = omega arith

begun-adds : (bodies : List (List ℕ)) (what : Option Fate) (held : Option Held) (next : Option (List ℕ)) → length (fold slave_past.with_event bodies (slave_fates.telling what ++ slave_fates.sending_begun held next)) ≤ length bodies + 1
begun-adds bodies None (Some message) next = again-adds bodies (last_or None bodies)
begun-adds bodies None None None = omega arith
begun-adds bodies None None (Some body) = again-adds bodies (Some body)
begun-adds bodies (Some what) (Some message) next = again-adds bodies (last_or None bodies)
begun-adds bodies (Some what) None None = omega arith
begun-adds bodies (Some what) None (Some body) = again-adds bodies (Some body)

poll-adds : (bodies : List (List ℕ)) (s : SlaveState NodeState) (answers : Bool) → length (fold slave_past.with_event bodies (if answers then slave_fates.events_of_poll node_host s else [])) ≤ length bodies + 1
poll-adds bodies s true =
    let what = fate_at_poll s.setup.max_sends s.held in
    let after = told node_host s what in
    begun-adds bodies what after.held (node_host.next_body after.host)
poll-adds bodies s false = omega arith

heard-adds : (bodies : List (List ℕ)) (s : SlaveState NodeState) (what : Option SlaveHeard) → length (fold slave_past.with_event bodies (slave_fates.events_at_heard node_host s what)) ≤ length bodies + 1
heard-adds bodies s None = omega arith
heard-adds bodies s (Some (heard.Addressed stn)) = omega arith
heard-adds bodies s (Some (heard.Header stn)) = omega arith
heard-adds bodies s (Some (heard.Poll stn)) = poll-adds bodies s (is_answered s stn)
heard-adds bodies s (Some heard.BadPoll) = omega arith
heard-adds bodies s (Some (heard.Damaged stn)) = omega arith
heard-adds bodies s (Some heard.Ack) = telling-adds bodies (fate_at s (Some heard.Ack))
heard-adds bodies s (Some heard.Reset) = telling-adds bodies (fate_at s (Some heard.Reset))
heard-adds bodies s (Some (heard.Stray b)) = omega arith
heard-adds bodies s (Some (heard.StrayPair code)) = omega arith

-- the ends that a station gave after these events, of at most so many transmissions
pub record StationEnds (s : SlaveState NodeState) (events : List slave_fates.Event) (most : ℕ) (given : List Ending) : Type 0 where
  pub past : slave_past.Past
  pub came : slave_past.Came node_host past s
  pub events_are : past.events ≡ events
  pub numbers : map (λ (x : Ending). x.number) given ≡ numbers_ended past.gave
  pub carry : Carry (slave_past.transmissions events) given
  pub few : length (slave_past.transmissions events) ≤ most

pub station-byte : (s : SlaveState NodeState) (b : ℕ) (before : List slave_fates.Event) (most : ℕ) (given : List Ending) → StationEnds s before most given
    → StationEnds (slave.slave_after node_host s (slave.Byte b)) (before ++ slave_fates.events_at node_host s (slave.Byte b)) (most + 1) given
station-byte s b before most given m =
    let now = slave_fates.events_at node_host s (slave.Byte b) in
    let bodies = slave_past.transmissions before in
    let same = fold-append slave_past.with_event [] before now in
    let more = slave-extends now bodies in
    record {
      past = slave_past.with_signal node_host m.past s (slave.Byte b);
      came = slave_past.goes_on m.past s (slave.Byte b) m.came;
      events_are = ap (λ (l : List slave_fates.Event). l ++ now) m.events_are;
      numbers = m.numbers ∙ sym (ap numbers_ended (append-nil m.past.gave));
      carry = λ x has. rw (same, more.1) (more-transmissions bodies more.0 x.number x.body (m.carry x has));
      few = let adds = heard-adds bodies (listened s b) (heard_at s b) in let was = m.few in subst (λ (l : List (List ℕ)). length l ≤ most + 1) (sym same) (omega (arith, adds, was));
    }

pub station-take : (s : SlaveState NodeState) (before : List slave_fates.Event) (most : ℕ) (given : List Ending) → most < 2 ^ 64 → StationEnds s before most given
    → StationEnds (slave_after_take s) before most (given ++ given_ends (slave_after_take s).sending (out_at_take s))
station-take s before most given small m =
    let out = out_at_take s in
    let bodies = slave_past.transmissions before in
    record {
      past = slave_past.with_signal node_host m.past s slave.Take;
      came = slave_past.goes_on m.past s slave.Take m.came;
      events_are = append-nil m.past.events ∙ m.events_are;
      numbers = map-append (λ (x : Ending). x.number) given (given_ends s.sending out) ∙ rw (m.numbers, given-numbers s.sending out) (sym (filter_map-append (λ (o : Out). o.last_of) m.past.gave (option_to_list out)));
      carry = subst (λ (l : List (List ℕ)). Carry l (given ++ given_ends s.sending out)) (append-nil bodies)
          (carry-more bodies [] given s.sending out
          (λ by n is last. ap (λ (l : List (List ℕ)). transmission_at l n) (append-nil bodies)
          ∙ subst (λ (l : List slave_fates.Event). length (slave_past.transmissions l) < 2 ^ 64 → transmission_at (slave_past.transmissions l) n ≡ Some s.sending) m.events_are
          (slave_giving.came-number node_host slave_keeps m.past s by n m.came is (inl last)) (let few = m.few in omega (arith, few, small)))
          m.carry);
      few = m.few;
    }
