-- Takes until nothing is given.
use Rattle.std.proofs.Common.{◌≡◌, ◌≤◌, ℕ, zero, suc, ◌+◌, Bool, true, false, List, [], ◌∷◌, ◌++◌, length, Option, Some, None, IsSome, IsNone, is_some, ap, sym, subst, ◌∙◌, refl, arith}
use Rattle.std.specs.Prelude.{option_to_list, slice_index, not, ◌&&◌, ◌==◌, if◌then◌else◌}
use Rattle.std.proofs.lemmas.Bool.{cond_both, and_parts, eqb-true}
use Rattle.df1_base.specs.declared.host.Host.{Ghosts}
use Rattle.df1_base.specs.declared.host.Fate.TheVariants as fate
use Rattle.df1_base.specs.declared.link.Out.{Out}
use Rattle.half_frame.specs.declared.framer.Sent.{Sent}
use Rattle.half_mouth.specs.Giving.{Giving, is_done, bytes_left, taken, take}
use Rattle.half_master.specs.declared.stations.Station.{Station}
use Rattle.half_master.specs.declared.table.Phase.{Phase}
use Rattle.half_master.specs.declared.table.Phase.TheVariants as phase
use Rattle.half_master.specs.Stations.{is_listed}
use Rattle.half_master.specs.Master.{MasterState, is_idle, is_quiet, message_next, begun_of, begun, given_next, master_after_take, out_at_take}
use Rattle.half_master.specs.Fitting.{PhaseFits, message_to_come, most_left}
use Rattle.half_master.specs.Emission.{Take, master_after_all, emission, takes, Drains, gives_none, gives_one}
use Rattle.half_master.proofs.FateLemmas.{begins-when}
use Rattle.half_master.proofs.MessageLength.{message-length}

-- ---- a byte that is given

taken-counts : (g : Giving) (left : List Sent) → g.left ≡ left → IsSome (taken g left).1 → bytes_left (taken g left).0 + 1 ≡ bytes_left g
taken-counts g [] is some = absurd cc
taken-counts g (sent ∷ left) is some = rw is (omega arith)

pub take-counts : (g : Giving) → IsSome (take g).1 → bytes_left (take g).0 + 1 ≡ bytes_left g
take-counts g some = taken-counts g g.left refl some

taken-none : (g : Giving) (left : List Sent) → (length left == 0) ≡ true → (taken g left).1 ≡ None
taken-none g [] done = refl
taken-none g (sent ∷ left) done = absurd (let none : length (sent ∷ left) ≡ 0 = eqb-true (length (sent ∷ left)) 0 done in omega (arith, none))

-- none is given where none is left
pub done-none : (g : Giving) → is_done g ≡ true → (take g).1 ≡ None
done-none g done = taken-none g g.left done

none-taken : (g : Giving) (left : List Sent) → g.left ≡ left → IsNone (taken g left).1 → (is_done g ≡ true) × ((taken g left).0 ≡ g)
none-taken g [] is none = (rw is refl, refl)
none-taken g (sent ∷ left) is none = absurd cc

-- where none is given, none was left, and nothing changed
pub none-done : (g : Giving) → IsNone (take g).1 → (is_done g ≡ true) × ((take g).0 ≡ g)
none-done g none = none-taken g g.left refl none

-- ---- fewer are left

pub give-fewer : {H : Type 0} (m : Ghosts H) (e : MasterState H) → IsSome (take e.mouth).1 → most_left m (given_next e) + 1 ≤ most_left m e
give-fewer m e some = let counts = take-counts e.mouth some in omega (arith, counts)

-- the host's next message is short
abbrev pub NextFits : {H : Type 0} → Ghosts H → MasterState H → Type 0
NextFits m e = (body : List ℕ) → m.next_body e.host ≡ Some body → length body ≤ 250

to-come-idle : (at : Phase) → at ≡ phase.Idle → message_to_come true at ≡ 509
to-come-idle phase.Idle is = refl
to-come-idle (phase.WaitsForAck left resent) is = absurd cc
to-come-idle (phase.WaitsAfterPoll left place) is = absurd cc

to-come-most : (ready : Bool) (at : Phase) → message_to_come ready at ≤ 509
to-come-most true phase.Idle = omega arith
to-come-most false phase.Idle = omega arith
to-come-most ready (phase.WaitsForAck left resent) = omega arith
to-come-most ready (phase.WaitsAfterPoll left place) = omega arith

begun-no-more : {H : Type 0} (m : Ghosts H) (e : MasterState H) (o : Option (List ℕ)) → message_next m e ≡ o → NextFits m e → most_left m (begun_of m e o) ≤ most_left m e
begun-no-more m e None is fits = omega arith
begun-no-more {H} m e (Some body) is fits =
    let begins = begins-when m e body is in
    let ready : is_some (m.next_body e.host) ≡ true = rw begins.is_next refl in
    let to_come : message_to_come (is_some (m.next_body e.host)) e.phase ≡ 509 = ap (λ (r : Bool). message_to_come r e.phase) ready ∙ to-come-idle e.phase begins.idle in
    let short = message-length e.setup.check (slice_index body 0) body (fits body begins.is_next) in
    let refused = to-come-most (is_some (m.next_body (m.after_told (m.after_next e.host) fate.Undelivered))) e.phase in
    cond_both (is_listed e.stations (slice_index body 0)) _ _ (λ (x : MasterState H). most_left m x ≤ most_left m e) (λ at. omega (arith, to_come, short)) (λ at. omega (arith, to_come, refused))

-- a message that a take begins leaves no more
pub begins-no-more : {H : Type 0} (m : Ghosts H) (e : MasterState H) → NextFits m e → most_left m (begun m e) ≤ most_left m e
begins-no-more m e fits = begun-no-more m e (message_next m e) refl fits

-- a take that gives a byte leaves fewer
pub take-lowers : {H : Type 0} (m : Ghosts H) (e : MasterState H) → NextFits m e → IsSome (out_at_take m e) → most_left m (master_after_take m e) + 1 ≤ most_left m e
take-lowers m e fits some =
    let fewer = give-fewer m (begun m e) some in
    let no_more = begins-no-more m e fits in
    omega (arith, fewer, no_more)

-- at most 511 bytes are left
pub most-of : (stations : List Station) (mouth : Giving) (sending : List ℕ) (ready : Bool) (at : Phase) → PhaseFits stations mouth sending at → bytes_left mouth ≤ 509 → bytes_left mouth + message_to_come ready at ≤ 511
most-of stations mouth sending true phase.Idle fits left = omega (arith, fits)
most-of stations mouth sending false phase.Idle fits left = omega (arith, fits)
most-of stations mouth sending ready (phase.WaitsForAck was resent) fits left = omega (arith, left)
most-of stations mouth sending ready (phase.WaitsAfterPoll was place) fits left = omega (arith, left)

-- ---- quiet

quiet-next : (done idle : Bool) (o : Option (List ℕ)) → (done && not (idle && is_some o)) ≡ true → (if done && idle then o else None) ≡ None
quiet-next true true None quiet = refl
quiet-next true true (Some body) quiet = absurd cc
quiet-next true false o quiet = refl
quiet-next false idle o quiet = absurd cc

-- a master that is quiet gives nothing
pub quiet-none : {H : Type 0} (m : Ghosts H) (e : MasterState H) → is_quiet m e ≡ true → IsNone (out_at_take m e)
quiet-none {H} m e quiet =
    let none : message_next m e ≡ None = quiet-next (is_done e.mouth) (is_idle e.phase) (m.next_body e.host) quiet in
    let done : is_done e.mouth ≡ true = (and_parts (is_done e.mouth) (not (is_idle e.phase && is_some (m.next_body e.host))) quiet).0 in
    subst (λ (o : Option (List ℕ)). IsNone (take (begun_of m e o).mouth).1) (sym none) (rw (done-none e.mouth done) refl)

-- ---- takes until one gives nothing

drains-by : {H : Type 0} (m : Ghosts H) (Keeps : MasterState H → Type 0) (fits : (e : MasterState H) → Keeps e → NextFits m e) (stays : (e : MasterState H) → Keeps e → Keeps (master_after_take m e))
    (n : ℕ) (e : MasterState H) (out : Option Out) → out_at_take m e ≡ out → Keeps e → most_left m e ≤ n
    → (outs : List Out) × (last : MasterState H) × Drains m e outs last × (length outs ≤ most_left m e)
drains-by m Keeps fits stays n e None is keeps left = ([], master_after_take m e, gives_none e is, omega arith)
drains-by m Keeps fits stays zero e (Some out) is keeps left = absurd (let fewer = take-lowers m e (fits e keeps) (rw is refl) in omega (arith, fewer, left))
drains-by m Keeps fits stays (suc n) e (Some out) is keeps left =
    let after = master_after_take m e in
    let fewer = take-lowers m e (fits e keeps) (rw is refl) in
    let rest = drains-by m Keeps fits stays n after (out_at_take m after) refl (stays e keeps) (omega (arith, fewer, left)) in
    (out ∷ rest.0, rest.1, gives_one e out rest.0 rest.1 is rest.2, omega (arith, fewer, rest.3))

-- a master is drained, and gives at most as many bytes as are left
pub drains : {H : Type 0} (m : Ghosts H) (Keeps : MasterState H → Type 0) (fits : (e : MasterState H) → Keeps e → NextFits m e) (stays : (e : MasterState H) → Keeps e → Keeps (master_after_take m e))
    (e : MasterState H) → Keeps e → (outs : List Out) × (last : MasterState H) × Drains m e outs last × (length outs ≤ most_left m e)
drains m Keeps fits stays e keeps = drains-by m Keeps fits stays (most_left m e) e (out_at_take m e) refl keeps (omega arith)

some-none : {A : Type 0} (o : Option A) (x : A) → o ≡ Some x → o ≡ None → ⊥
some-none None x some none = cc
some-none (Some y) x some none = cc

-- takes until one gives nothing come to one end
pub drains-only : {H : Type 0} (m : Ghosts H) (e last other : MasterState H) (outs others : List Out) → Drains m e outs last → Drains m e others other → (outs ≡ others) × (last ≡ other)
drains-only m e last other outs others (gives_none e1 is) (gives_none e2 same) = (refl, refl)
drains-only m e last other outs others (gives_none e1 none) (gives_one e2 out rest l some d) = absurd (some-none (out_at_take m e) out some none)
drains-only m e last other outs others (gives_one e1 out rest l some d) (gives_none e2 none) = absurd (some-none (out_at_take m e) out some none)
drains-only m e last other outs others (gives_one e1 out rest l some d) (gives_one e2 next more k same f) =
    let both = drains-only m (master_after_take m e) last other rest more d f in
    let out_is : out ≡ next = cc in
    let rest_is : rest ≡ more = both.0 in
    (cc, both.1)

given-done : {H : Type 0} (e : MasterState H) → IsNone (take e.mouth).1 → is_done (given_next e).mouth ≡ true
given-done e none =
    let both = none-done e.mouth none in
    ap (λ (g : Giving). is_done g) both.1 ∙ both.0

-- after them no byte is left to be given
pub drained-done : {H : Type 0} (m : Ghosts H) (e last : MasterState H) (outs : List Out) → Drains m e outs last → is_done last.mouth ≡ true
drained-done m e last outs (gives_none e1 none) = given-done (begun m e) (rw none refl)
drained-done m e last outs (gives_one e1 out rest l some d) = drained-done m (master_after_take m e) last rest d

-- one take, and as many more as bytes are given, come to the same
pub drained-takes : {H : Type 0} (m : Ghosts H) (e last : MasterState H) (outs : List Out) → Drains m e outs last
    → (master_after_all m e (Take ∷ takes (length outs)) ≡ last) × (emission m e (Take ∷ takes (length outs)) ≡ outs)
drained-takes m e last outs (gives_none e1 none) = (refl, rw none refl)
drained-takes m e last outs (gives_one e1 out rest l some d) =
    let later = drained-takes m (master_after_take m e) last rest d in
    (later.0, ap (λ (o : Option Out). option_to_list o ++ emission m (master_after_take m e) (Take ∷ takes (length rest))) some ∙ ap (λ (x : List Out). out ∷ x) later.1)

pub some-same : {A : Type 0} {x y : A} → Some x ≡ Some y → x ≡ y
some-same is = cc
