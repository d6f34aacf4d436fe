-- Takes until nothing is given.
use Rattle.std.proofs.Common.{◌≡◌, ℕ, zero, suc, ◌+◌, ◌≤◌, Bool, true, false, List, length, Option, Some, None, IsSome, IsNone, is_some, is_none, [], ◌∷◌, ◌++◌, ap, sym, subst, ◌∙◌, refl, arith, length-append}
use Rattle.std.specs.Prelude.{option_to_list, if◌then◌else◌}
use Rattle.df1_base.specs.declared.host.Host.{Ghosts}
use Rattle.df1_base.specs.declared.link.Out.{Out}
use Rattle.duplex_sender.specs.declared.Limits.{Limits}
use Rattle.duplex_sender.specs.declared.Phase.{Phase}
use Rattle.duplex_sender.specs.declared.Phase.TheVariants as phase
use Rattle.duplex_sender.specs.Sender.{Activity, Idle, Sending, Waiting, phase_of, body_of, sent_last}
use Rattle.embedded_response.specs.Giving.{Giving, Choice, chosen, take}
use Rattle.duplex_end.specs.End.{EndState, Place, taken, next_place, ends_here, begun_at, begun_next, prepared, given_next, end_after_take, out_at_take}
use Rattle.duplex_end.specs.Joined.{Joined, IsShort, most_left}
use Rattle.duplex_end.specs.Emission.{Take, end_after_all, emission, takes, Drains, gives_none, gives_one}
use Rattle.duplex_end.specs.Reached.{BodiesFit}
use Rattle.duplex_end.proofs.Joining.{begin-fewer, take-fewer, most}
use Rattle.duplex_end.proofs.Order.{end-is, out-is, nothing-there}
use Rattle.duplex_end.proofs.Runs.{next-fits, prepared-joined, signal-joined}

-- ---- nothing to give

-- where nothing is to be given, a take changes nothing
pub quiet-same : {H : Type 0} (m : Ghosts H) (e : EndState H) → IsNone (out_at_take m e) → end_after_take m e ≡ e
quiet-same {H} m e none = ap (λ (p : Option Place). (taken m e p).0) (nothing-there m e none)

-- ---- fewer are left

begun-no-more : {H : Type 0} (m : Ghosts H) (e : EndState H) (at : Phase) (next : Option (List ℕ)) → chosen e.mouth ≡ None → phase_of e.sender ≡ at → m.next_body e.host ≡ next → BodiesFit m e
    → most_left m (begun_at m e at next) ≤ most_left m e
begun-no-more m e phase.Idle None none is next fits = omega arith
begun-no-more m e phase.Idle (Some body) none is next fits =
    begin-fewer e.mouth body (phase_of e.sender) phase.Sending (is_some (m.next_body e.host)) (is_some (m.next_body (m.after_next e.host))) none (next-fits m e body fits is next) (rw (is, next) refl)
begun-no-more m e phase.Sending next none is same fits =
    begin-fewer e.mouth (body_of e.sender) (phase_of e.sender) (phase_of e.sender) (is_some (m.next_body e.host)) (is_some (m.next_body e.host)) none fits.sender_fits (rw is refl)
begun-no-more m e phase.Waiting next none is same fits = omega arith

chosen-no-more : {H : Type 0} (m : Ghosts H) (e : EndState H) (c : Option Choice) → chosen e.mouth ≡ c → BodiesFit m e → most_left m (if is_none c then begun_next m e else e) ≤ most_left m e
chosen-no-more m e None is fits = begun-no-more m e (phase_of e.sender) (m.next_body e.host) is refl refl fits
chosen-no-more m e (Some c) is fits = omega arith

prepared-no-more : {H : Type 0} (m : Ghosts H) (e : EndState H) → BodiesFit m e → most_left m (prepared m e) ≤ most_left m e
prepared-no-more m e fits = chosen-no-more m e (chosen e.mouth) refl fits

-- a take that gives a byte leaves fewer
pub take-lowers : {H : Type 0} (m : Ghosts H) (e : EndState H) → Joined e.mouth e.sender → BodiesFit m e → IsSome (out_at_take m e) → most_left m (end_after_take m e) + 1 ≤ most_left m e
take-lowers {H} m e j fits some =
    let p = prepared m e in
    let given : IsSome (take p.mouth).1 = subst (λ (out : Option Out). IsSome out) (out-is m e) some in
    let fewer : most_left m (given_next p) + 1 ≤ most_left m p = take-fewer p.mouth p.sender (is_some (m.next_body p.host)) (prepared-joined m e (is_none (chosen e.mouth)) j) given in
    let no_more = prepared-no-more m e fits in
    subst (λ (x : EndState H). most_left m x + 1 ≤ most_left m e) (sym (end-is m e)) (omega (arith, fewer, no_more))

pub most-left : {H : Type 0} (m : Ghosts H) (e : EndState H) → IsShort e.mouth → most_left m e ≤ 511
most-left m e short = most e.mouth e.sender (is_some (m.next_body e.host)) short

-- ---- the bodies still fit after a take

sent-body : (limits : Limits) (a : Activity) → body_of (sent_last (record { limits = limits; activity = a })) ≡ body_of (record { limits = limits; activity = a })
sent-body limits Idle = refl
sent-body limits (Sending body naks enqs) = refl
sent-body limits (Waiting body naks enqs left) = refl

sent-idle : (limits : Limits) (a : Activity) → phase_of (sent_last (record { limits = limits; activity = a })) ≡ phase.Idle → phase_of (record { limits = limits; activity = a }) ≡ phase.Idle
sent-idle limits Idle e = refl
sent-idle limits (Sending body naks enqs) e = absurd cc
sent-idle limits (Waiting body naks enqs left) e = absurd cc

given-fits : {H : Type 0} (m : Ghosts H) (e : EndState H) (ends : Bool) (g : Giving) → BodiesFit m e
    → BodiesFit m (record { receiver = e.receiver; sender = if ends then sent_last e.sender else e.sender; mouth = g; sending = e.sending; host = e.host })
given-fits m e true g fits = record {
  sender_fits = rw (sent-body e.sender.limits e.sender.activity) fits.sender_fits;
  next_fits = λ idle. fits.next_fits (sent-idle e.sender.limits e.sender.activity idle);
}
given-fits m e false g fits = record { sender_fits = fits.sender_fits; next_fits = fits.next_fits }

begun-fits : {H : Type 0} (m : Ghosts H) (e : EndState H) (at : Phase) (next : Option (List ℕ)) → phase_of e.sender ≡ at → m.next_body e.host ≡ next → BodiesFit m e → BodiesFit m (begun_at m e at next)
begun-fits m e phase.Idle None is next fits = fits
begun-fits m e phase.Idle (Some body) is next fits = record { sender_fits = next-fits m e body fits is next; next_fits = λ idle. absurd cc }
begun-fits m e phase.Sending next is same fits = record { sender_fits = fits.sender_fits; next_fits = fits.next_fits }
begun-fits m e phase.Waiting next is same fits = fits

prepared-fits : {H : Type 0} (m : Ghosts H) (e : EndState H) (idle : Bool) → BodiesFit m e → BodiesFit m (if idle then begun_next m e else e)
prepared-fits m e true fits = begun-fits m e (phase_of e.sender) (m.next_body e.host) refl refl fits
prepared-fits m e false fits = fits

-- takes hand out at most one message, so bodies that fit still do
pub take-fits : {H : Type 0} (m : Ghosts H) (e : EndState H) → BodiesFit m e → BodiesFit m (end_after_take m e)
take-fits {H} m e fits =
    subst (λ (x : EndState H). BodiesFit m x) (sym (end-is m e))
    (given-fits m (prepared m e) (ends_here (take (prepared m e).mouth).1) (take (prepared m e).mouth).0 (prepared-fits m e (is_none (chosen e.mouth)) fits))

-- ---- so many takes

pub quiet-takes : {H : Type 0} (m : Ghosts H) (e : EndState H) (n : ℕ) → IsNone (out_at_take m e) → end_after_all m e (takes n) ≡ e
quiet-takes m e zero none = refl
quiet-takes {H} m e (suc n) none = ap (λ (x : EndState H). end_after_all m x (takes n)) (quiet-same m e none) ∙ quiet-takes m e n none

drained-by : {H : Type 0} (m : Ghosts H) (n : ℕ) (e : EndState H) (out : Option Out) → out_at_take m e ≡ out → Joined e.mouth e.sender → BodiesFit m e → most_left m e ≤ n → IsNone (out_at_take m (end_after_all m e (takes n)))
drained-by m zero e None is j fits left = rw is refl
drained-by m zero e (Some out) is j fits left = absurd (let fewer = take-lowers m e j fits (rw is refl) in omega (arith, fewer))
drained-by m (suc n) e None is j fits left = rw (quiet-takes m e (suc n) (rw is refl)) (rw is refl)
drained-by m (suc n) e (Some out) is j fits left =
    let after = end_after_take m e in
    let fewer = take-lowers m e j fits (rw is refl) in
    drained-by m n after (out_at_take m after) refl (signal-joined m e Take j) (take-fits m e fits) (omega (arith, fewer, left))

-- after as many takes as bytes are left, nothing is to be given
pub drained : {H : Type 0} (m : Ghosts H) (e : EndState H) (n : ℕ) → Joined e.mouth e.sender → BodiesFit m e → most_left m e ≤ n → IsNone (out_at_take m (end_after_all m e (takes n)))
drained m e n j fits left = drained-by m n e (out_at_take m e) refl j fits left

given-by : {H : Type 0} (m : Ghosts H) (n : ℕ) (e : EndState H) (out : Option Out) → out_at_take m e ≡ out → Joined e.mouth e.sender → BodiesFit m e → length (emission m e (takes n)) ≤ most_left m e
given-by m zero e out is j fits = omega arith
given-by {H} m (suc n) e None is j fits =
    let same : length (emission m (end_after_take m e) (takes n)) ≡ length (emission m e (takes n)) = ap (λ (x : EndState H). length (emission m x (takes n))) (quiet-same m e (rw is refl)) in
    let none : length (option_to_list (out_at_take m e)) ≡ 0 = rw is refl in
    omega (arith, same, none, given-by m n e None is j fits, length-append (option_to_list (out_at_take m e)) (emission m (end_after_take m e) (takes n)))
given-by m (suc n) e (Some out) is j fits =
    let after = end_after_take m e in
    let fewer = take-lowers m e j fits (rw is refl) in
    let rest = given-by m n after (out_at_take m after) refl (signal-joined m e Take j) (take-fits m e fits) in
    let one : length (option_to_list (out_at_take m e)) ≡ 1 = rw is refl in
    omega (arith, fewer, rest, one, length-append (option_to_list (out_at_take m e)) (emission m after (takes n)))

-- takes give at most as many bytes as are left
pub takes-give : {H : Type 0} (m : Ghosts H) (e : EndState H) (n : ℕ) → Joined e.mouth e.sender → BodiesFit m e → length (emission m e (takes n)) ≤ most_left m e
takes-give m e n j fits = given-by m n e (out_at_take m e) refl j fits

-- ---- takes until one gives nothing

drains-by : {H : Type 0} (m : Ghosts H) (n : ℕ) (e : EndState H) (out : Option Out) → out_at_take m e ≡ out → Joined e.mouth e.sender → BodiesFit m e → most_left m e ≤ n
    → (outs : List Out) × (last : EndState H) × Drains m e outs last × (length outs ≤ most_left m e)
drains-by m n e None is j fits left = ([], end_after_take m e, gives_none e is, omega arith)
drains-by m zero e (Some out) is j fits left = absurd (let fewer = take-lowers m e j fits (rw is refl) in omega (arith, fewer))
drains-by m (suc n) e (Some out) is j fits left =
    let after = end_after_take m e in
    let fewer = take-lowers m e j fits (rw is refl) in
    let rest = drains-by m n after (out_at_take m after) refl (signal-joined m e Take j) (take-fits m e fits) (omega (arith, fewer, left)) in
    (out ∷ rest.0, rest.1, gives_one e out rest.0 rest.1 is rest.2, omega (arith, fewer, rest.3))

-- an end is drained, and gives at most as many bytes as are left
pub drains : {H : Type 0} (m : Ghosts H) (e : EndState H) → Joined e.mouth e.sender → BodiesFit m e
    → (outs : List Out) × (last : EndState H) × Drains m e outs last × (length outs ≤ most_left m e)
drains m e j fits = drains-by m (most_left m e) e (out_at_take m e) refl j fits (omega arith)

some-none : {A : Type 0} (o : Option A) (x : A) → o ≡ Some x → o ≡ None → ⊥
some-none None x some none = cc
some-none (Some y) x some none = cc

-- takes until one gives nothing come to one end
pub drains-only : {H : Type 0} (m : Ghosts H) (e last other : EndState H) (outs others : List Out) → Drains m e outs last → Drains m e others other → (outs ≡ others) × (last ≡ other)
drains-only m e last other outs others (gives_none e1 is) (gives_none e2 same) = (refl, refl)
drains-only m e last other outs others (gives_none e1 none) (gives_one e2 out rest l some d) = absurd (some-none (out_at_take m e) out some none)
drains-only m e last other outs others (gives_one e1 out rest l some d) (gives_none e2 none) = absurd (some-none (out_at_take m e) out some none)
drains-only m e last other outs others (gives_one e1 out rest l some d) (gives_one e2 next more k same f) =
    let both = drains-only m (end_after_take m e) last other rest more d f in
    let out_is : out ≡ next = cc in
    let rest_is : rest ≡ more = both.0 in
    (cc, both.1)

-- after them nothing is to be given
pub drained-quiet : {H : Type 0} (m : Ghosts H) (e last : EndState H) (outs : List Out) → Drains m e outs last → next_place m last ≡ None
drained-quiet {H} m e last outs (gives_none e1 none) =
    let is_none : IsNone (out_at_take m e) = rw none refl in
    subst (λ (x : EndState H). next_place m x ≡ None) (sym (quiet-same m e is_none)) (nothing-there m e is_none)
drained-quiet m e last outs (gives_one e1 out rest l some d) = drained-quiet m (end_after_take m e) last rest d

none-gives : {A : Type 0} (o : Option A) → IsNone o → o ≡ None
none-gives None none = refl
none-gives (Some x) none = cc

quiet-gives : {H : Type 0} (m : Ghosts H) (e : EndState H) (n : ℕ) → IsNone (out_at_take m e) → emission m e (takes n) ≡ []
quiet-gives m e zero none = refl
quiet-gives {H} m e (suc n) none =
    let none_given : option_to_list (out_at_take m e) ≡ [] = rw (none-gives (out_at_take m e) none) refl in
    ap (λ (x : List Out). x ++ emission m (end_after_take m e) (takes n)) none_given
    ∙ ap (λ (x : EndState H). emission m x (takes n)) (quiet-same m e none) ∙ quiet-gives m e n none

-- as many takes as bytes are given, and more, come to the same
pub drained-takes : {H : Type 0} (m : Ghosts H) (e last : EndState H) (outs : List Out) (n : ℕ) → Drains m e outs last → length outs ≤ n
    → (end_after_all m e (takes n) ≡ last) × (emission m e (takes n) ≡ outs)
drained-takes m e last outs n (gives_none e1 none) few =
    let is_none : IsNone (out_at_take m e) = rw none refl in
    (quiet-takes m e n is_none ∙ sym (quiet-same m e is_none), quiet-gives m e n is_none)
drained-takes m e last outs zero (gives_one e1 out rest l some d) few = absurd (omega arith)
drained-takes m e last outs (suc n) (gives_one e1 out rest l some d) few =
    let later = drained-takes m (end_after_take m e) last rest n d (omega arith) in
    (later.0, ap (λ (o : Option Out). option_to_list o ++ emission m (end_after_take m e) (takes n)) some ∙ ap (λ (x : List Out). out ∷ x) later.1)
