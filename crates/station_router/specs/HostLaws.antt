-- The laws of a host, of routers, from those of the inner host: a fate is told once, and what is handed out is a body.
use Rattle.std.proofs.Common.{◌≡◌, ℕ, Bool, true, false, cond, List, [], ◌∷◌, Option, Some, None, IsSome, IfSome, refl, ap, ◌∙◌}
use Rattle.std.specs.Prelude.{IsTrue}
use Rattle.std.specs.Option.{option_or}
use Rattle.df1_base.specs.declared.host.Fate.{Fate}
use Rattle.df1_base.specs.declared.host.News.{News}
use Rattle.df1_base.specs.declared.host.News.TheVariants as news
use Rattle.df1_base.specs.Host.{IsBody}
use Rattle.station_router.specs.declared.handed.Handed.{Handed}
use Rattle.station_router.specs.declared.handed.Handed.TheVariants as handed
use Rattle.station_router.specs.Router.{RouterState, is_carried, waiting_body, has_room, after_accept, next_body, last_after, after_next, is_last_out, is_out, news_told, after_told, after_tick, after_clear, holds_bodies}

-- ---- hand-outs

none-parts : {H : Type 0} (next : H → Option (List ℕ)) (after : H → H) → ((h : H) → next h ≡ None → after h ≡ h) → (stations waiting : List ℕ) (last : Handed) (inner : H)
    → let r : RouterState H = record { stations = stations; waiting = waiting; last = last; inner = inner } in next_body next r ≡ None → after_next next after r ≡ r
none-parts {H} next after law stations [] last inner none =
    let of : Handed → H → RouterState H = λ l h. record { stations = stations; waiting = []; last = l; inner = h } in
    ap (λ (o : Option (List ℕ)). of (last_after last o) (after inner)) none ∙ ap (of last) (law inner none)
none-parts next after law stations (b ∷ bs) last inner none = absurd cc

pub none_changes : {H : Type 0} (next : H → Option (List ℕ)) (after : H → H) → ((h : H) → next h ≡ None → after h ≡ h)
    → (r : RouterState H) → next_body next r ≡ None → after_next next after r ≡ r
none_changes next after law r none = none-parts next after law r.stations r.waiting r.last r.inner none

-- a message that the inner host hands out is out
inner-hands : (last : Handed) (next : Option (List ℕ)) (out : Bool) → IsSome next → out ≡ true → is_last_out (last_after last next) out ≡ true
inner-hands last None out some is = cc
inner-hands last (Some body) out some is = is

hands-parts : {H : Type 0} (out : H → Bool) (next : H → Option (List ℕ)) (after : H → H) → ((h : H) → IsSome (next h) → out (after h) ≡ true) → (stations waiting : List ℕ) (last : Handed) (inner : H)
    → let r : RouterState H = record { stations = stations; waiting = waiting; last = last; inner = inner } in IsSome (next_body next r) → is_out out (after_next next after r) ≡ true
hands-parts out next after law stations [] last inner some = inner-hands last (next inner) (out (after inner)) some (law inner some)
hands-parts out next after law stations (b ∷ bs) last inner some = refl

pub next_hands : {H : Type 0} (out : H → Bool) (next : H → Option (List ℕ)) (after : H → H) → ((h : H) → IsSome (next h) → out (after h) ≡ true)
    → (r : RouterState H) → IsSome (next_body next r) → is_out out (after_next next after r) ≡ true
next_hands out next after law r some = hands-parts out next after law r.stations r.waiting r.last r.inner some

-- ---- fates

nothing-parts : {H : Type 0} (out : H → Bool) (answer : H → Fate → News) (after : H → Fate → H) → ((h : H) (told : Fate) → out h ≡ false → (answer h told ≡ news.Nothing) × (after h told ≡ h))
    → (stations waiting : List ℕ) (last : Handed) (inner : H) (told : Fate)
    → let r : RouterState H = record { stations = stations; waiting = waiting; last = last; inner = inner } in is_out out r ≡ false → (news_told answer r told ≡ news.Nothing) × (after_told after r told ≡ r)
nothing-parts out answer after law stations waiting handed.Carried inner told none = absurd cc
nothing-parts out answer after law stations waiting handed.Told inner told none = (refl, refl)
nothing-parts {H} out answer after law stations waiting handed.Inner inner told none =
    let of : H → RouterState H = λ h. record { stations = stations; waiting = waiting; last = handed.Inner; inner = h } in
    ((law inner told none).0, ap of (law inner told none).1)

pub told_nothing : {H : Type 0} (out : H → Bool) (answer : H → Fate → News) (after : H → Fate → H) → ((h : H) (told : Fate) → out h ≡ false → (answer h told ≡ news.Nothing) × (after h told ≡ h))
    → (r : RouterState H) (told : Fate) → is_out out r ≡ false → (news_told answer r told ≡ news.Nothing) × (after_told after r told ≡ r)
told_nothing out answer after law r told none = nothing-parts out answer after law r.stations r.waiting r.last r.inner told none

told-parts : {H : Type 0} (out : H → Bool) (after : H → Fate → H) → ((h : H) (told : Fate) → out (after h told) ≡ false) → (stations waiting : List ℕ) (last : Handed) (inner : H) (told : Fate)
    → let r : RouterState H = record { stations = stations; waiting = waiting; last = last; inner = inner } in is_out out (after_told after r told) ≡ false
told-parts out after law stations waiting handed.Carried inner told = refl
told-parts out after law stations waiting handed.Told inner told = refl
told-parts out after law stations waiting handed.Inner inner told = law inner told

pub fate_told : {H : Type 0} (out : H → Bool) (after : H → Fate → H) → ((h : H) (told : Fate) → out (after h told) ≡ false)
    → (r : RouterState H) (told : Fate) → is_out out (after_told after r told) ≡ false
fate_told out after law r told = told-parts out after law r.stations r.waiting r.last r.inner told

-- ---- what leaves a message out that is out

out-either : {H : Type 0} (out : H → Bool) (carried : Bool) (r one other : RouterState H) → is_out out one ≡ is_out out r → is_out out other ≡ is_out out r → is_out out (cond carried one other) ≡ is_out out r
out-either out true r one other first second = first
out-either out false r one other first second = second

pub out_at_accept : {H : Type 0} (out : H → Bool) (after : H → List ℕ → H) → ((h : H) (body : List ℕ) → out (after h body) ≡ out h)
    → (r : RouterState H) (body : List ℕ) → is_out out (after_accept after r body) ≡ is_out out r
out_at_accept out after law r body = out-either out (is_carried r.stations body) r (record r { waiting = body }) (record r { inner = after r.inner body }) refl (ap (is_last_out r.last) (law r.inner body))

pub out_at_tick : {H : Type 0} (out : H → Bool) (after : H → H) → ((h : H) → out (after h) ≡ out h) → (r : RouterState H) → is_out out (after_tick after r) ≡ is_out out r
out_at_tick out after law r = ap (is_last_out r.last) (law r.inner)

pub out_at_clear : {H : Type 0} (out : H → Bool) (after : H → H) → ((h : H) → out (after h) ≡ out h) → (r : RouterState H) → is_out out (after_clear after r) ≡ is_out out r
out_at_clear out after law r = ap (is_last_out r.last) (law r.inner)

-- ---- bodies

-- where a body waits or is handed out by the inner host, it is one
next-either : (waiting : List ℕ) (next : Option (List ℕ)) → IfSome (waiting_body waiting) IsBody → IfSome next IsBody → IfSome (option_or (waiting_body waiting) next) IsBody
next-either [] next waits inner = inner
next-either (b ∷ bs) next waits inner = waits

pub next_is_body : {H : Type 0} (holds : H → Type 0) (next : H → Option (List ℕ)) → ((h : H) → holds h → IfSome (next h) IsBody)
    → (r : RouterState H) → holds_bodies holds r → IfSome (next_body next r) IsBody
next_is_body holds next law r all = next-either r.waiting (next r.inner) all.0 (law r.inner all.1)

waiting-is-body : (body : List ℕ) → IsBody body → IfSome (waiting_body body) IsBody
waiting-is-body [] is = tt
waiting-is-body (b ∷ bs) is = is

accept-either : {H : Type 0} (holds : H → Type 0) (r : RouterState H) (body : List ℕ) (after : H) (carried none_waits room : Bool) → holds_bodies holds r → IsBody body → (IsTrue room → holds after)
    → IsTrue (cond carried none_waits room) → holds_bodies holds (cond carried (record r { waiting = body }) (record r { inner = after }))
accept-either holds r body after true none_waits room all is inner some = (waiting-is-body body is, all.1)
accept-either holds r body after false none_waits room all is inner some = (all.0, inner some)

pub bodies_at_accept : {H : Type 0} (holds : H → Type 0) (room : H → List ℕ → Bool) (after : H → List ℕ → H) → ((h : H) (body : List ℕ) → holds h → IsBody body → IsTrue (room h body) → holds (after h body))
    → (r : RouterState H) (body : List ℕ) → holds_bodies holds r → IsBody body → IsTrue (has_room room r body) → holds_bodies holds (after_accept after r body)
bodies_at_accept holds room after law r body all is some =
    accept-either holds r body (after r.inner body) (is_carried r.stations body) _ (room r.inner body) all is (law r.inner body all.1 is) some

next-holds : {H : Type 0} (holds : H → Type 0) (next : H → Option (List ℕ)) (after : H → H) → ((h : H) → holds h → holds (after h)) → (stations waiting : List ℕ) (last : Handed) (inner : H)
    → let r : RouterState H = record { stations = stations; waiting = waiting; last = last; inner = inner } in holds_bodies holds r → holds_bodies holds (after_next next after r)
next-holds holds next after law stations [] last inner all = (tt, law inner all.1)
next-holds holds next after law stations (b ∷ bs) last inner all = (tt, all.1)

pub bodies_at_next : {H : Type 0} (holds : H → Type 0) (next : H → Option (List ℕ)) (after : H → H) → ((h : H) → holds h → holds (after h))
    → (r : RouterState H) → holds_bodies holds r → holds_bodies holds (after_next next after r)
bodies_at_next holds next after law r all = next-holds holds next after law r.stations r.waiting r.last r.inner all

told-holds : {H : Type 0} (holds : H → Type 0) (after : H → Fate → H) → ((h : H) (told : Fate) → holds h → holds (after h told)) → (stations waiting : List ℕ) (last : Handed) (inner : H) (told : Fate)
    → let r : RouterState H = record { stations = stations; waiting = waiting; last = last; inner = inner } in holds_bodies holds r → holds_bodies holds (after_told after r told)
told-holds holds after law stations waiting handed.Carried inner told all = all
told-holds holds after law stations waiting handed.Told inner told all = all
told-holds holds after law stations waiting handed.Inner inner told all = (all.0, law inner told all.1)

pub bodies_at_told : {H : Type 0} (holds : H → Type 0) (after : H → Fate → H) → ((h : H) (told : Fate) → holds h → holds (after h told))
    → (r : RouterState H) (told : Fate) → holds_bodies holds r → holds_bodies holds (after_told after r told)
bodies_at_told holds after law r told all = told-holds holds after law r.stations r.waiting r.last r.inner told all
