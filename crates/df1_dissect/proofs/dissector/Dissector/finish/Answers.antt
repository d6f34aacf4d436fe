-- The line of the unfinished item, and the whole text.
use Rattle.std.proofs.Common.{◌≡◌, ◌<◌, ◌-◌, arith, ap}
use Rattle.std.proofs.lemmas.Bool.{lt-ltb}
use Rattle.df1_dissect.specs.Reading.{Reading}
use Rattle.df1_dissect.proofs.Sides.{dissects}
use Rattle.df1_dissect.proofs.dissector.Dissector.finish.Goals as goal

pub returns-then-left-eq0-clause-whole : goal.returns-then-left-eq0-clause-whole
returns-then-left-eq0-clause-whole g c = λ side check bytes so_far r q. dissects side check bytes c.args.self.now so_far r q

pub returns-clause-whole : goal.returns-clause-whole
returns-clause-whole g c = λ side check bytes so_far r q. dissects side check bytes c.args.self.now so_far r q

pub returns-clause-missing : goal.returns-clause-missing
returns-clause-missing g c =
    let v = c.args.self.now in
    let start = ap (λ (r : Reading). r.start) c.self.view_is in
    let fed = ap (λ (r : Reading). r.fed) c.self.view_is in
    let lt : v.start < v.fed = omega (arith, start, fed, c.left-left.ensures.value, c.if-left-eq0.false) in
    let first : c.fed-fed.result - c.left-left.result ≡ v.start = omega (arith, start, fed, lt, c.left-left.ensures.value, c.fed-fed.ensures.value) in
    let last : c.fed-fed.result - 1 ≡ v.fed - 1 = omega (arith, fed, c.fed-fed.ensures.value) in
    rw (lt-ltb v.start v.fed lt) (rw (first, last) at c.put_open.ensures.missing)

pub returns-clause-part : goal.returns-clause-part
returns-clause-part g c =
    let v = c.args.self.now in
    let start = ap (λ (r : Reading). r.start) c.self.view_is in
    let fed = ap (λ (r : Reading). r.fed) c.self.view_is in
    let lt : v.start < v.fed = omega (arith, start, fed, c.left-left.ensures.value, c.if-left-eq0.false) in
    let first : c.fed-fed.result - c.left-left.result ≡ v.start = omega (arith, start, fed, lt, c.left-left.ensures.value, c.fed-fed.ensures.value) in
    let last : c.fed-fed.result - 1 ≡ v.fed - 1 = omega (arith, fed, c.fed-fed.ensures.value) in
    rw (lt-ltb v.start v.fed lt) (rw (first, last) at c.put_open.ensures.part)
