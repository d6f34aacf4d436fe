-- A run in a body, and one outside a message.
use Rattle.std.proofs.Common.{◌≡◌, ◌∙◌, ℕ, ◌<◌, List, ◌++◌, None, Some, take, sym, ap}
use Rattle.std.specs.List.{fold}
use Rattle.df1_check.specs.declared.Check.{Check}
use Rattle.df1_frame.specs.Line.{ReadOff}
use Rattle.df1_frame.specs.Gathered.{Gathered, gather}
use Rattle.df1_frame.specs.Runs.{plain_len, steps}
use Rattle.df1_frame.proofs.RunLemmas.{ran-ended, ran-inside, ran-outside, stands-steps}
use Rattle.half_frame.specs.declared.heard.MasterHeard.TheVariants as heard
use Rattle.half_frame.specs.declared.text.TextPlace.{TextPlace}
use Rattle.half_frame.specs.declared.text.TextPlace.TheVariants as text
use Rattle.half_frame.specs.declared.master_ear.MasterPlace.{MasterPlace}
use Rattle.half_frame.specs.declared.master_ear.MasterPlace.TheVariants as place
use Rattle.half_frame.specs.TextStep.{Inside}
use Rattle.half_frame.specs.MasterGrammar.{master_hears}
use Rattle.half_frame.specs.MasterStanding.{Outside, Ended, AtText, Listening, listening}
use Rattle.half_frame.specs.MasterStep.{next}
use Rattle.half_frame.specs.MasterView.{standing_of}
use Rattle.half_frame.proofs.MasterLemmas.{machine, works}
use Rattle.half_frame.proofs.MasterRuns.{placed, each-outside, each-ended, each-inside}
use Rattle.half_frame.proofs.master_ear.MasterEar.feed_run.Goals as goal

-- the value after a run, of an ear that was seen to stand there
from-inside : (N : ℕ) (check : Check) (so_far so_far' : Gathered) (d : Listening) (n : ℕ) (bytes : List ℕ) → n ≡ plain_len bytes → d ≡ placed check (AtText (Inside so_far)) → so_far' ≡ fold (gather N) so_far (take n bytes)
    → placed check (AtText (Inside so_far')) ≡ (steps (next N) d (take n bytes)).0
from-inside N check so_far so_far' d n bytes count is gathered =
    let r = ran-inside (next N) (λ (b : ℕ). None) N (λ (g : Gathered). placed check (AtText (Inside g))) (each-inside N check) so_far so_far' n bytes count gathered in
    rw is r.value

from-outside : (N : ℕ) (check : Check) (d : Listening) (n : ℕ) (bytes : List ℕ) → n ≡ plain_len bytes → d ≡ placed check Outside → d ≡ (steps (next N) d (take n bytes)).0
from-outside N check d n bytes count is =
    let r = ran-outside (next N) (λ (b : ℕ). Some (heard.Stray b)) (placed check Outside) (each-outside N check) n bytes count in
    rw is r.value

from-ended : (N : ℕ) (check : Check) (body : List ℕ) (d : Listening) (n : ℕ) (bytes : List ℕ) → n ≡ plain_len bytes → d ≡ placed check (Ended body) → 0 < n → placed check Outside ≡ (steps (next N) d (take n bytes)).0
from-ended N check body d n bytes count is some =
    let r = ran-ended (next N) (λ (b : ℕ). Some (heard.Stray b)) (placed check (Ended body)) (placed check Outside) (each-ended N check body) (each-outside N check) n bytes count some in
    rw is r.value

-- and what it stands for
ran-stands : (N : ℕ) (d d' : Listening) (run : List ℕ) → d' ≡ (steps (next N) d run).0 → (check : Check) (before : List ℕ) → ReadOff (master_hears check N) before (listening check N) d → ReadOff (master_hears check N) (before ++ run) (listening check N) d'
ran-stands N d d' run r check before stands = rw r (stands-steps (master_hears check N) (machine check N) (works check N) run before d stands)

pub returns-in-InText-Inside-clause-value : goal.returns-in-InText-Inside-clause-value
returns-in-InText-Inside-clause-value g c =
    let inner : c.in-InText-Inside.field-0 ≡ text.Inside = rw c.in-InText-Inside.is at c.in-InText-Inside.field-0-is in
    let is_text : c.self.inside.place ≡ place.InText text.Inside = c.in-InText-Inside.is ∙ ap (λ (t : TextPlace). place.InText t) inner in
    let is : c.args.self.now ≡ placed c.self.inside.check (AtText (Inside c.self.inside.gathered)) = sym c.self.view_is ∙ ap (λ (p : MasterPlace). placed c.self.inside.check (standing_of p c.self.inside.gathered)) is_text in
    let ran = from-inside g.row.N c.self.inside.check c.self.inside.gathered c.gather_all.new.self c.args.self.now c.plain_len-count.result c.args.bytes.now c.plain_len-count.ensures is c.gather_all.ensures in
    rw is_text ran

pub returns-in-InText-Inside-clause-stands : goal.returns-in-InText-Inside-clause-stands
returns-in-InText-Inside-clause-stands g c =
    let inner : c.in-InText-Inside.field-0 ≡ text.Inside = rw c.in-InText-Inside.is at c.in-InText-Inside.field-0-is in
    let is_text : c.self.inside.place ≡ place.InText text.Inside = c.in-InText-Inside.is ∙ ap (λ (t : TextPlace). place.InText t) inner in
    let is : c.args.self.now ≡ placed c.self.inside.check (AtText (Inside c.self.inside.gathered)) = sym c.self.view_is ∙ ap (λ (p : MasterPlace). placed c.self.inside.check (standing_of p c.self.inside.gathered)) is_text in
    let ran = from-inside g.row.N c.self.inside.check c.self.inside.gathered c.gather_all.new.self c.args.self.now c.plain_len-count.result c.args.bytes.now c.plain_len-count.ensures is c.gather_all.ensures in
    rw is_text (ran-stands g.row.N _ _ _ ran)

pub returns-in-Outside-clause-value : goal.returns-in-Outside-clause-value
returns-in-Outside-clause-value g c =
    let is : c.args.self.now ≡ placed c.self.inside.check Outside = sym c.self.view_is ∙ ap (λ (p : MasterPlace). placed c.self.inside.check (standing_of p c.self.inside.gathered)) c.in-Outside.is in
    from-outside g.row.N c.self.inside.check c.args.self.now c.plain_len.result c.args.bytes.now c.plain_len.ensures is

pub returns-in-Outside-clause-stands : goal.returns-in-Outside-clause-stands
returns-in-Outside-clause-stands g c =
    let is : c.args.self.now ≡ placed c.self.inside.check Outside = sym c.self.view_is ∙ ap (λ (p : MasterPlace). placed c.self.inside.check (standing_of p c.self.inside.gathered)) c.in-Outside.is in
    let ran = from-outside g.row.N c.self.inside.check c.args.self.now c.plain_len.result c.args.bytes.now c.plain_len.ensures is in
    ran-stands g.row.N _ _ _ ran

pub returns-then-count-gt0-clause-value : goal.returns-then-count-gt0-clause-value
returns-then-count-gt0-clause-value g c =
    let is : c.args.self.now ≡ placed c.self.inside.check (Ended c.self.inside.gathered.bytes) = sym c.self.view_is ∙ ap (λ (p : MasterPlace). placed c.self.inside.check (standing_of p c.self.inside.gathered)) c.in-Ended.is in
    from-ended g.row.N c.self.inside.check c.self.inside.gathered.bytes c.args.self.now c.plain_len-count-in-Ended.result c.args.bytes.now c.plain_len-count-in-Ended.ensures is c.if-count-gt0.true

pub returns-then-count-gt0-clause-stands : goal.returns-then-count-gt0-clause-stands
returns-then-count-gt0-clause-stands g c =
    let is : c.args.self.now ≡ placed c.self.inside.check (Ended c.self.inside.gathered.bytes) = sym c.self.view_is ∙ ap (λ (p : MasterPlace). placed c.self.inside.check (standing_of p c.self.inside.gathered)) c.in-Ended.is in
    let ran = from-ended g.row.N c.self.inside.check c.self.inside.gathered.bytes c.args.self.now c.plain_len-count-in-Ended.result c.args.bytes.now c.plain_len-count-in-Ended.ensures is c.if-count-gt0.true in
    ran-stands g.row.N _ _ _ ran
