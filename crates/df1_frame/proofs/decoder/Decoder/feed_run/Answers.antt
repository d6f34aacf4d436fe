-- A run in a body, and one outside a frame.
use Rattle.std.proofs.Common.{◌≡◌, ◌∙◌, ℕ, ◌<◌, List, ◌++◌, None, Some, take, sym, ap}
use Rattle.std.specs.List.{fold}
use Rattle.df1_check.specs.declared.Check.{Check}
use Rattle.df1_frame.specs.declared.heard.Heard.TheVariants as heard
use Rattle.df1_frame.specs.declared.decoder.DecoderPlace.{DecoderPlace}
use Rattle.df1_frame.specs.declared.decoder.DecoderPlace.TheVariants as place
use Rattle.df1_frame.specs.Line.{ReadOff}
use Rattle.df1_frame.specs.Grammar.{full_duplex}
use Rattle.df1_frame.specs.Gathered.{Gathered, gather}
use Rattle.df1_frame.specs.Standing.{Outside, Ended, Inside, Decoding, decoding}
use Rattle.df1_frame.specs.Step.{next}
use Rattle.df1_frame.specs.Runs.{plain_len, steps}
use Rattle.df1_frame.specs.View.{standing_of}
use Rattle.df1_frame.proofs.GrammarLemmas.{machine, works}
use Rattle.df1_frame.proofs.RunLemmas.{ran-ended, ran-inside, ran-outside, stands-steps}
use Rattle.df1_frame.proofs.DecoderRuns.{placed, each-outside, each-ended, each-inside}
use Rattle.df1_frame.proofs.decoder.Decoder.feed_run.Goals as goal

-- the value after a run, of a decoder that was seen to stand there
from-inside : (N : ℕ) (check : Check) (so_far so_far' : Gathered) (d : Decoding) (n : ℕ) (bytes : List ℕ) → n ≡ plain_len bytes → d ≡ placed check (Inside so_far) → so_far' ≡ fold (gather N) so_far (take n bytes)
    → placed check (Inside so_far') ≡ (steps (next N) d (take n bytes)).0
from-inside N check so_far so_far' d n bytes count is gathered =
    let r = ran-inside (next N) (λ (b : ℕ). None) N (λ (g : Gathered). placed check (Inside g)) (each-inside N check) so_far so_far' n bytes count gathered in
    rw is r.value

from-outside : (N : ℕ) (check : Check) (d : Decoding) (n : ℕ) (bytes : List ℕ) → n ≡ plain_len bytes → d ≡ placed check Outside → d ≡ (steps (next N) d (take n bytes)).0
from-outside N check d n bytes count is =
    let r = ran-outside (next N) (λ (b : ℕ). Some (heard.Stray b)) (placed check Outside) (each-outside N check) n bytes count in
    rw is r.value

from-ended : (N : ℕ) (check : Check) (body : List ℕ) (d : Decoding) (n : ℕ) (bytes : List ℕ) → n ≡ plain_len bytes → d ≡ placed check (Ended body) → 0 < n → placed check Outside ≡ (steps (next N) d (take n bytes)).0
from-ended N check body d n bytes count is some =
    let r = ran-ended (next N) (λ (b : ℕ). Some (heard.Stray b)) (placed check (Ended body)) (placed check Outside) (each-ended N check body) (each-outside N check) n bytes count some in
    rw is r.value

-- and what it stands for
ran-stands : (N : ℕ) (d d' : Decoding) (run : List ℕ) → d' ≡ (steps (next N) d run).0 → (check : Check) (before : List ℕ) → ReadOff (full_duplex check N) before (decoding check N) d → ReadOff (full_duplex check N) (before ++ run) (decoding check N) d'
ran-stands N d d' run r check before stands = rw r (stands-steps (full_duplex check N) (machine check N) (works check N) run before d stands)

pub returns-in-Inside-clause-value : goal.returns-in-Inside-clause-value
returns-in-Inside-clause-value g c =
    let is : c.args.self.now ≡ placed c.self.inside.check (standing_of place.Inside c.self.inside.gathered) = sym c.self.view_is ∙ ap (λ (p : DecoderPlace). placed c.self.inside.check (standing_of p c.self.inside.gathered)) c.in-Inside.is in
    let ran = from-inside g.row.N c.self.inside.check c.self.inside.gathered c.gather_all.new.self c.args.self.now c.plain_len-count.result c.args.bytes.now c.plain_len-count.ensures is c.gather_all.ensures in
    rw c.in-Inside.is ran

pub returns-in-Inside-clause-stands : goal.returns-in-Inside-clause-stands
returns-in-Inside-clause-stands g c =
    let is : c.args.self.now ≡ placed c.self.inside.check (standing_of place.Inside c.self.inside.gathered) = sym c.self.view_is ∙ ap (λ (p : DecoderPlace). placed c.self.inside.check (standing_of p c.self.inside.gathered)) c.in-Inside.is in
    let ran = from-inside g.row.N c.self.inside.check c.self.inside.gathered c.gather_all.new.self c.args.self.now c.plain_len-count.result c.args.bytes.now c.plain_len-count.ensures is c.gather_all.ensures in
    rw c.in-Inside.is (ran-stands g.row.N _ _ _ ran)

pub returns-in-Outside-clause-value : goal.returns-in-Outside-clause-value
returns-in-Outside-clause-value g c =
    let is : c.args.self.now ≡ placed c.self.inside.check (standing_of place.Outside c.self.inside.gathered) = sym c.self.view_is ∙ ap (λ (p : DecoderPlace). placed c.self.inside.check (standing_of p c.self.inside.gathered)) c.in-Outside.is in
    from-outside g.row.N c.self.inside.check c.args.self.now c.plain_len.result c.args.bytes.now c.plain_len.ensures is

pub returns-in-Outside-clause-stands : goal.returns-in-Outside-clause-stands
returns-in-Outside-clause-stands g c =
    let is : c.args.self.now ≡ placed c.self.inside.check (standing_of place.Outside c.self.inside.gathered) = sym c.self.view_is ∙ ap (λ (p : DecoderPlace). placed c.self.inside.check (standing_of p c.self.inside.gathered)) c.in-Outside.is in
    let ran = from-outside g.row.N c.self.inside.check c.args.self.now c.plain_len.result c.args.bytes.now c.plain_len.ensures is in
    ran-stands g.row.N _ _ _ ran

pub returns-then-count-gt0-clause-value : goal.returns-then-count-gt0-clause-value
returns-then-count-gt0-clause-value g c =
    let is : c.args.self.now ≡ placed c.self.inside.check (standing_of place.Ended c.self.inside.gathered) = sym c.self.view_is ∙ ap (λ (p : DecoderPlace). placed c.self.inside.check (standing_of p c.self.inside.gathered)) c.in-Ended.is in
    from-ended g.row.N c.self.inside.check c.self.inside.gathered.bytes c.args.self.now c.plain_len-count-in-Ended.result c.args.bytes.now c.plain_len-count-in-Ended.ensures is c.if-count-gt0.true

pub returns-then-count-gt0-clause-stands : goal.returns-then-count-gt0-clause-stands
returns-then-count-gt0-clause-stands g c =
    let is : c.args.self.now ≡ placed c.self.inside.check (standing_of place.Ended c.self.inside.gathered) = sym c.self.view_is ∙ ap (λ (p : DecoderPlace). placed c.self.inside.check (standing_of p c.self.inside.gathered)) c.in-Ended.is in
    let ran = from-ended g.row.N c.self.inside.check c.self.inside.gathered.bytes c.args.self.now c.plain_len-count-in-Ended.result c.args.bytes.now c.plain_len-count-in-Ended.ensures is c.if-count-gt0.true in
    ran-stands g.row.N _ _ _ ran
