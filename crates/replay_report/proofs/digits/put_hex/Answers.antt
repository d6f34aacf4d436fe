use Rattle.std.proofs.Common.{◌≡◌, ◌∙◌, ℕ, List, [], ◌∷◌, ap, arith, length, refl}
use Rattle.std.proofs.lemmas.Bool.Decides.{nat_tests}
use Rattle.std.proofs.lemmas.Grind.{common_steps}
use Rattle.hex.specs.Hex.{encode_upper}
use Rattle.df1_base.proofs.Feeding.{on-err}
use Rattle.df1_base.proofs.Laws.{later_then}
use Rattle.replay_report.proofs.Pairs.{piece_less, piece_put, pieces_put}
use Rattle.replay_report.proofs.digits.put_hex.Goals as goal

empty : (bytes : List ℕ) → length bytes ≡ 0 → bytes ≡ []
empty [] none = refl
empty (byte ∷ bytes) none = absurd (omega (arith, none))

pub returns-in_err-write_all-clause-missing : goal.returns-in_err-write_all-clause-missing
returns-in_err-write_all-clause-missing g c =
    let same = c.deref.ensures.0 ∙ c.pairs.ensures ∙ ap encode_upper c.split_at.ensures.front in
    on-err c.from_residual.result (piece_less _ _ _ c.args.bytes.now c.loop-rest.rest.now c.min.result c.loop-rest.invariant.wrote (rw same at c.in_err-write_all.ensures.missing))

pub loop-rest-preserved : goal.loop-rest-preserved
loop-rest-preserved g c =
    let same = c.deref.ensures.0 ∙ c.pairs.ensures ∙ ap encode_upper c.split_at.ensures.front in
    record {
      wrote = rw c.split_at.ensures.back (piece_put _ _ _ c.args.bytes.now c.loop-rest.rest.now c.min.result c.loop-rest.invariant.wrote (rw same at c.in_ok-write_all.ensures.ok));
      calm = c.in_ok-write_all.ensures.calm ∙ c.loop-rest.invariant.calm;
      later = later_then _ _ _ _ _ _ c.loop-rest.invariant.later c.in_ok-write_all.ensures.later;
    }

pub returns-clause-ok : goal.returns-clause-ok
returns-clause-ok g c =
    let none : length c.loop-rest.rest.now ≡ 0 = grind (arith, nat_tests, common_steps) in
    pieces_put _ _ c.args.bytes.now c.loop-rest.rest.now (empty c.loop-rest.rest.now none) c.loop-rest.invariant.wrote
