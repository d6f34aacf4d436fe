use Rattle.std.proofs.Common.{◌∷◌, []}
use Rattle.std.proofs.lemmas.Result.{on_err_weaker, on_ok_weaker}
use Rattle.hex.specs.Hex.{encode_upper}
use Rattle.df1_base.proofs.Feeding.{on-err}
use Rattle.replay_report.proofs.Writing.{put_three, less_first, less_second, less_third}
use Rattle.replay_report.proofs.printing.put_pieces.Goals as goal

pub returns-in_err-write_all-clause-missing : goal.returns-in_err-write_all-clause-missing
returns-in_err-write_all-clause-missing g c =
    on-err c.from_residual.result (less_first _ _ c.args.head.now (encode_upper c.args.bytes.now) (10 ∷ []) c.in_err-write_all.ensures.missing)

pub returns-in_err-put_hex-clause-missing : goal.returns-in_err-put_hex-clause-missing
returns-in_err-put_hex-clause-missing g c =
    on-err c.from_residual-in_err-put_hex.result (less_second _ _ _ c.args.head.now (encode_upper c.args.bytes.now) (10 ∷ []) c.in_ok-write_all.ensures.ok c.in_err-put_hex.ensures.missing)

pub returns-clause-ok : goal.returns-clause-ok
returns-clause-ok g c =
    on_ok_weaker c.write_all-2.result
    (λ put. put_three _ _ _ _ c.args.head.now (encode_upper c.args.bytes.now) (10 ∷ []) c.in_ok-write_all.ensures.ok c.in_ok-put_hex.ensures.ok put) c.write_all-2.ensures.ok

pub returns-clause-missing : goal.returns-clause-missing
returns-clause-missing g c =
    on_err_weaker c.write_all-2.result
    (λ less. less_third _ _ _ _ c.args.head.now (encode_upper c.args.bytes.now) (10 ∷ []) c.in_ok-write_all.ensures.ok c.in_ok-put_hex.ensures.ok less) c.write_all-2.ensures.missing
