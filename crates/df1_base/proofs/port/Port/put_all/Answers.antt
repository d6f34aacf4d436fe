use Rattle.std.proofs.Common.{◌≡◌, ◌≢◌, ◌+◌, ◌<◌, List, ℕ, [], ◌∷◌, ◌++◌, take, drop, get_or, length, sym, ap, subst, ◌∙◌, arith, rules, take-append-drop, length-drop}
use Rattle.std.proofs.lemmas.List.{take_more}
use Rattle.std.proofs.KnownBytes.{Appends-kept, Appends-trans}
use Rattle.df1_base.specs.Outside.{Put, WroteLess}
use Rattle.df1_base.proofs.Feeding.{on-err}
use Rattle.df1_base.proofs.port.Port.put_all.Goals as goal

-- before the end something is left
some-left : (n : ℕ) (bytes : List ℕ) → n < length bytes → drop n bytes ≢ []
some-left n bytes within none = let size : length (drop n bytes) ≡ 0 = ap length none in absurd (omega (arith, length-drop n bytes, size, within))

pub returns-in_err-put-clause-missing : goal.returns-in_err-put-clause-missing
returns-in_err-put-clause-missing g c =
    let n = c.loop-byte.byte-index in
    let bytes = c.args.bytes.now in
    let less : WroteLess (g.Self.Port.sent c.args.self.now) (g.Self.Port.sent c.put.new.self) bytes = (
      drop n bytes,
      some-left n bytes (search rules),
      record {
        part = take n bytes;
        text_is = sym (take-append-drop n bytes);
        put = Appends-kept _ _ _ (take n bytes) c.loop-byte.invariant.put c.in_err-put.ensures.failed;
      },
    ) in
    on-err c.from_residual.result less

pub returns-in_err-put-clause-part : goal.returns-in_err-put-clause-part
returns-in_err-put-clause-part g c =
    let n = c.loop-byte.byte-index in
    let bytes = c.args.bytes.now in (
      drop n bytes,
      record {
        part = take n bytes;
        text_is = sym (take-append-drop n bytes);
        put = Appends-kept _ _ _ (take n bytes) c.loop-byte.invariant.put c.in_err-put.ensures.failed;
      },
    )

pub returns-in_err-put-clause-none_came : goal.returns-in_err-put-clause-none_came
returns-in_err-put-clause-none_came g c =
    g.met.Self.Port.more_came c.args.self.now c.loop-byte.self c.put.new.self [] [] c.loop-byte.invariant.came c.put.ensures.none_came

pub loop-byte-preserved : goal.loop-byte-preserved
loop-byte-preserved g c =
    let n = c.loop-byte.byte-index in
    let bytes = c.args.bytes.now in
    let more : take (n + 1) bytes ≡ take n bytes ++ get_or bytes n 0 ∷ [] = take_more bytes n 0 (search rules) in
    record {
      came = g.met.Self.Port.more_came c.args.self.now c.loop-byte.self c.put.new.self [] [] c.loop-byte.invariant.came c.put.ensures.none_came;
      put = subst (λ (all : List ℕ). Put (g.Self.Port.sent c.args.self.now) (g.Self.Port.sent c.put.new.self) all) (sym more) (Appends-trans _ _ _ (take n bytes) (get_or bytes n 0 ∷ []) c.loop-byte.invariant.put c.in_ok-put.ensures.put);
      no_more = omega (arith, c.put.ensures.no_more, c.loop-byte.invariant.no_more);
      calm = c.in_ok-put.ensures.calm ∙ c.loop-byte.invariant.calm;
      other = c.put.ensures.other ∙ c.loop-byte.invariant.other;
    }
