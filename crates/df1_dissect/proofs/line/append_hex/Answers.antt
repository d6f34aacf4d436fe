-- The digits of one byte more.
use Rattle.std.proofs.Common.{[], ◌∷◌, length, arith, append_assoc, append-nil, length-append, sym, ap}
use Rattle.hex.specs.Hex.{encode_with}
use Rattle.df1_dissect.proofs.Digits.{no-digits, digits-more}
use Rattle.df1_dissect.proofs.line.append_hex.Goals as goal

pub loop-byte-init : goal.loop-byte-init
loop-byte-init g c = record { text = rw no-digits (sym (append-nil c.args.text.now.items)); size = omega arith }

pub loop-byte-preserved : goal.loop-byte-preserved
unfolding encode_with
loop-byte-preserved g c = record {
  text = rw (c.append.ensures, c.high_digit.ensures, c.low_digit.ensures, c.loop-byte.invariant.text, digits-more c.args.bytes.now c.loop-byte.byte-index 0 c.loop-byte-test.true) (simp append_assoc);
  size = omega (arith, ap length c.append.ensures, length-append c.loop-byte.text.items (c.high_digit.result ∷ c.low_digit.result ∷ []), c.loop-byte.invariant.size);
}
