-- What a call does to the bytes that a handle stands for. Assumes nothing.
use Rattle.std.proofs.Common.{◌≡◌, ℕ, Bool, true, false, List, [], ◌∷◌, ◌++◌, length, Option, Some, None, refl, sym, ap, subst}
use Rattle.std.specs.Prelude.{◌↔◌, IsTrue, if◌then◌else◌}
use Rattle.std.specs.Option.{option_map}
use Rattle.df1_check.specs.declared.Check.{Check}
use Rattle.df1_frame.specs.Standing.{lent_at}
use Rattle.half_frame.specs.MasterStanding as at_master
use Rattle.half_frame.specs.SlaveStanding as at_slave
use Rattle.c_lines.specs.declared.hearing.Hearing.{Hearing}
use Rattle.half_frame.specs.declared.side.Side.{Side}
use Rattle.c_lines.specs.Arrived.{IsBody, IsHearing}
use Rattle.c_lines.specs.Decoders.{lent_by}
use Rattle.c_lines.proofs.Arriving as line
use Rattle.duplex_end.proofs.Arriving as duplex
use Rattle.half_master.proofs.EarLemmas as master
use Rattle.half_slave.specs.Slave.{step_at_byte}
use Rattle.half_slave.proofs.Arriving as slave
use Rattle.c_ends.specs.declared.held.Held.{Held}
use Rattle.c_ends.specs.declared.held.Held.TheVariants as held
use Rattle.c_ends.specs.Code.{code_number}
use Rattle.df1_node.specs.contracts.node.NodeHost.TheImpl.{ghosts as node_host}
use Rattle.c_ends.specs.declared.told.StepTold.{StepTold}
use Rattle.df1_c.specs.Arrived.{IsDecoderFor, IsEndFor, HearsWhole, IsBodyOf, Copies}
use Rattle.c_calls.specs.Behind.{routed_host}
use Rattle.c_calls.specs.Copied.{copied}
use Rattle.df1_c.specs.Decoders.{after_fed, heard_in, lent_in, lent_code}
use Rattle.c_calls.specs.Ends.{after_byte, step_of, body_of, body_code, after_tick, after_take}
use Rattle.c_calls.specs.Answers.{told_of}

-- ---- a decoder

-- stands for a byte more
pub fed-stands : (old new : Option Held) (byte : ℕ) → new ≡ option_map (λ held. after_fed held byte) old
    → (side : Side) (check : Check) (bytes : List ℕ) → IsDecoderFor side check bytes old → IsDecoderFor side check (bytes ++ byte ∷ []) new
fed-stands None new byte after side check bytes stands = absurd stands
fed-stands (Some (held.Decoder decoder)) new byte after side check bytes stands =
    subst (λ (o : Option Held). IsDecoderFor side check (bytes ++ byte ∷ []) o) (sym after) (line.byte-stands decoder byte side check bytes stands)
fed-stands (Some (held.Duplex end)) new byte after side check bytes stands = absurd stands
fed-stands (Some (held.Master end)) new byte after side check bytes stands = absurd stands
fed-stands (Some (held.Slave end)) new byte after side check bytes stands = absurd stands

-- and tells what is heard there
pub fed-hears : (old : Option Held) (byte : ℕ) (before told : Hearing) → told ≡ told_of old (λ held. heard_in held byte) before
    → (side : Side) (check : Check) (bytes : List ℕ) → IsDecoderFor side check bytes old → IsHearing side check (bytes ++ byte ∷ []) told
fed-hears None byte before told is side check bytes stands = absurd stands
fed-hears (Some (held.Decoder decoder)) byte before told is side check bytes stands =
    subst (λ (h : Hearing). IsHearing side check (bytes ++ byte ∷ []) h) (sym is) (line.byte-hears decoder byte side check bytes stands)
fed-hears (Some (held.Duplex end)) byte before told is side check bytes stands = absurd stands
fed-hears (Some (held.Master end)) byte before told is side check bytes stands = absurd stands
fed-hears (Some (held.Slave end)) byte before told is side check bytes stands = absurd stands

-- the body that it lends is copied
pub lent-copied : (old : Option Held) (into new : List ℕ) (before count answer : ℕ) → answer ≡ code_number (lent_code old (length into))
    → new ≡ told_of old (λ held. option_map (copied into) (lent_in held)) into → count ≡ told_of old (λ held. option_map length (lent_in held)) before
    → (side : Side) (check : Check) (bytes : List ℕ) → IsDecoderFor side check bytes old → Copies (IsBody side check bytes) answer into new count
lent-copied None into new before count answer coded given counted side check bytes stands = absurd stands
lent-copied (Some (held.Decoder decoder)) into new before count answer coded given counted side check bytes stands = record {
  body = lent_by decoder;
  is_body = line.lent-is decoder side check bytes stands;
  code = coded;
  bytes = given;
  counted = counted;
}
lent-copied (Some (held.Duplex end)) into new before count answer coded given counted side check bytes stands = absurd stands
lent-copied (Some (held.Master end)) into new before count answer coded given counted side check bytes stands = absurd stands
lent-copied (Some (held.Slave end)) into new before count answer coded given counted side check bytes stands = absurd stands

-- ---- an end

-- stands for a byte more
pub heard : (held : Held) (byte : ℕ) (check : Check) (bytes : List ℕ) → IsEndFor check bytes (Some held) → IsEndFor check (bytes ++ byte ∷ []) (Some (after_byte held byte))
heard (held.Decoder decoder) byte check bytes stands = absurd stands
heard (held.Duplex end) byte check bytes stands = duplex.stands-byte node_host end byte check bytes stands
heard (held.Master end) byte check bytes stands = master.stands-byte routed_host end byte check bytes stands
heard (held.Slave end) byte check bytes stands = slave.stands-byte node_host end byte check bytes stands

pub byte-stands : (old new : Option Held) (byte : ℕ) → new ≡ option_map (λ held. after_byte held byte) old
    → (check : Check) (bytes : List ℕ) → IsEndFor check bytes old → IsEndFor check (bytes ++ byte ∷ []) new
byte-stands None new byte after check bytes stands = absurd stands
byte-stands (Some held) new byte after check bytes stands =
    subst (λ (o : Option Held). IsEndFor check (bytes ++ byte ∷ []) o) (sym after) (heard held byte check bytes stands)

-- a whole frame or message is told there exactly where the grammar hears one
heard-whole : (held : Held) (byte : ℕ) (before : StepTold) (check : Check) (bytes : List ℕ) → IsEndFor check bytes (Some held)
    → IsTrue (told_of (Some held) (λ held. step_of held byte) before).whole ↔ HearsWhole check (bytes ++ byte ∷ []) (Some held)
heard-whole (held.Decoder decoder) byte before check bytes stands = absurd stands
heard-whole (held.Duplex end) byte before check bytes stands = duplex.whole-byte node_host end byte check bytes stands
heard-whole (held.Master end) byte before check bytes stands = master.whole-byte routed_host end byte check bytes stands
heard-whole (held.Slave end) byte before check bytes stands =
    let tells = slave.byte-tells node_host end byte check bytes stands in
    let station = (step_at_byte node_host end byte).station in
    (λ whole. (station, (tells station).0 (whole, refl)), λ hears. ((tells hears.0).1 hears.1).0)

pub byte-whole : (old : Option Held) (byte : ℕ) (before told : StepTold) → told ≡ told_of old (λ held. step_of held byte) before
    → (check : Check) (bytes : List ℕ) → IsEndFor check bytes old → IsTrue told.whole ↔ HearsWhole check (bytes ++ byte ∷ []) old
byte-whole None byte before told is check bytes stands = absurd stands
byte-whole (Some held) byte before told is check bytes stands =
    subst (λ (t : StepTold). IsTrue t.whole ↔ HearsWhole check (bytes ++ byte ∷ []) (Some held)) (sym is) (heard-whole held byte before check bytes stands)

-- the body that it lends is copied
pub body-copied : (old : Option Held) (into new : List ℕ) (before count answer : ℕ) → answer ≡ code_number (body_code old (length into))
    → new ≡ told_of old (λ held. option_map (copied into) (body_of held)) into → count ≡ told_of old (λ held. option_map length (body_of held)) before
    → (check : Check) (bytes : List ℕ) → IsEndFor check bytes old → Copies (IsBodyOf check bytes old) answer into new count
body-copied None into new before count answer coded given counted check bytes stands = absurd stands
body-copied (Some (held.Decoder decoder)) into new before count answer coded given counted check bytes stands = absurd stands
body-copied (Some (held.Duplex end)) into new before count answer coded given counted check bytes stands = record {
  body = lent_at end.receiver.decoding.standing;
  is_body = duplex.lent-body end check bytes stands;
  code = coded;
  bytes = given;
  counted = counted;
}
body-copied (Some (held.Master end)) into new before count answer coded given counted check bytes stands = record {
  body = at_master.lent_at end.ear.standing;
  is_body = record { items = stands.items; front = stands.front; splits = stands.splits; is = ap (λ (ear : at_master.Listening). at_master.lent_at ear.standing) stands.is };
  code = coded;
  bytes = given;
  counted = counted;
}
body-copied (Some (held.Slave end)) into new before count answer coded given counted check bytes stands = record {
  body = at_slave.lent_at end.ear.standing;
  is_body = record { items = stands.items; front = stands.front; splits = stands.splits; is = ap (λ (ear : at_slave.Listening). at_slave.lent_at ear.standing) stands.is };
  code = coded;
  bytes = given;
  counted = counted;
}

-- ---- an end stands for the same bytes

-- after a tick, which there may be no room for
ticked : (held : Held) (check : Check) (bytes : List ℕ) → IsEndFor check bytes (Some held) → IsEndFor check bytes (Some (after_tick held))
ticked (held.Decoder decoder) check bytes stands = absurd stands
ticked (held.Duplex end) check bytes stands = stands
ticked (held.Master end) check bytes stands = master.stands-tick routed_host end check bytes stands
ticked (held.Slave end) check bytes stands = stands

maybe-ticked : (small : Bool) (held : Held) (check : Check) (bytes : List ℕ) → IsEndFor check bytes (Some held) → IsEndFor check bytes (Some (if small then held else after_tick held))
maybe-ticked true held check bytes stands = stands
maybe-ticked false held check bytes stands = ticked held check bytes stands

pub tick-stands : (small : Bool) (old new : Option Held) (before after : Held) → old ≡ Some before → new ≡ Some after → after ≡ (if small then before else after_tick before)
    → (check : Check) (bytes : List ℕ) → IsEndFor check bytes old → IsEndFor check bytes new
tick-stands small old new before after was now is check bytes stands =
    let held : IsEndFor check bytes (Some before) = subst (λ (o : Option Held). IsEndFor check bytes o) was stands in
    subst (λ (o : Option Held). IsEndFor check bytes o) (sym now)
    (subst (λ (h : Held). IsEndFor check bytes (Some h)) (sym is) (maybe-ticked small before check bytes held))

-- after a take
pub taken : (held : Held) (check : Check) (bytes : List ℕ) → IsEndFor check bytes (Some held) → IsEndFor check bytes (Some (after_take held))
taken (held.Decoder decoder) check bytes stands = absurd stands
taken (held.Duplex end) check bytes stands = duplex.stands-take node_host end check bytes stands
taken (held.Master end) check bytes stands = master.stands-take routed_host end check bytes stands
taken (held.Slave end) check bytes stands = stands

pub take-stands : (old new : Option Held) → new ≡ option_map after_take old
    → (check : Check) (bytes : List ℕ) → IsEndFor check bytes old → IsEndFor check bytes new
take-stands None new after check bytes stands = absurd stands
take-stands (Some held) new after check bytes stands = subst (λ (o : Option Held). IsEndFor check bytes o) (sym after) (taken held check bytes stands)
