-- What a byte does to the bytes that a decoder stands for. Assumes nothing.
use Rattle.std.proofs.Common.{ℕ, List, [], ◌∷◌, ◌++◌, ap}
use Rattle.df1_check.specs.declared.Check.{Check}
use Rattle.df1_frame.specs.Grammar.{full_duplex}
use Rattle.df1_frame.specs.Standing as at_full
use Rattle.df1_frame.proofs.LineLemmas.{stands-start, stands-next, heard-next}
use Rattle.df1_frame.proofs.GrammarLemmas as full
use Rattle.half_frame.specs.SlaveGrammar.{slave_hears}
use Rattle.half_frame.specs.SlaveStanding as at_slave
use Rattle.half_frame.proofs.SlaveLemmas as by_slave
use Rattle.half_frame.specs.MasterGrammar.{master_hears}
use Rattle.half_frame.specs.MasterStanding as at_master
use Rattle.half_frame.proofs.MasterLemmas as by_master
use Rattle.c_lines.specs.declared.decoder.LineDecoder.{LineDecoder}
use Rattle.c_lines.specs.declared.decoder.LineDecoder.TheVariants.{Full, OfMaster, OfSlaves}
use Rattle.half_frame.specs.declared.side.Side.{Side}
use Rattle.half_frame.specs.declared.side.Side.TheVariants as side
use Rattle.c_lines.specs.Arrived.{IsBody, IsHearing, StandsFor}
use Rattle.c_lines.specs.Decoders.{after_byte, hearing_at, lent_by, new_decoder}
use Rattle.c_lines.specs.Hearings.{full_told, master_told, slave_told}

-- a new one stands for no byte
pub new-stands : (side : Side) (check : Check) → StandsFor side check [] (new_decoder side check)
new-stands side.Full check = stands-start (full_duplex check 250) (full.machine check 250) (full.works check 250)
new-stands side.Master check = stands-start (slave_hears check 250) (by_slave.machine check 250) (by_slave.works check 250)
new-stands side.Slave check = stands-start (master_hears check 250) (by_master.machine check 250) (by_master.works check 250)

-- it stands for a byte more
pub byte-stands : (decoder : LineDecoder) (byte : ℕ) (side : Side) (check : Check) (bytes : List ℕ)
    → StandsFor side check bytes decoder → StandsFor side check (bytes ++ byte ∷ []) (after_byte decoder byte)
byte-stands (Full decoder) byte side.Full check bytes stands =
    stands-next (full_duplex check 250) (full.machine check 250) (full.works check 250) byte bytes decoder stands
byte-stands (OfMaster ear) byte side.Master check bytes stands =
    stands-next (slave_hears check 250) (by_slave.machine check 250) (by_slave.works check 250) byte bytes ear stands
byte-stands (OfSlaves ear) byte side.Slave check bytes stands =
    stands-next (master_hears check 250) (by_master.machine check 250) (by_master.works check 250) byte bytes ear stands
byte-stands (Full decoder) byte side.Master check bytes stands = absurd stands
byte-stands (Full decoder) byte side.Slave check bytes stands = absurd stands
byte-stands (OfMaster ear) byte side.Full check bytes stands = absurd stands
byte-stands (OfMaster ear) byte side.Slave check bytes stands = absurd stands
byte-stands (OfSlaves ear) byte side.Full check bytes stands = absurd stands
byte-stands (OfSlaves ear) byte side.Master check bytes stands = absurd stands

-- and tells what is heard there
pub byte-hears : (decoder : LineDecoder) (byte : ℕ) (side : Side) (check : Check) (bytes : List ℕ)
    → StandsFor side check bytes decoder → IsHearing side check (bytes ++ byte ∷ []) (hearing_at decoder byte)
byte-hears (Full decoder) byte side.Full check bytes stands =
    let heard = heard-next (full_duplex check 250) (full.machine check 250) (full.works check 250) byte bytes decoder stands in
    record { items = heard.items; front = heard.front; splits = heard.splits; is = ap full_told heard.is }
byte-hears (OfMaster ear) byte side.Master check bytes stands =
    let heard = heard-next (slave_hears check 250) (by_slave.machine check 250) (by_slave.works check 250) byte bytes ear stands in
    record { items = heard.items; front = heard.front; splits = heard.splits; is = ap master_told heard.is }
byte-hears (OfSlaves ear) byte side.Slave check bytes stands =
    let heard = heard-next (master_hears check 250) (by_master.machine check 250) (by_master.works check 250) byte bytes ear stands in
    record { items = heard.items; front = heard.front; splits = heard.splits; is = ap slave_told heard.is }
byte-hears (Full decoder) byte side.Master check bytes stands = absurd stands
byte-hears (Full decoder) byte side.Slave check bytes stands = absurd stands
byte-hears (OfMaster ear) byte side.Full check bytes stands = absurd stands
byte-hears (OfMaster ear) byte side.Slave check bytes stands = absurd stands
byte-hears (OfSlaves ear) byte side.Full check bytes stands = absurd stands
byte-hears (OfSlaves ear) byte side.Master check bytes stands = absurd stands

-- the body that it lends is that of its grammar
pub lent-is : (decoder : LineDecoder) (side : Side) (check : Check) (bytes : List ℕ)
    → StandsFor side check bytes decoder → IsBody side check bytes (lent_by decoder)
lent-is (Full decoder) side.Full check bytes stands =
    record { items = stands.items; front = stands.front; splits = stands.splits; is = ap (λ (d : at_full.Decoding). at_full.lent_at d.standing) stands.is }
lent-is (OfMaster ear) side.Master check bytes stands =
    record { items = stands.items; front = stands.front; splits = stands.splits; is = ap (λ (e : at_slave.Listening). at_slave.lent_at e.standing) stands.is }
lent-is (OfSlaves ear) side.Slave check bytes stands =
    record { items = stands.items; front = stands.front; splits = stands.splits; is = ap (λ (e : at_master.Listening). at_master.lent_at e.standing) stands.is }
lent-is (Full decoder) side.Master check bytes stands = absurd stands
lent-is (Full decoder) side.Slave check bytes stands = absurd stands
lent-is (OfMaster ear) side.Full check bytes stands = absurd stands
lent-is (OfMaster ear) side.Slave check bytes stands = absurd stands
lent-is (OfSlaves ear) side.Full check bytes stands = absurd stands
lent-is (OfSlaves ear) side.Master check bytes stands = absurd stands
