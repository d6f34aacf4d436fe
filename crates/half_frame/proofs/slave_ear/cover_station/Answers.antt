use Rattle.std.proofs.Common.{[], ◌∷◌, refl}
use Rattle.df1_check.proofs.CheckLemmas.{check_value-push}
use Rattle.half_frame.proofs.slave_ear.cover_station.Goals as goal

pub returns-in-Bcc : goal.returns-in-Bcc
returns-in-Bcc g c = rw (c.cover.ensures, c.clear.ensures, ← check_value-push c.args.check [] c.args.stn, c.in-Bcc.is) refl

pub returns-in-Crc : goal.returns-in-Crc
returns-in-Crc g c = rw (c.cover-in-Crc.ensures, c.cover.ensures, c.clear.ensures, ← check_value-push c.args.check [] c.args.stn, ← check_value-push c.args.check (c.args.stn ∷ []) 2, c.in-Crc.is) refl
