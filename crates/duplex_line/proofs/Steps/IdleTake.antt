-- A take that gives nothing changes nothing, at an end over any host.
use Rattle.std.proofs.Common.{◌≡◌, None, IsNone, refl}
use Rattle.df1_base.specs.declared.host.Host.{Ghosts}
use Rattle.duplex_end.specs.End.{EndState, end_after_take, out_at_take}
use Rattle.duplex_end.proofs.Draining.{quiet-same}

pub take-nothing : {H : Type 0} (m : Ghosts H) (e : EndState H) → out_at_take m e ≡ None → end_after_take m e ≡ e
take-nothing m e nothing = let none : IsNone (out_at_take m e) = rw nothing refl in quiet-same m e none
