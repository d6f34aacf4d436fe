-- A slave over one signal more.
use Rattle.std.proofs.Common.{◌≡◌, List, [], ◌∷◌, ◌++◌, ap, sym, ◌∙◌, refl, append_assoc, append-nil}
use Rattle.df1_base.specs.declared.host.Host.{Ghosts}
use Rattle.df1_base.specs.declared.link.Out.{Out}
use Rattle.half_slave.specs.Slave.{SlaveState}
use Rattle.half_slave.specs.Emission.{Letter, slave_after, given_at, slave_after_all, emission}

pub slave-more : {H : Type 0} (m : Ghosts H) (s : SlaveState H) (before : List Letter) (signal : Letter) → slave_after_all m s (before ++ signal ∷ []) ≡ slave_after m (slave_after_all m s before) signal
slave-more m s [] signal = refl
slave-more m s (first ∷ before) signal = slave-more m (slave_after m s first) before signal

pub emission-more : {H : Type 0} (m : Ghosts H) (s : SlaveState H) (before : List Letter) (signal : Letter) → emission m s (before ++ signal ∷ []) ≡ emission m s before ++ given_at (slave_after_all m s before) signal
emission-more m s [] signal = append-nil (given_at s signal)
emission-more m s (first ∷ before) signal =
    ap (λ (more : List Out). given_at s first ++ more) (emission-more m (slave_after m s first) before signal)
    ∙ sym (append_assoc (given_at s first) (emission m (slave_after m s first) before) (given_at (slave_after_all m (slave_after m s first) before) signal))
