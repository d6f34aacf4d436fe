-- A master over lists of signals.
use Rattle.std.proofs.Common.{◌≡◌, ℕ, List, [], ◌∷◌, ◌++◌, Option, Some, None, ap, sym, ◌∙◌, refl, append_assoc, append-nil}
use Rattle.std.specs.Prelude.{slice_get, slice_index}
use Rattle.std.proofs.lemmas.Bool.{cond_both}
use Rattle.df1_base.specs.declared.host.Host.{Ghosts}
use Rattle.df1_base.specs.declared.link.Out.{Out}
use Rattle.df1_base.specs.HostAnswers.{host_told}
use Rattle.half_master.specs.declared.stations.Station.{Station}
use Rattle.half_master.specs.declared.table.Effect.{Effect}
use Rattle.half_master.specs.declared.table.Effect.TheVariants as effect
use Rattle.half_master.specs.Stations.{is_listed}
use Rattle.half_master.specs.Master.{MasterState, with_host, with_byte, polled, performed, effect_of_byte, effect_at_tick, fate_of, host_accepted, host_ticked, body_of, message_next, begun_of}
use Rattle.half_master.specs.Emission.{Letter, Byte, Tick, Take, master_after, given_at, master_after_all, emission}

-- ---- one signal more

pub master-more : {H : Type 0} (m : Ghosts H) (e : MasterState H) (before : List Letter) (signal : Letter) → master_after_all m e (before ++ signal ∷ []) ≡ master_after m (master_after_all m e before) signal
master-more m e [] signal = refl
master-more m e (first ∷ before) signal = master-more m (master_after m e first) before signal

pub emission-more : {H : Type 0} (m : Ghosts H) (e : MasterState H) (before : List Letter) (signal : Letter) → emission m e (before ++ signal ∷ []) ≡ emission m e before ++ given_at m (master_after_all m e before) signal
emission-more m e [] signal = append-nil (given_at m e signal)
emission-more m e (first ∷ before) signal =
    ap (λ (more : List Out). given_at m e first ++ more) (emission-more m (master_after m e first) before signal)
    ∙ sym (append_assoc (given_at m e first) (emission m (master_after m e first) before) (given_at m (master_after_all m (master_after m e first) before) signal))

-- ---- the setup stays

polled-setup : {H : Type 0} (e : MasterState H) (station : Option Station) → (polled e station).setup ≡ e.setup
polled-setup e None = refl
polled-setup e (Some station) = refl

performed-setup : {H : Type 0} (e : MasterState H) (what : Effect) → (performed e what).setup ≡ e.setup
performed-setup e effect.Nothing = refl
performed-setup e (effect.Waits left) = refl
performed-setup e effect.Delivered = refl
performed-setup e (effect.Again resent) = refl
performed-setup e effect.GivenUp = refl
performed-setup e effect.PollOver = refl
performed-setup e (effect.Accepted place) = refl
performed-setup e effect.Repeated = refl
performed-setup e effect.Refused = refl
performed-setup e effect.Damaged = refl
performed-setup e effect.Polls = polled-setup e (slice_get e.stations e.next)

begun_of-setup : {H : Type 0} (m : Ghosts H) (e : MasterState H) (message : Option (List ℕ)) → (begun_of m e message).setup ≡ e.setup
begun_of-setup m e None = refl
begun_of-setup {H} m e (Some body) = cond_both (is_listed e.stations (slice_index body 0)) _ _ (λ (x : MasterState H). x.setup ≡ e.setup) (λ is. refl) (λ is. refl)

pub signal-setup : {H : Type 0} (m : Ghosts H) (e : MasterState H) (signal : Letter) → (master_after m e signal).setup ≡ e.setup
signal-setup m e (Byte b) =
    let what = effect_of_byte m e b in
    performed-setup (with_host (with_byte e b) (host_told m (fate_of what) (host_accepted m what e.host (body_of (with_byte e b))))) what
signal-setup m e Tick =
    let what = effect_at_tick m e in
    performed-setup (with_host e (host_told m (fate_of what) (host_ticked m what e.host))) what
signal-setup m e Take = begun_of-setup m e (message_next m e)
