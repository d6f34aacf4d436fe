-- What a byte, a tick and a take do to the host of a master: a relation that each call of the host keeps is kept.
use Rattle.std.proofs.Common.{◌≡◌, ℕ, Bool, true, false, List, Option, Some, None, refl, sym, subst}
use Rattle.std.specs.Prelude.{slice_index, if◌then◌else◌}
use Rattle.df1_base.specs.declared.host.Host.{Ghosts}
use Rattle.df1_base.specs.declared.host.Fate.{Fate}
use Rattle.df1_base.specs.declared.host.Fate.TheVariants as fate
use Rattle.df1_base.specs.HostAnswers.{host_told}
use Rattle.half_master.specs.declared.table.Effect.{Effect}
use Rattle.half_master.specs.declared.table.Effect.TheVariants as effect
use Rattle.half_master.specs.Stations.{is_listed}
use Rattle.half_master.specs.Master.{MasterState, with_host, with_byte, body_of, message_next, begun_of, transmitted, effect_of_byte, effect_at_tick, fate_of, host_accepted, host_ticked, master_after_byte, master_after_tick, master_after_take}
use Rattle.half_master.proofs.FateLemmas.{performed-host}

-- what is kept from one host to a later one
pub record Keeps {H : Type 0} (m : Ghosts H) (P : H → H → Type 0) : Type 0 where
  pub same : (host : H) → P host host
  pub both : (host later last : H) → P host later → P later last → P host last
  pub accept : (host : H) (body : List ℕ) → P host (m.after_accept host body)
  pub told : (host : H) (what : Fate) → P host (m.after_told host what)
  pub next : (host : H) → P host (m.after_next host)
  pub tick : (host : H) → P host (m.after_tick host)

accepted-keeps : {H : Type 0} (m : Ghosts H) (P : H → H → Type 0) → Keeps m P → (what : Effect) (host : H) (body : List ℕ) → P host (host_accepted m what host body)
accepted-keeps m P k effect.Nothing host body = k.same host
accepted-keeps m P k (effect.Waits left) host body = k.same host
accepted-keeps m P k effect.Delivered host body = k.same host
accepted-keeps m P k (effect.Again resent) host body = k.same host
accepted-keeps m P k effect.GivenUp host body = k.same host
accepted-keeps m P k effect.PollOver host body = k.same host
accepted-keeps m P k (effect.Accepted place) host body = k.accept host body
accepted-keeps m P k effect.Repeated host body = k.same host
accepted-keeps m P k effect.Refused host body = k.same host
accepted-keeps m P k effect.Damaged host body = k.same host
accepted-keeps m P k effect.Polls host body = k.same host

ticked-keeps : {H : Type 0} (m : Ghosts H) (P : H → H → Type 0) → Keeps m P → (what : Effect) (host : H) → P host (host_ticked m what host)
ticked-keeps m P k effect.Nothing host = k.same host
ticked-keeps m P k (effect.Waits left) host = k.same host
ticked-keeps m P k effect.Delivered host = k.same host
ticked-keeps m P k (effect.Again resent) host = k.same host
ticked-keeps m P k effect.GivenUp host = k.same host
ticked-keeps m P k effect.PollOver host = k.same host
ticked-keeps m P k (effect.Accepted place) host = k.same host
ticked-keeps m P k effect.Repeated host = k.same host
ticked-keeps m P k effect.Refused host = k.same host
ticked-keeps m P k effect.Damaged host = k.same host
ticked-keeps m P k effect.Polls host = k.tick host

fate-keeps : {H : Type 0} (m : Ghosts H) (P : H → H → Type 0) → Keeps m P → (what : Option Fate) (host : H) → P host (host_told m what host)
fate-keeps m P k None host = k.same host
fate-keeps m P k (Some what) host = k.told host what

pub byte-keeps : {H : Type 0} (m : Ghosts H) (P : H → H → Type 0) → Keeps m P → (e : MasterState H) (b : ℕ) → P e.host (master_after_byte m e b).host
byte-keeps {H} m P k e b =
    let what = effect_of_byte m e b in
    let accepted = host_accepted m what e.host (body_of (with_byte e b)) in
    let told = host_told m (fate_of what) accepted in
    subst (λ (host : H). P e.host host) (sym (performed-host (with_byte e b) told what).0)
    (k.both e.host accepted told (accepted-keeps m P k what e.host (body_of (with_byte e b))) (fate-keeps m P k (fate_of what) accepted))

pub tick-keeps : {H : Type 0} (m : Ghosts H) (P : H → H → Type 0) → Keeps m P → (e : MasterState H) → P e.host (master_after_tick m e).host
tick-keeps {H} m P k e =
    let what = effect_at_tick m e in
    let ticked = host_ticked m what e.host in
    let told = host_told m (fate_of what) ticked in
    subst (λ (host : H). P e.host host) (sym (performed-host e told what).0)
    (k.both e.host ticked told (ticked-keeps m P k what e.host) (fate-keeps m P k (fate_of what) ticked))

-- a message that is handed out, whether its first byte is the number of a station or not
listed-keeps : {H : Type 0} (m : Ghosts H) (P : H → H → Type 0) → Keeps m P → (listed : Bool) (e begun : MasterState H) → begun.host ≡ e.host → P e.host (if listed then begun else with_host e (m.after_told e.host fate.Undelivered)).host
listed-keeps {H} m P k true e begun same = subst (λ (host : H). P e.host host) (sym same) (k.same e.host)
listed-keeps m P k false e begun same = k.told e.host fate.Undelivered

begun-keeps : {H : Type 0} (m : Ghosts H) (P : H → H → Type 0) → Keeps m P → (next : Option (List ℕ)) (e : MasterState H) → P e.host (begun_of m e next).host
begun-keeps m P k None e = k.same e.host
begun-keeps {H} m P k (Some body) e =
    let handed : MasterState H = with_host e (m.after_next e.host) in
    let begun : MasterState H = transmitted (record handed { sending = body }) 0 in
    k.both e.host handed.host _ (k.next e.host) (listed-keeps m P k (is_listed e.stations (slice_index body 0)) handed begun refl)

pub take-keeps : {H : Type 0} (m : Ghosts H) (P : H → H → Type 0) → Keeps m P → (e : MasterState H) → P e.host (master_after_take m e).host
take-keeps m P k e = begun-keeps m P k (message_next m e) e
