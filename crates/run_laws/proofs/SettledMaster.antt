-- A half-duplex master holds no command whose outcome is known: each signal leaves that.
use Rattle.std.proofs.Common.{◌≡◌, ◌∙◌, inl, inr, ℕ, Bool, true, false, List, Option, Some, None, refl, sym, subst}
use Rattle.std.specs.Prelude.{slice_get, slice_index, unwrap_or, is_some, nat_lt, if◌then◌else◌, ◌&&◌}
use Rattle.std.proofs.lemmas.Bool.{and_parts, cond_both}
use Rattle.df1_base.specs.declared.host.Fate.TheVariants as fate
use Rattle.df1_base.specs.HostAnswers.{host_told}
use Rattle.df1_node.specs.Initiator.{Standing, Waiting, Out as IsOutWith, Answered, Undelivered, Unanswered, is_settled, is_waiting, next_issued}
use Rattle.df1_node.specs.Node.{NodeState, after_next, after_told}
use Rattle.each_once.specs.NodeHost.{node_host}
use Rattle.half_line.specs.Acts.{Issue, master_after}
use Rattle.half_line.specs.Behind.{plain_node}
use Rattle.half_master.specs.declared.MasterSetup.{MasterSetup}
use Rattle.half_master.specs.declared.stations.Station.{Station}
use Rattle.half_master.specs.declared.table.Phase.{Phase}
use Rattle.half_master.specs.declared.table.Phase.TheVariants as phase
use Rattle.half_master.specs.declared.table.Effect.{Effect}
use Rattle.half_master.specs.declared.table.Effect.TheVariants as effect
use Rattle.half_master.specs.Master.{MasterState, with_host, with_byte, heard_at, body_of, unacknowledged, effect_in, effect_of_byte, effect_at_tick, effect_of_tick, polled, performed, transmitted, fate_of, host_accepted, host_ticked, master_after_byte, master_after_tick, message_next, is_idle, begun_of, master_after_take}
use Rattle.half_master.specs.Stations.{is_listed}
use Rattle.half_master.proofs.FateLemmas.{performed-host}
use Rattle.half_master.proofs.HostSteps.{Keeps, byte-keeps, tick-keeps, take-keeps}
use Rattle.half_master.proofs.LastMessage.{Gives, awaits, OnlyThen, heard-then, tick-then, next-of}
use Rattle.half_mouth.specs.Giving.{is_done}
use Rattle.run_laws.proofs.KnownNode.{Known, StandsSo, known-accept, known-told, known-tick, known-next, gives-not, so-plain, next-so, push-so}
use Rattle.run_laws.proofs.OverMaster.{Rests, Free, performed-free, still-free, taken-free}
use Rattle.run_laws.proofs.OverNode.{hands-other}

settled-out : (s : Standing) → is_settled s ≡ true → is_waiting s ≡ false
settled-out Waiting is = absurd cc
settled-out (IsOutWith left) is = absurd cc
settled-out (Answered reply) is = refl
settled-out Undelivered is = refl
settled-out Unanswered is = refl

-- a host of which such things are known, and no message held whose outcome is
pub record SettledMaster (m : MasterState NodeState) : Type 0 where
  pub known : Known m.host
  pub holds_not : (body : List ℕ) → StandsSo is_settled m.host.initiator.issued body → Free body m

-- ---- what an effect does

-- it changes no command, and isn't given while bytes are left; or the master rests after it
data Quietens (m : MasterState NodeState) (what : Effect) (host : NodeState) : Type 0 where
  same : host ≡ m.host → Quietens m what host
  rests : ((h : NodeState) → Rests (performed (with_host m h) what)) → Quietens m what host

-- nothing but Nothing is done while bytes are left
abbrev WhenDone : Bool → Effect → Type 0
WhenDone done effect.Nothing = Unit {0}
WhenDone done _ = done ≡ true

when-done : (done : Bool) (what : Effect) → WhenDone done (if done then what else effect.Nothing)
when-done true effect.Nothing = tt
when-done true (effect.Waits left) = refl
when-done true effect.Delivered = refl
when-done true (effect.Again resent) = refl
when-done true effect.GivenUp = refl
when-done true effect.PollOver = refl
when-done true (effect.Accepted place) = refl
when-done true effect.Repeated = refl
when-done true effect.Refused = refl
when-done true effect.Damaged = refl
when-done true effect.Polls = refl
when-done false what = tt

done-gives : (m : MasterState NodeState) → is_done m.mouth ≡ true → Gives m.mouth → ⊥
done-gives m done gives = let clash : true ≡ false = sym done ∙ gives.2 in cc

-- a poll comes from Idle
abbrev PollsIdle : Phase → Effect → Type 0
PollsIdle p effect.Polls = awaits p ≡ false
PollsIdle p _ = Unit {0}

polled-rests : (m : MasterState NodeState) (o : Option Station) → awaits m.phase ≡ false → (Gives m.mouth → ⊥) → Rests (polled m o)
polled-rests m None idle none = (idle, none)
polled-rests m (Some station) idle none = (refl, λ gives. let no = gives.1 in cc)

byte-quietens : (m : MasterState NodeState) (what : Effect) (body : List ℕ) → WhenDone (is_done m.mouth) what → Quietens m what (host_told node_host (fate_of what) (host_accepted node_host what m.host body))
byte-quietens m effect.Nothing body done = same refl
byte-quietens m (effect.Waits left) body done = same refl
byte-quietens m effect.Delivered body done = rests (λ h. (refl, done-gives m done))
byte-quietens m (effect.Again resent) body done = same refl
byte-quietens m effect.GivenUp body done = rests (λ h. (refl, done-gives m done))
byte-quietens m effect.PollOver body done = same refl
byte-quietens m (effect.Accepted place) body done = rests (λ h. (refl, λ gives. let no = gives.1 in cc))
byte-quietens m effect.Repeated body done = same refl
byte-quietens m effect.Refused body done = same refl
byte-quietens m effect.Damaged body done = same refl
byte-quietens m effect.Polls body done = same refl

tick-quietens : (m : MasterState NodeState) (what : Effect) → WhenDone (is_done m.mouth) what → PollsIdle m.phase what → Quietens m what (host_told node_host (fate_of what) (host_ticked node_host what m.host))
tick-quietens m effect.Nothing done idle = same refl
tick-quietens m (effect.Waits left) done idle = same refl
tick-quietens m effect.Delivered done idle = rests (λ h. (refl, done-gives m done))
tick-quietens m (effect.Again resent) done idle = same refl
tick-quietens m effect.GivenUp done idle = rests (λ h. (refl, done-gives m done))
tick-quietens m effect.PollOver done idle = same refl
tick-quietens m (effect.Accepted place) done idle = same refl
tick-quietens m effect.Repeated done idle = same refl
tick-quietens m effect.Refused done idle = same refl
tick-quietens m effect.Damaged done idle = same refl
tick-quietens m effect.Polls done idle = rests (λ h. polled-rests (with_host m h) (slice_get m.stations m.next) idle (done-gives m done))

-- after an effect
performed-holds-not : (m : MasterState NodeState) (what : Effect) (host : NodeState) → OnlyThen (awaits m.phase) what → Quietens m what host → ((body : List ℕ) → StandsSo is_settled m.host.initiator.issued body → Free body m)
    → (body : List ℕ) → StandsSo is_settled host.initiator.issued body → Free body (performed (with_host m host) what)
performed-holds-not m what host only (same is) holds_not body so =
    performed-free body (with_host m host) what only (still-free body m (with_host m host) refl refl refl (holds_not body (subst (λ (h : NodeState). StandsSo is_settled h.initiator.issued body) is so)))
performed-holds-not m what host only (rests after) holds_not body so = inl (after host)

-- ---- signals

known-keeps : Keeps node_host (λ (host later : NodeState). Known host → Known later)
known-keeps = record {
  same = λ host k. k;
  both = λ host later last first second k. second (first k);
  accept = λ host what k. known-accept host what k;
  told = λ host what k. known-told (Some what) host k;
  next = λ host k. known-next host k;
  tick = λ host k. known-tick host k;
}

pub settled-byte : (m : MasterState NodeState) (b : ℕ) → SettledMaster m → SettledMaster (master_after_byte node_host m b)
settled-byte m b s =
    let what = effect_of_byte node_host m b in
    let body = body_of (with_byte m b) in
    record {
      known = byte-keeps node_host _ known-keeps m b s.known;
      holds_not = λ c so.
          let host = host_told node_host (fate_of what) (host_accepted node_host what m.host body) in
          let after : (master_after_byte node_host m b).host ≡ host = (performed-host (with_byte m b) host what).0 in
          performed-holds-not (with_byte m b) what host (heard-then node_host (with_byte m b) (heard_at m b)) (byte-quietens (with_byte m b) what body (when-done (is_done m.mouth) (effect_in node_host (with_byte m b) (heard_at m b) m.phase)))
          (λ held held_so. still-free held m (with_byte m b) refl refl refl (s.holds_not held held_so)) c (subst (λ (h : NodeState). StandsSo is_settled h.initiator.issued c) after so);
    }

unacknowledged-polls : (p : Phase) (setup : MasterSetup) (resent : ℕ) → PollsIdle p (unacknowledged setup resent)
unacknowledged-polls p setup resent = cond_both (nat_lt resent setup.max_resends) _ _ (PollsIdle p) (λ is. tt) (λ is. tt)

tick-polls : (setup : MasterSetup) (ready : Bool) (p : Phase) → PollsIdle p (effect_of_tick setup ready p)
tick-polls setup ready phase.Idle = cond_both ready _ _ (PollsIdle phase.Idle) (λ is. tt) (λ is. refl)
tick-polls setup ready (phase.WaitsForAck left resent) = cond_both (nat_lt 1 left) _ _ (PollsIdle (phase.WaitsForAck left resent)) (λ is. tt) (λ is. unacknowledged-polls (phase.WaitsForAck left resent) setup resent)
tick-polls setup ready (phase.WaitsAfterPoll left place) = cond_both (nat_lt 1 left) _ _ (PollsIdle (phase.WaitsAfterPoll left place)) (λ is. tt) (λ is. tt)

pub settled-tick : (m : MasterState NodeState) → SettledMaster m → SettledMaster (master_after_tick node_host m)
settled-tick m s =
    let what = effect_at_tick node_host m in
    let inside = effect_of_tick m.setup (is_some (node_host.next_body m.host)) m.phase in
    let idle : PollsIdle m.phase what = cond_both (is_done m.mouth) _ _ (PollsIdle m.phase) (λ is. tick-polls m.setup (is_some (node_host.next_body m.host)) m.phase) (λ is. tt) in
    record {
      known = tick-keeps node_host _ known-keeps m s.known;
      holds_not = λ c so.
          let host = host_told node_host (fate_of what) (host_ticked node_host what m.host) in
          let after : (master_after_tick node_host m).host ≡ host = (performed-host m host what).0 in
          performed-holds-not m what host (tick-then node_host m) (tick-quietens m what (when-done (is_done m.mouth) inside) idle) s.holds_not c (subst (λ (h : NodeState). StandsSo is_settled h.initiator.issued c) after so);
    }

-- ---- a take

idle-rests : (p : Phase) → is_idle p ≡ true → awaits p ≡ false
idle-rests phase.Idle is = refl
idle-rests (phase.WaitsForAck left resent) is = absurd cc
idle-rests (phase.WaitsAfterPoll left place) is = absurd cc

handed-when : (may : Bool) (next : Option (List ℕ)) (body : List ℕ) → (if may then next else None) ≡ Some body → may ≡ true
handed-when true next body is = refl
handed-when false next body is = absurd cc

-- a message that was handed out, whether its first byte is the number of a station or not
abbrev listed_as : MasterState NodeState → List ℕ → Bool → MasterState NodeState
listed_as m message listed = if listed then transmitted (record (with_host m (after_next m.host)) { sending = message }) 0 else with_host (with_host m (after_next m.host)) (after_told (after_next m.host) fate.Undelivered)

listed-holds-not : (m : MasterState NodeState) (message : List ℕ) (listed : Bool) (body : List ℕ) → Rests m → SettledMaster m → node_host.next_body m.host ≡ Some message → StandsSo is_settled (listed_as m message listed).host.initiator.issued body → Free body (listed_as m message listed)
listed-holds-not m message true body quiet s next so =
    let before = next-so is_settled m.host body refl so in
    inr (hands-other body m.host m.host.replies message (so-plain is_settled m.host body s.known before) refl next (gives-not is_settled settled-out m.host body s.known before))
listed-holds-not m message false body quiet s next so = inl quiet

begun-holds-not : (m : MasterState NodeState) (o : Option (List ℕ)) → message_next node_host m ≡ o → SettledMaster m → (body : List ℕ) → StandsSo is_settled (begun_of node_host m o).host.initiator.issued body → Free body (begun_of node_host m o)
begun-holds-not m None is s body so = s.holds_not body so
begun-holds-not m (Some message) is s body so =
    let may = and_parts _ _ (handed-when (is_done m.mouth && is_idle m.phase) (node_host.next_body m.host) message is) in
    listed-holds-not m message (is_listed m.stations (slice_index message 0)) body (idle-rests m.phase may.1, done-gives m may.0) s (next-of node_host m message is) so

pub settled-take : (m : MasterState NodeState) → SettledMaster m → SettledMaster (master_after_take node_host m)
settled-take m s = record {
  known = take-keeps node_host _ known-keeps m s.known;
  holds_not = λ body so. taken-free body m (begun-holds-not m (message_next node_host m) refl s body so);
}

pub settled-issue : (m : MasterState NodeState) (src : Option ℕ) (dst : ℕ) (payload : List ℕ) → Known (master_after plain_node m (Issue src dst payload)).host → SettledMaster m → SettledMaster (master_after plain_node m (Issue src dst payload))
settled-issue m src dst payload known s = record {
  known = known;
  holds_not = λ body so.
      still-free body m (master_after plain_node m (Issue src dst payload)) refl refl refl
      (s.holds_not body (push-so is_settled m.host.initiator.issued (record { body = next_issued m.host.initiator (unwrap_or src m.host.initiator.node) dst payload; standing = Waiting }) body refl so));
}
