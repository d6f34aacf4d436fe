-- A half-duplex master whose command is over: what each signal leaves of that.
use Rattle.std.proofs.Common.{◌≡◌, ◌≢◌, ◌∙◌, ◌⊎◌, inl, inr, ℕ, Bool, true, false, List, Option, Some, None, refl, sym, ap}
use Rattle.std.specs.Prelude.{slice_get, slice_index, unwrap_or, option_to_list, if◌then◌else◌}
use Rattle.std.specs.Option.{option_map}
use Rattle.df1_base.specs.declared.host.Fate.TheVariants as fate
use Rattle.df1_base.specs.declared.link.Out.{Out}
use Rattle.df1_base.specs.HostAnswers.{host_told}
use Rattle.df1_node.specs.Initiator.{next_issued}
use Rattle.df1_node.specs.Node.{NodeState, after_next, after_told}
use Rattle.each_once.specs.NodeHost.{node_host}
use Rattle.half_line.specs.Acts.{Issue, master_after, cells_given}
use Rattle.half_line.specs.Behind.{plain_node}
use Rattle.half_master.specs.declared.stations.Station.{Station}
use Rattle.half_master.specs.declared.table.Phase.{Phase}
use Rattle.half_master.specs.declared.table.Phase.TheVariants as phase
use Rattle.half_master.specs.declared.table.Effect.{Effect}
use Rattle.half_master.specs.declared.table.Effect.TheVariants as effect
use Rattle.half_master.specs.Master.{MasterState, with_host, with_byte, heard_at, body_of, effect_of_byte, effect_at_tick, polled, performed, transmitted, fate_of, host_accepted, host_ticked, master_after_byte, master_after_tick, message_next, begun_of, begun, master_after_take, out_at_take}
use Rattle.half_master.specs.Stations.{is_listed}
use Rattle.half_master.proofs.HostSteps.{Keeps, byte-keeps, tick-keeps, take-keeps}
use Rattle.half_master.proofs.LastMessage.{Gives, awaits, OnlyThen, heard-then, tick-then, left-awaits, next-of, take-gives, take-ends}
use Rattle.half_mouth.specs.Giving.{Giving}
use Rattle.lane_cells.specs.Cells.{cell_of}
use Rattle.pccc_envelope.specs.Envelope.{is_reply}
use Rattle.run_laws.specs.Over.{GivesNone, MasterHoldsNot, waits_for_ack}
use Rattle.run_laws.proofs.OverNode.{GivesNot, NoneEnds, accepts, told, node-ticks, node-issues, hands-other, node-hands, marked-other}

-- it gives no message and waits for no ACK
abbrev pub Rests : MasterState NodeState → Type 0
Rests m = (awaits m.phase ≡ false) × (Gives m.mouth → ⊥)

-- that, or its message is another one
abbrev pub Free : List ℕ → MasterState NodeState → Type 0
Free body m = Rests m ⊎ (m.sending ≢ body)

-- it won't give this command any more
pub record MasterNot (body : List ℕ) (m : MasterState NodeState) : Type 0 where
  pub command : is_reply body ≡ false
  pub free : Free body m
  pub gives : GivesNot body m.host

-- ---- what it holds

pub same-wait : (p : Phase) → waits_for_ack p ≡ awaits p
same-wait phase.Idle = refl
same-wait (phase.WaitsForAck left resent) = refl
same-wait (phase.WaitsAfterPoll left place) = refl

gives-none : (g : Giving) → GivesNone g → Gives g → ⊥
gives-none g (inl done) gives = let clash : true ≡ false = sym done ∙ gives.2 in cc
gives-none g (inr none) gives = let clash : None ≡ Some gives.0 = sym none ∙ gives.1 in cc

pub free-of : (body : List ℕ) (m : MasterState NodeState) → MasterHoldsNot m body → Free body m
free-of body m (inl rests) = inl (sym (same-wait m.phase) ∙ rests.0, gives-none m.mouth rests.1)
free-of body m (inr apart) = inr apart

polled-rests : (m : MasterState NodeState) (o : Option Station) → Rests m → Rests (polled m o)
polled-rests m None rests = rests
polled-rests m (Some station) rests = (refl, λ gives. let none = gives.1 in cc)

performed-rests : (m : MasterState NodeState) (what : Effect) → OnlyThen (awaits m.phase) what → Rests m → Rests (performed m what)
performed-rests m effect.Nothing only rests = rests
performed-rests m (effect.Waits left) only rests = (left-awaits left m.phase ∙ rests.0, rests.1)
performed-rests m effect.Delivered only rests = (refl, rests.1)
performed-rests m (effect.Again resent) only rests = absurd (let clash : true ≡ false = sym only ∙ rests.0 in cc)
performed-rests m effect.GivenUp only rests = (refl, rests.1)
performed-rests m effect.PollOver only rests = (refl, rests.1)
performed-rests m (effect.Accepted place) only rests = (refl, λ gives. let none = gives.1 in cc)
performed-rests m effect.Repeated only rests = (refl, λ gives. let none = gives.1 in cc)
performed-rests m effect.Refused only rests = rests
performed-rests m effect.Damaged only rests = rests
performed-rests m effect.Polls only rests = polled-rests m (slice_get m.stations m.next) rests

polled-sending : (m : MasterState NodeState) (o : Option Station) → (polled m o).sending ≡ m.sending
polled-sending m None = refl
polled-sending m (Some station) = refl

performed-sending : (m : MasterState NodeState) (what : Effect) → (performed m what).sending ≡ m.sending
performed-sending m effect.Nothing = refl
performed-sending m (effect.Waits left) = refl
performed-sending m effect.Delivered = refl
performed-sending m (effect.Again resent) = refl
performed-sending m effect.GivenUp = refl
performed-sending m effect.PollOver = refl
performed-sending m (effect.Accepted place) = refl
performed-sending m effect.Repeated = refl
performed-sending m effect.Refused = refl
performed-sending m effect.Damaged = refl
performed-sending m effect.Polls = polled-sending m (slice_get m.stations m.next)

pub performed-free : (body : List ℕ) (m : MasterState NodeState) (what : Effect) → OnlyThen (awaits m.phase) what → Free body m → Free body (performed m what)
performed-free body m what only (inl rests) = inl (performed-rests m what only rests)
performed-free body m what only (inr apart) = inr (λ same. apart (sym (performed-sending m what) ∙ same))

-- the same parts, with another host and another ear
pub still-free : (body : List ℕ) (m now : MasterState NodeState) → now.phase ≡ m.phase → now.mouth ≡ m.mouth → now.sending ≡ m.sending → Free body m → Free body now
still-free body m now phase_is mouth_is sending_is (inl rests) = inl (ap awaits phase_is ∙ rests.0, rw mouth_is rests.1)
still-free body m now phase_is mouth_is sending_is (inr apart) = inr (λ same. apart (sym sending_is ∙ same))

-- ---- signals

host-keeps : (body : List ℕ) → Keeps node_host (λ (host later : NodeState). GivesNot body host → GivesNot body later)
host-keeps body = record {
  same = λ host gives. gives;
  both = λ host later last first second gives. second (first gives);
  accept = λ host what gives. accepts body host what gives;
  told = λ host what gives. told body (Some what) host gives;
  next = λ host gives. node-hands body host gives;
  tick = λ host gives. node-ticks body host gives;
}

pub master-byte : (body : List ℕ) (m : MasterState NodeState) (b : ℕ) → MasterNot body m → MasterNot body (master_after_byte node_host m b)
master-byte body m b h =
    let what = effect_of_byte node_host m b in
    let host = host_told node_host (fate_of what) (host_accepted node_host what m.host (body_of (with_byte m b))) in
    let now = with_host (with_byte m b) host in
    record {
      command = h.command;
      free = performed-free body now what (heard-then node_host (with_byte m b) (heard_at m b)) (still-free body m now refl refl refl h.free);
      gives = byte-keeps node_host _ (host-keeps body) m b h.gives;
    }

pub master-tick : (body : List ℕ) (m : MasterState NodeState) → MasterNot body m → MasterNot body (master_after_tick node_host m)
master-tick body m h =
    let what = effect_at_tick node_host m in
    let now = with_host m (host_told node_host (fate_of what) (host_ticked node_host what m.host)) in
    record {
      command = h.command;
      free = performed-free body now what (tick-then node_host m) (still-free body m now refl refl refl h.free);
      gives = tick-keeps node_host _ (host-keeps body) m h.gives;
    }

-- a message that was handed out, whether its first byte is the number of a station or not
listed-free : (body message : List ℕ) (listed : Bool) (m : MasterState NodeState) (host later : NodeState) → message ≢ body → Free body m → Free body (if listed then transmitted (record (with_host m host) { sending = message }) 0 else with_host (with_host m host) later)
listed-free body message true m host later apart free = inr apart
listed-free body message false m host later apart free = still-free body m (with_host (with_host m host) later) refl refl refl free

begun-free : (body : List ℕ) (m : MasterState NodeState) (o : Option (List ℕ)) → message_next node_host m ≡ o → MasterNot body m → Free body (begun_of node_host m o)
begun-free body m None is h = h.free
begun-free body m (Some message) is h =
    let host = after_next m.host in
    listed-free body message (is_listed m.stations (slice_index message 0)) m host (after_told host fate.Undelivered) (hands-other body m.host m.host.replies message h.command refl (next-of node_host m message is) h.gives) h.free

pub taken-free : (body : List ℕ) (m : MasterState NodeState) → Free body (begun node_host m) → Free body (master_after_take node_host m)
taken-free body m (inl rests) = inl (rests.0, λ gives. rests.1 (take-gives (begun node_host m).mouth gives))
taken-free body m (inr apart) = inr apart

pub master-take : (body : List ℕ) (m : MasterState NodeState) → MasterNot body m → MasterNot body (master_after_take node_host m)
master-take body m h = record {
  command = h.command;
  free = taken-free body m (begun-free body m (message_next node_host m) refl h);
  gives = take-keeps node_host _ (host-keeps body) m h.gives;
}

pub master-issue : (body : List ℕ) (m : MasterState NodeState) (src : Option ℕ) (dst : ℕ) (payload : List ℕ) → next_issued m.host.initiator (unwrap_or src m.host.initiator.node) dst payload ≢ body → MasterNot body m → MasterNot body (master_after plain_node m (Issue src dst payload))
master-issue body m src dst payload apart h = record {
  command = h.command;
  free = still-free body m (master_after plain_node m (Issue src dst payload)) refl refl refl h.free;
  gives = node-issues body m.host (unwrap_or src m.host.initiator.node) dst payload apart h.gives;
}

-- ---- the bytes that it gives

ends-other : (body : List ℕ) (m : MasterState NodeState) (out : Out) (number : ℕ) → Free body (begun node_host m) → out_at_take node_host m ≡ Some out → out.last_of ≡ Some number → (master_after_take node_host m).sending ≢ body
ends-other body m out number (inl rests) given last = absurd (rests.1 (take-ends (begun node_host m).mouth out number given last))
ends-other body m out number (inr apart) given last = apart

given-other : (body : List ℕ) (m : MasterState NodeState) (o : Option Out) → Free body (begun node_host m) → out_at_take node_host m ≡ o → NoneEnds body (option_to_list (option_map (cell_of (master_after_take node_host m).sending) o))
given-other body m None free is = tt
given-other body m (Some out) free is = (marked-other body (master_after_take node_host m).sending out.last_of (λ number last. ends-other body m out number free is last), tt)

pub cells-other : (body : List ℕ) (m : MasterState NodeState) → MasterNot body m → NoneEnds body (cells_given plain_node m)
cells-other body m h = given-other body m (out_at_take node_host m) (begun-free body m (message_next node_host m) refl h) refl
