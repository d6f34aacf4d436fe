-- What holds at each point of a run that nothing disturbs from some point on.
use Rattle.std.proofs.Common.{◌≡◌, ◌∙◌, ℕ, ◌-◌, ◌≤◌, Bool, true, false, not, List, [], ◌∷◌, ◌++◌, length, map, Some, refl, ap, sym, subst, arith}
use Rattle.std.specs.Prelude.{slice_get}
use Rattle.std.specs.Option.{option_or}
use Rattle.std.specs.List.{filter}
use Rattle.std.proofs.lemmas.List.Elements.{filter-append}
use Rattle.df1_node.specs.Answer.{StationState}
use Rattle.df1_node.specs.Initiator.{InitiatorState, next_command, after_hand_out}
use Rattle.df1_node.specs.Node.{NodeState, next_body, after_next}
use Rattle.pccc_envelope.specs.Envelope.{is_reply}
use Rattle.duplex_end.specs.End.{EndState}
use Rattle.script_statement.specs.declared.who.Who.{Who}
use Rattle.replay_report.specs.declared.record.Line.{Line}
use Rattle.duplex_line.specs.Acts.{LineState, swapped}
use Rattle.duplex_line.specs.Prompt.{Late}
use Rattle.duplex_line.specs.Recoverable.{Damages}
use Rattle.duplex_line.proofs.Once.SentMessages.{Sends}
use Rattle.duplex_line.proofs.Once.Settings.{Allowance, IsAllowed}
use Rattle.each_once.proofs.HandedOut.{is_command, Hosts}
use Rattle.duplex_line.proofs.Complete.MessageUnderWay.{Flow, Marks}
use Rattle.duplex_line.proofs.Complete.DamageDone.{IsDamage}
use Rattle.duplex_line.proofs.Complete.ToldMessages.{TellsOf}
use Rattle.each_once.proofs.CommandsUnderWay.{AreUnderWay, under-way-hand_out}
use Rattle.each_once.proofs.InitiatorSteps.{next-is-command}
use Rattle.each_once.proofs.NodeSteps.{waiting-reply}
use Rattle.each_once.proofs.RepliesSince.{AreReplies, station_past, replies-since}
use Rattle.each_once.proofs.Sublists.{Has, IsWithin, nothing, skips, keeps, within-front, within-all, get-more, same-some, filter-keeps, filter-drops}
use Rattle.each_once.proofs.MessageLengths.{AreBodies, bodies-front}
use Rattle.each_once.proofs.TwoNodes.{IsKeyOf}
use Rattle.each_once.proofs.WaitingCommands.{is_other, next-is-other}

-- ---- from where on a run is looked at

-- an end there: its first station, and the messages that it had handed out and accepted before
pub record Origin : Type 0 where
  pub station : StationState
  pub sent : List (List ℕ)
  pub heard : List (List ℕ)

-- its station there
abbrev pub station_from : Origin → StationState
station_from o = station_past o.station o.heard

-- a command that it hadn't handed out before
abbrev pub is_later : Origin → List ℕ → Bool
is_later o body = is_other (filter is_command o.sent) body

-- what was so there of both ends: each had accepted some of the messages that the other had handed out, in their order; and it had handed out a reply to each command
pub record ArePast (first far_first : Origin) : Type 0 where
  pub within : IsWithin first.heard far_first.sent
  pub far_within : IsWithin far_first.heard first.sent
  pub even : length (filter is_reply first.sent) ≡ length (filter is_command first.heard)
  pub far_even : length (filter is_reply far_first.sent) ≡ length (filter is_command far_first.heard)

pub past-swapped : (first far_first : Origin) → ArePast first far_first → ArePast far_first first
past-swapped first far_first p = record { within = p.far_within; far_within = p.within; even = p.far_even; far_even = p.even }

-- ---- what holds from there on

-- each may have as many replies wait as the other may have commands out
pub record HaveRoom (near far : Allowance) : Type 0 where
  pub near_room : far.window ≤ near.room
  pub far_room : near.window ≤ far.room
  pub near_some : 1 ≤ near.window
  pub far_some : 1 ≤ far.window

-- how far an initiator is that handed out these commands: so many of them are answered, by as many replies; each that is out has all ticks
-- left but those that passed late
pub record IsAhead (first : Origin) (s : InitiatorState) (commands heard : List (List ℕ)) (late : ℕ) : Type 0 where
  pub done : ℕ
  pub under_way : AreUnderWay (is_later first) s commands done (λ j. s.reply_ticks - late)
  pub answers : length (filter is_reply heard) ≡ done

-- a node that handed out these messages and accepted those, beside those before
abbrev pub HostsSince : Origin → NodeState → (sent heard : List (List ℕ)) → Type 0
HostsSince first node sent heard = Hosts first.station node (first.sent ++ sent) (first.heard ++ heard)

-- an end that did
pub record IsEnd (first : Origin) (may : Allowance) (e : EndState NodeState) (sent heard : List (List ℕ)) (late : ℕ) : Type 0 where
  pub hosts : HostsSince first e.host sent heard
  pub sends : Sends e sent
  pub ahead : IsAhead first e.host.initiator (filter is_command sent) heard late
  pub bodies : AreBodies sent
  pub commands : AreBodies (map (λ c. c.body) e.host.initiator.issued)
  pub allowed : IsAllowed may e.host
  pub block : length (station_from first).block ≤ 244
  pub few : length e.host.initiator.issued ≤ 65535

-- both ends, both directions, and what was told of the accepted messages
pub record Flows (near far : Who) (first far_first : Origin) (s : LineState) (late : Late) (dam : Damages) (lines : List Line) : Type 0 where
  pub sent : List (List ℕ)
  pub heard : List (List ℕ)
  pub far_sent : List (List ℕ)
  pub far_heard : List (List ℕ)
  pub allowed : Allowance
  pub far_allowed : Allowance
  pub rooms : HaveRoom allowed far_allowed
  pub past : ArePast first far_first
  pub end : IsEnd first allowed s.a.end sent heard late.a
  pub far_end : IsEnd far_first far_allowed s.b.end far_sent far_heard late.b
  pub marks : Marks
  pub far_marks : Marks
  pub flow : Flow s.a.end s.b.end s.a.lane s.b.lane sent far_heard late.a marks
  pub far_flow : Flow s.b.end s.a.end s.b.lane s.a.lane far_sent heard late.b far_marks
  pub kept : IsKeyOf (first.sent ++ far_heard) s.b.end.receiver.kept
  pub far_kept : IsKeyOf (far_first.sent ++ heard) s.a.end.receiver.kept
  pub damage : IsDamage dam.a marks s.a.end.mouth.begun s.a.end.sender.limits.max_naks s.b.end.receiver.decoding s.a.lane
  pub far_damage : IsDamage dam.b far_marks s.b.end.mouth.begun s.b.end.sender.limits.max_naks s.a.end.receiver.decoding s.b.lane
  pub tells : TellsOf near (first.heard ++ heard) lines
  pub far_tells : TellsOf far (far_first.heard ++ far_heard) lines
  pub honest : s.deceived ≡ 0

abbrev pub late_swapped : Late → Late
late_swapped late = record { a = late.b; b = late.a }

abbrev pub damages_swapped : Damages → Damages
damages_swapped d = record { a = d.b; b = d.a }

pub flows-swapped : (near far : Who) (first far_first : Origin) (s : LineState) (late : Late) (dam : Damages) (lines : List Line) → Flows near far first far_first s late dam lines → Flows far near far_first first (swapped s) (late_swapped late) (damages_swapped dam) lines
flows-swapped near far first far_first s late dam lines h = record {
  sent = h.far_sent;
  heard = h.far_heard;
  far_sent = h.sent;
  far_heard = h.heard;
  allowed = h.far_allowed;
  far_allowed = h.allowed;
  rooms = record { near_room = h.rooms.far_room; far_room = h.rooms.near_room; near_some = h.rooms.far_some; far_some = h.rooms.near_some };
  past = past-swapped first far_first h.past;
  end = h.far_end;
  far_end = h.end;
  marks = h.far_marks;
  far_marks = h.marks;
  flow = h.far_flow;
  far_flow = h.flow;
  kept = h.far_kept;
  far_kept = h.kept;
  damage = h.far_damage;
  far_damage = h.damage;
  tells = h.far_tells;
  far_tells = h.tells;
  honest = h.honest;
}

-- what was accepted was sent, so it is bodies
pub heard-bodies : (sent heard flight : List (List ℕ)) → AreBodies sent → sent ≡ heard ++ flight → AreBodies heard
heard-bodies sent heard flight bodies is = bodies-front heard flight (subst AreBodies is bodies)

-- the replies of a station since then
pub replies-of : (first : Origin) (node : NodeState) (sent heard : List (List ℕ)) → length (filter is_reply first.sent) ≡ length (filter is_command first.heard) → HostsSince first node sent heard → AreReplies (station_from first) sent heard node.replies
replies-of first node sent heard even h = replies-since first.station first.sent sent first.heard heard node.replies h.replies even

-- a list within another, and what follows both
pub within-both : {A : Type 0} (xs ys zs more : List A) → IsWithin xs ys → IsWithin (xs ++ zs) (ys ++ (zs ++ more))
within-both _ _ zs more nothing = within-front zs zs more (within-all zs)
within-both _ _ zs more (skips y xs ys h) = skips y (xs ++ zs) (ys ++ (zs ++ more)) (within-both xs ys zs more h)
within-both _ _ zs more (keeps x xs ys h) = keeps x (xs ++ zs) (ys ++ (zs ++ more)) (within-both xs ys zs more h)

-- ---- a message is handed out

pub ahead-next : (first : Origin) (node : NodeState) (body : List ℕ) (sent heard : List (List ℕ)) (late : ℕ) → length node.initiator.issued ≤ 65535 → next_body node ≡ Some body → HostsSince first node sent heard → IsAhead first node.initiator (filter is_command sent) heard late
    → IsAhead first (after_next node).initiator (filter is_command (sent ++ body ∷ [])) heard late
ahead-next first node body sent heard late few next h a = by-replies node.replies refl
  where
    before : (x : List ℕ) → Has (filter is_command first.sent) x → Has (filter is_command (first.sent ++ sent)) x
    before x has = subst (λ (xs : List (List ℕ)). Has xs x) (sym (filter-append is_command first.sent sent)) (has.0, get-more (filter is_command first.sent) (filter is_command sent) has.0 x has.1)

    by-replies : (replies : List (List ℕ)) → node.replies ≡ replies → IsAhead first (after_next node).initiator (filter is_command (sent ++ body ∷ [])) heard late
    by-replies (r ∷ rs) is =
        let same : r ≡ body = same-some r body (sym (ap (λ (xs : List (List ℕ)). option_or (slice_get xs 0) (next_command node.initiator)) is) ∙ next) in
        let reply : is_reply body ≡ true = ap is_reply (sym same) ∙ waiting-reply h r rs is in
        rw is (subst (λ (xs : List (List ℕ)). IsAhead first node.initiator xs heard late) (sym (filter-drops is_command sent body (ap not reply))) a)
    by-replies [] is =
        let command : next_command node.initiator ≡ Some body = sym (ap (λ (xs : List (List ℕ)). option_or (slice_get xs 0) (next_command node.initiator)) is) ∙ next in
        let plain : is_reply body ≡ false = next-is-command command h.initiates in
        let later : is_later first body ≡ true = next-is-other h few body command (filter is_command first.sent) before in
        let after : IsAhead first (after_hand_out node.initiator) (filter is_command sent ++ body ∷ []) heard late = record {
          done = a.done;
          under_way = under-way-hand_out (is_later first) node.initiator body (filter is_command sent) a.done _ later command (λ j within. omega arith) a.under_way;
          answers = a.answers;
        } in
        rw is (subst (λ (xs : List (List ℕ)). IsAhead first (after_hand_out node.initiator) xs heard late) (sym (filter-keeps is_command sent body (ap not plain))) after)
