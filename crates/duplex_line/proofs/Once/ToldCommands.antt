-- In every run, whatever is heard: each end's commands are those that the script issues, and the lines tell how each ended.
use Rattle.std.proofs.Common.{◌≡◌, ◌∙◌, ℕ, zero, suc, true, false, List, [], ◌∷◌, ◌++◌, map, Option, Some, None, refl, ap, sym, subst, append-nil, append_assoc}
use Rattle.std.specs.Prelude.{IsTrue, All, replicate, unwrap_or}
use Rattle.std.specs.Option.{option_map_or}
use Rattle.std.proofs.lemmas.List.Elements.{All-head, All-tail, filter_map-append}
use Rattle.df1_base.specs.declared.host.Did.{Did}
use Rattle.df1_base.specs.declared.host.Did.TheVariants as did
use Rattle.df1_base.specs.declared.host.Fate.{Fate}
use Rattle.df1_base.specs.declared.host.Fate.TheVariants as fate
use Rattle.df1_base.specs.declared.host.News.{News}
use Rattle.df1_base.specs.declared.host.News.TheVariants as news
use Rattle.df1_base.specs.declared.link.Act.{Act}
use Rattle.df1_base.specs.declared.link.Act.TheVariants as act
use Rattle.df1_base.specs.declared.link.Turn.{Turn}
use Rattle.df1_base.specs.declared.link.Turn.TheVariants as turn
use Rattle.df1_base.specs.HostAnswers.{did_at, news_of, host_told}
use Rattle.df1_node.specs.Node.{NodeState, after_next, after_tick as node_ticked}
use Rattle.duplex_sender.specs.declared.SendTurn.{SendTurn}
use Rattle.duplex_sender.specs.declared.SendTurn.TheVariants as sends
use Rattle.duplex_sender.specs.Sender.{tick_turn}
use Rattle.duplex_end.specs.End.{act_of_byte, fate_at, host_after, host_at_byte, fate_of_tick, turn_told, turn_at_tick, host_at_tick, gone_at_tick}
use Rattle.script_statement.specs.declared.who.Who.{Who}
use Rattle.script_statement.specs.declared.who.Who.TheVariants.{A, B, M, S}
use Rattle.script_parts.specs.declared.script.Event.{Event}
use Rattle.script_parts.specs.declared.script.Event.TheVariants as event
use Rattle.script_parts.specs.declared.script.Script.{Script}
use Rattle.script_parts.specs.Playable.{IsPossible, IsPlayable, is_end}
use Rattle.replay_report.specs.declared.record.Line.{Line}
use Rattle.replay_report.specs.declared.record.Line.TheVariants as line
use Rattle.replay_report.specs.Report.{sent_lines}
use Rattle.each_once.specs.Commands.{Request, AreOutcomesTold}
use Rattle.each_once.specs.NodeHost.{node_host}
use Rattle.report_lines.specs.NodeLines.{did_lines, act_lines, news_lines, turn_lines, gone_lines}
use Rattle.each_once.specs.Tells.{is_who}
use Rattle.each_once.proofs.IssuedCommands.{SameCommands, same-itself, same-both, same-accept, same-told, same-tick, same-next, AreIssued, issued-same, issued-more}
use Rattle.each_once.proofs.ToldOutcomes.{TellNone, none-both, outcomes-start, outcomes-silent, outcomes-issue, outcomes-accept, outcomes-told, outcomes-next, outcomes-tick}
use Rattle.lane_cells.specs.Cells.{LaneCell}
use Rattle.duplex_line.specs.Acts.{LineEndState, LineState, swapped, Deed, after_issue, Issue, Take, Deliver, Lose, Alter, Foreign, Tick, near_after, arriving, after_cell, after_arrival, step_of, body_heard, after_deed, after_deeds, near_lines, cell_lines, arrival_lines, lines_at, lines_over, given_over}
use Rattle.duplex_line.specs.Issues.{request_at, requests_in}
use Rattle.duplex_line.specs.Run.{plan_of_a, plan_of_b, start, seen_from, after_event, deed_lines, lines_of, state_after, lines_after, last_state}
use Rattle.duplex_line.proofs.Once.Invariant.{AreTwo, two-swapped, a-and-b, joins-end}
use Rattle.duplex_line.proofs.Once.SentMessages.{handed_at, take-host}

-- ---- lines of another end

other-did : (who by : Who) → is_who who by ≡ false → (what : Option Did) (body : List ℕ) → TellNone who (did_lines by what body)
other-did who by apart None body n = refl
other-did who by apart (Some did.Executed) body n = refl
other-did who by apart (Some (did.Answered number)) body n = rw apart refl
other-did who by apart (Some did.Stray) body n = refl

other-act : (who by : Who) → is_who who by ≡ false → (what : Act) (did : Option Did) (body : List ℕ) → TellNone who (act_lines by what did body)
other-act who by apart act.Accept did body = other-did who by apart did body
other-act who by apart act.Repeat did body = λ n. refl
other-act who by apart act.Refuse did body = λ n. refl
other-act who by apart act.Damaged did body = λ n. refl
other-act who by apart act.Forgot did body = λ n. refl
other-act who by apart act.PeerAck did body = λ n. refl
other-act who by apart act.PeerNak did body = λ n. refl
other-act who by apart act.PeerEnq did body = λ n. refl
other-act who by apart act.Nothing did body = λ n. refl

other-news : (who by : Who) → is_who who by ≡ false → (told : News) → TellNone who (news_lines by told)
other-news who by apart news.Nothing n = refl
other-news who by apart (news.Undelivered number) n = rw apart refl
other-news who by apart news.Dropped n = refl

other-turn : (who by : Who) → is_who who by ≡ false → (told : Turn) → TellNone who (turn_lines by told)
other-turn who by apart turn.Still = λ n. refl
other-turn who by apart turn.Ask = λ n. refl
other-turn who by apart (turn.Failed told) = other-news who by apart told

other-gone : (who by : Who) → is_who who by ≡ false → (numbers : List ℕ) → TellNone who (gone_lines by numbers)
other-gone who by apart [] n = refl
other-gone who by apart (number ∷ numbers) n = rw apart (other-gone who by apart numbers n)

other-cell : (who by : Who) → is_who who by ≡ false → (side : LineEndState) (cell : LaneCell) → TellNone who (cell_lines by side cell)
other-cell who by apart side cell =
    let step = step_of side cell in
    let body = body_heard side cell in
    none-both who (act_lines by step.act step.did body) (news_lines by step.news) (other-act who by apart step.act step.did body) (other-news who by apart step.news)

other-arrival : (who by : Who) → is_who who by ≡ false → (side : LineEndState) (cell : Option LaneCell) → TellNone who (arrival_lines by side cell)
other-arrival who by apart side None = λ n. refl
other-arrival who by apart side (Some cell) = other-cell who by apart side cell

other-near : (who by : Who) → is_who who by ≡ false → (side : LineEndState) (deed : Deed) → TellNone who (near_lines by side deed)
other-near who by apart side (Issue src dst payload) = λ n. refl
other-near who by apart side Take = λ n. refl
other-near who by apart side Deliver = λ n. refl
other-near who by apart side Lose = λ n. refl
other-near who by apart side (Alter mask) = λ n. refl
other-near who by apart side (Foreign byte) = λ n. refl
other-near who by apart side Tick =
    let told = turn_at_tick node_host side.end in
    let gone = gone_at_tick node_host side.end in
    none-both who (turn_lines by told) (gone_lines by gone) (other-turn who by apart told) (other-gone who by apart gone)

none-sent : (who by : Who) (bytes : List ℕ) → TellNone who (sent_lines by bytes)
none-sent who by [] n = refl
none-sent who by (byte ∷ bytes) n = refl

-- ---- one end

-- an end whose commands are these requests, and of which the lines tell how each ended
pub record Recounts (who : Who) (node tns : ℕ) (requests : List Request) (side : LineEndState) (lines : List Line) : Type 0 where
  pub issued : AreIssued node tns requests side.end.host.initiator
  pub outcomes : AreOutcomesTold who side.end.host.initiator.issued lines

recounts-silent : (who : Who) (node tns : ℕ) (requests : List Request) (side : LineEndState) (lines more : List Line) → TellNone who more → Recounts who node tns requests side lines → Recounts who node tns requests side (lines ++ more)
recounts-silent who node tns requests side lines more none r = record { issued = r.issued; outcomes = outcomes-silent who side.end.host.initiator.issued lines more none r.outcomes }

-- what the host does at an act
outcomes-act : (who : Who) → is_who who who ≡ true → (what : Act) (host : NodeState) (body : List ℕ) (lines : List Line) → AreOutcomesTold who host.initiator.issued lines
    → AreOutcomesTold who (host_after node_host what host body).initiator.issued (lines ++ act_lines who what (did_at node_host what host body) body)
outcomes-act who itself act.Accept host body lines told = outcomes-accept who itself host body lines told
outcomes-act who itself act.Repeat host body lines told = outcomes-silent who host.initiator.issued lines (line.Repeat who ∷ []) (λ n. refl) told
outcomes-act who itself act.Refuse host body lines told = outcomes-silent who host.initiator.issued lines (line.Full who ∷ []) (λ n. refl) told
outcomes-act who itself act.Damaged host body lines told = outcomes-silent who host.initiator.issued lines (line.Damaged who ∷ []) (λ n. refl) told
outcomes-act who itself act.Forgot host body lines told = outcomes-silent who host.initiator.issued lines [] (λ n. refl) told
outcomes-act who itself act.PeerAck host body lines told = outcomes-silent who host.initiator.issued lines [] (λ n. refl) told
outcomes-act who itself act.PeerNak host body lines told = outcomes-silent who host.initiator.issued lines [] (λ n. refl) told
outcomes-act who itself act.PeerEnq host body lines told = outcomes-silent who host.initiator.issued lines [] (λ n. refl) told
outcomes-act who itself act.Nothing host body lines told = outcomes-silent who host.initiator.issued lines [] (λ n. refl) told

pub same-act : (what : Act) (host : NodeState) (body : List ℕ) → SameCommands host.initiator (host_after node_host what host body).initiator
same-act act.Accept host body = same-accept host body
same-act act.Repeat host body = same-itself host.initiator
same-act act.Refuse host body = same-itself host.initiator
same-act act.Damaged host body = same-itself host.initiator
same-act act.Forgot host body = same-itself host.initiator
same-act act.PeerAck host body = same-itself host.initiator
same-act act.PeerNak host body = same-itself host.initiator
same-act act.PeerEnq host body = same-itself host.initiator
same-act act.Nothing host body = same-itself host.initiator

-- what it does where a fate is told
outcomes-fate : (who : Who) → is_who who who ≡ true → (what : Option Fate) (host : NodeState) (lines : List Line) → AreOutcomesTold who host.initiator.issued lines
    → AreOutcomesTold who (host_told node_host what host).initiator.issued (lines ++ news_lines who (news_of node_host what host))
outcomes-fate who itself None host lines told = outcomes-silent who host.initiator.issued lines [] (λ n. refl) told
outcomes-fate who itself (Some what) host lines told = outcomes-told who itself what host lines told

pub same-fate : (what : Option Fate) (host : NodeState) → SameCommands host.initiator (host_told node_host what host).initiator
same-fate None host = same-itself host.initiator
same-fate (Some what) host = same-told what host

recounts-cell : (who : Who) → is_who who who ≡ true → (node tns : ℕ) (requests : List Request) (side : LineEndState) (cell : LaneCell) (lines : List Line) → Recounts who node tns requests side lines → Recounts who node tns requests (after_cell side cell) (lines ++ cell_lines who side cell)
recounts-cell who itself node tns requests side cell lines r =
    let e = side.end in
    let what = act_of_byte node_host e cell.byte in
    let body = body_heard side cell in
    let fate = fate_at what e.sender in
    let now = host_at_byte node_host e cell.byte in
    let first = act_lines who what (did_at node_host what e.host body) body in
    let second = news_lines who (news_of node_host fate now) in
    record {
      issued = issued-same node tns requests e.host.initiator _ (same-both e.host.initiator now.initiator _ (same-act what e.host body) (same-fate fate now)) r.issued;
      outcomes = subst (λ (all : List Line). AreOutcomesTold who (host_told node_host fate now).initiator.issued all) (append_assoc lines first second)
          (outcomes-fate who itself fate now (lines ++ first) (outcomes-act who itself what e.host body lines r.outcomes));
    }

recounts-arrival : (who : Who) → is_who who who ≡ true → (node tns : ℕ) (requests : List Request) (side : LineEndState) (cell : Option LaneCell) (lines : List Line) → Recounts who node tns requests side lines → Recounts who node tns requests (after_arrival side cell) (lines ++ arrival_lines who side cell)
recounts-arrival who itself node tns requests side None lines r = recounts-silent who node tns requests side lines [] (λ n. refl) r
recounts-arrival who itself node tns requests side (Some cell) lines r = recounts-cell who itself node tns requests side cell lines r

-- what is issued at a step of an end of this address
abbrev requests_of : ℕ → Deed → List Request
requests_of node (Issue src dst payload) = record { src = unwrap_or src node; dst = dst; payload = payload } ∷ []
requests_of node Take = []
requests_of node Deliver = []
requests_of node Lose = []
requests_of node (Alter mask) = []
requests_of node (Foreign byte) = []
requests_of node Tick = []

pub same-handed : (o : Option (List ℕ)) (host : NodeState) → SameCommands host.initiator (option_map_or (λ (body : List ℕ). after_next host) o host).initiator
same-handed None host = same-itself host.initiator
same-handed (Some body) host = same-next host

outcomes-handed : (who : Who) (o : Option (List ℕ)) (host : NodeState) (lines : List Line) → AreOutcomesTold who host.initiator.issued lines → AreOutcomesTold who (option_map_or (λ (body : List ℕ). after_next host) o host).initiator.issued lines
outcomes-handed who None host lines told = told
outcomes-handed who (Some body) host lines told = outcomes-next who host lines told

-- the sender's part of a tick
outcomes-turn : (who : Who) → is_who who who ≡ true → (told : SendTurn) (host : NodeState) (lines : List Line) → AreOutcomesTold who host.initiator.issued lines
    → AreOutcomesTold who (host_told node_host (fate_of_tick told) host).initiator.issued (lines ++ turn_lines who (turn_told node_host told host))
outcomes-turn who itself sends.Still host lines told = outcomes-silent who host.initiator.issued lines [] (λ n. refl) told
outcomes-turn who itself sends.Ask host lines told = outcomes-silent who host.initiator.issued lines (line.Enquiry who ∷ []) (λ n. refl) told
outcomes-turn who itself sends.Failed host lines told = outcomes-told who itself fate.Undelivered host lines told

recounts-tick : (who : Who) → is_who who who ≡ true → (node tns : ℕ) (requests : List Request) (side : LineEndState) (lines : List Line) → Recounts who node tns requests side lines → Recounts who node tns requests (near_after side Tick) (lines ++ near_lines who side Tick)
recounts-tick who itself node tns requests side lines r =
    let e = side.end in
    let turns = tick_turn e.sender in
    let now = host_at_tick node_host e in
    let first = turn_lines who (turn_told node_host turns e.host) in
    let second = gone_lines who (gone_at_tick node_host e) in
    record {
      issued = issued-same node tns requests e.host.initiator _ (same-both e.host.initiator now.initiator _ (same-fate (fate_of_tick turns) e.host) (same-tick now)) r.issued;
      outcomes = subst (λ (all : List Line). AreOutcomesTold who (node_ticked now).initiator.issued all) (append_assoc lines first second)
          (outcomes-tick who itself now (lines ++ first) (outcomes-turn who itself turns e.host lines r.outcomes));
    }

-- a step that leaves the node as it is
recounts-still : (who : Who) (node tns : ℕ) (requests : List Request) (side next : LineEndState) (lines : List Line) → next.end.host ≡ side.end.host → Recounts who node tns requests side lines → Recounts who node tns (requests ++ []) next (lines ++ [])
recounts-still who node tns requests side next lines same r =
    rw (append-nil requests, append-nil lines) (record {
      issued = subst (λ (host : NodeState). AreIssued node tns requests host.initiator) (sym same) r.issued;
      outcomes = subst (λ (host : NodeState). AreOutcomesTold who host.initiator.issued lines) (sym same) r.outcomes;
    })

recounts-near : (who : Who) → is_who who who ≡ true → (node tns : ℕ) (requests : List Request) (deed : Deed) (side : LineEndState) (lines : List Line) → Recounts who node tns requests side lines
    → Recounts who node tns (requests ++ requests_of node deed) (near_after side deed) (lines ++ near_lines who side deed)
recounts-near who itself node tns requests (Issue src dst payload) side lines r =
    rw (append-nil lines) (record {
      issued = subst (λ (own : ℕ). AreIssued node tns (requests ++ record { src = unwrap_or src own; dst = dst; payload = payload } ∷ []) (after_issue side src dst payload).end.host.initiator) r.issued.node_is
          (issued-more node tns requests side.end.host.initiator (unwrap_or src side.end.host.initiator.node) dst payload r.issued);
      outcomes = outcomes-issue who side.end.host.initiator.issued _ lines refl r.outcomes;
    })
recounts-near who itself node tns requests Take side lines r =
    let host = side.end.host in
    let handed = handed_at node_host side.end in
    rw (append-nil requests, append-nil lines) (record {
      issued = subst (λ (now : NodeState). AreIssued node tns requests now.initiator) (sym (take-host node_host side.end)) (issued-same node tns requests host.initiator _ (same-handed handed host) r.issued);
      outcomes = subst (λ (now : NodeState). AreOutcomesTold who now.initiator.issued lines) (sym (take-host node_host side.end)) (outcomes-handed who handed host lines r.outcomes);
    })
recounts-near who itself node tns requests Deliver side lines r = recounts-still who node tns requests side (near_after side Deliver) lines refl r
recounts-near who itself node tns requests Lose side lines r = recounts-still who node tns requests side (near_after side Lose) lines refl r
recounts-near who itself node tns requests (Alter mask) side lines r = recounts-still who node tns requests side (near_after side (Alter mask)) lines refl r
recounts-near who itself node tns requests (Foreign byte) side lines r = recounts-still who node tns requests side side lines refl r
recounts-near who itself node tns requests Tick side lines r = rw (append-nil requests) (recounts-tick who itself node tns requests side lines r)

-- ---- both ends

-- an end's address and the first number of its commands
pub record Numbering : Type 0 where
  pub node : ℕ
  pub tns : ℕ

-- both ends, by what each has issued
pub record BothRecount (near far : Who) (of_near of_far : Numbering) (requests far_requests : List Request) (s : LineState) (lines : List Line) : Type 0 where
  pub recounts : Recounts near of_near.node of_near.tns requests s.a lines
  pub far_recounts : Recounts far of_far.node of_far.tns far_requests s.b lines

both-deed : (near far : Who) → AreTwo near far → (of_near of_far : Numbering) (requests far_requests : List Request) (s : LineState) (deed : Deed) (lines : List Line) → BothRecount near far of_near of_far requests far_requests s lines
    → BothRecount near far of_near of_far (requests ++ requests_of of_near.node deed) far_requests (after_deed s deed) (lines ++ lines_at near far s deed)
both-deed near far two of_near of_far requests far_requests s deed lines b =
    let first = near_lines near s.a deed in
    let second = arrival_lines far s.b (arriving s.a deed) in
    subst (λ (all : List Line). BothRecount near far of_near of_far (requests ++ requests_of of_near.node deed) far_requests (after_deed s deed) all) (append_assoc lines first second)
    (record {
      recounts = recounts-silent near of_near.node of_near.tns (requests ++ requests_of of_near.node deed) (near_after s.a deed) (lines ++ first) second (other-arrival near far two.other s.b (arriving s.a deed))
          (recounts-near near two.itself of_near.node of_near.tns requests deed s.a lines b.recounts);
      far_recounts = recounts-arrival far two.far_itself of_far.node of_far.tns far_requests s.b (arriving s.a deed) (lines ++ first)
          (recounts-silent far of_far.node of_far.tns far_requests s.b lines first (other-near far near two.far_other s.a deed) b.far_recounts);
    })

abbrev requests_over : ℕ → List Deed → List Request
requests_over node [] = []
requests_over node (deed ∷ deeds) = requests_of node deed ++ requests_over node deeds

both-deeds : (near far : Who) → AreTwo near far → (of_near of_far : Numbering) (requests far_requests : List Request) (s : LineState) (deeds : List Deed) (lines : List Line) → BothRecount near far of_near of_far requests far_requests s lines
    → BothRecount near far of_near of_far (requests ++ requests_over of_near.node deeds) far_requests (after_deeds s deeds) (lines ++ lines_over near far s deeds)
both-deeds near far two of_near of_far requests far_requests s [] lines b = rw (append-nil requests, append-nil lines) b
both-deeds near far two of_near of_far requests far_requests s (deed ∷ deeds) lines b =
    let first = lines_at near far s deed in
    let rest = lines_over near far (after_deed s deed) deeds in
    rw (sym (append_assoc requests (requests_of of_near.node deed) (requests_over of_near.node deeds)), sym (append_assoc lines first rest))
    (both-deeds near far two of_near of_far (requests ++ requests_of of_near.node deed) far_requests (after_deed s deed) deeds (lines ++ first)
    (both-deed near far two of_near of_far requests far_requests s deed lines b))

-- the steps of an event at one of two ends, with its bytes
both-event : (near far : Who) → AreTwo near far → (of_near of_far : Numbering) (requests far_requests more : List Request) (s : LineState) (deeds : List Deed) (bytes : List ℕ) (lines : List Line) → requests_over of_near.node deeds ≡ more
    → BothRecount near far of_near of_far requests far_requests s lines → BothRecount near far of_near of_far (requests ++ more) far_requests (after_deeds s deeds) (lines ++ (lines_over near far s deeds ++ sent_lines near bytes))
both-event near far two of_near of_far requests far_requests more s deeds bytes lines is b =
    let over = lines_over near far s deeds in
    let sent = sent_lines near bytes in
    let now = both-deeds near far two of_near of_far requests far_requests s deeds lines b in
    let all = requests ++ requests_over of_near.node deeds in
    subst (λ (rs : List Request). BothRecount near far of_near of_far (requests ++ rs) far_requests (after_deeds s deeds) (lines ++ (over ++ sent))) is
    (subst (λ (told : List Line). BothRecount near far of_near of_far all far_requests (after_deeds s deeds) told) (append_assoc lines over sent)
    (record {
      recounts = recounts-silent near of_near.node of_near.tns all (after_deeds s deeds).a (lines ++ over) sent (none-sent near near bytes) now.recounts;
      far_recounts = recounts-silent far of_far.node of_far.tns far_requests (after_deeds s deeds).b (lines ++ over) sent (none-sent far near bytes) now.far_recounts;
    }))

both-swapped : (near far : Who) (of_near of_far : Numbering) (requests far_requests : List Request) (s : LineState) (lines : List Line) → BothRecount near far of_near of_far requests far_requests s lines → BothRecount far near of_far of_near far_requests requests (swapped s) lines
both-swapped near far of_near of_far requests far_requests s lines b = record { recounts = b.far_recounts; far_recounts = b.recounts }

-- ---- events

-- the requests of an event, where it is this end's
abbrev issued_by : Who → Who → List Request → List Request
issued_by A A more = more
issued_by B B more = more
issued_by who by more = []

seen-event : (who : Who) → IsTrue (is_end who) → (of_a of_b : Numbering) (requests far_requests : List Request) (more : ℕ → List Request) (s : LineState) (deeds : List Deed) (lines : List Line) → ((node : ℕ) → requests_over node deeds ≡ more node)
    → BothRecount A B of_a of_b requests far_requests s lines
    → BothRecount A B of_a of_b (requests ++ issued_by A who (more of_a.node)) (far_requests ++ issued_by B who (more of_b.node)) (seen_from who (after_deeds (seen_from who s) deeds)) (lines ++ deed_lines who (seen_from who s) deeds)
seen-event A end of_a of_b requests far_requests more s deeds lines is b =
    rw (append-nil far_requests) (both-event A B a-and-b of_a of_b requests far_requests (more of_a.node) s deeds (given_over s.a deeds) lines (is of_a.node) b)
seen-event B end of_a of_b requests far_requests more s deeds lines is b =
    rw (append-nil requests)
    (both-swapped B A of_b of_a (far_requests ++ more of_b.node) requests (after_deeds (swapped s) deeds) _
    (both-event B A (two-swapped A B a-and-b) of_b of_a far_requests requests (more of_b.node) (swapped s) deeds (given_over s.b deeds) lines (is of_b.node) (both-swapped A B of_a of_b requests far_requests s lines b)))
seen-event M end of_a of_b requests far_requests more s deeds lines is b = absurd cc
seen-event (S station) end of_a of_b requests far_requests more s deeds lines is b = absurd cc

none-over : (deed : Deed) → ((node : ℕ) → requests_of node deed ≡ []) → (n node : ℕ) → requests_over node (replicate n deed) ≡ []
none-over deed none zero node = refl
none-over deed none (suc n) node = ap (λ (rs : List Request). rs ++ requests_over node (replicate n deed)) (none node) ∙ none-over deed none n node

none-foreign : (bytes : List ℕ) (node : ℕ) → requests_over node (map Foreign bytes) ≡ []
none-foreign [] node = refl
none-foreign (byte ∷ bytes) node = none-foreign bytes node

-- an event that issues nothing
abbrev WithNone : Who → Numbering → Numbering → List Request → List Request → LineState → List Deed → List Line → Type 0
WithNone who of_a of_b requests far_requests s deeds lines = BothRecount A B of_a of_b (requests ++ []) (far_requests ++ []) (seen_from who (after_deeds (seen_from who s) deeds)) (lines ++ deed_lines who (seen_from who s) deeds)

plain-event : (who : Who) → IsTrue (is_end who) → (of_a of_b : Numbering) (requests far_requests : List Request) (s : LineState) (deeds : List Deed) (lines : List Line) → ((node : ℕ) → requests_over node deeds ≡ []) → BothRecount A B of_a of_b requests far_requests s lines
    → WithNone who of_a of_b requests far_requests s deeds lines
plain-event A end of_a of_b requests far_requests s deeds lines is b = seen-event A end of_a of_b requests far_requests (λ node. []) s deeds lines is b
plain-event B end of_a of_b requests far_requests s deeds lines is b = seen-event B end of_a of_b requests far_requests (λ node. []) s deeds lines is b
plain-event M end of_a of_b requests far_requests s deeds lines is b = absurd cc
plain-event (S station) end of_a of_b requests far_requests s deeds lines is b = absurd cc

issue-event : (who : Who) → IsTrue (is_end who) → (of_a of_b : Numbering) (requests far_requests : List Request) (s : LineState) (src : Option ℕ) (dst : ℕ) (payload : List ℕ) (lines : List Line) → BothRecount A B of_a of_b requests far_requests s lines
    → BothRecount A B of_a of_b (requests ++ requests_in A of_a.node (event.Issue who src dst payload ∷ [])) (far_requests ++ requests_in B of_b.node (event.Issue who src dst payload ∷ [])) (after_event s (event.Issue who src dst payload)) (lines ++ lines_of s (event.Issue who src dst payload))
issue-event A end of_a of_b requests far_requests s src dst payload lines b = seen-event A end of_a of_b requests far_requests (λ node. record { src = unwrap_or src node; dst = dst; payload = payload } ∷ []) s (Issue src dst payload ∷ []) lines (λ node. refl) b
issue-event B end of_a of_b requests far_requests s src dst payload lines b = seen-event B end of_a of_b requests far_requests (λ node. record { src = unwrap_or src node; dst = dst; payload = payload } ∷ []) s (Issue src dst payload ∷ []) lines (λ node. refl) b
issue-event M end of_a of_b requests far_requests s src dst payload lines b = absurd cc
issue-event (S station) end of_a of_b requests far_requests s src dst payload lines b = absurd cc

recount-event : (of_a of_b : Numbering) (requests far_requests : List Request) (s : LineState) (e : Event) (lines : List Line) → IsPossible e → BothRecount A B of_a of_b requests far_requests s lines
    → BothRecount A B of_a of_b (requests ++ requests_in A of_a.node (e ∷ [])) (far_requests ++ requests_in B of_b.node (e ∷ [])) (after_event s e) (lines ++ lines_of s e)
recount-event of_a of_b requests far_requests s (event.Issue who src dst payload) lines possible b = issue-event who possible.0 of_a of_b requests far_requests s src dst payload lines b
recount-event of_a of_b requests far_requests s (event.Take who n) lines possible b = plain-event who possible.0 of_a of_b requests far_requests s (replicate n Take) lines (none-over Take (λ node. refl) n) b
recount-event of_a of_b requests far_requests s (event.Deliver lane n) lines possible b = plain-event lane.from (joins-end lane.from lane.to possible.0) of_a of_b requests far_requests s (replicate n Deliver) lines (none-over Deliver (λ node. refl) n) b
recount-event of_a of_b requests far_requests s (event.Lose lane n) lines possible b = plain-event lane.from (joins-end lane.from lane.to possible.0) of_a of_b requests far_requests s (replicate n Lose) lines (none-over Lose (λ node. refl) n) b
recount-event of_a of_b requests far_requests s (event.Alter lane mask) lines possible b = plain-event lane.from (joins-end lane.from lane.to possible.0) of_a of_b requests far_requests s (Alter mask ∷ []) lines (λ node. refl) b
recount-event of_a of_b requests far_requests s (event.Foreign lane bytes) lines possible b = plain-event lane.from (joins-end lane.from lane.to possible.0) of_a of_b requests far_requests s (map Foreign bytes) lines (none-foreign bytes) b
recount-event of_a of_b requests far_requests s (event.Tick who n) lines possible b = plain-event who possible.0 of_a of_b requests far_requests s (replicate n Tick) lines (none-over Tick (λ node. refl) n) b

recount-events : (of_a of_b : Numbering) (events : List Event) (requests far_requests : List Request) (s : LineState) (lines : List Line) → All IsPossible events → BothRecount A B of_a of_b requests far_requests s lines
    → BothRecount A B of_a of_b (requests ++ requests_in A of_a.node events) (far_requests ++ requests_in B of_b.node events) (state_after s events) (lines ++ lines_after s events)
recount-events of_a of_b [] requests far_requests s lines possible b = rw (append-nil requests, append-nil far_requests, append-nil lines) b
recount-events of_a of_b (e ∷ events) requests far_requests s lines possible b =
    let now = recount-event of_a of_b requests far_requests s e lines (All-head IsPossible e events possible) b in
    let more = recount-events of_a of_b events (requests ++ requests_in A of_a.node (e ∷ [])) (far_requests ++ requests_in B of_b.node (e ∷ [])) (after_event s e) (lines ++ lines_of s e) (All-tail IsPossible e events possible) now in
    let at_a : (requests ++ requests_in A of_a.node (e ∷ [])) ++ requests_in A of_a.node events ≡ requests ++ requests_in A of_a.node (e ∷ events) =
    append_assoc requests (requests_in A of_a.node (e ∷ [])) (requests_in A of_a.node events) ∙ ap (λ (rs : List Request). requests ++ rs) (sym (filter_map-append (request_at A of_a.node) (e ∷ []) events)) in
    let at_b : (far_requests ++ requests_in B of_b.node (e ∷ [])) ++ requests_in B of_b.node events ≡ far_requests ++ requests_in B of_b.node (e ∷ events) =
    append_assoc far_requests (requests_in B of_b.node (e ∷ [])) (requests_in B of_b.node events) ∙ ap (λ (rs : List Request). far_requests ++ rs) (sym (filter_map-append (request_at B of_b.node) (e ∷ []) events)) in
    let told : (lines ++ lines_of s e) ++ lines_after (after_event s e) events ≡ lines ++ lines_after s (e ∷ events) = append_assoc lines (lines_of s e) (lines_after (after_event s e) events) in
    subst (λ (rs : List Request). BothRecount A B of_a of_b rs (far_requests ++ requests_in B of_b.node (e ∷ events)) (state_after s (e ∷ events)) (lines ++ lines_after s (e ∷ events))) at_a
    (subst (λ (rs : List Request). BothRecount A B of_a of_b ((requests ++ requests_in A of_a.node (e ∷ [])) ++ requests_in A of_a.node events) rs (state_after s (e ∷ events)) (lines ++ lines_after s (e ∷ events))) at_b
    (subst (λ (all : List Line). BothRecount A B of_a of_b ((requests ++ requests_in A of_a.node (e ∷ [])) ++ requests_in A of_a.node events) ((far_requests ++ requests_in B of_b.node (e ∷ [])) ++ requests_in B of_b.node events) (state_after s (e ∷ events)) all) told more))

-- ---- a run

abbrev pub numbering_a : Script → Numbering
numbering_a script = record { node = (plan_of_a script).node; tns = (plan_of_a script).tns }

abbrev pub numbering_b : Script → Numbering
numbering_b script = record { node = (plan_of_b script).node; tns = (plan_of_b script).tns }

pub recounts-run : (script : Script) → IsPlayable script
    → BothRecount A B (numbering_a script) (numbering_b script) (requests_in A (plan_of_a script).node script.events) (requests_in B (plan_of_b script).node script.events) (last_state script) (lines_after (start script) script.events)
recounts-run script playable = recount-events (numbering_a script) (numbering_b script) script.events [] [] (start script) [] playable.events (record {
  recounts = record { issued = record { node_is = refl; tns_is = refl; bodies = refl }; outcomes = outcomes-start A };
  far_recounts = record { issued = record { node_is = refl; tns_is = refl; bodies = refl }; outcomes = outcomes-start B };
})
