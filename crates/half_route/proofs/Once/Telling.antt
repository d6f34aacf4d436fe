-- What the lines of a report tell of one end alone: what it executed, which of its commands the accepted replies fit, and how these ended.
use Rattle.std.proofs.Common.{◌≡◌, ◌∙◌, ℕ, zero, suc, ◌+◌, Bool, true, false, cond, not, List, [], ◌∷◌, ◌++◌, Option, Some, None, refl, ap, sym, subst}
use Rattle.std.specs.Prelude.{slice_get, All}
use Rattle.std.specs.Option.{option_map, option_map_or}
use Rattle.std.specs.List.{filter}
use Rattle.std.proofs.Math.Numerals.{suc-eq-add-one}
use Rattle.std.proofs.lemmas.List.{map-append}
use Rattle.std.proofs.lemmas.List.Elements.{All-push, All-nil}
use Rattle.std.proofs.lemmas.Option.{slice_get-map}
use Rattle.df1_base.specs.declared.host.Did.TheVariants as did
use Rattle.df1_base.specs.declared.host.Fate.{Fate}
use Rattle.df1_base.specs.declared.host.Fate.TheVariants as fate
use Rattle.df1_base.specs.declared.host.News.TheVariants as news
use Rattle.pccc_envelope.specs.Envelope.{is_reply}
use Rattle.df1_node.specs.declared.handed.Handed.{Handed}
use Rattle.df1_node.specs.declared.handed.Handed.TheVariants as handed
use Rattle.df1_node.specs.Initiator.{Issued, Waiting, Answered, Undelivered, InitiatorState, is_reply_to, restated, answered_place, after_reply, is_out_at}
use Rattle.df1_node.specs.Node.{NodeState, did_accept, after_accept, initiator_after, news_of, news_told, after_told, after_tick, gone_unanswered}
use Rattle.script_statement.specs.declared.who.Who.{Who}
use Rattle.replay_report.specs.declared.record.Line.{Line}
use Rattle.replay_report.specs.declared.record.Line.TheVariants as line
use Rattle.report_lines.specs.NodeLines.{did_lines, news_lines, gone_lines}
use Rattle.each_once.specs.Commands.{is_command, command_at, AreOutcomesTold}
use Rattle.each_once.specs.Tells.{is_who, executed_at, answer_at, stray_at, executed_in, answers_in, strays_in}
use Rattle.each_once.proofs.CommandBodies.{answered-some, bodies-accept, bodies-after_told, bodies-after_tick}
use Rattle.each_once.proofs.ContinuedCommands.{continues-accept, continues-told, continues-tick}
use Rattle.each_once.proofs.HandedOut.{bodies_of}
use Rattle.each_once.proofs.KeptCommands.{is_given_up}
use Rattle.each_once.proofs.Sublists.{Has, get-more, get-last, filter-keeps, filter-drops, all-as}
use Rattle.each_once.proofs.ToldLines.{Stays, stays-more, AreSilent, adds, adds-none}
use Rattle.each_once.proofs.ToldOutcomes.{outcomes-start, outcomes-silent, outcomes-issue, outcomes-accept, outcomes-told, outcomes-tick}
use Rattle.half_route.proofs.Once.QuietEnds.{IsQuiet, news-silent, gone-silent}
use Rattle.half_route.proofs.Once.Shown.{AreShown, shown-at, shown-handed, answered-same, out-at-same, gone-same, shown-none, shown-push, shown-restated, shown-ticked}

-- a reply that was accepted fits the command of this number
pub record IsAnswer (bodies accepted : List (List ℕ)) (number : ℕ) (reply : List ℕ) : Type 0 where
  pub body : List ℕ
  pub is_command : command_at bodies number ≡ Some body
  pub fits : is_reply_to body reply ≡ true
  pub is_a_reply : is_reply reply ≡ true
  pub is_accepted : Has accepted reply

-- one that was accepted fits a command that was given up
pub record IsLate (shown : List Issued) (accepted : List (List ℕ)) (reply : List ℕ) : Type 0 where
  pub number : ℕ
  pub command : Issued
  pub is_command : command_at shown number ≡ Some command
  pub fits : is_reply_to command.body reply ≡ true
  pub given_up : is_given_up command.standing ≡ true
  pub is_a_reply : is_reply reply ≡ true
  pub is_accepted : Has accepted reply

-- over the commands that were handed out, and the messages that were accepted
pub record Tells (who : Who) (handed accepted : List (List ℕ)) (issued : List Issued) (lines : List Line) : Type 0 where
  pub shown : List Issued
  pub are_shown : AreShown handed issued shown
  pub outcomes : AreOutcomesTold who shown lines
  pub executes : executed_in who lines ≡ filter is_command accepted
  pub answered : All (λ a. IsAnswer (bodies_of issued) accepted a.0 a.1) (answers_in who lines)
  pub astray : All (IsLate shown accepted) (strays_in who lines)

pub tells-start : (who : Who) (issued : List Issued) → issued ≡ [] → Tells who [] [] issued []
tells-start who issued none = record {
  shown = [];
  are_shown = subst (λ (cs : List Issued). AreShown [] cs []) (sym none) (shown-none []);
  outcomes = outcomes-start who;
  executes = refl;
  answered = All-nil _;
  astray = All-nil _;
}

-- ---- what all have, all still have

late-stays : (before shown : List Issued) (accepted : List (List ℕ)) (reply : List ℕ) → Stays before shown → IsLate before accepted reply → IsLate shown accepted reply
late-stays before shown accepted reply stays late = of late.number late.is_command
  where
    of : (number : ℕ) → command_at before number ≡ Some late.command → IsLate shown accepted reply
    of zero is = absurd cc
    of (suc place) is =
        let now = stays place late.command is in
        record {
          number = suc place;
          command = now.0;
          is_command = now.1;
          fits = subst (λ body. is_reply_to body reply ≡ true) (sym now.2) late.fits;
          given_up = rw (now.3 late.given_up) late.given_up;
          is_a_reply = late.is_a_reply;
          is_accepted = late.is_accepted;
        }

-- ---- lines that tell nothing of it

pub tells-quiet : {who : Who} {handed accepted : List (List ℕ)} {issued : List Issued} {lines : List Line} (more : List Line) → IsQuiet who more → Tells who handed accepted issued lines → Tells who handed accepted issued (lines ++ more)
tells-quiet {who} {handed} {accepted} {issued} {lines} more quiet t = record {
  shown = t.shown;
  are_shown = t.are_shown;
  outcomes = outcomes-silent who t.shown lines more quiet.1 t.outcomes;
  executes = adds-none (executed_at who) lines more quiet.0.executes ∙ t.executes;
  answered = rw (adds-none (answer_at who) lines more quiet.0.answers) t.answered;
  astray = rw (adds-none (stray_at who) lines more quiet.0.strays) t.astray;
}

-- ---- commands that stand otherwise

pub tells-moved : {who : Who} {before handed accepted : List (List ℕ)} {issued : List Issued} {lines : List Line} (t : Tells who before accepted issued lines) (now shown : List Issued) (more : List Line) → AreShown handed now shown
    → AreOutcomesTold who shown (lines ++ more) → bodies_of now ≡ bodies_of issued → Stays t.shown shown → AreSilent who who more → Tells who handed accepted now (lines ++ more)
tells-moved {who} {before} {handed} {accepted} {issued} {lines} t now shown more are outcomes same stays silent = record {
  shown = shown;
  are_shown = are;
  outcomes = outcomes;
  executes = adds-none (executed_at who) lines more silent.executes ∙ t.executes;
  answered = rw (adds-none (answer_at who) lines more silent.answers) (subst (λ bodies. All (λ a. IsAnswer bodies accepted a.0 a.1) (answers_in who lines)) (sym same) t.answered);
  astray = rw (adds-none (stray_at who) lines more silent.strays) (all-as (IsLate t.shown accepted) (IsLate shown accepted) (strays_in who lines) (λ reply. late-stays t.shown shown accepted reply stays) t.astray);
}

-- the node with its commands as they are told
abbrev shadow : NodeState → List Issued → NodeState
shadow node shown = record node { initiator = record node.initiator { issued = shown } }

-- ---- a fate

given-up-shown : (handed : List (List ℕ)) (cs ds : List Issued) (place : ℕ) (out also : Bool) → also ≡ out → AreShown handed cs ds → AreShown handed (cond out (restated cs place Undelivered) cs) (cond also (restated ds place Undelivered) ds)
given-up-shown handed cs ds place true true same all = shown-restated handed cs ds place Undelivered all
given-up-shown handed cs ds place false false same all = all
given-up-shown handed cs ds place true false same all = absurd cc
given-up-shown handed cs ds place false true same all = absurd cc

fate-shown : (commands : List (List ℕ)) (s : InitiatorState) (shown : List Issued) (last : Handed) → AreShown commands s.issued shown
    → AreShown commands (initiator_after s last).issued (initiator_after (record s { issued = shown }) last).issued × (news_of (record s { issued = shown }) last ≡ news_of s last)
fate-shown commands s shown handed.Nothing all = (all, refl)
fate-shown commands s shown handed.Reply all = (all, refl)
fate-shown commands s shown (handed.Command place) all =
    let same = out-at-same commands s.issued shown place all in
    (given-up-shown commands s.issued shown place (is_out_at s.issued place) (is_out_at shown place) same all, ap (λ out. cond out (news.Undelivered (place + 1)) news.Nothing) same)

told-shown : (commands : List (List ℕ)) (node : NodeState) (shown : List Issued) (what : Fate) → AreShown commands node.initiator.issued shown
    → AreShown commands (after_told node what).initiator.issued (after_told (shadow node shown) what).initiator.issued × (news_told (shadow node shown) what ≡ news_told node what)
told-shown commands node shown fate.Delivered all = (all, refl)
told-shown commands node shown fate.Undelivered all = fate-shown commands node.initiator shown node.last all

pub tells-told : {who : Who} {commands accepted : List (List ℕ)} {lines : List Line} (node : NodeState) → is_who who who ≡ true → (what : Fate) → Tells who commands accepted node.initiator.issued lines
    → Tells who commands accepted (after_told node what).initiator.issued (lines ++ news_lines who (news_told node what))
tells-told {who} {commands} {accepted} {lines} node itself what t =
    let as_told = shadow node t.shown in
    let shown = told-shown commands node t.shown what t.are_shown in
    tells-moved t (after_told node what).initiator.issued (after_told as_told what).initiator.issued (news_lines who (news_told node what)) shown.0
    (subst (λ n. AreOutcomesTold who (after_told as_told what).initiator.issued (lines ++ news_lines who n)) shown.1 (outcomes-told who itself what as_told lines t.outcomes))
    (bodies-after_told node what) (continues-told as_told what).stays (news-silent who who (news_told node what))

-- ---- a tick

pub tells-tick : {who : Who} {commands accepted : List (List ℕ)} {lines : List Line} (node : NodeState) → is_who who who ≡ true → Tells who commands accepted node.initiator.issued lines
    → Tells who commands accepted (after_tick node).initiator.issued (lines ++ gone_lines who (gone_unanswered node))
tells-tick {who} {commands} {accepted} {lines} node itself t =
    let as_told = shadow node t.shown in
    tells-moved t (after_tick node).initiator.issued (after_tick as_told).initiator.issued (gone_lines who (gone_unanswered node)) (shown-ticked commands node.initiator.issued t.shown t.are_shown)
    (subst (λ ns. AreOutcomesTold who (after_tick as_told).initiator.issued (lines ++ gone_lines who ns)) (gone-same commands 1 node.initiator.issued t.shown t.are_shown) (outcomes-tick who itself as_told lines t.outcomes))
    (bodies-after_tick node) (continues-tick as_told).stays (gone-silent who who (gone_unanswered node))

-- ---- a command is issued

answer-more : (bodies more accepted : List (List ℕ)) (number : ℕ) (reply : List ℕ) → IsAnswer bodies accepted number reply → IsAnswer (bodies ++ more) accepted number reply
answer-more bodies more accepted zero reply a = absurd (let no = a.is_command in cc)
answer-more bodies more accepted (suc place) reply a = record { body = a.body; is_command = get-more bodies more place a.body a.is_command; fits = a.fits; is_a_reply = a.is_a_reply; is_accepted = a.is_accepted }

pub tells-issue : {who : Who} {commands accepted : List (List ℕ)} {issued : List Issued} {lines : List Line} (body : List ℕ) → Tells who commands accepted issued lines
    → Tells who commands accepted (issued ++ record { body = body; standing = Waiting } ∷ []) lines
tells-issue {who} {commands} {accepted} {issued} {lines} body t =
    let new : Issued = record { body = body; standing = Waiting } in
    let now = map-append (λ (c : Issued). c.body) issued (new ∷ []) in
    record {
      shown = t.shown ++ new ∷ [];
      are_shown = shown-push commands issued t.shown new t.are_shown;
      outcomes = outcomes-issue who t.shown new lines refl t.outcomes;
      executes = t.executes;
      answered = subst (λ bodies. All (λ a. IsAnswer bodies accepted a.0 a.1) (answers_in who lines)) (sym now)
          (all-as (λ a. IsAnswer (bodies_of issued) accepted a.0 a.1) (λ a. IsAnswer (bodies_of issued ++ body ∷ []) accepted a.0 a.1) (answers_in who lines) (λ a. answer-more (bodies_of issued) (body ∷ []) accepted a.0 a.1) t.answered);
      astray = all-as (IsLate t.shown accepted) (IsLate (t.shown ++ new ∷ []) accepted) (strays_in who lines) (λ reply. late-stays t.shown (t.shown ++ new ∷ []) accepted reply (stays-more t.shown (new ∷ []))) t.astray;
    }

-- ---- a message is accepted

-- a command that was handed out and given up, which a reply fits
pub record IsLost (commands : List (List ℕ)) (issued : List Issued) (reply : List ℕ) : Type 0 where
  pub place : ℕ
  pub command : Issued
  pub is_at : slice_get issued place ≡ Some command
  pub was_handed : Has commands command.body
  pub fits : is_reply_to command.body reply ≡ true
  pub given_up : is_given_up command.standing ≡ true

has-more : (accepted : List (List ℕ)) (body other : List ℕ) → Has accepted other → Has (accepted ++ body ∷ []) other
has-more accepted body other has = (has.0, get-more accepted (body ∷ []) has.0 other has.1)

answer-accepts : (bodies accepted : List (List ℕ)) (body : List ℕ) (number : ℕ) (reply : List ℕ) → IsAnswer bodies accepted number reply → IsAnswer bodies (accepted ++ body ∷ []) number reply
answer-accepts bodies accepted body number reply a = record { body = a.body; is_command = a.is_command; fits = a.fits; is_a_reply = a.is_a_reply; is_accepted = has-more accepted body reply a.is_accepted }

late-accepts : (shown : List Issued) (accepted : List (List ℕ)) (body reply : List ℕ) → IsLate shown accepted reply → IsLate shown (accepted ++ body ∷ []) reply
late-accepts shown accepted body reply l = record {
  number = l.number;
  command = l.command;
  is_command = l.is_command;
  fits = l.fits;
  given_up = l.given_up;
  is_a_reply = l.is_a_reply;
  is_accepted = has-more accepted body reply l.is_accepted;
}

reply-shown : (commands : List (List ℕ)) (cs ds : List Issued) (reply : List ℕ) (place also : Option ℕ) → also ≡ place → AreShown commands cs ds
    → AreShown commands (option_map_or (λ (p : ℕ). restated cs p (Answered reply)) place cs) (option_map_or (λ (p : ℕ). restated ds p (Answered reply)) also ds)
reply-shown commands cs ds reply None None same all = all
reply-shown commands cs ds reply (Some p) (Some q) same all =
    let is : q ≡ p = cc in
    subst (λ n. AreShown commands (restated cs p (Answered reply)) (restated ds n (Answered reply))) (sym is) (shown-restated commands cs ds p (Answered reply) all)
reply-shown commands cs ds reply None (Some q) same all = absurd cc
reply-shown commands cs ds reply (Some p) None same all = absurd cc

accept-shown : (commands : List (List ℕ)) (s : InitiatorState) (shown : List Issued) (body : List ℕ) (reply : Bool) → AreShown commands s.issued shown
    → AreShown commands (cond reply (after_reply s body) s).issued (cond reply (after_reply (record s { issued = shown }) body) (record s { issued = shown })).issued
accept-shown commands s shown body true all = reply-shown commands s.issued shown body (answered_place s.issued body) (answered_place shown body) (answered-same commands s.issued shown body all) all
accept-shown commands s shown body false all = all

-- the lines of it, by what it is and whether it answers a command
abbrev Accepted : Who → List (List ℕ) → List (List ℕ) → List (List ℕ) → List Issued → List Line → List ℕ → List Line → Type 0
Accepted who before now bodies shown lines body more =
    (executed_in who (lines ++ more) ≡ filter is_command now) × All (λ a. IsAnswer bodies now a.0 a.1) (answers_in who (lines ++ more)) × All (IsLate shown now) (strays_in who (lines ++ more))

answers-one : (who : Who) → is_who who who ≡ true → (accepted : List (List ℕ)) (issued shown : List Issued) (lines : List Line) (body : List ℕ) (place : Option ℕ) → is_reply body ≡ true → answered_place issued body ≡ place
    → (place ≡ None → IsLate shown (accepted ++ body ∷ []) body) → executed_in who lines ≡ filter is_command accepted
    → All (λ a. IsAnswer (bodies_of issued) (accepted ++ body ∷ []) a.0 a.1) (answers_in who lines) → All (IsLate shown (accepted ++ body ∷ [])) (strays_in who lines)
    → Accepted who accepted (accepted ++ body ∷ []) (bodies_of issued) shown lines body (did_lines who (Some (option_map_or (λ (p : ℕ). did.Answered (p + 1)) place did.Stray)) body)
answers-one who itself accepted issued shown lines body None reply is late executes answered astray =
    let more = line.Stray who body ∷ [] in (
      adds-none (executed_at who) lines more refl ∙ executes ∙ sym (filter-drops is_command accepted body (ap not reply)),
      rw (adds-none (answer_at who) lines more refl) answered,
      rw (adds (stray_at who) lines more (body ∷ []) (rw itself refl)) (All-push (IsLate shown (accepted ++ body ∷ [])) (strays_in who lines) body astray (late refl)),
    )
answers-one who itself accepted issued shown lines body (Some place) reply is late executes answered astray =
    let more = line.Answered who (place + 1) body ∷ [] in
    let out = answered-some issued body place is in
    let one : IsAnswer (bodies_of issued) (accepted ++ body ∷ []) (place + 1) body = record {
      body = out.0.body;
      is_command = ap (command_at (bodies_of issued)) (sym (suc-eq-add-one place)) ∙ slice_get-map (λ (c : Issued). c.body) issued place ∙ ap (option_map (λ (c : Issued). c.body)) out.1;
      fits = out.3;
      is_a_reply = reply;
      is_accepted = get-last accepted body;
    } in (
      adds-none (executed_at who) lines more refl ∙ executes ∙ sym (filter-drops is_command accepted body (ap not reply)),
      rw (adds (answer_at who) lines more ((place + 1, body) ∷ []) (rw itself refl)) (All-push (λ a. IsAnswer (bodies_of issued) (accepted ++ body ∷ []) a.0 a.1) (answers_in who lines) (place + 1, body) answered one),
      rw (adds-none (stray_at who) lines more refl) astray,
    )

accepts-one : (who : Who) → is_who who who ≡ true → (accepted : List (List ℕ)) (issued shown : List Issued) (lines : List Line) (body : List ℕ) (reply : Bool) → is_reply body ≡ reply
    → (is_reply body ≡ true → answered_place issued body ≡ None → IsLate shown (accepted ++ body ∷ []) body) → executed_in who lines ≡ filter is_command accepted
    → All (λ a. IsAnswer (bodies_of issued) (accepted ++ body ∷ []) a.0 a.1) (answers_in who lines) → All (IsLate shown (accepted ++ body ∷ [])) (strays_in who lines)
    → Accepted who accepted (accepted ++ body ∷ []) (bodies_of issued) shown lines body (did_lines who (Some (cond reply (option_map_or (λ (p : ℕ). did.Answered (p + 1)) (answered_place issued body) did.Stray) did.Executed)) body)
accepts-one who itself accepted issued shown lines body true is late executes answered astray = answers-one who itself accepted issued shown lines body (answered_place issued body) is refl (late is) executes answered astray
accepts-one who itself accepted issued shown lines body false is late executes answered astray =
    let more = line.Exec who body ∷ [] in (
      adds (executed_at who) lines more (body ∷ []) (rw itself refl) ∙ ap (λ bodies. bodies ++ body ∷ []) executes ∙ sym (filter-keeps is_command accepted body (ap not is)),
      rw (adds-none (answer_at who) lines more refl) answered,
      rw (adds-none (stray_at who) lines more refl) astray,
    )

-- a reply that answers no command fits one that was handed out and given up
late-of : (commands accepted : List (List ℕ)) (issued shown : List Issued) (body : List ℕ) → is_reply body ≡ true → AreShown commands issued shown → IsLost commands issued body → IsLate shown (accepted ++ body ∷ []) body
late-of commands accepted issued shown body reply all lost =
    let at = shown-at commands issued shown lost.place lost.command all lost.is_at in
    let stands = shown-handed commands lost.command at.0 at.2 lost.was_handed in
    record {
      number = suc lost.place;
      command = at.0;
      is_command = at.1;
      fits = subst (λ b. is_reply_to b body ≡ true) (sym at.2.0) lost.fits;
      given_up = rw stands lost.given_up;
      is_a_reply = reply;
      is_accepted = get-last accepted body;
    }

pub tells-accept : {who : Who} {commands accepted : List (List ℕ)} {lines : List Line} (node : NodeState) → is_who who who ≡ true → (body : List ℕ)
    → (is_reply body ≡ true → answered_place node.initiator.issued body ≡ None → IsLost commands node.initiator.issued body) → Tells who commands accepted node.initiator.issued lines
    → Tells who commands (accepted ++ body ∷ []) (after_accept node body).initiator.issued (lines ++ did_lines who (Some (did_accept node body)) body)
tells-accept {who} {commands} {accepted} {lines} node itself body lost t =
    let issued = node.initiator.issued in
    let as_told = shadow node t.shown in
    let now = accepted ++ body ∷ [] in
    let shown = (after_accept as_told body).initiator.issued in
    let same : did_accept as_told body ≡ did_accept node body =
    ap (λ place. cond (is_reply body) (option_map_or (λ (p : ℕ). did.Answered (p + 1)) place did.Stray) did.Executed) (answered-same commands issued t.shown body t.are_shown) in
    let stays = (continues-accept as_told body).stays in
    let one = accepts-one who itself accepted issued shown lines body (is_reply body) refl
    (λ reply none. late-stays t.shown shown now body stays (late-of commands accepted issued t.shown body reply t.are_shown (lost reply none))) t.executes
    (all-as (λ a. IsAnswer (bodies_of issued) accepted a.0 a.1) (λ a. IsAnswer (bodies_of issued) now a.0 a.1) (answers_in who lines) (λ a. answer-accepts (bodies_of issued) accepted body a.0 a.1) t.answered)
    (all-as (IsLate t.shown accepted) (IsLate shown now) (strays_in who lines) (λ reply late. late-accepts shown accepted body reply (late-stays t.shown shown accepted reply stays late)) t.astray) in
    record {
      shown = shown;
      are_shown = accept-shown commands node.initiator t.shown body (is_reply body) t.are_shown;
      outcomes = subst (λ what. AreOutcomesTold who shown (lines ++ did_lines who (Some what) body)) same (outcomes-accept who itself as_told body lines t.outcomes);
      executes = one.0;
      answered = subst (λ bodies. All (λ a. IsAnswer bodies now a.0 a.1) (answers_in who (lines ++ did_lines who (Some (did_accept node body)) body))) (sym (bodies-accept node body)) one.1;
      astray = one.2;
    }
