-- A command that was still to come, and that is told as answered since then, was executed since then.
use Rattle.std.proofs.Common.{◌≡◌, ◌∙◌, ℕ, zero, suc, ◌<◌, true, false, List, [], ◌∷◌, ◌++◌, length, map, Option, Some, ap, sym, subst, arith}
use Rattle.std.specs.Prelude.{Contains, slice_get, slice_index_or}
use Rattle.std.specs.List.{filter}
use Rattle.std.specs.Option.{option_map, option_map_or}
use Rattle.std.proofs.lemmas.List.Elements.{All-contains, Contains-append_right, filter_map-append}
use Rattle.std.proofs.lemmas.Option.{slice_get-map}
use Rattle.df1_node.specs.Answer.{StationState, after_answer}
use Rattle.df1_node.specs.Initiator.{Issued, is_waiting}
use Rattle.script_statement.specs.declared.who.Who.{Who}
use Rattle.replay_report.specs.declared.record.Line.{Line}
use Rattle.each_once.specs.Commands.{command_at}
use Rattle.each_once.specs.Exchanges.{exchanges}
use Rattle.each_once.specs.Once.{AreApart, IsReplyTo, Once}
use Rattle.each_once.specs.Tells.{executed_at, answer_at, executed_in, answers_in}
use Rattle.each_once.proofs.HandedOut.{is_command, handed-at}
use Rattle.each_once.proofs.OneDirection.{way-within}
use Rattle.each_once.proofs.Sublists.{Has, within-has, within-filter}
use Rattle.each_once.proofs.ToldLines.{adds-none}
use Rattle.duplex_line.specs.Acts.{LineState}
use Rattle.duplex_line.specs.Issues.{bodies_of}
use Rattle.duplex_line.specs.Rest.{is_to_come}
use Rattle.duplex_line.proofs.Once.Invariant.{lane_of, Holds}
use Rattle.duplex_line.proofs.Certified.SilentLines.{TellNothing}

-- what a station answered it executed
answered-executed : (station : StationState) (executed : List (List ℕ)) (body reply : List ℕ) (k : ℕ) → k < length (exchanges station executed) → slice_index_or (exchanges station executed) k (body, reply) ≡ (body, reply) → Has executed body
answered-executed station [] body reply k inside is = absurd (omega (arith, inside))
answered-executed station (x ∷ executed) body reply zero inside is = (0, ap (λ (e : List ℕ × List ℕ). Some e.0) is)
answered-executed station (x ∷ executed) body reply (suc k) inside is =
    let later = answered-executed (after_answer station x) executed body reply k (omega (arith, inside)) is in
    (suc later.0, later.1)

body-at : (issued : List Issued) (place : ℕ) (c : Issued) (body : List ℕ) → slice_get issued place ≡ Some c → c.body ≡ body → slice_get (map (λ (c : Issued). c.body) issued) place ≡ Some body
body-at issued place c body is same = slice_get-map (λ (x : Issued). x.body) issued place ∙ ap (option_map (λ (x : Issued). x.body)) is ∙ ap Some same

-- a command that was handed out isn't to come
handed-come : (issued : List Issued) (all : List (List ℕ)) (n place : ℕ) (c : Issued) (body : List ℕ) → AreApart all → command_at all n ≡ Some body → slice_get all place ≡ Some body → slice_get issued place ≡ Some c → is_waiting c.standing ≡ false
    → option_map_or (λ (x : Issued). is_waiting x.standing) (command_at issued n) true ≡ true → ⊥
handed-come issued all zero place c body apart is at here handed to_come = absurd cc
handed-come issued all (suc m) place c body apart is at here handed to_come =
    let there : slice_get issued m ≡ Some c = subst (λ (p : ℕ). slice_get issued p ≡ Some c) (apart place m body at is) here in
    let waits : is_waiting c.standing ≡ true = subst (λ (o : Option Issued). option_map_or (λ (x : Issued). is_waiting x.standing) o true ≡ true) there to_come in
    absurd (let no : true ≡ false = sym waits ∙ handed in cc)

-- where nothing was executed since, all was before
executed-before : (who : Who) (before since : List Line) (executed : List (List ℕ)) → TellNothing who since → executed_in who before ≡ executed → executed_in who (before ++ since) ≡ executed
executed-before who before since executed nothing is = adds-none (executed_at who) before since nothing.executes ∙ is

-- where the commands keep their places
pub executed-since : (near far : Who) (first far_first : StationState) (s : LineState) (before since : List Line) (all : List (List ℕ)) (n : ℕ) (reply : List ℕ) → Holds near far first far_first s before
    → ((place : ℕ) (body : List ℕ) → slice_get (bodies_of s.a) place ≡ Some body → slice_get all place ≡ Some body) → Once near far all far_first (before ++ since) → is_to_come s.a n ≡ true → Contains (answers_in near since) (n, reply)
    → TellNothing far since → ⊥
executed-since near far first far_first s before since all n reply h stays once to_come answered nothing =
    let executed = executed_in far (before ++ since) in
    let issued = s.a.end.host.initiator.issued in
    let told = subst (λ (answers : List (ℕ × List ℕ)). Contains answers (n, reply)) (sym (filter_map-append (answer_at near) before since)) (Contains-append_right (answers_in near before) (answers_in near since) (n, reply) answered) in
    let is = All-contains (λ (a : ℕ × List ℕ). IsReplyTo all (exchanges far_first executed) a.0 a.1) (answers_in near (before ++ since)) (n, reply) once.answers told in
    let has = answered-executed far_first executed is.body reply is.is_answer.0 is.is_answer.1 is.is_answer.2 in
    let same : executed ≡ filter is_command h.far_heard = executed-before far before since (filter is_command h.far_heard) nothing h.told.executes in
    let accepted = way-within h.sent (lane_of s.a.lane) s.b.end.receiver.kept h.far_heard h.way in
    let sent = within-has (filter is_command h.far_heard) (filter is_command h.sent) is.body (within-filter is_command h.far_heard h.sent accepted) (subst (λ (bodies : List (List ℕ)). Has bodies is.body) same has) in
    let handed = handed-at issued (filter is_command h.sent) sent.0 is.body h.hosts.initiates.in_order sent.1 in
    handed-come issued all n handed.0 handed.1 is.body once.apart is.is_command (stays handed.0 is.body (body-at issued handed.0 handed.1 is.body handed.2 handed.3)) handed.2 handed.4 to_come
