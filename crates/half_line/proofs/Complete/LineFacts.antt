-- What is so of the commands and the numbers of a line whose run deceives no end, and of the reply to a command.
use Rattle.std.proofs.Common.{◌≡◌, ◌∙◌, ℕ, ◌≤◌, true, false, List, [], ◌++◌, length, map, Some, ap, sym, subst}
use Rattle.std.specs.Prelude.{slice_get, slice_index, ◌==◌}
use Rattle.std.proofs.lemmas.Bool.{eqb-true, eq-eqb, ne_eqb}
use Rattle.pccc_envelope.specs.Envelope.{is_reply}
use Rattle.df1_node.specs.Answer.{StationState}
use Rattle.df1_node.specs.Initiator.{Issued, is_reply_to}
use Rattle.half_master.specs.Master.{MasterState}
use Rattle.half_master.specs.Stations.{numbers_of}
use Rattle.df1_node.specs.Node.{NodeState}
use Rattle.script_statement.specs.declared.who.Who.TheVariants.{S}
use Rattle.replay_report.specs.declared.record.Line.{Line}
use Rattle.each_once.specs.Exchanges.{station_after}
use Rattle.each_once.specs.OfStation.{is_from}
use Rattle.each_once.specs.Tells.{executed_in}
use Rattle.each_once.proofs.HandedOut.{AreNumbered, numbered-at}
use Rattle.each_once.proofs.StationReplies.{fits-fields}
use Rattle.each_once.proofs.Sublists.{from-map}
use Rattle.half_line.specs.Acts.{LineStationState, HalfState}
use Rattle.half_line.specs.Complete.{is_to}
use Rattle.half_line.specs.Issues.{issued_of, bodies_of}
use Rattle.half_line.proofs.Once.Invariant.{Setting, Holds, number-at, other-number}
use Rattle.half_line.proofs.Once.LinesOfStation.{executed-same}
use Rattle.half_line.proofs.Complete.Origin.{Origin, station_from, station-both}
use Rattle.half_line.proofs.Complete.LedgerSteps.{EachOther}

-- the status reply of each station fits a message
abbrev pub AreShort : Setting → Type 0
AreShort setting = (p number : ℕ) → slice_get setting.numbers p ≡ Some number → length (setting.first p).block ≤ 244

-- a station that executed what is told of it, and issues nothing
pub record Served (first : StationState) (side : LineStationState) (lines : List Line) : Type 0 where
  pub station : side.slave.host.station ≡ station_after first (executed_in (S side.number) lines)
  pub issues_none : side.slave.host.initiator.issued ≡ []

-- of a master and its stations, with what is told from where on the run is looked at
pub record Known (origin : Origin) (m : MasterState NodeState) (stations : List LineStationState) (lines : List Line) : Type 0 where
  pub numbers_are : map (λ (side : LineStationState). side.number) stations ≡ origin.setting.numbers
  pub list_is : numbers_of m.stations ≡ origin.setting.numbers
  pub replies_none : m.host.replies ≡ []
  pub numbered : AreNumbered m.host.initiator.tns 0 (issued_of m)
  pub few : length (issued_of m) ≤ 65535
  pub short : AreShort origin.setting
  pub serve : (p : ℕ) (side : LineStationState) → slice_get stations p ≡ Some side → Served (station_from origin p side.number) side lines

pub known : (origin : Origin) (count : ℕ) (s : HalfState NodeState) (lines : List Line) → count ≤ 65535 → AreShort origin.setting → Holds origin.setting count s (origin.lines ++ lines) → Known origin s.master s.stations lines
known origin count s lines few short h = record {
  numbers_are = h.numbers_are;
  list_is = h.master.numbers_are;
  replies_none = h.master.issues.replies;
  numbered = h.master.issues.initiates.numbered;
  few = subst (λ (n : ℕ). n ≤ 65535) (sym h.master.count_is) few;
  short = short;
  serve = λ p side at.
      let this = h.sides p side at in
      record {
        station = this.keeps.serves.station ∙ ap (station_after (origin.setting.first p)) (sym this.told.executes ∙ executed-same side.number (S side.number) (origin.lines ++ lines)) ∙ station-both origin p side.number lines;
        issues_none = this.keeps.serves.issues_none;
      };
}

-- no command is a reply
pub plain : (origin : Origin) (m : MasterState NodeState) (stations : List LineStationState) (lines : List Line) (n : ℕ) (body : List ℕ) → Known origin m stations lines → slice_get (bodies_of m) n ≡ Some body → is_reply body ≡ false
plain origin m stations lines n body k at =
    let c = from-map (λ (x : Issued). x.body) (issued_of m) n body at in
    ap is_reply (sym c.2) ∙ (numbered-at m.host.initiator.tns 0 (issued_of m) n c.0 k.numbered c.1).1

-- ---- the stations of a line

-- another has another number, and what is for this one isn't for that
pub elsewhere : (origin : Origin) (m : MasterState NodeState) (stations : List LineStationState) (lines : List Line) (place : ℕ) (side : LineStationState) → Known origin m stations lines → slice_get stations place ≡ Some side → EachOther stations place (λ p other. other.number ≡ side.number → ⊥)
elsewhere origin m stations lines place side k at p other found differ =
    other-number origin.setting stations place p side.number other k.numbers_are (number-at origin.setting.numbers stations place side k.numbers_are at) found differ

pub not-theirs : (side other : LineStationState) (body : List ℕ) → is_to side.number body ≡ true → (other.number ≡ side.number → ⊥) → is_to other.number body ≡ false
not-theirs side other body to apart = ne_eqb (slice_index body 0) other.number (λ same. apart (sym same ∙ eqb-true (slice_index body 0) side.number to))

-- ---- the reply to a command

-- it is from the station to which the command is
pub answer-from : (body reply : List ℕ) → is_reply_to body reply ≡ true → slice_index reply 1 ≡ slice_index body 0
answer-from body reply fits = (fits-fields body reply fits).2

pub from-here : (number : ℕ) (body reply : List ℕ) → is_reply_to body reply ≡ true → is_to number body ≡ true → is_from number reply ≡ true
from-here number body reply fits to = eq-eqb (slice_index reply 1) number (answer-from body reply fits ∙ eqb-true (slice_index body 0) number to)

pub from-elsewhere : (number : ℕ) (body reply : List ℕ) → is_reply_to body reply ≡ true → is_to number body ≡ false → is_from number reply ≡ false
from-elsewhere number body reply fits other = ap (λ (n : ℕ). n == number) (answer-from body reply fits) ∙ other
