-- A station that is found has the number.
use Rattle.std.proofs.Common.{◌∙◌, ap, option_map}
use Rattle.half_script.specs.declared.stations.StationDraft.{StationDraft}
use Rattle.half_script.proofs.Places.{numbered}
use Rattle.half_script.proofs.stations.Stations.declared.Goals as goal

pub returns-in-Some : goal.returns-in-Some
returns-in-Some c = ap (option_map (λ (s : StationDraft). s.number)) c.in-Some.ensures ∙ numbered c.args.number c.args.self.now

pub returns-in-None : goal.returns-in-None
returns-in-None c = ap (option_map (λ (s : StationDraft). s.number)) c.in-None.ensures ∙ numbered c.args.number c.args.self.now
