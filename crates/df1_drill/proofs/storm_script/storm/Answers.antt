-- One round more, and all of them.
use Rattle.std.proofs.Common.{◌≡◌, ◌∙◌, ◌+◌, ◌-◌, ◌++◌, List, ap, sym, subst, arith}
use Rattle.script_parts.specs.declared.script.Event.{Event}
use Rattle.script_parts.specs.declared.script.Script.{Script}
use Rattle.script_parts.specs.HalfPlayable.{CanBePlayed}
use Rattle.round_scripts.specs.Rounds.{parts, script_of, setup}
use Rattle.round_scripts.proofs.Parts.{parts-next}
use Rattle.df1_drill.specs.Storm.{round_of, storm_script}
use Rattle.df1_drill.proofs.StormPlaying.{storm-playable}
use Rattle.df1_drill.proofs.storm_script.storm.Goals as goal

pub loop-round-preserved : goal.loop-round-preserved
loop-round-preserved c =
    let f = round_of c.args.seed in
    let round = c.loop-round.round in
    let was = c.loop-round.invariant in
    let events : c.put_round.new.events ≡ parts f (round + 1 - 1) =
    c.in_ok-put_round.ensures ∙ ap (λ (s : Script). s.events ++ f round) was ∙ sym (parts-next f round c.loop-round.auto.round) in
    ap (λ (s : Script). record s { events = c.put_round.new.events }) was ∙ ap (λ (l : List Event). record setup { events = l }) events

pub returns-clause-script : goal.returns-clause-script
unfolding storm_script
returns-clause-script c =
    let all : c.loop-round.round - 1 ≡ c.args.count = omega arith in
    c.loop-round.invariant ∙ ap (script_of (round_of c.args.seed)) all

pub returns-clause-playable : goal.returns-clause-playable
unfolding storm_script
returns-clause-playable c =
    let all : c.loop-round.round - 1 ≡ c.args.count = omega arith in
    let is : c.loop-round.script ≡ storm_script c.args.seed c.args.count = c.loop-round.invariant ∙ ap (script_of (round_of c.args.seed)) all in
    subst CanBePlayed (sym is) (storm-playable c.args.seed c.args.count c.requires)
