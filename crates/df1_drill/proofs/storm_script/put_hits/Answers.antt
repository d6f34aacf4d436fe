-- One hit more.
use Rattle.std.proofs.Common.{◌≡◌, ◌∙◌, ◌+◌, ◌-◌, ◌++◌, List, ap, sym, append_assoc}
use Rattle.script_parts.specs.declared.script.Event.{Event}
use Rattle.round_scripts.specs.Rounds.{parts}
use Rattle.round_scripts.proofs.Parts.{parts-next}
use Rattle.df1_drill.specs.Storm.{hit_of}
use Rattle.df1_drill.proofs.storm_script.put_hits.Goals as goal

pub loop-hit-preserved : goal.loop-hit-preserved
loop-hit-preserved c =
    let f = hit_of c.args.turn in
    let hit = c.loop-hit.hit in
    let before = c.args.events.now in
    c.in_ok-put_hit.ensures ∙ ap (λ (l : List Event). l ++ f hit) c.loop-hit.invariant ∙ append_assoc before (parts f (hit - 1)) (f hit) ∙ ap (λ (l : List Event). before ++ l) (sym (parts-next f hit c.loop-hit.auto.hit))
