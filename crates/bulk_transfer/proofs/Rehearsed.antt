-- The world at the end of a rehearsal: its record, and the initiator of end a.
use Rattle.std.proofs.Common.{◌≡◌, ◌∙◌, false, Some, refl, sym, ap, subst}
use Rattle.std.specs.Prelude.{IsSome}
use Rattle.df1_node.specs.Initiator.{InitiatorState}
use Rattle.script_statement.specs.declared.who.Who.TheVariants.{A}
use Rattle.script_parts.specs.declared.script.Script.{Script}
use Rattle.replay_report.specs.declared.record.Record.{Record}
use Rattle.line_world.specs.declared.world.World.{World}
use Rattle.line_world.specs.Runs.{initiator_of, lines_in, record_from, record_of, whole_world}
use Rattle.line_world.proofs.Standing.{duplex-initiator, whole-record}
use Rattle.bulk_transfer.specs.Rehearsal.{initiator_after}

pub record-is : (script : Script) (w : World) (r : Record) → w ≡ whole_world script → r ≡ record_from w (lines_in w) → r ≡ record_of script
record-is script w r world is = is ∙ ap (λ (v : World). record_from v (lines_in v)) world ∙ whole-record script

-- what holds of the record of the run
pub holds : (P : Record → Type 0) (script : Script) (w : World) (r : Record) → w ≡ whole_world script → r ≡ record_from w (lines_in w) → P (record_of script) → P r
holds P script w r world is p = subst P (sym (record-is script w r world is)) p

initiator-is : (script : Script) (w : World) → script.half ≡ false → w ≡ whole_world script → initiator_of w A ≡ Some (initiator_after script)
initiator-is script w mode world = ap (λ (v : World). initiator_of v A) world ∙ duplex-initiator script A mode

pub has-initiator : (script : Script) (w : World) → script.half ≡ false → w ≡ whole_world script → IsSome (initiator_of w A)
has-initiator script w mode world = subst IsSome (sym (initiator-is script w mode world)) refl

is-initiator : (i j : InitiatorState) → Some i ≡ Some j → i ≡ j
is-initiator i j same = cc

pub initiator-same : (script : Script) (w : World) (i : InitiatorState) → script.half ≡ false → w ≡ whole_world script → initiator_of w A ≡ Some i → i ≡ initiator_after script
initiator-same script w i mode world is = is-initiator i (initiator_after script) (sym is ∙ initiator-is script w mode world)
