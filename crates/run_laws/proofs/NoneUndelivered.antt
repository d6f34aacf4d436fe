-- In a full-duplex run in which no end is deceived no end ever holds a command that is undelivered.
use Rattle.std.proofs.Common.{◌≡◌, zero, suc, List, [], ◌∷◌, ◌++◌, refl, ap}
use Rattle.std.specs.Prelude.{IsTrue}
use Rattle.df1_node.specs.Node.{NodeState}
use Rattle.duplex_end.specs.End.{EndState}
use Rattle.duplex_line.specs.Acts.{LineEndState, LineState, Deed, Issue, Take, Deliver, Lose, Alter, Foreign, Tick, near_after}
use Rattle.duplex_line.specs.Run.{first_node, setup_of, plan_of_a, plan_of_b, start, deeds_of, seen_from, after_event, state_after, last_state}
use Rattle.duplex_line.proofs.Once.SentMessages.{sends-start}
use Rattle.script_parts.specs.declared.script.Event.{Event}
use Rattle.script_parts.specs.declared.script.Script.{Script}
use Rattle.script_parts.specs.Playable.{IsPlayable, is_end}
use Rattle.script_statement.specs.declared.who.Who.{Who}
use Rattle.script_statement.specs.declared.who.Who.TheVariants.{A, B, M, S}
use Rattle.run_laws.specs.NotHeld.{AtTicks, AtTicksIn, HoldsNoneUndelivered, NoUndeliveredIsHeld}
use Rattle.run_laws.proofs.EndWalk.{EndKeeps}
use Rattle.run_laws.proofs.KnownRun.{end-at, known-first}
use Rattle.run_laws.proofs.UndeliveredEnd.{UndeliveredEnd, is_undelivered, undelivered-byte, undelivered-tick, undelivered-take, undelivered-issue}

-- whatever a tick comes at
abbrev Any : EndState NodeState → Type 0
Any e = Unit {0}

any-tick : (deed : Deed) (side : LineEndState) → AtTicks Any side (deed ∷ [])
any-tick (Issue src dst payload) side = (tt, tt)
any-tick Take side = (tt, tt)
any-tick Deliver side = (tt, tt)
any-tick Lose side = (tt, tt)
any-tick (Alter mask) side = (tt, tt)
any-tick (Foreign byte) side = (tt, tt)
any-tick Tick side = (tt, tt)

any-ticks : (deeds : List Deed) (side : LineEndState) → AtTicks Any side deeds
any-ticks [] side = tt
any-ticks (deed ∷ deeds) side = ((any-tick deed side).0, any-ticks deeds (near_after side deed))

any-events : (who : Who) (events : List Event) (s : LineState) → AtTicksIn Any who s events
any-events who [] s = tt
any-events who (e ∷ events) s = (λ is. any-ticks (deeds_of e) (seen_from who s).a, any-events who events (after_event s e))

keeps : EndKeeps Any UndeliveredEnd
keeps = record { take = undelivered-take; tick = λ e any u. undelivered-tick e u; byte = undelivered-byte }

pub first-end : (near : Who) → IsTrue (is_end near) → (script : Script) → UndeliveredEnd (seen_from near (start script)).a.end
first-end A end script = record { known = known-first (first_node (plan_of_a script)) refl refl; messages = []; sends = sends-start (setup_of script.check (plan_of_a script)) (first_node (plan_of_a script)); holds_not = λ body so. absurd (let at = so.is_at in cc) }
first-end B end script = record { known = known-first (first_node (plan_of_b script)) refl refl; messages = []; sends = sends-start (setup_of script.check (plan_of_b script)) (first_node (plan_of_b script)); holds_not = λ body so. absurd (let at = so.is_at in cc) }
first-end M end script = absurd cc
first-end (S station) end script = absurd cc

none-held : (side : LineEndState) → UndeliveredEnd side.end → HoldsNoneUndelivered side
none-held side u zero c at is = absurd cc
none-held side u (suc p) c at is = u.holds_not c.body (record { place = p; command = c; is_at = at; stands = ap is_undelivered is; has_body = refl })

held-at : (near : Who) → IsTrue (is_end near) → (script : Script) → IsPlayable script → (last_state script).deceived ≡ 0 → (front back : List Event) → script.events ≡ front ++ back → HoldsNoneUndelivered (seen_from near (state_after (start script) front)).a
held-at near end script playable none front back is =
    none-held (seen_from near (state_after (start script) front)).a
    (end-at Any UndeliveredEnd keeps undelivered-issue near end script playable none [] front back is (any-events near front (start script)) (first-end near end script))

pub no-undelivered-held : (script : Script) → IsPlayable script → (last_state script).deceived ≡ 0 → NoUndeliveredIsHeld script
no-undelivered-held script playable none front back is = record {
  at_a = held-at A refl script playable none front back is;
  at_b = held-at B refl script playable none front back is;
}
