-- In a full-duplex run in which no end is deceived an end whose replies may take as long as a message's waits, and whose ticks are all drained, holds no command that is unanswered.
use Rattle.std.proofs.Common.{◌≡◌, ◌≤◌, ℕ, zero, suc, List, [], ◌∷◌, ◌++◌, refl, ap, arith}
use Rattle.std.specs.Prelude.{IsTrue, slice_index_or}
use Rattle.duplex_line.specs.Acts.{LineEndState}
use Rattle.duplex_line.specs.Run.{plan_of_a, plan_of_b, start, seen_from, state_after, last_state}
use Rattle.duplex_sender.specs.declared.Limits.{Limits}
use Rattle.run_laws.specs.Bounds.{message_ticks}
use Rattle.run_laws.proofs.DuplexRun.{are-figures}
use Rattle.outset.specs.Outset.{limits_of}
use Rattle.script_parts.specs.declared.script.EndPlan.{EndPlan}
use Rattle.script_parts.specs.declared.script.Event.{Event}
use Rattle.script_parts.specs.declared.script.Script.{Script}
use Rattle.script_parts.specs.Plans.{first_plan}
use Rattle.script_parts.specs.Playable.{AreEnds, IsPlanOf, IsPlayable, is_end}
use Rattle.script_statement.specs.declared.who.Who.{Who}
use Rattle.script_statement.specs.declared.who.Who.TheVariants.{A, B}
use Rattle.run_laws.specs.NotHeld.{AtTicksIn, HoldsNoneUnanswered, IsDrained, NoUnansweredIsHeld}
use Rattle.run_laws.proofs.EndWalk.{EndKeeps}
use Rattle.run_laws.proofs.KnownRun.{end-at}
use Rattle.run_laws.proofs.NoneUndelivered.{first-end}
use Rattle.run_laws.proofs.UnansweredEnd.{IsPatient, UnansweredEnd, is_unanswered, unanswered-byte, unanswered-tick, unanswered-take, unanswered-issue}

keeps : (limits : Limits) (reply_ticks : ℕ) → IsPatient limits reply_ticks → EndKeeps IsDrained (UnansweredEnd limits reply_ticks)
keeps limits reply_ticks is = record { take = unanswered-take limits reply_ticks is; tick = unanswered-tick limits reply_ticks is; byte = unanswered-byte limits reply_ticks is }

-- ---- the plans

plan-a : (ends : List EndPlan) → AreEnds ends → (other : EndPlan) → IsPlanOf A (slice_index_or ends 0 other)
plan-a [] are other = absurd are
plan-a (a ∷ []) are other = absurd are
plan-a (a ∷ b ∷ []) are other = are.0
plan-a (a ∷ b ∷ c ∷ more) are other = absurd are

plan-b : (ends : List EndPlan) → AreEnds ends → (other : EndPlan) → IsPlanOf B (slice_index_or ends 1 other)
plan-b [] are other = absurd are
plan-b (a ∷ []) are other = absurd are
plan-b (a ∷ b ∷ []) are other = are.1
plan-b (a ∷ b ∷ c ∷ more) are other = absurd are

is-patient : (who : Who) (plan : EndPlan) → IsPlanOf who plan → message_ticks plan ≤ plan.reply_ticks → IsPatient (limits_of plan) plan.reply_ticks
is-patient who plan is enough = let are = are-figures who plan is in record { some = are.some_ack; enough = (let waits = are.waits in omega (arith, waits, enough)) }

-- ---- an end

none-held : (limits : Limits) (reply_ticks : ℕ) (side : LineEndState) → UnansweredEnd limits reply_ticks side.end → HoldsNoneUnanswered side
none-held limits reply_ticks side u zero c at is = absurd cc
none-held limits reply_ticks side u (suc p) c at is = u.patience.holds_not c.body (record { place = p; command = c; is_at = at; stands = ap is_unanswered is; has_body = refl })

first-a : (script : Script) → UnansweredEnd (limits_of (plan_of_a script)) (plan_of_a script).reply_ticks (start script).a.end
first-a script = record {
  undelivered = first-end A refl script;
  patience = record { limits_are = refl; ticks_are = refl; left = tt; holds_not = λ body so. absurd (let at = so.is_at in cc); in_time = λ body n so. absurd (let at = so.is_at in cc) };
}

first-b : (script : Script) → UnansweredEnd (limits_of (plan_of_b script)) (plan_of_b script).reply_ticks (start script).b.end
first-b script = record {
  undelivered = first-end B refl script;
  patience = record { limits_are = refl; ticks_are = refl; left = tt; holds_not = λ body so. absurd (let at = so.is_at in cc); in_time = λ body n so. absurd (let at = so.is_at in cc) };
}

held-at : (limits : Limits) (reply_ticks : ℕ) → IsPatient limits reply_ticks → (near : Who) → IsTrue (is_end near) → (script : Script) → IsPlayable script → (last_state script).deceived ≡ 0 → (front back : List Event) → script.events ≡ front ++ back
    → AtTicksIn IsDrained near (start script) front → UnansweredEnd limits reply_ticks (seen_from near (start script)).a.end → HoldsNoneUnanswered (seen_from near (state_after (start script) front)).a
held-at limits reply_ticks patient near end script playable none front back is ticks first =
    none-held limits reply_ticks (seen_from near (state_after (start script) front)).a
    (end-at IsDrained (UnansweredEnd limits reply_ticks) (keeps limits reply_ticks patient) (unanswered-issue limits reply_ticks) near end script playable none [] front back is ticks first)

pub no-unanswered-held : (script : Script) → IsPlayable script → (last_state script).deceived ≡ 0 → NoUnansweredIsHeld script
no-unanswered-held script playable none front back is =
    let a = plan_of_a script in
    let b = plan_of_b script in
    record {
      at_a = λ enough ticks. held-at (limits_of a) a.reply_ticks (is-patient A a (plan-a script.ends playable.ends (first_plan A 0)) enough) A refl script playable none front back is ticks (first-a script);
      at_b = λ enough ticks. held-at (limits_of b) b.reply_ticks (is-patient B b (plan-b script.ends playable.ends (first_plan B 1)) enough) B refl script playable none front back is ticks (first-b script);
    }
