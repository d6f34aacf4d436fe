-- What holds of an end of a full-duplex line through its signals holds after each event of a script.
use Rattle.std.proofs.Common.{◌≡◌, ℕ, List, [], ◌∷◌, map, Option, Some, None, refl}
use Rattle.std.specs.Prelude.{IsTrue, replicate, unwrap_or}
use Rattle.df1_node.specs.Node.{NodeState, after_node_issue}
use Rattle.duplex_end.specs.End.{EndState, with_host, end_after_byte, end_after_take, end_after_tick}
use Rattle.duplex_line.specs.Acts.{LineEndState, LineState, swapped, Deed, Issue, Take, Deliver, Lose, Alter, Foreign, Tick, near_after, arriving, after_arrival, after_deed, after_deeds}
use Rattle.duplex_line.specs.Run.{who_of, deeds_of, seen_from, after_event}
use Rattle.duplex_line.proofs.Once.WholeRun.{IsPlain, ArePlain, plain-again, plain-foreign}
use Rattle.each_once.specs.NodeHost.{node_host}
use Rattle.script_parts.specs.declared.script.Event.{Event}
use Rattle.script_parts.specs.declared.script.Event.TheVariants as event
use Rattle.script_parts.specs.Playable.{is_end}
use Rattle.script_statement.specs.declared.who.Who.{Who}
use Rattle.script_statement.specs.declared.who.Who.TheVariants.{A, B, M, S}
use Rattle.run_laws.specs.NotHeld.{AtTick, AtTicks}

-- each signal but an issue leaves it; a tick where D holds of the end
pub record EndKeeps (D P : EndState NodeState → Type 0) : Type 0 where
  pub take : (e : EndState NodeState) → P e → P (end_after_take node_host e)
  pub tick : (e : EndState NodeState) → D e → P e → P (end_after_tick node_host e)
  pub byte : (e : EndState NodeState) (b : ℕ) → P e → P (end_after_byte node_host e b)

near-keeps : (D P : EndState NodeState → Type 0) → EndKeeps D P → (side : LineEndState) (deed : Deed) → IsPlain deed → AtTick D side deed → P side.end → P (near_after side deed).end
near-keeps D P k side (Issue src dst payload) plain ticks p = absurd plain
near-keeps D P k side Take plain ticks p = k.take side.end p
near-keeps D P k side Deliver plain ticks p = p
near-keeps D P k side Lose plain ticks p = p
near-keeps D P k side (Alter mask) plain ticks p = p
near-keeps D P k side (Foreign byte) plain ticks p = p
near-keeps D P k side Tick plain ticks p = k.tick side.end ticks p

far-keeps : (D P : EndState NodeState → Type 0) → EndKeeps D P → (s : LineState) (deed : Deed) → P s.b.end → P (after_deed s deed).b.end
far-keeps D P k s deed p = by (arriving s.a deed)
  where
    by : (o : Option _) → P (after_arrival s.b o).end
    by None = p
    by (Some cell) = k.byte s.b.end cell.byte p

near-deeds : (D P : EndState NodeState → Type 0) → EndKeeps D P → (deeds : List Deed) (s : LineState) → ArePlain deeds → AtTicks D s.a deeds → P s.a.end → P (after_deeds s deeds).a.end
near-deeds D P k [] s plain ticks p = p
near-deeds D P k (deed ∷ deeds) s plain ticks p = near-deeds D P k deeds (after_deed s deed) plain.1 ticks.1 (near-keeps D P k s.a deed plain.0 ticks.0 p)

far-deeds : (D P : EndState NodeState → Type 0) → EndKeeps D P → (deeds : List Deed) (s : LineState) → P s.b.end → P (after_deeds s deeds).b.end
far-deeds D P k [] s p = p
far-deeds D P k (deed ∷ deeds) s p = far-deeds D P k deeds (after_deed s deed) (far-keeps D P k s deed p)

-- an issue at this end leaves it too
abbrev pub IssueKeeps : (EndState NodeState → Type 0) → EndState NodeState → Event → Type 0
IssueKeeps P e (event.Issue who src dst payload) = P e → P (with_host e (after_node_issue e.host (unwrap_or src e.host.initiator.node) dst payload))
IssueKeeps P e (event.Take who n) = Unit {0}
IssueKeeps P e (event.Deliver lane n) = Unit {0}
IssueKeeps P e (event.Lose lane n) = Unit {0}
IssueKeeps P e (event.Alter lane mask) = Unit {0}
IssueKeeps P e (event.Foreign lane bytes) = Unit {0}
IssueKeeps P e (event.Tick who n) = Unit {0}

near-event : (D P : EndState NodeState → Type 0) → EndKeeps D P → (s : LineState) (e : Event) → IssueKeeps P s.a.end e → AtTicks D s.a (deeds_of e) → P s.a.end → P (after_deeds s (deeds_of e)).a.end
near-event D P k s (event.Issue who src dst payload) issue ticks p = issue p
near-event D P k s (event.Take who n) issue ticks p = near-deeds D P k (replicate n Take) s (plain-again Take tt n) ticks p
near-event D P k s (event.Deliver lane n) issue ticks p = near-deeds D P k (replicate n Deliver) s (plain-again Deliver tt n) ticks p
near-event D P k s (event.Lose lane n) issue ticks p = near-deeds D P k (replicate n Lose) s (plain-again Lose tt n) ticks p
near-event D P k s (event.Alter lane mask) issue ticks p = near-deeds D P k (Alter mask ∷ []) s (tt, tt) ticks p
near-event D P k s (event.Foreign lane bytes) issue ticks p = near-deeds D P k (map Foreign bytes) s (plain-foreign bytes) ticks p
near-event D P k s (event.Tick who n) issue ticks p = near-deeds D P k (replicate n Tick) s (plain-again Tick tt n) ticks p

pub end-event : (D P : EndState NodeState → Type 0) → EndKeeps D P → (near by : Who) → IsTrue (is_end near) → IsTrue (is_end by) → (s : LineState) (e : Event) → who_of e ≡ by → (by ≡ near → IssueKeeps P (seen_from near s).a.end e) → (by ≡ near → AtTicks D (seen_from near s).a (deeds_of e)) → P (seen_from near s).a.end
    → P (seen_from near (after_event s e)).a.end
end-event D P k A A end by-end s e is issue ticks p = rw is (near-event D P k s e (issue refl) (ticks refl) p)
end-event D P k A B end by-end s e is issue ticks p = rw is (far-deeds D P k (deeds_of e) (swapped s) p)
end-event D P k B A end by-end s e is issue ticks p = rw is (far-deeds D P k (deeds_of e) s p)
end-event D P k B B end by-end s e is issue ticks p = rw is (near-event D P k (swapped s) e (issue refl) (ticks refl) p)
end-event D P k M by end by-end s e is issue ticks p = absurd cc
end-event D P k (S station) by end by-end s e is issue ticks p = absurd cc
end-event D P k A M end by-end s e is issue ticks p = absurd cc
end-event D P k A (S station) end by-end s e is issue ticks p = absurd cc
end-event D P k B M end by-end s e is issue ticks p = absurd cc
end-event D P k B (S station) end by-end s e is issue ticks p = absurd cc
