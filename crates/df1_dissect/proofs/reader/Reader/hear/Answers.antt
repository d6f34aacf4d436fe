-- One byte more, on each side.
use Rattle.df1_dissect.proofs.Sides.{stands-next, tells-next}
use Rattle.df1_dissect.proofs.reader.Reader.hear.Goals as goal

pub returns-clause-stands : goal.returns-clause-stands
returns-clause-stands c = λ side check bytes r. rw (c.hear-turn.ensures.value, c.start_after-self-inside.ensures, c.heard_with-self-inside.ensures, c.bad_with-self-inside.ensures, c.thing_of-thing.ensures, c.hear-turn.ensures.turn) (stands-next side check c.args.b bytes _ (rw (← c.self.view_is) at r))

pub returns-clause-told : goal.returns-clause-told
returns-clause-told c = λ side check bytes so_far r q. rw (c.hear-turn.ensures.value, c.thing_of-thing.ensures, c.hear-turn.ensures.turn) (tells-next side check c.args.b bytes _ so_far (rw (← c.self.view_is) at r) q)
