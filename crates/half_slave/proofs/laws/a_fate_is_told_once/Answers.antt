use Rattle.half_slave.proofs.Turns.{counted-new, counted-signal, counted-host, in-turn}
use Rattle.half_slave.proofs.GivingUp.{byte-gives-up}
use Rattle.half_slave.proofs.Agreeing.{signals-agree}
use Rattle.half_slave.proofs.laws.a_fate_is_told_once.Goals as goal

pub returns-clause-start : goal.returns-clause-start
returns-clause-start g c = counted-new

pub returns-clause-goes_on : goal.returns-clause-goes_on
returns-clause-goes_on g c = counted-signal g.H.Host

pub returns-clause-changes : goal.returns-clause-changes
returns-clause-changes g c = counted-host

pub returns-clause-gives_up : goal.returns-clause-gives_up
returns-clause-gives_up g c = byte-gives-up

pub returns-clause-in_turn : goal.returns-clause-in_turn
returns-clause-in_turn g c = in-turn g.H.Host

pub returns-clause-agree : goal.returns-clause-agree
returns-clause-agree g c = signals-agree g.H.Host (record {
  at_next = g.met.H.Host.out_at_next;
  at_told = g.met.H.Host.out_at_told;
  at_accept = g.met.H.Host.out_at_accept;
  at_clear = g.met.H.Host.out_at_clear;
})
