use Rattle.std.proofs.Common.{refl}
use Rattle.duplex_end.proofs.Fates.{in-turn, signals-agree}
use Rattle.duplex_end.proofs.laws.a_fate_is_told_once.Goals as goal

pub returns-clause-in_turn : goal.returns-clause-in_turn
returns-clause-in_turn g c = in-turn g.H.Host

pub returns-clause-start : goal.returns-clause-start
returns-clause-start g c = λ setup host. refl

pub returns-clause-agree : goal.returns-clause-agree
returns-clause-agree g c = signals-agree g.H.Host (record {
  at_next = g.met.H.Host.out_at_next;
  at_told = g.met.H.Host.out_at_told;
  at_accept = g.met.H.Host.out_at_accept;
  at_tick = g.met.H.Host.out_at_tick;
})
