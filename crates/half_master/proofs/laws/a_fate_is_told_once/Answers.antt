use Rattle.std.proofs.Common.{refl}
use Rattle.half_master.proofs.FateLemmas.{in-turn, stays-within, signals-agree}
use Rattle.half_master.proofs.laws.a_fate_is_told_once.Goals as goal

pub returns-clause-in_turn : goal.returns-clause-in_turn
returns-clause-in_turn g c = in-turn g.H.Host

pub returns-clause-start : goal.returns-clause-start
returns-clause-start g c = λ setup numbers host. (tt, refl)

pub returns-clause-goes_on : goal.returns-clause-goes_on
returns-clause-goes_on g c = stays-within g.H.Host

pub returns-clause-agree : goal.returns-clause-agree
returns-clause-agree g c = signals-agree g.H.Host (record {
  at_next = g.met.H.Host.out_at_next;
  at_told = g.met.H.Host.out_at_told;
  at_accept = g.met.H.Host.out_at_accept;
  at_tick = g.met.H.Host.out_at_tick;
})
