use Rattle.half_master.proofs.AcceptedOnce.{new-key, signals-hand, signals-key, byte-polled}
use Rattle.half_master.proofs.KeyLemmas.{signals-keys, signal-numbers}
use Rattle.half_master.proofs.laws.each_station_has_its_own_key.Goals as goal

pub returns-clause-kept : goal.returns-clause-kept
returns-clause-kept g c = signals-keys g.H.Host

pub returns-clause-start : goal.returns-clause-start
returns-clause-start g c = λ setup numbers host place. new-key numbers place

pub returns-clause-handed : goal.returns-clause-handed
returns-clause-handed g c = signals-hand g.H.Host

pub returns-clause-key : goal.returns-clause-key
returns-clause-key g c = signals-key g.H.Host

pub returns-clause-polled : goal.returns-clause-polled
returns-clause-polled g c = byte-polled g.H.Host

pub returns-clause-numbers : goal.returns-clause-numbers
returns-clause-numbers g c = signal-numbers g.H.Host
