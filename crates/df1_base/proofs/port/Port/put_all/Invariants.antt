use Rattle.std.proofs.Common.{◌≡◌, ◌≤◌, [], take}
use Rattle.df1_base.specs.Outside.{Put}
use Rattle.df1_base.proofs.port.Port.put_all.Given as goal

abbrev pub invariant-loop-byte : goal.invariant-loop-byte
invariant-loop-byte g l = record {
  came : g.Self.Port.came l.initial.self [] l.self;
  put : Put (g.Self.Port.sent l.initial.self) (g.Self.Port.sent l.self) (take l.byte-index l.bytes);
  no_more : g.Self.Port.most l.self ≤ g.Self.Port.most l.initial.self;
  calm : g.Self.Port.put_faults l.self ≡ g.Self.Port.put_faults l.initial.self;
  other : g.Self.Port.next_faults l.self ≡ g.Self.Port.next_faults l.initial.self;
}
