-- A mouth's framer, seen as the bytes that are left of it.
use Rattle.std.specs.Prelude.{List, [], Option, unwrap_or}
use Rattle.half_frame.specs.declared.framer.Sent.{Sent}

abbrev pub left_of : Option (List Sent) → List Sent
left_of framer = unwrap_or framer []
