use Rattle.std.proofs.Common.{◌≡◌, false, find, drop, slice_get}
use Rattle.std.specs.Option.{option_map_or}
use Rattle.df1_node.specs.Initiator.{is_reply_to}
use Rattle.df1_node.proofs.initiator.Initiator.answered_index.Given as goal

-- no command that is out was found yet
abbrev pub invariant-loop-at : goal.invariant-loop-at
invariant-loop-at l =
    find (λ p. option_map_or (λ c. is_reply_to c.body l.reply) (slice_get l.self.issued p) false) (drop l.at l.out)
    ≡ find (λ p. option_map_or (λ c. is_reply_to c.body l.reply) (slice_get l.self.issued p) false) l.out
