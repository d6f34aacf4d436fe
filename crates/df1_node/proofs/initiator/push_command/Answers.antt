use Rattle.std.proofs.Common.{◌≡◌, ◌+◌, ◌*◌, ◌≤◌, ◌==◌, ℕ, List, true, cond, [], ◌∷◌, ◌++◌, ap, ◌∙◌, sym, subst, refl, length, slice_index, arith, vec_capacity, length-append}
use Rattle.df1_node.specs.declared.part.Part.{Part}
use Rattle.df1_node.specs.declared.issued.Command.{Command}
use Rattle.df1_node.specs.declared.issued.State.TheVariants as stands
use Rattle.df1_node.specs.Initiator.{Issued, Waiting, source_of}
use Rattle.df1_node.specs.Commands.{AreCommands, all_issued}
use Rattle.df1_node.specs.Queue.{IsQueue, is_listed, waiting_at}
use Rattle.df1_node.proofs.Kept.{part_behind}
use Rattle.df1_node.proofs.Ordered.{queue-pushed}
use Rattle.df1_node.proofs.Steps.{are-push, issued_push, length-issued}
use Rattle.df1_node.proofs.initiator.push_command.Goals as goal

pub returns-clause-are : goal.returns-clause-are
returns-clause-are c =
    let bytes : List ℕ = c.args.bytes.now.items in
    let commands : List Command = c.args.issued.now.items in
    let body : List ℕ = c.args.body.now in
    let with_body : Part → Command = λ p. record { body = p; state = stands.Waiting } in
    let grown : vec_capacity c.args.bytes.now ≤ vec_capacity c.append-part.new.kept = c.append-part.ensures.capacity in
    let bytes_are : c.append-part.new.kept.items ≡ bytes ++ body = c.append-part.ensures.items in
    let commands_are : c.push_reserved.new.self.items ≡ commands ++ with_body (part_behind bytes body) ∷ [] = c.push_reserved.ensures.items ∙ ap (λ p. commands ++ with_body p ∷ []) c.append-part.ensures.part in
    let count_is : c.len-place.result ≡ length (all_issued bytes commands) = c.len-place.ensures ∙ c.args.issued.now.ok.0 ∙ sym (length-issued bytes commands) in
    let r : Issued = record { body = body; standing = Waiting } in
    let known : is_listed c.push.new.self.used.items (source_of r) ≡ true = ap (λ us. is_listed us (source_of r)) c.push.ensures.used ∙ c.requires.room.is_used in
    let ordered : IsQueue (all_issued bytes commands ++ r ∷ []) c.push.new.self =
    queue-pushed (all_issued bytes commands) c.args.queue.now c.push.new.self r c.requires.are.ordered refl known c.push.ensures.out c.push.ensures.unsettled
    (λ b. c.push.ensures.waits b ∙ ap (λ n. cond (source_of r == b) (waiting_at c.args.queue.now.sources.items b ++ n ∷ []) (waiting_at c.args.queue.now.sources.items b)) count_is)
    c.push.ensures.outs
    (λ b unlisted. sym (ap (λ us. is_listed us b) c.push.ensures.used) ∙ unlisted) in
    let made : length bytes + 250 * (c.args.queue.now.unsettled + 2) ≤ vec_capacity c.args.bytes.now = c.requires.room.for_bytes in
    subst (λ xs. AreCommands c.append-part.new.kept.items (vec_capacity c.append-part.new.kept) xs c.push.new.self 16) (sym commands_are)
    (subst (λ bs. AreCommands bs (vec_capacity c.append-part.new.kept) (commands ++ with_body (part_behind bytes body) ∷ []) c.push.new.self 16) (sym bytes_are)
    (are-push bytes body _ (vec_capacity c.append-part.new.kept) commands c.args.queue.now c.push.new.self 16 c.requires.are c.requires.body c.requires.few ordered c.push.ensures.unsettled (omega arith)))

pub returns-clause-issued : goal.returns-clause-issued
returns-clause-issued c =
    let bytes : List ℕ = c.args.bytes.now.items in
    let commands : List Command = c.args.issued.now.items in
    let body : List ℕ = c.args.body.now in
    let with_body : Part → Command = λ p. record { body = p; state = stands.Waiting } in
    let commands_are : c.push_reserved.new.self.items ≡ commands ++ with_body (part_behind bytes body) ∷ [] = c.push_reserved.ensures.items ∙ ap (λ p. commands ++ with_body p ∷ []) c.append-part.ensures.part in
    ap (λ bs. all_issued bs c.push_reserved.new.self.items) c.append-part.ensures.items
    ∙ ap (λ xs. all_issued (bytes ++ body) xs) commands_are
    ∙ issued_push bytes body commands c.requires.are.kept

pub returns-clause-room : goal.returns-clause-room
returns-clause-room c = λ count room.
    let bytes : List ℕ = c.args.bytes.now.items in
    let body : List ℕ = c.args.body.now in
    let size : length c.append-part.new.kept.items ≡ length bytes + length body = ap length c.append-part.ensures.items ∙ length-append bytes body in
    let grown : vec_capacity c.args.bytes.now ≤ vec_capacity c.append-part.new.kept = c.append-part.ensures.capacity in
    let short : length body ≤ 250 = c.requires.body.1 in
    let one_more : c.push.new.self.unsettled ≡ c.args.queue.now.unsettled + 1 = c.push.ensures.unsettled in
    let made : length bytes + 250 * (c.args.queue.now.unsettled + 2 * (count + 1)) ≤ vec_capacity c.args.bytes.now = room.for_bytes in
    record {
      for_bytes = omega arith;
      for_commands = omega (arith, room.for_commands, c.push_reserved.ensures.len, c.push_reserved.ensures.capacity);
      for_waiting = c.push.ensures.room count room.for_waiting;
      is_used = ap (λ us. is_listed us (slice_index body 1)) c.push.ensures.used ∙ room.is_used;
    }
