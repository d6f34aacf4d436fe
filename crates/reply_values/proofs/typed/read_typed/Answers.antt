use Rattle.std.proofs.Common.{◌≡◌, List, ℕ, Option, Some, None, sym, ◌∙◌, arith}
use Rattle.std.specs.Prelude.{IfSome}
use Rattle.std.specs.Option.{option_map}
use Rattle.reply_values.specs.declared.typed.Typed.{Typed}
use Rattle.reply_values.specs.Typed.{SpellsTyped, TypedData, seen, typed_of}
use Rattle.reply_values.proofs.Known.{typed_known, typed_takes}
use Rattle.reply_values.proofs.typed.read_typed.Goals as goal

spelled_as : (bytes : List ℕ) (found : Option Typed) (read : Option TypedData) → option_map seen found ≡ read → ((typed : TypedData) → read ≡ Some typed → SpellsTyped typed bytes) → IfSome found (λ typed. SpellsTyped (seen typed) bytes)
spelled_as bytes None read is takes = tt
spelled_as bytes (Some typed) read is takes = takes (seen typed) (sym is)

pub returns-clause-spelled : goal.returns-clause-spelled
returns-clause-spelled c =
    spelled_as c.args.bytes.now c.by_params.result (typed_of c.args.bytes.now) c.by_params.ensures (λ typed is. typed_takes c.args.bytes.now typed (λ i. omega (arith, c.type_inv.bytes i)) is)

pub returns-clause-known : goal.returns-clause-known
returns-clause-known c typed s = c.by_params.ensures ∙ typed_known typed c.args.bytes.now s
