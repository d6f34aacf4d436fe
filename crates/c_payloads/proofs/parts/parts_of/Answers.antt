use Rattle.std.proofs.Common.{◌≡◌, ◌∙◌, ap, rules}
use Rattle.c_payloads.specs.declared.parts.AddressParts.{AddressParts}
use Rattle.c_payloads.specs.Parts.{address_in, parts_told}
use Rattle.c_payloads.proofs.Again.{again}
use Rattle.c_payloads.proofs.parts.parts_of.Goals as goal

pub returns-clause-again : goal.returns-clause-again
returns-clause-again c =
    let told : AddressParts = record { kind = c.type_byte.result; file = c.args.at.file; element = c.args.at.element; sub = c.args.at.sub; has_bit = c.is_some.result; bit = c.unwrap_or.result } in
    let is : told ≡ parts_told c.args.at = search rules in
    ap address_in is ∙ again c.args.at
