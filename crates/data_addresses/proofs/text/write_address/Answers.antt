use Rattle.std.proofs.Common.{◌≡◌, List, ℕ, Ok, sym, subst}
use Rattle.data_addresses.specs.Text.{SpellsAddress}
use Rattle.data_addresses.specs.Reading.{address_of}
use Rattle.data_addresses.proofs.Texts.{text_read, text_spelled}
use Rattle.data_addresses.proofs.text.write_address.Goals as goal

pub returns-clause-spelled : goal.returns-clause-spelled
returns-clause-spelled c is = subst (SpellsAddress c.args.at.now) (sym c.add_parts.ensures) (text_spelled c.args.at.now is)

pub returns-clause-read_back : goal.returns-clause-read_back
returns-clause-read_back c is =
    let P : List ℕ → Type 0 = λ text. address_of text ≡ Ok c.args.at.now in subst P (sym c.add_parts.ensures) (text_read c.args.at.now is)
