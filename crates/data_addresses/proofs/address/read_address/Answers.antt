use Rattle.std.proofs.Common.{◌≡◌, List, ℕ, Result, Ok, Err, sym, ◌∙◌}
use Rattle.std.specs.Prelude.{IfOk}
use Rattle.data_addresses.specs.declared.address.Address.{Address}
use Rattle.data_addresses.specs.declared.address.AddressFault.{AddressFault}
use Rattle.data_addresses.specs.Text.{SpellsAddress}
use Rattle.data_addresses.specs.Reading.{address_of}
use Rattle.data_addresses.proofs.Known.{address_again}
use Rattle.data_addresses.proofs.Spelled.{address_takes}
use Rattle.data_addresses.proofs.address.read_address.Goals as goal

spelled_as : (text : List ℕ) (found : Result Address AddressFault) → found ≡ address_of text → IfOk found (λ at. SpellsAddress at text)
spelled_as text (Ok at) is = address_takes text at (sym is)
spelled_as text (Err fault) is = tt

pub returns-clause-spelled : goal.returns-clause-spelled
returns-clause-spelled c = spelled_as c.args.text.now c.by_parts.result c.by_parts.ensures

pub returns-clause-known : goal.returns-clause-known
returns-clause-known c at s = c.by_parts.ensures ∙ address_again at c.args.text.now s
