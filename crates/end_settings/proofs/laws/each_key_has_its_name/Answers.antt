use Rattle.end_settings.proofs.Names.{named-name}
use Rattle.end_settings.proofs.laws.each_key_has_its_name.Goals as goal

pub returns-clause-found : goal.returns-clause-found
returns-clause-found c = named-name
