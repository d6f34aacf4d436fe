use Rattle.std.proofs.Common.{rules}
use Rattle.logical_address.proofs.Parameters.{array_again}
use Rattle.logical_address.proofs.param.write_array.Goals as goal

pub returns-clause-read_back : goal.returns-clause-read_back
returns-clause-read_back c is rest = array_again c.args.kind c.args.count _ rest (search rules) (search rules)
