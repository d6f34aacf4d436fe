-- Each case of the table is the one that it repeats.
use Rattle.std.proofs.Common.{lit≤}
use Rattle.vector_suite.specs.Vectors.{IsCase}
use Rattle.vector_tests.proofs.Repeated.{each-repeated}
use Rattle.vector_tests.proofs.tables.table.Goals as goal

pub returns : goal.returns
returns c = each-repeated (IsCase 1) 1024 _ record { input = lit≤ tt; want = c.requires; fits = tt }
