use Rattle.std.proofs.Common.{sym, ap}
use Rattle.data_files.specs.Tables.{file_fault}
use Rattle.c_ends.specs.Parts.{spec_of}
use Rattle.c_ends.proofs.FileLemmas.{any_specs}
use Rattle.c_ends.proofs.files.fault_after.Goals as goal

pub returns : goal.returns
returns c = rw (c.file_fault.ensures, c.spec_of.ensures, c.has_number.ensures) (ap (file_fault (spec_of c.args.file)) (sym (any_specs c.args.before.now c.args.file.number)))
