use Rattle.std.proofs.Common.{◌≡◌, Some, drop}
use Rattle.data_files.specs.Tables.{fits_compat}
use Rattle.df1_plan.specs.Files.{specs_of}
use Rattle.df1_plan.proofs.reading.fits_compat.Given as goal

-- the files that are left decide as all do
abbrev pub invariant-loop-file : goal.invariant-loop-file
invariant-loop-file l = fits_compat (specs_of (drop l.file-index l.files)) (Some l.number) ≡ fits_compat (specs_of l.files) (Some l.number)
