-- The names of the keys.
use Rattle.std.proofs.Common.{◌≡◌, Some, refl}
use Rattle.end_settings.specs.declared.key.EndKey.{EndKey}
use Rattle.end_settings.specs.declared.key.EndKey.TheVariants.{Node}
use Rattle.end_settings.specs.Table.{key_named, row_of}

pub named-name : (key : EndKey) → key_named (row_of key).name ≡ Some key
named-name Node = refl
named-name other = refl
