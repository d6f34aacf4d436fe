-- Which data files of a node no command of the line may write.
use Rattle.std.specs.Prelude.{ℕ, Bool, ◌||◌, List, length, is_none, nat_lt, if◌then◌else◌}
use Rattle.std.specs.List.{list_any}
use Rattle.data_files.specs.Tables.{file_of}
use Rattle.df1_node.specs.Node.{NodeState, with_node_locks}
use Rattle.c_ends.specs.declared.code.Code.{Code}
use Rattle.c_ends.specs.declared.code.Code.TheVariants as code

-- one of these numbers is no file's
abbrev pub lacks_file : NodeState → List ℕ → Bool
lacks_file node files = list_any (λ file. is_none (file_of node.station.tables.specs file)) files

-- there are at most 256 numbers, and each is a file's
abbrev pub lock_code : NodeState → List ℕ → Code
lock_code node files = if nat_lt 256 (length files) then code.TooManyFiles else if lacks_file node files then code.NoWord else code.Done

-- these files are locked, and no others
abbrev pub files_locked : List ℕ → NodeState → NodeState
files_locked files node = if nat_lt 256 (length files) || lacks_file node files then node else with_node_locks node files
