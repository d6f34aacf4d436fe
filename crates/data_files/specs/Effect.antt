-- What an order does: its tests, of which the first that fails refuses it, and its effect where none does.
use Rattle.std.specs.Prelude.{◌≡◌, ℕ, ◌≤◌, Bool, false, true, IsTrue, List, [], ◌∷◌, length, if◌then◌else◌, Option, None, Some, Result, Ok, Err}
use Rattle.df1_base.specs.declared.code.Code.{Code}
use Rattle.df1_base.specs.declared.code.Code.TheVariants.{Done, Sts, Ext}
use Rattle.data_files.specs.Tables.{DataTables}

-- a test: whether it holds, and the code that refuses the order where it doesn't
abbrev pub Test : Type 0
Test = Bool × Code

-- the code of the first test that doesn't hold
abbrev pub refusal : List Test → Option Code
refusal [] = None
refusal (test ∷ tests) = if test.0 then refusal tests else Some test.1

-- what is answered where no test refuses
abbrev pub unless_refused : {A : Type 0} → Option Code → A → Result A Code
unless_refused None answer = Ok answer
unless_refused (Some code) answer = Err code

-- what an order did: the tables after it, its code, and the data of its reply
pub record Effect : Type 0 where
  pub tables : DataTables
  pub code : Code
  pub reply : List ℕ

-- an order that is refused changes nothing, and its reply has no data
abbrev pub refused : DataTables → Code → Effect
refused tables code = record { tables = tables; code = code; reply = [] }

-- what an order does whose tests and whose effect are these
abbrev pub tested : DataTables → Option Code → Effect → Effect
tested tables None effect = effect
tested tables (Some code) effect = refused tables code

-- the code refuses
abbrev pub is_refusal : Code → Bool
is_refusal Done = false
is_refusal (Sts status) = true
is_refusal (Ext extension) = true

-- the reply fits a message: at most 244 bytes of data, and none beside a code that refuses
pub record FitsReply (effect : Effect) : Type 0 where
  pub short : length effect.reply ≤ 244
  pub alone : IsTrue (is_refusal effect.code) → effect.reply ≡ []
