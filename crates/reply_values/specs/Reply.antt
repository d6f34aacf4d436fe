-- What the body of a reply tells: DST SRC CMD STS TNSlow TNShigh, then EXT STS where STS is F0, then the data.
use Rattle.std.specs.Prelude.{ℕ, List, [], ◌∷◌, ◌==◌, if◌then◌else◌, Option, Some, None}
use Rattle.reply_values.specs.declared.reply.Reply.{Reply}

-- a reply without where its data lies in memory
pub record Told : Type 0 where
  pub sts : ℕ
  pub ext : ℕ
  pub bytes : List ℕ

abbrev pub seen : Reply → Told
seen reply = record { sts = reply.sts; ext = reply.ext; bytes = reply.bytes.now }

-- behind STS F0
abbrev pub extended : List ℕ → Option Told
extended [] = None
extended (ext ∷ bytes) = Some (record { sts = 0xF0; ext = ext; bytes = bytes })

-- by STS, and by what stands behind TNS
abbrev pub of_status : ℕ → List ℕ → Option Told
of_status sts rest = if sts == 0xF0 then extended rest else Some (record { sts = sts; ext = 0; bytes = rest })

abbrev pub reply_of : List ℕ → Option Told
reply_of [] = None
reply_of (dst ∷ []) = None
reply_of (dst ∷ src ∷ []) = None
reply_of (dst ∷ src ∷ cmd ∷ []) = None
reply_of (dst ∷ src ∷ cmd ∷ sts ∷ []) = None
reply_of (dst ∷ src ∷ cmd ∷ sts ∷ low ∷ []) = None
reply_of (dst ∷ src ∷ cmd ∷ sts ∷ low ∷ high ∷ rest) = of_status sts rest
