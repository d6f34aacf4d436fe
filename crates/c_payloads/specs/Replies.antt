-- What the calls on replies come to.
use Rattle.std.specs.Prelude.{ℕ, ◌-◌, ◌==◌, List, [], ◌∷◌, ◌++◌, length, if◌then◌else◌, Option, Some, None}
use Rattle.reply_values.specs.Reply.{Told}
use Rattle.reply_values.specs.Texts as texts
use Rattle.reply_values.specs.Typed.{TypedData}
use Rattle.c_ends.specs.declared.code.Code.{Code}
use Rattle.c_ends.specs.declared.code.Code.TheVariants as code
use Rattle.c_payloads.specs.declared.parts.AnswerParts.{AnswerParts}
use Rattle.c_payloads.specs.declared.parts.TypedParts.{TypedParts}

-- ---- a reply

abbrev pub reply_code : Option Told → Code
reply_code None = code.NoReply
reply_code (Some told) = code.Done

-- the data begins behind TNS, or behind EXT STS
abbrev pub answer_told : Told → AnswerParts
answer_told told = record {
  sts = told.sts;
  ext = told.ext;
  start = if told.sts == 0xF0 then 7 else 6;
  count = length told.bytes;
}

-- what is told of it; of one that is cut off nothing
abbrev pub answer_after : Option Told → AnswerParts → AnswerParts
answer_after None old = old
answer_after (Some told) old = answer_told told

-- ---- the text of its status, with a zero byte at its end

abbrev pub ended_text : (sts ext : ℕ) → List ℕ
ended_text sts ext = texts.status_text sts ext ++ 0 ∷ []

-- ---- typed data

abbrev pub typed_code : Option TypedData → Code
typed_code None = code.NoTypedData
typed_code (Some typed) = code.Done

-- of typed data among so many bytes: the words stand at their end
abbrev pub typed_told : ℕ → TypedData → TypedParts
typed_told count typed = record {
  kind = typed.element.kind;
  size = typed.element.size;
  is_array = typed.is_array;
  start = count - length typed.bytes;
  count = length typed.bytes;
}

abbrev pub typed_after : ℕ → Option TypedData → TypedParts → TypedParts
typed_after count None old = old
typed_after count (Some typed) old = typed_told count typed
