-- What a buffer is, over the sink that it stands before: what it holds and what it is told from others by.
use Rattle.std.specs.Prelude.{ℕ, List, ◌∷◌, Option, Some, None, length}
use Rattle.std.specs.Io.KnownBytes.{append_known}
use Rattle.df1_base.specs.Outside.{Mark}
use Rattle.df1_buffer.specs.declared.buffered.Buffered.{Buffered}

-- how many bytes these are, where they are told
abbrev pub told_length : Option (List ℕ) → ℕ
told_length None = 0
told_length (Some bytes) = length bytes

-- the sink that a buffer stands before
abbrev pub buffer_out : {K : Type 0} → Buffered K → K
buffer_out b = b.out.now

-- by which name a proof knows the borrow of that sink
abbrev pub buffer_name : {K : Type 0} → Buffered K → ℕ
buffer_name b = b.out.ghost_name

-- the bytes that wait
abbrev pub buffer_waiting : {K : Type 0} → Buffered K → List ℕ
buffer_waiting b = b.waiting.items

-- what the sink holds, and then what waits
abbrev pub buffer_held : {K : Type 0} → (K → Option (List ℕ)) → Buffered K → Option (List ℕ)
buffer_held held b = append_known (held (buffer_out b)) (buffer_waiting b)

abbrev pub buffer_faults : {K : Type 0} → (K → ℕ) → Buffered K → ℕ
buffer_faults faults b = faults (buffer_out b)

-- the borrow and the name of the sink, and what it holds of which it takes nothing back
abbrev pub buffer_mark : {K : Type 0} → (K → Option (List ℕ)) → (K → Mark) → Buffered K → Mark
buffer_mark held mark b = record { name = buffer_name b ∷ (mark (buffer_out b)).name; settled = told_length (held (buffer_out b)) }
