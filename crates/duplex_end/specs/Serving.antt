-- An end over the signals of a port.
use Rattle.std.specs.Prelude.{◌≡◌, ◌≢◌, ℕ, List, [], ◌∷◌, ◌++◌, map, Option, Some, None}
use Rattle.df1_base.specs.Outside.{Put}
use Rattle.df1_base.specs.declared.host.Host.{Ghosts}
use Rattle.df1_base.specs.declared.signal.Signal.{Signal}
use Rattle.df1_base.specs.declared.signal.Signal.TheVariants as signal
use Rattle.duplex_end.specs.End.{EndState, out_at_take}
use Rattle.duplex_end.specs.Emission.{Letter, Byte, Tick, Take, end_after, end_after_all, emission, takes}
use Rattle.duplex_end.specs.declared.serving.Served.{Served}
use Rattle.duplex_end.specs.declared.serving.Served.TheVariants as served

-- what a port's signals are to an end, in order: a Drain is takes until one would give nothing
pub data AreLetters {H : Type 0} (m : Ghosts H) : EndState H → List Signal → List Letter → Type 0 where
  are_none : (e : EndState H) → AreLetters m e [] []
  are_byte : (e : EndState H) (b : ℕ) (signals : List Signal) (letters : List Letter) → AreLetters m (end_after m e (Byte b)) signals letters → AreLetters m e (signal.Byte b ∷ signals) (Byte b ∷ letters)
  are_tick : (e : EndState H) (signals : List Signal) (letters : List Letter) → AreLetters m (end_after m e Tick) signals letters → AreLetters m e (signal.Tick ∷ signals) (Tick ∷ letters)
  are_take : (e : EndState H) (signals : List Signal) (letters : List Letter) → AreLetters m (end_after m e Take) signals letters → AreLetters m e (signal.Take ∷ signals) (Take ∷ letters)
  are_drain : (e : EndState H) (n : ℕ) (signals : List Signal) (letters : List Letter) → out_at_take m (end_after_all m e (takes n)) ≡ None
      → AreLetters m (end_after_all m e (takes n)) signals letters → AreLetters m e (signal.Drain ∷ signals) (takes n ++ letters)

-- the bytes that an end gives over these letters
abbrev pub bytes_given : {H : Type 0} → Ghosts H → EndState H → List Letter → List ℕ
bytes_given m e letters = map (λ out. out.byte) (emission m e letters)

-- an end went over these signals, from one state to another
pub record Hears {H : Type 0} (m : Ghosts H) (before : EndState H) (signals : List Signal) (after : EndState H) : Type 0 where
  pub letters : List Letter
  pub are_letters : AreLetters m before signals letters
  pub end_is : after ≡ end_after_all m before letters

-- the bytes that an end gave over these signals were put, and no others
pub record Serves {H : Type 0} (m : Ghosts H) (before : EndState H) (signals : List Signal) (after : EndState H) (old new : Option (List ℕ)) : Type 0 where
  pub heard : Hears m before signals after
  pub put : Put old new (bytes_given m before heard.letters)

-- those that it gave over these signals were put, and a part of those at the last one, but not all
pub record BreaksOff {H : Type 0} (m : Ghosts H) (before : EndState H) (signals : List Signal) (last : Signal) (after : EndState H) (old new : Option (List ℕ)) : Type 0 where
  pub middle : EndState H
  pub heard : Hears m before signals middle
  pub then : Hears m middle (last ∷ []) after
  pub part : List ℕ
  pub rest : List ℕ
  pub some : rest ≢ []
  pub given_last : bytes_given m middle then.letters ≡ part ++ rest
  pub put : Put old new (bytes_given m before heard.letters ++ part)

-- the signal at which a serving ended, where it was by one
abbrev pub last_signal : Served → Option Signal
last_signal served.Ended = Some signal.End
last_signal served.InFailed = None
last_signal served.OutFailed = None
last_signal (served.Bad at) = Some (signal.Bad at)
last_signal served.Long = Some signal.Long
