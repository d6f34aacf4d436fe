-- What the bytes that were taken show.
use Rattle.std.proofs.Common.{◌≡◌, ◌∙◌, ℕ, ◌<◌, ◌≤◌, List, [], ◌++◌, length, Option, Result, Ok, Err, sym, ap, subst, append_assoc, append-nil, arith, length-append, length-take, take}
use Rattle.std.specs.Prelude.{IfErr, IfOk, MatchResult}
use Rattle.std.specs.Io.KnownBytes.{IsAtEnd, Keeps}
use Rattle.std.proofs.KnownBytes.{Consumes-kept, Consumes-trans}
use Rattle.df1_base.specs.Outside.{Rose, Took}
use Rattle.line_script.specs.declared.fault.Cause.{Cause}
use Rattle.line_script.specs.declared.profile.Profile.{Profile}
use Rattle.line_script.specs.ScriptText.{script_for}
use Rattle.line_script.specs.Unfinished.{settled}
use Rattle.line_script.proofs.LongTexts.{refused_over}
use Rattle.line_script.proofs.Unfinished.{stays_refused}
use Rattle.script_parts.specs.declared.script.Script.{Script}
use Rattle.whole_scripts.specs.declared.fault.RunFault.{RunFault}
use Rattle.whole_scripts.specs.declared.fault.RunFault.TheVariants.{Refusal, Input, Output, NoMemory}
use Rattle.whole_scripts.specs.Whole.{BreaksOff, BrokenOff, IsRead, Judges, Refused, TellsRefusal, TookFew}
use Rattle.whole_scripts.proofs.WholeLines.{is-settled, settled-behind}

abbrev Said : Type 0
Said = Result Script (ℕ × Cause)

-- two texts that are refused for one cause are so at one line
same-refusal : (said other : Said) (line number : ℕ) (fault first : Cause) → said ≡ Err (line, fault) → said ≡ Err (number, first) → other ≡ Err (number, first) → other ≡ Err (line, fault)
same-refusal said other line number fault first is one two = two ∙ sym one ∙ is

-- ---- at the end of the input

pub read-whole : (profile : Profile) (script : Script) (text : List ℕ) (left left' left'' : Option (List ℕ)) → Took left left' text → Took left' left'' [] → IsAtEnd left'' → script_for profile text ≡ Ok script → IsRead profile script left left''
read-whole profile script text left left' left'' took none end reads = record {
  input = text;
  took = subst (Took left left'') (append-nil text) (Consumes-trans left left' left'' text [] took none);
  end = end;
  reads = reads;
}

pub refused-at-end : (profile : Profile) (text : List ℕ) (fault : RunFault) (left left' left'' : Option (List ℕ)) → Took left left' text → Took left' left'' [] → IsAtEnd left'' → Judges profile text fault → TellsRefusal (Refused profile left left'') fault
refused-at-end profile text (Refusal line c) left left' left'' took none end is = record {
  bytes = text;
  took = subst (Took left left'') (append-nil text) (Consumes-trans left left' left'' text [] took none);
  refused = λ more nothing. ap (λ m. script_for profile (text ++ m)) (nothing end) ∙ ap (script_for profile) (append-nil text) ∙ is;
}
refused-at-end profile text Input left left' left'' took none end is = tt
refused-at-end profile text Output left left' left'' took none end is = tt
refused-at-end profile text NoMemory left left' left'' took none end is = tt

-- ---- past the limit

pub none-over : (profile : Profile) (script : Script) (text : List ℕ) → 16777216 < length text → script_for profile text ≡ Ok script → ⊥
none-over profile script text long is = let over = refused_over profile text [] long in let no : Err (over.0, over.1) ≡ Ok script = sym over.2 ∙ is in cc

pub refused-over : (profile : Profile) (text : List ℕ) (fault : RunFault) (left left' : Option (List ℕ)) → 16777216 < length text → Took left left' text → Judges profile text fault → TellsRefusal (Refused profile left left') fault
refused-over profile text (Refusal line c) left left' long took is = record {
  bytes = text;
  took = took;
  refused = λ more nothing. let over = refused_over profile text more long in same-refusal (script_for profile text) (script_for profile (text ++ more)) line over.0 c over.1 is over.2 over.3;
}
refused-over profile text Input left left' long took is = tt
refused-over profile text Output left left' long took is = tt
refused-over profile text NoMemory left left' long took is = tt

-- whatever is told of such a text
pub over-judged : (profile : Profile) (text : List ℕ) (answer : Result Script RunFault) (left left' : Option (List ℕ)) → 16777216 < length text → Took left left' text
    → MatchResult answer (λ script. script_for profile text ≡ Ok script) (Judges profile text) → IfOk answer (λ script. IsRead profile script left left') × IfErr answer (TellsRefusal (Refused profile left left'))
over-judged profile text (Ok script) left left' long took says = absurd (none-over profile script text long says)
over-judged profile text (Err fault) left left' long took says = (tt, refused-over profile text fault left left' long took says)

-- ---- where a read has failed

pub refused-before : (profile : Profile) (text : List ℕ) (fault : RunFault) (left left' left'' : Option (List ℕ)) → Took left left' text → Keeps left' left'' → BreaksOff profile text fault → TellsRefusal (Refused profile left left'') fault
refused-before profile text (Refusal line c) left left' left'' took kept is =
    let behind = settled-behind text in
    record {
      bytes = text;
      took = Consumes-kept left left' left'' text took kept;
      refused = λ more nothing.
          ap (λ t. script_for profile (t ++ more)) behind.1
          ∙ ap (script_for profile) (append_assoc (settled text) behind.0 more)
          ∙ stays_refused profile (settled text) (behind.0 ++ more) line c (is-settled text) is.0 is.1;
    }
refused-before profile text Input left left' left'' took kept is = tt
refused-before profile text Output left left' left'' took kept is = tt
refused-before profile text NoMemory left left' left'' took kept is = tt

pub broken-off : (profile : Profile) (text : List ℕ) (left left' left'' : Option (List ℕ)) (faults faults' : ℕ) → length text ≤ 16777216 → Took left left' text → Keeps left' left'' → Rose faults faults' → BreaksOff profile text Input
    → BrokenOff profile left left'' faults faults'
broken-off profile text left left' left'' faults faults' few took kept rose still = record { bytes = text; took = Consumes-kept left left' left'' text took kept; few = few; still = still; rose = rose }

-- ---- how much was taken

pub took-few : (text : List ℕ) (count : ℕ) (into : List ℕ) (left left' left'' : Option (List ℕ)) → length text ≤ 16777216 → length into ≤ 4096 → Took left left' text → Took left' left'' (take count into) → TookFew left left''
took-few text count into left left' left'' few room took more = record {
  bytes = text ++ take count into;
  took = Consumes-trans left left' left'' text (take count into) took more;
  few = (let size = length-append text (take count into) in let less = length-take count into in omega (arith, size, less, few, room));
}
