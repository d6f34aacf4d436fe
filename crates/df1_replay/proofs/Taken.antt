-- What was taken of the input so far, and what of it is written.
use Rattle.std.proofs.Common.{◌≡◌, ◌∙◌, ℕ, ◌+◌, ◌≤◌, Bool, true, false, cond, ltb, List, [], ◌++◌, Option, Some, length, Result, Ok, Err, refl, sym, ap, subst, arith, append-nil, length-append}
use Rattle.std.specs.Prelude.{OnOk, OnErr, IfErr}
use Rattle.std.specs.Io.KnownBytes.{Keeps, IsAtEnd}
use Rattle.std.proofs.KnownBytes.{Appends-nil, Appends-trans, Consumes-nil, Consumes-trans, Consumes-kept}
use Rattle.std.proofs.lemmas.Bool.{le-ltb}
use Rattle.df1_base.specs.Outside.{Put, Rose, Took, WrotePart}
use Rattle.line_script.specs.declared.fault.Cause.{Cause}
use Rattle.line_script.specs.declared.fault.Cause.TheVariants as cause
use Rattle.script_parts.specs.declared.script.Script.{Script}
use Rattle.line_script.specs.Fed.{accepted_script, ended}
use Rattle.line_script.specs.Readers.{stage_of}
use Rattle.line_script.specs.Lines.{is_ended, script_with}
use Rattle.line_script.specs.ScriptText.{at_line, script_of}
use Rattle.line_script.specs.Unfinished.{IsAccepted, IsOpen, settled, unfinished, unfinished_after}
use Rattle.line_script.proofs.Fed.{goes-on, unfinished-behind, unfinished-line}
use Rattle.line_script.proofs.Shown.{ended-is-whole}
use Rattle.line_replay.specs.Fed.{Replaying, IsReplayOf, IsScript, ShowsFront, ShowsLess, ShowsMore, events_text, shown, told, told_by}
use Rattle.df1_replay.specs.declared.fault.ReplayFault.{ReplayFault}
use Rattle.df1_replay.specs.declared.fault.ReplayFault.TheVariants.{Refusal, Input, Output, NoMemory}
use Rattle.df1_replay.specs.Outcome.{Answered, BrokenOff, CutOff, Refused, TellsRefusal, Written}
use Rattle.df1_replay.specs.Outcome.{replayed}
use Rattle.df1_replay.proofs.Written.{told-more}

-- the bytes that were taken are replayed, and all that they show is written
pub record SoFar (left left' held held' : Option (List ℕ)) (r : Replaying) : Type 0 where
  pub text : List ℕ
  pub replay : IsReplayOf text r
  pub took : Took left left' text
  pub shows : Put held held' (shown text)

-- how many bytes a replay was fed
pub fed-is : (text : List ℕ) (r : Replaying) → IsReplayOf text r → r.text.start + length r.text.line ≡ length text
fed-is text r h =
    let start = h.reads.start_is in
    let all : length text ≡ length h.reads.whole + length r.text.line = ap length h.reads.text_is ∙ length-append h.reads.whole r.text.line in
    omega (arith, start, all)

nothing-shown : shown [] ≡ []
unfolding shown accepted_script
nothing-shown = refl

pub none-taken : (left held : Option (List ℕ)) (r : Replaying) → IsReplayOf [] r → SoFar left left held held r
none-taken left held r h = record { text = []; replay = h; took = Consumes-nil left; shows = subst (Put held held) (sym nothing-shown) (Appends-nil held) }

put-behind : (before after : List ℕ) (a b c : Option (List ℕ)) → Put a b before → ShowsMore before after b c → Put a c after
put-behind before after a b c put shows = subst (Put a c) (sym shows.shows) (Appends-trans a b c before shows.more put shows.put)

front-behind : (before all : List ℕ) (a b c : Option (List ℕ)) → Put a b before → ShowsFront before all b c → WrotePart a c all
front-behind before all a b c put shows = (
  shows.rest,
  record { part = before ++ shows.more; text_is = shows.shows; put = Appends-trans a b c before shows.more put shows.put },
)

all-part : (a b : Option (List ℕ)) (all : List ℕ) → Put a b all → WrotePart a b all
all-part a b all put = ([], record { part = all; text_is = sym (append-nil all); put = put })

-- ---- one piece more

pub piece-taken : (left left' left'' held held' held'' : Option (List ℕ)) (r new : Replaying) (piece : List ℕ) (s : SoFar left left' held held' r) → Took left' left'' piece
    → IsReplayOf (s.text ++ piece) new × ShowsMore (shown s.text) (shown (s.text ++ piece)) held' held'' → SoFar left left'' held held'' new
piece-taken left left' left'' held held' held'' r new piece s took on = record {
  text = s.text ++ piece;
  replay = on.0;
  took = Consumes-trans left left' left'' s.text piece s.took took;
  shows = put-behind (shown s.text) (shown (s.text ++ piece)) held held' held'' s.shows on.1;
}

told-refused : (text : List ℕ) (fault : ℕ × Cause) → script_of text ≡ Err fault → told text ≡ events_text (accepted_script text)
unfolding told
told-refused text fault is = ap (λ x. told_by x text) is

pub piece-refused : (left left' left'' held held' held'' : Option (List ℕ)) (faults faults' line : ℕ) (c : Cause) (r : Replaying) (piece : List ℕ) (s : SoFar left left' held held' r) → Took left' left'' piece → faults' ≡ faults
    → ((more : List ℕ) → (script_of ((s.text ++ piece) ++ more) ≡ Err (line, c)) × ShowsMore (shown s.text) (told ((s.text ++ piece) ++ more)) held' held'') → Refused left left'' held held'' faults faults' line c
piece-refused left left' left'' held held' held'' faults faults' line c r piece s took calm refused =
    let all = s.text ++ piece in
    let here = refused [] in
    let same : told (all ++ []) ≡ events_text (accepted_script all) = ap told (append-nil all) ∙ told-refused all (line, c) (ap script_of (sym (append-nil all)) ∙ here.0) in
    record {
      bytes = all;
      took = Consumes-trans left left' left'' s.text piece s.took took;
      refused = λ more end. (refused more).0;
      shows = subst (Put held held'') same (put-behind (shown s.text) (told (all ++ [])) held held' held'' s.shows here.1);
      calm = calm;
    }

pub piece-cut : (left left' left'' held held' held'' : Option (List ℕ)) (r : Replaying) (piece : List ℕ) (s : SoFar left left' held held' r) → Took left' left'' piece → length piece ≤ 4096
    → ShowsLess (shown s.text) (told (s.text ++ piece)) held' held'' → CutOff left left'' held held''
piece-cut left left' left'' held held' held'' r piece s took few (front, some) = record {
  before = s.text;
  last = piece;
  took = Consumes-trans left left' left'' s.text piece s.took took;
  few = few;
  more = front.more;
  rest = front.rest;
  tells = front.shows;
  missing = some;
  shows = Appends-trans held held' held'' (shown s.text) front.more s.shows front.put;
}

pub piece-written : (left left' left'' held held' held'' : Option (List ℕ)) (r : Replaying) (piece : List ℕ) (s : SoFar left left' held held' r) → Took left' left'' piece → length s.text ≤ 16777216 → length piece ≤ 4096
    → ShowsFront (shown s.text) (told (s.text ++ piece)) held' held'' → Written told left left'' held held''
piece-written left left' left'' held held' held'' r piece s took most few front = record {
  input = s.text ++ piece;
  took = Consumes-trans left left' left'' s.text piece s.took took;
  few = omega (arith, length-append s.text piece, most, few);
  part = front-behind (shown s.text) (told (s.text ++ piece)) held held' held'' s.shows front;
}

-- ---- the end of the input

script-told : (text : List ℕ) (script : Script) → script_of text ≡ Ok script → replayed text ≡ Some (told text)
unfolding told
script-told text script is = rw is refl

pub end-answered : (left left' left'' held held' held'' : Option (List ℕ)) (r : Replaying) (s : SoFar left left' held held' r) → Took left' left'' [] → IsAtEnd left''
    → IsScript s.text × ShowsMore (shown s.text) (told s.text) held' held'' → Answered replayed left left'' held held''
end-answered left left' left'' held held' held'' r s took end on = record {
  input = s.text;
  text = told s.text;
  took = subst (Took left left'') (append-nil s.text) (Consumes-trans left left' left'' s.text [] s.took took);
  end = end;
  answered = script-told s.text on.0.0 on.0.1;
  put = put-behind (shown s.text) (told s.text) held held' held'' s.shows on.1;
}

pub end-refused : (left left' left'' held held' held'' : Option (List ℕ)) (faults faults' line : ℕ) (c : Cause) (r : Replaying) (s : SoFar left left' held held' r) → Took left' left'' [] → IsAtEnd left'' → faults' ≡ faults
    → (script_of s.text ≡ Err (line, c)) × ShowsMore (shown s.text) (told s.text) held' held'' → Refused left left'' held held'' faults faults' line c
end-refused left left' left'' held held' held'' faults faults' line c r s took end calm on = record {
  bytes = s.text;
  took = subst (Took left left'') (append-nil s.text) (Consumes-trans left left' left'' s.text [] s.took took);
  refused = λ more none. ap (λ m. script_of (s.text ++ m)) (none end) ∙ ap script_of (append-nil s.text) ∙ on.0;
  shows = subst (Put held held'') (told-refused s.text (line, c) on.0) (put-behind (shown s.text) (told s.text) held held' held'' s.shows on.1);
  calm = calm;
}

pub end-cut : (left left' left'' held held' held'' : Option (List ℕ)) (r : Replaying) (s : SoFar left left' held held' r) → Took left' left'' [] → ShowsLess (shown s.text) (told s.text) held' held'' → CutOff left left'' held held''
end-cut left left' left'' held held' held'' r s took less =
    piece-cut left left' left'' held held' held'' r [] s took (omega arith) (subst (λ t. ShowsLess (shown s.text) (told t) held' held'') (sym (append-nil s.text)) less)

-- whatever closing comes to
pub end-written : {T E : Type 0} (left left' left'' held held' held'' : Option (List ℕ)) (r : Replaying) (s : SoFar left left' held held' r) (result : Result T E) → Took left' left'' [] → length s.text ≤ 16777216
    → OnOk result (IsScript s.text × ShowsMore (shown s.text) (told s.text) held' held'') → OnErr result (ShowsFront (shown s.text) (told s.text) held' held'') → Written told left left'' held held''
end-written left left' left'' held held' held'' r s (Ok value) took most ok err = record {
  input = s.text;
  took = subst (Took left left'') (append-nil s.text) (Consumes-trans left left' left'' s.text [] s.took took);
  few = omega (arith, most);
  part = all-part held held'' (told s.text) (put-behind (shown s.text) (told s.text) held held' held'' s.shows ok.1);
}
end-written left left' left'' held held' held'' r s (Err fault) took most ok err = record {
  input = s.text;
  took = subst (Took left left'') (append-nil s.text) (Consumes-trans left left' left'' s.text [] s.took took);
  few = omega (arith, most);
  part = front-behind (shown s.text) (told s.text) held held' held'' s.shows err;
}

-- ---- a read that failed

accepted-or-open : (over : Bool) (number : ℕ) (script : Script) → IsAccepted (at_line number (cond over (Ok script) (Err cause.NoEnd)) Ok)
accepted-or-open true number script = tt
accepted-or-open false number script = refl

-- no line is refused yet
still-open : (text : List ℕ) (r : Replaying) → IsReplayOf text r → length r.text.line ≤ 1024 → IsOpen text
still-open text r h few =
    let begun : unfinished text ≡ length r.text.line =
    ap unfinished h.reads.text_is ∙ unfinished-behind 0 h.reads.whole r.text.line ∙ ap (λ n. unfinished_after n r.text.line) h.reads.ends ∙ unfinished-line 0 r.text.line h.reads.begun ∙ (let n : 0 + length r.text.line ≡ length r.text.line = omega arith in n) in
    let short : ltb 1024 (unfinished text) ≡ false = le-ltb 1024 (unfinished text) (omega (arith, begun)) in
    let whole : settled text ≡ h.reads.whole = ap (λ b. cond b text (ended text)) short ∙ ended-is-whole text h.events r.text h.reads in
    let says = ap script_of (sym (append-nil h.reads.whole)) ∙ goes-on text h.events r.text [] h.reads in
    subst (λ t. IsAccepted (script_of t)) (sym whole) (subst IsAccepted (sym says) (accepted-or-open (is_ended (stage_of r.text.reader)) r.text.number (script_with r.text.reader h.events)))

pub broken-off : (left left' left'' held held' : Option (List ℕ)) (faults faults' : ℕ) (r : Replaying) (s : SoFar left left' held held' r) → Keeps left' left'' → length r.text.line ≤ 1024 → length s.text ≤ 16777216 → Rose faults faults' → BrokenOff left left'' held held' faults faults'
broken-off left left' left'' held held' faults faults' r s kept short few rose = record {
  bytes = s.text;
  took = Consumes-kept left left' left'' s.text s.took kept;
  still = still-open s.text r s.replay short;
  few = few;
  rose = rose;
  shows = s.shows;
}

pub broken-written : (left left' left'' held held' : Option (List ℕ)) (r : Replaying) (s : SoFar left left' held held' r) → Keeps left' left'' → length s.text ≤ 16777216 → Written told left left'' held held'
broken-written left left' left'' held held' r s kept most =
    let rest = told-more s.text r s.replay in
    record {
      input = s.text;
      took = Consumes-kept left left' left'' s.text s.took kept;
      few = omega (arith, most);
      part = (rest.0, record { part = shown s.text; text_is = rest.1; put = s.shows });
    }

-- ---- what a trouble tells

pub tells-one : (trouble : ReplayFault) (P Q : ℕ → Cause → Type 0) → ((line : ℕ) (c : Cause) → P line c → Q line c) → TellsRefusal P trouble → TellsRefusal Q trouble
tells-one (Refusal line c) P Q go tells = go line c tells
tells-one Input P Q go tells = tt
tells-one Output P Q go tells = tt
tells-one NoMemory P Q go tells = tt

pub tells-more : (result : Result (Unit {0}) ReplayFault) (P Q : ℕ → Cause → Type 0) → ((line : ℕ) (c : Cause) → P line c → Q line c) → IfErr result (TellsRefusal P) → IfErr result (TellsRefusal Q)
tells-more (Ok done) P Q go tells = tt
tells-more (Err trouble) P Q go tells = tells-one trouble P Q go tells

pub rose-from : (a b c : ℕ) → b ≡ a → Rose b c → Rose a c
rose-from a b c is rose = subst (λ n. Rose n c) is rose
