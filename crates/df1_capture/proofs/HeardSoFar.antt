-- What was taken of a capture so far, and what of its dissection is written.
use Rattle.std.proofs.Common.{◌≡◌, ◌∙◌, ◌≤◌, ◌<◌, ℕ, ◌+◌, List, [], ◌∷◌, ◌++◌, Option, length, Result, Ok, Err, inl, inr, refl, sym, ap, subst, arith, append-nil, append_assoc, length-append, take, drop, take-append-drop}
use Rattle.std.proofs.lemmas.List.{drop-take, take-take}
use Rattle.std.specs.Prelude.{OnOk, OnErr}
use Rattle.std.specs.Io.KnownBytes.{IsAtEnd, Keeps}
use Rattle.std.proofs.KnownBytes.{Appends-nil, Appends-trans, Consumes-nil, Consumes-trans, Consumes-kept}
use Rattle.df1_base.specs.Outside.{Put, Rose, Took, WroteLess}
use Rattle.df1_base.specs.Signals.{input_limit}
use Rattle.df1_base.specs.declared.outside.Failed.{Failed}
use Rattle.df1_base.proofs.Laws.{put_wrote}
use Rattle.df1_check.specs.declared.Check.{Check}
use Rattle.df1_frame.specs.Grammar.{Nothing as FullNothing}
use Rattle.half_frame.specs.SlaveGrammar.{Nothing as MasterNothing}
use Rattle.half_frame.specs.MasterGrammar.{Nothing as SlaveNothing}
use Rattle.half_frame.specs.declared.side.Side.{Side}
use Rattle.half_frame.specs.declared.side.Side.TheVariants as side
use Rattle.df1_dissect.specs.Reading.{Reading, StandsFor}
use Rattle.df1_dissect.specs.Dissection.{HasLines, Dissects}
use Rattle.df1_dissect.proofs.Sides.{fed-length}
use Rattle.df1_capture.specs.declared.capture.CaptureFault.{CaptureFault}
use Rattle.df1_capture.specs.declared.capture.CaptureFault.TheVariants as fault
use Rattle.df1_capture.specs.Dissected.{CloseEnd, DissectEnd, HasHeard, HasPut, HasPutFront, HasPutPart, IsCutShort, IsDue, IsMoved, PieceEnd, PutEnd}

-- ---- a count of faults

pub same-rose : (a b c : ℕ) → b ≡ a → Rose b c → Rose a c
same-rose a b c is rose = subst (λ (n : ℕ). Rose n c) is rose

-- ---- no byte

pub no-lines : (of : Side) (check : Check) → HasLines of check [] []
no-lines side.Full check = record { items = []; front = FullNothing; splits = record { whole = refl; each = tt }; is = refl }
no-lines side.Master check = record { items = []; front = MasterNothing; splits = record { whole = refl; each = tt }; is = refl }
no-lines side.Slave check = record { items = []; front = SlaveNothing; splits = record { whole = refl; each = tt }; is = refl }

-- ---- lines that wait

-- a dissector has taken these bytes, and of the lines that it has told since, the last ones wait
pub record Waiting (of : Side) (check : Check) (bytes text : List ℕ) (d : Reading) (held held' : Option (List ℕ)) (waiting : List ℕ) : Type 0 where
  pub written : List ℕ
  pub put : Put held held' written
  pub heard : HasHeard of check bytes (text ++ (written ++ waiting)) d

pub none-waits : (of : Side) (check : Check) (bytes text : List ℕ) (d : Reading) (held : Option (List ℕ)) (waiting : List ℕ) → HasHeard of check bytes text d → waiting ≡ []
    → Waiting of check (bytes ++ []) text d held held waiting
none-waits of check bytes text d held waiting h none =
    let same : text ≡ text ++ ([] ++ waiting) = sym (append-nil text) ∙ ap (λ (l : List ℕ). text ++ l) (sym none) in
    record {
      written = [];
      put = Appends-nil held;
      heard = record {
        stands = subst (λ (l : List ℕ). StandsFor of check l d) (sym (append-nil bytes)) h.stands;
        lines = subst (λ (l : List ℕ). HasLines of check (bytes ++ []) l) same (subst (λ (l : List ℕ). HasLines of check l text) (sym (append-nil bytes)) h.lines);
      };
    }

regroup : (text written part left more : List ℕ) → (text ++ (written ++ (part ++ left))) ++ more ≡ text ++ ((written ++ part) ++ (left ++ more))
regroup text written part left more = simp append_assoc

-- so many bytes more
pub take-onward : (at n : ℕ) (all : List ℕ) → take (at + n) all ≡ take at all ++ take n (drop at all)
take-onward at n all = sym (take-append-drop at (take (at + n) all)) ∙ rw (take-take at (at + n) all (omega arith), drop-take at n all) refl

-- a run of bytes more, or one, with these lines
pub waits-more : (of : Side) (check : Check) (bytes bytes' text run more : List ℕ) (d d' : Reading) (held held' held'' : Option (List ℕ)) (waiting left waiting' : List ℕ)
    → Waiting of check bytes text d held held' waiting → IsMoved held' held'' waiting left → bytes' ≡ bytes ++ run
    → (StandsFor of check bytes d → StandsFor of check (bytes ++ run) d')
    → ((so_far : List ℕ) → StandsFor of check bytes d → HasLines of check bytes so_far → HasLines of check (bytes ++ run) (so_far ++ more))
    → waiting' ≡ left ++ more → Waiting of check bytes' text d' held held'' waiting'
waits-more of check bytes bytes' text run more d d' held held' held'' waiting left waiting' w m is stands lines added =
    let so_far = text ++ (w.written ++ waiting) in
    let same : so_far ++ more ≡ text ++ ((w.written ++ m.part) ++ waiting') =
    ap (λ (l : List ℕ). (text ++ (w.written ++ l)) ++ more) m.whole ∙ regroup text w.written m.part left more ∙ ap (λ (l : List ℕ). text ++ ((w.written ++ m.part) ++ l)) (sym added) in
    record {
      written = w.written ++ m.part;
      put = Appends-trans held held' held'' w.written m.part w.put m.put;
      heard = record {
        stands = subst (λ (l : List ℕ). StandsFor of check l d') (sym is) (stands w.heard.stands);
        lines = subst (λ (l : List ℕ). HasLines of check l (text ++ ((w.written ++ m.part) ++ waiting'))) (sym is) (subst (λ (l : List ℕ). HasLines of check (bytes ++ run) l) same (lines so_far w.heard.stands w.heard.lines));
      };
    }

-- all that waits is written
pub all-put : (of : Side) (check : Check) (bytes text : List ℕ) (d : Reading) (held held' held'' : Option (List ℕ)) (waiting : List ℕ) → Waiting of check bytes text d held held' waiting → Put held' held'' waiting
    → HasPut of check bytes text d held held''
all-put of check bytes text d held held' held'' waiting w put = record {
  more = w.written ++ waiting;
  heard = w.heard;
  put = Appends-trans held held' held'' w.written waiting w.put put;
}

-- or a first part of it is, and not all
pub part-put : (of : Side) (check : Check) (before piece front unheard text : List ℕ) (d : Reading) (held held' held'' : Option (List ℕ)) (waiting : List ℕ) → Waiting of check (before ++ front) text d held held' waiting
    → d.fed ≤ 268435456 → piece ≡ front ++ unheard → WroteLess held' held'' waiting → HasPutPart of check before piece text held held''
part-put of check before piece front unheard text d held held' held'' waiting w few split part =
    let fed = fed-length of check (before ++ front) d w.heard.stands in
    let both = put_wrote held held' held'' w.written waiting part.0 w.put part.2 in
    record {
      front = front;
      unheard = unheard;
      whole = split;
      within = omega (arith, few, fed);
      due = w.written ++ waiting;
      lines = w.heard.lines;
      part = (part.0, part.1, both);
    }

-- ---- a piece

-- a front of it was heard
pub piece-of : (of : Side) (check : Check) (before piece front unheard text : List ℕ) (held held' : Option (List ℕ)) → piece ≡ front ++ unheard → HasPutPart of check before front text held held' → HasPutPart of check before piece text held held'
piece-of of check before piece front unheard text held held' split p = record {
  front = p.front;
  unheard = p.unheard ++ unheard;
  whole = split ∙ ap (λ (l : List ℕ). l ++ unheard) p.whole ∙ append_assoc p.front p.unheard unheard;
  within = p.within;
  due = p.due;
  lines = p.lines;
  part = p.part;
}

-- all of a piece was heard
pub piece-all : (of : Side) (check : Check) (before piece front unheard text : List ℕ) (d : Reading) (held held' : Option (List ℕ)) (faults faults' : ℕ) → piece ≡ front ++ unheard → length piece ≤ length front
    → HasPut of check (before ++ front) text d held held' × (faults' ≡ faults) → HasPut of check (before ++ piece) text d held held' × (faults' ≡ faults)
piece-all of check before piece front [] text d held held' faults faults' split size put =
    (subst (λ (l : List ℕ). HasPut of check (before ++ l) text d held held') (sym (split ∙ append-nil front)) put.0, put.1)
piece-all of check before piece front (b ∷ unheard) text d held held' faults faults' split size put =
    absurd (omega (arith, size, ap length split, length-append front (b ∷ unheard)))

-- or the limit allows no more of it
pub piece-front : (of : Side) (check : Check) (before piece front unheard text : List ℕ) (d d' : Reading) (held held' : Option (List ℕ)) (faults faults' : ℕ) → piece ≡ front ++ unheard → length front < length piece
    → StandsFor of check before d → d.fed + length front ≡ 268435456
    → HasPut of check (before ++ front) text d' held held' × (faults' ≡ faults) → HasPutFront of check before piece text held held' × (faults' ≡ faults)
piece-front of check before piece front unheard text d d' held held' faults faults' split less stands full put =
    let fed = fed-length of check before d stands in (
      record {
        front = front;
        over = record {
          over = unheard;
          whole = split;
          all = omega (arith, length-append before front, fed, full);
          some = omega (arith, less, ap length split, length-append front unheard);
        };
        more = put.0.more;
        lines = put.0.heard.lines;
        put = put.0.put;
      },
      put.1,
    )

-- what hearing bytes comes to, where what waits goes to the output in the end
pub put-ended : (of : Side) (check : Check) (before heard text : List ℕ) (d : Reading) (held held' held'' : Option (List ℕ)) (out out' out'' : ℕ) (waiting : List ℕ) (result : Result (Unit {0}) Failed)
    → Waiting of check (before ++ heard) text d held held' waiting → d.fed ≤ 268435456 → out' ≡ out → OnOk result (Put held' held'' waiting) → OnErr result (WroteLess held' held'' waiting) → OnOk result (out'' ≡ out') → OnErr result (Rose out' out'')
    → PutEnd of check before heard text d held held'' out out'' result
put-ended of check before heard text d held held' held'' out out' out'' waiting (Ok done) w few steady put part calm rose = (all-put of check (before ++ heard) text d held held' held'' waiting w put, calm ∙ steady)
put-ended of check before heard text d held held' held'' out out' out'' waiting (Err failed) w few steady put part calm rose =
    (part-put of check before heard heard [] text d held held' held'' waiting w few (sym (append-nil heard)) part, same-rose out out' out'' steady rose)

-- ---- the whole input

-- these bytes were taken, and the lines of all that is heard in them are written
pub record SoFar (of : Side) (check : Check) (left left' held held' : Option (List ℕ)) (d : Reading) : Type 0 where
  pub bytes : List ℕ
  pub text : List ℕ
  pub heard : HasHeard of check bytes text d
  pub took : Took left left' bytes
  pub put : Put held held' text

pub none-so-far : (of : Side) (check : Check) (left held : Option (List ℕ)) (d : Reading) → StandsFor of check [] d → SoFar of check left left held held d
none-so-far of check left held d stands = record {
  bytes = [];
  text = [];
  heard = record { stands = stands; lines = no-lines of check };
  took = Consumes-nil left;
  put = Appends-nil held;
}

-- how many bytes those are
size-of : (of : Side) (check : Check) (left left' held held' : Option (List ℕ)) (d : Reading) (s : SoFar of check left left' held held' d) → d.fed ≤ 268435456 → length s.bytes ≤ input_limit
size-of of check left left' held held' d s few =
    let fed = fed-length of check s.bytes d s.heard.stands in omega (arith, few, fed)

pub piece-so-far : (of : Side) (check : Check) (left left' left'' held held' held'' : Option (List ℕ)) (faults faults' : ℕ) (d d' : Reading) (piece : List ℕ) (s : SoFar of check left left' held held' d) → Took left' left'' piece
    → HasPut of check (s.bytes ++ piece) s.text d' held' held'' × (faults' ≡ faults) → SoFar of check left left'' held held'' d'
piece-so-far of check left left' left'' held held' held'' faults faults' d d' piece s took put = record {
  bytes = s.bytes ++ piece;
  text = s.text ++ put.0.more;
  heard = put.0.heard;
  took = Consumes-trans left left' left'' s.bytes piece s.took took;
  put = Appends-trans held held' held'' s.text put.0.more s.put put.0.put;
}

-- a first part of what is due is written, and not all
cut-short : (of : Side) (check : Check) (left left'' held held' held'' : Option (List ℕ)) (before front unheard text due : List ℕ) → Took left left'' (before ++ (front ++ unheard)) → length (front ++ unheard) ≤ 4096
    → length (before ++ front) ≤ input_limit → HasLines of check before text → Put held held' text → IsDue of check left'' (before ++ front) unheard (text ++ due) → WroteLess held' held'' due
    → IsCutShort of check left left'' held held''
cut-short of check left left'' held held' held'' before front unheard text due took few within lines put all part = record {
  before = before;
  next = front;
  unheard = unheard;
  took = took;
  few = few;
  within = within;
  text = text;
  due = due;
  lines = lines;
  whole = all;
  rest = part.0;
  some = part.1;
  part = part.2.part;
  due_is = part.2.text_is;
  put = Appends-trans held held' held'' text part.2.part put part.2.put;
}

-- a piece at which it ended
pub piece-ended : (of : Side) (check : Check) (left left' left'' : Option (List ℕ)) (input input' input'' : ℕ) (held held' held'' : Option (List ℕ)) (out out' out'' : ℕ) (d d' : Reading) (piece : List ℕ) (why : CaptureFault)
    (s : SoFar of check left left' held held' d) → Took left' left'' piece → length piece ≤ 4096 → input' ≡ input → input'' ≡ input' → out' ≡ out
    → PieceEnd of check s.bytes piece s.text d' held' held'' out' out'' (Err why) → DissectEnd of check left left'' input input'' held held'' out out'' (Err why)
piece-ended of check left left' left'' input input' input'' held held' held'' out out' out'' d d' piece fault.Input s took few calm calm' steady end = absurd end
piece-ended of check left left' left'' input input' input'' held held' held'' out out' out'' d d' piece fault.Output s took few calm calm' steady end =
    let p = end.0 in
    let all = Consumes-trans left left' left'' s.bytes piece s.took took in (
      cut-short of check left left'' held held' held'' s.bytes p.front p.unheard s.text p.due (subst (λ (l : List ℕ). Took left left'' (s.bytes ++ l)) p.whole all)
          (subst (λ (l : List ℕ). length l ≤ 4096) p.whole few) p.within s.heard.lines s.put (inl p.lines) p.part,
      same-rose out out' out'' steady end.1,
      calm' ∙ calm,
    )
piece-ended of check left left' left'' input input' input'' held held' held'' out out' out'' d d' piece fault.TooLong s took few calm calm' steady end =
    let p = end.0 in
    let all = Consumes-trans left left' left'' s.bytes piece s.took took in
    let split : s.bytes ++ piece ≡ (s.bytes ++ p.front) ++ p.over.over = ap (λ (l : List ℕ). s.bytes ++ l) p.over.whole ∙ sym (append_assoc s.bytes p.front p.over.over) in (
      (
        s.bytes ++ p.front,
        record {
          over = p.over.over;
          took = subst (λ (l : List ℕ). Took left left'' l) split all;
          all = p.over.all;
          some = p.over.some;
          few = omega (arith, few, ap length p.over.whole, length-append p.front p.over.over);
        },
        record { text = s.text ++ p.more; lines = p.lines; put = Appends-trans held held' held'' s.text p.more s.put p.put },
      ),
      calm' ∙ calm,
      end.1 ∙ steady,
    )

-- a read that failed
pub read-failed : (of : Side) (check : Check) (left left' left'' : Option (List ℕ)) (input input' input'' : ℕ) (held held' : Option (List ℕ)) (out out' : ℕ) (d : Reading)
    (s : SoFar of check left left' held held' d) → d.fed ≤ 268435456 → Keeps left' left'' → input' ≡ input → Rose input' input'' → out' ≡ out → DissectEnd of check left left'' input input'' held held' out out' (Err fault.Input)
read-failed of check left left' left'' input input' input'' held held' out out' d s few kept calm rose steady = (
  (
    s.bytes,
    record { took = Consumes-kept left left' left'' s.bytes s.took kept; few = size-of of check left left' held held' d s few },
    record { text = s.text; lines = s.heard.lines; put = s.put },
  ),
  same-rose input input' input'' calm rose,
  steady,
)

-- the end of the input
pub closed : (of : Side) (check : Check) (left left' left'' : Option (List ℕ)) (input input' input'' : ℕ) (held held' held'' : Option (List ℕ)) (out out' out'' : ℕ) (d : Reading) (result : Result (Unit {0}) CaptureFault)
    (s : SoFar of check left left' held held' d) → d.fed ≤ 268435456 → Took left' left'' [] → IsAtEnd left'' → input' ≡ input → input'' ≡ input' → out' ≡ out
    → CloseEnd of check s.bytes s.text held' held'' out' out'' result → DissectEnd of check left left'' input input'' held held'' out out'' result
closed of check left left' left'' input input' input'' held held' held'' out out' out'' d (Ok done) s few took end calm calm' steady close =
    let more = close.0 in (
      record {
        bytes = s.bytes;
        text = s.text ++ more.0;
        input = record {
          took = subst (λ (l : List ℕ). Took left left'' l) (append-nil s.bytes) (Consumes-trans left left' left'' s.bytes [] s.took took);
          end = end;
          few = size-of of check left left' held held' d s few;
        };
        dissects = more.1;
        put = Appends-trans held held' held'' s.text more.0 s.put more.2;
      },
      calm' ∙ calm,
      close.1 ∙ steady,
    )
closed of check left left' left'' input input' input'' held held' held'' out out' out'' d (Err fault.Input) s few took end calm calm' steady close = absurd close
closed of check left left' left'' input input' input'' held held' held'' out out' out'' d (Err fault.Output) s few took end calm calm' steady close =
    let due = close.0 in
    let same : s.bytes ≡ s.bytes ++ [] = sym (append-nil s.bytes) in (
      cut-short of check left left'' held held' held'' s.bytes [] [] s.text due.0 (Consumes-trans left left' left'' s.bytes [] s.took took) (omega arith)
          (subst (λ (l : List ℕ). length l ≤ input_limit) same (size-of of check left left' held held' d s few)) s.heard.lines s.put
          (inr (end, refl, subst (λ (l : List ℕ). Dissects of check l (s.text ++ due.0)) same due.1)) due.2,
      same-rose out out' out'' steady close.1,
      calm' ∙ calm,
    )
closed of check left left' left'' input input' input'' held held' held'' out out' out'' d (Err fault.TooLong) s few took end calm calm' steady close = absurd close
