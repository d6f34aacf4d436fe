-- Signals that came one after another.
use Rattle.std.specs.Prelude.{◌≡◌, ℕ, List, [], ◌++◌, Option, refl}
use Rattle.std.proofs.Common.{ap, sym, ◌∙◌, append_assoc, append-nil, length-append, arith}
use Rattle.std.proofs.KnownBytes.{Consumes-nil, Consumes-trans}
use Rattle.df1_base.specs.declared.signal.Signal.{Signal}
use Rattle.df1_base.specs.Feed.{Feed, Came, signals_to_come}

-- of a port over a source and a sink
pub came-none : {S K : Type 0} (left : S → Option (List ℕ)) (f : Feed S K) → Came left f [] f
came-none left f = record { more = []; took = Consumes-nil (left f.source); gone = []; goes = append-nil f.waiting; count = Prim.omega arith; timed_is = refl; gives = λ later. refl }

pub came-more : {S K : Type 0} (left : S → Option (List ℕ)) (f g h : Feed S K) (xs ys : List Signal) → Came left f xs g → Came left g ys h → Came left f (xs ++ ys) h
came-more left f g h xs ys first second = record {
  more = first.more ++ second.more;
  took = Consumes-trans (left f.source) (left g.source) (left h.source) first.more second.more first.took second.took;
  gone = first.gone ++ second.gone;
  goes =
      sym (append_assoc f.waiting first.more second.more) ∙ ap (λ bytes. bytes ++ second.more) first.goes ∙ append_assoc first.gone g.waiting second.more
      ∙ ap (λ bytes. first.gone ++ bytes) second.goes ∙ sym (append_assoc first.gone second.gone h.waiting);
  count = Prim.omega (arith, first.count, second.count, length-append first.gone second.gone);
  timed_is = second.timed_is ∙ first.timed_is;
  gives = λ later.
      ap (λ bytes. signals_to_come f bytes) (append_assoc first.more second.more later) ∙ first.gives (second.more ++ later)
      ∙ ap (λ signals. xs ++ signals) (second.gives later) ∙ sym (append_assoc xs ys (signals_to_come h later));
}

-- of lists: what was to come is these, and then what is to come now
pub split-more : (a b c xs ys : List Signal) → a ≡ xs ++ b → b ≡ ys ++ c → a ≡ (xs ++ ys) ++ c
split-more a b c xs ys first second = first ∙ ap (λ signals. xs ++ signals) second ∙ sym (append_assoc xs ys c)
