-- The bytes that are kept, as more are added behind them.
use Rattle.std.proofs.Common.{◌≡◌, ◌≤◌, ℕ, ◌+◌, ◌-◌, ◌∙◌, List, [], ◌∷◌, ◌++◌, length, refl, sym, ap, subst, arith, take, drop, length-append, length-drop}
use Rattle.std.specs.List.{All}
use Rattle.std.proofs.lemmas.List.{take_all, take-append-le, drop_at, drop-append-le}
use Rattle.std.proofs.lemmas.List.Elements.{All-head, All-tail, All-weaker}
use Rattle.df1_base.specs.Host.{IsBody}
use Rattle.df1_node.specs.declared.part.Part.{Part}
use Rattle.df1_node.specs.declared.issued.Command.{Command}
use Rattle.df1_node.specs.declared.issued.State.{State}
use Rattle.df1_node.specs.declared.issued.State.TheVariants as stands
use Rattle.df1_node.specs.Initiator.{Standing, Issued, Answered}
use Rattle.df1_node.specs.Commands.{IsPart, part_of, standing_of, IsStateKept, issued_of, IsKept, all_issued}

-- the part of the bytes that are added
abbrev pub part_behind : List ℕ → List ℕ → Part
part_behind bytes more = record { start = length bytes; end = length bytes + length more }

part_more : (bytes more : List ℕ) (p : Part) → IsPart bytes p → part_of (bytes ++ more) p ≡ part_of bytes p
part_more bytes more p is =
    let ordered : p.start ≤ p.end = is.ordered in
    let within : p.end ≤ length bytes = is.within in
    let rest : length (drop p.start bytes) ≡ length bytes - p.start = length-drop p.start bytes in
    ap (take (p.end - p.start)) (drop-append-le p.start bytes more (omega arith))
    ∙ take-append-le (p.end - p.start) (drop p.start bytes) more (omega arith)

pub part_new : (bytes more : List ℕ) → part_of (bytes ++ more) (part_behind bytes more) ≡ more
part_new bytes more =
    ap (take (length bytes + length more - length bytes)) (drop_at bytes more (length bytes) refl)
    ∙ take_all (length bytes + length more - length bytes) more (omega arith)

IsPart-more : (bytes more : List ℕ) (p : Part) → IsPart bytes p → IsPart (bytes ++ more) p
IsPart-more bytes more p is =
    let within : p.end ≤ length bytes = is.within in
    record {
      ordered = is.ordered;
      within = subst (λ n. p.end ≤ n) (sym (length-append bytes more)) (omega arith);
      body = subst IsBody (sym (part_more bytes more p is)) is.body;
    }

pub IsPart-new : (bytes more : List ℕ) → IsBody more → IsPart (bytes ++ more) (part_behind bytes more)
IsPart-new bytes more body =
    record {
      ordered = omega arith;
      within = subst (λ n. length bytes + length more ≤ n) (sym (length-append bytes more)) (omega arith);
      body = subst IsBody (sym (part_new bytes more)) body;
    }

standing_more : (bytes more : List ℕ) (s : State) → IsStateKept bytes s → standing_of (bytes ++ more) s ≡ standing_of bytes s
standing_more bytes more stands.Waiting is = refl
standing_more bytes more (stands.Out left) is = refl
standing_more bytes more (stands.Answered reply) is = ap Answered (part_more bytes more reply is)
standing_more bytes more stands.Undelivered is = refl
standing_more bytes more stands.Unanswered is = refl

IsStateKept-more : (bytes more : List ℕ) (s : State) → IsStateKept bytes s → IsStateKept (bytes ++ more) s
IsStateKept-more bytes more stands.Waiting is = tt
IsStateKept-more bytes more (stands.Out left) is = tt
IsStateKept-more bytes more (stands.Answered reply) is = IsPart-more bytes more reply is
IsStateKept-more bytes more stands.Undelivered is = tt
IsStateKept-more bytes more stands.Unanswered is = tt

issued_more : (bytes more : List ℕ) (c : Command) → IsKept bytes c → issued_of (bytes ++ more) c ≡ issued_of bytes c
issued_more bytes more c is =
    let with_body : List ℕ → Issued = λ b. record { body = b; standing = standing_of (bytes ++ more) c.state } in
    let with_standing : Standing → Issued = λ s. record { body = part_of bytes c.body; standing = s } in
    ap with_body (part_more bytes more c.body is.body) ∙ ap with_standing (standing_more bytes more c.state is.state)

-- the commands are what they were
pub all_issued-more : (bytes more : List ℕ) (xs : List Command) → All (IsKept bytes) xs → all_issued (bytes ++ more) xs ≡ all_issued bytes xs
all_issued-more bytes more [] is = refl
all_issued-more bytes more (x ∷ xs) is =
    ap (λ c. c ∷ all_issued (bytes ++ more) xs) (issued_more bytes more x (All-head (IsKept bytes) x xs is))
    ∙ ap (λ cs. issued_of bytes x ∷ cs) (all_issued-more bytes more xs (All-tail (IsKept bytes) x xs is))

pub all_kept-more : (bytes more : List ℕ) (xs : List Command) → All (IsKept bytes) xs → All (IsKept (bytes ++ more)) xs
all_kept-more bytes more xs is =
    All-weaker (IsKept bytes) (IsKept (bytes ++ more)) (λ c k. record { body = IsPart-more bytes more c.body k.body; state = IsStateKept-more bytes more c.state k.state }) xs is
