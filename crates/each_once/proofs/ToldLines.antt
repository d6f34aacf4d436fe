-- What the lines of a report tell of two ends, and what still holds of it as commands and lines are added.
use Rattle.std.proofs.Common.{◌≡◌, ◌∙◌, ℕ, zero, suc, true, List, [], ◌∷◌, ◌++◌, Option, Some, refl, ap, sym, subst, append-nil}
use Rattle.std.specs.Prelude.{slice_get, All, Contains}
use Rattle.std.specs.List.{filter_map}
use Rattle.std.proofs.lemmas.List.Elements.{filter_map-append, All-push, All-nil, Contains-append_left}
use Rattle.df1_node.specs.Answer.{StationState, reply_to}
use Rattle.df1_node.specs.Initiator.{Issued}
use Rattle.script_statement.specs.declared.who.Who.{Who}
use Rattle.replay_report.specs.declared.record.Line.{Line}
use Rattle.each_once.specs.Exchanges.{exchanges, station_after}
use Rattle.each_once.specs.Tells.{executed_at, answer_at, stray_at, executed_in, answers_in, strays_in}
use Rattle.each_once.proofs.KeptCommands.{is_given_up, IsReplyOf, IsOfLost}
use Rattle.each_once.proofs.Sublists.{get-more}
use Rattle.each_once.proofs.StationReplies.{exchanges-push}

-- what lines tell: the station of one end executed these commands, and the other end accepted their replies
pub record IsTold (from to : Who) (first : StationState) (issued : List Issued) (executed : List (List ℕ)) (lines : List Line) : Type 0 where
  pub executes : executed_in to lines ≡ executed
  pub answered : All (λ a. IsReplyOf issued (exchanges first executed) a.0 a.1) (answers_in from lines)
  pub astray : All (IsOfLost issued (exchanges first executed)) (strays_in from lines)

-- nothing is told before the first line
pub told-start : (from to : Who) (first : StationState) (issued : List Issued) → IsTold from to first issued [] []
told-start from to first issued = record { executes = refl; answered = All-nil _; astray = All-nil _ }

-- ---- commands that stay

-- each command stays at its place, with its body, and stays given up
abbrev pub Stays : List Issued → List Issued → Type 0
Stays before issued = (k : ℕ) (c : Issued) → slice_get before k ≡ Some c → (d : Issued) × (slice_get issued k ≡ Some d) × (d.body ≡ c.body) × (is_given_up c.standing ≡ true → d.standing ≡ c.standing)

pub stays-same : (issued : List Issued) → Stays issued issued
stays-same issued k c is = (c, is, refl, λ given_up. refl)

pub stays-both : (a b c : List Issued) → Stays a b → Stays b c → Stays a c
stays-both a b c first second k x is =
    let y = first k x is in
    let z = second k y.0 y.1 in
    (z.0, z.1, z.2 ∙ y.2, λ given_up. z.3 (rw (y.3 given_up) given_up) ∙ y.3 given_up)

pub stays-more : (issued more : List Issued) → Stays issued (issued ++ more)
stays-more issued more k c is = (c, get-more issued more k c is, refl, λ given_up. refl)

-- ---- more commands, and another standing of some

answer-stays : (before issued : List Issued) (answered : List (List ℕ × List ℕ)) (number : ℕ) (reply : List ℕ) → Stays before issued → (r : IsReplyOf before answered number reply)
    → (now : IsReplyOf issued answered number reply) × (is_given_up r.command.standing ≡ true → now.command.standing ≡ r.command.standing)
answer-stays before issued answered zero reply stays r = absurd (let no = r.is_command in cc)
answer-stays before issued answered (suc place) reply stays r =
    let d = stays place r.command r.is_command in
    (record { command = d.0; is_command = d.1; is_answer = subst (λ body. Contains answered (body, reply)) (sym d.2) r.is_answer }, d.3)

astray-stays : (before issued : List Issued) (answered : List (List ℕ × List ℕ)) (reply : List ℕ) → Stays before issued → IsOfLost before answered reply → IsOfLost issued answered reply
astray-stays before issued answered reply stays a =
    let now = answer-stays before issued answered a.number reply stays a.replies in
    record { number = a.number; replies = now.0; given_up = rw (now.1 a.given_up) a.given_up }

pub told-stays : (from to : Who) (first : StationState) (before issued : List Issued) (executed : List (List ℕ)) (lines : List Line) → Stays before issued → IsTold from to first before executed lines → IsTold from to first issued executed lines
told-stays from to first before issued executed lines stays t = record {
  executes = t.executes;
  answered = λ k d inside. (answer-stays before issued (exchanges first executed) _ _ stays (t.answered k d inside)).0;
  astray = λ k d inside. astray-stays before issued (exchanges first executed) _ stays (t.astray k d inside);
}

-- ---- more lines

pub adds : {X Y : Type 0} (h : X → Option Y) (xs more : List X) (ys : List Y) → filter_map h more ≡ ys → filter_map h (xs ++ more) ≡ filter_map h xs ++ ys
adds h xs more ys is = filter_map-append h xs more ∙ ap (λ zs. filter_map h xs ++ zs) is

pub adds-none : {X Y : Type 0} (h : X → Option Y) (xs more : List X) → filter_map h more ≡ [] → filter_map h (xs ++ more) ≡ filter_map h xs
adds-none h xs more is = adds h xs more [] is ∙ append-nil (filter_map h xs)

-- lines that tell nothing of these
pub record AreSilent (from to : Who) (more : List Line) : Type 0 where
  pub executes : executed_in to more ≡ []
  pub answers : answers_in from more ≡ []
  pub strays : strays_in from more ≡ []

pub silent-none : (from to : Who) → AreSilent from to []
silent-none from to = record { executes = refl; answers = refl; strays = refl }

pub silent-both : (from to : Who) (xs ys : List Line) → AreSilent from to xs → AreSilent from to ys → AreSilent from to (xs ++ ys)
silent-both from to xs ys x y = record {
  executes = adds-none (executed_at to) xs ys y.executes ∙ x.executes;
  answers = adds-none (answer_at from) xs ys y.answers ∙ x.answers;
  strays = adds-none (stray_at from) xs ys y.strays ∙ x.strays;
}

pub told-silent : (from to : Who) (first : StationState) (issued : List Issued) (executed : List (List ℕ)) (lines more : List Line) → AreSilent from to more → IsTold from to first issued executed lines → IsTold from to first issued executed (lines ++ more)
told-silent from to first issued executed lines more silent t = record {
  executes = adds-none (executed_at to) lines more silent.executes ∙ t.executes;
  answered = rw (adds-none (answer_at from) lines more silent.answers) t.answered;
  astray = rw (adds-none (stray_at from) lines more silent.strays) t.astray;
}

-- a command more is executed
answer-more : (issued : List Issued) (answered more : List (List ℕ × List ℕ)) (number : ℕ) (reply : List ℕ) → IsReplyOf issued answered number reply → IsReplyOf issued (answered ++ more) number reply
answer-more issued answered more number reply r = record { command = r.command; is_command = r.is_command; is_answer = Contains-append_left answered more (r.command.body, reply) r.is_answer }

astray-more : (issued : List Issued) (answered more : List (List ℕ × List ℕ)) (reply : List ℕ) → IsOfLost issued answered reply → IsOfLost issued (answered ++ more) reply
unfolding answer-more
astray-more issued answered more reply a = record { number = a.number; replies = answer-more issued answered more a.number reply a.replies; given_up = a.given_up }

pub told-executes : (from to : Who) (first : StationState) (issued : List Issued) (executed : List (List ℕ)) (lines more : List Line) (body : List ℕ)
    → executed_in to more ≡ body ∷ [] → answers_in from more ≡ [] → strays_in from more ≡ [] → IsTold from to first issued executed lines → IsTold from to first issued (executed ++ body ∷ []) (lines ++ more)
told-executes from to first issued executed lines more body executes answers strays t =
    let reply : List (List ℕ × List ℕ) = (body, reply_to (station_after first executed) body) ∷ [] in
    record {
      executes = adds (executed_at to) lines more (body ∷ []) executes ∙ ap (λ bodies. bodies ++ body ∷ []) t.executes;
      answered = rw (exchanges-push first executed body, adds-none (answer_at from) lines more answers) (λ k d inside. answer-more issued (exchanges first executed) reply _ _ (t.answered k d inside));
      astray = rw (exchanges-push first executed body, adds-none (stray_at from) lines more strays) (λ k d inside. astray-more issued (exchanges first executed) reply _ (t.astray k d inside));
    }

-- a reply more is accepted
pub told-answers : (from to : Who) (first : StationState) (issued : List Issued) (executed : List (List ℕ)) (lines more : List Line) (number : ℕ) (reply : List ℕ)
    → executed_in to more ≡ [] → answers_in from more ≡ (number, reply) ∷ [] → strays_in from more ≡ [] → IsReplyOf issued (exchanges first executed) number reply
    → IsTold from to first issued executed lines → IsTold from to first issued executed (lines ++ more)
told-answers from to first issued executed lines more number reply executes answers strays is t = record {
  executes = adds-none (executed_at to) lines more executes ∙ t.executes;
  answered = rw (adds (answer_at from) lines more ((number, reply) ∷ []) answers) (All-push (λ a. IsReplyOf issued (exchanges first executed) a.0 a.1) (answers_in from lines) (number, reply) t.answered is);
  astray = rw (adds-none (stray_at from) lines more strays) t.astray;
}

pub told-strays : (from to : Who) (first : StationState) (issued : List Issued) (executed : List (List ℕ)) (lines more : List Line) (reply : List ℕ)
    → executed_in to more ≡ [] → answers_in from more ≡ [] → strays_in from more ≡ reply ∷ [] → IsOfLost issued (exchanges first executed) reply
    → IsTold from to first issued executed lines → IsTold from to first issued executed (lines ++ more)
told-strays from to first issued executed lines more reply executes answers strays is t = record {
  executes = adds-none (executed_at to) lines more executes ∙ t.executes;
  answered = rw (adds-none (answer_at from) lines more answers) t.answered;
  astray = rw (adds (stray_at from) lines more (reply ∷ []) strays) (All-push (IsOfLost issued (exchanges first executed)) (strays_in from lines) reply t.astray is);
}
