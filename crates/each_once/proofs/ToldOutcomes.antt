-- That the lines of a report tell of each command how it ended, once, and that each step of a node keeps it.
use Rattle.std.proofs.Common.{◌≡◌, ◌∙◌, ◌⊎◌, ℕ, zero, suc, ◌+◌, ◌-◌, ◌<◌, Bool, true, false, cond, eqb, List, [], ◌∷◌, ◌++◌, Option, Some, None, is_some, slice_get, refl, ap, sym, subst, inl, inr, arith, append-nil, add-zero}
use Rattle.std.specs.Prelude.{nat_lt}
use Rattle.std.specs.Option.{option_map, option_map_or}
use Rattle.std.proofs.Math.Numerals.{suc-eq-add-one}
use Rattle.std.proofs.lemmas.Bool.{eq-eqb}
use Rattle.std.proofs.lemmas.Bool.Decides.{nat_tests}
use Rattle.std.proofs.lemmas.List.Elements.{filter_map-append}
use Rattle.df1_base.specs.declared.host.Did.TheVariants as did
use Rattle.df1_base.specs.declared.host.News.TheVariants as news
use Rattle.df1_base.specs.declared.host.Fate.{Fate}
use Rattle.df1_base.specs.declared.host.Fate.TheVariants as fate
use Rattle.pccc_envelope.specs.Envelope.{is_reply}
use Rattle.df1_node.specs.declared.handed.Handed.{Handed}
use Rattle.df1_node.specs.declared.handed.Handed.TheVariants as handed
use Rattle.df1_node.specs.Initiator.{Issued, Standing, Waiting, Out, Answered, Undelivered, Unanswered, InitiatorState, is_waiting, is_out, restated, answered_place, after_reply, is_out_at, after_hand_out, next_place, ticked, is_last_tick, unanswered_from}
use Rattle.df1_node.specs.Node.{NodeState, did_accept, after_accept, after_next, news_of, news_told, after_told, after_tick, gone_unanswered, initiator_after}
use Rattle.df1_node.proofs.Final.{get-restated, get-map}
use Rattle.script_statement.specs.declared.who.Who.{Who}
use Rattle.replay_report.specs.declared.record.Line.{Line}
use Rattle.replay_report.specs.declared.record.Line.TheVariants as line
use Rattle.each_once.specs.Commands.{told_of, told_of_command, AreOutcomesTold}
use Rattle.report_lines.specs.NodeLines.{did_lines, news_lines, gone_lines}
use Rattle.each_once.specs.Tells.{is_who, outcome_at, outcomes_in}
use Rattle.each_once.proofs.CommandBodies.{answered-some, first-waiting}

-- ---- numbers

pub same-or-other : (k p : ℕ) → (k ≡ p) ⊎ (k ≡ p → ⊥)
same-or-other zero zero = inl refl
same-or-other zero (suc p) = inr (λ e. omega (arith, e))
same-or-other (suc k) zero = inr (λ e. omega (arith, e))
same-or-other (suc k) (suc p) = elim (same-or-other k p) [ inl e ↦ inl (ap suc e) | inr apart ↦ inr (λ e. apart (omega (arith, e))) ]

other-number : (number n : ℕ) → (number ≡ n → ⊥) → eqb number n ≡ false
other-number number n apart = grind (arith, nat_tests, apart)

-- ---- more lines

-- lines that tell no outcome of the end's commands
abbrev pub TellNone : Who → List Line → Type 0
TellNone who more = (n : ℕ) → outcomes_in who n more ≡ []

-- lines that tell this outcome of the command at this place, and no other
pub record TellOne (who : Who) (place : ℕ) (outcome : Standing) (more : List Line) : Type 0 where
  pub this : outcomes_in who (suc place) more ≡ told_of outcome
  pub others : (n : ℕ) → (suc place ≡ n → ⊥) → outcomes_in who n more ≡ []

outcomes-append : (who : Who) (n : ℕ) (lines more : List Line) → outcomes_in who n (lines ++ more) ≡ outcomes_in who n lines ++ outcomes_in who n more
outcomes-append who n lines more = filter_map-append (outcome_at who n) lines more

pub none-both : (who : Who) (more later : List Line) → TellNone who more → TellNone who later → TellNone who (more ++ later)
none-both who more later first second n = outcomes-append who n more later ∙ ap (λ (os : List Standing). os ++ outcomes_in who n later) (first n) ∙ second n

pub outcomes-start : (who : Who) → AreOutcomesTold who [] []
outcomes-start who zero = refl
outcomes-start who (suc k) = refl

pub outcomes-silent : (who : Who) (issued : List Issued) (lines more : List Line) → TellNone who more → AreOutcomesTold who issued lines → AreOutcomesTold who issued (lines ++ more)
outcomes-silent who issued lines more none told n =
    outcomes-append who n lines more ∙ ap (λ (os : List Standing). outcomes_in who n lines ++ os) (none n) ∙ append-nil (outcomes_in who n lines) ∙ told n

-- ---- a command more, and one that stands otherwise

told-push : (issued : List Issued) (new : Issued) (k : ℕ) → told_of new.standing ≡ [] → told_of_command (slice_get (issued ++ new ∷ []) k) ≡ told_of_command (slice_get issued k)
told-push [] new zero untold = untold
told-push [] new (suc k) untold = refl
told-push (c ∷ cs) new zero untold = refl
told-push (c ∷ cs) new (suc k) untold = told-push cs new k untold

pub outcomes-issue : (who : Who) (issued : List Issued) (new : Issued) (lines : List Line) → told_of new.standing ≡ [] → AreOutcomesTold who issued lines → AreOutcomesTold who (issued ++ new ∷ []) lines
outcomes-issue who issued new lines untold told zero = told zero
outcomes-issue who issued new lines untold told (suc k) = told (suc k) ∙ sym (told-push issued new k untold)

restated-here : (cs : List Issued) (p : ℕ) (c : Issued) (standing : Standing) → slice_get cs p ≡ Some c → told_of_command (slice_get (restated cs p standing) p) ≡ told_of standing
restated-here [] p c standing is = absurd cc
restated-here (x ∷ cs) zero c standing is = refl
restated-here (x ∷ cs) (suc p) c standing is = restated-here cs p c standing is

outcomes-restated : (who : Who) (issued : List Issued) (p : ℕ) (c : Issued) (standing : Standing) (lines more : List Line) → slice_get issued p ≡ Some c → told_of c.standing ≡ [] → TellOne who p standing more
    → AreOutcomesTold who issued lines → AreOutcomesTold who (restated issued p standing) (lines ++ more)
outcomes-restated who issued p c standing lines more is untold one told zero =
    outcomes-append who zero lines more ∙ ap (λ (os : List Standing). outcomes_in who zero lines ++ os) (one.others zero (λ e. omega (arith, e))) ∙ append-nil (outcomes_in who zero lines) ∙ told zero
outcomes-restated who issued p c standing lines more is untold one told (suc k) =
    outcomes-append who (suc k) lines more ∙ ap (λ (os : List Standing). os ++ outcomes_in who (suc k) more) (told (suc k)) ∙ at (same-or-other k p)
  where
    at : (k ≡ p) ⊎ (k ≡ p → ⊥) → told_of_command (slice_get issued k) ++ outcomes_in who (suc k) more ≡ told_of_command (slice_get (restated issued p standing) k)
    at (inl same) =
        subst (λ (m : ℕ). told_of_command (slice_get issued m) ++ outcomes_in who (suc m) more ≡ told_of_command (slice_get (restated issued p standing) m)) (sym same)
        (ap (λ (o : Option Issued). told_of_command o ++ outcomes_in who (suc p) more) is ∙ ap (λ (os : List Standing). os ++ outcomes_in who (suc p) more) untold ∙ one.this ∙ sym (restated-here issued p c standing is))
    at (inr apart) =
        ap (λ (os : List Standing). told_of_command (slice_get issued k) ++ os) (one.others (suc k) (λ e. apart (omega (arith, e))))
        ∙ append-nil (told_of_command (slice_get issued k))
        ∙ ap told_of_command (sym (get-restated issued p k standing (λ e. apart (sym e))))

out-untold : (standing : Standing) → is_out standing ≡ true → told_of standing ≡ []
out-untold Waiting is = refl
out-untold (Out left) is = refl
out-untold (Answered reply) is = absurd cc
out-untold Undelivered is = absurd cc
out-untold Unanswered is = absurd cc

waiting-untold : (standing : Standing) → is_waiting standing ≡ true → told_of standing ≡ []
waiting-untold Waiting is = refl
waiting-untold (Out left) is = refl
waiting-untold (Answered reply) is = absurd cc
waiting-untold Undelivered is = absurd cc
waiting-untold Unanswered is = absurd cc

-- ---- a line of one command

number-this : (place : ℕ) → eqb (place + 1) (suc place) ≡ true
number-this place = eq-eqb (place + 1) (suc place) (sym (suc-eq-add-one place))

number-other : (place n : ℕ) → (suc place ≡ n → ⊥) → eqb (place + 1) n ≡ false
number-other place n apart = other-number (place + 1) n (λ e. apart (suc-eq-add-one place ∙ e))

one-answered : (who : Who) → is_who who who ≡ true → (place : ℕ) (reply : List ℕ) → TellOne who place (Answered reply) (line.Answered who (place + 1) reply ∷ [])
one-answered who itself place reply = record { this = rw (itself, number-this place) refl; others = λ n apart. rw (itself, number-other place n apart) refl }

one-undelivered : (who : Who) → is_who who who ≡ true → (place : ℕ) → TellOne who place Undelivered (line.Undelivered who (place + 1) ∷ [])
one-undelivered who itself place = record { this = rw (itself, number-this place) refl; others = λ n apart. rw (itself, number-other place n apart) refl }

-- ---- a message is accepted

pub outcomes-did : (who : Who) → is_who who who ≡ true → (issued : List Issued) (body : List ℕ) (place : Option ℕ) (lines : List Line) → answered_place issued body ≡ place → AreOutcomesTold who issued lines
    → AreOutcomesTold who (option_map_or (λ (p : ℕ). restated issued p (Answered body)) place issued) (lines ++ did_lines who (Some (option_map_or (λ (p : ℕ). did.Answered (p + 1)) place did.Stray)) body)
outcomes-did who itself issued body None lines is told = outcomes-silent who issued lines (line.Stray who body ∷ []) (λ n. refl) told
outcomes-did who itself issued body (Some place) lines is told =
    let out = answered-some issued body place is in
    outcomes-restated who issued place out.0 (Answered body) lines (line.Answered who (place + 1) body ∷ []) out.1 (out-untold out.0.standing out.2) (one-answered who itself place body) told

outcomes-accepted : (who : Who) → is_who who who ≡ true → (reply : Bool) (node : NodeState) (body : List ℕ) (lines : List Line) → AreOutcomesTold who node.initiator.issued lines
    → AreOutcomesTold who (cond reply (after_reply node.initiator body) node.initiator).issued
    (lines ++ did_lines who (Some (cond reply (option_map_or (λ (p : ℕ). did.Answered (p + 1)) (answered_place node.initiator.issued body) did.Stray) did.Executed)) body)
outcomes-accepted who itself true node body lines told = outcomes-did who itself node.initiator.issued body (answered_place node.initiator.issued body) lines refl told
outcomes-accepted who itself false node body lines told = outcomes-silent who node.initiator.issued lines (line.Exec who body ∷ []) (λ n. refl) told

pub outcomes-accept : (who : Who) → is_who who who ≡ true → (node : NodeState) (body : List ℕ) (lines : List Line) → AreOutcomesTold who node.initiator.issued lines
    → AreOutcomesTold who (after_accept node body).initiator.issued (lines ++ did_lines who (Some (did_accept node body)) body)
outcomes-accept who itself node body lines told = outcomes-accepted who itself (is_reply body) node body lines told

-- ---- a fate is told

out-at : (issued : List Issued) (place : ℕ) → is_out_at issued place ≡ true → (c : Issued) × (slice_get issued place ≡ Some c) × (is_out c.standing ≡ true)
out-at [] place is = absurd cc
out-at (c ∷ cs) zero is = (c, refl, is)
out-at (c ∷ cs) (suc place) is = out-at cs place is

outcomes-given-up : (who : Who) → is_who who who ≡ true → (out : Bool) (issued : List Issued) (place : ℕ) (lines : List Line) → is_out_at issued place ≡ out → AreOutcomesTold who issued lines
    → AreOutcomesTold who (cond out (restated issued place Undelivered) issued) (lines ++ news_lines who (cond out (news.Undelivered (place + 1)) news.Nothing))
outcomes-given-up who itself true issued place lines is told =
    let out = out-at issued place is in
    outcomes-restated who issued place out.0 Undelivered lines (line.Undelivered who (place + 1) ∷ []) out.1 (out-untold out.0.standing out.2) (one-undelivered who itself place) told
outcomes-given-up who itself false issued place lines is told = outcomes-silent who issued lines [] (λ n. refl) told

outcomes-handed : (who : Who) → is_who who who ≡ true → (initiator : InitiatorState) (last : Handed) (lines : List Line) → AreOutcomesTold who initiator.issued lines
    → AreOutcomesTold who (initiator_after initiator last).issued (lines ++ news_lines who (news_of initiator last))
outcomes-handed who itself initiator handed.Nothing lines told = outcomes-silent who initiator.issued lines [] (λ n. refl) told
outcomes-handed who itself initiator handed.Reply lines told = outcomes-silent who initiator.issued lines (line.Dropped who ∷ []) (λ n. refl) told
outcomes-handed who itself initiator (handed.Command place) lines told = outcomes-given-up who itself (is_out_at initiator.issued place) initiator.issued place lines refl told

pub outcomes-told : (who : Who) → is_who who who ≡ true → (what : Fate) (node : NodeState) (lines : List Line) → AreOutcomesTold who node.initiator.issued lines
    → AreOutcomesTold who (after_told node what).initiator.issued (lines ++ news_lines who (news_told node what))
outcomes-told who itself fate.Delivered node lines told = outcomes-silent who node.initiator.issued lines [] (λ n. refl) told
outcomes-told who itself fate.Undelivered node lines told = outcomes-handed who itself node.initiator node.last lines told

-- ---- a command is handed out

pub outcomes-out : (who : Who) (issued : List Issued) (left : ℕ) (place : Option ℕ) (lines : List Line) → ((p : ℕ) → place ≡ Some p → (c : Issued) × (slice_get issued p ≡ Some c) × (is_waiting c.standing ≡ true)) → AreOutcomesTold who issued lines
    → AreOutcomesTold who (option_map_or (λ (p : ℕ). restated issued p (Out left)) place issued) lines
outcomes-out who issued left None lines waits told = told
outcomes-out who issued left (Some p) lines waits told =
    let c = waits p refl in
    subst (λ (all : List Line). AreOutcomesTold who (restated issued p (Out left)) all) (append-nil lines)
    (outcomes-restated who issued p c.0 (Out left) lines [] c.1 (waiting-untold c.0.standing c.2) (record { this = refl; others = λ n apart. refl }) told)

outcomes-next-at : (who : Who) (reply : Bool) (initiator : InitiatorState) (lines : List Line) → AreOutcomesTold who initiator.issued lines → AreOutcomesTold who (cond reply initiator (after_hand_out initiator)).issued lines
outcomes-next-at who true initiator lines told = told
outcomes-next-at who false initiator lines told = outcomes-out who initiator.issued initiator.reply_ticks (next_place initiator) lines (first-waiting initiator) told

pub outcomes-next : (who : Who) (node : NodeState) (lines : List Line) → AreOutcomesTold who node.initiator.issued lines → AreOutcomesTold who (after_next node).initiator.issued lines
outcomes-next who node lines told = outcomes-next-at who (is_some (slice_get node.replies 0)) node.initiator lines told

-- ---- a tick

abbrev lost : Bool → List Standing
lost last = cond last (Unanswered ∷ []) []

abbrev lost_of : Option Issued → List Standing
lost_of None = []
lost_of (Some c) = lost (is_last_tick c.standing)

-- the lines from a number on, by whether the first command is lost
abbrev gone_with : Who → Bool → ℕ → List Issued → List Line
gone_with who last m cs = gone_lines who (cond last (m ∷ unanswered_from (m + 1) cs) (unanswered_from (m + 1) cs))

past-other : (who : Who) → is_who who who ≡ true → (n m : ℕ) (cs : List Issued) (last : Bool) (os : List Standing) → (m ≡ n → ⊥) → outcomes_in who n (gone_lines who (unanswered_from (m + 1) cs)) ≡ os → outcomes_in who n (gone_with who last m cs) ≡ os
past-other who itself n m cs true os apart rest = rw (itself, other-number m n apart) rest
past-other who itself n m cs false os apart rest = rest

gone-here : (who : Who) → is_who who who ≡ true → (n m : ℕ) (cs : List Issued) (last : Bool) → m ≡ n → outcomes_in who n (gone_lines who (unanswered_from (m + 1) cs)) ≡ [] → outcomes_in who n (gone_with who last m cs) ≡ lost last
gone-here who itself n m cs true same rest = rw (itself, eq-eqb m n same) (ap (λ (os : List Standing). Unanswered ∷ os) rest)
gone-here who itself n m cs false same rest = rest

gone-before : (who : Who) → is_who who who ≡ true → (n m : ℕ) (issued : List Issued) → n < m → outcomes_in who n (gone_lines who (unanswered_from m issued)) ≡ []
gone-before who itself n m [] before = refl
gone-before who itself n m (c ∷ cs) before = past-other who itself n m cs (is_last_tick c.standing) [] (λ e. omega (arith, e, before)) (gone-before who itself n (m + 1) cs (omega (arith, before)))

gone-at : (who : Who) → is_who who who ≡ true → (m k : ℕ) (issued : List Issued) → outcomes_in who (m + k) (gone_lines who (unanswered_from m issued)) ≡ lost_of (slice_get issued k)
gone-at who itself m k [] = refl
gone-at who itself m zero (c ∷ cs) = gone-here who itself (m + 0) m cs (is_last_tick c.standing) (sym (add-zero m)) (gone-before who itself (m + 0) (m + 1) cs (omega arith))
gone-at who itself m (suc k) (c ∷ cs) =
    let shift : m + 1 + k ≡ m + suc k = omega arith in
    past-other who itself (m + suc k) m cs (is_last_tick c.standing) (lost_of (slice_get cs k)) (λ e. omega (arith, e))
    (subst (λ (n : ℕ). outcomes_in who n (gone_lines who (unanswered_from (m + 1) cs)) ≡ lost_of (slice_get cs k)) shift (gone-at who itself (m + 1) k cs))

told-ticked : (standing : Standing) → told_of (ticked standing) ≡ told_of standing ++ lost (is_last_tick standing)
told-ticked Waiting = refl
told-ticked (Out left) = at (nat_lt 1 left)
  where
    at : (more : Bool) → told_of (cond more (Out (left - 1)) Unanswered) ≡ lost (cond more false true)
    at true = refl
    at false = refl
told-ticked (Answered reply) = refl
told-ticked Undelivered = refl
told-ticked Unanswered = refl

told-ticked-command : (o : Option Issued) → told_of_command (option_map {U = Issued} (λ c. record c { standing = ticked c.standing }) o) ≡ told_of_command o ++ lost_of o
told-ticked-command None = refl
told-ticked-command (Some c) = told-ticked c.standing

pub outcomes-tick : (who : Who) → is_who who who ≡ true → (node : NodeState) (lines : List Line) → AreOutcomesTold who node.initiator.issued lines
    → AreOutcomesTold who (after_tick node).initiator.issued (lines ++ gone_lines who (gone_unanswered node))
outcomes-tick who itself node lines told zero =
    outcomes-append who zero lines (gone_lines who (gone_unanswered node))
    ∙ ap (λ (os : List Standing). outcomes_in who zero lines ++ os) (gone-before who itself zero 1 node.initiator.issued (omega arith))
    ∙ append-nil (outcomes_in who zero lines) ∙ told zero
outcomes-tick who itself node lines told (suc k) =
    let issued = node.initiator.issued in
    let number : 1 + k ≡ suc k = omega arith in
    let gone : outcomes_in who (suc k) (gone_lines who (gone_unanswered node)) ≡ lost_of (slice_get issued k) =
    subst (λ (n : ℕ). outcomes_in who n (gone_lines who (gone_unanswered node)) ≡ lost_of (slice_get issued k)) number (gone-at who itself 1 k issued) in
    outcomes-append who (suc k) lines (gone_lines who (gone_unanswered node))
    ∙ ap (λ (os : List Standing). os ++ outcomes_in who (suc k) (gone_lines who (gone_unanswered node))) (told (suc k))
    ∙ ap (λ (os : List Standing). told_of_command (slice_get issued k) ++ os) gone
    ∙ sym (told-ticked-command (slice_get issued k))
    ∙ ap told_of_command (sym (get-map (λ (c : Issued). record c { standing = ticked c.standing }) issued k))
