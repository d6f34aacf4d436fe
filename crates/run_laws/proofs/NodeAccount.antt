-- What a node has still to wait for: the ticks of its commands that are out, and how many commands wait; and what each step changes of it.
use Rattle.std.proofs.Common.{◌≡◌, ◌∙◌, ℕ, zero, suc, ◌+◌, ◌-◌, ◌*◌, ◌<◌, ◌≤◌, Bool, true, false, cond, ◌&&◌, eqb, nat_lt, List, [], ◌∷◌, ◌++◌, length, Option, Some, None, is_some, slice_get, position, refl, sym, ap, subst, arith, add-zero}
use Rattle.std.specs.Prelude.{count_by, if◌then◌else◌}
use Rattle.std.specs.Option.{option_map, option_map_or, option_and_then, option_or}
use Rattle.std.proofs.Math.Nat.{mul-suc, mul-add, mul_comm}
use Rattle.std.proofs.lemmas.Bool.Decides.{nat_tests}
use Rattle.df1_base.specs.declared.host.Fate.{Fate}
use Rattle.df1_base.specs.declared.host.Fate.TheVariants as fate
use Rattle.pccc_envelope.specs.Envelope.{is_reply}
use Rattle.df1_node.specs.declared.handed.Handed.{Handed}
use Rattle.df1_node.specs.declared.handed.Handed.TheVariants as handed
use Rattle.df1_base.specs.HostAnswers.{host_told}
use Rattle.std.proofs.lemmas.List.{length-append}
use Rattle.std.proofs.lemmas.List.Sums.{sum_by-cons}
use Rattle.df1_node.specs.Answer.{reply_to}
use Rattle.each_once.specs.NodeHost.{node_host}
use Rattle.df1_node.specs.Initiator.{Issued, Standing, Waiting, Out, Answered, Undelivered, Unanswered, InitiatorState, is_waiting, is_out, restated, answered_place, after_reply, is_out_at, after_hand_out, next_place, next_command, body_at, is_due, count_out, count_out_of, source_of, ticked, all_ticked, next_issued}
use Rattle.df1_node.specs.Node.{NodeState, after_accept, after_next, after_told, after_tick, after_node_issue, initiator_after, next_body}
use Rattle.df1_node.proofs.Places.{count-map}
use Rattle.each_once.specs.Commands.{told_of, told_of_command}
use Rattle.each_once.proofs.CommandBodies.{answered-some, first-waiting, position-cons}
use Rattle.each_once.proofs.CommandCounts.{count-more, count-restated, one_if}

-- ---- the commands

-- of a command that is out at least one tick is left, and at most so many
abbrev pub IsWithin : ℕ → Standing → Type 0
IsWithin most Waiting = Unit {0}
IsWithin most (Out left) = (1 ≤ left) × (left ≤ most)
IsWithin most (Answered reply) = Unit {0}
IsWithin most Undelivered = Unit {0}
IsWithin most Unanswered = Unit {0}

abbrev pub AreWithin : ℕ → List Issued → Type 0
AreWithin most [] = Unit {0}
AreWithin most (c ∷ cs) = IsWithin most c.standing × AreWithin most cs

abbrev pub waits : Issued → Bool
waits c = is_waiting c.standing

abbrev pub count_waiting : List Issued → ℕ
count_waiting issued = count_by waits issued

is-within-more : (a b : ℕ) (s : Standing) → a ≤ b → IsWithin a s → IsWithin b s
is-within-more a b Waiting more h = h
is-within-more a b (Out left) more h = (h.0, (let few = h.1 in omega (arith, few, more)))
is-within-more a b (Answered reply) more h = h
is-within-more a b Undelivered more h = h
is-within-more a b Unanswered more h = h

pub within-more : (a b : ℕ) (cs : List Issued) → a ≤ b → AreWithin a cs → AreWithin b cs
within-more a b [] more h = h
within-more a b (c ∷ cs) more h = (is-within-more a b c.standing more h.0, within-more a b cs more h.1)

pub within-restated : (most : ℕ) (cs : List Issued) (p : ℕ) (s : Standing) → IsWithin most s → AreWithin most cs → AreWithin most (restated cs p s)
within-restated most [] p s this all = all
within-restated most (c ∷ cs) zero s this all = (this, all.1)
within-restated most (c ∷ cs) (suc p) s this all = (all.0, within-restated most cs p s this all.1)

within-push : (most : ℕ) (cs : List Issued) (c : Issued) → IsWithin most c.standing → AreWithin most cs → AreWithin most (cs ++ c ∷ [])
within-push most [] c this all = (this, all)
within-push most (d ∷ cs) c this all = (all.0, within-push most cs c this all.1)

is-within-ticked : (most : ℕ) (s : Standing) → IsWithin most s → IsWithin (most - 1) (ticked s)
is-within-ticked most Waiting h = h
is-within-ticked most (Out left) h = at (nat_lt 1 left) refl
  where
    at : (more : Bool) → nat_lt 1 left ≡ more → IsWithin (most - 1) (cond more (Out (left - 1)) Unanswered)
    at true is = let some : 1 < left = grind (arith, nat_tests, is) in let few = h.1 in (omega (arith, some), omega (arith, few))
    at false is = tt
is-within-ticked most (Answered reply) h = h
is-within-ticked most Undelivered h = h
is-within-ticked most Unanswered h = h

within-ticked : (most : ℕ) (cs : List Issued) → AreWithin most cs → AreWithin (most - 1) (all_ticked cs)
within-ticked most [] h = h
within-ticked most (c ∷ cs) h = (is-within-ticked most c.standing h.0, within-ticked most cs h.1)

-- ---- a step that lets no command wait or go out

-- as many commands wait, and of those that are out no more ticks are left
pub record Keeps (cs ds : List Issued) : Type 0 where
  pub waiting : count_waiting ds ≡ count_waiting cs
  pub within : (most : ℕ) → AreWithin most cs → AreWithin most ds

pub keeps-all : (cs : List Issued) → Keeps cs cs
keeps-all cs = record { waiting = refl; within = λ most h. h }

-- what became of the command is known
over-within : (most : ℕ) (s : Standing) → is_waiting s ≡ false → is_out s ≡ false → IsWithin most s
over-within most Waiting waits_not out_not = tt
over-within most (Out left) waits_not out_not = absurd cc
over-within most (Answered reply) waits_not out_not = tt
over-within most Undelivered waits_not out_not = tt
over-within most Unanswered waits_not out_not = tt

out-waits : (s : Standing) → is_out s ≡ true → is_waiting s ≡ false
out-waits Waiting is = absurd cc
out-waits (Out left) is = refl
out-waits (Answered reply) is = absurd cc
out-waits Undelivered is = absurd cc
out-waits Unanswered is = absurd cc

keeps-settled : (cs : List Issued) (p : ℕ) (c : Issued) (s : Standing) → slice_get cs p ≡ Some c → is_out c.standing ≡ true → is_waiting s ≡ false → is_out s ≡ false → Keeps cs (restated cs p s)
keeps-settled cs p c s at out waits_not out_not = record {
  waiting = (let count = count-restated waits cs p c s at in let was = ap one_if (out-waits c.standing out) in let now = ap one_if waits_not in omega (arith, count, was, now));
  within = λ most h. within-restated most cs p s (over-within most s waits_not out_not) h;
}

keeps-answered : (cs : List Issued) (body : List ℕ) (place : Option ℕ) → answered_place cs body ≡ place → Keeps cs (option_map_or (λ (p : ℕ). restated cs p (Answered body)) place cs)
keeps-answered cs body None is = keeps-all cs
keeps-answered cs body (Some p) is = let c = answered-some cs body p is in keeps-settled cs p c.0 (Answered body) c.1 c.2 refl refl

keeps-accepted : (reply : Bool) (i : InitiatorState) (body : List ℕ) → Keeps i.issued (cond reply (after_reply i body) i).issued
keeps-accepted true i body = keeps-answered i.issued body (answered_place i.issued body) refl
keeps-accepted false i body = keeps-all i.issued

pub accept-keeps : (node : NodeState) (body : List ℕ) → Keeps node.initiator.issued (after_accept node body).initiator.issued
accept-keeps node body = keeps-accepted (is_reply body) node.initiator body

out-at : (cs : List Issued) (p : ℕ) → is_out_at cs p ≡ true → (c : Issued) × (slice_get cs p ≡ Some c) × (is_out c.standing ≡ true)
out-at [] p is = absurd cc
out-at (c ∷ cs) zero is = (c, refl, is)
out-at (c ∷ cs) (suc p) is = out-at cs p is

keeps-given-up : (cs : List Issued) (p : ℕ) (out : Bool) → is_out_at cs p ≡ out → Keeps cs (cond out (restated cs p Undelivered) cs)
keeps-given-up cs p true is = let c = out-at cs p is in keeps-settled cs p c.0 Undelivered c.1 c.2 refl refl
keeps-given-up cs p false is = keeps-all cs

keeps-handed : (i : InitiatorState) (last : Handed) → Keeps i.issued (initiator_after i last).issued
keeps-handed i handed.Nothing = keeps-all i.issued
keeps-handed i handed.Reply = keeps-all i.issued
keeps-handed i (handed.Command place) = keeps-given-up i.issued place (is_out_at i.issued place) refl

pub told-keeps : (what : Fate) (node : NodeState) → Keeps node.initiator.issued (after_told node what).initiator.issued
told-keeps fate.Delivered node = keeps-all node.initiator.issued
told-keeps fate.Undelivered node = keeps-handed node.initiator node.last

ticked-waits : (s : Standing) → is_waiting (ticked s) ≡ is_waiting s
ticked-waits Waiting = refl
ticked-waits (Out left) = at (nat_lt 1 left)
  where
    at : (more : Bool) → is_waiting (cond more (Out (left - 1)) Unanswered) ≡ false
    at true = refl
    at false = refl
ticked-waits (Answered reply) = refl
ticked-waits Undelivered = refl
ticked-waits Unanswered = refl

pub tick-waiting : (node : NodeState) → count_waiting (after_tick node).initiator.issued ≡ count_waiting node.initiator.issued
tick-waiting node = count-map (λ c. record c { standing = ticked c.standing }) waits waits node.initiator.issued (λ c. ticked-waits c.standing)

pub tick-within : (node : NodeState) (most : ℕ) → AreWithin most node.initiator.issued → AreWithin (most - 1) (after_tick node).initiator.issued
tick-within node most h = within-ticked most node.initiator.issued h

-- ---- a command is issued, and a message handed out

pub issue-waiting : (node : NodeState) (src dst : ℕ) (payload : List ℕ) → count_waiting (after_node_issue node src dst payload).initiator.issued ≡ count_waiting node.initiator.issued + 1
issue-waiting node src dst payload = count-more waits node.initiator.issued (record { body = next_issued node.initiator src dst payload; standing = Waiting })

pub issue-within : (node : NodeState) (src dst : ℕ) (payload : List ℕ) (most : ℕ) → AreWithin most node.initiator.issued → AreWithin most (after_node_issue node src dst payload).initiator.issued
issue-within node src dst payload most h = within-push most node.initiator.issued (record { body = next_issued node.initiator src dst payload; standing = Waiting }) tt h

-- the oldest reply is handed out, or else a command that waits
pub data HandsOut (node : NodeState) : Type 0 where
  hands_reply : length node.replies ≡ length (after_next node).replies + 1 → (after_next node).initiator ≡ node.initiator → HandsOut node
  hands_command : (after_next node).replies ≡ node.replies → count_waiting (after_next node).initiator.issued + 1 ≡ count_waiting node.initiator.issued
      → ((most : ℕ) → AreWithin most node.initiator.issued → 1 ≤ node.initiator.reply_ticks → AreWithin (most + node.initiator.reply_ticks) (after_next node).initiator.issued) → HandsOut node

no-body : (o : Option ℕ) (cs : List Issued) → o ≡ None → option_and_then (body_at cs) o ≡ None
no-body o cs is = ap (option_and_then (body_at cs)) is

hands-at : (node : NodeState) (p : ℕ) → node.replies ≡ [] → next_place node.initiator ≡ Some p → HandsOut node
hands-at node p none is =
    let i = node.initiator in
    let c = first-waiting i p is in
    let empty = ap (λ (rs : List (List ℕ)). is_some (slice_get rs 0)) none in
    let initiator : (after_next node).initiator ≡ after_hand_out i = ap (λ (b : Bool). cond b i (after_hand_out i)) empty in
    let out : (after_hand_out i).issued ≡ restated i.issued p (Out i.reply_ticks) = ap (λ (place : Option ℕ). option_map_or (λ (q : ℕ). restated i.issued q (Out i.reply_ticks)) place i.issued) is in
    let now : (after_next node).initiator.issued ≡ restated i.issued p (Out i.reply_ticks) = ap (λ (x : InitiatorState). x.issued) initiator ∙ out in
    hands_command (rw none refl)
    (let count = count-restated waits i.issued p c.0 (Out i.reply_ticks) c.1 in let was = ap one_if c.2 in let same = ap count_waiting now in omega (arith, count, was, same))
    (λ most h some. subst (AreWithin (most + i.reply_ticks)) (sym now)
    (within-restated (most + i.reply_ticks) i.issued p (Out i.reply_ticks) (some, omega arith) (within-more most (most + i.reply_ticks) i.issued (omega arith) h)))

hands-place : (node : NodeState) (place : Option ℕ) (body : List ℕ) → node.replies ≡ [] → next_place node.initiator ≡ place → next_command node.initiator ≡ Some body → HandsOut node
hands-place node None body none is next = absurd (let no : next_command node.initiator ≡ None = no-body (next_place node.initiator) node.initiator.issued is in cc)
hands-place node (Some p) body none is next = hands-at node p none is

hands-of : (node : NodeState) (replies : List (List ℕ)) (body : List ℕ) → node.replies ≡ replies → option_or (slice_get replies 0) (next_command node.initiator) ≡ Some body → HandsOut node
hands-of node [] body is next = hands-place node (next_place node.initiator) body is refl next
hands-of node (r ∷ rs) body is next = hands_reply (rw is (omega arith)) (ap (λ (all : List (List ℕ)). cond (is_some (slice_get all 0)) node.initiator (after_hand_out node.initiator)) is)

pub hands-out : (node : NodeState) (body : List ℕ) → next_body node ≡ Some body → HandsOut node
hands-out node body next = hands-of node node.replies body refl (subst (λ (rs : List (List ℕ)). option_or (slice_get rs 0) (next_command node.initiator) ≡ Some body) refl next)

-- ---- what waits

-- so many ticks for each reply that waits, and so many for each command
abbrev pub queued : ℕ → ℕ → NodeState → ℕ
queued message command node = message * length node.replies + command * count_waiting node.initiator.issued

pub times-more : (k n m : ℕ) → n ≡ m + 1 → k * n ≡ k * m + k
times-more k n m is = ap (λ (x : ℕ). k * x) (is ∙ (let e : m + 1 ≡ suc m = omega arith in e)) ∙ mul-suc k m

pub add-times : (a b k : ℕ) → (a + b) * k ≡ a * k + b * k
add-times a b k = mul_comm (a + b) k ∙ mul-add k a b ∙ ap (λ (x : ℕ). x + k * b) (mul_comm k a) ∙ ap (λ (x : ℕ). a * k + x) (mul_comm k b)

pub no-times : (k n : ℕ) → 1 ≤ k → k * n ≡ 0 → n ≡ 0
no-times k zero some none = refl
no-times k (suc n) some none = absurd (let more = mul-suc k n in omega (arith, some, none, more))

-- ---- the settings

-- a step leaves how the initiator is set up
pub record SameSettings (i j : InitiatorState) : Type 0 where
  pub reply_ticks : j.reply_ticks ≡ i.reply_ticks
  pub window : j.window ≡ i.window
  pub per_source : j.per_source ≡ i.per_source

pub same-settings : (i : InitiatorState) → SameSettings i i
same-settings i = record { reply_ticks = refl; window = refl; per_source = refl }

settings-either : (b : Bool) (i j k : InitiatorState) → SameSettings i j → SameSettings i k → SameSettings i (cond b j k)
settings-either true i j k first second = first
settings-either false i j k first second = second

pub accept-settings : (node : NodeState) (body : List ℕ) → SameSettings node.initiator (after_accept node body).initiator
accept-settings node body = settings-either (is_reply body) node.initiator (after_reply node.initiator body) node.initiator (record { reply_ticks = refl; window = refl; per_source = refl }) (same-settings node.initiator)

handed-settings : (i : InitiatorState) (last : Handed) → SameSettings i (initiator_after i last)
handed-settings i handed.Nothing = same-settings i
handed-settings i handed.Reply = same-settings i
handed-settings i (handed.Command place) = record { reply_ticks = refl; window = refl; per_source = refl }

pub told-settings : (what : Fate) (node : NodeState) → SameSettings node.initiator (after_told node what).initiator
told-settings fate.Delivered node = same-settings node.initiator
told-settings fate.Undelivered node = handed-settings node.initiator node.last

pub next-settings : (node : NodeState) → SameSettings node.initiator (after_next node).initiator
next-settings node = settings-either (is_some (slice_get node.replies 0)) node.initiator node.initiator (after_hand_out node.initiator) (same-settings node.initiator) (record { reply_ticks = refl; window = refl; per_source = refl })

-- ---- a body is accepted, and a fate told

-- the host after a body: what it keeps, and how many replies more wait
pub record Accepts (host now : NodeState) (more : ℕ) : Type 0 where
  pub keeps : Keeps host.initiator.issued now.initiator.issued
  pub settings : SameSettings host.initiator now.initiator
  pub replies : length now.replies ≡ length host.replies + more

pub accepts-none : (host : NodeState) → Accepts host host 0
accepts-none host = record { keeps = keeps-all host.initiator.issued; settings = same-settings host.initiator; replies = sym (add-zero (length host.replies)) }

accepts-replies : (reply : Bool) (replies : List (List ℕ)) (answer : List ℕ) → length (cond reply replies (replies ++ answer ∷ [])) ≡ length replies + cond reply 0 1
accepts-replies true replies answer = sym (add-zero (length replies))
accepts-replies false replies answer = length-append replies (answer ∷ [])

pub accepts-body : (host : NodeState) (body : List ℕ) → Accepts host (after_accept host body) (cond (is_reply body) 0 1)
accepts-body host body = record { keeps = accept-keeps host body; settings = accept-settings host body; replies = accepts-replies (is_reply body) host.replies (reply_to host.station body) }

-- so many commands are in it
pub reply-count : (reply : Bool) (body : List ℕ) → length (if reply then [] else body ∷ []) ≡ cond reply 0 1
reply-count true body = refl
reply-count false body = refl

pub told-replies : (what : Option Fate) (host : NodeState) → (host_told node_host what host).replies ≡ host.replies
told-replies None host = refl
told-replies (Some fate.Delivered) host = refl
told-replies (Some fate.Undelivered) host = refl

pub fate-keeps : (what : Option Fate) (host : NodeState) → Keeps host.initiator.issued (host_told node_host what host).initiator.issued
fate-keeps None host = keeps-all host.initiator.issued
fate-keeps (Some what) host = told-keeps what host

pub fate-settings : (what : Option Fate) (host : NodeState) → SameSettings host.initiator (host_told node_host what host).initiator
fate-settings None host = same-settings host.initiator
fate-settings (Some what) host = told-settings what host

pub fate-accepts : (what : Option Fate) (host : NodeState) → Accepts host (host_told node_host what host) 0
fate-accepts what host = record { keeps = fate-keeps what host; settings = fate-settings what host; replies = ap (λ (rs : List (List ℕ)). length rs) (told-replies what host) ∙ sym (add-zero (length host.replies)) }

pub both-settings : (i j k : InitiatorState) → SameSettings i j → SameSettings j k → SameSettings i k
both-settings i j k first second = record { reply_ticks = second.reply_ticks ∙ first.reply_ticks; window = second.window ∙ first.window; per_source = second.per_source ∙ first.per_source }

pub accepts-fate : (host now : NodeState) (more : ℕ) (what : Option Fate) → Accepts host now more → Accepts host (host_told node_host what now) more
accepts-fate host now more what accepts =
    let told = fate-keeps what now in
    record {
      keeps = record { waiting = told.waiting ∙ accepts.keeps.waiting; within = λ most h. told.within most (accepts.keeps.within most h) };
      settings = both-settings host.initiator now.initiator (host_told node_host what now).initiator accepts.settings (fate-settings what now);
      replies = ap (λ (rs : List (List ℕ)). length rs) (told-replies what now) ∙ accepts.replies;
    }

-- ---- all is over

-- no command waits, and none is out
pub record IsOver (cs : List Issued) : Type 0 where
  pub none_waits : count_waiting cs ≡ 0
  pub none_out : AreWithin 0 cs

none-left : (s : Standing) → IsWithin 0 s → is_out s ≡ false
none-left Waiting h = refl
none-left (Out left) h = absurd (let some = h.0 in let few = h.1 in omega (arith, some, few))
none-left (Answered reply) h = refl
none-left Undelivered h = refl
none-left Unanswered h = refl

-- none of those that pass a test is out
none-out : (t : Issued → Bool) (cs : List Issued) → AreWithin 0 cs → count_by (λ c. is_out c.standing && t c) cs ≡ 0
none-out t [] h = refl
none-out t (c ∷ cs) h = rw (none-left c.standing h.0) (none-out t cs h.1)

none-out-at-all : (cs : List Issued) → AreWithin 0 cs → count_out cs ≡ 0
none-out-at-all [] h = refl
none-out-at-all (c ∷ cs) h = rw (none-left c.standing h.0) (none-out-at-all cs h.1)

none-found : (t : Issued → Bool) (here : Bool) (rest : Option ℕ) → cond here (Some 0) (option_map suc rest) ≡ None → (here ≡ false) × (rest ≡ None)
none-found t true rest is = absurd cc
none-found t false None is = (refl, refl)
none-found t false (Some p) is = absurd cc

-- where none that waits is found, none waits
none-waits : (t : Issued → Bool) (cs : List Issued) → ((c : Issued) → t c ≡ is_waiting c.standing) → position t cs ≡ None → count_waiting cs ≡ 0
none-waits t [] same none = refl
none-waits t (c ∷ cs) same none =
    let parts = none-found t (t c) (position t cs) (sym (position-cons t c cs) ∙ none) in
    let here : is_waiting c.standing ≡ false = sym (same c) ∙ parts.0 in
    rw here (none-waits t cs same parts.1)

no-place : (i : InitiatorState) (place : Option ℕ) → next_place i ≡ place → next_command i ≡ None → next_place i ≡ None
no-place i None is none = is
no-place i (Some p) is none =
    let c = first-waiting i p is in
    absurd (let some : next_command i ≡ Some c.0.body = ap (option_and_then (body_at i.issued)) is ∙ ap (option_map {T = Issued} (λ x. x.body)) c.1 in cc)

due-waits : (a b : Bool) → b ≡ true → (a && b) ≡ a
due-waits true b is = is
due-waits false b is = refl

pub none-next : (i : InitiatorState) → 1 ≤ i.window → 1 ≤ i.per_source → AreWithin 0 i.issued → next_command i ≡ None → IsOver i.issued
none-next i window per_source within none =
    let few : nat_lt (count_out i.issued) i.window ≡ true = rw (none-out-at-all i.issued within) (grind (arith, nat_tests, window)) in
    let free : (source : ℕ) → nat_lt (count_out_of source i.issued) i.per_source ≡ true = λ source. rw (none-out (λ c. eqb (source_of c) source) i.issued within) (grind (arith, nat_tests, per_source)) in
    let found : position (is_due i) i.issued ≡ None = ap (λ (b : Bool). cond b (position (is_due i) i.issued) None) (sym few) ∙ no-place i (next_place i) refl none in
    record { none_waits = none-waits (is_due i) i.issued (λ c. due-waits (is_waiting c.standing) _ (free (source_of c))) found; none_out = within }

pub no-replies : (node : NodeState) → next_body node ≡ None → length node.replies ≡ 0
no-replies node none = at node.replies (next_command node.initiator) none
  where
    at : (rs : List (List ℕ)) (b : Option (List ℕ)) → option_or (slice_get rs 0) b ≡ None → length rs ≡ 0
    at [] b is = refl
    at (r ∷ rs) b is = absurd cc

pub none-to-hand-out : (node : NodeState) → 1 ≤ node.initiator.window → 1 ≤ node.initiator.per_source → AreWithin 0 node.initiator.issued → next_body node ≡ None → IsOver node.initiator.issued
none-to-hand-out node window per_source within none = none-next node.initiator window per_source within (second (slice_get node.replies 0) (next_command node.initiator) none)
  where
    second : (a b : Option (List ℕ)) → option_or a b ≡ None → b ≡ None
    second None b is = is
    second (Some x) b is = absurd cc

pub tick-over : (node : NodeState) → IsOver node.initiator.issued → IsOver (after_tick node).initiator.issued
tick-over node over = record { none_waits = tick-waiting node ∙ over.none_waits; none_out = tick-within node 0 over.none_out }

pub handed-over : (host : NodeState) → HandsOut host → IsOver host.initiator.issued → IsOver (after_next host).initiator.issued
handed-over host (hands_reply one same) over = subst (λ (i : InitiatorState). IsOver i.issued) (sym same) over
handed-over host (hands_command same one within) over = absurd (let none = over.none_waits in omega (arith, one, none))

pub keeps-over : (cs ds : List Issued) → Keeps cs ds → IsOver cs → IsOver ds
keeps-over cs ds k over = record { none_waits = k.waiting ∙ over.none_waits; none_out = k.within 0 over.none_out }

-- ---- the outcomes that are known

known : (s : Standing) → is_waiting s ≡ false → is_out s ≡ false → told_of s ≡ [] → ⊥
known Waiting waits_not out_not is = absurd cc
known (Out left) waits_not out_not is = absurd cc
known (Answered reply) waits_not out_not is = cc
known Undelivered waits_not out_not is = cc
known Unanswered waits_not out_not is = cc

count-cons : (c : Issued) (cs : List Issued) → count_waiting (c ∷ cs) ≡ one_if (is_waiting c.standing) + count_waiting cs
count-cons c cs = sum_by-cons (λ (x : Issued). cond (waits x) 1 0) c cs

no-one : (here : Bool) (rest : ℕ) → one_if here + rest ≡ 0 → (here ≡ false) × (rest ≡ 0)
no-one true rest is = absurd (omega (arith, is))
no-one false rest is = (refl, omega (arith, is))

pub known-at : (cs : List Issued) (k : ℕ) → IsOver cs → k < length cs → told_of_command (slice_get cs k) ≡ [] → ⊥
known-at [] k over within none = omega (arith, within)
known-at (c ∷ cs) zero over within none = known c.standing (no-one (is_waiting c.standing) (count_waiting cs) (sym (count-cons c cs) ∙ over.none_waits)).0 (none-left c.standing over.none_out.0) none
known-at (c ∷ cs) (suc k) over within none =
    known-at cs k (record { none_waits = (no-one (is_waiting c.standing) (count_waiting cs) (sym (count-cons c cs) ∙ over.none_waits)).1; none_out = over.none_out.1 }) (omega (arith, within)) none
