-- The laws of a host, of nodes: a fate is told once, nothing waits after a clearing, what is unanswered rises, and what is handed out is a body.
use Rattle.std.proofs.Common.{◌≡◌, ℕ, suc, zero, ◌+◌, ◌<◌, ◌≤◌, Bool, true, false, ◌&&◌, cond, List, [], ◌∷◌, ◌++◌, length, drop, find, position, slice_get, slice_index, Option, Some, None, IsSome, IfSome, is_some, refl, sym, ap, subst, ◌∙◌, arith, length-append, length-drop}
use Rattle.std.specs.Prelude.{nat_lt, not, IsTrue, Result, Ok, Err, if◌then◌else◌}
use Rattle.std.specs.Option.{option_and_then, option_map, option_map_or, option_or}
use Rattle.std.specs.List.{All, prefix_len}
use Rattle.std.proofs.lemmas.Bool.Decides.{nat_tests}
use Rattle.std.specs.List.Sorted.{IsStrictlyIncreasing}
use Rattle.std.proofs.lemmas.List.Elements.{All-nil, All-cons, All-head, All-tail, All-push, All-drop, All-map}
use Rattle.df1_base.specs.declared.code.Code.{Code}
use Rattle.df1_base.specs.declared.code.Code.TheVariants.{Done, Sts, Ext}
use Rattle.df1_base.specs.declared.host.Fate.{Fate}
use Rattle.df1_base.specs.declared.host.Fate.TheVariants as fate
use Rattle.df1_base.specs.declared.host.News.TheVariants as news
use Rattle.df1_base.specs.Host.{IsBody}
use Rattle.pccc_envelope.specs.Envelope.{is_reply, spelling, reply_form, envelope_of}
use Rattle.df1_node.specs.declared.handed.Handed.{Handed}
use Rattle.df1_node.specs.declared.handed.Handed.TheVariants as handed
use Rattle.data_files.specs.Effect.{Effect, FitsReply, is_refusal, refused}
use Rattle.data_files.specs.Tables.{DataTables}
use Rattle.slc_commands.specs.Meaning.{meaning as slc_meaning}
use Rattle.slc_commands.specs.Order as slc
use Rattle.slc_commands.proofs.Replies.{reply-fits as slc-fits}
use Rattle.plc_commands.specs.Meaning.{meaning as plc_meaning}
use Rattle.plc_commands.specs.Order as plc
use Rattle.plc_commands.specs.Reading.{order_of as plc_order_of}
use Rattle.plc_commands.proofs.Replies.{IfShortEcho, echo-fits, reply-fits as plc-fits}
use Rattle.df1_node.specs.Answer.{StationState, logical_order, asked_by, asked_of, effect_of, slc_effect, slc_writes, plc_writes, plc_denial, is_locked, extension_of, status_of, done, after_answer, reply_to}
use Rattle.df1_node.specs.Initiator.{InitiatorState, Standing, Waiting, Out, Answered, Undelivered, Unanswered, Issued, is_waiting, is_last_tick, cleared, restated, source_of, count_out, count_out_of, is_due, next_place, body_at, next_command, answered_place, is_out_at, after_reply, after_hand_out, ticked, unanswered_from, all_cleared}
use Rattle.df1_node.specs.Node.{NodeState, after_accept, next_body, after_next, is_handed, is_out as awaits, gone_unanswered, news_told, initiator_after, after_told, after_tick, after_clear, holds_bodies, has_room}

-- ---- the first place that passes

shifted : (b : Bool) (n : ℕ) → option_map suc (cond b (Some n) None) ≡ cond b (Some (suc n)) None
shifted true n = refl
shifted false n = refl

first_below : (n : ℕ) → nat_lt 0 (suc n) ≡ true
first_below n = grind (arith, nat_tests)

below_more : (m n : ℕ) → nat_lt (1 + m) (suc n) ≡ nat_lt m n
below_more m n = grind (arith, nat_tests)

more_is_suc : (m : ℕ) → 1 + m ≡ suc m
more_is_suc m = omega arith

pub position-cons : {X : Type 0} (t : X → Bool) (c : X) (cs : List X) → position t (c ∷ cs) ≡ cond (t c) (Some 0) (option_map suc (position t cs))
position-cons t c cs =
    elim (t c) as (λ b. cond (nat_lt (cond (not b) (1 + prefix_len (λ x. not (t x)) cs) 0) (suc (length cs))) (Some (cond (not b) (1 + prefix_len (λ x. not (t x)) cs) 0)) None ≡ cond b (Some 0) (option_map suc (position t cs))) [
      | true ↦ ap (λ (b : Bool). cond {A = Option ℕ} b (Some 0) None) (first_below (length cs))
      | false ↦
          ap (λ (b : Bool). cond {A = Option ℕ} b (Some (1 + prefix_len (λ x. not (t x)) cs)) None) (below_more (prefix_len (λ x. not (t x)) cs) (length cs))
          ∙ ap (λ m. cond (nat_lt (prefix_len (λ x. not (t x)) cs) (length cs)) (Some m) None) (more_is_suc (prefix_len (λ x. not (t x)) cs))
          ∙ sym (shifted (nat_lt (prefix_len (λ x. not (t x)) cs) (length cs)) (prefix_len (λ x. not (t x)) cs))
    ]

-- ---- what waits is found by its place and as itself

some-map : (o : Option ℕ) → is_some (option_map suc o) ≡ is_some o
some-map None = refl
some-map (Some n) = refl

some-body : (o : Option Issued) → is_some (option_map (λ (c : Issued). c.body) o) ≡ is_some o
some-body None = refl
some-body (Some c) = refl

found-either : (b : Bool) (c : Issued) (n : Option ℕ) (rest : Option Issued) → is_some n ≡ is_some rest → is_some (cond b (Some 0) (option_map suc n)) ≡ is_some (cond b (Some c) rest)
found-either true c n rest e = refl
found-either false c n rest e = some-map n ∙ e

found-both : (t : Issued → Bool) (cs : List Issued) → is_some (position t cs) ≡ is_some (find t cs)
found-both t [] = refl
found-both t (c ∷ cs) = ap is_some (position-cons t c cs) ∙ found-either (t c) c (position t cs) (find t cs) (found-both t cs)

at-either : (b : Bool) (c : Issued) (cs : List Issued) (place : Option ℕ) (rest : Option Issued) → option_and_then (body_at cs) place ≡ option_map (λ (i : Issued). i.body) rest
    → option_and_then (body_at (c ∷ cs)) (cond b (Some 0) (option_map suc place)) ≡ option_map (λ (i : Issued). i.body) (cond b (Some c) rest)
at-either true c cs place rest e = refl
at-either false c cs None rest e = e
at-either false c cs (Some n) rest e = e

at-found : (t : Issued → Bool) (cs : List Issued) → option_and_then (body_at cs) (position t cs) ≡ option_map (λ (i : Issued). i.body) (find t cs)
at-found t [] = refl
at-found t (c ∷ cs) = ap (option_and_then (body_at (c ∷ cs))) (position-cons t c cs) ∙ at-either (t c) c cs (position t cs) (find t cs) (at-found t cs)

at-room : (room : Bool) (cs : List Issued) (place : Option ℕ) (body : Option (List ℕ)) → option_and_then (body_at cs) place ≡ body → option_and_then (body_at cs) (cond room place None) ≡ cond room body None
at-room true cs place body e = e
at-room false cs place body e = refl

-- the body of the command to be handed out is that of the first command that is due, where fewer are out than may be
pub command-found : (s : InitiatorState) → next_command s ≡ cond (nat_lt (count_out s.issued) s.window) (option_map (λ (i : Issued). i.body) (find (is_due s) s.issued)) None
command-found s = at-room (nat_lt (count_out s.issued) s.window) s.issued (position (is_due s) s.issued) _ (at-found (is_due s) s.issued)

next-either : (room : Bool) (place : Option ℕ) (c : Option Issued) → is_some place ≡ is_some c → is_some (cond room place None) ≡ is_some (cond room (option_map (λ (i : Issued). i.body) c) None)
next-either true place c e = e ∙ sym (some-body c)
next-either false place c e = refl

-- there is a place to hand out from exactly where there is a command to hand out
pub place-command : (s : InitiatorState) → is_some (next_place s) ≡ is_some (next_command s)
place-command s = next-either (nat_lt (count_out s.issued) s.window) (position (is_due s) s.issued) (find (is_due s) s.issued) (found-both (is_due s) s.issued) ∙ sym (ap is_some (command-found s))

pub is_some-none : {A : Type 0} (o : Option A) → is_some o ≡ false → o ≡ None
is_some-none None e = refl
is_some-none (Some x) e = cc

-- ---- hand-outs and fates

-- where no command is handed out, the initiator stays
pub hands_nothing : (s : InitiatorState) → next_place s ≡ None → s ≡ after_hand_out s
hands_nothing s e = ap (λ o. record s { issued = option_map_or (λ place. restated s.issued place (Out s.reply_ticks)) o s.issued }) (sym e)

none-parts : (room : ℕ) (station : StationState) (replies : List (List ℕ)) (initiator : InitiatorState) (last : Handed)
    → let node : NodeState = record { room = room; station = station; replies = replies; initiator = initiator; last = last } in next_body node ≡ None → after_next node ≡ node
none-parts room station [] initiator last e =
    let none : next_place initiator ≡ None = is_some-none (next_place initiator) (place-command initiator ∙ ap is_some e) in
    let from : InitiatorState → Handed → NodeState = λ i l. record { room = room; station = station; replies = []; initiator = i; last = l } in
    ap (λ (place : Option ℕ). from (after_hand_out initiator) (option_map_or handed.Command place last)) none ∙ ap (λ (i : InitiatorState). from i last) (sym (hands_nothing initiator none))
none-parts room station (reply ∷ replies) initiator last e = absurd cc

pub none_changes : (node : NodeState) → next_body node ≡ None → after_next node ≡ node
none_changes node e = none-parts node.room node.station node.replies node.initiator node.last e

place-hands : (place : Option ℕ) (last : Handed) → is_some place ≡ true → is_handed (option_map_or handed.Command place last) ≡ true
place-hands None last e = cc
place-hands (Some n) last e = refl

hands-parts : (replies : List (List ℕ)) (initiator : InitiatorState) (last : Handed) → IsSome (option_or (slice_get replies 0) (next_command initiator))
    → is_handed (cond (is_some (slice_get replies 0)) handed.Reply (option_map_or handed.Command (next_place initiator) last)) ≡ true
hands-parts [] initiator last some = place-hands (next_place initiator) last (place-command initiator ∙ some)
hands-parts (reply ∷ replies) initiator last some = refl

pub next_hands : (node : NodeState) → IsSome (next_body node) → awaits (after_next node) ≡ true
next_hands node some = hands-parts node.replies node.initiator node.last some

nothing-parts : (room : ℕ) (station : StationState) (replies : List (List ℕ)) (initiator : InitiatorState) (last : Handed) (told : Fate)
    → let node : NodeState = record { room = room; station = station; replies = replies; initiator = initiator; last = last } in is_handed last ≡ false → (news_told node told ≡ news.Nothing) × (after_told node told ≡ node)
nothing-parts room station replies initiator handed.Nothing fate.Delivered e = (refl, refl)
nothing-parts room station replies initiator handed.Nothing fate.Undelivered e = (refl, refl)
nothing-parts room station replies initiator handed.Reply told e = absurd cc
nothing-parts room station replies initiator (handed.Command place) told e = absurd cc

pub told_nothing : (node : NodeState) (told : Fate) → awaits node ≡ false → (news_told node told ≡ news.Nothing) × (after_told node told ≡ node)
told_nothing node told e = nothing-parts node.room node.station node.replies node.initiator node.last told e

pub fate_told : (node : NodeState) (told : Fate) → awaits (after_told node told) ≡ false
fate_told node fate.Delivered = refl
fate_told node fate.Undelivered = refl

-- ---- what is unanswered rises

above-either : (b : Bool) (n : ℕ) (rest : List ℕ) → (0 < length rest → n + 1 ≤ slice_index rest 0) → 0 < length (cond b (n ∷ rest) rest) → n ≤ slice_index (cond b (n ∷ rest) rest) 0
above-either true n rest above some = omega arith
above-either false n rest above some = let more : n + 1 ≤ slice_index rest 0 = above some in omega arith

first-above : (n : ℕ) (cs : List Issued) → 0 < length (unanswered_from n cs) → n ≤ slice_index (unanswered_from n cs) 0
first-above n [] some = absurd (omega arith)
first-above n (c ∷ cs) some = above-either (is_last_tick c.standing) n (unanswered_from (n + 1) cs) (first-above (n + 1) cs) some

rises-cons : (n : ℕ) (rest : List ℕ) → (0 < length rest → n + 1 ≤ slice_index rest 0) → IsStrictlyIncreasing rest → IsStrictlyIncreasing (n ∷ rest)
rises-cons n rest above rise zero within = let more : n + 1 ≤ slice_index rest 0 = above (omega arith) in omega arith
rises-cons n rest above rise (suc k) within =
    let next : suc k + 1 ≡ suc (k + 1) = omega arith in
    subst (λ i. slice_index rest k < slice_index (n ∷ rest) i) (sym next) (rise k (omega arith))

rises-either : (b : Bool) (n : ℕ) (rest : List ℕ) → (0 < length rest → n + 1 ≤ slice_index rest 0) → IsStrictlyIncreasing rest → IsStrictlyIncreasing (cond b (n ∷ rest) rest)
rises-either true n rest above rise = rises-cons n rest above rise
rises-either false n rest above rise = rise

rise_from : (n : ℕ) (cs : List Issued) → IsStrictlyIncreasing (unanswered_from n cs)
rise_from n [] = λ k within. absurd (omega arith)
rise_from n (c ∷ cs) = rises-either (is_last_tick c.standing) n (unanswered_from (n + 1) cs) (first-above (n + 1) cs) (rise_from (n + 1) cs)

pub unanswered_rise : (node : NodeState) → IsStrictlyIncreasing (gone_unanswered node)
unanswered_rise node = rise_from 1 node.initiator.issued

-- ---- nothing waits after a clearing

cleared_waits : (s : Standing) → is_waiting (cleared s) ≡ false
cleared_waits Waiting = refl
cleared_waits (Out left) = refl
cleared_waits (Answered reply) = refl
cleared_waits Undelivered = refl
cleared_waits Unanswered = refl

none-found : (within : Issued → Bool) (cs : List Issued) → find (λ (c : Issued). is_waiting c.standing && within c) (all_cleared cs) ≡ None
none-found within [] = refl
none-found within (c ∷ cs) =
    let k : Issued = record c { standing = cleared c.standing } in
    ap (λ (b : Bool). cond (b && within k) (Some k) (find (λ (x : Issued). is_waiting x.standing && within x) (all_cleared cs))) (cleared_waits c.standing) ∙ none-found within cs

none-either : (room : Bool) (c : Option Issued) → c ≡ None → cond room (option_map (λ (i : Issued). i.body) c) None ≡ None
none-either true c e = ap (option_map (λ (i : Issued). i.body)) e
none-either false c e = refl

pub none_at_clear : (node : NodeState) → next_body (after_clear node) ≡ None
none_at_clear node =
    let s : InitiatorState = (after_clear node).initiator in
    command-found s ∙ none-either (nat_lt (count_out s.issued) s.window) (find (is_due s) s.issued) (none-found (λ (c : Issued). nat_lt (count_out_of (source_of c) s.issued) s.per_source) node.initiator.issued)

-- ---- bodies

-- each command has a body
abbrev pub AreBodies : List Issued → Type 0
AreBodies cs = All (λ (c : Issued). IsBody c.body) cs

body-either : (b : Bool) (c : Issued) (rest : Option Issued) → IsBody c.body → IfSome (option_map (λ (i : Issued). i.body) rest) IsBody → IfSome (option_map (λ (i : Issued). i.body) (cond b (Some c) rest)) IsBody
body-either true c rest here later = here
body-either false c rest here later = later

found-body : (t : Issued → Bool) (cs : List Issued) → AreBodies cs → IfSome (option_map (λ (i : Issued). i.body) (find t cs)) IsBody
found-body t [] all = tt
found-body t (c ∷ cs) all = body-either (t c) c (find t cs) (All-head (λ (x : Issued). IsBody x.body) c cs all) (found-body t cs (All-tail (λ (x : Issued). IsBody x.body) c cs all))

free-body : (room : Bool) (c : Option Issued) → IfSome (option_map (λ (i : Issued). i.body) c) IsBody → IfSome (cond room (option_map (λ (i : Issued). i.body) c) None) IsBody
free-body true c body = body
free-body false c body = tt

pub command-body : (s : InitiatorState) → AreBodies s.issued → IfSome (next_command s) IsBody
command-body s all = subst (λ (o : Option (List ℕ)). IfSome o IsBody) (sym (command-found s)) (free-body (nat_lt (count_out s.issued) s.window) (find (is_due s) s.issued) (found-body (is_due s) s.issued all))

next-parts : (replies : List (List ℕ)) (s : InitiatorState) → All IsBody replies → AreBodies s.issued → IfSome (option_or (slice_get replies 0) (next_command s)) IsBody
next-parts [] s waits all = command-body s all
next-parts (reply ∷ replies) s waits all = All-head IsBody reply replies waits

pub next_is_body : (node : NodeState) → holds_bodies node → IfSome (next_body node) IsBody
next_is_body node holds = next-parts node.replies node.initiator holds.0 holds.1

bodies-restated : (cs : List Issued) (place : ℕ) (s : Standing) → AreBodies cs → AreBodies (restated cs place s)
bodies-restated [] place s all = all
bodies-restated (c ∷ cs) zero s all = All-cons (λ (x : Issued). IsBody x.body) (record c { standing = s }) cs (All-head (λ (x : Issued). IsBody x.body) c cs all) (All-tail (λ (x : Issued). IsBody x.body) c cs all)
bodies-restated (c ∷ cs) (suc place) s all =
    All-cons (λ (x : Issued). IsBody x.body) c (restated cs place s) (All-head (λ (x : Issued). IsBody x.body) c cs all) (bodies-restated cs place s (All-tail (λ (x : Issued). IsBody x.body) c cs all))

bodies-at : (cs : List Issued) (place : Option ℕ) (s : Standing) → AreBodies cs → AreBodies (option_map_or (λ (p : ℕ). restated cs p s) place cs)
bodies-at cs None s all = all
bodies-at cs (Some p) s all = bodies-restated cs p s all

initiator-either : (b : Bool) (i j : InitiatorState) → AreBodies i.issued → AreBodies j.issued → AreBodies (cond b i j).issued
initiator-either true i j first other = first
initiator-either false i j first other = other

replies-either : (b : Bool) (xs ys : List (List ℕ)) → All IsBody xs → All IsBody ys → All IsBody (cond b xs ys)
replies-either true xs ys first other = first
replies-either false xs ys first other = other

-- ---- a reply is a body

-- EXT STS and the data of a reply have at most 244 bytes
abbrev IsShort : Effect → Type 0
IsShort e = length (extension_of e.code) + length e.reply ≤ 244

code-short : (code : Code) → length (extension_of code) ≤ 1
code-short Done = omega arith
code-short (Sts status) = omega arith
code-short (Ext extension) = omega arith

pub code-done : (code : Code) (reply : List ℕ) → length reply ≤ 244 → (IsTrue (is_refusal code) → reply ≡ []) → length (extension_of code) + length reply ≤ 244
code-done Done reply short alone = omega (arith, short)
code-done (Sts status) reply short alone = rw (alone refl) (omega arith)
code-done (Ext extension) reply short alone = rw (alone refl) (omega arith)

order-short : (e : Effect) → FitsReply e → IsShort e
order-short e fits = code-done e.code e.reply fits.short fits.alone

-- a refusal has no data
refused-short : (tables : DataTables) (code : Code) → IsShort (refused tables code)
refused-short tables code = let short = code-short code in omega (arith, short)

unless-short : (denied : Bool) (tables : DataTables) (code : Code) (e : Effect) → IsShort e → IsShort (if denied then refused tables code else e)
unless-short true tables code e short = refused-short tables code
unless-short false tables code e short = short

pub slc-short : (tables : DataTables) (locked : List ℕ) (order : slc.Order) → IsShort (slc_effect tables locked order)
slc-short tables locked order = unless-short (slc_writes (is_locked locked) order) tables (Ext 0x0B) (slc_meaning tables order) (order-short (slc_meaning tables order) (slc-fits tables order))

asked-short : (station : StationState) (logical : Option slc.Order) (other : Result plc.Order Code) → length station.block ≤ 244 → IfShortEcho other → IsShort (effect_of station (asked_by logical other))
asked-short station (Some order) other few echo = slc-short station.tables station.locked order
asked-short station None (Ok order) few echo =
    let meant = plc_meaning station.tables station.compat station.block order in
    unless-short (plc_writes (is_locked station.locked) station.compat order) station.tables (plc_denial order) meant (order-short meant (plc-fits station.tables station.compat station.block order few echo))
asked-short station None (Err code) few echo = let short = code-short code in omega (arith, short)

effect-short : (station : StationState) (cmd : ℕ) (payload : List ℕ) → length station.block ≤ 244 → length payload ≤ 244 → IsShort (effect_of station (asked_of cmd payload))
effect-short station cmd payload few short = asked-short station (logical_order cmd payload) (plc_order_of cmd payload) few (echo-fits cmd payload short)

-- the reply to a body is one
pub reply-body : (station : StationState) (body : List ℕ) → length station.block ≤ 244 → IsBody body → IsBody (reply_to station body)
reply-body station body few is =
    let rest : length (drop 6 body) ≤ 244 = omega (arith, length-drop 6 body, is.1) in
    let fits : IsShort (done station body) = effect-short station (slice_index body 2) (drop 6 body) few rest in
    let effect = done station body in
    let front = spelling (reply_form (envelope_of body) (status_of effect.code)) in
    let whole : length (front ++ extension_of effect.code ++ effect.reply) ≡ 6 + length (extension_of effect.code) + length effect.reply =
    length-append (front ++ extension_of effect.code) effect.reply ∙ ap (λ n. n + length effect.reply) (length-append front (extension_of effect.code)) in
    (omega (arith, whole), omega (arith, whole, fits))

-- ---- the bodies stay such

-- a command leaves the data of the status reply as it is
block-either : (b : Bool) (station : StationState) (body : List ℕ) → length station.block ≤ 244 → length (cond b station (after_answer station body)).block ≤ 244
block-either true station body few = few
block-either false station body few = few

pub bodies_at_accept : (node : NodeState) (body : List ℕ) → holds_bodies node → IsBody body → IsTrue (has_room node body) → holds_bodies (after_accept node body)
bodies_at_accept node body holds is room = (
  replies-either (is_reply body) node.replies (node.replies ++ reply_to node.station body ∷ []) holds.0 (All-push IsBody node.replies (reply_to node.station body) holds.0 (reply-body node.station body holds.2 is)),
  initiator-either (is_reply body) (after_reply node.initiator body) node.initiator (bodies-at node.initiator.issued (answered_place node.initiator.issued body) (Answered body) holds.1) holds.1,
  block-either (is_reply body) node.station body holds.2,
)

pub bodies_at_next : (node : NodeState) → holds_bodies node → holds_bodies (after_next node)
bodies_at_next node holds = (
  All-drop IsBody 1 node.replies holds.0,
  initiator-either (is_some (slice_get node.replies 0)) node.initiator (after_hand_out node.initiator) holds.1 (bodies-at node.initiator.issued (next_place node.initiator) (Out node.initiator.reply_ticks) holds.1),
  holds.2,
)

issued-either : (b : Bool) (cs ds : List Issued) → AreBodies cs → AreBodies ds → AreBodies (cond b cs ds)
issued-either true cs ds first other = first
issued-either false cs ds first other = other

given_up-bodies : (initiator : InitiatorState) (last : Handed) → AreBodies initiator.issued → AreBodies (initiator_after initiator last).issued
given_up-bodies initiator handed.Nothing all = all
given_up-bodies initiator handed.Reply all = all
given_up-bodies initiator (handed.Command place) all =
    issued-either (is_out_at initiator.issued place) (restated initiator.issued place Undelivered) initiator.issued (bodies-restated initiator.issued place Undelivered all) all

pub bodies_at_told : (node : NodeState) (told : Fate) → holds_bodies node → holds_bodies (after_told node told)
bodies_at_told node fate.Delivered holds = holds
bodies_at_told node fate.Undelivered holds = (holds.0, given_up-bodies node.initiator node.last holds.1, holds.2)

pub bodies_at_tick : (node : NodeState) → holds_bodies node → holds_bodies (after_tick node)
bodies_at_tick node holds = (holds.0, All-map (λ (c : Issued). IsBody c.body) (λ (c : Issued). record c { standing = ticked c.standing }) node.initiator.issued holds.1, holds.2)

pub bodies_at_clear : (node : NodeState) → holds_bodies node → holds_bodies (after_clear node)
bodies_at_clear node holds = (All-nil IsBody, All-map (λ (c : Issued). IsBody c.body) (λ (c : Issued). record c { standing = cleared c.standing }) node.initiator.issued holds.1, holds.2)
