-- What passed between the master and one station in an undisturbed run, from where on it is looked at: the station executed the first of the commands that were handed out for it, and its replies that wait are those behind the ones that the master accepted.
use Rattle.std.proofs.Common.{◌≡◌, ◌∙◌, ℕ, suc, ◌+◌, ◌<◌, ◌≤◌, true, false, List, [], ◌∷◌, ◌++◌, drop, length, map, Option, Some, refl, ap, sym, subst, append-nil, append_assoc, length-append, arith, inl, inr}
use Rattle.std.specs.Prelude.{slice_get}
use Rattle.std.proofs.lemmas.Bool.{lt-ltb}
use Rattle.df1_base.specs.Host.{IsBody}
use Rattle.pccc_envelope.specs.declared.key.Key.{Key}
use Rattle.pccc_envelope.specs.Envelope.{is_reply, tns_of, key_of}
use Rattle.pccc_envelope.specs.Accepted.{is_kept}
use Rattle.df1_node.specs.Answer.{StationState, reply_to}
use Rattle.df1_node.specs.Initiator.{Issued, InitiatorState, is_waiting, is_reply_to, count_out, next_command, after_issue, after_hand_out, after_reply, all_ticked}
use Rattle.df1_node.specs.Node.{NodeState, has_room, after_accept, after_next}
use Rattle.half_slave.specs.Slave.{SlaveState}
use Rattle.each_once.specs.Exchanges.{station_after}
use Rattle.each_once.proofs.AnsweringStation.{replies_to, replies-push, RepliesAt, reply-at}
use Rattle.each_once.proofs.CommandsUnderWay.{AreUnderWay, Answers, under-way-new, under-way-issue, under-way-hand_out, under-way-hand_out-other, under-way-reply, under-way-reply-other, IsTickFewer, under-way-tick, under-way-fewer, under-way-later, under-way-few, under-way-at, under-way-differ}
use Rattle.each_once.proofs.HandedOut.{AreNumbered}
use Rattle.each_once.proofs.MessageLengths.{AreBodies, bodies-front, bodies-at, replies-fit, body-at}
use Rattle.each_once.proofs.StationReplies.{exchanges-length, exchanges-tns, fits-tns}
use Rattle.each_once.proofs.Sublists.{Differ, differ-front, differ-last, get-more, get-seam}
use Rattle.half_line.specs.Complete.{is_to}
use Rattle.half_line.proofs.Complete.EarlierCommands.{is_new, AreStillHanded, handed-apart}
use Rattle.half_line.proofs.Complete.NewKeys.{IsKeyOf, key-last, new-key}
use Rattle.half_line.proofs.Complete.Origin.{is_mine, mine-new, mine-other}

-- the bodies of an initiator's commands
abbrev pub bodies_in : InitiatorState → List (List ℕ)
bodies_in i = map (λ (c : Issued). c.body) i.issued

-- a station of this number, in this state where the master's commands stood so, executed these commands since, and the master accepted these of its replies; one command may be on its way to it, one reply on its way from it; the master keeps this key for it
pub record Dealings (before : List Issued) (first : StationState) (number : ℕ) (i : InitiatorState) (executed told going back : List (List ℕ)) (kept : Option Key) (s : SlaveState NodeState) (least : ℕ → ℕ) : Type 0 where
  pub under_way : AreUnderWay (is_mine before number) i (executed ++ going) (length told) least
  pub replies : replies_to first executed ≡ told ++ (back ++ s.host.replies)
  pub room : i.window ≤ s.host.room
  pub held_key : IsKeyOf before executed s.kept
  pub key : IsKeyOf before told kept

-- where it is looked at from: all but the earlier commands wait, and none of its replies does
pub dealings-from : (before : List Issued) (first : StationState) (number : ℕ) (i : InitiatorState) (kept : Option Key) (s : SlaveState NodeState) (least : ℕ → ℕ) → ((p : ℕ) (c : Issued) → slice_get i.issued p ≡ Some c → is_new before c.body ≡ true → is_waiting c.standing ≡ true) → count_out i.issued ≤ i.window
    → s.host.replies ≡ [] → i.window ≤ s.host.room → IsKeyOf before [] s.kept → IsKeyOf before [] kept → Dealings before first number i [] [] [] [] kept s least
dealings-from before first number i kept s least waits few replies room held_key key = record {
  under_way = under-way-new (is_mine before number) i least (λ p c at mine. waits p c at (mine-new before number c.body mine).0) few;
  replies = sym replies;
  room = room;
  held_key = held_key;
  key = key;
}

-- the same lists, otherwise written
pub alike : {before : List Issued} {first : StationState} {number : ℕ} {i : InitiatorState} {kept : Option Key} {s : SlaveState NodeState} {least : ℕ → ℕ} (executed executed_now told told_now going going_now back back_now : List (List ℕ)) → executed ≡ executed_now → told ≡ told_now → going ≡ going_now → back ≡ back_now
    → Dealings before first number i executed told going back kept s least → Dealings before first number i executed_now told_now going_now back_now kept s least
alike {before = before} {first = first} {number = number} {i = i} {kept = kept} {s = s} {least = least} executed executed_now told told_now going going_now back back_now same_executed same_told same_going same_back d =
    subst (λ (x : List (List ℕ)). Dealings before first number i x told_now going_now back_now kept s least) same_executed
    (subst (λ (x : List (List ℕ)). Dealings before first number i executed x going_now back_now kept s least) same_told
    (subst (λ (x : List (List ℕ)). Dealings before first number i executed told x back_now kept s least) same_going
    (subst (λ (x : List (List ℕ)). Dealings before first number i executed told going x kept s least) same_back d)))

-- ---- at the master

-- a command is issued
pub dealings-issue : {before : List Issued} {first : StationState} {number : ℕ} {i : InitiatorState} {executed told going back : List (List ℕ)} {kept : Option Key} {s : SlaveState NodeState} {least : ℕ → ℕ} (src dst : ℕ) (payload : List ℕ)
    → Dealings before first number i executed told going back kept s least → Dealings before first number (after_issue i src dst payload) executed told going back kept s least
dealings-issue {before = before} {number = number} {i = i} {executed = executed} {told = told} {going = going} {least = least} src dst payload d = record {
  under_way = under-way-issue (is_mine before number) i src dst payload (executed ++ going) (length told) least d.under_way;
  replies = d.replies;
  room = d.room;
  held_key = d.held_key;
  key = d.key;
}

-- the next command is handed out: it is for this station, or for another
pub dealings-hands : {before : List Issued} {first : StationState} {number : ℕ} {i : InitiatorState} {executed told back : List (List ℕ)} {kept : Option Key} {s : SlaveState NodeState} {least : ℕ → ℕ} (body : List ℕ) → is_mine before number body ≡ true → next_command i ≡ Some body → ((j : ℕ) → j < i.window → least j ≤ i.reply_ticks)
    → Dealings before first number i executed told [] back kept s least → Dealings before first number (after_hand_out i) executed told (body ∷ []) back kept s least
dealings-hands {before = before} {number = number} {i = i} {executed = executed} {told = told} {least = least} body mine next enough d = record {
  under_way = subst (λ (xs : List (List ℕ)). AreUnderWay (is_mine before number) (after_hand_out i) (xs ++ body ∷ []) (length told) least) (append-nil executed) (under-way-hand_out (is_mine before number) i body (executed ++ []) (length told) least mine next enough d.under_way);
  replies = d.replies;
  room = d.room;
  held_key = d.held_key;
  key = d.key;
}

pub dealings-hands-other : {before : List Issued} {first : StationState} {number : ℕ} {i : InitiatorState} {executed told going back : List (List ℕ)} {kept : Option Key} {s : SlaveState NodeState} {least : ℕ → ℕ} (body : List ℕ) → is_to number body ≡ false → next_command i ≡ Some body
    → Dealings before first number i executed told going back kept s least → Dealings before first number (after_hand_out i) executed told going back kept s least
dealings-hands-other {before = before} {number = number} {i = i} {executed = executed} {told = told} {going = going} {least = least} body other next d = record {
  under_way = under-way-hand_out-other (is_mine before number) i body (executed ++ going) (length told) least (mine-other before number body other) next d.under_way;
  replies = d.replies;
  room = d.room;
  held_key = d.held_key;
  key = d.key;
}

-- a unit of time passes at the initiator
abbrev pub ticked_all : InitiatorState → InitiatorState
ticked_all i = record i { issued = all_ticked i.issued }

pub dealings-tick : {before : List Issued} {first : StationState} {number : ℕ} {i : InitiatorState} {executed told going back : List (List ℕ)} {kept : Option Key} {s : SlaveState NodeState} {least : ℕ → ℕ} (later : ℕ → ℕ) → ((j : ℕ) → IsTickFewer (least j) (later j))
    → Dealings before first number i executed told going back kept s least → Dealings before first number (ticked_all i) executed told going back kept s later
dealings-tick {before = before} {number = number} {i = i} {executed = executed} {told = told} {going = going} {least = least} later few d = record {
  under_way = under-way-tick (is_mine before number) i (executed ++ going) (length told) least later few d.under_way;
  replies = d.replies;
  room = d.room;
  held_key = d.held_key;
  key = d.key;
}

-- no fewer ticks are known to be left
pub dealings-fewer : {before : List Issued} {first : StationState} {number : ℕ} {i : InitiatorState} {executed told going back : List (List ℕ)} {kept : Option Key} {s : SlaveState NodeState} {least : ℕ → ℕ} (later : ℕ → ℕ) → ((j : ℕ) → later j ≤ least j)
    → Dealings before first number i executed told going back kept s least → Dealings before first number i executed told going back kept s later
dealings-fewer {before = before} {number = number} {i = i} {executed = executed} {told = told} {going = going} {least = least} later less d = record {
  under_way = under-way-fewer (is_mine before number) i (executed ++ going) (length told) least later less d.under_way;
  replies = d.replies;
  room = d.room;
  held_key = d.held_key;
  key = d.key;
}

-- where no reply is left, none of its commands is out
pub none-left : {before : List Issued} {first : StationState} {number : ℕ} {i : InitiatorState} {executed told : List (List ℕ)} {kept : Option Key} {s : SlaveState NodeState} {least : ℕ → ℕ} → s.host.replies ≡ [] → Dealings before first number i executed told [] [] kept s least → length told ≡ length (executed ++ [])
none-left {first = first} {executed = executed} {told = told} none d =
    ap length (sym (append-nil told) ∙ ap (λ (rs : List (List ℕ)). told ++ rs) (sym none) ∙ sym d.replies) ∙ exchanges-length first executed ∙ ap length (sym (append-nil executed))

pub dealings-rests : {before : List Issued} {first : StationState} {number : ℕ} {i : InitiatorState} {executed told : List (List ℕ)} {kept : Option Key} {s : SlaveState NodeState} {least : ℕ → ℕ} (later : ℕ → ℕ) → s.host.replies ≡ []
    → Dealings before first number i executed told [] [] kept s least → Dealings before first number i executed told [] [] kept s later
dealings-rests {before = before} {number = number} {i = i} {executed = executed} {told = told} {least = least} later none d = record {
  under_way = under-way-later (is_mine before number) i (executed ++ []) (length told) least later (none-left none d) d.under_way;
  replies = d.replies;
  room = d.room;
  held_key = d.held_key;
  key = d.key;
}

-- ---- at the station

-- its node keeps the same replies
pub record IsSameNode (was now : NodeState) : Type 0 where
  pub replies : now.replies ≡ was.replies
  pub room : now.room ≡ was.room

pub same-node : (was now : NodeState) → now ≡ was → IsSameNode was now
same-node was now same = record { replies = ap (λ (node : NodeState). node.replies) same; room = ap (λ (node : NodeState). node.room) same }

pub dealings-same : {before : List Issued} {first : StationState} {number : ℕ} {i : InitiatorState} {executed told going back : List (List ℕ)} {kept : Option Key} {s : SlaveState NodeState} {least : ℕ → ℕ} (after : SlaveState NodeState) → IsSameNode s.host after.host → after.kept ≡ s.kept
    → Dealings before first number i executed told going back kept s least → Dealings before first number i executed told going back kept after least
dealings-same {before = before} {i = i} {executed = executed} {told = told} {back = back} after node same d = record {
  under_way = d.under_way;
  replies = d.replies ∙ ap (λ (rs : List (List ℕ)). told ++ (back ++ rs)) (sym node.replies);
  room = subst (λ (n : ℕ). i.window ≤ n) (sym node.room) d.room;
  held_key = subst (λ (k : Option Key). IsKeyOf before executed k) (sym same) d.held_key;
  key = d.key;
}

-- it executes the command that goes to it
accepted-replies : (node : NodeState) (body : List ℕ) → is_reply body ≡ false → (after_accept node body).replies ≡ node.replies ++ reply_to node.station body ∷ []
accepted-replies node body command = rw command refl

pub dealings-executes : {before : List Issued} {first : StationState} {number : ℕ} {i : InitiatorState} {executed told : List (List ℕ)} {kept : Option Key} {s : SlaveState NodeState} {least : ℕ → ℕ} (after : SlaveState NodeState) (body : List ℕ) → s.host.station ≡ station_after first executed → is_reply body ≡ false
    → after.host ≡ after_accept s.host body → after.kept ≡ Some (key_of body) → Dealings before first number i executed told (body ∷ []) [] kept s least → Dealings before first number i (executed ++ body ∷ []) told [] [] kept after least
dealings-executes {before = before} {first = first} {number = number} {i = i} {executed = executed} {told = told} {s = s} {least = least} after body station command host held d =
    let reply = reply_to s.host.station body in
    let more : after.host.replies ≡ s.host.replies ++ reply ∷ [] = ap (λ (node : NodeState). node.replies) host ∙ accepted-replies s.host body command in
    record {
      under_way = subst (λ (xs : List (List ℕ)). AreUnderWay (is_mine before number) i xs (length told) least) (sym (append-nil (executed ++ body ∷ []))) d.under_way;
      replies = replies-push first executed body s.host.station station ∙ ap (λ (rs : List (List ℕ)). rs ++ reply ∷ []) d.replies ∙ append_assoc told s.host.replies (reply ∷ []) ∙ ap (λ (rs : List (List ℕ)). told ++ rs) (sym more);
      room = subst (λ (node : NodeState). i.window ≤ node.room) (sym host) d.room;
      held_key = subst (λ (k : Option Key). IsKeyOf before (executed ++ body ∷ []) k) (sym held) (key-last before executed body);
      key = d.key;
    }

-- it gives the first reply that waits
pub dealings-fetches : {before : List Issued} {first : StationState} {number : ℕ} {i : InitiatorState} {executed told : List (List ℕ)} {kept : Option Key} {s : SlaveState NodeState} {least : ℕ → ℕ} (after : SlaveState NodeState) (reply : List ℕ) (rest : List (List ℕ)) → s.host.replies ≡ reply ∷ rest
    → after.host ≡ after_next s.host → after.kept ≡ s.kept → Dealings before first number i executed told [] [] kept s least → Dealings before first number i executed told [] (reply ∷ []) kept after least
dealings-fetches {before = before} {i = i} {executed = executed} {told = told} {s = s} after reply rest waits host same d =
    let left : after.host.replies ≡ rest = ap (λ (node : NodeState). node.replies) host ∙ ap (λ (rs : List (List ℕ)). drop 1 rs) waits in
    record {
      under_way = d.under_way;
      replies = d.replies ∙ ap (λ (rs : List (List ℕ)). told ++ rs) (waits ∙ ap (λ (rs : List (List ℕ)). reply ∷ rs) (sym left));
      room = subst (λ (node : NodeState). i.window ≤ node.room) (sym host) d.room;
      held_key = subst (λ (k : Option Key). IsKeyOf before executed k) (sym same) d.held_key;
      key = d.key;
    }

-- ---- the master accepts its reply

-- that is to the first of its commands that isn't answered
pub returned : {before : List Issued} {first : StationState} {number : ℕ} {i : InitiatorState} {executed told : List (List ℕ)} {kept : Option Key} {s : SlaveState NodeState} {least : ℕ → ℕ} (going : List (List ℕ)) (reply : List ℕ) → Dealings before first number i executed told going (reply ∷ []) kept s least → RepliesAt first executed (length told) reply
returned {first = first} {executed = executed} {told = told} {s = s} going reply d = reply-at first executed (length told) reply (ap (λ (rs : List (List ℕ)). slice_get rs (length told)) d.replies ∙ get-seam told reply s.host.replies)

-- what is so then
pub record Accepts (before : List Issued) (first : StationState) (number : ℕ) (i : InitiatorState) (executed told : List (List ℕ)) (s : SlaveState NodeState) (least : ℕ → ℕ) (reply : List ℕ) (now : Option Key) : Type 0 where
  pub body : List ℕ
  pub to : is_to number body ≡ true
  pub fits : is_reply_to body reply ≡ true
  pub is_a_reply : is_reply reply ≡ true
  pub answers : Answers i reply body
  pub after : Dealings before first number (after_reply i reply) executed (told ++ reply ∷ []) [] [] now s (λ j. least (suc j))

pub dealings-accepts : {before : List Issued} {first : StationState} {number : ℕ} {i : InitiatorState} {executed told : List (List ℕ)} {kept : Option Key} {s : SlaveState NodeState} {least : ℕ → ℕ} (reply : List ℕ) (now : Option Key) → length i.issued ≤ 65535 → AreNumbered i.tns 0 i.issued → now ≡ Some (key_of reply)
    → Dealings before first number i executed told [] (reply ∷ []) kept s least → Accepts before first number i executed told s least reply now
dealings-accepts {before = before} {first = first} {number = number} {i = i} {executed = executed} {told = told} {s = s} {least = least} reply now few numbered is d =
    let r = returned [] reply d in
    let at = get-more executed [] (length told) r.body r.is_executed in
    let a = under-way-reply (is_mine before number) i (executed ++ []) (length told) least r.body reply few numbered at r.fits d.under_way in
    let count = length-append told (reply ∷ []) in
    let one : suc (length told) ≡ length (told ++ reply ∷ []) = omega (arith, count) in
    record {
      body = r.body;
      to = (mine-new before number r.body (d.under_way.are_mine (length told) r.body at)).1;
      fits = r.fits;
      is_a_reply = r.is_a_reply;
      answers = a.0;
      after = record {
        under_way = subst (λ (n : ℕ). AreUnderWay (is_mine before number) (after_reply i reply) (executed ++ []) n (λ j. least (suc j))) one a.1;
        replies = d.replies ∙ sym (append_assoc told (reply ∷ []) s.host.replies);
        room = d.room;
        held_key = d.held_key;
        key = subst (λ (k : Option Key). IsKeyOf before (told ++ reply ∷ []) k) (sym is) (key-last before told reply);
      };
    }

-- that of another station
pub dealings-accepts-other : {before : List Issued} {first : StationState} {number : ℕ} {i : InitiatorState} {executed told going back : List (List ℕ)} {kept : Option Key} {s : SlaveState NodeState} {least : ℕ → ℕ} (body reply : List ℕ) (now : Option Key) → is_to number body ≡ false → Answers i reply body → now ≡ kept
    → Dealings before first number i executed told going back kept s least → Dealings before first number (after_reply i reply) executed told going back now s least
dealings-accepts-other {before = before} {number = number} {i = i} {executed = executed} {told = told} {going = going} {least = least} body reply now other a same d = record {
  under_way = under-way-reply-other (is_mine before number) i (executed ++ going) (length told) least body reply (mine-other before number body other) a d.under_way;
  replies = d.replies;
  room = d.room;
  held_key = d.held_key;
  key = subst (λ (k : Option Key). IsKeyOf before told k) (sym same) d.key;
}

-- ---- what the station and the master see of it

-- the station has room for the command that goes to it
pub room-for : {before : List Issued} {first : StationState} {number : ℕ} {i : InitiatorState} {executed told : List (List ℕ)} {kept : Option Key} {s : SlaveState NodeState} {least : ℕ → ℕ} (body : List ℕ) → is_reply body ≡ false → Dealings before first number i executed told (body ∷ []) [] kept s least → has_room s.host body ≡ true
room-for {before = before} {first = first} {number = number} {i = i} {executed = executed} {told = told} {s = s} {least = least} body command d =
    let few = under-way-few (is_mine before number) i (executed ++ body ∷ []) (length told) least d.under_way in
    let one = length-append executed (body ∷ []) in
    let count : length executed ≡ length told + length s.host.replies = sym (exchanges-length first executed) ∙ ap length d.replies ∙ length-append told s.host.replies in
    let room = d.room in
    rw command (lt-ltb (length s.host.replies) s.host.room (omega (arith, few, one, count, room)))

-- that has another key than the one that it keeps
pub call-new : {before : List Issued} {first : StationState} {number : ℕ} {i : InitiatorState} {executed told : List (List ℕ)} {kept : Option Key} {s : SlaveState NodeState} {least : ℕ → ℕ} (body : List ℕ) → length i.issued ≤ 65535 → AreNumbered i.tns 0 i.issued → AreStillHanded before i.issued
    → Dealings before first number i executed told (body ∷ []) [] kept s least → is_kept s.kept (key_of body) ≡ false
call-new {before = before} {number = number} {i = i} {executed = executed} {told = told} {s = s} {least = least} body few numbered still d =
    let mine = is_mine before number in
    let handed = executed ++ body ∷ [] in
    let at = get-seam executed body [] in
    let place = under-way-at mine i handed (length told) least (length executed) body at d.under_way in
    let new = (mine-new before number body (d.under_way.are_mine (length executed) body at)).0 in
    let differ = under-way-differ mine i handed (length told) least few numbered d.under_way in
    new-key before executed s.kept body d.held_key (λ x earlier same. elim earlier [
      | inl old ↦ handed-apart before i few numbered still x body old new place.0 place.1 same
      | inr has ↦ differ-last tns_of executed has.0 x body differ has.1 same
    ])

-- a reply on its way to the master has another key than the one that the master keeps for the station
pub reply-new : {before : List Issued} {first : StationState} {number : ℕ} {i : InitiatorState} {executed told : List (List ℕ)} {kept : Option Key} {s : SlaveState NodeState} {least : ℕ → ℕ} (reply : List ℕ) → length i.issued ≤ 65535 → AreNumbered i.tns 0 i.issued → AreStillHanded before i.issued
    → Dealings before first number i executed told [] (reply ∷ []) kept s least → is_kept kept (key_of reply) ≡ false
reply-new {before = before} {first = first} {number = number} {i = i} {executed = executed} {told = told} {kept = kept} {s = s} {least = least} reply few numbered still d =
    let mine = is_mine before number in
    let r = returned [] reply d in
    let at = get-more executed [] (length told) r.body r.is_executed in
    let place = under-way-at mine i (executed ++ []) (length told) least (length told) r.body at d.under_way in
    let new = (mine-new before number r.body (d.under_way.are_mine (length told) r.body at)).0 in
    let differ = differ-front tns_of executed [] (under-way-differ mine i (executed ++ []) (length told) least few numbered d.under_way) in
    let replied : Differ (map tns_of (replies_to first executed)) = subst (λ (ns : List ℕ). Differ ns) (sym (exchanges-tns first executed)) differ in
    let is : replies_to first executed ≡ (told ++ reply ∷ []) ++ s.host.replies = d.replies ∙ sym (append_assoc told (reply ∷ []) s.host.replies) in
    let apart = differ-front tns_of (told ++ reply ∷ []) s.host.replies (subst (λ (rs : List (List ℕ)). Differ (map tns_of rs)) is replied) in
    new-key before told kept reply d.key (λ x earlier same. elim earlier [
      | inl old ↦ handed-apart before i few numbered still x r.body old new place.0 place.1 (same ∙ fits-tns r.body reply r.fits)
      | inr has ↦ differ-last tns_of told has.0 x reply apart has.1 same
    ])

-- a reply that waits fits a message
pub reply-fits : {before : List Issued} {first : StationState} {number : ℕ} {i : InitiatorState} {executed told going : List (List ℕ)} {kept : Option Key} {s : SlaveState NodeState} {least : ℕ → ℕ} (reply : List ℕ) (rest : List (List ℕ)) → s.host.replies ≡ reply ∷ rest → AreBodies (bodies_in i) → length first.block ≤ 244
    → Dealings before first number i executed told going [] kept s least → IsBody reply
reply-fits {first = first} {i = i} {executed = executed} {told = told} {going = going} reply rest waits fits short d =
    let all = replies-fit first executed short (bodies-front executed going (bodies-at (bodies_in i) d.under_way.order (executed ++ going) fits d.under_way.are_at)) in
    body-at (replies_to first executed) (length told) reply all (ap (λ (rs : List (List ℕ)). slice_get rs (length told)) (d.replies ∙ ap (λ (rs : List (List ℕ)). told ++ rs) waits) ∙ get-seam told reply rest)
