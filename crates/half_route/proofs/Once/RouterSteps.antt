-- A router before the node of the master: of what it handed out and accepted, the node's own part is the node's, and the rest is carried.
use Rattle.std.proofs.Common.{◌≡◌, ◌∙◌, ℕ, ◌<◌, Bool, true, false, eqb, not, List, [], ◌∷◌, ◌++◌, length, Some, None, is_some, refl, ap, sym, subst, append-nil}
use Rattle.std.specs.Prelude.{slice_index, option_to_list, if◌then◌else◌}
use Rattle.std.specs.Int.{bit_at}
use Rattle.std.specs.Option.{option_or}
use Rattle.std.specs.List.{filter}
use Rattle.std.proofs.lemmas.Bool.{eq-eqb, eqb-true, false_from_ne_true}
use Rattle.df1_base.specs.declared.host.Did.TheVariants as did
use Rattle.df1_base.specs.declared.host.Fate.{Fate}
use Rattle.df1_base.specs.declared.host.Fate.TheVariants as fate
use Rattle.df1_base.specs.declared.host.News.TheVariants as news
use Rattle.df1_base.specs.declared.link.Act.TheVariants as act
use Rattle.pccc_envelope.specs.Envelope.{is_reply}
use Rattle.df1_node.specs.Initiator.{answered_place}
use Rattle.df1_node.specs.Node.{NodeState, after_accept, after_next, after_node_issue, after_told, did_accept, next_body, news_told}
use Rattle.station_router.specs.declared.handed.Handed.{Handed}
use Rattle.station_router.specs.declared.handed.Handed.TheVariants as handed
use Rattle.station_router.specs.Router.{RouterState, with_inner, is_carried, waiting_body, last_after, after_fate, news_of_last}
use Rattle.script_parts.specs.HalfPlayable.{is_declared}
use Rattle.script_statement.specs.declared.who.Who.{Who}
use Rattle.replay_report.specs.declared.record.Line.{Line}
use Rattle.replay_report.specs.declared.record.Line.TheVariants as line
use Rattle.report_lines.specs.NodeLines.{news_lines, gone_lines}
use Rattle.each_once.specs.Commands.{is_command}
use Rattle.each_once.specs.OfStation.{is_from}
use Rattle.each_once.proofs.AnsweringStation.{within-through, within-both}
use Rattle.each_once.proofs.Sublists.{IsWithin, nothing, within-all, within-front, within-has, get-last, get-seam, same-some, filter-keeps, filter-drops}
use Rattle.half_line.specs.Acts.{act_lines_at}
use Rattle.half_line.specs.Behind.{routed_node}
use Rattle.half_route.proofs.Once.EndSteps.{AreAll, End, EndHolds, IsTo, all-push, end-quiet, end-told, end-tick, end-issue, end-accept, end-next}
use Rattle.half_route.proofs.Once.FoundCommands.{filter-has}
use Rattle.half_route.proofs.Once.QuietEnds.{IsQuiet, quiet-none, news-silent, routed-quiet}
use Rattle.half_route.proofs.Once.Telling.{IsLost}

-- a body is the node's: DST is the number of no station
abbrev pub is_own : List ℕ → List ℕ → Bool
is_own numbers body = not (is_carried numbers body)

-- a body was carried: SRC isn't the node's address
abbrev pub is_passed : ℕ → List ℕ → Bool
is_passed address body = not (is_from address body)

-- a message is from a station
abbrev pub IsFromOne : List ℕ → List ℕ → Type 0
IsFromOne numbers body = is_declared numbers (slice_index body 1) ≡ true

-- the node took and handed out what is its own; what was carried, with the body that waits, is some of what was accepted for stations
pub record Routes (end : End) (numbers : List ℕ) (r : RouterState NodeState) (sent heard : List (List ℕ)) (lines : List Line) : Type 0 where
  pub stations : r.stations ≡ numbers
  pub inner : EndHolds end (filter (is_own numbers) heard) r.inner (filter (is_from end.address) sent) lines
  pub passed : IsWithin (filter (is_passed end.address) sent ++ option_to_list (waiting_body r.waiting)) (filter (is_carried numbers) heard)
  pub from_one : AreAll (IsFromOne numbers) heard

pub routes-start : (end : End) (numbers : List ℕ) (r : RouterState NodeState) → r.stations ≡ numbers → r.waiting ≡ [] → EndHolds end [] r.inner [] [] → Routes end numbers r [] [] []
routes-start end numbers r stations none inner = record {
  stations = stations;
  inner = inner;
  passed = subst (λ waiting. IsWithin (option_to_list (waiting_body waiting)) []) (sym none) nothing;
  from_one = λ k body at. absurd cc;
}

pub routes-quiet : {end : End} {numbers : List ℕ} {r : RouterState NodeState} {sent heard : List (List ℕ)} {lines : List Line} (more : List Line) → IsQuiet end.who more → Routes end numbers r sent heard lines → Routes end numbers r sent heard (lines ++ more)
routes-quiet more quiet h = record { stations = h.stations; inner = end-quiet more quiet h.inner; passed = h.passed; from_one = h.from_one }

-- ---- a message is accepted

-- what was carried is some of what was accepted for stations, whatever waits
pub carried-within : {end : End} {numbers : List ℕ} {r : RouterState NodeState} {sent heard : List (List ℕ)} {lines : List Line} → Routes end numbers r sent heard lines → IsWithin (filter (is_passed end.address) sent) (filter (is_carried numbers) heard)
carried-within {end} {numbers} {r} {sent} {heard} h =
    let front = filter (is_passed end.address) sent in
    let waits = option_to_list (waiting_body r.waiting) in
    within-through front (front ++ waits) (filter (is_carried numbers) heard) (within-front front front waits (within-all front)) h.passed

within-wait : (front all : List (List ℕ)) (body : List ℕ) → IsWithin front all → IsWithin (front ++ option_to_list (waiting_body body)) (all ++ body ∷ [])
within-wait front all [] within = rw (append-nil front) (within-front front all ([] ∷ []) within)
within-wait front all (b ∷ bs) within = within-both (b ∷ bs) front all within

accepts-by : {end : End} {numbers : List ℕ} {r : RouterState NodeState} {sent heard : List (List ℕ)} {lines : List Line} (body : List ℕ) (carried : Bool) → is_carried numbers body ≡ carried → IsFromOne numbers body
    → (carried ≡ false → is_reply body ≡ false → IsTo end.address body)
    → (carried ≡ false → is_reply body ≡ true → answered_place r.inner.initiator.issued body ≡ None → IsLost (filter is_command (filter (is_from end.address) sent)) r.inner.initiator.issued body)
    → Routes end numbers r sent heard lines
    → Routes end numbers (if carried then record r { waiting = body } else record r { inner = after_accept r.inner body }) sent (heard ++ body ∷ [])
    (lines ++ act_lines_at carried end.who act.Accept (Some (if carried then did.Stray else did_accept r.inner body)) body)
accepts-by {end} {numbers} {r} {sent} {heard} {lines} body true is from to lost h = record {
  stations = h.stations;
  inner = subst (λ own. EndHolds end own r.inner (filter (is_from end.address) sent) (lines ++ line.Routed end.who body ∷ [])) (sym (filter-drops (is_own numbers) heard body (ap not is)))
      (end-quiet (line.Routed end.who body ∷ []) (routed-quiet end.who end.who body) h.inner);
  passed = subst (λ carried. IsWithin (filter (is_passed end.address) sent ++ option_to_list (waiting_body body)) carried) (sym (filter-keeps (is_carried numbers) heard body is))
      (within-wait (filter (is_passed end.address) sent) (filter (is_carried numbers) heard) body (carried-within h));
  from_one = all-push (IsFromOne numbers) heard body h.from_one from;
}
accepts-by {end} {numbers} {r} {sent} {heard} {lines} body false is from to lost h = record {
  stations = h.stations;
  inner = rw (filter-keeps (is_own numbers) heard body (ap not is)) (end-accept r.inner body (to refl) (lost refl) h.inner);
  passed = rw (filter-drops (is_carried numbers) heard body is) h.passed;
  from_one = all-push (IsFromOne numbers) heard body h.from_one from;
}

-- with the lines of it: a carried body is told as routed, and another one as the node's
pub routes-accept : {end : End} {numbers : List ℕ} (r : RouterState NodeState) {sent heard : List (List ℕ)} {lines : List Line} (body : List ℕ) → IsFromOne numbers body
    → (is_carried numbers body ≡ false → is_reply body ≡ false → IsTo end.address body)
    → (is_carried numbers body ≡ false → is_reply body ≡ true → answered_place r.inner.initiator.issued body ≡ None → IsLost (filter is_command (filter (is_from end.address) sent)) r.inner.initiator.issued body)
    → Routes end numbers r sent heard lines
    → Routes end numbers (routed_node.host.after_accept r body) sent (heard ++ body ∷ []) (lines ++ act_lines_at (is_carried numbers body) end.who act.Accept (Some (routed_node.host.did r body)) body)
routes-accept {end} {numbers} r {sent} {heard} {lines} body from to lost h =
    let carried = is_carried numbers body in
    let by : Bool → Type 0 = λ b. Routes end numbers (if b then record r { waiting = body } else record r { inner = after_accept r.inner body }) sent (heard ++ body ∷ [])
    (lines ++ act_lines_at carried end.who act.Accept (Some (if b then did.Stray else did_accept r.inner body)) body) in
    subst by (ap (λ numbers. is_carried numbers body) (sym h.stations)) (accepts-by body carried refl from to lost h)

-- ---- a message is handed out

next-by : {end : End} {numbers : List ℕ} (r : RouterState NodeState) {sent heard : List (List ℕ)} {lines : List Line} (body : List ℕ) (waiting : List ℕ) → r.waiting ≡ waiting → option_or (waiting_body waiting) (next_body r.inner) ≡ Some body
    → is_declared numbers end.address ≡ false → Routes end numbers r sent heard lines
    → Routes end numbers (if is_some (waiting_body waiting) then record r { waiting = []; last = handed.Carried } else record r { last = last_after r.last (next_body r.inner); inner = after_next r.inner }) (sent ++ body ∷ []) heard lines
next-by {end} {numbers} r {sent} {heard} {lines} body [] none next apart h =
    let handed = end-next r.inner body next h.inner in
    let own = filter (is_from end.address) sent in
    let is : is_from end.address body ≡ true = eq-eqb _ _ (handed.from_it (length own) body (get-seam own body [])) in
    record {
      stations = h.stations;
      inner = rw (filter-keeps (is_from end.address) sent body is) handed;
      passed = rw (filter-drops (is_passed end.address) sent body (ap not is)) h.passed;
      from_one = h.from_one;
    }
next-by {end} {numbers} r {sent} {heard} {lines} body (b ∷ bs) some next apart h =
    let same : body ≡ b ∷ bs = sym (same-some (b ∷ bs) body next) in
    let front = filter (is_passed end.address) sent in
    let passed : IsWithin (front ++ body ∷ []) (filter (is_carried numbers) heard) =
    subst (λ (x : List ℕ). IsWithin (front ++ x ∷ []) (filter (is_carried numbers) heard)) (sym same) (subst (λ (waiting : List ℕ). IsWithin (front ++ option_to_list (waiting_body waiting)) (filter (is_carried numbers) heard)) some h.passed) in
    let has = filter-has (is_carried numbers) heard body (within-has (front ++ body ∷ []) (filter (is_carried numbers) heard) body passed (get-last front body)) in
    let not_own : is_from end.address body ≡ false = false_from_ne_true (is_from end.address body) (λ is.
    let no : true ≡ false = sym (h.from_one has.0.0 body has.0.1) ∙ ap (is_declared numbers) (eqb-true _ _ is) ∙ apart in absurd cc) in
    record {
      stations = h.stations;
      inner = rw (filter-drops (is_from end.address) sent body not_own) h.inner;
      passed = rw (append-nil (filter (is_passed end.address) (sent ++ body ∷ [])), filter-keeps (is_passed end.address) sent body (ap not not_own)) passed;
      from_one = h.from_one;
    }

pub routes-next : {end : End} {numbers : List ℕ} (r : RouterState NodeState) {sent heard : List (List ℕ)} {lines : List Line} (body : List ℕ) → routed_node.host.next_body r ≡ Some body → is_declared numbers end.address ≡ false
    → Routes end numbers r sent heard lines → Routes end numbers (routed_node.host.after_next r) (sent ++ body ∷ []) heard lines
routes-next r body next apart h = next-by r body r.waiting refl next apart h

-- ---- a fate

dropped-quiet : (who : Who) (what : Fate) → IsQuiet who (news_lines who (news_of_last handed.Carried what news.Nothing))
dropped-quiet who fate.Delivered = quiet-none who
dropped-quiet who fate.Undelivered = (news-silent who who news.Dropped, λ n. refl)

told-by : {end : End} {numbers : List ℕ} (r : RouterState NodeState) {sent heard : List (List ℕ)} {lines : List Line} (what : Fate) (last : Handed) → Routes end numbers r sent heard lines
    → Routes end numbers (after_fate last r (after_told r.inner what)) sent heard (lines ++ news_lines end.who (news_of_last last what (news_told r.inner what)))
told-by {end} {numbers} r {sent} {heard} {lines} what handed.Carried h = record {
  stations = h.stations;
  inner = end-quiet (news_lines end.who (news_of_last handed.Carried what news.Nothing)) (dropped-quiet end.who what) h.inner;
  passed = h.passed;
  from_one = h.from_one;
}
told-by {end} r {lines = lines} what handed.Told h = rw (append-nil lines) h
told-by r what handed.Inner h = record { stations = h.stations; inner = end-told r.inner what h.inner; passed = h.passed; from_one = h.from_one }

pub routes-told : {end : End} {numbers : List ℕ} (r : RouterState NodeState) {sent heard : List (List ℕ)} {lines : List Line} (what : Fate) → Routes end numbers r sent heard lines
    → Routes end numbers (routed_node.host.after_told r what) sent heard (lines ++ news_lines end.who (routed_node.host.news r what))
routes-told r what h = told-by r what r.last h

-- ---- a tick, and a command that is issued

pub routes-tick : {end : End} {numbers : List ℕ} (r : RouterState NodeState) {sent heard : List (List ℕ)} {lines : List Line} → Routes end numbers r sent heard lines
    → Routes end numbers (routed_node.host.after_tick r) sent heard (lines ++ gone_lines end.who (routed_node.host.unanswered r))
routes-tick r h = record { stations = h.stations; inner = end-tick r.inner h.inner; passed = h.passed; from_one = h.from_one }

pub routes-issue : {end : End} {numbers : List ℕ} (r : RouterState NodeState) {sent heard : List (List ℕ)} {lines : List Line} (src dst : ℕ) (payload : List ℕ) → eqb (bit_at (slice_index payload 0) 6) 1 ≡ false
    → length r.inner.initiator.issued < 65535 → src ≡ end.address → end.may dst ≡ true → Routes end numbers r sent heard lines → Routes end numbers (with_inner r (after_node_issue r.inner src dst payload)) sent heard lines
routes-issue r src dst payload no-reply few named may h = record { stations = h.stations; inner = end-issue r.inner src dst payload no-reply few named may h.inner; passed = h.passed; from_one = h.from_one }
