use Rattle.std.proofs.Common.{◌≡◌, ◌+◌, ◌-◌, ◌%◌, ◌<◌, ℕ, suc, List, [], ◌∷◌, ◌++◌, map, length, drop, get_or, slice_index, ap, sym, subst, ◌∙◌, arith, add-one, drop-cons, vec_len, vec_capacity}
use Rattle.std.proofs.lemmas.List.{length_push, take_rest}
use Rattle.pccc_envelope.specs.Envelope.{spelling}
use Rattle.df1_node.specs.Initiator.{InitiatorState, Issued, Waiting, after_issue, next_issued}
use Rattle.df1_node.specs.Commands.{all_issued}
use Rattle.df1_node.specs.Together.{HasRoomFor, after_all}
use Rattle.df1_node.proofs.Steps.{length-issued}
use Rattle.df1_node.proofs.initiator.Initiator.issue_all.Goals as goal

-- a payload is issued, and those after it are still to be issued
issued-next : (s next : InitiatorState) (dst : ℕ) (payload : List ℕ) (left rest : List (List ℕ)) (all : InitiatorState) → left ≡ payload ∷ rest → next ≡ after_issue s s.node dst payload → after_all s dst left ≡ all → after_all next dst rest ≡ all
issued-next s next dst payload left rest all first is before =
    ap (λ (i : InitiatorState). after_all i dst rest) is ∙ sym (ap (after_all s dst) first) ∙ before

next-mapped : {A : Type 0} (xs : List A) (f : A → List ℕ) (at : ℕ) (x : A) → x ≡ get_or xs at x → at < length xs → map f (drop at xs) ≡ f x ∷ map f (drop (at + 1) xs)
next-mapped xs f at x is here =
    ap (map f) (drop-cons xs at x here)
    ∙ ap (λ y. f y ∷ map f (drop (suc at) xs)) (sym is)
    ∙ ap (λ (k : ℕ). f x ∷ map f (drop k xs)) (sym (add-one at))

pub loop-payload-preserved : goal.loop-payload-preserved
loop-payload-preserved c =
    let at : ℕ = c.loop-payload.payload-index in
    let bytes : List ℕ = c.loop-payload.self-inside.bytes.items in
    let rest : ℕ = length c.args.payloads.now - (at + 1) in
    let here : at < length c.args.payloads.now = c.loop-payload-test.true in
    let left : length c.args.payloads.now - at ≡ rest + 1 = omega (arith, here) in
    let count_is : c.len.result ≡ length (all_issued bytes c.loop-payload.self-inside.issued.items) = c.len.ensures ∙ c.loop-payload.self-inside.issued.ok.0 ∙ sym (length-issued bytes c.loop-payload.self-inside.issued.items) in
    let body_is = c.deref-in-loop-payload-2.ensures.0 ∙ c.command_body-body.ensures.body in
    let s : InitiatorState = record { node = c.loop-payload.self-inside.node; tns = c.loop-payload.self-inside.tns; reply_ticks = c.loop-payload.self-inside.reply_ticks; window = c.loop-payload.self-inside.window; per_source = c.loop-payload.self-inside.per_source; issued = all_issued bytes c.loop-payload.self-inside.issued.items } in
    let payload : List ℕ = c.payload-item.result.items in
    let numbered : ℕ → ℕ → List ℕ → List ℕ = λ cmd n after. spelling (record { dst = c.args.dst; src = s.node; cmd = cmd; sts = 0; tns = (s.tns + n) % 65536 }) ++ after in
    let issued_body : c.deref-in-loop-payload-2.result.now ≡ next_issued s s.node c.args.dst payload =
    body_is
    ∙ ap (numbered (slice_index c.deref.result.now 0) c.len.result) (take_rest c.deref-in-loop-payload.result.now 1 ∙ ap (λ (bs : List ℕ). drop 1 bs) c.deref-in-loop-payload.ensures.0)
    ∙ ap (λ (bs : List ℕ). numbered (slice_index bs 0) c.len.result (drop 1 payload)) c.deref.ensures.0
    ∙ ap (λ (n : ℕ). numbered (slice_index payload 0) n (drop 1 payload)) count_is in
    let source : slice_index c.deref-in-loop-payload-2.result.now 1 ≡ c.loop-payload.self-inside.node = ap (λ (bs : List ℕ). slice_index bs 1) body_is in
    let more : length c.push_command.new.issued.items ≡ length c.loop-payload.self-inside.issued.items + 1 =
    sym (length-issued c.push_command.new.bytes.items c.push_command.new.issued.items) ∙ ap length c.push_command.ensures.issued
    ∙ length_push (all_issued bytes c.loop-payload.self-inside.issued.items) _ ∙ ap (λ (n : ℕ). n + 1) (length-issued bytes c.loop-payload.self-inside.issued.items) in
    record {
      are = c.push_command.ensures.are;
      narrow = c.loop-payload.invariant.narrow;
      room =
          subst (λ (src : ℕ). HasRoomFor rest src c.push_command.new.bytes.items (vec_capacity c.push_command.new.bytes) (vec_len c.push_command.new.issued) (vec_capacity c.push_command.new.issued) c.push_command.new.queue) source
          (c.push_command.ensures.room rest
          (subst (λ (src : ℕ). HasRoomFor (rest + 1) src bytes (vec_capacity c.loop-payload.self-inside.bytes) (vec_len c.loop-payload.self-inside.issued) (vec_capacity c.loop-payload.self-inside.issued) c.loop-payload.self-inside.queue) (sym source)
          (subst (λ (k : ℕ). HasRoomFor k c.loop-payload.self-inside.node bytes (vec_capacity c.loop-payload.self-inside.bytes) (vec_len c.loop-payload.self-inside.issued) (vec_capacity c.loop-payload.self-inside.issued) c.loop-payload.self-inside.queue) left c.loop-payload.invariant.room)));
      few = omega (arith, more, left, c.loop-payload.invariant.few);
      issued =
          issued-next s (record s { issued = all_issued c.push_command.new.bytes.items c.push_command.new.issued.items }) c.args.dst payload _ _ _
          (next-mapped c.args.payloads.now (λ payload. payload.items) at c.payload-item.result c.payload-item.is here)
          (ap (λ (is : List Issued). record s { issued = is }) (c.push_command.ensures.issued ∙ ap (λ (b : List ℕ). s.issued ++ record { body = b; standing = Waiting } ∷ []) issued_body))
          c.loop-payload.invariant.issued;
    }
