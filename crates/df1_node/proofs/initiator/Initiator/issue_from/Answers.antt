use Rattle.std.proofs.Common.{◌≡◌, ◌+◌, ◌%◌, ℕ, List, [], ◌∷◌, ◌++◌, ap, ◌∙◌, sym, length, drop, slice_index}
use Rattle.std.proofs.lemmas.List.{take_rest}
use Rattle.pccc_envelope.specs.Envelope.{spelling}
use Rattle.df1_node.specs.Initiator.{InitiatorState, Issued, Waiting, after_issue, next_issued}
use Rattle.df1_node.specs.Commands.{all_issued}
use Rattle.df1_node.proofs.Steps.{length-issued}
use Rattle.df1_node.proofs.initiator.Initiator.issue_from.Goals as goal

pub returns-clause-ok : goal.returns-clause-ok
returns-clause-ok c =
    let bytes : List ℕ = c.self.inside.bytes.items in
    let s : InitiatorState = record { node = c.self.inside.node; tns = c.self.inside.tns; reply_ticks = c.self.inside.reply_ticks; window = c.self.inside.window; per_source = c.self.inside.per_source; issued = all_issued bytes c.self.inside.issued.items } in
    let count_is : c.len-count.result ≡ length s.issued = c.len-count.ensures ∙ c.self.inside.issued.ok.0 ∙ sym (length-issued bytes c.self.inside.issued.items) in
    let numbered : ℕ → List ℕ → List ℕ = λ n rest. spelling (record { dst = c.args.dst; src = c.args.src; cmd = slice_index c.args.payload.now 0; sts = 0; tns = (s.tns + n) % 65536 }) ++ rest in
    let body_is : c.deref.result.now ≡ next_issued s c.args.src c.args.dst c.args.payload.now =
    c.deref.ensures.0 ∙ c.command_body-body.ensures.body ∙ ap (numbered c.len-count.result) (take_rest c.args.payload.now 1) ∙ ap (λ n. numbered n (drop 1 c.args.payload.now)) count_is in
    let more : List ℕ → List Issued = λ b. record { body = b; standing = Waiting } ∷ [] in
    let before : all_issued c.make_room.new.bytes.items c.make_room.new.issued.items ≡ s.issued =
    ap (λ (bs : List ℕ). all_issued bs c.make_room.new.issued.items) c.make_room.ensures.bytes ∙ ap (all_issued bytes) c.make_room.ensures.issued in
    ap (λ (issued : List Issued). record s { issued = issued }) (c.push_command.ensures.issued ∙ ap (λ (issued : List Issued). issued ++ more c.deref.result.now) before ∙ ap (λ (b : List ℕ). s.issued ++ more b) body_is)
    ∙ ap (λ (i : InitiatorState). after_issue i c.args.src c.args.dst c.args.payload.now) c.self.view_is
