-- What a station has to give after a byte and at a take, and what the master's ear will hear of it: one that is in step behind all of it stays so.
use Rattle.std.proofs.Common.{◌≡◌, ℕ, Bool, true, false, List, [], ◌∷◌, ◌++◌, Option, Some, None, refl, sym, subst}
use Rattle.std.specs.Prelude.{◌==◌, option_to_list, if◌then◌else◌}
use Rattle.std.specs.Option.{option_map}
use Rattle.std.proofs.lemmas.Bool.{cond_both, and_parts}
use Rattle.df1_base.specs.declared.host.Fate.{Fate}
use Rattle.df1_base.specs.declared.link.Resp.{Resp}
use Rattle.df1_base.specs.declared.link.Resp.TheVariants as resp
use Rattle.df1_check.specs.declared.Check.{Check}
use Rattle.df1_frame.specs.Spelling.{check_of}
use Rattle.df1_node.specs.Node.{NodeState, next_body}
use Rattle.half_frame.specs.declared.framer.Sent.{Sent}
use Rattle.half_frame.specs.declared.heard.SlaveHeard.{SlaveHeard}
use Rattle.half_frame.specs.declared.heard.SlaveHeard.TheVariants as heard
use Rattle.half_frame.specs.MasterStanding.{Standing}
use Rattle.half_frame.specs.MasterStep.{step}
use Rattle.half_frame.specs.Spelling.{bytes_of, unmarked, pair_bytes, reply_sent}
use Rattle.half_frame.proofs.SentLemmas.{bytes_of-unmarked, bytes_of-text}
use Rattle.half_mouth.specs.Giving.{Giving, is_done, taken, take}
use Rattle.half_slave.specs.declared.held.Held.{Held}
use Rattle.half_slave.specs.Slave.{SlaveState, listened, heard_at, is_own, is_quiet, is_answered, verdict, received, told, fate_at_poll, fate_at_ack, fate_at_reset, polled, answered, offered, with_response, mouth_at_take, slave_after_heard, slave_after_byte}
use Rattle.half_slave.proofs.Sizes.{some-left}
use Rattle.lane_cells.specs.Cells.{LaneCell, Ending, ending_of, cell_of}
use Rattle.pccc_envelope.specs.Accepted.{Verdict, Repeated, Accepted, Refused}
use Rattle.each_once.specs.NodeHost.{node_host}
use Rattle.half_line.specs.Rest.{is_between_answers}
use Rattle.half_line.proofs.Complete.QuietLine.{done-left}
use Rattle.half_line.proofs.Certified.AnswersInStep.{after, pair-in-step, reply-in-step}

-- ---- what is begun

-- what was left before is left after it; or nothing was, and a message, or a pair that begins none, is
pub data Begins (check : Check) (before now : List Sent) : Type 0 where
  goes_on : now ≡ before → Begins check before now
  a_reply : before ≡ [] → (body : List ℕ) → now ≡ reply_sent check body → Begins check before now
  a_pair : before ≡ [] → (code : ℕ) → (code == 2) ≡ false → now ≡ unmarked (pair_bytes code) → Begins check before now

offered-begins : (s : SlaveState NodeState) (next : Option (List ℕ)) → s.mouth.left ≡ [] → Begins s.setup.check s.mouth.left (offered node_host s next).mouth.left
offered-begins s None none = a_pair none 4 refl refl
offered-begins s (Some body) none = a_reply none body refl

answered-begins : (s : SlaveState NodeState) (held : Option Held) → s.mouth.left ≡ [] → Begins s.setup.check s.mouth.left (answered node_host s held).mouth.left
answered-begins s (Some message) none = a_reply none s.sending refl
answered-begins s None none = offered-begins s (next_body s.host) none

-- a fate begins nothing
told-begins : (s : SlaveState NodeState) (what : Option Fate) → Begins s.setup.check s.mouth.left (told node_host s what).mouth.left
told-begins s None = goes_on refl
told-begins s (Some what) = goes_on refl

told-answers : (s : SlaveState NodeState) (what : Option Fate) → s.mouth.left ≡ [] → Begins s.setup.check s.mouth.left (answered node_host (told node_host s what) (told node_host s what).held).mouth.left
told-answers s None none = answered-begins s s.held none
told-answers s (Some what) none = answered-begins (told node_host s (Some what)) None none

received-begins : (s : SlaveState NodeState) (v : Verdict) → Begins s.setup.check s.mouth.left (received node_host s v).mouth.left
received-begins s Repeated = goes_on refl
received-begins s Accepted = goes_on refl
received-begins s Refused = goes_on refl

heard-begins : (s : SlaveState NodeState) (what : Option SlaveHeard) → Begins s.setup.check s.mouth.left (slave_after_heard node_host s what).mouth.left
heard-begins s None = goes_on refl
heard-begins s (Some (heard.Addressed stn)) =
    cond_both (is_own s stn) (received node_host s (verdict node_host s)) s (λ (now : SlaveState NodeState). Begins s.setup.check s.mouth.left now.mouth.left) (λ own. received-begins s (verdict node_host s)) (λ other. goes_on refl)
heard-begins s (Some (heard.Header stn)) = goes_on refl
heard-begins s (Some (heard.Poll stn)) =
    cond_both (is_answered s stn) (polled node_host s) s (λ (now : SlaveState NodeState). Begins s.setup.check s.mouth.left now.mouth.left)
    (λ answers. told-answers s (fate_at_poll s.setup.max_sends s.held) (done-left s.mouth.left (and_parts (is_done s.mouth) _ (and_parts (is_own s stn) (is_quiet s) answers).1).0)) (λ passes. goes_on refl)
heard-begins s (Some heard.BadPoll) = goes_on refl
heard-begins s (Some (heard.Damaged stn)) = goes_on refl
heard-begins s (Some heard.Ack) = told-begins s (fate_at_ack s.held)
heard-begins s (Some heard.Reset) = told-begins s (fate_at_reset s.held)
heard-begins s (Some (heard.Stray b)) = goes_on refl
heard-begins s (Some (heard.StrayPair code)) = goes_on refl

pub byte-begins : (s : SlaveState NodeState) (b : ℕ) → Begins s.setup.check s.mouth.left (slave_after_byte node_host s b).mouth.left
byte-begins s b = heard-begins (listened s b) (heard_at s b)

-- at a take a response is
response-begins : (check : Check) (g : Giving) (r : Option Resp) → g.left ≡ [] → Begins check g.left (with_response g r).left
response-begins check g None none = goes_on refl
response-begins check g (Some resp.Ack) none = a_pair none 6 refl refl
response-begins check g (Some resp.Nak) none = a_pair none 21 refl refl

pub take-begins : (check : Check) (g : Giving) (r : Option Resp) → Begins check g.left (mouth_at_take g r).left
take-begins check g r = cond_both (is_done g) (with_response g r) g (λ (now : Giving). Begins check g.left now.left) (λ done. response-begins check g r (done-left g.left done)) (λ gives. goes_on refl)

-- ---- an ear that hears these cells, and then what is left, is in step behind it, and where a transmission ends

abbrev pub EndsInStep : Option Ending → Standing → Type 0
EndsInStep None at = Unit {0}
EndsInStep (Some e) at = is_between_answers at ≡ true

abbrev pub Leads : Check → Standing → List LaneCell → List Sent → Type 0
Leads check at [] left = is_between_answers (after check at (bytes_of left)) ≡ true
Leads check at (cell ∷ cells) left = EndsInStep cell.ends (step check 250 at cell.byte).0 × Leads check (step check 250 at cell.byte).0 cells left

leads-now : (check : Check) (at : Standing) (before now : List Sent) → Begins check before now → Leads check at [] before → Leads check at [] now
leads-now check at before now (goes_on is) leads = subst (λ (left : List Sent). Leads check at [] left) (sym is) leads
leads-now check at before now (a_reply none body is) leads =
    let here : is_between_answers at ≡ true = subst (λ (left : List Sent). Leads check at [] left) none leads in
    subst (λ (left : List Sent). Leads check at [] left) (sym is)
    (subst (λ (bytes : List ℕ). is_between_answers (after check at bytes) ≡ true) (sym (bytes_of-text body (check_of check body))) (reply-in-step check at body here))
leads-now check at before now (a_pair none code other is) leads =
    let here : is_between_answers at ≡ true = subst (λ (left : List Sent). Leads check at [] left) none leads in
    subst (λ (left : List Sent). Leads check at [] left) (sym is)
    (subst (λ (bytes : List ℕ). is_between_answers (after check at bytes) ≡ true) (sym (bytes_of-unmarked (pair_bytes code))) (pair-in-step check at code other here))

pub leads-begin : (check : Check) (at : Standing) (cells : List LaneCell) (before now : List Sent) → Begins check before now → Leads check at cells before → Leads check at cells now
leads-begin check at [] before now begins leads = leads-now check at before now begins leads
leads-begin check at (cell ∷ cells) before now begins leads = (leads.0, leads-begin check (step check 250 at cell.byte).0 cells before now begins leads.1)

-- the last byte alone ends a transmission
ends-given : (at : Standing) (sending : List ℕ) (number : Option ℕ) → is_between_answers at ≡ true → EndsInStep (option_map (ending_of sending) number) at
ends-given at sending None is = tt
ends-given at sending (Some n) is = is

leads-given : (check : Check) (at : Standing) (g : Giving) (sending : List ℕ) (left : List Sent) → g.left ≡ left → Leads check at [] left → Leads check at (option_to_list (option_map (cell_of sending) (taken g left).1)) (taken g left).0.left
leads-given check at g sending [] is leads = subst (λ (left : List Sent). Leads check at [] left) (sym is) leads
leads-given check at g sending (sent ∷ []) is leads = (ends-given (step check 250 at sent.byte).0 sending g.number leads, leads)
leads-given check at g sending (sent ∷ next ∷ left) is leads = (subst (λ (last : Bool). EndsInStep (option_map (ending_of sending) (if last then g.number else None)) (step check 250 at sent.byte).0) (sym (some-left next left)) tt, leads)

pub leads-take : (check : Check) (at : Standing) (cells : List LaneCell) (g : Giving) (sending : List ℕ) → Leads check at cells g.left → Leads check at (cells ++ option_to_list (option_map (cell_of sending) (take g).1)) (take g).0.left
leads-take check at [] g sending leads = leads-given check at g sending g.left refl leads
leads-take check at (cell ∷ cells) g sending leads = (leads.0, leads-take check (step check 250 at cell.byte).0 cells g sending leads.1)
