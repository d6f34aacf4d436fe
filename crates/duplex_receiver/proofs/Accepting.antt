-- A body that is accepted has 6 to N bytes, and there is room for it.
use Rattle.std.proofs.Common.{◌≡◌, ℕ, ◌+◌, ◌≤◌, Bool, true, false, List, [], ◌∷◌, ◌++◌, length, nat_lt, Option, Some, None, sym, subst, refl, arith}
use Rattle.std.proofs.lemmas.Bool.Decides.{nat_tests}
use Rattle.std.specs.Prelude.{IsTrue, ◌||◌, ◌==◌, if◌then◌else◌}
use Rattle.df1_base.specs.declared.link.Act.TheVariants as act
use Rattle.df1_check.specs.declared.Check.{Check}
use Rattle.df1_check.specs.Checks.{Taken}
use Rattle.df1_frame.specs.declared.heard.Heard.{Heard}
use Rattle.df1_frame.specs.declared.heard.Heard.TheVariants as heard
use Rattle.df1_frame.specs.Line.{ReadOff}
use Rattle.df1_frame.specs.Grammar.{Item, Stray, Pair, Frame, Broken, Restart, Front, Nothing, Dle, Opened, OpenedDle, Closed, full_duplex, stray_pair_heard}
use Rattle.df1_frame.specs.Spelling.{body_of as body_spelt, same, check_bytes, check_len, response}
use Rattle.df1_frame.specs.Gathered.{Gathered}
use Rattle.df1_frame.specs.Standing.{Standing, Outside, Ended, AfterDle, Inside, InsideDle, AtCheck, Decoding, decoding, standing, ended, ended_by, lent_at}
use Rattle.df1_frame.specs.Step.{step, outside_next, left_by, response_next}
use Rattle.pccc_envelope.specs.declared.key.Key.{Key}
use Rattle.pccc_envelope.specs.Accepted.{Repeated, Accepted, Refused, is_kept}
use Rattle.pccc_envelope.specs.Envelope.{key_of}
use Rattle.duplex_receiver.specs.Receiver.{Hearing, ReceiverState, verdict_act, act_of, body_at, hearing, act_at, after_byte}

frame-most : (long : Bool) (N : ℕ) (body : List ℕ) → nat_lt N (length body) ≡ long → length (lent_at (if long then Outside else Ended body)) ≤ N
frame-most true N body is = omega arith
frame-most false N body is = grind (arith, nat_tests)

item-most : (N : ℕ) (item : Item) → length (lent_at (ended_by N item)) ≤ N
item-most N (Stray b) = omega arith
item-most N (Pair code) = omega arith
item-most N (Frame pieces check) = frame-most (nat_lt N (length (body_spelt pieces))) N (body_spelt pieces) refl
item-most N (Broken pieces code) = omega arith
item-most N (Restart pieces) = omega arith

items-most : (N : ℕ) (items : List Item) → length (lent_at (ended N items)) ≤ N
items-most N [] = omega arith
items-most N (item ∷ []) = item-most N item
items-most N (item ∷ other ∷ items) = items-most N (other ∷ items)

lent-most : (check : Check) (N : ℕ) (items : List Item) (front : Front) → length (lent_at (standing check N items front)) ≤ N
lent-most check N items Nothing = items-most N items
lent-most check N items Dle = omega arith
lent-most check N items (Opened pieces) = omega arith
lent-most check N items (OpenedDle pieces) = omega arith
lent-most check N items (Closed pieces bytes) = omega arith

-- a frame that is good has at least 6 bytes
abbrev AtLeast6 : Standing × Option Heard → Type 0
AtLeast6 to = to.1 ≡ Some heard.Good → 6 ≤ length (lent_at to.0)

either-6 : (b : Bool) (x y : Standing × Option Heard) → AtLeast6 x → AtLeast6 y → AtLeast6 (if b then x else y)
either-6 true x y first other = first
either-6 false x y first other = other

response-6 : (so_far : Gathered) (b : ℕ) (r : Option Heard) → (r ≡ Some heard.Good → ⊥) → AtLeast6 (response_next so_far b r)
response-6 so_far b None never good = cc
response-6 so_far b (Some h) never good = absurd (never good)

long-6 : (bytes : List ℕ) (running : Taken) (long right short : Bool) → nat_lt (length bytes) 6 ≡ short
    → AtLeast6 (left_by (record { bytes = bytes; long = long; running = running }), Some (if long then heard.Long else (if right then (if short then heard.Short else heard.Good) else heard.BadCheck)))
long-6 bytes running true right short is good = cc
long-6 bytes running false true true is good = cc
long-6 bytes running false true false is good = grind (arith, nat_tests)
long-6 bytes running false false short is good = cc

response-never : (b : ℕ) (ack nak : Bool) → (if ack then Some heard.Ack else (if nak then Some heard.Nak else None)) ≡ Some heard.Good → ⊥
response-never b true nak is = cc
response-never b false true is = cc
response-never b false false is = cc

enquiry-never : (b : ℕ) (enq : Bool) → Some (if enq then heard.Enq else heard.StrayPair b) ≡ Some heard.Good → ⊥
enquiry-never b true is = cc
enquiry-never b false is = cc

stray-never : (b : ℕ) (ack nak enq : Bool) → Some (stray_pair_heard (if ack then Some heard.Ack else (if nak then Some heard.Nak else None)) b) ≡ Some heard.Good → ⊥
stray-never b true nak enq is = cc
stray-never b false true enq is = cc
stray-never b false false enq is = enquiry-never b (b == 5) is

outside-6 : (b : ℕ) → AtLeast6 (outside_next b)
outside-6 b = either-6 (b == 16) (AfterDle, None) (Outside, Some (heard.Stray b)) (λ good. cc) (λ good. cc)

step-6 : (check : Check) (N : ℕ) (s : Standing) (b : ℕ) → AtLeast6 (step check N s b)
step-6 check N Outside b = outside-6 b
step-6 check N (Ended body) b = outside-6 b
step-6 check N AfterDle b =
    either-6 (b == 2) _ (Outside, Some (stray_pair_heard (response b) b)) (λ good. cc) (λ good. absurd (stray-never b (b == 6) ((b == 21) || (b == 15)) (b == 5) good))
step-6 check N (Inside so_far) b = either-6 (b == 16) _ _ (λ good. cc) (λ good. cc)
step-6 check N (InsideDle so_far) b =
    either-6 (b == 2) _ _ (λ good. cc) (either-6 (b == 3) _ _ (λ good. cc) (either-6 (b == 16) _ _ (λ good. cc)
    (response-6 so_far b (response b) (response-never b (b == 6) ((b == 21) || (b == 15))))))
step-6 check N (AtCheck so_far bytes) b =
    either-6 (nat_lt (length bytes + 1) (check_len check)) _ _ (λ good. cc)
    (long-6 so_far.bytes so_far.running so_far.long (same (bytes ++ b ∷ []) (check_bytes check so_far.running.value)) (nat_lt (length so_far.bytes) 6) refl)

-- ---- an act at which a body is accepted

accepted-room : (repeats room : Bool) → verdict_act (if repeats then Repeated else (if room then Accepted else Refused)) ≡ act.Accept → room ≡ true
accepted-room true room is = cc
accepted-room false true is = refl
accepted-room false false is = cc

accept-means : (kept : Option Key) (what : Option Heard) (body : List ℕ) (room : Bool) → act_of kept (record { heard = what; body = body; has_room = room }) ≡ act.Accept
    → (what ≡ Some heard.Good) × (room ≡ true)
accept-means kept None body room is = cc
accept-means kept (Some heard.Good) body room is = (refl, accepted-room (is_kept kept (key_of body)) room is)
accept-means kept (Some heard.BadCheck) body room is = cc
accept-means kept (Some heard.Short) body room is = cc
accept-means kept (Some heard.Long) body room is = cc
accept-means kept (Some (heard.Broken c)) body room is = cc
accept-means kept (Some heard.Restart) body room is = cc
accept-means kept (Some heard.Ack) body room is = cc
accept-means kept (Some heard.Nak) body room is = cc
accept-means kept (Some heard.Enq) body room is = cc
accept-means kept (Some (heard.Stray b)) body room is = cc
accept-means kept (Some (heard.StrayPair c)) body room is = cc

pub accepts-body : (room : List ℕ → Bool) (N : ℕ) (s : ReceiverState) (b : ℕ) → act_at room N s b ≡ act.Accept
    → (6 ≤ length (body_at (after_byte room N s b))) × IsTrue (room (body_at (after_byte room N s b)))
accepts-body room N s b is =
    let h : Hearing = hearing room N s b in
    let means = accept-means s.kept h.heard h.body h.has_room is in
    (step-6 s.decoding.check N s.decoding.standing b means.0, means.1)

-- the body that is lent has at most N bytes
pub lent-fits : (check : Check) (N : ℕ) (bytes : List ℕ) (s : ReceiverState) → ReadOff (full_duplex check N) bytes (decoding check N) s.decoding → length (body_at s) ≤ N
lent-fits check N bytes s stands = subst (λ (d : Decoding). length (lent_at d.standing) ≤ N) (sym stands.is) (lent-most check N stands.items stands.front)
