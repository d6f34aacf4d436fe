-- What a run does to the bytes that an end stands for. Assumes nothing.
use Rattle.std.proofs.Common.{◌≡◌, ℕ, zero, suc, ◌+◌, Bool, true, false, not, List, [], ◌∷◌, ◌++◌, take, Option, Some, None, refl, sym, subst, append_assoc, append-nil, arith}
use Rattle.std.specs.Prelude.{if◌then◌else◌}
use Rattle.std.specs.Option.{option_map}
use Rattle.df1_check.specs.declared.Check.{Check}
use Rattle.c_ends.specs.declared.held.Held.{Held}
use Rattle.c_ends.specs.declared.held.Held.TheVariants as held
use Rattle.c_ends.specs.declared.told.StepTold.{StepTold}
use Rattle.c_calls.specs.Answers.{told_of}
use Rattle.c_calls.specs.Ends.{after_byte, after_take}
use Rattle.c_calls.specs.Runs.{Given, Heard, after_given, after_heard, given_behind, heard_behind, heard_of, heard_told, is_due, out_at, step_at, still}
use Rattle.df1_c.specs.Arrived.{IsEndFor}
use Rattle.df1_c.proofs.Arriving.{heard, taken}

-- ---- bytes that are heard

-- a run went on over so many more of these bytes, and what is held stands for those too
abbrev RunsOn : Check → (before bytes : List ℕ) → (used : ℕ) → Heard → Type 0
RunsOn check before bytes used run = (more : ℕ) × (run.used ≡ used + more) × IsEndFor check (before ++ take more bytes) (Some run.after)

runs-at : (due : Bool) (used : ℕ) (step : StepTold) (after : Held) (rest : Heard) (check : Check) (before : List ℕ) (byte : ℕ) (bytes : List ℕ)
    → IsEndFor check (before ++ byte ∷ []) (Some after) → RunsOn check (before ++ byte ∷ []) bytes (used + 1) rest
    → RunsOn check before (byte ∷ bytes) used (if due then record { used = used + 1; step = step; after = after } else rest)
runs-at true used step after rest check before byte bytes stands on = (1, refl, stands)
runs-at false used step after rest check before byte bytes stands on =
    let more = on.0 in
    let e : rest.used ≡ used + 1 + more = on.1 in
    let all : rest.used ≡ used + suc more = omega arith in
    (suc more, all, subst (λ (heard : List ℕ). IsEndFor check heard (Some rest.after)) (append_assoc before (byte ∷ []) (take more bytes)) on.2)

none : (used : ℕ) → used ≡ used + 0
none used = omega arith

runs-on : (bytes : List ℕ) (used : ℕ) (step : StepTold) (held : Held) (check : Check) (before : List ℕ)
    → IsEndFor check before (Some held) → RunsOn check before bytes used (heard_behind used step held bytes)
runs-on [] used step held check before stands =
    (0, none used, subst (λ (all : List ℕ). IsEndFor check all (Some held)) (sym (append-nil before)) stands)
runs-on (byte ∷ bytes) used step held check before stands =
    let next = heard held byte check before stands in
    runs-at (is_due held byte) used (step_at held byte) (after_byte held byte) (heard_behind (used + 1) (step_at held byte) (after_byte held byte) bytes)
    check before byte bytes next (runs-on bytes (used + 1) (step_at held byte) (after_byte held byte) check (before ++ byte ∷ []) next)

whole-run : (held : Held) (bytes : List ℕ) (check : Check) (before : List ℕ) → IsEndFor check before (Some held)
    → IsEndFor check (before ++ take (heard_of held bytes).used bytes) (Some (heard_of held bytes).after)
whole-run held bytes check before stands =
    let on = runs-on bytes 0 still held check before stands in
    let e : (heard_of held bytes).used ≡ 0 + on.0 = on.1 in
    let first : (heard_of held bytes).used ≡ on.0 = omega arith in
    subst (λ (n : ℕ). IsEndFor check (before ++ take n bytes) (Some (heard_of held bytes).after)) (sym first) on.2

-- after a run an end stands for the bytes of it that were used, too
pub run-stands : (old new : Option Held) (bytes : List ℕ) (had used : ℕ) → new ≡ option_map (λ held. after_heard held bytes) old
    → used ≡ told_of old (λ held. option_map (λ run. run.used) (heard_told held bytes)) had
    → (check : Check) (before : List ℕ) → IsEndFor check before old → IsEndFor check (before ++ take used bytes) new
run-stands None new bytes had used after is check before stands = absurd stands
run-stands (Some (held.Decoder decoder)) new bytes had used after is check before stands = absurd stands
run-stands (Some (held.Duplex end)) new bytes had used after is check before stands =
    subst (λ (n : ℕ). IsEndFor check (before ++ take n bytes) new) (sym is)
    (subst (λ (o : Option Held). IsEndFor check (before ++ take (heard_of (held.Duplex end) bytes).used bytes) o) (sym after) (whole-run (held.Duplex end) bytes check before stands))
run-stands (Some (held.Master end)) new bytes had used after is check before stands =
    subst (λ (n : ℕ). IsEndFor check (before ++ take n bytes) new) (sym is)
    (subst (λ (o : Option Held). IsEndFor check (before ++ take (heard_of (held.Master end) bytes).used bytes) o) (sym after) (whole-run (held.Master end) bytes check before stands))
run-stands (Some (held.Slave end)) new bytes had used after is check before stands =
    subst (λ (n : ℕ). IsEndFor check (before ++ take n bytes) new) (sym is)
    (subst (λ (o : Option Held). IsEndFor check (before ++ take (heard_of (held.Slave end) bytes).used bytes) o) (sym after) (whole-run (held.Slave end) bytes check before stands))

-- ---- bytes that are given

stands-either : (none last : Bool) (ended final rest : Given) (check : Check) (before : List ℕ)
    → IsEndFor check before (Some ended.after) → IsEndFor check before (Some final.after) → IsEndFor check before (Some rest.after)
    → IsEndFor check before (Some (if none then ended else if last then final else rest).after)
stands-either true last ended final rest check before a b c = a
stands-either false true ended final rest check before a b c = b
stands-either false false ended final rest check before a b c = c

gives-on : (room : ℕ) (bytes : List ℕ) (held : Held) (check : Check) (before : List ℕ)
    → IsEndFor check before (Some held) → IsEndFor check before (Some (given_behind bytes room held).after)
gives-on zero bytes held check before stands = stands
gives-on (suc room) bytes held check before stands =
    let next = taken held check before stands in
    let more = bytes ++ (out_at held).byte ∷ [] in
    stands-either (not (out_at held).there) (out_at held).last
    (record { bytes = bytes; last = false; after = after_take held }) (record { bytes = more; last = true; after = after_take held })
    (given_behind more room (after_take held)) check before next next (gives-on room more (after_take held) check before next)

-- after a run an end stands for the same bytes
pub given-stands : (old new : Option Held) (room : ℕ) → new ≡ option_map (after_given room) old
    → (check : Check) (before : List ℕ) → IsEndFor check before old → IsEndFor check before new
given-stands None new room after check before stands = absurd stands
given-stands (Some (held.Decoder decoder)) new room after check before stands = absurd stands
given-stands (Some (held.Duplex end)) new room after check before stands =
    subst (λ (o : Option Held). IsEndFor check before o) (sym after) (gives-on room [] (held.Duplex end) check before stands)
given-stands (Some (held.Master end)) new room after check before stands =
    subst (λ (o : Option Held). IsEndFor check before o) (sym after) (gives-on room [] (held.Master end) check before stands)
given-stands (Some (held.Slave end)) new room after check before stands =
    subst (λ (o : Option Held). IsEndFor check before o) (sym after) (gives-on room [] (held.Slave end) check before stands)
