-- Unit steps of one kind at the master.
use Rattle.std.proofs.Common.{◌≡◌, ◌∙◌, ℕ, zero, suc, Bool, true, false, List, [], ◌∷◌, ◌++◌, map, Option, None, Some, IsNone, refl, sym, ap, append-nil, append_assoc}
use Rattle.std.specs.Prelude.{replicate, not, ◌&&◌, is_some, if◌then◌else◌}
use Rattle.std.specs.Option.{option_map, option_to_list}
use Rattle.std.proofs.lemmas.Bool.{and_parts}
use Rattle.df1_base.specs.declared.link.Out.{Out}
use Rattle.half_mouth.specs.Giving.{Giving, is_done, take}
use Rattle.half_master.specs.Master.{MasterState, is_idle, is_quiet, begun_of, begun, given_next, master_after_take, out_at_take}
use Rattle.half_master.proofs.Draining.{done-none, none-done}
use Rattle.replay_report.specs.declared.record.Line.{Line}
use Rattle.replay_report.specs.Report.{sent_lines}
use Rattle.lane_cells.specs.Cells.{LaneCell, cell_of}
use Rattle.script_statement.specs.declared.who.Who.TheVariants.{M}
use Rattle.half_line.specs.Behind.{Behind}
use Rattle.half_line.specs.Acts.{LineStationState, HalfState, MasterDeed, Give, Tick, half_state, byte_given, joined, master_after, after_master_deed}
use Rattle.half_line.specs.Steps.{after_master_deeds, master_bytes_over, master_lines_over}

-- ---- a master that is quiet

-- no message is begun
none-next : (done idle : Bool) (next : Option (List ℕ)) → (done && not (idle && is_some next)) ≡ true → (if done && idle then next else None) ≡ None
none-next true true None e = refl
none-next true true (Some body) e = absurd cc
none-next true false next e = refl
none-next false idle next e = absurd cc

quiet-done : {H : Type 0} (h : Behind H) (m : MasterState H) → is_quiet h.host m ≡ true → is_done m.mouth ≡ true
quiet-done h m quiet = (and_parts (is_done m.mouth) (not (is_idle m.phase && is_some (h.host.next_body m.host))) quiet).0

quiet-begun : {H : Type 0} (h : Behind H) (m : MasterState H) → is_quiet h.host m ≡ true → begun h.host m ≡ m
quiet-begun h m quiet = ap (begun_of h.host m) (none-next (is_done m.mouth) (is_idle m.phase) (h.host.next_body m.host) quiet)

-- nothing is given
pub quiet-nothing : {H : Type 0} (h : Behind H) (m : MasterState H) → is_quiet h.host m ≡ true → out_at_take h.host m ≡ None
quiet-nothing {H} h m quiet = ap (λ (e : MasterState H). (take e.mouth).1) (quiet-begun h m quiet) ∙ done-none m.mouth (quiet-done h m quiet)

none-is : {A : Type 0} (o : Option A) → o ≡ None → IsNone o
none-is None e = refl
none-is (Some x) e = absurd cc

-- and nothing changes
pub quiet-same : {H : Type 0} (h : Behind H) (m : MasterState H) → is_quiet h.host m ≡ true → master_after_take h.host m ≡ m
quiet-same {H} h m quiet =
    let none = done-none m.mouth (quiet-done h m quiet) in
    let same = (none-done m.mouth (rw none refl)).1 in
    ap given_next (quiet-begun h m quiet) ∙ ap (λ (g : Giving). let e : MasterState H = record m { mouth = g } in e) same

pub joins-nothing : (stations : List LineStationState) → map (joined []) stations ≡ stations
joins-nothing [] = refl
joins-nothing (side ∷ stations) =
    ap (λ (lane : List LaneCell). (let s : LineStationState = record side { to_it = lane } in s) ∷ map (joined []) stations) (append-nil side.to_it)
    ∙ ap (λ (more : List LineStationState). side ∷ more) (joins-nothing stations)

pub quiet-deed : {H : Type 0} (h : Behind H) (s : HalfState H) → is_quiet h.host s.master ≡ true → after_master_deed h s Give ≡ s
quiet-deed {H} h s quiet =
    let after : MasterState H → Option Out → HalfState H = λ m out. half_state m (map (joined (option_to_list (option_map (cell_of m.sending) out))) s.stations) s.deceived in
    ap (λ (m : MasterState H). after m (out_at_take h.host s.master)) (quiet-same h s.master quiet)
    ∙ ap (after s.master) (quiet-nothing h s.master quiet)
    ∙ ap (λ (stations : List LineStationState). half_state s.master stations s.deceived) (joins-nothing s.stations)

pub quiet-deeds : {H : Type 0} (h : Behind H) (n : ℕ) (s : HalfState H) → is_quiet h.host s.master ≡ true → after_master_deeds h s (replicate n Give) ≡ s
quiet-deeds h zero s quiet = refl
quiet-deeds {H} h (suc n) s quiet = ap (λ (t : HalfState H). after_master_deeds h t (replicate n Give)) (quiet-deed h s quiet) ∙ quiet-deeds h n s quiet

pub quiet-bytes : {H : Type 0} (h : Behind H) (n : ℕ) (m : MasterState H) → is_quiet h.host m ≡ true → master_bytes_over h m (replicate n Give) ≡ []
quiet-bytes h zero m quiet = refl
quiet-bytes {H} h (suc n) m quiet =
    ap (λ (out : Option Out). option_to_list (option_map (λ (o : Out). o.byte) out) ++ master_bytes_over h (master_after h m Give) (replicate n Give)) (quiet-nothing h m quiet)
    ∙ ap (λ (e : MasterState H). master_bytes_over h e (replicate n Give)) (quiet-same h m quiet)
    ∙ quiet-bytes h n m quiet

-- ---- lines and bytes

pub gives-no-lines : {H : Type 0} (h : Behind H) (n : ℕ) (m : MasterState H) → master_lines_over h m (replicate n Give) ≡ []
gives-no-lines h zero m = refl
gives-no-lines h (suc n) m = gives-no-lines h n (master_after h m Give)

pub ticks-no-bytes : {H : Type 0} (h : Behind H) (n : ℕ) (m : MasterState H) → master_bytes_over h m (replicate n Tick) ≡ []
ticks-no-bytes h zero m = refl
ticks-no-bytes h (suc n) m = ticks-no-bytes h n (master_after h m Tick)

-- a byte more, or none
pub bytes-next : {H : Type 0} (h : Behind H) (m : MasterState H) (more : List MasterDeed) (bytes after : List ℕ) → after ≡ bytes ++ option_to_list (byte_given h m) → after ++ master_bytes_over h (master_after h m Give) more ≡ bytes ++ master_bytes_over h m (Give ∷ more)
bytes-next h m more bytes after e = ap (λ (all : List ℕ). all ++ master_bytes_over h (master_after h m Give) more) e ∙ append_assoc bytes (option_to_list (byte_given h m)) (master_bytes_over h (master_after h m Give) more)

pub gives-lines : {H : Type 0} (h : Behind H) (n : ℕ) (m : MasterState H) (old new : List Line) → new ≡ old ++ sent_lines M (master_bytes_over h m (replicate n Give))
    → new ≡ old ++ (master_lines_over h m (replicate n Give) ++ sent_lines M (master_bytes_over h m (replicate n Give)))
gives-lines h n m old new e = e ∙ ap (λ (lines : List Line). old ++ (lines ++ sent_lines M (master_bytes_over h m (replicate n Give)))) (sym (gives-no-lines h n m))

pub ticks-lines : {H : Type 0} (h : Behind H) (n : ℕ) (m : MasterState H) (old new : List Line) → new ≡ old ++ master_lines_over h m (replicate n Tick)
    → new ≡ old ++ (master_lines_over h m (replicate n Tick) ++ sent_lines M (master_bytes_over h m (replicate n Tick)))
ticks-lines h n m old new e =
    e ∙ ap (λ (lines : List Line). old ++ lines) (sym (append-nil (master_lines_over h m (replicate n Tick))) ∙ ap (λ (bytes : List ℕ). master_lines_over h m (replicate n Tick) ++ sent_lines M bytes) (sym (ticks-no-bytes h n m)))
