-- Unit steps of one kind at a station, or with the bytes between it and the master.
use Rattle.std.proofs.Common.{◌≡◌, ◌∙◌, ℕ, ◌+◌, zero, suc, List, [], ◌∷◌, ◌++◌, map, drop, Option, Some, None, Result, Ok, Err, OnOk, refl, sym, ap, append-nil, append_assoc}
use Rattle.std.specs.Prelude.{replicate, slice_get}
use Rattle.std.specs.Option.{option_map, option_to_list}
use Rattle.df1_base.specs.declared.link.Out.{Out}
use Rattle.df1_node.specs.Node.{NodeState}
use Rattle.half_slave.specs.Slave.{SlaveState, out_at_take}
use Rattle.half_slave.proofs.Draining.{quiet-same}
use Rattle.replay_report.specs.declared.record.Line.{Line}
use Rattle.replay_report.specs.Report.{sent_lines}
use Rattle.lane_cells.specs.Cells.{LaneCell, cell_of, bare}
use Rattle.script_statement.specs.declared.who.Who.TheVariants.{S}
use Rattle.half_line.specs.Behind.{Behind}
use Rattle.half_line.specs.declared.way.Way.{Way}
use Rattle.half_line.specs.declared.way.Way.TheVariants.{ToStation, ToMaster}
use Rattle.half_line.specs.Acts.{LineStationState, LinkState, link_state, LinkDeed, StationGives, OnLane, Deliver, Lose, Foreign, LaneDeed, lane_of, with_lane, side_moved, moved, after_cell, cell_lines, deceptions_at, byte_taken, after_take, after_arrival, arrival_lines, after_link_deed}
use Rattle.half_line.specs.Steps.{after_link_deeds, link_bytes_over, link_lines_over}

-- ---- a station that has nothing to give

none-out : (out : Option Out) → option_map (λ (o : Out). o.byte) out ≡ None → out ≡ None
none-out None e = refl
none-out (Some out) e = cc

pub take-none : (side : LineStationState) → byte_taken side ≡ None → after_take side ≡ side
take-none side e =
    let nothing = none-out (out_at_take side.slave) e in
    let same = quiet-same side.slave (rw nothing refl) in
    let after : SlaveState NodeState → Option Out → LineStationState = λ s out. record { number = side.number; slave = s; to_it = side.to_it; from_it = side.from_it ++ option_to_list (option_map (cell_of s.sending) out) } in
    ap (λ (s : SlaveState NodeState). after s (out_at_take side.slave)) same
    ∙ ap (after side.slave) nothing
    ∙ ap (λ (lane : List LaneCell). let t : LineStationState = record side { from_it = lane } in t) (append-nil side.from_it)

take-none-link : {H : Type 0} (h : Behind H) (s : LinkState H) → byte_taken s.side ≡ None → after_link_deed h s StationGives ≡ s
take-none-link h s e = ap (λ (side : LineStationState). link_state s.master side s.deceived) (take-none s.side e)

pub takes-none : {H : Type 0} (h : Behind H) (n : ℕ) (s : LinkState H) → byte_taken s.side ≡ None → after_link_deeds h s (replicate n StationGives) ≡ s
takes-none h zero s e = refl
takes-none {H} h (suc n) s e = ap (λ (t : LinkState H). after_link_deeds h t (replicate n StationGives)) (take-none-link h s e) ∙ takes-none h n s e

pub gives-nothing : {H : Type 0} (h : Behind H) (n : ℕ) (s : LinkState H) → byte_taken s.side ≡ None → link_bytes_over h s (replicate n StationGives) ≡ []
gives-nothing h zero s e = refl
gives-nothing {H} h (suc n) s e =
    ap (λ (byte : Option ℕ). option_to_list byte ++ link_bytes_over h (after_link_deed h s StationGives) (replicate n StationGives)) e
    ∙ ap (λ (t : LinkState H). link_bytes_over h t (replicate n StationGives)) (take-none-link h s e)
    ∙ gives-nothing h n s e

pub gives-byte : {H : Type 0} (h : Behind H) (s : LinkState H) (byte : ℕ) (more : List LinkDeed) → byte_taken s.side ≡ Some byte → link_bytes_over h s (StationGives ∷ more) ≡ byte ∷ link_bytes_over h (after_link_deed h s StationGives) more
gives-byte h s byte more e = ap (λ (given : Option ℕ). option_to_list given ++ link_bytes_over h (after_link_deed h s StationGives) more) e

pub takes-no-lines : {H : Type 0} (h : Behind H) (n : ℕ) (s : LinkState H) → link_lines_over h s (replicate n StationGives) ≡ []
takes-no-lines h zero s = refl
takes-no-lines h (suc n) s = takes-no-lines h n (after_link_deed h s StationGives)

-- ---- steps with the bytes of a lane give no byte

pub lane-no-bytes : {H : Type 0} (h : Behind H) (way : Way) (deed : LaneDeed) (n : ℕ) (s : LinkState H) → link_bytes_over h s (replicate n (OnLane way deed)) ≡ []
lane-no-bytes h way deed zero s = refl
lane-no-bytes h way deed (suc n) s = lane-no-bytes h way deed n (after_link_deed h s (OnLane way deed))

pub foreign-no-bytes : {H : Type 0} (h : Behind H) (way : Way) (bytes : List ℕ) (s : LinkState H) → link_bytes_over h s (map (λ byte. OnLane way (Foreign byte)) bytes) ≡ []
foreign-no-bytes h way [] s = refl
foreign-no-bytes h way (byte ∷ bytes) s = foreign-no-bytes h way bytes (after_link_deed h s (OnLane way (Foreign byte)))

-- ---- an empty lane

leaving-none : (lane cells : List LaneCell) → lane ≡ cells → slice_get cells 0 ≡ None → drop 1 lane ≡ lane
leaving-none lane [] e none = ap (λ (l : List LaneCell). drop 1 l) e ∙ sym e
leaving-none lane (cell ∷ cells) e none = absurd cc

same-lane : (way : Way) (side : LineStationState) → with_lane way side (lane_of way side) ≡ side
same-lane ToStation side = refl
same-lane ToMaster side = refl

-- nothing leaves it
pub leave-none : (way : Way) (side : LineStationState) → slice_get (lane_of way side) 0 ≡ None → side_moved way side Lose ≡ side
leave-none way side none = ap (with_lane way side) (leaving-none (lane_of way side) (lane_of way side) refl none) ∙ same-lane way side

lose-none : {H : Type 0} (h : Behind H) (way : Way) (s : LinkState H) → slice_get (lane_of way s.side) 0 ≡ None → after_link_deed h s (OnLane way Lose) ≡ s
lose-none h way s none = ap (λ (side : LineStationState). link_state s.master side s.deceived) (leave-none way s.side none)

pub loses-none : {H : Type 0} (h : Behind H) (way : Way) (n : ℕ) (s : LinkState H) → slice_get (lane_of way s.side) 0 ≡ None → after_link_deeds h s (replicate n (OnLane way Lose)) ≡ s
loses-none h way zero s none = refl
loses-none {H} h way (suc n) s none = ap (λ (t : LinkState H). after_link_deeds h t (replicate n (OnLane way Lose))) (lose-none h way s none) ∙ loses-none h way n s none

pub loses-no-lines : {H : Type 0} (h : Behind H) (way : Way) (n : ℕ) (s : LinkState H) → link_lines_over h s (replicate n (OnLane way Lose)) ≡ []
loses-no-lines h way zero s = refl
loses-no-lines h way (suc n) s = loses-no-lines h way n (after_link_deed h s (OnLane way Lose))

-- nothing arrives of it
deliver-none : {H : Type 0} (h : Behind H) (way : Way) (s : LinkState H) → slice_get (lane_of way s.side) 0 ≡ None → after_link_deed h s (OnLane way Deliver) ≡ s
deliver-none h way s none = ap (after_arrival h way (moved way s Deliver)) none ∙ lose-none h way s none

pub delivers-none : {H : Type 0} (h : Behind H) (way : Way) (n : ℕ) (s : LinkState H) → slice_get (lane_of way s.side) 0 ≡ None → after_link_deeds h s (replicate n (OnLane way Deliver)) ≡ s
delivers-none h way zero s none = refl
delivers-none {H} h way (suc n) s none = ap (λ (t : LinkState H). after_link_deeds h t (replicate n (OnLane way Deliver))) (deliver-none h way s none) ∙ delivers-none h way n s none

pub delivers-no-lines : {H : Type 0} (h : Behind H) (way : Way) (n : ℕ) (s : LinkState H) → slice_get (lane_of way s.side) 0 ≡ None → link_lines_over h s (replicate n (OnLane way Deliver)) ≡ []
delivers-no-lines h way zero s none = refl
delivers-no-lines {H} h way (suc n) s none =
    ap (λ (cell : Option LaneCell). arrival_lines h way s cell ++ link_lines_over h (after_link_deed h s (OnLane way Deliver)) (replicate n (OnLane way Deliver))) none
    ∙ ap (λ (t : LinkState H). link_lines_over h t (replicate n (OnLane way Deliver))) (deliver-none h way s none)
    ∙ delivers-no-lines h way n s none

-- ---- the head of a lane arrives

-- the end hears the same whether the head has left its lane or not
cell-moved : {H : Type 0} (h : Behind H) (way : Way) (s : LinkState H) (cell : LaneCell) → after_cell h way (moved way s Deliver) cell ≡ record (moved way (after_cell h way s cell) Deliver) { deceived = s.deceived + deceptions_at h way s cell }
cell-moved h ToStation s cell = refl
cell-moved h ToMaster s cell = refl

pub lines-moved : {H : Type 0} (h : Behind H) (way : Way) (s : LinkState H) (cell : LaneCell) → cell_lines h way (moved way s Deliver) cell ≡ cell_lines h way s cell
lines-moved h ToStation s cell = refl
lines-moved h ToMaster s cell = refl

pub deliver-one : {H : Type 0} (h : Behind H) (way : Way) (s : LinkState H) (cell : LaneCell) → slice_get (lane_of way s.side) 0 ≡ Some cell → after_link_deed h s (OnLane way Deliver) ≡ after_cell h way (moved way s Deliver) cell
deliver-one h way s cell head = ap (after_arrival h way (moved way s Deliver)) head

pub deliver-lines : {H : Type 0} (h : Behind H) (way : Way) (s : LinkState H) (cell : LaneCell) (more : List LinkDeed) → slice_get (lane_of way s.side) 0 ≡ Some cell →
    link_lines_over h s (OnLane way Deliver ∷ more) ≡ cell_lines h way (moved way s Deliver) cell ++ link_lines_over h (after_cell h way (moved way s Deliver) cell) more
deliver-lines {H} h way s cell more head =
    ap (λ (c : Option LaneCell). arrival_lines h way s c ++ link_lines_over h (after_link_deed h s (OnLane way Deliver)) more) head
    ∙ ap (λ (t : LinkState H). cell_lines h way s cell ++ link_lines_over h t more) (deliver-one h way s cell head)
    ∙ ap (λ (lines : List Line). lines ++ link_lines_over h (after_cell h way (moved way s Deliver) cell) more) (sym (lines-moved h way s cell))

-- ---- foreign bytes

foreign-moved : {H : Type 0} (way : Way) (s : LinkState H) (byte : ℕ) → moved way s (Foreign byte) ≡ s
foreign-moved ToStation s byte = refl
foreign-moved ToMaster s byte = refl

pub foreign-one : {H : Type 0} (h : Behind H) (way : Way) (s : LinkState H) (byte : ℕ) → after_link_deed h s (OnLane way (Foreign byte)) ≡ after_cell h way s (bare byte)
foreign-one {H} h way s byte = ap (λ (t : LinkState H). after_cell h way t (bare byte)) (foreign-moved way s byte)

-- ---- the lines of an event

-- what follows of a success
pub on_ok : {T E P Q : Type 0} (r : Result T E) → (P → Q) → OnOk r P → OnOk r Q
on_ok (Ok t) f p = f p
on_ok (Err e) f p = tt

-- where no byte is given, they are those of its steps
pub without-bytes : {H : Type 0} (h : Behind H) (number : ℕ) (s : LinkState H) (deeds : List LinkDeed) → link_bytes_over h s deeds ≡ [] → (old new : List Line) → new ≡ old ++ link_lines_over h s deeds
    → new ≡ old ++ (link_lines_over h s deeds ++ sent_lines (S number) (link_bytes_over h s deeds))
without-bytes h number s deeds none old new e =
    e ∙ ap (λ (lines : List Line). old ++ lines) (sym (append-nil (link_lines_over h s deeds)) ∙ ap (λ (bytes : List ℕ). link_lines_over h s deeds ++ sent_lines (S number) bytes) (sym none))

pub takes-lines : {H : Type 0} (h : Behind H) (number n : ℕ) (s : LinkState H) (old new : List Line) → new ≡ old ++ sent_lines (S number) (link_bytes_over h s (replicate n StationGives))
    → new ≡ old ++ (link_lines_over h s (replicate n StationGives) ++ sent_lines (S number) (link_bytes_over h s (replicate n StationGives)))
takes-lines h number n s old new e = e ∙ ap (λ (lines : List Line). old ++ (lines ++ sent_lines (S number) (link_bytes_over h s (replicate n StationGives)))) (sym (takes-no-lines h n s))

pub loses-lines : {H : Type 0} (h : Behind H) (number : ℕ) (way : Way) (n : ℕ) (s : LinkState H) (old : List Line) → old ≡ old ++ (link_lines_over h s (replicate n (OnLane way Lose)) ++ sent_lines (S number) (link_bytes_over h s (replicate n (OnLane way Lose))))
loses-lines h number way n s old =
    without-bytes h number s (replicate n (OnLane way Lose)) (lane-no-bytes h way Lose n s) old old (sym (append-nil old) ∙ ap (λ (lines : List Line). old ++ lines) (sym (loses-no-lines h way n s)))

-- ---- one cell, or none

-- a foreign byte has arrived
pub foreign-arrived : {H : Type 0} (h : Behind H) (way : Way) (s after : LinkState H) (cell : LaneCell) (byte : ℕ) → cell ≡ bare byte → after ≡ after_cell h way s cell → after ≡ after_link_deed h s (OnLane way (Foreign byte))
foreign-arrived h way s after cell byte is e = e ∙ ap (after_cell h way s) is ∙ sym (foreign-one h way s byte)

pub foreign-lines : {H : Type 0} (h : Behind H) (way : Way) (s after : LinkState H) (cell : LaneCell) (byte : ℕ) (rest : List LinkDeed) (old new : List Line) → cell ≡ bare byte → after ≡ after_cell h way s cell → new ≡ old ++ cell_lines h way s cell
    → new ++ link_lines_over h after rest ≡ old ++ link_lines_over h s (OnLane way (Foreign byte) ∷ rest)
foreign-lines {H} h way s after cell byte rest old new is e told =
    ap (λ (lines : List Line). lines ++ link_lines_over h after rest) told
    ∙ append_assoc old (cell_lines h way s cell) (link_lines_over h after rest)
    ∙ ap (λ (t : LinkState H). old ++ (cell_lines h way s cell ++ link_lines_over h t rest)) (foreign-arrived h way s after cell byte is e)
    ∙ ap (λ (c : LaneCell). old ++ (cell_lines h way s c ++ link_lines_over h (after_link_deed h s (OnLane way (Foreign byte))) rest)) is
