-- Where nothing is under way nothing is awaited, and the master has no message to give.
use Rattle.std.proofs.Common.{◌≡◌, ◌∙◌, ℕ, Bool, true, false, List, [], ◌∷◌, length, Some, is_none, refl, ap, sym}
use Rattle.std.specs.Prelude.{◌==◌, slice_index}
use Rattle.std.specs.List.{list_all}
use Rattle.df1_node.specs.Node.{NodeState, next_body}
use Rattle.half_frame.specs.declared.framer.Sent.{Sent}
use Rattle.half_mouth.specs.Giving.{take, is_done}
use Rattle.half_master.specs.declared.table.Phase.TheVariants as phase
use Rattle.half_master.specs.Stations.{is_listed}
use Rattle.half_master.specs.Master as master
use Rattle.half_master.specs.Master.{MasterState, transmitted, begun, with_host}
use Rattle.half_master.proofs.Changes.{take-giving, take-begins}
use Rattle.half_slave.proofs.Sizes.{some-left}
use Rattle.each_once.specs.NodeHost.{node_host}
use Rattle.half_line.specs.Acts.{HalfState}
use Rattle.half_line.specs.Prompt.{is_idle, is_quiet}
use Rattle.half_line.proofs.Complete.StagePlaces.{none-given, awaits-busy}
use Rattle.half_line.proofs.Complete.Stages.{Now, Idles, Awaits, Stage, both}

-- a master whose take gives nothing has given all
pub done-left : (left : List Sent) → (length left == 0) ≡ true → left ≡ []
done-left [] done = refl
done-left (x ∷ more) done = absurd (let no : true ≡ false = sym done ∙ some-left x more in cc)

pub given-by : (m : MasterState NodeState) (done : Bool) → is_done m.mouth ≡ done → is_none (master.out_at_take node_host m) ≡ true → m.mouth.left ≡ []
given-by m true done none = done-left m.mouth.left done
given-by m false gives none =
    none-given m.mouth.left m.mouth.number m.mouth.begun (ap (λ (e : MasterState NodeState). is_none (take e.mouth).1) (sym (take-giving node_host m gives)) ∙ none)

-- and, where it is idle, no message for a station of its list
none-ready : (m : MasterState NodeState) (body : List ℕ) → is_done m.mouth ≡ true → m.phase ≡ phase.Idle → is_none (master.out_at_take node_host m) ≡ true → next_body m.host ≡ Some body → is_listed m.stations (slice_index body 0) ≡ true → ⊥
none-ready m body done idle none next listed =
    let is = take-begins node_host m body done idle next listed in
    let no = ap (λ (e : MasterState NodeState). is_none (take e.mouth).1) (sym is) ∙ none in
    cc

pub nothing-ready : (late : ℕ) (s : HalfState NodeState) (now : Now) (body : List ℕ) → Stage late s.master s.stations now → is_quiet s ≡ true → next_body s.master.host ≡ Some body → is_listed s.master.stations (slice_index body 0) ≡ true → ⊥
nothing-ready late s Idles body stage quiet next listed =
    let none = (both (is_none (master.out_at_take node_host s.master)) (list_all is_idle s.stations) quiet).0 in
    let given = given-by s.master (is_done s.master.mouth) refl none in
    none-ready s.master body (ap (λ (left : List Sent). length left == 0) given) stage.idle none next listed
nothing-ready late s (Awaits place awaited) body stage quiet next listed = absurd (awaits-busy late s place awaited stage quiet)
