-- A byte that is given joins a lane; its mark is that of the last message.
use Rattle.std.proofs.Common.{◌≡◌, ℕ, List, [], ◌∷◌, ◌++◌, drop, Option, Some, None, refl, sym, subst, append-nil}
use Rattle.std.specs.Prelude.{option_to_list}
use Rattle.std.specs.Option.{option_map}
use Rattle.std.proofs.lemmas.List.{map-append}
use Rattle.df1_base.specs.declared.link.Out.{Out}
use Rattle.pccc_envelope.specs.declared.key.Key.{Key}
use Rattle.lane_cells.specs.Cells.{LaneCell, Ending, cell_of, altered}
use Rattle.half_master.proofs.LastMessage.{IsLast}
use Rattle.each_once.proofs.OneDirection.{Lane, Way, way-put, way-end, way-leaves, way-bare}
use Rattle.half_line.proofs.Once.Invariant.{marks}

way-out : (messages : List (List ℕ)) (sending : List ℕ) (out : Out) (ends : Option ℕ) (lane : Lane) (kept : Option Key) (accepted : List (List ℕ)) → out.last_of ≡ ends → ((number : ℕ) → out.last_of ≡ Some number → IsLast messages sending)
    → Way messages lane kept accepted → Way messages (lane ++ option_map (λ (e : Ending). e.body) (cell_of sending out).ends ∷ []) kept accepted
way-out messages sending out None lane kept accepted is last w = rw is (way-put messages lane kept accepted w)
way-out messages sending out (Some number) lane kept accepted is last w =
    let l = last number is in
    rw is (subst (λ (m : List (List ℕ)). Way m (lane ++ Some sending ∷ []) kept accepted) (sym l.1) (way-end l.0 sending lane kept accepted (subst (λ (m : List (List ℕ)). Way m lane kept accepted) l.1 w)))

pub way-given : (messages : List (List ℕ)) (sending : List ℕ) (cells : List LaneCell) (o : Option Out) (kept : Option Key) (accepted : List (List ℕ)) → ((out : Out) (number : ℕ) → o ≡ Some out → out.last_of ≡ Some number → IsLast messages sending)
    → Way messages (marks cells) kept accepted → Way messages (marks (cells ++ option_to_list (option_map (cell_of sending) o))) kept accepted
way-given messages sending cells None kept accepted last w = rw (append-nil cells) w
way-given messages sending cells (Some out) kept accepted last w =
    let same : marks (cells ++ cell_of sending out ∷ []) ≡ marks cells ++ option_map (λ (e : Ending). e.body) (cell_of sending out).ends ∷ [] = map-append (λ (c : LaneCell). option_map (λ (e : Ending). e.body) c.ends) cells (cell_of sending out ∷ []) in
    subst (λ (lane : Lane). Way messages lane kept accepted) (sym same) (way-out messages sending out out.last_of (marks cells) kept accepted refl (λ number is. last out number refl is) w)

-- the head of a lane is lost, or altered
pub way-lost : (messages : List (List ℕ)) (cells : List LaneCell) (kept : Option Key) (accepted : List (List ℕ)) → Way messages (marks cells) kept accepted → Way messages (marks (drop 1 cells)) kept accepted
way-lost messages [] kept accepted w = w
way-lost messages (cell ∷ cells) kept accepted w = way-leaves messages (option_map (λ (e : Ending). e.body) cell.ends) (marks cells) kept accepted w

pub way-altered : (messages : List (List ℕ)) (mask : ℕ) (cells : List LaneCell) (kept : Option Key) (accepted : List (List ℕ)) → Way messages (marks cells) kept accepted → Way messages (marks (altered mask cells)) kept accepted
way-altered messages mask [] kept accepted w = w
way-altered messages mask (cell ∷ cells) kept accepted w = way-bare messages (marks cells) kept accepted (way-leaves messages (option_map (λ (e : Ending). e.body) cell.ends) (marks cells) kept accepted w)
