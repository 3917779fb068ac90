-- What is read of an assignment.
use Rattle.std.proofs.Common.{◌≡◌, ℕ, ◌<◌, Bool, false, List, length, get_or, sym, ap, subst, ◌∙◌}
use Rattle.std.specs.Prelude.{slice_get, slice_index_or, Some}
use Rattle.std.specs.List.{All}
use Rattle.std.proofs.lemmas.Option.{get_or_from_slice_get}
use Rattle.wq_groups.specs.Assignment.{Assignment, group_lane}
use Rattle.wq_core.specs.Workqueues.{Workqueues}

pub lane-read : (a b : Assignment) (g h q : ℕ) → b ≡ a → h ≡ g → slice_get b.lane_of_group h ≡ Some q → group_lane a g ≡ q
lane-read a b g h q same number read =
    ap (λ (x : Assignment). get_or x.lane_of_group g 0) (sym same)
    ∙ ap (λ (x : ℕ). get_or b.lane_of_group x 0) (sym number)
    ∙ get_or_from_slice_get b.lane_of_group h q 0 read

pub lane-within : (a b : Assignment) (g : ℕ) → b ≡ a → All (λ (l : ℕ). l < b.lanes) b.lane_of_group → g < length a.lane_of_group → group_lane a g < a.lanes
lane-within a b g same within lt = subst (λ (x : Assignment). All (λ (l : ℕ). l < x.lanes) x.lane_of_group) same within g 0 lt

-- workqueues that are made of parts
pub Workqueues-made : (ws : Workqueues) (a : Assignment) (bare : List Bool) (lanes : ℕ) (lane_of : List ℕ) → ws ≡ record { assignment = a; bare = bare } → a.lanes ≡ lanes → a.lane_of_group ≡ lane_of
    → ws ≡ record { assignment = record { lanes = lanes; lane_of_group = lane_of }; bare = bare }
Workqueues-made ws a bare lanes lane_of made count groups =
    made
    ∙ ap (λ (n : ℕ). record { assignment = record { lanes = n; lane_of_group = a.lane_of_group }; bare = bare }) count
    ∙ ap (λ (xs : List ℕ). record { assignment = record { lanes = lanes; lane_of_group = xs }; bare = bare }) groups

-- whether lane q is bare
pub bare-read : (ws : Workqueues) (q p : ℕ) (is is_bare : Bool) → p ≡ q → is ≡ slice_index_or ws.bare p false → is ≡ is_bare → slice_index_or ws.bare q false ≡ is_bare
bare-read ws q p is is_bare number read same = ap (λ (x : ℕ). slice_index_or ws.bare x false) (sym number) ∙ sym read ∙ same
