-- The start keeps the fixed workqueues.
use Rattle.std.proofs.Common.{◌≡◌, ℕ, suc, ◌+◌, ◌<◌, ◌≤◌, List, [], ◌∷◌, Option, Some, None, refl, ◌∙◌, arith}
use Rattle.std.specs.Prelude.{slice_get}
use Rattle.std.specs.List.{AllByRecursion}
use Rattle.std.proofs.lemmas.List.Elements.{All-from_recursion}
use Rattle.wq_groups.specs.Assignment.{IsAssignmentOf}
use Rattle.wq_fixed.specs.Fixed.{Fixed, IsFixed, Keeps, fixed_lanes, free_groups, start, start_lanes}
use Rattle.wq_fixed.proofs.StartLanes.{count_free, count_free-is, length-start_lanes, start-stays, start-free}

start-below : (next total : ℕ) (lanes : List (Option ℕ)) → ((g q : ℕ) → slice_get lanes g ≡ Some (Some q) → q < total)
    → next + count_free lanes ≤ total → AllByRecursion (λ l. l < total) (start_lanes next lanes)
start-below next total [] each few = tt
start-below next total (None ∷ lanes) each few =
    let more : next + (1 + count_free lanes) ≤ total = few in
    let first : next < total = omega (arith, more) in
    (first, start-below (next + 1) total lanes (λ g q at. each (suc g) q at) (omega (arith, more)))
start-below next total (Some s ∷ lanes) each few = (
  each 0 s refl,
  start-below next total lanes (λ g q at. each (suc g) q at) few,
)

module _ (groups : ℕ) (f : Fixed) (fixed : IsFixed groups f) where
  pub Keeps-start : Keeps f (start f)
  Keeps-start = record {
    lanes = omega arith;
    bare = λ q within. refl;
    stays = λ g q at. start-stays (fixed_lanes f) f.lane_of_group g q at;
    new = λ g free. (start-free (fixed_lanes f) f.lane_of_group g free).0;
  }

  pub IsAssignmentOf-start : IsAssignmentOf groups (start f).assignment
  IsAssignmentOf-start =
      let total = fixed_lanes f + free_groups f in
      record {
        assignment = record {
          one_each = length-start_lanes (fixed_lanes f) f.lane_of_group ∙ fixed.one_each;
          within = All-from_recursion (λ l. l < total) (start_lanes (fixed_lanes f) f.lane_of_group)
              (start-below (fixed_lanes f) total f.lane_of_group
              (λ g q at. let below : q < fixed_lanes f = fixed.within g q at in omega arith)
              (omega (arith, count_free-is f.lane_of_group)));
        };
        few = fixed.few;
      }
