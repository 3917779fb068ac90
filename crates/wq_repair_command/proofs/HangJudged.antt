-- The run that shows that too few items may move is the one that is printed of the text of the start.
use Rattle.std.proofs.Common.{◌≡◌, ℕ, ◌≤◌, Bool, false, not, cond, List, [], ◌∷◌, length, map, refl, sym, ap, subst, ◌∙◌, arith}
use Rattle.std.specs.Prelude.{◌&&◌, filter, max, slice_index_or}
use Rattle.std.specs.List.{range_with_len}
use Rattle.std.proofs.Math.Nat.{max-le}
use Rattle.wq_groups.specs.Declaration.{Declaration}
use Rattle.wq_groups.specs.Assignment.{Assignment, item_lane}
use Rattle.wq_graph.specs.declared.arc.WaitArc.{WaitArc}
use Rattle.wq_graph.specs.Graph.{arcs_at, arcs_kept, arcs_by_place, arcs_without, lane_graph}
use Rattle.wq_levels.specs.Walks.{IsWalkedCircle}
use Rattle.wq_core.specs.declared.step.Step.{Step}
use Rattle.wq_core.specs.Wiring.{wiring}
use Rattle.wq_core.specs.Workqueues.{Workqueues}
use Rattle.wq_deadlock.specs.Judging.{AreFirst, IsHang, bare_waits, leads_to_bare, rescued_graph}
use Rattle.wq_cert.specs.Part.{has_unsure}
use Rattle.wq_cert.specs.Texts.{cert_refusal, workqueues_of_text}
use Rattle.wq_names.specs.Names.{names_of}
use Rattle.wq_commands.specs.declared.end.End.TheVariants.{Bad}
use Rattle.wq_groups.specs.DeclaredGroups.{declared_waits, Declared}
use Rattle.wq_commands.specs.Answer.{PrintsRefusal}
use Rattle.wq_commands.specs.Deadlocking.{JudgesAssigned, JudgesDeclared, PrintsRun}
use Rattle.wq_commands.proofs.AnswerLemmas.{IsSound, IsDeclaration-sound}
use Rattle.wq_commands.proofs.CheckLemmas.{MatchResult-ok}
use Rattle.wq_repair_command.specs.AssignmentText.{assignment_text}
use Rattle.wq_repair_command.specs.ReadBack.{with_each}
use Rattle.wq_repair_command.specs.Repairing.{PrintsTooFew}
use Rattle.wq_repair_command.proofs.Judged.{same-bare}
use Rattle.wq_repair_command.proofs.ReadBack.{workqueues_of_text-printed}
use Rattle.wq_commands.proofs.SameRescuers.{same-deadlock, same-run_of}
use Rattle.wq_repair_command.proofs.Shown.{shown-names_of}

-- tests that agree on each element keep the same elements
same_filter : {X : Type 0} (p q : X → Bool) → ((x : X) → p x ≡ q x) → (xs : List X) → filter p xs ≡ filter q xs
same_filter {X} p q same [] = refl
same_filter {X} p q same (x ∷ xs) =
    ap (λ (b : Bool). cond b (x ∷ filter p xs) (filter p xs)) (same x) ∙ ap (λ (ys : List X). cond (q x) (x ∷ ys) ys) (same_filter p q same xs)

same_map : {X Y : Type 0} (f g : X → Y) → ((x : X) → f x ≡ g x) → (xs : List X) → map f xs ≡ map g xs
same_map {X} {Y} f g same [] = refl
same_map {X} {Y} f g same (x ∷ xs) = ap (λ (y : Y). y ∷ map f xs) (same x) ∙ ap (λ (ys : List Y). g x ∷ ys) (same_map f g same xs)

-- workqueues that differ only in how they say which lanes have a rescuer
module _ (d : Declaration) (a : Assignment) (one other : List Bool) (same : (q : ℕ) → slice_index_or one q false ≡ slice_index_or other q false) where
  abbrev first_ws : Workqueues
  first_ws = record { assignment = a; bare = one }

  abbrev second_ws : Workqueues
  second_ws = record { assignment = a; bare = other }

  leads : (x : WaitArc) → leads_to_bare (record { assignment = a; bare = one }) d.group_of x ≡ leads_to_bare (record { assignment = a; bare = other }) d.group_of x
  leads x =
      ap (λ (b : Bool). not b && slice_index_or one (item_lane a d.group_of x.dst) false) (same (item_lane a d.group_of x.src))
      ∙ ap (λ (b : Bool). not (slice_index_or other (item_lane a d.group_of x.src) false) && b) (same (item_lane a d.group_of x.dst))

  same_waits : bare_waits d (record { assignment = a; bare = one }) ≡ bare_waits d (record { assignment = a; bare = other })
  same_waits = same_filter (leads_to_bare first_ws d.group_of) (leads_to_bare second_ws d.group_of) leads (arcs_by_place d.waits d.group_of)

  same_arcs : (graph : List (List WaitArc)) (v : ℕ) → arcs_without one graph v ≡ arcs_without other graph v
  same_arcs graph v =
      ap (λ (b : Bool). cond b [] (arcs_kept one (arcs_at graph v))) (same v)
      ∙ ap (λ (arcs : List WaitArc). cond (slice_index_or other v false) [] arcs)
      (same_filter (λ (x : WaitArc). not (slice_index_or one x.head false)) (λ (x : WaitArc). not (slice_index_or other x.head false)) (λ x. ap not (same x.head)) (arcs_at graph v))

  same_graph : rescued_graph d (record { assignment = a; bare = one }) ≡ rescued_graph d (record { assignment = a; bare = other })
  same_graph = same_map (arcs_without one (lane_graph d a)) (arcs_without other (lane_graph d a)) (same_arcs (lane_graph d a)) (range_with_len 0 (length (lane_graph d a)))

  same_first : (waits : List WaitArc) (first : List ℕ) → AreFirst d (record { assignment = a; bare = one }) waits first → AreFirst d (record { assignment = a; bare = other }) waits first
  same_first (x ∷ more) first are = are
  same_first [] first (circle, walked, is) = (circle, subst (λ (graph : List (List WaitArc)). IsWalkedCircle graph circle) same_graph walked, is)

  pub same-hang : (steps : List Step) → IsHang d (record { assignment = a; bare = one }) steps → IsHang d (record { assignment = a; bare = other }) steps
  same-hang steps hang =
      let to = λ (q : ℕ) (rescued : slice_index_or one q false ≡ false). sym (same q) ∙ rescued in
      let from = λ (q : ℕ) (rescued : slice_index_or other q false ≡ false). same q ∙ rescued in
      record {
        assignment = hang.assignment;
        first = hang.first;
        are_first =
            subst (λ (waits : List WaitArc). AreFirst d second_ws waits hang.first) same_waits (same_first (bare_waits d first_ws) hang.first hang.are_first);
        is_run = same-run_of (wiring d a) one other to from hang.first steps hang.is_run;
        deadlocks = same-deadlock (wiring d a) one other to from steps hang.deadlocks;
      }

-- `deadlock` prints it
pub JudgesDeclared-few : (s : Declared) → IsSound s → has_unsure s.table.waits ≡ false
    → (old : Workqueues) (moving text out : List ℕ) → old.assignment.lanes ≤ 4096
    → (few : PrintsTooFew s old moving out)
    → JudgesDeclared s (assignment_text s.table.names s.partition few.start (names_of text)) Bad out
JudgesDeclared-few s sound none old moving text out within few =
    let d = declared_waits s in
    let is = IsDeclaration-sound s sound in
    let start = few.start in
    let groups : d.groups ≤ 4096 = omega (arith, is.partition.few_groups, is.partition.few_items) in
    let most : max old.assignment.lanes d.groups ≤ 4096 = max-le within groups in
    let lanes : start.assignment.lanes ≤ 4096 = omega (arith, few.few.few, most) in
    let each : List Bool = (with_each start).bare in
    let hang : IsHang d (with_each start) few.steps = same-hang d start.assignment start.bare each (λ q. sym (same-bare start few.few.bare q)) few.steps few.few.hang in
    let read = workqueues_of_text-printed s.table s.partition start (names_of text) sound.table sound.partition sound.one_group_each few.few.hang.assignment lanes (shown-names_of text) in
    MatchResult-ok (workqueues_of_text s.table.names s.partition (assignment_text s.table.names s.partition start (names_of text))) (with_each start)
    (λ ws. JudgesAssigned s ws Bad out) (λ fault. PrintsRefusal (cert_refusal fault) Bad out) read
    (subst (λ (b : Bool). PrintsRun b s (with_each start) out) (sym none) (few.steps, hang, few.text))
