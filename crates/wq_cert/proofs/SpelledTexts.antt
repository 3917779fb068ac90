-- Which lines are read as a plan, a circle, a run or an assignment.
use Rattle.std.proofs.Common.{◌≡◌, ◌≢◌, ℕ, ◌-◌, ◌<◌, ◌^◌, List, [], ◌∷◌, ◌++◌, length, map, Option, Some, None, Result, Ok, refl, sym, ap, ap₂, subst, ◌∙◌, arith, append-nil}
use Rattle.std.specs.Prelude.{AllPairs, codes}
use Rattle.std.proofs.lemmas.List.Elements.{All-from_recursion, recursion_from_All}
use Rattle.wq_groups.specs.Partition.{Partition}
use Rattle.wq_groups.specs.Assignment.{Assignment}
use Rattle.wq_core.specs.declared.step.Step.{Step}
use Rattle.wq_cert.proofs.FirstReaders.{circle_made, last_step, steps_behind, behind_arcs, behind_circle}
use Rattle.wq_cert.proofs.PlanTurns.{last_arc, arcs_behind, ended, assigned, behind_workqueues, with_chain, behind_plan, plan_reading-turn}
use Rattle.wq_cert.specs.declared.fault.CertError.{CertError}
use Rattle.wq_cert.specs.Certificate.{PlanCertificate, CircleCertificate}
use Rattle.wq_cert.specs.Lines.{CertLine}
use Rattle.wq_cert.specs.PlanText.{arc_line}
use Rattle.wq_cert.specs.RunText.{step_line}
use Rattle.wq_cert.specs.Ranges.{IsArcOf, IsStepOf}
use Rattle.wq_items.specs.Building.{and_then}
use Rattle.wq_cert.specs.Reading.{next_line, next_lines, at_end, count_reading, circle_count_reading, arc_reading, step_reading, next_workqueues, all_workqueues, assignment_of, whole_assignment, plan_reading, run_reading, run_after, circle_reading, workqueues_reading}
use Rattle.wq_cert.specs.LineRows.{count_words}
use Rattle.wq_cert.specs.Spelled.{words_of_lines, workqueue_lines, count_line, SpellsPlan, SpellsRun, SpellsRunAfter, SpellsCircle, SpellsWorkqueues}
use Rattle.wq_cert.proofs.SpelledLines.{Follows-and_then, FollowsRead-and_read, and_read-Ok, same_ok, at_end-Ok, no_words, shown_line, shown_lines, begun_line, begun_lines, IsCount, IsCircleCount, IsNumber, run_count, Shows-count, IsReadBy-count, Shows-circle, IsReadBy-circle, Shows-run, IsReadBy-run, Shows-arc, IsReadBy-arc, Shows-step, IsReadBy-step}
use Rattle.wq_cert.proofs.WorkqueueLists.{AreGrown-none, AreGrown-workqueues}
use Rattle.wq_cert.proofs.SpelledWorkqueues.{Grows-next_workqueues, Grows-all_workqueues, GrowsTo-lines, all_workqueues-lines, AreWhole-grown, whole_assignment-workqueues}

-- what follows a value
and_then-Ok : {V W : Type 0} (next : V → Result W CertError) (r : Result V CertError) (v : V) → r ≡ Ok v → and_then next r ≡ next v
and_then-Ok next r v e = ap (and_then next) e

-- ---- runs

module _ (names : List (List ℕ)) where
  pub SpellsRun-run_reading : (lines : List CertLine) (steps : List Step) → run_reading names lines ≡ Ok steps → SpellsRun names (words_of_lines lines) steps
  SpellsRun-run_reading lines steps e =
      let count = FollowsRead-and_read (steps_behind names) (next_line run_count lines) steps e in
      let said = FollowsRead-and_read last_step (next_lines (step_reading names) count.value count.rest) steps count.then in
      let ends = at_end-Ok said.value steps said.rest said.then in
      let first = shown_line run_count (count_words (codes "run")) IsNumber Shows-run lines count.rest count.value count.first in
      let others = shown_lines (step_reading names) (step_line names) (IsStepOf (length names)) (Shows-step names) count.value count.rest said.rest said.value said.first in
      let steps_are : words_of_lines count.rest ≡ map (step_line names) said.value =
      others.words_are ∙ ap (λ (ls : List CertLine). map (step_line names) said.value ++ words_of_lines ls) ends.0 ∙ append-nil (map (step_line names) said.value) in
      subst (SpellsRun names (words_of_lines lines)) ends.1 (record {
        words = first.0 ∙ ap₂ (λ (n : ℕ) (ws : List (List (List ℕ))). count_words (codes "run") n ∷ ws) (sym others.count) steps_are;
        few = subst (λ (n : ℕ). n < 2 ^ 32) (sym others.count) first.1;
        known = All-from_recursion (IsStepOf (length names)) said.value others.hold;
      })

  module _ (differ : AllPairs (λ (a b : List ℕ). a ≢ b) names) where
    pub run_reading-SpellsRun : (lines : List CertLine) (steps : List Step) → SpellsRun names (words_of_lines lines) steps → run_reading names lines ≡ Ok steps
    run_reading-SpellsRun lines steps spells =
        let count = begun_line run_count (count_words (codes "run")) IsNumber IsReadBy-run lines (length steps) (map (step_line names) steps) spells.words spells.few in
        let said = begun_lines (step_reading names) (step_line names) (IsStepOf (length names)) (IsReadBy-step names differ) steps count.rest []
        (count.behind ∙ sym (append-nil (map (step_line names) steps))) (recursion_from_All (IsStepOf (length names)) steps spells.known) in
        and_read-Ok (steps_behind names) (next_line run_count lines) (length steps) count.rest count.is_read
        ∙ and_read-Ok last_step (next_lines (step_reading names) (length steps) count.rest) steps said.rest said.is_read
        ∙ ap (at_end steps) (no_words said.rest said.behind)

  -- ---- circles

  abbrev some_run : List Step → Result (Option (List Step)) CertError
  some_run steps = Ok (Some steps)

  SpellsRunAfter-run_after : (lines : List CertLine) (steps : Option (List Step)) → run_after names lines ≡ Ok steps → SpellsRunAfter names (words_of_lines lines) steps
  SpellsRunAfter-run_after [] steps e =
      let none : Option (List Step) = None in
      subst (SpellsRunAfter names []) (same_ok none steps e) refl
  SpellsRunAfter-run_after (line ∷ lines) steps e =
      let found = Follows-and_then some_run (run_reading names (line ∷ lines)) steps e in
      subst (SpellsRunAfter names (words_of_lines (line ∷ lines))) (same_ok (Some found.value) steps found.then) (SpellsRun-run_reading (line ∷ lines) found.value found.first)

  abbrev circle_with : List (ℕ × ℕ) → Option (List Step) → Result CircleCertificate CertError
  circle_with arcs steps = Ok (circle_made arcs steps)

  pub SpellsCircle-circle_reading : (lines : List CertLine) (c : CircleCertificate) → circle_reading names lines ≡ Ok c → SpellsCircle names (words_of_lines lines) c
  SpellsCircle-circle_reading lines c e =
      let count = FollowsRead-and_read (behind_circle names) (next_line circle_count_reading lines) c e in
      let said = FollowsRead-and_read (behind_arcs names) (next_lines (arc_reading names) count.value count.rest) c count.then in
      let run = Follows-and_then (circle_with said.value) (run_after names said.rest) c said.then in
      let first = shown_line circle_count_reading (count_words (codes "circle")) IsCircleCount Shows-circle lines count.rest count.value count.first in
      let others = shown_lines (arc_reading names) (arc_line names) (IsArcOf (length names)) (Shows-arc names) count.value count.rest said.rest said.value said.first in
      let made : CircleCertificate = record { arcs = said.value; steps = run.value } in
      subst (SpellsCircle names (words_of_lines lines)) (same_ok made c run.then) (record {
        behind = words_of_lines said.rest;
        words = first.0 ∙ ap₂ (λ (n : ℕ) (ws : List (List (List ℕ))). count_words (codes "circle") n ∷ ws) (sym others.count) others.words_are;
        some = omega (arith, first.1.0, others.count);
        few = omega (arith, first.1.1, others.count);
        known = All-from_recursion (IsArcOf (length names)) said.value others.hold;
        run = SpellsRunAfter-run_after said.rest run.value run.first;
      })

  module _ (differ : AllPairs (λ (a b : List ℕ). a ≢ b) names) where
    run_after-SpellsRunAfter : (lines : List CertLine) (steps : Option (List Step)) → SpellsRunAfter names (words_of_lines lines) steps → run_after names lines ≡ Ok steps
    run_after-SpellsRunAfter [] None spells = refl
    run_after-SpellsRunAfter (line ∷ lines) None spells = absurd cc
    run_after-SpellsRunAfter [] (Some steps) spells = absurd (let words = spells.words in cc)
    run_after-SpellsRunAfter (line ∷ lines) (Some steps) spells = ap (and_then some_run) (run_reading-SpellsRun differ (line ∷ lines) steps spells)

    pub circle_reading-SpellsCircle : (lines : List CertLine) (c : CircleCertificate) → SpellsCircle names (words_of_lines lines) c → circle_reading names lines ≡ Ok c
    circle_reading-SpellsCircle lines c spells =
        let n = length c.arcs in
        let count = begun_line circle_count_reading (count_words (codes "circle")) IsCircleCount IsReadBy-circle lines n (map (arc_line names) c.arcs ++ spells.behind) spells.words (spells.some, spells.few) in
        let said = begun_lines (arc_reading names) (arc_line names) (IsArcOf (length names)) (IsReadBy-arc names differ) c.arcs count.rest spells.behind count.behind
        (recursion_from_All (IsArcOf (length names)) c.arcs spells.known) in
        let run : run_after names said.rest ≡ Ok c.steps =
        run_after-SpellsRunAfter said.rest c.steps (subst (λ (ws : List (List (List ℕ))). SpellsRunAfter names ws c.steps) (sym said.behind) spells.run) in
        and_read-Ok (behind_circle names) (next_line circle_count_reading lines) n count.rest count.is_read
        ∙ and_read-Ok (behind_arcs names) (next_lines (arc_reading names) n count.rest) c.arcs said.rest said.is_read
        ∙ ap (and_then (circle_with c.arcs)) run

-- ---- assignments and plans

module _ (names : List (List ℕ)) (p : Partition) (one_group_each : length names ≡ length p.group_of) where
  pub SpellsWorkqueues-workqueues_reading : (lines : List CertLine) (a : Assignment) → workqueues_reading names p lines ≡ Ok a → SpellsWorkqueues names p (words_of_lines lines) a
  SpellsWorkqueues-workqueues_reading lines a e =
      let found = FollowsRead-and_read (assigned p) (all_workqueues names p.group_of [] lines) a e in
      let made = Follows-and_then (ended found.rest) (whole_assignment p found.value) a found.then in
      let ends = at_end-Ok made.value a found.rest made.then in
      let grows = Grows-all_workqueues names p.group_of lines [] found.value found.rest (AreGrown-none (length names) p.group_of) found.first in
      let whole = AreWhole-grown names p one_group_each found.value made.value grows.grown made.first in
      record {
        workqueues = found.value;
        words =
            grows.words_are ∙ ap₂ (λ (qs : List (List ℕ)) (ls : List CertLine). workqueue_lines names qs ++ words_of_lines ls) (sym grows.whole) ends.0
            ∙ append-nil (workqueue_lines names found.value);
        are = whole.are;
        assignment = sym ends.1 ∙ whole.assignment;
      }

  pub SpellsPlan-plan_reading : (lines : List CertLine) (c : PlanCertificate) → plan_reading names p lines ≡ Ok c → SpellsPlan names p (words_of_lines lines) c
  SpellsPlan-plan_reading lines c e =
      let lanes = FollowsRead-and_read (behind_plan names p) (next_line (count_reading (codes "plan")) lines) c (sym (plan_reading-turn names p lines) ∙ e) in
      let workqueues = FollowsRead-and_read (with_chain names p) (next_workqueues names p.group_of lanes.value [] lanes.rest) c lanes.then in
      let made = Follows-and_then (behind_workqueues names p workqueues.rest) (whole_assignment p workqueues.value) c workqueues.then in
      let count = FollowsRead-and_read (arcs_behind names made.value) (next_line (count_reading (codes "chain")) workqueues.rest) c made.then in
      let said = FollowsRead-and_read (last_arc names made.value count.value) (next_lines (arc_reading names) (count.value - 1) count.rest) c count.then in
      let plan : PlanCertificate = record { assignment = made.value; length = count.value; arcs = said.value } in
      let ends = at_end-Ok plan c said.rest said.then in
      let first = shown_line (count_reading (codes "plan")) (count_words (codes "plan")) IsCount (Shows-count (codes "plan")) lines lanes.rest lanes.value lanes.first in
      let grows = Grows-next_workqueues names p.group_of lanes.value [] workqueues.value lanes.rest workqueues.rest (AreGrown-none (length names) p.group_of) workqueues.first in
      let whole = AreWhole-grown names p one_group_each workqueues.value made.value grows.0.grown made.first in
      let chain = shown_line (count_reading (codes "chain")) (count_words (codes "chain")) IsCount (Shows-count (codes "chain")) workqueues.rest count.rest count.value count.first in
      let others = shown_lines (arc_reading names) (arc_line names) (IsArcOf (length names)) (Shows-arc names) (count.value - 1) count.rest said.rest said.value said.first in
      let lanes_are : lanes.value ≡ length workqueues.value = omega (arith, grows.1) in
      let arcs_are : words_of_lines count.rest ≡ map (arc_line names) said.value =
      others.words_are ∙ ap (λ (ls : List CertLine). map (arc_line names) said.value ++ words_of_lines ls) ends.0 ∙ append-nil (map (arc_line names) said.value) in
      let chain_are : words_of_lines workqueues.rest ≡ count_line count.value ∷ map (arc_line names) said.value =
      chain.0 ∙ ap (λ (ws : List (List (List ℕ))). count_line count.value ∷ ws) arcs_are in
      let workqueues_are : words_of_lines lanes.rest ≡ workqueue_lines names workqueues.value ++ (count_line count.value ∷ map (arc_line names) said.value) =
      grows.0.words_are ∙ ap₂ (λ (qs : List (List ℕ)) (ws : List (List (List ℕ))). workqueue_lines names qs ++ ws) (sym grows.0.whole) chain_are in
      subst (SpellsPlan names p (words_of_lines lines)) ends.1 (record {
        workqueues = workqueues.value;
        words = first.0 ∙ ap₂ (λ (n : ℕ) (ws : List (List (List ℕ))). count_words (codes "plan") n ∷ ws) lanes_are workqueues_are;
        are = whole.are;
        assignment = whole.assignment;
        few = chain.1;
        count = others.count;
        known = All-from_recursion (IsArcOf (length names)) said.value others.hold;
      })

  module _ (differ : AllPairs (λ (a b : List ℕ). a ≢ b) names) where
    pub workqueues_reading-SpellsWorkqueues : (lines : List CertLine) (a : Assignment) → SpellsWorkqueues names p (words_of_lines lines) a → workqueues_reading names p lines ≡ Ok a
    workqueues_reading-SpellsWorkqueues lines a spells =
        let none : List CertLine = [] in
        and_read-Ok (assigned p) (all_workqueues names p.group_of [] lines) spells.workqueues []
        (all_workqueues-lines names p.group_of differ spells.workqueues [] lines (AreGrown-workqueues (length names) p.group_of spells.workqueues spells.are) spells.words)
        ∙ ap (and_then (ended none)) (whole_assignment-workqueues names p one_group_each spells.workqueues spells.are)
        ∙ ap (λ (b : Assignment). Ok b) (sym spells.assignment)

    pub plan_reading-SpellsPlan : (lines : List CertLine) (c : PlanCertificate) → SpellsPlan names p (words_of_lines lines) c → plan_reading names p lines ≡ Ok c
    plan_reading-SpellsPlan lines c spells =
        let k = length spells.workqueues in
        let arc_lines = map (arc_line names) c.arcs in
        let a = assignment_of p spells.workqueues in
        let lanes = begun_line (count_reading (codes "plan")) (count_words (codes "plan")) IsCount (IsReadBy-count (codes "plan")) lines k
        (workqueue_lines names spells.workqueues ++ (count_line c.length ∷ arc_lines)) spells.words spells.are.few in
        let workqueues = GrowsTo-lines names p.group_of differ spells.workqueues [] lanes.rest (count_line c.length ∷ arc_lines)
        (AreGrown-workqueues (length names) p.group_of spells.workqueues spells.are) lanes.behind in
        let count = begun_line (count_reading (codes "chain")) (count_words (codes "chain")) IsCount (IsReadBy-count (codes "chain")) workqueues.rest c.length arc_lines workqueues.behind spells.few in
        let said = begun_lines (arc_reading names) (arc_line names) (IsArcOf (length names)) (IsReadBy-arc names differ) c.arcs count.rest []
        (count.behind ∙ sym (append-nil arc_lines)) (recursion_from_All (IsArcOf (length names)) c.arcs spells.known) in
        let arcs : next_lines (arc_reading names) (c.length - 1) count.rest ≡ Ok (c.arcs, said.rest) =
        ap (λ (n : ℕ). next_lines (arc_reading names) n count.rest) (sym spells.count) ∙ said.is_read in
        plan_reading-turn names p lines
        ∙ and_read-Ok (behind_plan names p) (next_line (count_reading (codes "plan")) lines) k lanes.rest lanes.is_read
        ∙ and_read-Ok (with_chain names p) (next_workqueues names p.group_of k [] lanes.rest) spells.workqueues workqueues.rest workqueues.is_read
        ∙ and_then-Ok (behind_workqueues names p workqueues.rest) (whole_assignment p spells.workqueues) a (whole_assignment-workqueues names p one_group_each spells.workqueues spells.are)
        ∙ and_read-Ok (arcs_behind names a) (next_line (count_reading (codes "chain")) workqueues.rest) c.length count.rest count.is_read
        ∙ and_read-Ok (last_arc names a c.length) (next_lines (arc_reading names) (c.length - 1) count.rest) c.arcs said.rest arcs
        ∙ ap (last_arc names a c.length c.arcs) (no_words said.rest said.behind)
        ∙ ap (λ (b : Assignment). Ok (record { assignment = b; length = c.length; arcs = c.arcs })) (sym spells.assignment)
