-- Which fault a `plan`, `chain`, `circle`, `arc` or `run` line has, or that of a step, by the first row that it breaks.
use Rattle.std.proofs.Common.{◌≡◌, ◌≢◌, ℕ, ◌-◌, ◌<◌, ◌≤◌, ◌⊎◌, inl, inr, Bool, false, cond, ltb, eqb, List, [], ◌∷◌, ◌++◌, length, map, Option, Some, None, Result, Ok, Err, refl, sym, ap, subst, ◌∙◌, arith, append-nil}
use Rattle.std.specs.Prelude.{AllPairs, codes, ok_or}
use Rattle.std.proofs.lemmas.Bool.{lt-ltb, eq-eqb}
use Rattle.std.proofs.lemmas.List.Elements.{recursion_from_All}
use Rattle.wq_core.specs.declared.step.Step.{Step}
use Rattle.wq_groups.specs.Partition.{Partition}
use Rattle.wq_cert.specs.declared.fault.CertError.{CertError}
use Rattle.wq_cert.specs.declared.fault.CertError.TheVariants.{BadCertLine, NotAllItems, GroupSplit, NumberOutOfRange, OutOfMemory}
use Rattle.wq_cert.specs.FirstFaults.{NoLineIsAtFault}
use Rattle.wq_cert.specs.Forms.{count_form, arc_form, step_form}
use Rattle.wq_cert.specs.LineRows.{LineForm, PlanLine, ChainLine, CircleLine, ArcLine, RunLine, StepLine, count_words, SpellsCount, SpellsStep, BreaksLine, KeepsLine, StandsInPlan, StandsInRun, IsBehindArcs, StandsInCircle}
use Rattle.wq_cert.specs.Lines.{CertLine}
use Rattle.wq_cert.specs.PlanText.{plan_line, arc_line}
use Rattle.wq_cert.specs.Ranges.{IsArcOf, IsStepOf}
use Rattle.wq_items.specs.Building.{and_then}
use Rattle.wq_cert.specs.Reading.{and_read, next_line, next_lines, at_end, count_reading, circle_count_reading, arc_reading, names_far_lane, step_reading, assignment_of, whole_assignment, counted_assignment, chain_reading, plan_reading, run_reading, run_after, circle_reading}
use Rattle.wq_cert.specs.RunText.{step_line}
use Rattle.wq_cert.specs.Spelled.{words_of_lines, workqueue_lines, count_line, AreWorkqueues}
use Rattle.wq_cert.proofs.FirstLines.{ReadsInOrder-next_line, ReadsInOrder-next_lines, Settles-at_end}
use Rattle.wq_cert.proofs.FirstReaders.{circle_made, plan_made, at-count, at-circle, at-run, at-arc, at-step, last_step, steps_behind, Settles-steps, behind_arcs, behind_circle, Settles-behind_arcs, Settles-behind_circle, ReadsInOrder-counted, behind_chain, Settles-behind_chain, behind_assignment, behind_lanes, Settles-behind_lanes}
use Rattle.wq_cert.proofs.JudgedLines.{Judges, IsJudged, JudgesNext-next_line, Judges-first, Judges-behind, Judges-and_then, JudgesNext-next_lines}
use Rattle.wq_cert.proofs.WorkqueueLists.{AreGrown-workqueues}
use Rattle.wq_cert.proofs.SpelledForms.{SpellsCount-count_form, count_form-SpellsCount, SpellsArc-arc_form, SpellsStep-step_form, step_form-line, names_far_lane-near, names_far_lane-far}
use Rattle.wq_cert.proofs.SpelledLines.{no_words, begun_line, begun_lines, IsCount, IsCircleCount, IsNumber, run_count, IsReadBy-count, IsReadBy-circle, IsReadBy-run, IsReadBy-arc, IsReadBy-step}
use Rattle.wq_cert.proofs.SpelledWorkqueues.{GrowsTo-lines, whole_assignment-workqueues}

-- ---- one line

none_said : {V : Type 0} (o : Option V) → ((v : V) → o ≡ Some v → ⊥) → o ≡ None
none_said None none = refl
none_said (Some v) none = absurd (none v refl)

module _ (keyword : List ℕ) (line : CertLine) where
  abbrev in_range : ℕ → Result ℕ CertError
  in_range n = cond (ltb 4096 n) (Err (NumberOutOfRange line.no)) (Ok n)

  abbrev by_form : Option ℕ → Result ℕ CertError
  by_form o = and_then in_range (ok_or o (BadCertLine line.no))

  count-formless : ((n : ℕ) × SpellsCount keyword line.words n → ⊥) → count_reading keyword line ≡ Err (BadCertLine line.no)
  count-formless none = ap by_form (none_said (count_form keyword line.words) (λ n e. none (n, SpellsCount-count_form keyword line.words n e)))

  count-far : (n : ℕ) → SpellsCount keyword line.words n → 4096 < n → count_reading keyword line ≡ Err (NumberOutOfRange line.no)
  count-far n said far =
      ap by_form (count_form-SpellsCount keyword line.words n said) ∙ ap (λ (b : Bool). cond b (Err (NumberOutOfRange line.no)) (Ok n)) (lt-ltb 4096 n far)

  count-near : (n : ℕ) → SpellsCount keyword line.words n → n ≤ 4096 → count_reading keyword line ≡ Ok n
  count-near n said near = (IsReadBy-count keyword).said line n said.words_are near

module _ (line : CertLine) where
  abbrev some_arc : ℕ → Result ℕ CertError
  some_arc n = cond (eqb n 0) (Err (NumberOutOfRange line.no)) (Ok n)

  circle-far : (n : ℕ) → SpellsCount (codes "circle") line.words n → (n ≡ 0) ⊎ (4096 < n) → circle_count_reading line ≡ Err (NumberOutOfRange line.no)
  circle-far n said (inl none) =
      ap (and_then some_arc) (count-near (codes "circle") line n said (omega arith))
      ∙ ap (λ (b : Bool). cond b (Err (NumberOutOfRange line.no)) (Ok n)) (eq-eqb n 0 none)
  circle-far n said (inr far) = ap (and_then some_arc) (count-far (codes "circle") line n said far)

module _ (names : List (List ℕ)) (line : CertLine) where
  abbrev near_lane : Step → Result Step CertError
  near_lane step = cond (names_far_lane step) (Err (NumberOutOfRange line.no)) (Ok step)

  abbrev step_by_form : Option Step → Result Step CertError
  step_by_form o = and_then near_lane (ok_or o (BadCertLine line.no))

  abbrev Breaks : LineForm → CertError → Type 0
  Breaks form fault = BreaksLine names form line fault

  at_number : (n : ℕ) (fault : ℕ → CertError) {V : Type 0} (r : Result V CertError) → n ≡ line.no → r ≡ Err (fault line.no) → r ≡ Err (fault n)
  at_number n fault r same e = e ∙ ap (λ (m : ℕ). Err (fault m)) (sym same)

  module _ (differ : AllPairs (λ (a b : List ℕ). a ≢ b) names) where
    plan_judged : IsJudged line (Breaks PlanLine) (KeepsLine names PlanLine line) (count_reading (codes "plan"))
    plan_judged = record { refused = broken; kept = λ keeps. (keeps.0.0, count-near (codes "plan") line keeps.0.0 keeps.0.1 (omega (arith, λ (far : 4096 < keeps.0.0). keeps.1 (keeps.0.0, keeps.0.1, far)))) }
      where
        broken : (fault : CertError) → Breaks PlanLine fault → count_reading (codes "plan") line ≡ Err fault
        broken (BadCertLine n) h = at_number n BadCertLine (count_reading (codes "plan") line) h.0 (count-formless (codes "plan") line h.1)
        broken (NumberOutOfRange n) h = at_number n NumberOutOfRange (count_reading (codes "plan") line) h.0 (count-far (codes "plan") line h.1.0 h.1.1 h.1.2)
        broken (NotAllItems n) h = absurd h
        broken (GroupSplit n) h = absurd h
        broken OutOfMemory h = absurd h

    chain_judged : IsJudged line (Breaks ChainLine) (KeepsLine names ChainLine line) (count_reading (codes "chain"))
    chain_judged = record { refused = broken; kept = λ keeps. (keeps.0.0, count-near (codes "chain") line keeps.0.0 keeps.0.1 (omega (arith, λ (far : 4096 < keeps.0.0). keeps.1 (keeps.0.0, keeps.0.1, far)))) }
      where
        broken : (fault : CertError) → Breaks ChainLine fault → count_reading (codes "chain") line ≡ Err fault
        broken (BadCertLine n) h = at_number n BadCertLine (count_reading (codes "chain") line) h.0 (count-formless (codes "chain") line h.1)
        broken (NumberOutOfRange n) h = at_number n NumberOutOfRange (count_reading (codes "chain") line) h.0 (count-far (codes "chain") line h.1.0 h.1.1 h.1.2)
        broken (NotAllItems n) h = absurd h
        broken (GroupSplit n) h = absurd h
        broken OutOfMemory h = absurd h

    circle_judged : IsJudged line (Breaks CircleLine) (KeepsLine names CircleLine line) circle_count_reading
    circle_judged = record {
      refused = broken;
      kept = λ keeps.
          let n = keeps.0.0 in
          let some : n ≢ 0 = λ none. keeps.1 (n, keeps.0.1, inl none) in
          let few : 4096 < n → ⊥ = λ far. keeps.1 (n, keeps.0.1, inr far) in
          (n, IsReadBy-circle.said line n keeps.0.1.words_are (omega (arith, some), omega (arith, few)));
    }
      where
        broken : (fault : CertError) → Breaks CircleLine fault → circle_count_reading line ≡ Err fault
        broken (BadCertLine n) h = at_number n BadCertLine (circle_count_reading line) h.0 (ap (and_then (some_arc line)) (count-formless (codes "circle") line h.1))
        broken (NumberOutOfRange n) h = at_number n NumberOutOfRange (circle_count_reading line) h.0 (circle-far line h.1.0 h.1.1 h.1.2)
        broken (NotAllItems n) h = absurd h
        broken (GroupSplit n) h = absurd h
        broken OutOfMemory h = absurd h

    run_judged : IsJudged line (Breaks RunLine) (KeepsLine names RunLine line) run_count
    run_judged = record { refused = broken; kept = λ keeps. (keeps.0.0, IsReadBy-run.said line keeps.0.0 keeps.0.1.words_are keeps.0.1.fits) }
      where
        broken : (fault : CertError) → Breaks RunLine fault → run_count line ≡ Err fault
        broken (BadCertLine n) h =
            at_number n BadCertLine (run_count line) h.0
            (ap (λ (o : Option ℕ). ok_or o (BadCertLine line.no)) (none_said (count_form (codes "run") line.words) (λ m e. h.1 (m, SpellsCount-count_form (codes "run") line.words m e))))
        broken (NumberOutOfRange n) h = absurd h.1
        broken (NotAllItems n) h = absurd h
        broken (GroupSplit n) h = absurd h
        broken OutOfMemory h = absurd h

    arc_judged : IsJudged line (Breaks ArcLine) (KeepsLine names ArcLine line) (arc_reading names)
    arc_judged = record { refused = broken; kept = λ keeps. (keeps.0.0, (IsReadBy-arc names differ).said line keeps.0.0 keeps.0.1.words_are keeps.0.1.known) }
      where
        broken : (fault : CertError) → Breaks ArcLine fault → arc_reading names line ≡ Err fault
        broken (BadCertLine n) h =
            at_number n BadCertLine (arc_reading names line) h.0
            (ap (λ (o : Option (ℕ × ℕ)). ok_or o (BadCertLine line.no)) (none_said (arc_form names line.words) (λ arc e. h.1 (arc, SpellsArc-arc_form names line.words arc e))))
        broken (NumberOutOfRange n) h = absurd h.1
        broken (NotAllItems n) h = absurd h
        broken (GroupSplit n) h = absurd h
        broken OutOfMemory h = absurd h

    step_said : (step : Step) → SpellsStep names line.words step → step_form names line.words ≡ Some step
    step_said step said = ap (step_form names) said.words_are ∙ step_form-line names differ step said.known said.no_help said.fits

    step_judged : IsJudged line (Breaks StepLine) (KeepsLine names StepLine line) (step_reading names)
    step_judged = record {
      refused = broken;
      kept = λ keeps.
          let step = keeps.0.0 in
          let near : names_far_lane step ≡ false = names_far_lane-near step (λ far. keeps.1 (step, keeps.0.1, far)) in
          (step, (IsReadBy-step names differ).said line step keeps.0.1.words_are (keeps.0.1.known, near, keeps.0.1.no_help));
    }
      where
        broken : (fault : CertError) → Breaks StepLine fault → step_reading names line ≡ Err fault
        broken (BadCertLine n) h =
            at_number n BadCertLine (step_reading names line) h.0
            (ap step_by_form (none_said (step_form names line.words) (λ step e. h.1 (step, SpellsStep-step_form names line.words step e))))
        broken (NumberOutOfRange n) h =
            at_number n NumberOutOfRange (step_reading names line) h.0
            (ap step_by_form (step_said h.1.0 h.1.1) ∙ ap (λ (b : Bool). cond b (Err (NumberOutOfRange line.no)) (Ok h.1.0)) (names_far_lane-far h.1.0 h.1.2))
        broken (NotAllItems n) h = absurd h
        broken (GroupSplit n) h = absurd h
        broken OutOfMemory h = absurd h

    -- ---- runs

    abbrev JudgesForm : LineForm → {V : Type 0} → (List CertLine → Result V CertError) → List CertLine → Type 0
    JudgesForm form read before = Judges line (Breaks form) (KeepsLine names form line) read before

    Judges-run : (form : LineForm) (before : List CertLine) → StandsInRun names (words_of_lines before) form → JudgesForm form (run_reading names) before
    Judges-run PlanLine before stands = absurd stands
    Judges-run ChainLine before stands = absurd stands
    Judges-run CircleLine before stands = absurd stands
    Judges-run ArcLine before stands = absurd stands
    Judges-run RunLine before stands =
        subst (JudgesForm RunLine (run_reading names)) (sym (no_words before stands))
        (Judges-first line (Breaks RunLine) (KeepsLine names RunLine line) (next_line run_count) [] (steps_behind names) (JudgesNext-next_line line (Breaks RunLine) (KeepsLine names RunLine line) run_count run_judged) (Settles-steps names))
    Judges-run StepLine before stands =
        let m = stands.0 in
        let steps = stands.1 in
        let first = begun_line run_count (count_words (codes "run")) IsNumber IsReadBy-run before m (map (step_line names) steps) stands.5 stands.2 in
        Judges-behind line (Breaks StepLine) (KeepsLine names StepLine line) (next_line run_count) before m first.rest (ReadsInOrder-next_line run_count at-run) first.is_read (steps_behind names)
        (Judges-first line (Breaks StepLine) (KeepsLine names StepLine line) (next_lines (step_reading names) m) first.rest last_step
        (JudgesNext-next_lines line (Breaks StepLine) (KeepsLine names StepLine line) (step_reading names) (at-step names) step_judged (step_line names) (IsStepOf (length names)) (IsReadBy-step names differ)
        steps m first.rest stands.3 first.behind (recursion_from_All (IsStepOf (length names)) steps stands.4))
        Settles-at_end)

    -- ---- circles

    Judges-run_after : (form : LineForm) (before : List CertLine) → StandsInRun names (words_of_lines before) form → JudgesForm form (run_after names) before
    Judges-run_after form before stands = nonempty before (Judges-and_then line (Breaks form) (KeepsLine names form line) (run_reading names) (λ (steps : List Step). Some steps) before (Judges-run form before stands))
      where
        nonempty : (front : List CertLine) → JudgesForm form (λ lines. and_then (λ (steps : List Step). Ok (Some steps)) (run_reading names lines)) front → JudgesForm form (run_after names) front
        nonempty [] h = record { refused = h.refused; kept = h.kept }
        nonempty (other ∷ front) h = record { refused = h.refused; kept = h.kept }

    Judges-behind_arcs : (form : LineForm) (before : List CertLine) (run : List (List (List ℕ))) → IsBehindArcs names (words_of_lines before) run → StandsInRun names run form → JudgesForm form (circle_reading names) before
    Judges-behind_arcs form before run all stands =
        let n = length all.arcs in
        let first = begun_line circle_count_reading (count_words (codes "circle")) IsCircleCount IsReadBy-circle before n (map (arc_line names) all.arcs ++ run) all.words_are (all.some, all.few) in
        let said = begun_lines (arc_reading names) (arc_line names) (IsArcOf (length names)) (IsReadBy-arc names differ) all.arcs first.rest run first.behind (recursion_from_All (IsArcOf (length names)) all.arcs all.known) in
        Judges-behind line (Breaks form) (KeepsLine names form line) (next_line circle_count_reading) before n first.rest (ReadsInOrder-next_line circle_count_reading at-circle) first.is_read (behind_circle names)
        (Judges-behind line (Breaks form) (KeepsLine names form line) (next_lines (arc_reading names) n) first.rest all.arcs said.rest (ReadsInOrder-next_lines (arc_reading names) (at-arc names) n) said.is_read (behind_arcs names)
        (Judges-and_then line (Breaks form) (KeepsLine names form line) (run_after names) (circle_made all.arcs) said.rest
        (Judges-run_after form said.rest (subst (λ (ws : List (List (List ℕ))). StandsInRun names ws form) (sym said.behind) stands))))

    Judges-circle : (form : LineForm) (before : List CertLine) → StandsInCircle names (words_of_lines before) form → JudgesForm form (circle_reading names) before
    Judges-circle PlanLine before stands = absurd stands
    Judges-circle ChainLine before stands = absurd stands
    Judges-circle CircleLine before stands =
        subst (JudgesForm CircleLine (circle_reading names)) (sym (no_words before stands))
        (Judges-first line (Breaks CircleLine) (KeepsLine names CircleLine line) (next_line circle_count_reading) [] (behind_circle names)
        (JudgesNext-next_line line (Breaks CircleLine) (KeepsLine names CircleLine line) circle_count_reading circle_judged) (Settles-behind_circle names))
    Judges-circle ArcLine before stands =
        let n = stands.0 in
        let arcs = stands.1 in
        let fewer : length arcs < n = stands.3.fewer in
        let some : 0 < n = omega (arith, fewer) in
        let first = begun_line circle_count_reading (count_words (codes "circle")) IsCircleCount IsReadBy-circle before n (map (arc_line names) arcs) stands.4 (some, stands.2) in
        Judges-behind line (Breaks ArcLine) (KeepsLine names ArcLine line) (next_line circle_count_reading) before n first.rest (ReadsInOrder-next_line circle_count_reading at-circle) first.is_read (behind_circle names)
        (Judges-first line (Breaks ArcLine) (KeepsLine names ArcLine line) (next_lines (arc_reading names) n) first.rest (behind_arcs names)
        (JudgesNext-next_lines line (Breaks ArcLine) (KeepsLine names ArcLine line) (arc_reading names) (at-arc names) arc_judged (arc_line names) (IsArcOf (length names)) (IsReadBy-arc names differ)
        arcs n first.rest fewer first.behind (recursion_from_All (IsArcOf (length names)) arcs stands.3.known))
        (Settles-behind_arcs names))
    Judges-circle RunLine before stands = Judges-behind_arcs RunLine before stands.0 stands.1 stands.2
    Judges-circle StepLine before stands = Judges-behind_arcs StepLine before stands.0 stands.1 stands.2

    -- ---- plans

    module _ (p : Partition) (one_group_each : length names ≡ length p.group_of) where
      -- all workqueues are read, and these lines come after them
      record Counts (workqueues : List (List ℕ)) (lines : List CertLine) (others : List (List (List ℕ))) : Type 0 where
        rest : List CertLine
        is_read : counted_assignment names p (length workqueues) lines ≡ Ok (assignment_of p workqueues, rest)
        behind : words_of_lines rest ≡ others

      Counts-workqueues : (workqueues : List (List ℕ)) (lines : List CertLine) (others : List (List (List ℕ))) → AreWorkqueues (length names) p.group_of workqueues → words_of_lines lines ≡ workqueue_lines names workqueues ++ others → Counts workqueues lines others
      Counts-workqueues workqueues lines others are words =
          let said = GrowsTo-lines names p.group_of differ workqueues [] lines others (AreGrown-workqueues (length names) p.group_of workqueues are) words in
          record {
            rest = said.rest;
            is_read =
                ap (and_read (λ found rest. and_then (λ assignment. Ok (assignment, rest)) (whole_assignment p found))) said.is_read
                ∙ ap (and_then (λ assignment. Ok (assignment, said.rest))) (whole_assignment-workqueues names p one_group_each workqueues are);
            behind = said.behind;
          }

      -- what judges the line after the workqueues judges it in the plan
      Judges-behind_workqueues : (form : LineForm) (before : List CertLine) (workqueues : List (List ℕ)) (others : List (List (List ℕ))) → AreWorkqueues (length names) p.group_of workqueues
          → words_of_lines before ≡ plan_line (length workqueues) ∷ (workqueue_lines names workqueues ++ others) → ((rest : List CertLine) → words_of_lines rest ≡ others → JudgesForm form (chain_reading names) rest) → JudgesForm form (plan_reading names p) before
      Judges-behind_workqueues form before workqueues others are words then =
          let k = length workqueues in
          let a = assignment_of p workqueues in
          let first = begun_line (count_reading (codes "plan")) (count_words (codes "plan")) IsCount (IsReadBy-count (codes "plan")) before k (workqueue_lines names workqueues ++ others) words are.few in
          let all = Counts-workqueues workqueues first.rest others are first.behind in
          Judges-behind line (Breaks form) (KeepsLine names form line) (next_line (count_reading (codes "plan"))) before k first.rest (ReadsInOrder-next_line (count_reading (codes "plan")) (at-count (codes "plan"))) first.is_read (behind_lanes names p)
          (Judges-behind line (Breaks form) (KeepsLine names form line) (counted_assignment names p k) first.rest a all.rest (ReadsInOrder-counted names p k) all.is_read (behind_assignment names p)
          (Judges-and_then line (Breaks form) (KeepsLine names form line) (chain_reading names) (plan_made a) all.rest (then all.rest all.behind)))

      Judges-plan : (form : LineForm) (before : List CertLine) → StandsInPlan names p (words_of_lines before) form → JudgesForm form (plan_reading names p) before
      Judges-plan PlanLine before stands =
          subst (JudgesForm PlanLine (plan_reading names p)) (sym (no_words before stands))
          (Judges-first line (Breaks PlanLine) (KeepsLine names PlanLine line) (next_line (count_reading (codes "plan"))) [] (behind_lanes names p)
          (JudgesNext-next_line line (Breaks PlanLine) (KeepsLine names PlanLine line) (count_reading (codes "plan")) plan_judged) (Settles-behind_lanes names p))
      Judges-plan ChainLine before stands =
          Judges-behind_workqueues ChainLine before stands.0 [] stands.1 (stands.2 ∙ ap (λ (ls : List (List (List ℕ))). plan_line (length stands.0) ∷ ls) (sym (append-nil (workqueue_lines names stands.0))))
          (λ rest words.
          subst (JudgesForm ChainLine (chain_reading names)) (sym (no_words rest words))
          (Judges-first line (Breaks ChainLine) (KeepsLine names ChainLine line) (next_line (count_reading (codes "chain"))) [] (behind_chain names p)
          (JudgesNext-next_line line (Breaks ChainLine) (KeepsLine names ChainLine line) (count_reading (codes "chain")) chain_judged) (Settles-behind_chain names p)))
      Judges-plan CircleLine before stands = absurd stands
      Judges-plan ArcLine before stands =
          let n = stands.1 in
          let arcs = stands.2 in
          Judges-behind_workqueues ArcLine before stands.0 (count_line n ∷ map (arc_line names) arcs) stands.3 stands.6
          (λ rest words.
          let first = begun_line (count_reading (codes "chain")) (count_words (codes "chain")) IsCount (IsReadBy-count (codes "chain")) rest n (map (arc_line names) arcs) words stands.4 in
          Judges-behind line (Breaks ArcLine) (KeepsLine names ArcLine line) (next_line (count_reading (codes "chain"))) rest n first.rest (ReadsInOrder-next_line (count_reading (codes "chain")) (at-count (codes "chain"))) first.is_read (behind_chain names p)
          (Judges-first line (Breaks ArcLine) (KeepsLine names ArcLine line) (next_lines (arc_reading names) (n - 1)) first.rest (λ found behind. at_end (n, found) behind)
          (JudgesNext-next_lines line (Breaks ArcLine) (KeepsLine names ArcLine line) (arc_reading names) (at-arc names) arc_judged (arc_line names) (IsArcOf (length names)) (IsReadBy-arc names differ)
          arcs (n - 1) first.rest stands.5.fewer first.behind (recursion_from_All (IsArcOf (length names)) arcs stands.5.known))
          (λ found. Settles-at_end {V = ℕ × List (ℕ × ℕ)} (n, found))))
      Judges-plan RunLine before stands = absurd stands
      Judges-plan StepLine before stands = absurd stands

-- ---- what is answered

module _ (names : List (List ℕ)) (differ : AllPairs (λ (a b : List ℕ). a ≢ b) names) (form : LineForm) (before : List CertLine) (line : CertLine) where
  module _ (p : Partition) (one_group_each : length names ≡ length p.group_of) (stands : StandsInPlan names p (words_of_lines before) form) where
    pub plan_reading-BreaksLine : (behind : List CertLine) (fault : CertError) → BreaksLine names form line fault → plan_reading names p (before ++ (line ∷ behind)) ≡ Err fault
    plan_reading-BreaksLine behind fault breaks = (Judges-plan names line differ p one_group_each form before stands).refused fault behind breaks

    pub plan_reading-KeepsLine : KeepsLine names form line → NoLineIsAtFault (plan_reading names p (before ++ (line ∷ [])))
    plan_reading-KeepsLine keeps = (Judges-plan names line differ p one_group_each form before stands).kept keeps

  module _ (stands : StandsInCircle names (words_of_lines before) form) where
    pub circle_reading-BreaksLine : (behind : List CertLine) (fault : CertError) → BreaksLine names form line fault → circle_reading names (before ++ (line ∷ behind)) ≡ Err fault
    circle_reading-BreaksLine behind fault breaks = (Judges-circle names line differ form before stands).refused fault behind breaks

    pub circle_reading-KeepsLine : KeepsLine names form line → NoLineIsAtFault (circle_reading names (before ++ (line ∷ [])))
    circle_reading-KeepsLine keeps = (Judges-circle names line differ form before stands).kept keeps

  module _ (stands : StandsInRun names (words_of_lines before) form) where
    pub run_reading-BreaksLine : (behind : List CertLine) (fault : CertError) → BreaksLine names form line fault → run_reading names (before ++ (line ∷ behind)) ≡ Err fault
    run_reading-BreaksLine behind fault breaks = (Judges-run names line differ form before stands).refused fault behind breaks

    pub run_reading-KeepsLine : KeepsLine names form line → NoLineIsAtFault (run_reading names (before ++ (line ∷ [])))
    run_reading-KeepsLine keeps = (Judges-run names line differ form before stands).kept keeps
