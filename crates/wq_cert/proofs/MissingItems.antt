-- What is answered after the lines of the workqueues: that an item is missing, and then a line with another first word.
use Rattle.std.proofs.Common.{◌≡◌, ◌≢◌, ℕ, ◌+◌, Bool, false, cond, List, [], ◌∷◌, ◌++◌, length, Result, Ok, Err, refl, sym, ap, ◌∙◌, append_assoc, append-nil, length-append}
use Rattle.std.specs.Prelude.{AllPairs, codes}
use Rattle.std.proofs.lemmas.Bool.{false_from_ne_true}
use Rattle.wq_groups.specs.Assignment.{Assignment}
use Rattle.wq_groups.specs.Partition.{Partition}
use Rattle.wq_cert.proofs.PlanTurns.{ended, assigned, behind_workqueues, with_chain, behind_plan, plan_reading-turn}
use Rattle.wq_cert.proofs.WorkqueueLists.{Contains-hold_all, AreGrown-workqueues}
use Rattle.wq_cert.proofs.WorkqueueRows.{AreGrown-first, GrownBy, and_all, all_by}
use Rattle.wq_cert.proofs.SpelledLines.{begun_line, IsCount, IsReadBy-count}
use Rattle.wq_cert.proofs.SpelledWorkqueues.{lines_from, said_next, first_grown, GrowsTo-lines, whole_assignment-workqueues}
use Rattle.wq_cert.specs.declared.fault.CertError.{CertError}
use Rattle.wq_cert.specs.declared.fault.CertError.TheVariants.{BadCertLine, NotAllItems}
use Rattle.wq_cert.specs.Forms.{begins_with}
use Rattle.wq_cert.specs.Lines.{CertLine}
use Rattle.wq_cert.specs.PlanText.{plan_line, workqueue_line}
use Rattle.wq_cert.specs.WorkqueueRows.{AreFirstWorkqueues, AllStand, begins_workqueue}
use Rattle.wq_items.specs.Building.{and_then}
use Rattle.wq_cert.specs.Reading.{Read, and_read, count_reading, all_workqueues, hold_all, assignment_of, whole_assignment, plan_reading, workqueues_reading}
use Rattle.wq_cert.specs.LineRows.{count_words}
use Rattle.wq_cert.specs.Spelled.{words_of_lines, workqueue_lines, AreWorkqueues}

-- ---- where the workqueues end

module _ (names : List (List ℕ)) (group_of : List ℕ) (behind : List CertLine) (stops : begins_workqueue behind ≡ false) where
  abbrev read_to : List (List ℕ) → List CertLine → Read (List (List ℕ))
  read_to workqueues rest = Ok (workqueues, rest)

  end_here : (workqueues : List (List ℕ)) (rest : List CertLine) → begins_workqueue rest ≡ false → all_workqueues names group_of workqueues rest ≡ read_to workqueues rest
  end_here workqueues [] none = refl
  end_here workqueues (line ∷ rest) none = ap (all_by names group_of workqueues line rest) none

  module _ (differ : AllPairs (λ (a b : List ℕ). a ≢ b) names) where
    pub all_workqueues-stop : (more workqueues : List (List ℕ)) (lines : List CertLine) → GrownBy names group_of workqueues more → words_of_lines lines ≡ lines_from names group_of (length workqueues) more
        → all_workqueues names group_of workqueues (lines ++ behind) ≡ read_to (workqueues ++ more) behind
    all_workqueues-stop [] workqueues [] grown words = end_here workqueues behind stops ∙ ap (λ (qs : List (List ℕ)). read_to qs behind) (sym (append-nil workqueues))
    all_workqueues-stop [] workqueues (found ∷ lines) grown words = absurd cc
    all_workqueues-stop (workqueue ∷ more) workqueues [] grown words = absurd cc
    all_workqueues-stop (workqueue ∷ more) workqueues (found ∷ lines) grown words =
        let first : found.words ≡ workqueue_line names (length workqueues, workqueue) = cc in
        let others : words_of_lines lines ≡ lines_from names group_of (length workqueues + 1) more = cc in
        let count : length workqueues + 1 ≡ length (workqueues ++ (workqueue ∷ [])) = sym (length-append workqueues (workqueue ∷ [])) in
        ap (λ (ws : List (List ℕ)). all_by names group_of workqueues found (lines ++ behind) (begins_with (codes "wq") ws)) first
        ∙ ap (and_all names group_of workqueues (lines ++ behind)) (said_next names group_of differ workqueues more workqueue found grown first)
        ∙ all_workqueues-stop more (workqueues ++ (workqueue ∷ [])) lines (first_grown names group_of differ workqueues more workqueue grown) (others ∙ ap (λ (k : ℕ). lines_from names group_of k more) count)
        ∙ ap (λ (qs : List (List ℕ)). read_to qs behind) (append_assoc workqueues (workqueue ∷ []) more)

-- ---- texts

module _ (names : List (List ℕ)) (p : Partition) (one_group_each : length names ≡ length p.group_of) (differ : AllPairs (λ (a b : List ℕ). a ≢ b) names) where
  abbrev whole_if : List (List ℕ) → Bool → Result Assignment CertError
  whole_if workqueues b = cond b (Ok (assignment_of p workqueues)) (Err (NotAllItems 0))

  whole_assignment-missing : (workqueues : List (List ℕ)) → (AllStand (length names) workqueues → ⊥) → whole_assignment p workqueues ≡ Err (NotAllItems 0)
  whole_assignment-missing workqueues missing =
      ap (whole_if workqueues)
      (false_from_ne_true (hold_all (length p.group_of) workqueues) (λ e. missing (Contains-hold_all (length names) workqueues (ap (λ (n : ℕ). hold_all n workqueues) one_group_each ∙ e))))

  pub plan_reading-missing : (workqueues : List (List ℕ)) (lines : List CertLine) (behind : List (List (List ℕ))) → words_of_lines lines ≡ plan_line (length workqueues) ∷ (workqueue_lines names workqueues ++ behind)
      → AreFirstWorkqueues (length names) p.group_of workqueues → (AllStand (length names) workqueues → ⊥) → plan_reading names p lines ≡ Err (NotAllItems 0)
  plan_reading-missing workqueues lines behind words first missing =
      let count = begun_line (count_reading (codes "plan")) (count_words (codes "plan")) IsCount (IsReadBy-count (codes "plan")) lines (length workqueues) (workqueue_lines names workqueues ++ behind) words first.few in
      let said = GrowsTo-lines names p.group_of differ workqueues [] count.rest behind (AreGrown-first (length names) p.group_of workqueues first) count.behind in
      plan_reading-turn names p lines
      ∙ ap (and_read (behind_plan names p)) count.is_read
      ∙ ap (λ (r : Read (List (List ℕ))). and_read (with_chain names p) r) said.is_read
      ∙ ap (and_then (behind_workqueues names p said.rest)) (whole_assignment-missing workqueues missing)

  pub workqueues_reading-missing : (workqueues : List (List ℕ)) (before behind : List CertLine) → words_of_lines before ≡ workqueue_lines names workqueues → begins_workqueue behind ≡ false
      → AreFirstWorkqueues (length names) p.group_of workqueues → (AllStand (length names) workqueues → ⊥) → workqueues_reading names p (before ++ behind) ≡ Err (NotAllItems 0)
  workqueues_reading-missing workqueues before behind words stops first missing =
      ap (and_read (assigned p)) (all_workqueues-stop names p.group_of behind stops differ workqueues [] before (AreGrown-first (length names) p.group_of workqueues first) words)
      ∙ ap (and_then (ended behind)) (whole_assignment-missing workqueues missing)

  pub workqueues_reading-other : (workqueues : List (List ℕ)) (before : List CertLine) (line : CertLine) (behind : List CertLine) → words_of_lines before ≡ workqueue_lines names workqueues
      → begins_with (codes "wq") line.words ≡ false → AreWorkqueues (length names) p.group_of workqueues → workqueues_reading names p (before ++ (line ∷ behind)) ≡ Err (BadCertLine line.no)
  workqueues_reading-other workqueues before line behind words stops are =
      ap (and_read (assigned p)) (all_workqueues-stop names p.group_of (line ∷ behind) stops differ workqueues [] before (AreGrown-workqueues (length names) p.group_of workqueues are) words)
      ∙ ap (and_then (ended (line ∷ behind))) (whole_assignment-workqueues names p one_group_each workqueues are)
