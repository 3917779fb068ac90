-- Which fault the line of a workqueue has, by the first row that it breaks.
use Rattle.std.proofs.Common.{◌≡◌, ◌≢◌, ℕ, zero, suc, ◌+◌, ◌<◌, ◌≤◌, ◌⊎◌, inl, inr, Bool, true, false, not, cond, leb, eqb, List, [], ◌∷◌, ◌++◌, length, Option, Some, None, Result, Ok, Err, refl, sym, ap, ◌∙◌, arith, append_assoc, append-nil, length-append}
use Rattle.std.specs.Prelude.{AllPairs, codes, ok_or}
use Rattle.std.specs.List.{concat}
use Rattle.std.proofs.lemmas.Bool.{or_from, or_left, or_right, not_from_true, not_from_false, true_from_ne_false, eq-eqb, ne_eqb, le-leb, lt-leb}
use Rattle.std.proofs.lemmas.List.Elements.{All-from_recursion, recursion_from_All}
use Rattle.wq_groups.specs.Partition.{Partition}
use Rattle.wq_cert.proofs.PlanTurns.{assigned, with_chain, behind_plan, plan_reading-turn}
use Rattle.wq_cert.proofs.WorkqueueLists.{Once-has_stood, has_stood-Once, GroupsAreWhole-push, AreApart-splits_group, AreGrown}
use Rattle.wq_cert.proofs.WorkqueueTurns.{in_groups, in_once, is_out, in_turn, wq_reading-turn}
use Rattle.wq_cert.proofs.SpelledForms.{IsWorkqueueLine-wq_form, wq_form-IsWorkqueueLine}
use Rattle.wq_cert.proofs.SpelledLines.{IsReadBy-count}
use Rattle.wq_cert.proofs.SpelledWorkqueues.{lines_from, said_next, first_grown}
use Rattle.wq_cert.specs.declared.fault.CertError.{CertError}
use Rattle.wq_cert.specs.declared.fault.CertError.TheVariants.{BadCertLine, NotAllItems, GroupSplit, NumberOutOfRange, OutOfMemory}
use Rattle.wq_cert.specs.Forms.{begins_with, wq_form}
use Rattle.wq_cert.specs.Lines.{CertLine}
use Rattle.wq_cert.specs.PlanText.{plan_line, workqueue_line}
use Rattle.wq_cert.specs.WorkqueueRows.{AreFirstWorkqueues, SpellsWorkqueue, SpellsNextWorkqueue, BreaksWorkqueueRow}
use Rattle.wq_items.specs.Building.{and_then}
use Rattle.wq_cert.specs.Reading.{Read, and_read, count_reading, has_stood, splits_group, wq_reading, next_workqueues, all_workqueues, plan_reading, workqueues_reading}
use Rattle.wq_cert.specs.Spelled.{words_of_lines, workqueue_lines}

pub AreGrown-first : (items : ℕ) (group_of : List ℕ) (workqueues : List (List ℕ)) → AreFirstWorkqueues items group_of workqueues → AreGrown items group_of workqueues
AreGrown-first items group_of workqueues h = record { few = h.few; known = h.known; once = h.once; whole = h.whole }

-- ---- the line

module _ (names : List (List ℕ)) (group_of : List ℕ) (workqueues : List (List ℕ)) (line : CertLine) where
  abbrev judged : Option (ℕ × List ℕ) → Result (List ℕ) CertError
  judged o = and_then (in_turn names group_of workqueues line.no) (ok_or o (BadCertLine line.no))

  says_none : ((workqueue : ℕ × List ℕ) → SpellsWorkqueue names line.words workqueue → ⊥) → (o : Option (ℕ × List ℕ)) → wq_form names line.words ≡ o → o ≡ None
  says_none none None e = refl
  says_none none (Some workqueue) e =
      let h = IsWorkqueueLine-wq_form names line.words workqueue e in
      absurd (none workqueue (record { words_are = h.words_are; fits = h.fits; known = All-from_recursion (λ i. i < length names) workqueue.1 h.known }))

  module _ (differ : AllPairs (λ (a b : List ℕ). a ≢ b) names) where
    said_form : (workqueue : ℕ × List ℕ) → SpellsWorkqueue names line.words workqueue → wq_form names line.words ≡ Some workqueue
    said_form workqueue h =
        wq_form-IsWorkqueueLine names line.words differ workqueue (record { words_are = h.words_are; fits = h.fits; known = recursion_from_All (λ i. i < length names) workqueue.1 h.known })

    said_turn : (workqueue : ℕ × List ℕ) → SpellsWorkqueue names line.words workqueue → wq_reading names group_of workqueues line ≡ in_turn names group_of workqueues line.no workqueue
    said_turn workqueue h = wq_reading-turn names group_of workqueues line ∙ ap judged (said_form workqueue h)

    out_of_range : (q : ℕ) → (q ≢ length workqueues) ⊎ (4096 ≤ length workqueues) → is_out names group_of workqueues q ≡ true
    out_of_range q (inl other) = or_left (not (eqb q (length workqueues))) (leb 4096 (length workqueues)) (not_from_false (eqb q (length workqueues)) (ne_eqb q (length workqueues) other))
    out_of_range q (inr many) = or_right (not (eqb q (length workqueues))) (leb 4096 (length workqueues)) (le-leb 4096 (length workqueues) many)

    in_range : length workqueues < 4096 → is_out names group_of workqueues (length workqueues) ≡ false
    in_range room =
        or_from (not (eqb (length workqueues) (length workqueues))) (leb 4096 (length workqueues)) (not_from_true (eqb (length workqueues) (length workqueues)) (eq-eqb (length workqueues) (length workqueues) refl))
        (lt-leb 4096 (length workqueues) room)

    next_turn : (items : List ℕ) → SpellsNextWorkqueue names line.words workqueues items → wq_reading names group_of workqueues line ≡ in_once group_of workqueues line.no items
    next_turn items h =
        said_turn (length workqueues, items) h.says ∙ ap (λ (b : Bool). cond b (Err (NumberOutOfRange line.no)) (in_once group_of workqueues line.no items)) (in_range h.room)

    pub wq_reading-BreaksWorkqueueRow : AreFirstWorkqueues (length names) group_of workqueues → (fault : CertError) → BreaksWorkqueueRow names group_of workqueues line fault → wq_reading names group_of workqueues line ≡ Err fault
    wq_reading-BreaksWorkqueueRow first (BadCertLine n) h =
        wq_reading-turn names group_of workqueues line ∙ ap judged (says_none h.1 (wq_form names line.words) refl) ∙ ap (λ (m : ℕ). Err (BadCertLine m)) (sym h.0)
    wq_reading-BreaksWorkqueueRow first (NumberOutOfRange n) h =
        let items = h.1.1 in
        said_turn h.1 h.2
        ∙ ap (λ (b : Bool). cond b (Err (NumberOutOfRange line.no)) (in_once group_of workqueues line.no items)) (out_of_range h.1.0 h.3)
        ∙ ap (λ (m : ℕ). Err (NumberOutOfRange m)) (sym h.0)
    wq_reading-BreaksWorkqueueRow first (NotAllItems n) h =
        let stood : has_stood (concat workqueues) h.1 ≡ true = true_from_ne_false (has_stood (concat workqueues) h.1) (λ fresh. h.3 (Once-has_stood (concat workqueues) h.1 first.once fresh)) in
        next_turn h.1 h.2
        ∙ ap (λ (b : Bool). cond b (Err (NotAllItems line.no)) (in_groups group_of workqueues line.no h.1)) stood
        ∙ ap (λ (m : ℕ). Err (NotAllItems m)) (sym h.0)
    wq_reading-BreaksWorkqueueRow first (GroupSplit n) h =
        let split : splits_group group_of (concat workqueues) h.1 ≡ true =
        true_from_ne_false (splits_group group_of (concat workqueues) h.1) (λ apart. h.4 (GroupsAreWhole-push group_of workqueues h.1 first.whole (AreApart-splits_group group_of (concat workqueues) h.1 apart))) in
        next_turn h.1 h.2
        ∙ ap (λ (b : Bool). cond b (Err (NotAllItems line.no)) (in_groups group_of workqueues line.no h.1)) (has_stood-Once (concat workqueues) h.1 h.3)
        ∙ ap (λ (b : Bool). cond b (Err (GroupSplit line.no)) (Ok h.1)) split
        ∙ ap (λ (m : ℕ). Err (GroupSplit m)) (sym h.0)
    wq_reading-BreaksWorkqueueRow first OutOfMemory h = absurd h

-- ---- after the lines of these workqueues

module _ (names : List (List ℕ)) (group_of : List ℕ) where
  abbrev pub GrownBy : List (List ℕ) → List (List ℕ) → Type 0
  GrownBy workqueues more = AreGrown (length names) group_of (workqueues ++ more)

  -- all workqueues after one more that is read
  abbrev pub and_all : List (List ℕ) → List CertLine → Result (List ℕ) CertError → Read (List (List ℕ))
  and_all workqueues lines r = and_then (λ items. all_workqueues names group_of (workqueues ++ (items ∷ [])) lines) r

  -- the same, if the line is that of a workqueue
  abbrev pub all_by : List (List ℕ) → CertLine → List CertLine → Bool → Read (List (List ℕ))
  all_by workqueues found lines b = cond b (and_all workqueues lines (wq_reading names group_of workqueues found)) (Ok (workqueues, found ∷ lines))

module _ (names : List (List ℕ)) (group_of : List ℕ) (differ : AllPairs (λ (a b : List ℕ). a ≢ b) names) (line : CertLine) (behind : List CertLine) (fault : CertError) where
  abbrev and_workqueues : ℕ → List (List ℕ) → List CertLine → Result (List ℕ) CertError → Read (List (List ℕ))
  and_workqueues n workqueues lines r =
      and_read (λ items rest. next_workqueues names group_of n (workqueues ++ (items ∷ [])) rest) (and_then (λ items. Ok (items, lines)) r)

  refused-next_workqueues : (more workqueues : List (List ℕ)) (lines : List CertLine) (n : ℕ) → GrownBy names group_of workqueues more → words_of_lines lines ≡ lines_from names group_of (length workqueues) more → length more < n
      → wq_reading names group_of (workqueues ++ more) line ≡ Err fault → next_workqueues names group_of n workqueues (lines ++ (line ∷ behind)) ≡ Err fault
  refused-next_workqueues more workqueues lines zero grown words below refused = absurd (omega (arith, below))
  refused-next_workqueues [] workqueues [] (suc n) grown words below refused =
      ap (and_workqueues n workqueues behind) (ap (λ (qs : List (List ℕ)). wq_reading names group_of qs line) (sym (append-nil workqueues)) ∙ refused)
  refused-next_workqueues [] workqueues (found ∷ lines) (suc n) grown words below refused = absurd cc
  refused-next_workqueues (workqueue ∷ more) workqueues [] (suc n) grown words below refused = absurd cc
  refused-next_workqueues (workqueue ∷ more) workqueues (found ∷ lines) (suc n) grown words below refused =
      let first : found.words ≡ workqueue_line names (length workqueues, workqueue) = cc in
      let others : words_of_lines lines ≡ lines_from names group_of (length workqueues + 1) more = cc in
      let count : length workqueues + 1 ≡ length (workqueues ++ (workqueue ∷ [])) = sym (length-append workqueues (workqueue ∷ [])) in
      ap (and_workqueues n workqueues (lines ++ (line ∷ behind))) (said_next names group_of differ workqueues more workqueue found grown first)
      ∙ refused-next_workqueues more (workqueues ++ (workqueue ∷ [])) lines n (first_grown names group_of differ workqueues more workqueue grown) (others ∙ ap (λ (k : ℕ). lines_from names group_of k more) count)
      (omega (arith, below)) (ap (λ (qs : List (List ℕ)). wq_reading names group_of qs line) (append_assoc workqueues (workqueue ∷ []) more) ∙ refused)

  refused-all_workqueues : (more workqueues : List (List ℕ)) (lines : List CertLine) → GrownBy names group_of workqueues more → words_of_lines lines ≡ lines_from names group_of (length workqueues) more → begins_with (codes "wq") line.words ≡ true
      → wq_reading names group_of (workqueues ++ more) line ≡ Err fault → all_workqueues names group_of workqueues (lines ++ (line ∷ behind)) ≡ Err fault
  refused-all_workqueues [] workqueues [] grown words is_wq refused =
      ap (all_by names group_of workqueues line behind) is_wq ∙ ap (and_all names group_of workqueues behind) (ap (λ (qs : List (List ℕ)). wq_reading names group_of qs line) (sym (append-nil workqueues)) ∙ refused)
  refused-all_workqueues [] workqueues (found ∷ lines) grown words is_wq refused = absurd cc
  refused-all_workqueues (workqueue ∷ more) workqueues [] grown words is_wq refused = absurd cc
  refused-all_workqueues (workqueue ∷ more) workqueues (found ∷ lines) grown words is_wq refused =
      let first : found.words ≡ workqueue_line names (length workqueues, workqueue) = cc in
      let others : words_of_lines lines ≡ lines_from names group_of (length workqueues + 1) more = cc in
      let count : length workqueues + 1 ≡ length (workqueues ++ (workqueue ∷ [])) = sym (length-append workqueues (workqueue ∷ [])) in
      ap (λ (ws : List (List ℕ)). all_by names group_of workqueues found (lines ++ (line ∷ behind)) (begins_with (codes "wq") ws)) first
      ∙ ap (and_all names group_of workqueues (lines ++ (line ∷ behind))) (said_next names group_of differ workqueues more workqueue found grown first)
      ∙ refused-all_workqueues more (workqueues ++ (workqueue ∷ [])) lines (first_grown names group_of differ workqueues more workqueue grown) (others ∙ ap (λ (k : ℕ). lines_from names group_of k more) count) is_wq
      (ap (λ (qs : List (List ℕ)). wq_reading names group_of qs line) (append_assoc workqueues (workqueue ∷ []) more) ∙ refused)

-- ---- texts

module _ (names : List (List ℕ)) (p : Partition) (differ : AllPairs (λ (a b : List ℕ). a ≢ b) names) where
  pub plan_reading-BreaksWorkqueueRow : (k : ℕ) (workqueues : List (List ℕ)) (before : List CertLine) (line : CertLine) (behind : List CertLine) (fault : CertError) → k ≤ 4096 → length workqueues < k
      → words_of_lines before ≡ plan_line k ∷ workqueue_lines names workqueues → AreFirstWorkqueues (length names) p.group_of workqueues → BreaksWorkqueueRow names p.group_of workqueues line fault
      → plan_reading names p (before ++ (line ∷ behind)) ≡ Err fault
  plan_reading-BreaksWorkqueueRow k workqueues [] line behind fault few below words first breaks = absurd cc
  plan_reading-BreaksWorkqueueRow k workqueues (opening ∷ lines) line behind fault few below words first breaks =
      let opens : opening.words ≡ plan_line k = cc in
      let others : words_of_lines lines ≡ workqueue_lines names workqueues = cc in
      let rest = lines ++ (line ∷ behind) in
      let count : count_reading (codes "plan") opening ≡ Ok k = (IsReadBy-count (codes "plan")).said opening k opens few in
      let refused : next_workqueues names p.group_of k [] rest ≡ Err fault =
      refused-next_workqueues names p.group_of differ line behind fault workqueues [] lines k (AreGrown-first (length names) p.group_of workqueues first) others below
      (wq_reading-BreaksWorkqueueRow names p.group_of workqueues line differ first fault breaks) in
      plan_reading-turn names p (opening ∷ rest)
      ∙ ap (λ (r : Result ℕ CertError). and_read (behind_plan names p) (and_then (λ n. Ok (n, rest)) r)) count
      ∙ ap (λ (r : Read (List (List ℕ))). and_read (with_chain names p) r) refused

  pub workqueues_reading-BreaksWorkqueueRow : (workqueues : List (List ℕ)) (before : List CertLine) (line : CertLine) (behind : List CertLine) (fault : CertError)
      → words_of_lines before ≡ workqueue_lines names workqueues → begins_with (codes "wq") line.words ≡ true → AreFirstWorkqueues (length names) p.group_of workqueues → BreaksWorkqueueRow names p.group_of workqueues line fault
      → workqueues_reading names p (before ++ (line ∷ behind)) ≡ Err fault
  workqueues_reading-BreaksWorkqueueRow workqueues before line behind fault words is_wq first breaks =
      ap (and_read (assigned p))
      (refused-all_workqueues names p.group_of differ line behind fault workqueues [] before (AreGrown-first (length names) p.group_of workqueues first) words is_wq
      (wq_reading-BreaksWorkqueueRow names p.group_of workqueues line differ first fault breaks))
