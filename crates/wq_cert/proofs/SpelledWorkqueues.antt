-- Workqueues that are read, line by line.
use Rattle.std.proofs.Common.{◌≡◌, ◌≢◌, ℕ, zero, suc, ◌+◌, ◌<◌, Bool, true, false, not, cond, leb, eqb, List, [], ◌∷◌, ◌++◌, length, map, Option, Some, Result, Ok, Err, refl, sym, ap, ap₂, subst, ◌∙◌, arith, append_assoc, append-nil, length-append}
use Rattle.std.specs.Prelude.{AllPairs, codes, ok_or}
use Rattle.std.specs.List.{All, concat, enumerate_from}
use Rattle.std.proofs.lemmas.Bool.{or_parts, or_from, not-false, not_from_true, eqb-true, eq-eqb, leb-false, lt-leb}
use Rattle.std.proofs.lemmas.List.Elements.{All-from_recursion, recursion_from_All}
use Rattle.wq_cert.proofs.WorkqueueTurns.{in_groups, in_once, is_out, in_turn, wq_reading-turn}
use Rattle.wq_cert.specs.declared.fault.CertError.{CertError}
use Rattle.wq_cert.specs.declared.fault.CertError.TheVariants.{BadCertLine, NumberOutOfRange, NotAllItems, GroupSplit}
use Rattle.wq_groups.specs.Partition.{Partition}
use Rattle.wq_groups.specs.Assignment.{Assignment}
use Rattle.wq_cert.specs.Lines.{CertLine}
use Rattle.wq_cert.specs.Forms.{wq_form, begins_with}
use Rattle.wq_items.specs.Building.{and_then}
use Rattle.wq_cert.specs.Reading.{Read, and_read, next_line, has_stood, splits_group, wq_reading, next_workqueues, all_workqueues, hold_all, assignment_of, whole_assignment}
use Rattle.wq_cert.specs.PlanText.{workqueue_line}
use Rattle.wq_cert.specs.Spelled.{words_of_lines, AreWorkqueues}
use Rattle.wq_cert.proofs.SpelledForms.{IsWorkqueueLine-wq_form, wq_form-IsWorkqueueLine}
use Rattle.wq_cert.proofs.SpelledLines.{Follows-and_then, FollowsRead-and_read, same_ok, Some-ok_or, past}
use Rattle.wq_cert.proofs.WorkqueueLists.{AreGrown, IsNextWorkqueue, AreGrown-push, AreGrown-front, IsNextWorkqueue-grown, AreWorkqueues-grown, hold_all-Contains}

module _ (names : List (List ℕ)) (group_of : List ℕ) where
  abbrev items : ℕ
  items = length names

  -- ---- one workqueue

  -- the line says the next workqueue
  pub record SaysWorkqueue (workqueues : List (List ℕ)) (words : List (List ℕ)) (workqueue : List ℕ) : Type 0 where
    pub words_are : words ≡ workqueue_line names (length workqueues, workqueue)
    pub next : IsNextWorkqueue items group_of workqueues workqueue

  module _ (workqueues : List (List ℕ)) where
    pub SaysWorkqueue-wq_reading : (line : CertLine) (workqueue : List ℕ) → wq_reading names group_of workqueues line ≡ Ok workqueue → SaysWorkqueue workqueues line.words workqueue
    SaysWorkqueue-wq_reading line workqueue e =
        let found = Follows-and_then (in_turn names group_of workqueues line.no) (ok_or (wq_form names line.words) (BadCertLine line.no)) workqueue (sym (wq_reading-turn names group_of workqueues line) ∙ e) in
        let placed = past (is_out names group_of workqueues found.value.0) (NumberOutOfRange line.no) (in_once group_of workqueues line.no found.value.1) workqueue found.then in
        let fresh = past (has_stood (concat workqueues) found.value.1) (NotAllItems line.no) (in_groups group_of workqueues line.no found.value.1) workqueue placed.1 in
        let apart = past (splits_group group_of (concat workqueues) found.value.1) (GroupSplit line.no) (Ok found.value.1) workqueue fresh.1 in
        let same : found.value.1 ≡ workqueue = same_ok found.value.1 workqueue apart.1 in
        let parts = or_parts (not (eqb found.value.0 (length workqueues))) (leb 4096 (length workqueues)) placed.0 in
        let place : found.value.0 ≡ length workqueues = eqb-true found.value.0 (length workqueues) (not-false (eqb found.value.0 (length workqueues)) parts.0) in
        let said = IsWorkqueueLine-wq_form names line.words found.value (Some-ok_or (wq_form names line.words) (BadCertLine line.no) found.value found.first) in
        record {
          words_are = said.words_are ∙ ap₂ (λ (n : ℕ) (q : List ℕ). workqueue_line names (n, q)) place same;
          next = record {
            room = leb-false 4096 (length workqueues) parts.1;
            known = subst (All (λ i. i < items)) same (All-from_recursion (λ i. i < items) found.value.1 said.known);
            fresh = ap (has_stood (concat workqueues)) (sym same) ∙ fresh.0;
            apart = ap (splits_group group_of (concat workqueues)) (sym same) ∙ apart.0;
          };
        }

    pub wq_reading-SaysWorkqueue : AllPairs (λ (a b : List ℕ). a ≢ b) names → (line : CertLine) (workqueue : List ℕ) → SaysWorkqueue workqueues line.words workqueue → wq_reading names group_of workqueues line ≡ Ok workqueue
    wq_reading-SaysWorkqueue differ line workqueue said =
        let place = length workqueues in
        let room = said.next.room in
        let form : wq_form names line.words ≡ Some (place, workqueue) = wq_form-IsWorkqueueLine names line.words differ (place, workqueue) (record {
          words_are = said.words_are;
          fits = omega arith;
          known = recursion_from_All (λ i. i < items) workqueue said.next.known;
        }) in
        let placed : is_out names group_of workqueues place ≡ false = or_from (not (eqb place place)) (leb 4096 place) (not_from_true (eqb place place) (eq-eqb place place refl)) (lt-leb 4096 place room) in
        wq_reading-turn names group_of workqueues line
        ∙ ap (λ (o : Option (ℕ × List ℕ)). and_then (in_turn names group_of workqueues line.no) (ok_or o (BadCertLine line.no))) form
        ∙ ap (λ (b : Bool). cond b (Err (NumberOutOfRange line.no)) (in_once group_of workqueues line.no workqueue)) placed
        ∙ ap (λ (b : Bool). cond b (Err (NotAllItems line.no)) (in_groups group_of workqueues line.no workqueue)) said.next.fresh
        ∙ ap (λ (b : Bool). cond b (Err (GroupSplit line.no)) (Ok workqueue)) said.next.apart

  -- ---- this many workqueues

  -- the lines of these workqueues, numbered from here
  abbrev pub lines_from : ℕ → List (List ℕ) → List (List (List ℕ))
  lines_from n more = map (workqueue_line names) (enumerate_from n more)

  -- these workqueues follow, this many or as many as there are
  pub record Grows (workqueues all : List (List ℕ)) (lines rest : List CertLine) : Type 0 where
    pub more : List (List ℕ)
    pub whole : all ≡ workqueues ++ more
    pub words_are : words_of_lines lines ≡ lines_from (length workqueues) more ++ words_of_lines rest
    pub grown : AreGrown items group_of all

  Grows-none : (workqueues all : List (List ℕ)) (lines rest : List CertLine) → AreGrown items group_of workqueues → workqueues ≡ all → lines ≡ rest → Grows workqueues all lines rest
  Grows-none workqueues all lines rest grown same behind = record {
    more = [];
    whole = sym same ∙ sym (append-nil workqueues);
    words_are = ap words_of_lines behind;
    grown = subst (AreGrown items group_of) same grown;
  }

  Grows-more : (workqueues all : List (List ℕ)) (workqueue : List ℕ) (lines between rest : List CertLine) → words_of_lines lines ≡ workqueue_line names (length workqueues, workqueue) ∷ words_of_lines between
      → Grows (workqueues ++ (workqueue ∷ [])) all between rest → Grows workqueues all lines rest
  Grows-more workqueues all workqueue lines between rest first g =
      let next : length (workqueues ++ (workqueue ∷ [])) ≡ length workqueues + 1 = length-append workqueues (workqueue ∷ []) in
      record {
        more = workqueue ∷ g.more;
        whole = g.whole ∙ append_assoc workqueues (workqueue ∷ []) g.more;
        words_are =
            first ∙ ap (λ (ws : List (List (List ℕ))). workqueue_line names (length workqueues, workqueue) ∷ ws)
            (g.words_are ∙ ap (λ (n : ℕ). lines_from n g.more ++ words_of_lines rest) next);
        grown = g.grown;
      }

  -- the first line says the next workqueue
  said_first : (workqueues : List (List ℕ)) (lines rest : List CertLine) (workqueue : List ℕ) → next_line (wq_reading names group_of workqueues) lines ≡ Ok (workqueue, rest)
      → (words_of_lines lines ≡ workqueue_line names (length workqueues, workqueue) ∷ words_of_lines rest) × IsNextWorkqueue items group_of workqueues workqueue
  said_first workqueues [] rest workqueue e = absurd cc
  said_first workqueues (line ∷ lines) rest workqueue e =
      let next : List ℕ → Read (List ℕ) = λ u. Ok (u, lines) in
      let found = Follows-and_then next (wq_reading names group_of workqueues line) (workqueue, rest) e in
      let same : (found.value, lines) ≡ (workqueue, rest) = same_ok (found.value, lines) (workqueue, rest) found.then in
      let value : found.value ≡ workqueue = ap (λ (p : List ℕ × List CertLine). p.0) same in
      let behind : lines ≡ rest = ap (λ (p : List ℕ × List CertLine). p.1) same in
      let said = SaysWorkqueue-wq_reading workqueues line workqueue (found.first ∙ ap (λ (u : List ℕ). Ok u) value) in
      (ap₂ (λ (ws : List (List ℕ)) (ls : List CertLine). ws ∷ words_of_lines ls) said.words_are behind, said.next)

  same_length : (workqueues all : List (List ℕ)) → workqueues ≡ all → length all ≡ length workqueues + 0
  same_length workqueues all same = omega (arith, ap length same)

  pub Grows-next_workqueues : (n : ℕ) (workqueues all : List (List ℕ)) (lines rest : List CertLine) → AreGrown items group_of workqueues → next_workqueues names group_of n workqueues lines ≡ Ok (all, rest)
      → Grows workqueues all lines rest × (length all ≡ length workqueues + n)
  Grows-next_workqueues zero workqueues all lines rest grown e =
      let same : (workqueues, lines) ≡ (all, rest) = same_ok (workqueues, lines) (all, rest) e in
      let whole : workqueues ≡ all = ap (λ (p : List (List ℕ) × List CertLine). p.0) same in
      (Grows-none workqueues all lines rest grown whole (ap (λ (p : List (List ℕ) × List CertLine). p.1) same), same_length workqueues all whole)
  Grows-next_workqueues (suc n) workqueues all lines rest grown e =
      let next : List ℕ → List CertLine → Read (List (List ℕ)) = λ workqueue behind. next_workqueues names group_of n (workqueues ++ (workqueue ∷ [])) behind in
      let found = FollowsRead-and_read next (next_line (wq_reading names group_of workqueues) lines) (all, rest) e in
      let first = said_first workqueues lines found.rest found.value found.first in
      let others = Grows-next_workqueues n (workqueues ++ (found.value ∷ [])) all found.rest rest (AreGrown-push items group_of workqueues found.value grown first.1) found.then in
      (Grows-more workqueues all found.value lines found.rest rest first.0 others.0, omega (arith, others.1, length-append workqueues (found.value ∷ [])))

  -- what comes after one more workqueue
  abbrev after : List (List ℕ) → List CertLine → List ℕ → Read (List (List ℕ))
  after workqueues lines workqueue = all_workqueues names group_of (workqueues ++ (workqueue ∷ [])) lines

  pub Grows-all_workqueues : (lines : List CertLine) (workqueues all : List (List ℕ)) (rest : List CertLine) → AreGrown items group_of workqueues → all_workqueues names group_of workqueues lines ≡ Ok (all, rest) → Grows workqueues all lines rest
  Grows-all_workqueues [] workqueues all rest grown e =
      let none : List CertLine = [] in
      let same : (workqueues, none) ≡ (all, rest) = same_ok (workqueues, none) (all, rest) e in
      Grows-none workqueues all [] rest grown (ap (λ (p : List (List ℕ) × List CertLine). p.0) same) (ap (λ (p : List (List ℕ) × List CertLine). p.1) same)
  Grows-all_workqueues (line ∷ lines) workqueues all rest grown e =
      chosen (λ workqueue more is. Grows-all_workqueues lines (workqueues ++ (workqueue ∷ [])) all rest more is) (begins_with (codes "wq") line.words) e
    where
      chosen : ((workqueue : List ℕ) → AreGrown items group_of (workqueues ++ (workqueue ∷ [])) → after workqueues lines workqueue ≡ Ok (all, rest) → Grows (workqueues ++ (workqueue ∷ [])) all lines rest)
          → (b : Bool) → cond b (and_then (after workqueues lines) (wq_reading names group_of workqueues line)) (Ok (workqueues, line ∷ lines)) ≡ Ok (all, rest) → Grows workqueues all (line ∷ lines) rest
      chosen others_of true e =
          let found = Follows-and_then (after workqueues lines) (wq_reading names group_of workqueues line) (all, rest) e in
          let said = SaysWorkqueue-wq_reading workqueues line found.value found.first in
          let others = others_of found.value (AreGrown-push items group_of workqueues found.value grown said.next) found.then in
          Grows-more workqueues all found.value (line ∷ lines) lines rest (ap (λ (ws : List (List ℕ)). ws ∷ words_of_lines lines) said.words_are) others
      chosen others_of false e =
          let same : (workqueues, line ∷ lines) ≡ (all, rest) = same_ok (workqueues, line ∷ lines) (all, rest) e in
          Grows-none workqueues all (line ∷ lines) rest grown (ap (λ (p : List (List ℕ) × List CertLine). p.0) same) (ap (λ (p : List (List ℕ) × List CertLine). p.1) same)

  -- ---- the other way

  module _ (differ : AllPairs (λ (a b : List ℕ). a ≢ b) names) where
    pub first_grown : (workqueues more : List (List ℕ)) (workqueue : List ℕ) → AreGrown items group_of (workqueues ++ (workqueue ∷ more)) → AreGrown items group_of ((workqueues ++ (workqueue ∷ [])) ++ more)
    first_grown workqueues more workqueue grown = subst (AreGrown items group_of) (sym (append_assoc workqueues (workqueue ∷ []) more)) grown

    pub said_next : (workqueues more : List (List ℕ)) (workqueue : List ℕ) (line : CertLine) → AreGrown items group_of (workqueues ++ (workqueue ∷ more)) → line.words ≡ workqueue_line names (length workqueues, workqueue)
        → wq_reading names group_of workqueues line ≡ Ok workqueue
    said_next workqueues more workqueue line grown words =
        wq_reading-SaysWorkqueue workqueues differ line workqueue (record {
          words_are = words;
          next = IsNextWorkqueue-grown items group_of workqueues workqueue (AreGrown-front items group_of (workqueues ++ (workqueue ∷ [])) more (first_grown workqueues more workqueue grown));
        })

    -- the lines after these workqueues
    pub record GrowsTo (n : ℕ) (workqueues all : List (List ℕ)) (lines : List CertLine) (others : List (List (List ℕ))) : Type 0 where
      pub rest : List CertLine
      pub is_read : next_workqueues names group_of n workqueues lines ≡ Ok (all, rest)
      pub behind : words_of_lines rest ≡ others

    pub GrowsTo-lines : (more workqueues : List (List ℕ)) (lines : List CertLine) (others : List (List (List ℕ))) → AreGrown items group_of (workqueues ++ more)
        → words_of_lines lines ≡ lines_from (length workqueues) more ++ others → GrowsTo (length more) workqueues (workqueues ++ more) lines others
    GrowsTo-lines [] workqueues lines others grown words = record { rest = lines; is_read = ap (λ (qs : List (List ℕ)). Ok (qs, lines)) (sym (append-nil workqueues)); behind = words }
    GrowsTo-lines (workqueue ∷ more) workqueues [] others grown words = absurd cc
    GrowsTo-lines (workqueue ∷ more) workqueues (line ∷ lines) others grown words =
        let first : line.words ≡ workqueue_line names (length workqueues, workqueue) = cc in
        let behind : words_of_lines lines ≡ lines_from (length workqueues + 1) more ++ others = cc in
        let count : length workqueues + 1 ≡ length (workqueues ++ (workqueue ∷ [])) = sym (length-append workqueues (workqueue ∷ [])) in
        let others_are = GrowsTo-lines more (workqueues ++ (workqueue ∷ [])) lines others (first_grown workqueues more workqueue grown) (behind ∙ ap (λ (n : ℕ). lines_from n more ++ others) count) in
        let next : List ℕ → List CertLine → Read (List (List ℕ)) = λ q rest. next_workqueues names group_of (length more) (workqueues ++ (q ∷ [])) rest in
        let tail : Result (List ℕ) CertError → Read (List ℕ) = λ r. and_then (λ q. Ok (q, lines)) r in
        record {
          rest = others_are.rest;
          is_read =
              ap (λ (r : Result (List ℕ) CertError). and_read next (tail r)) (said_next workqueues more workqueue line grown first) ∙ others_are.is_read
              ∙ ap (λ (qs : List (List ℕ)). Ok (qs, others_are.rest)) (append_assoc workqueues (workqueue ∷ []) more);
          behind = others_are.behind;
        }

    pub all_workqueues-lines : (more workqueues : List (List ℕ)) (lines : List CertLine) → AreGrown items group_of (workqueues ++ more) → words_of_lines lines ≡ lines_from (length workqueues) more
        → all_workqueues names group_of workqueues lines ≡ Ok (workqueues ++ more, [])
    all_workqueues-lines [] workqueues [] grown words = ap (λ (qs : List (List ℕ)). Ok (qs, [])) (sym (append-nil workqueues))
    all_workqueues-lines [] workqueues (line ∷ lines) grown words = absurd cc
    all_workqueues-lines (workqueue ∷ more) workqueues [] grown words = absurd cc
    all_workqueues-lines (workqueue ∷ more) workqueues (line ∷ lines) grown words =
        let first : line.words ≡ workqueue_line names (length workqueues, workqueue) = cc in
        let behind : words_of_lines lines ≡ lines_from (length workqueues + 1) more = cc in
        let count : length workqueues + 1 ≡ length (workqueues ++ (workqueue ∷ [])) = sym (length-append workqueues (workqueue ∷ [])) in
        let next : List ℕ → Read (List (List ℕ)) = λ q. all_workqueues names group_of (workqueues ++ (q ∷ [])) lines in
        let stop : Read (List (List ℕ)) = Ok (workqueues, line ∷ lines) in
        ap (λ (ws : List (List ℕ)). cond (begins_with (codes "wq") ws) (and_then next (wq_reading names group_of workqueues line)) stop) first
        ∙ ap (and_then next) (said_next workqueues more workqueue line grown first)
        ∙ all_workqueues-lines more (workqueues ++ (workqueue ∷ [])) lines (first_grown workqueues more workqueue grown) (behind ∙ ap (λ (n : ℕ). lines_from n more) count)
        ∙ ap (λ (qs : List (List ℕ)). Ok (qs, [])) (append_assoc workqueues (workqueue ∷ []) more)

-- ---- the assignment

module _ (names : List (List ℕ)) (p : Partition) (one_group_each : length names ≡ length p.group_of) where
  -- the workqueues hold all items, and are this assignment
  pub record AreWhole (workqueues : List (List ℕ)) (a : Assignment) : Type 0 where
    pub are : AreWorkqueues (length names) p.group_of workqueues
    pub assignment : a ≡ assignment_of p workqueues

  held : (workqueues : List (List ℕ)) (a : Assignment) (b : Bool) → cond b (Ok (assignment_of p workqueues)) (Err (NotAllItems 0)) ≡ Ok a → (b ≡ true) × (a ≡ assignment_of p workqueues)
  held workqueues a true e = (refl, sym (same_ok (assignment_of p workqueues) a e))
  held workqueues a false e = absurd cc

  pub AreWhole-grown : (workqueues : List (List ℕ)) (a : Assignment) → AreGrown (length names) p.group_of workqueues → whole_assignment p workqueues ≡ Ok a → AreWhole workqueues a
  AreWhole-grown workqueues a grown e =
      let h = held workqueues a (hold_all (length p.group_of) workqueues) e in
      record {
        are = AreWorkqueues-grown (length names) p.group_of workqueues grown (ap (λ (n : ℕ). hold_all n workqueues) one_group_each ∙ h.0);
        assignment = h.1;
      }

  pub whole_assignment-workqueues : (workqueues : List (List ℕ)) → AreWorkqueues (length names) p.group_of workqueues → whole_assignment p workqueues ≡ Ok (assignment_of p workqueues)
  whole_assignment-workqueues workqueues are =
      let all : hold_all (length p.group_of) workqueues ≡ true = ap (λ (n : ℕ). hold_all n workqueues) (sym one_group_each) ∙ hold_all-Contains (length names) workqueues are.all in
      ap (λ (b : Bool). cond b (Ok (assignment_of p workqueues)) (Err (NotAllItems 0))) all
