-- Plans as they are printed, read back.
use Rattle.std.proofs.Common.{◌≡◌, ℕ, ◌+◌, ◌-◌, ◌≤◌, Bool, true, false, cond, eqb, List, [], ◌∷◌, ◌++◌, length, map, Ok, inr, refl, sym, ap, ap₂, subst, ◌∙◌, arith}
use Rattle.std.specs.Prelude.{codes}
use Rattle.std.specs.List.{All, AllByRecursion, range_with_len}
use Rattle.std.proofs.lemmas.Bool.{eqb-true}
use Rattle.std.proofs.lemmas.List.{length-map}
use Rattle.std.proofs.lemmas.List.FromFn.{length-map-range_with_len}
use Rattle.wq_text.specs.Lines.{lines_of}
use Rattle.wq_text.proofs.LimitLaws.{IsShort}
use Rattle.wq_items.specs.Table.{Table, IsTable, items_at}
use Rattle.wq_groups.specs.Partition.{Partition, IsPartition}
use Rattle.wq_groups.specs.Assignment.{Assignment, IsAssignment, group_lane, item_lanes}
use Rattle.wq_cert.specs.Certificate.{PlanCertificate, OfPlan}
use Rattle.wq_cert.specs.PlanText.{plan_line, wq_line, chain_line, arc_line, plan_lines, plan_text}
use Rattle.wq_cert.specs.Ranges.{IsArcOf}
use Rattle.wq_cert.specs.Spelled.{words_of_text, SpellsPlan, KeepsLimits}
use Rattle.wq_cert.specs.Texts.{max_certificate, answer_of, assignment_of_text}
use Rattle.wq_cert.proofs.ListLemmas.{AllByRecursion-append}
use Rattle.wq_cert.proofs.PrintedArcs.{IsPrintableLine-arcs}
use Rattle.wq_cert.proofs.PrintedLines.{IsPrintableLine, IsShort-printed, words_of_text-printed, KeepsLimits-printed}
use Rattle.wq_cert.proofs.PrintedWorkqueues.{IsPrintableLine-wqs, workqueue_lines-printed, assignment_of-workqueues, AreWorkqueues-printed}
use Rattle.wq_cert.proofs.PrintedWords.{IsPrintable-keyword, IsPrintableLine-count}
use Rattle.wq_cert.proofs.SpelledAnswers.{answer_of-spelled, assignment_of_text-spelled}
use Rattle.wq_cert.proofs.TextLength.{length-plan_text}

-- how many groups a chain is said to have
abbrev pub chain_length : ℕ → List (ℕ × ℕ) → ℕ
chain_length lanes chain = cond (eqb lanes 0) 0 (length chain + 1)

chain_length-most : (lanes n : ℕ) (chain : List (ℕ × ℕ)) → length chain ≤ n → chain_length lanes chain ≤ n + 1
chain_length-most lanes n chain few = chosen (eqb lanes 0)
  where
    chosen : (b : Bool) → cond b 0 (length chain + 1) ≤ n + 1
    chosen true = omega arith
    chosen false = omega arith

-- ---- the lines of a plan text

module _ (t : Table) (table : IsTable t) (lanes : ℕ) (lane : List ℕ) (chain : List (ℕ × ℕ)) (long : length lane ≡ length t.names) (few : lanes ≤ 4096) (short : length chain ≤ 4096) where
  pub IsPrintableLine-plan : All (IsArcOf (length t.names)) chain → AllByRecursion IsPrintableLine (plan_lines t.names lanes lane chain)
  IsPrintableLine-plan arcs = (
    IsPrintableLine-count (codes "plan") lanes (IsPrintable-keyword (codes "plan") refl (omega arith) (omega arith)) (omega arith),
    AllByRecursion-append IsPrintableLine (map (wq_line t.names lane) (range_with_len 0 lanes)) (chain_line lanes chain ∷ map (arc_line t.names) chain)
        (IsPrintableLine-wqs lane t table long 0 lanes (omega arith))
        (IsPrintableLine-count (codes "chain") (chain_length lanes chain) (IsPrintable-keyword (codes "chain") refl (omega arith) (omega arith)) (omega (arith, chain_length-most lanes 4096 chain short)), IsPrintableLine-arcs t table chain arcs),
  )

  pub length-plan_text-most : length (plan_text t.names lanes lane chain) ≤ 8388608
  length-plan_text-most = length-plan_text t.names lane table.named lanes chain few (omega (arith, long, table.few_items)) short

  pub IsShort-plan : All (IsArcOf (length t.names)) chain → All (IsShort 524288) (lines_of (plan_text t.names lanes lane chain))
  IsShort-plan arcs = IsShort-printed (plan_lines t.names lanes lane chain) (IsPrintableLine-plan arcs)

-- ---- what is read in them

module _ (t : Table) (p : Partition) (a : Assignment) (chain : List (ℕ × ℕ)) (table : IsTable t) (is : IsPartition p) (long : length p.group_of ≡ length t.names) (assigned : IsAssignment p.groups a)
    (few : a.lanes ≤ 4096) (arcs : All (IsArcOf (length t.names)) chain) (short : length chain ≤ 4095) (none : a.lanes ≡ 0 → chain ≡ []) where
  abbrev lane : List ℕ
  lane = item_lanes a p.group_of

  length-lane : length lane ≡ length t.names
  length-lane = length-map p.group_of (group_lane a) ∙ long

  arcs-left : chain_length a.lanes chain - 1 ≡ length chain
  arcs-left = chosen (eqb a.lanes 0) refl
    where
      chosen : (b : Bool) → eqb a.lanes 0 ≡ b → cond b 0 (length chain + 1) - 1 ≡ length chain
      chosen true e = omega (arith, ap length (none (eqb-true a.lanes 0 e)))
      chosen false e = omega arith

  abbrev workqueues : List (List ℕ)
  workqueues = map (items_at lane) (range_with_len 0 a.lanes)

  abbrev plan : PlanCertificate
  plan = record { assignment = a; length = chain_length a.lanes chain; arcs = chain }

  -- the lines spell it
  SpellsPlan-printed : SpellsPlan t.names p (plan_lines t.names a.lanes lane chain) plan
  SpellsPlan-printed =
      let arc_lines = map (arc_line t.names) chain in
      let count : a.lanes ≡ length workqueues = sym (length-map-range_with_len (items_at lane) 0 a.lanes) in
      record {
        workqueues = workqueues;
        words =
            ap₂ (λ (n : ℕ) (ls : List (List (List ℕ))). plan_line n ∷ (ls ++ (chain_line a.lanes chain ∷ arc_lines))) count (sym (workqueue_lines-printed lane t.names a.lanes));
        are = AreWorkqueues-printed p a is assigned few (length t.names) long;
        assignment = sym (assignment_of-workqueues p a is assigned);
        few = chain_length-most a.lanes 4095 chain short;
        count = sym arcs-left;
        known = arcs;
      }

  -- ---- the text

  printable : AllByRecursion IsPrintableLine (plan_lines t.names a.lanes lane chain)
  printable = IsPrintableLine-plan t table a.lanes lane chain length-lane few (omega arith) arcs

  most : length (plan_text t.names a.lanes lane chain) ≤ max_certificate
  most = length-plan_text-most t table a.lanes lane chain length-lane few (omega arith)

  abbrev lines : List (List (List ℕ))
  lines = plan_lines t.names a.lanes lane chain

  abbrev text : List ℕ
  text = plan_text t.names a.lanes lane chain

  keeps : KeepsLimits text
  keeps = KeepsLimits-printed lines printable most

  spells : SpellsPlan t.names p (words_of_text text) plan
  spells = subst (λ (ws : List (List (List ℕ))). SpellsPlan t.names p ws plan) (sym (words_of_text-printed lines printable)) SpellsPlan-printed

  pub answer_of-plan : answer_of t.names p (plan_text t.names a.lanes lane chain) ≡ Ok (OfPlan plan)
  answer_of-plan = answer_of-spelled t.names p (sym long) table.distinct text (OfPlan plan) (keeps, spells)

  pub assignment_of_text-plan : assignment_of_text t.names p (plan_text t.names a.lanes lane chain) ≡ Ok a
  assignment_of_text-plan = assignment_of_text-spelled t.names p (sym long) table.distinct text a (keeps, inr (plan, spells, refl))
