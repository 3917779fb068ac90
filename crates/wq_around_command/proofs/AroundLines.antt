-- Lines of answers around fixed workqueues, which are read as what they say.
use Rattle.std.proofs.Common.{◌≡◌, ◌≢◌, ℕ, ◌+◌, ◌-◌, ◌<◌, ◌≤◌, ◌^◌, Bool, false, cond, eqb, leb, ltb, List, [], ◌∷◌}
use Rattle.std.proofs.Common.{◌++◌, length, map, Option, Some, Result, Ok, Err, refl, sym, ap, ap₂, ◌∙◌, arith}
use Rattle.std.proofs.Common.{append-nil, length-append}
use Rattle.std.specs.Prelude.{AllPairs, codes, decimal, ok_or, option_map}
use Rattle.std.specs.List.{All, AllByRecursion, list_any}
use Rattle.std.specs.Option.{option_zip}
use Rattle.std.proofs.lemmas.Bool.{eq-eqb, le-ltb, lt-leb}
use Rattle.std.proofs.lemmas.List.Elements.{recursion_from_All}
use Rattle.std.proofs.lemmas.List.FromFn.{length-map-range_with_len}
use Rattle.wq_items.specs.Building.{and_then}
use Rattle.wq_groups.specs.Assignment.{Assignment}
use Rattle.wq_groups.specs.Partition.{Partition}
use Rattle.wq_core.specs.declared.step.Step.{Step}
use Rattle.wq_fixed.specs.Fixed.{Fixed, fixed_lanes}
use Rattle.wq_cert.specs.declared.fault.CertError.{CertError}
use Rattle.wq_cert.specs.declared.fault.CertError.TheVariants.{BadCertLine, NumberOutOfRange}
use Rattle.wq_cert.specs.AroundReading.{AroundCertificate, AroundPlan, NoRescuerCertificate, OfCircleAround}
use Rattle.wq_cert.specs.AroundReading.{OfNoRescuer, OfPlanAround, around_plan_reading, around_reading, fixed_items}
use Rattle.wq_cert.specs.AroundReading.{fixed_workqueues, new_assignment, new_count_reading, norescuer_count_reading}
use Rattle.wq_cert.specs.AroundReading.{norescuer_reading, numbers_of, order_form, order_reading}
use Rattle.wq_cert.specs.AroundText.{norescuer_line, order_line}
use Rattle.wq_cert.specs.Certificate.{CircleCertificate}
use Rattle.wq_cert.specs.CircleText.{circle_line}
use Rattle.wq_cert.specs.Forms.{begins_with}
use Rattle.wq_cert.specs.LineRows.{count_words}
use Rattle.wq_cert.specs.Lines.{CertLine}
use Rattle.wq_cert.specs.PlanText.{arc_line, plan_line}
use Rattle.wq_cert.specs.Ranges.{IsArcOf, IsStepOf}
use Rattle.wq_cert.specs.Reading.{Read, and_read, next_line, next_lines, at_end, arc_reading, assignment_of}
use Rattle.wq_cert.specs.Reading.{chain_reading, circle_reading, count_reading, max_count, next_workqueues, run_after}
use Rattle.wq_cert.specs.Reading.{whole_assignment}
use Rattle.wq_cert.specs.RunText.{run_lines}
use Rattle.wq_cert.specs.Spelled.{AreWorkqueues, count_line, words_of_lines}
use Rattle.wq_cert.proofs.ListLemmas.{AllByRecursion-weaker, list_any-none}
use Rattle.wq_cert.proofs.SpelledForms.{count_form-SpellsCount}
use Rattle.wq_cert.proofs.SpelledLines.{IsReadBy, IsCount, IsReadBy-count, IsReadBy-arc, and_read-Ok, begun_line}
use Rattle.wq_cert.proofs.SpelledLines.{begun_lines, no_words}
use Rattle.wq_cert.proofs.SpelledNumbers.{number_of-Spells}
use Rattle.wq_cert.proofs.SpelledTexts.{SpellsCircle-circle_reading, run_reading-SpellsRun}
use Rattle.wq_cert.proofs.SpelledWorkqueues.{GrowsTo-lines, lines_from, whole_assignment-workqueues}
use Rattle.wq_cert.proofs.WorkqueueLists.{AreGrown-workqueues}

-- ---- `plan K`

-- this many new workqueues have room beside the fixed ones
abbrev pub IsNewCount : Fixed → ℕ → Type 0
IsNewCount f n = n ≤ 4096 - fixed_lanes f

abbrev with_room : Fixed → ℕ → ℕ → Result ℕ CertError
with_room f line n = cond (ltb (4096 - fixed_lanes f) n) (Err (NumberOutOfRange line)) (Ok n)

IsReadBy-new : (f : Fixed) → IsReadBy (new_count_reading f) (count_words (codes "plan")) (IsNewCount f)
IsReadBy-new f = record {
  said = λ line n words few.
      ap (λ (o : Option ℕ). and_then (with_room f line.no) (ok_or o (BadCertLine line.no)))
      (count_form-SpellsCount (codes "plan") line.words n (record { words_are = words; fits = omega (arith, few) }))
      ∙ ap (λ (b : Bool). cond b (Err (NumberOutOfRange line.no)) (Ok n)) (le-ltb (4096 - fixed_lanes f) n few);
}

-- ---- `order Q..`

-- the workqueues of the order are below this number
abbrev pub IsOrderBelow : ℕ → List ℕ → Type 0
IsOrderBelow lanes order = AllByRecursion (λ q. q < lanes) order

numbers_of-decimal : (order : List ℕ) → AllByRecursion (λ q. q < 2 ^ 32) order
    → numbers_of (map decimal order) ≡ Some order
numbers_of-decimal [] small = refl
numbers_of-decimal (q ∷ order) small =
    ap₂ (λ (o : Option ℕ) (r : Option (List ℕ)). option_map (λ (p : ℕ × List ℕ). p.0 ∷ p.1) (option_zip o r))
    (number_of-Spells (decimal q) q (record { fits = small.0; digits = refl })) (numbers_of-decimal order small.1)

abbrev in_range : ℕ → ℕ → List ℕ → Result (List ℕ) CertError
in_range lanes line order = cond (list_any (leb lanes) order) (Err (NumberOutOfRange line)) (Ok order)

IsReadBy-order : (lanes : ℕ) → lanes ≤ 4096 → IsReadBy (order_reading lanes) order_line (IsOrderBelow lanes)
IsReadBy-order lanes few = record {
  said = λ line order words below.
      let form : order_form line.words ≡ Some order =
      ap order_form words
      ∙ numbers_of-decimal order
      (AllByRecursion-weaker (λ q. q < lanes) (λ q. q < 2 ^ 32) (λ q less. omega (arith, less, few)) order below) in
      ap (λ (o : Option (List ℕ)). and_then (in_range lanes line.no) (ok_or o (BadCertLine line.no))) form
      ∙ ap (λ (b : Bool). cond b (Err (NumberOutOfRange line.no)) (Ok order))
      (list_any-none (leb lanes) order
      (AllByRecursion-weaker (λ q. q < lanes) (λ q. leb lanes q ≡ false) (λ q less. lt-leb lanes q less) order below));
}

-- ---- `norescuer 1`

abbrev IsOne : ℕ → Type 0
IsOne n = n ≡ 1

abbrev only_one : ℕ → ℕ → Result ℕ CertError
only_one line n = cond (eqb n 1) (Ok n) (Err (NumberOutOfRange line))

IsReadBy-norescuer : IsReadBy norescuer_count_reading (count_words (codes "norescuer")) IsOne
IsReadBy-norescuer = record {
  said = λ line n words one.
      ap (λ (o : Option ℕ). and_then (only_one line.no) (ok_or o (BadCertLine line.no)))
      (count_form-SpellsCount (codes "norescuer") line.words n
      (record { words_are = words; fits = omega (arith, one) }))
      ∙ ap (λ (b : Bool). cond b (Ok n) (Err (NumberOutOfRange line.no))) (eq-eqb n 1 one);
}

module _ (names : List (List ℕ)) where
  -- ---- what follows what

  abbrev last_arc : ℕ → List (ℕ × ℕ) → List CertLine → Result (ℕ × List (ℕ × ℕ)) CertError
  last_arc n arcs rest = at_end (n, arcs) rest

  abbrev behind_chain : ℕ → List CertLine → Result (ℕ × List (ℕ × ℕ)) CertError
  behind_chain n lines = and_read (last_arc n) (next_lines (arc_reading names) (n - 1) lines)

  abbrev some_run : List Step → Result (Option (List Step)) CertError
  some_run steps = Ok (Some steps)

  abbrev with_run : ℕ × ℕ → Option (List Step) → Result NoRescuerCertificate CertError
  with_run arc steps = Ok (record { arc = arc; steps = steps })

  abbrev behind_flush : ℕ × ℕ → List CertLine → Result NoRescuerCertificate CertError
  behind_flush arc rest = and_then (with_run arc) (run_after names rest)

  abbrev behind_norescuer : ℕ → List CertLine → Result NoRescuerCertificate CertError
  behind_norescuer n lines = and_read behind_flush (next_line (arc_reading names) lines)

  module _ (differ : AllPairs (λ (a b : List ℕ). a ≢ b) names) where
    -- ---- a chain, and a run

    chain_reading-lines : (n : ℕ) (arcs : List (ℕ × ℕ)) (lines : List CertLine)
        → words_of_lines lines ≡ count_line n ∷ map (arc_line names) arcs → n ≤ 4096 → length arcs ≡ n - 1
        → All (IsArcOf (length names)) arcs → chain_reading names lines ≡ Ok (n, arcs)
    chain_reading-lines n arcs lines words few left known =
        let count = begun_line (count_reading (codes "chain")) (count_words (codes "chain")) IsCount
        (IsReadBy-count (codes "chain")) lines n (map (arc_line names) arcs) words few in
        let said = begun_lines (arc_reading names) (arc_line names) (IsArcOf (length names)) (IsReadBy-arc names differ)
        arcs count.rest [] (count.behind ∙ sym (append-nil (map (arc_line names) arcs)))
        (recursion_from_All (IsArcOf (length names)) arcs known) in
        let all : next_lines (arc_reading names) (n - 1) count.rest ≡ Ok (arcs, said.rest) =
        ap (λ (m : ℕ). next_lines (arc_reading names) m count.rest) (sym left) ∙ said.is_read in
        and_read-Ok behind_chain (next_line (count_reading (codes "chain")) lines) n count.rest count.is_read
        ∙ and_read-Ok (last_arc n) (next_lines (arc_reading names) (n - 1) count.rest) arcs said.rest all
        ∙ ap (at_end (n, arcs)) (no_words said.rest said.behind)

    run_after-lines : (steps : List Step) (lines : List CertLine) → words_of_lines lines ≡ run_lines names steps
        → length steps < 2 ^ 32 → All (IsStepOf (length names)) steps → run_after names lines ≡ Ok (Some steps)
    run_after-lines steps [] words few known = absurd cc
    run_after-lines steps (line ∷ lines) words few known =
        ap (and_then some_run)
        (run_reading-SpellsRun names differ (line ∷ lines) steps (record { words = words; few = few; known = known }))

    -- ---- a flush to no rescuer

    pub norescuer_reading-lines : (arc : ℕ × ℕ) (steps : List Step) (lines : List CertLine)
        → words_of_lines lines ≡ norescuer_line ∷ arc_line names arc ∷ run_lines names steps
        → IsArcOf (length names) arc → length steps < 2 ^ 32 → All (IsStepOf (length names)) steps
        → norescuer_reading names lines ≡ Ok (record { arc = arc; steps = Some steps })
    norescuer_reading-lines arc steps lines words known few each =
        let count = begun_line norescuer_count_reading (count_words (codes "norescuer")) IsOne IsReadBy-norescuer lines
        1 (arc_line names arc ∷ run_lines names steps) words refl in
        let flush = begun_line (arc_reading names) (arc_line names) (IsArcOf (length names)) (IsReadBy-arc names differ)
        count.rest arc (run_lines names steps) count.behind known in
        and_read-Ok behind_norescuer (next_line norescuer_count_reading lines) 1 count.rest count.is_read
        ∙ and_read-Ok behind_flush (next_line (arc_reading names) count.rest) arc flush.rest flush.is_read
        ∙ ap (and_then (with_run arc)) (run_after-lines steps flush.rest flush.behind few each)

-- ---- a plan

-- these are the lines of a plan around the fixed workqueues: `plan K`, the new workqueues, their order, and a chain
pub record SpellsAround (names : List (List ℕ)) (p : Partition) (f : Fixed) (lines : List (List (List ℕ)))
    (c : AroundPlan) : Type 0 where
  pub new : List (List ℕ)
  pub words : lines
      ≡ plan_line (length new)
      ∷ (lines_from names p.group_of (length (fixed_workqueues p f)) new
      ++ (order_line c.order ∷ count_line c.length ∷ map (arc_line names) c.arcs))
  pub are : AreWorkqueues (length names) p.group_of (fixed_workqueues p f ++ new)
  pub assignment : c.assignment ≡ assignment_of p (fixed_workqueues p f ++ new)
  pub below : IsOrderBelow (length (fixed_workqueues p f ++ new)) c.order
  pub few : c.length ≤ max_count
  pub count : length c.arcs ≡ c.length - 1
  pub known : All (IsArcOf (length names)) c.arcs

module _ (names : List (List ℕ)) (p : Partition) (f : Fixed) where
  abbrev made : Assignment → List ℕ → ℕ × List (ℕ × ℕ) → Result AroundPlan CertError
  made a order chain = Ok (record { assignment = a; order = order; length = chain.0; arcs = chain.1 })

  abbrev behind_order : Assignment → List ℕ → List CertLine → Result AroundPlan CertError
  behind_order a order rest = and_then (made a order) (chain_reading names rest)

  abbrev behind_workqueues : Assignment → List CertLine → Result AroundPlan CertError
  behind_workqueues a rest = and_read (behind_order a) (next_line (order_reading a.lanes) rest)

  abbrev behind_plan : ℕ → List CertLine → Result AroundPlan CertError
  behind_plan n rest = and_read behind_workqueues (new_assignment names p f n rest)

  abbrev with_rest : List CertLine → Assignment → Read Assignment
  with_rest rest a = Ok (a, rest)

  abbrev assigned : List (List ℕ) → List CertLine → Read Assignment
  assigned workqueues rest = and_then (with_rest rest) (whole_assignment p workqueues)

  -- the new workqueues are read behind the fixed ones, and these lines are left
  record AreRead (new : List (List ℕ)) (lines : List CertLine) (others : List (List (List ℕ))) : Type 0 where
    rest : List CertLine
    is_read : new_assignment names p f (length new) lines ≡ Ok (assignment_of p (fixed_workqueues p f ++ new), rest)
    behind : words_of_lines rest ≡ others

  module _ (differ : AllPairs (λ (a b : List ℕ). a ≢ b) names) where
    behind_workqueues-lines : (a : Assignment) (order : List ℕ) (n : ℕ) (arcs : List (ℕ × ℕ)) (lines : List CertLine)
        → words_of_lines lines ≡ order_line order ∷ count_line n ∷ map (arc_line names) arcs → a.lanes ≤ 4096
        → IsOrderBelow a.lanes order → n ≤ 4096 → length arcs ≡ n - 1 → All (IsArcOf (length names)) arcs
        → behind_workqueues a lines ≡ made a order (n, arcs)
    behind_workqueues-lines a order n arcs lines words room below few left known =
        let said = begun_line (order_reading a.lanes) order_line (IsOrderBelow a.lanes) (IsReadBy-order a.lanes room)
        lines order (count_line n ∷ map (arc_line names) arcs) words below in
        and_read-Ok (behind_order a) (next_line (order_reading a.lanes) lines) order said.rest said.is_read
        ∙ ap (and_then (made a order)) (chain_reading-lines names differ n arcs said.rest said.behind few left known)

    module _ (one_group_each : length names ≡ length p.group_of) where
      AreRead-lines : (new : List (List ℕ)) (lines : List CertLine) (others : List (List (List ℕ)))
          → words_of_lines lines ≡ lines_from names p.group_of (length (fixed_workqueues p f)) new ++ others
          → AreWorkqueues (length names) p.group_of (fixed_workqueues p f ++ new) → AreRead new lines others
      AreRead-lines new lines others words are =
          let workqueues = GrowsTo-lines names p.group_of differ new (fixed_workqueues p f) lines others
          (AreGrown-workqueues (length names) p.group_of (fixed_workqueues p f ++ new) are) words in
          record {
            rest = workqueues.rest;
            is_read = and_read-Ok assigned (next_workqueues names p.group_of (length new) (fixed_workqueues p f) lines)
                (fixed_workqueues p f ++ new) workqueues.rest workqueues.is_read
                ∙ ap (and_then (with_rest workqueues.rest))
                (whole_assignment-workqueues names p one_group_each (fixed_workqueues p f ++ new) are);
            behind = workqueues.behind;
          }

      -- there is room for them
      room_behind : (new : List (List ℕ)) → length (fixed_workqueues p f ++ new) ≤ 4096
          → length new ≤ 4096 - fixed_lanes f
      room_behind new few =
          omega (
            arith,
            few,
            length-append (fixed_workqueues p f) new,
            length-map-range_with_len (fixed_items p f) 0 (fixed_lanes f),
          )

      around_plan_reading-new : (new : List (List ℕ)) (order : List ℕ) (n : ℕ) (arcs : List (ℕ × ℕ))
          (lines : List CertLine)
          → words_of_lines lines
          ≡ plan_line (length new)
          ∷ (lines_from names p.group_of (length (fixed_workqueues p f)) new
          ++ (order_line order ∷ count_line n ∷ map (arc_line names) arcs))
          → AreWorkqueues (length names) p.group_of (fixed_workqueues p f ++ new)
          → IsOrderBelow (length (fixed_workqueues p f ++ new)) order → n ≤ 4096 → length arcs ≡ n - 1
          → All (IsArcOf (length names)) arcs
          → around_plan_reading names p f lines ≡ made (assignment_of p (fixed_workqueues p f ++ new)) order (n, arcs)
      around_plan_reading-new new order n arcs lines words are below few left known =
          let count = begun_line (new_count_reading f) (count_words (codes "plan")) (IsNewCount f) (IsReadBy-new f)
          lines (length new)
          (lines_from names p.group_of (length (fixed_workqueues p f)) new
          ++ (order_line order ∷ count_line n ∷ map (arc_line names) arcs)) words (room_behind new are.few) in
          let all = AreRead-lines new count.rest (order_line order ∷ count_line n ∷ map (arc_line names) arcs)
          count.behind are in
          and_read-Ok behind_plan (next_line (new_count_reading f) lines) (length new) count.rest count.is_read
          ∙ and_read-Ok behind_workqueues (new_assignment names p f (length new) count.rest)
          (assignment_of p (fixed_workqueues p f ++ new)) all.rest all.is_read
          ∙ behind_workqueues-lines (assignment_of p (fixed_workqueues p f ++ new)) order n arcs all.rest all.behind
          are.few below few left known

      pub around_plan_reading-lines : (lines : List CertLine) (c : AroundPlan)
          → SpellsAround names p f (words_of_lines lines) c → around_plan_reading names p f lines ≡ Ok c
      around_plan_reading-lines lines c spells =
          around_plan_reading-new spells.new c.order c.length c.arcs lines spells.words spells.are spells.below
          spells.few spells.count spells.known
          ∙ ap (λ (b : Assignment). made b c.order (c.length, c.arcs)) (sym spells.assignment)

  -- ---- the first word

  abbrev circle_found : CircleCertificate → Result AroundCertificate CertError
  circle_found circle = Ok (OfCircleAround circle)

  abbrev none_found : NoRescuerCertificate → Result AroundCertificate CertError
  none_found none = Ok (OfNoRescuer none)

  abbrev plan_found : AroundPlan → Result AroundCertificate CertError
  plan_found plan = Ok (OfPlanAround plan)

  -- what is read of these lines, if this is the first one
  abbrev read_by : List CertLine → List (List ℕ) → Result AroundCertificate CertError
  read_by lines words =
      cond (begins_with (codes "circle") words) (and_then circle_found (circle_reading names lines))
      (cond (begins_with (codes "norescuer") words) (and_then none_found (norescuer_reading names lines))
      (and_then plan_found (around_plan_reading names p f lines)))

  pub around_reading-circle : (lines : List CertLine) (c : CircleCertificate) → circle_reading names lines ≡ Ok c
      → around_reading names p f lines ≡ Ok (OfCircleAround c)
  around_reading-circle [] c e = absurd (let words = (SpellsCircle-circle_reading names [] c e).words in cc)
  around_reading-circle (line ∷ lines) c e =
      let words = (SpellsCircle-circle_reading names (line ∷ lines) c e).words in
      let first : line.words ≡ circle_line c.arcs = cc in
      ap (read_by (line ∷ lines)) first ∙ ap (and_then circle_found) e

  pub around_reading-norescuer : (lines : List CertLine) (others : List (List (List ℕ))) (c : NoRescuerCertificate)
      → words_of_lines lines ≡ norescuer_line ∷ others → norescuer_reading names lines ≡ Ok c
      → around_reading names p f lines ≡ Ok (OfNoRescuer c)
  around_reading-norescuer [] others c words e = absurd cc
  around_reading-norescuer (line ∷ lines) others c words e =
      let first : line.words ≡ norescuer_line = cc in
      ap (read_by (line ∷ lines)) first ∙ ap (and_then none_found) e

  pub around_reading-plan : (lines : List CertLine) (n : ℕ) (others : List (List (List ℕ))) (c : AroundPlan)
      → words_of_lines lines ≡ plan_line n ∷ others → around_plan_reading names p f lines ≡ Ok c
      → around_reading names p f lines ≡ Ok (OfPlanAround c)
  around_reading-plan [] n others c words e = absurd cc
  around_reading-plan (line ∷ lines) n others c words e =
      let first : line.words ≡ plan_line n = cc in
      ap (read_by (line ∷ lines)) first ∙ ap (and_then plan_found) e
