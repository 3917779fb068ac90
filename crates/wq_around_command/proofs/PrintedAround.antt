-- Texts of answers around fixed workqueues as they are printed, read back.
use Rattle.std.proofs.Common.{◌≡◌, ◌≢◌, ℕ, zero, suc, ◌+◌, ◌-◌, ◌*◌, ◌<◌, ◌≤◌, ◌^◌, ◌==◌, inl, inr, Bool, true}
use Rattle.std.proofs.Common.{false, cond, eqb, List, [], ◌∷◌, ◌++◌, length, map, get_or, Option, Some, None, IfSome}
use Rattle.std.proofs.Common.{Ok, refl, sym, ap, ap₂, subst, ◌∙◌, arith, length-append}
use Rattle.std.specs.Prelude.{AllPairs, codes, decimal, filter, flat_map, slice_get, slice_index}
use Rattle.std.specs.List.{All, AllByRecursion, concat, enumerate_from, range_with_len}
use Rattle.std.proofs.lemmas.Bool.{cases_lt, eqb-true, ne_eqb}
use Rattle.std.proofs.lemmas.List.{get_or-map, length-map}
use Rattle.std.proofs.lemmas.List.Elements.{All-from_recursion, recursion_from_All}
use Rattle.std.proofs.lemmas.List.Folds.{concat-append}
use Rattle.std.proofs.lemmas.List.FromFn.{length-map-range_with_len}
use Rattle.std.proofs.lemmas.Option.{slice_get-get_or}
use Rattle.wq_text.specs.LineText.{spaced, line_text}
use Rattle.wq_text.specs.Lines.{lines_of}
use Rattle.wq_items.specs.Table.{Table, IsTable, items_at}
use Rattle.wq_items.proofs.Pigeonhole.{repeats_from_length}
use Rattle.wq_groups.specs.Assignment.{Assignment, IsAssignment, group_lane, item_lanes}
use Rattle.wq_groups.specs.Partition.{Partition, IsPartition}
use Rattle.wq_core.specs.declared.step.Step.{Step}
use Rattle.wq_core.specs.Workqueues.{Workqueues}
use Rattle.wq_fixed.specs.Fixed.{Fixed, IsFixed, Keeps, fixed_lanes}
use Rattle.wq_cert.specs.AroundReading.{AroundPlan, NoRescuerCertificate, OfCircleAround, OfNoRescuer, OfPlanAround}
use Rattle.wq_cert.specs.AroundReading.{around_of_text, around_reading, fixed_items, fixed_workqueues, is_lane}
use Rattle.wq_cert.specs.AroundText.{around_lines, around_text, norescuer_line, norescuer_text, order_line}
use Rattle.wq_cert.specs.Certificate.{CircleCertificate, OfCircle}
use Rattle.wq_cert.specs.CircleText.{circle_text}
use Rattle.wq_cert.specs.Lines.{CertLine, cert_lines}
use Rattle.wq_cert.specs.PlanText.{arc_line, chain_line, name_of, plan_line, workqueue_line, wq_line}
use Rattle.wq_cert.specs.Ranges.{IsArcOf, IsStepOf}
use Rattle.wq_cert.specs.Reading.{answer_reading, assignment_of}
use Rattle.wq_cert.specs.RunText.{run_lines, step_line}
use Rattle.wq_cert.specs.Spelled.{AreWorkqueues, words_of_lines}
use Rattle.wq_cert.specs.Texts.{max_certificate}
use Rattle.wq_cert.proofs.ListLemmas.{AllByRecursion-append, AllByRecursion-range_with_len, AllByRecursion-weaker}
use Rattle.wq_cert.proofs.PrintedArcs.{IsPrintableLine-arcs}
use Rattle.wq_cert.proofs.PrintedCircles.{answer_of-circle}
use Rattle.wq_cert.proofs.PrintedLines.{IsPrintable, IsPrintableLine, KeepsLimits-printed, length-lines-le}
use Rattle.wq_cert.proofs.PrintedLines.{words_of_text-printed}
use Rattle.wq_cert.proofs.PrintedPlans.{chain_length}
use Rattle.wq_cert.proofs.PrintedRuns.{IsPrintableLine-run}
use Rattle.wq_cert.proofs.PrintedWords.{IsPrintable-decimal, IsPrintable-keyword, IsPrintableLine-count}
use Rattle.wq_cert.proofs.PrintedWorkqueues.{AreWorkqueues-printed, IsPrintableLine-wqs, assignment_of-workqueues}
use Rattle.wq_cert.proofs.ReadRanges.{IsReadAs-answer_reading}
use Rattle.wq_cert.proofs.SpelledAnswers.{KeepsLimits-text_reading, text_reading-KeepsLimits}
use Rattle.wq_cert.proofs.SpelledWorkqueues.{lines_from}
use Rattle.wq_cert.proofs.TextWords.{words_of_lines-text}
use Rattle.wq_around_command.proofs.AroundLines.{SpellsAround, around_plan_reading-lines, around_reading-circle}
use Rattle.wq_around_command.proofs.AroundLines.{around_reading-norescuer, around_reading-plan, norescuer_reading-lines}

-- ---- lists

-- there are no more different numbers below n than n
pub few_different : (n : ℕ) (xs : List ℕ) → All (λ x. x < n) xs → AllPairs (λ (x y : ℕ). x ≢ y) xs → length xs ≤ n
few_different n xs below once = elim (cases_lt n (length xs)) [
  | inl long ↦
      let twice = repeats_from_length n xs below long in absurd (once twice.0 twice.1 0 twice.2 twice.3 twice.4)
  | inr few ↦ few
]

filter_same : (g h : ℕ → Bool) (xs : List ℕ) → AllByRecursion (λ x. g x ≡ h x) xs → filter g xs ≡ filter h xs
filter_same g h [] same = refl
filter_same g h (x ∷ xs) same = ap₂ (λ (b : Bool) (ys : List ℕ). cond b (x ∷ ys) ys) same.0 (filter_same g h xs same.1)

module _ {X : Type 0} where
  map_same : (g h : ℕ → X) (a n : ℕ) → ((q : ℕ) → a ≤ q → q < a + n → g q ≡ h q)
      → map g (range_with_len a n) ≡ map h (range_with_len a n)
  map_same g h a zero same = refl
  map_same g h a (suc n) same =
      ap₂ (λ (x : X) (xs : List X). x ∷ xs) (same a (omega arith) (omega arith))
      (map_same g h (a + 1) n (λ q low high. same q (omega (arith, low)) (omega (arith, high))))

  -- the first m numbers, and the n numbers behind them
  map_parts : (h : ℕ → X) (a m n : ℕ)
      → map h (range_with_len a (m + n)) ≡ map h (range_with_len a m) ++ map h (range_with_len (a + m) n)
  map_parts h a zero n =
      let none : 0 + n ≡ n = omega arith in
      let here : a ≡ a + 0 = omega arith in
      ap₂ (λ (k l : ℕ). map h (range_with_len l k)) none here
  map_parts h a (suc m) n =
      let more : suc m + n ≡ suc (m + n) = omega arith in
      let next : a + 1 + m ≡ a + suc m = omega arith in
      ap (λ (k : ℕ). map h (range_with_len a k)) more
      ∙ ap (λ (xs : List X). h a ∷ xs)
      (map_parts h (a + 1) m n
      ∙ ap (λ (k : ℕ). map h (range_with_len (a + 1) m) ++ map h (range_with_len k n)) next)

-- ---- how long a text is

-- how many words lines have
abbrev words_in : List (List (List ℕ)) → ℕ
words_in [] = 0
words_in (words ∷ lines) = length words + words_in lines

words_in-append : (xs ys : List (List (List ℕ))) → words_in (xs ++ ys) ≡ words_in xs + words_in ys
words_in-append [] ys = omega arith
words_in-append (x ∷ xs) ys = omega (arith, words_in-append xs ys)

length-spaced_words : (words : List (List ℕ)) → AllByRecursion IsPrintable words
    → length (flat_map spaced words) ≤ 64 * length words
length-spaced_words [] printable = omega arith
length-spaced_words (word ∷ words) printable =
    let rest : length (flat_map spaced words) ≤ 64 * length words = length-spaced_words words printable.1 in
    let short : length word ≤ 63 = printable.0.short in
    omega (arith, rest, short, length-append word (flat_map spaced words))

length-words : (words : List (List ℕ)) → AllByRecursion IsPrintable words
    → length (line_text words) ≤ 64 * length words + 1
length-words [] printable = omega arith
length-words (word ∷ words) printable =
    let rest : length (flat_map spaced words) ≤ 64 * length words = length-spaced_words words printable.1 in
    let short : length word ≤ 63 = printable.0.short in
    omega (
      arith,
      rest,
      short,
      length-append word (flat_map spaced words ++ (10 ∷ [])),
      length-append (flat_map spaced words) (10 ∷ []),
    )

length-lines : (lines : List (List (List ℕ))) → AllByRecursion IsPrintableLine lines
    → length (flat_map line_text lines) ≤ 64 * words_in lines + length lines
length-lines [] printable = omega arith
length-lines (words ∷ lines) printable =
    let rest : length (flat_map line_text lines) ≤ 64 * words_in lines + length lines =
    length-lines lines printable.1 in
    let first : length (line_text words) ≤ 64 * length words + 1 = length-words words printable.0.each in
    omega (arith, rest, first, length-append (line_text words) (flat_map line_text lines))

words_in-arcs : (names : List (List ℕ)) (arcs : List (ℕ × ℕ)) → words_in (map (arc_line names) arcs) ≡ 3 * length arcs
words_in-arcs names [] = omega arith
words_in-arcs names (arc ∷ arcs) = omega (arith, words_in-arcs names arcs)

words_in-wqs : (names : List (List ℕ)) (lane : List ℕ) (a n : ℕ)
    → words_in (map (wq_line names lane) (range_with_len a n))
    ≡ 2 * n + length (concat (map (items_at lane) (range_with_len a n)))
words_in-wqs names lane a zero = omega arith
words_in-wqs names lane a (suc n) =
    let others : List ℕ = concat (map (items_at lane) (range_with_len (a + 1) n)) in
    omega (
      arith,
      words_in-wqs names lane (a + 1) n,
      length-map (items_at lane a) (name_of names),
      length-append (items_at lane a) others,
    )

-- ---- an order

printable_numbers : (order : List ℕ) → AllByRecursion (λ q. q < 2 ^ 32) order
    → AllByRecursion IsPrintable (map decimal order)
printable_numbers [] small = tt
printable_numbers (q ∷ order) small = (IsPrintable-decimal q small.0, printable_numbers order small.1)

IsPrintableLine-order : (order : List ℕ) → AllByRecursion (λ q. q < 2 ^ 32) order → length order ≤ 4096
    → IsPrintableLine (order_line order)
IsPrintableLine-order order small short = record {
  some = λ e. absurd cc;
  each = (IsPrintable-keyword (codes "order") refl (omega arith) (omega arith), printable_numbers order small);
  few = omega (arith, short, length-map order decimal);
}

-- ---- a chain

chain_length-most : (lanes n : ℕ) (chain : List (ℕ × ℕ)) → length chain ≤ n → chain_length lanes chain ≤ n + 1
chain_length-most lanes n chain few = chosen (eqb lanes 0)
  where
    chosen : (b : Bool) → cond b 0 (length chain + 1) ≤ n + 1
    chosen true = omega arith
    chosen false = omega (arith, few)

chain_length-left : (lanes : ℕ) (chain : List (ℕ × ℕ)) → (lanes ≡ 0 → chain ≡ [])
    → length chain ≡ chain_length lanes chain - 1
chain_length-left lanes chain none = chosen (eqb lanes 0) refl
  where
    chosen : (b : Bool) → eqb lanes 0 ≡ b → length chain ≡ cond b 0 (length chain + 1) - 1
    chosen true e = omega (arith, ap length (none (eqb-true lanes 0 e)))
    chosen false e = omega arith

-- the lines of these workqueues
lines_from-printed : (names : List (List ℕ)) (lane : List ℕ) (a n : ℕ)
    → map (wq_line names lane) (range_with_len a n)
    ≡ map (workqueue_line names) (enumerate_from a (map (items_at lane) (range_with_len a n)))
lines_from-printed names lane a zero = refl
lines_from-printed names lane a (suc n) =
    ap (λ (ls : List (List (List ℕ))). wq_line names lane a ∷ ls) (lines_from-printed names lane (a + 1) n)

-- ---- a plan

module _ (t : Table) (p : Partition) (f : Fixed) (ws : Workqueues) (order : List ℕ) (chain : List (ℕ × ℕ))
    (table : IsTable t) (is : IsPartition p) (long : length p.group_of ≡ length t.names) (fixed : IsFixed p.groups f)
    (assigned : IsAssignment p.groups ws.assignment) (keeps : Keeps f ws) (few : ws.assignment.lanes ≤ 4096)
    (below : All (λ q. q < ws.assignment.lanes) order) (short_order : length order ≤ 4096)
    (arcs : All (IsArcOf (length t.names)) chain) (short : length chain ≤ 4095)
    (none : ws.assignment.lanes ≡ fixed_lanes f → chain ≡ []) where
  abbrev a : Assignment
  a = ws.assignment

  abbrev lane : List ℕ
  lane = item_lanes a p.group_of

  abbrev many : ℕ
  many = a.lanes - fixed_lanes f

  abbrev new : List (List ℕ)
  new = map (items_at lane) (range_with_len (fixed_lanes f) many)

  abbrev all : List (List ℕ)
  all = fixed_workqueues p f ++ new

  length-lane : length lane ≡ length t.names
  length-lane = length-map p.group_of (group_lane a) ∙ long

  -- ---- a fixed workqueue holds the items that are on it

  is_on : (g q : ℕ) (o : Option ℕ) → q < fixed_lanes f → slice_get f.lane_of_group g ≡ Some o
      → is_lane o q ≡ (group_lane a g == q)
  is_on g q (Some r) low stays = ap (λ (l : ℕ). l == q) (sym (keeps.stays g r stays))
  is_on g q None low free =
      sym (ne_eqb (group_lane a g) q (λ same. omega (arith, low, same, keeps.new g free)))

  is_item_on : (i q : ℕ) → i < length p.group_of → q < fixed_lanes f
      → is_lane (get_or f.lane_of_group (get_or p.group_of i 0) None) q ≡ (slice_index lane i == q)
  is_item_on i q within low =
      let g : ℕ = get_or p.group_of i 0 in
      let group : g < length f.lane_of_group = omega (arith, is.within i 0 within, fixed.one_each) in
      is_on g q (get_or f.lane_of_group g None) low (slice_get-get_or f.lane_of_group g None group)
      ∙ ap (λ (l : ℕ). l == q) (sym (get_or-map (group_lane a) p.group_of i 0 0 within))

  same_items : (q : ℕ) → q < fixed_lanes f → fixed_items p f q ≡ items_at lane q
  same_items q low =
      let n : ℕ = length p.group_of in
      filter_same (λ i. is_lane (get_or f.lane_of_group (get_or p.group_of i 0) None) q)
      (λ i. slice_index lane i == q) (range_with_len 0 n)
      (AllByRecursion-range_with_len
      (λ i. is_lane (get_or f.lane_of_group (get_or p.group_of i 0) None) q ≡ (slice_index lane i == q)) 0 n
      (λ i from to. is_item_on i q (omega (arith, to)) low))
      ∙ ap (λ (m : ℕ). filter (λ i. slice_index lane i == q) (range_with_len 0 m))
      (sym (length-map p.group_of (group_lane a)))

  -- ---- the workqueues

  all_are : all ≡ map (items_at lane) (range_with_len 0 a.lanes)
  all_are =
      let from : fixed_lanes f ≡ 0 + fixed_lanes f = omega arith in
      let lanes : fixed_lanes f + many ≡ a.lanes = omega (arith, keeps.lanes) in
      ap (λ (qs : List (List ℕ)). qs ++ new)
      (map_same (fixed_items p f) (items_at lane) 0 (fixed_lanes f) (λ q low high. same_items q (omega (arith, high))))
      ∙ ap (λ (k : ℕ). map (items_at lane) (range_with_len 0 (fixed_lanes f))
      ++ map (items_at lane) (range_with_len k many)) from
      ∙ sym (map_parts (items_at lane) 0 (fixed_lanes f) many)
      ∙ ap (λ (k : ℕ). map (items_at lane) (range_with_len 0 k)) lanes

  are : AreWorkqueues (length t.names) p.group_of all
  are =
      subst (AreWorkqueues (length t.names) p.group_of) (sym all_are)
      (AreWorkqueues-printed p a is assigned few (length t.names) long)

  lanes_are : a.lanes ≡ length all
  lanes_are = sym (ap length all_are ∙ length-map-range_with_len (items_at lane) 0 a.lanes)

  new_lines : map (wq_line t.names lane) (range_with_len (fixed_lanes f) many)
      ≡ lines_from t.names p.group_of (length (fixed_workqueues p f)) new
  new_lines =
      lines_from-printed t.names lane (fixed_lanes f) many
      ∙ ap (λ (n : ℕ). map (workqueue_line t.names) (enumerate_from n new))
      (sym (length-map-range_with_len (fixed_items p f) 0 (fixed_lanes f)))

  -- ---- the lines

  abbrev plan : AroundPlan
  plan = record { assignment = a; order = order; length = chain_length many chain; arcs = chain }

  abbrev arc_lines : List (List (List ℕ))
  arc_lines = map (arc_line t.names) chain

  abbrev behind : List (List (List ℕ))
  behind = order_line order ∷ chain_line many chain ∷ arc_lines

  abbrev wq_lines : List (List (List ℕ))
  wq_lines = map (wq_line t.names lane) (range_with_len (fixed_lanes f) many)

  abbrev lines : List (List (List ℕ))
  lines = around_lines t.names (fixed_lanes f) a.lanes lane order chain

  SpellsAround-printed : SpellsAround t.names p f lines plan
  SpellsAround-printed = record {
    new = new;
    words = ap₂ (λ (n : ℕ) (ls : List (List (List ℕ))). plan_line n ∷ (ls ++ behind))
        (sym (length-map-range_with_len (items_at lane) (fixed_lanes f) many)) new_lines;
    are = are;
    assignment = sym (ap (assignment_of p) all_are ∙ assignment_of-workqueues p a is assigned);
    below = recursion_from_All (λ q. q < length all) order
        (subst (λ (n : ℕ). All (λ q. q < n) order) lanes_are below);
    few = chain_length-most many 4095 chain short;
    count = chain_length-left many chain (λ no_lane. none (omega (arith, no_lane, keeps.lanes)));
    known = arcs;
  }

  small : AllByRecursion (λ q. q < 2 ^ 32) order
  small =
      AllByRecursion-weaker (λ q. q < a.lanes) (λ q. q < 2 ^ 32) (λ q less. omega (arith, less, few)) order
      (recursion_from_All (λ q. q < a.lanes) order below)

  printable : AllByRecursion IsPrintableLine lines
  printable = (
    IsPrintableLine-count (codes "plan") many (IsPrintable-keyword (codes "plan") refl (omega arith) (omega arith))
        (omega (arith, few)),
    AllByRecursion-append IsPrintableLine wq_lines behind
        (IsPrintableLine-wqs lane t table length-lane (fixed_lanes f) many (omega (arith, few, keeps.lanes))) (
          IsPrintableLine-order order small short_order,
          (
            IsPrintableLine-count (codes "chain") (chain_length many chain)
                (IsPrintable-keyword (codes "chain") refl (omega arith) (omega arith))
                (omega (arith, chain_length-most many 4095 chain short)),
            IsPrintableLine-arcs t table chain arcs,
          ),
        ),
  )

  -- ---- the text

  few_items : length (concat new) ≤ 4096
  few_items =
      omega (
        arith,
        few_different (length t.names) (concat all) are.known are.once,
        ap length (concat-append (fixed_workqueues p f) new),
        length-append (concat (fixed_workqueues p f)) (concat new),
        table.few_items,
      )

  few_words : words_in lines ≤ 30000
  few_words =
      let first : words_in lines ≡ 2 + words_in (wq_lines ++ behind) = omega arith in
      let last : words_in behind ≡ length (order_line order) + (2 + words_in arc_lines) = omega arith in
      omega (
        arith,
        first,
        last,
        words_in-append wq_lines behind,
        words_in-wqs t.names lane (fixed_lanes f) many,
        few_items,
        words_in-arcs t.names chain,
        length-map order decimal,
        few,
        short,
        short_order,
      )

  few_lines : length lines ≤ 10000
  few_lines =
      omega (
        arith,
        length-append wq_lines behind,
        length-map-range_with_len (wq_line t.names lane) (fixed_lanes f) many,
        length-map chain (arc_line t.names),
        few,
        short,
      )

  most : length (flat_map line_text lines) ≤ max_certificate
  most = omega (arith, length-lines lines printable, few_words, few_lines)

  pub around_of_text-plan : around_of_text t.names p f (around_text t.names (fixed_lanes f) a.lanes lane order chain)
      ≡ Ok (OfPlanAround plan)
  around_of_text-plan =
      let text : List ℕ = around_text t.names (fixed_lanes f) a.lanes lane order chain in
      let read : List CertLine = cert_lines (lines_of text) in
      let words : words_of_lines read ≡ lines = words_of_lines-text text ∙ words_of_text-printed lines printable in
      text_reading-KeepsLimits (around_reading t.names p f) text (OfPlanAround plan)
      (KeepsLimits-printed lines printable most)
      (around_reading-plan t.names p f read many (wq_lines ++ behind) plan words
      (around_plan_reading-lines t.names p f table.distinct (sym long) read plan
      (subst (λ (ls : List (List (List ℕ))). SpellsAround t.names p f ls plan) (sym words) SpellsAround-printed)))

-- ---- a circle, and a flush to no rescuer

module _ (t : Table) (p : Partition) (f : Fixed) (table : IsTable t) where
  pub around_of_text-circle : (arcs : List (ℕ × ℕ)) (steps : Option (List Step)) → 0 < length arcs
      → length arcs ≤ 4096 → All (IsArcOf (length t.names)) arcs → IfSome steps (All (IsStepOf (length t.names)))
      → length (circle_text t.names arcs steps) ≤ max_certificate
      → around_of_text t.names p f (circle_text t.names arcs steps)
      ≡ Ok (OfCircleAround (record { arcs = arcs; steps = steps }))
  around_of_text-circle arcs steps some few known each most =
      let text : List ℕ = circle_text t.names arcs steps in
      let lines : List CertLine = cert_lines (lines_of text) in
      let circle : CircleCertificate = record { arcs = arcs; steps = steps } in
      let read = KeepsLimits-text_reading (answer_reading t.names p) text (OfCircle circle)
      (answer_of-circle t table p arcs steps some few known each most) in
      text_reading-KeepsLimits (around_reading t.names p f) text (OfCircleAround circle) read.0
      (around_reading-circle t.names p f lines circle
      (IsReadAs-answer_reading t.names p lines (OfCircle circle) read.1))

  module _ (arc : ℕ × ℕ) (steps : List Step) (known : IsArcOf (length t.names) arc)
      (each : All (IsStepOf (length t.names)) steps)
      (most : length (norescuer_text t.names arc steps) ≤ max_certificate) where
    abbrev flush_lines : List (List (List ℕ))
    flush_lines = norescuer_line ∷ arc_line t.names arc ∷ run_lines t.names steps

    few_steps : length steps < 2 ^ 32
    few_steps = omega (arith, most, length-lines-le flush_lines, length-map steps (step_line t.names))

    printable_flush : AllByRecursion IsPrintableLine flush_lines
    printable_flush = (
      IsPrintableLine-count (codes "norescuer") 1
          (IsPrintable-keyword (codes "norescuer") refl (omega arith) (omega arith)) (omega arith),
      (
        (IsPrintableLine-arcs t table (arc ∷ [])
            (All-from_recursion (IsArcOf (length t.names)) (arc ∷ []) (known, tt))).0,
        IsPrintableLine-run t table steps each few_steps,
      ),
    )

    pub around_of_text-norescuer : around_of_text t.names p f (norescuer_text t.names arc steps)
        ≡ Ok (OfNoRescuer (record { arc = arc; steps = Some steps }))
    around_of_text-norescuer =
        let text : List ℕ = norescuer_text t.names arc steps in
        let lines : List CertLine = cert_lines (lines_of text) in
        let none : NoRescuerCertificate = record { arc = arc; steps = Some steps } in
        let words : words_of_lines lines ≡ flush_lines =
        words_of_lines-text text ∙ words_of_text-printed flush_lines printable_flush in
        text_reading-KeepsLimits (around_reading t.names p f) text (OfNoRescuer none)
        (KeepsLimits-printed flush_lines printable_flush most)
        (around_reading-norescuer t.names p f lines (arc_line t.names arc ∷ run_lines t.names steps) none words
        (norescuer_reading-lines t.names table.distinct arc steps lines words known few_steps each))
