-- How long the text of a plan, of a circle or of a run can be.
use Rattle.std.proofs.Common.{◌≡◌, ℕ, zero, suc, Option, Some, None, IfSome, ap, ◌+◌, ◌*◌, ◌<◌, ◌≤◌, ◌==◌, nat_le, Bool, true, false, cond, inl, inr, List, [], ◌∷◌, ◌++◌, length, map, slice_index, subst, arith, length-append}
use Rattle.std.proofs.Math.Nat.{mul-suc}
use Rattle.std.proofs.lemmas.Bool.{cases_lt, ltb-false}
use Rattle.std.proofs.lemmas.Bool.Decides.{nat_tests}
use Rattle.std.proofs.lemmas.Fmt.{length-decimal-le}
use Rattle.std.proofs.lemmas.List.{get_or_past}
use Rattle.std.proofs.lemmas.List.Folds.{flat_map-map}
use Rattle.std.proofs.lemmas.List.Concat.{flat_map-append}
use Rattle.std.proofs.lemmas.List.Elements.{All-head, All-tail}
use Rattle.std.proofs.lemmas.List.FromFn.{length-range_with_len}
use Rattle.std.specs.List.{All, AllByRecursion, range_with_len, cons_option}
use Rattle.std.specs.Option.{option_map_or}
use Rattle.std.specs.Prelude.{IsTrue, codes, decimal, filter, filter_map, flat_map}
use Rattle.wq_items.specs.Names.{is_name}
use Rattle.wq_core.specs.declared.step.Step.{Step}
use Rattle.wq_core.specs.declared.step.Step.TheVariants.{Queue, Cancel, Start, Wait, Over, WaitAll, OverAll, Finish, Help}
use Rattle.wq_text.specs.LineText.{spaced, line_text}
use Rattle.wq_items.specs.declared.target.Target.{Target}
use Rattle.wq_items.specs.Table.{items_at}
use Rattle.wq_cert.specs.PlanText.{name_of, plan_line, wq_line, chain_line, arc_line, plan_text}
use Rattle.wq_cert.specs.CircleText.{circle_line, circle_text}
use Rattle.wq_cert.specs.Part.{has_unsure, part_lines, part_text, reading_text, unsure_at, unsure_line, unsure_word}
use Rattle.wq_cert.specs.Ranges.{IsStepOf}
use Rattle.wq_cert.specs.Reading.{names_far_lane}
use Rattle.wq_cert.specs.RunText.{run_line, step_line, run_lines, run_text}
use Rattle.wq_cert.proofs.LineLemmas.{plan_text-parts}
use Rattle.wq_cert.proofs.ListLemmas.{AllByRecursion-range_with_len}
use Rattle.wq_cert.proofs.PrintedWords.{IsPrintable-name}

-- ---- sums of lengths

total : {X : Type 0} → (X → ℕ) → List X → ℕ
total g [] = 0
total g (x ∷ xs) = g x + total g xs

module _ {X : Type 0} where
  -- pieces that are each within a bound are, together, within the sum of the bounds
  length-flat_map-le : (f : X → List ℕ) (g : X → ℕ) (xs : List X) → AllByRecursion (λ x. length (f x) ≤ g x) xs → length (flat_map f xs) ≤ total g xs
  unfolding total
  length-flat_map-le f g [] each = omega arith
  length-flat_map-le f g (x ∷ xs) each =
      let rest : length (flat_map f xs) ≤ total g xs = length-flat_map-le f g xs each.1 in
      let first : length (f x) ≤ g x = each.0 in
      omega (arith, length-append (f x) (flat_map f xs))

  everywhere : (P : X → Type 0) → ((x : X) → P x) → (xs : List X) → AllByRecursion P xs
  everywhere P each [] = tt
  everywhere P each (x ∷ xs) = (each x, everywhere P each xs)

  total-same : (n : ℕ) (xs : List X) → total (λ x. n) xs ≡ n * length xs
  unfolding total
  total-same n [] = omega arith
  total-same n (x ∷ xs) = let rest : total (λ x. n) xs ≡ n * length xs = total-same n xs in omega (arith, mul-suc n (length xs))

  -- pieces of at most n bytes
  pub length-flat_map-most : (f : X → List ℕ) (n : ℕ) → ((x : X) → length (f x) ≤ n) → (xs : List X) → length (flat_map f xs) ≤ n * length xs
  length-flat_map-most f n each xs =
      let sum : length (flat_map f xs) ≤ total (λ x. n) xs = length-flat_map-le f (λ x. n) xs (everywhere (λ x. length (f x) ≤ n) each xs) in
      let same : total (λ x. n) xs ≡ n * length xs = total-same n xs in
      omega arith

  total-lines : (h : X → ℕ) (xs : List X) → total (λ x. 8 + 64 * h x) xs ≡ 8 * length xs + 64 * total h xs
  unfolding total
  total-lines h [] = omega arith
  total-lines h (x ∷ xs) = let rest : total (λ x. 8 + 64 * h x) xs ≡ 8 * length xs + 64 * total h xs = total-lines h xs in omega arith

-- ---- each item is on one workqueue

module _ (f : ℕ → ℕ) where
  on : ℕ → List ℕ → ℕ
  on q xs = length (filter (λ i. f i == q) xs)

  from : ℕ → List ℕ → ℕ
  from q xs = length (filter (λ i. nat_le q (f i)) xs)

  from-on : (a : ℕ) (xs : List ℕ) → on a xs + from (a + 1) xs ≤ from a xs
  unfolding on from
  from-on a [] = omega arith
  from-on a (x ∷ xs) = let rest : on a xs + from (a + 1) xs ≤ from a xs = from-on a xs in grind (arith, nat_tests, rest)

  from-most : (a : ℕ) (xs : List ℕ) → from a xs ≤ length xs
  unfolding from
  from-most a [] = omega arith
  from-most a (x ∷ xs) = let rest : from a xs ≤ length xs = from-most a xs in grind (arith, nat_tests, rest)

  total-on : (n a : ℕ) (xs : List ℕ) → total (λ q. on q xs) (range_with_len a n) ≤ from a xs
  unfolding total
  total-on zero a xs = omega arith
  total-on (suc n) a xs =
      let rest : total (λ q. on q xs) (range_with_len (a + 1) n) ≤ from (a + 1) xs = total-on n (a + 1) xs in
      let step : on a xs + from (a + 1) xs ≤ from a xs = from-on a xs in
      omega arith

-- ---- the parts of a line

name_of-most : (names : List (List ℕ)) → All (λ (name : List ℕ). IsTrue (is_name name)) names → (i : ℕ) → length (name_of names i) ≤ 63
name_of-most names named i = elim (cases_lt i (length names)) [
  | inl item ↦ (IsPrintable-name (name_of names i) (named i [] item)).short
  | inr past ↦ rw (get_or_past names i [] past) (omega arith)
]

length-line_text : (word : List ℕ) (words : List (List ℕ)) → length (line_text (word ∷ words)) ≡ length word + length (flat_map spaced words) + 1
length-line_text word words = omega (arith, length-append word (flat_map spaced words ++ (10 ∷ [])), length-append (flat_map spaced words) (10 ∷ []))

length-spaced : (word : List ℕ) (words : List (List ℕ)) → length (flat_map spaced (word ∷ words)) ≡ 1 + length word + length (flat_map spaced words)
length-spaced word words = omega (arith, length-append (spaced word) (flat_map spaced words))

few_digits : (n : ℕ) → n ≤ 4097 → length (decimal n) ≤ 4
few_digits n few = length-decimal-le 4 n (omega arith) (omega arith) (omega arith)

cond-most : (b : Bool) (n m : ℕ) → n ≤ m → cond b 0 n ≤ m
cond-most true n m le = omega arith
cond-most false n m le = le

length-unsure_word : (b : Bool) → length (unsure_word b) ≤ 8
length-unsure_word true = omega arith
length-unsure_word false = omega arith

length-filter_map-le : {X Y : Type 0} (h : X → Option Y) (xs : List X) → length (filter_map h xs) ≤ length xs
length-filter_map-le h [] = omega arith
length-filter_map-le {X} {Y} h (x ∷ xs) = chosen (h x) (length-filter_map-le h xs)
  where
    chosen : (o : Option Y) → length (filter_map h xs) ≤ length xs
        → length (cons_option o (filter_map h xs)) ≤ suc (length xs)
    chosen None few = omega arith
    chosen (Some y) few = omega arith

module _ (names : List (List ℕ)) (named : All (λ (name : List ℕ). IsTrue (is_name name)) names) where
  length-plan_line : (k : ℕ) → k ≤ 4096 → length (line_text (plan_line k)) ≤ 10
  length-plan_line k few = omega (arith, length-line_text (codes "plan") (decimal k ∷ []), length-spaced (decimal k) [], few_digits k (omega arith))

  length-chain_line : (k : ℕ) (chain : List (ℕ × ℕ)) → length chain ≤ 4096 → length (line_text (chain_line k chain)) ≤ 11
  length-chain_line k chain few =
      let n = cond (k == 0) 0 (length chain + 1) in
      omega (arith, length-line_text (codes "chain") (decimal n ∷ []), length-spaced (decimal n) [], few_digits n (cond-most (k == 0) (length chain + 1) 4097 (omega arith)))

  length-arc_line : (arc : ℕ × ℕ) → length (line_text (arc_line names arc)) ≤ 132
  length-arc_line arc =
      let a = name_of names arc.0 in
      let b = name_of names arc.1 in
      omega (arith, length-line_text (codes "arc") (a ∷ b ∷ []), length-spaced a (b ∷ []), length-spaced b [], name_of-most names named arc.0, name_of-most names named arc.1)

  length-arc_lines : (chain : List (ℕ × ℕ)) → length (flat_map line_text (map (arc_line names) chain)) ≤ 132 * length chain
  length-arc_lines chain = rw (flat_map-map line_text (arc_line names) chain) (length-flat_map-most (λ arc. line_text (arc_line names arc)) 132 length-arc_line chain)

  -- ---- circles and runs

  length-circle : (arcs : List (ℕ × ℕ)) → length arcs ≤ 4096 → length (line_text (circle_line arcs)) ≤ 12
  length-circle arcs few =
      omega (arith, length-line_text (codes "circle") (decimal (length arcs) ∷ []), length-spaced (decimal (length arcs)) [], few_digits (length arcs) (omega arith))

  length-run : (steps : List Step) → length steps ≤ 65536 → length (line_text (run_line steps)) ≤ 10
  length-run steps few =
      omega (arith, length-line_text (codes "run") (decimal (length steps) ∷ []), length-spaced (decimal (length steps)) [], length-decimal-le 5 (length steps) (omega arith) (omega arith) (omega arith))

  length-item_step : (word : List ℕ) (i : ℕ) → length word ≤ 6 → length (line_text (word ∷ name_of names i ∷ [])) ≤ 76
  length-item_step word i short = omega (arith, length-line_text word (name_of names i ∷ []), length-spaced (name_of names i) [], name_of-most names named i)

  length-lane_step : (word : List ℕ) (q i : ℕ) → length word ≤ 6 → q ≤ 4095 → length (line_text (word ∷ decimal q ∷ name_of names i ∷ [])) ≤ 76
  length-lane_step word q i short near =
      omega (
        arith,
        length-line_text word (decimal q ∷ name_of names i ∷ []),
        length-spaced (decimal q) (name_of names i ∷ []),
        length-spaced (name_of names i) [],
        few_digits q (omega arith),
        name_of-most names named i,
      )

  length-step_line : (step : Step) → names_far_lane step ≡ false → length (line_text (step_line names step)) ≤ 76
  length-step_line (Queue i) near = length-item_step (codes "queue") i (omega arith)
  length-step_line (Cancel i) near = length-item_step (codes "cancel") i (omega arith)
  length-step_line (Start q i) near = length-lane_step (codes "start") q i (omega arith) (ltb-false 4095 q near)
  length-step_line (Wait q b) near = length-lane_step (codes "wait") q b (omega arith) (ltb-false 4095 q near)
  length-step_line (Over q b) near = length-lane_step (codes "over") q b (omega arith) (ltb-false 4095 q near)
  length-step_line (WaitAll q b) near = length-lane_step (codes "waitwq") q b (omega arith) (ltb-false 4095 q near)
  length-step_line (OverAll q b) near = length-lane_step (codes "overwq") q b (omega arith) (ltb-false 4095 q near)
  length-step_line (Finish q i) near = length-lane_step (codes "finish") q i (omega arith) (ltb-false 4095 q near)
  length-step_line (Help q h deed) near = omega arith

  length-step_lines : (steps : List Step) → All (IsStepOf (length names)) steps → length (flat_map line_text (map (step_line names) steps)) ≤ 76 * length steps
  length-step_lines [] each = omega arith
  length-step_lines (step ∷ steps) each =
      let rest : length (flat_map line_text (map (step_line names) steps)) ≤ 76 * length steps = length-step_lines steps (All-tail (IsStepOf (length names)) step steps each) in
      let first : length (line_text (step_line names step)) ≤ 76 = length-step_line step (All-head (IsStepOf (length names)) step steps each).1 in
      omega (arith, length-append (line_text (step_line names step)) (flat_map line_text (map (step_line names) steps)))

  length-run_text-le : (steps : List Step) → All (IsStepOf (length names)) steps → length steps ≤ 65536 → length (run_text names steps) ≤ 10 + 76 * length steps
  length-run_text-le steps each few =
      omega (arith, length-append (line_text (run_line steps)) (flat_map line_text (map (step_line names) steps)), length-run steps few, length-step_lines steps each)

  length-run_after : (steps : Option (List Step)) → IfSome steps (All (IsStepOf (length names))) → IfSome steps (λ run. length run ≤ 65536) → length (flat_map line_text (option_map_or (run_lines names) steps [])) ≤ 5000000
  length-run_after None each few = omega arith
  length-run_after (Some run) each few = omega (arith, length-run_text-le run each few)

  pub length-run_text : (steps : List Step) → All (IsStepOf (length names)) steps → length steps ≤ 65536 → length (run_text names steps) ≤ 8388608
  length-run_text steps each few = omega (arith, length-run_text-le steps each few)

  length-unsure_line : (f : ℕ × Target) → length (line_text (unsure_line names f)) ≤ 138
  length-unsure_line f =
      let a = name_of names f.0 in
      let b = name_of names f.1.item in
      let word = unsure_word f.1.whole in
      omega (
        arith,
        length-line_text word (a ∷ b ∷ []),
        length-spaced a (b ∷ []),
        length-spaced b [],
        name_of-most
            names named f.0,
        name_of-most names named f.1.item,
        length-unsure_word f.1.whole,
      )

  length-part : (waits : List (List Target)) (kept : List ℕ) → length kept ≤ 16384
      → length (flat_map line_text (part_lines names waits kept)) ≤ 3000000
  length-part waits kept few =
      let there = filter_map (unsure_at waits) kept in
      let lines : length (flat_map line_text (map (unsure_line names) there)) ≤ 138 * length there =
      rw (flat_map-map line_text (unsure_line names) there)
      (length-flat_map-most (λ f. line_text (unsure_line names f)) 138 length-unsure_line there) in
      omega (
        arith,
        lines,
        length-filter_map-le (unsure_at waits) kept,
        length-append (line_text (codes "unsure" ∷ decimal (length kept) ∷ []))
            (flat_map line_text (map (unsure_line names) there)),
        length-line_text (codes "unsure") (decimal (length kept) ∷ []),
        length-spaced (decimal (length kept)) [],
        length-decimal-le 5 (length kept) (omega arith) (omega arith) (omega arith),
      )

  length-part_text : (waits : List (List Target)) (kept : List ℕ) → length kept ≤ 16384
      → length (part_text names waits kept) ≤ 3000000
  length-part_text waits kept few = chosen (has_unsure waits)
    where
      chosen : (b : Bool) → length (cond b (flat_map line_text (part_lines names waits kept)) []) ≤ 3000000
      chosen true = length-part waits kept few
      chosen false = omega arith

  pub length-reading_text : (waits : List (List Target)) (kept : List ℕ) (steps : List Step)
      → All (IsStepOf (length names)) steps → length kept ≤ 16384 → length steps ≤ 65536
      → length (reading_text names waits kept steps) ≤ 8388608
  length-reading_text waits kept steps each places few =
      omega (
        arith,
        length-append (part_text names waits kept) (run_text names steps),
        length-part_text waits kept
            places,
        length-run_text-le steps each few,
      )

  pub length-circle_text : (arcs : List (ℕ × ℕ)) (steps : Option (List Step)) → length arcs ≤ 4096 → IfSome steps (All (IsStepOf (length names))) → IfSome steps (λ run. length run ≤ 65536)
      → length (circle_text names arcs steps) ≤ 8388608
  length-circle_text arcs steps few each few_steps =
      let lines = map (arc_line names) arcs in
      let behind = option_map_or (run_lines names) steps [] in
      omega (
        arith,
        length-append (line_text (circle_line arcs)) (flat_map line_text (lines ++ behind)),
        ap length (flat_map-append line_text lines behind),
        length-append (flat_map line_text lines) (flat_map line_text behind),
        length-circle arcs few,
        length-arc_lines arcs,
        length-run_after steps each few_steps,
      )

-- ---- plans

module _ (names : List (List ℕ)) (lane : List ℕ) (named : All (λ (name : List ℕ). IsTrue (is_name name)) names) where
  length-wq_line : (q : ℕ) → q < 4096 → length (line_text (wq_line names lane q)) ≤ 8 + 64 * length (items_at lane q)
  length-wq_line q few =
      let words = map (name_of names) (items_at lane q) in
      let each : length (flat_map spaced words) ≤ 64 * length (items_at lane q) =
      rw (flat_map-map spaced (name_of names) (items_at lane q)) (length-flat_map-most (λ i. spaced (name_of names i)) 64 (λ i. omega (arith, name_of-most names named i)) (items_at lane q)) in
      omega (arith, length-line_text (codes "wq") (decimal q ∷ words), length-spaced (decimal q) words, few_digits q (omega arith))

  total-items : (lanes : ℕ) → total (λ q. length (items_at lane q)) (range_with_len 0 lanes) ≤ length (range_with_len 0 (length lane))
  unfolding on
  total-items lanes =
      let is = range_with_len 0 (length lane) in
      omega (arith, total-on (slice_index lane) lanes 0 is, from-most (slice_index lane) 0 is)

  length-wq_lines : (lanes : ℕ) → lanes ≤ 4096 → length (flat_map line_text (map (wq_line names lane) (range_with_len 0 lanes))) ≤ 8 * lanes + 64 * length lane
  length-wq_lines lanes few =
      let qs = range_with_len 0 lanes in
      let is = range_with_len 0 (length lane) in
      let sum : length (flat_map (λ q. line_text (wq_line names lane q)) qs) ≤ total (λ q. 8 + 64 * length (items_at lane q)) qs =
      length-flat_map-le (λ q. line_text (wq_line names lane q)) (λ q. 8 + 64 * length (items_at lane q)) qs
      (AllByRecursion-range_with_len (λ q. length (line_text (wq_line names lane q)) ≤ 8 + 64 * length (items_at lane q)) 0 lanes (λ q low high. length-wq_line q (omega arith))) in
      let parts : total (λ q. 8 + 64 * length (items_at lane q)) qs ≡ 8 * length qs + 64 * total (λ q. length (items_at lane q)) qs = total-lines (λ q. length (items_at lane q)) qs in
      let once : total (λ q. length (items_at lane q)) qs ≤ length is = total-items lanes in
      rw (flat_map-map line_text (wq_line names lane) qs) (omega (arith, length-range_with_len 0 lanes, length-range_with_len 0 (length lane)))

  pub length-plan_text : (lanes : ℕ) (chain : List (ℕ × ℕ)) → lanes ≤ 4096 → length lane ≤ 4096 → length chain ≤ 4096 → length (plan_text names lanes lane chain) ≤ 8388608
  length-plan_text lanes chain few items short =
      let first = line_text (plan_line lanes) in
      let wqs = flat_map line_text (map (wq_line names lane) (range_with_len 0 lanes)) in
      let middle = line_text (chain_line lanes chain) in
      let arcs = flat_map line_text (map (arc_line names) chain) in
      subst (λ (bytes : List ℕ). length bytes ≤ 8388608)
      (plan_text-parts (plan_line lanes) (map (wq_line names lane) (range_with_len 0 lanes)) (chain_line lanes chain) (map (arc_line names) chain))
      (omega (
        arith,
        length-append ((first ++ wqs) ++ middle) arcs,
        length-append (first ++ wqs) middle,
        length-append first wqs,
        length-plan_line names named lanes few,
        length-wq_lines lanes few,
        length-chain_line names named lanes chain short,
        length-arc_lines names named chain,
      ))
