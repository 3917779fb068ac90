-- How many steps a run can have in which each item is queued once and none is cancelled.
use Rattle.std.proofs.Common.{◌≡◌, ℕ, zero, suc, ◌+◌, ◌*◌, ◌<◌, ◌≤◌, inl, inr, cond, eqb, List, [], ◌∷◌, length, set, take, refl, sym, ap, ◌∙◌, arith}
use Rattle.std.specs.Prelude.{sum_by}
use Rattle.std.specs.List.{All, count_by}
use Rattle.std.proofs.Math.Nat.{suc-mul}
use Rattle.std.proofs.lemmas.Bool.{cases_eq, cases_lt, cond-true, cond-false, eq-eqb, ne_eqb}
use Rattle.std.proofs.lemmas.List.{set_past, take_all}
use Rattle.std.proofs.lemmas.List.Elements.{All-head, All-tail}
use Rattle.std.proofs.lemmas.List.Folds.{sum_by-replicate}
use Rattle.std.proofs.lemmas.List.Sums.{sum_by-cons, sum_by-append, sum_by-set, sum_by_more}
use Rattle.wq_items.specs.declared.target.Target.{Target}
use Rattle.wq_items.specs.Table.{flush_count}
use Rattle.wq_groups.specs.Declaration.{Declaration, IsDeclaration}
use Rattle.wq_groups.specs.Assignment.{Assignment}
use Rattle.wq_core.specs.declared.entry.Entry.{Entry}
use Rattle.wq_core.specs.declared.step.Step.{Step}
use Rattle.wq_core.specs.declared.step.Step.TheVariants.{Queue, Cancel, Start, Wait, Over, WaitAll, OverAll, Finish, Help}
use Rattle.wq_core.specs.Wiring.{Wiring, items, lane_of, wiring}
use Rattle.wq_core.specs.State.{Lane, State, idle_lane, lane_at, empty_state}
use Rattle.wq_core.specs.Rules.{Lawful, with_queued, effect}
use Rattle.wq_core.specs.Runs.{IsRunFrom, IsRun, IsCancel, IsOnce, queues}
use Rattle.wq_core.specs.Held.{IsSoundState}
use Rattle.wq_core.specs.Deadlock.{DeadlocksBy}
use Rattle.wq_core.specs.Work.{whole_work, lane_work, work_left}
use Rattle.wq_core.proofs.Sound.{IsSoundState-effect, IsSoundState-empty}
use Rattle.wq_core.proofs.WorkLemmas.{work_left-rescuer}

-- ---- sums over the numbers below n

sum_upto : (ℕ → ℕ) → ℕ → ℕ
sum_upto g zero = 0
sum_upto g (suc n) = sum_upto g n + g n

sum_upto-same : (g h : ℕ → ℕ) (n : ℕ) → ((i : ℕ) → i < n → g i ≡ h i) → sum_upto g n ≡ sum_upto h n
unfolding sum_upto
sum_upto-same g h zero same = refl
sum_upto-same g h (suc n) same =
    let rest = sum_upto-same g h n (λ i lt. same i (omega arith)) in
    let last = same n (omega arith) in
    omega (arith, rest, last)

-- one more of item j
abbrev one_more : ℕ → (ℕ → ℕ) → (ℕ → ℕ) → ℕ → ℕ
one_more j count f i = (cond (eqb j i) 1 0 + count i) * f i

one_more-own : (j : ℕ) (count f : ℕ → ℕ) (i : ℕ) → j ≡ i → one_more j count f i ≡ f i + count i * f i
one_more-own j count f i same =
    let one : cond {A = ℕ} (eqb j i) 1 0 ≡ 1 = cond-true {A = ℕ} (eqb j i) 1 0 (eq-eqb j i same) in
    let is : cond (eqb j i) 1 0 + count i ≡ suc (count i) = omega (arith, one) in
    let all : suc (count i) * f i ≡ f i + count i * f i = omega (arith, suc-mul (count i) (f i)) in
    ap (λ (k : ℕ). k * f i) is ∙ all

one_more-other : (j : ℕ) (count f : ℕ → ℕ) (i : ℕ) → (j ≡ i → ⊥) → one_more j count f i ≡ count i * f i
one_more-other j count f i other =
    let none : cond {A = ℕ} (eqb j i) 1 0 ≡ 0 = cond-false {A = ℕ} (eqb j i) 1 0 (ne_eqb j i other) in
    ap (λ (k : ℕ). k * f i) (omega (arith, none))

sum_upto-past : (j : ℕ) (count f : ℕ → ℕ) (n : ℕ) → n ≤ j → sum_upto (one_more j count f) n ≡ sum_upto (λ i. count i * f i) n
sum_upto-past j count f n past = sum_upto-same (one_more j count f) (λ i. count i * f i) n (λ i lt. one_more-other j count f i (λ same. omega (arith, same)))

sum_upto-one_more : (j : ℕ) (count f : ℕ → ℕ) (n : ℕ) → j < n → sum_upto (one_more j count f) n ≡ f j + sum_upto (λ i. count i * f i) n
unfolding sum_upto
sum_upto-one_more j count f zero lt = absurd (omega arith)
sum_upto-one_more j count f (suc n) lt = elim (cases_eq j n) [
  | inl same ↦ (
      let before = sum_upto-past j count f n (omega arith) in
      let last = one_more-own j count f n same in
      let own : f j ≡ f n = ap f same in
      omega (arith, before, last, own)
      )
  | inr other ↦ (
      let before = sum_upto-one_more j count f n (omega arith) in
      let last = one_more-other j count f n other in
      omega (arith, before, last)
      )
]

-- ---- what queueings cost

-- the step that queues an item, and the work that it brings
queue_cost : Wiring → Step → ℕ
queue_cost w (Queue i) = 1 + whole_work w i
queue_cost w (Cancel i) = 0
queue_cost w (Start q i) = 0
queue_cost w (Wait q b) = 0
queue_cost w (Over q b) = 0
queue_cost w (WaitAll q b) = 0
queue_cost w (OverAll q b) = 0
queue_cost w (Finish q i) = 0
queue_cost w (Help q h deed) = 0

work_left-queued : (w : Wiring) (s : State) (i : ℕ) → work_left w (effect w s (Queue i)) ≤ work_left w s + whole_work w i
work_left-queued w s i =
    let q : ℕ = lane_of w i in
    let e : Entry = record { number = s.next; item = i } in
    let old : Lane = lane_at s q in
    let new : Lane = with_queued e old in
    let work : Entry → ℕ = λ (x : Entry). whole_work w x.item in
    let pending = sum_by-append work old.pending (e ∷ []) in
    let one = sum_by-cons work e [] in
    elim (cases_lt q (length s.lanes)) [
      | inl within ↦ omega (arith, sum_by-set (lane_work w) s.lanes q new idle_lane within, pending, one)
      | inr past ↦ (
          let same : set s.lanes q new ≡ s.lanes = set_past s.lanes q new past in
          omega (arith, ap (λ (ls : List Lane). sum_by (lane_work w) ls) same)
          )
    ]

-- each step and the work that it leaves
step_cost : (w : Wiring) (s : State) (step : Step) → IsSoundState w s → Lawful w s step → ¬ IsCancel step
    → 1 + work_left w (effect w s step) ≤ work_left w s + queue_cost w step
unfolding queue_cost
step_cost w s (Queue i) sound lawful not_cancel = omega (arith, work_left-queued w s i)
step_cost w s (Cancel i) sound lawful not_cancel = absurd (not_cancel tt)
step_cost w s (Start q i) sound lawful not_cancel = omega (arith, work_left-rescuer w s (Start q i) sound lawful tt)
step_cost w s (Wait q b) sound lawful not_cancel = omega (arith, work_left-rescuer w s (Wait q b) sound lawful tt)
step_cost w s (Over q b) sound lawful not_cancel = omega (arith, work_left-rescuer w s (Over q b) sound lawful tt)
step_cost w s (WaitAll q b) sound lawful not_cancel = omega (arith, work_left-rescuer w s (WaitAll q b) sound lawful tt)
step_cost w s (OverAll q b) sound lawful not_cancel = omega (arith, work_left-rescuer w s (OverAll q b) sound lawful tt)
step_cost w s (Finish q i) sound lawful not_cancel = omega (arith, work_left-rescuer w s (Finish q i) sound lawful tt)
step_cost w s (Help q h deed) sound lawful not_cancel = omega (arith, work_left-rescuer w s (Help q h deed) sound lawful tt)

length-run_from : (w : Wiring) (s : State) (steps : List Step) → IsSoundState w s → IsRunFrom w s steps → All (λ (step : Step). ¬ IsCancel step) steps
    → length steps ≤ work_left w s + sum_by (queue_cost w) steps
length-run_from w s [] sound run none = omega arith
length-run_from w s (step ∷ steps) sound run none =
    let first = step_cost w s step sound run.0 (All-head (λ (x : Step). ¬ IsCancel x) step steps none) in
    let rest = length-run_from w (effect w s step) steps (IsSoundState-effect w s step sound run.0) run.1 (All-tail (λ (x : Step). ¬ IsCancel x) step steps none) in
    let all = sum_by-cons (queue_cost w) step steps in
    omega (arith, first, rest, all)

-- ---- each item once

-- how often each item is queued, times what it costs
abbrev queued_cost : Wiring → List Step → ℕ → ℕ
queued_cost w steps i = count_by (λ (step : Step). queues i step) steps * (1 + whole_work w i)

queued_cost-other : (w : Wiring) (step : Step) (steps : List Step) → ((i : ℕ) → count_by (λ (x : Step). queues i x) (step ∷ steps) ≡ count_by (λ (x : Step). queues i x) steps)
    → sum_upto (queued_cost w (step ∷ steps)) (items w) ≡ sum_upto (queued_cost w steps) (items w)
queued_cost-other w step steps same =
    sum_upto-same (queued_cost w (step ∷ steps)) (queued_cost w steps) (items w) (λ i lt. ap (λ (k : ℕ). k * (1 + whole_work w i)) (same i))

count-cons : (i : ℕ) (step : Step) (steps : List Step) → count_by (λ (x : Step). queues i x) (step ∷ steps) ≡ cond (queues i step) 1 0 + count_by (λ (x : Step). queues i x) steps
count-cons i step steps = sum_by-cons (λ (x : Step). cond (queues i x) 1 0) step steps

cost_by_item : (w : Wiring) (s : State) (steps : List Step) → IsRunFrom w s steps → sum_by (queue_cost w) steps ≡ sum_upto (queued_cost w steps) (items w)
unfolding queue_cost sum_upto
cost_by_item w s [] run = sym (nothing (items w))
  where
    nothing : (n : ℕ) → sum_upto (queued_cost w []) n ≡ 0
    nothing zero = refl
    nothing (suc n) = let rest = nothing n in omega (arith, rest)
cost_by_item w s (step ∷ steps) run = sum_by-cons (queue_cost w) step steps ∙ by_step (cost_by_item w (effect w s step) steps run.1) step run.0
  where
    by_step : sum_by (queue_cost w) steps ≡ sum_upto (queued_cost w steps) (items w) → (x : Step) → Lawful w s x → queue_cost w x + sum_by (queue_cost w) steps ≡ sum_upto (queued_cost w (x ∷ steps)) (items w)
    by_step rest (Queue i) lawful =
        let all = sum_upto-one_more i (λ j. count_by (λ (x : Step). queues j x) steps) (λ j. 1 + whole_work w j) (items w) lawful.0 in
        let same = sum_upto-same (queued_cost w (Queue i ∷ steps)) (one_more i (λ j. count_by (λ (x : Step). queues j x) steps) (λ j. 1 + whole_work w j)) (items w)
        (λ j lt. ap (λ (k : ℕ). k * (1 + whole_work w j)) (count-cons j (Queue i) steps)) in
        omega (arith, rest, all, same)
    by_step rest (Cancel i) lawful = omega (arith, rest, queued_cost-other w (Cancel i) steps (λ j. count-cons j (Cancel i) steps ∙ omega arith))
    by_step rest (Start q i) lawful = omega (arith, rest, queued_cost-other w (Start q i) steps (λ j. count-cons j (Start q i) steps ∙ omega arith))
    by_step rest (Wait q b) lawful = omega (arith, rest, queued_cost-other w (Wait q b) steps (λ j. count-cons j (Wait q b) steps ∙ omega arith))
    by_step rest (Over q b) lawful = omega (arith, rest, queued_cost-other w (Over q b) steps (λ j. count-cons j (Over q b) steps ∙ omega arith))
    by_step rest (WaitAll q b) lawful = omega (arith, rest, queued_cost-other w (WaitAll q b) steps (λ j. count-cons j (WaitAll q b) steps ∙ omega arith))
    by_step rest (OverAll q b) lawful = omega (arith, rest, queued_cost-other w (OverAll q b) steps (λ j. count-cons j (OverAll q b) steps ∙ omega arith))
    by_step rest (Finish q i) lawful = omega (arith, rest, queued_cost-other w (Finish q i) steps (λ j. count-cons j (Finish q i) steps ∙ omega arith))
    by_step rest (Help q h deed) lawful = omega (arith, rest, queued_cost-other w (Help q h deed) steps (λ j. count-cons j (Help q h deed) steps ∙ omega arith))

-- what all items cost
sum_upto-whole : (w : Wiring) (n : ℕ) → n ≤ length w.waits → sum_upto (λ i. 1 + whole_work w i) n ≡ 3 * n + 2 * flush_count (take n w.waits)
unfolding sum_upto
sum_upto-whole w zero le = omega arith
sum_upto-whole w (suc n) le =
    let before = sum_upto-whole w n (omega arith) in
    let next : n + 1 ≡ suc n = omega arith in
    let more = ap (λ (k : ℕ). sum_by (λ (ts : List Target). length ts) (take k w.waits)) (sym next) ∙ sum_by_more (λ (ts : List Target). length ts) w.waits n [] (omega arith) in
    omega (arith, before, more)

work_left-empty : (w : Wiring) → work_left w (empty_state w) ≡ 0
work_left-empty w = omega (arith, sum_by-replicate (lane_work w) w.lanes idle_lane)

pub length-once : (w : Wiring) (steps : List Step) → IsRun w steps → IsOnce w steps → length steps ≤ 3 * items w + 2 * flush_count w.waits
length-once w steps run once =
    let most = length-run_from w (empty_state w) steps (IsSoundState-empty w) run once.uncancelled in
    let none = work_left-empty w in
    let by_item = cost_by_item w (empty_state w) steps run in
    let each = sum_upto-same (queued_cost w steps) (λ i. 1 + whole_work w i) (items w) (λ i lt. ap (λ (k : ℕ). k * (1 + whole_work w i)) (once.queued i lt) ∙ omega arith) in
    let all = sum_upto-whole w (items w) (omega arith) in
    let whole = ap (λ (ts : List (List Target)). flush_count ts) (take_all (items w) w.waits (omega arith)) in
    omega (arith, most, none, by_item, each, all, whole)

-- so a run by which an assignment deadlocks has at most 45,056 steps
pub length-deadlocking : (d : Declaration) (a : Assignment) (steps : List Step) → IsDeclaration d → DeadlocksBy (wiring d a) steps → length steps ≤ 45056
length-deadlocking d a steps declaration deadlocks =
    let short : length steps ≤ 3 * length d.waits + 2 * flush_count d.waits = length-once (wiring d a) steps deadlocks.run deadlocks.once in
    omega (arith, short, declaration.one_list_each, declaration.partition.few_items, declaration.few_flushes)
