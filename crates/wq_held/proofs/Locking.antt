-- What the lock guards stays as it has to be: one more row, counted or not, and a book that is closed.
use Rattle.std.proofs.Common.{◌≡◌, ℕ, ◌+◌, ◌*◌, ◌<◌, ◌≤◌, replicate, Bool, cond, List, [], ◌∷◌, ◌++◌, length, sym, ap}
use Rattle.std.proofs.Common.{subst, ◌∙◌, arith, sum}
use Rattle.std.proofs.lemmas.List.{length-replicate}
use Rattle.std.proofs.lemmas.List.Folds.{sum_by-replicate}
use Rattle.wq_history.proofs.Words.{Wiring, items, max_helpers, IsSafe, Event, Row, item_in, steps_of, subject_in}
use Rattle.wq_history.proofs.Words.{state_after, IsThere, IsLegal, BookView, IsBook, Appends}
use Rattle.wq_core.specs.Deadlock.{IsStuck}
use Rattle.wq_rows.specs.declared.event.Event.TheVariants.{AskLane, ToldLane}
use Rattle.wq_counts.specs.Counting.{counts_each, slot_in, is_counted, AreTallies, noted_as, counted_rows}
use Rattle.wq_counts.proofs.Tallies.{AreTallies-more, HasCountsOf-noted_as, sum-noted_as, counted_rows-more, AreTallies-none, item_within}
use Rattle.wq_history.proofs.LegalRows.{IsRun-legal}
use Rattle.wq_history.proofs.KeptRows.{exist}
use Rattle.wq_held.specs.Locked.{max_runtime_lanes, slots, IsProtected, Holds}

-- ---- slots of counts

-- each item has a slot, and each lane
pub items_within_slots : (w : Wiring) → items w ≤ slots w
items_within_slots w = omega arith

pub lanes_within_slots : (w : Wiring) → w.lanes ≤ slots w
lanes_within_slots w = omega arith

pub item_slot : (w : Wiring) (i : ℕ) → i < items w → i < slots w
item_slot w i there = omega (arith, there, items_within_slots w)

pub lane_slot : (w : Wiring) (q : ℕ) → q < w.lanes → q < slots w
lane_slot w q there = omega (arith, there, lanes_within_slots w)

-- an event has one, if its item or lane exists
in_slots : (w : Wiring) (event : Event) → IsThere w (subject_in event) → slot_in event < slots w
in_slots w (AskLane q) there = lane_slot w q there
in_slots w (ToldLane q) there = lane_slot w q there
in_slots w event there = item_slot w (item_in event) there

-- ---- one more row

-- a sum of nothing but 0
pub sum-replicate_zero : (n : ℕ) → sum (replicate n 0) ≡ 0
sum-replicate_zero n = sum_by-replicate (λ (k : ℕ). k) n 0 ∙ omega arith

-- the item or the lane of a row that is appended exists
pub there-appended : (w : Wiring) (b new : BookView) (event : Event) (said : Bool) (n : ℕ) → b.wiring ≡ w → IsBook b → Appends b new event said n
    → IsThere w (subject_in event)
there-appended w b new event said n of_wiring book appends =
    subst (λ (x : Wiring). IsThere x (subject_in event)) of_wiring (exist b.wiring b.rows event said n book.wiring book.legal appends.may).0

-- so it has a slot
pub slot-appended : (w : Wiring) (b new : BookView) (event : Event) (said : Bool) (n : ℕ) → b.wiring ≡ w → IsBook b → Appends b new event said n
    → slot_in event < slots w
slot-appended w b new event said n of_wiring book appends = in_slots w event (there-appended w b new event said n of_wiring book appends)

-- a row is appended, and counted, unless it is one that isn't counted
pub IsProtected-noted : (w : Wiring) (rows parts : ℕ) (b new : BookView) (tallies sums : List ℕ) (seats left amount : ℕ) (event : Event) (said : Bool) (n : ℕ)
    → IsProtected w rows parts b tallies sums seats left amount → IsBook b → Appends b new event said n
    → IsProtected w rows parts new (noted_as tallies event said) sums seats left amount
IsProtected-noted w rows parts b new tallies sums seats left amount event said n held book appends =
    let row : Row = record { event = event; yes = said; number = n } in
    let within : slot_in event < slots w = slot-appended w b new event said n held.of_wiring book appends in
    let rows_are : new.rows ≡ b.rows ++ (row ∷ []) = ap (λ (x : BookView). x.rows) appends.is_new in
    let more : counted_rows (b.rows ++ (row ∷ [])) ≡ counted_rows b.rows + cond (is_counted event) 1 0 = counted_rows-more b.rows row in
    let summed = sum-noted_as tallies event said (λ _. item_within (slots w) (slot_in event) tallies held.a_count_each within) in
    record {
      of_wiring = ap (λ (x : BookView). x.wiring) appends.is_new ∙ held.of_wiring;
      of_rows = ap (λ (x : BookView). x.room) appends.is_new ∙ held.of_rows;
      few_lanes = held.few_lanes;
      few_helpers = held.few_helpers;
      safe = held.safe;
      a_count_each = HasCountsOf-noted_as (slots w) tallies event said held.a_count_each;
      tallied = subst (λ rs. AreTallies (slots w) rs (noted_as tallies event said)) (sym rows_are)
          (AreTallies-more (slots w) b.rows row tallies held.a_count_each (λ _. within) held.tallied);
      counted = omega (arith, summed, held.counted, more, ap counted_rows rows_are);
      no_sums = held.no_sums;
      all_parts = held.all_parts;
      parts_given = held.parts_given;
      a_part_left = held.a_part_left;
      no_amount_left = held.no_amount_left;
    }

-- ---- the first and the last

-- a runtime on which nothing has happened
pub IsProtected-first : (w : Wiring) (rows parts : ℕ) (b : BookView) (tallies sums : List ℕ) (left amount : ℕ) → b.wiring ≡ w → b.room ≡ rows → b.rows ≡ []
    → w.lanes ≤ max_runtime_lanes → w.helpers ≤ max_helpers → IsSafe w → parts ≡ 65536 → tallies ≡ replicate (counts_each * slots w) 0 → sums ≡ replicate (counts_each * slots w) 0 → left ≡ parts → amount ≡ 0
    → IsProtected w rows parts b tallies sums 0 left amount
IsProtected-first w rows parts b tallies sums left amount of_wiring of_rows empty few_lanes few_helpers safe all_parts no_tallies no_sums all_left none_counted = record {
  of_wiring = of_wiring;
  of_rows = of_rows;
  few_lanes = few_lanes;
  few_helpers = few_helpers;
  safe = safe;
  a_count_each = ap length no_tallies ∙ length-replicate (counts_each * slots w) 0;
  tallied = subst (λ ts. AreTallies (slots w) b.rows ts) (sym no_tallies) (subst (λ rs. AreTallies (slots w) rs (replicate (counts_each * slots w) 0)) (sym empty) (AreTallies-none (slots w)));
  counted = ap sum no_tallies ∙ (sum-replicate_zero (counts_each * slots w) ∙ sym (ap counted_rows empty));
  no_sums = no_sums;
  all_parts = all_parts;
  parts_given = omega (arith, all_left);
  a_part_left = omega (arith, all_left, all_parts);
  no_amount_left = none_counted;
}

-- the book of a runtime, as whoever takes the lock finds it
pub Holds-held : (w : Wiring) (rows parts : ℕ) (b : BookView) (tallies sums : List ℕ) (seats left amount : ℕ) → IsProtected w rows parts b tallies sums seats left amount
    → IsBook b → Holds w rows b
Holds-held w rows parts b tallies sums seats left amount held book =
    let legal : IsLegal w b.rows = subst (λ (x : Wiring). IsLegal x b.rows) held.of_wiring book.legal in
    record {
      of_wiring = held.of_wiring;
      of_rows = held.of_rows;
      legal = book;
      few_helpers = held.few_helpers;
      safe = held.safe;
      not_stuck = subst (λ (x : Wiring). ¬ IsStuck w (state_after x b.rows)) (sym held.of_wiring) (held.safe w.helpers held.few_helpers (steps_of b.rows) (IsRun-legal w b.rows legal));
    }
