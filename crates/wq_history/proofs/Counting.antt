-- Asks that wait: what one more row does to their counts.
use Rattle.std.proofs.Common.{◌≡◌, ◌≢◌, ℕ, zero, suc, ◌+◌, ◌<◌, ◌≤◌, ◌⊎◌, inl, inr, Bool, true, false, cond, eqb, List}
use Rattle.std.proofs.Common.{[], ◌∷◌, ◌++◌, length, get_or, set, refl, sym, arith, sum, ◌&&◌}
use Rattle.std.specs.List.{count_by}
use Rattle.std.proofs.lemmas.Bool.{cases_eq, eq-eqb, ne_eqb}
use Rattle.std.proofs.lemmas.Bool.Decides.{nat_tests}
use Rattle.std.proofs.lemmas.List.{get_or-set_same, get_or-set_other}
use Rattle.std.proofs.lemmas.List.Sums.{sum_by_push, get_or-le-sum_by}
use Rattle.wq_history.proofs.Words.{Event, Row, Subject, OfItem, OfLane, subject_in, begins_to_wait, ends_a_wait}
use Rattle.wq_history.proofs.Words.{is_ask, is_told, asks_waiting, all_asks_waiting, AskView, CountsAll, CountsAsks}
use Rattle.wq_history.proofs.Words.{ask_place}
use Rattle.wq_rows.specs.declared.event.Event.TheVariants.{Ask, Told, AskLane, ToldLane}
use Rattle.wq_history.specs.Events.{is_subject, asks, tells}

-- ---- places

-- a subject is another one exactly if both have the same place
is_subject-place : (x y : Subject) → is_subject y x ≡ eqb (ask_place x) (ask_place y)
is_subject-place (OfItem i) (OfItem j) = grind (arith, nat_tests)
is_subject-place (OfItem i) (OfLane q) = grind (arith, nat_tests)
is_subject-place (OfLane q) (OfItem i) = grind (arith, nat_tests)
is_subject-place (OfLane p) (OfLane q) = grind (arith, nat_tests)

-- ---- one more row

pub count-more : (p : Row → Bool) (rows : List Row) (row : Row)
    → count_by p (rows ++ (row ∷ [])) ≡ count_by p rows + cond (p row) 1 0
count-more p rows row = sum_by_push (λ (r : Row). cond (p r) 1 0) rows row

and-true : (b : Bool) → (b && true) ≡ b
and-true true = refl
and-true false = refl

and-false : (b : Bool) → (b && false) ≡ false
and-false true = refl
and-false false = refl

-- what begins to wait, or waits no longer, at a row is what the row is about
begins-about : (y : Subject) (event : Event) (said : Bool)
    → (asks y event && said) ≡ (is_subject y (subject_in event) && (is_ask event && said))
begins-about y (Ask i) said = refl
begins-about y (AskLane q) said = refl
begins-about y event said = sym (and-false (is_subject y (subject_in event)))

ends-about : (y : Subject) (event : Event) → tells y event ≡ (is_subject y (subject_in event) && is_told event)
ends-about y (Told i) = sym (and-true (is_subject y (OfItem i)))
ends-about y (ToldLane q) = sym (and-true (is_subject y (OfLane q)))
ends-about y event = sym (and-false (is_subject y (subject_in event)))

module _ (rows : List Row) (row : Row) (asks new : AskView) (counts : CountsAsks rows asks)
    (all_is : new.all + cond (is_told row.event) 1 0 ≡ asks.all + cond (is_ask row.event && row.yes) 1 0) where
  -- where each count changes as the asks about its subject do
  CountsAsks-by : ((y : Subject) → get_or new.counts (ask_place y) 0 + cond (ends_a_wait y row) 1 0
      ≡ get_or asks.counts (ask_place y) 0 + cond (begins_to_wait y row) 1 0)
      → CountsAsks (rows ++ (row ∷ [])) new
  CountsAsks-by each_is = record {
    each = λ y.
        let begun = count-more (begins_to_wait y) rows row in
        let ended = count-more (ends_a_wait y) rows row in
        omega (arith, begun, ended, counts.each y, each_is y);
    in_all =
        let asked = count-more (λ (r : Row). is_ask r.event && r.yes) rows row in
        let told = count-more (λ (r : Row). is_told r.event) rows row in
        omega (arith, asked, told, counts.in_all, all_is);
  }

  -- the row changes nothing
  pub CountsAsks-same : new.counts ≡ asks.counts → is_told row.event ≡ false → (is_ask row.event && row.yes) ≡ false
      → CountsAsks (rows ++ (row ∷ [])) new
  CountsAsks-same same told asked = CountsAsks-by (λ y.
      let nothing = and-false (is_subject y (subject_in row.event)) in
      rw (same, begins-about y row.event row.yes, ends-about y row.event, told, asked, nothing) refl)

  -- the count of what the row is about is replaced by this one
  pub CountsAsks-at : (k : ℕ) → ask_place (subject_in row.event) < length asks.counts
      → new.counts ≡ set asks.counts (ask_place (subject_in row.event)) k
      → k + cond (is_told row.event) 1 0
      ≡ get_or asks.counts (ask_place (subject_in row.event)) 0 + cond (is_ask row.event && row.yes) 1 0
      → CountsAsks (rows ++ (row ∷ [])) new
  CountsAsks-at k within set_is k_is = CountsAsks-by (λ y.
      rw (set_is, begins-about y row.event row.yes, ends-about y row.event, is_subject-place (subject_in row.event) y)
      (at y (cases_eq (ask_place (subject_in row.event)) (ask_place y))))
    where
      place : ℕ
      place = ask_place (subject_in row.event)

      at : (y : Subject) → (place ≡ ask_place y) ⊎ (place ≢ ask_place y)
          → get_or (set asks.counts place k) (ask_place y) 0 + cond (eqb place (ask_place y) && is_told row.event) 1 0
          ≡ get_or asks.counts (ask_place y) 0 + cond (eqb place (ask_place y) && (is_ask row.event && row.yes)) 1 0
      at y (inl same) =
          rw (← same, eq-eqb place place refl, get_or-set_same asks.counts place k 0 within) k_is
      at y (inr other) =
          let same = get_or-set_other asks.counts place (ask_place y) k 0 (λ e. other (sym e)) in
          rw (ne_eqb place (ask_place y) other, same) refl

-- ---- what the counts say

pub asks_waiting-count : (rows : List Row) (asks : AskView) (x : Subject) → CountsAsks rows asks
    → get_or asks.counts (ask_place x) 0 ≡ asks_waiting x rows
asks_waiting-count rows asks x counts = omega (arith, counts.each x)

pub all_asks_waiting-count : (rows : List Row) (asks : AskView) → CountsAsks rows asks
    → asks.all ≡ all_asks_waiting rows
all_asks_waiting-count rows asks counts = omega (arith, counts.in_all)

-- where asks wait, there is a count
pub within-some : (counts : List ℕ) (i : ℕ) → 0 < get_or counts i 0 → i < length counts
within-some [] i some = omega (arith, some)
within-some (n ∷ counts) zero some = omega arith
within-some (n ∷ counts) (suc i) some = omega (arith, within-some counts i some)

-- no more asks about a subject wait than in all
pub count-at_most : (asks : AskView) (x : Subject) → CountsAll asks → get_or asks.counts (ask_place x) 0 ≤ asks.all
count-at_most asks x sum_is = grind (arith, sum_is, part) where
  part : 0 < get_or asks.counts (ask_place x) 0 → get_or asks.counts (ask_place x) 0 ≤ sum asks.counts
  part some =
      get_or-le-sum_by (λ (n : ℕ). n) asks.counts (ask_place x) 0 (within-some asks.counts (ask_place x) some)

-- if no asks wait in all, as many were told of each item and each lane as asked about it with yes
pub CountsAsks-none : (rows : List Row) (asks : AskView) (x : Subject) → CountsAll asks → CountsAsks rows asks
    → asks.all ≡ 0 → count_by (ends_a_wait x) rows ≡ count_by (begins_to_wait x) rows
CountsAsks-none rows asks x sum_is counts none =
    omega (arith, counts.each x, count-at_most asks x sum_is, none)
