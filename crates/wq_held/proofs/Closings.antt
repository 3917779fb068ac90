-- What a runtime that is closed has to show: the seats that were taken in are summed up, and the sums are compared with
-- the tallies.
use Rattle.std.proofs.Common.{◌≡◌, ℕ, suc, ◌+◌, ◌*◌, ◌<◌, ◌≤◌, ◌↔◌, ◌⊎◌, inl, inr, Bool, false, cond, List, [], ◌∷◌}
use Rattle.std.proofs.Common.{◌++◌, length, get_or, take, drop, ◌-◌, replicate, refl, sym, ap, subst, ◌∙◌, arith, Some}
use Rattle.std.proofs.Common.{sum, slice_get, slice_index, IsTrue}
use Rattle.std.specs.List.{sum_by, count_by}
use Rattle.std.proofs.lemmas.Bool.{cases_lt, false_from_ne_true}
use Rattle.std.proofs.lemmas.List.{get_or_past, get_or-replicate, length-replicate, take-append-drop}
use Rattle.std.proofs.lemmas.List.Sums.{sum_by-append, sum_by-cons}
use Rattle.wq_history.proofs.Words.{Wiring, IsWiring, items, HasUnfinished, Event, Row, item_in, lane_in, subject_in}
use Rattle.wq_history.proofs.Words.{begins_to_wait, ends_a_wait, IsThere, IsLegal, all_asks_waiting, BookView, state}
use Rattle.wq_history.proofs.Words.{IsBook}
use Rattle.wq_held.proofs.Words.{Subject, OfItem, OfLane}
use Rattle.wq_rows.specs.declared.event.Event.TheVariants.{AskLane, ToldLane}
use Rattle.wq_counts.specs.declared.kind.Kind.{Kind}
use Rattle.wq_counts.specs.declared.kind.LaneKind.{LaneKind}
use Rattle.wq_counts.specs.Counting.{counts_each, place, lane_place, kind_in, lane_kind_in, is_of, is_of_lane, tally, tally_lane, HasCountsOf, AreTallies}
use Rattle.wq_counts.proofs.Places.{IsItemPlace, IsLanePlace, cases_place}
use Rattle.wq_counts.proofs.Tallies.{is_of-parts, is_of_lane-parts, made-tally, made_lane-tally}
use Rattle.wq_history.proofs.Counting.{CountsAsks-none, all_asks_waiting-count}
use Rattle.wq_history.proofs.LegalRows.{AreCounted-legal, IsLegal-prefix}
use Rattle.wq_history.proofs.KeptRows.{exist}
use Rattle.wq_held.specs.Locked.{slots, IsProtected, IsSeat}
use Rattle.wq_held.proofs.Locking.{sum-replicate_zero, item_slot, lane_slot}
use Rattle.wq_held.specs.Closing.{AreGathered, Agrees, IsClosed}

-- ---- seats that are taken in one by one

-- of all seats some are left: their counts and the sums of those that were taken in add up to those of all; the parts of these
-- seats and those that are left are all parts, and the amount of the parts that were taken in is what the sums add up to
pub record IsGathered (n parts total : ℕ) (all left : List (List ℕ)) (sums : List ℕ) (parts_in amount_in seats_left ledger : ℕ) : Type 0 where
  pub sums_are : (p : ℕ) → slice_index sums p + sum_by (λ (seat : List ℕ). slice_index seat p) left ≡ sum_by (λ (seat : List ℕ). slice_index seat p) all
  pub a_count_each : HasCountsOf n sums
  pub parts_are : parts_in + seats_left ≡ parts
  pub amount_is : amount_in ≡ sum sums
  pub total_is : ledger ≡ total

get_or-same : (n p k : ℕ) → get_or (replicate n k) p k ≡ k
get_or-same n p k = elim (cases_lt p n) [
  | inl within ↦ get_or-replicate n p k k within
  | inr past ↦ get_or_past (replicate n k) p k (omega (arith, length-replicate n k, past))
]

-- none is taken in
pub IsGathered-none : (n parts total : ℕ) (all : List (List ℕ)) (sums : List ℕ) (parts_in amount_in seats_left : ℕ)
    → sums ≡ replicate (counts_each * n) 0 → parts_in + seats_left ≡ parts → amount_in ≡ 0
    → IsGathered n parts total all all sums parts_in amount_in seats_left total
IsGathered-none n parts total all sums parts_in amount_in seats_left empty parts_are none = record {
  sums_are = λ p. let zeros : get_or sums p 0 ≡ 0 = ap (λ (xs : List ℕ). get_or xs p 0) empty ∙ get_or-same (counts_each * n) p 0 in omega (arith, zeros);
  a_count_each = ap length empty ∙ length-replicate (counts_each * n) 0;
  parts_are = parts_are;
  amount_is = none ∙ sym (ap sum empty ∙ sum-replicate_zero (counts_each * n));
  total_is = refl;
}

module _ {n parts total : ℕ} {all left : List (List ℕ)} {sums : List ℕ} {parts_in amount_in seats_left ledger : ℕ}
    (old : IsGathered n parts total all left sums parts_in amount_in seats_left ledger) where
  -- the last one that is left is taken in
  pub IsGathered-more : {w : Wiring} {counts : List ℕ} {one amount : ℕ} → IsSeat w counts one amount
      → (rest : List (List ℕ)) (new seat : List ℕ) (parts_new amount_new seats_rest ledger_new : ℕ)
      → left ≡ rest ++ (seat ∷ []) → seats_rest + 1 ≡ seats_left → counts ≡ seat
      → ((p : ℕ) → slice_index new p ≡ slice_index sums p + slice_index counts p) → sum new ≡ sum sums + sum counts
      → length new ≡ length sums → parts_new ≡ parts_in + one → amount_new ≡ amount_in + amount → ledger_new ≡ ledger
      → IsGathered n parts total all rest new parts_new amount_new seats_rest ledger_new
  IsGathered-more {w} {counts} is_seat rest new seat parts_new amount_new seats_rest ledger_new left_is fewer counts_are
      each sum_is length_is parts_more amount_more ledger_same = record {
        sums_are = λ p.
            let f : List ℕ → ℕ = λ s. get_or s p 0 in
            let split : sum_by f left ≡ sum_by f rest + sum_by f (seat ∷ []) =
            ap (sum_by f) left_is ∙ sum_by-append f rest (seat ∷ []) in
            let last : sum_by f (seat ∷ []) ≡ f seat + 0 = sum_by-cons f seat [] in
            let same : f counts ≡ f seat = ap f counts_are in
            let before : f sums + sum_by f left ≡ sum_by f all = old.sums_are p in
            let added : f new ≡ f sums + f counts = each p in
            let now : f new + sum_by f rest ≡ sum_by f all = omega (arith, split, last, same, before, added) in
            now;
        a_count_each = length_is ∙ old.a_count_each;
        parts_are = omega (arith, old.parts_are, parts_more, is_seat.one_part, fewer);
        amount_is = omega (arith, old.amount_is, amount_more, is_seat.amount_is, sum_is);
        total_is = ledger_same ∙ old.total_is;
      }

  -- what two that are added count together is bounded by the ledger
  pub few_gathered : {w : Wiring} {counts : List ℕ} {one amount : ℕ} (amount_new : ℕ) → IsSeat w counts one amount
      → amount_new ≡ amount_in + amount → amount_new ≤ ledger → total < 4294967296
      → sum sums + sum counts < 18446744073709551616
  few_gathered amount_new is_seat more bound few =
      omega (arith, old.amount_is, old.total_is, is_seat.amount_is, more, bound, few)

  -- all are taken in
  pub all-gathered : left ≡ [] → seats_left ≡ 0 → (parts_in ≡ parts → amount_in ≡ ledger) → AreGathered n all sums total
  all-gathered none no_seats whole = record {
    sums_are = λ p.
        let f : List ℕ → ℕ = λ s. get_or s p 0 in
        let before : f sums + sum_by f left ≡ sum_by f all = old.sums_are p in
        let nothing : sum_by f left ≡ 0 = ap (sum_by f) none in
        let now : f sums ≡ sum_by f all = omega (arith, before, nothing) in
        now;
    a_count_each = old.a_count_each;
    total_is =
        let all_parts : parts_in ≡ parts = omega (arith, old.parts_are, no_seats) in
        omega (arith, whole all_parts, old.amount_is, old.total_is);
  }

-- none is left
pub none_left : (left rest : List (List ℕ)) (n : ℕ) → n ≡ 0 → left ≡ rest ++ [] → rest ≡ take (n - 1) left → left ≡ []
none_left left rest n none left_is taken =
    left_is ∙ ap (λ (xs : List (List ℕ)). xs ++ []) (taken ∙ ap (λ (k : ℕ). take (k - 1) left) none)

-- ---- a runtime that was closed

-- if no ask waits, each caller that had to wait was told
all_told : (w : Wiring) (rows : List Row) → IsLegal w rows → all_asks_waiting rows ≡ 0
    → (x : Subject) → count_by (ends_a_wait x) rows ≡ count_by (begins_to_wait x) rows
all_told w rows legal none x =
    let c = AreCounted-legal w rows legal in
    CountsAsks-none rows c.0 x c.1.sum_is c.1.counts (all_asks_waiting-count rows c.0 c.1.counts ∙ none)

-- the rows of a legal history are of items and lanes that exist
rows_there : (w : Wiring) (rows : List Row) → IsWiring w → IsLegal w rows → (n : ℕ) (row : Row) → slice_get rows n ≡ Some row → IsThere w (subject_in row.event)
rows_there w rows wiring legal n row is =
    let before : IsLegal w (take n rows) = IsLegal-prefix w (take n rows) (drop n rows) (subst (λ (rs : List Row). IsLegal w rs) (sym (take-append-drop n rows)) legal) in
    (exist w (take n rows) row.event row.yes row.number wiring before (legal n row is)).0

item_there : (w : Wiring) (event : Event) (kind : Kind) → kind_in event ≡ Some kind → IsThere w (subject_in event) → item_in event < items w
item_there w (AskLane q) kind is there = absurd cc
item_there w (ToldLane q) kind is there = absurd cc
item_there w _ kind is there = there

lane_there : (w : Wiring) (event : Event) (kind : LaneKind) → lane_kind_in event ≡ Some kind → IsThere w (subject_in event) → lane_in event < w.lanes
lane_there w (AskLane q) kind is there = there
lane_there w (ToldLane q) kind is there = there
lane_there w _ kind is there = absurd cc

-- so no row is of an item or a lane that doesn't
count_none : (p : Row → Bool) (rows : List Row) → ((n : ℕ) (row : Row) → slice_get rows n ≡ Some row → p row ≡ false) → count_by p rows ≡ 0
count_none p [] none = refl
count_none p (row ∷ rows) none =
    let one : Row → ℕ = λ r. cond (p r) 1 0 in
    let first : one row ≡ 0 = ap (λ (b : Bool). cond b 1 0) (none 0 row refl) in
    let rest : count_by p rows ≡ 0 = count_none p rows (λ n r is. none (suc n) r is) in
    let both : count_by p (row ∷ rows) ≡ one row + count_by p rows = sum_by-cons one row rows in
    omega (arith, first, rest, both)

tally-none : (w : Wiring) (rows : List Row) (i : ℕ) (kind : Kind) (said : Bool) → IsWiring w → IsLegal w rows → items w ≤ i → tally rows i kind said ≡ 0
tally-none w rows i kind said wiring legal past = count_none (is_of i kind said) rows (λ n row is. false_from_ne_true (is_of i kind said row) (λ hit.
    let parts = is_of-parts row i kind said hit in
    omega (arith, item_there w row.event kind parts.0 (rows_there w rows wiring legal n row is), parts.1, past)))

tally_lane-none : (w : Wiring) (rows : List Row) (q : ℕ) (kind : LaneKind) (said : Bool) → IsWiring w → IsLegal w rows → w.lanes ≤ q → tally_lane rows q kind said ≡ 0
tally_lane-none w rows q kind said wiring legal past = count_none (is_of_lane q kind said) rows (λ n row is. false_from_ne_true (is_of_lane q kind said row) (λ hit.
    let parts = is_of_lane-parts row q kind said hit in
    omega (arith, lane_there w row.event kind parts.0 (rows_there w rows wiring legal n row is), parts.1, past)))

-- two lists with the same sum are the same if nothing in the one is above what is at its place in the other
sum-below : (xs ys : List ℕ) → length xs ≡ length ys → ((p : ℕ) → p < length xs → get_or xs p 0 ≤ get_or ys p 0) → sum xs ≤ sum ys
sum-below [] ys same each = omega arith
sum-below (x ∷ xs) [] same each = absurd (omega (arith, same))
sum-below (x ∷ xs) (y ∷ ys) same each =
    let first : x ≤ y = each 0 (omega arith) in
    let rest = sum-below xs ys (omega (arith, same)) (λ p h. each (suc p) (omega (arith, h))) in
    omega (arith, first, rest, sum_by-cons (λ (n : ℕ). n) x xs, sum_by-cons (λ (n : ℕ). n) y ys)

same_by_sum : (xs ys : List ℕ) → length xs ≡ length ys → ((p : ℕ) → p < length xs → get_or xs p 0 ≤ get_or ys p 0) → sum xs ≡ sum ys → xs ≡ ys
same_by_sum [] [] same each sums = refl
same_by_sum [] (y ∷ ys) same each sums = absurd (omega (arith, same))
same_by_sum (x ∷ xs) [] same each sums = absurd (omega (arith, same))
same_by_sum (x ∷ xs) (y ∷ ys) same each sums =
    let later : (p : ℕ) → p < length xs → get_or xs p 0 ≤ get_or ys p 0 = λ p h. each (suc p) (omega (arith, h)) in
    let below = sum-below xs ys (omega (arith, same)) later in
    let first : x ≤ y = each 0 (omega arith) in
    let cons_x = sum_by-cons (λ (n : ℕ). n) x xs in
    let cons_y = sum_by-cons (λ (n : ℕ). n) y ys in
    let head : x ≡ y = omega (arith, first, below, cons_x, cons_y, sums) in
    let rest = same_by_sum xs ys (omega (arith, same)) later (omega (arith, first, below, cons_x, cons_y, sums)) in
    ap (λ (z : ℕ). z ∷ xs) head ∙ ap (λ (zs : List ℕ). y ∷ zs) rest

-- counts that are right for all items and lanes that exist, and add up to as many as the tallies, are right everywhere
below_counts : (w : Wiring) (book : BookView) (counts tallies : List ℕ) → IsWiring w → IsLegal w book.rows → AreTallies (slots w) book.rows tallies → Agrees w book counts
    → (p : ℕ) → p < counts_each * slots w → get_or tallies p 0 ≤ get_or counts p 0
below_counts w book counts tallies wiring legal tallied right p h = by_place (cases_place (slots w) p h) where
  of_item : (at : IsItemPlace (slots w) p) → (at.item < items w) ⊎ (items w ≤ at.item) → get_or tallies (place at.item at.kind at.said) 0 ≤ get_or counts (place at.item at.kind at.said) 0
  of_item at (inl there) = omega (arith, made-tally (slots w) book.rows tallies tallied at.item at.kind at.said at.within, right.0 at.item at.kind at.said there)
  of_item at (inr past) = omega (arith, made-tally (slots w) book.rows tallies tallied at.item at.kind at.said at.within, tally-none w book.rows at.item at.kind at.said wiring legal past)

  of_lane : (at : IsLanePlace (slots w) p) → (at.lane < w.lanes) ⊎ (w.lanes ≤ at.lane) → get_or tallies (lane_place at.lane at.kind at.said) 0 ≤ get_or counts (lane_place at.lane at.kind at.said) 0
  of_lane at (inl there) = omega (arith, made_lane-tally (slots w) book.rows tallies tallied at.lane at.kind at.said at.within, right.1 at.lane at.kind at.said there)
  of_lane at (inr past) = omega (arith, made_lane-tally (slots w) book.rows tallies tallied at.lane at.kind at.said at.within, tally_lane-none w book.rows at.lane at.kind at.said wiring legal past)

  by_place : IsItemPlace (slots w) p ⊎ IsLanePlace (slots w) p → get_or tallies p 0 ≤ get_or counts p 0
  by_place (inl at) = subst (λ (k : ℕ). get_or tallies k 0 ≤ get_or counts k 0) at.is (of_item at (cases_lt at.item (items w)))
  by_place (inr at) = subst (λ (k : ℕ). get_or tallies k 0 ≤ get_or counts k 0) at.is (of_lane at (cases_lt at.lane w.lanes))

-- counts that add up to as many as the tallies are the tallies exactly if they are right for each item and each lane
agrees_exactly : (w : Wiring) (book : BookView) (counts tallies : List ℕ) (agree : Bool) → IsWiring w → IsLegal w book.rows
    → HasCountsOf (slots w) counts → HasCountsOf (slots w) tallies → AreTallies (slots w) book.rows tallies → sum counts ≡ sum tallies
    → (IsTrue agree ↔ (counts ≡ tallies)) → IsTrue agree ↔ Agrees w book counts
agrees_exactly w book counts tallies agree wiring legal of_counts of_tallies tallied sum_is same = (right, (λ each. same.1 (sym (only each)))) where
  right : IsTrue agree → Agrees w book counts
  right is =
      let mine : AreTallies (slots w) book.rows counts = subst (λ (xs : List ℕ). AreTallies (slots w) book.rows xs) (sym (same.0 is)) tallied in (
        (λ i kind said there. made-tally (slots w) book.rows counts mine i kind said (item_slot w i there)),
        (λ q kind said there. made_lane-tally (slots w) book.rows counts mine q kind said (lane_slot w q there)),
      )

  only : Agrees w book counts → tallies ≡ counts
  only each = same_by_sum tallies counts (omega (arith, of_counts, of_tallies))
      (λ p h. below_counts w book counts tallies wiring legal tallied each p (omega (arith, h, of_tallies))) (sym sum_is)

pub IsClosed-held : (w : Wiring) (rows parts : ℕ) (book : BookView) (tallies empty : List ℕ) (made_seats left amount : ℕ) (seats : List (List ℕ)) (counts : List ℕ) (agree : Bool)
    → IsProtected w rows parts book tallies empty made_seats left amount → IsBook book → ¬ HasUnfinished (state book) → all_asks_waiting book.rows ≡ 0
    → AreGathered (slots w) seats counts (sum tallies) → (IsTrue agree ↔ (counts ≡ tallies))
    → IsClosed w rows seats book counts agree
IsClosed-held w rows parts book tallies _ _ _ _ seats counts agree held is_book idle nobody all_in same = record {
  of_wiring = held.of_wiring;
  of_rows = held.of_rows;
  legal = is_book;
  idle = idle;
  told = λ i. all_told book.wiring book.rows is_book.legal nobody (OfItem i);
  told_lanes = λ q. all_told book.wiring book.rows is_book.legal nobody (OfLane q);
  sums = all_in.sums_are;
  total = all_in.total_is ∙ held.counted;
  agrees = agrees_exactly w book counts tallies agree (subst (λ (x : Wiring). IsWiring x) held.of_wiring is_book.wiring)
      (subst (λ (x : Wiring). IsLegal x book.rows) held.of_wiring is_book.legal) all_in.a_count_each held.a_count_each
      held.tallied all_in.total_is same;
}
