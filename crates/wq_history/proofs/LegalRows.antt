-- What holds for legal histories: prefixes, runs, and the asks that wait.
use Rattle.std.proofs.Common.{◌≡◌, ℕ, zero, suc, ◌+◌, ◌<◌, ◌≤◌, ◌↔◌, Bool, true, false, cond, eqb, List, [], ◌∷◌}
use Rattle.std.proofs.Common.{◌++◌, length, take, get_or, set, append_assoc, refl, sym, ap, subst, ◌∙◌, arith, Option}
use Rattle.std.proofs.Common.{Some, None, slice_get, ◌&&◌}
use Rattle.std.proofs.lemmas.Bool.{eqb-true}
use Rattle.std.specs.List.{count_by, cons_option}
use Rattle.std.proofs.lemmas.List.{append-nil, length-set, take-append-le}
use Rattle.std.proofs.lemmas.List.Sums.{sum_by-set}
use Rattle.std.proofs.lemmas.Option.{slice_get_within}
use Rattle.wq_history.proofs.Words.{Step, Wiring, items, empty_state, IsSoundState, Event, Row, Subject, OfItem, OfLane}
use Rattle.wq_history.proofs.Words.{step_of, steps_of, begins_to_wait, ends_a_wait, is_ask, is_told, state_after}
use Rattle.wq_history.proofs.Words.{asks_waiting, all_asks_waiting, IsThere, MayCome, MayFollow, IsLegal, AskView}
use Rattle.wq_history.proofs.Words.{AreCounted, ask_place, counted, subject_in, Lawful, effect, State, Machine}
use Rattle.wq_history.proofs.Words.{max_rows, Replays, stepped}
use Rattle.wq_core.specs.Runs.{IsRun}
use Rattle.wq_core.proofs.RunLemmas.{IsRunFrom-more, next-effect}
use Rattle.wq_core.proofs.Sound.{IsSoundState-end_of}
use Rattle.wq_rows.specs.declared.event.Event.TheVariants.{Ask, Told, AskLane, ToldLane}
use Rattle.wq_history.proofs.Histories.{steps_of-more, state_after-step, state_after-none, IsLegal-more, MayCome-lawful}
use Rattle.wq_history.proofs.Counting.{count-more, CountsAsks-same, CountsAsks-at, asks_waiting-count}
use Rattle.wq_history.proofs.Counting.{all_asks_waiting-count, within-some, count-at_most}
use Rattle.wq_history.proofs.Holding.{IsMachine-after, length-more, asks-first}

-- ---- prefixes

-- what is at a place in a list is there in a longer one
stands : {X : Type 0} (xs ys : List X) (n : ℕ) (x : X) → slice_get xs n ≡ Some x → slice_get (xs ++ ys) n ≡ Some x
stands [] ys n x at = absurd cc
stands (z ∷ xs) ys zero x at = at
stands (z ∷ xs) ys (suc n) x at = stands xs ys n x at

pub IsLegal-prefix : (w : Wiring) (rows more : List Row) → IsLegal w (rows ++ more) → IsLegal w rows
IsLegal-prefix w rows more legal n row at =
    let below : n < length rows = slice_get_within rows n row at in
    subst (λ (rs : List Row). MayFollow w rs row) (take-append-le n rows more (omega (arith, below))) (legal n row (stands rows more n row at))

-- the element after a list, and what comes before it
behind : {X : Type 0} (xs : List X) (x : X) → (slice_get (xs ++ (x ∷ [])) (length xs) ≡ Some x) × (take (length xs) (xs ++ (x ∷ [])) ≡ xs)
behind [] x = (refl, refl)
behind {X} (z ∷ xs) x = let rest = behind xs x in (rest.0, ap (λ (ys : List X). z ∷ ys) rest.1)

pub IsLegal-last : (w : Wiring) (rows : List Row) (row : Row) → IsLegal w (rows ++ (row ∷ [])) → MayFollow w rows row
IsLegal-last w rows row legal = let at = behind rows row in subst (λ (rs : List Row). MayFollow w rs row) at.1 (legal (length rows) row at.0)

pub IsLegal-last_exactly : (w : Wiring) (rows : List Row) (row : Row) → IsLegal w (rows ++ (row ∷ [])) ↔ (IsLegal w rows × MayFollow w rows row)
IsLegal-last_exactly w rows row = (
  (λ legal. (IsLegal-prefix w rows (row ∷ []) legal, IsLegal-last w rows row legal)),
  (λ both. IsLegal-more w rows row both.0 both.1),
)

-- ---- what one more row preserves holds for all rows

from_front : {X : Type 0} (P : List X → Type 0) → ((xs : List X) (x : X) → P xs → P (xs ++ (x ∷ []))) → (xs ys : List X) → P xs → P (xs ++ ys)
from_front P step xs [] holds = subst P (sym (append-nil xs)) holds
from_front P step xs (y ∷ ys) holds = subst P (append_assoc xs (y ∷ []) ys) (from_front P step (xs ++ (y ∷ [])) ys (step xs y holds))

-- ---- runs

-- while rows are legal, their steps are a run
abbrev GivesRun : Wiring → List Row → Type 0
GivesRun w rows = IsLegal w rows → IsRun w (steps_of rows)

one_more_step : (w : Wiring) (rows : List Row) (row : Row) → GivesRun w rows → GivesRun w (rows ++ (row ∷ []))
one_more_step w rows row before legal =
    subst (IsRun w) (sym (steps_of-more rows row)) (by_step (step_of row.event row.yes) refl)
  where
    run : IsRun w (steps_of rows)
    run = before (IsLegal-prefix w rows (row ∷ []) legal)

    by_step : (o : Option Step) → step_of row.event row.yes ≡ o → IsRun w (steps_of rows ++ cons_option o [])
    by_step None makes = subst (IsRun w) (sym (append-nil (steps_of rows))) run
    by_step (Some step) makes =
        IsRunFrom-more w (empty_state w) (steps_of rows) step run (MayCome-lawful w rows row.event row.yes row.number step (IsLegal-last w rows row legal) makes)

pub IsRun-legal : (w : Wiring) (rows : List Row) → IsLegal w rows → IsRun w (steps_of rows)
IsRun-legal w rows legal = from_front (GivesRun w) (λ xs x before. one_more_step w xs x before) [] rows (λ none. tt) legal

pub IsSoundState-legal : (w : Wiring) (rows : List Row) → IsLegal w rows → IsSoundState w (state_after w rows)
IsSoundState-legal w rows legal = IsSoundState-end_of w (steps_of rows) (IsRun-legal w rows legal)

-- ---- what was asked about exists

and-left : (a b : Bool) → (a && b) ≡ true → a ≡ true
and-left true b both = refl
and-left false b both = absurd cc

-- an ask that begins to wait is about an item or a lane that exists
begins-there : (w : Wiring) (rows : List Row) (x : Subject) (event : Event) (said : Bool) (n : ℕ) → MayCome w rows event said n
    → begins_to_wait x (record { event = event; yes = said; number = n }) ≡ true → IsThere w x
begins-there w rows (OfItem j) (Ask i) said n may is =
    subst (λ k. k < items w) (eqb-true i j (and-left (eqb i j) said is)) may.0
begins-there w rows (OfLane q) (AskLane p) said n may is =
    subst (λ k. k < w.lanes) (eqb-true p q (and-left (eqb p q) said is)) may.0
begins-there w rows x _ said n may is = absurd cc

-- while rows are legal, what was asked about with yes exists
abbrev AsksThere : Wiring → List Row → Type 0
AsksThere w rows = IsLegal w rows → (x : Subject) → 0 < count_by (begins_to_wait x) rows → IsThere w x

one_more_ask : (w : Wiring) (rows : List Row) (row : Row) → AsksThere w rows → AsksThere w (rows ++ (row ∷ []))
one_more_ask w rows row before legal x some = by_row (begins_to_wait x row) refl where
  by_row : (b : Bool) → begins_to_wait x row ≡ b → IsThere w x
  by_row true is = begins-there w rows x row.event row.yes row.number (IsLegal-last w rows row legal) is
  by_row false is =
      let same = count-more (begins_to_wait x) rows row ∙ ap (λ b. count_by (begins_to_wait x) rows + cond b 1 0) is in
      before (IsLegal-prefix w rows (row ∷ []) legal) x (omega (arith, some, same))

-- an item or a lane about which an ask waits exists
pub asked-there : (w : Wiring) (rows : List Row) (x : Subject) → IsLegal w rows → 0 < asks_waiting x rows → IsThere w x
asked-there w rows x legal some =
    from_front (AsksThere w) (λ xs row before. one_more_ask w xs row before) [] rows (λ none y never. absurd (omega (arith, never))) legal x (omega (arith, some))

-- ---- asks that wait

abbrev GivesCounts : Wiring → List Row → Type 0
GivesCounts w rows = IsLegal w rows → (asks : AskView) × AreCounted w rows asks

pub AreCounted-more : (w : Wiring) (rows : List Row) (asks : AskView) (row : Row) → AreCounted w rows asks
    → MayFollow w rows row → AreCounted w (rows ++ (row ∷ [])) (counted asks row.event row.yes)
AreCounted-more w rows asks row old may = by_event row.event row.yes row.number may where
  -- the row changes nothing
  same : (r : Row) → is_told r.event ≡ false → (is_ask r.event && r.yes) ≡ false → AreCounted w (rows ++ (r ∷ [])) asks
  same r told asked = record {
    each = old.each;
    sum_is = old.sum_is;
    counts = CountsAsks-same rows r asks asks old.counts (rw (told, asked) refl) refl told asked;
  }

  -- the count of what the row is about is replaced by this one
  replaced : (r : Row) (k all : ℕ) → ask_place (subject_in r.event) < length asks.counts
      → k + cond (is_told r.event) 1 0
      ≡ get_or asks.counts (ask_place (subject_in r.event)) 0 + cond (is_ask r.event && r.yes) 1 0
      → all + cond (is_told r.event) 1 0 ≡ asks.all + cond (is_ask r.event && r.yes) 1 0
      → AreCounted w (rows ++ (r ∷ []))
      (record { counts = set asks.counts (ask_place (subject_in r.event)) k; all = all })
  replaced r k all within k_is all_is =
      let place : ℕ = ask_place (subject_in r.event) in
      record {
        each = λ y there. rw (length-set asks.counts place k) (old.each y there);
        sum_is = omega (arith, sum_by-set (λ (n : ℕ). n) asks.counts place k 0 within, old.sum_is, k_is, all_is);
        counts = CountsAsks-at rows r asks _ old.counts all_is k within refl k_is;
      }

  told : (x : Subject) → 0 < asks_waiting x rows
      → (0 < get_or asks.counts (ask_place x) 0) × (ask_place x < length asks.counts) × (0 < asks.all)
  told x waiting =
      let some : 0 < get_or asks.counts (ask_place x) 0 =
      omega (arith, waiting, asks_waiting-count rows asks x old.counts) in (
        some,
        within-some asks.counts (ask_place x) some,
        omega (arith, some, count-at_most asks x old.sum_is),
      )

  by_event : (event : Event) (said : Bool) (n : ℕ) → MayCome w rows event said n
      → AreCounted w (rows ++ (record { event = event; yes = said; number = n } ∷ [])) (counted asks event said)
  by_event (Ask i) true n may = replaced _ _ _ (old.each (OfItem i) may.0) (omega arith) (omega arith)
  by_event (AskLane q) true n may = replaced _ _ _ (old.each (OfLane q) may.0) (omega arith) (omega arith)
  by_event (Told i) said n may =
      let some = told (OfItem i) may.1 in
      replaced _ _ _ some.1 (omega (arith, some.0)) (omega (arith, some.2))
  by_event (ToldLane q) said n may =
      let some = told (OfLane q) may.1 in
      replaced _ _ _ some.1 (omega (arith, some.0)) (omega (arith, some.2))
  by_event event said n may = same _ refl refl

-- a step is of nobody who asks or is told
pub counted-step : (asks : AskView) (event : Event) (said : Bool) (step : Step) → step_of event said ≡ Some step
    → counted asks event said ≡ asks
counted-step asks (Ask i) said step makes = absurd cc
counted-step asks (Told i) said step makes = absurd cc
counted-step asks (AskLane q) said step makes = absurd cc
counted-step asks (ToldLane q) said step makes = absurd cc
counted-step asks _ said step makes = refl

-- the replay of one more row
pub Replays-follow : (m : Machine) (rows : List Row) (asks : AskView) (row : Row) → Replays m rows asks
    → MayFollow m.wiring rows row → length rows < max_rows
    → Replays (stepped m (step_of row.event row.yes)) (rows ++ (row ∷ [])) (counted asks row.event row.yes)
Replays-follow m rows asks row replays may few = by_step (step_of row.event row.yes) refl where
  by_step : (o : Option Step) → step_of row.event row.yes ≡ o
      → Replays (stepped m o) (rows ++ (row ∷ [])) (counted asks row.event row.yes)
  by_step None none = record {
    machine_is = replays.machine_is;
    replay = replays.replay ∙ sym (state_after-none m.wiring rows row none);
    legal = IsLegal-more m.wiring rows row replays.legal may;
    asked = AreCounted-more m.wiring rows asks row replays.asked may;
    numbers = omega (arith, length-more rows row, replays.numbers);
  }
  by_step (Some step) makes =
      let lawful : Lawful m.wiring m.state step =
      subst (λ (s : State). Lawful m.wiring s step) (sym replays.replay)
      (MayCome-lawful m.wiring rows row.event row.yes row.number step may makes) in
      record {
        machine_is = IsMachine-after m step replays.machine_is lawful (omega (arith, replays.numbers, few));
        replay =
            ap (λ (s : State). effect m.wiring s step) replays.replay
            ∙ sym (state_after-step m.wiring rows row step makes);
        legal = IsLegal-more m.wiring rows row replays.legal may;
        asked = AreCounted-more m.wiring rows asks row replays.asked may;
        numbers = omega (arith, length-more rows row, replays.numbers, next-effect m.wiring m.state step);
      }

one_more_count : (w : Wiring) (rows : List Row) (row : Row) → GivesCounts w rows → GivesCounts w (rows ++ (row ∷ []))
one_more_count w rows row before legal =
    let old = before (IsLegal-prefix w rows (row ∷ []) legal) in
    (counted old.0 row.event row.yes, AreCounted-more w rows old.0 row old.1 (IsLegal-last w rows row legal))

pub AreCounted-legal : (w : Wiring) (rows : List Row) → GivesCounts w rows
AreCounted-legal w rows legal =
    from_front (GivesCounts w) (λ xs x before. one_more_count w xs x before) [] rows
    (λ none. (_, asks-first w _ refl)) legal

-- if an ask about an item or a lane waits, at least one waits in all
pub some-wait : (w : Wiring) (rows : List Row) (x : Subject) → IsLegal w rows → 0 < asks_waiting x rows → 0 < all_asks_waiting rows
some-wait w rows x legal some =
    let c = AreCounted-legal w rows legal in
    omega (
      arith,
      some,
      asks_waiting-count rows c.0 x c.1.counts,
      count-at_most c.0 x c.1.sum_is,
      all_asks_waiting-count rows c.0 c.1.counts,
    )

pub told-asked : (w : Wiring) (rows : List Row) (x : Subject) → IsLegal w rows → count_by (ends_a_wait x) rows ≤ count_by (begins_to_wait x) rows
told-asked w rows x legal = let c = AreCounted-legal w rows legal in omega (arith, c.1.counts.each x)

pub told-asked_all : (w : Wiring) (rows : List Row) → IsLegal w rows
    → count_by (λ (row : Row). is_told row.event) rows ≤ count_by (λ (row : Row). is_ask row.event && row.yes) rows
told-asked_all w rows legal = let c = AreCounted-legal w rows legal in omega (arith, c.1.counts.in_all)
