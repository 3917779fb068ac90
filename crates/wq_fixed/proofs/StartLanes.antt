-- The lanes of the start, and for each of them the lane of any workqueues that keep the fixed ones.
use Rattle.std.proofs.Common.{◌≡◌, ℕ, zero, suc, ◌+◌, ◌<◌, ◌≤◌, false, cond, ltb, List, [], ◌∷◌, ◌++◌, length, get_or}
use Rattle.std.proofs.Common.{Option, Some, None, refl, ap, ◌∙◌, arith}
use Rattle.std.specs.Prelude.{slice_get}
use Rattle.std.specs.List.{count_by}
use Rattle.std.proofs.lemmas.Bool.{lt-ltb, le-ltb, ltb-true, cond_both, cond-true, cond-false}
use Rattle.std.proofs.lemmas.List.Recursion.{is_count_by}
use Rattle.wq_fixed.specs.Fixed.{start_lanes, has_none}

-- how many of these have no lane, by recursion
abbrev pub count_free : List (Option ℕ) → ℕ
count_free [] = 0
count_free (None ∷ lanes) = 1 + count_free lanes
count_free (Some q ∷ lanes) = count_free lanes

count_free-step : (lane : Option ℕ) (lanes : List (Option ℕ))
    → count_free (lane ∷ lanes) ≡ cond (has_none lane) (1 + count_free lanes) (count_free lanes)
count_free-step None lanes = refl
count_free-step (Some q) lanes = refl

pub count_free-is : (lanes : List (Option ℕ)) → count_free lanes ≡ count_by has_none lanes
count_free-is = is_count_by count_free has_none refl count_free-step

pub length-start_lanes : (next : ℕ) (lanes : List (Option ℕ)) → length (start_lanes next lanes) ≡ length lanes
length-start_lanes next [] = refl
length-start_lanes next (None ∷ lanes) = ap suc (length-start_lanes (next + 1) lanes)
length-start_lanes next (Some q ∷ lanes) = ap suc (length-start_lanes next lanes)

-- ---- one group more

pub start_lanes-stays : (next : ℕ) (lanes : List (Option ℕ)) (q : ℕ)
    → start_lanes next (lanes ++ (Some q ∷ [])) ≡ start_lanes next lanes ++ (q ∷ [])
start_lanes-stays next [] q = refl
start_lanes-stays next (None ∷ lanes) q = ap (λ (l : List ℕ). next ∷ l) (start_lanes-stays (next + 1) lanes q)
start_lanes-stays next (Some r ∷ lanes) q = ap (λ (l : List ℕ). r ∷ l) (start_lanes-stays next lanes q)

pub start_lanes-free : (next : ℕ) (lanes : List (Option ℕ))
    → start_lanes next (lanes ++ (None ∷ [])) ≡ start_lanes next lanes ++ ((next + count_free lanes) ∷ [])
start_lanes-free next [] = let e : next ≡ next + 0 = omega arith in ap (λ (n : ℕ). n ∷ []) e
start_lanes-free next (None ∷ lanes) =
    let e : (next + 1) + count_free lanes ≡ next + (1 + count_free lanes) = omega arith in
    ap (λ (l : List ℕ). next ∷ l) (start_lanes-free (next + 1) lanes)
    ∙ ap (λ (n : ℕ). next ∷ (start_lanes (next + 1) lanes ++ (n ∷ []))) e
start_lanes-free next (Some r ∷ lanes) = ap (λ (l : List ℕ). r ∷ l) (start_lanes-free next lanes)

pub count_free-stays : (lanes : List (Option ℕ)) (q : ℕ) → count_free (lanes ++ (Some q ∷ [])) ≡ count_free lanes
count_free-stays [] q = refl
count_free-stays (None ∷ lanes) q = ap (λ (n : ℕ). 1 + n) (count_free-stays lanes q)
count_free-stays (Some r ∷ lanes) q = count_free-stays lanes q

pub count_free-free : (lanes : List (Option ℕ)) → count_free (lanes ++ (None ∷ [])) ≡ 1 + count_free lanes
count_free-free [] = refl
count_free-free (None ∷ lanes) = ap (λ (n : ℕ). 1 + n) (count_free-free lanes)
count_free-free (Some r ∷ lanes) = count_free-free lanes

-- a group that stays is where it stays
pub start-stays : (next : ℕ) (lanes : List (Option ℕ)) (g q : ℕ) → slice_get lanes g ≡ Some (Some q)
    → get_or (start_lanes next lanes) g 0 ≡ q
start-stays next [] g q at = absurd (cc)
start-stays next (None ∷ lanes) zero q at = absurd (cc)
start-stays next (None ∷ lanes) (suc g) q at = start-stays (next + 1) lanes g q at
start-stays next (Some r ∷ lanes) zero q at = cc
start-stays next (Some r ∷ lanes) (suc g) q at = start-stays next lanes g q at

-- a free group has a lane from `next` on, below the number behind the last one
pub start-free : (next : ℕ) (lanes : List (Option ℕ)) (g : ℕ) → slice_get lanes g ≡ Some None
    → (next ≤ get_or (start_lanes next lanes) g 0) × (get_or (start_lanes next lanes) g 0 < next + count_free lanes)
start-free next [] g free = absurd (cc)
start-free next (None ∷ lanes) zero free =
    let low : next ≤ next = omega arith in
    let high : next < next + (1 + count_free lanes) = omega arith in (low, high)
start-free next (None ∷ lanes) (suc g) free =
    let rest = start-free (next + 1) lanes g free in
    let low : next + 1 ≤ get_or (start_lanes (next + 1) lanes) g 0 = rest.0 in
    let high : get_or (start_lanes (next + 1) lanes) g 0 < (next + 1) + count_free lanes = rest.1 in
    let from : next ≤ get_or (start_lanes (next + 1) lanes) g 0 = omega (arith, low) in
    let below : get_or (start_lanes (next + 1) lanes) g 0 < next + (1 + count_free lanes) = omega (arith, high) in
    (from, below)
start-free next (Some r ∷ lanes) zero free = absurd (cc)
start-free next (Some r ∷ lanes) (suc g) free = start-free next lanes g free

-- of a new lane of the start the lane in `ls` of the group that has it, where `ls` has the lane of each group
abbrev pub lane_for : ℕ → List (Option ℕ) → List ℕ → ℕ → ℕ
lane_for next [] ls q = 0
lane_for next (lane ∷ lanes) [] q = 0
lane_for next (Some s ∷ lanes) (l ∷ ls) q = lane_for next lanes ls q
lane_for next (None ∷ lanes) (l ∷ ls) q = cond (ltb next q) (lane_for (next + 1) lanes ls q) l

ltb-same : (n : ℕ) → ltb n n ≡ false
ltb-same n = le-ltb n n (omega arith)

pub lane_for-free : (next : ℕ) (lanes : List (Option ℕ)) (ls : List ℕ) (g : ℕ) → length ls ≡ length lanes
    → slice_get lanes g ≡ Some None
    → lane_for next lanes ls (get_or (start_lanes next lanes) g 0) ≡ get_or ls g 0
lane_for-free next [] ls g same free = absurd (cc)
lane_for-free next (lane ∷ lanes) [] g same free = omega arith
lane_for-free next (Some s ∷ lanes) (l ∷ ls) zero same free = absurd (cc)
lane_for-free next (Some s ∷ lanes) (l ∷ ls) (suc g) same free = lane_for-free next lanes ls g (omega arith) free
lane_for-free next (None ∷ lanes) (l ∷ ls) zero same free = cond-false (ltb next next)
    (lane_for (next + 1) lanes ls next) l (ltb-same next)
lane_for-free next (None ∷ lanes) (l ∷ ls) (suc g) same free =
    let above = start-free (next + 1) lanes g free in
    let low : next + 1 ≤ get_or (start_lanes (next + 1) lanes) g 0 = above.0 in
    cond-true (ltb next (get_or (start_lanes (next + 1) lanes) g 0))
    (lane_for (next + 1) lanes ls (get_or (start_lanes (next + 1) lanes) g 0)) l
    (lt-ltb next (get_or (start_lanes (next + 1) lanes) g 0) (omega arith))
    ∙ lane_for-free (next + 1) lanes ls g (omega arith) free

-- such a lane is from `least` on, and below `most`, if that of each free group is
pub lane_for-within : (next : ℕ) (lanes : List (Option ℕ)) (ls : List ℕ) (q least most : ℕ) → length ls ≡ length lanes
    → next ≤ q → q < next + count_free lanes
    → ((g : ℕ) → slice_get lanes g ≡ Some None → (least ≤ get_or ls g 0) × (get_or ls g 0 < most))
    → (least ≤ lane_for next lanes ls q) × (lane_for next lanes ls q < most)
lane_for-within next [] ls q least most same from to each =
    let none : q < next + 0 = to in absurd (omega (arith, from, none))
lane_for-within next (lane ∷ lanes) [] q least most same from to each = omega arith
lane_for-within next (Some s ∷ lanes) (l ∷ ls) q least most same from to each =
    lane_for-within next lanes ls q least most (omega arith) from to (λ g free. each (suc g) free)
lane_for-within next (None ∷ lanes) (l ∷ ls) q least most same from to each =
    let below : q < next + (1 + count_free lanes) = to in
    cond_both (ltb next q) (lane_for (next + 1) lanes ls q) l (λ n. (least ≤ n) × (n < most))
    (λ e. lane_for-within (next + 1) lanes ls q least most (omega arith)
    (let more : next < q = ltb-true next q e in omega (arith, more)) (omega (arith, below))
    (λ g free. each (suc g) free))
    (λ e. each 0 refl)
