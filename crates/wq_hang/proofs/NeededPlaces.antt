-- Marks of the places of unsure flushes, and these places.
use Rattle.std.proofs.Common.{◌≡◌, ◌↔◌, ℕ, zero, suc, ◌+◌, ◌<◌, ◌≤◌, Bool, true, false, cond, List, [], ◌∷◌, ◌++◌}
use Rattle.std.proofs.Common.{length, map, get_or, refl, sym, ap, subst, ◌∙◌, arith, append-nil}
use Rattle.std.specs.Prelude.{Contains, filter, ◌||◌}
use Rattle.std.specs.List.{list_any, range_with_len}
use Rattle.std.specs.List.Sorted.{IsStrictlyIncreasing}
use Rattle.std.proofs.lemmas.List.Elements.{All-contains, filter-append}
use Rattle.std.proofs.lemmas.List.FromFn.{length-range_with_len}
use Rattle.std.proofs.lemmas.List.Kept.{IsStrictlyIncreasing-filter}
use Rattle.wq_items.specs.Table.{max_flushes}
use Rattle.wq_items.specs.Readings.{is_among}
use Rattle.wq_items.proofs.Lists.{range_with_len-below}
use Rattle.wq_items.proofs.PlaceLemmas.{IsStrictlyIncreasing-range_with_len}
use Rattle.wq_items.proofs.TableLemmas.{range_with_len-push}
use Rattle.wq_hang.specs.declared.hop.Hop.{Hop}
use Rattle.wq_hang.specs.Walk.{unsure_hops, those_below, needs}
use Rattle.wq_hang.proofs.Apart.{In, In-Contains, Contains-In, Apart-within, Apart-filter, Apart-range, filter-In}
use Rattle.wq_hang.proofs.Apart.{among-In, In-needed}
use Rattle.wq_hang.proofs.Fewest.{unsure_at, unsure_at-from, unsure_at-has, needs-those}

-- ---- those of the numbers below n that are marked

-- the numbers below n that are marked
abbrev pub marked_below : ℕ → List Bool → List ℕ
marked_below n marks = filter (λ p. get_or marks p false) (range_with_len 0 n)

marked-push : (n : ℕ) (marks : List Bool)
    → marked_below (n + 1) marks ≡ marked_below n marks ++ cond (get_or marks n false) (n ∷ []) []
marked-push n marks =
    ap (filter (λ p. get_or marks p false)) (range_with_len-push n)
    ∙ filter-append (λ p. get_or marks p false) (range_with_len 0 n) (n ∷ [])

pub marked-more : (n : ℕ) (marks : List Bool) → get_or marks n false ≡ true
    → marked_below n marks ++ (n ∷ []) ≡ marked_below (n + 1) marks
marked-more n marks is =
    sym (marked-push n marks ∙ ap (λ (b : Bool). marked_below n marks ++ cond b (n ∷ []) []) is)

pub marked-same : (n : ℕ) (marks : List Bool) → get_or marks n false ≡ false
    → marked_below n marks ≡ marked_below (n + 1) marks
marked-same n marks is =
    sym (marked-push n marks ∙ ap (λ (b : Bool). marked_below n marks ++ cond b (n ∷ []) []) is
    ∙ append-nil (marked_below n marks))

filter-range : (p q : ℕ → Bool) (a n : ℕ) → ((k : ℕ) → a ≤ k → k < a + n → p k ≡ q k)
    → filter p (range_with_len a n) ≡ filter q (range_with_len a n)
filter-range p q a zero same = refl
filter-range p q a (suc n) same =
    ap (λ (b : Bool). cond b (a ∷ filter p (range_with_len (a + 1) n)) (filter p (range_with_len (a + 1) n)))
    (same a (omega arith) (omega arith))
    ∙ ap (λ (l : List ℕ). cond (q a) (a ∷ l) l)
    (filter-range p q (a + 1) n (λ k low high. same k (omega arith) (omega arith)))

-- ---- what is needed

pub needs-marked : (hops : List Hop) (marks : List Bool) → length marks ≡ max_flushes
    → ((p : ℕ) → p < length marks → get_or marks p false ≡ is_among (unsure_at hops) p)
    → marked_below (length marks) marks ≡ needs hops
needs-marked hops marks size are =
    filter-range (λ p. get_or marks p false) (is_among (unsure_at hops)) 0 (length marks)
    (λ k low high. are k (omega arith))
    ∙ sym (needs-those (length marks) hops size)

among_none : (n a : ℕ) → filter (is_among []) (range_with_len a n) ≡ []
among_none zero a = refl
among_none (suc n) a = among_none n (a + 1)

none_unsure : (hops : List Hop) → list_any (λ (h : Hop). h.flush.unsure) hops ≡ false → unsure_hops hops ≡ []
none_unsure [] none = refl
none_unsure (h ∷ hops) none = by h.flush.unsure none
    (λ (rest : list_any (λ (g : Hop). g.flush.unsure) hops ≡ false). none_unsure hops rest)
  where
    by : (u : Bool) → (u || list_any (λ (g : Hop). g.flush.unsure) hops) ≡ false
        → (list_any (λ (g : Hop). g.flush.unsure) hops ≡ false → unsure_hops hops ≡ [])
        → cond u (h ∷ unsure_hops hops) (unsure_hops hops) ≡ []
    by true is rest = absurd cc
    by false is rest = rest is

needs-empty : (n : ℕ) (hops : List Hop) → n ≡ max_flushes → unsure_hops hops ≡ [] → needs hops ≡ []
needs-empty n hops same none =
    needs-those n hops same
    ∙ ap (λ (l : List Hop). those_below n (map (λ (h : Hop). h.flush.place) l)) none
    ∙ among_none n 0

pub needs-none : (hops : List Hop) → list_any (λ (h : Hop). h.flush.unsure) hops ≡ false → needs hops ≡ []
needs-none hops none = needs-empty max_flushes hops refl (none_unsure hops none)

-- ---- what the needed places are

needs-rise : (n : ℕ) (hops : List Hop) → n ≡ max_flushes → IsStrictlyIncreasing (needs hops)
needs-rise n hops same =
    subst IsStrictlyIncreasing (sym (needs-those n hops same))
    (IsStrictlyIncreasing-filter (is_among (unsure_at hops)) (range_with_len 0 n)
    (IsStrictlyIncreasing-range_with_len 0 n))

pub needs_rise : (hops : List Hop) → IsStrictlyIncreasing (needs hops)
needs_rise hops = needs-rise max_flushes hops refl

needs-few : (n : ℕ) (hops : List Hop) → n ≡ max_flushes → length (needs hops) ≤ n
needs-few n hops same =
    let test : ℕ → Bool = is_among (unsure_at hops) in
    let all : List ℕ = range_with_len 0 n in
    let few : length (filter test all) ≤ length all = Apart-within (filter test all) all
    (Apart-filter test all (Apart-range 0 n)) (λ p there. (filter-In test p all there).0) in
    omega (arith, few, length-range_with_len 0 n, ap (λ (l : List ℕ). length l) (needs-those n hops same))

pub needs_few : (hops : List Hop) → length (needs hops) ≤ max_flushes
needs_few hops = needs-few max_flushes hops refl

-- a hop waits by the unsure flush at this place, which is below n
abbrev IsNeeded : ℕ → List Hop → ℕ → Type 0
IsNeeded n hops p = (p < n) × ((h : Hop) × Contains hops h × (h.flush.unsure ≡ true) × (h.flush.place ≡ p))

needs-each : (n : ℕ) (hops : List Hop) → n ≡ max_flushes → (p : ℕ) → Contains (needs hops) p ↔ IsNeeded n hops p
needs-each n hops same p = (there, back)
  where
    those : needs hops ≡ filter (is_among (unsure_at hops)) (range_with_len 0 n)
    those = needs-those n hops same

    there : Contains (needs hops) p → IsNeeded n hops p
    there at =
        let kept = filter-In (is_among (unsure_at hops)) p (range_with_len 0 n)
        (subst (In p) those (In-Contains p (needs hops) at)) in
        let low : p < n = All-contains (λ q. q < n) (range_with_len 0 n) p (range_with_len-below n)
        (Contains-In p (range_with_len 0 n) kept.0) in
        let h = unsure_at-from hops p (among-In p (unsure_at hops) kept.1) in
        (low, (h.0, h.1, h.3, h.2))

    back : IsNeeded n hops p → Contains (needs hops) p
    back (low, (h, at, unsure, place)) =
        let here : In p (unsure_at hops) =
        subst (λ (q : ℕ). In q (unsure_at hops)) place (unsure_at-has hops h at unsure) in
        Contains-In p (needs hops) (subst (In p) (sym those) (In-needed n (unsure_at hops) p here low))

pub needs_each : (hops : List Hop) (p : ℕ) → Contains (needs hops) p ↔ IsNeeded max_flushes hops p
needs_each hops p = needs-each max_flushes hops refl p
