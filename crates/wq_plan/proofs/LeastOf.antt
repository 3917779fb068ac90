-- Laws of the least of some numbers, and of the first element that has it.
use Rattle.std.proofs.Common.{◌≡◌, ℕ, ◌+◌, ◌<◌, ◌≤◌, ◌==◌, ◌⊎◌, inl, inr, Bool, true, false, cond, List, []}
use Rattle.std.proofs.Common.{◌∷◌, ◌++◌, length, map, get_or, take, find, Option, Some, None, refl, sym, ap, subst, ◌∙◌}
use Rattle.std.proofs.Common.{eq-eqb, arith}
use Rattle.std.specs.Prelude.{min, filter, fold, Contains, MatchOption}
use Rattle.std.specs.List.{range_with_len}
use Rattle.std.specs.Option.{option_or}
use Rattle.std.proofs.lemmas.Bool.{cases_lt, ne_eqb}
use Rattle.std.proofs.lemmas.List.{map-id, map_push, length_push, append-nil}
use Rattle.std.proofs.lemmas.List.Elements.{filter-append, filter_more}
use Rattle.std.proofs.lemmas.List.Folds.{find-append}
use Rattle.std.proofs.lemmas.List.FromFn.{map-range_with_len_more}
use Rattle.std.proofs.lemmas.List.Sums.{fold_push}
use Rattle.wq_items.proofs.Lists.{Contains-later}
use Rattle.wq_graph.proofs.ListLemmas.{Contains-cases, Contains-map, Contains-from_map}
use Rattle.wq_plan.specs.Plan.{least_of}

-- ---- the least from a number on

least_from-start : (n : ℕ) (ns : List ℕ) → fold min n ns ≤ n
least_from-start n [] = omega arith
least_from-start n (m ∷ ns) = let rest : fold min (min n m) ns ≤ min n m = least_from-start (min n m) ns in omega arith

least_from-le : (n : ℕ) (ns : List ℕ) (m : ℕ) → Contains ns m → fold min n ns ≤ m
least_from-le n [] m there = absurd (omega (arith, there.1))
least_from-le n (k ∷ ns) m there = elim (Contains-cases k ns m there) [
  | inl here ↦ let rest : fold min (min n k) ns ≤ min n k = least_from-start (min n k) ns in omega arith
  | inr later ↦ least_from-le (min n k) ns m later
]

least_from-some : (n : ℕ) (ns : List ℕ) → (fold min n ns ≡ n) ⊎ Contains ns (fold min n ns)
least_from-some n [] = inl refl
least_from-some n (m ∷ ns) = elim (least_from-some (min n m) ns) [
  | inl same ↦ elim (cases_lt m n) [
    | inl less ↦ let is : m ≡ fold min (min n m) ns = omega arith in inr (0, omega arith, is)
    | inr most ↦ inl (omega arith)
  ]
  | inr later ↦ inr (Contains-later m ns (fold min (min n m) ns) later)
]

-- ---- the least

least_of-le : (ns : List ℕ) (m : ℕ) → Contains ns m → least_of ns ≤ m
least_of-le [] m there = absurd (omega (arith, there.1))
least_of-le (n ∷ ns) m there = elim (Contains-cases n ns m there) [
  | inl here ↦ let rest : fold min n ns ≤ n = least_from-start n ns in omega arith
  | inr later ↦ least_from-le n ns m later
]

least_of-some : (n : ℕ) (ns : List ℕ) → Contains (n ∷ ns) (fold min n ns)
least_of-some n ns = elim (least_from-some n ns) [
  | inl same ↦ (0, omega arith, sym same)
  | inr later ↦ Contains-later n ns (fold min n ns) later
]

-- those of the first n numbers that pass, one more
pub range-more : (p : ℕ → Bool) (n : ℕ) → filter p (range_with_len 0 (n + 1)) ≡ filter p (range_with_len 0 n) ++ cond
    (p n) (n ∷ []) []
range-more p n =
    let all = λ (m : ℕ). map-id (range_with_len 0 m) in
    let more : range_with_len 0 (n + 1) ≡ range_with_len 0 n ++ (n ∷ []) =
    sym (all (n + 1)) ∙ map-range_with_len_more (λ (k : ℕ). k) 0 n n (omega arith) ∙ ap (λ (l : List ℕ). l ++ (n ∷ []))
    (all n) in
    ap (filter p) more ∙ filter-append p (range_with_len 0 n) (n ∷ [])

-- nothing is found if nothing passes
find-none : {X : Type 0} (test : X → Bool) (xs : List X) → ((x : X) → Contains xs x → test x ≡ false) → find test xs
    ≡ None
find-none test [] fails = refl
find-none test (x ∷ xs) fails =
    rw (fails x (0, omega arith, refl)) (find-none test xs (λ y there. fails y (Contains-later x xs y there)))

module _ {X : Type 0} (f : X → ℕ) where
  -- the least number that one of these has
  abbrev pub least_by : List X → ℕ
  least_by xs = least_of (map f xs)

  pub least_by-le : (xs : List X) (x : X) → Contains xs x → least_by xs ≤ f x
  least_by-le xs x there = least_of-le (map f xs) (f x) (Contains-map f xs x there)

  -- one of them has it, if there is one
  pub least_by-some : (xs : List X) → 0 < length xs → (x : X) × Contains xs x × (f x ≡ least_by xs)
  least_by-some [] some = absurd (omega arith)
  least_by-some (x ∷ xs) some = Contains-from_map f (x ∷ xs) (least_by (x ∷ xs)) (least_of-some (f x) (map f xs))

  -- it is no greater than what none of them is above, 0 if there is none
  pub least_by-most : (n : ℕ) (xs : List X) → ((x : X) → f x ≤ n) → least_by xs ≤ n
  least_by-most n [] most = omega arith
  least_by-most n (x ∷ xs) most = let rest : fold min (f x) (map f xs) ≤ f x = least_from-start (f x) (map f xs) in
      omega (arith, most x)

  -- the least with one more
  pub least_by-push : (xs : List X) (x : X) → 0 < length xs → least_by (xs ++ x ∷ []) ≡ min (least_by xs) (f x)
  least_by-push [] x some = absurd (omega arith)
  least_by-push (y ∷ xs) x some = ap (fold min (f y)) (map_push f xs x) ∙ fold_push min (f y) (map f xs) (f x)

  -- the first that has the least number, if there is one
  abbrev pub first_by : List X → Option X
  first_by xs = find (λ (x : X). f x == least_by xs) xs

  -- this one is it, of those so far, and this is its number; it is `none` as long as there is none
  abbrev pub IsFirstSoFar : ℕ → List X → Option X → ℕ → Type 0
  IsFirstSoFar none xs first least =
      MatchOption first ((xs ≡ []) × (least ≡ none)) (λ x. (first_by xs ≡ Some x) × (least ≡ least_by xs)
      × (0 < length xs))

  -- the next one has a lower number
  pub IsFirstSoFar-less : (none : ℕ) (xs : List X) (first : Option X) (least : ℕ) (x : X)
      → IsFirstSoFar none xs first least → f x < least → IsFirstSoFar none (xs ++ x ∷ []) (Some x) (f x)
  IsFirstSoFar-less none xs None least x so_far less =
      rw so_far.0 (ap (λ (b : Bool). cond b (Some x) None) (eq-eqb (f x) (f x) refl), refl, omega arith)
  IsFirstSoFar-less none xs (Some y) least x so_far less =
      let now : least_by (xs ++ x ∷ []) ≡ f x = omega (arith, least_by-push xs x so_far.2, so_far.1) in
      let test : X → Bool = λ (z : X). f z == f x in
      let before : find test xs ≡ None = find-none test xs
      (λ z there. ne_eqb (f z) (f x) (λ e. absurd (omega (arith, least_by-le xs z there, so_far.1, e)))) in
      let here : find test (x ∷ []) ≡ Some x = ap (λ (b : Bool). cond b (Some x) None) (eq-eqb (f x) (f x) refl) in (
        ap (λ (n : ℕ). find (λ (z : X). f z == n) (xs ++ x ∷ [])) now ∙ find-append test xs (x ∷ [])
            ∙ ap (λ (o : Option X). option_or o (find test (x ∷ []))) before ∙ here,
        sym now,
        omega (arith, length_push xs x),
      )

  -- the next one has none
  pub IsFirstSoFar-more : (none : ℕ) (xs : List X) (first : Option X) (least : ℕ) (x : X)
      → IsFirstSoFar none xs first least → f x < none → least ≤ f x → IsFirstSoFar none (xs ++ x ∷ []) first least
  IsFirstSoFar-more none xs None least x so_far below le = absurd (omega (arith, so_far.1))
  IsFirstSoFar-more none xs (Some y) least x so_far below le =
      let now : least_by (xs ++ x ∷ []) ≡ least_by xs = omega (arith, least_by-push xs x so_far.2, so_far.1) in
      let test : X → Bool = λ (z : X). f z == least_by xs in (
        ap (λ (n : ℕ). find (λ (z : X). f z == n) (xs ++ x ∷ [])) now ∙ find-append test xs (x ∷ [])
            ∙ ap (λ (o : Option X). option_or o (find test (x ∷ []))) so_far.0,
        so_far.1 ∙ sym now,
        omega (arith, length_push xs x),
      )

  -- this is the least so far, and none as long as there is none of them
  abbrev pub IsLeastSoFar : List X → Option ℕ → Type 0
  IsLeastSoFar xs best = MatchOption best (xs ≡ []) (λ least. (0 < length xs) × (least ≡ least_by xs))

  -- the next one has no lower number
  pub IsLeastSoFar-more : (xs : List X) (least : ℕ) (x : X) → IsLeastSoFar xs (Some least) → least ≤ f x
      → IsLeastSoFar (xs ++ x ∷ []) (Some least)
  IsLeastSoFar-more xs least x so_far le = (
    omega (arith, length_push xs x),
    omega (arith, least_by-push xs x so_far.0, so_far.1),
  )

  -- none so far has a lower number than the next one
  pub IsLeastSoFar-less : (xs : List X) (best : Option ℕ) (x : X) → IsLeastSoFar xs best
      → ((least : ℕ) → best ≡ Some least → f x ≤ least) → IsLeastSoFar (xs ++ x ∷ []) (Some (f x))
  IsLeastSoFar-less xs None x so_far none = rw so_far (omega arith, refl)
  IsLeastSoFar-less xs (Some least) x so_far most =
      (omega (arith, length_push xs x), omega (arith, least_by-push xs x so_far.0, so_far.1, most least refl))

-- ---- with numbers that pass a test

module _ (f : ℕ → ℕ) (p : ℕ → Bool) (none n : ℕ) (first : Option ℕ) (least : ℕ)
    (so_far : IsFirstSoFar f none (filter p (range_with_len 0 n)) first least) where
  pub first-less : p n ≡ true → f n < least → IsFirstSoFar f none (filter p (range_with_len 0 (n + 1))) (Some n) (f n)
  first-less passes less =
      rw (range-more p n, passes) (IsFirstSoFar-less f none (filter p (range_with_len 0 n)) first least n so_far less)

  pub first-more : p n ≡ true → f n < none → least ≤ f n → IsFirstSoFar f none (filter p (range_with_len 0 (n + 1)))
      first least
  first-more passes below le =
      rw (range-more p n, passes) (IsFirstSoFar-more f none (filter p (range_with_len 0 n)) first least n so_far below
      le)

  pub first-other : p n ≡ false → IsFirstSoFar f none (filter p (range_with_len 0 (n + 1))) first least
  first-other fails = rw (range-more p n, fails, append-nil) so_far

-- ---- with elements that pass a test

module _ {X : Type 0} (f : X → ℕ) (p : X → Bool) (xs : List X) (k : ℕ) (x : X) (within : k < length xs)
    (here : x ≡ get_or xs k x) where
  -- what passes so far
  abbrev passed : ℕ → List X
  passed n = filter p (take n xs)

  next : passed (k + 1) ≡ passed k ++ cond (p x) (x ∷ []) []
  next = filter_more p xs k x within ∙ ap (λ (y : X). passed k ++ cond (p y) (y ∷ []) []) (sym here)

  pub least-more : (least : ℕ) → p x ≡ true → IsLeastSoFar f (passed k) (Some least) → least ≤ f x
      → IsLeastSoFar f (passed (k + 1)) (Some least)
  least-more least passes so_far le =
      let more : passed (k + 1) ≡ passed k ++ (x ∷ []) = next ∙ ap (λ (b : Bool). passed k ++ cond b (x ∷ []) [])
      passes in
      subst (λ (l : List X). IsLeastSoFar f l (Some least)) (sym more)
      (IsLeastSoFar-more f (passed k) least x so_far le)

  pub least-less : (best : Option ℕ) → p x ≡ true → IsLeastSoFar f (passed k) best
      → ((least : ℕ) → best ≡ Some least → f x ≤ least) → IsLeastSoFar f (passed (k + 1)) (Some (f x))
  least-less best passes so_far most =
      let more : passed (k + 1) ≡ passed k ++ (x ∷ []) = next ∙ ap (λ (b : Bool). passed k ++ cond b (x ∷ []) [])
      passes in
      subst (λ (l : List X). IsLeastSoFar f l (Some (f x))) (sym more)
      (IsLeastSoFar-less f (passed k) best x so_far most)

  pub least-other : (best : Option ℕ) → p x ≡ false → IsLeastSoFar f (passed k) best → IsLeastSoFar f (passed (k + 1))
      best
  least-other best fails so_far =
      let same : passed (k + 1) ≡ passed k = next ∙ ap (λ (b : Bool). passed k ++ cond b (x ∷ []) []) fails
      ∙ append-nil (passed k) in
      subst (λ (l : List X). IsLeastSoFar f l best) (sym same) so_far
