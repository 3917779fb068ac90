-- Heads: items that are the first of their group, counted, where each item has a head F i that comes no later.
use Rattle.std.proofs.Common.{◌≡◌, ◌≢◌, ℕ, zero, suc, ◌+◌, ◌<◌, ◌≤◌, inl, inr, Bool, true, false, cond, eqb, ltb, List, [], ◌∷◌, ◌++◌, length, map, get_or, take, append-nil, refl, sym, ap, ap₂, subst, ◌∙◌, arith}
use Rattle.std.specs.Prelude.{Contains}
use Rattle.std.specs.List.{count_by, filter, range_with_len}
use Rattle.std.proofs.lemmas.Bool.{cases_eq, cases_lt, cases_order, cond-true, cond-false, cond_both, eq-eqb, ne_eqb, lt-ltb, le-ltb}
use Rattle.std.proofs.lemmas.List.{length-append, length-take-le, get_or-take}
use Rattle.std.proofs.lemmas.List.FromFn.{length-map-range_with_len, fill_by_all, get_or-map-range_with_len}
use Rattle.std.proofs.lemmas.List.Elements.{filter-append}
use Rattle.std.proofs.lemmas.List.Sums.{length-filter}
use Rattle.wq_items.proofs.TableLemmas.{range_with_len-push}
use Rattle.wq_groups.specs.Partition.{IsPartition}
use Rattle.wq_groups.specs.Numbering.{AreHeads, heads_below, head_number, headed}

module _ (F : ℕ → ℕ) where
  pub heads_below-head : (m : ℕ) → F m ≡ m → heads_below F (suc m) ≡ heads_below F m + 1
  heads_below-head m head = ap (λ n. heads_below F m + n) (cond-true (eqb (F m) m) 1 0 (eq-eqb (F m) m head))

  pub heads_below-other : (m : ℕ) → F m ≢ m → heads_below F (suc m) ≡ heads_below F m
  heads_below-other m other =
      let none : heads_below F m + 0 ≡ heads_below F m = omega arith in
      ap (λ n. heads_below F m + n) (cond-false (eqb (F m) m) 1 0 (ne_eqb (F m) m other)) ∙ none

  one_at_most : (m : ℕ) → cond (eqb (F m) m) 1 0 ≤ 1
  one_at_most m = cond_both (eqb (F m) m) 1 0 (λ n. n ≤ 1) (λ e. omega arith) (λ e. omega arith)

  pub heads_below-few : (m : ℕ) → heads_below F m ≤ m
  heads_below-few zero = omega arith
  heads_below-few (suc m) = omega (arith, heads_below-few m, one_at_most m)

  -- m comes before n or they are the same
  pub heads_below-le : (m n : ℕ) → m ≤ n → heads_below F m ≤ heads_below F n
  heads_below-le zero zero le = omega arith
  heads_below-le (suc m) zero le = absurd (omega arith)
  heads_below-le m (suc n) le = elim (cases_eq m (suc n)) [
    | inl same ↦ subst (λ k. heads_below F m ≤ heads_below F k) same (omega arith)
    | inr other ↦ omega (arith, heads_below-le m n (omega arith))
  ]

  pub heads_below-lt : (m n : ℕ) → F m ≡ m → m < n → heads_below F m < heads_below F n
  heads_below-lt m n head lt = omega (arith, heads_below-head m head, heads_below-le (suc m) n (omega arith))

  -- the head that this many heads come before
  pub head_of_number : (g n : ℕ) → g < heads_below F n → (a : ℕ) × (a < n) × (F a ≡ a) × (heads_below F a ≡ g)
  head_of_number g zero lt = absurd (omega arith)
  head_of_number g (suc n) lt = elim (cases_lt g (heads_below F n)) [
    | inl below ↦ let h = head_of_number g n below in (h.0, omega (arith, h.1), h.2, h.3)
    | inr past ↦ elim (cases_eq (F n) n) [
      | inl head ↦ (n, omega arith, head, omega (arith, heads_below-head n head))
      | inr other ↦ absurd (omega (arith, heads_below-other n other))
    ]
  ]

  -- ---- the heads as a list

  range_more : (n : ℕ) → range_with_len 0 (suc n) ≡ range_with_len 0 n ++ (n ∷ [])
  range_more n = let long : suc n ≡ n + 1 = omega arith in ap (range_with_len 0) long ∙ range_with_len-push n

  heads_more : (n : ℕ) → filter (λ i. eqb (F i) i) (range_with_len 0 (suc n)) ≡ filter (λ i. eqb (F i) i) (range_with_len 0 n) ++ cond (eqb (F n) n) (n ∷ []) []
  heads_more n = ap (filter (λ i. eqb (F i) i)) (range_more n) ∙ filter-append (λ i. eqb (F i) i) (range_with_len 0 n) (n ∷ [])

  pub heads_length : (n : ℕ) → length (filter (λ i. eqb (F i) i) (range_with_len 0 n)) ≡ heads_below F n
  heads_length zero = refl
  heads_length (suc n) =
      ap length (heads_more n) ∙ length-append (filter (λ i. eqb (F i) i) (range_with_len 0 n)) (cond (eqb (F n) n) (n ∷ []) [])
      ∙ ap (λ k. k + length (cond (eqb (F n) n) (n ∷ []) [])) (heads_length n) ∙ ap (λ k. heads_below F n + k) (one (eqb (F n) n))
    where
      one : (b : Bool) → length (cond b (n ∷ []) []) ≡ cond b 1 0
      one true = refl
      one false = refl

  -- the heads below k, among all heads below n
  pub heads_count : (k n : ℕ) → k ≤ n → count_by (λ j. ltb j k) (filter (λ i. eqb (F i) i) (range_with_len 0 n)) ≡ heads_below F k
  heads_count k n le = sym (length-filter (λ j. ltb j k) (filter (λ i. eqb (F i) i) (range_with_len 0 n))) ∙ ap length (kept n le) ∙ heads_length k
    where
      below : (m : ℕ) → m ≤ k → filter (λ j. ltb j k) (filter (λ i. eqb (F i) i) (range_with_len 0 m)) ≡ filter (λ i. eqb (F i) i) (range_with_len 0 m)
      below zero le = refl
      below (suc m) le =
          ap (filter (λ j. ltb j k)) (heads_more m) ∙ filter-append (λ j. ltb j k) (filter (λ i. eqb (F i) i) (range_with_len 0 m)) (cond (eqb (F m) m) (m ∷ []) [])
          ∙ ap (λ (l : List ℕ). l ++ filter (λ j. ltb j k) (cond (eqb (F m) m) (m ∷ []) [])) (below m (omega arith))
          ∙ ap (λ (l : List ℕ). filter (λ i. eqb (F i) i) (range_with_len 0 m) ++ l) (one (eqb (F m) m)) ∙ sym (heads_more m)
        where
          one : (b : Bool) → filter (λ j. ltb j k) (cond b (m ∷ []) []) ≡ cond b (m ∷ []) []
          one true = cond-true (ltb m k) (m ∷ []) [] (lt-ltb m k (omega arith))
          one false = refl

      kept : (m : ℕ) → k ≤ m → filter (λ j. ltb j k) (filter (λ i. eqb (F i) i) (range_with_len 0 m)) ≡ filter (λ i. eqb (F i) i) (range_with_len 0 k)
      kept zero le = let none : zero ≡ k = omega arith in below zero (omega arith) ∙ ap (λ l. filter (λ i. eqb (F i) i) (range_with_len 0 l)) none
      kept (suc m) le = elim (cases_eq k (suc m)) [
        | inl same ↦ subst (λ l. filter (λ j. ltb j k) (filter (λ i. eqb (F i) i) (range_with_len 0 l)) ≡ filter (λ i. eqb (F i) i) (range_with_len 0 k)) same (below k (omega arith))
        | inr other ↦
            ap (filter (λ j. ltb j k)) (heads_more m) ∙ filter-append (λ j. ltb j k) (filter (λ i. eqb (F i) i) (range_with_len 0 m)) (cond (eqb (F m) m) (m ∷ []) [])
            ∙ ap (λ (l : List ℕ). l ++ filter (λ j. ltb j k) (cond (eqb (F m) m) (m ∷ []) [])) (kept m (omega arith))
            ∙ ap (λ (l : List ℕ). filter (λ i. eqb (F i) i) (range_with_len 0 k) ++ l) (none m (omega arith) (eqb (F m) m)) ∙ append-nil (filter (λ i. eqb (F i) i) (range_with_len 0 k))
      ]
        where
          none : (m : ℕ) → k ≤ m → (b : Bool) → filter (λ j. ltb j k) (cond b (m ∷ []) []) ≡ []
          none m le true = cond-false (ltb m k) (m ∷ []) [] (le-ltb m k le)
          none m le false = refl

-- ---- the groups that heads make

module _ (F G : ℕ → ℕ) where
  heads_below-agree : (n m : ℕ) → ((i : ℕ) → i < n → F i ≡ G i) → m ≤ n → heads_below F m ≡ heads_below G m
  heads_below-agree n zero agree le = refl
  heads_below-agree n (suc m) agree le = ap₂ (λ (a k : ℕ). a + cond (eqb k m) 1 0) (heads_below-agree n m agree (omega arith)) (agree m (omega arith))

  -- heads that are the same below n make the same groups
  pub headed-agree : (n : ℕ) → AreHeads n F → ((i : ℕ) → i < n → F i ≡ G i) → headed n F ≡ headed n G
  headed-agree n are agree =
      ap₂ (λ (gs : List ℕ) (k : ℕ). record { group_of = gs; groups = k })
      (fill_by_all (head_number G) (map (head_number F) (range_with_len 0 n)) n 0 (length-map-range_with_len (head_number F) 0 n)
      (λ k lt. get_or-map-range_with_len (head_number F) 0 n k k 0 lt (omega arith) ∙ heads_below-agree n (F k) agree (omega (arith, are.no_later k lt)) ∙ ap (heads_below G) (agree k lt)))
      (heads_below-agree n n agree (omega arith))

module _ (n : ℕ) (F : ℕ → ℕ) (are : AreHeads n F) where
  pub head_number-below : (i m : ℕ) → i < n → i < m → head_number F i < heads_below F m
  head_number-below i m lt within = heads_below-lt F (F i) m (are.own i lt) (omega (arith, are.no_later i lt))

  pub head_number-at : (i d : ℕ) → i < n → get_or (headed n F).group_of i d ≡ head_number F i
  head_number-at i d lt = get_or-map-range_with_len (head_number F) 0 n i i d lt (omega arith)

  -- items have the same number exactly if they have the same head
  pub head_number-same : (i j : ℕ) → i < n → j < n → head_number F i ≡ head_number F j → F i ≡ F j
  head_number-same i j i_in j_in same = elim (cases_order (F i) (F j)) [
    | inl one ↦ one
    | inr (inl lt) ↦ absurd (omega (arith, same, heads_below-lt F (F i) (F j) (are.own i i_in) lt))
    | inr (inr lt) ↦ absurd (omega (arith, same, heads_below-lt F (F j) (F i) (are.own j j_in) lt))
  ]

  long : length (headed n F).group_of ≡ n
  long = length-map-range_with_len (head_number F) 0 n

  in_group : (i g : ℕ) → i < n → head_number F i ≡ g → Contains (headed n F).group_of g
  in_group i g lt is = (i, omega (arith, long), head_number-at i g lt ∙ is)

  in_front : (i j g : ℕ) → i < n → j < i → head_number F j ≡ g → Contains (take i (headed n F).group_of) g
  in_front i j g lt before is =
      (j, omega (arith, length-take-le i (headed n F).group_of (omega (arith, long))), get_or-take i (headed n F).group_of j g before ∙ head_number-at j g (omega arith) ∙ is)

  pub IsPartition-headed : n ≤ 4096 → IsPartition (headed n F)
  IsPartition-headed few = record {
    few_items = omega (arith, long);
    few_groups = omega (arith, long, heads_below-few F n);
    within = λ i d lt. let in' : i < n = omega (arith, long) in subst (λ g. g < heads_below F n) (sym (head_number-at i d in')) (head_number-below i n in' in');
    filled = λ g lt. let h = head_of_number F g n lt in in_group h.0 g h.1 (ap (heads_below F) h.2 ∙ h.3);
    in_order = λ i g lt below.
        let in' : i < n = omega (arith, long) in
        let h = head_of_number F g (F i) (subst (λ k. g < k) (head_number-at i 0 in') below) in
        in_front i h.0 g in' (omega (arith, h.1, are.no_later i in')) (ap (heads_below F) h.2 ∙ h.3);
  }
