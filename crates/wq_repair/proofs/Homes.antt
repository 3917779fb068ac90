-- Homes of lanes, and the vertices of groups that stay there.
use Rattle.std.proofs.Common.{◌≡◌, ◌≢◌, ℕ, ◌+◌, ◌<◌, ◌⊎◌, inl, inr, Bool, List, [], ◌∷◌, ◌++◌, length, get_or, set}
use Rattle.std.proofs.Common.{replicate, sym, ap, subst, ◌∙◌, arith, get_or-set_same, get_or-set_other}
use Rattle.std.proofs.Common.{length-append}
use Rattle.std.specs.Prelude.{Option, Some, None, slice_index, slice_index_or}
use Rattle.std.specs.List.{All}
use Rattle.std.proofs.Math.ListN.{length-set, length-replicate}
use Rattle.std.proofs.lemmas.Bool.{cases_eq, cases_lt}
use Rattle.std.proofs.lemmas.List.{get_or-replicate, get_or_default, get_or_past, get_or_push, get_or_append_left}
use Rattle.wq_groups.specs.Assignment.{Assignment, group_lane}
use Rattle.wq_repair.specs.Marks.{IsMarked}
use Rattle.wq_repair.specs.Settled.{IsHomeOf, AreHomes, AreVertices}
use Rattle.wq_repair.proofs.Marks.{IsMarked-below, cases_marked}

some_same : (a b : ℕ) → Some a ≡ Some b → a ≡ b
some_same a b e = cc

-- no lane is a home
pub no_home : (n : ℕ) (homes : List (Option ℕ)) → homes ≡ replicate n None → (q v : ℕ) → ¬ IsHomeOf homes q v
no_home n homes is q v home =
    let none : slice_index_or homes q None ≡ None = elim (cases_lt q n) [
      | inl lt ↦ ap (λ (xs : List (Option ℕ)). get_or xs q None) is ∙ get_or-replicate n q None None lt
      | inr past ↦ get_or_past homes q None (omega (arith, past, ap length is, length-replicate {A = Option ℕ} n None))
    ] in
    let bad : None ≡ Some v = sym none ∙ home in
    absurd cc

-- one more is asked for
pub asked-cases : (xs : List (Option ℕ)) (o : Option ℕ) (n : ℕ) → length xs ≡ n → (k v : ℕ)
    → slice_index_or (xs ++ o ∷ []) k None ≡ Some v
    → (slice_index_or xs k None ≡ Some v) ⊎ ((k ≡ n) × (o ≡ Some v))
asked-cases xs o n long k v is = elim (cases_lt k (n + 1)) [
  | inr past ↦
      let none : slice_index_or (xs ++ o ∷ []) k None ≡ None =
      get_or_past (xs ++ o ∷ []) k None (omega (arith, past, length-append xs (o ∷ []), long)) in
      let bad : None ≡ Some v = sym none ∙ is in
      absurd cc
  | inl lt ↦ elim (cases_eq k n) [
    | inl last ↦ inr (
      last,
      sym (get_or_push xs o None n long)
          ∙ ap (λ (x : ℕ). slice_index_or (xs ++ o ∷ []) x None) (sym last) ∙ is,
    )
    | inr other ↦ inl (sym (get_or_append_left xs (o ∷ []) None k (omega (arith, lt, other, long))) ∙ is)
  ]
]

-- the homes that the first n groups give their lanes
pub record AreHomesBelow (old : Assignment) (stays : List Bool) (n : ℕ) (homes : List (Option ℕ)) : Type 0 where
  pub one_each : length homes ≡ old.lanes
  pub on : (q v : ℕ) → IsHomeOf homes q v → IsMarked stays v × (group_lane old v ≡ q)
  pub all : (g : ℕ) → g < n → IsMarked stays g → (v : ℕ) × IsHomeOf homes (group_lane old g) v

module _ (old : Assignment) (stays : List Bool) (g : ℕ) (homes : List (Option ℕ))
    (is : AreHomesBelow old stays g homes) where
  pub AreHomesBelow-skip : (¬ IsMarked stays g) → AreHomesBelow old stays (g + 1) homes
  AreHomesBelow-skip not = record {
    one_each = is.one_each;
    on = is.on;
    all = λ h lt marked. elim (cases_eq h g) [
      | inl last ↦ absurd (not (subst (IsMarked stays) last marked))
      | inr other ↦ is.all h (omega (arith, lt, other)) marked
    ];
  }

  pub AreHomesBelow-set : IsMarked stays g → (lane : ℕ) → group_lane old g ≡ lane → lane < length homes
      → AreHomesBelow old stays (g + 1) (set homes lane (Some g))
  AreHomesBelow-set marked lane on below = record {
    one_each = length-set homes lane (Some g) ∙ is.one_each;
    on = holds;
    all = all;
  }
    where
      own : slice_index_or (set homes lane (Some g)) lane None ≡ Some g
      own = get_or-set_same homes lane (Some g) None below

      kept : (q : ℕ) → q ≢ lane → slice_index_or (set homes lane (Some g)) q None ≡ slice_index_or homes q None
      kept q other = get_or-set_other homes lane q (Some g) None other

      holds : (q v : ℕ) → IsHomeOf (set homes lane (Some g)) q v → IsMarked stays v × (group_lane old v ≡ q)
      holds q v home = elim (cases_eq q lane) [
        | inl same ↦
            let v_is : g ≡ v = some_same g v (sym own
            ∙ ap (λ (x : ℕ). slice_index_or (set homes lane (Some g)) x None) (sym same) ∙ home) in
            (subst (IsMarked stays) v_is marked, ap (group_lane old) (sym v_is) ∙ on ∙ sym same)
        | inr other ↦ is.on q v (sym (kept q other) ∙ home)
      ]

      all : (h : ℕ) → h < g + 1 → IsMarked stays h → (v : ℕ) × IsHomeOf (set homes lane (Some g)) (group_lane old h) v
      all h lt h_marked = elim (cases_eq (group_lane old h) lane) [
        | inl same ↦ (g, ap (λ (x : ℕ). slice_index_or (set homes lane (Some g)) x None) same ∙ own)
        | inr other ↦ elim (cases_eq h g) [
          | inl last ↦ absurd (other (ap (group_lane old) last ∙ on))
          | inr before ↦
              let was = is.all h (omega (arith, lt, before)) h_marked in
              (was.0, kept (group_lane old h) other ∙ was.1)
        ]
      ]

-- the vertices of the first n groups
pub record AreVerticesBelow (old : Assignment) (stays : List Bool) (homes : List (Option ℕ)) (n : ℕ)
    (at : List ℕ) : Type 0 where
  pub one_each : length at ≡ n
  pub home : (g : ℕ) → g < n → IsMarked stays g → IsHomeOf homes (group_lane old g) (slice_index at g)
  pub alone : (g : ℕ) → g < n → (¬ IsMarked stays g) → slice_index at g ≡ g

-- one more
pub AreVerticesBelow-push : (old : Assignment) (stays : List Bool) (homes : List (Option ℕ)) (n v : ℕ) (at : List ℕ)
    → AreVerticesBelow old stays homes n at → (IsMarked stays n → IsHomeOf homes (group_lane old n) v)
    → ((¬ IsMarked stays n) → v ≡ n)
    → AreVerticesBelow old stays homes (n + 1) (at ++ v ∷ [])
AreVerticesBelow-push old stays homes n v at is home alone = record {
  one_each = omega (arith, length-append at (v ∷ []), is.one_each);
  home = λ g lt marked. elim (cases_eq g n) [
    | inl last ↦ subst (λ (x : ℕ). IsHomeOf homes (group_lane old x) (slice_index (at ++ v ∷ []) x)) (sym last)
        (subst (IsHomeOf homes (group_lane old n)) (sym own) (home (subst (IsMarked stays) last marked)))
    | inr before ↦
        let earlier : g < n = omega (arith, lt, before) in
        subst (IsHomeOf homes (group_lane old g)) (sym (kept g earlier)) (is.home g earlier marked)
  ];
  alone = λ g lt not. elim (cases_eq g n) [
    | inl last ↦ ap (slice_index (at ++ v ∷ [])) last ∙ own ∙ alone (subst (λ (x : ℕ). ¬ IsMarked stays x) last not)
        ∙ sym last
    | inr before ↦ let earlier : g < n = omega (arith, lt, before) in kept g earlier ∙ is.alone g earlier not
  ];
}
  where
    own : slice_index (at ++ v ∷ []) n ≡ v
    own = get_or_push at v 0 n is.one_each

    kept : (k : ℕ) → k < n → slice_index (at ++ v ∷ []) k ≡ slice_index at k
    kept k lt = get_or_append_left at (v ∷ []) 0 k (omega (arith, lt, is.one_each))

module _ (old : Assignment) (stays : List Bool) (homes : List (Option ℕ)) (at : List ℕ)
    (are_homes : AreHomes old stays homes)
    (are : AreVertices old stays homes at) where
  -- the vertex of a group that stays is a group that stays on its lane
  pub home_is : (g : ℕ) → IsMarked stays g → IsMarked stays
      (slice_index at g) × (group_lane old (slice_index at g) ≡ group_lane old g)
  home_is g marked = are_homes.on (group_lane old g) (slice_index at g) (are.home g marked)

  pub vertex_below : (g : ℕ) → g < length stays → slice_index at g < length stays
  vertex_below g is = elim (cases_marked stays g) [
    | inl marked ↦ IsMarked-below stays (slice_index at g) (home_is g marked).0
    | inr not ↦ omega (arith, is, are.alone g is not)
  ]

  pub vertices-within : All (λ (v : ℕ). v < length stays) at
  vertices-within k e lt = subst (λ (x : ℕ). x < length stays) (get_or_default at k 0 e lt)
      (vertex_below k (omega (arith, lt, are.one_each)))

  -- two groups are at one vertex only if both stay on one lane
  pub apart : (g h : ℕ) → g < length stays → h < length stays → slice_index at g ≡ slice_index at h
      → (g ≡ h) ⊎ (IsMarked stays g × IsMarked stays h × (group_lane old g ≡ group_lane old h))
  apart g h g_is h_is same = elim (cases_marked stays g) [
    | inl g_stays ↦ elim (cases_marked stays h) [
      | inl h_stays ↦ inr (
        g_stays,
        h_stays,
        sym (home_is g g_stays).1 ∙ ap (group_lane old) same
            ∙ (home_is h h_stays).1,
      )
      | inr not ↦ absurd (not (subst (IsMarked stays) (same ∙ are.alone h h_is not) (home_is g g_stays).0))
    ]
    | inr not ↦ elim (cases_marked stays h) [
      | inl h_stays ↦ absurd (not (subst (IsMarked stays) (sym same ∙ are.alone g g_is not) (home_is h h_stays).0))
      | inr also ↦ inl (sym (are.alone g g_is not) ∙ same ∙ are.alone h h_is also)
    ]
  ]

  -- all that stay on a lane are at one vertex
  pub together : (g h : ℕ) → IsMarked stays g → IsMarked stays h → group_lane old g ≡ group_lane old h
      → slice_index at g ≡ slice_index at h
  together g h g_stays h_stays same = some_same (slice_index at g) (slice_index at h)
      (sym (are.home g g_stays) ∙ ap (λ (q : ℕ). slice_index_or homes q None) same ∙ are.home h h_stays)
