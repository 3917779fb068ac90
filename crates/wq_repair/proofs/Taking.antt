-- Lanes that are taken one after the other: each is another one, and all that there are in the end hold a group.
use Rattle.std.proofs.Common.{◌≡◌, ◌≢◌, ℕ, ◌+◌, ◌-◌, ◌<◌, ◌≤◌, inl, inr, Bool, List, [], ◌∷◌, ◌++◌, length, refl, sym, ap, subst, ◌∙◌, arith, length-append}
use Rattle.std.specs.Prelude.{if◌then◌else◌, slice_index}
use Rattle.std.proofs.Math.Dec.{eqb}
use Rattle.std.proofs.lemmas.Bool.{cases_eq, cases_lt, lt-ltb, le-ltb, eq-eqb}
use Rattle.std.proofs.lemmas.List.{get_or_append_left, get_or_push, get_or_default}
use Rattle.std.proofs.lemmas.List.Folds.{list_any-from_Any}
use Rattle.std.proofs.lemmas.Map.Steps.{le-length_from_below}
use Rattle.wq_groups.specs.Assignment.{Assignment, group_lane}
use Rattle.wq_repair.specs.Marks.{IsMarked}
use Rattle.wq_repair.specs.Lanes.{nth_lane, AreFree, AreOwnLanes}

module _ (free : List ℕ) (there : ℕ) where
  pub nth_lane-in : (n : ℕ) → n < length free → nth_lane free there n ≡ slice_index free n
  nth_lane-in n lt = ap (λ (b : Bool). if b then slice_index free n else there + (n - length free)) (lt-ltb n (length free) lt)

  pub nth_lane-new : (n : ℕ) → length free ≤ n → nth_lane free there n ≡ there + (n - length free)
  nth_lane-new n le = ap (λ (b : Bool). if b then slice_index free n else there + (n - length free)) (le-ltb n (length free) le)

  module _ (are : AreFree there free) where
    pub nth_lane-below : (n taken : ℕ) → n < taken → nth_lane free there n < there + (taken - length free)
    nth_lane-below n taken lt = elim (cases_lt n (length free)) [
      | inl inside ↦ omega (arith, nth_lane-in n inside, are.below n 0 inside)
      | inr new ↦ omega (arith, nth_lane-new n new, lt, new)
    ]

    pub nth_lane-apart : (m n : ℕ) → m < n → nth_lane free there m ≢ nth_lane free there n
    nth_lane-apart m n lt same = elim (cases_lt n (length free)) [
      | inl n_in ↦
          let m_in : m < length free = omega (arith, lt, n_in) in
          are.once m n 0 lt n_in (sym (nth_lane-in m m_in) ∙ same ∙ nth_lane-in n n_in)
      | inr n_new ↦ elim (cases_lt m (length free)) [
        | inl m_in ↦ omega (arith, nth_lane-in m m_in, are.below m 0 m_in, nth_lane-new n n_new, same)
        | inr m_new ↦ omega (arith, nth_lane-new m m_new, nth_lane-new n n_new, same, lt, m_new)
      ]
    ]

-- ---- one group after the other

module _ (old : Assignment) (marks : List Bool) (free : List ℕ) (g : ℕ) (lane_of : List ℕ) (taken : ℕ) (is : AreOwnLanes old marks free g lane_of taken) (lane : ℕ) where
  before : (h : ℕ) → h < g → slice_index (lane_of ++ lane ∷ []) h ≡ slice_index lane_of h
  before h lt = get_or_append_left lane_of (lane ∷ []) 0 h (omega (arith, lt, is.one_each))

  last : slice_index (lane_of ++ lane ∷ []) g ≡ lane
  last = get_or_push lane_of lane 0 g is.one_each

  longer : length (lane_of ++ lane ∷ []) ≡ g + 1
  longer = omega (arith, length-append lane_of (lane ∷ []), is.one_each)

  pub AreOwnLanes-other : (¬ IsMarked marks g) → lane ≡ group_lane old g → AreOwnLanes old marks free (g + 1) (lane_of ++ lane ∷ []) taken
  AreOwnLanes-other not same = record {
    one_each = longer;
    others = λ h lt unmarked. elim (cases_eq h g) [
      | inl now ↦ subst (λ (x : ℕ). slice_index (lane_of ++ lane ∷ []) x ≡ group_lane old x) (sym now) (last ∙ same)
      | inr other ↦ let earlier : h < g = omega (arith, lt, other) in before h earlier ∙ is.others h earlier unmarked
    ];
    own = λ h lt marked. elim (cases_eq h g) [
      | inl now ↦ absurd (not (subst (IsMarked marks) now marked))
      | inr other ↦
          let earlier : h < g = omega (arith, lt, other) in
          let was = is.own h earlier marked in
          (was.0, was.1, before h earlier ∙ was.2)
    ];
    apart = λ h k lt below h_marked k_marked. elim (cases_eq k g) [
      | inl now ↦ absurd (not (subst (IsMarked marks) now k_marked))
      | inr other ↦
          let k_earlier : k < g = omega (arith, below, other) in
          let h_earlier : h < g = omega (arith, lt, k_earlier) in
          λ equal. is.apart h k lt k_earlier h_marked k_marked (sym (before h h_earlier) ∙ equal ∙ before k k_earlier)
    ];
    all = λ n lt. let was = is.all n lt in (was.0, omega (arith, was.1), before was.0 was.1 ∙ was.2);
    few = omega (arith, is.few);
  }

  pub AreOwnLanes-taken : AreFree old.lanes free → IsMarked marks g → lane ≡ nth_lane free old.lanes taken → AreOwnLanes old marks free (g + 1) (lane_of ++ lane ∷ []) (taken + 1)
  AreOwnLanes-taken are marked same = record {
    one_each = longer;
    others = λ h lt unmarked. elim (cases_eq h g) [
      | inl now ↦ absurd (unmarked (subst (IsMarked marks) (sym now) marked))
      | inr other ↦ let earlier : h < g = omega (arith, lt, other) in before h earlier ∙ is.others h earlier unmarked
    ];
    own = λ h lt h_marked. elim (cases_eq h g) [
      | inl now ↦ (taken, omega arith, subst (λ (x : ℕ). slice_index (lane_of ++ lane ∷ []) x ≡ nth_lane free old.lanes taken) (sym now) (last ∙ same))
      | inr other ↦
          let earlier : h < g = omega (arith, lt, other) in
          let was = is.own h earlier h_marked in
          (was.0, omega (arith, was.1), before h earlier ∙ was.2)
    ];
    apart = λ h k lt below h_marked k_marked. elim (cases_eq k g) [
      | inl now ↦
          let earlier : h < g = omega (arith, lt, now) in
          let was = is.own h earlier h_marked in
          λ equal. nth_lane-apart free old.lanes are was.0 taken was.1
          (sym was.2 ∙ sym (before h earlier) ∙ equal ∙ ap (slice_index (lane_of ++ lane ∷ [])) now ∙ last ∙ same)
      | inr other ↦
          let k_earlier : k < g = omega (arith, below, other) in
          let h_earlier : h < g = omega (arith, lt, k_earlier) in
          λ equal. is.apart h k lt k_earlier h_marked k_marked (sym (before h h_earlier) ∙ equal ∙ before k k_earlier)
    ];
    all = λ n lt. elim (cases_eq n taken) [
      | inl now ↦ (g, omega arith, last ∙ same ∙ ap (nth_lane free old.lanes) (sym now))
      | inr other ↦ let was = is.all n (omega (arith, lt, other)) in (was.0, omega (arith, was.1), before was.0 was.1 ∙ was.2)
    ];
    few = omega (arith, is.few);
  }

-- ---- as many lanes as groups

-- lanes each of which holds a group aren't more than there are groups
pub few-held : (lane_of : List ℕ) (n : ℕ) → ((q : ℕ) → q < n → (g : ℕ) × (g < length lane_of) × (slice_index lane_of g ≡ q)) → n ≤ length lane_of
few-held lane_of n held = le-length_from_below lane_of n (λ q lt.
    let at = held q lt in
    list_any-from_Any (eqb q) lane_of (at.0, q, at.1, get_or_default lane_of at.0 q 0 at.1 ∙ at.2, eq-eqb q q refl)
    )
