-- Lanes of ranks, group by group and rank by rank.
use Rattle.std.proofs.Common.{◌≡◌, ◌≢◌, ℕ, ◌+◌, ◌<◌, ◌≤◌, inl, inr, Bool, true, false, List, [], ◌∷◌, ◌++◌, length}
use Rattle.std.proofs.Common.{set, replicate, refl, sym, ap, subst, ◌∙◌, arith, get_or-set_same, get_or-set_other}
use Rattle.std.specs.Prelude.{◌⊎◌, ◌↔◌, Option, Some, None, slice_index, slice_index_or}
use Rattle.std.proofs.Math.ListN.{length-set}
use Rattle.std.specs.Option.{is_some}
use Rattle.std.proofs.lemmas.Bool.{cases_eq, false≢true}
use Rattle.std.proofs.lemmas.List.{get_or_append_left, get_or_push}
use Rattle.wq_core.specs.Workqueues.{Workqueues}
use Rattle.wq_repair.specs.Changes.{lane_in}
use Rattle.wq_repair.specs.Marks.{IsMarked, Marks}
use Rattle.wq_repair.specs.Together.{AreListed, Lists}
use Rattle.wq_repair.specs.Steps.{HoldsOther}
use Rattle.wq_repair.specs.Lanes.{nth_lane, AreFree}
use Rattle.wq_repair.specs.Placing.{IsLaneOfRank, HasNoLane, HoldsRanked, AreLanesOfRanks, HasRanked, AreEmpty}
use Rattle.wq_repair.specs.Placing.{AreTaken}
use Rattle.wq_repair.proofs.Marks.{Marks-none, list-one_more, list-once_more}
use Rattle.wq_repair.proofs.Marks.{IsMarked-below}
use Rattle.wq_repair.proofs.Taking.{nth_lane-apart}

-- ---- the lanes of those that stay

module _ (old : Workqueues) (marks named : List Bool) (ranks : List ℕ) (most g : ℕ) (of_rank : List (Option ℕ))
    (is : AreLanesOfRanks old marks named ranks most g of_rank) where
  pub AreLanesOfRanks-set : (r lane : ℕ) → IsMarked marks g → IsMarked named lane → slice_index ranks g ≡ r
      → lane_in old g ≡ lane → r < most → AreLanesOfRanks old marks named ranks most (g + 1) (set of_rank r (Some lane))
  AreLanesOfRanks-set r lane marked on_named ranked on below = record {
    one_each = length-set of_rank r (Some lane) ∙ is.one_each;
    holds = holds;
    on_named = are_named;
    all = all;
  }
    where
      own : slice_index_or (set of_rank r (Some lane)) r None ≡ Some lane
      own = get_or-set_same of_rank r (Some lane) None (omega (arith, below, is.one_each))

      kept : (s : ℕ) → s ≢ r → slice_index_or (set of_rank r (Some lane)) s None ≡ slice_index_or of_rank s None
      kept s other = get_or-set_other of_rank r s (Some lane) None other

      holds : (s q : ℕ) → IsLaneOfRank (set of_rank r (Some lane)) s q → HoldsRanked old marks ranks s q
      holds s q lane_of = elim (cases_eq s r) [
        | inl same ↦
            let equal : Some lane ≡ Some q = sym own ∙ ap (λ (x : ℕ). slice_index_or (set of_rank r (Some lane)) x None) (sym same) ∙ lane_of in
            let q_is : lane ≡ q = cc in
            record { group = g; marked = marked; ranked = ranked ∙ sym same; on = on ∙ q_is }
        | inr other ↦ is.holds s q (sym (kept s other) ∙ lane_of)
      ]

      are_named : (s q : ℕ) → IsLaneOfRank (set of_rank r (Some lane)) s q → IsMarked named q
      are_named s q lane_of = elim (cases_eq s r) [
        | inl same ↦
            let equal : Some lane ≡ Some q =
            sym own ∙ ap (λ (x : ℕ). slice_index_or (set of_rank r (Some lane)) x None) (sym same) ∙ lane_of in
            let q_is : lane ≡ q = cc in
            subst (IsMarked named) q_is on_named
        | inr other ↦ is.on_named s q (sym (kept s other) ∙ lane_of)
      ]

      all : (h : ℕ) → h < g + 1 → IsMarked marks h → IsMarked named (lane_in old h)
          → ¬ HasNoLane (set of_rank r (Some lane)) (slice_index ranks h)
      all h lt h_marked h_named none = elim (cases_eq (slice_index ranks h) r) [
        | inl same ↦ (
            let bad : Some lane ≡ None = sym own ∙ ap (λ (x : ℕ). slice_index_or (set of_rank r (Some lane)) x None) (sym same) ∙ none in
            absurd cc
            )
        | inr other ↦ elim (cases_eq h g) [
          | inl last ↦ absurd (other (ap (slice_index ranks) last ∙ ranked))
          | inr before ↦
              is.all h (omega (arith, lt, before)) h_marked h_named (sym (kept (slice_index ranks h) other) ∙ none)
        ]
      ]

-- ---- lanes on which no group is

-- one number after the other
module _ (P : ℕ → Type 0) (n : ℕ) (xs : List ℕ) (is : AreListed (λ (k : ℕ). (k < n) × P k) xs) where
  pub AreListed-skip : (¬ P n) → AreListed (λ (k : ℕ). (k < n + 1) × P k) xs
  AreListed-skip not = record {
    exactly = λ k. (
      λ there. let was = (is.exactly k).0 there in (omega (arith, was.0), was.1),
      λ some. elim (cases_eq k n) [
        | inl last ↦ absurd (not (subst P last some.1))
        | inr other ↦ (is.exactly k).1 (omega (arith, some.0, other), some.1)
      ],
    );
    once = is.once;
  }

  pub AreListed-next : P n → AreListed (λ (k : ℕ). (k < n + 1) × P k) (xs ++ n ∷ [])
  AreListed-next here = record {
    exactly = list-one_more (λ (k : ℕ). (k < n) × P k) (λ (k : ℕ). (k < n + 1) × P k) xs n is.exactly more;
    once = list-once_more (λ (k : ℕ). (k < n) × P k) xs n is.exactly (λ some. omega (arith, some.0)) is.once;
  }
    where
      more : (k : ℕ) → ((k < n + 1) × P k) ↔ (((k < n) × P k) ⊎ (k ≡ n))
      more k = (
        λ some. elim (cases_eq k n) [ inl last ↦ inr last | inr other ↦ inl (omega (arith, some.0, other), some.1) ],
        λ either. elim either [ inl before ↦ (omega (arith, before.0), before.1) | inr last ↦ (omega (arith, last), subst P (sym last) here) ],
      )

-- one more of those that are marked, behind those of which R holds
pub AreListed-behind : (marks : List Bool) (R : ℕ → Type 0) (n : ℕ) (xs : List ℕ) → AreListed (λ (k : ℕ). IsMarked marks k × ((k < n) ⊎ R k)) xs → IsMarked marks n → (¬ R n)
    → AreListed (λ (k : ℕ). IsMarked marks k × ((k < n + 1) ⊎ R k)) (xs ++ n ∷ [])
AreListed-behind marks R n xs is marked not = record {
  exactly = list-one_more (λ (k : ℕ). IsMarked marks k × ((k < n) ⊎ R k)) (λ (k : ℕ). IsMarked marks k × ((k < n + 1) ⊎ R k)) xs n is.exactly more;
  once = list-once_more (λ (k : ℕ). IsMarked marks k × ((k < n) ⊎ R k)) xs n is.exactly (λ some. elim some.1 [ inl lt ↦ omega (arith, lt) | inr r ↦ not r ]) is.once;
}
  where
    more : (k : ℕ) → (IsMarked marks k × ((k < n + 1) ⊎ R k)) ↔ ((IsMarked marks k × ((k < n) ⊎ R k)) ⊎ (k ≡ n))
    more k = (
      λ some. elim some.1 [
        | inr r ↦ inl (some.0, inr r)
        | inl lt ↦ elim (cases_eq k n) [ inl last ↦ inr last | inr other ↦ inl (some.0, inl (omega (arith, lt, other))) ]
      ],
      λ either. elim either [
        | inl before ↦ (before.0, elim before.1 [ inl lt ↦ inl (omega (arith, lt)) | inr r ↦ inr r ])
        | inr last ↦ (subst (IsMarked marks) (sym last) marked, inl (omega (arith, last)))
      ],
    )

-- lanes that hold no other groups than none are empty
pub AreEmpty-lists : (old : Workqueues) (none is_empty : List Bool) (groups : ℕ) (empty : List ℕ) → none ≡ replicate groups false → length old.assignment.lane_of_group ≡ groups
    → Marks (λ (q : ℕ). ¬ HoldsOther old none q) old.assignment.lanes is_empty → Lists is_empty empty → AreEmpty old empty
AreEmpty-lists old none is_empty groups empty is assigned are lists q = (
  λ there.
      let marked : IsMarked is_empty q = (lists.exactly q).0 there in
      let below : q < old.assignment.lanes = omega (arith, IsMarked-below is_empty q marked, are.one_each) in
      (below, λ any. (are.exactly q below).0 marked (record { group = any.group; is_group = omega (arith, any.is_group, assigned, no_marks.one_each); other = unmarked any.group; on = any.on })),
  λ both. (lists.exactly q).1 ((are.exactly q both.0).1 (λ holds. both.1 (record { group = holds.group; is_group = omega (arith, holds.is_group, assigned, no_marks.one_each); on = holds.on }))),
)
  where
    no_marks : Marks (λ (k : ℕ). ⊥) groups none
    no_marks = Marks-none (λ (k : ℕ). ⊥) groups none is (λ k lt never. never)

    unmarked : (g : ℕ) → ¬ IsMarked none g
    unmarked g marked = (no_marks.exactly g (omega (arith, IsMarked-below none g marked, no_marks.one_each))).0 marked

-- ---- lanes that are taken for ranks

pub some_lane : (o : Option ℕ) → is_some o ≡ true → ¬ (o ≡ None)
some_lane None is none = false≢true is
some_lane (Some q) is none = absurd cc

pub no_lane : (o : Option ℕ) → is_some o ≡ false → o ≡ None
no_lane None is = refl
no_lane (Some q) is = absurd (false≢true (sym is))

pub AreTaken-none : (leave : List Bool) (empty : List ℕ) (there : ℕ) (of_rank : List (Option ℕ)) → AreTaken leave empty there 0 of_rank of_rank 0
AreTaken-none leave empty there of_rank = record {
  one_each = refl;
  kept = λ r q lane. lane;
  took = λ r lt. absurd (omega (arith, lt));
  only = λ r q none lane. (let bad : None ≡ Some q = sym none ∙ lane in absurd cc);
  all = λ n lt. absurd (omega (arith, lt));
  once = λ r s n none also lane other lt. absurd (omega (arith, lt));
  few = omega arith;
}

module _ (leave : List Bool) (empty : List ℕ) (there rank : ℕ) (before after : List (Option ℕ)) (taken : ℕ) (is : AreTaken leave empty there rank before after taken) where
  pub AreTaken-skip : ((IsMarked leave rank) → ¬ HasNoLane before rank) → AreTaken leave empty there (rank + 1) before after taken
  AreTaken-skip has = record {
    one_each = is.one_each;
    kept = is.kept;
    took = λ r lt marked none. elim (cases_eq r rank) [
      | inl last ↦ absurd (has (subst (IsMarked leave) last marked) (subst (HasNoLane before) last none))
      | inr other ↦ is.took r (omega (arith, lt, other)) marked none
    ];
    only = is.only;
    all = λ n lt. let was = is.all n lt in (was.0, omega (arith, was.1), was.2, was.3);
    once = is.once;
    few = omega (arith, is.few);
  }

  pub AreTaken-take : AreFree there empty → IsMarked leave rank → HasNoLane before rank → rank < length after → (lane : ℕ) → lane ≡ nth_lane empty there taken
      → AreTaken leave empty there (rank + 1) before (set after rank (Some lane)) (taken + 1)
  AreTaken-take free marked none below lane lane_is = record {
    one_each = length-set after rank (Some lane) ∙ is.one_each;
    kept = λ r q had. elim (cases_eq r rank) [
      | inl same ↦ (let bad : None ≡ Some q = sym none ∙ ap (λ (x : ℕ). slice_index_or before x None) (sym same) ∙ had in absurd cc)
      | inr other ↦ kept r other ∙ is.kept r q had
    ];
    took = λ r lt r_marked r_none. elim (cases_eq r rank) [
      | inl same ↦ (taken, omega arith, at_own r same)
      | inr other ↦ let was = is.took r (omega (arith, lt, other)) r_marked r_none in (was.0, omega (arith, was.1), kept r other ∙ was.2)
    ];
    only = only;
    all = λ n lt. elim (cases_eq n taken) [
      | inl same ↦ (rank, omega arith, marked, own ∙ ap (λ (x : ℕ). Some x) (lane_is ∙ ap (nth_lane empty there) (sym same)))
      | inr other ↦
          let was = is.all n (omega (arith, lt, other)) in
          (was.0, omega (arith, was.1), was.2, kept was.0 (λ same. omega (arith, same, was.1)) ∙ was.3)
    ];
    once = once;
    few = omega (arith, is.few);
  }
    where
      own : slice_index_or (set after rank (Some lane)) rank None ≡ Some lane
      own = get_or-set_same after rank (Some lane) None below

      kept : (r : ℕ) → r ≢ rank → slice_index_or (set after rank (Some lane)) r None ≡ slice_index_or after r None
      kept r other = get_or-set_other after rank r (Some lane) None other

      at_own : (r : ℕ) → r ≡ rank → IsLaneOfRank (set after rank (Some lane)) r (nth_lane empty there taken)
      at_own r same = ap (λ (x : ℕ). slice_index_or (set after rank (Some lane)) x None) same ∙ own ∙ ap (λ (x : ℕ). Some x) lane_is

      only : (r q : ℕ) → HasNoLane before r → IsLaneOfRank (set after rank (Some lane)) r q → (n : ℕ) × (n < taken + 1) × (q ≡ nth_lane empty there n)
      only r q r_none r_lane = elim (cases_eq r rank) [
        | inl same ↦
            let equal : Some q ≡ Some (nth_lane empty there taken) = sym r_lane ∙ at_own r same in
            let q_is : q ≡ nth_lane empty there taken = cc in
            (taken, omega arith, q_is)
        | inr other ↦ let was = is.only r q r_none (sym (kept r other) ∙ r_lane) in (was.0, omega (arith, was.1), was.2)
      ]

      -- what was taken before is another lane than the last
      earlier : (r : ℕ) → r ≢ rank → HasNoLane before r → ¬ IsLaneOfRank (set after rank (Some lane)) r (nth_lane empty there taken)
      earlier r other r_none r_lane =
          let was = is.only r (nth_lane empty there taken) r_none (sym (kept r other) ∙ r_lane) in
          nth_lane-apart empty there free was.0 taken was.1 (sym was.2)

      once : (r s n : ℕ) → HasNoLane before r → HasNoLane before s → IsLaneOfRank (set after rank (Some lane)) r (nth_lane empty there n) → IsLaneOfRank (set after rank (Some lane)) s (nth_lane empty there n) → n < taken + 1 → r ≡ s
      once r s n r_none s_none r_lane s_lane lt = elim (cases_eq r rank) [
        | inl r_last ↦ elim (cases_eq s rank) [
          | inl s_last ↦ r_last ∙ sym s_last
          | inr s_other ↦ absurd (earlier s s_other s_none (s_lane ∙ sym r_lane ∙ at_own r r_last))
        ]
        | inr r_other ↦ elim (cases_eq s rank) [
          | inl s_last ↦ absurd (earlier r r_other r_none (r_lane ∙ sym s_lane ∙ at_own s s_last))
          | inr s_other ↦ elim (cases_eq n taken) [
            | inl last ↦ absurd (earlier r r_other r_none (subst (λ (x : ℕ). IsLaneOfRank (set after rank (Some lane)) r (nth_lane empty there x)) last r_lane))
            | inr other ↦ is.once r s n r_none s_none (sym (kept r r_other) ∙ r_lane) (sym (kept s s_other) ∙ s_lane) (omega (arith, lt, other))
          ]
        ]
      ]

-- the ranks so far have their lanes, and all others those that they had
pub record AreTakenSoFar (leave : List Bool) (empty : List ℕ) (there rank : ℕ) (before after : List (Option ℕ)) (taken : ℕ) : Type 0 where
  pub took : AreTaken leave empty there rank before after taken
  pub rest : (r : ℕ) → rank ≤ r → slice_index_or after r None ≡ slice_index_or before r None

module _ (leave : List Bool) (empty : List ℕ) (there rank : ℕ) (before after : List (Option ℕ)) (taken : ℕ) (is : AreTakenSoFar leave empty there rank before after taken) where
  pub AreTakenSoFar-skip : ((IsMarked leave rank) → ¬ HasNoLane after rank) → AreTakenSoFar leave empty there (rank + 1) before after taken
  AreTakenSoFar-skip has = record {
    took = AreTaken-skip leave empty there rank before after taken is.took (λ marked none. has marked (is.rest rank (omega arith) ∙ none));
    rest = λ r le. is.rest r (omega (arith, le));
  }

  pub AreTakenSoFar-take : AreFree there empty → IsMarked leave rank → HasNoLane after rank → rank < length after → (lane : ℕ) → lane ≡ nth_lane empty there taken
      → AreTakenSoFar leave empty there (rank + 1) before (set after rank (Some lane)) (taken + 1)
  AreTakenSoFar-take free marked none below lane lane_is = record {
    took = AreTaken-take leave empty there rank before after taken is.took free marked (sym (is.rest rank (omega arith)) ∙ none) below lane lane_is;
    rest = λ r le. get_or-set_other after rank r (Some lane) None (λ same. omega (arith, le, same)) ∙ is.rest r (omega (arith, le));
  }

-- each group that leaves has a lane for its rank then
pub leaving-has_lane : (leaves leave : List Bool) (ranks empty : List ℕ) (there most taken : ℕ) (before after : List (Option ℕ)) → length ranks ≡ length leaves
    → ((g : ℕ) → g < length ranks → slice_index ranks g < most) → Marks (HasRanked leaves ranks) most leave → AreTaken leave empty there most before after taken
    → (g : ℕ) → IsMarked leaves g → ¬ HasNoLane after (slice_index ranks g)
leaving-has_lane leaves leave ranks empty there most taken before after long below leaving took g marked none = at_rank (slice_index_or before (slice_index ranks g) None) refl
  where
    r_below : slice_index ranks g < most
    r_below = below g (omega (arith, IsMarked-below leaves g marked, long))

    some : (q : ℕ) → ¬ IsLaneOfRank after (slice_index ranks g) q
    some q lane = (let bad : Some q ≡ None = sym lane ∙ none in absurd cc)

    at_rank : (o : Option ℕ) → slice_index_or before (slice_index ranks g) None ≡ o → ⊥
    at_rank (Some q) had = some q (took.kept (slice_index ranks g) q had)
    at_rank None before_none =
        let at = took.took (slice_index ranks g) r_below ((leaving.exactly (slice_index ranks g) r_below).1 (record { group = g; marked = marked; ranked = refl })) before_none in
        some (nth_lane empty there at.0) at.2

-- ---- the lanes of all groups

-- one more number, where each is what its place says
pub each-push : (f : ℕ → ℕ) (xs ys : List ℕ) (n x : ℕ) → length xs ≡ n → ((k : ℕ) → k < n → slice_index xs k ≡ f k) → ys ≡ xs ++ x ∷ [] → x ≡ f n → (k : ℕ) → k < n + 1 → slice_index ys k ≡ f k
each-push f xs ys n x long each pushed last k lt = ap (λ (zs : List ℕ). slice_index zs k) pushed ∙ elim (cases_eq k n) [
  | inl now ↦ ap (slice_index (xs ++ x ∷ [])) now ∙ get_or_push xs x 0 n long ∙ last ∙ ap f (sym now)
  | inr other ↦
      let earlier : k < n = omega (arith, lt, other) in
      get_or_append_left xs (x ∷ []) 0 k (omega (arith, earlier, long)) ∙ each k earlier
]
