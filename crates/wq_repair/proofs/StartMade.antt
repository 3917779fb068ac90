-- The start that is made lane by lane.
use Rattle.std.proofs.Common.{◌≡◌, ◌≢◌, ℕ, ◌+◌, ◌-◌, ◌<◌, ◌≤◌, ◌⊎◌, inl, inr, Bool, List, length, refl, sym, subst, ◌∙◌, arith}
use Rattle.std.specs.Prelude.{max, slice_index}
use Rattle.std.proofs.lemmas.Bool.{cases_eq, cases_lt}
use Rattle.std.proofs.lemmas.List.{get_or_default}
use Rattle.std.proofs.lemmas.List.Elements.{Contains-get_or}
use Rattle.wq_core.specs.Workqueues.{Workqueues}
use Rattle.wq_repair.specs.Changes.{IsRescued, lane_in}
use Rattle.wq_repair.specs.Marks.{IsMarked, Marks}
use Rattle.wq_repair.specs.Together.{Lists}
use Rattle.wq_repair.specs.Steps.{HoldsOther, IsStartBy}
use Rattle.wq_repair.specs.Lanes.{nth_lane, AreFree, AreOwnLanes, AreBareNow}
use Rattle.wq_repair.proofs.Marks.{IsMarked-below, cases_marked}
use Rattle.wq_repair.proofs.Readied.{all_or_one}
use Rattle.wq_repair.proofs.Taking.{nth_lane-in, nth_lane-new, nth_lane-below, few-held}

-- listed lanes are free lanes
pub AreFree-lists : (marks : List Bool) (free : List ℕ) → Lists marks free → AreFree (length marks) free
AreFree-lists marks free lists = record {
  below = λ k e lt. IsMarked-below marks _ ((lists.exactly _).0 (Contains-get_or free k e lt));
  once = lists.once;
}

module _ (old : Workqueues) (movable given is_free bare : List Bool) (free lane_of : List ℕ) (taken : ℕ)
    (assigned : length movable ≡ length old.assignment.lane_of_group)
    (within : (g : ℕ) → g < length movable → lane_in old g < old.assignment.lanes)
    (are_free : Marks (λ (q : ℕ). ¬ HoldsOther old movable q) old.assignment.lanes is_free)
    (lists : Lists is_free free)
    (own : AreOwnLanes old.assignment movable free (length movable) lane_of taken)
    (now : AreBareNow old movable given lane_of (length movable) bare) where
  there : ℕ
  there = old.assignment.lanes

  abbrev made : Workqueues
  made = record { assignment = record { lanes = old.assignment.lanes + (taken - length free); lane_of_group = lane_of }; bare = bare }

  pub AreFree-start : AreFree old.assignment.lanes free
  AreFree-start = subst (λ (n : ℕ). AreFree n free) are_free.one_each (AreFree-lists is_free free lists)

  free_holds_none : (n : ℕ) → n < length free → ¬ HoldsOther old movable (slice_index free n)
  free_holds_none n lt = (are_free.exactly (slice_index free n) (AreFree-start.below n 0 lt)).0 ((lists.exactly (slice_index free n)).0 (Contains-get_or free n 0 lt))

  -- no lane that is taken holds a group that can't move
  not_taken : (n g : ℕ) → g < length movable → (¬ IsMarked movable g) → nth_lane free old.assignment.lanes n ≢ lane_in old g
  not_taken n g is not same = elim (cases_lt n (length free)) [
    | inl inside ↦ free_holds_none n inside (record { group = g; is_group = is; other = not; on = sym same ∙ nth_lane-in free old.assignment.lanes n inside })
    | inr new ↦ omega (arith, nth_lane-new free old.assignment.lanes n new, within g is, same)
  ]

  holds_or_not : (q k : ℕ) → ((k < length movable) → lane_in old k ≡ q → IsMarked movable k) ⊎ ((k < length movable) × (lane_in old k ≡ q) × (¬ IsMarked movable k))
  holds_or_not q k = elim (cases_lt k (length movable)) [
    | inr past ↦ inl (λ lt. absurd (omega (arith, past, lt)))
    | inl lt ↦ elim (cases_eq (lane_in old k) q) [
      | inr other ↦ inl (λ below same. absurd (other same))
      | inl same ↦ elim (cases_marked movable k) [
        | inl marked ↦ inl (λ below on. marked)
        | inr not ↦ inr (lt, same, not)
      ]
    ]
  ]

  -- where all free lanes are taken, each lane holds a group
  held : length free ≤ taken → (q : ℕ) → q < old.assignment.lanes + (taken - length free) → (g : ℕ) × (g < length lane_of) × (slice_index lane_of g ≡ q)
  held all q lt = elim (cases_lt q old.assignment.lanes) [
    | inr new ↦ (
        let n : ℕ = q - old.assignment.lanes + length free in
        let at = own.all n (omega (arith, lt, new, all)) in
        (at.0, omega (arith, at.1, own.one_each), at.2 ∙ nth_lane-new free old.assignment.lanes n (omega arith) ∙ omega (arith, new))
        )
    | inl old_lane ↦ elim (all_or_one (λ (k : ℕ). (k < length movable) → lane_in old k ≡ q → IsMarked movable k)
        (λ (k : ℕ). (k < length movable) × (lane_in old k ≡ q) × (¬ IsMarked movable k)) (holds_or_not q) (length movable)) [
          | inr other ↦ (other.0, omega (arith, other.1, own.one_each), own.others other.0 other.1 other.2.2 ∙ other.2.1)
          | inl none ↦ (
              let empty : ¬ HoldsOther old movable q = λ holds. holds.other (none holds.group holds.is_group holds.is_group holds.on) in
              let there_is = (lists.exactly q).1 ((are_free.exactly q old_lane).1 empty) in
              let at = own.all there_is.0 (omega (arith, there_is.1, all)) in (
                at.0,
                omega (arith, at.1, own.one_each),
                at.2 ∙ nth_lane-in free old.assignment.lanes there_is.0 there_is.1 ∙ get_or_default free there_is.0 0 q there_is.1 ∙ there_is.2,
              )
              )
        ]
  ]

  few : old.assignment.lanes + (taken - length free) ≤ max old.assignment.lanes (length movable)
  few = elim (cases_lt taken (length free)) [
    | inl some_left ↦ omega (arith, some_left)
    | inr all ↦ omega (arith, few-held lane_of (old.assignment.lanes + (taken - length free)) (held all), own.one_each)
  ]

  pub within-made : (g : ℕ) → g < length movable → slice_index lane_of g < old.assignment.lanes + (taken - length free)
  within-made g is = elim (cases_marked movable g) [
    | inl marked ↦ let at = own.own g is marked in omega (arith, at.2, nth_lane-below free old.assignment.lanes AreFree-start at.0 taken at.1)
    | inr not ↦ omega (arith, own.others g is not, within g is)
  ]

  alone : (g h : ℕ) → g < length movable → h < length movable → IsMarked movable g → slice_index lane_of g ≡ slice_index lane_of h → g ≡ h
  alone g h g_is h_is marked same = elim (cases_marked movable h) [
    | inr not ↦ absurd (let at = own.own g g_is marked in not_taken at.0 h h_is not (sym at.2 ∙ same ∙ own.others h h_is not))
    | inl also ↦ elim (cases_eq g h) [
      | inl equal ↦ equal
      | inr other ↦ elim (cases_lt g h) [
        | inl lt ↦ absurd (own.apart g h lt h_is marked also same)
        | inr ge ↦ absurd (own.apart h g (omega (arith, ge, other)) g_is also marked (sym same))
      ]
    ]
  ]

  only : (g : ℕ) → g < length movable → (¬ IsMarked movable g) → IsRescued made (lane_in old g) → IsRescued old (lane_in old g) ⊎ IsMarked given (lane_in old g)
  only g is not rescued = elim (now.only (lane_in old g) (within g is) rescued) [
    | inl had ↦ inl had
    | inr comer ↦ elim (cases_marked movable comer.group) [
      | inl moves ↦ absurd (let at = own.own comer.group comer.is_group moves in not_taken at.0 g is not (sym at.2 ∙ comer.on))
      | inr stays ↦ elim comer.why [
        | inl moves ↦ absurd (stays moves)
        | inr marked ↦ inr (subst (IsMarked given) (sym (own.others comer.group comer.is_group stays) ∙ comer.on) marked)
      ]
    ]
  ]

  pub IsStartBy-made : IsStartBy old movable given made
  IsStartBy-made = record {
    one_each = own.one_each;
    within = within-made;
    more = omega arith;
    few = few;
    bare = omega (arith, now.few);
    stay = own.others;
    alone = alone;
    rescued = λ g is marked. now.rescued (slice_index lane_of g) (inr (record { group = g; is_group = is; why = inl marked; on = refl }));
    kept = λ q rescued. now.rescued q (inl rescued);
    given_one = λ q marked holds. now.rescued q (inr (record {
      group = holds.group;
      is_group = holds.is_group;
      why = inr (subst (IsMarked given) (sym holds.on) marked);
      on = own.others holds.group holds.is_group holds.other ∙ holds.on;
    }));
    only = only;
  }
