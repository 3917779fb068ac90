-- Which groups have a rescuer once groups have moved to lanes.
use Rattle.std.proofs.Common.{◌≡◌, ◌≢◌, ℕ, ◌+◌, ◌<◌, ◌≤◌, ◌⊎◌, inl, inr, Bool, List, length, get_or, set, refl, sym, subst, ◌∙◌, arith, get_or-set_same, get_or-set_other}
use Rattle.std.specs.Prelude.{false, slice_index}
use Rattle.std.proofs.Math.ListN.{length-set}
use Rattle.std.proofs.lemmas.Bool.{cases_Bool, cases_eq, cases_lt, false≢true}
use Rattle.std.proofs.lemmas.List.{get_or_past}
use Rattle.wq_core.specs.Workqueues.{Workqueues}
use Rattle.wq_repair.specs.Changes.{IsRescued, IsBare, lane_in}
use Rattle.wq_repair.specs.Marks.{IsMarked, Marks}
use Rattle.wq_repair.specs.Lanes.{HasComer, AreBareNow}

module _ (old : Workqueues) (comes given : List Bool) (lane_of : List ℕ) where
  abbrev pub Comes : ℕ → Type 0
  Comes g = IsMarked comes g ⊎ IsMarked given (lane_in old g)

  pub AreBareNow-none : (bare : List Bool) → Marks (IsBare old) old.assignment.lanes bare → AreBareNow old comes given lane_of 0 bare
  AreBareNow-none bare are = record { few = omega (arith, are.one_each); rescued = rescued; only = only }
    where
      rescued : (q : ℕ) → IsRescued old q ⊎ HasComer old comes given lane_of 0 q → get_or bare q false ≡ false
      rescued q either = elim either [
        | inr comer ↦ absurd (let lt = comer.is_group in omega (arith, lt))
        | inl had ↦ elim (cases_lt q old.assignment.lanes) [
          | inr past ↦ get_or_past bare q false (omega (arith, past, are.one_each))
          | inl lt ↦ elim (cases_Bool (get_or bare q false)) [
            | inr not ↦ not
            | inl marked ↦ absurd (false≢true (sym had ∙ (are.exactly q lt).0 marked))
          ]
        ]
      ]

      only : (q : ℕ) → q < old.assignment.lanes → get_or bare q false ≡ false → IsRescued old q ⊎ HasComer old comes given lane_of 0 q
      only q lt clear = elim (cases_Bool (get_or old.bare q false)) [
        | inr not ↦ inl not
        | inl bare_one ↦ absurd (false≢true (sym clear ∙ (are.exactly q lt).1 bare_one))
      ]

  comer_more : (g q : ℕ) → HasComer old comes given lane_of g q → HasComer old comes given lane_of (g + 1) q
  comer_more g q comer = record { group = comer.group; is_group = omega (arith, comer.is_group); why = comer.why; on = comer.on }

  comer_last : (g q : ℕ) → HasComer old comes given lane_of (g + 1) q → HasComer old comes given lane_of g q ⊎ (Comes g × (slice_index lane_of g ≡ q))
  comer_last g q comer = elim (cases_eq comer.group g) [
    | inl last ↦ inr (subst Comes last comer.why, subst (λ (x : ℕ). slice_index lane_of x ≡ q) last comer.on)
    | inr before ↦ inl (record { group = comer.group; is_group = omega (arith, comer.is_group, before); why = comer.why; on = comer.on })
  ]

  module _ (g : ℕ) (bare : List Bool) (is : AreBareNow old comes given lane_of g bare) where
    pub AreBareNow-skip : (¬ Comes g) → AreBareNow old comes given lane_of (g + 1) bare
    AreBareNow-skip not = record {
      few = is.few;
      rescued = λ q either. elim either [
        | inl had ↦ is.rescued q (inl had)
        | inr comer ↦ elim (comer_last g q comer) [
          | inl before ↦ is.rescued q (inr before)
          | inr last ↦ absurd (not last.0)
        ]
      ];
      only = λ q lt clear. elim (is.only q lt clear) [ inl had ↦ inl had | inr comer ↦ inr (comer_more g q comer) ];
    }

    last_comes : Comes g → HasComer old comes given lane_of (g + 1) (slice_index lane_of g)
    last_comes why = record { group = g; is_group = omega arith; why = why; on = refl }

    -- as before but for the lane of the last, which is clear now
    changed : (next : List Bool) → length next ≡ length bare → get_or next (slice_index lane_of g) false ≡ false
        → ((q : ℕ) → q ≢ slice_index lane_of g → get_or next q false ≡ get_or bare q false) → Comes g → AreBareNow old comes given lane_of (g + 1) next
    changed next long clear others why = record { few = omega (arith, long, is.few); rescued = rescued; only = only }
      where
        rescued : (q : ℕ) → IsRescued old q ⊎ HasComer old comes given lane_of (g + 1) q → get_or next q false ≡ false
        rescued q either = elim (cases_eq q (slice_index lane_of g)) [
          | inl same ↦ subst (λ (x : ℕ). get_or next x false ≡ false) (sym same) clear
          | inr other ↦ others q other ∙ elim either [
            | inl had ↦ is.rescued q (inl had)
            | inr comer ↦ elim (comer_last g q comer) [
              | inl before ↦ is.rescued q (inr before)
              | inr last ↦ absurd (other (sym last.1))
            ]
          ]
        ]

        only : (q : ℕ) → q < old.assignment.lanes → get_or next q false ≡ false → IsRescued old q ⊎ HasComer old comes given lane_of (g + 1) q
        only q lt free = elim (cases_eq q (slice_index lane_of g)) [
          | inl same ↦ inr (subst (HasComer old comes given lane_of (g + 1)) (sym same) (last_comes why))
          | inr other ↦ elim (is.only q lt (sym (others q other) ∙ free)) [ inl had ↦ inl had | inr comer ↦ inr (comer_more g q comer) ]
        ]

    pub AreBareNow-clear : Comes g → slice_index lane_of g < length bare → AreBareNow old comes given lane_of (g + 1) (set bare (slice_index lane_of g) false)
    AreBareNow-clear why within =
        changed (set bare (slice_index lane_of g) false) (length-set bare (slice_index lane_of g) false) (get_or-set_same bare (slice_index lane_of g) false false within)
        (λ q other. get_or-set_other bare (slice_index lane_of g) q false false other) why

    pub AreBareNow-past : Comes g → length bare ≤ slice_index lane_of g → AreBareNow old comes given lane_of (g + 1) bare
    AreBareNow-past why past = changed bare refl (get_or_past bare (slice_index lane_of g) false past) (λ q other. refl) why
