-- The first arc that doesn't join the one before it.
use Rattle.std.proofs.Common.{◌≡◌, ℕ, ◌+◌, ◌-◌, ◌<◌, ◌≤◌, inl, inr, List, length, get_or, Option, Some, sym, ap, subst}
use Rattle.std.proofs.Common.{◌∙◌, arith}
use Rattle.std.specs.Prelude.{slice_get}
use Rattle.std.proofs.lemmas.Bool.{cases_lt}
use Rattle.std.proofs.lemmas.Option.{slice_get-get_or, slice_get_within}
use Rattle.wq_groups.specs.Declaration.{Declaration}
use Rattle.wq_core.specs.Wiring.{Wiring}
use Rattle.wq_checker.specs.Around.{JoinsIn, AllJoinIn, IsFirstBreakIn}
use Rattle.wq_checker.specs.Chains.{Joins}

-- the arcs below place n join
abbrev pub JoinUpTo : Declaration → (ℕ → Option (ℕ × ℕ)) → List (ℕ × ℕ) → ℕ → Type 0
JoinUpTo d before arcs n = (k : ℕ) (arc : ℕ × ℕ) → k < n → slice_get arcs k ≡ Some arc → Joins d (before k) arc

-- the same of lanes that have a rescuer
abbrev pub JoinInUpTo : Wiring → (ℕ → Option (ℕ × ℕ)) → List (ℕ × ℕ) → ℕ → Type 0
JoinInUpTo w before arcs n = (k : ℕ) (arc : ℕ × ℕ) → k < n → slice_get arcs k ≡ Some arc → JoinsIn w (before k) arc

module _ (w : Wiring) (before : ℕ → Option (ℕ × ℕ)) (arcs : List (ℕ × ℕ)) where
  pub stands-at : (n : ℕ) (arc : ℕ × ℕ) → n < length arcs → arc ≡ get_or arcs n arc → slice_get arcs n ≡ Some arc
  stands-at n arc within is = slice_get-get_or arcs n arc within ∙ ap (λ (a : ℕ × ℕ). Some a) (sym is)

  -- the arc at n breaks
  pub IsFirstBreakIn-next : (at n : ℕ) (arc : ℕ × ℕ) → at ≡ n → slice_get arcs n ≡ Some arc
      → (¬ JoinsIn w (before n) arc) → JoinInUpTo w before arcs n → IsFirstBreakIn w before arcs (at + 1)
  IsFirstBreakIn-next at n arc counted stands breaks joined =
      let same : n ≡ at + 1 - 1 = omega (arith, counted) in
      record {
        from_one = omega arith;
        arc = arc;
        stands = subst (λ (m : ℕ). slice_get arcs m ≡ Some arc) same stands;
        breaks = subst (λ (m : ℕ). ¬ JoinsIn w (before m) arc) same breaks;
        first = λ k other less there. joined k other (omega (arith, less, same)) there;
      }

  -- it joins
  pub JoinInUpTo-next : (n : ℕ) (arc : ℕ × ℕ) → slice_get arcs n ≡ Some arc → JoinsIn w (before n) arc
      → JoinInUpTo w before arcs n → JoinInUpTo w before arcs (n + 1)
  JoinInUpTo-next n arc stands joins joined k other less there = elim (cases_lt k n) [
    | inl lower ↦ joined k other lower there
    | inr last ↦
        let same : n ≡ k = omega (arith, last, less) in
        let both : Some arc ≡ Some other = sym stands
        ∙ subst (λ (m : ℕ). slice_get arcs m ≡ Some other) (sym same) there in
        let one : arc ≡ other = cc in
        subst (λ (m : ℕ). JoinsIn w (before m) other) same (subst (JoinsIn w (before n)) one joins)
  ]

  pub AllJoinIn-all : (n : ℕ) → length arcs ≤ n → JoinInUpTo w before arcs n → AllJoinIn w before arcs
  AllJoinIn-all n all joined k arc stands = joined k arc (omega (arith, slice_get_within arcs k arc stands, all)) stands
