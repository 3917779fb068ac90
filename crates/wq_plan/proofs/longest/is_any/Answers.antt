use Rattle.std.proofs.Common.{◌≡◌, ◌<◌, ℕ, Bool, true, false, List, length, get_or, inl, inr, refl, sym, ap, ◌∙◌}
use Rattle.std.specs.List.{list_any}
use Rattle.std.proofs.lemmas.Bool.{cases_lt}
use Rattle.std.proofs.lemmas.List.{get_or_past}
use Rattle.std.proofs.lemmas.List.Folds.{list_any_at}
use Rattle.wq_plan.proofs.longest.is_any.Goals as goal

-- an element that doesn't pass a test that only `true` passes
is_false : (p : Bool → Bool) (xs : List Bool) (k : ℕ) → p true ≡ true → list_any p xs ≡ false → k < length xs
    → get_or xs k false ≡ false
is_false p xs k passes none lt = by (get_or xs k false) refl
  where
    by : (b : Bool) → get_or xs k false ≡ b → b ≡ false
    by false e = refl
    by true e = let some : list_any p xs ≡ true = list_any_at p xs k false lt (ap p e ∙ passes) in absurd cc

pub returns : goal.returns
returns c none place =
    let xs = c.args.unsure.now in
    elim (cases_lt place (length xs)) [
      | inl lt ↦ is_false _ xs place refl (sym c.contains.ensures.value ∙ none) lt
      | inr past ↦ get_or_past xs place false past
    ]
