-- One more row: what it does to the replay, and why the history stays legal.
use Rattle.std.proofs.Common.{◌≡◌, ℕ, zero, suc, ◌⊎◌, inl, inr, Bool, false, List, [], ◌∷◌, ◌++◌, take, refl, sym, ap}
use Rattle.std.proofs.Common.{subst, ◌∙◌, Option, Some, None, IfSome, slice_get}
use Rattle.std.specs.List.{cons_option}
use Rattle.std.proofs.lemmas.List.{append-nil}
use Rattle.std.proofs.lemmas.List.Elements.{filter_map-append}
use Rattle.wq_history.proofs.Words.{Step, Wiring, State, empty_state, Lawful, effect, Event, Row, step_of, steps_of}
use Rattle.wq_history.proofs.Words.{subject_in, state_after, asks_waiting, MayComeIn, MayCome, MayFollow, IsLegal}
use Rattle.wq_core.specs.Runs.{end_of}
use Rattle.wq_core.proofs.RunLemmas.{after-more}
use Rattle.wq_rows.specs.declared.event.Event.TheVariants.{Queue, Cancel, Ask, Told, AskLane, ToldLane}

-- ---- lists

-- what is at a place of a list with one more element: an element of the list, or the last one
at_place : {X : Type 0} (xs : List X) (x : X) (n : ℕ) (y : X) → slice_get (xs ++ (x ∷ [])) n ≡ Some y
    → ((slice_get xs n ≡ Some y) × (take n (xs ++ (x ∷ [])) ≡ take n xs)) ⊎ ((y ≡ x) × (take n (xs ++ (x ∷ [])) ≡ xs))
at_place [] x zero y at = let same : x ≡ y = cc in inr (sym same, refl)
at_place [] x (suc n) y at = absurd cc
at_place (z ∷ xs) x zero y at = inl (at, refl)
at_place {X} (z ∷ xs) x (suc n) y at = later (at_place xs x n y at) where
  later : ((slice_get xs n ≡ Some y) × (take n (xs ++ (x ∷ [])) ≡ take n xs)) ⊎ ((y ≡ x) × (take n (xs ++ (x ∷ [])) ≡ xs))
      → ((slice_get (z ∷ xs) (suc n) ≡ Some y) × (take (suc n) ((z ∷ xs) ++ (x ∷ [])) ≡ take (suc n) (z ∷ xs))) ⊎ ((y ≡ x) × (take (suc n) ((z ∷ xs) ++ (x ∷ [])) ≡ z ∷ xs))
  later (inl (is, same)) = inl (is, ap (λ ys. z ∷ ys) same)
  later (inr (is, same)) = inr (is, ap (λ ys. z ∷ ys) same)

-- ---- the replay

-- the steps with one more row
pub steps_of-more : (rows : List Row) (row : Row) → steps_of (rows ++ (row ∷ [])) ≡ steps_of rows ++ cons_option (step_of row.event row.yes) []
steps_of-more rows row = filter_map-append (λ (r : Row). step_of r.event r.yes) rows (row ∷ [])

-- a row that makes a step
pub state_after-step : (w : Wiring) (rows : List Row) (row : Row) (step : Step) → step_of row.event row.yes ≡ Some step
    → state_after w (rows ++ (row ∷ [])) ≡ effect w (state_after w rows) step
state_after-step w rows row step makes =
    ap (end_of w) (steps_of-more rows row) ∙ ap (λ (o : Option Step). end_of w (steps_of rows ++ cons_option o [])) makes
    ∙ after-more w (empty_state w) (steps_of rows) step

-- a row that makes none
pub state_after-none : (w : Wiring) (rows : List Row) (row : Row) → step_of row.event row.yes ≡ None
    → state_after w (rows ++ (row ∷ [])) ≡ state_after w rows
state_after-none w rows row makes =
    ap (end_of w) (steps_of-more rows row) ∙ ap (λ (o : Option Step). end_of w (steps_of rows ++ cons_option o [])) makes
    ∙ ap (end_of w) (append-nil (steps_of rows))

-- ---- legal histories

-- a row that may follow a legal history makes one with it
pub IsLegal-more : (w : Wiring) (rows : List Row) (row : Row) → IsLegal w rows → MayFollow w rows row → IsLegal w (rows ++ (row ∷ []))
IsLegal-more w rows row legal may n r at = by_place (at_place rows row n r at) where
  by_place : ((slice_get rows n ≡ Some r) × (take n (rows ++ (row ∷ [])) ≡ take n rows)) ⊎ ((r ≡ row) × (take n (rows ++ (row ∷ [])) ≡ rows))
      → MayFollow w (take n (rows ++ (row ∷ []))) r
  by_place (inl (is, same)) = subst (λ (rs : List Row). MayFollow w rs r) (sym same) (legal n r is)
  by_place (inr (is, same)) = subst (λ (rs : List Row). MayFollow w rs r) (sym same) (subst (λ (x : Row). MayFollow w rows x) (sym is) may)

-- the step of what may come is lawful
pub step-lawful : (w : Wiring) (s : State) (waiting : ℕ) (event : Event) (said : Bool) (n : ℕ)
    → MayComeIn w s waiting event said n → IfSome (step_of event said) (λ (step : Step). Lawful w s step)
step-lawful w s waiting (Queue i) false n may = tt
step-lawful w s waiting (Cancel i) false n may = tt
step-lawful w s waiting (Ask i) said n may = tt
step-lawful w s waiting (Told i) said n may = tt
step-lawful w s waiting (AskLane q) said n may = tt
step-lawful w s waiting (ToldLane q) said n may = tt
step-lawful w s waiting _ said n may = may.1.0

pub MayCome-lawful : (w : Wiring) (rows : List Row) (event : Event) (said : Bool) (n : ℕ) (step : Step)
    → MayCome w rows event said n → step_of event said ≡ Some step → Lawful w (state_after w rows) step
MayCome-lawful w rows event said n step may makes =
    let s : State = state_after w rows in
    let waiting : ℕ = asks_waiting (subject_in event) rows in
    subst (λ (o : Option Step). IfSome o (λ (x : Step). Lawful w s x)) makes (step-lawful w s waiting event said n may)
