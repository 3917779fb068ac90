-- How many different items have an unfinished entry on a lane, and what the lane weighs.
use Rattle.std.proofs.Common.{◌≡◌, ◌≢◌, ℕ, zero, suc, ◌+◌, ◌≤◌, inl, inr, Bool, true, false, not, cond, List, [], ◌∷◌}
use Rattle.std.proofs.Common.{◌++◌, length, map, get_or, Option, Some, None, refl, sym, ap, subst, ◌∙◌, arith}
use Rattle.std.specs.Prelude.{filter, ◌==◌}
use Rattle.std.proofs.lemmas.Bool.{eq-eqb, eqb-true, both_ways}
use Rattle.std.proofs.lemmas.List.{length-append, length-map}
use Rattle.wq_core.specs.declared.entry.Entry.{Entry}
use Rattle.wq_core.specs.declared.entry.Running.{Running}
use Rattle.wq_core.specs.Wiring.{Wiring, lane_of}
use Rattle.wq_core.specs.State.{Lane, State, lane_at, run_by, RunsIn, IsUnfinishedOn}
use Rattle.wq_hang.proofs.Apart.{Apart, In, In-append_left, In-append_right, Apart-within, Apart-filter, filter-In}
use Rattle.wq_hang.proofs.Weights.{run_weight, helping_weight, lane_weight, weight_on}
use Rattle.wq_hang.proofs.StuckLanes.{first_of_helpers, first_or_helpers, first_run, item_run}
use Rattle.wq_hang.proofs.WalkRuns.{entry_In}

-- ---- what the contexts of a lane run

-- the items that these contexts run
abbrev items_run : List (Option Running) → List ℕ
items_run [] = []
items_run (Some r ∷ os) = r.entry.item ∷ items_run os
items_run (None ∷ os) = items_run os

-- those but the first
abbrev others_run : List (Option Running) → List ℕ
others_run [] = []
others_run (Some r ∷ os) = items_run os
others_run (None ∷ os) = others_run os

items_run-weight : (os : List (Option Running)) → length (items_run os) ≤ helping_weight os
items_run-weight [] = omega arith
items_run-weight (Some r ∷ os) =
    let rest : length (items_run os) ≤ helping_weight os = items_run-weight os in
    omega arith
items_run-weight (None ∷ os) =
    let rest : length (items_run os) ≤ helping_weight os = items_run-weight os in
    omega arith

others_run-weight : (os : List (Option Running)) (x : Running) → first_of_helpers os ≡ Some x
    → run_weight (Some x) + length (others_run os) ≤ helping_weight os
others_run-weight [] x is = absurd cc
others_run-weight (Some y ∷ os) x is =
    let rest : length (items_run os) ≤ helping_weight os = items_run-weight os in
    omega (arith, rest, ap run_weight is)
others_run-weight (None ∷ os) x is =
    let rest : run_weight (Some x) + length (others_run os) ≤ helping_weight os = others_run-weight os x is in
    omega arith

run_In : (os : List (Option Running)) (h : ℕ) (r : Running) → get_or os h None ≡ Some r
    → In r.entry.item (items_run os)
run_In [] h r is = absurd cc
run_In (Some y ∷ os) zero r is = inl (ap item_run (sym is))
run_In (Some y ∷ os) (suc h) r is = inr (run_In os h r is)
run_In (None ∷ os) zero r is = absurd cc
run_In (None ∷ os) (suc h) r is = run_In os h r is

other_In : (os : List (Option Running)) (x : Running) → first_of_helpers os ≡ Some x → (h : ℕ) (r : Running)
    → get_or os h None ≡ Some r → r.entry.item ≢ x.entry.item → In r.entry.item (others_run os)
other_In [] x is h r runs other = absurd cc
other_In (Some y ∷ os) x is zero r runs other = absurd (other (ap item_run (sym runs ∙ is)))
other_In (Some y ∷ os) x is (suc h) r runs other = run_In os h r runs
other_In (None ∷ os) x is zero r runs other = absurd cc
other_In (None ∷ os) x is (suc h) r runs other = other_In os x is h r runs other

-- ---- items on a lane

-- an entry of the item is unfinished on the lane
abbrev pub IsLeftOn : Lane → ℕ → Type 0
IsLeftOn lane i = (e : Entry) × IsUnfinishedOn lane e × (e.item ≡ i)

module _ (lane : Lane) where
  abbrev contexts : List (Option Running)
  contexts = lane.running ∷ lane.helping

  abbrev pending : List ℕ
  pending = map (λ (e : Entry). e.item) lane.pending

  runs-context : (c : ℕ) → run_by lane c ≡ get_or contexts c None
  runs-context zero = refl
  runs-context (suc h) = refl

  first-context : first_run lane ≡ first_of_helpers contexts
  first-context = by lane.running
    where
      by : (o : Option Running) → first_or_helpers o lane.helping ≡ first_of_helpers (o ∷ lane.helping)
      by (Some r) = refl
      by None = refl

  left_In : (i : ℕ) → IsLeftOn lane i → In i (pending ++ items_run contexts)
  left_In i (e, inl there, same) =
      subst (λ (j : ℕ). In j (pending ++ items_run contexts)) same
      (In-append_left e.item pending (items_run contexts) (entry_In lane.pending e there))
  left_In i (e, inr (c, r, runs, is), same) =
      subst (λ (j : ℕ). In j (pending ++ items_run contexts)) (ap (λ (f : Entry). f.item) is ∙ same)
      (In-append_right r.entry.item pending (items_run contexts)
      (run_In contexts c r (sym (runs-context c) ∙ runs)))

  -- different items of which an entry is unfinished are no more than the lane weighs
  pub few_left : (is : List ℕ) → Apart is → ((i : ℕ) → In i is → IsLeftOn lane i) → length is ≤ lane_weight lane
  few_left is apart left =
      let few : length is ≤ length (pending ++ items_run contexts) =
      Apart-within is (pending ++ items_run contexts) apart (λ i there. left_In i (left i there)) in
      omega (
        arith,
        few,
        length-append pending (items_run contexts),
        length-map lane.pending (λ (e : Entry). e.item),
        items_run-weight contexts,
      )

  other_left_In : (x : Running) → first_run lane ≡ Some x → (i : ℕ) → IsLeftOn lane i → i ≢ x.entry.item
      → In i (pending ++ others_run contexts)
  other_left_In x is i (e, inl there, same) other =
      subst (λ (j : ℕ). In j (pending ++ others_run contexts)) same
      (In-append_left e.item pending (others_run contexts) (entry_In lane.pending e there))
  other_left_In x is i (e, inr (c, r, runs, at), same) other =
      let item : r.entry.item ≡ i = ap (λ (f : Entry). f.item) at ∙ same in
      subst (λ (j : ℕ). In j (pending ++ others_run contexts)) item
      (In-append_right r.entry.item pending (others_run contexts)
      (other_In contexts x (sym first-context ∙ is) c r (sym (runs-context c) ∙ runs)
      (λ one. other (sym item ∙ one))))

  -- nor than it weighs without the first that runs
  pub few_others : (x : Running) → first_run lane ≡ Some x → (is : List ℕ) → Apart is
      → ((i : ℕ) → In i is → IsLeftOn lane i) → ((i : ℕ) → In i is → i ≢ x.entry.item)
      → run_weight (Some x) + length is ≤ lane_weight lane
  few_others x first is apart left other =
      let few : length is ≤ length (pending ++ others_run contexts) =
      Apart-within is (pending ++ others_run contexts) apart
      (λ i there. other_left_In x first i (left i there) (other i there)) in
      omega (
        arith,
        few,
        length-append pending (others_run contexts),
        length-map lane.pending (λ (e : Entry). e.item),
        others_run-weight contexts x (sym first-context ∙ first),
      )

-- ---- items on several lanes

abbrev pub total : (ℕ → ℕ) → List ℕ → ℕ
total f [] = 0
total f (q ∷ qs) = f q + total f qs

length-parts : (p : ℕ → Bool) (is : List ℕ)
    → length (filter p is) + length (filter (λ i. not (p i)) is) ≡ length is
length-parts p [] = refl
length-parts p (i ∷ is) = by (p i) (length-parts p is)
  where
    by : (b : Bool) → length (filter p is) + length (filter (λ i. not (p i)) is) ≡ length is
        → length (cond b (i ∷ filter p is) (filter p is))
        + length (cond (not b) (i ∷ filter (λ i. not (p i)) is) (filter (λ i. not (p i)) is))
        ≡ suc (length is)
    by true rest = omega arith
    by false rest = omega arith

-- if each lane weighs as much as is wanted of it and those of the items that are on it, then so do all
pub counted : (w : Wiring) (s : State) (f : ℕ → ℕ) (qs is : List ℕ) → Apart is
    → ((i : ℕ) → In i is → In (lane_of w i) qs)
    → ((q : ℕ) → In q qs → (js : List ℕ) → Apart js → ((j : ℕ) → In j js → In j is × (lane_of w j ≡ q))
    → f q + length js ≤ lane_weight (lane_at s q))
    → total f qs + length is ≤ weight_on s.lanes qs
counted w s f [] [] apart on fits = omega arith
counted w s f [] (i ∷ is) apart on fits = absurd (on i (inl refl))
counted w s f (q ∷ qs) is apart on fits =
    let here : ℕ → Bool = λ i. lane_of w i == q in
    let away : ℕ → Bool = λ i. not (lane_of w i == q) in
    let one : f q + length (filter here is) ≤ lane_weight (lane_at s q) =
    fits q (inl refl) (filter here is) (Apart-filter here is apart) (λ j there.
    let at = filter-In here j is there in
    (at.0, eqb-true (lane_of w j) q at.1)) in
    let more : total f qs + length (filter away is) ≤ weight_on s.lanes qs =
    counted w s f qs (filter away is) (Apart-filter away is apart)
    (λ i there.
    let at = filter-In away i is there in
    elim (on i at.0) [
      | inl same ↦ absurd (both_ways (not (lane_of w i == q)) (ap not (eq-eqb (lane_of w i) q same)) at.1)
      | inr later ↦ later
    ])
    (λ p there js js_apart each. fits p (inr there) js js_apart (λ j in_js.
    let at = each j in_js in
    ((filter-In away j is at.0).0, at.1))) in
    omega (arith, one, more, length-parts here is)
