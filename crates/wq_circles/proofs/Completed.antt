-- The components are found one after another, in the reverse of the order in which their vertices are finished.
use Rattle.std.proofs.Common.{◌≡◌, ◌≢◌, ℕ, ◌+◌, ◌<◌, ◌≤◌, ◌⊎◌, inl, inr, false, List, [], ◌++◌, length, drop, replicate, slice_index, refl, sym, subst, ap, ◌∙◌, arith}
use Rattle.std.specs.Prelude.{Contains, All}
use Rattle.std.proofs.lemmas.Bool.{cases_eq, cases_lt}
use Rattle.std.proofs.lemmas.List.{length-replicate, take-append-drop}
use Rattle.std.proofs.lemmas.List.Elements.{All-contains, Contains-append_right, Contains-append_cases}
use Rattle.wq_items.specs.Chain.{Repeats}
use Rattle.wq_circles.specs.Leading.{AreLowest, AreTogether, IsLowest, Leads}
use Rattle.wq_circles.specs.Lists.{Next, NextBack, listed_at}
use Rattle.wq_circles.specs.Searching.{AreFound, AreSettled, IsLeastOf, NextNew, Search, Spreads}
use Rattle.wq_circles.specs.Finishing.{IsFinishing, StandsBy}
use Rattle.wq_circles.proofs.Leading.{AreTogether-sym, AreTogether-trans, Leads-arc, Leads-closed, Leads-trans}
use Rattle.wq_circles.proofs.Once.{contains_or_not, once_apart, place-of, same_place}
use Rattle.wq_circles.proofs.Searched.{AreFound-none}
use Rattle.wq_circles.proofs.Turned.{Leads-arcs, Leads-turned}

-- of two vertices, the one that is finished first, at place i, has an arc to something that is together with the other one: so
-- the other one leads to it
pub Leads-back : (R : ℕ → ℕ → Type 0) (n : ℕ) (finished : List ℕ) (k i y : ℕ) → IsFinishing R n finished → i < k → k < length finished
    → R (slice_index finished i) y → AreTogether R (slice_index finished k) y → Leads R (slice_index finished k) (slice_index finished i)
Leads-back R n finished k i y is less within arc together = ends (at_v together) where
  v : ℕ
  v = slice_index finished k

  x : ℕ
  x = slice_index finished i

  -- v leads to the vertex, or is it
  IsLed : ℕ → Type 0
  IsLed z = (v ≡ z) ⊎ Leads R v z

  led_on : (z w : ℕ) → IsLed z → Leads R z w → Leads R v w
  led_on z w (inl same) leads = subst (λ (u : ℕ). Leads R u w) (sym same) leads
  led_on z w (inr led) leads = Leads-trans R v z w led leads

  -- the vertex is finished by the time of x, or v leads to x
  IsBefore : ℕ → Type 0
  IsBefore z = (StandsBy finished i z × IsLed z) ⊎ Leads R v x

  before : (z : ℕ) → IsLed z → (StandsBy finished i z ⊎ Leads R z x) → IsBefore z
  before z led (inl stands) = inl (stands, led)
  before z led (inr leads) = inr (led_on z x led leads)

  on : (z w : ℕ) → IsBefore z → R z w → IsBefore w
  on z w (inr leads) next = inr leads
  on z w (inl both) next =
      let stands = both.0 in
      before w (inr (led_on z w both.1 (Leads-arc R z w next)))
      (is.leads i stands.0 w stands.1 (omega (arith, less, within)) (subst (λ (u : ℕ). R u w) (sym stands.3) next))

  led_y : AreTogether R v y → IsLed y
  led_y (inl same) = inl same
  led_y (inr both) = inr both.0

  at_y : IsBefore y
  at_y = before y (led_y together) (is.leads i i y (omega arith) (omega (arith, less, within)) arc)

  at_v : AreTogether R v y → IsBefore v
  at_v (inl same) = subst IsBefore (sym same) at_y
  at_v (inr both) = Leads-closed R IsBefore on y v both.1 at_y

  ends : IsBefore v → Leads R v x
  ends (inr leads) = leads
  ends (inl both) =
      let stands = both.0 in
      let same : stands.0 ≡ k = same_place finished stands.0 k is.once stands.2 within stands.3 in
      absurd (omega (arith, same, stands.1, less))

-- the vertices at place k of the order and after it are found, with all that are together with them; for each that is found the
-- lowest is known
pub record AreFoundFrom (lists : List (List ℕ)) (finished : List ℕ) (k : ℕ) (s : Search) (lowest : List ℕ) : Type 0 where
  pub marks : length s.marks ≡ length lists
  pub found : AreFound s
  pub one_each : length lowest ≡ length lists
  pub later : (j : ℕ) → k ≤ j → j < length finished → Contains s.order (slice_index finished j)
  pub closed : (v w : ℕ) → Next lists w v → Contains s.order w → Contains s.order v
  pub answers : (v : ℕ) → Contains s.order v → IsLowest (NextBack lists) v (slice_index lowest v)

-- the vertex before place k is found already
pub AreFoundFrom-skipped : (lists : List (List ℕ)) (finished : List ℕ) (k j : ℕ) (s : Search) (lowest : List ℕ) → AreFoundFrom lists finished k s lowest → j + 1 ≡ k
    → Contains s.order (slice_index finished j) → AreFoundFrom lists finished j s lowest
AreFoundFrom-skipped lists finished k j s lowest is next has = record {
  marks = is.marks;
  found = is.found;
  one_each = is.one_each;
  later = λ i le lt. later i le lt (cases_eq i j);
  closed = is.closed;
  answers = is.answers;
} where
  later : (i : ℕ) → j ≤ i → i < length finished → ((i ≡ j) ⊎ (i ≢ j)) → Contains s.order (slice_index finished i)
  later i le lt (inl own) = subst (Contains s.order) (sym (ap (slice_index finished) own)) has
  later i le lt (inr other) = is.later i (omega (arith, le, other, next)) lt

-- the vertex before place k finds its component
pub AreFoundFrom-more : (lists : List (List ℕ)) (finished : List ℕ) (k j : ℕ) (s t : Search) (lowest new : List ℕ) → AreFoundFrom lists finished k s lowest → j + 1 ≡ k
    → j < length finished → IsFinishing (NextBack lists) (length lists) finished → ((u : ℕ) → All (λ w. w < length lists) (listed_at lists u))
    → ¬ Contains s.order (slice_index finished j) → Spreads lists s (slice_index finished j) t → AreSettled (drop (length s.order) t.order) lowest new
    → AreFoundFrom lists finished j t new
AreFoundFrom-more lists finished k j s t lowest new is next inside ordered within unfound spreads settled = record {
  marks = spreads.marks ∙ is.marks;
  found = spreads.found;
  one_each = settled.one_each ∙ is.one_each;
  later = λ i le lt. later i le lt (cases_eq i j);
  closed = closed;
  answers = λ u has. lowest_of u has (contains_or_not component u);
} where
  R : ℕ → ℕ → Type 0
  R = NextBack lists

  v : ℕ
  v = slice_index finished j

  component : List ℕ
  component = drop (length s.order) t.order

  v_in : Contains t.order v
  v_in = (spreads.reached v).1 (inr (inl refl))

  -- what wasn't found is before v in the order, or is v
  on : (x y : ℕ) → AreTogether R v x → NextNew lists s x y → AreTogether R v y
  on x y together step = go (cases_lt i k) (cases_eq i j) where
    below : y < length lists
    below = All-contains (λ w. w < length lists) (listed_at lists x) y (within x) step.0

    place : (m : ℕ) × (m < length finished) × (slice_index finished m ≡ y)
    place = place-of finished y (ordered.all y below)

    i : ℕ
    i = place.0

    to_v : AreTogether R v x → Leads R y v
    to_v (inl same) = subst (Leads R y) (sym same) (Leads-arc R y x step.0)
    to_v (inr both) = Leads-trans R y x v (Leads-arc R y x step.0) both.1

    go : ((i < k) ⊎ (k ≤ i)) → ((i ≡ j) ⊎ (i ≢ j)) → AreTogether R v y
    go (inr later) either = absurd (step.1 (subst (Contains s.order) place.2 (is.later i later place.1)))
    go (inl before) (inl own) = inl (sym (ap (slice_index finished) own) ∙ place.2)
    go (inl before) (inr other) =
        let less : i < j = omega (arith, before, other, next) in
        inr (subst (Leads R v) place.2 (Leads-back R (length lists) finished j i x ordered less inside (subst (λ (u : ℕ). R u x) (sym place.2) step.0) together), to_v together)

  is_together : (w : ℕ) → ((w ≡ v) ⊎ Leads (NextNew lists s) v w) → AreTogether R v w
  is_together w (inl same) = inl (sym same)
  is_together w (inr leads) = Leads-closed (NextNew lists s) (AreTogether R v) on v w leads (inl refl)

  closed : (u w : ℕ) → Next lists w u → Contains t.order w → Contains t.order u
  closed u w step has = go ((spreads.reached w).0 has) (contains_or_not s.order u) where
    go : (Contains s.order w ⊎ ((w ≡ v) ⊎ Leads (NextNew lists s) v w)) → (Contains s.order u ⊎ (¬ Contains s.order u)) → Contains t.order u
    go (inl before) either = (spreads.reached u).1 (inl (is.closed u w step before))
    go (inr reached) (inl old) = (spreads.reached u).1 (inl old)
    go (inr (inl own)) (inr none) = (spreads.reached u).1 (inr (inr (Leads-arc (NextNew lists s) v u (subst (λ (x : ℕ). Next lists x u) own step, none))))
    go (inr (inr leads)) (inr none) = (spreads.reached u).1 (inr (inr (Leads-trans (NextNew lists s) v w u leads (Leads-arc (NextNew lists s) w u (step, none)))))

  -- ---- the component

  split : t.order ≡ s.order ++ component
  split = sym (take-append-drop (length s.order) t.order) ∙ ap (λ (l : List ℕ). l ++ component) spreads.keeps

  parts : (w : ℕ) → Contains t.order w → Contains s.order w ⊎ Contains component w
  parts w has = Contains-append_cases s.order component w (subst (λ (l : List ℕ). Contains l w) split has)

  component_new : (w : ℕ) → Contains component w → ¬ Contains s.order w
  component_new w has old = once_apart s.order component w (subst (λ (l : List ℕ). ¬ Repeats l) split spreads.found.once) old has

  component_together : (w : ℕ) → Contains component w → AreTogether R v w
  component_together w has =
      elim ((spreads.reached w).0 (subst (λ (l : List ℕ). Contains l w) (sym split) (Contains-append_right s.order component w has))) [
        | inl old ↦ absurd (component_new w has old)
        | inr reached ↦ is_together w reached
      ]

  -- what a vertex leads to by arcs turned round
  turned : (u w : ℕ) → Leads R u w → Leads (Next lists) w u
  turned u w leads = Leads-turned R (Next lists) (λ x y arc. arc) u w leads

  together_in : (w : ℕ) → AreTogether R v w → Contains t.order w
  together_in w (inl same) = subst (Contains t.order) same v_in
  together_in w (inr both) = Leads-closed (Next lists) (Contains t.order) (λ x y has step. closed y x step has) v w (turned w v both.1) v_in

  together_new : (w : ℕ) → AreTogether R v w → ¬ Contains s.order w
  together_new w (inl same) old = unfound (subst (Contains s.order) (sym same) old)
  together_new w (inr both) old = unfound (Leads-closed (Next lists) (Contains s.order) (λ x y has step. is.closed y x step has) w v (turned v w both.0) old)

  together_component : (w : ℕ) → AreTogether R v w → Contains component w
  together_component w together = elim (parts w (together_in w together)) [
    | inl old ↦ absurd (together_new w together old)
    | inr own ↦ own
  ]

  lowest_of : (u : ℕ) → Contains t.order u → (Contains component u ⊎ (¬ Contains component u)) → IsLowest R u (slice_index new u)
  lowest_of u has (inl own) =
      let c : ℕ = slice_index new u in
      let least : IsLeastOf component c = settled.settled u own in
      let with_v : AreTogether R v u = component_together u own in
      record {
        together = AreTogether-trans R u v c (AreTogether-sym R v u with_v) (component_together c least.one);
        least = λ w together. All-contains (λ x. c ≤ x) component w least.least (together_component w (AreTogether-trans R v u w with_v together));
      }
  lowest_of u has (inr other) = elim (parts u has) [
    | inl old ↦ subst (IsLowest R u) (sym (settled.others u other)) (is.answers u old)
    | inr own ↦ absurd (other own)
  ]

  later : (i : ℕ) → j ≤ i → i < length finished → ((i ≡ j) ⊎ (i ≢ j)) → Contains t.order (slice_index finished i)
  later i le lt (inl own) = subst (Contains t.order) (sym (ap (slice_index finished) own)) v_in
  later i le lt (inr other) = (spreads.reached (slice_index finished i)).1 (inl (is.later i (omega (arith, le, other, next)) lt))

pub AreLowest-done : (lists : List (List ℕ)) (finished : List ℕ) (s : Search) (lowest : List ℕ) → AreFoundFrom lists finished 0 s lowest
    → IsFinishing (NextBack lists) (length lists) finished → AreLowest (NextBack lists) (length lists) lowest
AreLowest-done lists finished s lowest is ordered = record {
  one_each = is.one_each;
  is = λ v lt. (
      let place = place-of finished v (ordered.all v lt) in
      is.answers v (subst (Contains s.order) place.2 (is.later place.0 (omega arith) place.1)));
}

-- ---- the same vertices by other arcs

module _ (R S : ℕ → ℕ → Type 0) (there : (x y : ℕ) → R x y → S x y) (back : (x y : ℕ) → S x y → R x y) where
  pub IsFinishing-arcs : (n : ℕ) (finished : List ℕ) → IsFinishing R n finished → IsFinishing S n finished
  IsFinishing-arcs n finished is = record {
    below = is.below;
    all = is.all;
    once = is.once;
    leads = λ k i w le lt arc. elim (is.leads k i w le lt (back (slice_index finished i) w arc)) [
      | inl stands ↦ inl stands
      | inr leads ↦ inr (Leads-arcs R S there w (slice_index finished k) leads)
    ];
  }

  AreTogether-there : (v w : ℕ) → AreTogether R v w → AreTogether S v w
  AreTogether-there v w (inl same) = inl same
  AreTogether-there v w (inr both) = inr (Leads-arcs R S there v w both.0, Leads-arcs R S there w v both.1)

  AreTogether-back : (v w : ℕ) → AreTogether S v w → AreTogether R v w
  AreTogether-back v w (inl same) = inl same
  AreTogether-back v w (inr both) = inr (Leads-arcs S R back v w both.0, Leads-arcs S R back w v both.1)

  pub AreLowest-arcs : (n : ℕ) (lowest : List ℕ) → AreLowest R n lowest → AreLowest S n lowest
  AreLowest-arcs n lowest are = record {
    one_each = are.one_each;
    is = λ v lt. (
        let own = are.is v lt in
        record {
          together = AreTogether-there v (slice_index lowest v) own.together;
          least = λ w together. own.least w (AreTogether-back v w together);
        });
  }
