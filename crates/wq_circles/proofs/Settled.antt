-- The lowest of some vertices is made the answer for each of them.
use Rattle.std.proofs.Common.{◌≡◌, ◌≢◌, ℕ, ◌+◌, ◌<◌, ◌≤◌, ◌⊎◌, inl, inr, List, [], ◌∷◌, ◌++◌, length, take, set, slice_index, refl, sym, subst, ap, ◌∙◌, arith}
use Rattle.std.specs.Prelude.{Contains}
use Rattle.std.proofs.lemmas.Bool.{cases_eq}
use Rattle.std.proofs.lemmas.List.{length-set, get_or-set_same, get_or-set_other, take_all, take_more}
use Rattle.std.proofs.lemmas.List.Elements.{Contains-append_left, Contains-push, Contains-push_cases}
use Rattle.wq_circles.specs.Searching.{AreSettled, IsLeastOf}

-- c is the answer for the first i vertices
pub record IsSettling (vertices old now : List ℕ) (c i : ℕ) : Type 0 where
  pub one_each : length now ≡ length old
  pub settled : (v : ℕ) → Contains (take i vertices) v → slice_index now v ≡ c
  pub others : (v : ℕ) → (¬ Contains (take i vertices) v) → slice_index now v ≡ slice_index old v

pub IsSettling-none : (vertices old : List ℕ) (c : ℕ) → IsSettling vertices old old c 0
IsSettling-none vertices old c = record { one_each = refl; settled = λ v has. absurd (omega (arith, has.1)); others = λ v none. refl }

pub IsSettling-more : (vertices old now : List ℕ) (c i w : ℕ) → IsSettling vertices old now c i → i < length vertices → w ≡ slice_index vertices i → w < length old
    → IsSettling vertices old (set now w c) c (i + 1)
IsSettling-more vertices old now c i w is inside at within = record {
  one_each = length-set now w c ∙ is.one_each;
  settled = λ v has. settled v (subst (λ (l : List ℕ). Contains l v) taken has) (cases_eq v w);
  others = λ v none. others v (λ has. none (subst (λ (l : List ℕ). Contains l v) (sym taken) has));
} where
  taken : take (i + 1) vertices ≡ take i vertices ++ (w ∷ [])
  taken = take_more vertices i 0 inside ∙ ap (λ (x : ℕ). take i vertices ++ (x ∷ [])) (sym at)

  settled : (v : ℕ) → Contains (take i vertices ++ (w ∷ [])) v → ((v ≡ w) ⊎ (v ≢ w)) → slice_index (set now w c) v ≡ c
  settled v has (inl own) = (let same = is.one_each in ap (slice_index (set now w c)) own ∙ get_or-set_same now w c 0 (omega (arith, within, same)))
  settled v has (inr other) = get_or-set_other now w v c 0 other ∙ is.settled v (elim (Contains-push_cases (take i vertices) w v has) [
    | inl before ↦ before
    | inr same ↦ absurd (other (sym same))
  ])

  others : (v : ℕ) → (¬ Contains (take i vertices ++ (w ∷ [])) v) → slice_index (set now w c) v ≡ slice_index old v
  others v none =
      let other : v ≢ w = λ own. none (subst (Contains (take i vertices ++ (w ∷ []))) (sym own) (Contains-push (take i vertices) w)) in
      get_or-set_other now w v c 0 other ∙ is.others v (λ before. none (Contains-append_left (take i vertices) (w ∷ []) v before))

pub AreSettled-all : (vertices old now : List ℕ) (c i : ℕ) → IsSettling vertices old now c i → length vertices ≤ i → IsLeastOf vertices c → AreSettled vertices old now
AreSettled-all vertices old now c i is all least = record {
  one_each = is.one_each;
  settled = λ v has. subst (IsLeastOf vertices) (sym (is.settled v (subst (λ (l : List ℕ). Contains l v) (sym taken) has))) least;
  others = λ v none. is.others v (λ has. none (subst (λ (l : List ℕ). Contains l v) taken has));
} where
  taken : take i vertices ≡ vertices
  taken = take_all i vertices all
