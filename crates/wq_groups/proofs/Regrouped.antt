-- The first line that orders a name again.
use Rattle.std.proofs.Common.{◌≡◌, ◌↔◌, ℕ, inl, inr, true, List, [], ◌∷◌, ◌++◌, Some, None, refl, sym, ap, subst, ◌∙◌, append_assoc, append-nil, arith}
use Rattle.std.proofs.lemmas.Bool.{cases_Bool, both_ways, cond-true, cond-false}
use Rattle.std.proofs.lemmas.List.Concat.{flat_map-append}
use Rattle.wq_decl.specs.declared.directive.Directive.{Directive}
use Rattle.wq_groups.specs.Grouping.{names_ordered, has_twin, first_regrouped, all_ordered, IsLowestRegrouped}
use Rattle.wq_groups.proofs.Among.{Differ, Differ-append_left, Differ-has_twin, has_twin-Differ}

pub all_ordered-push : (ds : List (ℕ × Directive)) (d : ℕ × Directive) → all_ordered (ds ++ (d ∷ [])) ≡ all_ordered ds ++ names_ordered d
all_ordered-push ds d = flat_map-append names_ordered ds (d ∷ []) ∙ ap (λ (l : List (List ℕ)). all_ordered ds ++ l) (append-nil (names_ordered d))

-- a first line that adds no twin, and one that does
first_regrouped-skip : (names : List (List ℕ)) (d : ℕ × Directive) (ds : List (ℕ × Directive)) → Differ (names ++ names_ordered d)
    → first_regrouped names (d ∷ ds) ≡ first_regrouped (names ++ names_ordered d) ds
first_regrouped-skip names d ds differ = cond-false (has_twin (names ++ names_ordered d)) (Some d.0) (first_regrouped (names ++ names_ordered d) ds) (has_twin-Differ (names ++ names_ordered d) differ)

first_regrouped-here : (names : List (List ℕ)) (d : ℕ × Directive) (ds : List (ℕ × Directive)) → has_twin (names ++ names_ordered d) ≡ true → first_regrouped names (d ∷ ds) ≡ Some d.0
first_regrouped-here names d ds twin = cond-true (has_twin (names ++ names_ordered d)) (Some d.0) (first_regrouped (names ++ names_ordered d) ds) twin

twin_from : (names : List (List ℕ)) → ¬ Differ names → has_twin names ≡ true
twin_from names twice = elim (cases_Bool (has_twin names)) [ inl twin ↦ twin | inr none ↦ absurd (twice (Differ-has_twin names none)) ]

-- ---- no such line

Differ-none : (names : List (List ℕ)) (ds : List (ℕ × Directive)) → Differ names → first_regrouped names ds ≡ None → Differ (names ++ all_ordered ds)
Differ-none names [] differ none = subst Differ (sym (append-nil names)) differ
Differ-none names (d ∷ ds) differ none = elim (cases_Bool (has_twin (names ++ names_ordered d))) [
  | inl twin ↦ absurd cc (sym (first_regrouped-here names d ds twin) ∙ none)
  | inr apart ↦
      let more = Differ-has_twin (names ++ names_ordered d) apart in
      subst Differ (append_assoc names (names_ordered d) (all_ordered ds)) (Differ-none (names ++ names_ordered d) ds more (sym (first_regrouped-skip names d ds more) ∙ none))
]

first_regrouped-append : (names : List (List ℕ)) (xs ys : List (ℕ × Directive)) → Differ (names ++ all_ordered xs) → first_regrouped names (xs ++ ys) ≡ first_regrouped (names ++ all_ordered xs) ys
first_regrouped-append names [] ys differ = ap (λ (l : List (List ℕ)). first_regrouped l ys) (sym (append-nil names))
first_regrouped-append names (d ∷ xs) ys differ =
    let more : Differ ((names ++ names_ordered d) ++ all_ordered xs) = subst Differ (sym (append_assoc names (names_ordered d) (all_ordered xs))) differ in
    first_regrouped-skip names d (xs ++ ys) (Differ-append_left (names ++ names_ordered d) (all_ordered xs) more) ∙ first_regrouped-append (names ++ names_ordered d) xs ys more
    ∙ ap (λ (l : List (List ℕ)). first_regrouped l ys) (append_assoc names (names_ordered d) (all_ordered xs))

pub first_regrouped-none : (ds : List (ℕ × Directive)) → Differ (all_ordered ds) → first_regrouped [] ds ≡ None
first_regrouped-none ds differ = ap (first_regrouped []) (sym (append-nil ds)) ∙ first_regrouped-append [] ds [] differ

pub Differ-all_ordered : (ds : List (ℕ × Directive)) → first_regrouped [] ds ≡ None → Differ (all_ordered ds)
Differ-all_ordered ds none = Differ-none [] ds (λ i j d lt within. absurd (omega arith)) none

pub none-iff : (ds : List (ℕ × Directive)) → (first_regrouped [] ds ≡ None) ↔ Differ (all_ordered ds)
none-iff ds = (Differ-all_ordered ds, first_regrouped-none ds)

-- ---- the first such line

pub first_regrouped-lowest : (ds : List (ℕ × Directive)) (n : ℕ) → IsLowestRegrouped ds n → first_regrouped [] ds ≡ Some n
first_regrouped-lowest ds n lowest =
    let twice : ¬ Differ (all_ordered lowest.before ++ names_ordered lowest.line) = λ (differ : Differ (all_ordered lowest.before ++ names_ordered lowest.line)). lowest.twice (subst Differ (sym (all_ordered-push lowest.before lowest.line)) differ) in
    ap (first_regrouped []) lowest.parts ∙ first_regrouped-append [] lowest.before (lowest.line ∷ lowest.after) lowest.apart
    ∙ first_regrouped-here (all_ordered lowest.before) lowest.line lowest.after (twin_from (all_ordered lowest.before ++ names_ordered lowest.line) twice) ∙ ap (λ (k : ℕ). Some k) lowest.number

lowest_after : (before ds : List (ℕ × Directive)) (n : ℕ) → Differ (all_ordered before) → first_regrouped (all_ordered before) ds ≡ Some n → IsLowestRegrouped (before ++ ds) n
lowest_after before [] n differ is = absurd cc
lowest_after before (d ∷ ds) n differ is = elim (cases_Bool (has_twin (all_ordered before ++ names_ordered d))) [
  | inl twin ↦ record {
    before = before;
    line = d;
    after = ds;
    parts = refl;
    number = same_number (sym (first_regrouped-here (all_ordered before) d ds twin) ∙ is);
    apart = differ;
    twice = λ (again : Differ (all_ordered (before ++ (d ∷ [])))). both_ways (has_twin (all_ordered before ++ names_ordered d)) (has_twin-Differ (all_ordered before ++ names_ordered d) (subst Differ (all_ordered-push before d) again)) twin;
  }
  | inr apart ↦
      let more = Differ-has_twin (all_ordered before ++ names_ordered d) apart in
      subst (λ (l : List (ℕ × Directive)). IsLowestRegrouped l n) (append_assoc before (d ∷ []) ds)
      (lowest_after (before ++ (d ∷ [])) ds n (subst Differ (sym (all_ordered-push before d)) more)
      (ap (λ (l : List (List ℕ)). first_regrouped l ds) (all_ordered-push before d) ∙ sym (first_regrouped-skip (all_ordered before) d ds more) ∙ is))
]
  where
    same_number : {a b : ℕ} → Some a ≡ Some b → a ≡ b
    same_number e = cc

pub lowest-first_regrouped : (ds : List (ℕ × Directive)) (n : ℕ) → first_regrouped [] ds ≡ Some n → IsLowestRegrouped ds n
lowest-first_regrouped ds n is = lowest_after [] ds n (λ i j d lt within. absurd (omega arith)) is

pub lowest-iff : (ds : List (ℕ × Directive)) (n : ℕ) → (first_regrouped [] ds ≡ Some n) ↔ IsLowestRegrouped ds n
lowest-iff ds n = (lowest-first_regrouped ds n, first_regrouped-lowest ds n)
