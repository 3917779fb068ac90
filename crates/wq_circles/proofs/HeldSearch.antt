-- A search that goes on from vertices, along lists, to all that they lead to.
use Rattle.std.proofs.Common.{◌≡◌, ℕ, ◌<◌, ◌⊎◌, ◌↔◌, inl, inr, Bool, true, false, List, [], ◌∷◌, ◌++◌, length}
use Rattle.std.proofs.Common.{replicate, refl, sym, ap, subst, ◌∙◌, arith}
use Rattle.std.specs.Prelude.{Contains}
use Rattle.std.proofs.lemmas.List.{length-replicate}
use Rattle.std.proofs.lemmas.List.Elements.{Contains-append_left, Contains-append_right, Contains-append_cases}
use Rattle.wq_items.proofs.Lists.{Contains-here}
use Rattle.wq_graph.proofs.ListLemmas.{Contains-cases}
use Rattle.wq_circles.specs.Leading.{Leads}
use Rattle.wq_circles.specs.Lists.{Next}
use Rattle.wq_circles.specs.Searching.{AreFound, NextNew, Search, Spreads, is_marked}
use Rattle.wq_circles.specs.Held.{FindsAll, IsReached, LeadsToFound}
use Rattle.wq_circles.proofs.Leading.{Leads-arc, Leads-closed, Leads-trans}
use Rattle.wq_circles.proofs.OnCircles.{Leads-keeps}
use Rattle.wq_circles.proofs.Once.{contains_or_not}
use Rattle.wq_circles.proofs.Searched.{AreFound-none}

-- a search among n vertices that has found none
abbrev pub none_found : ℕ → Search
none_found n = record { marks = replicate n false; order = [] }

nothing_in : (w : ℕ) → ¬ Contains [] w
nothing_in w has = omega (arith, has.1)

module _ (lists : List (List ℕ)) where
  -- one vertex is reached
  reached_from : (v w : ℕ) → ((w ≡ v) ⊎ Leads (Next lists) v w) → IsReached lists (v ∷ []) w
  reached_from v w by = (v, Contains-here v [], by)

  by_one : (v w : ℕ) → IsReached lists (v ∷ []) w → (w ≡ v) ⊎ Leads (Next lists) v w
  by_one v w (u, has, by) = elim (Contains-cases v [] u has) [
    | inl same ↦ subst (λ (x : ℕ). (w ≡ x) ⊎ Leads (Next lists) x w) (sym same) by
    | inr none ↦ absurd (nothing_in u none)
  ]

  -- what is found leads to what is found
  found_by : (s : Search) → LeadsToFound lists s → (v w : ℕ) → Contains s.order v
      → ((w ≡ v) ⊎ Leads (Next lists) v w) → Contains s.order w
  found_by s closed v w has (inl same) = subst (Contains s.order) (sym same) has
  found_by s closed v w has (inr leads) = Leads-closed (Next lists) (Contains s.order) closed v w leads has

  -- nothing new is found from a vertex that was found
  pub FindsAll-known : (s : Search) (v : ℕ) → AreFound s → LeadsToFound lists s → Contains s.order v
      → FindsAll lists s (v ∷ []) s
  FindsAll-known s v found closed has = record {
    marks = refl;
    found = found;
    closed = closed;
    reached = λ w. (
      λ there. inl there,
      λ either. elim either [
        | inl there ↦ there
        | inr reached ↦ found_by s closed v w has (by_one v w reached)
      ],
    );
  }

  -- a search that spreads from a vertex by way of unfound ones finds all that it leads to
  pub FindsAll-spread : (s : Search) (v : ℕ) (t : Search) → LeadsToFound lists s → Spreads lists s v t
      → FindsAll lists s (v ∷ []) t
  FindsAll-spread s v t closed spreads = record {
    marks = spreads.marks;
    found = spreads.found;
    closed = λ x y has next. onward x y has next ((spreads.reached x).0 has) (contains_or_not s.order y);
    reached = λ w. (
      λ there. elim ((spreads.reached w).0 there) [
        | inl before ↦ inl before
        | inr new ↦ inr (reached_from v w (elim new [
          | inl same ↦ inl same
          | inr leads ↦ inr (Leads-keeps (NextNew lists s) (Next lists) (λ x y next. next.0) v w leads)
        ]))
      ],
      λ either. elim either [
        | inl before ↦ (spreads.reached w).1 (inl before)
        | inr reached ↦ from w (by_one v w reached)
      ],
    );
  }
    where
      onward : (x y : ℕ) → Contains t.order x → Next lists x y
          → (Contains s.order x ⊎ ((x ≡ v) ⊎ Leads (NextNew lists s) v x))
          → (Contains s.order y ⊎ (¬ Contains s.order y)) → Contains t.order y
      onward x y has next either (inl old) = (spreads.reached y).1 (inl old)
      onward x y has next (inl before) (inr new) = absurd (new (closed x y before next))
      onward x y has next (inr (inl same)) (inr new) =
          let arc : NextNew lists s v y = (subst (λ (z : ℕ). Next lists z y) same next, new) in
          (spreads.reached y).1 (inr (inr (Leads-arc (NextNew lists s) v y arc)))
      onward x y has next (inr (inr leads)) (inr new) =
          (spreads.reached y).1
          (inr (inr (Leads-trans (NextNew lists s) v x y leads (Leads-arc (NextNew lists s) x y (next, new)))))

      at_v : Contains t.order v
      at_v = (spreads.reached v).1 (inr (inl refl))

      from : (w : ℕ) → ((w ≡ v) ⊎ Leads (Next lists) v w) → Contains t.order w
      from w (inl same) = subst (Contains t.order) (sym same) at_v
      from w (inr leads) =
          Leads-closed (Next lists) (Contains t.order)
          (λ x y has next. onward x y has next ((spreads.reached x).0 has) (contains_or_not s.order y)) v w leads at_v

  -- a search that begins
  pub FindsAll-begun : (n : ℕ) (t : Search) → t.marks ≡ replicate n false → t.order ≡ []
      → FindsAll lists (none_found n) [] t
  FindsAll-begun n t unmarked empty = record {
    marks = ap (λ (m : List Bool). length m) unmarked;
    found = AreFound-none t n unmarked empty;
    closed = λ v w has next. absurd (nothing_in v (subst (λ (l : List ℕ). Contains l v) empty has));
    reached = λ w. (
      λ there. inl (subst (λ (l : List ℕ). Contains l w) empty there),
      λ either. elim either [
        | inl there ↦ absurd (nothing_in w there)
        | inr reached ↦ absurd (nothing_in reached.0 reached.1)
      ],
    );
  }

  pub FindsAll-none : (s : Search) → AreFound s → LeadsToFound lists s → FindsAll lists s [] s
  FindsAll-none s found closed = record {
    marks = refl;
    found = found;
    closed = closed;
    reached = λ w. (
      λ there. inl there,
      λ either. elim either [ inl there ↦ there | inr reached ↦ absurd (nothing_in reached.0 reached.1) ],
    );
  }

  -- first from some vertices, and then from others
  pub FindsAll-then : (s : Search) (vs : List ℕ) (t : Search) (ws : List ℕ) (u : Search) → FindsAll lists s vs t
      → FindsAll lists t ws u → FindsAll lists s (vs ++ ws) u
  FindsAll-then s vs t ws u one two = record {
    marks = two.marks ∙ one.marks;
    found = two.found;
    closed = two.closed;
    reached = λ w. (
      λ there. elim ((two.reached w).0 there) [
        | inl before ↦ elim ((one.reached w).0 before) [
          | inl old ↦ inl old
          | inr (v, has, by) ↦ inr (v, Contains-append_left vs ws v has, by)
        ]
        | inr (v, has, by) ↦ inr (v, Contains-append_right vs ws v has, by)
      ],
      λ either. elim either [
        | inl old ↦ (two.reached w).1 (inl ((one.reached w).1 (inl old)))
        | inr (v, has, by) ↦ elim (Contains-append_cases vs ws v has) [
          | inl first ↦ (two.reached w).1 (inl ((one.reached w).1 (inr (v, first, by))))
          | inr second ↦ (two.reached w).1 (inr (v, second, by))
        ]
      ],
    );
  }

  -- what a search from nothing has marked
  pub marked-reached : (n : ℕ) (vs : List ℕ) (t : Search) → FindsAll lists (none_found n) vs t → (w : ℕ) → w < n
      → (is_marked t.marks w ≡ true) ↔ IsReached lists vs w
  marked-reached n vs t finds w below =
      let within : w < length t.marks =
      omega (arith, below, finds.marks, length-replicate n false) in (
        λ is. elim ((finds.reached w).0 ((finds.found.marked w within).0 is)) [
          | inl none ↦ absurd (nothing_in w none)
          | inr reached ↦ reached
        ],
        λ reached. (finds.found.marked w within).1 ((finds.reached w).1 (inr reached)),
      )

  pub marks-count : (n : ℕ) (vs : List ℕ) (t : Search) → FindsAll lists (none_found n) vs t → length t.marks ≡ n
  marks-count n vs t finds = finds.marks ∙ length-replicate n false
