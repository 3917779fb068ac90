-- A search under way: what it has found, and what it found when it has looked at all.
use Rattle.std.proofs.Common.{◌≡◌, ◌≢◌, ℕ, suc, ◌+◌, ◌<◌, ◌≤◌, ◌⊎◌, ◌↔◌, inl, inr, Bool, true, false, List, [], ◌∷◌, ◌++◌, length, take, get_or, set, replicate, slice_index, None, Some, refl, sym, subst, ap, ◌∙◌, arith}
use Rattle.std.specs.Prelude.{Contains, All, slice_get}
use Rattle.std.proofs.lemmas.Bool.{cases_eq, cases_lt, cond_both}
use Rattle.std.proofs.lemmas.List.{length-append, length-set, length-take-le, get_or-set_same, get_or-set_other, get_or-replicate, length-replicate, get_or_append_left, get_or_default, get_or-take, ext_get_or}
use Rattle.std.proofs.lemmas.List.Elements.{All-append, All-contains, All-nil, Contains-get_or, Contains-append_left, Contains-append_right, Contains-append_cases}
use Rattle.std.proofs.lemmas.Option.{get_or_from_slice_get, slice_get_within, slice_get-get_or, none-some}
use Rattle.wq_items.specs.Chain.{Repeats}
use Rattle.wq_items.proofs.Lists.{Contains-here, Contains-later}
use Rattle.wq_graph.proofs.ListLemmas.{Contains-cases}
use Rattle.wq_circles.specs.Leading.{Leads}
use Rattle.wq_circles.specs.Lists.{Next, listed_at}
use Rattle.wq_circles.specs.Searching.{Search, AreFound, NextNew, Spreads, is_marked, with_found, with_all_found}
use Rattle.wq_circles.proofs.Once.{place-of, contains_or_not, at_most, once_push}
use Rattle.wq_circles.proofs.Leading.{Leads-arc, Leads-trans, Leads-closed}

-- a search came from s to t by way of these vertices: what was found stays in its place, and only these came
pub record Grows (s t : Search) (ws : List ℕ) : Type 0 where
  pub marks : length t.marks ≡ length s.marks
  pub found : AreFound t
  pub longer : length s.order ≤ length t.order
  pub keeps : (j : ℕ) → j < length s.order → slice_index t.order j ≡ slice_index s.order j
  pub all : (u : ℕ) → Contains ws u → Contains t.order u
  pub only : (u : ℕ) → Contains t.order u → Contains s.order u ⊎ Contains ws u

-- what stays in its place is still found
pub Grows-contains : (s t : Search) (ws : List ℕ) → Grows s t ws → (u : ℕ) → Contains s.order u → Contains t.order u
Grows-contains s t ws grows u (k, within, is) =
    let longer = grows.longer in
    let at : slice_index t.order k ≡ slice_index s.order k = grows.keeps k within in
    let here : k < length t.order = omega (arith, longer, within) in
    (k, here, get_or_default t.order k u 0 here ∙ at ∙ get_or_default s.order k 0 u within ∙ is)

-- nothing new is added by what is found already
Grows-none : (s : Search) (w : ℕ) → AreFound s → Contains s.order w → Grows s s (w ∷ [])
Grows-none s w found at = record {
  marks = refl;
  found = found;
  longer = omega arith;
  keeps = λ j lt. refl;
  all = λ u has. elim (Contains-cases w [] u has) [ inl is ↦ subst (Contains s.order) is at | inr none ↦ absurd (omega (arith, none.1)) ];
  only = λ u has. inl has;
}

-- a vertex that isn't found yet comes to the end of the order
Grows-new : (s : Search) (w : ℕ) → AreFound s → w < length s.marks → is_marked s.marks w ≡ false
    → Grows s (record { marks = set s.marks w true; order = s.order ++ (w ∷ []) }) (w ∷ [])
Grows-new s w found within unmarked = record {
  marks = length-set s.marks w true;
  found = record { below = below; marked = marked; once = once };
  longer = omega (arith, length-append s.order (w ∷ []));
  keeps = λ j lt. get_or_append_left s.order (w ∷ []) 0 j lt;
  all = λ u has. Contains-append_right s.order (w ∷ []) u has;
  only = λ u has. Contains-append_cases s.order (w ∷ []) u has;
} where
  below : All (λ u. u < length (set s.marks w true)) (s.order ++ (w ∷ []))
  below = subst (λ (n : ℕ). All (λ u. u < n) (s.order ++ (w ∷ []))) (sym (length-set s.marks w true))
      (All-append (λ u. u < length s.marks) s.order (w ∷ []) found.below (λ k d lt. (let at : k ≡ 0 = omega (arith, lt) in subst (λ (m : ℕ). get_or (w ∷ []) m d < length s.marks) (sym at) within)))

  other_mark : (u : ℕ) → u ≢ w → is_marked (set s.marks w true) u ≡ is_marked s.marks u
  other_mark u other = get_or-set_other s.marks w u true false other

  new_is : ¬ Contains s.order w
  new_is at = let holds : is_marked s.marks w ≡ true = (found.marked w within).1 at in absurd (cc)

  marked : (u : ℕ) → u < length (set s.marks w true) → (is_marked (set s.marks w true) u ≡ true) ↔ Contains (s.order ++ (w ∷ [])) u
  marked u lt = go (cases_eq u w) where
    lt_old : u < length s.marks
    lt_old = omega (arith, lt, length-set s.marks w true)

    old : u ≢ w → Contains (s.order ++ (w ∷ [])) u → Contains s.order u
    old other has = elim (Contains-append_cases s.order (w ∷ []) u has) [
      | inl before ↦ before
      | inr last ↦ elim (Contains-cases w [] u last) [ inl is ↦ absurd (other (sym is)) | inr none ↦ absurd (omega (arith, none.1)) ]
    ]

    go : ((u ≡ w) ⊎ (u ≢ w)) → (is_marked (set s.marks w true) u ≡ true) ↔ Contains (s.order ++ (w ∷ [])) u
    go (inl own) = (
      (λ _. Contains-append_right s.order (w ∷ []) u (subst (λ (x : ℕ). Contains (w ∷ []) x) (sym own) (Contains-here w []))),
      (λ _. ap (is_marked (set s.marks w true)) own ∙ get_or-set_same s.marks w true false within),
    )
    go (inr other) = (
      (λ holds. Contains-append_left s.order (w ∷ []) u ((found.marked u lt_old).0 (sym (other_mark u other) ∙ holds))),
      (λ has. other_mark u other ∙ (found.marked u lt_old).1 (old other has)),
    )

  once : ¬ Repeats (s.order ++ (w ∷ []))
  once = once_push s.order w found.once new_is

pub Grows-one : (s : Search) (w : ℕ) → AreFound s → w < length s.marks → Grows s (with_found s w) (w ∷ [])
Grows-one s w found within =
    cond_both (is_marked s.marks w) s (record { marks = set s.marks w true; order = s.order ++ (w ∷ []) }) (λ (t : Search). Grows s t (w ∷ []))
    (λ holds. Grows-none s w found ((found.marked w within).0 holds))
    (λ fails. Grows-new s w found within fails)

pub Grows-all : (ws : List ℕ) (s : Search) → AreFound s → All (λ w. w < length s.marks) ws → Grows s (with_all_found s ws) ws
Grows-all [] s found within = record {
  marks = refl;
  found = found;
  longer = omega arith;
  keeps = λ j lt. refl;
  all = λ u has. absurd (omega (arith, has.1));
  only = λ u has. inl has;
}
Grows-all (w ∷ ws) s found within =
    let one : Grows s (with_found s w) (w ∷ []) = Grows-one s w found (within 0 w (omega arith)) in
    let rest : All (λ u. u < length (with_found s w).marks) ws =
    subst (λ (n : ℕ). All (λ u. u < n) ws) (sym one.marks) (λ k d lt. within (suc k) d (omega (arith, lt))) in
    let more : Grows (with_found s w) (with_all_found (with_found s w) ws) ws = Grows-all ws (with_found s w) one.found rest in
    let end : Search = with_all_found (with_found s w) ws in
    record {
      marks = more.marks ∙ one.marks;
      found = more.found;
      longer = omega (arith, one.longer, more.longer);
      keeps = λ j lt. more.keeps j (omega (arith, lt, one.longer)) ∙ one.keeps j lt;
      all = λ u has. elim (Contains-cases w ws u has) [
        | inl is ↦ Grows-contains (with_found s w) end ws more u (one.all u (subst (λ (x : ℕ). Contains (w ∷ []) x) is (Contains-here w [])))
        | inr later ↦ more.all u later
      ];
      only = λ u has. elim (more.only u has) [
        | inl before ↦ elim (one.only u before) [
          | inl old ↦ inl old
          | inr here ↦ elim (Contains-cases w [] u here) [ inl is ↦ inr (subst (λ (x : ℕ). Contains (w ∷ ws) x) is (Contains-here w ws)) | inr none ↦ absurd (omega (arith, none.1)) ]
        ]
        | inr later ↦ inr (Contains-later w ws u later)
      ];
    }

-- there are as many marks as before
marks-with_found : (s : Search) (w : ℕ) → length (with_found s w).marks ≡ length s.marks
marks-with_found s w =
    cond_both (is_marked s.marks w) s (record { marks = set s.marks w true; order = s.order ++ (w ∷ []) }) (λ (t : Search). length t.marks ≡ length s.marks)
    (λ _. refl) (λ _. length-set s.marks w true)

pub marks-with_all_found : (ws : List ℕ) (s : Search) → length (with_all_found s ws).marks ≡ length s.marks
marks-with_all_found [] s = refl
marks-with_all_found (w ∷ ws) s = marks-with_all_found ws (with_found s w) ∙ marks-with_found s w

-- if no vertex is marked, none is found
pub AreFound-none : (s : Search) (n : ℕ) → s.marks ≡ replicate n false → s.order ≡ [] → AreFound s
AreFound-none s n unmarked empty = record {
  below = subst (All (λ w. w < length s.marks)) (sym empty) (All-nil (λ w. w < length s.marks));
  marked = λ w lt. (
    (λ holds. (let fails : is_marked s.marks w ≡ false = ap (λ (m : List Bool). is_marked m w) unmarked ∙ get_or-replicate n w false false (omega (arith, lt, ap length unmarked, length-replicate n false)) in absurd (cc))),
    (λ has. (let none : length s.order ≡ 0 = ap length empty in absurd (omega (arith, none, has.1)))),
  );
  once = λ (i, j, less, upto, same). (let none : length s.order ≡ 0 = ap length empty in absurd (omega (arith, none, upto)));
}

-- no more are found than there are marks
AreFound-few : (s : Search) → AreFound s → length s.order ≤ length s.marks
AreFound-few s found = at_most (length s.marks) s.order found.below found.once

-- what isn't marked isn't found
pub AreFound-new : (s : Search) (v : ℕ) → AreFound s → is_marked s.marks v ≡ false → ¬ Contains s.order v
AreFound-new s v found unmarked has =
    let within : v < length s.marks = All-contains (λ w. w < length s.marks) s.order v found.below has in
    let holds : is_marked s.marks v ≡ true = (found.marked v within).1 has in
    absurd (cc)

-- ---- a search goes on

-- the search s went on from v, and came to t; the places from that of v up to i, without i, were looked at
pub record IsSpreading (lists : List (List ℕ)) (s : Search) (v : ℕ) (t : Search) (i : ℕ) : Type 0 where
  pub marks : length t.marks ≡ length s.marks
  pub found : AreFound t
  pub longer : length s.order ≤ length t.order
  pub keeps : (j : ℕ) → j < length s.order → slice_index t.order j ≡ slice_index s.order j
  pub from : Contains t.order v
  pub led : (w : ℕ) → Contains t.order w → Contains s.order w ⊎ ((w ≡ v) ⊎ Leads (NextNew lists s) v w)
  pub onward : (j w : ℕ) → length s.order ≤ j → j < i → j < length t.order → Next lists (slice_index t.order j) w → Contains t.order w

-- what was found before is found at its place
Contains-kept : (s t : Search) → length s.order ≤ length t.order → ((j : ℕ) → j < length s.order → slice_index t.order j ≡ slice_index s.order j)
    → (u : ℕ) → Contains s.order u → Contains t.order u
Contains-kept s t longer keeps u has =
    let place = place-of s.order u has in
    subst (Contains t.order) (keeps place.0 place.1 ∙ place.2) (Contains-get_or t.order place.0 0 (omega (arith, longer, place.1)))

pub IsSpreading-first : (lists : List (List ℕ)) (s : Search) (v : ℕ) → AreFound s → v < length s.marks → IsSpreading lists s v (with_found s v) (length s.order)
IsSpreading-first lists s v found within =
    let grows : Grows s (with_found s v) (v ∷ []) = Grows-one s v found within in
    record {
      marks = grows.marks;
      found = grows.found;
      longer = grows.longer;
      keeps = grows.keeps;
      from = grows.all v (Contains-here v []);
      led = λ w has. elim (grows.only w has) [
        | inl before ↦ inl before
        | inr here ↦ elim (Contains-cases v [] w here) [ inl is ↦ inr (inl (sym is)) | inr none ↦ absurd (omega (arith, none.1)) ]
      ];
      onward = λ j w le lt. absurd (omega (arith, le, lt));
    }

-- what is looked at was found
pub IsSpreading-at : (lists : List (List ℕ)) (s : Search) (v : ℕ) (t : Search) (i u : ℕ) → IsSpreading lists s v t i → slice_get t.order i ≡ Some u → (u < length s.marks) × (i < length s.marks)
IsSpreading-at lists s v t i u is here =
    let inside : i < length t.order = slice_get_within t.order i u here in
    let marks = is.marks in
    let below : u < length t.marks =
    subst (λ (x : ℕ). x < length t.marks) (get_or_from_slice_get t.order i u 0 here) (is.found.below i 0 inside) in
    (omega (arith, below, marks), omega (arith, inside, marks, AreFound-few t is.found))

-- one more place is looked at
pub IsSpreading-more : (lists : List (List ℕ)) (s : Search) (v : ℕ) (t : Search) (i u : ℕ) → IsSpreading lists s v t i → length s.order ≤ i → slice_get t.order i ≡ Some u
    → All (λ w. w < length s.marks) (listed_at lists u) → IsSpreading lists s v (with_all_found t (listed_at lists u)) (i + 1)
IsSpreading-more lists s v t i u is from here within = record {
  marks = grows.marks ∙ is.marks;
  found = grows.found;
  longer = longer;
  keeps = λ j lt. grows.keeps j (in_t j lt) ∙ is.keeps j lt;
  from = Grows-contains t next (listed_at lists u) grows v is.from;
  led = λ w has. led w (new w) (grows.only w has);
  onward = λ j w le lt in_next listed. onward j w le lt listed (cases_eq j i);
} where
  next : Search
  next = with_all_found t (listed_at lists u)

  inside : i < length t.order
  inside = slice_get_within t.order i u here

  at_i : slice_index t.order i ≡ u
  at_i = get_or_from_slice_get t.order i u 0 here

  in_t : (j : ℕ) → j < length s.order → j < length t.order
  in_t j lt = let longer = is.longer in omega (arith, longer, lt)

  grows : Grows t next (listed_at lists u)
  grows = Grows-all (listed_at lists u) t is.found (subst (λ (n : ℕ). All (λ w. w < n) (listed_at lists u)) (sym is.marks) within)

  longer : length s.order ≤ length next.order
  longer = let one = is.longer in let two = grows.longer in omega (arith, one, two)

  u_is : (u ≡ v) ⊎ Leads (NextNew lists s) v u
  u_is = elim (is.led u (subst (Contains t.order) at_i (Contains-get_or t.order i 0 inside))) [
    | inl before ↦
        let place = place-of s.order u before in
        absurd (is.found.once (place.0, i, omega (arith, place.1, from), inside, is.keeps place.0 place.1 ∙ place.2 ∙ sym at_i))
    | inr new ↦ new
  ]

  new : (w : ℕ) → Contains s.order w ⊎ (¬ Contains s.order w)
  new w = contains_or_not s.order w

  led : (w : ℕ) → (Contains s.order w ⊎ (¬ Contains s.order w)) → (Contains t.order w ⊎ Contains (listed_at lists u) w) → Contains s.order w ⊎ ((w ≡ v) ⊎ Leads (NextNew lists s) v w)
  led w either (inl before) = is.led w before
  led w (inl old) (inr listed) = inl old
  led w (inr new_w) (inr listed) = inr (inr (elim u_is [
    | inl own ↦ Leads-arc (NextNew lists s) v w (subst (λ (x : ℕ). Next lists x w) own listed, new_w)
    | inr leads ↦ Leads-trans (NextNew lists s) v u w leads (Leads-arc (NextNew lists s) u w (listed, new_w))
  ]))

  onward : (j w : ℕ) → length s.order ≤ j → j < i + 1 → Next lists (slice_index next.order j) w → ((j ≡ i) ⊎ (j ≢ i)) → Contains next.order w
  onward j w le lt listed (inl own) =
      let at : slice_index next.order j ≡ u = ap (slice_index next.order) own ∙ grows.keeps i inside ∙ at_i in
      grows.all w (subst (λ (x : ℕ). Next lists x w) at listed)
  onward j w le lt listed (inr other) =
      let less : j < i = omega (arith, lt, other) in
      let old : j < length t.order = omega (arith, less, inside) in
      Grows-contains t next (listed_at lists u) grows w (is.onward j w le less old (subst (λ (x : ℕ). Next lists x w) (grows.keeps j old) listed))

-- all places are looked at
pub Spreads-all : (lists : List (List ℕ)) (s : Search) (v : ℕ) (t : Search) (i : ℕ) → IsSpreading lists s v t i → ¬ Contains s.order v → slice_get t.order i ≡ None → Spreads lists s v t
Spreads-all lists s v t i is new end = record {
  marks = is.marks;
  found = is.found;
  keeps = ext_get_or 0 (take (length s.order) t.order) s.order taken (λ j lt. (
      let within : j < length s.order = omega (arith, lt, taken) in
      get_or-take (length s.order) t.order j 0 within ∙ is.keeps j within));
  reached = λ w. (is.led w, back w);
} where
  taken : length (take (length s.order) t.order) ≡ length s.order
  taken = length-take-le (length s.order) t.order is.longer

  all : length t.order ≤ i
  all = elim (cases_lt i (length t.order)) [
    | inl lt ↦ absurd (none-some (slice_index t.order i) (sym end ∙ slice_get-get_or t.order i 0 lt))
    | inr le ↦ le
  ]

  IsNew : ℕ → Type 0
  IsNew x = Contains t.order x × (¬ Contains s.order x)

  on : (x y : ℕ) → IsNew x → NextNew lists s x y → IsNew y
  on x y is_new next =
      let place = place-of t.order x is_new.0 in
      let later : length s.order ≤ place.0 = elim (cases_lt place.0 (length s.order)) [
        | inl lt ↦ absurd (is_new.1 (subst (Contains s.order) (sym (is.keeps place.0 lt) ∙ place.2) (Contains-get_or s.order place.0 0 lt)))
        | inr le ↦ le
      ] in
      (is.onward place.0 y later (omega (arith, place.1, all)) place.1 (subst (λ (z : ℕ). Next lists z y) (sym place.2) next.0), next.1)

  back : (w : ℕ) → (Contains s.order w ⊎ ((w ≡ v) ⊎ Leads (NextNew lists s) v w)) → Contains t.order w
  back w (inl before) = Contains-kept s t is.longer is.keeps w before
  back w (inr (inl own)) = subst (Contains t.order) (sym own) is.from
  back w (inr (inr leads)) = (Leads-closed (NextNew lists s) IsNew on v w leads (is.from, new)).0
