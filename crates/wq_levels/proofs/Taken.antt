-- Vertices being removed: what holds while the arcs to one of them go, and what holds when no more can be removed.
use Rattle.std.proofs.Common.{◌≡◌, ◌≢◌, ℕ, zero, suc, ◌+◌, ◌-◌, ◌<◌, ◌≤◌, ◌==◌, ◌⊎◌, inl, inr, max, List, [], ◌∷◌, ◌++◌, length, map, set, take, drop, replicate, slice_index, refl, sym, subst, ap, ◌∙◌, arith}
use Rattle.std.specs.Prelude.{Contains, get_or}
use Rattle.std.specs.List.{All}
use Rattle.std.proofs.lemmas.Bool.{cases_eq, cases_lt, cond_both, eqb-true, eqb-false}
use Rattle.std.proofs.lemmas.List.{length-map, length-set, length-replicate, length-take-le, length_push, get_or-set_same, get_or-set_other, get_or-replicate, get_or_past, take-append-le, take-append-drop, take_all, take_more, map_more}
use Rattle.std.proofs.lemmas.List.Elements.{All-contains, Contains-append_left, Contains-push, Contains-push_cases, Contains-get_or}
use Rattle.wq_items.specs.Chain.{BeginsChain, Repeats}
use Rattle.wq_items.proofs.Chains.{BeginsChain-one, BeginsChain-at, BeginsChain-more, BeginsChain-less, BeginsChain-next}
use Rattle.wq_items.proofs.Pigeonhole.{repeats_from_length}
use Rattle.wq_graph.specs.declared.arc.WaitArc.{WaitArc}
use Rattle.wq_graph.specs.Graph.{IsGraph, HasArc, arcs_at}
use Rattle.wq_levels.specs.Taking.{Taking, AreFree, AreTails, AreTakenOff, times, tails_at, with_arc_gone, with_arcs_gone}
use Rattle.wq_levels.proofs.Graphs.{HasArc-below}
use Rattle.wq_levels.proofs.Endless.{IsEndless-held}
use Rattle.wq_levels.proofs.Times.{times-cons, times-own, times-other, arcs_to-found, arcs_to-some, Repeats-append_left, once-push, gone, gone-none, gone-more, gone-few, gone-all, gone-less}

-- ---- vertices of which no arc remains

-- no arc remains of the next vertex
pub AreFree-more : (n : ℕ) (remaining order : List ℕ) → AreFree n remaining order → slice_index remaining n ≡ 0 → AreFree (n + 1) remaining (order ++ (n ∷ []))
AreFree-more n remaining order are none = record {
  free = λ v. (there v, back v);
  once = once-push order n (λ has. absurd (omega (arith, ((are.free n).0 has).0))) are.once;
} where
  there : (v : ℕ) → Contains (order ++ (n ∷ [])) v → (v < n + 1) × (slice_index remaining v ≡ 0)
  there v has = elim (Contains-push_cases order n v has) [
    | inl was ↦ let both = (are.free v).0 was in (omega (arith, both.0), both.1)
    | inr own ↦ (omega (arith, own), subst (λ (u : ℕ). slice_index remaining u ≡ 0) own none)
  ]

  back : (v : ℕ) → (v < n + 1) × (slice_index remaining v ≡ 0) → Contains (order ++ (n ∷ [])) v
  back v both = elim (cases_eq n v) [
    | inl own ↦ subst (Contains (order ++ (n ∷ []))) own (Contains-push order n)
    | inr other ↦ Contains-append_left order (n ∷ []) v ((are.free v).1 (omega (arith, both.0, other), both.1))
  ]

-- an arc of it remains
pub AreFree-skipped : (n : ℕ) (remaining order : List ℕ) → AreFree n remaining order → slice_index remaining n ≢ 0 → AreFree (n + 1) remaining order
AreFree-skipped n remaining order are some = record {
  free = λ v. (
    (λ has. (let both = (are.free v).0 has in (omega (arith, both.0), both.1))),
    (λ both. elim (cases_eq n v) [
      | inl own ↦ absurd (some (subst (λ (u : ℕ). slice_index remaining u ≡ 0) (sym own) both.1))
      | inr other ↦ (are.free v).1 (omega (arith, both.0, other), both.1)
    ]),
  );
  once = are.once;
}

-- ---- lengths, and how many arcs remain

pub ranks_each : (rank : ℕ) (vs : List ℕ) (p : Taking) → length (with_arcs_gone rank p vs).ranks ≡ length p.ranks
ranks_each rank [] p = refl
ranks_each rank (v ∷ vs) p = ranks_each rank vs (with_arc_gone rank p v) ∙ length-set p.ranks v (max (slice_index p.ranks v) (rank + 1))

pub remaining_each : (rank : ℕ) (vs : List ℕ) (p : Taking) → length (with_arcs_gone rank p vs).remaining ≡ length p.remaining
remaining_each rank [] p = refl
remaining_each rank (v ∷ vs) p = remaining_each rank vs (with_arc_gone rank p v) ∙ length-set p.remaining v (slice_index p.remaining v - 1)

-- the next arc goes
pub with_arcs_gone-more : (rank : ℕ) (p : Taking) (tail : ℕ → ℕ) (places : List ℕ) (i : ℕ) → i < length places
    → with_arcs_gone rank p (map tail (take (i + 1) places)) ≡ with_arc_gone rank (with_arcs_gone rank p (map tail (take i places))) (tail (slice_index places i))
with_arcs_gone-more rank p tail places i within =
    ap (with_arcs_gone rank p) (map_more tail places i 0 within) ∙ pushed p (map tail (take i places))
  where
    pushed : (q : Taking) (vs : List ℕ) → with_arcs_gone rank q (vs ++ (tail (slice_index places i) ∷ [])) ≡ with_arc_gone rank (with_arcs_gone rank q vs) (tail (slice_index places i))
    pushed q [] = refl
    pushed q (v ∷ vs) = pushed (with_arc_gone rank q v) vs

-- a number above 0 is in the list
pub some_inside : (xs : List ℕ) (i : ℕ) → 0 < slice_index xs i → i < length xs
some_inside xs i some = elim (cases_lt i (length xs)) [
  | inl inside ↦ inside
  | inr past ↦ absurd (omega (arith, some, get_or_past xs i 0 past))
]

-- each of these vertices loses one arc for each time that it is in the list
pub remaining_after : (rank : ℕ) (vs : List ℕ) (p : Taking) → ((v : ℕ) → times vs v ≤ slice_index p.remaining v)
    → (v : ℕ) → slice_index (with_arcs_gone rank p vs).remaining v + times vs v ≡ slice_index p.remaining v
remaining_after rank [] p enough v = omega arith
remaining_after rank (x ∷ xs) p enough v = elim (cases_eq v x) [
  | inl same ↦ subst (λ (u : ℕ). slice_index (with_arcs_gone rank p (x ∷ xs)).remaining u + times (x ∷ xs) u ≡ slice_index p.remaining u) (sym same)
      (omega (arith, remaining_after rank xs (with_arc_gone rank p x) left x, own, at_x, times-own x x xs refl))
  | inr other ↦ omega (arith, remaining_after rank xs (with_arc_gone rank p x) left v, at_other v other, times-other x v xs (λ is. other (sym is)))
]
  where
    own : 0 < slice_index p.remaining x
    own = omega (arith, enough x, times-own x x xs refl)

    at_x : slice_index (with_arc_gone rank p x).remaining x ≡ slice_index p.remaining x - 1
    at_x = get_or-set_same p.remaining x (slice_index p.remaining x - 1) 0 (some_inside p.remaining x own)

    at_other : (u : ℕ) → u ≢ x → slice_index (with_arc_gone rank p x).remaining u ≡ slice_index p.remaining u
    at_other u other = get_or-set_other p.remaining x u (slice_index p.remaining x - 1) 0 other

    left : (u : ℕ) → times xs u ≤ slice_index (with_arc_gone rank p x).remaining u
    left u = elim (cases_eq u x) [
      | inl same ↦ subst (λ (y : ℕ). times xs y ≤ slice_index (with_arc_gone rank p x).remaining y) (sym same) (omega (arith, enough x, at_x, times-own x x xs refl))
      | inr other ↦ omega (arith, enough u, at_other u other, times-other x u xs (λ is. other (sym is)))
    ]

-- ---- one arc goes

-- no longer chain begins at a vertex all of whose arcs lead to lower ranks
no_longer : (R : ℕ → ℕ → Type 0) (v r : ℕ) → ((u : ℕ) → R v u → (s : ℕ) × (s < r) × (¬ BeginsChain R u (s + 2))) → ¬ BeginsChain R v (r + 2)
no_longer R v r below longer =
    let on = BeginsChain-next R v r longer in
    let under = below on.0 on.1 in
    under.2 (BeginsChain-less R on.0 (under.0 + 2) (r + 1) (omega arith) (omega (arith, under.1)) on.2)

-- these vertices were removed; of the arcs to w, which is one of them, those of `rest` aren't gone yet
pub record IsGoing (graph : List (List WaitArc)) (taken : List ℕ) (w : ℕ) (rest : List ℕ) (p : Taking) : Type 0 where
  pub remaining_each : length p.remaining ≡ length graph
  pub ranks_each : length p.ranks ≡ length graph
  pub free : AreFree (length graph) p.remaining p.order
  pub first : take (length taken) p.order ≡ taken
  pub fits : length taken ≤ length p.order
  pub arcs : (v : ℕ) → 0 < times rest v → HasArc graph v w × Contains taken w
  pub count : (v : ℕ) → slice_index p.remaining v + gone taken (arcs_at graph v) ≡ length (arcs_at graph v) + times rest v
  pub begins : (v : ℕ) → BeginsChain (HasArc graph) v (slice_index p.ranks v + 1)
  pub low : (v : ℕ) → slice_index p.ranks v ≤ length taken
  pub above : (v u : ℕ) → HasArc graph v u → Contains taken u → ((u ≡ w) × (0 < times rest v)) ⊎ (slice_index p.ranks u < slice_index p.ranks v)
  pub ended : (v : ℕ) → Contains p.order v → ¬ BeginsChain (HasArc graph) v (slice_index p.ranks v + 2)

module _ (graph : List (List WaitArc)) (taken : List ℕ) (w : ℕ) (rest : List ℕ) (p : Taking) (going : IsGoing graph taken w rest p) where
  -- what was removed is in the order
  taken_free : (u : ℕ) → Contains taken u → Contains p.order u
  taken_free u has =
      subst (λ (l : List ℕ). Contains l u) (take-append-drop (length taken) p.order)
      (Contains-append_left (take (length taken) p.order) (drop (length taken) p.order) u (subst (λ (l : List ℕ). Contains l u) (sym going.first) has))

  taken_once : ¬ Repeats taken
  taken_once twice =
      going.free.once
      (subst (λ (l : List ℕ). Repeats l) (take-append-drop (length taken) p.order)
      (Repeats-append_left (take (length taken) p.order) (drop (length taken) p.order) (subst (λ (l : List ℕ). Repeats l) (sym going.first) twice)))

  -- each vertex has at least as many arcs left as are still to go
  pub IsGoing-enough : (v : ℕ) → times rest v ≤ slice_index p.remaining v
  IsGoing-enough v = omega (arith, going.count v, gone-few taken (arcs_at graph v) taken_once)

module _ (graph : List (List WaitArc)) (taken : List ℕ) (w rank x : ℕ) (rest : List ℕ) (p : Taking) (going : IsGoing graph taken w (x ∷ rest) p) (own_rank : slice_index p.ranks w ≡ rank)
    (below : rank < length taken) where
  some : 0 < slice_index p.remaining x
  some = omega (arith, IsGoing-enough graph taken w (x ∷ rest) p going x, times-own x x rest refl)

  inside : x < length p.remaining
  inside = some_inside p.remaining x some

  not_free : ¬ Contains p.order x
  not_free has = absurd (omega (arith, some, ((going.free.free x).0 has).1))

  own_arc : HasArc graph x w × Contains taken w
  own_arc = going.arcs x (omega (arith, times-own x x rest refl))

  -- a vertex of the order is another
  other_free : (u : ℕ) → Contains p.order u → u ≢ x
  other_free u has same = not_free (subst (Contains p.order) same has)

  other_taken : (u : ℕ) → Contains taken u → u ≢ x
  other_taken u has = other_free u (taken_free graph taken w (x ∷ rest) p going u has)

  -- the ranks then
  abbrev raised : List ℕ
  raised = set p.ranks x (max (slice_index p.ranks x) (rank + 1))

  -- and how many arcs are left
  abbrev left : List ℕ
  left = set p.remaining x (slice_index p.remaining x - 1)

  rank_at : (v : ℕ) → v ≡ x → slice_index raised v ≡ max (slice_index p.ranks x) (rank + 1)
  rank_at v same =
      let each = going.ranks_each in
      let each_too = going.remaining_each in
      ap (slice_index raised) same
      ∙ get_or-set_same p.ranks x (max (slice_index p.ranks x) (rank + 1)) 0 (omega (arith, inside, each, each_too))

  rank_other : (v : ℕ) → v ≢ x → slice_index raised v ≡ slice_index p.ranks v
  rank_other v other = get_or-set_other p.ranks x v (max (slice_index p.ranks x) (rank + 1)) 0 other

  remaining_at : (v : ℕ) → v ≡ x → slice_index left v ≡ slice_index p.remaining x - 1
  remaining_at v same =
      ap (slice_index left) same ∙ get_or-set_same p.remaining x (slice_index p.remaining x - 1) 0 inside

  remaining_other : (v : ℕ) → v ≢ x → slice_index left v ≡ slice_index p.remaining v
  remaining_other v other = get_or-set_other p.remaining x v (slice_index p.remaining x - 1) 0 other

  -- if an order fits, the rest holds whichever it is
  with_order : (order : List ℕ) → AreFree (length graph) left order → take (length taken) order ≡ taken → length taken ≤ length order
      → ((v : ℕ) → Contains order v → ¬ BeginsChain (HasArc graph) v (slice_index raised v + 2))
      → IsGoing graph taken w rest (record { remaining = left; ranks = raised; order = order })
  with_order order free first fits ended = record {
    remaining_each = length-set p.remaining x (slice_index p.remaining x - 1) ∙ going.remaining_each;
    ranks_each = length-set p.ranks x (max (slice_index p.ranks x) (rank + 1)) ∙ going.ranks_each;
    free = free;
    first = first;
    fits = fits;
    arcs = λ v more. going.arcs v (omega (arith, more, times-cons x v rest));
    count = λ v. count v (cases_eq v x);
    begins = λ v. begins v (cases_eq v x);
    low = λ v. low v (cases_eq v x);
    above = λ v u arc has. above v u arc has (cases_eq v x);
    ended = ended;
  } where
    count : (v : ℕ) → (v ≡ x) ⊎ (v ≢ x) → slice_index left v + gone taken (arcs_at graph v) ≡ length (arcs_at graph v) + times rest v
    count v (inl same) = omega (arith, remaining_at v same, some, going.count v, times-own x v rest (sym same), ap (slice_index p.remaining) same)
    count v (inr other) = omega (arith, remaining_other v other, going.count v, times-other x v rest (λ is. other (sym is)))

    begins : (v : ℕ) → (v ≡ x) ⊎ (v ≢ x) → BeginsChain (HasArc graph) v (slice_index raised v + 1)
    begins v (inr other) = subst (λ (r : ℕ). BeginsChain (HasArc graph) v (r + 1)) (sym (rank_other v other)) (going.begins v)
    begins v (inl same) = elim (cases_lt (slice_index p.ranks x) (rank + 1)) [
      | inl up ↦
          let chain : BeginsChain (HasArc graph) x (rank + 1 + 1) =
          BeginsChain-more (HasArc graph) x w (rank + 1) own_arc.0 (BeginsChain-at (HasArc graph) w (slice_index p.ranks w + 1) (rank + 1) (omega (arith, own_rank)) (going.begins w)) in
          subst (λ (u : ℕ). BeginsChain (HasArc graph) u (slice_index raised u + 1)) (sym same)
          (BeginsChain-at (HasArc graph) x (rank + 1 + 1) (slice_index raised x + 1) (omega (arith, up, rank_at x refl)) chain)
      | inr stays ↦
          subst (λ (u : ℕ). BeginsChain (HasArc graph) u (slice_index raised u + 1)) (sym same)
          (BeginsChain-at (HasArc graph) x (slice_index p.ranks x + 1) (slice_index raised x + 1) (omega (arith, stays, rank_at x refl)) (going.begins x))
    ]

    low : (v : ℕ) → (v ≡ x) ⊎ (v ≢ x) → slice_index raised v ≤ length taken
    low v (inl same) = omega (arith, rank_at v same, going.low x, below)
    low v (inr other) = omega (arith, rank_other v other, going.low v)

    above : (v u : ℕ) → HasArc graph v u → Contains taken u → (v ≡ x) ⊎ (v ≢ x)
        → ((u ≡ w) × (0 < times rest v)) ⊎ (slice_index raised u < slice_index raised v)
    above v u arc has (inl same) = elim (going.above v u arc has) [
      | inl own ↦ inr (omega (arith, rank_at v same, rank_other u (other_taken u has), ap (slice_index p.ranks) own.0, own_rank))
      | inr less ↦ inr (omega (arith, rank_at v same, rank_other u (other_taken u has), less, ap (slice_index p.ranks) same))
    ]
    above v u arc has (inr other) = elim (going.above v u arc has) [
      | inl own ↦ inl (own.0, omega (arith, own.1, times-other x v rest (λ is. other (sym is))))
      | inr less ↦ inr (omega (arith, rank_other v other, rank_other u (other_taken u has), less))
    ]

  -- a chain from what is free already is as long as before
  ended_free : (v : ℕ) → Contains p.order v → ¬ BeginsChain (HasArc graph) v (slice_index raised v + 2)
  ended_free v has = subst (λ (r : ℕ). ¬ BeginsChain (HasArc graph) v (r + 2)) (sym (rank_other v (other_free v has))) (going.ended v has)

  -- the last arc of the vertex goes
  last_arc : slice_index p.remaining x ≡ 1
      → IsGoing graph taken w rest (record { remaining = left; ranks = raised; order = p.order ++ (x ∷ []) })
  last_arc last =
      with_order (p.order ++ (x ∷ [])) (record { free = λ v. (there v, back v (cases_eq v x)); once = once-push p.order x not_free going.free.once })
      (take-append-le (length taken) p.order (x ∷ []) going.fits ∙ going.first)
      (let fits = going.fits in omega (arith, fits, length_push p.order x)) ended
    where
      there : (v : ℕ) → Contains (p.order ++ (x ∷ [])) v → (v < length graph) × (slice_index left v ≡ 0)
      there v has = elim (Contains-push_cases p.order x v has) [
        | inl was ↦ let both = (going.free.free v).0 was in (both.0, remaining_other v (other_free v was) ∙ both.1)
        | inr own ↦ (let each = going.remaining_each in omega (arith, own, inside, each), omega (arith, remaining_at v (sym own), last))
      ]

      back : (v : ℕ) → (v ≡ x) ⊎ (v ≢ x) → (v < length graph) × (slice_index left v ≡ 0) → Contains (p.order ++ (x ∷ [])) v
      back v (inl same) both = subst (Contains (p.order ++ (x ∷ []))) (sym same) (Contains-push p.order x)
      back v (inr other) both = Contains-append_left p.order (x ∷ []) v ((going.free.free v).1 (both.0, sym (remaining_other v other) ∙ both.1))

      few : gone taken (arcs_at graph x) ≤ length (arcs_at graph x)
      few = gone-few taken (arcs_at graph x) (taken_once graph taken w (x ∷ rest) p going)

      all : All (λ (a : WaitArc). Contains taken a.head) (arcs_at graph x)
      all = gone-all taken (arcs_at graph x) (taken_once graph taken w (x ∷ rest) p going) (omega (arith, going.count x, last, times-own x x rest refl))

      none_left : times rest x ≡ 0
      none_left = omega (arith, going.count x, last, times-own x x rest refl, few)

      lower : (u : ℕ) → HasArc graph x u → Contains taken u → slice_index raised u < slice_index raised x
      lower u arc has = elim (going.above x u arc has) [
        | inl own ↦ omega (arith, rank_at x refl, rank_other u (other_taken u has), ap (slice_index p.ranks) own.0, own_rank)
        | inr less ↦ omega (arith, rank_at x refl, rank_other u (other_taken u has), less)
      ]

      own_end : ¬ BeginsChain (HasArc graph) x (slice_index raised x + 2)
      own_end =
          no_longer (HasArc graph) x (slice_index raised x) (λ u arc. (
          let has : Contains taken u =
          subst (Contains taken) arc.4 (All-contains (λ (a : WaitArc). Contains taken a.head) (arcs_at graph x) arc.1 all (arc.0, arc.2, arc.3)) in
          (slice_index raised u, lower u arc has, ended_free u (taken_free graph taken w (x ∷ rest) p going u has))))

      ended : (v : ℕ) → Contains (p.order ++ (x ∷ [])) v → ¬ BeginsChain (HasArc graph) v (slice_index raised v + 2)
      ended v has = elim (Contains-push_cases p.order x v has) [
        | inl was ↦ ended_free v was
        | inr own ↦ subst (λ (u : ℕ). ¬ BeginsChain (HasArc graph) u (slice_index raised u + 2)) own own_end
      ]

  -- another arc of it is left
  other_arc : slice_index p.remaining x ≢ 1
      → IsGoing graph taken w rest (record { remaining = left; ranks = raised; order = p.order })
  other_arc more = with_order p.order (record { free = λ v. (there v, back v (cases_eq v x)); once = going.free.once }) going.first going.fits ended_free
    where
      there : (v : ℕ) → Contains p.order v → (v < length graph) × (slice_index left v ≡ 0)
      there v has = let both = (going.free.free v).0 has in (both.0, remaining_other v (other_free v has) ∙ both.1)

      back : (v : ℕ) → (v ≡ x) ⊎ (v ≢ x) → (v < length graph) × (slice_index left v ≡ 0) → Contains p.order v
      back v (inl same) both = absurd (omega (arith, remaining_at v same, both.1, some, more))
      back v (inr other) both = (going.free.free v).1 (both.0, sym (remaining_other v other) ∙ both.1)

  IsGoing-one : IsGoing graph taken w rest (with_arc_gone rank p x)
  IsGoing-one =
      cond_both (slice_index p.remaining x == 1) (p.order ++ (x ∷ [])) p.order
      (λ (order : List ℕ). IsGoing graph taken w rest (record { remaining = left; ranks = raised; order = order }))
      (λ is. last_arc (eqb-true (slice_index p.remaining x) 1 is))
      (λ not. other_arc (eqb-false (slice_index p.remaining x) 1 not))

  own_rank-one : slice_index (with_arc_gone rank p x).ranks w ≡ rank
  own_rank-one = rank_other w (other_taken w own_arc.1) ∙ own_rank

-- all arcs to w go
IsGoing-all : (graph : List (List WaitArc)) (taken : List ℕ) (w rank : ℕ) (rest : List ℕ) (p : Taking) → IsGoing graph taken w rest p → slice_index p.ranks w ≡ rank → rank < length taken
    → IsGoing graph taken w [] (with_arcs_gone rank p rest)
IsGoing-all graph taken w rank [] p going own_rank below = going
IsGoing-all graph taken w rank (x ∷ rest) p going own_rank below =
    IsGoing-all graph taken w rank rest (with_arc_gone rank p x) (IsGoing-one graph taken w rank x rest p going own_rank below) (own_rank-one graph taken w rank x rest p going own_rank below) below

-- ---- one vertex after another

-- the first vertices of the order were removed, and the arcs to them are gone
pub record IsTaking (graph : List (List WaitArc)) (place : ℕ) (p : Taking) : Type 0 where
  pub taken : List ℕ
  pub as_far : taken ≡ take place p.order
  pub going : IsGoing graph taken 0 [] p

none_in : (v : ℕ) → ¬ (0 < times [] v)
none_in v has = absurd (omega (arith, has))

pub IsTaking-none : (graph : List (List WaitArc)) (p : Taking) → p.remaining ≡ map length graph → p.ranks ≡ replicate (length graph) 0 → AreFree (length graph) p.remaining p.order → IsTaking graph 0 p
IsTaking-none graph p counted lowest free = record {
  taken = [];
  as_far = refl;
  going = record {
    remaining_each = ap length counted ∙ length-map graph length;
    ranks_each = ap length lowest ∙ length-replicate {A = ℕ} (length graph) 0;
    free = free;
    first = refl;
    fits = omega arith;
    arcs = λ v has. absurd (none_in v has);
    count = λ v. omega (arith, counts v, gone-none (arcs_at graph v));
    begins = λ v. BeginsChain-at (HasArc graph) v 1 (slice_index p.ranks v + 1) (omega (arith, zero_rank v)) (BeginsChain-one (HasArc graph) v);
    low = λ v. omega (arith, zero_rank v);
    above = λ v u arc has. absurd (omega (arith, has.1));
    ended = λ v has. no_longer (HasArc graph) v (slice_index p.ranks v) (λ u arc. absurd (omega (arith, arc.2, counts v, ((free.free v).0 has).1)));
  };
} where
  counts_of : (g : List (List WaitArc)) (v : ℕ) → slice_index (map length g) v ≡ length (arcs_at g v)
  counts_of [] v = refl
  counts_of (arcs ∷ g) zero = refl
  counts_of (arcs ∷ g) (suc v) = counts_of g v

  counts : (v : ℕ) → slice_index p.remaining v ≡ length (arcs_at graph v)
  counts v = ap (λ (l : List ℕ). slice_index l v) counted ∙ counts_of graph v

  zero_rank : (v : ℕ) → slice_index p.ranks v ≡ 0
  zero_rank v = ap (λ (l : List ℕ). slice_index l v) lowest ∙ elim (cases_lt v (length graph)) [
    | inl lt ↦ get_or-replicate {A = ℕ} (length graph) v 0 0 lt
    | inr le ↦ get_or_past (replicate (length graph) 0) v 0 (omega (arith, le, length-replicate {A = ℕ} (length graph) 0))
  ]

module _ (graph : List (List WaitArc)) (tails : List (List ℕ)) (p : Taking) (place w : ℕ) (turned : AreTails graph tails) (so_far : IsTaking graph place p) (in_order : place < length p.order)
    (at : slice_index p.order place ≡ w) where
  taken_length : length so_far.taken ≡ place
  taken_length = ap length so_far.as_far ∙ length-take-le place p.order (omega (arith, in_order))

  pub IsTaking-vertex : w < length graph
  IsTaking-vertex = ((so_far.going.free.free w).0 (subst (Contains p.order) at (Contains-get_or p.order place 0 in_order))).0

  IsTaking-low : slice_index p.ranks w ≤ place
  IsTaking-low = omega (arith, so_far.going.low w, taken_length)

  -- the next is taken, and no arc to it is gone yet
  next : IsGoing graph (so_far.taken ++ (w ∷ [])) w (tails_at tails w) p
  next =
      let taken = so_far.taken in
      let old : IsGoing graph taken 0 [] p = so_far.going in
      record {
        remaining_each = old.remaining_each;
        ranks_each = old.ranks_each;
        free = old.free;
        first = first;
        fits = omega (arith, in_order, taken_length, length_push taken w);
        arcs = λ v has. (arcs_to-found (arcs_at graph v) w (omega (arith, has, turned.turned v w IsTaking-vertex)), Contains-push taken w);
        count = λ v. omega (arith, old.count v, gone-more taken w (arcs_at graph v), turned.turned v w IsTaking-vertex);
        begins = old.begins;
        low = λ v. omega (arith, old.low v, length_push taken w);
        above = above;
        ended = old.ended;
      }
    where
      first : take (length (so_far.taken ++ (w ∷ []))) p.order ≡ so_far.taken ++ (w ∷ [])
      first =
          ap (λ (n : ℕ). take n p.order) (length_push so_far.taken w ∙ ap (λ (n : ℕ). n + 1) taken_length) ∙ take_more p.order place 0 in_order
          ∙ ap (λ (l : List ℕ). l ++ (slice_index p.order place ∷ [])) (sym so_far.as_far) ∙ ap (λ (u : ℕ). so_far.taken ++ (u ∷ [])) at

      above : (v u : ℕ) → HasArc graph v u → Contains (so_far.taken ++ (w ∷ [])) u → ((u ≡ w) × (0 < times (tails_at tails w) v)) ⊎ (slice_index p.ranks u < slice_index p.ranks v)
      above v u arc has = elim (Contains-push_cases so_far.taken w u has) [
        | inl was ↦ elim (so_far.going.above v u arc was) [ inl none ↦ absurd (none_in v none.1) | inr less ↦ inr less ]
        | inr own ↦ inl (sym own, omega (arith, turned.turned v w IsTaking-vertex, arcs_to-some (arcs_at graph v) w (subst (HasArc graph v) (sym own) arc)))
      ]

  pub IsTaking-enough : (v : ℕ) → times (tails_at tails w) v ≤ slice_index p.remaining v
  IsTaking-enough = IsGoing-enough graph (so_far.taken ++ (w ∷ [])) w (tails_at tails w) p next

  -- and then all of them go
  pub IsTaking-more : IsTaking graph (place + 1) (with_arcs_gone (slice_index p.ranks w) p (tails_at tails w))
  IsTaking-more =
      let taken : List ℕ = so_far.taken ++ (w ∷ []) in
      let end : Taking = with_arcs_gone (slice_index p.ranks w) p (tails_at tails w) in
      let long : length (so_far.taken ++ (w ∷ [])) ≡ place + 1 = length_push so_far.taken w ∙ ap (λ (n : ℕ). n + 1) taken_length in
      let all : IsGoing graph (so_far.taken ++ (w ∷ [])) w [] end =
      IsGoing-all graph (so_far.taken ++ (w ∷ [])) w (slice_index p.ranks w) (tails_at tails w) p next refl (omega (arith, long, IsTaking-low)) in
      record {
        taken = taken;
        as_far = sym (ap (λ (n : ℕ). take n end.order) (sym long) ∙ all.first);
        going = record {
          remaining_each = all.remaining_each;
          ranks_each = all.ranks_each;
          free = all.free;
          first = all.first;
          fits = all.fits;
          arcs = λ v has. absurd (none_in v has);
          count = all.count;
          begins = all.begins;
          low = all.low;
          above = λ v u arc has. elim (all.above v u arc has) [ inl none ↦ absurd (none_in v none.1) | inr less ↦ inr less ];
          ended = all.ended;
        };
      }

-- the whole order was removed already
pub IsTaking-past : (graph : List (List WaitArc)) (p : Taking) (place : ℕ) → IsTaking graph place p → length p.order ≤ place → IsTaking graph (place + 1) p
IsTaking-past graph p place so_far past = record {
  taken = so_far.taken;
  as_far = so_far.as_far ∙ take_all place p.order past ∙ sym (take_all (place + 1) p.order (omega (arith, past)));
  going = so_far.going;
}

-- as many places as there are vertices
module _ (graph : List (List WaitArc)) (p : Taking) (sound : IsGraph graph) (so_far : IsTaking graph (length graph) p) where
  few : length p.order ≤ length graph
  few = elim (cases_lt (length graph) (length p.order)) [
    | inl long ↦ absurd (so_far.going.free.once (repeats_from_length (length graph) p.order
        (λ k d fits. ((so_far.going.free.free (get_or p.order k d)).0 (Contains-get_or p.order k d fits)).0) long))
    | inr le ↦ le
  ]

  taken_all : so_far.taken ≡ p.order
  taken_all = so_far.as_far ∙ take_all (length graph) p.order few

  -- an arc remains of the vertex
  abbrev IsHeld : ℕ → Type 0
  IsHeld v = (v < length graph) × (0 < slice_index p.remaining v)

  held_next : (v : ℕ) → IsHeld v → (w : ℕ) × HasArc graph v w × IsHeld w
  held_next v held =
      let left = gone-less so_far.taken (arcs_at graph v) (omega (arith, so_far.going.count v, held.1)) in
      let head : ℕ = left.1.head in
      let arc : HasArc graph v left.1.head = (left.0, left.1, left.2, left.3, refl) in
      let below : left.1.head < length graph = HasArc-below graph sound v left.1.head arc in
      let some : 0 < slice_index p.remaining left.1.head = elim (cases_lt 0 (slice_index p.remaining left.1.head)) [
        | inl more ↦ more
        | inr none ↦ absurd (left.4 (subst (λ (l : List ℕ). Contains l left.1.head) (sym taken_all) ((so_far.going.free.free left.1.head).1 (below, omega (arith, none)))))
      ] in
      (left.1.head, arc, (below, some))

  pub AreTakenOff-all : AreTakenOff graph p.remaining p.ranks
  AreTakenOff-all = record {
    one_each = so_far.going.remaining_each;
    one_rank_each = so_far.going.ranks_each;
    ranked = λ v vertex none. (so_far.going.begins v, so_far.going.ended v ((so_far.going.free.free v).1 (vertex, none)));
    held = λ v vertex some. (vertex, IsEndless-held (HasArc graph) IsHeld held_next v (vertex, some) (length graph));
  }
