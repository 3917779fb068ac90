-- Other flushes with the same words, and another beginning of the same round.
use Rattle.std.proofs.Common.{◌≡◌, ℕ, zero, suc, ◌+◌, ◌<◌, ◌≤◌, ◌⊎◌, inl, inr, Bool, true, false, ltb, eqb, cond, List}
use Rattle.std.proofs.Common.{[], ◌∷◌, ◌++◌, length, take, drop, get_or, set, Some, None, refl, sym, ap, subst, ◌∙◌}
use Rattle.std.proofs.Common.{arith, ltb-false}
use Rattle.std.specs.Prelude.{Contains, filter, position, if◌then◌else◌, ◌||◌}
use Rattle.std.specs.List.{All, position_or_len}
use Rattle.std.proofs.lemmas.Bool.{cases_eq, both_ways}
use Rattle.std.proofs.lemmas.List.{length-append, length-set, get_or-set_same, get_or-set_other, take-append-drop}
use Rattle.std.proofs.lemmas.List.Elements.{All-tail, Contains-append_left, Contains-append_right}
use Rattle.std.proofs.lemmas.List.Elements.{Contains-append_cases}
use Rattle.std.proofs.lemmas.List.Quantifiers.{position-Some}
use Rattle.std.proofs.lemmas.List.Sums.{fails_before_first}
use Rattle.wq_items.specs.declared.target.Target.{Target}
use Rattle.wq_items.proofs.FoundNames.{none_is}
use Rattle.wq_core.specs.Wiring.{Wiring, lane_of, declared_by}
use Rattle.wq_hang.specs.declared.hop.Hop.{Hop}
use Rattle.wq_hang.specs.Walk.{IsPath, IsRound, AreAlike, AreFirstAlike, BeginsUnsure, unsure_hops, unsure_part}
use Rattle.wq_hang.specs.Search.{hop_cost, hops_cost}
use Rattle.wq_hang.proofs.LeastWalks.{IsPath-append, hops_cost-append}

-- ---- flushes with the same words

pub AreAlike-same : (t : Target) → AreAlike t t
AreAlike-same t = record { item = refl; whole = refl; unsure = refl }

pub AreAlike-trans : (t u v : Target) → AreAlike t u → AreAlike u v → AreAlike t v
AreAlike-trans t u v one two = record {
  item = one.item ∙ two.item;
  whole = one.whole ∙ two.whole;
  unsure = one.unsure ∙ two.unsure;
}

-- they cost the same
hop_cost-alike : (h : Hop) (t : Target) → AreAlike t h.flush → hop_cost (record h { flush = t }) ≡ hop_cost h
hop_cost-alike h t is =
    ap
    (λ (u : Bool). (if u then 32768 else 0) + (3 + length (if t.whole || eqb t.item h.next then [] else t.item ∷ [])))
    is.unsure
    ∙ ap
    (λ (b : Bool). unsure_part h.flush + (3 + length (if b || eqb t.item h.next then [] else t.item ∷ [])))
    is.whole
    ∙ ap
    (λ (i : ℕ). unsure_part h.flush + (3 + length (if h.flush.whole || eqb i h.next then [] else i ∷ [])))
    is.item

-- hop i waits by this flush
abbrev pub put_flush : List Hop → ℕ → Hop → Target → List Hop
put_flush hops i h t = set hops i (record h { flush = t })

IsPath-alike : (w : Wiring) (a b : ℕ) (hops : List Hop) (i : ℕ) (d : Hop) (t : Target) → i < length hops
    → AreAlike t (get_or hops i d).flush → Contains (declared_by w (get_or hops i d).item) t → IsPath w a hops b
    → IsPath w a (put_flush hops i (get_or hops i d) t) b
IsPath-alike w a b [] i d t lt alike there path = absurd (omega arith)
IsPath-alike w a b (h ∷ hops) zero d t lt alike there path = (
  path.0,
  record { declared = there; rescuer = path.1.rescuer },
  path.2 ∙ ap (lane_of w) (sym alike.item),
  path.3,
)
IsPath-alike w a b (h ∷ hops) (suc i) d t lt alike there path =
    (path.0, path.1, path.2, IsPath-alike w h.next b hops i d t (omega arith) alike there path.3)

hops_cost-alike : (hops : List Hop) (i : ℕ) (d : Hop) (t : Target) → i < length hops
    → AreAlike t (get_or hops i d).flush → hops_cost (put_flush hops i (get_or hops i d) t) ≡ hops_cost hops
hops_cost-alike [] i d t lt alike = absurd (omega arith)
hops_cost-alike (h ∷ hops) zero d t lt alike = ap (λ (n : ℕ). n + hops_cost hops) (hop_cost-alike h t alike)
hops_cost-alike (h ∷ hops) (suc i) d t lt alike =
    ap (λ (n : ℕ). hop_cost h + n) (hops_cost-alike hops i d t (omega arith) alike)

-- of the flushes with its words the hop waits by the one that is declared first
abbrev pub IsFirst : Wiring → Hop → Target → Type 0
IsFirst w h t = (u : Target) → Contains (declared_by w h.item) u → AreAlike u h.flush → t.place ≤ u.place

-- of these flushes with its words, and of its own, the one that is declared first
pub record IsFirstSoFar (w : Wiring) (h : Hop) (flushes : List Target) (first : Target) : Type 0 where
  pub alike : AreAlike first h.flush
  pub declared : Contains (declared_by w h.item) first
  pub least : (u : Target) → Contains flushes u → AreAlike u h.flush → first.place ≤ u.place

pub IsFirstSoFar-none : (w : Wiring) (h : Hop) → Contains (declared_by w h.item) h.flush → IsFirstSoFar w h [] h.flush
IsFirstSoFar-none w h there = record {
  alike = AreAlike-same h.flush;
  declared = there;
  least = λ u in_none like. absurd (omega (arith, in_none.1));
}

module _ (w : Wiring) (h : Hop) (before after : List Target) (x first : Target) (was : IsFirstSoFar w h before first)
    (more : (u : Target) → Contains after u → Contains before u ⊎ (x ≡ u)) where
  pub IsFirstSoFar-better : x.place < first.place → AreAlike x h.flush → Contains (declared_by w h.item) x
      → IsFirstSoFar w h after x
  IsFirstSoFar-better less like there = record {
    alike = like;
    declared = there;
    least = λ u at alike. elim (more u at) [
      | inl old ↦ omega (arith, less, was.least u old alike)
      | inr same ↦ omega (arith, ap (λ (t : Target). t.place) same)
    ];
  }

  pub IsFirstSoFar-kept : (AreAlike x h.flush → first.place ≤ x.place) → IsFirstSoFar w h after first
  IsFirstSoFar-kept enough = record {
    alike = was.alike;
    declared = was.declared;
    least = λ u at alike. elim (more u at) [
      | inl old ↦ was.least u old alike
      | inr same ↦ omega (
        arith,
        enough (subst (λ (t : Target). AreAlike t h.flush) (sym same) alike),
        ap (λ (t : Target). t.place) same,
      )
    ];
  }

-- the first n hops wait by the first flushes with their words
pub record IsSettled (w : Wiring) (old hops : List Hop) (n : ℕ) : Type 0 where
  pub round : IsRound w hops
  pub cost : hops_cost hops ≡ hops_cost old
  pub len : length hops ≡ length old
  pub first : (k : ℕ) (d : Hop) → k < n → IsFirst w (get_or hops k d) (get_or hops k d).flush

pub IsSettled-none : (w : Wiring) (hops : List Hop) → IsRound w hops → IsSettled w hops hops 0
IsSettled-none w hops round = record {
  round = round;
  cost = refl;
  len = refl;
  first = λ k d lt. absurd (omega arith);
}

pub IsSettled-more : (w : Wiring) (old hops new : List Hop) (n : ℕ) (h : Hop) (t : Target) → IsSettled w old hops n
    → n < length hops → get_or hops n h ≡ h → AreAlike t h.flush → Contains (declared_by w h.item) t → IsFirst w h t
    → new ≡ put_flush hops n h t → IsSettled w old new (n + 1)
IsSettled-more w old hops new n h t is lt at alike there least made = subst
    (λ (l : List Hop). IsSettled w old l (n + 1)) (sym made) (record {
      round = record { some = omega (arith, is.round.some, same_len); first = is.round.first; path = path };
      cost = cost ∙ is.cost;
      len = same_len ∙ is.len;
      first = first;
    })
  where
    same_len : length (put_flush hops n h t) ≡ length hops
    same_len = length-set hops n (record h { flush = t })

    alike_at : AreAlike t (get_or hops n h).flush
    alike_at = subst (λ (g : Hop). AreAlike t g.flush) (sym at) alike

    path : IsPath w is.round.first (put_flush hops n h t) is.round.first
    path = subst (λ (g : Hop). IsPath w is.round.first (put_flush hops n g t) is.round.first) at
        (IsPath-alike w is.round.first is.round.first hops n h t lt alike_at
        (subst (λ (g : Hop). Contains (declared_by w g.item) t) (sym at) there)
        is.round.path)

    cost : hops_cost (put_flush hops n h t) ≡ hops_cost hops
    cost = subst (λ (g : Hop). hops_cost (put_flush hops n g t) ≡ hops_cost hops) at
        (hops_cost-alike hops n h t lt alike_at)

    first : (k : ℕ) (d : Hop) → k < n + 1
        → IsFirst w (get_or (put_flush hops n h t) k d) (get_or (put_flush hops n h t) k d).flush
    first k d low = elim (cases_eq k n) [
      | inl same ↦ (
          let here : get_or (put_flush hops n h t) k d ≡ record h { flush = t } =
          ap (λ (i : ℕ). get_or (put_flush hops n h t) i d) same
          ∙ get_or-set_same hops n (record h { flush = t }) d lt in
          subst (λ (g : Hop). IsFirst w g g.flush) (sym here)
          (λ u declared like. least u declared (AreAlike-trans u t h.flush like alike))
          )
      | inr other ↦ (
          let here : get_or (put_flush hops n h t) k d ≡ get_or hops k d =
          get_or-set_other hops n k (record h { flush = t }) d other in
          subst (λ (g : Hop). IsFirst w g g.flush) (sym here) (is.first k d (omega arith))
          )
    ]

pub AreFirstAlike-settled : (w : Wiring) (old hops : List Hop) (n : ℕ) → IsSettled w old hops n → length hops ≤ n
    → AreFirstAlike w hops
AreFirstAlike-settled w old hops n is enough h (k, lt, at) =
    subst (λ (g : Hop). IsFirst w g g.flush) at (is.first k h (omega arith))

-- ---- another beginning

IsPath-split : (w : Wiring) (n a b : ℕ) (hops : List Hop) → IsPath w a hops b
    → (c : ℕ) × IsPath w a (take n hops) c × IsPath w c (drop n hops) b
IsPath-split w zero a b hops path = (a, refl, path)
IsPath-split w (suc n) a b [] path = (a, refl, path)
IsPath-split w (suc n) a b (h ∷ hops) path =
    let rest = IsPath-split w n h.next b hops path.3 in
    (rest.0, (path.0, path.1, path.2, rest.1), rest.2)

-- the hops from number n on, and then those before it
abbrev pub turned_at : ℕ → List Hop → List Hop
turned_at n hops = drop n hops ++ take n hops

pub IsRound-turned : (w : Wiring) (n : ℕ) (hops : List Hop) → IsRound w hops → IsRound w (turned_at n hops)
IsRound-turned w n hops round =
    let parts = IsPath-split w n round.first round.first hops round.path in
    record {
      some = omega (
        arith,
        round.some,
        length-append (drop n hops) (take n hops),
        length-append (take n hops) (drop n hops),
        ap (λ (l : List Hop). length l) (take-append-drop n hops),
      );
      first = parts.0;
      path = IsPath-append w parts.0 round.first parts.0 (drop n hops) (take n hops) parts.2 parts.1;
    }

pub hops_cost-turned : (n : ℕ) (hops : List Hop) → hops_cost (turned_at n hops) ≡ hops_cost hops
hops_cost-turned n hops = omega (
  arith,
  hops_cost-append (drop n hops) (take n hops),
  hops_cost-append (take n hops) (drop n hops),
  ap hops_cost (take-append-drop n hops),
)

pub AreFirstAlike-turned : (w : Wiring) (n : ℕ) (hops : List Hop) → AreFirstAlike w hops
    → AreFirstAlike w (turned_at n hops)
AreFirstAlike-turned w n hops are h there = are h (subst (λ (l : List Hop). Contains l h) (take-append-drop n hops)
    (elim (Contains-append_cases (drop n hops) (take n hops) h there) [
      | inl later ↦ Contains-append_right (take n hops) (drop n hops) h later
      | inr before ↦ Contains-append_left (take n hops) (drop n hops) h before
    ]))

begins_at : (hops rest : List Hop) (i : ℕ) → i < length hops → ((d : Hop) → (get_or hops i d).flush.unsure ≡ true)
    → BeginsUnsure (drop i hops ++ rest)
begins_at [] rest i lt is = absurd (omega arith)
begins_at (h ∷ hops) rest zero lt is = λ sure. absurd (both_ways h.flush.unsure sure (is h))
begins_at (h ∷ hops) rest (suc i) lt is = begins_at hops rest i (omega arith) is

abbrev pub is_unsure : Hop → Bool
is_unsure = λ (h : Hop). h.flush.unsure

pub BeginsUnsure-turned : (hops : List Hop) (i : ℕ) → position is_unsure hops ≡ Some i
    → (i < length hops) × BeginsUnsure (turned_at i hops)
BeginsUnsure-turned hops i is = by hops is
  where
    by : (l : List Hop) → position is_unsure l ≡ Some i → (i < length l) × BeginsUnsure (turned_at i l)
    by [] found = absurd cc
    by (h ∷ hs) found =
        let at = position-Some is_unsure (h ∷ hs) i h found in
        (at.0, begins_at (h ∷ hs) (take i (h ∷ hs)) i at.0 (λ d. (position-Some is_unsure (h ∷ hs) i d found).1))

filter_none : (p : Hop → Bool) (hops : List Hop) → All (λ h. p h ≡ false) hops → filter p hops ≡ []
filter_none p [] none = refl
filter_none p (h ∷ hops) none =
    ap (λ (b : Bool). cond b (h ∷ filter p hops) (filter p hops)) (none 0 h (omega arith))
    ∙ filter_none p hops (All-tail (λ g. p g ≡ false) h hops none)

pub unsure_none : (hops : List Hop) → position is_unsure hops ≡ None → unsure_hops hops ≡ []
unsure_none hops none =
    let at : ℕ = position_or_len is_unsure hops in
    let past : length hops ≤ at = ltb-false at (length hops) (none_is (ltb at (length hops)) at none) in
    filter_none is_unsure hops (λ k d lt. fails_before_first is_unsure hops k d (omega arith))

pub BeginsUnsure-none : (hops : List Hop) → unsure_hops hops ≡ [] → BeginsUnsure hops
BeginsUnsure-none [] none = tt
BeginsUnsure-none (h ∷ hops) none = by h.flush.unsure refl none
  where
    by : (u : Bool) → h.flush.unsure ≡ u → cond u (h ∷ unsure_hops hops) (unsure_hops hops) ≡ []
        → h.flush.unsure ≡ false → unsure_hops hops ≡ []
    by true is empty sure = absurd (both_ways h.flush.unsure sure is)
    by false is empty sure = empty
