-- Workqueues as lists of items: what is on them, and how they grow.
use Rattle.std.proofs.Common.{◌≡◌, ◌≢◌, ℕ, zero, suc, ◌+◌, ◌<◌, ◌≤◌, ◌⊎◌, inl, inr, Bool, true, false, eqb, List, [], ◌∷◌, ◌++◌, length, get_or, refl, sym, ap, subst, ◌∙◌, arith, append_assoc, append-nil, length-append}
use Rattle.std.specs.Prelude.{AllPairs, Contains, slice_index}
use Rattle.std.specs.List.{All, list_any, concat, range_with_len}
use Rattle.std.proofs.lemmas.Bool.{both_ways, false_from_ne_true, or_parts, or_from, eqb-true, eq-eqb}
use Rattle.std.proofs.lemmas.List.{get_or_append_left, get_or-append-add, get_or_default}
use Rattle.std.proofs.lemmas.List.Elements.{All-nil, All-append, Contains-append_left, Contains-append_right, Contains-append_cases}
use Rattle.std.proofs.lemmas.List.Folds.{concat-append, Any-from_list_any, list_any_at}
use Rattle.std.proofs.lemmas.List.FromFn.{length-range_with_len, get_or-range_with_len}
use Rattle.std.proofs.lemmas.List.Quantifiers.{all_pairs_push}
use Rattle.std.proofs.lemmas.List.Sums.{AllPass-from_list_all, list_all-from_AllPass}
use Rattle.wq_cert.specs.Reading.{stands_in, has_stood, splits_group, hold_all}
use Rattle.wq_cert.specs.Spelled.{IsOnWorkqueue, GroupsAreWhole, AreWorkqueues}

-- ---- what is in a list

pub Contains-stands_in : (items : List ℕ) (i : ℕ) → stands_in items i ≡ true → Contains items i
Contains-stands_in items i e =
    let found = Any-from_list_any (λ j. eqb i j) items e in
    (found.0, found.2, get_or_default items found.0 i found.1 found.2 ∙ found.3 ∙ sym (eqb-true i found.1 found.4))

pub stands_in-Contains : (items : List ℕ) (i : ℕ) → Contains items i → stands_in items i ≡ true
stands_in-Contains items i h = list_any_at (λ j. eqb i j) items h.0 i h.1 (eq-eqb i (get_or items h.0 i) (sym h.2))

-- each number is there once
abbrev pub Once : List ℕ → Type 0
Once items = AllPairs (λ (i j : ℕ). i ≢ j) items

pub Once-front : (xs ys : List ℕ) → Once (xs ++ ys) → Once xs
Once-front xs ys once i j d lt within same =
    once i j d lt (omega (arith, within, length-append xs ys)) (get_or_append_left xs ys d i (omega arith) ∙ same ∙ sym (get_or_append_left xs ys d j within))

Once-apart : (xs ys : List ℕ) (i : ℕ) → Once (xs ++ ys) → Contains xs i → Contains ys i → ⊥
Once-apart xs ys i once left right =
    once left.0 (length xs + right.0) i (omega (arith, left.1)) (omega (arith, right.1, length-append xs ys))
    (get_or_append_left xs ys i left.0 left.1 ∙ left.2 ∙ sym (get_or-append-add xs ys right.0 i ∙ right.2))

Once-push : (xs : List ℕ) (i : ℕ) → Once xs → (Contains xs i → ⊥) → Once (xs ++ (i ∷ []))
Once-push xs i once absent = all_pairs_push (λ (a b : ℕ). a ≢ b) xs i once (λ k d within same. absent (k, within, get_or_default xs k i d within ∙ same))

pub Once-has_stood : (before items : List ℕ) → Once before → has_stood before items ≡ false → Once (before ++ items)
Once-has_stood before [] once e = subst Once (sym (append-nil before)) once
Once-has_stood before (i ∷ items) once e =
    let parts = or_parts (stands_in before i) (has_stood (before ++ (i ∷ [])) items) e in
    subst Once (append_assoc before (i ∷ []) items)
    (Once-has_stood (before ++ (i ∷ [])) items (Once-push before i once (λ h. both_ways (stands_in before i) parts.0 (stands_in-Contains before i h))) parts.1)

pub has_stood-Once : (before items : List ℕ) → Once (before ++ items) → has_stood before items ≡ false
has_stood-Once before [] once = refl
has_stood-Once before (i ∷ items) once =
    or_from (stands_in before i) (has_stood (before ++ (i ∷ [])) items)
    (false_from_ne_true (stands_in before i) (λ e. Once-apart before (i ∷ items) i once (Contains-stands_in before i e) (0, omega arith, refl)))
    (has_stood-Once (before ++ (i ∷ [])) items (subst Once (sym (append_assoc before (i ∷ []) items)) once))

-- ---- all of this many items

pub Contains-hold_all : (items : ℕ) (workqueues : List (List ℕ)) → hold_all items workqueues ≡ true → (i : ℕ) → i < items → Contains (concat workqueues) i
Contains-hold_all items workqueues e i within =
    let each = AllPass-from_list_all (stands_in (concat workqueues)) (range_with_len 0 items) e in
    let here : get_or (range_with_len 0 items) i 0 ≡ i = get_or-range_with_len 0 items i 0 within ∙ omega arith in
    Contains-stands_in (concat workqueues) i (subst (λ j. stands_in (concat workqueues) j ≡ true) here (each i 0 (omega (arith, within, length-range_with_len 0 items))))

pub hold_all-Contains : (items : ℕ) (workqueues : List (List ℕ)) → ((i : ℕ) → i < items → Contains (concat workqueues) i) → hold_all items workqueues ≡ true
hold_all-Contains items workqueues each =
    list_all-from_AllPass (stands_in (concat workqueues)) (range_with_len 0 items)
    (λ i d within.
    let lt : i < items = omega (arith, within, length-range_with_len 0 items) in
    let here : get_or (range_with_len 0 items) i d ≡ i = get_or-range_with_len 0 items i d lt ∙ omega arith in
    subst (λ j. stands_in (concat workqueues) j ≡ true) (sym here) (stands_in-Contains (concat workqueues) i (each i lt)))

-- ---- groups apart

-- no item of the list shares a group with one of those before
abbrev pub AreApart : List ℕ → List ℕ → List ℕ → Type 0
AreApart group_of before items = (i j : ℕ) → Contains items i → Contains before j → slice_index group_of i ≡ slice_index group_of j → ⊥

module _ (group_of before : List ℕ) where
  abbrev shares : ℕ → ℕ → Bool
  shares i j = eqb (slice_index group_of j) (slice_index group_of i)

  pub AreApart-splits_group : (items : List ℕ) → splits_group group_of before items ≡ false → AreApart group_of before items
  AreApart-splits_group items e i j here there same =
      let inner : list_any (shares i) before ≡ true =
      list_any_at (shares i) before there.0 j there.1 (eq-eqb (slice_index group_of (get_or before there.0 j)) (slice_index group_of i) (sym (same ∙ ap (slice_index group_of) (sym there.2)))) in
      both_ways (splits_group group_of before items) e
      (list_any_at (λ k. list_any (shares k) before) items here.0 i here.1 (ap (λ k. list_any (shares k) before) here.2 ∙ inner))

  pub splits_group-AreApart : (items : List ℕ) → AreApart group_of before items → splits_group group_of before items ≡ false
  splits_group-AreApart items apart =
      false_from_ne_true (splits_group group_of before items)
      (λ e.
      let one = Any-from_list_any (λ k. list_any (shares k) before) items e in
      let other = Any-from_list_any (shares one.1) before one.4 in
      apart one.1 other.1 (one.0, one.2, one.3) (other.0, other.2, other.3) (sym (eqb-true (slice_index group_of other.1) (slice_index group_of one.1) other.4)))

-- ---- workqueues

pub nothing_there : (i : ℕ) → Contains [] i → ⊥
nothing_there i h = omega (arith, h.1)

pub on_workqueue-below : (workqueues : List (List ℕ)) (q i : ℕ) → IsOnWorkqueue workqueues q i → q < length workqueues
on_workqueue-below [] q i h = absurd (nothing_there i h)
on_workqueue-below (xs ∷ xss) zero i h = omega arith
on_workqueue-below (xs ∷ xss) (suc q) i h = omega (arith, on_workqueue-below xss q i h)

pub Contains-on_workqueue : (workqueues : List (List ℕ)) (q i : ℕ) → IsOnWorkqueue workqueues q i → Contains (concat workqueues) i
Contains-on_workqueue [] q i h = absurd (nothing_there i h)
Contains-on_workqueue (xs ∷ xss) zero i h = Contains-append_left xs (concat xss) i h
Contains-on_workqueue (xs ∷ xss) (suc q) i h = Contains-append_right xs (concat xss) i (Contains-on_workqueue xss q i h)

pub on_workqueue-Contains : (workqueues : List (List ℕ)) (i : ℕ) → Contains (concat workqueues) i → (q : ℕ) × IsOnWorkqueue workqueues q i
on_workqueue-Contains [] i h = absurd (nothing_there i h)
on_workqueue-Contains (xs ∷ xss) i h = elim (Contains-append_cases xs (concat xss) i h) [
  | inl here ↦ (0, here)
  | inr later ↦ let found = on_workqueue-Contains xss i later in (suc found.0, found.1)
]

on_workqueue-front : (workqueues more : List (List ℕ)) (q i : ℕ) → IsOnWorkqueue workqueues q i → IsOnWorkqueue (workqueues ++ more) q i
on_workqueue-front [] more q i h = absurd (nothing_there i h)
on_workqueue-front (xs ∷ xss) more zero i h = h
on_workqueue-front (xs ∷ xss) more (suc q) i h = on_workqueue-front xss more q i h

on_workqueue-last : (workqueues : List (List ℕ)) (items : List ℕ) (i : ℕ) → Contains items i → IsOnWorkqueue (workqueues ++ (items ∷ [])) (length workqueues) i
on_workqueue-last [] items i h = h
on_workqueue-last (xs ∷ xss) items i h = on_workqueue-last xss items i h

-- on one of these, or on the last
on_workqueue-push : (workqueues : List (List ℕ)) (items : List ℕ) (q i : ℕ) → IsOnWorkqueue (workqueues ++ (items ∷ [])) q i → IsOnWorkqueue workqueues q i ⊎ ((q ≡ length workqueues) × Contains items i)
on_workqueue-push [] items zero i h = inr (refl, h)
on_workqueue-push [] items (suc q) i h = absurd (nothing_there i h)
on_workqueue-push (xs ∷ xss) items zero i h = inl h
on_workqueue-push (xs ∷ xss) items (suc q) i h = elim (on_workqueue-push xss items q i h) [
  | inl there ↦ inl there
  | inr last ↦ inr (ap suc last.0, last.1)
]

module _ (group_of : List ℕ) (workqueues : List (List ℕ)) where
  pub GroupsAreWhole-front : (more : List (List ℕ)) → GroupsAreWhole group_of (workqueues ++ more) → GroupsAreWhole group_of workqueues
  GroupsAreWhole-front more whole q r i j left right same = whole q r i j (on_workqueue-front workqueues more q i left) (on_workqueue-front workqueues more r j right) same

  pub GroupsAreWhole-push : (items : List ℕ) → GroupsAreWhole group_of workqueues → AreApart group_of (concat workqueues) items → GroupsAreWhole group_of (workqueues ++ (items ∷ []))
  GroupsAreWhole-push items whole apart q r i j left right same = elim (on_workqueue-push workqueues items q i left) [
    | inl one ↦ elim (on_workqueue-push workqueues items r j right) [
      | inl other ↦ whole q r i j one other same
      | inr last ↦ absurd (apart j i last.1 (Contains-on_workqueue workqueues q i one) (sym same))
    ]
    | inr last ↦ elim (on_workqueue-push workqueues items r j right) [
      | inl other ↦ absurd (apart i j last.1 (Contains-on_workqueue workqueues r j other) same)
      | inr too ↦ last.0 ∙ sym too.0
    ]
  ]

  pub AreApart-whole : (items : List ℕ) → GroupsAreWhole group_of (workqueues ++ (items ∷ [])) → AreApart group_of (concat workqueues) items
  AreApart-whole items whole i j here there same =
      let other = on_workqueue-Contains workqueues j there in
      let differ : length workqueues ≡ other.0 = whole (length workqueues) other.0 i j (on_workqueue-last workqueues items i here) (on_workqueue-front workqueues (items ∷ []) other.0 j other.1) same in
      omega (arith, differ, on_workqueue-below workqueues other.0 j other.1)

-- ---- workqueues that grow

-- what holds for the workqueues that have been read so far
pub record AreGrown (items : ℕ) (group_of : List ℕ) (workqueues : List (List ℕ)) : Type 0 where
  pub few : length workqueues ≤ 4096
  pub known : All (λ i. i < items) (concat workqueues)
  pub once : Once (concat workqueues)
  pub whole : GroupsAreWhole group_of workqueues

pub AreGrown-none : (items : ℕ) (group_of : List ℕ) → AreGrown items group_of []
AreGrown-none items group_of = record {
  few = omega arith;
  known = All-nil (λ i. i < items);
  once = λ i j d lt within. absurd (omega arith);
  whole = λ q r i j left right same. absurd (nothing_there i left);
}

pub AreGrown-workqueues : (items : ℕ) (group_of : List ℕ) (workqueues : List (List ℕ)) → AreWorkqueues items group_of workqueues → AreGrown items group_of workqueues
AreGrown-workqueues items group_of workqueues h = record { few = h.few; known = h.known; once = h.once; whole = h.whole }

pub concat-push : (workqueues : List (List ℕ)) (items : List ℕ) → concat (workqueues ++ (items ∷ [])) ≡ concat workqueues ++ items
concat-push workqueues items = concat-append workqueues (items ∷ []) ∙ ap (λ (l : List ℕ). concat workqueues ++ l) (append-nil items)

All-front : (P : ℕ → Type 0) (xs ys : List ℕ) → All P (xs ++ ys) → All P xs
All-front P xs ys h k d within = subst P (get_or_append_left xs ys d k within) (h k d (omega (arith, within, length-append xs ys)))

All-back : (P : ℕ → Type 0) (xs ys : List ℕ) → All P (xs ++ ys) → All P ys
All-back P xs ys h k d within = subst P (get_or-append-add xs ys k d) (h (length xs + k) d (omega (arith, within, length-append xs ys)))

module _ (items : ℕ) (group_of : List ℕ) where
  pub AreGrown-front : (workqueues more : List (List ℕ)) → AreGrown items group_of (workqueues ++ more) → AreGrown items group_of workqueues
  AreGrown-front workqueues more h = record {
    few = omega (arith, h.few, length-append workqueues more);
    known = All-front (λ i. i < items) (concat workqueues) (concat more) (subst (All (λ i. i < items)) (concat-append workqueues more) h.known);
    once = Once-front (concat workqueues) (concat more) (subst Once (concat-append workqueues more) h.once);
    whole = GroupsAreWhole-front group_of workqueues more h.whole;
  }

  -- the items are those of one more workqueue
  pub record IsNextWorkqueue (workqueues : List (List ℕ)) (workqueue : List ℕ) : Type 0 where
    pub room : length workqueues < 4096
    pub known : All (λ i. i < items) workqueue
    pub fresh : has_stood (concat workqueues) workqueue ≡ false
    pub apart : splits_group group_of (concat workqueues) workqueue ≡ false

  pub AreGrown-push : (workqueues : List (List ℕ)) (workqueue : List ℕ) → AreGrown items group_of workqueues → IsNextWorkqueue workqueues workqueue → AreGrown items group_of (workqueues ++ (workqueue ∷ []))
  AreGrown-push workqueues workqueue h next = record {
    few = omega (arith, next.room, length-append workqueues (workqueue ∷ []));
    known = subst (All (λ i. i < items)) (sym (concat-push workqueues workqueue)) (All-append (λ i. i < items) (concat workqueues) workqueue h.known next.known);
    once = subst Once (sym (concat-push workqueues workqueue)) (Once-has_stood (concat workqueues) workqueue h.once next.fresh);
    whole = GroupsAreWhole-push group_of workqueues workqueue h.whole (AreApart-splits_group group_of (concat workqueues) workqueue next.apart);
  }

  pub IsNextWorkqueue-grown : (workqueues : List (List ℕ)) (workqueue : List ℕ) → AreGrown items group_of (workqueues ++ (workqueue ∷ [])) → IsNextWorkqueue workqueues workqueue
  IsNextWorkqueue-grown workqueues workqueue h = record {
    room = omega (arith, h.few, length-append workqueues (workqueue ∷ []));
    known = All-back (λ i. i < items) (concat workqueues) workqueue (subst (All (λ i. i < items)) (concat-push workqueues workqueue) h.known);
    fresh = has_stood-Once (concat workqueues) workqueue (subst Once (concat-push workqueues workqueue) h.once);
    apart = splits_group-AreApart group_of (concat workqueues) workqueue (AreApart-whole group_of workqueues workqueue h.whole);
  }

  pub AreWorkqueues-grown : (workqueues : List (List ℕ)) → AreGrown items group_of workqueues → hold_all items workqueues ≡ true → AreWorkqueues items group_of workqueues
  AreWorkqueues-grown workqueues h all = record { few = h.few; known = h.known; all = Contains-hold_all items workqueues all; once = h.once; whole = h.whole }
