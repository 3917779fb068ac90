-- The workqueue of each group, one item after the other.
use Rattle.std.proofs.Common.{◌≡◌, ◌≢◌, ℕ, ◌+◌, ◌<◌, ◌≤◌, ◌⊎◌, ◌==◌, inl, inr, Bool, true, false, ◌||◌, not, cond, ltb, eqb, List, [], ◌∷◌, ◌++◌, length, get_or, set, take, Option, Some, None, refl, sym, ap, ap₂, subst, ◌∙◌, arith, lt-ltb}
use Rattle.std.specs.List.{list_any, position, position_or_len, concat}
use Rattle.std.specs.Prelude.{slice_get}
use Rattle.std.proofs.Math.Bool.{or-false}
use Rattle.std.proofs.lemmas.Bool.{cases_Bool, cases_eq, cases_lt, le-ltb, eq-eqb, ne_eqb, both_ways, cond-true, cond-false}
use Rattle.std.proofs.lemmas.List.{length-set, length-append, get_or-set_same, get_or-set_other}
use Rattle.std.proofs.lemmas.List.Folds.{list_any-append, list_any_more, list_any_at, Any-from_list_any, position_or_len_push}
use Rattle.std.proofs.lemmas.List.FromFn.{length-map-range_with_len, get_or-map-range_with_len, fill_by_all}
use Rattle.std.proofs.lemmas.List.Sums.{fails_before_first, passes_at_first, prefix_len-le-length}
use Rattle.std.proofs.lemmas.Option.{get_or_from_slice_get}
use Rattle.wq_groups.specs.Partition.{Partition}
use Rattle.wq_cert.specs.Reading.{holds_member, splits_group, workqueue_with}
use Rattle.wq_cert.specs.Noted.{lanes_with, is_other}
use Rattle.wq_cert.proofs.StoodLemmas.{take_one, any_push, or_true}

-- ---- the first that passes

module _ {X : Type 0} (p : X → Bool) where
  some_at : (xs : List X) (i : ℕ) → position_or_len p xs ≡ i → i < length xs → position p xs ≡ Some i
  some_at xs i is lt = subst (λ k. k < length xs → position p xs ≡ Some k) is (λ below. cond-true (ltb (position_or_len p xs) (length xs)) (Some (position_or_len p xs)) None (lt-ltb (position_or_len p xs) (length xs) below)) lt

  none_at : (xs : List X) → length xs ≤ position_or_len p xs → position p xs ≡ None
  none_at xs le = cond-false (ltb (position_or_len p xs) (length xs)) (Some (position_or_len p xs)) None (le-ltb (position_or_len p xs) (length xs) le)

  first_in : (xs : List X) → list_any p xs ≡ true → position_or_len p xs < length xs
  first_in xs any = let a = Any-from_list_any p xs any in not_later a.0 a.1 a.2 a.3 a.4 (cases_lt a.0 (position_or_len p xs))
    where
      not_later : (i : ℕ) (x : X) → i < length xs → get_or xs i x ≡ x → p x ≡ true → (i < position_or_len p xs) ⊎ (position_or_len p xs ≤ i) → position_or_len p xs < length xs
      not_later i x lt at holds (inl before) = absurd (both_ways (p x) (ap p (sym at) ∙ fails_before_first p xs i x before) holds)
      not_later i x lt at holds (inr behind) = omega (arith, lt, behind)

  nowhere_in : (xs : List X) → list_any p xs ≡ false → position_or_len p xs ≡ length xs
  nowhere_in [] none = refl
  nowhere_in (x ∷ xs) none = at_end (cases_lt (position_or_len p (x ∷ xs)) (length (x ∷ xs)))
    where
      at_end : (position_or_len p (x ∷ xs) < length (x ∷ xs)) ⊎ (length (x ∷ xs) ≤ position_or_len p (x ∷ xs)) → position_or_len p (x ∷ xs) ≡ length (x ∷ xs)
      at_end (inl before) = absurd (both_ways (list_any p (x ∷ xs)) none (list_any_at p (x ∷ xs) (position_or_len p (x ∷ xs)) x before (passes_at_first p (x ∷ xs) x before)))
      at_end (inr behind) = omega (arith, behind, prefix_len-le-length (λ (y : X). not (p y)) (x ∷ xs))

  pub position-any : (xs : List X) → list_any p xs ≡ true → position p xs ≡ Some (position_or_len p xs)
  position-any xs any = some_at xs (position_or_len p xs) refl (first_in xs any)

  pub position-below : (xs : List X) → list_any p xs ≡ true → position_or_len p xs < length xs
  position-below xs any = first_in xs any

  pub position-none : (xs : List X) → list_any p xs ≡ false → position p xs ≡ None
  position-none xs none = none_at xs (omega (arith, nowhere_in xs none))

  -- one more after them
  pub position-push_any : (xs : List X) (y : X) → list_any p xs ≡ true → position p (xs ++ (y ∷ [])) ≡ position p xs
  position-push_any xs y any =
      let below : position_or_len p xs < length xs = first_in xs any in
      let differ : position_or_len p xs ≢ length xs = λ e. omega (arith, e, below) in
      some_at (xs ++ (y ∷ [])) (position_or_len p xs)
      (position_or_len_push p xs y ∙ cond-false (eqb (position_or_len p xs) (length xs)) (length xs + cond (p y) 0 1) (position_or_len p xs) (ne_eqb (position_or_len p xs) (length xs) differ))
      (omega (arith, below, length-append xs (y ∷ [])))
      ∙ sym (position-any xs any)

  pub position-push_here : (xs : List X) (y : X) → list_any p xs ≡ false → p y ≡ true → position p (xs ++ (y ∷ [])) ≡ Some (length xs)
  position-push_here xs y none here =
      let last : position_or_len p xs ≡ length xs = nowhere_in xs none in
      some_at (xs ++ (y ∷ [])) (length xs)
      (position_or_len_push p xs y ∙ cond-true (eqb (position_or_len p xs) (length xs)) (length xs + cond (p y) 0 1) (position_or_len p xs) (eq-eqb (position_or_len p xs) (length xs) last)
      ∙ ap (λ b. length xs + cond b 0 1) here ∙ plus_zero (length xs))
      (omega (arith, length-append xs (y ∷ [])))
    where
      plus_zero : (n : ℕ) → n + 0 ≡ n
      plus_zero n = omega arith

  pub position-push_none : (xs : List X) (y : X) → list_any p xs ≡ false → p y ≡ false → position p (xs ++ (y ∷ [])) ≡ None
  position-push_none xs y none not_here = position-none (xs ++ (y ∷ [])) (any_push p xs y ∙ ap₂ (λ (a b : Bool). a || b) none not_here)

-- ---- the workqueue of a group

pub any_concat : (q : ℕ → Bool) (xss : List (List ℕ)) → list_any q (concat xss) ≡ list_any (λ xs. list_any q xs) xss
any_concat q [] = refl
any_concat q (xs ∷ xss) = list_any-append q xs (concat xss) ∙ ap (λ b. list_any q xs || b) (any_concat q xss)

module _ (group_of : List ℕ) (workqueues : List (List ℕ)) (g : ℕ) where
  holds : List ℕ → Bool
  holds items = holds_member group_of items g

  pub any_holds : (b : Bool) → holds_member group_of (concat workqueues) g ≡ b
      → list_any (λ items. holds_member group_of items g) workqueues ≡ b
  any_holds b is = sym (any_concat (λ i. get_or group_of i 0 == g) workqueues) ∙ is

  -- it is one of those that hold a member, if one does
  pub record HasWorkqueue : Type 0 where
    pub workqueue : ℕ
    pub below : workqueue < length workqueues
    pub is : workqueue_with group_of workqueues g ≡ Some workqueue

  pub HasWorkqueue-held : holds_member group_of (concat workqueues) g ≡ true → HasWorkqueue
  HasWorkqueue-held held = record {
    workqueue = position_or_len (λ items. holds_member group_of items g) workqueues;
    below = position-below (λ items. holds_member group_of items g) workqueues (any_holds true held);
    is = position-any (λ items. holds_member group_of items g) workqueues (any_holds true held);
  }

  push_held : (front : List ℕ) → holds_member group_of (concat workqueues) g ≡ true → workqueue_with group_of (workqueues ++ (front ∷ [])) g ≡ workqueue_with group_of workqueues g
  push_held front held = position-push_any (λ items. holds_member group_of items g) workqueues front (any_holds true held)

  push_here : (front : List ℕ) → holds_member group_of (concat workqueues) g ≡ false → holds_member group_of front g ≡ true → workqueue_with group_of (workqueues ++ (front ∷ [])) g ≡ Some (length workqueues)
  push_here front free here = position-push_here (λ items. holds_member group_of items g) workqueues front (any_holds false free) here

  push_none : (front : List ℕ) → holds_member group_of (concat workqueues) g ≡ false → holds_member group_of front g ≡ false → workqueue_with group_of (workqueues ++ (front ∷ [])) g ≡ None
  push_none front free not_here = position-push_none (λ items. holds_member group_of items g) workqueues front (any_holds false free) not_here

  -- nor does a member of another group
  push_alike : (front others : List ℕ) → holds_member group_of front g ≡ holds_member group_of others g → workqueue_with group_of (workqueues ++ (front ∷ [])) g ≡ workqueue_with group_of (workqueues ++ (others ∷ [])) g
  push_alike front others alike = elim (cases_Bool (holds_member group_of (concat workqueues) g)) [
    | inl held ↦ push_held front held ∙ sym (push_held others held)
    | inr free ↦
        elim (cases_Bool (holds_member group_of front g)) [
          | inl here ↦ push_here front free here ∙ sym (push_here others free (sym alike ∙ here))
          | inr not_here ↦ push_none front free not_here ∙ sym (push_none others free (sym alike ∙ not_here))
        ]
  ]

  -- whether the group is on a workqueue other than the next
  other_held : (front : List ℕ) → holds_member group_of (concat workqueues) g ≡ true → is_other (workqueue_with group_of (workqueues ++ (front ∷ [])) g) (length workqueues) ≡ true
  other_held front held =
      let q = HasWorkqueue-held held in
      let differ : q.workqueue ≢ length workqueues = λ e. omega (arith, e, q.below) in
      ap (λ o. is_other o (length workqueues)) (push_held front held ∙ q.is) ∙ ap not (ne_eqb q.workqueue (length workqueues) differ)

  other_free : (front : List ℕ) → holds_member group_of (concat workqueues) g ≡ false → is_other (workqueue_with group_of (workqueues ++ (front ∷ [])) g) (length workqueues) ≡ false
  other_free front free = elim (cases_Bool (holds_member group_of front g)) [
    | inl here ↦ ap (λ o. is_other o (length workqueues)) (push_here front free here) ∙ ap not (eq-eqb (length workqueues) (length workqueues) refl)
    | inr not_here ↦ ap (λ o. is_other o (length workqueues)) (push_none front free not_here)
  ]

  pub other_is : (front : List ℕ) → is_other (workqueue_with group_of (workqueues ++ (front ∷ [])) g) (length workqueues) ≡ holds_member group_of (concat workqueues) g
  other_is front = elim (cases_Bool (holds_member group_of (concat workqueues) g)) [
    | inl held ↦ other_held front held ∙ sym held
    | inr free ↦ other_free front free ∙ sym free
  ]

-- ---- settling

-- the groups of the first k items are on the next workqueue, and on none before it
pub record Settled (p : Partition) (lane : ℕ) (old new : List (Option ℕ)) (items : List ℕ) (k : ℕ) : Type 0 where
  pub long : length new ≡ length old
  pub lanes : (workqueues : List (List ℕ)) → lane ≡ length workqueues → old ≡ lanes_with p workqueues → new ≡ lanes_with p (workqueues ++ (take k items ∷ []))
  pub apart : (workqueues : List (List ℕ)) → lane ≡ length workqueues → old ≡ lanes_with p workqueues → splits_group p.group_of (concat workqueues) (take k items) ≡ false

pub length-lanes_with : (p : Partition) (workqueues : List (List ℕ)) → length (lanes_with p workqueues) ≡ p.groups
length-lanes_with p workqueues = length-map-range_with_len (workqueue_with p.group_of workqueues) 0 p.groups

pub get_or-lanes_with : (p : Partition) (workqueues : List (List ℕ)) (g : ℕ) (d : Option ℕ) → g < p.groups
    → get_or (lanes_with p workqueues) g d ≡ workqueue_with p.group_of workqueues g
get_or-lanes_with p workqueues g d lt = get_or-map-range_with_len (workqueue_with p.group_of workqueues) 0 p.groups g g d lt (omega arith)

-- item x of group g is the next
pub record NextMember (p : Partition) (lane : ℕ) (new : List (Option ℕ)) (items : List ℕ) (k x g : ℕ) (held : Option ℕ) : Type 0 where
  pub within : k < length items
  pub item : x ≡ get_or items k x
  pub group : get_or p.group_of x 0 ≡ g
  pub few : g < p.groups
  pub found : held ≡ get_or new g held

pub NextMember-read : (p : Partition) (lane : ℕ) (new : List (Option ℕ)) (items : List ℕ) (k x group g : ℕ) (held : Option ℕ) → k < length items → x ≡ get_or items k x → slice_get p.group_of x ≡ Some group → group < p.groups
    → g ≡ group → held ≡ get_or new g held → NextMember p lane new items k x g held
NextMember-read p lane new items k x group g held within item of few same found =
    record { within = within; item = item; group = get_or_from_slice_get p.group_of x group 0 of ∙ sym same; few = omega (arith, few, same); found = found }

module _ (p : Partition) (lane : ℕ) (old new : List (Option ℕ)) (items : List ℕ) (k x g : ℕ) (held : Option ℕ) (next : NextMember p lane new items k x g held) (h : Settled p lane old new items k) where
  module _ (workqueues : List (List ℕ)) (here : lane ≡ length workqueues) (is : old ≡ lanes_with p workqueues) where
    G : List ℕ
    G = p.group_of

    held_is : held ≡ workqueue_with p.group_of (workqueues ++ (take k items ∷ [])) g
    held_is = next.found ∙ ap (λ (ls : List (Option ℕ)). get_or ls g held) (h.lanes workqueues here is) ∙ get_or-lanes_with p (workqueues ++ (take k items ∷ [])) g held next.few

    other : is_other held lane ≡ holds_member p.group_of (concat workqueues) g
    other = ap₂ (λ (o : Option ℕ) (l : ℕ). is_other o l) held_is here ∙ other_is p.group_of workqueues g (take k items)

    -- whether the next item splits its group
    splits : holds_member p.group_of (concat workqueues) (get_or p.group_of (get_or items k x) 0) ≡ is_other held lane
    splits = ap (λ i. holds_member p.group_of (concat workqueues) (get_or p.group_of i 0)) (sym next.item) ∙ ap (holds_member p.group_of (concat workqueues)) next.group ∙ sym other

    more_lanes : is_other held lane ≡ false → set new g (Some lane) ≡ lanes_with p (workqueues ++ (take (k + 1) items ∷ []))
    more_lanes same =
        fill_by_all (workqueue_with p.group_of (workqueues ++ (take (k + 1) items ∷ []))) (set new g (Some lane)) p.groups None
        (length-set new g (Some lane) ∙ ap length (h.lanes workqueues here is) ∙ length-lanes_with p (workqueues ++ (take k items ∷ []))) at
      where
        members : (j : ℕ) → holds_member p.group_of (take (k + 1) items) j ≡ (holds_member p.group_of (take k items) j || (g == j))
        members j =
            ap (λ (is : List ℕ). holds_member p.group_of is j) (take_one items k x next.within next.item) ∙ any_push (λ i. get_or p.group_of i 0 == j) (take k items) x
            ∙ ap (λ i. holds_member p.group_of (take k items) j || (i == j)) next.group

        at : (j : ℕ) → j < p.groups → get_or (set new g (Some lane)) j None ≡ workqueue_with p.group_of (workqueues ++ (take (k + 1) items ∷ [])) j
        at j lt = elim (cases_eq j g) [
          | inl own ↦
              ap (λ i. get_or (set new g (Some lane)) i None) own
              ∙ get_or-set_same new g (Some lane) None (omega (arith, next.few, ap length (h.lanes workqueues here is), length-lanes_with p (workqueues ++ (take k items ∷ []))))
              ∙ ap (λ l. Some l) here
              ∙ sym (ap (workqueue_with p.group_of (workqueues ++ (take (k + 1) items ∷ []))) own
              ∙ push_here p.group_of workqueues g (take (k + 1) items) (sym other ∙ same)
              (members g ∙ ap (λ b. holds_member p.group_of (take k items) g || b) (eq-eqb g g refl) ∙ or_true (holds_member p.group_of (take k items) g)))
          | inr differs ↦
              get_or-set_other new g j (Some lane) None differs ∙ ap (λ (ls : List (Option ℕ)). get_or ls j None) (h.lanes workqueues here is)
              ∙ get_or-lanes_with p (workqueues ++ (take k items ∷ [])) j None lt
              ∙ push_alike p.group_of workqueues j (take k items) (take (k + 1) items)
              (sym (members j ∙ ap (λ b. holds_member p.group_of (take k items) j || b) (ne_eqb g j (λ e. differs (sym e))) ∙ or-false (holds_member p.group_of (take k items) j)))
        ]

    more_apart : is_other held lane ≡ false → splits_group p.group_of (concat workqueues) (take (k + 1) items) ≡ false
    more_apart same =
        list_any_more (λ i. holds_member p.group_of (concat workqueues) (get_or p.group_of i 0)) items k x next.within ∙ ap₂ (λ (a b : Bool). a || b) (h.apart workqueues here is) (splits ∙ same)

  pub Settled-split : is_other held lane ≡ true → (workqueues : List (List ℕ)) → lane ≡ length workqueues → old ≡ lanes_with p workqueues → splits_group p.group_of (concat workqueues) items ≡ true
  Settled-split split workqueues here is =
      list_any_at (λ i. holds_member p.group_of (concat workqueues) (get_or p.group_of i 0)) items k x next.within (splits workqueues here is ∙ split)

  pub Settled-more : is_other held lane ≡ false → Settled p lane old (set new g (Some lane)) items (k + 1)
  Settled-more same = record {
    long = length-set new g (Some lane) ∙ h.long;
    lanes = λ workqueues here is. more_lanes workqueues here is same;
    apart = λ workqueues here is. more_apart workqueues here is same;
  }
