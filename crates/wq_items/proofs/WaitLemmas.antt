-- The targets of each item, while flushes are added, and when they are laid out.
use Rattle.std.proofs.Common.{◌≡◌, ℕ, ◌+◌, ◌<◌, ◌==◌, inl, inr, Bool, true, false, cond, List, [], ◌∷◌, ◌++◌, length, map, get_or, set, Result, Ok, Err, refl, sym, ap, subst, ◌∙◌, arith, append-nil, eq-eqb, ne_eqb}
use Rattle.std.specs.Prelude.{OnErr, filter}
use Rattle.std.specs.List.{All}
use Rattle.std.proofs.lemmas.Bool.{cases_eq}
use Rattle.std.proofs.lemmas.List.{length_push, length-set, map-append, get_or-set_same, get_or-set_other}
use Rattle.std.proofs.lemmas.List.Elements.{All-head, All-tail, All-push, All-weaker, filter-append}
use Rattle.std.proofs.lemmas.List.FromFn.{length-map-range_with_len, get_or-map-range_with_len, map-range_with_len_more, fill_by_all}
use Rattle.std.proofs.lemmas.List.Sums.{sum_by_push, sum_by-set}
use Rattle.wq_items.specs.declared.target.Target.{Target}
use Rattle.wq_items.specs.declared.flush.Flush.{Flush}
use Rattle.wq_items.specs.Table.{targets_of, flush_count}
use Rattle.wq_items.specs.Waits.{targets_among, waits_of}

-- what holds in any case holds for an error
pub OnErr-always : {T E : Type 0} (r : Result T E) (P : Type 0) → P → OnErr r P
OnErr-always (Ok x) P p = tt
OnErr-always (Err e) P p = p

pub length-waits_of : (flushes : List Flush) (items : ℕ) → length (waits_of flushes items) ≡ items
length-waits_of flushes items = length-map-range_with_len (targets_among flushes) 0 items

targets-at : (flushes : List Flush) (items i : ℕ) → i < items → targets_of (waits_of flushes items) i ≡ targets_among flushes i
targets-at flushes items i lt = get_or-map-range_with_len (targets_among flushes) 0 items i i [] lt (omega arith)

-- ---- one more item

targets_among-none : (flushes : List Flush) (i : ℕ) → All (λ (f : Flush). f.item < i) flushes → targets_among flushes i ≡ []
targets_among-none [] i below = refl
targets_among-none (f ∷ flushes) i below =
    let lt : f.item < i = All-head (λ (x : Flush). x.item < i) f flushes below in
    let other : (f.item == i) ≡ false = ne_eqb f.item i (λ (e : f.item ≡ i). omega arith) in
    ap (λ (b : Bool). map (λ (x : Flush). x.target) (cond b (f ∷ filter (λ (x : Flush). x.item == i) flushes) (filter (λ (x : Flush). x.item == i) flushes))) other
    ∙ targets_among-none flushes i (All-tail (λ (x : Flush). x.item < i) f flushes below)

pub waits_of-more : (flushes : List Flush) (items : ℕ) → All (λ (f : Flush). f.item < items) flushes → waits_of flushes (items + 1) ≡ waits_of flushes items ++ ([] ∷ [])
waits_of-more flushes items below =
    map-range_with_len_more (targets_among flushes) 0 items items (omega arith)
    ∙ ap (λ (ts : List Target). waits_of flushes items ++ (ts ∷ [])) (targets_among-none flushes items below)

pub below-more : (flushes : List Flush) (items : ℕ) → All (λ (f : Flush). f.item < items) flushes → All (λ (f : Flush). f.item < items + 1) flushes
below-more flushes items below = All-weaker (λ (f : Flush). f.item < items) (λ (f : Flush). f.item < items + 1) (λ (f : Flush) (lt : f.item < items). omega arith) flushes below

pub count-more : (waits : List (List Target)) → flush_count (waits ++ ([] ∷ [])) ≡ flush_count waits
count-more waits = omega (arith, sum_by_push {X = List Target} length waits [])

-- ---- one more flush

module _ (flushes : List Flush) (flush : Flush) where
  among : (i : ℕ) (b : Bool) → (flush.item == i) ≡ b → targets_among (flushes ++ (flush ∷ [])) i ≡ targets_among flushes i ++ map (λ (f : Flush). f.target) (cond b (flush ∷ []) [])
  among i b e =
      ap (map (λ (f : Flush). f.target)) (filter-append (λ (f : Flush). f.item == i) flushes (flush ∷ []))
      ∙ map-append (λ (f : Flush). f.target) (filter (λ (f : Flush). f.item == i) flushes) (cond (flush.item == i) (flush ∷ []) [])
      ∙ ap (λ (c : Bool). targets_among flushes i ++ map (λ (f : Flush). f.target) (cond c (flush ∷ []) [])) e

  pub waits_of-push : (items : ℕ) → flush.item < items
      → waits_of (flushes ++ (flush ∷ [])) items ≡ set (waits_of flushes items) flush.item (targets_of (waits_of flushes items) flush.item ++ (flush.target ∷ []))
  waits_of-push items lt =
      let i : ℕ = flush.item in
      let old : List (List Target) = waits_of flushes items in
      let grown : List Target = targets_of old i ++ (flush.target ∷ []) in
      sym (
      fill_by_all (targets_among (flushes ++ (flush ∷ []))) (set old i grown) items [] (length-set old i grown ∙ length-waits_of flushes items) (
      λ k within.
      elim (cases_eq k i) [
        | inl e ↦
            subst (λ (m : ℕ). get_or (set old i grown) m [] ≡ targets_among (flushes ++ (flush ∷ [])) m) (sym e) (
            get_or-set_same old i grown [] (omega (arith, length-waits_of flushes items))
            ∙ ap (λ (ts : List Target). ts ++ (flush.target ∷ [])) (targets-at flushes items i lt)
            ∙ sym (among i true (eq-eqb i i refl))
            )
        | inr ne ↦
            get_or-set_other old i k grown [] ne
            ∙ targets-at flushes items k within
            ∙ sym (append-nil (targets_among flushes k))
            ∙ sym (among k false (ne_eqb i k (λ (e : i ≡ k). ne (sym e))))
      ]
      )
      )

  pub below-push : (items : ℕ) → flush.item < items → All (λ (f : Flush). f.item < items) flushes → All (λ (f : Flush). f.item < items) (flushes ++ (flush ∷ []))
  below-push items lt below = All-push (λ (f : Flush). f.item < items) flushes flush below lt

pub count-push : (waits : List (List Target)) (i : ℕ) (target : Target) → i < length waits → flush_count (set waits i (targets_of waits i ++ (target ∷ []))) ≡ flush_count waits + 1
count-push waits i target lt =
    omega (
      arith,
      sum_by-set {X = List Target} length waits i (targets_of waits i ++ (target ∷ [])) [] lt,
      length_push {X = Target} (targets_of waits i) target,
    )

-- what holds for flushes after one of item i was added
module _ (flushes new : List Flush) (items i number : ℕ) (target : Target) (waits : List (List Target)) (shown : waits_of flushes items ≡ waits) (inside : i < length waits) (same : number ≡ i)
    (added : new ≡ flushes ++ (record { item = number; target = target } ∷ [])) where
  abbrev flush : Flush
  flush = record { item = number; target = target }

  within : number < items
  within = omega (arith, same, inside, ap length shown, length-waits_of flushes items)

  pub waits_of-added : waits_of new items ≡ set waits i (targets_of waits i ++ (target ∷ []))
  waits_of-added =
      ap (λ (fs : List Flush). waits_of fs items) added
      ∙ waits_of-push flushes flush items within
      ∙ ap (λ (w : List (List Target)). set w number (targets_of w number ++ (target ∷ []))) shown
      ∙ ap (λ (n : ℕ). set waits n (targets_of waits n ++ (target ∷ []))) same

  pub below-added : All (λ (f : Flush). f.item < items) flushes → All (λ (f : Flush). f.item < items) new
  below-added below = subst (All (λ (f : Flush). f.item < items)) (sym added) (below-push flushes flush items within below)

  pub count-added : length flushes ≡ flush_count (waits_of flushes items) → length new ≡ flush_count (waits_of new items)
  count-added counted =
      omega (
        arith,
        ap length added,
        length_push {X = Flush} flushes flush,
        counted,
        ap flush_count shown,
        ap flush_count waits_of-added,
        count-push waits i target inside,
      )
