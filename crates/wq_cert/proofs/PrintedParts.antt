-- Unsure parts as they are printed: which unsure flush is at a place, and the lines of several.
use Rattle.std.proofs.Common.{◌≡◌, ℕ, zero, suc, ◌+◌, ◌-◌, ◌<◌, ◌≤◌, ◌==◌, ◌&&◌, ◌||◌, inl, inr, Bool, true, false}
use Rattle.std.proofs.Common.{cond, List, [], ◌∷◌, ◌++◌, length, map, take, drop, get_or, set, replicate, Option}
use Rattle.std.proofs.Common.{Some, None, refl, sym, ap, ap₂, subst, ◌∙◌, arith, append_assoc, append-nil}
use Rattle.std.specs.Prelude.{find, filter_map, flat_map, IsPermutation}
use Rattle.std.specs.List.{All, range_with_len, list_any, cons_option}
use Rattle.std.specs.Option.{option_or}
use Rattle.std.proofs.Math.Bool.{and-false}
use Rattle.std.proofs.Math.Seq.{drop-cons, get_or-append_seam}
use Rattle.std.proofs.lemmas.Bool.{cases_eq, cases_lt, eq-eqb, eqb-true, ne_eqb}
use Rattle.std.proofs.lemmas.List.{length-map, length-append, length-set, length-replicate, map-append, take_more}
use Rattle.std.proofs.lemmas.List.{take_all, take-append-drop, get_or-set_same, get_or-set_other, get_or-replicate}
use Rattle.std.proofs.lemmas.List.{get_or-map, get_or_append_left, get_or_past}
use Rattle.std.proofs.lemmas.List.Elements.{All-nil, All-append, All-map, filter_map-append}
use Rattle.std.proofs.lemmas.List.Folds.{find-append, list_any_more}
use Rattle.std.proofs.lemmas.List.FromFn.{fill_by_all, get_or-map-range_with_len, length-map-range_with_len}
use Rattle.std.proofs.lemmas.Grind.{flat_map-append}
use Rattle.wq_text.specs.LineText.{line_text}
use Rattle.wq_items.specs.declared.target.Target.{Target}
use Rattle.wq_items.specs.Table.{Table, IsTable, targets_of, flush_count, places}
use Rattle.wq_items.proofs.TableLemmas.{range_with_len-push}
use Rattle.wq_items.proofs.Ranks.{Differ, Differ-numbered}
use Rattle.wq_items.proofs.ReadingLemmas.{place_of}
use Rattle.wq_items.proofs.ReadingLists.{each-below, lists-each}
use Rattle.wq_cert.specs.Part.{has_unsure, unsure_at, unsure_line}
use Rattle.wq_cert.proofs.FirstFound.{find-nowhere, find-holds, find-passes}
use Rattle.wq_cert.proofs.LineLemmas.{lines, lines-push}

-- ---- all flushes with their items

-- a flush with its item
abbrev pub Owned : Type 0
Owned = ℕ × Target

abbrev pub own : ℕ → List Target → List Owned
own i targets = map (λ (t : Target). let f : ℕ × Target = (i, t) in f) targets

-- the flushes of these items
abbrev pub owned : List (List Target) → List ℕ → List Owned
owned waits items = flat_map (λ i. own i (targets_of waits i)) items

-- the flush is unsure, and at this place
abbrev pub stands_at : ℕ → Owned → Bool
stands_at q f = f.1.unsure && (f.1.place == q)

abbrev at : Owned → ℕ
at f = f.1.place

places-own : (i : ℕ) (ts : List Target) → map at (own i ts) ≡ map place_of ts
places-own i [] = refl
places-own i (t ∷ ts) = ap (λ (l : List ℕ). t.place ∷ l) (places-own i ts)

places-owned : (waits : List (List Target)) (items : List ℕ)
    → map at (owned waits items) ≡ places (map (targets_of waits) items)
places-owned waits [] = refl
places-owned waits (i ∷ items) =
    map-append at (own i (targets_of waits i)) (owned waits items)
    ∙ ap₂ (λ (l k : List ℕ). l ++ k) (places-own i (targets_of waits i)) (places-owned waits items)

range-split : (a i m : ℕ) → range_with_len a (i + m) ≡ range_with_len a i ++ range_with_len (a + i) m
range-split a zero m =
    let none : zero + m ≡ m = omega arith in
    let here : a ≡ a + 0 = omega arith in
    ap₂ (λ (b n : ℕ). range_with_len b n) here none
range-split a (suc i) m =
    let next : suc i + m ≡ suc (i + m) = omega arith in
    let there : (a + 1) + i ≡ a + suc i = omega arith in
    ap (range_with_len a) next
    ∙ ap (λ (l : List ℕ). a ∷ l) (range-split (a + 1) i m
    ∙ ap (λ (b : ℕ). range_with_len (a + 1) i ++ range_with_len b m) there)

module _ (waits : List (List Target)) (i : ℕ) (within : i < length waits) where
  -- those of the items before, the first k of item i, and others
  abbrev pub before : ℕ → List Owned
  before k = owned waits (range_with_len 0 i) ++ own i (take k (targets_of waits i))

  abbrev pub rest : ℕ → List Owned
  rest k = own i (drop (suc k) (targets_of waits i)) ++ owned waits (range_with_len (i + 1) (length waits - (i + 1)))

  own-split : (k : ℕ) (d : Target) → k < length (targets_of waits i)
      → own i (targets_of waits i) ≡ own i (take k (targets_of waits i)) ++
      ((i, get_or (targets_of waits i) k d) ∷ own i (drop (suc k) (targets_of waits i)))
  own-split k d lt =
      let ts : List Target = targets_of waits i in
      ap (own i) (sym (take-append-drop k ts) ∙ ap (λ (l : List Target). take k ts ++ l) (drop-cons ts k d lt))
      ∙ map-append (λ (t : Target). let f : ℕ × Target = (i, t) in f) (take k ts) (get_or ts k d ∷ drop (suc k) ts)

  pub owned-split : (k : ℕ) (d : Target) → k < length (targets_of waits i)
      → owned waits (range_with_len 0 (length waits)) ≡ before k ++ ((i, get_or (targets_of waits i) k d) ∷ rest k)
  owned-split k d lt =
      let ts : List Target = targets_of waits i in
      let f : ℕ × Target = (i, get_or ts k d) in
      let m : ℕ = length waits - (i + 1) in
      let first : List Owned = owned waits (range_with_len 0 i) in
      let last : List Owned = owned waits (range_with_len (i + 1) m) in
      let many : length waits ≡ i + suc m = omega arith in
      let from : 0 + i ≡ i = omega arith in
      let all : range_with_len 0 (length waits) ≡ range_with_len 0 i ++ (i ∷ range_with_len (i + 1) m) =
      ap (range_with_len 0) many ∙ range-split 0 i (suc m)
      ∙ ap (λ (b : ℕ). range_with_len 0 i ++ range_with_len b (suc m)) from in
      ap (owned waits) all ∙ flat_map-append (λ j. own j (targets_of waits j)) (range_with_len 0 i)
      (i ∷ range_with_len (i + 1) m)
      ∙ ap (λ (l : List Owned). first ++ (l ++ last)) (own-split k d lt)
      ∙ ap (λ (l : List Owned). first ++ l) (append_assoc (own i (take k ts)) (f ∷ own i (drop (suc k) ts)) last)
      ∙ sym (append_assoc first (own i (take k ts)) (f ∷ rest k))

-- where places differ, none before is at the same place
apart_before : (fs : List Owned) (f : Owned) (others : List Owned) → Differ (map at (fs ++ (f ∷ others)))
    → All (λ (g : Owned). stands_at f.1.place g ≡ false) fs
apart_before fs f others differ j d lt =
    let all : List Owned = fs ++ (f ∷ others) in
    let long : length all ≡ length fs + suc (length others) = length-append fs (f ∷ others) in
    let longer : length (map at all) ≡ length all = length-map all at in
    let g : Owned = get_or fs j d in
    let other : g.1.place ≡ f.1.place → ⊥ = λ e. differ j (length fs) 0 lt (omega arith) (
    get_or-map at all j d 0 (omega arith) ∙ ap at (get_or_append_left fs (f ∷ others) d j lt) ∙ e
    ∙ sym (get_or-map at all (length fs) d 0 (omega arith) ∙ ap at (get_or-append_seam fs f others d))) in
    ap (λ (b : Bool). g.1.unsure && b) (ne_eqb g.1.place f.1.place other) ∙ and-false g.1.unsure

pub fresh : (waits : List (List Target)) (i k : ℕ) (d : Target) (within : i < length waits)
    → k < length (targets_of waits i) → IsPermutation (range_with_len 0 (flush_count waits)) (places waits)
    → find (stands_at (get_or (targets_of waits i) k d).place) (before waits i within k) ≡ None
fresh waits i k d within lt numbered =
    let f : ℕ × Target = (i, get_or (targets_of waits i) k d) in
    let differ : Differ (places waits) = Differ-numbered (flush_count waits) (places waits) numbered in
    let same : places waits ≡ map at (before waits i within k ++ (f ∷ rest waits i within k)) =
    ap places (lists-each waits) ∙ sym (places-owned waits (range_with_len 0 (length waits)))
    ∙ ap (map at) (owned-split waits i within k d lt) in
    find-nowhere (stands_at f.1.place) (before waits i within k)
    (apart_before (before waits i within k) f (rest waits i within k) (subst Differ same differ))

-- ---- a list for all places

-- for each of so many places the first of these flushes that is unsure and stands there
pub record AreAt (count : ℕ) (those : List Owned) (flushes : List (Option Owned)) : Type 0 where
  pub len : length flushes ≡ count
  pub each : (q : ℕ) → q < count → get_or flushes q None ≡ find (stands_at q) those

or_none : (o : Option Owned) → option_or o None ≡ o
or_none None = refl
or_none (Some f) = refl

find-more : (q : ℕ) (those : List Owned) (f : Owned) → stands_at q f ≡ false
    → find (stands_at q) (those ++ (f ∷ [])) ≡ find (stands_at q) those
find-more q those f fails =
    find-append (stands_at q) those (f ∷ [])
    ∙ ap (λ (b : Bool). option_or (find (stands_at q) those) (cond b (Some f) None)) fails
    ∙ or_none (find (stands_at q) those)

pub AreAt-sure : (count : ℕ) (those : List Owned) (flushes : List (Option Owned)) (f : Owned) → f.1.unsure ≡ false
    → AreAt count those flushes → AreAt count (those ++ (f ∷ [])) flushes
AreAt-sure count those flushes f sure h = record {
  len = h.len;
  each = λ q within. h.each q within ∙ sym (find-more q those f (ap (λ (b : Bool). b && (f.1.place == q)) sure));
}

pub AreAt-unsure : (count : ℕ) (those : List Owned) (flushes : List (Option Owned)) (f : Owned) → f.1.unsure ≡ true
    → f.1.place < count → find (stands_at f.1.place) those ≡ None → AreAt count those flushes
    → AreAt count (those ++ (f ∷ [])) (set flushes f.1.place (Some f))
AreAt-unsure count those flushes f unsure within free h = record {
  len = length-set flushes f.1.place (Some f) ∙ h.len;
  each = λ q fits. elim (cases_eq f.1.place q) [
    | inl same ↦
        let here : get_or (set flushes f.1.place (Some f)) q None ≡ Some f =
        ap (λ (n : ℕ). get_or (set flushes f.1.place (Some f)) n None) (sym same)
        ∙ get_or-set_same flushes f.1.place (Some f) None (omega (arith, h.len)) in
        let stands : stands_at q f ≡ true = ap (λ (b : Bool). b && (f.1.place == q)) unsure ∙ eq-eqb f.1.place q same in
        let none : find (stands_at q) those ≡ None = ap (λ (n : ℕ). find (stands_at n) those) (sym same) ∙ free in
        here ∙ sym (find-append (stands_at q) those (f ∷ [])
        ∙ ap (λ (o : Option Owned). option_or o (find (stands_at q) (f ∷ []))) none
        ∙ ap (λ (b : Bool). cond b (Some f) None) stands)
    | inr other ↦
        let there : get_or (set flushes f.1.place (Some f)) q None ≡ get_or flushes q None =
        get_or-set_other flushes f.1.place q (Some f) None (λ e. other (sym e)) in
        let fails : stands_at q f ≡ false =
        ap (λ (b : Bool). f.1.unsure && b) (ne_eqb f.1.place q other) ∙ and-false f.1.unsure in
        there ∙ h.each q fits ∙ sym (find-more q those f fails)
  ];
}

-- one more flush of item i
own-more : (first : List Owned) (i : ℕ) (ts : List Target) (k : ℕ) (d : Target) → k < length ts
    → (first ++ own i (take k ts)) ++ ((i, get_or ts k d) ∷ []) ≡ first ++ own i (take (k + 1) ts)
own-more first i ts k d lt =
    let f : ℕ × Target = (i, get_or ts k d) in
    append_assoc first (own i (take k ts)) (f ∷ [])
    ∙ ap (λ (l : List Owned). first ++ l)
    (sym (ap (own i) (take_more ts k d lt) ∙ map-append (λ (t : Target). let f : ℕ × Target = (i, t) in
    f) (take k ts) (get_or ts k d ∷ [])))

module _ (waits : List (List Target)) (i k : ℕ) (d : Target) (flushes : List (Option Owned))
    (within : i < length waits) (lt : k < length (targets_of waits i)) where
  abbrev next : Target
  next = get_or (targets_of waits i) k d

  pub AreAt-next_sure : next.unsure ≡ false → AreAt (flush_count waits) (before waits i within k) flushes
      → AreAt (flush_count waits) (before waits i within (k + 1)) flushes
  AreAt-next_sure sure h =
      let f : ℕ × Target = (i, next) in
      subst (λ (l : List Owned). AreAt (flush_count waits) l flushes)
      (own-more (owned waits (range_with_len 0 i)) i (targets_of waits i) k d lt)
      (AreAt-sure (flush_count waits) (before waits i within k) flushes f sure h)

  pub AreAt-next_unsure : (o : Option Owned) → o ≡ Some (i, next) → next.unsure ≡ true
      → IsPermutation (range_with_len 0 (flush_count waits)) (places waits)
      → AreAt (flush_count waits) (before waits i within k) flushes
      → AreAt (flush_count waits) (before waits i within (k + 1)) (set flushes next.place o)
  AreAt-next_unsure o is unsure numbered h =
      let f : ℕ × Target = (i, next) in
      subst (λ (p : Option Owned). AreAt (flush_count waits) (before waits i within (k + 1))
      (set flushes next.place p)) (sym is) (
      subst (λ (l : List Owned). AreAt (flush_count waits) l (set flushes next.place (Some f)))
      (own-more (owned waits (range_with_len 0 i)) i (targets_of waits i) k d lt) (
      AreAt-unsure (flush_count waits) (before waits i within k) flushes f unsure
      (each-below waits i within numbered k d lt) (fresh waits i k d within lt numbered) h))

-- the same, as a loop over the items and their targets knows it
module _ (t : Table) (is : IsTable t) (i item k : ℕ) (ts : List Target) (u : Target) (within : i < length t.names)
    (own_item : item ≡ i) (own_targets : ts ≡ targets_of t.waits item) (lt : k < length ts) (this : u ≡ get_or ts k u)
  where
    own_are : ts ≡ targets_of t.waits i
    own_are = own_targets ∙ ap (targets_of t.waits) own_item

    in_waits : i < length t.waits
    in_waits = omega (arith, is.one_list_each)

    in_own : k < length (targets_of t.waits i)
    in_own = omega (arith, ap (λ (l : List Target). length l) own_are)

    next_is : get_or (targets_of t.waits i) k u ≡ u
    next_is = sym (this ∙ ap (λ (l : List Target). get_or l k u) own_are)

    pub place-below : u.place < flush_count t.waits
    place-below = subst (λ (v : Target). v.place < flush_count t.waits) next_is
        (each-below t.waits i in_waits is.places_are_numbered k u in_own)

    abbrev so_far : ℕ → List (Option Owned) → Type 0
    so_far n flushes = AreAt (flush_count t.waits) (owned t.waits (range_with_len 0 i) ++ own i (take n ts)) flushes

    with_own : (n : ℕ) (flushes : List (Option Owned))
        → AreAt (flush_count t.waits) (before t.waits i in_waits n) flushes → so_far n flushes
    with_own n flushes h =
        subst (λ (l : List Target). AreAt (flush_count t.waits) (owned t.waits (range_with_len 0 i) ++ own i (take n l))
        flushes) (sym own_are) h

    of_own : (n : ℕ) (flushes : List (Option Owned)) → so_far n flushes
        → AreAt (flush_count t.waits) (before t.waits i in_waits n) flushes
    of_own n flushes h = subst
        (λ (l : List Target). AreAt (flush_count t.waits) (owned t.waits (range_with_len 0 i) ++ own i (take n l))
        flushes) own_are h

    pub AreAt-sure_one : (flushes new : List (Option Owned)) → u.unsure ≡ false → new ≡ flushes → so_far k flushes
        → so_far (k + 1) new
    AreAt-sure_one flushes new sure same h =
        subst (so_far (k + 1)) (sym same)
        (with_own (k + 1) flushes
        (AreAt-next_sure t.waits i k u flushes in_waits in_own (ap (λ (v : Target). v.unsure) next_is
        ∙ sure) (of_own k flushes h)))

    pub AreAt-unsure_one : (flushes new : List (Option Owned)) → u.unsure ≡ true
        → new ≡ set flushes u.place (Some (item, u)) → so_far k flushes → so_far (k + 1) new
    AreAt-unsure_one flushes new unsure written h =
        let o : Option Owned = Some (item, u) in
        let is_next : o ≡ Some (i, get_or (targets_of t.waits i) k u) =
        ap₂ (λ (j : ℕ) (v : Target). let f : ℕ × Target = (j, v) in Some f) own_item (sym next_is) in
        let made : new ≡ set flushes (get_or (targets_of t.waits i) k u).place o =
        written ∙ ap (λ (v : Target). set flushes v.place o) (sym next_is) in
        subst (so_far (k + 1)) (sym made) (with_own (k + 1) (set flushes (get_or (targets_of t.waits i) k u).place o)
        (AreAt-next_unsure t.waits i k u flushes in_waits in_own o is_next (ap (λ (v : Target). v.unsure) next_is
        ∙ unsure) is.places_are_numbered (of_own k flushes h)))

-- and all flushes of one more item
pub AreAt-more : (t : Table) (i item k : ℕ) (ts : List Target) (flushes : List (Option Owned)) → item ≡ i
    → ts ≡ targets_of t.waits item → length ts ≤ k
    → AreAt (flush_count t.waits) (owned t.waits (range_with_len 0 i) ++ own i (take k ts)) flushes
    → AreAt (flush_count t.waits) (owned t.waits (range_with_len 0 (i + 1))) flushes
AreAt-more t i item k ts flushes own_item own_targets all h =
    let waits : List (List Target) = t.waits in
    let are : ts ≡ targets_of waits i = own_targets ∙ ap (targets_of waits) own_item in
    let first : List Owned = owned waits (range_with_len 0 i) in
    let same : first ++ own i (take k ts) ≡ owned waits (range_with_len 0 (i + 1)) =
    ap (λ (l : List Target). first ++ own i l) (take_all k ts all ∙ are)
    ∙ ap (λ (l : List Owned). first ++ l) (sym (append-nil (own i (targets_of waits i))))
    ∙ sym (ap (owned waits) (range_with_len-push i)
    ∙ flat_map-append (λ j. own j (targets_of waits j)) (range_with_len 0 i) (i ∷ [])) in
    subst (λ (l : List Owned). AreAt (flush_count waits) l flushes) same h

pub AreAt-all : (waits : List (List Target)) (n : ℕ) (flushes : List (Option Owned)) → n ≡ length waits
    → AreAt (flush_count waits) (owned waits (range_with_len 0 n)) flushes
    → flushes ≡ map (unsure_at waits) (range_with_len 0 (flush_count waits))
AreAt-all waits n flushes many h =
    let all : AreAt (flush_count waits) (owned waits (range_with_len 0 (length waits))) flushes =
    subst (λ (m : ℕ). AreAt (flush_count waits) (owned waits (range_with_len 0 m)) flushes) many h in
    fill_by_all (unsure_at waits) flushes (flush_count waits) None all.len all.each

-- ---- whether there is any

pub has_unsure-more : (waits : List (List Target)) (i item : ℕ) (ts : List Target) → i < length waits → item ≡ i
    → ts ≡ targets_of waits item → has_unsure (take i waits) ≡ false → list_any (λ (t : Target). t.unsure) ts ≡ false
    → has_unsure (take (i + 1) waits) ≡ false
has_unsure-more waits i item ts within own_item own_targets so_far fails =
    let are : ts ≡ targets_of waits i = own_targets ∙ ap (targets_of waits) own_item in
    list_any_more (λ (us : List Target). list_any (λ (t : Target). t.unsure) us) waits i [] within
    ∙ ap₂ (λ (a b : Bool). a || b) so_far (ap (list_any (λ (t : Target). t.unsure)) (sym are) ∙ fails)

-- ---- what is found

-- the flush is of an item, has an item as its target, and its place is one of all places
pub record IsOwned (waits : List (List Target)) (n : ℕ) (f : Owned) : Type 0 where
  pub item : f.0 < n
  pub target : f.1.item < n
  pub place : f.1.place < flush_count waits

module _ (t : Table) (is : IsTable t) where
  own-is : (i : ℕ) → i < length t.waits → All (IsOwned t.waits (length t.names)) (own i (targets_of t.waits i))
  own-is i within =
      let ts : List Target = targets_of t.waits i in
      All-map (IsOwned t.waits (length t.names)) (λ (t : Target). let f : ℕ × Target = (i, t) in
      f) ts (λ k d lt. record {
        item = omega (arith, is.one_list_each);
        target = is.targets_are_items i [] within k d lt;
        place = each-below t.waits i within is.places_are_numbered k d lt;
      })

  owned-are : (a m : ℕ) → a + m ≤ length t.waits
      → All (IsOwned t.waits (length t.names)) (owned t.waits (range_with_len a m))
  owned-are a zero few = All-nil (IsOwned t.waits (length t.names))
  owned-are a (suc m) few =
      All-append (IsOwned t.waits (length t.names)) (own a (targets_of t.waits a))
      (owned t.waits (range_with_len (a + 1) m)) (own-is a (omega arith)) (owned-are (a + 1) m (omega arith))

  pub unsure_at-is : (q : ℕ) (f : Owned) → unsure_at t.waits q ≡ Some f → IsOwned t.waits (length t.names) f
  unsure_at-is q f e =
      find-holds (stands_at q) (IsOwned t.waits (length t.names)) (owned t.waits (range_with_len 0 (length t.waits)))
      f (owned-are 0 (length t.waits) (omega arith)) e

  and_second : (a b : Bool) → (a && b) ≡ true → b ≡ true
  and_second true b e = e
  and_second false b e = absurd cc

  unsure_at-place : (q : ℕ) (f : Owned) → unsure_at t.waits q ≡ Some f → f.1.place ≡ q
  unsure_at-place q f e =
      eqb-true f.1.place q (and_second f.1.unsure (f.1.place == q)
      (find-passes (stands_at q) (owned t.waits (range_with_len 0 (length t.waits))) f e))

  unsure_at-past : (q : ℕ) → flush_count t.waits ≤ q → None ≡ unsure_at t.waits q
  unsure_at-past q far = by (unsure_at t.waits q) refl
    where
      by : (o : Option Owned) → unsure_at t.waits q ≡ o → None ≡ o
      by None e = refl
      by (Some f) e =
          let place : f.1.place < flush_count t.waits = (unsure_at-is q f e).place in
          absurd (omega (arith, unsure_at-place q f e))

  -- what the list has at any place
  pub at_place-is : (flushes : List (Option Owned)) (q : ℕ)
      → flushes ≡ map (unsure_at t.waits) (range_with_len 0 (flush_count t.waits))
      → get_or flushes q None ≡ unsure_at t.waits q
  at_place-is flushes q are =
      let count : ℕ = flush_count t.waits in
      elim (cases_lt q count) [
        | inl fits ↦ ap (λ (l : List (Option Owned)). get_or l q None) are
            ∙ get_or-map-range_with_len (unsure_at t.waits) 0 count q q None fits (omega arith)
        | inr far ↦
            get_or_past flushes q None
            (omega (
              arith,
              ap (λ (l : List (Option Owned)). length l) are,
              length-map-range_with_len
                  (unsure_at t.waits) 0 count,
            )) ∙ unsure_at-past q far
      ]

-- ---- lines

module _ (names : List (List ℕ)) (waits : List (List Target)) (kept : List ℕ) (k : ℕ) (out : List ℕ)
    (within : k < length kept) where
  abbrev those : ℕ → List Owned
  those n = filter_map (unsure_at waits) (take n kept)

  those-more : (o : Option Owned) → unsure_at waits (get_or kept k 0) ≡ o → those (k + 1) ≡ those k ++ cons_option o []
  those-more o is =
      ap (filter_map (unsure_at waits)) (take_more kept k 0 within)
      ∙ filter_map-append (unsure_at waits) (take k kept) (get_or kept k 0 ∷ [])
      ∙ ap (λ (o : Option Owned). those k ++ cons_option o []) is

  pub unsure_lines-more : (now : List ℕ) (f : Owned) → unsure_at waits (get_or kept k 0) ≡ Some f
      → now ≡ out ++ lines (unsure_line names) (those k)
      → now ++ line_text (unsure_line names f) ≡ out ++ lines (unsure_line names) (those (k + 1))
  unsure_lines-more now f is so_far =
      ap (λ (l : List ℕ). l ++ line_text (unsure_line names f)) so_far ∙ lines-push (unsure_line names) out (those k) f
      ∙ ap (λ (l : List Owned). out ++ lines (unsure_line names) l) (sym (those-more (Some f) is))

  pub unsure_lines-same : (now : List ℕ) → unsure_at waits (get_or kept k 0) ≡ None
      → now ≡ out ++ lines (unsure_line names) (those k) → now ≡ out ++ lines (unsure_line names) (those (k + 1))
  unsure_lines-same now is so_far =
      so_far ∙ ap (λ (l : List Owned). out ++ lines (unsure_line names) l)
      (sym (those-more None is ∙ append-nil (those k)))
