-- What each step of building a table keeps.
use Rattle.std.proofs.Common.{◌≡◌, ◌≢◌, ℕ, zero, suc, ◌+◌, ◌<◌, ◌≤◌, Bool, ltb, List, [], ◌∷◌, ◌++◌, length, map}
use Rattle.std.proofs.Common.{get_or, set, Option, Some, None, refl, sym, ap, subst, ◌∙◌, arith, IsTrue, append_assoc}
use Rattle.std.proofs.Common.{append-nil, ltb-false}
use Rattle.std.specs.Prelude.{bytes_eq, IsPermutation}
use Rattle.std.specs.List.{All, range_with_len, position_or_len}
use Rattle.std.proofs.lemmas.Bool.{both_ways}
use Rattle.std.proofs.lemmas.List.{length_push, length-set, length-append, map-append}
use Rattle.std.proofs.lemmas.List.Concat.{flat_map-append}
use Rattle.std.proofs.lemmas.List.Elements.{All-nil, All-cons, All-push, All-set, All-append, All-weaker, All-get_or}
use Rattle.std.proofs.lemmas.List.Quantifiers.{all_pairs_push, position-Some}
use Rattle.std.proofs.lemmas.List.Sorted.{IsPermutation-refl, IsPermutation-append_left, IsPermutation-append_right}
use Rattle.std.proofs.lemmas.List.Sorted.{IsPermutation-append_comm, IsPermutation-trans}
use Rattle.std.proofs.lemmas.List.Sums.{sum_by_push, sum_by-set, fails_before_first}
use Rattle.std.proofs.lemmas.Slice.Eq.{bytes_eq-Decides}
use Rattle.wq_text.specs.Words.{WordView}
use Rattle.wq_decl.specs.Names.{is_name}
use Rattle.wq_items.specs.declared.target.Kind.{Kind}
use Rattle.wq_items.specs.declared.target.Target.{Target}
use Rattle.wq_items.specs.Table.{Table, IsTable, TargetsBelow, PlacesRise, item_named, targets_of, flush_count, places}
use Rattle.wq_items.specs.Building.{empty_table, span_of, with_item, with_flushes, targets_from, and_item, items_named}
use Rattle.wq_items.proofs.FoundNames.{none_is}
use Rattle.wq_items.proofs.PlaceLemmas.{PlacesRise-set}

-- ---- names

-- a name that isn't found differs from each name that is there
pub differs-from-item_named : (names : List (List ℕ)) (name : List ℕ) → item_named names name ≡ None
    → (k : ℕ) (d : List ℕ) → k < length names → get_or names k d ≢ name
differs-from-item_named names name none k d lt same =
    let p : List ℕ → Bool = bytes_eq name in
    let past = ltb-false (position_or_len p names) (length names)
    (none_is (ltb (position_or_len p names) (length names)) (position_or_len p names) none) in
    both_ways (p (get_or names k d)) (fails_before_first p names k d (omega arith))
    ((bytes_eq-Decides name (get_or names k d)).1 (sym same))

-- ---- counts

pub length-targets_from : (kind : Kind) (place : ℕ) (items : List ℕ)
    → length (targets_from kind place items) ≡ length items
length-targets_from kind place [] = refl
length-targets_from kind place (item ∷ items) = ap suc (length-targets_from kind (place + 1) items)

pub flush_count-with_item : (t : Table) (name : WordView) → flush_count (with_item t name).waits ≡ flush_count t.waits
flush_count-with_item t name = omega (arith, sum_by_push {X = List Target} length t.waits [])

pub flush_count-with_flushes : (t : Table) (kind : Kind) (i : ℕ) (items : List ℕ) → i < length t.waits
    → flush_count (with_flushes t kind i items).waits ≡ flush_count t.waits + length items
flush_count-with_flushes t kind i items lt =
    let more : List Target = targets_from kind (flush_count t.waits) items in
    omega (
      arith,
      sum_by-set {X = List Target} length t.waits i (targets_of t.waits i ++ more) [] lt,
      length-append (targets_of t.waits i) more,
      length-targets_from kind (flush_count t.waits) items,
    )

-- ---- places

pub range_with_len-append : (a m n : ℕ) → range_with_len a (m + n) ≡ range_with_len a m ++ range_with_len (a + m) n
range_with_len-append a zero n =
    let long : zero + n ≡ n = omega arith in
    let start : a ≡ a + zero = omega arith in
    ap (range_with_len a) long ∙ ap (λ (b : ℕ). range_with_len b n) start
range_with_len-append a (suc m) n =
    let long : suc m + n ≡ suc (m + n) = omega arith in
    let start : (a + 1) + m ≡ a + suc m = omega arith in
    ap (range_with_len a) long ∙ ap (λ (l : List ℕ). a ∷ l) (range_with_len-append (a + 1) m n
    ∙ ap (λ (b : ℕ). range_with_len (a + 1) m ++ range_with_len b n) start)

pub range_with_len-push : (n : ℕ) → range_with_len 0 (n + 1) ≡ range_with_len 0 n ++ (n ∷ [])
range_with_len-push n =
    let end : 0 + n ≡ n = omega arith in
    range_with_len-append 0 n 1 ∙ ap (λ k. range_with_len 0 n ++ range_with_len k 1) end

pub places-targets_from : (kind : Kind) (place : ℕ) (items : List ℕ)
    → map (λ (t : Target). t.place) (targets_from kind place items) ≡ range_with_len place (length items)
places-targets_from kind place [] = refl
places-targets_from kind place (item ∷ items) = ap (λ (l : List ℕ). place ∷ l)
    (places-targets_from kind (place + 1) items)

pub places-push_nil : (waits : List (List Target)) → places (waits ++ ([] ∷ [])) ≡ places waits
places-push_nil waits = flat_map-append (λ (targets : List Target). map (λ (t : Target). t.place) targets) waits
    ([] ∷ []) ∙ append-nil (places waits)

-- the places of more targets of item i are added to the others
pub places-set : (waits : List (List Target)) (i : ℕ) (more : List Target) → i < length waits
    → IsPermutation (places waits ++ map (λ (t : Target). t.place) more)
    (places (set waits i (get_or waits i [] ++ more)))
places-set [] i more lt = absurd (omega arith)
places-set (w ∷ ws) zero more lt =
    let place_of : Target → ℕ = λ (t : Target). t.place in
    let own : List ℕ = map place_of w in
    let added : List ℕ = map place_of more in
    subst (λ (l : List ℕ). IsPermutation ((own ++ places ws) ++ added) (l ++ places ws))
    (sym (map-append place_of w more)) (
    subst (λ (l : List ℕ). IsPermutation l ((own ++ added) ++ places ws)) (sym (append_assoc own (places ws) added)) (
    subst (λ (l : List ℕ). IsPermutation (own ++ (places ws ++ added)) l) (sym (append_assoc own added (places ws))) (
    IsPermutation-append_right own (places ws ++ added) (added ++ places ws)
    (IsPermutation-append_comm (places ws) added)
    )
    )
    )
places-set (w ∷ ws) (suc i) more lt =
    let place_of : Target → ℕ = λ (t : Target). t.place in
    let own : List ℕ = map place_of w in
    let added : List ℕ = map place_of more in
    subst (λ (l : List ℕ). IsPermutation l (own ++ places (set ws i (get_or ws i [] ++ more))))
    (sym (append_assoc own (places ws) added)) (
    IsPermutation-append_right own (places ws ++ added) (places (set ws i (get_or ws i [] ++ more)))
    (places-set ws i more (omega arith))
    )

-- ---- targets

pub TargetsBelow-weaker : (m n : ℕ) → m ≤ n → (waits : List (List Target)) → All (TargetsBelow m) waits
    → All (TargetsBelow n) waits
TargetsBelow-weaker m n le waits h =
    All-weaker (TargetsBelow m) (TargetsBelow n) (λ (l : List Target) (k : TargetsBelow m l). All-weaker
    (λ (t : Target). t.item < m) (λ (t : Target). t.item < n) (λ (t : Target) (b : t.item < m). omega arith) l k)
    waits h

pub TargetsBelow-targets_from : (n : ℕ) (kind : Kind) (place : ℕ) (items : List ℕ) → All (λ (j : ℕ). j < n) items
    → TargetsBelow n (targets_from kind place items)
TargetsBelow-targets_from n kind place [] h = All-nil (λ (t : Target). t.item < n)
TargetsBelow-targets_from n kind place (item ∷ items) h =
    All-cons (λ (t : Target). t.item < n) (record {
      item = item;
      whole = kind.whole;
      unsure = kind.unsure;
      place = place;
    }) (targets_from kind (place + 1) items) (h 0 0 (omega arith)) (
    TargetsBelow-targets_from n kind (place + 1) items (λ k d lt. h (suc k) d (omega arith))
    )

targets_of-below : (n : ℕ) (waits : List (List Target)) (i : ℕ) → i < length waits → All (TargetsBelow n) waits
    → TargetsBelow n (targets_of waits i)
targets_of-below n waits i lt h = All-get_or (TargetsBelow n) waits i [] lt h

-- ---- what holds for every table

pub IsTable-empty : IsTable empty_table
IsTable-empty = record {
  one_span_each = refl;
  one_list_each = refl;
  few_items = omega arith;
  named = All-nil (λ (name : List ℕ). IsTrue (is_name name));
  distinct = λ i j d lt within. absurd (omega arith);
  targets_are_items = All-nil (TargetsBelow 0);
  few_flushes = omega arith;
  places_are_numbered = IsPermutation-refl [];
  places_rise = All-nil PlacesRise;
}

pub IsTable-with_item : (t : Table) (name : WordView) → IsTable t → item_named t.names name.bytes ≡ None
    → length t.names < 4096 → IsTrue (is_name name.bytes) → IsTable (with_item t name)
IsTable-with_item t name h none room is =
    let n : ℕ = length (t.names ++ (name.bytes ∷ [])) in
    let more : n ≡ length t.names + 1 = length_push t.names name.bytes in
    let count : flush_count (t.waits ++ ([] ∷ [])) ≡ flush_count t.waits = flush_count-with_item t name in
    record {
      one_span_each = omega (arith, length_push t.spans (span_of name), more, h.one_span_each);
      one_list_each = omega (arith, length_push {X = List Target} t.waits [], more, h.one_list_each);
      few_items = omega arith;
      named = All-push (λ (name : List ℕ). IsTrue (is_name name)) t.names name.bytes h.named is;
      distinct = all_pairs_push (λ (a b : List ℕ). a ≢ b) t.names name.bytes h.distinct
          (differs-from-item_named t.names name.bytes none);
      targets_are_items = All-push (TargetsBelow n) t.waits []
          (TargetsBelow-weaker (length t.names) n (omega arith) t.waits h.targets_are_items)
          (All-nil (λ (t : Target). t.item < n));
      few_flushes = omega (arith, h.few_flushes, count);
      places_are_numbered =
          subst (λ (c : ℕ). IsPermutation (range_with_len 0 c) (places (t.waits ++ ([] ∷ [])))) (sym count) (
          subst (λ (l : List ℕ). IsPermutation (range_with_len 0 (flush_count t.waits)) l)
          (sym (places-push_nil t.waits)) h.places_are_numbered
          );
      places_rise = All-push PlacesRise t.waits [] h.places_rise (λ k within. absurd (omega arith));
    }

pub IsTable-with_flushes : (t : Table) (kind : Kind) (i : ℕ) (items : List ℕ) → IsTable t → i < length t.names
    → All (λ (j : ℕ). j < length t.names) items → flush_count t.waits + length items ≤ 16384
    → IsTable (with_flushes t kind i items)
IsTable-with_flushes t kind i items h lt below room =
    let count : ℕ = flush_count t.waits in
    let within : i < length t.waits = omega (arith, h.one_list_each) in
    let added : List Target = targets_from kind count items in
    let targets : List Target = targets_of t.waits i ++ added in
    let after : flush_count (set t.waits i targets) ≡ count + length items =
    flush_count-with_flushes t kind i items within in
    record {
      one_span_each = h.one_span_each;
      one_list_each = length-set t.waits i targets ∙ h.one_list_each;
      few_items = h.few_items;
      named = h.named;
      distinct = h.distinct;
      targets_are_items =
          All-set (TargetsBelow (length t.names)) t.waits i targets (
          All-append (λ (t' : Target). t'.item < length t.names) (targets_of t.waits i) added
          (targets_of-below (length t.names) t.waits i within h.targets_are_items) (
          TargetsBelow-targets_from (length t.names) kind count items below
          )
          ) h.targets_are_items;
      few_flushes = omega (arith, after);
      places_are_numbered =
          subst (λ (c : ℕ). IsPermutation (range_with_len 0 c) (places (set t.waits i targets))) (sym after) (
          subst (λ (l : List ℕ). IsPermutation l (places (set t.waits i targets)))
          (sym (range_with_len-append 0 count (length items))) (
          IsPermutation-trans (range_with_len 0 count ++ range_with_len (0 + count) (length items))
          (places t.waits ++ map (λ (t : Target). t.place) added) (places (set t.waits i targets)) (
          IsPermutation-both count (length items) (places t.waits) (map (λ (t : Target). t.place) added)
          h.places_are_numbered (places-targets_from kind count items)
          ) (places-set t.waits i added within)
          )
          );
      places_rise = PlacesRise-set count t.waits i (length items) added within h.places_are_numbered
          (places-targets_from kind count items) h.places_rise;
    }
  where
    IsPermutation-both : (m n : ℕ) (old new : List ℕ) → IsPermutation (range_with_len 0 m) old
        → new ≡ range_with_len m n → IsPermutation (range_with_len 0 m ++ range_with_len (0 + m) n) (old ++ new)
    IsPermutation-both m n old new p e =
        let start : 0 + m ≡ m = omega arith in
        subst (λ (l : List ℕ). IsPermutation (range_with_len 0 m ++ l) (old ++ new))
        (e ∙ ap (λ (k : ℕ). range_with_len k n) (sym start)) (
        IsPermutation-append_left new (range_with_len 0 m) old p
        )

-- ---- items that are named

-- both are there, and the items are one and then the others
pub record Parts (a : Option ℕ) (b : Option (List ℕ)) (items : List ℕ) : Type 0 where
  pub item : ℕ
  pub others : List ℕ
  pub first : a ≡ Some item
  pub rest : b ≡ Some others
  pub whole : items ≡ item ∷ others

pub parts : (a : Option ℕ) (b : Option (List ℕ)) (items : List ℕ) → and_item a b ≡ Some items → Parts a b items
parts None b items e = absurd cc
parts (Some i) None items e = absurd cc
parts (Some i) (Some others) items e = record { item = i; others = others; first = refl; rest = refl; whole = cc }

pub item_named-below : (names : List (List ℕ)) (name : List ℕ) (i : ℕ) → item_named names name ≡ Some i
    → i < length names
item_named-below names name i e = (position-Some (bytes_eq name) names i [] e).0

pub items_named-below : (names : List (List ℕ)) (words : List WordView) (items : List ℕ)
    → items_named names words ≡ Some items → All (λ (j : ℕ). j < length names) items
items_named-below names [] items e = let is : items ≡ [] = cc in subst (All (λ (j : ℕ). j < length names)) (sym is)
    (All-nil (λ (j : ℕ). j < length names))
items_named-below names (word ∷ words) items e =
    let p = parts (item_named names word.bytes) (items_named names words) items e in
    subst (All (λ (j : ℕ). j < length names)) (sym p.whole) (
    All-cons (λ (j : ℕ). j < length names) p.item p.others (item_named-below names word.bytes p.item p.first)
    (items_named-below names words p.others p.rest)
    )

pub length-items_named : (names : List (List ℕ)) (words : List WordView) (items : List ℕ)
    → items_named names words ≡ Some items → length items ≡ length words
length-items_named names [] items e = let is : items ≡ [] = cc in ap length is
length-items_named names (word ∷ words) items e =
    let p = parts (item_named names word.bytes) (items_named names words) items e in
    ap length p.whole ∙ ap suc (length-items_named names words p.others p.rest)
